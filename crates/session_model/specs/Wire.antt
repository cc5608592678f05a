-- The octets of messages to Emacs: each one's printed form in its packet.
use Rattle.std.specs.Prelude.{ℕ, List, map}
use Rattle.packet_framing.specs.Frames as packets
use Rattle.rpc_messages.specs.Outgoing.{form_of}
use Rattle.rpc_messages.specs.declared.to_emacs.ToEmacs.{ToEmacs}
use Rattle.sexp_printer.specs.Printed.{printed}

-- the text of a message
abbrev pub text_of : ToEmacs → List ℕ
text_of m = printed (form_of m)

-- the packets of messages, one after another
abbrev pub frames : List ToEmacs → List ℕ
frames ms = packets.frames (map text_of ms)
