-- The messages of payloads, as `read-message` of SLIME's `swank/rpc.lisp` reads them.
use Rattle.std.specs.Prelude.{◌≡◌, ℕ, List, [], ◌∷◌, codes, Option, Some, None}
use Rattle.std.specs.Str.{chars, IsUtf8}
use Rattle.sexp_reader.specs.Names.{fault_name}
use Rattle.lisp_data.specs.declared.sexp.Sexp.{Sexp}
use Rattle.packet_framing.specs.Packets.{first_packet, packets}
use Rattle.rpc_messages.specs.Cut.{cut}
use Rattle.rpc_messages.specs.Incoming.{message_in}
use Rattle.rpc_messages.specs.declared.from_emacs.FromEmacs.{FromEmacs}
use Rattle.rpc_messages.specs.declared.from_emacs.FromEmacs.TheVariants.{Unreadable}
use Rattle.sexp_reader.specs.Faults.{IsFault}
use Rattle.sexp_reader.specs.Grammar.{IsSpelled}
use Rattle.sexp_reader.specs.declared.fault.ReadFault.{ReadFault}

-- the message of a packet that was read, or that its form is no message
abbrev pub message_or_unknown : List ℕ → Option FromEmacs → FromEmacs
message_or_unknown packet (Some message) = message
message_or_unknown packet None = Unreadable (cut packet) (codes "Unknown message")

-- the message of a payload: that of its form, or what is wrong with it and the payload's text, cut where it is long
pub data IsMessageOf (payload : List ℕ) : FromEmacs → Type 0 where
  is_no_text : ¬ IsUtf8 payload → IsMessageOf payload (Unreadable [] (codes "Not UTF-8"))
  is_no_form : (fault : ReadFault) → IsUtf8 payload → IsFault (chars payload) fault → IsMessageOf payload (Unreadable (cut payload) (fault_name fault))
  is_form : (form : Sexp) → IsUtf8 payload → IsSpelled (chars payload) form → IsMessageOf payload (message_or_unknown payload (message_in form))

-- the message of the packet at the front, and the octets after it
pub record Takes (octets rest : List ℕ) (message : FromEmacs) : Type 0 where
  pub payload : List ℕ
  pub front : first_packet octets ≡ Some (payload, rest)
  pub is : IsMessageOf payload message

-- the messages of some payloads, in order
pub data AreMessagesOf : List (List ℕ) → List FromEmacs → Type 0 where
  none : AreMessagesOf [] []
  next : (payload : List ℕ) (message : FromEmacs) (payloads : List (List ℕ)) (messages : List FromEmacs)
      → IsMessageOf payload message → AreMessagesOf payloads messages → AreMessagesOf (payload ∷ payloads) (message ∷ messages)

-- the messages of a stream: those of the payloads of its packets
abbrev pub AreMessages : List ℕ → List FromEmacs → Type 0
AreMessages octets messages = AreMessagesOf (packets octets).payloads messages
