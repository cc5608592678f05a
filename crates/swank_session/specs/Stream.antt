-- The messages of a stream of octets, as a function: each text spells one form or has one fault.
use Rattle.std.specs.Prelude.{ℕ, zero, suc, Bool, true, false, List, [], map, codes, ◌⊎◌}
use Rattle.std.specs.Str.{chars, is_utf8}
use Rattle.std.proofs.Common.{inl, inr}
use Rattle.sexp_reader.specs.Names.{fault_name}
use Rattle.inlet.specs.Messages.{message_or_unknown}
use Rattle.lisp_data.specs.declared.sexp.Sexp.{Sexp}
use Rattle.packet_framing.specs.Packets.{after_first, packets}
use Rattle.rpc_messages.specs.Cut.{cut}
use Rattle.rpc_messages.specs.Incoming.{message_in}
use Rattle.rpc_messages.specs.declared.from_emacs.FromEmacs.{FromEmacs}
use Rattle.rpc_messages.specs.declared.from_emacs.FromEmacs.TheVariants.{Unreadable}
use Rattle.sexp_reader.specs.Faults.{IsFault}
use Rattle.sexp_reader.specs.Grammar.{IsSpelled}
use Rattle.sexp_reader.specs.declared.fault.ReadFault.{ReadFault}
use Rattle.sexp_reader.proofs.Total.{one-or-fault}

-- what a text is: a form, or what has a fault
abbrev pub Reading : List ℕ → Type 0
Reading text = ((form : Sexp) × IsSpelled text form) ⊎ ((fault : ReadFault) × IsFault text fault)

abbrev pub message_read : {text : List ℕ} → List ℕ → Reading text → FromEmacs
message_read payload (inl found) = message_or_unknown payload (message_in found.0)
message_read payload (inr broken) = Unreadable (cut payload) (fault_name broken.0)

abbrev pub message_if_text : List ℕ → Bool → FromEmacs
message_if_text payload true = message_read payload (one-or-fault (chars payload))
message_if_text payload false = Unreadable [] (codes "Not UTF-8")

-- the message of a payload: that of its form, or what is wrong with it
unfoldable pub message_of : List ℕ → FromEmacs
message_of payload = message_if_text payload (is_utf8 payload)

-- the messages of a stream: those of the payloads of its whole packets, in order
abbrev pub messages : List ℕ → List FromEmacs
messages octets = map message_of (packets octets).payloads

-- the octets behind the first so many packets
abbrev pub behind : ℕ → List ℕ → List ℕ
behind zero octets = octets
behind (suc n) octets = behind n (after_first octets)
