-- What a decoder gives, and what it keeps once a payload that it lent is given back.
use Rattle.std.specs.Prelude.{◌≡◌, ℕ, List, ⊤, Some}
use Rattle.std.specs.Borrow.{follows_so, MutBor, Fml}
use mathlib.Core.Option.{none}
use Rattle.packet_framing.specs.Packets.{first_packet, after_first, IsBad, IsUnfinished}
use Rattle.packet_framing.specs.declared.decoder.Decoder.{Decoder}
use Rattle.packet_framing.specs.declared.decoder.Next.{Next}
use Rattle.packet_framing.specs.declared.decoder.Next.TheVariants.{Packet, NotYet, BadHeader}
use Rattle.packet_framing.specs.contracts.decoder.Decoder.{the_row}

-- the payload of the packet at the front, or which fault stands there
abbrev pub Gives : List ℕ → Next → Type 0
Gives kept (Packet payload) = first_packet kept ≡ Some (payload.now, after_first kept)
Gives kept NotYet = IsUnfinished kept
Gives kept BadHeader = IsBad kept

-- the decoder ends with the octets after the packet at the front, and unchanged where no whole packet stands there
abbrev pub PassesFirst : MutBor Decoder → Fml
PassesFirst decoder = follows_so the_row the_row decoder.ghost_name none (λ _ _. ⊤) (λ new. new ≡ after_first decoder.now)
