-- What stands at the front of some octets.
use Rattle.std.specs.Prelude.{◌≡◌, ℕ, ◌+◌, ◌<◌, ◌≤◌, List, length, take, drop, Some, None}
use Rattle.packet_framing.specs.Packets.{first_packet, IsBad, IsUnfinished}
use Rattle.packet_framing.specs.declared.decoder.Front.{Front}
use Rattle.packet_framing.specs.declared.decoder.Front.TheVariants.{Packet, NotYet, BadHeader}

-- a whole packet with a payload of so many octets, an unfinished one, or a bad header
abbrev pub IsFront : List ℕ → Front → Type 0
IsFront octets (Packet n) = (6 + n ≤ length octets) × (first_packet octets ≡ Some (take n (drop 6 octets), drop (6 + n) octets)) × (¬ IsBad octets)
IsFront octets NotYet = IsUnfinished octets × (length octets < 6 + 0xFFFFFF)
IsFront octets BadHeader = (first_packet octets ≡ None) × IsBad octets
