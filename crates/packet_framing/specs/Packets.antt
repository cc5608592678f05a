-- The packets of a stream of octets, as SLIME's swank/rpc.lisp reads them (`read-packet`, `parse-header`).
use Rattle.std.specs.Prelude.{◌≡◌, ℕ, zero, suc, ◌+◌, ◌*◌, ◌≤◌, nat_le, if◌then◌else◌, List, [], ◌∷◌, ◌++◌, length, slice_index, take, drop, Option, Some, None, Result, Ok, Err}
use Rattle.std.specs.List.{AllPass}
use Rattle.hex.specs.Hex.{decode_sized, is_hex_digit}
use Rattle.hex.specs.declared.error.FromHexError.{FromHexError}

-- the number of three octets, the highest first
abbrev pub number_of : List ℕ → ℕ
number_of octets = slice_index octets 0 * 65536 + slice_index octets 1 * 256 + slice_index octets 2

-- the number that was read, if one was
abbrev pub number_if_read : Result (List ℕ) FromHexError → Option ℕ
number_if_read (Ok octets) = Some (number_of octets)
number_if_read (Err _) = None

-- the length that a header gives: the value of six hexadecimal digits of either case, and None for all other octets
unfoldable pub header_value : List ℕ → Option ℕ
header_value digits = number_if_read (decode_sized digits 3)

-- the payload of a given length at the front of the octets after a header, and what follows it; None where there are fewer octets
abbrev pub payload_of : List ℕ → Option ℕ → Option (List ℕ × List ℕ)
payload_of octets None = None
payload_of octets (Some n) = if nat_le n (length octets) then Some (take n octets, drop n octets) else None

-- the payload of the packet at the front, and the octets after that packet; None where no whole packet stands there
unfoldable pub first_packet : List ℕ → Option (List ℕ × List ℕ)
first_packet octets = payload_of (drop 6 octets) (header_value (take 6 octets))

-- the octets after a packet that was taken from their front; all of them where none was
abbrev pub rest_of : List ℕ → Option (List ℕ × List ℕ) → List ℕ
rest_of octets None = octets
rest_of octets (Some taken) = taken.1

-- the octets after the packet at the front; all of them where no whole packet stands there
abbrev pub after_first : List ℕ → List ℕ
after_first octets = rest_of octets (first_packet octets)

-- the octets begin with six that are not all hexadecimal digits
pub record IsBad (octets : List ℕ) : Type 0 where
  pub six : 6 ≤ length octets
  pub not_digits : ¬ AllPass is_hex_digit (take 6 octets)

-- the octets begin with neither a whole packet nor a bad header
pub record IsUnfinished (octets : List ℕ) : Type 0 where
  pub no_packet : first_packet octets ≡ None
  pub not_bad : ¬ IsBad octets

-- a stream taken apart: the payloads of its packets in order, and the octets after the last of them
pub record Split : Type 0 where
  pub payloads : List (List ℕ)
  pub rest : List ℕ

-- the stream goes on, as `split` says, after a packet at its front; without one all of it is the rest
abbrev pub split_after : (List ℕ → Split) → List ℕ → Option (List ℕ × List ℕ) → Split
split_after split octets None = record { payloads = []; rest = octets }
split_after split octets (Some taken) = record { payloads = taken.0 ∷ (split taken.1).payloads; rest = (split taken.1).rest }

-- the stream taken apart up to a number of packets
unfoldable pub packets_up_to : ℕ → List ℕ → Split
packets_up_to zero octets = record { payloads = []; rest = octets }
packets_up_to (suc n) octets = split_after (packets_up_to n) octets (first_packet octets)

-- the payloads of the whole packets, one after another from the front, and the rest; there are no more packets than octets
abbrev pub packets : List ℕ → Split
packets octets = packets_up_to (length octets) octets

-- a split whose stream had further payloads before it
abbrev pub after_payloads : List (List ℕ) → Split → Split
after_payloads payloads split = record { payloads = payloads ++ split.payloads; rest = split.rest }
