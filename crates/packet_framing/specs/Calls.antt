-- The calls of one decoder, in order.
use Rattle.std.specs.Prelude.{◌≡◌, ℕ, List, [], ◌∷◌, ◌++◌}
use Rattle.packet_framing.specs.Decoder.{Gives}
use Rattle.packet_framing.specs.Packets.{after_first}
use Rattle.packet_framing.specs.declared.decoder.Next.{Next}
use Rattle.packet_framing.specs.declared.decoder.Next.TheVariants.{Packet, NotYet, BadHeader}

-- a piece was fed, or `next` was called and answered
pub data Call : Type 0 where
  fed : List ℕ → Call
  answered : Next → Call

-- each call does what `feed` and `next` ensure, from the octets kept at first to those kept at last
abbrev pub Runs : List ℕ → List Call → List ℕ → Type 0
Runs kept [] last = last ≡ kept
Runs kept (fed piece ∷ calls) last = Runs (kept ++ piece) calls last
Runs kept (answered next ∷ calls) last = Gives kept next × Runs (after_first kept) calls last

-- all pieces fed, joined
abbrev pub all_fed : List Call → List ℕ
all_fed [] = []
all_fed (fed piece ∷ calls) = piece ++ all_fed calls
all_fed (answered _ ∷ calls) = all_fed calls

-- the payload that an answer gave, if it gave one
abbrev pub given_by : Next → List (List ℕ)
given_by (Packet payload) = payload.now ∷ []
given_by NotYet = []
given_by BadHeader = []

-- all payloads given, in order
abbrev pub all_given : List Call → List (List ℕ)
all_given [] = []
all_given (fed _ ∷ calls) = all_given calls
all_given (answered next ∷ calls) = given_by next ++ all_given calls
