-- What a call takes of the octets that are kept, and what a read adds to them.
use Rattle.std.specs.Prelude.{◌≡◌, ℕ, ◌+◌, ◌<◌, ◌≤◌, Bool, true, false, List, [], ◌++◌, length, Option, IsSome}
use Rattle.outside_traits.specs.Told.{BothTold}
use Rattle.packet_framing.specs.Packets.{first_packet, after_first, IsBad, IsUnfinished}
use Rattle.inlet.specs.Messages.{Takes}
use Rattle.inlet.specs.declared.pumping.Fed.{Fed}
use Rattle.inlet.specs.declared.pumping.Fed.TheVariants as fed
use Rattle.inlet.specs.declared.pumping.Held.{Held}
use Rattle.inlet.specs.declared.pumping.Held.TheVariants.{Message, NotYet, BadHeader, NoMemory}

-- the message of the packet at the front, or what stands there
abbrev pub AnswersKept : List ℕ → List ℕ → Held → Type 0
AnswersKept old new (Message message) = Takes old new message
AnswersKept old new NotYet = IsUnfinished old × (new ≡ old)
AnswersKept old new BadHeader = IsBad old × (new ≡ old)
AnswersKept old new NoMemory = IsSome (first_packet old) × (new ≡ after_first old)

-- so many octets of a read were kept, as its outcome says
abbrev pub Keeps : List ℕ → List ℕ → List ℕ → Fed → Type 0
Keeps old new octets fed.More = (new ≡ old ++ octets) × (0 < length octets)
Keeps old new octets fed.End = (new ≡ old) × (octets ≡ [])
Keeps old new octets fed.Fault = (new ≡ old) × (octets ≡ [])
Keeps old new octets fed.NoMemory = new ≡ old

-- whether the read met the end of input
abbrev pub is_end : Fed → Bool
is_end fed.End = true
is_end _ = false

-- a read of at most 4,096 octets, which the source no longer has and which are counted
pub record Feeds (left0 left1 : Option (List ℕ)) (kept0 kept1 : List ℕ) (taken0 taken1 : ℕ) (result : Fed) : Type 0 where
  pub octets : List ℕ
  pub small : length octets ≤ 4096
  pub source : BothTold left0 left1 (λ old new. old ≡ octets ++ new)
  pub count : taken1 ≡ taken0 + length octets
  pub keeps : Keeps kept0 kept1 octets result
