-- What one call of `pump` does to a stream.
use Rattle.std.specs.Prelude.{◌≡◌, ◌≢◌, ℕ, ◌+◌, ◌<◌, Bool, true, false, List, [], ◌++◌, length, Option, Some, None}
use Rattle.outside_traits.specs.Told.{BothTold}
use Rattle.packet_framing.specs.Packets.{IsBad, IsUnfinished}
use Rattle.inlet.specs.Messages.{Takes}
use Rattle.inlet.specs.declared.pumping.Pumped.{Pumped}
use Rattle.inlet.specs.declared.pumping.Pumped.TheVariants.{Message, End, BadHeader, Truncated, ReadFault, InputLimit, NoMemory}

-- the most octets that are read of a session's input
abbrev pub input_limit : ℕ
input_limit = 67108864

-- what is answered on octets that were kept or read in the call, and what is kept then: the next message, or why there is none. `taken`
-- counts the octets read in all, and `ended` says whether the newest read met the end of input
abbrev pub Answers : (octets kept : List ℕ) (taken : ℕ) (ended : Bool) → Pumped → Type 0
Answers octets kept taken ended (Message message) = Takes octets kept message
Answers octets kept taken ended BadHeader = IsBad octets × (kept ≡ octets)
Answers octets kept taken ended End = (octets ≡ []) × (kept ≡ []) × (taken < input_limit) × (ended ≡ true)
Answers octets kept taken ended Truncated = (octets ≢ []) × IsUnfinished octets × (kept ≡ octets) × (taken < input_limit) × (ended ≡ true)
Answers octets kept taken ended ReadFault = IsUnfinished octets × (kept ≡ octets) × (taken < input_limit)
Answers octets kept taken ended InputLimit = IsUnfinished octets × (kept ≡ octets) × (taken ≡ input_limit)
Answers octets kept taken ended NoMemory = Unit {0}

-- some octets were read, which the source no longer has and which are counted; the answer is on the octets that were kept and on
-- these behind them
pub record Pumps (left0 left1 : Option (List ℕ)) (kept0 kept1 : List ℕ) (taken0 taken1 : ℕ) (ended : Bool) (result : Pumped) : Type 0 where
  pub octets : List ℕ
  pub source : BothTold left0 left1 (λ old new. old ≡ octets ++ new)
  pub count : taken1 ≡ taken0 + length octets
  pub answer : Answers (kept0 ++ octets) kept1 taken1 ended result

-- whether the answer says that the end of input was met
abbrev pub met_end : Pumped → Bool
met_end End = true
met_end Truncated = true
met_end _ = false

-- the answer is a message
abbrev pub IsMessage : Pumped → Type 0
IsMessage (Message _) = Unit {0}
IsMessage _ = ⊥

-- where it is told what is left, that is nothing
abbrev pub NothingLeft : Option (List ℕ) → Type 0
NothingLeft None = Unit {0}
NothingLeft (Some left) = left ≡ []
