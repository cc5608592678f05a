-- Writes in a row.
use Rattle.std.proofs.Common.{◌≡◌, ℕ, ◌+◌, List, ◌++◌, take, drop, sym, ap, ◌∙◌, append_assoc}
use Rattle.std.specs.Prelude.{Option, Some, None, Ok}
use Rattle.std.proofs.Math.Seq.{take-add}
use Rattle.outside_traits.specs.Sink.{Writes}
use Rattle.outside_traits.specs.Told.{BothTold}

-- the next octets are taken behind those that were taken before
pub adds_on : (first old new : Option (List ℕ)) (piece : List ℕ) (taken n : ℕ) → BothTold first old (λ f o. o ≡ f ++ take taken piece)
    → Writes old new (Ok n) (drop taken piece) → BothTold first new (λ f w. w ≡ f ++ take (taken + n) piece)
adds_on (Some first) (Some old) (Some new) piece taken n before now =
    now ∙ (ap (λ o. o ++ take n (drop taken piece)) before ∙ (append_assoc first (take taken piece) (take n (drop taken piece)) ∙ ap (λ all. first ++ all) (sym (take-add taken n piece))))
adds_on None None None piece taken n before now = tt
adds_on None None (Some new) piece taken n before now = absurd now
adds_on None (Some old) new piece taken n before now = absurd before
adds_on (Some first) None new piece taken n before now = absurd before
adds_on (Some first) (Some old) None piece taken n before now = absurd now
