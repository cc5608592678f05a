-- A part of a text, one character at a time.
use Rattle.std.proofs.Common.{◌≡◌, ℕ, zero, suc, ◌-◌, ◌<◌, Bool, false, List, [], ◌∷◌, ◌++◌, take, drop, refl, ap, ◌∙◌, sym, arith, append_assoc}
use Rattle.std.proofs.Math.Seq.{drop-nil, take-nil}
use Rattle.std.proofs.lemmas.Bool.{lt-ltb}
use Rattle.std.proofs.lemmas.Bool.Decides.{nat_tests}
use Rattle.std.specs.Prelude.{encode_utf8_all, nat_lt}
use Rattle.lisp_sequences.specs.Lists.{subseq}
use Rattle.lisp_sequences.specs.Strings.{is_within, kept}

not_within : (b u : ℕ) → is_within (suc b) u ≡ false
not_within b u = grind (arith, nat_tests)

pub subseq-step : (before until c : ℕ) (later : List ℕ) → encode_utf8_all (subseq before until (c ∷ later)) ≡ kept (is_within before until) c ++ encode_utf8_all (subseq (before - 1) (until - 1) later)
subseq-step zero zero c later = refl
subseq-step zero (suc u) c later =
    let here : 0 < suc u = omega arith in
    let whole : suc u - 0 ≡ suc u = omega arith in
    let rest : suc u - 1 - 0 ≡ u = omega arith in
    ap (λ n. encode_utf8_all (take n (c ∷ later))) whole
    ∙ (ap (λ (b : Bool). kept b c ++ encode_utf8_all (take u later)) (sym (lt-ltb 0 (suc u) here))
    ∙ ap (λ n. kept (nat_lt 0 (suc u)) c ++ encode_utf8_all (take n later)) (sym rest))
subseq-step (suc b) zero c later =
    let none : 0 - suc b ≡ 0 = omega arith in
    let rest : 0 - (suc b - 1) ≡ 0 = omega arith in
    ap (λ n. encode_utf8_all (take n (drop b later))) none
    ∙ (ap (λ (b : Bool). kept b c ++ []) (sym (not_within b 0))
    ∙ ap (λ n. kept (is_within (suc b) 0) c ++ encode_utf8_all (take n (drop (suc b - 1) later))) (sym rest))
subseq-step (suc b) (suc u) c later =
    let rest : suc u - suc b ≡ suc u - 1 - (suc b - 1) = omega arith in
    let less : b ≡ suc b - 1 = omega arith in
    ap (λ n. encode_utf8_all (take n (drop b later))) rest
    ∙ (ap (λ n. encode_utf8_all (take (suc u - 1 - (suc b - 1)) (drop n later))) less
    ∙ ap (λ (w : Bool). kept w c ++ encode_utf8_all (subseq (suc b - 1) (suc u - 1) later)) (sym (not_within b (suc u))))

-- the same beside what was kept before
pub substring-step : (out out' : List ℕ) (before until before' until' c : ℕ) (keeps : Bool) (cs later whole : List ℕ) → cs ≡ c ∷ later → out' ≡ out ++ kept keeps c → keeps ≡ is_within before until → before' ≡ before - 1 → until' ≡ until - 1 → out ++ encode_utf8_all (subseq before until cs) ≡ whole → out' ++ encode_utf8_all (subseq before' until' later) ≡ whole
substring-step out out' before until before' until' c keeps cs later whole first added keep less_before less_until so_far =
    ap (λ o. o ++ encode_utf8_all (subseq before' until' later)) (added ∙ ap (λ (b : Bool). out ++ kept b c) keep)
    ∙ (ap (λ n. (out ++ kept (is_within before until) c) ++ encode_utf8_all (subseq n until' later)) less_before
    ∙ (ap (λ n. (out ++ kept (is_within before until) c) ++ encode_utf8_all (subseq (before - 1) n later)) less_until
    ∙ (append_assoc out (kept (is_within before until) c) (encode_utf8_all (subseq (before - 1) (until - 1) later))
    ∙ (ap (λ l. out ++ l) (sym (subseq-step before until c later)) ∙ (ap (λ l. out ++ encode_utf8_all (subseq before until l)) (sym first) ∙ so_far)))))

-- no part of no characters
pub subseq-none : (from to : ℕ) → encode_utf8_all (subseq from to []) ≡ []
subseq-none from to = ap (λ (l : List ℕ). encode_utf8_all (take (to - from) l)) (drop-nil from) ∙ ap (λ (l : List ℕ). encode_utf8_all l) (take-nil (to - from))
