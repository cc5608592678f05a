-- Each request is answered once.
use Rattle.std.proofs.Common.{◌≡◌, ℕ, ◌+◌, ◌≤◌, ◌≢◌, ◌⊎◌, inl, inr, ⊎_elim, ◌&&◌, List, [], ◌∷◌, refl, sym, ap, ◌∙◌, arith}
use Rattle.std.specs.Prelude.{◌==◌}
use Rattle.std.proofs.lemmas.Bool.{cases_eq}
use Rattle.term_model.specs.Label.{Label, Ended, Swept}
use Rattle.step_model.specs.Image.{ImageState}
use Rattle.step_model.specs.Rules.{Rules}
use Rattle.session_model.specs.declared.event.Entry.{Entry}
use Rattle.session_model.specs.Journal.{labels, run}
use Rattle.session_laws.specs.AnswersOnce.{AnswersOnce, IsRefused, IsWith, closes, closes_any, places_with, routes_request}
use Rattle.session_laws.specs.Counting.{count, tally}
use Rattle.session_laws.proofs.Counts.{other, own}
use Rattle.session_laws.proofs.KeepsAnswers.{labels_are_answered}
use Rattle.session_laws.proofs.KeepsRequests.{routed_is_kept}
use Rattle.session_laws.proofs.Placed.{Nowhere, Placing, placed_or_not, request_is_placed}

-- where no other thread closes request i, what any thread closes is what this one does
by_thread : (t i u j : ℕ) (ls : List Label) → (u ≢ t → tally ((u == u) && (j == i)) + count (closes u i) ls ≡ 0) → count (closes_any i) ls ≡ count (closes t i) ls
    → tally (j == i) + count (closes_any i) ls ≡ tally ((u == t) && (j == i)) + count (closes t i) ls
by_thread t i u j ls h k =
    ⊎_elim
    (λ (same : u ≡ t). omega (arith, k, own t (j == i), ap (λ v. tally ((v == t) && (j == i))) same))
    (λ (ne : u ≢ t). omega (arith, k, own u (j == i), h ne, other t u (j == i) (λ e. ne (sym e))))
    (cases_eq u t)

one_thread : (t i : ℕ) (ls : List Label) → ((u : ℕ) → u ≢ t → count (closes u i) ls ≡ 0) → count (closes_any i) ls ≡ count (closes t i) ls
one_thread t i [] h = refl
one_thread t i (Ended u j result ∷ ls) h = by_thread t i u j ls (h u) (one_thread t i ls (λ v ne. omega (arith, h v ne)))
one_thread t i (Swept u j ∷ ls) h = by_thread t i u j ls (h u) (one_thread t i ls (λ v ne. omega (arith, h v ne)))
one_thread t i (l ∷ ls) h = omega (arith, one_thread t i ls (λ v ne. omega (arith, h v ne)))

module _ (rules : Rules) (image : ImageState) (j : List Entry) where
  kept : (t i n : ℕ) → count (routes_request t i) (labels rules image j) ≡ n → places_with t i (run rules image j) (labels rules image j) ≡ n
  kept t i n e = sym (routed_is_kept rules image j t i) ∙ e

  in_place : (i : ℕ) → Placing i (labels rules image j) → IsRefused i (run rules image j) (labels rules image j) ⊎ ((t : ℕ) × IsWith t i (run rules image j) (labels rules image j))
  in_place i (inl h) = inl (record { refused = h.refused; nowhere = λ t. kept t i 0 (h.not_routed t) })
  in_place i (inr (t, h)) = inr (t, record { routed = h.routed; not_refused = h.not_refused; in_one_place = kept t i 1 h.routed; with_no_other = λ u ne. kept u i 0 (h.to_no_other u ne) })

  closed : (t i n : ℕ) → places_with t i (run rules image j) (labels rules image j) ≡ n → count (closes t i) (labels rules image j) ≤ n
  closed t i n e = omega (arith, e)

  none : (i : ℕ) → ((t : ℕ) → places_with t i (run rules image j) (labels rules image j) ≡ 0) → count (closes_any i) (labels rules image j) ≤ 1
  none i h = omega (arith, one_thread 0 i (labels rules image j) (λ u ne. omega (arith, h u)), h 0)

  over : (i : ℕ) → IsRefused i (run rules image j) (labels rules image j) ⊎ ((t : ℕ) × IsWith t i (run rules image j) (labels rules image j)) → count (closes_any i) (labels rules image j) ≤ 1
  over i (inl h) = none i h.nowhere
  over i (inr (t, h)) = omega (arith, one_thread t i (labels rules image j) (λ u ne. omega (arith, h.with_no_other u ne)), h.in_one_place)

  over_once : (i : ℕ) → Nowhere i (labels rules image j) ⊎ Placing i (labels rules image j) → count (closes_any i) (labels rules image j) ≤ 1
  over_once i (inl h) = none i (λ t. kept t i 0 (h.not_routed t))
  over_once i (inr h) = over i (in_place i h)

pub answers_once : (rules : Rules) (image : ImageState) (j : List Entry) → AnswersOnce rules image j
answers_once rules image j = record {
  answered = labels_are_answered rules image j;
  one_place = λ i id e. in_place rules image j i (request_is_placed rules image j i id e);
  over_where_routed = λ t i. omega (arith, routed_is_kept rules image j t i);
  over_once = λ i. over_once rules image j i (placed_or_not rules image j i);
}
