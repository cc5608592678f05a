-- The rule of a hall's table: its value stands for one history, of which each seat has seen a beginning. Word 0 says whether a seat has the turn, and word 1 how long the history is.
use Rattle.std.specs.Prelude.{◌≡◌, ◌≢◌, ℕ, ◌+◌, ◌≤◌, List, [], ◌∷◌, length, slice_index, Bool, true, false, Option, Some, None}
use Rattle.std.specs.List.{AllByRecursion}
use mathlib.Core.Option.{some}
use lib.ListN.{get_elem?}
use Rattle.atomic_table.specs.Table.{State, Me}
use Rattle.turnstile.specs.declared.view.Account.{Account}
use Rattle.turnstile.specs.declared.view.View.{View}
use Rattle.turnstile.specs.History.{Covers}
use Rattle.turnstile.specs.Seats.{stands}

-- 1 for true
abbrev pub one : Bool → ℕ
one true = 1
one false = 0

module _ {E : Type 0} where
  -- how many seats are live
  abbrev pub live_count : List (View E) → ℕ
  live_count [] = 0
  live_count (view ∷ views) = one view.is_live + live_count views

  -- two live seats don't both have the turn, don't have one number, and neither has joined the number of the other
  abbrev pub AreApart : View E → View E → Type 0
  AreApart view other = view.is_live ≡ true → other.is_live ≡ true →
      (view.has_turn ≡ true → other.has_turn ≡ false) × (other.number ≢ view.number) × AllByRecursion (λ (account : Account E). account.number ≢ other.number) view.joined

  -- what the seat with this view has seen
  abbrev pub account_in : View E → Account E
  account_in view = record { number = view.number; seen = view.seen }

module _ {E : Type 0} (number_of : E → ℕ) where
  -- the history covers what the seat has seen, and what each seat that it joined had seen
  abbrev pub GoesOn : View E → List E → Type 0
  GoesOn view history = Covers number_of history (account_in view) × AllByRecursion (Covers number_of history) view.joined

  -- What holds of each live seat. Where it has the turn, it has seen the whole history. The history covers what it has seen and what the seats that it joined had seen. The first seat made its number and theirs, which are others
  pub record IsSound (turn made : ℕ) (log : List E) (view : View E) : Type 0 where
    pub has_turn : view.has_turn ≡ true → (turn ≢ 0) × (view.seen ≡ log)
    pub number_made : view.number ≤ made
    pub covers : Covers number_of log (account_in view)
    pub joined : AllByRecursion (λ (account : Account E). Covers number_of log account × (account.number ≤ made) × (account.number ≢ view.number)) view.joined

  module _ {T : Type 0} (history : T → List E) where
    -- The rule. There is one history, the log, whose length is published, and which has only entries of numbers that the first seat made. Either nobody has the turn and the value, at home, stands for the log, or one live seat has it. As many seats are live as were made and not joined
    pub record IsOrderly (s : State (Option T) (View E)) : Type 0 where
      pub log : List E
      pub first : View E
      pub wide : length s.words ≡ 4
      pub published : slice_index s.words 1 ≡ length log
      -- nobody has the turn: the value is at home
      pub home : slice_index s.words 0 ≡ 0 → (value : T) × (get_elem? s.homes 0 ≡ some (some (Some value))) × (history value ≡ log)
      -- a live seat has the turn. Where it does not hold the slot, that is at home, and empty
      pub taken : slice_index s.words 0 ≢ 0 → (id : ℕ) × (view : View E) × (get_elem? s.views id ≡ some view) × (view.has_turn ≡ true) × (view.is_live ≡ true) × (view.has_slot ≡ false → get_elem? s.homes 0 ≡ some (some None))
      pub at_first : get_elem? s.views 0 ≡ some first
      pub is_first : (first.number ≡ 0) × (first.is_live ≡ true)
      pub sound : (id : ℕ) (view : View E) → get_elem? s.views id ≡ some view → view.is_live ≡ true → IsSound (slice_index s.words 0) first.made log view
      pub apart : (id other : ℕ) (v w : View E) → get_elem? s.views id ≡ some v → get_elem? s.views other ≡ some w → id ≢ other → AreApart v w
      pub numbers : AllByRecursion (λ e. number_of e ≤ first.made) log
      pub counted : live_count s.views + length first.joined ≡ first.made + 1

    -- a seat as the table's steps see it: its view, and the slots that it holds
    abbrev pub Place : Type 0
    Place = Me (Option T) (View E)

    -- the turn was free, and is now this seat's, with the value; or nothing changed
    abbrev pub Takes : Place → ℕ → Place → Type 0
    Takes old found new =
        (found ≡ 0 → (value : T) × (new.1 ≡ (0, Some value) ∷ old.1) × (new.0 ≡ stands old.0 (history value) true true) × GoesOn old.0 (history value))
        × (found ≢ 0 → new ≡ old)

    -- the seat has the turn with this value, and holds the empty slot
    abbrev pub HasTaken : Place → T → Place → Type 0
    HasTaken old value new = (new ≡ (stands old.0 (history value) true true, (0, None) ∷ [])) × GoesOn old.0 (history value)

module _ {T E : Type 0} where
  -- the empty slot is at home again
  abbrev pub ReturnsSlot : Me (Option T) (View E) → Me (Option T) (View E) → Type 0
  ReturnsSlot old new = (new.0 ≡ stands old.0 old.0.seen true false) × (new.1 ≡ [])

  -- the empty slot is out again
  abbrev pub TakesSlot : Me (Option T) (View E) → Me (Option T) (View E) → Type 0
  TakesSlot old new = (new.0 ≡ stands old.0 old.0.seen true true) × (new.1 ≡ (0, None) ∷ [])

  -- the seat has seen what the value in the slot stands for
  abbrev pub Publishes : (T → List E) → Me (Option T) (View E) → Me (Option T) (View E) → Type 0
  Publishes history old new = (value : T) → old.1 ≡ (0, Some value) ∷ [] → (new.0 ≡ stands old.0 (history value) true true) × (new.1 ≡ old.1)

  -- the seat has neither the turn nor the slot
  abbrev pub Frees : Me (Option T) (View E) → Me (Option T) (View E) → Type 0
  Frees old new = (new.0 ≡ stands old.0 old.0.seen false false) × (new.1 ≡ [])

  -- nothing that the rule speaks of changed
  abbrev pub Stays : Me (Option T) (View E) → Me (Option T) (View E) → Type 0
  Stays old new = new ≡ old

  -- nothing changed; and the first seat has joined no more seats than it made, and has seen only entries of numbers that it made
  abbrev pub StaysFirst : (E → ℕ) → Me (Option T) (View E) → Me (Option T) (View E) → Type 0
  StaysFirst number_of old new = (new ≡ old) × (length old.0.joined ≤ old.0.made) × AllByRecursion (λ e. number_of e ≤ old.0.made) old.0.seen
