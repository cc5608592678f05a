-- What callers see of a seat, and how the views of seats change as they are split and joined.
use Rattle.std.specs.Prelude.{◌≡◌, ℕ, ◌+◌, List, [], ◌∷◌, length, Bool, true, false}
use Rattle.atomic_table.specs.Seated.{TableId}
use Rattle.turnstile.specs.declared.view.Account.{Account}
use Rattle.turnstile.specs.declared.view.View.{View}

-- a seat as its callers see it: the hall that it is of, its number, how many seats it made, what each seat that it joined had seen, the last joined first, what it has seen itself, and whether it has the turn
pub record SeatState (E : Type 0) : Type 0 where
  pub hall : TableId
  pub number : ℕ
  pub made : ℕ
  pub joined : List (Account E)
  pub seen : List E
  pub has_turn : Bool

module _ {E : Type 0} where
  -- the first seat of a hall, before anything happened
  abbrev pub first_seat : TableId → SeatState E
  first_seat hall = record { hall = hall; number = 0; made = 0; joined = []; seen = []; has_turn = false }

  -- the seat that the first seat splits off next
  abbrev pub new_seat : SeatState E → SeatState E
  new_seat first = record { hall = first.hall; number = first.made + 1; made = 0; joined = []; seen = first.seen; has_turn = false }

  -- what the seat leaves with the first seat when it is joined
  abbrev pub account_of : SeatState E → Account E
  account_of seat = record { number = seat.number; seen = seat.seen }

  -- the seat with this view, as its callers see it
  abbrev pub state_of : TableId → View E → SeatState E
  state_of hall view = record { hall = hall; number = view.number; made = view.made; joined = view.joined; seen = view.seen; has_turn = view.has_turn }

  -- the view of the first seat of a hall
  abbrev pub first_view : View E
  first_view = record { number = 0; made = 0; joined = []; seen = []; has_turn = false; has_slot = false; is_live = true }

  -- the view of a seat that was joined
  abbrev pub spent : View E
  spent = record { number = 0; made = 0; joined = []; seen = []; has_turn = false; has_slot = false; is_live = false }

  -- the view of the first seat once it has split off another
  abbrev pub split_left : View E → View E
  split_left view = record view { made = view.made + 1 }

  -- the view of the seat that is split off: its number is new, and it has seen what the first seat has
  abbrev pub split_right : View E → View E
  split_right view = record { number = view.made + 1; made = 0; joined = []; seen = view.seen; has_turn = false; has_slot = false; is_live = true }

  -- the view of the first seat once it has joined another: it keeps what that one had seen
  abbrev pub joined_with : View E → View E → View E
  joined_with view other = record view { joined = record { number = other.number; seen = other.seen } ∷ view.joined }

  -- the view of a seat that has now seen this, and does or doesn't have the turn, and the slot
  abbrev pub stands : View E → List E → Bool → Bool → View E
  stands view seen has_turn has_slot = record view { seen = seen; has_turn = has_turn; has_slot = has_slot }

  -- the view of a badge, where it has one
  abbrev pub view_in : List (View E) → View E
  view_in [] = spent
  view_in (view ∷ views) = view

-- the counts that a seat keeps are those of its badge's one view, which is live and holds no slot
pub record IsSeat {E : Type 0} (number made joined : ℕ) (views : List (View E)) : Type 0 where
  pub one : views ≡ view_in views ∷ []
  pub number_is : number ≡ (view_in views).number
  pub made_is : made ≡ (view_in views).made
  pub joined_is : joined ≡ length (view_in views).joined
  pub is_live : (view_in views).is_live ≡ true
  pub no_slot : (view_in views).has_slot ≡ false
