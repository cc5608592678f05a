-- Histories of entries, and what a seat knows of one that goes on.
use Rattle.std.specs.Prelude.{◌≡◌, ℕ, ◌==◌, List, ◌++◌}
use Rattle.std.specs.List.{filter, AllByRecursion}
use mathlib.Core.List.{IsPrefix}
use Rattle.turnstile.specs.declared.view.Account.{Account}

module _ {E : Type 0} (number_of : E → ℕ) where
  -- the entries that carry this number, in their order
  abbrev pub own : ℕ → List E → List E
  own number history = filter (λ e. number_of e == number) history

  -- the history begins with what the seat of the account had seen, and has no later entry that carries its number
  abbrev pub Covers : List E → Account E → Type 0
  Covers history account = IsPrefix account.seen history × (own account.number history ≡ own account.number account.seen)

  -- the new history is the old one, and then entries that all carry this number
  abbrev pub Adds : ℕ → List E → List E → Type 0
  Adds number old new = (more : List E) × (old ++ more ≡ new) × AllByRecursion (λ e. number_of e ≡ number) more
