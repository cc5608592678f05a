use Rattle.std.proofs.Common.{◌≡◌, ◌-◌, ◌≤◌, slice_get}
use Rattle.lisp_acts.proofs.runs.form_at.Given as goal

-- what is sought stands so much further among the forms that are left
abbrev pub invariant-forms : goal.invariant-forms
invariant-forms l = (l.n ≤ l.number) × (slice_get l.left (l.number - l.n) ≡ slice_get l.forms l.number)

abbrev pub decreases-forms : goal.decreases-forms
decreases-forms l = l.number - l.n
