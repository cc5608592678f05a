-- The steps of an evaluation by the thread of the REPL.
use Rattle.std.proofs.Common.{◌≡◌, ◌∙◌, ap, refl, ℕ, List, [], ◌∷◌, pos, codes, arith}
use Rattle.std.specs.Fmt.{decimal}
use Rattle.std.specs.Prelude.{None, Ok, false, true}
use Rattle.std.proofs.lemmas.Fmt.{decimal-digits_of}
use Rattle.lisp_data.specs.Sexp.{weight_of}
use Rattle.lisp_data.specs.declared.sexp.Sexp.{Sexp}
use Rattle.lisp_data.specs.declared.sexp.Sexp.TheVariants as form
use Rattle.lisp_data.specs.declared.value.Value.{out-Value}
use Rattle.lisp_data.specs.declared.value.Value.TheVariants as value
use Rattle.lisp_errors.specs.Limits.{is_too_large}
use Rattle.lisp_packages.specs.Fresh.{standard_packages}
use Rattle.lisp_packages.specs.Naming.{in_named, valued, value_step}
use Rattle.lisp_syntax.specs.Parsing.{node, parsed, parsed_item}
use Rattle.lisp_syntax.specs.Table.{row_of}
use Rattle.rpc_messages.specs.declared.pattern.Pattern.TheVariants as pattern
use Rattle.rpc_messages.specs.declared.to_emacs.Returned.TheVariants as returned
use Rattle.rpc_messages.specs.declared.to_emacs.ToEmacs.TheVariants as to_emacs
use Rattle.server_rules.specs.Rules.{rules}
use Rattle.session_model.specs.declared.event.Event.TheVariants.{End, Drain, Lend, Arrive}
use Rattle.session_model.specs.Journal.{counted, outputs, run, run_from}
use Rattle.session_model.specs.Running.{returns, steps}
use Rattle.session_model.specs.World.{Happened, World, then}
use Rattle.sexp_reader.specs.Atoms.{is_integer, is_number_like, has_good_colons, is_bad, integer_of, atom}
use Rattle.sexp_reader.specs.Grammar.{place}
use Rattle.sexp_reader.specs.Reading as reading
use Rattle.sexp_reader.specs.Reading.{read_of, is_full, complete, opened, closed, token_ended, begun_by, between, in_token, in_string, finish, run as run_reader}
use Rattle.sexp_reader.specs.declared.placed.Placed.{Placed}
use Rattle.step_model.specs.Now.{Mailbox, Now}
use Rattle.step_model.specs.AsBuilt.{step_as_built}
use Rattle.swank_rpc.specs.Kept.{kept}
use Rattle.swank_rpc.specs.Texts.{forms_of}
use Rattle.syntax_trees.specs.declared.row.Row.{Row}
use Rattle.syntax_trees.specs.declared.row.Row.TheVariants.{Literal}
use Rattle.term_model.specs.declared.focus.Focus.{Focus}
use Rattle.term_model.specs.declared.focus.Focus.TheVariants as focus
use Rattle.term_model.specs.declared.frame.Frame.TheVariants as frame
use Rattle.term_model.specs.declared.kept.Outcome.TheVariants as outcome
use Rattle.term_model.specs.declared.plain.Plain.TheVariants as plain
use Rattle.term_model.specs.Label.{Label, Ended, Out, Routed, Took, messages_in}
use Rattle.term_model.specs.Room.{limit}
use Rattle.term_model.specs.Term.{Context}
use Rattle.worked_sessions.specs.Entries.{entry}
use Rattle.worked_sessions.specs.Evaluation.{asked, journal, message, messages}
use Rattle.worked_sessions.specs.FirstImage.{image}
use Rattle.worked_sessions.proofs.BurstLemmas.{made, makes-made}
use Rattle.worked_sessions.proofs.FirstImageLemmas.{user, named-user}
use Rattle.worked_sessions.proofs.ReadingLemmas.{forms-read}
use Rattle.worked_sessions.proofs.VariantLemmas.{form-int, form-list, form-str, form-sym, row-node, forms-node, value-int, value-str}

-- ---- the thread

abbrev at : Context → Focus → Mailbox → List Label → Now
at c f mailbox ls = record { thread = 1; context = c; redex = f; serial = 0; mailbox = mailbox; image = image; tag = 1; inspected = []; threads = 1 ∷ []; most = 0; labels = ls; over = false; closed = false }

abbrev forms : List Placed
forms = record { form = form.Int (pos 1); at = 0 } ∷ []

abbrev request : Context
request = frame.Rex 0 (pos 1) asked ∷ []

abbrev answer : Context
answer = frame.On (plain.Answer (kept true user)) ∷ request

abbrev called : Now
called = at request focus.Rpc [] (Took 1 0 pattern.Rex ∷ [])

abbrev reading_done : Now
reading_done = at answer (focus.Forms forms None) [] []

abbrev evaluated : Now
evaluated = at answer (focus.Given (outcome.Value (value.Int (pos 1)))) [] []

abbrev written : Now
written = at request (focus.Given (outcome.Reply (form.List []))) [] (Out (to_emacs.WriteString (codes "1\n") true) ∷ [])

abbrev ended : Now
ended = record (at [] (focus.Wait pattern.Rex) [] (Ended 1 0 (returned.Ok (form.List [])) ∷ Out (to_emacs.Return (pos 1) (returned.Ok (form.List []))) ∷ [])) { over = true }

-- ---- what they rest on

read : read_of true (codes "1") ≡ Ok forms
unfolding is_integer is_number_like has_good_colons is_bad integer_of atom place is_full complete opened closed token_ended begun_by between in_token in_string reading.step finish run_reader lib.Utf8.encode
read = refl

text-forms : forms_of (codes "1") ≡ Ok forms
text-forms = forms-read (codes "1") forms refl read

weighs : weight_of asked ≡ 28
weighs = simp (form-list, form-sym, form-str)

one-valued : in_named standard_packages user (λ i. valued i (form.Int (pos 1)) standard_packages) ≡ Ok (standard_packages, value.Int (pos 1))
unfolding standard_packages
one-valued = ap (λ f. f standard_packages) (form-int (value_step 1) (pos 1))

abbrev one_row : Row
one_row = Literal (value.Int (pos 1))

one-parsed : parsed (value.Int (pos 1)) ≡ Ok (node one_row [])
unfolding parsed_item row_of out-Value denote.Hole.Carrier.out
one-parsed = refl

one-shown : decimal 1 ≡ codes "1"
one-shown = decimal-digits_of 1 (omega arith) (omega arith) ∙ refl

text-fits : is_too_large (value.Str (codes "1\n")) ≡ false
unfolding is_too_large
text-fits = simp (value-str)

-- ---- its steps

abbrev head : List ℕ
head = codes "SWANK-REPL:LISTENER-EVAL"

abbrev parts : List Sexp
parts = form.Sym head ∷ form.Str (codes "1") ∷ []

abbrev kept_parts : List Sexp
kept_parts = form.Sym (codes "T") ∷ form.Str user ∷ []

takes : step_as_built rules.built rules (at [] (focus.Wait pattern.Rex) ((0, message) ∷ []) []) ≡ called
unfolding limit
takes = rw (form.outs-List parts, form.outs-Sym head) refl

calls : step_as_built rules.built rules (record called { labels = [] }) ≡ reading_done
unfolding limit
calls = rw (weighs, form.outs-List parts, form.outs-Sym head, form.outs-Str (codes "1"), text-forms, named-user) refl

evaluates : step_as_built rules.built rules reading_done ≡ evaluated
unfolding limit
evaluates = rw (named-user, one-valued, one-parsed, row-node one_row [], forms-node one_row [], row-node one_row []) refl

-- what is kept, and the package, are looked at twice: whether there was a form, and whether the global package is another one
finishes : step_as_built rules.built rules evaluated ≡ written
unfolding limit
finishes = rw (
  form.outs-List parts,
  form.outs-Sym head,
  form.outs-List kept_parts,
  form.outs-Sym (codes "T"),
  named-user,
  value-int,
  one-shown,
  text-fits,
  named-user,
  form.outs-List kept_parts,
  form.outs-Str user,
  named-user,
) refl

ends : step_as_built rules.built rules (record written { labels = [] }) ≡ ended
unfolding limit
ends = refl

-- ---- the session

abbrev lent : World
lent = run rules image (entry (Arrive message) ∷ entry (Lend 1) ∷ [])

bursts : steps rules 5 1 lent ≡ made lent 1 (called ∷ reading_done ∷ evaluated ∷ written ∷ ended ∷ [])
bursts = makes-made rules 1 (called ∷ reading_done ∷ evaluated ∷ written ∷ ended ∷ []) lent (takes, (calls, (evaluates, (finishes, (ends, tt)))))

abbrev from_burst : Happened → Happened
from_burst h = then (counted (then h (returns 1))) (λ w. run_from rules w (entry (Drain 2) ∷ entry End ∷ []))

pub writes : outputs rules image journal ≡ messages
writes = ap (λ h. messages_in (Routed 1 0 message ∷ (from_burst h).labels)) bursts
