-- The steps of an evaluation by the thread of the REPL that comes to a call.
use Rattle.std.proofs.Common.{◌≡◌, ◌∙◌, ap, refl, ℕ, List, [], ◌∷◌, pos, codes}
use Rattle.std.specs.Prelude.{None, Ok, false, suc, true}
use Rattle.lisp_data.specs.Sexp.{weight_of}
use Rattle.lisp_data.specs.declared.sexp.Sexp.{Sexp}
use Rattle.lisp_data.specs.declared.sexp.Sexp.TheVariants as form
use Rattle.lisp_data.specs.Symbols.{cl}
use Rattle.lisp_data.specs.Value.{depth_of}
use Rattle.lisp_data.specs.declared.value.Value.{Value, out-Value}
use Rattle.lisp_data.specs.declared.value.Value.TheVariants as value
use Rattle.lisp_packages.specs.Fresh.{standard_packages}
use Rattle.lisp_packages.specs.Naming.{in_named, named, valued, value_step}
use Rattle.lisp_packages.specs.declared.lisp_package.Package.{Package}
use Rattle.lisp_syntax.specs.Parsing.{item, node, parsed, parsed_item, parsed_within, planted}
use Rattle.lisp_syntax.specs.Operators.{operator_named, operator_of}
use Rattle.lisp_syntax.specs.Parts.{is_symbol, symbol_of}
use Rattle.lisp_syntax.specs.Rows.{is_self}
use Rattle.lisp_syntax.specs.declared.sort.Sort.TheVariants as sort
use Rattle.lisp_syntax.specs.Table.{form_row_in, row_of}
use Rattle.rpc_messages.specs.declared.pattern.Pattern.TheVariants as pattern
use Rattle.rpc_messages.specs.declared.to_emacs.Returned.TheVariants as returned
use Rattle.rpc_messages.specs.declared.to_emacs.ToEmacs.TheVariants as to_emacs
use Rattle.server_rules.specs.Rules.{rules}
use Rattle.session_model.specs.declared.event.Event.TheVariants.{End, Drain, Lend, Arrive}
use Rattle.session_model.specs.Journal.{counted, outputs, run, run_from}
use Rattle.session_model.specs.Running.{returns, steps}
use Rattle.session_model.specs.World.{Happened, World, then}
use Rattle.sexp_reader.specs.Atoms.{is_integer, is_number_like, has_good_colons, is_bad, integer_of, atom}
use Rattle.sexp_reader.specs.Grammar.{place}
use Rattle.sexp_reader.specs.Reading as reading
use Rattle.sexp_reader.specs.Reading.{read_of, is_full, complete, opened, closed, token_ended, begun_by, between, in_token, in_string, finish, run as run_reader}
use Rattle.sexp_reader.specs.declared.placed.Placed.{Placed}
use Rattle.step_model.specs.Now.{Mailbox, Now}
use Rattle.step_model.specs.AsBuilt.{step_as_built}
use Rattle.swank_rpc.specs.Kept.{kept}
use Rattle.swank_rpc.specs.Texts.{forms_of}
use Rattle.syntax_trees.specs.declared.row.Row.{Row}
use Rattle.syntax_trees.specs.declared.row.Row.TheVariants.{Literal, Named}
use Rattle.syntax_trees.specs.declared.row.Named.TheVariants.{Call}
use Rattle.term_model.specs.Progress.{progress}
use Rattle.term_model.specs.declared.focus.Focus.{Focus}
use Rattle.term_model.specs.declared.focus.Focus.TheVariants as focus
use Rattle.term_model.specs.declared.frame.Frame.TheVariants as frame
use Rattle.term_model.specs.declared.plain.Plain.TheVariants as plain
use Rattle.term_model.specs.Label.{Label, Ended, Out, Routed, Took, messages_in}
use Rattle.term_model.specs.Room.{limit}
use Rattle.term_model.specs.Term.{Context}
use Rattle.worked_sessions.specs.Entries.{entry}
use Rattle.worked_sessions.specs.UnbuiltCall.{asked, journal, message, messages}
use Rattle.worked_sessions.specs.FirstImage.{image}
use Rattle.worked_sessions.proofs.BurstLemmas.{made, makes-made}
use Rattle.worked_sessions.proofs.FirstImageLemmas.{user, named-user, user-place}
use Rattle.worked_sessions.proofs.ReadingLemmas.{forms-read}
use Rattle.worked_sessions.proofs.VariantLemmas.{form-int, form-list, form-str, form-sym, row-node, forms-node, value-int, value-list, value-sym}

-- ---- the thread

abbrev at : Context → Focus → Mailbox → List Label → Now
at c f mailbox ls = record { thread = 1; context = c; redex = f; serial = 0; mailbox = mailbox; image = image; tag = 1; inspected = []; threads = 1 ∷ []; most = 0; labels = ls; over = false; closed = false }

abbrev car_form : Sexp
car_form = form.List (form.Sym (codes "CAR") ∷ form.Int (pos 1) ∷ [])

abbrev forms : List Placed
forms = record { form = car_form; at = 0 } ∷ []

abbrev request : Context
request = frame.Rex 0 (pos 1) asked ∷ []

abbrev answer : Context
answer = frame.On (plain.Answer (kept true user)) ∷ request

abbrev called : Now
called = at request focus.Rpc [] (Took 1 0 pattern.Rex ∷ [])

abbrev reading_done : Now
reading_done = at answer (focus.Forms forms None) [] []

abbrev at_call : Now
at_call = at answer (focus.Form (progress (Named Call (cl (codes "CAR"))) 1 (value.Int (pos 1) ∷ []) [])) [] []

abbrev ended : Now
ended = record (at [] (focus.Wait pattern.Rex) [] (Ended 1 0 returned.Abort ∷ Out (to_emacs.Return (pos 1) returned.Abort) ∷ [])) { over = true }

-- ---- what they rest on

read : read_of true (codes "(car 1)") ≡ Ok forms
unfolding is_integer is_number_like has_good_colons is_bad integer_of atom place is_full complete opened closed token_ended begun_by between in_token in_string reading.step finish run_reader lib.Utf8.encode
read = refl

text-forms : forms_of (codes "(car 1)") ≡ Ok forms
text-forms = forms-read (codes "(car 1)") forms refl read

weighs : weight_of asked ≡ 34
weighs = simp (form-list, form-sym, form-str)

car-named : named standard_packages 1 (codes "CAR") ≡ Ok (standard_packages, cl (codes "CAR"))
unfolding standard_packages
car-named = refl

abbrev car_value : Value
car_value = value.List (value.Sym (cl (codes "CAR")) ∷ value.Int (pos 1) ∷ [])

-- the packages stay shut: what is known of them is that they have the symbol
valued-in : (ps : List Package) → named ps 1 (codes "CAR") ≡ Ok (ps, cl (codes "CAR")) → valued 1 car_form ps ≡ Ok (ps, car_value)
valued-in ps e = rw (form-list (value_step 1), form-sym (value_step 1), e, form-int (value_step 1)) refl

car-valued : in_named standard_packages user (λ i. valued i car_form standard_packages) ≡ Ok (standard_packages, car_value)
car-valued = rw user-place (valued-in standard_packages car-named)

abbrev one_row : Row
one_row = Literal (value.Int (pos 1))

abbrev car_row : Row
car_row = Named Call (cl (codes "CAR"))

car-deep : depth_of car_value ≡ 1
car-deep = simp (value-list, value-sym, value-int)

car-parsed : parsed car_value ≡ Ok (node car_row (node one_row [] ∷ []))
unfolding operator_named operator_of parsed_item symbol_of is_symbol is_self row_of out-Value denote.Hole.Carrier.out
car-parsed =
    ap (λ n. parsed_within (suc n) (item sort.Form car_value)) car-deep
    ∙ (ap (λ o. planted (parsed_within 1) car_value (form_row_in car_value o)) (value.outs-List (value.Sym (cl (codes "CAR")) ∷ value.Int (pos 1) ∷ [])) ∙ refl)

-- ---- its steps

abbrev head : List ℕ
head = codes "SWANK-REPL:LISTENER-EVAL"

abbrev parts : List Sexp
parts = form.Sym head ∷ form.Str (codes "(car 1)") ∷ []

abbrev kept_parts : List Sexp
kept_parts = form.Sym (codes "T") ∷ form.Str user ∷ []

takes : step_as_built rules.built rules (at [] (focus.Wait pattern.Rex) ((0, message) ∷ []) []) ≡ called
unfolding limit
takes = rw (form.outs-List parts, form.outs-Sym head) refl

calls : step_as_built rules.built rules (record called { labels = [] }) ≡ reading_done
unfolding limit
calls = rw (weighs, form.outs-List parts, form.outs-Sym head, form.outs-Str (codes "(car 1)"), text-forms, named-user) refl

goes-in : step_as_built rules.built rules reading_done ≡ at_call
unfolding limit
goes-in = rw (named-user, car-valued, car-parsed, row-node car_row (node one_row [] ∷ []), forms-node car_row (node one_row [] ∷ []), row-node car_row (node one_row [] ∷ []), row-node one_row []) refl

leaves : step_as_built rules.built rules at_call ≡ ended
unfolding limit
leaves = refl

-- ---- the session

abbrev lent : World
lent = run rules image (entry (Arrive message) ∷ entry (Lend 1) ∷ [])

bursts : steps rules 4 1 lent ≡ made lent 1 (called ∷ reading_done ∷ at_call ∷ ended ∷ [])
bursts = makes-made rules 1 (called ∷ reading_done ∷ at_call ∷ ended ∷ []) lent (takes, (calls, (goes-in, (leaves, tt))))

abbrev from_burst : Happened → Happened
from_burst h = then (counted (then h (returns 1))) (λ w. run_from rules w (entry (Drain 1) ∷ entry End ∷ []))

pub writes : outputs rules image journal ≡ messages
writes = ap (λ h. messages_in (Routed 1 0 message ∷ (from_burst h).labels)) bursts
