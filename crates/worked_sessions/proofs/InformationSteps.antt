-- The steps of a request for what the server is.
use Rattle.std.proofs.Common.{◌≡◌, ◌∙◌, ap, refl, ℕ, List, [], ◌∷◌, pos, codes}
use Rattle.std.specs.Prelude.{false, true}
use Rattle.lisp_data.specs.Sexp.{weight_of}
use Rattle.lisp_data.specs.declared.sexp.Sexp.{Sexp}
use Rattle.lisp_data.specs.declared.sexp.Sexp.TheVariants as form
use Rattle.lisp_data.specs.declared.value.Value as value
use Rattle.rpc_messages.specs.declared.pattern.Pattern.TheVariants as pattern
use Rattle.rpc_messages.specs.declared.to_emacs.Returned.TheVariants as returned
use Rattle.rpc_messages.specs.declared.to_emacs.ToEmacs.TheVariants as to_emacs
use Rattle.server_rules.specs.Rules.{rules}
use Rattle.session_model.specs.declared.event.Event.TheVariants.{End, Drain, Lend, Arrive}
use Rattle.session_model.specs.Journal.{counted, outputs, run, run_from}
use Rattle.session_model.specs.Running.{returns, steps}
use Rattle.session_model.specs.World.{Happened, World, then}
use Rattle.step_model.specs.CurrentPackage.{package_variable}
use Rattle.step_model.specs.Now.{Mailbox, Now}
use Rattle.step_model.specs.AsBuilt.{step_as_built}
use Rattle.swank_rpc.specs.Info.{connection_info}
use Rattle.term_model.specs.declared.focus.Focus.{Focus}
use Rattle.term_model.specs.declared.focus.Focus.TheVariants as focus
use Rattle.term_model.specs.declared.frame.Frame.TheVariants as frame
use Rattle.term_model.specs.declared.kept.Outcome.TheVariants as outcome
use Rattle.term_model.specs.declared.plain.Plain.TheVariants as plain
use Rattle.term_model.specs.Label.{Label, Ended, Out, Routed, Took, messages_in}
use Rattle.term_model.specs.Room.{limit}
use Rattle.term_model.specs.Term.{Context}
use Rattle.worked_sessions.specs.Entries.{entry}
use Rattle.worked_sessions.specs.FirstImage.{image}
use Rattle.worked_sessions.specs.Information.{asked, journal, message, messages}
use Rattle.worked_sessions.proofs.BurstLemmas.{made, makes-made}
use Rattle.worked_sessions.proofs.FirstImageLemmas.{user, user-place, info-first}
use Rattle.worked_sessions.proofs.VariantLemmas.{form-list, form-sym}

-- ---- the worker

abbrev at : Context → Focus → Mailbox → List Label → Now
at c f mailbox ls = record { thread = 2; context = c; redex = f; serial = 0; mailbox = mailbox; image = image; tag = 1; inspected = []; threads = 1 ∷ 2 ∷ []; most = 0; labels = ls; over = false; closed = false }

abbrev reply : Sexp
reply = connection_info image

abbrev request : Context
request = frame.Rex 0 (pos 1) asked ∷ []

abbrev binding : Context
binding = frame.On (plain.Dynamic package_variable (value.Str user)) ∷ request

abbrev called : Now
called = at binding focus.Rpc [] (Took 2 0 pattern.Rex ∷ [])

abbrev answered : Now
answered = at binding (focus.Given (outcome.Reply reply)) [] []

abbrev passed : Now
passed = at request (focus.Given (outcome.Reply reply)) [] []

abbrev ended : Now
ended = record (at [] (focus.Wait pattern.Rex) [] (Ended 2 0 (returned.Ok reply) ∷ Out (to_emacs.Return (pos 1) (returned.Ok reply)) ∷ [])) { over = true }

-- ---- its steps

abbrev head : List ℕ
head = codes "SWANK:CONNECTION-INFO"

weighs : weight_of asked ≡ 23
weighs = simp (form-list, form-sym)

takes : step_as_built rules.built rules (at [] (focus.Wait pattern.Rex) ((0, message) ∷ []) []) ≡ called
unfolding limit
takes = rw (form.outs-List (form.Sym head ∷ []), form.outs-Sym head, user-place) refl

calls : step_as_built rules.built rules (record called { labels = [] }) ≡ answered
unfolding limit
calls = rw (weighs, form.outs-List (form.Sym head ∷ []), form.outs-Sym head) refl

passes : step_as_built rules.built rules answered ≡ passed
unfolding limit
passes = refl

ends : step_as_built rules.built rules passed ≡ ended
unfolding limit
ends = refl

-- ---- the session

abbrev lent : World
lent = run rules image (entry (Arrive message) ∷ entry (Lend 2) ∷ [])

bursts : steps rules 4 2 lent ≡ made lent 2 (called ∷ answered ∷ passed ∷ ended ∷ [])
bursts = makes-made rules 2 (called ∷ answered ∷ passed ∷ ended ∷ []) lent (takes, (calls, (passes, (ends, tt))))

abbrev from_burst : Happened → Happened
from_burst h = then (counted (then h (returns 2))) (λ w. run_from rules w (entry (Drain 1) ∷ entry End ∷ []))

pub writes : outputs rules image journal ≡ messages
writes =
    ap (λ h. messages_in (Routed 2 0 message ∷ (from_burst h).labels)) bursts
    ∙ ap (λ (r : Sexp). to_emacs.Return (pos 1) (returned.Ok r) ∷ []) info-first
