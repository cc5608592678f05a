-- What carrying an end out needs of a property so that it gives it: one proof over the functions that carry ends out.
use Rattle.std.proofs.Common.{◌≡◌, ℕ, ℤ, zero, suc, ◌+◌, Bool, true, false, List, [], ◌∷◌, Option, Some, None, refl, sym, subst}
use Rattle.std.specs.Prelude.{slice_get}
use Rattle.std.proofs.lemmas.Bool.{false≢true}
use Rattle.lisp_data.specs.declared.sexp.Sexp.{Sexp}
use Rattle.lisp_data.specs.declared.sexp.Sexp.TheViews.{out-Sexp}
use Rattle.lisp_data.specs.declared.value.Value.{Value}
use Rattle.lisp_data.specs.declared.value.Value as value
use Rattle.lisp_data.specs.declared.value.Condition.{Condition}
use Rattle.lisp_data.specs.Parts.{nil}
use Rattle.mailboxes.specs.Mail.{first_accepted}
use Rattle.rpc_messages.specs.declared.from_emacs.FromEmacs.{FromEmacs}
use Rattle.rpc_messages.specs.declared.from_emacs.FromEmacs.TheVariants as mail
use Rattle.rpc_messages.specs.declared.from_emacs.ThreadName.{ThreadName}
use Rattle.rpc_messages.specs.declared.pattern.Pattern.{Pattern}
use Rattle.rpc_messages.specs.declared.pattern.Pattern.TheVariants as pattern
use Rattle.syntax_trees.specs.declared.ast.Ast.{Ast}
use Rattle.syntax_trees.specs.Places.{forms_of, row_of}
use Rattle.term_model.specs.declared.end.End.{End}
use Rattle.term_model.specs.declared.end.End.TheVariants as end
use Rattle.term_model.specs.declared.focus.Focus.{Focus}
use Rattle.term_model.specs.declared.focus.Focus.TheVariants as focus
use Rattle.term_model.specs.declared.found.Found.{Found}
use Rattle.term_model.specs.declared.found.Found.TheVariants.{Already, Here, Inside}
use Rattle.term_model.specs.declared.frame.Frame.{Frame}
use Rattle.term_model.specs.declared.frame.Frame.TheVariants as frame
use Rattle.term_model.specs.declared.kept.Bring.{Bring}
use Rattle.term_model.specs.declared.kept.Bring.TheVariants as bring
use Rattle.term_model.specs.declared.kept.Outcome.{Outcome}
use Rattle.term_model.specs.declared.kept.Outcome.TheVariants as outcome
use Rattle.term_model.specs.declared.kept.Saved.TheVariants as saved
use Rattle.term_model.specs.declared.plain.Cluster.TheVariants.{Clauses}
use Rattle.term_model.specs.declared.plain.Plain.{Plain}
use Rattle.term_model.specs.declared.plain.Plain.TheVariants as plain
use Rattle.term_model.specs.declared.question.Ask.{Ask}
use Rattle.term_model.specs.declared.restart.Action.{Action}
use Rattle.term_model.specs.declared.restart.Action.TheVariants.{Give, Run}
use Rattle.term_model.specs.declared.restart.Offer.{Offer}
use Rattle.term_model.specs.Breaks.{may_open}
use Rattle.term_model.specs.Exit.{Left, distance, leave}
use Rattle.term_model.specs.GoingIn.{body, look, resumed, value_in}
use Rattle.term_model.specs.Label.{Out}
use Rattle.term_model.specs.Restarts.{abort_exit}
use Rattle.term_model.specs.Room.{room}
use Rattle.term_model.specs.Search.{layer_at}
use Rattle.term_model.specs.Term.{Context}
use Rattle.step_model.specs.CurrentPackage.{binds_package, bound_package}
use Rattle.step_model.specs.Moves.{is_request}
use Rattle.step_model.specs.Now.{Now, around, puts, tells}
use Rattle.step_model.specs.Roles.{role_of}
use Rattle.step_model.specs.Perform.{after_leaving, answer_in, asking, asks, awaited, breaks_if, calls_again, carried, clause_bound, ends, enters_if, exhausted, exits, given, gives, gives_in, goes, interrupted, is_top, lands, lays, offering, opens, package_bound, passes, protects, protects_value, runs_action, runs_clause, runs_handler, runs_offer, takes, took, turned}

-- ---- where an exit comes to

-- an outcome there, a form in markers, or waiting for a request
pub data Landing : Type 0 where
  Giving : Outcome → Landing
  Laying : List Plain → Found → Landing
  Awaiting : Landing

abbrev pub landed : Now → Landing → Now
landed n (Giving o) = gives n o
landed n (Laying ps found) = goes n ps found
landed n Awaiting = record (puts n n.context (focus.Wait pattern.Rex)) { over = is_top n.context }

abbrev pub nothing : Landing
nothing = Giving (outcome.Value nil)

abbrev pub of_clause : Ast → List Value → Landing
of_clause clause vs = Laying (clause_bound (role_of (row_of clause)) vs) (body (forms_of clause))

abbrev pub of_handler : Option Ast → List Value → Landing
of_handler None vs = nothing
of_handler (Some clause) vs = of_clause clause vs

abbrev pub of_action : Action → List Value → Landing
of_action (Give o) vs = Giving o
of_action (Run clause) vs = of_clause clause vs

abbrev pub of_offer : Option Offer → List Value → Landing
of_offer None vs = nothing
of_offer (Some offer) vs = of_action offer.action vs

abbrev pub of_target : Option Frame → ℕ → List Value → Landing
of_target (Some (frame.On (plain.Handlers (Clauses clauses)))) i vs = of_handler (slice_get clauses i) vs
of_target (Some (frame.On (plain.Restarts offers))) i vs = of_offer (slice_get offers i) vs
of_target target i vs = nothing

abbrev pub of_call : Option Frame → Landing
of_call (Some (frame.On (plain.Call f vs))) = Laying [] (Here (focus.Apply f vs))
of_call target = nothing

abbrev pub of_bring : Bring → Option Frame → Landing
of_bring (bring.Value v) target = Giving (outcome.Value v)
of_bring (bring.Reply r) target = Giving (outcome.Reply r)
of_bring (bring.Clause i vs) target = of_target target i vs
of_bring bring.Call target = of_call target
of_bring bring.Nothing target = Awaiting

-- what an exit with this comes to at this target, by the cleanup that runs first
abbrev pub landing : Bring → Option Frame → Option (List Ast) → Landing
landing b target (Some cleanup) = Laying [] (body cleanup)
landing b target None = of_bring b target

handler_is : (n : Now) (clause : Option Ast) (vs : List Value) → runs_handler n clause vs ≡ landed n (of_handler clause vs)
handler_is n None vs = refl
handler_is n (Some clause) vs = refl

action_is : (n : Now) (action : Action) (vs : List Value) → runs_action n action vs ≡ landed n (of_action action vs)
action_is n (Give o) vs = refl
action_is n (Run clause) vs = refl

offer_is : (n : Now) (offer : Option Offer) (vs : List Value) → runs_offer n offer vs ≡ landed n (of_offer offer vs)
offer_is n None vs = refl
offer_is n (Some offer) vs = action_is n offer.action vs

target_is : (n : Now) (target : Option Frame) (i : ℕ) (vs : List Value) → runs_clause n target i vs ≡ landed n (of_target target i vs)
target_is n (Some (frame.On (plain.Handlers (Clauses clauses)))) i vs = handler_is n (slice_get clauses i) vs
target_is n (Some (frame.On (plain.Restarts offers))) i vs = offer_is n (slice_get offers i) vs
target_is n target i vs = refl

call_is : (n : Now) (target : Option Frame) → calls_again n target ≡ landed n (of_call target)
call_is n (Some (frame.On (plain.Call f vs))) = refl
call_is n target = refl

lands_is : (n : Now) (b : Bring) (target : Option Frame) (todo : Option (List Ast)) → lands n b target todo ≡ landed n (landing b target todo)
lands_is n b target (Some cleanup) = refl
lands_is n (bring.Value v) target None = refl
lands_is n (bring.Reply r) target None = refl
lands_is n (bring.Clause i vs) target None = target_is n target i vs
lands_is n bring.Call target None = call_is n target
lands_is n bring.Nothing target None = refl

-- ---- what is asked

-- a property of a thread: where an end is carried out (`inner`; `passing` where the redex is an outcome or an interrupt), where a form may
-- stand in place of the redex (`stands`) or an outcome may (`holds`), and of what comes out (`done`); and what it asks of their parts
pub record Property : Type 1 where
  pub inner : Now → Type 0
  pub passing : Now → Type 0
  pub stands : Now → Type 0
  pub holds : Now → Type 0
  pub done : Now → Type 0
  pub markers : List Plain → Now → Type 0
  pub form : Found → Type 0
  pub outcome : Outcome → Type 0
  -- of an outcome that is passed on
  pub passed : Outcome → Type 0
  pub exit : ℕ → Bring → Now → Type 0
  pub waiting : Pattern → Now → Type 0

-- an outcome in place of the redex, and a form in markers
abbrev pub Given : Property → Outcome → Now → Type 0
Given p o n = p.holds n × p.outcome o

abbrev pub Laid : Property → List Plain → Found → Now → Type 0
Laid p ps found n = p.stands n × p.markers ps n × p.form found

abbrev pub Lands : Property → Landing → Now → Type 0
Lands p (Giving o) n = Given p o n
Lands p (Laying ps found) n = Laid p ps found n
Lands p Awaiting n = p.done (landed n Awaiting)

-- what an end asks
abbrev pub Asked : Property → End → Now → Type 0
Asked p (end.Goes ps found) n = Laid p ps found n
Asked p (end.Gives o) n = Given p o n
Asked p (end.Raises condition) n = Laid p (plain.Before (focus.Enter condition) ∷ []) (Here (focus.Signal condition)) n
Asked p (end.Resumes f) n = p.done (puts n n.context f)
Asked p (end.Passes o) n = p.passing n × p.outcome o × p.passed o
Asked p (end.Protects form cleanup) n = p.inner n
Asked p (end.Asks kind text) n = p.inner n
Asked p (end.Opens condition) n = p.inner n
Asked p (end.Breaks o) n = p.passing n × p.outcome o
Asked p (end.Exits x) n = p.exit x.target x.bring n
Asked p (end.Takes q) n = p.waiting q n
Asked p end.Closes n = p.inner n

-- ---- what is needed

abbrev pub left_by : Now → ℕ → Bring → Left
left_by n target b = leave n.thread (saved.Exit target b) (distance target n.context) n.context

-- with a form that is protected there by this cleanup
abbrev pub protecting : Now → List Ast → Now
protecting n cleanup = around (record n { serial = n.serial + 1 }) (frame.Protect n.serial cleanup ∷ n.context)

-- with a question that is asked there
abbrev pub asked : Now → Ask → List ℕ → Now
asked n kind text = tells (puts (record n { tag = n.tag + 1 }) (frame.Ask kind n.tag ∷ n.context) (focus.Wait (awaited kind n.tag))) (Out (asking kind n.thread n.tag text) ∷ [])

abbrev pub is_answer : FromEmacs → Bool
is_answer (mail.ReturnString thread tag text) = true
is_answer (mail.Return thread tag form) = true
is_answer _ = false

abbrev pub is_other : FromEmacs → Bool
is_other (mail.Interrupt thread) = true
is_other (mail.Unreadable packet text) = true
is_other _ = false

pub no_request : (m : FromEmacs) → is_answer m ≡ true → is_request m ≡ false
no_request (mail.ReturnString thread tag text) e = refl
no_request (mail.Return thread tag form) e = refl
no_request m e = absurd (false≢true e)

pub other_request : (m : FromEmacs) → is_other m ≡ true → is_request m ≡ false
other_request (mail.Interrupt thread) e = refl
other_request (mail.Unreadable packet text) e = refl
other_request m e = absurd (false≢true e)

-- what a property has so that carrying out an end gives it
pub record Carries (p : Property) : Type 0 where
  pub passes : (n : Now) → p.inner n → p.passing n
  pub redex : (n : Now) → p.passing n → p.holds n
  pub place : (n : Now) → p.stands n → p.holds n
  -- outcomes and forms
  pub value : (v : Value) → p.outcome (outcome.Value v)
  pub bare : (n : Now) → p.markers [] n
  pub whole : (forms : List Ast) → p.form (body forms)
  pub part : (form : Ast) → p.form (look form)
  pub gives : (n : Now) (o : Outcome) → Given p o n → p.done (puts n n.context (focus.Given o))
  pub lays : (n : Now) (ps : List Plain) (found : Found) → Laid p ps found n → p.done (lays n ps found)
  pub resumes : (n : Now) (q : Plain) (c : Context) (v : Value) (found : Found) → resumed q v ≡ Some found → p.holds (around n (frame.On q ∷ c)) → p.stands (around n c) × p.form found
  -- exits and the debugger
  pub exits : (n : Now) (target : ℕ) (b : Bring) → p.exit target b n → Lands p (landing b (layer_at target n.context) (left_by n target b).todo) (after_leaving n (left_by n target b))
  pub aborts : (n : Now) → p.passing n → p.exit (abort_exit n.context).target (abort_exit n.context).bring n
  pub debugs : (n : Now) (condition : Condition) → may_open n.most n.context ≡ true → p.inner n → p.done (opens n condition)
  pub breaks : (n : Now) (o : Outcome) → may_open n.most n.context ≡ true → p.passing n → p.outcome o → p.done (opens (offering n o) interrupted)
  pub exhausts : (n : Now) → p.inner n → p.done (exhausted n)
  -- an outcome in the layer that is directly around it
  pub turns : (n : Now) (i : ℕ) (cleanup : List Ast) (c : Context) (o : Outcome) → p.passing (around n (frame.Protect i cleanup ∷ c)) → p.outcome o → p.stands (turned n i o c)
  pub keeps : (n : Now) (i : ℕ) (c : Context) (o : Outcome) → p.passing (around n (frame.Cleanup i (saved.Kept o) ∷ c)) → Given p o (around n c)
  pub leaves : (n : Now) (i : ℕ) (c : Context) (target : ℕ) (b : Bring) → p.passing (around n (frame.Cleanup i (saved.Exit target b) ∷ c)) → p.exit target b (around n c)
  pub replies : (n : Now) (at : ℕ) (id : ℤ) (form : Sexp) (c : Context) (r : Sexp) → p.passing (around n (frame.Rex at id form ∷ c)) → p.outcome (outcome.Reply r) → p.passed (outcome.Reply r) → p.done (ends n c at id r)
  -- new layers
  pub protects : (n : Now) (space : ℕ) (cleanup : List Ast) → room n.context ≡ suc space → p.inner n → p.stands (protecting n cleanup)
  pub protects_value : (n : Now) (v : Value) (cleanup : List Ast) → p.inner n → p.done (puts (protecting n cleanup) (protecting n cleanup).context (focus.Given (outcome.Value v)))
  pub asks : (n : Now) (space : ℕ) (kind : Ask) (text : List ℕ) → room n.context ≡ suc space → p.inner n → p.done (asked n kind text)
  pub closes : (n : Now) → p.inner n → p.done (record (puts n n.context focus.Rpc) { closed = true })
  -- messages
  pub waits : (n : Now) (q : Pattern) → p.waiting q n → p.done (puts n n.context (focus.Wait q))
  pub begins : (n : Now) (q : Pattern) (i : ℕ) (form : Sexp) (package' : Option (List ℕ)) (thread : ThreadName) (id : ℤ)
      → first_accepted q n.mailbox ≡ Some (i, mail.Rex form package' thread id) → p.waiting q n
      → Laid p (package_bound (binds_package form) (bound_package n.image package')) (Here focus.Rpc) (around (took n q i) (frame.Rex i id form ∷ n.context))
  pub answers : (n : Now) (q : Pattern) (i : ℕ) (m : FromEmacs) → first_accepted q n.mailbox ≡ Some (i, m) → is_answer m ≡ true → p.waiting q n → p.holds (took n q i)
  pub hears : (n : Now) (q : Pattern) (i : ℕ) (m : FromEmacs) → first_accepted q n.mailbox ≡ Some (i, m) → is_other m ≡ true → p.waiting q n → p.done (took n q i)

-- ---- what follows

module _ (p : Property) (k : Carries p) where
  given_has : (n : Now) (q : Plain) (c : Context) (v : Value) (x : Option Found) → resumed q v ≡ x → p.holds (around n (frame.On q ∷ c)) → p.done (given n q c v x)
  given_has n q c v (Some found) e h = let on = k.resumes n q c v found e h in k.lays (around n c) [] found (on.0, k.bare (around n c), on.1)
  given_has n q c v None e h = k.gives (around n (frame.On q ∷ c)) (outcome.Value v) (h, k.value v)

  gives_in_has : (n : Now) (c : Context) (o : Outcome) → Given p o (around n c) → p.done (gives_in n c o)
  gives_in_has n (frame.On q ∷ c) (outcome.Value v) h = given_has n q c v (resumed q v) refl h.0
  gives_in_has n c o h = k.gives (around n c) o h

  gives_has : (n : Now) (o : Outcome) → Given p o n → p.done (gives n o)
  gives_has n o h = gives_in_has n n.context o h

  goes_has : (n : Now) (ps : List Plain) (found : Found) → Laid p ps found n → p.done (goes n ps found)
  goes_has n [] (Already v) h = gives_has n (outcome.Value v) (k.place n h.0, k.value v)
  goes_has n [] (Here f) h = k.lays n [] (Here f) h
  goes_has n [] (Inside q e) h = k.lays n [] (Inside q e) h
  goes_has n (q ∷ ps) found h = k.lays n (q ∷ ps) found h

  landed_has : (n : Now) (x : Landing) → Lands p x n → p.done (landed n x)
  landed_has n (Giving o) h = gives_has n o h
  landed_has n (Laying ps found) h = goes_has n ps found h
  landed_has n Awaiting h = h

  exits_has : (n : Now) (target : ℕ) (b : Bring) → p.exit target b n → p.done (exits n target b)
  exits_has n target b h =
      let left = left_by n target b in
      let m = after_leaving n left in
      subst p.done (sym (lands_is m b (layer_at target n.context) left.todo)) (landed_has m (landing b (layer_at target n.context) left.todo) (k.exits n target b h))

  aborts_has : (n : Now) → p.passing n → p.done (exits n (abort_exit n.context).target (abort_exit n.context).bring)
  aborts_has n h = exits_has n (abort_exit n.context).target (abort_exit n.context).bring (k.aborts n h)

  enters_has : (n : Now) (b : Bool) (condition : Condition) → may_open n.most n.context ≡ b → p.inner n → p.done (enters_if b n condition)
  enters_has n true condition e h = k.debugs n condition e h
  enters_has n false condition e h = aborts_has n (k.passes n h)

  breaks_has : (n : Now) (b : Bool) (o : Outcome) → may_open n.most n.context ≡ b → p.passing n → p.outcome o → p.done (breaks_if b n o)
  breaks_has n true o e h g = k.breaks n o e h g
  breaks_has n false o e h g = aborts_has n h

  passes_has : (n : Now) (c : Context) (o : Outcome) → p.passing (around n c) → p.outcome o → p.passed o → p.done (passes n c o)
  passes_has n (frame.Protect i cleanup ∷ c) o h g s = goes_has (turned n i o c) [] (body cleanup) (k.turns n i cleanup c o h g, k.bare (turned n i o c), k.whole cleanup)
  passes_has n (frame.Cleanup i (saved.Kept x) ∷ c) o h g s = gives_has (around n c) x (k.keeps n i c x h)
  passes_has n (frame.Cleanup i (saved.Exit target b) ∷ c) o h g s = exits_has (around n c) target b (k.leaves n i c target b h)
  passes_has n (frame.Rex at id form ∷ c) (outcome.Reply r) h g s = k.replies n at id form c r h g s
  passes_has n c o h g s = k.gives (around n c) o (k.redex (around n c) h, g)

  protects_value_has : (n : Now) (v : Option Value) (cleanup : List Ast) → p.inner n → p.done (protects_value n v cleanup)
  protects_value_has n (Some v) cleanup h = k.protects_value n v cleanup h
  protects_value_has n None cleanup h = k.exhausts n h

  protects_has : (n : Now) (space : ℕ) (e : Ast) (cleanup : List Ast) → room n.context ≡ space → p.inner n → p.done (protects n space e cleanup)
  protects_has n zero e cleanup is h = protects_value_has n (value_in e) cleanup h
  protects_has n (suc space) e cleanup is h = goes_has (protecting n cleanup) [] (look e) (k.protects n space cleanup is h, k.bare (protecting n cleanup), k.part e)

  asks_has : (n : Now) (space : ℕ) (kind : Ask) (text : List ℕ) → room n.context ≡ space → p.inner n → p.done (asks n space kind text)
  asks_has n zero kind text is h = k.exhausts n h
  asks_has n (suc space) kind text is h = k.asks n space kind text is h

  takes_has : (n : Now) (q : Pattern) (o : Option (ℕ × FromEmacs)) → first_accepted q n.mailbox ≡ o → p.waiting q n → p.done (takes n q o)
  takes_has n q None e h = k.waits n q h
  takes_has n q (Some (i, mail.Rex form package' thread id)) e h =
      k.lays (around (took n q i) (frame.Rex i id form ∷ n.context)) (package_bound (binds_package form) (bound_package n.image package')) (Here focus.Rpc) (k.begins n q i form package' thread id e h)
  takes_has n q (Some (i, mail.ReturnString thread tag text)) e h = gives_has (took n q i) (outcome.Value (value.Str text)) (k.answers n q i _ e refl h, k.value _)
  takes_has n q (Some (i, mail.Return thread tag form)) e h = gives_has (took n q i) (outcome.Value (answer_in (out-Sexp form))) (k.answers n q i _ e refl h, k.value _)
  takes_has n q (Some (i, mail.Interrupt thread)) e h = k.hears n q i (mail.Interrupt thread) e refl h
  takes_has n q (Some (i, mail.Unreadable packet text)) e h = k.hears n q i (mail.Unreadable packet text) e refl h

  -- what an end asks is enough
  pub carries : (n : Now) (e : End) → Asked p e n → p.done (carried n e)
  carries n (end.Goes ps found) h = goes_has n ps found h
  carries n (end.Gives o) h = gives_has n o h
  carries n (end.Raises condition) h = k.lays n (plain.Before (focus.Enter condition) ∷ []) (Here (focus.Signal condition)) h
  carries n (end.Resumes f) h = h
  carries n (end.Passes o) h = passes_has n n.context o h.0 h.1 h.2
  carries n (end.Protects form cleanup) h = protects_has n (room n.context) form cleanup refl h
  carries n (end.Asks kind text) h = asks_has n (room n.context) kind text refl h
  carries n (end.Opens condition) h = enters_has n (may_open n.most n.context) condition refl h
  carries n (end.Breaks o) h = breaks_has n (may_open n.most n.context) o refl h.0 h.1
  carries n (end.Exits x) h = exits_has n x.target x.bring h
  carries n (end.Takes q) h = takes_has n q (first_accepted q n.mailbox) refl h
  carries n end.Closes h = k.closes n h

-- ---- properties that ask nothing of markers, forms and outcomes

-- `calm` holds of a thread of which an end is carried out
pub record Free : Type 1 where
  pub calm : Now → Type 0
  pub stands : Now → Type 0
  pub done : Now → Type 0
  pub passed : Outcome → Type 0

abbrev pub free : Free → Property
free f = record {
  inner = f.calm;
  passing = f.calm;
  stands = f.stands;
  holds = f.stands;
  done = f.done;
  markers = λ ps n. Unit {0};
  form = λ found. Unit {0};
  outcome = λ o. Unit {0};
  passed = f.passed;
  exit = λ target b n. f.calm n;
  waiting = λ q n. f.calm n;
}

pub free_lands : (f : Free) (n : Now) (x : Landing) → f.stands n → f.done (landed n Awaiting) → Lands (free f) x n
free_lands f n (Giving o) h g = (h, tt)
free_lands f n (Laying ps found) h g = (h, tt, tt)
free_lands f n Awaiting h g = g

pub free_asks : (f : Free) (n : Now) (e : End) → (f.calm n → f.stands n) → ((g : Focus) → f.calm n → f.done (puts n n.context g)) → ((o : Outcome) → e ≡ end.Passes o → f.passed o) → f.calm n → Asked (free f) e n
free_asks f n (end.Goes ps found) there resumes said h = (there h, tt, tt)
free_asks f n (end.Gives o) there resumes said h = (there h, tt)
free_asks f n (end.Raises condition) there resumes said h = (there h, tt, tt)
free_asks f n (end.Resumes g) there resumes said h = resumes g h
free_asks f n (end.Passes o) there resumes said h = (h, tt, said o refl)
free_asks f n (end.Protects form cleanup) there resumes said h = h
free_asks f n (end.Asks kind text) there resumes said h = h
free_asks f n (end.Opens condition) there resumes said h = h
free_asks f n (end.Breaks o) there resumes said h = (h, tt)
free_asks f n (end.Exits x) there resumes said h = h
free_asks f n (end.Takes q) there resumes said h = h
free_asks f n end.Closes there resumes said h = h
