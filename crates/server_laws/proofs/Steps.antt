-- A step keeps the facts of a thread and of the image; and, where what arrives is small, what it writes fits.
use Rattle.std.proofs.Common.{◌≡◌, ℕ, Bool, true, false, List, [], ◌∷◌, ◌++◌, map, Option, Some, None, Ok, Err, refl, sym, ap, ◌∙◌, subst}
use Rattle.std.specs.Prelude.{if◌then◌else◌, not, Result}
use Rattle.std.proofs.lemmas.Bool.{and_parts, false≢true, not-true, true≢false}
use Rattle.lisp_data.specs.declared.value.Value.{Value}
use Rattle.lisp_packages.specs.Naming.{in_named, valued}
use Rattle.lisp_packages.specs.declared.fault.NameFault.{NameFault}
use Rattle.lisp_packages.specs.declared.lisp_package.Package.{Package}
use Rattle.mailboxes.specs.Mail.{first_accepted, without_accepted}
use Rattle.rpc_messages.specs.Waiting.{accepted}
use Rattle.rpc_messages.specs.declared.from_emacs.FromEmacs.{FromEmacs}
use Rattle.rpc_messages.specs.declared.from_emacs.FromEmacs.TheVariants as mail
use Rattle.rpc_messages.specs.declared.pattern.Pattern.{Pattern}
use Rattle.rpc_messages.specs.declared.to_emacs.ToEmacs.{ToEmacs}
use Rattle.sexp_reader.specs.declared.placed.Placed.{Placed}
use Rattle.lisp_syntax.specs.Parsing.{parsed}
use Rattle.syntax_trees.specs.declared.ast.Ast.{Ast}
use Rattle.syntax_trees.specs.Places.{row_of}
use Rattle.term_model.proofs.Messages.{messages_in-append}
use Rattle.term_model.specs.declared.end.End.{End}
use Rattle.term_model.specs.declared.end.End.TheVariants as end
use Rattle.term_model.specs.declared.focus.Focus.{Focus}
use Rattle.term_model.specs.declared.focus.Focus.TheVariants as focus
use Rattle.term_model.specs.declared.focus.Origin.{Origin}
use Rattle.term_model.specs.declared.found.Found.{Found}
use Rattle.term_model.specs.declared.frame.Frame.TheVariants as frame
use Rattle.term_model.specs.declared.kept.Bring.TheVariants as bring
use Rattle.term_model.specs.declared.kept.Leaving.{Leaving}
use Rattle.term_model.specs.declared.kept.Outcome.{Outcome}
use Rattle.term_model.specs.declared.kept.Outcome.TheVariants as outcome
use Rattle.term_model.specs.declared.plain.Plain.{Plain}
use Rattle.term_model.specs.declared.plain.Plain.TheVariants as plain
use Rattle.term_model.specs.GoingIn.{resumed}
use Rattle.term_model.specs.Label.{Label, messages_in}
use Rattle.term_model.specs.Breaks.{may_open}
use Rattle.term_model.specs.Exit.{stir}
use Rattle.term_model.specs.Restarts.{nothing_at}
use Rattle.term_model.specs.Room.{is_within}
use Rattle.term_model.specs.Search.{layer_at}
use Rattle.term_model.specs.Term.{Context}
use Rattle.step_model.specs.Act as act
use Rattle.step_model.specs.Act.{Act}
use Rattle.step_model.specs.CurrentPackage.{binds_package, bound_package}
use Rattle.step_model.specs.Decision.{decided}
use Rattle.step_model.specs.Functions.{with_tree}
use Rattle.step_model.specs.Kinds.{current, or_refuse}
use Rattle.step_model.specs.Now.{Mailbox, Now, around, puts, tells}
use Rattle.step_model.specs.Perform.{after_leaving, lays, outward, package_bound, perform, took, written}
use Rattle.step_model.specs.Requests.{asked, before_forms, commanded, finished, forms_row, placed_found, resolved}
use Rattle.step_model.specs.Roles.{role_of}
use Rattle.step_model.specs.Rules.{Writing, Output, NewPackage}
use Rattle.step_model.proofs.Carrying.{Asked, Carries, Lands, Property, carries, landing, left_by}
use Rattle.step_model.proofs.FitLemmas.{FoundFits, OptionFits, body_fits, look_fits, resumed_fits}
use Rattle.step_model.proofs.RowFits.{placed_found_fits}
use Rattle.step_model.specs.AsBuilt.{is_built, is_raise, is_row_built, limited, step_as_built}
use Rattle.step_model.specs.Step.{begun}
use Rattle.step_model.specs.Table.{given_row, row}
use Rattle.swank_rpc.specs.Commands.{Given, Replies, RepliesIn, Refuses, Evaluates, called, command_of}
use Rattle.swank_rpc.specs.Finishes.{Ended, ended, finish_of}
use Rattle.server_rules.specs.Going.{entered, laid_in}
use Rattle.server_rules.specs.Leaving.{left_all}
use Rattle.server_rules.specs.Built.{built, has_row}
use Rattle.server_rules.specs.Rules.{rules}
use Rattle.server_rules.proofs.ActsSimple.{leaving_to}
use Rattle.server_rules.proofs.GoingSimple.{lays-simple}
use Rattle.server_rules.proofs.SimpleLemmas.{abort_exit-simple, leaves_to_top, may_open-none, stir-none}
use Rattle.server_rules.proofs.StepSimple.{built_step, unbuilt_step}
use Rattle.server_laws.specs.Small.{AreShortWritings, FitsPacket, HasShortNames, IsSmall}
use Rattle.server_laws.proofs.Messages.{abort_fits, package_fits, reply_fits, text_fits}
use Rattle.server_laws.proofs.Names.{IsShortAnswer, in_named_short, valued_short}
use Rattle.server_laws.proofs.Replies.{IsShortEnd, IsShortGiven, called_short, ended_short}
use Rattle.server_laws.proofs.Terms.{EnteredFits, LayersFit, OutcomeFits, PlainsFit, RedexFits, entered_fits, layers_simple}

abbrev pub Each : List ToEmacs → Type 0
Each [] = Unit {0}
Each (m ∷ ms) = FitsPacket m × Each ms

each-append : (ms ns : List ToEmacs) → Each ms → Each ns → Each (ms ++ ns)
each-append [] ns h k = k
each-append (m ∷ ms) ns h k = (h.0, each-append ms ns h.1 k)

module _ (Small : Type 0) where
  -- each message among these labels fits, where what arrives is small
  abbrev pub AllFit : List Label → Type 0
  AllFit ls = Small → Each (messages_in ls)

  pub fit-append : (ls ks : List Label) → AllFit ls → AllFit ks → AllFit (ls ++ ks)
  fit-append ls ks h k = λ s. subst Each (sym (messages_in-append ls ks)) (each-append (messages_in ls) (messages_in ks) (h s) (k s))

  abbrev pub MailFits : Mailbox → Type 0
  MailFits [] = Unit {0}
  MailFits (m ∷ mb) = (Small → IsSmall m.1) × MailFits mb

  -- what holds of a thread before and after a step
  pub record Fits (n : Now) : Type 0 where
    pub names : HasShortNames n.image
    pub closed : n.most ≡ 0
    pub layers : LayersFit Small n.context
    pub redex : RedexFits n.redex
    pub mail : MailFits n.mailbox
    pub labels : AllFit n.labels

  -- the same but for the redex
  record Stands (n : Now) : Type 0 where
    names : HasShortNames n.image
    closed : n.most ≡ 0
    layers : LayersFit Small n.context
    mail : MailFits n.mailbox
    labels : AllFit n.labels

  stands : (n : Now) → Fits n → Stands n
  stands n h = record { names = h.names; closed = h.closed; layers = h.layers; mail = h.mail; labels = h.labels }

  -- ---- acts

  abbrev pub EndFits : End → Type 0
  EndFits (end.Goes ps found) = PlainsFit ps × FoundFits found
  EndFits (end.Gives o) = OutcomeFits o
  EndFits (end.Resumes f) = RedexFits f
  EndFits (end.Passes o) = OutcomeFits o
  EndFits (end.Exits x) = x ≡ nothing_at 0
  EndFits (end.Takes p) = Unit {0}
  EndFits _ = ⊥

  -- what an act writes is short, and so are the names of the image that it leaves
  abbrev pub ActFits : Act → Type 0
  ActFits (act.Ends e) = EndFits e
  ActFits (act.Outward a) = ActFits a
  ActFits (act.Writes ws a) = AreShortWritings ws × ActFits a
  ActFits (act.Changes image a) = HasShortNames image × ActFits a
  ActFits (act.Inspects vs a) = ActFits a
  ActFits _ = ⊥

  -- a redex in other layers, with the rest as it is
  put_fits : (n : Now) (c : Context) (f : Focus) → Stands n → LayersFit Small c → RedexFits f → Fits (puts n c f)
  put_fits n c f h g k = record { names = h.names; closed = h.closed; layers = g; redex = k; mail = h.mail; labels = h.labels }

  around_stands : (n : Now) (c d : Context) → Stands (around n d) → LayersFit Small c → Stands (around n c)
  around_stands n c d h g = record { names = h.names; closed = h.closed; layers = g; mail = h.mail; labels = h.labels }

  laid_fits : (n : Now) (c : Context) (o : Option Focus) → Stands n → EnteredFits Small (record { around = c; redex = o }) → Fits (laid_in n (record { around = c; redex = o }))
  laid_fits n c (Some f) h e = put_fits n c f h e.around e.redex
  laid_fits n c None h e = put_fits n c focus.Abort h e.around tt

  lays_fits : (n : Now) (ps : List Plain) (found : Found) → Stands n → PlainsFit ps → FoundFits found → Fits (lays n ps found)
  lays_fits n ps found h g k =
      let e = entered (is_within n.context) n.context ps found in
      subst Fits (sym (lays-simple n h.closed ps found (layers_simple Small n.context h.layers))) (laid_fits n e.around e.redex h (entered_fits Small (is_within n.context) n.context ps found h.layers g k))

  -- ---- taking

  without_if : (b : Bool) (m : ℕ × FromEmacs) (mb rest : Mailbox) → (Small → IsSmall m.1) → MailFits mb → MailFits rest → MailFits (if b then mb else m ∷ rest)
  without_if true m mb rest h k g = k
  without_if false m mb rest h k g = (h, g)

  without_fits : (p : Pattern) (mb : Mailbox) → MailFits mb → MailFits (without_accepted p mb)
  without_fits p [] h = tt
  without_fits p (m ∷ mb) h = without_if (accepted p m.1) m mb (without_accepted p mb) h.0 h.1 (without_fits p mb h.1)

  abbrev FoundMail : Option (ℕ × FromEmacs) → Type 0
  FoundMail None = Unit {0}
  FoundMail (Some m) = Small → IsSmall m.1

  first_if : (b : Bool) (m : ℕ × FromEmacs) (o : Option (ℕ × FromEmacs)) → (Small → IsSmall m.1) → FoundMail o → FoundMail (if b then Some m else o)
  first_if true m o h k = h
  first_if false m o h k = k

  first_fits : (p : Pattern) (mb : Mailbox) → MailFits mb → FoundMail (first_accepted p mb)
  first_fits p [] h = tt
  first_fits p (m ∷ mb) h = first_if (accepted p m.1) m (first_accepted p mb) h.0 (first_fits p mb h.1)

  package_plains : (b : Bool) (v : Value) → PlainsFit (package_bound b v)
  package_plains true v = (tt, tt)
  package_plains false v = tt

  -- ---- leaving

  left_fits : (t : ℕ) (c : Context) → LayersFit Small c → AllFit (left_all t c)
  left_fits t [] h = λ s. tt
  left_fits t (frame.On p ∷ c) h = left_fits t c h.1
  left_fits t (frame.Rex i id form ∷ c) h = λ s. (abort_fits id (h.0 s), left_fits t c h.1 s)
  left_fits t (frame.Protect k cleanup ∷ c) h = absurd h.0
  left_fits t (frame.Cleanup k kept ∷ c) h = absurd h.0
  left_fits t (frame.Sldb k condition again ∷ c) h = absurd h.0
  left_fits t (frame.Ask kind tag ∷ c) h = absurd h.0

  -- ---- a property of threads

  abbrev writes : Property
  writes = record {
    inner = λ n. ⊥;
    passing = Stands;
    stands = Stands;
    holds = Stands;
    done = Fits;
    markers = λ ps n. PlainsFit ps;
    form = FoundFits;
    outcome = OutcomeFits;
    passed = λ o. Unit {0};
    exit = λ target b n. Stands n × (leaving_to target b ≡ nothing_at 0);
    waiting = λ q n. Fits n;
  }

  -- where an exit comes to
  abbrev LandsBy : Now → Leaving → Type 0
  LandsBy n x = Lands writes (landing x.bring (layer_at x.target n.context) (left_by n x.target x.bring).todo) (after_leaving n (left_by n x.target x.bring))

  lands_at_top : (n : Now) → Stands n → LandsBy n (nothing_at 0)
  lands_at_top n h =
      let left = left_by n 0 bring.Nothing in
      let all = leaves_to_top n (layers_simple Small n.context h.layers) in
      subst (λ todo. Lands writes (landing bring.Nothing (layer_at 0 n.context) todo) (after_leaving n left)) (sym all.todo)
      (record {
        names = h.names;
        closed = h.closed;
        layers = subst (LayersFit Small) (sym (ap (stir left.stirred) all.around ∙ stir-none left.stirred)) tt;
        redex = tt;
        mail = h.mail;
        labels = fit-append n.labels left.labels h.labels (subst AllFit (sym all.labels) (left_fits n.thread n.context h.layers));
      })

  resumed_stands : (n : Now) (q : Plain) (c : Context) (o : Option Found) (found : Found) → o ≡ Some found → OptionFits q o → Stands (around n (frame.On q ∷ c)) → Stands (around n c) × FoundFits found
  resumed_stands n q c o found e f h = let g : OptionFits q (Some found) = subst (OptionFits q) e f in (around_stands n c (frame.On q ∷ c) h h.layers.1, g.0)

  took_stands : (n : Now) (q : Pattern) (i : ℕ) → Fits n → Stands (took n q i)
  took_stands n q i h =
      record { names = h.names; closed = h.closed; layers = h.layers; mail = without_fits q n.mailbox h.mail; labels = fit-append n.labels _ h.labels (λ s. tt) }

  -- the message that is taken is small
  found_small : (n : Now) (q : Pattern) (m : ℕ × FromEmacs) → first_accepted q n.mailbox ≡ Some m → Fits n → Small → IsSmall m.1
  found_small n q m e h = subst FoundMail e (first_fits q n.mailbox h.mail)

  writes_has : Carries writes
  writes_has = record {
    passes = λ n h. absurd h;
    redex = λ n h. h;
    place = λ n h. h;
    value = λ v. tt;
    bare = λ n. tt;
    whole = body_fits;
    part = look_fits;
    gives = λ n o h. put_fits n n.context (focus.Given o) h.0 h.0.layers h.1;
    lays = λ n ps found h. lays_fits n ps found h.0 h.1 h.2;
    resumes = λ n q c v found e h. resumed_stands n q c (resumed q v) found e (resumed_fits q v) h;
    exits = λ n target b h. subst (LandsBy n) (sym h.1) (lands_at_top n h.0);
    aborts = λ n h. (h, abort_exit-simple n.context (layers_simple Small n.context h.layers));
    debugs = λ n condition e h. absurd h;
    breaks = λ n o e h g. absurd (false≢true (sym (ap (λ k. may_open k n.context) h.closed ∙ may_open-none n.context) ∙ e));
    exhausts = λ n h. absurd h;
    turns = λ n i cleanup c o h g. absurd h.layers.0;
    keeps = λ n i c o h. absurd h.layers.0;
    leaves = λ n i c target b h. absurd h.layers.0;
    replies = λ n at id form c r h g e.
        record { names = h.names; closed = h.closed; layers = h.layers.1; redex = tt; mail = h.mail; labels = fit-append n.labels _ h.labels (λ s. (reply_fits id r (h.layers.0 s) g, tt)) };
    protects = λ n space cleanup e h. absurd h;
    protects_value = λ n v cleanup h. absurd h;
    asks = λ n space kind text e h. absurd h;
    closes = λ n h. absurd h;
    waits = λ n q h. put_fits n n.context (focus.Wait q) (stands n h) h.layers tt;
    begins = λ n q i form package' thread id e h.
        let s : Stands (around (took n q i) (frame.Rex i id form ∷ n.context)) =
        around_stands (took n q i) (frame.Rex i id form ∷ n.context) n.context (took_stands n q i h) (found_small n q (i, mail.Rex form package' thread id) e h, h.layers) in
        (s, package_plains (binds_package form) (bound_package n.image package'), refl);
    answers = λ n q i m e a h. took_stands n q i h;
    hears = λ n q i m e a h. put_fits (took n q i) n.context n.redex (took_stands n q i h) h.layers h.redex;
  }

  end_asks : (n : Now) (e : End) → EndFits e → Fits n → Asked writes e n
  end_asks n (end.Goes ps found) g h = (stands n h, g.0, g.1)
  end_asks n (end.Gives o) g h = (stands n h, g)
  end_asks n (end.Resumes f) g h = put_fits n n.context f (stands n h) h.layers g
  end_asks n (end.Passes o) g h = (stands n h, g, tt)
  end_asks n (end.Exits x) g h = (stands n h, g)
  end_asks n (end.Takes p) g h = h
  end_asks n e g h = absurd g

  -- ---- carrying acts out

  outward_fits : (c : Context) → LayersFit Small c → LayersFit Small (outward c)
  outward_fits [] h = h
  outward_fits (frame.On p ∷ c) h = h.1
  outward_fits (frame.Rex i id form ∷ c) h = h
  outward_fits (frame.Protect k cleanup ∷ c) h = h
  outward_fits (frame.Cleanup k kept ∷ c) h = h
  outward_fits (frame.Sldb k condition again ∷ c) h = h
  outward_fits (frame.Ask kind tag ∷ c) h = absurd h.0

  writings_fit : (ws : List Writing) → AreShortWritings ws → AllFit (map written ws)
  writings_fit [] h = λ s. tt
  writings_fit (Output text repl_result ∷ ws) h = λ s. (text_fits text repl_result h.0, writings_fit ws h.1 s)
  writings_fit (NewPackage name prompt ∷ ws) h = λ s. (package_fits name prompt h.0.0 h.0.1, writings_fit ws h.1 s)

  perform_fits : (n : Now) (a : Act) → ActFits a → Fits n → Fits (perform n a)
  perform_fits n (act.Ends e) g h = carries writes writes_has n e (end_asks n e g h)
  perform_fits n (act.Outward a) g h = perform_fits (around n (outward n.context)) a g (put_fits n (outward n.context) n.redex (stands n h) (outward_fits n.context h.layers) h.redex)
  perform_fits n (act.Writes ws a) g h =
      perform_fits (tells n (map written ws)) a g.1
      (record { names = h.names; closed = h.closed; layers = h.layers; redex = h.redex; mail = h.mail; labels = fit-append n.labels (map written ws) h.labels (writings_fit ws g.0) })
  perform_fits n (act.Changes image a) g h =
      perform_fits (record n { image = image }) a g.1 (record { names = g.0; closed = h.closed; layers = h.layers; redex = h.redex; mail = h.mail; labels = h.labels })
  perform_fits n (act.Inspects vs a) g h =
      perform_fits (record n { inspected = vs }) a g (record { names = h.names; closed = h.closed; layers = h.layers; redex = h.redex; mail = h.mail; labels = h.labels })
  perform_fits n (act.Assigns x v a) g h = absurd g
  perform_fits n (act.Sets x v a) g h = absurd g

  -- ---- rows

  commanded_fits : (n : Now) (g : Given) → HasShortNames n.image → IsShortGiven g → is_raise (commanded n (command_of n.inspected g)) ≡ false → ActFits (commanded n (command_of n.inspected g))
  commanded_fits n (Replies reply) h k e = k
  commanded_fits n (RepliesIn global reply) h k e = (h, k)
  commanded_fits n (Refuses condition) h k e = absurd (true≢false e)
  commanded_fits n (Evaluates forms kept) h k e = ((tt, tt), refl)

  finished_fits : (n : Now) (v : Value) (e : Ended) → IsShortEnd e → is_raise (finished n v (finish_of n.inspected e)) ≡ false → ActFits (finished n v (finish_of n.inspected e))
  finished_fits n v (Ok e) h r = h
  finished_fits n v (Err condition) h r = absurd (true≢false r)

  before_fit : (ps : List Placed) (origin : Option Origin) → PlainsFit (before_forms ps origin)
  before_fit [] origin = tt
  before_fit (p ∷ ps) origin = (tt, tt)

  tree_fits : (n : Now) (tree : Result Ast Value) (p : Placed) (ps : List Placed) (origin : Option Origin)
      → is_raise (with_tree n tree (λ e. act.Goes (before_forms ps origin) (placed_found e (role_of (row_of e)) origin p.at))) ≡ false
      → ActFits (with_tree n tree (λ e. act.Goes (before_forms ps origin) (placed_found e (role_of (row_of e)) origin p.at)))
  tree_fits n (Ok e) p ps origin r = (before_fit ps origin, placed_found_fits e (role_of (row_of e)) origin p.at)
  tree_fits n (Err bad) p ps origin r = absurd (true≢false r)

  resolved_fits : (n : Now) (p : Placed) (ps : List Placed) (origin : Option Origin) (named : Result (List Package × Value) NameFault)
      → IsShortAnswer named → is_raise (or_refuse named (resolved n p ps origin)) ≡ false → ActFits (or_refuse named (resolved n p ps origin))
  resolved_fits n p ps origin (Ok found) h r = (h, tree_fits n (parsed found.1) p ps origin r)
  resolved_fits n p ps origin (Err why) h r = absurd (true≢false r)

  forms_fit : (n : Now) (forms : List Placed) (origin : Option Origin) → HasShortNames n.image → is_raise (forms_row n forms origin) ≡ false → ActFits (forms_row n forms origin)
  forms_fit n [] origin h r = (tt, tt)
  forms_fit n (p ∷ ps) origin h r =
      let packages = n.image.packages in
      resolved_fits n p ps origin (in_named packages (current n) (λ i. valued i p.form packages))
      (in_named_short packages (current n) (λ i. valued i p.form packages) (λ i. valued_short i p.form packages h)) r

  outcome_row : (n : Now) (c : Context) (o : Outcome) → HasShortNames n.image → LayersFit Small c → OutcomeFits o → has_row c (focus.Given o) ≡ true
      → is_raise (decided n (given_row rules c o)) ≡ false → ActFits (decided n (given_row rules c o))
  outcome_row n [] o h g k e r = absurd (false≢true e)
  outcome_row n (frame.On (plain.Before f) ∷ c) o h g k e r = g.0
  outcome_row n (frame.On (plain.Answer kept) ∷ c) (outcome.Value v) h g k e r =
      let a = asked (around n c) in finished_fits (around n c) v (ended a.form kept v a.current a.image) (ended_short a.form kept v a.current a.image h) r
  outcome_row n (frame.On p ∷ c) o h g k e r = k
  outcome_row n (frame.Rex i id form ∷ c) o h g k e r = k
  outcome_row n (frame.Protect j cleanup ∷ c) o h g k e r = absurd (false≢true e)
  outcome_row n (frame.Cleanup j kept ∷ c) o h g k e r = absurd (false≢true e)
  outcome_row n (frame.Sldb j condition again ∷ c) o h g k e r = absurd (false≢true e)
  outcome_row n (frame.Ask kind tag ∷ c) o h g k e r = absurd (false≢true e)

  -- a built row
  row_fits : (n : Now) (f : Focus) → Fits n → RedexFits f → is_row_built built n f ≡ true → is_raise (row rules n f) ≡ false → ActFits (row rules n f)
  row_fits n (focus.Wait p) h k e r = tt
  row_fits n (focus.Forms forms origin) h k e r = forms_fit n forms origin h.names r
  row_fits n focus.Abort h k e r = abort_exit-simple n.context (layers_simple Small n.context h.layers)
  row_fits n (focus.Given o) h k e r = outcome_row n n.context o h.names h.layers k e r
  row_fits n focus.Rpc h k e r = let a = asked n in commanded_fits n (called a.form a.current a.image) h.names (called_short a.form a.current a.image h.names) r
  row_fits n f h k e r = absurd (false≢true e)

  -- ---- steps

  begun_fits : (n : Now) → Fits n → Fits (begun n)
  begun_fits n h = record { names = h.names; closed = h.closed; layers = h.layers; redex = h.redex; mail = h.mail; labels = λ s. tt }

  step_by : (n : Now) (b : Bool) → is_built built rules (limited built n) ≡ b → Fits (limited built n) → Fits (step_as_built built rules n)
  step_by n true e h =
      let m = limited built n in
      let parts = and_parts (is_row_built built m m.redex) (not (is_raise (row rules m m.redex))) e in
      let fits = row_fits m m.redex h h.redex parts.0 (not-true (is_raise (row rules m m.redex)) parts.1) in
      subst Fits (sym (built_step n (layers_simple Small n.context h.layers) e)) (perform_fits (begun m) (row rules m m.redex) fits (begun_fits m h))
  step_by n false e h =
      subst Fits (sym (unbuilt_step n (layers_simple Small n.context h.layers) e))
      (record { names = h.names; closed = refl; layers = tt; redex = tt; mail = h.mail; labels = left_fits n.thread n.context h.layers })

  -- a step keeps the facts, and what it tells fits
  pub step_fits : (n : Now) → Fits (limited built n) → Fits (step_as_built built rules n)
  step_fits n h = step_by n (is_built built rules (limited built n)) refl h
