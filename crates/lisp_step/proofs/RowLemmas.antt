-- A step of the table, row by row, as it is seen on the stack, the mailbox, the image and what is written.
use Rattle.std.proofs.Common.{◌≡◌, ℕ, Bool, true, false, List, [], ◌∷◌, map, Option, Some, None, refl, sym, ap, ◌∙◌}
use Rattle.std.proofs.lemmas.List.{append-nil}
use Rattle.std.specs.Prelude.{Result, Ok, Err, ◌&&◌, not, if◌then◌else◌}
use Rattle.lisp_data.specs.declared.sexp.Sexp.{Sexp}
use Rattle.lisp_data.specs.declared.value.Value.{Value}
use Rattle.lisp_frames.specs.Stack.{StackState, with_context, with_redex, within}
use Rattle.lisp_packages.specs.declared.lisp_package.Package.{Package}
use Rattle.lisp_packages.specs.Naming.{Valued, in_named, valued}
use Rattle.mailboxes.specs.Mail.{first_accepted, without_accepted}
use Rattle.rpc_messages.specs.declared.from_emacs.FromEmacs.{FromEmacs}
use Rattle.rpc_messages.specs.declared.from_emacs.FromEmacs.TheVariants as mail
use Rattle.rpc_messages.specs.declared.pattern.Pattern.{Pattern}
use Rattle.rpc_messages.specs.Waiting.{accepted}
use Rattle.sexp_reader.specs.declared.placed.Placed.{Placed}
use Rattle.server_rules.specs.Beside.{Beside}
use Rattle.server_rules.specs.Rules.{rules}
use Rattle.server_rules.specs.Simple.{are_simple}
use Rattle.step_model.specs.Act.{Act, Exits, Gives, Outward}
use Rattle.step_model.specs.CurrentPackage.{current_package}
use Rattle.step_model.specs.Image.{ImageState, with_packages}
use Rattle.step_model.specs.Kinds.{or_refuse}
use Rattle.step_model.specs.Now.{Mailbox, Now, around, tells}
use Rattle.step_model.specs.Perform.{perform, takes, takes_mail, took}
use Rattle.step_model.specs.Perform as act
use Rattle.step_model.specs.Requests.{before_forms, commanded, placed_found, resolved}
use Rattle.step_model.specs.Requests as table
use Rattle.step_model.specs.Roles.{role_of}
use Rattle.step_model.specs.Rules.{Writing, Output, NewPackage}
use Rattle.step_model.specs.Functions.{with_tree}
use Rattle.step_model.specs.Act.{Goes, Changes}
use Rattle.step_model.specs.AsBuilt.{act_if, is_raise, limited, step_as_built}
use Rattle.step_model.specs.Step.{announced}
use Rattle.swank_rpc.specs.Calls.{is_served}
use Rattle.swank_rpc.specs.Commands.{Given, Evaluates, Refuses, Replies, RepliesIn, command_of}
use Rattle.swank_rpc.specs.Finishes.{Ended, finish_of, message_of}
use Rattle.lisp_syntax.specs.Parsing.{parsed}
use Rattle.syntax_trees.specs.declared.ast.Ast.{Ast}
use Rattle.syntax_trees.specs.Places.{row_of}
use Rattle.term_model.specs.declared.focus.Focus.{Focus}
use Rattle.term_model.specs.declared.focus.Focus.TheVariants as focus
use Rattle.term_model.specs.declared.focus.Origin.{Origin}
use Rattle.term_model.specs.declared.found.Found.TheVariants.{Already, Here}
use Rattle.term_model.specs.declared.frame.Frame.TheVariants as frame
use Rattle.term_model.specs.declared.kept.Leaving.{Leaving}
use Rattle.term_model.specs.declared.kept.Outcome.{Outcome}
use Rattle.term_model.specs.declared.kept.Outcome.TheVariants as outcome
use Rattle.term_model.specs.declared.plain.Plain.{Plain}
use Rattle.term_model.specs.declared.plain.Plain.TheVariants as plain
use Rattle.lisp_data.specs.Parts.{nil}
use Rattle.term_model.specs.Label.{messages_in}
use Rattle.term_model.specs.Restarts.{abort_exit}
use Rattle.term_model.specs.Room.{levels}
use Rattle.term_model.specs.Term.{Context}
use Rattle.lisp_step.specs.Machine.{now_of, stack_of}
use Rattle.lisp_step.specs.Rows.{Done, answer_if, called_in, carried_or_left, does, ended_in, finished, formed, given, gives, gone, image_if, image_left, image_with, in_plain, leaves, mail_left, part_of, received, request_of, runs, stays, task_of, tree_in, tree_of, tree_with, waited}
use Rattle.lisp_step.specs.Rows as row
use Rattle.server_rules.specs.Built.{built}
use Rattle.server_rules.proofs.SimpleLemmas.{abort_exit-simple, exits_to_top, messages-left, no_levels, simple_rest}
use Rattle.lisp_step.proofs.LevelLemmas.{announced-none}
use Rattle.lisp_step.proofs.StackLemmas.{given-levels, gives-given, goes-gone, gone-any, gone-levels, given-any, laid-levels, lays-laid, onto, value-levels}

pub record After : Type 0 where
  pub done : Done
  pub mailbox : Mailbox
  pub image : ImageState

abbrev pub after : Now → After
after n = record { done = record { stack = stack_of n; messages = messages_in n.labels; over = n.over }; mailbox = n.mailbox; image = n.image }

abbrev pub left_with : Done → Mailbox → ImageState → After
left_with d mailbox image = record { done = d; mailbox = mailbox; image = image }

settled : (n : Now) → levels n.context ≡ 0 → after (announced n) ≡ after n
settled n e = ap after (announced-none n e)

-- a step that only goes on
goes-on : (n m : Now) (s u : StackState) → n ≡ onto m s → s ≡ u → levels u.context ≡ 0 → after (announced n) ≡ after (onto m u)
goes-on n m s u e same flat = ap (λ (x : Now). after (announced x)) (e ∙ ap (onto m) same) ∙ settled (onto m u) flat

-- ---- mail

accepted-none : (p : Pattern) (entry : ℕ × FromEmacs) (mail : List (ℕ × FromEmacs)) (taken : Bool) → (if taken then Some entry else first_accepted p mail) ≡ None
    → (first_accepted p mail ≡ None → without_accepted p mail ≡ mail) → (if taken then mail else entry ∷ without_accepted p mail) ≡ entry ∷ mail
accepted-none p entry mail true e rest = absurd (cc)
accepted-none p entry mail false e rest = ap (λ xs. entry ∷ xs) (rest e)

-- where nothing is accepted all stays
none-taken : (p : Pattern) (mail : List (ℕ × FromEmacs)) → first_accepted p mail ≡ None → without_accepted p mail ≡ mail
none-taken p [] e = refl
none-taken p (entry ∷ mail) e = accepted-none p entry mail (accepted p entry.1) e (none-taken p mail)

-- ---- messages

messages-written : (ws : List Writing) → messages_in (map act.written ws) ≡ map message_of ws
messages-written [] = refl
messages-written (Output text repl_result ∷ ws) = ap (λ ms. message_of (Output text repl_result) ∷ ms) (messages-written ws)
messages-written (NewPackage name prompt ∷ ws) = ap (λ ms. message_of (NewPackage name prompt) ∷ ms) (messages-written ws)

module _ (t : ℕ) (mailbox : Mailbox) (image : ImageState) (b : Beside) where
  -- what a step reads whose redex is this
  abbrev reads : StackState → Focus → Now
  reads s f = limited built (now_of t (with_redex f s) mailbox image b)

  -- every row that leaves
  left : (s : StackState) (f : Focus) → are_simple s.context ≡ true → after (announced (perform (reads s f) (Exits (abort_exit s.context)))) ≡ left_with (leaves s) mailbox image
  left s f e =
      ap (λ (x : Leaving). after (announced (perform (reads s f) (Exits x)))) (abort_exit-simple s.context e)
      ∙ ap (λ (n : Now). after (announced n)) (exits_to_top (reads s f) e)
      ∙ ap (λ ms. left_with (record { stack = row.at_top s; messages = ms; over = true }) mailbox image) (messages-left t s.context)

  -- ---- waiting

  takes-mail : (s : StackState) (p : Pattern) (i : ℕ) (m : FromEmacs) → are_simple s.context ≡ true
      → takes_mail (took (reads s (focus.Wait p)) p i) i m ≡ onto (took (reads s (focus.Wait p)) p i) (received (with_redex (focus.Wait p) s) image i m)
  takes-mail s p i (mail.Rex form «package» thread id) e = lays-laid (around (took (reads s (focus.Wait p)) p i) (frame.Rex i id form ∷ s.context)) refl _ _ e
  takes-mail s p i (mail.ReturnString thread tag text) e = gives-given (took (reads s (focus.Wait p)) p i) refl _ e
  takes-mail s p i (mail.Return thread tag form) e = gives-given (took (reads s (focus.Wait p)) p i) refl _ e
  takes-mail s p i (mail.Interrupt thread) e = refl
  takes-mail s p i (mail.Unreadable packet text) e = refl

  received-levels : (s : StackState) (i : ℕ) (m : FromEmacs) → levels (received s image i m).context ≡ levels s.context
  received-levels s i (mail.Rex form «package» thread id) = laid-levels (within (frame.Rex i id form) s) _ _
  received-levels s i (mail.ReturnString thread tag text) = value-levels s _
  received-levels s i (mail.Return thread tag form) = value-levels s _
  received-levels s i (mail.Interrupt thread) = refl
  received-levels s i (mail.Unreadable packet text) = refl

  waits : (s : StackState) (p : Pattern) (m : Option (ℕ × FromEmacs)) → are_simple s.context ≡ true → first_accepted p mailbox ≡ m
      → after (announced (takes (reads s (focus.Wait p)) p m)) ≡ left_with (stays (waited (with_redex (focus.Wait p) s) image m)) (without_accepted p mailbox) image
  waits s p None e none =
      settled (reads s (focus.Wait p)) (no_levels s.context e) ∙ ap (λ rest. left_with (stays (with_redex (focus.Wait p) s)) rest image) (sym (none-taken p mailbox none))
  waits s p (Some m) e some =
      let u = received (with_redex (focus.Wait p) s) image m.0 m.1 in
      goes-on (takes_mail (took (reads s (focus.Wait p)) p m.0) m.0 m.1) (took (reads s (focus.Wait p)) p m.0) u u (takes-mail s p m.0 m.1 e) refl (received-levels (with_redex (focus.Wait p) s) m.0 m.1 ∙ no_levels s.context e)

  -- ---- the forms of a text

  -- what is done of this act, where it does not raise
  abbrev acts : Now → Act → After
  acts n a = after (announced (perform n (act_if (true && not (is_raise a)) n a)))

  parses : (s : StackState) (f : Focus) (p : Placed) (ps : List Placed) (origin : Option Origin) (packages : List Package) (tree : Result Ast Value) → are_simple s.context ≡ true
      → acts (reads s f) (Changes (with_packages image packages) (with_tree (reads s f) tree (λ e. Goes (before_forms ps origin) (placed_found e (role_of (row_of e)) origin p.at))))
      ≡ left_with (formed s p.at ps origin (tree_of (tree_with packages tree))) mailbox (image_with image (tree_with packages tree))
  parses s f p ps origin packages (Ok a) e =
      let n = record (reads s f) { image = with_packages image packages } in
      let found = placed_found a (role_of (row_of a)) origin p.at in
      goes-on (act.goes n (before_forms ps origin) found) n (gone (with_redex f s) (before_forms ps origin) found) (gone s (before_forms ps origin) found)
      (goes-gone n refl (before_forms ps origin) found e) (gone-any s f (before_forms ps origin) found) (gone-levels s (before_forms ps origin) found ∙ no_levels s.context e)
  parses s f p ps origin packages (Err bad) e = left s f e

  names : (s : StackState) (f : Focus) (p : Placed) (ps : List Placed) (origin : Option Origin) (found : Valued) → are_simple s.context ≡ true
      → acts (reads s f) (or_refuse found (resolved (reads s f) p ps origin)) ≡ left_with (formed s p.at ps origin (tree_of (tree_in found))) mailbox (image_with image (tree_in found))
  names s f p ps origin (Ok found) e = parses s f p ps origin found.0 (parsed found.1) e
  names s f p ps origin (Err why) e = left s f e

  forms : (s : StackState) (fs : List Placed) (origin : Option Origin) → are_simple s.context ≡ true
      → after (step_as_built rules.built rules (reads s (focus.Forms fs origin))) ≡ left_with (runs image s fs origin) mailbox (row.image_run image s.context fs)
  forms s [] origin e =
      let f = focus.Forms [] origin in
      goes-on (act.goes (reads s f) [] (Already nil)) (reads s f) (gone (with_redex f s) [] (Already nil)) (gone s [] (Already nil))
      (goes-gone (reads s f) refl [] (Already nil) e) (gone-any s f [] (Already nil)) (gone-levels s [] (Already nil) ∙ no_levels s.context e)
  forms s (p ∷ ps) origin e =
      names s (focus.Forms (p ∷ ps) origin) p ps origin (in_named image.packages (current_package image s.context) (λ i. valued i p.form image.packages)) e

  -- ---- requests

  carries : (s : StackState) (served : Bool) (g : Given) → are_simple s.context ≡ true
      → after (announced (perform (reads s focus.Rpc) (act_if (served && not (is_raise (commanded (reads s focus.Rpc) (command_of b.inspected g)))) (reads s focus.Rpc) (commanded (reads s focus.Rpc) (command_of b.inspected g)))))
      ≡ left_with (carried_or_left s (answer_if served g)) mailbox (image_if served image g)
  carries s false g e = left s focus.Rpc e
  carries s true (Replies reply) e =
      let n = reads s focus.Rpc in
      let u = with_redex (focus.Given (outcome.Reply reply)) s in
      goes-on (act.gives n (outcome.Reply reply)) n u u (gives-given n refl (outcome.Reply reply) e) refl (no_levels s.context e)
  carries s true (RepliesIn global reply) e =
      let n = record (reads s focus.Rpc) { image = row.image_if true image (RepliesIn global reply) } in
      let u = with_redex (focus.Given (outcome.Reply reply)) s in
      goes-on (act.gives n (outcome.Reply reply)) n u u (gives-given n refl (outcome.Reply reply) e) refl (no_levels s.context e)
  carries s true (Refuses condition) e = left s focus.Rpc e
  carries s true (Evaluates fs kept) e =
      let n = reads s focus.Rpc in
      let ps = plain.Answer kept ∷ [] in
      let found = Here (focus.Forms fs None) in
      goes-on (act.lays n ps found) n (row.laid s ps found) (row.laid s ps found) (lays-laid n refl ps found e) refl (laid-levels s ps found ∙ no_levels s.context e)

  -- ---- outcomes

  finishes : (s : StackState) (kept : Sexp) (c : Context) (v : Value) (e : Ended) → are_simple c ≡ true
      → acts (reads (with_context (frame.On (plain.Answer kept) ∷ c) s) (focus.Given (outcome.Value v)))
      (Outward (table.finished (reads (with_context c s) (focus.Given (outcome.Value v))) v (finish_of b.inspected e)))
      ≡ left_with (finished (with_context c s) e) mailbox image
  finishes s kept c v (Ok e) simple =
      let n = tells (reads (with_context c s) (focus.Given (outcome.Value v))) (map act.written e.0) in
      let u = with_redex (focus.Given (outcome.Reply e.1)) (with_context c s) in
      goes-on (act.gives n (outcome.Reply e.1)) n u u (gives-given n refl (outcome.Reply e.1) simple) refl (no_levels c simple)
      ∙ ap (λ ms. left_with (record { stack = u; messages = ms; over = false }) mailbox image) (messages-written e.0 ∙ sym (append-nil (map message_of e.0)))
  finishes s kept c v (Err condition) simple = left (with_context (frame.On (plain.Answer kept) ∷ c) s) (focus.Given (outcome.Value v)) simple

  -- a layer that passes it on
  through : (s : StackState) (p : Plain) (c : Context) (o : Outcome) → are_simple c ≡ true
      → acts (reads (with_context (frame.On p ∷ c) s) (focus.Given o)) (Outward (Gives o)) ≡ left_with (stays (given (with_context c s) o)) mailbox image
  through s p c o e =
      let n = reads (with_context c s) (focus.Given o) in
      goes-on (act.gives n o) n (given (with_redex (focus.Given o) (with_context c s)) o) (given (with_context c s) o)
      (gives-given n refl o e) (given-any (with_context c s) (focus.Given o) o) (given-levels (with_context c s) o ∙ no_levels c e)

  in-plain : (s : StackState) (p : Plain) (c : Context) (o : Outcome) → are_simple c ≡ true
      → after (step_as_built rules.built rules (reads (with_context (frame.On p ∷ c) s) (focus.Given o))) ≡ left_with (in_plain image (with_context c s) (part_of p) o) mailbox image
  in-plain s (plain.Before f) c o e = settled (reads (with_context c s) f) (no_levels c e)
  in-plain s (plain.Answer kept) c (outcome.Value v) e = finishes s kept c v (ended_in image c kept v) e
  in-plain s p c o e = through s p c o e

  outcomes : (s : StackState) (c : Context) (o : Outcome) → are_simple c ≡ true
      → after (step_as_built rules.built rules (reads (with_context c s) (focus.Given o))) ≡ left_with (gives image (with_context c s) o) mailbox image
  outcomes s [] o e = left (with_context [] s) (focus.Given o) e
  outcomes s (frame.On p ∷ c) o e = in-plain s p c o (simple_rest (frame.On p) c e)
  outcomes s (frame.Rex i id form ∷ c) (outcome.Reply r) e =
      settled (act.ends (reads (with_context (frame.Rex i id form ∷ c) s) (focus.Given (outcome.Reply r))) c i id r) (no_levels c e)
  outcomes s (frame.Rex i id form ∷ c) (outcome.Value v) e =
      settled (reads (with_context (frame.Rex i id form ∷ c) s) (focus.Given (outcome.Value v))) (no_levels c e)
  outcomes s (frame.Protect k cleanup ∷ c) o e = absurd (cc)
  outcomes s (frame.Cleanup k kept ∷ c) o e = absurd (cc)
  outcomes s (frame.Sldb k condition told ∷ c) o e = absurd (cc)
  outcomes s (frame.Ask kind tag ∷ c) o e = absurd (cc)

  -- ---- the table

  -- a step is what its redex asks for
  pub stepped : (s : StackState) (f : Focus) → are_simple s.context ≡ true
      → after (step_as_built rules.built rules (reads s f)) ≡ left_with (does image mailbox s (task_of f)) (mail_left mailbox (task_of f)) (image_left image s.context (task_of f))
  stepped s (focus.Wait p) e = waits s p (first_accepted p mailbox) e refl
  stepped s (focus.Forms fs origin) e = forms s fs origin e
  stepped s (focus.Given o) e = outcomes s s.context o e
  stepped s focus.Rpc e = carries s (is_served (request_of s.context)) (called_in image s.context) e
  stepped s f e = left s f e
