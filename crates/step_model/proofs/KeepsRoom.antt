-- A step and a break keep the layers within their limit.
use Rattle.std.proofs.Common.{◌≡◌, ℕ, suc, ◌+◌, ◌≤◌, Bool, true, false, [], ◌∷◌, map, refl, sym, ap, subst, arith}
use Rattle.std.proofs.lemmas.Bool.{false≢true}
use Rattle.lisp_data.specs.declared.value.Value.TheViews.{out-Value}
use Rattle.rpc_messages.specs.declared.from_emacs.FromEmacs.TheVariants as mail
use Rattle.rpc_messages.specs.declared.pattern.Pattern.TheVariants as pattern
use Rattle.term_model.specs.declared.end.End.{End}
use Rattle.term_model.specs.declared.end.End.TheVariants as end
use Rattle.term_model.specs.declared.focus.Focus.{Focus}
use Rattle.term_model.specs.declared.focus.Focus.TheVariants as focus
use Rattle.term_model.specs.declared.frame.Frame.{Frame}
use Rattle.term_model.specs.declared.frame.Frame.TheVariants as frame
use Rattle.term_model.specs.declared.kept.Outcome.{Outcome}
use Rattle.term_model.specs.declared.kept.Outcome.TheVariants as outcome
use Rattle.term_model.specs.declared.plain.Plain.TheVariants as plain
use Rattle.term_model.specs.Breaks.{broken_at, may_open}
use Rattle.term_model.specs.Restarts.{abort_exit}
use Rattle.term_model.specs.Room.{layers, levels, limit, room}
use Rattle.term_model.specs.Term.{Context}
use Rattle.term_model.specs.Variables.{with_dynamic, with_lexical}
use Rattle.step_model.specs.Act as act
use Rattle.step_model.specs.Act.{Act}
use Rattle.step_model.specs.AsBuilt.{leaving, limited, step_as_built}
use Rattle.step_model.specs.Built.{Built}
use Rattle.step_model.specs.Decision.{decided}
use Rattle.step_model.specs.Facts.{IsSound, bares, waits}
use Rattle.step_model.specs.Now.{Now, around, tells}
use Rattle.step_model.specs.Perform.{assigns, awaited, carried, interrupted, offering, outward, perform, sets, written}
use Rattle.step_model.specs.Rooms.{BrokenRoom, HasRoom, HasRoomBroken, LayersRoom, RedexRoom, extra, is_offering, number_if}
use Rattle.step_model.specs.Kinds.{gives_made}
use Rattle.step_model.specs.Requests.{asked, finished}
use Rattle.step_model.specs.Rules.{Rules}
use Rattle.step_model.specs.Step.{announced_at, begun, carried_out, step}
use Rattle.step_model.specs.Table.{answered, came_upon, given_row, row}
use Rattle.step_model.proofs.AsBuiltLemmas.{either_way}
use Rattle.step_model.proofs.BareLemmas.{bares-with_dynamic, bares-with_lexical, length-bares, levels-bares}
use Rattle.step_model.proofs.Carrying.{Asked, Carries, carries}
use Rattle.step_model.proofs.ExitRooms.{Bounded, exits_lands, redex_bounded, rooms}
use Rattle.step_model.proofs.PerformFits.{ActFits, EndFits, assigns_same, bares-outward, first_is_accepted, known, none_awaited, placed, request_awaited, sets_same}
use Rattle.step_model.proofs.RoomLemmas.{Inner, Roomy, any_redex, exhausted_room, few_cushion, lays_room, limit-least, limit-more, opens_room}
use Rattle.step_model.proofs.RowFits.{row_fits}
use Rattle.step_model.proofs.TargetFits.{abort_fits}

-- where there is room for one layer more
one_more : (c : Context) (space : ℕ) → room c ≡ suc space → layers (bares c) + 1 ≤ limit (levels (bares c))
one_more c space e =
    let k : room c ≡ suc space = e in omega (arith, length-bares c, ap limit (levels-bares c))

-- ---- waiting for a request

two_extra : (d : Context) → extra d ≤ 2
two_extra [] = omega arith
two_extra (l ∷ d) = two_if (is_offering l)
  where
    two_if : (b : Bool) → number_if 2 b ≤ 2
    two_if true = omega arith
    two_if false = omega arith

-- a thread that waits for a request has room for one
pub waits_room : (d : Context) → waits d ≡ true → LayersRoom d → layers d + 2 ≤ limit (levels d)
waits_room [] e h = omega (arith, limit-least 0)
waits_room (frame.Sldb n condition again ∷ d) e h = omega (arith, limit-more (levels d), two_extra d, h.0)
waits_room (frame.On p ∷ d) e h = absurd (false≢true e)
waits_room (frame.Protect k cleanup ∷ d) e h = absurd (false≢true e)
waits_room (frame.Cleanup k kept ∷ d) e h = absurd (false≢true e)
waits_room (frame.Rex i id form ∷ d) e h = absurd (false≢true e)
waits_room (frame.Ask kind tag ∷ d) e h = absurd (false≢true e)

carries_room : Carries rooms
carries_room = record {
  passes = λ n h. (h.0, (h.1.rooms, omega (arith, h.1.within)));
  redex = λ n h. h.1;
  place = λ n h. (h.0, omega (arith, h.1, few_cushion (bares n.context)));
  value = λ v. tt;
  bare = λ n. tt;
  whole = λ es. tt;
  part = λ e. tt;
  gives = λ n o h. record { layers = h.0.0; redex = h.0.1 };
  lays = λ n ps found h. lays_room n ps found h.0.0 h.0.1;
  resumes = λ n q c v found e h. ((h.0.1, omega (arith, h.1)), tt);
  exits = exits_lands;
  aborts = λ n h. (h.1.0, redex_bounded focus.Abort (bares n.context) h.1.1, abort_fits n.context);
  debugs = λ n condition e h. opens_room n condition h.1.rooms (omega (arith, h.1.within));
  breaks = λ n o e h g. opens_room (offering n o) interrupted (tt, h.1.0) (omega (arith, h.1.1));
  exhausts = λ n h. exhausted_room n (may_open n.most n.context) h.1;
  turns = λ n i cleanup c o h g. ((tt, h.1.0.1), omega (arith, h.1.1));
  keeps = λ n i c o h. ((h.1.0.1, omega (arith, h.1.1)), tt);
  leaves = λ n i c target b h. (h.1.0.1, redex_bounded focus.Rpc (bares c) (omega (arith, h.1.1)), h.0.layers.0.1);
  replies = λ n at id form c r h g e. record { layers = h.1.0.1; redex = omega (arith, h.1.1) };
  protects = λ n space cleanup e h. ((tt, h.1.rooms), omega (arith, one_more n.context space e));
  protects_value = λ n v cleanup h. record { layers = (tt, h.1.rooms); redex = omega (arith, h.1.within) };
  asks = λ n space kind text e h.
      let more = one_more n.context space e in
      record { layers = (more, h.1.rooms); redex = any_redex (focus.Wait (awaited kind n.tag)) (frame.Ask kind n.tag ∷ bares n.context) (omega arith) };
  closes = λ n h. record { layers = h.1.rooms; redex = h.1.within };
  waits = λ n q h. record { layers = h.1.rooms; redex = any_redex (focus.Wait q) (bares n.context) h.1.within };
  begins = λ n q i form package' thread id e h.
      let is = request_awaited q form package' thread id (bares n.context) (first_is_accepted q n.mailbox (i, mail.Rex form package' thread id) e) h.0 in
      (((tt, h.1.rooms), omega (arith, waits_room (bares n.context) is h.1.rooms)), tt, tt);
  answers = λ n q i m e a h. (h.1.rooms, omega (arith, h.1.within));
  hears = λ n q i m e a h. absurd (none_awaited q m (first_is_accepted q n.mailbox (i, m) e) a);
}

-- ---- acts within the limit

outward_inner : (c : Context) → LayersRoom (bares c) → layers (bares c) ≤ limit (levels (bares c)) → Inner (bares (outward c))
outward_inner [] h g = record { rooms = h; within = g }
outward_inner (frame.On p ∷ c) h g = record { rooms = h.1; within = omega arith }
outward_inner (frame.Ask kind tag ∷ c) h g = record { rooms = h.1; within = omega arith }
outward_inner (frame.Protect k cleanup ∷ c) h g = record { rooms = h; within = g }
outward_inner (frame.Cleanup k kept ∷ c) h g = record { rooms = h; within = g }
outward_inner (frame.Rex i id form ∷ c) h g = record { rooms = h; within = g }
outward_inner (frame.Sldb m condition again ∷ c) h g = record { rooms = h; within = g }

-- a record of both, to be carried to another context with the same bare layers
both : (d e : Context) → d ≡ e → Inner d → Inner e
both d e same i = subst Inner same i

end_asks : (n : Now) (e : End) → EndFits known e (bares n.context) → Inner (bares n.context) → Asked rooms e n
end_asks n (end.Goes ps found) f i = ((i.rooms, omega (arith, i.within)), tt, tt)
end_asks n (end.Gives o) f i = ((i.rooms, omega (arith, i.within)), tt)
end_asks n (end.Raises condition) f i = ((i.rooms, omega (arith, i.within)), tt, tt)
end_asks n (end.Resumes g) f i = record { layers = i.rooms; redex = any_redex g (bares n.context) i.within }
end_asks n (end.Passes o) f i = ((placed f.0, (i.rooms, omega (arith, i.within))), tt, tt)
end_asks n (end.Protects e cleanup) f i = (placed f, i)
end_asks n (end.Asks kind text) f i = (placed f, i)
end_asks n (end.Opens condition) f i = (placed f, i)
end_asks n (end.Breaks o) f i = ((placed f, (i.rooms, omega (arith, i.within))), tt)
end_asks n (end.Exits x) f i = (i.rooms, redex_bounded focus.Rpc (bares n.context) i.within, f.1)
end_asks n (end.Takes p) f i = ((f tt).1, i)
end_asks n end.Closes f i = (placed f, i)

perform_room : (n : Now) (a : Act) → ActFits known a (bares n.context) → Inner (bares n.context) → Roomy (perform n a)
perform_room n (act.Ends e) f i = carries rooms carries_room n e (end_asks n e f i)
perform_room n (act.Outward a) f i =
    perform_room (around n (outward n.context)) a (subst (λ d. ActFits known a d) (sym (bares-outward n.context)) f) (outward_inner n.context i.rooms i.within)
perform_room n (act.Writes ws a) f i = perform_room (tells n (map written ws)) a f i
perform_room n (act.Changes image a) f i = perform_room (record n { image = image }) a f i
perform_room n (act.Inspects vs a) f i = perform_room (record n { inspected = vs }) a f i
perform_room n (act.Assigns x v a) f i =
    let same : bares (assigns n x v).context ≡ bares n.context = assigns_same n x v (with_lexical x v n.context) (bares-with_lexical x v n.context) in
    perform_room (assigns n x v) a (subst (λ d. ActFits known a d) (sym same) f) (both (bares n.context) (bares (assigns n x v).context) (sym same) i)
perform_room n (act.Sets x v a) f i =
    let same : bares (sets n x v).context ≡ bares n.context = sets_same n x v (with_dynamic x v n.context) (bares-with_dynamic x v n.context) in
    perform_room (sets n x v) a (subst (λ d. ActFits known a d) (sym same) f) (both (bares n.context) (bares (sets n x v).context) (sym same) i)

-- ---- the redexes that may be past the limit

abbrev is_plain_or_question : Frame → Bool
is_plain_or_question (frame.On p) = true
is_plain_or_question (frame.Ask kind tag) = true
is_plain_or_question _ = false

-- what is around the layer of an outcome is within the limit
tail_inner : (l : Frame) (c : Context) → is_plain_or_question l ≡ true → LayersRoom (bares (l ∷ c)) → layers (bares (l ∷ c)) ≤ limit (levels (bares (l ∷ c))) + 1 → Inner (bares c)
tail_inner (frame.On p) c e h g = record { rooms = h.1; within = omega arith }
tail_inner (frame.Ask kind tag) c e h g = record { rooms = h.1; within = omega arith }
tail_inner (frame.Protect k cleanup) c e h g = absurd (false≢true e)
tail_inner (frame.Cleanup k kept) c e h g = absurd (false≢true e)
tail_inner (frame.Rex i id form) c e h g = absurd (false≢true e)
tail_inner (frame.Sldb m condition again) c e h g = absurd (false≢true e)

-- an act that begins by leaving the layer directly around
outward_room : (n : Now) (l : Frame) (c : Context) (a : Act) → is_plain_or_question l ≡ true → outward (l ∷ c) ≡ c → ActFits known a (bares c) → LayersRoom (bares (l ∷ c)) → layers (bares (l ∷ c)) ≤ limit (levels (bares (l ∷ c))) + 1 → Roomy (perform (around n (l ∷ c)) (act.Outward a))
outward_room n l c a e same f h g =
    let i = tail_inner l c e h g in
    perform_room (around n (outward (l ∷ c))) a (subst (λ d. ActFits known a (bares d)) (sym same) f) (subst (λ d. Inner (bares d)) (sym same) i)

-- an outcome that is passed on
past_room : (n : Now) (c : Context) (o : Outcome) → EndFits known (end.Passes o) (bares c) → LayersRoom (bares c) → layers (bares c) ≤ limit (levels (bares c)) + 1 → Roomy (carried (around n c) (end.Passes o))
past_room n c o f h g = carries rooms carries_room (around n c) (end.Passes o) ((placed f.0, (h, g)), tt, tt)

-- leaving by the innermost visible ABORT
abort_room : (n : Now) → LayersRoom (bares n.context) → Bounded (bares n.context) → Roomy (perform n (act.Exits (abort_exit n.context)))
abort_room n h g = carries rooms carries_room n (end.Exits (abort_exit n.context)) (h, g, abort_fits n.context)

-- the row of one thread, carried out by another in the same place
given_room : (rules : Rules) (n m : Now) (c : Context) (o : Outcome) → ActFits known (decided n (given_row rules c o)) (bares c) → LayersRoom (bares c) → layers (bares c) ≤ limit (levels (bares c)) + 1 → Roomy (perform (around m c) (decided n (given_row rules c o)))
given_room rules n m [] o f h g = past_room m [] o f h g
given_room rules n m (frame.On (plain.Before q) ∷ c) o f h g = outward_room m (frame.On (plain.Before q)) c (act.Resumes q) refl refl f h g
given_room rules n m (frame.On (plain.Answer kept) ∷ c) (outcome.Value v) f h g = outward_room m (frame.On (plain.Answer kept)) c (finished (around n c) v (rules.finish (asked (around n c)) kept v)) refl refl f h g
given_room rules n m (frame.On p ∷ c) o f h g = outward_room m (frame.On p) c (act.Gives o) refl refl f h g
given_room rules n m (frame.Ask kind tag ∷ c) (outcome.Value v) f h g = outward_room m (frame.Ask kind tag) c (gives_made (answered kind (out-Value v))) refl refl f h g
given_room rules n m (frame.Ask kind tag ∷ c) (outcome.Reply r) f h g = outward_room m (frame.Ask kind tag) c (act.Gives (outcome.Reply r)) refl refl f h g
given_room rules n m (frame.Protect k cleanup ∷ c) o f h g = past_room m (frame.Protect k cleanup ∷ c) o f h g
given_room rules n m (frame.Cleanup k kept ∷ c) o f h g = past_room m (frame.Cleanup k kept ∷ c) o f h g
given_room rules n m (frame.Rex i id form ∷ c) o f h g = past_room m (frame.Rex i id form ∷ c) o f h g
given_room rules n m (frame.Sldb level condition again ∷ c) o f h g = past_room m (frame.Sldb level condition again ∷ c) o f h g

-- the row of a redex
row_room : (rules : Rules) (n : Now) (f : Focus) → ActFits known (row rules n f) (bares n.context) → LayersRoom (bares n.context) → BrokenRoom f (bares n.context) → Roomy (perform (begun n) (row rules n f))
row_room rules n (focus.Given o) a h g = given_room rules n (begun n) n.context o a h g
row_room rules n (focus.Break o) a h g = carries rooms carries_room (begun n) (end.Breaks (came_upon o)) ((placed a, (h, g)), tt)
row_room rules n focus.Abort a h g = abort_room (begun n) h (redex_bounded focus.Abort (bares n.context) g)
row_room rules n f a h g = perform_room (begun n) (row rules n f) a (record { rooms = h; within = g })

announced_room : (n : Now) (c : Context) (f : Focus) → n.context ≡ c → n.redex ≡ f → Roomy n → Roomy (announced_at n c f)
announced_room n (frame.Sldb m condition true ∷ c) (focus.Wait pattern.Rex) e g r =
    record {
      layers = subst (λ x. LayersRoom (bares x)) e r.layers;
      redex = any_redex (focus.Wait pattern.Rex) (bares (frame.Sldb m condition false ∷ c)) (subst (λ x. RedexRoom (focus.Wait pattern.Rex) (bares x)) e (subst (λ x. RedexRoom x (bares n.context)) g r.redex));
    }
announced_room n c f e g r = r

carried_room : (n : Now) (a : Act) → Roomy (perform (begun n) a) → Roomy (carried_out n a)
carried_room n a r = let d = perform (begun n) a in announced_room d d.context d.redex refl refl r

-- a step keeps the layers within their limit
pub step_rooms : (rules : Rules) (n : Now) → IsSound n.most n.context n.redex → HasRoomBroken n.context n.redex → Roomy (step rules n)
step_rooms rules n s h = carried_room n (row rules n n.redex) (row_room rules n n.redex (row_fits rules n n.redex s.layers s.redex) h.layers h.redex)

pub as_built_rooms : (built : Built) (rules : Rules) (n : Now) → IsSound built.levels n.context n.redex → HasRoomBroken n.context n.redex → Roomy (step_as_built built rules n)
as_built_rooms built rules n s h =
    let m = limited built n in
    either_way Roomy built rules n (step_rooms rules m s h)
    (carried_room m (leaving n) (abort_room (begun m) h.layers (redex_bounded n.redex (bares n.context) h.redex)))

-- what has room has it between an interrupt and the next step
pub weaker : (f : Focus) (d : Context) → RedexRoom f d → BrokenRoom f d
weaker (focus.Break o) d h = omega arith
weaker focus.Abort d h = omega arith
weaker f d h = h

leaving_room : (f : Focus) (d : Context) → RedexRoom f d → layers d ≤ limit (levels d) + 1
leaving_room (focus.Given o) d h = h
leaving_room f d h = let g : layers d ≤ limit (levels d) = h in omega arith

broken_room : (b : Bool) (c : Context) (f : Focus) → HasRoom c f → HasRoomBroken (broken_at b c f).0 (broken_at b c f).1
broken_room true c (focus.Given o) h = record { layers = h.layers; redex = h.redex }
broken_room false c f h = record { layers = h.layers; redex = leaving_room f (bares c) h.redex }
broken_room true c f h = let g : layers (bares c) ≤ limit (levels (bares c)) = h.redex in record { layers = (tt, h.layers); redex = omega arith }

-- a break adds one layer at most
pub break_rooms : (most : ℕ) (c : Context) (f : Focus) → HasRoom c f → HasRoomBroken (broken_at (may_open most c) c f).0 (broken_at (may_open most c) c f).1
break_rooms most c f h = broken_room (may_open most c) c f h

-- a thread that waits for a request has room for one
pub waiting_room : (most : ℕ) (c : Context) → IsSound most c (focus.Wait pattern.Rex) → HasRoom c (focus.Wait pattern.Rex) → layers (bares c) + 2 ≤ limit (levels (bares c))
waiting_room most c s h = waits_room (bares c) s.redex h.layers
