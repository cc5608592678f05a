-- An entry that the schedule makes next leaves the whole journal as it was; and where the schedule stops.
use Rattle.std.proofs.Common.{◌≡◌, ℕ, zero, suc, ◌+◌, ◌-◌, ◌<◌, ◌≤◌, min, Bool, true, false, List, [], ◌∷◌, ◌++◌, length, Option, Some, None, refl, sym, ap, ◌∙◌, append_assoc, append-nil, length-append, arith}
use Rattle.std.specs.Prelude.{if◌then◌else◌, ◌&&◌, not}
use mathlib.Core.List.{IsPrefix}
use Rattle.rpc_messages.specs.declared.from_emacs.FromEmacs.{FromEmacs}
use Rattle.rpc_messages.specs.declared.to_emacs.ToEmacs.{ToEmacs}
use Rattle.step_model.specs.Image.{ImageState}
use Rattle.session_model.specs.declared.event.Entry.{Entry}
use Rattle.session_model.specs.declared.event.Event.{Event}
use Rattle.session_model.specs.declared.event.Event.TheVariants.{Arrive, End, Lend, Burst, Drain}
use Rattle.session_model.specs.declared.limits.Limits.{Limits}
use Rattle.session_model.specs.Journal.{next, run, steps_of, steps_made}
use Rattle.session_model.specs.Legal.{max_burst}
use Rattle.session_model.specs.Pipe.{Cursor, Turn, turn_to, burst_length, next_ready, feeds, picks, runs, with_place, turns, turn, by_pipe, from_turn, schedule, pipe_journal}
use Rattle.session_model.specs.World.{World, start}
use Rattle.server_rules.specs.Rules.{rules}
use Rattle.swank_core.specs.Session.{Session, opening, with_entry, world}
use Rattle.swank_session.specs.Course.{between, steps_left, whole}
use Rattle.swank_session.proofs.RunLemmas.{run-last, steps_made-last}

-- ---- one entry

schedule-goes : (n : ℕ) (w : World) (c : Cursor) (x : Turn) → turn rules n w c ≡ Some x → schedule rules (suc n) w c ≡ by_pipe x.event ∷ schedule rules n (next rules w (by_pipe x.event)).after x.behind
schedule-goes n w c x e = ap (λ o. from_turn o (λ (x : Turn). by_pipe x.event ∷ schedule rules n (next rules w (by_pipe x.event)).after x.behind)) e

schedule-stops : (n : ℕ) (w : World) (c : Cursor) → ((k : ℕ) → n ≡ suc k → turn rules k w c ≡ None) → schedule rules n w c ≡ []
schedule-stops zero w c e = refl
schedule-stops (suc n) w c e = ap (λ o. from_turn o (λ (x : Turn). by_pipe x.event ∷ schedule rules n (next rules w (by_pipe x.event)).after x.behind)) (e n refl)

-- the places behind the next entry
abbrev pub places_left : Session → ℕ
places_left s = s.limits.journal - (length s.journal + 1)

-- the cursor with the session's count of steps
abbrev pub here : Session → Cursor → Cursor
here s c = record c { steps = steps_left s }

pub world-entry : (s : Session) (seat : ℕ) (e : Event) → world (with_entry s seat e) ≡ (next rules (world s) (record { seat = seat; event = e })).after
world-entry s seat e = run-last rules s.opened s.journal (record { seat = seat; event = e })

steps_left-entry : (s : Session) (e : Event) → steps_left (with_entry s 0 e) ≡ steps_left s - steps_of e
steps_left-entry s e = let h = steps_made-last s.journal (by_pipe e) in rw h (regroup s.limits.steps (steps_made s.journal) (steps_of e))
  where
    regroup : (a b c : ℕ) → a - (b + c) ≡ a - b - c
    regroup a b c = omega arith

whole-step : (s : Session) (c d : Cursor) (e : Event) → length s.journal < s.limits.journal → turn rules (places_left s) (world s) (here s c) ≡ Some (record { event = e; behind = record d { steps = steps_left s - steps_of e } })
    → whole (with_entry s 0 e) d ≡ whole s c
unfolding whole
whole-step s c d e room is =
    let x : Entry = by_pipe e in
    let n : ℕ = places_left s in
    let fuel : s.limits.journal - length s.journal ≡ suc n = less_one s.limits.journal (length s.journal) room in
    let later : s.limits.journal - length (s.journal ++ x ∷ []) ≡ n = ap (λ k. s.limits.journal - k) (length-append s.journal (x ∷ [])) in
    let rest : List Entry = schedule rules n (next rules (world s) x).after (record d { steps = steps_left s - steps_of e }) in
    ap (λ k. (s.journal ++ x ∷ []) ++ schedule rules k (run rules s.opened (s.journal ++ x ∷ [])) (record d { steps = steps_left (with_entry s 0 e) })) later
    ∙ ap (λ (w : World). (s.journal ++ x ∷ []) ++ schedule rules n w (record d { steps = steps_left (with_entry s 0 e) })) (run-last rules s.opened s.journal x)
    ∙ ap (λ k. (s.journal ++ x ∷ []) ++ schedule rules n (next rules (world s) x).after (record d { steps = k })) (steps_left-entry s e)
    ∙ append_assoc s.journal (x ∷ []) rest
    ∙ ap (λ (j : List Entry). s.journal ++ j) (sym (schedule-goes n (world s) (here s c) (record { event = e; behind = record d { steps = steps_left s - steps_of e } }) is))
    ∙ ap (λ k. s.journal ++ schedule rules k (world s) (here s c)) (sym fuel)
  where
    less_one : (a b : ℕ) → b < a → a - b ≡ suc (a - (b + 1))
    less_one a b h = omega (arith, h)

whole-stop : (s : Session) (c : Cursor) → ((k : ℕ) → s.limits.journal - length s.journal ≡ suc k → turn rules k (world s) (here s c) ≡ None) → s.journal ≡ whole s c
unfolding whole
whole-stop s c e = sym (ap (λ (j : List Entry). s.journal ++ j) (schedule-stops (s.limits.journal - length s.journal) (world s) (here s c) e) ∙ append-nil s.journal)

-- what the schedule is behind a journal begins with it
pub whole-begins : (s : Session) (c : Cursor) → IsPrefix s.journal (whole s c)
unfolding whole
whole-begins s c = (schedule rules (s.limits.journal - length s.journal) (world s) (here s c), refl)

pub whole-opening : (image : ImageState) (limits : Limits) (messages : List FromEmacs) (ends : Bool) → whole (opening image limits) (between messages ends 0) ≡ pipe_journal rules image messages ends limits
unfolding whole
whole-opening image limits messages ends =
    ap (λ n. schedule rules n (start image) (record (between messages ends 0) { steps = limits.steps - 0 })) (less_none limits.journal)
    ∙ ap (λ k. schedule rules limits.journal (start image) (record (between messages ends 0) { steps = k })) (less_none limits.steps)
  where
    less_none : (n : ℕ) → n - 0 ≡ n
    less_none n = omega arith

-- ---- what comes next

turn-drains : (n : ℕ) (w : World) (c : Cursor) (k : ℕ) → 0 < k → turns rules n w c k ≡ Some (record { event = Drain k; behind = c })
turn-drains n w c zero h = absurd (omega (arith, h))
turn-drains n w c (suc k) h = refl

-- where outputs are undrained, a drain is next
pub drains-next : (s : Session) (c : Cursor) → 0 < length (world s).undrained → length s.journal < s.limits.journal → whole (with_entry s 0 (Drain (length (world s).undrained))) c ≡ whole s c
drains-next s c some room =
    whole-step s c c (Drain (length (world s).undrained)) room
    (turn-drains (places_left s) (world s) (here s c) (length (world s).undrained) some ∙ ap (λ k. Some (record { event = Drain (length (world s).undrained); behind = record c { steps = k } })) (less_none (steps_left s)))
  where
    less_none : (n : ℕ) → n ≡ n - 0
    less_none n = omega arith

with_place-some : (n : ℕ) (o : Option Turn) → 0 < n → with_place n o ≡ o
with_place-some zero o h = absurd (omega (arith, h))
with_place-some (suc n) o h = refl

-- where nothing is undrained or closed, and a place is left
turn-open : (n : ℕ) (w : World) (c : Cursor) → w.undrained ≡ [] → w.closed ≡ false → 0 < n → turn rules n w c ≡ runs rules w c c.lent
turn-open n w c none still some =
    ap (λ (ms : List ToEmacs). turns rules n w c (length ms)) none
    ∙ ap (λ b. if b then None else with_place n (runs rules w c c.lent)) still
    ∙ with_place-some n (runs rules w c c.lent) some

some_place : (a b : ℕ) → b + 1 < a → 0 < a - (b + 1)
some_place a b h = omega (arith, h)

less_room : (a b : ℕ) → b + 1 < a → b < a
less_room a b h = omega (arith, h)

pub record HasPlace (s : Session) : Type 0 where
  pub drained : (world s).undrained ≡ []
  pub open_ : (world s).closed ≡ false
  pub room : length s.journal + 1 < s.limits.journal

at-open : (s : Session) (c : Cursor) → HasPlace s → turn rules (places_left s) (world s) (here s c) ≡ runs rules (world s) (here s c) c.lent
at-open s c h = turn-open (places_left s) (world s) (here s c) h.drained h.open_ (some_place s.limits.journal (length s.journal) h.room)

picks-some : (w : World) (c : Cursor) (t n : ℕ) → 0 < n → picks w c (Some t) n ≡ Some (record { event = Lend t; behind = record c { reached = t; lent = Some t } })
picks-some w c t zero h = absurd (omega (arith, h))
picks-some w c t (suc n) h = refl

-- the thread is lent, and the round has reached it
abbrev pub lending : List FromEmacs → Bool → ℕ → Cursor
lending messages ends t = record { messages = messages; ends = ends; reached = t; lent = Some t; steps = 0 }

none_less : (n : ℕ) → n ≡ n - 0
none_less n = omega arith

pub lends-next : (s : Session) (messages : List FromEmacs) (ends : Bool) (r t : ℕ) → HasPlace s → 0 < steps_left s → next_ready (world s) r ≡ Some t
    → whole (with_entry s 0 (Lend t)) (lending messages ends t) ≡ whole s (between messages ends r)
lends-next s messages ends r t h left found =
    whole-step s (between messages ends r) (lending messages ends t) (Lend t) (less_room s.limits.journal (length s.journal) h.room)
    (at-open s (between messages ends r) h
    ∙ ap (λ o. picks (world s) (here s (between messages ends r)) o (steps_left s)) found
    ∙ picks-some (world s) (here s (between messages ends r)) t (steps_left s) left
    ∙ ap (λ k. Some (record { event = Lend t; behind = record (lending messages ends t) { steps = k } })) (none_less (steps_left s)))

pub bursts-next : (s : Session) (messages : List FromEmacs) (ends : Bool) (t n : ℕ) → HasPlace s → n ≡ burst_length rules (min max_burst (steps_left s)) t (world s)
    → whole (with_entry s 0 (Burst t n)) (between messages ends t) ≡ whole s (lending messages ends t)
bursts-next s messages ends t n h many =
    whole-step s (lending messages ends t) (between messages ends t) (Burst t n) (less_room s.limits.journal (length s.journal) h.room)
    (at-open s (lending messages ends t) h
    ∙ ap (λ k. Some (record { event = Burst t k; behind = record (between messages ends t) { steps = steps_left s - k } })) (sym many))

pub arrives-next : (s : Session) (m : FromEmacs) (messages : List FromEmacs) (ends : Bool) (r : ℕ) → HasPlace s → next_ready (world s) r ≡ None
    → whole (with_entry s 0 (Arrive m)) (between messages ends 0) ≡ whole s (between (m ∷ messages) ends r)
arrives-next s m messages ends r h found =
    whole-step s (between (m ∷ messages) ends r) (between messages ends 0) (Arrive m) (less_room s.limits.journal (length s.journal) h.room)
    (at-open s (between (m ∷ messages) ends r) h
    ∙ ap (λ o. picks (world s) (here s (between (m ∷ messages) ends r)) o (steps_left s)) found
    ∙ ap (λ k. Some (record { event = Arrive m; behind = record (between messages ends 0) { steps = k } })) (none_less (steps_left s)))

pub ends-next : (s : Session) (r : ℕ) → HasPlace s → (world s).ended ≡ false → next_ready (world s) r ≡ None
    → whole (with_entry s 0 End) (between [] true 0) ≡ whole s (between [] true r)
ends-next s r h more found =
    whole-step s (between [] true r) (between [] true 0) End (less_room s.limits.journal (length s.journal) h.room)
    (at-open s (between [] true r) h
    ∙ ap (λ o. picks (world s) (here s (between [] true r)) o (steps_left s)) found
    ∙ ap (λ b. if not b then turn_to End (record (between [] true 0) { steps = steps_left s }) else None) more
    ∙ ap (λ k. Some (record { event = End; behind = record (between [] true 0) { steps = k } })) (none_less (steps_left s)))

-- ---- where nothing comes next

turn-closed : (n : ℕ) (w : World) (c : Cursor) → w.undrained ≡ [] → w.closed ≡ true → turn rules n w c ≡ None
turn-closed n w c none closed =
    ap (λ (ms : List ToEmacs). turns rules n w c (length ms)) none ∙ ap (λ b. if b then None else with_place n (runs rules w c c.lent)) closed

pub closed-stops : (s : Session) (c : Cursor) → (world s).undrained ≡ [] → (world s).closed ≡ true → s.journal ≡ whole s c
closed-stops s c none closed = whole-stop s c (λ k e. turn-closed k (world s) (here s c) none closed)

turn-full : (w : World) (c : Cursor) → w.undrained ≡ [] → turn rules 0 w c ≡ None
turn-full w c none = ap (λ (ms : List ToEmacs). turns rules 0 w c (length ms)) none ∙ either w.closed None refl
  where
    either : (b : Bool) (o : Option Turn) → o ≡ None → (if b then None else o) ≡ None
    either true o e = refl
    either false o e = e

pub full-stops : (s : Session) (c : Cursor) → (world s).undrained ≡ [] → s.limits.journal ≤ length s.journal + 1 → s.journal ≡ whole s c
full-stops s c none full = whole-stop s c (λ k e. ap (λ n. turn rules n (world s) (here s c)) (no_place s.limits.journal (length s.journal) k full e) ∙ turn-full (world s) (here s c) none)
  where
    no_place : (a b k : ℕ) → a ≤ b + 1 → a - b ≡ suc k → k ≡ 0
    no_place a b k h e = omega (arith, h, e)

-- where a place is left or not, it stops where the runs of the cursor do
turn-none : (n : ℕ) (w : World) (c : Cursor) → w.undrained ≡ [] → w.closed ≡ false → runs rules w c c.lent ≡ None → turn rules n w c ≡ None
turn-none zero w c none still stops = turn-full w c none
turn-none (suc n) w c none still stops = turn-open (suc n) w c none still (omega arith) ∙ stops

picks-none : (w : World) (c : Cursor) (t n : ℕ) → n ≡ 0 → picks w c (Some t) n ≡ None
picks-none w c t zero h = refl
picks-none w c t (suc n) h = absurd (omega (arith, h))

pub spent-stops : (s : Session) (messages : List FromEmacs) (ends : Bool) (r t : ℕ) → (world s).undrained ≡ [] → (world s).closed ≡ false → next_ready (world s) r ≡ Some t → steps_left s ≡ 0
    → s.journal ≡ whole s (between messages ends r)
spent-stops s messages ends r t none still found spent =
    whole-stop s (between messages ends r) (λ k e. turn-none k (world s) (here s (between messages ends r)) none still
    (ap (λ o. picks (world s) (here s (between messages ends r)) o (steps_left s)) found ∙ picks-none (world s) (here s (between messages ends r)) t (steps_left s) spent))

-- nothing is left to do
pub rest-stops : (s : Session) (ends : Bool) (r : ℕ) → (world s).undrained ≡ [] → (world s).closed ≡ false → next_ready (world s) r ≡ None → (ends && not (world s).ended) ≡ false
    → s.journal ≡ whole s (between [] ends r)
rest-stops s ends r none still found over =
    whole-stop s (between [] ends r) (λ k e. turn-none k (world s) (here s (between [] ends r)) none still
    (ap (λ o. picks (world s) (here s (between [] ends r)) o (steps_left s)) found
    ∙ ap (λ b. if b then turn_to End (record (between [] ends 0) { steps = steps_left s }) else None) over))

-- with all threads quiet it doesn't matter how far the round had come
schedule-round : (n : ℕ) (w : World) (messages : List FromEmacs) (ends : Bool) (r steps : ℕ) → w.undrained ≡ [] → w.closed ≡ false → ((q : ℕ) → next_ready w q ≡ None)
    → schedule rules n w (record (between messages ends r) { steps = steps }) ≡ schedule rules n w (record (between messages ends 0) { steps = steps })
schedule-round zero w messages ends r steps none still quiet = refl
schedule-round (suc n) w messages ends r steps none still quiet =
    ap (λ o. from_turn o (λ (x : Turn). by_pipe x.event ∷ schedule rules n (next rules w (by_pipe x.event)).after x.behind)) (same-turn n)
  where
    feeds-same : (ms : List FromEmacs) → feeds w (record (between messages ends r) { steps = steps }) ms ≡ feeds w (record (between messages ends 0) { steps = steps }) ms
    feeds-same [] = refl
    feeds-same (m ∷ ms) = refl

    same-turn : (n : ℕ) → turn rules n w (record (between messages ends r) { steps = steps }) ≡ turn rules n w (record (between messages ends 0) { steps = steps })
    same-turn zero = turn-full w (record (between messages ends r) { steps = steps }) none ∙ sym (turn-full w (record (between messages ends 0) { steps = steps }) none)
    same-turn (suc n) =
        turn-open (suc n) w (record (between messages ends r) { steps = steps }) none still (omega arith)
        ∙ ap (λ o. picks w (record (between messages ends r) { steps = steps }) o steps) (quiet r)
        ∙ feeds-same messages
        ∙ sym (turn-open (suc n) w (record (between messages ends 0) { steps = steps }) none still (omega arith)
        ∙ ap (λ o. picks w (record (between messages ends 0) { steps = steps }) o steps) (quiet 0))

pub any-round : (s : Session) (messages : List FromEmacs) (ends : Bool) (r : ℕ) → (world s).undrained ≡ [] → (world s).closed ≡ false → ((q : ℕ) → next_ready (world s) q ≡ None)
    → whole s (between messages ends r) ≡ whole s (between messages ends 0)
unfolding whole
any-round s messages ends r none still quiet =
    ap (λ (j : List Entry). s.journal ++ j) (schedule-round (s.limits.journal - length s.journal) (world s) messages ends r (steps_left s) none still quiet)
