-- One part of the schedule after another.
use Rattle.std.proofs.Common.{◌≡◌, ◌≢◌, ℕ, ◌+◌, ◌-◌, ◌<◌, ◌≤◌, min, inl, inr, Bool, true, false, List, [], ◌∷◌, length, Option, Some, None, Result, Ok, Err, refl, sym, ap, ◌∙◌, subst, arith}
use Rattle.std.specs.Prelude.{◌&&◌, not, if◌then◌else◌, IfErr, IfSome, OnOk}
use mathlib.Core.List.{IsPrefix}
use Rattle.rpc_messages.specs.declared.from_emacs.FromEmacs.{FromEmacs}
use Rattle.rpc_messages.specs.declared.to_emacs.ToEmacs.{ToEmacs}
use Rattle.session_model.specs.declared.event.Entry.{Entry}
use Rattle.session_model.specs.declared.event.Event.TheVariants.{Arrive, End, Lend, Burst}
use Rattle.session_model.specs.declared.limits.Limits.{Limits}
use Rattle.session_model.specs.Journal.{steps_made}
use Rattle.session_model.specs.Legal.{IsLentTo, is_quiet, is_ready, max_burst}
use Rattle.session_model.specs.Pipe.{Cursor, burst_length, next_ready}
use Rattle.session_model.specs.World.{thread_at}
use Rattle.session_model.proofs.PipeLegal.{burst_most}
use Rattle.session_model.proofs.PipeRests.{quiet_when}
use Rattle.server_laws.specs.Small.{IsSmall}
use Rattle.server_rules.specs.Rules.{rules}
use Rattle.swank_core.specs.Session.{Session, Adds, blocked, is_closed, next_ready_of, ready_above, with_entry, world}
use Rattle.swank_core.specs.declared.fault.CoreFault.{CoreFault}
use Rattle.swank_session.specs.Course.{between, steps_left, whole, IsLive, IsFree, IsPaused, IsAtRest, IsNearer, Later, Arrives, IsOverAfter, Reaches, closed, spent, Halts, halt_of, Writes, Paid, Pays, Spends}
use Rattle.swank_session.specs.declared.ends.Halt.{Halt}
use Rattle.swank_session.specs.declared.ends.Halt.TheVariants as halt
use Rattle.swank_session.proofs.EventLemmas.{Drained, Lent, lent-by, ran-by, Came, came-by, Over, Refused, refused-by, has-place, room-left, more-entry, later-later, closed-halted, or_false}
use Rattle.swank_session.proofs.NextLemmas.{next-found, next-round, next-ready, quiet-none, ready-busy, lent-busy, and-none}
use Rattle.swank_session.proofs.RunLemmas.{run_empty}
use Rattle.swank_session.proofs.ScheduleLemmas.{lending, whole-begins, lends-next, bursts-next, arrives-next, ends-next, closed-stops, spent-stops, any-round}
use Rattle.swank_session.proofs.WriteLemmas.{pays-batch, paid-same}

-- ---- parts in a row

pub reaches-from : {A : Type 0} (old mid new : Session) (result : Result A Halt) (after : A → Cursor) (b c : Cursor) → whole mid b ≡ whole old c → Reaches mid new result after b → Reaches old new result after c
reaches-from old mid new (Ok a) after b c e h = h ∙ e
reaches-from old mid new (Err halt.Stuck) after b c e h = h ∙ e
reaches-from old mid new (Err halt.WriteFault) after b c e h = (h.0, h.1 ∙ e)
reaches-from old mid new (Err halt.NoMemory) after b c e h = (h.0, h.1 ∙ e)

-- a halt is the same whatever was to be answered
pub reaches-err : {A B : Type 0} (old new : Session) (h : Halt) (a : A → Cursor) (b : B → Cursor) (c : Cursor) → Reaches {A = A} old new (Err h) a c → Reaches {A = B} old new (Err h) b c
reaches-err old new halt.Stuck a b c r = r
reaches-err old new halt.WriteFault a b c r = r
reaches-err old new halt.NoMemory a b c r = r

pub pays-err : (A B : Type 0) (first now : Option (List ℕ)) (s : Session) (sent : ℕ) (h : Halt) → Pays {A = A} first now s sent (Err h) → Pays {A = B} first now s sent (Err h)
pays-err A B first now s sent halt.Stuck p = p
pays-err A B first now s sent halt.WriteFault p = p
pays-err A B first now s sent halt.NoMemory p = p

pub spends-err : {A B : Type 0} (old new : Session) (w0 w1 : Option (List ℕ)) (n0 n1 : ℕ) (h : Halt) → Spends {A = A} old new w0 w1 n0 n1 (Err h) → Spends {A = B} old new w0 w1 n0 n1 (Err h)
spends-err {A} {B} old new w0 w1 n0 n1 h x = record { pays = λ first p. pays-err A B first w1 new n1 h (x.pays first p); halts = x.halts }

-- behind what wrote nothing
pub spends-from : {A : Type 0} (old mid new : Session) (w0 w1 : Option (List ℕ)) (n0 n1 : ℕ) (result : Result A Halt) → (world mid).drained ≡ (world old).drained → Spends mid new w0 w1 n0 n1 result → Spends old new w0 w1 n0 n1 result
spends-from old mid new w0 w1 n0 n1 result same x = record { pays = λ first p. x.pays first (paid-same first w0 old mid n0 same p); halts = x.halts }

-- behind what wrote something
pub spends-then : {A : Type 0} (old mid new : Session) (w0 w1 w2 : Option (List ℕ)) (n0 n1 n2 : ℕ) (result : Result A Halt) → ((first : Option (List ℕ)) → Paid first w0 old n0 → Paid first w1 mid n1) → Spends mid new w1 w2 n1 n2 result
    → Spends old new w0 w2 n0 n2 result
spends-then old mid new w0 w1 w2 n0 n1 n2 result paid x = record { pays = λ first p. x.pays first (paid first p); halts = x.halts }

pub on-ok : {A P : Type 0} (result : Result A Halt) → P → OnOk result P
on-ok (Ok _) p = p
on-ok (Err _) p = tt

-- what a refusal leaves
pub refused-spends : {B : Type 0} (s new : Session) (f : CoreFault) (after : B → Cursor) (h : Halt) (w : Option (List ℕ)) (n : ℕ) → h ≡ halt_of f → Refused {B = B} s new f after → Spends {A = B} s new w w n n (Err h)
refused-spends {B} s new f after h w n is r =
    subst (λ (x : Halt). Spends {A = B} s new w w n n (Err x)) (sym is) (record { pays = λ first p. r.pays first w n p; halts = r.halts })

pub refused-reaches : {B : Type 0} (s new : Session) (f : CoreFault) (after : B → Cursor) (h : Halt) (c : Cursor) → h ≡ halt_of f → Refused {B = B} s new f after → Reaches {A = B} s new (Err h) after c
refused-reaches s new f after h c is r = subst (λ (x : Halt). Reaches s new (Err x) after c) (sym is) (r.reaches c)

-- ---- a drain and what is written of it

module _ (s new : Session) (batch : List ToEmacs) (d : Drained s new batch) (w0 w1 : Option (List ℕ)) (n0 n1 : ℕ) (result : Result (Unit {0}) Halt) (w : Writes w0 w1 n0 n1 batch result) (free : IsFree s) where
  pub out-spends : Spends s new w0 w1 n0 n1 result
  out-spends = record { pays = λ first p. pays-batch first w0 w1 s new batch n0 n1 result p d w; halts = halted result w.no_stop }
    where
      halted : (result : Result (Unit {0}) Halt) → result ≢ Err halt.Stuck → IfErr result (Halts new)
      halted (Ok _) n = tt
      halted (Err halt.Stuck) n = absurd (n refl)
      halted (Err halt.WriteFault) n = (d.free free).live.whole
      halted (Err halt.NoMemory) n = tt

  pub out-reaches : (c : Cursor) → Reaches s new result (λ _. c) c
  out-reaches c = reached result w.no_stop
    where
      reached : (result : Result (Unit {0}) Halt) → result ≢ Err halt.Stuck → Reaches s new result (λ _. c) c
      reached (Ok _) n = d.same c
      reached (Err halt.Stuck) n = absurd (n refl)
      reached (Err halt.WriteFault) n = subst (λ (j : List Entry). IsPrefix new.journal j) (d.same c) (whole-begins new c)
      reached (Err halt.NoMemory) n = subst (λ (j : List Entry). IsPrefix new.journal j) (d.same c) (whole-begins new c)

  pub out-paused : OnOk result (IsPaused new)
  out-paused = on-ok result (record { free = d.free free; drained = d.undrained })

-- nothing was undrained
pub none-spends : (s : Session) (w : Option (List ℕ)) (n : ℕ) → Spends {A = Unit {0}} s s w w n n (Ok tt)
none-spends s w n = record { pays = λ first p. p; halts = tt }

pub none-paused : (s : Session) → IsFree s → length (world s).undrained ≡ 0 → IsPaused s
none-paused s free none = record { free = free; drained = nil-of (world s).undrained none }
  where
    nil-of : (ms : List ToEmacs) → length ms ≡ 0 → ms ≡ []
    nil-of [] e = refl
    nil-of (m ∷ ms) e = absurd (cc)

-- ---- a turn of one thread

ready-not-over : (s : Session) (t : ℕ) → is_ready (world s) t ≡ true → ((world s).ended && is_quiet (world s)) ≡ false
ready-not-over s t ready = and-none (world s).ended (is_quiet (world s)) (ready-busy (world s) t ready)

lent-not-over : (s : Session) (t : ℕ) → IsLentTo 0 (thread_at (world s) t) → ((world s).ended && is_quiet (world s)) ≡ false
lent-not-over s t lent = and-none (world s).ended (is_quiet (world s)) (lent-busy (world s) 0 t lent)

-- the thread couldn't be lent
pub lend-refused : (A : Type 0) {B : Type 0} (s new : Session) (t : ℕ) (f : CoreFault) (after : B → Cursor) → IsPaused s → is_ready (world s) t ≡ true → Adds {A = A} 0 (λ _. Lend t) s (Err f) new → Refused {B = B} s new f after
lend-refused A s new t f after paused ready adds = refused-by {A = A} s new (λ _. Lend t) f after paused.free.live paused.drained (λ _. ready-not-over s t ready) adds

-- it was lent
pub record Begun (s mid : Session) (t : ℕ) : Type 0 where
  pub lent : Lent s mid t
  pub drained : (world mid).undrained ≡ []
  pub same : (messages : List FromEmacs) (ends : Bool) (r : ℕ) → next_ready (world s) r ≡ Some t → whole mid (lending messages ends t) ≡ whole s (between messages ends r)

pub begun-by : (s mid : Session) (t : ℕ) → IsPaused s → is_ready (world s) t ≡ true → 0 < steps_left s → blocked s ≡ None → mid ≡ with_entry s 0 (Lend t) → Begun s mid t
begun-by s mid t paused ready left free is =
    let lent : Lent s mid t = lent-by s mid t paused.free is in
    record {
      lent = lent;
      drained = lent.undrained ∙ paused.drained;
      same = λ messages ends r found. ap (λ (x : Session). whole x (lending messages ends t)) is ∙ lends-next s messages ends r t (has-place s paused.drained free) left found;
    }

-- the burst was refused
pub burst-refused : {A B : Type 0} (s mid new : Session) (t : ℕ) (n : A → ℕ) (thread : ℕ) (f : CoreFault) (after : B → Cursor) → Begun s mid t → IsLentTo 0 (thread_at (world mid) t) → Adds {A = A} 0 (λ a. Burst thread (n a)) mid (Err f) new
    → Refused {B = B} mid new f after
burst-refused s mid new t n thread f after begun lent adds = refused-by mid new (λ a. Burst thread (n a)) f after begun.lent.live begun.drained (λ _. lent-not-over mid t lent) adds

-- the burst was made
pub record Made (s new : Session) (t : ℕ) : Type 0 where
  pub later : Later s new
  pub longer : length s.journal < length new.journal
  pub free : IsFree new
  pub room : length new.journal < new.limits.journal
  pub drained : (world new).drained ≡ (world s).drained
  pub same : (messages : List FromEmacs) (ends : Bool) (r : ℕ) → next_ready (world s) r ≡ Some t → whole new (between messages ends t) ≡ whole s (between messages ends r)

pub made-by : (s mid new : Session) (t thread n most : ℕ) → IsPaused s → is_ready (world s) t ≡ true → Begun s mid t → thread ≡ t → blocked mid ≡ None → new ≡ with_entry mid 0 (Burst thread n) → n ≡ burst_length rules most thread (world mid)
    → most ≡ min max_burst (steps_left s) → Made s new t
made-by s mid new t thread n most paused ready begun same free is many up =
    let lent = begun.lent in
    let is_t : new ≡ with_entry mid 0 (Burst t n) = is ∙ ap (λ k. with_entry mid 0 (Burst k n)) same in
    let many_t : n ≡ burst_length rules (min max_burst (steps_left mid)) t (world mid) = many ∙ ap (λ k. burst_length rules most k (world mid)) same ∙ ap (λ k. burst_length rules k t (world mid)) (up ∙ ap (λ k. min max_burst k) (sym lent.left)) in
    let ran = ran-by mid new t n lent.live lent.free is_t in
    let live : IsLive new = ran.live (within n (steps_left mid) many_t (burst_most rules (min max_burst (steps_left mid)) t (world mid))) in
    let more = more-entry mid new (Burst t n) is_t in
    let before = lent.later.longer in
    let room = room-left mid free in
    record {
      later = later-later s mid new lent.later ran.later;
      longer = omega (arith, more, before);
      free = record { live = live; free = ran.free };
      room = omega (arith, more, room, ap (λ (x : Session). x.limits.journal) is_t);
      drained = ran.drained ∙ lent.drained;
      same = λ messages ends r found.
          ap (λ (x : Session). whole x (between messages ends t)) is_t
          ∙ bursts-next mid messages ends t n (has-place mid begun.drained free) many_t
          ∙ begun.same messages ends r found;
    }
  where
    within : (n m : ℕ) {k : ℕ} → n ≡ k → k ≤ min max_burst m → n ≤ m
    within n m e h = omega (arith, e, h)

-- fewer places are left
pub nearer-by : (s mid new : Session) → length s.journal < length mid.journal → length mid.journal < mid.limits.journal → mid.limits ≡ s.limits → Later mid new → IsNearer s new
nearer-by s mid new longer room limits later =
    less (length s.journal) (length mid.journal) (length new.journal) s.limits.journal mid.limits.journal new.limits.journal longer room later.longer (ap (λ (x : Limits). x.journal) limits) (ap (λ (x : Limits). x.journal) later.limits)
  where
    less : (a b c k l m : ℕ) → a < b → b < l → b ≤ c → l ≡ k → m ≡ l → m - c < k - a
    less a b c k l m h g f e d = omega (arith, h, g, f, e, d)

pub ready-if : (s : Session) (r : ℕ) (o : Option ℕ) → o ≡ next_ready (world s) r → IfSome o (λ t. is_ready (world s) t ≡ true)
ready-if s r (Some t) e = next-ready (world s) r t (sym e)
ready-if s r None e = tt

-- ---- rounds

pub closed-reaches : {A : Type 0} (s : Session) (after : A → Cursor) (c : Cursor) → IsPaused s → is_closed s ≡ true → Reaches {A = A} s s (Err halt.Stuck) after c
closed-reaches s after c paused shut = closed-stops s c paused.drained (closed-halted s paused.free.live.running shut)

pub closed-spends : {A : Type 0} (s : Session) (w : Option (List ℕ)) (n : ℕ) → IsPaused s → is_closed s ≡ true → Spends {A = A} s s w w n n (Err halt.Stuck)
closed-spends s w n paused shut = record { pays = λ first p. p; halts = (paused.free.live.whole, paused.drained, closed (closed-halted s paused.free.live.running shut)) }

pub still-open : (s : Session) → is_closed s ≡ false → (world s).closed ≡ false
still-open s e = or_false s.halted (world s).closed e

no-left : (s : Session) → s.limits.steps ≤ steps_made s.journal → steps_left s ≡ 0
no-left s h = omega (arith, h)

pub spent-reaches : {A : Type 0} (s : Session) (messages : List FromEmacs) (ends : Bool) (r t : ℕ) (after : A → Cursor) → IsPaused s → is_closed s ≡ false → next_ready (world s) r ≡ Some t → s.limits.steps ≤ steps_made s.journal
    → Reaches {A = A} s s (Err halt.Stuck) after (between messages ends r)
spent-reaches s messages ends r t after paused shut found none = spent-stops s messages ends r t paused.drained (still-open s shut) found (no-left s none)

pub spent-spends : {A : Type 0} (s : Session) (w : Option (List ℕ)) (n r t : ℕ) → IsPaused s → next_ready (world s) r ≡ Some t → s.limits.steps ≤ steps_made s.journal → Spends {A = A} s s w w n n (Err halt.Stuck)
spent-spends s w n r t paused found none = record {
  pays = λ first p. p;
  halts = (paused.free.live.whole, paused.drained, spent (all-made (steps_made s.journal) s.limits.steps paused.free.live.within none) (ready-busy (world s) t (next-ready (world s) r t found)));
}
  where
    all-made : (a b : ℕ) → a ≤ b → b ≤ a → a ≡ b
    all-made a b h g = omega (arith, h, g)

pub at-rest : (s : Session) (r : ℕ) → IsPaused s → is_closed s ≡ false → next_ready (world s) r ≡ None → IsAtRest s
at-rest s r paused shut none = record { paused = paused; open_ = still-open s shut; quiet = quiet_when (world s) (still-open s shut) paused.free.free r none }

pub rest-round : (s : Session) (messages : List FromEmacs) (ends : Bool) (r : ℕ) → IsAtRest s → whole s (between messages ends r) ≡ whole s (between messages ends 0)
rest-round s messages ends r rest = any-round s messages ends r rest.paused.drained rest.open_ (λ q. quiet-none (world s) q rest.quiet)

-- a session that was not halted has the next thread of its world
running-above : (s : Session) (r : ℕ) → s.halted ≡ false → next_ready_of s r ≡ ready_above (world s) r
running-above s r running = ap (λ b. if b then None else ready_above (world s) r) running

-- what the core says of the next thread is what the schedule says
pub found-above : (s : Session) (r t : ℕ) → s.halted ≡ false → next_ready_of s r ≡ Some t → next_ready (world s) r ≡ Some t
found-above s r t running e = next-found (world s) r t (run_empty rules s.opened s.journal) (sym (running-above s r running) ∙ e)

pub found-round : (s : Session) (r : ℕ) → s.halted ≡ false → next_ready_of s r ≡ None → next_ready (world s) r ≡ next_ready_of s 0
found-round s r running e = next-round (world s) r (run_empty rules s.opened s.journal) (sym (running-above s r running) ∙ e) ∙ sym (running-above s 0 running)

-- ---- a message

not-ended : (s : Session) → (world s).ended ≡ false → ((world s).ended && is_quiet (world s)) ≡ false
not-ended s e = ap (λ b. b && is_quiet (world s)) e

pub arrive-refused : (A : Type 0) {B : Type 0} (s new : Session) (m : FromEmacs) (f : CoreFault) (after : B → Cursor) → IsAtRest s → (world s).ended ≡ false → Adds {A = A} 0 (λ _. Arrive m) s (Err f) new → Refused {B = B} s new f after
arrive-refused A s new m f after rest more adds = refused-by {A = A} s new (λ _. Arrive m) f after rest.paused.free.live rest.paused.drained (λ _. not-ended s more) adds

pub arrives-not : (s new : Session) (m : FromEmacs) (h : Halt) → Later s new → Arrives s new m (Err h)
arrives-not s new m h later = record { opened = later.opened; limits = later.limits; halted = later.halted; ended = later.ended; arrived = inr later.arrived; whole = tt }

pub record Came_in (s new : Session) (m : FromEmacs) : Type 0 where
  pub came : Came s new m
  pub room : length new.journal < new.limits.journal
  pub same : (messages : List FromEmacs) (ends : Bool) → whole new (between messages ends 0) ≡ whole s (between (m ∷ messages) ends 0)

pub came-in : (s new : Session) (m : FromEmacs) → IsSmall m → IsAtRest s → blocked s ≡ None → new ≡ with_entry s 0 (Arrive m) → Came_in s new m
came-in s new m small rest free is =
    let came = came-by s new m small rest.paused.free is in
    let room = room-left s free in
    let more = came.longer in
    record {
      came = came;
      room = omega (arith, more, room, ap (λ (x : Session). x.limits.journal) is);
      same = λ messages ends. ap (λ (x : Session). whole x (between messages ends 0)) is ∙ arrives-next s m messages ends 0 (has-place s rest.paused.drained free) (quiet-none (world s) 0 rest.quiet);
    }

pub arrives-then : (s mid new : Session) (m : FromEmacs) (result : Result (Unit {0}) Halt) → Came_in s mid m → Later mid new → Arrives s new m result
arrives-then s mid new m result h later =
    let came = h.came in
    let arrived = later.arrived ∙ came.arrived in
    record {
      opened = later.opened ∙ came.opened;
      limits = later.limits ∙ came.limits;
      halted = later.halted ∙ came.halted;
      ended = later.ended ∙ came.ended;
      arrived = inl arrived;
      whole = on-ok result (arrived, nearer-by s mid new (longer_by came.longer) h.room came.limits later);
    }
  where
    longer_by : {a b : ℕ} → a ≡ b + 1 → b < a
    longer_by e = omega (arith, e)

-- ---- the end of the input

pub end-refused : (A : Type 0) {B : Type 0} (s new : Session) (f : CoreFault) (after : B → Cursor) → IsAtRest s → (world s).ended ≡ false → Adds {A = A} 0 (λ _. End) s (Err f) new → Refused {B = B} s new f after
end-refused A s new f after rest more adds = refused-by {A = A} s new (λ _. End) f after rest.paused.free.live rest.paused.drained (λ _. not-ended s more) adds

pub ends-not : (s new : Session) (h : Halt) → Later s new → IsOverAfter s new (Err h)
ends-not s new h later = record { opened = later.opened; limits = later.limits; halted = later.halted; arrived = later.arrived; ended = tt }

pub end-same : (s new : Session) → IsAtRest s → (world s).ended ≡ false → blocked s ≡ None → new ≡ with_entry s 0 End → whole new (between [] true 0) ≡ whole s (between [] true 0)
end-same s new rest more free is =
    ap (λ (x : Session). whole x (between [] true 0)) is ∙ ends-next s 0 (has-place s rest.paused.drained free) more (quiet-none (world s) 0 rest.quiet)

pub ends-then : (s mid new : Session) (result : Result (Unit {0}) Halt) → Over s mid → Later mid new → IsOverAfter s new result
ends-then s mid new result over later = record {
  opened = later.opened ∙ over.opened;
  limits = later.limits ∙ over.limits;
  halted = later.halted ∙ over.halted;
  arrived = later.arrived ∙ over.arrived;
  ended = on-ok result (later.ended ∙ over.ended);
}
