-- What a session is after each event, and after one that was refused.
use Rattle.std.proofs.Common.{◌≡◌, ℕ, ◌+◌, ◌-◌, ◌<◌, ◌≤◌, Bool, true, false, List, [], ◌∷◌, ◌++◌, length, Option, Some, None, Err, refl, sym, ap, ◌∙◌, subst, append_assoc, append-nil, length-append, arith}
use Rattle.std.proofs.lemmas.Bool.Decides.{nat_tests}
use Rattle.std.specs.Prelude.{◌&&◌, ◌||◌, not, nat_lt, All}
use Rattle.std.proofs.lemmas.List.Elements.{All-tail}
use mathlib.Core.List.{IsPrefix}
use Rattle.packet_framing.specs.Frames.{packet_of}
use Rattle.rpc_messages.specs.declared.from_emacs.FromEmacs.{FromEmacs}
use Rattle.rpc_messages.specs.declared.to_emacs.ToEmacs.{ToEmacs}
use Rattle.session_model.specs.declared.event.Entry.{Entry}
use Rattle.session_model.specs.declared.event.Event.{Event}
use Rattle.session_model.specs.declared.event.Event.TheVariants.{Arrive, End, Lend, Burst, Drain}
use Rattle.session_model.specs.Journal.{arrived, arrivals, next, outputs, steps_of, steps_made}
use Rattle.session_model.specs.Legal.{IsLegalFrom, is_quiet}
use Rattle.session_model.specs.Pipe.{Cursor, by_pipe}
use Rattle.session_model.specs.Wire.{text_of, frames}
use Rattle.session_model.specs.World.{World, thread_at}
use Rattle.session_model.proofs.Ended.{arrived_ended, lends_ended, bursts_ended}
use Rattle.session_model.proofs.Loans.{NoneLent, arrived_free, lends_free, bursts_free}
use Rattle.session_model.proofs.Outputs.{outputs_are_written}
use Rattle.server_laws.specs.Small.{AreSmall, FitsPacket, HasShortNames, IsSmall}
use Rattle.server_laws.proofs.Sessions.{outputs_fit}
use Rattle.server_rules.specs.Rules.{rules}
use Rattle.swank_core.specs.Session.{Session, Adds, blocked, is_closed, is_full, refusal, with_entry, world}
use Rattle.swank_core.specs.declared.fault.CoreFault.{CoreFault}
use Rattle.swank_core.specs.declared.fault.CoreFault.TheVariants as fault
use Rattle.swank_session.specs.Course.{steps_left, whole, IsFramed, IsLive, IsFree, IsPaused, Later, Reaches, closed, full, Halts, halt_of, Sent, Paid, Pays}
use Rattle.swank_session.specs.declared.ends.Halt.TheVariants as halt
use Rattle.swank_session.proofs.RunLemmas.{arrivals-last, steps_made-last, arrived_drained, bursts_drained, lends_silent}
use Rattle.swank_session.proofs.ScheduleLemmas.{HasPlace, world-entry, whole-begins, drains-next, closed-stops, full-stops}

-- ---- any entry

longer-entry : (s new : Session) (e : Event) → new ≡ with_entry s 0 e → length s.journal ≤ length new.journal
longer-entry s new e is = omega (arith, ap (λ (x : Session). length x.journal) is, length-append s.journal (by_pipe e ∷ []))

pub more-entry : (s new : Session) (e : Event) → new ≡ with_entry s 0 e → length new.journal ≡ length s.journal + 1
more-entry s new e is = ap (λ (x : Session). length x.journal) is ∙ length-append s.journal (by_pipe e ∷ [])

later-entry : (s new : Session) (e : Event) → new ≡ with_entry s 0 e → arrived e [] ≡ [] → (world (with_entry s 0 e)).ended ≡ (world s).ended → Later s new
later-entry s new e is none same = record {
  opened = ap (λ (x : Session). x.opened) is;
  limits = ap (λ (x : Session). x.limits) is;
  halted = ap (λ (x : Session). x.halted) is;
  longer = longer-entry s new e is;
  arrived = ap (λ (x : Session). arrivals x.journal) is ∙ arrivals-last s.journal (by_pipe e) ∙ ap (λ (ms : List FromEmacs). arrivals s.journal ++ ms) none ∙ append-nil (arrivals s.journal);
  ended = ap (λ (x : Session). (world x).ended) is ∙ same;
}

steps-entry : (s new : Session) (e : Event) → new ≡ with_entry s 0 e → steps_made new.journal ≡ steps_made s.journal + steps_of e
steps-entry s new e is = ap (λ (x : Session). steps_made x.journal) is ∙ steps_made-last s.journal (by_pipe e)

-- the beginning of small messages, and small ones behind it
small-append : (ms ns : List FromEmacs) → AreSmall ms → AreSmall ns → AreSmall (ms ++ ns)
small-append [] ns h k = k
small-append (m ∷ ms) ns h k = (h.0, small-append ms ns h.1 k)

framed-entry : (s new : Session) (e : Event) → new ≡ with_entry s 0 e → AreSmall (arrived e []) → IsFramed s → IsFramed new
framed-entry s new e is small h = record {
  names = subst HasShortNames (sym (ap (λ (x : Session). x.opened) is)) h.names;
  small = subst AreSmall (sym (ap (λ (x : Session). arrivals x.journal) is ∙ arrivals-last s.journal (by_pipe e))) (small-append (arrivals s.journal) (arrived e []) h.small small);
}

live-entry : (s new : Session) (e : Event) → new ≡ with_entry s 0 e → AreSmall (arrived e []) → steps_made s.journal + steps_of e ≤ s.limits.steps → IsLive s → IsLive new
live-entry s new e is small within live = record {
  framed = framed-entry s new e is small live.framed;
  whole = ap (λ (x : Session). x.failed) is ∙ live.whole;
  running = ap (λ (x : Session). x.halted) is ∙ live.running;
  within = within_limit (steps-entry s new e is) (ap (λ (x : Session). x.limits.steps) is) within;
}
  where
    within_limit : {a b c d : ℕ} → a ≡ b → c ≡ d → b ≤ d → a ≤ c
    within_limit e f h = omega (arith, e, f, h)

at-world : (s new : Session) (e : Event) → new ≡ with_entry s 0 e → world new ≡ (next rules (world s) (by_pipe e)).after
at-world s new e is = ap (λ (x : Session). world x) is ∙ world-entry s 0 e

pub later-later : (a b c : Session) → Later a b → Later b c → Later a c
later-later a b c x y = record { opened = y.opened ∙ x.opened; limits = y.limits ∙ x.limits; halted = y.halted ∙ x.halted; longer = omega (arith, x.longer, y.longer); arrived = y.arrived ∙ x.arrived; ended = y.ended ∙ x.ended }

pub later-same : (s : Session) → Later s s
later-same s = record { opened = refl; limits = refl; halted = refl; longer = omega arith; arrived = refl; ended = refl }

-- ---- a drain

pub record Drained (s new : Session) (batch : List ToEmacs) : Type 0 where
  pub undrained : (world new).undrained ≡ []
  pub drained : (world new).drained ≡ (world s).drained ++ batch
  pub same : (c : Cursor) → whole new c ≡ whole s c
  pub later : Later s new
  pub free : IsFree s → IsFree new
  pub live : IsLive s → IsLive new
  pub closed : (world new).closed ≡ (world s).closed
  pub last : new.journal ≡ s.journal ++ by_pipe (Drain (length batch)) ∷ []

no_step : (n m : ℕ) → n ≤ m → n + 0 ≤ m
no_step n m h = omega (arith, h)

pub drained-by : (s new : Session) (batch : List ToEmacs) → batch ≡ (world s).undrained → new ≡ with_entry s 0 (Drain (length batch)) → 0 < length (world s).undrained → length s.journal < s.limits.journal → Drained s new batch
drained-by s new batch are is some room =
    let w = at-world s new (Drain (length batch)) is in
    let e : new ≡ with_entry s 0 (Drain (length (world s).undrained)) = is ∙ ap (λ (x : List ToEmacs). with_entry s 0 (Drain (length x))) are in
    let live : IsLive s → IsLive new = λ l. live-entry s new (Drain (length batch)) is tt (no_step (steps_made s.journal) s.limits.steps l.within) l in
    record {
      undrained = ap (λ (x : World). x.undrained) w;
      drained = ap (λ (x : World). x.drained) w ∙ ap (λ (x : List ToEmacs). (world s).drained ++ x) (sym are);
      same = λ c. ap (λ (x : Session). whole x c) e ∙ drains-next s c some room;
      later = later-entry s new (Drain (length batch)) is refl (ap (λ (x : World). x.ended) (world-entry s 0 (Drain (length batch))));
      free = λ f. record { live = live f.live; free = subst (λ (x : World). NoneLent None x.threads) (sym w) f.free };
      live = live;
      closed = ap (λ (x : World). x.closed) w;
      last = ap (λ (x : Session). x.journal) is;
    }

-- what was drained fits packets
pub batch-fits : (s new : Session) (batch : List ToEmacs) → Drained s new batch → IsFramed new → IsLegalFrom rules new.opened new.journal → All FitsPacket batch
batch-fits s new batch d framed legal =
    let all : All FitsPacket (outputs rules new.opened new.journal) = outputs_fit new.opened new.journal framed.names framed.small legal in
    let parts : outputs rules new.opened new.journal ≡ (world s).drained ++ batch =
    outputs_are_written rules new.opened new.journal ∙ ap (λ (ms : List ToEmacs). (world new).drained ++ ms) d.undrained ∙ append-nil (world new).drained ∙ d.drained in
    All-behind (world s).drained batch (subst (All FitsPacket) parts all)
  where
    All-behind : (ms ns : List ToEmacs) → All FitsPacket (ms ++ ns) → All FitsPacket ns
    All-behind [] ns h = h
    All-behind (m ∷ ms) ns h = All-behind ms ns (All-tail FitsPacket m (ms ++ ns) h)

-- ---- a loan and its burst

pub record Lent (s new : Session) (t : ℕ) : Type 0 where
  pub drained : (world new).drained ≡ (world s).drained
  pub undrained : (world new).undrained ≡ (world s).undrained
  pub closed : (world new).closed ≡ (world s).closed
  pub free : NoneLent (Some t) (world new).threads
  pub later : Later s new
  pub live : IsLive new
  pub left : steps_left new ≡ steps_left s

pub lent-by : (s new : Session) (t : ℕ) → IsFree s → new ≡ with_entry s 0 (Lend t) → Lent s new t
lent-by s new t h is =
    let w = at-world s new (Lend t) is in
    let silent = lends_silent rules.built.levels (world s) 0 t (thread_at (world s) t) in
    record {
      drained = ap (λ (x : World). x.drained) w ∙ silent.drained;
      undrained = ap (λ (x : World). x.undrained) w ∙ silent.undrained;
      closed = ap (λ (x : World). x.closed) w ∙ silent.closed;
      free = subst (λ (x : World). NoneLent (Some t) x.threads) (sym w) (lends_free rules.built.levels (world s) 0 t (thread_at (world s) t) h.free);
      later = later-entry s new (Lend t) is refl (ap (λ (x : World). x.ended) (world-entry s 0 (Lend t)) ∙ lends_ended rules.built.levels (world s) 0 t (thread_at (world s) t));
      live = live-entry s new (Lend t) is tt (no_step (steps_made s.journal) s.limits.steps h.live.within) h.live;
      left = same_left (steps_made new.journal) (steps_made s.journal) new.limits.steps s.limits.steps (steps-entry s new (Lend t) is) (ap (λ (x : Session). x.limits.steps) is);
    }
  where
    same_left : (a b c d : ℕ) → a ≡ b + 0 → c ≡ d → c - a ≡ d - b
    same_left a b c d e f = omega (arith, e, f)

pub record Ran (s new : Session) (t n : ℕ) : Type 0 where
  pub drained : (world new).drained ≡ (world s).drained
  pub free : NoneLent None (world new).threads
  pub later : Later s new
  pub live : n ≤ steps_left s → IsLive new

pub ran-by : (s new : Session) (t n : ℕ) → IsLive s → NoneLent (Some t) (world s).threads → new ≡ with_entry s 0 (Burst t n) → Ran s new t n
ran-by s new t n live h is =
    let w = at-world s new (Burst t n) is in
    record {
      drained = ap (λ (x : World). x.drained) w ∙ bursts_drained rules (world s) t n;
      free = subst (λ (x : World). NoneLent None x.threads) (sym w) (bursts_free rules (world s) t n h);
      later = later-entry s new (Burst t n) is refl (ap (λ (x : World). x.ended) (world-entry s 0 (Burst t n)) ∙ bursts_ended rules (world s) t n);
      live = λ most. live-entry s new (Burst t n) is tt (fits live.within most) live;
    }
  where
    fits : {a b m : ℕ} → a ≤ b → m ≤ b - a → a + m ≤ b
    fits e f = omega (arith, e, f)

-- ---- a message, and the end

pub record Came (s new : Session) (m : FromEmacs) : Type 0 where
  pub opened : new.opened ≡ s.opened
  pub limits : new.limits ≡ s.limits
  pub halted : new.halted ≡ s.halted
  pub longer : length new.journal ≡ length s.journal + 1
  pub drained : (world new).drained ≡ (world s).drained
  pub arrived : arrivals new.journal ≡ arrivals s.journal ++ m ∷ []
  pub ended : (world new).ended ≡ (world s).ended
  pub free : IsFree new

pub came-by : (s new : Session) (m : FromEmacs) → IsSmall m → IsFree s → new ≡ with_entry s 0 (Arrive m) → Came s new m
came-by s new m small h is =
    let w = at-world s new (Arrive m) is in
    record {
      opened = ap (λ (x : Session). x.opened) is;
      limits = ap (λ (x : Session). x.limits) is;
      halted = ap (λ (x : Session). x.halted) is;
      longer = more-entry s new (Arrive m) is;
      drained = ap (λ (x : World). x.drained) w ∙ arrived_drained rules.built (world s) m;
      arrived = ap (λ (x : Session). arrivals x.journal) is ∙ arrivals-last s.journal (by_pipe (Arrive m));
      ended = ap (λ (x : World). x.ended) w ∙ arrived_ended rules.built (world s) m;
      free = record {
        live = live-entry s new (Arrive m) is (small, tt) (no_step (steps_made s.journal) s.limits.steps h.live.within) h.live;
        free = subst (λ (x : World). NoneLent None x.threads) (sym w) (arrived_free None rules.built (world s) m h.free);
      };
    }

pub record Over (s new : Session) : Type 0 where
  pub opened : new.opened ≡ s.opened
  pub limits : new.limits ≡ s.limits
  pub halted : new.halted ≡ s.halted
  pub drained : (world new).drained ≡ (world s).drained
  pub arrived : arrivals new.journal ≡ arrivals s.journal
  pub ended : (world new).ended ≡ true
  pub paused : IsPaused new

pub over-by : (s new : Session) → IsPaused s → new ≡ with_entry s 0 End → Over s new
over-by s new h is =
    let w = at-world s new End is in
    record {
      opened = ap (λ (x : Session). x.opened) is;
      limits = ap (λ (x : Session). x.limits) is;
      halted = ap (λ (x : Session). x.halted) is;
      drained = ap (λ (x : World). x.drained) w;
      arrived = ap (λ (x : Session). arrivals x.journal) is ∙ arrivals-last s.journal (by_pipe End) ∙ append-nil (arrivals s.journal);
      ended = ap (λ (x : World). x.ended) w;
      paused = record {
        free = record {
          live = live-entry s new End is tt (no_step (steps_made s.journal) s.limits.steps h.free.live.within) h.free.live;
          free = subst (λ (x : World). NoneLent None x.threads) (sym w) h.free.free;
        };
        drained = ap (λ (x : World). x.undrained) w ∙ h.drained;
      };
    }

-- ---- an event that was refused

full_is : (f c l : Bool) → refusal f c l ≡ Some fault.Full → l ≡ true
full_is true c l e = absurd (cc)
full_is false true l e = absurd (cc)
full_is false false true e = refl
full_is false false false e = absurd (cc)

closed_is : (f c l : Bool) → refusal f c l ≡ Some fault.Closed → c ≡ true
closed_is true c l e = absurd (cc)
closed_is false true l e = refl
closed_is false false true e = absurd (cc)
closed_is false false false e = absurd (cc)

room_of : (f c l : Bool) → refusal f c l ≡ None → l ≡ false
room_of true c l e = absurd (cc)
room_of false true l e = absurd (cc)
room_of false false true e = absurd (cc)
room_of false false false e = refl

open_of : (f c l : Bool) → refusal f c l ≡ None → c ≡ false
open_of true c l e = absurd (cc)
open_of false true l e = absurd (cc)
open_of false false true e = absurd (cc)
open_of false false false e = refl

or_left : (a b : Bool) → a ≡ false → (a || b) ≡ true → b ≡ true
or_left true b e h = absurd (cc)
or_left false b e h = h

pub or_false : (a b : Bool) → (a || b) ≡ false → b ≡ false
or_false true b e = absurd (cc)
or_false false b e = e

not_lt : (a b : ℕ) → not (nat_lt a b) ≡ true → b ≤ a
not_lt a b h = grind (arith, nat_tests)

lt_of : (a b : ℕ) → not (nat_lt a b) ≡ false → a < b
lt_of a b h = grind (arith, nat_tests)

-- where an event was taken, there was room for it, and the session was open
pub has-place : (s : Session) → (world s).undrained ≡ [] → blocked s ≡ None → HasPlace s
has-place s none free = record {
  drained = none;
  open_ = or_false s.halted (world s).closed (open_of s.failed (is_closed s) (is_full s) free);
  room = lt_of (length s.journal + 1) s.limits.journal (room_of s.failed (is_closed s) (is_full s) free);
}

pub room-left : (s : Session) → blocked s ≡ None → length s.journal + 1 < s.limits.journal
room-left s free = lt_of (length s.journal + 1) s.limits.journal (room_of s.failed (is_closed s) (is_full s) free)

pub closed-halted : (s : Session) → s.halted ≡ false → is_closed s ≡ true → (world s).closed ≡ true
closed-halted s running h = or_left s.halted (world s).closed running h

pub frames-append : (a b : List ToEmacs) → frames (a ++ b) ≡ frames a ++ frames b
frames-append [] b = refl
frames-append (m ∷ a) b = ap (λ (x : List ℕ). packet_of (text_of m) ++ x) (frames-append a b) ∙ sym (append_assoc (packet_of (text_of m)) (frames a) (frames b))

-- what was drained is written before the rest
pub drained-begins : (s : Session) → IsPrefix (frames (world s).drained) (frames (outputs rules s.opened s.journal))
drained-begins s = (frames (world s).undrained, sym (ap (λ (x : List ToEmacs). frames x) (outputs_are_written rules s.opened s.journal) ∙ frames-append (world s).drained (world s).undrained))

pub paid-begins : (first now : Option (List ℕ)) (s : Session) (sent : ℕ) → Paid first now s sent → Sent first now sent (λ added. IsPrefix added (frames (outputs rules s.opened s.journal)))
paid-begins first now s sent p = record { added = p.added; told = p.told; count = p.count; is = subst (λ (x : List ℕ). IsPrefix x (frames (outputs rules s.opened s.journal))) (sym p.is) (drained-begins s) }

pub record Refused {B : Type 0} (s new : Session) (f : CoreFault) (after : B → Cursor) : Type 0 where
  pub halts : Halts new (halt_of f)
  pub reaches : (c : Cursor) → Reaches {A = B} s new (Err (halt_of f)) after c
  pub pays : (first now : Option (List ℕ)) (sent : ℕ) → Paid first now s sent → Pays {A = B} first now new sent (Err (halt_of f))
  pub later : Later s new

pub refused-by : {A B : Type 0} (s new : Session) (e : A → Event) (f : CoreFault) (after : B → Cursor) → IsLive s → (world s).undrained ≡ [] → ((world s).closed ≡ false → ((world s).ended && is_quiet (world s)) ≡ false)
    → Adds {A = A} 0 e s (Err f) new → Refused {B = B} s new f after
refused-by s new e fault.Failed after live none busy h = absurd (failed_not s.failed (is_closed s) (is_full s) live.whole h.0)
  where
    failed_not : (f c l : Bool) → f ≡ false → refusal f c l ≡ Some fault.Failed → ⊥
    failed_not true c l e h = absurd (cc)
    failed_not false true l e h = absurd (cc)
    failed_not false false true e h = absurd (cc)
    failed_not false false false e h = absurd (cc)
refused-by s new e fault.NoMemory after live none busy h =
    let same : new.journal ≡ s.journal = ap (λ (x : Session). x.journal) h.1 in
    record {
      halts = tt;
      reaches = λ c. subst (λ (j : List Entry). IsPrefix j (whole s c)) (sym same) (whole-begins s c);
      pays = λ first now sent p. subst (λ (x : Session). Sent first now sent (λ added. IsPrefix added (frames (outputs rules x.opened x.journal)))) (sym h.1) (paid-begins first now s sent p);
      later = subst (λ (x : Session). Later s x) (sym h.1) (record { opened = refl; limits = refl; halted = refl; longer = omega arith; arrived = refl; ended = refl });
    }
refused-by s new e fault.Closed after live none busy h =
    let is = closed_is s.failed (is_closed s) (is_full s) h.0 in
    let shut = closed-halted s live.running is in
    record {
      halts = subst (λ (x : Session). Halts x halt.Stuck) (sym h.1) (live.whole, none, closed shut);
      reaches = λ c. ap (λ (x : Session). x.journal) h.1 ∙ closed-stops s c none shut;
      pays = λ first now sent p. subst (λ (x : Session). Paid first now x sent) (sym h.1) p;
      later = subst (λ (x : Session). Later s x) (sym h.1) (later-same s);
    }
refused-by s new e fault.Full after live none busy h =
    let is = not_lt (length s.journal + 1) s.limits.journal (full_is s.failed (is_closed s) (is_full s) h.0) in
    record {
      halts = subst (λ (x : Session). Halts x halt.Stuck) (sym h.1) (live.whole, none, full is (busy (still s.failed (is_closed s) (is_full s) (or_false s.halted (world s).closed) h.0)));
      reaches = λ c. ap (λ (x : Session). x.journal) h.1 ∙ full-stops s c none is;
      pays = λ first now sent p. subst (λ (x : Session). Paid first now x sent) (sym h.1) p;
      later = subst (λ (x : Session). Later s x) (sym h.1) (later-same s);
    }
  where
    still : {x : Bool} (f c l : Bool) → (c ≡ false → x ≡ false) → refusal f c l ≡ Some fault.Full → x ≡ false
    still true c l g e = absurd (cc)
    still false true l g e = absurd (cc)
    still false false l g e = g refl
