-- A run, message by message, and how it ends.
use Rattle.std.proofs.Common.{◌≡◌, ℕ, zero, suc, ◌+◌, ◌-◌, ◌<◌, ◌≤◌, ◌⊎◌, inl, inr, Bool, true, false, List, [], ◌∷◌, ◌++◌, length, Option, None, Ok, Err, refl, sym, ap, ◌∙◌, subst, append_assoc, append-nil, arith}
use Rattle.std.specs.Prelude.{◌&&◌, not}
use mathlib.Core.List.{IsPrefix}
use Rattle.inlet.specs.Pump.{NothingLeft, Pumps, input_limit, met_end}
use Rattle.inlet.specs.declared.pumping.Pumped.{Pumped}
use Rattle.inlet.specs.declared.pumping.Pumped.TheVariants as pumped
use Rattle.packet_framing.specs.Packets.{IsUnfinished}
use Rattle.packet_framing.proofs.PacketLemmas.{first_packet-short}
use Rattle.rpc_messages.specs.declared.from_emacs.FromEmacs.{FromEmacs}
use Rattle.step_model.specs.Image.{ImageState}
use Rattle.session_model.specs.declared.event.Entry.{Entry}
use Rattle.session_model.specs.declared.limits.Limits.{Limits}
use Rattle.session_model.specs.Journal.{arrivals}
use Rattle.session_model.specs.Pipe.{Cursor, pipe_journal}
use Rattle.session_model.proofs.Loans.{NoneLent}
use Rattle.server_laws.specs.Small.{HasShortNames}
use Rattle.server_rules.specs.Rules.{rules}
use Rattle.swank_core.specs.Session.{Session, opening, world}
use Rattle.swank_session.specs.Course.{between, whole, IsAtRest, Arrives, IsOverAfter, Reaches, Fed, Serves, Ends, is_told, Ran, Completes, Spends, Paid}
use Rattle.swank_session.specs.Promises.{max_ahead}
use Rattle.swank_session.specs.Stream.{behind, messages}
use Rattle.swank_session.specs.declared.ends.Halt.{Halt}
use Rattle.swank_session.specs.declared.ends.Halt.TheVariants as halt
use Rattle.swank_session.specs.declared.ends.InputEnd.{InputEnd}
use Rattle.swank_session.specs.declared.ends.InputEnd.TheVariants as input
use Rattle.swank_session.proofs.FeedLemmas.{EndsInput, over-of, Taken, taken-of, fed-none, fed-message, near-kept, near-last, Over, lost-of}
use Rattle.swank_session.proofs.EventLemmas.{paid-begins}
use Rattle.swank_session.proofs.NextLemmas.{quiet-none}
use Rattle.swank_session.proofs.ScheduleLemmas.{whole-begins, whole-opening, rest-stops}
use Rattle.swank_session.proofs.TurnLemmas.{pays-err, reaches-err}

-- what was reached where it was halted
abbrev ReachesTo : Halt → List Entry → List Entry → Type 0
ReachesTo halt.Stuck j all = j ≡ all
ReachesTo halt.WriteFault j all = IsPrefix j all
ReachesTo halt.NoMemory j all = IsPrefix j all

reaches-to : (old new : Session) (x : Halt) (c d : Cursor) → Reaches {A = Unit {0}} old new (Err x) (λ _. c) d → ReachesTo x new.journal (whole old d)
reaches-to old new halt.Stuck c d r = r
reaches-to old new halt.WriteFault c d r = r
reaches-to old new halt.NoMemory c d r = r

abbrev Near : List ℕ → List FromEmacs → Type 0
Near octets ms = length (behind (length ms + 1) octets) ≤ max_ahead

-- ---- how it begins

free-at-first : (image : ImageState) (limits : Limits) → NoneLent None (world (opening image limits)).threads
free-at-first image limits zero ne = tt
free-at-first image limits (suc zero) ne = refl
free-at-first image limits (suc (suc u)) ne = tt

rest-at-first : (image : ImageState) (limits : Limits) → HasShortNames image → IsAtRest (opening image limits)
rest-at-first image limits names = record {
  paused = record {
    free = record { live = record { framed = record { names = names; small = tt }; whole = refl; running = refl; within = omega arith }; free = free-at-first image limits };
    drained = refl;
  };
  open_ = refl;
  quiet = refl;
}

pub serves-first : (image : ImageState) (limits : Limits) (left : Option (List ℕ)) (kept : List ℕ) (ended : Bool) (s : Session) → HasShortNames image → kept ≡ [] → s ≡ opening image limits → Serves left left kept 0 ended s s
serves-first image limits left kept ended s names none is = subst (λ (x : Session). Serves left left kept 0 ended x x) (sym is) (record {
  rest = rest-at-first image limits names;
  opened = refl;
  limits = refl;
  more = refl;
  fed = fed-none left kept none;
  few = few_none (ap length none);
  unended = inl (none, refl);
  same = λ further ends. whole-opening image limits further ends;
})
  where
    few_none : {n : ℕ} → n ≡ 0 → n ≤ max_ahead
    few_none e = omega (arith, e)

-- ---- a message more

unfinished-nil : (kept : List ℕ) → kept ≡ [] → IsUnfinished kept
unfinished-nil kept none = record { no_packet = first_packet-short kept (short (ap length none)); not_bad = λ bad. not_six (ap length none) bad.six }
  where
    short : {n : ℕ} → n ≡ 0 → n < 6
    short e = omega (arith, e)

    not_six : {n : ℕ} → n ≡ 0 → 6 ≤ n → ⊥
    not_six e h = omega (arith, e, h)

-- whether the end was met is what the answer says
pub has-met : (left0 left1 : Option (List ℕ)) (kept : List ℕ) (taken : ℕ) (ended now : Bool) (old s : Session) (answer : Pumped) → Serves left0 left1 kept taken ended old s
    → (IsUnfinished kept → taken < input_limit → now ≡ met_end answer) → (ended ≡ false → now ≡ met_end answer) → now ≡ met_end answer
has-met left0 left1 kept taken ended now old s answer h met same = by-unended h.unended
  where
    none_taken : {n : ℕ} → n ≡ 0 → n < input_limit
    none_taken e = omega (arith, e)

    by-unended : ((kept ≡ []) × (taken ≡ 0)) ⊎ (ended ≡ false) → now ≡ met_end answer
    by-unended (inl none) = met (unfinished-nil kept none.0) (none_taken none.1)
    by-unended (inr e) = same e

module _ (left0 left1 left2 : Option (List ℕ)) (kept kept' : List ℕ) (taken taken' : ℕ) (ended now : Bool) (old s : Session) (h : Serves left0 left1 kept taken ended old s) where
  pub serves-next : (m : FromEmacs) (new : Session) → Pumps left1 left2 kept kept' taken taken' now (pumped.Message m) → now ≡ false → length kept' ≤ max_ahead → Arrives s new m (Ok tt) → IsAtRest new
      → ((further : List FromEmacs) (ends : Bool) → whole new (between further ends 0) ≡ whole s (between (m ∷ further) ends 0)) → Serves left0 left2 kept' taken' now old new
  serves-next m new p met few a rest same = record {
    rest = rest;
    opened = a.opened ∙ h.opened;
    limits = a.limits ∙ h.limits;
    more = a.ended ∙ h.more;
    fed = subst (λ (ms : List FromEmacs). Fed left0 left2 kept' taken' ms) (sym a.whole.0) (fed-message left0 left1 left2 kept kept' taken taken' (arrivals s.journal) now h.fed m p);
    few = few;
    unended = inr met;
    same = λ further ends.
        same further ends
        ∙ h.same (m ∷ further) ends
        ∙ ap (λ (ms : List FromEmacs). pipe_journal rules s.opened ms ends s.limits) (sym (append_assoc (arrivals s.journal) (m ∷ []) further) ∙ ap (λ (ms : List FromEmacs). ms ++ further) (sym a.whole.0))
        ∙ ap (λ (x : Limits). pipe_journal rules s.opened (arrivals new.journal ++ further) ends x) (sym a.limits)
        ∙ ap (λ (x : ImageState). pipe_journal rules x (arrivals new.journal ++ further) ends new.limits) (sym a.opened);
  }

  -- ---- where it is halted

  ends-from : (new : Session) (x : Halt) (ms all : List FromEmacs) (ends : Bool) → new.opened ≡ s.opened → new.limits ≡ s.limits → arrivals s.journal ++ ms ≡ all → Reaches {A = Unit {0}} s new (Err x) (λ _. between [] false 0) (between ms ends 0)
      → Ends (Err x) new.journal (pipe_journal rules new.opened all ends new.limits)
  ends-from new x ms all ends opened limits is r =
      let e : whole s (between ms ends 0) ≡ pipe_journal rules new.opened all ends new.limits =
      h.same ms ends ∙ ap (λ (y : List FromEmacs). pipe_journal rules s.opened y ends s.limits) is
      ∙ ap (λ (y : Limits). pipe_journal rules s.opened all ends y) (sym limits) ∙ ap (λ (y : ImageState). pipe_journal rules y all ends new.limits) (sym opened) in
      by-halt x new.journal (whole s (between ms ends 0)) (pipe_journal rules new.opened all ends new.limits) (reaches-to s new x (between [] false 0) (between ms ends 0) r) e
    where
      by-halt : (x : Halt) (j whole_one all_one : List Entry) → ReachesTo x j whole_one → whole_one ≡ all_one → Ends (Err x) j all_one
      by-halt halt.Stuck j _ _ r e = r ∙ e
      by-halt halt.WriteFault j _ _ r e = (r.0, r.1 ∙ e)
      by-halt halt.NoMemory j _ _ r e = (r.0, r.1 ∙ e)

  never : {P : Type 0} (b : Bool) → b ≡ false → b ≡ true → P
  never b e f = absurd (cc (e, f))

  pub ran-message : (m : FromEmacs) (new : Session) (x : Halt) → Pumps left1 left2 kept kept' taken taken' now (pumped.Message m) → length kept' ≤ max_ahead → Arrives s new m (Err x)
      → Reaches {A = Unit {0}} s new (Err x) (λ _. between [] false 0) (between (m ∷ messages kept') now 0) → Ran left0 left2 taken' now new (Err x)
  ran-message m new x p few a r =
      let t : Taken left0 left2 kept' taken' (arrivals s.journal ++ m ∷ []) = taken-of left0 left2 kept' taken' (arrivals s.journal ++ m ∷ []) (fed-message left0 left1 left2 kept kept' taken taken' (arrivals s.journal) now h.fed m p) in
      let all : arrivals s.journal ++ (m ∷ messages kept') ≡ messages t.octets = sym (append_assoc (arrivals s.journal) (m ∷ []) (messages kept')) ∙ sym t.messages_are in
      by-arrival t all a.arrived
    where
      by-arrival : (t : Taken left0 left2 kept' taken' (arrivals s.journal ++ m ∷ [])) → arrivals s.journal ++ (m ∷ messages kept') ≡ messages t.octets
          → (arrivals new.journal ≡ arrivals s.journal ++ m ∷ []) ⊎ (arrivals new.journal ≡ arrivals s.journal) → Ran left0 left2 taken' now new (Err x)
      by-arrival t all (inl came) = record {
        octets = t.octets;
        took = t.took;
        count = t.count;
        journal = ends-from new x (m ∷ messages kept') (messages t.octets) now a.opened a.limits all r;
        lacked = messages kept';
        is = ap (λ (ms : List FromEmacs). ms ++ messages kept') came ∙ sym t.messages_are;
        all = tt;
        at_end = λ e. never (world new).ended (a.ended ∙ h.more) e;
        near = λ _. inr (subst (λ (ms : List FromEmacs). Near t.octets ms) (sym came) (near-kept left0 left2 kept' taken' (arrivals s.journal ++ m ∷ []) t few));
        brings = tt;
      }
      by-arrival t all (inr not) = record {
        octets = t.octets;
        took = t.took;
        count = t.count;
        journal = ends-from new x (m ∷ messages kept') (messages t.octets) now a.opened a.limits all r;
        lacked = m ∷ messages kept';
        is = ap (λ (ms : List FromEmacs). ms ++ (m ∷ messages kept')) not ∙ all;
        all = tt;
        at_end = λ e. never (world new).ended (a.ended ∙ h.more) e;
        near = λ _. inr (subst (λ (ms : List FromEmacs). Near t.octets ms) (sym not) (near-last left0 left2 kept' taken' (arrivals s.journal) m t few));
        brings = tt;
      }

  -- ---- where the input ends

  pub ran-lost : Pumps left1 left2 kept kept' taken taken' now pumped.NoMemory → Ran left0 left2 taken' now s (Err halt.NoMemory)
  ran-lost p =
      let l = lost-of left0 left1 left2 kept kept' taken taken' (arrivals s.journal) now h.fed p in record {
        octets = l.octets;
        took = l.took;
        count = l.count;
        journal = subst (λ (j : List Entry). IsPrefix s.journal j) (h.same l.more now ∙ ap (λ (ms : List FromEmacs). pipe_journal rules s.opened ms now s.limits) (sym l.messages_are)) (whole-begins s (between l.more now 0));
        lacked = l.more;
        is = sym l.messages_are;
        all = tt;
        at_end = λ e. never (world s).ended h.more e;
        near = λ n. absurd (n refl);
        brings = tt;
      }

  rest-journal : (new : Session) (ends : Bool) → IsAtRest new → (ends && not (world new).ended) ≡ false → new.journal ≡ whole new (between [] ends 0)
  rest-journal new ends rest over = rest-stops new ends 0 rest.paused.drained rest.open_ (quiet-none (world new) 0 rest.quiet) over

  pub ran-over : (end : InputEnd) → is_told end ≡ false → now ≡ false → Over left0 left2 taken' (arrivals s.journal) now end → Ran left0 left2 taken' now s (Ok end)
  ran-over end told unmet o = record {
    octets = o.octets;
    took = o.took;
    count = o.count;
    journal = rest-journal s now h.rest (ap (λ b. b && not (world s).ended) unmet) ∙ h.same [] now
        ∙ ap (λ (ms : List FromEmacs). pipe_journal rules s.opened ms now s.limits) (append-nil (arrivals s.journal) ∙ sym o.messages_are);
    lacked = [];
    is = append-nil (arrivals s.journal) ∙ sym o.messages_are;
    all = refl;
    at_end = λ e. never (world s).ended h.more e;
    near = λ _. inl refl;
    brings = record { rest = o.rest; told = h.more ∙ sym told; empty = λ e. never (is_told end) told e };
  }

  pub ran-told : (end : InputEnd) (new : Session) → is_told end ≡ true → now ≡ true → NothingLeft left2 → Over left0 left2 taken' (arrivals s.journal) now end → IsOverAfter s new (Ok tt) → IsAtRest new
      → whole new (between [] true 0) ≡ whole s (between [] true 0) → Ran left0 left2 taken' now new (Ok end)
  ran-told end new told met empty o a rest same =
      let all : arrivals s.journal ++ [] ≡ messages o.octets = append-nil (arrivals s.journal) ∙ sym o.messages_are in record {
        octets = o.octets;
        took = o.took;
        count = o.count;
        journal = rest-journal new true rest (ap (λ b. true && not b) a.ended) ∙ same ∙ h.same [] true
            ∙ ap (λ (ms : List FromEmacs). pipe_journal rules s.opened ms true s.limits) all
            ∙ ap (λ b. pipe_journal rules s.opened (messages o.octets) b s.limits) (sym met)
            ∙ ap (λ (x : Limits). pipe_journal rules s.opened (messages o.octets) now x) (sym a.limits)
            ∙ ap (λ (x : ImageState). pipe_journal rules x (messages o.octets) now new.limits) (sym a.opened);
        lacked = [];
        is = append-nil (arrivals new.journal) ∙ a.arrived ∙ sym o.messages_are;
        all = refl;
        at_end = λ _. (refl, met);
        near = λ _. inl refl;
        brings = record { rest = o.rest; told = a.ended ∙ sym told; empty = λ _. empty };
      }

  pub ran-told-halted : (end : InputEnd) (new : Session) (x : Halt) → now ≡ true → Over left0 left2 taken' (arrivals s.journal) now end → IsOverAfter s new (Err x)
      → Reaches {A = Unit {0}} s new (Err x) (λ _. between [] false 0) (between [] true 0) → Ran left0 left2 taken' now new (Err x)
  ran-told-halted end new x met o a r =
      let all : arrivals s.journal ++ [] ≡ messages o.octets = append-nil (arrivals s.journal) ∙ sym o.messages_are in record {
        octets = o.octets;
        took = o.took;
        count = o.count;
        journal = subst (λ b. Ends (Err x) new.journal (pipe_journal rules new.opened (messages o.octets) b new.limits)) (sym met) (ends-from new x [] (messages o.octets) true a.opened a.limits all r);
        lacked = [];
        is = append-nil (arrivals new.journal) ∙ a.arrived ∙ sym o.messages_are;
        all = tt;
        at_end = λ _. (refl, met);
        near = λ _. inl refl;
        brings = tt;
      }

-- ---- the whole

module _ (left0 left1 left2 : Option (List ℕ)) (kept kept' : List ℕ) (taken taken' : ℕ) (ended now : Bool) (old s : Session) (h : Serves left0 left1 kept taken ended old s)
    (w0 w1 w2 : Option (List ℕ)) (n0 n1 n2 : ℕ) (paid : (first : Option (List ℕ)) → Paid first w0 old n0 → Paid first w1 s n1) where
  pub completes-message : (m : FromEmacs) (new : Session) (x : Halt) → Pumps left1 left2 kept kept' taken taken' now (pumped.Message m) → length kept' ≤ max_ahead → Arrives s new m (Err x)
      → Spends {A = Unit {0}} s new w1 w2 n1 n2 (Err x) → ((further : List FromEmacs) (ends : Bool) → Reaches {A = Unit {0}} s new (Err x) (λ _. between further ends 0) (between (m ∷ further) ends 0))
      → Completes left0 left2 now w0 w2 taken' n0 n2 old new (Err x)
  completes-message m new x p few a spends r = record {
    ran = ran-message left0 left1 left2 kept kept' taken taken' ended now old s h m new x p few a
        (reaches-err s new x (λ _. between (messages kept') now 0) (λ _. between [] false 0) (between (m ∷ messages kept') now 0) (r (messages kept') now));
    opened = a.opened ∙ h.opened;
    limits = a.limits ∙ h.limits;
    running = a.halted ∙ h.rest.paused.free.live.running;
    finishes = spends.halts;
    pays = λ first q. pays-err (Unit {0}) InputEnd first w2 new n2 x (spends.pays first (paid first q));
  }

  pub completes-lost : Pumps left1 left2 kept kept' taken taken' now pumped.NoMemory → Completes left0 left2 now w0 w1 taken' n0 n1 old s (Err halt.NoMemory)
  completes-lost p = record {
    ran = ran-lost left0 left1 left2 kept kept' taken taken' ended now old s h p;
    opened = h.opened;
    limits = h.limits;
    running = h.rest.paused.free.live.running;
    finishes = tt;
    pays = λ first q. paid-begins first w1 s n1 (paid first q);
  }

  pub completes-over : (answer : Pumped) (end : InputEnd) → EndsInput answer end → is_told end ≡ false → met_end answer ≡ false → now ≡ met_end answer → Pumps left1 left2 kept kept' taken taken' now answer
      → Completes left0 left2 now w0 w1 taken' n0 n1 old s (Ok end)
  completes-over answer end is told unmet met p = record {
    ran = ran-over left0 left1 left2 kept kept' taken taken' ended now old s h end told (met ∙ unmet)
        (over-of left0 left1 left2 kept kept' taken taken' (arrivals s.journal) now h.fed answer end is met p);
    opened = h.opened;
    limits = h.limits;
    running = h.rest.paused.free.live.running;
    finishes = h.rest;
    pays = paid;
  }

  pub completes-told : (answer : Pumped) (end : InputEnd) (new : Session) → EndsInput answer end → is_told end ≡ true → met_end answer ≡ true → now ≡ met_end answer → NothingLeft left2 → Pumps left1 left2 kept kept' taken taken' now answer
      → IsOverAfter s new (Ok tt) → IsAtRest new → Spends {A = Unit {0}} s new w1 w2 n1 n2 (Ok tt) → whole new (between [] true 0) ≡ whole s (between [] true 0)
      → Completes left0 left2 now w0 w2 taken' n0 n2 old new (Ok end)
  completes-told answer end new is told ismet met empty p a rest spends same = record {
    ran = ran-told left0 left1 left2 kept kept' taken taken' ended now old s h end new told (met ∙ ismet) empty
        (over-of left0 left1 left2 kept kept' taken taken' (arrivals s.journal) now h.fed answer end is met p) a rest same;
    opened = a.opened ∙ h.opened;
    limits = a.limits ∙ h.limits;
    running = a.halted ∙ h.rest.paused.free.live.running;
    finishes = rest;
    pays = λ first q. spends.pays first (paid first q);
  }

  pub completes-told-halted : (answer : Pumped) (end : InputEnd) (new : Session) (x : Halt) → EndsInput answer end → met_end answer ≡ true → now ≡ met_end answer → Pumps left1 left2 kept kept' taken taken' now answer
      → IsOverAfter s new (Err x) → Spends {A = Unit {0}} s new w1 w2 n1 n2 (Err x) → Reaches {A = Unit {0}} s new (Err x) (λ _. between [] true 0) (between [] true 0)
      → Completes left0 left2 now w0 w2 taken' n0 n2 old new (Err x)
  completes-told-halted answer end new x is ismet met p a spends r = record {
    ran = ran-told-halted left0 left1 left2 kept kept' taken taken' ended now old s h end new x (met ∙ ismet)
        (over-of left0 left1 left2 kept kept' taken taken' (arrivals s.journal) now h.fed answer end is met p) a
        (reaches-err s new x (λ _. between [] true 0) (λ _. between [] false 0) (between [] true 0) r);
    opened = a.opened ∙ h.opened;
    limits = a.limits ∙ h.limits;
    running = a.halted ∙ h.rest.paused.free.live.running;
    finishes = spends.halts;
    pays = λ first q. pays-err (Unit {0}) InputEnd first w2 new n2 x (spends.pays first (paid first q));
  }
