-- What a run that ended so promises.
use Rattle.std.proofs.Common.{◌≡◌, ◌≢◌, ℕ, ◌+◌, ◌-◌, ◌^◌, ◌<◌, ◌≤◌, min, ◌⊎◌, inl, inr, Bool, true, false, List, [], ◌∷◌, ◌++◌, length, Option, Some, None, Result, Ok, Err, refl, sym, ap, ◌∙◌, subst, append-nil, arith}
use Rattle.std.specs.Prelude.{◌&&◌, not, nat_le, IfOk}
use Rattle.std.proofs.lemmas.Bool.Decides.{nat_tests}
use Rattle.std.proofs.lemmas.List.{append_cancel_left, append_cancel_right}
use mathlib.Core.List.{IsPrefix}
use Rattle.outside_traits.specs.Told.{BothTold}
use Rattle.packet_framing.specs.Packets.{Split, packets, packets_up_to, IsBad}
use Rattle.packet_framing.proofs.PacketLemmas.{packets-bad}
use Rattle.inlet.specs.Pump.{NothingLeft, input_limit}
use Rattle.rpc_messages.specs.declared.to_emacs.ToEmacs.{ToEmacs}
use Rattle.step_model.specs.Image.{ImageState}
use Rattle.session_model.specs.declared.event.Entry.{Entry}
use Rattle.session_model.specs.declared.limits.Limits.{Limits}
use Rattle.session_model.specs.Journal.{outputs, run}
use Rattle.session_model.specs.Legal.{is_quiet, IsLegalFrom}
use Rattle.session_model.specs.Pipe.{pipe_journal}
use Rattle.session_model.specs.Wire.{frames}
use Rattle.session_model.proofs.Outputs.{outputs_are_written}
use Rattle.session_model.proofs.PipeLegal.{pipe_is_legal}
use Rattle.session_model.proofs.Prefixes.{prefix_is_legal}
use Rattle.server_rules.specs.Rules.{rules}
use Rattle.swank_core.specs.Session.{Session, opening, world}
use Rattle.swank_session.specs.Causes.{IsBroken, IsBrokenOrFull, IsStopped, IsDue, IsFull, IsSpent, IsBadInput, IsCutInput, IsLongInput, IsAllServed, closes, ends, NoLimit}
use Rattle.swank_session.specs.Course.{IsAtRest, IsStuck, closed, full, spent, Halts, Finishes, Paid, Pays, Ends, Brings, is_told, Ran, is_out_of_room, status_if, status_of_end, status_for}
use Rattle.swank_session.specs.Promises.{Took, Wrote, IsAtInput, IsRead, IsCut, IsWritten, IsOver, IsEnded, IsScheduled}
use Rattle.swank_session.specs.Stream.{messages}
use Rattle.swank_session.specs.declared.ends.Halt.{Halt}
use Rattle.swank_session.specs.declared.ends.Halt.TheVariants as halt
use Rattle.swank_session.specs.declared.ends.InputEnd.{InputEnd}
use Rattle.swank_session.specs.declared.ends.InputEnd.TheVariants as input
use Rattle.swank_session.specs.declared.outcome.Status.{Status}
use Rattle.swank_session.specs.declared.outcome.Status.TheVariants as status
use Rattle.swank_session.proofs.StreamLemmas.{messages-may}

-- ---- the octets are those that were told

pub took-same : (left0 left1 : Option (List ℕ)) (a b : List ℕ) → BothTold left0 left1 (λ old new. old ≡ a ++ new) → Took left0 left1 b → a ≡ b
took-same (Some old) (Some new) a b is took = append_cancel_right a b new (sym is ∙ took)
took-same None None a b is took = absurd took
took-same None (Some new) a b is took = absurd is
took-same (Some old) None a b is took = absurd is

pub wrote-same : (first now : Option (List ℕ)) (a b : List ℕ) → BothTold first now (λ old new. new ≡ old ++ a) → Wrote first now b → a ≡ b
wrote-same (Some old) (Some new) a b is wrote = append_cancel_left old a b (sym is ∙ wrote)
wrote-same None None a b is wrote = absurd wrote
wrote-same None (Some new) a b is wrote = absurd is
wrote-same (Some old) None a b is wrote = absurd is

-- ---- the journal

ends-begins : (result : Result InputEnd Halt) (j all : List Entry) → Ends result j all → IsPrefix j all
ends-begins (Ok _) j all e = ([], append-nil j ∙ e)
ends-begins (Err halt.Stuck) j all e = ([], append-nil j ∙ e)
ends-begins (Err halt.WriteFault) j all e = e
ends-begins (Err halt.NoMemory) j all e = e

module _ (left0 left1 : Option (List ℕ)) (taken : ℕ) (ended : Bool) (s : Session) (result : Result InputEnd Halt) (r : Ran left0 left1 taken ended s result) where
  pub ran-legal : IsLegalFrom rules s.opened s.journal
  ran-legal =
      let b : IsPrefix s.journal (pipe_journal rules s.opened (messages r.octets) ended s.limits) = ends-begins result s.journal _ r.journal in
      prefix_is_legal rules s.opened s.journal b.0
      (subst (IsLegalFrom rules s.opened) (sym b.1) (pipe_is_legal rules s.opened (messages r.octets) ended s.limits (messages-may r.octets)))

  pub ran-taken : (octets : List ℕ) → Took left0 left1 octets → taken ≡ length octets
  ran-taken octets took = r.count ∙ ap length (took-same left0 left1 r.octets octets r.took took)

-- ---- how a status comes

pub data Comes (s : Session) (result : Result InputEnd Halt) : Status → Type 0 where
  wants : result ≡ Err halt.NoMemory → Comes s result status.NoMemory
  fails : result ≡ Err halt.WriteFault → Halts s halt.WriteFault → Comes s result status.WriteFault
  shut : (result ≢ Err halt.NoMemory) → (result ≢ Err halt.WriteFault) → (world s).undrained ≡ [] → s.failed ≡ false → (world s).closed ≡ true → Comes s result status.Ok
  filled : (result ≢ Err halt.NoMemory) → (result ≢ Err halt.WriteFault) → (world s).undrained ≡ [] → s.failed ≡ false → IsFull s.limits s.journal (world s) → Comes s result status.JournalFull
  exhausted : (world s).undrained ≡ [] → s.failed ≡ false → result ≡ Err halt.Stuck → is_out_of_room s ≡ false → IsSpent s.limits s.journal (world s) → Comes s result status.Budget
  input_ended : (end : InputEnd) → result ≡ Ok end → IsAtRest s → is_out_of_room s ≡ false → Comes s result (status_of_end end)

and-both : (a b : Bool) → (a && b) ≡ true → (a ≡ true) × (b ≡ true)
and-both true b e = (refl, e)
and-both false b e = absurd (cc)

le-of : (a b : ℕ) → nat_le a b ≡ true → a ≤ b
le-of a b h = grind (arith, nat_tests)

is-le : (a b : ℕ) → a ≤ b → nat_le a b ≡ true
is-le a b h = grind (arith, nat_tests)

not-false : (b : Bool) → not b ≡ true → b ≡ false
not-false true e = absurd (cc)
not-false false e = refl

out-of-room : (s : Session) → (world s).closed ≡ false → is_out_of_room s ≡ true → IsFull s.limits s.journal (world s)
out-of-room s open_now h =
    let b = and-both (nat_le s.limits.journal (length s.journal + 1)) (not ((world s).ended && is_quiet (world s))) h in
    record { long = le-of s.limits.journal (length s.journal + 1) b.0; open_ = open_now; unfinished = not-false ((world s).ended && is_quiet (world s)) b.1 }

pub full-room : (s : Session) → IsFull s.limits s.journal (world s) → is_out_of_room s ≡ true
full-room s f =
    ap (λ b. b && not ((world s).ended && is_quiet (world s))) (is-le s.limits.journal (length s.journal + 1) f.long) ∙ ap not f.unfinished

-- a session that is stuck, neither closed nor out of room, is spent
stuck-spent : (s : Session) → IsStuck s → (world s).closed ≡ false → is_out_of_room s ≡ false → IsSpent s.limits s.journal (world s)
stuck-spent s (closed e) open_now room = absurd (cc (e, open_now))
stuck-spent s (full long busy) open_now room =
    let h = full-room s (record { long = long; open_ = open_now; unfinished = busy }) in absurd (cc (h, room))
stuck-spent s (spent e busy) open_now room = record { spent = e; open_ = open_now; busy = busy }

pub comes : (s : Session) (result : Result InputEnd Halt) → Finishes s result → Comes s result (status_for s result)
comes s (Err halt.NoMemory) h = wants refl
comes s (Err halt.WriteFault) h = fails refl h
comes s (Err halt.Stuck) h = by-cases (world s).closed refl (is_out_of_room s) refl
  where
    by-cases : (c : Bool) → (world s).closed ≡ c → (f : Bool) → is_out_of_room s ≡ f → Comes s (Err halt.Stuck) (status_if c f status.Budget)
    by-cases true e f g = shut (λ e. cc) (λ e. cc) h.1 h.0 e
    by-cases false e true g = filled (λ e. cc) (λ e. cc) h.1 h.0 (out-of-room s e g)
    by-cases false e false g = exhausted h.1 h.0 refl g (stuck-spent s h.2 e g)
comes s (Ok end) h = by-cases (world s).closed refl (is_out_of_room s) refl
  where
    by-cases : (c : Bool) → (world s).closed ≡ c → (f : Bool) → is_out_of_room s ≡ f → Comes s (Ok end) (status_if c f (status_of_end end))
    by-cases true e f g = shut (λ e. cc) (λ e. cc) h.paused.drained h.paused.free.live.whole e
    by-cases false e true g = filled (λ e. cc) (λ e. cc) h.paused.drained h.paused.free.live.whole (out-of-room s e g)
    by-cases false e false g = input_ended end refl h g

-- ---- what was written

whole-outputs : (s : Session) → (world s).undrained ≡ [] → frames (world s).drained ≡ frames (outputs rules s.opened s.journal)
whole-outputs s none =
    ap (λ (ms : List ToEmacs). frames ms) (sym (append-nil (world s).drained) ∙ ap (λ (ms : List ToEmacs). (world s).drained ++ ms) (sym none) ∙ sym (outputs_are_written rules s.opened s.journal))

paid-of : (first now : Option (List ℕ)) (s : Session) (sent : ℕ) (result : Result InputEnd Halt) → (result ≢ Err halt.NoMemory) → (result ≢ Err halt.WriteFault) → Pays first now s sent result → Paid first now s sent
paid-of first now s sent (Ok end) m f p = p
paid-of first now s sent (Err halt.Stuck) m f p = p
paid-of first now s sent (Err halt.WriteFault) m f p = absurd (f refl)
paid-of first now s sent (Err halt.NoMemory) m f p = absurd (m refl)

pub pays-sent : (first now : Option (List ℕ)) (s : Session) (sent : ℕ) (result : Result InputEnd Halt) → Pays first now s sent result → (octets : List ℕ) → Wrote first now octets → sent ≡ min (length octets) (2 ^ 64 - 1)
pays-sent first now s sent (Ok end) p octets wrote = p.count ∙ ap (λ (x : List ℕ). min (length x) (2 ^ 64 - 1)) (wrote-same first now p.added octets p.told wrote)
pays-sent first now s sent (Err halt.Stuck) p octets wrote = p.count ∙ ap (λ (x : List ℕ). min (length x) (2 ^ 64 - 1)) (wrote-same first now p.added octets p.told wrote)
pays-sent first now s sent (Err halt.WriteFault) p octets wrote = p.count ∙ ap (λ (x : List ℕ). min (length x) (2 ^ 64 - 1)) (wrote-same first now p.added octets p.told wrote)
pays-sent first now s sent (Err halt.NoMemory) p octets wrote = p.count ∙ ap (λ (x : List ℕ). min (length x) (2 ^ 64 - 1)) (wrote-same first now p.added octets p.told wrote)

all-written : (first now : Option (List ℕ)) (s : Session) (sent : ℕ) (octets : List ℕ) → (world s).undrained ≡ [] → Paid first now s sent → Wrote first now octets → octets ≡ frames (outputs rules s.opened s.journal)
all-written first now s sent octets none p wrote = sym (wrote-same first now p.added octets p.told wrote) ∙ p.is ∙ whole-outputs s none

input-written : (end : InputEnd) (s : Session) (octets : List ℕ) → octets ≡ frames (outputs rules s.opened s.journal) → IsWritten (status_of_end end) s.opened s.journal octets
input-written input.Whole s octets e = e
input-written input.BadHeader s octets e = e
input-written input.Truncated s octets e = e
input-written input.ReadFault s octets e = e
input-written input.InputLimit s octets e = e

pub pays-written : (first now : Option (List ℕ)) (s : Session) (sent : ℕ) (result : Result InputEnd Halt) (end : Status) → Comes s result end → Pays first now s sent result → (octets : List ℕ) → Wrote first now octets → IsWritten end s.opened s.journal octets
pays-written first now s sent (Err halt.NoMemory) _ (wants e) p octets wrote =
    subst (λ (x : List ℕ). IsPrefix x (frames (outputs rules s.opened s.journal))) (wrote-same first now p.added octets p.told wrote) p.is
pays-written first now s sent (Err halt.WriteFault) _ (wants e) p octets wrote = absurd (cc)
pays-written first now s sent (Err halt.Stuck) _ (wants e) p octets wrote = absurd (cc)
pays-written first now s sent (Ok _) _ (wants e) p octets wrote = absurd (cc)
pays-written first now s sent (Err halt.WriteFault) _ (fails e h) p octets wrote =
    subst (λ (x : List ℕ). IsCut s.opened s.journal x) (wrote-same first now p.added octets p.told wrote) p.is
pays-written first now s sent (Err halt.NoMemory) _ (fails e h) p octets wrote = absurd (cc)
pays-written first now s sent (Err halt.Stuck) _ (fails e h) p octets wrote = absurd (cc)
pays-written first now s sent (Ok _) _ (fails e h) p octets wrote = absurd (cc)
pays-written first now s sent result _ (shut m f none alive h) p octets wrote = all-written first now s sent octets none (paid-of first now s sent result m f p) wrote
pays-written first now s sent result _ (filled m f none alive h) p octets wrote = all-written first now s sent octets none (paid-of first now s sent result m f p) wrote
pays-written first now s sent result _ (exhausted none alive e room h) p octets wrote =
    all-written first now s sent octets none (paid-of first now s sent result (λ g. cc (e, g)) (λ g. cc (e, g)) p) wrote
pays-written first now s sent result _ (input_ended end e rest room) p octets wrote =
    input-written end s octets (all-written first now s sent octets rest.paused.drained (paid-of first now s sent result (λ g. cc (e, g)) (λ g. cc (e, g)) p) wrote)

-- ---- what was read

at-input-not-stuck : (s : Session) (result : Result InputEnd Halt) (end : Status) → Comes s result end → IsAtInput end → (world s).closed ≡ false → (e : InputEnd) × (result ≡ Ok e)
at-input-not-stuck s result _ (wants e) at open_now = absurd at
at-input-not-stuck s result _ (fails e h) at open_now = absurd at
at-input-not-stuck s result _ (shut m f none alive h) at open_now = absurd (cc (h, open_now))
at-input-not-stuck s result _ (filled m f none alive h) at open_now = absurd at
at-input-not-stuck s result _ (exhausted none alive e room h) at open_now = absurd at
at-input-not-stuck s result _ (input_ended end e rest room) at open_now = (end, e)

if-ok : {P : Type 0} (result : Result InputEnd Halt) (e : InputEnd) → result ≡ Ok e → IfOk result (λ _. P) → P
if-ok (Ok _) e is h = h
if-ok (Err _) e is h = absurd (cc)

not-memory : (s : Session) (result : Result InputEnd Halt) (end : Status) → Comes s result end → end ≢ status.NoMemory → result ≢ Err halt.NoMemory
not-memory s result _ (wants e) n = absurd (n refl)
not-memory s result _ (fails e h) n = λ g. cc (e, g)
not-memory s result _ (shut m f none alive h) n = m
not-memory s result _ (filled m f none alive h) n = m
not-memory s result _ (exhausted none alive e room h) n = λ g. cc (e, g)
not-memory s result _ (input_ended end e rest room) n = λ g. cc (e, g)

pub alive-unless : (s : Session) (result : Result InputEnd Halt) (end : Status) → Comes s result end → end ≢ status.NoMemory → s.failed ≡ false
alive-unless s result _ (wants e) n = absurd (n refl)
alive-unless s result _ (fails e h) n = h
alive-unless s result _ (shut m f none alive h) n = alive
alive-unless s result _ (filled m f none alive h) n = alive
alive-unless s result _ (exhausted none alive e room h) n = alive
alive-unless s result _ (input_ended end e rest room) n = rest.paused.free.live.whole

input-scheduled : (end : InputEnd) (j all : List Entry) → j ≡ all → IsScheduled (status_of_end end) j all
input-scheduled input.Whole j all e = e
input-scheduled input.BadHeader j all e = e
input-scheduled input.Truncated j all e = e
input-scheduled input.ReadFault j all e = e
input-scheduled input.InputLimit j all e = e

whole-ends : (result : Result InputEnd Halt) (j all : List Entry) → (result ≢ Err halt.NoMemory) → (result ≢ Err halt.WriteFault) → Ends result j all → j ≡ all
whole-ends (Ok _) j all m f e = e
whole-ends (Err halt.Stuck) j all m f e = e
whole-ends (Err halt.WriteFault) j all m f e = absurd (f refl)
whole-ends (Err halt.NoMemory) j all m f e = absurd (m refl)

as-scheduled : (s : Session) (result : Result InputEnd Halt) (end : Status) (j all : List Entry) → Comes s result end → Ends result j all → IsScheduled end j all
as-scheduled s result _ j all (wants e) h = ends-begins result j all h
as-scheduled s result _ j all (fails e x) h = ends-begins result j all h
as-scheduled s result _ j all (shut m f none alive x) h = whole-ends result j all m f h
as-scheduled s result _ j all (filled m f none alive x) h = whole-ends result j all m f h
as-scheduled s result _ j all (exhausted none alive e room x) h = whole-ends result j all (λ g. cc (e, g)) (λ g. cc (e, g)) h
as-scheduled s result _ j all (input_ended end e rest room) h = input-scheduled end j all (whole-ends result j all (λ g. cc (e, g)) (λ g. cc (e, g)) h)

module _ (left0 left1 : Option (List ℕ)) (taken : ℕ) (ended : Bool) (s : Session) (result : Result InputEnd Halt) (r : Ran left0 left1 taken ended s result) (end : Status) (c : Comes s result end) where
  pub ran-read : (octets : List ℕ) → Took left0 left1 octets → IsRead end ended octets s.opened s.journal
  ran-read octets took =
      let same : r.octets ≡ octets = took-same left0 left1 r.octets octets r.took took in
      subst (λ (x : List ℕ). IsRead end ended x s.opened s.journal) same (record {
        lacked = r.lacked;
        is = r.is;
        all = λ at open_now. let e = at-input-not-stuck s result end c at open_now in if-ok result e.0 e.1 r.all;
        at_end = r.at_end;
        near = λ n. r.near (not-memory s result end c n);
      })

  pub ran-scheduled : (octets : List ℕ) → Took left0 left1 octets → IsScheduled end s.journal (pipe_journal rules s.opened (messages octets) ended s.limits)
  ran-scheduled octets took =
      subst (λ (x : List ℕ). IsScheduled end s.journal (pipe_journal rules s.opened (messages x) ended s.limits)) (took-same left0 left1 r.octets octets r.took took)
      (as-scheduled s result end s.journal _ c r.journal)

-- ---- how the input ended

ok-of : (P : InputEnd → Type 0) (result : Result InputEnd Halt) (e : InputEnd) → result ≡ Ok e → IfOk result P → P e
ok-of P result e is h = subst (λ (x : Result InputEnd Halt). IfOk x P) is h

nothing-good : {octets : List ℕ} → octets ≡ [] → ¬ IsBad octets
nothing-good is bad = let six : 6 ≤ 0 = subst (λ (x : List ℕ). 6 ≤ length x) is bad.six in omega (arith, six)

module _ (left0 left1 : Option (List ℕ)) (taken : ℕ) (ended : Bool) (s : Session) (result : Result InputEnd Halt) (r : Ran left0 left1 taken ended s result) (end : Status) (c : Comes s result end) where
  brought : (e : InputEnd) → result ≡ Ok e → Brings e left1 ended r.octets (world s)
  brought e is = ok-of (λ x. Brings x left1 ended r.octets (world s)) result e is r.brings

  over : (e : InputEnd) → result ≡ Ok e → is_told e ≡ true → ended ≡ true → IsAtRest s → IsOver ended (world s)
  over e is told at_end rest = record { read = at_end; told = (brought e is).told ∙ told; quiet = rest.quiet }

  input-ended : (e : InputEnd) → result ≡ Ok e → IsAtRest s → IsEnded (status_of_end e) ended (world s)
  input-ended input.Whole is rest = inl (over input.Whole is refl (brought input.Whole is).rest.0 rest)
  input-ended input.Truncated is rest = over input.Truncated is refl (brought input.Truncated is).rest.0 rest
  input-ended input.BadHeader is rest = tt
  input-ended input.ReadFault is rest = tt
  input-ended input.InputLimit is rest = tt

  is-ended : {x : Status} → Comes s result x → IsEnded x ended (world s)
  is-ended (wants e) = tt
  is-ended (fails e h) = tt
  is-ended (shut m f none alive h) = inr h
  is-ended (filled m f none alive h) = tt
  is-ended (exhausted none alive e room h) = tt
  is-ended (input_ended e is rest room) = input-ended e is rest

  pub ran-ended : IsEnded end ended (world s)
  ran-ended = is-ended c

  -- ---- the causes

  ok-cause : {x : Status} → Comes s result x → x ≡ status.Ok → IsAllServed (world s) ended r.octets
  ok-cause (wants e) is = absurd (cc)
  ok-cause (fails e h) is = absurd (cc)
  ok-cause (shut m f none alive h) is = closes h
  ok-cause (filled m f none alive h) is = absurd (cc)
  ok-cause (exhausted none alive e room h) is = absurd (cc)
  ok-cause (input_ended input.Whole e rest room) is = let b = (brought input.Whole e).rest in ends b.0 b.1
  ok-cause (input_ended input.BadHeader e rest room) is = absurd (cc)
  ok-cause (input_ended input.Truncated e rest room) is = absurd (cc)
  ok-cause (input_ended input.ReadFault e rest room) is = absurd (cc)
  ok-cause (input_ended input.InputLimit e rest room) is = absurd (cc)

  ok-always : {x : Status} → Comes s result x → IsAllServed (world s) ended r.octets → (x ≡ status.Ok) ⊎ IsStopped x
  ok-always (wants e) h = inr tt
  ok-always (fails e k) h = inr tt
  ok-always (shut m f none alive k) h = inl refl
  ok-always (filled m f none alive k) h = inr tt
  ok-always (exhausted none alive e room k) h = inr tt
  ok-always (input_ended e is rest room) (closes h) = let o = rest.open_ in absurd (cc (h, o))
  ok-always (input_ended input.Whole is rest room) (ends at_end none) = inl refl
  ok-always (input_ended input.BadHeader is rest room) (ends at_end none) = absurd (nothing-good none (brought input.BadHeader is).rest.1)
  ok-always (input_ended input.Truncated is rest room) (ends at_end none) = absurd ((brought input.Truncated is).rest.1 none)
  ok-always (input_ended input.ReadFault is rest room) (ends at_end none) = let b = (brought input.ReadFault is).rest.0 in absurd (cc (b, at_end))
  ok-always (input_ended input.InputLimit is rest room) (ends at_end none) = let b = (brought input.InputLimit is).rest.0 in absurd (cc (b, at_end))

  bad-cause : {x : Status} → Comes s result x → x ≡ status.BadHeader → IsBadInput (world s) r.octets
  bad-cause (wants e) is = absurd (cc)
  bad-cause (fails e h) is = absurd (cc)
  bad-cause (shut m f none alive h) is = absurd (cc)
  bad-cause (filled m f none alive h) is = absurd (cc)
  bad-cause (exhausted none alive e room h) is = absurd (cc)
  bad-cause (input_ended input.Whole e rest room) is = absurd (cc)
  bad-cause (input_ended input.BadHeader e rest room) is = record { open_ = rest.open_; bad = (brought input.BadHeader e).rest.1 }
  bad-cause (input_ended input.Truncated e rest room) is = absurd (cc)
  bad-cause (input_ended input.ReadFault e rest room) is = absurd (cc)
  bad-cause (input_ended input.InputLimit e rest room) is = absurd (cc)

  bad-always : {x : Status} → Comes s result x → IsBadInput (world s) r.octets → (x ≡ status.BadHeader) ⊎ IsStopped x
  bad-always (wants e) h = inr tt
  bad-always (fails e k) h = inr tt
  bad-always (shut m f none alive k) h = let o = h.open_ in absurd (cc (k, o))
  bad-always (filled m f none alive k) h = inr tt
  bad-always (exhausted none alive e room k) h = inr tt
  bad-always (input_ended input.Whole is rest room) h = absurd (nothing-good (brought input.Whole is).rest.1 h.bad)
  bad-always (input_ended input.BadHeader is rest room) h = inl refl
  bad-always (input_ended input.Truncated is rest room) h = absurd ((brought input.Truncated is).rest.2 h.bad)
  bad-always (input_ended input.ReadFault is rest room) h = absurd ((brought input.ReadFault is).rest.1 h.bad)
  bad-always (input_ended input.InputLimit is rest room) h = absurd ((brought input.InputLimit is).rest.1 h.bad)

  cut-cause : {x : Status} → Comes s result x → x ≡ status.Truncated → IsCutInput (world s) ended r.octets
  cut-cause (wants e) is = absurd (cc)
  cut-cause (fails e h) is = absurd (cc)
  cut-cause (shut m f none alive h) is = absurd (cc)
  cut-cause (filled m f none alive h) is = absurd (cc)
  cut-cause (exhausted none alive e room h) is = absurd (cc)
  cut-cause (input_ended input.Whole e rest room) is = absurd (cc)
  cut-cause (input_ended input.BadHeader e rest room) is = absurd (cc)
  cut-cause (input_ended input.Truncated e rest room) is = let b = (brought input.Truncated e).rest in record { open_ = rest.open_; at_end = b.0; some = b.1; good = b.2 }
  cut-cause (input_ended input.ReadFault e rest room) is = absurd (cc)
  cut-cause (input_ended input.InputLimit e rest room) is = absurd (cc)

  cut-always : {x : Status} → Comes s result x → IsCutInput (world s) ended r.octets → (x ≡ status.Truncated) ⊎ IsStopped x
  cut-always (wants e) h = inr tt
  cut-always (fails e k) h = inr tt
  cut-always (shut m f none alive k) h = let o = h.open_ in absurd (cc (k, o))
  cut-always (filled m f none alive k) h = inr tt
  cut-always (exhausted none alive e room k) h = inr tt
  cut-always (input_ended input.Whole is rest room) h = absurd (h.some (brought input.Whole is).rest.1)
  cut-always (input_ended input.BadHeader is rest room) h = absurd (h.good (brought input.BadHeader is).rest.1)
  cut-always (input_ended input.Truncated is rest room) h = inl refl
  cut-always (input_ended input.ReadFault is rest room) h = let b = (brought input.ReadFault is).rest.0 in let a = h.at_end in absurd (cc (b, a))
  cut-always (input_ended input.InputLimit is rest room) h = let b = (brought input.InputLimit is).rest.0 in let a = h.at_end in absurd (cc (b, a))

  long-cause : {x : Status} → Comes s result x → x ≡ status.InputLimit → IsLongInput (world s) ended r.octets
  long-cause (wants e) is = absurd (cc)
  long-cause (fails e h) is = absurd (cc)
  long-cause (shut m f none alive h) is = absurd (cc)
  long-cause (filled m f none alive h) is = absurd (cc)
  long-cause (exhausted none alive e room h) is = absurd (cc)
  long-cause (input_ended input.Whole e rest room) is = absurd (cc)
  long-cause (input_ended input.BadHeader e rest room) is = absurd (cc)
  long-cause (input_ended input.Truncated e rest room) is = absurd (cc)
  long-cause (input_ended input.ReadFault e rest room) is = absurd (cc)
  long-cause (input_ended input.InputLimit e rest room) is = let b = (brought input.InputLimit e).rest in record { open_ = rest.open_; more = b.0; long = b.2; good = b.1 }

  long-always : {x : Status} → Comes s result x → IsLongInput (world s) ended r.octets → (x ≡ status.InputLimit) ⊎ IsStopped x
  long-always (wants e) h = inr tt
  long-always (fails e k) h = inr tt
  long-always (shut m f none alive k) h = let o = h.open_ in absurd (cc (k, o))
  long-always (filled m f none alive k) h = inr tt
  long-always (exhausted none alive e room k) h = inr tt
  long-always (input_ended input.Whole is rest room) h = let b = (brought input.Whole is).rest.0 in let a = h.more in absurd (cc (b, a))
  long-always (input_ended input.BadHeader is rest room) h = absurd (h.good (brought input.BadHeader is).rest.1)
  long-always (input_ended input.Truncated is rest room) h = let b = (brought input.Truncated is).rest.0 in let a = h.more in absurd (cc (b, a))
  long-always (input_ended input.ReadFault is rest room) h = let b = (brought input.ReadFault is).rest.2 in let l = h.long in absurd (omega (arith, b, l))
  long-always (input_ended input.InputLimit is rest room) h = inl refl

  same : (octets : List ℕ) → Took left0 left1 octets → r.octets ≡ octets
  same octets took = took-same left0 left1 r.octets octets r.took took

  pub ran-ok : (octets : List ℕ) → Took left0 left1 octets → IsDue end status.Ok IsStopped (IsAllServed (world s) ended octets)
  ran-ok octets took = subst (λ (x : List ℕ). IsDue end status.Ok IsStopped (IsAllServed (world s) ended x)) (same octets took) (record { only = ok-cause c; always = ok-always c })

  pub ran-bad : (octets : List ℕ) → Took left0 left1 octets → IsDue end status.BadHeader IsStopped (IsBadInput (world s) octets)
  ran-bad octets took = subst (λ (x : List ℕ). IsDue end status.BadHeader IsStopped (IsBadInput (world s) x)) (same octets took) (record { only = bad-cause c; always = bad-always c })

  pub ran-cut : (octets : List ℕ) → Took left0 left1 octets → IsDue end status.Truncated IsStopped (IsCutInput (world s) ended octets)
  ran-cut octets took = subst (λ (x : List ℕ). IsDue end status.Truncated IsStopped (IsCutInput (world s) ended x)) (same octets took) (record { only = cut-cause c; always = cut-always c })

  pub ran-long : (octets : List ℕ) → Took left0 left1 octets → IsDue end status.InputLimit IsStopped (IsLongInput (world s) ended octets)
  ran-long octets took = subst (λ (x : List ℕ). IsDue end status.InputLimit IsStopped (IsLongInput (world s) ended x)) (same octets took) (record { only = long-cause c; always = long-always c })

  -- ---- an input of whole packets

  whole-input : (all_in now : List ℕ) → left1 ≡ Some now → all_in ≡ r.octets ++ now → (packets all_in).rest ≡ [] → (e : InputEnd) → result ≡ Ok e
      → (taken < input_limit) → (e ≢ input.ReadFault) → e ≡ input.Whole
  whole-input all_in now is all none input.Whole e within no_fault = refl
  whole-input all_in now is all none input.BadHeader e within no_fault =
      let b = (brought input.BadHeader e).rest.1 in
      let p = packets-bad r.octets now b in
      let longer : (packets r.octets).rest ++ now ≡ [] = sym (ap (λ (x : Split). x.rest) p) ∙ ap (λ (x : List ℕ). (packets x).rest) (sym all) ∙ none in
      absurd (nothing-good (nil-left (packets r.octets).rest now longer) b)
    where
      nil-left : (a b : List ℕ) → a ++ b ≡ [] → a ≡ []
      nil-left [] b h = refl
      nil-left (x ∷ a) b h = absurd (cc)
  whole-input all_in now is all none input.Truncated e within no_fault =
      let b = brought input.Truncated e in
      let gone : now ≡ [] = subst (λ (x : Option (List ℕ)). NothingLeft x) is (b.empty refl) in
      absurd (b.rest.1 (ap (λ (x : List ℕ). (packets x).rest) (sym (all ∙ ap (λ (x : List ℕ). r.octets ++ x) gone ∙ append-nil r.octets)) ∙ none))
  whole-input all_in now is all none input.ReadFault e within no_fault = absurd (no_fault refl)
  whole-input all_in now is all none input.InputLimit e within no_fault =
      let b = (brought input.InputLimit e).rest.2 in let n = r.count in absurd (omega (arith, b, n, within))

  some-is : (a b : List ℕ) → Some a ≡ Some b → a ≡ b
  some-is a b e = cc

  took-all : (all_in : List ℕ) → left0 ≡ Some all_in → (now : List ℕ) × (left1 ≡ Some now) × (all_in ≡ r.octets ++ now)
  took-all all_in is = by-told left0 left1 is r.took
    where
      by-told : (old new : Option (List ℕ)) → old ≡ Some all_in → BothTold old new (λ x y. x ≡ r.octets ++ y) → (now : List ℕ) × (new ≡ Some now) × (all_in ≡ r.octets ++ now)
      by-told None new e t = absurd (cc)
      by-told (Some old) None e t = absurd t
      by-told (Some old) (Some new) e t = (new, refl, sym (some-is old all_in e) ∙ t)

  pub complete-of : (all_in : List ℕ) → left0 ≡ Some all_in → (packets all_in).rest ≡ [] → (result ≢ Err halt.WriteFault) → (result ≢ Ok input.ReadFault) → NoLimit s.limits s.journal taken
      → (end ≡ status.Ok) ⊎ (end ≡ status.NoMemory)
  complete-of all_in is none no_write no_read within = by-how c
    where
      by-how : {x : Status} → Comes s result x → (x ≡ status.Ok) ⊎ (x ≡ status.NoMemory)
      by-how (wants e) = inr refl
      by-how (fails e h) = absurd (no_write e)
      by-how (shut m f gone alive h) = inl refl
      by-how (filled m f gone alive h) = let l = h.long in let j = within.journal in absurd (omega (arith, l, j))
      by-how (exhausted gone alive e room h) = let l = h.spent in let j = within.steps in absurd (omega (arith, l, j))
      by-how (input_ended e f rest room) =
          let t = took-all all_in is in
          let w : e ≡ input.Whole = whole-input all_in t.0 t.1 t.2 none e f within.input (λ g. no_read (f ∙ ap (λ (x : InputEnd). Ok x) g)) in
          inl (ap status_of_end w)

module _ (s : Session) (result : Result InputEnd Halt) where
  budget-cause : {x : Status} → Comes s result x → x ≡ status.Budget → IsSpent s.limits s.journal (world s)
  budget-cause (wants e) is = absurd (cc)
  budget-cause (fails e h) is = absurd (cc)
  budget-cause (shut m f none alive h) is = absurd (cc)
  budget-cause (filled m f none alive h) is = absurd (cc)
  budget-cause (exhausted none alive e room h) is = h
  budget-cause (input_ended input.Whole e rest room) is = absurd (cc)
  budget-cause (input_ended input.BadHeader e rest room) is = absurd (cc)
  budget-cause (input_ended input.Truncated e rest room) is = absurd (cc)
  budget-cause (input_ended input.ReadFault e rest room) is = absurd (cc)
  budget-cause (input_ended input.InputLimit e rest room) is = absurd (cc)

  budget-always : {x : Status} → Comes s result x → IsSpent s.limits s.journal (world s) → (x ≡ status.Budget) ⊎ IsBrokenOrFull x
  budget-always (wants e) h = inr tt
  budget-always (fails e k) h = inr tt
  budget-always (shut m f none alive k) h = let o = h.open_ in absurd (cc (k, o))
  budget-always (filled m f none alive k) h = inr tt
  budget-always (exhausted none alive e room k) h = inl refl
  budget-always (input_ended e is rest room) h = let q = rest.quiet in let b = h.busy in absurd (cc (q, b))

  pub budget-due : (end : Status) → Comes s result end → IsDue end status.Budget IsBrokenOrFull (IsSpent s.limits s.journal (world s))
  budget-due end c = record { only = budget-cause c; always = budget-always c }

  full-cause : {x : Status} → Comes s result x → x ≡ status.JournalFull → IsFull s.limits s.journal (world s)
  full-cause (wants e) is = absurd (cc)
  full-cause (fails e h) is = absurd (cc)
  full-cause (shut m f none alive h) is = absurd (cc)
  full-cause (filled m f none alive h) is = h
  full-cause (exhausted none alive e room h) is = absurd (cc)
  full-cause (input_ended input.Whole e rest room) is = absurd (cc)
  full-cause (input_ended input.BadHeader e rest room) is = absurd (cc)
  full-cause (input_ended input.Truncated e rest room) is = absurd (cc)
  full-cause (input_ended input.ReadFault e rest room) is = absurd (cc)
  full-cause (input_ended input.InputLimit e rest room) is = absurd (cc)

  full-always : {x : Status} → Comes s result x → IsFull s.limits s.journal (world s) → (x ≡ status.JournalFull) ⊎ IsBroken x
  full-always (wants e) h = inr tt
  full-always (fails e k) h = inr tt
  full-always (shut m f none alive k) h = let o = h.open_ in absurd (cc (k, o))
  full-always (filled m f none alive k) h = inl refl
  full-always (exhausted none alive e room k) h = let f = full-room s h in absurd (cc (f, room))
  full-always (input_ended e is rest room) h = let f = full-room s h in absurd (cc (f, room))

  pub full-due : (end : Status) → Comes s result end → IsDue end status.JournalFull IsBroken (IsFull s.limits s.journal (world s))
  full-due end c = record { only = full-cause c; always = full-always c }

  pub never-usage : {x : Status} → Comes s result x → x ≢ status.Usage
  never-usage (wants e) is = cc
  never-usage (fails e h) is = cc
  never-usage (shut m f none alive h) is = cc
  never-usage (filled m f none alive h) is = cc
  never-usage (exhausted none alive e room h) is = cc
  never-usage (input_ended input.Whole e rest room) is = cc
  never-usage (input_ended input.BadHeader e rest room) is = cc
  never-usage (input_ended input.Truncated e rest room) is = cc
  never-usage (input_ended input.ReadFault e rest room) is = cc
  never-usage (input_ended input.InputLimit e rest room) is = cc

  pub read-failed : {x : Status} → Comes s result x → x ≡ status.ReadFault → result ≡ Ok input.ReadFault
  read-failed (wants e) is = absurd (cc)
  read-failed (fails e h) is = absurd (cc)
  read-failed (shut m f none alive h) is = absurd (cc)
  read-failed (filled m f none alive h) is = absurd (cc)
  read-failed (exhausted none alive e room h) is = absurd (cc)
  read-failed (input_ended input.Whole e rest room) is = absurd (cc)
  read-failed (input_ended input.BadHeader e rest room) is = absurd (cc)
  read-failed (input_ended input.Truncated e rest room) is = absurd (cc)
  read-failed (input_ended input.ReadFault e rest room) is = e
  read-failed (input_ended input.InputLimit e rest room) is = absurd (cc)

  pub write-failed : {x : Status} → Comes s result x → x ≡ status.WriteFault → result ≡ Err halt.WriteFault
  write-failed (wants e) is = absurd (cc)
  write-failed (fails e h) is = e
  write-failed (shut m f none alive h) is = absurd (cc)
  write-failed (filled m f none alive h) is = absurd (cc)
  write-failed (exhausted none alive e room h) is = absurd (cc)
  write-failed (input_ended input.Whole e rest room) is = absurd (cc)
  write-failed (input_ended input.BadHeader e rest room) is = absurd (cc)
  write-failed (input_ended input.Truncated e rest room) is = absurd (cc)
  write-failed (input_ended input.ReadFault e rest room) is = absurd (cc)
  write-failed (input_ended input.InputLimit e rest room) is = absurd (cc)

-- ---- a run that never began

pub not-begun : (image : ImageState) (limits : Limits) (left : Option (List ℕ)) (ended : Bool) → Ran left left 0 ended (opening image limits) (Err halt.NoMemory)
unfolding packets_up_to
not-begun image limits left ended = record {
  octets = [];
  took = nothing-taken left;
  count = refl;
  journal = (pipe_journal rules image (messages []) ended limits, refl);
  lacked = [];
  is = refl;
  all = tt;
  at_end = λ e. absurd (cc);
  near = λ _. inl refl;
  brings = tt;
}
  where
    nothing-taken : (left : Option (List ℕ)) → BothTold left left (λ old new. old ≡ [] ++ new)
    nothing-taken (Some octets) = refl
    nothing-taken None = tt

pub nothing-sent : (image : ImageState) (limits : Limits) (written : Option (List ℕ)) → Pays {A = InputEnd} written written (opening image limits) 0 (Err halt.NoMemory)
nothing-sent image limits written = record { added = []; told = nothing-written written; count = refl; is = (frames (outputs rules image []), refl) }
  where
    nothing-written : (written : Option (List ℕ)) → BothTold written written (λ old new. new ≡ old ++ [])
    nothing-written (Some octets) = sym (append-nil octets)
    nothing-written None = tt
