-- What a run leaves, said of its journal.
use Rattle.std.proofs.Common.{◌≡◌, ◌≢◌, ℕ, ◌+◌, ◌-◌, ◌^◌, min, ◌⊎◌, Bool, false, List, [], ◌++◌, length, Option, Some, None, Result, Ok, Err, refl, sym, ap, ◌∙◌, subst, append-nil, arith}
use Rattle.std.specs.Prelude.{All}
use Rattle.outside_traits.specs.Faults.{Rose}
use Rattle.outside_traits.specs.Told.{BothTold}
use Rattle.packet_framing.specs.Packets.{packets}
use Rattle.step_model.specs.Image.{ImageState}
use Rattle.session_model.specs.declared.event.Entry.{Entry}
use Rattle.session_model.specs.declared.limits.Limits.{Limits}
use Rattle.session_model.specs.Journal.{arrivals, outputs, run}
use Rattle.session_model.specs.Legal.{IsLegalFrom}
use Rattle.session_model.specs.Pipe.{pipe_journal}
use Rattle.server_laws.specs.Small.{AreSmall, FitsPacket, HasShortNames}
use Rattle.server_laws.proofs.Payloads.{beginning_small}
use Rattle.server_laws.proofs.Sessions.{outputs_fit}
use Rattle.server_rules.specs.Rules.{rules}
use Rattle.swank_core.specs.Session.{Session, opening}
use Rattle.swank_session.specs.Causes.{IsBroken, IsBrokenOrFull, IsStopped, IsDue, IsFull, IsSpent, IsBadInput, IsCutInput, IsLongInput, IsAllServed, NoFault, NoLimit}
use Rattle.swank_session.specs.Course.{Completes, Paid, Pays, Ran, status_for}
use Rattle.swank_session.specs.Promises.{Took, Wrote, IsRead, IsWritten, IsEnded, IsScheduled}
use Rattle.swank_session.specs.Stream.{messages}
use Rattle.swank_session.specs.declared.ends.Halt.{Halt}
use Rattle.swank_session.specs.declared.ends.Halt.TheVariants as halt
use Rattle.swank_session.specs.declared.ends.InputEnd.{InputEnd}
use Rattle.swank_session.specs.declared.ends.InputEnd.TheVariants as input
use Rattle.swank_session.specs.declared.outcome.Status.{Status}
use Rattle.swank_session.specs.declared.outcome.Status.TheVariants as status
use Rattle.swank_session.proofs.OutcomeLemmas as of
use Rattle.swank_session.proofs.StreamLemmas.{messages-small}

-- the session with this journal
abbrev pub session : ImageState → Limits → List Entry → (failed halted : Bool) → Session
session image limits j failed halted = record { opened = image; limits = limits; journal = j; failed = failed; halted = halted }

pub record Summary (image : ImageState) (limits : Limits) (j : List Entry) (left0 left1 : Option (List ℕ)) (taken : ℕ) (ended : Bool) (written0 written1 : Option (List ℕ)) (sent : ℕ) (end : Status) (result : Result InputEnd Halt) : Type 0 where
  pub failed : Bool
  pub halted : Bool
  pub ran : Ran left0 left1 taken ended (session image limits j failed halted) result
  pub comes : of.Comes (session image limits j failed halted) result end
  pub pays : Pays written0 written1 (session image limits j failed halted) sent result

session-is : (s : Session) (image : ImageState) (limits : Limits) (j : List Entry) → s.opened ≡ image → s.limits ≡ limits → s.journal ≡ j → s ≡ session image limits j s.failed s.halted
session-is s image limits j a b c =
    ap (λ x. session x s.limits s.journal s.failed s.halted) a ∙ ap (λ (x : Limits). session image x s.journal s.failed s.halted) b ∙ ap (λ (x : List Entry). session image limits x s.failed s.halted) c

-- nothing was written of a session that was just opened
paid-first : (image : ImageState) (limits : Limits) (written : Option (List ℕ)) → Paid written written (opening image limits) 0
paid-first image limits written = record { added = []; told = nothing-written written; count = refl; is = refl }
  where
    nothing-written : (written : Option (List ℕ)) → BothTold written written (λ old new. new ≡ old ++ [])
    nothing-written (Some octets) = sym (append-nil octets)
    nothing-written None = tt

pub summary-of : (image : ImageState) (limits : Limits) (j : List Entry) (left0 left1 : Option (List ℕ)) (taken : ℕ) (ended : Bool) (written0 written1 : Option (List ℕ)) (sent0 sent : ℕ) (end : Status) (result : Result InputEnd Halt)
    → (old s : Session) → Completes left0 left1 ended written0 written1 taken sent0 sent old s result → old ≡ opening image limits → sent0 ≡ 0 → j ≡ s.journal → end ≡ status_for s result
    → Summary image limits j left0 left1 taken ended written0 written1 sent end result
summary-of image limits j left0 left1 taken ended written0 written1 sent0 sent end result old s c fresh none is ends =
    let e = session-is s image limits j (c.opened ∙ ap (λ (x : Session). x.opened) fresh) (c.limits ∙ ap (λ (x : Session). x.limits) fresh) (sym is) in
    let first : Paid written0 written0 old sent0 = subst (λ (x : Session). Paid written0 written0 x sent0) (sym fresh) (subst (λ (n : ℕ). Paid written0 written0 (opening image limits) n) (sym none) (paid-first image limits written0)) in
    record {
      failed = s.failed;
      halted = s.halted;
      ran = subst (λ (x : Session). Ran left0 left1 taken ended x result) e c.ran;
      comes = subst (λ (x : Session). of.Comes x result end) e (subst (λ (x : Status). of.Comes s result x) (sym ends) (of.comes s result c.finishes));
      pays = subst (λ (x : Session). Pays written0 written1 x sent result) e (c.pays written0 first);
    }

-- a session that couldn't be opened
pub summary-none : (image : ImageState) (limits : Limits) (j : List Entry) (left : Option (List ℕ)) (ended : Bool) (written : Option (List ℕ)) → j ≡ [] → Summary image limits j left left 0 ended written written 0 status.NoMemory (Err halt.NoMemory)
summary-none image limits j left ended written is =
    subst (λ (x : List Entry). Summary image limits x left left 0 ended written written 0 status.NoMemory (Err halt.NoMemory)) (sym is) (record {
      failed = false;
      halted = false;
      ran = of.not-begun image limits left ended;
      comes = of.wants refl;
      pays = of.nothing-sent image limits written;
    })

rises-not : (a b : ℕ) → NoFault a b → Rose a b → ⊥
rises-not a b none rose =
    let small = none.counts in
    let same = none.same in
    let more = rose small in
    omega (arith, same, more)

module _ {image : ImageState} {limits : Limits} {j : List Entry} {left0 left1 : Option (List ℕ)} {taken : ℕ} {ended : Bool} {written0 written1 : Option (List ℕ)} {sent : ℕ} {end : Status} {result : Result InputEnd Halt}
    (x : Summary image limits j left0 left1 taken ended written0 written1 sent end result) where
  pub is-legal : IsLegalFrom rules image j
  is-legal = of.ran-legal left0 left1 taken ended (session image limits j x.failed x.halted) result x.ran

  -- each output fits a packet
  pub is-framed : HasShortNames image → All FitsPacket (outputs rules image j)
  is-framed names =
      let small : AreSmall (arrivals j ++ x.ran.lacked) = subst AreSmall (sym x.ran.is) (messages-small x.ran.octets) in
      outputs_fit image j names (beginning_small (arrivals j) x.ran.lacked small) is-legal

  pub is-read : (octets : List ℕ) → Took left0 left1 octets → IsRead end ended octets image j
  is-read = of.ran-read left0 left1 taken ended (session image limits j x.failed x.halted) result x.ran end x.comes

  pub is-taken : (octets : List ℕ) → Took left0 left1 octets → taken ≡ length octets
  is-taken = of.ran-taken left0 left1 taken ended (session image limits j x.failed x.halted) result x.ran

  pub is-written : (octets : List ℕ) → Wrote written0 written1 octets → IsWritten end image j octets
  is-written = of.pays-written written0 written1 (session image limits j x.failed x.halted) sent result end x.comes x.pays

  pub is-sent : (octets : List ℕ) → Wrote written0 written1 octets → sent ≡ min (length octets) (2 ^ 64 - 1)
  is-sent = of.pays-sent written0 written1 (session image limits j x.failed x.halted) sent result x.pays

  pub is-ended : IsEnded end ended (run rules image j)
  is-ended = of.ran-ended left0 left1 taken ended (session image limits j x.failed x.halted) result x.ran end x.comes

  pub is-scheduled : (octets : List ℕ) → Took left0 left1 octets → IsScheduled end j (pipe_journal rules image (messages octets) ended limits)
  is-scheduled = of.ran-scheduled left0 left1 taken ended (session image limits j x.failed x.halted) result x.ran end x.comes

  pub is-ok : (octets : List ℕ) → Took left0 left1 octets → IsDue end status.Ok IsStopped (IsAllServed (run rules image j) ended octets)
  is-ok = of.ran-ok left0 left1 taken ended (session image limits j x.failed x.halted) result x.ran end x.comes

  pub is-bad : (octets : List ℕ) → Took left0 left1 octets → IsDue end status.BadHeader IsStopped (IsBadInput (run rules image j) octets)
  is-bad = of.ran-bad left0 left1 taken ended (session image limits j x.failed x.halted) result x.ran end x.comes

  pub is-cut : (octets : List ℕ) → Took left0 left1 octets → IsDue end status.Truncated IsStopped (IsCutInput (run rules image j) ended octets)
  is-cut = of.ran-cut left0 left1 taken ended (session image limits j x.failed x.halted) result x.ran end x.comes

  pub is-long : (octets : List ℕ) → Took left0 left1 octets → IsDue end status.InputLimit IsStopped (IsLongInput (run rules image j) ended octets)
  is-long = of.ran-long left0 left1 taken ended (session image limits j x.failed x.halted) result x.ran end x.comes

  pub is-spent : IsDue end status.Budget IsBrokenOrFull (IsSpent limits j (run rules image j))
  is-spent = of.budget-due (session image limits j x.failed x.halted) result end x.comes

  pub is-full : IsDue end status.JournalFull IsBroken (IsFull limits j (run rules image j))
  is-full = of.full-due (session image limits j x.failed x.halted) result end x.comes

  pub is-no_usage : end ≢ status.Usage
  is-no_usage = of.never-usage (session image limits j x.failed x.halted) result x.comes

  pub read-fault : end ≡ status.ReadFault → result ≡ Ok input.ReadFault
  read-fault = of.read-failed (session image limits j x.failed x.halted) result x.comes

  pub write-fault : end ≡ status.WriteFault → result ≡ Err halt.WriteFault
  write-fault = of.write-failed (session image limits j x.failed x.halted) result x.comes

  pub is-complete : (read0 read1 write0 write1 : ℕ) → (result ≡ Ok input.ReadFault → Rose read0 read1) → (result ≡ Err halt.WriteFault → Rose write0 write1)
      → (octets : List ℕ) → left0 ≡ Some octets → (packets octets).rest ≡ [] → NoFault read0 read1 → NoFault write0 write1 → NoLimit limits j taken → (end ≡ status.Ok) ⊎ (end ≡ status.NoMemory)
  is-complete read0 read1 write0 write1 reads writes octets is none no_read no_write within =
      of.complete-of left0 left1 taken ended (session image limits j x.failed x.halted) result x.ran end x.comes octets is none
      (λ e. rises-not write0 write1 no_write (writes e)) (λ e. rises-not read0 read1 no_read (reads e)) within
