-- What holds of a run that never began.
use Rattle.std.proofs.Common.{◌≡◌, ◌≢◌, ◌∙◌, ◌⊎◌, inl, inr, ℕ, ◌+◌, ◌-◌, ◌^◌, min, Bool, true, false, true≢false, List, [], ◌++◌, length, Option, Some, None, refl, sym, subst, ap, arith, length-append}
use Rattle.std.proofs.lemmas.List.{nil_from_length}
use Rattle.step_model.specs.Image.{ImageState}
use Rattle.packet_framing.specs.Packets.{packets_up_to}
use Rattle.session_model.specs.declared.limits.Limits.{Limits}
use Rattle.session_model.specs.Journal.{run}
use Rattle.server_rules.specs.Rules.{rules}
use Rattle.command_words.specs.declared.limits.WordsFault.{WordsFault}
use Rattle.command_words.specs.declared.limits.WordsFault.TheVariants as words
use Rattle.swank_session.specs.declared.outcome.Status.{Status}
use Rattle.swank_session.specs.declared.outcome.Status.TheVariants as status
use Rattle.swank_session.specs.Causes.{IsDue}
use Rattle.swank_session.specs.Promises.{IsRead, IsScheduled, IsWritten, IsEnded, Took, Wrote}
use Rattle.swank_session.specs.Stream.{messages}
use Rattle.swank_command.specs.Ends.{status_of}

-- ---- a device that nobody touched

no_front : (front rest : List ℕ) → rest ≡ front ++ rest → front ≡ []
no_front front rest e = let same : length rest ≡ length (front ++ rest) = ap length e in nil_from_length front (omega (arith, same, length-append front rest))

no_end : (end before : List ℕ) → before ≡ before ++ end → end ≡ []
no_end end before e = let same : length before ≡ length (before ++ end) = ap length e in nil_from_length end (omega (arith, same, length-append before end))

pub none_taken : (left : Option (List ℕ)) (octets : List ℕ) → Took left left octets → octets ≡ []
none_taken (Some rest) octets took = no_front octets rest took
none_taken None octets took = absurd took

pub none_written : (written : Option (List ℕ)) (octets : List ℕ) → Wrote written written octets → octets ≡ []
none_written (Some before) octets wrote = no_end octets before wrote
none_written None octets wrote = absurd wrote

pub taken-none : (left : Option (List ℕ)) (octets : List ℕ) → Took left left octets → 0 ≡ length octets
taken-none left octets took = sym (ap length (none_taken left octets took))

pub sent-none : (written : Option (List ℕ)) (octets : List ℕ) → Wrote written written octets → 0 ≡ min (length octets) (2 ^ 64 - 1)
sent-none written octets wrote = sym (ap (λ (o : List ℕ). min (length o) (2 ^ 64 - 1)) (none_written written octets wrote))

-- ---- a session without entries

no_messages : messages [] ≡ []
unfolding packets_up_to
no_messages = refl

pub read-none : (end : Status) (ended : Bool) (left : Option (List ℕ)) (octets : List ℕ) (image : ImageState) → Took left left octets → IsRead end ended octets image []
read-none end ended left octets image took =
    let none : messages octets ≡ [] = ap messages (none_taken left octets took) ∙ no_messages in record {
      lacked = messages octets;
      is = refl;
      all = λ at_input open_. none;
      at_end = λ told. absurd (true≢false (sym told));
      near = λ some. inl none;
    }

pub written-none : (fault : WordsFault) (written : Option (List ℕ)) (octets : List ℕ) (image : ImageState) → Wrote written written octets → IsWritten (status_of fault) image [] octets
written-none words.Usage written octets image wrote = none_written written octets wrote
written-none words.NoMemory written octets image wrote = ([], ap (λ (o : List ℕ). o ++ []) (none_written written octets wrote))

pub ended-none : (fault : WordsFault) (ended : Bool) (image : ImageState) → IsEnded (status_of fault) ended (run rules image [])
ended-none words.Usage ended image = tt
ended-none words.NoMemory ended image = tt

none-some : {A : Type 0} (x : A) → None ≡ Some x → ⊥
none-some x e = cc

-- ---- why it never began

module _ (fault : WordsFault) (asked : Option Limits) (usage : fault ≡ words.Usage → asked ≡ None) where
  -- the words asked for a session, so memory was wanting
  pub wanting : (limits : Limits) → asked ≡ Some limits → fault ≡ words.NoMemory
  wanting limits some = go fault refl
    where
      go : (f : WordsFault) → fault ≡ f → fault ≡ words.NoMemory
      go words.Usage e = absurd (none-some limits (sym (usage e) ∙ some))
      go words.NoMemory e = e

  pub scheduled-none : (limits : Limits) → asked ≡ Some limits → (whole : List _) → IsScheduled (status_of fault) [] whole
  scheduled-none limits some whole = subst (λ (f : WordsFault). IsScheduled (status_of f) [] whole) (sym (wanting limits some)) (whole, refl)

  pub due-none : (limits : Limits) → asked ≡ Some limits → (end : Status) (goes_before : Status → Type 0) (cause : Type 0) → (status.NoMemory ≡ end → ⊥)
      → goes_before status.NoMemory → IsDue (status_of fault) end goes_before cause
  due-none limits some end goes_before cause other before =
      subst (λ (f : WordsFault). IsDue (status_of f) end goes_before cause) (sym (wanting limits some))
      (record { only = λ e. absurd (other e); always = λ c. inr before })

  pub usage-none : IsDue (status_of fault) status.Usage (λ end. end ≡ status.NoMemory) (asked ≡ None)
  usage-none = record { only = only; always = λ none. either fault }
    where
      only : status_of fault ≡ status.Usage → asked ≡ None
      only e = go fault refl e
        where
          go : (f : WordsFault) → fault ≡ f → status_of f ≡ status.Usage → asked ≡ None
          go words.Usage same e = usage same
          go words.NoMemory same e = cc

      either : (f : WordsFault) → (status_of f ≡ status.Usage) ⊎ (status_of f ≡ status.NoMemory)
      either words.Usage = inl refl
      either words.NoMemory = inr refl

  pub complete-none : (limits : Limits) → asked ≡ Some limits → (status_of fault ≡ status.Ok) ⊎ (status_of fault ≡ status.NoMemory)
  complete-none limits some = inr (ap status_of (wanting limits some))
