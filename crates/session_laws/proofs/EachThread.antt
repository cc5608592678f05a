-- A fact of each live thread, of its term and its loan, through arrivals.
use Rattle.std.proofs.Common.{◌≡◌, ℕ, ℤ, ◌+◌, ◌<◌, ◌≢◌, List, [], ◌∷◌, ◌++◌, length, Option, Some, None, refl, sym, subst, ⊎_elim}
use Rattle.std.specs.Prelude.{slice_get, slice_set}
use Rattle.std.specs.Option.{option_map_or}
use Rattle.std.proofs.lemmas.Bool.{cases_eq}
use Rattle.std.proofs.lemmas.Option.{slice_get_within}
use Rattle.rpc_messages.specs.declared.from_emacs.FromEmacs.{FromEmacs}
use Rattle.rpc_messages.specs.declared.from_emacs.FromEmacs.TheVariants as mail
use Rattle.rpc_messages.specs.declared.from_emacs.ThreadName.{ThreadName}
use Rattle.rpc_messages.specs.declared.from_emacs.ThreadName.TheVariants as name
use Rattle.step_model.specs.Built.{Built}
use Rattle.session_model.specs.Arriving.{answers, arrives, arrives_as_built, interrupts, named, posted, requests, requests_by}
use Rattle.session_model.specs.World.{Thread, World, fresh, repl, thread_at, thread_in}
use Rattle.session_model.proofs.ArrivingLemmas.{arrived_either}
use Rattle.session_laws.proofs.Threads.{found, get-append_last, get-append_other, get-set_other, get-set_same}

-- it holds of what stands at a number, if that is a live thread
abbrev pub Holds : (Thread → Type 0) → Option (Option Thread) → Type 0
Holds P None = Unit {0}
Holds P (Some None) = Unit {0}
Holds P (Some (Some thread)) = P thread

module _ (P : Thread → Type 0) where
  abbrev pub Each : List (Option Thread) → Type 0
  Each threads = (u : ℕ) → Holds P (slice_get threads u)

  pub set_one : (threads : List (Option Thread)) (t : ℕ) (o : Option Thread) → t < length threads → Holds P (Some o) → Each threads → Each (slice_set threads t o)
  set_one threads t o within new h u =
      ⊎_elim
      (λ (e : u ≡ t). subst (λ v. Holds P (slice_get (slice_set threads t o) v)) (sym e) (subst (Holds P) (sym (get-set_same threads t o within)) new))
      (λ (ne : u ≢ t). subst (Holds P) (sym (get-set_other threads t u o (λ e. ne (sym e)))) (h u))
      (cases_eq u t)

  pub add_one : (threads : List (Option Thread)) (o : Option Thread) → Holds P (Some o) → Each threads → Each (threads ++ o ∷ [])
  add_one threads o new h u =
      ⊎_elim
      (λ (e : u ≡ length threads). subst (λ v. Holds P (slice_get (threads ++ o ∷ []) v)) (sym e) (subst (Holds P) (sym (get-append_last threads o)) new))
      (λ (ne : u ≢ length threads). subst (Holds P) (sym (get-append_other threads o u (λ e. ne (sym e)))) (h u))
      (cases_eq u (length threads))

  -- a live thread becomes another
  pub becomes : (threads : List (Option Thread)) (t : ℕ) (thread now : Thread) → slice_get threads t ≡ Some (Some thread) → (P thread → P now) → Each threads → Each (slice_set threads t (Some now))
  becomes threads t thread now e keep h = set_one threads t (Some now) (slice_get_within threads t (Some thread) e) (keep (subst (Holds P) e (h t))) h

  module _ (new : (mb : List (ℕ × FromEmacs)) → P (fresh mb)) (posts : (thread : Thread) (i : ℕ) (m : FromEmacs) → P thread → P (posted thread i m)) (adds : (thread : Thread) (n : ℕ) → P thread → P (record thread { interrupts = n })) where
    requests_each : (w : World) (t : ℕ) (id : ℤ) (m : FromEmacs) (o : Option Thread) → thread_at w t ≡ o → Each w.threads → Each (requests w t id m o).after.threads
    requests_each w t id m None e h = h
    requests_each w t id m (Some thread) e h = becomes w.threads t thread (posted thread w.places m) (found w.threads t thread e) (posts thread w.places m) h

    requests_by_each : (w : World) (id : ℤ) (m : FromEmacs) (thread : ThreadName) → Each w.threads → Each (requests_by w id m thread).after.threads
    requests_by_each w id m name.New h = add_one w.threads (Some (fresh ((w.places, m) ∷ []))) (new ((w.places, m) ∷ [])) h
    requests_by_each w id m name.Repl h = requests_each w repl id m (thread_at w repl) refl h
    requests_by_each w id m (name.Id t) h = requests_each w t id m (thread_at w t) refl h

    answers_each : (w : World) (t : ℕ) (m : FromEmacs) (o : Option Thread) → thread_at w t ≡ o → Each w.threads → Each (answers w t m o).after.threads
    answers_each w t m None e h = h
    answers_each w t m (Some thread) e h = becomes w.threads t thread (posted thread w.places m) (found w.threads t thread e) (posts thread w.places m) h

    interrupts_each : (w : World) (t : ℕ) (o : Option Thread) → thread_at w t ≡ o → Each w.threads → Each (interrupts w t o).after.threads
    interrupts_each w t None e h = h
    interrupts_each w t (Some thread) e h = becomes w.threads t thread (record thread { interrupts = thread.interrupts + 1 }) (found w.threads t thread e) (adds thread (thread.interrupts + 1)) h

    arrives_each : (w : World) (m : FromEmacs) → Each w.threads → Each (arrives w m).after.threads
    arrives_each w (mail.Rex form p thread id) h = requests_by_each w id (mail.Rex form p thread id) thread h
    arrives_each w (mail.Interrupt thread) h = interrupts_each w (named w thread) (thread_at w (named w thread)) refl h
    arrives_each w (mail.ReturnString thread tag text) h = answers_each w (named w thread) (mail.ReturnString thread tag text) (thread_at w (named w thread)) refl h
    arrives_each w (mail.Return thread tag form) h = answers_each w (named w thread) (mail.Return thread tag form) (thread_at w (named w thread)) refl h
    arrives_each w (mail.Unreadable packet text) h = h

    pub arrived_each : (built : Built) (w : World) (m : FromEmacs) → Each w.threads → Each (arrives_as_built built w m).after.threads
    arrived_each built w m h = arrived_either (λ x. Each x.after.threads) built w m h (arrives_each w m h)

not_live_at : (P : Thread → Type 0) (o : Option (Option Thread)) → option_map_or (λ thread. thread) o None ≡ None → Holds P o
not_live_at P None e = tt
not_live_at P (Some None) e = tt
not_live_at P (Some (Some thread)) e = absurd (cc)

-- where no live thread stands it holds
pub of_none : (P : Thread → Type 0) (threads : List (Option Thread)) (t : ℕ) → thread_in threads t ≡ None → Holds P (slice_get threads t)
of_none P threads t e = not_live_at P (slice_get threads t) e
