-- An arrival leaves what threads do.
use Rattle.std.proofs.Common.{◌≡◌, ℕ, ℤ, ◌+◌, ◌≤◌, ◌≢◌, ⊎_elim, List, [], ◌∷◌, ◌++◌, length, Option, Some, None, refl, sym, ap, ◌∙◌, subst, arith, length-append, length-set}
use Rattle.std.specs.Prelude.{slice_get, slice_set}
use Rattle.std.proofs.lemmas.Bool.{cases_eq}
use Rattle.std.proofs.lemmas.Option.{slice_get_within}
use Rattle.rpc_messages.specs.declared.from_emacs.FromEmacs.{FromEmacs}
use Rattle.rpc_messages.specs.declared.from_emacs.FromEmacs.TheVariants as mail
use Rattle.rpc_messages.specs.declared.from_emacs.ThreadName.{ThreadName}
use Rattle.rpc_messages.specs.declared.from_emacs.ThreadName.TheVariants as name
use Rattle.step_model.specs.Built.{Built}
use Rattle.session_model.specs.Arriving.{answers, arrives, arrives_as_built, interrupts, named, posted, requests, requests_by}
use Rattle.session_model.specs.World.{Thread, World, fresh, repl, thread_at}
use Rattle.session_model.proofs.ArrivingLemmas.{arrived_either}
use Rattle.session_laws.specs.ActsAlone.{Receives}
use Rattle.session_laws.proofs.SomeLemmas.{none≢some, some_is}
use Rattle.session_laws.proofs.Threads.{found, get-append_last, get-append_other, get-set_other, get-set_same, live_at}

-- a thread with the same term, the same next serial and the same loan
pub record Like (thread now : Thread) : Type 0 where
  pub term : now.term ≡ thread.term
  pub serial : now.serial ≡ thread.serial
  pub lent : now.lent ≡ thread.lent

-- the same of threads
pub record Received (a b : List (Option Thread)) : Type 0 where
  pub standing : (u : ℕ) (thread : Thread) → slice_get a u ≡ Some (Some thread) → (now : Thread) × (slice_get b u ≡ Some (Some now)) × Like thread now
  pub ended : (u : ℕ) → slice_get a u ≡ Some None → slice_get b u ≡ Some None
  pub new : (u : ℕ) (now : Thread) → slice_get a u ≡ None → slice_get b u ≡ Some (Some now) → now ≡ fresh now.mailbox
  pub at_most_one_more : length b ≤ length a + 1
  pub others : (t : ℕ) × ((u : ℕ) → u ≢ t → slice_get b u ≡ slice_get a u)

alike : (thread : Thread) → Like thread thread
alike thread = record { term = refl; serial = refl; lent = refl }

unchanged : (a : List (Option Thread)) → Received a a
unchanged a = record {
  new = λ u now none e. absurd (none≢some (sym none ∙ e));
  standing = λ u thread e. (thread, e, alike thread);
  ended = λ u e. e;
  at_most_one_more = omega arith;
  others = (0, λ u ne. refl);
}

-- a live thread becomes a like one
set_like : (a : List (Option Thread)) (t : ℕ) (thread now : Thread) → slice_get a t ≡ Some (Some thread) → Like thread now → Received a (slice_set a t (Some now))
set_like a t thread now at like = record {
  new = λ u new none e. absurd (⊎_elim (λ (same : u ≡ t). none≢some (sym none ∙ ap (slice_get a) same ∙ at)) (λ (ne : u ≢ t). none≢some (sym none ∙ sym (get-set_other a t u (Some now) (λ f. ne (sym f))) ∙ e)) (cases_eq u t));
  standing = λ u other e. ⊎_elim (λ (same : u ≡ t). here u other e same) (λ (ne : u ≢ t). (other, get-set_other a t u (Some now) (λ f. ne (sym f)) ∙ e, alike other)) (cases_eq u t);
  ended = λ u e. ⊎_elim (λ (same : u ≡ t). absurd (not_both (sym at ∙ ap (slice_get a) (sym same) ∙ e))) (λ (ne : u ≢ t). get-set_other a t u (Some now) (λ f. ne (sym f)) ∙ e) (cases_eq u t);
  at_most_one_more = omega (arith, length-set a t (Some now));
  others = (t, λ u ne. get-set_other a t u (Some now) (λ f. ne (sym f)));
}
  where
    not_both : Some (Some thread) ≡ Some None → ⊥
    not_both e = none≢some (sym (some_is e))

    here : (u : ℕ) (other : Thread) → slice_get a u ≡ Some (Some other) → u ≡ t → (new : Thread) × (slice_get (slice_set a t (Some now)) u ≡ Some (Some new)) × Like other new
    here u other e same =
        let is : thread ≡ other = some_is (some_is (sym at ∙ ap (slice_get a) (sym same) ∙ e)) in
        (now, ap (slice_get (slice_set a t (Some now))) same ∙ get-set_same a t (Some now) (slice_get_within a t (Some thread) at), subst (λ x. Like x now) is like)

-- one more thread
add_one : (a : List (Option Thread)) (new : Thread) → new ≡ fresh new.mailbox → Received a (a ++ Some new ∷ [])
add_one a new is = record {
  new = λ u now none e. ⊎_elim (λ (same : u ≡ length a). subst (λ x. x ≡ fresh x.mailbox) (some_is (some_is (sym (get-append_last a (Some new)) ∙ ap (slice_get (a ++ Some new ∷ [])) (sym same) ∙ e))) is) (λ (ne : u ≢ length a). absurd (none≢some (sym none ∙ sym (get-append_other a (Some new) u (λ f. ne (sym f))) ∙ e))) (cases_eq u (length a));
  standing = λ u thread e. (thread, stays u (Some thread) e, alike thread);
  ended = λ u e. stays u None e;
  at_most_one_more = omega (arith, length-append a (Some new ∷ []));
  others = (length a, λ u ne. get-append_other a (Some new) u (λ e. ne (sym e)));
}
  where
    stays : (u : ℕ) (o : Option Thread) → slice_get a u ≡ Some o → slice_get (a ++ Some new ∷ []) u ≡ Some o
    stays u o e = let lt = slice_get_within a u o e in get-append_other a (Some new) u (λ same. absurd (omega (arith, lt, same))) ∙ e

posted_like : (thread : Thread) (i : ℕ) (m : FromEmacs) → Like thread (posted thread i m)
posted_like thread i m = record { term = refl; serial = refl; lent = refl }

requests_received : (w : World) (t : ℕ) (id : ℤ) (m : FromEmacs) (o : Option Thread) → thread_at w t ≡ o → Received w.threads (requests w t id m o).after.threads
requests_received w t id m (Some thread) e = set_like w.threads t thread (posted thread w.places m) (found w.threads t thread e) (posted_like thread w.places m)
requests_received w t id m None e = unchanged w.threads

requests_by_received : (w : World) (id : ℤ) (m : FromEmacs) (thread : ThreadName) → Received w.threads (requests_by w id m thread).after.threads
requests_by_received w id m name.New = add_one w.threads (fresh ((w.places, m) ∷ [])) refl
requests_by_received w id m name.Repl = requests_received w repl id m (thread_at w repl) refl
requests_by_received w id m (name.Id t) = requests_received w t id m (thread_at w t) refl

answers_received : (w : World) (t : ℕ) (m : FromEmacs) (o : Option Thread) → thread_at w t ≡ o → Received w.threads (answers w t m o).after.threads
answers_received w t m (Some thread) e = set_like w.threads t thread (posted thread w.places m) (found w.threads t thread e) (posted_like thread w.places m)
answers_received w t m None e = unchanged w.threads

interrupts_received : (w : World) (t : ℕ) (o : Option Thread) → thread_at w t ≡ o → Received w.threads (interrupts w t o).after.threads
interrupts_received w t (Some thread) e = set_like w.threads t thread (record thread { interrupts = thread.interrupts + 1 }) (found w.threads t thread e) (record { term = refl; serial = refl; lent = refl })
interrupts_received w t None e = unchanged w.threads

arrives_received : (w : World) (m : FromEmacs) → Received w.threads (arrives w m).after.threads
arrives_received w (mail.Rex form p thread id) = requests_by_received w id (mail.Rex form p thread id) thread
arrives_received w (mail.Interrupt thread) = interrupts_received w (named w thread) (thread_at w (named w thread)) refl
arrives_received w (mail.ReturnString thread tag text) = answers_received w (named w thread) (mail.ReturnString thread tag text) (thread_at w (named w thread)) refl
arrives_received w (mail.Return thread tag form) = answers_received w (named w thread) (mail.Return thread tag form) (thread_at w (named w thread)) refl
arrives_received w (mail.Unreadable packet text) = unchanged w.threads

pub received : (built : Built) (w : World) (m : FromEmacs) → Received w.threads (arrives_as_built built w m).after.threads
received built w m = arrived_either (λ h. Received w.threads h.after.threads) built w m (unchanged w.threads) (arrives_received w m)

pub arrival_received : (built : Built) (w : World) (m : FromEmacs) → Receives w (arrives_as_built built w m).after
arrival_received built w m =
    let r : Received w.threads (arrives_as_built built w m).after.threads = received built w m in
    record {
      standing = λ u thread e. let s = r.standing u thread (found w.threads u thread e) in (s.0, live_at (arrives_as_built built w m).after.threads u s.0 s.1, s.2.term, s.2.serial, s.2.lent);
      ended = r.ended;
      new = λ u now none e. r.new u now none (found (arrives_as_built built w m).after.threads u now e);
      at_most_one_more = r.at_most_one_more;
      others = r.others;
    }
