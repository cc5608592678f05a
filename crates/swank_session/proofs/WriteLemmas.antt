-- Batches that are written one after another.
use Rattle.std.proofs.Common.{◌≡◌, ◌≢◌, ℕ, ◌+◌, ◌-◌, ◌^◌, ◌≤◌, min, List, [], ◌++◌, length, take, drop, Option, Some, None, Result, Ok, Err, refl, sym, ap, ◌∙◌, subst, append_assoc, append-nil, length-append, length-take, arith}
use Rattle.std.proofs.lemmas.List.{take-append-drop}
use mathlib.Core.List.{IsPrefix}
use Rattle.outside_traits.specs.Told.{BothTold}
use Rattle.rpc_messages.specs.declared.to_emacs.ToEmacs.{ToEmacs}
use Rattle.session_model.specs.Journal.{outputs, run}
use Rattle.session_model.specs.Wire.{frames}
use Rattle.session_model.proofs.Outputs.{outputs_are_written}
use Rattle.server_rules.specs.Rules.{rules}
use Rattle.swank_core.specs.Session.{Session, world}
use Rattle.swank_session.specs.Course.{Writes, Paid, Pays}
use Rattle.swank_session.specs.declared.ends.Halt.{Halt}
use Rattle.swank_session.specs.declared.ends.Halt.TheVariants as halt
use Rattle.swank_session.proofs.EventLemmas.{Drained, frames-append}

told-both : (first old now : Option (List ℕ)) (added more : List ℕ) → BothTold first old (λ f o. o ≡ f ++ added) → BothTold old now (λ o n. n ≡ o ++ more) → BothTold first now (λ f n. n ≡ f ++ (added ++ more))
told-both (Some first) (Some old) (Some now) added more p q = q ∙ ap (λ (x : List ℕ). x ++ more) p ∙ append_assoc first added more
told-both None None None added more p q = tt
told-both None None (Some now) added more p q = absurd q
told-both None (Some old) now added more p q = absurd p
told-both (Some first) None now added more p q = absurd p
told-both (Some first) (Some old) None added more p q = absurd q

count-on : (a b m sent0 sent1 : ℕ) → sent1 ≡ min (sent0 + b) m → sent0 ≡ min a m → sent1 ≡ min (a + b) m
count-on a b m sent0 sent1 e f = omega (arith, e, f)

pub writes-all : (old now : Option (List ℕ)) (sent0 sent1 k : ℕ) (batch : List ToEmacs) → BothTold old now (λ o n. n ≡ o ++ frames batch) → k ≡ length (frames batch) → sent1 ≡ min (sent0 + k) (2 ^ 64 - 1)
    → Writes old now sent0 sent1 batch (Ok tt)
writes-all old now sent0 sent1 k batch told is count = record {
  more = frames batch;
  told = told;
  count = λ before e. count-on before (length (frames batch)) (2 ^ 64 - 1) sent0 sent1 (count ∙ ap (λ n. min (sent0 + n) (2 ^ 64 - 1)) is) e;
  begins = ([], append-nil (frames batch));
  all = refl;
  no_stop = λ e. cc;
}

abbrev halt_in : Result (Unit {0}) Halt → Halt
halt_in (Ok _) = halt.NoMemory
halt_in (Err h) = h

pub writes-part : (old now : Option (List ℕ)) (sent0 sent1 k : ℕ) (batch : List ToEmacs) (h : Halt) → h ≢ halt.Stuck → BothTold old now (λ o n. n ≡ o ++ take k (frames batch)) → k ≤ length (frames batch)
    → sent1 ≡ min (sent0 + k) (2 ^ 64 - 1) → Writes old now sent0 sent1 batch (Err h)
writes-part old now sent0 sent1 k batch h differs told within count = record {
  more = take k (frames batch);
  told = told;
  count = λ before e. count-on before (length (take k (frames batch))) (2 ^ 64 - 1) sent0 sent1 (count ∙ ap (λ n. min (sent0 + n) (2 ^ 64 - 1)) (sym (taken k (length (frames batch)) within (length-take k (frames batch))))) e;
  begins = (drop k (frames batch), take-append-drop k (frames batch));
  all = tt;
  no_stop = λ e. differs (ap halt_in e);
}
  where
    taken : (k n : ℕ) {m : ℕ} → k ≤ n → m ≡ min k n → m ≡ k
    taken k n h e = omega (arith, h, e)

pub writes-none : (old : Option (List ℕ)) (sent : ℕ) (batch : List ToEmacs) → Writes old old sent sent batch (Err halt.NoMemory)
writes-none old sent batch = record {
  more = [];
  told = same old;
  count = λ before e. unchanged sent before e;
  begins = (frames batch, refl);
  all = tt;
  no_stop = λ e. cc;
}
  where
    same : (old : Option (List ℕ)) → BothTold old old (λ o n. n ≡ o ++ [])
    same (Some octets) = sym (append-nil octets)
    same None = tt

    unchanged : (n a : ℕ) → n ≡ min a (2 ^ 64 - 1) → n ≡ min (a + 0) (2 ^ 64 - 1)
    unchanged n a h = omega (arith, h)

drained-outputs : (s new : Session) (batch : List ToEmacs) → Drained s new batch → frames (outputs rules new.opened new.journal) ≡ frames (world s).drained ++ frames batch
drained-outputs s new batch d =
    ap (λ (x : List ToEmacs). frames x)
    (outputs_are_written rules new.opened new.journal
    ∙ ap (λ (x : List ToEmacs). (world new).drained ++ x) d.undrained
    ∙ append-nil (world new).drained
    ∙ d.drained)
    ∙ frames-append (world s).drained batch

begins-behind : (a b c : List ℕ) → IsPrefix b c → IsPrefix (a ++ b) (a ++ c)
begins-behind a b c p = (p.0, append_assoc a b p.0 ∙ ap (λ (x : List ℕ). a ++ x) p.1)

-- a batch that a drain handed out was written
pub pays-batch : (first old now : Option (List ℕ)) (s new : Session) (batch : List ToEmacs) (sent0 sent1 : ℕ) (result : Result (Unit {0}) Halt) → Paid first old s sent0 → Drained s new batch → Writes old now sent0 sent1 batch result
    → Pays first now new sent1 result
pays-batch first old now s new batch sent0 sent1 (Ok _) p d w = record {
  added = p.added ++ w.more;
  told = told-both first old now p.added w.more p.told w.told;
  count = w.count (length p.added) p.count ∙ ap (λ n. min n (2 ^ 64 - 1)) (sym (length-append p.added w.more));
  is = ap (λ (x : List ℕ). x ++ w.more) p.is ∙ ap (λ (x : List ℕ). frames (world s).drained ++ x) w.all ∙ sym (frames-append (world s).drained batch) ∙ ap (λ (x : List ToEmacs). frames x) (sym d.drained);
}
pays-batch first old now s new batch sent0 sent1 (Err halt.Stuck) p d w = absurd (w.no_stop refl)
pays-batch first old now s new batch sent0 sent1 (Err halt.WriteFault) p d w = record {
  added = p.added ++ w.more;
  told = told-both first old now p.added w.more p.told w.told;
  count = w.count (length p.added) p.count ∙ ap (λ n. min n (2 ^ 64 - 1)) (sym (length-append p.added w.more));
  is = record {
    before = s.journal;
    count = length batch;
    last = d.last;
    whole = (w.more, ap (λ (x : List ℕ). x ++ w.more) (ap (λ i. frames (run rules i s.journal).drained) d.later.opened ∙ sym p.is));
    begins = subst (λ (x : List ℕ). IsPrefix (p.added ++ w.more) x) (ap (λ (x : List ℕ). x ++ frames batch) p.is ∙ sym (drained-outputs s new batch d)) (begins-behind p.added w.more (frames batch) w.begins);
  };
}
pays-batch first old now s new batch sent0 sent1 (Err halt.NoMemory) p d w = record {
  added = p.added ++ w.more;
  told = told-both first old now p.added w.more p.told w.told;
  count = w.count (length p.added) p.count ∙ ap (λ n. min n (2 ^ 64 - 1)) (sym (length-append p.added w.more));
  is = subst (λ (x : List ℕ). IsPrefix (p.added ++ w.more) x) (ap (λ (x : List ℕ). x ++ frames batch) p.is ∙ sym (drained-outputs s new batch d)) (begins-behind p.added w.more (frames batch) w.begins);
}

-- what is written of a session is so of one that drained as much
pub paid-same : (first now : Option (List ℕ)) (s new : Session) (sent : ℕ) → (world new).drained ≡ (world s).drained → Paid first now s sent → Paid first now new sent
paid-same first now s new sent same p = record { added = p.added; told = p.told; count = p.count; is = p.is ∙ ap (λ (x : List ToEmacs). frames x) (sym same) }
