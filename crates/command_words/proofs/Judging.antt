-- Each form is either read, with its limits, or refused, and has none.
use Rattle.std.proofs.Common.{◌≡◌, ◌∙◌, ℕ, ◌<◌, ◌≤◌, ◌^◌, Bool, true, false, List, [], ◌∷◌, Option, Some, None, refl, sym, ap, ap₂, subst, arith}
use Rattle.std.specs.Prelude.{codes, if◌then◌else◌}
use Rattle.std.specs.Str.Parse.{digits_value}
use Rattle.std.proofs.Common.{◌≢◌, inl, inr}
use Rattle.clap.proofs.WalkLemmas.{one_text-rows}
use Rattle.clap.specs.Faults.{fault_of}
use Rattle.clap.specs.Kinds.{HasKind, IsAmong, Kinds, value_kinds}
use Rattle.clap.specs.Matches.{found_of, one_text}
use Rattle.clap.specs.Simple.{matches_of}
use Rattle.clap.specs.Values.{kind_of}
use Rattle.clap.specs.Walk.{one_of, rows_of}
use Rattle.clap.specs.declared.error.Error.{Error}
use Rattle.clap.specs.declared.error.kind.ErrorKind.TheVariants.{OutOfMemory}
use Rattle.clap.specs.declared.parser.matches.ArgMatches.{ArgMatches}
use Rattle.command_words.specs.Form.{has_form}
use Rattle.session_model.specs.declared.limits.Limits.{Limits}
use Rattle.clap.specs.declared.builder.value_parser.ValueParser.TheVariants.{Unsigned}
use Rattle.clap.specs.declared.error.kind.ErrorKind.{ErrorKind}
use Rattle.clap.specs.declared.error.kind.ErrorKind.TheVariants.{ValueValidation}
use Rattle.command_words.proofs.Forms.{IsForm, bare, is_form, journal, journal_first, none_behind, steps, steps_first}
use Rattle.command_words.specs.Options.{IsReadable, pipe_app}
use Rattle.command_words.specs.Words.{NumberOption, is_number, journal_option, limits_from, limits_of, number_in, steps_option}
use Rattle.command_words.proofs.Numbers.{accepts_is, bounds, in_range, number_is, plain, small_in}
use Rattle.command_words.proofs.Reading.{Reads, bare_fault, bare_reads, journal_fault, journal_reads, journal_steps_fault, journal_steps_reads, one, steps_fault, steps_journal_fault, steps_journal_reads, steps_reads, two}

-- the words are read, and these are their limits
pub record Gives (words : List (List ℕ)) : Type 0 where
  pub n : List ℕ
  pub m : List ℕ
  pub reads : Reads words n m
  pub steps_number : IsReadable n
  pub journal_number : IsReadable m
  pub steps_range : in_range steps_option n ≡ true
  pub journal_range : in_range journal_option m ≡ true
  pub limits : limits_of words ≡ Some (record { steps = digits_value 10 n; journal = digits_value 10 m })

pub data Judged (words : List (List ℕ)) : Type 0 where
  read : fault_of pipe_app words ≡ [] → Gives words → Judged words
  refused : (k : ErrorKind) (more : Kinds) → fault_of pipe_app words ≡ k ∷ more → limits_of words ≡ None → Judged words

-- ---- one number

abbrev kinds : Bool → Kinds
kinds fits = if fits then [] else ValueValidation ∷ []

module _ (o : NumberOption) (small : o.greatest < 2 ^ 64) (n : List ℕ) (number : is_number n ≡ true) where
  kinds_are : (b : Bool) → in_range o n ≡ b → value_kinds false (Unsigned o.least o.greatest) n ≡ kinds b
  kinds_are b e = ap kinds (accepts_is o n small number ∙ e)

  number_at : (b : Bool) → in_range o n ≡ b → number_in o n ≡ (if b then Some (digits_value 10 n) else None)
  number_at b e = number_is o n number ∙ ap (λ (c : Bool). if c then Some (digits_value 10 n) else None) e

  readable : in_range o n ≡ true → IsReadable n
  readable e = record { digits = number; small = small_in o n small e }

steps_small : steps_option.greatest < 2 ^ 64
steps_small = omega arith

journal_small : journal_option.greatest < 2 ^ 64
journal_small = omega arith

steps_default : IsReadable (codes "100000000")
steps_default = record { digits = refl; small = omega arith }

journal_default : IsReadable (codes "4000000")
journal_default = record { digits = refl; small = omega arith }

-- ---- the forms

judged_bare : Judged (codes "pipe" ∷ [])
judged_bare = read bare_fault (record {
  n = codes "100000000";
  m = codes "4000000";
  reads = bare_reads;
  steps_number = steps_default;
  steps_range = refl;
  journal_number = journal_default;
  journal_range = refl;
  limits = refl;
})

judged_steps : (n : List ℕ) → is_number n ≡ true → Judged (codes "pipe" ∷ steps_option.name ∷ n ∷ [])
judged_steps n number = go (in_range steps_option n) refl
  where
    go : (b : Bool) → in_range steps_option n ≡ b → Judged (codes "pipe" ∷ steps_option.name ∷ n ∷ [])
    go true e = read (steps_fault n (plain n number) ∙ ap one (kinds_are steps_option steps_small n number true e)) (record {
      n = n;
      m = codes "4000000";
      reads = steps_reads n (plain n number);
      steps_number = readable steps_option steps_small n number e;
      steps_range = e;
      journal_number = journal_default;
      journal_range = refl;
      limits = ap (λ s. limits_from s (Some 4000000)) (number_at steps_option steps_small n number true e);
    })
    go false e = refused ValueValidation [] (steps_fault n (plain n number) ∙ ap one (kinds_are steps_option steps_small n number false e))
        (ap (λ s. limits_from s (Some 4000000)) (number_at steps_option steps_small n number false e))

judged_journal : (n : List ℕ) → is_number n ≡ true → Judged (codes "pipe" ∷ journal_option.name ∷ n ∷ [])
judged_journal n number = go (in_range journal_option n) refl
  where
    go : (b : Bool) → in_range journal_option n ≡ b → Judged (codes "pipe" ∷ journal_option.name ∷ n ∷ [])
    go true e = read (journal_fault n (plain n number) ∙ ap one (kinds_are journal_option journal_small n number true e)) (record {
      n = codes "100000000";
      m = n;
      reads = journal_reads n (plain n number);
      steps_number = steps_default;
      steps_range = refl;
      journal_number = readable journal_option journal_small n number e;
      journal_range = e;
      limits = ap (limits_from (Some 100000000)) (number_at journal_option journal_small n number true e);
    })
    go false e = refused ValueValidation [] (journal_fault n (plain n number) ∙ ap one (kinds_are journal_option journal_small n number false e))
        (ap (limits_from (Some 100000000)) (number_at journal_option journal_small n number false e))

judged_steps_first : (n m : List ℕ) → is_number n ≡ true → is_number m ≡ true → Judged (codes "pipe" ∷ steps_option.name ∷ n ∷ journal_option.name ∷ m ∷ [])
judged_steps_first n m number other = go (in_range steps_option n) (in_range journal_option m) refl refl
  where
    faults : (b c : Bool) → in_range steps_option n ≡ b → in_range journal_option m ≡ c → fault_of pipe_app (codes "pipe" ∷ steps_option.name ∷ n ∷ journal_option.name ∷ m ∷ []) ≡ two (kinds b) (kinds c)
    faults b c e f = steps_journal_fault n m (plain n number) (plain m other)
        ∙ ap₂ two (kinds_are steps_option steps_small n number b e) (kinds_are journal_option journal_small m other c f)

    go : (b c : Bool) → in_range steps_option n ≡ b → in_range journal_option m ≡ c → Judged (codes "pipe" ∷ steps_option.name ∷ n ∷ journal_option.name ∷ m ∷ [])
    go true true e f = read (faults true true e f) (record {
      n = n;
      m = m;
      reads = steps_journal_reads n m (plain n number) (plain m other);
      steps_number = readable steps_option steps_small n number e;
      steps_range = e;
      journal_number = readable journal_option journal_small m other f;
      journal_range = f;
      limits = ap₂ limits_from (number_at steps_option steps_small n number true e) (number_at journal_option journal_small m other true f);
    })
    go true false e f = refused ValueValidation [] (faults true false e f)
        (ap₂ limits_from (number_at steps_option steps_small n number true e) (number_at journal_option journal_small m other false f))
    go false c e f = refused ValueValidation [] (faults false c e f)
        (ap (λ s. limits_from s (number_in journal_option m)) (number_at steps_option steps_small n number false e))

judged_journal_first : (n m : List ℕ) → is_number n ≡ true → is_number m ≡ true → Judged (codes "pipe" ∷ journal_option.name ∷ n ∷ steps_option.name ∷ m ∷ [])
judged_journal_first n m number other = go (in_range journal_option n) (in_range steps_option m) refl refl
  where
    faults : (b c : Bool) → in_range journal_option n ≡ b → in_range steps_option m ≡ c → fault_of pipe_app (codes "pipe" ∷ journal_option.name ∷ n ∷ steps_option.name ∷ m ∷ []) ≡ two (kinds b) (kinds c)
    faults b c e f = journal_steps_fault n m (plain n number) (plain m other)
        ∙ ap₂ two (kinds_are journal_option journal_small n number b e) (kinds_are steps_option steps_small m other c f)

    go : (b c : Bool) → in_range journal_option n ≡ b → in_range steps_option m ≡ c → Judged (codes "pipe" ∷ journal_option.name ∷ n ∷ steps_option.name ∷ m ∷ [])
    go true true e f = read (faults true true e f) (record {
      n = m;
      m = n;
      reads = journal_steps_reads n m (plain n number) (plain m other);
      steps_number = readable steps_option steps_small m other f;
      steps_range = f;
      journal_number = readable journal_option journal_small n number e;
      journal_range = e;
      limits = ap₂ limits_from (number_at steps_option steps_small m other true f) (number_at journal_option journal_small n number true e);
    })
    go true false e f = refused ValueValidation [] (faults true false e f)
        (ap (λ s. limits_from s (number_in journal_option n)) (number_at steps_option steps_small m other false f))
    go false c e f = refused ValueValidation [] (faults false c e f)
        (ap (limits_from (number_in steps_option m)) (number_at journal_option journal_small n number false e) ∙ none_behind (number_in steps_option m))

pub judged : (words : List (List ℕ)) → IsForm words → Judged words
judged _ bare = judged_bare
judged _ (steps n number) = judged_steps n number
judged _ (journal n number) = judged_journal n number
judged _ (steps_first n m number other) = judged_steps_first n m number other
judged _ (journal_first n m number other) = judged_journal_first n m number other

-- ---- what the command answers

-- the numbers of the matches are those that the texts spell
abbrev pub Numbers : ArgMatches → Option Limits → Type 0
Numbers matches r = (n m : List ℕ) → one_text (found_of matches) (codes "steps") ≡ Some n → one_text (found_of matches) (codes "journal") ≡ Some m
    → IsReadable n → IsReadable m → r ≡ Some (record { steps = digits_value 10 n; journal = digits_value 10 m })

-- so the answer is that of the words, and in its ranges
pub record Read (words : List (List ℕ)) (r : Option Limits) : Type 0 where
  pub limits : Limits
  pub is : r ≡ Some limits
  pub asked : limits_of words ≡ Some limits
  pub steps : (1 ≤ limits.steps) × (limits.steps ≤ 100000000)
  pub journal : (2 ≤ limits.journal) × (limits.journal ≤ 4000000)

pub matched : (words : List (List ℕ)) (matches : ArgMatches) (r : Option Limits) → has_form words ≡ true → fault_of pipe_app words ≡ []
    → rows_of (found_of matches) ≡ matches_of pipe_app words → Numbers matches r → Read words r
matched words matches r form free rows numbers = go (judged words (is_form words form))
  where
    text : (id t : List ℕ) → one_of id (matches_of pipe_app words) ≡ Some t → one_text (found_of matches) id ≡ Some t
    text id t e = one_text-rows (found_of matches) id ∙ ap (one_of id) rows ∙ e

    go : Judged words → Read words r
    go (read faults g) = record {
      limits = record { steps = digits_value 10 g.n; journal = digits_value 10 g.m };
      is = numbers g.n g.m (text (codes "steps") g.n g.reads.steps_text) (text (codes "journal") g.m g.reads.journal_text) g.steps_number g.journal_number;
      asked = g.limits;
      steps = bounds steps_option g.n g.steps_range;
      journal = bounds journal_option g.m g.journal_range;
    }
    go (refused k more faults none) = let bad : [] ≡ k ∷ more = sym free ∙ faults in cc

pub unmatched : (words : List (List ℕ)) (error : Error) → has_form words ≡ true → HasKind (fault_of pipe_app words) error
    → kind_of error ≢ OutOfMemory → limits_of words ≡ None
unmatched words error form fails other = go (judged words (is_form words form))
  where
    among : HasKind (fault_of pipe_app words) error → IsAmong (kind_of error) (fault_of pipe_app words)
    among (inl e) = absurd (other e)
    among (inr h) = h

    go : Judged words → limits_of words ≡ None
    go (read faults g) = let none : ⊥ = subst (IsAmong (kind_of error)) faults (among fails) in absurd none
    go (refused k more faults none) = none
