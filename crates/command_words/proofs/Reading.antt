-- What the command makes of a form.
use Rattle.std.proofs.Common.{◌≡◌, ◌∙◌, Bool, true, false, List, [], ◌∷◌, Option, Some, None, refl, ap, ap₂}
use Rattle.std.specs.Prelude.{codes, is_some, option_and_then, if◌then◌else◌}
use Rattle.std.specs.Option.{option_map_or}
use Rattle.std.specs.Str.{bytes_eq}
use Rattle.clap.specs.Lexer.{long_of, long_of_rest, short_of, short_of_rest, strip_byte}
use Rattle.clap.specs.Faults.{bundle_fault, check_fault, defaults_fault, entered_fault, fault_of, flag_word_fault, is_simple_and_free, settle_fault, step_fault, turn_fault, walk_fault, word_fault}
use Rattle.clap.specs.Kinds.{Kinds, or_else, value_kinds}
use Rattle.clap.specs.Simple.{Shape, built, entered, is_simple, matches_of}
use Rattle.clap.specs.Walk.{Held, Row, Step, Text, Walk, after_step, finished, idle, long_or_other, nothing_held, one_of, option, plain_word, settled, short_or_plain, trailing, walk, walk_from, walked, word_met}
use Rattle.clap.specs.declared.builder.value_parser.Reading.TheVariants.{AsWritten}
use Rattle.clap.specs.declared.builder.value_parser.ValueParser.TheVariants.{Unsigned}
use Rattle.clap.specs.declared.parser.matches.ValueSource.TheVariants.{CommandLine}
use Rattle.clap.proofs.OnLiterals.{clap_on_literals}
use Rattle.command_words.specs.Words.{steps_option, journal_option}
use Rattle.command_words.specs.Options.{pipe_app}

pub is_free : is_simple_and_free pipe_app ≡ true
unfolding clap_on_literals
is_free = refl

abbrev top : Shape
top = (built pipe_app).top

-- ---- a word that is no flag is the value of the option before it

pub record IsPlainWord (n : Text) : Type 0 where
  pub no_flag : strip_byte 45 n ≡ None
  pub no_end : bytes_eq n (45 ∷ 45 ∷ []) ≡ false

abbrev behind : Text → Held → Walk
behind id h = record { held = h; waiting = option id; position = 1; is_trailing = false; stopped = None }

module _ (id n : Text) (h : Held) (p : IsPlainWord n) where
  long_none : long_of n ≡ None
  long_none = ap (λ o. option_and_then long_of_rest (option_and_then (strip_byte 45) o)) p.no_flag

  short_none : short_of n ≡ None
  short_none = ap (option_and_then short_of_rest) p.no_flag

  met_plain : word_met top.rules [] false (option id) 1 n h ≡ plain_word top.rules (option id) n h
  met_plain = ap₂ (λ (b : Bool) (o : Option (Text × Option Text)). if b then (h, trailing 1) else long_or_other top.rules (option id) n o h) p.no_end long_none
      ∙ ap (λ (o : Option Text). short_or_plain top.rules (option id) n o h) short_none

  abbrev behind_value : Walk
  behind_value = after_step top.rules n (behind id h) (plain_word top.rules (option id) n h).0 (plain_word top.rules (option id) n h).1

  walked_plain : walked top.rules [] (behind id h) n ≡ behind_value
  unfolding walked
  walked_plain = ap (λ (m : Held × Step). after_step top.rules n (behind id h) m.0 m.1) met_plain

  fault_plain : word_fault top [] false (option id) n h ≡ []
  fault_plain = ap₂ (λ (b : Bool) (o : Option (Text × Option Text)). if b then [] else flag_word_fault top.rules top.args_override_self o n h) p.no_end long_none
      ∙ ap (λ (o : Option Text). option_map_or (λ flags. bundle_fault top.rules top.args_override_self flags h) o []) short_none

  turn_plain : turn_fault top [] (behind id h) n ≡ []
  turn_plain = ap₂ (λ (k : Kinds) (m : Held × Step). or_else k (step_fault top 1 m.0 m.1)) fault_plain met_plain

  walk_plain : (rest : List Text) → walk_fault top [] (behind id h) (n ∷ rest) ≡ walk_fault top [] behind_value rest
  unfolding walk_fault
  walk_plain rest = ap₂ (λ (k : Kinds) (w : Walk). or_else k (walk_fault top [] w rest)) turn_plain walked_plain

-- ---- the whole command, by its walk over the words

abbrev fault_by : Kinds → Walk → Kinds
fault_by k w = or_else k (or_else (entered_fault (built pipe_app) w.stopped) (or_else (settle_fault top.rules top.args_override_self w.held)
    (or_else (defaults_fault (settled top.rules w.held).rows top.rules)
    (check_fault top (finished top.rules w.held) (is_some (entered (built pipe_app) w.stopped))))))

abbrev walk_of : List Text → Walk
walk_of = walk top.rules [] nothing_held

by_walk : (words : List Text) (k : Kinds) (w : Walk) → walk_fault top [] (walk_from nothing_held) words ≡ k → walk_of words ≡ w
    → fault_of pipe_app (codes "pipe" ∷ words) ≡ fault_by k w
by_walk words k w faults ends = ap₂ fault_by faults ends

-- ---- the walks over the five forms

abbrev steps_id : Text
steps_id = codes "steps"

abbrev journal_id : Text
journal_id = codes "journal"

abbrev steps_kinds : Text → Kinds
steps_kinds = value_kinds false (Unsigned steps_option.least steps_option.greatest)

abbrev journal_kinds : Text → Kinds
journal_kinds = value_kinds false (Unsigned journal_option.least journal_option.greatest)

-- the option's name has been read, behind others
abbrev asked : Text → List Row → Held
asked id rows = record { rows = rows; pending = Some (id, []); skip = 0 }

abbrev given : Text → Text → List Row
given id n = record { id = id; values = n ∷ []; count = None; source = Some CommandLine; reading = AsWritten } ∷ []

-- where the walk stands at the end
abbrev ended : Text → Text → List Row → Walk
ended id n rows = record { held = record { rows = rows; pending = Some (id, n ∷ []); skip = 0 }; waiting = idle; position = 1; is_trailing = false; stopped = None }

abbrev pub one : Kinds → Kinds
one k = or_else (or_else k []) []

pub bare_fault : fault_of pipe_app (codes "pipe" ∷ []) ≡ []
unfolding clap_on_literals
bare_fault = refl

pub steps_fault : (n : Text) → IsPlainWord n → fault_of pipe_app (codes "pipe" ∷ steps_option.name ∷ n ∷ []) ≡ one (steps_kinds n)
unfolding clap_on_literals
steps_fault n p = by_walk (steps_option.name ∷ n ∷ []) [] (ended steps_id n []) (walk_plain steps_id n (asked steps_id []) p []) (walked_plain steps_id n (asked steps_id []) p)

pub journal_fault : (n : Text) → IsPlainWord n → fault_of pipe_app (codes "pipe" ∷ journal_option.name ∷ n ∷ []) ≡ one (journal_kinds n)
unfolding clap_on_literals
journal_fault n p = by_walk (journal_option.name ∷ n ∷ []) [] (ended journal_id n []) (walk_plain journal_id n (asked journal_id []) p []) (walked_plain journal_id n (asked journal_id []) p)

-- the second option's name settles the first
steps_journal_walk : (n m : Text) → IsPlainWord n → IsPlainWord m → walk_of (steps_option.name ∷ n ∷ journal_option.name ∷ m ∷ []) ≡ ended journal_id m (given steps_id n)
unfolding clap_on_literals
steps_journal_walk n m p q =
    ap (λ (w : Walk). walked top.rules [] (walked top.rules [] w journal_option.name) m) (walked_plain steps_id n (asked steps_id []) p)
    ∙ walked_plain journal_id m (asked journal_id (given steps_id n)) q

journal_steps_walk : (n m : Text) → IsPlainWord n → IsPlainWord m → walk_of (journal_option.name ∷ n ∷ steps_option.name ∷ m ∷ []) ≡ ended steps_id m (given journal_id n)
unfolding clap_on_literals
journal_steps_walk n m p q =
    ap (λ (w : Walk). walked top.rules [] (walked top.rules [] w steps_option.name) m) (walked_plain journal_id n (asked journal_id []) p)
    ∙ walked_plain steps_id m (asked steps_id (given journal_id n)) q

abbrev pub settling : Kinds → Kinds
settling k = or_else (or_else (or_else k []) []) []

steps_journal_faults : (n m : Text) → IsPlainWord n → IsPlainWord m
    → walk_fault top [] (walk_from nothing_held) (steps_option.name ∷ n ∷ journal_option.name ∷ m ∷ []) ≡ settling (steps_kinds n)
unfolding clap_on_literals
steps_journal_faults n m p q =
    walk_plain steps_id n (asked steps_id []) p (journal_option.name ∷ m ∷ [])
    ∙ ap (or_else (or_else (or_else (steps_kinds n) []) [])) (walk_plain journal_id m (asked journal_id (given steps_id n)) q [])

journal_steps_faults : (n m : Text) → IsPlainWord n → IsPlainWord m
    → walk_fault top [] (walk_from nothing_held) (journal_option.name ∷ n ∷ steps_option.name ∷ m ∷ []) ≡ settling (journal_kinds n)
unfolding clap_on_literals
journal_steps_faults n m p q =
    walk_plain journal_id n (asked journal_id []) p (steps_option.name ∷ m ∷ [])
    ∙ ap (or_else (or_else (or_else (journal_kinds n) []) [])) (walk_plain steps_id m (asked steps_id (given journal_id n)) q [])

abbrev pub two : Kinds → Kinds → Kinds
two k l = or_else (settling k) (or_else (or_else l []) [])

pub steps_journal_fault : (n m : Text) → IsPlainWord n → IsPlainWord m
    → fault_of pipe_app (codes "pipe" ∷ steps_option.name ∷ n ∷ journal_option.name ∷ m ∷ []) ≡ two (steps_kinds n) (journal_kinds m)
unfolding clap_on_literals
steps_journal_fault n m p q =
    by_walk (steps_option.name ∷ n ∷ journal_option.name ∷ m ∷ []) (settling (steps_kinds n)) (ended journal_id m (given steps_id n))
    (steps_journal_faults n m p q) (steps_journal_walk n m p q)

pub journal_steps_fault : (n m : Text) → IsPlainWord n → IsPlainWord m
    → fault_of pipe_app (codes "pipe" ∷ journal_option.name ∷ n ∷ steps_option.name ∷ m ∷ []) ≡ two (journal_kinds n) (steps_kinds m)
unfolding clap_on_literals
journal_steps_fault n m p q =
    by_walk (journal_option.name ∷ n ∷ steps_option.name ∷ m ∷ []) (settling (journal_kinds n)) (ended steps_id m (given journal_id n))
    (journal_steps_faults n m p q) (journal_steps_walk n m p q)

-- ---- what is read

-- the texts that the numbers are read from
pub record Reads (words : List Text) (steps journal : Text) : Type 0 where
  pub steps_text : one_of (codes "steps") (matches_of pipe_app words) ≡ Some steps
  pub journal_text : one_of (codes "journal") (matches_of pipe_app words) ≡ Some journal

reads_by : (words : List Text) (w : Walk) (n m : Text) → walk_of words ≡ w → one_of (codes "steps") (finished top.rules w.held) ≡ Some n
    → one_of (codes "journal") (finished top.rules w.held) ≡ Some m → Reads (codes "pipe" ∷ words) n m
reads_by words w n m ends steps journal = record {
  steps_text = ap (λ (v : Walk). one_of (codes "steps") (finished top.rules v.held)) ends ∙ steps;
  journal_text = ap (λ (v : Walk). one_of (codes "journal") (finished top.rules v.held)) ends ∙ journal;
}

pub bare_reads : Reads (codes "pipe" ∷ []) (codes "100000000") (codes "4000000")
bare_reads = record { steps_text = refl; journal_text = refl }

pub steps_reads : (n : Text) → IsPlainWord n → Reads (codes "pipe" ∷ steps_option.name ∷ n ∷ []) n (codes "4000000")
unfolding clap_on_literals
steps_reads n p = reads_by (steps_option.name ∷ n ∷ []) (ended steps_id n []) n (codes "4000000") (walked_plain steps_id n (asked steps_id []) p) refl refl

pub journal_reads : (n : Text) → IsPlainWord n → Reads (codes "pipe" ∷ journal_option.name ∷ n ∷ []) (codes "100000000") n
unfolding clap_on_literals
journal_reads n p = reads_by (journal_option.name ∷ n ∷ []) (ended journal_id n []) (codes "100000000") n (walked_plain journal_id n (asked journal_id []) p) refl refl

pub steps_journal_reads : (n m : Text) → IsPlainWord n → IsPlainWord m → Reads (codes "pipe" ∷ steps_option.name ∷ n ∷ journal_option.name ∷ m ∷ []) n m
steps_journal_reads n m p q =
    reads_by (steps_option.name ∷ n ∷ journal_option.name ∷ m ∷ []) (ended journal_id m (given steps_id n)) n m (steps_journal_walk n m p q) refl refl

pub journal_steps_reads : (n m : Text) → IsPlainWord n → IsPlainWord m → Reads (codes "pipe" ∷ journal_option.name ∷ n ∷ steps_option.name ∷ m ∷ []) m n
journal_steps_reads n m p q =
    reads_by (journal_option.name ∷ n ∷ steps_option.name ∷ m ∷ []) (ended steps_id m (given journal_id n)) m n (journal_steps_walk n m p q) refl refl

pub is_plain : is_simple pipe_app ≡ true
unfolding clap_on_literals
is_plain = refl
