-- The command that reads the numbers.
use Rattle.std.specs.Prelude.{◌≡◌, ◌<◌, ◌^◌, ℕ, true, List, [], ◌∷◌, codes, Some}
use Rattle.std.specs.Str.Parse.{digits_value}
use Rattle.clap.specs.Words.{App, Rule, new_app, new_rule, with_rule}
use Rattle.clap.specs.Simple.{on_top}
use Rattle.clap.specs.declared.builder.value_parser.ValueParser.TheVariants.{Unsigned}
use Rattle.command_words.specs.Words.{is_number, steps_option, journal_option}

abbrev pub steps_rule : Rule
steps_rule = record (new_rule (codes "steps")) { long = Some (codes "steps"); parser = Some (Unsigned steps_option.least steps_option.greatest); defaults = codes "100000000" ∷ [] }

abbrev pub journal_rule : Rule
journal_rule = record (new_rule (codes "journal")) { long = Some (codes "journal"); parser = Some (Unsigned journal_option.least journal_option.greatest); defaults = codes "4000000" ∷ [] }

-- a command of two options, and without a flag for help
abbrev pub pipe_app : App
pipe_app = with_rule (with_rule (on_top (λ s. record s { disable_help_flag = true }) (new_app (codes "pipe"))) steps_rule) journal_rule

-- a word that is read as a number of 64 bits
pub record IsReadable (word : List ℕ) : Type 0 where
  pub digits : is_number word ≡ true
  pub small : digits_value 10 word < 2 ^ 64
