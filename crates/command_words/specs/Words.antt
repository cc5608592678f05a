-- Which words ask for a session, and with which limits.
use Rattle.std.specs.Prelude.{ℕ, nat_le, Bool, ◌&&◌, ◌||◌, if◌then◌else◌, List, [], ◌∷◌, length, map, filter, codes, Option, Some, None, option_map, option_and_then}
use Rattle.std.specs.Char.{is_ascii_digit}
use Rattle.std.specs.List.{list_all}
use Rattle.std.specs.Str.{bytes_eq}
use Rattle.std.specs.Str.Parse.{digits_value}
use Rattle.session_model.specs.declared.limits.Limits.{Limits}

-- an option, behind whose name a number stands
pub record NumberOption : Type 0 where
  pub name : List ℕ
  pub least : ℕ
  pub greatest : ℕ
  -- the number where the option isn't given
  pub default : ℕ

-- the options of `pipe`: the most steps that are made, and the most entries that the journal has
abbrev pub steps_option : NumberOption
steps_option = record { name = codes "--steps"; least = 1; greatest = 100000000; default = 100000000 }

abbrev pub journal_option : NumberOption
journal_option = record { name = codes "--journal"; least = 2; greatest = 4000000; default = 4000000 }

-- a name and the word behind it
abbrev pub Pair : Type 0
Pair = List ℕ × List ℕ

-- the words two by two; None where one is left over
abbrev pub pairs : List (List ℕ) → Option (List Pair)
pairs [] = Some []
pairs (name ∷ []) = None
pairs (name ∷ word ∷ words) = option_map (λ more. (name, word) ∷ more) (pairs words)

-- one to twenty decimal digits
abbrev pub is_number : List ℕ → Bool
is_number word = nat_le 1 (length word) && (nat_le (length word) 20 && list_all is_ascii_digit word)

-- the number that a word spells, where the option may have it
abbrev pub number_in : NumberOption → List ℕ → Option ℕ
number_in o word =
    if is_number word && (nat_le o.least (digits_value 10 word) && nat_le (digits_value 10 word) o.greatest) then Some (digits_value 10 word) else None

-- an option is given at most once
abbrev pub only_number : NumberOption → List (List ℕ) → Option ℕ
only_number o [] = Some o.default
only_number o (word ∷ []) = number_in o word
only_number o (word ∷ again ∷ more) = None

-- an option's number, by the pairs of its name
abbrev pub number_of : NumberOption → List Pair → Option ℕ
number_of o given = only_number o (map (λ p. p.1) (filter (λ p. bytes_eq p.0 o.name) given))

-- the pair has the name of an option
abbrev pub names_option : Pair → Bool
names_option p = bytes_eq p.0 steps_option.name || bytes_eq p.0 journal_option.name

abbrev pub limits_from : Option ℕ → Option ℕ → Option Limits
limits_from (Some steps) (Some journal) = Some (record { steps = steps; journal = journal })
limits_from _ _ = None

-- the limits that the options of `pipe` give, in any order
abbrev pub limits_by : List Pair → Option Limits
limits_by given = if list_all names_option given then limits_from (number_of steps_option given) (number_of journal_option given) else None

-- the limits of the session that the words ask for, by the form `pipe` and its options; None where they are no form
abbrev pub limits_of : List (List ℕ) → Option Limits
limits_of [] = None
limits_of (form ∷ words) = if bytes_eq form (codes "pipe") then option_and_then limits_by (pairs words) else None
