-- The faults of texts, each by its place: a text is read from the left up to the first place at which reading must stop. In
-- the standard these are the errors of type READER-ERROR and END-OF-FILE (HyperSpec 2.2, 2.3.5 and 2.4.2).
use Rattle.std.specs.Prelude.{◌≡◌, ◌==◌, ◌||◌, ◌&&◌, ℕ, zero, suc, ◌≤◌, Bool, false, List, [], ◌∷◌, length, FitsSigned, ℤ}
use mir.Syntax.{w64}
use Rattle.lisp_data.specs.declared.sexp.Sexp.{Sexp}
use Rattle.sexp_reader.specs.declared.fault.ReadFault.{ReadFault}
use Rattle.sexp_reader.specs.declared.fault.ReadFault.TheVariants.{End, Unclosed, StrayClose, BadToken, TooDeep, NumberTooWide, TrailingText}
use Rattle.sexp_reader.specs.Grammar.{Gap, Token, Spells, max_open}
use Rattle.sexp_reader.specs.Tokens.{is_space, max_characters, IsInteger, IsBad}

-- what is open at a place
pub data Mark : Type 0 where
  in_list : Mark
  in_quote : Mark

-- `Reaches text n marks t`: from the text's beginning up to t stand nothing but whitespace, comments, the lists and quote marks
-- that are open at t (`marks`, the innermost first) and whole forms in those lists; n more lists and quote marks may be opened
pub data Reaches (text : List ℕ) : ℕ → List Mark → List ℕ → Type 0 where
  begins : Reaches text max_open [] text
  list : (n : ℕ) (marks : List Mark) (t inner : List ℕ) → Reaches text (suc n) marks t → Gap t (40 ∷ inner) → Reaches text n (in_list ∷ marks) inner
  quote : (n : ℕ) (marks : List Mark) (t inner : List ℕ) → Reaches text (suc n) marks t → Gap t (39 ∷ inner) → Reaches text n (in_quote ∷ marks) inner
  function : (n : ℕ) (marks : List Mark) (t inner : List ℕ) → Reaches text (suc n) marks t → Gap t (35 ∷ 39 ∷ inner) → Reaches text n (in_quote ∷ marks) inner
  item : (n : ℕ) (marks : List Mark) (t inner after : List ℕ) (x : Sexp) → Reaches text n (in_list ∷ marks) t → Gap t inner → Spells n inner x after → Reaches text n (in_list ∷ marks) after

-- a string's characters without an end quote, up to the end of the text
pub data Unended : List ℕ → Type 0 where
  at_end : Unended []
  after_backslash : Unended (92 ∷ [])
  escaped : (c : ℕ) (t : List ℕ) → Unended t → Unended (92 ∷ c ∷ t)
  plain : (c : ℕ) (t : List ℕ) → (c == 34) ≡ false → (c == 92) ≡ false → Unended t → Unended (c ∷ t)

-- it begins with the mark `#'`
abbrev pub begins_function : List ℕ → Bool
begins_function (c ∷ d ∷ _) = c == 35 && d == 39
begins_function _ = false

-- `Stops n marks t fault`: with these marks open and n more allowed, reading must stop where t begins
pub data Stops : ℕ → List Mark → List ℕ → ReadFault → Type 0 where
  -- the text ends inside a list or after a quote mark, or inside a string
  ends_inside : (n : ℕ) (mark : Mark) (marks : List Mark) → Stops n (mark ∷ marks) [] Unclosed
  ends_in_string : (n : ℕ) (marks : List Mark) (t : List ℕ) → Unended t → Stops n marks (34 ∷ t) Unclosed
  -- a `)` where nothing is open, or after a quote mark
  closes_nothing : (n : ℕ) (t : List ℕ) → Stops n [] (41 ∷ t) StrayClose
  closes_quote : (n : ℕ) (marks : List Mark) (t : List ℕ) → Stops n (in_quote ∷ marks) (41 ∷ t) StrayClose
  -- a bad token, which isn't the mark `#'`
  bad_token : (n : ℕ) (marks : List Mark) (t token rest : List ℕ) → begins_function t ≡ false → Token t token rest → IsBad token → Stops n marks t BadToken
  -- a list or a quote mark where no more may be opened
  deep_list : (marks : List Mark) (t : List ℕ) → Stops zero marks (40 ∷ t) TooDeep
  deep_quote : (marks : List Mark) (t : List ℕ) → Stops zero marks (39 ∷ t) TooDeep
  deep_function : (marks : List Mark) (t : List ℕ) → Stops zero marks (35 ∷ 39 ∷ t) TooDeep
  -- an integer outside the signed 64-bit range
  wide_number : (n : ℕ) (marks : List Mark) (t token rest : List ℕ) (z : ℤ) → Token t token rest → length token ≤ max_characters → IsInteger token z → ¬ FitsSigned w64 z → Stops n marks t NumberTooWide

-- reading a form from the text's beginning stops with this fault
pub record Breaks (text : List ℕ) (fault : ReadFault) : Type 0 where
  pub allowed : ℕ
  pub marks : List Mark
  pub before : List ℕ
  pub place : List ℕ
  pub reaches : Reaches text allowed marks before
  pub gap : Gap before place
  pub stops : Stops allowed marks place fault

-- the fault of a text that should be one form
pub data IsFault (text : List ℕ) : ReadFault → Type 0 where
  -- nothing but whitespace and comments
  ends : Gap text [] → IsFault text End
  -- in the form, or in its place
  breaks : (fault : ReadFault) → Breaks text fault → IsFault text fault
  -- after the form something other than whitespace and comments
  trails : (before after : List ℕ) (x : Sexp) (c : ℕ) (rest : List ℕ) → Gap text before → Spells max_open before x after → Gap after (c ∷ rest)
      → (is_space c || c == 59) ≡ false → IsFault text TrailingText

-- the fault of a text of forms one after another: that of the first which is none
pub data IsFaultAmong : List ℕ → ReadFault → Type 0 where
  breaks : (t : List ℕ) (fault : ReadFault) → Breaks t fault → IsFaultAmong t fault
  next : (t inner after : List ℕ) (x : Sexp) (fault : ReadFault) → Gap t inner → Spells max_open inner x after → IsFaultAmong after fault → IsFaultAmong t fault
