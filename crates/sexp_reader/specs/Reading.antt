-- What the code does with one character, and with a text character by character. That it reads what texts spell is proved.
use Rattle.std.specs.Prelude.{◌≡◌, ◌==◌, ◌&&◌, not, ℕ, Bool, false, if◌then◌else◌, nat_lt, List, [], ◌∷◌, ◌++◌, length, codes, encode_utf8, Option, Some, None, Result, Ok, Err}
use Rattle.lisp_data.specs.declared.sexp.Sexp.{Sexp}
use Rattle.lisp_data.specs.declared.sexp.Sexp.TheVariants as form
use Rattle.sexp_reader.specs.declared.fault.ReadFault.{ReadFault}
use Rattle.sexp_reader.specs.declared.fault.ReadFault.TheVariants.{End, Unclosed, StrayClose, BadToken, TooDeep, TrailingText}
use Rattle.sexp_reader.specs.declared.placed.Placed.{Placed}
use Rattle.sexp_reader.specs.declared.state.Frame.{Frame}
use Rattle.sexp_reader.specs.declared.state.Frame.TheVariants.{Open, Quote, Function}
use Rattle.sexp_reader.specs.declared.state.Mode.{Mode}
use Rattle.sexp_reader.specs.declared.state.Mode.TheVariants.{Between, Comment, Hash, Token, Str, Escape}
use Rattle.sexp_reader.specs.declared.state.Forms.{Forms}
use Rattle.sexp_reader.specs.declared.state.Reader.{Reader}
use Rattle.sexp_reader.specs.Answers.{◌>>=◌, Fails}
use Rattle.sexp_reader.specs.Atoms.{is_empty, atom}
use Rattle.sexp_reader.specs.Grammar.{quoted, max_open, place}
use Rattle.sexp_reader.specs.Tokens.{is_space, ends_token, max_characters}

-- ---- forms

-- no other form may follow
unfoldable pub is_full : Forms → Bool
is_full forms = not forms.many && not (is_empty forms.placed)

-- with a form that stands in no other, if there is one
abbrev pub added : Forms → Option Sexp → Forms
added forms None = forms
added forms (Some x) = record forms { placed = forms.placed ++ record { form = x; at = forms.begun } ∷ [] }

-- where something begins at a place: where it stands in no form, a form begins there
abbrev pub began : Forms → List Frame → ℕ → Forms
began forms [] at = record forms { begun = at }
began forms (_ ∷ _) at = forms

-- with a whole form, behind what is open
abbrev pub completed : List Frame → Sexp → List Frame × Option Sexp
completed [] x = ([], Some x)
completed (Open items ∷ stack) x = (Open (items ++ x ∷ []) ∷ stack, None)
completed (Quote ∷ stack) x = completed stack (quoted (codes "QUOTE") x)
completed (Function ∷ stack) x = completed stack (quoted (codes "FUNCTION") x)

-- between forms
abbrev pub ready : List Frame → Forms → Reader
ready stack forms = record { stack = stack; forms = forms; mode = Between; text = []; token = [] }

unfoldable pub complete : List Frame → Forms → Sexp → Reader
complete stack forms x = ready (completed stack x).0 (added forms (completed stack x).1)

unfoldable pub opened : Reader → Frame → Result Reader ReadFault
opened r frame = if nat_lt (length r.stack) max_open then Ok (record r { stack = frame ∷ r.stack; mode = Between }) else Err TooDeep

abbrev pub closed_at : Reader → List Frame → Result Reader ReadFault
closed_at r (Open items ∷ stack) = Ok (complete stack r.forms (form.List items))
closed_at r _ = Err StrayClose

unfoldable pub closed : Reader → Result Reader ReadFault
closed r = closed_at r r.stack

unfoldable pub token_ended : Reader → Result Reader ReadFault
token_ended r = atom r.token >>= λ x. Ok (complete r.stack r.forms x)

-- ---- one character

-- one that begins something
unfoldable pub begun_by : Reader → ℕ → Result Reader ReadFault
begun_by r c =
    if c == 40 then opened r (Open [])
    else if c == 41 then closed r
    else if c == 39 then opened r Quote
    else if c == 34 then Ok (record r { mode = Str })
    else if c == 35 then Ok (record r { mode = Hash })
    else Ok (record r { mode = Token; token = r.token ++ c ∷ [] })

-- one that nothing takes that was begun
unfoldable pub between : Reader → ℕ → ℕ → Result Reader ReadFault
between r at c =
    if is_space c then Ok (record r { mode = Between })
    else if c == 59 then Ok (record r { mode = Comment })
    else if is_full r.forms then Err TrailingText
    else begun_by (record r { forms = began r.forms r.stack at }) c

-- one of a token
unfoldable pub in_token : Reader → ℕ → ℕ → Result Reader ReadFault
in_token r at c =
    if ends_token c then (token_ended r >>= λ s. between s at c)
    else if nat_lt (length r.token) max_characters then Ok (record r { token = r.token ++ c ∷ [] })
    else Err BadToken

abbrev pub more : Reader → ℕ → Reader
more r c = record r { mode = Str; text = r.text ++ encode_utf8 c }

-- one of a string
unfoldable pub in_string : Reader → ℕ → Result Reader ReadFault
in_string r c =
    if c == 34 then Ok (complete r.stack r.forms (form.Str r.text))
    else if c == 92 then Ok (record r { mode = Escape })
    else Ok (more r c)

abbrev pub step_in : Mode → Reader → ℕ → ℕ → Result Reader ReadFault
step_in Between r at c = between r at c
step_in Comment r at c = if c == 10 then Ok (record r { mode = Between }) else Ok r
step_in Hash r at c = if c == 39 then opened r Function else Err BadToken
step_in Token r at c = in_token r at c
step_in Str r at c = in_string r c
step_in Escape r at c = Ok (more r c)

unfoldable pub step : Reader → ℕ → ℕ → Result Reader ReadFault
step r at c = step_in r.mode r at c

-- ---- a text

abbrev pub whole_at : List Frame → List Placed → Result (List Placed) ReadFault
whole_at [] forms = Ok forms
whole_at (_ ∷ _) _ = Err Unclosed

abbrev pub whole : Reader → Result (List Placed) ReadFault
whole r = whole_at r.stack r.forms.placed

abbrev pub finish_in : Mode → Reader → Result (List Placed) ReadFault
finish_in Between r = whole r
finish_in Comment r = whole r
finish_in Hash r = Err BadToken
finish_in Token r = token_ended r >>= whole
finish_in Str r = Err Unclosed
finish_in Escape r = Err Unclosed

-- at the end of the text
unfoldable pub finish : Reader → Result (List Placed) ReadFault
finish r = finish_in r.mode r

-- over the rest of a text
unfoldable pub run : List ℕ → Reader → List ℕ → Result (List Placed) ReadFault
run text r [] = finish r
run text r (c ∷ cs) = step r (place text (c ∷ cs)) c >>= λ s. run text s cs

abbrev pub start : Bool → Reader
start many = ready [] (record { many = many; begun = 0; placed = [] })

-- the forms of a text: many, or one
abbrev pub read_of : Bool → List ℕ → Result (List Placed) ReadFault
read_of many text = run text (start many) text

-- the first of some forms
abbrev pub first_of_forms : List Placed → Result Sexp ReadFault
first_of_forms [] = Err End
first_of_forms (p ∷ ps) = Ok p.form

-- the one form of a text
abbrev pub form_of : List ℕ → Result Sexp ReadFault
form_of text = read_of false text >>= first_of_forms

-- what reading some characters answered: the reader after them, or the first fault
abbrev pub Runs : Result (Unit {0}) ReadFault → Result (List Placed) ReadFault → Reader → Type 0
Runs (Ok _) answer after = answer ≡ finish after
Runs (Err fault) answer after = Fails fault answer
