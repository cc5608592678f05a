-- What the one search finds is what each definition finds of its own.
use Rattle.std.proofs.Common.{◌≡◌, ℕ, ◌+◌, ◌<◌, Bool, true, false, List, [], ◌∷◌, length, reverse, Option, Some, None, option_and_then, refl, sym, ap, ◌∙◌, arith}
use Rattle.std.proofs.lemmas.List.{reverse-reverse}
use Rattle.std.specs.Borrow.{Bor}
use Rattle.std.specs.Prelude.{if◌then◌else◌, option_map}
use Rattle.lisp_data.specs.declared.sexp.Sexp.{Sexp}
use Rattle.lisp_data.specs.declared.symbol.Symbol.{Symbol}
use Rattle.lisp_data.specs.declared.value.Value.{Value}
use Rattle.lisp_data.specs.Same.{same_symbol}
use Rattle.term_model.specs.declared.frame.Frame.{Frame}
use Rattle.term_model.specs.declared.frame.Frame.TheVariants as frame
use Rattle.term_model.specs.declared.plain.Plain.TheVariants as plain
use Rattle.term_model.specs.Levels.{current_level, served_form}
use Rattle.term_model.specs.Levels as level
use Rattle.term_model.specs.Search.{Sight, Here, Past, changed, changed_by, nearest}
use Rattle.term_model.specs.Search as search
use Rattle.term_model.specs.Term.{Context}
use Rattle.term_model.specs.Variables.{dynamic, dynamic_in, dynamic_to, lexical, lexical_in, lexical_to, with_dynamic, with_lexical}
use Rattle.lisp_frames.specs.declared.sought.Seen.{Seen}
use Rattle.lisp_frames.specs.declared.sought.Seen.TheVariants as seen
use Rattle.lisp_frames.specs.declared.sought.Sought.{Sought}
use Rattle.lisp_frames.specs.declared.sought.Sought.TheVariants as sought
use Rattle.lisp_frames.specs.Seeking.{form_in, level_in, nearest_sought, sees, shown, sight_of, target_if, value_in, with_sought}
use Rattle.lisp_frames.specs.Stack.{changed_at, with_value}
use Rattle.lisp_frames.proofs.ContextLemmas.{changed_here, changed_past}

-- over the layers as they are kept, the outermost first
pub nearest_frames : (s : Sought) (ls : List Frame) (c : Context) → ls ≡ reverse c → nearest_sought s (reverse ls) ≡ nearest_sought s c
nearest_frames s ls c e = ap (λ (xs : List Frame). nearest_sought s (reverse xs)) e ∙ ap (nearest_sought s) (reverse-reverse c)

-- ---- reading the layer that is found

-- what is found here and further out, by what a layer is to the search
abbrev pub by_seen : {A : Type 0} → Seen → Option A → Option A → Option A
by_seen seen.Target here further = here
by_seen seen.End here further = None
by_seen seen.Other here further = further

module _ {A : Type 0} (s : Sought) (read : ℕ × Frame → Option A) where
  -- a layer, of which this is read, before what is further out
  read-layer : (o : Seen) (found : ℕ × Frame) (m : Option (ℕ × Frame)) → option_and_then read (search.seen (sight_of found o) m) ≡ by_seen o (read found) (option_and_then read m)
  read-layer seen.Target found m = refl
  read-layer seen.End found m = refl
  read-layer seen.Other found m = refl

  -- a search of which each layer says what is read of it where it is sought
  pub read-nearest : (look : ℕ → Frame → Sight A) → ((n : ℕ) (l : Frame) (further : Option A) → by_seen (sees s l) (read (n, l)) further ≡ search.seen (look n l) further)
      → (c : Context) → option_and_then read (nearest_sought s c) ≡ nearest look c
  read-nearest look agrees [] = refl
  read-nearest look agrees (l ∷ c) =
      read-layer (sees s l) (length c + 1, l) (nearest_sought s c)
      ∙ ap (by_seen (sees s l) (read (length c + 1, l))) (read-nearest look agrees c)
      ∙ agrees (length c + 1) l (nearest look c)

pub here-if : {A : Type 0} (b : Bool) (a : A) (further : Option A) → by_seen (target_if b) (Some a) further ≡ search.seen (if b then Here a else Past) further
here-if true a further = refl
here-if false a further = refl

-- ---- values of variables

lexical-agrees : (s : Bor Symbol) (n : ℕ) (l : Frame) (further : Option Value)
    → by_seen (sees (sought.Lexical s) l) (value_in l) further ≡ search.seen (lexical_in s.now n l) further
lexical-agrees s n (frame.On (plain.Lexical x v)) further = here-if (same_symbol x s.now) v further
lexical-agrees s n l further = refl

pub lexical_found : (s : Bor Symbol) (c : Context) → lexical s.now c ≡ option_and_then (λ (found : ℕ × Frame). value_in found.1) (nearest_sought (sought.Lexical s) c)
lexical_found s c = sym (read-nearest (sought.Lexical s) (λ found. value_in found.1) (lexical_in s.now) (lexical-agrees s) c)

dynamic-agrees : (s : Bor Symbol) (n : ℕ) (l : Frame) (further : Option Value)
    → by_seen (sees (sought.Dynamic s) l) (value_in l) further ≡ search.seen (dynamic_in s.now n l) further
dynamic-agrees s n (frame.On (plain.Dynamic x v)) further = here-if (same_symbol x s.now) v further
dynamic-agrees s n l further = refl

pub dynamic_found : (s : Bor Symbol) (c : Context) → dynamic s.now c ≡ option_and_then (λ (found : ℕ × Frame). value_in found.1) (nearest_sought (sought.Dynamic s) c)
dynamic_found s c = sym (read-nearest (sought.Dynamic s) (λ found. value_in found.1) (dynamic_in s.now) (dynamic-agrees s) c)

-- ---- requests and levels

form-agrees : (n : ℕ) (l : Frame) (further : Option Sexp) → by_seen (sees sought.Request l) (form_in l) further ≡ search.seen (level.form_in n l) further
form-agrees n (frame.On plain.Eval) further = refl
form-agrees n l further = refl

pub form_found : (c : Context) → served_form c ≡ option_and_then (λ (found : ℕ × Frame). form_in found.1) (nearest_sought sought.Request c)
form_found c = sym (read-nearest sought.Request (λ found. form_in found.1) level.form_in form-agrees c)

level_seen-by : (l : Frame) (c : Context) → by_seen (sees sought.Level l) (level_in l) (option_map shown (current_level c)) ≡ option_map shown (current_level (l ∷ c))
level_seen-by (frame.On plain.Eval) c = refl
level_seen-by l c = refl

level-nearest : (c : Context) → option_and_then (λ (found : ℕ × Frame). level_in found.1) (nearest_sought sought.Level c) ≡ option_map shown (current_level c)
level-nearest [] = refl
level-nearest (l ∷ c) =
    read-layer sought.Level (λ found. level_in found.1) (sees sought.Level l) (length c + 1, l) (nearest_sought sought.Level c)
    ∙ ap (by_seen (sees sought.Level l) (level_in l)) (level-nearest c)
    ∙ level_seen-by l c

pub level_found : (c : Context) → option_map shown (current_level c) ≡ option_and_then (λ (found : ℕ × Frame). level_in found.1) (nearest_sought sought.Level c)
level_found c = sym (level-nearest c)

-- ---- assigning

-- the number that is found is one of a layer
within-seen : (n : ℕ) (l : Frame) (o : Seen) (m : Option (ℕ × Frame)) (found : ℕ × Frame) → ((f : ℕ × Frame) → m ≡ Some f → f.0 < n) → search.seen (sight_of (n, l) o) m ≡ Some found → found.0 < n + 1
within-seen n l seen.Target m found below e = let same : n ≡ found.0 = cc in omega arith
within-seen n l seen.End m found below e = absurd (cc)
within-seen n l seen.Other m found below e = let h = below found e in omega arith

within : (s : Sought) (c : Context) (found : ℕ × Frame) → nearest_sought s c ≡ Some found → found.0 < length c + 1
within s [] found e = absurd (cc)
within s (l ∷ c) found e = let h = within-seen (length c + 1) l (sees s l) (nearest_sought s c) found (within s c) e in omega arith

abbrev pub changed_for : Value → Context → Option (ℕ × Frame) → Option Context
changed_for v c m = option_map (λ (found : ℕ × Frame). changed_at found.0 (with_value v) c) m

changed-past : (v : Value) (l : Frame) (c : Context) (m : Option (ℕ × Frame)) → ((f : ℕ × Frame) → m ≡ Some f → f.0 < length c + 1)
    → changed_for v (l ∷ c) m ≡ option_map (λ d. l ∷ d) (changed_for v c m)
changed-past v l c None below = refl
changed-past v l c (Some f) below = let h = below f refl in ap Some (changed_past f.0 (with_value v) l c (λ e. omega arith))

changed-layer : (v : Value) (l : Frame) (c : Context) (o : Seen) (m : Option (ℕ × Frame)) → ((f : ℕ × Frame) → m ≡ Some f → f.0 < length c + 1)
    → changed_for v (l ∷ c) (search.seen (sight_of (length c + 1, l) o) m) ≡ by_seen o (Some (with_value v l ∷ c)) (option_map (λ d. l ∷ d) (changed_for v c m))
changed-layer v l c seen.Target m below = ap Some (changed_here (length c + 1) (with_value v) l c refl)
changed-layer v l c seen.End m below = refl
changed-layer v l c seen.Other m below = changed-past v l c m below

-- a change of which each layer says what is written to it where it is sought
changed-nearest : (s : Sought) (v : Value) (to : Frame → Sight Frame)
    → ((l : Frame) (c : Context) (further : Option Context) → by_seen (sees s l) (Some (with_value v l ∷ c)) (option_map (λ d. l ∷ d) further) ≡ changed_by l c (to l) further)
    → (c : Context) → with_sought s v c ≡ changed to c
changed-nearest s v to agrees [] = refl
changed-nearest s v to agrees (l ∷ c) =
    changed-layer v l c (sees s l) (nearest_sought s c) (within s c)
    ∙ ap (λ further. by_seen (sees s l) (Some (with_value v l ∷ c)) (option_map (λ d. l ∷ d) further)) (changed-nearest s v to agrees c)
    ∙ agrees l c (changed to c)

to-if : (b : Bool) (new l : Frame) (c : Context) (further : Option Context)
    → by_seen (target_if b) (Some (new ∷ c)) (option_map (λ d. l ∷ d) further) ≡ changed_by l c (if b then Here new else Past) further
to-if true new l c further = refl
to-if false new l c further = refl

lexical-to : (s : Bor Symbol) (v : Value) (l : Frame) (c : Context) (further : Option Context)
    → by_seen (sees (sought.Lexical s) l) (Some (with_value v l ∷ c)) (option_map (λ d. l ∷ d) further) ≡ changed_by l c (lexical_to s.now v l) further
lexical-to s v (frame.On (plain.Lexical x w)) c further = to-if (same_symbol x s.now) (frame.On (plain.Lexical x v)) (frame.On (plain.Lexical x w)) c further
lexical-to s v l c further = refl

pub lexical_bound : (s : Bor Symbol) (v : Value) (c : Context) → with_sought (sought.Lexical s) v c ≡ with_lexical s.now v c
lexical_bound s v c = changed-nearest (sought.Lexical s) v (lexical_to s.now v) (lexical-to s v) c

dynamic-to : (s : Bor Symbol) (v : Value) (l : Frame) (c : Context) (further : Option Context)
    → by_seen (sees (sought.Dynamic s) l) (Some (with_value v l ∷ c)) (option_map (λ d. l ∷ d) further) ≡ changed_by l c (dynamic_to s.now v l) further
dynamic-to s v (frame.On (plain.Dynamic x w)) c further = to-if (same_symbol x s.now) (frame.On (plain.Dynamic x v)) (frame.On (plain.Dynamic x w)) c further
dynamic-to s v l c further = refl

pub dynamic_bound : (s : Bor Symbol) (v : Value) (c : Context) → with_sought (sought.Dynamic s) v c ≡ with_dynamic s.now v c
dynamic_bound s v c = changed-nearest (sought.Dynamic s) v (dynamic_to s.now v) (dynamic-to s v) c
