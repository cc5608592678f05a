-- Contexts and the lists that are kept of them, which are their reverses.
use Rattle.std.proofs.Common.{◌≡◌, ⊎_elim, ℕ, zero, suc, ◌+◌, ◌<◌, ◌≤◌, Bool, true, false, List, [], ◌∷◌, ◌++◌, length, reverse, set, get_or, Some, None, refl, sym, ap, ◌∙◌, arith}
use Rattle.std.specs.Prelude.{if◌then◌else◌, ◌==◌, slice_get}
use Rattle.std.proofs.lemmas.Bool.{cases_eq, eq-eqb, ne_eqb}
use Rattle.std.proofs.lemmas.List.{length-reverse, reverse-append, reverse-reverse}
use Rattle.term_model.specs.declared.frame.Frame.{Frame}
use Rattle.term_model.specs.declared.frame.Frame.TheVariants as frame
use Rattle.term_model.specs.Room.{layers, levels}
use Rattle.term_model.specs.Search.{layer_at}
use Rattle.term_model.specs.Term.{Context}
use Rattle.lisp_frames.specs.declared.changes.Change.{Change}
use Rattle.lisp_frames.specs.declared.changes.Change.TheVariants as change
use Rattle.lisp_frames.specs.Stack.{at_place, by_change, changed_at}

-- ---- the frame that was pushed last is the innermost

pub reverse_push : {X : Type 0} (xs : List X) (x : X) → reverse (xs ++ x ∷ []) ≡ x ∷ reverse xs
reverse_push xs x = reverse-append xs (x ∷ [])

pub reverse-cons : {X : Type 0} (x : X) (xs : List X) → reverse (x ∷ xs) ≡ reverse xs ++ x ∷ []
reverse-cons x xs = ap reverse (ap (λ ys. x ∷ ys) (sym (reverse-reverse xs)) ∙ sym (reverse_push (reverse xs) x)) ∙ reverse-reverse (reverse xs ++ x ∷ [])

-- the frames as they are kept, by what contracts see
pub reverse_twice : (xs : List Frame) → xs ≡ reverse (reverse xs)
reverse_twice xs = sym (reverse-reverse xs)

pub layers_reverse : (xs : List Frame) → layers (reverse xs) ≡ length xs + 1
layers_reverse xs = ap (λ n. n + 1) (length-reverse xs)

-- ---- levels

-- a layer is a level, or none
pub levels-cons : (l : Frame) (c : Context) → levels (l ∷ c) ≡ levels c + levels (l ∷ [])
levels-cons (frame.On p) c = omega arith
levels-cons (frame.Protect k cleanup) c = omega arith
levels-cons (frame.Cleanup k saved) c = omega arith
levels-cons (frame.Rex i id form) c = omega arith
levels-cons (frame.Sldb n condition again) c = omega arith
levels-cons (frame.Ask kind tag) c = omega arith

pub one_level : (l : Frame) → levels (l ∷ []) ≤ 1
one_level (frame.On p) = omega arith
one_level (frame.Protect k cleanup) = omega arith
one_level (frame.Cleanup k saved) = omega arith
one_level (frame.Rex i id form) = omega arith
one_level (frame.Sldb n condition again) = omega arith
one_level (frame.Ask kind tag) = omega arith

pub levels_length : (c : Context) → levels c ≤ length c
levels_length [] = omega arith
levels_length (l ∷ c) = omega (arith, levels-cons l c, one_level l, levels_length c)

pub levels_push : (xs : List Frame) (l : Frame) → levels (reverse (xs ++ l ∷ [])) ≡ levels (reverse xs) + levels (l ∷ [])
levels_push xs l = ap levels (reverse_push xs l) ∙ levels-cons l (reverse xs)

pub levels_bound : (xs : List Frame) → levels (reverse xs) ≤ length xs
levels_bound xs = omega (arith, levels_length (reverse xs), length-reverse xs)

-- ---- the layer of a number

if_true : {X : Type 0} (b : Bool) (x y : X) → b ≡ true → (if b then x else y) ≡ x
if_true true x y e = refl
if_true false x y e = absurd (cc)

if_false : {X : Type 0} (b : Bool) (x y : X) → b ≡ false → (if b then x else y) ≡ y
if_false false x y e = refl
if_false true x y e = absurd (cc)

pub layer_here : (n : ℕ) (l : Frame) (c : Context) → n ≡ length c + 1 → layer_at n (l ∷ c) ≡ Some l
layer_here n l c e = if_true (n == length c + 1) (Some l) (layer_at n c) (eq-eqb n (length c + 1) e)

pub layer_past : (n : ℕ) (l : Frame) (c : Context) → (n ≡ length c + 1 → ⊥) → layer_at n (l ∷ c) ≡ layer_at n c
layer_past n l c ne = if_false (n == length c + 1) (Some l) (layer_at n c) (ne_eqb n (length c + 1) ne)

pub layer_at_zero : (c : Context) → layer_at 0 c ≡ None
layer_at_zero [] = refl
layer_at_zero (l ∷ c) = layer_past 0 l c (λ e. omega arith) ∙ layer_at_zero c

pub changed_here : (n : ℕ) (change : Frame → Frame) (l : Frame) (c : Context) → n ≡ length c + 1 → changed_at n change (l ∷ c) ≡ change l ∷ c
changed_here n change l c e = if_true (n == length c + 1) (change l ∷ c) (l ∷ changed_at n change c) (eq-eqb n (length c + 1) e)

pub changed_past : (n : ℕ) (change : Frame → Frame) (l : Frame) (c : Context) → (n ≡ length c + 1 → ⊥) → changed_at n change (l ∷ c) ≡ l ∷ changed_at n change c
changed_past n change l c ne = if_false (n == length c + 1) (change l ∷ c) (l ∷ changed_at n change c) (ne_eqb n (length c + 1) ne)

pub changed_at_zero : (change : Frame → Frame) (c : Context) → changed_at 0 change c ≡ c
changed_at_zero change [] = refl
changed_at_zero change (l ∷ c) = changed_past 0 change l c (λ e. omega arith) ∙ ap (λ d. l ∷ d) (changed_at_zero change c)

get_here : {X : Type 0} (xs : List X) (x : X) (k : ℕ) → k ≡ length xs → slice_get (xs ++ x ∷ []) k ≡ Some x
get_here [] x zero e = refl
get_here [] x (suc k) e = absurd (omega arith)
get_here (y ∷ xs) x zero e = absurd (omega arith)
get_here (y ∷ xs) x (suc k) e = get_here xs x k (omega arith)

get_there : {X : Type 0} (xs : List X) (x : X) (k : ℕ) → (k ≡ length xs → ⊥) → slice_get (xs ++ x ∷ []) k ≡ slice_get xs k
get_there [] x zero ne = absurd (ne refl)
get_there [] x (suc k) ne = refl
get_there (y ∷ xs) x zero ne = refl
get_there (y ∷ xs) x (suc k) ne = get_there xs x k (λ e. ne (omega arith))

layer_at-list : (c : Context) (k : ℕ) → slice_get (reverse c) k ≡ layer_at (k + 1) c
layer_at-list [] k = refl
layer_at-list (l ∷ c) k =
    ap (λ xs. slice_get xs k) (reverse-cons l c)
    ∙ ⊎_elim (λ (e : k ≡ length c). get_here (reverse c) l k (omega (arith, length-reverse c)) ∙ sym (layer_here (k + 1) l c (omega arith)))
    (λ (ne : k ≡ length c → ⊥). get_there (reverse c) l k (λ e. ne (omega (arith, length-reverse c))) ∙ layer_at-list c k ∙ sym (layer_past (k + 1) l c (λ e. ne (omega arith))))
    (cases_eq k (length c))

-- the layers of a context, by their places in the list that is kept
pub layer_at-reverse : (xs : List Frame) (k : ℕ) → layer_at (k + 1) (reverse xs) ≡ slice_get xs k
layer_at-reverse xs k = sym (layer_at-list (reverse xs) k) ∙ ap (λ ys. slice_get ys k) (reverse-reverse xs)

pub layer_at_place : (xs : List Frame) (n k : ℕ) → n ≡ k + 1 → layer_at n (reverse xs) ≡ slice_get xs k
layer_at_place xs n k e = ap (λ m. layer_at m (reverse xs)) e ∙ layer_at-reverse xs k

-- ---- a change of one layer

place_here : (xs : List Frame) (x : Frame) (change : Frame → Frame) (k : ℕ) → k ≡ length xs → at_place k change (xs ++ x ∷ []) ≡ xs ++ change x ∷ []
place_here [] x change zero e = refl
place_here [] x change (suc k) e = absurd (omega arith)
place_here (y ∷ xs) x change zero e = absurd (omega arith)
place_here (y ∷ xs) x change (suc k) e = ap (λ ys. y ∷ ys) (place_here xs x change k (omega arith))

place_there : (xs : List Frame) (x : Frame) (change : Frame → Frame) (k : ℕ) → (k ≡ length xs → ⊥) → at_place k change (xs ++ x ∷ []) ≡ at_place k change xs ++ x ∷ []
place_there [] x change zero ne = absurd (ne refl)
place_there [] x change (suc k) ne = refl
place_there (y ∷ xs) x change zero ne = refl
place_there (y ∷ xs) x change (suc k) ne = ap (λ ys. y ∷ ys) (place_there xs x change k (λ e. ne (omega arith)))

changed_at-list : (c : Context) (change : Frame → Frame) (k : ℕ) → at_place k change (reverse c) ≡ reverse (changed_at (k + 1) change c)
changed_at-list [] change k = refl
changed_at-list (l ∷ c) change k =
    ap (at_place k change) (reverse-cons l c)
    ∙ ⊎_elim (λ (e : k ≡ length c). place_here (reverse c) l change k (omega (arith, length-reverse c)) ∙ sym (reverse-cons (change l) c) ∙ ap reverse (sym (changed_here (k + 1) change l c (omega arith))))
    (λ (ne : k ≡ length c → ⊥). place_there (reverse c) l change k (λ e. ne (omega (arith, length-reverse c))) ∙ ap (λ ys. ys ++ l ∷ []) (changed_at-list c change k)
    ∙ sym (reverse-cons l (changed_at (k + 1) change c)) ∙ ap reverse (sym (changed_past (k + 1) change l c (λ e. ne (omega arith)))))
    (cases_eq k (length c))

-- a change in the list that is kept changes that layer of the context
pub changed_at-reverse : (xs : List Frame) (change : Frame → Frame) (k : ℕ) → reverse (at_place k change xs) ≡ changed_at (k + 1) change (reverse xs)
changed_at-reverse xs change k =
    ap (λ ys. reverse (at_place k change ys)) (sym (reverse-reverse xs)) ∙ ap reverse (changed_at-list (reverse xs) change k) ∙ reverse-reverse (changed_at (k + 1) change (reverse xs))

pub changed_at_place : (xs : List Frame) (change : Frame → Frame) (n k : ℕ) → n ≡ k + 1 → changed_at n change (reverse xs) ≡ reverse (at_place k change xs)
changed_at_place xs change n k e = ap (λ m. changed_at m change (reverse xs)) e ∙ sym (changed_at-reverse xs change k)

-- writing the changed layer to its place
pub set-at_place : (xs : List Frame) (change : Frame → Frame) (k : ℕ) (d : Frame) → k < length xs → set xs k (change (get_or xs k d)) ≡ at_place k change xs
set-at_place [] change k d h = absurd (omega arith)
set-at_place (x ∷ xs) change zero d h = refl
set-at_place (x ∷ xs) change (suc k) d h = ap (λ ys. x ∷ ys) (set-at_place xs change k d (omega arith))

pub set_changed : (xs : List Frame) (change : Frame → Frame) (k : ℕ) (x y : Frame) → k < length xs → x ≡ get_or xs k x → y ≡ change x → set xs k y ≡ at_place k change xs
set_changed xs change k x y h e made = ap (set xs k) (made ∙ ap change e) ∙ set-at_place xs change k x h

pub at_place-past : (xs : List Frame) (change : Frame → Frame) (k : ℕ) → length xs ≤ k → at_place k change xs ≡ xs
at_place-past [] change k h = refl
at_place-past (x ∷ xs) change zero h = absurd (omega arith)
at_place-past (x ∷ xs) change (suc k) h = ap (λ ys. x ∷ ys) (at_place-past xs change k (omega arith))

changed_if : (b : Bool) (l m : Frame) (c d : Context) → levels (m ∷ []) ≡ levels (l ∷ []) → levels d ≡ levels c → levels (if b then m ∷ c else l ∷ d) ≡ levels (l ∷ c)
changed_if true l m c d same rest = levels-cons m c ∙ ap (λ n. levels c + n) same ∙ sym (levels-cons l c)
changed_if false l m c d same rest = levels-cons l d ∙ ap (λ n. n + levels (l ∷ [])) rest ∙ sym (levels-cons l c)

-- a change of a layer that leaves it a level, or none, changes no number of levels
pub levels_changed_at : (n : ℕ) (change : Frame → Frame) (c : Context) → ((l : Frame) → levels (change l ∷ []) ≡ levels (l ∷ [])) → levels (changed_at n change c) ≡ levels c
levels_changed_at n change [] same = refl
levels_changed_at n change (l ∷ c) same = changed_if (n == length c + 1) l (change l) c (changed_at n change c) (same l) (levels_changed_at n change c same)

by_change-level : (m : Change) (l : Frame) → levels (by_change m l ∷ []) ≡ levels (l ∷ [])
by_change-level (change.Again again) (frame.Sldb n condition told) = refl
by_change-level (change.Again again) l = refl
by_change-level (change.Value v) (frame.On p) = refl
by_change-level (change.Value v) l = refl

-- none of the changes opens or closes a level
pub levels_at_place : (xs : List Frame) (m : Change) (k : ℕ) → levels (reverse (at_place k (by_change m) xs)) ≡ levels (reverse xs)
levels_at_place xs m k = ap levels (changed_at-reverse xs (by_change m) k) ∙ levels_changed_at (k + 1) (by_change m) (reverse xs) (by_change-level m)
