-- While a handler runs, the handlers in force are those that were in force around its cluster.
use Rattle.std.proofs.Common.{◌≡◌, ℕ, suc, ◌+◌, ◌-◌, ◌<◌, ◌≤◌, Bool, true, false, [], ◌∷◌, ◌++◌, length, refl, sym, ap, ◌∙◌, arith}
use Rattle.std.specs.Prelude.{if◌then◌else◌, ◌==◌, drop}
use Rattle.std.proofs.lemmas.Bool.{false≢true, eqb-true, le-ltb, lt-ltb}
use Rattle.term_model.specs.declared.frame.Frame.{Frame}
use Rattle.term_model.specs.declared.frame.Frame.TheVariants as frame
use Rattle.term_model.specs.declared.plain.Cluster.{Cluster}
use Rattle.term_model.specs.declared.plain.Plain.TheVariants as plain
use Rattle.term_model.specs.Handlers.{handlers_of, in_force, in_force_from, of_layer, past_mark, placed}
use Rattle.term_model.specs.Search.{outside}
use Rattle.term_model.specs.Term.{Context}
use Rattle.step_model.specs.Facts.{are_handlers, named_in, names_handlers}

counted : (k n : ℕ) (cluster : Cluster) → n ≤ k → of_layer k n cluster ≡ placed n 0 (handlers_of cluster)
counted k n cluster h = ap (λ b. if b then [] else placed n 0 (handlers_of cluster)) (le-ltb k n h)

uncounted : (k n : ℕ) (cluster : Cluster) → k < n → of_layer k n cluster ≡ []
uncounted k n cluster h = ap (λ b. if b then [] else placed n 0 (handlers_of cluster)) (lt-ltb k n h)

mark_counted : (k n p : ℕ) → n ≤ k → past_mark k n p ≡ p - 1
mark_counted k n p h = ap (λ b. if b then k else p - 1) (le-ltb k n h)

mark_uncounted : (k n p : ℕ) → k < n → past_mark k n p ≡ k
mark_uncounted k n p h = ap (λ b. if b then k else p - 1) (lt-ltb k n h)

-- where all layers count, the number says no more
all_count : (k m : ℕ) (c : Context) → length c ≤ k → length c ≤ m → in_force_from k c ≡ in_force_from m c
all_count k m [] h g = refl
all_count k m (frame.Sldb n condition again ∷ c) h g = refl
all_count k m (frame.On (plain.Handlers cluster) ∷ c) h g =
    let kn : length c + 1 ≤ k = omega (arith, h) in
    let mn : length c + 1 ≤ m = omega (arith, g) in
    ap (λ hs. hs ++ in_force_from k c) (counted k (length c + 1) cluster kn ∙ sym (counted m (length c + 1) cluster mn))
    ∙ ap (λ hs. of_layer m (length c + 1) cluster ++ hs) (all_count k m c (omega (arith, h)) (omega (arith, g)))
all_count k m (frame.On (plain.Handling p j) ∷ c) h g =
    ap (λ q. in_force_from q c) (mark_counted k (length c + 1) p (omega (arith, h)) ∙ sym (mark_counted m (length c + 1) p (omega (arith, g))))
all_count k m (frame.On p ∷ c) h g = all_count k m c (omega (arith, h)) (omega (arith, g))
all_count k m (frame.Protect serial cleanup ∷ c) h g = all_count k m c (omega (arith, h)) (omega (arith, g))
all_count k m (frame.Cleanup serial kept ∷ c) h g = all_count k m c (omega (arith, h)) (omega (arith, g))
all_count k m (frame.Rex i id form ∷ c) h g = all_count k m c (omega (arith, h)) (omega (arith, g))
all_count k m (frame.Ask kind tag ∷ c) h g = all_count k m c (omega (arith, h)) (omega (arith, g))

-- a layer that doesn't count is passed, unless it is a level
abbrev is_level : Frame → Bool
is_level (frame.Sldb n condition again) = true
is_level _ = false

passed : (k : ℕ) (l : Frame) (c : Context) → k < length c + 1 → is_level l ≡ false → in_force_from k (l ∷ c) ≡ in_force_from k c
passed k (frame.Sldb n condition again) c h e = absurd (false≢true (sym e))
passed k (frame.On (plain.Handlers cluster)) c h e = ap (λ hs. hs ++ in_force_from k c) (uncounted k (length c + 1) cluster h)
passed k (frame.On (plain.Handling p j)) c h e = ap (λ q. in_force_from q c) (mark_uncounted k (length c + 1) p h)
passed k (frame.On p) c h e = refl
passed k (frame.Protect serial cleanup) c h e = refl
passed k (frame.Cleanup serial kept) c h e = refl
passed k (frame.Rex i id form) c h e = refl
passed k (frame.Ask kind tag) c h e = refl

handlers_no_level : (l : Frame) → are_handlers l ≡ true → is_level l ≡ false
handlers_no_level (frame.Sldb n condition again) e = absurd (false≢true e)
handlers_no_level (frame.On p) e = refl
handlers_no_level (frame.Protect serial cleanup) e = refl
handlers_no_level (frame.Cleanup serial kept) e = refl
handlers_no_level (frame.Rex i id form) e = refl
handlers_no_level (frame.Ask kind tag) e = refl

further_no_level : (l : Frame) (further : Bool) → named_in false l further ≡ true → (is_level l ≡ false) × (further ≡ true)
further_no_level (frame.Sldb n condition again) further e = absurd (false≢true e)
further_no_level (frame.On p) further e = (refl, e)
further_no_level (frame.Protect serial cleanup) further e = (refl, e)
further_no_level (frame.Cleanup serial kept) further e = (refl, e)
further_no_level (frame.Rex i id form) further e = (refl, e)
further_no_level (frame.Ask kind tag) further e = (refl, e)

-- a layer that is named is one of the context
named_within_by : (p : ℕ) (l : Frame) (c : Context) (x : Bool) → (p == length c + 1) ≡ x → (names_handlers p c ≡ true → (1 ≤ p) × (p ≤ length c)) → named_in x l (names_handlers p c) ≡ true → (1 ≤ p) × (p ≤ length c + 1)
named_within_by p l c true e go h = let at : p ≡ length c + 1 = eqb-true p (length c + 1) e in (omega (arith, at), omega (arith, at))
named_within_by p l c false e go h = let g = go (further_no_level l (names_handlers p c) h).1 in (g.0, omega (arith, g.1))

named_within : (p : ℕ) (c : Context) → names_handlers p c ≡ true → (1 ≤ p) × (p ≤ length c)
named_within p [] h = absurd (false≢true h)
named_within p (l ∷ c) h = let g = named_within_by p l c (p == length c + 1) refl (λ f. named_within p c f) h in (g.0, omega (arith, g.1))

outside_further : (p : ℕ) (l : Frame) (c : Context) → p ≤ length c → outside p (l ∷ c) ≡ outside p c
outside_further p l c h = let e : suc (length c) - (p - 1) ≡ suc (length c - (p - 1)) = omega (arith, h) in ap (λ n. drop n (l ∷ c)) e

outside_here : (p : ℕ) (l : Frame) (c : Context) → p ≡ length c + 1 → outside p (l ∷ c) ≡ c
outside_here p l c h = let e : suc (length c) - (p - 1) ≡ suc 0 = omega (arith, h) in ap (λ n. drop n (l ∷ c)) e

running_by : (p : ℕ) (l : Frame) (c : Context) (x : Bool) → (p == length c + 1) ≡ x → (names_handlers p c ≡ true → in_force_from (p - 1) c ≡ in_force (outside p c)) → named_in x l (names_handlers p c) ≡ true → in_force_from (p - 1) (l ∷ c) ≡ in_force (outside p (l ∷ c))
running_by p l c true e go h =
    let at : p ≡ length c + 1 = eqb-true p (length c + 1) e in
    passed (p - 1) l c (omega (arith, at)) (handlers_no_level l h)
    ∙ all_count (p - 1) (length c) c (omega (arith, at)) (omega arith)
    ∙ ap in_force (sym (outside_here p l c at))
running_by p l c false e go h =
    let more = further_no_level l (names_handlers p c) h in
    let within = named_within p c more.1 in
    passed (p - 1) l c (omega (arith, within.0, within.1)) more.0 ∙ go more.1 ∙ ap in_force (sym (outside_further p l c within.1))

running : (p : ℕ) (c : Context) → names_handlers p c ≡ true → in_force_from (p - 1) c ≡ in_force (outside p c)
running p [] h = absurd (false≢true h)
running p (l ∷ c) h = running_by p l c (p == length c + 1) refl (λ f. running p c f) h

pub running_handler : (p j : ℕ) (c : Context) → names_handlers p c ≡ true → in_force (frame.On (plain.Handling p j) ∷ c) ≡ in_force (outside p c)
running_handler p j c h =
    let all : length c + 1 ≤ suc (length c) = omega arith in ap (λ q. in_force_from q c) (mark_counted (suc (length c)) (length c + 1) p all) ∙ running p c h

pub cluster_first : (cluster : Cluster) (c : Context) → in_force (frame.On (plain.Handlers cluster) ∷ c) ≡ placed (length c + 1) 0 (handlers_of cluster) ++ in_force c
cluster_first cluster c =
    let all : length c + 1 ≤ suc (length c) = omega arith in
    ap (λ hs. hs ++ in_force_from (suc (length c)) c) (counted (suc (length c)) (length c + 1) cluster all)
    ∙ ap (λ hs. placed (length c + 1) 0 (handlers_of cluster) ++ hs) (all_count (suc (length c)) (length c) c (omega arith) (omega arith))
