-- Going in while there is room.
use Rattle.std.proofs.Common.{◌≡◌, ◌↔◌, IsTrue, suc, ◌<◌, ◌≤◌, Bool, true, false, List, [], ◌∷◌, None, refl, ap, ◌∙◌, arith}
use Rattle.std.proofs.lemmas.Bool.{leb-false, leb-true}
use Rattle.syntax_trees.specs.declared.ast.Ast.{Ast}
use Rattle.term_model.specs.declared.found.Found.{Found}
use Rattle.term_model.specs.declared.found.Found.TheVariants.{Already, Here, Inside}
use Rattle.term_model.specs.declared.frame.Frame.TheVariants as frame
use Rattle.term_model.specs.declared.plain.Plain.{Plain}
use Rattle.term_model.specs.declared.plain.Plain.TheVariants as plain
use Rattle.term_model.specs.GoingIn.{look}
use Rattle.term_model.specs.Progress.{Progress}
use Rattle.term_model.specs.Room.{enter, layers, levels, limit, room, wrap}
use Rattle.term_model.specs.Term.{Context}
use Rattle.lisp_frames.specs.Resumed.{last_laid}
use Rattle.lisp_frames.specs.Stack.{is_full}

-- a context that isn't full has room for a plain layer
room_suc : (p : Plain) (c : Context) → is_full c ≡ false → room c ≡ suc (room (frame.On p ∷ c))
room_suc p c e = let h : layers c < limit (levels c) = leb-false (limit (levels c)) (layers c) e in omega arith

room_none : (c : Context) → is_full c ≡ true → room c ≡ 0
room_none c e = let h : limit (levels c) ≤ layers c = leb-true (limit (levels c)) (layers c) e in omega arith

pub room_smaller : (p : Plain) (c : Context) → is_full c ≡ false → room (frame.On p ∷ c) < room c
room_smaller p c e = let h = room_suc p c e in omega arith

pub enter_inside : (p : Progress) (e : Ast) (c : Context) → is_full c ≡ false → enter (room c) c (Inside p e) ≡ enter (room (frame.On (plain.Form p) ∷ c)) (frame.On (plain.Form p) ∷ c) (look e)
enter_inside p e c h = ap (λ n. enter n c (Inside p e)) (room_suc (plain.Form p) c h)

pub enter_full : (p : Progress) (e : Ast) (c : Context) → is_full c ≡ true → enter (room c) c (Inside p e) ≡ record { around = c; redex = None }
enter_full p e c h = ap (λ n. enter n c (Inside p e)) (room_none c h)

pub wrap_inside : (p : Plain) (ps : List Plain) (f : Found) (c : Context) → is_full c ≡ false → wrap (room c) c (p ∷ ps) f ≡ wrap (room (frame.On p ∷ c)) (frame.On p ∷ c) ps f
wrap_inside p ps f c h = ap (λ n. wrap n c (p ∷ ps) f) (room_suc p c h)

wrap_zero : (p : Plain) (ps : List Plain) (f : Found) (c : Context) (b : Bool) → (IsTrue b ↔ (ps ≡ [])) → wrap 0 c (p ∷ ps) f ≡ last_laid p b c f
wrap_zero p [] (Already v) c true h = refl
wrap_zero p [] (Already v) c false h = let last : false ≡ true = h.1 refl in absurd (cc)
wrap_zero p [] (Here g) c true h = refl
wrap_zero p [] (Here g) c false h = refl
wrap_zero p [] (Inside q a) c true h = refl
wrap_zero p [] (Inside q a) c false h = refl
wrap_zero p (q ∷ ps) f c true h = let none = h.0 refl in absurd (cc)
wrap_zero p (q ∷ ps) (Already v) c false h = refl
wrap_zero p (q ∷ ps) (Here g) c false h = refl
wrap_zero p (q ∷ ps) (Inside r a) c false h = refl

-- where there is no room, the next marker stands only where it is the last and holds a value
pub wrap_full : (p : Plain) (ps : List Plain) (f : Found) (c : Context) (b : Bool) → (IsTrue b ↔ (ps ≡ [])) → is_full c ≡ true → wrap (room c) c (p ∷ ps) f ≡ last_laid p b c f
wrap_full p ps f c b h full = ap (λ n. wrap n c (p ∷ ps) f) (room_none c full) ∙ wrap_zero p ps f c b h
