-- The place of the restart that is found is its layer's number and its place there.
use Rattle.std.proofs.Common.{◌≡◌, ℕ, ◌+◌, Bool, true, false, ℤ, List, [], ◌∷◌, ◌++◌, length, reverse, refl, sym, ap, ◌∙◌, codes, Option, Some, None}
use Rattle.std.specs.Prelude.{◌&&◌, if◌then◌else◌, option_map}
use Rattle.std.specs.Str.{bytes_eq}
use Rattle.std.specs.Bool.{one_answer}
use Rattle.std.proofs.lemmas.List.{reverse-reverse}
use Rattle.std.proofs.lemmas.Slice.Eq.{bytes_eq-Decides}
use Rattle.lisp_data.specs.Symbols.{is_of_common_lisp, names}
use Rattle.lisp_data.specs.Same.{same_symbol}
use Rattle.lisp_data.specs.declared.sexp.Sexp.{Sexp}
use Rattle.lisp_data.specs.declared.symbol.Symbol.{Symbol}
use Rattle.lisp_data.specs.declared.value.Value.{Value}
use Rattle.lisp_frames.specs.Stack.{innermost}
use Rattle.term_model.specs.declared.frame.Frame.{Frame}
use Rattle.term_model.specs.declared.frame.Frame.TheVariants as frame
use Rattle.term_model.specs.declared.kept.Leaving.{Leaving}
use Rattle.term_model.specs.declared.plain.Plain.{Plain}
use Rattle.term_model.specs.declared.plain.Plain.TheVariants as plain
use Rattle.term_model.specs.declared.restart.Offer.{Offer}
use Rattle.term_model.specs.declared.restart.Restart.{Restart}
use Rattle.term_model.specs.Restarts.{abort, abort_exit, find_restart, first_named, invoked, invoking, level_restart, numbered, offered, or_to_top, top_restart, visible}
use Rattle.term_model.specs.Term.{Context}
use Rattle.conditions_restarts.specs.Places.{find_place, named_from, offered_in, or_further, place_of, served_in, top_place}
use Rattle.conditions_restarts.specs.declared.places.RestartPlace.{RestartPlace}

-- ---- the name ABORT

same_both : (a b : List ℕ) → bytes_eq a b ≡ bytes_eq b a
same_both a b = one_answer (bytes_eq a b) (bytes_eq b a) (bytes_eq-Decides a b) ((λ h. sym ((bytes_eq-Decides b a).0 h)), (λ p. (bytes_eq-Decides b a).1 (sym p)))

named_abort : (name : Symbol) → names name (codes "ABORT") ≡ same_symbol abort name
named_abort name =
    ap (λ b. b && bytes_eq name.name (codes "ABORT")) (same_both name.home (codes "COMMON-LISP"))
    ∙ ap (λ b. bytes_eq (codes "COMMON-LISP") name.home && b) (same_both name.name (codes "ABORT"))

-- ---- one layer

abbrev Found : Type 0
Found = Option RestartPlace

-- the restart of a name among these, or further out
abbrev found_in : Symbol → List Restart → List Restart → Found
found_in name rs further = option_map place_of (first_named name (rs ++ further))

numbered_if : (n i : ℕ) (o : Offer) (name : Symbol) (os : List Offer) (further : List Restart) (b : Bool)
    → found_in name (numbered n (i + 1) os) further ≡ or_further n (named_from name (i + 1) os) (option_map place_of (first_named name further))
    → option_map place_of (if b then Some (record { name = o.name; text = o.text; at = n; number = i }) else first_named name (numbered n (i + 1) os ++ further)) ≡ or_further n (if b then Some i else named_from name (i + 1) os) (option_map place_of (first_named name further))
numbered_if n i o name os further true h = refl
numbered_if n i o name os further false h = h

numbered_found : (name : Symbol) (n i : ℕ) (os : List Offer) (further : List Restart) → found_in name (numbered n i os) further ≡ or_further n (named_from name i os) (option_map place_of (first_named name further))
numbered_found name n i [] further = refl
numbered_found name n i (o ∷ os) further = numbered_if n i o name os further (same_symbol o.name name) (numbered_found name n (i + 1) os further)

level_if : (n k : ℕ) (name : Symbol) (further : List Restart) (b : Bool)
    → option_map place_of (if b then Some (level_restart n k) else first_named name further) ≡ or_further n (if b then Some 0 else None) (option_map place_of (first_named name further))
level_if n k name further true = refl
level_if n k name further false = refl

level_found : (name : Symbol) (n k : ℕ) (further : List Restart) → found_in name (level_restart n k ∷ []) further ≡ or_further n (if names name (codes "ABORT") then Some 0 else None) (option_map place_of (first_named name further))
level_found name n k further =
    level_if n k name further (same_symbol abort name)
    ∙ ap (λ b. or_further n (if b then Some 0 else None) (option_map place_of (first_named name further))) (sym (named_abort name))

served_found : (name : Symbol) (n i : ℕ) (id : ℤ) (form : Sexp) (c : Context) (further : List Restart) → found_in name (offered n (frame.Rex i id form) c) further ≡ or_further n (served_in name (innermost c)) (option_map place_of (first_named name further))
served_found name n i id form [] further = refl
served_found name n i id form (frame.Sldb k condition again ∷ c) further = level_found name n k further
served_found name n i id form (frame.On p ∷ c) further = refl
served_found name n i id form (frame.Protect k cleanup ∷ c) further = refl
served_found name n i id form (frame.Cleanup k saved ∷ c) further = refl
served_found name n i id form (frame.Rex j other request ∷ c) further = refl
served_found name n i id form (frame.Ask kind tag ∷ c) further = refl

plain_found : (name : Symbol) (n : ℕ) (p : Plain) (c : Context) (further : List Restart) → found_in name (offered n (frame.On p) c) further ≡ or_further n (offered_in name (frame.On p) (innermost c)) (option_map place_of (first_named name further))
plain_found name n (plain.Restarts os) c further = numbered_found name n 0 os further
plain_found name n (plain.Form p) c further = refl
plain_found name n (plain.Before f) c further = refl
plain_found name n (plain.Map f list next collected) c further = refl
plain_found name n (plain.Call f vs) c further = refl
plain_found name n plain.Eval c further = refl
plain_found name n (plain.Lexical x v) c further = refl
plain_found name n (plain.Dynamic x v) c further = refl
plain_found name n (plain.Block x) c further = refl
plain_found name n (plain.Catch v) c further = refl
plain_found name n (plain.Handlers cluster) c further = refl
plain_found name n (plain.Handling layer index) c further = refl
plain_found name n (plain.Answer kept) c further = refl

layer_found : (name : Symbol) (n : ℕ) (l : Frame) (c : Context) (further : List Restart) → found_in name (offered n l c) further ≡ or_further n (offered_in name l (innermost c)) (option_map place_of (first_named name further))
layer_found name n (frame.On p) c further = plain_found name n p c further
layer_found name n (frame.Rex i id form) c further = served_found name n i id form c further
layer_found name n (frame.Protect k cleanup) c further = refl
layer_found name n (frame.Cleanup k saved) c further = refl
layer_found name n (frame.Sldb k condition again) c further = refl
layer_found name n (frame.Ask kind tag) c further = refl

-- ---- all of them

top_if : (b : Bool) → option_map place_of (if b then Some top_restart else None) ≡ (if b then Some (record { layer = 0; number = 0 }) else None)
top_if true = refl
top_if false = refl

top_found : (name : Symbol) → option_map place_of (first_named name (top_restart ∷ [])) ≡ top_place name
top_found name = top_if (same_symbol abort name) ∙ ap (λ b. if b then Some (record { layer = 0; number = 0 }) else None) (sym (named_abort name))

found : (name : Symbol) (c : Context) → option_map place_of (find_restart name c) ≡ find_place name c
found name [] = top_found name
found name (l ∷ c) =
    layer_found name (length c + 1) l c (visible c)
    ∙ ap (or_further (length c + 1) (offered_in name l (innermost c))) (found name c)

-- over the layers as they are kept, the outermost first
pub restart_found : (name : Symbol) (c : Context) → find_place name (reverse (reverse c)) ≡ option_map place_of (find_restart name c)
restart_found name c = ap (find_place name) (reverse-reverse c) ∙ sym (found name c)

-- ---- leaving by ABORT

abbrev by_place : Context → Found → Option Leaving
by_place c None = None
by_place c (Some p) = invoked p.layer p.number [] c

invoked_by_place : (c : Context) (r : Option Restart) → invoking r [] c ≡ by_place c (option_map place_of r)
invoked_by_place c None = refl
invoked_by_place c (Some r) = refl

-- the exit by ABORT goes by the place that was found
pub abort_by_place : (c : Context) (place : Found) → place ≡ option_map place_of (find_restart abort c) → abort_exit c ≡ or_to_top (by_place c place)
abort_by_place c place e = ap or_to_top (invoked_by_place c (find_restart abort c)) ∙ ap (λ p. or_to_top (by_place c p)) (sym e)
