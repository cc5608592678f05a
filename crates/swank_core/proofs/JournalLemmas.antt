-- Journals whose last entry is, or isn't, a drain.
use Rattle.std.proofs.Common.{◌≡◌, true, false, List, [], ◌∷◌, ◌++◌, Option, Some, None, refl, sym, ◌∙◌, append-nil}
use Rattle.std.specs.Prelude.{option_to_list, IfSome}
use Rattle.session_model.specs.declared.event.Entry.{Entry}
use Rattle.swank_core.specs.Drains.{ends_with_drain, is_drain}

pub ends_with_last : (j : List Entry) (e : Entry) → ends_with_drain (j ++ e ∷ []) ≡ is_drain e.event
ends_with_last [] e = refl
ends_with_last (x ∷ []) e = refl
ends_with_last (x ∷ y ∷ j) e = ends_with_last (y ∷ j) e

-- where the last entry is no drain, none stands apart
pub none_apart : (j : List Entry) (drain : Option Entry) → IfSome drain (λ last. is_drain last.event ≡ true) → ends_with_drain (j ++ option_to_list drain) ≡ false → j ++ option_to_list drain ≡ j
none_apart j None is apart = append-nil j
none_apart j (Some e) is apart = absurd (no (sym is ∙ sym (ends_with_last j e) ∙ apart))
  where
    no : true ≡ false → ⊥
    no e = absurd (cc)
