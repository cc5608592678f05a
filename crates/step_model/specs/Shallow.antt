-- Forms with few forms inside one another: going into them takes few layers.
use Rattle.std.specs.Prelude.{ℕ, zero, suc, ◌+◌, Bool, true, false, ◌&&◌, List}
use Rattle.std.specs.List.{list_all}
use Rattle.syntax_trees.specs.Places.{forms_of}
use Rattle.syntax_trees.specs.declared.ast.Ast.{Ast}
use Rattle.term_model.specs.declared.focus.Focus.{Focus}
use Rattle.term_model.specs.declared.focus.Focus.TheVariants as focus
use Rattle.term_model.specs.declared.frame.Frame.{Frame}
use Rattle.term_model.specs.declared.frame.Frame.TheVariants as frame
use Rattle.term_model.specs.declared.plain.Plain.TheVariants as plain
use Rattle.term_model.specs.Room.{room}
use Rattle.term_model.specs.Term.{Context}

-- whether at most k forms stand inside one another, this one among them
abbrev pub is_shallow : ℕ → Ast → Bool
is_shallow zero a = false
is_shallow (suc k) a = list_all (is_shallow k) (forms_of a)

abbrev pub are_shallow : ℕ → List Ast → Bool
are_shallow k es = list_all (is_shallow k) es

-- whether the forms are that a layer still goes into
abbrev pub is_layer_shallow : ℕ → Frame → Bool
is_layer_shallow k (frame.On (plain.Form p)) = are_shallow k p.rest
is_layer_shallow k l = true

-- whether those are that a listed redex goes into
abbrev pub is_redex_shallow : ℕ → Focus → Bool
is_redex_shallow k (focus.Form p) = are_shallow k p.rest
is_redex_shallow k (focus.Loop es) = are_shallow k es
is_redex_shallow k (focus.DoTimes x i count es) = are_shallow k es
is_redex_shallow k (focus.DoList x i list es) = are_shallow k es
is_redex_shallow k f = true

abbrev pub has_shallow_forms : ℕ → Context → Focus → Bool
has_shallow_forms k c f = list_all (is_layer_shallow k) c && is_redex_shallow k f

-- how many layers are left below the limit. The marker that is directly around an outcome is part of the redex
abbrev pub layers_left : Context → Focus → ℕ
layers_left c (focus.Given o) = room c + 1
layers_left c f = room c
