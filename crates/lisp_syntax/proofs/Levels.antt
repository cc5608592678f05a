-- A value from its outermost part, and back.
use Rattle.std.proofs.Common.{◌≡◌, ℕ, List, sym, ap, ◌∙◌}
use Rattle.lisp_data.specs.declared.symbol.Symbol.{Symbol}
use Rattle.lisp_data.specs.declared.value.Value.{Value}
use Rattle.lisp_data.specs.declared.value.Value as value
use Rattle.lisp_data.specs.declared.value.Value.TheOpen.{Value-F}
use Rattle.lisp_data.specs.declared.value.Value.TheViews.{out-Value, roll-Value, roll-out-Value, out-roll-Value}
use Rattle.lisp_data.specs.declared.value.Value.TheVariants.{rolls-Str, rolls-Sym, rolls-List}

pub from-string : (v : Value) (text : List ℕ) → out-Value v ≡ Value-F.Str text → v ≡ value.Str text
from-string v text is = sym (roll-out-Value v) ∙ (ap roll-Value is ∙ rolls-Str text)

pub from-symbol : (v : Value) (s : Symbol) → out-Value v ≡ Value-F.Sym s → v ≡ value.Sym s
from-symbol v s is = sym (roll-out-Value v) ∙ (ap roll-Value is ∙ rolls-Sym s)

pub from-list : (v : Value) (items : List Value) → out-Value v ≡ Value-F.List items → v ≡ value.List items
from-list v items is = sym (roll-out-Value v) ∙ (ap roll-Value is ∙ rolls-List items)

pub out-string : (text : List ℕ) → out-Value (value.Str text) ≡ Value-F.Str text
out-string text = ap out-Value (sym (rolls-Str text)) ∙ out-roll-Value (Value-F.Str text)

pub out-symbol : (s : Symbol) → out-Value (value.Sym s) ≡ Value-F.Sym s
out-symbol s = ap out-Value (sym (rolls-Sym s)) ∙ out-roll-Value (Value-F.Sym s)

pub out-list : (items : List Value) → out-Value (value.List items) ≡ Value-F.List items
out-list items = ap out-Value (sym (rolls-List items)) ∙ out-roll-Value (Value-F.List items)
