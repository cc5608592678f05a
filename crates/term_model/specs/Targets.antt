-- The targets of `return-from` and `throw`, as numbers of layers (HyperSpec 5.2 and 5.3, BLOCK and CATCH).
use Rattle.std.specs.Prelude.{ℕ, if◌then◌else◌, Option}
use Rattle.lisp_data.specs.declared.symbol.Symbol.{Symbol}
use Rattle.lisp_data.specs.declared.value.Value.{Value}
use Rattle.term_model.specs.declared.frame.Frame.{Frame}
use Rattle.term_model.specs.declared.frame.Frame.TheVariants as frame
use Rattle.term_model.specs.declared.plain.Plain.TheVariants as plain
use Rattle.lisp_data.specs.Same.{same_symbol, same_value}
use Rattle.term_model.specs.Search.{Sight, Here, Ends, Past, nearest}
use Rattle.term_model.specs.Term.{Context}

-- what a layer says of a block of this name: blocks are seen as lexical variables are
abbrev pub block_in : Symbol → ℕ → Frame → Sight ℕ
block_in name n (frame.On (plain.Block x)) = if same_symbol x name then Here n else Past
block_in name n (frame.On (plain.Call f vs)) = Ends
block_in name n (frame.On plain.Eval) = Ends
block_in name n (frame.Rex i id form) = Ends
block_in name n _ = Past

-- the nearest block of this name
abbrev pub find_block : Symbol → Context → Option ℕ
find_block name c = nearest (block_in name) c

-- what a layer says of a catch with this tag
abbrev pub catch_in : Value → ℕ → Frame → Sight ℕ
catch_in tag n (frame.On (plain.Catch v)) = if same_value v tag then Here n else Past
catch_in tag n _ = Past

-- the newest catch whose tag is the same
abbrev pub find_catch : Value → Context → Option ℕ
find_catch tag c = nearest (catch_in tag) c
