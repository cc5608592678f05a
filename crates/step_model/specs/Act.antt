-- What a row of the table says is to be done: an end, with what comes before it. An end without a word on requests, levels, protected
-- forms, cleanups and questions can make none of their layers.
use Rattle.std.specs.Prelude.{ℕ, List}
use Rattle.lisp_data.specs.declared.symbol.Symbol.{Symbol}
use Rattle.lisp_data.specs.declared.value.Value.{Value}
use Rattle.lisp_data.specs.declared.value.Condition.{Condition}
use Rattle.rpc_messages.specs.declared.pattern.Pattern.{Pattern}
use Rattle.syntax_trees.specs.declared.ast.Ast.{Ast}
use Rattle.term_model.specs.declared.end.End.{End}
use Rattle.term_model.specs.declared.end.End.TheVariants as end
use Rattle.term_model.specs.declared.focus.Focus.{Focus}
use Rattle.term_model.specs.declared.found.Found.{Found}
use Rattle.term_model.specs.declared.kept.Leaving.{Leaving}
use Rattle.term_model.specs.declared.kept.Outcome.{Outcome}
use Rattle.term_model.specs.declared.plain.Plain.{Plain}
use Rattle.term_model.specs.declared.question.Ask.{Ask}
use Rattle.step_model.specs.Image.{ImageState}
use Rattle.step_model.specs.Rules.{Writing}

pub data Act : Type 0 where
  -- an end, and nothing before it
  Ends : End → Act
  -- the layer directly around the redex, a plain one or a question, goes, and then this
  Outward : Act → Act
  -- these messages are written, and then this
  Writes : List Writing → Act → Act
  -- the image is this one, and then this
  Changes : ImageState → Act → Act
  -- these values are inspected, and then this
  Inspects : List Value → Act → Act
  -- a variable is assigned, and then this: its nearest lexical binding, else its newest dynamic one, else its global value
  Assigns : Symbol → Value → Act → Act
  -- the same without lexical bindings
  Sets : Symbol → Value → Act → Act

-- ---- the acts that are ends alone

abbrev pub Goes : List Plain → Found → Act
Goes ps found = Ends (end.Goes ps found)

abbrev pub Gives : Outcome → Act
Gives o = Ends (end.Gives o)

abbrev pub Raises : Condition → Act
Raises condition = Ends (end.Raises condition)

abbrev pub Resumes : Focus → Act
Resumes f = Ends (end.Resumes f)

abbrev pub Passes : Outcome → Act
Passes o = Ends (end.Passes o)

abbrev pub Protects : Ast → List Ast → Act
Protects form cleanup = Ends (end.Protects form cleanup)

abbrev pub Asks : Ask → List ℕ → Act
Asks kind text = Ends (end.Asks kind text)

abbrev pub Opens : Condition → Act
Opens condition = Ends (end.Opens condition)

abbrev pub Breaks : Outcome → Act
Breaks o = Ends (end.Breaks o)

abbrev pub Exits : Leaving → Act
Exits x = Ends (end.Exits x)

abbrev pub Takes : Pattern → Act
Takes p = Ends (end.Takes p)

abbrev pub Closes : Act
Closes = Ends end.Closes
