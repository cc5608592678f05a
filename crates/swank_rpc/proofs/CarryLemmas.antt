-- The rows of requests carry out what is answered.
use Rattle.std.proofs.Common.{◌≡◌, ◌∙◌, ℕ, Bool, true, false, List, [], ◌∷◌, ◌++◌, map, refl, ap, sym}
use Rattle.std.proofs.lemmas.List.{append-nil}
use Rattle.std.specs.Prelude.{Option, Some, None, Result, Ok, Err, OnOk, codes}
use Rattle.lisp_data.specs.declared.value.Value.{Value}
use Rattle.term_model.specs.Label.{Label, Out}
use Rattle.term_model.specs.declared.kept.Outcome.TheVariants as outcome
use Rattle.step_model.specs.Act.{Gives, Raises}
use Rattle.step_model.specs.Now.{Now, tells}
use Rattle.step_model.specs.Perform.{perform}
use Rattle.step_model.specs.Perform as step
use Rattle.step_model.specs.Requests.{commanded, finished}
use Rattle.step_model.specs.Rules.{Writing, Output, NewPackage}
use Rattle.swank_rpc.specs.Acts.{act_of}
use Rattle.swank_rpc.specs.Commands.{Given, Replies, RepliesIn, Refuses, Evaluates, answer_of, command_of, image_after}
use Rattle.lisp_data.specs.declared.sexp.Sexp.{Sexp}
use Rattle.rpc_messages.specs.declared.to_emacs.ToEmacs.{ToEmacs}
use Rattle.sexp_printer.specs.UserText.{user_text}
use Rattle.step_model.specs.Image.{ImageState}
use Rattle.swank_rpc.specs.declared.function.SwankFunction.{SwankFunction}
use Rattle.swank_rpc.specs.Texts.{within}
use Rattle.swank_rpc.specs.Finishes.{Ended, ended_by, finish_of, message_of, replies_text, replies_value, written}
use Rattle.swank_rpc.specs.Finishes as end

pub carried-call : (n : Now) (g : Given) → perform n (commanded n (command_of n.inspected g)) ≡ perform (record n { image = image_after g n.image }) (act_of (answer_of g))
carried-call n (Replies reply) = refl
carried-call n (RepliesIn global reply) = refl
carried-call n (Refuses condition) = refl
carried-call n (Evaluates forms kept) = refl

tells-none : (n : Now) → tells n [] ≡ n
tells-none n = ap (λ (ls : List Label). record n { labels = ls }) (append-nil n.labels)

out-messages : (ws : List Writing) → map step.written ws ≡ map Out (map message_of ws)
out-messages [] = refl
out-messages (Output text repl_result ∷ ws) = ap (λ ls. step.written (Output text repl_result) ∷ ls) (out-messages ws)
out-messages (NewPackage name prompt ∷ ws) = ap (λ ls. step.written (NewPackage name prompt) ∷ ls) (out-messages ws)

pub carried-end : (n : Now) (v : Value) (e : Ended) → perform n (finished n v (finish_of n.inspected e)) ≡ perform (tells n (map Out (written e))) (act_of (end.answer_of e))
carried-end n v (Ok e) = ap (λ (ls : List Label). perform (tells n ls) (Gives (outcome.Reply e.1))) (out-messages e.0)
carried-end n v (Err condition) = ap (λ (m : Now). perform m (Raises condition)) (sym (tells-none n))

silent-text : (o : Option (List ℕ)) → written (end.with_text o replies_text) ≡ []
silent-text None = refl
silent-text (Some text) = refl

-- a reply alone writes nothing
pub silent : (has_form : Bool) (v : Value) (current : List ℕ) → written (replies_value has_form v current) ≡ []
silent true v current = silent-text (within (codes "=> " ++ user_text current true v))
silent false v current = refl

-- so it leaves the messages as they were
pub silent-outs : {A E : Type 0} (r : Result A E) (outs : List ToEmacs) (e : Ended) → written e ≡ [] → OnOk r (outs ≡ outs ++ written e)
silent-outs (Ok x) outs e is = sym (ap (λ (ms : List ToEmacs). outs ++ ms) is ∙ append-nil outs)
silent-outs (Err x) outs e is = tt

pub silent-by : (f : Option SwankFunction) (g : SwankFunction) (kept : Sexp) (v : Value) (current : List ℕ) (image : ImageState) → f ≡ Some g → written (ended_by (Some g) kept v current image) ≡ [] → written (ended_by f kept v current image) ≡ []
silent-by f g kept v current image e is = ap (λ (h : Option SwankFunction). written (ended_by h kept v current image)) e ∙ is
