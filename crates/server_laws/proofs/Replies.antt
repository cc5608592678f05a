-- What a request's function answers, and what its forms' value gives, is short where package names are.
use Rattle.std.proofs.Common.{◌≡◌, ℕ, ◌+◌, ◌*◌, ◌≤◌, Bool, true, false, List, [], ◌∷◌, ◌++◌, length, map, take, Option, Some, None, Ok, Err, refl, sym, ap, ◌∙◌, arith}
use Rattle.std.specs.Prelude.{if◌then◌else◌, nat_lt, codes, pos, Result}
use Rattle.std.specs.Option.{option_map_or}
use Rattle.std.proofs.lemmas.Bool.{ltb-false, or_parts}
use Rattle.std.proofs.lemmas.List.{length-take}
use Rattle.lisp_data.specs.Value.{condition_weight_step, depth_of, weight_of, weight_step}
use Rattle.lisp_data.specs.declared.sexp.Sexp.{Sexp}
use Rattle.lisp_data.specs.declared.sexp.Sexp.TheVariants as form
use Rattle.lisp_data.specs.declared.value.Value.{Value}
use Rattle.lisp_data.specs.declared.value.Value.TheFolds.{fold-roll-Value}
use Rattle.lisp_data.specs.declared.value.Value.TheOpen.{Value-F}
use Rattle.lisp_data.specs.declared.value.Value.TheVariants as value
use Rattle.lisp_data.specs.declared.value.Value.TheVariants.{rolls-Str}
use Rattle.lisp_data.specs.declared.value.Value.TheViews.{out-Value}
use Rattle.lisp_data.specs.declared.value.Condition.{Condition}
use Rattle.lisp_data.specs.Sexp.{nil}
use Rattle.lisp_errors.specs.Limits.{is_too_large, max_depth, max_weight, value_too_large}
use Rattle.lisp_packages.specs.Packages.{name_at, place_of}
use Rattle.lisp_packages.specs.declared.lisp_package.Package.{Package}
use Rattle.rpc_messages.specs.Cut.{cut}
use Rattle.sexp_printer.specs.Printed.{printed}
use Rattle.sexp_printer.specs.UserText.{user_text}
use Rattle.sexp_reader.specs.declared.fault.ReadFault.{ReadFault}
use Rattle.sexp_reader.specs.declared.placed.Placed.{Placed}
use Rattle.server_info.specs.Info as info
use Rattle.step_model.specs.CurrentPackage.{global_package, named_by, package_of, package_variable, user_package}
use Rattle.step_model.specs.Image.{ImageState, global, with_global}
use Rattle.step_model.specs.Rules.{NewPackage}
use Rattle.swank_rpc.specs.Calls.{first_text, is_too_heavy, parts}
use Rattle.swank_rpc.specs.Commands.{Given, Replies, RepliesIn, Refuses, Evaluates, called, called_by, called_in, evaluated, full_name, row, set_to, with_text}
use Rattle.swank_rpc.specs.Finishes.{Ended, ended, ended_by, function_called, new_package, replies_text, replies_value, writes_text, writes_value}
use Rattle.swank_rpc.specs.Finishes as end
use Rattle.swank_rpc.specs.Info.{connection_info, max_items, package_names, prompt, repl_package}
use Rattle.swank_rpc.specs.Kept.{began_in, has_form}
use Rattle.swank_rpc.specs.Names.{function_of}
use Rattle.swank_rpc.specs.Texts.{forms_of, no_value, within}
use Rattle.swank_rpc.specs.declared.function.SwankFunction.{SwankFunction}
use Rattle.swank_rpc.specs.declared.function.SwankFunction.TheVariants as function
use Rattle.server_laws.specs.Small.{AreShortWritings, HasShortNames, max_name}
use Rattle.server_laws.proofs.Lengths.{Lengths, form_then, length-cut, length-int, length-str, list-length, more, none, str_then, sym_then}
use Rattle.server_laws.proofs.Messages.{IsShortReply}
use Rattle.server_laws.proofs.Names.{AreShort}
use Rattle.server_laws.proofs.ShortNames.{name_short, prompt_found, user_short}

-- ---- the global package

-- a short name, for which a prompt shows a short text
record IsShown (ps : List Package) (name : List ℕ) : Type 0 where
  short : length name ≤ max_name
  shown : length (prompt ps name) ≤ max_name

user_shown : (ps : List Package) → AreShort ps → IsShown ps user_package
user_shown ps h = record { short = omega arith; shown = user_short ps h }

named_shown : (ps : List Package) (text : List ℕ) (o : Option ℕ) → place_of ps text ≡ o → AreShort ps → IsShown ps (option_map_or (name_at ps) o user_package)
named_shown ps text None e h = user_shown ps h
named_shown ps text (Some i) e h = record { short = name_short ps i h; shown = prompt_found ps text i e h }

package_shown : (ps : List Package) (o : Option Value) → AreShort ps → IsShown ps (package_of ps o)
package_shown ps None h = user_shown ps h
package_shown ps (Some v) h = by_value (out-Value v)
  where
    by_value : (x : Value-F Value Condition) → IsShown ps (named_by ps x)
    by_value (Value-F.Str text) = named_shown ps text (place_of ps text) refl h
    by_value x = user_shown ps h

global_short : (image : ImageState) → HasShortNames image → length (global_package image) ≤ max_name
global_short image h = (package_shown image.packages (global image package_variable) h).short

prompt_short : (image : ImageState) → HasShortNames image → length (prompt image.packages (global_package image)) ≤ max_name
prompt_short image h = (package_shown image.packages (global image package_variable) h).shown

-- ---- replies

length-encoding : length (printed info.encoding) ≤ 100
length-encoding =
    let systems = list-length (str_then (codes "utf-8-unix") none) in
    let h = list-length (sym_then (codes ":CODING-SYSTEMS") refl (form_then _ _ systems none)) in
    omega arith

length-implementation : length (printed info.implementation) ≤ 200
length-implementation =
    let h = list-length (
    sym_then (codes ":TYPE") refl (str_then (codes "Profile") (
    sym_then (codes ":NAME") refl (str_then (codes "profile") (
    sym_then (codes ":VERSION") refl (str_then (codes "1") none)))))
    ) in
    omega arith

length-machine : length (printed info.machine) ≤ 100
length-machine = let h = list-length (sym_then (codes ":INSTANCE") refl (str_then (codes "none") none)) in omega arith

length-package_line : (name prompt : List ℕ) → length (printed (info.package_line name prompt)) ≤ 4 * length name + 4 * length prompt + 50
length-package_line name prompt =
    let h = list-length (sym_then (codes ":NAME") refl (str_then name (sym_then (codes ":PROMPT") refl (str_then prompt none)))) in
    omega (arith, h)

length-nil : length (printed (form.List [])) ≤ 3
length-nil = list-length none

info_short : (name prompt : List ℕ) → length name ≤ max_name → length prompt ≤ max_name → IsShortReply (info.info name prompt)
info_short name prompt h k =
    let line = 4 * length name + 4 * length prompt + 50 in
    let all = list-length (
    sym_then (codes ":PID") refl (form_then (form.Int (pos 0)) 20 (length-int (pos 0) (omega arith)) (
    sym_then (codes ":STYLE") refl (sym_then (codes ":SPAWN") refl (
    sym_then (codes ":ENCODING") refl (form_then info.encoding 100 length-encoding (
    sym_then (codes ":LISP-IMPLEMENTATION") refl (form_then info.implementation 200 length-implementation (
    sym_then (codes ":MACHINE") refl (form_then info.machine 100 length-machine (
    sym_then (codes ":FEATURES") refl (form_then (form.List []) 3 length-nil (
    sym_then (codes ":MODULES") refl (form_then (form.List []) 3 length-nil (
    sym_then (codes ":PACKAGE") refl (form_then (info.package_line name prompt) line (length-package_line name prompt) (
    sym_then (codes ":VERSION") refl (str_then (codes "2.28") none)))))))))))))))))
    ) in
    omega (arith, all, h, k)

connection_short : (image : ImageState) → HasShortNames image → IsShortReply (connection_info image)
connection_short image h = info_short (global_package image) (prompt image.packages (global_package image)) (global_short image h) (prompt_short image h)

repl_short : (image : ImageState) → HasShortNames image → IsShortReply (repl_package image)
repl_short image h =
    let all = list-length (str_then (global_package image) (str_then (prompt image.packages (global_package image)) none)) in
    omega (arith, all, global_short image h, prompt_short image h)

abbrev name_form : Package → Sexp
name_form p = form.Str (cut p.name)

name_lengths : (ps : List Package) → (n : ℕ) × Lengths (map name_form ps) n × (n ≤ 16015 * length ps)
name_lengths [] = (0, none, omega arith)
name_lengths (p ∷ ps) = let rest = name_lengths ps in (16014 + 1 + rest.0, more (name_form p) (map name_form ps) 16014 rest.0 (length-cut p.name) rest.1, omega (arith, rest.2))

names_short : (ps : List Package) → IsShortReply (package_names ps)
names_short ps =
    let all = name_lengths (take max_items ps) in
    omega (arith, list-length all.1, all.2, length-take max_items ps)

nil_short : IsShortReply nil
nil_short = let h = length-nil in omega arith

-- ---- what a request's function answers

abbrev pub IsShortGiven : Given → Type 0
IsShortGiven (Replies reply) = IsShortReply reply
IsShortGiven (RepliesIn global reply) = IsShortReply reply
IsShortGiven (Refuses condition) = Unit {0}
IsShortGiven (Evaluates forms kept) = Unit {0}

set_short : (image : ImageState) (text : List ℕ) (o : Option (List ℕ)) → HasShortNames image → IsShortGiven (set_to image text o)
set_short image text (Some name) h = repl_short (with_global image package_variable (value.Str name)) h
set_short image text None h = tt

evaluated_short : (current : List ℕ) (r : Result (List Placed) ReadFault) → IsShortGiven (evaluated current r)
evaluated_short current (Ok forms) = tt
evaluated_short current (Err fault) = tt

text_short : (f : SwankFunction) (o : Option (List ℕ)) (given : List ℕ → Given) → ((text : List ℕ) → IsShortGiven (given text)) → IsShortGiven (with_text f o given)
text_short f (Some text) given h = h text
text_short f None given h = tt

row_short : (image : ImageState) (arguments : List Sexp) (f : SwankFunction) → HasShortNames image → IsShortGiven (row image arguments f)
row_short image arguments function.ConnectionInfo h = connection_short image h
row_short image arguments function.CreateRepl h = repl_short image h
row_short image arguments function.SetPackage h = text_short function.SetPackage (first_text arguments) _ (λ text. set_short image text (full_name image text) h)
row_short image arguments function.SwankRequire h = nil_short
row_short image arguments function.BufferFirstChange h = nil_short
row_short image arguments function.InteractiveEval h = text_short function.InteractiveEval (first_text arguments) _ (λ text. evaluated_short (global_package image) (forms_of text))
row_short image arguments function.InteractiveEvalRegion h = text_short function.InteractiveEvalRegion (first_text arguments) _ (λ text. evaluated_short (global_package image) (forms_of text))
row_short image arguments function.ListenerEval h = text_short function.ListenerEval (first_text arguments) _ (λ text. evaluated_short (global_package image) (forms_of text))
row_short image arguments function.ListAllPackageNames h = names_short image.packages

by_short : (token current : List ℕ) (image : ImageState) (arguments : List Sexp) (f : Option SwankFunction) → HasShortNames image → IsShortGiven (called_by token current image arguments f)
by_short token current image arguments (Some f) h = row_short image arguments f h
by_short token current image arguments None h = tt

in_short : (form : Sexp) (current : List ℕ) (image : ImageState) (call : Option (List ℕ × List Sexp)) → HasShortNames image → IsShortGiven (called_in form current image call)
in_short form current image (Some call) h = by_short call.0 current image call.1 (function_of call.0) h
in_short form current image None h = tt

pub called_short : (form : Sexp) (current : List ℕ) (image : ImageState) → HasShortNames image → IsShortGiven (called form current image)
called_short form current image h = by_weight (is_too_heavy form)
  where
    by_weight : (b : Bool) → IsShortGiven (if b then Refuses value_too_large else called_in form current image (parts form))
    by_weight true = tt
    by_weight false = in_short form current image (parts form) h

-- ---- what its forms' value gives

weight-string : (text : List ℕ) → weight_of (value.Str text) ≡ 1 + length text
weight-string text = ap weight_of (sym (rolls-Str text)) ∙ fold-roll-Value ℕ ℕ weight_step condition_weight_step (Value-F.Str text)

light : (text : List ℕ) → is_too_large (value.Str text) ≡ false → length text ≤ max_weight
unfolding is_too_large
light text e =
    let parts = or_parts (nat_lt max_weight (weight_of (value.Str text))) (nat_lt max_depth (depth_of (value.Str text))) e in
    omega (arith, ltb-false max_weight (weight_of (value.Str text)) parts.0, weight-string text)

abbrev pub IsShortEnd : Ended → Type 0
IsShortEnd (Ok e) = AreShortWritings e.0 × IsShortReply e.1
IsShortEnd (Err condition) = Unit {0}

within_short : (text : List ℕ) (given : List ℕ → Ended) → (length text ≤ max_weight → IsShortEnd (given text)) → IsShortEnd (end.with_text (within text) given)
within_short text given h = by_size (is_too_large (value.Str text)) refl
  where
    by_size : (b : Bool) → is_too_large (value.Str text) ≡ b → IsShortEnd (end.with_text (if b then None else Some text) given)
    by_size true e = tt
    by_size false e = h (light text e)

string_short : (text : List ℕ) → length text ≤ max_weight → IsShortReply (form.Str text)
string_short text h = let s = length-str text in omega (arith, s, h)

value_short : (b : Bool) (v : Value) (current : List ℕ) → IsShortEnd (replies_value b v current)
value_short true v current = within_short (codes "=> " ++ user_text current true v) replies_text (λ h. (tt, string_short _ h))
value_short false v current = (tt, string_short no_value (omega arith))

package_writing : (kept : Sexp) (image : ImageState) → HasShortNames image → AreShortWritings (new_package kept image)
package_writing kept image h = by_name (began_in kept (global_package image))
  where
    by_name : (b : Bool) → AreShortWritings (if b then [] else NewPackage (global_package image) (prompt image.packages (global_package image)) ∷ [])
    by_name true = tt
    by_name false = ((global_short image h, prompt_short image h), tt)

written_short : (kept : Sexp) (image : ImageState) (text : List ℕ) → HasShortNames image → length text ≤ max_weight → IsShortEnd (writes_text kept image text)
written_short kept image text h k = ((k, package_writing kept image h), nil_short)

writing_short : (b : Bool) (kept : Sexp) (v : Value) (current : List ℕ) (image : ImageState) → HasShortNames image → IsShortEnd (writes_value b kept v current image)
writing_short true kept v current image h = within_short (user_text current true v ++ codes "\n") (writes_text kept image) (λ k. written_short kept image _ h k)
writing_short false kept v current image h = written_short kept image (no_value ++ codes "\n") h (omega arith)

end_short : (f : Option SwankFunction) (kept : Sexp) (v : Value) (current : List ℕ) (image : ImageState) → HasShortNames image → IsShortEnd (ended_by f kept v current image)
end_short (Some function.InteractiveEval) kept v current image h = value_short (has_form kept) v current
end_short (Some function.InteractiveEvalRegion) kept v current image h = value_short (has_form kept) v current
end_short (Some function.ListenerEval) kept v current image h = writing_short (has_form kept) kept v current image h
end_short f kept v current image h = (tt, nil_short)

pub ended_short : (form kept : Sexp) (v : Value) (current : List ℕ) (image : ImageState) → HasShortNames image → IsShortEnd (ended form kept v current image)
ended_short form kept v current image h = end_short (function_called form) kept v current image h
