use Rattle.std.proofs.Common.{◌≤◌, ◌^◌, arith, length}
use Rattle.std.specs.Prelude.{Ok}
use Rattle.lisp_data.specs.declared.value.Value.TheVariants as value
use Rattle.sexp_printer.specs.UserText.{user_text}
use Rattle.lisp_builtins.proofs.SizeLemmas.{heavy_string, refused_size}
use Rattle.lisp_builtins.proofs.texts.printed.Goals as goal

pub returns-then-user_length-ge-MAX_WEIGHT : goal.returns-then-user_length-ge-MAX_WEIGHT
returns-then-user_length-ge-MAX_WEIGHT c =
    let heavy : 2 ^ 20 ≤ length (user_text c.args.«package».now c.args.escape c.args.value.now) = omega arith in
    refused_size c.refuse_size.result (Ok (value.Str (user_text c.args.«package».now c.args.escape c.args.value.now))) c.refuse_size.ensures (heavy_string (user_text c.args.«package».now c.args.escape c.args.value.now) heavy)
