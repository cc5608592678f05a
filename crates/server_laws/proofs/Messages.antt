-- The messages that fit a packet.
use mir.Syntax.{w64}
use lib.Signed.{mag}
use Rattle.std.proofs.Common.{ℕ, ◌+◌, ◌^◌, ◌<◌, ◌≤◌, Bool, true, false, List, ◌∷◌, length, refl, arith, length-append}
use Rattle.std.specs.Prelude.{ℤ, pos, codes, FitsSigned}
use Rattle.std.specs.Fmt.{decimal}
use Rattle.std.proofs.lemmas.Fmt.{length-decimal-le}
use Rattle.lisp_data.specs.declared.sexp.Sexp.{Sexp}
use Rattle.lisp_data.specs.declared.sexp.Sexp.TheVariants as form
use Rattle.lisp_errors.specs.Limits.{max_weight}
use Rattle.rpc_messages.specs.declared.to_emacs.Returned.TheVariants as returned
use Rattle.rpc_messages.specs.declared.to_emacs.ToEmacs.TheVariants as message
use Rattle.sexp_printer.specs.Printed.{printed}
use Rattle.session_model.specs.Arriving.{not_found}
use Rattle.server_laws.specs.Small.{FitsPacket, max_name, max_packet}
use Rattle.server_laws.proofs.Lengths.{Lengths, form_then, length-int, list-length, none, str_then, sym_then}

-- how many octets a reply's text has at most, so that the message around it fits
abbrev pub max_reply : ℕ
max_reply = 16777000

abbrev pub IsShortReply : Sexp → Type 0
IsShortReply reply = length (printed reply) ≤ max_reply

small_id : (id : ℤ) → FitsSigned w64 id → mag id < 2 ^ 63
small_id id h = h.sfits

id_then : (id : ℤ) → FitsSigned w64 id → {xs : List Sexp} {n : ℕ} → Lengths xs n → Lengths (form.Int id ∷ xs) (20 + 1 + n)
id_then id h hs = form_then (form.Int id) 20 (length-int id (small_id id h)) hs

number_then : (t : ℕ) → t < 2 ^ 63 → {xs : List Sexp} {n : ℕ} → Lengths xs n → Lengths (form.Int (pos t) ∷ xs) (20 + 1 + n)
number_then t h hs = form_then (form.Int (pos t)) 20 (length-int (pos t) h) hs

pub reply_fits : (id : ℤ) (reply : Sexp) → FitsSigned w64 id → IsShortReply reply → FitsPacket (message.Return id (returned.Ok reply))
reply_fits id reply h short =
    let ok = list-length (sym_then (codes ":OK") refl (form_then reply max_reply short none)) in
    let all = list-length (sym_then (codes ":RETURN") refl (form_then _ _ ok (id_then id h none))) in
    record { text = omega arith; numbers = tt }

pub abort_fits : (id : ℤ) → FitsSigned w64 id → FitsPacket (message.Return id returned.Abort)
abort_fits id h =
    let abort = list-length (sym_then (codes ":ABORT") refl (str_then (codes "NIL") none)) in
    let all = list-length (sym_then (codes ":RETURN") refl (form_then _ _ abort (id_then id h none))) in
    record { text = omega arith; numbers = tt }

length-not_found : (t : ℕ) → t < 2 ^ 63 → length (not_found t) ≤ 40
length-not_found t h = omega (arith, length-append (codes "Thread not found: ") (decimal t), length-decimal-le 20 t (omega arith) (omega (arith, h)) (omega (arith, h)))

pub invalid_fits : (id : ℤ) (t : ℕ) → FitsSigned w64 id → t < 2 ^ 63 → FitsPacket (message.InvalidRpc id (not_found t))
invalid_fits id t h small =
    let all = list-length (sym_then (codes ":INVALID-RPC") refl (id_then id h (str_then (not_found t) none))) in
    record { text = omega (arith, all, length-not_found t small); numbers = tt }

pub condition_fits : (t : ℕ) → t < 2 ^ 63 → FitsPacket (message.DebugCondition t (not_found t))
condition_fits t small =
    let all = list-length (sym_then (codes ":DEBUG-CONDITION") refl (number_then t small (str_then (not_found t) none))) in
    record { text = omega (arith, all, length-not_found t small); numbers = small }

pub fault_fits : (packet text : List ℕ) → length packet ≤ max_packet → length text ≤ 1000 → FitsPacket (message.ReaderError packet text)
fault_fits packet text h k =
    let all = list-length (sym_then (codes ":READER-ERROR") refl (str_then packet (str_then text none))) in
    record { text = omega (arith, all, h, k); numbers = tt }

pub text_fits : (text : List ℕ) (repl_result : Bool) → length text ≤ max_weight → FitsPacket (message.WriteString text repl_result)
text_fits text true h =
    let all = list-length (sym_then (codes ":WRITE-STRING") refl (str_then text (sym_then (codes ":REPL-RESULT") refl none))) in
    record { text = omega (arith, all, h); numbers = tt }
text_fits text false h =
    let all = list-length (sym_then (codes ":WRITE-STRING") refl (str_then text none)) in
    record { text = omega (arith, all, h); numbers = tt }

pub package_fits : (name prompt : List ℕ) → length name ≤ max_name → length prompt ≤ max_name → FitsPacket (message.NewPackage name prompt)
package_fits name prompt h k =
    let all = list-length (sym_then (codes ":NEW-PACKAGE") refl (str_then name (str_then prompt none))) in
    record { text = omega (arith, all, h, k); numbers = tt }
