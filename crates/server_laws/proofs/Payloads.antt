-- The messages of payloads are small.
use mir.Syntax.{w64}
use Rattle.std.proofs.Common.{ℕ, ℤ, Bool, true, false, if◌then◌else◌, List, [], ◌∷◌, ◌++◌, codes, sym, subst, arith}
use Rattle.std.specs.Prelude.{FitsSigned, Option, Some, None}
use Rattle.inlet.specs.Messages.{AreMessagesOf, IsMessageOf, is_form, is_no_form, is_no_text, message_or_unknown, next, none}
use Rattle.lisp_data.specs.Parts.{form_text}
use Rattle.lisp_data.specs.declared.sexp.Sexp.{Sexp, out-Sexp}
use Rattle.lisp_data.specs.declared.sexp.Sexp.TheOpen.{Sexp-F}
use Rattle.lisp_data.specs.declared.sexp.Sexp.TheVariants as form
use Rattle.lisp_data.specs.declared.sexp.Sexp.TheVariants.{outs-Int, outs-List, outs-Str, outs-Sym}
use Rattle.rpc_messages.specs.Incoming.{integer_in, interrupt_in, interrupt_of, is_symbol, message_at, message_in, message_in_open, natural_in, package_in, return_in, return_of, return_string_in, return_string_of, rex_in, rex_of, standing_in, thread_in}
use Rattle.rpc_messages.specs.declared.from_emacs.FromEmacs.{FromEmacs}
use Rattle.rpc_messages.specs.declared.from_emacs.ThreadName.{ThreadName}
use Rattle.sexp_reader.specs.Grammar as g
use Rattle.sexp_reader.specs.Grammar.{Items, Spells}
use Rattle.std.specs.Str.{IsUtf8}
use Rattle.server_laws.specs.Small.{AreSmall, IsSmall}
use Rattle.server_laws.proofs.Lengths.{cut-length}

-- ---- the integers of a form that a text spells have 64 bits

abbrev pub Fits : Sexp-F Sexp → Type 0
Fits (Sexp-F.Int z) = FitsSigned w64 z
Fits _ = Unit {0}

abbrev pub EachFits : List Sexp → Type 0
EachFits [] = Unit {0}
EachFits (x ∷ xs) = Fits (out-Sexp x) × EachFits xs

abbrev pub Parts : Sexp-F Sexp → Type 0
Parts (Sexp-F.List xs) = EachFits xs
Parts _ = Unit {0}

pub spells-fits : {n : ℕ} {t rest : List ℕ} {x : Sexp} → Spells n t x rest → Fits (out-Sexp x)
spells-fits (g.list n t rest xs items) = subst Fits (sym (outs-List xs)) tt
spells-fits (g.quote n t inner rest x gap s) = subst Fits (sym (outs-List (form.Sym (codes "QUOTE") ∷ x ∷ []))) tt
spells-fits (g.function n t inner rest x gap s) = subst Fits (sym (outs-List (form.Sym (codes "FUNCTION") ∷ x ∷ []))) tt
spells-fits (g.string n t content rest body) = subst Fits (sym (outs-Str _)) tt
spells-fits (g.integer n t token rest z w few is fits) = subst Fits (sym (outs-Int z)) fits
spells-fits (g.nil n t token rest w is) = subst Fits (sym (outs-List [])) tt
spells-fits (g.symbol n t token rest w good number other) = subst Fits (sym (outs-Sym _)) tt

items-fit : {n : ℕ} {t rest : List ℕ} {xs : List Sexp} → Items n t xs rest → EachFits xs
items-fit (g.close n t rest gap) = tt
items-fit (g.item n t inner after rest x xs gap s items) = (spells-fits s, items-fit items)

sym-fits : (token : List ℕ) → Fits (out-Sexp (form.Sym token))
sym-fits token = subst Fits (sym (outs-Sym token)) tt

pub spells-parts : {n : ℕ} {t rest : List ℕ} {x : Sexp} → Spells n t x rest → Parts (out-Sexp x)
spells-parts (g.list n t rest xs items) = subst Parts (sym (outs-List xs)) (items-fit items)
spells-parts (g.quote n t inner rest x gap s) = subst Parts (sym (outs-List (form.Sym (codes "QUOTE") ∷ x ∷ []))) (sym-fits (codes "QUOTE"), (spells-fits s, tt))
spells-parts (g.function n t inner rest x gap s) = subst Parts (sym (outs-List (form.Sym (codes "FUNCTION") ∷ x ∷ []))) (sym-fits (codes "FUNCTION"), (spells-fits s, tt))
spells-parts (g.string n t content rest body) = subst Parts (sym (outs-Str _)) tt
spells-parts (g.integer n t token rest z w few is fits) = subst Parts (sym (outs-Int z)) tt
spells-parts (g.nil n t token rest w is) = subst Parts (sym (outs-List [])) tt
spells-parts (g.symbol n t token rest w good number other) = subst Parts (sym (outs-Sym _)) tt

-- ---- so a request's id has

abbrev SmallIf : Option FromEmacs → Type 0
SmallIf None = Unit {0}
SmallIf (Some m) = IsSmall m

abbrev IdIf : Option ℤ → Type 0
IdIf None = Unit {0}
IdIf (Some id) = FitsSigned w64 id

either : {A : Type 0} (P : A → Type 0) (b : Bool) (x y : A) → P x → P y → P (if b then x else y)
either P true x y p q = p
either P false x y p q = q

integer-fits : (x : Sexp-F Sexp) → Fits x → IdIf (integer_in x)
integer-fits (Sexp-F.Int z) h = h
integer-fits (Sexp-F.Str text) h = tt
integer-fits (Sexp-F.Sym token) h = tt
integer-fits (Sexp-F.List xs) h = tt

rex_of-small : (x : Sexp) (p : Option (Option (List ℕ))) (n : Option ThreadName) (id : Option ℤ) → IdIf id → SmallIf (rex_of x p n id)
rex_of-small x None n id h = tt
rex_of-small x (Some p) None id h = tt
rex_of-small x (Some p) (Some n) None h = tt
rex_of-small x (Some p) (Some n) (Some id) h = h

rex-small : (parts : List Sexp) → EachFits parts → SmallIf (rex_in parts)
rex-small [] h = tt
rex-small (_ ∷ []) h = tt
rex-small (_ ∷ _ ∷ []) h = tt
rex-small (_ ∷ _ ∷ _ ∷ []) h = tt
rex-small (x ∷ p ∷ t ∷ id ∷ _) h = rex_of-small x (package_in (out-Sexp p)) (thread_in (out-Sexp t)) (integer_in (out-Sexp id)) (integer-fits (out-Sexp id) h.1.1.1.0)

interrupt_of-small : (n : Option ThreadName) → SmallIf (interrupt_of n)
interrupt_of-small None = tt
interrupt_of-small (Some n) = tt

interrupt-small : (parts : List Sexp) → SmallIf (interrupt_in parts)
interrupt-small [] = tt
interrupt-small (t ∷ _) = interrupt_of-small (thread_in (out-Sexp t))

string_of-small : (n : Option ThreadName) (tag : Option ℕ) (text : Option (List ℕ)) → SmallIf (return_string_of n tag text)
string_of-small None tag text = tt
string_of-small (Some n) None text = tt
string_of-small (Some n) (Some tag) None = tt
string_of-small (Some n) (Some tag) (Some text) = tt

string-small : (parts : List Sexp) → SmallIf (return_string_in parts)
string-small [] = tt
string-small (_ ∷ []) = tt
string-small (_ ∷ _ ∷ []) = tt
string-small (t ∷ tag ∷ text ∷ _) = string_of-small (standing_in (out-Sexp t)) (natural_in (out-Sexp tag)) (form_text text)

return_of-small : (n : Option ThreadName) (tag : Option ℕ) (x : Sexp) → SmallIf (return_of n tag x)
return_of-small None tag x = tt
return_of-small (Some n) None x = tt
return_of-small (Some n) (Some tag) x = tt

return-small : (parts : List Sexp) → SmallIf (return_in parts)
return-small [] = tt
return-small (_ ∷ []) = tt
return-small (_ ∷ _ ∷ []) = tt
return-small (t ∷ tag ∷ x ∷ _) = return_of-small (standing_in (out-Sexp t)) (natural_in (out-Sexp tag)) x

at-small : (head : Sexp) (parts : List Sexp) → EachFits parts → SmallIf (message_at head parts)
at-small head parts h =
    let o = out-Sexp head in
    let last = either SmallIf (is_symbol (codes ":emacs-return") o) (return_in parts) None (return-small parts) tt in
    let more = either SmallIf (is_symbol (codes ":emacs-return-string") o) (return_string_in parts) _ (string-small parts) last in
    let others = either SmallIf (is_symbol (codes ":emacs-interrupt") o) (interrupt_in parts) _ (interrupt-small parts) more in
    either SmallIf (is_symbol (codes ":emacs-rex") o) (rex_in parts) _ (rex-small parts h) others

open-small : (x : Sexp-F Sexp) → Parts x → SmallIf (message_in_open x)
open-small (Sexp-F.Int z) h = tt
open-small (Sexp-F.Str text) h = tt
open-small (Sexp-F.Sym token) h = tt
open-small (Sexp-F.List []) h = tt
open-small (Sexp-F.List (head ∷ parts)) h = at-small head parts h.1

or_unknown-small : (payload : List ℕ) (o : Option FromEmacs) → IsUtf8 payload → SmallIf o → IsSmall (message_or_unknown payload o)
or_unknown-small payload None utf8 h = cut-length payload utf8
or_unknown-small payload (Some m) utf8 h = h

-- the message of a payload is small
pub message_small : {payload : List ℕ} {m : FromEmacs} → IsMessageOf payload m → IsSmall m
message_small (is_no_text not) = omega arith
message_small {payload} (is_no_form fault utf8 is) = cut-length payload utf8
message_small {payload} (is_form x utf8 spelled) = or_unknown-small payload (message_in x) utf8 (open-small (out-Sexp x) (spells-parts spelled.spells))

pub messages_small : {payloads : List (List ℕ)} {ms : List FromEmacs} → AreMessagesOf payloads ms → AreSmall ms
messages_small none = tt
messages_small (next payload m payloads ms is are) = (message_small is, messages_small are)

-- and so is a beginning of small messages
pub beginning_small : (ms ns : List FromEmacs) → AreSmall (ms ++ ns) → AreSmall ms
beginning_small [] ns h = tt
beginning_small (m ∷ ms) ns h = (h.0, beginning_small ms ns h.1)
