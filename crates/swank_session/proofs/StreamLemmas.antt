-- The messages of a stream are those of its payloads, and each may arrive.
use Rattle.std.proofs.Common.{◌≡◌, ℕ, ℤ, pos, ◌<◌, ◌≤◌, ◌^◌, Bool, true, false, if◌then◌else◌, List, [], ◌∷◌, map, length, inl, inr, codes, refl, sym, subst, arith}
use Rattle.std.specs.Prelude.{◌≢◌, Option, Some, None, FitsSigned}
use Rattle.std.specs.Str.{chars, is_utf8, IsUtf8}
use Rattle.std.proofs.lemmas.Str.{IsUtf8-from_is_utf8, is_utf8-from_IsUtf8}
use mir.Syntax.{w64}
use Rattle.sexp_reader.specs.Names.{fault_name}
use Rattle.inlet.specs.Messages.{IsMessageOf, is_no_text, is_no_form, is_form, message_or_unknown, AreMessagesOf, none, next, AreMessages}
use Rattle.lisp_data.specs.Parts.{form_text}
use Rattle.lisp_data.specs.declared.sexp.Sexp.{Sexp, out-Sexp}
use Rattle.lisp_data.specs.declared.sexp.Sexp.TheOpen.{Sexp-F}
use Rattle.lisp_data.specs.declared.sexp.Sexp.TheVariants as form
use Rattle.lisp_data.specs.declared.sexp.Sexp.TheVariants.{outs-Int, outs-Str, outs-Sym, outs-List}
use Rattle.packet_framing.specs.Packets.{packets}
use Rattle.rpc_messages.specs.Incoming.{is_symbol, natural_in, id_in, thread_in, unless_new, standing_in, package_in, integer_in, rex_of, rex_in, interrupt_of, interrupt_in, return_string_of, return_string_in, return_of, return_in, message_at, message_in_open, message_in}
use Rattle.rpc_messages.specs.declared.from_emacs.FromEmacs.{FromEmacs}
use Rattle.rpc_messages.specs.declared.from_emacs.ThreadName.{ThreadName}
use Rattle.rpc_messages.specs.declared.from_emacs.ThreadName.TheVariants as name
use Rattle.session_model.specs.Legal.{IsSmallName, MayArrive, AllMayArrive, max_fault}
use Rattle.sexp_reader.specs.Grammar as g
use Rattle.sexp_reader.specs.Grammar.{Spells, Items}
use Rattle.sexp_reader.specs.declared.fault.ReadFault.{ReadFault}
use Rattle.sexp_reader.specs.declared.fault.ReadFault.TheVariants as fault
use Rattle.sexp_reader.proofs.Total.{one-or-fault}
use Rattle.server_laws.specs.Small.{AreSmall}
use Rattle.server_laws.proofs.Payloads.{message_small}
use Rattle.swank_session.specs.Stream.{Reading, message_read, message_if_text, message_of, messages}

-- ---- the messages are those of the payloads

read-is : (payload : List ℕ) → IsUtf8 payload → (r : Reading (chars payload)) → IsMessageOf payload (message_read payload r)
read-is payload utf8 (inl found) = is_form found.0 utf8 found.1
read-is payload utf8 (inr broken) = is_no_form broken.0 utf8 broken.1

if_text-is : (payload : List ℕ) (b : Bool) → is_utf8 payload ≡ b → IsMessageOf payload (message_if_text payload b)
if_text-is payload true e = read-is payload (IsUtf8-from_is_utf8 payload e) (one-or-fault (chars payload))
if_text-is payload false e = is_no_text (λ utf8. let yes = is_utf8-from_IsUtf8 payload utf8 in absurd (cc (e, yes)))

pub message_of-is : (payload : List ℕ) → IsMessageOf payload (message_of payload)
unfolding message_of
message_of-is payload = if_text-is payload (is_utf8 payload) refl

pub messages-are : (payloads : List (List ℕ)) → AreMessagesOf payloads (map message_of payloads)
messages-are [] = none
messages-are (payload ∷ payloads) = next payload (message_of payload) payloads (map message_of payloads) (message_of-is payload) (messages-are payloads)

pub are-messages : (octets : List ℕ) → AreMessages octets (messages octets)
are-messages octets = messages-are (packets octets).payloads

-- ---- the integers of a form that a text spells have 64 bits

abbrev Fits : Sexp-F Sexp → Type 0
Fits (Sexp-F.Int z) = FitsSigned w64 z
Fits _ = Unit {0}

abbrev Each : List Sexp → Type 0
Each [] = Unit {0}
Each (x ∷ xs) = Fits (out-Sexp x) × Each xs

abbrev Parts : Sexp-F Sexp → Type 0
Parts (Sexp-F.List xs) = Each xs
Parts _ = Unit {0}

spells-fits : {n : ℕ} {t rest : List ℕ} {x : Sexp} → Spells n t x rest → Fits (out-Sexp x)
spells-fits (g.list n t rest xs items) = subst Fits (sym (outs-List xs)) tt
spells-fits (g.quote n t inner rest x gap s) = subst Fits (sym (outs-List (form.Sym (codes "QUOTE") ∷ x ∷ []))) tt
spells-fits (g.function n t inner rest x gap s) = subst Fits (sym (outs-List (form.Sym (codes "FUNCTION") ∷ x ∷ []))) tt
spells-fits (g.string n t content rest body) = subst Fits (sym (outs-Str _)) tt
spells-fits (g.integer n t token rest z w few is fits) = subst Fits (sym (outs-Int z)) fits
spells-fits (g.nil n t token rest w is) = subst Fits (sym (outs-List [])) tt
spells-fits (g.symbol n t token rest w good number other) = subst Fits (sym (outs-Sym _)) tt

items-fit : {n : ℕ} {t rest : List ℕ} {xs : List Sexp} → Items n t xs rest → Each xs
items-fit (g.close n t rest gap) = tt
items-fit (g.item n t inner after rest x xs gap s items) = (spells-fits s, items-fit items)

sym-fits : (token : List ℕ) → Fits (out-Sexp (form.Sym token))
sym-fits token = subst Fits (sym (outs-Sym token)) tt

spells-parts : {n : ℕ} {t rest : List ℕ} {x : Sexp} → Spells n t x rest → Parts (out-Sexp x)
spells-parts (g.list n t rest xs items) = subst Parts (sym (outs-List xs)) (items-fit items)
spells-parts (g.quote n t inner rest x gap s) = subst Parts (sym (outs-List (form.Sym (codes "QUOTE") ∷ x ∷ []))) (sym-fits (codes "QUOTE"), (spells-fits s, tt))
spells-parts (g.function n t inner rest x gap s) = subst Parts (sym (outs-List (form.Sym (codes "FUNCTION") ∷ x ∷ []))) (sym-fits (codes "FUNCTION"), (spells-fits s, tt))
spells-parts (g.string n t content rest body) = subst Parts (sym (outs-Str _)) tt
spells-parts (g.integer n t token rest z w few is fits) = subst Parts (sym (outs-Int z)) tt
spells-parts (g.nil n t token rest w is) = subst Parts (sym (outs-List [])) tt
spells-parts (g.symbol n t token rest w good number other) = subst Parts (sym (outs-Sym _)) tt

-- ---- so the numbers of a message are below 2^63

abbrev MayIf : Option FromEmacs → Type 0
MayIf None = Unit {0}
MayIf (Some m) = MayArrive m

abbrev SmallIf : Option ThreadName → Type 0
SmallIf None = Unit {0}
SmallIf (Some n) = IsSmallName n

abbrev StandsIf : Option ThreadName → Type 0
StandsIf None = Unit {0}
StandsIf (Some n) = (n ≢ name.New) × IsSmallName n

abbrev TagIf : Option ℕ → Type 0
TagIf None = Unit {0}
TagIf (Some n) = n < 2 ^ 63

if-any : {A : Type 0} (P : A → Type 0) (b : Bool) (x y : A) → P x → P y → P (if b then x else y)
if-any P true x y p q = p
if-any P false x y p q = q

fits-natural : (n : ℕ) → FitsSigned w64 (pos n) → n < 2 ^ 63
fits-natural n fits = omega (arith, fits)

natural-small : (o : Sexp-F Sexp) → Fits o → TagIf (natural_in o)
natural-small (Sexp-F.Int (pos n)) fits = fits-natural n fits
natural-small (Sexp-F.Int _) fits = tt
natural-small (Sexp-F.Str _) fits = tt
natural-small (Sexp-F.Sym _) fits = tt
natural-small (Sexp-F.List _) fits = tt

id-small : (o : Option ℕ) → TagIf o → SmallIf (id_in o)
id-small None h = tt
id-small (Some n) h = h

thread-small : (o : Sexp-F Sexp) → Fits o → SmallIf (thread_in o)
thread-small o fits =
    if-any SmallIf (is_symbol (codes "t") o) (Some name.New) (if is_symbol (codes ":repl-thread") o then Some name.Repl else id_in (natural_in o)) tt
    (if-any SmallIf (is_symbol (codes ":repl-thread") o) (Some name.Repl) (id_in (natural_in o)) tt (id-small (natural_in o) (natural-small o fits)))

standing-small : (o : Option ThreadName) → SmallIf o → StandsIf (unless_new o)
standing-small None h = tt
standing-small (Some name.New) h = tt
standing-small (Some name.Repl) h = (λ e. cc, h)
standing-small (Some (name.Id n)) h = (λ e. cc, h)

rex_of-may : (x : Sexp) (p : Option (Option (List ℕ))) (n : Option ThreadName) (i : Option ℤ) → SmallIf n → MayIf (rex_of x p n i)
rex_of-may x None n i h = tt
rex_of-may x (Some p) None i h = tt
rex_of-may x (Some p) (Some n) None h = tt
rex_of-may x (Some p) (Some n) (Some i) h = h

rex-may : (parts : List Sexp) → Each parts → MayIf (rex_in parts)
rex-may [] h = tt
rex-may (_ ∷ []) h = tt
rex-may (_ ∷ _ ∷ []) h = tt
rex-may (_ ∷ _ ∷ _ ∷ []) h = tt
rex-may (x ∷ p ∷ t ∷ i ∷ _) h = rex_of-may x (package_in (out-Sexp p)) (thread_in (out-Sexp t)) (integer_in (out-Sexp i)) (thread-small (out-Sexp t) h.1.1.0)

interrupt_of-may : (n : Option ThreadName) → SmallIf n → MayIf (interrupt_of n)
interrupt_of-may None h = tt
interrupt_of-may (Some n) h = h

interrupt-may : (parts : List Sexp) → Each parts → MayIf (interrupt_in parts)
interrupt-may [] h = tt
interrupt-may (t ∷ _) h = interrupt_of-may (thread_in (out-Sexp t)) (thread-small (out-Sexp t) h.0)

string_of-may : (n : Option ThreadName) (tag : Option ℕ) (text : Option (List ℕ)) → StandsIf n → TagIf tag → MayIf (return_string_of n tag text)
string_of-may None tag text h k = tt
string_of-may (Some n) None text h k = tt
string_of-may (Some n) (Some tag) None h k = tt
string_of-may (Some n) (Some tag) (Some text) h k = (h.0, h.1, k)

string-may : (parts : List Sexp) → Each parts → MayIf (return_string_in parts)
string-may [] h = tt
string-may (_ ∷ []) h = tt
string-may (_ ∷ _ ∷ []) h = tt
string-may (t ∷ tag ∷ text ∷ _) h =
    string_of-may (standing_in (out-Sexp t)) (natural_in (out-Sexp tag)) (form_text text) (standing-small (thread_in (out-Sexp t)) (thread-small (out-Sexp t) h.0)) (natural-small (out-Sexp tag) h.1.0)

return_of-may : (n : Option ThreadName) (tag : Option ℕ) (x : Sexp) → StandsIf n → TagIf tag → MayIf (return_of n tag x)
return_of-may None tag x h k = tt
return_of-may (Some n) None x h k = tt
return_of-may (Some n) (Some tag) x h k = (h.0, h.1, k)

return-may : (parts : List Sexp) → Each parts → MayIf (return_in parts)
return-may [] h = tt
return-may (_ ∷ []) h = tt
return-may (_ ∷ _ ∷ []) h = tt
return-may (t ∷ tag ∷ x ∷ _) h =
    return_of-may (standing_in (out-Sexp t)) (natural_in (out-Sexp tag)) x (standing-small (thread_in (out-Sexp t)) (thread-small (out-Sexp t) h.0)) (natural-small (out-Sexp tag) h.1.0)

at-may : (head : Sexp) (parts : List Sexp) → Each parts → MayIf (message_at head parts)
at-may head parts h =
    let o = out-Sexp head in
    let last = if-any MayIf (is_symbol (codes ":emacs-return") o) (return_in parts) None (return-may parts h) tt in
    let more = if-any MayIf (is_symbol (codes ":emacs-return-string") o) (return_string_in parts) _ (string-may parts h) last in
    let others = if-any MayIf (is_symbol (codes ":emacs-interrupt") o) (interrupt_in parts) _ (interrupt-may parts h) more in
    if-any MayIf (is_symbol (codes ":emacs-rex") o) (rex_in parts) _ (rex-may parts h) others

open-may : (o : Sexp-F Sexp) → Parts o → MayIf (message_in_open o)
open-may (Sexp-F.Int _) h = tt
open-may (Sexp-F.Str _) h = tt
open-may (Sexp-F.Sym _) h = tt
open-may (Sexp-F.List []) h = tt
open-may (Sexp-F.List (head ∷ parts)) h = at-may head parts h.1

or_unknown-may : (payload : List ℕ) (o : Option FromEmacs) → MayIf o → MayArrive (message_or_unknown payload o)
or_unknown-may payload None h = omega arith
or_unknown-may payload (Some m) h = h

name-short : (f : ReadFault) → length (fault_name f) ≤ max_fault
name-short fault.End = omega arith
name-short fault.Unclosed = omega arith
name-short fault.StrayClose = omega arith
name-short fault.BadToken = omega arith
name-short fault.TooDeep = omega arith
name-short fault.NumberTooWide = omega arith
name-short fault.TrailingText = omega arith
name-short fault.NoMemory = omega arith

-- the message of a payload may arrive
pub message-may : {payload : List ℕ} {m : FromEmacs} → IsMessageOf payload m → MayArrive m
message-may (is_no_text not) = omega arith
message-may (is_no_form f utf8 is) = name-short f
message-may {payload} (is_form x utf8 spelled) = or_unknown-may payload (message_in x) (open-may (out-Sexp x) (spells-parts spelled.spells))

all-may : (payloads : List (List ℕ)) → AllMayArrive (map message_of payloads)
all-may [] = tt
all-may (payload ∷ payloads) = (message-may (message_of-is payload), all-may payloads)

pub messages-may : (octets : List ℕ) → AllMayArrive (messages octets)
messages-may octets = all-may (packets octets).payloads

all-small : (payloads : List (List ℕ)) → AreSmall (map message_of payloads)
all-small [] = tt
all-small (payload ∷ payloads) = (message_small (message_of-is payload), all-small payloads)

pub messages-small : (octets : List ℕ) → AreSmall (messages octets)
messages-small octets = all-small (packets octets).payloads
