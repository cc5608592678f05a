-- Requests for restarts that aren't there any more. The function of such a request is not built yet, so that no table of this server takes
-- its form at its word: where it is built, `says` is its row.
use Rattle.std.proofs.Common.{◌≡◌, ℕ, ℤ, true, false, List, [], ◌∷◌, ◌++◌, map, refl, sym, ap, ◌∙◌, append-nil, append_assoc}
use Rattle.std.specs.Prelude.{codes, encode_utf8_all, not}
use Rattle.std.specs.Char.{to_ascii_lowercase}
use Rattle.std.specs.Fmt.{signed_decimal}
use Rattle.std.specs.Option.{option_map_or}
use Rattle.std.proofs.lemmas.Bool.{false≢true}
use Rattle.std.proofs.lemmas.Str.{chars-IsAscii, encodes-IsAscii}
use Rattle.std.proofs.lemmas.Str.Ascii.{IsAscii-map, lowercase_ascii}
use Rattle.lisp_data.specs.declared.sexp.Sexp.{Sexp}
use Rattle.lisp_data.specs.declared.sexp.Sexp.TheOpen.{Sexp-F}
use Rattle.lisp_data.specs.declared.sexp.Sexp.TheVariants as form
use Rattle.lisp_data.specs.declared.sexp.Sexp.TheVariants.{rolls-List, rolls-Sym}
use Rattle.lisp_data.specs.declared.sexp.Sexp.TheViews.{out-Sexp, out-roll-Sexp}
use Rattle.lisp_data.specs.Parts.{token_in}
use Rattle.session_laws.specs.IgnoresStale.{IgnoresStaleRequests, InvokeByForm, invoke_nth}
use Rattle.session_laws.proofs.Stale.{ignores_stale_requests}
use Rattle.session_model.specs.World.{World}
use Rattle.sexp_printer.specs.Printed.{changed, in_parentheses, printed}
use Rattle.server_rules.specs.Rules.{rules}
use Rattle.server_laws.proofs.Lengths.{ascii, is_plain, printed-int, printed-list, printed-sym}
use Rattle.swank_rpc.specs.Calls.{call_in, call_of, is_served}
use Rattle.swank_rpc.specs.Names.{is_unbuilt}

out-list : (items : List Sexp) → out-Sexp (form.List items) ≡ Sexp-F.List items
out-list items = ap out-Sexp (sym (rolls-List items)) ∙ out-roll-Sexp (Sexp-F.List items)

out-symbol : (token : List ℕ) → out-Sexp (form.Sym token) ≡ Sexp-F.Sym token
out-symbol token = ap out-Sexp (sym (rolls-Sym token)) ∙ out-roll-Sexp (Sexp-F.Sym token)

-- what the head of a call says of whether it is served
served_by : (token : List ℕ) (arguments : List Sexp) → is_served (form.List (form.Sym token ∷ arguments)) ≡ not (is_unbuilt token)
served_by token arguments =
    ap (λ x. option_map_or (λ call. not (is_unbuilt call.0)) (call_in x) true) (out-list (form.Sym token ∷ arguments))
    ∙ ap (λ x. option_map_or (λ call. not (is_unbuilt call.0)) (call_of (token_in x) arguments) true) (out-symbol token)

not_served : (level place : ℤ) → is_served (invoke_nth level place) ≡ false
not_served level place = served_by (codes "SWANK:INVOKE-NTH-RESTART-FOR-EMACS") (form.Int level ∷ form.Int place ∷ [])

invoke_by_form : ((level place : ℤ) → is_served (invoke_nth level place) ≡ true) → InvokeByForm rules
invoke_by_form served = record {
  served = served;
  says = λ a level place is. absurd (false≢true (sym (not_served level place) ∙ served level place));
}

pub stale_requests : ((level place : ℤ) → is_served (invoke_nth level place) ≡ true) → (w : World) → IgnoresStaleRequests rules w
stale_requests served w = ignores_stale_requests rules w (invoke_by_form served)

-- ---- what the form is on the wire

abbrev head : List ℕ
head = codes "SWANK:INVOKE-NTH-RESTART-FOR-EMACS"

lower_token : (token : List ℕ) → is_plain token ≡ true → printed (form.Sym token) ≡ map to_ascii_lowercase token
lower_token token plain =
    let a = ascii token plain in
    printed-sym token
    ∙ ap (λ cs. encode_utf8_all (map to_ascii_lowercase cs)) (chars-IsAscii token a)
    ∙ encodes-IsAscii (map to_ascii_lowercase token) (IsAscii-map to_ascii_lowercase token lowercase_ascii a)

in_turn : (l p : List ℕ) → (l ++ 32 ∷ (p ++ [])) ++ 41 ∷ [] ≡ ((l ++ 32 ∷ []) ++ p) ++ 41 ∷ []
in_turn l p = ap (λ x. x ++ 41 ∷ []) (ap (λ x. l ++ 32 ∷ x) (append-nil p) ∙ sym (append_assoc l (32 ∷ []) p))

pub request_text : (level place : ℤ) → printed (invoke_nth level place) ≡ codes "(swank:invoke-nth-restart-for-emacs " ++ signed_decimal level ++ codes " " ++ signed_decimal place ++ codes ")"
request_text level place =
    printed-list (form.Sym head ∷ form.Int level ∷ form.Int place ∷ [])
    ∙ ap (λ x. in_parentheses (changed to_ascii_lowercase (codes "NIL")) (x ∷ printed (form.Int level) ∷ printed (form.Int place) ∷ [])) (lower_token head refl)
    ∙ ap (λ x. in_parentheses (changed to_ascii_lowercase (codes "NIL")) (map to_ascii_lowercase head ∷ x ∷ printed (form.Int place) ∷ [])) (printed-int level)
    ∙ ap (λ x. in_parentheses (changed to_ascii_lowercase (codes "NIL")) (map to_ascii_lowercase head ∷ signed_decimal level ∷ x ∷ [])) (printed-int place)
    ∙ ap (λ x. codes "(swank:invoke-nth-restart-for-emacs " ++ x) (in_turn (signed_decimal level) (signed_decimal place))
