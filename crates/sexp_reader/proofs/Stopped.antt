-- The fault of a text is answered.
use Rattle.std.proofs.Common.{◌≡◌, ℕ, ◌+◌, ◌≤◌, true, false, inl, inr, List, [], ◌∷◌, ◌++◌, length, map, refl, sym, ap, subst, ◌∙◌, arith}
use Rattle.std.specs.Prelude.{encode_utf8, Err, nat_lt}
use Rattle.std.proofs.lemmas.Bool.{ltb-true, ltb-false, eqb-true}
use Rattle.lisp_data.specs.declared.sexp.Sexp.{Sexp}
use Rattle.sexp_reader.specs.declared.fault.ReadFault.{ReadFault}
use Rattle.sexp_reader.specs.declared.fault.ReadFault.TheVariants.{Unclosed, StrayClose, BadToken, TooDeep}
use Rattle.sexp_reader.specs.declared.state.Forms.{Forms}
use Rattle.sexp_reader.specs.declared.state.Frame.{Frame}
use Rattle.sexp_reader.specs.declared.state.Frame.TheVariants.{Open, Quote, Function}
use Rattle.sexp_reader.specs.Answers.{◌>>=◌}
use Rattle.sexp_reader.specs.Grammar as g
use Rattle.sexp_reader.specs.Grammar.{Gap, Token, Spells, place}
use Rattle.sexp_reader.specs.Faults as f
use Rattle.sexp_reader.specs.Faults.{Mark, Reaches, Unended, Stops, Breaks, begins_function}
use Rattle.sexp_reader.specs.Tokens.{IsBad}
use Rattle.sexp_reader.specs.Reading.{ready, began, is_full, complete, run}
use Rattle.sexp_reader.proofs.BoolLemmas.{decide}
use Rattle.sexp_reader.proofs.AtomLemmas.{begins_hash, atom-bad, atom-wide}
use Rattle.sexp_reader.proofs.ReadingLemmas.{run-ok, run-err, run-nil}
use Rattle.sexp_reader.proofs.Spelled.{gap-run, spells-run, whole-token, long-token-run, integer-plain, began-full}
use Rattle.sexp_reader.proofs.Steps.{after_hash, at_string, at_escape, on_open, on_quote, on_hash, on_function, on_string, on_backslash, on_escaped, on_plain, deep_list, deep_quote, deep_function, stray, stray_quote, stray_function, bad_hash, finish-open, finish-hash, finish-string, finish-escape}

-- ---- the stack at a place

abbrev mark_of : Frame → Mark
mark_of (Open items) = f.in_list
mark_of Quote = f.in_quote
mark_of Function = f.in_quote

abbrev pub marks_of : List Frame → List Mark
marks_of stack = map mark_of stack

-- what reading has made of a text up to a place
pub record Reached (text u : List ℕ) (forms : Forms) (n : ℕ) (marks : List Mark) (t : List ℕ) : Type 0 where
  pub stack : List Frame
  pub later : Forms
  pub free : is_full later ≡ false
  pub opens : marks_of stack ≡ marks
  pub room : length stack + n ≡ 500
  pub goes : run text (ready [] forms) u ≡ run text (ready stack later) t

item-reached : (text u : List ℕ) (forms : Forms) (n : ℕ) (marks : List Mark) (t inner after : List ℕ) (x : Sexp) → Gap t inner → Spells n inner x after
    → (stack : List Frame) (later : Forms) → is_full later ≡ false → marks_of stack ≡ f.in_list ∷ marks → length stack + n ≡ 500 → run text (ready [] forms) u ≡ run text (ready stack later) t
    → Reached text u forms n (f.in_list ∷ marks) after
unfolding complete
item-reached text u forms n marks t inner after x gap w [] later free opens room goes = absurd (cc)
item-reached text u forms n marks t inner after x gap w (Open items ∷ stack) later free opens room goes = record {
  stack = Open (items ++ x ∷ []) ∷ stack;
  later = later;
  free = free;
  opens = opens;
  room = room;
  goes = goes ∙ (gap-run gap text (Open items ∷ stack) later ∙ spells-run w text (Open items ∷ stack) later free (omega arith));
}
item-reached text u forms n marks t inner after x gap w (Quote ∷ stack) later free opens room goes = absurd (cc)
item-reached text u forms n marks t inner after x gap w (Function ∷ stack) later free opens room goes = absurd (cc)

pub reach-run : {u : List ℕ} {n : ℕ} {marks : List Mark} {t : List ℕ} → Reaches u n marks t → (text : List ℕ) (forms : Forms) → is_full forms ≡ false → Reached text u forms n marks t
reach-run f.begins text forms free = record { stack = []; later = forms; free = free; opens = refl; room = refl; goes = refl }
reach-run (f.list n marks t inner before gap) text forms free =
    let r = reach-run before text forms free in
    let at = place text (40 ∷ inner) in
    let room = r.room in
    record {
      stack = Open [] ∷ r.stack;
      later = began r.later r.stack at;
      free = began-full r.later r.stack at r.free;
      opens = ap (λ l. f.in_list ∷ l) r.opens;
      room = omega arith;
      goes = r.goes ∙ (gap-run gap text r.stack r.later ∙ run-ok text (ready r.stack r.later) (ready (Open [] ∷ r.stack) (began r.later r.stack at)) 40 inner (on_open r.stack r.later at r.free (omega arith)));
    }
reach-run (f.quote n marks t inner before gap) text forms free =
    let r = reach-run before text forms free in
    let at = place text (39 ∷ inner) in
    let room = r.room in
    record {
      stack = Quote ∷ r.stack;
      later = began r.later r.stack at;
      free = began-full r.later r.stack at r.free;
      opens = ap (λ l. f.in_quote ∷ l) r.opens;
      room = omega arith;
      goes = r.goes ∙ (gap-run gap text r.stack r.later ∙ run-ok text (ready r.stack r.later) (ready (Quote ∷ r.stack) (began r.later r.stack at)) 39 inner (on_quote r.stack r.later at r.free (omega arith)));
    }
reach-run (f.function n marks t inner before gap) text forms free =
    let r = reach-run before text forms free in
    let at = place text (35 ∷ 39 ∷ inner) in
    let room = r.room in
    record {
      stack = Function ∷ r.stack;
      later = began r.later r.stack at;
      free = began-full r.later r.stack at r.free;
      opens = ap (λ l. f.in_quote ∷ l) r.opens;
      room = omega arith;
      goes = r.goes ∙ (gap-run gap text r.stack r.later
          ∙ (run-ok text (ready r.stack r.later) (after_hash r.stack (began r.later r.stack at)) 35 (39 ∷ inner) (on_hash r.stack r.later at r.free)
          ∙ run-ok text (after_hash r.stack (began r.later r.stack at)) (ready (Function ∷ r.stack) (began r.later r.stack at)) 39 inner (on_function r.stack (began r.later r.stack at) (place text (39 ∷ inner)) (omega arith))));
    }
reach-run {u = u} (f.item n marks t inner after x before gap w) text forms free =
    let r = reach-run before text forms free in
    item-reached text u forms n marks t inner after x gap w r.stack r.later r.free r.opens r.room r.goes

-- ---- the fault at a place

unended-run : {u : List ℕ} → Unended u → (text : List ℕ) (stack : List Frame) (forms : Forms) (so_far : List ℕ) → run text (at_string stack forms so_far) u ≡ Err Unclosed
unended-run f.at_end text stack forms so_far = run-nil text (at_string stack forms so_far) ∙ finish-string stack forms so_far
unended-run f.after_backslash text stack forms so_far =
    run-ok text (at_string stack forms so_far) (at_escape stack forms so_far) 92 [] (on_backslash stack forms so_far (place text (92 ∷ [])))
    ∙ (run-nil text (at_escape stack forms so_far) ∙ finish-escape stack forms so_far)
unended-run (f.escaped c u more) text stack forms so_far =
    run-ok text (at_string stack forms so_far) (at_escape stack forms so_far) 92 (c ∷ u) (on_backslash stack forms so_far (place text (92 ∷ c ∷ u)))
    ∙ (run-ok text (at_escape stack forms so_far) (at_string stack forms (so_far ++ encode_utf8 c)) c u (on_escaped stack forms so_far (place text (c ∷ u)) c)
    ∙ unended-run more text stack forms (so_far ++ encode_utf8 c))
unended-run (f.plain c u a b more) text stack forms so_far =
    run-ok text (at_string stack forms so_far) (at_string stack forms (so_far ++ encode_utf8 c)) c u (on_plain stack forms so_far (place text (c ∷ u)) c a b)
    ∙ unended-run more text stack forms (so_far ++ encode_utf8 c)

after-hash-run : (text u : List ℕ) (stack : List Frame) (forms : Forms) → begins_function (35 ∷ u) ≡ false → run text (after_hash stack forms) u ≡ Err BadToken
after-hash-run text [] stack forms plain = run-nil text (after_hash stack forms) ∙ finish-hash stack forms
after-hash-run text (d ∷ u) stack forms plain = run-err text (after_hash stack forms) d u BadToken (bad_hash stack forms (place text (d ∷ u)) d plain)

hash-run : (text u : List ℕ) (stack : List Frame) (forms : Forms) → is_full forms ≡ false → begins_function (35 ∷ u) ≡ false → run text (ready stack forms) (35 ∷ u) ≡ Err BadToken
hash-run text u stack forms free plain =
    let at = place text (35 ∷ u) in
    run-ok text (ready stack forms) (after_hash stack (began forms stack at)) 35 u (on_hash stack forms at free) ∙ after-hash-run text u stack (began forms stack at) plain

-- a token that begins with `#`
hash-token : {u token rest : List ℕ} → Token u token rest → begins_hash token ≡ true → begins_function u ≡ false → (text : List ℕ) (stack : List Frame) (forms : Forms) → is_full forms ≡ false
    → run text (ready stack forms) u ≡ Err BadToken
hash-token (g.token c u others rest inside taken) hash plain text stack forms free =
    let is : c ≡ 35 = eqb-true c 35 hash in
    subst (λ d. run text (ready stack forms) (d ∷ u) ≡ Err BadToken) (sym is) (hash-run text u stack forms free (subst (λ d. begins_function (d ∷ u) ≡ false) is plain))

bad-run : {u token rest : List ℕ} → Token u token rest → IsBad token → begins_function u ≡ false → (text : List ℕ) (stack : List Frame) (forms : Forms) → is_full forms ≡ false
    → run text (ready stack forms) u ≡ Err BadToken
bad-run {u} {token} {rest} w bad plain text stack forms free = elim (decide (begins_hash token)) [
  | inl hash ↦ hash-token w hash plain text stack forms free
  | inr other ↦ elim (decide (nat_lt 1000 (length token))) [
    | inl long ↦ long-token-run w other (ltb-true _ _ long) text stack forms free
    | inr few ↦
        let short : length token ≤ 1000 = ltb-false _ _ few in
        whole-token w other short text stack forms free
        ∙ ap (λ a. a >>= λ y. run text (complete stack (began forms stack (place text u)) y) rest) (atom-bad bad short other)
  ]
]

inside-run : (text : List ℕ) (stack : List Frame) (forms : Forms) (mark : Mark) (marks : List Mark) → marks_of stack ≡ mark ∷ marks → run text (ready stack forms) [] ≡ Err Unclosed
inside-run text [] forms mark marks opens = absurd (cc)
inside-run text (frame ∷ stack) forms mark marks opens = run-nil text (ready (frame ∷ stack) forms) ∙ finish-open frame stack forms

stray-run : (text u : List ℕ) (stack : List Frame) (forms : Forms) → is_full forms ≡ false → marks_of stack ≡ [] → run text (ready stack forms) (41 ∷ u) ≡ Err StrayClose
stray-run text u [] forms free opens = run-err text (ready [] forms) 41 u StrayClose (stray forms (place text (41 ∷ u)) free)
stray-run text u (frame ∷ stack) forms free opens = absurd (cc)

quote-run : (text u : List ℕ) (stack : List Frame) (forms : Forms) (marks : List Mark) → is_full forms ≡ false → marks_of stack ≡ f.in_quote ∷ marks → run text (ready stack forms) (41 ∷ u) ≡ Err StrayClose
quote-run text u [] forms marks free opens = absurd (cc)
quote-run text u (Open items ∷ stack) forms marks free opens = absurd (cc)
quote-run text u (Quote ∷ stack) forms marks free opens = run-err text (ready (Quote ∷ stack) forms) 41 u StrayClose (stray_quote stack forms (place text (41 ∷ u)) free)
quote-run text u (Function ∷ stack) forms marks free opens = run-err text (ready (Function ∷ stack) forms) 41 u StrayClose (stray_function stack forms (place text (41 ∷ u)) free)

pub stops-run : {n : ℕ} {marks : List Mark} {u : List ℕ} {fault : ReadFault} → Stops n marks u fault → (text : List ℕ) (stack : List Frame) (forms : Forms) → is_full forms ≡ false
    → marks_of stack ≡ marks → length stack + n ≡ 500 → run text (ready stack forms) u ≡ Err fault
stops-run (f.ends_inside n mark marks) text stack forms free opens room = inside-run text stack forms mark marks opens
stops-run (f.ends_in_string n marks u unended) text stack forms free opens room =
    let at = place text (34 ∷ u) in
    run-ok text (ready stack forms) (at_string stack (began forms stack at) []) 34 u (on_string stack forms at free) ∙ unended-run unended text stack (began forms stack at) []
stops-run (f.closes_nothing n u) text stack forms free opens room = stray-run text u stack forms free opens
stops-run (f.closes_quote n marks u) text stack forms free opens room = quote-run text u stack forms marks free opens
stops-run (f.bad_token n marks u token rest plain w bad) text stack forms free opens room = bad-run w bad plain text stack forms free
stops-run (f.deep_list marks u) text stack forms free opens room = run-err text (ready stack forms) 40 u TooDeep (deep_list stack forms (place text (40 ∷ u)) free (omega arith))
stops-run (f.deep_quote marks u) text stack forms free opens room = run-err text (ready stack forms) 39 u TooDeep (deep_quote stack forms (place text (39 ∷ u)) free (omega arith))
stops-run (f.deep_function marks u) text stack forms free opens room =
    let at = place text (35 ∷ 39 ∷ u) in
    run-ok text (ready stack forms) (after_hash stack (began forms stack at)) 35 (39 ∷ u) (on_hash stack forms at free)
    ∙ run-err text (after_hash stack (began forms stack at)) 39 u TooDeep (deep_function stack (began forms stack at) (place text (39 ∷ u)) (omega arith))
stops-run (f.wide_number n marks u token rest z w few is wide) text stack forms free opens room =
    whole-token w (integer-plain token z is) few text stack forms free
    ∙ ap (λ a. a >>= λ y. run text (complete stack (began forms stack (place text u)) y) rest) (atom-wide is wide)

pub breaks-run : {u : List ℕ} {fault : ReadFault} → Breaks u fault → (text : List ℕ) (forms : Forms) → is_full forms ≡ false → run text (ready [] forms) u ≡ Err fault
breaks-run b text forms free =
    let r = reach-run b.reaches text forms free in
    r.goes ∙ (gap-run b.gap text r.stack r.later ∙ stops-run b.stops text r.stack r.later r.free r.opens r.room)
