-- What was read, call by call, and what its messages are.
use Rattle.std.proofs.Common.{◌≡◌, ℕ, zero, suc, ◌+◌, ◌-◌, ◌<◌, ◌≤◌, Bool, List, [], ◌∷◌, ◌++◌, length, map, Option, Some, None, refl, sym, ap, ◌∙◌, subst, append_assoc, append-nil, length-append, arith}
use Rattle.inlet.specs.Calls.{Call, gave, gave_none, Runs, all_given, all_read}
use Rattle.inlet.specs.Messages.{AreMessagesOf}
use Rattle.inlet.specs.Pump.{Pumps, met_end}
use Rattle.inlet.specs.declared.pumping.Pumped.{Pumped}
use Rattle.inlet.specs.declared.pumping.Pumped.TheVariants as pumped
use Rattle.inlet.proofs.CallLemmas.{packets-calls}
use Rattle.inlet.proofs.MessageLemmas.{IsExact, one_list}
use Rattle.outside_traits.specs.Told.{BothTold}
use Rattle.packet_framing.specs.Packets.{Split, first_packet, rest_of, after_first, packets, IsBad, IsUnfinished}
use Rattle.packet_framing.proofs.PacketLemmas.{first_packet-append, first_packet-bad, first_packet-short, packets-none, packets-append, shorter}
use Rattle.rpc_messages.specs.declared.from_emacs.FromEmacs.{FromEmacs}
use Rattle.sexp_reader.proofs.Exact.{exact-form, one-value, one-fault, not-both}
use Rattle.swank_session.specs.Course.{BringsRest, Fed}
use Rattle.swank_session.specs.Promises.{max_ahead}
use Rattle.swank_session.specs.Stream.{behind, message_of, messages}
use Rattle.swank_session.specs.declared.ends.InputEnd.{InputEnd}
use Rattle.swank_session.specs.declared.ends.InputEnd.TheVariants as input
use Rattle.swank_session.proofs.StreamLemmas.{messages-are}

-- ---- calls in a row

runs-more : (kept : List ℕ) (calls : List Call) (mid : List ℕ) (call : Call) (last : List ℕ) → Runs kept calls mid → Runs mid (call ∷ []) last → Runs kept (calls ++ call ∷ []) last
runs-more kept [] mid call last r q = subst (λ (k : List ℕ). Runs k (call ∷ []) last) r q
runs-more kept (gave octets m ∷ calls) mid call last r q = (r.0, r.1, runs-more r.0 calls mid call last r.2 q)
runs-more kept (gave_none octets ∷ calls) mid call last r q = runs-more (kept ++ octets) calls mid call last r q

read-more : (calls more : List Call) → all_read (calls ++ more) ≡ all_read calls ++ all_read more
read-more [] more = refl
read-more (gave octets m ∷ calls) more = ap (λ (x : List ℕ). octets ++ x) (read-more calls more) ∙ sym (append_assoc octets (all_read calls) (all_read more))
read-more (gave_none octets ∷ calls) more = ap (λ (x : List ℕ). octets ++ x) (read-more calls more) ∙ sym (append_assoc octets (all_read calls) (all_read more))

given-more : (calls more : List Call) → all_given (calls ++ more) ≡ all_given calls ++ all_given more
given-more [] more = refl
given-more (gave octets m ∷ calls) more = ap (λ (x : List FromEmacs). m ∷ x) (given-more calls more)
given-more (gave_none octets ∷ calls) more = given-more calls more

pub took-more : (first old now : Option (List ℕ)) (a b : List ℕ) → BothTold first old (λ f o. f ≡ a ++ o) → BothTold old now (λ o n. o ≡ b ++ n) → BothTold first now (λ f n. f ≡ (a ++ b) ++ n)
took-more (Some first) (Some old) (Some now) a b p q = p ∙ ap (λ (x : List ℕ). a ++ x) q ∙ sym (append_assoc a b now)
took-more None None None a b p q = tt
took-more None None (Some now) a b p q = absurd q
took-more None (Some old) now a b p q = absurd p
took-more (Some first) None now a b p q = absurd p
took-more (Some first) (Some old) None a b p q = absurd q

-- ---- the messages of what was read

exact : IsExact
exact = record {
  one_form = λ text. one-value (exact-form text);
  one_fault = λ text. one-fault (exact-form text);
  not_both = λ text. not-both (exact-form text);
}

only-messages : (payloads : List (List ℕ)) (given : List FromEmacs) → AreMessagesOf payloads given → given ≡ map message_of payloads
only-messages payloads given are = one_list exact payloads given (map message_of payloads) are (messages-are payloads)

map-append : (a b : List (List ℕ)) → map message_of (a ++ b) ≡ map message_of a ++ map message_of b
map-append [] b = refl
map-append (x ∷ a) b = ap (λ (ms : List FromEmacs). message_of x ∷ ms) (map-append a b)

-- the messages of a stream that goes on begin with those that it had
pub messages-append : (octets more : List ℕ) → messages (octets ++ more) ≡ messages octets ++ messages ((packets octets).rest ++ more)
messages-append octets more =
    ap (λ (x : Split). map message_of x.payloads) (packets-append octets more)
    ∙ map-append (packets octets).payloads (packets ((packets octets).rest ++ more)).payloads

-- those given, and those of what is kept
pub calls-messages : (calls : List Call) (last : List ℕ) → Runs [] calls last → messages (all_read calls) ≡ all_given calls ++ messages last
calls-messages calls last r =
    let p = packets-calls [] calls last r in
    ap (λ (x : Split). map message_of x.payloads) p.2
    ∙ map-append p.0 (packets last).payloads
    ∙ ap (λ (ms : List FromEmacs). ms ++ messages last) (sym (only-messages p.0 (all_given calls) p.1))

pub calls-rest : (calls : List Call) (last : List ℕ) → Runs [] calls last → (packets (all_read calls)).rest ≡ (packets last).rest
calls-rest calls last r = ap (λ (x : Split). x.rest) (packets-calls [] calls last r).2

-- ---- what stands behind the packets that were taken

after-first : (octets payload rest : List ℕ) → first_packet octets ≡ Some (payload, rest) → after_first octets ≡ rest
after-first octets payload rest e = ap (λ o. rest_of octets o) e

calls-behind : (kept : List ℕ) (calls : List Call) (last : List ℕ) → Runs kept calls last → behind (length (all_given calls)) (kept ++ all_read calls) ≡ last
calls-behind kept [] last r = append-nil kept ∙ sym r
calls-behind kept (gave octets m ∷ calls) last r =
    let n = length (all_given calls) in
    let front = first_packet-append (kept ++ octets) (all_read calls) r.1.payload r.0 r.1.front in
    ap (λ (x : List ℕ). behind n (after_first x)) (sym (append_assoc kept octets (all_read calls)))
    ∙ ap (λ (x : List ℕ). behind n x) (after-first ((kept ++ octets) ++ all_read calls) r.1.payload (r.0 ++ all_read calls) front)
    ∙ calls-behind r.0 calls last r.2
calls-behind kept (gave_none octets ∷ calls) last r =
    ap (λ (x : List ℕ). behind (length (all_given calls)) x) (sym (append_assoc kept octets (all_read calls))) ∙ calls-behind (kept ++ octets) calls last r

behind-next : (n : ℕ) (octets : List ℕ) → behind (n + 1) octets ≡ after_first (behind n octets)
behind-next zero octets = refl
behind-next (suc n) octets = ap (λ k. behind k octets) (one_more n) ∙ behind-next n (after_first octets)
  where
    one_more : (n : ℕ) → suc n + 1 ≡ suc (n + 1)
    one_more n = omega arith

after_first-less : (octets : List ℕ) → length (after_first octets) ≤ length octets
after_first-less octets = by-front (first_packet octets) refl
  where
    by-front : (o : Option (List ℕ × List ℕ)) → first_packet octets ≡ o → length (rest_of octets o) ≤ length octets
    by-front None e = omega arith
    by-front (Some taken) e = let s = shorter octets taken.0 taken.1 e in omega (arith, s)

-- ---- one call more

pub fed-none : (left : Option (List ℕ)) (kept : List ℕ) → kept ≡ [] → Fed left left kept 0 []
fed-none left kept none = record { calls = []; took = same left; count = refl; runs = none; is = refl }
  where
    same : (left : Option (List ℕ)) → BothTold left left (λ old new. old ≡ [] ++ new)
    same (Some octets) = refl
    same None = tt

module _ (left0 left1 left2 : Option (List ℕ)) (kept kept' : List ℕ) (taken taken' : ℕ) (given : List FromEmacs) (ended : Bool) (fed : Fed left0 left1 kept taken given) where
  with-call : (call : Call) (octets : List ℕ) → all_read (call ∷ []) ≡ octets → BothTold left1 left2 (λ old new. old ≡ octets ++ new) → taken' ≡ taken + length octets → Runs kept (call ∷ []) kept'
      → Fed left0 left2 kept' taken' (given ++ all_given (call ∷ []))
  with-call call octets is took count runs =
      let all : all_read (fed.calls ++ call ∷ []) ≡ all_read fed.calls ++ octets = read-more fed.calls (call ∷ []) ∙ ap (λ (x : List ℕ). all_read fed.calls ++ x) is in record {
        calls = fed.calls ++ call ∷ [];
        took = subst (λ (x : List ℕ). BothTold left0 left2 (λ old new. old ≡ x ++ new)) (sym all) (took-more left0 left1 left2 (all_read fed.calls) octets fed.took took);
        count = count_more taken taken' (length octets) (length (all_read fed.calls)) count fed.count ∙ sym (ap length all ∙ length-append (all_read fed.calls) octets);
        runs = runs-more [] fed.calls kept call kept' fed.runs runs;
        is = given-more fed.calls (call ∷ []) ∙ ap (λ (ms : List FromEmacs). ms ++ all_given (call ∷ [])) fed.is;
      }
    where
      count_more : (a b n m : ℕ) → b ≡ a + n → a ≡ m → b ≡ m + n
      count_more a b n m e f = omega (arith, e, f)

  pub fed-message : (m : FromEmacs) → Pumps left1 left2 kept kept' taken taken' ended (pumped.Message m) → Fed left0 left2 kept' taken' (given ++ m ∷ [])
  fed-message m p = with-call (gave p.octets m) p.octets (append-nil p.octets) p.source p.count (kept', p.answer, refl)

  fed-nothing : (octets : List ℕ) → BothTold left1 left2 (λ old new. old ≡ octets ++ new) → taken' ≡ taken + length octets → kept' ≡ kept ++ octets → Fed left0 left2 kept' taken' given
  fed-nothing octets source count is =
      subst (λ (ms : List FromEmacs). Fed left0 left2 kept' taken' ms) (append-nil given) (with-call (gave_none octets) octets (append-nil octets) source count is)

-- ---- all that was read

-- what was read, what its messages are, and which of them the calls gave
pub record Taken (left0 left1 : Option (List ℕ)) (kept : List ℕ) (taken : ℕ) (given : List FromEmacs) : Type 0 where
  pub octets : List ℕ
  pub took : BothTold left0 left1 (λ old new. old ≡ octets ++ new)
  pub count : taken ≡ length octets
  pub messages_are : messages octets ≡ given ++ messages kept
  pub rest_is : (packets octets).rest ≡ (packets kept).rest
  pub behind_is : behind (length given) octets ≡ kept

pub taken-of : (left0 left1 : Option (List ℕ)) (kept : List ℕ) (taken : ℕ) (given : List FromEmacs) → Fed left0 left1 kept taken given → Taken left0 left1 kept taken given
taken-of left0 left1 kept taken given fed = record {
  octets = all_read fed.calls;
  took = fed.took;
  count = fed.count;
  messages_are = calls-messages fed.calls kept fed.runs ∙ ap (λ (ms : List FromEmacs). ms ++ messages kept) fed.is;
  rest_is = calls-rest fed.calls kept fed.runs;
  behind_is = ap (λ (ms : List FromEmacs). behind (length ms) (all_read fed.calls)) (sym fed.is) ∙ calls-behind [] fed.calls kept fed.runs;
}

-- few octets stand behind the first message that wasn't given, where few are kept
pub near-kept : (left0 left1 : Option (List ℕ)) (kept : List ℕ) (taken : ℕ) (given : List FromEmacs) (t : Taken left0 left1 kept taken given) → length kept ≤ max_ahead → length (behind (length given + 1) t.octets) ≤ max_ahead
near-kept left0 left1 kept taken given t few =
    let less = after_first-less kept in
    let is : behind (length given + 1) t.octets ≡ after_first kept = behind-next (length given) t.octets ∙ ap after_first t.behind_is in
    subst (λ (x : List ℕ). length x ≤ max_ahead) (sym is) (omega (arith, less, few))

-- the same of the last that was given
pub near-last : (left0 left1 : Option (List ℕ)) (kept : List ℕ) (taken : ℕ) (given : List FromEmacs) (m : FromEmacs) (t : Taken left0 left1 kept taken (given ++ m ∷ [])) → length kept ≤ max_ahead
    → length (behind (length given + 1) t.octets) ≤ max_ahead
near-last left0 left1 kept taken given m t few =
    let is : behind (length given + 1) t.octets ≡ kept = ap (λ n. behind n t.octets) (sym (length-append given (m ∷ []))) ∙ t.behind_is in
    subst (λ (x : List ℕ). length x ≤ max_ahead) (sym is) few

-- ---- how the input ends

-- how an answer that is no message ends the input
pub data EndsInput : Pumped → InputEnd → Type 0 where
  whole : EndsInput pumped.End input.Whole
  bad_header : EndsInput pumped.BadHeader input.BadHeader
  truncated : EndsInput pumped.Truncated input.Truncated
  read_fault : EndsInput pumped.ReadFault input.ReadFault
  long : EndsInput pumped.InputLimit input.InputLimit

pub record Over (left0 left1 : Option (List ℕ)) (taken : ℕ) (given : List FromEmacs) (ended : Bool) (end : InputEnd) : Type 0 where
  pub octets : List ℕ
  pub took : BothTold left0 left1 (λ old new. old ≡ octets ++ new)
  pub count : taken ≡ length octets
  pub messages_are : messages octets ≡ given
  pub rest : BringsRest end ended octets (packets octets).rest

-- where no packet is kept, all messages were given, and what is kept is the rest
pub no-more : (left0 left1 : Option (List ℕ)) (kept : List ℕ) (taken : ℕ) (given : List FromEmacs) (t : Taken left0 left1 kept taken given) → first_packet kept ≡ None → (messages t.octets ≡ given) × ((packets t.octets).rest ≡ kept)
no-more left0 left1 kept taken given t none =
    let p = packets-none kept none in (
      t.messages_are ∙ ap (λ (x : Split). given ++ map message_of x.payloads) p ∙ append-nil given,
      t.rest_is ∙ ap (λ (x : Split). x.rest) p,
    )

nil-packet : (kept : List ℕ) → kept ≡ [] → first_packet kept ≡ None
nil-packet kept none = first_packet-short kept (short (ap length none))
  where
    short : {n : ℕ} → n ≡ 0 → n < 6
    short e = omega (arith, e)

module _ (left0 left1 left2 : Option (List ℕ)) (kept kept' : List ℕ) (taken taken' : ℕ) (given : List FromEmacs) (ended : Bool) (fed : Fed left0 left1 kept taken given) where
  over : (octets : List ℕ) (end : InputEnd) → BothTold left1 left2 (λ old new. old ≡ octets ++ new) → taken' ≡ taken + length octets → kept' ≡ kept ++ octets → first_packet kept' ≡ None
      → ((all : List ℕ) → length all ≡ taken' → BringsRest end ended all kept') → Over left0 left2 taken' given ended end
  over octets end source count is none brings =
      let t = taken-of left0 left2 kept' taken' given (fed-nothing left0 left1 left2 kept kept' taken taken' given ended fed octets source count is) in
      let m = no-more left0 left2 kept' taken' given t none in record {
        octets = t.octets;
        took = t.took;
        count = t.count;
        messages_are = m.0;
        rest = subst (λ (x : List ℕ). BringsRest end ended t.octets x) (sym m.1) (brings t.octets (sym t.count));
      }

  pub over-of : (answer : Pumped) (end : InputEnd) → EndsInput answer end → ended ≡ met_end answer → Pumps left1 left2 kept kept' taken taken' ended answer → Over left0 left2 taken' given ended end
  over-of _ _ whole e p =
      over p.octets input.Whole p.source p.count (p.answer.1 ∙ sym p.answer.0) (nil-packet kept' p.answer.1) (λ all n. (e, p.answer.1))
  over-of _ _ bad_header e p =
      let bad = subst (λ (x : List ℕ). IsBad x) (sym p.answer.1) p.answer.0 in
      over p.octets input.BadHeader p.source p.count p.answer.1 (first_packet-bad kept' bad) (λ all n. (e, bad))
  over-of _ _ truncated e p =
      let unfinished = subst (λ (x : List ℕ). IsUnfinished x) (sym p.answer.2) p.answer.1 in
      over p.octets input.Truncated p.source p.count p.answer.2 unfinished.no_packet (λ all n. (e, (λ none. p.answer.0 (sym p.answer.2 ∙ none)), unfinished.not_bad))
  over-of _ _ read_fault e p =
      let unfinished = subst (λ (x : List ℕ). IsUnfinished x) (sym p.answer.1) p.answer.0 in
      let below = p.answer.2 in
      over p.octets input.ReadFault p.source p.count p.answer.1 unfinished.no_packet (λ all n. (e, unfinished.not_bad, omega (arith, n, below)))
  over-of _ _ long e p =
      let unfinished = subst (λ (x : List ℕ). IsUnfinished x) (sym p.answer.1) p.answer.0 in
      let at = p.answer.2 in
      over p.octets input.InputLimit p.source p.count p.answer.1 unfinished.no_packet (λ all n. (e, unfinished.not_bad, n ∙ at))

  -- octets may be lost where memory is wanting
  pub record Lost : Type 0 where
    pub octets : List ℕ
    pub took : BothTold left0 left2 (λ old new. old ≡ octets ++ new)
    pub count : taken' ≡ length octets
    pub more : List FromEmacs
    pub messages_are : messages octets ≡ given ++ more

  pub lost-of : Pumps left1 left2 kept kept' taken taken' ended pumped.NoMemory → Lost
  lost-of p =
      let t = taken-of left0 left1 kept taken given fed in record {
        octets = t.octets ++ p.octets;
        took = took-more left0 left1 left2 t.octets p.octets t.took p.source;
        count = p.count ∙ ap (λ n. n + length p.octets) t.count ∙ sym (length-append t.octets p.octets);
        more = messages kept ++ messages ((packets t.octets).rest ++ p.octets);
        messages_are = messages-append t.octets p.octets ∙ ap (λ (ms : List FromEmacs). ms ++ messages ((packets t.octets).rest ++ p.octets)) t.messages_are
            ∙ append_assoc given (messages kept) (messages ((packets t.octets).rest ++ p.octets));
      }
