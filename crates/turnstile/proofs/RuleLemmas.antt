-- Each step keeps the rule of the hall.
use Rattle.std.proofs.Common.{◌≡◌, ℕ, zero, suc, eqb, ◌+◌, ◌≤◌, ◌≢◌, List, [], ◌∷◌, ◌++◌, length, get_or, set, Bool, true, false, true≢false, Option, Some, None, sym, refl, ap, ◌∙◌, subst, arith, length-set, get_or-set_other, get_or-set_same}
use Rattle.std.specs.List.{AllByRecursion}
use Rattle.std.proofs.lemmas.List.{append-nil}
use mathlib.Core.Logic.{dite}
use mathlib.Core.Option.{Option as Maybe, some, none, some-injective, some-ne-none}
use native.Mathlib.Decide.{ℕ_discrete}
use lib.ListN.{get_elem?}
use lib.Seq.{set-get_or}
use prog.Atomic.{either}
use Rattle.atomic_table.specs.Table.{State, Me, Act, Valid, carried_after, keeps, takes, gives, stepped, Allows, Splits, Joins}
use Rattle.atomic_table.proofs.Lists.{set_here, set_else, set_again, at_longer, exchanged}
use Rattle.turnstile.specs.declared.view.Account.{Account}
use Rattle.turnstile.specs.declared.view.View.{View}
use Rattle.turnstile.specs.History.{Covers}
use Rattle.turnstile.specs.Seats.{first_view, spent, split_left, split_right, joined_with, stands}
use Rattle.turnstile.specs.Rule.{one, live_count, AreApart, account_in, GoesOn, IsSound, IsOrderly, Takes, ReturnsSlot, TakesSlot, Publishes, Frees, Stays, StaysFirst}
use Rattle.turnstile.proofs.HistoryLemmas.{all_weaker, all_both, all_append, all_left, own_over, covers_more, covers_whole}
use Rattle.turnstile.proofs.ViewLemmas.{not_true, off, set_at, live_count-set, live_count-set_live, live_count-push, one_live, two_live, same_first, each_set, each_push, AllApart, apart_set, apart_push, OthersWait, others_wait}

module _ {T E : Type 0} (number_of : E → ℕ) (history : T → List E) where
  abbrev Table : Type 0
  Table = State (Option T) (View E)

  abbrev Place : Type 0
  Place = Me (Option T) (View E)

  abbrev Rule : Table → Type 0
  Rule = IsOrderly number_of history

  abbrev turn : Table → ℕ
  turn s = get_or s.words 0 0

  -- what the rule says of a number that the seat v joined, where the first seat made so many
  abbrev IsJoined : List E → ℕ → View E → Account E → Type 0
  IsJoined log made v a = Covers number_of log a × (a.number ≤ made) × (a.number ≢ v.number)

  abbrev IsMade : ℕ → E → Type 0
  IsMade made e = number_of e ≤ made

  -- the history goes on with entries of the seat's number, and the seat sees some of it, while no other seat has the turn
  sees_more : (s : Table) (r : Rule s) (id : ℕ) (v : View E) → get_elem? s.views id ≡ some v → v.is_live ≡ true → OthersWait s.views id
      → (ws : List ℕ) (hs : List (Maybe (Option T))) (log more seen : List E) (b k : Bool) → log ≡ r.log ++ more
      → length ws ≡ 4
      → get_or ws 1 0 ≡ length log
      → (get_or ws 0 0 ≡ 0 → (x : T) × (get_elem? hs 0 ≡ some (some (Some x))) × (history x ≡ log))
      → (b ≡ true → (get_or ws 0 0 ≢ 0) × (seen ≡ log))
      → (get_or ws 0 0 ≢ 0 → (b ≡ true) × (k ≡ false → get_elem? hs 0 ≡ some (some None)))
      → AllByRecursion (λ e. number_of e ≡ v.number) more
      → Covers number_of log (record { number = v.number; seen = seen })
      → Rule record { words = ws; homes = hs; views = set s.views id (stands v seen b k) }
  sees_more s r id v at live wait ws hs log more seen b k grown wide published home mine taken of covers =
      let w : View E = stands v seen b k in
      let f = same_first s.views id v w r.first at r.at_first (refl, refl, refl, refl) in
      let below : (n : ℕ) → n ≤ r.first.made → n ≤ f.0.made = λ n le. subst (λ m. n ≤ m) (sym f.2.1) le in
      let on : (a : Account E) → a.number ≢ v.number → Covers number_of r.log a → Covers number_of log a = λ a ne c. subst (λ l. Covers number_of l a) (sym grown) (covers_more number_of v.number r.log more a ne of c) in
      let g = r.sound id v at live in
      record {
        log = log;
        first = f.0;
        wide = wide;
        published = published;
        home = home;
        taken = λ h. let o = taken h in (id, w, set_at s.views id v w at, o.0, live, o.1);
        at_first = f.1;
        is_first = (f.2.0 ∙ r.is_first.0, f.2.3 ∙ r.is_first.1);
        sound = each_set (λ j d. d.is_live ≡ true → IsSound number_of (get_or ws 0 0) f.0.made log d) s.views id w
            (λ _. record {
              has_turn = mine;
              number_made = below v.number g.number_made;
              covers = covers;
              joined = all_weaker (IsJoined r.log r.first.made v) (IsJoined log f.0.made v) (λ a h. (on a h.2 h.0, below a.number h.1, h.2)) v.joined g.joined;
            })
            (λ j d ne at' live'. let q = r.sound j d at' live' in let to = r.apart id j v d at at' (λ e. ne (sym e)) live live' in let from = r.apart j id d v at' at ne live' live in
            record {
              has_turn = λ busy. absurd (wait j d ne at' live' busy);
              number_made = below d.number q.number_made;
              covers = on (account_in d) to.1 q.covers;
              joined = all_both (IsJoined r.log r.first.made d) (λ (a : Account E). a.number ≢ v.number) (IsJoined log f.0.made d) (λ a h n. (on a n h.0, below a.number h.1, h.2)) d.joined q.joined from.2;
            });
        apart = apart_set s.views id w r.apart (λ j d ne at'. (
          (λ l l'. let to = r.apart id j v d at at' (λ e. ne (sym e)) l l' in ((λ _. not_true d.has_turn (wait j d ne at' l')), to.1, to.2)),
          (λ l' l. let from = r.apart j id d v at' at ne l' l in ((λ busy. absurd (wait j d ne at' l' busy)), from.1, from.2)),
        ));
        numbers = subst (λ l. AllByRecursion (IsMade f.0.made) l) (sym grown) (all_append (IsMade f.0.made) r.log more (all_weaker (IsMade r.first.made) (IsMade f.0.made) (λ e h. below (number_of e) h) r.log r.numbers)
            (all_weaker (λ e. number_of e ≡ v.number) (IsMade f.0.made) (λ e h. subst (λ n. n ≤ f.0.made) (sym h) (below v.number g.number_made)) more of));
        counted = let c = r.counted in let l = live_count-set_live s.views id v w at live live in let m = f.2.1 in let j = ap (length {A = Account E}) f.2.2 in omega arith;
      }

  -- the words change, but not the length, and the turn stays taken
  keeps_taken : (s : Table) (r : Rule s) (ws : List ℕ) → length ws ≡ 4 → get_or ws 1 0 ≡ get_or s.words 1 0 → turn s ≢ 0 → get_or ws 0 0 ≢ 0 → Rule record { words = ws; homes = s.homes; views = s.views }
  keeps_taken s r ws wide same was now = record {
    log = r.log;
    first = r.first;
    wide = wide;
    published = same ∙ r.published;
    home = λ z. absurd (now z);
    taken = λ _. r.taken was;
    at_first = r.at_first;
    is_first = r.is_first;
    sound = λ j d at live. let g = r.sound j d at live in record { has_turn = λ b. (now, (g.has_turn b).1); number_made = g.number_made; covers = g.covers; joined = g.joined };
    apart = r.apart;
    numbers = r.numbers;
    counted = r.counted;
  }

  -- the words that the rule speaks of stay
  keeps_words : (s : Table) (r : Rule s) (ws : List ℕ) → length ws ≡ 4 → get_or ws 0 0 ≡ turn s → get_or ws 1 0 ≡ get_or s.words 1 0 → Rule record { words = ws; homes = s.homes; views = s.views }
  keeps_words s r ws wide same length_same = record {
    log = r.log;
    first = r.first;
    wide = wide;
    published = length_same ∙ r.published;
    home = λ z. r.home (sym same ∙ z);
    taken = λ ne. r.taken (λ z. ne (same ∙ z));
    at_first = r.at_first;
    is_first = r.is_first;
    sound = λ j d at live. let g = r.sound j d at live in record { has_turn = λ b. ((λ z. (g.has_turn b).0 (sym same ∙ z)), (g.has_turn b).1); number_made = g.number_made; covers = g.covers; joined = g.joined };
    apart = r.apart;
    numbers = r.numbers;
    counted = r.counted;
  }

  goes_on : (s : Table) (r : Rule s) (id : ℕ) (v : View E) (log : List E) → get_elem? s.views id ≡ some v → v.is_live ≡ true → log ≡ r.log → GoesOn number_of v log
  goes_on s r id v log at live same = let g = r.sound id v at live in subst (λ l. GoesOn number_of v l) (sym same)
      (g.covers, all_weaker (IsJoined r.log r.first.made v) (Covers number_of r.log) (λ a h. h.0) v.joined g.joined)

  abbrev TakesSo : (s : Table) → (id : ℕ) → Place → ℕ → ℕ → Type 0
  TakesSo s id m k found = (w : View E) × (a : Act (Option T)) × Valid s.homes m.1 a × Rule (stepped s 0 k id m.1 w a) × Takes number_of history m found (w, carried_after m.1 a)

  -- the turn was free, and is now this seat's
  takes_free : (s : Table) (r : Rule s) (id : ℕ) (m : Place) → m.0.is_live ≡ true → get_elem? s.views id ≡ some m.0 → turn s ≡ 0 → (k found : ℕ) → k ≢ 0 → found ≡ 0 → TakesSo s id m k found
  takes_free s r id m live at free k found some_k none_had = let h = r.home free in let wide = r.wide in
      let long : length (set s.words 0 k) ≡ 4 = length-set s.words 0 k ∙ wide in
      let now : get_or (set s.words 0 k) 0 0 ≡ k = get_or-set_same s.words 0 k 0 (omega arith) in
      let taken : get_or (set s.words 0 k) 0 0 ≢ 0 = λ z. some_k (sym now ∙ z) in (
        stands m.0 (history h.0) true true,
        takes 0 (Some h.0),
        h.1,
        sees_more s r id m.0 at live (λ j d ne at' live' busy. ((r.sound j d at' live').has_turn busy).0 free) (set s.words 0 k) (set s.homes 0 none) (history h.0) [] (history h.0) true true (h.2 ∙ sym (append-nil r.log)) long
            (get_or-set_other s.words 0 1 k 0 (λ e. omega arith) ∙ (r.published ∙ ap (length {A = E}) (sym h.2)))
            (λ z. absurd (taken z)) (λ _. (taken, refl)) (λ _. (refl, (λ e. absurd (true≢false e)))) tt (covers_whole number_of m.0.number (history h.0)),
        ((λ _. (h.0, refl, refl, goes_on s r id m.0 (history h.0) at live h.2)), λ ne. absurd (ne none_had)),
      )

  -- the turn stays another's, and the word stays taken
  misses : (s : Table) (r : Rule s) (id : ℕ) (m : Place) → get_elem? s.views id ≡ some m.0 → turn s ≢ 0 → (k found : ℕ) → k ≢ 0 → found ≢ 0 → TakesSo s id m k found
  misses s r id m at held k found some_k some_found = let wide = r.wide in
      let now : get_or (set s.words 0 k) 0 0 ≡ k = get_or-set_same s.words 0 k 0 (omega arith) in (
        m.0,
        keeps,
        tt,
        subst (λ (vs : List (View E)). Rule record { words = set s.words 0 k; homes = s.homes; views = vs }) (sym (set_again s.views id m.0 at))
            (keeps_taken s r (set s.words 0 k) (length-set s.words 0 k ∙ wide) (get_or-set_other s.words 0 1 k 0 (λ e. omega arith)) held (λ z. some_k (sym now ∙ z))),
        ((λ z. absurd (some_found z)), λ _. refl),
      )

  pub takes_by_swap : (slots id : ℕ) (m : Place) → m.0.is_live ≡ true → Allows Rule slots id m 0 (λ _. 2) (Takes number_of history m)
  takes_by_swap slots id m live s r _ at _ = dite (ℕ_discrete (turn s) 0)
      (λ free. takes_free s r id m live at free 2 (turn s) (λ e. omega arith) free)
      (λ held. misses s r id m at held 2 (turn s) (λ e. omega arith) held)

  pub takes_by_exchange : (slots id : ℕ) (m : Place) → m.0.is_live ≡ true → Allows Rule slots id m 0 (λ n. either (eqb n 0) 1 n) (Takes number_of history m)
  takes_by_exchange slots id m live s r _ at _ = exchanged (turn s) 0 1 (λ k. TakesSo s id m k (turn s))
      (λ free. takes_free s r id m live at free 1 (turn s) (λ e. omega arith) free)
      (λ held. misses s r id m at held (turn s) (turn s) held held)

  -- a seat with the turn looks at word 0, and its slot goes home or comes out, empty
  pub returns_slot : (id : ℕ) (m : Place) (v : View E) → m ≡ (v, (0, None) ∷ []) → v.is_live ≡ true → v.has_turn ≡ true → Allows Rule 1 id m 0 (λ n. n) (λ _. ReturnsSlot m)
  returns_slot id m v is live busy = subst (λ (m : Place). Allows Rule 1 id m 0 (λ n. n) (λ _. ReturnsSlot m)) (sym is) (λ s r sized at _.
      let g = r.sound id v at live in let b = g.has_turn busy in (
        stands v v.seen true false,
        gives,
        tt,
        subst (λ (ws : List ℕ). Rule record { words = ws; homes = set s.homes 0 (some None); views = set s.views id (stands v v.seen true false) }) (sym (set-get_or s.words 0 0))
            (sees_more s r id v at live (others_wait s.views id v r.apart at live busy) s.words (set s.homes 0 (some None)) v.seen [] v.seen true false (b.1 ∙ sym (append-nil r.log)) r.wide
            (r.published ∙ ap (length {A = E}) (sym b.1))
            (λ z. absurd (b.0 z)) (λ _. (b.0, refl)) (λ _. (refl, (λ _. set_here s.homes 0 (some None) (omega arith)))) tt (covers_whole number_of v.number v.seen)),
        (refl, refl),
      ))

  pub takes_slot : (slots id : ℕ) (m : Place) (v : View E) → m ≡ (v, []) → v.is_live ≡ true → v.has_turn ≡ true → v.has_slot ≡ false → Allows Rule slots id m 0 (λ n. n) (λ _. TakesSlot m)
  takes_slot slots id m v is live busy free = subst (λ (m : Place). Allows Rule slots id m 0 (λ n. n) (λ _. TakesSlot m)) (sym is) (λ s r _ at _.
      let g = r.sound id v at live in let b = g.has_turn busy in
      let h = r.taken b.0 in
      let mine : h.1 ≡ v = dite (ℕ_discrete h.0 id) (λ e. some-injective h.1 v (sym h.2 ∙ ap (get_elem? s.views) e ∙ at)) (λ ne. absurd (others_wait s.views id v r.apart at live busy h.0 h.1 ne h.2 h.4 h.3)) in (
        stands v v.seen true true,
        takes 0 None,
        h.5 (ap (λ u. u.has_slot) mine ∙ free),
        subst (λ (ws : List ℕ). Rule record { words = ws; homes = set s.homes 0 none; views = set s.views id (stands v v.seen true true) }) (sym (set-get_or s.words 0 0))
            (sees_more s r id v at live (others_wait s.views id v r.apart at live busy) s.words (set s.homes 0 none) v.seen [] v.seen true true (b.1 ∙ sym (append-nil r.log)) r.wide
            (r.published ∙ ap (length {A = E}) (sym b.1))
            (λ z. absurd (b.0 z)) (λ _. (b.0, refl)) (λ _. (refl, (λ e. absurd (true≢false e)))) tt (covers_whole number_of v.number v.seen)),
        (refl, refl),
      ))

  abbrev value_of : List E → List (ℕ × Option T) → List E
  value_of d ((k, Some y) ∷ l) = history y
  value_of d _ = d

  -- the length is published, with what the seat added
  pub publishes : (slots id : ℕ) (m : Place) (v : View E) (x : T) (more : List E) (n : ℕ) → m ≡ (v, (0, Some x) ∷ []) → v.is_live ≡ true → v.has_turn ≡ true → v.seen ++ more ≡ history x → AllByRecursion (λ e. number_of e ≡ v.number) more
      → n ≡ length (history x) → Allows Rule slots id m 1 (λ _. n) (λ _. Publishes history m)
  publishes slots id m v x more n is live busy grown of long = subst (λ (m : Place). Allows Rule slots id m 1 (λ _. n) (λ _. Publishes history m)) (sym is) (λ s r _ at _.
      let g = r.sound id v at live in let b = g.has_turn busy in let wide = r.wide in
      let log : List E = history x in
      let same : get_or (set s.words 1 n) 0 0 ≡ turn s = get_or-set_other s.words 1 0 n 0 (λ e. omega arith) in
      let taken : get_or (set s.words 1 n) 0 0 ≢ 0 = λ z. b.0 (sym same ∙ z) in (
        stands v log true true,
        keeps,
        tt,
        sees_more s r id v at live (others_wait s.views id v r.apart at live busy) (set s.words 1 n) s.homes log more log true true (sym grown ∙ ap (λ l. l ++ more) b.1) (length-set s.words 1 n ∙ wide)
            (get_or-set_same s.words 1 n 0 (omega arith) ∙ long)
            (λ z. absurd (taken z)) (λ _. (taken, refl)) (λ _. (refl, (λ e. absurd (true≢false e)))) of (covers_whole number_of v.number log),
        (λ y e. (ap (λ (l : List (ℕ × Option T)). stands v (value_of log l) true true) e, refl)),
      ))

  -- the turn is freed, and the value goes home
  pub frees : (id : ℕ) (m : Place) (v : View E) (x : T) → m ≡ (v, (0, Some x) ∷ []) → v.is_live ≡ true → v.has_turn ≡ true → history x ≡ v.seen → Allows Rule 1 id m 0 (λ _. 0) (λ _. Frees m)
  frees id m v x is live busy whole = subst (λ (m : Place). Allows Rule 1 id m 0 (λ _. 0) (λ _. Frees m)) (sym is) (λ s r sized at _.
      let g = r.sound id v at live in let b = g.has_turn busy in let wide = r.wide in
      let now : get_or (set s.words 0 0) 0 0 ≡ 0 = get_or-set_same s.words 0 0 0 (omega arith) in (
        stands v v.seen false false,
        gives,
        tt,
        sees_more s r id v at live (others_wait s.views id v r.apart at live busy) (set s.words 0 0) (set s.homes 0 (some (Some x))) v.seen [] v.seen false false (b.1 ∙ sym (append-nil r.log)) (length-set s.words 0 0 ∙ wide)
            (get_or-set_other s.words 0 1 0 0 (λ e. omega arith) ∙ (r.published ∙ ap (length {A = E}) (sym b.1)))
            (λ _. (x, set_here s.homes 0 (some (Some x)) (omega arith), whole)) (λ e. absurd (off e)) (λ ne. absurd (ne now)) tt (covers_whole number_of v.number v.seen),
        (refl, refl),
      ))

  -- a step on another word than the first two
  pub stays : (slots id : ℕ) (m : Place) (i : ℕ) (f : ℕ → ℕ) → 2 ≤ i → Allows Rule slots id m i f (λ _. Stays m)
  stays slots id m i f far s r _ at _ = let n : ℕ = f (get_or s.words i 0) in let wide = r.wide in (
    m.0,
    keeps,
    tt,
    subst (λ (vs : List (View E)). Rule record { words = set s.words i n; homes = s.homes; views = vs }) (sym (set_again s.views id m.0 at))
        (keeps_words s r (set s.words i n) (length-set s.words i n ∙ wide) (get_or-set_other s.words i 0 n 0 (λ e. omega arith)) (get_or-set_other s.words i 1 n 0 (λ e. omega arith))),
    refl,
  )

  -- the first seat is the one with number 0
  the_first : (s : Table) (r : Rule s) (id : ℕ) (v : View E) → get_elem? s.views id ≡ some v → v.number ≡ 0 → v.is_live ≡ true → (id ≡ 0) × (v ≡ r.first)
  the_first s r id v at number live = dite (ℕ_discrete id 0)
      (λ here. (here, some-injective v r.first (sym at ∙ ap (get_elem? s.views) here ∙ r.at_first)))
      (λ ne. absurd ((r.apart 0 id r.first v r.at_first at (λ e. ne (sym e)) r.is_first.1 live).1 (number ∙ sym r.is_first.0)))

  -- the first seat looks at what it made
  pub stays_first : (slots id : ℕ) (m : Place) → m.0.number ≡ 0 → m.0.is_live ≡ true → Allows Rule slots id m 0 (λ n. n) (λ _. StaysFirst number_of m)
  stays_first slots id m number live s r _ at _ = let f = the_first s r id m.0 at number live in let c = r.counted in
      let top : m.0.made ≡ r.first.made = ap (λ (u : View E). u.made) f.1 in
      let len = ap (λ (u : View E). length u.joined) f.1 in
      let some_live = one_live s.views id m.0 at live in
      let p = (r.sound id m.0 at live).covers.0 in (
        m.0,
        keeps,
        tt,
        subst (λ (z : List ℕ × List (View E)). Rule record { words = z.0; homes = s.homes; views = z.1 }) (λ i. (sym (set-get_or s.words 0 0) i, sym (set_again s.views id m.0 at) i)) r,
        (
          refl,
          omega arith,
          subst (λ k. AllByRecursion (IsMade k) m.0.seen) (sym top) (all_left (IsMade r.first.made) m.0.seen p.0 (subst (λ l. AllByRecursion (IsMade r.first.made) l) (sym p.1) r.numbers)),
        ),
      )

  pub splits : (id : ℕ) (v : View E) → v.number ≡ 0 → v.is_live ≡ true → Splits Rule id v (split_left v) (split_right v)
  splits id v number live s r at =
      let left : View E = split_left v in
      let right : View E = split_right v in
      let vs = set s.views id left in
      let top : v.made ≡ r.first.made = ap (λ (u : View E). u.made) (the_first s r id v at number live).1 in
      let here : id ≡ 0 = (the_first s r id v at number live).0 in
      let more : (n : ℕ) → n ≤ r.first.made → n ≤ v.made + 1 = λ n le. omega arith in
      let sounds : (d : View E) → IsSound number_of (turn s) r.first.made r.log d → IsSound number_of (turn s) (v.made + 1) r.log d = λ d g. record {
        has_turn = g.has_turn;
        number_made = more d.number g.number_made;
        covers = g.covers;
        joined = all_weaker (IsJoined r.log r.first.made d) (IsJoined r.log (v.made + 1) d) (λ a h. (h.0, more a.number h.1, h.2)) d.joined g.joined;
      } in
      let g = r.sound id v at live in
      let fresh : (d : View E) → IsSound number_of (turn s) r.first.made r.log d → AllByRecursion (λ (a : Account E). a.number ≢ v.made + 1) d.joined = λ d k.
      all_weaker (IsJoined r.log r.first.made d) (λ (a : Account E). a.number ≢ v.made + 1) (λ a h e. let le = h.1 in omega arith) d.joined k.joined in
      let beside : (j : ℕ) (d : View E) → get_elem? vs j ≡ some d → AreApart right d × AreApart d right = each_set (λ j d. AreApart right d × AreApart d right) s.views id left
      ((λ _ _. ((λ b. absurd (off b)), (λ e. let le = g.number_made in omega arith), tt)), (λ _ _. ((λ _. refl), (λ e. let le = g.number_made in omega arith), fresh v g)))
      (λ j d ne at'. ((λ _ l. let k = r.sound j d at' l in let le = k.number_made in ((λ b. absurd (off b)), (λ e. omega arith), tt)), (λ l _. let k = r.sound j d at' l in let le = k.number_made in ((λ _. refl), (λ e. omega arith), fresh d k)))) in
      let p = g.covers.0 in
      let seen_made : AllByRecursion (IsMade r.first.made) v.seen = all_left (IsMade r.first.made) v.seen p.0 (subst (λ l. AllByRecursion (IsMade r.first.made) l) (sym p.1) r.numbers) in
      record {
        log = r.log;
        first = left;
        wide = r.wide;
        published = r.published;
        home = r.home;
        taken = λ h. let k = r.taken h in dite (ℕ_discrete k.0 id)
            (λ same. let e : v ≡ k.1 = some-injective v k.1 (sym at ∙ ap (get_elem? s.views) (sym same) ∙ k.2) in
            (id, left, at_longer vs (right ∷ []) id left (set_at s.views id v left at), ap (λ (u : View E). u.has_turn) e ∙ k.3, live, (λ h. k.5 (ap (λ (u : View E). u.has_slot) (sym e) ∙ h))))
            (λ ne. (k.0, k.1, at_longer vs (right ∷ []) k.0 k.1 (set_else s.views id k.0 left ne ∙ k.2), k.3, k.4, k.5));
        at_first = at_longer vs (right ∷ []) 0 left (ap (get_elem? vs) (sym here) ∙ set_at s.views id v left at);
        is_first = (number, live);
        sound = each_push (λ j d. d.is_live ≡ true → IsSound number_of (turn s) (v.made + 1) r.log d) vs right
            (λ _. record {
              has_turn = λ b. absurd (off b);
              number_made = omega arith;
              covers = (p, own_over number_of v.made (v.made + 1) r.log (omega arith) (subst (λ m. AllByRecursion (IsMade m) r.log) (sym top) r.numbers) ∙ sym (own_over number_of v.made (v.made + 1) v.seen (omega arith) (subst (λ m. AllByRecursion (IsMade m) v.seen) (sym top) seen_made)));
              joined = tt;
            })
            (each_set (λ j d. d.is_live ≡ true → IsSound number_of (turn s) (v.made + 1) r.log d) s.views id left (λ _. let h = sounds v g in record { has_turn = h.has_turn; number_made = h.number_made; covers = h.covers; joined = h.joined }) (λ j d ne at' live'. sounds d (r.sound j d at' live')));
        apart = apart_push vs right (apart_set s.views id left r.apart (λ j d ne at'. (r.apart id j v d at at' (λ e. ne (sym e)), r.apart j id d v at' at ne))) beside;
        numbers = all_weaker (IsMade r.first.made) (IsMade (v.made + 1)) (λ e h. more (number_of e) h) r.log r.numbers;
        counted = let c = r.counted in let l = live_count-set_live s.views id v left at live live in let q = live_count-push vs right in let j = ap (λ (u : View E). length u.joined) (the_first s r id v at number live).1 in omega arith;
      }

  pub joins : (id : ℕ) (v : View E) (other : ℕ) (w : View E) → v.number ≡ 0 → v.is_live ≡ true → w.is_live ≡ true → w.has_turn ≡ false → Joins Rule id v other w (joined_with v w) spent
  joins id v other w number live live' free s r at ne there =
      let both : View E = joined_with v w in
      let vs = set s.views id both in
      let at' : get_elem? s.views other ≡ some w = sym (set_else s.views id other both ne) ∙ there in
      let en : id ≢ other = λ e. ne (sym e) in
      let here : id ≡ 0 = (the_first s r id v at number live).0 in
      let same : v ≡ r.first = (the_first s r id v at number live).1 in
      let top : v.made ≡ r.first.made = ap (λ (u : View E). u.made) same in
      let g = r.sound id v at live in
      let k = r.sound other w at' live' in
      let sounds : (d : View E) → IsSound number_of (turn s) r.first.made r.log d → IsSound number_of (turn s) v.made r.log d = λ d h. subst (λ m. IsSound number_of (turn s) m r.log d) (sym top) h in
      let K : ℕ → View E → Type 0 = λ j d. d.is_live ≡ true → IsSound number_of (turn s) v.made r.log d in
      let vw = r.apart id other v w at at' en live live' in
      let pairs : (k l : ℕ) (d x : View E) → k ≢ other → l ≢ other → get_elem? vs k ≡ some d → get_elem? vs l ≡ some x → k ≢ l → AreApart d x = λ k l d x nk nl ak al.
      each_set (λ k d. k ≢ other → k ≢ l → AreApart d x) s.views id both
      (λ _. each_set (λ l x. l ≢ other → id ≢ l → AreApart both x) s.views id both (λ _ no. absurd (no refl))
      (λ l x _ al' no nl' p q. let a = r.apart id l v x at al' nl' p q in (a.0, a.1, ((r.apart l other x w al' at' no q live').1, a.2))) l x al nl)
      (λ k d _ ak' _. each_set (λ l x. k ≢ l → AreApart d x) s.views id both (λ kl. r.apart k id d v ak' at kl) (λ l x _ al' kl. r.apart k l d x ak' al' kl) l x al)
      k d ak nk in
      record {
        log = r.log;
        first = both;
        wide = r.wide;
        published = r.published;
        home = r.home;
        taken = λ h. let b = r.taken h in
            let elsewhere : b.0 ≢ other = λ e. true≢false (sym b.3 ∙ ap (λ (u : View E). u.has_turn) (some-injective b.1 w (sym b.2 ∙ ap (get_elem? s.views) e ∙ at')) ∙ free) in dite (ℕ_discrete b.0 id)
            (λ mine. let e : v ≡ b.1 = some-injective v b.1 (sym at ∙ ap (get_elem? s.views) (sym mine) ∙ b.2) in
            (id, both, set_else vs other id spent en ∙ set_at s.views id v both at, ap (λ (u : View E). u.has_turn) e ∙ b.3, live, (λ h. b.5 (ap (λ (u : View E). u.has_slot) (sym e) ∙ h))))
            (λ not. (b.0, b.1, set_else vs other b.0 spent elsewhere ∙ (set_else s.views id b.0 both not ∙ b.2), b.3, b.4, b.5));
        at_first = ap (get_elem? (set vs other spent)) (sym here) ∙ (set_else vs other id spent en ∙ set_at s.views id v both at);
        is_first = (number, live);
        sound = each_set K vs other spent (λ l. absurd (off l)) (λ j d _. each_set K s.views id both
            (λ _. let h = sounds v g in record { has_turn = h.has_turn; number_made = h.number_made; covers = h.covers; joined = ((k.covers, subst (λ m. w.number ≤ m) (sym top) k.number_made, vw.1), h.joined) })
            (λ i x _ at'' l. sounds x (r.sound i x at'' l)) j d);
        apart = λ i j a b ai bj. each_set (λ k x. k ≢ j → AreApart x b) vs other spent (λ _ l. absurd (off l))
            (λ k d nk ak. each_set (λ l x. k ≢ l → AreApart d x) vs other spent (λ _ _ l. absurd (off l)) (λ l x nl al. pairs k l d x nk nl ak al) j b bj) i a ai;
        numbers = subst (λ m. AllByRecursion (IsMade m) r.log) (sym top) r.numbers;
        counted = let c = r.counted in let l = live_count-set_live s.views id v both at live live in let p = live_count-set vs other w spent there in let o = ap one live' in let j = ap (λ (u : View E). length u.joined) same in omega arith;
      }

  -- where the first seat has joined all that it made, the value is at home
  pub closes : (s : Table) (r : Rule s) (id : ℕ) (v : View E) → get_elem? s.views id ≡ some v → v.number ≡ 0 → v.is_live ≡ true → v.has_turn ≡ false → length v.joined ≡ v.made
      → (x : T) × (get_elem? s.homes 0 ≡ some (some (Some x))) × GoesOn number_of v (history x) × AllByRecursion (λ e. number_of e ≤ v.made) (history x)
  closes s r id v at number live free whole = let f = the_first s r id v at number live in let c = r.counted in
      let top : v.made ≡ r.first.made = ap (λ (u : View E). u.made) f.1 in
      let len = ap (λ (u : View E). length u.joined) f.1 in
      let alone : live_count s.views ≡ 1 = omega arith in
      dite (ℕ_discrete (turn s) 0)
      (λ none_has. let h = r.home none_has in (h.0, h.1, goes_on s r id v (history h.0) at live h.2, subst (λ (z : ℕ × List E). AllByRecursion (IsMade z.0) z.1) (λ i. (sym top i, sym h.2 i)) r.numbers))
      (λ taken. let b = r.taken taken in absurd (dite (ℕ_discrete b.0 id)
      (λ mine. true≢false (sym b.3 ∙ ap (λ (u : View E). u.has_turn) (some-injective b.1 v (sym b.2 ∙ ap (get_elem? s.views) mine ∙ at)) ∙ free))
      (λ not. let two = two_live s.views b.0 id b.1 v b.2 at not b.4 live in omega arith)))

  pub opens : (changes : ℕ) (x : T) → history x ≡ [] → Rule record { words = 0 ∷ 0 ∷ changes ∷ 0 ∷ []; homes = some (Some x) ∷ []; views = first_view ∷ [] }
  opens changes x empty = record {
    log = [];
    first = first_view;
    wide = refl;
    published = refl;
    home = λ _. (x, refl, empty);
    taken = λ ne. absurd (ne refl);
    at_first = refl;
    is_first = (refl, refl);
    sound = only;
    apart = alone;
    numbers = tt;
    counted = refl;
  }
    where
      only : (j : ℕ) (v : View E) → get_elem? (first_view ∷ []) j ≡ some v → v.is_live ≡ true → IsSound number_of 0 0 [] v
      only zero v e l = subst (IsSound number_of 0 0 []) (some-injective first_view v e) (record { has_turn = λ b. absurd (off b); number_made = omega arith; covers = (([], refl), refl); joined = tt })
      only (suc j) v e l = absurd (some-ne-none v (sym e))

      alone : AllApart {E = E} (first_view ∷ [])
      alone zero zero v w e f ne = absurd (ne refl)
      alone (suc i) j v w e f ne = absurd (some-ne-none v (sym e))
      alone zero (suc j) v w e f ne = absurd (some-ne-none w (sym f))
