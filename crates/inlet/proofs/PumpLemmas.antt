-- Reads of one call, one after another, and what they leave in the decoder.
use Rattle.std.proofs.Common.{◌≡◌, ℕ, ◌+◌, ◌<◌, ◌≤◌, Bool, true, false, List, [], ◌++◌, length, take, drop, refl, sym, ap, subst, ◌∙◌, arith, append_assoc, append-nil, length-append}
use Rattle.std.specs.Prelude.{Option, Some, None, IsSome, Ok}
use Rattle.std.proofs.lemmas.List.{take-append-drop}
use Rattle.outside_traits.specs.Source.{Reads}
use Rattle.outside_traits.specs.Told.{BothTold}
use Rattle.packet_framing.specs.Packets.{first_packet, after_first, rest_of, IsUnfinished}
use Rattle.packet_framing.proofs.PacketLemmas.{first_packet-completed, shorter}
use Rattle.inlet.specs.Pump.{Answers, Pumps}
use Rattle.inlet.specs.declared.pumping.Pumped.{Pumped}

-- ---- what is left of a source

-- the octets went from the front of what was left
abbrev pub Gave : Option (List ℕ) → List ℕ → Option (List ℕ) → Type 0
Gave old octets new = BothTold old new (λ before after. before ≡ octets ++ after)

pub gave-none : (left : Option (List ℕ)) → Gave left [] left
gave-none None = tt
gave-none (Some left) = refl

pub gave-read : (left left' : Option (List ℕ)) (n : ℕ) (buffer : List ℕ) → Reads left left' (Ok n) buffer → Gave left (take n buffer) left'
gave-read None None n buffer r = tt
gave-read (Some old) (Some new) n buffer r = sym (take-append-drop n old) ∙ ap (λ xs. xs ++ drop n old) (sym r.front) ∙ ap (λ xs. take n buffer ++ xs) (sym r.rest)
gave-read None (Some new) n buffer r = absurd r
gave-read (Some old) None n buffer r = absurd r

pub gave-both : (a b c : Option (List ℕ)) (first second : List ℕ) → Gave a first b → Gave b second c → Gave a (first ++ second) c
gave-both None None None first second p q = tt
gave-both (Some a) (Some b) (Some c) first second p q = p ∙ ap (λ xs. first ++ xs) q ∙ sym (append_assoc first second c)
gave-both None (Some b) c first second p q = absurd p
gave-both (Some a) None c first second p q = absurd p
gave-both None None (Some c) first second p q = absurd q
gave-both (Some a) (Some b) None first second p q = absurd q

-- ---- reads one after another

-- so much was read in a call, all of it is kept, and it makes no packet yet
pub record Going (left0 left1 : Option (List ℕ)) (kept0 kept1 : List ℕ) (taken0 taken1 : ℕ) : Type 0 where
  pub octets : List ℕ
  pub source : Gave left0 octets left1
  pub count : taken1 ≡ taken0 + length octets
  pub kept : kept1 ≡ kept0 ++ octets
  pub unfinished : IsUnfinished kept1

pub going-none : (left : Option (List ℕ)) (kept : List ℕ) (taken : ℕ) → IsUnfinished kept → Going left left kept kept taken taken
going-none left kept taken unfinished = record {
  octets = [];
  source = gave-none left;
  count = omega arith;
  kept = sym (append-nil kept);
  unfinished = unfinished;
}

-- a read was kept, and there is no packet yet
pub going-more : (left0 left1 left2 : Option (List ℕ)) (kept0 kept1 kept2 : List ℕ) (taken0 taken1 taken2 : ℕ) (octets : List ℕ)
    → Going left0 left1 kept0 kept1 taken0 taken1 → Gave left1 octets left2 → taken2 ≡ taken1 + length octets → kept2 ≡ kept1 ++ octets → IsUnfinished kept2
    → Going left0 left2 kept0 kept2 taken0 taken2
going-more left0 left1 left2 kept0 kept1 kept2 taken0 taken1 taken2 octets going source count kept unfinished = record {
  octets = going.octets ++ octets;
  source = gave-both left0 left1 left2 going.octets octets going.source source;
  count = let before = going.count in omega (arith, length-append going.octets octets);
  kept = kept ∙ ap (λ xs. xs ++ octets) going.kept ∙ append_assoc kept0 going.octets octets;
  unfinished = unfinished;
}

-- the answer on what was kept and read last is the answer on all
pub pumps-of : (left0 left1 left2 : Option (List ℕ)) (kept0 kept1 kept2 : List ℕ) (taken0 taken1 taken2 : ℕ) (octets : List ℕ) (ended : Bool) (result : Pumped)
    → Going left0 left1 kept0 kept1 taken0 taken1 → Gave left1 octets left2 → taken2 ≡ taken1 + length octets → Answers (kept1 ++ octets) kept2 taken2 ended result
    → Pumps left0 left2 kept0 kept2 taken0 taken2 ended result
pumps-of left0 left1 left2 kept0 kept1 kept2 taken0 taken1 taken2 octets ended result going source count answer =
    let all : kept1 ++ octets ≡ kept0 ++ (going.octets ++ octets) = ap (λ xs. xs ++ octets) going.kept ∙ append_assoc kept0 going.octets octets in record {
      octets = going.octets ++ octets;
      source = gave-both left0 left1 left2 going.octets octets going.source source;
      count = let before = going.count in omega (arith, length-append going.octets octets);
      answer = subst (λ xs. Answers xs kept2 taken2 ended result) all answer;
    }

-- nothing more was read
pub pumps-end : (left0 left1 : Option (List ℕ)) (kept0 kept1 kept2 : List ℕ) (taken0 taken1 : ℕ) (ended : Bool) (result : Pumped)
    → Going left0 left1 kept0 kept1 taken0 taken1 → Answers kept1 kept2 taken1 ended result → Pumps left0 left1 kept0 kept2 taken0 taken1 ended result
pumps-end left0 left1 kept0 kept1 kept2 taken0 taken1 ended result going answer = record {
  octets = going.octets;
  source = going.source;
  count = going.count;
  answer = subst (λ xs. Answers xs kept2 taken1 ended result) going.kept answer;
}

-- nothing was read at all
pub pumps-none : (left : Option (List ℕ)) (kept kept' : List ℕ) (taken : ℕ) (ended : Bool) (result : Pumped) → Answers kept kept' taken ended result → Pumps left left kept kept' taken taken ended result
pumps-none left kept kept' taken ended result answer = record {
  octets = [];
  source = gave-none left;
  count = omega arith;
  answer = subst (λ xs. Answers xs kept' taken ended result) (sym (append-nil kept)) answer;
}

-- ---- how many octets are kept

-- a read that makes a packet whole leaves few octets behind it
pub few-kept : (kept octets all payload rest : List ℕ) → IsUnfinished kept → 0 < length octets → length octets ≤ 4096 → all ≡ kept ++ octets → first_packet all ≡ Some (payload, rest) → length rest ≤ 4095
few-kept kept octets all payload rest unfinished some small is front =
    let less = first_packet-completed kept octets payload rest unfinished.no_packet (rw is at front) in omega arith

rest-length : (octets : List ℕ) (front : Option (List ℕ × List ℕ)) → first_packet octets ≡ front → IsSome front → length (rest_of octets front) < length octets
rest-length octets None e is = absurd (let h : false ≡ true = is in cc)
rest-length octets (Some taken) e is = let s = shorter octets taken.0 taken.1 e in omega arith

-- what is kept after a packet is less than before
pub after_first-length : (octets : List ℕ) → IsSome (first_packet octets) → length (after_first octets) < length octets
after_first-length octets is = rest-length octets (first_packet octets) refl is
