-- Lemmas on sets of ranks as bits.
use Rattle.std.proofs.Common.{◌≡◌, ◌≢◌, ℕ, ◌+◌, ◌*◌, ◌/◌, ◌%◌, ◌^◌, ◌<◌, ◌≤◌, Bool, true, false, List, length, get_or, set, replicate, bit_or, w64, ap, take, ◌||◌, refl, sym, ◌∙◌, subst, inl, inr, arith, nat_eq}
use Rattle.std.specs.Int.{bit_at}
use Rattle.std.proofs.lemmas.Bool.{eq-eqb, ne_eqb, cases_eq, cases_lt, or_left, or_right}
use Rattle.std.proofs.lemmas.List.{get_or-set_same, get_or-set_other, get_or-replicate, get_or_past, length-replicate}
use Rattle.std.proofs.lemmas.Nat.Bits.{bit_at-zero, bit_at_set_same, bit_at_set_other}
use Rattle.std.proofs.lemmas.List.Folds.{list_any_more}
use Rattle.groups.specs.RankSets.{is_marked, Marks}
use Rattle.groups.specs.Groups.{is_member}

-- words of zeros, as read at any place
get_or-zeros : (n i : ℕ) → ◌≡◌ {A = ℕ} (get_or (replicate n 0) i 0) 0
get_or-zeros n i =
    elim (cases_lt i n) [ inl below ↦ get_or-replicate n i 0 0 below | inr past ↦ get_or_past (replicate n 0) i 0 (rw length-replicate past) ]

-- no rank is marked in words of zeros
pub is_marked-zeros : (n rank : ℕ) → is_marked (replicate n 0) rank ≡ false
is_marked-zeros n rank = rw (get_or-zeros n (rank / 64), bit_at-zero (rank % 64)) refl

-- the word that holds a rank's bit, with that bit set
abbrev with_bit : ℕ → ℕ → ℕ
with_bit word k = bit_or word (1 * 2 ^ k % 2 ^ 64)

-- another rank's bit
other_rank : (words : List ℕ) (rank other : ℕ) → rank / 64 < length words → other ≢ rank
    → is_marked (set words (rank / 64) (with_bit (get_or words (rank / 64) 0) (rank % 64))) other ≡ is_marked words other
other_rank words rank other within apart =
    elim (cases_eq (other / 64) (rank / 64)) [
      | inl same ↦ let bits_differ : other % 64 ≢ rank % 64 = λ h. apart (omega arith) in
          rw (same, get_or-set_same words (rank / 64) (with_bit (get_or words (rank / 64) 0) (rank % 64)) 0 within)
          (ap (λ bit. nat_eq bit 1) (bit_at_set_other w64 (get_or words (rank / 64) 0) (rank % 64) (omega arith) (other % 64) bits_differ))
      | inr differ ↦ rw (get_or-set_other words (rank / 64) (other / 64) (with_bit (get_or words (rank / 64) 0) (rank % 64)) 0 differ) refl
    ]

-- to set one bit marks one rank
pub Marks-set : (words : List ℕ) (rank i : ℕ) → i ≡ rank / 64 → i < length words
    → Marks words (set words i (with_bit (get_or words i 0) (rank % 64))) rank
Marks-set words rank i is within =
    let P : ℕ → Type 0 = λ j. j < length words → Marks words (set words j (with_bit (get_or words j 0) (rank % 64))) rank in
    subst P (sym is) (λ inside. record {
      marked = rw (get_or-set_same words (rank / 64) (with_bit (get_or words (rank / 64) 0) (rank % 64)) 0 inside, bit_at_set_same w64 (get_or words (rank / 64) 0) (rank % 64) (omega arith)) refl;
      others = λ other apart. other_rank words rank other inside apart;
    }) within

-- an `or` whose second part is false
or_false : (a b : Bool) → b ≡ false → (a || b) ≡ a
or_false true b h = refl
or_false false b h = h

-- a set of the first ranks of a list, and the next one marked in it
pub marks_more : (old new ranks : List ℕ) (i rank : ℕ) → i < length ranks → rank ≡ get_or ranks i 0
    → ((other : ℕ) → is_marked old other ≡ is_member (take i ranks) other) → Marks old new rank
    → (other : ℕ) → is_marked new other ≡ is_member (take (i + 1) ranks) other
marks_more old new ranks i rank within is so_far marks other =
    let more = list_any_more (λ member. nat_eq other member) ranks i 0 within in
    elim (cases_eq other rank) [
      | inl same ↦ let P : ℕ → Type 0 = λ r. is_marked new r ≡ true in
          subst P (sym same) marks.marked ∙ sym (more ∙ or_right _ _ (eq-eqb other (get_or ranks i 0) (same ∙ is)))
      | inr differ ↦ let not_here : nat_eq other (get_or ranks i 0) ≡ false = ne_eqb other (get_or ranks i 0) (λ h. differ (h ∙ sym is)) in
          marks.others other differ ∙ so_far other ∙ sym (more ∙ or_false (is_member (take i ranks) other) (nat_eq other (get_or ranks i 0)) not_here)
    ]
