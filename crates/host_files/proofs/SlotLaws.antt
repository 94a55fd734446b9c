-- Slots that are filled again and again, one rank more at a time; names of nodes, one more at a time.
use Rattle.std.proofs.Common.{◌≡◌, ℕ, zero, suc, ◌+◌, ◌%◌, List, [], ◌∷◌, ◌++◌, length, map, slice_index, ap, ◌∙◌, arith}
use Rattle.std.specs.List.{range_with_len}
use Rattle.std.proofs.lemmas.List.{map-append}
use Rattle.host_files.specs.Lines.{Word}
use Rattle.host_files.specs.Nodes.{first_names, padded}
use Rattle.host_files.specs.Slots.{slots_again}
use Rattle.host_files.specs.declared.nodes.NodeRange.{NodeRange}

range_suc : (a n : ℕ) → range_with_len a (suc n) ≡ range_with_len a n ++ (a + n) ∷ []
range_suc a zero = ap (λ (x : ℕ). x ∷ []) (omega arith)
range_suc a (suc n) =
    ap (λ (t : List ℕ). a ∷ t) (range_suc (a + 1) n ∙ ap (λ (x : ℕ). range_with_len (a + 1) n ++ x ∷ []) (omega arith))

range_more : (n : ℕ) → range_with_len 0 (n + 1) ≡ range_with_len 0 n ++ n ∷ []
range_more n = let e : n + 1 ≡ suc n = omega arith in ap (λ (k : ℕ). range_with_len 0 k) e ∙
    (range_suc 0 n ∙ ap (λ (x : ℕ). range_with_len 0 n ++ x ∷ []) (omega arith))

mapped_more : (f : ℕ → ℕ) (n : ℕ) → map f (range_with_len 0 (n + 1)) ≡ map f (range_with_len 0 n) ++ f n ∷ []
mapped_more f n = ap (λ (l : List ℕ). map f l) (range_more n) ∙ map-append f (range_with_len 0 n) (n ∷ [])

mapped_from : (f : ℕ → Word) (a n : ℕ) → map f (range_with_len a (n + 1)) ≡ map f (range_with_len a n) ++ f (a + n) ∷ []
mapped_from f a n = let e : n + 1 ≡ suc n = omega arith in ap (λ (k : ℕ). map f (range_with_len a k)) e ∙
    (ap (λ (l : List ℕ). map f l) (range_suc a n) ∙ map-append f (range_with_len a n) ((a + n) ∷ []))

-- with the name of the next node there is one more
pub names_more : (front : Word) (range : NodeRange) (count : ℕ) →
    first_names front range (count + 1)
    ≡ first_names front range count ++ (front ++ padded range.width (range.low + count)) ∷ []
names_more front range count = mapped_from (λ number. front ++ padded range.width number) range.low count

-- with the slot of the next rank there is one more
pub slots_more : (slots : List ℕ) (size : ℕ) →
    slots_again slots (size + 1) ≡ slots_again slots size ++ slice_index slots (size % length slots) ∷ []
slots_more slots size = mapped_more (λ rank. slice_index slots (rank % length slots)) size
