-- Steps of turning the bytes of elements round.
use Rattle.std.proofs.Common.{◌≡◌, ℕ, zero, suc, ◌+◌, ◌*◌, ◌/◌, ◌%◌, List, ◌++◌, length, take, drop}
use Rattle.std.proofs.Common.{sym, ap, ◌∙◌, arith}
use Rattle.std.proofs.Math.Nat.{add-mul}
use Rattle.std.proofs.lemmas.List.{append-nil, length-append, take_at, drop_all, drop_at, drop-drop}
use Rattle.byteorder.specs.Endian.{little_number}
use Rattle.byteorder.specs.Numbers.{length-bytes_high_first}
use Rattle.datatypes.specs.ContentLaws.{whole}
use Rattle.c_rank.specs.Elements.{turned, turned_at, turned_to}

-- one element more
pub next_of : (k size : ℕ) → (k + 1) * size ≡ k * size + size
next_of k size = let e = add-mul k 1 size in omega (arith, e)

pub length-turned_to : (size : ℕ) (bytes : List ℕ) (k : ℕ) → length (turned_to size bytes k) ≡ k * size
length-turned_to size bytes zero = let e : 0 * size ≡ 0 = omega arith in sym e
length-turned_to size bytes (suc k) =
    let h = length-turned_to size bytes k in
    let one = length-bytes_high_first size (little_number size (drop (k * size) bytes)) in
    let e : suc k * size ≡ k * size + size = ap (λ (n : ℕ). n * size) (omega arith) ∙ next_of k size in
    length-append (turned_to size bytes k) (turned_at size bytes k) ∙ omega (arith, h, one, e)

-- the elements behind the first ones are as they were
pub turned_step : (size k : ℕ) (bytes old into new : List ℕ) →
    into ≡ turned_to size bytes k ++ drop (k * size) old →
    new ≡ take (k * size) into ++ turned_at size bytes k ++ drop (k * size + size) into →
    new ≡ turned_to size bytes (k + 1) ++ drop ((k + 1) * size) old
turned_step size k bytes old into new is made =
    let front = turned_to size bytes k in
    let rest = drop (k * size) old in
    let len = length-turned_to size bytes k in
    let first : take (k * size) into ≡ front = ap (take (k * size)) is ∙ take_at front rest (k * size) len in
    let last : drop (k * size + size) into ≡ drop ((k + 1) * size) old =
    ap (drop (k * size + size)) is
    ∙ sym (drop-drop size (k * size) (front ++ rest))
    ∙ ap (drop size) (drop_at front rest (k * size) len)
    ∙ drop-drop size (k * size) old
    ∙ ap (λ (n : ℕ). drop n old) (sym (next_of k size))
    in
    let more : front ++ turned_at size bytes k ≡ turned_to size bytes (k + 1) =
    ap (turned_to size bytes) (let e : suc k ≡ k + 1 = omega arith in e)
    in
    made
    ∙ ap (λ (t : List ℕ). t ++ turned_at size bytes k ++ drop (k * size + size) into) first
    ∙ ap (λ (t : List ℕ). front ++ turned_at size bytes k ++ t) last
    ∙ ap (λ (t : List ℕ). t ++ drop ((k + 1) * size) old) more

-- whole elements that fill what they are put over
pub turned_all : (size k : ℕ) (from old new : List ℕ) → length from % size ≡ 0 → length from ≡ length old →
    k ≡ length from / size → new ≡ turned_to size from k ++ drop (k * size) old → new ≡ turned size from
turned_all size k from old new no_rest same end is =
    let all : length from ≡ k * size = whole size from no_rest ∙ ap (λ (n : ℕ). n * size) (sym end) in
    is
    ∙ ap (λ (t : List ℕ). turned_to size from k ++ t) (drop_all (k * size) old (omega (arith, all, same)))
    ∙ append-nil (turned_to size from k)
    ∙ ap (turned_to size from) end
