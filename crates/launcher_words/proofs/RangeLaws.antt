-- What a text tells of a range of ports.
use Rattle.std.proofs.Common.{◌≡◌, ℕ, ◌<◌, ◌≤◌, false, List, Option, Some, get_or, ap, arith, ne_eqb}
use Rattle.std.specs.Fmt.{decimal}
use Rattle.std.specs.Int.{IsInRange}
use Rattle.std.proofs.lemmas.Fmt.{decimal_is_IsNumeral}
use Rattle.std.proofs.lemmas.List.Elements.{All-from_get_or}
use Rattle.std.proofs.lemmas.Str.Parse.{digit_at}
use Rattle.launcher_words.specs.declared.ports.PortRange.{PortRange}
use Rattle.launcher_words.specs.Cuts.{IsPair, IsUncut, IsWithout, is_byte}
use Rattle.launcher_words.specs.Ports.{IsRange, range_text}
use Rattle.launcher_words.proofs.PairLaws.{same_pair}

-- no `-` stands in a number
no_dash : (byte : ℕ) → IsInRange 48 57 byte → is_byte 45 byte ≡ false
no_dash byte range = ne_eqb byte 45 (λ e. omega (arith, e, range.0, range.1))

without_dash : (n : ℕ) → n ≤ 65535 → IsWithout 45 (decimal n)
without_dash n fits =
    All-from_get_or (λ byte. is_byte 45 byte ≡ false) (decimal n) 0
    (λ i h.
    no_dash (get_or (decimal n) i 0)
    (digit_at (decimal n) i (decimal_is_IsNumeral n (omega (arith, fits))).0.1 h))

pair_of_range : (text : List ℕ) (range : PortRange) → IsRange range → text ≡ range_text range →
    IsPair 45 text (decimal range.first) (decimal range.last)
pair_of_range text range may is =
    record { spelled = is; first = without_dash range.first (omega (arith, may.order, may.most)) }

pub no_range : (text : List ℕ) (range : PortRange) → IsUncut 45 text → IsRange range → text ≡ range_text range → ⊥
no_range text range uncut may is = uncut (decimal range.first) (decimal range.last) (pair_of_range text range may is)

-- its two numbers
pub record AreEnds (range : PortRange) (head rest : List ℕ) : Type 0 where
  pub front : head ≡ decimal range.first
  pub behind : rest ≡ decimal range.last
  pub least : 1 ≤ range.last
  pub most : range.first ≤ 65535

pub ends_of_range : (text head rest : List ℕ) (range : PortRange) → IsPair 45 text head rest → IsRange range →
    text ≡ range_text range → AreEnds range head rest
ends_of_range text head rest range pair may is =
    let same = same_pair 45 text head rest (decimal range.first) (decimal range.last) pair
    (pair_of_range text range may is) in
    record {
      front = same.0;
      behind = same.1;
      least = omega (arith, may.least, may.order);
      most = omega (arith, may.order, may.most);
    }

pub same_range : (first last : ℕ) (range : PortRange) → Some first ≡ Some range.first → Some last ≡ Some range.last →
    ◌≡◌ {A = Option PortRange} (Some (record { first = first; last = last })) (Some range)
same_range first last range firsts lasts =
    let low : first ≡ range.first = cc in
    let high : last ≡ range.last = cc in
    ap (λ (r : PortRange). Some r) (λ i. record { first = low i; last = high i })

pub not_in_order : (first last : ℕ) (range : PortRange) → Some first ≡ Some range.first →
    Some last ≡ Some range.last → last < first → IsRange range → ⊥
not_in_order first last range firsts lasts wrong may =
    let low : first ≡ range.first = cc in
    let high : last ≡ range.last = cc in
    omega (arith, low, high, wrong, may.order)
