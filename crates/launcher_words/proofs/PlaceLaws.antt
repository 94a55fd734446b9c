-- What a text tells of a rank's place.
use Rattle.std.proofs.Common.{◌≡◌, ℕ, zero, suc, ◌<◌, ◌≤◌, ◌^◌, false, List, [], ◌∷◌, length}
use Rattle.std.proofs.Common.{Option, Some, None, get_or, refl, sym, ap, ◌∙◌, subst, arith, inl, inr}
use Rattle.std.proofs.Common.{ne_eqb, IfSome}
use Rattle.std.specs.Fmt.{decimal}
use Rattle.std.specs.Net.Addr.{IsIpv4Addr, ipv4_octets}
use Rattle.std.specs.Net.Grammar.{IsIpv4Text}
use Rattle.std.specs.Net.Text.{ipv4_text}
use Rattle.std.specs.declared.net.ipv4_addr.Ipv4Addr.{Ipv4Addr}
use Rattle.std.proofs.lemmas.Fmt.{decimal_is_IsNumeral}
use Rattle.std.proofs.lemmas.List.Elements.{All-from_get_or, All-weaker}
use Rattle.std.proofs.lemmas.Str.Parse.{digit_at}
use Rattle.std.proofs.NetLemmas.Alphabet.{All-ipv4_text, IsDigitOrDot}
use Rattle.std.proofs.NetLemmas.Texts.{IsDotted-ipv4_text}
use Rattle.std.proofs.NetLemmas.Theorems.{IsIpv4Text_unique}
use Rattle.numerals.specs.Numbers.{number_between}
use Rattle.numerals.proofs.Numerals.{number_again, number_takes}
use Rattle.launcher_words.specs.declared.place.Tail.{Tail}
use Rattle.launcher_words.specs.declared.place.ToldPlace.{ToldPlace}
use Rattle.launcher_words.specs.Cuts.{IsPair, IsUncut, IsWithout, is_byte}
use Rattle.launcher_words.specs.Places.{IsPlace, IsTail, address_text, place_text, tail_text}
use Rattle.launcher_words.proofs.PairLaws.{same_pair}

each_fits : (a b c d k : ℕ) → (a < 256) × (b < 256) × (c < 256) × (d < 256) →
    get_or (a ∷ b ∷ c ∷ d ∷ []) k 0 < 256
each_fits a b c d zero fit = fit.0
each_fits a b c d (suc zero) fit = fit.1
each_fits a b c d (suc (suc zero)) fit = fit.2
each_fits a b c d (suc (suc (suc zero))) fit = fit.3
each_fits a b c d (suc (suc (suc (suc k)))) fit = omega arith

-- what is read as an address is its text
pub written_address : (text : List ℕ) (host : Ipv4Addr) → IsIpv4Text text host →
    IsIpv4Addr host × (text ≡ address_text host)
written_address text host is = (
  (
    ap (λ (o : List ℕ). length o) is.value,
    λ k.
        subst (λ (o : List ℕ). get_or o k 0 < 256) (sym is.value) (each_fits is.a is.b is.c is.d k is.fit),
  ),
  is.spelled ∙ sym (ap (λ (o : List ℕ). ipv4_text o) is.value),
)

address_is : (text : List ℕ) (host : Ipv4Addr) → IsIpv4Addr host → text ≡ address_text host → IsIpv4Text text host
address_is text host fits is =
    subst (λ (t : List ℕ). IsIpv4Text t host) (sym is) (IsDotted-ipv4_text (ipv4_octets host) fits.0 fits.1)

-- the text of an address is read as that address
pub read_address : (text : List ℕ) (found host : Ipv4Addr) → IsIpv4Text text found → IsIpv4Addr host →
    text ≡ address_text host → Some found ≡ Some host
read_address text found host read fits is =
    ap (λ (h : Ipv4Addr). Some h) (IsIpv4Text_unique text found host read (address_is text host fits is))

pub no_address : (text : List ℕ) (host : Ipv4Addr) → ((other : Ipv4Addr) → IsIpv4Text text other → ⊥) →
    IsIpv4Addr host → text ≡ address_text host → ⊥
no_address text host none fits is = none host (address_is text host fits is)

-- no colon stands in an address, nor in a number
plain_byte : (byte : ℕ) → IsDigitOrDot byte → is_byte 58 byte ≡ false
plain_byte byte (inl range) = ne_eqb byte 58 (λ e. omega (arith, e, range.0, range.1))
plain_byte byte (inr dot) = ne_eqb byte 58 (λ e. omega (arith, e, dot))

address_plain : (host : Ipv4Addr) → IsIpv4Addr host → IsWithout 58 (address_text host)
address_plain host fits =
    All-weaker IsDigitOrDot (λ byte. is_byte 58 byte ≡ false) plain_byte (address_text host)
    (All-ipv4_text (ipv4_octets host) fits.1)

number_plain : (n : ℕ) → n < 2 ^ 64 → IsWithout 58 (decimal n)
number_plain n fits =
    All-from_get_or (λ byte. is_byte 58 byte ≡ false) (decimal n) 0
    (λ i h. plain_byte (get_or (decimal n) i 0) (inl (digit_at (decimal n) i (decimal_is_IsNumeral n fits).0.1 h)))

-- numbers
pub written_number : (text : List ℕ) (low high n : ℕ) → high < 2 ^ 64 → number_between text low high ≡ Some n →
    (low ≤ n) × (n ≤ high) × (text ≡ decimal n)
written_number text low high n fits is =
    let told = number_takes text low high n fits is in (told.least, told.most, told.spelled)

pub read_number : (text : List ℕ) (low high n : ℕ) → high < 2 ^ 64 → low ≤ n → n ≤ high → text ≡ decimal n →
    number_between text low high ≡ Some n
read_number text low high n fits least most is =
    ap (λ (t : List ℕ). number_between t low high) is ∙ number_again low high n fits least most

pub written_job : (text : List ℕ) (found : Option ℕ) → found ≡ number_between text 0 18446744073709551615 →
    IfSome found (λ job. text ≡ decimal job)
written_job text None is = tt
written_job text (Some job) is = (written_number text 0 18446744073709551615 job (omega arith) (sym is)).2

-- what stands behind the address of rank 0
pub no_first_tail : (text : List ℕ) (port : ℕ) (job : Option ℕ) → IsUncut 58 text → IsTail 0 port job →
    text ≡ tail_text port job → ⊥
no_first_tail text port None uncut may is = omega (arith, may.fits)
no_first_tail text port (Some job) uncut may is =
    uncut (decimal port) (decimal job) (record { spelled = is; first = number_plain port (omega (arith, may.most)) })

-- its parts
pub record AreParts (port : ℕ) (job : Option ℕ) (head rest : List ℕ) : Type 0 where
  pub number : ℕ
  pub is : job ≡ Some number
  pub fits : number < 2 ^ 64
  pub front : head ≡ decimal port
  pub behind : rest ≡ decimal number

pub parts_of_first : (text front behind : List ℕ) (port : ℕ) (job : Option ℕ) → IsPair 58 text front behind →
    IsTail 0 port job → text ≡ tail_text port job → AreParts port job front behind
parts_of_first text front behind port None pair may is = absurd (omega (arith, may.fits))
parts_of_first text front behind port (Some job) pair may is =
    let same = same_pair 58 text front behind (decimal port) (decimal job) pair
    (record { spelled = is; first = number_plain port (omega (arith, may.most)) }) in
    record { number = job; is = refl; fits = may.fits.1; front = same.0; behind = same.1 }

pub same_tail : (p q : ℕ) (j k : Option ℕ) → Some p ≡ Some q → j ≡ k →
    ◌≡◌ {A = Option Tail} (Some (record { port = p; job = j })) (Some (record { port = q; job = k }))
same_tail p q j k ports jobs =
    let port : p ≡ q = cc in ap (λ (t : Tail). Some t) (λ i. record { port = port i; job = jobs i })

-- a whole place
pub no_place : (text : List ℕ) (rank : ℕ) (place : ToldPlace) → IsUncut 58 text → IsPlace rank place →
    text ≡ place_text place → ⊥
no_place text rank place uncut may is =
    uncut (address_text place.host) (tail_text place.port place.job)
    (record { spelled = is; first = address_plain place.host may.host })

pub parts_of_place : (text front behind : List ℕ) (rank : ℕ) (place : ToldPlace) → IsPair 58 text front behind →
    IsPlace rank place → text ≡ place_text place →
    (front ≡ address_text place.host) × (behind ≡ tail_text place.port place.job)
parts_of_place text front behind rank place pair may is =
    same_pair 58 text front behind (address_text place.host) (tail_text place.port place.job) pair
    (record { spelled = is; first = address_plain place.host may.host })

pub same_place : (h : Ipv4Addr) (t : Tail) (place : ToldPlace) → Some h ≡ Some place.host →
    Some t ≡ Some (record { port = place.port; job = place.job }) →
    ◌≡◌ {A = Option ToldPlace} (Some (record { host = h; port = t.port; job = t.job })) (Some place)
same_place h t place hosts tails =
    let host : h ≡ place.host = cc in
    let tail : t ≡ record { port = place.port; job = place.job } = cc in
    ap (λ (p : ToldPlace). Some p) (λ i. record { host = host i; port = (tail i).port; job = (tail i).job })
