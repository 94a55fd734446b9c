-- Words and the addresses that they write.
use Rattle.std.proofs.Common.{◌≡◌, ◌↔◌, ℕ, zero, suc, ◌+◌, ◌<◌, ◌≤◌, Bool, true, false, List, [], ◌∷◌, ◌++◌}
use Rattle.std.proofs.Common.{length, get_or, drop, take, refl, sym, ap, subst, ◌∙◌, arith, map, replicate}
use Rattle.std.proofs.lemmas.List.{drop_more, map-append, take_more}
use Rattle.std.specs.Prelude.{cond, IsTrue, ◌==◌, if◌then◌else◌}
use Rattle.std.specs.Borrow.{Bor}
use Rattle.std.specs.Net.Addr.{ipv4_octets}
use Rattle.std.specs.Bool.{MatchBool}
use Rattle.std.specs.List.{AllWithin, HoldsAt, onto_first, slice_split}
use Rattle.std.specs.Net.Grammar.{IsIpv4Text}
use Rattle.std.specs.declared.net.ipv4_addr.Ipv4Addr.{Ipv4Addr}
use Rattle.rank_addresses.specs.HostLists.{AreAddresses, IsAddressText, IsHostList, IsNoHostList, Lists, is_comma}

-- where each word is an address, they are a list of as many
pub listed_by : (words : List (List ℕ)) → AreAddresses words →
    (hosts : List Ipv4Addr) × IsHostList words hosts × (length hosts ≡ length words)
listed_by [] all = ([], tt, refl)
listed_by (word ∷ words) all =
    let first = all 0 [] (omega arith) (omega arith) in
    let rest = listed_by words (λ k d low high. all (suc k) d (omega arith) (omega (arith, high))) in
    (first.0 ∷ rest.0, (first.1, rest.1), ap suc rest.2)

-- a list has as many addresses as words
pub as_many : (words : List (List ℕ)) (hosts : List Ipv4Addr) → IsHostList words hosts → length hosts ≡ length words
as_many [] [] is = refl
as_many [] (host ∷ hosts) is = absurd is
as_many (word ∷ words) [] is = absurd is
as_many (word ∷ words) (host ∷ hosts) is = ap suc (as_many words hosts is.1)

-- each word of a list is an address
pub each_listed : (words : List (List ℕ)) (hosts : List Ipv4Addr) (k : ℕ) (d : List ℕ) → k < length words →
    IsHostList words hosts → IsAddressText (get_or words k d)
each_listed [] hosts k d lt is = absurd (omega (arith, lt))
each_listed (word ∷ words) [] k d lt is = absurd is
each_listed (word ∷ words) (host ∷ hosts) zero d lt is = (host, is.0)
each_listed (word ∷ words) (host ∷ hosts) (suc k) d lt is = each_listed words hosts k d (omega (arith, lt)) is.1

-- one more word, and the address that it writes
pub one_more : (words : List (List ℕ)) (hosts : List Ipv4Addr) (word : List ℕ) (host : Ipv4Addr) →
    IsHostList words hosts → IsIpv4Text word host → IsHostList (words ++ word ∷ []) (hosts ++ host ∷ [])
one_more [] [] word host is more = (more, tt)
one_more [] (h ∷ hosts) word host is more = absurd is
one_more (w ∷ words) [] word host is more = absurd is
one_more (w ∷ words) (h ∷ hosts) word host is more = (is.0, one_more words hosts word host is.1 more)

-- an address in front of a list doesn't change how many parts there are but for a comma
pub longer_part : {X : Type 0} (x : X) (parts : List (List X)) → 0 < length parts →
    (length (onto_first x parts) ≡ length parts) × (0 < length (onto_first x parts))
longer_part x [] some = absurd (omega (arith, some))
longer_part x (part ∷ parts) some = (refl, omega arith)

some_parts : (p : ℕ → Bool) (xs : List ℕ) → 0 < length (slice_split p xs)
some_parts p [] = omega arith
some_parts p (x ∷ xs) =
    let go : (t : Bool) → 0 < length (cond t ([] ∷ slice_split p xs) (onto_first x (slice_split p xs))) =
    λ t. elim t as (λ t. 0 < length (cond t ([] ∷ slice_split p xs) (onto_first x (slice_split p xs)))) [
      | true ↦ omega arith
      | false ↦ (longer_part x (slice_split p xs) (some_parts p xs)).1
    ] in
    go (p x)

-- how many parts a text has, one byte more
pub parts_more : (p : ℕ → Bool) (x : ℕ) (xs : List ℕ) (t : Bool) → p x ≡ t →
    length (slice_split p (x ∷ xs)) ≡ cond t (suc (length (slice_split p xs))) (length (slice_split p xs))
parts_more p x xs true is =
    ap (λ (b : Bool). length (cond b ([] ∷ slice_split p xs) (onto_first x (slice_split p xs)))) is
parts_more p x xs false is =
    ap (λ (b : Bool). length (cond b ([] ∷ slice_split p xs) (onto_first x (slice_split p xs)))) is ∙
    (longer_part x (slice_split p xs) (some_parts p xs)).0

-- a byte is one comma at most
pub at_most_one : (t : Bool) (n : ℕ) → n ≡ (if t then 1 else 0) → n ≤ 1
at_most_one true n is = omega (arith, is)
at_most_one false n is = omega (arith, is)

-- one byte more was looked at
pub counted_more : (text : List ℕ) (i commas n total : ℕ) → i < length text →
    n ≡ (if get_or text i 0 == 44 then 1 else 0) → commas + length (slice_split is_comma (drop i text)) ≡ total →
    commas + n + length (slice_split is_comma (drop (i + 1) text)) ≡ total
counted_more text i commas n total lt one so =
    let byte = get_or text i 0 in
    let rest = drop (i + 1) text in
    let cut : drop i text ≡ byte ∷ rest = drop_more text i 0 lt in
    let before : commas + length (slice_split is_comma (byte ∷ rest)) ≡ total =
    ap (λ (l : List ℕ). commas + length (slice_split is_comma l)) (sym cut) ∙ so in
    let go : (t : Bool) → (byte == 44) ≡ t → commas + n + length (slice_split is_comma rest) ≡ total =
    λ t. elim t as (λ t. (byte == 44) ≡ t → commas + n + length (slice_split is_comma rest) ≡ total) [
      | true ↦ λ is.
          let m : n ≡ 1 = one ∙ ap (λ (b : Bool). if b then 1 else 0) is in
          let p = parts_more is_comma byte rest true is in
          omega (arith, m, p, before)
      | false ↦ λ is.
          let m : n ≡ 0 = one ∙ ap (λ (b : Bool). if b then 1 else 0) is in
          let p = parts_more is_comma byte rest false is in
          omega (arith, m, p, before)
    ] in
    go (byte == 44) refl

-- a list of so many addresses has as many words
pub listed_as_many : (text : List ℕ) (count : ℕ) → Lists text count → length (slice_split is_comma text) ≡ count
listed_as_many text count is = sym (as_many (slice_split is_comma text) is.0 is.1) ∙ is.2

-- a text of another number of words lists no such number of addresses
pub not_so_many : (text : List ℕ) (many count : ℕ) → many ≡ length (slice_split is_comma text) →
    (many ≡ count → ⊥) → IsTrue false ↔ Lists text count
not_so_many text many count is other =
    ((λ wrong. absurd cc), λ listed. absurd (other (is ∙ listed_as_many text count listed)))

-- a text of that number of words lists them where each is an address
pub so_many : (text : List ℕ) (many count : ℕ) (r : Bool) → many ≡ length (slice_split is_comma text) →
    many ≡ count →
    MatchBool r (AreAddresses (slice_split is_comma text)) (IsNoHostList (slice_split is_comma text)) →
    IsTrue r ↔ Lists text count
so_many text many count true is same all =
    let found = listed_by (slice_split is_comma text) all in
    ((λ _. (found.0, found.1, found.2 ∙ sym is ∙ same)), λ _. refl)
so_many text many count false is same none = ((λ wrong. absurd cc), λ listed. absurd (none listed.0 listed.1))

shown_more : (words : List (Bor (List ℕ))) (i : ℕ) (d : Bor (List ℕ)) → i < length words →
    map (λ word. word.now) (take (i + 1) words) ≡ map (λ word. word.now) (take i words) ++ (get_or words i d).now ∷ []
shown_more words i d lt =
    ap (map (λ word. word.now)) (take_more words i d lt) ∙
    map-append (λ word. word.now) (take i words) (get_or words i d ∷ [])

-- the words so far and one more write the addresses so far and one more
pub listed_more : (words : List (Bor (List ℕ))) (i : ℕ) (d : Bor (List ℕ)) (hosts : List Ipv4Addr) (host : Ipv4Addr)
    (after : List Ipv4Addr) → after ≡ hosts ++ host ∷ [] →
    i < length words → IsHostList (map (λ word. word.now) (take i words)) hosts →
    IsIpv4Text (get_or words i d).now host → IsHostList (map (λ word. word.now) (take (i + 1) words)) after
listed_more words i d hosts host after grown lt is more =
    subst (λ (a : List Ipv4Addr). IsHostList (map (λ word. word.now) (take (i + 1) words)) a) (sym grown)
    (subst (λ (l : List (List ℕ)). IsHostList l (hosts ++ host ∷ [])) (sym (shown_more words i d lt))
    (one_more (map (λ word. word.now) (take i words)) hosts (get_or words i d).now host is more))

-- where one of them is no address, they are no list
pub not_listed : (words : List (Bor (List ℕ))) (i : ℕ) (d : Bor (List ℕ)) → i < length words →
    ((host : Ipv4Addr) → IsIpv4Text (get_or words i d).now host → ⊥) → IsNoHostList (map (λ word. word.now) words)
not_listed [] i d lt none hosts is = absurd (omega (arith, lt))
not_listed (w ∷ words) i d lt none [] is = absurd is
not_listed (w ∷ words) zero d lt none (host ∷ hosts) is = none host is.0
not_listed (w ∷ words) (suc i) d lt none (host ∷ hosts) is =
    not_listed words i d (omega (arith, lt)) none hosts is.1

replicate_end : {X : Type 0} (n : ℕ) (x : X) → replicate (n + 1) x ≡ replicate n x ++ x ∷ []
replicate_end zero x = refl
replicate_end (suc n) x =
    let e : suc n + 1 ≡ suc (n + 1) = omega arith in
    ap (λ (k : ℕ). replicate k x) e ∙ ap (λ (l : List _). x ∷ l) (replicate_end n x)

-- one more host at 127.0.0.1
pub local_more : (hosts : List Ipv4Addr) (host : Ipv4Addr) (n : ℕ) →
    map ipv4_octets hosts ≡ replicate n (127 ∷ 0 ∷ 0 ∷ 1 ∷ []) → ipv4_octets host ≡ 127 ∷ 0 ∷ 0 ∷ 1 ∷ [] →
    map ipv4_octets (hosts ++ host ∷ []) ≡ replicate (n + 1) (127 ∷ 0 ∷ 0 ∷ 1 ∷ [])
local_more hosts host n all is =
    map-append ipv4_octets hosts (host ∷ []) ∙
    ap (λ (l : List (List ℕ)). l ++ ipv4_octets host ∷ []) all ∙
    ap (λ (o : List ℕ). replicate n (127 ∷ 0 ∷ 0 ∷ 1 ∷ []) ++ o ∷ []) is ∙
    sym (replicate_end n (127 ∷ 0 ∷ 0 ∷ 1 ∷ []))

-- what asking each word answers
pub judged : (r : Bool) (words : List (List ℕ)) →
    MatchBool r (AllWithin IsAddressText words 0 (length words))
    ((k : ℕ) × (k < length words) × HoldsAt (λ w. IsAddressText w → ⊥) words k) →
    MatchBool r (AreAddresses words) (IsNoHostList words)
judged true words all = all
judged false words some = λ hosts is. some.2 [] (each_listed words hosts some.0 [] some.1 is)
