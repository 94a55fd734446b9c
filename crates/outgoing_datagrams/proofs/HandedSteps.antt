-- Steps of handing on what is to be sent.
use Rattle.std.proofs.Common.{
  ◌≡◌,
  ◌≢◌,
  ℕ,
  zero,
  suc,
  ◌+◌,
  ◌≤◌,
  ◌<◌,
  Bool,
  true,
  false,
  List,
  [],
  ◌∷◌,
  ◌++◌,
  length,
  take,
}
use Rattle.std.proofs.Common.{drop, refl, sym, ap, subst, ◌∙◌, arith, inl, inr, append_assoc}
use Rattle.std.proofs.lemmas.List.{append-nil, drop-drop, drop_all, length-drop, length-take-le, take-append-drop}
use Rattle.std.proofs.lemmas.Bool.{le-leb, leb-true, ne_eqb}
use Rattle.std.proofs.Math.Dec.{leb}
use mathlib.Core.Bool.{false≢true}
use Rattle.std.proofs.lemmas.List.Elements.{filter-append}
use Rattle.std.specs.Prelude.{
  ◌⊎◌,
  ◌==◌,
  ◌-◌,
  ◌^◌,
  ◌||◌,
  max,
  min,
  nat_lt,
  not,
  is_some,
  option_map,
  slice_get,
  Option,
  Some,
  None,
  IfSome,
  IsSomeAnd,
}
use Rattle.std.specs.Prelude.{if◌then◌else◌}
use Rattle.datagram.specs.ByteMeanings.{datagram_of}
use Rattle.delayed_acknowledgements.specs.Acknowledgements.{Covers, acknowledgement, short_acknowledgement}
use Rattle.delayed_acknowledgements.specs.declared.delayed.DelayedAcknowledgement.{DelayedAcknowledgement}
use Rattle.port_transport.specs.Wires.{Parcel}
use Rattle.port_transport.specs.Ports.{IsAcknowledgement, Thins, is_short, plain_in, short_in}
use Rattle.port_transport.proofs.OmittedDatagrams.{IsAtMostOne, all_go}
use Rattle.port_transport.proofs.OmittedDatagrams as thinning
use Rattle.outgoing_datagrams.proofs.KeptSteps.{keeps_gone, keeps_joined, keeps_none, keeps_run, short_one}
use Rattle.outgoing_datagrams.specs.HandedDatagrams.{
  HandsOn,
  HandsOut,
  HandsOutKept,
  KeepsFrom,
  NoneFits,
  SendingState,
  kept_going,
  kept_in,
  late_at,
}
use Rattle.outgoing_datagrams.specs.Runs.{AreEven, AreFor, AreLong, IsFor, IsRun, NoneIsShort, Stands, bytes_in, joined}
use Rattle.outgoing_datagrams.specs.declared.record.OutgoingRecord.{OutgoingRecord}
use Rattle.outgoing_datagrams.specs.declared.run.Run.{Run}

few_kept : (kept : Option DelayedAcknowledgement) → IsAtMostOne (kept_in kept)
few_kept None = tt
few_kept (Some k) = tt

-- two steps, one after the other
pub hands_joined : (k l m : Option DelayedAcknowledgement) (ws vs us went more : List Parcel) →
    HandsOn k ws went l vs → HandsOn l vs more m us → HandsOn k ws (went ++ more) m us
hands_joined k l m ws vs us went more p q =
    let shorts : Thins ((kept_in k ++ short_in p.taken) ++ short_in q.taken)
    (short_in went ++ (short_in more ++ kept_in m)) =
    thinning.joined (kept_in k ++ short_in p.taken) (short_in went) (kept_in l) (short_in q.taken)
    (short_in more ++ kept_in m) (few_kept l) p.short q.short in
    let handed : (kept_in k ++ short_in p.taken) ++ short_in q.taken ≡ kept_in k ++ short_in (p.taken ++ q.taken) =
    append_assoc (kept_in k) (short_in p.taken) (short_in q.taken)
    ∙ ap (λ (l : List Parcel). kept_in k ++ l) (sym (filter-append is_short p.taken q.taken)) in
    let gone : short_in went ++ (short_in more ++ kept_in m) ≡ short_in (went ++ more) ++ kept_in m =
    sym (append_assoc (short_in went) (short_in more) (kept_in m))
    ∙ ap (λ (l : List Parcel). l ++ kept_in m) (sym (filter-append is_short went more)) in
    record {
      taken = p.taken ++ q.taken;
      front = p.front ∙ ap (λ (l : List Parcel). p.taken ++ l) q.front ∙ sym (append_assoc p.taken q.taken us);
      plain = filter-append (λ r. not (is_short r)) went more
          ∙ ap (λ (l : List Parcel). l ++ plain_in more) p.plain
          ∙ ap (λ (l : List Parcel). plain_in p.taken ++ l) q.plain
          ∙ sym (filter-append (λ r. not (is_short r)) p.taken q.taken);
      short = subst (λ (l : List Parcel). Thins (kept_in k ++ short_in (p.taken ++ q.taken)) l) gone
          (subst (λ (l : List Parcel). Thins l (short_in went ++ (short_in more ++ kept_in m))) handed shorts);
    }

-- nothing goes
pub hands_none : (k : Option DelayedAcknowledgement) (ws : List Parcel) → HandsOn k ws [] k ws
hands_none k ws = record {
  taken = [];
  front = refl;
  plain = refl;
  short = subst (λ (l : List Parcel). Thins l (kept_in k)) (sym (append-nil (kept_in k))) (all_go (kept_in k));
}

plain_none : (p : Parcel) → is_short p ≡ true → plain_in (p ∷ []) ≡ []
plain_none p is = ap (λ (b : Bool). if not b then p ∷ [] else []) is

short_kept : (k : Option DelayedAcknowledgement) → IfSome k IsAcknowledgement → short_in (kept_in k) ≡ kept_in k
short_kept None is = refl
short_kept (Some k) is = short_one (k.target, k.bytes) (ap is_some is)

plain_kept : (k : Option DelayedAcknowledgement) → IfSome k IsAcknowledgement → plain_in (kept_in k) ≡ []
plain_kept None is = refl
plain_kept (Some k) is = plain_none (k.target, k.bytes) (ap is_some is)

-- what is kept back goes
pub hands_kept : (k : Option DelayedAcknowledgement) (ws : List Parcel) → IfSome k IsAcknowledgement →
    HandsOn k ws (kept_in k) None ws
hands_kept k ws is = record {
  taken = [];
  front = refl;
  plain = plain_kept k is;
  short = subst (λ (l : List Parcel). Thins (kept_in k ++ []) (l ++ [])) (sym (short_kept k is)) (all_go (kept_in k ++ []));
}

-- the next acknowledgement is kept back, in place of one of which it says all
thins_next : (k : Option DelayedAcknowledgement) (next : DelayedAcknowledgement) → IsAcknowledgement next →
    IfSome k (λ f. IsAcknowledgement f × Covers next.said f.said) →
    Thins (kept_in k ++ (next.target, next.bytes) ∷ []) ((next.target, next.bytes) ∷ [])
thins_next None next named lost = all_go ((next.target, next.bytes) ∷ [])
thins_next (Some f) next named lost =
    inr (
      subst (λ o. IsSomeAnd o (λ x. IsSomeAnd (short_acknowledgement next.bytes) (λ y. Covers y x))) (sym lost.0)
          (subst (λ o. IsSomeAnd o (λ y. Covers y f.said)) (sym named) lost.1),
      inl ([], refl, refl),
    )

pub hands_next : (k : Option DelayedAcknowledgement) (next : DelayedAcknowledgement) (ws rest : List Parcel) →
    ws ≡ (next.target, next.bytes) ∷ rest → IsAcknowledgement next →
    IfSome k (λ f. IsAcknowledgement f × Covers next.said f.said) → HandsOn k ws [] (Some next) rest
hands_next k next ws rest is named lost = record {
  taken = (next.target, next.bytes) ∷ [];
  front = is;
  plain = sym (plain_none (next.target, next.bytes) (ap is_some named));
  short = subst (λ (l : List Parcel). Thins (kept_in k ++ l) ((next.target, next.bytes) ∷ []))
      (sym (short_one (next.target, next.bytes) (ap is_some named))) (thins_next k next named lost);
}

-- it is handed on at once
pub hands_next_on : (k : Option DelayedAcknowledgement) (next : DelayedAcknowledgement) (ws rest : List Parcel) →
    ws ≡ (next.target, next.bytes) ∷ rest → IsAcknowledgement next →
    IfSome k (λ f. IsAcknowledgement f × Covers next.said f.said) →
    HandsOn k ws ((next.target, next.bytes) ∷ []) None rest
hands_next_on k next ws rest is named lost =
    hands_joined k (Some next) None ws rest rest [] ((next.target, next.bytes) ∷ [])
    (hands_next k next ws rest is named lost) (hands_kept (Some next) rest named)

-- datagrams of which none is an acknowledgement go
pub hands_run : (k : Option DelayedAcknowledgement) (ws : List Parcel) (n : ℕ) → short_in (take n ws) ≡ [] →
    HandsOn k ws (take n ws) k (drop n ws)
hands_run k ws n none = record {
  taken = take n ws;
  front = sym (take-append-drop n ws);
  plain = refl;
  short = subst (λ (l : List Parcel). Thins (kept_in k ++ l) (l ++ kept_in k)) (sym none)
      (subst (λ (l : List Parcel). Thins l (kept_in k)) (sym (append-nil (kept_in k))) (all_go (kept_in k)));
}

-- of the first datagrams of a list each is where it was
get_take : (ws : List Parcel) (n i : ℕ) → i < n → slice_get (take n ws) i ≡ slice_get ws i
get_take [] zero i lt = refl
get_take [] (suc n) i lt = refl
get_take (w ∷ ws) zero i lt = absurd (omega (arith, lt))
get_take (w ∷ ws) (suc n) zero lt = refl
get_take (w ∷ ws) (suc n) (suc i) lt = get_take ws n i (omega (arith, lt))

joined_take : (ws : List Parcel) (n c : ℕ) → c ≤ n → joined (take n ws) c ≡ joined ws c
joined_take ws n zero le = refl
joined_take ws n (suc c) le =
    ap (λ (t : List ℕ). t ++ bytes_in (slice_get (take n ws) c)) (joined_take ws n c (omega (arith, le)))
    ∙ ap (λ o. joined ws c ++ bytes_in o) (get_take ws n c (omega (arith, le)))

for_take : (target : ℕ) (ws : List Parcel) (n c : ℕ) → c ≤ n → AreFor target ws c → AreFor target (take n ws) c
for_take target ws n zero le are = tt
for_take target ws n (suc c) le are = (
  for_take target ws n c (omega (arith, le)) are.0,
  subst (IsFor target) (sym (get_take ws n c (omega (arith, le)))) are.1,
)

long_take : (each : ℕ) (ws : List Parcel) (n c : ℕ) → c ≤ n → AreLong each ws c → AreLong each (take n ws) c
long_take each ws n zero le are = tt
long_take each ws n (suc c) le are = (
  long_take each ws n c (omega (arith, le)) are.0,
  subst (λ o. length (bytes_in o) ≡ each) (sym (get_take ws n c (omega (arith, le)))) are.1,
)

even_take : (each : ℕ) (ws : List Parcel) (n c : ℕ) → c ≤ n → AreEven each ws c → AreEven each (take n ws) c
even_take each ws n zero le are = tt
even_take each ws n (suc c) le are = (
  long_take each ws n c (omega (arith, le)) are.0,
  subst (λ o. length (bytes_in o) ≤ each) (sym (get_take ws n c (omega (arith, le)))) are.1,
)

-- a run stands in the slice
pub run_stands : (most : ℕ) (ws : List Parcel) (r : Run) (o : OutgoingRecord) (old new : List ℕ) →
    IsRun most ws r old new → o.count ≡ r.count → o.target ≡ r.target → o.each ≡ min r.each (2 ^ 32 - 1) →
    Stands (take r.count ws) o r.len old new
run_stands most ws r o old new is count target each =
    let n = r.count in
    let size : length (take n ws) ≡ n = length-take-le n ws is.count in
    let same : joined (take n ws) (length (take n ws)) ≡ joined ws n =
    ap (joined (take n ws)) size ∙ joined_take ws n n (omega arith) in
    record {
      count = count ∙ sym size;
      size = is.len ∙ ap length (sym same);
      bytes = is.bytes ∙ ap (λ (t : List ℕ). t ++ drop r.len old) (sym same);
      targets = subst (λ (t : ℕ). AreFor t (take n ws) (length (take n ws))) (sym target)
          (subst (AreFor r.target (take n ws)) (sym size) (for_take r.target ws n n (omega arith) is.targets));
      each = r.each;
      told = each;
      lengths = subst (AreEven r.each (take n ws)) (sym size) (even_take r.each ws n n (omega arith) is.lengths);
    }

-- datagrams of another length are no acknowledgements
other_length : (n : ℕ) → n ≢ 40 → (n == 40) ≡ false
other_length n other = ne_eqb n 40 other

long_none : (p : Parcel) → length p.1 ≢ 40 → is_short p ≡ false
long_none p long =
    ap (λ (b : Bool). is_some (if b then acknowledgement (datagram_of p.1) else None)) (other_length (length p.1) long)

none_in : (ws : List Parcel) (n : ℕ) → ((i : ℕ) → i < n → length (bytes_in (slice_get ws i)) ≢ 40) →
    short_in (take n ws) ≡ []
none_in [] zero all = refl
none_in [] (suc n) all = refl
none_in (p ∷ ws) zero all = refl
none_in (p ∷ ws) (suc n) all =
    ap (λ (b : Bool). if b then p ∷ short_in (take n ws) else short_in (take n ws))
    (long_none p (all 0 (omega arith)))
    ∙ none_in ws n (λ i lt. all (suc i) (omega (arith, lt)))

last_long : (ws : List Parcel) (n i : ℕ) → 1 ≤ i → i ≡ n → (n ≡ 0) ⊎ (length (bytes_in (slice_get ws n)) ≢ 40) →
    length (bytes_in (slice_get ws i)) ≢ 40
last_long ws n i one same (inl none) = absurd (omega (arith, one, same, none))
last_long ws n i one same (inr long) = subst (λ (k : ℕ). length (bytes_in (slice_get ws k)) ≢ 40) (sym same) long

below_or_last_on : (i n : ℕ) → (i < n) ⊎ (i ≡ n) → (suc i < suc n) ⊎ (suc i ≡ suc n)
below_or_last_on i n (inl lt) = inl (omega (arith, lt))
below_or_last_on i n (inr same) = inr (ap suc same)

below_or_last : (i n : ℕ) → i ≤ n → (i < n) ⊎ (i ≡ n)
below_or_last zero zero le = inr refl
below_or_last zero (suc n) le = inl (omega arith)
below_or_last (suc i) zero le = absurd (omega (arith, le))
below_or_last (suc i) (suc n) le = below_or_last_on i n (below_or_last i n (omega (arith, le)))

others_by : (ws : List Parcel) (n i : ℕ) → 1 ≤ i → (i < n → length (bytes_in (slice_get ws i)) ≢ 40) →
    ((n ≡ 0) ⊎ (length (bytes_in (slice_get ws n)) ≢ 40)) → (i < n) ⊎ (i ≡ n) →
    length (bytes_in (slice_get ws i)) ≢ 40
others_by ws n i one below last (inl lt) = below lt
others_by ws n i one below last (inr same) = last_long ws n i one same last

others_long : (ws : List Parcel) (n : ℕ) → NoneIsShort ws n → (i : ℕ) → i < n → 1 ≤ i →
    length (bytes_in (slice_get ws i)) ≢ 40
others_long ws zero has i lt one = absurd (omega (arith, lt))
others_long ws (suc n) has i lt one =
    others_by ws n i one (λ below. others_long ws n has.0 i below one) has.1 (below_or_last i n (omega (arith, lt)))

-- no acknowledgement is in a run whose first datagram is none
pub none_short : (ws : List Parcel) (n : ℕ) → NoneIsShort ws n →
    ((p : Parcel) → (rest : List Parcel) → ws ≡ p ∷ rest → is_short p ≡ false) → short_in (take n ws) ≡ []
none_short [] zero has first = refl
none_short [] (suc n) has first = refl
none_short (p ∷ ws) zero has first = refl
none_short (p ∷ ws) (suc n) has first =
    ap (λ (b : Bool). if b then p ∷ short_in (take n ws) else short_in (take n ws)) (first p ws refl)
    ∙ none_in ws n (λ i lt. others_long (p ∷ ws) (suc n) has (suc i) (omega (arith, lt)) (omega arith))

-- what waits behind the next datagram
pub behind_next : {A : Type 0} (list : List A) (n : ℕ) → drop (n + 1) list ≡ drop 1 (drop n list)
behind_next list n = sym (drop-drop 1 n list)

-- behind the end nothing waits
pub behind_end : {A : Type 0} (list : List A) (n : ℕ) → length list ≤ n → drop n list ≡ drop 1 (drop n list)
behind_end list n le = let none = drop_all n list le in none ∙ sym (ap (drop 1) none)

some_same : (e d : Parcel) → Some e ≡ Some d → e ≡ d
some_same e d is = cc

-- what waits, where something does
pub next_waits : (list : List Parcel) (n : ℕ) (d : Parcel) → slice_get list n ≡ Some d →
    drop n list ≡ d ∷ drop (suc n) list
next_waits [] n d is = absurd cc
next_waits (e ∷ list) zero d is = ap (λ (x : Parcel). x ∷ list) (some_same e d is)
next_waits (e ∷ list) (suc n) d is = next_waits list n d is

-- where none is at a place, none waits
pub none_waits : (list : List Parcel) (n : ℕ) → slice_get list n ≡ None → drop n list ≡ []
none_waits [] zero is = refl
none_waits [] (suc n) is = refl
none_waits (e ∷ list) zero is = absurd cc
none_waits (e ∷ list) (suc n) is = none_waits list n is

-- The next acknowledgement was passed: it goes at once, or is kept back.
pub hands_passed : (k kept going : Option DelayedAcknowledgement) (next : DelayedAcknowledgement)
    (ws rest : List Parcel) → ws ≡ (next.target, next.bytes) ∷ rest → IsAcknowledgement next →
    IfSome k (λ f. IsAcknowledgement f × Covers next.said f.said) →
    (((going ≡ None) × (kept ≡ Some next)) ⊎ ((going ≡ Some next) × (kept ≡ None))) →
    HandsOn k ws (kept_in going) kept rest
hands_passed k kept going next ws rest is named lost (inl stays) =
    subst (λ g. HandsOn k ws (kept_in g) kept rest) (sym stays.0)
    (subst (λ l. HandsOn k ws [] l rest) (sym stays.1) (hands_next k next ws rest is named lost))
hands_passed k kept going next ws rest is named lost (inr goes) =
    subst (λ g. HandsOn k ws (kept_in g) kept rest) (sym goes.0)
    (subst (λ l. HandsOn k ws (kept_in (Some next)) l rest) (sym goes.1) (hands_next_on k next ws rest is named lost))

-- the one that was kept back goes
pub hands_former : (k kept : Option DelayedAcknowledgement) (former : DelayedAcknowledgement) (ws vs : List Parcel) →
    k ≡ Some former → IsAcknowledgement former → kept ≡ None → vs ≡ ws →
    HandsOn k ws (kept_in (Some former)) kept vs
hands_former k kept former ws vs is named none same =
    subst (λ l. HandsOn l ws (kept_in (Some former)) kept vs) (sym is)
    (subst (λ l. HandsOn (Some former) ws (kept_in (Some former)) l vs) (sym none)
    (subst (λ l. HandsOn (Some former) ws (kept_in (Some former)) None l) (sym same) (hands_kept (Some former) ws named)))

-- a run goes behind nothing
pub hands_out : (most : ℕ) (k l m : Option DelayedAcknowledgement) (ws vs us : List Parcel) (r : Run)
    (old new : List ℕ) → HandsOn k ws [] l vs → IsRun most vs r old new → m ≡ l → us ≡ drop r.count vs →
    ((p : Parcel) → (rest : List Parcel) → vs ≡ p ∷ rest → is_short p ≡ false) →
    HandsOn k ws (take r.count vs) m us
hands_out most k l m ws vs us r old new first is same rest plain =
    subst (λ x. HandsOn k ws (take r.count vs) x us) (sym same)
    (subst (λ x. HandsOn k ws (take r.count vs) l x) (sym rest)
    (hands_joined k l l ws vs (drop r.count vs) [] (take r.count vs) first
    (hands_run l vs r.count (none_short vs r.count is.plain plain))))

-- nothing waits just where the place is behind the end
ends : {A : Type 0} (list : List A) (n : ℕ) → drop n list ≡ [] → length list ≤ n
ends [] n is = omega arith
ends (e ∷ list) zero is = absurd cc
ends (e ∷ list) (suc n) is = let le = ends list n is in omega (arith, le)

pub through : (list ws : List Parcel) (len n : ℕ) → len ≡ length list → drop n list ≡ ws →
    (leb len n ≡ true → ws ≡ []) × (ws ≡ [] → leb len n ≡ true)
through list ws len n size is = (
  λ t. let le = leb-true len n t in sym is ∙ drop_all n list (omega (arith, le, size)),
  λ e. let le = ends list n (is ∙ e) in le-leb len n (omega (arith, le, size)),
)

-- the next datagram is this acknowledgement
pub next_of : (items ws : List Parcel) (n : ℕ) (k : Option DelayedAcknowledgement) → drop n items ≡ ws →
    IfSome k (λ k. IsAcknowledgement k × (slice_get items n ≡ Some (k.target, k.bytes))) →
    IfSome k (λ k. IsAcknowledgement k × ((rest : List Parcel) × (ws ≡ (k.target, k.bytes) ∷ rest)))
next_of items ws n None is at = tt
next_of items ws n (Some k) is at =
    (at.0, (drop (suc n) items, sym is ∙ next_waits items n (k.target, k.bytes) at.1))

-- the acknowledgement that is read at a place
pub read_at : (items : List Parcel) (n : ℕ) (d : Parcel) (bytes : List ℕ) (k : Option DelayedAcknowledgement) →
    slice_get items n ≡ Some d → bytes ≡ d.1 → option_map (λ k. k.said) k ≡ short_acknowledgement bytes →
    IfSome k (λ k. (k.target ≡ d.0) × (k.bytes ≡ bytes)) →
    IfSome k (λ k. IsAcknowledgement k × (slice_get items n ≡ Some (k.target, k.bytes)))
read_at items n d bytes None at same said whole = tt
read_at items n d bytes (Some k) at same said whole = (
  ap short_acknowledgement whole.1 ∙ sym said,
  at ∙ ap (λ (t : ℕ). Some (t, d.1)) (sym whole.0) ∙ ap (λ (b : List ℕ). Some (k.target, b)) (sym (whole.1 ∙ same)),
)

-- The next acknowledgement was passed, where the one that was kept back doesn't go before it.
pub passed : (s m t : SendingState) (going : Option DelayedAcknowledgement) (next : DelayedAcknowledgement) →
    ((rest : List Parcel) × (s.waiting ≡ (next.target, next.bytes) ∷ rest)) → IsAcknowledgement next →
    (m ≡ s) × IfSome s.kept (λ f. IsAcknowledgement f × Covers next.said f.said) → t.waiting ≡ drop 1 m.waiting →
    (((going ≡ None) × (t.kept ≡ Some next)) ⊎ ((going ≡ Some next) × (t.kept ≡ None))) →
    HandsOn s.kept s.waiting (kept_in going) t.kept t.waiting
passed s m t going next waits named stays behind keeps =
    let rest : t.waiting ≡ waits.0 =
    behind ∙ ap (λ (x : SendingState). drop 1 x.waiting) stays.0 ∙ ap (λ (l : List Parcel). drop 1 l) waits.1 in
    hands_passed s.kept t.kept going next s.waiting t.waiting
    (waits.1 ∙ ap (λ (l : List Parcel). (next.target, next.bytes) ∷ l) (sym rest)) named stays.1 keeps

-- an acknowledgement was handed out
pub out_one : (s t : SendingState) (most len : ℕ) (o : OutgoingRecord) (old new : List ℕ)
    (going : DelayedAcknowledgement) → HandsOn s.kept s.waiting ((going.target, going.bytes) ∷ []) t.kept t.waiting →
    t.time ≡ s.time → Stands ((going.target, going.bytes) ∷ []) o len old new → KeepsFrom s s.waiting t t.waiting →
    HandsOut s most len o old new t
out_one s t most len o old new going hands time stands keeps = record {
  went = (going.target, going.bytes) ∷ [];
  hands = hands;
  stands = stands;
  few = omega arith;
  none = λ e. let one = stands.count in absurd (omega (arith, e, one));
  time = time;
  keeps = keeps;
}

none_fits : (most room : ℕ) (ws us : List Parcel) (n : ℕ) → n ≡ 0 → us ≡ drop n ws →
    (max most 1 ≡ 0) ⊎ ((ws ≡ []) ⊎ (room < length (bytes_in (slice_get ws 0)))) → NoneFits us room
none_fits most room ws us n none is (inl never) = absurd (omega (arith, never))
none_fits most room ws us n none is (inr fits) =
    subst (λ (l : List Parcel). NoneFits l room) (sym (is ∙ ap (λ (k : ℕ). drop k ws) none)) fits

-- a run was
pub out_run : (s m t : SendingState) (most : ℕ) (r : Run) (o : OutgoingRecord) (old new : List ℕ) →
    HandsOn s.kept s.waiting [] m.kept m.waiting → m.time ≡ s.time →
    ((p : Parcel) → (rest : List Parcel) → m.waiting ≡ p ∷ rest → is_short p ≡ false) →
    IsRun (max most 1) m.waiting r old new → t ≡ record m { waiting = drop r.count m.waiting } →
    (o.count ≡ r.count) × (o.target ≡ r.target) → o.each ≡ min r.each (2 ^ 32 - 1) →
    KeepsFrom s s.waiting m m.waiting → HandsOut s most r.len o old new t
out_run s m t most r o old new hands time plain is behind told each keeps =
    let us : t.waiting ≡ drop r.count m.waiting = ap (λ (x : SendingState). x.waiting) behind in
    let size : length (take r.count m.waiting) ≡ r.count = length-take-le r.count m.waiting is.count in
    record {
      went = take r.count m.waiting;
      hands = hands_out (max most 1) s.kept m.kept t.kept s.waiting m.waiting t.waiting r old new hands is
          (ap (λ (x : SendingState). x.kept) behind) us plain;
      stands = run_stands (max most 1) m.waiting r o old new is told.0 told.1 each;
      few = let few = is.few in omega (arith, size, few);
      none = λ e. none_fits most (length old) m.waiting t.waiting r.count (sym told.0 ∙ e) us
          (is.some (sym told.0 ∙ e));
      time = ap (λ (x : SendingState). x.time) behind ∙ time;
      keeps = keeps_joined s m t s.waiting m.waiting t.waiting time hands keeps
          (keeps_run m t r.count behind (none_short m.waiting r.count is.plain plain));
    }

-- nothing is put
stands_none : (o : OutgoingRecord) (into : List ℕ) → o.count ≡ 0 → o.each ≡ 0 → Stands [] o 0 into into
stands_none o into none each = record {
  count = none;
  size = refl;
  bytes = refl;
  targets = tt;
  each = 0;
  told = each;
  lengths = tt;
}

not_going : (kept_too : Bool) (s : SendingState) → kept_too ≡ false → nat_lt s.time (late_at s.kept s.since) ≡ true →
    kept_going kept_too s ≡ []
not_going kept_too s none early =
    ap (λ (b : Bool). if b || not (nat_lt s.time (late_at s.kept s.since)) then kept_in s.kept else []) none
    ∙ ap (λ (b : Bool). if not b then kept_in s.kept else []) early

none_of : (b : Bool) (k : Option DelayedAcknowledgement) → k ≡ None → (if b then kept_in k else []) ≡ []
none_of true k none = ap kept_in none
none_of false k none = refl

none_going : (kept_too : Bool) (s : SendingState) → s.kept ≡ None → kept_going kept_too s ≡ []
none_going true s none = ap kept_in none
none_going false s none = none_of (not (nat_lt s.time (late_at s.kept s.since))) s.kept none

-- what is kept back stays
pub kept_stays : (s : SendingState) (kept_too : Bool) (o : OutgoingRecord) (into : List ℕ) → kept_too ≡ false →
    nat_lt s.time (late_at s.kept s.since) ≡ true → o.count ≡ 0 → o.each ≡ 0 → HandsOutKept s kept_too 0 o into into s
kept_stays s kept_too o into not_all early none each =
    let going = not_going kept_too s not_all early in
    record {
      stands = subst (λ (l : List Parcel). Stands l o 0 into into) (sym going) (stands_none o into none each);
      hands = subst (λ (l : List Parcel). HandsOn s.kept s.waiting l s.kept s.waiting) (sym going)
          (hands_none s.kept s.waiting);
      all = λ e. absurd (false≢true (sym not_all ∙ e));
      waiting = refl;
      time = refl;
      keeps = keeps_none s s s.waiting refl;
    }

-- nothing is kept back
pub kept_none : (s t : SendingState) (kept_too : Bool) (o : OutgoingRecord) (into : List ℕ) → s.kept ≡ None →
    t ≡ record s { kept = None } → o.count ≡ 0 → o.each ≡ 0 → HandsOutKept s kept_too 0 o into into t
kept_none s t kept_too o into is after none each =
    let going = none_going kept_too s is in
    let kept : t.kept ≡ s.kept = ap (λ (x : SendingState). x.kept) after ∙ sym is in
    let waiting : t.waiting ≡ s.waiting = ap (λ (x : SendingState). x.waiting) after in
    record {
      stands = subst (λ (l : List Parcel). Stands l o 0 into into) (sym going) (stands_none o into none each);
      hands = subst (λ (l : List Parcel). HandsOn s.kept s.waiting l t.kept t.waiting) (sym going)
          (subst (λ k. HandsOn s.kept s.waiting [] k t.waiting) (sym kept)
          (subst (λ (l : List Parcel). HandsOn s.kept s.waiting [] s.kept l) (sym waiting)
          (hands_none s.kept s.waiting)));
      all = λ e. ap (λ (x : SendingState). x.kept) after;
      waiting = waiting;
      time = ap (λ (x : SendingState). x.time) after;
      keeps = keeps_gone s t after;
    }

first_same : (e p : Parcel) (list rest : List Parcel) → e ∷ list ≡ p ∷ rest → e ≡ p
first_same e p list rest is = cc

-- what waits first stands at its place
pub first_waits : (list rest : List Parcel) (n : ℕ) (p : Parcel) → drop n list ≡ p ∷ rest → slice_get list n ≡ Some p
first_waits [] rest zero p is = absurd cc
first_waits [] rest (suc n) p is = absurd cc
first_waits (e ∷ list) rest zero p is = ap Some (first_same e p list rest is)
first_waits (e ∷ list) rest (suc n) p is = first_waits list rest n p is

-- behind one more that was passed one fewer waits
pub one_fewer : (ws us : List Parcel) (counter end : ℕ) → us ≡ drop 1 ws → length ws + counter ≡ end → counter < end →
    length us + (counter + 1) ≡ end
one_fewer ws us counter end is size more =
    let len = ap length is ∙ length-drop 1 ws in omega (arith, len, size, more)

-- where nothing waits and nothing was passed, there is no further place
pub none_behind : (s f : SendingState) (counter end : ℕ) → s ≡ f → f.waiting ≡ [] →
    length s.waiting + counter ≡ end → counter < end → ⊥
none_behind s f counter end is empty size more =
    let len = ap (λ (t : SendingState). length t.waiting) is ∙ ap length empty in omega (arith, len, size, more)

-- where nothing waits, no run goes out, and nothing changes
pub none_out : (s m t : SendingState) (most : ℕ) (r : Run) (o : OutgoingRecord) (old new : List ℕ) → m ≡ s →
    s.waiting ≡ [] → IsRun most m.waiting r old new → t ≡ record m { waiting = drop r.count m.waiting } →
    o.count ≡ r.count → (o.count ≡ 0) × (t ≡ s)
none_out s m t most r o old new is empty run rest count =
    let few = run.count in
    let len = ap (λ (u : SendingState). length u.waiting) is ∙ ap length empty in
    let zero : r.count ≡ 0 = omega (arith, few, len) in
    (count ∙ zero, rest ∙ ap (λ n. record m { waiting = drop n m.waiting }) zero ∙ is)

-- all that stands behind a place
take_whole : {A : Type 0} (list : List A) (n : ℕ) → length list ≤ n → take n list ≡ list
take_whole [] zero le = refl
take_whole [] (suc n) le = refl
take_whole (e ∷ list) zero le = absurd (omega (arith, le))
take_whole (e ∷ list) (suc n) le = ap (λ l. e ∷ l) (take_whole list n (omega (arith, le)))

pub take_rest : (list : List Parcel) (n : ℕ) → take (length list - n) (drop n list) ≡ drop n list
take_rest list n = let size = length-drop n list in take_whole (drop n list) (length list - n) (omega (arith, size))
