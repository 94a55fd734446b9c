-- Lemmas on the contexts that calls give.
use Rattle.std.proofs.Common.{◌≡◌, ◌≢◌, ℕ, zero, suc, ◌+◌, ◌^◌, ◌<◌, ◌≤◌, List, [], ◌∷◌, Ok, Err, refl, sym, ◌∙◌, ap}
use Rattle.std.proofs.Common.{arith, get_or}
use Rattle.std.specs.List.{All}
use Rattle.std.proofs.lemmas.List.Elements.{All-nil, All-cons, All-weaker}
use Rattle.std.proofs.lemmas.List.Kept.{AllPairs-cons}
use Rattle.std.specs.List.{range_with_len}
use Rattle.context_agreement.specs.declared.communicator.Communicator.{Communicator}
use Rattle.context_agreement.specs.declared.context.Context.{Context}
use Rattle.context_agreement.specs.declared.refusal.ContextRefusal.TheVariants.{Limit, OutOfMemory}
use Rattle.context_agreement.specs.Communicators.{ContextsState, after_draw, coming_context, opening, world_and_self}
use Rattle.context_agreement.specs.GivenOnce.{asked, installed, given, AreGivenOnce, IsRun, NoneTwice, NoneOfTwo}
use Rattle.context_agreement.specs.GivenOnce.{NoneOfTheFirst, DrawsAreAsked, asked_often, coming_from, final_state}

-- what is given from a later state of the same creator is given from an earlier one
from_later : (s t : ContextsState) (contexts : List Context) → t.rank ≡ s.rank → t.incarnation ≡ s.incarnation
    → s.next_serial ≤ t.next_serial → AreGivenOnce t contexts → AreGivenOnce s contexts
from_later s t contexts rank incarnation later once = record {
  creator = All-weaker (λ (c : Context). (c.rank ≡ t.rank) × (c.incarnation ≡ t.incarnation)) (λ c. (c.rank ≡ s.rank) ×
      (c.incarnation ≡ s.incarnation))
      (λ c h. (h.0 ∙ rank, h.1 ∙ incarnation)) contexts once.creator;
  unused = All-weaker (λ (c : Context). t.next_serial ≤ c.serial) (λ c. s.next_serial ≤ c.serial)
      (λ c h. omega arith) contexts once.unused;
  rising = once.rising;
  apart = once.apart;
}

-- one more context is given, and then others
one_more : (s t : ContextsState) (c : Context) (contexts : List Context)
    → c ≡ record { rank = s.rank; incarnation = s.incarnation; serial = s.next_serial }
    → t ≡ record s { next_serial = s.next_serial + 1 } → AreGivenOnce t contexts → AreGivenOnce s (c ∷ contexts)
one_more s t c contexts is after once =
    let rank : c.rank ≡ s.rank = ap (λ (x : Context). x.rank) is in
    let incarnation : c.incarnation ≡ s.incarnation = ap (λ (x : Context). x.incarnation) is in
    let serial : c.serial ≡ s.next_serial = ap (λ (x : Context). x.serial) is in
    let next : t.next_serial ≡ s.next_serial + 1 = ap (λ (x : ContextsState). x.next_serial) after in
    let rest = from_later s t contexts (ap (λ (x : ContextsState). x.rank) after) (ap (λ (x : ContextsState). x.incarnation) after) (omega arith) once in
    let above : All (λ (b : Context). c.serial < b.serial) contexts =
    All-weaker (λ (b : Context). t.next_serial ≤ b.serial) (λ b. c.serial < b.serial) (λ b h. omega arith) contexts
    once.unused in
    record {
      creator =
          All-cons (λ (x : Context). (x.rank ≡ s.rank) × (x.incarnation ≡ s.incarnation)) c contexts
          (rank, incarnation) rest.creator;
      unused = All-cons (λ (x : Context). s.next_serial ≤ x.serial) c contexts (omega arith) rest.unused;
      rising = AllPairs-cons (λ (a b : Context). a.serial < b.serial) c contexts above once.rising;
      apart = AllPairs-cons (λ (a b : Context). a ≢ b) c contexts
          (All-weaker (λ (b : Context). c.serial < b.serial) (λ b. c ≢ b)
          (λ b h same. omega (arith, ap (λ (x : Context). x.serial) same)) contexts above)
          once.apart;
    }

-- the same state
unchanged : (s t : ContextsState) (contexts : List Context) → t ≡ s → AreGivenOnce t contexts → AreGivenOnce s contexts
unchanged s t contexts same once =
    let next : t.next_serial ≡ s.next_serial = ap (λ (x : ContextsState). x.next_serial) same in
    from_later s t contexts (ap (λ (x : ContextsState). x.rank) same) (ap (λ (x : ContextsState). x.incarnation) same)
    (omega arith) once

pub none_twice : NoneTwice
none_twice s [] run = record {
  creator = All-nil (λ (c : Context). (c.rank ≡ s.rank) × (c.incarnation ≡ s.incarnation));
  unused = All-nil (λ (c : Context). s.next_serial ≤ c.serial);
  rising = λ i j d lt within. absurd (omega arith);
  apart = λ i j d lt within. absurd (omega arith);
}
none_twice s ((asked (Ok c), t) ∷ es) run = one_more s t c (given es) run.0.1 run.0.2 (none_twice t es run.1)
none_twice s ((asked (Err Limit), t) ∷ es) run = unchanged s t (given es) run.0.1 (none_twice t es run.1)
none_twice s ((asked (Err OutOfMemory), t) ∷ es) run = absurd run.0
none_twice s ((installed c, t) ∷ es) run =
    let after = run.0 in
    let next : t.next_serial ≡ s.next_serial = ap (λ (x : ContextsState). x.next_serial) after in
    from_later s t (given es) (ap (λ (x : ContextsState). x.rank) after)
    (ap (λ (x : ContextsState). x.incarnation) after) (omega arith) (none_twice t es run.1)

pub none_of_two : NoneOfTwo
none_of_two s t run other one two differ = λ k d k<len k' d' k'<len same.
    let a = (none_twice s run one).creator k d k<len in
    let b = (none_twice t other two).creator k' d' k'<len in
    differ (sym a.0 ∙ ap (λ (x : Context). x.rank) same ∙ b.0) (sym a.1 ∙ ap (λ (x : Context). x.incarnation) same ∙
    b.1)

-- contexts of two serials differ
apart_by_serial : (c d : Context) → d.serial < c.serial → c ≢ d
apart_by_serial c d below same = omega (arith, ap (λ (x : Context). x.serial) same)

pub none_of_the_first : NoneOfTheFirst
none_of_the_first rank incarnation size run is r i n = λ k d k<len.
    let unused = (none_twice (opening rank incarnation size) run is).unused k d k<len in
    first_apart (get_or (given run) k d) unused r i n
  where
    first_apart : (c : Context) → 2 ≤ c.serial → (r i n : ℕ) → All (λ held. c ≢ held.context) (world_and_self r i n)
    first_apart c above r i n =
        let world : Context = record { rank = 0; incarnation = 0; serial = 0 } in
        let own : Context = record { rank = r; incarnation = i; serial = 1 } in
        All-cons (λ (held : Communicator). c ≢ held.context) (record { context = world; group = range_with_len 0 n })
        (record { context = own; group = r ∷ [] } ∷ [])
        (apart_by_serial c world (omega arith))
        (All-cons (λ (held : Communicator). c ≢ held.context) (record { context = own; group = r ∷ [] }) []
        (apart_by_serial c own (omega arith)) (All-nil (λ (held : Communicator). c ≢ held.context)))

-- what comes once one context was given came before it one later
coming_later : (s : ContextsState) (further count : ℕ) → coming_from (after_draw s 1) further count ≡
    coming_from s (suc further) count
coming_later s further zero = refl
coming_later s further (suc count) =
    let serial : s.next_serial + 1 + further ≡ s.next_serial + suc further = omega arith in
    let context : coming_context (after_draw s 1) further ≡ coming_context s (suc further) =
    ap (λ n. record { rank = s.rank; incarnation = s.incarnation; serial = n }) serial in
    rw (context, coming_later s (suc further) count) refl

-- to draw is to ask
pub draws_are_asked : DrawsAreAsked
draws_are_asked s zero few =
    let same : s.next_serial ≡ s.next_serial + 0 = omega arith in
    (tt, ap (λ n. record s { next_serial = n }) same, refl)
draws_are_asked s (suc count) few =
    let rest = draws_are_asked (after_draw s 1) count (omega (arith, few)) in
    let sum : s.next_serial + 1 + count ≡ s.next_serial + suc count = omega arith in
    let first : coming_context s 0 ≡ record { rank = s.rank; incarnation = s.incarnation; serial = s.next_serial } =
    ap (λ n. record { rank = s.rank; incarnation = s.incarnation; serial = n }) (omega arith) in (
      ((omega (arith, few), refl, refl), rest.0),
      rest.1 ∙ ap (λ n. record s { next_serial = n }) sum,
      rw (first, rest.2, coming_later s 0 count) refl,
    )
