-- Steps of keeping acknowledgements back: how long, and which can wait.
use Rattle.std.proofs.Common.{◌≡◌, ℕ, ◌+◌, ◌≤◌, ◌<◌, Bool, true, List, [], ◌∷◌, ◌++◌, take, drop, refl, sym, ap, subst, ◌∙◌, arith, inl, inr, append_assoc}
use Rattle.std.proofs.lemmas.List.{append_cancel_right, take-append-drop}
use Rattle.std.proofs.lemmas.List.Elements.{filter-append}
use Rattle.std.specs.Prelude.{◌⊎◌, min, is_some, Option, Some, None, IfSome, if◌then◌else◌}
use Rattle.delayed_acknowledgements.specs.Acknowledgements.{Covers, IsUrgent, short_acknowledgement}
use Rattle.delayed_acknowledgements.specs.declared.acknowledgements.Acknowledgement.{Acknowledgement}
use Rattle.delayed_acknowledgements.specs.declared.delayed.DelayedAcknowledgement.{DelayedAcknowledgement}
use Rattle.port_transport.specs.Wires.{Parcel}
use Rattle.port_transport.specs.Ports.{IsAcknowledgement, IsCoveredByNext, Thins, is_short, short_in}
use Rattle.outgoing_datagrams.specs.HandedDatagrams.{
  AllCanWait,
  CanWait,
  HandsOn,
  KeepsFrom,
  SendingState,
  counted_on,
  kept_in,
  last_said,
  since_behind,
  stands_behind,
  stands_now,
}

-- one acknowledgement
pub short_one : (p : Parcel) → is_short p ≡ true → short_in (p ∷ []) ≡ p ∷ []
short_one p is = ap (λ (b : Bool). if b then p ∷ [] else []) is

-- ---- lists, one behind the other

last_append : (before : Option Acknowledgement) (xs ys : List Parcel) →
    last_said before (xs ++ ys) ≡ last_said (last_said before xs) ys
last_append before [] ys = refl
last_append before (x ∷ xs) ys = last_append (short_acknowledgement x.1) xs ys

counted_append : (n : ℕ) (xs ys : List Parcel) → counted_on n (xs ++ ys) ≡ counted_on (counted_on n xs) ys
counted_append n [] ys = refl
counted_append n (x ∷ xs) ys = counted_append (min (n + 1) 4294967295) xs ys

wait_append : (before : Option Acknowledgement) (xs ys : List Parcel) → AllCanWait before xs →
    AllCanWait (last_said before xs) ys → AllCanWait before (xs ++ ys)
wait_append before [] ys first second = second
wait_append before (x ∷ xs) ys first second = (first.0, wait_append (short_acknowledgement x.1) xs ys first.1 second)

-- ---- where nothing went and nothing is kept back, nothing was there

not_empty : (p : Parcel) (l : List Parcel) → p ∷ l ≡ [] → ⊥
not_empty p l is = cc

covered_by_none : (a : Parcel) (l : List Parcel) → IsCoveredByNext a l → l ≡ [] → ⊥
covered_by_none a [] covered is = covered
covered_by_none a (b ∷ l) covered is = not_empty b l is

thins_nothing : (l : List Parcel) → Thins l [] → l ≡ []
thins_nothing [] thins = refl
thins_nothing (a ∷ l) (inl went) = absurd (not_empty a went.0 (sym went.1))
thins_nothing (a ∷ l) (inr lost) = absurd (covered_by_none a l lost.0 (thins_nothing l lost.1))

none_before : (k l : Option DelayedAcknowledgement) (s : List Parcel) → Thins (kept_in k ++ s) (kept_in l) → l ≡ None →
    (k ≡ None) × (s ≡ [])
none_before None l s thins none = (refl, thins_nothing s (subst (λ x. Thins s (kept_in x)) none thins))
none_before (Some k) l s thins none =
    absurd (not_empty (k.target, k.bytes) s
    (thins_nothing ((k.target, k.bytes) ∷ s) (subst (λ x. Thins ((k.target, k.bytes) ∷ s) (kept_in x)) none thins)))

nothing_kept : (k l : Option DelayedAcknowledgement) (ws vs taken : List Parcel) → HandsOn k ws [] l vs →
    ws ≡ taken ++ vs → l ≡ None → (k ≡ None) × (short_in taken ≡ [])
nothing_kept k l ws vs taken hands front none =
    let same : hands.taken ≡ taken = append_cancel_right hands.taken taken vs (sym hands.front ∙ front) in
    let found = none_before k l (short_in hands.taken) hands.short none in
    (found.0, ap short_in (sym same) ∙ found.1)

-- ---- two steps, one after the other

since_joined : (k l m : Option DelayedAcknowledgement) (s t u v w : ℕ) → v ≡ t → (l ≡ None → k ≡ None) →
    IfSome l (λ _. u ≡ since_behind k s t) → IfSome m (λ _. w ≡ since_behind l u v) → IfSome m (λ _. w ≡ since_behind k s t)
since_joined k l None s t u v w time none p q = tt
since_joined k None (Some m) s t u v w time none p q = q ∙ time ∙ sym (ap (λ x. since_behind x s t) (none refl))
since_joined k (Some l) (Some m) s t u v w time none p q = q ∙ p

stands_joined : (k l m : Option DelayedAcknowledgement) (a b c : ℕ) (xs ys : List Parcel) →
    (l ≡ None → (k ≡ None) × (xs ≡ [])) → IfSome l (λ _. b ≡ counted_on (stands_now k a) xs) →
    IfSome m (λ _. c ≡ counted_on (stands_now l b) ys) → IfSome m (λ _. c ≡ counted_on (stands_now k a) (xs ++ ys))
stands_joined k l None a b c xs ys none p q = tt
stands_joined k None (Some m) a b c xs ys none p q =
    let nothing = none refl in
    q ∙ sym (ap (λ x. counted_on (stands_now x a) ys) nothing.0)
    ∙ sym (ap (λ (l : List Parcel). counted_on (stands_now k a) (l ++ ys)) nothing.1)
stands_joined k (Some l) (Some m) a b c xs ys none p q =
    q ∙ ap (λ (n : ℕ). counted_on n ys) p ∙ sym (counted_append (stands_now k a) xs ys)

calm_joined : (l m : Option DelayedAcknowledgement) (before behind : Option Acknowledgement) (xs ys : List Parcel) →
    behind ≡ last_said before xs → (l ≡ None → xs ≡ []) → IfSome l (λ _. AllCanWait before xs) →
    IfSome m (λ _. AllCanWait behind ys) → IfSome m (λ _. AllCanWait before (xs ++ ys))
calm_joined l None before behind xs ys said none p q = tt
calm_joined None (Some m) before behind xs ys said none p q =
    wait_append before xs ys (subst (λ (l : List Parcel). AllCanWait before l) (sym (none refl)) tt)
    (subst (λ x. AllCanWait x ys) said q)
calm_joined (Some l) (Some m) before behind xs ys said none p q =
    wait_append before xs ys p (subst (λ x. AllCanWait x ys) said q)

-- nothing went in the first of them
pub keeps_joined : (a b c : SendingState) (ws vs us : List Parcel) → b.time ≡ a.time → HandsOn a.kept ws [] b.kept vs →
    KeepsFrom a ws b vs → KeepsFrom b vs c us → KeepsFrom a ws c us
keeps_joined a b c ws vs us time hands p q =
    let shorts : short_in (p.taken ++ q.taken) ≡ short_in p.taken ++ short_in q.taken =
    filter-append is_short p.taken q.taken in
    let none : b.kept ≡ None → (a.kept ≡ None) × (short_in p.taken ≡ []) =
    nothing_kept a.kept b.kept ws vs p.taken hands p.front in
    record {
      taken = p.taken ++ q.taken;
      front = p.front ∙ ap (λ (l : List Parcel). p.taken ++ l) q.front ∙ sym (append_assoc p.taken q.taken us);
      last = q.last ∙ ap (λ x. last_said x (short_in q.taken)) p.last
          ∙ sym (last_append a.last (short_in p.taken) (short_in q.taken)) ∙ ap (last_said a.last) (sym shorts);
      since = since_joined a.kept b.kept c.kept a.since a.time b.since b.time c.since time (λ e. (none e).0) p.since q.since;
      stands = subst (λ (l : List Parcel). IfSome c.kept (λ _. c.delay.stands_for ≡ counted_on (stands_now a.kept a.delay.stands_for) l))
          (sym shorts) (stands_joined a.kept b.kept c.kept a.delay.stands_for b.delay.stands_for c.delay.stands_for
          (short_in p.taken) (short_in q.taken) none p.stands q.stands);
      few = λ few. q.few (p.few few);
      calm = subst (λ (l : List Parcel). IfSome c.kept (λ _. AllCanWait a.last l)) (sym shorts)
          (calm_joined b.kept c.kept a.last b.last (short_in p.taken) (short_in q.taken) p.last (λ e. (none e).1) p.calm q.calm);
    }

-- ---- one step

since_same : (k : Option DelayedAcknowledgement) (s t : ℕ) → IfSome k (λ _. s ≡ since_behind k s t)
since_same None s t = tt
since_same (Some k) s t = refl

stands_same : (k : Option DelayedAcknowledgement) (n : ℕ) → IfSome k (λ _. n ≡ counted_on (stands_now k n) [])
stands_same None n = tt
stands_same (Some k) n = refl

calm_same : (k : Option DelayedAcknowledgement) (before : Option Acknowledgement) → IfSome k (λ _. AllCanWait before [])
calm_same None before = tt
calm_same (Some k) before = tt

-- datagrams were taken of which none is an acknowledgement
pub keeps_plain : (a : SendingState) (ws vs taken : List Parcel) → ws ≡ taken ++ vs → short_in taken ≡ [] →
    KeepsFrom a ws (record a { waiting = vs }) vs
keeps_plain a ws vs taken front none = record {
  taken = taken;
  front = front;
  last = ap (last_said a.last) (sym none);
  since = since_same a.kept a.since a.time;
  stands = subst (λ (l : List Parcel). IfSome a.kept (λ _. a.delay.stands_for ≡ counted_on (stands_now a.kept a.delay.stands_for) l))
      (sym none) (stands_same a.kept a.delay.stands_for);
  few = λ few. few;
  calm = subst (λ (l : List Parcel). IfSome a.kept (λ _. AllCanWait a.last l)) (sym none) (calm_same a.kept a.last);
}

-- nothing was taken
pub keeps_none : (a b : SendingState) (ws : List Parcel) → b ≡ a → KeepsFrom a ws b ws
keeps_none a b ws is = subst (λ (x : SendingState). KeepsFrom a ws x ws) (sym is) (record {
  taken = [];
  front = refl;
  last = refl;
  since = since_same a.kept a.since a.time;
  stands = stands_same a.kept a.delay.stands_for;
  few = λ few. few;
  calm = calm_same a.kept a.last;
})

-- what was kept back went
pub keeps_gone : (a b : SendingState) → b ≡ record a { kept = None } → KeepsFrom a a.waiting b b.waiting
keeps_gone a b is = subst (λ (x : SendingState). KeepsFrom a a.waiting x x.waiting) (sym is) (record {
  taken = [];
  front = refl;
  last = refl;
  since = tt;
  stands = tt;
  few = λ few. tt;
  calm = tt;
})

-- a run went
pub keeps_run : (a b : SendingState) (n : ℕ) → b ≡ record a { waiting = drop n a.waiting } →
    short_in (take n a.waiting) ≡ [] → KeepsFrom a a.waiting b b.waiting
keeps_run a b n is none =
    subst (λ (x : SendingState). KeepsFrom a a.waiting x x.waiting) (sym is)
    (keeps_plain a a.waiting (drop n a.waiting) (take n a.waiting) (sym (take-append-drop n a.waiting)) none)

one_counted : (k : Option DelayedAcknowledgement) (n : ℕ) → stands_behind k n ≡ min (stands_now k n + 1) 4294967295
one_counted None n = refl
one_counted (Some k) n = refl

none_some : (next : DelayedAcknowledgement) (going : Option DelayedAcknowledgement) → going ≡ None → going ≡ Some next → ⊥
none_some next going none some = let is : None ≡ Some next = sym none ∙ some in cc

-- of one that waits next what is told where it is kept back
since_next : (k l : Option DelayedAcknowledgement) (s t u : ℕ) → u ≡ since_behind k s t → IfSome l (λ _. u ≡ since_behind k s t)
since_next k None s t u is = tt
since_next k (Some l) s t u is = is

stands_next : (k l : Option DelayedAcknowledgement) (p : Parcel) (n m : ℕ) → m ≡ stands_behind k n →
    IfSome l (λ _. m ≡ counted_on (stands_now k n) (p ∷ []))
stands_next k None p n m is = tt
stands_next k (Some l) p n m is = is ∙ one_counted k n

below_16 : (n : ℕ) → (16 ≤ n → ⊥) → n < 16
below_16 n few = omega (arith, few)

few_next : (k l : Option DelayedAcknowledgement) (n m : ℕ) → m ≡ stands_behind k n →
    (IfSome l (λ _. 16 ≤ stands_behind k n → ⊥)) → IfSome l (λ _. m < 16)
few_next k None n m is few = tt
few_next k (Some l) n m is few = let below = below_16 (stands_behind k n) few in omega (arith, is, below)

some_goes : (l going : Option DelayedAcknowledgement) (next : DelayedAcknowledgement) (P : Type 0) →
    (((going ≡ None) × (l ≡ Some next)) ⊎ ((going ≡ Some next) × (l ≡ None))) → (P → going ≡ Some next) →
    IfSome l (λ _. P → ⊥)
some_goes l going next P (inl stays) goes =
    subst (λ x. IfSome x (λ _. P → ⊥)) (sym stays.1) (λ p. none_some next going stays.0 (goes p))
some_goes l going next P (inr gone) goes = subst (λ x. IfSome x (λ _. P → ⊥)) (sym gone.1) tt

calm_next : (l : Option DelayedAcknowledgement) (before : Option Acknowledgement) (p : Parcel) (said : Acknowledgement) →
    short_acknowledgement p.1 ≡ Some said → IfSome l (λ _. IsUrgent before said → ⊥) →
    IfSome l (λ _. AllCanWait before (p ∷ []))
calm_next None before p said is calm = tt
calm_next (Some l) before p said is calm = (subst (CanWait before) (sym is) calm, tt)

-- the next acknowledgement was taken: it goes at once, or is kept back
keeps_next : (m t : SendingState) (going : Option DelayedAcknowledgement) (next : DelayedAcknowledgement) →
    ((rest : List Parcel) × (m.waiting ≡ (next.target, next.bytes) ∷ rest)) → IsAcknowledgement next →
    t.waiting ≡ drop 1 m.waiting → (((going ≡ None) × (t.kept ≡ Some next)) ⊎ ((going ≡ Some next) × (t.kept ≡ None))) →
    (IsUrgent m.last next.said → going ≡ Some next) →
    (16 ≤ stands_behind m.kept m.delay.stands_for → going ≡ Some next) → t.last ≡ Some next.said →
    t.since ≡ since_behind m.kept m.since m.time → t.delay.stands_for ≡ stands_behind m.kept m.delay.stands_for →
    KeepsFrom m m.waiting t t.waiting
keeps_next m t going next waits named behind keeps urgent over last since many =
    let p : Parcel = (next.target, next.bytes) in
    let one : short_in (p ∷ []) ≡ p ∷ [] = short_one p (ap is_some named) in
    let rest : t.waiting ≡ waits.0 = behind ∙ ap (λ (l : List Parcel). drop 1 l) waits.1 in
    record {
      taken = p ∷ [];
      front = waits.1 ∙ ap (λ (l : List Parcel). p ∷ l) (sym rest);
      last = last ∙ sym named ∙ ap (last_said m.last) (sym one);
      since = since_next m.kept t.kept m.since m.time t.since since;
      stands = subst (λ (l : List Parcel). IfSome t.kept (λ _. t.delay.stands_for ≡ counted_on (stands_now m.kept m.delay.stands_for) l))
          (sym one) (stands_next m.kept t.kept p m.delay.stands_for t.delay.stands_for many);
      few = λ few.
          few_next m.kept t.kept m.delay.stands_for t.delay.stands_for many
          (some_goes t.kept going next (16 ≤ stands_behind m.kept m.delay.stands_for) keeps over);
      calm = subst (λ (l : List Parcel). IfSome t.kept (λ _. AllCanWait m.last l)) (sym one)
          (calm_next t.kept m.last p next.said named (some_goes t.kept going next (IsUrgent m.last next.said) keeps urgent));
    }

pub keeps_passed : (s m t : SendingState) (going : Option DelayedAcknowledgement) (next : DelayedAcknowledgement) →
    ((rest : List Parcel) × (s.waiting ≡ (next.target, next.bytes) ∷ rest)) → IsAcknowledgement next → m ≡ s →
    t.waiting ≡ drop 1 m.waiting → (((going ≡ None) × (t.kept ≡ Some next)) ⊎ ((going ≡ Some next) × (t.kept ≡ None))) →
    (IsUrgent m.last next.said → going ≡ Some next) →
    (16 ≤ stands_behind m.kept m.delay.stands_for → going ≡ Some next) → t.last ≡ Some next.said →
    t.since ≡ since_behind m.kept m.since m.time → t.delay.stands_for ≡ stands_behind m.kept m.delay.stands_for →
    KeepsFrom s s.waiting t t.waiting
keeps_passed s m t going next waits named same behind keeps urgent over last since many =
    subst (λ (x : SendingState). KeepsFrom x x.waiting t t.waiting) same
    (keeps_next m t going next (waits.0, ap (λ (x : SendingState). x.waiting) same ∙ waits.1) named behind keeps urgent over
    last since many)
