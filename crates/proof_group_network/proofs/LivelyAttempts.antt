-- What a rank does of itself keeps what was told and what came.
use Rattle.std.proofs.Common.{◌≡◌, ℕ, ◌+◌, ◌<◌, Bool, true, false, ◌&&◌, not, List}
use Rattle.std.proofs.Common.{[], ◌∷◌, ◌++◌, length, Option, Some, None, if◌then◌else◌, ◌==◌, slice_get, refl}
use Rattle.std.proofs.Common.{sym, ap, ◌∙◌, subst, arith, ◌⊎◌, inl, inr, ⊎_elim}
use Rattle.std.proofs.lemmas.Bool.{eqb-true, eq-eqb}
use Rattle.std.proofs.lemmas.Option.{same_Some}
use Rattle.std.proofs.lemmas.List.{length-append}
use Rattle.perfect_groups.proofs.GroupProofs.{there_more, with_made_more}
use Rattle.perfect_groups.specs.Collectives.{Part}
use Rattle.perfect_groups.specs.Communicators.{Communicator}
use Rattle.perfect_groups.specs.Machine.{mismatch}
use Rattle.perfect_groups.specs.Membership.{Failed, Inside, Left, Membership, Out, Present, got, left_with, mine}
use Rattle.perfect_groups.specs.Results.{handed_to, is_making}
use Rattle.perfect_queues.proofs.EndpointLemmas.{same_eq}
use Rattle.proof_group_network.proofs.GroupEvents.{one_present}
use Rattle.proof_group_network.proofs.GroupSteps.{clash, got_count, got_out}
use Rattle.proof_group_network.proofs.Verdicts.{Entered, Made, SaysAt, making_first}
use Rattle.proof_group_network.proofs.GroupSteps.{none_some, told_is_result}
use Rattle.proof_group_network.proofs.Verdicts.{says_at}
use Rattle.proof_group_network.proofs.GroupInvariant.{Honest, IsInside, put_same}
use Rattle.proof_group_network.proofs.Lively.{HasCome, IsOutside, IsToldUp}
use Rattle.proof_group_network.proofs.Lively.{LeftFrom, Lively, Longer, More, Settled, come_left}
use Rattle.proof_group_network.proofs.Lively.{get_push_back, joined_more}
use Rattle.proof_group_network.proofs.Lively.{left_more, notified_handed, notified_longer, others_told}
use Rattle.proof_group_network.proofs.Lively.{up_more}
use Rattle.proof_group_network.proofs.NoticeTruth.{Difference, differs_is}
use Rattle.proof_group_network.specs.Network.{NoticeLink, groups_by, made_by, made_in, made_then}
use Rattle.proof_group_network.specs.Network.{notify, notify_all, put_member}
use Rattle.proof_group_network.specs.Notices.{Breaks, Decides, HasDifference, HasEntered, HasMade, HasResult, Hears}
use Rattle.proof_group_network.specs.Notices.{Member, Notice, Said, Stays, Verdict, Waits, attempt, attempt_in}
use Rattle.proof_group_network.specs.Notices.{carried_out, entries_to, is_differing, is_elsewhere, joined}
use Rattle.proof_group_network.specs.Notices.{left_by, making_new, notice}
use Rattle.proof_group_network.specs.Notices.{relayed, result_for, result_said, result_told, results_on, results_to}
use Rattle.proof_group_network.specs.Notices.{told_on, verdict, way_of, whom_to_tell, without}
use Rattle.proof_group_network.specs.Roles.{is_ordered}
use Rattle.vocabulary.specs.Endpoints.{is_same}
use Rattle.vocabulary.specs.declared.endpoint.Endpoint.{Endpoint}

-- LINKS

fits_more : (l l' : NoticeLink) → Longer l l' → l'.handed ≡ l.handed →
    ((i : ℕ) → l.handed i ≡ true → i < length l.accepted) → (i : ℕ) → l'.handed i ≡ true → i < length l'.accepted
fits_more l l' g same h i t =
    let a : length l'.accepted ≡ length (l.accepted ++ g.more) = ap length g.accepted in
    let b : length (l.accepted ++ g.more) ≡ length l.accepted + length g.more = length-append l.accepted g.more in
    let c : i < length l.accepted = h i (ap (λ (f : ℕ → Bool). f i) (sym same) ∙ t) in
    omega (arith, a, b, c)

-- what came over a link that accepted more
came_more : (l l' : NoticeLink) (P : Notice → Type 0) → Longer l l' → l'.handed ≡ l.handed →
    ((i : ℕ) → l.handed i ≡ true → i < length l.accepted) →
    ((i : ℕ) (x : Notice) → l.handed i ≡ true → slice_get l.accepted i ≡ Some x → P x) →
    (i : ℕ) (x : Notice) → l'.handed i ≡ true → slice_get l'.accepted i ≡ Some x → P x
came_more l l' P g same fit all i x t h =
    let u : l.handed i ≡ true = ap (λ (f : ℕ → Bool). f i) (sym same) ∙ t in
    all i x u
    (get_push_back l.accepted g.more i x (fit i u) (ap (λ (a : List Notice). slice_get a i) (sym g.accepted) ∙ h))

-- a notice at each place of the members
pub each_come : (members : Endpoint → Member) (e : Endpoint) (m : Member) (s d : Endpoint) (x : Notice) →
    (HasCome (members e) s x → HasCome m s x) → HasCome (members d) s x → HasCome (put_member members e m d) s x
each_come members e m s d x f h = go (is_same d e) refl
  where
    go : (t : Bool) → is_same d e ≡ t → HasCome (if t then m else members d) s x
    go true q = f (subst (λ (y : Endpoint). HasCome (members y) s x) (same_eq d e q) h)
    go false q = h

-- LEAVING

-- of one collective or another
pub leave_cases : (c : Communicator) (k : ℕ) (p : Part) (ctx j : ℕ) (o : Option Present) → o ≡ Some (Inside c k p) →
    ((c.context ≡ ctx) × (k ≡ j)) ⊎ IsOutside o ctx j
leave_cases c k p ctx j o h = go (c.context == ctx) refl (k == j) refl
  where
    go : (t : Bool) → (c.context == ctx) ≡ t → (u : Bool) → (k == j) ≡ u →
        ((c.context ≡ ctx) × (k ≡ j)) ⊎ IsOutside o ctx j
    go true a true b = inl (eqb-true c.context ctx a, eqb-true k j b)
    go false a u b =
        inr (λ d q r hc.
        (let z : d.context ≡ c.context = one_present (λ y i w. y.context ≡ c.context) c k p d j q refl (sym h ∙ r) in
        clash (sym a ∙ eq-eqb c.context ctx (sym z ∙ hc))))
    go true a false b =
        inr (λ d q r hc.
        (let z : k ≡ j = one_present (λ y i w. k ≡ i) c k p d j q refl (sym h ∙ r) in clash (sym b ∙ eq-eqb k j z)))

-- who is in no collective is in none
pub none_inside : (o : Option Present) → ((y : Notice) → is_elsewhere o y ≡ true) → (c : Communicator) (k : ℕ) (p : Part) →
    o ≡ Some (Inside c k p) → ⊥
none_inside o f c k p h = clash (sym here ∙ f (notice c.context k (HasDifference p.record_is)))
  where
    here : is_elsewhere o (notice c.context k (HasDifference p.record_is)) ≡ false
    here = subst (λ (x : Option Present). is_elsewhere x (notice c.context k (HasDifference p.record_is)) ≡ false)
        (sym h) (both (c.context == c.context) (k == k) (eq-eqb c.context c.context refl) (eq-eqb k k refl))
      where
        both : (t u : Bool) → t ≡ true → u ≡ true → not (t && u) ≡ false
        both true true a b = refl
        both true false a b = absurd (grind arith)
        both false u a b = absurd (grind arith)

leaving_lively : (n : ℕ) (members : Endpoint → Member) (entered : Entered) (made made' : Made) (links : Endpoint →
    Endpoint → NoticeLink) (known : Endpoint → ℕ → ℕ) (e : Endpoint) (m : Member) (out : List (Endpoint × Notice))
    (c : Communicator) (k : ℕ) (p : Part) →
    Lively n entered made members links known →
    ((c k : ℕ) (cs : List Communicator) → made c k ≡ Some cs → made' c k ≡ Some cs) →
    (members e).membership.present ≡ Some (Inside c k p) → entered c.context k e ≡ Some p →
    k < (members e).membership.count c.context →
    m.membership.count ≡ (members e).membership.count → ((y : Notice) → is_elsewhere m.membership.present y ≡ true) →
    m.kept ≡ without c.context k (members e).kept →
    LeftFrom n entered made' (notify_all links e out) (known e) e c.context k p →
    Lively n entered made' (put_member members e m) (notify_all links e out) known
leaving_lively n members entered made made' links known e m out c k p h grow inside is below counts out_is kept from =
    record {
      fits = λ s d. fits_more (links s d) (links' s d) (longer s d) (notified_handed links e out s d) (h.fits s d);
      come = λ s d. came_more (links s d) (links' s d) (λ x. HasCome (put_member members e m d) s x) (longer s d)
          (notified_handed links e out s d) (h.fits s d)
          (λ i x lt q. each_come members e m s d x (come_left (members e) m s x c.context k below counts out_is kept)
          (h.come s d i x lt q));
      joined = λ x ctx j q r. joined_more n entered entered made made' links links' known known x ctx q more
          (h.joined x ctx j q r);
      waiting = λ x d j q r w. waits x d j q r w;
      left = λ x ctx j q r o. left x ctx j q r o;
    }
  where
    links' : Endpoint → Endpoint → NoticeLink
    links' = notify_all links e out

    longer : (s d : Endpoint) → Longer (links s d) (links' s d)
    longer = notified_longer links e out

    more : More entered entered made made' links links' known known
    more = record { entered_is = λ c k x p q. q; made_is = grow; longer = longer; known_is = λ x r. omega arith }

    waits : (x : Endpoint) (d : Communicator) (j : ℕ) (q : Part) →
        (put_member members e m x).membership.present ≡ Some (Inside d j q) → (put_member members e m x).told ≡ true →
        IsToldUp entered links' (known x) x d.context j q d.members
    waits x d j q = go (is_same x e)
      where
        go : (t : Bool) → (if t then m else members x).membership.present ≡ Some (Inside d j q) →
            (if t then m else members x).told ≡ true → IsToldUp entered links' (known x) x d.context j q d.members
        go true r w = absurd (none_inside m.membership.present out_is d j q r)
        go false r w =
            up_more entered entered made made' links links' known known x d.context j q d.members more
            (h.waiting x d j q r w)

    old : (x : Endpoint) (ctx j : ℕ) (q : Part) → entered ctx j x ≡ Some q →
        IsOutside (members x).membership.present ctx j → LeftFrom n entered made' links' (known x) x ctx j q
    old x ctx j q r o =
        left_more n entered entered made made' links links' known known x ctx j q more (h.left x ctx j q r o)

    here : (ctx j : ℕ) (q : Part) → entered ctx j e ≡ Some q → LeftFrom n entered made' links' (known e) e ctx j q
    here ctx j q r =
        ⊎_elim
        (λ t. (let same : p ≡ q = same_Some p q (sym is ∙ (ap (λ (y : ℕ). entered y k e) t.0 ∙ (ap (λ (y : ℕ). entered ctx y e) t.1 ∙ r))) in
        subst (λ (y : Part). LeftFrom n entered made' links' (known e) e ctx j y) same
        (subst (λ (y : ℕ). LeftFrom n entered made' links' (known e) e ctx y p) t.1
        (subst (λ (y : ℕ). LeftFrom n entered made' links' (known e) e y k p) t.0 from))))
        (λ o. old e ctx j q r o) (leave_cases c k p ctx j (members e).membership.present inside)

    left : (x : Endpoint) (ctx j : ℕ) (q : Part) → entered ctx j x ≡ Some q →
        IsOutside (put_member members e m x).membership.present ctx j →
        LeftFrom n entered made' links' (known x) x ctx j q
    left x ctx j q r = go (is_same x e) refl
      where
        go : (t : Bool) → is_same x e ≡ t → IsOutside (if t then m else members x).membership.present ctx j →
            LeftFrom n entered made' links' (known x) x ctx j q
        go false z o = old x ctx j q r o
        go true z o =
            subst (λ (y : Endpoint). LeftFrom n entered made' links' (known y) y ctx j q) (sym (same_eq x e z))
            (here ctx j q (ap (λ (y : Endpoint). entered ctx j y) (sym (same_eq x e z)) ∙ r))

got_elsewhere : (m : Membership) (o : Option Communicator) (y : Notice) → is_elsewhere (got m o).present y ≡ true
got_elsewhere m None y = refl
got_elsewhere m (Some c) y = refl

-- WHAT A RANK DOES OF ITSELF

notify_both : (links : Endpoint → Endpoint → NoticeLink) (e : Endpoint) (xs ys : List (Endpoint × Notice)) →
    notify_all links e (xs ++ ys) ≡ notify_all (notify_all links e xs) e ys
notify_both links e [] ys = refl
notify_both links e (x ∷ xs) ys = notify_both (notify links e x) e xs ys

-- once it has told, whoever is right above was told
told_up_now : (members : Endpoint → Member) (entered : Entered) (made : Made) (links : Endpoint → Endpoint → NoticeLink)
    (known : Endpoint → ℕ → ℕ) (e : Endpoint) (c : Communicator) (k : ℕ) (p : Part) (ps : List Part) (told : Bool) →
    (told ≡ true → IsToldUp entered links (known e) e c.context k p c.members) →
    IsToldUp entered (notify_all links e (entries_to e c k p ps told)) (known e) e c.context k p c.members
told_up_now members entered made links known e c k p ps true before = before refl
told_up_now members entered made links known e c k p ps false before =
    λ y h o. inr
    (inr (record {
      part = joined p.record_is ps;
      told =
          others_told links e (λ m. notice c.context k (HasEntered (joined p.record_is ps)))
          (whom_to_tell (way_of p.record_is) p.record_is.root e c.members) y h o;
    }))

same_more : (entered : Entered) (made : Made) (links : Endpoint → Endpoint → NoticeLink) (known : Endpoint → ℕ →
    ℕ) (e : Endpoint) (out : List (Endpoint × Notice)) →
    More entered entered made made links (notify_all links e out) known known
same_more entered made links known e out =
    record {
      entered_is = λ c k x p q. q;
      made_is = λ c k cs q. q;
      longer = notified_longer links e out;
      known_is =
          λ x r. omega arith;
    }

-- it waits, and has told
waiting_lively : (n : ℕ) (members : Endpoint → Member) (entered : Entered) (made : Made) (links : Endpoint → Endpoint →
    NoticeLink) (known : Endpoint → ℕ → ℕ) (e : Endpoint) (c : Communicator) (k : ℕ) (p : Part) (ps : List Part) →
    Lively n entered made members links known → (members e).membership.present ≡ Some (Inside c k p) →
    Lively n entered made (put_member members e (carried_out e (members e) c k p (Waits ps)).member)
    (notify_all links e (entries_to e c k p ps (members e).told)) known
waiting_lively n members entered made links known e c k p ps h inside =
    record {
      fits = λ s d. fits_more (links s d) (links' s d) (longer s d) (notified_handed links e out s d) (h.fits s d);
      come = λ s d. came_more (links s d) (links' s d) (λ x. HasCome (put_member members e m d) s x) (longer s d)
          (notified_handed links e out s d) (h.fits s d)
          (λ i x lt q. each_come members e m s d x (λ z. z) (h.come s d i x lt q));
      joined = λ x ctx j q r. joined_more n entered entered made made links links' known known x ctx q more
          (h.joined x ctx j q r);
      waiting = λ x d j q r w. waits x d j q r w;
      left = λ x ctx j q r o. left_more n entered entered made made links links' known known x ctx j q more
          (h.left x ctx j q r (outside x ctx j o));
    }
  where
    m : Member
    m = (carried_out e (members e) c k p (Waits ps)).member

    out : List (Endpoint × Notice)
    out = entries_to e c k p ps (members e).told

    links' : Endpoint → Endpoint → NoticeLink
    links' = notify_all links e out

    longer : (s d : Endpoint) → Longer (links s d) (links' s d)
    longer = notified_longer links e out

    more : More entered entered made made links links' known known
    more = same_more entered made links known e out

    outside : (x : Endpoint) (ctx j : ℕ) → IsOutside (put_member members e m x).membership.present ctx j →
        IsOutside (members x).membership.present ctx j
    outside x ctx j = go (is_same x e) refl
      where
        go : (t : Bool) → is_same x e ≡ t → IsOutside (if t then m else members x).membership.present ctx j →
            IsOutside (members x).membership.present ctx j
        go false q o = o
        go true q o = subst (λ (y : Endpoint). IsOutside (members y).membership.present ctx j) (sym (same_eq x e q)) o

    own : (d : Communicator) (j : ℕ) (q : Part) → Some (Inside c k p) ≡ Some (Inside d j q) →
        IsToldUp entered links' (known e) e d.context j q d.members
    own d j q r =
        one_present (λ d j q. IsToldUp entered links' (known e) e d.context j q d.members) c k p d j q
        (told_up_now members entered made links known e c k p ps (members e).told (λ w. h.waiting e c k p inside w)) r

    waits : (x : Endpoint) (d : Communicator) (j : ℕ) (q : Part) →
        (put_member members e m x).membership.present ≡ Some (Inside d j q) → (put_member members e m x).told ≡ true →
        IsToldUp entered links' (known x) x d.context j q d.members
    waits x d j q = go (is_same x e) refl
      where
        go : (t : Bool) → is_same x e ≡ t → (if t then m else members x).membership.present ≡ Some (Inside d j q) →
            (if t then m else members x).told ≡ true → IsToldUp entered links' (known x) x d.context j q d.members
        go true z r w =
            subst (λ (y : Endpoint). IsToldUp entered links' (known y) y d.context j q d.members) (sym (same_eq x e z))
            (own d j q (sym inside ∙ r))
        go false z r w =
            up_more entered entered made made links links' known known x d.context j q d.members more
            (h.waiting x d j q r w)

pub attempt_lively : (n : ℕ) (members : Endpoint → Member) (entered : Entered) (made : Made) (links : Endpoint →
    Endpoint → NoticeLink) (known : Endpoint → ℕ → ℕ) (e : Endpoint) →
    Honest n (groups_by members entered made) (λ x. (members x).kept) links →
    Lively n entered made members links known →
    Lively n entered (made_in made e (members e) (members e).membership.present)
    (put_member members e (attempt e (members e)).member) (notify_all links e (attempt e (members e)).out) known
attempt_lively n members entered made links known e h l = go (members e).membership.present refl
  where
    m : Member
    m = members e

    still : Lively n entered made (put_member members e m) links known
    still = subst (λ (ms : Endpoint → Member). Lively n entered made ms links known) (sym (put_same members e)) l

    by : (c : Communicator) (k : ℕ) (p : Part) → m.membership.present ≡ Some (Inside c k p) →
        (v : Verdict) → verdict e c k p m.kept ≡ v →
        Lively n entered (made_by made e m c k p v) (put_member members e (carried_out e m c k p v).member)
        (notify_all links e (carried_out e m c k p v).out) known
    by c k p inside Stays v = still
    by c k p inside (Waits ps) v = waiting_lively n members entered made links known e c k p ps l inside
    by c k p inside Breaks v =
        leaving_lively n members entered made made links known e (carried_out e m c k p Breaks).member
        (carried_out e m c k p Breaks).out c k p l (λ c k cs q. q) inside i.entered i.below refl (λ y. refl) refl
        (record {
          comm = c;
          there = i.there;
          context_is = refl;
          up = λ y q o. inl differ;
          onward =
              λ y q o. inl differ;
        })
      where
        i : IsInside n (groups_by members entered made) e c k p
        i = h.inside e c k p inside

        differ : Difference entered c.context k
        differ = differs_is n (groups_by members entered made) e c.context k p m.kept is_differing (λ y q. q) i.entered
            (h.notes e) (says_at e c k p m.kept Breaks v)
    by c k p inside (Hears ps y) v = heard y v (says_at e c k p m.kept (Hears ps y) v).4
      where
        i : IsInside n (groups_by members entered made) e c k p
        i = h.inside e c k p inside

        words : List (Endpoint × Notice)
        words = entries_to e c k p ps m.told

        links1 : Endpoint → Endpoint → NoticeLink
        links1 = notify_all links e words

        up1 : IsToldUp entered links1 (known e) e c.context k p c.members
        up1 = told_up_now members entered made links known e c k p ps m.told (λ w. l.waiting e c k p inside w)

        from : (s : Said) → result_said (relayed p.record_is s) ≡ Some (relayed p.record_is s) →
            LeftFrom n entered made (notify_all links e (words ++ results_on e c k p s)) (known e) e c.context k p
        from s is =
            subst (λ (ls : Endpoint → Endpoint → NoticeLink). LeftFrom n entered made ls (known e) e c.context k p)
            (sym (notify_both links e words (results_on e c k p s)))
            (record {
              comm = c;
              there = i.there;
              context_is = refl;
              up = up_more entered entered made made links1 (notify_all links1 e (results_on e c k p s)) known known e
                  c.context k p c.members (same_more entered made links1 known e (results_on e c k p s)) up1;
              onward = λ z q o. inr
                  (inr (record {
                    said = relayed p.record_is s;
                    is_result = is;
                    told =
                        others_told links1 e (λ m. notice c.context k (relayed p.record_is s))
                        (told_on (way_of p.record_is) p.record_is.root e c.members) z q o;
                  }));
            })

        heard : (y : Said) → verdict e c k p m.kept ≡ Hears ps y → result_told c.context k m.kept ≡ Some y →
            Lively n entered made (put_member members e (carried_out e m c k p (Hears ps y)).member)
            (notify_all links e (carried_out e m c k p (Hears ps y)).out) known
        heard (HasEntered q) v u =
            absurd (none_some (HasEntered q) (told_is_result c.context k m.kept (HasEntered q) u))
        heard (HasDifference q) v u =
            absurd (none_some (HasDifference q) (told_is_result c.context k m.kept (HasDifference q) u))
        heard (HasResult q w) v u =
            leaving_lively n members entered made made links known e
            (carried_out e m c k p (Hears ps (HasResult q w))).member (words ++ results_on e c k p (HasResult q w)) c k
            p l (λ c k cs q. q) inside i.entered i.below refl (λ y. refl) refl (from (HasResult q w) refl)
        heard (HasMade q o) v u =
            leaving_lively n members entered made made links known e
            (carried_out e m c k p (Hears ps (HasMade q o))).member (words ++ results_on e c k p (HasMade q o)) c k p l
            (λ c k cs q. q) inside i.entered i.below (got_count m.membership o) (got_elsewhere m.membership o) refl
            (from (HasMade q o) refl)
    by c k p inside (Decides ps) v = at (is_making p.record_is.kind) refl
      where
        i : IsInside n (groups_by members entered made) e c k p
        i = h.inside e c k p inside

        d : SaysAt e c k p m.kept (Decides ps)
        d = says_at e c k p m.kept (Decides ps) v

        left : Bool → Member
        left b = record {
          membership = left_with m.membership e c p ps b (making_new e m.serial c p ps b);
          serial =
              m.serial + length (making_new e m.serial c p ps b);
          kept = without c.context k m.kept;
          told = m.told;
        }

        new : Bool → List Communicator
        new b = making_new e m.serial c p ps b

        words : List (Endpoint × Notice)
        words = entries_to e c k p ps m.told

        links1 : Endpoint → Endpoint → NoticeLink
        links1 = notify_all links e words

        results : Bool → List (Endpoint × Notice)
        results b = results_to e c k p ps b (new b)

        counts : (b : Bool) → (left b).membership.count ≡ m.membership.count
        counts true = got_count m.membership (mine e (new true))
        counts false = refl

        out_is : (b : Bool) (y : Notice) → is_elsewhere (left b).membership.present y ≡ true
        out_is true y = got_elsewhere m.membership (mine e (new true)) y
        out_is false y = refl

        result_is : (b : Bool) (y : Endpoint) → result_said (result_for c p ps b (new b) y) ≡
            Some (result_for c p ps b (new b) y)
        result_is true y = refl
        result_is false y = refl

        grow : (b : Bool) → is_making p.record_is.kind ≡ b → (c' k' : ℕ) (cs : List Communicator) →
            made c' k' ≡ Some cs → made_then made c.context k b (new b) c' k' ≡ Some cs
        grow false bq c' k' cs q = q
        grow true bq c' k' cs q =
            with_made_more made c.context k (new true)
            (h.first_made e c k p inside bq
            (making_first p.record_is.kind (is_ordered p.record_is.operation p.record_is.basic) p.record_is.root e
            c.members bq d.3)).0 c' k'
            cs q

        up1 : IsToldUp entered links1 (known e) e c.context k p c.members
        up1 = told_up_now members entered made links known e c k p ps m.told (λ w. l.waiting e c k p inside w)

        from : (b : Bool) → is_making p.record_is.kind ≡ b →
            LeftFrom n entered (made_then made c.context k b (new b)) (notify_all links e (words ++ results b))
            (known e) e c.context k p
        from b bq =
            subst (λ (ls : Endpoint → Endpoint → NoticeLink). LeftFrom n entered (made_then made c.context k b (new b))
            ls (known e) e c.context k p) (sym (notify_both links e words (results b)))
            (record {
              comm = c;
              there = there_more n made (made_then made c.context k b (new b)) (grow b bq) c i.there;
              context_is = refl;
              up = up_more entered entered made made links1 (notify_all links1 e (results b)) known known e c.context k
                  p c.members (same_more entered made links1 known e (results b)) up1;
              onward = λ z q o. inr
                  (inr (record {
                    said = result_for c p ps b (new b) z;
                    is_result = result_is b z;
                    told =
                        others_told links1 e (λ x. notice c.context k (result_for c p ps b (new b) x))
                        (told_on (way_of p.record_is) p.record_is.root e c.members) z q o;
                  }));
            })

        at : (b : Bool) → is_making p.record_is.kind ≡ b →
            Lively n entered (made_then made c.context k b (new b)) (put_member members e (left b))
            (notify_all links e (words ++ results b)) known
        at b bq = leaving_lively n members entered made (made_then made c.context k b (new b)) links known e (left b)
            (words ++ results b) c k p l (grow b bq) inside i.entered i.below (counts b) (out_is b) refl (from b bq)

    go : (o : Option Present) → m.membership.present ≡ o →
        Lively n entered (made_in made e m o) (put_member members e (attempt_in e m o).member)
        (notify_all links e (attempt_in e m o).out) known
    go None q = still
    go (Some (Out o)) q = still
    go (Some (Inside c k p)) q = by c k p q (verdict e c k p m.kept) refl

-- so nobody stays who could go on
pub attempt_settled : (e : Endpoint) (m : Member) → Settled e (attempt e m).member
attempt_settled e m = go m.membership.present refl
  where
    by : (c : Communicator) (k : ℕ) (p : Part) → m.membership.present ≡ Some (Inside c k p) →
        (v : Verdict) → verdict e c k p m.kept ≡ v → Settled e (carried_out e m c k p v).member
    by c k p inside Stays v d j q r =
        one_present (λ d j q. (verdict e d j q m.kept ≡ Stays) ⊎
        ((ps : List Part) × (verdict e d j q m.kept ≡ Waits ps) × (m.told ≡ true))) c k p d j q (inl v) (sym inside ∙ r)
    by c k p inside (Waits ps) v d j q r =
        one_present (λ d j q. (verdict e d j q m.kept ≡ Stays) ⊎
        ((ps : List Part) × (verdict e d j q m.kept ≡ Waits ps) × (true ≡ true))) c k p d j q (inr (ps, v, refl))
        (sym inside ∙ r)
    by c k p inside Breaks v d j q r = absurd (none_inside (Some (Out (Failed mismatch))) (λ y. refl) d j q r)
    by c k p inside (Decides ps) v d j q r = absurd (decided (is_making p.record_is.kind) r)
      where
        decided : (b : Bool) → (left_with m.membership e c p ps b (making_new e m.serial c p ps b)).present ≡
            Some (Inside d j q) → ⊥
        decided true z = got_out m.membership (mine e (making_new e m.serial c p ps true)) d j q z
        decided false z =
            none_inside (Some (Out (Left (handed_to p.record_is e c.members ps p.record_is.kind)))) (λ y. refl) d j q z
    by c k p inside (Hears ps y) v d j q r = absurd (heard y (says_at e c k p m.kept (Hears ps y) v).4 r)
      where
        heard : (y : Said) → result_told c.context k m.kept ≡ Some y →
            (left_by m.membership y).present ≡ Some (Inside d j q) → ⊥
        heard (HasEntered w) u z = none_some (HasEntered w) (told_is_result c.context k m.kept (HasEntered w) u)
        heard (HasDifference w) u z =
            none_some (HasDifference w) (told_is_result c.context k m.kept (HasDifference w) u)
        heard (HasResult w val) u z = none_inside (Some (Out (Left val))) (λ y. refl) d j q z
        heard (HasMade w o) u z = got_out m.membership o d j q z

    go : (o : Option Present) → m.membership.present ≡ o → Settled e (attempt_in e m o).member
    go None q c k p r = absurd (none_inside None (λ y. refl) c k p (sym q ∙ r))
    go (Some (Out o)) q c k p r = absurd (none_inside (Some (Out o)) (λ y. refl) c k p (sym q ∙ r))
    go (Some (Inside c k p)) q c' k' p' r = by c k p q (verdict e c k p m.kept) refl c' k' p' r
