-- What two endpoints' parts are while they enter collectives of world one after the other, and what has been entered.
use Rattle.std.proofs.Common.{◌≡◌, ℕ, suc, Bool, true, false, List, [], ◌∷◌, Option, Some, None, if◌then◌else◌}
use Rattle.std.proofs.Common.{slice_get, option_map, refl, sym, ap, subst, ◌∙◌, arith}
use Rattle.std.specs.List.{list_any}
use Rattle.perfect_groups.proofs.HistoryRuns.{IsLasting, moves_last}
use Rattle.perfect_groups.specs.Calls.{ByCollective, ByRequests, Call, Enter, OfCollective, OfRequests}
use Rattle.perfect_groups.specs.Collectives.{CollectiveCall, Part, part_of}
use Rattle.perfect_groups.specs.Communicators.{Communicator, self_of, world_of}
use Rattle.perfect_groups.specs.Events.{Called, answered_member, answered_present, ended_with, groups_start}
use Rattle.perfect_groups.specs.Events.{machine_start, ready_at, ready_by, told_of}
use Rattle.perfect_groups.specs.Machine.{AreMoves, Differs, InQueues, Leaves, Machine, May, MayDiffer, MayLeave, Move}
use Rattle.perfect_groups.specs.Machine.{after_move, after_moves, learnt_member, learnt_present, mismatch, replaced}
use Rattle.perfect_groups.specs.Membership.{Ending, Failed, Groups, Inside, Left, Membership, Out, Present, enter}
use Rattle.perfect_groups.specs.Membership.{entering, leave_made, with_member, with_part}
use Rattle.perfect_groups.specs.Results.{handed_to, is_making}
use Rattle.perfect_queues.proofs.EndpointLemmas.{same_cases, same_eq, same_refl}
use Rattle.perfect_queues.specs.Calls.{Blocked, Done, ready_answer}
use Rattle.perfect_queues.specs.Completions as completions
use Rattle.perfect_queues.specs.Refusals.{world}
use Rattle.perfect_queues.specs.Steps.{Finish, FinishSend, Learn, Match, See, TakeOut}
use Rattle.vocabulary.specs.Endpoints.{is_former, is_same}
use Rattle.vocabulary.specs.declared.endpoint.Endpoint.{Endpoint}

-- who entered which collective of a context, with what
abbrev pub Table : Type 0
Table = (context number : ℕ) → Endpoint → Option Part

-- THE PART OF ONE ENDPOINT

-- it holds world and self, has entered so many collectives of world, and this is present
pub record Has (n : ℕ) (e : Endpoint) (k : ℕ) (now : Option Present) (m : Membership) : Type 0 where
  pub held : m.held ≡ world_of n ∷ self_of e ∷ []
  pub count : m.count world ≡ k
  pub present : m.present ≡ now

-- nothing is said of it
abbrev pub Anything : Membership → Type 0
Anything m = Unit {0}

-- it is in a collective of world, or that has ended in one of these ways
pub data Within (n : ℕ) (e : Endpoint) (k : ℕ) (p : Part) (Ends : Ending → Type 0) (m : Membership) : Type 0 where
  IsIn : Has n e (suc k) (Some (Inside (world_of n) k p)) m → Within n e k p Ends m
  IsOut : (o : Ending) → Ends o → Has n e (suc k) (Some (Out o)) m → Within n e k p Ends m

-- what steps make of it while just this has been entered, and a settling that answers nothing
pub record Stays (table : Table) (e : Endpoint) (P : Membership → Type 0) : Type 0 where
  pub learns : (r i : ℕ) (m : Membership) → P m → P (learnt_member r i m)
  pub leaves : (g : Groups) (c : Communicator) (k : ℕ) (p : Part) (ps : List Part) → g.entered ≡ table → P (g.of e) →
      MayLeave g e c k p ps → P ((leave_made g e c k p ps (is_making p.record_is.kind)).of e)
  pub differs : (g : Groups) (c : Communicator) (k : ℕ) (p : Part) (a b : Endpoint) (pa pb : Part) → P (g.of e) →
      MayDiffer g e c k p a b pa pb → P (record (g.of e) { present = Some (Out (Failed mismatch)) })
  pub settles : (m : Membership) → P m → ended_with m.present ≡ None → P (answered_member m)

pub anything_stays : (table : Table) (e : Endpoint) → Stays table e Anything
anything_stays table e =
    record {
      learns = λ r i m h. tt;
      leaves = λ g c k p ps t h may. tt;
      differs = λ g c k p a b pa pb h may. tt;
      settles = λ m h none. tt;
    }

nowhere : (c : Communicator) (k : ℕ) (p : Part) → ◌≡◌ {A = Option Present} None (Some (Inside c k p)) → ⊥
nowhere c k p h = absurd (cc)

-- who is in no collective leaves none
pub idle_stays : (table : Table) (n : ℕ) (e : Endpoint) (k : ℕ) → Stays table e (Has n e k None)
idle_stays table n e k =
    record {
      learns = λ r i m h. record { held = h.held; count = h.count; present = ap (learnt_present r i) h.present };
      leaves = λ g c j p ps t h may. absurd (nowhere c j p (sym h.present ∙ may.inside));
      differs = λ g c j p a b pa pb h may. absurd (nowhere c j p (sym h.present ∙ may.inside));
      settles = λ m h none. record { held = h.held; count = h.count; present = ap answered_present h.present };
    }

-- How whoever is in this collective of world leaves it, and that it may end with an error
pub record EndsSo (table : Table) (n : ℕ) (e : Endpoint) (k : ℕ) (p : Part) (Ends : Ending → Type 0) : Type 0 where
  pub makes_none : is_making p.record_is.kind ≡ false
  pub with_result : (g : Groups) (ps : List Part) → g.entered ≡ table → MayLeave g e (world_of n) k p ps →
      Ends (Left (handed_to p.record_is e (world_of n).members ps p.record_is.kind))
  pub with_error : (x : ℕ) → Ends (Failed x)

same_inside : (c d : Communicator) (k j : ℕ) (p q : Part) →
    ◌≡◌ {A = Option Present} (Some (Inside c k p)) (Some (Inside d j q)) →
    (c ≡ d) × (k ≡ j) × (p ≡ q)
same_inside c d k j p q h = (cc, cc, cc)

not_out : (o : Ending) (c : Communicator) (k : ℕ) (p : Part) →
    ◌≡◌ {A = Option Present} (Some (Out o)) (Some (Inside c k p)) → ⊥
not_out o c k p h = absurd (cc)

-- what learning makes of it
within_learns : (n : ℕ) (e : Endpoint) (k : ℕ) (p : Part) (Ends : Ending → Type 0) → ((x : ℕ) → Ends (Failed x)) →
    (r i : ℕ) (m : Membership) →
    Within n e k p Ends m → Within n e k p Ends (learnt_member r i m)
within_learns n e k p Ends fails r i m (IsIn h) =
    go (list_any (is_former r i) (world_of n).members) (ap (learnt_present r i) h.present)
  where
    go : (t : Bool) → learnt_present r i m.present ≡
        (if t then Some (Out (Failed replaced)) else Some (Inside (world_of n) k p)) →
        Within n e k p Ends (learnt_member r i m)
    go true q = IsOut (Failed replaced) (fails replaced) (record { held = h.held; count = h.count; present = q })
    go false q = IsIn (record { held = h.held; count = h.count; present = q })
within_learns n e k p Ends fails r i m (IsOut o ends h) =
    IsOut o ends (record { held = h.held; count = h.count; present = ap (learnt_present r i) h.present })

-- the part of who leaves a collective that makes no communicator
left_part : (g : Groups) (e : Endpoint) (c : Communicator) (k : ℕ) (p : Part) (ps : List Part) (making : Bool) →
    making ≡ false →
    (leave_made g e c k p ps making).of e ≡
    record (g.of e) { present = Some (Out (Left (handed_to p.record_is e c.members ps p.record_is.kind))) }
left_part g e c k p ps true off = absurd (grind arith)
left_part g e c k p ps false off = rw (same_refl e) refl

within_leaves : (table : Table) (n : ℕ) (e : Endpoint) (k : ℕ) (p : Part) (Ends : Ending → Type 0) →
    EndsSo table n e k p Ends → (g : Groups) (c : Communicator) (j : ℕ) (q : Part) (ps : List Part) →
    g.entered ≡ table → Within n e k p Ends (g.of e) → MayLeave g e c j q ps →
    Within n e k p Ends ((leave_made g e c j q ps (is_making q.record_is.kind)).of e)
within_leaves table n e k p Ends is g c j q ps t (IsOut o ends h) may =
    absurd (not_out o c j q (sym h.present ∙ may.inside))
within_leaves table n e k p Ends is g c j q ps t (IsIn h) may =
    let same = same_inside (world_of n) c k j p q (sym h.present ∙ may.inside) in
    subst (λ (d : Communicator). MayLeave g e d j q ps →
    Within n e k p Ends ((leave_made g e d j q ps (is_making q.record_is.kind)).of e)) same.0
    (subst (λ (i : ℕ). MayLeave g e (world_of n) i q ps →
    Within n e k p Ends ((leave_made g e (world_of n) i q ps (is_making q.record_is.kind)).of e)) same.1
    (subst (λ (r : Part). MayLeave g e (world_of n) k r ps →
    Within n e k p Ends ((leave_made g e (world_of n) k r ps (is_making r.record_is.kind)).of e)) same.2 here)) may
  where
    here : MayLeave g e (world_of n) k p ps →
        Within n e k p Ends ((leave_made g e (world_of n) k p ps (is_making p.record_is.kind)).of e)
    here may =
        subst (Within n e k p Ends) (sym (left_part g e (world_of n) k p ps (is_making p.record_is.kind) is.makes_none))
        (IsOut (Left (handed_to p.record_is e (world_of n).members ps p.record_is.kind)) (is.with_result g ps t may)
        (record { held = h.held; count = h.count; present = refl }))

within_differs : (n : ℕ) (e : Endpoint) (k : ℕ) (p : Part) (Ends : Ending → Type 0) → ((x : ℕ) → Ends (Failed x)) →
    (m : Membership) →
    Within n e k p Ends m → Within n e k p Ends (record m { present = Some (Out (Failed mismatch)) })
within_differs n e k p Ends fails m (IsIn h) =
    IsOut (Failed mismatch) (fails mismatch) (record { held = h.held; count = h.count; present = refl })
within_differs n e k p Ends fails m (IsOut o ends h) =
    IsOut (Failed mismatch) (fails mismatch) (record { held = h.held; count = h.count; present = refl })

not_ended : (o : Option Present) (x : Ending) → o ≡ Some (Out x) → ended_with o ≡ None → ⊥
not_ended o x is none = let k : Some x ≡ None = sym (ap ended_with is) ∙ none in absurd (cc)

within_settles : (n : ℕ) (e : Endpoint) (k : ℕ) (p : Part) (Ends : Ending → Type 0) (m : Membership) →
    Within n e k p Ends m → ended_with m.present ≡ None →
    Within n e k p Ends (answered_member m)
within_settles n e k p Ends m (IsIn h) none =
    IsIn (record { held = h.held; count = h.count; present = ap answered_present h.present })
within_settles n e k p Ends m (IsOut o ends h) none = absurd (not_ended m.present o h.present none)

pub within_stays : (table : Table) (n : ℕ) (e : Endpoint) (k : ℕ) (p : Part) (Ends : Ending → Type 0) →
    EndsSo table n e k p Ends →
    Stays table e (Within n e k p Ends)
within_stays table n e k p Ends is =
    record {
      learns = λ r i m h. within_learns n e k p Ends is.with_error r i m h;
      leaves = λ g c j q ps t h may. within_leaves table n e k p Ends is g c j q ps t h may;
      differs = λ g c j q a b pa pb h may. within_differs n e k p Ends is.with_error (g.of e) h;
      settles = λ m h none. within_settles n e k p Ends m h none;
    }

-- how it has ended
pub has_ended : (n : ℕ) (e : Endpoint) (k : ℕ) (p : Part) (Ends : Ending → Type 0) (m : Membership) (x : Ending) →
    Within n e k p Ends m →
    ended_with m.present ≡ Some x → Ends x × Has n e (suc k) (Some (Out x)) m
has_ended n e k p Ends m x (IsIn h) is = let q : None ≡ Some x = sym (ap ended_with h.present) ∙ is in absurd (cc)
has_ended n e k p Ends m x (IsOut o ends h) is =
    let q : Some o ≡ Some x = sym (ap ended_with h.present) ∙ is in
    let same : o ≡ x = cc in (
      subst Ends same ends,
      subst (λ (y : Ending). Has n e (suc k) (Some (Out y)) m) same h,
    )

-- THE PARTS OF TWO

-- just this has been entered, and these are the parts of two endpoints
pub record Holds (table : Table) (a : Endpoint) (P : Membership → Type 0) (b : Endpoint) (Q : Membership → Type 0)
    (s : Machine) : Type 0 where
  pub entered : s.groups.entered ≡ table
  pub one : P (s.groups.of a)
  pub other : Q (s.groups.of b)

pub swapped : (table : Table) (a : Endpoint) (P : Membership → Type 0) (b : Endpoint) (Q : Membership → Type 0)
    (s : Machine) → Holds table a P b Q s →
    Holds table b Q a P s
swapped table a P b Q s h = record { entered = h.entered; one = h.other; other = h.one }

-- a part of the table is changed, and what is said of x stays
part_of_changed : (of : Endpoint → Membership) (e x : Endpoint) (m : Membership) (P : Membership → Type 0) → P (of x) →
    (x ≡ e → P m) → P (with_member of e m x)
part_of_changed of e x m P h k = same_cases x e (λ t. P (if t then m else of x)) (λ is same. k same) (λ off. h)

learnt_at : (of : Endpoint → Membership) (e x : Endpoint) (r i : ℕ) (P : Membership → Type 0) →
    ((m : Membership) → P m → P (learnt_member r i m)) → P (of x) →
    P (with_member of e (learnt_member r i (of e)) x)
learnt_at of e x r i P learns h =
    part_of_changed of e x (learnt_member r i (of e)) P h
    (λ same. subst (λ (y : Endpoint). P (learnt_member r i (of y))) same (learns (of x) h))

entered_same : (g : Groups) (e : Endpoint) (c : Communicator) (k : ℕ) (p : Part) (ps : List Part) (making : Bool) →
    (leave_made g e c k p ps making).entered ≡ g.entered
entered_same g e c k p ps true = refl
entered_same g e c k p ps false = refl

left_other : (g : Groups) (e x : Endpoint) (c : Communicator) (k : ℕ) (p : Part) (ps : List Part) (making : Bool) →
    is_same x e ≡ false →
    (leave_made g e c k p ps making).of x ≡ g.of x
left_other g e x c k p ps true off = rw off refl
left_other g e x c k p ps false off = rw off refl

left_at : (table : Table) (g : Groups) (e x : Endpoint) (P : Membership → Type 0) → Stays table x P →
    (c : Communicator) (k : ℕ) (p : Part) (ps : List Part) → g.entered ≡ table →
    P (g.of x) → MayLeave g e c k p ps → P ((leave_made g e c k p ps (is_making p.record_is.kind)).of x)
left_at table g e x P stays c k p ps t h may = go (is_same x e) refl
  where
    go : (b : Bool) → is_same x e ≡ b → P ((leave_made g e c k p ps (is_making p.record_is.kind)).of x)
    go true is =
        subst (λ (y : Endpoint). MayLeave g y c k p ps →
        P ((leave_made g y c k p ps (is_making p.record_is.kind)).of x)) (same_eq x e is)
        (λ m. stays.leaves g c k p ps t h m) may
    go false off = subst P (sym (left_other g e x c k p ps (is_making p.record_is.kind) off)) h

differs_at : (table : Table) (g : Groups) (e x : Endpoint) (P : Membership → Type 0) → Stays table x P →
    (c : Communicator) (k : ℕ) (p : Part) (a b : Endpoint) (pa pb : Part) →
    P (g.of x) → MayDiffer g e c k p a b pa pb →
    P (with_member g.of e (record (g.of e) { present = Some (Out (Failed mismatch)) }) x)
differs_at table g e x P stays c k p a b pa pb h may =
    part_of_changed g.of e x (record (g.of e) { present = Some (Out (Failed mismatch)) }) P h
    (λ same. subst (λ (y : Endpoint). MayDiffer g y c k p a b pa pb →
    P (record (g.of y) { present = Some (Out (Failed mismatch)) })) same
    (λ m. stays.differs g c k p a b pa pb h m) may)

unanswered : (o : Option Ending) (a : Option (completions.Answer × List ℕ)) → ready_by o a ≡ None → o ≡ None
unanswered None a h = refl
unanswered (Some x) a h = let k : Some (ByCollective x) ≡ None = h in absurd (cc)

settled_at : (table : Table) (s : Machine) (e x : Endpoint) (P : Membership → Type 0) → Stays table x P →
    P (s.groups.of x) → ready_at s e ≡ None →
    P (with_member s.groups.of e (answered_member (s.groups.of e)) x)
settled_at table s e x P stays h none =
    part_of_changed s.groups.of e x (answered_member (s.groups.of e)) P h
    (λ same. subst (λ (y : Endpoint). ended_with (s.groups.of y).present ≡ None → P (answered_member (s.groups.of y)))
    same
    (λ k. stays.settles (s.groups.of x) h k)
    (unanswered (ended_with (s.groups.of e).present) (ready_answer (s.queues.at e)) none))

move_holds : (table : Table) (a : Endpoint) (P : Membership → Type 0) (b : Endpoint) (Q : Membership → Type 0) →
    Stays table a P → Stays table b Q →
    (s : Machine) (e : Endpoint) (x : Move) → Holds table a P b Q s → May s e x → Holds table a P b Q (after_move s e x)
move_holds table a P b Q p q s e (InQueues (Match k r earlier m later)) h may =
    record { entered = h.entered; one = h.one; other = h.other }
move_holds table a P b Q p q s e (InQueues (Finish k r m)) h may =
    record { entered = h.entered; one = h.one; other = h.other }
move_holds table a P b Q p q s e (InQueues (FinishSend k d)) h may =
    record { entered = h.entered; one = h.one; other = h.other }
move_holds table a P b Q p q s e (InQueues (See probe earlier m later)) h may =
    record { entered = h.entered; one = h.one; other = h.other }
move_holds table a P b Q p q s e (InQueues (TakeOut probe earlier m later)) h may =
    record { entered = h.entered; one = h.one; other = h.other }
move_holds table a P b Q p q s e (InQueues (Learn r i)) h may =
    record {
      entered = h.entered;
      one = learnt_at s.groups.of e a r i P (λ m k. p.learns r i m k) h.one;
      other = learnt_at s.groups.of e b r i Q (λ m k. q.learns r i m k) h.other;
    }
move_holds table a P b Q p q s e (Leaves c k r ps) h may =
    record {
      entered = entered_same s.groups e c k r ps (is_making r.record_is.kind) ∙ h.entered;
      one = left_at table s.groups e a P p c k r ps h.entered h.one may;
      other = left_at table s.groups e b Q q c k r ps h.entered h.other may;
    }
move_holds table a P b Q p q s e (Differs c k r x y px py) h may =
    record {
      entered = h.entered;
      one = differs_at table s.groups e a P p c k r x y px py h.one may;
      other = differs_at table s.groups e b Q q c k r x y px py h.other may;
    }

pub holds_lasting : (table : Table) (a : Endpoint) (P : Membership → Type 0) (b : Endpoint) (Q : Membership → Type 0) →
    Stays table a P → Stays table b Q →
    IsLasting (Holds table a P b Q)
holds_lasting table a P b Q p q =
    record {
      moves = λ s e x h may. move_holds table a P b Q p q s e x h may;
      settles = λ s e h none.
          record {
            entered = h.entered;
            one = settled_at table s e a P p h.one none;
            other = settled_at table s e b Q q h.other none;
          };
    }

-- ENTERING

-- the groups once an endpoint has entered a collective of world, its k-th
enters_world : (n : ℕ) (s : Machine) (e : Endpoint) (k : ℕ) (c : CollectiveCall) → Has n e k None (s.groups.of e) →
    (machine_start s e (Some (Enter (Some 0) c))).groups ≡ enter s.groups e (world_of n) (part_of c)
enters_world n s e k c h =
    ap (λ (cs : List Communicator). groups_start s.groups e (option_map (λ d. (d, part_of c)) (slice_get cs 0))) h.held

pub entered_by : (n : ℕ) (table : Table) (a : Endpoint) (k : ℕ) (b : Endpoint) (Q : Membership → Type 0)
    (c : CollectiveCall) (Ends : Ending → Type 0) →
    is_same b a ≡ false → EndsSo (with_part table world k a (part_of c)) n a k (part_of c) Ends →
    Stays (with_part table world k a (part_of c)) b Q →
    (s : Machine) (moves : List Move) → Holds table a (Has n a k None) b Q s →
    AreMoves (machine_start s a (Some (Enter (Some 0) c))) a moves →
    Holds (with_part table world k a (part_of c)) a (Within n a k (part_of c) Ends) b Q
    (after_moves (machine_start s a (Some (Enter (Some 0) c))) a moves)
entered_by n table a k b Q c Ends apart ends stays s moves h are =
    moves_last (Holds new a (Within n a k p Ends) b Q)
    (holds_lasting new a (Within n a k p Ends) b Q (within_stays new n a k p Ends ends) stays)
    (machine_start s a (Some (Enter (Some 0) c))) a moves
    (record {
      entered = ap (λ (g : Groups). g.entered) start ∙
          (ap (λ (j : ℕ). with_part s.groups.entered world j a p) h.one.count ∙
          ap (λ (t : Table). with_part t world k a p) h.entered);
      one = subst (λ (g : Groups). Within n a k p Ends (g.of a)) (sym start)
          (subst (Within n a k p Ends) (sym here) first);
      other = subst (λ (g : Groups). Q (g.of b)) (sym start) (subst Q (sym there) h.other);
    }) are
  where
    p : Part
    p = part_of c

    new : Table
    new = with_part table world k a p

    start : (machine_start s a (Some (Enter (Some 0) c))).groups ≡ enter s.groups a (world_of n) p
    start = enters_world n s a k c h.one

    here : (enter s.groups a (world_of n) p).of a ≡ entering (s.groups.of a) (world_of n) p
    here = rw (same_refl a) refl

    there : (enter s.groups a (world_of n) p).of b ≡ s.groups.of b
    there = rw apart refl

    first : Within n a k p Ends (entering (s.groups.of a) (world_of n) p)
    first =
        IsIn (record {
          held = h.one.held;
          count = ap suc h.one.count;
          present = ap (λ (j : ℕ). Some (Inside (world_of n) j p)) h.one.count;
        })

-- a call that enters and is told to have ended has ended so
pub told_ending : (e : Endpoint) (c : Call) (x : Ending) (o : Option Ending)
    (a : Option (completions.Answer × List ℕ)) →
    told_of e (Some (c, None)) (ready_by o a) ≡ Called e c (OfCollective x) ∷ [] → o ≡ Some x
told_ending e c x (Some y) a t =
    let k : Called e c (OfCollective y) ∷ [] ≡ Called e c (OfCollective x) ∷ [] = t in
    let same : y ≡ x = cc in
    ap (λ (z : Ending). Some z) same
told_ending e c x None (Some (a, ks)) t =
    let k : Called e c (OfRequests (Done a)) ∷ [] ≡ Called e c (OfCollective x) ∷ [] = t in absurd (cc)
told_ending e c x None None t =
    let k : Called e c (OfRequests Blocked) ∷ [] ≡ Called e c (OfCollective x) ∷ [] = t in absurd (cc)

-- and so has a collective whose ending is the answer
pub ready_ending : (x : Ending) (o : Option Ending) (a : Option (completions.Answer × List ℕ)) →
    ready_by o a ≡ Some (ByCollective x) → o ≡ Some x
ready_ending x (Some y) a t =
    let k : Some (ByCollective y) ≡ Some (ByCollective x) = t in let same : y ≡ x = cc in ap (λ (z : Ending). Some z)
    same
ready_ending x None (Some (a, ks)) t = let k : Some (ByRequests a) ≡ Some (ByCollective x) = t in absurd (cc)
ready_ending x None None t = let k : None ≡ Some (ByCollective x) = t in absurd (cc)
