-- A collective that is left leaves communicators and collectives as accounts say.
use Rattle.std.proofs.Common.{◌≡◌, ℕ, ◌+◌, Bool, true, false, ◌&&◌, List, [], Option, Some, None, if◌then◌else◌, ◌==◌}
use Rattle.std.proofs.Common.{slice_get, option_map, refl, sym, ap, ap₂, ◌∙◌, subst, arith}
use Rattle.std.specs.List.{AllByRecursion}
use Rattle.std.proofs.lemmas.Bool.{eqb-true, eq-eqb}
use Rattle.std.proofs.lemmas.Option.{same_Some}
use Rattle.perfect_groups.specs.Calls.{ByCollective}
use Rattle.perfect_groups.specs.Collectives.{Part}
use Rattle.perfect_groups.specs.Communicators.{Communicator, first_endpoint}
use Rattle.perfect_groups.specs.Machine.{MayLeave}
use Rattle.perfect_groups.specs.Membership.{Ending, Groups, Inside, Left, Membership, Out, Present, first_of}
use Rattle.perfect_groups.specs.Membership.{leave_made, left_with, with_member}
use Rattle.perfect_groups.specs.Results.{all_agree, all_parts, awaited, handed_to, is_making}
use Rattle.vocabulary.specs.Endpoints.{is_same}
use Rattle.vocabulary.specs.declared.endpoint.Endpoint.{Endpoint}
use Rattle.one_meaning.specs.Accounts.{Account, Accounts, Answered, Entered, ForRequests, InCollective, Waiting}
use Rattle.one_meaning.specs.Accounts.{answer_to, answered_leaving, entered_by, in_context, leaves_if, leaves_with}
use Rattle.one_meaning.specs.Accounts.{membership_of, part_by, present_of}
use Rattle.proof_one_meaning.specs.AccountViews.{
  HaveGroups,
  IsFilled,
  IsInsideBy,
  IsInsideOf,
  IsMadeOrPresent,
  IsPresent,
}
use Rattle.proof_one_meaning.specs.AccountViews.{
  WasMade,
  ahead,
  ahead_if,
  count_made,
  given_at,
  member_with,
  with_account,
}
use Rattle.proof_one_meaning.proofs.CollectiveEntries.{at_account, inside_on, one_grew, still_made}
use Rattle.one_meaning.proofs.AnswerLaws.{AllGrew, grew_not, parts_stay}

-- WHO IS INSIDE

-- what waits so, by what is present
abbrev waiting_in : Option Present → Option Waiting
waiting_in None = None
waiting_in (Some (Out o)) = None
waiting_in (Some (Inside c k p)) = Some (InCollective c k p)

none_inside : (c : Communicator) (k : ℕ) (p : Part) → ◌≡◌ {A = Option Present} None (Some (Inside c k p)) → ⊥
none_inside c k p e = grind arith

out_inside : (o : Ending) (c : Communicator) (k : ℕ) (p : Part) →
    ◌≡◌ {A = Option Present} (Some (Out o)) (Some (Inside c k p)) → ⊥
out_inside o c k p e = grind arith

waits_inside : (w : Option Waiting) (c : Communicator) (k : ℕ) (p : Part) → present_of w ≡ Some (Inside c k p) →
    w ≡ Some (InCollective c k p)
waits_inside None c k p h = absurd (none_inside c k p h)
waits_inside (Some (ForRequests w)) c k p h = absurd (none_inside c k p h)
waits_inside (Some (InCollective d j q)) c k p h = ap waiting_in h

-- what is known of a leaver: it waits so, and those have entered alike for whom it waits
pub record IsLeaver (n : ℕ) (all : Accounts) (g : Groups) (r : ℕ) (c : Communicator) (k : ℕ) (p : Part)
    (ps : List Part) : Type 0 where
  pub waiting : (all r).waiting ≡ Some (InCollective c k p)
  pub inside : IsInsideOf n all g r (all r).serial c k p
  pub parts : all_parts (part_by all c.context k)
      (awaited p.record_is.kind p.record_is.root (first_endpoint r) c.members) ≡ Some ps
  pub agreeing : all_agree p.record_is ps ≡ true

pub leaver : (n : ℕ) (all : Accounts) (g : Groups) (r : ℕ) (c : Communicator) (k : ℕ) (p : Part) (ps : List Part) →
    HaveGroups n all g r None → MayLeave g (first_endpoint r) c k p ps →
    IsLeaver n all g r c k p ps
leaver n all g r c k p ps h m =
    record {
      waiting = waiting;
      inside = subst (IsInsideBy n all g r (all r).serial) waiting (h.inside r);
      parts = parts_stay (g.entered c.context k) (part_by all c.context k) (λ x q u. sym (h.entered c.context k x) ∙ u)
          (awaited p.record_is.kind p.record_is.root (first_endpoint r) c.members) ps m.entered;
      agreeing = m.agreeing;
    }
  where
    waiting : (all r).waiting ≡ Some (InCollective c k p)
    waiting = waits_inside (all r).waiting c k p (sym (ap (λ (m : Membership). m.present) (h.member r)) ∙ m.inside)

-- what a leaver leaves: its answer is the one by its account
pub record HasLeft (n : ℕ) (all : Accounts) (g : Groups) (r : ℕ) (c : Communicator) (k : ℕ) (p : Part) : Type 0 where
  pub answered : Answered
  pub ending : Ending
  pub waiting : (all r).waiting ≡ Some (InCollective c k p)
  pub answer : answer_to all r (all r) (InCollective c k p) ≡ Some answered
  pub told : answered.0 ≡ ByCollective ending
  pub sent : answered.1.sent ≡ (all r).sent
  pub started : answered.1.started ≡ (all r).started
  pub used : answered.1.used ≡ (all r).used
  pub free : answered.1.waiting ≡ None
  pub groups : HaveGroups n (with_account all r answered.1) g r (Some ending)

pub answers : (all : Accounts) (n : ℕ) (g : Groups) (r : ℕ) (c : Communicator) (k : ℕ) (p : Part) (ps : List Part) →
    IsLeaver n all g r c k p ps →
    answer_to all r (all r) (InCollective c k p) ≡ answered_leaving all r (all r) c k p ps (is_making p.record_is.kind)
answers all n g r c k p ps l =
    ap (leaves_with all r (all r) c k p) l.parts
    ∙ ap (λ (b : Bool). leaves_if b (answered_leaving all r (all r) c k p ps (is_making p.record_is.kind))) l.agreeing

-- ITS PART CHANGES

-- a member that is given an ending
pub member_given : (all : Accounts) (of : Endpoint → Membership) (r : ℕ) (a : Account) (m : Membership) (o : Ending) →
    ((x : ℕ) → of (first_endpoint x) ≡ membership_of (all x)) →
    m ≡ member_with a (Some o) → (x : ℕ) → with_member of (first_endpoint r) m (first_endpoint x) ≡
    member_with (with_account all r a x) (given_at r (Some o) x)
member_given all of r a m o h own x = go (x == r)
  where
    go : (b : Bool) → (if b && (0 == 0) then m else of (first_endpoint x)) ≡
        member_with (if b then a else all x) (if b then Some o else None)
    go true = own
    go false = h x

-- the table is as it was
pub table_same : (all : Accounts) (r : ℕ) (a : Account) → a.entered ≡ (all r).entered → (c k : ℕ) (x : Endpoint) →
    part_by all c k x ≡ part_by (with_account all r a) c k x
table_same all r a e c k x = go (x.rank == r) refl
  where
    go : (b : Bool) → (x.rank == r) ≡ b →
        option_map (λ (y : Entered). y.part) (if x.incarnation == 0 then
        slice_get (in_context c (all x.rank).entered) k else None)
        ≡ option_map (λ (y : Entered). y.part) (if x.incarnation == 0 then
        slice_get (in_context c (if b then a else all x.rank).entered) k else None)
    go true u =
        ap (λ (es : List Entered). option_map (λ (y : Entered). y.part) (if x.incarnation == 0 then
        slice_get (in_context c es) k else None))
        (ap (λ (y : ℕ). (all y).entered) (eqb-true x.rank r u) ∙ sym e)
    go false u = refl

-- whatever makes communicators in an account was made, where the collective that is left is
pub left_made : (n : ℕ) (all : Accounts) (g g' : Groups) (r : ℕ) (c : Communicator) (k : ℕ) (p : Part)
    (ps : List Part) → IsLeaver n all g r c k p ps → HaveGroups n all g r None →
    ((d j : ℕ) (cs : List Communicator) → g.made d j ≡ Some cs → g'.made d j ≡ Some cs) →
    (is_making p.record_is.kind ≡ true → (cs : List Communicator) × (g'.made c.context k ≡ Some cs)) →
    (d j : ℕ) (e : Entered) → slice_get (in_context d (all r).entered) j ≡ Some e → is_making e.part.record_is.kind ≡
    true → IsMadeOrPresent g'.made d j None
left_made n all g g' r c k p ps l h more own d j e is m = go (h.made_all r d j e is m)
  where
    go : IsMadeOrPresent g.made d j (all r).waiting → IsMadeOrPresent g'.made d j None
    go (WasMade cs u) = WasMade cs (more d j cs u)
    go (IsPresent f q u v) =
        let w : Some (InCollective c k p) ≡ Some (InCollective f j q) = sym l.waiting ∙ u in
        let same : c ≡ f = cc in
        let number : k ≡ j = cc in
        let part : p ≡ q = cc in
        let at_c : c.context ≡ d = ap (λ (x : Communicator). x.context) same ∙ v in
        let entry : entered_by all d j (first_endpoint r) ≡ Some (record { context = c.context; part = p; serial = (all r).serial }) =
        ap₂ (λ (x y : ℕ). entered_by all x y (first_endpoint r)) (sym at_c) (sym number) ∙ l.inside.entry in
        let entered : record { context = c.context; part = p; serial = (all r).serial } ≡ e = same_Some (record { context = c.context; part = p; serial = (all r).serial }) e (sym entry ∙ is) in
        let making : is_making p.record_is.kind ≡ true = ap (λ (x : Entered). is_making x.part.record_is.kind) entered ∙ m in
        let made = own making in
        WasMade made.0 (sym (ap₂ g'.made at_c number) ∙ made.1)

-- A COLLECTIVE THAT MAKES NO COMMUNICATORS

none_making : (b : Bool) (i : ℕ) → ahead_if (b && false) i ≡ 0
none_making true i = refl
none_making false i = refl

pub leave_plain : (n : ℕ) (all : Accounts) (g : Groups) (r : ℕ) (c : Communicator) (k : ℕ) (p : Part) (ps : List Part) →
    HaveGroups n all g r None → IsLeaver n all g r c k p ps →
    is_making p.record_is.kind ≡ false → HasLeft n all (leave_made g (first_endpoint r) c k p ps false) r c k p
leave_plain n all g r c k p ps h l plain =
    record {
      answered = (ByCollective end, a);
      ending = end;
      waiting = l.waiting;
      answer = answers all n g r c k p ps l ∙ ap (answered_leaving all r (all r) c k p ps) plain;
      told = refl;
      sent = refl;
      started = refl;
      used = refl;
      free = refl;
      groups = record {
        member = member_given all g.of r a (left_with (g.of (first_endpoint r)) (first_endpoint r) c p ps false []) end
            h.member (ap (λ (m : Membership). record m { present = Some (Out end) }) (h.member r));
        free = λ o is. ap (λ (b : Bool). (if b then a else all r).waiting) (eq-eqb r r refl);
        entered = λ d j x. h.entered d j x ∙ table_same all r a refl d j x;
        filled = at_account (λ x b. AllByRecursion (λ d. IsFilled d.members) b.held) all r a (h.filled r)
            (λ x u. h.filled x);
        inside = at_account (λ x b. IsInsideBy n (with_account all r a) g' x b.serial b.waiting) all r a tt
            (λ x u. inside_on n all (with_account all r a) g g' grew (λ d t. t) x (all x).serial (all x).waiting
            (h.inside x));
        were_made =
            λ d j cs is. still_made n all (with_account all r a) g g' grew (λ d t. t) d j cs (h.were_made d j cs is);
        made_all = at_account (λ x b. (d j : ℕ) (e : Entered) → slice_get (in_context d b.entered) j ≡ Some e →
            is_making e.part.record_is.kind ≡ true → IsMadeOrPresent g.made d j b.waiting)
            all r a (left_made n all g g' r c k p ps l h (λ d j cs u. u) (λ m. absurd (clash (sym plain ∙ m))))
            (λ x u. h.made_all x);
        serial = at_account (λ x b. g.serial (first_endpoint x) ≡ b.serial + ahead g.made (first_endpoint x) b.waiting)
            all r a own_serial (λ x u. h.serial x);
      };
    }
  where
    end : Ending
    end = Left (handed_to p.record_is (first_endpoint r) c.members ps p.record_is.kind)

    a : Account
    a = record (all r) { waiting = None }

    g' : Groups
    g' = leave_made g (first_endpoint r) c k p ps false

    grew : AllGrew all (with_account all r a)
    grew = one_grew all r a (grew_not (all r) a refl refl)

    clash : false ≡ true → ⊥
    clash e = grind arith

    own_serial : g.serial (first_endpoint r) ≡ (all r).serial + 0
    own_serial =
        h.serial r
        ∙ (ap (λ (w : Option Waiting). (all r).serial + ahead g.made (first_endpoint r) w) l.waiting
        ∙ ap (λ (i : ℕ). (all r).serial + i)
        (ap (λ (b : Bool). ahead_if (is_same (first_endpoint r) (first_of c.members (first_endpoint r)) && b)
        (count_made (g.made c.context k))) plain
        ∙ none_making (is_same (first_endpoint r) (first_of c.members (first_endpoint r)))
        (count_made (g.made c.context k))))
