-- A collective that makes communicators leaves them as accounts say: whoever leaves it first, they are those that
-- member 0's account gives.
use Rattle.std.proofs.Common.{◌≡◌, ℕ, ◌+◌, Bool, true, false, ◌&&◌, List, [], ◌∷◌, ◌++◌, length, Option, Some, None}
use Rattle.std.proofs.Common.{if◌then◌else◌, ◌==◌, slice_get, option_map, refl, sym, ap, ap₂, ◌∙◌, subst, arith}
use Rattle.std.specs.List.{AllByRecursion}
use Rattle.std.proofs.lemmas.Bool.{eqb-true, eq-eqb, and_parts}
use Rattle.std.proofs.lemmas.Option.{same_Some}
use Rattle.perfect_groups.proofs.GroupProofs.{drawn_none, leave_grows, one_group, there_more, with_made_here}
use Rattle.perfect_groups.proofs.GroupProofs.{with_made_same}
use Rattle.perfect_groups.proofs.Records.{agree_same}
use Rattle.perfect_groups.specs.Calls.{ByCollective}
use Rattle.perfect_groups.specs.Collectives.{Kind, Part, Record, agree, allreduce, barrier, bcast, dup, gather, reduce}
use Rattle.perfect_groups.specs.Collectives.{scatter, split}
use Rattle.perfect_groups.specs.Communicators.{Communicator, first_endpoint, is_member}
use Rattle.perfect_groups.specs.Membership.{Comm, Ending, Groups, Membership, drawn, draws, first_of, got, leave_made}
use Rattle.perfect_groups.specs.Membership.{made_or, mine, numbered, to_make, with_made, with_member}
use Rattle.perfect_groups.specs.Results.{all_agree, all_parts, awaited, is_making, new_groups, with_first}
use Rattle.perfect_groups.specs.Soundness.{IsThere, Sound}
use Rattle.perfect_queues.proofs.EndpointLemmas.{same_eq, same_refl}
use Rattle.vocabulary.specs.Endpoints.{is_same}
use Rattle.vocabulary.specs.declared.endpoint.Endpoint.{Endpoint}
use Rattle.one_meaning.specs.Accounts.{Account, Accounts, Answered, Entered, ForRequests, InCollective, Waiting}
use Rattle.one_meaning.specs.Accounts.{answered_leaving, answered_made, answered_making, drawn_by, entered_by}
use Rattle.one_meaning.specs.Accounts.{in_context, made_by, membership_of, part_by}
use Rattle.proof_one_meaning.specs.AccountViews.{
  HaveGroups,
  IsFilled,
  IsInsideBy,
  IsInsideOf,
  IsMadeOrPresent,
  IsPresent,
}
use Rattle.proof_one_meaning.specs.AccountViews.{
  WasMade,
  WereMade,
  ahead,
  ahead_if,
  count_made,
  member_with,
  with_account,
}
use Rattle.proof_one_meaning.proofs.CollectiveEntries.{at_account, inside_on, never_anew, one_grew, still_made}
use Rattle.one_meaning.proofs.AnswerLaws.{AllGrew, grew_not}
use Rattle.proof_one_meaning.proofs.CollectiveEnds.{HasLeft, IsLeaver, answers, left_made, member_given, table_same}

-- LISTS

filled_first : (ms : List Endpoint) → IsFilled ms → (m : Endpoint) × (rest : List Endpoint) × (ms ≡ m ∷ rest)
filled_first [] f = absurd f
filled_first (m ∷ ms) f = (m, ms, refl)

waits_for_all : (k : Kind) (root : ℕ) (e : Endpoint) (ms : List Endpoint) → is_making k ≡ true →
    awaited k root e ms ≡ ms
waits_for_all barrier root e ms h = absurd (grind arith)
waits_for_all bcast root e ms h = absurd (grind arith)
waits_for_all gather root e ms h = absurd (grind arith)
waits_for_all scatter root e ms h = absurd (grind arith)
waits_for_all reduce root e ms h = absurd (grind arith)
waits_for_all allreduce root e ms h = absurd (grind arith)
waits_for_all dup root e ms h = refl
waits_for_all split root e ms h = refl

entry_of_part : (o : Option Entered) (q : Part) → option_map (λ e. e.part) o ≡ Some q → (e : Entered) × (o ≡ Some e) ×
    (e.part ≡ q)
entry_of_part None q h = absurd (grind arith)
entry_of_part (Some e) q h = (e, refl, same_Some e.part q h)

-- the first part of all, in front of the others
first_part : (f : Endpoint → Option Part) (m : Endpoint) (ms : List Endpoint) (ps : List Part) →
    all_parts f (m ∷ ms) ≡ Some ps → (q : Part) × (f m ≡ Some q) × (qs : List Part) × (ps ≡ q ∷ qs)
first_part f m ms ps h = go (f m) refl (all_parts f ms) h
  where
    go : (o : Option Part) → f m ≡ o → (rest : Option (List Part)) → with_first o rest ≡ Some ps →
        (q : Part) × (f m ≡ Some q) × (qs : List Part) × (ps ≡ q ∷ qs)
    go None u rest i = absurd (grind arith)
    go (Some q) u None i = absurd (grind arith)
    go (Some q) u (Some qs) i = (q, u, qs, sym (same_Some (q ∷ qs) ps i))

-- a record that agrees with all is that of the first
first_agrees : (a : Record) (q : Part) (qs ps : List Part) → ps ≡ q ∷ qs → all_agree a ps ≡ true → a ≡ q.record_is
first_agrees a q qs ps e h =
    agree_same a q.record_is (and_parts (agree a q.record_is) (all_agree a qs) (sym (ap (all_agree a) e) ∙ h)).0

ahead_alike : (made made' : (c k : ℕ) → Option (List Communicator)) (e : Endpoint) (w : Option Waiting) →
    ((d : Communicator) (j : ℕ) (q : Part) → w ≡ Some (InCollective d j q) → is_same e (first_of d.members e) ≡ true →
    made d.context j ≡ made' d.context j) → ahead made e w ≡ ahead made' e w
ahead_alike made made' e None h = refl
ahead_alike made made' e (Some (ForRequests w)) h = refl
ahead_alike made made' e (Some (InCollective d j q)) h =
    go (is_same e (first_of d.members e)) refl (is_making q.record_is.kind)
  where
    go : (b : Bool) → is_same e (first_of d.members e) ≡ b →
        (t : Bool) → ahead_if (b && t) (count_made (made d.context j)) ≡
        ahead_if (b && t) (count_made (made' d.context j))
    go false u t = refl
    go true u false = refl
    go true u true = ap count_made (h d j q refl u)

none_ahead : (b : Bool) → ahead_if b 0 ≡ 0
none_ahead true = refl
none_ahead false = refl

-- WHO MAKES

-- the maker of a leaver's communicators, by his account
record IsByMaker (n : ℕ) (all : Accounts) (g : Groups) (r : ℕ) (c : Communicator) (k : ℕ) (p : Part)
    (ps : List Part) : Type 0 where
  pub maker : Endpoint
  pub others : List Endpoint
  pub members : c.members ≡ maker ∷ others
  pub all_entered : all_parts (part_by all c.context k) c.members ≡ Some ps
  pub entry : Entered
  pub entry_is : entered_by all c.context k maker ≡ Some entry
  pub record_is : p.record_is ≡ entry.part.record_is
  pub rest : List Part
  pub parts : ps ≡ entry.part ∷ rest

by_maker : (n : ℕ) (all : Accounts) (g : Groups) (r : ℕ) (c : Communicator) (k : ℕ) (p : Part) (ps : List Part) →
    IsLeaver n all g r c k p ps → is_making p.record_is.kind ≡ true →
    IsByMaker n all g r c k p ps
by_maker n all g r c k p ps l making = first (filled_first c.members l.inside.filled)
  where
    entered : all_parts (part_by all c.context k) c.members ≡ Some ps
    entered =
        ap (all_parts (part_by all c.context k))
        (sym (waits_for_all p.record_is.kind p.record_is.root (first_endpoint r) c.members making)) ∙ l.parts

    last : (m : Endpoint) (ms : List Endpoint) → c.members ≡ m ∷ ms → (q : Part) → (qs : List Part) → ps ≡ q ∷ qs →
        (e : Entered) → entered_by all c.context k m ≡ Some e → e.part ≡ q → IsByMaker n all g r c k p ps
    last m ms is q qs u e v w =
        record {
          maker = m;
          others = ms;
          members = is;
          all_entered = entered;
          entry = e;
          entry_is = v;
          record_is = first_agrees p.record_is q qs ps u l.agreeing ∙ ap (λ (x : Part). x.record_is) (sym w);
          rest = qs;
          parts = u ∙ ap (λ (x : Part). x ∷ qs) (sym w);
        }

    first : (m : Endpoint) × (rest : List Endpoint) × (c.members ≡ m ∷ rest) → IsByMaker n all g r c k p ps
    first t =
        let f = first_part (part_by all c.context k) t.0 t.1 ps (ap (all_parts (part_by all c.context k)) (sym t.2) ∙ entered) in
        let e = entry_of_part (entered_by all c.context k t.0) f.0 f.1 in
        last t.0 t.1 t.2 f.0 f.2 f.3 e.0 e.1 e.2

-- while nothing was made, the maker is inside, and its next serial is that of its entry
record IsStillInside (all : Accounts) (y : ℕ) (c : Communicator) (k : ℕ) (e : Entered) : Type 0 where
  pub part : Part
  pub waiting : (all y).waiting ≡ Some (InCollective c k part)
  pub record_is : part.record_is ≡ e.part.record_is
  pub serial : e.serial ≡ (all y).serial

still_inside : (n : ℕ) (all : Accounts) (g : Groups) (r : ℕ) (c : Communicator) (k : ℕ) (p : Part) (ps : List Part) →
    Sound n g → HaveGroups n all g r None → IsLeaver n all g r c k p ps →
    is_making p.record_is.kind ≡ true → (b : IsByMaker n all g r c k p ps) → g.made c.context k ≡ None →
    IsStillInside all b.maker.rank c k b.entry
still_inside n all g r c k p ps sound h l making b none =
    go (h.made_all y c.context k b.entry entry (ap (λ (x : Record). is_making x.kind) (sym b.record_is) ∙ making))
  where
    y : ℕ
    y = b.maker.rank

    never : b.maker ≡ first_endpoint y
    never = never_anew all c.context k b.maker b.entry b.entry_is

    entry : entered_by all c.context k (first_endpoint y) ≡ Some b.entry
    entry = ap (entered_by all c.context k) (sym never) ∙ b.entry_is

    clash : (cs : List Communicator) → ◌≡◌ {A = Option (List Communicator)} None (Some cs) → ⊥
    clash cs e = grind arith

    go : IsMadeOrPresent g.made c.context k (all y).waiting → IsStillInside all y c k b.entry
    go (WasMade cs u) = absurd (clash cs (sym none ∙ u))
    go (IsPresent d q u v) =
        let i : IsInsideOf n all g y (all y).serial d k q = subst (IsInsideBy n all g y (all y).serial) u (h.inside y) in
        let same : d ≡ c = one_group n g sound d c i.there l.inside.there v in
        let e : record { context = d.context; part = q; serial = (all y).serial } ≡ b.entry =
        same_Some (record { context = d.context; part = q; serial = (all y).serial }) b.entry (sym i.entry ∙
        (ap (λ (x : ℕ). entered_by all x k (first_endpoint y)) v ∙ entry)) in
        record {
          part = q;
          waiting = u ∙ ap (λ (x : Communicator). Some (InCollective x k q)) same;
          record_is = ap (λ (x : Entered). x.part.record_is) e;
          serial = ap (λ (x : Entered). x.serial) (sym e);
        }

-- the communicators that a leaver finds or makes are those by its maker's account
new_is : (n : ℕ) (all : Accounts) (g : Groups) (r : ℕ) (c : Communicator) (k : ℕ) (p : Part) (ps : List Part) →
    Sound n g → HaveGroups n all g r None → IsLeaver n all g r c k p ps →
    is_making p.record_is.kind ≡ true → (b : IsByMaker n all g r c k p ps) →
    made_or (g.made c.context k) (to_make g (first_endpoint r) c p ps) ≡
    made_by (first_endpoint r) c b.entry.serial p ps
new_is n all g r c k p ps sound h l making b = go (g.made c.context k) refl
  where
    e : Endpoint
    e = first_endpoint r

    first : first_of c.members e ≡ b.maker
    first = ap (λ (ms : List Endpoint). first_of ms e) b.members

    fresh_serial : g.made c.context k ≡ None → g.serial (first_of c.members e) ≡ b.entry.serial
    fresh_serial none =
        ap g.serial (first ∙ never_anew all c.context k b.maker b.entry b.entry_is)
        ∙ (h.serial b.maker.rank
        ∙ (ap (λ (w : Option Waiting). (all b.maker.rank).serial + ahead g.made (first_endpoint b.maker.rank) w)
        s.waiting
        ∙ (ap (λ (o : Option (List Communicator)). (all b.maker.rank).serial +
        ahead_if (is_same (first_endpoint b.maker.rank) (first_of c.members (first_endpoint b.maker.rank)) &&
        is_making s.part.record_is.kind) (count_made o)) none
        ∙ (ap (λ (i : ℕ). (all b.maker.rank).serial + i)
        (none_ahead (is_same (first_endpoint b.maker.rank) (first_of c.members (first_endpoint b.maker.rank)) &&
        is_making s.part.record_is.kind))
        ∙ (plus_zero (all b.maker.rank).serial ∙ sym s.serial)))))
      where
        s : IsStillInside all b.maker.rank c k b.entry
        s = still_inside n all g r c k p ps sound h l making b none

        plus_zero : (i : ℕ) → i + 0 ≡ i
        plus_zero i = omega arith

    there_already : (cs : List Communicator) → g.made c.context k ≡ Some cs → cs ≡ made_by e c b.entry.serial p ps
    there_already cs u =
        w.made_is
        ∙ (ap₂ (λ (m : Endpoint) (i : ℕ). numbered m i (new_groups w.part.record_is.kind w.comm.members w.parts)) maker
        serial
        ∙ (ap (λ (x : Record). numbered b.maker b.entry.serial (new_groups x.kind w.comm.members w.parts)) records
        ∙ (ap₂ (λ (ms : List Endpoint) (xs : List Part). numbered b.maker b.entry.serial
        (new_groups p.record_is.kind ms xs)) (ap (λ (d : Communicator). d.members) one) parts
        ∙ ap (λ (m : Endpoint). numbered m b.entry.serial (new_groups p.record_is.kind c.members ps)) (sym first))))
      where
        w : WereMade n all g c.context k cs
        w = h.were_made c.context k cs u

        one : w.comm ≡ c
        one = one_group n g sound w.comm c w.there l.inside.there w.context

        maker : w.maker ≡ b.maker
        maker = ap (λ (ms : List Endpoint). first_of ms e) (sym w.members ∙
            (ap (λ (d : Communicator). d.members) one ∙ b.members))

        serial : w.entry.serial ≡ b.entry.serial
        serial =
            ap (λ (x : Entered). x.serial)
            (same_Some w.entry b.entry (sym w.entry_is ∙ (ap (entered_by all c.context k) maker ∙ b.entry_is)))

        parts : w.parts ≡ ps
        parts = same_Some w.parts ps (sym w.all_entered ∙
            (ap (λ (d : Communicator). all_parts (part_by all c.context k) d.members) one ∙ b.all_entered))

        records : w.part.record_is ≡ p.record_is
        records =
            first_agrees w.part.record_is b.entry.part b.rest w.parts (parts ∙ b.parts) w.agreeing
            ∙ sym b.record_is

    go : (o : Option (List Communicator)) → g.made c.context k ≡ o → made_or o (to_make g e c p ps) ≡
        made_by e c b.entry.serial p ps
    go None u =
        ap (λ (i : ℕ). numbered (first_of c.members e) i (new_groups p.record_is.kind c.members ps)) (fresh_serial u)
    go (Some cs) u = there_already cs u

-- while nothing was made, the maker's next serial is that of its entry
maker_serial : (n : ℕ) (all : Accounts) (g : Groups) (r : ℕ) (c : Communicator) (k : ℕ) (p : Part) (ps : List Part) →
    Sound n g → HaveGroups n all g r None → IsLeaver n all g r c k p ps →
    is_making p.record_is.kind ≡ true → (b : IsByMaker n all g r c k p ps) → g.made c.context k ≡ None →
    g.serial b.maker ≡ (all b.maker.rank).serial
maker_serial n all g r c k p ps sound h l making b none =
    ap g.serial (never_anew all c.context k b.maker b.entry b.entry_is)
    ∙ (h.serial b.maker.rank
    ∙ (ap (λ (w : Option Waiting). (all b.maker.rank).serial + ahead g.made (first_endpoint b.maker.rank) w) s.waiting
    ∙ (ap (λ (o : Option (List Communicator)). (all b.maker.rank).serial +
    ahead_if (is_same (first_endpoint b.maker.rank) (first_of c.members (first_endpoint b.maker.rank)) &&
    is_making s.part.record_is.kind) (count_made o)) none
    ∙ (ap (λ (i : ℕ). (all b.maker.rank).serial + i)
    (none_ahead (is_same (first_endpoint b.maker.rank) (first_of c.members (first_endpoint b.maker.rank)) &&
    is_making s.part.record_is.kind))
    ∙ plus_zero (all b.maker.rank).serial))))
  where
    s : IsStillInside all b.maker.rank c k b.entry
    s = still_inside n all g r c k p ps sound h l making b none

    plus_zero : (i : ℕ) → i + 0 ≡ i
    plus_zero i = omega arith

-- WHAT IS ANSWERED

making_end : Account → Option Communicator → Ending
making_end a None = Comm None
making_end a (Some c) = Comm (Some (length a.held))

record IsMakingAnswer (a : Account) (d : ℕ) (o : Option Communicator) (end : Ending) : Type 0 where
  pub told : (answered_making a d o).0 ≡ ByCollective end
  pub sent : (answered_making a d o).1.sent ≡ a.sent
  pub started : (answered_making a d o).1.started ≡ a.started
  pub used : (answered_making a d o).1.used ≡ a.used
  pub entered : (answered_making a d o).1.entered ≡ a.entered
  pub free : (answered_making a d o).1.waiting ≡ None
  pub serial : (answered_making a d o).1.serial ≡ a.serial + d
  pub member : got (membership_of a) o ≡ member_with (answered_making a d o).1 (Some end)

making_answer : (a : Account) (d : ℕ) (o : Option Communicator) → (end : Ending) × IsMakingAnswer a d o end
making_answer a d None = (
  Comm None,
  record {
    told = refl;
    sent = refl;
    started = refl;
    used = refl;
    entered = refl;
    free = refl;
    serial =
        refl;
    member = refl;
  },
)
making_answer a d (Some c) = (
  Comm (Some (length a.held)),
  record {
    told = refl;
    sent = refl;
    started = refl;
    used = refl;
    entered = refl;
    free =
        refl;
    serial = refl;
    member = refl;
  },
)

mine_filled : (e : Endpoint) (cs : List Communicator) (x : Communicator) → mine e cs ≡ Some x → IsFilled x.members
mine_filled e [] x h = absurd (grind arith)
mine_filled e (c ∷ cs) x h = go (is_member e c.members) refl h (mine_filled e cs x)
  where
    filled : (ms : List Endpoint) → is_member e ms ≡ true → IsFilled ms
    filled [] u = absurd (grind arith)
    filled (m ∷ ms) u = tt

    go : (b : Bool) → is_member e c.members ≡ b → (if b then Some c else mine e cs) ≡ Some x →
        (mine e cs ≡ Some x → IsFilled x.members) → IsFilled x.members
    go true u v f = subst (λ (y : Communicator). IsFilled y.members) (same_Some c x v) (filled c.members u)
    go false u v f = f v

push : (P : Communicator → Type 0) (xs : List Communicator) (x : Communicator) → AllByRecursion P xs → P x →
    AllByRecursion P (xs ++ x ∷ [])
push P [] x a h = (h, tt)
push P (y ∷ xs) x a h = (a.0, push P xs x a.1 h)

making_filled : (a : Account) (d : ℕ) (o : Option Communicator) →
    ((x : Communicator) → o ≡ Some x → IsFilled x.members) → AllByRecursion (λ c. IsFilled c.members) a.held →
    AllByRecursion (λ c. IsFilled c.members) (answered_making a d o).1.held
making_filled a d None f h = h
making_filled a d (Some c) f h = push (λ c. IsFilled c.members) a.held c h (f c refl)

pub leave_making : (n : ℕ) (all : Accounts) (g : Groups) (r : ℕ) (c : Communicator) (k : ℕ) (p : Part)
    (ps : List Part) → Sound n g → HaveGroups n all g r None → IsLeaver n all g r c k p ps →
    is_making p.record_is.kind ≡ true → HasLeft n all (leave_made g (first_endpoint r) c k p ps true) r c k p
leave_making n all g r c k p ps sound h l making =
    record {
      answered = t;
      ending = end;
      waiting = l.waiting;
      answer = answers all n g r c k p ps l ∙
          (ap (answered_leaving all r a c k p ps) making ∙ ap (answered_made r a c p ps) maker_entry);
      told = is_answer.told;
      sent = is_answer.sent;
      started = is_answer.started;
      used = is_answer.used;
      free = is_answer.free;
      groups = subst (λ (x : Groups). HaveGroups n all' x r (Some end)) (sym path) has;
    }
  where
    e : Endpoint
    e = first_endpoint r

    a : Account
    a = all r

    b : IsByMaker n all g r c k p ps
    b = by_maker n all g r c k p ps l making

    new : List Communicator
    new = made_by e c b.entry.serial p ps

    first : first_of c.members e ≡ b.maker
    first = ap (λ (ms : List Endpoint). first_of ms e) b.members

    first_as : (x : Endpoint) → first_of c.members x ≡ b.maker
    first_as x = ap (λ (ms : List Endpoint). first_of ms x) b.members

    maker_entry : entered_by all c.context k (first_of c.members e) ≡ Some b.entry
    maker_entry = ap (entered_by all c.context k) first ∙ b.entry_is

    d : ℕ
    d = drawn_by e c new

    t : Answered
    t = answered_making a d (mine e new)

    end : Ending
    end = (making_answer a d (mine e new)).0

    is_answer : IsMakingAnswer a d (mine e new) end
    is_answer = (making_answer a d (mine e new)).1

    all' : Accounts
    all' = with_account all r t.1

    taken : List Communicator
    taken = to_make g e c p ps

    is_new : made_or (g.made c.context k) taken ≡ new
    is_new = new_is n all g r c k p ps sound h l making b

    with_new : List Communicator → Groups
    with_new cs =
        record {
          of = with_member g.of e (got (g.of e) (mine e cs));
          entered = g.entered;
          made = with_made g.made c.context k cs;
          serial = drawn g.serial (first_of c.members e) (draws (g.made c.context k) taken);
        }

    path : leave_made g e c k p ps true ≡ with_new new
    path = ap with_new is_new

    more : (x j : ℕ) (cs : List Communicator) → g.made x j ≡ Some cs → with_made g.made c.context k new x j ≡ Some cs
    more x j cs u = ap (λ (y : Groups). y.made x j) (sym path) ∙ (leave_grows g e c k p ps true).made x j cs u

    there : (x : Communicator) → IsThere n g.made x → IsThere n (with_made g.made c.context k new) x
    there x = there_more n g.made (with_made g.made c.context k new) more x

    grew : AllGrew all all'
    grew = one_grew all r t.1 (grew_not a t.1 is_answer.sent is_answer.entered)

    were_made : (x j : ℕ) (cs : List Communicator) → with_made g.made c.context k new x j ≡ Some cs →
        WereMade n all' (with_new new) x j cs
    were_made x j cs = go (x == c.context) refl (j == k) refl
      where
        old : g.made x j ≡ Some cs → WereMade n all' (with_new new) x j cs
        old u = still_made n all all' g (with_new new) grew there x j cs (h.were_made x j cs u)

        now : c.context ≡ x → k ≡ j → new ≡ cs → WereMade n all (with_new new) x j cs
        now u v w =
            record {
              comm = c;
              there = there c l.inside.there;
              context = u;
              maker = b.maker;
              others = b.others;
              members = b.members;
              parts = ps;
              all_entered =
                  subst (λ (y : ℕ). all_parts (part_by all y j) c.members ≡ Some ps) u
                  (subst (λ (i : ℕ). all_parts (part_by all c.context i) c.members ≡ Some ps) v b.all_entered);
              part = p;
              making = making;
              agreeing = l.agreeing;
              entry = b.entry;
              entry_is =
                  subst (λ (y : ℕ). entered_by all y j b.maker ≡ Some b.entry) u
                  (subst (λ (i : ℕ). entered_by all c.context i b.maker ≡ Some b.entry) v b.entry_is);
              made_is =
                  sym w ∙ ap (λ (m : Endpoint). numbered m b.entry.serial (new_groups p.record_is.kind c.members ps))
                  first;
            }

        go : (s : Bool) → (x == c.context) ≡ s → (i : Bool) → (j == k) ≡ i →
            (if s && i then Some new else g.made x j) ≡ Some cs → WereMade n all' (with_new new) x j cs
        go true u true v w =
            still_made n all all' (with_new new) (with_new new) grew (λ y f. f) x j cs
            (now (sym (eqb-true x c.context u)) (sym (eqb-true j k v)) (same_Some new cs w))
        go true u false v w = old w
        go false u i v w = old w

    -- serials
    same_serials : (cs : List Communicator) → g.made c.context k ≡ Some cs →
        drawn g.serial (first_of c.members e) (draws (g.made c.context k) taken) ≡ g.serial
    same_serials cs u =
        ap (λ (o : Option (List Communicator)). drawn g.serial (first_of c.members e) (draws o taken)) u ∙
        drawn_none g.serial (first_of c.members e)

    same_new : (cs : List Communicator) → g.made c.context k ≡ Some cs → cs ≡ new
    same_new cs u = ap (λ (o : Option (List Communicator)). made_or o taken) (sym u) ∙ is_new

    same_made : (cs : List Communicator) → g.made c.context k ≡ Some cs → with_made g.made c.context k new ≡ g.made
    same_made cs u = with_made_same g.made c.context k new (u ∙ ap (λ (x : List Communicator). Some x) (same_new cs u))

    new_taken : g.made c.context k ≡ None → taken ≡ new
    new_taken u = ap (λ (o : Option (List Communicator)). made_or o taken) (sym u) ∙ is_new

    drawn_at : (x : Endpoint) (i : Bool) → is_same x (first_of c.members e) ≡ i → g.made c.context k ≡ None →
        drawn g.serial (first_of c.members e) (draws (g.made c.context k) taken) x ≡
        (if i then g.serial (first_of c.members e) + length taken else g.serial x)
    drawn_at x i u none =
        ap₂ (λ (o : Option (List Communicator)) (i : Bool). if i then g.serial (first_of c.members e) +
        draws o taken else g.serial x) none u

    others_serial : (x : ℕ) →
        (x == r) ≡ false → drawn g.serial (first_of c.members e) (draws (g.made c.context k) taken) (first_endpoint x) ≡
        (all x).serial + ahead (with_made g.made c.context k new) (first_endpoint x) (all x).waiting
    others_serial x differs = go (g.made c.context k) refl
      where
        maker_now : g.made c.context k ≡ None → is_same (first_endpoint x) (first_of c.members e) ≡ true →
            g.serial (first_of c.members e) + length taken ≡
            (all x).serial + ahead (with_made g.made c.context k new) (first_endpoint x) (all x).waiting
        maker_now none u =
            ap₂ (λ (i j : ℕ). i + j) (ap g.serial first ∙
            (maker_serial n all g r c k p ps sound h l making b none ∙ ap (λ (y : ℕ). (all y).serial) (sym rank)))
            (ap length (new_taken none)
            ∙ sym (ap (ahead (with_made g.made c.context k new) (first_endpoint x)) waits
            ∙ (ap₂ (λ (i j : Bool). ahead_if (i && j) (count_made (with_made g.made c.context k new c.context k))) own
            is_maker
            ∙ ap count_made (with_made_here g.made c.context k new))))
          where
            s : IsStillInside all b.maker.rank c k b.entry
            s = still_inside n all g r c k p ps sound h l making b none

            is_it : first_endpoint x ≡ b.maker
            is_it = same_eq (first_endpoint x) (first_of c.members e) u ∙ first

            rank : x ≡ b.maker.rank
            rank = ap (λ (y : Endpoint). y.rank) is_it

            waits : (all x).waiting ≡ Some (InCollective c k s.part)
            waits = ap (λ (y : ℕ). (all y).waiting) rank ∙ s.waiting

            own : is_same (first_endpoint x) (first_of c.members (first_endpoint x)) ≡ true
            own = ap (is_same (first_endpoint x)) (first_as (first_endpoint x) ∙ sym is_it) ∙
                same_refl (first_endpoint x)

            is_maker : is_making s.part.record_is.kind ≡ true
            is_maker = ap (λ (y : Record). is_making y.kind) (s.record_is ∙ sym b.record_is) ∙ making

        another : g.made c.context k ≡ None → is_same (first_endpoint x) (first_of c.members e) ≡ false →
            g.serial (first_endpoint x) ≡
            (all x).serial + ahead (with_made g.made c.context k new) (first_endpoint x) (all x).waiting
        another none u =
            h.serial x
            ∙ ap (λ (i : ℕ). (all x).serial + i)
            (ahead_alike g.made (with_made g.made c.context k new) (first_endpoint x) (all x).waiting apart)
          where
            apart : (f : Communicator) (j : ℕ) (q : Part) → (all x).waiting ≡ Some (InCollective f j q) →
                is_same (first_endpoint x) (first_of f.members (first_endpoint x)) ≡ true →
                g.made f.context j ≡ with_made g.made c.context k new f.context j
            apart f j q w own = at_place (f.context == c.context) refl (j == k)
              where
                i : IsInsideOf n all g x (all x).serial f j q
                i = subst (IsInsideBy n all g x (all x).serial) w (h.inside x)

                at_place : (s : Bool) → (f.context == c.context) ≡ s → (t : Bool) → g.made f.context j ≡
                    (if s && t then Some new else g.made f.context j)
                at_place false v t = refl
                at_place true v false = refl
                at_place true v true =
                    let same : f ≡ c = one_group n g sound f c i.there l.inside.there (eqb-true f.context c.context v) in
                    let z : is_same (first_endpoint x) (first_of c.members e) ≡ true =
                    ap (is_same (first_endpoint x)) (first ∙
                    (sym (first_as (first_endpoint x)) ∙
                    ap (λ (y : Communicator). first_of y.members (first_endpoint x)) (sym same))) ∙ own in
                    absurd (grind arith)

        go : (o : Option (List Communicator)) → g.made c.context k ≡ o →
            drawn g.serial (first_of c.members e) (draws (g.made c.context k) taken) (first_endpoint x) ≡
            (all x).serial + ahead (with_made g.made c.context k new) (first_endpoint x) (all x).waiting
        go (Some cs) u =
            ap (λ (f : Endpoint → ℕ). f (first_endpoint x)) (same_serials cs u)
            ∙ (h.serial x ∙
            ap (λ (m : (c k : ℕ) → Option (List Communicator)). (all x).serial +
            ahead m (first_endpoint x) (all x).waiting) (sym (same_made cs u)))
        go None u = by_test (is_same (first_endpoint x) (first_of c.members e)) refl
          where
            by_test : (i : Bool) → is_same (first_endpoint x) (first_of c.members e) ≡ i →
                drawn g.serial (first_of c.members e) (draws (g.made c.context k) taken) (first_endpoint x) ≡
                (all x).serial + ahead (with_made g.made c.context k new) (first_endpoint x) (all x).waiting
            by_test true v = drawn_at (first_endpoint x) true v u ∙ maker_now u v
            by_test false v = drawn_at (first_endpoint x) false v u ∙ another u v

    before : g.serial e ≡ a.serial + ahead_if (is_same e (first_of c.members e)) (count_made (g.made c.context k))
    before =
        h.serial r
        ∙ (ap (λ (w : Option Waiting). a.serial + ahead g.made e w) l.waiting
        ∙ (ap (λ (i : Bool). a.serial +
        ahead_if (is_same e (first_of c.members e) && i) (count_made (g.made c.context k))) making
        ∙ ap (λ (i : ℕ). a.serial + i) (and_true (is_same e (first_of c.members e)) (count_made (g.made c.context k)))))
      where
        and_true : (i : Bool) (j : ℕ) → ahead_if (i && true) j ≡ ahead_if i j
        and_true true j = refl
        and_true false j = refl

    own_serial : drawn g.serial (first_of c.members e) (draws (g.made c.context k) taken) e ≡ a.serial + d
    own_serial = go (g.made c.context k) refl (is_same e (first_of c.members e)) refl
      where
        own_drawn : (i : Bool) → is_same e (first_of c.members e) ≡ i → (if i then length new else 0) ≡ d
        own_drawn i u = ap (λ (i : Bool). if i then length new else 0) (sym u)

        ahead_is : (i : Bool) (cs : List Communicator) → cs ≡ new → ahead_if i (length cs) ≡
            (if i then length new else 0)
        ahead_is true cs u = ap length u
        ahead_is false cs u = refl

        go : (o : Option (List Communicator)) → g.made c.context k ≡ o →
            (i : Bool) → is_same e (first_of c.members e) ≡ i →
            drawn g.serial (first_of c.members e) (draws (g.made c.context k) taken) e ≡ a.serial + d
        go (Some cs) u i v =
            ap (λ (f : Endpoint → ℕ). f e) (same_serials cs u)
            ∙ (before
            ∙ (ap₂ (λ (i : Bool) (o : Option (List Communicator)). a.serial + ahead_if i (count_made o)) v u
            ∙ ap (λ (j : ℕ). a.serial + j) (ahead_is i cs (same_new cs u) ∙ own_drawn i v)))
        go None u true v =
            drawn_at e true v u
            ∙ (ap₂ (λ (x : Endpoint) (cs : List Communicator). g.serial x + length cs)
            (sym (same_eq e (first_of c.members e) v)) (new_taken u)
            ∙ ap₂ (λ (i j : ℕ). i + j) (before ∙
            (ap₂ (λ (i : Bool) (o : Option (List Communicator)). a.serial + ahead_if i (count_made o)) v u ∙
            plus_zero a.serial)) (own_drawn true v))
          where
            plus_zero : (i : ℕ) → i + 0 ≡ i
            plus_zero i = omega arith
        go None u false v =
            drawn_at e false v u
            ∙ (before ∙
            (ap₂ (λ (i : Bool) (o : Option (List Communicator)). a.serial + ahead_if i (count_made o)) v u ∙
            ap (λ (j : ℕ). a.serial + j) (own_drawn false v)))

    has : HaveGroups n all' (with_new new) r (Some end)
    has =
        record {
          member = member_given all g.of r t.1 (got (g.of e) (mine e new)) end h.member
              (ap (λ (m : Membership). got m (mine e new)) (h.member r) ∙ is_answer.member);
          free = λ o is. ap (λ (i : Bool). (if i then t.1 else all r).waiting) (eq-eqb r r refl) ∙ is_answer.free;
          entered = λ x j y. h.entered x j y ∙ table_same all r t.1 is_answer.entered x j y;
          filled = at_account (λ x y. AllByRecursion (λ d. IsFilled d.members) y.held) all r t.1
              (making_filled a d (mine e new) (mine_filled e new) (h.filled r)) (λ x u. h.filled x);
          inside = at_account (λ x y. IsInsideBy n all' (with_new new) x y.serial y.waiting) all r t.1
              (subst (IsInsideBy n all' (with_new new) r t.1.serial) (sym is_answer.free) tt)
              (λ x u. inside_on n all all' g (with_new new) grew there x (all x).serial (all x).waiting (h.inside x));
          were_made = were_made;
          made_all = at_account (λ x y. (f j : ℕ) (z : Entered) → slice_get (in_context f y.entered) j ≡ Some z →
              is_making z.part.record_is.kind ≡ true → IsMadeOrPresent (with_made g.made c.context k new) f j y.waiting)
              all r t.1 own_made (λ x u f j z is m. made_more f j (all x).waiting (h.made_all x f j z is m));
          serial = at_account
              (λ x y. drawn g.serial (first_of c.members e) (draws (g.made c.context k) taken) (first_endpoint x) ≡
              y.serial + ahead (with_made g.made c.context k new) (first_endpoint x) y.waiting)
              all r t.1 own_end others_serial;
        }
      where
        made_more : (f j : ℕ) (w : Option Waiting) → IsMadeOrPresent g.made f j w →
            IsMadeOrPresent (with_made g.made c.context k new) f j w
        made_more f j w (WasMade cs u) = WasMade cs (more f j cs u)
        made_more f j w (IsPresent x q u v) = IsPresent x q u v

        own_made : (f j : ℕ) (z : Entered) → slice_get (in_context f t.1.entered) j ≡ Some z →
            is_making z.part.record_is.kind ≡ true → IsMadeOrPresent (with_made g.made c.context k new) f j t.1.waiting
        own_made f j z is m =
            subst (IsMadeOrPresent (with_made g.made c.context k new) f j) (sym is_answer.free)
            (left_made n all g (with_new new) r c k p ps l h more (λ i. (new, with_made_here g.made c.context k new)) f
            j z
            (ap (λ (es : List Entered). slice_get (in_context f es) j) (sym is_answer.entered) ∙ is) m)

        plus_zero : (i : ℕ) → i ≡ i + 0
        plus_zero i = omega arith

        own_end : drawn g.serial (first_of c.members e) (draws (g.made c.context k) taken) e ≡ t.1.serial +
            ahead (with_made g.made c.context k new) e t.1.waiting
        own_end =
            own_serial
            ∙ (sym is_answer.serial
            ∙ (plus_zero t.1.serial ∙
            ap (λ (w : Option Waiting). t.1.serial + ahead (with_made g.made c.context k new) e w)
            (sym is_answer.free)))
