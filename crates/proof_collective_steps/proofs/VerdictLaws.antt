-- What a rank does by its verdict is what its member does.
use Rattle.std.proofs.Common.{◌≡◌, ℕ, suc, ◌+◌, ◌*◌, ◌^◌, ◌≤◌, Bool, true, false, cond, ◌&&◌, ◌||◌, List, [], ◌∷◌, ◌++◌}
use Rattle.std.proofs.Common.{length, map, Option, Some, None, if◌then◌else◌, ◌==◌, slice_index_or, option_map, inl}
use Rattle.std.proofs.Common.{inr, refl, sym, ap, ◌∙◌, subst, arith}
use Rattle.std.specs.List.{AllByRecursion, list_any}
use Rattle.std.proofs.lemmas.Bool.{eq-eqb, eqb-true}
use Rattle.std.proofs.lemmas.List.{length-map}
use Rattle.std.proofs.Math.ListN.{get_or-map}
use Rattle.collective_messages.specs.Entries as entering
use Rattle.collective_messages.specs.Entries.{agrees}
use Rattle.collective_messages.specs.Notes.{is_result, member_at}
use Rattle.collectives.specs.State.{State, after_step, members_incarnation}
use Rattle.collective_steps.specs.Steps as steps
use Rattle.collective_steps.specs.Steps.{HasHeard, IsCarriedOut, IsHeard, IsPrepared, IsPreparedIn, Prepared}
use Rattle.collective_steps.specs.Steps.{contexts_after, difference_messages, ending_of, word_messages, given_of}
use Rattle.collective_steps.specs.Steps.{group_of_part, made_by, message_to, outcome_of}
use Rattle.collective_messages.specs.Verdicts.{is_at, is_first}
use Rattle.collective_messages.specs.Verdicts as verdicts
use Rattle.collective_messages.specs.declared.entry.Entry.{Entry}
use Rattle.collective_messages.specs.declared.entry.Entry.TheVariants as entries
use Rattle.collective_messages.specs.declared.entry.Inside.{Inside}
use Rattle.collective_messages.specs.declared.message.MessageContent.TheVariants as given
use Rattle.collective_messages.specs.declared.note.Note.{Note}
use Rattle.collective_messages.specs.declared.note.NoteContent.{NoteContent}
use Rattle.collective_messages.specs.declared.note.NoteContent.TheVariants as said
use Rattle.collective_steps.specs.declared.step.Ending as ended
use Rattle.collective_steps.specs.declared.step.Ending.TheVariants as endings
use Rattle.collective_steps.specs.declared.step.StepOutcome.{StepOutcome}
use Rattle.collective_steps.specs.declared.step.StepOutcome.TheVariants as outcomes
use Rattle.collective_messages.specs.declared.verdict.Verdict.{Verdict}
use Rattle.collective_messages.specs.declared.verdict.Verdict.TheVariants as code
use Rattle.context_agreement.specs.Communicators.{ContextsState, coming_context}
use Rattle.context_agreement.specs.Numbers.{number_of}
use Rattle.context_agreement.specs.Parts.{SplitPart}
use Rattle.context_agreement.specs.Splits.{IsSplitPlan}
use Rattle.context_agreement.specs.declared.communicator.Communicator as held
use Rattle.groups.specs.Groups as groups
use Rattle.groups.specs.Groups.{HasNoRepeats}
use Rattle.payload.specs.declared.payload.Choice.{Choice}
use Rattle.payload.specs.declared.payload.Direction.TheVariants.{FromRoot, TowardsRoot}
use Rattle.payload.specs.declared.record.Record as payload
use Rattle.payload.specs.declared.record.Record.TheVariants as records
use Rattle.perfect_groups.specs.Collectives.{Part, bare_part, dup, split}
use Rattle.perfect_groups.specs.Communicators.{Communicator, context_number}
use Rattle.perfect_groups.specs.Machine.{mismatch}
use Rattle.perfect_groups.specs.Membership.{Failed, Inside as Member_within, Out, Present, got, mine, numbered}
use Rattle.perfect_groups.specs.Results.{new_groups}
use Rattle.proof_collective_steps.proofs.KeptNotes.{GroupIs, PartsAre}
use Rattle.proof_collective_steps.proofs.Verdicts.{Alike, Knows, has_role, verdicts_alike}
use Rattle.proof_collective_steps.specs.Counterparts.{AreSaid, GivenStandsFor, HandsIn, IsSaid, SaidFits, StandsFor}
use Rattle.proof_collective_steps.specs.Counterparts.{communicator_of, members_of, part_of, record_of}
use Rattle.proof_collective_steps.specs.MemberViews.{HasTold, IsInside, IsPresent, IsShown, or_given}
use Rattle.proof_group_network.specs.Copies.{CopiesHaveTheirGroup}
use Rattle.proof_group_network.proofs.SortedOnce.{IsIn, all_more, all_there}
use Rattle.proof_group_network.proofs.SplitPlans.{flipped}
use Rattle.proof_group_network.proofs.SplitPlans.{splits_follow}
use Rattle.proof_group_network.specs.Notices as network
use Rattle.proof_group_network.specs.Notices.{HasDifference, HasMade, HasResult, Member, attempt, attempt_in}
use Rattle.proof_group_network.specs.Notices.{carried_out, differences_to, left_by, notice, results_to, making_new}
use Rattle.proof_group_network.specs.Notices.{Notice}
use Rattle.proof_group_network.specs.Splits.{members_of_part}
use Rattle.vocabulary.specs.Endpoints.{is_same}
use Rattle.vocabulary.specs.declared.endpoint.Endpoint.{Endpoint}
use Rattle.proof_collective_steps.proofs.Ends.{Follows, gets, inside, leaves, leaving}
use Rattle.proof_collective_steps.proofs.WordLaws.{every, others_said, said_to}
use Rattle.proof_collective_steps.proofs.DataMovement.{
  Decided,
  Ready,
  decides_allreduce,
  decides_barrier,
  decides_bcast,
}
use Rattle.proof_collective_steps.proofs.DataMovement.{decides_gather, decides_reduce, decides_scatter}
use Rattle.proof_collective_steps.proofs.Relays.{relays_follow, warnings_follow}
use Rattle.proof_collective_steps.proofs.Words.{words_follow}
use Rattle.proof_collective_steps.specs.MemberVerdicts.{here}
use Rattle.proof_collective_steps.proofs.RolesJoin.{first_same}
use Rattle.proof_collective_steps.specs.RoleViews.{named}
use Rattle.proof_group_network.specs.Roles as roles
use Rattle.collective_messages.specs.Roles.{RoleState, all_or_own, role_of}
use Rattle.collectives.specs.State.{told_in}
use Rattle.collective_messages.specs.declared.message.CollectiveMessage.{CollectiveMessage}

-- MEMBERS

and_true : (a : Bool) → (a && true) ≡ a
and_true true = refl
and_true false = refl

or_true : (a : Bool) → (a || true) ≡ true
or_true true = refl
or_true false = refl

in_members : (inc r : ℕ) (ranks : List ℕ) → IsIn r ranks →
    list_any (λ m. is_same m (member_at inc r)) (map (member_at inc) ranks) ≡ true
in_members inc r [] h = absurd h
in_members inc r (x ∷ xs) h =
    elim h [
      | inl q ↦ λ t. (eq-eqb x r (sym q) t && eq-eqb inc inc refl t) ||
          list_any (λ m. is_same m (member_at inc r)) (map (member_at inc) xs)
      | inr q ↦ ap (λ (b : Bool). is_same (member_at inc x) (member_at inc r) || b) (in_members inc r xs q) ∙
          or_true (is_same (member_at inc x) (member_at inc r))
    ]

first_member : (e : Endpoint) (inc : ℕ) (ranks : List ℕ) → is_first e inc ranks ≡ true →
    list_any (λ m. is_same m e) (map (member_at inc) ranks) ≡ true
first_member e inc [] h = absurd cc
first_member e inc (r ∷ rs) h = ap (λ (b : Bool). b || list_any (λ m. is_same m e) (map (member_at inc) rs)) h

member_same : (j inc r : ℕ) → j ≡ inc →
    (group : List ℕ) → list_any (λ m. is_same m (member_at inc r)) (map (member_at j) group) ≡ groups.is_member group r
member_same j inc r q [] = refl
member_same j inc r q (x ∷ xs) =
    λ t. (ap (λ (b : Bool). (x == r) && b) (eq-eqb j inc q) ∙ (and_true (x == r) ∙ flipped x r)) t ||
    member_same j inc r q xs t

-- NEW COMMUNICATORS

not_world : (a b n : ℕ) → 2 ≤ n → ((a + b + n) == 0) ≡ false
not_world a b n le = go ((a + b + n) == 0) refl
  where
    go : (t : Bool) → ((a + b + n) == 0) ≡ t → t ≡ false
    go false q = refl
    go true q = absurd (let z : a + b + n ≡ 0 = eqb-true (a + b + n) 0 q in omega (arith, z, le))

-- those of a new context have the incarnation of the rank that draws it
coming_incarnation : (e : Endpoint) (h : ContextsState) (inc : ℕ) → 2 ≤ h.next_serial → e.incarnation ≡ inc →
    (further : ℕ) → members_incarnation e (number_of (coming_context h further)) ≡ inc
coming_incarnation e h inc two own further =
    ap (λ (b : Bool). if b then 0 else e.incarnation)
    (not_world (h.rank * 2 ^ 48) (h.incarnation * 2 ^ 32) (h.next_serial + further) (omega (arith, two))) ∙ own

abbrev number_by : ℕ → ℕ → ℕ → ℕ
number_by a b n = a * 2 ^ 48 + b * 2 ^ 32 + n

new_comm : (e : Endpoint) (h : ContextsState) (inc : ℕ) → 2 ≤ h.next_serial → h.rank ≡ e.rank →
    h.incarnation ≡ e.incarnation → e.incarnation ≡ inc → (further n : ℕ) → n ≡ h.next_serial + further →
    (group : List ℕ) →
    record { context = context_number e n; members = map (member_at inc) group } ≡
    communicator_of e (record { context = coming_context h further; group = group })
new_comm e h inc two rank incarnation own further n q group =
    λ t. record {
      context = number_by (sym rank t) (sym incarnation t) (q t);
      members = map (member_at (sym (coming_incarnation e h inc two own further) t)) group;
    }

part_group : (inc : ℕ) (ranks rs : List ℕ) →
    map (λ r. slice_index_or (map (member_at inc) ranks) r (member_at inc 0)) rs ≡
    map (member_at inc) (map (λ r. slice_index_or ranks r 0) rs)
part_group inc ranks [] = refl
part_group inc ranks (r ∷ rs) = λ t. get_or-map (member_at inc) ranks r 0 t ∷ part_group inc ranks rs t

numbered_made : (e : Endpoint) (h : ContextsState) (inc : ℕ) → 2 ≤ h.next_serial → h.rank ≡ e.rank →
    h.incarnation ≡ e.incarnation → e.incarnation ≡ inc → (ranks : List ℕ) (plan : List SplitPart) (further n : ℕ) →
    n ≡ h.next_serial + further →
    numbered e n (map (members_of_part (map (member_at inc) ranks) (member_at inc 0)) plan) ≡
    map (communicator_of e) (made_by h ranks further plan)
numbered_made e h inc two rank incarnation own ranks [] further n q = refl
numbered_made e h inc two rank incarnation own ranks (part ∷ plan) further n q =
    λ t. (ap (λ (ms : List Endpoint). record { context = context_number e n; members = ms })
    (part_group inc ranks part.ranks)
    ∙ new_comm e h inc two rank incarnation own further n q (group_of_part ranks part)) t
    ∷ numbered_made e h inc two rank incarnation own ranks plan (suc further) (suc n) (omega (arith, q)) t

made_length : (h : ContextsState) (ranks : List ℕ) (further : ℕ) (plan : List SplitPart) →
    length (made_by h ranks further plan) ≡ length plan
made_length h ranks further [] = refl
made_length h ranks further (part ∷ plan) = ap suc (made_length h ranks (suc further) plan)

made_incarnation : (e : Endpoint) (h : ContextsState) (inc : ℕ) → 2 ≤ h.next_serial → e.incarnation ≡ inc →
    (ranks : List ℕ) (further : ℕ) (plan : List SplitPart) →
    AllByRecursion (λ (c : held.Communicator). members_incarnation e (number_of c.context) ≡ inc)
    (made_by h ranks further plan)
made_incarnation e h inc two own ranks further [] = tt
made_incarnation e h inc two own ranks further (part ∷ plan) =
    (coming_incarnation e h inc two own further, made_incarnation e h inc two own ranks (suc further) plan)

mine_made : (e : Endpoint) (inc r : ℕ) (made : List held.Communicator) →
    AllByRecursion (λ (c : held.Communicator). members_incarnation e (number_of c.context) ≡ inc) made →
    mine (member_at inc r) (map (communicator_of e) made) ≡ option_map (communicator_of e) (steps.mine r made)
mine_made e inc r [] h = refl
mine_made e inc r (c ∷ cs) h =
    ap (λ (b : Bool). if b then Some (communicator_of e c) else mine (member_at inc r) (map (communicator_of e) cs))
    (member_same (members_incarnation e (number_of c.context)) inc r h.0 c.group)
    ∙ go (groups.is_member c.group r) (mine_made e inc r cs h.1)
  where
    go : (b : Bool) → mine (member_at inc r) (map (communicator_of e) cs) ≡
        option_map (communicator_of e) (steps.mine r cs) →
        (if b then Some (communicator_of e c) else mine (member_at inc r) (map (communicator_of e) cs)) ≡
        option_map (communicator_of e) (cond b (Some c) (steps.mine r cs))
    go true rest = refl
    go false rest = rest

-- WHO IS IN THE MIDDLE DECIDES

given_made : (e : Endpoint) (o : Option held.Communicator) →
    GivenStandsFor e records.Split (given_of o) (HasMade (bare_part split).record_is (option_map (communicator_of e) o))
given_made e None = refl
given_made e (Some c) = (refl, refl)

-- member 0 of a star knows the parts of all
all_parts_are : (e : Endpoint) (i : Inside) (inc : ℕ) (ranks : List ℕ) (ns : List Note) (ps : List Part) →
    is_first e inc ranks ≡ true → i.role.feeders ≡ all_or_own (is_first e inc ranks) e ranks →
    PartsAre e i ns i.role.feeders ps → PartsAre e i ns ranks ps
all_parts_are e i inc ranks ns ps first fed are =
    subst (λ (fs : List ℕ). PartsAre e i ns fs ps) (fed ∙ ap (λ (t : Bool). if t then ranks else e.rank ∷ []) first) are

-- a copy: the group is the old one
decides_dup : (e : Endpoint) (s : State) (h : ContextsState) (m : Member) (place c inc k : ℕ) (role : RoleState)
    (told : Bool) → e.incarnation ≡ inc → (ranks : List ℕ) (ps : List Part) →
    Ready e s h m place c inc k entries.Dup role told ranks ps →
    (step : Prepared) → step ≡ steps.copy_step e (inside place c inc k entries.Dup role told) h ranks →
    Decided e s h m (inside place c inc k entries.Dup role told) entries.Dup ranks ps step
decides_dup e s h m place c inc k role told own ranks ps r step q =
    subst (λ (st : Prepared). Decided e s h m I entries.Dup ranks ps st) (sym q) (
      subst (λ (o : Option Communicator). IsShown e (after_step s (outcomes.Gets X))
          (contexts_after h 1 (outcomes.Gets X))
          (record {
            membership = got m.membership o;
            serial = m.serial + 1;
            kept = network.without c k m.kept;
            told =
                m.told;
          }) (ending_of h (outcomes.Gets X)))
          (sym (is_mine e (first_member e inc ranks first)))
          (gets e s h m b I r.at_present (Some X) 1 (m.serial + 1) (ap (λ (x : ℕ). x + 1) b.serial)),
      subst (λ (zs : List Endpoint). AreSaid e
          (steps.to_others e I (λ r. given.Context (number_of (coming_context h 0))) ranks)
          (network.to_others e (λ z. notice c k (HasMade (bare_part dup).record_is (mine z new))) zs))
          (sym (ap (λ (t : Bool). if t then named inc ranks else []) (r.role_is.decides ∙ r.deciding)))
          (others_said e I (λ r. given.Context (number_of (coming_context h 0)))
          (λ z. notice c k (HasMade (bare_part dup).record_is (mine z new))) ranks
          (all_more (λ r. IsIn r ranks)
          (λ r. IsSaid e (message_to I (given.Context (number_of (coming_context h 0))) r)
          (member_at inc r, notice c k (HasMade (bare_part dup).record_is (mine (member_at inc r) new)))) ranks
          (λ r there. said_to e I (given.Context (number_of (coming_context h 0))) r
          (HasMade (bare_part dup).record_is (mine (member_at inc r) new)) (
            (communicator_of e X).members,
            ap (HasMade (bare_part dup).record_is) (is_mine (member_at inc r) (in_members inc r ranks there)),
          ))
          (all_there ranks))),
    )
  where
    I : Inside
    I = inside place c inc k entries.Dup role told

    b : IsShown e s h m None
    b = r.shown

    first : is_first e inc ranks ≡ true
    first = sym (first_same e inc ranks) ∙ (r.role_is.decides ∙ r.deciding)

    X : held.Communicator
    X = record { context = coming_context h 0; group = ranks }

    new : List Communicator
    new = record { context = context_number e m.serial; members = map (member_at inc) ranks } ∷ []

    is_mine : (z : Endpoint) → list_any (λ m. is_same m z) (map (member_at inc) ranks) ≡ true →
        mine z new ≡ Some (communicator_of e X)
    is_mine z there =
        ap (λ (t : Bool). if t then
        Some (record { context = context_number e m.serial; members = map (member_at inc) ranks }) else None) there
        ∙ ap (λ (x : Communicator). Some x)
        (new_comm e h inc b.two b.rank b.incarnation own 0 m.serial
        (let z : h.next_serial ≡ h.next_serial + 0 = omega arith in b.serial ∙ z) ranks)

-- a split: one communicator for each part of the plan
decides_split : (e : Endpoint) (s : State) (h : ContextsState) (m : Member) (place c inc k : ℕ) (a : Choice)
    (role : RoleState) (told : Bool) → e.incarnation ≡ inc → (ranks : List ℕ) (ps : List Part) →
    role.feeders ≡ all_or_own (is_first e inc ranks) e ranks →
    Ready e s h m place c inc k (entries.Split a) role told ranks ps →
    (step : Prepared) → steps.IsSplit e (inside place c inc k (entries.Split a) role told) h ranks s.kept step →
    Decided e s h m (inside place c inc k (entries.Split a) role told) (entries.Split a) ranks ps step
decides_split e s h m place c inc k a role told own ranks ps fed r step q =
    subst (λ (st : Prepared). Decided e s h m I (entries.Split a) ranks ps st) (sym q.2)
    (subst (λ (new : List Communicator).
    IsShown e (after_step s (outcome_of (steps.mine e.rank made)))
    (contexts_after h (length plan) (outcome_of (steps.mine e.rank made)))
    (record {
      membership = got m.membership (mine e new);
      serial = m.serial + length new;
      kept =
          network.without c k m.kept;
      told = m.told;
    }) (ending_of h (outcome_of (steps.mine e.rank made)))
    × AreSaid e (steps.to_others e I (λ r. given_of (steps.mine r made)) ranks)
    (network.to_others e (λ z. notice c k (HasMade (bare_part split).record_is (mine z new)))
    (if roles.is_first e (named inc ranks) then named inc ranks else [])))
    (sym all_new) (
      shown,
      subst (λ (zs : List Endpoint). AreSaid e (steps.to_others e I (λ r. given_of (steps.mine r made)) ranks)
          (network.to_others e
          (λ z. notice c k (HasMade (bare_part split).record_is (mine z (map (communicator_of e) made)))) zs))
          (sym (ap (λ (t : Bool). if t then named inc ranks else []) (r.role_is.decides ∙ r.deciding))) all_told,
    ))
  where
    I : Inside
    I = inside place c inc k (entries.Split a) role told

    b : IsShown e s h m None
    b = r.shown

    known : PartsAre e I s.kept ranks ps
    known = all_parts_are e I inc ranks s.kept ps (sym (first_same e inc ranks) ∙ (r.role_is.decides ∙ r.deciding)) fed
        r.parts

    plan : List SplitPart
    plan = q.0

    made : List held.Communicator
    made = made_by h ranks 0 plan

    incs : AllByRecursion (λ (c : held.Communicator). members_incarnation e (number_of c.context) ≡ inc) made
    incs = made_incarnation e h inc b.two own ranks 0 plan

    all_new : numbered e m.serial (new_groups split (map (member_at inc) ranks) ps) ≡ map (communicator_of e) made
    all_new =
        ap (λ (gs : List (List Endpoint)). numbered e m.serial gs)
        (splits_follow (map (member_at inc) ranks) ps plan (member_at inc 0)
        (known.count ∙ sym (length-map ranks (member_at inc)))
        (subst (λ rows. IsSplitPlan rows plan) (sym (known.rows 0)) q.1))
        ∙ numbered_made e h inc b.two b.rank b.incarnation own ranks plan 0 m.serial
        (let z : h.next_serial ≡ h.next_serial + 0 = omega arith in b.serial ∙ z)

    own_is : e ≡ member_at inc e.rank
    own_is = λ t. record { rank = e.rank; incarnation = own t }

    shown : IsShown e (after_step s (outcome_of (steps.mine e.rank made)))
        (contexts_after h (length plan) (outcome_of (steps.mine e.rank made)))
        (record {
          membership = got m.membership (mine e (map (communicator_of e) made));
          serial =
              m.serial + length (map (communicator_of e) made);
          kept = network.without c k m.kept;
          told = m.told;
        })
        (ending_of h (outcome_of (steps.mine e.rank made)))
    shown =
        subst (λ (o : Option Communicator). IsShown e (after_step s (outcome_of (steps.mine e.rank made)))
        (contexts_after h (length plan) (outcome_of (steps.mine e.rank made)))
        (record {
          membership = got m.membership o;
          serial = m.serial + length (map (communicator_of e) made);
          kept =
              network.without c k m.kept;
          told = m.told;
        }) (ending_of h (outcome_of (steps.mine e.rank made))))
        (sym (ap (λ (z : Endpoint). mine z (map (communicator_of e) made)) own_is ∙ mine_made e inc e.rank made incs))
        (gets e s h m b I r.at_present (steps.mine e.rank made) (length plan)
        (m.serial + length (map (communicator_of e) made))
        (λ t. b.serial t + (length-map made (communicator_of e) ∙ made_length h ranks 0 plan) t))

    all_told : AreSaid e (steps.to_others e I (λ r. given_of (steps.mine r made)) ranks)
        (network.to_others e
        (λ z. notice c k (HasMade (bare_part split).record_is (mine z (map (communicator_of e) made))))
        (map (member_at inc) ranks))
    all_told =
        others_said e I (λ r. given_of (steps.mine r made))
        (λ z. notice c k (HasMade (bare_part split).record_is (mine z (map (communicator_of e) made)))) ranks
        (every (λ r. IsSaid e (message_to I (given_of (steps.mine r made)) r) (
          member_at inc r,
          notice c k (HasMade (bare_part split).record_is (mine (member_at inc r) (map (communicator_of e) made))),
        ))
        (λ r. said_to e I (given_of (steps.mine r made)) r
        (HasMade (bare_part split).record_is (mine (member_at inc r) (map (communicator_of e) made)))
        (subst (λ (o : Option Communicator). GivenStandsFor e records.Split (given_of (steps.mine r made))
        (HasMade (bare_part split).record_is o)) (sym (mine_made e inc r made incs))
        (given_made e (steps.mine r made)))) ranks)

-- all eight
decides : (e : Endpoint) (s : State) (h : ContextsState) (m : Member) (place c inc k : ℕ) (y : Entry) (role : RoleState)
    (told : Bool) → e.incarnation ≡ inc → (ranks : List ℕ) → HasNoRepeats ranks → HandsIn e ranks y → (ps : List Part) →
    role.feeders ≡ (role_of e inc ranks (entering.record_of y)).feeders →
    Ready e s h m place c inc k y role told ranks ps →
    (step : Prepared) → steps.IsDecided e (inside place c inc k y role told) h ranks s.kept y step →
    Decided e s h m (inside place c inc k y role told) y ranks ps step
decides e s h m place c inc k entries.Barrier role told own ranks once hands ps fed r step q =
    decides_barrier e s h m place c inc k role told ranks ps r step q
decides e s h m place c inc k (entries.Bcast root x) role told own ranks once hands ps fed r step q =
    decides_bcast e s h m place c inc k root x role told ranks ps r step q
decides e s h m place c inc k (entries.Gather root x) role told own ranks once hands ps fed r step q =
    decides_gather e s h m place c inc k root x role told ranks ps r step q
decides e s h m place c inc k (entries.Scatter z x) role told own ranks once hands ps fed r step q =
    decides_scatter e s h m place c inc k z x role told own ranks once hands ps r step q
decides e s h m place c inc k (entries.Reduce o root x) role told own ranks once hands ps fed r step q =
    decides_reduce e s h m place c inc k root o x role told ranks ps r hands fed step q
decides e s h m place c inc k (entries.Allreduce o x) role told own ranks once hands ps fed r step q =
    decides_allreduce e s h m place c inc k o x role told ranks ps r hands fed step q
decides e s h m place c inc k entries.Dup role told own ranks once hands ps fed r step q =
    decides_dup e s h m place c inc k role told own ranks ps r step q
decides e s h m place c inc k (entries.Split a) role told own ranks once hands ps fed r step q =
    decides_split e s h m place c inc k a role told own ranks ps fed r step q

-- A RESULT IS HEARD

abbrev HeardLeaves : Endpoint → State → ContextsState → Member → Inside → network.Said → StepOutcome → Type 0
HeardLeaves e s h m i w o =
    IsShown e (after_step s o) (contexts_after h 0 o)
    (record {
      membership = left_by m.membership w;
      serial = m.serial;
      kept =
          network.without i.context i.number m.kept;
      told = m.told;
    }) (ending_of h o)

hears : (e : Endpoint) (s : State) (h : ContextsState) (m : Member) → IsShown e s h m None →
    (i : Inside) → s.present ≡ Some i → e.incarnation ≡ i.incarnation → (ranks : List ℕ) →
    (r : payload.Record) (x : NoteContent) (w : network.Said) → StandsFor e r x w → is_result x ≡ true → SaidFits r x →
    agrees i.entry r ≡ true → GroupIs (here i ranks) w →
    (o : StepOutcome) → HasHeard ranks x o → HeardLeaves e s h m i w o
hears e s h m b i at own ranks r said.RecordsDiffer w st res fits ag g o q = absurd cc
hears e s h m b i at own ranks r (said.Nothing TowardsRoot) w st res fits ag g o q = absurd cc
hears e s h m b i at own ranks r (said.Nothing FromRoot) w st res fits ag g o q =
    subst (λ (v : StepOutcome). HeardLeaves e s h m i w v) (sym q)
    (subst (λ (v : network.Said). HeardLeaves e s h m i v (outcomes.Leaves None)) (sym st)
    (leaves e s h m b i at None None refl m.serial refl))
hears e s h m b i at own ranks r (said.Elements TowardsRoot c) w st res fits ag g o q = absurd cc
hears e s h m b i at own ranks r (said.Elements FromRoot c) w st res fits ag g o q =
    subst (λ (v : StepOutcome). HeardLeaves e s h m i w v) (sym q)
    (subst (λ (v : network.Said). HeardLeaves e s h m i v (outcomes.Leaves (Some c))) (sym st)
    (leaves e s h m b i at (Some c) (Some c) refl m.serial refl))
hears e s h m b i at own ranks r (said.Context number) w st res fits ag g o q =
    subst (λ (v : StepOutcome). HeardLeaves e s h m i w v) (sym q.2)
    (subst (λ (v : network.Said). HeardLeaves e s h m i v (outcomes.Gets X)) (sym st.1)
    (subst (λ (c : Communicator). IsShown e (after_step s (outcomes.Gets X)) (contexts_after h 0 (outcomes.Gets X))
    (record {
      membership = got m.membership (Some c);
      serial = m.serial;
      kept =
          network.without i.context i.number m.kept;
      told = m.told;
    }) (ending_of h (outcomes.Gets X)))
    same (gets e s h m b i at (Some X) 0 m.serial (let z : h.next_serial ≡ h.next_serial + 0 = omega arith in b.serial ∙
    z))))
  where
    X : held.Communicator
    X = record { context = q.0; group = ranks }

    is_group : (st.0 ≡ (here i ranks).members) × ((number == 0) ≡ false)
    is_group =
        g (record_of r) (record { context = number; members = st.0 }) st.1
        (ap (λ (z : payload.Record). (record_of z).kind) fits)

    inc : members_incarnation e number ≡ i.incarnation
    inc = ap (λ (t : Bool). if t then 0 else e.incarnation) is_group.1 ∙ own

    same : communicator_of e X ≡ record { context = number; members = st.0 }
    same = λ t. record {
      context = q.1 t;
      members =
          (ap (λ (z : ℕ). map (member_at z) ranks) (ap (members_incarnation e) q.1 ∙ inc) ∙ sym is_group.0) t;
    }
hears e s h m b i at own ranks r (said.Choice c) w st res fits ag g o q = absurd cc
hears e s h m b i at own ranks r said.NullCommunicator w st res fits ag g o q =
    subst (λ (v : StepOutcome). HeardLeaves e s h m i w v) (sym q)
    (subst (λ (v : network.Said). HeardLeaves e s h m i v outcomes.GetsNull) (sym st)
    (gets e s h m b i at None 0 m.serial (let z : h.next_serial ≡ h.next_serial + 0 = omega arith in b.serial ∙ z)))
hears e s h m b i at own ranks r (said.NewGroup number group) w st res fits ag g o q =
    subst (λ (v : StepOutcome). HeardLeaves e s h m i w v) (sym q.2)
    (subst (λ (v : network.Said). HeardLeaves e s h m i v (outcomes.Gets X)) (sym st)
    (subst (λ (c : Communicator). IsShown e (after_step s (outcomes.Gets X)) (contexts_after h 0 (outcomes.Gets X))
    (record {
      membership = got m.membership (Some c);
      serial = m.serial;
      kept =
          network.without i.context i.number m.kept;
      told = m.told;
    }) (ending_of h (outcomes.Gets X)))
    same (gets e s h m b i at (Some X) 0 m.serial (let z : h.next_serial ≡ h.next_serial + 0 = omega arith in b.serial ∙
    z))))
  where
    X : held.Communicator
    X = record { context = q.0; group = group }

    same : communicator_of e X ≡ record { context = number; members = members_of e number group }
    same = λ t. record { context = q.1 t; members = members_of e (q.1 t) group }

-- ALL VERDICTS

both_said : (e : Endpoint) (ms ns : List CollectiveMessage) (xs ys : List (Endpoint × Notice)) → AreSaid e ms xs →
    AreSaid e ns ys → AreSaid e (ms ++ ns) (xs ++ ys)
both_said e [] ns [] ys a b = b
both_said e [] ns (x ∷ xs) ys a b = absurd a
both_said e (m ∷ ms) ns [] ys a b = absurd a
both_said e (m ∷ ms) ns (x ∷ xs) ys a b = (a.0, both_said e ms ns xs ys a.1 b)

-- what is known of the collective that a rank is in
pub record Within (e : Endpoint) (s : State) (h : ContextsState) (m : Member) (i : Inside) (ranks : List ℕ) : Type
    0 where
  pub shown : IsShown e s h m None
  pub at_present : s.present ≡ Some i
  pub own : e.incarnation ≡ i.incarnation
  pub once : HasNoRepeats ranks
  pub hands : HandsIn e ranks i.entry
  pub role : i.role ≡ role_of e i.incarnation ranks (entering.record_of i.entry)

told_same : (e : Endpoint) (s : State) (h : ContextsState) (m : Member) (i : Inside) (ranks : List ℕ) →
    Within e s h m i ranks → m.told ≡ i.told
told_same e s h m i ranks w = subst (λ (p : Option Inside). HasTold p m.told) w.at_present w.shown.told

-- the word, as the member says it
word : (e : Endpoint) (s : State) (h : ContextsState) (m : Member) (i : Inside) (ranks : List ℕ) →
    Within e s h m i ranks → (ps : List Part) → Knows e i ranks s.kept m.kept ps →
    AreSaid e (word_messages e i s.kept) (network.entries_to e (here i ranks) i.number (part_of i.entry) ps m.told)
word e s h m i ranks w ps k =
    subst (λ (t : Bool). AreSaid e (word_messages e i s.kept)
    (network.entries_to e (here i ranks) i.number (part_of i.entry) ps t)) (sym (told_same e s h m i ranks w))
    (words_follow e i ranks s.kept m.kept ps w.own w.role w.hands w.shown.kept k.same k.known)

-- a rank that waits has told its word
waits : (e : Endpoint) (s : State) (h : ContextsState) (m : Member) (i : Inside) (ranks : List ℕ) →
    Within e s h m i ranks →
    IsShown e (after_step s outcomes.Waits) h
    (record { membership = m.membership; serial = m.serial; kept = m.kept; told = true }) None
waits e s h m i ranks w =
    record {
      own = b.own;
      rank = b.rank;
      incarnation = b.incarnation;
      serial = b.serial;
      two = b.two;
      held = b.held;
      count = b.count;
      present = subst (λ (p : Option Inside). IsPresent e h (told_in p) m.membership.present) (sym w.at_present)
          (so (subst (λ (p : Option Inside). IsPresent e h p m.membership.present) w.at_present b.present));
      told = subst (λ (p : Option Inside). HasTold (told_in p) true) (sym w.at_present) refl;
      kept = b.kept;
    }
  where
    b : IsShown e s h m None
    b = w.shown

    so : IsInside e h i m.membership.present → IsInside e h (record i { told = true }) m.membership.present
    so p =
        record {
          comm = p.comm;
          at_place = p.at_place;
          context = p.context;
          incarnation = p.incarnation;
          own = p.own;
          once = p.once;
          hands = p.hands;
          role = p.role;
          is = p.is;
        }

breaks : (e : Endpoint) (s : State) (h : ContextsState) (m : Member) (i : Inside) (ranks : List ℕ) →
    Within e s h m i ranks →
    Follows e s h (record { outcome = outcomes.Breaks; drawn = 0; messages = difference_messages e i ranks s.kept })
    (carried_out e m (here i ranks) i.number (part_of i.entry) network.Breaks)
breaks e s h m i ranks w = (
  leaving e s h m w.shown i w.at_present h m.serial (record m.membership { present = Some (Out (Failed mismatch)) })
      endings.Mismatch w.shown.rank w.shown.incarnation w.shown.serial w.shown.two w.shown.held (λ c. refl) refl,
  warnings_follow e i ranks s.kept m.kept w.own w.role w.shown.kept,
)

pub carried : (e : Endpoint) (s : State) (h : ContextsState) (m : Member) (i : Inside) (ranks : List ℕ) →
    Within e s h m i ranks →
    (v : Verdict) (w : network.Verdict) → Alike e i ranks s.kept m.kept v w →
    (step : Prepared) → IsCarriedOut e i h ranks s.kept v step →
    Follows e s h step (carried_out e m (here i ranks) i.number (part_of i.entry) w)
carried e s h m i ranks b code.Stays network.Stays a step q =
    subst (λ (st : Prepared). Follows e s h st
    (carried_out e m (here i ranks) i.number (part_of i.entry) network.Stays)) (sym q) (b.shown, tt)
carried e s h m i ranks b code.Breaks network.Breaks a step q =
    subst (λ (st : Prepared). Follows e s h st
    (carried_out e m (here i ranks) i.number (part_of i.entry) network.Breaks)) (sym q) (breaks e s h m i ranks b)
carried e s h m i ranks b code.Waits (network.Waits ps) a step q =
    subst (λ (st : Prepared). Follows e s h st
    (carried_out e m (here i ranks) i.number (part_of i.entry) (network.Waits ps))) (sym q)
    (waits e s h m i ranks b, word e s h m i ranks b ps a)
carried e s h m i ranks b code.Decides (network.Decides ps) a step q =
    subst (λ (st : Prepared). Follows e s h st
    (carried_out e m (here i ranks) i.number (part_of i.entry) (network.Decides ps))) (sym q.2)
    (decided.0, both_said e (word_messages e i s.kept) q.0.messages _ _ (word e s h m i ranks b ps a.0) decided.1)
  where
    decided : Decided e s h m i i.entry ranks ps q.0
    decided =
        decides e s h m i.place i.context i.incarnation i.number i.entry i.role i.told b.own ranks b.once b.hands ps
        (ap (λ (r : RoleState). r.feeders) b.role)
        (record {
          shown = b.shown;
          at_present = b.at_present;
          role_is = has_role e i ranks b.own b.role;
          deciding =
              a.1;
          parts = a.0.parts;
          known = a.0.known;
        }) q.0 q.1
carried e s h m i ranks b (code.Hears place) (network.Hears ps w) a step q =
    subst (λ (st : Prepared). Follows e s h st
    (carried_out e m (here i ranks) i.number (part_of i.entry) (network.Hears ps w)))
    (sym (q.2 ∙ ap (λ (st : Prepared). record st { messages = word_messages e i s.kept ++ st.messages }) heard.2)) (
      hears e s h m b.shown i b.at_present b.own ranks a.1.note.entered a.1.note.said w a.1.is.stands a.1.is.result
          a.1.is.fits a.1.is.agreeing a.1.is.group heard.0 heard.1,
      both_said e (word_messages e i s.kept) _ _ _ (word e s h m i ranks b ps a.0)
          (relays_follow e i ranks a.1.note w b.own b.role a.1.waiting a.1.is.stands a.1.is.result a.1.is.fits
          a.1.is.agreeing),
    )
  where
    heard : IsHeard e i ranks (Some a.1.note) q.0
    heard = subst (λ (o : Option Note). IsHeard e i ranks o q.0) a.1.there q.1
carried e s h m i ranks b v w a step q = absurd a

-- WHAT A RANK DOES OF ITSELF

pub attempt_follows : (e : Endpoint) (s : State) (h : ContextsState) (m : Member) (before : Option ended.Ending) →
    IsShown e s h m before → CopiesHaveTheirGroup m.membership.present m.kept →
    (step : Prepared) → IsPrepared e s.present h s.kept step →
    IsShown e (after_step s step.outcome) (contexts_after h step.drawn step.outcome) (attempt e m).member
    (or_given before (ending_of h step.outcome)) × AreSaid e step.messages (attempt e m).out
attempt_follows e s h m (Some x) b g step q =
    subst (λ (p : Option Present). IsShown e (after_step s step.outcome) (contexts_after h step.drawn step.outcome)
    (attempt_in e m p).member (Some x) × AreSaid e step.messages (attempt_in e m p).out) (sym b.present.1)
    (subst (λ (st : Prepared). IsShown e (after_step s st.outcome) (contexts_after h st.drawn st.outcome) m (Some x) ×
    AreSaid e st.messages [])
    (sym (subst (λ (o : Option Inside). IsPrepared e o h s.kept step) b.present.0 q)) (b, tt))
attempt_follows e s h m None b g step q = go s.present refl b.present
  where
    go : (o : Option Inside) → s.present ≡ o → IsPresent e h o m.membership.present → Follows e s h step (attempt e m)
    go None at p =
        subst (λ (p : Option Present). Follows e s h step (attempt_in e m p)) (sym p)
        (subst (λ (st : Prepared). Follows e s h st (record { member = m; out = [] }))
        (sym (subst (λ (o : Option Inside). IsPrepared e o h s.kept step) at q)) (b, tt))
    go (Some i) at p =
        subst (λ (p : Option Present). Follows e s h step (attempt_in e m p)) (sym present)
        (carried e s h m i p.comm.group
        (record { shown = b; at_present = at; own = p.own; once = p.once; hands = p.hands; role = p.role })
        (verdicts.verdict e i s.kept) (network.verdict e (here i p.comm.group) i.number (part_of i.entry) m.kept)
        (verdicts_alike e i p.comm.group s.kept m.kept (has_role e i p.comm.group p.own p.role) b.kept
        (subst (λ (z : Option Present). CopiesHaveTheirGroup z m.kept) present g)) step
        (subst (λ (c : Option held.Communicator). IsPreparedIn e i h s.kept c step) p.at_place
        (subst (λ (o : Option Inside). IsPrepared e o h s.kept step) at q)))
      where
        same : communicator_of e p.comm ≡ here i p.comm.group
        same = λ t. record {
          context = sym p.context t;
          members =
              map (member_at ((ap (members_incarnation e) (sym p.context) ∙ sym p.incarnation) t)) p.comm.group;
        }

        present : m.membership.present ≡ Some (Member_within (here i p.comm.group) i.number (part_of i.entry))
        present = p.is ∙ ap (λ (c : Communicator). Some (Member_within c i.number (part_of i.entry))) same
