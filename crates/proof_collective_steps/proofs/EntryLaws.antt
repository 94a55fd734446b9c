-- An entry: the member has entered, and does of itself what follows.
use Rattle.std.proofs.Common.{◌≡◌, ℕ, suc, Bool, true, false, ◌&&◌, ◌||◌, List, [], ◌∷◌, ◌++◌, map, Option, Some, None}
use Rattle.std.proofs.Common.{Ok, option_map, if◌then◌else◌, ◌==◌, slice_get, refl, sym, ap, ◌∙◌, subst}
use Rattle.std.specs.List.{list_any}
use Rattle.std.proofs.lemmas.Bool.{eqb-true}
use Rattle.std.proofs.lemmas.Option.{same_Some, slice_get-map}
use Rattle.collectives.specs.Calls.{EntryGives, context_of, entered, inside_of}
use Rattle.collective_messages.specs.Entries as entering
use Rattle.collective_messages.specs.Notes.{member_at}
use Rattle.collectives.specs.State.{State, after_step, members_incarnation}
use Rattle.collective_steps.specs.Steps.{IsPrepared, Prepared, contexts_after, ending_of, ranks_of}
use Rattle.collective_messages.specs.Tallies.{count_in}
use Rattle.collective_messages.specs.Roles.{role_of}
use Rattle.collective_messages.specs.declared.entry.Entry.{Entry}
use Rattle.collective_messages.specs.declared.entry.Inside.{Inside}
use Rattle.collective_messages.specs.declared.message.CollectiveMessage.{CollectiveMessage}
use Rattle.collective_steps.specs.declared.step.Ending.{Ending}
use Rattle.context_agreement.specs.Communicators.{ContextsState}
use Rattle.context_agreement.specs.Numbers.{number_of}
use Rattle.context_agreement.specs.declared.communicator.Communicator as held
use Rattle.groups.specs.Groups.{HasNoRepeats}
use Rattle.perfect_groups.specs.Communicators.{Communicator, group_of, is_member}
use Rattle.perfect_groups.specs.Membership.{Inside as Within}
use Rattle.proof_collective_steps.proofs.VerdictLaws.{attempt_follows}
use Rattle.proof_collective_steps.proofs.EntryCounts.{raised_count}
use Rattle.proof_collective_steps.proofs.Middle.{group_back}
use Rattle.proof_collective_steps.specs.Counterparts.{AreSaid, HandsIn, communicator_of, part_of}
use Rattle.proof_collective_steps.specs.MemberViews.{IsShown}
use Rattle.proof_group_network.specs.Copies.{CopiesHaveTheirGroup}
use Rattle.proof_collective_steps.specs.StepLaws.{EntriesFollow}
use Rattle.proof_group_network.specs.Notices as network
use Rattle.proof_group_network.specs.Notices.{HasEntered, Member, Notice, attempt, member_entering}
use Rattle.vocabulary.specs.Endpoints.{is_same}
use Rattle.vocabulary.specs.declared.endpoint.Endpoint.{Endpoint}

-- WHAT IS TOLD

pub said_append : (e : Endpoint) (ms ns : List CollectiveMessage) (xs ys : List (Endpoint × Notice)) → AreSaid e ms xs →
    AreSaid e ns ys → AreSaid e (ms ++ ns) (xs ++ ys)
said_append e [] ns [] ys a b = b
said_append e [] ns (x ∷ xs) ys a b = absurd a
said_append e (m ∷ ms) ns [] ys a b = absurd a
said_append e (m ∷ ms) ns (x ∷ xs) ys a b = (a.0, said_append e ms ns xs ys a.1 b)

-- THE MEMBER HAS ENTERED

pub member_incarnation : (e : Endpoint) (inc : ℕ) (ranks : List ℕ) →
    list_any (λ m. is_same m e) (map (member_at inc) ranks) ≡ true → e.incarnation ≡ inc
member_incarnation e inc [] h = absurd cc
member_incarnation e inc (r ∷ rs) h =
    go (λ k. member_incarnation e inc rs k) (r == e.rank) (inc == e.incarnation) refl h
  where
    go : (list_any (λ m. is_same m e) (map (member_at inc) rs) ≡ true → e.incarnation ≡ inc) → (a b : Bool) →
        (inc == e.incarnation) ≡ b → ((a && b) || list_any (λ m. is_same m e) (map (member_at inc) rs)) ≡ true →
        e.incarnation ≡ inc
    go later true true q k = sym (eqb-true inc e.incarnation q)
    go later true false q k = later k
    go later false b q k = later k

-- the rank at e enters with this, on this communicator, at this place
abbrev entry_at : (e : Endpoint) → State → (place : ℕ) → Entry → (context : ℕ) → (ranks : List ℕ) → Inside
entry_at e s place x c ranks =
    record {
      place = place;
      context = c;
      incarnation = members_incarnation e c;
      number = count_in s.tallies c;
      entry =
          x;
      role = role_of e (members_incarnation e c) ranks (entering.record_of x);
      told = false;
    }

entering_shown : (e : Endpoint) (s : State) (h : ContextsState) (m : Member) → IsShown e s h m None →
    (place : ℕ) (x : Entry) (comm : held.Communicator) → slice_get h.held place ≡ Some comm →
    is_member e (communicator_of e comm).members ≡ true → HasNoRepeats comm.group → HandsIn e comm.group x →
    IsShown e (entered s (entry_at e s place x (number_of comm.context) comm.group)) h
    (member_entering m (communicator_of e comm) (part_of x)) None
entering_shown e s h m b place x comm got is_in once hands =
    record {
      own = b.own;
      rank = b.rank;
      incarnation = b.incarnation;
      serial = b.serial;
      two = b.two;
      held = b.held;
      count = λ z. (λ t. if z == number_of comm.context then suc (b.count (number_of comm.context) t) else b.count z t)
          ∙ sym (raised_count s.tallies (number_of comm.context) z);
      present =
          record {
            comm = comm;
            at_place = got;
            context = refl;
            incarnation = refl;
            own = member_incarnation e (members_incarnation e (number_of comm.context)) comm.group is_in;
            once = once;
            hands = hands;
            role = refl;
            is = ap (λ (k : ℕ). Some (Within (communicator_of e comm) k (part_of x)))
                (b.count (number_of comm.context));
          };
      told = refl;
      kept = b.kept;
    }

entry_follows : (e : Endpoint) (s : State) (h : ContextsState) (m : Member) → IsShown e s h m None →
    (place : ℕ) (x : Entry) (comm : held.Communicator) → slice_get h.held place ≡ Some comm →
    is_member e (communicator_of e comm).members ≡ true → HasNoRepeats comm.group → HandsIn e comm.group x →
    CopiesHaveTheirGroup (member_entering m (communicator_of e comm) (part_of x)).membership.present m.kept →
    (answer : Option Ending × Prepared) (t : State) (k : ContextsState) →
    EntryGives s h (entry_at e s place x (number_of comm.context) comm.group) (Ok answer) t k →
    IsShown e t k (attempt e (member_entering m (communicator_of e comm) (part_of x))).member answer.0 ×
    AreSaid e answer.1.messages (attempt e (member_entering m (communicator_of e comm) (part_of x))).out
entry_follows e s h m b place x comm got is_in once hands g answer t k gives = (
  subst (λ (o : Option Ending). IsShown e t k after.member o) (sym gives.1)
      (subst (λ (u : State). IsShown e u k after.member (ending_of h answer.1.outcome)) (sym gives.2)
      (subst (λ (c : ContextsState). IsShown e (after_step (entered s I) answer.1.outcome) c after.member
      (ending_of h answer.1.outcome)) (sym gives.3) follows.0)),
  follows.1,
)
  where
    I : Inside
    I = entry_at e s place x (number_of comm.context) comm.group

    C : Communicator
    C = communicator_of e comm

    after : network.MemberEffect
    after = attempt e (member_entering m C (part_of x))

    follows : IsShown e (after_step (entered s I) answer.1.outcome) (contexts_after h answer.1.drawn answer.1.outcome)
        after.member (ending_of h answer.1.outcome) × AreSaid e answer.1.messages after.out
    follows =
        attempt_follows e (entered s I) h (member_entering m C (part_of x)) None
        (entering_shown e s h m b place x comm got is_in once hands) g answer.1
        (subst (λ (o : Endpoint). IsPrepared o (Some I) h s.kept answer.1) b.own gives.0)

pub entries_follow : EntriesFollow
entries_follow e s h m place x c answer t k b fault at is_in once hands g gives = go (slice_get h.held place) refl
  where
    listed : option_map (communicator_of e) (slice_get h.held place) ≡ Some c
    listed = sym (ap (λ (cs : List Communicator). slice_get cs place) b.held ∙
        slice_get-map (communicator_of e) h.held place) ∙ at

    go : (o : Option held.Communicator) → slice_get h.held place ≡ o →
        IsShown e t k (attempt e (member_entering m c (part_of x))).member answer.0 ×
        AreSaid e answer.1.messages (attempt e (member_entering m c (part_of x))).out
    go None q = absurd (let z : None ≡ Some c = sym (ap (λ (o : Option held.Communicator). option_map (communicator_of e) o) q) ∙ listed in cc)
    go (Some comm) q =
        subst (λ (d : Communicator). IsShown e t k (attempt e (member_entering m d (part_of x))).member answer.0 ×
        AreSaid e answer.1.messages (attempt e (member_entering m d (part_of x))).out) same
        (entry_follows e s h m b place x comm q
        (subst (λ (d : Communicator). is_member e d.members ≡ true) (sym same) is_in)
        (subst HasNoRepeats group_is once)
        (subst (λ (rs : List ℕ). HandsIn e rs x) group_is hands)
        (subst (λ (d : Communicator). CopiesHaveTheirGroup (member_entering m d (part_of x)).membership.present m.kept)
        (sym same) g)
        answer t k (subst (λ (i : Inside). EntryGives s h i (Ok answer) t k) entry gives))
      where
        same : communicator_of e comm ≡ c
        same = same_Some _ _ (sym (ap (λ (o : Option held.Communicator). option_map (communicator_of e) o) q) ∙ listed)

        group_is : group_of c ≡ comm.group
        group_is = ap (λ (d : Communicator). group_of d) (sym same) ∙
            group_back (members_incarnation e (number_of comm.context)) comm.group

        entry : inside_of s h place x ≡ entry_at e s place x (number_of comm.context) comm.group
        entry =
            (λ t. record {
              place = place;
              context = context_of (q t);
              incarnation = members_incarnation s.own (context_of (q t));
              number = count_in s.tallies (context_of (q t));
              entry = x;
              role = role_of s.own (members_incarnation s.own (context_of (q t))) (ranks_of (q t))
                  (entering.record_of x);
              told = false;
            })
            ∙ (λ t. record {
              place = place;
              context = number_of comm.context;
              incarnation = members_incarnation (b.own t) (number_of comm.context);
              number = count_in s.tallies (number_of comm.context);
              entry = x;
              role = role_of (b.own t) (members_incarnation (b.own t) (number_of comm.context)) comm.group
                  (entering.record_of x);
              told = false;
            })
