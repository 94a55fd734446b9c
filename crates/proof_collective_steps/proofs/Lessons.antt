-- Lessons, and the end of an event.
use Rattle.std.proofs.Common.{◌≡◌, ℕ, Bool, true, false, List, [], ◌∷◌, map, Option, Some, None, if◌then◌else◌, refl}
use Rattle.std.proofs.Common.{sym, ap, ◌∙◌, subst, ◌||◌}
use Rattle.std.specs.List.{list_any}
use Rattle.collectives.specs.Calls.{has_former, is_ended}
use Rattle.collective_messages.specs.Notes.{member_at}
use Rattle.collectives.specs.State.{State, members_incarnation}
use Rattle.collective_steps.specs.Steps.{ranks_of}
use Rattle.collective_messages.specs.declared.entry.Inside.{Inside}
use Rattle.collective_steps.specs.declared.step.Ending.{Ending}
use Rattle.collective_steps.specs.declared.step.Ending.TheVariants as endings
use Rattle.context_agreement.specs.Communicators.{ContextsState}
use Rattle.context_agreement.specs.Numbers.{number_of}
use Rattle.context_agreement.specs.declared.communicator.Communicator as held
use Rattle.perfect_groups.specs.Events.{answered_present}
use Rattle.perfect_groups.specs.Machine.{learnt_present, replaced}
use Rattle.perfect_groups.specs.Membership.{Failed, Inside as Within, Out, Present}
use Rattle.proof_collective_steps.specs.Counterparts.{communicator_of, part_of}
use Rattle.proof_collective_steps.specs.MemberViews.{HasEnded, IsPresent, IsShown, or_given}
use Rattle.proof_collective_steps.specs.StepLaws.{EventsSettle, LessonsFollow}
use Rattle.proof_group_network.specs.Notices.{Member, member_learned}
use Rattle.vocabulary.specs.Endpoints.{is_former}
use Rattle.vocabulary.specs.declared.endpoint.Endpoint.{Endpoint}

-- THE END OF AN EVENT

settled_present : (e : Endpoint) (h : ContextsState) (given : Option Ending) (i : Option Inside) (p : Option Present) →
    HasEnded e h given i p → IsPresent e h i (answered_present p)
settled_present e h None None p b = ap answered_present b
settled_present e h None (Some i) p b =
    record {
      comm = b.comm;
      at_place = b.at_place;
      context = b.context;
      incarnation = b.incarnation;
      own = b.own;
      once =
          b.once;
      hands = b.hands;
      role = b.role;
      is = ap answered_present b.is;
    }
settled_present e h (Some x) i p b =
    subst (λ (o : Option Inside). IsPresent e h o (answered_present p)) (sym b.0) (ap answered_present b.1)

pub events_settle : EventsSettle
events_settle e s h m given b =
    record {
      own = b.own;
      rank = b.rank;
      incarnation = b.incarnation;
      serial = b.serial;
      two = b.two;
      held = b.held;
      count = b.count;
      present = settled_present e h given s.present m.membership.present b.present;
      told = b.told;
      kept = b.kept;
    }

-- LESSONS

former_same : (r i inc : ℕ) (group : List ℕ) → list_any (λ m. is_former r i (member_at inc m)) group ≡
    list_any (is_former r i) (map (member_at inc) group)
former_same r i inc [] = refl
former_same r i inc (x ∷ xs) = ap (λ (b : Bool). is_former r i (member_at inc x) || b) (former_same r i inc xs)

-- the rank has left, or has not
abbrev Lesson : Endpoint → State → ContextsState → Member → (r i : ℕ) → Option Ending → Bool → Type 0
Lesson e s h m r i before b =
    IsShown e (if b then record s { present = None } else s) h (member_learned m r i)
    (or_given before (if b then Some endings.Replaced else None))

unchanged : (e : Endpoint) (s : State) (h : ContextsState) (m : Member) (r i : ℕ) (before : Option Ending) →
    IsShown e s h m before →
    HasEnded e h before s.present (learnt_present r i m.membership.present) → Lesson e s h m r i before false
unchanged e s h m r i None b p =
    record {
      own = b.own;
      rank = b.rank;
      incarnation = b.incarnation;
      serial = b.serial;
      two = b.two;
      held =
          b.held;
      count = b.count;
      present = p;
      told = b.told;
      kept = b.kept;
    }
unchanged e s h m r i (Some x) b p =
    record {
      own = b.own;
      rank = b.rank;
      incarnation = b.incarnation;
      serial = b.serial;
      two = b.two;
      held =
          b.held;
      count = b.count;
      present = p;
      told = b.told;
      kept = b.kept;
    }

pub lessons_follow : LessonsFollow
lessons_follow e s h m (Some x) r i b =
    subst (λ (v : Bool). Lesson e s h m r i (Some x) v) (sym (ap (λ (o : Option Inside). is_ended r i h o) b.present.0))
    (unchanged e s h m r i (Some x) b (b.present.0, ap (λ (p : Option Present). learnt_present r i p) b.present.1))
lessons_follow e s h m None r i b = go s.present refl b.present
  where
    go : (o : Option Inside) → s.present ≡ o → IsPresent e h o m.membership.present →
        Lesson e s h m r i None (is_ended r i h s.present)
    go None at p =
        subst (λ (v : Bool). Lesson e s h m r i None v) (sym (ap (λ (o : Option Inside). is_ended r i h o) at))
        (unchanged e s h m r i None b
        (subst (λ (o : Option Inside). IsPresent e h o (learnt_present r i m.membership.present)) (sym at)
        (ap (λ (p : Option Present). learnt_present r i p) p)))
    go (Some j) at p =
        subst (λ (v : Bool). Lesson e s h m r i None v) (sym ends) (by is_out refl)
      where
        is_out : Bool
        is_out = list_any (is_former r i) (communicator_of e p.comm).members

        inc : j.incarnation ≡ members_incarnation e (number_of p.comm.context)
        inc = p.incarnation ∙ ap (members_incarnation e) p.context

        ends : is_ended r i h s.present ≡ is_out
        ends =
            ap (λ (o : Option Inside). is_ended r i h o) at
            ∙ (ap (λ (c : Option held.Communicator). has_former r i j (ranks_of c)) p.at_place
            ∙ (former_same r i j.incarnation p.comm.group
            ∙ ap (λ (z : ℕ). list_any (is_former r i) (map (member_at z) p.comm.group)) inc))

        learnt : learnt_present r i m.membership.present ≡
            (if is_out then Some (Out (Failed replaced)) else
            Some (Within (communicator_of e p.comm) j.number (part_of j.entry)))
        learnt = ap (λ (q : Option Present). learnt_present r i q) p.is

        by : (v : Bool) → is_out ≡ v → Lesson e s h m r i None v
        by true q =
            record {
              own = b.own;
              rank = b.rank;
              incarnation = b.incarnation;
              serial = b.serial;
              two = b.two;
              held = b.held;
              count = b.count;
              present = (
                refl,
                learnt ∙
                    ap (λ (v : Bool). if v then Some (Out (Failed replaced)) else
                    Some (Within (communicator_of e p.comm) j.number (part_of j.entry))) q,
              );
              told = tt;
              kept = b.kept;
            }
        by false q =
            unchanged e s h m r i None b
            (subst (λ (o : Option Inside). IsPresent e h o (learnt_present r i m.membership.present)) (sym at)
            (record {
              comm = p.comm;
              at_place = p.at_place;
              context = p.context;
              incarnation = p.incarnation;
              own = p.own;
              once = p.once;
              hands = p.hands;
              role = p.role;
              is = learnt ∙
                  ap (λ (v : Bool). if v then Some (Out (Failed replaced)) else
                  Some (Within (communicator_of e p.comm) j.number (part_of j.entry))) q;
            }))
