-- Leaving a collective, and telling the others.
use Rattle.std.proofs.Common.{◌≡◌, ℕ, ◌+◌, ◌≤◌, Bool, List, [], ◌∷◌, ◌++◌, length, map, Option, Some, None, option_map}
use Rattle.std.proofs.Common.{refl, sym, ap, ◌∙◌, subst, arith}
use Rattle.std.proofs.lemmas.List.{length-map, map-append}
use Rattle.collective_messages.specs.Roles.{RoleState}
use Rattle.collectives.specs.State.{State, after_step, kept_after, left}
use Rattle.collective_steps.specs.Steps.{Prepared, contexts_after, ending_of, outcome_of}
use Rattle.collective_messages.specs.declared.entry.Entry.{Entry}
use Rattle.collective_messages.specs.declared.entry.Inside.{Inside}
use Rattle.datatypes.specs.Contents.{Contents}
use Rattle.collective_steps.specs.declared.step.Ending as ended
use Rattle.collective_steps.specs.declared.step.Ending.TheVariants as endings
use Rattle.collective_steps.specs.declared.step.StepOutcome.TheVariants as outcomes
use Rattle.context_agreement.specs.Communicators.{ContextsState}
use Rattle.context_agreement.specs.declared.communicator.Communicator as held
use Rattle.perfect_groups.specs.Communicators.{Communicator}
use Rattle.perfect_groups.specs.Membership.{Comm, Left, Membership, Out, got}
use Rattle.proof_collective_steps.proofs.KeptNotes.{without_same}
use Rattle.proof_collective_steps.specs.Counterparts.{AreNoted, AreSaid, communicator_of}
use Rattle.proof_collective_steps.specs.MemberViews.{IsShown}
use Rattle.observation.specs.Endings.{ending_is}
use Rattle.proof_group_network.specs.Notices as network
use Rattle.proof_group_network.specs.Notices.{Member, MemberEffect, Notice, notice}
use Rattle.vocabulary.specs.declared.endpoint.Endpoint.{Endpoint}

-- LEAVING

-- what a step leaves and tells is what the member's effect does
abbrev pub Follows : Endpoint → State → ContextsState → Prepared → MemberEffect → Type 0
Follows e s h step eff =
    IsShown e (after_step s step.outcome) (contexts_after h step.drawn step.outcome) eff.member
    (ending_of h step.outcome)
    × AreSaid e step.messages eff.out

pub leaving : (e : Endpoint) (s : State) (h : ContextsState) (m : Member) → IsShown e s h m None →
    (i : Inside) → s.present ≡ Some i →
    (k : ContextsState) (n : ℕ) (mm : Membership) (x : ended.Ending) → k.rank ≡ e.rank → k.incarnation ≡ e.incarnation →
    n ≡ k.next_serial → 2 ≤ k.next_serial →
    mm.held ≡ map (communicator_of e) k.held → ((c : ℕ) → mm.count c ≡ m.membership.count c) →
    mm.present ≡ Some (Out (ending_is x)) →
    IsShown e (left s) k (record {
      membership = mm;
      serial = n;
      kept = network.without i.context i.number m.kept;
      told =
          m.told;
    }) (Some x)
leaving e s h m b i at k n mm x rank inc serial two all count present =
    record {
      own = b.own;
      rank = rank;
      incarnation = inc;
      serial = serial;
      two = two;
      held = all;
      count = λ c. count c ∙ b.count c;
      present = (refl, present);
      told = tt;
      kept = subst (λ (p : Option Inside). AreNoted e (kept_after p s.kept) (network.without i.context i.number m.kept))
          (sym at) (without_same e i.context i.number s.kept m.kept b.kept);
    }

-- with a communicator or with MPI_COMM_NULL
pub gets : (e : Endpoint) (s : State) (h : ContextsState) (m : Member) → IsShown e s h m None →
    (i : Inside) → s.present ≡ Some i →
    (o : Option held.Communicator) (drawn n : ℕ) → n ≡ h.next_serial + drawn →
    IsShown e (after_step s (outcome_of o)) (contexts_after h drawn (outcome_of o))
    (record {
      membership = got m.membership (option_map (communicator_of e) o);
      serial = n;
      kept =
          network.without i.context i.number m.kept;
      told = m.told;
    }) (ending_of h (outcome_of o))
gets e s h m b i at None drawn n q =
    leaving e s h m b i at (record h { next_serial = h.next_serial + drawn }) n (got m.membership None)
    (endings.Comm None) b.rank b.incarnation q (omega (arith, b.two)) b.held (λ c. refl) refl
gets e s h m b i at (Some c) drawn n q =
    leaving e s h m b i at (record h { next_serial = h.next_serial + drawn; held = h.held ++ c ∷ [] }) n
    (got m.membership (Some (communicator_of e c))) (endings.Comm (Some (length h.held)))
    b.rank b.incarnation q (omega (arith, b.two))
    (ap (λ (xs : List Communicator). xs ++ communicator_of e c ∷ []) b.held ∙
    sym (map-append (communicator_of e) h.held (c ∷ [])))
    (λ c. refl)
    (ap (λ (l : ℕ). Some (Out (Comm (Some l)))) (ap (λ (xs : List Communicator). length xs) b.held ∙
    length-map h.held (communicator_of e)))

-- LEAVING WITH ELEMENTS

-- a rank leaves with these elements or none
pub leaves : (e : Endpoint) (s : State) (h : ContextsState) (m : Member) → IsShown e s h m None →
    (i : Inside) → s.present ≡ Some i → (o v : Option Contents) → v ≡ o → (n : ℕ) → n ≡ m.serial →
    IsShown e (after_step s (outcomes.Leaves o)) (contexts_after h 0 (outcomes.Leaves o))
    (record {
      membership = record m.membership { present = Some (Out (Left v)) };
      serial = n;
      kept =
          network.without i.context i.number m.kept;
      told = m.told;
    }) (ending_of h (outcomes.Leaves o))
leaves e s h m b i at o v is n same =
    leaving e s h m b i at (record h { next_serial = h.next_serial + 0 }) n
    (record m.membership { present = Some (Out (Left v)) }) (endings.Left o) b.rank b.incarnation
    (let z : h.next_serial ≡ h.next_serial + 0 = omega arith in same ∙ (b.serial ∙ z)) (omega (arith, b.two)) b.held
    (λ c. refl) (ap (λ (x : Option Contents). Some (Out (Left x))) is)

abbrev pub inside : (place context incarnation number : ℕ) → Entry → RoleState → Bool → Inside
inside place c inc k y role told =
    record { place = place; context = c; incarnation = inc; number = k; entry = y; role = role; told = told }

-- what the rank is left with that leaves with this
abbrev pub left_with : Member → (c k : ℕ) → Option Contents → Member
left_with m c k v =
    record {
      membership = record m.membership { present = Some (Out (Left v)) };
      serial = m.serial + 0;
      kept =
          network.without c k m.kept;
      told = m.told;
    }

-- a step that leaves so
pub leaves_so : (e : Endpoint) (s : State) (h : ContextsState) (m : Member) → IsShown e s h m None →
    (i : Inside) → s.present ≡ Some i → (o v : Option Contents) → v ≡ o →
    IsShown e (after_step s (outcomes.Leaves o)) (contexts_after h 0 (outcomes.Leaves o))
    (left_with m i.context i.number v) (ending_of h (outcomes.Leaves o))
leaves_so e s h m b i at o v is = leaves e s h m b i at o v is (m.serial + 0) (omega arith)
