-- Entering breaks a rule at the rank just where it does so at the member.
use Rattle.std.proofs.Common.{◌≡◌, ℕ, ◌+◌, ◌<◌, ◌≤◌, ◌^◌, Bool, true, false, not, ◌&&◌, ◌||◌, List, length, Option}
use Rattle.std.proofs.Common.{Some, None, option_map, is_some, if◌then◌else◌, ◌==◌, slice_get, nat_le, nat_lt, inl, inr}
use Rattle.std.proofs.Common.{refl, sym, ap, ◌∙◌, subst, arith}
use Rattle.std.specs.Prelude.{is_none}
use Rattle.std.proofs.lemmas.Bool.{cases_lt, eqb-true, le-leb, le-ltb, leb-true, lt-ltb}
use Rattle.std.proofs.lemmas.List.{length-map}
use Rattle.std.proofs.lemmas.Option.{slice_get-map}
use Rattle.collectives.specs.Calls.{entry_fault, limit_on, most_collectives, or_limit}
use Rattle.collective_messages.specs.Entries as entering
use Rattle.collective_messages.specs.Notes.{member_at}
use Rattle.collectives.specs.State.{State, members_incarnation}
use Rattle.collective_messages.specs.Tallies.{count_in}
use Rattle.collective_messages.specs.Verdicts.{is_first}
use Rattle.collective_messages.specs.declared.entry.Entry.{Entry}
use Rattle.collective_messages.specs.declared.entry.Entry.TheVariants as entries
use Rattle.collective_messages.specs.declared.entry.Inside.{Inside}
use Rattle.collective_messages.specs.declared.refusal.CollectiveRefusal.{CollectiveRefusal}
use Rattle.collective_messages.specs.declared.refusal.CollectiveRefusal.TheVariants as refusals
use Rattle.context_agreement.specs.Communicators.{ContextsState}
use Rattle.context_agreement.specs.Numbers.{number_of}
use Rattle.context_agreement.specs.declared.communicator.Communicator as held
use Rattle.perfect_groups.specs.Communicators.{Communicator}
use Rattle.perfect_groups.specs.Faults.{is_within}
use Rattle.perfect_groups.specs.Results.{is_making}
use Rattle.proof_collective_steps.proofs.RolesJoin.{first_same}
use Rattle.proof_collective_steps.specs.Counterparts.{communicator_of, part_of}
use Rattle.proof_collective_steps.specs.MemberViews.{IsPresent, IsShown}
use Rattle.proof_collective_steps.specs.StepLaws.{EntriesAreJudged, HoldsAt, IsJudged}
use Rattle.proof_group_network.specs.Network.{has_serials}
use Rattle.proof_group_network.specs.Notices.{Member}
use Rattle.vocabulary.specs.declared.endpoint.Endpoint.{Endpoint}

making_same : (x : Entry) → is_making (part_of x).record_is.kind ≡ entering.is_making x
making_same entries.Barrier = refl
making_same (entries.Bcast root b) = refl
making_same (entries.Gather root b) = refl
making_same (entries.Scatter r all) = refl
making_same (entries.Reduce o root b) = refl
making_same (entries.Allreduce o b) = refl
making_same entries.Dup = refl
making_same (entries.Split a) = refl

-- too many is not few enough
above_same : (a b : ℕ) → nat_le b a ≡ not (nat_lt a b)
above_same a b =
    elim (cases_lt a b) [
      | inl lt ↦ above lt ∙ sym (ap not (lt-ltb a b lt))
      | inr ge ↦ within ge ∙ sym (ap not (le-ltb a b ge))
    ]
  where
    above : a < b → nat_le b a ≡ false
    above lt = go (nat_le b a) refl
      where
        go : (t : Bool) → nat_le b a ≡ t → t ≡ false
        go false q = refl
        go true q = absurd (let z : b ≤ a = leb-true b a q in omega (arith, z, lt))

    within : b ≤ a → nat_le b a ≡ true
    within ge = le-leb b a ge

serials_same : (e : Endpoint) (h : ContextsState) (m : Member) (x : Entry) (comm : held.Communicator) →
    m.serial ≡ h.next_serial →
    has_serials e m (Some (communicator_of e comm, part_of x))
    ≡ (not (entering.is_making x && is_first e (members_incarnation e (number_of comm.context)) comm.group) ||
    not (nat_lt (2 ^ 32) (h.next_serial + length comm.group)))
serials_same e h m x comm q =
    (λ t. not (making_same x t && first_same e (members_incarnation e (number_of comm.context)) comm.group t)
    || nat_le (q t + length-map comm.group (member_at (members_incarnation e (number_of comm.context))) t) 4294967296)
    ∙ ap (λ (b : Bool). not (entering.is_making x &&
    is_first e (members_incarnation e (number_of comm.context)) comm.group) || b)
    (above_same (2 ^ 32) (h.next_serial + length comm.group))

-- where the rank is in no collective, and holds the communicator
on_held : (e : Endpoint) (h : ContextsState) (m : Member) (place : ℕ) (x : Entry) (holds : HoldsAt m place) (n : ℕ) →
    m.membership.count holds.comm.context ≡ n →
    (over making full first lacking : Bool) → nat_le most_collectives n ≡ over → is_making (part_of x).record_is.kind ≡
    making → (length h.held == 4096) ≡ full →
    has_serials e m (Some (holds.comm, part_of x)) ≡ (not (making && first) || not lacking) →
    IsJudged e h m place x (if over || (making && (full || (first && lacking))) then Some refusals.Limit else None)
on_held e h m place x holds n count true making full first lacking a b c d =
    (holds, inl (subst (λ (k : ℕ). most_collectives ≤ k) (sym count) (leb-true most_collectives n a)))
on_held e h m place x holds n count false false full first lacking a b c d = (holds, d)
on_held e h m place x holds n count false true true first lacking a b c d =
    (holds, inr (b, inl (eqb-true (length h.held) 4096 c)))
on_held e h m place x holds n count false true false false lacking a b c d = (holds, d)
on_held e h m place x holds n count false true false true true a b c d = (holds, inr (b, inr d))
on_held e h m place x holds n count false true false true false a b c d = (holds, d)

-- what entering breaks where the rank is in no collective, by the communicator at the place
abbrev fault_on : State → ContextsState → Option held.Communicator → Entry → Option CollectiveRefusal
fault_on s h o x = or_limit (if is_none o then Some refusals.NoCommunicator else None) (limit_on s h o x)

-- the same, whether or not it is in one
abbrev fault_by : State → ContextsState → (place : ℕ) → Option Inside → Entry → Option CollectiveRefusal
fault_by s h place i x =
    or_limit (if is_some i then Some refusals.Blocked else
    (if is_none (slice_get h.held place) then Some refusals.NoCommunicator else None))
    (limit_on s h (slice_get h.held place) x)

judged : (e : Endpoint) (s : State) (h : ContextsState) (m : Member) → IsShown e s h m None → (place : ℕ) (x : Entry) →
    m.membership.present ≡ None → (o : Option held.Communicator) → slice_get h.held place ≡ o →
    IsJudged e h m place x (fault_on (record s { own = e }) h o x)
judged e s h m b place x out o q =
    go o q (sym (ap (λ (cs : List Communicator). slice_get cs place) (sym b.held)) ∙
    slice_get-map (communicator_of e) h.held place)
  where
    go : (o : Option held.Communicator) → slice_get h.held place ≡ o → slice_get m.membership.held place ≡
        option_map (communicator_of e) (slice_get h.held place) →
        IsJudged e h m place x (fault_on (record s { own = e }) h o x)
    go None q listed =
        (listed ∙ ap (λ (o : Option held.Communicator). option_map (communicator_of e) o) q, ap is_within out)
    go (Some comm) q listed =
        on_held e h m place x
        (record {
          comm = communicator_of e comm;
          at_place =
              listed ∙ ap (λ (o : Option held.Communicator). option_map (communicator_of e) o) q;
          outside =
              ap is_within out;
        })
        (count_in s.tallies (number_of comm.context)) (b.count (number_of comm.context))
        (nat_le most_collectives (count_in s.tallies (number_of comm.context))) (entering.is_making x)
        (length h.held == 4096)
        (is_first e (members_incarnation e (number_of comm.context)) comm.group)
        (nat_lt (2 ^ 32) (h.next_serial + length comm.group))
        refl (making_same x) refl (serials_same e h m x comm b.serial)

pub entries_are_judged : EntriesAreJudged
entries_are_judged e s h m place x b = go s.present refl b.present
  where
    go : (i : Option Inside) → s.present ≡ i → IsPresent e h i m.membership.present →
        IsJudged e h m place x (entry_fault s h place x)
    go (Some i) at p =
        subst (λ (o : Option Inside). IsJudged e h m place x (fault_by s h place o x)) (sym at) (ap is_within p.is)
    go None at p =
        subst (λ (o : Option Inside). IsJudged e h m place x (fault_by s h place o x)) (sym at)
        (subst (λ (o : Endpoint). IsJudged e h m place x (fault_on (record s { own = o }) h (slice_get h.held place) x))
        (sym b.own)
        (judged e s h m b place x p (slice_get h.held place) refl))
