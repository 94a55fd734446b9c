-- The first rule that a call on communicators breaks.
use Rattle.std.proofs.Common.{◌≡◌, ℕ, ◌*◌, Bool, true, false, not, ◌&&◌, ◌||◌, ◌==◌, cond, if◌then◌else◌, refl, sym, ap}
use Rattle.std.proofs.Common.{subst, ◌∙◌, is_some, List, length, slice_get, Option, Some, None, option_map, nat_le}
use Rattle.std.proofs.Common.{nat_lt}
use Rattle.std.specs.Prelude.{is_none}
use Rattle.std.specs.Option.{option_or}
use Rattle.std.proofs.lemmas.List.{length-map}
use Rattle.collective_progress.specs.Rules.{number_of_rule, rule_broken}
use Rattle.collective_progress.specs.declared.rules.Rule.TheVariants as rules
use Rattle.collective_messages.specs.Entries.{record_of}
use Rattle.collective_messages.specs.Notes.{member_at}
use Rattle.collective_messages.specs.Ways.{root_of}
use Rattle.collective_messages.specs.declared.entry.Entry.{Entry}
use Rattle.collective_messages.specs.declared.entry.Entry.TheVariants as entries
use Rattle.collective_messages.specs.declared.refusal.CollectiveRefusal.TheVariants as refusals
use Rattle.collectives.specs.State.{State, members_incarnation}
use Rattle.communicators.proofs.PlaceLaws.{held_same, lacks_same, within_same}
use Rattle.communicators.proofs.RouteLaws.{group_same}
use Rattle.context_agreement.specs.Communicators.{ContextsState}
use Rattle.context_agreement.specs.Numbers.{number_of}
use Rattle.context_agreement.specs.declared.communicator.Communicator as held
use Rattle.communicators.specs.Members.{call_of, communicator_of, held_in, membership_of}
use Rattle.communicators.specs.Questions.{question_of}
use Rattle.communicators.specs.Rules.{Allows, EntriesAreAllowed, limit_in, no_requests, or_limited, rule_in}
use Rattle.communicators.specs.declared.question.Question.{Question}
use Rattle.communicators.specs.declared.question.Question.TheVariants as questions
use Rattle.layouts.specs.Buffers.{is_same_type}
use Rattle.perfect_groups.specs.Calls.{Enter, Inquire, held_at}
use Rattle.perfect_groups.specs.Collectives.{CollectiveCall, Scatter, part_of}
use Rattle.perfect_groups.specs.Communicators.{Communicator, group_of}
use Rattle.perfect_groups.specs.Faults.{asks_of_none, block_limit, fault_by, has_replaced, is_beyond, is_other_type}
use Rattle.perfect_groups.specs.Faults.{is_rooted, is_within, is_wrong_total, wrong_block, wrong_data}
use Rattle.perfect_groups.specs.Membership.{Membership}
use Rattle.perfect_groups.specs.Operations.{bytes_of, is_undefined}
use Rattle.perfect_queues.specs.Groups.{rank_in}
use Rattle.reductions.specs.Operations.{is_defined}
use Rattle.vocabulary.specs.BasicTypes.{size_of}
use Rattle.vocabulary.specs.MessageLimits.{limit_of}
use Rattle.vocabulary.specs.declared.endpoint.Endpoint.{Endpoint}
use Rattle.vocabulary.specs.declared.message_limit.MessageLimit.{MessageLimit}

-- ---- what is handed in

-- the first of the numbers of rules that are broken
in_order : (a b r u : Bool) (w : Option ℕ)
    → (if a then Some 2 else (if b then Some 1 else (if r then Some 7 else (if u then Some 9 else w))))
    ≡ option_or (option_map number_of_rule
    (if a then Some rules.WrongType else
    (if b then Some rules.WrongCount else
    (if r then Some rules.NoRoot else (if u then Some rules.NotDefined else None))))) w
in_order true b r u w = refl
in_order false true r u w = refl
in_order false false true u w = refl
in_order false false false true w = refl
in_order false false false false w = refl

-- whether a scatter's root hands in elements of another type than its blocks
abbrev data_at : (is_root : Bool) → CollectiveCall → Bool
data_at t (Scatter root scattered basic count) = t && is_other_type scattered basic
data_at t _ = false

-- the machine's rules on what is entered, by whether the caller is the root, and how many members there are
abbrev rules_at : (limit : MessageLimit) → (is_root : Bool) → (size : ℕ) → CollectiveCall → Option ℕ → Option ℕ
rules_at limit t n p w =
    if data_at t p then Some 2 else
    (if nat_lt (block_limit limit) ((part_of p).record_is.count * bytes_of (part_of p).record_is.basic)
    || is_wrong_total (part_of p).record_is.kind t n (part_of p).record_is.count (length (part_of p).values) then
    Some 1 else
    (if is_rooted (part_of p).record_is.kind && nat_le n (part_of p).record_is.root then Some 7 else
    (if is_undefined (part_of p).record_is.operation (part_of p).record_is.basic then Some 9 else w)))

-- they are those of the program
rules_same : (limit : MessageLimit) (t : Bool) (n : ℕ) (w : Option ℕ) (x : Entry) →
    rules_at limit t n (call_of x) w ≡ option_or (option_map number_of_rule (rule_broken (limit_of limit) t n x)) w
rules_same limit true n w entries.Barrier = in_order false (nat_lt (block_limit limit) 0 || false) false false w
rules_same limit false n w entries.Barrier = in_order false (nat_lt (block_limit limit) 0 || false) false false w
rules_same limit true n w (entries.Bcast root b) =
    in_order false (nat_lt (block_limit limit) (length b.values * size_of b.basic) || false) (nat_le n root) false w
rules_same limit false n w (entries.Bcast root b) =
    in_order false (nat_lt (block_limit limit) (length b.values * size_of b.basic) || false) (nat_le n root) false w
rules_same limit true n w (entries.Gather root b) =
    in_order false (nat_lt (block_limit limit) (length b.values * size_of b.basic) || false) (nat_le n root) false w
rules_same limit false n w (entries.Gather root b) =
    in_order false (nat_lt (block_limit limit) (length b.values * size_of b.basic) || false) (nat_le n root) false w
rules_same limit true n w (entries.Scatter r None) =
    in_order false (nat_lt (block_limit limit) (r.elements.count * size_of r.elements.basic) || not (0 == n * r.elements.count))
    (nat_le n r.root) false w
rules_same limit false n w (entries.Scatter r None) =
    in_order false (nat_lt (block_limit limit) (r.elements.count * size_of r.elements.basic) || false) (nat_le n r.root) false w
rules_same limit true n w (entries.Scatter r (Some all)) =
    in_order (not (is_same_type all.basic r.elements.basic))
    (nat_lt (block_limit limit) (r.elements.count * size_of r.elements.basic) ||
    not (length all.values == n * r.elements.count)) (nat_le n r.root) false w
rules_same limit false n w (entries.Scatter r (Some all)) =
    in_order false (nat_lt (block_limit limit) (r.elements.count * size_of r.elements.basic) || false) (nat_le n r.root) false w
rules_same limit true n w (entries.Reduce o root b) =
    in_order false (nat_lt (block_limit limit) (length b.values * size_of b.basic) || false) (nat_le n root)
    (not (is_defined o b.basic)) w
rules_same limit false n w (entries.Reduce o root b) =
    in_order false (nat_lt (block_limit limit) (length b.values * size_of b.basic) || false) (nat_le n root)
    (not (is_defined o b.basic)) w
rules_same limit true n w (entries.Allreduce o b) =
    in_order false (nat_lt (block_limit limit) (length b.values * size_of b.basic) || false) false
    (not (is_defined o b.basic)) w
rules_same limit false n w (entries.Allreduce o b) =
    in_order false (nat_lt (block_limit limit) (length b.values * size_of b.basic) || false) false
    (not (is_defined o b.basic)) w
rules_same limit true n w entries.Dup = in_order false (nat_lt (block_limit limit) 0 || false) false false w
rules_same limit false n w entries.Dup = in_order false (nat_lt (block_limit limit) 0 || false) false false w
rules_same limit true n w (entries.Split choice) = in_order false (nat_lt (block_limit limit) 0 || false) false false w
rules_same limit false n w (entries.Split choice) = in_order false (nat_lt (block_limit limit) 0 || false) false false w

-- the root of a call is that of its record
root_same : (x : Entry) → (part_of (call_of x)).record_is.root ≡ root_of (record_of x)
root_same entries.Barrier = refl
root_same (entries.Bcast root b) = refl
root_same (entries.Gather root b) = refl
root_same (entries.Scatter r all) = refl
root_same (entries.Reduce o root b) = refl
root_same (entries.Allreduce o b) = refl
root_same entries.Dup = refl
root_same (entries.Split choice) = refl

-- the machine's faults of an entry, by the communicator that the call names
abbrev entering_fault : (limit : MessageLimit) (e : Endpoint) → (known : ℕ → ℕ) → Option Communicator → CollectiveCall → Option ℕ
entering_fault limit e known o p =
    if is_none o then Some 4 else
    (if wrong_data o e p then Some 2 else
    (if wrong_block limit o e (part_of p) then Some 1 else
    (if is_rooted (part_of p).record_is.kind && is_beyond o (part_of p).record_is.root then Some 7 else
    (if is_undefined (part_of p).record_is.operation (part_of p).record_is.basic then Some 9 else
    (if has_replaced known o then Some 11 else None)))))

-- by whether the caller is the root, and how many members it has
by_root : (limit : MessageLimit) (e : Endpoint) (known : ℕ → ℕ) (c : Communicator) (x : Entry)
    → entering_fault limit e known (Some c) (call_of x)
    ≡ rules_at limit (rank_in (group_of c) e.rank == (part_of (call_of x)).record_is.root) (length c.members) (call_of x)
    (if has_replaced known (Some c) then Some 11 else None)
by_root limit e known c entries.Barrier = refl
by_root limit e known c (entries.Bcast root b) = refl
by_root limit e known c (entries.Gather root b) = refl
by_root limit e known c (entries.Scatter r all) = refl
by_root limit e known c (entries.Reduce o root b) = refl
by_root limit e known c (entries.Allreduce o b) = refl
by_root limit e known c entries.Dup = refl
by_root limit e known c (entries.Split choice) = refl

-- the rules on an entry of a communicator that is held, where one is
held_judged : (limit : MessageLimit) (e : Endpoint) (known : ℕ → ℕ) (o : Option held.Communicator) (x : Entry)
    → entering_fault limit e known (option_map (communicator_of e) o) (call_of x)
    ≡ cond (is_none (option_map (communicator_of e) o)) (Some 4)
    (option_or (option_map number_of_rule (rule_in (limit_of limit) e o x))
    (cond (has_replaced known (option_map (communicator_of e) o)) (Some 11) None))
held_judged limit e known None x = refl
held_judged limit e known (Some c) x =
    let C = communicator_of e c in
    let w : Option ℕ = if has_replaced known (Some C) then Some 11 else None in
    by_root limit e known C x
    ∙ (ap (λ (g : List ℕ). rules_at limit (rank_in g e.rank == (part_of (call_of x)).record_is.root) (length C.members)
    (call_of x) w) (group_same e c)
    ∙ (ap (λ root. rules_at limit (rank_in c.group e.rank == root) (length C.members) (call_of x) w) (root_same x)
    ∙ (ap (λ n. rules_at limit (rank_in c.group e.rank == root_of (record_of x)) n (call_of x) w)
    (length-map c.group (member_at (members_incarnation e (number_of c.context))))
    ∙ rules_same limit (rank_in c.group e.rank == root_of (record_of x)) (length c.group) w x)))

-- an entry breaks 6, 4, a rule on what is handed in, or 11
pub entry_judged : (limit : MessageLimit) (b : Bool) (s : State) (h : ContextsState) (known : ℕ → ℕ) (comm : Option ℕ) (x : Entry) →
    fault_by limit b no_requests s.own known (membership_of s h) (Enter comm (call_of x))
    ≡ cond b (Some 6) (cond (is_none (held_at (membership_of s h) comm)) (Some 4)
    (option_or (option_map number_of_rule (rule_in (limit_of limit) s.own (held_in h comm) x))
    (cond (has_replaced known (held_at (membership_of s h) comm)) (Some 11) None)))
entry_judged limit true s h known comm x = refl
entry_judged limit false s h known comm x =
    subst (λ (o : Option Communicator). entering_fault limit s.own known o (call_of x)
    ≡ cond (is_none o) (Some 4)
    (option_or (option_map number_of_rule (rule_in (limit_of limit) s.own (held_in h comm) x))
    (cond (has_replaced known o) (Some 11) None)))
    (sym (held_same s h comm)) (held_judged limit s.own known (held_in h comm) x)

-- a question breaks 6 or 4
pub question_judged : (limit : MessageLimit) (b : Bool) (e : Endpoint) (known : ℕ → ℕ) (m : Membership) (comm : Option ℕ) (q : Question) →
    fault_by limit b no_requests e known m (Inquire comm (question_of q))
    ≡ cond b (Some 6) (cond (is_none (held_at m comm) || asks_of_none m (question_of q)) (Some 4) None)
question_judged limit true e known m comm q = refl
question_judged limit false e known m comm questions.Rank = refl
question_judged limit false e known m comm questions.Size = refl
question_judged limit false e known m comm questions.Group = refl
question_judged limit false e known m comm (questions.Compare other) = refl

-- ---- what follows where there is no fault

chain : (b n : Bool) (o : Option ℕ) (r l : Bool) →
    or_limited (cond b (Some 6) (cond n (Some 4) (option_or o (cond r (Some 11) None)))) l ≡ None
    → (b ≡ false) × (n ≡ false) × (l ≡ false)
chain true n o r l q = absurd cc
chain false true o r l q = absurd cc
chain false false (Some k) r l q = absurd cc
chain false false None true l q = absurd cc
chain false false None false true q = absurd cc
chain false false None false false q = (refl, refl, refl)

none_of_two : (a c : Bool) → (a || c) ≡ false → c ≡ false
none_of_two true c q = absurd cc
none_of_two false c q = q

pub entries_allowed : EntriesAreAllowed
entries_allowed limit s h b known comm x q = go comm
    (chain (b || is_within (membership_of s h).present) (is_none (held_at (membership_of s h) comm))
    (option_map number_of_rule (rule_in (limit_of limit) s.own (held_in h comm) x))
    (has_replaced known (held_at (membership_of s h) comm))
    (limit_in s h comm x)
    (ap (λ (o : Option ℕ). or_limited o (limit_in s h comm x))
    (sym (entry_judged limit (b || is_within (membership_of s h).present) s h known comm x)) ∙ q))
  where
    go : (o : Option ℕ) → ((b || is_within (membership_of s h).present) ≡ false) ×
        (is_none (held_at (membership_of s h) o) ≡ false) × (limit_in s h o x ≡ false)
        → Allows s h o x
    go None z = absurd (let lacking : true ≡ false = z.1 in cc)
    go (Some place) z =
        let outside : is_some s.present ≡ false = sym (within_same s h) ∙ none_of_two b (is_within (membership_of s h).present) z.0 in
        let there : is_none (slice_get h.held place) ≡ false = sym (lacks_same s h (Some place)) ∙ z.1 in (
          ap (λ (t : Bool). if t then Some refusals.Blocked else
              (if is_none (slice_get h.held place) then Some refusals.NoCommunicator else None)) outside
              ∙ ap (λ (t : Bool). if t then Some refusals.NoCommunicator else None) there,
          z.2,
        )
