-- The first rule or limit that entering a collective, or a question, meets.
use Rattle.std.proofs.Common.{◌≡◌, ℕ, ◌==◌, ◌||◌, Bool, true, false, cond, if◌then◌else◌, is_some, List, Option, Some}
use Rattle.std.proofs.Common.{None, refl, sym, ap, subst, ◌∙◌}
use Rattle.std.specs.Prelude.{is_none, option_map}
use Rattle.std.specs.Option.{option_or}
use Rattle.collective_progress.specs.Rules.{number_of_rule}
use Rattle.collective_progress.specs.declared.rules.Rule.{Rule}
use Rattle.collective_progress.specs.declared.rules.Rule.TheVariants as rules
use Rattle.collective_messages.specs.declared.entry.Entry.{Entry}
use Rattle.communicators.proofs.RuleLaws.{entry_judged, question_judged}
use Rattle.communicators.specs.Members.{call_of, held_in}
use Rattle.communicators.specs.Questions.{question_of}
use Rattle.communicators.specs.Rules.{Allows, EntriesAreAllowed, known_by, limit_in, no_requests, number_of_fault}
use Rattle.communicators.specs.Rules.{or_limited, rule_in}
use Rattle.communicators.specs.declared.fault.CommunicatorFault.{CommunicatorFault}
use Rattle.communicators.specs.declared.fault.CommunicatorFault.TheVariants as faults
use Rattle.communicators.specs.declared.question.Question.{Question}
use Rattle.incarnation.specs.declared.place.Place.{Place}
use Rattle.perfect_groups.specs.Calls.{Enter, Inquire, held_at}
use Rattle.perfect_groups.specs.Faults.{asks_of_none, fault_by, has_replaced, is_within}
use Rattle.perfect_groups.specs.Membership.{Membership}
use Rattle.point_to_point_calls.specs.declared.refusal.Refusal.{Refusal}
use Rattle.point_to_point_calls.specs.declared.refusal.Refusal.TheVariants as refusals
use Rattle.engine_calls.specs.EngineState.{EngineState, member_of}
use Rattle.engine_calls.specs.Faults.{broken, fault_of, is_busy}
use Rattle.engine_calls.specs.Refusals.{first_fault, of_entry_rule, of_rule}
use Rattle.engine_calls.specs.declared.call.Call.TheVariants as calls
use Rattle.vocabulary.specs.MessageLimits.{least, limit_of}
use Rattle.vocabulary.specs.declared.message_limit.MessageLimit.{MessageLimit}

-- the refusal with a number
abbrev refusal_of : ℕ → Refusal
refusal_of n =
    if n == 6 then refusals.Request else
    (if n == 4 then refusals.Communicator else
    (if n == 2 then refusals.WrongType else
    (if n == 1 then refusals.Count else
    (if n == 7 then refusals.Root else
    (if n == 9 then refusals.Operation else
    (if n == 11 then refusals.Replaced else refusals.Limit))))))

by_number : (o : Option CommunicatorFault) → option_map of_rule o ≡ option_map refusal_of (option_map number_of_fault o)
by_number None = refl
by_number (Some faults.Blocked) = refl
by_number (Some faults.NoCommunicator) = refl
by_number (Some (faults.Entry rules.WrongType)) = refl
by_number (Some (faults.Entry rules.WrongCount)) = refl
by_number (Some (faults.Entry rules.NoRoot)) = refl
by_number (Some (faults.Entry rules.NotDefined)) = refl
by_number (Some faults.Replaced) = refl
by_number (Some faults.Limit) = refl

-- ---- entering

-- the number of the first rule that an entry breaks: 6, 4, one on what is handed in, 11
abbrev number_by : (b n : Bool) → Option Rule → (r : Bool) → Option ℕ
number_by b n o r = cond b (Some 6) (cond n (Some 4) (option_or (option_map number_of_rule o) (cond r (Some 11) None)))

-- and as the engine answers it, where a limit comes last
abbrev fault_in : (b n : Bool) → Option Rule → (r l : Bool) → Option Refusal
fault_in b n o r l =
    first_fault (broken b refusals.Request)
    (first_fault (broken n refusals.Communicator)
    (first_fault (option_map of_entry_rule o) (first_fault (broken r refusals.Replaced) (broken l refusals.Limit))))

in_order : (b n : Bool) (o : Option Rule) (r l : Bool) → option_map refusal_of (or_limited (number_by b n o r) l) ≡
    fault_in b n o r l
in_order true n o r l = refl
in_order false true o r l = refl
in_order false false (Some rules.WrongType) r l = refl
in_order false false (Some rules.WrongCount) r l = refl
in_order false false (Some rules.NoRoot) r l = refl
in_order false false (Some rules.NotDefined) r l = refl
in_order false false None true l = refl
in_order false false None false true = refl
in_order false false None false false = refl

pub entry_ruled : (e : EngineState) (b : Bool) (known : List ℕ) (place : Place) (comm : Option ℕ) (x : Entry)
    (o : Option CommunicatorFault) → b ≡ is_some e.core.blocked →
    known ≡ e.sessions.known → place ≡ e.sessions.place →
    option_map number_of_fault o
    ≡ or_limited
    (fault_by place.message_limit (b || is_within (member_of e.groups).present) no_requests
    e.groups.collective.own (known_by known)
    (member_of e.groups) (Enter comm (call_of x)))
    (limit_in e.groups.collective e.groups.contexts comm x) →
    option_map of_rule o ≡ fault_of e (calls.Enter comm x)
entry_ruled e b known place comm x o blocked knows placed is =
    let m : Membership = member_of e.groups in
    let limit : Bool = limit_in e.groups.collective e.groups.contexts comm x in
    let most : MessageLimit = e.sessions.place.message_limit in
    by_number o ∙ ap (option_map refusal_of) is
    ∙ ap (λ (p : Place). option_map refusal_of
    (or_limited (fault_by p.message_limit (b || is_within m.present) no_requests e.groups.collective.own
    (known_by known) m (Enter comm (call_of x))) limit)) placed
    ∙ ap (λ (t : Bool). option_map refusal_of
    (or_limited (fault_by most (t || is_within m.present) no_requests e.groups.collective.own (known_by known) m
    (Enter comm (call_of x))) limit)) blocked
    ∙ ap (λ (k : List ℕ). option_map refusal_of
    (or_limited (fault_by most (is_busy e) no_requests e.groups.collective.own (known_by k) m (Enter comm (call_of x)))
    limit)) knows
    ∙ ap (λ (f : Option ℕ). option_map refusal_of (or_limited f limit))
    (entry_judged most (is_busy e) e.groups.collective e.groups.contexts (known_by e.sessions.known) comm x)
    ∙ in_order (is_busy e) (is_none (held_at m comm))
    (rule_in (limit_of most) e.groups.collective.own (held_in e.groups.contexts comm) x)
    (has_replaced (known_by e.sessions.known) (held_at m comm)) limit

none_of : (b n : Bool) (o : Option Rule) (r l : Bool) → fault_in b n o r l ≡ None → or_limited (number_by b n o r) l ≡
    None
none_of true n o r l is = absurd cc
none_of false true o r l is = absurd cc
none_of false false (Some rule) r l is = absurd cc
none_of false false None true l is = absurd cc
none_of false false None false true is = absurd cc
none_of false false None false false is = refl

-- where none is met, it can be made ready
pub entry_allowed : EntriesAreAllowed → (e now : EngineState) (comm : Option ℕ) (x : Entry) → e ≡ now →
    fault_of now (calls.Enter comm x) ≡ None → Allows e.groups.collective e.groups.contexts comm x
entry_allowed allowed e now comm x same met =
    let free : fault_of e (calls.Enter comm x) ≡ None = subst (λ (s : EngineState). fault_of s (calls.Enter comm x) ≡ None) (sym same) met in
    let m : Membership = member_of e.groups in
    let limit : Bool = limit_in e.groups.collective e.groups.contexts comm x in
    let most : MessageLimit = e.sessions.place.message_limit in
    allowed most e.groups.collective e.groups.contexts (is_some e.core.blocked) (known_by e.sessions.known) comm x
    (ap (λ (f : Option ℕ). or_limited f limit)
    (entry_judged most (is_busy e) e.groups.collective e.groups.contexts (known_by e.sessions.known) comm x)
    ∙ none_of (is_busy e) (is_none (held_at m comm))
    (rule_in (limit_of most) e.groups.collective.own (held_in e.groups.contexts comm) x)
    (has_replaced (known_by e.sessions.known) (held_at m comm)) limit free)

-- at its place
pub allowed_at : EntriesAreAllowed → (e now : EngineState) (comm : Option ℕ) (place : ℕ) (x : Entry) → e ≡ now →
    comm ≡ Some place →
    fault_of now (calls.Enter comm x) ≡ None → Allows e.groups.collective e.groups.contexts (Some place) x
allowed_at allowed e now comm place x same named met =
    subst (λ (o : Option ℕ). Allows e.groups.collective e.groups.contexts o x) named
    (entry_allowed allowed e now comm x same met)

-- ---- questions

in_turn : (b n : Bool) → option_map refusal_of (cond b (Some 6) (cond n (Some 4) None)) ≡
    first_fault (broken b refusals.Request) (broken n refusals.Communicator)
in_turn true n = refl
in_turn false true = refl
in_turn false false = refl

pub question_ruled : (e : EngineState) (b : Bool) (comm : Option ℕ) (q : Question) (o : Option CommunicatorFault) →
    b ≡ is_some e.core.blocked →
    ((limit : MessageLimit) (known : ℕ → ℕ) → option_map number_of_fault o
    ≡ fault_by limit (b || is_within (member_of e.groups).present) no_requests e.groups.collective.own known
    (member_of e.groups) (Inquire comm (question_of q))) →
    option_map of_rule o ≡ fault_of e (calls.Ask comm q)
question_ruled e b comm q o blocked is =
    let m : Membership = member_of e.groups in
    let nobody : ℕ → ℕ = λ r. 0 in
    by_number o ∙ ap (option_map refusal_of) (is least nobody)
    ∙ ap (λ (t : Bool). option_map refusal_of
    (fault_by least (t || is_within m.present) no_requests e.groups.collective.own nobody m
    (Inquire comm (question_of q)))) blocked
    ∙ ap (option_map refusal_of) (question_judged least (is_busy e) e.groups.collective.own nobody m comm q)
    ∙ in_turn (is_busy e) (is_none (held_at m comm) || asks_of_none m (question_of q))

held_by : (b n : Bool) → first_fault (broken b refusals.Request) (broken n refusals.Communicator) ≡ None → n ≡ false
held_by true n is = absurd cc
held_by false true is = absurd cc
held_by false false is = refl

none_of_either : (n a : Bool) → (n || a) ≡ false → n ≡ false
none_of_either true a is = is
none_of_either false a is = refl

-- where none is met, the rank holds the communicator
pub is_held : (e : EngineState) (comm : Option ℕ) (q : Question) → fault_of e (calls.Ask comm q) ≡ None →
    is_none (held_at (member_of e.groups) comm) ≡ false
is_held e comm q free =
    let m : Membership = member_of e.groups in
    none_of_either (is_none (held_at m comm)) (asks_of_none m (question_of q))
    (held_by (is_busy e) (is_none (held_at m comm) || asks_of_none m (question_of q)) free)
