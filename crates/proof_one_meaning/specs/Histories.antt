-- What a visible history says of accounts, and when each of its entries is one that accounts give.
use Rattle.std.specs.Prelude.{◌≡◌, ℕ, ◌<◌, ◌≤◌, List, [], ◌∷◌, Option, Some, None}
use Rattle.perfect_groups.specs.Calls.{Answer, Call, OfCollective, OfFact, OfRequests, Reply}
use Rattle.perfect_groups.specs.Communicators.{first_endpoint}
use Rattle.perfect_groups.specs.Events.{Called, Completed, Entry, Event, Restarted, as_reply}
use Rattle.perfect_groups.specs.Faults.{fault}
use Rattle.perfect_groups.specs.Machine.{machine_opening}
use Rattle.perfect_groups.specs.Runs.{IsRun, after_run, seen}
use Rattle.perfect_queues.specs.Calls.{Accepted, Blocked, Done, Pending, Started}
use Rattle.vocabulary.specs.MessageLimits.{least}
use Rattle.vocabulary.specs.declared.endpoint.Endpoint.{Endpoint}
use Rattle.one_meaning.specs.Accounts.{Accounts, Answered, Waiting, after_call, answer_to, at_once, judged, opened}
use Rattle.one_meaning.specs.Courses.{RecordsAgree}
use Rattle.proof_one_meaning.specs.AccountViews.{IsCovered, with_account}

-- the answer to what rank r waits for, where it waits and that is ready
abbrev pub answer_by : Accounts → (rank : ℕ) → Option Waiting → Option Answered
answer_by all r None = None
answer_by all r (Some w) = answer_to all r (all r) w

abbrev pub answer_at : Accounts → (rank : ℕ) → Option Answered
answer_at all r = answer_by all r (all r).waiting

-- the accounts once rank r was answered so
abbrev pub given_so : Accounts → (rank : ℕ) → Option Answered → Accounts
given_so all r None = all
given_so all r (Some t) = with_account all r t.1

abbrev pub given : Accounts → (rank : ℕ) → Accounts
given all r = given_so all r (answer_at all r)

-- the accounts once rank r has called
abbrev pub has_called : Accounts → (rank : ℕ) → Call → Accounts
has_called all r call = with_account all r (after_call r (all r) call)

-- and once it was replied so: an answer is given, anything else changes no more
abbrev pub has_heard : Accounts → (rank : ℕ) → Reply → Accounts
has_heard all r (OfRequests (Started k)) = all
has_heard all r (OfRequests (Done a)) = given all r
has_heard all r (OfRequests Pending) = all
has_heard all r (OfRequests Accepted) = all
has_heard all r (OfRequests Blocked) = all
has_heard all r (OfCollective o) = given all r
has_heard all r (OfFact f) = all

-- the accounts behind an entry of the history
abbrev pub after_seen : Accounts → Entry → Accounts
after_seen all (Called e call reply) = has_heard (has_called all e.rank call) e.rank reply
after_seen all (Completed e a) = given all e.rank
after_seen all (Restarted r) = all

-- and behind several
abbrev pub after_all : Accounts → List Entry → Accounts
after_all all [] = all
after_all all (v ∷ vs) = after_all (after_seen all v) vs

-- the reply to a call is the one by accounts: it is given at once; or the call blocks; or its answer is ready
pub data IsRepliedSo (all : Accounts) (r : ℕ) (call : Call) (reply : Reply) : Type 0 where
  AtOnce : at_once r (all r) call ≡ Some reply → has_heard (has_called all r call) r reply ≡ has_called all r call →
      IsRepliedSo all r call reply
  Blocks : at_once r (all r) call ≡ None → reply ≡ OfRequests Blocked → IsRepliedSo all r call reply
  IsReady : at_once r (all r) call ≡ None → (t : Answered) → answer_at (has_called all r call) r ≡ Some t →
      reply ≡ as_reply t.0 → IsRepliedSo all r call reply

-- a call that is taken: its caller waits for nothing, and no rule refuses it
pub record IsTakenSo (all : Accounts) (e : Endpoint) (call : Call) (reply : Reply) : Type 0 where
  pub first : e ≡ first_endpoint e.rank
  pub idle : (all e.rank).waiting ≡ None
  pub fit : judged e.rank (all e.rank) call ≡ None
  pub replied : IsRepliedSo all e.rank call reply

-- an answer that comes later is the one by accounts
pub record IsAnsweredBy (all : Accounts) (e : Endpoint) (a : Answer) : Type 0 where
  pub first : e ≡ first_endpoint e.rank
  pub answered : Answered
  pub answer : answer_at all e.rank ≡ Some answered
  pub told : a ≡ answered.0

-- an entry of the history is one that accounts give
abbrev pub Justifies : Accounts → Entry → Type 0
Justifies all (Called e call reply) = IsTakenSo all e call reply
Justifies all (Completed e a) = IsAnsweredBy all e a
Justifies all (Restarted r) = ⊥

abbrev pub AreJustified : Accounts → List Entry → Type 0
AreJustified all [] = Unit {0}
AreJustified all (v ∷ vs) = Justifies all v × AreJustified (after_seen all v) vs

-- no restart, and calls that have one meaning
abbrev pub IsCoveredEntry : Entry → Type 0
IsCoveredEntry (Called e call reply) = IsCovered call
IsCoveredEntry (Completed e a) = Unit {0}
IsCoveredEntry (Restarted r) = ⊥

abbrev pub AreCovered : List Entry → Type 0
AreCovered [] = Unit {0}
AreCovered (v ∷ vs) = IsCoveredEntry v × AreCovered vs

-- the accounts once the call of an entry was made, before it is answered
abbrev pub once_called : Accounts → Entry → Accounts
once_called all (Called e call reply) = has_called all e.rank call
once_called all (Completed e a) = all
once_called all (Restarted r) = all

-- the call of an entry has no fault by accounts
abbrev pub IsFit : Accounts → Entry → Type 0
IsFit all (Called e call reply) = judged e.rank (all e.rank) call ≡ None
IsFit all (Completed e a) = Unit {0}
IsFit all (Restarted r) = Unit {0}

-- no two records of a collective differ once each call was made, where it has no fault, nor behind each entry, where
-- accounts give that
abbrev pub AgreeAlong : Accounts → List Entry → Type 0
AgreeAlong all [] = Unit {0}
AgreeAlong all (v ∷ vs) =
    (IsFit all v → RecordsAgree (once_called all v)) ×
    (Justifies all v → RecordsAgree (after_seen all v) × AgreeAlong (after_seen all v) vs)

-- Whatever run it is: where no rank is started anew, all calls have one meaning, and no two records of a collective
-- differ, each entry of its history is one that accounts give; and in the state that it has come to, each call has the
-- fault that it has by accounts
abbrev pub RunsAreJustified : Type 0
RunsAreJustified =
    (n : ℕ) (events : List Event) → n ≤ 65536 → 0 < n → IsRun n (machine_opening n least) events →
    AreCovered (seen (machine_opening n least) events) → RecordsAgree (opened n) →
    AgreeAlong (opened n) (seen (machine_opening n least) events) →
    AreJustified (opened n) (seen (machine_opening n least) events)
    × ((r : ℕ) (call : Call) →
    fault (first_endpoint r) ((after_run (machine_opening n least) events).queues.at (first_endpoint r))
    ((after_run (machine_opening n least) events).groups.of (first_endpoint r)) call
    ≡ judged r (after_all (opened n) (seen (machine_opening n least) events) r) call)
