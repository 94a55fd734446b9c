-- Plays: processes over whatever has the machine's histories. It is no matter what goes on between their calls.
use Rattle.std.specs.Prelude.{◌≡◌, ℕ, ◌<◌, ◌≤◌, Bool, true, false, List, [], ◌∷◌, ◌++◌, Option, Some, None}
use Rattle.std.specs.Prelude.{if◌then◌else◌, ◌==◌, nat_le}
use Rattle.std.specs.List.{AllByRecursion}
use Rattle.vocabulary.specs.MessageLimits.{least}
use Rattle.perfect_groups.specs.Calls.{Answer, Call, OfCollective, OfFact, OfRequests, Reply}
use Rattle.perfect_groups.specs.Communicators.{first_endpoint}
use Rattle.perfect_groups.specs.Events.{Called, Completed, Entry, Event, Restarted, as_reply}
use Rattle.perfect_groups.specs.Faults.{fault}
use Rattle.perfect_groups.specs.Machine.{machine_opening}
use Rattle.perfect_groups.specs.Runs.{IsHistory, IsRun, after_run, seen}
use Rattle.perfect_queues.specs.Calls.{Accepted, Blocked, Done, Pending, Started}
use Rattle.one_meaning.specs.CourseLaws.{Telling, by_telling}
use Rattle.one_meaning.specs.Courses.{AreMeant, Calls, Course, Courses, Ends, Prints, Process, RecordsAgree, Refused}
use Rattle.one_meaning.specs.Courses.{Replied, Step, Told, accounts}
use Rattle.proof_one_meaning.specs.AccountViews.{IsCovered}

-- A rank that plays: its process, what that is to be told, whether its call is blocked, the lines so far, and whether
-- it has ended
pub record Player (P : Type 0) : Type 0 where
  pub process : P
  pub told : Option Told
  pub blocked : Bool
  pub lines : List (List ℕ)
  pub ended : Bool

abbrev pub Players : Type 0 → Type 0
Players P = (rank : ℕ) → Player P

abbrev pub with_player : {P : Type 0} → Players P → (rank : ℕ) → Player P → Players P
with_player all r c x = if x == r then c else all x

-- n ranks at their start
abbrev pub players_at_start : {P : Type 0} → (n : ℕ) → (processes : ℕ → P) → Players P
players_at_start n processes r = record {
  process = processes r;
  told = None;
  blocked = false;
  lines =
      [];
  ended = nat_le n r;
}

-- what a process is told of a reply: nothing yet, where the call is blocked
abbrev pub told_by : Reply → Option Told
told_by (OfRequests Blocked) = None
told_by (OfRequests (Started k)) = Some (Replied (OfRequests (Started k)))
told_by (OfRequests (Done a)) = Some (Replied (OfRequests (Done a)))
told_by (OfRequests Pending) = Some (Replied (OfRequests Pending))
told_by (OfRequests Accepted) = Some (Replied (OfRequests Accepted))
told_by (OfCollective o) = Some (Replied (OfCollective o))
told_by (OfFact f) = Some (Replied (OfFact f))

abbrev pub is_blocking : Reply → Bool
is_blocking (OfRequests Blocked) = true
is_blocking _ = false

-- a call of rank r has this fault in the state of some run with this history
pub record HasFault (n : ℕ) (history : List Entry) (r : ℕ) (call : Call) (number : ℕ) : Type 0 where
  pub events : List Event
  pub run : IsRun n (machine_opening n least) events
  pub tells : seen (machine_opening n least) events ≡ history
  pub fault_is :
      fault (first_endpoint r) ((after_run (machine_opening n least) events).queues.at (first_endpoint r))
      ((after_run (machine_opening n least) events).groups.of (first_endpoint r)) call ≡ Some number

-- what a rank does of itself: it may, for it has neither ended nor is its call blocked, and its process does this
pub record IsAt {P : Type 0} (next : Process P) (c : Player P) (step : Step) : Type 0 where
  pub running : c.ended ≡ false
  pub free : c.blocked ≡ false
  pub is_next : (next c.process c.told).0 ≡ step

-- a player whose process goes on
abbrev pub gone_on : {P : Type 0} → Process P → Player P → Option Told → (blocked : Bool) → (more : List (List ℕ)) →
    (ended : Bool) → Player P
gone_on next c told blocked more ended =
    record {
      process = (next c.process c.told).1;
      told = told;
      blocked = blocked;
      lines = c.lines ++ more;
      ended =
          ended;
    }

-- One move of a play: a line, an end, a call that is refused by its fault, one that is taken with a reply, or the
-- answer to a blocked one. The history is one of the machine's
pub data PlaysOn {P : Type 0} (next : Process P) (n : ℕ) (all : Players P) (history : List Entry) (all' : Players P)
    (history' : List Entry) : Type 0 where
  Spoke : (r : ℕ) (line : List ℕ) → IsAt next (all r) (Prints line) →
      all' ≡ with_player all r (gone_on next (all r) None false (line ∷ []) false) → history' ≡ history →
      PlaysOn next n all history all' history'
  HasEnded : (r status : ℕ) → IsAt next (all r) (Ends status) →
      all' ≡ with_player all r (gone_on next (all r) None false [] true) → history' ≡ history →
      PlaysOn next n all history all' history'
  WasRefused : (r : ℕ) (call : Call) (number : ℕ) → IsAt next (all r) (Calls call) → HasFault n history r call number →
      all' ≡ with_player all r (gone_on next (all r) (Some (Refused number)) false [] false) → history' ≡ history →
      PlaysOn next n all history all' history'
  WasTaken : (r : ℕ) (call : Call) (reply : Reply) → IsAt next (all r) (Calls call) → IsHistory n least history' →
      all' ≡ with_player all r (gone_on next (all r) (told_by reply) (is_blocking reply) [] false) →
      history' ≡ history ++ Called (first_endpoint r) call reply ∷ [] → PlaysOn next n all history all' history'
  WasAnswered : (r : ℕ) (a : Answer) → IsHistory n least history' →
      all' ≡ with_player all r
      (record {
        process = (all r).process;
        told = Some (Replied (as_reply a));
        blocked = false;
        lines =
            (all r).lines;
        ended = (all r).ended;
      }) →
      history' ≡ history ++ Completed (first_endpoint r) a ∷ [] → PlaysOn next n all history all' history'

-- so many moves
abbrev pub PlaysThrough : {P : Type 0} → Process P → (n : ℕ) → (moves : ℕ) → Players P → List Entry → Players P →
    List Entry → Type 0
PlaysThrough next n ℕ.zero all history all' history' = (all ≡ all') × (history ≡ history')
PlaysThrough {P = P} next n (ℕ.suc k) all history all' history' =
    (mid : Players P) × (h : List Entry) × PlaysOn next n all history mid h × PlaysThrough next n k mid h all' history'

-- what a player has printed is a beginning of what its rank prints in the one meaning, and all of it once it has ended
pub record PlaysTheMeaning {P : Type 0} (c : Player P) (end : Course P) : Type 0 where
  pub lines : (rest : List (List ℕ)) × (end.lines ≡ c.lines ++ rest)
  pub whole : c.ended ≡ true → end.lines ≡ c.lines

-- Processes that make calls with one meaning alone, in whose one meaning no two records of a collective differ, play
-- that meaning, over whatever has the machine's histories
abbrev pub EveryPlayIsTheMeaning : Type 0
EveryPlayIsTheMeaning =
    (f : (rank : ℕ) → List (Option Told) → Step) →
    ((r : ℕ) (ts : List (Option Told)) (call : Call) → f r ts ≡ Calls call → IsCovered call) →
    (n moves : ℕ) (now : Players Telling) (history : List Entry) (end : Courses Telling) → n ≤ 65536 → 0 < n →
    PlaysThrough (by_telling f) n moves (players_at_start n (λ r. (r, []))) [] now history →
    AreMeant (by_telling f) n (λ r. (r, [])) end → RecordsAgree (accounts end) →
    (r : ℕ) → PlaysTheMeaning (now r) (end r)

-- a beginning of a history is a history: so an event of a world that is told by two entries is two moves
abbrev pub BeginningsAreHistories : Type 0
BeginningsAreHistories = (n : ℕ) (history : List Entry) (v : Entry) → IsHistory n least (history ++ v ∷ []) →
    IsHistory n least history

-- no rank is started anew
abbrev pub HasNoRestart : List Entry → Type 0
HasNoRestart [] = Unit {0}
HasNoRestart (Called e call reply ∷ vs) = HasNoRestart vs
HasNoRestart (Completed e a ∷ vs) = HasNoRestart vs
HasNoRestart (Restarted r ∷ vs) = ⊥

-- an entry of an endpoint that was never started anew
abbrev pub IsOfFirst : Entry → Type 0
IsOfFirst (Called e call reply) = e ≡ first_endpoint e.rank
IsOfFirst (Completed e a) = e ≡ first_endpoint e.rank
IsOfFirst (Restarted r) = ⊥

-- where no rank is started anew, all that is told is told of first endpoints
abbrev pub EndpointsAreFirst : Type 0
EndpointsAreFirst = (n : ℕ) (history : List Entry) → HasNoRestart history → IsHistory n least history →
    AllByRecursion IsOfFirst history
