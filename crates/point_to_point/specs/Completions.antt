-- What completing calls and cancels do to the core, and how a blocked call is answered (MPI 3.1, 3.7.3, 3.7.5 and
-- 3.8.4).
use Rattle.std.specs.Prelude.{◌≡◌, ◌||◌, List, Option, Some, None, if◌then◌else◌}
use Rattle.match_queues.specs.State as queues
use Rattle.requests.specs.declared.answer.Answer.{Answer}
use Rattle.requests.specs.declared.awaited_requests.Awaited.{Awaited}
use Rattle.requests.specs.declared.awaited_requests.Awaited.TheVariants.{One}
use Rattle.requests.specs.declared.table.Request.{Request}
use Rattle.requests.specs.declared.table.RequestProgress.{RequestProgress}
use Rattle.requests.specs.declared.table.RequestProgress.TheVariants.{Receiving, Collecting, Offering, TakenOut}
use Rattle.requests.specs.declared.table.RequestProgress.TheVariants.{Finished}
use Rattle.requests.specs.Completions.{awaited_requests, completion, without}
use Rattle.requests.specs.Lists.{is_one_absent, is_twice}
use Rattle.requests.specs.Table.{after_cancel, is_receive, progress_at}
use Rattle.point_to_point_calls.specs.CoreCalls.{CoreReply}
use Rattle.point_to_point_calls.specs.CoreCalls as replies
use Rattle.point_to_point_calls.specs.declared.refusal.Refusal.{Refusal}
use Rattle.point_to_point_calls.specs.declared.refusal.Refusal.TheVariants as refusals
use Rattle.point_to_point.specs.CoreState.{CoreState}

-- requests that aren't there, or of which one is named twice, can't be waited for
abbrev pub requests_fault : CoreState → List Request → Option Refusal
requests_fault c qs = if is_one_absent c.slots qs || is_twice qs then Some refusals.Request else None

-- a completing call is refused where what it waits for isn't there
abbrev pub wait_fault : CoreState → Awaited → Option Refusal
wait_fault c a = requests_fault c (awaited_requests a)

-- only a receive can be cancelled; the null request is none
abbrev pub cancel_fault : CoreState → Option Request → Option Refusal
cancel_fault c None = Some refusals.Request
cancel_fault c (Some q) = if is_receive (progress_at c.slots q.key q.serial) then None else Some refusals.Request

-- ---- waits

-- by whether its answer is ready: the requests that the answer uses up are gone, or the call is blocked
abbrev pub WaitsBy : CoreState → Awaited → Option (Answer × List Request) → CoreReply → CoreState → Type 0
WaitsBy old a None reply new = (reply ≡ replies.Blocked) × (new ≡ record old { blocked = Some a })
WaitsBy old a (Some (answer, used)) reply new = (reply ≡ replies.Done answer) ×
    (new ≡ record old { slots = without old.slots used })

-- what a wait answers and leaves
abbrev pub Waits : CoreState → Awaited → CoreReply → CoreState → Type 0
Waits old a reply new = WaitsBy old a (completion old.slots a) reply new

-- what a wait tells: its answer, or that it is blocked
abbrev pub waited : Option Answer → CoreReply
waited None = replies.Blocked
waited (Some answer) = replies.Done answer

-- ---- tests

-- by whether its answer is ready: a test never blocks
abbrev pub TestsBy : CoreState → Option (Answer × List Request) → CoreReply → CoreState → Type 0
TestsBy old None reply new = (reply ≡ replies.Pending) × (new ≡ old)
TestsBy old (Some (answer, used)) reply new = (reply ≡ replies.Done answer) ×
    (new ≡ record old { slots = without old.slots used })

-- what a test answers and leaves
abbrev pub Tests : CoreState → Option Request → CoreReply → CoreState → Type 0
Tests old q reply new = TestsBy old (completion old.slots (One q)) reply new

-- what a test tells: its answer, or that its request is unfinished
abbrev pub tested : Option Answer → CoreReply
tested None = replies.Pending
tested (Some answer) = replies.Done answer

-- ---- cancels

-- a receive that waits has ended and is posted no more; anything else stays as it is
abbrev pub cancelled_at : CoreState → Request → Option RequestProgress → CoreState
cancelled_at c q None = c
cancelled_at c q (Some (Receiving r)) =
    record c { slots = after_cancel c.slots q; queues = queues.after_cancel c.queues q.key }
cancelled_at c q (Some (Collecting w)) = c
cancelled_at c q (Some Offering) = c
cancelled_at c q (Some (TakenOut t)) = c
cancelled_at c q (Some (Finished o)) = c

-- what a cancel makes of the core
abbrev pub cancelled : CoreState → Option Request → CoreState
cancelled c None = c
cancelled c (Some q) = cancelled_at c q (progress_at c.slots q.key q.serial)

-- what a cancel answers and leaves
abbrev pub Cancels : CoreState → Option Request → CoreReply → CoreState → Type 0
Cancels old q reply new = (reply ≡ replies.Accepted) × (new ≡ cancelled old q)

-- ---- the blocked call

-- the blocked call is answered where its answer is ready
abbrev pub answered_by : CoreState → Option (Answer × List Request) → CoreState
answered_by c None = c
answered_by c (Some (answer, used)) =
    record c { slots = without c.slots used; blocked = None; completion = Some answer }

-- where no call is blocked, nothing is answered
abbrev pub woken_by : CoreState → Option Awaited → CoreState
woken_by c None = c
woken_by c (Some a) = answered_by c (completion c.slots a)

-- the blocked call is answered if its answer is ready
unfoldable pub after_wake : CoreState → CoreState
after_wake c = woken_by c c.blocked
