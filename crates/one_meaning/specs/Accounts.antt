-- Accounts: what a rank has called, and what it was answered (MPI 3.1, 3.7, 5 and 6.4). No rank is started anew.
-- Whatever a rank does changes its own account alone.
use Rattle.std.specs.Prelude.{ℕ, ◌+◌, ◌&&◌, Bool, true, false, List, [], ◌∷◌, ◌++◌, length, Option, Some, None}
use Rattle.std.specs.Prelude.{if◌then◌else◌, ◌==◌, slice_get, option_map}
use Rattle.perfect_groups.specs.Calls.{Answer, ByCollective, ByRequests, Call, Reply, entry_of, queue_call}
use Rattle.perfect_groups.specs.Calls.{reply_at_once}
use Rattle.perfect_groups.specs.Collectives.{Part}
use Rattle.perfect_groups.specs.Communicators.{Communicator, first_endpoint, self_of, world_of}
use Rattle.perfect_groups.specs.Faults.{fault}
use Rattle.perfect_groups.specs.Membership.{Comm, Inside, Left, Membership, Present, first_of, mine, numbered}
use Rattle.perfect_groups.specs.Results.{all_agree, all_parts, awaited, handed_to, is_making, new_groups}
use Rattle.perfect_queues.specs.Calls as queues
use Rattle.perfect_queues.specs.Calls.{message_sent, receive_request}
use Rattle.perfect_queues.specs.Completions as completions
use Rattle.perfect_queues.specs.Completions.{AllOf, AnyOf, Awaited, One, Unanswered, Waits, completion, outcome_at}
use Rattle.perfect_queues.specs.Messages.{Message}
use Rattle.perfect_queues.specs.Outcomes.{Outcome, Sent}
use Rattle.perfect_queues.specs.Requests.{Request, Finished, Gone, all_changed}
use Rattle.perfect_queues.specs.State.{Local, knows_at_first}
use Rattle.vocabulary.specs.Endpoints.{is_same}
use Rattle.vocabulary.specs.MessageLimits.{least}
use Rattle.vocabulary.specs.declared.endpoint.Endpoint.{Endpoint}
use Rattle.one_meaning.specs.Pairs.{Queues, resolved}

-- What a rank waits for: requests, or a collective that it is in
pub data Waiting : Type 0 where
  ForRequests : Awaited → Waiting
  InCollective : Communicator → (number : ℕ) → Part → Waiting

-- A collective that a rank has entered: its context, with what it was entered, and the serial that the rank's next new
-- context had then
pub record Entered : Type 0 where
  pub context : ℕ
  pub part : Part
  pub serial : ℕ

-- The account of a rank: the communicators that it holds, in order; its requests as they were started, in order, of
-- which a send is finished at once; the serials of those whose outcomes were answered; the messages that it sent, in
-- order, and to whom; the collectives that it entered, in order; the serial of the next context that it makes; and what
-- it waits for
pub record Account : Type 0 where
  pub held : List Communicator
  pub started : List Request
  pub used : List ℕ
  pub sent : List (Endpoint × Message)
  pub entered : List Entered
  pub serial : ℕ
  pub waiting : Option Waiting

-- the account of rank r among n at its start
abbrev pub opened : (n r : ℕ) → Account
opened n r =
    record {
      held = world_of n ∷ self_of (first_endpoint r) ∷ [];
      started = [];
      used = [];
      sent = [];
      entered = [];
      serial = 2;
      waiting = None;
    }

-- all ranks' accounts
abbrev pub Accounts : Type 0
Accounts = (rank : ℕ) → Account

-- ---- what a rank has of itself

-- a request whose outcome was answered
abbrev pub gone : Request → Request
gone r = Gone

-- the collectives that were entered in a context
abbrev pub in_context : (context : ℕ) → List Entered → List Entered
in_context c [] = []
in_context c (x ∷ xs) = if x.context == c then x ∷ in_context c xs else in_context c xs

-- what a rank is blocked on, as the machine has it; it never probes
abbrev pub awaited_of : Option Waiting → Option Unanswered
awaited_of None = None
awaited_of (Some (ForRequests w)) = Some (Waits w)
awaited_of (Some (InCollective c k p)) = None

-- the collective that a rank is in, as the machine has it
abbrev pub present_of : Option Waiting → Option Present
present_of None = None
present_of (Some (ForRequests w)) = None
present_of (Some (InCollective c k p)) = Some (Inside c k p)

-- a rank's own part of the machine's state, as far as calls depend on it: requests, of which those that were answered
-- are gone (3.7.3); and how many bytes a message and a frame of a script may have
abbrev pub local_of : (rank : ℕ) → Account → Local
local_of r a =
    record {
      requests = all_changed gone a.started a.used;
      blocked = awaited_of a.waiting;
      known = knows_at_first (first_endpoint r);
      queue = λ s c. [];
      message_limit = least;
    }

-- what it holds of communicators
abbrev pub membership_of : Account → Membership
membership_of a = record { held = a.held; count = λ c. length (in_context c a.entered); present = present_of a.waiting }

-- ---- calls

-- the fault of a call, by the machine's rules
abbrev pub judged : (rank : ℕ) → Account → Call → Option ℕ
judged r a call = fault (first_endpoint r) (local_of r a) (membership_of a) call

-- what a call answers at once, where it does
abbrev pub at_once : (rank : ℕ) → Account → Call → Option Reply
at_once r a call = reply_at_once (first_endpoint r) (local_of r a) (membership_of a) call

-- a message more, if there is one
abbrev pub with_sent : List (Endpoint × Message) → Option (Endpoint × Message) → List (Endpoint × Message)
with_sent sent None = sent
with_sent sent (Some x) = sent ++ x ∷ []

-- The account once a call of queues was taken. Every send is finished at once, whatever its mode and length: a rank
-- that waits for ever in a run, since no receive takes its message (3.4), has printed a beginning of what it prints
-- here. A test, a cancel, a probe and the receive of a message that a probe took out have no one meaning, and change
-- nothing
abbrev pub after_queue_call : (rank : ℕ) → Account → queues.Call → Account
after_queue_call r a (queues.Isend mode c to tag from) =
    record a {
      started = a.started ++ Finished Sent ∷ [];
      sent = with_sent a.sent (message_sent (first_endpoint r) (local_of r a) (queues.Isend mode c to tag from));
    }
after_queue_call r a (queues.Irecv p) = record a { started = a.started ++ receive_request p.source p ∷ [] }
after_queue_call r a (queues.Wait w) = record a { waiting = Some (ForRequests w) }
after_queue_call r a (queues.Test x) = a
after_queue_call r a (queues.Cancel x) = a
after_queue_call r a (queues.Iprobe q) = a
after_queue_call r a (queues.Improbe q) = a
after_queue_call r a (queues.Mrecv k into) = a

-- once a collective was entered, the rank's next in its context
abbrev pub after_entry : Account → Communicator → Part → Account
after_entry a c p =
    record a {
      entered = a.entered ++ record { context = c.context; part = p; serial = a.serial } ∷ [];
      waiting = Some (InCollective c (length (in_context c.context a.entered)) p);
    }

abbrev pub after_queue_part : (rank : ℕ) → Account → Option queues.Call → Account
after_queue_part r a None = a
after_queue_part r a (Some call) = after_queue_call r a call

abbrev pub after_group_part : Account → Option (Communicator × Part) → Account
after_group_part a None = a
after_group_part a (Some x) = after_entry a x.0 x.1

-- the account once a call was taken
abbrev pub after_call : (rank : ℕ) → Account → Call → Account
after_call r a call =
    after_group_part (after_queue_part r a (queue_call (membership_of a) call)) (entry_of (membership_of a) call)

-- ---- what others have done

-- of messages those to an endpoint in a context, in order
abbrev pub meant_for : Endpoint → (context : ℕ) → List (Endpoint × Message) → List Message
meant_for d c [] = []
meant_for d c (x ∷ xs) = if is_same x.0 d && (x.1.context == c) then x.1 ∷ meant_for d c xs else meant_for d c xs

-- all messages that were sent to a rank, by sender and context
abbrev pub sent_to : Accounts → (rank : ℕ) → Queues
sent_to all r s c = meant_for (first_endpoint r) c (all s).sent

-- what has become of a rank's requests: every pair is made at once
abbrev pub requests_of : Accounts → (rank : ℕ) → Account → List Request
requests_of all r a = all_changed gone (resolved (sent_to all r) a.started) a.used

-- with what, and when, a member has entered collective k of a context
abbrev pub entered_by : Accounts → (context number : ℕ) → Endpoint → Option Entered
entered_by all c k x = if x.incarnation == 0 then slice_get (in_context c (all x.rank).entered) k else None

abbrev pub part_by : Accounts → (context number : ℕ) → Endpoint → Option Part
part_by all c k x = option_map (λ e. e.part) (entered_by all c k x)

-- ---- answers

-- the communicators that a collective makes, with the contexts of its member 0 from this serial on
abbrev pub made_by : (e : Endpoint) → Communicator → (serial : ℕ) → Part → List Part → List Communicator
made_by e c i p ps = numbered (first_of c.members e) i (new_groups p.record_is.kind c.members ps)

-- the serials that member 0 has drawn then
abbrev pub drawn_by : Endpoint → Communicator → List Communicator → ℕ
drawn_by e c new = if is_same e (first_of c.members e) then length new else 0

-- an answer, and the account once it was given
abbrev pub Answered : Type 0
Answered = Answer × Account

-- of a wait
abbrev pub answered_wait : Account → completions.Answer × List ℕ → Answered
answered_wait a t = (ByRequests t.0, record a { used = a.used ++ t.1; waiting = None })

-- of a collective that makes communicators: the rank's own, if it is in one
abbrev pub answered_making : Account → (drawn : ℕ) → Option Communicator → Answered
answered_making a drawn None = (ByCollective (Comm None), record a { serial = a.serial + drawn; waiting = None })
answered_making a drawn (Some c) = (
  ByCollective (Comm (Some (length a.held))),
  record a { held = a.held ++ c ∷ []; serial = a.serial + drawn; waiting = None },
)

-- of a collective that makes communicators, by member 0's entry in it
abbrev pub answered_made : (rank : ℕ) → Account → Communicator → Part → List Part → (entered : Option Entered) →
    Option Answered
answered_made r a c p ps None = None
answered_made r a c p ps (Some x) =
    Some (answered_making a (drawn_by (first_endpoint r) c (made_by (first_endpoint r) c x.serial p ps))
    (mine (first_endpoint r) (made_by (first_endpoint r) c x.serial p ps)))

-- of a collective, once those have entered for whom the rank waits
abbrev pub answered_leaving : Accounts → (rank : ℕ) → Account → Communicator → (number : ℕ) → Part → List Part →
    (making : Bool) → Option Answered
answered_leaving all r a c k p ps false =
    Some (
      ByCollective (Left (handed_to p.record_is (first_endpoint r) c.members ps p.record_is.kind)),
      record a { waiting = None },
    )
answered_leaving all r a c k p ps true =
    answered_made r a c p ps (entered_by all c.context k (first_of c.members (first_endpoint r)))

-- if their records agree
abbrev pub leaves_if : (agreeing : Bool) → Option Answered → Option Answered
leaves_if true x = x
leaves_if false x = None

abbrev pub leaves_with : Accounts → (rank : ℕ) → Account → Communicator → (number : ℕ) → Part → Option (List Part) →
    Option Answered
leaves_with all r a c k p None = None
leaves_with all r a c k p (Some ps) =
    leaves_if (all_agree p.record_is ps) (answered_leaving all r a c k p ps (is_making p.record_is.kind))

-- what a wait answers (3.7.3, 3.7.5); which of several requests is the first to be finished is no matter of meaning
abbrev pub wait_answer : (ℕ → Option Outcome) → Awaited → Option (completions.Answer × List ℕ)
wait_answer f (One q) = completion f (One q)
wait_answer f (AnyOf qs) = None
wait_answer f (AllOf qs) = completion f (AllOf qs)

-- The answer to what a rank waits for, as soon as it is ready: a wait once the requests are finished; a collective once
-- all those have entered it for whom the rank waits (5.1)
abbrev pub answer_to : Accounts → (rank : ℕ) → Account → Waiting → Option Answered
answer_to all r a (ForRequests w) = option_map (answered_wait a) (wait_answer (outcome_at (requests_of all r a)) w)
answer_to all r a (InCollective c k p) =
    leaves_with all r a c k p
    (all_parts (part_by all c.context k) (awaited p.record_is.kind p.record_is.root (first_endpoint r) c.members))
