-- When the machine's state is what accounts say.
use Rattle.std.specs.Prelude.{◌≡◌, ℕ, ◌+◌, Bool, true, false, ◌&&◌, List, [], ◌∷◌, ◌++◌, length, Option, Some, None}
use Rattle.std.specs.Prelude.{if◌then◌else◌, ◌==◌, slice_get}
use Rattle.std.specs.List.{AllByRecursion}
use Rattle.perfect_groups.specs.Calls.{Call, Irecv, Isend, Wait, Test, Cancel, Iprobe, Improbe, Mrecv, Enter, Inquire}
use Rattle.perfect_groups.specs.Collectives.{Part}
use Rattle.perfect_groups.specs.Communicators.{Communicator, first_endpoint}
use Rattle.perfect_groups.specs.Membership.{Ending, Groups, Membership, Out, first_of, numbered}
use Rattle.perfect_groups.specs.Results.{all_agree, all_parts, is_making, new_groups}
use Rattle.perfect_groups.specs.Soundness.{IsThere}
use Rattle.perfect_queues.specs.Completions.{AllOf, AnyOf, Awaited, One}
use Rattle.perfect_queues.specs.Requests.{Request, all_changed}
use Rattle.perfect_queues.specs.State.{Local, State, knows_at_first}
use Rattle.vocabulary.specs.MessageLimits.{least}
use Rattle.vocabulary.specs.Endpoints.{is_same}
use Rattle.vocabulary.specs.declared.endpoint.Endpoint.{Endpoint}
use Rattle.vocabulary.specs.declared.envelope.Source.{Source}
use Rattle.vocabulary.specs.declared.envelope.Source.TheVariants.{Any, Rank, Null}
use Rattle.one_meaning.specs.Accounts.{Account, Accounts, Entered, ForRequests, InCollective, Waiting, awaited_of}
use Rattle.one_meaning.specs.Accounts.{entered_by, gone, in_context, membership_of, part_by, sent_to}
use Rattle.one_meaning.specs.PairLaws.{IsPlain, queues_of}
use Rattle.one_meaning.specs.Pairs.{Queues, resolved}

-- one account is another
abbrev pub with_account : Accounts → (rank : ℕ) → Account → Accounts
with_account all r a x = if x == r then a else all x

-- which of several requests is finished first is not waited for
abbrev pub IsOfAll : Awaited → Type 0
IsOfAll (One q) = Unit {0}
IsOfAll (AnyOf qs) = ⊥
IsOfAll (AllOf qs) = Unit {0}

abbrev pub WaitsOfAll : Option Waiting → Type 0
WaitsOfAll None = Unit {0}
WaitsOfAll (Some (ForRequests w)) = IsOfAll w
WaitsOfAll (Some (InCollective c k p)) = Unit {0}

-- a rank or none is named, and not any
abbrev pub IsNotAny : Source → Type 0
IsNotAny Any = ⊥
IsNotAny (Rank r) = Unit {0}
IsNotAny Null = Unit {0}

-- The calls that have one meaning: no receive from any rank (3.2.4), no test and no wait for the first of several
-- (3.7.3, 3.7.5), no probe and no receive of what a probe took out (3.8.1 to 3.8.3), and no cancel (3.8.4). A receive
-- may be of any tag
abbrev pub IsCovered : Call → Type 0
IsCovered (Isend mode comm to tag from) = Unit {0}
IsCovered (Irecv comm source tag into) = IsNotAny source
IsCovered (Wait w) = IsOfAll w
IsCovered (Test q) = ⊥
IsCovered (Cancel q) = ⊥
IsCovered (Iprobe comm source tag) = ⊥
IsCovered (Improbe comm source tag) = ⊥
IsCovered (Mrecv message into) = ⊥
IsCovered (Enter comm c) = Unit {0}
IsCovered (Inquire comm q) = Unit {0}

-- Rank r's part of the queues is what its account says, where these messages were sent to it: whatever is still sent
-- and posted, requests will become what they are to become by the account
pub record HasQueues (r : ℕ) (l : Local) (a : Account) (q : Queues) : Type 0 where
  pub known : l.known ≡ knows_at_first (first_endpoint r)
  -- scripts have one limit of messages and one of frames
  pub limit : l.message_limit ≡ least
  pub blocked : l.blocked ≡ awaited_of a.waiting
  pub waits : WaitsOfAll a.waiting
  pub count : length l.requests ≡ length a.started
  pub plain : IsPlain l
  pub pairs : (coming : Queues) (more : List Request) →
      resolved (queues_of l coming) (l.requests ++ more) ≡
      all_changed gone (resolved (λ s c. q s c ++ coming s c) (a.started ++ more)) a.used

-- all ranks' are, and none was started anew
pub record HaveQueues (all : Accounts) (s : State) : Type 0 where
  pub current : (r : ℕ) → s.current r ≡ 0
  pub each : (r : ℕ) → HasQueues r (s.at (first_endpoint r)) (all r) (sent_to all r)

-- ---- communicators and collectives

-- there is a member
abbrev pub IsFilled : List Endpoint → Type 0
IsFilled [] = ⊥
IsFilled (m ∷ ms) = Unit {0}

-- what a rank holds of communicators, where its collective has ended so and that isn't answered yet
abbrev pub member_with : Account → Option Ending → Membership
member_with a None = membership_of a
member_with a (Some o) = record (membership_of a) { present = Some (Out o) }

-- the ending that rank r was given in the present event, if it was
abbrev pub given_at : (r : ℕ) → Option Ending → (x : ℕ) → Option Ending
given_at r None x = None
given_at r (Some o) x = if x == r then Some o else None

-- how many communicators a collective has made
abbrev pub count_made : Option (List Communicator) → ℕ
count_made None = 0
count_made (Some cs) = length cs

abbrev pub ahead_if : Bool → ℕ → ℕ
ahead_if true k = k
ahead_if false k = 0

-- the serials of a rank that its present collective has drawn already, since another member was the first to leave it
abbrev pub ahead : ((context number : ℕ) → Option (List Communicator)) → Endpoint → Option Waiting → ℕ
ahead made e None = 0
ahead made e (Some (ForRequests w)) = 0
ahead made e (Some (InCollective c k p)) =
    ahead_if (is_same e (first_of c.members e) && is_making p.record_is.kind) (count_made (made c.context k))

-- a rank that is in a collective has entered it so, when the serial of its next context was this
pub record IsInsideOf (n : ℕ) (all : Accounts) (g : Groups) (x : ℕ) (i : ℕ) (c : Communicator) (k : ℕ)
    (p : Part) : Type 0 where
  pub there : IsThere n g.made c
  pub filled : IsFilled c.members
  pub entry : entered_by all c.context k (first_endpoint x) ≡
      Some (record { context = c.context; part = p; serial = i })

-- the same of a rank that waits for this
abbrev pub IsInsideBy : (n : ℕ) → Accounts → Groups → (x i : ℕ) → Option Waiting → Type 0
IsInsideBy n all g x i None = Unit {0}
IsInsideBy n all g x i (Some (ForRequests w)) = Unit {0}
IsInsideBy n all g x i (Some (InCollective c k p)) = IsInsideOf n all g x i c k p

-- communicators that were made are those that accounts say
pub record WereMade (n : ℕ) (all : Accounts) (g : Groups) (c k : ℕ) (cs : List Communicator) : Type 0 where
  pub comm : Communicator
  pub there : IsThere n g.made comm
  pub context : comm.context ≡ c
  pub maker : Endpoint
  pub others : List Endpoint
  pub members : comm.members ≡ maker ∷ others
  pub parts : List Part
  pub all_entered : all_parts (part_by all c k) comm.members ≡ Some parts
  pub part : Part
  pub making : is_making part.record_is.kind ≡ true
  pub agreeing : all_agree part.record_is parts ≡ true
  pub entry : Entered
  pub entry_is : entered_by all c k maker ≡ Some entry
  pub made_is : cs ≡ numbered maker entry.serial (new_groups part.record_is.kind comm.members parts)

-- a collective that makes communicators has made them once somebody left it
pub data IsMadeOrPresent (made : (context number : ℕ) → Option (List Communicator)) (c k : ℕ)
    (w : Option Waiting) : Type 0 where
  WasMade : (cs : List Communicator) → made c k ≡ Some cs → IsMadeOrPresent made c k w
  IsPresent : (d : Communicator) (p : Part) → w ≡ Some (InCollective d k p) → d.context ≡ c → IsMadeOrPresent made c k w

-- All ranks' communicators and collectives are what their accounts say; rank r was given this ending in the present
-- event, or none
pub record HaveGroups (n : ℕ) (all : Accounts) (g : Groups) (r : ℕ) (given : Option Ending) : Type 0 where
  pub member : (x : ℕ) → g.of (first_endpoint x) ≡ member_with (all x) (given_at r given x)
  pub free : (o : Ending) → given ≡ Some o → (all r).waiting ≡ None
  pub entered : (c k : ℕ) (x : Endpoint) → g.entered c k x ≡ part_by all c k x
  pub filled : (x : ℕ) → AllByRecursion (λ c. IsFilled c.members) (all x).held
  pub inside : (x : ℕ) → IsInsideBy n all g x (all x).serial (all x).waiting
  pub were_made : (c k : ℕ) (cs : List Communicator) → g.made c k ≡ Some cs → WereMade n all g c k cs
  pub made_all : (x c k : ℕ) (e : Entered) → slice_get (in_context c (all x).entered) k ≡ Some e →
      is_making e.part.record_is.kind ≡ true → IsMadeOrPresent g.made c k (all x).waiting
  pub serial : (x : ℕ) → g.serial (first_endpoint x) ≡ (all x).serial + ahead g.made (first_endpoint x) (all x).waiting
