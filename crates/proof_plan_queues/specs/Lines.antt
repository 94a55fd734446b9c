-- What an endpoint of the machine of perfect queues has of a line: of the messages of one context and one tag, and of
-- the receives that were posted for them.
use Rattle.std.specs.Prelude.{◌≡◌, ◌⊎◌, ℕ, Bool, false, ◌&&◌, ◌||◌, List, [], ◌∷◌, ◌++◌, Option, Some, None}
use Rattle.std.specs.Prelude.{if◌then◌else◌, ◌==◌, slice_get}
use Rattle.std.specs.List.{AllByRecursion}
use Rattle.perfect_queues.specs.Calls.{Call, Cancel, Improbe, Iprobe, Irecv, Isend, Mrecv, Test, Wait, after_call}
use Rattle.perfect_queues.specs.Calls.{after_settling}
use Rattle.perfect_queues.specs.Messages.{Message}
use Rattle.perfect_queues.specs.Receives.{Receive}
use Rattle.perfect_queues.specs.Requests.{Finished, Gone, Matched, Posted, Request, Sending, TakenOut}
use Rattle.perfect_queues.specs.State.{Local, with_message}
use Rattle.perfect_queues.specs.Steps.{Allowed, Finish, FinishSend, Learn, Match, See, Step, TakeOut, after_step}
use Rattle.vocabulary.specs.declared.endpoint.Endpoint.{Endpoint}
use Rattle.vocabulary.specs.declared.envelope.Source.{Source}
use Rattle.vocabulary.specs.declared.envelope.Source.TheVariants.{Any, Null, Rank}

-- the data of a message: what is a block to plans
abbrev pub Block : Type 0
Block = List ℕ

-- the endpoint of a member: its rank, which is not started anew
abbrev pub member : (rank : ℕ) → Endpoint
member r = record { rank = r; incarnation = 0 }

abbrev pub is_tag : (k : ℕ) → Option ℕ → Bool
is_tag k None = false
is_tag k (Some t) = t == k

-- the rank that a source names
abbrev pub rank_of : Source → ℕ
rank_of (Rank r) = r
rank_of Any = 0
rank_of Null = 0

-- whether a receive is one of context c and tag k
abbrev pub on_line : (c k : ℕ) → Receive → Bool
on_line c k p = (p.context == c) && is_tag k p.tag

-- a request's sender in front of those of others, where it is a receive of the line that waits
abbrev pub awaits : (c k : ℕ) → Request → List ℕ → List ℕ
awaits c k (Posted p) rest = if on_line c k p then rank_of p.source ∷ rest else rest
awaits c k (Matched p m) rest = rest
awaits c k (Sending d) rest = rest
awaits c k (Finished o) rest = rest
awaits c k Gone rest = rest
awaits c k (TakenOut g m) rest = rest

-- the senders of the receives of the line that wait, in the order in which they were posted
abbrev pub awaited : (c k : ℕ) → List Request → List ℕ
awaited c k [] = []
awaited c k (q ∷ qs) = awaits c k q (awaited c k qs)

-- the blocks of those messages that have the tag, in order
abbrev pub blocks : (k : ℕ) → List Message → List Block
blocks k [] = []
blocks k (m ∷ ms) = if m.tag == k then m.values ∷ blocks k ms else blocks k ms

-- What an endpoint has of a line: the senders of the receives that were begun, and the blocks from each member
pub record Line : Type 0 where
  pub waiting : List ℕ
  pub queue : (sender : ℕ) → List Block

abbrev pub line_of : (c k : ℕ) → Local → Line
line_of c k l = record { waiting = awaited c k l.requests; queue = λ r. blocks k (l.queue (member r) c) }

-- A receive names its sender, and a tag
pub record Names (p : Receive) : Type 0 where
  pub sender : ℕ
  pub tag : ℕ
  pub source_is : p.source ≡ Rank sender
  pub tag_is : p.tag ≡ Some tag

-- How a context is used: receives in it name sender and tag; ranks aren't started anew; and a message stands in the
-- queue of its sender and context
pub record IsForPlans (c : ℕ) (l : Local) : Type 0 where
  pub named : (j : ℕ) (p : Receive) → slice_get l.requests j ≡ Some (Posted p) → p.context ≡ c → Names p
  pub first : (e : Endpoint) → (e.incarnation == 0) ≡ false → l.queue e c ≡ []
  pub filed : (e : Endpoint) → AllByRecursion (λ m. (m.sender ≡ e) × (m.context ≡ c)) (l.queue e c)

abbrev pub is_among : ℕ → List ℕ → Bool
is_among r [] = false
is_among r (x ∷ xs) = (r == x) || is_among r xs

-- The first block of a sender comes to the first receive from it, as in the machine of plans
pub record Arrives (old new : Line) : Type 0 where
  pub sender : ℕ
  pub earlier : List ℕ
  pub later : List ℕ
  pub block : Block
  pub rest : List Block
  pub begun : old.waiting ≡ earlier ++ sender ∷ later
  pub none_earlier : is_among sender earlier ≡ false
  pub sent : old.queue sender ≡ block ∷ rest
  pub waits : new.waiting ≡ earlier ++ later
  pub left : (r : ℕ) → new.queue r ≡ (if r == sender then rest else old.queue r)

-- no rank is started anew, and no matching probe takes a message out
abbrev pub IsOrdinary : Step → Type 0
IsOrdinary (Match k p earlier m later) = Unit {0}
IsOrdinary (Finish k p m) = Unit {0}
IsOrdinary (FinishSend k d) = Unit {0}
IsOrdinary (See q earlier m later) = Unit {0}
IsOrdinary (Learn r i) = ⊥
IsOrdinary (TakeOut q earlier m later) = ⊥

-- nothing of a line has changed
pub record IsSameLine (old new : Line) : Type 0 where
  pub waits : new.waiting ≡ old.waiting
  pub left : (r : ℕ) → new.queue r ≡ old.queue r

-- Each step that an endpoint takes of itself either changes nothing of a line, or the first block of a sender comes to
-- the first receive from it
abbrev pub StepsAreArrivals : Type 0
StepsAreArrivals =
    (c k : ℕ) (l : Local) (x : Step) → IsForPlans c l → IsOrdinary x → Allowed l x →
    IsSameLine (line_of c k l) (line_of c k (after_step l x)) ⊎ Arrives (line_of c k l) (line_of c k (after_step l x))

-- A message of the line joins the queue of its sender at its end; another one changes nothing
abbrev pub MessagesJoinLines : Type 0
MessagesJoinLines =
    (c k : ℕ) (l : Local) (m : Message) (r : ℕ) → m.sender ≡ member r →
    ((line_of c k (with_message l m)).waiting ≡ (line_of c k l).waiting) ×
    ((x : ℕ) → (line_of c k (with_message l m)).queue x ≡
    (if (x == r) && ((c == m.context) && (m.tag == k)) then (line_of c k l).queue x ++ m.values ∷ []
    else (line_of c k l).queue x))

-- A receive of the line that names a rank is begun behind those that wait
abbrev pub ReceivesAreBegun : Type 0
ReceivesAreBegun =
    (c k : ℕ) (e : Endpoint) (l : Local) (p : Receive) (r : ℕ) → p.source ≡ Rank r →
    ((line_of c k (after_call e l (Irecv p))).waiting ≡
    (if on_line c k p then (line_of c k l).waiting ++ r ∷ [] else (line_of c k l).waiting)) ×
    ((x : ℕ) → (line_of c k (after_call e l (Irecv p))).queue x ≡ (line_of c k l).queue x)

-- the other calls that a plan's engine is asked
abbrev pub IsPlain : Call → Type 0
IsPlain (Isend mode context to tag from) = Unit {0}
IsPlain (Wait a) = Unit {0}
IsPlain (Test r) = Unit {0}
IsPlain (Iprobe q) = Unit {0}
IsPlain (Irecv p) = ⊥
IsPlain (Cancel r) = ⊥
IsPlain (Improbe q) = ⊥
IsPlain (Mrecv k into) = ⊥

-- They change nothing of a line of the caller's own
abbrev pub CallsKeepLines : Type 0
CallsKeepLines =
    (c k : ℕ) (e : Endpoint) (l : Local) (call : Call) → IsPlain call →
    IsSameLine (line_of c k l) (line_of c k (after_call e l call))

-- Nor does the settling, in which a call is answered
abbrev pub SettlingKeepsLines : Type 0
SettlingKeepsLines = (c k : ℕ) (l : Local) → IsSameLine (line_of c k l) (line_of c k (after_settling l))
