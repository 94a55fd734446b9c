-- Why nothing more follows a frame that is handed up.
use Rattle.std.specs.Prelude.{◌≡◌, ◌⊎◌, ℕ, zero, suc, List, Option, Some, None, Ok, Err}
use Rattle.engine.specs.JobPayloads.{payload_in}
use Rattle.payload.specs.Spellings.{PartFits, PayloadText}
use Rattle.point_to_point.specs.Arrivals.{news_fault}
use Rattle.point_to_point.specs.CoreState.{CoreState}
use Rattle.point_to_point_calls.specs.declared.refusal.Refusal.{Refusal}
use Rattle.point_to_point_calls.specs.declared.refusal.Refusal.TheVariants as refusals
use Rattle.sessions.specs.Events.{event_limit}
use Rattle.sessions.specs.HeardBytes.{HeardText}
use Rattle.sessions.specs.SessionsState.{SessionsState}
use Rattle.vocabulary.specs.declared.endpoint.Endpoint.{Endpoint}
use Rattle.engine_calls.specs.EngineState.{EngineState}
use Rattle.engine_calls.specs.Refusals.{fault_of_sessions, first_fault}
use Rattle.engine.specs.Datagrams.{HeardGives, acknowledged, hold_fault, news_of, replies, turn_from, without_next}

-- what stays held stays for a limit (13) or want of memory (14), and for nothing else
abbrev pub IsWant : Refusal → Type 0
IsWant why = (why ≡ refusals.Limit) ⊎ (why ≡ refusals.OutOfMemory)

-- a frame is refused in its turn for a rule (30), a limit (13) or want of memory (14)
abbrev pub IsTurnRefusal : Refusal → Type 0
IsTurnRefusal why = (why ≡ refusals.BadFrame) ⊎ IsWant why

-- what is refused so in its turn is held no more, for a rule; or it stays held, for this limit or want of memory
abbrev pub GoesOrStays : Refusal → (why : Option Refusal) → Endpoint → EngineState → EngineState → Type 0
GoesOrStays refused None source old new = (refused ≡ refusals.BadFrame) × (new ≡ without_next old source)
GoesOrStays refused (Some why) source old new = IsWant why × (refused ≡ why) × (new ≡ old)

-- A frame whose turn has come isn't taken in: it breaks a rule (30), and is held no more; or it meets this limit, or
-- this want of memory, and stays held
abbrev pub IsLeft : HeardText → (why : Option Refusal) → Endpoint → EngineState → EngineState → Type 0
IsLeft h None source old new = HeardGives old h (Err refusals.BadFrame) old × (new ≡ without_next old source)
IsLeft h (Some why) source old new = IsWant why × HeardGives old h (Err why) old × (new ≡ old)

-- one turn in which nothing is taken in: nothing is held; what is held spells no frame, and is held no more; or it is
-- left as that says
abbrev pub LeavesTurn : Option (Option HeardText) → (why : Option Refusal) → Endpoint → EngineState → EngineState →
    Type 0
LeavesTurn None why source old new = (why ≡ None) × (new ≡ old)
LeavesTurn (Some None) why source old new = (why ≡ None) × (new ≡ without_next old source)
LeavesTurn (Some (Some h)) why source old new = IsLeft h why source old new

-- one turn, and then the rest, with the reason for which a frame whose turn has come stays held, if one does
abbrev pub TurnEnds : Option (Option HeardText) → (why : Option Refusal) → (at : ℕ) → Endpoint →
    (rest : EngineState → EngineState → Type 0) → EngineState → EngineState → Type 0
TurnEnds None why at source rest old new = LeavesTurn None why source old new
TurnEnds (Some None) why at source rest old new = LeavesTurn (Some None) why source old new
TurnEnds (Some (Some h)) why at source rest old new =
    ((first : EngineState) × HeardGives old h (Ok tt) first × rest (acknowledged at source first) new)
    ⊎ LeavesTurn (Some (Some h)) why source old new

-- so many turns at most
abbrev pub FollowEnds : (why : Option Refusal) → (turns : ℕ) → (at : ℕ) → Endpoint → EngineState → EngineState → Type 0
FollowEnds why zero at source old new = (why ≡ None) × (new ≡ old)
FollowEnds why (suc k) at source old new =
    TurnEnds (turn_from old source) why at source (FollowEnds why k at source) old new

-- WITHOUT MEMORY

-- the first rule or limit that what concerns no collective meets
abbrev pub news_met : CoreState → SessionsState → HeardText → Option Refusal
news_met c s h =
    first_fault (hold_fault h.word)
    (first_fault (news_fault c (news_of h)) (fault_of_sessions (event_limit s (Some h) (replies c h))))

-- why a message of a collective isn't taken in without memory, in a job of so many ranks: it can't be read, it names a
-- rank that the job lacks, or what it carries doesn't fit its record (30); or else for want of it
abbrev pub WhyUnread : (size : ℕ) → List ℕ → Refusal → Type 0
WhyUnread size bytes refusals.BadFrame =
    (payload_in size bytes ≡ None) ⊎
    ((p : PayloadText) × (payload_in size bytes ≡ Some p) × (PartFits p.record_is p.part → ⊥))
WhyUnread size bytes refusals.OutOfMemory =
    (p : PayloadText) × (payload_in size bytes ≡ Some p) × PartFits p.record_is p.part
WhyUnread size bytes _ = ⊥

-- with what the next frame of an endpoint would be refused if there were no memory at all: nothing is held; what is
-- held spells no frame (30); or it is refused so
abbrev pub NextIsRefused : Option (Option HeardText) → (why : Option Refusal) → EngineState → Type 0
NextIsRefused None why e = why ≡ None
NextIsRefused (Some None) why e = why ≡ Some refusals.BadFrame
NextIsRefused (Some (Some h)) why e = (r : Refusal) × (why ≡ Some r) × HeardGives e h (Err r) e
