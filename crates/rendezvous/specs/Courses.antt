-- The courses of all messages that ever began to be collected, told from the events alone.
use Rattle.std.specs.Prelude.{◌≡◌, ◌≢◌, ℕ, ◌*◌, ◌==◌, ◌&&◌, Bool, true, false, List, [], ◌∷◌, ◌++◌, map, length, Some}
use Rattle.std.specs.Prelude.{slice_get, IfSome, if◌then◌else◌}
use Rattle.std.specs.List.{flat_map}
use Rattle.vocabulary.specs.declared.basic_type.BasicType.{BasicType}
use Rattle.vocabulary.specs.declared.message_limit.MessageLimit.{MessageLimit}
use Rattle.vocabulary.specs.BasicTypes.{size_of}
use Rattle.datatypes.specs.Contents.{values_of}
use Rattle.rendezvous.specs.declared.collection.Collected.{Collected}
use Rattle.rendezvous.specs.Collections.{Collecting}
use Rattle.rendezvous.specs.State.{State, is_due}
use Rattle.rendezvous.specs.Events.{Event, Begins, BeginsPayload, Announces, Collects, Answers, Brings, Drops, after, handed_out_by}
use Rattle.rendezvous.specs.Events.{opening}

-- how far a message is: its data are still to come; it was handed out; or its sender was started anew before
pub data Stage : Type 0 where
  Waiting : Stage
  Given : Stage
  Dropped : Stage

-- the job's limit, what was announced of a message, the pieces that were taken for it, in order, and how far it is
pub record Course : Type 0 where
  pub limit : MessageLimit
  pub source : ℕ
  pub transfer : ℕ
  pub request : ℕ
  pub basic : BasicType
  pub total : ℕ
  pub pieces : List (List ℕ)
  pub stage : Stage

abbrev pub is_waiting : Stage → Bool
is_waiting Waiting = true
is_waiting Given = false
is_waiting Dropped = false

-- the bytes of the pieces, one after the other
abbrev pub bytes_so_far : List (List ℕ) → List ℕ
bytes_so_far pieces = flat_map (λ p. p) pieces

-- whether it is the transfer from a rank that has this number, and its data are still to come
abbrev pub waits_for : (source transfer : ℕ) → Course → Bool
waits_for source transfer c = is_waiting c.stage && ((c.source == source) && (c.transfer == transfer))

-- with one more piece it is handed out, if that was the last one
abbrev pub stage_with : Course → List ℕ → Stage
stage_with c piece = if length (bytes_so_far c.pieces ++ piece) == c.total then Given else Waiting

-- a course with one more piece
abbrev pub one_more : Course → List ℕ → Course
one_more c piece = record c { pieces = c.pieces ++ piece ∷ []; stage = stage_with c piece }

-- the first course that waits for it takes the piece
abbrev pub taken_by_first : (source transfer : ℕ) → List ℕ → List Course → List Course
taken_by_first source transfer piece [] = []
taken_by_first source transfer piece (c ∷ cs) =
    if waits_for source transfer c then one_more c piece ∷ cs else c ∷ taken_by_first source transfer piece cs

-- what waits for data from the rank is dropped
abbrev pub dropped_with : (rank : ℕ) → Course → Course
dropped_with rank c = if is_waiting c.stage && (c.source == rank) then record c { stage = Dropped } else c

-- what a rank knows, and the courses of all messages that it ever began to collect
pub record Told : Type 0 where
  pub state : State
  pub courses : List Course

-- the courses after one more event
abbrev pub courses_after : Told → Event → List Course
courses_after t (Begins rank request elements) = t.courses
courses_after t (BeginsPayload rank) = t.courses
courses_after t (Announces rank) = t.courses
courses_after t (Collects limit source transfer request basic count) = t.courses ++ (record {
  limit = limit;
  source = source;
  transfer = transfer;
  request = request;
  basic = basic;
  total = count * size_of basic;
  pieces = [];
  stage = Waiting;
}) ∷ []
courses_after t (Answers rank transfer) = t.courses
courses_after t (Brings source transfer offset piece) =
    if is_due t.state.collections source transfer offset piece then taken_by_first source transfer piece t.courses else
    t.courses
courses_after t (Drops rank) = map (dropped_with rank) t.courses

-- all of it after one more event
abbrev pub told_after : Told → Event → Told
told_after t e = record { state = after t.state e; courses = courses_after t e }

-- all of it after a list of events
abbrev pub told : Told → List Event → Told
told t [] = t
told t (e ∷ es) = told (told_after t e) es

-- the story of a rank in a world of so many ranks
abbrev pub story : (ranks : ℕ) → List Event → Told
story ranks events = told (record { state = opening ranks; courses = [] }) events

-- WHAT A STORY MEETS

-- the collections of courses whose data are still to come
abbrev pub waiting_among : List Course → List Collecting
waiting_among [] = []
waiting_among (c ∷ cs) =
    if is_waiting c.stage
    then (record {
      limit = c.limit;
      source = c.source;
      transfer = c.transfer;
      request = c.request;
      basic = c.basic;
      total = c.total;
      bytes = bytes_so_far c.pieces;
    }) ∷ waiting_among cs
    else waiting_among cs

-- A message is handed out: it is that of one course that waited, and is given with this piece; its elements stand in
-- the bytes of just the pieces that were taken for it, in order, and these are as many bytes as were announced
pub record IsHandedOut (old new : List Course) (out : Collected) : Type 0 where
  pub place : ℕ
  pub course : Course
  pub piece : List ℕ
  pub before : slice_get old place ≡ Some course
  pub waited : course.stage ≡ Waiting
  pub now : slice_get new place ≡ Some (record course { pieces = course.pieces ++ piece ∷ []; stage = Given })
  pub whole : length (bytes_so_far (course.pieces ++ piece ∷ [])) ≡ course.total
  pub message : out ≡ record {
    request = course.request;
    elements =
        record {
          basic = course.basic;
          values =
              values_of (size_of course.basic) (bytes_so_far (course.pieces ++ piece ∷ []));
        };
  }

-- no course of the rank waits for data
abbrev pub NoneWaits : (rank : ℕ) → List Course → Type 0
NoneWaits rank [] = Unit {0}
NoneWaits rank (c ∷ cs) = ((is_waiting c.stage && (c.source == rank)) ≡ false) × NoneWaits rank cs

-- What a rank collects is what waits for data. What an event hands out is the message of one course that waited. A
-- course that doesn't wait never changes again, so it is handed out at most once. When a rank is known at a new
-- incarnation, no course of it waits any more, so nothing is handed out for those that there were.
pub record IsWholeOrNothing (t : Told) : Type 0 where
  pub collected : waiting_among t.courses ≡ t.state.collections
  pub handed : (e : Event) → IfSome (handed_out_by t.state e) (IsHandedOut t.courses (told_after t e).courses)
  pub once : (later : List Event) (place : ℕ) (c : Course) → slice_get t.courses place ≡ Some c → c.stage ≢ Waiting →
      slice_get (told t later).courses place ≡ Some c
  pub dropped : (rank : ℕ) → NoneWaits rank (told_after t (Drops rank)).courses
