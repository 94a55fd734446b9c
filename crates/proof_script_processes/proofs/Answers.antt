-- What is made of an answer is the same with other requests; and where it is a call, that is covered, and leads to
-- fewer calls.
use Rattle.std.proofs.Common.{◌≡◌, ℕ, ◌<◌, List, [], ◌∷◌, Option, Some, None, option_map, slice_get, refl, ap, ap₂, ◌∙◌}
use Rattle.std.proofs.Common.{arith}
use Rattle.collective_steps.specs.declared.step.Ending.{Ending}
use Rattle.collective_steps.specs.declared.step.Ending.TheVariants as endings
use Rattle.datatypes.specs.Contents.{Contents}
use Rattle.engine_calls.specs.declared.call.Call.{Call}
use Rattle.engine_calls.specs.declared.call.Call.TheVariants as calls
use Rattle.engine_calls.specs.declared.reply.Fact.{Fact}
use Rattle.engine_calls.specs.declared.reply.Fact.TheVariants as facts
use Rattle.engine_calls.specs.declared.reply.Reply.{Reply}
use Rattle.engine_calls.specs.declared.reply.Reply.TheVariants as replies
use Rattle.interpreter.specs.Answers.{Hears, counts, elements_taken, ended_each, ended_named, ends_all, ends_at}
use Rattle.interpreter.specs.Answers.{ends_by, ends_message, ends_named_one, ends_one, ends_requested, ends_with}
use Rattle.interpreter.specs.Answers.{error_told, errors_told, finds, goes_on, hears, hears_match, hears_probe}
use Rattle.interpreter.specs.Answers.{communicator_taken, held_buffer, learns, leaves, lent_by, returned, starts}
use Rattle.interpreter.specs.Answers.{taken_back, takes_communicator, takes_elements, tells, unawaited, with_error}
use Rattle.interpreter.specs.NamesState.{NamesState, given_back, with_message, with_request}
use Rattle.interpreter.specs.declared.steps.NextStep.{NextStep}
use Rattle.interpreter.specs.declared.steps.NextStep.TheVariants as nexts
use Rattle.interpreter.specs.declared.steps.Told.TheVariants as tolds
use Rattle.observation.specs.EngineCalls.{call_seen}
use Rattle.proof_one_meaning.specs.AccountViews.{IsCovered}
use Rattle.point_to_point_calls.specs.Refusals.{number_of_refusal}
use Rattle.requests.specs.declared.answer.Answer.{Answer}
use Rattle.requests.specs.declared.answer.Answer.TheVariants as answers
use Rattle.requests.specs.declared.outcome.Outcome.{Outcome}
use Rattle.requests.specs.declared.outcome.Outcome.TheVariants as outcomes
use Rattle.requests.specs.declared.table.Request.{Request}
use Rattle.script_calls.specs.NamedThings.{null}
use Rattle.script_calls.specs.OutcomeTexts.{error_of, status_after}
use Rattle.script_calls.specs.declared.pending.NamedMessage.TheVariants as messages
use Rattle.script_calls.specs.declared.pending.Pending.{Pending}
use Rattle.script_calls.specs.declared.pending.Pending.TheVariants as pendings
use Rattle.statements.specs.declared.action.RequestName.{RequestName}
use Rattle.statements.specs.declared.action.RequestName.TheVariants as requested
use Rattle.vocabulary.specs.declared.envelope.Status.{Status}
use Rattle.proof_script_processes.specs.RequestChanges.{changed_call, changed_found, changed_names, changed_next}
use Rattle.proof_script_processes.specs.RequestChanges.{changed_reply}
use Rattle.proof_script_processes.specs.Processes.{steps_for}
use Rattle.proof_script_processes.proofs.Tables.{buffer_same, with_message_same, with_request_same}

-- what is made of an answer, with other requests
abbrev pub changed_hears : (Request → Request) → Hears → Hears
changed_hears change made = (changed_next change made.0, changed_names change made.1)

-- a call that follows from the answer to such a one is covered, and fewer follow from its own
abbrev pub IsNext : Pending → NextStep → Type 0
IsNext p nexts.Nothing = Unit {0}
IsNext p (nexts.Call made) =
    IsCovered (call_seen made.call) × (steps_for (Some made.pending) < steps_for (Some p))
IsNext p (nexts.Told told) = Unit {0}

-- both together
abbrev pub Goes : (Request → Request) → Pending → (changed made : Hears) → Type 0
Goes change p changed made = (changed ≡ changed_hears change made) × IsNext p made.0

-- STARTS

starts_go : (change : Request → Request) (p : Pending) (q : Request) (s : NamesState) →
    Goes change p (starts p (change q) (changed_names change s)) (starts p q s)
starts_go change pendings.Nothing q s = (refl, tt)
starts_go change (pendings.Starting n b) q s =
    (ap goes_on (with_request_same change s n (record { request = Some q; buffer = b })), tt)
starts_go change (pendings.StartingToWait b) q s = (refl, (tt, omega arith))
starts_go change (pendings.Waiting r) q s = (refl, tt)
starts_go change (pendings.WaitingUnnamed b) q s = (refl, tt)
starts_go change (pendings.WaitingForSeveral rs) q s = (refl, tt)
starts_go change (pendings.Searching n) q s = (refl, tt)
starts_go change (pendings.Receiving n b) q s = (refl, tt)
starts_go change (pendings.Making n) q s = (refl, tt)
starts_go change (pendings.Seating n place) q s = (refl, tt)
starts_go change (pendings.Entering n) q s = (refl, tt)
starts_go change (pendings.AskingRank comm) q s = (refl, tt)
starts_go change (pendings.AskingSize rank) q s = (refl, tt)
starts_go change pendings.Oversized q s = (refl, tt)

-- BUFFERS THAT COME BACK

given_same : (change : Request → Request) (s : NamesState) (name : Option (List ℕ)) (b : Contents) →
    given_back (changed_names change s) name b ≡ changed_names change (given_back s name b)
given_same change s None b = refl
given_same change s (Some name) b = refl

returned_same : (change : Request → Request) (name : Option (List ℕ)) (o : Outcome) (s : NamesState) →
    returned name o (changed_names change s) ≡ changed_names change (returned name o s)
returned_same change name outcomes.Sent s = refl
returned_same change name (outcomes.Received status b) s = given_same change s name b
returned_same change name (outcomes.Ended why status b) s = given_same change s name b
returned_same change name (outcomes.Replaced None) s = refl
returned_same change name (outcomes.Replaced (Some b)) s = given_same change s name b
returned_same change name (outcomes.Cancelled b) s = given_same change s name b
returned_same change name outcomes.Empty s = refl

back_same : (change : Request → Request) (p : Pending) (call : Call) (s : NamesState) →
    taken_back p (changed_call change call) (changed_names change s) ≡ changed_names change (taken_back p call s)
back_same change p (calls.Isend x) s = refl
back_same change p (calls.Irecv x) s = given_same change s (lent_by p) x.into.buffer
back_same change p (calls.Wait q) s = refl
back_same change p (calls.Test q) s = refl
back_same change p (calls.Waitany qs) s = refl
back_same change p (calls.Waitall qs) s = refl
back_same change p (calls.Cancel q) s = refl
back_same change p (calls.Enter comm entry) s = refl
back_same change p (calls.Ask comm q) s = refl
back_same change p (calls.Iprobe x) s = refl
back_same change p (calls.Improbe x) s = refl
back_same change p (calls.Mrecv message into) s = given_same change s (lent_by p) into.buffer

-- PROBES

probe_go : (change : Request → Request) (p : Pending) (found : Option Status) (s : NamesState) →
    Goes change p (hears_probe found (changed_names change s)) (hears_probe found s)
probe_go change p None s = (refl, tt)
probe_go change p (Some status) s = (refl, tt)

finds_go : (change : Request → Request) (p : Pending) (message : Option Request) (status : Status) (s : NamesState) →
    Goes change p (finds p (option_map change message, status) (changed_names change s)) (finds p (message, status) s)
finds_go change pendings.Nothing message status s = (refl, tt)
finds_go change (pendings.Starting n b) message status s = (refl, tt)
finds_go change (pendings.StartingToWait b) message status s = (refl, tt)
finds_go change (pendings.Waiting r) message status s = (refl, tt)
finds_go change (pendings.WaitingUnnamed b) message status s = (refl, tt)
finds_go change (pendings.WaitingForSeveral rs) message status s = (refl, tt)
finds_go change (pendings.Searching n) message status s = (
  ap (λ (x : NamesState). goes_on (record x { last = status }))
      (with_message_same change s n (messages.TakenOut message)),
  tt,
)
finds_go change (pendings.Receiving n b) message status s = (refl, tt)
finds_go change (pendings.Making n) message status s = (refl, tt)
finds_go change (pendings.Seating n place) message status s = (refl, tt)
finds_go change (pendings.Entering n) message status s = (refl, tt)
finds_go change (pendings.AskingRank comm) message status s = (refl, tt)
finds_go change (pendings.AskingSize rank) message status s = (refl, tt)
finds_go change pendings.Oversized message status s = (refl, tt)

match_go : (change : Request → Request) (p : Pending) (found : Option (Option Request × Status)) (s : NamesState) →
    Goes change p (hears_match p (changed_found change found) (changed_names change s)) (hears_match p found s)
match_go change p None s = (refl, tt)
match_go change p (Some found) s = finds_go change p found.0 found.1 s

-- OUTCOMES

error_same : (change : Request → Request) (e : Option ℕ) → error_told e ≡ changed_next change (error_told e)
error_same change None = refl
error_same change (Some number) = refl

error_next : (p : Pending) (e : Option ℕ) → IsNext p (error_told e)
error_next p None = tt
error_next p (Some number) = tt

errors_same : (change : Request → Request) (es : List ℕ) → errors_told es ≡ changed_next change (errors_told es)
errors_same change [] = refl
errors_same change (e ∷ es) = refl

errors_next : (p : Pending) (es : List ℕ) → IsNext p (errors_told es)
errors_next p [] = tt
errors_next p (e ∷ es) = tt

with_same : (change : Request → Request) (name : Option (List ℕ)) (o : Outcome) (s : NamesState) →
    ends_with name o (changed_names change s) ≡ changed_hears change (ends_with name o s)
with_same change name o s =
    ap₂ (λ (h : NextStep) (n : NamesState). (h, record n { last = status_after s.last o }))
    (error_same change (error_of o)) (returned_same change name o s)

requested_go : (change : Request → Request) (p : Pending) (r : RequestName) (o : Outcome) (s : NamesState) →
    Goes change p (ends_requested r o (changed_names change s)) (ends_requested r o s)
requested_go change p requested.Null o s = (with_same change None o s, error_next p (error_of o))
requested_go change p (requested.Named name) o s = (
  ap₂ (λ (b : Option (List ℕ)) (n : NamesState). ends_with b o n) (buffer_same change s name)
      (with_request_same change s name null)
      ∙ with_same change (held_buffer s name) o (with_request s name null),
  error_next p (error_of o),
)

message_go : (change : Request → Request) (p : Pending) (name buffer : List ℕ) (o : Outcome) (s : NamesState) →
    Goes change p (ends_message name buffer o (changed_names change s)) (ends_message name buffer o s)
message_go change p name buffer o s = (
  ap (λ (n : NamesState). ends_with (Some buffer) o n) (with_message_same change s name messages.Ended)
      ∙ with_same change (Some buffer) o (with_message s name messages.Ended),
  error_next p (error_of o),
)

one_go : (change : Request → Request) (p : Pending) (o : Outcome) (s : NamesState) →
    Goes change p (ends_one p o (changed_names change s)) (ends_one p o s)
one_go change pendings.Nothing o s = (refl, tt)
one_go change (pendings.Starting n b) o s = (refl, tt)
one_go change (pendings.StartingToWait b) o s = (refl, tt)
one_go change (pendings.Waiting r) o s = requested_go change (pendings.Waiting r) r o s
one_go change (pendings.WaitingUnnamed b) o s =
    (with_same change b o s, error_next (pendings.WaitingUnnamed b) (error_of o))
one_go change (pendings.WaitingForSeveral rs) o s = (refl, tt)
one_go change (pendings.Searching n) o s = (refl, tt)
one_go change (pendings.Receiving n b) o s = message_go change (pendings.Receiving n b) n b o s
one_go change (pendings.Making n) o s = (refl, tt)
one_go change (pendings.Seating n place) o s = (refl, tt)
one_go change (pendings.Entering n) o s = (refl, tt)
one_go change (pendings.AskingRank comm) o s = (refl, tt)
one_go change (pendings.AskingSize rank) o s = (refl, tt)
one_go change pendings.Oversized o s = (refl, tt)

ended_same : (change : Request → Request) (r : RequestName) (o : Outcome) (s : NamesState) →
    ended_named r o (changed_names change s) ≡ changed_names change (ended_named r o s)
ended_same change requested.Null o s = refl
ended_same change (requested.Named name) o s =
    ap₂ (λ (b : Option (List ℕ)) (n : NamesState). returned b o n) (buffer_same change s name)
    (with_request_same change s name null)
    ∙ returned_same change (held_buffer s name) o (with_request s name null)

named_go : (change : Request → Request) (p : Pending) (r : Option RequestName) (o : Outcome) (s : NamesState) →
    Goes change p (ends_named_one r o (changed_names change s)) (ends_named_one r o s)
named_go change p None o s = (refl, tt)
named_go change p (Some r) o s = (
  ap₂ (λ (h : NextStep) (n : NamesState). (h, n)) (error_same change (error_of o)) (ended_same change r o s),
  error_next p (error_of o),
)

at_go : (change : Request → Request) (p : Pending) (i : ℕ) (o : Outcome) (s : NamesState) →
    Goes change p (ends_at p i o (changed_names change s)) (ends_at p i o s)
at_go change pendings.Nothing i o s = (refl, tt)
at_go change (pendings.Starting n b) i o s = (refl, tt)
at_go change (pendings.StartingToWait b) i o s = (refl, tt)
at_go change (pendings.Waiting r) i o s = (refl, tt)
at_go change (pendings.WaitingUnnamed b) i o s = (refl, tt)
at_go change (pendings.WaitingForSeveral rs) i o s =
    named_go change (pendings.WaitingForSeveral rs) (slice_get rs i) o s
at_go change (pendings.Searching n) i o s = (refl, tt)
at_go change (pendings.Receiving n b) i o s = (refl, tt)
at_go change (pendings.Making n) i o s = (refl, tt)
at_go change (pendings.Seating n place) i o s = (refl, tt)
at_go change (pendings.Entering n) i o s = (refl, tt)
at_go change (pendings.AskingRank comm) i o s = (refl, tt)
at_go change (pendings.AskingSize rank) i o s = (refl, tt)
at_go change pendings.Oversized i o s = (refl, tt)

each_same : (change : Request → Request) (rs : List RequestName) (os : List Outcome) (s : NamesState) →
    ended_each rs os (changed_names change s) ≡ ((ended_each rs os s).0, (changed_names change) (ended_each rs os s).1)
each_same change [] os s = refl
each_same change (r ∷ rs) [] s = refl
each_same change (r ∷ rs) (o ∷ os) s =
    ap (λ (x : List ℕ × NamesState). (with_error (error_of o) x.0, x.1))
    (ap (λ (n : NamesState). ended_each rs os n) (ended_same change r o s) ∙
    each_same change rs os (ended_named r o s))

several_go : (change : Request → Request) (p : Pending) (rs : List RequestName) (os : List Outcome) (s : NamesState) →
    Goes change p (
      errors_told (ended_each rs os (changed_names change s)).0,
      (ended_each rs os (changed_names change s)).1,
    ) (errors_told (ended_each rs os s).0, (ended_each rs os s).1)
several_go change p rs os s = (
  ap (λ (x : List ℕ × NamesState). (errors_told x.0, x.1)) (each_same change rs os s)
      ∙ ap (λ (h : NextStep). (h, changed_names change (ended_each rs os s).1))
      (errors_same change (ended_each rs os s).0),
  errors_next p (ended_each rs os s).0,
)

all_go : (change : Request → Request) (p : Pending) (os : List Outcome) (s : NamesState) →
    Goes change p (ends_all p os (changed_names change s)) (ends_all p os s)
all_go change pendings.Nothing os s = (refl, tt)
all_go change (pendings.Starting n b) os s = (refl, tt)
all_go change (pendings.StartingToWait b) os s = (refl, tt)
all_go change (pendings.Waiting r) os s = (refl, tt)
all_go change (pendings.WaitingUnnamed b) os s = (refl, tt)
all_go change (pendings.WaitingForSeveral rs) os s = several_go change (pendings.WaitingForSeveral rs) rs os s
all_go change (pendings.Searching n) os s = (refl, tt)
all_go change (pendings.Receiving n b) os s = (refl, tt)
all_go change (pendings.Making n) os s = (refl, tt)
all_go change (pendings.Seating n place) os s = (refl, tt)
all_go change (pendings.Entering n) os s = (refl, tt)
all_go change (pendings.AskingRank comm) os s = (refl, tt)
all_go change (pendings.AskingSize rank) os s = (refl, tt)
all_go change pendings.Oversized os s = (refl, tt)

done_go : (change : Request → Request) (p : Pending) (a : Answer) (s : NamesState) →
    Goes change p (ends_by p a (changed_names change s)) (ends_by p a s)
done_go change p (answers.One o) s = one_go change p o s
done_go change p (answers.Index i o) s = at_go change p i o s
done_go change p answers.IndexUndefined s = (refl, tt)
done_go change p (answers.All os) s = all_go change p os s

-- COLLECTIVES AND COMMUNICATORS

taken_same : (change : Request → Request) (name : Option (List ℕ)) (b : Option Contents) (s : NamesState) →
    elements_taken name b (changed_names change s) ≡ changed_names change (elements_taken name b s)
taken_same change name None s = refl
taken_same change name (Some b) s = given_same change s name b

unawaited_go : (change : Request → Request) (p : Pending) (b : Option Contents) (s : NamesState) →
    Goes change p (unawaited b, changed_names change s) (unawaited b, s)
unawaited_go change p None s = (refl, tt)
unawaited_go change p (Some b) s = (refl, tt)

elements_go : (change : Request → Request) (p : Pending) (b : Option Contents) (s : NamesState) →
    Goes change p (takes_elements p b (changed_names change s)) (takes_elements p b s)
elements_go change pendings.Nothing b s = unawaited_go change pendings.Nothing b s
elements_go change (pendings.Starting n lent) b s = unawaited_go change (pendings.Starting n lent) b s
elements_go change (pendings.StartingToWait lent) b s = unawaited_go change (pendings.StartingToWait lent) b s
elements_go change (pendings.Waiting r) b s = unawaited_go change (pendings.Waiting r) b s
elements_go change (pendings.WaitingUnnamed lent) b s = unawaited_go change (pendings.WaitingUnnamed lent) b s
elements_go change (pendings.WaitingForSeveral rs) b s = unawaited_go change (pendings.WaitingForSeveral rs) b s
elements_go change (pendings.Searching n) b s = unawaited_go change (pendings.Searching n) b s
elements_go change (pendings.Receiving n lent) b s = unawaited_go change (pendings.Receiving n lent) b s
elements_go change (pendings.Making n) b s = unawaited_go change (pendings.Making n) b s
elements_go change (pendings.Seating n place) b s = unawaited_go change (pendings.Seating n place) b s
elements_go change (pendings.Entering n) b s = (ap goes_on (taken_same change n b s), tt)
elements_go change (pendings.AskingRank comm) b s = unawaited_go change (pendings.AskingRank comm) b s
elements_go change (pendings.AskingSize rank) b s = unawaited_go change (pendings.AskingSize rank) b s
elements_go change pendings.Oversized b s = unawaited_go change pendings.Oversized b s

seated_go : (change : Request → Request) (name : List ℕ) (place : Option ℕ) (s : NamesState) →
    Goes change (pendings.Making name) (communicator_taken name place (changed_names change s))
    (communicator_taken name place s)
seated_go change name None s = (refl, tt)
seated_go change name (Some place) s = (refl, (tt, omega arith))

seat_go : (change : Request → Request) (p : Pending) (place : Option ℕ) (s : NamesState) →
    Goes change p (takes_communicator p place (changed_names change s)) (takes_communicator p place s)
seat_go change pendings.Nothing place s = (refl, tt)
seat_go change (pendings.Starting n b) place s = (refl, tt)
seat_go change (pendings.StartingToWait b) place s = (refl, tt)
seat_go change (pendings.Waiting r) place s = (refl, tt)
seat_go change (pendings.WaitingUnnamed b) place s = (refl, tt)
seat_go change (pendings.WaitingForSeveral rs) place s = (refl, tt)
seat_go change (pendings.Searching n) place s = (refl, tt)
seat_go change (pendings.Receiving n b) place s = (refl, tt)
seat_go change (pendings.Making n) place s = seated_go change n place s
seat_go change (pendings.Seating n made) place s = (refl, tt)
seat_go change (pendings.Entering n) place s = (refl, tt)
seat_go change (pendings.AskingRank comm) place s = (refl, tt)
seat_go change (pendings.AskingSize rank) place s = (refl, tt)
seat_go change pendings.Oversized place s = (refl, tt)

leaves_go : (change : Request → Request) (p : Pending) (o : Ending) (s : NamesState) →
    Goes change p (leaves p o (changed_names change s)) (leaves p o s)
leaves_go change p (endings.Left b) s = elements_go change p b s
leaves_go change p (endings.Comm place) s = seat_go change p place s
leaves_go change p endings.Replaced s = (refl, tt)
leaves_go change p endings.Mismatch s = (refl, tt)

counts_go : (change : Request → Request) (p : Pending) (n : ℕ) (s : NamesState) →
    Goes change p (counts p n (changed_names change s)) (counts p n s)
counts_go change pendings.Nothing n s = (refl, tt)
counts_go change (pendings.Starting name b) n s = (refl, tt)
counts_go change (pendings.StartingToWait b) n s = (refl, tt)
counts_go change (pendings.Waiting r) n s = (refl, tt)
counts_go change (pendings.WaitingUnnamed b) n s = (refl, tt)
counts_go change (pendings.WaitingForSeveral rs) n s = (refl, tt)
counts_go change (pendings.Searching name) n s = (refl, tt)
counts_go change (pendings.Receiving name b) n s = (refl, tt)
counts_go change (pendings.Making name) n s = (refl, tt)
counts_go change (pendings.Seating name place) n s = (refl, tt)
counts_go change (pendings.Entering name) n s = (refl, tt)
counts_go change (pendings.AskingRank comm) n s = (refl, (tt, omega arith))
counts_go change (pendings.AskingSize rank) n s = (refl, tt)
counts_go change pendings.Oversized n s = (refl, tt)

learns_go : (change : Request → Request) (p : Pending) (f : Fact) (s : NamesState) →
    Goes change p (learns p f (changed_names change s)) (learns p f s)
learns_go change p (facts.Number n) s = counts_go change p n s
learns_go change p (facts.Ranks ranks) s = (refl, tt)
learns_go change p (facts.Compares c) s = (refl, tt)

-- ALL REPLIES

pub hears_go : (change : Request → Request) (p : Pending) (reply : Reply) (s : NamesState) →
    Goes change p (hears p (changed_reply change reply) (changed_names change s)) (hears p reply s)
hears_go change p (replies.Started q) s = starts_go change p q s
hears_go change p (replies.Done a) s = done_go change p a s
hears_go change p replies.Pending s = (refl, tt)
hears_go change p replies.Accepted s = (refl, tt)
hears_go change p replies.Blocked s = (refl, tt)
hears_go change p (replies.Left o) s = leaves_go change p o s
hears_go change p (replies.Fact f) s = learns_go change p f s
hears_go change p (replies.Probed found) s = probe_go change p found s
hears_go change p (replies.Matched found) s = match_go change p found s
hears_go change p (replies.Refused why call) s =
    (ap (tells (tolds.Error (number_of_refusal why))) (back_same change p call s), tt)
