-- What names stand for once the machine has answered.
use Rattle.std.proofs.Common.{◌≡◌, ℕ, List, Option, Some, None, refl, sym, ap, ◌∙◌, subst}
use Rattle.std.specs.Prelude.{slice_get}
use Rattle.layouts.specs.Buffers.{Contents}
use Rattle.perfect_groups.specs.Membership as machine
use Rattle.observation.specs.CoreCalls.{outcome_seen}
use Rattle.observation.specs.Endings.{ending_is}
use Rattle.collective_steps.specs.declared.step.Ending.{Ending}
use Rattle.collective_steps.specs.declared.step.Ending.TheVariants as endings
use Rattle.communicators.specs.declared.question.Question.TheVariants as questions
use Rattle.engine_calls.specs.declared.call.Call.TheVariants as calls
use Rattle.engine_calls.specs.declared.reply.Reply.TheVariants as replies
use Rattle.requests.specs.declared.answer.Answer.TheVariants as answers
use Rattle.requests.specs.declared.outcome.Outcome.{Outcome}
use Rattle.requests.specs.declared.outcome.Outcome.TheVariants as outcomes
use Rattle.requests.specs.declared.table.Request.{Request}
use Rattle.script_calls.specs.NamedThings.{null}
use Rattle.script_calls.specs.Tables.{value_at}
use Rattle.script_calls.specs.declared.pending.NamedMessage.TheVariants as messages
use Rattle.script_calls.specs.declared.pending.Pending.{Pending}
use Rattle.script_calls.specs.declared.pending.Pending.TheVariants as pendings
use Rattle.statements.specs.declared.action.RequestName.{RequestName}
use Rattle.statements.specs.declared.action.RequestName.TheVariants as requested
use Rattle.vocabulary.specs.declared.envelope.Status.{Status}
use Rattle.interpreter.specs.Answers.{ends_named_one, hears, returned}
use Rattle.interpreter.specs.NamesState.{NamesState, with_message, with_request}
use Rattle.interpreter.specs.declared.steps.NextStep.TheVariants as nexts
use Rattle.interpreter.specs.declared.steps.Told.TheVariants as tolds
use Rattle.script_calls.specs.OutcomeTexts.{status_after}
use Rattle.proof_interpreter.specs.Answers.{AnswersAreKept, AnyIsKept}
use Rattle.proof_interpreter.specs.Answers.{LandingsAreKept, OneHasEnded, UnnamedWaitsAreKept, WaitsAreKept, IsGiven}
use Rattle.proof_interpreter.specs.Answers.{NullWaitsAreKept, SilentRepliesChangeNothing, IsNobodys}
use Rattle.proof_interpreter.specs.Names.{OthersStay, started_with}
use Rattle.proof_interpreter.proofs.Frames.{buffer_set, communicator_set, last_set, message_set, request_set, untouched}
use Rattle.proof_interpreter.proofs.OutcomeLaws.{come, come_last, is_null, keeps_last, keeps_messages, last_so, told_so}
use Rattle.proof_interpreter.proofs.Several.{all_end, told_each}
use Rattle.proof_interpreter.proofs.Tables.{value_set}

-- ---- one request

waits : WaitsAreKept
waits s name o = (
  record {
    null = is_null s name (started_with s name) o;
    come =
        come_last s (returned (started_with s name) o (with_request s name null)) (Some name) (started_with s name) None
        (outcome_seen o) (status_after s.last o)
        (come s (with_request s name null) (Some name) (started_with s name) None o (request_set s name null));
    told = told_so o;
  },
  last_so s.last o,
)

null_waits : NullWaitsAreKept
null_waits s o = (
  last_set s (returned None o s) None None None None (status_after s.last o) (others_of o),
  last_so s.last o,
)
  where
    others_of : (o : Outcome) → OthersStay s (returned None o s) None None None None
    others_of outcomes.Sent = untouched s None None None None
    others_of (outcomes.Received status v) = untouched s None None None None
    others_of (outcomes.Ended failure status v) = untouched s None None None None
    others_of (outcomes.Replaced None) = untouched s None None None None
    others_of (outcomes.Replaced (Some v)) = untouched s None None None None
    others_of (outcomes.Cancelled v) = untouched s None None None None
    others_of outcomes.Empty = untouched s None None None None

unnamed_waits : UnnamedWaitsAreKept
unnamed_waits s buffer o = record {
  come =
      come_last s (returned buffer o s) None buffer None (outcome_seen o) (status_after s.last o)
      (come s s None buffer None o (untouched s None None None None));
  last = last_so s.last o;
  told = told_so o;
}

landings : LandingsAreKept
landings s name buffer o = record {
  ended =
      ap (λ t. value_at t name) (keeps_messages (Some buffer) o (with_message s name messages.Ended)) ∙
      value_set s.messages name messages.Ended;
  come =
      come_last s (returned (Some buffer) o (with_message s name messages.Ended)) None (Some buffer) (Some name)
      (outcome_seen o) (status_after s.last o)
      (come s (with_message s name messages.Ended) None (Some buffer) (Some name) o
      (message_set s name messages.Ended));
  last = last_so s.last o;
  told = told_so o;
}

any_one : (s : NamesState) (name : List ℕ) (o : Outcome) (r : Option RequestName) → r ≡ Some (requested.Named name) →
    OneHasEnded s name (outcome_seen o) (ends_named_one r o s) × ((ends_named_one r o s).1.last ≡ s.last)
any_one s name o r e =
    subst
    (λ (q : Option RequestName).
    OneHasEnded s name (outcome_seen o) (ends_named_one q o s) × ((ends_named_one q o s).1.last ≡ s.last))
    (sym e) (
      record {
        null = is_null s name (started_with s name) o;
        come = come s (with_request s name null) (Some name) (started_with s name) None o (request_set s name null);
        told = told_so o;
      },
      keeps_last (started_with s name) o (with_request s name null),
    )

any_of : AnyIsKept
any_of s rs index name o e = any_one s name o (slice_get rs index) e

-- ---- collectives

given : (s : NamesState) (name : List ℕ) (elements : Contents) (e : Ending) →
    ending_is e ≡ machine.Left (Some elements) →
    IsGiven s (hears (pendings.Entering (Some name)) (replies.Left e) s).1 name elements
given s name elements (endings.Left None) so = absurd cc
given s name elements (endings.Left (Some v)) so =
    let same : v ≡ elements = cc in
    record {
      holds = value_set s.buffers name (Some v) ∙ ap (λ (x : Contents). Some (Some x)) same;
      others = buffer_set s s None None None name (Some v) (untouched s None None None None);
      last = refl;
    }
given s name elements (endings.Comm place) so = absurd cc
given s name elements endings.Replaced so = absurd cc
given s name elements endings.Mismatch so = absurd cc

gives_none : (s : NamesState) (p : Pending) → hears p (replies.Left (endings.Left None)) s ≡ (nexts.Nothing, s)
gives_none s pendings.Nothing = refl
gives_none s (pendings.Starting name buffer) = refl
gives_none s (pendings.StartingToWait buffer) = refl
gives_none s (pendings.Waiting r) = refl
gives_none s (pendings.WaitingUnnamed buffer) = refl
gives_none s (pendings.WaitingForSeveral several) = refl
gives_none s (pendings.Searching name) = refl
gives_none s (pendings.Receiving name buffer) = refl
gives_none s (pendings.Making name) = refl
gives_none s (pendings.Seating name place) = refl
gives_none s (pendings.Entering None) = refl
gives_none s (pendings.Entering (Some name)) = refl
gives_none s (pendings.AskingRank comm) = refl
gives_none s (pendings.AskingSize rank) = refl
gives_none s pendings.Oversized = refl

nothing : (s : NamesState) (p : Pending) (e : Ending) → ending_is e ≡ machine.Left None →
    hears p (replies.Left e) s ≡ (nexts.Nothing, s)
nothing s p (endings.Left None) so = gives_none s p
nothing s p (endings.Left (Some v)) so = absurd cc
nothing s p (endings.Comm place) so = absurd cc
nothing s p endings.Replaced so = absurd cc
nothing s p endings.Mismatch so = absurd cc

failed : (s : NamesState) (p : Pending) (e : Ending) (number : ℕ) → ending_is e ≡ machine.Failed number →
    hears p (replies.Left e) s ≡ (nexts.Told (tolds.Error number), s)
failed s p (endings.Left elements) number so = absurd cc
failed s p (endings.Comm place) number so = absurd cc
failed s p endings.Replaced number so =
    let same : 11 ≡ number = cc in
    ap (λ (n : ℕ). (nexts.Told (tolds.Error n), s)) same
failed s p endings.Mismatch number so =
    let same : 12 ≡ number = cc in
    ap (λ (n : ℕ). (nexts.Told (tolds.Error n), s)) same

asks_for_rank : (s : NamesState) (name : List ℕ) (place : ℕ) (e : Ending) → ending_is e ≡ machine.Comm (Some place) →
    hears (pendings.Making name) (replies.Left e) s ≡
    (nexts.Call (record { call = calls.Ask (Some place) questions.Rank; pending = pendings.Seating name place }), s)
asks_for_rank s name place (endings.Left elements) so = absurd cc
asks_for_rank s name place (endings.Comm None) so = absurd cc
asks_for_rank s name place (endings.Comm (Some at)) so =
    let same : at ≡ place = cc in
    ap (λ (n : ℕ). (
      nexts.Call (record { call = calls.Ask (Some n) questions.Rank; pending = pendings.Seating name n }),
      s,
    )) same
asks_for_rank s name place endings.Replaced so = absurd cc
asks_for_rank s name place endings.Mismatch so = absurd cc

makes_none : (s : NamesState) (name : List ℕ) (e : Ending) → ending_is e ≡ machine.Comm None →
    IsNobodys s (hears (pendings.Making name) (replies.Left e) s).1 name
makes_none s name (endings.Left elements) so = absurd cc
makes_none s name (endings.Comm None) so = record {
  named = value_set s.communicators name None;
  others = communicator_set s name None;
  last = refl;
}
makes_none s name (endings.Comm (Some place)) so = absurd cc
makes_none s name endings.Replaced so = absurd cc
makes_none s name endings.Mismatch so = absurd cc

silent : SilentRepliesChangeNothing
silent s p (replies.Started q) t = elim t [ ]
silent s p (replies.Done (answers.One o)) t = elim t [ ]
silent s p (replies.Done (answers.Index i o)) t = elim t [ ]
silent s p (replies.Done answers.IndexUndefined) t = refl
silent s p (replies.Done (answers.All os)) t = elim t [ ]
silent s p replies.Pending t = refl
silent s p replies.Accepted t = refl
silent s p replies.Blocked t = refl
silent s p (replies.Left e) t = elim t [ ]
silent s p (replies.Fact fact) t = elim t [ ]
silent s p (replies.Probed found) t = elim t [ ]
silent s p (replies.Matched found) t = elim t [ ]
silent s p (replies.Refused why call) t = elim t [ ]

pub answers_are_kept : AnswersAreKept
answers_are_kept = record {
  starts =
      λ (s : NamesState) (name : List ℕ) (buffer : Option (List ℕ)) (q : Request).
      record {
        named = value_set s.requests name (record { request = Some q; buffer = buffer });
        others = request_set s name (record { request = Some q; buffer = buffer });
        last = refl;
      };
  unnamed_starts = λ (s : NamesState) (buffer : Option (List ℕ)) (q : Request). refl;
  waits = waits;
  null_waits = null_waits;
  unnamed_waits = unnamed_waits;
  landings = landings;
  any_of = any_of;
  all_of = λ s rs os apart long. (all_end rs os s apart, told_each rs os s long);
  probes =
      record {
        found = λ (s : NamesState) (p : Pending) (status : Status). refl;
        none = λ (s : NamesState) (p : Pending). refl;
        unmatched = λ (s : NamesState) (p : Pending). refl;
      };
  matches =
      λ (s : NamesState) (name : List ℕ) (message : Option Request) (status : Status).
      record {
        named = value_set s.messages name (messages.TakenOut message);
        others =
            last_set s (with_message s name (messages.TakenOut message)) None None (Some name) None status
            (message_set s name (messages.TakenOut message));
        last = refl;
      };
  collectives = record { given = given; nothing = nothing; failed = failed };
  communicators =
      record {
        asks = asks_for_rank;
        made =
            λ (s : NamesState) (name : List ℕ) (place rank : ℕ).
            record {
              named = value_set s.communicators name (Some (record { place = place; rank = rank }));
              others = communicator_set s name (Some (record { place = place; rank = rank }));
              last = refl;
            };
        none = makes_none;
        size = λ (s : NamesState) (comm : Option ℕ) (rank : ℕ). refl;
        position = λ (s : NamesState) (rank size : ℕ). refl;
      };
  silent = silent;
}
