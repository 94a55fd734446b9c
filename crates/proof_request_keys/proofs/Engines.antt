-- A request that an engine gave stands under its key, as long as it stands: through each event of the engine.
use Rattle.std.proofs.Common.{◌≡◌, ◌<◌, ◌+◌, ℕ, zero, suc, Bool, true, false, ◌&&◌, ◌||◌, not, List, [], ◌∷◌, Option}
use Rattle.std.proofs.Common.{Some, None, refl, sym, ap, subst, ◌∙◌, arith, inl, inr}
use Rattle.std.specs.Prelude.{Result, Ok, Err}
use Rattle.std.specs.List.{list_any}
use Rattle.std.proofs.lemmas.Bool.{eqb-true}
use Rattle.std.proofs.lemmas.Option.{same_Some}
use Rattle.collective_messages.specs.declared.entry.Entry as collectives
use Rattle.rendezvous.specs.Payloads.{Whole}
use Rattle.rendezvous.specs.PayloadState.{is_due, whole_with}
use Rattle.rendezvous.specs.PayloadState as payloads
use Rattle.communicators.specs.declared.question.Question.{Question}
use Rattle.datagram.specs.Spellings.{DataText}
use Rattle.engine.specs.Datagrams.{FollowGives, FollowedBy, HasFollowed, HeardGives, HeardGivesBy, HearingGives}
use Rattle.engine.specs.Datagrams.{IsNoticed, IsPieceTaken, IsTakenInUnless, NoticeText, OfAnnouncement, OfAnswer}
use Rattle.engine.specs.Datagrams.{OfMessage, OfPiece, PieceGivesBy, TurnGives, acknowledged, lesson_alone, news_of}
use Rattle.engine.specs.Datagrams.{notice_in, says_nothing, turn_from}
use Rattle.collective_steps.specs.declared.step.Ending.{Ending}
use Rattle.engine_calls.specs.Calls.{AskingGives, CoreGives, EnteringGives, IsAnswered, IsEntered, LookingGives}
use Rattle.engine_calls.specs.Calls.{reply_on_entry}
use Rattle.engine_calls.specs.EngineState.{EngineState}
use Rattle.engine_calls.specs.Routes.{core_reply}
use Rattle.engine_calls.specs.declared.call.Call.{Call}
use Rattle.engine_calls.specs.declared.call.Call.TheVariants as calls
use Rattle.point_to_point_calls.specs.declared.call.Probe.{Probe}
use Rattle.engine_calls.specs.declared.reply.Reply.{Reply}
use Rattle.engine_calls.specs.declared.reply.Reply.TheVariants as replies
use Rattle.observation.specs.CoreCalls.{has_serial}
use Rattle.point_to_point_calls.specs.CoreCalls as core_answers
use Rattle.point_to_point.specs.CoreState.{CoreState}
use Rattle.requests.specs.Table.{slot_at}
use Rattle.requests.specs.declared.table.TableEntry.{TableEntry}
use Rattle.requests.specs.declared.table.Request.{Request}
use Rattle.sessions.specs.HeardBytes.{
  Acknowledges,
  Follows,
  Hands,
  HeardText,
  Holds,
  Nothing,
  Repeats,
  WordText,
  heard_of,
}
use Rattle.sessions.specs.declared.heard.Unheard.{Unheard}
use Rattle.vocabulary.specs.declared.endpoint.Endpoint.{Endpoint}
use Rattle.proof_request_keys.specs.Keys.{AreGiven, CallsKeepKeys, DatagramsKeepKeys, GivenAreNamed, IsApart, IsBelow}
use Rattle.proof_request_keys.specs.Keys.{IsNamed, KeepsKeys, NamedAreOwn, TicksKeepKeys}
use Rattle.observation.specs.Requests.{request_given}
use Rattle.proof_request_keys.proofs.Cores.{GoesOn, IsNext, StaysIn, as_stays, call_goes_on, news_stay, request_in}
use Rattle.proof_request_keys.proofs.Cores.{same_stays, then_stays, woken_stays}
use Rattle.proof_request_keys.proofs.Tables.{All, At}

-- ---- one core

-- the request and what stands under a key
abbrev Apart : Request → ℕ → ℕ → Type 0
Apart q key serial = serial ≡ q.serial → key ≡ q.key

apart_at : (q : Request) (key : ℕ) (slot : Option TableEntry) → At (Apart q) key slot → IsApart q key slot
apart_at q key None here = tt
apart_at q key (Some t) here = here

at_apart : (q : Request) (key : ℕ) (slot : Option TableEntry) → IsApart q key slot → At (Apart q) key slot
at_apart q key None here = tt
at_apart q key (Some t) here = here

-- of all of a core
named_all : (c : CoreState) (q : Request) → IsNamed c q → All (Apart q) c.slots
named_all c q n key = at_apart q key (slot_at c.slots key) (n.stands key)

all_named : (c : CoreState) (q : Request) → q.serial < c.serial → All (Apart q) c.slots → IsNamed c q
all_named c q given all = record { given = given; stands = λ key. apart_at q key (slot_at c.slots key) (all key) }

-- what starts nothing keeps it
stays_named : (old new : CoreState) → StaysIn old new → KeepsKeys old new
stays_named old new s = record { place = s.place; named = each }
  where
    each : (q : Request) → IsNamed old q → IsNamed new q
    each q n =
        let given : q.serial < old.serial = n.given in
        let same : new.serial ≡ old.serial = s.serial in
        all_named new q (omega (arith, given, same)) (s.all (Apart q) (named_all old q n))

-- and so does a call: what that starts has a later serial
goes_named : (old new : CoreState) (reply : core_answers.CoreReply) → GoesOn old reply new → KeepsKeys old new
goes_named old new reply g = record { place = g.place; named = each }
  where
    each : (q : Request) → IsNamed old q → IsNamed new q
    each q n =
        let given : q.serial < old.serial = n.given in
        let grows = g.grows in
        all_named new q (omega (arith, given, grows))
        (g.all (Apart q) (λ r is same. absurd (omega (arith, given, same))) (named_all old q n))

-- what it starts is named
below_apart : (n : ℕ) (q : Request) (key : ℕ) (slot : Option TableEntry) → q.serial ≡ n → IsBelow n slot →
    At (Apart q) key slot
below_apart n q key None is below = tt
below_apart n q key (Some t) is below = λ same. absurd (omega (arith, is, below, same))

started_named : (old new : CoreState) (reply : core_answers.CoreReply) (q : Request) → AreGiven old →
    GoesOn old reply new → request_in reply ≡ Some q → IsNamed new q
started_named old new reply q given g is =
    let next : IsNext old new q = g.next q is in
    let serial : q.serial ≡ old.serial = next.serial in
    let later : new.serial ≡ old.serial + 1 = next.later in
    all_named new q (omega (arith, serial, later))
    (g.all (Apart q) (λ r r_is same. ap (λ (x : Request). x.key) (same_Some r q (sym r_is ∙ is)))
    (λ key. below_apart old.serial q key (slot_at old.slots key) serial (given key)))

-- ---- calls

-- a call of point to point, or on requests, is answered by the core
answer_named : (old new : EngineState) (call : Call) (reply : Reply) → IsAnswered old call reply new →
    KeepsKeys old.core new.core
answer_named old new call reply a =
    goes_named old.core new.core a.answer (call_goes_on old.core new.core a.asked a.answer a.core)

-- what leaves the core as it was
core_same : (old new : EngineState) → new.core ≡ old.core → KeepsKeys old.core new.core
core_same old new same = stays_named old.core new.core (same_stays old.core new.core same)

core_call_keeps : (old new : EngineState) (call : Call) (reply : Reply) → CoreGives old call reply new →
    KeepsKeys old.core new.core
core_call_keeps old new call (replies.Refused why back) g =
    core_same old new (ap (λ (e : EngineState). e.core) g.unchanged)
core_call_keeps old new call (replies.Started r) g = answer_named old new call (replies.Started r) g
core_call_keeps old new call (replies.Done a) g = answer_named old new call (replies.Done a) g
core_call_keeps old new call replies.Pending g = answer_named old new call replies.Pending g
core_call_keeps old new call replies.Accepted g = answer_named old new call replies.Accepted g
core_call_keeps old new call (replies.Probed found) g = answer_named old new call (replies.Probed found) g
core_call_keeps old new call (replies.Matched found) g = answer_named old new call (replies.Matched found) g
core_call_keeps old new call replies.Blocked g = answer_named old new call replies.Blocked g
core_call_keeps old new call (replies.Left o) g = answer_named old new call (replies.Left o) g
core_call_keeps old new call (replies.Fact f) g = answer_named old new call (replies.Fact f) g

-- the entry of a collective counts transfers alone
entered_keeps : (old new : EngineState) (comm : Option ℕ) (x : collectives.Entry) (reply : Reply) →
    IsEntered old comm x reply new → KeepsKeys old.core new.core
entered_keeps old new comm x reply i =
    stays_named old.core new.core
    (as_stays old.core _ new.core i.core (record { all = λ P all. all; serial = refl; place = refl }))

entry_keeps : (old new : EngineState) (comm : Option ℕ) (x : collectives.Entry) (reply : Reply) →
    EnteringGives old comm x reply new → KeepsKeys old.core new.core
entry_keeps old new comm x (replies.Refused why back) g =
    core_same old new (ap (λ (e : EngineState). e.core) g.unchanged)
entry_keeps old new comm x (replies.Started r) g = entered_keeps old new comm x (replies.Started r) g
entry_keeps old new comm x (replies.Done a) g = entered_keeps old new comm x (replies.Done a) g
entry_keeps old new comm x replies.Pending g = entered_keeps old new comm x replies.Pending g
entry_keeps old new comm x replies.Accepted g = entered_keeps old new comm x replies.Accepted g
entry_keeps old new comm x (replies.Probed found) g = entered_keeps old new comm x (replies.Probed found) g
entry_keeps old new comm x (replies.Matched found) g = entered_keeps old new comm x (replies.Matched found) g
entry_keeps old new comm x replies.Blocked g = entered_keeps old new comm x replies.Blocked g
entry_keeps old new comm x (replies.Left o) g = entered_keeps old new comm x (replies.Left o) g
entry_keeps old new comm x (replies.Fact f) g = entered_keeps old new comm x (replies.Fact f) g

-- a question changes nothing
pub question_same : (old new : EngineState) (comm : Option ℕ) (question : Question) (reply : Reply) →
    AskingGives old comm question reply new → new ≡ old
question_same old new comm question (replies.Refused why back) g = g.unchanged
question_same old new comm question (replies.Started r) g = absurd g
question_same old new comm question (replies.Done a) g = absurd g
question_same old new comm question replies.Pending g = absurd g
question_same old new comm question replies.Accepted g = absurd g
question_same old new comm question (replies.Probed found) g = absurd g
question_same old new comm question (replies.Matched found) g = absurd g
question_same old new comm question replies.Blocked g = absurd g
question_same old new comm question (replies.Left o) g = absurd g
question_same old new comm question (replies.Fact f) g = g.unchanged

-- nor does a probe that takes nothing out
pub look_same : (old new : EngineState) (p : Probe) (reply : Reply) → LookingGives old p reply new → new ≡ old
look_same old new p (replies.Refused why back) g = g.unchanged
look_same old new p (replies.Started r) g = absurd g
look_same old new p (replies.Done a) g = absurd g
look_same old new p replies.Pending g = absurd g
look_same old new p replies.Accepted g = absurd g
look_same old new p (replies.Probed found) g = g.unchanged
look_same old new p (replies.Matched found) g = absurd g
look_same old new p replies.Blocked g = absurd g
look_same old new p (replies.Left o) g = absurd g
look_same old new p (replies.Fact f) g = absurd g

pub calls_keep_keys : CallsKeepKeys
calls_keep_keys old mid (calls.Isend s) reply g = core_call_keeps old mid (calls.Isend s) reply g
calls_keep_keys old mid (calls.Irecv v) reply g = core_call_keeps old mid (calls.Irecv v) reply g
calls_keep_keys old mid (calls.Wait r) reply g = core_call_keeps old mid (calls.Wait r) reply g
calls_keep_keys old mid (calls.Test r) reply g = core_call_keeps old mid (calls.Test r) reply g
calls_keep_keys old mid (calls.Waitany rs) reply g = core_call_keeps old mid (calls.Waitany rs) reply g
calls_keep_keys old mid (calls.Waitall rs) reply g = core_call_keeps old mid (calls.Waitall rs) reply g
calls_keep_keys old mid (calls.Cancel r) reply g = core_call_keeps old mid (calls.Cancel r) reply g
calls_keep_keys old mid (calls.Iprobe p) reply g =
    core_same old mid (ap (λ (e : EngineState). e.core) (look_same old mid p reply g))
calls_keep_keys old mid (calls.Improbe p) reply g = core_call_keeps old mid (calls.Improbe p) reply g
calls_keep_keys old mid (calls.Mrecv r into) reply g = core_call_keeps old mid (calls.Mrecv r into) reply g
calls_keep_keys old mid (calls.Enter comm x) reply g = entry_keeps old mid comm x reply g
calls_keep_keys old mid (calls.Ask comm question) reply g =
    core_same old mid (ap (λ (e : EngineState). e.core) (question_same old mid comm question reply g))

-- ---- what a call gives

-- a reply of the core that gives a request is the reply that gives it
given_in : (reply : Reply) (answer : core_answers.CoreReply) (q : Request) → core_reply reply ≡ Some answer →
    request_given reply ≡ Some q → request_in answer ≡ Some q
given_in (replies.Started r) answer q told is =
    subst (λ (a : core_answers.CoreReply). request_in a ≡ Some q) (same_Some (core_answers.Started r) answer told) is
given_in (replies.Matched found) answer q told is =
    subst (λ (a : core_answers.CoreReply). request_in a ≡ Some q) (same_Some (core_answers.Matched found) answer told)
    is
given_in (replies.Done a) answer q told is = absurd cc
given_in replies.Pending answer q told is = absurd cc
given_in replies.Accepted answer q told is = absurd cc
given_in (replies.Probed found) answer q told is = absurd cc
given_in replies.Blocked answer q told is = absurd cc
given_in (replies.Left o) answer q told is = absurd cc
given_in (replies.Fact f) answer q told is = absurd cc
given_in (replies.Refused why back) answer q told is = absurd cc

answer_given : (old new : EngineState) (call : Call) (reply : Reply) (q : Request) → AreGiven old.core →
    IsAnswered old call reply new → request_given reply ≡ Some q → IsNamed new.core q
answer_given old new call reply q given a is =
    started_named old.core new.core a.answer q given (call_goes_on old.core new.core a.asked a.answer a.core)
    (given_in reply a.answer q a.told is)

core_call_gives : (old new : EngineState) (call : Call) (reply : Reply) (q : Request) → AreGiven old.core →
    CoreGives old call reply new → request_given reply ≡ Some q → IsNamed new.core q
core_call_gives old new call (replies.Started r) q given g is =
    answer_given old new call (replies.Started r) q given g is
core_call_gives old new call (replies.Matched found) q given g is =
    answer_given old new call (replies.Matched found) q given g is
core_call_gives old new call (replies.Refused why back) q given g is = absurd cc
core_call_gives old new call (replies.Done a) q given g is = absurd cc
core_call_gives old new call replies.Pending q given g is = absurd cc
core_call_gives old new call replies.Accepted q given g is = absurd cc
core_call_gives old new call (replies.Probed found) q given g is = absurd cc
core_call_gives old new call replies.Blocked q given g is = absurd cc
core_call_gives old new call (replies.Left o) q given g is = absurd cc
core_call_gives old new call (replies.Fact f) q given g is = absurd cc

-- who enters a collective is given none
entry_gives_none : (old new : EngineState) (comm : Option ℕ) (x : collectives.Entry) (reply : Reply) (q : Request) →
    EnteringGives old comm x reply new → request_given reply ≡ Some q → ⊥
entry_gives_none old new comm x (replies.Started r) q g is = not_so g.ending g.replied
  where
    not_so : (o : Option Ending) → replies.Started r ≡ reply_on_entry o → ⊥
    not_so None h = cc
    not_so (Some o) h = cc
entry_gives_none old new comm x (replies.Matched found) q g is = not_so g.ending g.replied
  where
    not_so : (o : Option Ending) → replies.Matched found ≡ reply_on_entry o → ⊥
    not_so None h = cc
    not_so (Some o) h = cc
entry_gives_none old new comm x (replies.Refused why back) q g is = cc
entry_gives_none old new comm x (replies.Done a) q g is = cc
entry_gives_none old new comm x replies.Pending q g is = cc
entry_gives_none old new comm x replies.Accepted q g is = cc
entry_gives_none old new comm x (replies.Probed found) q g is = cc
entry_gives_none old new comm x replies.Blocked q g is = cc
entry_gives_none old new comm x (replies.Left o) q g is = cc
entry_gives_none old new comm x (replies.Fact f) q g is = cc

-- nor is who asks, or looks
question_gives_none : (old new : EngineState) (comm : Option ℕ) (question : Question) (reply : Reply) (q : Request) →
    AskingGives old comm question reply new → request_given reply ≡ Some q → ⊥
question_gives_none old new comm question (replies.Started r) q g is = g
question_gives_none old new comm question (replies.Matched found) q g is = g
question_gives_none old new comm question (replies.Refused why back) q g is = cc
question_gives_none old new comm question (replies.Done a) q g is = cc
question_gives_none old new comm question replies.Pending q g is = cc
question_gives_none old new comm question replies.Accepted q g is = cc
question_gives_none old new comm question (replies.Probed found) q g is = cc
question_gives_none old new comm question replies.Blocked q g is = cc
question_gives_none old new comm question (replies.Left o) q g is = cc
question_gives_none old new comm question (replies.Fact f) q g is = cc

look_gives_none : (old new : EngineState) (p : Probe) (reply : Reply) (q : Request) → LookingGives old p reply new →
    request_given reply ≡ Some q → ⊥
look_gives_none old new p (replies.Started r) q g is = g
look_gives_none old new p (replies.Matched found) q g is = g
look_gives_none old new p (replies.Refused why back) q g is = cc
look_gives_none old new p (replies.Done a) q g is = cc
look_gives_none old new p replies.Pending q g is = cc
look_gives_none old new p replies.Accepted q g is = cc
look_gives_none old new p (replies.Probed found) q g is = cc
look_gives_none old new p replies.Blocked q g is = cc
look_gives_none old new p (replies.Left o) q g is = cc
look_gives_none old new p (replies.Fact f) q g is = cc

pub given_are_named : GivenAreNamed
given_are_named old mid (calls.Isend s) reply q given g is = core_call_gives old mid (calls.Isend s) reply q given g is
given_are_named old mid (calls.Irecv v) reply q given g is = core_call_gives old mid (calls.Irecv v) reply q given g is
given_are_named old mid (calls.Wait r) reply q given g is = core_call_gives old mid (calls.Wait r) reply q given g is
given_are_named old mid (calls.Test r) reply q given g is = core_call_gives old mid (calls.Test r) reply q given g is
given_are_named old mid (calls.Waitany rs) reply q given g is =
    core_call_gives old mid (calls.Waitany rs) reply q given g is
given_are_named old mid (calls.Waitall rs) reply q given g is =
    core_call_gives old mid (calls.Waitall rs) reply q given g is
given_are_named old mid (calls.Cancel r) reply q given g is =
    core_call_gives old mid (calls.Cancel r) reply q given g is
given_are_named old mid (calls.Improbe p) reply q given g is =
    core_call_gives old mid (calls.Improbe p) reply q given g is
given_are_named old mid (calls.Mrecv r into) reply q given g is =
    core_call_gives old mid (calls.Mrecv r into) reply q given g is
given_are_named old mid (calls.Iprobe p) reply q given g is = absurd (look_gives_none old mid p reply q g is)
given_are_named old mid (calls.Enter comm x) reply q given g is = absurd (entry_gives_none old mid comm x reply q g is)
given_are_named old mid (calls.Ask comm question) reply q given g is =
    absurd (question_gives_none old mid comm question reply q g is)

-- ---- datagrams

-- a message of a collective is taken in
noticed_stays : (old new : EngineState) (before : payloads.State) (h : HeardText) (w : Whole) →
    IsNoticed old before h w new → StaysIn old.core new.core
noticed_stays old new before h w i =
    as_stays old.core _ new.core i.core
    (then_stays old.core _ _ (news_stay old.core (lesson_alone h))
    (record { all = λ P all. all; serial = refl; place = refl }))

piece_stays : (o : Option Whole) (old new : EngineState) (h : HeardText) (t : DataText) → IsPieceTaken o old h t new →
    StaysIn old.core new.core
piece_stays None old new h t g = same_stays old.core new.core (ap (λ (e : EngineState). e.core) g.1)
piece_stays (Some w) old new h t g = noticed_stays old new _ h w g

data_stays : (due : Bool) (o : Option Whole) (old new : EngineState) (h : HeardText) (t : DataText) →
    PieceGivesBy due o old h t (Ok tt) new → StaysIn old.core new.core
data_stays true o old new h t g = piece_stays o old new h t g
data_stays false o old new h t g = absurd g

heard_by : (o : Option NoticeText) (old new : EngineState) (h : HeardText) → HeardGivesBy o old h (Ok tt) new →
    StaysIn old.core new.core
heard_by None old new h g =
    as_stays old.core _ new.core (ap (λ (e : EngineState). e.core) g.1) (news_stay old.core (news_of h))
heard_by (Some (OfMessage t)) old new h g = noticed_stays old new _ h _ g
heard_by (Some (OfAnnouncement t)) old new h g =
    as_stays old.core _ new.core (ap (λ (e : EngineState). e.core) g.1)
    (then_stays old.core _ _ (news_stay old.core (lesson_alone h))
    (record { all = λ P all. all; serial = refl; place = refl }))
heard_by (Some (OfAnswer t)) old new h g = same_stays old.core new.core (ap (λ (e : EngineState). e.core) g.1)
heard_by (Some (OfPiece t)) old new h g =
    data_stays (is_due old.payloads h.source.rank t.transfer t.offset t.bytes)
    (whole_with old.payloads h.source.rank t.transfer t.bytes) old new h t g

pub heard_stays : (old new : EngineState) (h : HeardText) → HeardGives old h (Ok tt) new → StaysIn old.core new.core
heard_stays old new h g = heard_by (notice_in h.lesson old.payloads h.source.rank h.word) old new h g

-- what follows: one turn, and then the rest
turn_stays : (Rest : EngineState → EngineState → Type 0) → ((a b : EngineState) → Rest a b → StaysIn a.core b.core) →
    (o : Option (Option HeardText)) (at : ℕ) (source : Endpoint) (old new : EngineState) →
    TurnGives o at source Rest old new → StaysIn old.core new.core
turn_stays Rest stays None at source old new g = same_stays old.core new.core (ap (λ (e : EngineState). e.core) g)
turn_stays Rest stays (Some None) at source old new g =
    same_stays old.core new.core (ap (λ (e : EngineState). e.core) g)
turn_stays Rest stays (Some (Some h)) at source old new (inl (first, takes, rest)) =
    then_stays old.core first.core new.core (heard_stays old first h takes)
    (stays (acknowledged at source first) new rest)
turn_stays Rest stays (Some (Some h)) at source old new (inr (inl g)) =
    same_stays old.core new.core (ap (λ (e : EngineState). e.core) g.1)
turn_stays Rest stays (Some (Some h)) at source old new (inr (inr g)) =
    same_stays old.core new.core (ap (λ (e : EngineState). e.core) g.1)

follow_stays : (turns at : ℕ) (source : Endpoint) (old new : EngineState) → FollowGives turns at source old new →
    StaysIn old.core new.core
follow_stays zero at source old new g = same_stays old.core new.core (ap (λ (e : EngineState). e.core) g)
follow_stays (suc k) at source old new g =
    turn_stays (FollowGives k at source) (λ a b rest. follow_stays k at source a b rest) (turn_from old source) at
    source old new g

followed_stays : (old new : EngineState) (most at : ℕ) (source : Endpoint) → HasFollowed most at source old new →
    StaysIn old.core new.core
followed_stays old new most at source f =
    as_stays old.core f.last.core new.core (ap (λ (e : EngineState). e.core) f.same)
    (follow_stays most at source old f.last f.turns)

word_stays : (w : WordText) (at : ℕ) (source : Endpoint) (old new : EngineState) → FollowedBy w at source old new →
    StaysIn old.core new.core
word_stays (Acknowledges n held) at source old new g = same_stays old.core new.core (ap (λ (e : EngineState). e.core) g)
word_stays Repeats at source old new g = same_stays old.core new.core (ap (λ (e : EngineState). e.core) g)
word_stays (Hands f) at source old new g = followed_stays old new 64 at source g
word_stays (Holds e) at source old new g = same_stays old.core new.core (ap (λ (x : EngineState). x.core) g)
word_stays (Follows f) at source old new g = same_stays old.core new.core (ap (λ (e : EngineState). e.core) g)
word_stays Nothing at source old new g = same_stays old.core new.core (ap (λ (e : EngineState). e.core) g)

-- what says nothing new changes nothing
taken_stays : (nothing : Bool) (old new : EngineState) (h : HeardText) → IsTakenInUnless nothing old h new →
    StaysIn old.core new.core
taken_stays true old new h same = same_stays old.core new.core (ap (λ (e : EngineState). e.core) same)
taken_stays false old new h i =
    as_stays old.core _ new.core (ap (λ (e : EngineState). e.core) i.new_is)
    (then_stays old.core i.last.core _
    (then_stays old.core i.first.core i.last.core (heard_stays old i.first h i.takes)
    (word_stays h.word _ h.source i.first i.last i.follows)) (woken_stays i.last.core))

hearing_stays : (o : Result HeardText Unheard) (old new : EngineState) → HearingGives o old (Ok tt) new →
    StaysIn old.core new.core
hearing_stays (Ok h) old new g = taken_stays (says_nothing h.lesson h.word) old new h g
hearing_stays (Err u) old new (e, is, same, away) = absurd cc

pub datagrams_keep_keys : DatagramsKeepKeys
datagrams_keep_keys old mid bytes g =
    stays_named old.core mid.core (hearing_stays (heard_of old.sessions bytes) old mid g)

-- ---- ticks

pub ticks_keep_keys : TicksKeepKeys
ticks_keep_keys old mid now g = core_same old mid (ap (λ (e : EngineState). e.core) g.1)

-- ---- whose it is

-- a serial that stands in a table stands under some key
record IsSomewhere (serial : ℕ) (slots : List (Option TableEntry)) : Type 0 where
  key : ℕ
  there : has_serial serial (slot_at slots key) ≡ true

somewhere : (serial : ℕ) (slots : List (Option TableEntry)) → list_any (has_serial serial) slots ≡ true →
    IsSomewhere serial slots
somewhere serial [] is = absurd cc
somewhere serial (x ∷ xs) is = go (has_serial serial x) refl is (λ h. somewhere serial xs h)
  where
    go : (t : Bool) → has_serial serial x ≡ t → (t || list_any (has_serial serial) xs) ≡ true →
        (list_any (has_serial serial) xs ≡ true → IsSomewhere serial xs) → IsSomewhere serial (x ∷ xs)
    go true here h rest = record { key = 0; there = here }
    go false here h rest = let s : IsSomewhere serial xs = rest h in record { key = suc s.key; there = s.there }

-- there the request stands, so under its key
own_key : (q : Request) (key : ℕ) (slot : Option TableEntry) → IsApart q key slot → has_serial q.serial slot ≡ true →
    key ≡ q.key
own_key q key None apart is = absurd cc
own_key q key (Some t) apart is = apart (eqb-true t.serial q.serial is)

pub named_are_own : NamedAreOwn
named_are_own c q n = go (list_any (has_serial q.serial) c.slots) refl
  where
    go : (t : Bool) → list_any (has_serial q.serial) c.slots ≡ t →
        (t && not (has_serial q.serial (slot_at c.slots q.key))) ≡ false
    go false is = refl
    go true is =
        let s : IsSomewhere q.serial c.slots = somewhere q.serial c.slots is in
        let same : s.key ≡ q.key = own_key q s.key (slot_at c.slots s.key) (n.stands s.key) s.there in
        ap not (ap (λ (k : ℕ). has_serial q.serial (slot_at c.slots k)) (sym same) ∙ s.there)
