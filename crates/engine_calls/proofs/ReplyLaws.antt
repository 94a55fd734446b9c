-- What the core answers is what the engine answers.
use Rattle.std.proofs.Common.{◌≡◌, ℕ, List, Option, Some, None, refl, sym, ap, ap₂, subst, ◌∙◌}
use Rattle.point_to_point_calls.specs.Calls as cores
use Rattle.point_to_point_calls.specs.CoreCalls.{RoutedCall}
use Rattle.point_to_point_calls.specs.CoreCalls as core_calls
use Rattle.point_to_point_calls.specs.declared.refusal.Refusal.{Refusal}
use Rattle.point_to_point_calls.specs.declared.refusal.Refusal.TheVariants as refusals
use Rattle.point_to_point_calls.specs.declared.call.RoutedProbe.{RoutedProbe}
use Rattle.point_to_point_calls.specs.declared.call.RoutedReceive.{RoutedReceive}
use Rattle.point_to_point_calls.specs.declared.call.RoutedSend.{RoutedSend}
use Rattle.point_to_point.specs.Calls.{Answers, call_frame}
use Rattle.point_to_point.specs.Messages.{Receives, Searches}
use Rattle.point_to_point.specs.Receives.{IsReceiving}
use Rattle.point_to_point.specs.Sends.{IsSending}
use Rattle.requests.specs.declared.region.Region.{Region}
use Rattle.requests.specs.declared.table.Request.{Request}
use Rattle.vocabulary.specs.declared.envelope.Status.{Status}
use Rattle.point_to_point.specs.CoreState.{CoreState}
use Rattle.sessions.specs.SessionsState.{SessionsState}
use Rattle.engine_calls.proofs.Asks.{requests_asked}
use Rattle.engine_calls.proofs.Clear.{frames_same, within_same}
use Rattle.engine_calls.specs.Asks.{IsAsked, IsOnRequests, call_of, engine_of, group_of, with_group}
use Rattle.engine_calls.specs.Calls.{CoreGives, IsAnswered, LacksRoom, NeedsMemory, WhyRefused}
use Rattle.engine_calls.specs.EngineState.{EngineState, GroupsState, Rest}
use Rattle.engine_calls.specs.Faults.{fault_of}
use Rattle.engine_calls.specs.Frames.{after_frame}
use Rattle.engine_calls.specs.Routes.{core_call, core_reply}
use Rattle.engine_calls.specs.declared.call.Call.{Call}
use Rattle.engine_calls.specs.declared.call.Call.TheVariants as calls
use Rattle.engine_calls.specs.declared.reply.Reply.{Reply}
use Rattle.engine_calls.specs.declared.reply.Reply.TheVariants as replies

-- ---- want of memory

lacks_by : (e : EngineState) (call : Call) (why : Refusal) → why ≡ refusals.OutOfMemory →
    NeedsMemory (core_call e.groups call) → LacksRoom e call why
lacks_by e (calls.Isend s) why memory need = (memory, need)
lacks_by e (calls.Irecv v) why memory need = (memory, need)
lacks_by e (calls.Wait q) why memory need = absurd need
lacks_by e (calls.Test q) why memory need = absurd need
lacks_by e (calls.Waitany qs) why memory need = absurd need
lacks_by e (calls.Waitall qs) why memory need = memory
lacks_by e (calls.Cancel q) why memory need = absurd need
lacks_by e (calls.Enter comm x) why memory need = absurd need
lacks_by e (calls.Ask comm q) why memory need = absurd need
lacks_by e (calls.Iprobe p) why memory need = absurd need
lacks_by e (calls.Improbe p) why memory need = (memory, need)
lacks_by e (calls.Mrecv message into) why memory need = (memory, need)

-- what is asked, and needs memory, is refused for want of it
reason_is : (e : EngineState) (call : Call) (q : RoutedCall) (why : Refusal) → fault_of e call ≡ None →
    core_call e.groups call ≡ Some q →
    why ≡ refusals.OutOfMemory → cores.NeedsMemory q → WhyRefused (fault_of e call) e call why
reason_is e call q why allowed routed memory need =
    subst (λ (o : Option Refusal). WhyRefused o e call why) (sym allowed)
    (lacks_by e call why memory (subst (λ (o : Option RoutedCall). NeedsMemory o) (sym routed) need))

-- the group has no part in it
needs_same : (group : Option (List ℕ)) (q : RoutedCall) → cores.NeedsMemory q → cores.NeedsMemory (with_group group q)
needs_same group (core_calls.Irecv v) need = tt
needs_same group (core_calls.Isend s) need = tt
needs_same group (core_calls.Wait q) need = need
needs_same group (core_calls.Test q) need = need
needs_same group (core_calls.Waitany qs) need = need
needs_same group (core_calls.Waitall qs) need = tt
needs_same group (core_calls.Cancel q) need = need
needs_same group (core_calls.Improbe p) need = tt
needs_same group (core_calls.Mrecv message into) need = tt

-- what is asked comes back for want of memory, and nothing changed
pub lacking : (c mid : CoreState) (s t : SessionsState) (q : RoutedCall) (why : Refusal) (back : Call) → mid ≡ c → t ≡ s →
    why ≡ refusals.OutOfMemory → cores.NeedsMemory q → back ≡ call_of q →
    (g : GroupsState) (rest : Rest) (call : Call) → IsAsked (engine_of c g rest s) call q →
    CoreGives (engine_of c g rest s) call (replies.Refused why back) (engine_of mid g rest t)
lacking c mid s t q why back kept still memory need handed g rest call asked =
    record {
      handed = handed ∙ asked.back;
      unchanged = ap₂ (λ (x : CoreState) (y : SessionsState). engine_of x g rest y) kept still;
      reason = reason_is (engine_of c g rest s) call (with_group (group_of g q) q) why asked.allowed asked.routed memory
          (needs_same (group_of g q) q need);
    }

-- ---- what a rule or a limit refuses

pub fault_refused : (e : EngineState) (call : Call) (why : Refusal) (back : Call) → fault_of e call ≡ Some why →
    back ≡ call → CoreGives e call (replies.Refused why back) e
fault_refused e call why back is handed =
    record {
      handed = handed;
      unchanged = refl;
      reason =
          subst (λ (o : Option Refusal). WhyRefused o e call why) (sym is) refl;
    }

-- ---- the answer

is_answered : (c d : CoreState) (g : GroupsState) (rest : Rest) (s t : SessionsState) (call : Call) (a : RoutedCall)
    (answer : core_calls.CoreReply)
    (reply : Reply) → IsAsked (engine_of c g rest s) call a → core_reply reply ≡ Some answer →
    Answers c (with_group (group_of g a) a) answer d →
    t ≡ after_frame s (call_frame c (with_group (group_of g a) a)) →
    IsAnswered (engine_of c g rest s) call reply (engine_of d g rest t)
is_answered c d g rest s t call a answer reply asked told_so answers sent =
    record {
      allowed = asked.allowed;
      asked = with_group (group_of g a) a;
      routed = asked.routed;
      within = within_same (group_of g a) a asked.within;
      answer = answer;
      told = told_so;
      core = answers;
      sessions = sent;
      groups = refl;
      ended = refl;
      payloads = refl;
    }

-- what the core answers is no refusal
answered_gives : (e new : EngineState) (call : Call) (reply : Reply) (answer : core_calls.CoreReply) →
    core_reply reply ≡ Some answer → IsAnswered e call reply new → CoreGives e call reply new
answered_gives e new call (replies.Refused why back) answer told answered = absurd cc
answered_gives e new call (replies.Started r) answer told answered = answered
answered_gives e new call (replies.Done a) answer told answered = answered
answered_gives e new call replies.Pending answer told answered = answered
answered_gives e new call replies.Accepted answer told answered = answered
answered_gives e new call replies.Blocked answer told answered = answered
answered_gives e new call (replies.Left o) answer told answered = answered
answered_gives e new call (replies.Fact f) answer told answered = answered
answered_gives e new call (replies.Probed found) answer told answered = answered
answered_gives e new call (replies.Matched found) answer told answered = answered

-- a send is started, and its frame is on its way
pub send_started : (c mid d : CoreState) (s t : SessionsState) (v : RoutedSend) (r : Request) → mid ≡ c →
    IsSending mid v r d → t ≡ after_frame s (call_frame c (core_calls.Isend v)) →
    (g : GroupsState) (rest : Rest) (call : Call) → IsAsked (engine_of c g rest s) call (core_calls.Isend v) →
    CoreGives (engine_of c g rest s) call (replies.Started r) (engine_of d g rest t)
send_started c mid d s t v r kept sending sent g rest call asked =
    is_answered c d g rest s t call (core_calls.Isend v) (core_calls.Started r) (replies.Started r) asked refl
    (subst (λ (x : CoreState). IsSending x v r d) kept sending) sent

-- so is a receive, with the group of its communicator
pub receive_started : (c mid d : CoreState) (s t : SessionsState) (v : RoutedReceive) (group : Option (List ℕ))
    (r : Request) → mid ≡ c → IsReceiving mid (record v { group = group }) r d →
    t ≡ after_frame s (call_frame c (core_calls.Irecv v)) →
    (g : GroupsState) (rest : Rest) (call : Call) → group_of g (core_calls.Irecv v) ≡ group →
    IsAsked (engine_of c g rest s) call (core_calls.Irecv v) →
    CoreGives (engine_of c g rest s) call (replies.Started r) (engine_of d g rest t)
receive_started c mid d s t v group r kept receiving sent g rest call same asked =
    is_answered c d g rest s t call (core_calls.Irecv v) (core_calls.Started r) (replies.Started r) asked refl
    (subst (λ (o : Option (List ℕ)). IsReceiving c (record v { group = o }) r d) (sym same)
    (subst (λ (x : CoreState). IsReceiving x (record v { group = group }) r d) kept receiving))
    (sent ∙ ap (after_frame s) (sym (frames_same c (group_of g (core_calls.Irecv v)) (core_calls.Irecv v))))

-- a matching probe is answered with what it took out, if anything
pub searched : (c mid d : CoreState) (v : RoutedProbe) (group : Option (List ℕ))
    (found : Option (Option Request × Status)) → mid ≡ c →
    Searches mid (record v { group = group }) (core_calls.Matched found) d →
    (g : GroupsState) (rest : Rest) (s : SessionsState) (call : Call) → group_of g (core_calls.Improbe v) ≡ group →
    IsAsked (engine_of c g rest s) call (core_calls.Improbe v) →
    CoreGives (engine_of c g rest s) call (replies.Matched found) (engine_of d g rest s)
searched c mid d v group found kept searches g rest s call same asked =
    is_answered c d g rest s s call (core_calls.Improbe v) (core_calls.Matched found) (replies.Matched found) asked
    refl
    (subst (λ (o : Option (List ℕ)). Searches c (record v { group = o }) (core_calls.Matched found) d) (sym same)
    (subst (λ (x : CoreState). Searches x (record v { group = group }) (core_calls.Matched found) d) kept searches))
    refl

-- the receive of a message is answered, and its frame is on its way
pub message_received : (c mid d : CoreState) (s t : SessionsState) (q : Option Request) (into : Region)
    (told : core_calls.CoreReply) (reply : Reply) → mid ≡ c → Receives mid q into told d →
    core_reply reply ≡ Some told → t ≡ after_frame s (call_frame c (core_calls.Mrecv q into)) →
    (g : GroupsState) (rest : Rest) (call : Call) → IsAsked (engine_of c g rest s) call (core_calls.Mrecv q into) →
    CoreGives (engine_of c g rest s) call reply (engine_of d g rest t)
message_received c mid d s t q into told reply kept receives tells sent g rest call asked =
    answered_gives _ _ call reply told tells
    (is_answered c d g rest s t call (core_calls.Mrecv q into) told reply asked tells
    (subst (λ (x : CoreState). Receives x q into told d) kept receives) sent)

-- a call on requests is answered
pub requests_answered : (c d : CoreState) (g : GroupsState) (q : RoutedCall) (told : core_calls.CoreReply)
    (reply : Reply) → IsOnRequests q →
    ((rest : Rest) (s : SessionsState) → fault_of (engine_of c g rest s) (call_of q) ≡ None) → Answers c q told d →
    core_reply reply ≡ Some told →
    (rest : Rest) (s : SessionsState) →
    CoreGives (engine_of c g rest s) (call_of q) reply (engine_of d g rest s)
requests_answered c d g q told reply on allowed answers tells rest s =
    answered_gives _ _ (call_of q) reply told tells
    (is_answered c d g rest s s (call_of q) q told reply
    (requests_asked (engine_of c g rest s) q on (allowed rest s)) tells
    (subst (λ (x : RoutedCall). Answers c x told d) (sym (grouped_same (group_of g q) q on)) answers)
    (sym (ap (after_frame s) (no_frame c (group_of g q) q on))))
  where
    grouped_same : (group : Option (List ℕ)) (q : RoutedCall) → IsOnRequests q → with_group group q ≡ q
    grouped_same group (core_calls.Isend v) on = absurd on
    grouped_same group (core_calls.Irecv v) on = absurd on
    grouped_same group (core_calls.Wait v) on = refl
    grouped_same group (core_calls.Test v) on = refl
    grouped_same group (core_calls.Waitany v) on = refl
    grouped_same group (core_calls.Waitall v) on = refl
    grouped_same group (core_calls.Cancel v) on = refl
    grouped_same group (core_calls.Improbe v) on = absurd on
    grouped_same group (core_calls.Mrecv v into) on = absurd on

    no_frame : (c : CoreState) (group : Option (List ℕ)) (q : RoutedCall) → IsOnRequests q →
        call_frame c (with_group group q) ≡ None
    no_frame c group (core_calls.Isend v) on = absurd on
    no_frame c group (core_calls.Irecv v) on = absurd on
    no_frame c group (core_calls.Wait v) on = refl
    no_frame c group (core_calls.Test v) on = refl
    no_frame c group (core_calls.Waitany v) on = refl
    no_frame c group (core_calls.Waitall v) on = refl
    no_frame c group (core_calls.Cancel v) on = refl
    no_frame c group (core_calls.Improbe v) on = absurd on
    no_frame c group (core_calls.Mrecv v into) on = absurd on

-- and one without memory comes back
pub requests_lacking : (c : CoreState) (g : GroupsState) (q : RoutedCall) → IsOnRequests q → cores.NeedsMemory q →
    ((rest : Rest) (s : SessionsState) → fault_of (engine_of c g rest s) (call_of q) ≡ None) →
    (rest : Rest) (s : SessionsState) →
    CoreGives (engine_of c g rest s) (call_of q) (replies.Refused refusals.OutOfMemory (call_of q))
    (engine_of c g rest s)
requests_lacking c g q on need allowed rest s =
    lacking c c s s q refusals.OutOfMemory (call_of q) refl refl refl need refl g rest (call_of q)
    (requests_asked (engine_of c g rest s) q on (allowed rest s))
