-- What a judgement gives, by what came of it.
use Rattle.std.proofs.Common.{◌≡◌, [], Option, Some, None, Result, Ok, Err, sym, ap, subst, ◌∙◌}
use Rattle.point_to_point_calls.specs.CoreCalls as core_calls
use Rattle.point_to_point_calls.specs.SendRules.{IsAddressed}
use Rattle.point_to_point_calls.specs.declared.call.HandedBack.{HandedBack}
use Rattle.point_to_point_calls.specs.declared.call.MessageReceive.{MessageReceive}
use Rattle.point_to_point_calls.specs.declared.call.Probe.{Probe}
use Rattle.point_to_point_calls.specs.declared.call.Receive.{Receive}
use Rattle.point_to_point_calls.specs.declared.call.Send.{Send}
use Rattle.point_to_point_calls.specs.declared.refusal.Refusal.{Refusal}
use Rattle.point_to_point_calls.specs.declared.sends.AddressedSend.{AddressedSend}
use Rattle.point_to_point.specs.Calls.{fault_at}
use Rattle.point_to_point.specs.Messages.{probe_rule, search_limit}
use Rattle.point_to_point_calls.specs.FrameNews.{first_of}
use Rattle.requests.specs.declared.awaited_requests.Awaited.{Awaited}
use Rattle.requests.specs.declared.region.Region.{Region}
use Rattle.requests.specs.declared.table.Request.{Request}
use Rattle.engine_calls.specs.Asks.{IsAsked, MessageJudged, ReceiveJudged, SearchJudged, SendJudged, group_of}
use Rattle.engine_calls.specs.Asks.{probe_group, receive_group}
use Rattle.engine_calls.specs.EngineState.{EngineState, Rest}
use Rattle.engine_calls.specs.Faults.{fault_of, group_limit}
use Rattle.engine_calls.specs.declared.call.Call.TheVariants as calls
use Rattle.engine_calls.specs.declared.probes.JudgedProbe.{JudgedProbe}
use Rattle.engine_calls.specs.declared.receives.JudgedReceive.{JudgedReceive}

-- something beside which nothing is looked at
pub blank : Rest
blank = record { ended = None; payloads = record { announced = []; coming = [] } }

-- a send is addressed, or comes back
pub send_of : (e : EngineState) (v : Send) (o : Result AddressedSend (HandedBack Send)) (a : AddressedSend) → o ≡ Ok a →
    SendJudged e v o → IsAsked e (calls.Isend v) (core_calls.Isend a.routed) × IsAddressed e.core.place a
send_of e v o a is judged = subst (λ (r : Result AddressedSend (HandedBack Send)). SendJudged e v r) is judged

pub send_back : (e : EngineState) (v : Send) (o : Result AddressedSend (HandedBack Send)) (h : HandedBack Send) →
    o ≡ Err h → SendJudged e v o → (fault_of e (calls.Isend v) ≡ Some h.refused) × (h.value ≡ v)
send_back e v o h is judged = subst (λ (r : Result AddressedSend (HandedBack Send)). SendJudged e v r) is judged

-- a receive is asked for, or comes back
pub receive_of : (e : EngineState) (v : Receive) (o : Result JudgedReceive (HandedBack Receive)) (j : JudgedReceive) →
    o ≡ Ok j → ReceiveJudged e v o →
    IsAsked e (calls.Irecv v) (core_calls.Irecv j.sought.routed) ×
    (group_of e.groups (core_calls.Irecv j.sought.routed) ≡ receive_group j)
receive_of e v o j is judged = subst (λ (r : Result JudgedReceive (HandedBack Receive)). ReceiveJudged e v r) is judged

pub receive_back : (e : EngineState) (v : Receive) (o : Result JudgedReceive (HandedBack Receive))
    (h : HandedBack Receive) → o ≡ Err h → ReceiveJudged e v o →
    (fault_of e (calls.Irecv v) ≡ Some h.refused) × (h.value ≡ v)
receive_back e v o h is judged = subst (λ (r : Result JudgedReceive (HandedBack Receive)). ReceiveJudged e v r) is judged

-- its group can be shared
pub receive_shares : (e : EngineState) (v : Receive) (j : JudgedReceive) →
    IsAsked e (calls.Irecv v) (core_calls.Irecv j.sought.routed) ×
    (group_of e.groups (core_calls.Irecv j.sought.routed) ≡ receive_group j) → group_limit (receive_group j) ≡ None
receive_shares e v j judged = ap group_limit (sym judged.1) ∙ judged.0.shareable

-- a matching probe is asked for, or refused
pub search_of : (e : EngineState) (p : Probe) (o : Result JudgedProbe Refusal) (j : JudgedProbe) → o ≡ Ok j →
    SearchJudged e p o →
    IsAsked e (calls.Improbe p) (core_calls.Improbe j.sought.routed) ×
    (group_of e.groups (core_calls.Improbe j.sought.routed) ≡ probe_group j)
search_of e p o j is judged = subst (λ (r : Result JudgedProbe Refusal). SearchJudged e p r) is judged

pub search_back : (e : EngineState) (p : Probe) (o : Result JudgedProbe Refusal) (why : Refusal) → o ≡ Err why →
    SearchJudged e p o → fault_of e (calls.Improbe p) ≡ Some why
search_back e p o why is judged = subst (λ (r : Result JudgedProbe Refusal). SearchJudged e p r) is judged

pub search_shares : (e : EngineState) (p : Probe) (j : JudgedProbe) →
    IsAsked e (calls.Improbe p) (core_calls.Improbe j.sought.routed) ×
    (group_of e.groups (core_calls.Improbe j.sought.routed) ≡ probe_group j) → group_limit (probe_group j) ≡ None
search_shares e p j judged = ap group_limit (sym judged.1) ∙ judged.0.shareable

-- the receive of a message is asked for, or comes back
pub message_of : (e : EngineState) (q : Option Request) (into : Region) (o : Result MessageReceive (HandedBack Region))
    (m : MessageReceive) → o ≡ Ok m → MessageJudged e q into o →
    IsAsked e (calls.Mrecv q into) (core_calls.Mrecv m.message m.into)
message_of e q into o m is judged =
    subst (λ (r : Result MessageReceive (HandedBack Region)). MessageJudged e q into r) is judged

pub message_back : (e : EngineState) (q : Option Request) (into : Region)
    (o : Result MessageReceive (HandedBack Region)) (h : HandedBack Region) → o ≡ Err h → MessageJudged e q into o →
    (fault_of e (calls.Mrecv q into) ≡ Some h.refused) × (h.value ≡ into)
message_back e q into o h is judged =
    subst (λ (r : Result MessageReceive (HandedBack Region)). MessageJudged e q into r) is judged

-- and meets no limit
pub search_unlimited : (e : EngineState) (p : Probe) (j : JudgedProbe) →
    IsAsked e (calls.Improbe p) (core_calls.Improbe j.sought.routed) →
    search_limit j.sought.routed.route.named e.core j.sought.routed ≡ None
search_unlimited e p j asked = by e.core.blocked asked.clear.0
  where
    last : (a b : Option Refusal) → first_of a b ≡ None → b ≡ None
    last None b is = is
    last (Some x) b is = absurd cc

    by : (a : Option Awaited) → fault_at a e.core (core_calls.Improbe j.sought.routed) ≡ None →
        search_limit j.sought.routed.route.named e.core j.sought.routed ≡ None
    by None is =
        last (probe_rule e.core.place.size j.sought.routed.route.named j.sought.routed.probe.tag)
        (search_limit j.sought.routed.route.named e.core j.sought.routed) is
    by (Some a) is = absurd cc
