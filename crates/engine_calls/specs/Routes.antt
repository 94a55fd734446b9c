-- What the core is asked by a call: in the context of its communicator, with ranks of world.
use Rattle.std.specs.Prelude.{ℕ, Option, Some, None, option_map}
use Rattle.communicators.specs.Routes.{RouteText, route_on}
use Rattle.perfect_groups.specs.Calls.{held_at}
use Rattle.point_to_point_calls.specs.declared.call.CallRoute.{CallRoute}
use Rattle.point_to_point_calls.specs.CoreCalls as core_calls
use Rattle.point_to_point_calls.specs.declared.call.RoutedProbe as core_probes
use Rattle.point_to_point_calls.specs.declared.call.RoutedReceive as core_receives
use Rattle.point_to_point_calls.specs.declared.call.RoutedSend as core_sends
use Rattle.vocabulary.specs.declared.envelope.Source.{Source}
use Rattle.engine_calls.specs.EngineState.{GroupsState, member_of}
use Rattle.engine_calls.specs.declared.call.Call.{Call}
use Rattle.engine_calls.specs.declared.call.Call.TheVariants as calls
use Rattle.point_to_point_calls.specs.declared.call.Probe.{Probe}
use Rattle.point_to_point_calls.specs.declared.call.Receive.{Receive}
use Rattle.point_to_point_calls.specs.declared.call.Send.{Send}
use Rattle.engine_calls.specs.declared.reply.Reply.{Reply}
use Rattle.engine_calls.specs.declared.reply.Reply.TheVariants as replies

-- the route of a call that names this rank of a communicator, where the rank holds that
abbrev pub route_at : GroupsState → (comm : Option ℕ) → Source → Option RouteText
route_at g comm named = option_map (route_on named) (held_at (member_of g) comm)

-- what of a route the core looks at
abbrev pub call_route : RouteText → CallRoute
call_route r = record { named = r.named; context = r.context }

-- a send with this route
abbrev pub send_by : Send → RouteText → core_sends.RoutedSend
send_by s r = record { route = call_route r; send = s }

-- a receive with this route
abbrev pub receive_by : Receive → RouteText → core_receives.RoutedReceive
receive_by v r = record { route = call_route r; group = r.group; receive = v }

-- a probe with this route
abbrev pub probe_by : Probe → RouteText → core_probes.RoutedProbe
probe_by p r = record { route = call_route r; group = r.group; probe = p }

-- what the core is asked; of a collective, and of a question, it is asked nothing, and a probe that takes nothing out
-- only looks
abbrev pub core_call : GroupsState → Call → Option core_calls.RoutedCall
core_call g (calls.Isend s) = option_map (λ r. core_calls.Isend (send_by s r)) (route_at g s.comm s.target)
core_call g (calls.Irecv v) = option_map (λ r. core_calls.Irecv (receive_by v r)) (route_at g v.comm v.source)
core_call g (calls.Wait q) = Some (core_calls.Wait q)
core_call g (calls.Test q) = Some (core_calls.Test q)
core_call g (calls.Waitany qs) = Some (core_calls.Waitany qs)
core_call g (calls.Waitall qs) = Some (core_calls.Waitall qs)
core_call g (calls.Cancel q) = Some (core_calls.Cancel q)
core_call g (calls.Enter comm entry) = None
core_call g (calls.Ask comm question) = None
core_call g (calls.Iprobe p) = None
core_call g (calls.Improbe p) = option_map (λ r. core_calls.Improbe (probe_by p r)) (route_at g p.comm p.source)
core_call g (calls.Mrecv message into) = Some (core_calls.Mrecv message into)

-- the core's answer that a reply is, if it is one
abbrev pub core_reply : Reply → Option core_calls.CoreReply
core_reply (replies.Started r) = Some (core_calls.Started r)
core_reply (replies.Done a) = Some (core_calls.Done a)
core_reply replies.Pending = Some core_calls.Pending
core_reply replies.Accepted = Some core_calls.Accepted
core_reply replies.Blocked = Some core_calls.Blocked
core_reply (replies.Left o) = None
core_reply (replies.Fact f) = None
core_reply (replies.Probed found) = None
core_reply (replies.Matched found) = Some (core_calls.Matched found)
core_reply (replies.Refused why back) = None
