-- The answer to an announced message: it announces nothing, stands for the network's, and can leave.
use Rattle.std.proofs.Common.{◌≡◌, ℕ, ◌<◌, ◌≤◌, ◌^◌, Bool, true, false, List, [], ◌∷◌, Option, Some, slice_get, sym, ap}
use Rattle.std.proofs.Common.{subst, arith}
use Rattle.std.specs.List.{AllByRecursion}
use Rattle.vocabulary.specs.declared.endpoint.Endpoint.{Endpoint}
use Rattle.incarnation.specs.declared.place.Place.{Place}
use Rattle.datagram.specs.Spellings.{ClearFrame}
use Rattle.match_queues.specs.declared.envelope.Announcement.{Announcement}
use Rattle.match_queues.specs.declared.envelope.Body.TheVariants as bodies
use Rattle.match_queues.specs.declared.envelope.Message.{Message}
use Rattle.point_to_point_calls.specs.Frames.{as_list}
use Rattle.point_to_point_calls.specs.ReceiveMatches.{answer_by, clearance_of}
use Rattle.perfect_queues.specs.Receives.{Receive, has_room}
use Rattle.proof_pure_network.specs.Frames.{Cts, Frame}
use Rattle.proof_pure_network.specs.WaitingMessages.{Body, Held, Own, Part, Whole}
use Rattle.proof_pure_network.specs.Matches.{answer}
use Rattle.proof_engine_view.specs.Rows.{held_of}
use Rattle.proof_engine_view.specs.FrameViews.{AreSent, CanLeave, StandsFor, all_gone}
use Rattle.proof_engine_view.specs.Transfers.{Announcements, Transfer, serial_at, serial_of}
use Rattle.proof_engine_view.specs.UnderWay.{IsPartOf}
use Rattle.proof_engine_steps.proofs.UnchangedTransfers.{AreQuiet}
use Rattle.proof_engine_steps.proofs.Wholes.{announced_as}

-- what a match answers announces nothing
pub answer_quiet : (p : Receive) (h : Held) (b : Body) → AreQuiet (answer p h b)
answer_quiet p h (Whole values) = tt
answer_quiet p h (Part k count) = (tt, tt)
answer_quiet p h (Own k values) = tt

-- the answer to the transfer of this number stands for that to its serial
pub clear_stands : (out back : List Transfer) (number : ℕ) (t : Transfer) (wanted : Bool) →
    slice_get back number ≡ Some t →
    StandsFor out back (ClearFrame (record { transfer = number; clearance = clearance_of wanted }))
    (Cts (serial_at back number) wanted)
clear_stands out back number t true h =
    record { transfer = t; announced = h; frame_is = ap (λ (o : Option Transfer). Cts (serial_of o) true) h }
clear_stands out back number t false h =
    record { transfer = t; announced = h; frame_is = ap (λ (o : Option Transfer). Cts (serial_of o) false) h }

-- the message, as it is held
abbrev held_announced : Announcements → Message → Announcement → Held
held_announced a m x = held_of a.from (announced_as m x)

-- what a match of an announced message answers stands for the core's answer, where both want the data alike, whatever
-- was announced on the way to its sender
pub answer_sent : (a : Announcements) (to : Endpoint → List Transfer) (known : List ℕ) (place : Place) (p : Receive)
    (m : Message) (x : Announcement) (wanted : Bool) → IsPartOf a.from known place m x →
    has_room p x.basic x.count ≡ wanted →
    AreSent (record { to = to; from = a.from })
    (all_gone known (as_list (answer_by wanted (announced_as m x) (bodies.Announced x))))
    (answer p (held_announced a m x) (held_announced a m x).body)
answer_sent a to known place p m x wanted part is =
    subst (λ (b : Bool). AreSent (record { to = to; from = a.from })
    (all_gone known (as_list (answer_by wanted (announced_as m x) (bodies.Announced x)))) (out b)) (sym is) (
      sym part.sender,
      clear_stands (to m.sender) (a.from m.sender) x.transfer
          (record { serial = part.announced.serial; basic = x.basic; count = x.count }) wanted part.announced.there,
      tt,
    )
  where
    out : Bool → List (Endpoint × Frame)
    out b = (m.sender, Cts (serial_at (a.from m.sender) x.transfer) b) ∷ []

-- a number of a session fits its field
number_fits : (n : ℕ) → n ≤ 4294967295 → n < 2 ^ 32
number_fits n h = omega arith

-- it can leave the rank
pub answer_leaves : (from : Endpoint → List Transfer) (known : List ℕ) (place : Place) (m : Message) (x : Announcement)
    (wanted : Bool) → IsPartOf from known place m x →
    AllByRecursion (CanLeave place) (as_list (answer_by wanted (announced_as m x) (bodies.Announced x)))
answer_leaves from known place m x wanted part = (
  record {
    there = part.there;
    apart = part.apart;
    fits = tt;
    width =
        record { transfer = number_fits x.transfer part.width };
  },
  tt,
)
