-- What the pure network sees of an eager message, and whom a rank knows.
use Rattle.std.specs.Prelude.{ℕ, List, Bool, true, false, max, Option, Some, None, slice_index, slice_set}
use Rattle.vocabulary.specs.BasicTypes.{size_of}
use Rattle.vocabulary.specs.declared.endpoint.Endpoint.{Endpoint}
use Rattle.datatypes.specs.Contents.{values_of}
use Rattle.datagram.specs.declared.kinds.Plane.{Plane}
use Rattle.datagram.specs.declared.kinds.Plane.TheVariants.{PointToPoint, Collective}
use Rattle.datagram.specs.Spellings.{EagerText}
use Rattle.proof_pure_network.specs.Frames.{Eager, Frame}

-- an eager message by its plane; one of a collective operation is no frame of the network
abbrev pub message_seen : Plane → EagerText → Option Frame
message_seen PointToPoint t = Some (Eager t.context t.tag t.basic (values_of (size_of t.basic) t.elements))
message_seen Collective t = None

-- a rank at the incarnation at which it is known
abbrev pub endpoint_of : (known : List ℕ) → (rank : ℕ) → Endpoint
endpoint_of known rank = record { rank = rank; incarnation = slice_index known rank }

-- what is known of the ranks once a lesson, if there is one, is learnt from an endpoint
abbrev pub known_after : (lesson : Bool) → (known : List ℕ) → Endpoint → List ℕ
known_after true known s = slice_set known s.rank (max (slice_index known s.rank) s.incarnation)
known_after false known s = known
