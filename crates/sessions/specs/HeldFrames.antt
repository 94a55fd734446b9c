-- Frames that were held, when their turn comes: each is heard as a word of its own, and one acknowledgement says what
-- was reached.
use Rattle.std.specs.Prelude.{ℕ, List, Option, Some, None, Result, Ok, Err, slice_set, false}
use Rattle.vocabulary.specs.declared.endpoint.Endpoint.{Endpoint}
use Rattle.datagram.specs.declared.refusal.DatagramRefusal as lower
use Rattle.datagram.specs.Spellings.{BodyText, FrameBody, AckBody, ResetBody, DatagramText}
use Rattle.datagram.specs.ByteMeanings.{datagram_of}
use Rattle.reliable_link.specs.ReceiverState.{discarded, ready_of}
use Rattle.sessions.specs.SessionsState.{SessionsState}
use Rattle.sessions.specs.Peers.{peer_at, with_receiver}
use Rattle.sessions.specs.Spellings.{ack_of}
use Rattle.sessions.specs.HeardBytes.{Follows, HeardText}

-- the bytes of the next frame of a rank, where they are held
abbrev pub ready_from : SessionsState → ℕ → Option (List ℕ)
ready_from s rank = ready_of (peer_at s.peers rank).receiver

-- what a body says of an endpoint that was held: only a frame follows
abbrev pub turn_of_body : Endpoint → BodyText → Option HeardText
turn_of_body source (FrameBody f) = Some (record { source = source; lesson = false; word = Follows f })
turn_of_body source (AckBody held) = None
turn_of_body source ResetBody = None

-- the same of what was read
abbrev pub turn_read : Endpoint → Result DatagramText lower.DatagramRefusal → Option HeardText
turn_read source (Ok d) = turn_of_body source d.body
turn_read source (Err e) = None

-- what is heard in bytes of an endpoint that were held, once their turn comes; nothing where they spell no frame
unfoldable pub turn_of : Endpoint → List ℕ → Option HeardText
turn_of source bytes = turn_read source (datagram_of bytes)

-- the acknowledgement at a place of what goes out says what the session with its endpoint has reached
abbrev pub acknowledged_at : ℕ → Endpoint → SessionsState → SessionsState
acknowledged_at at source s =
    record s { out = slice_set s.out at (source.rank, ack_of s.place source (peer_at s.peers source.rank).receiver) }

-- the next frame of a rank isn't held any more
abbrev pub without_ready : SessionsState → ℕ → SessionsState
without_ready s rank = record s { peers = with_receiver s.peers rank (discarded (peer_at s.peers rank).receiver) }
