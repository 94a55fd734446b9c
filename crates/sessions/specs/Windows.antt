-- How much goes out at most: of frames as many as the windows of all sessions have room for.
use Rattle.std.specs.Prelude.{ℕ, ◌+◌, ◌-◌, ◌≤◌, Bool, true, false, List, [], ◌∷◌, length, Option, Some, None}
use Rattle.reliable_link.specs.SenderState.{out_count, window}
use Rattle.sessions.specs.declared.peers.Peer.{Peer}
use Rattle.sessions.specs.SessionsState.{SessionsState}
use Rattle.sessions.specs.HeardBytes.{WordText, Acknowledges, Repeats, Hands, Holds, Follows, Nothing, HeardText}
use Rattle.sessions.specs.Events.{taught_peers}

-- so many more frames may be out in a session
abbrev pub room_in : Peer → ℕ
room_in p = window - out_count p.sender

-- in all sessions together
abbrev pub room : List Peer → ℕ
room [] = 0
room (p ∷ ps) = room_in p + room ps

-- whether the window of a session may be filled anew: the session starts anew, or frames are acknowledged in it
abbrev pub empties_window : Bool → WordText → Bool
empties_window true w = true
empties_window false (Acknowledges n held) = true
empties_window false Repeats = false
empties_window false (Hands f) = false
empties_window false (Holds e) = false
empties_window false (Follows f) = false
empties_window false Nothing = false

-- the room that frames find in an event
abbrev pub room_met : Option HeardText → List Peer → ℕ
room_met None peers = room peers
room_met (Some h) peers = room (taught_peers (empties_window h.lesson h.word) peers h.source.rank)

-- so many acknowledgements answer a word
abbrev pub acknowledgements_of : WordText → ℕ
acknowledgements_of (Acknowledges n held) = 0
acknowledgements_of Repeats = 1
acknowledgements_of (Hands f) = 1
acknowledgements_of (Holds e) = 1
acknowledgements_of (Follows f) = 0
acknowledgements_of Nothing = 0

-- the same, if anything was heard
abbrev pub acknowledgements : Option HeardText → ℕ
acknowledgements None = 0
acknowledgements (Some h) = acknowledgements_of h.word

-- what goes out in an event is its acknowledgement, and frames, each of which takes of the room that they find
abbrev pub StaysWithin : Option HeardText → SessionsState → SessionsState → Type 0
StaysWithin h old new = length new.out + room new.peers ≤ length old.out + (acknowledgements h + room_met h old.peers)
