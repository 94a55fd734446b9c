-- Frames for other ranks.
use Rattle.std.specs.Prelude.{List, [], ◌∷◌, Option, Some, None}
use Rattle.datagram.specs.Spellings.{OutgoingText, outgoing_text}
use Rattle.datagram.specs.declared.frame.Outgoing.{Outgoing}

-- what a frame says, and to which rank it goes, where there is one
abbrev pub addressed : Option Outgoing → Option OutgoingText
addressed None = None
addressed (Some a) = Some (outgoing_text a)

-- none or one frame, as a list
abbrev pub as_list : Option OutgoingText → List OutgoingText
as_list None = []
as_list (Some f) = f ∷ []
