-- What acknowledgements say of one another.
use Rattle.std.specs.Prelude.{◌≡◌, ◌≢◌, ◌≤◌, ◌⊎◌, ℕ, List, length, ◌==◌, if◌then◌else◌, Option, Some, None, Result, Ok}
use Rattle.std.specs.Prelude.{Err, IsSomeAnd}
use Rattle.datagram.specs.declared.datagram.Header.{Header}
use Rattle.datagram.specs.declared.refusal.DatagramRefusal.{DatagramRefusal}
use Rattle.datagram.specs.ByteMeanings.{datagram_of}
use Rattle.datagram.specs.Spellings.{DatagramText, BodyText, FrameBody, AckBody, ResetBody}
use Rattle.delayed_acknowledgements.specs.declared.acknowledgements.Acknowledgement.{Acknowledgement}

abbrev pub if_acknowledgement : Header → BodyText → Option Acknowledgement
if_acknowledgement header (FrameBody f) = None
if_acknowledgement header (AckBody held) = Some (record { header = header; held = held })
if_acknowledgement header ResetBody = None

-- what was read, where it is an acknowledgement
abbrev pub acknowledgement : Result DatagramText DatagramRefusal → Option Acknowledgement
acknowledgement (Ok d) = if_acknowledgement d.header d.body
acknowledgement (Err e) = None

-- the same of bytes, if they are as many as an acknowledgement has
abbrev pub short_acknowledgement : List ℕ → Option Acknowledgement
short_acknowledgement bytes = if length bytes == 40 then acknowledgement (datagram_of bytes) else None

-- an acknowledgement says all that an earlier one says: both are of one direction of one session, the earlier one tells
-- of no frame that is held, and the later one is of no fewer frames
pub record Covers (later earlier : Acknowledgement) : Type 0 where
  pub source : later.header.source ≡ earlier.header.source
  pub target : later.header.target ≡ earlier.header.target
  pub job : later.header.job ≡ earlier.header.job
  pub none_held : earlier.held ≡ 0
  pub frames : earlier.header.sequence ≤ later.header.sequence

-- it can't wait: it tells of frames that are held, or says nothing that the last one didn't
abbrev pub IsUrgent : Option Acknowledgement → Acknowledgement → Type 0
IsUrgent last next = (next.held ≢ 0) ⊎ IsSomeAnd last (λ l. Covers l next)
