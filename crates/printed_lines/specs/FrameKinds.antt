-- What a datagram carries, by what it says.
use Rattle.datagram.specs.Spellings.{AckBody, BodyText, ClearFrame, DataFrame, EagerFrame, FrameBody, FrameText}
use Rattle.datagram.specs.Spellings.{RequestFrame, ResetBody}
use Rattle.printed_lines.specs.declared.emissions.FrameKind.{FrameKind}
use Rattle.printed_lines.specs.declared.emissions.FrameKind.TheVariants as kinds

abbrev pub kind_of_frame : FrameText → FrameKind
kind_of_frame (EagerFrame e) = kinds.Eager
kind_of_frame (RequestFrame r) = kinds.Rts
kind_of_frame (ClearFrame c) = kinds.Cts
kind_of_frame (DataFrame d) = kinds.Data

abbrev pub kind_of_body : BodyText → FrameKind
kind_of_body (FrameBody frame) = kind_of_frame frame
kind_of_body (AckBody held) = kinds.Ack
kind_of_body ResetBody = kinds.Reset
