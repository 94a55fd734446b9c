-- What a datagram tells of the links. It tells it now and ever after.
use Rattle.std.specs.Prelude.{◌≡◌, ℕ, ◌<◌, ◌≤◌, ◌%◌, ◌^◌, false, List, Some, ◌==◌, slice_get}
use Rattle.vocabulary.specs.declared.endpoint.Endpoint.{Endpoint}
use Rattle.datagram.specs.Spellings.{FrameText}
use Rattle.sessions.specs.Spellings.{ack_bytes, reset_bytes}
use Rattle.link_truth.specs.Links.{Links}
use Rattle.link_truth.specs.Wire.{place_of, wire}

-- what these bytes tell to d of s
pub data Tells (n : ℕ) (s d : Endpoint) (links : Links) (bytes : List ℕ) : Type 0 where
  -- the frame that was accepted under this number
  TellsFrame :
      (number : ℕ) (frame : FrameText) → slice_get (links s d).accepted number ≡ Some frame →
      bytes ≡ wire n s d number frame →
      Tells n s d links bytes
  -- that so many were handed up; which of those behind them are held is forgotten again when a session starts anew, so
  -- of that nothing is told for ever
  TellsAck :
      (number held : ℕ) → number ≤ (links d s).handed → held % 2 ≡ 0 → held < 2 ^ 64 →
      bytes ≡ ack_bytes (place_of n s) d number held → Tells n s d links bytes
  -- nothing but who their source is
  TellsReset : bytes ≡ reset_bytes (place_of n s) d → Tells n s d links bytes

-- a datagram to a rank comes from another one, and both were there at these incarnations
pub record IsTold (n : ℕ) (links : Links) (current : ℕ → ℕ) (t : ℕ × List ℕ) : Type 0 where
  pub source : Endpoint
  pub target : Endpoint
  pub to : target.rank ≡ t.0
  pub source_is : source.rank < n
  pub target_is : target.rank < n
  pub apart : (source.rank == target.rank) ≡ false
  pub source_begun : source.incarnation ≤ current source.rank
  pub target_begun : target.incarnation ≤ current target.rank
  pub tells : Tells n source target links t.1
