-- What the bytes of a told datagram say.
use Rattle.std.proofs.Common.{◌≡◌, ℕ, ◌<◌, ◌≤◌, ◌^◌, List, length, Some, Ok, slice_get, refl, ap, ◌∙◌, arith}
use Rattle.std.proofs.lemmas.Option.{slice_get_within}
use Rattle.vocabulary.specs.declared.endpoint.Endpoint.{Endpoint}
use Rattle.datagram.specs.ByteMeanings.{datagram_of}
use Rattle.datagram.specs.Spellings.{AckBody, BodyText, DatagramText, FrameBody, FrameText, ResetBody}
use Rattle.sessions.specs.Spellings.{header_to}
use Rattle.link_truth.specs.Links.{Links}
use Rattle.link_truth.specs.Sessions.{IsLink}
use Rattle.link_truth.specs.DatagramTruth.{Tells, TellsAck, TellsFrame, TellsReset}
use Rattle.link_truth.specs.Wire.{CanBeSent, place_of, wire}
use Rattle.link_truth.specs.Witness.{IsAmong}
use Rattle.proof_link_truth.proofs.Lists.{All_get}
use Rattle.proof_link_truth.proofs.ByteLaws.{HaveWidths, ack_is_read, frame_is_read, reset_is_read}

-- this frame was accepted under this number, can be spelled, and was emitted
pub record SaysFrame (n : ℕ) (datagrams : List (ℕ × List ℕ)) (s d : Endpoint) (links : Links) (q : ℕ)
    (frame : FrameText) (bytes : List ℕ) : Type 0 where
  pub there : slice_get (links s d).accepted q ≡ Some frame
  pub carried : CanBeSent frame
  pub spelled : bytes ≡ wire n s d q frame
  pub sent : IsAmong datagrams (d.rank, bytes)

-- what a body under a number, in these bytes, says of the links
abbrev pub Says : (n : ℕ) → (datagrams : List (ℕ × List ℕ)) → (s d : Endpoint) → Links → ℕ → BodyText → List ℕ → Type 0
Says n datagrams s d links q (FrameBody frame) bytes = SaysFrame n datagrams s d links q frame bytes
Says n datagrams s d links q (AckBody held) bytes = q ≤ (links d s).handed
Says n datagrams s d links q ResetBody bytes = q ≡ 0

-- what a datagram from one endpoint to another says
abbrev pub word : (n : ℕ) (s d : Endpoint) (q : ℕ) → BodyText → DatagramText
word n s d q b = record { header = header_to (place_of n s) d q; body = b }

-- bytes that are read as a word that is true
pub record IsWord (n : ℕ) (datagrams : List (ℕ × List ℕ)) (s d : Endpoint) (links : Links) (bytes : List ℕ) : Type
    0 where
  pub number : ℕ
  pub body : BodyText
  pub says : Says n datagrams s d links number body bytes
  pub read : datagram_of bytes ≡ Ok (word n s d number body)

-- a frame of a link
frame_is_word : (n : ℕ) (datagrams : List (ℕ × List ℕ)) (s d : Endpoint) (links : Links) (bytes : List ℕ) (q : ℕ)
    (f : FrameText) → HaveWidths n s d → IsLink (links s d) → CanBeSent f
    → slice_get (links s d).accepted q ≡ Some f → bytes ≡ wire n s d q f → IsAmong datagrams (d.rank, bytes) →
    IsWord n datagrams s d links bytes
frame_is_word n datagrams s d links bytes q f w link can there is emitted =
    let below : q < length (links s d).accepted = slice_get_within (links s d).accepted q f there in
    let numbered : q < 2 ^ 64 = omega (arith, below, link.numbered) in
    record {
      number = q;
      body = FrameBody f;
      says = record { there = there; carried = can; spelled = is; sent = emitted };
      read = ap datagram_of is ∙ frame_is_read n s d q f can w numbered;
    }

-- whatever is told is a word
pub told_is_word : (n : ℕ) (datagrams : List (ℕ × List ℕ)) (s d : Endpoint) (links : Links) (bytes : List ℕ) →
    HaveWidths n s d → ((a b : Endpoint) → IsLink (links a b))
    → Tells n s d links bytes → IsAmong datagrams (d.rank, bytes) → IsWord n datagrams s d links bytes
told_is_word n datagrams s d links bytes w sound (TellsFrame number frame there is) emitted =
    frame_is_word n datagrams s d links bytes number frame w (sound s d)
    (All_get CanBeSent (links s d).accepted number frame (sound s d).sent there) there is emitted
told_is_word n datagrams s d links bytes w sound (TellsAck number held there even width is) emitted =
    let link : IsLink (links d s) = sound d s in
    let numbered : number < 2 ^ 64 = omega (arith, there, link.reach, link.numbered) in
    record {
      number = number;
      body = AckBody held;
      says = there;
      read =
          ap datagram_of is ∙ ack_is_read n s d number held w numbered even width;
    }
told_is_word n datagrams s d links bytes w sound (TellsReset is) emitted =
    record { number = 0; body = ResetBody; says = refl; read = ap datagram_of is ∙ reset_is_read n s d w }
