-- What a datagram's sixth byte says of it.
use Rattle.std.proofs.Common.{◌≡◌, ℕ, ◌≤◌, true, false, eqb, leb, ltb, List, length, get_or, Result, Ok, Err}
use Rattle.std.proofs.Common.{refl, sym, ap, ◌∙◌, arith}
use Rattle.std.proofs.lemmas.Bool.{eq-eqb, leb-true, lt-ltb, and_from}
use Rattle.datagram.specs.declared.refusal.DatagramRefusal.{DatagramRefusal}
use Rattle.datagram.specs.declared.refusal.DatagramRefusal.TheVariants as refusals
use Rattle.datagram.specs.declared.kinds.DatagramKind.{DatagramKind}
use Rattle.datagram.specs.declared.kinds.DatagramKind.TheVariants as kinds
use Rattle.datagram.specs.declared.datagram.Header.{Header}
use Rattle.datagram.specs.Kinds.{kind_at, kind_code}
use Rattle.datagram.specs.Spellings.{BodyText, FrameBody, AckBody, ResetBody, DatagramText, kind_of_body}
use Rattle.datagram.specs.ByteMeanings.{body_of, content_of, datagram_of, datagram_up_to, frame_of, header_of, held_of, kind_of, number_at}
use Rattle.datagram.proofs.Fields.{bind_ok, guard_ok, kind_back, ok_is, required_ok}
use Rattle.round_trips.specs.Trips.{after_came, after_sent, came_with, goes_with, may_be, may_go, sent_with}
use Rattle.round_trips.specs.declared.round_trip.RoundTrip.{RoundTrip}

-- ---- what was read is of the kind that its sixth byte says

record SaysKind (bytes : List ℕ) (kind : DatagramKind) : Type 0 where
  long : 32 ≤ length bytes
  code : get_or bytes 5 0 ≡ kind_code kind

kind_said : (bytes : List ℕ) (kind : DatagramKind) → kind_of bytes ≡ Ok kind → SaysKind bytes kind
unfolding kind_of
kind_said bytes kind is =
    let a = guard_ok (leb 32 (length bytes)) refusals.Short _ kind is in
    let b = guard_ok (eqb (number_at 0 4 bytes) 0x4d505544) refusals.Magic _ kind a.1 in
    let c = guard_ok (eqb (get_or bytes 4 0) 2) refusals.Version _ kind b.1 in
    let d = required_ok (kind_at (get_or bytes 5 0)) refusals.Kind kind c.1 in
    record {
      long = leb-true _ _ a.0;
      code = sym (kind_back _ kind d);
    }

content_kind : (kind : DatagramKind) (n : ℕ) (body : List ℕ) (c : BodyText) → content_of kind n body ≡ Ok c →
    kind ≡ kind_of_body c
unfolding content_of
content_kind kinds.Ack n body c is =
    let a = bind_ok (held_of body) (λ held. Ok (AckBody held)) c is in ap kind_of_body (ok_is (AckBody a.0) c a.2)
content_kind kinds.Reset n body c is =
    let a = guard_ok (eqb n 0) refusals.BadFrame _ c is in ap kind_of_body (ok_is ResetBody c a.1)
content_kind kinds.Frame n body c is =
    let a = bind_ok (frame_of body) (λ f. Ok (FrameBody f)) c is in ap kind_of_body (ok_is (FrameBody a.0) c a.2)

said : (bytes : List ℕ) (d : DatagramText) → datagram_of bytes ≡ Ok d → SaysKind bytes (kind_of_body d.body)
unfolding datagram_up_to
said bytes d is =
    let k = bind_ok (kind_of bytes) _ d is in
    let b = bind_ok (body_of 61440 k.0 bytes) _ d k.2 in
    let c = bind_ok (content_of k.0 (number_at 24 8 bytes) b.0) _ d b.2 in
    let made : DatagramText = record { header = header_of bytes; body = c.0 } in
    let same : made ≡ d = ok_is made d c.2 in
    let h = kind_said bytes k.0 k.1 in
    record {
      long = h.long;
      code = h.code ∙ ap kind_code (content_kind k.0 (number_at 24 8 bytes) b.0 c.0 c.1
          ∙ ap (λ (x : DatagramText). kind_of_body x.body) same);
    }

may : (bytes : List ℕ) (kind : DatagramKind) → SaysKind bytes kind → may_be bytes (kind_code kind) ≡ true
may bytes kind h =
    and_from (ltb 5 (length bytes)) (eqb (get_or bytes 5 0) (kind_code kind))
    (lt-ltb 5 (length bytes) (omega (arith, h.long))) (eq-eqb _ _ h.code)

-- ---- bytes that may not be a frame, or not an acknowledgement, tell nothing

sent_by : (trips : List RoundTrip) (h : Header) (b : BodyText) (now : ℕ) (bytes : List ℕ) →
    SaysKind bytes (kind_of_body b) → may_be bytes 1 ≡ false → trips ≡ sent_with trips h b now
sent_by trips h (FrameBody f) now bytes says other =
    absurd (let bad : false ≡ true = sym other ∙ may bytes kinds.Frame says in cc)
sent_by trips h (AckBody held) now bytes says other = refl
sent_by trips h ResetBody now bytes says other = refl

sent_read : (trips : List RoundTrip) (bytes : List ℕ) (now : ℕ) (r : Result DatagramText DatagramRefusal) →
    datagram_of bytes ≡ r → may_be bytes 1 ≡ false → trips ≡ after_sent trips r now
sent_read trips bytes now (Ok d) is other = sent_by trips d.header d.body now bytes (said bytes d is) other
sent_read trips bytes now (Err e) is other = refl

pub sent_unread : (trips : List RoundTrip) (bytes : List ℕ) (now : ℕ) → may_be bytes 1 ≡ false →
    trips ≡ after_sent trips (datagram_of bytes) now
sent_unread trips bytes now other = sent_read trips bytes now (datagram_of bytes) refl other

came_by : (trips : List RoundTrip) (h : Header) (b : BodyText) (now : ℕ) (bytes : List ℕ) →
    SaysKind bytes (kind_of_body b) → may_be bytes 2 ≡ false → trips ≡ came_with trips h b now
came_by trips h (FrameBody f) now bytes says other = refl
came_by trips h (AckBody held) now bytes says other =
    absurd (let bad : false ≡ true = sym other ∙ may bytes kinds.Ack says in cc)
came_by trips h ResetBody now bytes says other = refl

came_read : (trips : List RoundTrip) (bytes : List ℕ) (now : ℕ) (r : Result DatagramText DatagramRefusal) →
    datagram_of bytes ≡ r → may_be bytes 2 ≡ false → trips ≡ after_came trips r now
came_read trips bytes now (Ok d) is other = came_by trips d.header d.body now bytes (said bytes d is) other
came_read trips bytes now (Err e) is other = refl

pub came_unread : (trips : List RoundTrip) (bytes : List ℕ) (now : ℕ) → may_be bytes 2 ≡ false →
    trips ≡ after_came trips (datagram_of bytes) now
came_unread trips bytes now other = came_read trips bytes now (datagram_of bytes) refl other

goes_by : (trips : List RoundTrip) (h : Header) (b : BodyText) (bytes : List ℕ) →
    SaysKind bytes (kind_of_body b) → may_be bytes 1 ≡ false → true ≡ goes_with trips h b
goes_by trips h (FrameBody f) bytes says other =
    absurd (let bad : false ≡ true = sym other ∙ may bytes kinds.Frame says in cc)
goes_by trips h (AckBody held) bytes says other = refl
goes_by trips h ResetBody bytes says other = refl

goes_read : (trips : List RoundTrip) (bytes : List ℕ) (r : Result DatagramText DatagramRefusal) →
    datagram_of bytes ≡ r → may_be bytes 1 ≡ false → true ≡ may_go trips r
goes_read trips bytes (Ok d) is other = goes_by trips d.header d.body bytes (said bytes d is) other
goes_read trips bytes (Err e) is other = refl

pub goes_unread : (trips : List RoundTrip) (bytes : List ℕ) → may_be bytes 1 ≡ false → true ≡ may_go trips (datagram_of bytes)
goes_unread trips bytes other = goes_read trips bytes (datagram_of bytes) refl other
