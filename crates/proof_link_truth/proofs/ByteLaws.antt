-- What is read from the bytes of frames, acknowledgements and resets.
use Rattle.std.proofs.Common.{◌≡◌, ℕ, ◌<◌, ◌≤◌, ◌%◌, ◌^◌, Result, Ok, Err, refl, sym, ap, ◌∙◌, arith}
use Rattle.vocabulary.specs.declared.endpoint.Endpoint.{Endpoint}
use Rattle.datagram.specs.declared.frame.Frame.{Frame}
use Rattle.datagram.specs.declared.frame.Frame.TheVariants as frames
use Rattle.datagram.specs.declared.datagram.Content.{Content}
use Rattle.datagram.specs.declared.datagram.Content.TheVariants as contents
use Rattle.datagram.specs.declared.datagram.Datagram.{Datagram}
use Rattle.datagram.specs.declared.refusal.DatagramRefusal as lower
use Rattle.datagram.specs.ByteMeanings.{datagram_of}
use Rattle.datagram.specs.Spellings.{AckBody, BodyText, ClearFrame, DataFrame, DatagramFits, DatagramText, EagerFrame}
use Rattle.datagram.specs.Spellings.{FrameBody, FrameText, HeaderIsWithinFields, RequestFrame, ResetBody, content_text}
use Rattle.datagram.specs.Spellings.{datagram_text, frame_text, spelling}
use Rattle.datagram.proofs.Grammar.{is_only}
use Rattle.sessions.specs.Spellings.{ack_bytes, header_to, reset_bytes}
use Rattle.link_truth.specs.Wire.{CanBeSent, place_of, text_of, wire}

-- two endpoints of n ranks whose numbers have the widths of a header
pub record HaveWidths (n : ℕ) (s d : Endpoint) : Type 0 where
  pub few : n ≤ 1024
  pub source_is : s.rank < n
  pub target_is : d.rank < n
  pub source_last : s.incarnation ≤ 65535
  pub target_last : d.incarnation ≤ 65535

-- a frame that says this
said_frame : (t : FrameText) → (f : Frame) × (frame_text f ≡ t)
said_frame (EagerFrame e) = (
  frames.Eager (record {
    plane = e.plane;
    basic = e.basic;
    tag = e.tag;
    context = e.context;
    count =
        e.count;
    elements = record { ref_ptr = (0, 0); now = e.elements };
  }),
  refl,
)
said_frame (RequestFrame r) = (
  frames.RequestToSend
      (record {
        mode = r.mode;
        plane = r.plane;
        basic = r.basic;
        tag = r.tag;
        context = r.context;
        count =
            r.count;
        transfer = r.transfer;
      }),
  refl,
)
said_frame (ClearFrame c) = (frames.ClearToSend (record { transfer = c.transfer; clearance = c.clearance }), refl)
said_frame (DataFrame d) = (
  frames.Data
      (record { transfer = d.transfer; offset = d.offset; bytes = record { ref_ptr = (0, 0); now = d.bytes } }),
  refl,
)

-- a content that says this
said : (b : BodyText) → (c : Content) × (content_text c ≡ b)
said (FrameBody t) = let f = said_frame t in (contents.Frame f.0, ap FrameBody f.1)
said (AckBody held) = (contents.Ack held, refl)
said ResetBody = (contents.Reset, refl)

-- what is spelled is read as it was spelled
pub spelled_is_read : (d : DatagramText) → DatagramFits d → datagram_of (spelling d) ≡ Ok d
spelled_is_read d fits = go (datagram_of (spelling d)) refl
  where
    go : (r : Result DatagramText lower.DatagramRefusal) → datagram_of (spelling d) ≡ r →
        datagram_of (spelling d) ≡ Ok d
    go (Ok t) is =
        let c = said t.body in
        let x : Datagram = record { header = t.header; content = c.0 } in
        let same : datagram_text x ≡ t = ap (λ (b : BodyText). record { header = t.header; body = b }) c.1 in
        let given : datagram_of (spelling d) ≡ Ok (datagram_text x) = is ∙ ap Ok (sym same) in
        given ∙ sym (is_only (spelling d) (Ok x) given d fits refl)
    go (Err e) is =
        let same : Ok d ≡ Err e = is_only (spelling d) (Err e) is d fits refl in
        absurd cc

-- the widths of a header from one endpoint to another
header_fits : (n : ℕ) (s d : Endpoint) (q : ℕ) → HaveWidths n s d → q < 2 ^ 64 →
    HeaderIsWithinFields (header_to (place_of n s) d q)
header_fits n s d q w numbered = record {
  source = record { rank = omega (arith, w.few, w.source_is); incarnation = omega (arith, w.source_last) };
  target = record { rank = omega (arith, w.few, w.target_is); incarnation = omega (arith, w.target_last) };
  job = omega arith;
  sequence = numbered;
}

-- the bytes of a frame that can be spelled are read as the frame
pub frame_is_read : (n : ℕ) (s d : Endpoint) (q : ℕ) (f : FrameText) → CanBeSent f → HaveWidths n s d → q < 2 ^ 64
    → datagram_of (wire n s d q f) ≡ Ok (text_of n s d q f)
unfolding wire
frame_is_read n s d q f can w numbered =
    spelled_is_read (text_of n s d q f)
    (record { header = header_fits n s d q w numbered; width = can.width; body = can.fits; sequence = tt })

-- what an acknowledgement says
abbrev pub ack_text : (n : ℕ) (s d : Endpoint) (k held : ℕ) → DatagramText
ack_text n s d k held = record { header = header_to (place_of n s) d k; body = AckBody held }

-- the bytes of an acknowledgement are read as it
pub ack_is_read : (n : ℕ) (s d : Endpoint) (k held : ℕ) → HaveWidths n s d → k < 2 ^ 64 → held % 2 ≡ 0 → held < 2 ^ 64
    → datagram_of (ack_bytes (place_of n s) d k held) ≡ Ok (ack_text n s d k held)
unfolding ack_bytes
ack_is_read n s d k held w numbered even width =
    spelled_is_read (ack_text n s d k held)
    (record { header = header_fits n s d k w numbered; width = width; body = even; sequence = tt })

-- what a reset says
abbrev pub reset_text : (n : ℕ) (s d : Endpoint) → DatagramText
reset_text n s d = record { header = header_to (place_of n s) d 0; body = ResetBody }

-- the bytes of a reset are read as it
pub reset_is_read : (n : ℕ) (s d : Endpoint) → HaveWidths n s d → datagram_of (reset_bytes (place_of n s) d) ≡
    Ok (reset_text n s d)
unfolding reset_bytes
reset_is_read n s d w =
    spelled_is_read (reset_text n s d)
    (record { header = header_fits n s d 0 w (omega arith); width = tt; body = tt; sequence = refl })
