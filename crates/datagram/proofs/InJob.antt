-- What is read in any job is read in a job with a limit, if it is within that, and else it is refused there.
use Rattle.std.proofs.Common.{◌≡◌, ℕ, ◌+◌, ◌*◌, ◌%◌, ◌≤◌, ◌&&◌, Bool, true, false, eqb, leb, ltb, List, length, get_or, drop, Ok, Err}
use Rattle.std.proofs.Common.{refl, sym, ap, ◌∙◌, arith, inl, inr}
use Rattle.std.proofs.lemmas.Bool.{and_parts, eqb-true, leb-true, le-leb}
use Rattle.std.proofs.lemmas.List.{length-drop}
use Rattle.datagram.specs.declared.refusal.DatagramRefusal.{DatagramRefusal}
use Rattle.datagram.specs.declared.refusal.DatagramRefusal.TheVariants as refusals
use Rattle.datagram.specs.declared.kinds.DatagramKind.{DatagramKind}
use Rattle.datagram.specs.declared.kinds.DatagramKind.TheVariants as kinds
use Rattle.datagram.specs.Spellings.{BodyText, FrameBody, AckBody, ResetBody, DatagramText, FrameText, EagerText, DataText}
use Rattle.datagram.specs.Spellings.{EagerFrame, RequestFrame, ClearFrame, DataFrame, body_is_within, frame_is_within}
use Rattle.datagram.specs.ByteMeanings.{guard, number_at, kind_of, length_fits, body_of, header_of, frame_of, content_of}
use Rattle.datagram.specs.ByteMeanings.{clear_of, data_of, datagram_of, datagram_up_to, datagram_within, eager_of, opening_of}
use Rattle.datagram.specs.ByteMeanings.{held_of, request_of}
use Rattle.vocabulary.specs.MessageLimits.{frame_limit_of, limit_of}
use Rattle.vocabulary.specs.declared.message_limit.MessageLimit.{MessageLimit}
use Rattle.vocabulary.specs.BasicTypes.{size_of}
use Rattle.vocabulary.specs.Modes.{is_standard}
use Rattle.datagram.specs.declared.reading.Opening.{Opening}
use Rattle.datagram.proofs.Fields.{bind_ok, choice_ok, guard_ok, ok_is}

-- ---- how long the body of a frame is that is within the limit

eager_short : (limit : MessageLimit) (body : List ℕ) (e : EagerText) → eager_of body ≡ Ok e →
    frame_is_within limit (EagerFrame e) ≡ true → length body ≤ frame_limit_of limit + 176
unfolding eager_of
eager_short limit body e is within =
    let o = bind_ok (opening_of body) _ e is in
    let x : Opening = o.0 in
    let s = guard_ok (is_standard x.mode) refusals.BadFrame _ e o.2 in
    let i = guard_ok (leb (length (drop 20 body)) 61440) refusals.BadFrame _ e s.1 in
    let j = guard_ok (eqb (length (drop 20 body)) (x.count * size_of x.basic)) refusals.BadFrame _ e i.1 in
    let made : EagerText = record { plane = x.plane; basic = x.basic; tag = x.tag; context = x.context; count = x.count; elements = drop 20 body } in
    let same : drop 20 body ≡ e.elements = ap (λ (t : EagerText). t.elements) (ok_is made e j.1) in
    let few : length e.elements ≤ frame_limit_of limit = leb-true _ _ within in
    omega (arith, few, ap length same, length-drop 20 body)

data_short : (limit : MessageLimit) (body : List ℕ) (d : DataText) → data_of body ≡ Ok d →
    frame_is_within limit (DataFrame d) ≡ true → length body ≤ frame_limit_of limit + 176
unfolding data_of
data_short limit body d is within =
    let a = guard_ok (ltb 12 (length body)) refusals.BadFrame _ d is in
    let b = guard_ok (eqb (number_at 0 4 body) 0x04000000) refusals.BadFrame _ d a.1 in
    let i = guard_ok (leb (length (drop 12 body)) 61440) refusals.BadFrame _ d b.1 in
    let made : DataText = record { transfer = number_at 4 4 body; offset = number_at 8 4 body; bytes = drop 12 body } in
    let same : drop 12 body ≡ d.bytes = ap (λ (t : DataText). t.bytes) (ok_is made d i.1) in
    let parts = and_parts (leb (length d.bytes) (frame_limit_of limit)) (eqb (d.offset % frame_limit_of limit) 0 && ltb d.offset (limit_of limit)) within in
    let few : length d.bytes ≤ frame_limit_of limit = leb-true _ _ parts.0 in
    omega (arith, few, ap length same, length-drop 12 body)

frame_short : (limit : MessageLimit) (body : List ℕ) (f : FrameText) → frame_of body ≡ Ok f →
    frame_is_within limit f ≡ true → length body ≤ frame_limit_of limit + 176
unfolding frame_of request_of clear_of
frame_short limit body f is within =
    elim (choice_ok (eqb (get_or body 0 0) 1) _ _ f is) [
      | inl h ↦
          let a = bind_ok (eager_of body) (λ e. Ok (EagerFrame e)) f h.1 in
          eager_short limit body a.0 a.1 (ap (frame_is_within limit) (ok_is (EagerFrame a.0) f a.2) ∙ within)
      | inr second ↦ elim (choice_ok (eqb (get_or body 0 0) 2) _ _ f second) [
        | inl h ↦
            let a = bind_ok (request_of body) (λ r. Ok (RequestFrame r)) f h.1 in
            let g = guard_ok (eqb (length body) 24) refusals.BadFrame _ a.0 a.1 in
            let len : length body ≡ 24 = eqb-true _ _ g.0 in
            omega (arith, len)
        | inr third ↦ elim (choice_ok (eqb (get_or body 0 0) 3) _ _ f third) [
          | inl h ↦
              let a = bind_ok (clear_of body) (λ c. Ok (ClearFrame c)) f h.1 in
              let g = guard_ok (eqb (length body) 8) refusals.BadFrame _ a.0 a.1 in
              let len : length body ≡ 8 = eqb-true _ _ g.0 in
              omega (arith, len)
          | inr fourth ↦ elim (choice_ok (eqb (get_or body 0 0) 4) _ _ f fourth) [
            | inl h ↦
                let a = bind_ok (data_of body) (λ d. Ok (DataFrame d)) f h.1 in
                data_short limit body a.0 a.1 (ap (frame_is_within limit) (ok_is (DataFrame a.0) f a.2) ∙ within)
            | inr none ↦ absurd cc
          ]
        ]
      ]
    ]

content_short : (limit : MessageLimit) (kind : DatagramKind) (n : ℕ) (body : List ℕ) (c : BodyText) →
    content_of kind n body ≡ Ok c → body_is_within limit c ≡ true → length_fits 61440 kind (length body) ≡ true →
    length_fits (frame_limit_of limit) kind (length body) ≡ true
unfolding content_of
content_short limit kinds.Ack n body c is within fits = fits
content_short limit kinds.Reset n body c is within fits = fits
content_short limit kinds.Frame n body c is within fits =
    let a = bind_ok (frame_of body) (λ f. Ok (FrameBody f)) c is in
    le-leb _ _ (frame_short limit body a.0 a.1 (ap (body_is_within limit) (ok_is (FrameBody a.0) c a.2) ∙ within))

-- ---- what is read

record IsBody (kind : DatagramKind) (bytes body : List ℕ) : Type 0 where
  len : eqb (number_at 14 2 bytes) (length (drop 32 bytes)) ≡ true
  fits : length_fits 61440 kind (length body) ≡ true
  same : drop 32 bytes ≡ body

body_is : (kind : DatagramKind) (bytes body : List ℕ) → body_of 61440 kind bytes ≡ Ok body → IsBody kind bytes body
unfolding body_of
body_is kind bytes body is =
    let l = guard_ok (eqb (number_at 14 2 bytes) (length (drop 32 bytes))) refusals.Length _ body is in
    let m = guard_ok (length_fits 61440 kind (length (drop 32 bytes))) refusals.Length _ body l.1 in
    let same : drop 32 bytes ≡ body = ok_is (drop 32 bytes) body m.1 in
    record {
      len = l.0;
      fits = ap (λ (x : List ℕ). length_fits 61440 kind (length x)) (sym same) ∙ m.0;
      same = same;
    }

body_by : (frame : ℕ) (kind : DatagramKind) (bytes body : List ℕ) (b : Bool) → IsBody kind bytes body →
    length_fits frame kind (length body) ≡ b → body_of frame kind bytes ≡ guard b refusals.Length (Ok body)
unfolding body_of
body_by frame kind bytes body b h is =
    let t : length_fits frame kind (length (drop 32 bytes)) ≡ b = ap (λ (x : List ℕ). length_fits frame kind (length x)) h.same ∙ is in
    rw (h.len, t, h.same) refl

outside : (limit : MessageLimit) (kind : DatagramKind) (n : ℕ) (body : List ℕ) (c : BodyText) (w : Bool) →
    body_is_within limit c ≡ w → content_of kind n body ≡ Ok c → length_fits 61440 kind (length body) ≡ true →
    length_fits (frame_limit_of limit) kind (length body) ≡ false → body_is_within limit c ≡ false
outside limit kind n body c false is content fits long = is
outside limit kind n body c true is content fits long =
    absurd (let bad : false ≡ true = sym long ∙ content_short limit kind n body c content is fits in cc)

-- what a datagram is in a job: refused where it isn't within the limit
abbrev pub InJob : MessageLimit → List ℕ → DatagramText → Type 0
InJob limit bytes d =
    (e : DatagramRefusal) × (datagram_within limit bytes ≡ guard (body_is_within limit d.body) e (Ok d))

in_job_by : (limit : MessageLimit) (bytes body : List ℕ) (kind : DatagramKind) (d : DatagramText) (b : Bool) →
    kind_of bytes ≡ Ok kind → IsBody kind bytes body → content_of kind (number_at 24 8 bytes) body ≡ Ok d.body →
    header_of bytes ≡ d.header → length_fits (frame_limit_of limit) kind (length body) ≡ b → InJob limit bytes d
unfolding datagram_within datagram_up_to
in_job_by limit bytes body kind d true k h c head is =
    let e = body_by (frame_limit_of limit) kind bytes body true h is in (refusals.BadFrame, rw (k, e, c, head) refl)
in_job_by limit bytes body kind d false k h c head is =
    let e = body_by (frame_limit_of limit) kind bytes body false h is in
    let w = outside limit kind (number_at 24 8 bytes) body d.body (body_is_within limit d.body) refl c h.fits is in
    (refusals.Length, rw (k, e, w) refl)

-- what is read in any job
pub in_job : (limit : MessageLimit) (bytes : List ℕ) (d : DatagramText) → datagram_of bytes ≡ Ok d → InJob limit bytes d
unfolding datagram_up_to
in_job limit bytes d is =
    let k = bind_ok (kind_of bytes) _ d is in
    let b = bind_ok (body_of 61440 k.0 bytes) _ d k.2 in
    let c = bind_ok (content_of k.0 (number_at 24 8 bytes) b.0) _ d b.2 in
    let made : DatagramText = record { header = header_of bytes; body = c.0 } in
    let same : made ≡ d = ok_is made d c.2 in
    in_job_by limit bytes b.0 k.0 d (length_fits (frame_limit_of limit) k.0 (length b.0)) k.1 (body_is k.0 bytes b.0 b.1)
    (c.1 ∙ ap (λ (x : DatagramText). Ok x.body) same) (ap (λ (x : DatagramText). x.header) same) refl
