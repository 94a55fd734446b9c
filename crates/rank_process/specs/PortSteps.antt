-- What ports carried, step by step.
use Rattle.std.proofs.Common.{◌≡◌, ℕ, List, [], ◌∷◌, ◌++◌, refl, sym, ap, subst, ◌∙◌, inl, inr}
use Rattle.std.proofs.Common.{Bool, true, false}
use Rattle.std.specs.Prelude.{◌⊎◌, Option, Some, None, OnOk, Result, Ok, Err}
use Rattle.port_transport.specs.declared.wire.WireFault.{WireFault}
use mathlib.Core.Bool.{false≢true}
use Rattle.datagram.specs.ByteMeanings.{datagram_of}
use Rattle.datagram.specs.Spellings.{DatagramText, BodyText, FrameBody, AckBody, ResetBody}
use Rattle.datagram.specs.declared.datagram.Header.{Header}
use Rattle.datagram.specs.declared.refusal.DatagramRefusal.{DatagramRefusal}
use Rattle.event_loop.specs.Exchanges.{receipt}
use Rattle.port_transport.specs.Ports as ports
use Rattle.event_loop.specs.declared.exchange.Exchange.{Exchange}
use Rattle.event_loop.specs.declared.exchange.Exchange.TheVariants.{Received, Nothing, Sent, Printed, Waited, Failed}
use Rattle.port_transport.specs.declared.wire.WireEvent.{WireEvent}
use Rattle.port_transport.specs.Ports.{Passes, PortState}
use Rattle.port_transport.specs.Wires.{Parcel}
use Rattle.port_transport.proofs.PortSteps.{passes_joined}
use Rattle.port_transport.proofs.Steps.{stays}
use Rattle.round_trips.specs.Trips.{goes_with, may_go}
use Rattle.round_trips.specs.declared.round_trip.RoundTrip.{RoundTrip}
use Rattle.rank_process.specs.PortViews.{CarriesAll, HasFailed, HoldsBack, IsFrame, IsFrameBody, SentBy, printed_in}
use Rattle.rank_process.specs.PortViews.{received_in, sent_in}

sent_more : (xs ys : List Exchange) → sent_in (xs ++ ys) ≡ sent_in xs ++ sent_in ys
sent_more [] ys = refl
sent_more (Received bytes ∷ xs) ys = sent_more xs ys
sent_more (Nothing ∷ xs) ys = sent_more xs ys
sent_more (Sent target bytes ∷ xs) ys = ap (λ (l : List Parcel). (target, bytes) ∷ l) (sent_more xs ys)
sent_more (Printed line ∷ xs) ys = sent_more xs ys
sent_more (Waited most ∷ xs) ys = sent_more xs ys
sent_more (Failed ∷ xs) ys = sent_more xs ys

received_more : (xs ys : List Exchange) → received_in (xs ++ ys) ≡ received_in xs ++ received_in ys
received_more [] ys = refl
received_more (Received bytes ∷ xs) ys = ap (λ (l : List (List ℕ)). bytes ∷ l) (received_more xs ys)
received_more (Nothing ∷ xs) ys = received_more xs ys
received_more (Sent target bytes ∷ xs) ys = received_more xs ys
received_more (Printed line ∷ xs) ys = received_more xs ys
received_more (Waited most ∷ xs) ys = received_more xs ys
received_more (Failed ∷ xs) ys = received_more xs ys

printed_more : (xs ys : List Exchange) → printed_in (xs ++ ys) ≡ printed_in xs ++ printed_in ys
printed_more [] ys = refl
printed_more (Received bytes ∷ xs) ys = printed_more xs ys
printed_more (Nothing ∷ xs) ys = printed_more xs ys
printed_more (Sent target bytes ∷ xs) ys = printed_more xs ys
printed_more (Printed line ∷ xs) ys = ap (λ (l : List (List ℕ)). line ∷ l) (printed_more xs ys)
printed_more (Waited most ∷ xs) ys = printed_more xs ys
printed_more (Failed ∷ xs) ys = printed_more xs ys

failed_before : (xs ys : List Exchange) → HasFailed xs → HasFailed (xs ++ ys)
failed_before [] ys is = absurd is
failed_before (Received bytes ∷ xs) ys is = failed_before xs ys is
failed_before (Nothing ∷ xs) ys is = failed_before xs ys is
failed_before (Sent target bytes ∷ xs) ys is = failed_before xs ys is
failed_before (Printed line ∷ xs) ys is = failed_before xs ys is
failed_before (Waited most ∷ xs) ys is = failed_before xs ys is
failed_before (Failed ∷ xs) ys is = tt

failed_later : (xs ys : List Exchange) → HasFailed ys → HasFailed (xs ++ ys)
failed_later [] ys is = is
failed_later (Received bytes ∷ xs) ys is = failed_later xs ys is
failed_later (Nothing ∷ xs) ys is = failed_later xs ys is
failed_later (Sent target bytes ∷ xs) ys is = failed_later xs ys is
failed_later (Printed line ∷ xs) ys is = failed_later xs ys is
failed_later (Waited most ∷ xs) ys is = failed_later xs ys is
failed_later (Failed ∷ xs) ys is = tt

holds_joined : (a v b w : List Parcel) → HoldsBack a v → HoldsBack b w → HoldsBack (a ++ b) (v ++ w)
holds_joined [] v b w none q = subst (λ (l : List Parcel). HoldsBack b (l ++ w)) (sym none) q
holds_joined (x ∷ a) v b w (inl (rest, (is, p))) q =
    inl (rest ++ w, (ap (λ (l : List Parcel). l ++ w) is, holds_joined a rest b w p q))
holds_joined (x ∷ a) v b w (inr (frame, p)) q = inr (frame, holds_joined a v b w p q)

-- where nothing was done, nothing was carried
pub carries_none : {W : Type 0} (did : W → List WireEvent → W → Type 0) → ((w : W) → did w [] w) → (s : PortState W) →
    CarriesAll did s [] s
carries_none did none s = inr ([], (refl, stays did s s [] [] [] (none s.wire) refl refl refl refl refl))

-- what was carried in two steps
pub carries_more : {W : Type 0} (did : W → List WireEvent → W → Type 0) →
    ((u v w : W) (es fs : List WireEvent) → did u es v → did v fs w → did u (es ++ fs) w) → (s t u : PortState W)
    (xs ys : List Exchange) → CarriesAll did s xs t → CarriesAll did t ys u → CarriesAll did s (xs ++ ys) u
carries_more did step s t u xs ys (inl failed) q = inl (failed_before xs ys failed)
carries_more did step s t u xs ys (inr p) (inl failed) = inl (failed_later xs ys failed)
carries_more did step s t u xs ys (inr (v, (p, pp))) (inr (w, (q, qq))) =
    inr (
      v ++ w,
      (
        subst (λ (l : List Parcel). HoldsBack l (v ++ w)) (sym (sent_more xs ys))
            (holds_joined (sent_in xs) v (sent_in ys) w p q),
        subst (λ (l : List (List ℕ)). Passes did s (v ++ w) l (printed_in (xs ++ ys)) u) (sym (received_more xs ys))
            (subst (λ (l : List (List ℕ)). Passes did s (v ++ w) (received_in xs ++ received_in ys) l u)
            (sym (printed_more xs ys))
            (passes_joined did step s t u v w (received_in xs) (received_in ys) (printed_in xs) (printed_in ys) pp qq)),
      ),
    )

-- a datagram came, or none
pub came : {W : Type 0} (did : W → List WireEvent → W → Type 0) (s t : PortState W) (found : Option ℕ)
    (buffer : List ℕ) → Passes did s [] (ports.received_in found buffer) [] t →
    CarriesAll did s (receipt (Ok found) buffer ∷ []) t
came did s t None buffer passes = inr ([], (refl, passes))
came did s t (Some n) buffer passes = inr ([], (refl, passes))

held_body : (trips : List RoundTrip) (h : Header) (body : BodyText) → goes_with trips h body ≡ false → IsFrameBody body
held_body trips h (FrameBody f) is = tt
held_body trips h (AckBody held) is = absurd (false≢true (sym is))
held_body trips h ResetBody is = absurd (false≢true (sym is))

-- what may not go is a frame
held_frame : (trips : List RoundTrip) (d : Result DatagramText DatagramRefusal) → may_go trips d ≡ false → IsFrame d
held_frame trips (Ok d) is = held_body trips d.header d.body is
held_frame trips (Err e) is = absurd (false≢true (sym is))

sent_if : {W : Type 0} (did : W → List WireEvent → W → Type 0) (s t : PortState W) (target : ℕ) (bytes : List ℕ)
    (trips : List RoundTrip) (may : Bool) → may_go trips (datagram_of bytes) ≡ may →
    SentBy may did s target bytes t → CarriesAll did s (Sent target bytes ∷ []) t
sent_if did s t target bytes trips true is passes = inr ((target, bytes) ∷ [], (inl ([], (refl, refl)), passes))
sent_if did s t target bytes trips false is passes =
    inr ([], (inr (held_frame trips (datagram_of bytes) is, refl), passes))

-- a datagram was handed over, and went or was held back
pub went : {W : Type 0} (did : W → List WireEvent → W → Type 0) (s t : PortState W) (target : ℕ) (bytes : List ℕ)
    (trips : List RoundTrip) → SentBy (may_go trips (datagram_of bytes)) did s target bytes t →
    CarriesAll did s (Sent target bytes ∷ []) t
went did s t target bytes trips by = sent_if did s t target bytes trips (may_go trips (datagram_of bytes)) refl by

-- one that may go was sent, or that failed
pub sent_on : {W : Type 0} (did : W → List WireEvent → W → Type 0) (s t : PortState W) (target : ℕ) (bytes : List ℕ)
    (may : Bool) (r : Result (Unit {0}) WireFault) → may ≡ true → OnOk r (Passes did s ((target, bytes) ∷ []) [] [] t) →
    OnOk r (SentBy may did s target bytes t)
sent_on did s t target bytes may r is sent = subst (λ (b : Bool). OnOk r (SentBy b did s target bytes t)) (sym is) sent

-- another one was held back
pub was_held : {W : Type 0} (did : W → List WireEvent → W → Type 0) (s t : PortState W) (target : ℕ) (bytes : List ℕ)
    (may : Bool) → may ≡ false → Passes did s [] [] [] t → SentBy may did s target bytes t
was_held did s t target bytes may is none = subst (λ (b : Bool). SentBy b did s target bytes t) (sym is) none

-- a line was printed
pub was_printed : {W : Type 0} (did : W → List WireEvent → W → Type 0) (s t : PortState W) (line : List ℕ) →
    Passes did s [] [] (line ∷ []) t → CarriesAll did s (Printed line ∷ []) t
was_printed did s t line passes = inr ([], (refl, passes))

-- it was waited
pub waited : {W : Type 0} (did : W → List WireEvent → W → Type 0) (s t : PortState W) (most : ℕ) →
    Passes did s [] [] [] t → CarriesAll did s (Waited most ∷ []) t
waited did s t most passes = inr ([], (refl, passes))

-- a call failed
pub call_failed : {W : Type 0} (did : W → List WireEvent → W → Type 0) (s t : PortState W) →
    CarriesAll did s (Failed ∷ []) t
call_failed did s t = inl tt
