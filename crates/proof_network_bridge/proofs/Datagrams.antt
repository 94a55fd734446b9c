-- What a rank hears is followed, whatever it is: a word alone, a message, or what concerns a collective.
use Rattle.std.proofs.Common.{◌≡◌, ℕ, Bool, true, false, List, Option, Some, None, Ok, if◌then◌else◌, refl, sym, subst}
use Rattle.std.proofs.lemmas.Option.{same_Some}
use Rattle.rendezvous.specs.PayloadState as payloads
use Rattle.datagram.specs.Spellings.{ClearFrame, DataFrame, EagerFrame, FrameText, RequestFrame}
use Rattle.datagram.specs.declared.kinds.Plane.{Plane}
use Rattle.datagram.specs.declared.kinds.Plane.TheVariants as planes
use Rattle.engine.specs.Datagrams.{HeardGives, HeardGivesBy, NoticeText, OfAnnouncement, OfAnswer, OfMessage, OfPiece}
use Rattle.engine.specs.Datagrams.{announcement_on, frame_in, is_from_collective, is_to_collective, notice_in}
use Rattle.engine.specs.Datagrams.{notice_of_frame, notice_of_message}
use Rattle.engine_calls.specs.EngineState.{EngineState}
use Rattle.proof_engine_steps.specs.Steps.{NewsAreShown}
use Rattle.proof_group_network.specs.Network.{GroupNetwork}
use Rattle.endpoint_links.specs.Links.{LinksOf}
use Rattle.sessions.specs.HeardBytes.{Acknowledges, Follows, Hands, HeardText, Holds, Nothing, Repeats, WordText}
use Rattle.sessions.specs.SessionsState.{SessionsState}
use Rattle.proof_network_bridge.proofs.PayloadAnnouncements.{announcement_step}
use Rattle.proof_network_bridge.proofs.PayloadAnswers.{answer_step}
use Rattle.proof_network_bridge.proofs.Midway.{IsHearing, IsStepped}
use Rattle.proof_network_bridge.proofs.Notices.{notice_step}
use Rattle.proof_network_bridge.proofs.PieceArrivals.{piece_step}
use Rattle.proof_network_bridge.proofs.Words.{news_step}

-- ---- what of a word concerns a collective

-- the frame that it hands up, by what it is of
abbrev HandsBy : (lesson : Bool) → payloads.State → (rank : ℕ) → Option FrameText → NoticeText → Type 0
HandsBy lesson p rank f (OfMessage t) = (f ≡ Some (EagerFrame t)) × (t.plane ≡ planes.Collective)
HandsBy lesson p rank f (OfAnnouncement t) = (f ≡ Some (RequestFrame t)) × (t.plane ≡ planes.Collective)
HandsBy lesson p rank f (OfAnswer t) = (f ≡ Some (ClearFrame t)) × (is_to_collective lesson p rank t.transfer ≡ true)
HandsBy lesson p rank f (OfPiece t) = (f ≡ Some (DataFrame t)) × (is_from_collective lesson p rank t.transfer ≡ true)

-- where a test lets something pass, it is that
passed : {A : Type 0} (b : Bool) (x y : A) → (if b then Some x else None) ≡ Some y → (b ≡ true) × (x ≡ y)
passed true x y is = (refl, same_Some x y is)
passed false x y is = absurd cc

frame_by : (lesson : Bool) (p : payloads.State) (rank : ℕ) (f : FrameText) (x : NoticeText) →
    notice_of_frame lesson p rank f ≡ Some x → HandsBy lesson p rank (Some f) x
frame_by lesson p rank (EagerFrame e) x is = go e.plane refl is
  where
    go : (plane : Plane) → e.plane ≡ plane → notice_of_message plane e ≡ Some x →
        HandsBy lesson p rank (Some (EagerFrame e)) x
    go planes.PointToPoint at is = absurd cc
    go planes.Collective at is =
        subst (HandsBy lesson p rank (Some (EagerFrame e))) (same_Some (OfMessage e) x is) (refl, at)
frame_by lesson p rank (RequestFrame e) x is = go e.plane refl is
  where
    go : (plane : Plane) → e.plane ≡ plane → announcement_on plane e ≡ Some x →
        HandsBy lesson p rank (Some (RequestFrame e)) x
    go planes.PointToPoint at is = absurd cc
    go planes.Collective at is =
        subst (HandsBy lesson p rank (Some (RequestFrame e))) (same_Some (OfAnnouncement e) x is) (refl, at)
frame_by lesson p rank (ClearFrame e) x is =
    let both = passed (is_to_collective lesson p rank e.transfer) (OfAnswer e) x is in
    subst (HandsBy lesson p rank (Some (ClearFrame e))) both.1 (refl, both.0)
frame_by lesson p rank (DataFrame e) x is =
    let both = passed (is_from_collective lesson p rank e.transfer) (OfPiece e) x is in
    subst (HandsBy lesson p rank (Some (DataFrame e))) both.1 (refl, both.0)

hands_by : (lesson : Bool) (p : payloads.State) (rank : ℕ) (w : WordText) (x : NoticeText) →
    notice_in lesson p rank w ≡ Some x → HandsBy lesson p rank (frame_in w) x
hands_by lesson p rank (Acknowledges number held) x is = absurd cc
hands_by lesson p rank Repeats x is = absurd cc
hands_by lesson p rank (Hands f) x is = frame_by lesson p rank f x is
hands_by lesson p rank (Holds e) x is = absurd cc
hands_by lesson p rank (Follows f) x is = frame_by lesson p rank f x is
hands_by lesson p rank Nothing x is = absurd cc

-- ---- what is heard

-- it is followed, whether it concerns a collective or is anything else
pub heard_step : NewsAreShown →
    (n r : ℕ) (engines : List EngineState) (u : GroupNetwork) (T : SessionsState → LinksOf FrameText → Type 0)
    (old mid : EngineState) (h : HeardText) → IsHearing n r engines u T old h →
    HeardGives old h (Ok tt) mid → IsStepped n r engines u h.source T mid
heard_step shows n r engines u T old mid h x gives =
    go (notice_in h.lesson old.payloads h.source.rank h.word) refl gives
  where
    hands : (t : NoticeText) → notice_in h.lesson old.payloads h.source.rank h.word ≡ Some t →
        HandsBy h.lesson old.payloads h.source.rank (frame_in h.word) t
    hands t is = hands_by h.lesson old.payloads h.source.rank h.word t is

    go : (o : Option NoticeText) → notice_in h.lesson old.payloads h.source.rank h.word ≡ o →
        HeardGivesBy o old h (Ok tt) mid → IsStepped n r engines u h.source T mid
    go None is g =
        subst (λ (e : EngineState). IsStepped n r engines u h.source T e) (sym g.1)
        (news_step shows n r engines u T old h x g.0)
    go (Some (OfMessage t)) is g =
        let found = hands (OfMessage t) is in notice_step n r engines u T old mid h t x found.0 found.1 g
    go (Some (OfAnnouncement t)) is g =
        let found = hands (OfAnnouncement t) is in announcement_step n r engines u T old mid h t x found.0 found.1 g
    go (Some (OfAnswer t)) is g =
        let found = hands (OfAnswer t) is in answer_step n r engines u T old mid h t x found.0 found.1 g
    go (Some (OfPiece t)) is g =
        let found = hands (OfPiece t) is in piece_step n r engines u T old mid h t x found.0 found.1 g
