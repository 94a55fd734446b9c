-- A world follows the pure network through what is nothing to the network: ticks, and datagrams that are refused.
use Rattle.std.proofs.Common.{◌≡◌, ◌++◌, Bool, true, false, Option, Some, None, refl, sym, ap, subst}
use Rattle.std.specs.Prelude.{Result, Ok, Err, slice_set}
use Rattle.rendezvous.specs.Payloads.{Whole}
use Rattle.rendezvous.specs.PayloadState.{is_due, whole_with}
use Rattle.datagram.specs.Spellings.{DataText}
use Rattle.engine.specs.Datagrams.{HeardGivesBy, HearingGives, NoticeText, OfAnnouncement, OfAnswer, OfMessage, OfPiece}
use Rattle.engine.specs.Datagrams.{PieceGivesBy, notice_in}
use Rattle.engine_calls.specs.EngineState.{EngineState, completion_of, emptied}
use Rattle.engine.specs.Ticks.{after_tick}
use Rattle.proof_group_network.specs.Network.{GroupNetwork}
use Rattle.proof_link_truth.specs.Events.{IsAt, RefusalsAreTrue, RestIsTrue, TicksAreTrue}
use Rattle.point_to_point_calls.specs.declared.refusal.Refusal.{Refusal}
use Rattle.sessions.specs.HeardBytes.{HeardText, heard_of}
use Rattle.sessions.specs.declared.heard.Unheard.{Unheard}
use Rattle.proof_network_bridge.specs.GoingOn.{IsFollowedBy, RefusalsStand, TicksStand}
use Rattle.proof_network_bridge.specs.WorldViews.{IsFollowed, network_after}
use Rattle.observation.specs.Sessions.{sessions_in}
use Rattle.observation.specs.EngineCalls.{told_completion}
use Rattle.proof_network_bridge.proofs.RankEvents.{IsBeside, followed, followed_still, followed_unanswered}
use Rattle.proof_network_bridge.proofs.Halves.{Keeps, away_keeps}
use Rattle.proof_network_bridge.proofs.Worlds.{is_at}

-- ---- a tick

pub ticks_stand : TicksAreTrue → TicksStand
ticks_stand truth n limit r now before engines datagrams history old mid by there gives =
    let f : IsFollowed n engines datagrams history = followed n limit before engines datagrams history by in
    let w : GroupNetwork = network_after n limit before in
    subst (λ (e : EngineState). IsFollowedBy n limit before (slice_set engines r (emptied e))
    (datagrams ++ e.sessions.out)
    (history ++ told_completion old.sessions.place.endpoint (completion_of e))) (sym gives.1)
    (followed_unanswered n r engines datagrams history old (after_tick old now) f there
    (record { core = refl; groups = refl; ended = refl; payloads = refl; known = refl; place = refl })
    (truth n r now (sessions_in engines) datagrams f.joined.texts w.net.current old.sessions f.joined.links
    (is_at n r engines datagrams w old f.joined there)))

-- ---- a datagram that is refused

-- a piece that is refused changes nothing
piece_leaves : (due : Bool) (w : Option Whole) (old mid : EngineState) (h : HeardText) (t : DataText) (why : Refusal) →
    PieceGivesBy due w old h t (Err why) mid → mid ≡ old
piece_leaves true w old mid h t why gives = gives.1
piece_leaves false w old mid h t why gives = gives.1

-- what was heard and is refused changes nothing, be it of a collective or anything else
refused_leaves : (o : Option NoticeText) (old mid : EngineState) (h : HeardText) (why : Refusal) →
    HeardGivesBy o old h (Err why) mid → mid ≡ old
refused_leaves None old mid h why gives = gives.2
refused_leaves (Some (OfMessage t)) old mid h why gives = gives.1
refused_leaves (Some (OfAnnouncement t)) old mid h why gives = gives.1
refused_leaves (Some (OfAnswer t)) old mid h why gives = gives.1
refused_leaves (Some (OfPiece t)) old mid h why gives =
    piece_leaves (is_due old.payloads h.source.rank t.transfer t.offset t.bytes)
    (whole_with old.payloads h.source.rank t.transfer t.bytes) old mid h t why gives

pub refusals_stand : RestIsTrue → RefusalsAreTrue → RefusalsStand
refusals_stand rest refusals n limit r number bytes before engines datagrams history old mid why by there emitted
    gives =
    go (heard_of old.sessions bytes) refl gives
  where
    f : IsFollowed n engines datagrams history
    f = followed n limit before engines datagrams history by

    w : GroupNetwork
    w = network_after n f.limit f.happenings

    here_is : IsAt (sessions_in engines) r old.sessions
    here_is = is_at n r engines datagrams w old f.joined there

    go : (o : Result HeardText Unheard) → heard_of old.sessions bytes ≡ o → HearingGives o old (Err why) mid →
        IsFollowedBy n limit before (slice_set engines r (emptied mid)) (datagrams ++ mid.sessions.out) history
    go (Ok h) is g =
        subst (λ (e : EngineState). IsFollowedBy n limit before (slice_set engines r (emptied e))
        (datagrams ++ e.sessions.out) history)
        (sym (refused_leaves (notice_in h.lesson old.payloads h.source.rank h.word) old mid h why g))
        (followed_still n r engines datagrams history old old f there
        (record { core = refl; groups = refl; ended = refl; payloads = refl; known = refl; place = refl })
        (rest n r (sessions_in engines) datagrams f.joined.texts w.net.current old.sessions f.joined.links here_is))
    go (Err u) is g =
        let keeps : Keeps old.sessions mid.sessions = away_keeps old.sessions mid.sessions u.reset u.refused g.0 g.3 in
        let beside : IsBeside old mid = record { core = ap (λ (e : EngineState). e.core) g.2; groups = ap (λ (e : EngineState). e.groups) g.2; ended = ap (λ (e : EngineState). e.ended) g.2; payloads = ap (λ (e : EngineState). e.payloads) g.2; known = keeps.known; place = keeps.place } in
        followed_still n r engines datagrams history old mid f there beside
        (refusals n r number bytes (sessions_in engines) datagrams f.joined.texts w.net.current old.sessions
        mid.sessions u g.0 f.joined.links here_is emitted is g.3)
