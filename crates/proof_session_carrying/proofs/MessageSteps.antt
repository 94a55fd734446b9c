-- What sessions carry once an event of point to point happened.
use Rattle.std.proofs.Common.{◌≡◌, ℕ, List, [], ◌∷◌, sym, subst}
use Rattle.datagram.specs.Spellings.{FrameText}
use Rattle.proof_engine_view.specs.FrameViews as standing
use Rattle.proof_engine_view.specs.Transfers.{Announcements}
use Rattle.proof_group_network.proofs.SessionParts.{message_handed, messages_accepted, still_is_quiet}
use Rattle.proof_group_network.specs.SessionContents.{AreAllParts, Sessions, frames_carried}
use Rattle.proof_group_network.specs.Network.{GroupNetwork, NoticeLink}
use Rattle.endpoint_links.specs.Links.{LinksOf, accept_all, handed_on}
use Rattle.proof_pure_network.specs.Frames.{Frame}
use Rattle.proof_pure_network.specs.Links.{Link}
use Rattle.proof_session_carrying.proofs.SessionViews.{as_it_is, handed_is_carried, out_is_carried, still_is_still}
use Rattle.proof_session_carrying.specs.Announcements.{Announced, all_announced, transfers_as}
use Rattle.proof_session_carrying.specs.SessionViews.{AreAllBrought, AreCarried, AreSent, Saying}
use Rattle.proof_session_carrying.specs.EventLaws.{AreJoined}
use Rattle.proof_session_carrying.specs.MessageLaws.{MessagesAreCarried, OthersAreCarried, QueueCallsAreCarried}
use Rattle.proof_session_carrying.specs.MessageLaws.{StillTextsAreQuiet}
use Rattle.vocabulary.specs.declared.endpoint.Endpoint.{Endpoint}
use Rattle.vocabulary.specs.declared.message_limit.MessageLimit.{MessageLimit}

-- what was announced to and from e, where notices have this serial
abbrev as_transfers : (told : Endpoint → Endpoint → List Announced) → Endpoint → (serial : ℕ) → Announcements
as_transfers told e serial =
    record { to = λ d. transfers_as serial (told e d); from = λ s. transfers_as serial (told s e) }

-- texts that stand for frames stand for what sessions carry of them
sent_frames : (limit : MessageLimit) (told : Endpoint → Endpoint → List Announced) (said : Saying) (e : Endpoint)
    (texts : List (Endpoint × FrameText)) (out : List (Endpoint × Frame)) →
    ((serial : ℕ) → standing.AreSent (as_transfers told e serial) texts out) →
    AreSent limit told said e texts (frames_carried out)
sent_frames limit told said e [] [] s = tt
sent_frames limit told said e [] (x ∷ xs) s = absurd (s 0)
sent_frames limit told said e (t ∷ ts) [] s = absurd (s 0)
sent_frames limit told said e ((y, text) ∷ ts) ((d, f) ∷ xs) s =
    ((s 0).0, (λ serial. (s serial).1), sent_frames limit told said e ts xs (λ serial. (s serial).2))

-- the links of the network that comes of it are these
joined_as : (limit : MessageLimit) (after : GroupNetwork) (links : Endpoint → Endpoint → Link)
    (notices : Endpoint → Endpoint → NoticeLink)
    (said : Saying) (texts : LinksOf FrameText) (sessions : Sessions) → after.net.link ≡ links →
    after.notices ≡ notices → after.net.message_limit ≡ limit →
    AreAllParts sessions links notices → AreCarried limit said texts sessions → AreAllBrought said notices →
    AreJoined after said texts sessions
joined_as limit after links notices said texts sessions a b c parts alike brought =
    record {
      parts = subst (λ (ls : Endpoint → Endpoint → Link). AreAllParts sessions ls after.notices) (sym a)
          (subst (λ (ns : Endpoint → Endpoint → NoticeLink). AreAllParts sessions links ns) (sym b) parts);
      alike = subst (λ (l : MessageLimit). AreCarried l said texts sessions) (sym c) alike;
      brought = subst (λ (ns : Endpoint → Endpoint → NoticeLink). AreAllBrought said ns) (sym b) brought;
    }

pub queue_calls_are_carried : QueueCallsAreCarried
queue_calls_are_carried w after said texts sessions e core m entries out gone j h s =
    joined_as w.net.message_limit after (accept_all w.net.link e out) w.notices said (accept_all texts e gone)
    (accept_all sessions e (frames_carried out)) h.messages_are h.notices_are h.limit_is
    (messages_accepted sessions w.net.link w.notices e out j.parts)
    (out_is_carried w.net.message_limit said said texts sessions e gone (frames_carried out) j.alike (as_it_is said)
    (sent_frames w.net.message_limit (all_announced (accept_all sessions e (frames_carried out)))
    said e gone out s)) j.brought

pub messages_are_carried : MessagesAreCarried
messages_are_carried w after said texts sessions x e core m entries out gone f j next h s =
    joined_as w.net.message_limit after (accept_all (handed_on w.net.link x e) e out) w.notices said
    (accept_all (handed_on texts x e) e gone) (accept_all (handed_on sessions x e) e (frames_carried out))
    h.messages_are h.notices_are h.limit_is
    (messages_accepted (handed_on sessions x e) (handed_on w.net.link x e) w.notices e out
    (message_handed sessions w.net.link w.notices x e f j.parts next).1)
    (out_is_carried w.net.message_limit said said (handed_on texts x e) (handed_on sessions x e) e gone
    (frames_carried out)
    (handed_is_carried w.net.message_limit said texts sessions x e j.alike) (as_it_is said)
    (sent_frames w.net.message_limit (all_announced (accept_all (handed_on sessions x e) e (frames_carried out)))
    said e gone out s))
    j.brought

pub others_are_carried : OthersAreCarried
others_are_carried w after said texts sessions e core m entries j h =
    joined_as w.net.message_limit after w.net.link w.notices said texts sessions h.messages_are h.notices_are h.limit_is j.parts j.alike j.brought

pub still_texts_are_quiet : StillTextsAreQuiet
still_texts_are_quiet w said texts sessions j still =
    still_is_quiet sessions w j.parts
    (λ s d a b c e. still_is_still w.net.message_limit (all_announced sessions s d) (all_announced sessions d s)
    (said s d) (texts s d)
    (sessions s d) (j.alike s d) (still s d a b c e))
