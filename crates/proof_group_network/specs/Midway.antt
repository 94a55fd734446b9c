-- The network in the middle of a word: the messages and notices that it brought so far were handed up, and nothing is
-- answered yet.
-- A word may be taken in one part after the other, and is settled once all have come.
use Rattle.std.specs.Prelude.{◌≡◌, ℕ, ◌+◌, ◌≤◌, List, [], ◌∷◌, ◌++◌, Some, None, slice_get}
use Rattle.perfect_groups.specs.Events.{ended_with, ready_by, told_of}
use Rattle.proof_group_network.specs.Happenings.{IsAfter, IsWord, met_core, noted_effect}
use Rattle.proof_group_network.specs.Network.{GroupNetwork, Happening, Word, happens, hear_word, member_settled}
use Rattle.proof_group_network.specs.Network.{new_group_network, note_some, noticed_on, notify_all, run, settle_event}
use Rattle.proof_group_network.specs.Notices.{Notice}
use Rattle.proof_group_network.specs.NoticesStand.{NoticesStand, heard_member}
use Rattle.proof_pure_network.specs.Announcements.{MeetingsStand, TransfersStand}
use Rattle.proof_pure_network.specs.Engine.{came, core_ready, core_settled}
use Rattle.proof_pure_network.specs.Frames.{Frame}
use Rattle.proof_pure_network.specs.Links.{accept_all, handed_on}
use Rattle.proof_pure_network.specs.Network.{hand_some, here}
use Rattle.vocabulary.specs.declared.endpoint.Endpoint.{Endpoint}
use Rattle.vocabulary.specs.declared.message_limit.MessageLimit.{MessageLimit}

-- a word of s at e, with as many of its messages and these of its notices handed up, before it is settled
abbrev pub unsettled : GroupNetwork → (e sender : Endpoint) (frames : ℕ) (notices : List ℕ) → GroupNetwork
unsettled w e s frames notices =
    note_some (record (hear_word w e s) { net = hand_some (hear_word w e s).net e s frames }) e s notices

-- ---- the parts of a word

-- one with nothing to hand up teaches at most
abbrev pub WordsCome : Type 0
WordsCome =
    (r : ℕ) (w : GroupNetwork) (s : Endpoint) →
    IsAfter w (unsettled w (here w.net r) s 0 []) (here w.net r) (met_core w r s) w.net.link
    (heard_member w r s) w.notices []

-- one with the next message of its link: the core takes it, and what that gives out goes to its links
abbrev pub MessagesCome : Type 0
MessagesCome =
    (r : ℕ) (w : GroupNetwork) (s : Endpoint) (f : Frame) →
    slice_get (w.net.link s (here w.net r)).accepted (w.net.link s (here w.net r)).handed ≡ Some f →
    IsAfter w (unsettled w (here w.net r) s 1 []) (here w.net r) (came (met_core w r s) s f).core
    (accept_all (handed_on w.net.link s (here w.net r)) (here w.net r) (came (met_core w r s) s f).out)
    (heard_member w r s) w.notices []

-- one with the notice of some number: the member keeps it, and does of itself what follows
abbrev pub NoticesCome : Type 0
NoticesCome =
    (r : ℕ) (w : GroupNetwork) (s : Endpoint) (i : ℕ) (x : Notice) → slice_get (w.notices s (here w.net r)).accepted i ≡
    Some x →
    IsAfter w (unsettled w (here w.net r) s 0 (i ∷ [])) (here w.net r) (met_core w r s) w.net.link
    (noted_effect w r s x).member
    (notify_all (noticed_on w.notices s (here w.net r) i) (here w.net r) (noted_effect w r s x).out) []

-- and they add up: the messages of two parts are so many, and the notices come one after the other
abbrev pub PartsAddUp : Type 0
PartsAddUp =
    (w : GroupNetwork) (e s : Endpoint) (frames more : ℕ) (notices others : List ℕ) →
    unsettled (unsettled w e s frames notices) e s more others ≡ unsettled w e s (frames + more) (notices ++ others)

-- ---- the end of an event

-- at the end a blocked call that is ready is answered, and so is a collective that ended
abbrev pub EventsSettle : Type 0
EventsSettle =
    (w : GroupNetwork) (e : Endpoint) →
    IsAfter w (settle_event w e None) e (core_settled (w.net.core e)) w.net.link (member_settled (w.member e)) w.notices
    (told_of e None (ready_by (ended_with (w.member e).membership.present) (core_ready (w.net.core e))))

-- then the word has happened
abbrev pub WordsSettle : Type 0
WordsSettle =
    (n r frames : ℕ) (notices : List ℕ) (w : GroupNetwork) (s : Endpoint) → IsWord n r w s →
    happens n w (Word s r frames notices) ≡
    settle_event (unsettled w (here w.net r) s frames notices) (here w.net r) None

-- ---- what holds in the middle

-- a word that rank r takes in is one in the middle of it, too, but teaches nothing any more; and nothing of it is seen
-- yet
pub record IsHeardMidway (n r : ℕ) (w u : GroupNetwork) (s : Endpoint) : Type 0 where
  pub current : u.net.current ≡ w.net.current
  pub seen : u.history ≡ w.history
  pub word : IsWord n r u s
  pub known : (u.net.core (here u.net r)).known s.rank ≡ s.incarnation

abbrev pub WordsGoOn : Type 0
WordsGoOn =
    (n r frames : ℕ) (notices : List ℕ) (w : GroupNetwork) (s : Endpoint) → IsWord n r w s →
    IsHeardMidway n r w (unsettled w (here w.net r) s frames notices) s

-- what every network has that happenings lead to, of its links and of what its ranks can rely on
pub record Stands (n : ℕ) (u : GroupNetwork) : Type 0 where
  pub transfers : TransfersStand u.net
  pub meetings : MeetingsStand u.net
  pub notices : NoticesStand n u

-- is there in the middle of a word, too
abbrev pub MidwayStands : Type 0
MidwayStands =
    (n : ℕ) (limit : MessageLimit) (r frames : ℕ) (notices : List ℕ) (happenings : List Happening) (s : Endpoint) → n ≤ 65536 →
    IsWord n r (run n happenings (new_group_network n limit)) s →
    Stands n (unsettled (run n happenings (new_group_network n limit))
    (here (run n happenings (new_group_network n limit)).net r) s
    frames notices)
