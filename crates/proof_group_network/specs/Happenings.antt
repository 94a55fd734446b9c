-- What one happening does to the network: its endpoint's core and member change, what goes out goes to its links, and
-- the rest stays.
use Rattle.std.specs.Prelude.{◌≡◌, ℕ, suc, ◌<◌, ◌≤◌, ◌==◌, true, false, List, [], ◌∷◌, ◌++◌, Option, Some, None}
use Rattle.std.specs.Prelude.{slice_get}
use Rattle.perfect_groups.specs.Calls.{Call, Enter, Inquire, Question, Reply, entry_of, queue_call, reply_at_once}
use Rattle.perfect_groups.specs.Collectives.{CollectiveCall, Part}
use Rattle.perfect_groups.specs.Communicators.{Communicator}
use Rattle.perfect_groups.specs.Events.{Entry, Restarted, ended_with, ready_by, told_of}
use Rattle.perfect_groups.specs.Faults.{fault}
use Rattle.perfect_queues.specs.Calls as queues
use Rattle.perfect_queues.specs.State.{with_number}
use Rattle.proof_group_network.specs.Network.{Ask, GroupNetwork, NoticeLink, Restarts, Word, happens, has_serials}
use Rattle.proof_group_network.specs.Network.{member_settled, noticed_on, notify_all}
use Rattle.proof_group_network.specs.NoticesStand.{heard_member}
use Rattle.proof_group_network.specs.Notices.{Member, MemberEffect, Notice, attempt, member_entering, noted}
use Rattle.proof_pure_network.specs.Core.{Core, view}
use Rattle.proof_pure_network.specs.Engine.{called, came, core_ready, core_settled, met}
use Rattle.proof_pure_network.specs.Frames.{Frame}
use Rattle.proof_pure_network.specs.WaitingMessages.{blank}
use Rattle.proof_pure_network.specs.Links.{Link, accept_all, handed_on}
use Rattle.proof_pure_network.specs.Network.{here}
use Rattle.vocabulary.specs.Endpoints.{is_same}
use Rattle.vocabulary.specs.declared.endpoint.Endpoint.{Endpoint}

-- the core and the member of e are these, and no others changed; the links of messages and of notices are these; and
-- this is seen more
pub record IsAfter (w after : GroupNetwork) (e : Endpoint) (core : Core) (messages : Endpoint → Endpoint → Link)
    (m : Member) (notices : Endpoint → Endpoint → NoticeLink) (entries : List Entry) : Type 0 where
  pub core_is : after.net.core e ≡ core
  pub cores : (x : Endpoint) → is_same x e ≡ false → after.net.core x ≡ w.net.core x
  pub messages_are : after.net.link ≡ messages
  pub current_is : after.net.current ≡ w.net.current
  pub limit_is : after.net.message_limit ≡ w.net.message_limit
  pub member_is : after.member e ≡ m
  pub members : (x : Endpoint) → is_same x e ≡ false → after.member x ≡ w.member x
  pub notices_are : after.notices ≡ notices
  pub seen : after.history ≡ w.history ++ entries

-- a call of the rank r is taken: the endpoint there finds no fault with it
abbrev pub IsFaultless : GroupNetwork → (r : ℕ) → Call → Type 0
IsFaultless w r c =
    fault (here w.net r) (view blank (w.net.core (here w.net r))) (w.member (here w.net r)).membership c ≡ None

-- what it answers at once
abbrev pub reply_of : GroupNetwork → (r : ℕ) → Call → Option Reply
reply_of w r c =
    reply_at_once (here w.net r) (view blank (w.net.core (here w.net r))) (w.member (here w.net r)).membership c

-- a call of queues and requests: its core takes it, and the member stays
abbrev pub QueueCallsHappen : Type 0
QueueCallsHappen =
    (n r : ℕ) (w : GroupNetwork) (c : Call) (q : queues.Call) → r < n → IsFaultless w r c →
    queue_call (w.member (here w.net r)).membership c ≡ Some q →
    IsAfter w (happens n w (Ask r c)) (here w.net r)
    (core_settled (called (here w.net r) (w.net.core (here w.net r)) q).core)
    (accept_all w.net.link (here w.net r) (called (here w.net r) (w.net.core (here w.net r)) q).out)
    (w.member (here w.net r)) w.notices
    (told_of (here w.net r) (Some (c, reply_of w r c))
    (ready_by None (core_ready (called (here w.net r) (w.net.core (here w.net r)) q).core)))

-- a question: nothing changes but what is seen
abbrev pub QuestionsHappen : Type 0
QuestionsHappen =
    (n r : ℕ) (w : GroupNetwork) (comm : Option ℕ) (question : Question) → r < n →
    IsFaultless w r (Inquire comm question) →
    IsAfter w (happens n w (Ask r (Inquire comm question))) (here w.net r) (w.net.core (here w.net r)) w.net.link
    (w.member (here w.net r)) w.notices
    (told_of (here w.net r) (Some (Inquire comm question, reply_of w r (Inquire comm question))) None)

-- the member once it has entered a collective, and did of itself what follows
abbrev pub entered_effect : GroupNetwork → (r : ℕ) → Communicator → Part → MemberEffect
entered_effect w r c p = attempt (here w.net r) (member_entering (w.member (here w.net r)) c p)

-- a call that enters a collective: the core stays, and the member does of itself what follows
abbrev pub EntriesHappen : Type 0
EntriesHappen =
    (n r : ℕ) (w : GroupNetwork) (comm : Option ℕ) (x : CollectiveCall) (c : Communicator) (p : Part) → r < n →
    IsFaultless w r (Enter comm x) →
    entry_of (w.member (here w.net r)).membership (Enter comm x) ≡ Some (c, p) →
    has_serials (here w.net r) (w.member (here w.net r)) (Some (c, p)) ≡ true →
    IsAfter w (happens n w (Ask r (Enter comm x))) (here w.net r) (w.net.core (here w.net r)) w.net.link
    (member_settled (entered_effect w r c p).member)
    (notify_all w.notices (here w.net r) (entered_effect w r c p).out)
    (told_of (here w.net r) (Some (Enter comm x, None))
    (ready_by (ended_with (entered_effect w r c p).member.membership.present) None))

-- a word of an endpoint of another rank that rank r takes in
pub record IsWord (n r : ℕ) (w : GroupNetwork) (s : Endpoint) : Type 0 where
  pub there : r < n
  pub apart : (s.rank == r) ≡ false
  pub begun : s.incarnation ≤ w.net.current s.rank
  pub fresh : (w.net.core (here w.net r)).known s.rank ≤ s.incarnation

-- the core once it heard of an endpoint
abbrev pub met_core : GroupNetwork → (r : ℕ) → Endpoint → Core
met_core w r s = met (w.net.core (here w.net r)) s

-- a word with nothing to hand up teaches at most
abbrev pub WordsHappen : Type 0
WordsHappen =
    (n r : ℕ) (w : GroupNetwork) (s : Endpoint) → IsWord n r w s →
    IsAfter w (happens n w (Word s r 0 [])) (here w.net r) (core_settled (met_core w r s)) w.net.link
    (member_settled (heard_member w r s)) w.notices
    (told_of (here w.net r) None
    (ready_by (ended_with (heard_member w r s).membership.present) (core_ready (met_core w r s))))

-- one with the next frame of its link of messages
abbrev pub MessagesHappen : Type 0
MessagesHappen =
    (n r : ℕ) (w : GroupNetwork) (s : Endpoint) (f : Frame) → IsWord n r w s →
    slice_get (w.net.link s (here w.net r)).accepted (w.net.link s (here w.net r)).handed ≡ Some f →
    IsAfter w (happens n w (Word s r 1 [])) (here w.net r) (core_settled (came (met_core w r s) s f).core)
    (accept_all (handed_on w.net.link s (here w.net r)) (here w.net r) (came (met_core w r s) s f).out)
    (member_settled (heard_member w r s)) w.notices
    (told_of (here w.net r) None
    (ready_by (ended_with (heard_member w r s).membership.present) (core_ready (came (met_core w r s) s f).core)))

-- the member once a notice came, and it did of itself what follows
abbrev pub noted_effect : GroupNetwork → (r : ℕ) → Endpoint → Notice → MemberEffect
noted_effect w r s x = attempt (here w.net r) (noted (heard_member w r s) s x)

-- one with the notice of some number
abbrev pub NoticesHappen : Type 0
NoticesHappen =
    (n r : ℕ) (w : GroupNetwork) (s : Endpoint) (i : ℕ) (x : Notice) → IsWord n r w s →
    slice_get (w.notices s (here w.net r)).accepted i ≡ Some x →
    IsAfter w (happens n w (Word s r 0 (i ∷ []))) (here w.net r) (core_settled (met_core w r s)) w.net.link
    (member_settled (noted_effect w r s x).member)
    (notify_all (noticed_on w.notices s (here w.net r) i) (here w.net r) (noted_effect w r s x).out)
    (told_of (here w.net r) None
    (ready_by (ended_with (noted_effect w r s x).member.membership.present) (core_ready (met_core w r s))))

-- a restart of a rank: its next endpoint is there, and is seen
abbrev pub RestartsHappen : Type 0
RestartsHappen =
    (n r : ℕ) (w : GroupNetwork) → r < n → w.net.current r < 65535 →
    happens n w (Restarts r) ≡
    record w {
      net = record w.net { current = with_number w.net.current r (suc (w.net.current r)) };
      history =
          w.history ++ Restarted r ∷ [];
    }
