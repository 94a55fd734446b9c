-- What an engine and the pure network with communicators say of a word that both hear.
use Rattle.std.proofs.Common.{◌≡◌, ℕ, ◌≤◌, Bool, true, false, nat_lt, List, Option, Some, None, refl, ap, ◌∙◌, arith}
use Rattle.std.specs.Prelude.{if◌then◌else◌, option_map, slice_get, slice_index}
use Rattle.std.proofs.lemmas.Bool.{eqb-false, le-ltb, lt-ltb}
use Rattle.collectives.specs.Calls as collective_calls
use Rattle.collective_steps.specs.declared.step.Ending.{Ending}
use Rattle.datagram.specs.Spellings.{FrameText}
use Rattle.engine.specs.Datagrams.{ended_by}
use Rattle.engine_calls.specs.EngineState.{EngineState, GroupsState, completion_by, or_before}
use Rattle.incarnation.specs.declared.place.Place.{Place}
use Rattle.perfect_groups.specs.Events.{ready_by, told_of}
use Rattle.perfect_queues.specs.Completions as completions
use Rattle.perfect_queues.specs.Events.{told}
use Rattle.point_to_point_calls.specs.FrameNews.{NewsText}
use Rattle.point_to_point.specs.CoreState.{CoreState}
use Rattle.requests.specs.declared.answer.Answer.{Answer}
use Rattle.sessions.specs.Events.{taught_known}
use Rattle.vocabulary.specs.declared.endpoint.Endpoint.{Endpoint}
use Rattle.vocabulary.specs.declared.message_limit.MessageLimit.{MessageLimit}
use Rattle.proof_collective_steps.specs.RankLaws.{lesson_at, lesson_ends}
use Rattle.observation.specs.Endings.{ending_is}
use Rattle.proof_engine_steps.specs.Steps.{IsFromOther}
use Rattle.proof_engine_view.specs.Frames.{known_after}
use Rattle.observation.specs.CoreCalls as in_queues
use Rattle.proof_group_network.specs.SessionContents.{Sessions}
use Rattle.proof_group_network.specs.Happenings.{IsWord}
use Rattle.proof_group_network.specs.Network.{GroupNetwork}
use Rattle.proof_link_truth.specs.Events as below
use Rattle.proof_link_truth.specs.Events.{IsLesson}
use Rattle.link_truth.specs.Wire.{at, in_job, place_of}
use Rattle.proof_pure_network.specs.Network.{here}
use Rattle.proof_network_bridge.specs.WorldViews.{IsHeldBy, IsJoined}
use Rattle.proof_network_bridge.specs.OnWorld.{entries_on_world}
use Rattle.observation.specs.EngineCalls.{told_completion}
use Rattle.proof_network_bridge.proofs.Worlds.{place_is}

-- ---- what the two halves say of a word

-- both know the same once they heard it
pub known_alike : (lesson : Bool) (known : List ℕ) (s : Endpoint) → taught_known lesson known s ≡
    known_after lesson known s
known_alike true known s = refl
known_alike false known s = refl

-- a lesson is what the test of incarnations says
lesson_is : (lesson : Bool) (known incarnation : ℕ) → IsLesson lesson known incarnation →
    nat_lt known incarnation ≡ lesson
lesson_is true known incarnation above = lt-ltb known incarnation above
lesson_is false known incarnation same = le-ltb known incarnation (omega (arith, same))

-- no word comes from an incarnation before the known one
lesson_fresh : (lesson : Bool) (known incarnation : ℕ) → IsLesson lesson known incarnation → known ≤ incarnation
lesson_fresh true known incarnation above = omega (arith, above)
lesson_fresh false known incarnation same = omega (arith, same)

-- the word of another rank that the engine hears is one that the network takes in
pub is_word : (n r : ℕ) (engines : List EngineState) (datagrams : List (ℕ × List ℕ)) (w : GroupNetwork)
    (old : EngineState) (s : Endpoint) (lesson : Bool) → IsJoined n engines datagrams w →
    slice_get engines r ≡ Some old → below.IsHeard n r w.net.current old.sessions.known s lesson → IsWord n r w s
is_word n r engines datagrams w old s lesson j there h =
    let known : (w.net.core (here w.net r)).known s.rank ≡ slice_index old.sessions.known s.rank = ((j.held r old there).queues 0).known_alike s.rank in
    let fresh = lesson_fresh lesson (slice_index old.sessions.known s.rank) s.incarnation h.incarnation in
    record {
      there = (place_is n r engines datagrams w old j there).0;
      apart = h.apart;
      begun = h.begun;
      fresh =
          omega (arith, known, fresh);
    }

-- and one that the core takes for another rank's
pub is_from_other : (n r : ℕ) (current : ℕ → ℕ) (old : CoreState) (known : List ℕ) (news : NewsText) →
    (l : MessageLimit) → old.place ≡ in_job l (place_of n (at r (current r))) →
    below.IsHeard n r current known news.source news.lesson → IsFromOther old known news
is_from_other n r current old known news l place h =
    let size_is : old.place.size ≡ n = ap (λ (p : Place). p.size) place in
    let rank_is : old.place.endpoint.rank ≡ r = ap (λ (p : Place). p.endpoint.rank) place in
    record {
      there = omega (arith, h.there, size_is);
      apart = λ same. eqb-false news.source.rank r h.apart (same ∙ rank_is);
      fresh = lesson_fresh news.lesson (slice_index known news.source.rank) news.source.incarnation h.incarnation;
      lesson = lesson_is news.lesson (slice_index known news.source.rank) news.source.incarnation h.incarnation;
    }

-- ---- the lesson

-- who teaches the rank, if the word is a lesson
abbrev pub taught : Endpoint → (lesson : Bool) → Option Endpoint
taught s lesson = if lesson then Some s else None

-- the lesson that the network's rank learns is the one that the engine's learns
pub lesson_same : (n r : ℕ) (w : GroupNetwork) (sessions : Sessions) (old : EngineState) (s : Endpoint)
    (lesson : Bool) → IsHeldBy w sessions r old → below.IsHeard n r w.net.current old.sessions.known s lesson →
    lesson_at w r s ≡ taught s lesson
lesson_same n r w sessions old s lesson held h =
    ap (λ (b : Bool). if b then Some s else None)
    (ap (λ (k : ℕ). nat_lt k s.incarnation) ((held.queues 0).known_alike s.rank) ∙
    lesson_is lesson (slice_index old.sessions.known s.rank) s.incarnation h.incarnation)

-- an ending that comes first
or_before_none : (o before : Option Ending) → before ≡ None → or_before o before ≡ o
or_before_none (Some x) before is = refl
or_before_none None before is = is

-- the ending that a lesson gives
pub ended_alike : (g : GroupsState) (o : Option Endpoint) (before : Option Ending) → before ≡ None →
    or_before (ended_by g o) before ≡ lesson_ends g.collective g.contexts o
ended_alike g None before is = is
ended_alike g (Some a) before is =
    or_before_none (collective_calls.lesson_ending g.collective g.contexts a.rank a.incarnation) before is

-- ---- what is seen

-- the answer that is ready is the same, where each of its two halves is
pub told_alike : (own : Endpoint) (o : Option Ending) (k : Option (completions.Answer × List ℕ)) (c : Option Answer) →
    told own None k ≡ in_queues.told_completion own c →
    told_of own None (ready_by (option_map ending_is o) k) ≡ told_completion own (completion_by o c)
told_alike own (Some x) k c h = refl
told_alike own None None None h = refl
told_alike own None None (Some b) h = absurd cc
told_alike own None (Some a) None h = absurd cc
told_alike own None (Some a) (Some b) h = ap entries_on_world h

-- ---- a word that is heard

-- what a core hears of a word, with a frame or without
abbrev pub news : Endpoint → (lesson : Bool) → Option FrameText → NewsText
news s lesson b = record { source = s; lesson = lesson; frame = b }
