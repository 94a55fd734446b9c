-- The parts of a word, one after the other.
use Rattle.std.proofs.Common.{◌≡◌, ℕ, zero, suc, ◌+◌, Bool, true, false, List, [], ◌∷◌, ◌++◌, Option, Some, None}
use Rattle.std.proofs.Common.{if◌then◌else◌, nat_lt, slice_get, refl, sym, ap, subst, ◌∙◌, arith}
use mathlib.Core.Path.{fun_ext}
use Rattle.std.proofs.lemmas.Bool.{le-ltb}
use Rattle.std.proofs.lemmas.List.{append-nil}
use Rattle.perfect_queues.proofs.EndpointLemmas.{same_eq}
use Rattle.proof_group_network.proofs.GroupInvariant.{put_same}
use Rattle.proof_group_network.proofs.HappeningSteps.{IsMid, attempted, core_here, framed_mid, heard_mid, noted_at}
use Rattle.proof_group_network.proofs.HappeningSteps.{noted_mid, same_mid, settled_after, words}
use Rattle.proof_group_network.proofs.LinksOfMessages.{note_some_net}
use Rattle.proof_group_network.specs.Happenings.{IsAfter, met_core, noted_effect}
use Rattle.proof_group_network.specs.Midway.{EventsSettle, MessagesCome, NoticesCome, PartsAddUp, WordsCome}
use Rattle.proof_group_network.specs.Midway.{WordsSettle, unsettled}
use Rattle.proof_group_network.specs.Network.{GroupNetwork, NoticeLink, attempt_at, hear_word, note_at, note_some}
use Rattle.proof_group_network.specs.Network.{noticed_on, notify_all, put_member}
use Rattle.proof_group_network.specs.Notices.{Member, Notice, member_learned, noted}
use Rattle.proof_group_network.specs.NoticesStand.{heard_member}
use Rattle.proof_pure_network.proofs.Knowledge.{came_known}
use Rattle.proof_pure_network.proofs.Tellings.{IsKnown, met_knows}
use Rattle.proof_pure_network.specs.Core.{Core}
use Rattle.proof_pure_network.specs.Engine.{came, learned, met}
use Rattle.proof_pure_network.specs.Frames.{Frame}
use Rattle.proof_pure_network.specs.Links.{Link, accept_all, handed_on}
use Rattle.proof_pure_network.specs.Network.{Network, hand_at, hand_some, hear_at, here, with_core}
use Rattle.vocabulary.specs.Endpoints.{is_same}
use Rattle.vocabulary.specs.declared.endpoint.Endpoint.{Endpoint}

-- nothing is seen in the middle of an event
unseen : (w mid : GroupNetwork) (e : Endpoint) (core : Core) (messages : Endpoint → Endpoint → Link) (m : Member)
    (notices : Endpoint → Endpoint → NoticeLink) → IsMid w mid e core messages m notices →
    IsAfter w mid e core messages m notices []
unseen w mid e core messages m notices i =
    record {
      core_is = i.core_is;
      cores = i.cores;
      messages_are = i.messages_are;
      current_is = i.current_is;
      limit_is = i.limit_is;
      member_is = i.member_is;
      members = i.members;
      notices_are = i.notices_are;
      seen = i.seen ∙ sym (append-nil w.history);
    }

-- ---- the parts

pub words_come : WordsCome
words_come r w s =
    let e : Endpoint = here w.net r in
    unseen w (hear_word w e s) e (met_core w r s) w.net.link (heard_member w r s) w.notices (heard_mid w e s)

pub messages_come : MessagesCome
messages_come r w s f next =
    subst (λ (o : Option Frame). IsAfter w (record (hear_word w e s) { net = hand_at (hear_word w e s).net e s o }) e
    (came (met_core w r s) s f).core (accept_all (handed_on w.net.link s e) e (came (met_core w r s) s f).out)
    (heard_member w r s) w.notices []) (sym next)
    (unseen w (record (hear_word w e s) { net = hand_at (hear_word w e s).net e s (Some f) }) e
    (came (met_core w r s) s f).core (accept_all (handed_on w.net.link s e) e (came (met_core w r s) s f).out)
    (heard_member w r s) w.notices (framed_mid w e s f))
  where
    e : Endpoint
    e = here w.net r

pub notices_come : NoticesCome
notices_come r w s i x there =
    subst (λ (o : Option Notice). IsAfter w (note_at (hear_word w e s) e s i o) e (met_core w r s) w.net.link
    (noted_effect w r s x).member (notify_all (noticed_on w.notices s e i) e (noted_effect w r s x).out) [])
    (sym there)
    (unseen w (attempt_at (noted_at w e s i x) e) e (met_core w r s) w.net.link (noted_effect w r s x).member
    (notify_all (noticed_on w.notices s e i) e (noted_effect w r s x).out)
    (attempted w (noted_at w e s i x) e (met_core w r s) w.net.link (noted (heard_member w r s) s x)
    (noticed_on w.notices s e i) (noted_mid w e s i x)))
  where
    e : Endpoint
    e = here w.net r

-- ---- a word that was heard teaches nothing more

core_same : (cores : Endpoint → Core) (e : Endpoint) → with_core cores e (cores e) ≡ cores
core_same cores e = fun_ext (λ x. go x (is_same x e) refl)
  where
    go : (x : Endpoint) (t : Bool) → is_same x e ≡ t → (if t then cores e else cores x) ≡ cores x
    go x true h = ap cores (sym (same_eq x e h))
    go x false h = refl

heard_again : (w : GroupNetwork) (e s : Endpoint) → IsKnown (w.net.core e).known s → hear_word w e s ≡ w
heard_again w e s known =
    go (nat_lt ((w.net.core e).known s.rank) s.incarnation) (le-ltb ((w.net.core e).known s.rank) s.incarnation known)
  where
    go : (t : Bool) → t ≡ false →
        record w {
          net =
              record w.net {
                core =
                    with_core w.net.core e (if t then learned (w.net.core e) s.rank s.incarnation else w.net.core e);
              };
          member =
              put_member w.member e (if t then member_learned (w.member e) s.rank s.incarnation else w.member e);
        } ≡ w
    go true none = absurd cc
    go false none =
        ap (λ (cores : Endpoint → Core). record w {
          net = record w.net { core = cores };
          member =
              put_member w.member e (w.member e);
        }) (core_same w.net.core e)
        ∙ ap (λ (members : Endpoint → Member). record w { member = members }) (put_same w.member e)

-- frames teach nothing
pub hand_knows : (frames : ℕ) (w : Network) (e s : Endpoint) → ((hand_some w e s frames).core e).known ≡
    (w.core e).known
hand_knows zero w e s = refl
hand_knows (suc frames) w e s =
    go (slice_get (w.link s e).accepted (w.link s e).handed) (λ w1. hand_knows frames w1 e s)
  where
    go : (o : Option Frame) → ((w1 : Network) → ((hand_some w1 e s frames).core e).known ≡ (w1.core e).known) →
        ((hand_some (hand_at w e s o) e s frames).core e).known ≡ (w.core e).known
    go None ih = ih w
    go (Some f) ih = ih (hand_at w e s (Some f)) ∙
        ap (λ (core : Core). core.known) (core_here w.core e (came (w.core e) s f).core) ∙ came_known (w.core e) s f

-- what the endpoint knows in the middle of a word
pub known_midway : (w : GroupNetwork) (e s : Endpoint) (frames : ℕ) (notices : List ℕ) →
    ((unsettled w e s frames notices).net.core e).known ≡ (met (w.net.core e) s).known
known_midway w e s frames notices =
    ap (λ (x : Network). (x.core e).known)
    (note_some_net notices (record (hear_word w e s) { net = hand_some (hear_word w e s).net e s frames }) e s) ∙
    hand_knows frames (hear_at w.net e s) e s
    ∙ ap (λ (core : Core). core.known) (core_here w.net.core e (met (w.net.core e) s))

-- ---- parts add up

-- so many messages, and then more
handed_more : (frames more : ℕ) (w : Network) (e s : Endpoint) → hand_some (hand_some w e s frames) e s more ≡
    hand_some w e s (frames + more)
handed_more zero more w e s = ap (λ (k : ℕ). hand_some w e s k) none
  where
    none : more ≡ 0 + more
    none = omega arith
handed_more (suc frames) more w e s =
    handed_more frames more (hand_at w e s (slice_get (w.link s e).accepted (w.link s e).handed)) e s ∙
    ap (λ (k : ℕ). hand_some w e s k) one
  where
    one : suc (frames + more) ≡ suc frames + more
    one = omega arith

noted_more : (notices others : List ℕ) (w : GroupNetwork) (e s : Endpoint) →
    note_some (note_some w e s notices) e s others ≡ note_some w e s (notices ++ others)
noted_more [] others w e s = refl
noted_more (i ∷ notices) others w e s =
    noted_more notices others (note_at w e s i (slice_get (w.notices s e).accepted i)) e s

-- notices neither touch the links of messages and the cores, nor depend on them
notes_apart : (more : List ℕ) (w : GroupNetwork) (net : Network) (e s : Endpoint) →
    note_some (record w { net = net }) e s more ≡ record (note_some w e s more) { net = net }
notes_apart [] w net e s = refl
notes_apart (i ∷ more) w net e s = go (slice_get (w.notices s e).accepted i) (λ w1. notes_apart more w1 net e s)
  where
    go : (o : Option Notice) →
        ((w1 : GroupNetwork) → note_some (record w1 { net = net }) e s more ≡
        record (note_some w1 e s more) { net = net }) →
        note_some (note_at (record w { net = net }) e s i o) e s more ≡
        record (note_some (note_at w e s i o) e s more) { net = net }
    go None ih = ih w
    go (Some x) ih = ih (note_at w e s i (Some x))

pub parts_add_up : PartsAddUp
parts_add_up w e s frames more notices others =
    ap (λ (x : GroupNetwork). note_some (record x { net = hand_some x.net e s more }) e s others)
    (heard_again u e s known)
    ∙ ap (λ (x : GroupNetwork). note_some x e s others) handed
    ∙ noted_more notices others (record w1 { net = hand_some w1.net e s (frames + more) }) e s
  where
    u : GroupNetwork
    u = unsettled w e s frames notices

    w1 : GroupNetwork
    w1 = hear_word w e s

    known : IsKnown (u.net.core e).known s
    known = subst (λ (k : ℕ → ℕ). IsKnown k s) (sym (known_midway w e s frames notices)) (met_knows (w.net.core e) s)

    -- messages that come behind notices might have come before
    handed : record u { net = hand_some u.net e s more } ≡
        note_some (record w1 { net = hand_some w1.net e s (frames + more) }) e s notices
    handed =
        ap (λ (net : Network). record u { net = hand_some net e s more })
        (note_some_net notices (record w1 { net = hand_some w1.net e s frames }) e s)
        ∙ ap (λ (net : Network). record u { net = net }) (handed_more frames more w1.net e s)
        ∙ sym (notes_apart notices (record w1 { net = hand_some w1.net e s frames })
        (hand_some w1.net e s (frames + more)) e s)

-- ---- the end

pub events_settle : EventsSettle
events_settle w e = settled_after w w e (w.net.core e) w.net.link (w.member e) w.notices None (same_mid w e)

pub words_settle : WordsSettle
words_settle n r frames notices w s i = words n r frames notices w s i
