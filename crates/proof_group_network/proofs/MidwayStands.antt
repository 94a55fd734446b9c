-- What holds in the middle of a word, as in every network to which happenings lead.
use Rattle.std.proofs.Common.{◌≡◌, ℕ, ◌≤◌, ◌<◌, Bool, true, false, not, List, [], ◌∷◌, ◌++◌, Option, Some, None}
use Rattle.std.proofs.Common.{if◌then◌else◌, slice_get, get_or, refl, sym, ap, subst, ◌∙◌, arith}
use Rattle.std.specs.List.{AllByRecursion}
use Rattle.std.proofs.lemmas.Bool.{le-ltb, ltb-false}
use Rattle.perfect_queues.proofs.EndpointLemmas.{same_eq}
use Rattle.proof_group_network.proofs.HappeningSteps.{words}
use Rattle.proof_group_network.proofs.LinksOfMessages.{note_some_net, run_keeps_net}
use Rattle.proof_group_network.proofs.MidwaySteps.{known_midway}
use Rattle.proof_group_network.proofs.NetworkInvariant.{new_kept_with_groups, real_of}
use Rattle.proof_group_network.proofs.UnderWay.{NetworkDoing, NetworkKept}
use Rattle.proof_group_network.proofs.NetworkInvariant.{run_kept_with_groups, word_current, word_doing}
use Rattle.proof_group_network.proofs.NetworkLive.{Both, Live, new_live, run_live, word_both}
use Rattle.proof_group_network.proofs.NoticesStand.{notices_stand, stands_by}
use Rattle.proof_group_network.specs.Midway.{MidwayStands, WordsGoOn, unsettled}
use Rattle.proof_group_network.specs.Network.{GroupNetwork, Happening, Word, happens, hear_word, member_settled}
use Rattle.proof_group_network.specs.Network.{new_group_network, note_at, note_some, put_member, run, settle_event}
use Rattle.proof_group_network.specs.Notices.{Notice}
use Rattle.proof_group_network.specs.NoticesStand.{IsOfWorld, NoticesStand}
use Rattle.proof_pure_network.proofs.AgreementInvariant.{Agrees, agreeing_is_stable, new_agrees}
use Rattle.proof_pure_network.proofs.AnnouncementInvariant.{Standing, new_stands, standing_is_stable}
use Rattle.proof_pure_network.proofs.Knowledge.{met_live}
use Rattle.proof_pure_network.proofs.MeetingLaws.{meetings_stand_in}
use Rattle.proof_pure_network.proofs.RunInvariant.{apart_of}
use Rattle.proof_pure_network.proofs.Simulation.{is_stale}
use Rattle.proof_pure_network.proofs.Stable.{IsStable, hand_some_keeps}
use Rattle.proof_pure_network.proofs.Tellings.{met_knows}
use Rattle.proof_pure_network.proofs.TransferLaws.{transfers_stand_in}
use Rattle.proof_pure_network.specs.Engine.{met}
use Rattle.proof_pure_network.specs.Frames.{Values}
use Rattle.proof_pure_network.specs.Network.{Network, hand_some, hear_at, here}
use Rattle.vocabulary.specs.Endpoints.{is_same}
use Rattle.vocabulary.specs.declared.endpoint.Endpoint.{Endpoint}
use Rattle.vocabulary.specs.declared.message_limit.MessageLimit.{MessageLimit}

-- ---- the word goes on

-- what is seen comes at the end
note_history : (w : GroupNetwork) (e s : Endpoint) (i : ℕ) (o : Option Notice) → (note_at w e s i o).history ≡ w.history
note_history w e s i None = refl
note_history w e s i (Some x) = refl

note_some_history : (more : List ℕ) (w : GroupNetwork) (e s : Endpoint) → (note_some w e s more).history ≡ w.history
note_some_history [] w e s = refl
note_some_history (i ∷ more) w e s =
    let o : Option Notice = slice_get (w.notices s e).accepted i in
    note_some_history more (note_at w e s i o) e s ∙ note_history w e s i o

pub words_go_on : WordsGoOn
words_go_on n r frames notices w s i =
    record {
      current = current;
      seen = note_some_history notices (record (hear_word w e s) { net = hand_some (hear_word w e s).net e s frames }) e
          s;
      word = record {
        there = i.there;
        apart = i.apart;
        begun = subst (λ (c : ℕ → ℕ). s.incarnation ≤ c s.rank) (sym current) i.begun;
        fresh = omega (arith, known);
      };
      known = known;
    }
  where
    e : Endpoint
    e = here w.net r

    u : GroupNetwork
    u = unsettled w e s frames notices

    current : u.net.current ≡ w.net.current
    current = word_current w e s frames notices

    same : here u.net r ≡ e
    same = ap (λ (c : ℕ → ℕ). record { rank = r; incarnation = c r }) current

    known : (u.net.core (here u.net r)).known s.rank ≡ s.incarnation
    known =
        let up : s.incarnation ≤ (met (w.net.core e) s).known s.rank = met_knows (w.net.core e) s in
        let live : is_stale (met (w.net.core e) s).known s ≡ false = met_live (w.net.core e) s (le-ltb s.incarnation ((w.net.core e).known s.rank) i.fresh) in
        let down : (met (w.net.core e) s).known s.rank ≤ s.incarnation = ltb-false s.incarnation ((met (w.net.core e) s).known s.rank) live in
        let both : (met (w.net.core e) s).known s.rank ≡ s.incarnation = omega (arith, up, down) in
        ap (λ (x : Endpoint). (u.net.core x).known s.rank) same ∙
        ap (λ (k : ℕ → ℕ). k s.rank) (known_midway w e s frames notices) ∙ both

-- ---- what stands

-- what calls, words and frames keep of the links of messages
keeps_midway : (P : Network → Type 0) → IsStable P →
    (n : ℕ) (limit : MessageLimit) (r frames : ℕ) (notices : List ℕ) (hs : List Happening) (s : Endpoint) → P (new_group_network n limit).net →
    P (unsettled (run n hs (new_group_network n limit)) (here (run n hs (new_group_network n limit)).net r) s frames
    notices).net
keeps_midway P stable n limit r frames notices hs s new =
    subst P (sym
    (note_some_net notices (record (hear_word w e s) { net = hand_some (hear_at w.net e s) e s frames }) e s))
    (hand_some_keeps P stable frames (hear_at w.net e s) e s
    (stable.heard w.net e s (run_keeps_net P stable n hs (new_group_network n limit) new)))
  where
    w : GroupNetwork
    w = run n hs (new_group_network n limit)

    e : Endpoint
    e = here w.net r

-- one happening more
run_push : (n : ℕ) (hs : List Happening) (h : Happening) (w : GroupNetwork) →
    run n (hs ++ h ∷ []) w ≡ happens n (run n hs w) h
run_push n [] h w = refl
run_push n (x ∷ hs) h w = run_push n hs h (happens n w x)

-- settling leaves what ranks hold
held_before : (n : ℕ) (u : GroupNetwork) (e x : Endpoint) →
    AllByRecursion (IsOfWorld n) (put_member u.member e (member_settled (u.member e)) x).membership.held →
    AllByRecursion (IsOfWorld n) (u.member x).membership.held
held_before n u e x = go (is_same x e) refl
  where
    go : (t : Bool) → is_same x e ≡ t →
        AllByRecursion (IsOfWorld n) (if t then member_settled (u.member e) else u.member x).membership.held →
        AllByRecursion (IsOfWorld n) (u.member x).membership.held
    go true h all =
        subst (λ (y : Endpoint). AllByRecursion (IsOfWorld n) (u.member y).membership.held) (sym (same_eq x e h)) all
    go false h all = all

pub midway_stands : MidwayStands
midway_stands n limit r frames notices hs s few i =
    record {
      transfers =
          transfers_stand_in u.net
          (keeps_midway Standing standing_is_stable n limit r frames notices hs s (new_stands limit))
          (keeps_midway Agrees agreeing_is_stable n limit r frames notices hs s (new_agrees limit)) doing.sane.logs;
      meetings = meetings_stand_in V u.net doing.sane doing.spoken doing.flows;
      notices =
          stands_by n V u few
          (record {
            sane = doing.sane;
            spoken = doing.spoken;
            honest = doing.honest;
            live = both.live;
            lasting =
                λ x. subst (λ (c : ℕ → ℕ). c x ≤ 65535) (sym (word_current w e s frames notices)) (kept.lasting x);
          }) held;
    }
  where
    w : GroupNetwork
    w = run n hs (new_group_network n limit)

    e : Endpoint
    e = here w.net r

    u : GroupNetwork
    u = unsettled w e s frames notices

    V : Values
    V = λ a k. get_or (w.net.log a) k []

    kept : NetworkKept n V w
    kept = run_kept_with_groups n V hs (new_group_network n limit) few (λ a k lt. refl) (new_kept_with_groups n limit V)

    apart : is_same s e ≡ false
    apart = apart_of s r (w.net.current r) (ap not i.apart)

    doing : NetworkDoing n V w u e None
    doing = word_doing n V w e s frames notices few i.there refl apart i.begun
        (le-ltb s.incarnation ((w.net.core e).known s.rank) i.fresh) kept

    live : Live n w
    live = run_live n V hs (new_group_network n limit) few (λ a k lt. refl) (new_kept_with_groups n limit V)
        (new_live n limit)

    both : Both n u
    both = word_both n w e s frames notices few (real_of n w.net.current e few kept.lasting i.there refl)
        (record { honest = kept.honest; live = live })

    -- between events it holds of all that happens
    after : NoticesStand n (settle_event u e None)
    after = subst (NoticesStand n) (run_push n hs (Word s r frames notices) (new_group_network n limit) ∙
        words n r frames notices w s i) (notices_stand n limit (hs ++ Word s r frames notices ∷ []) few)

    held : (x : ℕ) → x < n → AllByRecursion (IsOfWorld n) (u.member (here u.net x)).membership.held
    held x lt = held_before n u e (here u.net x) (after.held x lt)
