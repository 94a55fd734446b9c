-- What a step of a collective leaves that is sent: what is too long for a frame is announced under numbers that are its
-- own, and kept.
use Rattle.std.proofs.Common.{◌≡◌, ℕ, suc, ◌+◌, ◌<◌, Bool, true, false, ◌&&◌, List, [], ◌∷◌, ◌++◌, length, Some, None}
use Rattle.std.proofs.Common.{if◌then◌else◌, slice_get, refl, sym, ap, subst, ◌∙◌, append-nil, arith}
use Rattle.std.specs.List.{AllByRecursion}
use Rattle.std.proofs.lemmas.Bool.{and_parts, eqb-false, ltb-true}
use Rattle.std.proofs.lemmas.List.{append_assoc, length-append, length-map, map-append}
use Rattle.collective_messages.specs.declared.message.CollectiveMessage.{CollectiveMessage}
use Rattle.rendezvous.specs.Payloads.{Announced}
use Rattle.rendezvous.specs.PayloadState as payloads
use Rattle.rendezvous.specs.PayloadState.{after_announcing}
use Rattle.datagram.specs.Spellings.{FrameText}
use Rattle.engine_calls.specs.Frames.{all_can_go, can_go, is_large, messages_sent, numbers_after, payload_frame}
use Rattle.engine_calls.specs.Frames.{payload_kept, step_numbers, step_payloads, transfer_of}
use Rattle.incarnation.specs.declared.place.Place.{Place}
use Rattle.perfect_queues.proofs.EndpointLemmas.{same_eq, same_refl}
use Rattle.proof_collective_steps.specs.Counterparts.{AreSaid}
use Rattle.proof_collective_steps.specs.MessageNotes.{IsSendable}
use Rattle.proof_engine_steps.proofs.TransferCounts.{numbers_are_counts, transfers_to_are_counted}
use Rattle.proof_engine_steps.proofs.UnderWay.{others_may_announce}
use Rattle.proof_engine_steps.specs.TransferCounts.{also_to}
use Rattle.proof_engine_view.specs.Frames.{endpoint_of}
use Rattle.proof_engine_view.specs.CoreViews.{IsShown}
use Rattle.proof_engine_view.specs.Transfers.{Transfer}
use Rattle.proof_group_network.specs.SessionContents.{Announces, Carried, OfNotices, Session, Sessions}
use Rattle.proof_group_network.specs.Network.{NoticeLink, notify, notify_all}
use Rattle.proof_group_network.specs.Notices.{Notice}
use Rattle.proof_link_truth.proofs.Lists.{All_append}
use Rattle.proof_link_truth.specs.Events.{all_addressed}
use Rattle.link_truth.specs.Wire.{at, in_job, place_of}
use Rattle.endpoint_links.specs.Links.{accept, accept_all}
use Rattle.proof_pure_network.specs.Announcements.{Begins}
use Rattle.proof_pure_network.specs.Core.{Core}
use Rattle.proof_session_carrying.proofs.SessionViews.{accepted_begins}
use Rattle.proof_session_carrying.proofs.AnnouncementLaws.{
  announced_append,
  announced_grow,
  at_here,
  last_at,
  same_begins,
}
use Rattle.proof_session_carrying.proofs.AnnouncementLaws.{transfers_grow}
use Rattle.proof_session_carrying.specs.Announcements.{LargeNotice, all_announced, announced_in, announcements_in}
use Rattle.proof_session_carrying.specs.Announcements.{transfer_as, transfers_as}
use Rattle.proof_session_carrying.specs.Announcements as sessions_announced
use Rattle.proof_session_carrying.specs.SessionViews.{AreBrought, Saying, bytes_of_message, say, say_all}
use Rattle.proof_session_carrying.specs.EventLaws.{AreNumbered, HasNumber, all_carried, carried_by}
use Rattle.point_to_point.specs.CoreState.{CoreState, with_numbers}
use Rattle.rendezvous.specs.State.{next_to, with_begun}
use Rattle.rendezvous.specs.declared.transfers.Numbers.{Numbers}
use Rattle.vocabulary.specs.Endpoints.{is_same}
use Rattle.vocabulary.specs.MessageLimits.{frame_limit_of}
use Rattle.vocabulary.specs.declared.endpoint.Endpoint.{Endpoint}
use Rattle.vocabulary.specs.declared.message_limit.MessageLimit.{MessageLimit}
use Rattle.proof_network_bridge.specs.Payloads.{ArePayloads, IsAnnouncedPayload, IsLargeNotice, SaidGrows}
use Rattle.proof_network_bridge.proofs.Payloads.{SessionsGrow, payloads_grow, said_same}
use Rattle.proof_network_bridge.proofs.StepFrames.{
  AreBounded,
  CanBegin,
  IsGoing,
  IsKnown,
  can_begin,
  is_going,
  other_rank,
}
use Rattle.proof_network_bridge.proofs.StepTargets.{GoTo}

-- ---- where nothing more is announced

-- where the same was announced, the same is held
pub shown_same : (serial : ℕ) (old new : Sessions) (own : Endpoint) (c : CoreState) (known : List ℕ) (core : Core) →
    ((a b : Endpoint) → all_announced new a b ≡ all_announced old a b) →
    IsShown (announcements_in serial old own) c known core →
    IsShown (announcements_in serial new own) c known core
shown_same serial old new own c known core same h =
    others_may_announce (announcements_in serial old own) (announcements_in serial new own) c known core h
    (record {
      to = λ d. same_begins (transfers_as serial (all_announced old own d))
          (transfers_as serial (all_announced new own d)) (ap (transfers_as serial) (sym (same own d)));
      from = λ s. same_begins (transfers_as serial (all_announced old s own))
          (transfers_as serial (all_announced new s own)) (ap (transfers_as serial) (sym (same s own)));
    })
    (λ d. ap (transfers_as serial) (same own d))

-- a whole notice announces nothing
one_whole : (sessions : Sessions) (e d : Endpoint) (i : ℕ) (a b : Endpoint) →
    all_announced (accept sessions e (d, OfNotices i)) a b ≡ all_announced sessions a b
one_whole sessions e d i a b = go (is_same a e && is_same b d) refl
  where
    go : (t : Bool) → (is_same a e && is_same b d) ≡ t →
        announced_in (if t then record (sessions e d) { accepted = (sessions e d).accepted ++ OfNotices i ∷ [] } else
        sessions a b).accepted ≡ announced_in (sessions a b).accepted
    go false is = refl
    go true is =
        let p = and_parts (is_same a e) (is_same b d) is in
        announced_append (sessions e d).accepted (OfNotices i ∷ []) ∙ append-nil (announced_in (sessions e d).accepted)
        ∙ ap (λ (z : Endpoint). announced_in (sessions z d).accepted) (sym (same_eq a e p.0)) ∙
        ap (λ (z : Endpoint). announced_in (sessions a z).accepted) (sym (same_eq b d p.1))

-- ---- where one more notice is announced

-- it stands behind all that were announced to its target
one_more : (sessions : Sessions) (e d : Endpoint) (i : ℕ) → all_announced (accept sessions e (d, Announces i)) e d ≡
    all_announced sessions e d ++ LargeNotice i ∷ []
one_more sessions e d i =
    ap (λ (l : Session). announced_in l.accepted)
    (at_here e d (record (sessions e d) { accepted = (sessions e d).accepted ++ Announces i ∷ [] }) (sessions e d))
    ∙ announced_append (sessions e d).accepted (Announces i ∷ [])

-- as one more transfer does that is announced to it
one_counted : (serial : ℕ) (sessions : Sessions) (e d : Endpoint) (i : ℕ) (x : Endpoint) →
    (announcements_in serial (accept sessions e (d, Announces i)) e).to x ≡
    (also_to (announcements_in serial sessions e) d (transfer_as serial (LargeNotice i))).to x
one_counted serial sessions e d i x = go (is_same e e) (is_same x d) (same_refl e) refl
  where
    t : Transfer
    t = transfer_as serial (LargeNotice i)

    before : List Transfer
    before = transfers_as serial (all_announced sessions e x)

    go : (a b : Bool) → a ≡ true → is_same x d ≡ b →
        transfers_as serial
        (announced_in (if a && b then record (sessions e d) {
          accepted = (sessions e d).accepted ++ Announces i ∷
              [];
        } else sessions e x).accepted) ≡ (if b then before ++ t ∷ [] else before)
    go false b p is = absurd cc
    go true false p is = refl
    go true true p is =
        ap (transfers_as serial) (announced_append (sessions e d).accepted (Announces i ∷ []))
        ∙ map-append (transfer_as serial) (all_announced sessions e d) (LargeNotice i ∷ [])
        ∙ ap (λ (z : Endpoint). transfers_as serial (all_announced sessions e z) ++ t ∷ []) (sym (same_eq x d is))

-- sessions that take in one more grow
accepts_more : (sessions : Sessions) (e d : Endpoint) (c : Carried) → SessionsGrow sessions (accept sessions e (d, c))
accepts_more sessions e d c s x = accepted_begins sessions e ((d, c) ∷ []) s x

-- what is held with the one is held with the other
shown_counted_in : (serial : ℕ) (sessions : Sessions) (e d : Endpoint) (i : ℕ) (c : CoreState) (known : List ℕ)
    (core : Core) →
    IsShown (also_to (announcements_in serial sessions e) d (transfer_as serial (LargeNotice i))) c known core →
    IsShown (announcements_in serial (accept sessions e (d, Announces i)) e) c known core
shown_counted_in serial sessions e d i c known core h =
    others_may_announce (also_to (announcements_in serial sessions e) d (transfer_as serial (LargeNotice i)))
    (announcements_in serial after e) c known core h
    (record {
      to = λ x. same_begins ((also_to (announcements_in serial sessions e) d (transfer_as serial (LargeNotice i))).to x)
          ((announcements_in serial after e).to x) (sym (one_counted serial sessions e d i x));
      from = λ s. transfers_grow serial (all_announced sessions s e) (all_announced after s e)
          (announced_grow (sessions s e).accepted (after s e).accepted (accepts_more sessions e d (Announces i) s e));
    })
    (λ x. one_counted serial sessions e d i x)
  where
    after : Sessions
    after = accept sessions e (d, Announces i)

-- ---- what is said

-- what was said stays so
said_more : (said : Saying) (e : Endpoint) (m : CollectiveMessage) → SaidGrows said (say said e m)
said_more said e m s d = go (is_same s e && is_same d m.target) refl
  where
    go : (t : Bool) → (is_same s e && is_same d m.target) ≡ t →
        Begins (said s d) (if t then said e m.target ++ m ∷ [] else said s d)
    go true is =
        let p = and_parts (is_same s e) (is_same d m.target) is in (
          m ∷ [],
          ap (λ (z : Endpoint). said z d ++ m ∷ []) (same_eq s e p.0) ∙
              ap (λ (z : Endpoint). said e z ++ m ∷ []) (same_eq d m.target p.1),
        )
    go false is = same_begins (said s d) (said s d) refl

-- and so on
said_then : (a b c : Saying) → SaidGrows a b → SaidGrows b c → SaidGrows a c
said_then a b c p q s d = longer (a s d) (b s d) (c s d) (p s d) (q s d)
  where
    longer : (xs ys zs : List CollectiveMessage) → Begins xs ys → Begins ys zs → Begins xs zs
    longer xs ys zs f g =
        (f.0 ++ g.0, sym (append_assoc xs f.0 g.0) ∙ ap (λ (l : List CollectiveMessage). l ++ g.0) f.1 ∙ g.1)

-- the message stands behind all that were said to its target
said_last : (said : Saying) (e : Endpoint) (m : CollectiveMessage) →
    slice_get (say said e m e m.target) (length (said e m.target)) ≡ Some m
said_last said e m =
    ap (λ (ms : List CollectiveMessage). slice_get ms (length (said e m.target)))
    (at_here e m.target (said e m.target ++ m ∷ []) (said e m.target)) ∙ last_at (said e m.target) m

-- there are as many messages as notices
pub as_many : (s d : Endpoint) (ms : List CollectiveMessage) (xs : List Notice) → AreBrought s d ms xs →
    length ms ≡ length xs
as_many s d [] [] all = refl
as_many s d [] (y ∷ ys) all = absurd all
as_many s d (n ∷ ns) [] all = absurd all
as_many s d (n ∷ ns) (y ∷ ys) all = ap suc (as_many s d ns ys all.1)

-- and so there are once one more of each went out
many_more : (said : Saying) (links : Endpoint → Endpoint → NoticeLink) (e : Endpoint) (m : CollectiveMessage)
    (x : Notice) (d : Endpoint) → ((z : Endpoint) → length (said e z) ≡ length (links e z).accepted) →
    length (say said e m e d) ≡ length (notify links e (m.target, x) e d).accepted
many_more said links e m x d many = go (is_same e e && is_same d m.target)
  where
    go : (t : Bool) → length (if t then said e m.target ++ m ∷ [] else said e d) ≡
        length (if t then record {
          accepted = (links e m.target).accepted ++ x ∷ [];
          handed =
              (links e m.target).handed;
        } else links e d).accepted
    go true = length-append (said e m.target) (m ∷ []) ∙ ap (λ (k : ℕ). k + 1) (many m.target) ∙
        sym (length-append (links e m.target).accepted (x ∷ []))
    go false = many d

-- ---- an engine that sends

-- What an engine holds that sent some messages of a step: its core counts what its sessions announced, it keeps what of
-- that wasn't asked for, and as many messages were said as notices went out
pub record IsSending (limit : MessageLimit) (n : ℕ) (own : Endpoint) (known : List ℕ) (core : Core)
    (sessions : Sessions) (said : Saying)
    (links : Endpoint → Endpoint → NoticeLink) (c : CoreState) (p : payloads.State) : Type 0 where
  pub placed : c.place ≡ in_job c.place.message_limit (place_of n own)
  pub shown : (serial : ℕ) → IsShown (announcements_in serial sessions own) c known core
  pub many : (d : Endpoint) → length (said own d) ≡ length (links own d).accepted
  pub kept : ArePayloads limit sessions said own known p

-- the numbers of its transfers are those that its core counts
pub numbers_bounded_by : (limit : MessageLimit) (n : ℕ) (own : Endpoint) (known : List ℕ) (core : Core)
    (sessions : Sessions) (said : Saying)
    (links : Endpoint → Endpoint → NoticeLink) (ns : List Numbers) (c : CoreState) (p : payloads.State) →
    IsSending limit n own known core sessions said links (with_numbers c ns) p → AreBounded n ns
numbers_bounded_by limit n own known core sessions said links ns c p h =
    record {
      width = (h.shown 0).under_way.numbered.width ∙ ap (λ (q : Place). q.size) h.placed;
      most =
          (h.shown 0).under_way.numbered.most;
    }

-- the frame of a message that is announced, or goes whole
abbrev frame_by : (large : Bool) → List Numbers → CollectiveMessage → FrameText
frame_by large ns m =
    payload_frame (if large then Some (next_to ns m.target.rank) else None) m.context m.number (bytes_of_message m)

-- what goes out of it, as the next notice to its target
abbrev carried_as : (large : Bool) → List Numbers → CollectiveMessage → (links : Endpoint → Endpoint → NoticeLink) →
    (own : Endpoint) → Endpoint × Carried
carried_as large ns m links own = (m.target, carried_by (frame_by large ns m) (length (links own m.target).accepted))

-- one message went out
record IsSent (limit : MessageLimit) (large : Bool) (n : ℕ) (own : Endpoint) (known : List ℕ) (core : Core)
    (sessions : Sessions)
    (said : Saying) (links : Endpoint → Endpoint → NoticeLink) (ns : List Numbers) (c : CoreState) (p : payloads.State)
    (m : CollectiveMessage) (x : Notice) : Type 0 where
  number : HasNumber (length (announced_in (sessions own m.target).accepted)) (frame_by large ns m)
  after : IsSending limit n own known core (accept sessions own (carried_as large ns m links own)) (say said own m)
      (notify links own (m.target, x))
      (with_numbers c (if large then with_begun ns m.target.rank else ns))
      (after_announcing p
      (payload_kept (if large then Some (next_to ns m.target.rank) else None) m.target.rank (bytes_of_message m)))

-- a message that goes whole
whole_sent : (limit : MessageLimit) (n : ℕ) (own : Endpoint) (known : List ℕ) (core : Core) (sessions : Sessions)
    (said : Saying)
    (links : Endpoint → Endpoint → NoticeLink) (ns : List Numbers) (c : CoreState) (p : payloads.State)
    (m : CollectiveMessage) (x : Notice) →
    IsSending limit n own known core sessions said links (with_numbers c ns) p →
    IsSent limit false n own known core sessions said links ns c p m x
whole_sent limit n own known core sessions said links ns c p m x h =
    record {
      number = tt;
      after = record {
        placed = h.placed;
        shown = λ serial. shown_same serial sessions after own (with_numbers c ns) known core
            (λ a b. one_whole sessions own m.target i a b) (h.shown serial);
        many = λ d. many_more said links own m x d h.many;
        kept = subst
            (λ (ps : List Announced). ArePayloads limit after (say said own m) own known
            (record { announced = ps; coming = p.coming })) (sym (append-nil p.announced))
            (payloads_grow limit sessions after said (say said own m) own known p
            (accepts_more sessions own m.target (OfNotices i)) (said_more said own m) h.kept);
      };
    }
  where
    i : ℕ
    i = length (links own m.target).accepted

    after : Sessions
    after = accept sessions own (m.target, OfNotices i)

-- a message that is announced
large_sent : (limit : MessageLimit) (n : ℕ) (own : Endpoint) (known : List ℕ) (core : Core) (sessions : Sessions)
    (said : Saying)
    (links : Endpoint → Endpoint → NoticeLink) (ns : List Numbers) (c : CoreState) (p : payloads.State)
    (m : CollectiveMessage) (x : Notice) →
    IsSending limit n own known core sessions said links (with_numbers c ns) p →
    IsGoing (in_job limit (place_of n own)) ns m →
    IsSendable n own m → IsKnown known m.target → frame_limit_of limit < length (bytes_of_message m) →
    IsSent limit true n own known core sessions said links ns c p m x
large_sent limit n own known core sessions said links ns c p m x h goes can known_is large =
    record {
      number = number_is;
      after = record {
        placed = h.placed;
        shown = λ serial. shown_counted_in serial sessions own m.target i (with_numbers c (with_begun ns rank)) known
            core
            (subst (λ (d : Endpoint). IsShown
            (also_to (announcements_in serial sessions own) d (transfer_as serial (LargeNotice i)))
            (with_numbers c (with_begun ns rank)) known core) target_is
            (transfers_to_are_counted (announcements_in serial sessions own) (with_numbers c ns) known core rank
            (transfer_as serial (LargeNotice i)) (h.shown serial) inside apart begins.free));
        many = λ d. many_more said links own m x d h.many;
        kept = record {
          announced =
              All_append (IsAnnouncedPayload limit after (say said own m) own known) p.announced (new ∷ [])
              grown.announced
              (new_is, tt);
          coming = grown.coming;
        };
      };
    }
  where
    rank : ℕ
    rank = m.target.rank

    i : ℕ
    i = length (links own m.target).accepted

    after : Sessions
    after = accept sessions own (m.target, Announces i)

    new : Announced
    new = record { target = rank; transfer = next_to ns rank; bytes = bytes_of_message m }

    target_is : endpoint_of known rank ≡ m.target
    target_is = ap (λ (k : ℕ). at rank k) known_is

    inside : rank < c.place.size
    inside = let size : c.place.size ≡ n = ap (λ (q : Place). q.size) h.placed in let there : rank < n = goes.there in
        omega (arith, size, there)

    apart : rank ≡ c.place.endpoint.rank → ⊥
    apart is =
        eqb-false rank own.rank (other_rank m.target own can.alike can.other)
        (is ∙ ap (λ (q : Place). q.endpoint.rank) h.placed)

    begins : CanBegin ns rank (length (bytes_of_message m))
    begins = can_begin limit ns rank (length (bytes_of_message m)) large goes.sendable

    number_is : next_to ns rank ≡ length (all_announced sessions own m.target)
    number_is =
        numbers_are_counts (announcements_in 0 sessions own) (with_numbers c ns) known core rank
        (h.shown 0) inside apart
        ∙ ap (λ (d : Endpoint). length (transfers_as 0 (all_announced sessions own d))) target_is
        ∙ length-map (all_announced sessions own m.target) (transfer_as 0)

    grown : ArePayloads limit after (say said own m) own known p
    grown = payloads_grow limit sessions after said (say said own m) own known p
        (accepts_more sessions own m.target (Announces i)) (said_more said own m) h.kept

    notice : IsLargeNotice limit after (say said own m) own m.target (next_to ns rank) m
    notice = record {
      number = i;
      named = ap (λ (xs : List sessions_announced.Announced). slice_get xs (next_to ns rank))
          (one_more sessions own m.target i)
          ∙ ap (slice_get (all_announced sessions own m.target ++ LargeNotice i ∷ [])) number_is ∙
          last_at (all_announced sessions own m.target) (LargeNotice i);
      there = ap (slice_get (say said own m own m.target)) (sym (h.many m.target)) ∙ said_last said own m;
      large = large;
    }

    new_is : IsAnnouncedPayload limit after (say said own m) own known new
    new_is = record {
      message = m;
      notice =
          subst (λ (d : Endpoint). IsLargeNotice limit after (say said own m) own d (next_to ns rank) m)
          (sym target_is) notice;
      bytes = refl;
      short = begins.limit;
    }

one_sent : (limit : MessageLimit) (n : ℕ) (own : Endpoint) (known : List ℕ) (core : Core) (sessions : Sessions)
    (said : Saying)
    (links : Endpoint → Endpoint → NoticeLink) (ns : List Numbers) (c : CoreState) (p : payloads.State)
    (m : CollectiveMessage) (x : Notice) →
    IsSending limit n own known core sessions said links (with_numbers c ns) p →
    IsGoing (in_job limit (place_of n own)) ns m →
    IsSendable n own m → IsKnown known m.target → (large : Bool) → is_large limit m ≡ large →
    IsSent limit large n own known core sessions said links ns c p m x
one_sent limit n own known core sessions said links ns c p m x h goes can known_is false is =
    whole_sent limit n own known core sessions said links ns c p m x h
one_sent limit n own known core sessions said links ns c p m x h goes can known_is true is =
    large_sent limit n own known core sessions said links ns c p m x h goes can known_is
    (ltb-true (frame_limit_of limit) (length (bytes_of_message m)) is)

-- ---- all that a step sends

-- the texts of a step, each with the endpoint to which it goes
abbrev pub texts_gone : MessageLimit → (known : List ℕ) → List Numbers → List CollectiveMessage →
    List (Endpoint × FrameText)
texts_gone limit known ns ms = all_addressed known (messages_sent limit ns ms)

-- What goes out of these notices bears the next numbers, and the engine holds then what one holds that sent them
pub record IsStepSent (limit : MessageLimit) (n : ℕ) (own : Endpoint) (known : List ℕ) (core : Core)
    (sessions : Sessions) (said : Saying)
    (links : Endpoint → Endpoint → NoticeLink) (ns : List Numbers) (c : CoreState) (p : payloads.State)
    (ms : List CollectiveMessage) (xs : List (Endpoint × Notice)) : Type 0 where
  pub numbered : AreNumbered sessions own (texts_gone limit known ns ms)
      (all_carried links own xs (texts_gone limit known ns ms))
  pub after : IsSending limit n own known core
      (accept_all sessions own (all_carried links own xs (texts_gone limit known ns ms)))
      (say_all said own ms) (notify_all links own xs)
      (with_numbers c (step_numbers limit ns ms)) (after_announcing p (step_payloads limit ns ms))
  pub grows : SaidGrows said (say_all said own ms)

-- what is kept may be said otherwise
kept_as : (limit : MessageLimit) (n : ℕ) (own : Endpoint) (known : List ℕ) (core : Core) (sessions : Sessions)
    (said : Saying)
    (links : Endpoint → Endpoint → NoticeLink) (c : CoreState) (p : payloads.State) (a b : List Announced) → a ≡ b →
    IsSending limit n own known core sessions said links c (record { announced = a; coming = p.coming }) →
    IsSending limit n own known core sessions said links c (record { announced = b; coming = p.coming })
kept_as limit n own known core sessions said links c p a b same h =
    subst (λ (ps : List Announced). IsSending limit n own known core sessions said links c
    (record { announced = ps; coming = p.coming })) same h

-- one message, and then the rest
then_sent : (limit : MessageLimit) (n : ℕ) (own : Endpoint) (known : List ℕ) (core : Core) (sessions : Sessions)
    (said : Saying)
    (links : Endpoint → Endpoint → NoticeLink) (ns : List Numbers) (c : CoreState) (p : payloads.State)
    (m : CollectiveMessage) (x : Notice) (ms : List CollectiveMessage) (xs : List (Endpoint × Notice)) →
    IsSent limit (is_large limit m) n own known core sessions said links ns c p m x →
    IsStepSent limit n own known core (accept sessions own (carried_as (is_large limit m) ns m links own))
    (say said own m)
    (notify links own (m.target, x)) (numbers_after limit ns m) c
    (after_announcing p (payload_kept (transfer_of limit ns m) m.target.rank (bytes_of_message m))) ms xs →
    IsStepSent limit n own known core sessions said links ns c p (m ∷ ms) ((m.target, x) ∷ xs)
then_sent limit n own known core sessions said links ns c p m x ms xs one rest = record {
  numbered = (one.number, rest.numbered);
  after = kept_as limit n own known core
      (accept_all sessions own (all_carried links own ((m.target, x) ∷ xs) (texts_gone limit known ns (m ∷ ms))))
      (say_all said own (m ∷ ms)) (notify_all links own ((m.target, x) ∷ xs))
      (with_numbers c (step_numbers limit ns (m ∷ ms))) p
      ((p.announced ++ payload_kept (transfer_of limit ns m) m.target.rank (bytes_of_message m)) ++
      step_payloads limit (numbers_after limit ns m) ms)
      (p.announced ++ step_payloads limit ns (m ∷ ms))
      (append_assoc p.announced (payload_kept (transfer_of limit ns m) m.target.rank (bytes_of_message m))
      (step_payloads limit (numbers_after limit ns m) ms)) rest.after;
  grows = said_then said (say said own m) (say_all (say said own m) own ms) (said_more said own m) rest.grows;
}

-- A step's messages that can go, to other ranks at the incarnations at which they are known, are sent
pub step_sent : (limit : MessageLimit) (n : ℕ) (own : Endpoint) (known : List ℕ) (core : Core) (sessions : Sessions)
    (said : Saying)
    (links : Endpoint → Endpoint → NoticeLink) (ns : List Numbers) (c : CoreState) (p : payloads.State)
    (ms : List CollectiveMessage) (xs : List (Endpoint × Notice)) →
    IsSending limit n own known core sessions said links (with_numbers c ns) p →
    all_can_go (in_job limit (place_of n own)) ns ms ≡ true →
    AllByRecursion (IsSendable n own) ms → GoTo (IsKnown known) ms → AreSaid own ms xs →
    IsStepSent limit n own known core sessions said links ns c p ms xs
step_sent limit n own known core sessions said links ns c p [] [] h goes can known_all are = record {
  numbered = tt;
  after = kept_as limit n own known core sessions said links (with_numbers c ns) p p.announced (p.announced ++ [])
      (sym (append-nil p.announced)) h;
  grows = said_same said;
}
step_sent limit n own known core sessions said links ns c p [] (x ∷ xs) h goes can known_all are = absurd are
step_sent limit n own known core sessions said links ns c p (m ∷ ms) [] h goes can known_all are = absurd are
step_sent limit n own known core sessions said links ns c p (m ∷ ms) ((d, x) ∷ xs) h goes can known_all are =
    let g = and_parts (can_go (in_job limit (place_of n own)) ns m) (all_can_go (in_job limit (place_of n own)) (numbers_after limit ns m) ms) goes in
    let one : IsSent limit (is_large limit m) n own known core sessions said links ns c p m x = one_sent limit n own known core sessions said links ns c p m x h (is_going (in_job limit (place_of n own)) ns m g.0) can.0 known_all.0 (is_large limit m) refl in
    subst (λ (z : Endpoint). IsStepSent limit n own known core sessions said links ns c p (m ∷ ms) ((z, x) ∷ xs))
    (sym are.0.target)
    (then_sent limit n own known core sessions said links ns c p m x ms xs one
    (step_sent limit n own known core (accept sessions own (carried_as (is_large limit m) ns m links own))
    (say said own m)
    (notify links own (m.target, x)) (numbers_after limit ns m) c
    (after_announcing p (payload_kept (transfer_of limit ns m) m.target.rank (bytes_of_message m))) ms xs one.after g.1
    can.1
    known_all.1 are.1))
