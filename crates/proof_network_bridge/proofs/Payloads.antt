-- The payloads of collectives that an engine keeps stay notices of its sessions, whatever is announced behind them.
use Rattle.std.proofs.Common.{◌≡◌, ℕ, ◌==◌, not, Bool, true, false, List, [], ◌∷◌, filter, if◌then◌else◌, max}
use Rattle.std.proofs.Common.{slice_index, refl, sym, ap, subst, append-nil}
use Rattle.std.specs.Prelude.{slice_set}
use Rattle.std.specs.List.{AllByRecursion}
use Rattle.std.proofs.lemmas.Bool.{eqb-false}
use Rattle.std.proofs.lemmas.List.{get_or-set_other}
use Rattle.collective_messages.specs.declared.message.CollectiveMessage.{CollectiveMessage}
use Rattle.rendezvous.specs.Payloads.{Announced, Coming}
use Rattle.rendezvous.specs.PayloadState as payloads
use Rattle.engine.specs.Datagrams.{payloads_met}
use Rattle.proof_engine_view.specs.Frames.{endpoint_of, known_after}
use Rattle.proof_group_network.specs.SessionContents.{Sessions}
use Rattle.proof_pure_network.specs.Announcements.{Begins}
use Rattle.proof_session_carrying.proofs.AnnouncementLaws.{announced_grow, begins_at}
use Rattle.proof_session_carrying.specs.Announcements.{LargeNotice, all_announced}
use Rattle.proof_session_carrying.specs.SessionViews.{Saying}
use Rattle.vocabulary.specs.declared.endpoint.Endpoint.{Endpoint}
use Rattle.vocabulary.specs.declared.message_limit.MessageLimit.{MessageLimit}
use Rattle.proof_network_bridge.specs.Payloads.{ArePayloads, IsAnnouncedPayload, IsComingPayload, IsLargeNotice}
use Rattle.proof_network_bridge.specs.Payloads.{SaidGrows}
use Rattle.proof_network_bridge.proofs.HeardWords.{taught}

-- sessions that took in more
abbrev pub SessionsGrow : Sessions → Sessions → Type 0
SessionsGrow old new = (s d : Endpoint) → Begins (old s d).accepted (new s d).accepted

-- a notice that was announced stays so
pub large_grows : (limit : MessageLimit) (old new : Sessions) (said after : Saying) (s d : Endpoint) (transfer : ℕ)
    (m : CollectiveMessage) →
    SessionsGrow old new → SaidGrows said after → IsLargeNotice limit old said s d transfer m →
    IsLargeNotice limit new after s d transfer m
large_grows limit old new said after s d transfer m grow more n = record {
  number = n.number;
  named = begins_at (all_announced old s d) (all_announced new s d) transfer (LargeNotice n.number)
      (announced_grow (old s d).accepted (new s d).accepted (grow s d)) n.named;
  there = begins_at (said s d) (after s d) n.number m (more s d) n.there;
  large = n.large;
}

announced_grows : (limit : MessageLimit) (old new : Sessions) (said after : Saying) (own : Endpoint) (known : List ℕ)
    (ps : List Announced) →
    SessionsGrow old new → SaidGrows said after →
    AllByRecursion (IsAnnouncedPayload limit old said own known) ps →
    AllByRecursion (IsAnnouncedPayload limit new after own known) ps
announced_grows limit old new said after own known [] grow more all = tt
announced_grows limit old new said after own known (a ∷ ps) grow more all = (
  record {
    message = all.0.message;
    notice = large_grows limit old new said after own (endpoint_of known a.target) a.transfer all.0.message grow more
        all.0.notice;
    bytes = all.0.bytes;
    short = all.0.short;
  },
  announced_grows limit old new said after own known ps grow more all.1,
)

coming_grows : (limit : MessageLimit) (old new : Sessions) (said after : Saying) (own : Endpoint) (known : List ℕ)
    (cs : List Coming) →
    SessionsGrow old new → SaidGrows said after →
    AllByRecursion (IsComingPayload limit old said own known) cs →
    AllByRecursion (IsComingPayload limit new after own known) cs
coming_grows limit old new said after own known [] grow more all = tt
coming_grows limit old new said after own known (c ∷ cs) grow more all = (
  record {
    limited = all.0.limited;
    message = all.0.message;
    notice = large_grows limit old new said after (endpoint_of known c.source) own c.transfer all.0.message grow more
        all.0.notice;
    context = all.0.context;
    number = all.0.number;
    total = all.0.total;
    parts = all.0.parts;
    some = all.0.some;
    bytes = all.0.bytes;
  },
  coming_grows limit old new said after own known cs grow more all.1,
)

-- all payloads stay what they are
pub payloads_grow : (limit : MessageLimit) (old new : Sessions) (said after : Saying) (own : Endpoint) (known : List ℕ)
    (p : payloads.State) →
    SessionsGrow old new → SaidGrows said after → ArePayloads limit old said own known p →
    ArePayloads limit new after own known p
payloads_grow limit old new said after own known p grow more h = record {
  announced = announced_grows limit old new said after own known p.announced grow more h.announced;
  coming = coming_grows limit old new said after own known p.coming grow more h.coming;
}

-- nothing more was said
pub said_same : (said : Saying) → SaidGrows said said
said_same said s d = ([], append-nil (said s d))

-- where an engine keeps none
pub none_kept : (limit : MessageLimit) (sessions : Sessions) (said : Saying) (own : Endpoint) (known : List ℕ)
    (p : payloads.State) →
    p ≡ payloads.opening → ArePayloads limit sessions said own known p
none_kept limit sessions said own known p is =
    subst (ArePayloads limit sessions said own known) (sym is) (record { announced = tt; coming = tt })

-- ---- a lesson

-- what passes of a list is what it is to be then
all_left : {A : Type 0} (P Q : A → Type 0) (p : A → Bool) (xs : List A) → ((x : A) → p x ≡ true → P x → Q x) →
    AllByRecursion P xs → AllByRecursion Q (filter p xs)
all_left P Q p [] f all = tt
all_left P Q p (y ∷ ys) f all = go (p y) refl (all_left P Q p ys f all.1)
  where
    go : (t : Bool) → p y ≡ t → AllByRecursion Q (filter p ys) →
        AllByRecursion Q (if t then y ∷ filter p ys else filter p ys)
    go true h rest = (f y h all.0, rest)
    go false h rest = rest

-- what is known of another rank stays
other_known : (known : List ℕ) (r v x : ℕ) → not (x == r) ≡ true →
    endpoint_of known x ≡ endpoint_of (slice_set known r v) x
other_known known r v x apart = go (x == r) refl apart
  where
    go : (t : Bool) → (x == r) ≡ t → not t ≡ true → endpoint_of known x ≡ endpoint_of (slice_set known r v) x
    go true h other = absurd cc
    go false h other =
        ap (λ (i : ℕ). record { rank = x; incarnation = i }) (sym (get_or-set_other known r x v 0 (eqb-false x r h)))

announced_learnt : (limit : MessageLimit) (sessions : Sessions) (said : Saying) (own : Endpoint) (known : List ℕ)
    (r v : ℕ) (a : Announced) →
    not (a.target == r) ≡ true → IsAnnouncedPayload limit sessions said own known a →
    IsAnnouncedPayload limit sessions said own (slice_set known r v) a
announced_learnt limit sessions said own known r v a apart h = record {
  message = h.message;
  notice = subst (λ (d : Endpoint). IsLargeNotice limit sessions said own d a.transfer h.message)
      (other_known known r v a.target apart) h.notice;
  bytes = h.bytes;
  short = h.short;
}

coming_learnt : (limit : MessageLimit) (sessions : Sessions) (said : Saying) (own : Endpoint) (known : List ℕ) (r v : ℕ)
    (c : Coming) →
    not (c.source == r) ≡ true → IsComingPayload limit sessions said own known c →
    IsComingPayload limit sessions said own (slice_set known r v) c
coming_learnt limit sessions said own known r v c apart h = record {
  limited = h.limited;
  message = h.message;
  notice = subst (λ (s : Endpoint). IsLargeNotice limit sessions said s own c.transfer h.message)
      (other_known known r v c.source apart) h.notice;
  context = h.context;
  number = h.number;
  total = h.total;
  parts = h.parts;
  some = h.some;
  bytes = h.bytes;
}

-- those that are left once a lesson, if there is one, is learnt are payloads still
pub payloads_taught : (limit : MessageLimit) (sessions : Sessions) (said : Saying) (own : Endpoint) (known : List ℕ)
    (p : payloads.State)
    (s : Endpoint) (lesson : Bool) → ArePayloads limit sessions said own known p →
    ArePayloads limit sessions said own (known_after lesson known s) (payloads_met p (taught s lesson))
payloads_taught limit sessions said own known p s false h = h
payloads_taught limit sessions said own known p s true h = record {
  announced =
      all_left (IsAnnouncedPayload limit sessions said own known)
      (IsAnnouncedPayload limit sessions said own (known_after true known s))
      (λ (a : Announced). not (a.target == s.rank))
      p.announced
      (λ a apart is. announced_learnt limit sessions said own known s.rank
      (max (slice_index known s.rank) s.incarnation) a
      apart is) h.announced;
  coming = all_left (IsComingPayload limit sessions said own known)
      (IsComingPayload limit sessions said own (known_after true known s)) (λ (c : Coming). not (c.source == s.rank))
      p.coming
      (λ c apart is. coming_learnt limit sessions said own known s.rank (max (slice_index known s.rank) s.incarnation) c
      apart
      is) h.coming;
}
