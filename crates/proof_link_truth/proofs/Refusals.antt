-- A datagram of the world that isn't heard leaves the sessions as they were, but that a reset may go out.
use Rattle.std.proofs.Common.{◌≡◌, ℕ, ◌<◌, Bool, true, false, List, [], ◌∷◌, ◌++◌, Option, Some, None, Result, Ok, Err}
use Rattle.std.proofs.Common.{◌==◌, refl, sym, ap, ◌∙◌, subst, arith, inl, inr}
use Rattle.std.specs.List.{AllByRecursion}
use Rattle.vocabulary.specs.declared.endpoint.Endpoint.{Endpoint}
use Rattle.datagram.specs.Spellings.{AckBody, BodyText, DatagramText, FrameBody, ResetBody}
use Rattle.incarnation.specs.declared.judgement.Judgement.{Judgement}
use Rattle.incarnation.specs.declared.judgement.Judgement.TheVariants.{Current, Learn}
use Rattle.incarnation.specs.declared.place.Place.{Place}
use Rattle.incarnation.specs.declared.refusal.IncarnationRefusal as judging
use Rattle.incarnation.specs.declared.refusal.IncarnationRefusal.TheVariants as judgings
use Rattle.incarnation.specs.Judgements.{judgement}
use Rattle.sessions.specs.declared.heard.Unheard.{Unheard}
use Rattle.sessions.specs.declared.refusal.SessionRefusal.{SessionRefusal}
use Rattle.sessions.specs.Events.{TurnedAway}
use Rattle.sessions.specs.HeardBytes.{HeardText, WordText, heard_by, said, session_met, unmeant, word_of}
use Rattle.sessions.specs.Peers.{peer_at}
use Rattle.sessions.specs.SessionsState.{SessionsState, knowledge}
use Rattle.sessions.specs.Spellings.{reset_bytes}
use Rattle.proof_link_truth.specs.Events.{IsAt, LeavesTrue, RefusalsAreTrue}
use Rattle.link_truth.specs.Links.{Links}
use Rattle.link_truth.specs.Sessions.{SessionsTell}
use Rattle.link_truth.specs.DatagramTruth.{IsTold, TellsReset}
use Rattle.link_truth.specs.Truth.{AreTrue}
use Rattle.link_truth.specs.Wire.{at}
use Rattle.datagram.specs.Spellings.{body_is_within}
use Rattle.sessions.specs.HeardBytes.{heard_in}
use Rattle.datagram.specs.declared.refusal.DatagramRefusal as lower
use Rattle.proof_link_truth.proofs.Datagrams.{IsComing, IsHeardIn, heard_read, is_coming, within_or_not}
use Rattle.proof_link_truth.proofs.WordLaws.{stays}
use Rattle.proof_link_truth.proofs.Lists.{false_sym}
use Rattle.proof_link_truth.proofs.Senders.{AreBegun, is_told}
use Rattle.proof_link_truth.proofs.Sendings.{rest_is_true}
use Rattle.proof_link_truth.proofs.Words.{word}
use Rattle.proof_link_truth.proofs.InJob.{reset_is}

-- ---- to whom a reset goes

-- to the source, if to anyone
abbrev IsBack : Endpoint → Option Endpoint → Type 0
IsBack s None = Unit {0}
IsBack s (Some e) = e ≡ s

-- why it wasn't heard, or else this
abbrev unheard_or : Unheard → Result HeardText Unheard → Unheard
unheard_or u (Ok h) = u
unheard_or u (Err e) = e

-- a refusal that was answered
abbrev refused : Unheard → Result HeardText Unheard
refused e = Err e

-- refusals that are answered alike are the same
same_unheard : (e u : Unheard) → refused e ≡ Err u → e ≡ u
same_unheard e u is = ap (unheard_or u) is

-- a word of the link
said_back : (s : Endpoint) (lesson : Bool) (o : Result WordText SessionRefusal) (u : Unheard) →
    said s lesson o ≡ Err u → IsBack s u.reset
said_back s lesson (Ok w) u is = absurd cc
said_back s lesson (Err e) u is =
    subst (λ (x : Unheard). IsBack s x.reset) (same_unheard (record { refused = _; reset = None }) u is) tt

-- what isn't meant for the rank
unmeant_back : (e : judging.IncarnationRefusal) (s : Endpoint) (b : BodyText) (u : Unheard) →
    unmeant {A = HeardText} e s b ≡ Err u → IsBack s u.reset
unmeant_back judgings.StaleTarget s (FrameBody t) u is =
    subst (λ (x : Unheard). IsBack s x.reset) (same_unheard _ u is) refl
unmeant_back judgings.StaleTarget s (AckBody held) u is =
    subst (λ (x : Unheard). IsBack s x.reset) (same_unheard _ u is) refl
unmeant_back judgings.StaleTarget s ResetBody u is = subst (λ (x : Unheard). IsBack s x.reset) (same_unheard _ u is) tt
unmeant_back judgings.StaleSource s b u is = subst (λ (x : Unheard). IsBack s x.reset) (same_unheard _ u is) tt
unmeant_back judgings.ForeignJob s b u is = subst (λ (x : Unheard). IsBack s x.reset) (same_unheard _ u is) tt
unmeant_back judgings.NotForMe s b u is = subst (λ (x : Unheard). IsBack s x.reset) (same_unheard _ u is) tt
unmeant_back judgings.Limit s b u is = subst (λ (x : Unheard). IsBack s x.reset) (same_unheard _ u is) tt
unmeant_back judgings.OutOfMemory s b u is = subst (λ (x : Unheard). IsBack s x.reset) (same_unheard _ u is) tt

-- whatever a datagram of s isn't heard for
judged_back : (n : ℕ) (old : SessionsState) (s d : Endpoint) (q : ℕ) (b : BodyText) (bytes : List ℕ) (u : Unheard)
    (j : Result Judgement judging.IncarnationRefusal)
    → heard_by j old (word n s d q b) bytes ≡ Err u → IsBack s u.reset
judged_back n old s d q b bytes u (Ok Current) is =
    said_back s false (word_of (session_met false (peer_at old.peers s.rank)) q b bytes) u is
judged_back n old s d q b bytes u (Ok (Learn i)) is =
    said_back s true (word_of (session_met true (peer_at old.peers s.rank)) q b bytes) u is
judged_back n old s d q b bytes u (Err e) is = unmeant_back e s b u is

-- bytes that aren't within the job's limit are refused with no reset
limit_back : (s : Endpoint) (old : SessionsState) (bytes : List ℕ) (d : DatagramText) (u : Unheard)
    (why : lower.DatagramRefusal) (test : Bool) → heard_in old (within_or_not test why d) bytes ≡ Err u →
    (heard_by (judgement (knowledge old) d.header) old d bytes ≡ Err u → IsBack s u.reset) → IsBack s u.reset
limit_back s old bytes d u why true is rest = rest is
limit_back s old bytes d u why false is rest = subst (λ (x : Unheard). IsBack s x.reset) (same_unheard _ u is) tt

-- ---- it leaves the links true

module _ (n r : ℕ) (sessions : List SessionsState) (datagrams : List (ℕ × List ℕ)) (links : Links) (current : ℕ →
    ℕ) (old : SessionsState) (s d : Endpoint)
    (true_now : AreTrue n sessions datagrams links current) (stands : IsAt sessions r old)
    (begun : AreBegun n s d current) (to : d.rank ≡ r) where
  -- what the rank's sessions hold
  tells : SessionsTell n current r old links
  tells = true_now.tells r old stands.there

  -- what goes back to the source, whichever incarnation it named
  back : AreBegun n (at r (current r)) s current
  back = record {
    source = subst (λ (x : ℕ). x < n) to begun.target;
    target = begun.source;
    apart = false_sym s.rank r (subst (λ (x : ℕ). (s.rank == x) ≡ false) to begun.apart);
    source_begun = omega arith;
    target_begun = begun.source_begun;
  }

  -- a reset is told
  reset_is_told : IsTold n links current (s.rank, reset_bytes old.place s)
  reset_is_told = is_told n (at r (current r)) s links current (reset_bytes old.place s) back
      (TellsReset (reset_is _ _ s tells.place))

  -- nothing changes
  stays_true : (new : SessionsState) → new ≡ old → LeavesTrue n sessions datagrams r new links current
  stays_true new is =
      subst (λ (e : SessionsState). LeavesTrue n sessions datagrams r e links current) (sym is)
      (rest_is_true n r sessions datagrams links current old true_now stands)

  -- a reset goes out
  reset_leaves : (new : SessionsState) → new ≡ record old { out = old.out ++ (s.rank, reset_bytes old.place s) ∷ [] } →
      LeavesTrue n sessions datagrams r new links current
  reset_leaves new is =
      let told : AllByRecursion (IsTold n links current) (old.out ++ (s.rank, reset_bytes old.place s) ∷ []) =
      subst (λ (out : List (ℕ × List ℕ)). AllByRecursion (IsTold n links current) (out ++
      (s.rank, reset_bytes old.place s) ∷ [])) (sym stands.out) (reset_is_told, tt) in
      subst (λ (e : SessionsState). LeavesTrue n sessions datagrams r e links current) (sym is)
      (stays n r sessions datagrams links current old
      (record old { out = old.out ++ (s.rank, reset_bytes old.place s) ∷ [] }) true_now tells
      (true_now.held r old stands.there) refl refl refl told)

  -- by whether a reset is to go out
  turned_away : (to_whom : Option Endpoint) (e why : SessionRefusal) (new : SessionsState) → IsBack s to_whom →
      TurnedAway to_whom e old why new
      → LeavesTrue n sessions datagrams r new links current
  turned_away None e why new is gives = stays_true new gives.1
  turned_away (Some x) e why new is (inl gives) =
      reset_leaves new
      (subst (λ (y : Endpoint). new ≡ record old { out = old.out ++ (y.rank, reset_bytes old.place y) ∷ [] }) is
      gives.1)
  turned_away (Some x) e why new is (inr gives) = stays_true new gives.1

-- the law of refusals
pub refusals_are_true : RefusalsAreTrue
refusals_are_true n r number bytes sessions datagrams links current old new unheard why true_now stands there hears
    gives =
    let c : IsComing n r datagrams links current bytes = is_coming n r number bytes sessions datagrams links current true_now there in
    let text : DatagramText = word n c.source c.target c.says.number c.says.body in
    let read : IsHeardIn old bytes text = heard_read old bytes text c.says.read in
    turned_away n r sessions datagrams links current old c.source c.target true_now stands c.begun c.to unheard.reset
    unheard.refused why new
    (limit_back c.source old bytes text unheard read.why (body_is_within old.place.message_limit c.says.body)
    (sym read.is ∙ hears)
    (judged_back n old c.source c.target c.says.number c.says.body bytes unheard
    (judgement (knowledge old) text.header))) gives
