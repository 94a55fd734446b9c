-- A rank that is started anew: its sessions are new, and no link of its new incarnation has begun.
use Rattle.std.proofs.Common.{◌≡◌, ℕ, suc, ◌<◌, ◌≤◌, Bool, true, false, List, if◌then◌else◌, ◌==◌, refl, ap, ◌∙◌, subst}
use Rattle.std.proofs.Common.{arith}
use Rattle.std.proofs.lemmas.Bool.{eqb-true, eq-eqb}
use Rattle.std.proofs.lemmas.List.{length-set}
use Rattle.perfect_queues.specs.State.{with_number}
use Rattle.sessions.specs.SessionsState.{SessionsState, opening}
use Rattle.proof_link_truth.specs.Events.{RestartsAreTrue}
use Rattle.link_truth.specs.Links.{Links}
use Rattle.link_truth.specs.Sessions.{SessionsTell}
use Rattle.link_truth.specs.DatagramTruth.{IsTold}
use Rattle.link_truth.specs.Truth.{AreTrue}
use Rattle.link_truth.specs.Wire.{at, in_job, place_of}
use Rattle.vocabulary.specs.declared.message_limit.MessageLimit.{MessageLimit}
use Rattle.link_truth.specs.Witness.{AreHeldEmitted}
use Rattle.proof_link_truth.proofs.LinkChanges.{sessions_later}
use Rattle.proof_link_truth.proofs.LinkGrowth.{told_later}
use Rattle.proof_link_truth.proofs.Lists.{All_more, set_each}
use Rattle.proof_link_truth.proofs.Openings.{IsUnheard, new_held, new_sessions_tell}

-- no rank's incarnation falls
never_falls : (current : ℕ → ℕ) (r x : ℕ) → current x ≤ with_number current r (suc (current r)) x
never_falls current r x = go (x == r) refl
  where
    go : (t : Bool) → (x == r) ≡ t → current x ≤ (if t then suc (current r) else current x)
    go true h = let q : current x ≡ current r = ap current (eqb-true x r h) in omega (arith, q)
    go false h = omega arith

-- nor does it pass the last one
not_past : (current : ℕ → ℕ) (r x : ℕ) → current r < 65535 → current x ≤ 65535 →
    with_number current r (suc (current r)) x ≤ 65535
not_past current r x room le = go (x == r)
  where
    go : (t : Bool) → (if t then suc (current r) else current x) ≤ 65535
    go true = omega (arith, room)
    go false = le

-- the new incarnation of a rank
is_next : (current : ℕ → ℕ) (r : ℕ) → with_number current r (suc (current r)) r ≡ suc (current r)
is_next current r = ap (λ (t : Bool). if t then suc (current r) else current r) (eq-eqb r r refl)

-- each other rank stays at its own
is_same_one : (current : ℕ → ℕ) (r x : ℕ) → (x == r) ≡ false → with_number current r (suc (current r)) x ≡ current x
is_same_one current r x other = ap (λ (t : Bool). if t then suc (current r) else current x) other

-- the new sessions
restarted_tells : (l : MessageLimit) (n r : ℕ) (sessions : List SessionsState) (datagrams : List (ℕ × List ℕ))
    (links : Links)
    (current : ℕ → ℕ) → AreTrue n sessions datagrams links current
    → SessionsTell n (with_number current r (suc (current r))) r
    (opening (in_job l (place_of n (at r (suc (current r)))))) links
restarted_tells l n r sessions datagrams links current true_now =
    let next = is_next current r in
    let none : (i : ℕ) → i ≡ suc (current r) → IsUnheard (at r i) links =
    λ i is. record {
      accepted = λ d. true_now.none_accepted (at r i) d (omega (arith, is));
      handed =
          λ s. true_now.none_handed s (at r i) (omega (arith, is));
    } in
    let later : ℕ → ℕ = with_number current r (suc (current r)) in
    subst (λ (i : ℕ). SessionsTell n later r (opening (in_job l (place_of n (at r i)))) links) next
    (new_sessions_tell l n r later links (none (later r) next))

-- the law of restarts
pub restarts_are_true : RestartsAreTrue
restarts_are_true n r sessions datagrams links current old true_now there room = record {
  count = length-set sessions r new ∙ true_now.count;
  few = true_now.few;
  last = λ x. not_past current r x room (true_now.last x);
  tells = set_each (λ y e. SessionsTell n later y e links) sessions r new
      (restarted_tells old.place.message_limit n r sessions datagrams links current true_now)
      (λ y e other h. sessions_later n y current later links e (never_falls current r) (is_same_one current r y other)
      (true_now.tells y e h));
  sound = true_now.sound;
  strangers = true_now.strangers;
  none_accepted = λ s d above. true_now.none_accepted s d (omega (arith, above, never_falls current r s.rank));
  none_handed = λ s d above. true_now.none_handed s d (omega (arith, above, never_falls current r d.rank));
  told = All_more (IsTold n links current) (IsTold n links later) datagrams
      (told_later n links current later (never_falls current r)) true_now.told;
  witnessed = true_now.witnessed;
  held = set_each (AreHeldEmitted n datagrams) sessions r new
      (new_held old.place.message_limit n r datagrams (at r (suc (current r))))
      (λ y e other h. true_now.held y e h);
}
  where
    later : ℕ → ℕ
    later = with_number current r (suc (current r))

    new : SessionsState
    new = opening (in_job old.place.message_limit (place_of n (at r (suc (current r)))))
