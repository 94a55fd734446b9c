-- Every happening keeps what stands of announced transfers.
use Rattle.std.proofs.Common.{◌≡◌, ℕ, ◌+◌, ◌≤◌, Bool, true, false, ◌&&◌, List, [], ◌∷◌, Option, Some, None}
use Rattle.std.proofs.Common.{if◌then◌else◌, ◌==◌, slice_get, slice_set, refl, sym, ap, ◌∙◌, subst, arith, ◌⊎◌, ⊎_elim}
use Rattle.std.proofs.Common.{inl, inr}
use Rattle.std.proofs.lemmas.Bool.{and_parts, eqb-true}
use Rattle.vocabulary.specs.Endpoints.{is_same}
use Rattle.perfect_queues.specs.Calls.{Call}
use Rattle.perfect_queues.specs.Outcomes.{Sent}
use Rattle.vocabulary.specs.declared.basic_type.BasicType.{BasicType}
use Rattle.vocabulary.specs.declared.endpoint.Endpoint.{Endpoint}
use Rattle.perfect_queues.proofs.EndpointLemmas.{same_eq}
use Rattle.proof_pure_network.specs.Core.{Core, effect, with_jobs}
use Rattle.proof_pure_network.specs.Engine.{called, came, core_settled, met}
use Rattle.proof_pure_network.specs.Frames.{Cts, Data, Eager, Frame, Rts}
use Rattle.proof_pure_network.specs.Jobs.{Closed, Collecting, Job, Offering, Over, Probed, Unmatched, Waiting}
use Rattle.proof_pure_network.specs.Links.{Link, handed_on, handed_up}
use Rattle.proof_pure_network.specs.Network.{Network, call_at, hand_at, hear_at, new_network, with_core}
use Rattle.proof_pure_network.specs.Transfers.{answered, wanted_data}
use Rattle.proof_pure_network.proofs.AnnouncementCounts.{
  Announced,
  Bringing,
  Speaking,
  announced_after,
  hand_accepted,
  up_next,
}
use Rattle.proof_pure_network.proofs.Due.{Offers, back_fewer, called_offers, came_back, met_back}
use Rattle.proof_pure_network.proofs.Flow.{count_fewer, flow}
use Rattle.proof_pure_network.proofs.FlowCore.{called_collects, came_collects, met_fewer}
use Rattle.proof_pure_network.proofs.FlowSends.{answered_flow_other, called_flow, came_flow}
use Rattle.proof_pure_network.proofs.JobLemmas.{fewer_settled}
use Rattle.proof_pure_network.proofs.Pairs.{hand_else, hand_fits}
use Rattle.proof_pure_network.proofs.Stable.{IsStable}
use Rattle.proof_pure_network.proofs.Tokens.{Fits, brings, called_envelopes, called_length, called_parts}
use Rattle.proof_pure_network.proofs.Tokens.{came_envelopes, came_length, came_parts, count, count_append, frames_to}
use Rattle.proof_pure_network.proofs.Tokens.{is_rts, met_length, met_parts, one, parts, settled_length, settled_parts}
use Rattle.vocabulary.specs.declared.message_limit.MessageLimit.{MessageLimit}

-- WHAT ONE CORE DOES

-- nothing is brought
abbrev none_brought : Endpoint → ℕ → ℕ
none_brought s k = 0

called_speaks : (e : Endpoint) (core : Core) (c : Call) →
    Speaking core (called e core c).core (called e core c).out none_brought
called_speaks e core c =
    record {
      longer = omega (arith, called_length e core c);
      next = λ d k. called_envelopes d k e core c;
      answers_less = λ s k. omega (arith, called_parts s k e core c);
      collects_less = λ s k. omega (arith, called_collects s k e core c);
      offers = λ k d basic values o. ⊎_elim (λ a. inl a) (λ a. inr (omega (arith, a.sends)))
          (called_offers e core c k d basic values o);
      carries = λ d k. inl (called_flow d k e core c);
    }

met_speaks : (core : Core) (a : Endpoint) → Speaking core (met core a) [] none_brought
met_speaks core a =
    record {
      longer = omega (arith, met_length core a);
      next = λ d k. inl refl;
      answers_less = λ s k. omega (arith, met_parts s k core a);
      collects_less =
          λ s k. omega (arith, met_parts s k core a, count_fewer s k core.jobs (met core a).jobs (met_fewer core a));
      offers = λ k d basic values o. inl (met_back core a k d basic values o);
      carries = λ d k. inl refl;
    }

settled_speaks : (core : Core) → Speaking core (core_settled core) [] none_brought
settled_speaks core =
    record {
      longer = omega (arith, settled_length core);
      next = λ d k. inl refl;
      answers_less = λ s k. omega (arith, held s k);
      collects_less =
          λ s k. omega (arith, held s k, count_fewer s k core.jobs (core_settled core).jobs (fewer_settled core));
      offers = λ k d basic values o. inl (back_fewer core (core_settled core) (fewer_settled core) k d basic values o);
      carries = λ d k. inl refl;
    }
  where
    held : (s : Endpoint) (k : ℕ) → parts s k (core_settled core) ≡ parts s k core
    held s k = settled_parts s k core

-- data go out for an open send alone
came_carries : (d : Endpoint) (k : ℕ) (core : Core) (a : Endpoint) (f : Frame) →
    (flow k (frames_to d (came core a f).out) ≡ []) ⊎
    ((basic : BasicType) × (values : List ℕ) × Offers core k d basic values)
came_carries d k core a (Eager c tag basic values) = inl (came_flow d k core a (Eager c tag basic values) tt)
came_carries d k core a (Rts c tag basic j n) = inl (came_flow d k core a (Rts c tag basic j n) tt)
came_carries d k core a (Data j o values) = inl (came_flow d k core a (Data j o values) tt)
came_carries d k core a (Cts j w) = go (is_same a d && (k == j)) refl
  where
    go : (t : Bool) → (is_same a d && (k == j)) ≡ t →
        (flow k (frames_to d (answered core a j w (slice_get core.jobs j)).out) ≡ []) ⊎
        ((basic : BasicType) × (values : List ℕ) × Offers core k d basic values)
    go false h = inl (answered_flow_other d k core a j w (slice_get core.jobs j) h)
    go true h = job (slice_get core.jobs j) refl
      where
        p : (is_same a d ≡ true) × ((k == j) ≡ true)
        p = and_parts (is_same a d) (k == j) h

        job : (o : Option Job) → slice_get core.jobs j ≡ o → (flow k (frames_to d (answered core a j w o).out) ≡ []) ⊎
            ((basic : BasicType) × (values : List ℕ) × Offers core k d basic values)
        job None e = inl refl
        job (Some (Waiting q)) e = inl refl
        job (Some (Collecting q u got)) e = inl refl
        job (Some (Over o)) e = inl refl
        job (Some Closed) e = inl refl
        job (Some (Unmatched d0)) e = inl refl
        job (Some (Probed g0 o0)) e = inl refl
        job (Some (Offering y basic values)) e = at (is_same y a) refl
          where
            at : (t : Bool) → is_same y a ≡ t →
                (flow k (frames_to d
                (if t then
                effect (with_jobs core (slice_set core.jobs j (Over Sent))) (wanted_data core.message_limit y j basic values w) else
                effect core []).out) ≡ []) ⊎ ((kind : BasicType) × (vs : List ℕ) × Offers core k d kind vs)
            at false q = inl refl
            at true q =
                inr (
                  basic,
                  values,
                  ap (slice_get core.jobs) (eqb-true k j p.1) ∙
                      (e ∙ ap (λ (z : Endpoint). Some (Offering z basic values)) (same_eq y a q ∙ same_eq a d p.0)),
                )

came_speaks : (core : Core) (a : Endpoint) (f : Frame) →
    Speaking core (came core a f).core (came core a f).out (λ s k. brings s k a f)
came_speaks core a f =
    record {
      longer = omega (arith, came_length core a f);
      next = λ d k. inl (came_envelopes d k core a f);
      answers_less = λ s k. omega (arith, came_parts s k core a f);
      collects_less = λ s k. omega (arith, came_collects s k core a f);
      offers = λ k d basic values o. inl (came_back core a f k d basic values o);
      carries = λ d k. came_carries d k core a f;
    }

-- A HAPPENING

-- where no link hands up anything
resting : (links : Endpoint → Endpoint → Link) (e : Endpoint) → Fits links → Bringing links links e none_brought
resting links e fits =
    record { fits = fits; taken = λ s d. refl; up = λ s d k. omega arith; brought = λ s k. omega arith }

handing : (links : Endpoint → Endpoint → Link) (a e : Endpoint) (f : Frame) →
    slice_get (links a e).accepted (links a e).handed ≡ Some f → Fits links →
    Bringing links (handed_on links a e) e (λ s k. brings s k a f)
handing links a e f next fits =
    record {
      fits = hand_fits links a e f next fits;
      taken = λ s d. hand_accepted links a e s d;
      up = up;
      brought = brought;
    }
  where
    here : (k : ℕ) → count (is_rts k) (handed_up (handed_on links a e a e)) ≡ count (is_rts k) (handed_up (links a e)) +
        count (is_rts k) (f ∷ [])
    here k = ap (count (is_rts k)) (up_next links a e f next) ∙ count_append (is_rts k) (handed_up (links a e)) (f ∷ [])

    up : (s d : Endpoint) (k : ℕ) →
        count (is_rts k) (handed_up (links s d)) ≤ count (is_rts k) (handed_up (handed_on links a e s d))
    up s d k = go (is_same s a && is_same d e) refl
      where
        go : (t : Bool) → (is_same s a && is_same d e) ≡ t →
            count (is_rts k) (handed_up (links s d)) ≤ count (is_rts k) (handed_up (handed_on links a e s d))
        go false h = (let same : handed_up (handed_on links a e s d) ≡ handed_up (links s d) = ap handed_up (hand_else links a e s d h) in omega (arith, ap (count (is_rts k)) same))
        go true h =
            let p = and_parts (is_same s a) (is_same d e) h in
            subst (λ (x : Endpoint). count (is_rts k) (handed_up (links x d)) ≤ count (is_rts k)
            (handed_up (handed_on links a e x d))) (sym (same_eq s a p.0))
            (subst (λ (x : Endpoint). count (is_rts k) (handed_up (links a x)) ≤ count (is_rts k)
            (handed_up (handed_on links a e a x))) (sym (same_eq d e p.1)) (omega (arith, here k)))

    brought : (s : Endpoint) (k : ℕ) → count (is_rts k) (handed_up (links s e)) +
        brings s k a f ≤ count (is_rts k) (handed_up (handed_on links a e s e))
    brought s k = go (is_same a s) refl
      where
        go : (t : Bool) → is_same a s ≡ t → count (is_rts k) (handed_up (links s e)) +
            one (t && is_rts k f) ≤ count (is_rts k) (handed_up (handed_on links a e s e))
        go true h =
            subst (λ (x : Endpoint). count (is_rts k) (handed_up (links x e)) +
            one (is_rts k f) ≤ count (is_rts k) (handed_up (handed_on links a e x e))) (same_eq a s h)
            (omega (arith, here k))
        go false h = (let u : count (is_rts k) (handed_up (links s e)) ≤ count (is_rts k) (handed_up (handed_on links a e s e)) = up s e k in omega (arith, u))

abbrev pub Standing : Network → Type 0
Standing w = Announced w.core w.link

call_stands : (w : Network) (e : Endpoint) (c : Call) → Standing w → Standing (call_at w e c)
call_stands w e c old =
    announced_after w.core w.link w.link e (called e (w.core e) c).core (called e (w.core e) c).out none_brought old
    (resting w.link e old.fits) (called_speaks e (w.core e) c)

hear_stands : (w : Network) (e a : Endpoint) → Standing w → Standing (hear_at w e a)
hear_stands w e a old =
    announced_after w.core w.link w.link e (met (w.core e) a) [] none_brought old (resting w.link e old.fits)
    (met_speaks (w.core e) a)

settle_stands : (w : Network) (e : Endpoint) → Standing w →
    Announced (with_core w.core e (core_settled (w.core e))) w.link
settle_stands w e old =
    announced_after w.core w.link w.link e (core_settled (w.core e)) [] none_brought old (resting w.link e old.fits)
    (settled_speaks (w.core e))

hand_stands : (w : Network) (e a : Endpoint) (o : Option Frame) → slice_get (w.link a e).accepted (w.link a e).handed ≡
    o → Standing w → Standing (hand_at w e a o)
hand_stands w e a None next old = old
hand_stands w e a (Some f) next old =
    announced_after w.core w.link (handed_on w.link a e) e (came (w.core e) a f).core (came (w.core e) a f).out
    (λ s k. brings s k a f) old (handing w.link a e f next old.fits) (came_speaks (w.core e) a f)

pub standing_is_stable : IsStable Standing
standing_is_stable =
    record {
      called = call_stands;
      heard = hear_stands;
      handed = hand_stands;
      settled = λ w e history old. settle_stands w e old;
      restarted = λ w r history old. old;
    }

pub new_stands : (limit : MessageLimit) → Standing (new_network limit)
new_stands limit =
    record {
      fits = λ x y. omega arith;
      once = λ s d k. omega arith;
      fresh = λ s d k l. refl;
      answered = λ d s k. omega arith;
      collected = λ d s k. omega arith;
      offered = λ s d k basic values h. absurd (grind arith);
      carried = λ s d k. inl refl;
    }
