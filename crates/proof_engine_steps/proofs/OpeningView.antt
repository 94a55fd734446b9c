-- A new rank holds what a new core of the network holds.
use Rattle.std.proofs.Common.{◌≡◌, ℕ, zero, suc, List, [], length, replicate, refl, sym, ap, ◌∙◌, subst, arith, ◌≤◌}
use Rattle.std.proofs.lemmas.List.{length-replicate}
use Rattle.vocabulary.specs.declared.endpoint.Endpoint.{Endpoint}
use Rattle.incarnation.specs.Knowledge as knowing
use Rattle.incarnation.specs.declared.place.Place.{Place}
use Rattle.rendezvous.specs.State.{fresh, most_transfers, next_to}
use Rattle.proof_engine_view.specs.Frames.{endpoint_of}
use Rattle.proof_engine_view.specs.Transfers.{Transfer}
use Rattle.proof_engine_view.specs.UnderWay.{IsNumbered}
use Rattle.proof_engine_steps.specs.Steps.{OpeningIsSettled, OpeningIsShown}
use Rattle.proof_engine_steps.proofs.Knowledge.{opening_known}

-- no session has a number that was used
none_begun : (n rank : ℕ) → next_to (replicate n fresh) rank ≡ 0
none_begun zero rank = refl
none_begun (suc n) zero = refl
none_begun (suc n) (suc rank) = none_begun n rank

-- so the numbers are those of links on which nothing was announced
opening_numbered : (p : Place) (to : Endpoint → List Transfer) (known : List ℕ) → ((d : Endpoint) → to d ≡ []) →
    IsNumbered to known p (replicate p.size fresh)
opening_numbered p to known none =
    record {
      width = length-replicate p.size fresh;
      begun = λ rank there apart. none_begun p.size rank ∙
          ap (λ (ts : List Transfer). length ts) (sym (none (endpoint_of known rank)));
      most = λ rank. subst (λ (n : ℕ). n ≤ most_transfers) (sym (none_begun p.size rank)) (omega arith);
    }

pub opening_is_shown : OpeningIsShown
opening_is_shown p limit a limited inside none =
    let k = opening_known p inside in
    record {
      rows = [];
      jobs = refl;
      count = refl;
      table = record { stands = λ k r is. absurd cc; entries = λ key t is. absurd cc };
      posted = refl;
      held = refl;
      under_way = record {
        numbered = opening_numbered p a.to (knowing.opening p).known none;
        offers = tt;
        offered = λ k key d basic values is. absurd cc;
        offers_apart = tt;
        collections = tt;
        collected = λ k key r h got is. absurd cc;
        collections_apart = tt;
        unmatched = λ k key d is. absurd cc;
        messages = tt;
      };
      taken = λ key. tt;
      blocked = refl;
      limited = sym limited;
      width = k.width;
      known_alike = k.same;
      itself = k.itself;
    }

pub opening_is_settled : OpeningIsSettled
opening_is_settled limit e = refl
