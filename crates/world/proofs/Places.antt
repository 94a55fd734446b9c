-- Where the engines of a world stand.
use Rattle.std.proofs.Common.{◌≡◌, ℕ, ◌<◌, ◌≤◌, Bool, true, false, List, length, Some, None, refl, ap, arith, ◌∙◌}
use Rattle.std.specs.Prelude.{slice_get, ◌==◌, if◌then◌else◌}
use Rattle.std.proofs.lemmas.Bool.{eqb-false}
use Rattle.perfect_groups.specs.Events as machine
use Rattle.engine_calls.specs.EngineState.{EngineState}
use Rattle.point_to_point_calls.specs.declared.refusal.Refusal.TheVariants as lowers
use Rattle.incarnation.specs.declared.place.Place.{Place}
use Rattle.proof_group_network.proofs.NetworkInvariant.{run_limit_with_groups}
use Rattle.proof_group_network.specs.Network.{new_group_network}
use Rattle.proof_network_bridge.proofs.Halves.{sessions_there}
use Rattle.proof_network_bridge.specs.WorldViews.{IsFollowed}
use Rattle.world.specs.Headline.{IsSound}
use Rattle.world.specs.Steps.{restart_fault}
use Rattle.world.specs.WorldState.{ArePlaced}
use Rattle.world.specs.declared.event.HistoryEntry.{HistoryEntry}

-- no rank is beyond the last incarnation
at_most_last : (n : ℕ) (engines : List EngineState) (d : List (ℕ × List ℕ)) (h : List machine.Entry) (r : ℕ)
    (e : EngineState) →
    IsFollowed n engines d h → slice_get engines r ≡ Some e → e.sessions.place.endpoint.incarnation ≤ 65535
at_most_last n engines d h r e f there =
    let last = f.joined.links.last r in
    let is = ap (λ (p : Place). p.endpoint.incarnation) (f.joined.links.tells r e.sessions (sessions_there engines r e there)).place in
    omega (arith, last, is)

not_last : (i : ℕ) → i ≤ 65535 → (if i == 65535 then Some lowers.Limit else None) ≡ None → i < 65535
not_last i most none = go (i == 65535) refl none
  where
    go : (b : Bool) → (i == 65535) ≡ b → (if b then Some lowers.Limit else None) ≡ None → i < 65535
    go true is none' = absurd cc
    go false is none' = omega (arith, most, eqb-false i 65535 is)

-- a rank that is not refused a restart has an incarnation left
pub below_last : (n : ℕ) (engines : List EngineState) (d : List (ℕ × List ℕ)) (h : List machine.Entry) (r : ℕ)
    (e : EngineState) →
    IsFollowed n engines d h → slice_get engines r ≡ Some e → restart_fault e.sessions.place ≡ None →
    e.sessions.place.endpoint.incarnation < 65535
below_last n engines d h r e f there none =
    not_last e.sessions.place.endpoint.incarnation (at_most_last n engines d h r e f there) none

-- each engine of a world stands at its own rank
pub sound_placed : (engines : List EngineState) (d : List (ℕ × List ℕ)) (h : List HistoryEntry) → IsSound engines d h →
    ArePlaced engines
sound_placed engines d h s r e there =
    let place = (s.followed.joined.links.tells r e.sessions (sessions_there engines r e there)).place in
    record {
      limit_is = s.followed.joined.limits r e there
          ∙ run_limit_with_groups (length engines) s.followed.happenings
          (new_group_network (length engines) s.followed.limit) ∙ s.limited;
      size = ap (λ (p : Place). p.size) place;
      rank = ap (λ (p : Place). p.endpoint.rank) place;
      job =
          ap (λ (p : Place). p.job) place;
    }
