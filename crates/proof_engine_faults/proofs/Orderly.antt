-- A new engine is orderly, and so is each engine of a world.
use Rattle.std.proofs.Common.{◌≡◌, ℕ, zero, suc, ◌+◌, ◌<◌, [], ◌∷◌, length, map, Some, None, refl, sym, ap, ◌∙◌, subst}
use Rattle.std.proofs.Common.{arith}
use Rattle.std.specs.Prelude.{slice_get}
use Rattle.std.specs.List.{range_with_len}
use Rattle.std.proofs.lemmas.Option.{same_Some, slice_get_within}
use Rattle.engine_calls.specs.EngineState.{EngineState, member_of, opening}
use Rattle.perfect_groups.specs.Communicators.{Communicator, first_endpoint, group_of, self_of, world_of}
use Rattle.perfect_groups.specs.Membership.{fresh_member}
use Rattle.proof_collective_steps.proofs.RankSteps.{openings_are_shown}
use Rattle.proof_engine_faults.specs.Own.{EnginesOfWorldsAreOrderly, IsOrderly, NewEnginesAreOrderly}
use Rattle.proof_engine_steps.proofs.Knowledge.{opening_known}
use Rattle.proof_engine_view.specs.Rows.{IsRow, Row}
use Rattle.proof_group_network.specs.Network.{new_group_network}
use Rattle.proof_group_network.specs.Notices.{Member}
use Rattle.proof_network_bridge.proofs.Members.{held_same, named_same}
use Rattle.proof_network_bridge.proofs.Reasons.{engines_are_ranks}
use Rattle.proof_network_bridge.specs.Alone.{IsRank, IsSomeRank}
use Rattle.proof_pure_network.specs.Core.{Core}
use Rattle.proof_queue_calls.specs.Halves.{AreInWorld}
use Rattle.vocabulary.specs.declared.endpoint.Endpoint.{Endpoint}

-- ---- an engine that is a rank

rank_is_orderly : (e : EngineState) (core : Core) (m : Member) → IsRank e core m → IsOrderly e
rank_is_orderly e core m r = record {
  below = λ key t there.
      let row : IsRow r.queues.rows key t = r.queues.table.entries key t there in
      let within : t.serial < length r.queues.rows = slice_get_within r.queues.rows t.serial row.row row.there in
      let count : length r.queues.rows ≡ e.core.serial = r.queues.count in
      omega (arith, within, count);
  apart = λ key other t u there is same.
      let a : IsRow r.queues.rows key t = r.queues.table.entries key t there in
      let b : IsRow r.queues.rows other u = r.queues.table.entries other u is in
      let one : a.row ≡ b.row = same_Some a.row b.row (sym a.there ∙ ap (slice_get r.queues.rows) same ∙ b.there) in
      sym a.key_is ∙ ap (λ (x : Row). x.key) one ∙ b.key_is;
  inside = λ comm c k x held at. r.inside comm c k x
      (named_same m.membership (member_of e.groups) comm (held_same e.sessions.place.endpoint e.groups m r.groups) ∙
      held) at;
  placed = r.placed;
  own = r.groups.own;
  width = r.queues.width;
  itself = r.queues.itself;
}

pub engines_of_worlds_are_orderly : EnginesOfWorldsAreOrderly
engines_of_worlds_are_orderly n r engines datagrams history e f there =
    let s : IsSomeRank e = engines_are_ranks n r engines datagrams history e f there in
    rank_is_orderly e s.core s.member s.rank

-- ---- a new engine

ranks_below : (a n r x : ℕ) → slice_get (map (λ (m : Endpoint). m.rank) (map first_endpoint (range_with_len a n))) r ≡
    Some x → x < a + n
ranks_below a zero r x h = absurd cc
ranks_below a (suc n) zero x h = let e : a ≡ x = same_Some a x h in omega (arith, e)
ranks_below a (suc n) (suc r) x h = let lt : x < a + 1 + n = ranks_below (a + 1) n r x h in omega (arith, lt)

new_in_world : (n : ℕ) (e : Endpoint) → e.rank < n → AreInWorld n (fresh_member n e)
new_in_world n e inside None c r x h at = absurd cc
new_in_world n e inside (Some zero) c r x h at =
    let lt : x < 0 + n = ranks_below 0 n r x (subst (λ (y : Communicator). slice_get (group_of y) r ≡ Some x) (sym (same_Some (world_of n) c h)) at) in
    omega (arith, lt)
new_in_world n e inside (Some (suc zero)) c r x h at =
    own r (subst (λ (y : Communicator). slice_get (group_of y) r ≡ Some x) (sym (same_Some (self_of e) c h)) at)
  where
    own : (r : ℕ) → slice_get (e.rank ∷ []) r ≡ Some x → x < n
    own zero is = let s : e.rank ≡ x = same_Some e.rank x is in omega (arith, s, inside)
    own (suc r) is = absurd cc
new_in_world n e inside (Some (suc (suc place))) c r x h at = absurd cc

pub new_engines_are_orderly : NewEnginesAreOrderly
new_engines_are_orderly p inside = record {
  below = λ key t there. absurd cc;
  apart = λ key other t u there is same. absurd cc;
  inside = λ comm c k x held at.
      new_in_world p.size p.endpoint inside comm c k x
      (named_same (fresh_member p.size p.endpoint) (member_of (opening p).groups) comm
      (held_same p.endpoint (opening p).groups ((new_group_network p.size p.message_limit).member p.endpoint)
      (openings_are_shown p.size p.message_limit p.endpoint)) ∙ held) at;
  placed = refl;
  own = refl;
  width = (opening_known p inside).width;
  itself = (opening_known p inside).itself;
}
