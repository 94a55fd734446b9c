-- The same elements on every run: what a reduction hands out depends on nothing but what its members entered with.
use Rattle.std.specs.Prelude.{◌≡◌, ℕ, Bool, true, false, List, map, Option, Some, option_map}
use Rattle.layouts.specs.Buffers.{Contents}
use Rattle.perfect_groups.specs.Collectives.{Kind, Part, allreduce, reduce}
use Rattle.perfect_groups.specs.Communicators.{Communicator}
use Rattle.perfect_groups.specs.Machine.{Leaves, Machine, May, after_move}
use Rattle.perfect_groups.specs.Membership.{Groups, Left, Out}
use Rattle.vocabulary.specs.declared.endpoint.Endpoint.{Endpoint}

-- whether a kind is a reduction
abbrev pub is_reduction : Kind → Bool
is_reduction reduce = true
is_reduction allreduce = true
is_reduction kind = false

-- the elements with which the members of a communicator entered a collective, in rank order; none for who hasn't
-- entered
abbrev pub contents_in : Groups → Communicator → (number : ℕ) → List (Option (List ℕ))
contents_in g c k = map (λ m. option_map (λ q. q.values) (g.entered c.context k m)) c.members

-- a member may leave a reduction now, and is then handed these elements
pub record IsHanded (s : Machine) (e : Endpoint) (c : Communicator) (k : ℕ) (p : Part) (b : Contents) : Type 0 where
  pub reduction : is_reduction p.record_is.kind ≡ true
  pub parts : List Part
  pub may : May s e (Leaves c k p parts)
  pub handed : ((after_move s e (Leaves c k p parts)).groups.of e).present ≡ Some (Out (Left (Some b)))

-- THE SAME BITS ON EVERY RUN. Whatever two members are handed elements by reductions of one operation and type, of one
-- run or of two, at any moments, each to a root or to all: if the members of the one communicator entered with the same
-- elements as those of the other, rank by rank, then both are handed the same elements, whatever else happened
abbrev pub SameContentsSameResult : Type 0
SameContentsSameResult =
    (s s' : Machine) (e e' : Endpoint) (c c' : Communicator) (k k' : ℕ) (p p' : Part) (b b' : Contents) →
    IsHanded s e c k p b → IsHanded s' e' c' k' p' b' → p.record_is.operation ≡ p'.record_is.operation →
    p.record_is.basic ≡ p'.record_is.basic → contents_in s.groups c k ≡ contents_in s'.groups c' k' → b ≡ b'
