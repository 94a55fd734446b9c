-- The role of a rank is that of its member.
use Rattle.std.proofs.Common.{◌≡◌, ◌+◌, ◌==◌, ◌%◌, ℕ, zero, suc, Bool, true, false, cond, not, ◌&&◌, ◌||◌, List, []}
use Rattle.std.proofs.Common.{◌∷◌, ◌++◌, length, map, Some, None, if◌then◌else◌, slice_get, nat_lt, refl, sym, ap, ◌∙◌}
use Rattle.std.proofs.Common.{arith}
use Rattle.std.specs.List.{position_or_len}
use Rattle.std.specs.Option.{option_to_list}
use Rattle.std.proofs.lemmas.List.{length-map}
use Rattle.collective_messages.specs.Members.{is_at}
use Rattle.collective_messages.specs.Notes.{member_at}
use Rattle.collective_messages.specs.Roles.{above_place, all_or_none, all_or_own, below_place, both_role, gather_role}
use Rattle.collective_messages.specs.Roles.{onward_place, own_place, ranks_at, reduce_role, role_of}
use Rattle.binomial_trees.specs.Trees.{children, children_from, parent, rotate, rotate_back}
use Rattle.payload.specs.declared.record.Record.{Record}
use Rattle.payload.specs.declared.record.Record.TheVariants as records
use Rattle.perfect_groups.specs.Collectives.{Kind, allreduce, dup, gather, reduce, split}
use Rattle.perfect_groups.specs.Results.{at_rank, has_rank, place_of}
use Rattle.proof_group_network.specs.Roles as network
use Rattle.proof_collective_steps.specs.RoleViews.{IsRole, named, root_of, way_of}
use Rattle.vocabulary.specs.Operations.{is_associative}
use Rattle.vocabulary.specs.declared.endpoint.Endpoint.{Endpoint}

-- ---- members and ranks

pub at_same : (e : Endpoint) (inc : ℕ) (ranks : List ℕ) (root : ℕ) → has_rank e (named inc ranks) root ≡
    is_at e inc ranks root
at_same e inc [] root = refl
at_same e inc (r ∷ rs) zero = refl
at_same e inc (r ∷ rs) (suc root) = at_same e inc rs root

pub first_same : (e : Endpoint) (inc : ℕ) (ranks : List ℕ) → network.is_first e (named inc ranks) ≡ is_at e inc ranks 0
first_same e inc [] = refl
first_same e inc (r ∷ rs) = refl

member_same : (inc : ℕ) (ranks : List ℕ) (root : ℕ) → at_rank (named inc ranks) root ≡
    named inc (option_to_list (slice_get ranks root))
member_same inc [] root = refl
member_same inc (r ∷ rs) zero = refl
member_same inc (r ∷ rs) (suc root) = member_same inc rs root

two_named : (inc : ℕ) (xs ys : List ℕ) → named inc (xs ++ ys) ≡ named inc xs ++ named inc ys
two_named inc [] ys = refl
two_named inc (x ∷ xs) ys = ap (λ (zs : List Endpoint). member_at inc x ∷ zs) (two_named inc xs ys)

none_more : (xs : List Endpoint) → xs ++ [] ≡ xs
none_more [] = refl
none_more (x ∷ xs) = ap (λ (zs : List Endpoint). x ∷ zs) (none_more xs)

members_same : (inc : ℕ) (ranks places : List ℕ) → network.members_at (named inc ranks) places ≡
    named inc (ranks_at ranks places)
members_same inc ranks [] = refl
members_same inc ranks (i ∷ is) =
    (λ t. member_same inc ranks i t ++ members_same inc ranks is t) ∙
    sym (two_named inc (option_to_list (slice_get ranks i)) (ranks_at ranks is))

-- ---- places

-- where the rank stands, or how many there are
abbrev stands : Endpoint → (inc : ℕ) → (ranks : List ℕ) → ℕ
stands e inc ranks = position_or_len (λ r. (r == e.rank) && (inc == e.incarnation)) ranks

place_same : (e : Endpoint) (inc : ℕ) (ranks : List ℕ) → place_of e (named inc ranks) ≡ stands e inc ranks
place_same e inc [] = refl
place_same e inc (r ∷ rs) =
    by ((r == e.rank) && (inc == e.incarnation)) (place_of e (named inc rs)) (stands e inc rs) (place_same e inc rs)
  where
    by : (b : Bool) (x y : ℕ) → x ≡ y → (if b then zero else suc x) ≡ cond (not b) (1 + y) 0
    by true x y is = refl
    by false x y is = let z : suc y ≡ 1 + y = omega arith in ap suc is ∙ z

count_same : (inc : ℕ) (ranks : List ℕ) → length (named inc ranks) ≡ length ranks
count_same inc ranks = length-map ranks (member_at inc)

-- ---- those below

not_below : (n q d : ℕ) → nat_lt q n ≡ false → nat_lt (q + d) n ≡ false
not_below n q d h = grind arith

and_false : (a b : Bool) → b ≡ false → (a && b) ≡ false
and_false true b h = h
and_false false b h = refl

none_from : (levels d n q : ℕ) → nat_lt q n ≡ false → children_from levels d n q ≡ []
none_from zero d n q h = refl
none_from (suc levels) d n q h =
    ap (λ (b : Bool). if b then (q + d) ∷ children_from levels (d + d) n q else [])
    (and_false (q % (d + d) == 0) (nat_lt (q + d) n) (not_below n q d h))

-- the role by whether the rank is among them
below_same : (e : Endpoint) (inc : ℕ) (ranks : List ℕ) → network.below_of e (named inc ranks) ≡
    named inc (below_place ranks (own_place e inc ranks))
below_same e inc ranks =
    (λ t. network.members_at (named inc ranks) (children (count_same inc ranks t) (place_same e inc ranks t)))
    ∙ by (nat_lt (stands e inc ranks) (length ranks)) refl
  where
    by : (b : Bool) → nat_lt (stands e inc ranks) (length ranks) ≡ b
        → network.members_at (named inc ranks) (children (length ranks) (stands e inc ranks)) ≡
        named inc (below_place ranks (cond b (Some (stands e inc ranks)) None))
    by true h = members_same inc ranks (children (length ranks) (stands e inc ranks))
    by false h =
        ap (network.members_at (named inc ranks)) (none_from (length ranks) 1 (length ranks) (stands e inc ranks) h)

not_top : (q : ℕ) → (suc q == 0) ≡ false
not_top q = grind arith

-- the one right above
above_same : (e : Endpoint) (inc : ℕ) (ranks : List ℕ) → network.above_of e (named inc ranks) ≡
    named inc (option_to_list (above_place ranks (own_place e inc ranks)))
above_same e inc ranks =
    (λ t. network.members_at (named inc ranks)
    (network.places_above (count_same inc ranks t) (place_same e inc ranks t)))
    ∙ by (stands e inc ranks) (nat_lt (stands e inc ranks) (length ranks)) refl
  where
    by : (q : ℕ) (b : Bool) → nat_lt q (length ranks) ≡ b
        → network.members_at (named inc ranks) (network.places_above (length ranks) q) ≡
        named inc (option_to_list (above_place ranks (cond b (Some q) None)))
    by zero true h = refl
    by zero false h = refl
    by (suc q) true h =
        ap (λ (b : Bool). network.members_at (named inc ranks) (if b then parent (suc q) ∷ [] else [])) h
        ∙ (none_more (at_rank (named inc ranks) (parent (suc q))) ∙ (member_same inc ranks (parent (suc q))
        ∙ ap (λ (b : Bool). named inc (option_to_list (if b then None else slice_get ranks (parent (suc q)))))
        (sym (not_top q))))
    by (suc q) false h =
        ap (λ (b : Bool). network.members_at (named inc ranks) (if b then parent (suc q) ∷ [] else [])) h

-- those right below in the other tree
onward_same : (top : ℕ) (e : Endpoint) (inc : ℕ) (ranks : List ℕ) → network.onward_of top e (named inc ranks) ≡
    named inc (onward_place top ranks (own_place e inc ranks))
onward_same top e inc ranks =
    (λ t. network.members_at (named inc ranks)
    (network.places_onward top (count_same inc ranks t) (place_same e inc ranks t)))
    ∙ by (nat_lt (stands e inc ranks) (length ranks)) (nat_lt top (length ranks)) refl
  where
    found : List ℕ
    found = map (rotate_back top (length ranks))
        (children (length ranks) (rotate top (length ranks) (stands e inc ranks)))

    by : (b d : Bool) → nat_lt top (length ranks) ≡ d
        → network.members_at (named inc ranks) (if d && b then found else []) ≡
        named inc (onward_place top ranks (cond b (Some (stands e inc ranks)) None))
    by true true h = members_same inc ranks found ∙
        ap (λ (d : Bool). named inc (if d then ranks_at ranks found else [])) (sym h)
    by true false h = ap (λ (d : Bool). named inc (if d then ranks_at ranks found else [])) (sym h)
    by false true h = refl
    by false false h = refl

-- ---- the roles

-- the rank's own member
pub own_is : (e : Endpoint) (inc : ℕ) → e.incarnation ≡ inc → e ≡ member_at inc e.rank
own_is e inc own = λ t. record { rank = e.rank; incarnation = own t }

-- these or those
chosen : (inc : ℕ) (b : Bool) (xs ys : List ℕ) →
    (if b then named inc xs else named inc ys) ≡ named inc (if b then xs else ys)
chosen inc true xs ys = refl
chosen inc false xs ys = refl

-- the middle of a star, or one around it
star_feeders : (e : Endpoint) (inc : ℕ) (ranks : List ℕ) → e.incarnation ≡ inc → (b d : Bool) → b ≡ d
    → (if b then named inc ranks else e ∷ []) ≡ named inc (all_or_own d e ranks)
star_feeders e inc ranks own b d is =
    (λ t. if is t then named inc ranks else own_is e inc own t ∷ []) ∙ chosen inc d ranks (e.rank ∷ [])

star_onward : (inc : ℕ) (ranks : List ℕ) (b d : Bool) → b ≡ d →
    (if b then named inc ranks else []) ≡ named inc (all_or_none d ranks)
star_onward inc ranks b d is = (λ t. if is t then named inc ranks else []) ∙ chosen inc d ranks []

with_own : (e : Endpoint) (inc : ℕ) → e.incarnation ≡ inc → (ms : List Endpoint) (rs : List ℕ) → ms ≡ named inc rs →
    e ∷ ms ≡ named inc (e.rank ∷ rs)
with_own e inc own ms rs is = λ t. own_is e inc own t ∷ is t

both_same : (k : Kind) (e : Endpoint) (inc : ℕ) (ranks : List ℕ) → e.incarnation ≡ inc
    → network.decides k 0 e (named inc ranks) ≡ network.is_first e (named inc ranks)
    → network.whom_to_tell k 0 e (named inc ranks) ≡ at_rank (named inc ranks) 0
    → network.feeders k 0 e (named inc ranks) ≡
    (if network.is_first e (named inc ranks) then named inc ranks else e ∷ [])
    → network.told_on k 0 e (named inc ranks) ≡ (if network.is_first e (named inc ranks) then named inc ranks else [])
    → IsRole k 0 e inc ranks (both_role (is_at e inc ranks 0) e ranks)
both_same k e inc ranks own d w f o =
    record {
      decides = d ∙ first_same e inc ranks;
      above = w ∙ member_same inc ranks 0;
      feeders =
          f ∙ star_feeders e inc ranks own (network.is_first e (named inc ranks)) (is_at e inc ranks 0)
          (first_same e inc ranks);
      onward = o ∙ star_onward inc ranks (network.is_first e (named inc ranks)) (is_at e inc ranks 0)
          (first_same e inc ranks);
    }

-- the root of a gather, or one around it
gather_same : (e : Endpoint) (inc : ℕ) (ranks : List ℕ) (root : ℕ) → e.incarnation ≡ inc →
    IsRole gather root e inc ranks (gather_role e inc ranks root)
gather_same e inc ranks root own =
    record {
      decides = refl;
      above = member_same inc ranks root;
      feeders = star_feeders e inc ranks own (has_rank e (named inc ranks) root) (is_at e inc ranks root)
          (at_same e inc ranks root);
      onward = refl;
    }

-- a member of a reduction to a root
reduce_same : (associative : Bool) (e : Endpoint) (inc : ℕ) (ranks : List ℕ) (root : ℕ) → e.incarnation ≡ inc →
    IsRole (network.way_by reduce (not associative)) root e inc ranks
    (reduce_role associative (own_place e inc ranks) e inc ranks root)
reduce_same true e inc ranks root own =
    record {
      decides = λ t. first_same e inc ranks t || not (at_same e inc ranks root t);
      above = above_same e inc ranks;
      feeders = with_own e inc own (network.below_of e (named inc ranks)) (below_place ranks (own_place e inc ranks))
          (below_same e inc ranks);
      onward = (λ t. if first_same e inc ranks t then member_same inc ranks root t else []) ∙
          chosen inc (is_at e inc ranks 0) (option_to_list (slice_get ranks root)) [];
    }
reduce_same false e inc ranks root own = gather_same e inc ranks root own

pub meet : (e : Endpoint) (inc : ℕ) (ranks : List ℕ) (r : Record) → e.incarnation ≡ inc →
    IsRole (way_of r) (root_of r) e inc ranks (role_of e inc ranks r)
meet e inc ranks records.Barrier own =
    record {
      decides = first_same e inc ranks;
      above = above_same e inc ranks;
      feeders = with_own e inc own (network.below_of e (named inc ranks)) (below_place ranks (own_place e inc ranks))
          (below_same e inc ranks);
      onward = below_same e inc ranks;
    }
meet e inc ranks (records.Bcast r) own =
    record {
      decides = at_same e inc ranks r.root;
      above = refl;
      feeders = with_own e inc own [] [] refl;
      onward = onward_same r.root e inc ranks;
    }
meet e inc ranks (records.Gather r) own = gather_same e inc ranks r.root own
meet e inc ranks (records.Scatter r) own =
    record {
      decides = at_same e inc ranks r.root;
      above = refl;
      feeders = with_own e inc own [] [] refl;
      onward = star_onward inc ranks (has_rank e (named inc ranks) r.root) (is_at e inc ranks r.root)
          (at_same e inc ranks r.root);
    }
meet e inc ranks (records.Reduce o r) own = reduce_same (is_associative o r.elements.basic) e inc ranks r.root own
meet e inc ranks (records.Allreduce o x) own = both_same allreduce e inc ranks own refl refl refl refl
meet e inc ranks records.Dup own = both_same dup e inc ranks own refl refl refl refl
meet e inc ranks records.Split own = both_same split e inc ranks own refl refl refl refl
