-- What a rank is in a collective: whose word it waits for, whom it tells that it and those below it have entered,
-- whether it leaves without being told, and whom it tells a result. Barrier, broadcast and reduction go over binomial
-- trees, all else over a star, whose middle is the root, or member 0 where there is none (own). So does a reduction to a
-- root whose operation isn't associative. Ranks are those of `world`.
use Rattle.std.specs.Prelude.{ℕ, Bool, true, false, ◌==◌, ◌&&◌, ◌||◌, not, List, [], ◌∷◌, ◌++◌, length, map, Option, Some}
use Rattle.std.specs.Prelude.{None, position, slice_get, nat_lt, if◌then◌else◌}
use Rattle.std.specs.Option.{option_to_list}
use Rattle.collective_messages.specs.Members.{is_at}
use Rattle.binomial_trees.specs.Trees.{children, parent, rotate, rotate_back}
use Rattle.payload.specs.declared.record.Record.{Record}
use Rattle.payload.specs.declared.record.Record.TheVariants as records
use Rattle.vocabulary.specs.Operations.{is_associative}
use Rattle.vocabulary.specs.declared.endpoint.Endpoint.{Endpoint}

-- what a rank is: whether it decides; whom it tells its word; whose word it waits for, in the order of the
-- communicator, its own rank among them; whom it tells a result
pub record RoleState : Type 0 where
  pub decides : Bool
  pub above : Option ℕ
  pub feeders : List ℕ
  pub onward : List ℕ

-- the place of an endpoint among these ranks, whose incarnation this is
abbrev pub own_place : Endpoint → (incarnation : ℕ) → (ranks : List ℕ) → Option ℕ
own_place own incarnation ranks = position (λ r. (r == own.rank) && (incarnation == own.incarnation)) ranks

-- the ranks at these places
abbrev pub ranks_at : (ranks places : List ℕ) → List ℕ
ranks_at ranks [] = []
ranks_at ranks (i ∷ is) = option_to_list (slice_get ranks i) ++ ranks_at ranks is

-- those right below a place in the tree by rank
abbrev pub below_place : (ranks : List ℕ) → Option ℕ → List ℕ
below_place ranks None = []
below_place ranks (Some i) = ranks_at ranks (children (length ranks) i)

-- the one right above it
abbrev pub above_place : (ranks : List ℕ) → Option ℕ → Option ℕ
above_place ranks None = None
above_place ranks (Some i) = if i == 0 then None else slice_get ranks (parent i)

-- those right below it in the tree whose top is another member
abbrev pub onward_place : (top : ℕ) → (ranks : List ℕ) → Option ℕ → List ℕ
onward_place top ranks None = []
onward_place top ranks (Some i) =
    if nat_lt top (length ranks) then
    ranks_at ranks (map (rotate_back top (length ranks)) (children (length ranks) (rotate top (length ranks) i)))
    else []

-- all, or the rank alone
abbrev pub all_or_own : (all : Bool) → Endpoint → (ranks : List ℕ) → List ℕ
all_or_own all own ranks = if all then ranks else own.rank ∷ []

-- all, or nobody
abbrev pub all_or_none : (all : Bool) → (ranks : List ℕ) → List ℕ
all_or_none all ranks = if all then ranks else []

-- the middle of a star that tells all what it made, or one around it
abbrev pub both_role : (middle : Bool) → Endpoint → (ranks : List ℕ) → RoleState
both_role middle own ranks =
    record {
      decides = middle;
      above = slice_get ranks 0;
      feeders = all_or_own middle own ranks;
      onward =
          all_or_none middle ranks;
    }

-- the root of a gather, or one around it
abbrev pub gather_role : Endpoint → (incarnation : ℕ) → (ranks : List ℕ) → (root : ℕ) → RoleState
gather_role own inc ranks root =
    record {
      decides = true;
      above = slice_get ranks root;
      feeders = all_or_own (is_at own inc ranks root) own ranks;
      onward = [];
    }

-- a member of a reduction to a root: in the tree by rank, where the operation is associative; else each part goes to the
-- root, as in a gather
abbrev pub reduce_role : (associative : Bool) → Option ℕ → Endpoint → (incarnation : ℕ) → (ranks : List ℕ) →
    (root : ℕ) → RoleState
reduce_role true i own inc ranks root =
    record {
      decides = is_at own inc ranks 0 || not (is_at own inc ranks root);
      above = above_place ranks i;
      feeders = own.rank ∷ below_place ranks i;
      onward = if is_at own inc ranks 0 then option_to_list (slice_get ranks root) else [];
    }
reduce_role false i own inc ranks root = gather_role own inc ranks root

-- what a rank is in a collective with this record, by its place
abbrev pub role_at : Option ℕ → Endpoint → (incarnation : ℕ) → (ranks : List ℕ) → Record → RoleState
role_at i own inc ranks records.Barrier =
    record {
      decides = is_at own inc ranks 0;
      above = above_place ranks i;
      feeders = own.rank ∷ below_place ranks i;
      onward = below_place ranks i;
    }
role_at i own inc ranks (records.Bcast r) =
    record {
      decides = is_at own inc ranks r.root;
      above = None;
      feeders = own.rank ∷ [];
      onward =
          onward_place r.root ranks i;
    }
role_at i own inc ranks (records.Gather r) = gather_role own inc ranks r.root
role_at i own inc ranks (records.Scatter r) =
    record {
      decides = is_at own inc ranks r.root;
      above = None;
      feeders = own.rank ∷ [];
      onward =
          all_or_none (is_at own inc ranks r.root) ranks;
    }
role_at i own inc ranks (records.Reduce o r) =
    reduce_role (is_associative o r.elements.basic) i own inc ranks r.root
role_at i own inc ranks (records.Allreduce o e) = both_role (is_at own inc ranks 0) own ranks
role_at i own inc ranks records.Dup = both_role (is_at own inc ranks 0) own ranks
role_at i own inc ranks records.Split = both_role (is_at own inc ranks 0) own ranks

-- what a rank is in a collective with this record
abbrev pub role_of : Endpoint → (incarnation : ℕ) → (ranks : List ℕ) → Record → RoleState
role_of own inc ranks r = role_at (own_place own inc ranks) own inc ranks r
