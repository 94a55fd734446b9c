-- The links of a world: what its sessions hold of them, and what its datagrams tell.
use Rattle.std.specs.Prelude.{◌≡◌, ℕ, ◌<◌, ◌≤◌, false, List, [], length, Some, slice_get}
use Rattle.std.specs.List.{AllByRecursion}
use Rattle.vocabulary.specs.declared.endpoint.Endpoint.{Endpoint}
use Rattle.vocabulary.specs.Endpoints.{last_incarnation}
use Rattle.sessions.specs.SessionsState.{SessionsState}
use Rattle.link_truth.specs.Links.{Links}
use Rattle.link_truth.specs.Sessions.{SessionsTell, IsLink, is_pair}
use Rattle.link_truth.specs.DatagramTruth.{IsTold}
use Rattle.link_truth.specs.Witness.{AreHeldEmitted, IsWitnessed}

-- the sessions of each rank hold what the links carried, and datagrams tell of it; `current` is the incarnation of each
-- rank
pub record AreTrue (n : ℕ) (sessions : List SessionsState) (datagrams : List (ℕ × List ℕ)) (links : Links)
    (current : ℕ → ℕ)
    : Type 0 where
  pub count : length sessions ≡ n
  pub few : n ≤ 1024
  pub last : (r : ℕ) → current r ≤ last_incarnation
  pub tells : (r : ℕ) (s : SessionsState) → slice_get sessions r ≡ Some s → SessionsTell n current r s links
  pub sound : (s d : Endpoint) → IsLink (links s d)
  -- nothing goes from or to anyone else
  pub strangers : (s d : Endpoint) → is_pair n s d ≡ false → (links s d).accepted ≡ []
  -- endpoints that are to come have done nothing
  pub none_accepted : (s d : Endpoint) → current s.rank < s.incarnation → (links s d).accepted ≡ []
  pub none_handed : (s d : Endpoint) → current d.rank < d.incarnation → (links s d).handed ≡ 0
  pub told : AllByRecursion (IsTold n links current) datagrams
  -- how many frames were handed up, and which, stands among the datagrams: of sessions with former endpoints too
  pub witnessed : (s d : Endpoint) → IsWitnessed n datagrams s d (links s d)
  pub held : (r : ℕ) (s : SessionsState) → slice_get sessions r ≡ Some s → AreHeldEmitted n datagrams r s
