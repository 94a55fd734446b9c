-- What the links between endpoints hold, whatever their frames are.
use Rattle.std.specs.Prelude.{ℕ, suc, ◌&&◌, List, [], ◌∷◌, ◌++◌, drop, take, if◌then◌else◌}
use Rattle.vocabulary.specs.Endpoints.{is_same}
use Rattle.vocabulary.specs.declared.endpoint.Endpoint.{Endpoint}

-- one direction of a session: what was accepted, and how much of it was handed up
pub record LinkOf (Frame : Type 0) : Type 0 where
  pub accepted : List Frame
  pub handed : ℕ

-- each direction between two endpoints
abbrev pub LinksOf : Type 0 → Type 0
LinksOf Frame = Endpoint → Endpoint → LinkOf Frame

-- what was accepted and isn't handed up yet
abbrev pub in_flight : {Frame : Type 0} → LinkOf Frame → List Frame
in_flight link = drop link.handed link.accepted

-- what was handed up
abbrev pub handed_up : {Frame : Type 0} → LinkOf Frame → List Frame
handed_up link = take link.handed link.accepted

-- links where the one from s to d is changed
abbrev pub with_link : {Frame : Type 0} → LinksOf Frame → (s d : Endpoint) → LinkOf Frame → LinksOf Frame
with_link links s d link s' d' = if is_same s' s && is_same d' d then link else links s' d'

-- the link from e to d takes one more frame, behind all earlier ones
abbrev pub accept : {Frame : Type 0} → LinksOf Frame → (e : Endpoint) → Endpoint × Frame → LinksOf Frame
accept links e (d, f) = with_link links e d (record (links e d) { accepted = (links e d).accepted ++ f ∷ [] })

-- the frames of one event, in their order
abbrev pub accept_all : {Frame : Type 0} → LinksOf Frame → (e : Endpoint) → List (Endpoint × Frame) → LinksOf Frame
accept_all links e [] = links
accept_all links e (x ∷ xs) = accept_all (accept links e x) e xs

-- the next frame is handed up
abbrev pub handed_on : {Frame : Type 0} → LinksOf Frame → (s d : Endpoint) → LinksOf Frame
handed_on links s d = with_link links s d (record (links s d) { handed = suc (links s d).handed })
