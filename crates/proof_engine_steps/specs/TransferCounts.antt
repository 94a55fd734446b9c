-- What a rank's core holds once a transfer is counted in one of its sessions that is no send's and no receive's: its
-- numbers go on.
use Rattle.std.specs.Prelude.{◌≡◌, ℕ, ◌<◌, false, List, [], ◌∷◌, ◌++◌, length, if◌then◌else◌}
use Rattle.proof_engine_view.specs.Frames.{endpoint_of}
use Rattle.proof_engine_view.specs.CoreViews.{IsShown}
use Rattle.proof_engine_view.specs.Transfers.{Announcements, Transfer}
use Rattle.proof_pure_network.specs.Core.{Core}
use Rattle.point_to_point.specs.CoreState.{CoreState}
use Rattle.rendezvous.specs.State.{after_rts, is_full_to, next_to, with_begun}
use Rattle.vocabulary.specs.Endpoints.{is_same}
use Rattle.vocabulary.specs.declared.endpoint.Endpoint.{Endpoint}

-- where one more transfer was announced to an endpoint
abbrev pub also_to : Announcements → Endpoint → Transfer → Announcements
also_to a d t = record { to = λ x. if is_same x d then a.to x ++ t ∷ [] else a.to x; from = a.from }

-- a core that counts one more transfer to a rank
abbrev pub counted_to : CoreState → (rank : ℕ) → CoreState
counted_to c rank = record c { transfers = record c.transfers { numbers = with_begun c.transfers.numbers rank } }

-- a core that counts one more transfer from a rank
abbrev pub counted_from : CoreState → (rank : ℕ) → CoreState
counted_from c rank = record c { transfers = after_rts c.transfers rank }

-- The number of the next transfer to another rank of the job is how many were announced to the endpoint at which it is
-- known
abbrev pub NumbersAreCounts : Type 0
NumbersAreCounts =
    (a : Announcements) (c : CoreState) (known : List ℕ) (core : Core) (rank : ℕ) → IsShown a c known core →
    rank < c.place.size → (rank ≡ c.place.endpoint.rank → ⊥) →
    next_to c.transfers.numbers rank ≡ length (a.to (endpoint_of known rank))

-- A transfer to another rank of the job is counted, where a number is left: whatever it is, it has its place behind
-- those that were announced to the endpoint at which the rank is known, and what the core holds stays
abbrev pub TransfersToAreCounted : Type 0
TransfersToAreCounted =
    (a : Announcements) (c : CoreState) (known : List ℕ) (core : Core) (rank : ℕ) (t : Transfer) →
    IsShown a c known core → rank < c.place.size → (rank ≡ c.place.endpoint.rank → ⊥) →
    is_full_to c.transfers.numbers rank ≡ false →
    IsShown (also_to a (endpoint_of known rank) t) (counted_to c rank) known core

-- and so it does where a transfer from a rank is counted
abbrev pub TransfersFromAreCounted : Type 0
TransfersFromAreCounted =
    (a : Announcements) (c : CoreState) (known : List ℕ) (core : Core) (rank : ℕ) → IsShown a c known core →
    IsShown a (counted_from c rank) known core
