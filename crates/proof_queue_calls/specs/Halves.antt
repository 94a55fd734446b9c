-- How the fault of a call is that of its call of the queues, with what only its communicator says (MPI 3.1, 3.7 and
-- 6.2).
use Rattle.std.specs.Prelude.{◌≡◌, ℕ, ◌<◌, true, false, ◌||◌, [], ◌∷◌, Option, Some, slice_get}
use Rattle.vocabulary.specs.declared.endpoint.Endpoint.{Endpoint}
use Rattle.vocabulary.specs.declared.message_limit.MessageLimit.{MessageLimit}
use Rattle.perfect_queues.specs.Calls as queues
use Rattle.perfect_queues.specs.Refusals.{Standing, first_fault, is_count_wrong, is_rank_wrong, is_request_wrong}
use Rattle.perfect_queues.specs.Refusals.{is_tag_wrong, is_type_wrong, standing}
use Rattle.perfect_queues.specs.State.{Local}
use Rattle.perfect_groups.specs.Calls.{Call, held_at, queue_call}
use Rattle.perfect_groups.specs.Communicators.{Communicator, group_of}
use Rattle.perfect_groups.specs.Faults.{fault, is_blocked, wrong_communicator, wrong_count, wrong_incarnation}
use Rattle.perfect_groups.specs.Faults.{wrong_operation, wrong_rank, wrong_request, wrong_root, wrong_tag, wrong_type}
use Rattle.perfect_groups.specs.Membership.{Membership}

-- the members of each communicator are ranks of world, of which there are n
abbrev pub AreInWorld : (n : ℕ) → Membership → Type 0
AreInWorld n m =
    (comm : Option ℕ) (c : Communicator) (r x : ℕ) → held_at m comm ≡ Some c → slice_get (group_of c) r ≡ Some x → x < n

-- a call is judged by its requests and by what it hands in as its call of the queues; it is on a communicator that the
-- caller holds, and has no root and no operation
pub record IsJudgedAlike (e : Endpoint) (m : Membership) (c : Call) (q : queues.Call) : Type 0 where
  pub requests : (f : ℕ → Standing) → wrong_request f c ≡ is_request_wrong f q
  pub communicator : wrong_communicator m c ≡ false
  pub types : wrong_type e m c ≡ is_type_wrong q
  pub counts : (limit : MessageLimit) → wrong_count limit e m c ≡ is_count_wrong limit q
  pub tags : wrong_tag c ≡ is_tag_wrong q
  -- whom the queues lack, the communicator lacks too
  pub ranks : (n : ℕ) → AreInWorld n m → is_rank_wrong n q ≡ true → wrong_rank m c ≡ true
  pub root : wrong_root m c ≡ false
  pub operation : wrong_operation c ≡ false

-- whatever the call, if it has a call of the queues
abbrev pub CallsAreJudgedAlike : Type 0
CallsAreJudgedAlike = (e : Endpoint) (m : Membership) (c : Call) (q : queues.Call) → queue_call m c ≡ Some q →
    IsJudgedAlike e m c q

-- The first fault that both halves find: the queues' rules on requests, then theirs on what is handed in, and then the
-- groups' rules on the rank and on the member of that rank
abbrev pub fault_by_halves : (n : ℕ) → Local → Membership → Call → queues.Call → Option ℕ
fault_by_halves n l m c q =
    first_fault (
    (is_blocked l m || is_request_wrong (λ k. standing (slice_get l.requests k)) q, 6) ∷
    (is_type_wrong q, 2) ∷
    (is_count_wrong l.message_limit q, 1) ∷
    (is_tag_wrong q, 3) ∷
    (is_rank_wrong n q, 5) ∷
    (wrong_rank m c, 5) ∷
    (wrong_incarnation l.known m c, 11) ∷ [])

-- It is the call's fault
abbrev pub FaultIsOfBothHalves : Type 0
FaultIsOfBothHalves =
    (n : ℕ) (e : Endpoint) (l : Local) (m : Membership) (c : Call) (q : queues.Call) → AreInWorld n m →
    queue_call m c ≡ Some q →
    fault e l m c ≡ fault_by_halves n l m c q
