-- Calls and their calls of the queues are judged alike.
use Rattle.std.proofs.Common.{◌≡◌, ℕ, ◌<◌, Bool, true, false, ◌||◌, if◌then◌else◌, List, [], ◌∷◌, Option, Some, None}
use Rattle.std.proofs.Common.{slice_get, refl, ap, subst, arith}
use Rattle.std.specs.Prelude.{option_map}
use Rattle.std.proofs.lemmas.Grind.{common_steps}
use Rattle.vocabulary.specs.declared.endpoint.Endpoint.{Endpoint}
use Rattle.vocabulary.specs.declared.envelope.Source.{Source}
use Rattle.vocabulary.specs.declared.envelope.Source.TheVariants.{Any, Null, Rank}
use Rattle.vocabulary.specs.declared.mode.Mode.{Mode}
use Rattle.perfect_queues.specs.Buffers.{Handed}
use Rattle.perfect_queues.specs.Calls as queues
use Rattle.perfect_queues.specs.Refusals as rules
use Rattle.perfect_queues.specs.Refusals.{first_fault, is_count_wrong, is_rank_wrong, is_request_wrong, is_tag_wrong}
use Rattle.perfect_queues.specs.Refusals.{is_type_wrong, standing}
use Rattle.perfect_groups.specs.Calls.{Cancel, Enter, Improbe, Inquire, Iprobe, Irecv, Isend, Mrecv, Test, Wait}
use Rattle.perfect_groups.specs.Calls.{held_at, in_world, probe_on, rank_or_null, receive_on}
use Rattle.perfect_groups.specs.Communicators.{Communicator, group_of}
use Rattle.perfect_groups.specs.Faults.{is_blocked, is_no_target, is_source_beyond, wrong_communicator}
use Rattle.perfect_groups.specs.Faults.{wrong_incarnation, wrong_operation, wrong_rank, wrong_root}
use Rattle.perfect_groups.specs.Membership.{Membership}
use Rattle.proof_queue_calls.specs.Halves.{CallsAreJudgedAlike, FaultIsOfBothHalves, IsJudgedAlike}

same_call : (a b : queues.Call) → Some a ≡ Some b → a ≡ b
same_call a b e = cc

-- ---- RANKS

-- a rank that is named is one of world, or none is: then the queues have nothing to say
no_rank_beyond : (n : ℕ) (o : Option ℕ) → ((x : ℕ) → o ≡ Some x → x < n) → rules.is_no_target n (rank_or_null o) ≡
    true → ⊥
no_rank_beyond n None below wrong = absurd cc
no_rank_beyond n (Some x) below wrong =
    let lt : x < n = below x refl in
    grind (arith, common_steps, lt, wrong)

no_source_beyond : (n : ℕ) (o : Option ℕ) → ((x : ℕ) → o ≡ Some x → x < n) → rules.is_source_beyond n (rank_or_null o) ≡
    true → ⊥
no_source_beyond n None below wrong = absurd cc
no_source_beyond n (Some x) below wrong =
    let lt : x < n = below x refl in
    grind (arith, common_steps, lt, wrong)

target_beyond : (n : ℕ) (c : Communicator) (to : Source) → ((r x : ℕ) → slice_get (group_of c) r ≡ Some x → x < n) →
    rules.is_no_target n (in_world c to) ≡ true → is_no_target (Some c) to ≡ true
target_beyond n c Any below wrong = refl
target_beyond n c Null below wrong = absurd cc
target_beyond n c (Rank r) below wrong = absurd (no_rank_beyond n (slice_get (group_of c) r) (below r) wrong)

source_beyond : (n : ℕ) (c : Communicator) (source : Source) → ((r x : ℕ) → slice_get (group_of c) r ≡ Some x → x < n) →
    rules.is_source_beyond n (in_world c source) ≡ true → is_source_beyond (Some c) source ≡ true
source_beyond n c Any below wrong = absurd cc
source_beyond n c Null below wrong = absurd cc
source_beyond n c (Rank r) below wrong = absurd (no_source_beyond n (slice_get (group_of c) r) (below r) wrong)

-- ---- EACH CALL

send_alike : (e : Endpoint) (m : Membership) (mode : Mode) (comm : Option ℕ) (to : Source) (tag : Option ℕ)
    (from : Handed) (o : Option Communicator) (q : queues.Call) →
    held_at m comm ≡ o → option_map (λ c. queues.Isend mode c.context (in_world c to) tag from) o ≡ Some q →
    IsJudgedAlike e m (Isend mode comm to tag from) q
send_alike e m mode comm to tag from None q held is = absurd cc
send_alike e m mode comm to tag from (Some c) q held is =
    subst (λ (x : queues.Call). IsJudgedAlike e m (Isend mode comm to tag from) x)
    (same_call (queues.Isend mode c.context (in_world c to) tag from) q is) (record {
      requests = λ f. refl;
      communicator = rw held refl;
      types = refl;
      counts = λ limit. refl;
      tags = refl;
      ranks = λ n inside wrong. rw held (target_beyond n c to (λ r x at. inside comm c r x held at) wrong);
      root = refl;
      operation = refl;
    })

receive_alike : (e : Endpoint) (m : Membership) (comm : Option ℕ) (source : Source) (tag : Option ℕ) (into : Handed)
    (o : Option Communicator) (q : queues.Call) → held_at m comm ≡ o →
    option_map (λ c. queues.Irecv (receive_on c source tag into)) o ≡ Some q →
    IsJudgedAlike e m (Irecv comm source tag into) q
receive_alike e m comm source tag into None q held is = absurd cc
receive_alike e m comm source tag into (Some c) q held is =
    subst (λ (x : queues.Call). IsJudgedAlike e m (Irecv comm source tag into) x)
    (same_call (queues.Irecv (receive_on c source tag into)) q is) (record {
      requests = λ f. refl;
      communicator = rw held refl;
      types = refl;
      counts = λ limit. refl;
      tags = refl;
      ranks = λ n inside wrong. rw held (source_beyond n c source (λ r x at. inside comm c r x held at) wrong);
      root = refl;
      operation = refl;
    })

look_alike : (e : Endpoint) (m : Membership) (comm : Option ℕ) (source : Source) (tag : Option ℕ)
    (o : Option Communicator) (q : queues.Call) → held_at m comm ≡ o →
    option_map (λ c. queues.Iprobe (probe_on c source tag)) o ≡ Some q → IsJudgedAlike e m (Iprobe comm source tag) q
look_alike e m comm source tag None q held is = absurd cc
look_alike e m comm source tag (Some c) q held is =
    subst (λ (x : queues.Call). IsJudgedAlike e m (Iprobe comm source tag) x)
    (same_call (queues.Iprobe (probe_on c source tag)) q is) (record {
      requests = λ f. refl;
      communicator = rw held refl;
      types = refl;
      counts = λ limit. refl;
      tags = refl;
      ranks = λ n inside wrong. rw held (source_beyond n c source (λ r x at. inside comm c r x held at) wrong);
      root = refl;
      operation = refl;
    })

search_alike : (e : Endpoint) (m : Membership) (comm : Option ℕ) (source : Source) (tag : Option ℕ)
    (o : Option Communicator) (q : queues.Call) → held_at m comm ≡ o →
    option_map (λ c. queues.Improbe (probe_on c source tag)) o ≡ Some q → IsJudgedAlike e m (Improbe comm source tag) q
search_alike e m comm source tag None q held is = absurd cc
search_alike e m comm source tag (Some c) q held is =
    subst (λ (x : queues.Call). IsJudgedAlike e m (Improbe comm source tag) x)
    (same_call (queues.Improbe (probe_on c source tag)) q is) (record {
      requests = λ f. refl;
      communicator = rw held refl;
      types = refl;
      counts = λ limit. refl;
      tags = refl;
      ranks = λ n inside wrong. rw held (source_beyond n c source (λ r x at. inside comm c r x held at) wrong);
      root = refl;
      operation = refl;
    })

-- a call of requests
pub judged_alike : CallsAreJudgedAlike
judged_alike e m (Isend mode comm to tag from) q is = send_alike e m mode comm to tag from (held_at m comm) q refl is
judged_alike e m (Irecv comm source tag into) q is = receive_alike e m comm source tag into (held_at m comm) q refl is
judged_alike e m (Wait a) q is =
    subst (λ (x : queues.Call). IsJudgedAlike e m (Wait a) x) (same_call (queues.Wait a) q is)
    (record {
      requests = λ f. refl;
      communicator = refl;
      types = refl;
      counts = λ limit. refl;
      tags = refl;
      ranks =
          λ n inside wrong. absurd cc;
      root = refl;
      operation = refl;
    })
judged_alike e m (Test r) q is =
    subst (λ (x : queues.Call). IsJudgedAlike e m (Test r) x) (same_call (queues.Test r) q is)
    (record {
      requests = λ f. refl;
      communicator = refl;
      types = refl;
      counts = λ limit. refl;
      tags = refl;
      ranks =
          λ n inside wrong. absurd cc;
      root = refl;
      operation = refl;
    })
judged_alike e m (Cancel r) q is =
    subst (λ (x : queues.Call). IsJudgedAlike e m (Cancel r) x) (same_call (queues.Cancel r) q is)
    (record {
      requests = λ f. refl;
      communicator = refl;
      types = refl;
      counts = λ limit. refl;
      tags = refl;
      ranks =
          λ n inside wrong. absurd cc;
      root = refl;
      operation = refl;
    })
judged_alike e m (Iprobe comm source tag) q is = look_alike e m comm source tag (held_at m comm) q refl is
judged_alike e m (Improbe comm source tag) q is = search_alike e m comm source tag (held_at m comm) q refl is
judged_alike e m (Mrecv message into) q is =
    subst (λ (x : queues.Call). IsJudgedAlike e m (Mrecv message into) x) (same_call (queues.Mrecv message into) q is)
    (record {
      requests = λ f. refl;
      communicator = refl;
      types = refl;
      counts = λ limit. refl;
      tags = refl;
      ranks =
          λ n inside wrong. absurd cc;
      root = refl;
      operation = refl;
    })
judged_alike e m (Enter comm p) q is = absurd cc
judged_alike e m (Inquire comm question) q is = absurd cc

-- ---- THE FAULT

-- a rule that another one implies may stand before it under the same number
once : (a b : Bool) (x : ℕ) (rest : List (Bool × ℕ)) → (a ≡ true → b ≡ true) → first_fault ((b, x) ∷ rest) ≡
    first_fault ((a, x) ∷ (b, x) ∷ rest)
once false b x rest so = refl
once true b x rest so = ap (λ (t : Bool). if t then Some x else first_fault rest) (so refl)

-- the whole chain, by what each rule says
chain : (six four two one three own five seven nine eleven : Bool) → four ≡ false → seven ≡ false → nine ≡ false →
    (own ≡ true → five ≡ true) →
    first_fault ((six, 6) ∷ (four, 4) ∷ (two, 2) ∷ (one, 1) ∷ (three, 3) ∷ (five, 5) ∷ (seven, 7) ∷ (nine, 9) ∷
    (eleven, 11) ∷ [])
    ≡ first_fault ((six, 6) ∷ (two, 2) ∷ (one, 1) ∷ (three, 3) ∷ (own, 5) ∷ (five, 5) ∷ (eleven, 11) ∷ [])
chain six four two one three own five seven nine eleven no_four no_seven no_nine so =
    rw (no_four, no_seven, no_nine)
    (ap (λ (o : Option ℕ). if six then Some 6 else
    (if two then Some 2 else (if one then Some 1 else (if three then Some 3 else o))))
    (once own five 5 ((eleven, 11) ∷ []) so))

pub of_both_halves : FaultIsOfBothHalves
of_both_halves n e l m c q inside is =
    let alike : IsJudgedAlike e m c q = judged_alike e m c q is in
    rw (alike.requests (λ k. standing (slice_get l.requests k)), alike.types, alike.counts l.message_limit, alike.tags)
    (chain (is_blocked l m || is_request_wrong (λ k. standing (slice_get l.requests k)) q) (wrong_communicator m c)
    (is_type_wrong q) (is_count_wrong l.message_limit q) (is_tag_wrong q) (is_rank_wrong n q)
    (wrong_rank m c) (wrong_root m c) (wrong_operation c) (wrong_incarnation l.known m c) alike.communicator alike.root
    alike.operation (alike.ranks n inside))
