-- Calls are judged, and answered at once, as accounts say.
use Rattle.std.proofs.Common.{◌≡◌, ℕ, zero, suc, Bool, true, false, ◌||◌, List, [], ◌∷◌, ◌++◌, length, Option, Some}
use Rattle.std.proofs.Common.{None, if◌then◌else◌, ◌==◌, slice_get, option_map, refl, sym, ap, ap₂, ◌∙◌, subst}
use Rattle.std.proofs.Common.{append-nil, arith}
use Rattle.std.proofs.lemmas.Bool.{eqb-true, eq-eqb}
use Rattle.vocabulary.specs.declared.message_limit.MessageLimit.{MessageLimit}
use Rattle.perfect_groups.specs.Calls.{Call, Cancel, Enter, Improbe, Inquire, Iprobe, Irecv, Isend, Mrecv, OfFact}
use Rattle.perfect_groups.specs.Calls.{Reply, Test, Wait, fact_of, held_at, queue_call, queue_reply, reply_at_once}
use Rattle.perfect_groups.specs.Communicators.{Communicator, first_endpoint}
use Rattle.perfect_groups.specs.Faults.{fault, fault_by, is_within}
use Rattle.perfect_groups.specs.Membership.{Membership}
use Rattle.layouts.specs.Buffers.{Contents}
use Rattle.perfect_queues.specs.Buffers.{filled}
use Rattle.perfect_queues.specs.Calls as queues
use Rattle.perfect_queues.specs.Completions.{Unanswered}
use Rattle.perfect_queues.specs.Messages.{Message}
use Rattle.perfect_queues.specs.Outcomes.{Received, outcome, status_of, unfit}
use Rattle.perfect_queues.specs.Receives.{Receive, has_room}
use Rattle.perfect_queues.specs.Refusals.{Missing, Receiving, Standing, is_held, standing, standing_of_outcome}
use Rattle.perfect_queues.specs.Requests.{Finished, Gone, Matched, Posted, Request, Sending, TakenOut, all_changed}
use Rattle.perfect_queues.specs.Requests.{changed}
use Rattle.perfect_queues.specs.State.{Local}
use Rattle.one_meaning.specs.Accounts.{Account, at_once, awaited_of, gone, judged, local_of, membership_of}
use Rattle.proof_one_meaning.specs.AccountViews.{HasQueues, IsCovered}
use Rattle.one_meaning.specs.PairLaws.{queues_of}
use Rattle.one_meaning.specs.Pairs.{Queues, became, left_by, pick, queue_from, resolved}
use Rattle.one_meaning.proofs.AnswerLaws.{get_gone}
use Rattle.one_meaning.proofs.QueueLaws.{Found}
use Rattle.proof_one_meaning.proofs.QueueCalls.{own_count}

-- WHAT A CALL MAY DO WITH A REQUEST

abbrev Alike : List Request → List Request → Type 0
Alike xs ys = (k : ℕ) → standing (slice_get xs k) ≡ standing (slice_get ys k)

receives : (p : Receive) (m : Message) → standing_of_outcome (outcome p m) ≡ Receiving
receives p m = go (has_room p m.basic (length m.values)) (filled p.into m.values)
  where
    go : (b : Bool) (c : Contents) →
        standing_of_outcome (if b then Received (status_of p m) c else unfit p m.basic (status_of p m)) ≡ Receiving
    go true c = refl
    go false c = refl

became_receiving : (p : Receive) (o : Found) → standing (Some (became p o)) ≡ Receiving
became_receiving p None = refl
became_receiving p (Some t) = receives p t.0

-- a receive stays one, a send too, and what is gone is
resolved_alike : (rs : List Request) (q : Queues) → Alike (resolved q rs) rs
resolved_alike [] q k = refl
resolved_alike (Posted p ∷ rs) q zero = became_receiving p (pick p (queue_from p.source q p.context))
resolved_alike (Posted p ∷ rs) q (suc k) =
    resolved_alike rs (left_by p.source p.context q (pick p (queue_from p.source q p.context))) k
resolved_alike (Matched p m ∷ rs) q zero = receives p m
resolved_alike (Matched p m ∷ rs) q (suc k) = resolved_alike rs q k
resolved_alike (Sending d ∷ rs) q zero = refl
resolved_alike (Sending d ∷ rs) q (suc k) = resolved_alike rs q k
resolved_alike (Finished o ∷ rs) q zero = refl
resolved_alike (Finished o ∷ rs) q (suc k) = resolved_alike rs q k
resolved_alike (Gone ∷ rs) q zero = refl
resolved_alike (Gone ∷ rs) q (suc k) = resolved_alike rs q k
resolved_alike (TakenOut g m ∷ rs) q zero = refl
resolved_alike (TakenOut g m ∷ rs) q (suc k) = resolved_alike rs q k

gone_missing : (xs : List Request) (j : ℕ) → standing (slice_get (changed gone xs j) j) ≡ Missing
gone_missing [] j = refl
gone_missing (x ∷ xs) zero = refl
gone_missing (x ∷ xs) (suc j) = gone_missing xs j

gone_alike : (j : ℕ) (xs ys : List Request) → Alike xs ys → Alike (changed gone xs j) (changed gone ys j)
gone_alike j xs ys h k = go (j == k) refl
  where
    apart : (a b : ℕ) → (a == b) ≡ false → a ≡ b → ⊥
    apart a b f i = let t : (a == b) ≡ true = eq-eqb a b i in grind arith

    go : (b : Bool) → (j == k) ≡ b → standing (slice_get (changed gone xs j) k) ≡
        standing (slice_get (changed gone ys j) k)
    go true e =
        subst (λ (i : ℕ). standing (slice_get (changed gone xs j) i) ≡ standing (slice_get (changed gone ys j) i))
        (eqb-true j k e)
        (gone_missing xs j ∙ sym (gone_missing ys j))
    go false e =
        ap standing (get_gone xs j k (λ i. apart j k e i))
        ∙ (h k ∙ ap standing (sym (get_gone ys j k (λ i. apart j k e i))))

all_gone_alike : (js : List ℕ) (xs ys : List Request) → Alike xs ys →
    Alike (all_changed gone xs js) (all_changed gone ys js)
all_gone_alike [] xs ys h = h
all_gone_alike (j ∷ js) xs ys h = all_gone_alike js (changed gone xs j) (changed gone ys j) (gone_alike j xs ys h)

-- a rank's requests stand as those of its account
stand_alike : (r : ℕ) (l : Local) (a : Account) (q : Queues) → HasQueues r l a q →
    Alike l.requests (local_of r a).requests
stand_alike r l a q h k =
    sym (resolved_alike l.requests (queues_of l (λ s c. [])) k)
    ∙ (ap (λ (rs : List Request). standing (slice_get (resolved (queues_of l (λ s c. [])) rs) k))
    (sym (append-nil l.requests))
    ∙ (ap (λ (rs : List Request). standing (slice_get rs k)) (h.pairs (λ s c. []) [])
    ∙ (all_gone_alike a.used (resolved (λ s c. q s c ++ []) (a.started ++ [])) (a.started ++ [])
    (resolved_alike (a.started ++ []) (λ s c. q s c ++ [])) k
    ∙ ap (λ (rs : List Request). standing (slice_get (all_changed gone rs a.used) k)) (append-nil a.started))))

-- a call has the fault that it has by accounts
pub judged_so : (r : ℕ) (l : Local) (m : Membership) (a : Account) (q : Queues) → HasQueues r l a q →
    m ≡ membership_of a → (call : Call) → fault (first_endpoint r) l m call ≡ judged r a call
judged_so r l m a q h e call =
    ap (λ (x : Membership). fault (first_endpoint r) l x call) e
    ∙ (ap₂ (λ (b : Option Unanswered) (known : ℕ → ℕ). fault_by l.message_limit
    (is_held b || is_within (membership_of a).present) (λ k. standing (slice_get l.requests k)) (first_endpoint r) known
    (membership_of a) call) h.blocked h.known
    ∙ (ap (λ (f : ℕ → Standing). fault_by l.message_limit
    (is_held (awaited_of a.waiting) || is_within (membership_of a).present) f
    (first_endpoint r) (local_of r a).known (membership_of a) call)
    (λ i k. stand_alike r l a q h k i)
    ∙ ap (λ (limit : MessageLimit). fault_by limit (is_held (awaited_of a.waiting) || is_within (membership_of a).present)
    (λ k. standing (slice_get (local_of r a).requests k)) (first_endpoint r) (local_of r a).known (membership_of a)
    call) h.limit))

-- and is answered at once as by accounts
pub at_once_so : (r : ℕ) (l : Local) (m : Membership) (a : Account) (q : Queues) → HasQueues r l a q →
    m ≡ membership_of a → (call : Call) → IsCovered call →
    reply_at_once (first_endpoint r) l m call ≡ at_once r a call
at_once_so r l m a q h e call cover = ap (λ (x : Membership). reply_at_once (first_endpoint r) l x call) e ∙
    go call cover
  where
    started : (o : Option queues.Call) →
        ((c : queues.Call) → o ≡ Some c → queues.immediate_reply l c ≡ queues.immediate_reply (local_of r a) c) →
        queue_reply l o ≡ queue_reply (local_of r a) o
    started None f = refl
    started (Some c) f = ap (option_map Rattle.perfect_groups.specs.Calls.OfRequests) (f c refl)

    count : length l.requests ≡ length (local_of r a).requests
    count = own_count r l a q h

    go : (call : Call) → IsCovered call → reply_at_once (first_endpoint r) l (membership_of a) call ≡
        reply_at_once (first_endpoint r) (local_of r a) (membership_of a) call
    go (Isend mode comm to tag from) c = sends (held_at (membership_of a) comm)
      where
        sends : (o : Option Communicator) →
            queue_reply l
            (option_map
            (λ c. queues.Isend mode c.context (Rattle.perfect_groups.specs.Calls.in_world c to) tag from) o)
            ≡ queue_reply (local_of r a)
            (option_map
            (λ c. queues.Isend mode c.context (Rattle.perfect_groups.specs.Calls.in_world c to) tag from) o)
        sends None = refl
        sends (Some d) = ap (λ (k : ℕ). Some (Rattle.perfect_groups.specs.Calls.OfRequests (queues.Started k))) count
    go (Irecv comm source tag into) c = receives_on (held_at (membership_of a) comm)
      where
        receives_on : (o : Option Communicator) →
            queue_reply l
            (option_map (λ c. queues.Irecv (Rattle.perfect_groups.specs.Calls.receive_on c source tag into)) o)
            ≡ queue_reply (local_of r a)
            (option_map (λ c. queues.Irecv (Rattle.perfect_groups.specs.Calls.receive_on c source tag into)) o)
        receives_on None = refl
        receives_on (Some d) =
            ap (λ (k : ℕ). Some (Rattle.perfect_groups.specs.Calls.OfRequests (queues.Started k))) count
    go (Wait w) c = refl
    go (Test x) c = absurd c
    go (Cancel x) c = absurd c
    go (Iprobe comm source tag) c = absurd c
    go (Improbe comm source tag) c = absurd c
    go (Mrecv message into) c = absurd c
    go (Enter comm x) c = refl
    go (Inquire comm x) c = refl
