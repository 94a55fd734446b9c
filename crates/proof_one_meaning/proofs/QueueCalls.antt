-- A call of queues leaves them as accounts say.
use Rattle.std.proofs.Common.{◌≡◌, ℕ, zero, suc, Bool, true, false, List, [], ◌∷◌, ◌++◌, length, Some, None}
use Rattle.std.proofs.Common.{if◌then◌else◌, ◌==◌, slice_get, refl, sym, ap, ap₂, ◌∙◌, subst, append_assoc, arith}
use Rattle.std.proofs.lemmas.Bool.{eq-eqb}
use Rattle.vocabulary.specs.MessageLimits.{least}
use Rattle.vocabulary.specs.declared.message_limit.MessageLimit.{MessageLimit}
use Rattle.perfect_groups.specs.Communicators.{first_endpoint}
use Rattle.perfect_queues.specs.Buffers.{data_of}
use Rattle.perfect_queues.specs.Calls as queues
use Rattle.perfect_queues.specs.Calls.{after_call, is_eager, message_sent, message_to, receive_request, receiver, send}
use Rattle.perfect_queues.specs.Calls.{send_request}
use Rattle.perfect_queues.specs.Events.{start}
use Rattle.perfect_queues.specs.Messages.{Message}
use Rattle.perfect_queues.specs.Outcomes.{Outcome, Sent}
use Rattle.perfect_queues.specs.Receives.{Receive}
use Rattle.perfect_queues.specs.Requests.{Request, Posted, Sending, Finished, all_changed, changed}
use Rattle.perfect_queues.specs.State.{Local, State, knows_at_first, put, with_message, with_request}
use Rattle.vocabulary.specs.declared.endpoint.Endpoint.{Endpoint}
use Rattle.vocabulary.specs.declared.envelope.Source.{Source}
use Rattle.vocabulary.specs.declared.envelope.Source.TheVariants.{Any, Rank, Null}
use Rattle.one_meaning.specs.Accounts.{Account, Accounts, after_queue_call, gone, local_of, sent_to}
use Rattle.proof_one_meaning.specs.AccountViews.{HasQueues, HaveQueues, IsNotAny, IsOfAll, with_account}
use Rattle.one_meaning.specs.PairLaws.{NamesRank, queues_of}
use Rattle.one_meaning.specs.Pairs.{Queues, resolved}
use Rattle.proof_one_meaning.proofs.Queues.{ComeToOne, behind_same}
use Rattle.proof_one_meaning.proofs.QueueAccounts.{message_has, put_has}

-- calls that have one meaning
abbrev pub IsCoveredThere : queues.Call → Type 0
IsCoveredThere (queues.Isend mode c to tag from) = Unit {0}
IsCoveredThere (queues.Irecv p) = IsNotAny p.source
IsCoveredThere (queues.Wait w) = IsOfAll w
IsCoveredThere (queues.Test x) = ⊥
IsCoveredThere (queues.Cancel x) = ⊥
IsCoveredThere (queues.Iprobe q) = ⊥
IsCoveredThere (queues.Improbe q) = ⊥
IsCoveredThere (queues.Mrecv k into) = ⊥

-- A REQUEST MORE

last_is : (rs : List Request) (x : Request) (j : ℕ) (p : Receive) → slice_get (rs ++ x ∷ []) j ≡ Some (Posted p) →
    ((y : Receive) → x ≡ Posted y → NamesRank y.source) →
    ((i : ℕ) (y : Receive) → slice_get rs i ≡ Some (Posted y) → NamesRank y.source) → NamesRank p.source
last_is [] x zero p is n h = let e : x ≡ Posted p = cc in n p e
last_is [] x (suc j) p is n h = absurd (grind arith)
last_is (y ∷ rs) x zero p is n h = h zero p is
last_is (y ∷ rs) x (suc j) p is n h = last_is rs x j p is n (λ i z. h (suc i) z)

length_last : {A : Type 0} (xs ys : List A) (x y : A) → length xs ≡ length ys →
    length (xs ++ x ∷ []) ≡ length (ys ++ y ∷ [])
length_last [] [] x y h = refl
length_last [] (z ∷ ys) x y h = absurd (omega (arith, h))
length_last (z ∷ xs) [] x y h = absurd (omega (arith, h))
length_last (z ∷ xs) (w ∷ ys) x y h =
    let e : length xs ≡ length ys = omega (arith, h) in ap suc (length_last xs ys x y e)

pub request_keeps : (r : ℕ) (l : Local) (a : Account) (q : Queues) (x y : Request) → ComeToOne x y →
    ((p : Receive) → x ≡ Posted p → NamesRank p.source) → HasQueues r l a q →
    HasQueues r (with_request l x) (record a { started = a.started ++ y ∷ [] }) q
request_keeps r l a q x y same n h =
    record {
      known = h.known;
      limit = h.limit;
      blocked = h.blocked;
      waits = h.waits;
      count = length_last l.requests a.started x y h.count;
      plain = record { named = λ j p is. last_is l.requests x j p is n h.plain.named; from_first = h.plain.from_first };
      pairs = λ coming more.
          ap (resolved (queues_of l coming)) (append_assoc l.requests (x ∷ []) more)
          ∙ (behind_same x y same l.requests more (queues_of l coming)
          ∙ (h.pairs coming (y ∷ more)
          ∙ ap (λ (rs : List Request). all_changed gone (resolved (λ s c. q s c ++ coming s c) rs) a.used)
          (sym (append_assoc a.started (y ∷ []) more))));
    }

-- LENGTHS

changed_length : {A : Type 0} (f : A → A) (xs : List A) (k : ℕ) → length (changed f xs k) ≡ length xs
changed_length f [] k = refl
changed_length f (x ∷ xs) zero = refl
changed_length f (x ∷ xs) (suc k) = ap suc (changed_length f xs k)

pub all_length : {A : Type 0} (f : A → A) (xs : List A) (ks : List ℕ) → length (all_changed f xs ks) ≡ length xs
all_length f xs [] = refl
all_length f xs (k ∷ ks) = all_length f (changed f xs k) ks ∙ changed_length f xs k

-- a rank's own count of requests is that of its account
pub own_count : (r : ℕ) (l : Local) (a : Account) (q : Queues) → HasQueues r l a q →
    length l.requests ≡ length (local_of r a).requests
own_count r l a q h = h.count ∙ sym (all_length gone a.started a.used)

-- CALLS

-- an account that is changed twice
pub twice : (all : Accounts) (r : ℕ) (a b : Account) → with_account (with_account all r a) r b ≡ with_account all r b
twice all r a b = λ i x. at_rank x i
  where
    at_rank : (x : ℕ) → with_account (with_account all r a) r b x ≡ with_account all r b x
    at_rank x = go (x == r)
      where
        go : (t : Bool) → (if t then b else (if t then a else all x)) ≡ (if t then b else all x)
        go true = refl
        go false = refl

own_account : (all : Accounts) (r : ℕ) (a : Account) → with_account all r a r ≡ a
own_account all r a = ap (λ (t : Bool). if t then a else all r) (eq-eqb r r refl)

never_known : (r t : ℕ) → knows_at_first (first_endpoint r) t ≡ 0
never_known r t = go (t == r)
  where
    go : (b : Bool) → ◌≡◌ {A = ℕ} (if b then 0 else 0) 0
    go true = refl
    go false = refl

sends_alike : (b : Bool) (d : Endpoint) → ComeToOne (if b then Finished Sent else Sending d) (Finished Sent)
sends_alike true d q rs = refl
sends_alike false d q rs = refl

sends_no_receive : (b : Bool) (d : Endpoint) (p : Receive) → (if b then Finished Sent else Sending d) ≡ Posted p →
    NamesRank p.source
sends_no_receive true d p e = absurd (grind arith)
sends_no_receive false d p e = absurd (grind arith)

finished_no_receive : (o : Outcome) (p : Receive) → Finished o ≡ Posted p → NamesRank p.source
finished_no_receive o p e = absurd (grind arith)

start_plain : (all : Accounts) (s : State) (r : ℕ) → HaveQueues all s → (x y : Request) → ComeToOne x y →
    ((p : Receive) → x ≡ Posted p → NamesRank p.source) →
    HaveQueues (with_account all r (record (all r) { started = (all r).started ++ y ∷ [] }))
    (put s (first_endpoint r) (with_request (s.at (first_endpoint r)) x))
start_plain all s r h x y same n =
    put_has all s r (with_request (s.at (first_endpoint r)) x) (record (all r) { started = (all r).started ++ y ∷ [] })
    h refl
    (request_keeps r (s.at (first_endpoint r)) (all r) (sent_to all r) x y same n (h.each r))

pub start_has : (all : Accounts) (s : State) (r : ℕ) (call : queues.Call) → IsCoveredThere call → HaveQueues all s →
    HaveQueues (with_account all r (after_queue_call r (all r) call)) (start s (first_endpoint r) (Some call))
start_has all s r (queues.Isend mode c Any tag b) cover h =
    start_plain all s r h (Finished Sent) (Finished Sent) (λ q rs. refl) (finished_no_receive Sent)
start_has all s r (queues.Isend mode c Null tag b) cover h =
    start_plain all s r h (Finished Sent) (Finished Sent) (λ q rs. refl) (finished_no_receive Sent)
start_has all s r (queues.Isend mode c (Rank t) None b) cover h =
    start_plain all s r h (Finished Sent) (Finished Sent) (λ q rs. refl) (finished_no_receive Sent)
start_has all s r (queues.Isend mode c (Rank t) (Some g) b) cover h =
    subst (λ (x : Accounts). HaveQueues x (start s e (Some (queues.Isend mode c (Rank t) (Some g) b))))
    (twice all r started sent)
    (subst (λ (d : Endpoint). HaveQueues (with_account (with_account all r started) r sent)
    (put mid d (with_message (mid.at d) m))) (sym target)
    (message_has (with_account all r started) mid r t m sent refl
    (fields (λ (x : Account). sent.waiting ≡ x.waiting) refl)
    (fields (λ (x : Account). sent.started ≡ x.started) refl) (fields (λ (x : Account). sent.used ≡ x.used) refl)
    (fields (λ (x : Account). sent.sent ≡ x.sent ++ (first_endpoint t, m) ∷ []) same_message)
    (start_plain all s r h (if eager then Finished Sent else Sending (receiver l.known t)) (Finished Sent)
    (sends_alike eager (receiver l.known t)) (sends_no_receive eager (receiver l.known t)))))
  where
    e : Endpoint
    e = first_endpoint r

    l : Local
    l = s.at e

    eager : Bool
    eager = is_eager l.message_limit mode e (receiver l.known t) b.buffer.basic (data_of b)

    started : Account
    started = record (all r) { started = (all r).started ++ Finished Sent ∷ [] }

    sent : Account
    sent = after_queue_call r (all r) (queues.Isend mode c (Rank t) (Some g) b)

    mid : State
    mid = put s e (with_request l (if eager then Finished Sent else Sending (receiver l.known t)))

    m : Message
    m = (message_to l.message_limit mode e (receiver l.known t) c g b.buffer.basic (data_of b) (length l.requests)).1

    target : receiver l.known t ≡ first_endpoint t
    target = ap (λ (i : ℕ). record { rank = t; incarnation = i }) (ap (λ (f : ℕ → ℕ). f t) (h.each r).known ∙
        never_known r t)

    fields : (P : Account → Type 0) → P started → P (with_account all r started r)
    fields P p = subst P (sym (own_account all r started)) p

    same_message : sent.sent ≡ started.sent ++ (first_endpoint t, m) ∷ []
    same_message =
        ap₂ (λ (f : ℕ → ℕ) (k : ℕ). (all r).sent ++
        message_to least mode e (receiver f t) c g b.buffer.basic (data_of b) k ∷ [])
        (sym (h.each r).known) (sym (own_count r l (all r) (sent_to all r) (h.each r)))
        ∙ ap (λ (limit : MessageLimit). (all r).sent ++
        message_to limit mode e (receiver l.known t) c g b.buffer.basic (data_of b) (length l.requests) ∷ [])
        (sym (h.each r).limit)
        ∙ ap (λ (d : Endpoint). (all r).sent ++ (d, m) ∷ []) target
start_has all s r (queues.Irecv p) cover h =
    start_plain all s r h (receive_request p.source p) (receive_request p.source p) (λ q rs. refl)
    (named p.source refl cover)
  where
    named : (x : Source) → p.source ≡ x → IsNotAny x → (y : Receive) → receive_request x p ≡ Posted y →
        NamesRank y.source
    named Any u n y is = absurd n
    named Null u n y is = absurd (grind arith)
    named (Rank t) u n y is =
        let k : p ≡ y = cc in subst (λ (z : Receive). NamesRank z.source) k (subst NamesRank (sym u) tt)
start_has all s r (queues.Wait w) cover h =
    put_has all s r (after_call (first_endpoint r) (s.at (first_endpoint r)) (queues.Wait w))
    (after_queue_call r (all r) (queues.Wait w)) h refl
    (record {
      known = (h.each r).known;
      limit = (h.each r).limit;
      blocked = refl;
      waits = cover;
      count = (h.each r).count;
      plain = record { named = (h.each r).plain.named; from_first = (h.each r).plain.from_first };
      pairs = (h.each r).pairs;
    })
start_has all s r (queues.Test x) cover h = absurd cover
start_has all s r (queues.Cancel x) cover h = absurd cover
start_has all s r (queues.Iprobe q) cover h = absurd cover
start_has all s r (queues.Improbe q) cover h = absurd cover
start_has all s r (queues.Mrecv k into) cover h = absurd cover
