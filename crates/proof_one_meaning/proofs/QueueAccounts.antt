-- The machine's queues are what accounts say, whatever is called and answered.
use Rattle.std.proofs.Common.{◌≡◌, ℕ, zero, suc, Bool, true, false, ◌&&◌, List, [], ◌∷◌, ◌++◌, length, Option, Some}
use Rattle.std.proofs.Common.{None, if◌then◌else◌, ◌==◌, slice_get, option_and_then, option_map, refl, sym, ap, ap₂}
use Rattle.std.proofs.Common.{◌∙◌, subst, append_assoc, append-nil, arith}
use Rattle.std.proofs.lemmas.Bool.{eqb-true, eq-eqb}
use Rattle.perfect_groups.specs.Communicators.{first_endpoint}
use Rattle.perfect_queues.specs.Calls.{after_answer, ready_answer}
use Rattle.perfect_queues.specs.Completions as completions
use Rattle.perfect_queues.specs.Completions.{AllOf, AnyOf, Answer, Awaited, One, Unanswered, all_outcomes, answer_to}
use Rattle.perfect_queues.specs.Completions.{completion, outcome_at, outcome_of, serials}
use Rattle.perfect_queues.specs.Messages.{Message}
use Rattle.perfect_queues.specs.Outcomes.{Empty, Outcome}
use Rattle.perfect_queues.specs.Receives.{Receive}
use Rattle.perfect_queues.specs.Requests.{Request, Posted, Matched, Sending, Finished, Gone, TakenOut, all_changed}
use Rattle.perfect_queues.specs.Requests.{changed, used_up}
use Rattle.perfect_queues.specs.State.{Local, State, put, with_message, with_queue}
use Rattle.vocabulary.specs.declared.endpoint.Endpoint.{Endpoint}
use Rattle.one_meaning.specs.Accounts.{Account, Accounts, ForRequests, InCollective, Waiting, answered_wait, awaited_of}
use Rattle.one_meaning.specs.Accounts.{gone, meant_for, sent_to, wait_answer}
use Rattle.proof_one_meaning.specs.AccountViews.{HasQueues, HaveQueues, IsOfAll, WaitsOfAll, with_account}
use Rattle.one_meaning.specs.PairLaws.{NamesRank, queues_of}
use Rattle.one_meaning.specs.Pairs.{Queues, resolved}
use Rattle.one_meaning.proofs.AnswerLaws.{finished_only, later_known, meant_append, wait_stays}
use Rattle.one_meaning.proofs.Pairs.{Alike, resolved_alike}
use Rattle.proof_one_meaning.proofs.Queues.{AreOver, HasEnded, IsOver, all_used_gone, changed_append, finished_known}
use Rattle.proof_one_meaning.proofs.Queues.{queues_alike}

-- ANSWERS OF WAITS

one_over : (rs : List Request) (k : ℕ) (f : Option Outcome) → outcome_at rs k ≡ f → (t : Answer × List ℕ) →
    option_map (λ o. (completions.ForOne o, k ∷ [])) f ≡ Some t → AreOver rs t.1
one_over rs k None h t is = absurd (grind arith)
one_over rs k (Some o) h t is =
    let e : ◌≡◌ {A = Answer × List ℕ} (completions.ForOne o, k ∷ []) t = cc in
    subst (λ (x : Answer × List ℕ). AreOver rs x.1) e (HasEnded o (finished_only (slice_get rs k) o h), tt)

all_over : (rs : List Request) (qs : List (Option ℕ)) (os : List Outcome) → all_outcomes (outcome_at rs) qs ≡ Some os →
    AreOver rs (serials qs)
all_over rs [] os is = tt
all_over rs (None ∷ qs) os is = go (all_outcomes (outcome_at rs) qs) refl (all_over rs qs) is
  where
    go : (o : Option (List Outcome)) → all_outcomes (outcome_at rs) qs ≡ o →
        ((xs : List Outcome) → all_outcomes (outcome_at rs) qs ≡ Some xs → AreOver rs (serials qs)) →
        option_map (λ xs. Empty ∷ xs) o ≡ Some os → AreOver rs (serials qs)
    go None u ih i = absurd (grind arith)
    go (Some xs) u ih i = ih xs u
all_over rs (Some k ∷ qs) os is = go (outcome_at rs k) refl (all_outcomes (outcome_at rs) qs) refl (all_over rs qs) is
  where
    go : (f : Option Outcome) → outcome_at rs k ≡ f → (o : Option (List Outcome)) → all_outcomes (outcome_at rs) qs ≡
        o →
        ((xs : List Outcome) → all_outcomes (outcome_at rs) qs ≡ Some xs → AreOver rs (serials qs)) →
        option_and_then (λ x. option_map (λ xs. x ∷ xs) o) f ≡ Some os → IsOver rs k × AreOver rs (serials qs)
    go None h o u ih i = absurd (grind arith)
    go (Some x) h None u ih i = absurd (grind arith)
    go (Some x) h (Some xs) u ih i = (HasEnded x (finished_only (slice_get rs k) x h), ih xs u)

wait_over : (rs : List Request) (w : Awaited) → IsOfAll w → (t : Answer × List ℕ) → completion (outcome_at rs) w ≡
    Some t → AreOver rs t.1
wait_over rs (One None) c t is =
    let e : ◌≡◌ {A = Answer × List ℕ} (completions.ForOne Empty, []) t = cc in
    subst (λ (x : Answer × List ℕ). AreOver rs x.1) e tt
wait_over rs (One (Some k)) c t is = one_over rs k (outcome_at rs k) refl t is
wait_over rs (AnyOf qs) c t is = absurd c
wait_over rs (AllOf qs) c t is = go (all_outcomes (outcome_at rs) qs) refl is
  where
    go : (o : Option (List Outcome)) → all_outcomes (outcome_at rs) qs ≡ o →
        option_map (λ os. (completions.ForAll os, serials qs)) o ≡ Some t → AreOver rs t.1
    go None u i = absurd (grind arith)
    go (Some os) u i =
        let e : ◌≡◌ {A = Answer × List ℕ} (completions.ForAll os, serials qs) t = cc in
        subst (λ (x : Answer × List ℕ). AreOver rs x.1) e (all_over rs qs os u)

same_wait : (f : ℕ → Option Outcome) (w : Awaited) → IsOfAll w → completion f w ≡ wait_answer f w
same_wait f (One q) c = refl
same_wait f (AnyOf qs) c = absurd c
same_wait f (AllOf qs) c = refl

-- what a rank is answered, it is by its account
pub record IsAnsweredSo (r : ℕ) (l : Local) (a : Account) (q : Queues) (t : Answer × List ℕ) : Type 0 where
  pub wait : Awaited
  pub waiting : a.waiting ≡ Some (ForRequests wait)
  pub answer : wait_answer (outcome_at (all_changed gone (resolved q a.started) a.used)) wait ≡ Some t
  pub after : HasQueues r (after_answer l (Some t)) (answered_wait a t).1 q

pub answered_so : (r : ℕ) (l : Local) (a : Account) (q : Queues) → HasQueues r l a q →
    (t : Answer × List ℕ) → ready_answer l ≡ Some t → IsAnsweredSo r l a q t
answered_so r l a q h t is =
    go a.waiting refl h.waits
    (ap (λ (b : Option Unanswered). option_and_then (answer_to (outcome_at l.requests)) b) (sym h.blocked) ∙ is)
  where
    over_named : (rs : List Request) (ks : List ℕ) →
        ((j : ℕ) (p : Receive) → slice_get rs j ≡ Some (Posted p) → NamesRank p.source) →
        (j : ℕ) (p : Receive) → slice_get (all_changed used_up rs ks) j ≡ Some (Posted p) → NamesRank p.source
    over_named rs [] n j p e = n j p e
    over_named rs (k ∷ ks) n j p e = over_named (changed used_up rs k) ks (one rs k n) j p e
      where
        still : (x : Request) (p : Receive) → used_up x ≡ Posted p → x ≡ Posted p
        still (Posted y) p e = e
        still (Matched y m) p e = e
        still (Sending d) p e = e
        still (Finished o) p e = absurd (grind arith)
        still Gone p e = e
        still (TakenOut g m) p e = e

        one : (rs : List Request) (k : ℕ) →
            ((j : ℕ) (p : Receive) → slice_get rs j ≡ Some (Posted p) → NamesRank p.source) →
            (j : ℕ) (p : Receive) → slice_get (changed used_up rs k) j ≡ Some (Posted p) → NamesRank p.source
        one [] k n j p e = n j p e
        one (x ∷ rs) zero n zero p e =
            let u : used_up x ≡ Posted p = cc in n zero p (ap (λ (y : Request). Some y) (still x p u))
        one (x ∷ rs) zero n (suc j) p e = n (suc j) p e
        one (x ∷ rs) (suc k) n zero p e = n zero p e
        one (x ∷ rs) (suc k) n (suc j) p e = one rs k (λ i y. n (suc i) y) j p e

    changed_length : {A : Type 0} (f : A → A) (xs : List A) (k : ℕ) → length (changed f xs k) ≡ length xs
    changed_length f [] k = refl
    changed_length f (x ∷ xs) zero = refl
    changed_length f (x ∷ xs) (suc k) = ap suc (changed_length f xs k)

    all_length : {A : Type 0} (f : A → A) (xs : List A) (ks : List ℕ) → length (all_changed f xs ks) ≡ length xs
    all_length f xs [] = refl
    all_length f xs (k ∷ ks) = all_length f (changed f xs k) ks ∙ changed_length f xs k

    go : (b : Option Waiting) → a.waiting ≡ b → WaitsOfAll b →
        option_and_then (answer_to (outcome_at l.requests)) (awaited_of b) ≡ Some t → IsAnsweredSo r l a q t
    go None u c e = absurd (grind arith)
    go (Some (InCollective d k p)) u c e = absurd (grind arith)
    go (Some (ForRequests w)) u c e =
        record {
          wait = w;
          waiting = u;
          answer =
              wait_stays (outcome_at l.requests) (outcome_at (all_changed gone (resolved q a.started) a.used))
              (later_known l.requests (all_changed gone (resolved q a.started) a.used) (finished_known r l a q h)) w t
              (sym (same_wait (outcome_at l.requests) w c) ∙ e);
          after = record {
            known = h.known;
            limit = h.limit;
            blocked = refl;
            waits = tt;
            count = all_length used_up l.requests t.1 ∙ h.count;
            plain = record { named = over_named l.requests t.1 h.plain.named; from_first = h.plain.from_first };
            pairs = λ coming more.
                all_used_gone t.1 l.requests (wait_over l.requests w c t e) more (queues_of l coming)
                ∙ (ap (λ (xs : List Request). all_changed gone xs t.1) (h.pairs coming more)
                ∙ sym (changed_append gone (resolved (λ s c. q s c ++ coming s c) (a.started ++ more)) a.used t.1));
          };
        }

-- A MESSAGE COMES

extra : (r : ℕ) (m : Message) → Queues
extra r m s c = if (s == r) && (c == m.context) then m ∷ [] else []

pub message_keeps : (x : ℕ) (l : Local) (a : Account) (q q' : Queues) (m : Message) (r : ℕ) →
    m.sender ≡ first_endpoint r →
    ((s c : ℕ) → q' s c ≡ q s c ++ (if (s == r) && (c == m.context) then m ∷ [] else [])) → HasQueues x l a q →
    HasQueues x (with_message l m) a q'
message_keeps x l a q q' m r from more_of h =
    record {
      known = h.known;
      limit = h.limit;
      blocked = h.blocked;
      waits = h.waits;
      count = h.count;
      plain = record { named = h.plain.named; from_first = first_only };
      pairs = λ coming more.
          resolved_alike (l.requests ++ more) (queues_of (with_message l m) coming)
          (queues_of l (λ s c. (if (s == r) && (c == m.context) then m ∷ [] else []) ++ coming s c)) (longer coming)
          ∙ (h.pairs (λ s c. (if (s == r) && (c == m.context) then m ∷ [] else []) ++ coming s c) more
          ∙ ap (λ (rs : List Request). all_changed gone rs a.used)
          (resolved_alike (a.started ++ more) (λ s c. q s c ++
          ((if (s == r) && (c == m.context) then m ∷ [] else []) ++ coming s c)) (λ s c. q' s c ++ coming s c)
          (λ s c. sym (ap (λ (ms : List Message). ms ++ coming s c) (more_of s c) ∙
          append_assoc (q s c) (if (s == r) && (c == m.context) then m ∷ [] else []) (coming s c)))));
    }
  where
    -- the queue of another sender or context is as it was
    at_place : (s c : ℕ) → (b d : Bool) → (s == r) ≡ b → (c == m.context) ≡ d →
        (if (b && (0 == 0)) && d then l.queue (first_endpoint r) m.context ++ m ∷ [] else l.queue (first_endpoint s) c)
        ≡ l.queue (first_endpoint s) c ++ (if b && d then m ∷ [] else [])
    at_place s c true true u v =
        ap₂ (λ (y z : ℕ). l.queue (first_endpoint y) z ++ m ∷ []) (sym (eqb-true s r u)) (sym (eqb-true c m.context v))
    at_place s c true false u v = sym (append-nil (l.queue (first_endpoint s) c))
    at_place s c false d u v = sym (append-nil (l.queue (first_endpoint s) c))

    longer : (coming : Queues) →
        Alike (queues_of (with_message l m) coming)
        (queues_of l (λ s c. (if (s == r) && (c == m.context) then m ∷ [] else []) ++ coming s c))
    longer coming s c =
        ap (λ (ms : List Message). ms ++ coming s c)
        (ap (λ (e : Endpoint). with_queue l.queue e m.context (l.queue e m.context ++ m ∷ []) (first_endpoint s) c) from
        ∙ at_place s c (s == r) (c == m.context) refl refl)
        ∙ append_assoc (l.queue (first_endpoint s) c) (if (s == r) && (c == m.context) then m ∷ [] else []) (coming s c)

    first_only : (s i c : ℕ) (z : Message) (ms : List Message) →
        with_queue l.queue m.sender m.context (l.queue m.sender m.context ++ m ∷ [])
        (record { rank = s; incarnation = i }) c ≡ z ∷ ms → i ≡ 0
    first_only s i c z ms is = go (s == m.sender.rank) (i == m.sender.incarnation) refl (c == m.context) is
      where
        go : (b d : Bool) → (i == m.sender.incarnation) ≡ d → (f : Bool) →
            (if (b && d) && f then l.queue m.sender m.context ++ m ∷
            [] else l.queue (record { rank = s; incarnation = i }) c) ≡ z ∷ ms → i ≡ 0
        go true true e true u = eqb-true i m.sender.incarnation e ∙ ap (λ (e : Endpoint). e.incarnation) from
        go true true e false u = h.plain.from_first s i c z ms u
        go true false e f u = h.plain.from_first s i c z ms u
        go false d e f u = h.plain.from_first s i c z ms u

-- ALL RANKS

-- messages that are sent are as before, where an account changes otherwise
pub sent_alike : (all : Accounts) (r : ℕ) (a : Account) → a.sent ≡ (all r).sent →
    (x : ℕ) → Alike (sent_to all x) (sent_to (with_account all r a) x)
sent_alike all r a e x s c = go (s == r) refl
  where
    go : (b : Bool) → (s == r) ≡ b → meant_for (first_endpoint x) c (all s).sent ≡
        meant_for (first_endpoint x) c (if b then a else all s).sent
    go true u = ap (λ (y : ℕ). meant_for (first_endpoint x) c (all y).sent) (eqb-true s r u) ∙
        ap (meant_for (first_endpoint x) c) (sym e)
    go false u = refl

-- one rank's part and account change, and it sends nothing
pub put_has : (all : Accounts) (s : State) (r : ℕ) (l : Local) (a : Account) → HaveQueues all s → a.sent ≡
    (all r).sent → HasQueues r l a (sent_to all r) →
    HaveQueues (with_account all r a) (put s (first_endpoint r) l)
put_has all s r l a h e own = record { current = h.current; each = each }
  where
    each : (x : ℕ) →
        HasQueues x ((put s (first_endpoint r) l).at (first_endpoint x)) (with_account all r a x)
        (sent_to (with_account all r a) x)
    each x =
        queues_alike x ((put s (first_endpoint r) l).at (first_endpoint x)) (with_account all r a x) (sent_to all x)
        (sent_to (with_account all r a) x) (sent_alike all r a e x)
        (go (x == r) refl)
      where
        go : (b : Bool) →
            (x == r) ≡ b →
            HasQueues x (if b && (0 == 0) then l else s.at (first_endpoint x)) (if b then a else all x) (sent_to all x)
        go true u = subst (λ (y : ℕ). HasQueues y l a (sent_to all y)) (sym (eqb-true x r u)) own
        go false u = h.each x

-- an account counts by what it has of requests
pub like : (x : ℕ) (l : Local) (a b : Account) (q : Queues) → b.waiting ≡ a.waiting → b.started ≡ a.started →
    b.used ≡ a.used → HasQueues x l a q → HasQueues x l b q
like x l a b q w s u h =
    record {
      known = h.known;
      limit = h.limit;
      blocked = h.blocked ∙ ap awaited_of (sym w);
      waits = subst WaitsOfAll (sym w) h.waits;
      count = h.count ∙ ap length (sym s);
      plain = h.plain;
      pairs = λ coming more.
          h.pairs coming more ∙
          ap₂ (λ (rs : List Request) (ks : List ℕ). all_changed gone
          (resolved (λ s c. q s c ++ coming s c) (rs ++ more)) ks) (sym s) (sym u);
    }

-- a message is sent
pub message_has : (all : Accounts) (s : State) (r t : ℕ) (m : Message) (a : Account) → m.sender ≡ first_endpoint r →
    a.waiting ≡ (all r).waiting → a.started ≡ (all r).started → a.used ≡ (all r).used →
    a.sent ≡ (all r).sent ++ (first_endpoint t, m) ∷ [] → HaveQueues all s →
    HaveQueues (with_account all r a) (put s (first_endpoint t) (with_message (s.at (first_endpoint t)) m))
message_has all s r t m a from w st us e h = record { current = h.current; each = each }
  where
    -- the message is meant for rank t alone
    meant : (x y c : ℕ) → meant_for (first_endpoint x) c ((first_endpoint t, m) ∷ []) ≡
        (if ((t == x) && (0 == 0)) && (m.context == c) then m ∷ [] else [])
    meant x y c = refl

    turned : (b c : ℕ) (t : Bool) → (b == c) ≡ t → (c == b) ≡ t
    turned b c true u = eq-eqb c b (sym (eqb-true b c u))
    turned b c false u = go (c == b) refl
      where
        go : (t : Bool) → (c == b) ≡ t → t ≡ false
        go false v = refl
        go true v = let k : (b == c) ≡ true = eq-eqb b c (sym (eqb-true c b v)) in absurd (grind arith)

    sent_there : (s c : ℕ) → sent_to (with_account all r a) t s c ≡ sent_to all t s c ++
        (if (s == r) && (c == m.context) then m ∷ [] else [])
    sent_there s c = go (s == r) refl (c == m.context) refl
      where
        go : (b : Bool) → (s == r) ≡ b → (d : Bool) → (c == m.context) ≡ d →
            meant_for (first_endpoint t) c (if b then a else all s).sent ≡
            meant_for (first_endpoint t) c (all s).sent ++ (if b && d then m ∷ [] else [])
        go false u d v = sym (append-nil (meant_for (first_endpoint t) c (all s).sent))
        go true u d v =
            ap (meant_for (first_endpoint t) c) e
            ∙ (meant_append (first_endpoint t) c (all r).sent ((first_endpoint t, m) ∷ [])
            ∙ ap₂ (λ (y : ℕ) (ms : List Message). meant_for (first_endpoint t) c (all y).sent ++ ms)
            (sym (eqb-true s r u))
            (ap₂ (λ (b d : Bool). if (b && (0 == 0)) && d then m ∷ [] else []) (eq-eqb t t refl)
            (turned c m.context d v)))

    sent_elsewhere : (x : ℕ) → (x == t) ≡ false → Alike (sent_to all x) (sent_to (with_account all r a) x)
    sent_elsewhere x n s c = go (s == r) refl
      where
        go : (b : Bool) → (s == r) ≡ b → meant_for (first_endpoint x) c (all s).sent ≡
            meant_for (first_endpoint x) c (if b then a else all s).sent
        go false u = refl
        go true u =
            ap (λ (y : ℕ). meant_for (first_endpoint x) c (all y).sent) (eqb-true s r u)
            ∙ sym (ap (meant_for (first_endpoint x) c) e
            ∙ (meant_append (first_endpoint x) c (all r).sent ((first_endpoint t, m) ∷ [])
            ∙ (ap (λ (b : Bool). meant_for (first_endpoint x) c (all r).sent ++
            (if (b && (0 == 0)) && (m.context == c) then m ∷ [] else [])) (turned x t false n)
            ∙ append-nil (meant_for (first_endpoint x) c (all r).sent))))

    account_like : (x : ℕ) (l : Local) (q : Queues) → HasQueues x l (all x) q → HasQueues x l (with_account all r a x) q
    account_like x l q g = go (x == r) refl
      where
        go : (b : Bool) → (x == r) ≡ b → HasQueues x l (if b then a else all x) q
        go false u = g
        go true u =
            like x l (all x) a q (w ∙ ap (λ (y : ℕ). (all y).waiting) (sym (eqb-true x r u)))
            (st ∙ ap (λ (y : ℕ). (all y).started) (sym (eqb-true x r u)))
            (us ∙ ap (λ (y : ℕ). (all y).used) (sym (eqb-true x r u))) g

    each : (x : ℕ) →
        HasQueues x ((put s (first_endpoint t) (with_message (s.at (first_endpoint t)) m)).at (first_endpoint x))
        (with_account all r a x) (sent_to (with_account all r a) x)
    each x = go (x == t) refl
      where
        go : (b : Bool) → (x == t) ≡ b →
            HasQueues x (if b && (0 == 0) then with_message (s.at (first_endpoint t)) m else s.at (first_endpoint x))
            (with_account all r a x) (sent_to (with_account all r a) x)
        go true u =
            subst (λ (y : ℕ). HasQueues y (with_message (s.at (first_endpoint t)) m) (with_account all r a y)
            (sent_to (with_account all r a) y)) (sym (eqb-true x t u))
            (account_like t (with_message (s.at (first_endpoint t)) m) (sent_to (with_account all r a) t)
            (message_keeps t (s.at (first_endpoint t)) (all t) (sent_to all t) (sent_to (with_account all r a) t) m r
            from sent_there (h.each t)))
        go false u =
            account_like x (s.at (first_endpoint x)) (sent_to (with_account all r a) x)
            (queues_alike x (s.at (first_endpoint x)) (all x) (sent_to all x) (sent_to (with_account all r a) x)
            (sent_elsewhere x u) (h.each x))
