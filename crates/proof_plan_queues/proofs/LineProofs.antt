-- Steps of an endpoint, seen on a line.
use Rattle.std.proofs.Common.{◌≡◌, ◌⊎◌, inl, inr, ◌<◌, ℕ, zero, suc, Bool, true, false, ◌&&◌, ◌||◌, List, [], ◌∷◌}
use Rattle.std.proofs.Common.{◌++◌, Option, Some, None, if◌then◌else◌, ◌==◌, slice_get, slice_set, refl, sym, ap, ap₂}
use Rattle.std.proofs.Common.{◌∙◌, subst, arith, append-nil}
use Rattle.std.proofs.lemmas.Bool.{eqb-true, eq-eqb, and_parts}
use Rattle.std.specs.List.{AllByRecursion}
use Rattle.vocabulary.specs.declared.message_limit.MessageLimit.{MessageLimit}
use Rattle.perfect_queues.specs.Calls.{Cancel, Improbe, Iprobe, Irecv, Isend, Mrecv, Test, Wait, after_answer}
use Rattle.perfect_queues.specs.Calls.{after_test, is_eager, ready_answer}
use Rattle.perfect_queues.specs.Calls.{receive_request, receiver, send_request}
use Rattle.perfect_queues.specs.Completions.{Answer, One, completion, outcome_at}
use Rattle.perfect_queues.specs.Messages.{Message}
use Rattle.perfect_queues.specs.Outcomes.{Sent, outcome}
use Rattle.perfect_queues.specs.Receives.{Receive, accepts, has_tag, is_from}
use Rattle.perfect_queues.specs.Requests.{Finished, Gone, Matched, Posted, Request, Sending, TakenOut, all_changed}
use Rattle.perfect_queues.specs.Requests.{changed, used_up}
use Rattle.perfect_queues.specs.State.{Local, with_queue}
use Rattle.perfect_queues.specs.Steps.{Allowed, Finish, FinishSend, Learn, Match, See, TakeOut, after_step}
use Rattle.vocabulary.specs.Endpoints.{is_same}
use Rattle.vocabulary.specs.declared.basic_type.BasicType.{BasicType}
use Rattle.vocabulary.specs.declared.endpoint.Endpoint.{Endpoint}
use Rattle.vocabulary.specs.declared.envelope.Source.{Source}
use Rattle.vocabulary.specs.declared.envelope.Source.TheVariants.{Any, Null, Rank}
use Rattle.vocabulary.specs.declared.mode.Mode.{Mode}
use Rattle.proof_plan_queues.specs.Lines.{Arrives, Block, CallsKeepLines, IsForPlans}
use Rattle.proof_plan_queues.specs.Lines.{IsSameLine}
use Rattle.proof_plan_queues.specs.Lines.{MessagesJoinLines, Names, ReceivesAreBegun, SettlingKeepsLines}
use Rattle.proof_plan_queues.specs.Lines.{StepsAreArrivals, awaited, awaits, blocks, is_among, is_tag, line_of, member}
use Rattle.proof_plan_queues.specs.Lines.{on_line, rank_of}

-- REQUESTS

abbrev got : {A : Type 0} → A → Option A → A
got d None = d
got d (Some x) = x

some_is : {A : Type 0} (x y : A) → Some x ≡ Some y → x ≡ y
some_is x y e = ap (got x) e

abbrev is_awaited : (c k : ℕ) → Request → Bool
is_awaited c k (Posted p) = on_line c k p
is_awaited c k (Matched p m) = false
is_awaited c k (Sending d) = false
is_awaited c k (Finished o) = false
is_awaited c k Gone = false
is_awaited c k (TakenOut g m) = false

awaits_off : (c k : ℕ) (q : Request) (rest : List ℕ) → is_awaited c k q ≡ false → awaits c k q rest ≡ rest
awaits_off c k (Posted p) rest h = ap (λ (t : Bool). if t then rank_of p.source ∷ rest else rest) h
awaits_off c k (Matched p m) rest h = refl
awaits_off c k (Sending d) rest h = refl
awaits_off c k (Finished o) rest h = refl
awaits_off c k Gone rest h = refl
awaits_off c k (TakenOut g m) rest h = refl

-- a request that isn't awaited becomes another one that isn't
set_off : (c k : ℕ) (rs : List Request) (j : ℕ) (x y : Request) → slice_get rs j ≡ Some x →
    is_awaited c k x ≡ false → is_awaited c k y ≡ false → awaited c k (slice_set rs j y) ≡ awaited c k rs
set_off c k [] j x y e u v = absurd (grind arith)
set_off c k (r ∷ rs) zero x y e u v =
    awaits_off c k y (awaited c k rs) v
    ∙ sym (ap (λ (q : Request). awaits c k q (awaited c k rs)) (some_is r x e)
    ∙ awaits_off c k x (awaited c k rs) u)
set_off c k (r ∷ rs) (suc j) x y e u v =
    ap (λ (xs : List ℕ). awaits c k r xs) (set_off c k rs j x y e u v)

added_off : (c k : ℕ) (rs : List Request) (q : Request) → is_awaited c k q ≡ false →
    awaited c k (rs ++ q ∷ []) ≡ awaited c k rs
added_off c k [] q h = awaits_off c k q [] h
added_off c k (r ∷ rs) q h = ap (λ (xs : List ℕ). awaits c k r xs) (added_off c k rs q h)

awaits_more : (c k : ℕ) (q : Request) (xs : List ℕ) (r : ℕ) → awaits c k q (xs ++ r ∷ []) ≡ awaits c k q xs ++ r ∷ []
awaits_more c k (Posted p) xs r = go (on_line c k p)
  where
    go : (t : Bool) → (if t then rank_of p.source ∷ (xs ++ r ∷ []) else xs ++ r ∷ []) ≡
        (if t then rank_of p.source ∷ xs else xs) ++ r ∷ []
    go true = refl
    go false = refl
awaits_more c k (Matched p m) xs r = refl
awaits_more c k (Sending d) xs r = refl
awaits_more c k (Finished o) xs r = refl
awaits_more c k Gone xs r = refl
awaits_more c k (TakenOut g m) xs r = refl

added_on : (c k : ℕ) (rs : List Request) (p : Receive) → on_line c k p ≡ true →
    awaited c k (rs ++ Posted p ∷ []) ≡ awaited c k rs ++ rank_of p.source ∷ []
added_on c k [] p h = ap (λ (t : Bool). if t then rank_of p.source ∷ [] else []) h
added_on c k (r ∷ rs) p h =
    ap (λ (xs : List ℕ). awaits c k r xs) (added_on c k rs p h) ∙ awaits_more c k r (awaited c k rs) (rank_of p.source)

-- what was answered wasn't awaited
used_same : (c k : ℕ) (q : Request) (rest : List ℕ) → awaits c k (used_up q) rest ≡ awaits c k q rest
used_same c k (Posted p) rest = refl
used_same c k (Matched p m) rest = refl
used_same c k (Sending d) rest = refl
used_same c k (Finished o) rest = refl
used_same c k Gone rest = refl
used_same c k (TakenOut g m) rest = refl

used_one : (c k : ℕ) (rs : List Request) (j : ℕ) → awaited c k (changed used_up rs j) ≡ awaited c k rs
used_one c k [] j = refl
used_one c k (r ∷ rs) zero = used_same c k r (awaited c k rs)
used_one c k (r ∷ rs) (suc j) = ap (λ (xs : List ℕ). awaits c k r xs) (used_one c k rs j)

used_all : (c k : ℕ) (js : List ℕ) (rs : List Request) → awaited c k (all_changed used_up rs js) ≡ awaited c k rs
used_all c k [] rs = refl
used_all c k (j ∷ js) rs = used_all c k js (changed used_up rs j) ∙ used_one c k rs j

same_line : (c k : ℕ) (l : Local) → IsSameLine (line_of c k l) (line_of c k l)
same_line c k l = record { waits = refl; left = λ r. refl }

-- CALLS

send_off : (c k : ℕ) (limit : MessageLimit) (mode : Mode) (e : Endpoint) (known : ℕ → ℕ) (to : Source) (tag : Option ℕ)
    (basic : BasicType) (values : List ℕ) →
    is_awaited c k (send_request limit mode e known to tag basic values) ≡ false
send_off c k limit mode e known (Rank to) (Some tag) basic values =
    go (is_eager limit mode e (receiver known to) basic values)
  where
    go : (t : Bool) → is_awaited c k (if t then Finished Sent else Sending (receiver known to)) ≡ false
    go true = refl
    go false = refl
send_off c k limit mode e known (Rank to) None basic values = refl
send_off c k limit mode e known Any (Some tag) basic values = refl
send_off c k limit mode e known Any None basic values = refl
send_off c k limit mode e known Null (Some tag) basic values = refl
send_off c k limit mode e known Null None basic values = refl

tested : (c k : ℕ) (l : Local) (o : Option (Answer × List ℕ)) →
    IsSameLine (line_of c k l) (line_of c k (after_test l o))
tested c k l None = same_line c k l
tested c k l (Some (a, ks)) = record { waits = used_all c k ks l.requests; left = λ r. refl }

answered : (c k : ℕ) (l : Local) (o : Option (Answer × List ℕ)) →
    IsSameLine (line_of c k l) (line_of c k (after_answer l o))
answered c k l None = same_line c k l
answered c k l (Some (a, ks)) = record { waits = used_all c k ks l.requests; left = λ r. refl }

pub calls_keep_lines : CallsKeepLines
calls_keep_lines c k e l (Isend mode context to tag from) h =
    record { waits = added_off c k l.requests _ (send_off c k l.message_limit mode e l.known to tag _ _); left = λ r. refl }
calls_keep_lines c k e l (Wait a) h = record { waits = refl; left = λ r. refl }
calls_keep_lines c k e l (Test r) h = tested c k l (completion (outcome_at l.requests) (One r))
calls_keep_lines c k e l (Iprobe q) h = record { waits = refl; left = λ r. refl }
calls_keep_lines c k e l (Irecv p) h = absurd h
calls_keep_lines c k e l (Cancel r) h = absurd h
calls_keep_lines c k e l (Improbe q) h = absurd h
calls_keep_lines c k e l (Mrecv m into) h = absurd h

pub settling_keeps_lines : SettlingKeepsLines
settling_keeps_lines c k l = answered c k l (ready_answer l)

pub receives_are_begun : ReceivesAreBegun
receives_are_begun c k e l p r h = (
  ap (λ (s : Source). awaited c k (l.requests ++ receive_request s p ∷ [])) h ∙ go (on_line c k p) refl,
  λ x. refl,
)
  where
    go : (t : Bool) → on_line c k p ≡ t → awaited c k (l.requests ++ Posted p ∷ []) ≡
        (if t then awaited c k l.requests ++ r ∷ [] else awaited c k l.requests)
    go true u =
        added_on c k l.requests p u ∙ ap (λ (s : Source). awaited c k l.requests ++ rank_of s ∷ []) h
    go false u = added_off c k l.requests (Posted p) u

-- MESSAGES

blocks_append : (k : ℕ) (xs ys : List Message) → blocks k (xs ++ ys) ≡ blocks k xs ++ blocks k ys
blocks_append k [] ys = refl
blocks_append k (m ∷ xs) ys = go (m.tag == k) (blocks_append k xs ys)
  where
    go : (t : Bool) → blocks k (xs ++ ys) ≡ blocks k xs ++ blocks k ys →
        (if t then m.values ∷ blocks k (xs ++ ys) else blocks k (xs ++ ys)) ≡
        (if t then m.values ∷ blocks k xs else blocks k xs) ++ blocks k ys
    go true h = ap (λ (bs : List Block). m.values ∷ bs) h
    go false h = h

pub messages_join_lines : MessagesJoinLines
messages_join_lines c k l m r h = (
  refl,
  λ x. ap (λ (s : Endpoint). blocks k (with_queue l.queue s m.context (l.queue s m.context ++ m ∷ []) (member x) c)) h
      ∙ go x (x == r) refl (c == m.context) refl,
)
  where
    go : (x : ℕ) (t : Bool) → (x == r) ≡ t → (u : Bool) → (c == m.context) ≡ u →
        blocks k (if (t && true) && u then l.queue (member r) m.context ++ m ∷ [] else l.queue (member x) c) ≡
        (if t && (u && (m.tag == k)) then blocks k (l.queue (member x) c) ++ m.values ∷ [] else
        blocks k (l.queue (member x) c))
    go x false e u v = refl
    go x true e false v = refl
    go x true e true v =
        blocks_append k (l.queue (member r) m.context) (m ∷ [])
        ∙ ap₂ (λ (y z : ℕ). blocks k (l.queue (member y) z) ++ (if m.tag == k then m.values ∷ [] else []))
        (sym (eqb-true x r e)) (sym (eqb-true c m.context v))
        ∙ tagged (m.tag == k)
      where
        tagged : (t : Bool) → blocks k (l.queue (member x) c) ++ (if t then m.values ∷ [] else []) ≡
            (if t then blocks k (l.queue (member x) c) ++ m.values ∷ [] else blocks k (l.queue (member x) c))
        tagged true = refl
        tagged false = append-nil (blocks k (l.queue (member x) c))

-- MATCHES

-- what a receive accepts
accepts_if : (p : Receive) (m : Message) (n : Names p) → p.context ≡ m.context → n.sender ≡ m.sender.rank →
    n.tag ≡ m.tag → accepts p m ≡ true
accepts_if p m n u v w =
    ap (λ (t : Bool). t && (is_from p.source m.sender.rank && has_tag p.tag m.tag)) (eq-eqb p.context m.context u)
    ∙ ap (λ (s : Source). is_from s m.sender.rank && has_tag p.tag m.tag) n.source_is
    ∙ ap (λ (t : Bool). t && has_tag p.tag m.tag) (eq-eqb n.sender m.sender.rank v)
    ∙ ap (λ (o : Option ℕ). has_tag o m.tag) n.tag_is
    ∙ eq-eqb n.tag m.tag w

-- and what follows of it
accepted_is : (p : Receive) (m : Message) (n : Names p) → accepts p m ≡ true →
    (p.context ≡ m.context) × (n.sender ≡ m.sender.rank) × (n.tag ≡ m.tag)
accepted_is p m n h =
    let one = and_parts (p.context == m.context) (is_from p.source m.sender.rank && has_tag p.tag m.tag) h in
    let two = and_parts (is_from p.source m.sender.rank) (has_tag p.tag m.tag) one.1 in (
      eqb-true p.context m.context one.0,
      eqb-true n.sender m.sender.rank
          (ap (λ (s : Source). is_from s m.sender.rank) (sym n.source_is) ∙ two.0),
      eqb-true n.tag m.tag (ap (λ (o : Option ℕ). has_tag o m.tag) (sym n.tag_is) ∙ two.1),
    )

-- a receive of the line has the line's tag
line_tag : (c k : ℕ) (p : Receive) (n : Names p) → on_line c k p ≡ true → (p.context ≡ c) × (n.tag ≡ k)
line_tag c k p n h =
    let one = and_parts (p.context == c) (is_tag k p.tag) h in
    (eqb-true p.context c one.0, eqb-true n.tag k (ap (λ (o : Option ℕ). is_tag k o) (sym n.tag_is) ∙ one.1))

line_rank : (p : Receive) (n : Names p) → rank_of p.source ≡ n.sender
line_rank p n = ap rank_of n.source_is

no_both : true ≡ false → ⊥
no_both h = grind arith

abbrev AllName : (c : ℕ) → List Request → Type 0
AllName c rs = (j : ℕ) (p : Receive) → slice_get rs j ≡ Some (Posted p) → p.context ≡ c → Names p

abbrev NoneAccepts : Message → List Request → (serial : ℕ) → Type 0
NoneAccepts m rs s = (j : ℕ) (q : Receive) → j < s → slice_get rs j ≡ Some (Posted q) → accepts q m ≡ false

-- the first receive of a sender is taken out of those that wait
record Taken (r : ℕ) (old new : List ℕ) : Type 0 where
  earlier : List ℕ
  later : List ℕ
  is : old ≡ earlier ++ r ∷ later
  none : is_among r earlier ≡ false
  left : new ≡ earlier ++ later

-- behind a receive from another sender
taken_behind : (r x : ℕ) (old new : List ℕ) → (r == x) ≡ false → Taken r old new → Taken r (x ∷ old) (x ∷ new)
taken_behind r x old new apart t =
    record {
      earlier = x ∷ t.earlier;
      later = t.later;
      is = ap (λ (xs : List ℕ). x ∷ xs) t.is;
      none = ap (λ (b : Bool). b || is_among r t.earlier) apart ∙ t.none;
      left = ap (λ (xs : List ℕ). x ∷ xs) t.left;
    }

-- a receive of the line that comes before the first one that accepts a message is from another sender
other_sender : (c k : ℕ) (m : Message) (q : Receive) (n : Names q) → m.context ≡ c → m.tag ≡ k →
    on_line c k q ≡ true → accepts q m ≡ false → (m.sender.rank == rank_of q.source) ≡ false
other_sender c k m q n u v on not = go (m.sender.rank == rank_of q.source) refl
  where
    go : (t : Bool) → (m.sender.rank == rank_of q.source) ≡ t → (m.sender.rank == rank_of q.source) ≡ false
    go false e = e
    go true e =
        let l = line_tag c k q n on in
        absurd (no_both (sym (accepts_if q m n (l.0 ∙ sym u)
        (sym (line_rank q n) ∙ sym (eqb-true m.sender.rank (rank_of q.source) e)) (l.1 ∙ sym v)) ∙ not))

taken_out : (c k : ℕ) (m : Message) (p : Receive) (rs : List Request) (s : ℕ) → slice_get rs s ≡ Some (Posted p) →
    on_line c k p ≡ true → rank_of p.source ≡ m.sender.rank → m.context ≡ c → m.tag ≡ k → AllName c rs →
    NoneAccepts m rs s → Taken m.sender.rank (awaited c k rs) (awaited c k (slice_set rs s (Matched p m)))
taken_out c k m p [] s e on from u v named none = absurd (grind arith)
taken_out c k m p (x ∷ rs) zero e on from u v named none =
    record {
      earlier = [];
      later = awaited c k rs;
      is = ap (λ (q : Request). awaits c k q (awaited c k rs)) (some_is x (Posted p) e)
          ∙ ap (λ (t : Bool). if t then rank_of p.source ∷ awaited c k rs else awaited c k rs) on
          ∙ ap (λ (r : ℕ). r ∷ awaited c k rs) from;
      none = refl;
      left = refl;
    }
taken_out c k m p (x ∷ rs) (suc s) e on from u v named none =
    behind x (λ q e. named 0 q e) (λ q e. none 0 q (omega arith) e)
    (taken_out c k m p rs s e on from u v (λ j q e. named (suc j) q e)
    (λ j q lt e. none (suc j) q (omega (arith, lt)) e))
  where
    behind : (y : Request) → ((q : Receive) → Some y ≡ Some (Posted q) → q.context ≡ c → Names q) →
        ((q : Receive) → Some y ≡ Some (Posted q) → accepts q m ≡ false) →
        Taken m.sender.rank (awaited c k rs) (awaited c k (slice_set rs s (Matched p m))) →
        Taken m.sender.rank (awaits c k y (awaited c k rs)) (awaits c k y (awaited c k (slice_set rs s (Matched p m))))
    behind (Matched p m) a b t = t
    behind (Sending d) a b t = t
    behind (Finished o) a b t = t
    behind Gone a b t = t
    behind (TakenOut g o) a b t = t
    behind (Posted q) a b t = go (on_line c k q) refl
      where
        go : (w : Bool) → on_line c k q ≡ w →
            Taken m.sender.rank (if w then rank_of q.source ∷ awaited c k rs else awaited c k rs)
            (if w then rank_of q.source ∷ awaited c k (slice_set rs s (Matched p m)) else
            awaited c k (slice_set rs s (Matched p m)))
        go false z = t
        go true z =
            let ctx : q.context ≡ c = eqb-true q.context c (and_parts (q.context == c) (is_tag k q.tag) z).0 in
            taken_behind m.sender.rank (rank_of q.source) _ _ (other_sender c k m q (a q refl ctx) u v z (b q refl)) t

-- no message before the first one that is accepted is of the line
none_before : (c k : ℕ) (p : Receive) (n : Names p) (e : Endpoint) (xs rest : List Message) → p.context ≡ c →
    n.sender ≡ e.rank → n.tag ≡ k → AllByRecursion (λ b. accepts p b ≡ false) xs →
    AllByRecursion (λ b. (b.sender ≡ e) × (b.context ≡ c)) (xs ++ rest) → blocks k xs ≡ []
none_before c k p n e [] rest u v w a b = refl
none_before c k p n e (x ∷ xs) rest u v w a b =
    ap (λ (t : Bool). if t then x.values ∷ blocks k xs else blocks k xs) (go (x.tag == k) refl)
    ∙ none_before c k p n e xs rest u v w a.1 b.1
  where
    go : (t : Bool) → (x.tag == k) ≡ t → (x.tag == k) ≡ false
    go false z = z
    go true z = absurd (no_both (sym (accepts_if p x n (u ∙ sym b.0.1)
        (v ∙ ap (λ (d : Endpoint). d.rank) (sym b.0.0)) (w ∙ sym (eqb-true x.tag k z))) ∙ a.0))

-- a message of another tag makes no difference
skipped : (k : ℕ) (xs : List Message) (m : Message) (ys : List Message) → (m.tag == k) ≡ false →
    blocks k (xs ++ ys) ≡ blocks k (xs ++ m ∷ ys)
skipped k xs m ys h =
    blocks_append k xs ys
    ∙ ap (λ (bs : List Block). blocks k xs ++ bs)
    (sym (ap (λ (t : Bool). if t then m.values ∷ blocks k ys else blocks k ys) h))
    ∙ sym (blocks_append k xs (m ∷ ys))

first_block : (k : ℕ) (xs : List Message) (m : Message) (ys : List Message) → blocks k xs ≡ [] → m.tag ≡ k →
    blocks k (xs ++ m ∷ ys) ≡ m.values ∷ blocks k ys
first_block k xs m ys h u =
    blocks_append k xs (m ∷ ys)
    ∙ ap (λ (bs : List Block). bs ++ blocks k (m ∷ ys)) h
    ∙ ap (λ (t : Bool). if t then m.values ∷ blocks k ys else blocks k ys) (eq-eqb m.tag k u)

some_stand : (xs : List Message) (m : Message) (ys : List Message) → xs ++ m ∷ ys ≡ [] → ⊥
some_stand [] m ys h = grind arith
some_stand (x ∷ xs) m ys h = grind arith

-- the endpoint of a first incarnation is its rank's
at_home : (e : Endpoint) → e.incarnation ≡ 0 → member e.rank ≡ e
at_home e h = ap (λ (i : ℕ). let d : Endpoint = record { rank = e.rank; incarnation = i } in d) (sym h)

-- whose endpoint is it
home_of : (r : ℕ) (e : Endpoint) → is_same (member r) e ≡ true → member r ≡ e
home_of r e h =
    let one = and_parts (r == e.rank) (0 == e.incarnation) h in
    ap (λ (x : ℕ). member x) (eqb-true r e.rank one.0) ∙ at_home e (sym (eqb-true 0 e.incarnation one.1))

-- a match of another receive changes nothing of the line
match_beside : (c k : ℕ) (l : Local) (s : ℕ) (p : Receive) (earlier : List Message) (m : Message)
    (later : List Message) → IsForPlans c l → Allowed l (Match s p earlier m later) → on_line c k p ≡ false →
    IsSameLine (line_of c k l) (line_of c k (after_step l (Match s p earlier m later)))
match_beside c k l s p earlier m later f a off =
    record {
      waits = set_off c k l.requests s (Posted p) (Matched p m) a.pending off refl;
      left = λ r. go r (is_same (member r) m.sender) refl (c == m.context) refl;
    }
  where
    other_tag : c ≡ m.context → (m.tag == k) ≡ false
    other_tag u =
        let ctx : p.context ≡ c = eqb-true p.context m.context
        (and_parts (p.context == m.context) (is_from p.source m.sender.rank && has_tag p.tag m.tag) a.accepted).0
        ∙ sym u in
        let n = f.named s p a.pending ctx in
        let same = accepted_is p m n a.accepted in
        ap (λ (x : ℕ). x == k) (sym same.2)
        ∙ ap (λ (o : Option ℕ). is_tag k o) (sym n.tag_is)
        ∙ ap (λ (t : Bool). t && is_tag k p.tag) (sym (eq-eqb p.context c ctx)) ∙ off

    go : (r : ℕ) (t : Bool) → is_same (member r) m.sender ≡ t → (u : Bool) → (c == m.context) ≡ u →
        blocks k (if t && u then earlier ++ later else l.queue (member r) c) ≡ blocks k (l.queue (member r) c)
    go r false e u v = refl
    go r true e false v = refl
    go r true e true v =
        skipped k earlier m later (other_tag (eqb-true c m.context v))
        ∙ ap (λ (ms : List Message). blocks k ms) (sym a.stands)
        ∙ ap₂ (λ (d : Endpoint) (x : ℕ). blocks k (l.queue d x)) (sym (home_of r m.sender e))
        (sym (eqb-true c m.context v))

-- a match of a receive of the line: the first block of its sender comes to it
match_on : (c k : ℕ) (l : Local) (s : ℕ) (p : Receive) (earlier : List Message) (m : Message)
    (later : List Message) → IsForPlans c l → Allowed l (Match s p earlier m later) → on_line c k p ≡ true →
    Arrives (line_of c k l) (line_of c k (after_step l (Match s p earlier m later)))
match_on c k l s p earlier m later f a on =
    record {
      sender = m.sender.rank;
      earlier = taken.earlier;
      later = taken.later;
      block = m.values;
      rest = blocks k later;
      begun = taken.is;
      none_earlier = taken.none;
      sent = ap₂ (λ (d : Endpoint) (x : ℕ). blocks k (l.queue d x)) home (sym here)
          ∙ ap (λ (ms : List Message). blocks k ms) a.stands
          ∙ first_block k earlier m later before tag;
      waits = taken.left;
      left = λ r. go r (r == m.sender.rank) refl;
    }
  where
    ctx : p.context ≡ c
    ctx = eqb-true p.context c (and_parts (p.context == c) (is_tag k p.tag) on).0

    n : Names p
    n = f.named s p a.pending ctx

    same : (p.context ≡ m.context) × (n.sender ≡ m.sender.rank) × (n.tag ≡ m.tag)
    same = accepted_is p m n a.accepted

    here : m.context ≡ c
    here = sym same.0 ∙ ctx

    tag : m.tag ≡ k
    tag = sym same.2 ∙ (line_tag c k p n on).1

    stands : l.queue m.sender c ≡ earlier ++ m ∷ later
    stands = ap (λ (x : ℕ). l.queue m.sender x) (sym here) ∙ a.stands

    first : m.sender.incarnation ≡ 0
    first = side (m.sender.incarnation == 0) refl
      where
        side : (t : Bool) → (m.sender.incarnation == 0) ≡ t → m.sender.incarnation ≡ 0
        side true e = eqb-true m.sender.incarnation 0 e
        side false e = absurd (some_stand earlier m later (sym stands ∙ f.first m.sender e))

    home : member m.sender.rank ≡ m.sender
    home = at_home m.sender first

    before : blocks k earlier ≡ []
    before = none_before c k p n m.sender earlier (m ∷ later) ctx same.1 ((line_tag c k p n on).1)
        a.no_earlier_message
        (subst (λ (ms : List Message). AllByRecursion (λ b. (b.sender ≡ m.sender) × (b.context ≡ c)) ms) stands
        (f.filed m.sender))

    taken : Taken m.sender.rank (awaited c k l.requests) (awaited c k (slice_set l.requests s (Matched p m)))
    taken = taken_out c k m p l.requests s a.pending on (line_rank p n ∙ same.1) here tag f.named
        a.no_earlier_receive

    go : (r : ℕ) (t : Bool) → (r == m.sender.rank) ≡ t →
        blocks k (if (t && (0 == m.sender.incarnation)) && (c == m.context) then earlier ++ later else
        l.queue (member r) c) ≡ (if t then blocks k later else blocks k (l.queue (member r) c))
    go r false e = refl
    go r true e =
        ap (λ (t : Bool). blocks k (if t && (c == m.context) then earlier ++ later else l.queue (member r) c))
        (eq-eqb 0 m.sender.incarnation (sym first))
        ∙ ap (λ (t : Bool). blocks k (if t then earlier ++ later else l.queue (member r) c))
        (eq-eqb c m.context (sym here))
        ∙ blocks_append k earlier later ∙ ap (λ (bs : List Block). bs ++ blocks k later) before

pub steps_are_arrivals : StepsAreArrivals
steps_are_arrivals c k l (Match s p earlier m later) f o a = go (on_line c k p) refl
  where
    go : (t : Bool) → on_line c k p ≡ t →
        IsSameLine (line_of c k l) (line_of c k (after_step l (Match s p earlier m later))) ⊎
        Arrives (line_of c k l) (line_of c k (after_step l (Match s p earlier m later)))
    go true e = inr (match_on c k l s p earlier m later f a e)
    go false e = inl (match_beside c k l s p earlier m later f a e)
steps_are_arrivals c k l (Finish s p m) f o a =
    inl (record {
      waits = set_off c k l.requests s (Matched p m) (Finished (outcome p m)) a refl refl;
      left = λ r. refl;
    })
steps_are_arrivals c k l (FinishSend s d) f o a =
    inl (record { waits = set_off c k l.requests s (Sending d) (Finished Sent) a refl refl; left = λ r. refl })
steps_are_arrivals c k l (See q earlier m later) f o a = inl (record { waits = refl; left = λ r. refl })
steps_are_arrivals c k l (Learn r i) f o a = absurd o
steps_are_arrivals c k l (TakeOut q earlier m later) f o a = absurd o
