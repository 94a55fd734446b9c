-- Each explored run has numbers: which of its program's requests each of an engine's stands for.
use Rattle.std.proofs.Common.{◌≡◌, ℕ, zero, suc, ◌+◌, ◌<◌, ◌≤◌, Bool, true, false, List, [], ◌∷◌, ◌++◌, length}
use Rattle.std.proofs.Common.{map, Option, Some, None, inl, inr, if◌then◌else◌, slice_get, refl, sym, ap}
use Rattle.std.proofs.Common.{◌∙◌, subst, arith}
use Rattle.std.proofs.lemmas.Bool.{cases_lt}
use Rattle.std.proofs.lemmas.Option.{none-some, same_Some}
use Rattle.perfect_queues.proofs.EndpointLemmas.{same_eq, same_refl}
use Rattle.perfect_queues.proofs.ListLemmas.{get_last}
use Rattle.perfect_queues.specs.Calls.{Call, Cancel, Improbe, Iprobe, Irecv, Isend, Mrecv, Test, Wait, after_answer}
use Rattle.perfect_queues.specs.Calls.{after_call, after_settling, after_test, message_sent, ready_answer, send}
use Rattle.perfect_queues.specs.Completions.{Answer, One, completion, outcome_at}
use Rattle.perfect_queues.specs.Events.{At, after_event, settle, start}
use Rattle.perfect_queues.specs.Messages.{Message}
use Rattle.perfect_queues.specs.Receives.{Receive}
use Rattle.perfect_queues.specs.Requests.{Request, all_changed, changed, used_up}
use Rattle.perfect_queues.specs.Runs.{after_run}
use Rattle.perfect_queues.specs.State.{Local, State, opening, put}
use Rattle.perfect_queues.specs.Steps.{Finish, FinishSend, Learn, Match, See, Step, TakeOut, after_step, step_at}
use Rattle.perfect_queues.specs.Steps.{steps_at}
use Rattle.proof_late_posting.proofs.Lists.{changed_length, get_before, get_more, get_within, is_set, length_more}
use Rattle.proof_late_posting.proofs.Lists.{length_set, within}
use Rattle.proof_late_posting.proofs.Peeking.{looks_free, peek_steps, rows_unseen}
use Rattle.proof_late_posting.proofs.Tied.{isnt_kept}
use Rattle.proof_late_posting.proofs.Worlds.{at_put}
use Rattle.proof_late_posting.specs.Explored.{AllCount, CallCounts, Counts, Fits, Goes, Happening, IsExplored}
use Rattle.proof_late_posting.specs.Explored.{Ends, IsNext, Keeps, Names, Peeks, Rows, RunsHaveNumbers, Sees}
use Rattle.proof_late_posting.specs.Explored.{StepCounts, StepsCount}
use Rattle.proof_late_posting.specs.Explored.{Takes, Tells, Tries, events_of, match_of, no_rows, row_after_call}
use Rattle.proof_late_posting.specs.Explored.{row_after_step}
use Rattle.proof_late_posting.specs.Explored.{rows_after, rows_after_steps, with_row}
use Rattle.proof_late_posting.specs.Places.{Places, StandApart}
use Rattle.proof_late_posting.specs.Ties.{IsKept, Row, named, named_probe, told_of}
use Rattle.vocabulary.specs.Endpoints.{is_same}
use Rattle.vocabulary.specs.declared.endpoint.Endpoint.{Endpoint}

-- NUMBERS FROM A LIST

-- the numbers of a list, and behind it those from a bound on
abbrev place_by : List ℕ → (bound : ℕ) → ℕ → ℕ
place_by [] b k = b + k
place_by (x ∷ xs) b zero = x
place_by (x ∷ xs) b (suc k) = place_by xs b k

by_list : (xs : List ℕ) (b k i : ℕ) → slice_get xs k ≡ Some i → place_by xs b k ≡ i
by_list [] b k i h = absurd (none-some i h)
by_list (x ∷ xs) b zero i h = same_Some x i h
by_list (x ∷ xs) b (suc k) i h = by_list xs b k i h

beyond : (xs : List ℕ) (b k : ℕ) → length xs ≤ k → place_by xs b k + length xs ≡ b + k
beyond [] b k h = omega arith
beyond (x ∷ xs) b zero h = absurd (omega arith)
beyond (x ∷ xs) b (suc k) h =
    let rest : place_by xs b k + length xs ≡ b + k = beyond xs b k (omega arith) in omega arith

apart_by : (xs : List ℕ) (b : ℕ) →
    ((j k i : ℕ) → slice_get xs j ≡ Some i → slice_get xs k ≡ Some i → j ≡ k) →
    ((k i : ℕ) → slice_get xs k ≡ Some i → i < b) → (j k : ℕ) → place_by xs b j ≡ place_by xs b k → j ≡ k
apart_by xs b distinct below j k same =
    elim (cases_lt j (length xs)) [
      | inl l ↦
          let one = get_within xs j l in
          let first : place_by xs b j ≡ one.0 = by_list xs b j one.0 one.1 in
          elim (cases_lt k (length xs)) [
            | inl m ↦
                let two = get_within xs k m in
                let e : two.0 ≡ one.0 = sym (by_list xs b k two.0 two.1) ∙ sym same ∙ first in
                distinct j k one.0 one.1 (two.1 ∙ ap (λ z. Some z) e)
            | inr m ↦
                let far : place_by xs b k + length xs ≡ b + k = beyond xs b k m in
                let near : one.0 < b = below j one.0 one.1 in
                absurd (omega arith)
          ]
      | inr l ↦
          let far : place_by xs b j + length xs ≡ b + j = beyond xs b j l in
          elim (cases_lt k (length xs)) [
            | inl m ↦
                let two = get_within xs k m in
                let second : place_by xs b k ≡ two.0 = by_list xs b k two.0 two.1 in
                let near : two.0 < b = below k two.0 two.1 in
                absurd (omega arith)
            | inr m ↦
                let more : place_by xs b k + length xs ≡ b + k = beyond xs b k m in omega arith
          ]
    ]

-- THE PLACES OF AN ENGINE'S REQUESTS, IN THE ENGINE'S ORDER

record IsCounted (row : Row) (order : List ℕ) (l : Local) : Type 0 where
  same : length l.requests ≡ length order
  distinct : (j k i : ℕ) → slice_get order j ≡ Some i → slice_get order k ≡ Some i → j ≡ k
  in_row : (k i : ℕ) → slice_get order k ≡ Some i → slice_get row i ≡ Some None

counted_same : (row : Row) (order : List ℕ) (l k : Local) → IsCounted row order l →
    length k.requests ≡ length l.requests → IsCounted row order k
counted_same row order l k c e = record { same = e ∙ c.same; distinct = c.distinct; in_row = c.in_row }

counted_kept : (row : Row) (order : List ℕ) (l : Local) (p : Receive) → IsCounted row order l →
    IsCounted (row ++ Some p ∷ []) order l
counted_kept row order l p c =
    record {
      same = c.same;
      distinct = c.distinct;
      in_row = λ k i h. get_more row (Some p) None i (c.in_row k i h);
    }

counted_more : (row : Row) (order : List ℕ) (l k : Local) → IsCounted row order l →
    length k.requests ≡ suc (length l.requests) →
    IsCounted (row ++ None ∷ []) (order ++ length row ∷ []) k
counted_more row order l k c e =
    record {
      same = e ∙ ap suc c.same ∙ sym (length_more order (length row));
      distinct = λ u v i h g.
          elim (get_before order (length row) i u h) [
            | inl a ↦
                elim (get_before order (length row) i v g) [
                  | inl b ↦ c.distinct u v i a b
                  | inr b ↦
                      let less : i < length row = within row i None (c.in_row u i a) in
                      let is : length row ≡ i = b.1 in
                      absurd (omega arith)
                ]
            | inr a ↦
                elim (get_before order (length row) i v g) [
                  | inl b ↦
                      let less : i < length row = within row i None (c.in_row v i b) in
                      let is : length row ≡ i = a.1 in
                      absurd (omega arith)
                  | inr b ↦ a.0 ∙ sym b.0
                ]
          ];
      in_row = λ u i h.
          elim (get_before order (length row) i u h) [
            | inl a ↦ get_more row None None i (c.in_row u i a)
            | inr a ↦ subst (λ v. slice_get (row ++ None ∷ []) v ≡ Some None) a.1 (get_last row None)
          ];
    }

counted_told : (row : Row) (order : List ℕ) (l k : Local) (i : ℕ) (p : Receive) → IsCounted row order l →
    IsKept row i p → length k.requests ≡ suc (length l.requests) →
    IsCounted (told_of row i) (order ++ i ∷ []) k
counted_told row order l k i p c kept e =
    let set = is_set row i (Some p) None kept in
    record {
      same = e ∙ ap suc c.same ∙ sym (length_more order i);
      distinct = λ u v j h g.
          elim (get_before order i j u h) [
            | inl a ↦
                elim (get_before order i j v g) [
                  | inl b ↦ c.distinct u v j a b
                  | inr b ↦ absurd (isnt_kept row i j p kept (c.in_row u j a) b.1)
                ]
            | inr a ↦
                elim (get_before order i j v g) [
                  | inl b ↦ absurd (isnt_kept row i j p kept (c.in_row v j b) a.1)
                  | inr b ↦ a.0 ∙ sym b.0
                ]
          ];
      in_row = λ u j h.
          elim (get_before order i j u h) [
            | inl a ↦
                set.others j (λ f. isnt_kept row i j p kept (c.in_row u j a) (sym f)) ∙ c.in_row u j a
            | inr a ↦ subst (λ v. slice_get (told_of row i) v ≡ Some None) a.1 set.here
          ];
    }

-- numbers that go on from an order
abbrev GoOn : (ℕ → ℕ) → List ℕ → Type 0
GoOn place order = (k i : ℕ) → slice_get order k ≡ Some i → place k ≡ i

one_less : (place : ℕ → ℕ) (order : List ℕ) (i : ℕ) → GoOn place (order ++ i ∷ []) → GoOn place order
one_less place order i h k j g = h k j (get_more order i j k g)

the_last : (place : ℕ → ℕ) (order : List ℕ) (i : ℕ) → GoOn place (order ++ i ∷ []) → place (length order) ≡ i
the_last place order i h = h (length order) i (get_last order i)

-- ALL ENDPOINTS

abbrev Orders : Type 0
Orders = Endpoint → List ℕ

abbrev with_order : Orders → Endpoint → List ℕ → Orders
with_order orders e o x = if is_same x e then o else orders x

abbrev AllGoOn : Places → Orders → Type 0
AllGoOn places orders = (e : Endpoint) → GoOn (places e) (orders e)

at_order : (orders : Orders) (e : Endpoint) (o : List ℕ) → with_order orders e o e ≡ o
at_order orders e o = rw (same_refl e) refl

here : (places : Places) (orders : Orders) (e : Endpoint) (o : List ℕ) → AllGoOn places (with_order orders e o) →
    GoOn (places e) o
here places orders e o h = subst (λ v. GoOn (places e) v) (at_order orders e o) (h e)

before : (places : Places) (orders : Orders) (e : Endpoint) (o : List ℕ) → AllGoOn places (with_order orders e o) →
    GoOn (places e) (orders e) → AllGoOn places orders
before places orders e o h own x = go (is_same x e) refl
  where
    go : (b : Bool) → is_same x e ≡ b → GoOn (places x) (orders x)
    go true g = subst (λ v. GoOn (places v) (orders v)) (sym (same_eq x e g)) own
    go false g = subst (λ b. GoOn (places x) (if b then o else orders x)) g (h x)

record AreCounted (rows : Rows) (orders : Orders) (s : State) : Type 0 where
  never_anew : (r : ℕ) → s.current r ≡ 0
  counted : (x : Endpoint) → IsCounted (rows x) (orders x) (s.at x)

module _ (rows : Rows) (orders : Orders) (s : State) (a : AreCounted rows orders s) where
  put_counted : (e : Endpoint) (row : Row) (o : List ℕ) (l : Local) → IsCounted row o l →
      AreCounted (with_row rows e row) (with_order orders e o) (put s e l)
  put_counted e row o l c = record { never_anew = a.never_anew; counted = λ x. go x (is_same x e) }
    where
      go : (x : Endpoint) (b : Bool) →
          IsCounted (if b then row else rows x) (if b then o else orders x) (if b then l else s.at x)
      go x true = c
      go x false = a.counted x

  twice_counted : (e : Endpoint) (row : Row) (o : List ℕ) (j l : Local) → IsCounted row o l →
      AreCounted (with_row rows e row) (with_order orders e o) (put (put s e j) e l)
  twice_counted e row o j l c = record { never_anew = a.never_anew; counted = λ x. go x (is_same x e) }
    where
      go : (x : Endpoint) (b : Bool) →
          IsCounted (if b then row else rows x) (if b then o else orders x)
          (if b then l else (if b then j else s.at x))
      go x true = c
      go x false = a.counted x

  row_counted : (e : Endpoint) (row : Row) → IsCounted row (orders e) (s.at e) →
      AreCounted (with_row rows e row) orders s
  row_counted e row c = record { never_anew = a.never_anew; counted = λ x. go x (is_same x e) refl }
    where
      go : (x : Endpoint) (b : Bool) → is_same x e ≡ b → IsCounted (if b then row else rows x) (orders x) (s.at x)
      go x true h = subst (λ z. IsCounted row (orders z) (s.at z)) (sym (same_eq x e h)) c
      go x false h = a.counted x

  same_counted : (e : Endpoint) (l : Local) → length l.requests ≡ length (s.at e).requests →
      AreCounted rows orders (put s e l)
  same_counted e l same = record { never_anew = a.never_anew; counted = λ x. go x (is_same x e) refl }
    where
      go : (x : Endpoint) (b : Bool) → is_same x e ≡ b → IsCounted (rows x) (orders x) (if b then l else s.at x)
      go x true h =
          subst (λ z. IsCounted (rows z) (orders z) l) (sym (same_eq x e h))
          (counted_same (rows e) (orders e) (s.at e) l (a.counted e) same)
      go x false h = a.counted x

send_counted : (rows : Rows) (orders : Orders) (s : State) → AreCounted rows orders s →
    (o : Option (Endpoint × Message)) → AreCounted rows orders (send s o)
send_counted rows orders s a None = a
send_counted rows orders s a (Some (d, m)) = same_counted rows orders s a d _ refl

-- HOW MANY REQUESTS THERE ARE

all_changed_length : (ks : List ℕ) (rs : List Request) → length (all_changed used_up rs ks) ≡ length rs
all_changed_length [] rs = refl
all_changed_length (k ∷ ks) rs =
    all_changed_length ks (changed used_up rs k) ∙ changed_length used_up rs k

test_length : (l : Local) (o : Option (Answer × List ℕ)) → length (after_test l o).requests ≡ length l.requests
test_length l None = refl
test_length l (Some (a, ks)) = all_changed_length ks l.requests

answer_length : (l : Local) (o : Option (Answer × List ℕ)) → length (after_answer l o).requests ≡ length l.requests
answer_length l None = refl
answer_length l (Some (a, ks)) = all_changed_length ks l.requests

map_length : (f : Request → Request) (rs : List Request) → length (map f rs) ≡ length rs
map_length f [] = refl
map_length f (r ∷ rs) = ap suc (map_length f rs)

-- the order behind a call, and behind a step
abbrev order_after_call : List ℕ → Row → Option Call → List ℕ
order_after_call order row None = order
order_after_call order row (Some (Isend mode c to tag b)) = order ++ length row ∷ []
order_after_call order row (Some (Irecv p)) = order ++ length row ∷ []
order_after_call order row (Some c) = order

abbrev order_after_step : List ℕ → Row → Step → List ℕ
order_after_step order row (TakeOut q earlier m later) = order ++ length row ∷ []
order_after_step order row x = order

call_counted : (c : Call) (e : Endpoint) (row : Row) (order : List ℕ) (l : Local) → IsCounted row order l →
    IsCounted (row_after_call row (Some c)) (order_after_call order row (Some c)) (after_call e l c)
call_counted (Isend mode c to tag b) e row order l h = counted_more row order l _ h (length_more l.requests _)
call_counted (Irecv p) e row order l h = counted_more row order l _ h (length_more l.requests _)
call_counted (Wait a) e row order l h = counted_same row order l _ h refl
call_counted (Test r) e row order l h =
    counted_same row order l _ h (test_length l (completion (outcome_at l.requests) (One r)))
call_counted (Cancel None) e row order l h = h
call_counted (Cancel (Some k)) e row order l h = counted_same row order l _ h (changed_length _ l.requests k)
call_counted (Iprobe q) e row order l h = counted_same row order l _ h refl
call_counted (Improbe q) e row order l h = counted_same row order l _ h refl
call_counted (Mrecv None into) e row order l h = h
call_counted (Mrecv (Some k) into) e row order l h =
    counted_same row order l _ h (changed_length _ l.requests k)

step_counted : (x : Step) (row : Row) (order : List ℕ) (l : Local) → IsCounted row order l →
    IsCounted (row_after_step row x) (order_after_step order row x) (after_step l x)
step_counted (Match k p earlier m later) row order l h =
    counted_same row order l _ h (length_set l.requests k _)
step_counted (Finish k p m) row order l h = counted_same row order l _ h (length_set l.requests k _)
step_counted (FinishSend k d) row order l h = counted_same row order l _ h (length_set l.requests k _)
step_counted (Learn r i) row order l h = counted_same row order l _ h (map_length _ l.requests)
step_counted (See q earlier m later) row order l h = counted_same row order l _ h refl
step_counted (TakeOut q earlier m later) row order l h =
    counted_more row order l _ h (length_more l.requests _)

-- what goes on from the later order goes on from the earlier one, and counts

call_numbers : (c : Option Call) (places : Places) (e : Endpoint) (row : Row) (order : List ℕ) (l : Local) →
    IsCounted row order l → GoOn (places e) (order_after_call order row c) →
    GoOn (places e) order × CallCounts places e l row c
call_numbers None places e row order l h g = (g, tt)
call_numbers (Some (Isend mode c to tag b)) places e row order l h g =
    (one_less (places e) order (length row) g, ap (places e) h.same ∙ the_last (places e) order (length row) g)
call_numbers (Some (Irecv p)) places e row order l h g =
    (one_less (places e) order (length row) g, ap (places e) h.same ∙ the_last (places e) order (length row) g)
call_numbers (Some (Wait a)) places e row order l h g = (g, tt)
call_numbers (Some (Test r)) places e row order l h g = (g, tt)
call_numbers (Some (Cancel r)) places e row order l h g = (g, tt)
call_numbers (Some (Iprobe q)) places e row order l h g = (g, tt)
call_numbers (Some (Improbe q)) places e row order l h g = (g, tt)
call_numbers (Some (Mrecv k into)) places e row order l h g = (g, tt)

step_numbers : (x : Step) (places : Places) (e : Endpoint) (row : Row) (order : List ℕ) (l : Local) →
    IsCounted row order l → GoOn (places e) (order_after_step order row x) →
    GoOn (places e) order × StepCounts places e l row x
step_numbers (Match k p earlier m later) places e row order l h g = (g, tt)
step_numbers (Finish k p m) places e row order l h g = (g, tt)
step_numbers (FinishSend k d) places e row order l h g = (g, tt)
step_numbers (Learn r i) places e row order l h g = (g, tt)
step_numbers (See q earlier m later) places e row order l h g = (g, tt)
step_numbers (TakeOut q earlier m later) places e row order l h g =
    (one_less (places e) order (length row) g, ap (places e) h.same ∙ the_last (places e) order (length row) g)

-- EACH HAPPENING

-- the orders behind something: they are counted, and what goes on from them goes on from those before, and counts
abbrev Behind : Rows → State → Orders → (Places → Type 0) → Type 0
Behind rows s orders C =
    (later : Orders) × AreCounted rows later s
    × ((places : Places) → AllGoOn places later → AllGoOn places orders × C places)

steps_counted : (e : Endpoint) (xs : List Step) (rows : Rows) (orders : Orders) (s : State) →
    AreCounted rows orders s →
    Behind (rows_after_steps rows e xs) (steps_at s e xs) orders (λ places. StepsCount places s e rows xs)
steps_counted e [] rows orders s a = (orders, a, λ places g. (g, tt))
steps_counted e (x ∷ xs) rows orders s a =
    let row : Row = row_after_step (rows e) x in
    let o : List ℕ = order_after_step (orders e) (rows e) x in
    let rest =
    steps_counted e xs (with_row rows e row) (with_order orders e o) (step_at s e x)
    (put_counted rows orders s a e row o (after_step (s.at e) x)
    (step_counted x (rows e) (orders e) (s.at e) (a.counted e))) in (
      rest.0,
      rest.1,
      λ places g.
          let more = rest.2 places g in
          let one =
          step_numbers x places e (rows e) (orders e) (s.at e) (a.counted e)
          (here places orders e o more.0) in
          (before places orders e o more.0 one.0, (one.1, more.1)),
    )

settled_counted : (rows : Rows) (orders : Orders) (s : State) → AreCounted rows orders s → (e : Endpoint) →
    AreCounted rows orders (settle s e)
settled_counted rows orders s a e =
    same_counted rows orders s a e (after_settling (s.at e)) (answer_length (s.at e) (ready_answer (s.at e)))

start_counted : (call : Option Call) (rows : Rows) (orders : Orders) (s : State) → AreCounted rows orders s →
    (e : Endpoint) →
    AreCounted (with_row rows e (row_after_call (rows e) call))
    (with_order orders e (order_after_call (orders e) (rows e) call)) (start s e call)
start_counted None rows orders s a e =
    record { never_anew = a.never_anew; counted = λ x. go x (is_same x e) refl }
  where
    go : (x : Endpoint) (b : Bool) → is_same x e ≡ b →
        IsCounted (if b then rows e else rows x) (if b then orders e else orders x) (s.at x)
    go x true h = subst (λ z. IsCounted (rows z) (orders z) (s.at x)) (same_eq x e h) (a.counted x)
    go x false h = a.counted x
start_counted (Some c) rows orders s a e =
    send_counted (with_row rows e (row_after_call (rows e) (Some c)))
    (with_order orders e (order_after_call (orders e) (rows e) (Some c))) (put s e (after_call e (s.at e) c))
    (put_counted rows orders s a e (row_after_call (rows e) (Some c))
    (order_after_call (orders e) (rows e) (Some c)) (after_call e (s.at e) c)
    (call_counted c e (rows e) (orders e) (s.at e) (a.counted e)))
    (message_sent e (s.at e) c)

-- an event that begins with orders which are counted
goes_on : (rows : Rows) (orders : Orders) (s : State) (e : Endpoint) (row : Row) (o : List ℕ) (t : State)
    (xs : List Step) (C : Places → Type 0) → AreCounted (with_row rows e row) (with_order orders e o) t →
    ((places : Places) → GoOn (places e) o → GoOn (places e) (orders e) × C places) →
    Behind (rows_after_steps (with_row rows e row) e xs) (settle (steps_at t e xs) e) orders
    (λ places. C places × StepsCount places t e (with_row rows e row) xs)
goes_on rows orders s e row o t xs C a one =
    let rest = steps_counted e xs (with_row rows e row) (with_order orders e o) t a in (
      rest.0,
      settled_counted (rows_after_steps (with_row rows e row) e xs) rest.0 (steps_at t e xs) rest.1 e,
      λ places g.
          let more = rest.2 places g in
          let its = one places (here places orders e o more.0) in
          (before places orders e o more.0 its.0, (its.1, more.1)),
    )

module _ (n : ℕ) (rows : Rows) (orders : Orders) (s : State) (a : AreCounted rows orders s) where
  -- how many requests there are where one was posted
  one_posted : (e : Endpoint) (k : Local) (r : Request) → k.requests ≡ (s.at e).requests ++ r ∷ [] →
      length ((put s e k).at e).requests ≡ suc (length (s.at e).requests)
  one_posted e k r is =
      ap (λ (l : Local). length l.requests) (at_put s e k) ∙ ap (λ rs. length rs) is
      ∙ length_more (s.at e).requests r

  told_numbers : (e : Endpoint) (i : ℕ) (places : Places) → GoOn (places e) (orders e ++ i ∷ []) →
      GoOn (places e) (orders e) × IsNext places e (s.at e) i
  told_numbers e i places g = (
    one_less (places e) (orders e) i g,
    ap (places e) (a.counted e).same ∙ the_last (places e) (orders e) i g,
  )

  one_counted : (h : Happening) → Fits n s rows h →
      Behind (rows_after rows h) (after_run s (events_of s h)) orders (λ places. Counts places s rows h)
  one_counted (Goes e call steps) fits =
      goes_on rows orders s e (row_after_call (rows e) call) (order_after_call (orders e) (rows e) call)
      (start s e call) steps (λ places. CallCounts places e (s.at e) (rows e) call)
      (start_counted call rows orders s a e)
      (λ places g. call_numbers call places e (rows e) (orders e) (s.at e) (a.counted e) g)
  one_counted (Keeps e p) fits = (
    orders,
    row_counted rows orders s a e (rows e ++ Some p ∷ [])
        (counted_kept (rows e) (orders e) (s.at e) p (a.counted e)),
    λ places g. (g, tt),
  )
  one_counted (Names e i p earlier m later steps) fits =
      let q : Receive = named p m.sender.rank in
      let k : Local = after_call e (s.at e) (Irecv q) in
      let x : Step = match_of (s.at e) p earlier m later in
      goes_on rows orders s e (told_of (rows e) i) (orders e ++ i ∷ []) (step_at (put s e k) e x) steps
      (λ places. IsNext places e (s.at e) i)
      (twice_counted rows orders s a e (told_of (rows e) i) (orders e ++ i ∷ []) k
      (after_step ((put s e k).at e) x)
      (counted_told (rows e) (orders e) (s.at e) (after_step ((put s e k).at e) x) i p (a.counted e)
      fits.1.is_kept
      (length_set ((put s e k).at e).requests (length (s.at e).requests) _ ∙ one_posted e k _ refl)))
      (told_numbers e i)
  one_counted (Tells e i p steps) fits =
      let k : Local = after_call e (s.at e) (Irecv p) in
      goes_on rows orders s e (told_of (rows e) i) (orders e ++ i ∷ []) (put s e k) steps
      (λ places. IsNext places e (s.at e) i)
      (put_counted rows orders s a e (told_of (rows e) i) (orders e ++ i ∷ []) k
      (counted_told (rows e) (orders e) (s.at e) k i p (a.counted e) fits.1.is_kept
      (length_more (s.at e).requests _)))
      (told_numbers e i)
  one_counted (Sees e q earlier m later steps) fits =
      let k : Local = after_call e (s.at e) (Iprobe (named_probe q m.sender.rank)) in
      let x : Step = See (named_probe q m.sender.rank) earlier m later in
      let all =
      goes_on rows orders s e (rows e) (orders e) (step_at (put s e k) e x) steps (λ places. Unit {0})
      (twice_counted rows orders s a e (rows e) (orders e) k (after_step ((put s e k).at e) x)
      (counted_same (rows e) (orders e) (s.at e) (after_step ((put s e k).at e) x) (a.counted e)
      (ap (λ (l : Local). length l.requests) (at_put s e k))))
      (λ places g. (g, tt)) in
      (all.0, all.1, λ places g. let its = all.2 places g in (its.0, its.1.1))
  one_counted (Takes e q earlier m later steps) fits =
      let k : Local = after_call e (s.at e) (Improbe (named_probe q m.sender.rank)) in
      let x : Step = TakeOut (named_probe q m.sender.rank) earlier m later in
      goes_on rows orders s e (rows e ++ None ∷ []) (orders e ++ length (rows e) ∷ []) (step_at (put s e k) e x) steps
      (λ places. IsNext places e (s.at e) (length (rows e)))
      (twice_counted rows orders s a e (rows e ++ None ∷ []) (orders e ++ length (rows e) ∷ []) k
      (after_step ((put s e k).at e) x)
      (counted_more (rows e) (orders e) (s.at e) (after_step ((put s e k).at e) x) (a.counted e)
      (length_more ((put s e k).at e).requests _
      ∙ ap (λ (l : Local). suc (length l.requests)) (at_put s e k))))
      (told_numbers e (length (rows e)))
  one_counted (Ends e k o steps) fits =
      let all =
      goes_on rows orders s e (rows e) (orders e) (start s e (Some (Test (Some k)))) steps (λ places. Unit {0})
      (start_counted (Some (Test (Some k))) rows orders s a e) (λ places g. (g, tt)) in
      (all.0, all.1, λ places g. let its = all.2 places g in (its.0, its.1.1))
  one_counted (Tries e k steps) fits =
      let all =
      goes_on rows orders s e (rows e) (orders e) (start s e (Some (Test (Some k)))) steps (λ places. Unit {0})
      (start_counted (Some (Test (Some k))) rows orders s a e) (λ places g. (g, tt)) in
      (all.0, all.1, λ places g. let its = all.2 places g in (its.0, its.1.1))
  one_counted (Peeks e q steps) h =
      let unseen = peek_steps s e q steps (looks_free n (s.at e) q h.fit) a.never_anew h.steps in
      let rest = steps_counted e unseen.0 rows orders s a in
      let end = settled_counted (rows_after_steps rows e unseen.0) rest.0 (steps_at s e unseen.0) rest.1 e in (
        rest.0,
        record {
          never_anew = λ r. ap (λ (f : ℕ → ℕ). f r) (sym unseen.4) ∙ end.never_anew r;
          counted = λ x.
              subst
              (λ v. IsCounted v (rest.0 x) ((after_event s (At e (Some (Iprobe q)) steps)).at x))
              (rows_unseen unseen.0 rows e unseen.2 x)
              (subst (λ l. IsCounted (rows_after_steps rows e unseen.0 x) (rest.0 x) l) (unseen.3 x) (end.counted x));
        },
        λ places g. ((rest.2 places g).0, tt),
      )

-- RUNS

numbers_from : (n : ℕ) (hs : List Happening) (rows : Rows) (orders : Orders) (s : State) →
    AreCounted rows orders s → IsExplored n s rows hs →
    (places : Places) × StandApart places × AllGoOn places orders × AllCount places s rows hs
numbers_from n [] rows orders s a x = (
  λ e. place_by (orders e) (length (rows e)),
  λ e j k same.
      apart_by (orders e) (length (rows e)) (a.counted e).distinct
      (λ u i h. within (rows e) i None ((a.counted e).in_row u i h)) j k same,
  λ e k i h. by_list (orders e) (length (rows e)) k i h,
  tt,
)
numbers_from n (h ∷ hs) rows orders s a x =
    let one = one_counted n rows orders s a h x.0 in
    let rest =
    numbers_from n hs (rows_after rows h) one.0 (after_run s (events_of s h)) one.1 x.1 in
    let its = one.2 rest.0 rest.2 in (rest.0, rest.1, its.0, (its.1, rest.3))

pub runs_have_numbers : RunsHaveNumbers
runs_have_numbers n limit hs x =
    let all =
    numbers_from n hs no_rows (λ e. []) (opening limit)
    (record {
      never_anew = λ r. refl;
      counted = λ e.
          record {
            same = refl;
            distinct = λ j k i h g. absurd (none-some i h);
            in_row = λ k i h. absurd (none-some i h);
          };
    })
    x in (all.0, record { apart = all.1; count = all.3 })
