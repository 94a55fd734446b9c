-- The numbers of what a step announces: they count on, one is left for each, and without one a message can't go.
use Rattle.std.proofs.Common.{◌≡◌, ℕ, ◌<◌, ◌≤◌, ◌&&◌, ◌||◌, not, Bool, true, false, cond, List, [], ◌∷◌, ◌++◌, length}
use Rattle.std.proofs.Common.{Option, Some, None, refl, sym, ap, subst, ◌∙◌, arith}
use Rattle.std.specs.Prelude.{nat_le, nat_lt}
use Rattle.std.proofs.lemmas.Bool.{le-leb, le-ltb, lt-leb, lt-ltb, ltb-false, ltb-true}
use Rattle.std.proofs.lemmas.List.{append-nil}
use Rattle.collective_messages.specs.Messages.{says}
use Rattle.collective_messages.specs.declared.message.CollectiveMessage.{CollectiveMessage}
use Rattle.datagram.specs.Spellings.{OutgoingText}
use Rattle.incarnation.specs.declared.place.Place.{Place}
use Rattle.payload.specs.Spellings.{spelling}
use Rattle.point_to_point_calls.specs.declared.refusal.Refusal.TheVariants as refusals
use Rattle.rendezvous.proofs.PayloadNumbers.{counted_snoc}
use Rattle.rendezvous.specs.PayloadNumbers.{AreLeft, counted, number_left}
use Rattle.rendezvous.specs.Payloads.{Announced}
use Rattle.rendezvous.specs.State.{is_full_to, next_to, with_begun}
use Rattle.rendezvous.specs.declared.transfers.Numbers.{Numbers}
use Rattle.vocabulary.specs.MessageLimits.{frame_limit_of}
use Rattle.vocabulary.specs.declared.message_limit.MessageLimit.{MessageLimit}
use Rattle.vocabulary.proofs.MessageLimits.{frame_most}
use Rattle.engine_calls.proofs.StepFrames.{both_of, left_for}
use Rattle.engine_calls.specs.Frames.{IsWhole, all_can_go, can_go, is_large, is_sendable, numbers_after, payload_frame}
use Rattle.engine_calls.specs.Frames.{payload_kept, step_numbers, step_payloads, transfer_of}
use Rattle.engine_calls.specs.Steps.{AreReady, IsAdded, IsLeftOut}

-- ---- what is announced is counted

-- what is kept of one message
abbrev kept_of : MessageLimit → List Numbers → CollectiveMessage → List Announced
kept_of limit ns m = payload_kept (transfer_of limit ns m) m.target.rank (spelling (says m))

kept_counted : (limit : MessageLimit) (ns : List Numbers) (m : CollectiveMessage) →
    counted ns (kept_of limit ns m) ≡ numbers_after limit ns m
kept_counted limit ns m = by (is_large limit m)
  where
    by : (b : Bool) →
        counted ns (payload_kept (cond b (Some (next_to ns m.target.rank)) None) m.target.rank (spelling (says m))) ≡
        cond b (with_begun ns m.target.rank) ns
    by true = refl
    by false = refl

-- the numbers of a step are those behind what it announces
pub step_counted : (limit : MessageLimit) (ns : List Numbers) (ms : List CollectiveMessage) →
    counted ns (step_payloads limit ns ms) ≡ step_numbers limit ns ms
step_counted limit ns [] = refl
step_counted limit ns (m ∷ ms) =
    let next = numbers_after limit ns m in
    counted_snoc ns (kept_of limit ns m) (step_payloads limit next ms)
    ∙ ap (λ (n : List Numbers). counted n (step_payloads limit next ms)) (kept_counted limit ns m)
    ∙ step_counted limit next ms

-- ---- and a number is left for each

kept_left : (p : Place) (ns : List Numbers) (m : CollectiveMessage) (rest : List Announced) → can_go p ns m ≡ true →
    AreLeft (numbers_after p.message_limit ns m) rest → AreLeft ns (kept_of p.message_limit ns m ++ rest)
kept_left p ns m rest go left = by (is_large p.message_limit m) refl left
  where
    by : (b : Bool) → is_large p.message_limit m ≡ b → AreLeft (cond b (with_begun ns m.target.rank) ns) rest →
        AreLeft ns
        (payload_kept (cond b (Some (next_to ns m.target.rank)) None) m.target.rank (spelling (says m)) ++ rest)
    by true e l = (
      left_for p ns m (length (spelling (says m))) refl go
          (ltb-true (frame_limit_of p.message_limit) (length (spelling (says m))) e),
      l,
    )
    by false e l = l

step_left : (p : Place) (ns : List Numbers) (ms : List CollectiveMessage) → all_can_go p ns ms ≡ true →
    AreLeft ns (step_payloads p.message_limit ns ms)
step_left p ns [] go = tt
step_left p ns (m ∷ ms) go =
    let both = both_of (can_go p ns m) (all_can_go p (numbers_after p.message_limit ns m) ms) go in
    kept_left p ns m (step_payloads p.message_limit (numbers_after p.message_limit ns m) ms) both.0 (step_left p (numbers_after p.message_limit ns m) ms both.1)

-- of what was written out
pub ready_left : (p : Place) (ns n2 : List Numbers) (ms : List CollectiveMessage) (fs : List OutgoingText)
    (ps : List Announced) → AreReady p ns ms fs ps n2 → AreLeft ns ps
ready_left p ns n2 ms fs ps ready =
    subst (λ (qs : List Announced). AreLeft ns qs) (sym ready.kept) (step_left p ns ms ready.go)

-- ---- whether one can go

abbrev size_of : CollectiveMessage → ℕ
size_of m = length (spelling (says m))

goes_by : (p : Place) (ns : List Numbers) (m : CollectiveMessage) → m.target.rank < p.size → m.number ≤ 2147483647 →
    can_go p ns m ≡ is_sendable p.message_limit ns m.target.rank (size_of m)
goes_by p ns m rank tag =
    ap (λ (b : Bool). b && (nat_le m.number 2147483647 && is_sendable p.message_limit ns m.target.rank (size_of m)))
    (lt-ltb m.target.rank p.size rank)
    ∙ ap (λ (b : Bool). b && is_sendable p.message_limit ns m.target.rank (size_of m)) (le-leb m.number 2147483647 tag)

-- a message that goes in a frame can
pub whole_goes : (p : Place) (ns : List Numbers) (m : CollectiveMessage) (count : ℕ) → count ≡ size_of m →
    m.target.rank < p.size → m.number ≤ 2147483647 → count ≤ frame_limit_of p.message_limit → can_go p ns m ≡ true
whole_goes p ns m count is rank tag small =
    goes_by p ns m rank tag
    ∙ ap (λ (b : Bool). b || (nat_le (size_of m) 2147483647 && not (is_full_to ns m.target.rank)))
    (le-leb (size_of m) (frame_limit_of p.message_limit) (omega (arith, is, small)))

pub whole_has_none : (limit : MessageLimit) (ns : List Numbers) (m : CollectiveMessage) (count : ℕ) →
    count ≡ size_of m → count ≤ frame_limit_of limit → None ≡ transfer_of limit ns m
whole_has_none limit ns m count is small =
    sym (ap (λ (b : Bool). cond b (Some (next_to ns m.target.rank)) None)
    (le-ltb (frame_limit_of limit) (size_of m) (omega (arith, is, small))))

long_by : (limit : MessageLimit) (ns : List Numbers) (m : CollectiveMessage) → frame_limit_of limit < size_of m →
    size_of m ≤ 2147483647 →
    is_sendable limit ns m.target.rank (size_of m) ≡ not (is_full_to ns m.target.rank)
long_by limit ns m large few =
    ap (λ (b : Bool). b || (nat_le (size_of m) 2147483647 && not (is_full_to ns m.target.rank)))
    (lt-leb (size_of m) (frame_limit_of limit) large)
    ∙ ap (λ (b : Bool). b && not (is_full_to ns m.target.rank)) (le-leb (size_of m) 2147483647 few)

left_is : (full : Bool) (t n : ℕ) → Some t ≡ cond full None (Some n) → (full ≡ false) × (Some t ≡ Some n)
left_is true t n e = absurd cc
left_is false t n e = (refl, e)

none_is : (full : Bool) (n : ℕ) → None ≡ cond full None (Some n) → full ≡ true
none_is true n e = refl
none_is false n e = absurd cc

-- one that is announced can where a number is left
pub announced_goes : (p : Place) (ns : List Numbers) (m : CollectiveMessage) (count t : ℕ) → count ≡ size_of m →
    m.target.rank < p.size → m.number ≤ 2147483647 → frame_limit_of p.message_limit < count → count ≤ 2147483647 →
    Some t ≡ number_left ns m.target.rank → can_go p ns m ≡ true
announced_goes p ns m count t is rank tag large few left =
    let open_ = left_is (is_full_to ns m.target.rank) t (next_to ns m.target.rank) left in
    goes_by p ns m rank tag ∙ long_by p.message_limit ns m (omega (arith, is, large)) (omega (arith, is, few)) ∙ ap not open_.0

pub announced_has : (limit : MessageLimit) (ns : List Numbers) (m : CollectiveMessage) (count t : ℕ) →
    count ≡ size_of m → frame_limit_of limit < count → Some t ≡ number_left ns m.target.rank →
    Some t ≡ transfer_of limit ns m
announced_has limit ns m count t is large left =
    let open_ = left_is (is_full_to ns m.target.rank) t (next_to ns m.target.rank) left in
    open_.1 ∙ sym (ap (λ (b : Bool). cond b (Some (next_to ns m.target.rank)) None)
    (lt-ltb (frame_limit_of limit) (size_of m) (omega (arith, is, large))))

-- ---- and why one can't

left_out_by : (go : Bool) → go ≡ false → IsLeftOut go refusals.Limit
left_out_by true e = absurd cc
left_out_by false e = refl

and_none : (a : Bool) → (a && false) ≡ false
and_none true = refl
and_none false = refl

pub out_of_job : (p : Place) (ns : List Numbers) (m : CollectiveMessage) → p.size ≤ m.target.rank →
    IsLeftOut (can_go p ns m) refusals.Limit
out_of_job p ns m out =
    left_out_by (can_go p ns m)
    (ap (λ (b : Bool). b && (nat_le m.number 2147483647 && is_sendable p.message_limit ns m.target.rank (size_of m)))
    (le-ltb m.target.rank p.size out))

pub out_of_tags : (p : Place) (ns : List Numbers) (m : CollectiveMessage) → 2147483647 < m.number →
    IsLeftOut (can_go p ns m) refusals.Limit
out_of_tags p ns m out =
    left_out_by (can_go p ns m)
    (ap (λ (b : Bool). nat_lt m.target.rank p.size && (b && is_sendable p.message_limit ns m.target.rank (size_of m)))
    (lt-leb m.number 2147483647 out) ∙ and_none (nat_lt m.target.rank p.size))

unsendable : (p : Place) (ns : List Numbers) (m : CollectiveMessage) →
    is_sendable p.message_limit ns m.target.rank (size_of m) ≡ false → IsLeftOut (can_go p ns m) refusals.Limit
unsendable p ns m none =
    left_out_by (can_go p ns m)
    (ap (λ (b : Bool). nat_lt m.target.rank p.size && (nat_le m.number 2147483647 && b)) none
    ∙ ap (λ (b : Bool). nat_lt m.target.rank p.size && b) (and_none (nat_le m.number 2147483647))
    ∙ and_none (nat_lt m.target.rank p.size))

pub too_long : (p : Place) (ns : List Numbers) (m : CollectiveMessage) (count : ℕ) → count ≡ size_of m →
    2147483647 < count → IsLeftOut (can_go p ns m) refusals.Limit
too_long p ns m count is long =
    unsendable p ns m
    (ap (λ (b : Bool). b || (nat_le (size_of m) 2147483647 && not (is_full_to ns m.target.rank)))
    (lt-leb (size_of m) (frame_limit_of p.message_limit) (omega (arith, is, long, frame_most p.message_limit)))
    ∙ ap (λ (b : Bool). b && not (is_full_to ns m.target.rank))
    (lt-leb (size_of m) 2147483647 (omega (arith, is, long))))

pub none_left : (p : Place) (ns : List Numbers) (m : CollectiveMessage) (count : ℕ) → count ≡ size_of m →
    frame_limit_of p.message_limit < count → count ≤ 2147483647 → None ≡ number_left ns m.target.rank →
    IsLeftOut (can_go p ns m) refusals.Limit
none_left p ns m count is large few none =
    unsendable p ns m
    (long_by p.message_limit ns m (omega (arith, is, large)) (omega (arith, is, few))
    ∙ ap not (none_is (is_full_to ns m.target.rank) (next_to ns m.target.rank) none))

-- what is announced under no number goes in a frame
pub small_enough : (limit : MessageLimit) (ns : List Numbers) (m : CollectiveMessage) (count : ℕ) → count ≡ size_of m →
    None ≡ transfer_of limit ns m → count ≤ 61440
small_enough limit ns m count is none =
    let small : is_large limit m ≡ false = by (is_large limit m) none in
    omega (arith, is, ltb-false (frame_limit_of limit) (size_of m) small, frame_most limit)
  where
    by : (b : Bool) → None ≡ cond b (Some (next_to ns m.target.rank)) None → b ≡ false
    by true e = absurd cc
    by false e = refl

-- ---- one more message

pub added_whole : (p : Place) (base : List Numbers) (m : CollectiveMessage) (fs gs : List OutgoingText)
    (ps : List Announced) → can_go p (counted base ps) m ≡ true → None ≡ transfer_of p.message_limit (counted base ps) m → IsWhole m →
    gs ≡ fs ++ (record {
      target = m.target.rank;
      frame = payload_frame None m.context m.number (spelling (says m));
    }) ∷ [] →
    IsAdded p (counted base ps) m fs gs ps ps (counted base ps)
added_whole p base m fs gs ps go none whole is = record {
  goes = go;
  frames = is
      ∙ ap (λ (o : Option ℕ). fs ++ (record {
        target = m.target.rank;
        frame = payload_frame o m.context m.number (spelling (says m));
      }) ∷ []) none;
  kept = sym (append-nil ps)
      ∙ ap (λ (o : Option ℕ). ps ++ payload_kept o m.target.rank (spelling (says m))) none;
  numbers = ap (λ (o : Option ℕ). counted (counted base ps) (payload_kept o m.target.rank (spelling (says m)))) none
      ∙ kept_counted p.message_limit (counted base ps) m;
  whole = whole;
}

pub added_announced : (p : Place) (base : List Numbers) (m : CollectiveMessage) (t : ℕ) (fs gs : List OutgoingText)
    (ps qs : List Announced) → can_go p (counted base ps) m ≡ true → Some t ≡ transfer_of p.message_limit (counted base ps) m →
    IsWhole m →
    gs ≡ fs ++ (record {
      target = m.target.rank;
      frame = payload_frame (Some t) m.context m.number (spelling (says m));
    }) ∷ [] →
    qs ≡ ps ++ payload_kept (Some t) m.target.rank (spelling (says m)) →
    IsAdded p (counted base ps) m fs gs ps qs (counted base qs)
added_announced p base m t fs gs ps qs go has whole is kept =
    let all : qs ≡ ps ++ kept_of p.message_limit (counted base ps) m =
    kept ∙ ap (λ (o : Option ℕ). ps ++ payload_kept o m.target.rank (spelling (says m))) has in
    record {
      goes = go;
      frames = is
          ∙ ap (λ (o : Option ℕ). fs ++ (record {
            target = m.target.rank;
            frame = payload_frame o m.context m.number (spelling (says m));
          }) ∷ []) has;
      kept = all;
      numbers = ap (λ (rs : List Announced). counted base rs) all ∙ counted_snoc base ps (kept_of p.message_limit (counted base ps) m)
          ∙ kept_counted p.message_limit (counted base ps) m;
      whole = whole;
    }
