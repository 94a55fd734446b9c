-- A probe that the explorer makes for itself changes nothing but what is taken without it.
use Rattle.std.proofs.Common.{◌≡◌, ◌≢◌, ℕ, ◌<◌, ◌≤◌, Bool, true, false, ◌||◌, List, [], ◌∷◌, Option, Some, None}
use Rattle.std.proofs.Common.{if◌then◌else◌, slice_get, refl, sym, ap, ◌∙◌, subst, arith}
use Rattle.std.specs.Prelude.{option_and_then}
use Rattle.std.specs.List.{AllByRecursion}
use Rattle.std.proofs.lemmas.Bool.{or_parts}
use Rattle.perfect_queues.proofs.EndpointLemmas.{same_eq}
use Rattle.perfect_queues.specs.Calls.{Iprobe, after_answer, after_call, after_settling, probe_begun}
use Rattle.perfect_queues.specs.Completions.{Looks, Saw, Searches, Took, Unanswered, Waits, answer_to, outcome_at}
use Rattle.perfect_queues.specs.Events.{At, after_event, settle, start}
use Rattle.perfect_queues.specs.Receives.{Probe}
use Rattle.perfect_queues.specs.Refusals.{fault, is_held}
use Rattle.perfect_queues.specs.Requests.{TakenOut}
use Rattle.perfect_queues.specs.State.{Local, State, put}
use Rattle.perfect_queues.specs.Steps.{Allowed, AreSteps, Finish, FinishSend, IsMatched, Learn, Match, Possible, See}
use Rattle.perfect_queues.specs.Steps.{Step}
use Rattle.perfect_queues.specs.Steps.{TakeOut, after_step, step_at, steps_at}
use Rattle.proof_late_posting.proofs.Judging.{first_none, others_of}
use Rattle.proof_late_posting.proofs.Parts.{held_none}
use Rattle.proof_late_posting.proofs.Worlds.{at_put}
use Rattle.proof_late_posting.specs.Explored.{Rows, StepCounts, StepFits, StepsCount, StepsFit, row_after_step}
use Rattle.proof_late_posting.specs.Explored.{rows_after_steps, with_row}
use Rattle.proof_late_posting.specs.Places.{Places}
use Rattle.proof_late_posting.specs.Ties.{Row}
use Rattle.vocabulary.specs.Endpoints.{is_same}
use Rattle.vocabulary.specs.declared.endpoint.Endpoint.{Endpoint}
use Rattle.vocabulary.specs.declared.envelope.Source.{Source}
use Rattle.vocabulary.specs.declared.envelope.Source.TheVariants.{Any, Null, Rank}

pub looks_free : (n : ℕ) (l : Local) (q : Probe) → fault n l (Iprobe q) ≡ None → l.blocked ≡ None
looks_free n l q h =
    held_none l.blocked
    (or_parts (is_held l.blocked) false
    (first_none (is_held l.blocked || false) 6 (others_of n l.message_limit (Iprobe q)) h)).0

-- the endpoint without its call
abbrev unblocked : Local → Local
unblocked l = record l { blocked = None }

-- a look that goes on
abbrev IsLook : Option Unanswered → Type 0
IsLook (Some (Looks q)) = Unit {0}
IsLook (Some (Saw status)) = Unit {0}
IsLook o = ⊥

-- the second state is the first, but for the call of e
record Hides (e : Endpoint) (seen plain : State) : Type 0 where
  here : plain.at e ≡ unblocked (seen.at e)
  others : (x : Endpoint) → is_same x e ≡ false → plain.at x ≡ seen.at x
  current : plain.current ≡ seen.current

-- steps that are no looks, and take nothing out
abbrev pub IsUnseen : Step → Type 0
IsUnseen (See q earlier m later) = ⊥
IsUnseen (TakeOut q earlier m later) = ⊥
IsUnseen x = Unit {0}

same_requests : (e : Endpoint) (seen plain : State) → Hides e seen plain → (d : Endpoint) →
    (plain.at d).requests ≡ (seen.at d).requests
same_requests e seen plain h d = go (is_same d e) refl
  where
    go : (b : Bool) → is_same d e ≡ b → (plain.at d).requests ≡ (seen.at d).requests
    go true g =
        subst (λ z. (plain.at z).requests ≡ (seen.at z).requests) (sym (same_eq d e g))
        (ap (λ (l : Local). l.requests) h.here)
    go false g = ap (λ (l : Local). l.requests) (h.others d g)

same_queue : (e : Endpoint) (seen plain : State) → Hides e seen plain → (d s : Endpoint) (c : ℕ) →
    (plain.at d).queue s c ≡ (seen.at d).queue s c
same_queue e seen plain h d s c = go (is_same d e) refl
  where
    go : (b : Bool) → is_same d e ≡ b → (plain.at d).queue s c ≡ (seen.at d).queue s c
    go true g =
        subst (λ z. (plain.at z).queue s c ≡ (seen.at z).queue s c) (sym (same_eq d e g))
        (ap (λ (l : Local). l.queue s c) h.here)
    go false g = ap (λ (l : Local). l.queue s c) (h.others d g)

still_matched : (e : Endpoint) (seen plain : State) → Hides e seen plain → (k : ℕ) (d : Endpoint) →
    IsMatched seen e k d → IsMatched plain e k d
still_matched e seen plain h k d m =
    record {
      not_pending = λ c.
          subst (λ ms. AllByRecursion (λ n. n.request ≢ Some k) ms) (sym (same_queue e seen plain h d e c))
          (m.not_pending c);
      not_taken_out = λ j g n get.
          m.not_taken_out j g n
          (subst (λ rs. slice_get rs j ≡ Some (TakenOut g (Some n))) (same_requests e seen plain h d) get);
    }

after_hides : (e : Endpoint) (seen plain : State) (x y : Step) → Hides e seen plain →
    after_step (unblocked (seen.at e)) y ≡ unblocked (after_step (seen.at e) x) →
    Hides e (step_at seen e x) (step_at plain e y)
after_hides e seen plain x y h same =
    record {
      here =
          at_put plain e (after_step (plain.at e) y) ∙ ap (λ l. after_step l y) h.here ∙ same
          ∙ ap unblocked (sym (at_put seen e (after_step (seen.at e) x)));
      others = λ z g.
          ap (λ b. if b then after_step (plain.at e) y else plain.at z) g ∙ h.others z g
          ∙ ap (λ b. if b then after_step (seen.at e) x else seen.at z) (sym g);
      current = h.current;
    }

-- after a step that sees, the state is still the one that was hidden
after_seeing : (e : Endpoint) (seen plain : State) (x : Step) → Hides e seen plain →
    unblocked (seen.at e) ≡ unblocked (after_step (seen.at e) x) →
    Hides e (step_at seen e x) plain
after_seeing e seen plain x h same =
    record {
      here = h.here ∙ same ∙ ap unblocked (sym (at_put seen e (after_step (seen.at e) x)));
      others = λ z g. h.others z g ∙ ap (λ b. if b then after_step (seen.at e) x else seen.at z) (sym g);
      current = h.current;
    }

abbrev Ways : Endpoint → State → State → List Step → Type 0
Ways e seen plain xs =
    (ys : List Step) × AreSteps plain e ys × AllByRecursion IsUnseen ys
    × Hides e (steps_at seen e xs) (steps_at plain e ys)
    × IsLook ((steps_at seen e xs).at e).blocked

-- one step more in front
in_front : (e : Endpoint) (seen plain : State) (x : Step) (xs : List Step) → Allowed (plain.at e) x →
    Possible plain e x → IsUnseen x →
    Ways e (step_at seen e x) (step_at plain e x) xs → Ways e seen plain (x ∷ xs)
in_front e seen plain x xs may possible plainly ways =
    (x ∷ ways.0, (may, possible, ways.1), (plainly, ways.2), ways.3, ways.4)

look_after : (seen : State) (e : Endpoint) (l : Local) → IsLook l.blocked → IsLook ((put seen e l).at e).blocked
look_after seen e l h = subst (λ (z : Local). IsLook z.blocked) (sym (at_put seen e l)) h

unseen_steps : (e : Endpoint) (xs : List Step) (seen plain : State) → Hides e seen plain →
    ((r : ℕ) → seen.current r ≡ 0) → IsLook (seen.at e).blocked → AreSteps seen e xs → Ways e seen plain xs
unseen_steps e [] seen plain h never look are = ([], tt, tt, h, look)
unseen_steps e (Match k p earlier m later ∷ xs) seen plain h never look are =
    in_front e seen plain (Match k p earlier m later) xs
    (subst (λ l. Allowed l (Match k p earlier m later)) (sym h.here)
    (record {
      pending = are.0.pending;
      stands = are.0.stands;
      accepted = are.0.accepted;
      no_earlier_receive = are.0.no_earlier_receive;
      no_earlier_message = are.0.no_earlier_message;
    }))
    tt tt
    (unseen_steps e xs (step_at seen e (Match k p earlier m later)) (step_at plain e (Match k p earlier m later))
    (after_hides e seen plain (Match k p earlier m later) (Match k p earlier m later) h refl) never
    (look_after seen e (after_step (seen.at e) (Match k p earlier m later)) look) are.2)
unseen_steps e (Finish k p m ∷ xs) seen plain h never look are =
    in_front e seen plain (Finish k p m) xs
    (subst (λ l. Allowed l (Finish k p m)) (sym h.here) are.0) tt tt
    (unseen_steps e xs (step_at seen e (Finish k p m)) (step_at plain e (Finish k p m))
    (after_hides e seen plain (Finish k p m) (Finish k p m) h refl) never
    (look_after seen e (after_step (seen.at e) (Finish k p m)) look) are.2)
unseen_steps e (FinishSend k d ∷ xs) seen plain h never look are =
    in_front e seen plain (FinishSend k d) xs
    (subst (λ l. Allowed l (FinishSend k d)) (sym h.here) are.0) (still_matched e seen plain h k d are.1) tt
    (unseen_steps e xs (step_at seen e (FinishSend k d)) (step_at plain e (FinishSend k d))
    (after_hides e seen plain (FinishSend k d) (FinishSend k d) h refl) never
    (look_after seen e (after_step (seen.at e) (FinishSend k d)) look) are.2)
unseen_steps e (Learn r i ∷ xs) seen plain h never look are =
    let none : seen.current r ≡ 0 = never r in
    let less : (seen.at e).known r < i = are.0 in
    let most : i ≤ seen.current r = are.1 in
    absurd (omega arith)
unseen_steps e (See q earlier m later ∷ xs) seen plain h never look are =
    unseen_steps e xs (step_at seen e (See q earlier m later)) plain
    (after_seeing e seen plain (See q earlier m later) h refl) never
    (look_after seen e (after_step (seen.at e) (See q earlier m later)) tt) are.2
unseen_steps e (TakeOut q earlier m later ∷ xs) seen plain h never look are =
    absurd (subst IsLook are.0.0 look)

-- THE WHOLE LOOK

settled_look : (l : Local) (o : Option Unanswered) → l.blocked ≡ o → IsLook o → after_settling l ≡ unblocked l
settled_look l (Some (Looks q)) h look =
    ap (after_answer l) (ap (option_and_then (answer_to (outcome_at l.requests))) h)
settled_look l (Some (Saw status)) h look =
    ap (after_answer l) (ap (option_and_then (answer_to (outcome_at l.requests))) h)
settled_look l None h look = absurd look
settled_look l (Some (Waits a)) h look = absurd look
settled_look l (Some (Searches q)) h look = absurd look
settled_look l (Some (Took k status)) h look = absurd look

settled_plain : (l : Local) → l.blocked ≡ None → after_settling l ≡ l
settled_plain l h = ap (after_answer l) (ap (option_and_then (answer_to (outcome_at l.requests))) h)

begins_look : (s : Source) (q : Probe) → IsLook (Some (probe_begun s q))
begins_look Any q = tt
begins_look (Rank r) q = tt
begins_look Null q = tt

pub peek_steps : (s : State) (e : Endpoint) (q : Probe) (xs : List Step) → (s.at e).blocked ≡ None →
    ((r : ℕ) → s.current r ≡ 0) → AreSteps (start s e (Some (Iprobe q))) e xs →
    (ys : List Step) × AreSteps s e ys × AllByRecursion IsUnseen ys
    × ((x : Endpoint) →
    (after_event s (At e None ys)).at x ≡ (after_event s (At e (Some (Iprobe q)) xs)).at x)
    × ((after_event s (At e None ys)).current ≡ (after_event s (At e (Some (Iprobe q)) xs)).current)
peek_steps s e q xs free never are =
    let k : Local = after_call e (s.at e) (Iprobe q) in
    let hides : Hides e (put s e k) s =
    record {
      here = same_local (s.at e) free ∙ ap unblocked (sym (at_put s e k));
      others = λ x g. ap (λ b. if b then k else s.at x) (sym g);
      current = refl;
    } in
    let ways =
    unseen_steps e xs (put s e k) s hides never
    (look_after s e k (begins_look q.source q)) are in (
      ways.0,
      ways.1,
      ways.2,
      same (steps_at (put s e k) e xs) (steps_at s e ways.0) ways.3 ways.4,
      ways.3.current,
    )
  where
    same_local : (l : Local) → l.blocked ≡ None → l ≡ unblocked l
    same_local l h = λ j. record l { blocked = h j }

    same : (seen plain : State) → Hides e seen plain → IsLook (seen.at e).blocked → (x : Endpoint) →
        (settle plain e).at x ≡ (settle seen e).at x
    same seen plain h look x = go (is_same x e) refl
      where
        go : (b : Bool) → is_same x e ≡ b →
            (if b then after_settling (plain.at e) else plain.at x)
            ≡ (if b then after_settling (seen.at e) else seen.at x)
        go true g =
            settled_plain (plain.at e) (ap (λ (l : Local). l.blocked) h.here) ∙ h.here
            ∙ sym (settled_look (seen.at e) (seen.at e).blocked refl look)
        go false g = h.others x g

-- ROWS STAY

step_fits : (x : Step) (row : Row) → IsUnseen x → StepFits row x
step_fits (Match k p earlier m later) row u = tt
step_fits (Finish k p m) row u = tt
step_fits (FinishSend k d) row u = tt
step_fits (Learn r i) row u = tt
step_fits (See q earlier m later) row u = absurd u
step_fits (TakeOut q earlier m later) row u = absurd u

step_counts : (places : Places) (x : Step) (e : Endpoint) (l : Local) (row : Row) → IsUnseen x →
    StepCounts places e l row x
step_counts places (Match k p earlier m later) e l row u = tt
step_counts places (Finish k p m) e l row u = tt
step_counts places (FinishSend k d) e l row u = tt
step_counts places (Learn r i) e l row u = tt
step_counts places (See q earlier m later) e l row u = absurd u
step_counts places (TakeOut q earlier m later) e l row u = absurd u

pub fits_unseen : (xs : List Step) (e : Endpoint) (rows : Rows) → AllByRecursion IsUnseen xs → StepsFit e rows xs
fits_unseen [] e rows u = tt
fits_unseen (x ∷ xs) e rows u =
    (step_fits x (rows e) u.0, fits_unseen xs e (with_row rows e (row_after_step (rows e) x)) u.1)

pub counts_unseen : (places : Places) (xs : List Step) (s : State) (e : Endpoint) (rows : Rows) →
    AllByRecursion IsUnseen xs → StepsCount places s e rows xs
counts_unseen places [] s e rows u = tt
counts_unseen places (x ∷ xs) s e rows u = (
  step_counts places x e (s.at e) (rows e) u.0,
  counts_unseen places xs (step_at s e x) e (with_row rows e (row_after_step (rows e) x)) u.1,
)

row_stays : (x : Step) (row : Row) → IsUnseen x → row_after_step row x ≡ row
row_stays (Match k p earlier m later) row u = refl
row_stays (Finish k p m) row u = refl
row_stays (FinishSend k d) row u = refl
row_stays (Learn r i) row u = refl
row_stays (See q earlier m later) row u = absurd u
row_stays (TakeOut q earlier m later) row u = absurd u

pub row_unseen : (rows : Rows) (e x : Endpoint) → with_row rows e (rows e) x ≡ rows x
row_unseen rows e x = go (is_same x e) refl
  where
    go : (b : Bool) → is_same x e ≡ b → (if b then rows e else rows x) ≡ rows x
    go true h = ap rows (sym (same_eq x e h))
    go false h = refl

pub rows_unseen : (xs : List Step) (rows : Rows) (e : Endpoint) → AllByRecursion IsUnseen xs → (x : Endpoint) →
    rows_after_steps rows e xs x ≡ rows x
rows_unseen [] rows e u x = refl
rows_unseen (y ∷ ys) rows e u x =
    rows_unseen ys (with_row rows e (row_after_step (rows e) y)) e u.1 x
    ∙ ap (λ row. with_row rows e row x) (row_stays y (rows e) u.0)
    ∙ row_unseen rows e x
