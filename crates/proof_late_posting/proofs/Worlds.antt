-- The world of the programs and that of their engines: each endpoint stays tied.
use Rattle.std.proofs.Common.{◌≡◌, ◌≢◌, ℕ, Bool, true, false, List, [], ◌∷◌, ◌++◌, length, map, Option, Some, None}
use Rattle.std.proofs.Common.{inl, inr, if◌then◌else◌, slice_get, slice_set, refl, sym, ap, ◌∙◌, subst, arith}
use Rattle.std.specs.Prelude.{option_map}
use Rattle.std.specs.List.{AllByRecursion}
use Rattle.std.proofs.lemmas.List.{map-append}
use Rattle.std.proofs.lemmas.Option.{none-some, same_Some}
use Rattle.perfect_queues.proofs.EndpointLemmas.{same_eq, same_refl}
use Rattle.perfect_queues.specs.Completions.{Looks, Saw, Searches, Took, Unanswered}
use Rattle.perfect_queues.specs.Messages.{Message}
use Rattle.perfect_queues.specs.Outcomes.{Sent, outcome, status_of}
use Rattle.perfect_queues.specs.Receives.{Receive, accepts, such_receive}
use Rattle.perfect_queues.specs.Requests.{Finished, Matched, Posted, Sending, TakenOut}
use Rattle.perfect_queues.specs.State.{Local, State, put}
use Rattle.perfect_queues.specs.Steps.{Allowed, AreSteps, Finish, FinishSend, IsMatched, Learn, Match, Possible, See}
use Rattle.perfect_queues.specs.Steps.{Step}
use Rattle.perfect_queues.specs.Steps.{TakeOut, after_step, step_at, steps_at}
use Rattle.proof_late_posting.proofs.Lists.{all_mapped, is_set, within}
use Rattle.proof_late_posting.proofs.Parts.{filed_without, queue_with}
use Rattle.proof_late_posting.proofs.Tied.{own_cases, taken_back, tied_more, tied_set, waiting_cases}
use Rattle.proof_late_posting.specs.Explored.{AreAlike, Rows, StepCounts, StepFits, StepsCount, StepsFit, row_after_step}
use Rattle.proof_late_posting.specs.Explored.{rows_after_steps, with_row}
use Rattle.proof_late_posting.specs.Places.{Places, StandApart, message_by, unanswered_by}
use Rattle.proof_late_posting.specs.Ties.{IsTied, NoneWants, Row}
use Rattle.vocabulary.specs.Endpoints.{is_same}
use Rattle.vocabulary.specs.declared.endpoint.Endpoint.{Endpoint}

pub at_put : (s : State) (e : Endpoint) (l : Local) → (put s e l).at e ≡ l
at_put s e l = rw (same_refl e) refl

module _ (places : Places) (rows : Rows) (own known : State) (a : AreAlike places rows own known) where
  pub put_tied : (e : Endpoint) (row : Row) (l k : Local) → IsTied places e row l k →
      AreAlike places (with_row rows e row) (put own e l) (put known e k)
  put_tied e row l k t =
      record { current = a.current; never_anew = a.never_anew; tied = λ x. go x (is_same x e) refl }
    where
      go : (x : Endpoint) (b : Bool) → is_same x e ≡ b →
          IsTied places x (if b then row else rows x) (if b then l else own.at x) (if b then k else known.at x)
      go x true h = subst (λ z. IsTied places z row l k) (sym (same_eq x e h)) t
      go x false h = a.tied x

  pub put_same : (e : Endpoint) (l k : Local) → IsTied places e (rows e) l k →
      AreAlike places rows (put own e l) (put known e k)
  put_same e l k t =
      record { current = a.current; never_anew = a.never_anew; tied = λ x. go x (is_same x e) refl }
    where
      go : (x : Endpoint) (b : Bool) → is_same x e ≡ b →
          IsTied places x (rows x) (if b then l else own.at x) (if b then k else known.at x)
      go x true h = subst (λ z. IsTied places z (rows z) l k) (sym (same_eq x e h)) t
      go x false h = a.tied x

  -- the engine's endpoint changes twice
  pub put_twice : (e : Endpoint) (row : Row) (l j k : Local) → IsTied places e row l k →
      AreAlike places (with_row rows e row) (put own e l) (put (put known e j) e k)
  put_twice e row l j k t =
      record { current = a.current; never_anew = a.never_anew; tied = λ x. go x (is_same x e) refl }
    where
      go : (x : Endpoint) (b : Bool) → is_same x e ≡ b →
          IsTied places x (if b then row else rows x) (if b then l else own.at x)
          (if b then k else (if b then j else known.at x))
      go x true h = subst (λ z. IsTied places z row l k) (sym (same_eq x e h)) t
      go x false h = a.tied x

  -- both change twice
  pub put_both_twice : (e : Endpoint) (row : Row) (i l j k : Local) → IsTied places e row l k →
      AreAlike places (with_row rows e row) (put (put own e i) e l) (put (put known e j) e k)
  put_both_twice e row i l j k t =
      record { current = a.current; never_anew = a.never_anew; tied = λ x. go x (is_same x e) refl }
    where
      go : (x : Endpoint) (b : Bool) → is_same x e ≡ b →
          IsTied places x (if b then row else rows x) (if b then l else (if b then i else own.at x))
          (if b then k else (if b then j else known.at x))
      go x true h = subst (λ z. IsTied places z row l k) (sym (same_eq x e h)) t
      go x false h = a.tied x

  -- the program's endpoint changes twice
  pub put_own_twice : (e : Endpoint) (row : Row) (i l k : Local) → IsTied places e row l k →
      AreAlike places (with_row rows e row) (put (put own e i) e l) (put known e k)
  put_own_twice e row i l k t =
      record { current = a.current; never_anew = a.never_anew; tied = λ x. go x (is_same x e) refl }
    where
      go : (x : Endpoint) (b : Bool) → is_same x e ≡ b →
          IsTied places x (if b then row else rows x) (if b then l else (if b then i else own.at x))
          (if b then k else known.at x)
      go x true h = subst (λ z. IsTied places z row l k) (sym (same_eq x e h)) t
      go x false h = a.tied x

  -- one of both changes alone
  pub put_known : (e : Endpoint) (row : Row) (k : Local) → IsTied places e row (own.at e) k →
      AreAlike places (with_row rows e row) own (put known e k)
  put_known e row k t =
      record { current = a.current; never_anew = a.never_anew; tied = λ x. go x (is_same x e) refl }
    where
      go : (x : Endpoint) (b : Bool) → is_same x e ≡ b →
          IsTied places x (if b then row else rows x) (own.at x) (if b then k else known.at x)
      go x true h = subst (λ z. IsTied places z row (own.at z) k) (sym (same_eq x e h)) t
      go x false h = a.tied x

  pub put_own : (e : Endpoint) (row : Row) (l : Local) → IsTied places e row l (known.at e) →
      AreAlike places (with_row rows e row) (put own e l) known
  put_own e row l t =
      record { current = a.current; never_anew = a.never_anew; tied = λ x. go x (is_same x e) refl }
    where
      go : (x : Endpoint) (b : Bool) → is_same x e ≡ b →
          IsTied places x (if b then row else rows x) (if b then l else own.at x) (known.at x)
      go x true h = subst (λ z. IsTied places z row l (known.at z)) (sym (same_eq x e h)) t
      go x false h = a.tied x

  pub put_own_same : (e : Endpoint) (l : Local) → IsTied places e (rows e) l (known.at e) →
      AreAlike places rows (put own e l) known
  put_own_same e l t =
      record { current = a.current; never_anew = a.never_anew; tied = λ x. go x (is_same x e) refl }
    where
      go : (x : Endpoint) (b : Bool) → is_same x e ≡ b →
          IsTied places x (rows x) (if b then l else own.at x) (known.at x)
      go x true h = subst (λ z. IsTied places z (rows z) l (known.at z)) (sym (same_eq x e h)) t
      go x false h = a.tied x

  pub row_same : (e : Endpoint) → AreAlike places (with_row rows e (rows e)) own known
  row_same e = record { current = a.current; never_anew = a.never_anew; tied = λ x. go x (is_same x e) refl }
    where
      go : (x : Endpoint) (b : Bool) → is_same x e ≡ b →
          IsTied places x (if b then rows e else rows x) (own.at x) (known.at x)
      go x true h =
          subst (λ z. IsTied places x (rows z) (own.at x) (known.at x)) (same_eq x e h) (a.tied x)
      go x false h = a.tied x

-- SENDS THAT WAIT FOR THEIR MATCH

other : (g : ℕ → ℕ) → ((j k : ℕ) → g j ≡ g k → j ≡ k) → (o : Option ℕ) (k : ℕ) → o ≢ Some k →
    option_map g o ≢ Some (g k)
other g apart None k ne h = none-some (g k) h
other g apart (Some j) k ne h = ne (ap (λ z. Some z) (apart j k (same_Some (g j) (g k) h)))

matched : (places : Places) → StandApart places → (rows : Rows) (own known : State) →
    AreAlike places rows own known → (e d : Endpoint) (k : ℕ) → IsMatched known e k d → IsMatched own e (places e k) d
matched places apart rows own known a e d k h =
    record {
      not_pending = λ c.
          subst
          (λ ms. AllByRecursion (λ m. m.request ≢ Some (places e k)) ms)
          (sym ((a.tied d).queue e c))
          (all_mapped
          (message_by (places e))
          (λ m. m.request ≢ Some k)
          (λ m. m.request ≢ Some (places e k))
          (λ m ne. other (places e) (apart e) m.request k ne)
          ((known.at d).queue e c)
          (h.not_pending c));
      not_taken_out = not_taken_out;
    }
  where
    not_taken_out : (j : ℕ) (g : Option (List ℕ)) (n : Message) →
        slice_get (own.at d).requests j ≡ Some (TakenOut g (Some n)) → n.sender ≡ e →
        n.request ≢ Some (places e k)
    not_taken_out j g n get from is =
        elim (own_cases places (places d) (apart d) (rows d) (own.at d).requests (known.at d).requests
        (a.tied d).requests j (TakenOut g (Some n)) get) [
          | inl c ↦ let clash : TakenOut g (Some n) ≡ Posted c.0 = c.2 in absurd cc
          | inr b ↦
              let back = taken_back places b.1 g n b.4 in
              let f : back.0.sender ≡ e = sym (ap (λ (z : Message). z.sender) back.2) ∙ from in
              other (places e) (apart e) back.0.request k
              (h.not_taken_out b.0 g back.0 (b.3 ∙ ap (λ z. Some z) back.1) f)
              (sym (ap (λ z. option_map (places z) back.0.request) f)
              ∙ sym (ap (λ (z : Message). z.request) back.2)
              ∙ is)
        ]

-- STEPS

pub unwanted : (places : Places) → StandApart places → (rows : Rows) (own known : State) →
    AreAlike places rows own known → (e : Endpoint) (m : Message) → NoneWants (rows e) (length (rows e)) m →
    ((j : ℕ) (p : Receive) → slice_get (known.at e).requests j ≡ Some (Posted p) → accepts p m ≡ false) →
    (j : ℕ) (p : Receive) → slice_get (own.at e).requests j ≡ Some (Posted p) → accepts p m ≡ false
unwanted places apart rows own known a e m none none_known j p h =
    elim (waiting_cases places (places e) (apart e) (rows e) (own.at e).requests (known.at e).requests
    (a.tied e).requests j p h) [
      | inl k ↦ none j p (within (rows e) j (Some p) k) k
      | inr b ↦ none_known b.0 p b.2
    ]

pub cut : (places : Places) (m : Message) (own known earlier later : List Message) →
    own ≡ map (message_by (places m.sender)) known →
    known ≡ earlier ++ m ∷ later →
    own ≡ map (message_by (places m.sender)) earlier ++ message_by (places m.sender) m
    ∷ map (message_by (places m.sender)) later
cut places m own known earlier later e f =
    e ∙ ap (map (message_by (places m.sender))) f ∙ map-append (message_by (places m.sender)) earlier (m ∷ later)

step_follows : (places : Places) → StandApart places → (rows : Rows) (own known : State) →
    AreAlike places rows own known → (e : Endpoint) (x : Step) → Allowed (known.at e) x → Possible known e x →
    StepFits (rows e) x → StepCounts places e (known.at e) (rows e) x →
    (y : Step) × Allowed (own.at e) y × Possible own e y
    × IsTied places e (row_after_step (rows e) x) (after_step (own.at e) y) (after_step (known.at e) x)
step_follows places apart rows own known a e (Match k p earlier m later) h possible fits count =
    let t = a.tied e in
    let s = t.requests.stands k (Posted p) h.pending in
    let get : slice_get (own.at e).requests (places e k) ≡ Some (Posted p) = s.1 ∙ ap (λ z. Some z) s.2 in
    let n : Message = message_by (places m.sender) m in
    let f : Message → Message = message_by (places m.sender) in (
      Match (places e k) p (map f earlier) n (map f later),
      record {
        pending = get;
        stands =
            cut places m ((own.at e).queue m.sender m.context) ((known.at e).queue m.sender m.context) earlier later
            (t.queue m.sender m.context) h.stands;
        accepted = h.accepted;
        no_earlier_receive = λ j q less g.
            elim (t.requests.order k p h.pending j q less g) [
              | inl b ↦ h.no_earlier_receive b.0 q b.1 b.3
              | inr unmet ↦ unmet m h.accepted
            ];
        no_earlier_message =
            all_mapped f (λ b. accepts p b ≡ false) (λ b. accepts p b ≡ false) (λ b u. u) earlier
            h.no_earlier_message;
      },
      tt,
      record {
        requests =
            tied_set places (places e) (apart e) (rows e) (own.at e).requests
            (slice_set (own.at e).requests (places e k) (Matched p n)) (known.at e).requests
            (slice_set (known.at e).requests k (Matched p m)) k (Posted p) (Matched p n) (Matched p m) t.requests
            h.pending (is_set (own.at e).requests (places e k) (Posted p) (Matched p n) get)
            (is_set (known.at e).requests k (Posted p) (Matched p m) h.pending) (p, n, refl, refl)
            (λ o g. absurd cc);
        blocked = t.blocked;
        learnt = t.learnt;
        queue =
            queue_with places (own.at e).queue (known.at e).queue t.queue m.sender m.context
            (map f earlier ++ map f later) (earlier ++ later) (sym (map-append f earlier later));
        limit = t.limit;
        filed = filed_without (known.at e).queue t.filed earlier m later h.stands;
      },
    )
step_follows places apart rows own known a e (Finish k q m) h possible fits count =
    let t = a.tied e in
    let s = t.requests.stands k (Matched q m) h in
    let get : slice_get (own.at e).requests (places e k) ≡ Some (Matched s.2.0 s.2.1) =
    s.1 ∙ ap (λ z. Some z) s.2.2 in (
      Finish (places e k) s.2.0 s.2.1,
      get,
      tt,
      record {
        requests =
            tied_set places (places e) (apart e) (rows e) (own.at e).requests
            (slice_set (own.at e).requests (places e k) (Finished (outcome s.2.0 s.2.1))) (known.at e).requests
            (slice_set (known.at e).requests k (Finished (outcome q m))) k (Matched q m)
            (Finished (outcome s.2.0 s.2.1)) (Finished (outcome q m)) t.requests h
            (is_set (own.at e).requests (places e k) (Matched s.2.0 s.2.1) (Finished (outcome s.2.0 s.2.1)) get)
            (is_set (known.at e).requests k (Matched q m) (Finished (outcome q m)) h) (ap (λ z. Finished z) s.2.3)
            (λ o g. absurd cc);
        blocked = t.blocked;
        learnt = t.learnt;
        queue = t.queue;
        limit = t.limit;
        filed = t.filed;
      },
    )
step_follows places apart rows own known a e (FinishSend k d) h possible fits count =
    let t = a.tied e in
    let s = t.requests.stands k (Sending d) h in
    let get : slice_get (own.at e).requests (places e k) ≡ Some (Sending d) = s.1 ∙ ap (λ z. Some z) s.2 in (
      FinishSend (places e k) d,
      get,
      matched places apart rows own known a e d k possible,
      record {
        requests =
            tied_set places (places e) (apart e) (rows e) (own.at e).requests
            (slice_set (own.at e).requests (places e k) (Finished Sent)) (known.at e).requests
            (slice_set (known.at e).requests k (Finished Sent)) k (Sending d)
            (Finished Sent) (Finished Sent) t.requests h
            (is_set (own.at e).requests (places e k) (Sending d) (Finished Sent) get)
            (is_set (known.at e).requests k (Sending d) (Finished Sent) h) refl
            (λ o g. absurd cc);
        blocked = t.blocked;
        learnt = t.learnt;
        queue = t.queue;
        limit = t.limit;
        filed = t.filed;
      },
    )
step_follows places apart rows own known a e (Learn r i) h possible fits count =
    let none : known.current r ≡ 0 = a.never_anew r in absurd (omega arith)
step_follows places apart rows own known a e (See q earlier m later) h possible fits count =
    let t = a.tied e in
    let n : Message = message_by (places m.sender) m in
    let f : Message → Message = message_by (places m.sender) in (
      See q (map f earlier) n (map f later),
      (
        t.blocked ∙ ap (option_map (unanswered_by (places e))) h.0,
        record {
          stands =
              cut places m ((own.at e).queue m.sender m.context) ((known.at e).queue m.sender m.context) earlier later
              (t.queue m.sender m.context) h.1.stands;
          accepted = h.1.accepted;
          no_receive = unwanted places apart rows own known a e m fits h.1.no_receive;
          no_earlier_message =
              all_mapped f (λ b. accepts (such_receive q) b ≡ false) (λ b. accepts (such_receive q) b ≡ false)
              (λ b u. u) earlier h.1.no_earlier_message;
        },
      ),
      tt,
      record {
        requests = t.requests;
        blocked = refl;
        learnt = t.learnt;
        queue = t.queue;
        limit = t.limit;
        filed = t.filed;
      },
    )
step_follows places apart rows own known a e (TakeOut q earlier m later) h possible fits count =
    let t = a.tied e in
    let n : Message = message_by (places m.sender) m in
    let f : Message → Message = message_by (places m.sender) in (
      TakeOut q (map f earlier) n (map f later),
      (
        t.blocked ∙ ap (option_map (unanswered_by (places e))) h.0,
        record {
          stands =
              cut places m ((own.at e).queue m.sender m.context) ((known.at e).queue m.sender m.context) earlier later
              (t.queue m.sender m.context) h.1.stands;
          accepted = h.1.accepted;
          no_receive = unwanted places apart rows own known a e m fits h.1.no_receive;
          no_earlier_message =
              all_mapped f (λ b. accepts (such_receive q) b ≡ false) (λ b. accepts (such_receive q) b ≡ false)
              (λ b u. u) earlier h.1.no_earlier_message;
        },
      ),
      tt,
      record {
        requests =
            tied_more places (places e) (apart e) (rows e) (own.at e).requests (known.at e).requests
            (TakenOut q.group (Some n)) (TakenOut q.group (Some m)) t.requests count refl (λ o g. absurd cc);
        blocked =
            ap (λ k. Some (Took (Some k) (status_of (such_receive q) m))) (t.requests.same_length ∙ sym count);
        learnt = t.learnt;
        queue =
            queue_with places (own.at e).queue (known.at e).queue t.queue m.sender m.context
            (map f earlier ++ map f later) (earlier ++ later) (sym (map-append f earlier later));
        limit = t.limit;
        filed = filed_without (known.at e).queue t.filed earlier m later h.1.stands;
      },
    )

pub steps_follow : (places : Places) → StandApart places → (e : Endpoint) (xs : List Step) (rows : Rows)
    (own known : State) →
    AreAlike places rows own known → AreSteps known e xs → StepsFit e rows xs → StepsCount places known e rows xs →
    (ys : List Step) × AreSteps own e ys
    × AreAlike places (rows_after_steps rows e xs) (steps_at own e ys) (steps_at known e xs)
steps_follow places apart e [] rows own known a h fits count = ([], tt, a)
steps_follow places apart e (x ∷ xs) rows own known a h fits count =
    let one = step_follows places apart rows own known a e x h.0 h.1 fits.0 count.0 in
    let rest =
    steps_follow places apart e xs (with_row rows e (row_after_step (rows e) x)) (step_at own e one.0)
    (step_at known e x)
    (put_tied places rows own known a e (row_after_step (rows e) x) (after_step (own.at e) one.0)
    (after_step (known.at e) x) one.3)
    h.2 fits.1 count.1
    in (one.0 ∷ rest.0, (one.1, one.2, rest.1), rest.2)

abbrev pub HasFound : Unanswered → Type 0
HasFound (Saw status) = Unit {0}
HasFound (Took k status) = Unit {0}
HasFound u = ⊥

-- while no call is blocked, steps block none
step_free : (x : Step) (l : Local) → l.blocked ≡ None → Allowed l x → (after_step l x).blocked ≡ None
step_free (Match k p earlier m later) l h a = h
step_free (Finish k p m) l h a = h
step_free (FinishSend k d) l h a = h
step_free (Learn r i) l h a = h
step_free (See q earlier m later) l h a = absurd (none-some (Looks q) (sym h ∙ a.0))
step_free (TakeOut q earlier m later) l h a = absurd (none-some (Searches q) (sym h ∙ a.0))

-- a probe that has found something finds nothing more
step_found : (x : Step) (l : Local) (u : Unanswered) → l.blocked ≡ Some u → HasFound u → Allowed l x →
    (after_step l x).blocked ≡ Some u
step_found (Match k p earlier m later) l u h f a = h
step_found (Finish k p m) l u h f a = h
step_found (FinishSend k d) l u h f a = h
step_found (Learn r i) l u h f a = h
step_found (See q earlier m later) l u h f a =
    absurd (subst HasFound (same_Some u (Looks q) (sym h ∙ a.0)) f)
step_found (TakeOut q earlier m later) l u h f a =
    absurd (subst HasFound (same_Some u (Searches q) (sym h ∙ a.0)) f)

pub steps_found : (e : Endpoint) (xs : List Step) (s : State) (u : Unanswered) → (s.at e).blocked ≡ Some u →
    HasFound u → AreSteps s e xs →
    ((steps_at s e xs).at e).blocked ≡ Some u
steps_found e [] s u h f a = h
steps_found e (x ∷ xs) s u h f a =
    steps_found e xs (step_at s e x) u
    (subst (λ (l : Local). l.blocked ≡ Some u) (sym (at_put s e (after_step (s.at e) x)))
    (step_found x (s.at e) u h f a.0))
    f a.2

pub steps_free : (e : Endpoint) (xs : List Step) (s : State) → (s.at e).blocked ≡ None → AreSteps s e xs →
    ((steps_at s e xs).at e).blocked ≡ None
steps_free e [] s h a = h
steps_free e (x ∷ xs) s h a =
    steps_free e xs (step_at s e x)
    (subst (λ (l : Local). l.blocked ≡ None) (sym (at_put s e (after_step (s.at e) x))) (step_free x (s.at e) h a.0))
    a.2
