-- The machine's queues are what accounts say, whatever steps are taken.
use Rattle.std.proofs.Common.{◌≡◌, ℕ, zero, suc, Bool, true, false, ◌&&◌, List, [], ◌∷◌, ◌++◌, length, Option, None}
use Rattle.std.proofs.Common.{Some, if◌then◌else◌, ◌==◌, slice_get, slice_set, refl, sym, ap, ◌∙◌, subst, append-nil}
use Rattle.std.proofs.Common.{arith}
use Rattle.std.proofs.lemmas.Bool.{eqb-true}
use Rattle.perfect_queues.specs.Completions.{Looks, Searches}
use Rattle.perfect_queues.specs.Messages.{Message}
use Rattle.perfect_queues.specs.Outcomes.{Outcome, Sent, outcome}
use Rattle.perfect_queues.specs.Receives.{Probe, Receive}
use Rattle.perfect_queues.specs.Requests.{Request, Posted, Matched, Sending, Finished, Gone, TakenOut, all_changed}
use Rattle.perfect_queues.specs.Requests.{changed, used_up}
use Rattle.perfect_queues.specs.State.{Local, with_queue}
use Rattle.perfect_queues.specs.Steps.{Allowed, Finish, FinishSend, Learn, Match, See, Step, TakeOut, after_step}
use Rattle.one_meaning.specs.Accounts.{Account, ForRequests, InCollective, Waiting, awaited_of, gone}
use Rattle.proof_one_meaning.specs.AccountViews.{HasQueues}
use Rattle.one_meaning.specs.PairLaws.{NamesRank, queues_of}
use Rattle.one_meaning.specs.Pairs.{Queues, became, left_by, pick, queue_from, resolved}
use Rattle.one_meaning.proofs.AnswerLaws.{Later}
use Rattle.one_meaning.proofs.PairLawProofs.{matches_keep}
use Rattle.one_meaning.proofs.Pairs.{Alike, resolved_alike}

-- REQUESTS THAT COME TO THE SAME

abbrev pub ComeToOne : Request → Request → Type 0
ComeToOne x y = (q : Queues) (rs : List Request) → resolved q (x ∷ rs) ≡ resolved q (y ∷ rs)

-- one in place of another
set_same : (x y : Request) → ComeToOne x y → (rs : List Request) (k : ℕ) → slice_get rs k ≡ Some x →
    (more : List Request) (q : Queues) →
    resolved q (slice_set rs k y ++ more) ≡ resolved q (rs ++ more)
set_same x y h [] k is more q = absurd (grind arith)
set_same x y h (z ∷ rs) zero is more q =
    let e : z ≡ x = cc in
    sym (h q (rs ++ more)) ∙ ap (λ (w : Request). resolved q (w ∷ rs ++ more)) (sym e)
set_same x y h (Posted p ∷ rs) (suc k) is more q =
    ap (λ (xs : List Request). became p (pick p (queue_from p.source q p.context)) ∷ xs)
    (set_same x y h rs k is more (left_by p.source p.context q (pick p (queue_from p.source q p.context))))
set_same x y h (Matched p m ∷ rs) (suc k) is more q =
    ap (λ (xs : List Request). Finished (outcome p m) ∷ xs) (set_same x y h rs k is more q)
set_same x y h (Sending d ∷ rs) (suc k) is more q =
    ap (λ (xs : List Request). Finished Sent ∷ xs) (set_same x y h rs k is more q)
set_same x y h (Finished o ∷ rs) (suc k) is more q =
    ap (λ (xs : List Request). Finished o ∷ xs) (set_same x y h rs k is more q)
set_same x y h (Gone ∷ rs) (suc k) is more q = ap (λ (xs : List Request). Gone ∷ xs) (set_same x y h rs k is more q)
set_same x y h (TakenOut g m ∷ rs) (suc k) is more q =
    ap (λ (xs : List Request). TakenOut g m ∷ xs) (set_same x y h rs k is more q)

-- one behind others
pub behind_same : (x y : Request) → ComeToOne x y → (rs more : List Request) (q : Queues) →
    resolved q (rs ++ x ∷ more) ≡ resolved q (rs ++ y ∷ more)
behind_same x y h [] more q = h q more
behind_same x y h (Posted p ∷ rs) more q =
    ap (λ (xs : List Request). became p (pick p (queue_from p.source q p.context)) ∷ xs)
    (behind_same x y h rs more (left_by p.source p.context q (pick p (queue_from p.source q p.context))))
behind_same x y h (Matched p m ∷ rs) more q =
    ap (λ (xs : List Request). Finished (outcome p m) ∷ xs) (behind_same x y h rs more q)
behind_same x y h (Sending d ∷ rs) more q = ap (λ (xs : List Request). Finished Sent ∷ xs) (behind_same x y h rs more q)
behind_same x y h (Finished o ∷ rs) more q = ap (λ (xs : List Request). Finished o ∷ xs) (behind_same x y h rs more q)
behind_same x y h (Gone ∷ rs) more q = ap (λ (xs : List Request). Gone ∷ xs) (behind_same x y h rs more q)
behind_same x y h (TakenOut g m ∷ rs) more q =
    ap (λ (xs : List Request). TakenOut g m ∷ xs) (behind_same x y h rs more q)

-- what is finished stays so
pub finished_stays : (rs : List Request) (q : Queues) → Later rs (resolved q rs)
finished_stays [] q k o is = is
finished_stays (Posted p ∷ rs) q zero o is = absurd (grind arith)
finished_stays (Posted p ∷ rs) q (suc k) o is =
    finished_stays rs (left_by p.source p.context q (pick p (queue_from p.source q p.context))) k o is
finished_stays (Matched p m ∷ rs) q zero o is = absurd (grind arith)
finished_stays (Matched p m ∷ rs) q (suc k) o is = finished_stays rs q k o is
finished_stays (Sending d ∷ rs) q zero o is = absurd (grind arith)
finished_stays (Sending d ∷ rs) q (suc k) o is = finished_stays rs q k o is
finished_stays (Finished x ∷ rs) q zero o is = is
finished_stays (Finished x ∷ rs) q (suc k) o is = finished_stays rs q k o is
finished_stays (Gone ∷ rs) q zero o is = is
finished_stays (Gone ∷ rs) q (suc k) o is = finished_stays rs q k o is
finished_stays (TakenOut g m ∷ rs) q zero o is = is
finished_stays (TakenOut g m ∷ rs) q (suc k) o is = finished_stays rs q k o is

-- STEPS

length_set : {A : Type 0} (xs : List A) (k : ℕ) (y : A) → length (slice_set xs k y) ≡ length xs
length_set [] k y = refl
length_set (x ∷ xs) zero y = refl
length_set (x ∷ xs) (suc k) y = ap suc (length_set xs k y)

-- what is written is no receive that waits, so those are as before
named_stays : (rs : List Request) (k : ℕ) (y : Request) → ((p : Receive) → y ≡ Posted p → ⊥) →
    ((j : ℕ) (p : Receive) → slice_get rs j ≡ Some (Posted p) → NamesRank p.source) → (j : ℕ) (p : Receive) →
    slice_get (slice_set rs k y) j ≡ Some (Posted p) → NamesRank p.source
named_stays [] k y not h j p is = h j p is
named_stays (x ∷ rs) zero y not h zero p is = let e : y ≡ Posted p = cc in absurd (not p e)
named_stays (x ∷ rs) zero y not h (suc j) p is = h (suc j) p is
named_stays (x ∷ rs) (suc k) y not h zero p is = h zero p is
named_stays (x ∷ rs) (suc k) y not h (suc j) p is = named_stays rs k y not (λ i r e. h (suc i) r e) j p is

not_posted : (o : Outcome) (p : Receive) → Finished o ≡ Posted p → ⊥
not_posted o p e = grind arith

matched_not : (x : Receive) (m : Message) (p : Receive) → Matched x m ≡ Posted p → ⊥
matched_not x m p e = grind arith

-- a request is finished with what it is to become
finish_keeps : (r : ℕ) (l : Local) (a : Account) (q : Queues) (k : ℕ) (x : Request) (o : Outcome) →
    ComeToOne x (Finished o) → slice_get l.requests k ≡ Some x →
    HasQueues r l a q → HasQueues r (record l { requests = slice_set l.requests k (Finished o) }) a q
finish_keeps r l a q k x o same is h =
    record {
      known = h.known;
      limit = h.limit;
      blocked = h.blocked;
      waits = h.waits;
      count = length_set l.requests k (Finished o) ∙ h.count;
      plain = record {
        named = named_stays l.requests k (Finished o) (not_posted o) h.plain.named;
        from_first =
            h.plain.from_first;
      };
      pairs = λ coming more. set_same x (Finished o) same l.requests k is more (queues_of l coming) ∙
          h.pairs coming more;
    }

-- no rank that waits probes
looks_not : (w : Option Waiting) (x : Probe) → awaited_of w ≡ Some (Looks x) → ⊥
looks_not None x e = grind arith
looks_not (Some (ForRequests w)) x e = grind arith
looks_not (Some (InCollective c k p)) x e = grind arith

searches_not : (w : Option Waiting) (x : Probe) → awaited_of w ≡ Some (Searches x) → ⊥
searches_not None x e = grind arith
searches_not (Some (ForRequests w)) x e = grind arith
searches_not (Some (InCollective c k p)) x e = grind arith

pub step_keeps : (r : ℕ) (l : Local) (a : Account) (q : Queues) (x : Step) → ((y i : ℕ) → x ≡ Learn y i → ⊥) →
    Allowed l x → HasQueues r l a q → HasQueues r (after_step l x) a q
step_keeps r l a q (Match k p earlier m later) n w h =
    record {
      known = h.known;
      limit = h.limit;
      blocked = h.blocked;
      waits = h.waits;
      count = length_set l.requests k (Matched p m) ∙ h.count;
      plain = record {
        named = named_stays l.requests k (Matched p m) (matched_not p m) h.plain.named;
        from_first =
            from;
      };
      pairs = λ coming more. sym (matches_keep l k p earlier m later h.plain w coming more) ∙ h.pairs coming more;
    }
  where
    stood : (e : List Message) → l.queue m.sender m.context ≡ e ++ m ∷ later → m.sender.incarnation ≡ 0
    stood [] e = h.plain.from_first m.sender.rank m.sender.incarnation m.context m later e
    stood (y ∷ ys) e = h.plain.from_first m.sender.rank m.sender.incarnation m.context y (ys ++ m ∷ later) e

    from : (x i c : ℕ) (z : Message) (ms : List Message) →
        with_queue l.queue m.sender m.context (earlier ++ later) (record { rank = x; incarnation = i }) c ≡ z ∷ ms →
        i ≡ 0
    from x i c z ms is = go (x == m.sender.rank) (i == m.sender.incarnation) refl (c == m.context) is
      where
        go : (b d : Bool) → (i == m.sender.incarnation) ≡ d → (f : Bool) →
            (if (b && d) && f then earlier ++ later else l.queue (record { rank = x; incarnation = i }) c) ≡ z ∷ ms →
            i ≡ 0
        go true true e true u = eqb-true i m.sender.incarnation e ∙ stood earlier w.stands
        go true true e false u = h.plain.from_first x i c z ms u
        go true false e f u = h.plain.from_first x i c z ms u
        go false d e f u = h.plain.from_first x i c z ms u
step_keeps r l a q (Finish k p m) n w h = finish_keeps r l a q k (Matched p m) (outcome p m) (λ q rs. refl) w h
step_keeps r l a q (FinishSend k d) n w h = finish_keeps r l a q k (Sending d) Sent (λ q rs. refl) w h
step_keeps r l a q (Learn y i) n w h = absurd (n y i refl)
step_keeps r l a q (See x earlier m later) n w h = absurd (looks_not a.waiting x (sym h.blocked ∙ w.0))
step_keeps r l a q (TakeOut x earlier m later) n w h = absurd (searches_not a.waiting x (sym h.blocked ∙ w.0))

-- ANSWERS

-- the same where queues are the same
pub queues_alike : (r : ℕ) (l : Local) (a : Account) (q q' : Queues) → Alike q q' → HasQueues r l a q →
    HasQueues r l a q'
queues_alike r l a q q' e h =
    record {
      known = h.known;
      limit = h.limit;
      blocked = h.blocked;
      waits = h.waits;
      count = h.count;
      plain = h.plain;
      pairs = λ coming more.
          h.pairs coming more
          ∙ ap (λ (rs : List Request). all_changed gone rs a.used)
          (resolved_alike (a.started ++ more) (λ s c. q s c ++ coming s c) (λ s c. q' s c ++ coming s c)
          (λ s c. ap (λ (ms : List Message). ms ++ coming s c) (e s c)));
    }

nothing : Queues
nothing s c = []

-- what is finished at a rank is so by its account
pub finished_known : (r : ℕ) (l : Local) (a : Account) (q : Queues) → HasQueues r l a q →
    Later l.requests (all_changed gone (resolved q a.started) a.used)
finished_known r l a q h k o is =
    subst (λ (rs : List Request). slice_get rs k ≡ Some (Finished o)) same
    (finished_stays l.requests (queues_of l (λ s c. [])) k o is)
  where
    same : resolved (queues_of l (λ s c. [])) l.requests ≡ all_changed gone (resolved q a.started) a.used
    same =
        ap (resolved (queues_of l (λ s c. []))) (sym (append-nil l.requests))
        ∙ (h.pairs (λ s c. []) []
        ∙ (ap (λ (rs : List Request). all_changed gone (resolved (λ s c. q s c ++ []) rs) a.used) (append-nil a.started)
        ∙ ap (λ (rs : List Request). all_changed gone rs a.used)
        (resolved_alike a.started (λ s c. q s c ++ []) q (λ s c. append-nil (q s c)))))

-- a request whose outcome is answered
pub data IsOver (rs : List Request) (k : ℕ) : Type 0 where
  HasEnded : (o : Outcome) → slice_get rs k ≡ Some (Finished o) → IsOver rs k
  IsGone : slice_get rs k ≡ Some Gone → IsOver rs k

abbrev pub AreOver : List Request → List ℕ → Type 0
AreOver rs [] = Unit {0}
AreOver rs (k ∷ ks) = IsOver rs k × AreOver rs ks

used_gone : (rs : List Request) (k : ℕ) → IsOver rs k → (more : List Request) (q : Queues) →
    resolved q (changed used_up rs k ++ more) ≡ changed gone (resolved q (rs ++ more)) k
used_gone [] k (HasEnded o is) more q = absurd (grind arith)
used_gone [] k (IsGone is) more q = absurd (grind arith)
used_gone (x ∷ rs) zero (HasEnded o is) more q =
    let e : x ≡ Finished o = cc in
    subst (λ (y : Request). resolved q (used_up y ∷ rs ++ more) ≡ changed gone (resolved q (y ∷ rs ++ more)) zero)
    (sym e) refl
used_gone (x ∷ rs) zero (IsGone is) more q =
    let e : x ≡ Gone = cc in
    subst (λ (y : Request). resolved q (used_up y ∷ rs ++ more) ≡ changed gone (resolved q (y ∷ rs ++ more)) zero)
    (sym e) refl
used_gone (Posted p ∷ rs) (suc k) over more q =
    ap (λ (xs : List Request). became p (pick p (queue_from p.source q p.context)) ∷ xs)
    (used_gone rs k (less over) more (left_by p.source p.context q (pick p (queue_from p.source q p.context))))
  where
    less : IsOver (Posted p ∷ rs) (suc k) → IsOver rs k
    less (HasEnded o is) = HasEnded o is
    less (IsGone is) = IsGone is
used_gone (Matched p m ∷ rs) (suc k) (HasEnded o is) more q =
    ap (λ (xs : List Request). Finished (outcome p m) ∷ xs) (used_gone rs k (HasEnded o is) more q)
used_gone (Matched p m ∷ rs) (suc k) (IsGone is) more q =
    ap (λ (xs : List Request). Finished (outcome p m) ∷ xs) (used_gone rs k (IsGone is) more q)
used_gone (Sending d ∷ rs) (suc k) (HasEnded o is) more q =
    ap (λ (xs : List Request). Finished Sent ∷ xs) (used_gone rs k (HasEnded o is) more q)
used_gone (Sending d ∷ rs) (suc k) (IsGone is) more q =
    ap (λ (xs : List Request). Finished Sent ∷ xs) (used_gone rs k (IsGone is) more q)
used_gone (Finished x ∷ rs) (suc k) (HasEnded o is) more q =
    ap (λ (xs : List Request). Finished x ∷ xs) (used_gone rs k (HasEnded o is) more q)
used_gone (Finished x ∷ rs) (suc k) (IsGone is) more q =
    ap (λ (xs : List Request). Finished x ∷ xs) (used_gone rs k (IsGone is) more q)
used_gone (Gone ∷ rs) (suc k) (HasEnded o is) more q =
    ap (λ (xs : List Request). Gone ∷ xs) (used_gone rs k (HasEnded o is) more q)
used_gone (Gone ∷ rs) (suc k) (IsGone is) more q =
    ap (λ (xs : List Request). Gone ∷ xs) (used_gone rs k (IsGone is) more q)
used_gone (TakenOut g m ∷ rs) (suc k) (HasEnded o is) more q =
    ap (λ (xs : List Request). TakenOut g m ∷ xs) (used_gone rs k (HasEnded o is) more q)
used_gone (TakenOut g m ∷ rs) (suc k) (IsGone is) more q =
    ap (λ (xs : List Request). TakenOut g m ∷ xs) (used_gone rs k (IsGone is) more q)

-- what is over stays so once another one was answered
still_over : (rs : List Request) (j k : ℕ) → IsOver rs k → IsOver (changed used_up rs j) k
still_over [] j k h = h
still_over (x ∷ rs) zero zero (HasEnded o is) =
    let e : x ≡ Finished o = cc in IsGone (ap (λ (y : Request). Some (used_up y)) e)
still_over (x ∷ rs) zero zero (IsGone is) = let e : x ≡ Gone = cc in IsGone (ap (λ (y : Request). Some (used_up y)) e)
still_over (x ∷ rs) zero (suc k) (HasEnded o is) = HasEnded o is
still_over (x ∷ rs) zero (suc k) (IsGone is) = IsGone is
still_over (x ∷ rs) (suc j) zero (HasEnded o is) = HasEnded o is
still_over (x ∷ rs) (suc j) zero (IsGone is) = IsGone is
still_over (x ∷ rs) (suc j) (suc k) (HasEnded o is) = behind (still_over rs j k (HasEnded o is))
  where
    behind : IsOver (changed used_up rs j) k → IsOver (x ∷ changed used_up rs j) (suc k)
    behind (HasEnded o is) = HasEnded o is
    behind (IsGone is) = IsGone is
still_over (x ∷ rs) (suc j) (suc k) (IsGone is) = behind (still_over rs j k (IsGone is))
  where
    behind : IsOver (changed used_up rs j) k → IsOver (x ∷ changed used_up rs j) (suc k)
    behind (HasEnded o is) = HasEnded o is
    behind (IsGone is) = IsGone is

still_all_over : (rs : List Request) (j : ℕ) (ks : List ℕ) → AreOver rs ks → AreOver (changed used_up rs j) ks
still_all_over rs j [] h = tt
still_all_over rs j (k ∷ ks) h = (still_over rs j k h.0, still_all_over rs j ks h.1)

pub all_used_gone : (ks : List ℕ) (rs : List Request) → AreOver rs ks → (more : List Request) (q : Queues) →
    resolved q (all_changed used_up rs ks ++ more) ≡ all_changed gone (resolved q (rs ++ more)) ks
all_used_gone [] rs h more q = refl
all_used_gone (k ∷ ks) rs h more q =
    all_used_gone ks (changed used_up rs k) (still_all_over rs k ks h.1) more q
    ∙ ap (λ (xs : List Request). all_changed gone xs ks) (used_gone rs k h.0 more q)

pub changed_append : {A : Type 0} (f : A → A) (xs : List A) (js ks : List ℕ) → all_changed f xs (js ++ ks) ≡
    all_changed f (all_changed f xs js) ks
changed_append f xs [] ks = refl
changed_append f xs (j ∷ js) ks = changed_append f (changed f xs j) js ks
