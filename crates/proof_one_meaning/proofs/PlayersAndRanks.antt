-- A player stands as his rank does on the way to the one meaning.
use Rattle.std.proofs.Common.{◌≡◌, ℕ, Bool, true, false, ◌||◌, List, [], ◌∷◌, ◌++◌, length, Option}
use Rattle.std.proofs.Common.{Some, None, if◌then◌else◌, ◌==◌, slice_get, option_map, refl, sym, ap, ◌∙◌, subst}
use Rattle.std.proofs.Common.{arith}
use Rattle.std.proofs.lemmas.Option.{same_Some}
use Rattle.vocabulary.specs.MessageLimits.{least}
use Rattle.perfect_groups.specs.Calls.{Answer, ByCollective, ByRequests, Call, Cancel, Enter, Fact, Improbe, Inquire}
use Rattle.perfect_groups.specs.Calls.{Iprobe, Irecv, Isend, Mrecv, OfFact, OfRequests, Reply, Test, Wait, fact_of}
use Rattle.perfect_groups.specs.Calls.{held_at, in_world, queue_reply, receive_on}
use Rattle.perfect_groups.specs.Collectives.{part_of}
use Rattle.perfect_groups.specs.Communicators.{Communicator, first_endpoint}
use Rattle.perfect_groups.specs.Events.{Entry, as_reply}
use Rattle.perfect_groups.specs.Faults.{is_within, wrong_communicator, wrong_count, wrong_incarnation, wrong_operation}
use Rattle.perfect_groups.specs.Faults.{wrong_rank, wrong_request, wrong_root, wrong_tag, wrong_type}
use Rattle.perfect_groups.specs.Membership.{Membership}
use Rattle.perfect_queues.specs.Calls as queues
use Rattle.perfect_queues.specs.Calls.{Started}
use Rattle.perfect_queues.specs.Refusals.{first_fault, is_held, standing}
use Rattle.perfect_queues.specs.Requests.{all_changed}
use Rattle.one_meaning.specs.Accounts.{Account, Accounts, Answered, Waiting, after_call, after_group_part, answer_to}
use Rattle.one_meaning.specs.Accounts.{at_once, awaited_of, gone, judged, local_of, membership_of, opened, present_of}
use Rattle.one_meaning.specs.Courses.{Calls, Course, Courses, Lead, Process, RecordsAgree}
use Rattle.one_meaning.specs.Courses.{Replied, Step, Told, accounts, at_start, does, goes_by, goes_on}
use Rattle.one_meaning.specs.Courses.{goes_unless, hears, with_course}
use Rattle.proof_one_meaning.specs.AccountViews.{IsCovered, with_account}
use Rattle.proof_one_meaning.specs.Histories.{AgreeAlong, AreCovered, AreJustified, IsFit}
use Rattle.proof_one_meaning.specs.Histories.{Justifies, after_all, after_seen}
use Rattle.proof_one_meaning.specs.Histories.{once_called}
use Rattle.proof_one_meaning.specs.Plays.{Player, Players}
use Rattle.proof_one_meaning.specs.Plays.{is_blocking, told_by, with_player}
use Rattle.one_meaning.proofs.Courses.{Leads, all_grew, grew_both, went_on}
use Rattle.one_meaning.proofs.AnswerLaws.{AllGrew, Grew, grew_not, part_stays}

-- ONE MORE

pub lead_more : {P : Type 0} (next : Process P) (ways : List ℕ) (a b : Courses P) (r : ℕ) (c : Course P) →
    Lead next a ways b → goes_on next b r ≡ Some c → Lead next a (ways ++ r ∷ []) (with_course b r c)
lead_more next [] a b r c l g = subst (λ (x : Courses _). Lead next x (r ∷ []) (with_course b r c)) (sym l) (c, g, refl)
lead_more next (w ∷ ways) a b r c l g = (l.0, l.1, lead_more next ways (with_course a w l.0) b r c l.2 g)

pub after_more : (all : Accounts) (h : List Entry) (v : Entry) → after_all all (h ++ v ∷ []) ≡
    after_seen (after_all all h) v
after_more all [] v = refl
after_more all (y ∷ h) v = after_more (after_seen all y) h v

pub covered_more : (h : List Entry) (v : Entry) → AreCovered h → Rattle.proof_one_meaning.specs.Histories.IsCoveredEntry v →
    AreCovered (h ++ v ∷ [])
covered_more [] v c d = (d, tt)
covered_more (y ∷ h) v c d = (c.0, covered_more h v c.1 d)

pub justified_more : (all : Accounts) (h : List Entry) (v : Entry) → AreJustified all h → Justifies (after_all all h) v →
    AreJustified all (h ++ v ∷ [])
justified_more all [] v j k = (k, tt)
justified_more all (y ∷ h) v j k = (j.0, justified_more (after_seen all y) h v j.1 k)

pub justified_last : (all : Accounts) (h : List Entry) (v : Entry) → AreJustified all (h ++ v ∷ []) →
    Justifies (after_all all h) v
justified_last all [] v j = j.0
justified_last all (y ∷ h) v j = justified_last (after_seen all y) h v j.1

pub agree_more : (all : Accounts) (h : List Entry) (v : Entry) → AgreeAlong all h → AreJustified all h →
    (IsFit (after_all all h) v → RecordsAgree (once_called (after_all all h) v)) →
    (Justifies (after_all all h) v → RecordsAgree (after_seen (after_all all h) v)) → AgreeAlong all (h ++ v ∷ [])
agree_more all [] v a j f g = (f, λ k. (g k, tt))
agree_more all (y ∷ h) v a j f g = (a.0, λ k. ((a.1 k).0, agree_more (after_seen all y) h v (a.1 k).1 j.1 f g))

-- RECORDS ON THE WAY

lead_grew : {P : Type 0} (next : Process P) (ranks : List ℕ) (all end : Courses P) → Lead next all ranks end →
    AllGrew (accounts all) (accounts end)
lead_grew next [] all end l r =
    subst (λ (x : Courses _). Grew (all r).account (x r).account) l (grew_not (all r).account (all r).account refl refl)
lead_grew next (w ∷ ranks) all end l r =
    grew_both (all r).account (with_course all w l.0 r).account (end r).account
    (all_grew all w l.0 (went_on next all w l.0 l.1).account r)
    (lead_grew next ranks (with_course all w l.0) end l.2 r)

pub agree_before : {P : Type 0} (next : Process P) (all end : Courses P) → Leads next all end →
    RecordsAgree (accounts end) → RecordsAgree (accounts all)
agree_before next all end l agrees c k x y p q is it =
    agrees c k x y p q (part_stays (accounts all) (accounts end) (lead_grew next l.0 all end l.1) c k x p is)
    (part_stays (accounts all) (accounts end) (lead_grew next l.0 all end l.1) c k y q it)

pub accounts_with : {P : Type 0} (all : Courses P) (r : ℕ) (c : Course P) → accounts (with_course all r c) ≡
    with_account (accounts all) r c.account
accounts_with all r c = λ i x. at_rank x i
  where
    at_rank : (x : ℕ) → accounts (with_course all r c) x ≡ with_account (accounts all) r c.account x
    at_rank x = go (x == r)
      where
        go : (b : Bool) → (if b then c else all x).account ≡ (if b then c.account else (all x).account)
        go true = refl
        go false = refl

-- HOW RANKS GO ON

pub goes_step : {P : Type 0} (next : Process P) (all : Courses P) (r : ℕ) (step : Step) → (all r).ended ≡ false →
    (all r).account.waiting ≡ None → (next (all r).process (all r).told).0 ≡ step →
    goes_on next all r ≡ Some (does r (all r) (next (all r).process (all r).told).1 step)
goes_step next all r step runs idle is =
    ap (goes_unless next (accounts all) r (all r)) runs
    ∙ (ap (goes_by next (accounts all) r (all r)) idle
    ∙ ap (λ (s : Step). Some (does r (all r) (next (all r).process (all r).told).1 s)) is)

pub goes_answer : {P : Type 0} (next : Process P) (all : Courses P) (r : ℕ) (w : Waiting) (t : Answered) →
    (all r).ended ≡ false → (all r).account.waiting ≡ Some w → answer_to (accounts all) r (all r).account w ≡ Some t →
    goes_on next all r ≡ Some (hears (all r) t)
goes_answer next all r w t runs waits is =
    ap (goes_unless next (accounts all) r (all r)) runs
    ∙ (ap (goes_by next (accounts all) r (all r)) waits
    ∙ ap (option_map (hears (all r))) is)

-- whether a rank waits
abbrev pub is_waiting : Option Waiting → Bool
is_waiting None = false
is_waiting (Some w) = true

pub waits_not : (w : Option Waiting) → is_waiting w ≡ false → w ≡ None
waits_not None h = refl
waits_not (Some w) h = absurd (grind arith)

-- A PLAYER AND HIS RANK

pub record IsSame {P : Type 0} (c : Player P) (d : Course P) : Type 0 where
  pub process : c.process ≡ d.process
  pub told : c.told ≡ d.told
  pub blocked : c.blocked ≡ is_waiting d.account.waiting
  pub lines : c.lines ≡ d.lines
  pub ended : c.ended ≡ d.ended
  pub quiet : d.ended ≡ true → d.account.waiting ≡ None

pub same_at : {P : Type 0} (all : Players P) (ranks : Courses P) (r : ℕ) (c : Player P) (d : Course P) → IsSame c d →
    ((x : ℕ) → IsSame (all x) (ranks x)) → (x : ℕ) → IsSame (with_player all r c x) (with_course ranks r d x)
same_at all ranks r c d h others x = go (x == r)
  where
    go : (b : Bool) → IsSame (if b then c else all x) (if b then d else ranks x)
    go true = h
    go false = others x

-- what is known of a play so far: its ranks are on the way to the end, by the accounts of its history
pub record Matches {P : Type 0} (next : Process P) (Good : P → Type 0) (n : ℕ) (processes : ℕ → P) (all : Players P)
    (h : List Entry) (ranks : Courses P) : Type 0 where
  pub ways : List ℕ
  pub lead : Lead next (at_start n processes) ways ranks
  pub accounts_are : accounts ranks ≡ after_all (opened n) h
  pub same : (r : ℕ) → IsSame (all r) (ranks r)
  pub along : AgreeAlong (opened n) h
  pub justified : AreJustified (opened n) h
  pub covered : AreCovered h
  pub good : (r : ℕ) → Good (all r).process

-- processes that make covered calls alone, as long as they are good, and stay so
pub record StaysGood {P : Type 0} (next : Process P) (Good : P → Type 0) : Type 0 where
  pub stays : (p : P) (t : Option Told) → Good p → Good (next p t).1
  pub calls : (p : P) (t : Option Told) (call : Call) → Good p → (next p t).0 ≡ Calls call → IsCovered call

-- REPLIES

-- what a call answers at once is a request that was started, or a fact
pub at_once_is : (P : Reply → Type 0) → ((k : ℕ) → P (OfRequests (Started k))) → ((f : Fact) → P (OfFact f)) →
    (r : ℕ) (a : Account) (call : Call) (reply : Reply) → IsCovered call →
    at_once r a call ≡ Some reply → P reply
at_once_is P s f r a (Isend mode comm to tag from) reply c is = go (held_at (membership_of a) comm) is
  where
    go : (o : Option Communicator) →
        queue_reply (local_of r a) (option_map (λ c. queues.Isend mode c.context (in_world c to) tag from) o) ≡
        Some reply → P reply
    go None i = absurd (grind arith)
    go (Some d) i = subst P (same_Some (OfRequests (Started (length (all_changed gone a.started a.used)))) reply i)
        (s (length (all_changed gone a.started a.used)))
at_once_is P s f r a (Irecv comm source tag into) reply c is = go (held_at (membership_of a) comm) is
  where
    go : (o : Option Communicator) →
        queue_reply (local_of r a) (option_map (λ c. queues.Irecv (receive_on c source tag into)) o) ≡ Some reply →
        P reply
    go None i = absurd (grind arith)
    go (Some d) i = subst P (same_Some (OfRequests (Started (length (all_changed gone a.started a.used)))) reply i)
        (s (length (all_changed gone a.started a.used)))
at_once_is P s f r a (Wait w) reply c is = absurd (grind arith)
at_once_is P s f r a (Test x) reply c is = absurd c
at_once_is P s f r a (Cancel x) reply c is = absurd c
at_once_is P s f r a (Iprobe comm source tag) reply c is = absurd c
at_once_is P s f r a (Improbe comm source tag) reply c is = absurd c
at_once_is P s f r a (Mrecv message into) reply c is = absurd c
at_once_is P s f r a (Enter comm x) reply c is = absurd (grind arith)
at_once_is P s f r a (Inquire comm q) reply c is = go (held_at (membership_of a) comm) is
  where
    go : (o : Option Communicator) → option_map (λ c. OfFact (fact_of (first_endpoint r) (membership_of a) c q)) o ≡
        Some reply → P reply
    go None i = absurd (grind arith)
    go (Some d) i =
        subst P (same_Some (OfFact (fact_of (first_endpoint r) (membership_of a) d q)) reply i)
        (f (fact_of (first_endpoint r) (membership_of a) d q))

-- a reply that is told, and blocks nobody
pub record IsTold (reply : Reply) : Type 0 where
  pub told : told_by reply ≡ Some (Replied reply)
  pub free : is_blocking reply ≡ false

pub answer_told : (a : Answer) → IsTold (as_reply a)
answer_told (ByRequests a) = record { told = refl; free = refl }
answer_told (ByCollective o) = record { told = refl; free = refl }

-- A CALL THAT ISN'T ANSWERED AT ONCE IS WAITED FOR

or_second : (a b : Bool) (x y : ℕ) (rest : List (Bool × ℕ)) → first_fault ((a, x) ∷ (b, y) ∷ rest) ≡ None → b ≡ false
or_second true b x y rest h = absurd (grind arith)
or_second false true x y rest h = absurd (grind arith)
or_second false false x y rest h = refl

there_is : {A : Type 0} (o : Option A) → Rattle.std.specs.Prelude.is_none o ≡ false → (x : A) × (o ≡ Some x)
there_is None h = absurd (grind arith)
there_is (Some x) h = (x, refl)

-- a call without a fault names a communicator that is there
names_one : (r : ℕ) (a : Account) (call : Call) → judged r a call ≡ None → wrong_communicator (membership_of a) call ≡
    false
names_one r a call h = or_second (blocked || wrong) (wrong_communicator m call) 6 4 rest h
  where
    m : Membership
    m = membership_of a

    blocked : Bool
    blocked = is_held (awaited_of a.waiting) || is_within (present_of a.waiting)

    wrong : Bool
    wrong = wrong_request (λ k. standing (slice_get (local_of r a).requests k)) call

    rest : List (Bool × ℕ)
    rest =
        (wrong_type (first_endpoint r) m call, 2) ∷ (wrong_count least (first_endpoint r) m call, 1) ∷
        (wrong_tag call, 3) ∷
        (wrong_rank m call, 5) ∷ (wrong_root m call, 7) ∷
        (wrong_operation call, 9) ∷ (wrong_incarnation (local_of r a).known m call, 11) ∷ []

pub none_some : {A : Type 0} (x : A) → ◌≡◌ {A = Option A} (Some x) None → ⊥
none_some x e = grind arith

pub waits_then : (r : ℕ) (a : Account) (call : Call) → IsCovered call → judged r a call ≡ None → at_once r a call ≡ None →
    is_waiting (after_call r a call).waiting ≡ true
waits_then r a (Isend mode comm to tag from) c fit is =
    let d = there_is (held_at (membership_of a) comm) (names_one r a (Isend mode comm to tag from) fit) in
    absurd (none_some (OfRequests (Started (length (all_changed gone a.started a.used))))
    (sym (ap (λ (o : Option Communicator). queue_reply (local_of r a)
    (option_map (λ c. queues.Isend mode c.context (in_world c to) tag from) o)) d.1) ∙ is))
waits_then r a (Irecv comm source tag into) c fit is =
    let d = there_is (held_at (membership_of a) comm) (names_one r a (Irecv comm source tag into) fit) in
    absurd (none_some (OfRequests (Started (length (all_changed gone a.started a.used))))
    (sym (ap (λ (o : Option Communicator). queue_reply (local_of r a)
    (option_map (λ c. queues.Irecv (receive_on c source tag into)) o)) d.1) ∙ is))
waits_then r a (Wait w) c fit is = refl
waits_then r a (Test x) c fit is = absurd c
waits_then r a (Cancel x) c fit is = absurd c
waits_then r a (Iprobe comm source tag) c fit is = absurd c
waits_then r a (Improbe comm source tag) c fit is = absurd c
waits_then r a (Mrecv message into) c fit is = absurd c
waits_then r a (Enter comm x) c fit is =
    let d = there_is (held_at (membership_of a) comm) (names_one r a (Enter comm x) fit) in
    ap (λ (o : Option Communicator). is_waiting (after_group_part a (option_map (λ c. (c, part_of x)) o)).waiting) d.1
waits_then r a (Inquire comm q) c fit is = at_none (held_at (membership_of a) comm) refl is
  where
    at_none : (o : Option Communicator) → held_at (membership_of a) comm ≡ o →
        option_map (λ c. OfFact (fact_of (first_endpoint r) (membership_of a) c q)) o ≡ None →
        is_waiting (after_call r a (Inquire comm q)).waiting ≡ true
    at_none (Some d) u i = absurd (none_some (OfFact (fact_of (first_endpoint r) (membership_of a) d q)) i)
    at_none None u i =
        let wrong = or_false (Rattle.std.specs.Prelude.is_none (held_at (membership_of a) comm)) (Rattle.perfect_groups.specs.Faults.asks_of_none (membership_of a) q) (names_one r a (Inquire comm q) fit) in
        let e : true ≡ false = sym (ap Rattle.std.specs.Prelude.is_none u) ∙ wrong in
        absurd (grind arith)
      where
        or_false : (x y : Bool) → (x || y) ≡ false → x ≡ false
        or_false false y h = refl
        or_false true y h = absurd (grind arith)
