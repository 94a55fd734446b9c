-- Ranks that go on in whatever order come to the same end.
use Rattle.std.proofs.Common.{◌≡◌, ℕ, Bool, true, false, List, [], ◌∷◌, ◌++◌, Option, Some, None, if◌then◌else◌, ◌==◌}
use Rattle.std.proofs.Common.{option_map, refl, sym, ap, ◌∙◌, subst, append_assoc, append-nil, arith}
use Rattle.std.proofs.lemmas.Bool.{eqb-true, eq-eqb}
use Rattle.perfect_groups.specs.Calls.{ByCollective, Call, entry_of, queue_call}
use Rattle.perfect_groups.specs.Collectives.{Part}
use Rattle.perfect_groups.specs.Communicators.{Communicator, first_endpoint}
use Rattle.perfect_groups.specs.Membership.{Left, first_of, mine}
use Rattle.perfect_groups.specs.Results.{all_agree, all_parts, awaited, handed_to, is_making}
use Rattle.perfect_queues.specs.Calls as queues
use Rattle.perfect_queues.specs.Calls.{message_sent}
use Rattle.perfect_queues.specs.Completions as completions
use Rattle.perfect_queues.specs.Completions.{outcome_at}
use Rattle.perfect_queues.specs.Messages.{Message}
use Rattle.vocabulary.specs.declared.endpoint.Endpoint.{Endpoint}
use Rattle.one_meaning.specs.Accounts.{Account, Accounts, Answered, Entered, ForRequests, InCollective, Waiting}
use Rattle.one_meaning.specs.Accounts.{after_call, after_entry, after_group_part, after_queue_call, after_queue_part}
use Rattle.one_meaning.specs.Accounts.{answer_to, answered_leaving, answered_made, answered_making, answered_wait}
use Rattle.one_meaning.specs.Accounts.{drawn_by, entered_by, judged, leaves_if, leaves_with, local_of, made_by}
use Rattle.one_meaning.specs.Accounts.{membership_of, part_by, requests_of, wait_answer}
use Rattle.one_meaning.specs.Courses.{AreDone, AreMeant, Calls, Course, Courses, Ends, Lead, Prints, Process, Step}
use Rattle.one_meaning.specs.Courses.{accounts, at_start, called, does, goes_by, goes_on, goes_unless, hears}
use Rattle.one_meaning.specs.Courses.{with_course}
use Rattle.one_meaning.specs.CourseLaws.{EveryWayLeadsThere, IsOnTheWay, TheEndIsOne, by_telling}
use Rattle.one_meaning.proofs.AnswerLaws.{AllGrew, Grew, Stays, answer_stays, grew_not}

-- AN ACCOUNT GROWS

grew_sent : (sent : List (Endpoint × Message)) (o : Option (Endpoint × Message)) → (xs : List (Endpoint × Message)) ×
    (Rattle.one_meaning.specs.Accounts.with_sent sent o ≡ sent ++ xs)
grew_sent sent None = ([], sym (append-nil sent))
grew_sent sent (Some x) = (x ∷ [], refl)

pub grew_queue : (r : ℕ) (a : Account) (o : Option queues.Call) → Grew a (after_queue_part r a o)
grew_queue r a None = grew_not a a refl refl
grew_queue r a (Some (queues.Isend mode c to tag b)) =
    record {
      sent = grew_sent a.sent (message_sent (first_endpoint r) (local_of r a) (queues.Isend mode c to tag b));
      entered = ([], sym (append-nil a.entered));
    }
grew_queue r a (Some (queues.Irecv p)) =
    record { sent = ([], sym (append-nil a.sent)); entered = ([], sym (append-nil a.entered)) }
grew_queue r a (Some (queues.Wait w)) =
    record { sent = ([], sym (append-nil a.sent)); entered = ([], sym (append-nil a.entered)) }
grew_queue r a (Some (queues.Test x)) = grew_not a a refl refl
grew_queue r a (Some (queues.Cancel x)) = grew_not a a refl refl
grew_queue r a (Some (queues.Iprobe q)) = grew_not a a refl refl
grew_queue r a (Some (queues.Improbe q)) = grew_not a a refl refl
grew_queue r a (Some (queues.Mrecv k into)) = grew_not a a refl refl

grew_group : (a : Account) (o : Option (Communicator × Part)) → Grew a (after_group_part a o)
grew_group a None = grew_not a a refl refl
grew_group a (Some (c, p)) = record { sent = ([], sym (append-nil a.sent)); entered = (_, refl) }

pub grew_both : (a b c : Account) → Grew a b → Grew b c → Grew a c
grew_both a b c g h =
    record {
      sent = (
        g.sent.0 ++ h.sent.0,
        h.sent.1 ∙
            (ap (λ xs. xs ++ h.sent.0) g.sent.1 ∙ append_assoc a.sent g.sent.0 h.sent.0),
      );
      entered = (
        g.entered.0 ++ h.entered.0,
        h.entered.1 ∙
            (ap (λ xs. xs ++ h.entered.0) g.entered.1 ∙ append_assoc a.entered g.entered.0 h.entered.0),
      );
    }

pub grew_call : (r : ℕ) (a : Account) (call : Call) → Grew a (after_call r a call)
grew_call r a call =
    grew_both a (after_queue_part r a (queue_call (membership_of a) call)) (after_call r a call)
    (grew_queue r a (queue_call (membership_of a) call))
    (grew_group (after_queue_part r a (queue_call (membership_of a) call)) (entry_of (membership_of a) call))

-- an answer leaves what others see, and nothing is waited for any more
pub record IsLeft (a b : Account) : Type 0 where
  pub grew : Grew a b
  pub free : b.waiting ≡ None

abbrev pub Leaves : Account → Option Answered → Type 0
Leaves a o = (t : Answered) → o ≡ Some t → IsLeft a t.1

one_answer : (a : Account) (x : Answered) → IsLeft a x.1 → Leaves a (Some x)
one_answer a x g t is = let e : x ≡ t = cc in subst (λ (y : Answered). IsLeft a y.1) e g

no_answer : (a : Account) → Leaves a None
no_answer a t is = absurd (grind arith)

wait_leaves : (a : Account) (o : Option (completions.Answer × List ℕ)) → Leaves a (option_map (answered_wait a) o)
wait_leaves a None = no_answer a
wait_leaves a (Some x) =
    one_answer a (answered_wait a x) (record { grew = grew_not a (answered_wait a x).1 refl refl; free = refl })

making_grew : (a : Account) (drawn : ℕ) (o : Option Communicator) → IsLeft a (answered_making a drawn o).1
making_grew a drawn None = record { grew = grew_not a (answered_making a drawn None).1 refl refl; free = refl }
making_grew a drawn (Some c) = record { grew = grew_not a (answered_making a drawn (Some c)).1 refl refl; free = refl }

made_leaves : (r : ℕ) (a : Account) (c : Communicator) (p : Part) (ps : List Part) (x : Option Entered) →
    Leaves a (answered_made r a c p ps x)
made_leaves r a c p ps None = no_answer a
made_leaves r a c p ps (Some e) =
    one_answer a (answered_making a (drawn_by (first_endpoint r) c (made_by (first_endpoint r) c e.serial p ps))
    (mine (first_endpoint r) (made_by (first_endpoint r) c e.serial p ps)))
    (making_grew a (drawn_by (first_endpoint r) c (made_by (first_endpoint r) c e.serial p ps))
    (mine (first_endpoint r) (made_by (first_endpoint r) c e.serial p ps)))

leaving_leaves : (all : Accounts) (r : ℕ) (a : Account) (c : Communicator) (k : ℕ) (p : Part) (ps : List Part)
    (making : Bool) → Leaves a (answered_leaving all r a c k p ps making)
leaving_leaves all r a c k p ps false =
    one_answer a (
      ByCollective (Left (handed_to p.record_is (first_endpoint r) c.members ps p.record_is.kind)),
      record a { waiting = None },
    )
    (record { grew = grew_not a (record a { waiting = None }) refl refl; free = refl })
leaving_leaves all r a c k p ps true =
    made_leaves r a c p ps (entered_by all c.context k (first_of c.members (first_endpoint r)))

if_leaves : (a : Account) (b : Bool) (x : Option Answered) → Leaves a x → Leaves a (leaves_if b x)
if_leaves a true x h = h
if_leaves a false x h = no_answer a

with_leaves : (all : Accounts) (r : ℕ) (a : Account) (c : Communicator) (k : ℕ) (p : Part) (x : Option (List Part)) →
    Leaves a (leaves_with all r a c k p x)
with_leaves all r a c k p None = no_answer a
with_leaves all r a c k p (Some ps) =
    if_leaves a (all_agree p.record_is ps) (answered_leaving all r a c k p ps (is_making p.record_is.kind))
    (leaving_leaves all r a c k p ps (is_making p.record_is.kind))

pub answer_leaves : (all : Accounts) (r : ℕ) (a : Account) (w : Waiting) → Leaves a (answer_to all r a w)
answer_leaves all r a (ForRequests w) = wait_leaves a (wait_answer (outcome_at (requests_of all r a)) w)
answer_leaves all r a (InCollective c k p) =
    with_leaves all r a c k p
    (all_parts (part_by all c.context k) (awaited p.record_is.kind p.record_is.root (first_endpoint r) c.members))

-- A RANK GOES ON

-- what going on leaves of a rank: its account has grown, its lines too, and it hadn't ended
pub record WentOn {P : Type 0} (c d : Course P) : Type 0 where
  pub account : Grew c.account d.account
  pub lines : (rest : List (List ℕ)) × (d.lines ≡ c.lines ++ rest)
  pub ran : c.ended ≡ false

calls_on : {P : Type 0} (r : ℕ) (c : Course P) (p : P) (call : Call) (o : Option ℕ) → c.ended ≡ false →
    WentOn c (called r c p call o)
calls_on r c p call None e =
    record { account = grew_call r c.account call; lines = ([], sym (append-nil c.lines)); ran = e }
calls_on r c p call (Some x) e = record {
  account = grew_not c.account c.account refl refl;
  lines =
      ([], sym (append-nil c.lines));
  ran = e;
}

does_on : {P : Type 0} (r : ℕ) (c : Course P) (p : P) (s : Step) → c.ended ≡ false → WentOn c (does r c p s)
does_on r c p (Calls call) e = calls_on r c p call (judged r c.account call) e
does_on r c p (Prints line) e = record {
  account = grew_not c.account c.account refl refl;
  lines =
      (line ∷ [], refl);
  ran = e;
}
does_on r c p (Ends status) e = record {
  account = grew_not c.account c.account refl refl;
  lines =
      ([], sym (append-nil c.lines));
  ran = e;
}

one_course : {P : Type 0} (c x : Course P) → WentOn c x → (d : Course P) → Some x ≡ Some d → WentOn c d
one_course c x w d is = let e : x ≡ d = cc in subst (λ (y : Course _). WentOn c y) e w

hears_on : {P : Type 0} (c : Course P) (o : Option Answered) → Leaves c.account o → c.ended ≡ false →
    (d : Course P) → option_map (hears c) o ≡ Some d → WentOn c d
hears_on c None l e d is = absurd (grind arith)
hears_on c (Some t) l e d is =
    one_course c (hears c t) (record { account = (l t refl).grew; lines = ([], sym (append-nil c.lines)); ran = e }) d
    is

by_on : {P : Type 0} (next : Process P) (all : Accounts) (r : ℕ) (c : Course P) (w : Option Waiting) → c.ended ≡ false →
    (d : Course P) → goes_by next all r c w ≡ Some d → WentOn c d
by_on next all r c None e d is =
    one_course c (does r c (next c.process c.told).1 (next c.process c.told).0)
    (does_on r c (next c.process c.told).1 (next c.process c.told).0 e) d is
by_on next all r c (Some w) e d is = hears_on c (answer_to all r c.account w) (answer_leaves all r c.account w) e d is

unless_on : {P : Type 0} (next : Process P) (all : Accounts) (r : ℕ) (c : Course P) (b : Bool) → c.ended ≡ b →
    (d : Course P) → goes_unless next all r c b ≡ Some d → WentOn c d
unless_on next all r c true e d is = absurd (grind arith)
unless_on next all r c false e d is = by_on next all r c c.account.waiting e d is

pub went_on : {P : Type 0} (next : Process P) (all : Courses P) (r : ℕ) (d : Course P) → goes_on next all r ≡ Some d →
    WentOn (all r) d
went_on next all r d is = unless_on next (accounts all) r (all r) (all r).ended refl d is

-- TWO RANKS GO ON

-- a rank that goes on leaves the others as they are
course_other : {P : Type 0} (all : Courses P) (a b : ℕ) (y : Course P) →
    (a == b) ≡ false → with_course all b y a ≡ all a
course_other all a b y h = ap (λ (t : Bool). if t then y else all a) h

course_own : {P : Type 0} (all : Courses P) (b : ℕ) (y : Course P) → with_course all b y b ≡ y
course_own all b y = ap (λ (t : Bool). if t then y else all b) (eq-eqb b b refl)

pub all_grew : {P : Type 0} (all : Courses P) (b : ℕ) (y : Course P) → Grew (all b).account y.account →
    AllGrew (accounts all) (accounts (with_course all b y))
all_grew all b y g r = go (r == b) refl
  where
    go : (t : Bool) → (r == b) ≡ t → Grew (all r).account (if t then y else all r).account
    go true h = subst (λ (x : ℕ). Grew (all x).account y.account) (sym (eqb-true r b h)) g
    go false h = grew_not (all r).account (all r).account refl refl

hears_stays : {P : Type 0} (c : Course P) (x y : Option Answered) → Stays x y →
    Stays (option_map (hears c) x) (option_map (hears c) y)
hears_stays c None y h d is = absurd (grind arith)
hears_stays c (Some t) y h d is = ap (option_map (hears c)) (h t refl) ∙ is

by_stays : {P : Type 0} (next : Process P) (all all' : Accounts) → AllGrew all all' →
    (r : ℕ) (c : Course P) (w : Option Waiting) → Stays (goes_by next all r c w) (goes_by next all' r c w)
by_stays next all all' g r c None d is = is
by_stays next all all' g r c (Some w) d is =
    hears_stays c (answer_to all r c.account w) (answer_to all' r c.account w) (answer_stays all all' g r c.account w) d
    is

unless_stays : {P : Type 0} (next : Process P) (all all' : Accounts) → AllGrew all all' →
    (r : ℕ) (c : Course P) (b : Bool) → Stays (goes_unless next all r c b) (goes_unless next all' r c b)
unless_stays next all all' g r c true d is = is
unless_stays next all all' g r c false d is = by_stays next all all' g r c c.account.waiting d is

-- who may go on may still, once another one has gone on, and comes to the same
pub still_goes : {P : Type 0} (next : Process P) (all : Courses P) (a b : ℕ) (x y : Course P) →
    (a == b) ≡ false → goes_on next all a ≡ Some x → goes_on next all b ≡ Some y →
    goes_on next (with_course all b y) a ≡ Some x
still_goes next all a b x y h is other =
    ap (λ (c : Course _). goes_unless next (accounts (with_course all b y)) a c c.ended) (course_other all a b y h)
    ∙ unless_stays next (accounts all) (accounts (with_course all b y))
    (all_grew all b y (went_on next all b y other).account) a (all a) (all a).ended x is

-- and where both have gone on, it is no matter who was first
either_first : {P : Type 0} (all : Courses P) (a b : ℕ) (x y : Course P) →
    (a == b) ≡ false → with_course (with_course all b y) a x ≡ with_course (with_course all a x) b y
either_first all a b x y h = λ i r. at_rank r i
  where
    at_rank : (r : ℕ) → with_course (with_course all b y) a x r ≡ with_course (with_course all a x) b y r
    at_rank r = go (r == a) refl (r == b) refl
      where
        go : (s : Bool) → (r == a) ≡ s → (t : Bool) → (r == b) ≡ t →
            (if s then x else (if t then y else all r)) ≡ (if t then y else (if s then x else all r))
        go true p true q =
            let same : a ≡ b = sym (eqb-true r a p) ∙ eqb-true r b q in
            let k : (a == b) ≡ true = eq-eqb a b same in
            absurd (grind arith)
        go true p false q = refl
        go false p true q = refl
        go false p false q = refl

-- THE ONE END

-- the end is still to be reached
abbrev pub Leads : {P : Type 0} → Process P → Courses P → Courses P → Type 0
Leads next all end = (ranks : List ℕ) × Lead next all ranks end

same_course : {P : Type 0} (o : Option (Course P)) (x y : Course P) → o ≡ Some x → o ≡ Some y → x ≡ y
same_course o x y h k = let e : Some x ≡ Some y = sym h ∙ k in cc

-- a rank that goes on is still on the way to where the ranks come to
pub still_leads : {P : Type 0} (next : Process P) (ranks : List ℕ) (all end : Courses P) → Lead next all ranks end →
    AreDone next end → (a : ℕ) (x : Course P) →
    goes_on next all a ≡ Some x → Leads next (with_course all a x) end
still_leads next [] all end l done a x is =
    let k : None ≡ Some x = sym (done a) ∙ (ap (λ (c : Courses _). goes_on next c a) (sym l) ∙ is) in
    absurd (grind arith)
still_leads next (b ∷ rs) all end l done a x is =
    go (a == b) refl (still_leads next rs (with_course all b l.0) end l.2 done a x)
  where
    go : (t : Bool) → (a == b) ≡ t →
        (goes_on next (with_course all b l.0) a ≡ Some x → Leads next (with_course (with_course all b l.0) a x) end) →
        Leads next (with_course all a x) end
    go true h ih =
        let same : a ≡ b = eqb-true a b h in
        let here : goes_on next all b ≡ Some x = ap (goes_on next all) (sym same) ∙ is in (
          rs,
          subst (λ (c : Course _). Lead next (with_course all a c) rs end)
              (same_course (goes_on next all b) l.0 x l.1 here)
              (subst (λ (y : ℕ). Lead next (with_course all y l.0) rs end) (sym same) l.2),
        )
    go false h ih =
        let later = ih (still_goes next all a b x l.0 h is l.1) in
        let flip : (b == a) ≡ false = apart h in (
          b ∷ later.0,
          (
            l.0,
            still_goes next all b a l.0 x flip l.1 is,
            subst (λ (c : Courses _). Lead next c later.0 end) (either_first all a b x l.0 h) later.1,
          ),
        )
      where
        apart : (a == b) ≡ false → (b == a) ≡ false
        apart h = turn (b == a) refl
          where
            turn : (t : Bool) → (b == a) ≡ t → t ≡ false
            turn false k = refl
            turn true k = let j : (a == b) ≡ true = eq-eqb a b (sym (eqb-true b a k)) in absurd (grind arith)

pub always_leads : {P : Type 0} (next : Process P) (ways : List ℕ) (all now end : Courses P) → Leads next all end →
    AreDone next end → Lead next all ways now → Leads next now end
always_leads next [] all now end l done way = subst (λ (c : Courses _). Leads next c end) way l
always_leads next (a ∷ ways) all now end l done way =
    always_leads next ways (with_course all a way.0) now end (still_leads next l.0 all end l.1 done a way.0 way.1) done
    way.2

-- WHAT IS PRINTED ON THE WAY

on_the_way_at : {P : Type 0} (all : Courses P) (a r : ℕ) (c : Course P) (end : Course P) → WentOn (all a) c →
    IsOnTheWay (with_course all a c r) end → IsOnTheWay (all r) end
on_the_way_at all a r c end w o = go (r == a) refl o
  where
    go : (t : Bool) → (r == a) ≡ t → IsOnTheWay (if t then c else all r) end → IsOnTheWay (all r) end
    go false h o = o
    go true h o =
        subst (λ (x : ℕ). IsOnTheWay (all x) end) (sym (eqb-true r a h))
        (record {
          lines = (
            w.lines.0 ++ o.lines.0,
            o.lines.1 ∙
                (ap (λ (xs : List (List ℕ)). xs ++ o.lines.0) w.lines.1 ∙
                append_assoc (all a).lines w.lines.0 o.lines.0),
          );
          whole = λ e. let k : true ≡ false = sym e ∙ w.ran in absurd (grind arith);
        })

pub on_the_way : {P : Type 0} (next : Process P) (ranks : List ℕ) (all end : Courses P) → Lead next all ranks end →
    (r : ℕ) → IsOnTheWay (all r) (end r)
on_the_way next [] all end l r =
    record {
      lines = ([], ap (λ (c : Courses _). (c r).lines) (sym l) ∙ sym (append-nil (all r).lines));
      whole =
          λ e. ap (λ (c : Courses _). (c r).lines) (sym l);
    }
on_the_way next (a ∷ rs) all end l r =
    on_the_way_at all a r l.0 (end r) (went_on next all a l.0 l.1)
    (on_the_way next rs (with_course all a l.0) end l.2 r)

pub every_way_leads_there : EveryWayLeadsThere
every_way_leads_there f n ranks now end lead meant r =
    let rest = always_leads (by_telling f) ranks (at_start n (λ r. (r, []))) now end (meant.ranks, meant.lead) meant.done lead in
    on_the_way (by_telling f) rest.0 now end rest.1 r

-- THERE IS ONE END

-- where none may go on, ranks have come to the end
stands : {P : Type 0} (next : Process P) (ranks : List ℕ) (all end : Courses P) → AreDone next all →
    Lead next all ranks end → all ≡ end
stands next [] all end done l = l
stands next (r ∷ rs) all end done l = let k : None ≡ Some l.0 = sym (done r) ∙ l.1 in absurd (grind arith)

pub ends_are_one : {P : Type 0} (next : Process P) (n : ℕ) (processes : ℕ → P) (one other : Courses P) →
    AreMeant next n processes one → AreMeant next n processes other → one ≡ other
ends_are_one next n processes one other a b =
    let rest = always_leads next a.ranks (at_start n processes) one other (b.ranks, b.lead) b.done a.lead in
    stands next rest.0 one other a.done rest.1

pub the_end_is_one : TheEndIsOne
the_end_is_one f n one other = ends_are_one (by_telling f) n (λ r. (r, [])) one other
