-- The laws of pairs.
use Rattle.std.proofs.Common.{◌≡◌, ℕ, zero, suc, Bool, true, false, ◌&&◌, List, [], ◌∷◌, ◌++◌, Some, None}
use Rattle.std.proofs.Common.{if◌then◌else◌, ◌==◌, slice_get, refl, sym, ap, ap₂, ◌∙◌, subst, append_assoc, arith}
use Rattle.std.proofs.lemmas.Bool.{eqb-true, eq-eqb, and_parts, and_from}
use Rattle.perfect_queues.specs.Messages.{Message}
use Rattle.perfect_queues.specs.Outcomes.{Outcome}
use Rattle.perfect_queues.specs.Receives.{Receive, has_tag, is_from}
use Rattle.perfect_queues.specs.Requests.{Request, Posted, Matched, Sending, Finished, Gone, TakenOut}
use Rattle.perfect_queues.specs.State.{Local}
use Rattle.perfect_queues.specs.Steps.{Match, after_step}
use Rattle.vocabulary.specs.declared.endpoint.Endpoint.{Endpoint}
use Rattle.vocabulary.specs.declared.envelope.Source.{Source}
use Rattle.vocabulary.specs.declared.envelope.Source.TheVariants.{Any, Rank, Null}
use Rattle.one_meaning.specs.Pairs.{Queues, pick, queue_from, resolved, with_left}
use Rattle.one_meaning.specs.PairLaws.{IsPlain, MatchesKeepPairs, MoreKeepsPairs, NamesRank, first, queues_of}
use Rattle.one_meaning.proofs.QueueLaws.{FindsLater, Found, NowOne, StillNone, finds_later, still_picked}
use Rattle.one_meaning.proofs.Pairs.{Differs, behind_one, match_keeps}

-- THE SENDER OF A MATCHED MESSAGE

-- whom a receive names that accepts a message
named_sender : (s : Source) (r : ℕ) → NamesRank s → is_from s r ≡ true → s ≡ Rank r
named_sender Any r n h = absurd n
named_sender (Rank x) r n h = ap Rank (eqb-true x r h)
named_sender Null r n h = absurd n

-- a queue with a message in it is of a first endpoint
from_first : (l : Local) → IsPlain l → (s : Endpoint) (c : ℕ) (e : List Message) (m : Message) (r : List Message) →
    l.queue s c ≡ e ++ m ∷ r → s.incarnation ≡ 0
from_first l plain s c [] m r h = plain.from_first s.rank s.incarnation c m r h
from_first l plain s c (x ∷ e) m r h = plain.from_first s.rank s.incarnation c x (e ++ m ∷ r) h

three_false : (a b c : Bool) → (a && c) ≡ false → ((a && b) && c) ≡ false
three_false true true c h = h
three_false true false c h = refl
three_false false b c h = refl

pub matches_keep : MatchesKeepPairs
matches_keep l k p earlier m later plain a coming more =
    match_keeps l.requests k p m m.sender.rank m.context from on a.accepted a.pending a.no_earlier_receive more
    (queues_of l coming)
    (queues_of (after_step l (Match k p earlier m later)) coming) earlier (later ++ coming m.sender.rank m.context)
    differs a.no_earlier_message
  where
    tests : ((p.context == m.context) ≡ true) × ((is_from p.source m.sender.rank && has_tag p.tag m.tag) ≡ true)
    tests = and_parts (p.context == m.context) (is_from p.source m.sender.rank && has_tag p.tag m.tag) a.accepted

    on : p.context ≡ m.context
    on = eqb-true p.context m.context tests.0

    from : p.source ≡ Rank m.sender.rank
    from =
        named_sender p.source m.sender.rank (plain.named k p a.pending)
        (and_parts (is_from p.source m.sender.rank) (has_tag p.tag m.tag) tests.1).0

    never : m.sender.incarnation ≡ 0
    never = from_first l plain m.sender m.context earlier m later a.stands

    own : ((m.sender.rank == m.sender.rank) && (0 == m.sender.incarnation)) && (m.context == m.context) ≡ true
    own =
        and_from ((m.sender.rank == m.sender.rank) && (0 == m.sender.incarnation)) (m.context == m.context)
        (and_from (m.sender.rank == m.sender.rank) (0 == m.sender.incarnation) (eq-eqb m.sender.rank m.sender.rank refl)
        (eq-eqb 0 m.sender.incarnation (sym never)))
        (eq-eqb m.context m.context refl)

    differs : Differs (queues_of l coming) (queues_of (after_step l (Match k p earlier m later)) coming) m.sender.rank
        m.context earlier m (later ++ coming m.sender.rank m.context)
    differs =
        record {
          with_it =
              ap (λ (i : ℕ). l.queue (record { rank = m.sender.rank; incarnation = i }) m.context ++
              coming m.sender.rank m.context) (sym never)
              ∙ (ap (λ (ms : List Message). ms ++ coming m.sender.rank m.context) a.stands ∙
              append_assoc earlier (m ∷ later) (coming m.sender.rank m.context));
          without =
              ap (λ (b : Bool). (if b then earlier ++ later else l.queue (first m.sender.rank) m.context) ++
              coming m.sender.rank m.context) own
              ∙ append_assoc earlier later (coming m.sender.rank m.context);
          others = λ x y h.
              ap (λ (b : Bool). (if b then earlier ++ later else l.queue (first x) y) ++ coming x y)
              (sym (three_false (x == m.sender.rank) (0 == m.sender.incarnation) (y == m.context) h));
        }

-- MORE MESSAGES

-- queues that have more behind others
abbrev Extends : Queues → Queues → Type 0
Extends q q' = (r c : ℕ) → (more : List Message) × (q' r c ≡ q r c ++ more)

same_extends : (r c : ℕ) (ms more : List Message) (q q' : Queues) → Extends q q' →
    Extends (with_left q r c ms) (with_left q' r c (ms ++ more))
same_extends r c ms more q q' h x y = go ((x == r) && (y == c))
  where
    go : (b : Bool) → (z : List Message) × ((if b then ms ++ more else q' x y) ≡ (if b then ms else q x y) ++ z)
    go true = (more, refl)
    go false = h x y

-- a queue whose message is one that came later still has all others in front
later_extends : (r c : ℕ) (rest : List Message) (q q' : Queues) → Extends q q' →
    Extends q (with_left q' r c (q r c ++ rest))
later_extends r c rest q q' h x y = go ((x == r) && (y == c)) refl
  where
    go : (b : Bool) → ((x == r) && (y == c)) ≡ b →
        (z : List Message) × ((if b then q r c ++ rest else q' x y) ≡ q x y ++ z)
    go true t =
        let parts = and_parts (x == r) (y == c) t in
        (rest, ap (λ (ms : List Message). ms ++ rest) (sym (ap₂ q (eqb-true x r parts.0) (eqb-true y c parts.1))))
    go false t = h x y

abbrev Ends : List Request → (k : ℕ) → Outcome → Type 0
Ends rs k o = slice_get rs k ≡ Some (Finished o)

-- the same of the requests behind one
abbrev LaterEnds : (rs : List Request) (more : List Request) → Type 0
LaterEnds rs more = (q q' : Queues) → Extends q q' → (k : ℕ) (o : Outcome) → Ends (resolved q rs) k o →
    Ends (resolved q' (rs ++ more)) k o

posted_ends : (p : Receive) (rs more : List Request) → LaterEnds rs more → (s : Source) (c : ℕ) (q q' : Queues) →
    Extends q q' → (k : ℕ) (o : Outcome) →
    Ends (behind_one p s c q rs (pick p (queue_from s q c))) k o →
    Ends (behind_one p s c q' (rs ++ more) (pick p (queue_from s q' c))) k o
posted_ends p rs more ih Any c q q' h zero o is = absurd (grind arith)
posted_ends p rs more ih Any c q q' h (suc k) o is = ih q q' h k o is
posted_ends p rs more ih Null c q q' h zero o is = absurd (grind arith)
posted_ends p rs more ih Null c q q' h (suc k) o is = ih q q' h k o is
posted_ends p rs more ih (Rank r) c q q' h k o is = go (pick p (q r c)) refl
  where
    extra : List Message
    extra = (h r c).0

    goes : Found → List Request
    goes f = behind_one p (Rank r) c q' (rs ++ more) f

    same : (x : Message) (rest : List Message) (k : ℕ) → Ends (behind_one p (Rank r) c q rs (Some (x, rest))) k o →
        Ends (goes (Some (x, rest ++ extra))) k o
    same x rest zero i = i
    same x rest (suc k) i =
        ih (with_left q r c rest) (with_left q' r c (rest ++ extra)) (same_extends r c rest extra q q' h) k o i

    waits : (k : ℕ) → Ends (Posted p ∷ resolved q rs) k o → (f : FindsLater p (q r c) extra) →
        Ends (goes (pick p (q r c ++ extra))) k o
    waits zero i f = absurd (grind arith)
    waits (suc k) i (StillNone u) = subst (λ (f : Found). Ends (goes f) (suc k) o) (sym u) (ih q q' h k o i)
    waits (suc k) i (NowOne x rest u) =
        subst (λ (f : Found). Ends (goes f) (suc k) o) (sym u)
        (ih q (with_left q' r c (q r c ++ rest)) (later_extends r c rest q q' h) k o i)

    go : (f : Found) → pick p (q r c) ≡ f → Ends (goes (pick p (q' r c))) k o
    go None u =
        subst (λ (ms : List Message). Ends (goes (pick p ms)) k o) (sym (h r c).1)
        (waits k (subst (λ (f : Found). Ends (behind_one p (Rank r) c q rs f) k o) u is)
        (finds_later p (q r c) extra u))
    go (Some (x, rest)) u =
        subst (λ (ms : List Message). Ends (goes (pick p ms)) k o) (sym (h r c).1)
        (subst (λ (f : Found). Ends (goes f) k o) (sym (still_picked p (q r c) extra x rest u))
        (same x rest k (subst (λ (f : Found). Ends (behind_one p (Rank r) c q rs f) k o) u is)))

nothing_ends : (k : ℕ) (o : Outcome) → Ends [] k o → ⊥
nothing_ends k o h = grind arith

pub later_ends : (rs more : List Request) → LaterEnds rs more
later_ends [] more q q' h k o is = absurd (nothing_ends k o is)
later_ends (Posted p ∷ rs) more q q' h k o is =
    posted_ends p rs more (later_ends rs more) p.source p.context q q' h k o is
later_ends (Matched p m ∷ rs) more q q' h zero o is = is
later_ends (Matched p m ∷ rs) more q q' h (suc k) o is = later_ends rs more q q' h k o is
later_ends (Sending d ∷ rs) more q q' h zero o is = is
later_ends (Sending d ∷ rs) more q q' h (suc k) o is = later_ends rs more q q' h k o is
later_ends (Finished x ∷ rs) more q q' h zero o is = is
later_ends (Finished x ∷ rs) more q q' h (suc k) o is = later_ends rs more q q' h k o is
later_ends (Gone ∷ rs) more q q' h zero o is = is
later_ends (Gone ∷ rs) more q q' h (suc k) o is = later_ends rs more q q' h k o is
later_ends (TakenOut g m ∷ rs) more q q' h zero o is = is
later_ends (TakenOut g m ∷ rs) more q q' h (suc k) o is = later_ends rs more q q' h k o is

pub more_keeps : MoreKeepsPairs
more_keeps q coming rs more k o is =
    later_ends rs more q (λ r c. q r c ++ coming r c) (λ r c. (coming r c, refl)) k o is
