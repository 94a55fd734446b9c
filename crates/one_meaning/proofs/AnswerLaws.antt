-- What others do leaves the answers that are ready.
use Rattle.std.proofs.Common.{◌≡◌, ◌≢◌, ℕ, zero, suc, Bool, true, false, ◌&&◌, List, [], ◌∷◌, ◌++◌, Option, Some, None}
use Rattle.std.proofs.Common.{if◌then◌else◌, ◌==◌, slice_get, option_and_then, option_map, refl, sym, ap, ap₂, ◌∙◌}
use Rattle.std.proofs.Common.{subst, append-nil, arith}
use Rattle.std.proofs.lemmas.Bool.{eqb-true, eq-eqb}
use Rattle.perfect_groups.specs.Collectives.{Part}
use Rattle.perfect_groups.specs.Communicators.{Communicator, first_endpoint}
use Rattle.perfect_groups.specs.Membership.{first_of}
use Rattle.perfect_groups.specs.Results.{all_agree, all_parts, awaited, is_making, with_first}
use Rattle.perfect_queues.specs.Completions as completions
use Rattle.perfect_queues.specs.Completions.{AllOf, AnyOf, Awaited, One, all_outcomes, completion, outcome_at}
use Rattle.perfect_queues.specs.Completions.{outcome_of, serials}
use Rattle.perfect_queues.specs.Messages.{Message}
use Rattle.perfect_queues.specs.Outcomes.{Empty, Outcome}
use Rattle.perfect_queues.specs.Requests.{Request, Finished, Gone, Matched, Posted, Sending, TakenOut, all_changed}
use Rattle.perfect_queues.specs.Requests.{changed}
use Rattle.vocabulary.specs.Endpoints.{is_same}
use Rattle.vocabulary.specs.declared.endpoint.Endpoint.{Endpoint}
use Rattle.one_meaning.specs.Accounts.{Account, Accounts, Answered, Entered, ForRequests, InCollective, Waiting}
use Rattle.one_meaning.specs.Accounts.{answer_to, answered_leaving, answered_made, answered_wait, entered_by, gone}
use Rattle.one_meaning.specs.Accounts.{in_context, leaves_if, leaves_with, meant_for, part_by, requests_of, sent_to}
use Rattle.one_meaning.specs.Accounts.{wait_answer}
use Rattle.one_meaning.specs.Pairs.{resolved}
use Rattle.one_meaning.proofs.PairLawProofs.{later_ends}

-- an account to which more was added of what others see
pub record Grew (a b : Account) : Type 0 where
  pub sent : (xs : List (Endpoint × Message)) × (b.sent ≡ a.sent ++ xs)
  pub entered : (xs : List Entered) × (b.entered ≡ a.entered ++ xs)

abbrev pub AllGrew : Accounts → Accounts → Type 0
AllGrew all all' = (r : ℕ) → Grew (all r) (all' r)

pub grew_not : (a b : Account) → b.sent ≡ a.sent → b.entered ≡ a.entered → Grew a b
grew_not a b s e = record { sent = ([], s ∙ sym (append-nil a.sent)); entered = ([], e ∙ sym (append-nil a.entered)) }

-- LISTS

pub meant_append : (d : Endpoint) (c : ℕ) (xs ys : List (Endpoint × Message)) →
    meant_for d c (xs ++ ys) ≡ meant_for d c xs ++ meant_for d c ys
meant_append d c [] ys = refl
meant_append d c (x ∷ xs) ys = go (is_same x.0 d && (x.1.context == c)) (meant_append d c xs ys)
  where
    go : (b : Bool) → meant_for d c (xs ++ ys) ≡ meant_for d c xs ++ meant_for d c ys →
        (if b then x.1 ∷ meant_for d c (xs ++ ys) else meant_for d c (xs ++ ys)) ≡
        (if b then x.1 ∷ meant_for d c xs else meant_for d c xs) ++ meant_for d c ys
    go true ih = ap (λ (ms : List Message). x.1 ∷ ms) ih
    go false ih = ih

pub context_append : (c : ℕ) (xs ys : List Entered) → in_context c (xs ++ ys) ≡ in_context c xs ++ in_context c ys
context_append c [] ys = refl
context_append c (x ∷ xs) ys = go (x.context == c) (context_append c xs ys)
  where
    go : (b : Bool) → in_context c (xs ++ ys) ≡ in_context c xs ++ in_context c ys →
        (if b then x ∷ in_context c (xs ++ ys) else in_context c (xs ++ ys)) ≡
        (if b then x ∷ in_context c xs else in_context c xs) ++ in_context c ys
    go true ih = ap (λ (es : List Entered). x ∷ es) ih
    go false ih = ih

pub get_append : {A : Type 0} (xs ys : List A) (k : ℕ) (x : A) → slice_get xs k ≡ Some x →
    slice_get (xs ++ ys) k ≡ Some x
get_append [] ys k x h = absurd (grind arith)
get_append (y ∷ xs) ys zero x h = h
get_append (y ∷ xs) ys (suc k) x h = get_append xs ys k x h

-- REQUESTS

pub get_gone : (xs : List Request) (j k : ℕ) → j ≢ k → slice_get (changed gone xs j) k ≡ slice_get xs k
get_gone [] j k h = refl
get_gone (x ∷ xs) zero zero h = absurd (h refl)
get_gone (x ∷ xs) zero (suc k) h = refl
get_gone (x ∷ xs) (suc j) zero h = refl
get_gone (x ∷ xs) (suc j) (suc k) h = get_gone xs j k (λ e. h (ap suc e))

no_outcome : (o : Outcome) → ◌≡◌ {A = Option Request} (Some Gone) (Some (Finished o)) → ⊥
no_outcome o h = grind arith

none_there : (o : Outcome) → ◌≡◌ {A = Option Request} None (Some (Finished o)) → ⊥
none_there o h = grind arith

pub not_gone : (xs : List Request) (j : ℕ) (o : Outcome) → slice_get (changed gone xs j) j ≡ Some (Finished o) → ⊥
not_gone [] j o h = none_there o h
not_gone (x ∷ xs) zero o h = no_outcome o h
not_gone (x ∷ xs) (suc j) o h = not_gone xs j o h

-- what is finished in one list is so in the other
abbrev pub Later : List Request → List Request → Type 0
Later xs ys = (k : ℕ) (o : Outcome) → slice_get xs k ≡ Some (Finished o) → slice_get ys k ≡ Some (Finished o)

gone_later : (j : ℕ) (xs ys : List Request) → Later xs ys → Later (changed gone xs j) (changed gone ys j)
gone_later j xs ys l k o h = go (j == k) refl
  where
    go : (b : Bool) → (j == k) ≡ b → slice_get (changed gone ys j) k ≡ Some (Finished o)
    go true e =
        absurd (not_gone xs j o
        (subst (λ (i : ℕ). slice_get (changed gone xs j) i ≡ Some (Finished o)) (sym (eqb-true j k e)) h))
    go false e =
        let differ : j ≢ k = λ i. absurd (apart j k e i) in
        get_gone ys j k differ ∙ l k o (sym (get_gone xs j k differ) ∙ h)
      where
        apart : (a b : ℕ) → (a == b) ≡ false → a ≡ b → ⊥
        apart a b f i = let t : (a == b) ≡ true = eq-eqb a b i in grind arith

all_gone_later : (js : List ℕ) (xs ys : List Request) → Later xs ys →
    Later (all_changed gone xs js) (all_changed gone ys js)
all_gone_later [] xs ys l = l
all_gone_later (j ∷ js) xs ys l = all_gone_later js (changed gone xs j) (changed gone ys j) (gone_later j xs ys l)

-- the outcomes of a list that are there in the other
abbrev pub Known : (ℕ → Option Outcome) → (ℕ → Option Outcome) → Type 0
Known f g = (k : ℕ) (o : Outcome) → f k ≡ Some o → g k ≡ Some o

pub finished_only : (r : Option Request) (o : Outcome) → outcome_of r ≡ Some o → r ≡ Some (Finished o)
finished_only None o h = absurd (grind arith)
finished_only (Some (Posted p)) o h = absurd (grind arith)
finished_only (Some (Matched p m)) o h = absurd (grind arith)
finished_only (Some (Sending d)) o h = absurd (grind arith)
finished_only (Some (Finished x)) o h = let e : x ≡ o = cc in ap (λ y. Some (Finished y)) e
finished_only (Some Gone) o h = absurd (grind arith)
finished_only (Some (TakenOut g m)) o h = absurd (grind arith)

pub later_known : (xs ys : List Request) → Later xs ys → Known (outcome_at xs) (outcome_at ys)
later_known xs ys l k o h = ap outcome_of (l k o (finished_only (slice_get xs k) o h))

-- what is found in one is found in the other
abbrev pub Stays : {A : Type 0} → Option A → Option A → Type 0
Stays {A = A} x y = (a : A) → x ≡ Some a → y ≡ Some a

-- an outcome in front of others, where all are there
abbrev both : Option Outcome → Option (List Outcome) → Option (List Outcome)
both o rest = option_and_then (λ x. option_map (λ os. x ∷ os) rest) o

both_stay : (a a' : Option Outcome) (r r' : Option (List Outcome)) → Stays a a' → Stays r r' →
    Stays (both a r) (both a' r')
both_stay None a' r r' h g os i = absurd (grind arith)
both_stay (Some o) a' None r' h g os i = absurd (grind arith)
both_stay (Some o) a' (Some xs) r' h g os i = ap₂ both (h o refl) (g xs refl) ∙ i

map_stays : {A B : Type 0} (f : A → B) (x y : Option A) → Stays x y → Stays (option_map f x) (option_map f y)
map_stays f None y h b i = absurd (grind arith)
map_stays f (Some a) y h b i = ap (option_map f) (h a refl) ∙ i

outcomes_stay : (f g : ℕ → Option Outcome) → Known f g → (qs : List (Option ℕ)) →
    Stays (all_outcomes f qs) (all_outcomes g qs)
outcomes_stay f g h [] os is = is
outcomes_stay f g h (None ∷ qs) os is =
    map_stays (λ (os : List Outcome). Empty ∷ os) (all_outcomes f qs) (all_outcomes g qs) (outcomes_stay f g h qs) os is
outcomes_stay f g h (Some k ∷ qs) os is =
    both_stay (f k) (g k) (all_outcomes f qs) (all_outcomes g qs) (h k) (outcomes_stay f g h qs) os is

pub wait_stays : (f g : ℕ → Option Outcome) → Known f g → (w : Awaited) → Stays (wait_answer f w) (wait_answer g w)
wait_stays f g h (One None) t is = is
wait_stays f g h (One (Some k)) t is =
    map_stays (λ (o : Outcome). (completions.ForOne o, k ∷ [])) (f k) (g k) (h k) t is
wait_stays f g h (AnyOf qs) t is = absurd (grind arith)
wait_stays f g h (AllOf qs) t is =
    map_stays (λ (os : List Outcome). (completions.ForAll os, serials qs)) (all_outcomes f qs) (all_outcomes g qs)
    (outcomes_stay f g h qs) t is

-- COLLECTIVES

pub entered_stays : (all all' : Accounts) → AllGrew all all' → (c k : ℕ) (x : Endpoint) →
    Stays (entered_by all c k x) (entered_by all' c k x)
entered_stays all all' g c k x e is = go (x.incarnation == 0) is
  where
    more : List Entered
    more = (g x.rank).entered.0

    go : (b : Bool) → (if b then slice_get (in_context c (all x.rank).entered) k else None) ≡ Some e →
        (if b then slice_get (in_context c (all' x.rank).entered) k else None) ≡ Some e
    go true h =
        ap (λ (es : List Entered). slice_get (in_context c es) k) (g x.rank).entered.1
        ∙ (ap (λ (es : List Entered). slice_get es k) (context_append c (all x.rank).entered more)
        ∙ get_append (in_context c (all x.rank).entered) (in_context c more) k e h)
    go false h = absurd (grind arith)

pub part_stays : (all all' : Accounts) → AllGrew all all' → (c k : ℕ) (x : Endpoint) →
    Stays (part_by all c k x) (part_by all' c k x)
part_stays all all' g c k x =
    map_stays (λ (e : Entered). e.part) (entered_by all c k x) (entered_by all' c k x) (entered_stays all all' g c k x)

first_stays : (a a' : Option Part) (r r' : Option (List Part)) → Stays a a' → Stays r r' →
    Stays (with_first a r) (with_first a' r')
first_stays None a' r r' h g ps i = absurd (grind arith)
first_stays (Some p) a' None r' h g ps i = absurd (grind arith)
first_stays (Some p) a' (Some ps) r' h g qs i = ap₂ with_first (h p refl) (g ps refl) ∙ i

pub parts_stay : (f g : Endpoint → Option Part) → ((x : Endpoint) → Stays (f x) (g x)) →
    (ms : List Endpoint) → Stays (all_parts f ms) (all_parts g ms)
parts_stay f g h [] ps is = is
parts_stay f g h (m ∷ ms) ps is =
    first_stays (f m) (g m) (all_parts f ms) (all_parts g ms) (h m) (parts_stay f g h ms) ps is

made_stays : (r : ℕ) (a : Account) (c : Communicator) (p : Part) (ps : List Part) (x y : Option Entered) → Stays x y →
    Stays (answered_made r a c p ps x) (answered_made r a c p ps y)
made_stays r a c p ps None y h t is = absurd (grind arith)
made_stays r a c p ps (Some e) y h t is = ap (answered_made r a c p ps) (h e refl) ∙ is

leaving_stays : (all all' : Accounts) → AllGrew all all' →
    (r : ℕ) (a : Account) (c : Communicator) (k : ℕ) (p : Part) (ps : List Part) (making : Bool) →
    Stays (answered_leaving all r a c k p ps making) (answered_leaving all' r a c k p ps making)
leaving_stays all all' g r a c k p ps false t is = is
leaving_stays all all' g r a c k p ps true t is =
    made_stays r a c p ps (entered_by all c.context k (first_of c.members (first_endpoint r)))
    (entered_by all' c.context k (first_of c.members (first_endpoint r)))
    (entered_stays all all' g c.context k (first_of c.members (first_endpoint r))) t is

if_stays : (b : Bool) (x y : Option Answered) → Stays x y → Stays (leaves_if b x) (leaves_if b y)
if_stays true x y h t is = h t is
if_stays false x y h t is = absurd (grind arith)

with_stays : (all all' : Accounts) → AllGrew all all' →
    (r : ℕ) (a : Account) (c : Communicator) (k : ℕ) (p : Part) (x y : Option (List Part)) → Stays x y →
    Stays (leaves_with all r a c k p x) (leaves_with all' r a c k p y)
with_stays all all' g r a c k p None y h t is = absurd (grind arith)
with_stays all all' g r a c k p (Some ps) y h t is =
    ap (leaves_with all' r a c k p) (h ps refl)
    ∙ if_stays (all_agree p.record_is ps) (answered_leaving all r a c k p ps (is_making p.record_is.kind))
    (answered_leaving all' r a c k p ps (is_making p.record_is.kind))
    (leaving_stays all all' g r a c k p ps (is_making p.record_is.kind)) t is

-- ANSWERS

sent_extends : (all all' : Accounts) → AllGrew all all' → (r : ℕ) → (s c : ℕ) →
    (more : List Message) × (sent_to all' r s c ≡ sent_to all r s c ++ more)
sent_extends all all' g r s c = (
  meant_for (first_endpoint r) c (g s).sent.0,
  ap (meant_for (first_endpoint r) c) (g s).sent.1 ∙ meant_append (first_endpoint r) c (all s).sent (g s).sent.0,
)

requests_later : (all all' : Accounts) → AllGrew all all' → (r : ℕ) (a : Account) →
    Later (requests_of all r a) (requests_of all' r a)
requests_later all all' g r a =
    all_gone_later a.used (resolved (sent_to all r) a.started) (resolved (sent_to all' r) a.started) later
  where
    later : Later (resolved (sent_to all r) a.started) (resolved (sent_to all' r) a.started)
    later k o h =
        subst (λ (rs : List Request). slice_get (resolved (sent_to all' r) rs) k ≡ Some (Finished o))
        (append-nil a.started)
        (later_ends a.started [] (sent_to all r) (sent_to all' r) (sent_extends all all' g r) k o h)

-- an answer that is ready stays so, whatever others do
pub answer_stays : (all all' : Accounts) → AllGrew all all' → (r : ℕ) (a : Account) (w : Waiting) →
    Stays (answer_to all r a w) (answer_to all' r a w)
answer_stays all all' g r a (ForRequests w) =
    map_stays (answered_wait a) (wait_answer (outcome_at (requests_of all r a)) w)
    (wait_answer (outcome_at (requests_of all' r a)) w)
    (wait_stays (outcome_at (requests_of all r a)) (outcome_at (requests_of all' r a))
    (later_known (requests_of all r a) (requests_of all' r a) (requests_later all all' g r a)) w)
answer_stays all all' g r a (InCollective c k p) =
    with_stays all all' g r a c k p (all_parts (part_by all c.context k) ms) (all_parts (part_by all' c.context k) ms)
    (parts_stay (part_by all c.context k) (part_by all' c.context k) (part_stays all all' g c.context k) ms)
  where
    ms : List Endpoint
    ms = awaited p.record_is.kind p.record_is.root (first_endpoint r) c.members
