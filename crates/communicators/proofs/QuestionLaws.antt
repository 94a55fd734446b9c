-- Questions about communicators: told of what is held, and as the machine answers them.
use Rattle.std.proofs.Common.{◌≡◌, ◌≢◌, ℕ, zero, suc, ◌+◌, Bool, true, false, ◌==◌, ◌&&◌, ◌||◌, cond, refl, sym, ap}
use Rattle.std.proofs.Common.{◌∙◌, subst, List, [], ◌∷◌, length, map, Option, Some, None, option_map, if◌then◌else◌}
use Rattle.std.proofs.Common.{arith}
use Rattle.std.specs.List.{list_any, position_from, position_or_len}
use Rattle.std.proofs.lemmas.Bool.{eqb-false, eqb-true, eq-eqb}
use Rattle.std.proofs.lemmas.Iterator.Adapters.{position_from-zero}
use Rattle.std.proofs.lemmas.List.{length-map}
use Rattle.collective_messages.specs.Notes.{member_at}
use Rattle.collectives.specs.State.{State, members_incarnation}
use Rattle.communicators.proofs.PlaceLaws.{held_same}
use Rattle.communicators.proofs.RouteLaws.{group_same}
use Rattle.communicators.specs.Members.{communicator_of, held_in, membership_of}
use Rattle.communicators.specs.Questions.{compared_in, fact_in, facts_in, other_in, question_of}
use Rattle.communicators.specs.declared.question.Question.{Question}
use Rattle.communicators.specs.declared.question.Question.TheVariants as questions
use Rattle.context_agreement.specs.Communicators.{ContextsState}
use Rattle.context_agreement.specs.Numbers.{number_of}
use Rattle.context_agreement.specs.declared.communicator.Communicator as held
use Rattle.groups.specs.Comparisons.{HaveSameMembers}
use Rattle.groups.specs.Groups.{is_member, position_of}
use Rattle.perfect_groups.specs.Calls as calls
use Rattle.perfect_groups.specs.Calls.{Comparison, Fact, all_in, are_same, comparison_of_groups, compared, fact_of}
use Rattle.perfect_groups.specs.Calls.{held_at}
use Rattle.perfect_groups.specs.Communicators.{Communicator, group_of}
use Rattle.perfect_queues.specs.Groups.{rank_in}
use Rattle.vocabulary.specs.declared.endpoint.Endpoint.{Endpoint}

-- ---- the caller's rank

-- what is so of the place of a rank, where it was looked for from this place on
abbrev IsFound : (from place len : ℕ) → Option ℕ → Type 0
IsFound n place len None = place ≡ len
IsFound n place len (Some k) = n + place ≡ k

further : (n p l : ℕ) (o : Option ℕ) → IsFound (n + 1) p l o → IsFound n (suc p) (suc l) o
further n p l None same = ap (λ k. suc k) same
further n p l (Some k) same = let next : n + suc p ≡ k = omega (arith, same) in next

found_from : (g : List ℕ) (r n : ℕ) → IsFound n (rank_in g r) (length g) (position_from (λ x. x == r) n g)
found_from [] r n = refl
found_from (x ∷ xs) r n = by (x == r) (found_from xs r (n + 1))
  where
    by : (t : Bool) → IsFound (n + 1) (rank_in xs r) (length xs) (position_from (λ x. x == r) (n + 1) xs)
        → IsFound n (if t then zero else suc (rank_in xs r)) (suc (length xs))
        (cond t (Some n) (position_from (λ x. x == r) (n + 1) xs))
    by true rest = let here : n + 0 ≡ n = omega arith in here
    by false rest = further n (rank_in xs r) (length xs) (position_from (λ x. x == r) (n + 1) xs) rest

found : (g : List ℕ) (r : ℕ) → IsFound 0 (rank_in g r) (length g) (position_of g r)
found g r = subst (λ (o : Option ℕ). IsFound 0 (rank_in g r) (length g) o) (sym (position_from-zero (λ x. x == r) g))
    (found_from g r 0)

-- where the rank is a member, and where it is none
pub rank_found : (g : List ℕ) (r k : ℕ) → position_of g r ≡ Some k → rank_in g r ≡ k
rank_found g r k at =
    let is : 0 + rank_in g r ≡ k = subst (λ (o : Option ℕ). IsFound 0 (rank_in g r) (length g) o) at (found g r) in
    let same : rank_in g r ≡ k = omega (arith, is) in
    same

pub rank_missing : (g : List ℕ) (r : ℕ) → position_of g r ≡ None → rank_in g r ≡ length g
rank_missing g r at = subst (λ (o : Option ℕ). IsFound 0 (rank_in g r) (length g) o) at (found g r)

-- ---- two groups

same_itself : (g : List ℕ) → are_same g g ≡ true
same_itself [] = refl
same_itself (x ∷ xs) = ap (λ (t : Bool). t && are_same xs xs) (eq-eqb x x refl) ∙ same_itself xs

and_first : (s t : Bool) → (s && t) ≡ true → s ≡ true
and_first true t q = refl
and_first false t q = q

and_second : (s t : Bool) → (s && t) ≡ true → t ≡ true
and_second true t q = q
and_second false t q = absurd cc

same_is : (a b : List ℕ) → are_same a b ≡ true → a ≡ b
same_is [] [] q = refl
same_is [] (y ∷ ys) q = absurd cc
same_is (x ∷ xs) [] q = absurd cc
same_is (x ∷ xs) (y ∷ ys) q =
    ap (λ (t : List ℕ). x ∷ t) (same_is xs ys (and_second (x == y) (are_same xs ys) q))
    ∙ ap (λ z. z ∷ ys) (eqb-true x y (and_first (x == y) (are_same xs ys) q))

flipped : (x y : ℕ) → (x == y) ≡ (y == x)
flipped x y = by (x == y) refl (y == x) refl
  where
    by : (t : Bool) → (x == y) ≡ t → (u : Bool) → (y == x) ≡ u → t ≡ u
    by true p true q = refl
    by false p false q = refl
    by true p false q = absurd (eqb-false y x q (sym (eqb-true x y p)))
    by false p true q = absurd (eqb-false x y p (sym (eqb-true y x q)))

any_is : (x : ℕ) (ys : List ℕ) → list_any (λ y. y == x) ys ≡ is_member ys x
any_is x [] = refl
any_is x (y ∷ ys) = ap (λ (t : Bool). t || list_any (λ y. y == x) ys) (flipped y x) ∙
    ap (λ (t : Bool). (x == y) || t) (any_is x ys)

-- each member of one is in the other
all_gives : (xs ys : List ℕ) → all_in xs ys ≡ true → (r : ℕ) → is_member xs r ≡ true → is_member ys r ≡ true
all_gives [] ys q r is = absurd cc
all_gives (x ∷ xs) ys q r is =
    by (r == x) refl is
    (and_first (list_any (λ y. y == x) ys) (all_in xs ys) q)
    (all_gives xs ys (and_second (list_any (λ y. y == x) ys) (all_in xs ys) q) r)
  where
    by : (t : Bool) → (r == x) ≡ t → (t || is_member xs r) ≡ true → list_any (λ y. y == x) ys ≡ true →
        (is_member xs r ≡ true → is_member ys r ≡ true)
        → is_member ys r ≡ true
    by true p s first rest = subst (λ z. is_member ys z ≡ true) (sym (eqb-true r x p)) (sym (any_is x ys) ∙ first)
    by false p s first rest = rest s

or_first : (s t : Bool) → s ≡ true → (s || t) ≡ true
or_first true t q = refl
or_first false t q = absurd cc

or_second : (s t : Bool) → t ≡ true → (s || t) ≡ true
or_second true t q = refl
or_second false t q = q

all_from : (xs ys : List ℕ) → ((r : ℕ) → is_member xs r ≡ true → is_member ys r ≡ true) → all_in xs ys ≡ true
all_from [] ys f = refl
all_from (x ∷ xs) ys f =
    ap (λ (t : Bool). t && all_in xs ys) (any_is x ys ∙ f x (or_first (x == x) (is_member xs x) (eq-eqb x x refl)))
    ∙ all_from xs ys (λ r is. f r (or_second (r == x) (is_member xs r) is))

bool_same : (s t : Bool) → (s ≡ true → t ≡ true) → (t ≡ true → s ≡ true) → s ≡ t
bool_same true true f g = refl
bool_same true false f g = sym (f refl)
bool_same false true f g = g refl
bool_same false false f g = refl

both_same : (a b : List ℕ) → all_in a b ≡ true → all_in b a ≡ true → HaveSameMembers a b
both_same a b p q r = bool_same (is_member a r) (is_member b r) (all_gives a b p r) (all_gives b a q r)

-- the same members in the same order
pub congruent : (a b : List ℕ) → a ≡ b → comparison_of_groups a b ≡ calls.Congruent
congruent a b q =
    subst (λ (x : List ℕ). comparison_of_groups a x ≡ calls.Congruent) q
    (ap (λ (t : Bool). if t then calls.Congruent else
    (if all_in a a && all_in a a then calls.Similar else calls.Unequal)) (same_itself a))

differs : (a b : List ℕ) → a ≢ b → are_same a b ≡ false
differs a b apart = by (are_same a b) refl
  where
    by : (t : Bool) → are_same a b ≡ t → t ≡ false
    by false q = refl
    by true q = absurd (apart (same_is a b q))

-- in another order
pub similar : (a b : List ℕ) → (a ≢ b) × HaveSameMembers a b → comparison_of_groups a b ≡ calls.Similar
similar a b is =
    ap (λ (t : Bool). if t then calls.Congruent else
    (if all_in a b && all_in b a then calls.Similar else calls.Unequal)) (differs a b is.0)
    ∙ (ap (λ (t : Bool). if t && all_in b a then calls.Similar else calls.Unequal)
    (all_from a b (λ r m. sym (is.1 r) ∙ m))
    ∙ ap (λ (t : Bool). if t then calls.Similar else calls.Unequal) (all_from b a (λ r m. is.1 r ∙ m)))

-- a rank in one of them alone
pub unequal : (a b : List ℕ) → (HaveSameMembers a b → ⊥) → comparison_of_groups a b ≡ calls.Unequal
unequal a b apart =
    ap (λ (t : Bool). if t then calls.Congruent else
    (if all_in a b && all_in b a then calls.Similar else calls.Unequal))
    (differs a b (λ q. apart (λ r. ap (λ (x : List ℕ). is_member x r) q)))
    ∙ by (all_in a b) refl (all_in b a) refl
  where
    by : (t : Bool) → all_in a b ≡ t → (u : Bool) → all_in b a ≡ u →
        (if t && u then calls.Similar else calls.Unequal) ≡ calls.Unequal
    by true p true q = absurd (apart (both_same a b p q))
    by true p false q = refl
    by false p u q = refl

-- ---- answers

comparison_by : (e : Endpoint) (c : held.Communicator) (o : Option held.Communicator) →
    compared (communicator_of e c) (option_map (communicator_of e) o) ≡ compared_in c o
comparison_by e c None = refl
comparison_by e c (Some d) =
    ap (λ (g : List ℕ). if number_of c.context == number_of d.context then calls.Ident else
    comparison_of_groups g (group_of (communicator_of e d))) (group_same e c)
    ∙ ap (λ (g : List ℕ). if number_of c.context == number_of d.context then calls.Ident else
    comparison_of_groups c.group g) (group_same e d)

fact_by : (s : State) (h : ContextsState) (c : held.Communicator) (q : Question) →
    fact_of s.own (membership_of s h) (communicator_of s.own c) (question_of q) ≡ fact_in s.own.rank c (other_in h q) q
fact_by s h c questions.Rank = ap (λ (g : List ℕ). calls.Number (rank_in g s.own.rank)) (group_same s.own c)
fact_by s h c questions.Size =
    ap (λ n. calls.Number n) (length-map c.group (member_at (members_incarnation s.own (number_of c.context))))
fact_by s h c questions.Group = ap (λ (g : List ℕ). calls.Ranks g) (group_same s.own c)
fact_by s h c (questions.Compare other) =
    ap (λ (x : Comparison). calls.Compares x)
    (ap (λ (o : Option Communicator). compared (communicator_of s.own c) o) (held_same s h other) ∙
    comparison_by s.own c (held_in h other))

facts_by : (s : State) (h : ContextsState) (o : Option held.Communicator) (q : Question) →
    option_map (λ c. fact_of s.own (membership_of s h) c (question_of q)) (option_map (communicator_of s.own) o) ≡
    facts_in s.own.rank (other_in h q) q o
facts_by s h None q = refl
facts_by s h (Some c) q = ap (λ (f : Fact). Some f) (fact_by s h c q)

-- the answer about the communicator at a place
pub fact_same : (s : State) (h : ContextsState) (comm : Option ℕ) (q : Question) →
    option_map (λ c. fact_of s.own (membership_of s h) c (question_of q)) (held_at (membership_of s h) comm)
    ≡ facts_in s.own.rank (other_in h q) q (held_in h comm)
fact_same s h comm q =
    ap (λ (o : Option Communicator). option_map (λ c. fact_of s.own (membership_of s h) c (question_of q)) o)
    (held_same s h comm)
    ∙ facts_by s h (held_in h comm) q
