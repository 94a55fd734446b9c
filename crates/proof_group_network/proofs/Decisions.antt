-- What a member gathered is what the machine hands out: for who decides, for those whom it tells, and for those for
-- whom its word stands.
use Rattle.std.proofs.Common.{◌≡◌, ℕ, ◌<◌, Bool, true, false, ◌||◌, not, List, [], ◌∷◌, length, map, Option, Some, None}
use Rattle.std.proofs.Common.{if◌then◌else◌, refl, sym, ap, ◌∙◌, subst, arith}
use Rattle.std.proofs.lemmas.Bool.{and_from}
use Rattle.binomial_trees.specs.TreeLaws as tree
use Rattle.perfect_groups.proofs.Distinct.{Apart}
use Rattle.perfect_groups.proofs.Records.{agree_refl}
use Rattle.perfect_groups.specs.Collectives.{Kind, Part, Record, agree, allreduce, barrier, bcast, dup, gather, reduce}
use Rattle.perfect_groups.specs.Collectives.{scatter, split}
use Rattle.perfect_groups.specs.Operations.{combined_by}
use Rattle.perfect_groups.specs.Quiet.{IsOneOf}
use Rattle.perfect_groups.specs.Results.{all_agree, all_parts, at_rank, awaited, handed_to, has_rank, new_groups}
use Rattle.perfect_groups.specs.Results.{of_type, place_of, reduced, with_first}
use Rattle.proof_group_network.proofs.RoleLaws.{IsStar, chunks, first_place, rank_is, top_whole, tree_whole}
use Rattle.proof_group_network.proofs.FoldLaws.{reduce_folds, reduced_pieces}
use Rattle.proof_group_network.specs.Notices.{joined, joins}
use Rattle.proof_group_network.specs.Roles.{decides, feeders, is_first, is_ordered, told_on, way_by}
use Rattle.vocabulary.specs.declared.endpoint.Endpoint.{Endpoint}

-- what the member e, of this record and part, gathered of those that it waits for, by the roles of a kind
pub record Gathered (F : Endpoint → Option Part) (k : Kind) (r : Record) (e : Endpoint) (ms : List Endpoint) (p : Part)
    (ps : List Part) : Type 0 where
  pub own : F e ≡ Some p
  pub record_is : p.record_is ≡ r
  pub apart : Apart ms
  pub agreeing : all_agree r ps ≡ true
  pub pieces : List (List Part)
  pub all : all_parts F (chunks k e ms (feeders k r.root e ms)) ≡ Some (tree.joined pieces)
  pub all_agreeing : all_agree r (tree.joined pieces) ≡ true
  pub filled : tree.AreFilled pieces
  pub sums : map (joined r) pieces ≡ ps
  pub star : IsStar k → all_parts F (feeders k r.root e ms) ≡ Some ps

-- what the machine hands out to d by these parts, where it waits for those that were entered
pub record Gives (F : Endpoint → Option Part) (k : Kind) (r : Record) (d : Endpoint) (ms : List Endpoint)
    (ps : List Part) : Type 0 where
  pub parts : List Part
  pub are : all_parts F (awaited k r.root d ms) ≡ Some parts
  pub agreeing : all_agree r parts ≡ true
  pub handed : handed_to r d ms ps k ≡ handed_to r d ms parts k
  pub groups : new_groups k ms ps ≡ new_groups k ms parts

-- the same parts
same_parts : (F : Endpoint → Option Part) (k : Kind) (r : Record) (d : Endpoint) (ms : List Endpoint) (ps : List Part) →
    all_parts F (awaited k r.root d ms) ≡ Some ps → all_agree r ps ≡ true → Gives F k r d ms ps
same_parts F k r d ms ps are ag = record { parts = ps; are = are; agreeing = ag; handed = refl; groups = refl }

-- of a member alone
own_alone : (F : Endpoint → Option Part) (e : Endpoint) (p : Part) → F e ≡ Some p → all_parts F (e ∷ []) ≡ Some (p ∷ [])
own_alone F e p h = ap (λ (o : Option Part). with_first o (Some [])) h

all_of_top : (F : Endpoint → Option Part) (k : Kind) (r : Record) (e : Endpoint) (ms : List Endpoint) (p : Part)
    (ps : List Part) → (t : Gathered F k r e ms p ps) → chunks k e ms (feeders k r.root e ms) ≡ ms →
    all_parts F ms ≡ Some (tree.joined t.pieces)
all_of_top F k r e ms p ps t h = subst (λ (xs : List Endpoint). all_parts F xs ≡ Some (tree.joined t.pieces)) h t.all

first_below : (e : Endpoint) (ms : List Endpoint) → is_first e ms ≡ true → place_of e ms < length ms
first_below e ms h =
    let q = first_place e ms h in let a : place_of e ms ≡ 0 = q.0 in let b : 0 < length ms = q.1 in omega (arith, a, b)

barrier_top : (e : Endpoint) (ms : List Endpoint) (root : ℕ) → Apart ms → is_first e ms ≡ true →
    chunks barrier e ms (feeders barrier root e ms) ≡ ms
barrier_top e ms root apart h = tree_whole barrier e ms (λ y ms. refl) apart (first_below e ms h) ∙
    top_whole barrier e ms (λ y ms. refl) h

reduce_top : (e : Endpoint) (ms : List Endpoint) (root : ℕ) → Apart ms → is_first e ms ≡ true →
    chunks reduce e ms (feeders reduce root e ms) ≡ ms
reduce_top e ms root apart h = tree_whole reduce e ms (λ y ms. refl) apart (first_below e ms h) ∙
    top_whole reduce e ms (λ y ms. refl) h

-- the fold of what was told is that of all
fold_same : (F : Endpoint → Option Part) (r : Record) (e : Endpoint) (ms : List Endpoint) (p : Part)
    (ps : List Part) → r.kind ≡ reduce → is_ordered r.operation r.basic ≡ false →
    (t : Gathered F reduce r e ms p ps) →
    reduced (combined_by r.operation r.basic) ps ≡ reduced (combined_by r.operation r.basic) (tree.joined t.pieces)
fold_same F r e ms p ps kind_is h t =
    subst (λ (k : Kind). reduced (joins k r.operation r.basic) ps ≡
    reduced (joins k r.operation r.basic) (tree.joined t.pieces)) kind_is
    (ap (reduced (joins r.kind r.operation r.basic)) (sym t.sums) ∙
    sym (reduced_pieces r (reduce_folds r kind_is h) t.pieces t.filled))

-- where a test is true, both are the first
when_true : {A : Type 0} (t : Bool) (a b : A) → t ≡ true → (if t then a else b) ≡ a
when_true true a b h = refl
when_true false a b h = absurd (grind arith)

when_false : {A : Type 0} (t : Bool) (a b : A) → t ≡ false → (if t then a else b) ≡ b
when_false false a b h = refl
when_false true a b h = absurd (grind arith)

or_second : (a b : Bool) → (a || not b) ≡ true → b ≡ true → a ≡ true
or_second true b h g = refl
or_second false true h g = absurd (grind arith)
or_second false false h g = absurd (grind arith)

or_neither : (a b : Bool) → (a || not b) ≡ false → b ≡ true
or_neither true b h = absurd (grind arith)
or_neither false true h = refl
or_neither false false h = absurd (grind arith)

-- WHO DECIDES

-- of a kind, by the roles by which it goes
pub decided_gives : (F : Endpoint → Option Part) (k : Kind) (b : Bool) (r : Record) (e : Endpoint) (ms : List Endpoint)
    (p : Part) (ps : List Part) → r.kind ≡ k → is_ordered r.operation r.basic ≡ b →
    Gathered F (way_by k b) r e ms p ps → decides (way_by k b) r.root e ms ≡ true → Gives F k r e ms ps
decided_gives F barrier b r e ms p ps kind_is ordered t d =
    record {
      parts = tree.joined t.pieces;
      are = all_of_top F barrier r e ms p ps t (barrier_top e ms r.root t.apart d);
      agreeing = t.all_agreeing;
      handed = refl;
      groups = refl;
    }
decided_gives F bcast b r e ms p ps kind_is ordered t d =
    same_parts F bcast r e ms ps
    (subst (λ (xs : List Endpoint). all_parts F xs ≡ Some ps) (sym (rank_is e ms r.root d)) (t.star (λ y ms. refl)))
    t.agreeing
decided_gives F gather b r e ms p ps kind_is ordered t d =
    same_parts F gather r e ms ps (t.star (λ y ms. refl)) t.agreeing
decided_gives F scatter b r e ms p ps kind_is ordered t d =
    same_parts F scatter r e ms ps
    (subst (λ (xs : List Endpoint). all_parts F xs ≡ Some ps) (sym (rank_is e ms r.root d)) (t.star (λ y ms. refl)))
    t.agreeing
decided_gives F reduce true r e ms p ps kind_is ordered t d =
    same_parts F reduce r e ms ps (t.star (λ y ms. refl)) t.agreeing
decided_gives F reduce false r e ms p ps kind_is ordered t d = go (has_rank e ms r.root) refl
  where
    go : (b : Bool) → has_rank e ms r.root ≡ b → Gives F reduce r e ms ps
    go true h =
        record {
          parts = tree.joined t.pieces;
          are = subst (λ (xs : List Endpoint). all_parts F xs ≡ Some (tree.joined t.pieces))
              (sym (when_true (has_rank e ms r.root) ms (e ∷ []) h))
              (all_of_top F reduce r e ms p ps t
              (reduce_top e ms r.root t.apart (or_second (is_first e ms) (has_rank e ms r.root) d h)));
          agreeing = t.all_agreeing;
          handed = ap (λ (x : List ℕ). if has_rank e ms r.root then of_type r.basic x else None)
              (fold_same F r e ms p ps kind_is ordered t);
          groups = refl;
        }
    go false h =
        record {
          parts = p ∷ [];
          are = subst (λ (xs : List Endpoint). all_parts F xs ≡ Some (p ∷ []))
              (sym (when_false (has_rank e ms r.root) ms (e ∷ []) h)) (own_alone F e p t.own);
          agreeing =
              and_from (agree r p.record_is) true
              (subst (λ (x : Record). agree r x ≡ true) (sym t.record_is) (agree_refl r)) refl;
          handed = when_false (has_rank e ms r.root) (of_type r.basic (reduced (combined_by r.operation r.basic) ps))
              None h ∙ sym
              (when_false (has_rank e ms r.root) (of_type r.basic (reduced (combined_by r.operation r.basic) (p ∷ [])))
              None h);
          groups = refl;
        }
decided_gives F allreduce b r e ms p ps kind_is ordered t d =
    same_parts F allreduce r e ms ps
    (subst (λ (xs : List Endpoint). all_parts F xs ≡ Some ps) (when_true (is_first e ms) ms (e ∷ []) d)
    (t.star (λ y ms. refl))) t.agreeing
decided_gives F dup b r e ms p ps kind_is ordered t d =
    same_parts F dup r e ms ps
    (subst (λ (xs : List Endpoint). all_parts F xs ≡ Some ps) (when_true (is_first e ms) ms (e ∷ []) d)
    (t.star (λ y ms. refl))) t.agreeing
decided_gives F split b r e ms p ps kind_is ordered t d =
    same_parts F split r e ms ps
    (subst (λ (xs : List Endpoint). all_parts F xs ≡ Some ps) (when_true (is_first e ms) ms (e ∷ []) d)
    (t.star (λ y ms. refl))) t.agreeing

-- WHO IS TOLD BY WHO DECIDES

-- what d gets, where it waits to be told
pub record GivesTold (F : Endpoint → Option Part) (k way : Kind) (r : Record) (d : Endpoint) (ms : List Endpoint)
    (ps : List Part) : Type 0 where
  pub parts : List Part
  pub are : decides way r.root d ms ≡ false → all_parts F (awaited k r.root d ms) ≡ Some parts
  pub agreeing : all_agree r parts ≡ true
  pub handed : handed_to r d ms ps k ≡ handed_to r d ms parts k
  pub groups : new_groups k ms ps ≡ new_groups k ms parts

told_same : (F : Endpoint → Option Part) (k way : Kind) (r : Record) (d : Endpoint) (ms : List Endpoint)
    (ps : List Part) →
    all_parts F (awaited k r.root d ms) ≡ Some ps → all_agree r ps ≡ true → GivesTold F k way r d ms ps
told_same F k way r d ms ps are ag = record { parts = ps; are = λ h. are; agreeing = ag; handed = refl; groups = refl }

pub told_gives : (F : Endpoint → Option Part) (k : Kind) (b : Bool) (r : Record) (e d : Endpoint) (ms : List Endpoint)
    (p : Part) (ps : List Part) → r.kind ≡ k → is_ordered r.operation r.basic ≡ b →
    Gathered F (way_by k b) r e ms p ps → decides (way_by k b) r.root e ms ≡ true →
    IsOneOf d (told_on (way_by k b) r.root e ms) → GivesTold F k (way_by k b) r d ms ps
told_gives F barrier b r e d ms p ps kind_is ordered t dec o =
    record {
      parts = tree.joined t.pieces;
      are =
          λ h. all_of_top F barrier r e ms p ps t (barrier_top e ms r.root t.apart dec);
      agreeing = t.all_agreeing;
      handed =
          refl;
      groups = refl;
    }
told_gives F bcast b r e d ms p ps kind_is ordered t dec o =
    told_same F bcast bcast r d ms ps
    (subst (λ (xs : List Endpoint). all_parts F xs ≡ Some ps) (sym (rank_is e ms r.root dec)) (t.star (λ y ms. refl)))
    t.agreeing
told_gives F gather b r e d ms p ps kind_is ordered t dec o = absurd o
told_gives F scatter b r e d ms p ps kind_is ordered t dec o =
    told_same F scatter scatter r d ms ps
    (subst (λ (xs : List Endpoint). all_parts F xs ≡ Some ps) (sym (rank_is e ms r.root dec)) (t.star (λ y ms. refl)))
    t.agreeing
told_gives F reduce true r e d ms p ps kind_is ordered t dec o = absurd o
told_gives F reduce false r e d ms p ps kind_is ordered t dec o = go (is_first e ms) refl o
  where
    go : (b : Bool) → is_first e ms ≡ b → IsOneOf d (if b then at_rank ms r.root else []) →
        GivesTold F reduce reduce r d ms ps
    go false h o = absurd o
    go true h o =
        record {
          parts = tree.joined t.pieces;
          are = λ w. subst (λ (xs : List Endpoint). all_parts F xs ≡ Some (tree.joined t.pieces))
              (sym (when_true (has_rank d ms r.root) ms (d ∷ []) (or_neither (is_first d ms) (has_rank d ms r.root) w)))
              (all_of_top F reduce r e ms p ps t (reduce_top e ms r.root t.apart h));
          agreeing = t.all_agreeing;
          handed = ap (λ (x : List ℕ). if has_rank d ms r.root then of_type r.basic x else None)
              (fold_same F r e ms p ps kind_is ordered t);
          groups = refl;
        }
told_gives F allreduce b r e d ms p ps kind_is ordered t dec o =
    told_same F allreduce allreduce r d ms ps
    (subst (λ (xs : List Endpoint). all_parts F xs ≡ Some ps) (when_true (is_first e ms) ms (e ∷ []) dec)
    (t.star (λ y ms. refl))) t.agreeing
told_gives F dup b r e d ms p ps kind_is ordered t dec o =
    told_same F dup dup r d ms ps
    (subst (λ (xs : List Endpoint). all_parts F xs ≡ Some ps) (when_true (is_first e ms) ms (e ∷ []) dec)
    (t.star (λ y ms. refl))) t.agreeing
told_gives F split b r e d ms p ps kind_is ordered t dec o =
    told_same F split split r d ms ps
    (subst (λ (xs : List Endpoint). all_parts F xs ≡ Some ps) (when_true (is_first e ms) ms (e ∷ []) dec)
    (t.star (λ y ms. refl))) t.agreeing

-- WHO WAITS FOR SOMEBODY

none_empty : (F : Endpoint → Option Part) (e : Endpoint) (xs : List Endpoint) → all_parts F (e ∷ xs) ≡ Some [] → ⊥
none_empty F e xs h = go (F e) (all_parts F xs) h
  where
    go : (o : Option Part) (a : Option (List Part)) → with_first o a ≡ Some [] → ⊥
    go None a h = absurd (grind arith)
    go (Some q) None h = absurd (grind arith)
    go (Some q) (Some qs) h = absurd (grind arith)

in_ms : (F : Endpoint → Option Part) (t : Bool) (e : Endpoint) (ms : List Endpoint) → (t ≡ true → ms ≡ [] → ⊥) →
    all_parts F (if t then ms else e ∷ []) ≡ Some [] → ⊥
in_ms F false e ms f h = none_empty F e [] h
in_ms F true e [] f h = f refl refl
in_ms F true e (m ∷ ms) f h = none_empty F m ms h

rank_some : (e : Endpoint) (ms : List Endpoint) (r : ℕ) → has_rank e ms r ≡ true → ms ≡ [] → ⊥
rank_some e [] r h q = absurd (grind arith)
rank_some e (m ∷ ms) r h q = absurd (grind arith)

first_some : (e : Endpoint) (ms : List Endpoint) → is_first e ms ≡ true → ms ≡ [] → ⊥
first_some e [] h q = absurd (grind arith)
first_some e (m ∷ ms) h q = absurd (grind arith)

pub some_fed : (F : Endpoint → Option Part) (k : Kind) (root : ℕ) (e : Endpoint) (ms : List Endpoint) →
    all_parts F (feeders k root e ms) ≡ Some [] → ⊥
some_fed F barrier root e ms h = none_empty F e _ h
some_fed F bcast root e ms h = none_empty F e [] h
some_fed F gather root e ms h = in_ms F (has_rank e ms root) e ms (rank_some e ms root) h
some_fed F scatter root e ms h = none_empty F e [] h
some_fed F reduce root e ms h = none_empty F e _ h
some_fed F allreduce root e ms h = in_ms F (is_first e ms) e ms (first_some e ms) h
some_fed F dup root e ms h = in_ms F (is_first e ms) e ms (first_some e ms) h
some_fed F split root e ms h = in_ms F (is_first e ms) e ms (first_some e ms) h
