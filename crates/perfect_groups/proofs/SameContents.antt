-- What a reduction hands out is a function of what its members entered with.
use Rattle.std.proofs.Common.{◌≡◌, ℕ, Bool, true, false, List, [], ◌∷◌, map, fold, Option, Some, None, if◌then◌else◌}
use Rattle.std.proofs.Common.{option_map, refl, sym, ap, ◌∙◌, arith}
use Rattle.std.proofs.lemmas.Option.{same_Some}
use Rattle.datatypes.specs.Combinations.{combined_values}
use Rattle.layouts.specs.Buffers.{Contents}
use Rattle.perfect_groups.specs.Collectives.{Kind, Part, Record, allreduce, barrier, bcast, dup, gather, reduce}
use Rattle.perfect_groups.specs.Collectives.{scatter}
use Rattle.perfect_groups.specs.Collectives.{split}
use Rattle.perfect_groups.specs.Communicators.{Communicator}
use Rattle.perfect_groups.specs.Machine.{Machine}
use Rattle.perfect_groups.specs.Membership.{Comm, Failed, Groups, Inside, Left, Out, Present, leave_made, left_with}
use Rattle.perfect_groups.specs.Operations.{combined_by}
use Rattle.perfect_groups.specs.Results.{all_parts, awaited, handed_to, has_rank, is_making, of_type, reduced}
use Rattle.perfect_groups.specs.Results.{with_first}
use Rattle.perfect_groups.specs.SameContents.{IsHanded, SameContentsSameResult, contents_in, is_reduction}
use Rattle.perfect_queues.proofs.EndpointLemmas.{same_refl}
use Rattle.vocabulary.specs.declared.endpoint.Endpoint.{Endpoint}

-- WHAT IS KNOWN OF ALL MEMBERS

-- the elements of parts
abbrev elements : List Part → List (Option (List ℕ))
elements ps = map (λ (q : Part). Some q.values) ps

-- those with which members entered
abbrev entered_with : (Endpoint → Option Part) → List Endpoint → List (Option (List ℕ))
entered_with F ms = map (λ (m : Endpoint). option_map (λ (q : Part). q.values) (F m)) ms

known : (F : Endpoint → Option Part) (ms : List Endpoint) (ps : List Part) → all_parts F ms ≡ Some ps →
    entered_with F ms ≡ elements ps
known F [] ps h = ap elements (same_Some [] ps h)
known F (m ∷ ms) ps h = go (F m) (all_parts F ms) refl h (λ qs w. known F ms qs w)
  where
    go : (o : Option Part) (r : Option (List Part)) → all_parts F ms ≡ r → with_first o r ≡ Some ps →
        ((qs : List Part) → all_parts F ms ≡ Some qs → entered_with F ms ≡ elements qs) →
        option_map (λ (q : Part). q.values) o ∷ entered_with F ms ≡ elements ps
    go None r rq h rest = absurd (grind arith)
    go (Some q) None rq h rest = absurd (grind arith)
    go (Some q) (Some qs) rq h rest =
        ap (λ (xs : List (Option (List ℕ))). Some q.values ∷ xs) (rest qs rq) ∙ ap elements (same_Some (q ∷ qs) ps h)

-- THE FOLD OF THESE ELEMENTS

abbrev elements_of : Option (List ℕ) → List ℕ
elements_of None = []
elements_of (Some xs) = xs

abbrev folded : (ℕ → ℕ → ℕ) → List ℕ → List (Option (List ℕ)) → List ℕ
folded f a os = fold (λ (all : List ℕ) (o : Option (List ℕ)). combined_values f all (elements_of o)) a os

abbrev fold_of : (ℕ → ℕ → ℕ) → List (Option (List ℕ)) → List ℕ
fold_of f [] = []
fold_of f (o ∷ os) = folded f (elements_of o) os

folded_same : (f : ℕ → ℕ → ℕ) (a : List ℕ) (ps : List Part) →
    fold (λ (all : List ℕ) (q : Part). combined_values f all q.values) a ps ≡ folded f a (elements ps)
folded_same f a [] = refl
folded_same f a (p ∷ ps) = folded_same f (combined_values f a p.values) ps

reduced_same : (f : ℕ → ℕ → ℕ) (ps : List Part) → reduced f ps ≡ fold_of f (elements ps)
reduced_same f [] = refl
reduced_same f (p ∷ ps) = folded_same f p.values ps

-- WHAT IS HANDED OUT

-- who is handed elements waited for all
handed_all : (F : Endpoint → Option Part) (r : Record) (e : Endpoint) (ms : List Endpoint) (ps : List Part)
    (b : Contents) (k : Kind) → is_reduction k ≡ true → all_parts F (awaited k r.root e ms) ≡ Some ps →
    handed_to r e ms ps k ≡ Some b →
    (all_parts F ms ≡ Some ps) × (of_type r.basic (reduced (combined_by r.operation r.basic) ps) ≡ Some b)
handed_all F r e ms ps b barrier is h g = absurd (grind arith)
handed_all F r e ms ps b bcast is h g = absurd (grind arith)
handed_all F r e ms ps b gather is h g = absurd (grind arith)
handed_all F r e ms ps b scatter is h g = absurd (grind arith)
handed_all F r e ms ps b reduce is h g = go (has_rank e ms r.root) h g
  where
    go : (t : Bool) → all_parts F (if t then ms else e ∷ []) ≡ Some ps →
        (if t then of_type r.basic (reduced (combined_by r.operation r.basic) ps) else None) ≡ Some b →
        (all_parts F ms ≡ Some ps) × (of_type r.basic (reduced (combined_by r.operation r.basic) ps) ≡ Some b)
    go true h g = (h, g)
    go false h g = absurd (grind arith)
handed_all F r e ms ps b allreduce is h g = (h, g)
handed_all F r e ms ps b dup is h g = absurd (grind arith)
handed_all F r e ms ps b split is h g = absurd (grind arith)

makes_none : (k : Kind) → is_reduction k ≡ true → is_making k ≡ false
makes_none barrier is = refl
makes_none bcast is = refl
makes_none gather is = refl
makes_none scatter is = refl
makes_none reduce is = refl
makes_none allreduce is = refl
makes_none dup is = absurd (grind arith)
makes_none split is = absurd (grind arith)

-- how the member stands that left
left_present : (g : Groups) (e : Endpoint) (c : Communicator) (k : ℕ) (p : Part) (ps : List Part) (t : Bool) →
    t ≡ false → ((leave_made g e c k p ps t).of e).present ≡
    Some (Out (Left (handed_to p.record_is e c.members ps p.record_is.kind)))
left_present g e c k p ps false q =
    ap (λ (u : Bool). (if u then left_with (g.of e) e c p ps false [] else g.of e).present) (same_refl e)
left_present g e c k p ps true q = absurd (grind arith)

-- with what elements it left
abbrev handed_out : Option Present → Option Contents
handed_out None = None
handed_out (Some (Inside c k p)) = None
handed_out (Some (Out (Left b))) = b
handed_out (Some (Out (Comm place))) = None
handed_out (Some (Out (Failed number))) = None

handed_is : (s : Machine) (e : Endpoint) (c : Communicator) (k : ℕ) (p : Part) (b : Contents) →
    (h : IsHanded s e c k p b) → handed_to p.record_is e c.members h.parts p.record_is.kind ≡ Some b
handed_is s e c k p b h =
    ap handed_out
    (sym (left_present s.groups e c k p h.parts (is_making p.record_is.kind)
    (makes_none p.record_is.kind h.reduction)) ∙ h.handed)

handed_parts : (s : Machine) (e : Endpoint) (c : Communicator) (k : ℕ) (p : Part) (b : Contents) →
    (h : IsHanded s e c k p b) →
    (all_parts (s.groups.entered c.context k) c.members ≡ Some h.parts) ×
    (of_type p.record_is.basic (reduced (combined_by p.record_is.operation p.record_is.basic) h.parts) ≡ Some b)
handed_parts s e c k p b h =
    handed_all (s.groups.entered c.context k) p.record_is e c.members h.parts b p.record_is.kind h.reduction
    h.may.entered (handed_is s e c k p b h)

-- the elements that are handed out are those of the fold of what all entered with
fold_handed : (s : Machine) (e : Endpoint) (c : Communicator) (k : ℕ) (p : Part) (b : Contents) →
    IsHanded s e c k p b →
    of_type p.record_is.basic
    (fold_of (combined_by p.record_is.operation p.record_is.basic) (contents_in s.groups c k)) ≡ Some b
fold_handed s e c k p b h =
    let parts = handed_parts s e c k p b h in
    ap (λ (xs : List (Option (List ℕ))). of_type p.record_is.basic
    (fold_of (combined_by p.record_is.operation p.record_is.basic) xs))
    (known (s.groups.entered c.context k) c.members h.parts parts.0)
    ∙ (ap (of_type p.record_is.basic)
    (sym (reduced_same (combined_by p.record_is.operation p.record_is.basic) h.parts)) ∙ parts.1)

pub same_contents : SameContentsSameResult
same_contents s s' e e' c c' k k' p p' b b' h h' op basic alike =
    same_Some b b'
    (sym (fold_handed s e c k p b h)
    ∙ ((λ t. of_type (basic t) (fold_of (combined_by (op t) (basic t)) (alike t)))
    ∙ fold_handed s' e' c' k' p' b' h'))
