-- What is made: weaker conditions, and maps that compute to one another.
use Rattle.std.proofs.Common.{◌≡◌, ℕ, zero, suc, ◌+◌, ◌<◌, ◌≤◌, ◌∙◌, refl, sym, ap, subst, false, ◌||◌}
use Rattle.std.proofs.Common.{List, [], ◌∷◌, ◌++◌, take, drop, length, get_or, append_assoc, arith, w64, to_z, of_z}
use Rattle.std.proofs.Math.IntN.{ℤ, pos, ◌+ℤ◌, ◌*ℤ◌, +ℤ_idl}
use Rattle.std.specs.Prelude.{Result, Ok, Err, Some, slice_get, unsigned_abs}
use Rattle.std.proofs.lemmas.List.{append-nil, take-map, take_all}
use Rattle.std.proofs.lemmas.Bool.{le-ltb}
use Rattle.std.proofs.lemmas.Int.{to_z-of_z}
use mir.Val.{SFits}
use Rattle.type_maps.specs.declared.blocks.Dimension.{Dimension}
use Rattle.type_maps.specs.declared.indexed.Member.{Member}
use Rattle.type_maps.specs.Members.{AreMembers}
use Rattle.type_maps.specs.declared.blocks.Block.{Block}
use Rattle.type_maps.specs.Constructors.{part_of_rows}
use Rattle.type_maps.specs.Constructors.{block, blocks_with, contiguous, hindexed, hvector, part_of_row, resized}
use Rattle.type_maps.specs.Constructors.{vector, struct_of}
use Rattle.type_maps.specs.Summaries.{extent, summary_of}
use Rattle.std.specs.Int.{is_negative}
use Rattle.type_maps.specs.declared.building.Building.{Building}
use Rattle.type_maps.specs.declared.datatype.Datatype.{Datatype}
use Rattle.type_maps.specs.declared.places.Places.{Places}
use Rattle.type_maps.specs.declared.refusal.Refusal.{Refusal}
use Rattle.type_maps.specs.declared.refusal.Refusal.TheVariants.{NegativeCount, TooLarge, WrongArray, OutOfMemory}
use Rattle.type_maps.specs.Maps.{Map, copied, joined, no_elements, places_of}
use Rattle.type_maps.specs.Refusals.{BoundsFit, Fits, RefusedUnless}
use Rattle.type_maps.specs.Types.{AddFits, BlocksFit, CopiedFits, IsBuilt, IsTypeOf, Makes, MakesIf}
use Rattle.type_maps.specs.Types.{PartFits, PartsFit, PlacesInBytesFit, ResizedFits, RowsFit, StructFits, VectorFits}
use Rattle.type_maps.specs.Types.{after_blocks, in_a_row, rows_apart}

pub refused_under : (P Q : Type 0) (e : Refusal) → (Q → P) → RefusedUnless P e → RefusedUnless Q e
refused_under P Q NegativeCount f h = h
refused_under P Q TooLarge f h = λ q. h (f q)
refused_under P Q WrongArray f h = h
refused_under P Q OutOfMemory f h = tt

pub makes_under : (P Q : Type 0) (m : Map) (r : Result Datatype Refusal) → (Q → P) → MakesIf P m r → MakesIf Q m r
makes_under P Q m (Ok t) f h = h
makes_under P Q m (Err e) f h = refused_under P Q e f h

pub added_fits : (m : Map) (p : Places) → CopiedFits p m → AddFits no_elements m p
added_fits m p f = record { places = f.places; copies = f.copies; all = f.copies }

-- a count that isn't negative
pub makes_counted : (z : ℤ) (P : Type 0) (m : Map) (r : Result Datatype Refusal) → is_negative z ≡ false → MakesIf P m
    r →
    Makes (is_negative z) P m r
makes_counted z P m (Ok t) e h = (e, h)
makes_counted z P m (Err NegativeCount) e h = absurd h
makes_counted z P m (Err TooLarge) e h = (e, h)
makes_counted z P m (Err WrongArray) e h = absurd h
makes_counted z P m (Err OutOfMemory) e h = e

not_negative : (n : ℕ) → is_negative (pos n) ≡ false
not_negative n = le-ltb n 0 (omega arith)

pub neither_negative : (y z : ℤ) (k n : ℕ) → y ≡ pos k → z ≡ pos n → (is_negative y || is_negative z) ≡ false
neither_negative y z k n yi zi = λ t. (ap is_negative yi ∙ not_negative k) t || (ap is_negative zi ∙ not_negative n) t

-- a count that was passed
pub count_is : (z : ℤ) (n : ℕ) → SFits w64 z → to_z w64 (of_z w64 z) ≡ pos n → z ≡ pos n
count_is z n f e = sym (to_z-of_z w64 z f) ∙ e

pub contiguous_made : (z : ℤ) (n : ℕ) (m : Map) (p : Places) (r : Result Datatype Refusal) → z ≡ pos n →
    p ≡ in_a_row (pos 0) n m → MakesIf (CopiedFits p m) (copied (places_of p) m) r →
    Makes (is_negative z) (CopiedFits (in_a_row (pos 0) (unsigned_abs z) m) m) (contiguous (unsigned_abs z) m) r
contiguous_made z n m p r zi pi h =
    subst (λ (x : ℤ). Makes (is_negative x) (CopiedFits (in_a_row (pos 0) (unsigned_abs x) m) m)
    (contiguous (unsigned_abs x) m) r) (sym zi)
    (makes_counted (pos n) (CopiedFits (in_a_row (pos 0) n m) m) (contiguous n m) r (not_negative n)
    (subst (λ (x : Places). MakesIf (CopiedFits x m) (copied (places_of x) m) r) pi h))

-- rows of copies
pub row_refused : (count n : ℕ) (stride : ℤ) (m : Map) (p : Places) (e : Refusal) → p ≡ in_a_row (pos 0) n m →
    RefusedUnless (CopiedFits p m) e → RefusedUnless (RowsFit count n stride m) e
row_refused count n stride m p e pi h =
    refused_under (CopiedFits p m) (RowsFit count n stride m) e
    (λ f. subst (λ (x : Places). CopiedFits x m) (sym pi) f.row) h

pub rows_made : (count n : ℕ) (stride : ℤ) (m : Map) (p q : Places) (t : Datatype) (r : Result Datatype Refusal) →
    p ≡ in_a_row (pos 0) n m → IsTypeOf (copied (places_of p) m) t → q ≡ rows_apart count stride →
    ((x : Map) → IsTypeOf x t → MakesIf (CopiedFits q x) (copied (places_of q) x) r) →
    MakesIf (RowsFit count n stride m) (hvector count n stride m) r
rows_made count n stride m p q t r pi is qi h =
    makes_under (CopiedFits (rows_apart count stride) (contiguous n m)) (RowsFit count n stride m)
    (hvector count n stride m) r
    (λ f. f.rows)
    (subst (λ (x : Places). MakesIf (CopiedFits x (contiguous n m)) (copied (places_of x) (contiguous n m)) r) qi
    (h (contiguous n m) (subst (λ (x : Places). IsTypeOf (copied (places_of x) m) t) pi is)))

-- two counts
pub makes_counted_twice : (y z : ℤ) (P : Type 0) (m : Map) (r : Result Datatype Refusal) →
    (is_negative y || is_negative z) ≡ false →
    MakesIf P m r → Makes (is_negative y || is_negative z) P m r
makes_counted_twice y z P m (Ok t) e h = (e, h)
makes_counted_twice y z P m (Err NegativeCount) e h = absurd h
makes_counted_twice y z P m (Err TooLarge) e h = (e, h)
makes_counted_twice y z P m (Err WrongArray) e h = absurd h
makes_counted_twice y z P m (Err OutOfMemory) e h = e

pub hvector_made : (y z : ℤ) (count n : ℕ) (stride : ℤ) (m : Map) (r : Result Datatype Refusal) → y ≡ pos count → z ≡
    pos n →
    MakesIf (RowsFit count n stride m) (hvector count n stride m) r →
    Makes (is_negative y || is_negative z) (RowsFit (unsigned_abs y) (unsigned_abs z) stride m)
    (hvector (unsigned_abs y) (unsigned_abs z) stride m) r
hvector_made y z count n stride m r yi zi h =
    subst (λ (x : ℤ). Makes (is_negative x || is_negative z) (RowsFit (unsigned_abs x) (unsigned_abs z) stride m)
    (hvector (unsigned_abs x) (unsigned_abs z) stride m) r) (sym yi)
    (subst (λ (x : ℤ). Makes (is_negative (pos count) || is_negative x) (RowsFit count (unsigned_abs x) stride m)
    (hvector count (unsigned_abs x) stride m) r) (sym zi)
    (makes_counted_twice (pos count) (pos n) (RowsFit count n stride m) (hvector count n stride m) r
    (neither_negative (pos count) (pos n) count n refl refl) h))

pub vector_made : (y z : ℤ) (count n : ℕ) (stride bytes : ℤ) (m : Map) (r : Result Datatype Refusal) → y ≡ pos count →
    z ≡ pos n →
    bytes ≡ stride *ℤ extent m → MakesIf (RowsFit count n bytes m) (hvector count n bytes m) r →
    Makes (is_negative y || is_negative z) (VectorFits (unsigned_abs y) (unsigned_abs z) stride m)
    (vector (unsigned_abs y) (unsigned_abs z) stride m) r
vector_made y z count n stride bytes m r yi zi bi h =
    subst (λ (x : ℤ). Makes (is_negative x || is_negative z) (VectorFits (unsigned_abs x) (unsigned_abs z) stride m)
    (vector (unsigned_abs x) (unsigned_abs z) stride m) r) (sym yi)
    (subst (λ (x : ℤ). Makes (is_negative (pos count) || is_negative x) (VectorFits count (unsigned_abs x) stride m)
    (vector count (unsigned_abs x) stride m) r) (sym zi)
    (makes_counted_twice (pos count) (pos n) (VectorFits count n stride m) (vector count n stride m) r
    (neither_negative (pos count) (pos n) count n refl refl)
    (makes_under (RowsFit count n (stride *ℤ extent m) m) (VectorFits count n stride m) (vector count n stride m) r
    (λ f. f.rows)
    (subst (λ (x : ℤ). MakesIf (RowsFit count n x m) (hvector count n x m) r) bi h))))

-- ---- blocks

joined_assoc : (a b c : Map) → joined (joined a b) c ≡ joined a (joined b c)
joined_assoc a b c = λ t. record {
  elements = append_assoc a.elements b.elements c.elements t;
  lower_marks = append_assoc a.lower_marks b.lower_marks c.lower_marks t;
  upper_marks = append_assoc a.upper_marks b.upper_marks c.upper_marks t;
}

joined_none : (a : Map) → joined a no_elements ≡ a
joined_none a = λ t. record {
  elements = append-nil a.elements t;
  lower_marks = append-nil a.lower_marks t;
  upper_marks = append-nil a.upper_marks t;
}

blocks_joined : (m : Map) (ps : List (Block × Map)) → after_blocks m ps ≡ joined m (struct_of ps)
blocks_joined m [] = sym (joined_none m)
blocks_joined m (p ∷ ps) =
    blocks_joined (joined m (block p.0.at p.0.length p.1)) ps ∙ joined_assoc m (block p.0.at p.0.length p.1)
    (struct_of ps)

pub blocks_are_struct : (ps : List (Block × Map)) → after_blocks no_elements ps ≡ struct_of ps
blocks_are_struct ps = blocks_joined no_elements ps

after_append : (m : Map) (ps qs : List (Block × Map)) → after_blocks m (ps ++ qs) ≡ after_blocks (after_blocks m ps) qs
after_append m [] qs = refl
after_append m (p ∷ ps) qs = after_append (joined m (block p.0.at p.0.length p.1)) ps qs

one_more : {X : Type 0} (ps : List X) (i : ℕ) (p : X) → slice_get ps i ≡ Some p → take (i + 1) ps ≡ take i ps ++ p ∷ []
one_more [] i p is = absurd cc
one_more (q ∷ ps) zero p is = let e : q ≡ p = cc in λ t. e t ∷ []
one_more {X} (q ∷ ps) (suc i) p is = ap (λ (n : ℕ). take n (q ∷ ps)) (next i) ∙ ap (λ (xs : List X). q ∷ xs)
    (one_more ps i p is)
  where
    next : (i : ℕ) → suc i + 1 ≡ suc (i + 1)
    next i = omega arith

-- one more block
pub after_more : (m : Map) (ps : List (Block × Map)) (i : ℕ) (p : Block × Map) → slice_get ps i ≡ Some p →
    after_blocks m (take (i + 1) ps) ≡ joined (after_blocks m (take i ps)) (block p.0.at p.0.length p.1)
after_more m ps i p is = ap (after_blocks m) (one_more ps i p is) ∙ after_append m (take i ps) (p ∷ [])

-- the block at a place, of blocks of one map
pub block_at : (bs : List Block) (n : Map) (i : ℕ) (b : Block) → slice_get bs i ≡ Some b →
    slice_get (blocks_with bs n) i ≡ Some (b, n)
block_at [] n i b is = absurd cc
block_at (x ∷ bs) n zero b is = let e : x ≡ b = cc in λ t. Some (e t, n)
block_at (x ∷ bs) n (suc i) b is = block_at bs n i b is

pub blocks_taken : (bs : List Block) (n : Map) (i : ℕ) → blocks_with (take i bs) n ≡ take i (blocks_with bs n)
blocks_taken bs n i = sym (take-map (λ b. (b, n)) i bs)

got : {X : Type 0} (xs : List X) (i : ℕ) (d : X) → i < length xs → slice_get xs i ≡ Some (get_or xs i d)
got [] i d h = absurd (omega arith)
got (x ∷ xs) zero d h = refl
got (x ∷ xs) (suc i) d h = let g : i < length xs = omega arith in got xs i d g

-- a step of the loop over blocks of one map
pub block_built : (m n : Map) (bs : List Block) (i : ℕ) (d : Block) (made : Building) → i < length bs →
    IsBuilt (joined (after_blocks m (blocks_with (take i bs) n)) (block (get_or bs i d).at (get_or bs i d).length n))
    made →
    IsBuilt (after_blocks m (blocks_with (take (i + 1) bs) n)) made
block_built m n bs i d made less h =
    subst (λ (y : Map). IsBuilt y made) (sym (ap (after_blocks m) (blocks_taken bs n (i + 1)) ∙
    after_more m (blocks_with bs n) i (get_or bs i d, n) (block_at bs n i (get_or bs i d) (got bs i d less)) ∙
    (λ t. joined (after_blocks m (sym (blocks_taken bs n i) t)) (block (get_or bs i d).at (get_or bs i d).length n)))) h

pub block_refused : (m n : Map) (bs : List Block) (i : ℕ) (d : Block) (e : Refusal) → i < length bs →
    RefusedUnless (AddFits (after_blocks m (blocks_with (take i bs) n)) n
    (in_a_row (get_or bs i d).at (get_or bs i d).length n)) e →
    RefusedUnless (BlocksFit m (blocks_with bs n)) e
block_refused m n bs i d e less h =
    refused_under (AddFits (after_blocks m (blocks_with (take i bs) n)) n
    (in_a_row (get_or bs i d).at (get_or bs i d).length n))
    (BlocksFit m (blocks_with bs n)) e
    (λ f. subst (λ (xs : List (Block × Map)). AddFits (after_blocks m xs) n
    (in_a_row (get_or bs i d).at (get_or bs i d).length n))
    (sym (blocks_taken bs n i)) (f i (get_or bs i d, n) (block_at bs n i (get_or bs i d) (got bs i d less)))) h

pub all_blocks : (m n : Map) (bs : List Block) (i : ℕ) (made : Building) → length bs ≤ i →
    IsBuilt (after_blocks m (blocks_with (take i bs) n)) made → IsBuilt (after_blocks m (blocks_with bs n)) made
all_blocks m n bs i made far h = subst (λ (xs : List Block). IsBuilt (after_blocks m (blocks_with xs n)) made)
    (take_all i bs far) h

pub blocks_made : (n : Map) (bs : List Block) (r : Result Datatype Refusal) →
    MakesIf (BoundsFit (summary_of (after_blocks no_elements (blocks_with bs n))))
    (after_blocks no_elements (blocks_with bs n)) r →
    MakesIf (StructFits (blocks_with bs n)) (hindexed bs n) r
blocks_made n bs r h =
    makes_under (BoundsFit (summary_of (struct_of (blocks_with bs n)))) (StructFits (blocks_with bs n))
    (hindexed bs n) r
    (λ f. f.bounds)
    (subst (λ (x : Map). MakesIf (BoundsFit (summary_of x)) x r) (blocks_are_struct (blocks_with bs n)) h)

pub parts_made : (ps : List (Block × Map)) (r : Result Datatype Refusal) →
    MakesIf (BoundsFit (summary_of (after_blocks no_elements ps))) (after_blocks no_elements ps) r →
    MakesIf (StructFits ps) (struct_of ps) r
parts_made ps r h =
    makes_under (BoundsFit (summary_of (struct_of ps))) (StructFits ps) (struct_of ps) r (λ f. f.bounds)
    (subst (λ (x : Map). MakesIf (BoundsFit (summary_of x)) x r) (blocks_are_struct ps) h)

pub parts_refused : (ps : List (Block × Map)) (e : Refusal) → RefusedUnless (BlocksFit no_elements ps) e →
    RefusedUnless (StructFits ps) e
parts_refused ps e h = refused_under (BlocksFit no_elements ps) (StructFits ps) e (λ f. f.blocks) h

-- ---- members

there : {X : Type 0} (xs : List X) (i : ℕ) → i < length xs → (x : X) × (slice_get xs i ≡ Some x)
there [] i h = absurd (omega arith)
there (x ∷ xs) zero h = (x, refl)
there (x ∷ xs) (suc i) h = let g : i < length xs = omega arith in there xs i g

member_here : (xs : List Member) (i : ℕ) (x : Member) → i < length xs → x ≡ get_or xs i x → slice_get xs i ≡ Some x
member_here xs i x h is = got xs i x h ∙ (λ t. Some (sym is t))

-- at a member: its part of the struct, and what adding it gives
pub member_built : (m : Map) (ps : List (Block × Map)) (xs : List Member) (i : ℕ) (x : Member) (made : Building) →
    i < length xs → x ≡ get_or xs i x → AreMembers ps xs →
    ((n : Map) → IsTypeOf n x.item.now →
    IsBuilt (joined (after_blocks m (take i ps)) (block x.block.at x.block.length n)) made) →
    IsBuilt (after_blocks m (take (i + 1) ps)) made
member_built m ps xs i x made less is a h =
    let here : i < length ps = omega (arith, a.length_is) in
    let found = there ps i here in let p = found.0 in let at = member_here xs i x less is in
    subst (λ (y : Map). IsBuilt y made)
    (sym (after_more m ps i p found.1 ∙ (λ t. joined (after_blocks m (take i ps))
    (block (a.block i p x found.1 at t).at (a.block i p x found.1 at t).length p.1)))) (h p.1 (a.item i p x found.1 at))

pub member_refused : (m : Map) (ps : List (Block × Map)) (xs : List Member) (i : ℕ) (x : Member) (e : Refusal) →
    i < length xs → x ≡ get_or xs i x → AreMembers ps xs →
    ((n : Map) → IsTypeOf n x.item.now →
    RefusedUnless (AddFits (after_blocks m (take i ps)) n (in_a_row x.block.at x.block.length n)) e) →
    RefusedUnless (BlocksFit m ps) e
member_refused m ps xs i x e less is a h =
    let here : i < length ps = omega (arith, a.length_is) in
    let found = there ps i here in let p = found.0 in let at = member_here xs i x less is in
    refused_under (AddFits (after_blocks m (take i ps)) p.1 (in_a_row x.block.at x.block.length p.1)) (BlocksFit m ps) e
    (λ f. subst (λ (b : Block). AddFits (after_blocks m (take i ps)) p.1 (in_a_row b.at b.length p.1))
    (a.block i p x found.1 at)
    (f i p found.1)) (h p.1 (a.item i p x found.1 at))

pub all_members : (m : Map) (ps : List (Block × Map)) (xs : List Member) (i : ℕ) (made : Building) → length xs ≤ i →
    AreMembers ps xs → IsBuilt (after_blocks m (take i ps)) made → IsBuilt (after_blocks m ps) made
all_members m ps xs i made far a h =
    let g : length ps ≤ i = omega (arith, a.length_is) in
    subst (λ (ys : List (Block × Map)). IsBuilt (after_blocks m ys) made) (take_all i ps g) h

-- ---- bounds marked

abbrev pub marked : ℤ → ℤ → Map → Map
marked l u m = record m { lower_marks = l ∷ []; upper_marks = u ∷ [] }

pub resized_made : (lower ext l u : ℤ) (m : Map) (r : Result Datatype Refusal) → l ≡ lower → u ≡ lower +ℤ ext →
    MakesIf (BoundsFit (summary_of (marked l u m))) (marked l u m) r → MakesIf (ResizedFits lower ext m)
    (resized lower ext m) r
resized_made lower ext l u m r li ui h =
    makes_under (BoundsFit (summary_of (resized lower ext m))) (ResizedFits lower ext m) (resized lower ext m) r
    (λ f. f.bounds)
    (subst (λ (x : ℤ). MakesIf (BoundsFit (summary_of (marked lower x m))) (marked lower x m) r) ui
    (subst (λ (x : ℤ). MakesIf (BoundsFit (summary_of (marked x u m))) (marked x u m) r) li h))

pub part_made : (d : Dimension) (m : Map) (p : Places) (u : ℤ) (r : Result Datatype Refusal) →
    p ≡ in_a_row (pos d.start *ℤ extent m) d.subsize m → u ≡ pos d.size *ℤ extent m →
    MakesIf (BoundsFit (summary_of (marked (pos 0) u (copied (places_of p) m))))
    (marked (pos 0) u (copied (places_of p) m)) r →
    MakesIf (PartFits d m) (part_of_row d m) r
part_made d m p u r pi ui h =
    makes_under (BoundsFit (summary_of (part_of_row d m))) (PartFits d m) (part_of_row d m) r (λ f. f.bounds)
    (subst (λ (x : ℤ). MakesIf (BoundsFit (summary_of (marked (pos 0) x (block (pos d.start *ℤ extent m) d.subsize m))))
    (marked (pos 0) x (block (pos d.start *ℤ extent m) d.subsize m)) r) (ui ∙ sym (+ℤ_idl (pos d.size *ℤ extent m)))
    (subst (λ (q : Places). MakesIf (BoundsFit (summary_of (marked (pos 0) u (copied (places_of q) m))))
    (marked (pos 0) u (copied (places_of q) m)) r) pi h))

pub part_refused : (d : Dimension) (m : Map) (p : Places) (e : Refusal) →
    p ≡ in_a_row (pos d.start *ℤ extent m) d.subsize m → RefusedUnless (AddFits no_elements m p) e →
    RefusedUnless (PartFits d m) e
part_refused d m p e pi h =
    refused_under (AddFits no_elements m p) (PartFits d m) e (λ f. subst (λ (q : Places). AddFits no_elements m q)
    (sym pi) f.copies) h

pub place_fits : (ext : ℤ) (bs : List Block) (i : ℕ) (d : Block) → i < length bs → PlacesInBytesFit ext bs →
    Fits ((get_or bs i d).at *ℤ ext)
place_fits ext [] i d h f = absurd (omega arith)
place_fits ext (b ∷ bs) zero d h f = f.0
place_fits ext (b ∷ bs) (suc i) d h f = let g : i < length bs = omega arith in place_fits ext bs i d g f.1

pub word_place_fits : (ext : ℤ) (bs : List Block) (i : ℕ) (d : Block) → i < length bs → SFits w64 ext →
    PlacesInBytesFit ext bs →
    Fits ((get_or bs i d).at *ℤ to_z w64 (of_z w64 ext))
word_place_fits ext bs i d h g f =
    subst (λ (x : ℤ). Fits ((get_or bs i d).at *ℤ x)) (sym (to_z-of_z w64 ext g)) (place_fits ext bs i d h f)

-- a first dimension, and the others
pub parts_of_rows_made : (ds : List Dimension) (d : Dimension) (m : Map) (part : Datatype)
    (r : Result Datatype Refusal) →
    0 < length ds → IsTypeOf (part_of_row (get_or ds 0 d) m) part →
    ((x : Map) → IsTypeOf x part → MakesIf (PartsFit (drop 1 ds) x) (part_of_rows (drop 1 ds) x) r) →
    MakesIf (PartsFit ds m) (part_of_rows ds m) r
parts_of_rows_made [] d m part r some is h = absurd (omega arith)
parts_of_rows_made (x ∷ ds) d m part r some is h =
    makes_under (PartsFit ds (part_of_row x m)) (PartsFit (x ∷ ds) m) (part_of_rows ds (part_of_row x m)) r (λ f. f.1)
    (h (part_of_row x m) is)
