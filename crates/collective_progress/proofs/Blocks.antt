-- Lemmas on blocks: their bytes, and what is made of them.
use Rattle.std.proofs.Common.{◌≡◌, ℕ, ◌+◌, ◌*◌, ◌/◌, ◌%◌, ◌<◌, ◌≤◌, Bool, true, false, List, [], ◌∷◌, ◌++◌, length}
use Rattle.std.proofs.Common.{take, drop, map, get_or, refl, sym, ap, subst, ◌∙◌, arith, Option, Some, None}
use Rattle.std.proofs.Common.{if◌then◌else◌}
use Rattle.std.specs.Prelude.{◌==◌, ◌&&◌, find, fold}
use Rattle.std.proofs.Math.Nat.{mul-le-mul_right, add-mul}
use Rattle.std.proofs.lemmas.Bool.{eqb-true, false≢true}
use Rattle.std.proofs.lemmas.List.{append-nil, length-append, length-drop, map_more}
use Rattle.std.proofs.lemmas.List.Sums.{fold_push}
use Rattle.std.proofs.lemmas.Grind.{flat_map-append}
use Rattle.collective_progress.specs.Blocks.{block_known, block_of_note, folded_values, is_like, joined_values}
use Rattle.collective_progress.specs.Blocks.{like_mine, one_more, values_in}
use Rattle.collective_messages.specs.Notes.{tells_entry}
use Rattle.collective_messages.specs.declared.note.Note.{Note}
use Rattle.datatypes.specs.Combinations.{IsLike}
use Rattle.datatypes.specs.ContentLaws.{length-bytes_of, no_rest, sizes, values_of-append, values_of-bytes_of}
use Rattle.datatypes.specs.ContentLaws.{values_of-drop, values_of-take, whole}
use Rattle.datatypes.specs.Contents.{AreWithin, Contents, bytes_of, values_of}
use Rattle.layouts.specs.Buffers.{is_same_type}
use Rattle.vocabulary.specs.BasicTypes.{code_of, size_of, type_at}
use Rattle.vocabulary.specs.Endpoints.{is_same}
use Rattle.vocabulary.specs.declared.basic_type.BasicType.{BasicType}
use Rattle.vocabulary.specs.declared.basic_type.BasicType.TheVariants.{Int8, Int16, Int32, Int64, Uint8, Uint16, Uint32}
use Rattle.vocabulary.specs.declared.basic_type.BasicType.TheVariants.{Uint64, Byte, Float32, Float64}
use Rattle.vocabulary.specs.declared.endpoint.Endpoint.{Endpoint}

-- ---- the bytes of blocks

-- one more block
pub joined_more : (f : ℕ → Option Contents) (ranks : List ℕ) (k d : ℕ) → k < length ranks
    → joined_values (map f (take (k + 1) ranks)) ≡ joined_values (map f (take k ranks)) ++
    values_in (f (get_or ranks k d))
joined_more f ranks k d lt =
    ap joined_values (map_more f ranks k d lt)
    ∙ flat_map-append (λ b. values_in b) (map f (take k ranks)) (f (get_or ranks k d) ∷ [])
    ∙ ap (λ (t : List ℕ). joined_values (map f (take k ranks)) ++ t) (append-nil (values_in (f (get_or ranks k d))))

-- the elements of bytes with those of one more block behind them
pub joined_step : (basic : BasicType) (bytes values : List ℕ) → length bytes % size_of basic ≡ 0 →
    AreWithin (size_of basic) values
    → values_of (size_of basic) (bytes ++ bytes_of (size_of basic) values) ≡ values_of (size_of basic) bytes ++ values
joined_step basic bytes values rest within =
    let size = size_of basic in
    let positive = (sizes basic).positive in
    values_of-append size bytes (bytes_of size values) positive rest
    ∙ ap (λ (t : List ℕ). values_of size bytes ++ t) (values_of-bytes_of size values positive within)

-- no bytes are those of whole elements
pub whole_none : (basic : BasicType) → 0 % size_of basic ≡ 0
whole_none basic = no_rest (size_of basic) 0 [] (sizes basic).positive (omega arith)

-- they are those of whole elements
pub whole_step : (basic : BasicType) (bytes values : List ℕ) → length bytes % size_of basic ≡ 0
    → length (bytes ++ bytes_of (size_of basic) values) % size_of basic ≡ 0
whole_step basic bytes values rest =
    let size = size_of basic in
    let n = length bytes / size in
    let front : length bytes ≡ n * size = whole size bytes rest in
    let back : length (bytes_of size values) ≡ length values * size = length-bytes_of size values in
    let both : (n + length values) * size ≡ n * size + length values * size = add-mul n (length values) size in
    let len : length (bytes ++ bytes_of size values) ≡ (n + length values) * size = omega (arith, length-append bytes (bytes_of size values)) in
    no_rest size (n + length values) (bytes ++ bytes_of size values) (sizes basic).positive len

-- ---- blocks that are alike

-- the type that a code stands for is the one whose code it is
code_back : (a : BasicType) → type_at (code_of a) ≡ Some a
code_back Int8 = refl
code_back Int16 = refl
code_back Int32 = refl
code_back Int64 = refl
code_back Uint8 = refl
code_back Uint16 = refl
code_back Uint32 = refl
code_back Uint64 = refl
code_back Byte = refl
code_back Float32 = refl
code_back Float64 = refl

-- the type that is there
abbrev type_in : Option BasicType → BasicType
type_in None = Byte
type_in (Some a) = a

-- types with one code are one
pub same_type : (a b : BasicType) → is_same_type a b ≡ true → a ≡ b
same_type a b same = ap type_in (sym (code_back a) ∙ ap type_at (eqb-true (code_of a) (code_of b) same) ∙ code_back b)

-- what is like a block has its type and as many elements
pub alike : (mine b : Contents) → is_like mine b ≡ true → IsLike mine.basic mine.values b
alike mine b like = by (is_same_type b.basic mine.basic) (length b.values == length mine.values) refl refl like
  where
    by : (s l : Bool) → is_same_type b.basic mine.basic ≡ s → (length b.values == length mine.values) ≡ l →
        (s && l) ≡ true → IsLike mine.basic mine.values b
    by true true same len both =
        record {
          basic_is = same_type b.basic mine.basic same;
          len =
              eqb-true (length b.values) (length mine.values) len;
        }
    by true false same len both = absurd (false≢true both)
    by false true same len both = absurd (false≢true both)
    by false false same len both = absurd (false≢true both)

-- a block that may be there is like this one
abbrev MayBeLike : Contents → Option Contents → Type 0
MayBeLike mine None = Unit {0}
MayBeLike mine (Some b) = IsLike mine.basic mine.values b

-- what is kept of a block that may be like mine is
like_is : (mine : Contents) (o : Option Contents) (b : Contents) → like_mine mine o ≡ Some b →
    IsLike mine.basic mine.values b
like_is mine None b is = subst (λ (o : Option Contents). MayBeLike mine o) is tt
like_is mine (Some x) b is = by (is_like mine x) refl is
  where
    by : (t : Bool) → is_like mine x ≡ t → (if t then Some x else None) ≡ Some b → IsLike mine.basic mine.values b
    by true like here = subst (λ (o : Option Contents). MayBeLike mine o) here (alike mine x like)
    by false like here = subst (λ (o : Option Contents). MayBeLike mine o) here tt

-- what is known of a member is like one's own
pub known_like : (own : Endpoint) (mine : Contents) (c k : ℕ) (notes : List Note) (x : Endpoint) (b : Contents)
    → block_known own mine c k notes x ≡ Some b → IsLike mine.basic mine.values b
known_like own mine c k notes x b is = by (is_same x own) is
  where
    by : (t : Bool) → (if t then Some mine else like_mine mine (block_of_note (find (tells_entry c k x) notes))) ≡
        Some b → IsLike mine.basic mine.values b
    by true here = subst (λ (o : Option Contents). MayBeLike mine o) here (record { basic_is = refl; len = refl })
    by false here = like_is mine (block_of_note (find (tells_entry c k x) notes)) b here

-- ---- folds

-- the fold of anything behind no elements has none
pub fold_none : (f : ℕ → ℕ → ℕ) (bs : List (Option Contents)) →
    fold (λ (all : List ℕ) (next : Option Contents). one_more f all next) [] bs ≡ []
fold_none f [] = refl
fold_none f (None ∷ bs) = fold_none f bs
fold_none f (Some b ∷ bs) = fold_none f bs

-- one more block is combined
pub fold_more_blocks : (f : ℕ → ℕ → ℕ) (of : ℕ → Option Contents) (first : List ℕ) (ranks : List ℕ) (k d : ℕ) →
    k < length ranks
    → fold (λ (all : List ℕ) (next : Option Contents). one_more f all next) first (map of (take (k + 1) ranks))
    ≡ one_more f (fold (λ (all : List ℕ) (next : Option Contents). one_more f all next) first (map of (take k ranks)))
    (of (get_or ranks k d))
fold_more_blocks f of first ranks k d lt =
    ap (fold (λ (all : List ℕ) (next : Option Contents). one_more f all next) first) (map_more of ranks k d lt)
    ∙ fold_push (λ (all : List ℕ) (next : Option Contents). one_more f all next) first (map of (take k ranks))
    (of (get_or ranks k d))

-- a fold that begins with a block
pub folded_from : (f : ℕ → ℕ → ℕ) (of : ℕ → Option Contents) (ranks rest : List ℕ) (first : ℕ) (b : Contents) →
    ranks ≡ first ∷ rest → of first ≡ Some b
    → folded_values f (map of ranks) ≡ fold (λ (all : List ℕ) (next : Option Contents). one_more f all next) b.values
    (map of rest)
folded_from f of ranks rest first b cons is =
    ap (λ (rs : List ℕ). folded_values f (map of rs)) cons
    ∙ ap (λ (o : Option Contents). fold (λ (all : List ℕ) (next : Option Contents). one_more f all next) (values_in o)
    (map of rest)) is

-- a fold that begins with none
pub folded_none : (f : ℕ → ℕ → ℕ) (of : ℕ → Option Contents) (ranks rest : List ℕ) (first : ℕ) → ranks ≡ first ∷ rest →
    of first ≡ None
    → folded_values f (map of ranks) ≡ []
folded_none f of ranks rest first cons is =
    ap (λ (rs : List ℕ). folded_values f (map of rs)) cons
    ∙ ap (λ (o : Option Contents). fold (λ (all : List ℕ) (next : Option Contents). one_more f all next) (values_in o)
    (map of rest)) is
    ∙ fold_none f (map of rest)
