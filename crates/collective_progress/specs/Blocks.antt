-- What the members of a collective hand in, as a rank knows it, and what is made of it (MPI 3.1, 5.4 to 5.9).
use Rattle.std.specs.Prelude.{ℕ, Bool, ◌*◌, ◌==◌, ◌&&◌, List, [], ◌∷◌, length, map, take, drop, find, fold, Option}
use Rattle.std.specs.Prelude.{Some, None, is_some, if◌then◌else◌}
use Rattle.std.specs.List.{flat_map, list_all}
use Rattle.collective_messages.specs.Notes.{member_at, tells_entry}
use Rattle.collective_messages.specs.declared.note.Note.{Note}
use Rattle.collective_messages.specs.declared.note.NoteContent.{NoteContent}
use Rattle.collective_messages.specs.declared.note.NoteContent.TheVariants as said
use Rattle.datatypes.specs.Combinations.{combined_values}
use Rattle.datatypes.specs.Contents.{Contents}
use Rattle.layouts.specs.Buffers.{is_same_type}
use Rattle.vocabulary.specs.declared.operation.Operation.{Operation}
use Rattle.reductions.specs.Operations.{combined, is_defined}
use Rattle.vocabulary.specs.Endpoints.{is_same}
use Rattle.vocabulary.specs.declared.endpoint.Endpoint.{Endpoint}

-- ---- what a member handed in

-- the elements that a message brings
abbrev pub block_said : NoteContent → Option Contents
block_said said.RecordsDiffer = None
block_said (said.Nothing way) = None
block_said (said.Elements way b) = Some b
block_said (said.Context c) = None
block_said (said.Choice choice) = None
block_said said.NullCommunicator = None
block_said (said.NewGroup c ranks) = None

-- the elements that a note brings, where there is one
abbrev pub block_of_note : Option Note → Option Contents
block_of_note None = None
block_of_note (Some n) = block_said n.said

-- whether a block is as many elements of the same type as another one
abbrev pub is_like : Contents → Contents → Bool
is_like mine b = is_same_type b.basic mine.basic && (length b.values == length mine.values)

-- a block, where it is like this one
abbrev pub like_mine : Contents → Option Contents → Option Contents
like_mine mine None = None
like_mine mine (Some b) = if is_like mine b then Some b else None

-- what a member handed in, as the rank at `own`, which handed in `mine`, knows it. All members of one collective hand
-- in as many elements of one type; another block counts as none
abbrev pub block_known : (own : Endpoint) → (mine : Contents) → (context number : ℕ) → List Note → Endpoint →
    Option Contents
block_known own mine c k notes x =
    if is_same x own then Some mine else like_mine mine (block_of_note (find (tells_entry c k x) notes))

-- what the members with these ranks handed in, in the order of these
abbrev pub blocks_known : (own : Endpoint) → (mine : Contents) → (incarnation context number : ℕ) → List Note →
    (ranks : List ℕ) → List (Option Contents)
blocks_known own mine i c k notes ranks = map (λ r. block_known own mine c k notes (member_at i r)) ranks

-- whether what each of these members handed in is known
abbrev pub are_known : (own : Endpoint) → (mine : Contents) → (incarnation context number : ℕ) → List Note →
    (ranks : List ℕ) → Bool
are_known own mine i c k notes ranks = list_all (λ r. is_some (block_known own mine c k notes (member_at i r))) ranks

-- ---- what is made of it

-- the elements of a block, where there is one
abbrev pub values_in : Option Contents → List ℕ
values_in None = []
values_in (Some b) = b.values

-- the blocks one after the other (5.5)
abbrev pub joined_values : List (Option Contents) → List ℕ
joined_values blocks = flat_map (λ b. values_in b) blocks

-- one more block, combined element by element with those before it
abbrev pub one_more : (ℕ → ℕ → ℕ) → List ℕ → Option Contents → List ℕ
one_more f all None = all
one_more f all (Some b) = combined_values f all b.values

-- the left fold of the blocks in their order, element by element (5.9)
abbrev pub folded_values : (ℕ → ℕ → ℕ) → List (Option Contents) → List ℕ
folded_values f [] = []
folded_values f (b ∷ bs) = fold (λ (all : List ℕ) (next : Option Contents). one_more f all next) (values_in b) bs

-- the fold by an operation, where that is defined on the type (5.9.2)
abbrev pub reduction_of : Operation → (mine : Contents) → List (Option Contents) → Option Contents
reduction_of o mine blocks =
    if is_defined o mine.basic
    then Some (record { basic = mine.basic; values = folded_values (combined o mine.basic) blocks })
    else None

-- the block at a place of what a root scatters, which has so many elements for each member (5.6)
abbrev pub block_at : (place count : ℕ) → List ℕ → List ℕ
block_at place count values = take count (drop (place * count) values)
