-- The rules on what a rank enters a collective with (MPI 3.1, 5.4 to 5.9).
use Rattle.std.specs.Prelude.{ℕ, Bool, true, false, ◌*◌, ◌-◌, ◌==◌, ◌&&◌, ◌||◌, not, length, Option, Some, None, nat_le}
use Rattle.std.specs.Prelude.{nat_lt, if◌then◌else◌}
use Rattle.collective_progress.specs.declared.rules.Rule.{Rule}
use Rattle.collective_progress.specs.declared.rules.Rule.TheVariants.{WrongType, WrongCount, NoRoot, NotDefined}
use Rattle.collective_messages.specs.Entries.{record_of}
use Rattle.collective_messages.specs.Ways.{root_of}
use Rattle.collective_messages.specs.declared.entry.Entry.{Entry}
use Rattle.collective_messages.specs.declared.entry.Entry.TheVariants.{Bcast, Gather, Scatter, Reduce, Allreduce}
use Rattle.datatypes.specs.Contents.{Contents}
use Rattle.layouts.specs.Buffers.{is_same_type}
use Rattle.payload.specs.Spellings.{elements_of}
use Rattle.payload.specs.declared.record.Elements.{Elements}
use Rattle.reductions.specs.Operations.{is_defined}
use Rattle.vocabulary.specs.BasicTypes.{size_of}

-- the most bytes of a member's block in a job whose messages have at most so many (own)
abbrev pub block_limit : (limit : ℕ) → ℕ
block_limit limit = limit - 16

-- how many bytes one member's block has
abbrev pub block_bytes : Option Elements → ℕ
block_bytes None = 0
block_bytes (Some e) = e.count * size_of e.basic

-- whether the elements of a scatter are of another type than its blocks (5.6)
abbrev pub is_other_type : Entry → Bool
is_other_type (Scatter r (Some all)) = not (is_same_type all.basic r.elements.basic)
is_other_type _ = false

-- how many elements there are, where there are any
abbrev pub total_of : Option Contents → ℕ
total_of None = 0
total_of (Some all) = length all.values

-- whether the elements of a scatter are another number than a block for each of so many members has (5.6)
abbrev pub is_wrong_total : (size : ℕ) → Entry → Bool
is_wrong_total size (Scatter r all) = not (total_of all == size * r.elements.count)
is_wrong_total size _ = false

-- whether a collective has a root
abbrev pub is_rooted : Entry → Bool
is_rooted (Bcast root b) = true
is_rooted (Gather root b) = true
is_rooted (Scatter r b) = true
is_rooted (Reduce o root b) = true
is_rooted _ = false

-- whether the operation isn't defined on the type (5.9.2)
abbrev pub is_undefined : Entry → Bool
is_undefined (Reduce o root b) = not (is_defined o b.basic)
is_undefined (Allreduce o b) = not (is_defined o b.basic)
is_undefined _ = false

-- the number of a rule
abbrev pub number_of_rule : Rule → ℕ
number_of_rule WrongType = 2
number_of_rule WrongCount = 1
number_of_rule NoRoot = 7
number_of_rule NotDefined = 9

-- the first rule of 2, 1, 7 and 9 that what is entered breaks. Those on a scatter's elements hold of its root alone
abbrev pub rule_broken : (limit : ℕ) → (is_root : Bool) → (size : ℕ) → Entry → Option Rule
rule_broken limit is_root size e =
    if is_root && is_other_type e then Some WrongType else
    (if nat_lt (block_limit limit) (block_bytes (elements_of (record_of e))) || (is_root && is_wrong_total size e) then
    Some WrongCount else
    (if is_rooted e && nat_le size (root_of (record_of e)) then Some NoRoot else
    (if is_undefined e then Some NotDefined else None)))
