-- What is entered in a collective.
use Rattle.std.specs.Prelude.{ℕ, ◌^◌, nat_lt, Option, Some, None, length, if◌then◌else◌}
use Rattle.datatypes.specs.Contents.{Contents}
use Rattle.payload.specs.declared.record.Elements.{Elements}
use Rattle.collective_messages.specs.declared.entry.Entry.{Entry}
use Rattle.collective_messages.specs.declared.entry.Entry.TheVariants as entries
use Rattle.statements.specs.declared.action.Splitting.{Splitting}

-- what is entered by a split
abbrev pub split_by : Splitting → Entry
split_by x = entries.Split (record { colour = x.colour; key = x.key })

-- what is entered with a block, of which a record can say how many elements it has
abbrev pub entry_with : (Contents → Entry) → Contents → Option Entry
entry_with entry block = if nat_lt (length block.values) (2 ^ 32) then Some (entry block) else None

-- of which type the blocks of a scatter are, and how many elements each has; a number that 32 bits don't hold stands as
-- the greatest that they hold, which is above the limit of a block too
abbrev pub elements_like : Contents → Elements
elements_like into =
    record {
      basic = into.basic;
      count = if nat_lt (length into.values) 4294967295 then length into.values else
          4294967295;
    }
