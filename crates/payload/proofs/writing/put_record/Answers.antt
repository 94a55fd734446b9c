use Rattle.std.proofs.Common.{append_assoc}
use Rattle.payload.specs.Spellings.{record_spelling}
use Rattle.payload.proofs.writing.put_record.Goals as goal

pub returns-clause-items : goal.returns-clause-items
unfolding record_spelling
returns-clause-items c =
    rw (
      c.put_u32-3.ensures.items,
      c.put_u32-2.ensures.items,
      c.count_field.ensures,
      c.put_u32.ensures.items,
      c.root_field.ensures,
      c.put_u8-4.ensures.items,
      c.code-2.ensures,
      c.put_u8-3.ensures.items,
      c.type_code.ensures,
      c.put_u8-2.ensures.items,
      c.operation_code.ensures,
      c.put_u8.ensures.items,
      c.code.ensures,
      c.kind.ensures,
    )
    (simp append_assoc)
