-- When two records agree.
use Rattle.std.specs.Prelude.{Bool, ◌==◌, ◌&&◌}
use Rattle.payload.specs.Codes.{kind_code}
use Rattle.payload.specs.Spellings.{count_field, elements_of, kind_of, operation_field, root_field, type_code}
use Rattle.payload.specs.declared.record.Record.{Record}

-- two records agree: kind, root, operation, type and count are the same, by their codes in the format
abbrev pub is_same_record : Record → Record → Bool
is_same_record a b =
    (kind_code (kind_of a) == kind_code (kind_of b)) &&
    ((root_field a == root_field b) &&
    ((operation_field a == operation_field b) &&
    ((type_code (elements_of a) == type_code (elements_of b)) &&
    (count_field (elements_of a) == count_field (elements_of b)))))
