use Rattle.std.proofs.Common.{refl}
use Rattle.type_maps.proofs.EntryLaws.{entries_have_bytes}
use Rattle.type_maps.proofs.PackingLaws.{elements_are_counted, packing_holds}
use Rattle.type_maps.proofs.laws.maps_hold_together.Goals as goal

pub returns : goal.returns
returns c = record {
  examples = record {
    copies = record {
      extent_is = refl;
      contiguous_is = refl;
      contiguous_extent = refl;
      vector_is = refl;
      backwards_is
          = refl;
    };
    blocks = record { indexed_is = refl; struct_is = refl };
    marks = record { one_is = refl; two_are = refl; lower_is = refl; upper_is = refl; true_is = refl };
    arrays = record { part_is = refl; part_extent = refl; fortran_is = refl; own_is = refl };
  };
  bytes = entries_have_bytes;
  packing = packing_holds;
  elements = elements_are_counted;
}
