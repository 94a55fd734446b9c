-- What the records of types tell.
use Rattle.std.specs.Prelude.{ℕ, ◌==◌, None, Some, if◌then◌else◌}
use Rattle.type_maps.specs.declared.summary.Summary.{Summary}
use Rattle.type_maps.specs.declared.summary.Content.{Content}
use Rattle.type_maps.specs.declared.summary.Content.TheVariants.{Nothing, One, Mixed}
use Rattle.type_runs.specs.declared.records.TypeRecord.{TypeRecord}

abbrev pub content_meant : ℕ → ℕ → Content
content_meant kinds kind = if kinds == 0 then Nothing else (if kinds == 1 then One kind else Mixed)

abbrev pub meant : TypeRecord → Summary
meant r = record {
  size = r.size;
  elements = r.elements;
  span = if r.has_data then Some (record { lower = r.true_lower; upper = r.true_upper }) else None;
  lower_mark = if r.has_lower then Some r.lower_mark else None;
  upper_mark = if r.has_upper then Some r.upper_mark else None;
  alignment = r.alignment;
  content = content_meant r.kinds r.kind;
}
