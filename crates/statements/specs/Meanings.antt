-- What is meant by what a statement names.
use Rattle.std.specs.Prelude.{ℕ, List}
use Rattle.derived_types.specs.Layouts.{contiguous_offsets, vector_offsets, indexed_offsets}
use Rattle.statements.specs.declared.layout_line.LayoutForm.{LayoutForm}
use Rattle.statements.specs.declared.layout_line.LayoutForm.TheVariants as forms

-- the offsets of the layout that this form makes of one with these offsets (MPI 3.1, 4.1.2)
abbrev pub offsets_made : LayoutForm → List ℕ → List ℕ
offsets_made (forms.Contiguous count) offsets = contiguous_offsets count offsets
offsets_made (forms.Vector stripes) offsets = vector_offsets stripes.count stripes.blocklength stripes.stride offsets
offsets_made (forms.Indexed blocks) offsets = indexed_offsets blocks offsets
