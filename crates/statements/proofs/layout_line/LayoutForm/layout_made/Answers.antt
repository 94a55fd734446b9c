-- FOR SPEED ALONE: each goal here is proved without this file, too; with it a wrong body is refused soon.
use Rattle.std.proofs.Common.{rules}
use Rattle.statements.proofs.layout_line.LayoutForm.layout_made.Goals as goal

pub contiguous-requires : goal.contiguous-requires
contiguous-requires c = search rules

pub vector-requires : goal.vector-requires
vector-requires c = search rules

pub as_slice-requires : goal.as_slice-requires
as_slice-requires c = search rules

pub indexed-requires : goal.indexed-requires
indexed-requires c = search rules

pub returns-in-Contiguous : goal.returns-in-Contiguous
returns-in-Contiguous c = search rules

pub returns-in-Vector : goal.returns-in-Vector
returns-in-Vector c = search rules

pub returns-in-Indexed : goal.returns-in-Indexed
returns-in-Indexed c = search rules
