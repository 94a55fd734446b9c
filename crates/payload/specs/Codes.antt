-- The codes of a payload's fields.
use Rattle.std.specs.Prelude.{ℕ, ◌==◌, Option, Some, None, if◌then◌else◌}
use Rattle.payload.specs.declared.kind.CollectiveKind.{CollectiveKind}
use Rattle.payload.specs.declared.kind.CollectiveKind.TheVariants as kinds
use Rattle.payload.specs.declared.kind.Phase.{Phase}
use Rattle.payload.specs.declared.kind.Phase.TheVariants as phases

-- the code of a kind
abbrev pub kind_code : CollectiveKind → ℕ
kind_code kinds.Barrier = 1
kind_code kinds.Bcast = 2
kind_code kinds.Gather = 3
kind_code kinds.Scatter = 4
kind_code kinds.Reduce = 5
kind_code kinds.Allreduce = 6
kind_code kinds.Dup = 7
kind_code kinds.Split = 8

-- the kind that has a code
abbrev pub kind_at : ℕ → Option CollectiveKind
kind_at code =
    if code == 1 then Some kinds.Barrier else
    (if code == 2 then Some kinds.Bcast else (if code == 3 then Some kinds.Gather else
    (if code == 4 then Some kinds.Scatter else
    (if code == 5 then Some kinds.Reduce else (if code == 6 then Some kinds.Allreduce else
    (if code == 7 then Some kinds.Dup else (if code == 8 then Some kinds.Split else None)))))))

-- the code of a phase
abbrev pub phase_code : Phase → ℕ
phase_code phases.TowardsRoot = 0
phase_code phases.FromRoot = 1
phase_code phases.RecordsDiffer = 2

-- the phase that has a code
abbrev pub phase_at : ℕ → Option Phase
phase_at code =
    if code == 0 then Some phases.TowardsRoot else
    (if code == 1 then Some phases.FromRoot else (if code == 2 then Some phases.RecordsDiffer else None))
