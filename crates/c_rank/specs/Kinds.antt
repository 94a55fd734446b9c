-- The numbers of calls.
use Rattle.std.specs.Prelude.{ℕ, ◌==◌, Bool, true, false, Option, Some, None, if◌then◌else◌}
use Rattle.c_rank.specs.declared.call_kind.CallKind.{CallKind}
use Rattle.c_rank.specs.declared.call_kind.CallKind.TheVariants as kinds

-- the calls whose numbers are above 11
abbrev pub later_kind_at : ℕ → Option CallKind
later_kind_at n =
    if n == 12 then Some kinds.Bcast else (if n == 13 then Some kinds.Gather else (if n == 14 then Some kinds.Scatter else
    (if n == 15 then Some kinds.Reduce else (if n == 16 then Some kinds.Allreduce else (if n == 17 then Some kinds.Dup else
    (if n == 18 then Some kinds.Split else (if n == 19 then Some kinds.Rank else (if n == 20 then Some kinds.Size else
    (if n == 21 then Some kinds.Members else (if n == 22 then Some kinds.Compare else None))))))))))

-- the call that has a number
abbrev pub kind_at : ℕ → Option CallKind
kind_at n =
    if n == 1 then Some kinds.Isend else (if n == 2 then Some kinds.Issend else (if n == 3 then Some kinds.Irecv else
    (if n == 4 then Some kinds.Test else (if n == 5 then Some kinds.Look else (if n == 6 then Some kinds.Cancel else
    (if n == 7 then Some kinds.Iprobe else (if n == 8 then Some kinds.Improbe else (if n == 9 then Some kinds.Mrecv else
    (if n == 10 then Some kinds.Finish else (if n == 11 then Some kinds.Barrier else later_kind_at n))))))))))

-- the calls that hand elements in, or say how many there is room for
abbrev pub has_elements : Option CallKind → Bool
has_elements (Some kinds.Isend) = true
has_elements (Some kinds.Issend) = true
has_elements (Some kinds.Irecv) = true
has_elements (Some kinds.Mrecv) = true
has_elements (Some kinds.Bcast) = true
has_elements (Some kinds.Gather) = true
has_elements (Some kinds.Scatter) = true
has_elements (Some kinds.Reduce) = true
has_elements (Some kinds.Allreduce) = true
has_elements _ = false
