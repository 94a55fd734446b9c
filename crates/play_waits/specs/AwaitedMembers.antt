-- Which members of a communicator a collective waits for.
use Rattle.std.specs.Prelude.{ℕ, ◌==◌, ◌&&◌, nat_le, Bool, List, filter, length}
use Rattle.play_waits.specs.declared.entered.Entered.{Entered}

-- how many of these collectives a rank entered on a communicator
abbrev pub entered_by : ℕ → ℕ → List Entered → ℕ
entered_by rank group entered = length (filter (λ (one : Entered). (one.rank == rank) && (one.group == group)) entered)

-- a member has not entered a collective: it entered no more of them on its communicator than were entered before it
abbrev pub is_awaited : Entered → List Entered → ℕ → Bool
is_awaited collective entered member = nat_le (entered_by member collective.group entered) collective.number
