-- What the keeper of a rank on another host has told of its program's end.
use Rattle.std.specs.Prelude.{Option, Some, None}
use Rattle.launch_keeper.specs.declared.ending.ProgramEnding.{ProgramEnding}

-- what a report tells of it stands from then on; one of output tells nothing
abbrev pub told_behind : Option ProgramEnding → (before : Option ProgramEnding) → Option ProgramEnding
told_behind None before = before
told_behind (Some ending) before = Some ending
