-- Laws of what `play` gives.
use Rattle.std.specs.Prelude.{◌<◌, ◌≤◌, List, length}
use Rattle.script_files.specs.declared.script.ScriptLine.{ScriptLine}
use Rattle.script_plays.specs.MeaningViews.{PlaysTheOneMeaning}
use Rattle.script_plays.specs.Plays.{PlayGives, PlayState}
use Rattle.script_plays.specs.declared.moves.Move.{Move}

-- THE LAW OF `play`: whatever the schedule, scripts play their one meaning
abbrev pub PlaysAreTheMeaning : Type 0
PlaysAreTheMeaning =
    (scripts : List (List ScriptLine)) (schedule : List Move) (new : PlayState) → 0 < length scripts →
    length scripts ≤ 65536 → PlayGives scripts schedule new → PlaysTheOneMeaning scripts new
