-- What a file of events prints, from its first line to its last.
use Rattle.std.specs.Prelude.{◌≡◌, ◌⊎◌, ℕ, List, [], ◌∷◌, ◌++◌, map, Option, Some, None, Result}
use Rattle.event_files.specs.Files.{FileSays, IsFirstFaultOfFile}
use Rattle.event_files.specs.declared.file.EventFile.{EventFile}
use Rattle.event_files.specs.declared.file.EventLine.{EventLine}
use Rattle.event_files.specs.declared.file.EventStatement.{EventStatement}
use Rattle.line_diagnostics.specs.declared.fault.LineFault.{LineFault}
use Rattle.simulation.specs.Beginnings.{LineBegins, Starts}
use Rattle.simulation.specs.Courses.{Course, IsFaultyLine, IsOpening, Scene}
use Rattle.simulation.specs.Parts.{Happening, Part}
use Rattle.simulation.specs.Output.{Prints, PrintsBeginning}
use Rattle.simulation.specs.declared.error.SimulateError.{SimulateError}
use Rattle.simulation.specs.declared.error.SimulateError.TheVariants as errors
use Rattle.tokens.specs.Lines.{lines_of}
use Rattle.world.specs.Steps.{RunGives}
use Rattle.world.specs.WorldState.{opening_world}
use Rattle.world.specs.declared.event.Event.{Event}
use Rattle.world.specs.declared.event.Failed.{Failed}
use Rattle.world.specs.declared.event.Stepped.{Stepped}

-- Where a file of events stands, and why the line at which it stopped can't be followed, where it stopped at one
pub record SimulationState : Type 0 where
  pub scene : Scene
  pub lack : Option LineFault

-- the events of steps, and what they answered
abbrev pub events_of : List Happening → List Event
events_of steps = map (λ (h : Happening). h.event) steps

abbrev pub answers_of : List Happening → List (Result Stepped Failed)
answers_of steps = map (λ (h : Happening). h.answer) steps

-- the lines run from here to there, and a writer takes just what they print
pub record LinesRun (from : Scene) (lines : List EventLine) (old new : Option (List ℕ)) (to : Scene) : Type 0 where
  pub part : Part
  pub course : Course from lines part to
  pub prints : Prints old new part.printed

-- the lines run up to one that can't be followed, and what is printed is what they print
pub record StopsFaulty (number : ℕ) (fault : Option LineFault) (from : Scene) (lines : List EventLine)
    (old new : Option (List ℕ)) : Type 0 where
  pub before : List EventLine
  pub line : EventLine
  pub behind : List EventLine
  pub all : lines ≡ before ++ line ∷ behind
  pub numbered : line.number ≡ number
  pub at : Scene
  pub run : LinesRun from before old new at
  pub faulty : IsFaultyLine fault at line.statement

-- the lines run up to one that is cut off for want of memory: a beginning of what they and it print is printed, or all
pub record StopsCut (from : Scene) (lines : List EventLine) (old new : Option (List ℕ)) : Type 0 where
  pub before : List EventLine
  pub line : EventLine
  pub behind : List EventLine
  pub all : lines ≡ before ++ line ∷ behind
  pub part : Part
  pub at : Scene
  pub course : Course from before part at
  pub begun : Part
  pub begins : LineBegins line.statement at begun
  pub prints : PrintsBeginning old new (part.printed ++ begun.printed)

-- Where lines stop: at one that can't be followed, for want of memory, or where the output fails
abbrev pub StopsBy : SimulateError → Option LineFault → Scene → List EventLine → (old new : Option (List ℕ)) → Type 0
StopsBy (errors.Line number) fault from lines old new = StopsFaulty number fault from lines old new
StopsBy errors.OutOfMemory fault from lines old new = StopsCut from lines old new
StopsBy errors.Output fault from lines old new = Unit {0}

-- where one line stops; nothing was printed of it, where it can't be followed
abbrev pub LineStops : SimulateError → Option LineFault → Scene → EventLine → (old new : Option (List ℕ)) → Type 0
LineStops (errors.Line number) fault from line old new =
    (line.number ≡ number) × IsFaultyLine fault from line.statement × Prints old new []
LineStops errors.OutOfMemory fault from line old new =
    Starts (λ part. LineBegins line.statement from part) old new
LineStops errors.Output fault from line old new = Unit {0}

-- A file of this size and these lines runs to its end. What is printed is, in order, the lines of the answers that the
-- world's steps gave, and the refusals of statements that need no step; the events of those steps, run in order, are a
-- run of the world that answers just so
pub record FileRuns (file : EventFile) (old new : Option (List ℕ)) : Type 0 where
  pub from : Scene
  pub opening : IsOpening file.size from
  pub to : Scene
  pub run : LinesRun from file.lines old new to
  pub world_run : RunGives (opening_world file.size) (events_of run.part.steps) (answers_of run.part.steps) to.world

-- the text is a file of events, which runs to its end
pub record RunsWhole (text : List ℕ) (old new : Option (List ℕ)) : Type 0 where
  pub file : EventFile
  pub says : FileSays 1 (lines_of text) file
  pub runs : FileRuns file old new

-- the lines of a file stop
pub record LinesStop (file : EventFile) (error : SimulateError) (fault : Option LineFault) (old new : Option (List ℕ)) :
    Type 0 where
  pub from : Scene
  pub opening : IsOpening file.size from
  pub stops : StopsBy error fault from file.lines old new

-- a file stops: for want of memory perhaps before its first line
abbrev pub FileStops : EventFile → SimulateError → Option LineFault → (old new : Option (List ℕ)) → Type 0
FileStops file (errors.Line number) fault old new = LinesStop file (errors.Line number) fault old new
FileStops file errors.OutOfMemory fault old new =
    Prints old new [] ⊎ LinesStop file errors.OutOfMemory fault old new
FileStops file errors.Output fault old new = Unit {0}

-- the text is a file of events, which stops
pub record RunsShort (text : List ℕ) (error : SimulateError) (fault : Option LineFault) (old new : Option (List ℕ)) :
    Type 0 where
  pub file : EventFile
  pub says : FileSays 1 (lines_of text) file
  pub stops : FileStops file error fault old new

-- Where a text stops: at its first line that is no line of a file of events, before anything ran; or at one that can't be
-- followed by what the lines before it have done. For want of memory it stops anywhere, and what is printed is a
-- beginning. Where the output failed, what it took isn't known
abbrev pub Stops : List ℕ → SimulateError → Option LineFault → (old new : Option (List ℕ)) → Type 0
Stops text (errors.Line number) fault old new =
    ((fault ≡ None) × IsFirstFaultOfFile 1 (lines_of text) number × Prints old new []) ⊎
    RunsShort text (errors.Line number) fault old new
Stops text errors.OutOfMemory fault old new = Prints old new [] ⊎ RunsShort text errors.OutOfMemory fault old new
Stops text errors.Output fault old new = Unit {0}

-- the same, whatever the reason
abbrev pub StopsAnyhow : List ℕ → SimulateError → (old new : Option (List ℕ)) → Type 0
StopsAnyhow text error old new = (fault : Option LineFault) × Stops text error fault old new
