-- The events of a schedule's moves.
use Rattle.std.specs.Prelude.{◌≡◌, ◌⊎◌, List, [], ◌∷◌, length}
use Rattle.proof_network_bridge.specs.WorldViews.{limit_in}
use Rattle.perfect_groups.specs.Runs.{IsHistory}
use Rattle.script_files.specs.declared.script.ScriptLine.{ScriptLine}
use Rattle.script_plays.specs.Plays.{PlayGives, PlayState}
use Rattle.script_plays.specs.declared.moves.Move.{Move}
use Rattle.script_plays.specs.declared.moves.Move.TheVariants as moves
use Rattle.world.specs.Headline.{IsRunOfMachine, history_seen}
use Rattle.world.specs.WorldState.{WorldState}
use Rattle.world.specs.declared.event.HistoryEntry.{HistoryEntry}
use Rattle.world.specs.declared.event.Event.{Event}
use Rattle.world.specs.declared.event.Event.TheVariants as events

-- the event of a move
abbrev pub IsEventOf : Move → Event → Type 0
IsEventOf (moves.Go r) (events.Call x call) = x ≡ r
IsEventOf (moves.Deliver d) (events.Deliver x) = x ≡ d
IsEventOf (moves.Tick r now) (events.Tick x then') = (x ≡ r) × (then' ≡ now)
IsEventOf _ _ = ⊥

-- a history has the events of a schedule's moves, some of them passed over, in order, and no others
abbrev pub AreEventsOf : List Move → List HistoryEntry → Type 0
AreEventsOf [] [] = Unit {0}
AreEventsOf [] (e ∷ es) = ⊥
AreEventsOf (m ∷ ms) [] = Unit {0}
AreEventsOf (m ∷ ms) (e ∷ es) = (IsEventOf m e.event × AreEventsOf ms es) ⊎ AreEventsOf ms (e ∷ es)

-- the world's history has the schedule's events, in order and no others, but those that were refused or that no event
-- was called for
abbrev pub HistoriesAreOfSchedules : Type 0
HistoriesAreOfSchedules = (scripts : List (List ScriptLine)) (schedule : List Move) (new : PlayState) →
    PlayGives scripts schedule new → AreEventsOf schedule new.world.history

-- a world's history is at each moment one of the machine's
abbrev pub WorldsHaveHistories : Type 0
WorldsHaveHistories = (w : WorldState) → IsRunOfMachine w →
    IsHistory (length w.engines) (limit_in w.engines) (history_seen w.history)
