-- A play goes on by a move, and players are made one by one.
use Rattle.std.proofs.Common.{◌≡◌, ℕ, suc, ◌+◌, ◌<◌, List, [], ◌∷◌, ◌++◌, length, drop, get_or, Option, Some, None}
use Rattle.std.proofs.Common.{Result, Ok, Err, slice_get, slice_set, refl, sym, ap, ap₂, ◌∙◌, subst, append_assoc}
use Rattle.std.proofs.Common.{append-nil, arith}
use Rattle.std.proofs.Math.Seq.{drop-cons}
use Rattle.std.proofs.lemmas.Option.{get_or_from_slice_get, slice_get-get_or}
use Rattle.script_files.specs.declared.script.ScriptLine.{ScriptLine}
use Rattle.script_players.proofs.CallLaws.{entry_there}
use Rattle.script_players.specs.Players.{PlayerGoes, PlayerState}
use Rattle.event_loop.specs.declared.loop_state.RunnerState.TheVariants.{Ready}
use Rattle.script_plays.proofs.Goes.{goes_so, put}
use Rattle.script_plays.proofs.Sizes.{begin_players, move_players, move_size, opening_size}
use Rattle.vocabulary.specs.MessageLimits.{least}
use Rattle.script_plays.specs.Plays.{EventGives, GoGives, HasHeadline, MoveGives, PlayGives, PlayState, ScheduleGives}
use Rattle.script_plays.specs.Plays.{players_of, with_told}
use Rattle.script_plays.specs.declared.moves.Move.{Move}
use Rattle.script_runner.specs.ScriptSteps.{opening}
use Rattle.std.specs.Prelude.{OnOk}
use Rattle.world.specs.Headline.{IsRunOfMachine, SessionsAreTrue}
use Rattle.world.specs.Steps.{Went, entry_of}
use Rattle.world.specs.WorldState.{WorldState, opening_world}
use Rattle.world.specs.declared.event.HistoryEntry.{HistoryEntry}
use Rattle.world.specs.declared.event.Event.{Event}
use Rattle.world.specs.declared.event.Stepped.{Stepped}

-- what is left gives what all of them give, and so it does once one more was made
pub rest_on : (start now mid : PlayState) (all : List Move) (i : ℕ) (d : Move) → i < length all →
    IsRunOfMachine now.world → SessionsAreTrue now.world → MoveGives now (get_or all i d) mid →
    ((new : PlayState) → ScheduleGives now (drop i all) new → ScheduleGives start all new) →
    (new : PlayState) → ScheduleGives mid (drop (i + 1) all) new → ScheduleGives start all new
rest_on start now mid all i d lt run sessions moves rest new g =
    rest new (subst (λ (ms : List Move). ScheduleGives now ms new) (sym cut) (
      record { run = run; sessions = sessions },
      (mid, moves, g),
    ))
  where
    next : suc i ≡ i + 1
    next = omega arith

    cut : drop i all ≡ get_or all i d ∷ drop (i + 1) all
    cut = drop-cons all i d lt ∙ ap (λ (n : ℕ). get_or all i d ∷ drop n all) next

-- and where none is left, it is what they gave
pub all_done : (start now : PlayState) (all ms : List Move) → ms ≡ [] → IsRunOfMachine now.world →
    SessionsAreTrue now.world →
    ((new : PlayState) → ScheduleGives now ms new → ScheduleGives start all new) → ScheduleGives start all now
all_done start now all ms none run sessions rest =
    rest now (subst (λ (xs : List Move). ScheduleGives now xs now) (sym none)
    (refl, record { run = run; sessions = sessions }))

length_more : (players : List PlayerState) (p : PlayerState) → length (players ++ p ∷ []) ≡ suc (length players)
length_more [] p = refl
length_more (x ∷ players) p = ap suc (length_more players p)

-- one player more
pub begun_more : (players : List PlayerState) (script : List ScriptLine) (rest before : List (List ScriptLine))
    (all : List PlayerState) (p : PlayerState) (k : ℕ) → k ≡ length players →
    p ≡ record { runner = opening script k 0; state = Ready None; lines = []; refused = [] } → before ≡ script ∷ rest →
    players ++ players_of (length players) before ≡ all →
    (players ++ p ∷ []) ++ players_of (length (players ++ p ∷ [])) rest ≡ all
begun_more players script rest before all p k ke e be h =
    append_assoc players (p ∷ []) (players_of (length (players ++ p ∷ [])) rest)
    ∙ (ap₂ (λ (q : PlayerState) (n : ℕ). players ++ q ∷ players_of n rest)
    (e ∙ ap (λ (n : ℕ). record { runner = opening script n 0; state = Ready None; lines = []; refused = [] }) ke)
    (length_more players p)
    ∙ (ap (λ (xs : List (List ScriptLine)). players ++ players_of (length players) xs) (sym be) ∙ h))

-- and their count
pub count_more : (players : List PlayerState) (script : List ScriptLine) (rest before : List (List ScriptLine))
    (p : PlayerState) (n : ℕ) → before ≡ script ∷ rest → length players + length before ≡ n →
    length (players ++ p ∷ []) + length rest ≡ n
count_more players script rest before p n e h =
    let long : length (players ++ p ∷ []) ≡ suc (length players) = length_more players p in
    let more : length before ≡ suc (length rest) = ap length e in
    omega (arith, long, more, h)

-- THE PARTS OF A PLAY

-- where a call succeeds, so much more is so
pub on_ok : {A B : Type 0} (r : Result A B) (P Q : Type 0) → (P → Q) → OnOk r P → OnOk r Q
on_ok (Ok x) P Q f h = f h
on_ok (Err e) P Q f h = tt

-- the player of a rank goes on
pub player_goes : (w v : WorldState) (players : List PlayerState) (r : ℕ) (p q : PlayerState) → r < length players →
    p ≡ get_or players r p → PlayerGoes w r p v q →
    GoGives (record { world = w; players = players }) r (slice_get players r) (put players r v q)
player_goes w v players r p q lt is g =
    let there : slice_get players r ≡ Some p = slice_get-get_or players r p lt ∙ ap (λ (y : PlayerState). Some y) (sym is) in
    subst (λ (o : Option PlayerState). GoGives (record { world = w; players = players }) r o (put players r v q))
    (sym there) (goes_so w v players r p q there g)

-- an event was taken, and what its entry says is told
pub event_taken : (w v : WorldState) (event : Event) (added : Stepped) → Went w event added v →
    (entry : HistoryEntry) (history : List HistoryEntry) → history ≡ v.history →
    entry ≡ get_or history added.place entry →
    (players after : List PlayerState) →
    after ≡ with_told players entry.endpoint.rank entry.completion (slice_get players entry.endpoint.rank) →
    EventGives (record { world = w; players = players }) event (Ok added) (record { world = v; players = after })
event_taken w v event added g entry history same is players after told = (
  v,
  g,
  ap (λ (ps : List PlayerState). record { world = v; players = ps })
      (told ∙ ap
      (λ (y : HistoryEntry). with_told players y.endpoint.rank y.completion (slice_get players y.endpoint.rank)) e),
)
  where
    e : entry ≡ entry_of event g.gave
    e = is ∙ (ap (λ (h : List HistoryEntry). get_or h added.place entry) same ∙
        get_or_from_slice_get v.history added.place (entry_of event g.gave) entry (entry_there w v event added g))

-- a move keeps as many players as there are engines
pub sizes_on : (now mid : PlayState) (m : Move) → MoveGives now m mid → length now.players ≡ length now.world.engines →
    length mid.players ≡ length mid.world.engines
sizes_on now mid m g h = move_players m now mid g ∙ (h ∙ sym (move_size m now mid g))

-- at the start, too
pub sizes_begin : (scripts : List (List ScriptLine)) (w : WorldState) (players : List PlayerState) (n : ℕ) →
    w ≡ opening_world n → n ≡ length scripts → players ≡ players_of 0 scripts → length players ≡ length w.engines
sizes_begin scripts w players n we ne pe = ap length pe ∙
    (begin_players 0 scripts ∙ (sym ne ∙ sym (ap (λ (x : WorldState). length x.engines) we ∙
    opening_size least n 0 n)))

-- what is played from the start
pub play_gives : (scripts : List (List ScriptLine)) (schedule : List Move) (w : WorldState) (players : List PlayerState)
    (n : ℕ) (new : PlayState) → w ≡ opening_world n → n ≡ length scripts → players ≡ players_of 0 scripts →
    ScheduleGives (record { world = w; players = players }) schedule new → PlayGives scripts schedule new
play_gives scripts schedule w players n new we ne pe g =
    subst (λ (st : PlayState). ScheduleGives st schedule new)
    (ap₂ (λ (x : WorldState) (ps : List PlayerState). record { world = x; players = ps }) (we ∙ ap opening_world ne)
    pe) g
