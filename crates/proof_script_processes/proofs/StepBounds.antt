-- A script's steps are bounded.
use Rattle.std.proofs.Common.{◌≡◌, ℕ, suc, ◌+◌, ◌*◌, ◌<◌, ◌≤◌, true, false, List, [], ◌∷◌, ◌++◌, length, Option, Some}
use Rattle.std.proofs.Common.{None, refl, ap, arith}
use Rattle.vocabulary.specs.MessageLimits.{least}
use Rattle.engine_calls.specs.declared.call.Call.{Call}
use Rattle.engine_calls.specs.declared.reply.Reply.{Reply}
use Rattle.interpreter.specs.Answers.{hears}
use Rattle.interpreter.specs.NamesState.{NamesState}
use Rattle.interpreter.specs.declared.steps.NextStep.{NextStep}
use Rattle.interpreter.specs.declared.steps.NextStep.TheVariants as nexts
use Rattle.one_meaning.proofs.TurnLaws.{comes_to_the_end}
use Rattle.one_meaning.specs.Courses.{RecordsAgree, Refused, Replied, Told, accounts}
use Rattle.one_meaning.specs.Turns.{Falls}
use Rattle.perfect_groups.specs.Calls as machine
use Rattle.perfect_groups.specs.Communicators.{first_endpoint}
use Rattle.perfect_groups.specs.Events.{Completed, Entry}
use Rattle.perfect_groups.specs.Runs.{IsHistory}
use Rattle.perfect_queues.specs.Calls as queues
use Rattle.proof_one_meaning.proofs.Plays.{blocked_in_play, every_play}
use Rattle.proof_one_meaning.specs.Plays.{Players, PlaysThrough, players_at_start}
use Rattle.event_loop.specs.declared.runner.RunnerStep as runner
use Rattle.event_loop.specs.declared.runner.RunnerStep.TheVariants as steps
use Rattle.script_runner.specs.ScriptRanks.{RankState, acts, follows, heeds_by}
use Rattle.script_files.specs.declared.script.ScriptLine.{ScriptLine}
use Rattle.script_files.specs.declared.script.RankLine.{RankLine}
use Rattle.script_runner.specs.ScriptSteps.{Does, ScriptState, along, does_after, does_by, next_of}
use Rattle.script_calls.specs.declared.pending.Pending.{Pending}
use Rattle.script_calls.specs.declared.pending.Pending.TheVariants as pendings
use Rattle.proof_script_processes.specs.PlainRequests.{plain_request}
use Rattle.proof_script_processes.specs.Processes.{IsCoveredRunning, Running, next_by, next_in_script, next_told}
use Rattle.proof_script_processes.specs.Processes.{reply_for, running_at_start, step_seen, steps_for, steps_left}
use Rattle.proof_script_processes.specs.Processes.{tells_ranks}
use Rattle.proof_script_processes.specs.ScriptLaws.{AreCoveredScripts, ScriptsComeToTheirMeaning}
use Rattle.proof_script_processes.specs.ScriptLaws.{ScriptsPlayTheirMeaning, meaning_of}
use Rattle.proof_script_processes.proofs.Answers.{IsNext, hears_go}
use Rattle.proof_script_processes.proofs.CoveredCalls.{scripts_stay_good}

-- HOW MANY FOLLOW

at_most : (o : Option Pending) → steps_for o ≤ 2
at_most None = omega arith
at_most (Some pendings.Nothing) = omega arith
at_most (Some (pendings.Starting n b)) = omega arith
at_most (Some (pendings.StartingToWait b)) = omega arith
at_most (Some (pendings.Waiting r)) = omega arith
at_most (Some (pendings.WaitingUnnamed b)) = omega arith
at_most (Some (pendings.WaitingForSeveral rs)) = omega arith
at_most (Some (pendings.Searching n)) = omega arith
at_most (Some (pendings.Receiving n b)) = omega arith
at_most (Some (pendings.Making n)) = omega arith
at_most (Some (pendings.Seating n place)) = omega arith
at_most (Some (pendings.Entering n)) = omega arith
at_most (Some (pendings.AskingRank comm)) = omega arith
at_most (Some (pendings.AskingSize rank)) = omega arith
at_most (Some pendings.Oversized) = omega arith

at_least : (p : Pending) → 1 ≤ steps_for (Some p)
at_least pendings.Nothing = omega arith
at_least (pendings.Starting n b) = omega arith
at_least (pendings.StartingToWait b) = omega arith
at_least (pendings.Waiting r) = omega arith
at_least (pendings.WaitingUnnamed b) = omega arith
at_least (pendings.WaitingForSeveral rs) = omega arith
at_least (pendings.Searching n) = omega arith
at_least (pendings.Receiving n b) = omega arith
at_least (pendings.Making n) = omega arith
at_least (pendings.Seating n place) = omega arith
at_least (pendings.Entering n) = omega arith
at_least (pendings.AskingRank comm) = omega arith
at_least (pendings.AskingSize rank) = omega arith
at_least pendings.Oversized = omega arith

-- the steps that are left then
abbrev left_of : Does → ℕ
left_of d = 3 * length d.1.lines + steps_for d.1.rank.pending

-- it is no end
abbrev GoesOn : Does → Type 0
GoesOn d = (status : ℕ) (line : Option ℕ) → d.0 ≡ steps.End status line → ⊥

-- LINES

line_light :
    (rest : List RankLine) (o : Option runner.RunnerStep) (s : RankState) (d : Does) →
    (GoesOn d → left_of d < 3 * length rest + 3) → GoesOn (does_by rest o s d) →
    left_of (does_by rest o s d) < 3 * length rest + 3
line_light rest None s d f g = f g
line_light rest (Some step) s d f g = let u : steps_for s.pending ≤ 2 = at_most s.pending in omega (arith, u)

along_light : (lines : List RankLine) (s : RankState) → GoesOn (along lines s) →
    left_of (along lines s) < 3 * length lines
unfolding along
along_light [] s g = absurd (g 0 None refl)
along_light (line ∷ rest) s g =
    let u : left_of (does_by rest (acts line s).0 (acts line s).1 (along rest (acts line s).1)) < 3 * length rest + 3 =
    line_light rest (acts line s).0 (acts line s).1 (along rest (acts line s).1)
    (λ h. more (length rest) (left_of (along rest (acts line s).1)) (along_light rest (acts line s).1 h)) g in
    shift (length rest) (left_of (does_by rest (acts line s).0 (acts line s).1 (along rest (acts line s).1))) u
  where
    more : (n k : ℕ) → k < 3 * n → k < 3 * n + 3
    more n k h = omega (arith, h)

    shift : (n k : ℕ) → k < 3 * n + 3 → k < 3 * suc n
    shift n k h = omega (arith, h)

-- ANSWERS

follows_light :
    (lines : List RankLine) (p : Pending) (next : NextStep) (names : NamesState) → IsNext p next →
    GoesOn (does_after lines (follows next names)) →
    left_of (does_after lines (follows next names)) < 3 * length lines + steps_for (Some p)
follows_light lines p nexts.Nothing names n g =
    let u : left_of (along lines (record { names = names; pending = None })) < 3 * length lines = along_light lines (record { names = names; pending = None }) g in omega (arith, u)
follows_light lines p (nexts.Call made) names n g =
    let u : steps_for (Some made.pending) < steps_for (Some p) = n.1 in omega (arith, u)
follows_light lines p (nexts.Told told) names n g = let u : 1 ≤ steps_for (Some p) = at_least p in omega (arith, u)

heeds_light :
    (lines : List RankLine) (o : Option Pending) (reply : Reply) (names : NamesState) →
    GoesOn (does_after lines (heeds_by o reply names)) →
    left_of (does_after lines (heeds_by o reply names)) < 3 * length lines + steps_for o
heeds_light lines None reply names g =
    let u : left_of (along lines (record { names = names; pending = None })) < 3 * length lines = along_light lines (record { names = names; pending = None }) g in omega (arith, u)
heeds_light lines (Some p) reply names g =
    follows_light lines p (hears p reply names).0 (hears p reply names).1 (hears_go plain_request p reply names).1 g

ranks_light :
    (lines : List RankLine) (o : Option Pending) (ranks : List ℕ) (names : NamesState) →
    GoesOn (does_after lines (tells_ranks o ranks names)) →
    left_of (does_after lines (tells_ranks o ranks names)) < 3 * length lines + steps_for o
ranks_light lines None ranks names g =
    let u : left_of (along lines (record { names = names; pending = None })) < 3 * length lines = along_light lines (record { names = names; pending = None }) g in omega (arith, u)
ranks_light lines (Some p) ranks names g = let u : 1 ≤ steps_for (Some p) = at_least p in omega (arith, u)

-- WHAT COMES NEXT

untold_light : (s : ScriptState) → GoesOn (next_of s None) → left_of (next_of s None) < 3 * length s.lines +
    steps_for s.rank.pending
untold_light s g = let u : left_of (along s.lines s.rank) < 3 * length s.lines = along_light s.lines s.rank g in omega
    (arith, u)

of_light :
    (s : ScriptState) (call : Call) (t : Told) → GoesOn (next_of s (Some (reply_for call t))) →
    left_of (next_of s (Some (reply_for call t))) < 3 * length s.lines + steps_for s.rank.pending
of_light s call t g = heeds_light s.lines s.rank.pending (reply_for call t) s.rank.names g

told_light : (s : ScriptState) (call : Call) (t : Told) → GoesOn (next_told s call t) →
    left_of (next_told s call t) < 3 * length s.lines + steps_for s.rank.pending
told_light s call (Replied (machine.OfFact (machine.Ranks ranks))) g =
    ranks_light s.lines s.rank.pending ranks s.rank.names g
told_light s call (Replied (machine.OfFact (machine.Number n))) g =
    of_light s call (Replied (machine.OfFact (machine.Number n))) g
told_light s call (Replied (machine.OfFact (machine.Compares x))) g =
    of_light s call (Replied (machine.OfFact (machine.Compares x))) g
told_light s call (Replied (machine.OfRequests (queues.Started k))) g =
    of_light s call (Replied (machine.OfRequests (queues.Started k))) g
told_light s call (Replied (machine.OfRequests (queues.Done a))) g =
    of_light s call (Replied (machine.OfRequests (queues.Done a))) g
told_light s call (Replied (machine.OfRequests queues.Pending)) g =
    of_light s call (Replied (machine.OfRequests queues.Pending)) g
told_light s call (Replied (machine.OfRequests queues.Accepted)) g =
    of_light s call (Replied (machine.OfRequests queues.Accepted)) g
told_light s call (Replied (machine.OfRequests queues.Blocked)) g =
    of_light s call (Replied (machine.OfRequests queues.Blocked)) g
told_light s call (Replied (machine.OfCollective o)) g = of_light s call (Replied (machine.OfCollective o)) g
told_light s call (Refused n) g = of_light s call (Refused n) g

by_light : (s : ScriptState) (o : Option Call) (t : Option Told) → GoesOn (next_by s o t) →
    left_of (next_by s o t) < 3 * length s.lines + steps_for s.rank.pending
by_light s None t g = untold_light s g
by_light s (Some call) None g = untold_light s g
by_light s (Some call) (Some t) g = told_light s call t g

pub scripts_fall : Falls next_in_script steps_left
scripts_fall p t h = by_light p.state p.last t (λ status line e. h status (ap step_seen e))

-- SCRIPTS

pub scripts_come_to_their_meaning : ScriptsComeToTheirMeaning
scripts_come_to_their_meaning n scripts =
    comes_to_the_end next_in_script steps_left scripts_fall n (running_at_start scripts)

pub scripts_play_their_meaning : ScriptsPlayTheirMeaning
scripts_play_their_meaning scripts n moves now history le some covered agrees p r =
    every_play next_in_script IsCoveredRunning scripts_stay_good n (running_at_start scripts) (meaning_of n scripts) le
    some covered
    (scripts_come_to_their_meaning n scripts) agrees moves now history p r

pub scripts_blocked :
    (scripts : List (List ScriptLine)) (n moves : ℕ) (now : Players Running) (history : List Entry) → n ≤ 65536 →
    0 < n → AreCoveredScripts scripts →
    RecordsAgree (accounts (meaning_of n scripts)) →
    PlaysThrough next_in_script n moves (players_at_start n (running_at_start scripts)) [] now history →
    (r : ℕ) (a : machine.Answer) → IsHistory n least (history ++ Completed (first_endpoint r) a ∷ []) →
    ((now r).blocked ≡ true) × ((now r).ended ≡ false)
scripts_blocked scripts n moves now history le some covered agrees p r a is =
    blocked_in_play next_in_script IsCoveredRunning scripts_stay_good n (running_at_start scripts)
    (meaning_of n scripts) le some covered
    (scripts_come_to_their_meaning n scripts) agrees moves now history p r a is
