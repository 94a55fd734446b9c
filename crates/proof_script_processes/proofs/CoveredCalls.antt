-- Covered scripts make covered calls alone.
use Rattle.std.proofs.Common.{◌≡◌, ℕ, Bool, true, false, List, [], ◌∷◌, Option, Some, None, if◌then◌else◌, subst, arith}
use Rattle.collective_messages.specs.declared.entry.Entry.{Entry}
use Rattle.collective_messages.specs.declared.entry.Entry.TheVariants as entries
use Rattle.datatypes.specs.Contents.{Contents}
use Rattle.derived_types.specs.Layouts.{is_beyond}
use Rattle.engine_calls.specs.declared.call.Call.{Call}
use Rattle.engine_calls.specs.declared.call.Call.TheVariants as calls
use Rattle.engine_calls.specs.declared.reply.Reply.{Reply}
use Rattle.interpreter.specs.StatementCalls.{
  acts_on,
  asks_group,
  asks_rank,
  blocks_named,
  changes,
  compares,
  faulty,
  hands_in,
}
use Rattle.interpreter.specs.StatementCalls.{hands_in_to, is_lent_at_root, makes, old_layout, places_named, receives}
use Rattle.interpreter.specs.StatementCalls.{
  receives_into,
  receives_to_wait,
  request_named,
  requests_named,
  scatters_from,
}
use Rattle.interpreter.specs.StatementCalls.{sends, sends_from, sends_to_wait, sets, sets_layout_of, sets_layout_unless}
use Rattle.interpreter.specs.StatementCalls.{waits_for, waits_for_all, waits_for_several}
use Rattle.interpreter.specs.Answers.{hears}
use Rattle.interpreter.specs.NamesState.{NamesState, here, is_lent, is_root, place_named, with_buffer}
use Rattle.interpreter.specs.declared.steps.NextStep.{NextStep}
use Rattle.interpreter.specs.declared.steps.NextStep.TheVariants as nexts
use Rattle.layouts.specs.Layouts.{Shape}
use Rattle.one_meaning.specs.Courses.{Calls, Refused, Replied, Told}
use Rattle.perfect_groups.specs.Calls as machine
use Rattle.perfect_queues.specs.Calls as queues
use Rattle.observation.specs.EngineCalls.{call_seen}
use Rattle.proof_one_meaning.proofs.PlayersAndRanks.{StaysGood}
use Rattle.proof_one_meaning.specs.AccountViews.{IsCovered, IsNotAny}
use Rattle.event_loop.specs.declared.runner.RunnerStep.{RunnerStep}
use Rattle.event_loop.specs.declared.runner.RunnerStep.TheVariants as steps
use Rattle.script_runner.specs.ScriptRanks.{RankState, acts, does, follows, heeds, heeds_by, prints_count}
use Rattle.script_runner.specs.ScriptRanks.{prints_elements, states}
use Rattle.requests.specs.declared.region.Places.{Places}
use Rattle.requests.specs.declared.table.Request.{Request}
use Rattle.script_files.specs.declared.script.RankLine.{RankLine}
use Rattle.script_files.specs.declared.script.ScriptStatement.{ScriptStatement}
use Rattle.script_files.specs.declared.script.ScriptStatement.TheVariants as statements
use Rattle.script_runner.specs.ScriptSteps.{Does, ScriptState, along, does_after, does_by, next_of}
use Rattle.script_calls.specs.Entries.{entry_with, split_by}
use Rattle.script_calls.specs.declared.pending.Pending.{Pending}
use Rattle.script_calls.specs.declared.pending.Pending.TheVariants as pendings
use Rattle.statements.specs.Meanings.{offsets_made}
use Rattle.statements.specs.declared.action.Action.{Action}
use Rattle.statements.specs.declared.action.Action.TheVariants as actions
use Rattle.statements.specs.declared.action.BufferLine.{BufferLine}
use Rattle.statements.specs.declared.action.Receiving.{Receiving}
use Rattle.statements.specs.declared.action.RequestName.{RequestName}
use Rattle.statements.specs.declared.action.Sending.{Sending}
use Rattle.statements.specs.declared.collective_line.Scattering.{Scattering}
use Rattle.statements.specs.declared.layout_line.LayoutLine.{LayoutLine}
use Rattle.vocabulary.specs.declared.mode.Mode.{Mode}
use Rattle.vocabulary.specs.declared.mode.Mode.TheVariants as modes
use Rattle.proof_script_processes.specs.PlainRequests.{plain_request}
use Rattle.proof_script_processes.specs.Processes.{AreCoveredLines, IsCoveredAction, IsCoveredRunning}
use Rattle.proof_script_processes.specs.Processes.{IsCoveredStatement, next_by, next_in_script, next_told, reply_for}
use Rattle.proof_script_processes.specs.Processes.{step_seen, tells_ranks}
use Rattle.proof_script_processes.proofs.Answers.{IsNext, hears_go}

-- ---- what statements ask for

-- a covered call, or none
abbrev IsAsked : Option NextStep → Type 0
IsAsked None = Unit {0}
IsAsked (Some nexts.Nothing) = Unit {0}
IsAsked (Some (nexts.Call made)) = IsCovered (call_seen made.call)
IsAsked (Some (nexts.Told told)) = Unit {0}

sets_fine : (line : BufferLine) (s : NamesState) → IsAsked (sets line s).0
sets_fine line s = go (is_lent s line.name)
  where
    go : (b : Bool) → IsAsked (if b then faulty s else changes (with_buffer s line.name (Some line.value))).0
    go true = tt
    go false = tt

layout_fine : (line : LayoutLine) (o : Option Shape) (s : NamesState) → IsAsked (sets_layout_of line o s).0
layout_fine line None s = tt
layout_fine line (Some old) s = go (is_beyond (offsets_made line.form old.offsets))
  where
    go : (b : Bool) →
        IsAsked (sets_layout_unless b line.name
        (record { basic = old.basic; offsets = offsets_made line.form old.offsets }) s).0
    go true = tt
    go false = tt

sends_fine : (mode : Mode) (pending : Pending) (x : Sending) (comm : Option (Option ℕ)) (named : Option Places)
    (buffer : Option Contents) (s : NamesState) →
    IsAsked (sends_from mode pending x comm named buffer s).0
sends_fine mode pending x None named buffer s = tt
sends_fine mode pending x (Some comm) None buffer s = tt
sends_fine mode pending x (Some comm) (Some named) None s = tt
sends_fine mode pending x (Some comm) (Some named) (Some buffer) s = tt

send_fine : (mode : Mode) (pending : Pending) (x : Sending) (s : NamesState) → IsAsked (sends mode pending x s).0
send_fine mode pending x s =
    sends_fine mode pending x (place_named s x.communicator) (places_named s x.through) (here s x.buffer) s

receives_fine : (pending : Pending) (x : Receiving) → IsNotAny x.source →
    (comm : Option (Option ℕ)) (named : Option Places) (buffer : Option Contents) (s : NamesState) →
    IsAsked (receives_into pending x comm named buffer s).0
receives_fine pending x c None named buffer s = tt
receives_fine pending x c (Some comm) None buffer s = tt
receives_fine pending x c (Some comm) (Some named) None s = tt
receives_fine pending x c (Some comm) (Some named) (Some buffer) s = c

receive_fine : (pending : Pending) (x : Receiving) → IsNotAny x.source →
    (s : NamesState) → IsAsked (receives pending x s).0
receive_fine pending x c s =
    receives_fine pending x c (place_named s x.communicator) (places_named s x.through) (here s x.buffer) s

waits_fine : (r : RequestName) (o : Option (Option Request)) (s : NamesState) → IsAsked (waits_for r o s).0
waits_fine r None s = tt
waits_fine r (Some q) s = tt

all_fine : (rs : List RequestName) (o : Option (List (Option Request))) (s : NamesState) →
    IsAsked (waits_for_several calls.Waitall rs o s).0
all_fine rs None s = tt
all_fine rs (Some qs) s = tt

makes_fine : (name : List ℕ) (comm : Option (Option ℕ)) (entry : Entry) (s : NamesState) →
    IsAsked (makes name comm entry s).0
makes_fine name None entry s = tt
makes_fine name (Some comm) entry s = tt

all_wait_fine : (comm : Option (Option ℕ)) (s : NamesState) → IsAsked (waits_for_all comm s).0
all_wait_fine None s = tt
all_wait_fine (Some comm) s = tt

handed_fine : (comm : Option ℕ) (name : Option (List ℕ)) (o : Option Entry) (s : NamesState) →
    IsAsked (hands_in_to comm name o s).0
handed_fine comm name None s = tt
handed_fine comm name (Some entry) s = tt

hands_fine : (comm : Option (Option ℕ)) (lent : Bool) (name : Option (List ℕ)) (block : Option Contents)
    (entry : Contents → Entry) (s : NamesState) →
    IsAsked (hands_in comm lent name block entry s).0
hands_fine None lent name block entry s = tt
hands_fine (Some comm) true name block entry s = tt
hands_fine (Some comm) false name None entry s = tt
hands_fine (Some comm) false name (Some block) entry s = handed_fine comm name (entry_with entry block) s

scatters_fine : (x : Scattering) (comm : Option (Option ℕ)) (into : Option Contents) (blocks : Option (Option Contents))
    (s : NamesState) → IsAsked (scatters_from x comm into blocks s).0
scatters_fine x None into blocks s = tt
scatters_fine x (Some comm) None blocks s = tt
scatters_fine x (Some comm) (Some into) None s = tt
scatters_fine x (Some comm) (Some into) (Some blocks) s = tt

rank_fine : (comm : Option (Option ℕ)) (s : NamesState) → IsAsked (asks_rank comm s).0
rank_fine None s = tt
rank_fine (Some comm) s = tt

group_fine : (comm : Option (Option ℕ)) (s : NamesState) → IsAsked (asks_group comm s).0
group_fine None s = tt
group_fine (Some comm) s = tt

compares_fine : (comm other : Option (Option ℕ)) (s : NamesState) → IsAsked (compares comm other s).0
compares_fine None other s = tt
compares_fine (Some comm) None s = tt
compares_fine (Some comm) (Some other) s = tt

action_fine : (a : Action) → IsCoveredAction a → (s : NamesState) → IsAsked (acts_on a s).0
action_fine (actions.Buffer line) c s = sets_fine line s
action_fine (actions.Layout line) c s = layout_fine line (old_layout s line.made_of) s
action_fine (actions.Isend name x) c s = send_fine modes.Standard (pendings.Starting name None) x s
action_fine (actions.Issend name x) c s = absurd c
action_fine (actions.Irecv name x) c s = receive_fine (pendings.Starting name (Some x.buffer)) x c s
action_fine (actions.Iprobe x) c s = absurd c
action_fine (actions.Improbe name x) c s = absurd c
action_fine (actions.Mrecv name x) c s = absurd c
action_fine (actions.Wait r) c s = waits_fine r (request_named s r) s
action_fine (actions.Test r) c s = absurd c
action_fine (actions.Cancel r) c s = absurd c
action_fine (actions.Waitany rs) c s = absurd c
action_fine (actions.Waitall rs) c s = all_fine rs (requests_named s rs) s
action_fine (actions.Barrier x) c s = all_wait_fine (place_named s x) s
action_fine (actions.Bcast x) c s =
    hands_fine (place_named s x.communicator) false (Some x.buffer) (here s x.buffer)
    (λ block. entries.Bcast x.root block) s
action_fine (actions.Gather x) c s =
    hands_fine (place_named s x.communicator) (is_lent_at_root s (is_root s x.communicator x.root) x.into) (Some x.into)
    (here s x.buffer) (λ block. entries.Gather x.root block) s
action_fine (actions.Scatter x) c s =
    scatters_fine x (place_named s x.communicator) (here s x.into)
    (blocks_named s (is_root s x.communicator x.root) x.buffer) s
action_fine (actions.Reduce x) c s =
    hands_fine (place_named s x.communicator) (is_lent_at_root s (is_root s x.communicator x.root) x.into) (Some x.into)
    (here s x.buffer) (λ block. entries.Reduce x.operation x.root block) s
action_fine (actions.Allreduce x) c s =
    hands_fine (place_named s x.communicator) (is_lent s x.into) (Some x.into) (here s x.buffer)
    (λ block. entries.Allreduce x.operation block) s
action_fine (actions.Dup name x) c s = makes_fine name (place_named s x) entries.Dup s
action_fine (actions.Split name x) c s = makes_fine name (place_named s x.communicator) (split_by x) s
action_fine (actions.Who x) c s = rank_fine (place_named s x) s
action_fine (actions.Members x) c s = group_fine (place_named s x) s
action_fine (actions.Compare x d) c s = compares_fine (place_named s x) (place_named s d) s

-- ---- what a rank does

-- a step that makes a covered call, or none
abbrev IsFineStep : RunnerStep → Type 0
IsFineStep (steps.Call call) = IsCovered (call_seen call)
IsFineStep (steps.Print line) = Unit {0}
IsFineStep (steps.End status line) = Unit {0}

abbrev IsFine : Option RunnerStep → Type 0
IsFine None = Unit {0}
IsFine (Some step) = IsFineStep step

does_fine : (number : ℕ) (next : Option NextStep) (names : NamesState) → IsAsked next →
    IsFine (does number next names).0
does_fine number None names f = tt
does_fine number (Some nexts.Nothing) names f = tt
does_fine number (Some (nexts.Call made)) names f = f
does_fine number (Some (nexts.Told told)) names f = tt

elements_fine : (number : ℕ) (o : Option Contents) → IsFineStep (prints_elements number o)
elements_fine number None = tt
elements_fine number (Some b) = tt

count_fine : (number : ℕ) (o : Option (Option ℕ)) → IsFineStep (prints_count number o)
count_fine number None = tt
count_fine number (Some n) = tt

states_fine : (number : ℕ) (x : ScriptStatement) → IsCoveredStatement x →
    (names : NamesState) → IsFine (states number x names).0
states_fine number (statements.Action a) c names =
    does_fine number (acts_on a names).0 (acts_on a names).1 (action_fine a c names)
states_fine number (statements.Send x) c names =
    does_fine number (sends_to_wait x names).0 (sends_to_wait x names).1
    (send_fine modes.Standard (pendings.StartingToWait None) x names)
states_fine number (statements.Recv x) c names =
    does_fine number (receives_to_wait x names).0 (receives_to_wait x names).1
    (receive_fine (pendings.StartingToWait (Some x.buffer)) x c names)
states_fine number (statements.Print name) c names = elements_fine number (here names name)
states_fine number statements.Status c names = tt
states_fine number (statements.Count name) c names =
    count_fine number (Rattle.interpreter.specs.StatementCalls.count_of names name)
states_fine number (statements.Say words) c names = tt
states_fine number statements.Fail c names = tt

follows_fine : (p : Pending) (next : NextStep) (names : NamesState) → IsNext p next → IsFine (follows next names).0
follows_fine p nexts.Nothing names n = tt
follows_fine p (nexts.Call made) names n = n.0
follows_fine p (nexts.Told told) names n = tt

heeds_fine : (o : Option Pending) (reply : Reply) (names : NamesState) → IsFine (heeds_by o reply names).0
heeds_fine None reply names = tt
heeds_fine (Some p) reply names =
    follows_fine p (hears p reply names).0 (hears p reply names).1 (hears_go plain_request p reply names).1

ranks_fine : (o : Option Pending) (ranks : List ℕ) (names : NamesState) → IsFine (tells_ranks o ranks names).0
ranks_fine None ranks names = tt
ranks_fine (Some p) ranks names = tt

-- ---- what comes next

-- a covered call or none, and covered lines are left
abbrev AreFine : Does → Type 0
AreFine d = IsFineStep d.0 × AreCoveredLines d.1.lines

or_fine : (rest : List RankLine) (o : Option RunnerStep) (s : RankState) (d : Does) → AreCoveredLines rest → IsFine o →
    AreFine d → AreFine (does_by rest o s d)
or_fine rest None s d c f g = g
or_fine rest (Some step) s d c f g = (f, c)

along_fine : (lines : List RankLine) (s : RankState) → AreCoveredLines lines → AreFine (along lines s)
unfolding along
along_fine [] s c = (tt, tt)
along_fine (line ∷ rest) s c =
    or_fine rest (acts line s).0 (acts line s).1 (along rest (acts line s).1) c.1
    (states_fine line.number line.statement c.0 s.names) (along_fine rest (acts line s).1 c.1)

after_fine : (lines : List RankLine) (acted : Option RunnerStep × RankState) → AreCoveredLines lines → IsFine acted.0 →
    AreFine (does_after lines acted)
after_fine lines acted c f = or_fine lines acted.0 acted.1 (along lines acted.1) c f (along_fine lines acted.1 c)

next_fine : (s : ScriptState) (reply : Option Reply) → AreCoveredLines s.lines → AreFine (next_of s reply)
next_fine s None c = along_fine s.lines s.rank c
next_fine s (Some reply) c = after_fine s.lines (heeds reply s.rank) c (heeds_fine s.rank.pending reply s.rank.names)

told_fine : (s : ScriptState) (call : Call) (t : Told) → AreCoveredLines s.lines → AreFine (next_told s call t)
told_fine s call (Replied (machine.OfFact (machine.Ranks ranks))) c =
    after_fine s.lines (tells_ranks s.rank.pending ranks s.rank.names) c (ranks_fine s.rank.pending ranks s.rank.names)
told_fine s call (Replied (machine.OfFact (machine.Number n))) c =
    next_fine s (Some (reply_for call (Replied (machine.OfFact (machine.Number n))))) c
told_fine s call (Replied (machine.OfFact (machine.Compares x))) c =
    next_fine s (Some (reply_for call (Replied (machine.OfFact (machine.Compares x))))) c
told_fine s call (Replied (machine.OfRequests (queues.Started k))) c =
    next_fine s (Some (reply_for call (Replied (machine.OfRequests (queues.Started k))))) c
told_fine s call (Replied (machine.OfRequests (queues.Done a))) c =
    next_fine s (Some (reply_for call (Replied (machine.OfRequests (queues.Done a))))) c
told_fine s call (Replied (machine.OfRequests queues.Pending)) c =
    next_fine s (Some (reply_for call (Replied (machine.OfRequests queues.Pending)))) c
told_fine s call (Replied (machine.OfRequests queues.Accepted)) c =
    next_fine s (Some (reply_for call (Replied (machine.OfRequests queues.Accepted)))) c
told_fine s call (Replied (machine.OfRequests queues.Blocked)) c =
    next_fine s (Some (reply_for call (Replied (machine.OfRequests queues.Blocked)))) c
told_fine s call (Replied (machine.OfCollective o)) c =
    next_fine s (Some (reply_for call (Replied (machine.OfCollective o)))) c
told_fine s call (Refused number) c = next_fine s (Some (reply_for call (Refused number))) c

by_told_fine : (s : ScriptState) (o : Option Call) (t : Option Told) → AreCoveredLines s.lines → AreFine (next_by s o t)
by_told_fine s None t c = next_fine s None c
by_told_fine s (Some call) None c = next_fine s None c
by_told_fine s (Some call) (Some t) c = told_fine s call t c

-- ---- scripts

covered_step : (step : RunnerStep) → IsFineStep step → (call : machine.Call) → step_seen step ≡ Calls call →
    IsCovered call
covered_step (steps.Call c) f call e = let same : call_seen c ≡ call = cc in subst IsCovered same f
covered_step (steps.Print line) f call e = absurd (grind arith)
covered_step (steps.End status line) f call e = absurd (grind arith)

pub scripts_stay_good : StaysGood next_in_script IsCoveredRunning
scripts_stay_good =
    record {
      stays = λ p t g. (by_told_fine p.state p.last t g).1;
      calls = λ p t call g is. covered_step (next_by p.state p.last t).0 (by_told_fine p.state p.last t g).0 call is;
    }
