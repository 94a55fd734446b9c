-- What comes next is the same with other requests.
use Rattle.std.proofs.Common.{◌≡◌, ℕ, List, [], ◌∷◌, Option, Some, None, option_map, refl, ap, ◌∙◌}
use Rattle.datatypes.specs.Contents.{Contents}
use Rattle.engine_calls.specs.declared.reply.Reply.{Reply}
use Rattle.interpreter.specs.StatementCalls as interpreted
use Rattle.interpreter.specs.StatementCalls.{acts_on, count_of, receives_to_wait, sends_to_wait}
use Rattle.interpreter.specs.Answers.{Hears, hears}
use Rattle.interpreter.specs.NamesState.{NamesState, here}
use Rattle.interpreter.specs.declared.steps.NextStep.{NextStep}
use Rattle.interpreter.specs.declared.steps.NextStep.TheVariants as nexts
use Rattle.event_loop.specs.declared.runner.RunnerStep.{RunnerStep}
use Rattle.script_runner.specs.ScriptRanks.{Acts, RankState, acts, does, does_asked, follows, follows_heard, heeds}
use Rattle.script_runner.specs.ScriptRanks.{heeds_by, prints_count, prints_elements, says, states}
use Rattle.script_files.specs.declared.script.RankLine.{RankLine}
use Rattle.script_files.specs.declared.script.ScriptStatement.{ScriptStatement}
use Rattle.script_files.specs.declared.script.ScriptStatement.TheVariants as statements
use Rattle.script_runner.specs.ScriptSteps.{Does, along, does_by, does_or}
use Rattle.script_calls.specs.declared.pending.Pending.{Pending}
use Rattle.requests.specs.declared.table.Request.{Request}
use Rattle.proof_script_processes.specs.RequestChanges.{changed_does, changed_names, changed_next, changed_rank}
use Rattle.proof_script_processes.specs.RequestChanges.{changed_reply, changed_step}
use Rattle.proof_script_processes.specs.PlainRequests.{plain_request}
use Rattle.proof_script_processes.specs.PlainRequestLaws.{KeysAreNoMatter, RequestsAreHandedOn}
use Rattle.proof_script_processes.proofs.StatementCalls.{action_same, changed_acts, changed_asked, receive_to_wait_same}
use Rattle.proof_script_processes.proofs.StatementCalls.{send_to_wait_same}
use Rattle.proof_script_processes.proofs.Answers.{hears_go}

-- what a rank does, with other requests
abbrev changed_done : (Request → Request) → Acts → Acts
changed_done change a = (option_map (changed_step change) a.0, changed_rank change a.1)

-- LINES

does_same : (change : Request → Request) (number : ℕ) (next : Option NextStep) (names : NamesState) →
    does number (changed_asked change next) (changed_names change names) ≡
    changed_done change (does number next names)
does_same change number None names = refl
does_same change number (Some nexts.Nothing) names = refl
does_same change number (Some (nexts.Call made)) names = refl
does_same change number (Some (nexts.Told told)) names = refl

asked_same : (change : Request → Request) (number : ℕ) (changed made : interpreted.Acts) →
    changed ≡ changed_acts change made → does_asked number changed ≡ changed_done change (does_asked number made)
asked_same change number changed made e = ap (does_asked number) e ∙ does_same change number made.0 made.1

elements_same : (change : Request → Request) (number : ℕ) (o : Option Contents) (names : NamesState) →
    says (prints_elements number o) (changed_names change names) ≡
    changed_done change (says (prints_elements number o) names)
elements_same change number None names = refl
elements_same change number (Some b) names = refl

count_same : (change : Request → Request) (number : ℕ) (o : Option (Option ℕ)) (names : NamesState) →
    says (prints_count number o) (changed_names change names) ≡ changed_done change (says (prints_count number o) names)
count_same change number None names = refl
count_same change number (Some n) names = refl

states_same : (change : Request → Request) (number : ℕ) (x : ScriptStatement) (names : NamesState) →
    states number x (changed_names change names) ≡ changed_done change (states number x names)
states_same change number (statements.Action a) names =
    asked_same change number (acts_on a (changed_names change names)) (acts_on a names) (action_same change a names)
states_same change number (statements.Send x) names =
    asked_same change number (sends_to_wait x (changed_names change names)) (sends_to_wait x names)
    (send_to_wait_same change x names)
states_same change number (statements.Recv x) names =
    asked_same change number (receives_to_wait x (changed_names change names)) (receives_to_wait x names)
    (receive_to_wait_same change x names)
states_same change number (statements.Print name) names = elements_same change number (here names name) names
states_same change number statements.Status names = refl
states_same change number (statements.Count name) names = count_same change number (count_of names name) names
states_same change number (statements.Say words) names = refl
states_same change number statements.Fail names = refl

-- ANSWERS

follows_same : (change : Request → Request) (next : NextStep) (names : NamesState) →
    follows (changed_next change next) (changed_names change names) ≡ changed_done change (follows next names)
follows_same change nexts.Nothing names = refl
follows_same change (nexts.Call made) names = refl
follows_same change (nexts.Told told) names = refl

heeds_same : (change : Request → Request) (p : Option Pending) (reply : Reply) (names : NamesState) →
    heeds_by p (changed_reply change reply) (changed_names change names) ≡ changed_done change (heeds_by p reply names)
heeds_same change None reply names = refl
heeds_same change (Some p) reply names =
    ap (λ (made : Hears). follows_heard made) (hears_go change p reply names).0 ∙
    follows_same change (hears p reply names).0 (hears p reply names).1

-- WHAT COMES NEXT

by_same : (change : Request → Request) (rest : List RankLine) (o : Option RunnerStep) (s : RankState) (d e : Does) →
    e ≡ changed_does change d →
    does_by rest (option_map (changed_step change) o) (changed_rank change s) e ≡
    changed_does change (does_by rest o s d)
by_same change rest None s d e h = h
by_same change rest (Some step) s d e h = refl

along_same : (change : Request → Request) (lines : List RankLine) (s : RankState) →
    along lines (changed_rank change s) ≡ changed_does change (along lines s)
unfolding along
along_same change [] s = refl
along_same change (line ∷ rest) s =
    ap (λ (a : Acts). does_or rest a (along rest a.1)) (states_same change line.number line.statement s.names)
    ∙ by_same change rest (acts line s).0 (acts line s).1 (along rest (acts line s).1)
    (along rest (changed_rank change (acts line s).1)) (along_same change rest (acts line s).1)

pub requests_are_handed_on : RequestsAreHandedOn
requests_are_handed_on change s None = along_same change s.lines s.rank
requests_are_handed_on change s (Some reply) =
    ap (λ (a : Acts). does_or s.lines a (along s.lines a.1)) (heeds_same change s.rank.pending reply s.rank.names)
    ∙ by_same change s.lines (heeds reply s.rank).0 (heeds reply s.rank).1 (along s.lines (heeds reply s.rank).1)
    (along s.lines (changed_rank change (heeds reply s.rank).1)) (along_same change s.lines (heeds reply s.rank).1)

pub keys_are_no_matter : KeysAreNoMatter
keys_are_no_matter s reply = requests_are_handed_on plain_request s reply
