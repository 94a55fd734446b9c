-- That a refused statement changes nothing.
use Rattle.std.specs.Prelude.{◌≡◌, Some, None}
use Rattle.engine_calls.specs.declared.reply.Reply.TheVariants as replies
use Rattle.interpreter.specs.StatementCalls.{Acts, acts_on, receives_to_wait, sends_to_wait}
use Rattle.interpreter.specs.Answers.{hears}
use Rattle.interpreter.specs.NamesState.{NamesState}
use Rattle.interpreter.specs.declared.steps.NextStep.TheVariants as nexts
use Rattle.interpreter.specs.declared.steps.Told.TheVariants as tolds
use Rattle.point_to_point_calls.specs.Refusals.{number_of_refusal}
use Rattle.point_to_point_calls.specs.declared.refusal.Refusal.{Refusal}
use Rattle.statements.specs.declared.action.Action.{Action}
use Rattle.statements.specs.declared.action.Receiving.{Receiving}
use Rattle.statements.specs.declared.action.Sending.{Sending}
use Rattle.proof_interpreter.specs.Names.{AllStays}

-- the refusal's number is told, and every name is what it was
abbrev pub IsUndone : NamesState → Acts → Type 0
IsUndone s (None, new) = new ≡ s
IsUndone s (Some nexts.Nothing, new) = Unit {0}
IsUndone s (Some (nexts.Call made), new) =
    (why : Refusal) → (AllStays s (hears made.pending (replies.Refused why made.call) new).1) ×
    ((hears made.pending (replies.Refused why made.call) new).0 ≡ nexts.Told (tolds.Error (number_of_refusal why)))
IsUndone s (Some (nexts.Told told), new) = new ≡ s

-- so it is for every statement, and for the sends and receives of scripts, which wait in the same line
pub record RefusedStatementsChangeNothing : Type 0 where
  pub statements : (s : NamesState) (a : Action) → IsUndone s (acts_on a s)
  pub sends : (s : NamesState) (x : Sending) → IsUndone s (sends_to_wait x s)
  pub receives : (s : NamesState) (x : Receiving) → IsUndone s (receives_to_wait x s)
