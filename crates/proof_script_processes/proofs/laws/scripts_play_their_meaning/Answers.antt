use Rattle.proof_script_processes.proofs.StepBounds.{scripts_come_to_their_meaning, scripts_play_their_meaning}
use Rattle.proof_script_processes.proofs.laws.scripts_play_their_meaning.Goals as goal

pub returns-clause-there : goal.returns-clause-there
returns-clause-there c = scripts_come_to_their_meaning

pub returns-clause-play : goal.returns-clause-play
returns-clause-play c = scripts_play_their_meaning
