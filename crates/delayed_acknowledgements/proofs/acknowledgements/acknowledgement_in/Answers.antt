-- FOR SPEED ALONE: each goal here is proved without this file, too; with it a wrong body is refused soon.
use Rattle.std.proofs.Common.{rules}
use Rattle.delayed_acknowledgements.proofs.acknowledgements.acknowledgement_in.Goals as goal

pub read_form-requires : goal.read_form-requires
read_form-requires c = search rules

pub returns-in-Ok-Ack : goal.returns-in-Ok-Ack
returns-in-Ok-Ack c = search rules

pub returns-in_default : goal.returns-in_default
returns-in_default c = search rules

pub returns-in_default-2 : goal.returns-in_default-2
returns-in_default-2 c = search rules
