-- FOR SPEED ALONE: each goal here is proved without this file, too; with it a wrong body is refused soon.
use Rattle.std.proofs.Common.{arith, rules}
use Rattle.std.proofs.lemmas.Grind.{common_steps}
use Rattle.printed_lines.proofs.outcomes.OutcomeTextDisplay.fmt.Goals as goal

pub write_str-requires : goal.write_str-requires
write_str-requires g c κs = search rules

pub fmt-requires : goal.fmt-requires
fmt-requires g c κs = search rules

pub fact_in-write : goal.fact_in-write
fact_in-write g c = search rules

pub fact_in-write-in-Ended : goal.fact_in-write-in-Ended
fact_in-write-in-Ended g c = search rules

pub fact_in-write-in-Lost : goal.fact_in-write-in-Lost
fact_in-write-in-Lost g c = search rules

pub fact_in-write-in-Cancelled : goal.fact_in-write-in-Cancelled
fact_in-write-in-Cancelled g c = search rules

pub fact_in-write-in-Failed : goal.fact_in-write-in-Failed
fact_in-write-in-Failed g c = search rules

pub write_str-requires-in-Null : goal.write_str-requires-in-Null
write_str-requires-in-Null g c κs = search rules

pub returns-in-Sent-clause-writes : goal.returns-in-Sent-clause-writes
returns-in-Sent-clause-writes g c = search rules

pub returns-in-Sent-clause-styled : goal.returns-in-Sent-clause-styled
returns-in-Sent-clause-styled g c = search rules

pub returns-in-Received-clause-writes : goal.returns-in-Received-clause-writes
returns-in-Received-clause-writes g c = search rules

pub returns-in-Received-clause-styled : goal.returns-in-Received-clause-styled
returns-in-Received-clause-styled g c = search rules

pub returns-in-Ended-clause-writes : goal.returns-in-Ended-clause-writes
returns-in-Ended-clause-writes g c = grind (arith, common_steps)

pub returns-in-Ended-clause-styled : goal.returns-in-Ended-clause-styled
returns-in-Ended-clause-styled g c = search rules

pub returns-in-Lost-clause-writes : goal.returns-in-Lost-clause-writes
returns-in-Lost-clause-writes g c = search rules

pub returns-in-Lost-clause-styled : goal.returns-in-Lost-clause-styled
returns-in-Lost-clause-styled g c = search rules

pub returns-in-Cancelled-clause-writes : goal.returns-in-Cancelled-clause-writes
returns-in-Cancelled-clause-writes g c = search rules

pub returns-in-Cancelled-clause-styled : goal.returns-in-Cancelled-clause-styled
returns-in-Cancelled-clause-styled g c = search rules

pub returns-in-Failed-clause-writes : goal.returns-in-Failed-clause-writes
returns-in-Failed-clause-writes g c = search rules

pub returns-in-Failed-clause-styled : goal.returns-in-Failed-clause-styled
returns-in-Failed-clause-styled g c = search rules

pub returns-in-Null-clause-writes : goal.returns-in-Null-clause-writes
returns-in-Null-clause-writes g c = search rules

pub returns-in-Null-clause-styled : goal.returns-in-Null-clause-styled
returns-in-Null-clause-styled g c = search rules
