use Rattle.proof_group_network.proofs.MidwayStands.{midway_stands, words_go_on}
use Rattle.proof_group_network.proofs.MidwaySteps.{events_settle, messages_come, notices_come, parts_add_up, words_come}
use Rattle.proof_group_network.proofs.MidwaySteps.{words_settle}
use Rattle.proof_group_network.proofs.midway.words_come_in_parts.Goals as goal

pub returns-clause-words : goal.returns-clause-words
returns-clause-words c = words_come

pub returns-clause-messages : goal.returns-clause-messages
returns-clause-messages c = messages_come

pub returns-clause-notices : goal.returns-clause-notices
returns-clause-notices c = notices_come

pub returns-clause-sums : goal.returns-clause-sums
returns-clause-sums c = parts_add_up

pub returns-clause-settling : goal.returns-clause-settling
returns-clause-settling c = events_settle

pub returns-clause-ends : goal.returns-clause-ends
returns-clause-ends c = words_settle

pub returns-clause-going_on : goal.returns-clause-going_on
returns-clause-going_on c = words_go_on

pub returns-clause-standing : goal.returns-clause-standing
returns-clause-standing c = midway_stands
