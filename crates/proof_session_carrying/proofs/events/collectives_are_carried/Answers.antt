use Rattle.proof_session_carrying.proofs.EventSteps.{announcements_are_carried, answers_are_carried}
use Rattle.proof_session_carrying.proofs.EventSteps.{entries_are_carried, notices_are_carried, parts_are_carried}
use Rattle.proof_session_carrying.proofs.events.collectives_are_carried.Goals as goal

pub returns-clause-entries : goal.returns-clause-entries
returns-clause-entries c = entries_are_carried

pub returns-clause-notices : goal.returns-clause-notices
returns-clause-notices c = notices_are_carried

pub returns-clause-announcements : goal.returns-clause-announcements
returns-clause-announcements c = announcements_are_carried

pub returns-clause-answers : goal.returns-clause-answers
returns-clause-answers c = answers_are_carried

pub returns-clause-parts : goal.returns-clause-parts
returns-clause-parts c = parts_are_carried
