use Rattle.one_meaning.proofs.Courses.{every_way_leads_there, the_end_is_one}
use Rattle.one_meaning.proofs.laws.ways_lead_there.Goals as goal

pub returns-clause-lead : goal.returns-clause-lead
returns-clause-lead c = every_way_leads_there

pub returns-clause-one : goal.returns-clause-one
returns-clause-one c = the_end_is_one
