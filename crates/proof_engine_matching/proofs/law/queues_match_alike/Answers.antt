use Rattle.proof_engine_matching.proofs.AnnouncedLemmas.{announcements_agree}
use Rattle.proof_engine_matching.proofs.ArrivalLemmas.{arrivals_match}
use Rattle.proof_engine_matching.proofs.PostLemmas.{posts_match, takes_match}
use Rattle.proof_engine_matching.proofs.EndingLemmas.{outcomes_agree, own_outcomes_agree}
use Rattle.proof_engine_matching.proofs.law.queues_match_alike.Goals as goal

pub returns-clause-arrivals : goal.returns-clause-arrivals
returns-clause-arrivals c = arrivals_match

pub returns-clause-posts : goal.returns-clause-posts
returns-clause-posts c = posts_match

pub returns-clause-takes : goal.returns-clause-takes
returns-clause-takes c = takes_match

pub returns-clause-outcomes : goal.returns-clause-outcomes
returns-clause-outcomes c = outcomes_agree

pub returns-clause-own : goal.returns-clause-own
returns-clause-own c = own_outcomes_agree

pub returns-clause-announcements : goal.returns-clause-announcements
returns-clause-announcements c = announcements_agree
