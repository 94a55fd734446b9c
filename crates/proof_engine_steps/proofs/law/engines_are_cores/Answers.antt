use Rattle.proof_engine_matching.proofs.AnnouncedLemmas.{announcements_agree}
use Rattle.proof_engine_matching.proofs.ArrivalLemmas.{arrivals_match}
use Rattle.proof_engine_matching.proofs.EndingLemmas.{outcomes_agree, own_outcomes_agree}
use Rattle.proof_engine_matching.proofs.PostLemmas.{posts_match, takes_match}
use Rattle.proof_engine_steps.proofs.AnnouncementArrivals.{announcements_are_taken}
use Rattle.proof_engine_steps.proofs.AnswerArrivals.{answers_are_taken}
use Rattle.proof_engine_steps.proofs.CallViews.{calls_are_shown}
use Rattle.proof_engine_steps.proofs.News.{messages_are_taken, news_are_shown}
use Rattle.proof_engine_steps.proofs.OpeningView.{opening_is_settled, opening_is_shown}
use Rattle.proof_engine_steps.proofs.PieceArrivals.{pieces_are_taken}
use Rattle.proof_engine_steps.proofs.Probes.{looks_are_judged, looks_are_shown, searches_find_all}
use Rattle.proof_engine_steps.proofs.RefusedCalls.{allowed_calls_are_faultless, faults_have_reasons, room_is_a_reason}
use Rattle.proof_engine_steps.proofs.UnderWay.{others_may_announce}
use Rattle.proof_engine_steps.proofs.BlockedRanks.{wakes_are_shown}
use Rattle.proof_engine_steps.proofs.law.engines_are_cores.Goals as goal

pub returns-clause-calls : goal.returns-clause-calls
returns-clause-calls c =
    calls_are_shown posts_match arrivals_match takes_match outcomes_agree own_outcomes_agree announcements_agree

pub returns-clause-looks : goal.returns-clause-looks
returns-clause-looks c = looks_are_shown takes_match

pub returns-clause-judged : goal.returns-clause-judged
returns-clause-judged c = looks_are_judged

pub returns-clause-finds : goal.returns-clause-finds
returns-clause-finds c = searches_find_all takes_match

pub returns-clause-announced : goal.returns-clause-announced
returns-clause-announced c = others_may_announce

pub returns-clause-faults : goal.returns-clause-faults
returns-clause-faults c = faults_have_reasons

pub returns-clause-allowed : goal.returns-clause-allowed
returns-clause-allowed c = allowed_calls_are_faultless

pub returns-clause-room : goal.returns-clause-room
returns-clause-room c = room_is_a_reason allowed_calls_are_faultless

pub returns-clause-news : goal.returns-clause-news
returns-clause-news c =
    news_are_shown (record {
      messages = messages_are_taken arrivals_match outcomes_agree;
      announcements = announcements_are_taken arrivals_match announcements_agree;
      answers = answers_are_taken;
      pieces = pieces_are_taken outcomes_agree;
    })

pub returns-clause-opening : goal.returns-clause-opening
returns-clause-opening c = opening_is_shown

pub returns-clause-opening_settled : goal.returns-clause-opening_settled
returns-clause-opening_settled c = opening_is_settled

pub returns-clause-wakes : goal.returns-clause-wakes
returns-clause-wakes c = wakes_are_shown
