-- A world of engines follows the pure network with communicators: the laws of the parts, put together.
use Rattle.std.proofs.Common.{[]}
use Rattle.perfect_groups.proofs.GroupRuns.{one_group_for_each_context}
use Rattle.proof_collective_steps.proofs.RankSteps.{entries_of_ranks_follow, openings_are_shown}
use Rattle.proof_engine_matching.proofs.AnnouncedLemmas.{announcements_agree}
use Rattle.proof_engine_matching.proofs.ArrivalLemmas.{arrivals_match}
use Rattle.proof_engine_matching.proofs.EndingLemmas.{outcomes_agree, own_outcomes_agree}
use Rattle.proof_engine_matching.proofs.PostLemmas.{posts_match, takes_match}
use Rattle.proof_engine_steps.proofs.AnnouncementArrivals.{announcements_are_taken}
use Rattle.proof_engine_steps.proofs.AnswerArrivals.{answers_are_taken}
use Rattle.proof_engine_steps.proofs.CallViews.{calls_are_shown}
use Rattle.proof_engine_steps.proofs.News.{messages_are_taken, news_are_shown}
use Rattle.proof_engine_steps.proofs.OpeningView.{opening_is_shown}
use Rattle.proof_engine_steps.proofs.PieceArrivals.{pieces_are_taken}
use Rattle.proof_engine_steps.proofs.Probes.{looks_are_shown, searches_find_all}
use Rattle.proof_engine_steps.proofs.BlockedRanks.{wakes_are_shown}
use Rattle.proof_engine_steps.specs.Steps.{NewsAreShown}
use Rattle.proof_group_network.proofs.HappeningSteps.{queue_calls_happen, questions_happen, restarts_happen}
use Rattle.proof_group_network.proofs.SessionParts.{new_sessions_are_part}
use Rattle.proof_group_network.proofs.UnbornMembers.{unborn_are_new}
use Rattle.proof_link_truth.proofs.Datagrams.{hearing_is_true}
use Rattle.proof_link_truth.proofs.Deliveries.{deliveries_begin, discards_are_true, turns_are_true}
use Rattle.proof_link_truth.proofs.Deliveries.{turns_tell_the_truth}
use Rattle.proof_link_truth.proofs.Idle.{idle_is_still}
use Rattle.proof_link_truth.proofs.Openings.{opening_is_true}
use Rattle.proof_link_truth.proofs.Refusals.{refusals_are_true}
use Rattle.proof_link_truth.proofs.OrderLaws.{order_is_free}
use Rattle.proof_link_truth.proofs.Restarts.{restarts_are_true}
use Rattle.proof_link_truth.proofs.Sendings.{events_are_true, rest_is_true}
use Rattle.proof_link_truth.proofs.Ticks.{ticks_are_true}
use Rattle.proof_session_carrying.proofs.EventSteps.{entries_are_carried}
use Rattle.proof_session_carrying.proofs.MessageSteps.{others_are_carried, queue_calls_are_carried}
use Rattle.proof_session_carrying.proofs.MessageSteps.{still_texts_are_quiet}
use Rattle.proof_network_runs.proofs.GoingOn.{one_group_along_runs, runs_show_all}
use Rattle.proof_network_bridge.specs.EventLaws.{CallsFollow, DatagramsFollow, FollowingIsRun, OpeningFollows}
use Rattle.proof_network_bridge.specs.EventLaws.{RefusalsFollow, RestartsFollow, TicksFollow}
use Rattle.proof_network_bridge.specs.GoingOn.{CallsFollowOn, DatagramsFollowOn, EnginesShareGroups, FollowingIsEachRun}
use Rattle.proof_network_bridge.specs.GoingOn.{OpeningFollowsNone, RefusalsStand, RestartsFollowOn, TicksStand}
use Rattle.proof_network_bridge.specs.WorldViews.{opening_engines}
use Rattle.proof_network_bridge.proofs.Calls as calls
use Rattle.proof_network_bridge.proofs.Calls.{CoreCallsFollow, EntriesFollow, LooksFollow, QuestionsFollow}
use Rattle.proof_network_bridge.proofs.CoreCalls as core_calls
use Rattle.proof_network_bridge.proofs.Deliveries as delivering
use Rattle.proof_network_bridge.proofs.CollectiveEntries as entering
use Rattle.proof_network_bridge.proofs.RankEvents.{by_happenings, followed, followed_on}
use Rattle.proof_network_bridge.proofs.Looks as looks
use Rattle.proof_network_bridge.proofs.Machine as machine
use Rattle.proof_network_bridge.proofs.Machine.{SeenLaws}
use Rattle.proof_network_bridge.proofs.Beginnings as opening
use Rattle.proof_network_bridge.proofs.Questions as questions
use Rattle.proof_network_bridge.proofs.Reasons.{refused_reason, taken_faultless}
use Rattle.proof_network_bridge.proofs.QuietEvents as unanswered

pub opening_follows_none : OpeningFollowsNone
opening_follows_none = opening.opening_follows opening_is_shown openings_are_shown new_sessions_are_part opening_is_true

pub opening_follows : OpeningFollows
opening_follows l n few =
    followed n l [] (opening_engines l n 0 n) [] [] (opening_follows_none l n few)

-- each kind of calls
core_calls_follow : CoreCallsFollow
core_calls_follow =
    core_calls.core_calls_follow
    (calls_are_shown posts_match arrivals_match takes_match outcomes_agree own_outcomes_agree announcements_agree)
    events_are_true queue_calls_happen
    queue_calls_are_carried taken_faultless

entries_follow : EntriesFollow
entries_follow = entering.entries_follow entries_of_ranks_follow entries_are_carried events_are_true

questions_follow : QuestionsFollow
questions_follow = questions.questions_follow rest_is_true questions_happen others_are_carried taken_faultless

looks_follow : LooksFollow
looks_follow =
    looks.looks_follow (looks_are_shown takes_match) rest_is_true queue_calls_happen others_are_carried taken_faultless

pub calls_follow_on : CallsFollowOn
calls_follow_on = calls.calls_follow core_calls_follow entries_follow questions_follow looks_follow

-- whoever is followed by some happenings is followed
pub calls_follow : CallsFollow
calls_follow n r engines datagrams history old mid call reply f there taken gives =
    followed_on n f.limit r f.happenings _ _ _
    (calls_follow_on n f.limit r f.happenings engines datagrams history old mid call reply
    (by_happenings n engines datagrams history f) there taken gives)

-- each kind of frame of messages is taken in as it is in the network
news_follow : NewsAreShown
news_follow =
    news_are_shown (record {
      messages = messages_are_taken arrivals_match outcomes_agree;
      announcements = announcements_are_taken arrivals_match announcements_agree;
      answers = answers_are_taken;
      pieces = pieces_are_taken outcomes_agree;
    })

pub datagrams_follow_on : DatagramsFollowOn
datagrams_follow_on = delivering.datagrams_follow news_follow wakes_are_shown (record {
  hears = hearing_is_true;
  events = events_are_true;
  starts = deliveries_begin;
  tell = turns_tell_the_truth;
  turns = turns_are_true;
  discards = discards_are_true;
  order = order_is_free;
  rest = rest_is_true;
})

pub datagrams_follow : DatagramsFollow
datagrams_follow n r number bytes engines datagrams history old mid f there emitted gives =
    followed_on n f.limit r f.happenings _ _ _
    (datagrams_follow_on n f.limit r number bytes f.happenings engines datagrams history old mid
    (by_happenings n engines datagrams history f) there emitted gives)

pub refusals_stand : RefusalsStand
refusals_stand = unanswered.refusals_stand rest_is_true refusals_are_true

pub refusals_follow : RefusalsFollow
refusals_follow n r number bytes engines datagrams history old mid why f there emitted gives =
    followed n f.limit f.happenings _ _ _
    (refusals_stand n f.limit r number bytes f.happenings engines datagrams history old mid why
    (by_happenings n engines datagrams history f) there emitted gives)

pub ticks_stand : TicksStand
ticks_stand = unanswered.ticks_stand ticks_are_true

pub ticks_follow : TicksFollow
ticks_follow n r now engines datagrams history old mid f there gives =
    followed n f.limit f.happenings _ _ _
    (ticks_stand n f.limit r now f.happenings engines datagrams history old mid
    (by_happenings n engines datagrams history f) there gives)

pub restarts_follow_on : RestartsFollowOn
restarts_follow_on =
    opening.restarts_follow opening_is_shown openings_are_shown restarts_are_true restarts_happen unborn_are_new

pub restarts_follow : RestartsFollow
restarts_follow n r engines datagrams history old f there few =
    followed_on n f.limit r f.happenings _ _ _
    (restarts_follow_on n f.limit r f.happenings engines datagrams history old
    (by_happenings n engines datagrams history f)
    there few)

seen_laws : SeenLaws
seen_laws = record {
  idle = idle_is_still;
  texts = still_texts_are_quiet;
  one = one_group_for_each_context;
  refused = refused_reason;
  taken = taken_faultless;
  looks = looks_are_shown takes_match;
  searches = searches_find_all takes_match;
}

pub following_is_run : FollowingIsRun
following_is_run = machine.following_is_run seen_laws

pub following_is_each_run : FollowingIsEachRun
following_is_each_run = machine.following_is_each_run runs_show_all seen_laws

pub engines_share_groups : EnginesShareGroups
engines_share_groups = machine.engines_share_groups one_group_along_runs
