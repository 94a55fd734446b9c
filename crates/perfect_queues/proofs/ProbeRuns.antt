-- The runs of the histories that are twins of the counterexamples with probes and synchronous sends.
use Rattle.std.proofs.Common.{◌≡◌, ◌≢◌, ℕ, zero, suc, ◌==◌, Bool, true, false, List, [], ◌∷◌, Option, Some, None}
use Rattle.std.proofs.Common.{if◌then◌else◌, slice_get, refl, arith}
use Rattle.std.specs.List.{AllByRecursion}
use Rattle.perfect_queues.specs.Buffers.{Handed}
use Rattle.perfect_queues.specs.Calls.{Blocked, Improbe, Iprobe, Irecv, Isend, Mrecv, Wait}
use Rattle.perfect_queues.specs.Completions.{One}
use Rattle.perfect_queues.specs.Events.{Event, At}
use Rattle.perfect_queues.specs.Example.{numbers, rank_0, rank_1, three_from_0}
use Rattle.perfect_queues.specs.Messages.{Message}
use Rattle.vocabulary.specs.declared.mode.Mode.TheVariants.{Standard, Synchronous}
use Rattle.perfect_queues.specs.ProbeExamples.{ProbesHaveHistories, finished_when_received, for_tag}
use Rattle.perfect_queues.specs.ProbeExamples.{looks_after_posting, receive_after_taking, sees_by_tag, send_answers}
use Rattle.perfect_queues.specs.ProbeExamples.{sends_synchronously}
use Rattle.perfect_queues.specs.Refusals.{world}
use Rattle.perfect_queues.specs.Requests.{Gone, TakenOut, receive_of}
use Rattle.perfect_queues.specs.Runs.{IsHistory}
use Rattle.perfect_queues.specs.Steps.{Finish, FinishSend, See, TakeOut}
use Rattle.vocabulary.specs.declared.basic_type.BasicType.TheVariants.{Int32}
use Rattle.vocabulary.specs.declared.envelope.Source.TheVariants.{Rank}
use Rattle.layouts.specs.Layouts.{copies_at}
use Rattle.vocabulary.specs.MessageLimits.{frame_limit_of, least, limit_of}

-- the message of a standard send of three elements, and that of a synchronous one whose request is rank 0's first
abbrev message : Message
message = record { sender = rank_0; context = world; tag = 7; basic = Int32; values = 1 ∷ 2 ∷ 3 ∷ []; request = None }

abbrev awaited : Message
awaited = record { sender = rank_0; context = world; tag = 7; basic = Int32; values = 1 ∷ 2 ∷ 3 ∷ []; request = Some 0 }

abbrev zeros : Handed
zeros = numbers (0 ∷ 0 ∷ 0 ∷ [])

abbrev sent : Event
sent = At rank_0 (Some (Isend Standard world (Rank 1) (Some 7) (numbers (1 ∷ 2 ∷ 3 ∷ [])))) []

abbrev sent_to_wait : Event
sent_to_wait = At rank_0 (Some (Isend Synchronous world (Rank 1) (Some 7) (numbers (1 ∷ 2 ∷ 3 ∷ [])))) []

receive_is_blocked : IsHistory 2 least (receive_after_taking Blocked)
unfolding copies_at limit_of frame_limit_of
receive_is_blocked = (
  sent ∷ At rank_1 (Some (Improbe (for_tag None))) (TakeOut (for_tag None) [] message [] ∷ []) ∷
      At rank_1 (Some (Irecv three_from_0)) [] ∷ At rank_1 (Some (Wait (One (Some 1)))) [] ∷ [],
  (
    record { inside = omega arith; current = refl; fit = refl; steps = tt },
    (
      record {
        inside = omega arith;
        current = refl;
        fit = refl;
        steps = (
          (
            refl,
            record {
              stands = refl;
              accepted = refl;
              no_receive = λ j p h. absurd (grind arith);
              no_earlier_message =
                  tt;
            },
          ),
          tt,
          tt,
        );
      },
      (
        record { inside = omega arith; current = refl; fit = refl; steps = tt },
        (record { inside = omega arith; current = refl; fit = refl; steps = tt }, tt),
      ),
    ),
  ),
  refl,
)

send_is_blocked : IsHistory 2 least (sends_synchronously ∷ send_answers Blocked ∷ [])
unfolding copies_at limit_of frame_limit_of
send_is_blocked = (
  sent_to_wait ∷ At rank_0 (Some (Wait (One (Some 0)))) [] ∷ [],
  (
    record { inside = omega arith; current = refl; fit = refl; steps = tt },
    (record { inside = omega arith; current = refl; fit = refl; steps = tt }, tt),
  ),
  refl,
)

no_queue_has_it : (t : Bool) →
    AllByRecursion (λ (m : Message). m.request ≢ Some 0) (if t then [] else (if t then awaited ∷ [] else []))
no_queue_has_it true = tt
no_queue_has_it false = tt

nothing_taken : (j : ℕ) (g : Option (List ℕ)) (m : Message) → slice_get (Gone ∷ []) j ≡ Some (TakenOut g (Some m)) → ⊥
nothing_taken zero g m h = absurd (grind arith)
nothing_taken (suc j) g m h = absurd (grind arith)

send_is_finished : IsHistory 2 least finished_when_received
unfolding copies_at limit_of frame_limit_of
send_is_finished = (
  sent_to_wait ∷ At rank_1 (Some (Improbe (for_tag None))) (TakeOut (for_tag None) [] awaited [] ∷ []) ∷
      At rank_1 (Some (Mrecv (Some 0) zeros)) (Finish 0 (receive_of None awaited zeros) awaited ∷ []) ∷
      At rank_0 (Some (Wait (One (Some 0)))) (FinishSend 0 rank_1 ∷ []) ∷ [],
  (
    record { inside = omega arith; current = refl; fit = refl; steps = tt },
    (
      record {
        inside = omega arith;
        current = refl;
        fit = refl;
        steps = (
          (
            refl,
            record {
              stands = refl;
              accepted = refl;
              no_receive = λ j p h. absurd (grind arith);
              no_earlier_message =
                  tt;
            },
          ),
          tt,
          tt,
        );
      },
      (
        record { inside = omega arith; current = refl; fit = refl; steps = (refl, tt, tt) },
        (
          record {
            inside = omega arith;
            current = refl;
            fit = refl;
            steps = (
              refl,
              record {
                not_pending = λ c. no_queue_has_it (c == 0);
                not_taken_out =
                    λ j g m h from. absurd (nothing_taken j g m h);
              },
              tt,
            );
          },
          tt,
        ),
      ),
    ),
  ),
  refl,
)

tag_is_its_own : IsHistory 2 least (sees_by_tag 7)
unfolding copies_at limit_of frame_limit_of
tag_is_its_own = (
  sent ∷ At rank_1 (Some (Iprobe (for_tag (Some 7)))) (See (for_tag (Some 7)) [] message [] ∷ []) ∷ [],
  (
    record { inside = omega arith; current = refl; fit = refl; steps = tt },
    (
      record {
        inside = omega arith;
        current = refl;
        fit = refl;
        steps = (
          (
            refl,
            record {
              stands = refl;
              accepted = refl;
              no_receive = λ j p h. absurd (grind arith);
              no_earlier_message =
                  tt;
            },
          ),
          tt,
          tt,
        );
      },
      tt,
    ),
  ),
  refl,
)

nothing_is_seen : IsHistory 2 least (looks_after_posting None)
unfolding copies_at limit_of frame_limit_of
nothing_is_seen = (
  sent ∷ At rank_1 (Some (Irecv three_from_0)) [] ∷ At rank_1 (Some (Iprobe (for_tag None))) [] ∷ [],
  (
    record { inside = omega arith; current = refl; fit = refl; steps = tt },
    (
      record { inside = omega arith; current = refl; fit = refl; steps = tt },
      (record { inside = omega arith; current = refl; fit = refl; steps = tt }, tt),
    ),
  ),
  refl,
)

pub probes_have_histories : ProbesHaveHistories
probes_have_histories =
    record {
      receive_is_blocked = receive_is_blocked;
      send_is_blocked = send_is_blocked;
      send_is_finished = send_is_finished;
      tag_is_its_own = tag_is_its_own;
      nothing_is_seen = nothing_is_seen;
    }
