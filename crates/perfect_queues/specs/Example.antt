-- Examples: rank 0 sends 1, 2 and 3 with tag 7 to rank 1, which receives and waits for them.
use Rattle.std.specs.Prelude.{ℕ, List, [], ◌∷◌, Some, None}
use Rattle.layouts.specs.Buffers.{Contents}
use Rattle.perfect_queues.specs.Buffers.{Handed, whole}
use Rattle.perfect_queues.specs.Calls.{Isend, Irecv, Wait, Started, Done}
use Rattle.perfect_queues.specs.Completions.{One, ForOne}
use Rattle.perfect_queues.specs.Events.{Entry, Called}
use Rattle.vocabulary.specs.declared.mode.Mode.TheVariants.{Standard}
use Rattle.perfect_queues.specs.Outcomes.{Received}
use Rattle.perfect_queues.specs.Receives.{Receive}
use Rattle.perfect_queues.specs.Refusals.{world}
use Rattle.vocabulary.specs.declared.basic_type.BasicType.TheVariants.{Int32}
use Rattle.vocabulary.specs.declared.endpoint.Endpoint.{Endpoint}
use Rattle.vocabulary.specs.declared.envelope.Source.TheVariants.{Rank}

-- rank 0, never started anew
abbrev pub rank_0 : Endpoint
rank_0 = record { rank = 0; incarnation = 0 }

-- rank 1, never started anew
abbrev pub rank_1 : Endpoint
rank_1 = record { rank = 1; incarnation = 0 }

-- a buffer of these numbers
abbrev pub holds : List ℕ → Contents
holds values = record { basic = Int32; values = values }

-- it is handed in whole
abbrev pub numbers : List ℕ → Handed
numbers values = whole (holds values)

-- a receive of three elements from rank 0 with tag 7
abbrev pub three_from_0 : Receive
three_from_0 =
    record {
      source = Rank 0;
      tag = Some 7;
      context = world;
      group = None;
      into = numbers (0 ∷ 0 ∷ 0 ∷ []);
    }

-- what is seen: each call with its reply; the wait answers source 0, tag 7, count 3 and the data
abbrev pub received_once : List Entry
received_once =
    Called rank_0 (Isend Standard world (Rank 1) (Some 7) (numbers (1 ∷ 2 ∷ 3 ∷ []))) (Started 0) ∷
    Called rank_1 (Irecv three_from_0) (Started 0) ∷
    Called rank_1 (Wait (One (Some 0)))
    (Done (ForOne (Received (record { source = Rank 0; tag = Some 7; count = 3 }) (holds (1 ∷ 2 ∷ 3 ∷ []))))) ∷ []

-- four elements, of which one copy of the offsets 0 and 3 is sent
abbrev pub first_and_last : Handed
first_and_last =
    record {
      buffer = holds (1 ∷ 2 ∷ 3 ∷ 4 ∷ []);
      layout = record { basic = Int32; offsets = 0 ∷ 3 ∷ [] };
      copies = 1;
    }

-- six elements, into which one copy of the offsets 1, 2 and 5 is received, from rank 0 with tag 7
abbrev pub blocks_from_0 : Receive
blocks_from_0 =
    record {
      source = Rank 0;
      tag = Some 7;
      context = world;
      group = None;
      into = record {
        buffer = holds (0 ∷ 0 ∷ 0 ∷ 0 ∷ 0 ∷ 0 ∷ []);
        layout = record { basic = Int32; offsets = 1 ∷ 2 ∷ 5 ∷ [] };
        copies = 1;
      };
    }

-- what is seen: the first and the last element come, and take the first two of three places
abbrev pub received_through_layouts : List Entry
received_through_layouts =
    Called rank_0 (Isend Standard world (Rank 1) (Some 7) first_and_last) (Started 0) ∷
    Called rank_1 (Irecv blocks_from_0) (Started 0) ∷
    Called rank_1 (Wait (One (Some 0)))
    (Done (ForOne
    (Received (record { source = Rank 0; tag = Some 7; count = 2 }) (holds (0 ∷ 1 ∷ 4 ∷ 0 ∷ 0 ∷ 0 ∷ []))))) ∷ []
