-- Small scripts, and what their ranks print in the one meaning.
use Rattle.std.specs.Prelude.{ℕ, suc, Bool, List, [], ◌∷◌, ◌++◌, length, Option, Some, None}
use Rattle.layouts.specs.Buffers.{Contents}
use Rattle.perfect_groups.specs.Calls.{Call, Enter, Irecv, Isend, Number, OfCollective, OfFact, OfRequests, Wait}
use Rattle.perfect_groups.specs.Collectives.{Allreduce, CollectiveCall, CommDup}
use Rattle.perfect_groups.specs.Membership.{Left}
use Rattle.perfect_queues.specs.Buffers.{whole}
use Rattle.perfect_queues.specs.Calls.{Done}
use Rattle.perfect_queues.specs.Completions.{ForAll, ForOne, One}
use Rattle.perfect_queues.specs.Outcomes.{Outcome, Received}
use Rattle.vocabulary.specs.declared.operation.Operation.TheVariants.{Sum}
use Rattle.vocabulary.specs.declared.basic_type.BasicType.TheVariants.{Int32}
use Rattle.vocabulary.specs.declared.envelope.Source.TheVariants.{Rank}
use Rattle.vocabulary.specs.declared.mode.Mode.TheVariants.{Standard}
use Rattle.one_meaning.specs.Courses.{Calls, Courses, Ends, Prints, Process, Refused, Replied, Step, Told}
use Rattle.one_meaning.specs.Turns.{one_meaning}

-- A script: what it does next, by what it is told, one step after the other. Behind the last one it ends
abbrev pub Script : Type 0
Script = List (Option Told → Step)

abbrev pub next_of : Process Script
next_of [] t = (Ends 0, [])
next_of (f ∷ fs) t = (f t, fs)

-- the scripts by rank
abbrev pub by_rank : List Script → (rank : ℕ) → Script
by_rank [] r = []
by_rank (s ∷ ss) ℕ.zero = s
by_rank (s ∷ ss) (suc r) = by_rank ss r

-- what a rank has printed, and whether its script has ended
abbrev pub Printed : Type 0
Printed = List (List ℕ) × Bool

-- of the first n ranks
abbrev pub printed : (n : ℕ) → Courses Script → List Printed
printed ℕ.zero all = []
printed (suc n) all = printed n all ++ ((all n).lines, (all n).ended) ∷ []

-- what each rank prints in the one meaning
abbrev pub meaning : List Script → List Printed
meaning scripts = printed (length scripts) (one_meaning next_of length (length scripts) (by_rank scripts))

-- ---- steps

abbrev pub calls : Call → Option Told → Step
calls c t = Calls c

-- the elements of a receive
abbrev pub elements_of : Outcome → List ℕ
elements_of (Received s buffer) = buffer.values
elements_of _ = []

abbrev pub all_elements : List Outcome → List ℕ
all_elements [] = []
all_elements (o ∷ os) = elements_of o ++ all_elements os

-- what is printed of what was told: elements, a number of a communicator, or the number of a refusal
abbrev pub told_elements : Option Told → List ℕ
told_elements (Some (Refused number)) = number ∷ []
told_elements (Some (Replied (OfRequests (Done (ForOne o))))) = elements_of o
told_elements (Some (Replied (OfRequests (Done (ForAll os))))) = all_elements os
told_elements (Some (Replied (OfCollective (Left (Some elements))))) = elements.values
told_elements (Some (Replied (OfFact (Number number)))) = number ∷ []
told_elements _ = []

-- prints what was told
abbrev pub prints : Option Told → Step
prints t = Prints (told_elements t)

abbrev pub numbers : List ℕ → Contents
numbers values = record { basic = Int32; values = values }

-- sends on world, and receives there one element (MPI 3.1, 3.7.2)
abbrev pub sends : (to tag : ℕ) → List ℕ → Option Told → Step
sends to tag values = calls (Isend Standard (Some 0) (Rank to) (Some tag) (whole (numbers values)))

abbrev pub receives : (source : ℕ) → (tag : Option ℕ) → Option Told → Step
receives source tag = calls (Irecv (Some 0) (Rank source) tag (whole (numbers (0 ∷ []))))

-- the same on another communicator
abbrev pub sends_on : (comm to tag : ℕ) → List ℕ → Option Told → Step
sends_on comm to tag values = calls (Isend Standard (Some comm) (Rank to) (Some tag) (whole (numbers values)))

abbrev pub receives_on : (comm source : ℕ) → (tag : Option ℕ) → Option Told → Step
receives_on comm source tag = calls (Irecv (Some comm) (Rank source) tag (whole (numbers (0 ∷ []))))

-- waits for the request with this serial (3.7.3)
abbrev pub waits : (serial : ℕ) → Option Told → Step
waits k = calls (Wait (One (Some k)))

abbrev pub enters : (comm : ℕ) → CollectiveCall → Option Told → Step
enters comm c = calls (Enter (Some comm) c)

-- ---- scripts

-- rank 0 serves a 1, and rank 1 answers with a 2
abbrev pub ping_pong : List Script
ping_pong =
    (sends 1 1 (1 ∷ []) ∷ waits 0 ∷ receives 1 (Some 2) ∷ waits 1 ∷ prints ∷ [])
    ∷ (receives 0 (Some 1) ∷ waits 0 ∷ prints ∷ sends 0 2 (2 ∷ []) ∷ waits 1 ∷ [])
    ∷ []

-- each of two ranks receives before it sends
abbrev pub deadlock : List Script
deadlock =
    (receives 1 (Some 0) ∷ waits 0 ∷ prints ∷ sends 1 0 (1 ∷ []) ∷ [])
    ∷ (receives 0 (Some 0) ∷ waits 0 ∷ prints ∷ sends 0 0 (2 ∷ []) ∷ [])
    ∷ []

-- two ranks print the sum of a 1 and a 2 (5.9.6)
abbrev pub sums : List Script
sums = (enters 0 (Allreduce Sum (numbers (1 ∷ []))) ∷ prints ∷ []) ∷
    (enters 0 (Allreduce Sum (numbers (2 ∷ []))) ∷ prints ∷ []) ∷ []

-- rank 1 receives first what was sent last, by its tag, and then whatever there is (3.2.4, 3.5)
abbrev pub by_tags : List Script
by_tags =
    (sends 1 5 (1 ∷ []) ∷ sends 1 6 (2 ∷ []) ∷ [])
    ∷ (receives 0 (Some 6) ∷ waits 0 ∷ prints ∷ receives 0 None ∷ waits 1 ∷ prints ∷ [])
    ∷ []

-- rank 1 starts two receives of whatever comes, and waits for the second one first: messages are taken in the order of
-- the receives (3.5)
abbrev pub in_order : List Script
in_order =
    (sends 1 5 (1 ∷ []) ∷ sends 1 6 (2 ∷ []) ∷ [])
    ∷ (receives 0 None ∷ receives 0 None ∷ waits 1 ∷ prints ∷ waits 0 ∷ prints ∷ [])
    ∷ []

-- two ranks copy world; what was sent on world isn't received on the copy (6.4.2, 3.2.3)
abbrev pub on_copies : List Script
on_copies =
    (enters 0 CommDup ∷ sends 1 5 (1 ∷ []) ∷ sends_on 2 1 5 (2 ∷ []) ∷ [])
    ∷ (enters 0 CommDup ∷ receives_on 2 0 None ∷ waits 0 ∷ prints ∷ [])
    ∷ []

-- a send to a rank that there isn't is refused with 5, ERR_RANK, and the rank goes on; the other one does nothing
abbrev pub refused : List Script
refused = (sends 7 1 (1 ∷ []) ∷ prints ∷ []) ∷ [] ∷ []
