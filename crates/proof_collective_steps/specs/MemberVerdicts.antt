-- What a rank does in a collective is what its member does: the verdict.
use Rattle.std.specs.Prelude.{◌≡◌, ℕ, false, List, map, Some, true}
use Rattle.std.specs.List.{AllByRecursion}
use Rattle.collective_messages.specs.Entries.{agrees, record_of}
use Rattle.collective_messages.specs.Notes.{differs_in, is_result, member_at}
use Rattle.collective_messages.specs.Roles.{role_of}
use Rattle.collective_messages.specs.Verdicts as verdicts
use Rattle.collective_messages.specs.declared.entry.Inside.{Inside}
use Rattle.collective_messages.specs.declared.note.Note.{Note}
use Rattle.collective_messages.specs.declared.verdict.Verdict.{Verdict}
use Rattle.collective_messages.specs.declared.verdict.Verdict.TheVariants as code
use Rattle.collective_steps.specs.Steps as steps
use Rattle.perfect_groups.specs.Collectives.{Part}
use Rattle.perfect_groups.specs.Communicators.{Communicator}
use Rattle.proof_collective_steps.specs.Counterparts.{AreNoted, AreSaid, HandsIn, SaidFits, StandsFor, part_of}
use Rattle.proof_group_network.specs.Copies.{HasItsGroup}
use Rattle.proof_group_network.specs.Notices as network
use Rattle.vocabulary.specs.declared.endpoint.Endpoint.{Endpoint}

-- the communicator of the collective that a rank is in
abbrev pub here : Inside → (ranks : List ℕ) → Communicator
here i ranks = record { context = i.context; members = map (member_at i.incarnation) ranks }

-- one verdict is the other
abbrev pub SameVerdict : Verdict → network.Verdict → Type 0
SameVerdict code.Stays network.Stays = Unit {0}
SameVerdict code.Breaks network.Breaks = Unit {0}
SameVerdict code.Waits (network.Waits ps) = Unit {0}
SameVerdict code.Decides (network.Decides ps) = Unit {0}
SameVerdict (code.Hears place) (network.Hears ps w) = Unit {0}
SameVerdict v w = ⊥

-- the verdict of a rank that has the role that its communicator gives, and whose notes stand for its member's, is its
-- member's
abbrev pub VerdictsFollow : Type 0
VerdictsFollow =
    (e : Endpoint) (i : Inside) (ranks : List ℕ) (ns : List Note) (xs : List network.Note) →
    e.incarnation ≡ i.incarnation → i.role ≡ role_of e i.incarnation ranks (record_of i.entry) → AreNoted e ns xs →
    AllByRecursion (HasItsGroup (here i ranks) i.number) xs →
    SameVerdict (verdicts.verdict e i ns) (network.verdict e (here i ranks) i.number (part_of i.entry) xs)

-- whom a rank warns that finds or hears a difference, its member warns
abbrev pub WarningsFollow : Type 0
WarningsFollow =
    (e : Endpoint) (i : Inside) (ranks : List ℕ) (ns : List Note) (xs : List network.Note) →
    e.incarnation ≡ i.incarnation → i.role ≡ role_of e i.incarnation ranks (record_of i.entry) → AreNoted e ns xs →
    AreSaid e (steps.difference_messages e i ranks ns)
    (network.differences_to e (here i ranks) i.number (part_of i.entry)
    (network.found_in i.context i.number (part_of i.entry).record_is xs))

-- what a rank tells on that waits to be told, its member tells on
abbrev pub RelaysFollow : Type 0
RelaysFollow =
    (e : Endpoint) (i : Inside) (ranks : List ℕ) (n : Note) (w : network.Said) →
    e.incarnation ≡ i.incarnation → i.role ≡ role_of e i.incarnation ranks (record_of i.entry) →
    i.role.decides ≡ false →
    StandsFor e n.entered n.said w → is_result n.said ≡ true → SaidFits n.entered n.said →
    agrees i.entry n.entered ≡ true →
    AreSaid e (steps.passed_on e i i.entry n.said) (network.results_on e (here i ranks) i.number (part_of i.entry) w)

-- the word that a rank says once those have entered for whom it waits is its member's: the fold in a reduction,
-- elsewhere its own
abbrev pub WordsFollow : Type 0
WordsFollow =
    (e : Endpoint) (i : Inside) (ranks : List ℕ) (ns : List Note) (xs : List network.Note) (ps : List Part) →
    e.incarnation ≡ i.incarnation → i.role ≡ role_of e i.incarnation ranks (record_of i.entry) →
    HandsIn e ranks i.entry → AreNoted e ns xs →
    differs_in i.context i.number i.entry ns ≡ false →
    network.gathered_by e (here i ranks) i.number (part_of i.entry) xs ≡ Some ps →
    AreSaid e (steps.word_messages e i ns) (network.entries_to e (here i ranks) i.number (part_of i.entry) ps i.told)
