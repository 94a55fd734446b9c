-- What goes out of a rank's collectives can be read where it comes.
use Rattle.std.proofs.Common.{◌≡◌, ℕ, zero, suc, ◌*◌, ◌≤◌, ◌<◌, Bool, true, false, cond, List, [], ◌∷◌, ◌++◌, length}
use Rattle.std.proofs.Common.{map, Option, Some, None, if◌then◌else◌, slice_get, slice_index_or, option_map, refl, sym}
use Rattle.std.proofs.Common.{ap, ◌∙◌, subst, arith, ◌||◌, ◌&&◌, ◌==◌, nat_eq, nat_lt}
use Rattle.std.specs.List.{AllByRecursion}
use Rattle.std.specs.List as lists
use Rattle.std.specs.Option.{option_to_list}
use Rattle.std.specs.Set as sets
use Rattle.layouts.specs.Buffers.{is_same_type}
use Rattle.layouts.specs.Layouts.{has_repeats}
use Rattle.std.proofs.lemmas.List.Elements.{recursion_from_All}
use Rattle.std.proofs.lemmas.Option.{same_Some, slice_get-map}
use Rattle.collective_steps.proofs.MessageSizes.{entry_fit, prepared_fit}
use Rattle.collective_steps.proofs.Plans.{parts_hold}
use Rattle.collectives.specs.Calls.{context_of, inside_of}
use Rattle.collectives.specs.State.{members_incarnation}
use Rattle.collective_steps.specs.Steps as steps
use Rattle.collective_steps.specs.Steps.{HoldsPart, IsCarriedOut, IsDecided, IsHeard, IsPrepared, IsPreparedEntry}
use Rattle.collective_steps.specs.Steps.{IsPreparedIn, Prepared, given_of, group_of_part, made_by, ranks_at, ranks_of}
use Rattle.collective_steps.specs.Steps.{to_others}
use Rattle.collective_steps.specs.declared.step.StepOutcome.TheVariants.{Leaves}
use Rattle.collective_messages.specs.Arrivals.{NamesOnce}
use Rattle.collective_messages.specs.Entries.{record_of}
use Rattle.collective_messages.specs.Messages.{IsFitting, part_said}
use Rattle.collective_messages.specs.Notes.{found_in, member_at}
use Rattle.collective_messages.specs.declared.entry.Entry.{Entry}
use Rattle.collective_messages.specs.declared.entry.Entry.TheVariants as entries
use Rattle.collective_messages.specs.declared.entry.Inside.{Inside}
use Rattle.collective_messages.specs.declared.message.MessageContent.{MessageContent}
use Rattle.collective_messages.specs.declared.message.MessageContent.TheVariants as given
use Rattle.collective_messages.specs.declared.message.CollectiveMessage.{CollectiveMessage}
use Rattle.collective_messages.specs.declared.note.Note.{Note}
use Rattle.collective_messages.specs.Verdicts.{is_at}
use Rattle.collective_messages.specs.Roles as role_ranks
use Rattle.binomial_trees.specs.Trees.{children, parent, rotate, rotate_back}
use Rattle.collective_progress.specs.Blocks.{is_like}
use Rattle.collective_messages.specs.declared.note.NoteContent.{NoteContent}
use Rattle.collective_messages.specs.declared.note.NoteContent.TheVariants as said
use Rattle.collective_messages.specs.declared.verdict.Verdict.{Verdict}
use Rattle.collective_messages.specs.declared.verdict.Verdict.TheVariants as verdicts
use Rattle.context_agreement.specs.Communicators.{ContextsState, coming_context}
use Rattle.context_agreement.specs.Numbers.{number_of}
use Rattle.context_agreement.specs.Parts.{SplitPart}
use Rattle.context_agreement.specs.declared.communicator.Communicator as held
use Rattle.datatypes.specs.ContentLaws.{values_of-bytes_of}
use Rattle.datatypes.specs.Contents.{AreWithin, Contents, bytes_of, values_of}
use Rattle.groups.proofs.Selections.{HasNoRepeats-members_at}
use Rattle.groups.specs.Groups.{HasNoRepeats, is_member}
use Rattle.payload.specs.declared.payload.Direction.TheVariants.{FromRoot}
use Rattle.payload.specs.declared.record.Elements.{Elements}
use Rattle.perfect_groups.specs.Communicators.{Communicator, group_of}
use Rattle.perfect_groups.specs.Communicators as perfect
use Rattle.proof_collective_steps.proofs.EntryLaws.{member_incarnation}
use Rattle.proof_collective_steps.specs.Counterparts.{communicator_of}
use Rattle.proof_collective_steps.specs.MessageNotes.{AreWithinTypes, EntriesAreSendable, HeldIsDistinct, IsDistinct}
use Rattle.proof_collective_steps.specs.MessageNotes.{IsSendable, StepsAreSendable}
use Rattle.proof_collective_steps.specs.MemberViews.{IsPresent}
use Rattle.proof_group_network.specs.NoticesStand.{IsOfWorld}
use Rattle.vocabulary.specs.Endpoints.{is_same}
use Rattle.vocabulary.specs.Operations.{is_associative}
use Rattle.vocabulary.specs.declared.endpoint.Endpoint.{Endpoint}

-- TO THE OTHERS

-- a message goes to another rank of a world of n, at the sender's incarnation, and names no rank twice
record GoesOut (n : ℕ) (own : Endpoint) (m : CollectiveMessage) : Type 0 where
  pub there : m.target.rank < n
  pub alike : m.target.incarnation ≡ own.incarnation
  pub other : is_same m.target own ≡ false
  pub once : NamesOnce (part_said m.given)

one_sendable : (n : ℕ) (own : Endpoint) (i : Inside) (g : MessageContent) (r : ℕ) (ms : List CollectiveMessage) →
    r < n → own.incarnation ≡ i.incarnation → NamesOnce (part_said g) → AllByRecursion (GoesOut n own) ms →
    AllByRecursion (GoesOut n own) (if is_same (member_at i.incarnation r) own then ms else steps.message_to i g r ∷ ms)
one_sendable n own i g r ms there inc is rest = go (is_same (member_at i.incarnation r) own) refl
  where
    go : (b : Bool) → is_same (member_at i.incarnation r) own ≡ b →
        AllByRecursion (GoesOut n own) (if b then ms else steps.message_to i g r ∷ ms)
    go true q = rest
    go false q = (record { there = there; alike = sym inc; other = q; once = is }, rest)

others_sendable : (n : ℕ) (own : Endpoint) (i : Inside) (f : ℕ → MessageContent) (ranks : List ℕ) →
    AllByRecursion (λ r. r < n) ranks → own.incarnation ≡ i.incarnation → ((r : ℕ) → NamesOnce (part_said (f r))) →
    AllByRecursion (GoesOut n own) (to_others own i f ranks)
others_sendable n own i f [] there inc is = tt
others_sendable n own i f (r ∷ rs) there inc is =
    one_sendable n own i (f r) r (to_others own i f rs) there.0 inc (is r) (others_sendable n own i f rs there.1 inc is)

-- the blocks of a scatter
blocks_sendable : (n : ℕ) (own : Endpoint) (i : Inside) (all : Contents) (count place : ℕ) (ranks : List ℕ) →
    AllByRecursion (λ r. r < n) ranks → own.incarnation ≡ i.incarnation →
    AllByRecursion (GoesOut n own) (steps.blocks_to own i all count place ranks)
blocks_sendable n own i all count place [] there inc = tt
blocks_sendable n own i all count place (r ∷ rs) there inc =
    one_sendable n own i (given.Elements FromRoot (steps.block_of all count place)) r
    (steps.blocks_to own i all count (suc place) rs) there.0 inc tt
    (blocks_sendable n own i all count (suc place) rs there.1 inc)

-- what is within its types, and fits its record, can be read
readable : (n : ℕ) (own : Endpoint) (ms : List CollectiveMessage) → AllByRecursion (GoesOut n own) ms →
    AllByRecursion IsFitting ms → AreWithinTypes ms → AllByRecursion (IsSendable n own) ms
readable n own [] out fits within = tt
readable n own (m ∷ ms) out fits within = (
  record {
    there = out.0.there;
    alike = out.0.alike;
    other = out.0.other;
    readable =
        record { fits = fits.0; once = out.0.once; within = within.0 };
  },
  readable n own ms out.1 fits.1 within.1,
)

-- A GROUP IN BYTES

-- a part of a group that names no rank twice doesn't either
part_once : (ranks : List ℕ) (part : SplitPart) → HasNoRepeats ranks → HoldsPart ranks part →
    HasNoRepeats (group_of_part ranks part)
part_once ranks part once holds = HasNoRepeats-members_at ranks part.ranks once holds.0 holds.1

-- and its ranks have as many bits
part_within : (ranks rs : List ℕ) → AreWithin 2 ranks → AreWithin 2 (map (λ r. slice_index_or ranks r 0) rs)
part_within ranks [] w zero = omega arith
part_within ranks [] w (suc k) = omega arith
part_within ranks (r ∷ rs) w zero = w r
part_within ranks (r ∷ rs) w (suc k) = part_within ranks rs w k

-- the ranks of a new group that come are those that were told
group_once : (group : List ℕ) → HasNoRepeats group → AreWithin 2 group → HasNoRepeats (values_of 2 (bytes_of 2 group))
group_once group once within = subst HasNoRepeats (sym (values_of-bytes_of 2 group (omega arith) within)) once

-- THE COMMUNICATORS OF A PLAN

mine_of_plan : (h : ContextsState) (ranks : List ℕ) → HasNoRepeats ranks → AreWithin 2 ranks →
    (plan : List SplitPart) (further r : ℕ) → AllByRecursion (HoldsPart ranks) plan →
    NamesOnce (part_said (given_of (steps.mine r (made_by h ranks further plan))))
mine_of_plan h ranks once within [] further r all = tt
mine_of_plan h ranks once within (part ∷ plan) further r all =
    go (is_member (group_of_part ranks part) r) (mine_of_plan h ranks once within plan (suc further) r all.1)
  where
    go : (b : Bool) → NamesOnce (part_said (given_of (steps.mine r (made_by h ranks (suc further) plan)))) →
        NamesOnce
        (part_said
        (given_of (cond b (Some (record { context = coming_context h further; group = group_of_part ranks part }))
        (steps.mine r (made_by h ranks (suc further) plan)))))
    go false rest = rest
    go true rest =
        group_once (group_of_part ranks part) (part_once ranks part once all.0) (part_within ranks part.ranks within)

-- THE STEPS

-- a step that tells nobody
silent : (n : ℕ) (own : Endpoint) (step told : Prepared) → told.messages ≡ [] → step ≡ told →
    AllByRecursion (GoesOut n own) step.messages
silent n own step told none is =
    subst (λ (ms : List CollectiveMessage). AllByRecursion (GoesOut n own) ms)
    (sym (ap (λ (p : Prepared). p.messages) is ∙ none)) tt

leaving_on_sendable : (n : ℕ) (own : Endpoint) (i : Inside) (o : Option Contents) →
    AllByRecursion (λ r. r < n) i.role.onward → own.incarnation ≡ i.incarnation →
    AllByRecursion (GoesOut n own) (steps.leaving_on own i o).messages
leaving_on_sendable n own i None there inc = tt
leaving_on_sendable n own i (Some b) there inc =
    others_sendable n own i (λ r. given.Elements FromRoot b) i.role.onward there inc (λ r. tt)

reduce_sendable : (n : ℕ) (own : Endpoint) (i : Inside) (t : Bool) (o : Option Contents) →
    AllByRecursion (λ r. r < n) i.role.onward → own.incarnation ≡ i.incarnation →
    AllByRecursion (GoesOut n own) (if t then steps.leaving_with o else steps.leaving_on own i o).messages
reduce_sendable n own i true None there inc = tt
reduce_sendable n own i true (Some b) there inc = tt
reduce_sendable n own i false o there inc = leaving_on_sendable n own i o there inc

rooted_nothing : (t : Bool) (o : Option Contents) → (if t then steps.leaving_with o else steps.leaving None).messages ≡
    []
rooted_nothing true None = refl
rooted_nothing true (Some b) = refl
rooted_nothing false o = refl

telling_sendable : (n : ℕ) (own : Endpoint) (i : Inside) (ranks : List ℕ) (o : Option Contents) →
    AllByRecursion (λ r. r < n) ranks → own.incarnation ≡ i.incarnation →
    AllByRecursion (GoesOut n own) (steps.telling_all own i ranks o).messages
telling_sendable n own i ranks None there inc = tt
telling_sendable n own i ranks (Some b) there inc =
    others_sendable n own i (λ r. given.Elements FromRoot b) ranks there inc (λ r. tt)

scatter_sendable : (n : ℕ) (own : Endpoint) (i : Inside) (ranks : List ℕ) (root : ℕ) (e : Elements) (all : Contents) →
    AllByRecursion (λ r. r < n) ranks → own.incarnation ≡ i.incarnation →
    AllByRecursion (GoesOut n own) (steps.scatter_step own i ranks root e all).messages
scatter_sendable n own i ranks root e all there inc =
    go (is_same_type all.basic e.basic && (nat_lt root (length ranks) && (length all.values == length ranks * e.count)))
  where
    go : (t : Bool) →
        AllByRecursion (GoesOut n own)
        (if t then record {
          outcome = Leaves (Some (steps.block_of all e.count root));
          drawn = 0;
          messages =
              steps.blocks_to own i all e.count 0 ranks;
        } else steps.no_step).messages
    go true = blocks_sendable n own i all e.count 0 ranks there inc
    go false = tt

-- whom a rank tells are ranks of world
record AreThere (n : ℕ) (i : Inside) (ranks : List ℕ) : Type 0 where
  pub all : AllByRecursion (λ r. r < n) ranks
  pub above : AllByRecursion (λ r. r < n) (option_to_list i.role.above)
  pub onward : AllByRecursion (λ r. r < n) i.role.onward

decided_sendable : (n : ℕ) (own : Endpoint) (i : Inside) (h : ContextsState) (ranks : List ℕ) (notes : List Note)
    (y : Entry) (step : Prepared) → AreThere n i ranks → own.incarnation ≡ i.incarnation → HasNoRepeats ranks →
    AreWithin 2 ranks →
    IsDecided own i h ranks notes y step → AllByRecursion (GoesOut n own) step.messages
decided_sendable n own i h ranks notes entries.Barrier step there inc once within q =
    subst (λ (p : Prepared). AllByRecursion (GoesOut n own) p.messages) (sym q)
    (others_sendable n own i (λ r. given.Nothing FromRoot) i.role.onward there.onward inc (λ r. tt))
decided_sendable n own i h ranks notes (entries.Bcast root b) step there inc once within q =
    subst (λ (p : Prepared). AllByRecursion (GoesOut n own) p.messages) (sym q)
    (others_sendable n own i (λ r. given.Elements FromRoot b) i.role.onward there.onward inc (λ r. tt))
decided_sendable n own i h ranks notes (entries.Gather root b) step there inc once within q =
    silent n own step (if is_at own i.incarnation ranks root then
    steps.leaving_with (steps.gather_blocks own i notes i.role.feeders b) else steps.leaving None)
    (rooted_nothing (is_at own i.incarnation ranks root) (steps.gather_blocks own i notes i.role.feeders b)) q
decided_sendable n own i h ranks notes (entries.Scatter r b) step there inc once within q =
    subst (λ (p : Prepared). AllByRecursion (GoesOut n own) p.messages) (sym q)
    (scatter_sendable n own i ranks r.root r.elements (steps.handed_in r.elements b) there.all inc)
decided_sendable n own i h ranks notes (entries.Reduce o root b) step there inc once within q =
    subst (λ (p : Prepared). AllByRecursion (GoesOut n own) p.messages) (sym q)
    (reduce_sendable n own i (is_at own i.incarnation ranks root) (steps.reduce_blocks own i notes i.role.feeders o b)
    there.onward inc)
decided_sendable n own i h ranks notes (entries.Allreduce o b) step there inc once within q =
    subst (λ (p : Prepared). AllByRecursion (GoesOut n own) p.messages) (sym q)
    (telling_sendable n own i i.role.onward (steps.reduce_blocks own i notes i.role.feeders o b) there.onward inc)
decided_sendable n own i h ranks notes entries.Dup step there inc once within q =
    subst (λ (p : Prepared). AllByRecursion (GoesOut n own) p.messages) (sym q)
    (others_sendable n own i (λ r. given.Context (number_of (coming_context h 0))) ranks there.all inc (λ r. tt))
decided_sendable n own i h ranks notes (entries.Split a) step there inc once within q =
    subst (λ (p : Prepared). AllByRecursion (GoesOut n own) p.messages) (sym q.2)
    (others_sendable n own i (λ r. given_of (steps.mine r (made_by h ranks 0 q.0))) ranks there.all inc
    (λ r. mine_of_plan h ranks once within q.0 0 r
    (recursion_from_All (HoldsPart ranks) q.0 (parts_hold own i notes ranks q.0 q.1))))

-- results that are told on
like_sendable : (n : ℕ) (own : Endpoint) (i : Inside) (b : Contents) → AllByRecursion (λ r. r < n) i.role.onward →
    own.incarnation ≡ i.incarnation → (t : Bool) →
    AllByRecursion (GoesOut n own) (if t then to_others own i (λ r. given.Elements FromRoot b) i.role.onward else [])
like_sendable n own i b there inc true =
    others_sendable n own i (λ r. given.Elements FromRoot b) i.role.onward there inc (λ r. tt)
like_sendable n own i b there inc false = tt

on_sendable : (n : ℕ) (own : Endpoint) (i : Inside) (y : Entry) (w : NoteContent) →
    AllByRecursion (λ r. r < n) i.role.onward → own.incarnation ≡ i.incarnation →
    AllByRecursion (GoesOut n own) (steps.passed_on own i y w)
on_sendable n own i entries.Barrier said.RecordsDiffer there inc = tt
on_sendable n own i entries.Barrier (said.Nothing way) there inc =
    others_sendable n own i (λ r. given.Nothing FromRoot) i.role.onward there inc (λ r. tt)
on_sendable n own i entries.Barrier (said.Elements way b) there inc = tt
on_sendable n own i entries.Barrier (said.Context c) there inc = tt
on_sendable n own i entries.Barrier (said.Choice a) there inc = tt
on_sendable n own i entries.Barrier said.NullCommunicator there inc = tt
on_sendable n own i entries.Barrier (said.NewGroup c g) there inc = tt
on_sendable n own i (entries.Bcast root mine) said.RecordsDiffer there inc = tt
on_sendable n own i (entries.Bcast root mine) (said.Nothing way) there inc = tt
on_sendable n own i (entries.Bcast root mine) (said.Elements way b) there inc =
    like_sendable n own i b there inc (is_like mine b)
on_sendable n own i (entries.Bcast root mine) (said.Context c) there inc = tt
on_sendable n own i (entries.Bcast root mine) (said.Choice a) there inc = tt
on_sendable n own i (entries.Bcast root mine) said.NullCommunicator there inc = tt
on_sendable n own i (entries.Bcast root mine) (said.NewGroup c g) there inc = tt
on_sendable n own i (entries.Gather root b) w there inc = tt
on_sendable n own i (entries.Scatter r b) w there inc = tt
on_sendable n own i (entries.Reduce o root b) w there inc = tt
on_sendable n own i (entries.Allreduce o b) w there inc = tt
on_sendable n own i entries.Dup w there inc = tt
on_sendable n own i (entries.Split a) w there inc = tt

heard_sendable : (n : ℕ) (own : Endpoint) (i : Inside) (ranks : List ℕ) (o : Option Note) (step : Prepared) →
    AllByRecursion (λ r. r < n) i.role.onward → own.incarnation ≡ i.incarnation → IsHeard own i ranks o step →
    AllByRecursion (GoesOut n own) step.messages
heard_sendable n own i ranks None step there inc q =
    subst (λ (p : Prepared). AllByRecursion (GoesOut n own) p.messages) (sym q) tt
heard_sendable n own i ranks (Some x) step there inc q =
    subst (λ (p : Prepared). AllByRecursion (GoesOut n own) p.messages) (sym q.2)
    (on_sendable n own i i.entry x.said there inc)

-- warnings
found_there : (n : ℕ) (ranks : List ℕ) → AllByRecursion (λ r. r < n) ranks →
    (t : Bool) → AllByRecursion (λ r. r < n) (if t then ranks else [])
found_there n ranks there true = there
found_there n ranks there false = tt

either_there : (n : ℕ) (xs ys : List ℕ) → AllByRecursion (λ r. r < n) xs → AllByRecursion (λ r. r < n) ys →
    (t : Bool) → AllByRecursion (λ r. r < n) (if t then xs else ys)
either_there n xs ys a b true = a
either_there n xs ys a b false = b

warned_there : (n : ℕ) (own : Endpoint) (i : Inside) (ranks : List ℕ) (t : Bool) (y : Entry) → AreThere n i ranks →
    AllByRecursion (λ r. r < n) (steps.warned own i ranks t y)
warned_there n own i ranks t entries.Barrier there = found_there n ranks there.all t
warned_there n own i ranks t (entries.Bcast root b) there = there.onward
warned_there n own i ranks t (entries.Gather root b) there = tt
warned_there n own i ranks t (entries.Scatter r b) there = tt
warned_there n own i ranks t (entries.Reduce o root b) there =
    found_there n (if is_at own i.incarnation ranks 0 then i.role.onward else option_to_list i.role.above)
    (either_there n i.role.onward (option_to_list i.role.above) there.onward there.above
    (is_at own i.incarnation ranks 0)) (is_associative o b.basic)
warned_there n own i ranks t (entries.Allreduce o b) there = found_there n ranks there.all t
warned_there n own i ranks t entries.Dup there = found_there n ranks there.all t
warned_there n own i ranks t (entries.Split a) there = found_there n ranks there.all t

-- the word
NamesGiven : Option MessageContent → Type 0
NamesGiven None = Unit {0}
NamesGiven (Some g) = NamesOnce (part_said g)

towards_once : (o : Option Contents) → NamesGiven (steps.towards o)
unfolding NamesGiven
towards_once None = tt
towards_once (Some b) = tt

word_once : (own : Endpoint) (i : Inside) (notes : List Note) (y : Entry) → NamesGiven (steps.word_given own i notes y)
unfolding NamesGiven
word_once own i notes entries.Barrier = tt
word_once own i notes (entries.Bcast root b) = tt
word_once own i notes (entries.Gather root b) = tt
word_once own i notes (entries.Scatter r b) = tt
word_once own i notes (entries.Reduce o root b) = towards_once (steps.reduce_blocks own i notes i.role.feeders o b)
word_once own i notes (entries.Allreduce o b) = tt
word_once own i notes entries.Dup = tt
word_once own i notes (entries.Split a) = tt

word_to_sendable : (n : ℕ) (own : Endpoint) (i : Inside) (o : Option ℕ) (g : Option MessageContent) →
    AllByRecursion (λ r. r < n) (option_to_list o) → own.incarnation ≡ i.incarnation → NamesGiven g →
    AllByRecursion (GoesOut n own) (steps.word_to own i o g)
unfolding NamesGiven
word_to_sendable n own i None g there inc once = tt
word_to_sendable n own i (Some r) None there inc once = tt
word_to_sendable n own i (Some r) (Some g) there inc once =
    others_sendable n own i (λ r. g) (r ∷ []) there inc (λ r. once)

word_sendable : (n : ℕ) (own : Endpoint) (i : Inside) (ranks : List ℕ) (notes : List Note) → AreThere n i ranks →
    own.incarnation ≡ i.incarnation → AllByRecursion (GoesOut n own) (steps.word_messages own i notes)
word_sendable n own i ranks notes there inc = go i.told
  where
    go : (t : Bool) →
        AllByRecursion (GoesOut n own) (if t then
        [] else steps.word_to own i i.role.above (steps.word_given own i notes i.entry))
    go true = tt
    go false =
        word_to_sendable n own i i.role.above (steps.word_given own i notes i.entry) there.above inc
        (word_once own i notes i.entry)

append_sendable : (n : ℕ) (own : Endpoint) (ms ns : List CollectiveMessage) → AllByRecursion (GoesOut n own) ms →
    AllByRecursion (GoesOut n own) ns → AllByRecursion (GoesOut n own) (ms ++ ns)
append_sendable n own [] ns a b = b
append_sendable n own (m ∷ ms) ns a b = (a.0, append_sendable n own ms ns a.1 b)

carried_sendable : (n : ℕ) (own : Endpoint) (i : Inside) (h : ContextsState) (ranks : List ℕ) (notes : List Note)
    (v : Verdict) (step : Prepared) → AreThere n i ranks → own.incarnation ≡ i.incarnation → HasNoRepeats ranks →
    AreWithin 2 ranks →
    IsCarriedOut own i h ranks notes v step → AllByRecursion (GoesOut n own) step.messages
carried_sendable n own i h ranks notes verdicts.Stays step there inc once within q =
    subst (λ (p : Prepared). AllByRecursion (GoesOut n own) p.messages) (sym q) tt
carried_sendable n own i h ranks notes verdicts.Breaks step there inc once within q =
    subst (λ (p : Prepared). AllByRecursion (GoesOut n own) p.messages) (sym q)
    (others_sendable n own i (λ r. given.RecordsDiffer)
    (steps.warned own i ranks (found_in i.context i.number i.entry notes) i.entry)
    (warned_there n own i ranks (found_in i.context i.number i.entry notes) i.entry there) inc (λ r. tt))
carried_sendable n own i h ranks notes verdicts.Waits step there inc once within q =
    subst (λ (p : Prepared). AllByRecursion (GoesOut n own) p.messages) (sym q)
    (word_sendable n own i ranks notes there inc)
carried_sendable n own i h ranks notes verdicts.Decides step there inc once within q =
    subst (λ (p : Prepared). AllByRecursion (GoesOut n own) p.messages) (sym q.2)
    (append_sendable n own (steps.word_messages own i notes) q.0.messages (word_sendable n own i ranks notes there inc)
    (decided_sendable n own i h ranks notes i.entry q.0 there inc once within q.1))
carried_sendable n own i h ranks notes (verdicts.Hears place) step there inc once within q =
    subst (λ (p : Prepared). AllByRecursion (GoesOut n own) p.messages) (sym q.2)
    (append_sendable n own (steps.word_messages own i notes) q.0.messages (word_sendable n own i ranks notes there inc)
    (heard_sendable n own i ranks (slice_get notes place) q.0 there.onward inc q.1))

-- the role's ranks are those of the communicator
one_there : (n : ℕ) (ranks : List ℕ) (root : ℕ) → AllByRecursion (λ r. r < n) ranks →
    AllByRecursion (λ r. r < n) (option_to_list (slice_get ranks root))
one_there n [] root a = tt
one_there n (r ∷ rs) zero a = (a.0, tt)
one_there n (r ∷ rs) (suc root) a = one_there n rs root a.1

two_there : (n : ℕ) (xs ys : List ℕ) → AllByRecursion (λ r. r < n) xs → AllByRecursion (λ r. r < n) ys →
    AllByRecursion (λ r. r < n) (xs ++ ys)
two_there n [] ys a b = b
two_there n (x ∷ xs) ys a b = (a.0, two_there n xs ys a.1 b)

at_there : (n : ℕ) (ranks places : List ℕ) → AllByRecursion (λ r. r < n) ranks →
    AllByRecursion (λ r. r < n) (role_ranks.ranks_at ranks places)
at_there n ranks [] a = tt
at_there n ranks (p ∷ ps) a =
    two_there n (option_to_list (slice_get ranks p)) (role_ranks.ranks_at ranks ps) (one_there n ranks p a)
    (at_there n ranks ps a)

below_there : (n : ℕ) (ranks : List ℕ) (o : Option ℕ) → AllByRecursion (λ r. r < n) ranks →
    AllByRecursion (λ r. r < n) (role_ranks.below_place ranks o)
below_there n ranks None a = tt
below_there n ranks (Some p) a = at_there n ranks (children (length ranks) p) a

above_there : (n : ℕ) (ranks : List ℕ) (o : Option ℕ) → AllByRecursion (λ r. r < n) ranks →
    AllByRecursion (λ r. r < n) (option_to_list (role_ranks.above_place ranks o))
above_there n ranks None a = tt
above_there n ranks (Some p) a = go (p == 0)
  where
    go : (t : Bool) → AllByRecursion (λ r. r < n) (option_to_list (if t then None else slice_get ranks (parent p)))
    go true = tt
    go false = one_there n ranks (parent p) a

onward_there : (n top : ℕ) (ranks : List ℕ) (o : Option ℕ) → AllByRecursion (λ r. r < n) ranks →
    AllByRecursion (λ r. r < n) (role_ranks.onward_place top ranks o)
onward_there n top ranks None a = tt
onward_there n top ranks (Some p) a =
    found_there_of (role_ranks.ranks_at ranks places) (at_there n ranks places a) (nat_lt top (length ranks))
  where
    places : List ℕ
    places = map (rotate_back top (length ranks)) (children (length ranks) (rotate top (length ranks) p))

    found_there_of : (xs : List ℕ) → AllByRecursion (λ r. r < n) xs →
        (t : Bool) → AllByRecursion (λ r. r < n) (if t then xs else [])
    found_there_of xs b true = b
    found_there_of xs b false = tt

RoleThere : ℕ → role_ranks.RoleState → Type 0
RoleThere n r = AllByRecursion (λ x. x < n) (option_to_list r.above) × AllByRecursion (λ x. x < n) r.onward

role_there : (n : ℕ) (e : Endpoint) (inc : ℕ) (ranks : List ℕ) (y : Entry) → AllByRecursion (λ r. r < n) ranks →
    RoleThere n (role_ranks.role_of e inc ranks (record_of y))
unfolding RoleThere
role_there n e inc ranks entries.Barrier a =
    (above_there n ranks (role_ranks.own_place e inc ranks) a, below_there n ranks (role_ranks.own_place e inc ranks) a)
role_there n e inc ranks (entries.Bcast root b) a = (tt, onward_there n root ranks (role_ranks.own_place e inc ranks) a)
role_there n e inc ranks (entries.Gather root b) a = (one_there n ranks root a, tt)
role_there n e inc ranks (entries.Scatter r b) a = (tt, found_there n ranks a (is_at e inc ranks r.root))
role_there n e inc ranks (entries.Reduce o root b) a = by (is_associative o b.basic)
  where
    by : (t : Bool) → RoleThere n (role_ranks.reduce_role t (role_ranks.own_place e inc ranks) e inc ranks root)
    by true = (
      above_there n ranks (role_ranks.own_place e inc ranks) a,
      found_there n (option_to_list (slice_get ranks root)) (one_there n ranks root a) (is_at e inc ranks 0),
    )
    by false = (one_there n ranks root a, tt)
role_there n e inc ranks (entries.Allreduce o b) a =
    (one_there n ranks 0 a, found_there n ranks a (is_at e inc ranks 0))
role_there n e inc ranks entries.Dup a = (one_there n ranks 0 a, found_there n ranks a (is_at e inc ranks 0))
role_there n e inc ranks (entries.Split b) a = (one_there n ranks 0 a, found_there n ranks a (is_at e inc ranks 0))

are_there : (n : ℕ) (e : Endpoint) (i : Inside) (ranks : List ℕ) → AllByRecursion (λ r. r < n) ranks →
    i.role ≡ role_ranks.role_of e i.incarnation ranks (record_of i.entry) → AreThere n i ranks
unfolding RoleThere
are_there n e i ranks a is =
    let r : RoleThere n i.role = subst (RoleThere n) (sym is) (role_there n e i.incarnation ranks i.entry a) in
    record { all = a; above = r.0; onward = r.1 }

-- WHAT IS HELD

-- ranks of world have 16 bits
all_within : (n : ℕ) (group : List ℕ) → n ≤ 65536 → AllByRecursion (λ r. r < n) group → AreWithin 2 group
all_within n [] few a zero = omega arith
all_within n [] few a (suc k) = omega arith
all_within n (r ∷ rs) few a zero = let lt : r < n = a.0 in omega (arith, lt, few)
all_within n (r ∷ rs) few a (suc k) = all_within n rs few a.1 k

or_false : (a b : Bool) → (a || b) ≡ false → (a ≡ false) × (b ≡ false)
or_false true b h = absurd cc
or_false false b h = (refl, h)

differ_all : (r : ℕ) (rs : List ℕ) → sets.is_member nat_eq rs r ≡ false → AllByRecursion (λ y. nat_eq r y ≡ false) rs
differ_all r [] h = tt
differ_all r (x ∷ xs) h = (
  (or_false (nat_eq r x) (sets.is_member nat_eq xs r) h).0,
  differ_all r xs (or_false (nat_eq r x) (sets.is_member nat_eq xs r) h).1,
)

pub none_twice : (rs : List ℕ) → has_repeats rs ≡ false → HasNoRepeats rs
unfolding lists.IsDistinct
none_twice [] h = tt
none_twice (r ∷ rs) h = (
  differ_all r rs (or_false (sets.is_member nat_eq rs r) (has_repeats rs) h).0,
  none_twice rs (or_false (sets.is_member nat_eq rs r) (has_repeats rs) h).1,
)

-- the ranks of members are those of the group
ranks_back : (inc : ℕ) (group : List ℕ) → map (λ (m : Endpoint). m.rank) (map (member_at inc) group) ≡ group
ranks_back inc [] = refl
ranks_back inc (r ∷ rs) = ap (λ (xs : List ℕ). r ∷ xs) (ranks_back inc rs)

ranks_there : (n inc : ℕ) (group : List ℕ) → AllByRecursion (λ (m : Endpoint). m.rank < n) (map (member_at inc) group) →
    AllByRecursion (λ r. r < n) group
ranks_there n inc [] a = tt
ranks_there n inc (r ∷ rs) a = (a.0, ranks_there n inc rs a.1)

each_distinct : (n : ℕ) (e : Endpoint) (cs : List held.Communicator) →
    AllByRecursion (IsOfWorld n) (map (communicator_of e) cs) → AllByRecursion (IsDistinct n) cs
each_distinct n e [] a = tt
each_distinct n e (c ∷ cs) a = (
  record {
    once = none_twice c.group (ap has_repeats (sym (ranks_back (members_incarnation e (number_of c.context)) c.group)) ∙
        a.0.once);
    there = ranks_there n (members_incarnation e (number_of c.context)) c.group a.0.there;
  },
  each_distinct n e cs a.1,
)

pub held_is_distinct : HeldIsDistinct
held_is_distinct n e s h m before b all =
    each_distinct n e h.held (subst (λ (cs : List Communicator). AllByRecursion (IsOfWorld n) cs) b.held all)

held_distinct : (n : ℕ) (cs : List held.Communicator) (place : ℕ) (c : held.Communicator) →
    AllByRecursion (IsDistinct n) cs → slice_get cs place ≡ Some c → IsDistinct n c
held_distinct n [] place c all h = absurd cc
held_distinct n (x ∷ xs) zero c all h = subst (IsDistinct n) (same_Some x c h) all.0
held_distinct n (x ∷ xs) (suc k) c all h = held_distinct n xs k c all.1 h

pub held_distinct_at : (n : ℕ) (cs : List Communicator) (place : ℕ) (c : Communicator) →
    AllByRecursion (IsOfWorld n) cs → slice_get cs place ≡ Some c → HasNoRepeats (group_of c)
held_distinct_at n [] place c all h = absurd cc
held_distinct_at n (x ∷ xs) zero c all h =
    subst (λ (d : Communicator). HasNoRepeats (group_of d)) (same_Some x c h) (none_twice (group_of x) all.0.once)
held_distinct_at n (x ∷ xs) (suc k) c all h = held_distinct_at n xs k c all.1 h

prepared_out : (n : ℕ) (own : Endpoint) (i : Inside) (h : ContextsState) (notes : List Note) (c : held.Communicator)
    (step : Prepared) → n ≤ 65536 → own.incarnation ≡ i.incarnation →
    i.role ≡ role_ranks.role_of own i.incarnation c.group (record_of i.entry) → AllByRecursion (IsDistinct n) h.held →
    slice_get h.held i.place ≡ Some c →
    IsPrepared own (Some i) h notes step → AllByRecursion (GoesOut n own) step.messages
prepared_out n own i h notes c step few inc is all at q =
    let d : IsDistinct n c = held_distinct n h.held i.place c all at in
    carried_sendable n own i h c.group notes _ step (are_there n own i c.group d.there is) inc d.once
    (all_within n c.group few d.there)
    (subst (λ (o : Option held.Communicator). IsPreparedIn own i h notes o step) at q)

pub steps_are_sendable : StepsAreSendable
steps_are_sendable n e s h m (Some x) notes step few b all q within =
    subst (λ (p : Prepared). AllByRecursion (IsSendable n e) p.messages)
    (sym (subst (λ (o : Option Inside). IsPrepared s.own o h notes step) b.present.0 q)) tt
steps_are_sendable n e s h m None notes step few b all q within =
    readable n e step.messages (go s.present refl b.present)
    (recursion_from_All IsFitting step.messages (prepared_fit s.own s.present h notes step q)) within
  where
    go : (o : Option Inside) → s.present ≡ o → IsPresent e h o m.membership.present →
        AllByRecursion (GoesOut n e) step.messages
    go None at p =
        subst (λ (z : Prepared). AllByRecursion (GoesOut n e) z.messages)
        (sym (subst (λ (o : Option Inside). IsPrepared s.own o h notes step) at q)) tt
    go (Some i) at p =
        prepared_out n e i h notes p.comm step few p.own p.role all p.at_place
        (subst (λ (o : Endpoint). IsPrepared o (Some i) h notes step) b.own
        (subst (λ (o : Option Inside). IsPrepared s.own o h notes step) at q))

-- ON ENTERING

pub entries_are_sendable : EntriesAreSendable
entries_are_sendable n e s h m place x c step few b all at is_in q within =
    readable n e step.messages (go (slice_get h.held place) refl)
    (recursion_from_All IsFitting step.messages (entry_fit s.own (inside_of s h place x) h s.kept step q)) within
  where
    listed : option_map (communicator_of e) (slice_get h.held place) ≡ Some c
    listed = sym (ap (λ (cs : List Communicator). slice_get cs place) b.held ∙
        slice_get-map (communicator_of e) h.held place) ∙ at

    i : Inside
    i = inside_of s h place x

    own : IsPreparedEntry e i h s.kept step
    own = subst (λ (o : Endpoint). IsPreparedEntry o i h s.kept step) b.own q

    go : (o : Option held.Communicator) → slice_get h.held place ≡ o → AllByRecursion (GoesOut n e) step.messages
    go None z = absurd (let y : None ≡ Some c = sym (ap (λ (o : Option held.Communicator). option_map (communicator_of e) o) z) ∙ listed in cc)
    go (Some comm) z =
        prepared_out n e i h s.kept comm step few inc role all z own
      where
        same : communicator_of e comm ≡ c
        same = same_Some (communicator_of e comm) c
            (sym (ap (λ (o : Option held.Communicator). option_map (communicator_of e) o) z) ∙ listed)

        inc : e.incarnation ≡ i.incarnation
        inc =
            member_incarnation e (members_incarnation e (number_of comm.context)) comm.group
            (subst (λ (d : Communicator). perfect.is_member e d.members ≡ true) (sym same) is_in)
            ∙ (ap (λ (o : Option held.Communicator). members_incarnation e (context_of o)) (sym z) ∙
            ap (λ (o : Endpoint). members_incarnation o (context_of (slice_get h.held place))) (sym b.own))

        role : i.role ≡ role_ranks.role_of e i.incarnation comm.group (record_of x)
        role = λ t. role_ranks.role_of (b.own t) i.incarnation (ranks_of (z t)) (record_of x)
