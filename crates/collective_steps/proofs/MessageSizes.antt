-- Each message of a step can be written: its part fits its record.
use Rattle.std.proofs.Common.{◌≡◌, ℕ, suc, ◌+◌, ◌*◌, ◌∙◌, ◌&&◌, ◌==◌, nat_lt, ◌<◌, ◌≤◌, Bool, true, false, List, []}
use Rattle.std.proofs.Common.{◌∷◌, ◌++◌, length, refl, sym, ap, subst, if◌then◌else◌, Option, Some, None, slice_get}
use Rattle.std.proofs.Common.{slice_index_or, arith}
use Rattle.std.specs.List.{All, AllByRecursion}
use Rattle.std.proofs.lemmas.Bool.{and_parts, eqb-true}
use Rattle.std.proofs.lemmas.List.{length-map}
use Rattle.std.proofs.lemmas.List.Elements.{All-from_recursion, recursion_from_All}
use Rattle.collective_progress.specs.Blocks.{are_known, blocks_known, folded_values, is_like}
use Rattle.collective_progress.proofs.Blocks.{same_type}
use Rattle.collective_messages.specs.Entries.{elements_in, record_of}
use Rattle.collective_messages.specs.Messages.{IsFitting, part_said}
use Rattle.collective_messages.specs.Notes.{found_in, member_at}
use Rattle.collective_messages.specs.Verdicts.{is_at, verdict}
use Rattle.collective_messages.specs.declared.entry.Entry.{Entry}
use Rattle.collective_messages.specs.declared.entry.Entry.TheVariants as entries
use Rattle.collective_messages.specs.declared.entry.Inside.{Inside}
use Rattle.collective_messages.specs.declared.message.MessageContent.{MessageContent}
use Rattle.collective_messages.specs.declared.message.MessageContent.TheVariants as given
use Rattle.collective_messages.specs.declared.message.CollectiveMessage.{CollectiveMessage}
use Rattle.collective_messages.specs.declared.note.Note.{Note}
use Rattle.collective_messages.specs.declared.note.NoteContent.{NoteContent}
use Rattle.collective_messages.specs.declared.note.NoteContent.TheVariants as said
use Rattle.collective_messages.specs.declared.verdict.Verdict.{Verdict}
use Rattle.collective_messages.specs.declared.verdict.Verdict.TheVariants as verdicts
use Rattle.collective_steps.specs.Steps.{IsCarriedOut, IsDecided, IsHeard, IsPrepared, IsPreparedEntry, IsPreparedIn}
use Rattle.collective_steps.specs.Steps.{Prepared, block_of, blocks_to, gather_blocks, given_of, handed_in, leaving}
use Rattle.collective_steps.specs.Steps.{leaving_on, leaving_with, made_by, message_to, mine, no_step, reduce_blocks}
use Rattle.collective_steps.specs.Steps.{scatter_step, telling_all, to_others, passed_on, towards, warned, word_given}
use Rattle.collective_steps.specs.Steps.{word_messages, word_to}
use Rattle.collective_steps.specs.declared.step.StepOutcome.TheVariants.{Leaves}
use Rattle.context_agreement.specs.Communicators.{ContextsState}
use Rattle.context_agreement.specs.Parts.{SplitPart}
use Rattle.context_agreement.specs.declared.communicator.Communicator.{Communicator}
use Rattle.collective_steps.proofs.Lengths.{block_long, folded_long}
use Rattle.collective_steps.proofs.ScatterLaws.{block_fits}
use Rattle.datatypes.specs.ContentLaws.{length-bytes_of}
use Rattle.datatypes.specs.Contents.{Contents, bytes_of}
use Rattle.groups.specs.Groups.{is_member}
use Rattle.layouts.specs.Buffers.{is_same_type}
use Rattle.payload.specs.Spellings.{AreElements, AreRanks, ElementsText, NothingMore, PartFits, elements_of}
use Rattle.vocabulary.specs.declared.operation.Operation.{Operation}
use Rattle.payload.specs.declared.record.Elements.{Elements}
use Rattle.payload.specs.declared.payload.Choice.{Choice}
use Rattle.payload.specs.declared.payload.Direction.{Direction}
use Rattle.payload.specs.declared.payload.Direction.TheVariants.{FromRoot, TowardsRoot}
use Rattle.reductions.specs.Operations.{combined, is_defined}
use Rattle.vocabulary.specs.BasicTypes.{size_of}
use Rattle.vocabulary.specs.Endpoints.{is_same}
use Rattle.vocabulary.specs.declared.endpoint.Endpoint.{Endpoint}

-- what is so of two lists is so of both, one behind the other
both : {X : Type 0} (P : X → Type 0) (xs ys : List X) → AllByRecursion P xs → AllByRecursion P ys →
    AllByRecursion P (xs ++ ys)
both P [] ys all rest = rest
both P (x ∷ xs) ys all rest = (all.0, both P xs ys all.1 rest)

-- what fits for each member fits where it is told to the others
told_fit : (own : Endpoint) (i : Inside) (f : ℕ → MessageContent) (ranks : List ℕ) →
    ((r : ℕ) → PartFits (record_of i.entry) (part_said (f r)))
    → AllByRecursion IsFitting (to_others own i f ranks)
told_fit own i f [] fits = tt
told_fit own i f (r ∷ rs) fits = by (is_same (member_at i.incarnation r) own) (told_fit own i f rs fits)
  where
    by : (t : Bool) → AllByRecursion IsFitting (to_others own i f rs)
        → AllByRecursion IsFitting (if t then to_others own i f rs else message_to i (f r) r ∷ to_others own i f rs)
    by true rest = rest
    by false rest = (fits r, rest)

-- the ranks of a group, two bytes each
two_each : (ranks : List ℕ) → length (bytes_of 2 ranks) ≡ length ranks * 2
two_each [] = refl
two_each (r ∷ rs) =
    let rest : length (bytes_of 2 rs) ≡ length rs * 2 = two_each rs in
    let more : suc (suc (length (bytes_of 2 rs))) ≡ suc (length rs) * 2 = omega (arith, rest) in
    more

whole_ranks : (ranks : List ℕ) → 0 < length ranks → AreRanks (bytes_of 2 ranks)
whole_ranks ranks some =
    let width : length (bytes_of 2 ranks) ≡ length ranks * 2 = two_each ranks in
    record { some = omega (arith, width, some); whole = omega (arith, width) }

-- each communicator of a plan has a member
made_present : (h : ContextsState) (ranks : List ℕ) (n : ℕ) (plan : List SplitPart) →
    AllByRecursion (λ (part : SplitPart). 0 < length part.ranks) plan
    → AllByRecursion (λ (c : Communicator). 0 < length c.group) (made_by h ranks n plan)
made_present h ranks n [] all = tt
made_present h ranks n (part ∷ parts) all = (
  subst (λ k. 0 < k) (sym (length-map part.ranks (λ r. slice_index_or ranks r 0))) all.0,
  made_present h ranks (suc n) parts all.1,
)

-- what a member of a split is told fits
given_fits : (i : Inside) (made : List Communicator) → AllByRecursion (λ (c : Communicator). 0 < length c.group) made
    → (choice : Choice) → i.entry ≡ entries.Split choice →
    (r : ℕ) → PartFits (record_of i.entry) (part_said (given_of (mine r made)))
given_fits i [] all choice q r = ap record_of q
given_fits i (c ∷ cs) all choice q r = by (is_member c.group r) (given_fits i cs all.1 choice q r)
  where
    by : (t : Bool) → PartFits (record_of i.entry) (part_said (given_of (mine r cs)))
        → PartFits (record_of i.entry) (part_said (given_of (if t then Some c else mine r cs)))
    by true rest = (ap record_of q, whole_ranks c.group all.0)
    by false rest = rest

-- ---- elements

-- a step that tells nobody
silent : (step told : Prepared) → told.messages ≡ [] → step ≡ told → AllByRecursion IsFitting step.messages
silent step told none is =
    subst (λ (ms : List CollectiveMessage). AllByRecursion IsFitting ms)
    (sym (ap (λ (s : Prepared). s.messages) is ∙ none)) tt

-- who leaves with what was made of the blocks, where something was, tells nobody
leaving_none : (o : Option Contents) → (leaving_with o).messages ≡ []
leaving_none None = refl
leaving_none (Some b) = refl

rooted_none : (t : Bool) (o : Option Contents) → (if t then leaving_with o else leaving None).messages ≡ []
rooted_none true o = leaving_none o
rooted_none false o = refl

-- elements of the type and count that a record says have the bytes that it says
as_said : (e : Elements) (b : Contents) → b.basic ≡ e.basic → length b.values ≡ e.count →
    AreElements (Some e) (bytes_of (size_of b.basic) b.values)
as_said e b basic len =
    length-bytes_of (size_of b.basic) b.values ∙ ap (λ n. n * size_of b.basic) len ∙ ap (λ t. e.count * size_of t) basic

-- a block that is as many elements of the same type as a rank's own
abbrev pub IsLike : Contents → Option Contents → Type 0
IsLike b None = Unit {0}
IsLike b (Some x) = (x.basic ≡ b.basic) × (length x.values ≡ length b.values)

-- the fold of blocks, of one at least
folded_like : (o : Operation) (b : Contents) (t d : Bool) (values : List ℕ) →
    (t ≡ true → length values ≡ length b.values)
    → IsLike b (if t then (if d then Some (record { basic = b.basic; values = values }) else None) else None)
folded_like o b false d values len = tt
folded_like o b true false values len = tt
folded_like o b true true values len = (refl, len refl)

reduced_like : (own : Endpoint) (i : Inside) (notes : List Note) (o : Operation) (b : Contents) (ranks : List ℕ) →
    IsLike b (reduce_blocks own i notes ranks o b)
reduced_like own i notes o b [] = tt
reduced_like own i notes o b (r ∷ rs) =
    folded_like o b (are_known own b i.incarnation i.context i.number notes (r ∷ rs)) (is_defined o b.basic)
    (folded_values (combined o b.basic) (blocks_known own b i.incarnation i.context i.number notes (r ∷ rs)))
    (λ known. folded_long (combined o b.basic) own b i.incarnation i.context i.number notes r rs known)

-- what is made of such a block fits the record
like_elements : (b x : Contents) → IsLike b (Some x) →
    AreElements (Some (elements_in b)) (bytes_of (size_of x.basic) x.values)
like_elements b x like = as_said (elements_in b) x like.0 like.1

-- the blocks of a scatter
blocks_fit : (own : Endpoint) (i : Inside) (e : Elements) (all : Contents) → elements_of (record_of i.entry) ≡ Some e →
    all.basic ≡ e.basic → (ranks : List ℕ) (place : ℕ)
    → (place + length ranks) * e.count ≤ length all.values →
    AllByRecursion IsFitting (blocks_to own i all e.count place ranks)
blocks_fit own i e all q basic [] place few = tt
blocks_fit own i e all q basic (r ∷ rs) place few =
    let next : suc place + length rs ≡ place + suc (length rs) = omega arith in
    by (is_same (member_at i.incarnation r) own)
    (blocks_fit own i e all q basic rs (suc place) (subst (λ n. n * e.count ≤ length all.values) (sym next) few))
  where
    fits : place * e.count + e.count ≤ length all.values
    fits =
        let more = block_fits place e.count (place + suc (length rs)) ((place + suc (length rs)) * e.count) (omega arith) refl in
        omega (arith, more, few)

    by : (t : Bool) → AllByRecursion IsFitting (blocks_to own i all e.count (suc place) rs)
        → AllByRecursion IsFitting (if t then blocks_to own i all e.count (suc place) rs
        else message_to i (given.Elements FromRoot (block_of all e.count place)) r ∷
        blocks_to own i all e.count (suc place) rs)
    by true rest = rest
    by false rest = (
      subst (λ (o : Option Elements). AreElements o (bytes_of (size_of all.basic) (block_of all e.count place).values))
          (sym q)
          (as_said e (block_of all e.count place) basic (block_long place e.count all.values fits)),
      rest,
    )

scatter_fit : (own : Endpoint) (i : Inside) (e : Elements) → elements_of (record_of i.entry) ≡ Some e →
    (ranks : List ℕ) (root : ℕ) (all : Contents)
    → AllByRecursion IsFitting (scatter_step own i ranks root e all).messages
scatter_fit own i e q ranks root all =
    by (is_same_type all.basic e.basic) (nat_lt root (length ranks)) (length all.values == length ranks * e.count) refl
    refl
  where
    by : (s r l : Bool) → is_same_type all.basic e.basic ≡ s → (length all.values == length ranks * e.count) ≡ l
        → AllByRecursion IsFitting (if s &&
        (r && l) then record {
          outcome = Leaves (Some (block_of all e.count root));
          drawn = 0;
          messages =
              blocks_to own i all e.count 0 ranks;
        } else no_step).messages
    by true true true same len =
        let total : length all.values ≡ length ranks * e.count = eqb-true (length all.values) (length ranks * e.count) len in
        let none : 0 + length ranks ≡ length ranks = omega arith in
        blocks_fit own i e all q (same_type all.basic e.basic same) ranks 0
        (subst (λ n. n * e.count ≤ length all.values) (sym none) (omega (arith, total)))
    by true true false same len = tt
    by true false true same len = tt
    by true false false same len = tt
    by false true true same len = tt
    by false true false same len = tt
    by false false true same len = tt
    by false false false same len = tt

-- elements that fit the record, to several
elements_fit : (own : Endpoint) (i : Inside) (x : Entry) (b c : Contents) → i.entry ≡ x →
    elements_of (record_of x) ≡ Some (elements_in b) → IsLike b (Some c) → (way : Direction) (ranks : List ℕ) →
    AllByRecursion IsFitting (to_others own i (λ r. given.Elements way c) ranks)
elements_fit own i x b c q of_it like way ranks =
    told_fit own i (λ r. given.Elements way c) ranks
    (λ r. subst (λ e. PartFits (record_of e) (ElementsText way (bytes_of (size_of c.basic) c.values))) (sym q)
    (subst (λ (o : Option Elements). AreElements o (bytes_of (size_of c.basic) c.values)) (sym of_it)
    (like_elements b c like)))

telling_fit : (own : Endpoint) (i : Inside) (x : Entry) (b : Contents) (o : Option Contents) → i.entry ≡ x →
    elements_of (record_of x) ≡ Some (elements_in b) → IsLike b o →
    (ranks : List ℕ) → AllByRecursion IsFitting (telling_all own i ranks o).messages
telling_fit own i x b None q of_it like ranks = tt
telling_fit own i x b (Some c) q of_it like ranks = elements_fit own i x b c q of_it like FromRoot ranks

on_fit : (own : Endpoint) (i : Inside) (x : Entry) (b : Contents) (o : Option Contents) → i.entry ≡ x →
    elements_of (record_of x) ≡ Some (elements_in b) → IsLike b o →
    AllByRecursion IsFitting (leaving_on own i o).messages
on_fit own i x b None q of_it like = tt
on_fit own i x b (Some c) q of_it like = elements_fit own i x b c q of_it like FromRoot i.role.onward

-- a root of a reduction tells nobody, and another one tells it
reduce_fit : (own : Endpoint) (i : Inside) (x : Entry) (b : Contents) (o : Option Contents) → i.entry ≡ x →
    elements_of (record_of x) ≡ Some (elements_in b) → IsLike b o →
    (t : Bool) → AllByRecursion IsFitting (if t then leaving_with o else leaving_on own i o).messages
reduce_fit own i x b o q of_it like true =
    subst (λ (ms : List CollectiveMessage). AllByRecursion IsFitting ms) (sym (leaving_none o)) tt
reduce_fit own i x b o q of_it like false = on_fit own i x b o q of_it like

-- what member 0 tells once all have entered
decided_fit : (own : Endpoint) (i : Inside) (h : ContextsState) (ranks : List ℕ) (notes : List Note) (x : Entry) →
    i.entry ≡ x → (step : Prepared)
    → IsDecided own i h ranks notes x step → AllByRecursion IsFitting step.messages
decided_fit own i h ranks notes entries.Barrier q step is =
    subst (λ (s : Prepared). AllByRecursion IsFitting s.messages) (sym is)
    (told_fit own i (λ r. given.Nothing FromRoot) i.role.onward
    (λ r. subst (λ e. PartFits (record_of e) (NothingMore FromRoot)) (sym q) tt))
decided_fit own i h ranks notes entries.Dup q step is =
    subst (λ (s : Prepared). AllByRecursion IsFitting s.messages) (sym is)
    (told_fit own i _ ranks (λ r. ap record_of q))
decided_fit own i h ranks notes (entries.Split choice) q step is =
    let plan = is.0 in
    let present : All (λ (part : SplitPart). 0 < length part.ranks) plan = λ k d within. (is.1.parts k d within).present in
    subst (λ (s : Prepared). AllByRecursion IsFitting s.messages) (sym is.2)
    (told_fit own i (λ r. given_of (mine r (made_by h ranks 0 plan))) ranks
    (given_fits i (made_by h ranks 0 plan)
    (made_present h ranks 0 plan (recursion_from_All (λ (part : SplitPart). 0 < length part.ranks) plan present))
    choice q))
decided_fit own i h ranks notes (entries.Bcast root b) q step is =
    subst (λ (s : Prepared). AllByRecursion IsFitting s.messages) (sym is)
    (elements_fit own i (entries.Bcast root b) b b q refl (refl, refl) FromRoot i.role.onward)
decided_fit own i h ranks notes (entries.Gather root b) q step is =
    silent step (if is_at own i.incarnation ranks root then
    leaving_with (gather_blocks own i notes i.role.feeders b) else leaving None)
    (rooted_none (is_at own i.incarnation ranks root) (gather_blocks own i notes i.role.feeders b)) is
decided_fit own i h ranks notes (entries.Scatter r b) q step is =
    subst (λ (s : Prepared). AllByRecursion IsFitting s.messages) (sym is)
    (scatter_fit own i r.elements (ap (λ e. elements_of (record_of e)) q) ranks r.root (handed_in r.elements b))
decided_fit own i h ranks notes (entries.Reduce o root b) q step is =
    subst (λ (s : Prepared). AllByRecursion IsFitting s.messages) (sym is)
    (reduce_fit own i (entries.Reduce o root b) b (reduce_blocks own i notes i.role.feeders o b) q refl
    (reduced_like own i notes o b i.role.feeders) (is_at own i.incarnation ranks root))
decided_fit own i h ranks notes (entries.Allreduce o b) q step is =
    subst (λ (s : Prepared). AllByRecursion IsFitting s.messages) (sym is)
    (telling_fit own i (entries.Allreduce o b) b (reduce_blocks own i notes i.role.feeders o b) q refl
    (reduced_like own i notes o b i.role.feeders) i.role.onward)

-- what is told on fits
same_kind : (mine b : Contents) → is_like mine b ≡ true → IsLike mine (Some b)
same_kind mine b h =
    let u = and_parts (is_same_type b.basic mine.basic) (length b.values == length mine.values) h in
    (same_type b.basic mine.basic u.0, eqb-true (length b.values) (length mine.values) u.1)

on_told_fit : (own : Endpoint) (i : Inside) (x : Entry) → i.entry ≡ x →
    (y : NoteContent) → AllByRecursion IsFitting (passed_on own i x y)
on_told_fit own i entries.Barrier q (said.Nothing way) =
    told_fit own i (λ r. given.Nothing FromRoot) i.role.onward
    (λ r. subst (λ e. PartFits (record_of e) (NothingMore FromRoot)) (sym q) tt)
on_told_fit own i (entries.Bcast root mine) q (said.Elements way b) = go (is_like mine b) refl
  where
    go : (t : Bool) → is_like mine b ≡ t →
        AllByRecursion IsFitting (if t then to_others own i (λ r. given.Elements FromRoot b) i.role.onward else [])
    go false h = tt
    go true h = elements_fit own i (entries.Bcast root mine) mine b q refl (same_kind mine b h) FromRoot i.role.onward
on_told_fit own i entries.Barrier q said.RecordsDiffer = tt
on_told_fit own i entries.Barrier q (said.Elements way b) = tt
on_told_fit own i entries.Barrier q (said.Context c) = tt
on_told_fit own i entries.Barrier q (said.Choice c) = tt
on_told_fit own i entries.Barrier q said.NullCommunicator = tt
on_told_fit own i entries.Barrier q (said.NewGroup c g) = tt
on_told_fit own i (entries.Bcast root mine) q said.RecordsDiffer = tt
on_told_fit own i (entries.Bcast root mine) q (said.Nothing way) = tt
on_told_fit own i (entries.Bcast root mine) q (said.Context c) = tt
on_told_fit own i (entries.Bcast root mine) q (said.Choice c) = tt
on_told_fit own i (entries.Bcast root mine) q said.NullCommunicator = tt
on_told_fit own i (entries.Bcast root mine) q (said.NewGroup c g) = tt
on_told_fit own i (entries.Gather root b) q y = tt
on_told_fit own i (entries.Scatter r b) q y = tt
on_told_fit own i (entries.Reduce o root b) q y = tt
on_told_fit own i (entries.Allreduce o b) q y = tt
on_told_fit own i entries.Dup q y = tt
on_told_fit own i (entries.Split choice) q y = tt

heard_fit : (own : Endpoint) (i : Inside) (ranks : List ℕ) (n : Option Note) (step : Prepared) →
    IsHeard own i ranks n step → AllByRecursion IsFitting step.messages
heard_fit own i ranks None step is = subst (λ (s : Prepared). AllByRecursion IsFitting s.messages) (sym is) tt
heard_fit own i ranks (Some n) step is =
    subst (λ (s : Prepared). AllByRecursion IsFitting s.messages) (sym is.2) (on_told_fit own i i.entry refl n.said)

-- a rank's word
word_one : (own : Endpoint) (i : Inside) (above : Option ℕ) (g : MessageContent) →
    PartFits (record_of i.entry) (part_said g) → AllByRecursion IsFitting (word_to own i above (Some g))
word_one own i None g fits = tt
word_one own i (Some r) g fits = told_fit own i (λ r. g) (r ∷ []) (λ r. fits)

word_none : (own : Endpoint) (i : Inside) (above : Option ℕ) → AllByRecursion IsFitting (word_to own i above None)
word_none own i None = tt
word_none own i (Some r) = tt

word_elements : (own : Endpoint) (i : Inside) (x : Entry) (b : Contents) (o : Option Contents) → i.entry ≡ x →
    elements_of (record_of x) ≡ Some (elements_in b) → IsLike b o →
    AllByRecursion IsFitting (word_to own i i.role.above (towards o))
word_elements own i x b None q of_it like = word_none own i i.role.above
word_elements own i x b (Some c) q of_it like =
    word_one own i i.role.above (given.Elements TowardsRoot c)
    (subst (λ e. PartFits (record_of e) (ElementsText TowardsRoot (bytes_of (size_of c.basic) c.values))) (sym q)
    (subst (λ (o : Option Elements). AreElements o (bytes_of (size_of c.basic) c.values)) (sym of_it)
    (like_elements b c like)))

word_fit : (own : Endpoint) (i : Inside) (notes : List Note) (x : Entry) → i.entry ≡ x →
    AllByRecursion IsFitting (word_to own i i.role.above (word_given own i notes x))
word_fit own i notes entries.Barrier q =
    word_one own i i.role.above (given.Nothing TowardsRoot)
    (subst (λ e. PartFits (record_of e) (NothingMore TowardsRoot)) (sym q) tt)
word_fit own i notes (entries.Bcast root b) q = word_none own i i.role.above
word_fit own i notes (entries.Gather root b) q =
    word_elements own i (entries.Gather root b) b (Some b) q refl (refl, refl)
word_fit own i notes (entries.Scatter r b) q = word_none own i i.role.above
word_fit own i notes (entries.Reduce o root b) q =
    word_elements own i (entries.Reduce o root b) b (reduce_blocks own i notes i.role.feeders o b) q refl
    (reduced_like own i notes o b i.role.feeders)
word_fit own i notes (entries.Allreduce o b) q =
    word_elements own i (entries.Allreduce o b) b (Some b) q refl (refl, refl)
word_fit own i notes entries.Dup q =
    word_one own i i.role.above (given.Nothing TowardsRoot)
    (subst (λ e. PartFits (record_of e) (NothingMore TowardsRoot)) (sym q) refl)
word_fit own i notes (entries.Split choice) q = word_one own i i.role.above (given.Choice choice) (ap record_of q)

words_fit : (own : Endpoint) (i : Inside) (notes : List Note) → AllByRecursion IsFitting (word_messages own i notes)
words_fit own i notes = go i.told
  where
    go : (t : Bool) →
        AllByRecursion IsFitting (if t then [] else word_to own i i.role.above (word_given own i notes i.entry))
    go true = tt
    go false = word_fit own i notes i.entry refl

carried_fit : (own : Endpoint) (i : Inside) (h : ContextsState) (ranks : List ℕ) (notes : List Note) (v : Verdict)
    (step : Prepared)
    → IsCarriedOut own i h ranks notes v step → AllByRecursion IsFitting step.messages
carried_fit own i h ranks notes verdicts.Stays step is =
    subst (λ (s : Prepared). AllByRecursion IsFitting s.messages) (sym is) tt
carried_fit own i h ranks notes verdicts.Breaks step is =
    subst (λ (s : Prepared). AllByRecursion IsFitting s.messages) (sym is)
    (told_fit own i (λ r. given.RecordsDiffer)
    (warned own i ranks (found_in i.context i.number i.entry notes) i.entry) (λ r. tt))
carried_fit own i h ranks notes verdicts.Waits step is =
    subst (λ (s : Prepared). AllByRecursion IsFitting s.messages) (sym is) (words_fit own i notes)
carried_fit own i h ranks notes verdicts.Decides step is =
    subst (λ (s : Prepared). AllByRecursion IsFitting s.messages) (sym is.2)
    (both IsFitting (word_messages own i notes) is.0.messages (words_fit own i notes)
    (decided_fit own i h ranks notes i.entry refl is.0 is.1))
carried_fit own i h ranks notes (verdicts.Hears place) step is =
    subst (λ (s : Prepared). AllByRecursion IsFitting s.messages) (sym is.2)
    (both IsFitting (word_messages own i notes) is.0.messages (words_fit own i notes)
    (heard_fit own i ranks (slice_get notes place) is.0 is.1))

-- what a rank does of itself
prepared_in_fit : (own : Endpoint) (i : Inside) (h : ContextsState) (notes : List Note) (c : Option Communicator)
    (step : Prepared)
    → IsPreparedIn own i h notes c step → AllByRecursion IsFitting step.messages
prepared_in_fit own i h notes None step is = subst (λ (s : Prepared). AllByRecursion IsFitting s.messages) (sym is) tt
prepared_in_fit own i h notes (Some c) step is = carried_fit own i h c.group notes (verdict own i notes) step is

prepared_by : (own : Endpoint) (present : Option Inside) (h : ContextsState) (notes : List Note) (step : Prepared)
    → IsPrepared own present h notes step → AllByRecursion IsFitting step.messages
prepared_by own None h notes step is = subst (λ (s : Prepared). AllByRecursion IsFitting s.messages) (sym is) tt
prepared_by own (Some i) h notes step is = prepared_in_fit own i h notes (slice_get h.held i.place) step is

pub prepared_fit : (own : Endpoint) (present : Option Inside) (h : ContextsState) (notes : List Note) (step : Prepared)
    → IsPrepared own present h notes step → All IsFitting step.messages
prepared_fit own present h notes step is =
    All-from_recursion IsFitting step.messages (prepared_by own present h notes step is)

-- and on entering
pub entry_fit : (own : Endpoint) (i : Inside) (h : ContextsState) (notes : List Note) (step : Prepared)
    → IsPreparedEntry own i h notes step → All IsFitting step.messages
entry_fit own i h notes step is = prepared_fit own (Some i) h notes step is
