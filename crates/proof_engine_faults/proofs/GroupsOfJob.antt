-- The communicators that a rank holds are of ranks of its job, whatever it is told of groups of such ranks.
use Rattle.std.proofs.Common.{◌≡◌, ◌<◌, ◌++◌, ◌||◌, ℕ, zero, suc, Bool, true, false, not, List, [], ◌∷◌, map, Option}
use Rattle.std.proofs.Common.{Some, None, if◌then◌else◌, option_map, slice_get, refl, sym, ap, subst, ◌∙◌}
use Rattle.std.specs.Prelude.{Ok, length, nat_le, nat_lt, slice_index_or, ◌*◌, ◌==◌, ◌&&◌}
use Rattle.std.specs.List.{AllByRecursion, list_any}
use Rattle.std.proofs.lemmas.Bool.{leb-false}
use Rattle.std.proofs.lemmas.Option.{same_Some}
use Rattle.collective_messages.specs.Arrivals.{ArrivalGives, names_beyond, ranks_in, said_of}
use Rattle.collective_messages.specs.Notes.{is_of, member_at}
use Rattle.collective_messages.specs.Verdicts.{is_at, verdict}
use Rattle.collective_messages.specs.declared.address.Address.{Address}
use Rattle.collective_messages.specs.declared.entry.Entry.{Entry}
use Rattle.collective_messages.specs.declared.entry.Entry.TheVariants as entries
use Rattle.collective_messages.specs.declared.entry.Inside.{Inside}
use Rattle.collective_messages.specs.declared.note.Note.{Note}
use Rattle.collective_messages.specs.declared.note.NoteContent.{NoteContent}
use Rattle.collective_messages.specs.declared.note.NoteContent.TheVariants as said
use Rattle.collective_messages.specs.declared.verdict.Verdict.{Verdict}
use Rattle.collective_messages.specs.declared.verdict.Verdict.TheVariants as verdicts
use Rattle.collective_steps.specs.Steps.{HasHeard, IsCarriedOut, IsDecided, IsHeard, IsPrepared, IsPreparedEntry}
use Rattle.collective_steps.specs.Steps.{IsPreparedIn, Prepared}
use Rattle.collective_steps.specs.Steps.{block_of, blocks_to, contexts_after, gather_blocks, handed_in, leaving}
use Rattle.collective_steps.specs.Steps.{leaving_on, leaving_with, made_by, mine, no_step, outcome_of, reduce_blocks}
use Rattle.collective_steps.specs.Steps.{scatter_step, telling_all}
use Rattle.collective_steps.specs.declared.step.StepOutcome.{StepOutcome}
use Rattle.collective_steps.specs.declared.step.StepOutcome.TheVariants.{Stays, Breaks, Waits, Leaves, GetsNull, Gets}
use Rattle.collectives.specs.Calls.{IsReady, entered, kept_with, note_kept, with_note}
use Rattle.collectives.specs.State.{State, after_step, kept_after, was_left}
use Rattle.collectives.specs.declared.collective.ReadyMessage.{ReadyMessage}
use Rattle.communicators.specs.Members.{communicator_of, membership_of}
use Rattle.context_agreement.specs.Communicators.{ContextsState}
use Rattle.context_agreement.specs.Parts.{SplitPart}
use Rattle.context_agreement.specs.declared.communicator.Communicator as held
use Rattle.datatypes.specs.Contents.{Contents, values_of}
use Rattle.groups.specs.Groups.{is_member}
use Rattle.layouts.specs.Buffers.{is_same_type}
use Rattle.payload.specs.Spellings.{ChoiceText, ContextText, Differing, ElementsText, GroupText, NothingMore, NullText}
use Rattle.payload.specs.Spellings.{PartText, PayloadText, elements_of}
use Rattle.payload.specs.declared.payload.Direction.{Direction}
use Rattle.payload.specs.declared.record.Elements.{Elements}
use Rattle.payload.specs.declared.record.Record.{Record}
use Rattle.perfect_groups.specs.Communicators.{Communicator, group_of}
use Rattle.proof_engine_faults.specs.OrderlyEngines.{NamesOfJob}
use Rattle.proof_engine_steps.proofs.ListsApart.{HasIt, all_at, all_from, in_map, kept_all, of_map}
use Rattle.proof_queue_calls.specs.Halves.{AreInWorld}
use Rattle.vocabulary.specs.BasicTypes.{size_of}
use Rattle.vocabulary.specs.declared.endpoint.Endpoint.{Endpoint}

-- ---- groups of ranks below a number

abbrev pub AreBelow : (n : ℕ) → List ℕ → Type 0
AreBelow n ranks = AllByRecursion (λ r. r < n) ranks

abbrev pub HeldBelow : (n : ℕ) → List held.Communicator → Type 0
HeldBelow n cs = AllByRecursion (λ c. AreBelow n c.group) cs

-- what is held is so where the communicators of the membership are of ranks of the job
pub held_below : (n : ℕ) (s : State) (h : ContextsState) → AreInWorld n (membership_of s h) → HeldBelow n h.held
held_below n s h inside =
    all_from (λ (c : held.Communicator). AreBelow n c.group) h.held
    (λ place c there. all_from (λ (x : ℕ). x < n) c.group
    (λ r x at. inside (Some place) (communicator_of s.own c) r x
    (in_map (communicator_of s.own) h.held place c there) (ranked c r x at)))
  where
    ranked : (c : held.Communicator) (r x : ℕ) → slice_get c.group r ≡ Some x →
        slice_get (group_of (communicator_of s.own c)) r ≡ Some x
    ranked c r x at = in_map (λ (m : Endpoint). m.rank) (communicator_of s.own c).members r (member_at _ x)
        (in_map (member_at _) c.group r x at)

-- and the other way round
member_rank : (n i r x : ℕ) (ranks : List ℕ) → AreBelow n ranks →
    slice_get (map (λ (m : Endpoint). m.rank) (map (member_at i) ranks)) r ≡ Some x → x < n
member_rank n i r x ranks below at =
    let m : HasIt (λ (m : Endpoint). m.rank) (map (member_at i) ranks) r x =
    of_map (λ (m : Endpoint). m.rank) (map (member_at i) ranks) r x at in
    let y : HasIt (member_at i) ranks r m.element = of_map (member_at i) ranks r m.element m.there in
    subst (λ (k : ℕ). k < n) (ap (λ (e : Endpoint). e.rank) y.has ∙ m.has)
    (all_at (λ (k : ℕ). k < n) ranks r y.element below y.there)

pub held_inside : (n : ℕ) (s : State) (h : ContextsState) → HeldBelow n h.held → AreInWorld n (membership_of s h)
held_inside n s h below None c r x is at = absurd cc
held_inside n s h below (Some place) c r x is at =
    let d : HasIt (communicator_of s.own) h.held place c = of_map (communicator_of s.own) h.held place c is in
    member_rank n _ r x d.element.group
    (all_at (λ (k : held.Communicator). AreBelow n k.group) h.held place d.element below d.there)
    (subst (λ (k : Communicator). slice_get (group_of k) r ≡ Some x) (sym d.has) at)

-- ---- what a rank gets

-- a rank gets a communicator of ranks of the job, or none
abbrev pub GetsOfJob : (n : ℕ) → StepOutcome → Type 0
GetsOfJob n Stays = Unit {0}
GetsOfJob n Breaks = Unit {0}
GetsOfJob n Waits = Unit {0}
GetsOfJob n (Leaves b) = Unit {0}
GetsOfJob n GetsNull = Unit {0}
GetsOfJob n (Gets c) = AreBelow n c.group

one_more : (n : ℕ) (cs : List held.Communicator) (c : held.Communicator) → HeldBelow n cs → AreBelow n c.group →
    HeldBelow n (cs ++ c ∷ [])
one_more n [] c all here = (here, tt)
one_more n (x ∷ xs) c all here = (all.0, one_more n xs c all.1 here)

pub contexts_below : (n : ℕ) (h : ContextsState) (drawn : ℕ) (o : StepOutcome) → HeldBelow n h.held → GetsOfJob n o →
    HeldBelow n (contexts_after h drawn o).held
contexts_below n h drawn Stays all gets = all
contexts_below n h drawn Breaks all gets = all
contexts_below n h drawn Waits all gets = all
contexts_below n h drawn (Leaves b) all gets = all
contexts_below n h drawn GetsNull all gets = all
contexts_below n h drawn (Gets c) all gets = one_more n h.held c all gets

-- ---- what a step brings

-- steps of the same outcome
same_gets : (n : ℕ) (a b : Prepared) → a ≡ b → GetsOfJob n b.outcome → GetsOfJob n a.outcome
same_gets n a b same gets = subst (λ (p : Prepared). GetsOfJob n p.outcome) (sym same) gets

leaving_gets : (n : ℕ) (o : Option Contents) → GetsOfJob n (leaving_with o).outcome
leaving_gets n None = tt
leaving_gets n (Some b) = tt

leaving_on_gets : (n : ℕ) (own : Endpoint) (i : Inside) (o : Option Contents) → GetsOfJob n (leaving_on own i o).outcome
leaving_on_gets n own i None = tt
leaving_on_gets n own i (Some b) = tt

-- of a gather's root, or of another member
gather_gets : (n : ℕ) (root : Bool) (o : Option Contents) (s : Prepared) →
    s ≡ (if root then leaving_with o else leaving None) → GetsOfJob n s.outcome
gather_gets n true o s is = same_gets n s (leaving_with o) is (leaving_gets n o)
gather_gets n false o s is = same_gets n s (leaving None) is tt

-- of a reduction's root, or of another member
reduce_gets : (n : ℕ) (own : Endpoint) (i : Inside) (root : Bool) (o : Option Contents) (s : Prepared) →
    s ≡ (if root then leaving_with o else leaving_on own i o) → GetsOfJob n s.outcome
reduce_gets n own i true o s is = same_gets n s (leaving_with o) is (leaving_gets n o)
reduce_gets n own i false o s is = same_gets n s (leaving_on own i o) is (leaving_on_gets n own i o)

-- of a scatter's root
scatter_gets : (n : ℕ) (own : Endpoint) (i : Inside) (ranks : List ℕ) (root : ℕ) (e : Elements) (all : Contents) →
    GetsOfJob n (scatter_step own i ranks root e all).outcome
scatter_gets n own i ranks root e all =
    go (is_same_type all.basic e.basic && (nat_lt root (length ranks) &&
    (length all.values == length ranks * e.count)))
  where
    go : (t : Bool) → GetsOfJob n (if t then record {
      outcome = Leaves (Some (block_of all e.count root));
      drawn = 0;
      messages = blocks_to own i all e.count 0 ranks;
    } else no_step).outcome
    go true = tt
    go false = tt

telling_gets : (n : ℕ) (own : Endpoint) (i : Inside) (ranks : List ℕ) (o : Option Contents) →
    GetsOfJob n (telling_all own i ranks o).outcome
telling_gets n own i ranks None = tt
telling_gets n own i ranks (Some b) = tt

-- the parts of a split are of ranks of the communicator that is split
index_below : (n : ℕ) (ranks : List ℕ) (r : ℕ) → 0 < n → AreBelow n ranks → slice_index_or ranks r 0 < n
index_below n [] r some below = some
index_below n (x ∷ xs) zero some below = below.0
index_below n (x ∷ xs) (suc r) some below = index_below n xs r some below.1

part_below : (n : ℕ) (ranks rs : List ℕ) → 0 < n → AreBelow n ranks →
    AreBelow n (map (λ (r : ℕ). slice_index_or ranks r 0) rs)
part_below n ranks [] some below = tt
part_below n ranks (r ∷ rs) some below = (index_below n ranks r some below, part_below n ranks rs some below)

made_below : (n : ℕ) (h : ContextsState) (ranks : List ℕ) (further : ℕ) (plan : List SplitPart) → 0 < n →
    AreBelow n ranks → HeldBelow n (made_by h ranks further plan)
made_below n h ranks further [] some below = tt
made_below n h ranks further (part ∷ parts) some below =
    (part_below n ranks part.ranks some below, made_below n h ranks (suc further) parts some below)

mine_below : (n r : ℕ) (made : List held.Communicator) → HeldBelow n made → GetsOfJob n (outcome_of (mine r made))
mine_below n r [] all = tt
mine_below n r (c ∷ cs) all = go (is_member c.group r) (mine_below n r cs all.1)
  where
    go : (b : Bool) → GetsOfJob n (outcome_of (mine r cs)) →
        GetsOfJob n (outcome_of (if b then Some c else mine r cs))
    go true rest = all.0
    go false rest = rest

decided_gets : (n : ℕ) (own : Endpoint) (i : Inside) (h : ContextsState) (ranks : List ℕ) (notes : List Note)
    (x : Entry) (s : Prepared) → 0 < n → AreBelow n ranks → IsDecided own i h ranks notes x s → GetsOfJob n s.outcome
decided_gets n own i h ranks notes entries.Barrier s some below is = same_gets n s _ is tt
decided_gets n own i h ranks notes (entries.Bcast root b) s some below is = same_gets n s _ is tt
decided_gets n own i h ranks notes (entries.Gather root b) s some below is =
    gather_gets n (is_at own i.incarnation ranks root) (gather_blocks own i notes i.role.feeders b) s is
decided_gets n own i h ranks notes (entries.Scatter r b) s some below is =
    same_gets n s (scatter_step own i ranks r.root r.elements (handed_in r.elements b)) is
    (scatter_gets n own i ranks r.root r.elements (handed_in r.elements b))
decided_gets n own i h ranks notes (entries.Reduce o root b) s some below is =
    reduce_gets n own i (is_at own i.incarnation ranks root) (reduce_blocks own i notes i.role.feeders o b) s is
decided_gets n own i h ranks notes (entries.Allreduce o b) s some below is =
    same_gets n s (telling_all own i i.role.onward (reduce_blocks own i notes i.role.feeders o b)) is
    (telling_gets n own i i.role.onward (reduce_blocks own i notes i.role.feeders o b))
decided_gets n own i h ranks notes entries.Dup s some below is = same_gets n s _ is below
decided_gets n own i h ranks notes (entries.Split choice) s some below (plan, planned, is) =
    same_gets n s _ is (mine_below n own.rank (made_by h ranks 0 plan) (made_below n h ranks 0 plan some below))

heard_gets : (n : ℕ) (ranks : List ℕ) (x : NoteContent) (o : StepOutcome) → AreBelow n ranks → NamesOfJob n x →
    HasHeard ranks x o → GetsOfJob n o
heard_gets n ranks said.RecordsDiffer o below told is = subst (GetsOfJob n) (sym is) tt
heard_gets n ranks (said.Nothing way) o below told is = subst (GetsOfJob n) (sym is) tt
heard_gets n ranks (said.Elements way b) o below told is = subst (GetsOfJob n) (sym is) tt
heard_gets n ranks (said.Context number) o below told (c, numbered, is) = subst (GetsOfJob n) (sym is) below
heard_gets n ranks (said.Choice choice) o below told is = subst (GetsOfJob n) (sym is) tt
heard_gets n ranks said.NullCommunicator o below told is = subst (GetsOfJob n) (sym is) tt
heard_gets n ranks (said.NewGroup number group) o below told (c, numbered, is) = subst (GetsOfJob n) (sym is) told

-- all that is kept names ranks of the job
abbrev pub AreTold : (n : ℕ) → List Note → Type 0
AreTold n notes = AllByRecursion (λ x. NamesOfJob n x.said) notes

told_gets : (n : ℕ) (own : Endpoint) (i : Inside) (ranks : List ℕ) (notes : List Note) (o : Option Note) (place : ℕ)
    (s : Prepared) → AreBelow n ranks → AreTold n notes → slice_get notes place ≡ o → IsHeard own i ranks o s →
    GetsOfJob n s.outcome
told_gets n own i ranks notes None place s below told at is = same_gets n s _ is tt
told_gets n own i ranks notes (Some x) place s below told at (o, has, is) =
    same_gets n s _ is
    (heard_gets n ranks x.said o below (all_at (λ (y : Note). NamesOfJob n y.said) notes place x told at) has)

carried_gets : (n : ℕ) (own : Endpoint) (i : Inside) (h : ContextsState) (ranks : List ℕ) (notes : List Note)
    (v : Verdict) (step : Prepared) → 0 < n → AreBelow n ranks → AreTold n notes →
    IsCarriedOut own i h ranks notes v step → GetsOfJob n step.outcome
carried_gets n own i h ranks notes verdicts.Stays step some below told is = same_gets n step _ is tt
carried_gets n own i h ranks notes verdicts.Breaks step some below told is = same_gets n step _ is tt
carried_gets n own i h ranks notes verdicts.Waits step some below told is = same_gets n step _ is tt
carried_gets n own i h ranks notes verdicts.Decides step some below told (s, decided, is) =
    same_gets n step _ is (decided_gets n own i h ranks notes i.entry s some below decided)
carried_gets n own i h ranks notes (verdicts.Hears place) step some below told (s, heard, is) =
    same_gets n step _ is (told_gets n own i ranks notes (slice_get notes place) place s below told refl heard)

pub prepared_gets : (n : ℕ) (own : Endpoint) (present : Option Inside) (h : ContextsState) (notes : List Note)
    (step : Prepared) → 0 < n → HeldBelow n h.held → AreTold n notes → IsPrepared own present h notes step →
    GetsOfJob n step.outcome
prepared_gets n own None h notes step some all told is = same_gets n step _ is tt
prepared_gets n own (Some i) h notes step some all told is = go (slice_get h.held i.place) refl is
  where
    go : (o : Option held.Communicator) → slice_get h.held i.place ≡ o → IsPreparedIn own i h notes o step →
        GetsOfJob n step.outcome
    go None at p = same_gets n step _ p tt
    go (Some c) at p =
        carried_gets n own i h c.group notes (verdict own i notes) step some
        (all_at (λ (d : held.Communicator). AreBelow n d.group) h.held i.place c all at) told p

-- ---- what is kept

-- what is left of it is told as it was
left_told : (n : ℕ) (notes : List Note) (o : Option Inside) → AreTold n notes → AreTold n (kept_after o notes)
left_told n notes None told = told
left_told n notes (Some i) told =
    kept_all (λ (x : Note). NamesOfJob n x.said) (λ (x : Note). not (is_of i.context i.number x)) notes
    (λ k x at passes. all_at (λ (y : Note). NamesOfJob n y.said) notes k x told at)

pub step_told : (n : ℕ) (s : State) (o : StepOutcome) → AreTold n s.kept → AreTold n (after_step s o).kept
step_told n s Stays told = told
step_told n s Breaks told = left_told n s.kept s.present told
step_told n s Waits told = told
step_told n s (Leaves b) told = left_told n s.kept s.present told
step_told n s GetsNull told = left_told n s.kept s.present told
step_told n s (Gets c) told = left_told n s.kept s.present told

pub step_own : (s : State) (o : StepOutcome) → (after_step s o).own ≡ s.own
step_own s Stays = refl
step_own s Breaks = refl
step_own s Waits = refl
step_own s (Leaves b) = refl
step_own s GetsNull = refl
step_own s (Gets c) = refl

-- ---- what comes

-- the ranks of a group none of which a job lacks
below_by : (n : ℕ) (ranks : List ℕ) → list_any (λ (r : ℕ). nat_le n r) ranks ≡ false → AreBelow n ranks
below_by n [] none = tt
below_by n (r ∷ rs) none = go (nat_le n r) refl none (λ h. below_by n rs h)
  where
    go : (t : Bool) → nat_le n r ≡ t → (t || list_any (λ (x : ℕ). nat_le n x) rs) ≡ false →
        (list_any (λ (x : ℕ). nat_le n x) rs ≡ false → AreBelow n rs) → AreBelow n (r ∷ rs)
    go true is h rest = absurd cc
    go false is h rest = (leb-false n r is, rest h)

elements_of_job : (n : ℕ) (way : Direction) (bytes : List ℕ) (o : Option Elements) (x : NoteContent) →
    option_map (λ (e : Elements). said.Elements way
    (record { basic = e.basic; values = values_of (size_of e.basic) bytes })) o ≡ Some x → NamesOfJob n x
elements_of_job n way bytes None x is = absurd cc
elements_of_job n way bytes (Some e) x is = subst (NamesOfJob n) (same_Some _ x is) tt

says_of_job : (n : ℕ) (r : Record) (p : PartText) (x : NoteContent) → names_beyond n p ≡ false → said_of r p ≡ Some x →
    NamesOfJob n x
says_of_job n r Differing x inside is = subst (NamesOfJob n) (same_Some said.RecordsDiffer x is) tt
says_of_job n r (NothingMore way) x inside is = subst (NamesOfJob n) (same_Some (said.Nothing way) x is) tt
says_of_job n r (ElementsText way bytes) x inside is = elements_of_job n way bytes (elements_of r) x is
says_of_job n r (ContextText c) x inside is = subst (NamesOfJob n) (same_Some (said.Context c) x is) tt
says_of_job n r (ChoiceText choice) x inside is = subst (NamesOfJob n) (same_Some (said.Choice choice) x is) tt
says_of_job n r NullText x inside is = subst (NamesOfJob n) (same_Some said.NullCommunicator x is) tt
says_of_job n r (GroupText c bytes) x inside is =
    subst (NamesOfJob n) (same_Some (said.NewGroup c (ranks_in bytes)) x is) (below_by n (ranks_in bytes) inside)

-- so does what is kept of a message
note_of_job : (n : ℕ) (a : Address) (p : PayloadText) (o : Option NoteContent) (x : Note) →
    said_of p.record_is p.part ≡ o → names_beyond n p.part ≡ false →
    option_map (λ (s : NoteContent). record {
      sender = a.sender;
      context = a.context;
      number = a.number;
      entered = p.record_is;
      said = s;
    }) o ≡ Some x → NamesOfJob n x.said
note_of_job n a p None x is inside kept = absurd cc
note_of_job n a p (Some s) x is inside kept =
    subst (λ (y : Note). NamesOfJob n y.said) (same_Some _ x kept) (says_of_job n p.record_is p.part s inside is)

-- one more is kept, or none
with_one : (n : ℕ) (notes : List Note) (x : Note) → AreTold n notes → NamesOfJob n x.said → AreTold n (notes ++ x ∷ [])
with_one n [] x told here = (here, tt)
with_one n (y ∷ ys) x told here = (told.0, with_one n ys x told.1 here)

kept_told : (n : ℕ) (s : State) (a : Address) (p : PayloadText) (came kept_one : Option Note) → AreTold n s.kept →
    names_beyond n p.part ≡ false → ArrivalGives a.sender a.context a.number p (Ok came) → kept_one ≡ note_kept s came →
    AreTold n (kept_with s.kept kept_one)
kept_told n s a p None kept_one told inside arrives is =
    subst (λ (o : Option Note). AreTold n (kept_with s.kept o)) (sym is) told
kept_told n s a p (Some x) kept_one told inside arrives is =
    subst (λ (o : Option Note). AreTold n (kept_with s.kept o)) (sym is) (go (was_left s.tallies s.present x))
  where
    go : (b : Bool) → AreTold n (kept_with s.kept (if b then None else Some x))
    go true = told
    go false =
        with_one n s.kept x told
        (note_of_job n a p (said_of p.record_is p.part) x refl inside arrives.2)

-- ---- a step that was made ready

-- what a rank keeps and holds is of ranks of its job
pub record AreOfJob (n : ℕ) (s : State) (h : ContextsState) : Type 0 where
  pub kept : AreTold n s.kept
  pub held : HeldBelow n h.held

pub message_of_job : (n : ℕ) (s t : State) (h k : ContextsState) (a : Address) (p : PayloadText)
    (ready : ReadyMessage) → 0 < n → names_beyond n p.part ≡ false → AreOfJob n s h → IsReady s h a p ready →
    t ≡ after_step (with_note s ready.note) ready.step.outcome →
    k ≡ contexts_after h ready.step.drawn ready.step.outcome → AreOfJob n t k
message_of_job n s t h k a p ready some inside o (came, arrives, kept_is, prepared) t_is k_is =
    let told : AreTold n (kept_with s.kept ready.note) =
    kept_told n s a p came ready.note o.kept inside arrives kept_is in
    record {
      kept = subst (λ (x : State). AreTold n x.kept) (sym t_is)
          (step_told n (with_note s ready.note) ready.step.outcome told);
      held = subst (λ (x : ContextsState). HeldBelow n x.held) (sym k_is)
          (contexts_below n h ready.step.drawn ready.step.outcome o.held
          (prepared_gets n s.own s.present h (with_note s ready.note).kept ready.step some o.held told prepared));
    }

pub entry_of_job : (n : ℕ) (s t : State) (h k : ContextsState) (i : Inside) (step : Prepared) → 0 < n →
    AreOfJob n s h → IsPreparedEntry s.own i h s.kept step → t ≡ after_step (entered s i) step.outcome →
    k ≡ contexts_after h step.drawn step.outcome → AreOfJob n t k
entry_of_job n s t h k i step some o prepared t_is k_is = record {
  kept = subst (λ (x : State). AreTold n x.kept) (sym t_is) (step_told n (entered s i) step.outcome o.kept);
  held = subst (λ (x : ContextsState). HeldBelow n x.held) (sym k_is)
      (contexts_below n h step.drawn step.outcome o.held
      (prepared_gets n s.own (Some i) h s.kept step some o.held o.kept prepared));
}
