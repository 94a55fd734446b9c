-- Whom a rank tells something in a collective: members of the communicator alone.
use Rattle.std.proofs.Common.{◌≡◌, ℕ, zero, suc, ◌*◌, ◌&&◌, ◌==◌, Bool, true, false, List, [], ◌∷◌, length, map, Option}
use Rattle.std.proofs.Common.{Some, None, if◌then◌else◌, nat_lt, sym, subst}
use Rattle.std.specs.Prelude.{slice_get}
use Rattle.std.specs.Option.{option_to_list}
use Rattle.std.specs.List.{AllByRecursion}
use Rattle.collective_progress.specs.Blocks.{is_like}
use Rattle.collective_messages.specs.Entries.{record_of}
use Rattle.collective_messages.specs.Notes.{found_in, member_at}
use Rattle.collective_messages.specs.Verdicts.{is_at, verdict}
use Rattle.collective_messages.specs.Roles as roles
use Rattle.binomial_trees.specs.Trees.{children, parent, rotate, rotate_back}
use Rattle.collective_messages.specs.declared.entry.Entry.{Entry}
use Rattle.collective_messages.specs.declared.entry.Entry.TheVariants as entries
use Rattle.collective_messages.specs.declared.entry.Inside.{Inside}
use Rattle.collective_messages.specs.declared.message.MessageContent.{MessageContent}
use Rattle.collective_messages.specs.declared.message.MessageContent.TheVariants as given
use Rattle.collective_messages.specs.declared.message.CollectiveMessage.{CollectiveMessage}
use Rattle.collective_messages.specs.declared.note.Note.{Note}
use Rattle.collective_messages.specs.declared.note.NoteContent.{NoteContent}
use Rattle.collective_messages.specs.declared.note.NoteContent.TheVariants as said
use Rattle.collective_messages.specs.declared.verdict.Verdict.{Verdict}
use Rattle.collective_messages.specs.declared.verdict.Verdict.TheVariants as verdicts
use Rattle.collective_steps.specs.Steps.{IsCarriedOut, IsDecided, IsHeard, IsPrepared, IsPreparedIn, Prepared, block_of}
use Rattle.collective_steps.specs.Steps.{blocks_to, gather_blocks, handed_in, leaving, leaving_on, leaving_with}
use Rattle.collective_steps.specs.Steps.{message_to, no_step, ranks_at, ranks_of, reduce_blocks, scatter_step}
use Rattle.collective_steps.specs.Steps.{telling_all, to_others, passed_on, warned, word_given, word_messages, word_to}
use Rattle.collective_steps.specs.declared.step.StepOutcome.TheVariants.{Leaves}
use Rattle.context_agreement.specs.Communicators.{ContextsState}
use Rattle.context_agreement.specs.declared.communicator.Communicator as held
use Rattle.datatypes.specs.Contents.{Contents}
use Rattle.layouts.specs.Buffers.{is_same_type}
use Rattle.payload.specs.declared.payload.Direction.TheVariants.{FromRoot}
use Rattle.payload.specs.declared.record.Elements.{Elements}
use Rattle.proof_link_truth.proofs.Lists.{All_append}
use Rattle.vocabulary.specs.Endpoints.{is_same}
use Rattle.vocabulary.specs.Operations.{is_associative}
use Rattle.vocabulary.specs.declared.endpoint.Endpoint.{Endpoint}

-- the members of these ranks, of the collective that a rank is in, are such
abbrev pub AreMembers : (Endpoint → Type 0) → Inside → List ℕ → Type 0
AreMembers P i ranks = AllByRecursion (λ r. P (member_at i.incarnation r)) ranks

-- and those whom it tells by what it is there
pub record AreTold (P : Endpoint → Type 0) (i : Inside) (ranks : List ℕ) : Type 0 where
  pub all : AreMembers P i ranks
  pub above : AreMembers P i (option_to_list i.role.above)
  pub onward : AreMembers P i i.role.onward

-- these messages go to such
abbrev pub GoTo : (Endpoint → Type 0) → List CollectiveMessage → Type 0
GoTo P ms = AllByRecursion (λ (m : CollectiveMessage). P m.target) ms

others_go : (P : Endpoint → Type 0) (own : Endpoint) (i : Inside) (f : ℕ → MessageContent) (ranks : List ℕ) →
    AreMembers P i ranks → GoTo P (to_others own i f ranks)
others_go P own i f [] all = tt
others_go P own i f (r ∷ rs) all = go (is_same (member_at i.incarnation r) own) (others_go P own i f rs all.1)
  where
    go : (b : Bool) → GoTo P (to_others own i f rs) →
        GoTo P (if b then to_others own i f rs else message_to i (f r) r ∷ to_others own i f rs)
    go true rest = rest
    go false rest = (all.0, rest)

-- a step's messages are these
messages_go : (P : Endpoint → Type 0) (step made : Prepared) → step ≡ made → GoTo P made.messages → GoTo P step.messages
messages_go P step made is all = subst (λ (p : Prepared). GoTo P p.messages) (sym is) all

-- who leaves alone tells nobody
leaving_goes : (P : Endpoint → Type 0) (t : Bool) (o : Option Contents) →
    GoTo P (if t then leaving_with o else leaving None).messages
leaving_goes P true None = tt
leaving_goes P true (Some b) = tt
leaving_goes P false o = tt

-- member 0 tells all what was made of the blocks
telling_goes : (P : Endpoint → Type 0) (own : Endpoint) (i : Inside) (ranks : List ℕ) (o : Option Contents) →
    AreMembers P i ranks → GoTo P (telling_all own i ranks o).messages
telling_goes P own i ranks None all = tt
telling_goes P own i ranks (Some b) all = others_go P own i (λ r. given.Elements FromRoot b) ranks all

-- a root tells each its block
blocks_go : (P : Endpoint → Type 0) (own : Endpoint) (i : Inside) (b : Contents) (count place : ℕ) (ranks : List ℕ) →
    AreMembers P i ranks → GoTo P (blocks_to own i b count place ranks)
blocks_go P own i b count place [] all = tt
blocks_go P own i b count place (r ∷ rs) all =
    go (is_same (member_at i.incarnation r) own) (blocks_go P own i b count (suc place) rs all.1)
  where
    go : (t : Bool) → GoTo P (blocks_to own i b count (suc place) rs) →
        GoTo P (if t then blocks_to own i b count (suc place) rs else
        message_to i (given.Elements FromRoot (block_of b count place)) r ∷ blocks_to own i b count (suc place) rs)
    go true rest = rest
    go false rest = (all.0, rest)

-- where it has one for each
abbrev scattered : (own : Endpoint) → Inside → (ranks : List ℕ) → (root : ℕ) → Elements → Contents → Prepared
scattered own i ranks root e b =
    record {
      outcome = Leaves (Some (block_of b e.count root));
      drawn = 0;
      messages =
          blocks_to own i b e.count 0 ranks;
    }

scatter_goes : (P : Endpoint → Type 0) (own : Endpoint) (i : Inside) (ranks : List ℕ) (root : ℕ) (e : Elements)
    (b : Contents) → AreMembers P i ranks →
    GoTo P (scatter_step own i ranks root e b).messages
scatter_goes P own i ranks root e b all =
    go (is_same_type b.basic e.basic && (nat_lt root (length ranks) && (length b.values == length ranks * e.count)))
  where
    go : (t : Bool) → GoTo P (if t then scattered own i ranks root e b else no_step).messages
    go true = blocks_go P own i b e.count 0 ranks all
    go false = tt

-- member 0 of a reduction tells the root
leaving_on_goes : (P : Endpoint → Type 0) (own : Endpoint) (i : Inside) (o : Option Contents) →
    AreMembers P i i.role.onward → GoTo P (leaving_on own i o).messages
leaving_on_goes P own i None all = tt
leaving_on_goes P own i (Some b) all = others_go P own i (λ r. given.Elements FromRoot b) i.role.onward all

reduce_goes : (P : Endpoint → Type 0) (own : Endpoint) (i : Inside) (t : Bool) (o : Option Contents) →
    AreMembers P i i.role.onward → GoTo P (if t then leaving_with o else leaving_on own i o).messages
reduce_goes P own i true None all = tt
reduce_goes P own i true (Some b) all = tt
reduce_goes P own i false o all = leaving_on_goes P own i o all

decided_go : (P : Endpoint → Type 0) (own : Endpoint) (i : Inside) (h : ContextsState) (ranks : List ℕ)
    (notes : List Note) (y : Entry) (step : Prepared) → AreTold P i ranks →
    IsDecided own i h ranks notes y step → GoTo P step.messages
decided_go P own i h ranks notes entries.Barrier step told q =
    messages_go P step _ q (others_go P own i _ i.role.onward told.onward)
decided_go P own i h ranks notes (entries.Bcast root b) step told q =
    messages_go P step _ q (others_go P own i _ i.role.onward told.onward)
decided_go P own i h ranks notes (entries.Gather root b) step told q =
    messages_go P step _ q
    (leaving_goes P (is_at own i.incarnation ranks root) (gather_blocks own i notes i.role.feeders b))
decided_go P own i h ranks notes (entries.Scatter r b) step told q =
    messages_go P step _ q (scatter_goes P own i ranks r.root r.elements (handed_in r.elements b) told.all)
decided_go P own i h ranks notes (entries.Reduce o root b) step told q =
    messages_go P step _ q
    (reduce_goes P own i (is_at own i.incarnation ranks root) (reduce_blocks own i notes i.role.feeders o b)
    told.onward)
decided_go P own i h ranks notes (entries.Allreduce o b) step told q =
    messages_go P step _ q
    (telling_goes P own i i.role.onward (reduce_blocks own i notes i.role.feeders o b) told.onward)
decided_go P own i h ranks notes entries.Dup step told q = messages_go P step _ q (others_go P own i _ ranks told.all)
decided_go P own i h ranks notes (entries.Split choice) step told q =
    messages_go P step _ q.2 (others_go P own i _ ranks told.all)

-- a result is told on to those below
like_goes : (P : Endpoint → Type 0) (own : Endpoint) (i : Inside) (b : Contents) (t : Bool) →
    AreMembers P i i.role.onward →
    GoTo P (if t then to_others own i (λ r. given.Elements FromRoot b) i.role.onward else [])
like_goes P own i b true all = others_go P own i (λ r. given.Elements FromRoot b) i.role.onward all
like_goes P own i b false all = tt

told_on_goes : (P : Endpoint → Type 0) (own : Endpoint) (i : Inside) (y : Entry) (w : NoteContent) →
    AreMembers P i i.role.onward → GoTo P (passed_on own i y w)
told_on_goes P own i entries.Barrier said.RecordsDiffer all = tt
told_on_goes P own i entries.Barrier (said.Nothing way) all =
    others_go P own i (λ r. given.Nothing FromRoot) i.role.onward all
told_on_goes P own i entries.Barrier (said.Elements way b) all = tt
told_on_goes P own i entries.Barrier (said.Context c) all = tt
told_on_goes P own i entries.Barrier (said.Choice a) all = tt
told_on_goes P own i entries.Barrier said.NullCommunicator all = tt
told_on_goes P own i entries.Barrier (said.NewGroup c g) all = tt
told_on_goes P own i (entries.Bcast root mine) said.RecordsDiffer all = tt
told_on_goes P own i (entries.Bcast root mine) (said.Nothing way) all = tt
told_on_goes P own i (entries.Bcast root mine) (said.Elements way b) all = like_goes P own i b (is_like mine b) all
told_on_goes P own i (entries.Bcast root mine) (said.Context c) all = tt
told_on_goes P own i (entries.Bcast root mine) (said.Choice a) all = tt
told_on_goes P own i (entries.Bcast root mine) said.NullCommunicator all = tt
told_on_goes P own i (entries.Bcast root mine) (said.NewGroup c g) all = tt
told_on_goes P own i (entries.Gather root b) w all = tt
told_on_goes P own i (entries.Scatter r b) w all = tt
told_on_goes P own i (entries.Reduce o root b) w all = tt
told_on_goes P own i (entries.Allreduce o b) w all = tt
told_on_goes P own i entries.Dup w all = tt
told_on_goes P own i (entries.Split a) w all = tt

heard_go : (P : Endpoint → Type 0) (own : Endpoint) (i : Inside) (ranks : List ℕ) (o : Option Note) (step : Prepared) →
    AreMembers P i i.role.onward → IsHeard own i ranks o step → GoTo P step.messages
heard_go P own i ranks None step all q = messages_go P step _ q tt
heard_go P own i ranks (Some n) step all q = messages_go P step _ q.2 (told_on_goes P own i i.entry n.said all)

-- whom it tells of a difference
either_members : (P : Endpoint → Type 0) (i : Inside) (xs ys : List ℕ) (t : Bool) → AreMembers P i xs →
    AreMembers P i ys → AreMembers P i (if t then xs else ys)
either_members P i xs ys true a b = a
either_members P i xs ys false a b = b

warned_members : (P : Endpoint → Type 0) (own : Endpoint) (i : Inside) (ranks : List ℕ) (t : Bool) (y : Entry) →
    AreTold P i ranks → AreMembers P i (warned own i ranks t y)
warned_members P own i ranks t entries.Barrier told = either_members P i ranks [] t told.all tt
warned_members P own i ranks t (entries.Bcast root b) told = told.onward
warned_members P own i ranks t (entries.Gather root b) told = tt
warned_members P own i ranks t (entries.Scatter r b) told = tt
warned_members P own i ranks t (entries.Reduce o root b) told =
    either_members P i (if is_at own i.incarnation ranks 0 then i.role.onward else option_to_list i.role.above) []
    (is_associative o b.basic)
    (either_members P i i.role.onward (option_to_list i.role.above) (is_at own i.incarnation ranks 0) told.onward
    told.above) tt
warned_members P own i ranks t (entries.Allreduce o b) told = either_members P i ranks [] t told.all tt
warned_members P own i ranks t entries.Dup told = either_members P i ranks [] t told.all tt
warned_members P own i ranks t (entries.Split a) told = either_members P i ranks [] t told.all tt

-- its word goes to the one right above it
word_to_goes : (P : Endpoint → Type 0) (own : Endpoint) (i : Inside) (o : Option ℕ) (g : Option MessageContent) →
    AreMembers P i (option_to_list o) → GoTo P (word_to own i o g)
word_to_goes P own i None g all = tt
word_to_goes P own i (Some r) None all = tt
word_to_goes P own i (Some r) (Some g) all = others_go P own i (λ r. g) (r ∷ []) all

word_goes : (P : Endpoint → Type 0) (own : Endpoint) (i : Inside) (notes : List Note) →
    AreMembers P i (option_to_list i.role.above) → GoTo P (word_messages own i notes)
word_goes P own i notes all = go i.told
  where
    go : (t : Bool) → GoTo P (if t then [] else word_to own i i.role.above (word_given own i notes i.entry))
    go true = tt
    go false = word_to_goes P own i i.role.above (word_given own i notes i.entry) all

carried_go : (P : Endpoint → Type 0) (own : Endpoint) (i : Inside) (h : ContextsState) (ranks : List ℕ)
    (notes : List Note) (v : Verdict) (step : Prepared) → AreTold P i ranks →
    IsCarriedOut own i h ranks notes v step → GoTo P step.messages
carried_go P own i h ranks notes verdicts.Stays step told q = messages_go P step _ q tt
carried_go P own i h ranks notes verdicts.Breaks step told q =
    messages_go P step _ q
    (others_go P own i (λ r. given.RecordsDiffer) _
    (warned_members P own i ranks (found_in i.context i.number i.entry notes) i.entry told))
carried_go P own i h ranks notes verdicts.Waits step told q =
    messages_go P step _ q (word_goes P own i notes told.above)
carried_go P own i h ranks notes verdicts.Decides step told q =
    messages_go P step _ q.2
    (All_append (λ (m : CollectiveMessage). P m.target) (word_messages own i notes) q.0.messages
    (word_goes P own i notes told.above) (decided_go P own i h ranks notes i.entry q.0 told q.1))
carried_go P own i h ranks notes (verdicts.Hears place) step told q =
    messages_go P step _ q.2
    (All_append (λ (m : CollectiveMessage). P m.target) (word_messages own i notes) q.0.messages
    (word_goes P own i notes told.above)
    (heard_go P own i ranks (slice_get notes place) q.0 told.onward q.1))

-- ---- whom a rank tells by what it is: members too

one_of : (Q : ℕ → Type 0) (ranks : List ℕ) (place : ℕ) → AllByRecursion Q ranks →
    AllByRecursion Q (option_to_list (slice_get ranks place))
one_of Q [] place all = tt
one_of Q (r ∷ rs) zero all = (all.0, tt)
one_of Q (r ∷ rs) (suc place) all = one_of Q rs place all.1

at_places : (Q : ℕ → Type 0) (ranks places : List ℕ) → AllByRecursion Q ranks →
    AllByRecursion Q (roles.ranks_at ranks places)
at_places Q ranks [] all = tt
at_places Q ranks (p ∷ ps) all =
    All_append Q (option_to_list (slice_get ranks p)) (roles.ranks_at ranks ps) (one_of Q ranks p all)
    (at_places Q ranks ps all)

some_of : (Q : ℕ → Type 0) (xs : List ℕ) (t : Bool) → AllByRecursion Q xs → AllByRecursion Q (if t then xs else [])
some_of Q xs true all = all
some_of Q xs false all = tt

above_of : (Q : ℕ → Type 0) (ranks : List ℕ) (o : Option ℕ) → AllByRecursion Q ranks →
    AllByRecursion Q (option_to_list (roles.above_place ranks o))
above_of Q ranks None all = tt
above_of Q ranks (Some p) all = go (p == 0)
  where
    go : (t : Bool) → AllByRecursion Q (option_to_list (if t then None else slice_get ranks (parent p)))
    go true = tt
    go false = one_of Q ranks (parent p) all

below_of : (Q : ℕ → Type 0) (ranks : List ℕ) (o : Option ℕ) → AllByRecursion Q ranks →
    AllByRecursion Q (roles.below_place ranks o)
below_of Q ranks None all = tt
below_of Q ranks (Some p) all = at_places Q ranks (children (length ranks) p) all

onward_of : (Q : ℕ → Type 0) (top : ℕ) (ranks : List ℕ) (o : Option ℕ) → AllByRecursion Q ranks →
    AllByRecursion Q (roles.onward_place top ranks o)
onward_of Q top ranks None all = tt
onward_of Q top ranks (Some p) all =
    some_of Q
    (roles.ranks_at ranks
    (map (rotate_back top (length ranks)) (children (length ranks) (rotate top (length ranks) p))))
    (nat_lt top (length ranks))
    (at_places Q ranks (map (rotate_back top (length ranks)) (children (length ranks) (rotate top (length ranks) p)))
    all)

abbrev BothAre : (Q : ℕ → Type 0) → roles.RoleState → Type 0
BothAre Q r = AllByRecursion Q (option_to_list r.above) × AllByRecursion Q r.onward

role_tells : (Q : ℕ → Type 0) (own : Endpoint) (inc : ℕ) (ranks : List ℕ) (y : Entry) → AllByRecursion Q ranks →
    BothAre Q (roles.role_of own inc ranks (record_of y))
role_tells Q own inc ranks entries.Barrier all =
    (above_of Q ranks (roles.own_place own inc ranks) all, below_of Q ranks (roles.own_place own inc ranks) all)
role_tells Q own inc ranks (entries.Bcast root b) all = (tt, onward_of Q root ranks (roles.own_place own inc ranks) all)
role_tells Q own inc ranks (entries.Gather root b) all = (one_of Q ranks root all, tt)
role_tells Q own inc ranks (entries.Scatter r b) all = (tt, some_of Q ranks (is_at own inc ranks r.root) all)
role_tells Q own inc ranks (entries.Reduce o root b) all = by (is_associative o b.basic)
  where
    by : (t : Bool) → BothAre Q (roles.reduce_role t (roles.own_place own inc ranks) own inc ranks root)
    by true = (
      above_of Q ranks (roles.own_place own inc ranks) all,
      some_of Q (option_to_list (slice_get ranks root)) (is_at own inc ranks 0) (one_of Q ranks root all),
    )
    by false = (one_of Q ranks root all, tt)
role_tells Q own inc ranks (entries.Allreduce o b) all =
    (one_of Q ranks 0 all, some_of Q ranks (is_at own inc ranks 0) all)
role_tells Q own inc ranks entries.Dup all = (one_of Q ranks 0 all, some_of Q ranks (is_at own inc ranks 0) all)
role_tells Q own inc ranks (entries.Split a) all = (one_of Q ranks 0 all, some_of Q ranks (is_at own inc ranks 0) all)

are_told : (P : Endpoint → Type 0) (e : Endpoint) (i : Inside) (ranks : List ℕ) → AreMembers P i ranks →
    i.role ≡ roles.role_of e i.incarnation ranks (record_of i.entry) → AreTold P i ranks
are_told P e i ranks all is =
    let both : BothAre (λ r. P (member_at i.incarnation r)) i.role =
    subst (BothAre (λ r. P (member_at i.incarnation r))) (sym is)
    (role_tells (λ r. P (member_at i.incarnation r)) e i.incarnation ranks i.entry all) in
    record { all = all; above = both.0; onward = both.1 }

-- What a rank tells of itself that is in a collective goes to members of the communicator at its place
pub prepared_go : (P : Endpoint → Type 0) (e own : Endpoint) (i : Inside) (h : ContextsState) (notes : List Note)
    (step : Prepared) → AreMembers P i (ranks_at h i.place) →
    i.role ≡ roles.role_of e i.incarnation (ranks_at h i.place) (record_of i.entry) →
    IsPrepared own (Some i) h notes step → GoTo P step.messages
prepared_go P e own i h notes step all is q = go (slice_get h.held i.place) all is q
  where
    go : (o : Option held.Communicator) → AreMembers P i (ranks_of o) →
        i.role ≡ roles.role_of e i.incarnation (ranks_of o) (record_of i.entry) → IsPreparedIn own i h notes o step →
        GoTo P step.messages
    go None all is q = messages_go P step _ q tt
    go (Some c) all is q =
        carried_go P own i h c.group notes (verdict own i notes) step (are_told P e i c.group all is) q
