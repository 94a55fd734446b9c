-- What a rank does that decides, in the collectives that move elements and in a barrier, is what its member does.
use Rattle.std.proofs.Common.{◌≡◌, ℕ, zero, suc, ◌+◌, ◌*◌, Bool, true, false, not, ◌&&◌, List, [], ◌∷◌, ◌++◌, length}
use Rattle.std.proofs.Common.{map, Option, Some, None, if◌then◌else◌, slice_get, option_map, refl, sym, ap, ◌∙◌, subst}
use Rattle.std.proofs.Common.{arith}
use Rattle.std.proofs.lemmas.Bool.{eq-eqb, false≢true, lt-ltb}
use Rattle.std.proofs.lemmas.List.{append-nil}
use Rattle.std.proofs.lemmas.Option.{slice_get_within}
use Rattle.collective_progress.specs.Blocks.{blocks_known}
use Rattle.collective_messages.specs.Entries as entering
use Rattle.collective_messages.specs.Members.{is_at}
use Rattle.collective_messages.specs.Notes.{member_at}
use Rattle.collective_messages.specs.Roles.{RoleState, all_or_own, own_place, reduce_role}
use Rattle.collectives.specs.State.{State, after_step}
use Rattle.collective_steps.specs.Steps as steps
use Rattle.collective_steps.specs.Steps.{Prepared, contexts_after, ending_of, message_to, no_step}
use Rattle.collective_messages.specs.declared.entry.Entry.{Entry}
use Rattle.collective_messages.specs.declared.entry.Entry.TheVariants as entries
use Rattle.collective_messages.specs.declared.entry.Inside.{Inside}
use Rattle.collective_messages.specs.declared.message.MessageContent.TheVariants as given
use Rattle.collective_messages.specs.declared.note.Note.{Note}
use Rattle.collective_steps.specs.declared.step.StepOutcome.TheVariants as outcomes
use Rattle.context_agreement.specs.Communicators.{ContextsState}
use Rattle.datatypes.specs.Contents.{Contents}
use Rattle.groups.specs.Groups.{HasNoRepeats}
use Rattle.payload.specs.Spellings.{elements_of}
use Rattle.vocabulary.specs.declared.operation.Operation.{Operation}
use Rattle.payload.specs.declared.payload.Direction.TheVariants.{FromRoot}
use Rattle.payload.specs.declared.record.Elements.{Elements}
use Rattle.payload.specs.declared.record.Rooted.{Rooted}
use Rattle.perfect_groups.specs.Collectives.{Part, bare_part, barrier, reduce, scattered_values}
use Rattle.perfect_groups.specs.Operations.{combined_by}
use Rattle.perfect_groups.specs.Results.{all_parts, at_rank, gathered, has_rank, place_of, reduced}
use Rattle.perfect_groups.specs.Results as results
use Rattle.proof_collective_steps.proofs.KeptNotes.{PartsAre}
use Rattle.proof_collective_steps.proofs.Ends.{inside, leaves_so}
use Rattle.proof_collective_steps.proofs.Middle.{HasSome, at_place, gathered_is, other_rank, place_back, rank_back}
use Rattle.proof_collective_steps.proofs.Middle.{reduced_is}
use Rattle.proof_collective_steps.proofs.Middle.{some_feeders}
use Rattle.proof_collective_steps.proofs.WordLaws.{apart_said, said_to, some_said}
use Rattle.proof_collective_steps.proofs.Words.{own_alone}
use Rattle.proof_collective_steps.specs.Counterparts.{AreBlocks, AreSaid, HandsIn, part_of, record_of}
use Rattle.proof_collective_steps.specs.MemberVerdicts.{here}
use Rattle.proof_collective_steps.specs.MemberViews.{IsShown}
use Rattle.proof_group_network.specs.Notices as network
use Rattle.proof_group_network.specs.Notices.{HasResult, Member, Notice, carried_out, making_new, notice, part_known}
use Rattle.proof_group_network.specs.Notices.{results_to}
use Rattle.proof_group_network.specs.Roles as roles
use Rattle.proof_collective_steps.proofs.RolesJoin.{at_same, first_same}
use Rattle.proof_collective_steps.specs.RoleViews.{IsRole, named}
use Rattle.reductions.specs.Operations.{is_defined}
use Rattle.vocabulary.specs.BasicTypes.{code_of}
use Rattle.vocabulary.specs.Endpoints.{is_same}
use Rattle.vocabulary.specs.Operations.{is_associative}
use Rattle.vocabulary.specs.declared.endpoint.Endpoint.{Endpoint}

-- what a step leaves and tells behind the rank's word is what its member leaves and tells that decides by these parts
abbrev pub Decided : Endpoint → State → ContextsState → Member → Inside → (y : Entry) → (ranks : List ℕ) → List Part →
    Prepared → Type 0
Decided e s h m i y ranks ps step =
    IsShown e (after_step s step.outcome) (contexts_after h step.drawn step.outcome)
    (carried_out e m (here i ranks) i.number (part_of y) (network.Decides ps)).member (ending_of h step.outcome)
    × AreSaid e step.messages
    (results_to e (here i ranks) i.number (part_of y) ps (results.is_making (part_of y).record_is.kind)
    (making_new e m.serial (here i ranks) (part_of y) ps (results.is_making (part_of y).record_is.kind)))

-- what is known of a rank that decides
pub record Ready (e : Endpoint) (s : State) (h : ContextsState) (m : Member) (place c inc k : ℕ) (y : Entry)
    (role : RoleState) (told : Bool) (ranks : List ℕ) (ps : List Part) : Type 0 where
  pub shown : IsShown e s h m None
  pub at_present : s.present ≡ Some (inside place c inc k y role told)
  pub role_is : IsRole (roles.way_of (part_of y).record_is) (part_of y).record_is.root e inc ranks role
  pub deciding : role.decides ≡ true
  pub parts : PartsAre e (inside place c inc k y role told) s.kept role.feeders ps
  pub known : all_parts (part_known e (part_of y) c k m.kept)
      (roles.feeders (roles.way_of (part_of y).record_is) (part_of y).record_is.root e (named inc ranks)) ≡ Some ps

-- ---- a barrier

pub decides_barrier : (e : Endpoint) (s : State) (h : ContextsState) (m : Member) (place c inc k : ℕ) (role : RoleState)
    (told : Bool) (ranks : List ℕ) (ps : List Part) →
    Ready e s h m place c inc k entries.Barrier role told ranks ps →
    (step : Prepared) → step ≡ steps.barrier_step e (inside place c inc k entries.Barrier role told) →
    Decided e s h m (inside place c inc k entries.Barrier role told) entries.Barrier ranks ps step
decides_barrier e s h m place c inc k role told ranks ps b step q =
    subst (λ (st : Prepared). Decided e s h m I entries.Barrier ranks ps st) (sym q) (
      leaves_so e s h m b.shown I b.at_present None None refl,
      subst (λ (zs : List Endpoint). AreSaid e (steps.to_others e I (λ r. given.Nothing FromRoot) role.onward)
          (network.to_others e (λ z. notice c k (HasResult (bare_part barrier).record_is None)) zs))
          (sym b.role_is.onward)
          (some_said e I (given.Nothing FromRoot) (HasResult (bare_part barrier).record_is None) refl role.onward),
    )
  where
    I : Inside
    I = inside place c inc k entries.Barrier role told

-- ---- a broadcast: the root tells its elements, and gets none (5.4)

pub decides_bcast : (e : Endpoint) (s : State) (h : ContextsState) (m : Member) (place c inc k root : ℕ) (x : Contents)
    (role : RoleState) (told : Bool) (ranks : List ℕ) (ps : List Part) →
    Ready e s h m place c inc k (entries.Bcast root x) role told ranks ps →
    (step : Prepared) → step ≡ steps.bcast_step e (inside place c inc k (entries.Bcast root x) role told) x →
    Decided e s h m (inside place c inc k (entries.Bcast root x) role told) (entries.Bcast root x) ranks ps step
decides_bcast e s h m place c inc k root x role told ranks ps b step q =
    subst (λ (st : Prepared). Decided e s h m I (entries.Bcast root x) ranks ps st) (sym q)
    (subst (λ (zs : List Part). Decided e s h m I (entries.Bcast root x) ranks zs (steps.bcast_step e I x))
    (sym (own_alone e P c k m.kept (e ∷ []) ps refl b.known)) (
      leaves_so e s h m b.shown I b.at_present None (handed e)
          (ap (λ (v : Bool). if v then None else Some whole) there),
      subst (λ (zs : List Endpoint). AreSaid e (steps.to_others e I (λ r. given.Elements FromRoot x) role.onward)
          (network.to_others e (λ z. notice c k (HasResult P.record_is (handed z))) zs)) (sym b.role_is.onward)
          (apart_said e I (given.Elements FromRoot x) (λ z. HasResult P.record_is (handed z))
          (λ z other. (
            refl,
            ap (λ (v : Option Contents). HasResult P.record_is v)
                (ap (λ (v : Bool). if v then None else Some whole) (other_rank e z (named inc ranks) root there other)
                ∙ ap (λ (vs : List ℕ). Some (record { basic = x.basic; values = vs })) (append-nil x.values)),
          )) role.onward),
    ))
  where
    I : Inside
    I = inside place c inc k (entries.Bcast root x) role told

    P : Part
    P = part_of (entries.Bcast root x)

    there : has_rank e (named inc ranks) root ≡ true
    there = b.role_is.decides ∙ b.deciding

    whole : Contents
    whole = record { basic = x.basic; values = gathered (P ∷ []) }

    handed : Endpoint → Option Contents
    handed z = if has_rank z (named inc ranks) root then None else Some whole

-- ---- a gather: the root leaves with the blocks of all, the others with nothing (5.5)

pub decides_gather : (e : Endpoint) (s : State) (h : ContextsState) (m : Member) (place c inc k root : ℕ) (x : Contents)
    (role : RoleState) (told : Bool) (ranks : List ℕ) (ps : List Part) →
    Ready e s h m place c inc k (entries.Gather root x) role told ranks ps → (step : Prepared) →
    step ≡ (if is_at e inc ranks root then
    steps.leaving_with
    (steps.gather_blocks e (inside place c inc k (entries.Gather root x) role told) s.kept role.feeders x) else
    steps.leaving None) →
    Decided e s h m (inside place c inc k (entries.Gather root x) role told) (entries.Gather root x) ranks ps step
decides_gather e s h m place c inc k root x role told ranks ps b step q = by (is_at e inc ranks root) refl
  where
    I : Inside
    I = inside place c inc k (entries.Gather root x) role told

    whole : Contents
    whole = record { basic = x.basic; values = gathered ps }

    made : steps.gather_blocks e I s.kept role.feeders x ≡ Some whole
    made = gathered_is e I s.kept role.feeders x ps b.parts.blocks

    by : (t : Bool) → is_at e inc ranks root ≡ t → Decided e s h m I (entries.Gather root x) ranks ps step
    by false u =
        subst (λ (st : Prepared). Decided e s h m I (entries.Gather root x) ranks ps st)
        (sym (q ∙ ap (λ (w : Bool). if w then steps.leaving_with (steps.gather_blocks e I s.kept role.feeders x) else
        steps.leaving None) u)) (
          leaves_so e s h m b.shown I b.at_present None _
              (ap (λ (w : Bool). if w then Some whole else None) (at_same e inc ranks root ∙ u)),
          tt,
        )
    by true u =
        subst (λ (st : Prepared). Decided e s h m I (entries.Gather root x) ranks ps st)
        (sym (q ∙
        (ap (λ (w : Bool). if w then steps.leaving_with (steps.gather_blocks e I s.kept role.feeders x) else
        steps.leaving None) u ∙ ap (λ (o : Option Contents). steps.leaving_with o) made))) (
          leaves_so e s h m b.shown I b.at_present (Some whole) _
              (ap (λ (w : Bool). if w then Some whole else None) (at_same e inc ranks root ∙ u)),
          tt,
        )

-- ---- a reduction: the root leaves with the fold; member 0 tells it, if that is another (5.9.1)

same_self : (z : Endpoint) → is_same z z ≡ true
same_self z = λ t. eq-eqb z.rank z.rank refl t && eq-eqb z.incarnation z.incarnation refl t

-- who is the root tells nobody that is the root
only_self : (e : Endpoint) (f : Endpoint → Notice) (ms : List Endpoint) (root : ℕ) → has_rank e ms root ≡ true →
    network.to_others e f (at_rank ms root) ≡ []
only_self e f [] root at = absurd (false≢true at)
only_self e f (m ∷ ms) zero at = ap (λ (t : Bool). if t then [] else (m, f m) ∷ []) at
only_self e f (m ∷ ms) (suc root) at = only_self e f ms root at

-- who is told is the root
root_told : (e : Endpoint) (f : Bool → Notice) (ms : List Endpoint) (root : ℕ) →
    network.to_others e (λ z. f (has_rank z ms root)) (at_rank ms root) ≡
    network.to_others e (λ z. f true) (at_rank ms root)
root_told e f [] root = refl
root_told e f (m ∷ ms) zero = ap (λ (v : Bool). if is_same m e then [] else (m, f v) ∷ []) (same_self m)
root_told e f (m ∷ ms) (suc root) = root_told e f ms root

pub decides_reduce : (e : Endpoint) (s : State) (h : ContextsState) (m : Member) (place c inc k root : ℕ)
    (o : Operation) (x : Contents) (role : RoleState) (told : Bool) (ranks : List ℕ) (ps : List Part) →
    Ready e s h m place c inc k (entries.Reduce o root x) role told ranks ps → is_defined o x.basic ≡ true →
    role.feeders ≡ (reduce_role (is_associative o x.basic) (own_place e inc ranks) e inc ranks root).feeders →
    (step : Prepared) →
    step ≡ (if is_at e inc ranks root then
    steps.leaving_with
    (steps.reduce_blocks e (inside place c inc k (entries.Reduce o root x) role told) s.kept role.feeders o x)
    else steps.leaving_on e (inside place c inc k (entries.Reduce o root x) role told)
    (steps.reduce_blocks e (inside place c inc k (entries.Reduce o root x) role told) s.kept role.feeders o x)) →
    Decided e s h m (inside place c inc k (entries.Reduce o root x) role told) (entries.Reduce o root x) ranks ps step
decides_reduce e s h m place c inc k root o x role told ranks ps b defined fed step q = by (is_at e inc ranks root) refl
  where
    I : Inside
    I = inside place c inc k (entries.Reduce o root x) role told

    P : Part
    P = part_of (entries.Reduce o root x)

    MS : List Endpoint
    MS = named inc ranks

    sum : Contents
    sum = record { basic = x.basic; values = reduced (combined_by (Some o) (Some x.basic)) ps }

    some : HasSome role.feeders
    some = some_feeders (is_associative o x.basic) (own_place e inc ranks) e inc ranks root role.feeders fed

    made : steps.reduce_blocks e I s.kept role.feeders o x ≡ Some sum
    made =
        ap (λ (fs : List ℕ). steps.reduce_blocks e I s.kept fs o x) some.is
        ∙ reduced_is e I s.kept some.first some.others o x ps
        (subst (λ (fs : List ℕ). PartsAre e I s.kept fs ps) some.is b.parts).blocks defined

    told_so : Bool → Notice
    told_so v = notice c k (HasResult P.record_is (if v then Some sum else None))

    -- whom it tells the fold, by whether the operation is associative
    onward : Bool → List Endpoint
    onward a = roles.told_on (roles.way_by reduce (not a)) root e MS

    nobody_by : has_rank e MS root ≡ true →
        (first : Bool) →
        network.to_others e (λ z. told_so (has_rank z MS root)) (if first then at_rank MS root else []) ≡ []
    nobody_by there true = only_self e (λ z. told_so (has_rank z MS root)) MS root there
    nobody_by there false = refl

    nobody : has_rank e MS root ≡ true → (a : Bool) →
        network.to_others e (λ z. told_so (has_rank z MS root)) (onward a) ≡ []
    nobody there true = nobody_by there (roles.is_first e MS)
    nobody there false = refl

    root_alone_by : (first : Bool) →
        network.to_others e (λ z. told_so (has_rank z MS root)) (if first then at_rank MS root else []) ≡
        network.to_others e (λ z. told_so true) (if first then at_rank MS root else [])
    root_alone_by true = root_told e told_so MS root
    root_alone_by false = refl

    root_alone : (a : Bool) → network.to_others e (λ z. told_so (has_rank z MS root)) (onward a) ≡
        network.to_others e (λ z. told_so true) (onward a)
    root_alone true = root_alone_by (roles.is_first e MS)
    root_alone false = refl

    by : (t : Bool) → is_at e inc ranks root ≡ t → Decided e s h m I (entries.Reduce o root x) ranks ps step
    by true u =
        subst (λ (st : Prepared). Decided e s h m I (entries.Reduce o root x) ranks ps st)
        (sym (q ∙
        (ap (λ (w : Bool). if w then steps.leaving_with (steps.reduce_blocks e I s.kept role.feeders o x) else
        steps.leaving_on e I (steps.reduce_blocks e I s.kept role.feeders o x)) u
        ∙ ap (λ (v : Option Contents). steps.leaving_with v) made))) (
          leaves_so e s h m b.shown I b.at_present (Some sum) _
              (ap (λ (w : Bool). if w then Some sum else None) (at_same e inc ranks root ∙ u)),
          subst (λ (out : List (Endpoint × Notice)). AreSaid e [] out)
              (sym (nobody (at_same e inc ranks root ∙ u) (is_associative o x.basic))) tt,
        )
    by false u =
        subst (λ (st : Prepared). Decided e s h m I (entries.Reduce o root x) ranks ps st)
        (sym (q ∙
        (ap (λ (w : Bool). if w then steps.leaving_with (steps.reduce_blocks e I s.kept role.feeders o x) else
        steps.leaving_on e I (steps.reduce_blocks e I s.kept role.feeders o x)) u
        ∙ ap (λ (v : Option Contents). steps.leaving_on e I v) made))) (
          leaves_so e s h m b.shown I b.at_present None _
              (ap (λ (w : Bool). if w then Some sum else None) (at_same e inc ranks root ∙ u)),
          subst (λ (out : List (Endpoint × Notice)). AreSaid e
              (steps.to_others e I (λ r. given.Elements FromRoot sum) role.onward) out)
              (sym (root_alone (is_associative o x.basic)))
              (subst (λ (zs : List Endpoint). AreSaid e
              (steps.to_others e I (λ r. given.Elements FromRoot sum) role.onward)
              (network.to_others e (λ z. told_so true) zs)) (sym b.role_is.onward)
              (some_said e I (given.Elements FromRoot sum) (HasResult P.record_is (Some sum))
              (refl, refl) role.onward)),
        )

-- ---- an allreduce: all get the fold (5.9.6)

-- member 0 waits for all, of whom there is one at least
all_reduced : (e : Endpoint) (i : Inside) (ns : List Note) (inc : ℕ) (ranks : List ℕ) (fs : List ℕ) (o : Operation)
    (x : Contents) (ps : List Part) → is_at e inc ranks 0 ≡ true → fs ≡ all_or_own (is_at e inc ranks 0) e ranks →
    blocks_known e x i.incarnation i.context i.number ns fs ≡
    map (λ (p : Part). Some (record { basic = x.basic; values = p.values })) ps → is_defined o x.basic ≡
    true →
    steps.reduce_blocks e i ns fs o x ≡
    Some (record { basic = x.basic; values = reduced (combined_by (Some o) (Some x.basic)) ps })
all_reduced e i ns inc [] fs o x ps u fed blocks defined = absurd (false≢true u)
all_reduced e i ns inc (r ∷ rs) fs o x ps u fed blocks defined =
    ap (λ (gs : List ℕ). steps.reduce_blocks e i ns gs o x) same
    ∙ reduced_is e i ns r rs o x ps
    (subst (λ (gs : List ℕ). blocks_known e x i.incarnation i.context i.number ns gs ≡
    map (λ (p : Part). Some (record { basic = x.basic; values = p.values })) ps) same blocks) defined
  where
    same : fs ≡ r ∷ rs
    same = fed ∙ ap (λ (t : Bool). if t then r ∷ rs else e.rank ∷ []) u

pub decides_allreduce : (e : Endpoint) (s : State) (h : ContextsState) (m : Member) (place c inc k : ℕ) (o : Operation)
    (x : Contents) (role : RoleState) (told : Bool) (ranks : List ℕ) (ps : List Part) →
    Ready e s h m place c inc k (entries.Allreduce o x) role told ranks ps → is_defined o x.basic ≡ true →
    role.feeders ≡ all_or_own (is_at e inc ranks 0) e ranks → (step : Prepared) →
    step ≡ steps.telling_all e (inside place c inc k (entries.Allreduce o x) role told) role.onward
    (steps.reduce_blocks e (inside place c inc k (entries.Allreduce o x) role told) s.kept role.feeders o x) →
    Decided e s h m (inside place c inc k (entries.Allreduce o x) role told) (entries.Allreduce o x) ranks ps step
decides_allreduce e s h m place c inc k o x role told ranks ps b defined fed step q =
    subst (λ (st : Prepared). Decided e s h m I (entries.Allreduce o x) ranks ps st)
    (sym (q ∙ ap (λ (v : Option Contents). steps.telling_all e I role.onward v)
    (all_reduced e I s.kept inc ranks role.feeders o x ps (sym (first_same e inc ranks) ∙
    (b.role_is.decides ∙ b.deciding)) fed b.parts.blocks defined))) (
      leaves_so e s h m b.shown I b.at_present (Some sum) (Some sum) refl,
      subst (λ (zs : List Endpoint). AreSaid e (steps.to_others e I (λ r. given.Elements FromRoot sum) role.onward)
          (network.to_others e (λ z. notice c k (HasResult P.record_is (Some sum))) zs)) (sym b.role_is.onward)
          (some_said e I (given.Elements FromRoot sum) (HasResult P.record_is (Some sum)) (refl, refl) role.onward),
    )
  where
    I : Inside
    I = inside place c inc k (entries.Allreduce o x) role told

    P : Part
    P = part_of (entries.Allreduce o x)

    sum : Contents
    sum = record { basic = x.basic; values = reduced (combined_by (Some o) (Some x.basic)) ps }

-- ---- a scatter: the root keeps its own block, and tells each other member its own (5.6)

-- to each other member its block
blocks_said : (e : Endpoint) (i : Inside) (all : Contents) (count : ℕ) →
    option_map (λ t. t.basic) (elements_of (entering.record_of i.entry)) ≡ Some all.basic →
    (place : Endpoint → ℕ) (rs : List ℕ) (n : ℕ) →
    ((j r : ℕ) → slice_get rs j ≡ Some r → place (member_at i.incarnation r) ≡ n + j) →
    AreSaid e (steps.blocks_to e i all count n rs)
    (network.to_others e
    (λ z. notice i.context i.number
    (HasResult (record_of (entering.record_of i.entry)) (Some (steps.block_of all count (place z)))))
    (map (member_at i.incarnation) rs))
blocks_said e i all count basic place [] n at = tt
blocks_said e i all count basic place (r ∷ rs) n at =
    go (is_same (member_at i.incarnation r) e)
    (blocks_said e i all count basic place rs (suc n)
    (λ j x q. let z : n + suc j ≡ suc n + j = omega arith in at (suc j) x q ∙ z))
  where
    told : Endpoint → Notice
    told z = notice i.context i.number
        (HasResult (record_of (entering.record_of i.entry)) (Some (steps.block_of all count (place z))))

    first : n ≡ place (member_at i.incarnation r)
    first = let z : n + 0 ≡ n = omega arith in sym (at 0 r refl ∙ z)

    go : (t : Bool) →
        AreSaid e (steps.blocks_to e i all count (suc n) rs)
        (network.to_others e told (map (member_at i.incarnation) rs)) →
        AreSaid e (if t then steps.blocks_to e i all count (suc n) rs else
        message_to i (given.Elements FromRoot (steps.block_of all count n)) r ∷
        steps.blocks_to e i all count (suc n) rs)
        (if t then network.to_others e told (map (member_at i.incarnation) rs)
        else (member_at i.incarnation r, told (member_at i.incarnation r)) ∷
        network.to_others e told (map (member_at i.incarnation) rs))
    go true rest = rest
    go false rest = (
      said_to e i (given.Elements FromRoot (steps.block_of all count n)) r _ (
        basic,
        ap (λ p. HasResult (record_of (entering.record_of i.entry)) (Some (steps.block_of all count p)))
            (sym first),
      ),
      rest,
    )

-- what is handed in for a scatter, alone
handed_alone : (e : Elements) (o : Option Contents) → (scattered_values o ++ []) ≡ (steps.handed_in e o).values
handed_alone e None = refl
handed_alone e (Some all) = append-nil all.values

pub decides_scatter : (e : Endpoint) (s : State) (h : ContextsState) (m : Member) (place c inc k : ℕ) (r : Rooted)
    (x : Option Contents) (role : RoleState) (told : Bool) → e.incarnation ≡ inc →
    (ranks : List ℕ) → HasNoRepeats ranks → HandsIn e ranks (entries.Scatter r x) →
    (ps : List Part) → Ready e s h m place c inc k (entries.Scatter r x) role told ranks ps → (step : Prepared) →
    step ≡ steps.scatter_step e (inside place c inc k (entries.Scatter r x) role told) ranks r.root r.elements
    (steps.handed_in r.elements x) →
    Decided e s h m (inside place c inc k (entries.Scatter r x) role told) (entries.Scatter r x) ranks ps step
decides_scatter e s h m place c inc k r x role told own ranks once hands ps b step q =
    subst (λ (st : Prepared). Decided e s h m I (entries.Scatter r x) ranks ps st) (sym (q ∙ whole))
    (subst (λ (zs : List Part). Decided e s h m I (entries.Scatter r x) ranks zs scattered)
    (sym (own_alone e P c k m.kept (e ∷ []) ps refl b.known)) (
      leaves_so e s h m b.shown I b.at_present (Some (steps.block_of all count r.root))
          (Some (steps.block_of entered count (place_of e MS))) own_block,
      subst (λ (zs : List Endpoint). AreSaid e (steps.blocks_to e I all count 0 ranks)
          (network.to_others e
          (λ z. notice c k (HasResult P.record_is (Some (steps.block_of entered count (place_of z MS))))) zs))
          (sym (ap (λ (t : Bool). if t then MS else []) (b.role_is.decides ∙ b.deciding)))
          (subst (λ (y : Contents). AreSaid e (steps.blocks_to e I all count 0 ranks)
          (network.to_others e
          (λ z. notice c k (HasResult P.record_is (Some (steps.block_of y count (place_of z MS))))) MS))
          (sym entered_is)
          (blocks_said e I all count (ap (λ y. Some y) (sym blocks.0)) (λ z. place_of z MS) ranks 0
          (λ j y there. let z : j ≡ 0 + j = omega arith in place_back inc ranks once j y there ∙ z))),
    ))
  where
    I : Inside
    I = inside place c inc k (entries.Scatter r x) role told

    P : Part
    P = part_of (entries.Scatter r x)

    MS : List Endpoint
    MS = named inc ranks

    all : Contents
    all = steps.handed_in r.elements x

    count : ℕ
    count = r.elements.count

    stands : slice_get ranks r.root ≡ Some e.rank
    stands = at_place e inc ranks r.root (sym (at_same e inc ranks r.root) ∙ (b.role_is.decides ∙ b.deciding))

    blocks : AreBlocks r.elements (length ranks) all
    blocks = hands (rank_back ranks once r.root e.rank stands)

    scattered : Prepared
    scattered = record {
      outcome = outcomes.Leaves (Some (steps.block_of all count r.root));
      drawn = 0;
      messages =
          steps.blocks_to e I all count 0 ranks;
    }

    whole : steps.scatter_step e I ranks r.root r.elements all ≡ scattered
    whole =
        λ t. if (eq-eqb (code_of all.basic) (code_of r.elements.basic) (ap code_of blocks.0) t
        && (lt-ltb r.root (length ranks) (slice_get_within ranks r.root e.rank stands) t &&
        eq-eqb (length all.values) (length ranks * count) blocks.1 t)) then scattered else no_step

    own_place_is : place_of e MS ≡ r.root
    own_place_is = ap (λ (z : Endpoint). place_of z MS) (λ t. record { rank = e.rank; incarnation = own t }) ∙
        place_back inc ranks once r.root e.rank stands

    entered : Contents
    entered = record { basic = r.elements.basic; values = scattered_values x ++ [] }

    entered_is : entered ≡ all
    entered_is = λ t. record { basic = sym blocks.0 t; values = handed_alone r.elements x t }

    own_block : Some (steps.block_of entered count (place_of e MS)) ≡ Some (steps.block_of all count r.root)
    own_block = λ t. Some (steps.block_of (entered_is t) count (own_place_is t))
