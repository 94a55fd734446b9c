-- The word of a rank: that it and those below it have entered.
use Rattle.std.proofs.Common.{◌≡◌, ℕ, zero, suc, Bool, true, false, not, ◌&&◌, List, [], ◌∷◌, pos, Option, Some, None}
use Rattle.std.proofs.Common.{if◌then◌else◌, refl, sym, ap, ◌∙◌, subst}
use Rattle.std.specs.Prelude.{fold}
use Rattle.std.specs.Option.{option_to_list}
use Rattle.std.proofs.lemmas.Bool.{eq-eqb}
use Rattle.std.proofs.lemmas.Option.{same_Some}
use Rattle.collective_messages.specs.Entries as entering
use Rattle.collective_messages.specs.Notes as notes
use Rattle.collective_messages.specs.Notes.{have_entered, member_at}
use Rattle.collective_messages.specs.Roles.{RoleState, own_place, role_of}
use Rattle.collective_steps.specs.Steps as steps
use Rattle.collective_steps.specs.Steps.{towards, word_given, word_to}
use Rattle.collective_messages.specs.declared.entry.Entry.{Entry}
use Rattle.collective_messages.specs.declared.entry.Entry.TheVariants as entries
use Rattle.collective_messages.specs.declared.entry.Inside.{Inside}
use Rattle.collective_messages.specs.declared.message.MessageContent.{MessageContent}
use Rattle.collective_messages.specs.declared.message.MessageContent.TheVariants as given
use Rattle.collective_messages.specs.declared.message.CollectiveMessage.{CollectiveMessage}
use Rattle.collective_messages.specs.declared.note.Note.{Note}
use Rattle.datatypes.specs.Combinations.{combined_values}
use Rattle.datatypes.specs.Contents.{Contents}
use Rattle.payload.specs.declared.payload.Direction.TheVariants.{TowardsRoot}
use Rattle.perfect_groups.specs.Collectives.{Part, reduce}
use Rattle.perfect_groups.specs.Operations.{combined_by}
use Rattle.perfect_groups.specs.Results.{all_parts, at_rank, has_rank, reduced, with_first}
use Rattle.proof_collective_steps.proofs.KeptNotes.{AllTold, PartsAre, all_known}
use Rattle.proof_collective_steps.proofs.Middle.{HasSome, reduced_is, some_feeders}
use Rattle.proof_collective_steps.proofs.WordLaws.{some_said}
use Rattle.proof_collective_steps.proofs.Verdicts.{has_role}
use Rattle.proof_collective_steps.specs.Counterparts.{AreNoted, AreSaid, GivenStandsFor, HandsIn, part_of}
use Rattle.proof_collective_steps.specs.MemberVerdicts.{here}
use Rattle.proof_group_network.specs.Notices as network
use Rattle.proof_group_network.specs.Notices.{HasEntered, Notice, joined, notice, part_known}
use Rattle.proof_group_network.specs.Roles as roles
use Rattle.proof_collective_steps.specs.RoleViews.{IsRole, named}
use Rattle.vocabulary.specs.Endpoints.{is_same}
use Rattle.vocabulary.specs.Operations.{is_associative}
use Rattle.vocabulary.specs.declared.endpoint.Endpoint.{Endpoint}

-- WHAT IS KNOWN OF THOSE FOR WHOM A RANK WAITS

parts_are : (e : Endpoint) (i : Inside) (ns : List Note) (rs : List ℕ) (ps : List Part) (H : Bool)
    (o : Option (List Part)) → AllTold H e i ns rs o → o ≡ Some ps → PartsAre e i ns rs ps
parts_are e i ns rs ps false o h q = absurd (let z : None ≡ Some ps = sym h ∙ q in cc)
parts_are e i ns rs ps true o h q = subst (λ (x : List Part). PartsAre e i ns rs x) (same_Some h.0 ps (sym h.1 ∙ q)) h.2

-- the first is the rank's own
first_part : (p : Part) (o : Option (List Part)) (ps : List Part) → with_first (Some p) o ≡ Some ps →
    (qs : List Part) × (ps ≡ p ∷ qs)
first_part p None ps q = absurd (let z : None ≡ Some ps = q in cc)
first_part p (Some qs) ps q = (qs, sym (same_Some (p ∷ qs) ps q))

own_known : (e : Endpoint) (p : Part) (c k : ℕ) (xs : List network.Note) → part_known e p c k xs e ≡ Some p
own_known e p c k xs =
    ap (λ (t : Bool). if t then Some p else network.part_told c k xs e) (λ t. eq-eqb e.rank e.rank refl t &&
    eq-eqb e.incarnation e.incarnation refl t)

own_first : (e : Endpoint) (p : Part) (c k : ℕ) (xs : List network.Note) (ms : List Endpoint) (ps : List Part) →
    all_parts (part_known e p c k xs) (e ∷ ms) ≡ Some ps → (qs : List Part) × (ps ≡ p ∷ qs)
own_first e p c k xs ms ps q =
    first_part p (all_parts (part_known e p c k xs) ms) ps
    (ap (λ (o : Option Part). with_first o (all_parts (part_known e p c k xs) ms)) (sym (own_known e p c k xs)) ∙ q)

-- it alone
pub own_alone : (e : Endpoint) (p : Part) (c k : ℕ) (xs : List network.Note) (fs : List Endpoint) (ps : List Part) →
    fs ≡ e ∷ [] → all_parts (part_known e p c k xs) fs ≡ Some ps → ps ≡ p ∷ []
own_alone e p c k xs fs ps is q =
    sym (same_Some (p ∷ []) ps (ap (λ (o : Option Part). with_first o (Some [])) (sym (own_known e p c k xs)) ∙
    (ap (all_parts (part_known e p c k xs)) (sym is) ∙ q)))

-- what is folded from nothing
none_folded : (f : ℕ → ℕ → ℕ) (qs : List Part) →
    fold (λ (all : List ℕ) (q : Part). combined_values f all q.values) [] qs ≡ []
none_folded f [] = refl
none_folded f (q ∷ qs) = none_folded f qs

-- WHO IS NOT IN THE MIDDLE

abbrev head_of : Endpoint → List Endpoint → Endpoint
head_of d [] = d
head_of d (m ∷ ms) = m

not_rank : (e m : Endpoint) (ms : List Endpoint) (root : ℕ) → at_rank ms root ≡ m ∷ [] → is_same m e ≡ false →
    has_rank e ms root ≡ false
not_rank e m [] root q other = refl
not_rank e m (x ∷ xs) zero q other = ap (λ (zs : List Endpoint). is_same (head_of m zs) e) q ∙ other
not_rank e m (x ∷ xs) (suc root) q other = not_rank e m xs root q other

not_first : (e m : Endpoint) (ms : List Endpoint) → at_rank ms 0 ≡ m ∷ [] → is_same m e ≡ false →
    roles.is_first e ms ≡ false
not_first e m [] q other = refl
not_first e m (x ∷ xs) q other = ap (λ (zs : List Endpoint). is_same (head_of m zs) e) q ∙ other

alone : (e : Endpoint) (ms : List Endpoint) (b : Bool) → b ≡ false → (if b then ms else e ∷ []) ≡ e ∷ []
alone e ms b q = ap (λ (t : Bool). if t then ms else e ∷ []) q

-- THE WORD

abbrev inside : (place context incarnation number : ℕ) → Entry → RoleState → Inside
inside place c inc k y role =
    record { place = place; context = c; incarnation = inc; number = k; entry = y; role = role; told = false }

-- a rank says a word that stands for its member's
abbrev Says : Endpoint → Inside → List Note → (y : Entry) → List Part → Type 0
Says e i ns y ps = (g : MessageContent) × (word_given e i ns y ≡ Some g) ×
    GivenStandsFor e (entering.record_of y) g (HasEntered (joined (part_of y).record_is ps))

says : (e : Endpoint) (place c inc k : ℕ) (y : Entry) (role : RoleState) (ranks : List ℕ) (ns : List Note)
    (xs : List network.Note) (ps : List Part) →
    IsRole (roles.way_of (part_of y).record_is) (part_of y).record_is.root e inc ranks role → role.feeders ≡
    (role_of e inc ranks (entering.record_of y)).feeders → HandsIn e ranks y →
    PartsAre e (inside place c inc k y role) ns role.feeders ps →
    all_parts (part_known e (part_of y) c k xs)
    (roles.feeders (roles.way_of (part_of y).record_is) (part_of y).record_is.root e (named inc ranks)) ≡ Some ps →
    (r : ℕ) → role.above ≡ Some r → is_same (member_at inc r) e ≡ false → Says e (inside place c inc k y role) ns y ps
says e place c inc k entries.Barrier role ranks ns xs ps h fed hands are q r up other = (
  given.Nothing TowardsRoot,
  refl,
  ap (λ (zs : List Part). HasEntered (joined (part_of entries.Barrier).record_is zs)) first.1
      ∙ ap (λ (vs : List ℕ). HasEntered
      (record { record_is = (part_of entries.Barrier).record_is; values = vs; colour = None; key = pos 0 }))
      (none_folded (λ (x y : ℕ). x) first.0),
)
  where
    first : (qs : List Part) × (ps ≡ part_of entries.Barrier ∷ qs)
    first = own_first e (part_of entries.Barrier) c k xs (roles.below_of e (named inc ranks)) ps q
says e place c inc k (entries.Bcast root b) role ranks ns xs ps h fed hands are q r up other =
    absurd (let z : [] ≡ named inc (option_to_list (Some r)) = h.above ∙ ap (λ (o : Option ℕ). named inc (option_to_list o)) up in cc)
says e place c inc k (entries.Gather root b) role ranks ns xs ps h fed hands are q r up other = (
  given.Elements TowardsRoot b,
  refl,
  (
    refl,
    ap (λ (zs : List Part). HasEntered (joined (part_of (entries.Gather root b)).record_is zs))
        (own_alone e (part_of (entries.Gather root b)) c k xs _ ps
        (alone e (named inc ranks) (has_rank e (named inc ranks) root)
        (not_rank e (member_at inc r) (named inc ranks) root
        (h.above ∙ ap (λ (o : Option ℕ). named inc (option_to_list o)) up) other)) q),
  ),
)
says e place c inc k (entries.Scatter s b) role ranks ns xs ps h fed hands are q r up other =
    absurd (let z : [] ≡ named inc (option_to_list (Some r)) = h.above ∙ ap (λ (o : Option ℕ). named inc (option_to_list o)) up in cc)
says e place c inc k (entries.Reduce o root b) role ranks ns xs ps h fed hands are q r up other = (
  given.Elements TowardsRoot sum,
  ap towards made,
  (
    refl,
    λ t. HasEntered (record {
      record_is = (part_of (entries.Reduce o root b)).record_is;
      values = reduced (combined_by (Some o) (Some b.basic)) ps;
      colour = ap network.first_colour first.1 t;
      key = ap network.first_key first.1 t;
    }),
  ),
)
  where
    sum : Contents
    sum = record { basic = b.basic; values = reduced (combined_by (Some o) (Some b.basic)) ps }

    some : HasSome role.feeders
    some = some_feeders (is_associative o b.basic) (own_place e inc ranks) e inc ranks root role.feeders fed

    made : steps.reduce_blocks e (inside place c inc k (entries.Reduce o root b) role) ns role.feeders o b ≡ Some sum
    made =
        ap (λ (fs : List ℕ). steps.reduce_blocks e (inside place c inc k (entries.Reduce o root b) role) ns fs o b)
        some.is
        ∙ reduced_is e (inside place c inc k (entries.Reduce o root b) role) ns some.first some.others o b ps
        (subst (λ (fs : List ℕ). PartsAre e (inside place c inc k (entries.Reduce o root b) role) ns fs ps) some.is
        are).blocks hands

    own_part : Part
    own_part = part_of (entries.Reduce o root b)

    -- who tells another one has itself first, or is alone
    first_by : (a : Bool) → roles.whom_to_tell (roles.way_by reduce (not a)) root e (named inc ranks) ≡
        named inc (option_to_list (Some r)) →
        all_parts (part_known e own_part c k xs)
        (roles.feeders (roles.way_by reduce (not a)) root e (named inc ranks)) ≡
        Some ps → (qs : List Part) × (ps ≡ own_part ∷ qs)
    first_by true to q = own_first e own_part c k xs (roles.below_of e (named inc ranks)) ps q
    first_by false to q = (
      [],
      own_alone e own_part c k xs _ ps
          (alone e (named inc ranks) (has_rank e (named inc ranks) root)
          (not_rank e (member_at inc r) (named inc ranks) root to other)) q,
    )

    first : (qs : List Part) × (ps ≡ own_part ∷ qs)
    first = first_by (is_associative o b.basic)
        (h.above ∙ ap (λ (o : Option ℕ). named inc (option_to_list o)) up) q
says e place c inc k (entries.Allreduce o b) role ranks ns xs ps h fed hands are q r up other = (
  given.Elements TowardsRoot b,
  refl,
  (
    refl,
    ap (λ (zs : List Part). HasEntered (joined (part_of (entries.Allreduce o b)).record_is zs))
        (own_alone e (part_of (entries.Allreduce o b)) c k xs _ ps
        (alone e (named inc ranks) (roles.is_first e (named inc ranks))
        (not_first e (member_at inc r) (named inc ranks)
        (h.above ∙ ap (λ (o : Option ℕ). named inc (option_to_list o)) up) other)) q),
  ),
)
says e place c inc k entries.Dup role ranks ns xs ps h fed hands are q r up other = (
  given.Nothing TowardsRoot,
  refl,
  ap (λ (zs : List Part). HasEntered (joined (part_of entries.Dup).record_is zs))
      (own_alone e (part_of entries.Dup) c k xs _ ps
      (alone e (named inc ranks) (roles.is_first e (named inc ranks))
      (not_first e (member_at inc r) (named inc ranks)
      (h.above ∙ ap (λ (o : Option ℕ). named inc (option_to_list o)) up) other)) q),
)
says e place c inc k (entries.Split a) role ranks ns xs ps h fed hands are q r up other = (
  given.Choice a,
  refl,
  ap (λ (zs : List Part). HasEntered (joined (part_of (entries.Split a)).record_is zs))
      (own_alone e (part_of (entries.Split a)) c k xs _ ps
      (alone e (named inc ranks) (roles.is_first e (named inc ranks))
      (not_first e (member_at inc r) (named inc ranks)
      (h.above ∙ ap (λ (o : Option ℕ). named inc (option_to_list o)) up) other)) q),
)

-- it goes to the one right above, if that is another
word_said : (e : Endpoint) (i : Inside) (g : Option MessageContent) (x : network.Said) (above : Option ℕ) →
    ((r : ℕ) → above ≡ Some r → is_same (member_at i.incarnation r) e ≡ false →
    (d : MessageContent) × (g ≡ Some d) × GivenStandsFor e (entering.record_of i.entry) d x) →
    AreSaid e (word_to e i above g)
    (network.to_others e (λ m. notice i.context i.number x) (named i.incarnation (option_to_list above)))
word_said e i g x None gives = tt
word_said e i g x (Some r) gives = by (is_same (member_at i.incarnation r) e) refl
  where
    nobody : (o : Option MessageContent) → is_same (member_at i.incarnation r) e ≡ true → word_to e i (Some r) o ≡ []
    nobody None same = refl
    nobody (Some d) same = ap (λ (t : Bool). if t then [] else steps.message_to i d r ∷ []) same

    by : (b : Bool) → is_same (member_at i.incarnation r) e ≡ b →
        AreSaid e (word_to e i (Some r) g)
        (network.to_others e (λ m. notice i.context i.number x) (member_at i.incarnation r ∷ []))
    by true same =
        subst (λ (ms : List CollectiveMessage). AreSaid e ms
        (network.to_others e (λ m. notice i.context i.number x) (member_at i.incarnation r ∷ [])))
        (sym (nobody g same))
        (subst (λ (b : Bool). AreSaid e [] (if b then [] else (member_at i.incarnation r, notice i.context i.number x) ∷
        [])) (sym same) tt)
    by false other =
        subst (λ (o : Option MessageContent). AreSaid e (word_to e i (Some r) o)
        (network.to_others e (λ m. notice i.context i.number x) (member_at i.incarnation r ∷ [])))
        (sym (gives r refl other).1)
        (some_said e i (gives r refl other).0 x (gives r refl other).2 (r ∷ []))

pub words_follow : (e : Endpoint) (i : Inside) (ranks : List ℕ) (ns : List Note) (xs : List network.Note)
    (ps : List Part) →
    e.incarnation ≡ i.incarnation → i.role ≡ role_of e i.incarnation ranks (entering.record_of i.entry) →
    HandsIn e ranks i.entry → AreNoted e ns xs →
    notes.differs_in i.context i.number i.entry ns ≡ false →
    network.gathered_by e (here i ranks) i.number (part_of i.entry) xs ≡ Some ps →
    AreSaid e (steps.word_messages e i ns) (network.entries_to e (here i ranks) i.number (part_of i.entry) ps i.told)
words_follow e i ranks ns xs ps own is hands h u q = by i.told
  where
    has : IsRole (roles.way_of (part_of i.entry).record_is) (part_of i.entry).record_is.root e i.incarnation ranks
        i.role
    has = has_role e i ranks own is

    are : PartsAre e i ns i.role.feeders ps
    are =
        parts_are e i ns i.role.feeders ps (have_entered e i.incarnation i.context i.number ns i.role.feeders)
        (all_parts (part_known e (part_of i.entry) i.context i.number xs) (named i.incarnation i.role.feeders))
        (all_known e i ns xs h u i.role.feeders)
        (ap (all_parts (part_known e (part_of i.entry) i.context i.number xs)) (sym has.feeders) ∙ q)

    word : network.Said
    word = HasEntered (joined (part_of i.entry).record_is ps)

    I : Inside
    I = inside i.place i.context i.incarnation i.number i.entry i.role

    given_so : (r : ℕ) → i.role.above ≡ Some r → is_same (member_at i.incarnation r) e ≡ false → Says e I ns i.entry ps
    given_so r up other =
        says e i.place i.context i.incarnation i.number i.entry i.role ranks ns xs ps has
        (ap (λ (x : RoleState). x.feeders) is) hands (parts_told are) q r up other
      where
        parts_told : PartsAre e i ns i.role.feeders ps → PartsAre e I ns i.role.feeders ps
        parts_told a = record { agreeing = a.agreeing; count = a.count; rows = a.rows; blocks = a.blocks }

    by : (told : Bool) →
        AreSaid e (if told then [] else word_to e i i.role.above (word_given e i ns i.entry))
        (network.entries_to e (here i ranks) i.number (part_of i.entry) ps told)
    by true = tt
    by false =
        subst (λ (zs : List Endpoint). AreSaid e (word_to e i i.role.above (word_given e i ns i.entry))
        (network.to_others e (λ m. notice i.context i.number word) zs)) (sym has.above)
        (word_said e i (word_given e i ns i.entry) word i.role.above (λ r up other. given_so r up other))
