-- What a verdict says, and what a member has that gathered or was told.
use Rattle.std.proofs.Common.{◌≡◌, ℕ, suc, ◌≤◌, ◌<◌, Bool, true, false, List, [], ◌∷◌, ◌++◌, length}
use Rattle.std.proofs.Common.{map, Option, Some, None, if◌then◌else◌, ◌==◌, nat_lt, refl, sym, ap, ◌∙◌, subst}
use Rattle.std.proofs.Common.{arith, ◌⊎◌, ⊎_elim, inl, inr}
use Rattle.std.specs.List.{AllByRecursion}
use Rattle.std.proofs.lemmas.List.{length-map}
use mathlib.Core.Path.{fun_ext}
use Rattle.binomial_trees.specs.TreeLaws as tree
use Rattle.perfect_groups.proofs.Distinct.{MadeApart, there_apart}
use Rattle.perfect_groups.specs.Quiet.{IsOneOf}
use Rattle.proof_group_network.proofs.Decisions.{Gathered, some_fed}
use Rattle.proof_group_network.proofs.RoleLaws.{IsStar, chunks, up_law}
use Rattle.proof_group_network.proofs.FoldLaws.{Associates, Collected, collect, collect_star, folds_or_star}
use Rattle.proof_group_network.proofs.FoldLaws.{joined_pieces}
use Rattle.proof_group_network.proofs.FoldLaws.{star_chunks}
use Rattle.perfect_groups.proofs.GroupProofs.{sound_held, sound_same}
use Rattle.perfect_groups.specs.Collectives.{Kind, Part, Record, allreduce, barrier, bcast, dup, gather, reduce}
use Rattle.perfect_groups.specs.Collectives.{scatter, split}
use Rattle.perfect_groups.specs.Communicators.{Communicator}
use Rattle.perfect_groups.specs.Membership.{Groups, Inside, Membership}
use Rattle.perfect_groups.specs.Membership.{first_of}
use Rattle.perfect_groups.specs.Membership.{with_member}
use Rattle.perfect_groups.specs.Results.{Row, all_agree, all_parts, among_colours, colours_of}
use Rattle.perfect_groups.specs.Results.{is_making, members_of_colour, new_groups, row_of, rows_of}
use Rattle.perfect_groups.specs.Soundness.{Grows, IsReal, IsThere, Sound}
use Rattle.perfect_queues.proofs.EndpointLemmas.{same_eq}
use Rattle.proof_group_network.proofs.GroupInvariant.{GroupMove, Honest, changed_honest}
use Rattle.proof_group_network.proofs.GroupInvariant.{each_kept, of_put, others_all_of, put_else, put_here}
use Rattle.proof_group_network.proofs.GroupInvariant.{put_same, serial_put}
use Rattle.proof_group_network.proofs.NoticeTruth.{Entries, IsTrue, IsTrueNote}
use Rattle.proof_group_network.proofs.NoticeTruth.{true_more}
use Rattle.proof_group_network.specs.Network.{NoticeLink, groups_by, notify_all}
use Rattle.proof_group_network.specs.Network.{put_member}
use Rattle.proof_group_network.specs.Notices.{Breaks, Decides, HasEntered, Hears}
use Rattle.proof_group_network.specs.Notices.{Member, Note, Notice, Said, Stays, Verdict, Waits}
use Rattle.proof_group_network.specs.Notices.{decides, differs_in, entries_to, feeders}
use Rattle.proof_group_network.specs.Notices.{gathered_by, is_first, joined, joins}
use Rattle.proof_group_network.specs.Notices.{notice, part_known, result_told}
use Rattle.proof_group_network.specs.Notices.{told_on, verdict, verdict_by}
use Rattle.proof_group_network.specs.Notices.{verdict_told, way_of, whom_to_tell}
use Rattle.proof_group_network.specs.Roles.{is_ordered, stands_for, way_by}
use Rattle.vocabulary.specs.Endpoints.{is_same}
use Rattle.vocabulary.specs.declared.endpoint.Endpoint.{Endpoint}
use Rattle.proof_pure_network.proofs.JobLemmas.{All_append}

-- VERDICTS

-- what a verdict says
abbrev pub Says : (differs : Bool) → Record → (decides : Bool) → Option (List Part) → Option Said → Verdict → Type 0
Says a r d o s Stays = (a ≡ false) × ((o ≡ None) ⊎ ((ps : List Part) × (o ≡ Some ps) × (all_agree r ps ≡ false)))
Says a r d o s Breaks = a ≡ true
Says a r d o s (Waits ps) = (a ≡ false) × (o ≡ Some ps) × (all_agree r ps ≡ true) × (d ≡ false) × (s ≡ None)
Says a r d o s (Decides ps) = (a ≡ false) × (o ≡ Some ps) × (all_agree r ps ≡ true) × (d ≡ true)
Says a r d o s (Hears ps x) = (a ≡ false) × (o ≡ Some ps) × (all_agree r ps ≡ true) × (d ≡ false) × (s ≡ Some x)

says : (a : Bool) (r : Record) (d : Bool) (o : Option (List Part)) (s : Option Said) →
    Says a r d o s (if a then Breaks else verdict_by r d o s)
says true r d o s = refl
says false r d None s = (refl, inl refl)
says false r d (Some ps) s = go (all_agree r ps) refl
  where
    told : all_agree r ps ≡ true → (d : Bool) (s : Option Said) → Says false r d (Some ps) s (verdict_told d ps s)
    told q true s = (refl, refl, q, refl)
    told q false None = (refl, refl, q, refl, refl)
    told q false (Some x) = (refl, refl, q, refl, refl)

    go : (t : Bool) → all_agree r ps ≡ t → Says false r d (Some ps) s (if t then verdict_told d ps s else Stays)
    go false q = (refl, inr (ps, refl, q))
    go true q = told q d s

abbrev pub SaysAt : Endpoint → Communicator → (number : ℕ) → Part → List Note → Verdict → Type 0
SaysAt e c k p notes v =
    Says (differs_in c.context k p.record_is notes) p.record_is
    (decides (way_of p.record_is) p.record_is.root e c.members)
    (gathered_by e c k p notes) (result_told c.context k notes) v

pub says_at : (e : Endpoint) (c : Communicator) (k : ℕ) (p : Part) (notes : List Note) (v : Verdict) →
    verdict e c k p notes ≡ v → SaysAt e c k p notes v
says_at e c k p notes v h =
    subst (λ (x : Verdict). SaysAt e c k p notes x) h
    (says (differs_in c.context k p.record_is notes) p.record_is
    (decides (way_of p.record_is) p.record_is.root e c.members)
    (gathered_by e c k p notes) (result_told c.context k notes))

-- KINDS

pub making_first : (k : Kind) (b : Bool) (root : ℕ) (e : Endpoint) (ms : List Endpoint) → is_making k ≡ true →
    decides (way_by k b) root e ms ≡ true → is_first e ms ≡ true
making_first barrier b root e ms h d = absurd (grind arith)
making_first bcast b root e ms h d = absurd (grind arith)
making_first gather b root e ms h d = absurd (grind arith)
making_first scatter b root e ms h d = absurd (grind arith)
making_first reduce b root e ms h d = absurd (grind arith)
making_first allreduce b root e ms h d = absurd (grind arith)
making_first dup b root e ms h d = d
making_first split b root e ms h d = d

-- who makes communicators tells no result on
pub making_told : (k : Kind) (b : Bool) (root : ℕ) (e d : Endpoint) (ms : List Endpoint) → is_making k ≡ true →
    decides (way_by k b) root e ms ≡ false → IsOneOf d (told_on (way_by k b) root e ms) → ⊥
making_told barrier b root e d ms h g o = absurd (grind arith)
making_told bcast b root e d ms h g o = absurd (grind arith)
making_told gather b root e d ms h g o = absurd (grind arith)
making_told scatter b root e d ms h g o = absurd (grind arith)
making_told reduce b root e d ms h g o = absurd (grind arith)
making_told allreduce b root e d ms h g o = absurd (grind arith)
making_told dup b root e d ms h g o = subst (λ (t : Bool). IsOneOf d (if t then ms else [])) g o
making_told split b root e d ms h g o = subst (λ (t : Bool). IsOneOf d (if t then ms else [])) g o

pub first_is : (e : Endpoint) (ms : List Endpoint) → is_first e ms ≡ true → first_of ms e ≡ e
first_is e [] h = refl
first_is e (m ∷ ms) h = same_eq m e h

pub first_one : (x y : Endpoint) (ms : List Endpoint) → is_first x ms ≡ true → is_first y ms ≡ true → x ≡ y
first_one x y [] h g = absurd (grind arith)
first_one x y (m ∷ ms) h g = sym (same_eq m x h) ∙ same_eq m y g

-- no more groups than members
colours_few : (c : ℕ) (cs : List ℕ) → length (among_colours c cs) ≤ suc (length cs)
colours_few c [] = omega arith
colours_few c (x ∷ xs) = go (nat_lt x c) (x == c) (colours_few c xs)
  where
    go : (t u : Bool) → length (among_colours c xs) ≤ suc (length xs) →
        length (if t then x ∷ among_colours c xs else (if u then x ∷ xs else c ∷ x ∷ xs)) ≤ suc (suc (length xs))
    go true u r = omega (arith, r)
    go false true r = omega arith
    go false false r = omega arith

all_colours_few : (rs : List Row) → length (colours_of rs) ≤ length rs
all_colours_few [] = omega arith
all_colours_few (r ∷ rs) = let a : length (among_colours r.colour (colours_of rs)) ≤ suc (length (colours_of rs)) = colours_few r.colour (colours_of rs) in let b : length (colours_of rs) ≤ length rs = all_colours_few rs in omega (arith, a, b)

rows_few : (ms : List Endpoint) (ps : List Part) → length (rows_of ms ps) ≤ length ms
rows_few [] ps = omega arith
rows_few (m ∷ ms) [] = omega arith
rows_few (m ∷ ms) (p ∷ ps) = go p.colour (rows_few ms ps)
  where
    go : (o : Option ℕ) → length (rows_of ms ps) ≤ length ms →
        length (row_of m p.key o ++ rows_of ms ps) ≤ suc (length ms)
    go None r = omega (arith, r)
    go (Some c) r = omega (arith, r)

pub groups_few : (k : Kind) (e : Endpoint) (ms : List Endpoint) (ps : List Part) → is_first e ms ≡ true →
    length (new_groups k ms ps) ≤ length ms
groups_few k e [] ps h = absurd (grind arith)
groups_few barrier e (m ∷ ms) ps h = omega arith
groups_few bcast e (m ∷ ms) ps h = omega arith
groups_few gather e (m ∷ ms) ps h = omega arith
groups_few scatter e (m ∷ ms) ps h = omega arith
groups_few reduce e (m ∷ ms) ps h = omega arith
groups_few allreduce e (m ∷ ms) ps h = omega arith
groups_few dup e (m ∷ ms) ps h = omega arith
groups_few split e (m ∷ ms) ps h =
    let a : length (map (members_of_colour (rows_of (m ∷ ms) ps)) (colours_of (rows_of (m ∷ ms) ps))) ≡ length (colours_of (rows_of (m ∷ ms) ps)) = length-map (colours_of (rows_of (m ∷ ms) ps)) (members_of_colour (rows_of (m ∷ ms) ps)) in
    let b : length (colours_of (rows_of (m ∷ ms) ps)) ≤ length (rows_of (m ∷ ms) ps) = all_colours_few (rows_of (m ∷ ms) ps) in
    let c : length (rows_of (m ∷ ms) ps) ≤ suc (length ms) = rows_few (m ∷ ms) ps in
    omega (arith, a, b, c)

-- MEMBERS THAT MAKE NOTHING

-- the part of one endpoint is changed, and nothing is made, drawn or entered
pub still_honest : (n : ℕ) (members : Endpoint → Member) (entered : ℕ → ℕ → Endpoint → Option Part) (made : ℕ → ℕ →
    Option (List Communicator)) (links links' : Endpoint → Endpoint → NoticeLink) (e : Endpoint) (m : Member) →
    Honest n (groups_by members entered made) (λ x. (members x).kept) links → IsReal e → m.serial ≡ (members e).serial →
    m.membership.count ≡ (members e).membership.count →
    ((c : Communicator) (k : ℕ) (p : Part) → m.membership.present ≡ Some (Inside c k p) →
    (members e).membership.present ≡ Some (Inside c k p)) →
    AllByRecursion (IsThere n made) m.membership.held →
    AllByRecursion (IsTrueNote n (groups_by members entered made) e) m.kept →
    ((s d : Endpoint) → AllByRecursion (IsTrue n (groups_by members entered made) s d) (links' s d).accepted) →
    Honest n (groups_by (put_member members e m) entered made) (λ x. (put_member members e m x).kept) links'
still_honest n members entered made links links' e m h real serial counts still held kept told =
    changed_honest n g g' e m.membership (λ x. (members x).kept) (λ x. (put_member members e m x).kept) links links' h
    sound (record { entered = λ c k x p q. q; made = λ c k cs q. q })
    (ap (λ (y : Member). y.membership) (put_here members e m))
    (λ x o. ap (λ (y : Member). y.membership) (put_else members e m x o)) refl counts
    (λ c k p q. (still c k p q, refl, ap (λ (y : Member). y.serial) (put_here members e m) ∙ serial))
    (λ x c k p o q mk f. (refl, ap (λ (y : Member). y.serial) (put_else members e m x o)))
    (λ c k cs q. inl q) h.apart told (each_kept (λ x ks. AllByRecursion (IsTrueNote n g x) ks) members e m h.notes kept)
  where
    g : Groups
    g = groups_by members entered made

    g' : Groups
    g' = groups_by (put_member members e m) entered made

    each_held : (x : Endpoint) → IsReal x → AllByRecursion (IsThere n made) (put_member members e m x).membership.held
    each_held x r = go (is_same x e)
      where
        go : (t : Bool) → AllByRecursion (IsThere n made) (if t then m else members x).membership.held
        go true = held
        go false = h.sound.held x r

    sound : Sound n g'
    sound = sound_same n (record g { of = λ x. (put_member members e m x).membership }) g'
        (sound_held n g (λ x. (put_member members e m x).membership) h.sound each_held) (λ x. refl) refl
        (serial_put members e m serial)

-- WHAT A RANK DOES OF ITSELF

abbrev pub Entered : Type 0
Entered = ℕ → ℕ → Endpoint → Option Part

abbrev pub Made : Type 0
Made = ℕ → ℕ → Option (List Communicator)

-- it is a step of the machine, and what holds stays
pub record Tried (n : ℕ) (members : Endpoint → Member) (entered : Entered) (made : Made) (links : Endpoint → Endpoint →
    NoticeLink) (e : Endpoint) (m : Member) (made' : Made) (out : List (Endpoint × Notice)) : Type 0 where
  pub move : GroupMove (groups_by members entered made) (groups_by (put_member members e m) entered made') e
  pub honest : Honest n (groups_by (put_member members e m) entered made') (λ x. (put_member members e m x).kept)
      (notify_all links e out)

-- nothing
pub tried_none : (n : ℕ) (members : Endpoint → Member) (entered : Entered) (made : Made) (links : Endpoint → Endpoint →
    NoticeLink) (e : Endpoint) → Honest n (groups_by members entered made) (λ x. (members x).kept) links →
    Tried n members entered made links e (members e) made []
tried_none n members entered made links e h =
    record {
      move = record {
        moves = [];
        may = λ s q. tt;
        queues_are = λ s. refl;
        groups_are =
            λ s q. q ∙ ap (λ (ms : Endpoint → Member). groups_by ms entered made) (sym (put_same members e));
      };
      honest = subst (λ (ms : Endpoint → Member). Honest n (groups_by ms entered made) (λ x. (ms x).kept) links)
          (sym (put_same members e)) h;
    }

-- other groups by the same members
abbrev pub with_parts : Groups → (Endpoint → Membership) → Groups
with_parts g of' = record { of = of'; entered = g.entered; made = g.made; serial = g.serial }

pub put_path : (members : Endpoint → Member) (entered : Entered) (made : Made) (e : Endpoint) (m : Member) → m.serial ≡
    (members e).serial →
    with_parts (groups_by members entered made) (with_member (λ x. (members x).membership) e m.membership) ≡
    groups_by (put_member members e m) entered made
put_path members entered made e m h =
    λ t. record {
      of = sym (of_put members e m) t;
      entered = entered;
      made = made;
      serial =
          sym (serial_put members e m h) t;
    }

-- where nothing of groups changes
with_same : (of : Endpoint → Membership) (e : Endpoint) (m : Membership) → m ≡ of e → with_member of e m ≡ of
with_same of e m h = fun_ext (λ x. go x (is_same x e) refl)
  where
    go : (x : Endpoint) (t : Bool) → is_same x e ≡ t → (if t then m else of x) ≡ of x
    go x true q = h ∙ ap of (sym (same_eq x e q))
    go x false q = refl

pub same_groups : (members : Endpoint → Member) (entered : Entered) (made : Made) (e : Endpoint) (m : Member) →
    m.membership ≡ (members e).membership → m.serial ≡ (members e).serial → groups_by members entered made ≡
    groups_by (put_member members e m) entered made
same_groups members entered made e m h i =
    (λ t. record {
      of = sym (with_same (λ x. (members x).membership) e m.membership h) t;
      entered = entered;
      made =
          made;
      serial = λ x. (members x).serial;
    })
    ∙ put_path members entered made e m i

-- WHAT IS GATHERED

-- a member inside that has heard of all those for whom it waits
pub gathered_is : (n : ℕ) (g : Groups) (e : Endpoint) (c : Communicator) (k : ℕ) (p : Part) (notes : List Note)
    (ps : List Part) → Sound n g → MadeApart g.made → IsThere n g.made c → AllByRecursion (IsTrueNote n g e) notes →
    g.entered c.context k e ≡ Some p →
    gathered_by e c k p notes ≡ Some ps → all_agree p.record_is ps ≡ true →
    Gathered (g.entered c.context k) (way_of p.record_is) p.record_is e c.members p ps
gathered_is n g e c k p notes ps sound once there a own h ag =
    record {
      own = own;
      record_is = refl;
      apart = there_apart n g.made c once there;
      agreeing = ag;
      pieces = t.pieces;
      all = t.all;
      all_agreeing = t.agreeing;
      filled = t.filled;
      sums = t.sums;
      star = λ st. collect_star n g e c k p notes sound there a own st
          (feeders (way_of p.record_is) p.record_is.root e c.members) ps h ag;
    }
  where
    t : Collected (g.entered c.context k) p.record_is e c.members
        (feeders (way_of p.record_is) p.record_is.root e c.members) ps
    t = collect n g e c k p notes sound there a own (feeders (way_of p.record_is) p.record_is.root e c.members) ps h ag

some_pieces : (r : Record) (pieces : List (List Part)) (ps : List Part) → tree.AreFilled pieces →
    map (joined r) pieces ≡ ps → (ps ≡ [] → ⊥) → 0 < length (tree.joined pieces)
some_pieces r [] ps fill sums some = absurd (some (sym sums))
some_pieces r ([] ∷ pieces) ps fill sums some = absurd (let z : 0 < 0 = fill.0 in omega (arith, z))
some_pieces r ((x ∷ xs) ∷ pieces) ps fill sums some = omega arith

-- those for whom the word of a member stands, that gathered this
record Word (F : Endpoint → Option Part) (r : Record) (e : Endpoint) (ms : List Endpoint)
    (ps : List Part) : Type 0 where
  pub parts : List Part
  pub are : all_parts F (stands_for (way_of r) e ms) ≡ Some parts
  pub agreeing : all_agree r parts ≡ true
  pub filled : 0 < length parts
  pub value : joined r parts ≡ joined r ps

some_parts : (ps : List Part) → (ps ≡ [] → ⊥) → 0 < length ps
some_parts [] some = absurd (some refl)
some_parts (p ∷ ps) some = omega arith

word_of : (F : Endpoint → Option Part) (r : Record) (e : Endpoint) (ms : List Endpoint) (p : Part) (ps : List Part) →
    (t : Gathered F (way_of r) r e ms p ps) → (ps ≡ [] → ⊥) →
    chunks (way_of r) e ms (feeders (way_of r) r.root e ms) ≡ stands_for (way_of r) e ms → Word F r e ms ps
word_of F r e ms p ps t some up =
    ⊎_elim by_fold over_star (folds_or_star r.kind (is_ordered r.operation r.basic) r.operation r.basic refl)
  where
    by_fold : Associates (joins r.kind r.operation r.basic) → Word F r e ms ps
    by_fold assoc =
        record {
          parts = tree.joined t.pieces;
          are = subst (λ (xs : List Endpoint). all_parts F xs ≡ Some (tree.joined t.pieces)) up t.all;
          agreeing = t.all_agreeing;
          filled = some_pieces r t.pieces ps t.filled t.sums some;
          value = joined_pieces r assoc t.pieces t.filled ∙ ap (joined r) t.sums;
        }

    over_star : IsStar (way_of r) → Word F r e ms ps
    over_star star =
        record {
          parts = ps;
          are = subst (λ (xs : List Endpoint). all_parts F xs ≡ Some ps)
              (sym (star_chunks (way_of r) e ms (feeders (way_of r) r.root e ms) star) ∙ up) (t.star star);
          agreeing = t.agreeing;
          filled = some_parts ps some;
          value = refl;
        }

-- the word that it then tells is true
pub entries_true : (n : ℕ) (g : Groups) (e : Endpoint) (c : Communicator) (k : ℕ) (p : Part) (notes : List Note)
    (ps : List Part) → Sound n g → MadeApart g.made → IsThere n g.made c → AllByRecursion (IsTrueNote n g e) notes →
    g.entered c.context k e ≡ Some p →
    gathered_by e c k p notes ≡ Some ps → all_agree p.record_is ps ≡ true →
    (told : Bool) → AllByRecursion (λ (o : Endpoint × Notice). IsTrue n g e o.0 o.1) (entries_to e c k p ps told)
entries_true n g e c k p notes ps sound once there a own h ag true = tt
entries_true n g e c k p notes ps sound once there a own h ag false =
    others_all_of (λ (o : Endpoint × Notice). IsTrue n g e o.0 o.1) e
    (λ m. notice c.context k (HasEntered (joined p.record_is ps)))
    (whom_to_tell (way_of p.record_is) p.record_is.root e c.members) (λ m o d. entries m o d)
  where
    t : Gathered (g.entered c.context k) (way_of p.record_is) p.record_is e c.members p ps
    t = gathered_is n g e c k p notes ps sound once there a own h ag

    some : ps ≡ [] → ⊥
    some q = some_fed (part_known e p c.context k notes) (way_of p.record_is) p.record_is.root e c.members
        (h ∙ ap (λ (x : List Part). Some x) q)

    entries : (m : Endpoint) → IsOneOf m (whom_to_tell (way_of p.record_is) p.record_is.root e c.members) →
        is_same m e ≡ false → Entries n g.entered g.made e c.context k (joined p.record_is ps)
    entries m o d =
        record {
          own = p;
          own_is = own;
          own_record = refl;
          comm = c;
          there = there;
          context_is = refl;
          parts = W.parts;
          parts_are = W.are;
          agreeing = W.agreeing;
          filled = W.filled;
          value = W.value;
        }
      where
        W : Word (g.entered c.context k) p.record_is e c.members ps
        W = word_of (g.entered c.context k) p.record_is e c.members p ps t some
            (up_law (way_of p.record_is) p.record_is.root e c.members t.apart m o d)

pub both_true : (n : ℕ) (g : Groups) (e : Endpoint) (xs ys : List (Endpoint × Notice)) →
    AllByRecursion (λ (o : Endpoint × Notice). IsTrue n g e o.0 o.1) xs →
    AllByRecursion (λ (o : Endpoint × Notice). IsTrue n g e o.0 o.1) ys →
    AllByRecursion (λ (o : Endpoint × Notice). IsTrue n g e o.0 o.1) (xs ++ ys)
both_true n g e xs ys a b = All_append (λ (o : Endpoint × Notice). IsTrue n g e o.0 o.1) xs ys a b

pub all_more_true : (n : ℕ) (g g' : Groups) (e : Endpoint) (xs : List (Endpoint × Notice)) → Grows g g' →
    AllByRecursion (λ (o : Endpoint × Notice). IsTrue n g e o.0 o.1) xs →
    AllByRecursion (λ (o : Endpoint × Notice). IsTrue n g' e o.0 o.1) xs
all_more_true n g g' e [] grow a = tt
all_more_true n g g' e (x ∷ xs) grow a =
    (true_more n g g' e x.0 x.1.context x.1.number x.1.said grow a.0, all_more_true n g g' e xs grow a.1)
