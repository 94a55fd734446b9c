-- A collective that is entered leaves communicators and collectives as accounts say.
use Rattle.std.proofs.Common.{◌≡◌, ℕ, zero, suc, ◌+◌, Bool, true, false, ◌&&◌, List, [], ◌∷◌, ◌++◌, length, Option}
use Rattle.std.proofs.Common.{Some, None, if◌then◌else◌, ◌==◌, slice_get, option_map, refl, sym, ap, ◌∙◌, subst}
use Rattle.std.proofs.Common.{append-nil, arith}
use Rattle.std.specs.List.{AllByRecursion}
use Rattle.std.proofs.lemmas.Bool.{eqb-true, eq-eqb}
use Rattle.std.proofs.lemmas.Option.{same_Some}
use Rattle.perfect_groups.proofs.GroupProofs.{one_group}
use Rattle.perfect_groups.specs.Collectives.{Part}
use Rattle.perfect_groups.specs.Communicators.{Communicator, first_endpoint}
use Rattle.perfect_groups.specs.Membership.{Groups, Inside, Membership, counted, enter, entering, first_of, with_part}
use Rattle.perfect_groups.specs.Results.{all_parts, is_making, with_first}
use Rattle.perfect_groups.specs.Soundness.{IsThere, Sound}
use Rattle.perfect_queues.proofs.EndpointLemmas.{same_eq}
use Rattle.vocabulary.specs.Endpoints.{is_same}
use Rattle.vocabulary.specs.declared.endpoint.Endpoint.{Endpoint}
use Rattle.one_meaning.specs.Accounts.{Account, Accounts, Entered, ForRequests, InCollective, Waiting, after_entry}
use Rattle.one_meaning.specs.Accounts.{entered_by, in_context, membership_of, part_by}
use Rattle.proof_one_meaning.specs.AccountViews.{HaveGroups, IsFilled, IsInsideBy, IsMadeOrPresent, IsPresent, WasMade}
use Rattle.proof_one_meaning.specs.AccountViews.{WereMade, ahead, ahead_if, count_made, with_account}
use Rattle.one_meaning.proofs.AnswerLaws.{
  AllGrew,
  Grew,
  context_append,
  entered_stays,
  get_append,
  grew_not,
  part_stays,
}
use Rattle.one_meaning.proofs.AnswerLaws.{parts_stay}

-- ONE ACCOUNT CHANGES

pub at_account : (P : ℕ → Account → Type 0) (all : Accounts) (r : ℕ) (a : Account) → P r a →
    ((x : ℕ) → (x == r) ≡ false → P x (all x)) → (x : ℕ) → P x (with_account all r a x)
at_account P all r a own others x = go (x == r) refl
  where
    go : (b : Bool) → (x == r) ≡ b → P x (if b then a else all x)
    go true h = subst (λ (y : ℕ). P y a) (sym (eqb-true x r h)) own
    go false h = others x h

pub one_grew : (all : Accounts) (r : ℕ) (a : Account) → Grew (all r) a → AllGrew all (with_account all r a)
one_grew all r a g x = go (x == r) refl
  where
    go : (b : Bool) → (x == r) ≡ b → Grew (all x) (if b then a else all x)
    go true h = subst (λ (y : ℕ). Grew (all y) a) (sym (eqb-true x r h)) g
    go false h = grew_not (all x) (all x) refl refl

pub turned : (b c : ℕ) (t : Bool) → (b == c) ≡ t → (c == b) ≡ t
turned b c true u = eq-eqb c b (sym (eqb-true b c u))
turned b c false u = go (c == b) refl
  where
    go : (t : Bool) → (c == b) ≡ t → t ≡ false
    go false v = refl
    go true v = let k : (b == c) ≡ true = eq-eqb b c (sym (eqb-true c b v)) in absurd (grind arith)

-- LISTS

length_one : {A : Type 0} (xs : List A) (x : A) → length (xs ++ x ∷ []) ≡ suc (length xs)
length_one [] x = refl
length_one (y ∷ xs) x = ap suc (length_one xs x)

get_end : {A : Type 0} (xs : List A) (x : A) → slice_get (xs ++ x ∷ []) (length xs) ≡ Some x
get_end [] x = refl
get_end (y ∷ xs) x = get_end xs x

pub get_behind : {A : Type 0} (xs : List A) → slice_get xs (length xs) ≡ None
get_behind [] = refl
get_behind (y ∷ xs) = get_behind xs

get_other : {A : Type 0} (xs : List A) (x : A) (k : ℕ) → (k == length xs) ≡ false →
    slice_get (xs ++ x ∷ []) k ≡ slice_get xs k
get_other [] x zero h = absurd (grind arith)
get_other [] x (suc k) h = refl
get_other (y ∷ xs) x zero h = refl
get_other (y ∷ xs) x (suc k) h = get_other xs x k (less (k == length xs) refl)
  where
    less : (b : Bool) → (k == length xs) ≡ b → b ≡ false
    less false u = refl
    less true u =
        let e : suc k ≡ suc (length xs) = ap suc (eqb-true k (length xs) u) in
        let t : (suc k == suc (length xs)) ≡ true = eq-eqb (suc k) (suc (length xs)) e in absurd (grind arith)

-- one more in its context, and in no other
context_one : (c : ℕ) (xs : List Entered) (e : Entered) → in_context c (xs ++ e ∷ []) ≡ in_context c xs ++
    (if e.context == c then e ∷ [] else [])
context_one c xs e = context_append c xs (e ∷ [])

-- WHO HAS ENTERED

-- the first part of those that are all there
pub first_there : (f : Endpoint → Option Part) (m : Endpoint) (ms : List Endpoint) (ps : List Part) →
    all_parts f (m ∷ ms) ≡ Some ps → (q : Part) × (f m ≡ Some q)
first_there f m ms ps h = go (f m) refl (all_parts f ms) h
  where
    go : (o : Option Part) → f m ≡ o → (rest : Option (List Part)) → with_first o rest ≡ Some ps →
        (q : Part) × (f m ≡ Some q)
    go None u rest i = absurd (grind arith)
    go (Some q) u rest i = (q, u)

-- a first endpoint's part, by its own account
own_part : (all : Accounts) (c k r : ℕ) → part_by all c k (first_endpoint r) ≡
    option_map (λ e. e.part) (slice_get (in_context c (all r).entered) k)
own_part all c k r = refl

-- an endpoint that has entered was never started anew
pub never_anew : (all : Accounts) (c k : ℕ) (x : Endpoint) (e : Entered) → entered_by all c k x ≡ Some e →
    x ≡ first_endpoint x.rank
never_anew all c k x e h = go (x.incarnation == 0) refl h
  where
    go : (b : Bool) → (x.incarnation == 0) ≡ b → (if b then slice_get (in_context c (all x.rank).entered) k else None) ≡
        Some e → x ≡ first_endpoint x.rank
    go true u v = λ i. record { rank = x.rank; incarnation = eqb-true x.incarnation 0 u i }
    go false u v = absurd (grind arith)

-- what was made stays so, where accounts grow
pub still_made : (n : ℕ) (all all' : Accounts) (g g' : Groups) → AllGrew all all' →
    ((d : Communicator) → IsThere n g.made d → IsThere n g'.made d) → (c k : ℕ) (cs : List Communicator) →
    WereMade n all g c k cs → WereMade n all' g' c k cs
still_made n all all' g g' grew there c k cs w =
    record {
      comm = w.comm;
      there = there w.comm w.there;
      context = w.context;
      maker = w.maker;
      others = w.others;
      members = w.members;
      parts = w.parts;
      all_entered =
          parts_stay (part_by all c k) (part_by all' c k) (part_stays all all' grew c k) w.comm.members w.parts
          w.all_entered;
      part = w.part;
      making = w.making;
      agreeing = w.agreeing;
      entry = w.entry;
      entry_is = entered_stays all all' grew c k w.maker w.entry w.entry_is;
      made_is = w.made_is;
    }

-- who is in a collective is so still
pub inside_on : (n : ℕ) (all all' : Accounts) (g g' : Groups) → AllGrew all all' →
    ((d : Communicator) → IsThere n g.made d → IsThere n g'.made d) → (x i : ℕ) (w : Option Waiting) →
    IsInsideBy n all g x i w → IsInsideBy n all' g' x i w
inside_on n all all' g g' grew there x i None h = tt
inside_on n all all' g g' grew there x i (Some (ForRequests w)) h = tt
inside_on n all all' g g' grew there x i (Some (InCollective c k p)) h =
    record {
      there = there c h.there;
      filled = h.filled;
      entry = entered_stays all all' grew c.context k (first_endpoint x)
          (record { context = c.context; part = p; serial = i }) h.entry;
    }

-- A RANK ENTERS

-- a rank that is to be the maker of a collective, and hasn't entered it: nothing was made there
pub not_made_yet : (n : ℕ) (all : Accounts) (g : Groups) (r : ℕ) → Sound n g →
    ((c k : ℕ) (cs : List Communicator) → g.made c k ≡ Some cs → WereMade n all g c k cs) →
    (c : Communicator) (k : ℕ) → IsThere n g.made c →
    is_same (first_endpoint r) (first_of c.members (first_endpoint r)) ≡ true →
    slice_get (in_context c.context (all r).entered) k ≡ None → (cs : List Communicator) →
    g.made c.context k ≡ Some cs → ⊥
not_made_yet n all g r sound made c k there own none cs is =
    absurd (nothing (first_there (part_by all c.context k) w.maker w.others w.parts entered))
  where
    w : WereMade n all g c.context k cs
    w = made c.context k cs is

    one : w.comm ≡ c
    one = one_group n g sound w.comm c w.there there w.context

    members : c.members ≡ w.maker ∷ w.others
    members = ap (λ (d : Communicator). d.members) (sym one) ∙ w.members

    maker : first_endpoint r ≡ w.maker
    maker =
        same_eq (first_endpoint r) (first_of c.members (first_endpoint r)) own
        ∙ ap (λ (ms : List Endpoint). first_of ms (first_endpoint r)) members

    entered : all_parts (part_by all c.context k) (w.maker ∷ w.others) ≡ Some w.parts
    entered = ap (all_parts (part_by all c.context k)) (sym w.members) ∙ w.all_entered

    nothing : (q : Part) × (part_by all c.context k w.maker ≡ Some q) → ⊥
    nothing t =
        let e : ◌≡◌ {A = Option Part} None (Some t.0) =
        sym (ap (option_map (λ (e : Entered). e.part)) none) ∙ (ap (part_by all c.context k) maker ∙ t.1) in
        grind arith

pub enter_has : (n : ℕ) (all : Accounts) (g : Groups) (r : ℕ) (c : Communicator) (p : Part) → Sound n g →
    HaveGroups n all g r None → (all r).waiting ≡ None → IsThere n g.made c → IsFilled c.members →
    HaveGroups n (with_account all r (after_entry (all r) c p)) (enter g (first_endpoint r) c p) r None
enter_has n all g r c p sound h idle there filled =
    record {
      member = member;
      free = λ o is. absurd (no_ending o is);
      entered = entered;
      filled = at_account (λ x b. AllByRecursion (λ d. IsFilled d.members) b.held) all r a (h.filled r)
          (λ x u. h.filled x);
      inside = inside;
      were_made = λ d j cs is. still_made n all all' g g' grew (λ x t. t) d j cs (h.were_made d j cs is);
      made_all = at_account (λ x b. (d j : ℕ) (e : Entered) → slice_get (in_context d b.entered) j ≡ Some e →
          is_making e.part.record_is.kind ≡ true → IsMadeOrPresent g.made d j b.waiting)
          all r a own_made (λ x u. h.made_all x);
      serial = at_account (λ x b. g.serial (first_endpoint x) ≡ b.serial + ahead g.made (first_endpoint x) b.waiting)
          all r a own_serial (λ x u. h.serial x);
    }
  where
    old : Account
    old = all r

    k : ℕ
    k = length (in_context c.context old.entered)

    a : Account
    a = after_entry old c p

    en : Entered
    en = record { context = c.context; part = p; serial = old.serial }

    all' : Accounts
    all' = with_account all r a

    g' : Groups
    g' = enter g (first_endpoint r) c p

    grew : AllGrew all all'
    grew = one_grew all r a (record { sent = ([], sym (append-nil old.sent)); entered = (en ∷ [], refl) })

    no_ending : {A : Type 0} (o : A) → ◌≡◌ {A = Option A} None (Some o) → ⊥
    no_ending o is = grind arith

    counts : (d : ℕ) → counted (λ x. length (in_context x old.entered)) c.context d ≡
        length (in_context d (old.entered ++ en ∷ []))
    counts d = go (d == c.context) refl ∙ sym (ap length (context_one d old.entered en))
      where
        go : (b : Bool) → (d == c.context) ≡ b →
            (if b then suc (length (in_context c.context old.entered)) else length (in_context d old.entered)) ≡
            length (in_context d old.entered ++ (if c.context == d then en ∷ [] else []))
        go true u =
            ap (λ (x : ℕ). suc (length (in_context x old.entered))) (sym (eqb-true d c.context u))
            ∙ (sym (length_one (in_context d old.entered) en)
            ∙ ap (λ (b : Bool). length (in_context d old.entered ++ (if b then en ∷ [] else [])))
            (sym (turned d c.context true u)))
        go false u =
            ap length (sym (append-nil (in_context d old.entered)))
            ∙ ap (λ (b : Bool). length (in_context d old.entered ++ (if b then en ∷ [] else [])))
            (sym (turned d c.context false u))

    enters : entering (membership_of old) c p ≡ membership_of a
    enters = λ i. record { held = old.held; count = λ d. counts d i; present = Some (Inside c k p) }

    member : (x : ℕ) → g'.of (first_endpoint x) ≡ membership_of (all' x)
    member x = go (x == r) refl
      where
        go : (b : Bool) → (x == r) ≡ b →
            (if b && (0 == 0) then entering (g.of (first_endpoint r)) c p else g.of (first_endpoint x)) ≡
            membership_of (if b then a else all x)
        go true u = ap (λ (m : Membership). entering m c p) (h.member r) ∙ enters
        go false u = h.member x

    -- the table
    entered : (d j : ℕ) (x : Endpoint) → g'.entered d j x ≡ part_by all' d j x
    entered d j x =
        ap (λ (m : Membership). with_part g.entered c.context (m.count c.context) (first_endpoint r) p d j x)
        (h.member r)
        ∙ (ap (λ (o : Option Part). if (d == c.context) && ((j == k) && is_same x (first_endpoint r)) then Some p else
        o) (h.entered d j x)
        ∙ go (x.incarnation == 0) (x.rank == r) refl)
      where
        part_in : List Entered → Option Part
        part_in es = option_map (λ e. e.part) (slice_get es j)

        skip : (b : Bool) (o : Option Part) → (if b && ((j == k) && false) then Some p else o) ≡ o
        skip false o = refl
        skip true o = last (j == k)
          where
            last : (t : Bool) → (if t && false then Some p else o) ≡ o
            last true = refl
            last false = refl

        newest : (b : Bool) → (d == c.context) ≡ b → (t : Bool) → (j == k) ≡ t →
            (if b && (t && true) then Some p else part_in (in_context d old.entered)) ≡
            part_in (in_context d (old.entered ++ en ∷ []))
        newest false u t v =
            sym (ap part_in (context_one d old.entered en ∙
            (ap (λ (b : Bool). in_context d old.entered ++ (if b then en ∷ [] else [])) (turned d c.context false u)
            ∙ append-nil (in_context d old.entered))))
        newest true u t v =
            here t v ∙
            sym (ap part_in (context_one d old.entered en ∙
            ap (λ (b : Bool). in_context d old.entered ++ (if b then en ∷ [] else [])) (turned d c.context true u)))
          where
            same : in_context c.context old.entered ≡ in_context d old.entered
            same = ap (λ (x : ℕ). in_context x old.entered) (sym (eqb-true d c.context u))

            here : (t : Bool) → (j == k) ≡ t → (if t && true then Some p else part_in (in_context d old.entered)) ≡
                part_in (in_context d old.entered ++ en ∷ [])
            here true v =
                sym (ap (λ (i : ℕ). option_map (λ (e : Entered). e.part)
                (slice_get (in_context d old.entered ++ en ∷ []) i)) (eqb-true j k v ∙ ap length same)
                ∙ ap (option_map (λ (e : Entered). e.part)) (get_end (in_context d old.entered) en))
            here false v =
                sym (ap (option_map (λ (e : Entered). e.part))
                (get_other (in_context d old.entered) en j (ap (λ (es : List Entered). j == length es) (sym same) ∙
                v)))

        go : (i t : Bool) → (x.rank == r) ≡ t →
            (if (d == c.context) && ((j == k) && (t && i)) then Some p else
            option_map (λ e. e.part) (if i then slice_get (in_context d (all x.rank).entered) j else None))
            ≡ option_map (λ e. e.part) (if i then slice_get (in_context d (if t then a else all x.rank).entered) j else
            None)
        go true true u =
            ap (λ (y : ℕ). if (d == c.context) && ((j == k) && true) then Some p else
            part_in (in_context d (all y).entered)) (eqb-true x.rank r u)
            ∙ newest (d == c.context) refl (j == k) refl
        go true false u = skip (d == c.context) (part_in (in_context d (all x.rank).entered))
        go false true u = skip (d == c.context) None
        go false false u = skip (d == c.context) None

    entry : entered_by all' c.context k (first_endpoint r) ≡ Some en
    entry =
        ap (λ (b : Bool). slice_get (in_context c.context (if b then a else all r).entered) k) (eq-eqb r r refl)
        ∙ (ap (λ (es : List Entered). slice_get es k) (context_one c.context old.entered en ∙
        ap (λ (b : Bool). in_context c.context old.entered ++ (if b then en ∷ [] else []))
        (eq-eqb c.context c.context refl))
        ∙ get_end (in_context c.context old.entered) en)

    inside : (x : ℕ) → IsInsideBy n all' g' x (all' x).serial (all' x).waiting
    inside =
        at_account (λ x b. IsInsideBy n all' g' x b.serial b.waiting) all r a
        (record { there = there; filled = filled; entry = entry })
        (λ x u. inside_on n all all' g g' grew (λ d t. t) x (all x).serial (all x).waiting (h.inside x))

    own_made : (d j : ℕ) (e : Entered) → slice_get (in_context d a.entered) j ≡ Some e →
        is_making e.part.record_is.kind ≡ true → IsMadeOrPresent g.made d j a.waiting
    own_made d j e is m = go (slice_get (in_context d old.entered) j) refl
      where
        here : slice_get (in_context d old.entered ++ (if c.context == d then en ∷ [] else [])) j ≡ Some e
        here = sym (ap (λ (es : List Entered). slice_get es j) (context_one d old.entered en)) ∙ is

        before : IsMadeOrPresent g.made d j old.waiting → IsMadeOrPresent g.made d j a.waiting
        before (WasMade cs u) = WasMade cs u
        before (IsPresent f q u v) = absurd (no_waiting (InCollective f j q) (sym idle ∙ u))
          where
            no_waiting : (w : Waiting) → ◌≡◌ {A = Option Waiting} None (Some w) → ⊥
            no_waiting w e = grind arith

        new : slice_get (in_context d old.entered) j ≡ None → (b : Bool) →
            (c.context == d) ≡ b → slice_get (in_context d old.entered ++ (if b then en ∷ [] else [])) j ≡ Some e →
            (t : Bool) → (j == length (in_context d old.entered)) ≡ t → IsMadeOrPresent g.made d j a.waiting
        new none false u v t w =
            absurd (no_ending e (sym none ∙
            (ap (λ (es : List Entered). slice_get es j) (sym (append-nil (in_context d old.entered))) ∙ v)))
        new none true u v false w =
            absurd (no_ending e (sym none ∙ (sym (get_other (in_context d old.entered) en j w) ∙ v)))
        new none true u v true w =
            IsPresent c p
            (ap (λ (i : ℕ). Some (InCollective c i p))
            (ap (λ (x : ℕ). length (in_context x old.entered)) (eqb-true c.context d u) ∙
            sym (eqb-true j (length (in_context d old.entered)) w)))
            (eqb-true c.context d u)

        go : (o : Option Entered) → slice_get (in_context d old.entered) j ≡ o → IsMadeOrPresent g.made d j a.waiting
        go None u = new u (c.context == d) refl here (j == length (in_context d old.entered)) refl
        go (Some y) u =
            let same : Some y ≡ Some e = sym (get_append (in_context d old.entered) (if c.context == d then en ∷ [] else []) j y u) ∙ here in
            before (h.made_all r d j y u (ap (λ (z : Entered). is_making z.part.record_is.kind) (same_Some y e same) ∙
            m))

    own_serial : g.serial (first_endpoint r) ≡ old.serial + ahead g.made (first_endpoint r) (Some (InCollective c k p))
    own_serial =
        h.serial r
        ∙ (ap (λ (w : Option Waiting). old.serial + ahead g.made (first_endpoint r) w) idle
        ∙ ap (λ (i : ℕ). old.serial + i)
        (sym (none_ahead (is_same (first_endpoint r) (first_of c.members (first_endpoint r))) refl
        (is_making p.record_is.kind) (g.made c.context k) refl)))
      where
        none_ahead : (b : Bool) → is_same (first_endpoint r) (first_of c.members (first_endpoint r)) ≡ b → (t : Bool) →
            (o : Option (List Communicator)) → g.made c.context k ≡ o →
            ahead_if (b && t) (count_made o) ≡ 0
        none_ahead false u t o v = refl
        none_ahead true u false o v = refl
        none_ahead true u true None v = refl
        none_ahead true u true (Some cs) v =
            absurd (not_made_yet n all g r sound h.were_made c k there u (get_behind (in_context c.context old.entered))
            cs v)
