-- The courses of messages, and what is collected.
use Rattle.std.proofs.Common.{◌≡◌, ◌≢◌, ℕ, zero, suc, Bool, true, false, not, ◌&&◌, cond, List, [], ◌∷◌, ◌++◌, length}
use Rattle.std.proofs.Common.{map, filter, set, Option, Some, None, refl, sym, ap, ◌∙◌, subst, inl, inr}
use Rattle.std.specs.Prelude.{◌==◌, slice_get, IfSome}
use Rattle.std.proofs.lemmas.Bool.{eqb-true, and_parts, and_from, and_left, and_right, false≢true}
use Rattle.std.proofs.lemmas.List.{append-nil}
use Rattle.std.specs.Option.{option_map}
use Rattle.std.proofs.lemmas.Option.{slice_get-map}
use Rattle.std.proofs.lemmas.Grind.{flat_map-append}
use Rattle.rendezvous.specs.declared.collection.Collected.{Collected}
use Rattle.rendezvous.specs.Collections.{Collecting, beginning, is_from, with_piece, is_whole}
use Rattle.rendezvous.specs.WholeMessages.{collected_of}
use Rattle.rendezvous.specs.State.{State, collection_for, with_data_at, given_at, put_back, handed_out, is_due}
use Rattle.rendezvous.specs.State.{is_full_to, is_full_from, given, after_begin, after_payload, after_rts}
use Rattle.rendezvous.specs.State.{after_data, blank}
use Rattle.rendezvous.specs.Events.{Event, Begins, BeginsPayload, Announces, Collects, Answers, Brings, Drops, after, handed_out_by}
use Rattle.rendezvous.specs.Events.{opening}
use Rattle.rendezvous.specs.Courses.{Stage, Waiting, Given, Dropped, Course, is_waiting, bytes_so_far, waits_for}
use Rattle.rendezvous.specs.Courses.{one_more, taken_by_first, dropped_with, Told, courses_after, told_after, told}
use Rattle.rendezvous.specs.Courses.{story, waiting_among, IsHandedOut, NoneWaits, IsWholeOrNothing}
use Rattle.rendezvous.proofs.Firsts.{NonePass, IsFirst, first_or_none}

-- WHAT IS COLLECTED, WITHOUT PLACES

-- the first one from a rank with a number takes the piece
abbrev pushed : (source transfer : ℕ) → List ℕ → List Collecting → List Collecting
pushed source transfer piece [] = []
pushed source transfer piece (c ∷ cs) =
    cond (is_from source transfer c) (cond (is_whole (with_piece c piece)) cs (with_piece c piece ∷ cs))
    (c ∷ pushed source transfer piece cs)

-- what is handed out then
abbrev told_by : (source transfer : ℕ) → List ℕ → List Collecting → Option Collected
told_by source transfer piece [] = None
told_by source transfer piece (c ∷ cs) =
    cond (is_from source transfer c) (handed_out (with_piece c piece)) (told_by source transfer piece cs)

none_pushed : (source transfer : ℕ) (piece : List ℕ) (cs : List Collecting) → NonePass (is_from source transfer) cs →
    pushed source transfer piece cs ≡ cs
none_pushed source transfer piece [] h = refl
none_pushed source transfer piece (c ∷ cs) h =
    ap (λ (b : Bool). cond b (cond (is_whole (with_piece c piece)) cs (with_piece c piece ∷ cs))
    (c ∷ pushed source transfer piece cs)) h.0
    ∙ ap (λ t. c ∷ t) (none_pushed source transfer piece cs h.1)

none_told : (source transfer : ℕ) (piece : List ℕ) (cs : List Collecting) → NonePass (is_from source transfer) cs →
    told_by source transfer piece cs ≡ None
none_told source transfer piece [] h = refl
none_told source transfer piece (c ∷ cs) h =
    ap (λ (b : Bool). cond b (handed_out (with_piece c piece)) (told_by source transfer piece cs)) h.0 ∙
    none_told source transfer piece cs h.1

first_pushed : (source transfer : ℕ) (piece : List ℕ) (front back : List Collecting) (c : Collecting) →
    NonePass (is_from source transfer) front → is_from source transfer c ≡ true →
    pushed source transfer piece (front ++ c ∷ back) ≡
    cond (is_whole (with_piece c piece)) (front ++ back) (front ++ with_piece c piece ∷ back)
first_pushed source transfer piece [] back c h is =
    ap (λ (b : Bool). cond b (cond (is_whole (with_piece c piece)) back (with_piece c piece ∷ back))
    (c ∷ pushed source transfer piece back)) is
first_pushed source transfer piece (f ∷ fs) back c h is =
    ap (λ (b : Bool). cond b
    (cond (is_whole (with_piece f piece)) (fs ++ c ∷ back) (with_piece f piece ∷ (fs ++ c ∷ back)))
    (f ∷ pushed source transfer piece (fs ++ c ∷ back))) h.0
    ∙ ap (λ t. f ∷ t) (first_pushed source transfer piece fs back c h.1 is)
    ∙ inside (is_whole (with_piece c piece)) f (fs ++ back) (fs ++ with_piece c piece ∷ back)
  where
    inside : (b : Bool) (x : Collecting) (xs ys : List Collecting) → x ∷ cond b xs ys ≡ cond b (x ∷ xs) (x ∷ ys)
    inside true x xs ys = refl
    inside false x xs ys = refl

first_told : (source transfer : ℕ) (piece : List ℕ) (front back : List Collecting) (c : Collecting) →
    NonePass (is_from source transfer) front → is_from source transfer c ≡ true →
    told_by source transfer piece (front ++ c ∷ back) ≡ handed_out (with_piece c piece)
first_told source transfer piece [] back c h is =
    ap (λ (b : Bool). cond b (handed_out (with_piece c piece)) (told_by source transfer piece back)) is
first_told source transfer piece (f ∷ fs) back c h is =
    ap (λ (b : Bool). cond b (handed_out (with_piece f piece)) (told_by source transfer piece (fs ++ c ∷ back))) h.0
    ∙ first_told source transfer piece fs back c h.1 is

pub data_pushed : (source transfer : ℕ) (piece : List ℕ) (cs : List Collecting) →
    with_data_at cs (collection_for source transfer cs) piece ≡ pushed source transfer piece cs
data_pushed source transfer piece cs =
    elim (first_or_none (is_from source transfer) cs) [
      | inl h ↦ ap (λ (o : Option ℕ). with_data_at cs o piece) h.0 ∙ sym (none_pushed source transfer piece cs h.1)
      | inr h ↦ found h.0 h.1 h.2
    ]
  where
    found : (i : ℕ) (c : Collecting) → IsFirst (is_from source transfer) cs i c →
        with_data_at cs (collection_for source transfer cs) piece ≡ pushed source transfer piece cs
    found i c h =
        ap (λ (o : Option ℕ). with_data_at cs o piece) h.place
        ∙ ap (λ (x : Collecting). put_back cs i (with_piece x piece)) (h.read blank)
        ∙ ap (λ (xs : List Collecting). cond (is_whole (with_piece c piece)) xs (set cs i (with_piece c piece)))
        h.removed
        ∙ ap (λ (xs : List Collecting). cond (is_whole (with_piece c piece)) (h.front ++ h.back) xs)
        (h.written (with_piece c piece))
        ∙ sym (first_pushed source transfer piece h.front h.back c h.before h.passes)
        ∙ ap (pushed source transfer piece) (sym h.parts)

pub data_told : (source transfer : ℕ) (piece : List ℕ) (cs : List Collecting) →
    given_at cs (collection_for source transfer cs) piece ≡ told_by source transfer piece cs
data_told source transfer piece cs =
    elim (first_or_none (is_from source transfer) cs) [
      | inl h ↦ ap (λ (o : Option ℕ). given_at cs o piece) h.0 ∙ sym (none_told source transfer piece cs h.1)
      | inr h ↦ found h.0 h.1 h.2
    ]
  where
    found : (i : ℕ) (c : Collecting) → IsFirst (is_from source transfer) cs i c →
        given_at cs (collection_for source transfer cs) piece ≡ told_by source transfer piece cs
    found i c h =
        ap (λ (o : Option ℕ). given_at cs o piece) h.place
        ∙ ap (λ (x : Collecting). handed_out (with_piece x piece)) (h.read blank)
        ∙ sym (first_told source transfer piece h.front h.back c h.before h.passes)
        ∙ ap (told_by source transfer piece) (sym h.parts)

-- COURSES THAT WAIT

-- what is collected for a course
abbrev seen : Course → Collecting
seen c = record {
  limit = c.limit;
  source = c.source;
  transfer = c.transfer;
  request = c.request;
  basic = c.basic;
  total =
      c.total;
  bytes = bytes_so_far c.pieces;
}

more_bytes : (pieces : List (List ℕ)) (piece : List ℕ) → bytes_so_far (pieces ++ piece ∷ []) ≡ bytes_so_far pieces ++
    piece
more_bytes pieces piece =
    flat_map-append (λ p. p) pieces (piece ∷ []) ∙ ap (λ (t : List ℕ). bytes_so_far pieces ++ t) (append-nil piece)

-- what is seen of a course with one more piece
seen_more : (c : Course) (piece : List ℕ) → seen (record c { pieces = c.pieces ++ piece ∷ [] }) ≡
    with_piece (seen c) piece
seen_more c piece = ap (λ (t : List ℕ). record (seen c) { bytes = t }) (more_bytes c.pieces piece)

-- with the last piece a course waits no more
full_case : (whole : Bool) (c : Course) (piece : List ℕ) (rest : List Collecting) →
    cond (is_waiting (cond whole Given Waiting)) (seen (record c { pieces = c.pieces ++ piece ∷ [] }) ∷ rest) rest ≡
    cond whole rest (with_piece (seen c) piece ∷ rest)
full_case true c piece rest = refl
full_case false c piece rest = ap (λ (x : Collecting). x ∷ rest) (seen_more c piece)

-- one step of both lists, over free tests
one_taken : (w m : Bool) (source transfer : ℕ) (piece : List ℕ) (c : Course) (cs : List Course) →
    is_waiting c.stage ≡ w → is_from source transfer (seen c) ≡ m →
    waiting_among (taken_by_first source transfer piece cs) ≡ pushed source transfer piece (waiting_among cs) →
    waiting_among (taken_by_first source transfer piece (c ∷ cs)) ≡
    pushed source transfer piece (waiting_among (c ∷ cs))
one_taken true true source transfer piece c cs ew em ih =
    let rest = waiting_among cs in
    ap (λ (b : Bool). waiting_among (cond b (one_more c piece ∷ cs) (c ∷ taken_by_first source transfer piece cs)))
    (and_from _ _ ew em)
    ∙ full_case (is_whole (with_piece (seen c) piece)) c piece rest
    ∙ sym (ap
    (λ (b : Bool). cond b (cond (is_whole (with_piece (seen c) piece)) rest (with_piece (seen c) piece ∷ rest))
    (seen c ∷ pushed source transfer piece rest)) em)
    ∙ sym (ap (λ (b : Bool). pushed source transfer piece (cond b (seen c ∷ rest) rest)) ew)
one_taken true false source transfer piece c cs ew em ih =
    let rest = waiting_among cs in
    let after_it = waiting_among (taken_by_first source transfer piece cs) in
    ap (λ (b : Bool). waiting_among (cond b (one_more c piece ∷ cs) (c ∷ taken_by_first source transfer piece cs)))
    (and_right _ _ em)
    ∙ ap (λ (b : Bool). cond b (seen c ∷ after_it) after_it) ew
    ∙ ap (λ (t : List Collecting). seen c ∷ t) ih
    ∙ sym (ap
    (λ (b : Bool). cond b (cond (is_whole (with_piece (seen c) piece)) rest (with_piece (seen c) piece ∷ rest))
    (seen c ∷ pushed source transfer piece rest)) em)
    ∙ sym (ap (λ (b : Bool). pushed source transfer piece (cond b (seen c ∷ rest) rest)) ew)
one_taken false m source transfer piece c cs ew em ih =
    let rest = waiting_among cs in
    let after_it = waiting_among (taken_by_first source transfer piece cs) in
    ap (λ (b : Bool). waiting_among (cond b (one_more c piece ∷ cs) (c ∷ taken_by_first source transfer piece cs)))
    (and_left _ _ ew)
    ∙ ap (λ (b : Bool). cond b (seen c ∷ after_it) after_it) ew
    ∙ ih
    ∙ sym (ap (λ (b : Bool). pushed source transfer piece (cond b (seen c ∷ rest) rest)) ew)

-- what waits after a piece has come
waiting_taken : (source transfer : ℕ) (piece : List ℕ) (cs : List Course) →
    waiting_among (taken_by_first source transfer piece cs) ≡ pushed source transfer piece (waiting_among cs)
waiting_taken source transfer piece [] = refl
waiting_taken source transfer piece (c ∷ cs) =
    one_taken (is_waiting c.stage) (is_from source transfer (seen c)) source transfer piece c cs refl refl
    (waiting_taken source transfer piece cs)

-- WHAT IS HANDED OUT

waits : (s : Stage) → is_waiting s ≡ true → s ≡ Waiting
waits Waiting e = refl
waits Given e = absurd (false≢true e)
waits Dropped e = absurd (false≢true e)

waits_not : (s : Stage) → s ≢ Waiting → is_waiting s ≡ false
waits_not Waiting h = absurd (h refl)
waits_not Given h = refl
waits_not Dropped h = refl

some_is : {A : Type 0} (x y : A) → Some x ≡ Some y → x ≡ y
some_is x y e = cc

none_is_not : {A : Type 0} (x : A) → None ≡ Some x → ⊥
none_is_not x e = cc

-- behind one more course
behind : (old new : List Course) (c : Course) (out : Collected) → IsHandedOut old new out →
    IsHandedOut (c ∷ old) (c ∷ new) out
behind old new c out h = record {
  place = suc h.place;
  course = h.course;
  piece = h.piece;
  before = h.before;
  waited = h.waited;
  now = h.now;
  whole = h.whole;
  message = h.message;
}

-- the first course that waits for it is handed out, where it is whole
first_handed : (whole : Bool) (source transfer : ℕ) (piece : List ℕ) (c : Course) (cs : List Course) (out : Collected) →
    is_waiting c.stage ≡ true → is_from source transfer (seen c) ≡ true → is_whole (with_piece (seen c) piece) ≡ whole →
    handed_out (with_piece (seen c) piece) ≡ Some out →
    IsHandedOut (c ∷ cs) (taken_by_first source transfer piece (c ∷ cs)) out
first_handed false source transfer piece c cs out ew em eq h =
    absurd (none_is_not out (sym (ap (λ (b : Bool). cond b (Some (collected_of (with_piece (seen c) piece))) None) eq) ∙
    h))
first_handed true source transfer piece c cs out ew em eq h =
    let message : collected_of (with_piece (seen c) piece) ≡ out = some_is _ _ (sym (ap (λ (b : Bool). cond b (Some (collected_of (with_piece (seen c) piece))) None) eq) ∙ h) in
    record {
      place = 0;
      course = c;
      piece = piece;
      before = refl;
      waited = waits c.stage ew;
      now = ap (λ (b : Bool). slice_get (cond b (one_more c piece ∷ cs) (c ∷ taken_by_first source transfer piece cs))
          0) (and_from _ _ ew em)
          ∙ ap (λ (b : Bool). Some (record c { pieces = c.pieces ++ piece ∷ []; stage = cond b Given Waiting })) eq;
      whole = ap length (more_bytes c.pieces piece) ∙ eqb-true _ _ eq;
      message = sym message
          ∙ ap (λ (t : List ℕ). collected_of (record (seen c) { bytes = t })) (sym (more_bytes c.pieces piece));
    }

one_handed : (w m : Bool) (source transfer : ℕ) (piece : List ℕ) (c : Course) (cs : List Course) (out : Collected) →
    is_waiting c.stage ≡ w → is_from source transfer (seen c) ≡ m →
    (told_by source transfer piece (waiting_among cs) ≡ Some out →
    IsHandedOut cs (taken_by_first source transfer piece cs) out) →
    told_by source transfer piece (waiting_among (c ∷ cs)) ≡ Some out →
    IsHandedOut (c ∷ cs) (taken_by_first source transfer piece (c ∷ cs)) out
one_handed true true source transfer piece c cs out ew em ih h =
    let rest = waiting_among cs in
    let said : handed_out (with_piece (seen c) piece) ≡ Some out =
    sym (ap (λ (b : Bool). cond b (handed_out (with_piece (seen c) piece)) (told_by source transfer piece rest)) em)
    ∙ sym (ap (λ (b : Bool). told_by source transfer piece (cond b (seen c ∷ rest) rest)) ew)
    ∙ h
    in
    first_handed (is_whole (with_piece (seen c) piece)) source transfer piece c cs out ew em refl said
one_handed true false source transfer piece c cs out ew em ih h =
    let rest = waiting_among cs in
    let said : told_by source transfer piece rest ≡ Some out =
    sym (ap (λ (b : Bool). cond b (handed_out (with_piece (seen c) piece)) (told_by source transfer piece rest)) em)
    ∙ sym (ap (λ (b : Bool). told_by source transfer piece (cond b (seen c ∷ rest) rest)) ew)
    ∙ h
    in
    let same : taken_by_first source transfer piece (c ∷ cs) ≡ c ∷ taken_by_first source transfer piece cs =
    ap (λ (b : Bool). cond b (one_more c piece ∷ cs) (c ∷ taken_by_first source transfer piece cs)) (and_right _ _ em)
    in
    subst (λ (new : List Course). IsHandedOut (c ∷ cs) new out) (sym same)
    (behind cs (taken_by_first source transfer piece cs) c out (ih said))
one_handed false m source transfer piece c cs out ew em ih h =
    let rest = waiting_among cs in
    let said : told_by source transfer piece rest ≡ Some out =
    sym (ap (λ (b : Bool). told_by source transfer piece (cond b (seen c ∷ rest) rest)) ew) ∙ h
    in
    let same : taken_by_first source transfer piece (c ∷ cs) ≡ c ∷ taken_by_first source transfer piece cs =
    ap (λ (b : Bool). cond b (one_more c piece ∷ cs) (c ∷ taken_by_first source transfer piece cs)) (and_left _ _ ew)
    in
    subst (λ (new : List Course). IsHandedOut (c ∷ cs) new out) (sym same)
    (behind cs (taken_by_first source transfer piece cs) c out (ih said))

handed : (source transfer : ℕ) (piece : List ℕ) (cs : List Course) (out : Collected) →
    told_by source transfer piece (waiting_among cs) ≡ Some out →
    IsHandedOut cs (taken_by_first source transfer piece cs) out
handed source transfer piece [] out h = absurd (none_is_not out h)
handed source transfer piece (c ∷ cs) out h =
    one_handed (is_waiting c.stage) (is_from source transfer (seen c)) source transfer piece c cs out refl refl
    (handed source transfer piece cs out) h

-- A COURSE THAT DOESN'T WAIT STAYS

stays_appended : (cs : List Course) (x c : Course) (i : ℕ) → slice_get cs i ≡ Some c →
    slice_get (cs ++ x ∷ []) i ≡ Some c
stays_appended [] x c i h = absurd (none_is_not c h)
stays_appended (y ∷ ys) x c zero h = h
stays_appended (y ∷ ys) x c (suc i) h = stays_appended ys x c i h

one_stays : (b : Bool) (source transfer : ℕ) (piece : List ℕ) (x c : Course) (xs : List Course) →
    waits_for source transfer x ≡ b → x ≡ c → c.stage ≢ Waiting →
    slice_get (taken_by_first source transfer piece (x ∷ xs)) 0 ≡ Some c
one_stays true source transfer piece x c xs e same h =
    absurd (h (ap (λ (y : Course). y.stage) (sym same) ∙ waits x.stage (and_parts _ _ e).0))
one_stays false source transfer piece x c xs e same h =
    ap (λ (b : Bool). slice_get (cond b (one_more x piece ∷ xs) (x ∷ taken_by_first source transfer piece xs)) 0) e ∙
    ap (λ (y : Course). Some y) same

later_stays : (b : Bool) (source transfer : ℕ) (piece : List ℕ) (x c : Course) (xs : List Course) (i : ℕ) →
    waits_for source transfer x ≡ b → slice_get xs i ≡ Some c → slice_get (taken_by_first source transfer piece xs) i ≡
    Some c → slice_get (taken_by_first source transfer piece (x ∷ xs)) (suc i) ≡ Some c
later_stays true source transfer piece x c xs i e h ih =
    ap (λ (b : Bool). slice_get (cond b (one_more x piece ∷ xs) (x ∷ taken_by_first source transfer piece xs)) (suc i))
    e ∙ h
later_stays false source transfer piece x c xs i e h ih =
    ap (λ (b : Bool). slice_get (cond b (one_more x piece ∷ xs) (x ∷ taken_by_first source transfer piece xs)) (suc i))
    e ∙ ih

stays_taken : (source transfer : ℕ) (piece : List ℕ) (cs : List Course) (c : Course) (i : ℕ) → slice_get cs i ≡ Some c →
    c.stage ≢ Waiting → slice_get (taken_by_first source transfer piece cs) i ≡ Some c
stays_taken source transfer piece [] c i h n = absurd (none_is_not c h)
stays_taken source transfer piece (x ∷ xs) c zero h n =
    one_stays (waits_for source transfer x) source transfer piece x c xs refl (some_is x c h) n
stays_taken source transfer piece (x ∷ xs) c (suc i) h n =
    later_stays (waits_for source transfer x) source transfer piece x c xs i refl h
    (stays_taken source transfer piece xs c i h n)

stays_dropped : (rank : ℕ) (cs : List Course) (c : Course) (i : ℕ) → slice_get cs i ≡ Some c → c.stage ≢ Waiting →
    slice_get (map (dropped_with rank) cs) i ≡ Some c
stays_dropped rank cs c i h n =
    slice_get-map (dropped_with rank) cs i
    ∙ ap (option_map (dropped_with rank)) h
    ∙ ap (λ (b : Bool). Some (cond b (record c { stage = Dropped }) c))
    (and_left (is_waiting c.stage) (c.source == rank) (waits_not c.stage n))

stays_by : (b : Bool) (old new : List Course) (c : Course) (i : ℕ) → slice_get old i ≡ Some c →
    slice_get new i ≡ Some c → slice_get (cond b new old) i ≡ Some c
stays_by true old new c i h k = k
stays_by false old new c i h k = h

stays : (t : Told) (e : Event) (c : Course) (i : ℕ) → slice_get t.courses i ≡ Some c → c.stage ≢ Waiting →
    slice_get (courses_after t e) i ≡ Some c
stays t (Begins rank request elements) c i h n = h
stays t (BeginsPayload rank) c i h n = h
stays t (Announces rank) c i h n = h
stays t (Collects limit source transfer request basic count) c i h n = stays_appended t.courses _ c i h
stays t (Answers rank transfer) c i h n = h
stays t (Brings source transfer offset piece) c i h n =
    stays_by (is_due t.state.collections source transfer offset piece) t.courses
    (taken_by_first source transfer piece t.courses) c i h (stays_taken source transfer piece t.courses c i h n)
stays t (Drops rank) c i h n = stays_dropped rank t.courses c i h n

stays_always : (later : List Event) (t : Told) (c : Course) (i : ℕ) → slice_get t.courses i ≡ Some c →
    c.stage ≢ Waiting → slice_get (told t later).courses i ≡ Some c
stays_always [] t c i h n = h
stays_always (e ∷ es) t c i h n = stays_always es (told_after t e) c i (stays t e c i h n) n

-- WHAT IS COLLECTED IS WHAT WAITS

waiting_appended : (cs : List Course) (c : Course) → c.stage ≡ Waiting → waiting_among (cs ++ c ∷ []) ≡
    waiting_among cs ++ seen c ∷ []
waiting_appended [] c e = ap (λ (s : Stage). cond (is_waiting s) (seen c ∷ []) []) e
waiting_appended (x ∷ xs) c e =
    ap (λ (t : List Collecting). cond (is_waiting x.stage) (seen x ∷ t) t) (waiting_appended xs c e)
    ∙ sym (appended (is_waiting x.stage) (seen x) (waiting_among xs) (seen c ∷ []))
  where
    appended : (b : Bool) (y : Collecting) (ys zs : List Collecting) →
        cond b (y ∷ ys) ys ++ zs ≡ cond b (y ∷ (ys ++ zs)) (ys ++ zs)
    appended true y ys zs = refl
    appended false y ys zs = refl

one_dropped : (w e : Bool) (rank : ℕ) (c : Course) (cs : List Course) → is_waiting c.stage ≡ w →
    (c.source == rank) ≡ e → waiting_among (map (dropped_with rank) cs) ≡
    filter (λ x. not (x.source == rank)) (waiting_among cs) → waiting_among (map (dropped_with rank) (c ∷ cs)) ≡
    filter (λ x. not (x.source == rank)) (waiting_among (c ∷ cs))
one_dropped true true rank c cs ew es ih =
    let rest = waiting_among cs in
    let out = filter (λ (x : Collecting). not (x.source == rank)) rest in
    ap (λ (b : Bool). waiting_among (cond b (record c { stage = Dropped }) c ∷ map (dropped_with rank) cs))
    (and_from _ _ ew es)
    ∙ ih
    ∙ sym (ap (λ (b : Bool). cond (not b) (seen c ∷ out) out) es)
    ∙ sym (ap (λ (b : Bool). filter (λ (x : Collecting). not (x.source == rank)) (cond b (seen c ∷ rest) rest)) ew)
one_dropped true false rank c cs ew es ih =
    let rest = waiting_among cs in
    let out = filter (λ (x : Collecting). not (x.source == rank)) rest in
    let kept = waiting_among (map (dropped_with rank) cs) in
    ap (λ (b : Bool). waiting_among (cond b (record c { stage = Dropped }) c ∷ map (dropped_with rank) cs))
    (and_right _ _ es)
    ∙ ap (λ (b : Bool). cond b (seen c ∷ kept) kept) ew
    ∙ ap (λ (t : List Collecting). seen c ∷ t) ih
    ∙ sym (ap (λ (b : Bool). cond (not b) (seen c ∷ out) out) es)
    ∙ sym (ap (λ (b : Bool). filter (λ (x : Collecting). not (x.source == rank)) (cond b (seen c ∷ rest) rest)) ew)
one_dropped false e rank c cs ew es ih =
    let rest = waiting_among cs in
    let kept = waiting_among (map (dropped_with rank) cs) in
    ap (λ (b : Bool). waiting_among (cond b (record c { stage = Dropped }) c ∷ map (dropped_with rank) cs))
    (and_left _ _ ew)
    ∙ ap (λ (b : Bool). cond b (seen c ∷ kept) kept) ew
    ∙ ih
    ∙ sym (ap (λ (b : Bool). filter (λ (x : Collecting). not (x.source == rank)) (cond b (seen c ∷ rest) rest)) ew)

waiting_dropped : (rank : ℕ) (cs : List Course) → waiting_among (map (dropped_with rank) cs) ≡
    filter (λ x. not (x.source == rank)) (waiting_among cs)
waiting_dropped rank [] = refl
waiting_dropped rank (c ∷ cs) =
    one_dropped (is_waiting c.stage) (c.source == rank) rank c cs refl refl (waiting_dropped rank cs)

none_waits : (rank : ℕ) (cs : List Course) → NoneWaits rank (map (dropped_with rank) cs)
none_waits rank [] = tt
none_waits rank (c ∷ cs) = (here (is_waiting c.stage && (c.source == rank)) refl, none_waits rank cs)
  where
    here : (b : Bool) → (is_waiting c.stage && (c.source == rank)) ≡ b →
        (is_waiting (cond b (record c { stage = Dropped }) c).stage &&
        ((cond b (record c { stage = Dropped }) c).source == rank)) ≡ false
    here true e = refl
    here false e = e

-- a test that changes nothing of what is collected
either : (b : Bool) (s u : State) → u.collections ≡ s.collections → s.collections ≡ (cond b s u).collections
either true s u e = refl
either false s u e = sym e

brought : (b : Bool) (s : State) (source transfer : ℕ) (piece : List ℕ) (cs : List Course) →
    waiting_among cs ≡ s.collections → waiting_among (cond b (taken_by_first source transfer piece cs) cs) ≡
    (cond b (after_data s source transfer piece) s).collections
brought true s source transfer piece cs m =
    waiting_taken source transfer piece cs ∙ ap (pushed source transfer piece) m ∙
    sym (data_pushed source transfer piece s.collections)
brought false s source transfer piece cs m = m

mirrors : (t : Told) (e : Event) → waiting_among t.courses ≡ t.state.collections → waiting_among (courses_after t e) ≡
    (after t.state e).collections
mirrors t (Begins rank request elements) m =
    m ∙ either (is_full_to t.state.numbers rank) t.state (after_begin t.state rank request elements) refl
mirrors t (BeginsPayload rank) m =
    m ∙ either (is_full_to t.state.numbers rank) t.state (after_payload t.state rank) refl
mirrors t (Announces rank) m = m ∙ either (is_full_from t.state.numbers rank) t.state (after_rts t.state rank) refl
mirrors t (Collects limit source transfer request basic count) m =
    waiting_appended t.courses _ refl ∙
    ap (λ (xs : List Collecting). xs ++ beginning limit source transfer request basic count ∷ []) m
mirrors t (Answers rank transfer) m = m
mirrors t (Brings source transfer offset piece) m =
    brought (is_due t.state.collections source transfer offset piece) t.state source transfer piece t.courses m
mirrors t (Drops rank) m = waiting_dropped rank t.courses ∙ ap (filter (λ x. not (x.source == rank))) m

mirrors_always : (events : List Event) (t : Told) → waiting_among t.courses ≡ t.state.collections →
    waiting_among (told t events).courses ≡ (told t events).state.collections
mirrors_always [] t m = m
mirrors_always (e ∷ es) t m = mirrors_always es (told_after t e) (mirrors t e m)

-- what was handed out, by what it was
by_what : (o : Option Collected) (s : State) (source transfer : ℕ) (piece : List ℕ) (cs : List Course) →
    waiting_among cs ≡ s.collections → given s source transfer piece ≡ o →
    IfSome o (IsHandedOut cs (taken_by_first source transfer piece cs))
by_what None s source transfer piece cs m e = tt
by_what (Some out) s source transfer piece cs m e =
    handed source transfer piece cs out (ap (told_by source transfer piece) m ∙
    sym (data_told source transfer piece s.collections) ∙ e)

by_test : (b : Bool) (s : State) (source transfer : ℕ) (piece : List ℕ) (cs : List Course) →
    waiting_among cs ≡ s.collections →
    IfSome (cond b (given s source transfer piece) None)
    (IsHandedOut cs (cond b (taken_by_first source transfer piece cs) cs))
by_test true s source transfer piece cs m = by_what (given s source transfer piece) s source transfer piece cs m refl
by_test false s source transfer piece cs m = tt

all_handed : (t : Told) (e : Event) → waiting_among t.courses ≡ t.state.collections →
    IfSome (handed_out_by t.state e) (IsHandedOut t.courses (courses_after t e))
all_handed t (Begins rank request elements) m = tt
all_handed t (BeginsPayload rank) m = tt
all_handed t (Announces rank) m = tt
all_handed t (Collects limit source transfer request basic count) m = tt
all_handed t (Answers rank transfer) m = tt
all_handed t (Brings source transfer offset piece) m =
    by_test (is_due t.state.collections source transfer offset piece) t.state source transfer piece t.courses m
all_handed t (Drops rank) m = tt

pub whole_or_nothing : (ranks : ℕ) (events : List Event) → IsWholeOrNothing (story ranks events)
whole_or_nothing ranks events =
    let t = story ranks events in
    let m = mirrors_always events (record { state = opening ranks; courses = [] }) refl in
    record {
      collected = m;
      handed = λ e. all_handed t e m;
      once = λ later place c h n. stays_always later t c place h n;
      dropped = λ rank. none_waits rank t.courses;
    }
