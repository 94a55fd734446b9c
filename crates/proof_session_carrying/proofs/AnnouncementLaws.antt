-- What was announced stays announced, under its number.
use Rattle.std.proofs.Common.{◌≡◌, ℕ, zero, suc, List, [], ◌∷◌, ◌++◌, length, Some, slice_get, refl, sym, ap, ◌∙◌}
use Rattle.std.proofs.Common.{append-nil, arith, Bool, true, false, ◌&&◌, if◌then◌else◌}
use Rattle.std.proofs.lemmas.Bool.{and_from}
use Rattle.std.proofs.lemmas.List.{map-append}
use Rattle.perfect_queues.proofs.EndpointLemmas.{same_refl}
use Rattle.proof_group_network.specs.SessionContents.{Announces, Answers, BringsPart, Carried, OfMessages, OfNotices}
use Rattle.proof_pure_network.specs.Announcements.{Begins}
use Rattle.proof_pure_network.specs.Frames.{Cts, Data, Eager, Rts}
use Rattle.vocabulary.specs.Endpoints.{is_same}
use Rattle.vocabulary.specs.declared.endpoint.Endpoint.{Endpoint}
use Rattle.proof_session_carrying.specs.Announcements.{Announced, announced_by, announced_in, transfer_as, transfers_as}

-- what one announces stands before the rest
before : (x : Carried) (xs ys : List Announced) → announced_by x (xs ++ ys) ≡ announced_by x xs ++ ys
before (OfMessages (Eager c tag basic values)) xs ys = refl
before (OfMessages (Rts c tag basic k count)) xs ys = refl
before (OfMessages (Cts k wanted)) xs ys = refl
before (OfMessages (Data k offset values)) xs ys = refl
before (OfNotices i) xs ys = refl
before (Announces i) xs ys = refl
before (Answers i) xs ys = refl
before (BringsPart i part) xs ys = refl

pub announced_append : (xs ys : List Carried) → announced_in (xs ++ ys) ≡ announced_in xs ++ announced_in ys
announced_append [] ys = refl
announced_append (x ∷ xs) ys = ap (announced_by x) (announced_append xs ys) ∙
    before x (announced_in xs) (announced_in ys)

pub announced_grow : (xs ys : List Carried) → Begins xs ys → Begins (announced_in xs) (announced_in ys)
announced_grow xs ys b = (announced_in b.0, sym (announced_append xs b.0) ∙ ap announced_in b.1)

pub transfers_grow : (serial : ℕ) (xs ys : List Announced) → Begins xs ys →
    Begins (transfers_as serial xs) (transfers_as serial ys)
transfers_grow serial xs ys b =
    (transfers_as serial b.0, sym (map-append (transfer_as serial) xs b.0) ∙ ap (transfers_as serial) b.1)

-- the same list goes on with nothing
pub same_begins : {A : Type 0} (xs ys : List A) → xs ≡ ys → Begins xs ys
same_begins xs ys same = ([], append-nil xs ∙ same)

-- what stands at a place stands there in the longer list
pub begins_at : {A : Type 0} (xs ys : List A) (k : ℕ) (x : A) → Begins xs ys → slice_get xs k ≡ Some x →
    slice_get ys k ≡ Some x
begins_at {A} xs ys k x b h = sym (ap (λ (zs : List A). slice_get zs k) b.1) ∙ left_at xs b.0 k h
  where
    left_at : (xs later : List A) (k : ℕ) → slice_get xs k ≡ Some x → slice_get (xs ++ later) k ≡ Some x
    left_at [] later k h = absurd (grind arith)
    left_at (y ∷ xs) later zero h = h
    left_at (y ∷ xs) later (suc k) h = left_at xs later k h

-- the last one
pub last_at : {A : Type 0} (xs : List A) (x : A) → slice_get (xs ++ x ∷ []) (length xs) ≡ Some x
last_at [] x = refl
last_at (y ∷ xs) x = last_at xs x

-- where one of two is asked for at the place of the first
pub at_here : {A : Type 0} (s d : Endpoint) (x y : A) → (if is_same s s && is_same d d then x else y) ≡ x
at_here s d x y = go (is_same s s && is_same d d) (and_from (is_same s s) (is_same d d) (same_refl s) (same_refl d))
  where
    go : (t : Bool) → t ≡ true → (if t then x else y) ≡ x
    go true h = refl
    go false h = absurd cc
