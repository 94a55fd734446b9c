-- Messages by their bodies, and what holds of each element of a list.
use Rattle.std.proofs.Common.{◌≡◌, ℕ, zero, suc, Bool, true, false, List, [], ◌∷◌, ◌++◌, filter, remove, cond}
use Rattle.std.proofs.Common.{slice_get, Option, Some, None, refl, ap, subst, ◌⊎◌, inl, inr}
use Rattle.std.proofs.lemmas.Option.{none-some, same_Some}
use Rattle.std.specs.List.{AllByRecursion}
use Rattle.datatypes.specs.Contents.{Contents}
use Rattle.match_queues.specs.declared.envelope.Announcement.{Announcement}
use Rattle.match_queues.specs.declared.envelope.Body.{Body}
use Rattle.match_queues.specs.declared.envelope.Body.TheVariants.{Announced, Own, Whole}
use Rattle.match_queues.specs.declared.envelope.Message.{Message}
use Rattle.match_queues.specs.declared.envelope.OwnSend.{OwnSend}
use Rattle.match_queues.specs.declared.envelope.PostedReceive as queued
use Rattle.match_queues.specs.State.{State, after_arrival, after_post, arrived_at, message_at, message_for, posted_at}
use Rattle.match_queues.specs.State.{receive_for}
use Rattle.match_queues.specs.Arrivals.{arrival_at}
use Rattle.rendezvous.specs.State as transfers
use Rattle.requests.specs.declared.table.TableEntry.{TableEntry}
use Rattle.point_to_point_calls.specs.ReceiveMatches.{transfers_on_arrival}
use Rattle.vocabulary.specs.declared.message_limit.MessageLimit.{MessageLimit}

-- ---- one message

-- the message with these elements
abbrev pub whole : Message → Contents → Message
whole m c = record m { body = Whole c }

-- the message as it was announced so
abbrev pub announced_as : Message → Announcement → Message
announced_as m a = record m { body = Announced a }

-- one that is whole has its elements
pub whole_of : (m : Message) (c : Contents) → m.body ≡ Whole c → m ≡ whole m c
whole_of m c e = ap (λ (b : Body). record m { body = b }) e

-- the message as that of the rank's own send
abbrev pub own_as : Message → OwnSend → Message
own_as m o = record m { body = Own o }

-- each is whole, or was announced, or is one of the rank's own whose send waits for its match
pub by_body : (m : Message) → ((c : Contents) × (m ≡ whole m c)) ⊎
    (((a : Announcement) × (m ≡ announced_as m a)) ⊎ ((o : OwnSend) × (m ≡ own_as m o)))
by_body m = go m.body
  where
    go : (b : Body) → ((c : Contents) × (record m { body = b } ≡ whole m c)) ⊎
        (((a : Announcement) × (record m { body = b } ≡ announced_as m a)) ⊎
        ((o : OwnSend) × (record m { body = b } ≡ own_as m o)))
    go (Whole c) = inl (c, refl)
    go (Announced a) = inr (inl (a, refl))
    go (Own o) = inr (inr (o, refl))

-- ---- the elements of a list

-- the one at a place
pub at_place : {A : Type 0} (P : A → Type 0) (xs : List A) (i : ℕ) (x : A) → AllByRecursion P xs →
    slice_get xs i ≡ Some x → P x
at_place P [] zero x h e = absurd (none-some x e)
at_place P [] (suc i) x h e = absurd (none-some x e)
at_place P (y ∷ ys) zero x h e = subst P (same_Some y x e) h.0
at_place P (y ∷ ys) (suc i) x h e = at_place P ys i x h.1 e

-- those that are left once one is taken out
pub removed : {A : Type 0} (P : A → Type 0) (xs : List A) (i : ℕ) → AllByRecursion P xs → AllByRecursion P (remove xs i)
removed P [] zero h = tt
removed P [] (suc i) h = tt
removed P (x ∷ xs) zero h = h.1
removed P (x ∷ xs) (suc i) h = (h.0, removed P xs i h.1)

-- those that are kept
pub filtered : {A : Type 0} (P : A → Type 0) (p : A → Bool) (xs : List A) → AllByRecursion P xs →
    AllByRecursion P (filter p xs)
filtered P p [] h = tt
filtered P p (x ∷ xs) h = go (p x) (filtered P p xs h.1)
  where
    go : (b : Bool) → AllByRecursion P (filter p xs) → AllByRecursion P (cond b (x ∷ filter p xs) (filter p xs))
    go true rest = (h.0, rest)
    go false rest = rest

-- one more
pub pushed : {A : Type 0} (P : A → Type 0) (xs : List A) (x : A) → AllByRecursion P xs → P x →
    AllByRecursion P (xs ++ x ∷ [])
pushed P [] x h w = (w, tt)
pushed P (y ∷ ys) x h w = (h.0, pushed P ys x h.1 w)

-- ---- messages that wait

-- the one that was found
pub found_at : (P : Message → Type 0) (ms : List Message) (o : Option ℕ) (m : Message) → AllByRecursion P ms →
    message_at ms o ≡ Some m → P m
found_at P ms None m h e = absurd (none-some m e)
found_at P ms (Some i) m h e = at_place P ms i m h e

-- a receive is posted
pub post_leaves : (P : Message → Type 0) (s : State) (r : queued.PostedReceive) → AllByRecursion P s.unexpected →
    AllByRecursion P (after_post s r).unexpected
post_leaves P s r h = go (message_for r s.unexpected)
  where
    go : (o : Option ℕ) → AllByRecursion P (posted_at o s r).unexpected
    go None = h
    go (Some i) = removed P s.unexpected i h

-- a message comes
pub arrival_keeps : (P : Message → Type 0) (s : State) (m : Message) → AllByRecursion P s.unexpected → P m →
    AllByRecursion P (after_arrival s m).unexpected
arrival_keeps P s m h w = go (receive_for m s.posted)
  where
    go : (o : Option ℕ) → AllByRecursion P (arrived_at o s m).unexpected
    go None = pushed P s.unexpected m h w
    go (Some i) = h

-- a whole one leaves the transfers as they were
pub arrival_leaves : (limit : MessageLimit) (t : transfers.State) (slots : List (Option TableEntry)) (m : Message)
    (c : Contents)
    (o : Option queued.PostedReceive) →
    transfers_on_arrival limit t slots (arrival_at o (whole m c)) ≡ t
arrival_leaves limit t slots m c None = refl
arrival_leaves limit t slots m c (Some r) = refl
