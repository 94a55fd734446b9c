-- Offers are handed out once.
use Rattle.std.specs.Prelude.{◌≡◌, ℕ, ◌==◌, Bool, false, Some, None, List, [], ◌∷◌}
use Rattle.rendezvous.specs.declared.offer.Offer.{Offer}
use Rattle.rendezvous.specs.State.{State, offered, after_cts}
use Rattle.rendezvous.specs.Events.{Event, Begins, BeginsPayload, Announces, Collects, Answers, Brings, Drops, after}

-- what a rank knows after a list of events
abbrev pub after_all : State → List Event → State
after_all s [] = s
after_all s (e ∷ es) = after_all (after s e) es

-- whether the rank is known at a new incarnation by this event
abbrev pub is_drop_of : (rank : ℕ) → Event → Bool
is_drop_of rank (Begins r request elements) = false
is_drop_of rank (BeginsPayload r) = false
is_drop_of rank (Announces r) = false
is_drop_of rank (Collects limit source transfer request basic count) = false
is_drop_of rank (Answers r transfer) = false
is_drop_of rank (Brings source transfer offset piece) = false
is_drop_of rank (Drops r) = r == rank

-- the session with the rank goes on in these events
abbrev pub GoesOn : (rank : ℕ) → List Event → Type 0
GoesOn rank [] = Unit {0}
GoesOn rank (e ∷ es) = (is_drop_of rank e ≡ false) × GoesOn rank es

-- a second answer to an offer finds none, and neither does any later one in the session
pub record AreAnsweredOnce (s : State) : Type 0 where
  pub second : (rank transfer : ℕ) → offered (after_cts s rank transfer) rank transfer ≡ None
  pub later : (rank transfer : ℕ) (o : Offer) (events : List Event) → GoesOn rank events →
      offered s rank transfer ≡ Some o → offered (after_all (after_cts s rank transfer) events) rank transfer ≡ None
