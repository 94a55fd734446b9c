-- What a transport notes of round trips, as datagrams go out and come.
use Rattle.std.proofs.Common.{◌≡◌, ℕ, Bool, true, false, List, refl, sym, subst}
use Rattle.std.specs.Prelude.{Option, Some, None, Result}
use Rattle.datagram.specs.Spellings.{DatagramText}
use Rattle.datagram.specs.declared.refusal.DatagramRefusal.{DatagramRefusal}
use Rattle.round_trips.specs.Trips.{after_came, after_sent}
use Rattle.round_trips.specs.declared.round_trip.RoundTrip.{RoundTrip}

-- what is known once a datagram goes out at this time; where the time isn't known nothing is learnt
abbrev pub sent_at : List RoundTrip → Result DatagramText DatagramRefusal → Option ℕ → List RoundTrip
sent_at trips d None = trips
sent_at trips d (Some now) = after_sent trips d now

-- the same once one comes
abbrev pub came_at : List RoundTrip → Result DatagramText DatagramRefusal → Option ℕ → List RoundTrip
came_at trips d None = trips
came_at trips d (Some now) = after_came trips d now

-- of one that is held back nothing is noted
abbrev pub sent_where : (may : Bool) → List RoundTrip → Result DatagramText DatagramRefusal → Option ℕ → List RoundTrip
sent_where true trips d now = sent_at trips d now
sent_where false trips d now = trips

-- one that may go is noted
pub sent_now : (trips after : List RoundTrip) (d : Result DatagramText DatagramRefusal) (now : Option ℕ) (may : Bool) →
    may ≡ true → after ≡ sent_at trips d now → after ≡ sent_where may trips d now
sent_now trips after d now may is noted = subst (λ (b : Bool). after ≡ sent_where b trips d now) (sym is) noted

-- another one isn't
pub not_sent : (trips : List RoundTrip) (d : Result DatagramText DatagramRefusal) (now : Option ℕ) (may : Bool) →
    may ≡ false → trips ≡ sent_where may trips d now
not_sent trips d now may is = subst (λ (b : Bool). trips ≡ sent_where b trips d now) (sym is) refl
