-- What a transport over ports makes of what is handed to it.
use Rattle.std.specs.Prelude.{◌≡◌, ℕ, ◌+◌, ◌⊎◌, min, List, [], ◌∷◌, ◌++◌, map, Bool, not, is_some, Option, Some, None}
use Rattle.std.specs.Prelude.{IsSomeAnd, nat_le, ◌||◌, if◌then◌else◌, true}
use Rattle.std.specs.List.{filter}
use Rattle.std.specs.declared.time.Instant.{Instant}
use Rattle.delayed_acknowledgements.specs.Acknowledgements.{Covers, IsUrgent, short_acknowledgement}
use Rattle.delayed_acknowledgements.specs.declared.acknowledgements.Acknowledgement.{Acknowledgement}
use Rattle.delayed_acknowledgements.specs.declared.delay.Delay.{Delay}
use Rattle.delayed_acknowledgements.specs.declared.delayed.DelayedAcknowledgement.{DelayedAcknowledgement}
use Rattle.port_transport.specs.declared.wire.WireEvent.{WireEvent}
use Rattle.port_transport.specs.declared.wire.WireEvent.TheVariants.{Went}
use Rattle.port_transport.specs.Wires.{Parcel, arrived, gone, come, written}

-- the port of a rank, where rank 0 has the first one
abbrev pub port_of : (first rank : ℕ) → ℕ
port_of first rank = min (first + rank) 65535

-- a datagram for a rank, at the rank's port
abbrev pub at_port : ℕ → Parcel → Parcel
at_port first p = (port_of first p.0, p.1)

-- an acknowledgement
abbrev pub is_short : Parcel → Bool
is_short p = is_some (short_acknowledgement p.1)

-- the acknowledgements among datagrams, and all others
abbrev pub short_in : List Parcel → List Parcel
short_in ps = filter is_short ps

abbrev pub plain_in : List Parcel → List Parcel
plain_in ps = filter (λ p. not (is_short p)) ps

-- the later of two acknowledgements says all that the earlier one says
abbrev pub IsCovered : (earlier later : Parcel) → Type 0
IsCovered a b = IsSomeAnd (short_acknowledgement a.1) (λ x. IsSomeAnd (short_acknowledgement b.1) (λ y. Covers y x))

-- the next one says all that it says
abbrev pub IsCoveredByNext : Parcel → List Parcel → Type 0
IsCoveredByNext a [] = ⊥
IsCoveredByNext a (b ∷ bs) = IsCovered a b

-- Of these datagrams those went, in order: one stays out only where the next one says all that it says
abbrev pub Thins : (handed went : List Parcel) → Type 0
Thins [] went = went ≡ []
Thins (a ∷ handed) went =
    ((rest : List Parcel) × (went ≡ a ∷ rest) × Thins handed rest) ⊎ (IsCoveredByNext a handed × Thins handed went)

-- what is kept back, at its port
abbrev pub kept_at : ℕ → Option DelayedAcknowledgement → List Parcel
kept_at first None = []
kept_at first (Some k) = (port_of first k.target, k.bytes) ∷ []

-- what is kept back is an acknowledgement
abbrev pub IsAcknowledgement : DelayedAcknowledgement → Type 0
IsAcknowledgement k = short_acknowledgement k.bytes ≡ Some k.said

-- a line with its end
abbrev pub with_end : List ℕ → List ℕ
with_end line = line ++ 10 ∷ []

-- A transport: its wire, the port of rank 0, the acknowledgement that is kept back and its delay, what the one said
-- that was handed over last, and whether a datagram was sent or handed out since the last wait.
pub record PortState (W : Type 0) : Type 0 where
  pub wire : W
  pub first : ℕ
  pub kept : Option DelayedAcknowledgement
  pub delay : Delay
  pub last : Option Acknowledgement
  pub carried : Bool

-- These datagrams for ranks were handed over, those came, and these lines were printed. Each datagram that is no
-- acknowledgement went to its rank's port, in order. Of the acknowledgements, those that were kept back before in
-- front, each went to its port or is kept back now, but for those of which the next one says all; what is kept back is
-- the last one. What came is what the wire gave, whole and in order, and the lines were written each with its end.
pub record Passes {W : Type 0} (did : W → List WireEvent → W → Type 0) (s : PortState W) (sent : List Parcel)
    (received printed : List (List ℕ)) (t : PortState W) : Type 0 where
  pub events : List WireEvent
  pub wire : did s.wire events t.wire
  pub first : t.first ≡ s.first
  pub plain : plain_in (gone events) ≡ plain_in (map (at_port s.first) sent)
  pub short : Thins (kept_at s.first s.kept ++ short_in (map (at_port s.first) sent))
      (short_in (gone events) ++ kept_at t.first t.kept)
  pub came : come events ≡ received
  pub wrote : written events ≡ map with_end printed

-- what came in a receive
abbrev pub received_in : Option ℕ → List ℕ → List (List ℕ)
received_in found buffer = come (arrived found buffer)

-- what is kept back goes
abbrev pub going : ℕ → Option DelayedAcknowledgement → List WireEvent
going first None = []
going first (Some k) = Went (port_of first k.target) k.bytes ∷ []

-- what is kept back goes, or stays
abbrev pub GoesOrStays : {W : Type 0} → (W → List WireEvent → W → Type 0) → PortState W → PortState W → Type 0
GoesOrStays did s t = (t.first ≡ s.first) ×
    ((did s.wire [] t.wire × (t.kept ≡ s.kept)) ⊎ (did s.wire (going s.first s.kept) t.wire × (t.kept ≡ None)))

-- an acknowledgement is kept back for as many others or for as many receives as one may be: it stands for 16, or 128
-- receives began
abbrev pub is_over : Delay → Bool
is_over d = nat_le 16 d.stands_for || nat_le 128 d.receives

-- what is still kept back with this delay
abbrev pub unless_over : Delay → Option DelayedAcknowledgement → Option DelayedAcknowledgement
unless_over d kept = if is_over d then None else kept

-- the delay of an acknowledgement that takes the place of one that was kept back so long: it stands for one more
abbrev pub for_one_more : Delay → Delay
for_one_more d = record d { stands_for = min (d.stands_for + 1) 4294967295 }

-- a delay begins now: of one that stands for itself alone, before any receive
pub record Begins (now : Option Instant → Type 0) (d : Delay) : Type 0 where
  pub stands_for : d.stands_for ≡ 1
  pub receives : d.receives ≡ 0
  pub since : now d.since

-- How long the next acknowledgement has been kept back: where it says all that the one says that was kept back, it
-- takes its place and its delay, so nothing is kept back for longer than one may be; else its delay begins now.
abbrev pub IsDelayOfNext : (now : Option Instant → Type 0) (kept : Option DelayedAcknowledgement) (delay : Delay) →
    Acknowledgement → Delay → Type 0
IsDelayOfNext now None delay said d = Begins now d
IsDelayOfNext now (Some former) delay said d =
    (Covers said former.said → d ≡ for_one_more delay) × ((Covers said former.said → ⊥) → Begins now d)

-- The next acknowledgement was handed over: it is the one by which a later one is judged. One that can't wait is gone,
-- and any other one is kept back, unless it has been for as long as one may be.
pub record KeepsNext {W : Type 0} (tells : W → Option Instant → Type 0) (s : PortState W)
    (next : DelayedAcknowledgement) (t : PortState W) : Type 0 where
  pub last : t.last ≡ Some next.said
  pub delay : IsDelayOfNext (tells s.wire) s.kept s.delay next.said t.delay
  pub urgent : IsUrgent s.last next.said → t.kept ≡ None
  pub other : (IsUrgent s.last next.said → ⊥) → t.kept ≡ unless_over t.delay (Some next)

-- the same is kept back for the same time, and the same acknowledgement was handed over last
pub record KeepsAll {W : Type 0} (s t : PortState W) : Type 0 where
  pub kept : t.kept ≡ s.kept
  pub delay : t.delay ≡ s.delay
  pub last : t.last ≡ s.last

-- nothing is kept back any more, and the same acknowledgement was handed over last
pub record KeepsNone {W : Type 0} (s t : PortState W) : Type 0 where
  pub kept : t.kept ≡ None
  pub delay : t.delay ≡ s.delay
  pub last : t.last ≡ s.last

-- the delay of what is kept back, if something is
abbrev pub delay_of : Option DelayedAcknowledgement → Delay → Option Delay
delay_of None d = None
delay_of (Some k) d = Some d

-- behind a wait the same is kept back, since the wire was asked with its delay and says that a datagram is there soon
pub record KeepsSoon {W : Type 0} (answers : W → Option Delay → Bool → W → Type 0) (s t : PortState W) : Type 0 where
  pub all : KeepsAll s t
  pub soon : answers s.wire (delay_of s.kept s.delay) true t.wire

-- what is kept back behind a datagram for a rank, by what it says where it is an acknowledgement
abbrev pub KeepsBehind : {W : Type 0} → (tells : W → Option Instant → Type 0) → PortState W → (target : ℕ)
    (bytes : List ℕ) → Option Acknowledgement → PortState W → Type 0
KeepsBehind tells s target bytes None t = KeepsAll s t
KeepsBehind tells s target bytes (Some said) t =
    KeepsNext tells s (record { target = target; said = said; bytes = bytes }) t

-- the delay of what is kept back, when one more receive begins
abbrev pub behind_receive : Option DelayedAcknowledgement → Delay → Delay
behind_receive None d = d
behind_receive (Some k) d = record d { receives = min (d.receives + 1) 4294967295 }

-- A receive began: what is kept back has been for one more, and is gone where it has been for as long as one may be
pub record CountsReceive {W : Type 0} (s t : PortState W) : Type 0 where
  pub delay : t.delay ≡ behind_receive s.kept s.delay
  pub kept : t.kept ≡ unless_over t.delay s.kept
  pub last : t.last ≡ s.last
