-- What a rank hands out of what its engine emitted.
use Rattle.std.specs.Prelude.{◌≡◌, ◌⊎◌, ◌+◌, ◌-◌, ◌<◌, ◌≤◌, ◌^◌, ℕ, Bool, true, nat_lt, min, max, List, [], ◌∷◌, ◌++◌}
use Rattle.std.specs.Prelude.{length, slice_get, Option, Some, None, IfSome, ◌||◌, not, if◌then◌else◌}
use Rattle.delayed_acknowledgements.specs.Acknowledgements.{IsUrgent, short_acknowledgement}
use Rattle.delayed_acknowledgements.specs.declared.acknowledgements.Acknowledgement.{Acknowledgement}
use Rattle.delayed_acknowledgements.specs.declared.delay.Delay.{Delay}
use Rattle.delayed_acknowledgements.specs.declared.delayed.DelayedAcknowledgement.{DelayedAcknowledgement}
use Rattle.port_transport.specs.Wires.{Parcel}
use Rattle.port_transport.specs.Ports.{Thins, plain_in, short_in}
use Rattle.outgoing_datagrams.specs.declared.record.OutgoingRecord.{OutgoingRecord}
use Rattle.outgoing_datagrams.specs.Runs.{Stands, bytes_in}

-- What is to be sent: the datagrams that wait to be handed out, the acknowledgement that is kept back, for how many
-- others it stands and since when, what the acknowledgement said that came last, and the time.
pub record SendingState : Type 0 where
  pub waiting : List Parcel
  pub kept : Option DelayedAcknowledgement
  pub delay : Delay
  pub since : ℕ
  pub last : Option Acknowledgement
  pub time : ℕ

-- what is kept back, as a datagram
abbrev pub kept_in : Option DelayedAcknowledgement → List Parcel
kept_in None = []
kept_in (Some k) = (k.target, k.bytes) ∷ []

-- when what is kept back is late: a millisecond behind its coming; 0 where nothing is
abbrev pub late_at : Option DelayedAcknowledgement → (since : ℕ) → ℕ
late_at None since = 0
late_at (Some k) since = min (since + 1000000) (2 ^ 64 - 1)

-- since when an acknowledgement is kept back behind one more: where one was kept back before it takes its place, and the
-- millisecond of that one goes on
abbrev pub since_behind : Option DelayedAcknowledgement → (since time : ℕ) → ℕ
since_behind None since time = time
since_behind (Some k) since time = since

-- for how many acknowledgements it stands then
abbrev pub stands_behind : Option DelayedAcknowledgement → (before : ℕ) → ℕ
stands_behind None before = 1
stands_behind (Some k) before = min (before + 1) 4294967295

-- Of what was kept back and waited, these datagrams went, in order. Those in front were taken. Each of them that is no
-- acknowledgement went. Of the acknowledgements, the one that was kept back before in front, each went or is kept back
-- now, but for those of which the next one says all; what is kept back is the last one.
pub record HandsOn (kept : Option DelayedAcknowledgement) (waiting went : List Parcel)
    (kept_then : Option DelayedAcknowledgement) (waiting_then : List Parcel) : Type 0 where
  pub taken : List Parcel
  pub front : waiting ≡ taken ++ waiting_then
  pub plain : plain_in went ≡ plain_in taken
  pub short : Thins (kept_in kept ++ short_in taken) (short_in went ++ kept_in kept_then)

-- what the last of these acknowledgements says; what was said before, where there is none
abbrev pub last_said : Option Acknowledgement → List Parcel → Option Acknowledgement
last_said before [] = before
last_said before (p ∷ ps) = last_said (short_acknowledgement p.1) ps

-- it isn't one that can't wait
abbrev pub CanWait : (before said : Option Acknowledgement) → Type 0
CanWait before None = Unit {0}
CanWait before (Some said) = IsUrgent before said → ⊥

-- each of these acknowledgements, which came one behind the other, can wait
abbrev pub AllCanWait : Option Acknowledgement → List Parcel → Type 0
AllCanWait before [] = Unit {0}
AllCanWait before (p ∷ ps) = CanWait before (short_acknowledgement p.1) × AllCanWait (short_acknowledgement p.1) ps

-- for how many acknowledgements one stands that takes the place of so many more
abbrev pub counted_on : (before : ℕ) → List Parcel → ℕ
counted_on before [] = before
counted_on before (p ∷ ps) = counted_on (min (before + 1) 4294967295) ps

-- for how many what is kept back stands: for none where nothing is
abbrev pub stands_now : Option DelayedAcknowledgement → (before : ℕ) → ℕ
stands_now None before = 0
stands_now (Some k) before = before

-- HOW LONG ONE IS KEPT BACK: these datagrams were taken from the front. The last acknowledgement among them is noted.
-- Where one is kept back then, it is so since the first one came that wasn't gone, it stands for each of them, for fewer
-- than 16 in all, and each of them could wait.
pub record KeepsFrom (old : SendingState) (waiting : List Parcel) (new : SendingState) (waiting_then : List Parcel) : Type 0 where
  pub taken : List Parcel
  pub front : waiting ≡ taken ++ waiting_then
  pub last : new.last ≡ last_said old.last (short_in taken)
  pub since : IfSome new.kept (λ _. new.since ≡ since_behind old.kept old.since old.time)
  pub stands : IfSome new.kept (λ _. new.delay.stands_for ≡ counted_on (stands_now old.kept old.delay.stands_for) (short_in taken))
  pub few : IfSome old.kept (λ _. old.delay.stands_for < 16) → IfSome new.kept (λ _. new.delay.stands_for < 16)
  pub calm : IfSome new.kept (λ _. AllCanWait old.last (short_in taken))

-- of datagrams that wait, the first one doesn't fit, if there is one
abbrev pub NoneFits : List Parcel → (room : ℕ) → Type 0
NoneFits waiting room = (waiting ≡ []) ⊎ (room < length (bytes_in (slice_get waiting 0)))

-- These were handed out: they stand in the slice, `most` at most; none only where none waits that fits.
pub record HandsOut (old : SendingState) (most len : ℕ) (o : OutgoingRecord) (into_old into_new : List ℕ)
    (new : SendingState) : Type 0 where
  pub went : List Parcel
  pub hands : HandsOn old.kept old.waiting went new.kept new.waiting
  pub stands : Stands went o len into_old into_new
  pub few : length went ≤ max most 1
  pub none : o.count ≡ 0 → NoneFits new.waiting (length into_old)
  pub time : new.time ≡ old.time
  pub keeps : KeepsFrom old old.waiting new new.waiting

-- what is kept back goes, if it is late or all is to go
abbrev pub kept_going : (kept_too : Bool) → SendingState → List Parcel
kept_going kept_too s =
    if kept_too || not (nat_lt s.time (late_at s.kept s.since)) then kept_in s.kept else []

-- it was handed out
pub record HandsOutKept (old : SendingState) (kept_too : Bool) (len : ℕ) (o : OutgoingRecord) (into_old into_new : List ℕ)
    (new : SendingState) : Type 0 where
  pub stands : Stands (kept_going kept_too old) o len into_old into_new
  pub hands : HandsOn old.kept old.waiting (kept_going kept_too old) new.kept new.waiting
  pub all : kept_too ≡ true → new.kept ≡ None
  pub waiting : new.waiting ≡ old.waiting
  pub time : new.time ≡ old.time
  pub keeps : KeepsFrom old old.waiting new new.waiting
