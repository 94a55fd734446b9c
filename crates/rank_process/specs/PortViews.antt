-- What passed between a rank and its transport, as its ports carry it.
use Rattle.std.specs.Prelude.{◌≡◌, ℕ, ◌⊎◌, Bool, true, false, List, [], ◌∷◌, Result, Ok, Err}
use Rattle.datagram.specs.ByteMeanings.{datagram_of}
use Rattle.datagram.specs.Spellings.{DatagramText, BodyText, FrameBody, AckBody, ResetBody}
use Rattle.datagram.specs.declared.refusal.DatagramRefusal.{DatagramRefusal}
use Rattle.event_loop.specs.declared.exchange.Exchange.{Exchange}
use Rattle.event_loop.specs.declared.exchange.Exchange.TheVariants.{Received, Nothing, Sent, Printed, Waited, Failed}
use Rattle.port_transport.specs.declared.wire.WireEvent.{WireEvent}
use Rattle.port_transport.specs.Ports.{Passes, PortState}
use Rattle.port_transport.specs.Wires.{Parcel}

-- the datagrams that were handed over, each with its rank, in order
abbrev pub sent_in : List Exchange → List Parcel
sent_in [] = []
sent_in (Received bytes ∷ xs) = sent_in xs
sent_in (Nothing ∷ xs) = sent_in xs
sent_in (Sent target bytes ∷ xs) = (target, bytes) ∷ sent_in xs
sent_in (Printed line ∷ xs) = sent_in xs
sent_in (Waited most ∷ xs) = sent_in xs
sent_in (Failed ∷ xs) = sent_in xs

-- the datagrams that came, in order
abbrev pub received_in : List Exchange → List (List ℕ)
received_in [] = []
received_in (Received bytes ∷ xs) = bytes ∷ received_in xs
received_in (Nothing ∷ xs) = received_in xs
received_in (Sent target bytes ∷ xs) = received_in xs
received_in (Printed line ∷ xs) = received_in xs
received_in (Waited most ∷ xs) = received_in xs
received_in (Failed ∷ xs) = received_in xs

-- the lines that were printed, in order
abbrev pub printed_in : List Exchange → List (List ℕ)
printed_in [] = []
printed_in (Received bytes ∷ xs) = printed_in xs
printed_in (Nothing ∷ xs) = printed_in xs
printed_in (Sent target bytes ∷ xs) = printed_in xs
printed_in (Printed line ∷ xs) = line ∷ printed_in xs
printed_in (Waited most ∷ xs) = printed_in xs
printed_in (Failed ∷ xs) = printed_in xs

-- a call of the transport failed
abbrev pub HasFailed : List Exchange → Type 0
HasFailed [] = ⊥
HasFailed (Received bytes ∷ xs) = HasFailed xs
HasFailed (Nothing ∷ xs) = HasFailed xs
HasFailed (Sent target bytes ∷ xs) = HasFailed xs
HasFailed (Printed line ∷ xs) = HasFailed xs
HasFailed (Waited most ∷ xs) = HasFailed xs
HasFailed (Failed ∷ xs) = Unit {0}

-- a datagram is a frame
abbrev pub IsFrameBody : BodyText → Type 0
IsFrameBody (FrameBody f) = Unit {0}
IsFrameBody (AckBody held) = ⊥
IsFrameBody ResetBody = ⊥

abbrev pub IsFrame : Result DatagramText DatagramRefusal → Type 0
IsFrame (Ok d) = IsFrameBody d.body
IsFrame (Err e) = ⊥

-- Of these datagrams those went on, in order: none but frames was held back
abbrev pub HoldsBack : (handed went : List Parcel) → Type 0
HoldsBack [] went = went ≡ []
HoldsBack (a ∷ handed) went =
    ((rest : List Parcel) × ((went ≡ a ∷ rest) × HoldsBack handed rest))
    ⊎ (IsFrame (datagram_of a.1) × HoldsBack handed went)

-- Its ports carried all of it but for frames that were held back, where no call failed.
abbrev pub CarriesAll : {W : Type 0} → (W → List WireEvent → W → Type 0) → PortState W → List Exchange → PortState W →
    Type 0
CarriesAll did s xs t =
    HasFailed xs
    ⊎ ((went : List Parcel) × (HoldsBack (sent_in xs) went × Passes did s went (received_in xs) (printed_in xs) t))

-- a datagram that may go went to its port; another one was held back, and nothing passed
abbrev pub SentBy : (may : Bool) → {W : Type 0} → (W → List WireEvent → W → Type 0) → PortState W → (target : ℕ) →
    (bytes : List ℕ) → PortState W → Type 0
SentBy true did s target bytes t = Passes did s ((target, bytes) ∷ []) [] [] t
SentBy false did s target bytes t = Passes did s [] [] [] t
