-- Which large messages each link has announced, and that all else speaks of announced ones.
use Rattle.std.specs.Prelude.{◌≡◌, ℕ, ◌<◌, ◌≤◌, Bool, true, List, [], ◌∷◌, ◌++◌, length, Option, Some, slice_get}
use Rattle.perfect_queues.specs.Receives.{Receive}
use Rattle.vocabulary.specs.declared.basic_type.BasicType.{BasicType}
use Rattle.vocabulary.specs.declared.endpoint.Endpoint.{Endpoint}
use Rattle.proof_pure_network.specs.Claims.{ClaimsOnce}
use Rattle.proof_pure_network.specs.Frames.{Cts, Data, Eager, Frame, Rts}
use Rattle.proof_pure_network.specs.WaitingMessages.{Held, Part}
use Rattle.proof_pure_network.specs.Jobs.{Collecting, Job, Offering, Probed, is_collecting}
use Rattle.proof_pure_network.specs.Links.{Link, handed_up}
use Rattle.proof_pure_network.specs.Network.{Network}
use Rattle.proof_pure_network.specs.Transfers.{cut}

-- the large messages that these frames announce, in order: the serials of the requests of their sends
abbrev pub transfers_of : List Frame → List ℕ
transfers_of [] = []
transfers_of (Eager c tag basic values ∷ fs) = transfers_of fs
transfers_of (Rts c tag basic k count ∷ fs) = k ∷ transfers_of fs
transfers_of (Cts k wanted ∷ fs) = transfers_of fs
transfers_of (Data k offset values ∷ fs) = transfers_of fs

-- it stands at some place of the list
abbrev pub IsIn : {A : Type 0} → A → List A → Type 0
IsIn x xs = (place : ℕ) × (slice_get xs place ≡ Some x)

-- among these frames transfer k is announced, of this type and with so many values
abbrev pub IsAnnounced : List Frame → ℕ → BasicType → ℕ → Type 0
IsAnnounced fs k basic count = (context : ℕ) × (tag : ℕ) × IsIn (Rts context tag basic k count) fs

-- nothing stands at two places of the list
abbrev pub AreDifferent : List ℕ → Type 0
AreDifferent xs = (i j x : ℕ) → slice_get xs i ≡ Some x → slice_get xs j ≡ Some x → i ≡ j

-- the first list begins the second one
abbrev pub Begins : {A : Type 0} → List A → List A → Type 0
Begins {A} xs ys = (later : List A) × (xs ++ later ≡ ys)

-- Of each link, s to d: what it announced, and who speaks of that
pub record TransfersStand (w : Network) : Type 0 where
  -- no large message is announced twice, and each is of a request of its sender
  pub once : (s d : Endpoint) → AreDifferent (transfers_of (w.link s d).accepted)
  pub logged : (s d : Endpoint) (k : ℕ) → IsIn k (transfers_of (w.link s d).accepted) → k < length (w.log s)
  -- what is answered, collected, held or taken out by its receiver was announced, and the announcement was handed up
  pub answered : (s d : Endpoint) (k : ℕ) (wanted : Bool) → IsIn (Cts k wanted) (w.link d s).accepted →
      IsIn k (transfers_of (handed_up (w.link s d)))
  pub collected : (s d : Endpoint) (k j : ℕ) (p : Receive) (h : Held) (got : List ℕ) →
      slice_get (w.core d).jobs j ≡ Some (Collecting p h got) →
      is_collecting s k (Collecting p h got) ≡ true → IsIn k (transfers_of (handed_up (w.link s d)))
  pub held : (d : Endpoint) (h : Held) (k count : ℕ) → IsIn h (w.core d).held → h.body ≡ Part k count →
      IsIn k (transfers_of (handed_up (w.link h.sender d)))
  pub taken : (d : Endpoint) (j : ℕ) (g : Option (List ℕ)) (h : Held) (k count : ℕ) → slice_get (w.core d).jobs j ≡
      Some (Probed g (Some h)) →
      h.body ≡ Part k count → IsIn k (transfers_of (handed_up (w.link h.sender d)))
  -- what its sender offers was announced, and so was that whose data it sent
  pub offered : (s d : Endpoint) (k : ℕ) (basic : BasicType) (values : List ℕ) →
      slice_get (w.core s).jobs k ≡ Some (Offering d basic values) →
      IsIn k (transfers_of (w.link s d).accepted)
  pub carried : (s d : Endpoint) (k offset : ℕ) (values : List ℕ) → IsIn (Data k offset values) (w.link s d).accepted →
      IsIn k (transfers_of (w.link s d).accepted)
  -- the type and the count are everywhere those of the announcement: of what its receiver holds and collects, of what
  -- its sender offers, and of the values whose pieces it sent
  pub alike : (s d : Endpoint) (k : ℕ) (basic kind : BasicType) (count number : ℕ) →
      IsAnnounced (w.link s d).accepted k basic count →
      IsAnnounced (w.link s d).accepted k kind number → (basic ≡ kind) × (count ≡ number)
  pub held_as : (d : Endpoint) (h : Held) (k count : ℕ) → IsIn h (w.core d).held → h.body ≡ Part k count →
      IsAnnounced (handed_up (w.link h.sender d)) k h.basic count
  pub taken_as : (d : Endpoint) (j : ℕ) (g : Option (List ℕ)) (h : Held) (k count : ℕ) → slice_get (w.core d).jobs j ≡
      Some (Probed g (Some h)) →
      h.body ≡ Part k count → IsAnnounced (handed_up (w.link h.sender d)) k h.basic count
  pub collected_as : (d : Endpoint) (j : ℕ) (p : Receive) (h : Held) (got : List ℕ) (k count : ℕ) →
      slice_get (w.core d).jobs j ≡ Some (Collecting p h got) →
      h.body ≡ Part k count → IsAnnounced (handed_up (w.link h.sender d)) k h.basic count
  pub offered_as : (s d : Endpoint) (k : ℕ) (basic : BasicType) (values : List ℕ) →
      slice_get (w.core s).jobs k ≡ Some (Offering d basic values) →
      IsAnnounced (w.link s d).accepted k basic (length values)
  pub carried_as : (s d : Endpoint) (k offset : ℕ) (values : List ℕ) →
      IsIn (Data k offset values) (w.link s d).accepted →
      (basic : BasicType) × (all : List ℕ) × IsAnnounced (w.link s d).accepted k basic (length all) ×
      IsIn (offset, values) (cut w.message_limit basic all)

-- From the old links to the new ones, each took in more and handed up more, and lost nothing
pub record LinksGrow (old new : Endpoint → Endpoint → Link) : Type 0 where
  pub accepted : (s d : Endpoint) → Begins (old s d).accepted (new s d).accepted
  pub handed : (s d : Endpoint) → (old s d).handed ≤ (new s d).handed

-- What a rank's core rests on, of the whole network: no two requests of an endpoint collect one transfer, and no two of
-- its messages name one of its own sends; nothing was sent to an endpoint that its sender doesn't know; and one that
-- has not come has sent nothing
pub record MeetingsStand (w : Network) : Type 0 where
  pub once : (s d : Endpoint) (k i j : ℕ) (x y : Job) → slice_get (w.core d).jobs i ≡ Some x →
      is_collecting s k x ≡ true →
      slice_get (w.core d).jobs j ≡ Some y → is_collecting s k y ≡ true → i ≡ j
  pub claimed : (d : Endpoint) → ClaimsOnce (w.core d)
  pub untold : (s d : Endpoint) → (w.core s).known d.rank < d.incarnation → (w.link s d).accepted ≡ []
  pub unsent : (s d : Endpoint) → w.current s.rank < s.incarnation → (w.link s d).accepted ≡ []
