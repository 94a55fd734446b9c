-- The large messages that links announced: a transfer's number is its place among them.
use Rattle.std.specs.Prelude.{◌≡◌, ℕ, List, [], ◌∷◌, ◌++◌, Option, Some, None, if◌then◌else◌, slice_get}
use Rattle.vocabulary.specs.Endpoints.{is_same}
use Rattle.vocabulary.specs.declared.basic_type.BasicType.{BasicType}
use Rattle.vocabulary.specs.declared.endpoint.Endpoint.{Endpoint}
use Rattle.proof_pure_network.specs.Announcements.{Begins}
use Rattle.proof_pure_network.specs.Frames.{Cts, Data, Eager, Frame, Rts}
use Rattle.proof_pure_network.specs.Links.{Link}

-- a large message as it was announced: the serial of its send's request, its basic type, and how many values it has
pub record Transfer : Type 0 where
  pub serial : ℕ
  pub basic : BasicType
  pub count : ℕ

-- those that these frames announce, in order
abbrev pub announced_in : List Frame → List Transfer
announced_in [] = []
announced_in (Eager context tag basic values ∷ fs) = announced_in fs
announced_in (Rts context tag basic k count ∷ fs) = record { serial = k; basic = basic; count = count } ∷
    announced_in fs
announced_in (Cts k wanted ∷ fs) = announced_in fs
announced_in (Data k offset values ∷ fs) = announced_in fs

-- the transfer with this number is of this type and count, whatever the serial of its send
pub record IsNumber (ts : List Transfer) (number : ℕ) (basic : BasicType) (count : ℕ) : Type 0 where
  pub serial : ℕ
  pub there : slice_get ts number ≡ Some (record { serial = serial; basic = basic; count = count })

-- the serial of a transfer, if there is one
abbrev pub serial_of : Option Transfer → ℕ
serial_of None = 0
serial_of (Some t) = t.serial

-- the serial of the transfer with this number
abbrev pub serial_at : List Transfer → (number : ℕ) → ℕ
serial_at ts number = serial_of (slice_get ts number)

-- AT ONE ENDPOINT

-- what the endpoint announced to each other one, and what each other one announced to it
pub record Announcements : Type 0 where
  pub to : Endpoint → List Transfer
  pub from : Endpoint → List Transfer

-- what the links from and to an endpoint accepted
abbrev pub announcements_of : (Endpoint → Endpoint → Link) → Endpoint → Announcements
announcements_of links own = record {
  to = λ d. announced_in (links own d).accepted;
  from = λ s. announced_in (links s own).accepted;
}

-- those of the frames that go to d
abbrev pub frames_to : Endpoint → List (Endpoint × Frame) → List Frame
frames_to d [] = []
frames_to d (x ∷ xs) = if is_same d x.0 then x.1 ∷ frames_to d xs else frames_to d xs

-- once these frames went out, too
abbrev pub after_out : Announcements → List (Endpoint × Frame) → Announcements
after_out a out = record { to = λ d. a.to d ++ announced_in (frames_to d out); from = a.from }

-- what was announced stays announced, under its number
pub record AnnouncementsGrow (old new : Announcements) : Type 0 where
  pub to : (d : Endpoint) → Begins (old.to d) (new.to d)
  pub from : (s : Endpoint) → Begins (old.from s) (new.from s)
