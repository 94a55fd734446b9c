-- What a session announced: large messages and large notices share the numbers of its transfers, each of which is a
-- place among them.
use Rattle.std.specs.Prelude.{ℕ, List, [], ◌∷◌, map}
use Rattle.proof_engine_view.specs.Transfers.{Announcements, Transfer}
use Rattle.proof_group_network.specs.SessionContents.{Announces, Carried, OfMessages, Sessions}
use Rattle.proof_pure_network.specs.Frames.{Rts}
use Rattle.vocabulary.specs.declared.basic_type.BasicType.TheVariants.{Byte}
use Rattle.vocabulary.specs.declared.endpoint.Endpoint.{Endpoint}

-- what was announced under one number
pub data Announced : Type 0 where
  -- a large message
  LargeMessage : Transfer → Announced
  -- the notice of this number
  LargeNotice : (number : ℕ) → Announced

-- what this announces stands before what the rest does
abbrev pub announced_by : Carried → List Announced → List Announced
announced_by (OfMessages (Rts context tag basic k count)) rest =
    LargeMessage (record { serial = k; basic = basic; count = count }) ∷ rest
announced_by (Announces i) rest = LargeNotice i ∷ rest
announced_by _ rest = rest

-- what a session announced, in its order
abbrev pub announced_in : List Carried → List Announced
announced_in [] = []
announced_in (x ∷ xs) = announced_by x (announced_in xs)

-- what each announced to each
abbrev pub all_announced : Sessions → Endpoint → Endpoint → List Announced
all_announced sessions s d = announced_in (sessions s d).accepted

-- one as a transfer: a notice has this serial, which means nothing
abbrev pub transfer_as : (serial : ℕ) → Announced → Transfer
transfer_as serial (LargeMessage t) = t
transfer_as serial (LargeNotice i) = record { serial = serial; basic = Byte; count = 0 }

-- all of them
abbrev pub transfers_as : (serial : ℕ) → List Announced → List Transfer
transfers_as serial xs = map (transfer_as serial) xs

-- what an endpoint announced to each other one, and each other one to it, where notices have this serial
abbrev pub announcements_in : (serial : ℕ) → Sessions → Endpoint → Announcements
announcements_in serial sessions own = record {
  to = λ d. transfers_as serial (all_announced sessions own d);
  from = λ s. transfers_as serial (all_announced sessions s own);
}
