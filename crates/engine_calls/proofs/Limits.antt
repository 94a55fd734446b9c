-- The limit that a frame meets depends on the rank that it goes to alone.
use Rattle.point_to_point_calls.specs.declared.sends.Destination.{Destination}
use Rattle.std.proofs.Common.{◌≡◌, ◌==◌, ℕ, [], ◌∷◌, Bool, true, false, Option, Some, None, refl, sym, ap, subst}
use Rattle.std.proofs.lemmas.Option.{same_Some}
use Rattle.std.specs.Prelude.{option_map}
use Rattle.vocabulary.specs.declared.message_limit.MessageLimit.{MessageLimit}
use Rattle.vocabulary.specs.declared.mode.Mode.{Mode}
use Rattle.datagram.specs.Spellings.{FrameText, OutgoingText}
use Rattle.datatypes.specs.Contents.{Contents}
use Rattle.incarnation.specs.declared.place.Place.{Place}
use Rattle.point_to_point_calls.specs.SendRules.{frame_to, frame_unless, rank_to, rank_unless}
use Rattle.rendezvous.specs.State.{State}
use Rattle.sessions.specs.declared.refusal.SessionRefusal as lower
use Rattle.sessions.specs.Events.{event_limit}
use Rattle.sessions.specs.SessionsState.{SessionsState}
use Rattle.engine_calls.specs.Frames.{frame_limit}
use Rattle.engine_calls.specs.Refusals.{fault_of_sessions}

-- every frame to this rank meets this limit
abbrev pub IsLimitTo : SessionsState → (rank : ℕ) → Option lower.SessionRefusal → Type 0
IsLimitTo s rank limit = (f : FrameText) → limit ≡ event_limit s None (record { target = rank; frame = f } ∷ [])

-- where no limit is told, none is met
pub is_unlimited : (limit : Option lower.SessionRefusal) → fault_of_sessions limit ≡ None → limit ≡ None
is_unlimited None is = refl
is_unlimited (Some e) is = absurd cc

-- a frame meets the limit of its rank
pub met_by : (s : SessionsState) (o : Option OutgoingText) (rank : ℕ) (limit : Option lower.SessionRefusal) →
    option_map (λ f. f.target) o ≡ Some rank →
    IsLimitTo s rank limit → fault_of_sessions limit ≡ frame_limit s o
met_by s None rank limit is met = absurd cc
met_by s (Some f) rank limit is met =
    let same : rank ≡ f.target = sym (same_Some f.target rank is) in
    ap fault_of_sessions (subst (λ (r : ℕ). IsLimitTo s r limit) same met f.frame)

-- no frame meets no limit
pub none_by : (s : SessionsState) (o : Option OutgoingText) → option_map (λ f. f.target) o ≡ None → frame_limit s o ≡ None
none_by s None is = refl
none_by s (Some f) is = absurd cc

-- the frame of a send goes to the rank that it was sent to, where that is another one
target_by : (own : Bool) (limit : MessageLimit) (t : State) (mode : Mode) (d : Destination) (m : Contents) →
    option_map (λ f. f.target) (frame_unless own limit t mode d m) ≡ rank_unless own d
target_by true limit t mode d m = refl
target_by false limit t mode d m = refl

pub target_is : (p : Place) (t : State) (mode : Mode) (d : Option Destination) (m : Contents) →
    option_map (λ f. f.target) (frame_to p t mode d m) ≡ rank_to p d
target_is p t mode None m = refl
target_is p t mode (Some d) m = target_by (d.rank == p.endpoint.rank) p.message_limit t mode d m
