-- What follows of an answer: what a refusal leaves, how much goes out, and that the rank stays in its place.
use Rattle.std.proofs.Common.{◌≡◌, ◌<◌, ◌≤◌, ◌+◌, ◌*◌, ℕ, List, [], ◌∷◌, ◌++◌, Bool, true, false, Option, Some, None}
use Rattle.std.proofs.Common.{if◌then◌else◌, length, refl, sym, ap, subst, ◌∙◌, arith}
use Rattle.std.specs.Prelude.{nat_lt}
use Rattle.std.proofs.lemmas.List.{length-append}
use Rattle.datagram.specs.Spellings.{OutgoingText}
use Rattle.incarnation.specs.declared.place.Place.{Place}
use Rattle.point_to_point.proofs.Places.{answers_stay}
use Rattle.sessions.specs.Events.{next_bytes, out_on_accept}
use Rattle.sessions.specs.Peers.{peer_at}
use Rattle.sessions.specs.SessionsState.{SessionsState}
use Rattle.engine_calls.specs.Calls.{CoreGives, IsAnswered, RefusedLeaves}
use Rattle.engine_calls.specs.EngineState.{EngineState}
use Rattle.engine_calls.specs.Frames.{after_frame}
use Rattle.engine_calls.specs.declared.call.Call.{Call}
use Rattle.engine_calls.specs.declared.reply.Reply.{Reply}
use Rattle.engine_calls.specs.declared.reply.Reply.TheVariants as replies

-- a call of point to point, or on requests, is refused and changes nothing, or is answered
data Outcome (old : EngineState) (call : Call) (reply : Reply) (new : EngineState) : Type 0 where
  Stood : new ≡ old → Outcome old call reply new
  Went : IsAnswered old call reply new → Outcome old call reply new

outcome : (old new : EngineState) (call : Call) (reply : Reply) → CoreGives old call reply new →
    Outcome old call reply new
outcome old new call (replies.Refused why back) gives = Stood gives.unchanged
outcome old new call (replies.Started r) gives = Went gives
outcome old new call (replies.Done a) gives = Went gives
outcome old new call replies.Pending gives = Went gives
outcome old new call replies.Accepted gives = Went gives
outcome old new call replies.Blocked gives = Went gives
outcome old new call (replies.Left o) gives = Went gives
outcome old new call (replies.Fact f) gives = Went gives
outcome old new call (replies.Probed found) gives = Went gives
outcome old new call (replies.Matched found) gives = Went gives

-- a refused call leaves the engine as it was
pub core_leaves : (old new : EngineState) (call : Call) (reply : Reply) → CoreGives old call reply new →
    RefusedLeaves reply old new
core_leaves old new call (replies.Refused why back) gives = gives.unchanged
core_leaves old new call (replies.Started r) gives = tt
core_leaves old new call (replies.Done a) gives = tt
core_leaves old new call replies.Pending gives = tt
core_leaves old new call replies.Accepted gives = tt
core_leaves old new call replies.Blocked gives = tt
core_leaves old new call (replies.Left o) gives = tt
core_leaves old new call (replies.Fact f) gives = tt
core_leaves old new call (replies.Probed found) gives = tt
core_leaves old new call (replies.Matched found) gives = tt

-- ---- how much goes out

one_by : (b : Bool) (x : ℕ × List ℕ) → length (if b then x ∷ [] else []) ≤ 1
one_by true x = omega arith
one_by false x = omega arith

frame_few : (s : SessionsState) (f : Option OutgoingText) → length (after_frame s f).out ≤ length s.out + 1
frame_few s None = omega arith
frame_few s (Some f) =
    let sender = (peer_at s.peers f.target).sender in
    let more : List (ℕ × List ℕ) = out_on_accept sender f.target (next_bytes s f) in
    let few : length more ≤ 1 = one_by (nat_lt (length sender.frames) 64) (f.target, next_bytes s f) in
    let sum : length (s.out ++ more) ≡ length s.out + length more = length-append s.out more in
    omega (arith, few, sum)

few_by : (new old size : ℕ) → 0 < size → new ≤ old + 1 → new ≤ old + 65 * size
few_by new old size there few = omega (arith, there, few)

-- at most one datagram does, so few of a job that has a rank
pub core_few : (old new : EngineState) (call : Call) (reply : Reply) → CoreGives old call reply new →
    0 < old.sessions.place.size →
    length new.sessions.out ≤ length old.sessions.out + 65 * old.sessions.place.size
core_few old new call reply gives there = by (outcome old new call reply gives)
  where
    by : Outcome old call reply new → length new.sessions.out ≤ length old.sessions.out + 65 * old.sessions.place.size
    by (Stood still) =
        subst (λ (e : EngineState). length e.sessions.out ≤ length old.sessions.out + 65 * old.sessions.place.size)
        (sym still) (omega arith)
    by (Went answered) =
        subst (λ (s : SessionsState). length s.out ≤ length old.sessions.out + 65 * old.sessions.place.size)
        (sym answered.sessions) (few_by _ _ _ there (frame_few old.sessions _))

-- ---- where the rank is

-- where the sessions stand, and the core
abbrev sessions_place : EngineState → Place
sessions_place e = e.sessions.place

abbrev core_place : EngineState → Place
core_place e = e.core.place

frame_stays : (s : SessionsState) (f : Option OutgoingText) → (after_frame s f).place ≡ s.place
frame_stays s None = refl
frame_stays s (Some f) = refl

pub core_placed : (old new : EngineState) (call : Call) (reply : Reply) → CoreGives old call reply new →
    new.sessions.place ≡ old.sessions.place
core_placed old new call reply gives = by (outcome old new call reply gives)
  where
    by : Outcome old call reply new → new.sessions.place ≡ old.sessions.place
    by (Stood still) = ap sessions_place still
    by (Went answered) = ap (λ (s : SessionsState). s.place) answered.sessions ∙ frame_stays old.sessions _

pub core_stays : (old new : EngineState) (call : Call) (reply : Reply) → CoreGives old call reply new →
    new.core.place ≡ old.core.place
core_stays old new call reply gives = by (outcome old new call reply gives)
  where
    by : Outcome old call reply new → new.core.place ≡ old.core.place
    by (Stood still) = ap core_place still
    by (Went answered) = answers_stay old.core new.core answered.asked answered.answer answered.core
