-- Payloads of collectives in pieces: the frames of their answers and of their data.
use Rattle.std.proofs.Common.{◌≡◌, Result, Ok, Err, ℕ, ◌<◌, Bool, true, false, List, [], ◌∷◌, length, map, Option}
use Rattle.std.proofs.Common.{Some, None, refl, sym, ap, subst, ◌∙◌}
use Rattle.std.specs.Prelude.{All, IfErr, OnOk}
use Rattle.std.proofs.lemmas.List.{length-map}
use Rattle.std.proofs.lemmas.List.Elements.{All-cons, All-nil}
use Rattle.datagram.specs.Spellings.{RequestText, OutgoingText}
use Rattle.incarnation.specs.declared.place.Place.{Place}
use Rattle.point_to_point_calls.specs.FrameNews.{bad_unless, data_frame, data_frames, framed}
use Rattle.point_to_point_calls.specs.Refusals.{IsRefusal}
use Rattle.point_to_point_calls.specs.declared.refusal.Refusal.{Refusal}
use Rattle.point_to_point_calls.specs.declared.refusal.Refusal.TheVariants as refusals
use Rattle.point_to_point.proofs.Replies.{data_go}
use Rattle.rendezvous.specs.Pieces.{pieces_of}
use Rattle.rendezvous.specs.declared.piece.Piece.{Piece}
use Rattle.sessions.specs.Events.{AreFor, CanSend, sendings}
use Rattle.sessions.specs.HeardBytes.{HeardText}
use Rattle.datagram.specs.declared.frame.Outgoing.{Outgoing}
use Rattle.vocabulary.specs.MessageLimits.{frame_limit_of}
use Rattle.vocabulary.specs.Modes.{is_standard}
use Rattle.vocabulary.specs.declared.message_limit.MessageLimit.{MessageLimit}
use Rattle.vocabulary.specs.declared.mode.Mode.{Mode}
use Rattle.vocabulary.specs.declared.mode.Mode.TheVariants.{Standard, Synchronous}
use Rattle.engine.proofs.Replies.{can_send, data_are_for}
use Rattle.engine.specs.Datagrams.{answer_to, data_sent}
use Rattle.engine_calls.specs.Refusals.{first_fault}

-- ---- the answer to an announcement

-- it goes to the rank that spoke
pub answer_is_for : (h : HeardText) (t : RequestText) → AreFor h.source.rank 1 (answer_to h t ∷ [])
answer_is_for h t = record { each = (refl, tt); many = refl }

-- the sessions can send it
pub answer_goes : (p : Place) (h : HeardText) (t : RequestText) → h.source.rank < p.size →
    All (CanSend p) (answer_to h t ∷ [])
answer_goes p h t there =
    All-cons (CanSend p) (answer_to h t) [] (record { there = there; fits = tt }) (All-nil (CanSend p))

-- the rules come first
next_fault : (b : Bool) (limit : Option Refusal) → b ≡ true → limit ≡ first_fault (bad_unless b) limit
next_fault true limit is = refl
next_fault false limit is = absurd cc

-- no payload is of a synchronous send
pub mode_fault : (mode : Mode) (b : Bool) (limit : Option Refusal) → ((mode ≡ Synchronous) → ⊥) → b ≡ true →
    limit ≡ first_fault (bad_unless (is_standard mode)) (first_fault (bad_unless b) limit)
mode_fault Standard b limit other is = next_fault b limit is
mode_fault Synchronous b limit other is = absurd (other refl)

-- ---- data

said : (rank transfer : ℕ) (ps : List Piece) →
    sendings (map (framed rank transfer) ps)
    ≡ map (data_frame rank transfer) (map (λ (p : Piece). (p.offset, p.bytes.now)) ps)
said rank transfer [] = refl
said rank transfer (p ∷ ps) =
    ap (λ (rest : List OutgoingText). data_frame rank transfer (p.offset, p.bytes.now) ∷ rest)
    (said rank transfer ps)

-- what is handed to the sessions is the data, all of them in order
pub data_are : (limit : MessageLimit) (rank transfer : ℕ) (os : List Outgoing) (ps qs : List Piece) (bytes : List ℕ) →
    os ≡ map (framed rank transfer) qs → qs ≡ ps →
    map (λ (p : Piece). (p.offset, p.bytes.now)) ps ≡ pieces_of (frame_limit_of limit) bytes →
    sendings os ≡ data_sent limit rank transfer bytes
data_are limit rank transfer os ps qs bytes made same are =
    ap sendings made ∙ ap (λ (xs : List Piece). sendings (map (framed rank transfer) xs)) same ∙ said rank transfer ps
    ∙ ap (λ (xs : List (ℕ × List ℕ)). data_frames rank transfer xs) are

-- they go to the rank that asked for them
pub data_go_to : (limit : MessageLimit) (rank transfer count : ℕ) (bytes : List ℕ) →
    count ≡ length (pieces_of (frame_limit_of limit) bytes) → AreFor rank count (data_sent limit rank transfer bytes)
data_go_to limit rank transfer count bytes is = record {
  each = data_are_for rank transfer (pieces_of (frame_limit_of limit) bytes);
  many = length-map (pieces_of (frame_limit_of limit) bytes) (data_frame rank transfer) ∙ sym is;
}

-- the same told of a place
pub data_go_at : (p q : Place) (rank transfer count : ℕ) (bytes : List ℕ) → p ≡ q →
    count ≡ length (pieces_of (frame_limit_of p.message_limit) bytes) →
    AreFor rank count (data_sent q.message_limit rank transfer bytes)
data_go_at p q rank transfer count bytes same is =
    subst (λ (r : Place). AreFor rank count (data_sent r.message_limit rank transfer bytes)) same
    (data_go_to p.message_limit rank transfer count bytes is)

-- the sessions can send them
pub data_can_go : (p : Place) (limit : MessageLimit) (rank transfer : ℕ) (bytes : List ℕ) → rank < p.size →
    All (CanSend p) (data_sent limit rank transfer bytes)
data_can_go p limit rank transfer bytes there =
    can_send p.size p (data_frames rank transfer (pieces_of (frame_limit_of limit) bytes)) refl
    (data_go limit p.size rank transfer bytes there)

-- no frame goes to a rank
pub none_for : (rank : ℕ) → AreFor rank 0 []
none_for rank = record { each = tt; many = refl }

-- ---- what becomes of it

pub on_ok : {P : Type 0} (r : Result (Unit {0}) Refusal) → P → OnOk r P
on_ok (Ok x) p = p
on_ok (Err e) p = tt

-- where no limit is met, only memory was wanting
pub memory_wanting : (o : Option Refusal) (r : Result (Unit {0}) Refusal) → o ≡ None →
    IfErr r (λ e. e ≡ refusals.OutOfMemory) → IfErr r (IsRefusal o)
memory_wanting o (Ok x) none is = tt
memory_wanting o (Err e) none is = subst (λ (l : Option Refusal). IsRefusal l e) (sym none) is

-- a limit that is met is the refusal
pub limit_met : (o : Option Refusal) (e : Refusal) → o ≡ Some e → IsRefusal o e
limit_met o e is = subst (λ (l : Option Refusal). IsRefusal l e) (sym is) refl
