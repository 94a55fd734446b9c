-- A large message is announced: its request offers it under the next number.
use Rattle.std.proofs.Common.{◌≡◌, ℕ, ◌==◌, ◌&&◌, Bool, true, false, List, [], ◌∷◌, ◌++◌, length, if◌then◌else◌}
use Rattle.std.proofs.Common.{slice_get, refl, ap, ◌∙◌, append-nil}
use Rattle.std.proofs.lemmas.Bool.{ne_eqb}
use Rattle.vocabulary.specs.Endpoints.{is_same}
use Rattle.vocabulary.specs.declared.endpoint.Endpoint.{Endpoint}
use Rattle.vocabulary.specs.declared.mode.Mode.{Mode}
use Rattle.perfect_queues.proofs.EndpointLemmas.{same_refl}
use Rattle.proof_pure_network.specs.Frames.{Frame, Rts}
use Rattle.proof_pure_network.proofs.JobLemmas.{push_at}
use Rattle.datatypes.specs.Contents.{Contents}
use Rattle.point_to_point_calls.specs.SendRules.{request_frame}
use Rattle.proof_engine_view.specs.FrameViews.{StandsFor}
use Rattle.proof_engine_view.specs.Transfers.{Announcements, Transfer, after_out, announced_in}

-- the transfer that a send announces
abbrev pub transfer_of : (serial : ℕ) → Contents → Transfer
transfer_of serial c = record { serial = serial; basic = c.basic; count = length c.values }

-- what was announced to whom it goes, once it is announced
pub announced_there : (a : Announcements) (d : Endpoint) (context tag serial : ℕ) (c : Contents) →
    (after_out a ((d, Rts context tag c.basic serial (length c.values)) ∷ [])).to d ≡ a.to d ++ transfer_of serial c ∷
    []
announced_there a d context tag serial c = go (is_same d d) (same_refl d)
  where
    go : (t : Bool) → t ≡ true →
        a.to d ++ announced_in (if t then Rts context tag c.basic serial (length c.values) ∷ [] else []) ≡ a.to d ++
        transfer_of serial c ∷ []
    go true is = refl
    go false is = absurd cc

-- and to another rank
pub announced_elsewhere : (a : Announcements) (d x : Endpoint) (frame : Frame) → (x.rank ≡ d.rank → ⊥) →
    (after_out a ((d, frame) ∷ [])).to x ≡ a.to x
announced_elsewhere a d x frame apart = go (x.rank == d.rank) (ne_eqb x.rank d.rank apart)
  where
    go : (t : Bool) → t ≡ false →
        a.to x ++ announced_in (if t && (x.incarnation == d.incarnation) then frame ∷ [] else []) ≡ a.to x
    go false is = append-nil (a.to x)
    go true is = absurd cc

-- its frame stands for the network's, if its number is how many were announced before
pub request_stands : (mode : Mode) (a : Announcements) (d : Endpoint) (number context tag serial : ℕ) (c : Contents)
    (back : List Transfer) → number ≡ length (a.to d) →
    StandsFor ((after_out a ((d, Rts context tag c.basic serial (length c.values)) ∷ [])).to d) back
    (request_frame mode number context tag c) (Rts context tag c.basic serial (length c.values))
request_stands mode a d number context tag serial c back is =
    record {
      serial = serial;
      plane = refl;
      announced = ap (λ (ts : List Transfer). slice_get ts number) (announced_there a d context tag serial c)
          ∙ (ap (λ (k : ℕ). slice_get (a.to d ++ transfer_of serial c ∷ []) k) is ∙
          push_at (a.to d) (transfer_of serial c));
      frame_is = refl;
    }
