-- What bears witness once goes on to do so.
use Rattle.std.proofs.Common.{◌≡◌, ℕ, suc, ◌<◌, ◌%◌, ◌^◌, Bool, true, false, nat_lt, List, [], ◌∷◌, ◌++◌, length, Some}
use Rattle.std.proofs.Common.{slice_get, refl, sym, ap, ◌∙◌, subst, arith, inl, inr, ◌⊎◌}
use Rattle.std.proofs.lemmas.Bool.{ltb-false, ltb-true}
use Rattle.vocabulary.specs.declared.endpoint.Endpoint.{Endpoint}
use Rattle.perfect_queues.proofs.ListLemmas.{get_last}
use Rattle.datagram.specs.Spellings.{FrameText}
use Rattle.sessions.specs.Spellings.{ack_bytes}
use Rattle.sessions.specs.SessionsState.{SessionsState}
use Rattle.reliable_link.proofs.Places.{place_stays}
use Rattle.link_truth.specs.Links.{Link, Links}
use Rattle.link_truth.specs.Truth.{AreTrue}
use Rattle.link_truth.specs.Wire.{place_of, wire}
use Rattle.link_truth.specs.Witness.{AreHeldEmitted, IsAcknowledged, IsAmong, IsEmitted, IsWitnessed}
use Rattle.proof_link_truth.proofs.LinkGrowth.{Grows}

-- what was emitted stays among the datagrams
pub among_more : (ds out : List (ℕ × List ℕ)) (t : ℕ × List ℕ) → IsAmong ds t → IsAmong (ds ++ out) t
among_more ds out t a = record { place = a.place; there = place_stays ds out a.place t a.there }

-- the one datagram that an event emitted
pub among_last : (ds out : List (ℕ × List ℕ)) (t : ℕ × List ℕ) → out ≡ t ∷ [] → IsAmong (ds ++ out) t
among_last ds out t is =
    record {
      place = length ds;
      there = ap (λ (x : List (ℕ × List ℕ)). slice_get (ds ++ x) (length ds)) is ∙
          get_last ds t;
    }

-- an acknowledgement
acknowledged_more : (n : ℕ) (ds out : List (ℕ × List ℕ)) (s d : Endpoint) (k : ℕ) → IsAcknowledged n ds s d k →
    IsAcknowledged n (ds ++ out) s d k
acknowledged_more n ds out s d k a = record {
  held = a.held;
  even = a.even;
  width = a.width;
  sent = among_more ds out (s.rank, ack_bytes (place_of n d) s k a.held) a.sent;
}

-- what is held
pub held_more : (n : ℕ) (ds out : List (ℕ × List ℕ)) (r : ℕ) (e : SessionsState) → AreHeldEmitted n ds r e →
    AreHeldEmitted n (ds ++ out) r e
held_more n ds out r e held x place bytes x_is apart there =
    among_more ds out (r, bytes) (held x place bytes x_is apart there)

-- a frame that was emitted, on a link that grew
emitted_more : (n : ℕ) (ds out : List (ℕ × List ℕ)) (s d : Endpoint) (a b : Link) (number : ℕ)
    → ((q : ℕ) (f : FrameText) → slice_get a.accepted q ≡ Some f → slice_get b.accepted q ≡ Some f)
    → IsEmitted n ds s d a number → IsEmitted n (ds ++ out) s d b number
emitted_more n ds out s d a b number kept e = record {
  frame = e.frame;
  accepted = kept number e.frame e.accepted;
  sent = among_more ds out (d.rank, wire n s d number e.frame) e.sent;
}

-- a link of which no more was handed up
pub witnessed_more : (n : ℕ) (ds out : List (ℕ × List ℕ)) (s d : Endpoint) (a b : Link) → b.handed ≡ a.handed
    → ((q : ℕ) (f : FrameText) → slice_get a.accepted q ≡ Some f → slice_get b.accepted q ≡ Some f) →
    IsWitnessed n ds s d a → IsWitnessed n (ds ++ out) s d b
witnessed_more n ds out s d a b same kept w = record {
  acknowledged = go w.acknowledged;
  frames = λ number lt. emitted_more n ds out s d a b number kept (w.frames number (omega (arith, lt, same)));
}
  where
    go : (a.handed ≡ 0) ⊎ IsAcknowledged n ds s d a.handed → (b.handed ≡ 0) ⊎ IsAcknowledged n (ds ++ out) s d b.handed
    go (inl none) = inl (same ∙ none)
    go (inr t) = inr (subst (IsAcknowledged n (ds ++ out) s d) (sym same) (acknowledged_more n ds out s d a.handed t))

-- all links, where an event hands nothing up
pub all_witnessed : (n r : ℕ) (sessions : List SessionsState) (ds out : List (ℕ × List ℕ)) (a b : Links) (current : ℕ →
    ℕ) → AreTrue n sessions ds a current → Grows r a b
    → ((s d : Endpoint) → (b s d).handed ≡ (a s d).handed) → (s d : Endpoint) → IsWitnessed n (ds ++ out) s d (b s d)
all_witnessed n r sessions ds out a b current true_now grows same s d =
    witnessed_more n ds out s d (a s d) (b s d) (same s d) (grows.kept s d) (true_now.witnessed s d)

-- a link of which the next frame was handed up and acknowledged
pub witnessed_next : (n : ℕ) (ds out : List (ℕ × List ℕ)) (s d : Endpoint) (link : Link) (held : ℕ) →
    IsWitnessed n ds s d link → IsEmitted n ds s d link link.handed
    → held % 2 ≡ 0 → held < 2 ^ 64 → out ≡ (s.rank, ack_bytes (place_of n d) s (suc link.handed) held) ∷ []
    → IsWitnessed n (ds ++ out) s d (record link { handed = suc link.handed })
witnessed_next n ds out s d link held w next even width gave = record {
  acknowledged =
      inr (record {
        held = held;
        even = even;
        width = width;
        sent =
            among_last ds out (s.rank, ack_bytes (place_of n d) s (suc link.handed) held) gave;
      });
  frames = λ number lt. emitted_more n ds out s d link (record link { handed = suc link.handed }) number (λ q f h. h)
      (below number lt);
}
  where
    below : (number : ℕ) → number < suc link.handed → IsEmitted n ds s d link number
    below number lt = go (nat_lt number link.handed) refl
      where
        go : (t : Bool) → nat_lt number link.handed ≡ t → IsEmitted n ds s d link number
        go true less = w.frames number (ltb-true number link.handed less)
        go false less =
            let most = ltb-false number link.handed less in
            let same : link.handed ≡ number = omega (arith, lt, most) in
            subst (λ (k : ℕ). IsEmitted n ds s d link k) same next
