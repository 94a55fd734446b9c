-- In any order the datagrams of a world tell the same.
use Rattle.std.proofs.Common.{◌≡◌, ℕ, ◌<◌, List, ◌++◌, length, take, drop, slice_set, sym, ap, ◌∙◌, subst, inl, inr}
use Rattle.std.proofs.Common.{◌⊎◌, IsPermutation}
use Rattle.std.specs.List.{All}
use Rattle.std.proofs.lemmas.List.{take-append-drop}
use Rattle.std.proofs.lemmas.List.Elements.{All-from_get_or, All-get_or}
use Rattle.std.proofs.lemmas.List.Sorted.{All-permutation, IsPermutation-append_right, IsPermutation-sym}
use Rattle.std.proofs.lemmas.Option.{get_or_from_slice_get, slice_get-get_or, slice_get_within}
use Rattle.vocabulary.specs.declared.endpoint.Endpoint.{Endpoint}
use Rattle.sessions.specs.SessionsState.{SessionsState}
use Rattle.sessions.specs.Spellings.{ack_bytes}
use Rattle.proof_link_truth.specs.Deliveries.{OrderIsFree}
use Rattle.proof_link_truth.specs.Events.{emptied}
use Rattle.link_truth.specs.Links.{Links}
use Rattle.link_truth.specs.DatagramTruth.{IsTold}
use Rattle.link_truth.specs.Truth.{AreTrue}
use Rattle.link_truth.specs.Wire.{place_of, wire}
use Rattle.link_truth.specs.Witness.{IsAcknowledged, IsAmong, IsEmitted}
use Rattle.proof_link_truth.proofs.Lists.{All_each, All_get}

-- whatever is among datagrams is among them in any order
pub among_any : (ds es : List (ℕ × List ℕ)) (t : ℕ × List ℕ) → IsPermutation ds es → IsAmong ds t → IsAmong es t
among_any ds es t moved a =
    let lt : a.place < length ds = slice_get_within ds a.place t a.there in
    let all : All (IsAmong es) ds = All-permutation (IsAmong es) es ds (IsPermutation-sym ds es moved)
    (All-from_get_or (IsAmong es) es t (λ i within. record { place = i; there = slice_get-get_or es i t within })) in
    subst (IsAmong es) (get_or_from_slice_get ds a.place t t a.there) (All-get_or (IsAmong es) ds a.place t lt all)

-- a world's datagrams in another order
pub reordered : (n : ℕ) (sessions : List SessionsState) (ds es : List (ℕ × List ℕ)) (links : Links) (current : ℕ → ℕ) →
    AreTrue n sessions ds links current
    → IsPermutation ds es → AreTrue n sessions es links current
reordered n sessions ds es links current true_now moved = record {
  count = true_now.count;
  few = true_now.few;
  last = true_now.last;
  tells = true_now.tells;
  sound = true_now.sound;
  strangers = true_now.strangers;
  none_accepted = true_now.none_accepted;
  none_handed = true_now.none_handed;
  told = All_each (IsTold n links current) es (λ k t at.
      let a : IsAmong ds t = among_any es ds t (IsPermutation-sym ds es moved) (record { place = k; there = at }) in
      All_get (IsTold n links current) ds a.place t true_now.told a.there);
  witnessed = λ s d. record {
    acknowledged = acknowledged s d (true_now.witnessed s d).acknowledged;
    frames =
        λ k lt. emitted s d k ((true_now.witnessed s d).frames k lt);
  };
  held = λ r e there x place bytes x_is apart holds. among_any ds es (r, bytes) moved
      (true_now.held r e there x place bytes x_is apart holds);
}
  where
    acknowledged : (s d : Endpoint) → ((links s d).handed ≡ 0) ⊎ IsAcknowledged n ds s d (links s d).handed →
        ((links s d).handed ≡ 0) ⊎ IsAcknowledged n es s d (links s d).handed
    acknowledged s d (inl none) = inl none
    acknowledged s d (inr k) = inr (record {
      held = k.held;
      even = k.even;
      width = k.width;
      sent = among_any ds es (s.rank, ack_bytes (place_of n d) s (links s d).handed k.held) moved k.sent;
    })

    emitted : (s d : Endpoint) (k : ℕ) → IsEmitted n ds s d (links s d) k → IsEmitted n es s d (links s d) k
    emitted s d k e =
        record {
          frame = e.frame;
          accepted = e.accepted;
          sent =
              among_any ds es (d.rank, wire n s d k e.frame) moved e.sent;
        }

-- what was put in order from a place on is what was there
pub same_out : (from : ℕ) (old new : List (ℕ × List ℕ)) → take from new ≡ take from old →
    IsPermutation (drop from old) (drop from new) → IsPermutation old new
same_out from old new front moved =
    subst (λ (x : List (ℕ × List ℕ)). IsPermutation x new) (take-append-drop from old)
    (subst (IsPermutation (take from old ++ drop from old))
    (ap (λ (x : List (ℕ × List ℕ)). x ++ drop from new) (sym front) ∙ take-append-drop from new)
    (IsPermutation-append_right (take from old) (drop from old) (drop from new) moved))

-- the law of the order
pub order_is_free : OrderIsFree
order_is_free n r from sessions datagrams links current mid new leaves is =
    subst (λ (e : SessionsState). AreTrue n (slice_set sessions r e) (datagrams ++ new.out) links current)
    (sym (ap emptied is.same))
    (reordered n (slice_set sessions r (emptied mid)) (datagrams ++ mid.out) (datagrams ++ new.out) links current leaves
    (IsPermutation-append_right datagrams mid.out new.out (same_out from mid.out new.out is.out.front is.out.moved)))
