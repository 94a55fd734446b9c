-- One acknowledgement gives way to another one that says more: the links stay true.
use Rattle.std.proofs.Common.{◌≡◌, ℕ, ◌+◌, ◌<◌, ◌%◌, ◌^◌, Bool, true, false, ◌&&◌, not, nat_lt, List, [], ◌∷◌, ◌++◌}
use Rattle.std.proofs.Common.{length, Some, Ok, Result, ◌==◌, slice_get, slice_index, slice_set, refl, sym, ap, ◌∙◌}
use Rattle.std.proofs.Common.{subst, inl, inr, ◌⊎◌, arith}
use Rattle.std.specs.List.{AllByRecursion}
use Rattle.std.proofs.lemmas.Bool.{and_parts, both_ways, cases_eq, cases_lt, ltb-true}
use Rattle.std.proofs.lemmas.Option.{same_Some, slice_get_within}
use Rattle.vocabulary.specs.declared.endpoint.Endpoint.{Endpoint}
use Rattle.perfect_queues.proofs.ListLemmas.{get_set, get_set_other}
use Rattle.reliable_link.proofs.Places.{place_of_push}
use Rattle.datagram.specs.declared.refusal.DatagramRefusal as lower
use Rattle.datagram.specs.ByteMeanings.{datagram_of}
use Rattle.datagram.specs.Spellings.{AckBody, BodyText, DatagramText, FrameBody, FrameText, ResetBody}
use Rattle.sessions.specs.Peers.{peer_at}
use Rattle.sessions.specs.SessionsState.{SessionsState}
use Rattle.sessions.specs.Spellings.{ack_bytes}
use Rattle.link_truth.specs.Links.{Links}
use Rattle.link_truth.specs.Sessions.{IsHeldOf, IsLink, PeerTells, is_pair}
use Rattle.link_truth.specs.DatagramTruth.{IsTold}
use Rattle.link_truth.specs.Truth.{AreTrue}
use Rattle.link_truth.specs.Wire.{CanBeSent, at, place_of, text_of, wire}
use Rattle.link_truth.specs.Witness.{AreHeldEmitted, IsAcknowledged, IsAmong, IsEmitted, IsWitnessed}
use Rattle.proof_link_truth.proofs.Lists.{All_get, All_set}
use Rattle.proof_link_truth.proofs.ByteLaws.{HaveWidths, ack_is_read, ack_text, frame_is_read}

-- ---- a list in which one element gives way to another

-- whatever else was among them is among them still, and so is the new one
pub among_moved : (ds : List (ℕ × List ℕ)) (q : ℕ) (t old new : ℕ × List ℕ) → slice_get ds q ≡ Some old →
    (t ≡ old → ⊥) → IsAmong (ds ++ new ∷ []) t → IsAmong (slice_set ds q new) t
among_moved ds q t old new there other a = elim (place_of_push ds new a.place t a.there) [
  | inl before ↦ elim (cases_eq q a.place) [
    | inl same ↦ absurd (other (same_Some t old (sym before ∙ ap (slice_get ds) (sym same) ∙ there)))
    | inr apart ↦ record { place = a.place; there = get_set_other ds q a.place new apart ∙ before }
  ]
  | inr last ↦ record {
    place = q;
    there = get_set ds q new (slice_get_within ds q old there) ∙
        ap (λ (x : ℕ × List ℕ). Some x) last;
  }
]

-- ---- what bytes can't be

-- what was read, or else this
abbrev text_or : DatagramText → Result DatagramText lower.DatagramRefusal → DatagramText
text_or t (Ok d) = d
text_or t e = t

-- bytes are read in one way
same_text : (bytes more : List ℕ) (a b : DatagramText) → bytes ≡ more → datagram_of bytes ≡ Ok a →
    datagram_of more ≡ Ok b → a ≡ b
same_text bytes more a b same first second = ap (text_or a) (sym first ∙ ap datagram_of same ∙ second)

-- whether it is an acknowledgement
abbrev is_ack : BodyText → Bool
is_ack (AckBody held) = true
is_ack (FrameBody f) = false
is_ack ResetBody = false

-- an acknowledgement that is read
pub record IsReadAck (n : ℕ) (own s : Endpoint) (number held : ℕ) : Type 0 where
  pub widths : HaveWidths n own s
  pub numbered : number < 2 ^ 64
  pub even : held % 2 ≡ 0
  pub width : held < 2 ^ 64

-- no frame is spelled as an acknowledgement is
wire_is_no_ack : (n : ℕ) (a b own s : Endpoint) (q : ℕ) (f : FrameText) (number held : ℕ) → HaveWidths n a b →
    CanBeSent f → q < 2 ^ 64
    → IsReadAck n own s number held → wire n a b q f ≡ ack_bytes (place_of n own) s number held → ⊥
wire_is_no_ack n a b own s q f number held widths can numbered ack same =
    both_ways true
    (ap (λ (t : DatagramText). is_ack t.body)
    (sym (same_text (wire n a b q f) (ack_bytes (place_of n own) s number held) (text_of n a b q f)
    (ack_text n own s number held) same
    (frame_is_read n a b q f can widths numbered)
    (ack_is_read n own s number held ack.widths ack.numbered ack.even ack.width))))
    refl

-- what acknowledgements that are spelled alike have in common
record IsSameAck (b a own s : Endpoint) (k number : ℕ) : Type 0 where
  source : b ≡ own
  target : a ≡ s
  numbers : k ≡ number

same_ack : (n : ℕ) (b a own s : Endpoint) (k marks number held : ℕ) → IsReadAck n b a k marks →
    IsReadAck n own s number held
    → ack_bytes (place_of n b) a k marks ≡ ack_bytes (place_of n own) s number held → IsSameAck b a own s k number
same_ack n b a own s k marks number held first second same =
    let texts : ack_text n b a k marks ≡ ack_text n own s number held =
    same_text (ack_bytes (place_of n b) a k marks) (ack_bytes (place_of n own) s number held) (ack_text n b a k marks)
    (ack_text n own s number held) same
    (ack_is_read n b a k marks first.widths first.numbered first.even first.width)
    (ack_is_read n own s number held second.widths second.numbered second.even second.width) in
    record {
      source = ap (λ (t : DatagramText). t.header.source) texts;
      target = ap (λ (t : DatagramText). t.header.target) texts;
      numbers = ap (λ (t : DatagramText). t.header.sequence) texts;
    }

-- ---- endpoints of which something was handed up

-- a list with something in it isn't empty
not_empty : {A : Type 0} (xs : List A) → 0 < length xs → xs ≡ [] → ⊥
not_empty xs some none = let l : length xs ≡ 0 = ap length none in omega (arith, l, some)

-- they are of the world
pub heard_widths : (n : ℕ) (sessions : List SessionsState) (datagrams : List (ℕ × List ℕ)) (links : Links)
    (current : ℕ → ℕ) (a b : Endpoint)
    → AreTrue n sessions datagrams links current → 0 < (links a b).handed → HaveWidths n a b
heard_widths n sessions datagrams links current a b true_now some = record {
  few = true_now.few;
  source_is = ltb-true a.rank n (both.0);
  target_is = ltb-true b.rank n (both.1);
  source_last = elim (cases_lt (current a.rank) a.incarnation) [
    | inl above ↦ absurd (not_empty (links a b).accepted accepted (true_now.none_accepted a b above))
    | inr le ↦ omega (arith, le, true_now.last a.rank)
  ];
  target_last = elim (cases_lt (current b.rank) b.incarnation) [
    | inl above ↦ absurd (omega (arith, some, true_now.none_handed a b above))
    | inr le ↦ omega (arith, le, true_now.last b.rank)
  ];
}
  where
    accepted : 0 < length (links a b).accepted
    accepted = omega (arith, some, (true_now.sound a b).reach)

    pair : (t : Bool) → is_pair n a b ≡ t → is_pair n a b ≡ true
    pair true is = is
    pair false is = absurd (not_empty (links a b).accepted accepted (true_now.strangers a b is))

    both : (nat_lt a.rank n ≡ true) × (nat_lt b.rank n ≡ true)
    both = and_parts (nat_lt a.rank n) (nat_lt b.rank n)
        (and_parts (not (a.rank == b.rank)) (nat_lt a.rank n && nat_lt b.rank n) (pair (is_pair n a b) refl)).1

-- the other way round
pub turned : (n : ℕ) (a b : Endpoint) → HaveWidths n a b → HaveWidths n b a
turned n a b w =
    record {
      few = w.few;
      source_is = w.target_is;
      target_is = w.source_is;
      source_last = w.target_last;
      target_last =
          w.source_last;
    }

-- ---- the acknowledgement at a place gives way

module _ (n : ℕ) (sessions : List SessionsState) (ds : List (ℕ × List ℕ)) (links : Links) (current : ℕ → ℕ) (q : ℕ)
    (own s : Endpoint)
    (number held : ℕ) (new : ℕ × List ℕ) (ack : IsReadAck n own s number held)
    (there : slice_get ds q ≡ Some (s.rank, ack_bytes (place_of n own) s number held))
    (more : number < (links s own).handed)
    (true_now : AreTrue n sessions (ds ++ new ∷ []) links current) where
  -- the old one
  abbrev gone : ℕ × List ℕ
  gone = (s.rank, ack_bytes (place_of n own) s number held)

  -- the frame that a link accepted under a number is another datagram
  frame_stays : (a b : Endpoint) (k target : ℕ) (f : FrameText) → HaveWidths n a b → slice_get (links a b).accepted k ≡
      Some f → IsAmong (ds ++ new ∷ []) (target, wire n a b k f)
      → IsAmong (slice_set ds q new) (target, wire n a b k f)
  frame_stays a b k target f widths accepted sent =
      let link : IsLink (links a b) = true_now.sound a b in
      let below : k < length (links a b).accepted = slice_get_within (links a b).accepted k f accepted in
      among_moved ds q (target, wire n a b k f) gone new there
      (λ same. wire_is_no_ack n a b own s k f number held widths
      (All_get CanBeSent (links a b).accepted k f link.sent accepted) (omega (arith, below, link.numbered)) ack
      (ap (λ (t : ℕ × List ℕ). t.1) same)) sent

  -- so is the acknowledgement of just so many frames as were handed up
  ack_stays : (a b : Endpoint) → HaveWidths n a b → IsAcknowledged n (ds ++ new ∷ []) a b (links a b).handed →
      IsAcknowledged n (slice_set ds q new) a b (links a b).handed
  ack_stays a b widths k =
      let link : IsLink (links a b) = true_now.sound a b in
      record {
        held = k.held;
        even = k.even;
        width = k.width;
        sent = among_moved ds q (a.rank, ack_bytes (place_of n b) a (links a b).handed k.held) gone new there
            (λ same. differs (same_ack n b a own s (links a b).handed k.held number held
            (record {
              widths = turned n a b widths;
              numbered = omega (arith, link.reach, link.numbered);
              even =
                  k.even;
              width = k.width;
            }) ack
            (ap (λ (t : ℕ × List ℕ). t.1) same))) k.sent;
      }
    where
      differs : IsSameAck b a own s (links a b).handed number → ⊥
      differs is =
          let handed : (links s own).handed ≡ number =
          ap (λ (x : Endpoint). (links x own).handed) (sym is.target) ∙
          ap (λ (y : Endpoint). (links a y).handed) (sym is.source) ∙ is.numbers in
          omega (arith, handed, more)

  -- whatever was handed up is witnessed still
  witnessed_still : (a b : Endpoint) → IsWitnessed n (slice_set ds q new) a b (links a b)
  witnessed_still a b = elim (cases_lt 0 (links a b).handed) [
    | inl some ↦ by_some some
    | inr none ↦ record { acknowledged = inl (omega (arith, none)); frames = λ k lt. absurd (omega (arith, lt, none)) }
  ]
    where
      w : IsWitnessed n (ds ++ new ∷ []) a b (links a b)
      w = true_now.witnessed a b

      by_some : 0 < (links a b).handed → IsWitnessed n (slice_set ds q new) a b (links a b)
      by_some some =
          let widths : HaveWidths n a b = heard_widths n sessions (ds ++ new ∷ []) links current a b true_now some in
          record {
            acknowledged = acknowledged widths w.acknowledged;
            frames =
                λ k lt. emitted widths k (w.frames k lt);
          }
        where
          acknowledged : HaveWidths n a b →
              ((links a b).handed ≡ 0) ⊎ IsAcknowledged n (ds ++ new ∷ []) a b (links a b).handed
              → ((links a b).handed ≡ 0) ⊎ IsAcknowledged n (slice_set ds q new) a b (links a b).handed
          acknowledged widths (inl none) = inl none
          acknowledged widths (inr k) = inr (ack_stays a b widths k)

          emitted : HaveWidths n a b → (k : ℕ) → IsEmitted n (ds ++ new ∷ []) a b (links a b) k →
              IsEmitted n (slice_set ds q new) a b (links a b) k
          emitted widths k e =
              record {
                frame = e.frame;
                accepted = e.accepted;
                sent =
                    frame_stays a b k b.rank e.frame widths e.accepted e.sent;
              }

  -- whatever is held was emitted still
  held_still : (y : ℕ) (e : SessionsState) → slice_get sessions y ≡ Some e → AreHeldEmitted n (slice_set ds q new) y e
  held_still y e here x place bytes x_is apart holds =
      subst (λ (b : List ℕ). IsAmong (slice_set ds q new) (y, b)) (sym h.spelled)
      (frame_stays (at x k) (at y (current y)) ((peer_at e.peers x).receiver.next + place) y h.frame widths h.accepted
      (subst (λ (b : List ℕ). IsAmong (ds ++ new ∷ []) (y, b)) h.spelled
      (true_now.held y e here x place bytes x_is apart holds)))
    where
      k : ℕ
      k = slice_index e.known x

      tells : PeerTells n current (at y (current y)) x k (peer_at e.peers x) links
      tells = (true_now.tells y e here).peers x x_is apart

      h : IsHeldOf n (at x k) (at y (current y)) ((peer_at e.peers x).receiver.next + place)
          (links (at x k) (at y (current y))) bytes
      h = tells.receiver.held place bytes holds

      widths : HaveWidths n (at x k) (at y (current y))
      widths = record {
        few = true_now.few;
        source_is = x_is;
        target_is = omega (arith, slice_get_within sessions y e here, true_now.count);
        source_last = omega (arith, tells.begun, true_now.last x);
        target_last = true_now.last y;
      }

  -- each datagram is told still
  told_still : AllByRecursion (IsTold n links current) (slice_set ds q new)
  told_still = All_set (IsTold n links current) ds q new true_now.told

  -- the whole world
  pub exchanged : AreTrue n sessions (slice_set ds q new) links current
  exchanged = record {
    count = true_now.count;
    few = true_now.few;
    last = true_now.last;
    tells = true_now.tells;
    sound = true_now.sound;
    strangers = true_now.strangers;
    none_accepted = true_now.none_accepted;
    none_handed = true_now.none_handed;
    told = told_still;
    witnessed = witnessed_still;
    held = held_still;
  }
