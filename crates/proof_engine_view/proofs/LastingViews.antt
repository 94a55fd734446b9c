-- What was announced stays announced, and what stood for a frame goes on to stand for it.
use Rattle.std.proofs.Common.{◌≡◌, ℕ, zero, suc, List, [], ◌∷◌, ◌++◌, Some, slice_get, refl, sym, ap, ◌∙◌, arith}
use Rattle.vocabulary.specs.declared.basic_type.BasicType.{BasicType}
use Rattle.vocabulary.specs.declared.endpoint.Endpoint.{Endpoint}
use Rattle.datagram.specs.Spellings.{FrameText, EagerFrame, RequestFrame, ClearFrame, DataFrame}
use Rattle.proof_pure_network.specs.Announcements.{Begins}
use Rattle.proof_pure_network.specs.Frames.{Cts, Data, Eager, Frame, Rts}
use Rattle.proof_engine_view.specs.FrameViews.{AreSent, StandsFor}
use Rattle.proof_engine_view.specs.Transfers.{Announcements, AnnouncementsGrow, IsNumber, Transfer, announced_in}
use Rattle.proof_engine_view.specs.Transfers.{serial_at, serial_of}

-- ---- places of a list that goes on

left_at : {A : Type 0} (xs later : List A) (k : ℕ) (x : A) → slice_get xs k ≡ Some x →
    slice_get (xs ++ later) k ≡ Some x
left_at [] later k x h = absurd (grind arith)
left_at (y ∷ xs) later zero x h = h
left_at (y ∷ xs) later (suc k) x h = left_at xs later k x h

-- what stands at a place stands there in the longer list
pub begun_at : {A : Type 0} (xs ys : List A) (k : ℕ) (x : A) → Begins xs ys → slice_get xs k ≡ Some x →
    slice_get ys k ≡ Some x
begun_at {A} xs ys k x b h = sym (ap (λ (zs : List A). slice_get zs k) b.1) ∙ left_at xs b.0 k x h

-- the number goes on to name the transfer
pub number_more : (ts us : List Transfer) (number : ℕ) (basic : BasicType) (count : ℕ) → Begins ts us →
    IsNumber ts number basic count → IsNumber us number basic count
number_more ts us number basic count b n =
    record {
      serial = n.serial;
      there =
          begun_at ts us number (record { serial = n.serial; basic = basic; count = count }) b n.there;
    }

-- so its serial stays
pub serial_more : (ts us : List Transfer) (number : ℕ) (t : Transfer) → Begins ts us → slice_get ts number ≡ Some t →
    serial_at us number ≡ serial_at ts number
serial_more ts us number t b h = ap serial_of (begun_at ts us number t b h) ∙ sym (ap serial_of h)

-- ---- what frames announce

pub announced_append : (fs gs : List Frame) → announced_in (fs ++ gs) ≡ announced_in fs ++ announced_in gs
announced_append [] gs = refl
announced_append (Eager c tag basic values ∷ fs) gs = announced_append fs gs
announced_append (Rts c tag basic k n ∷ fs) gs =
    ap (λ (ts : List Transfer). record { serial = k; basic = basic; count = n } ∷ ts) (announced_append fs gs)
announced_append (Cts k w ∷ fs) gs = announced_append fs gs
announced_append (Data k o values ∷ fs) gs = announced_append fs gs

pub announced_grow : (fs gs : List Frame) → Begins fs gs → Begins (announced_in fs) (announced_in gs)
announced_grow fs gs b = (announced_in b.0, sym (announced_append fs b.0) ∙ ap announced_in b.1)

-- ---- what a text stands for

-- links only grow, so it goes on to stand for it
pub stands_more : (out out' back back' : List Transfer) (text : FrameText) (frame : Frame) → Begins out out' →
    Begins back back' → StandsFor out back text frame → StandsFor out' back' text frame
stands_more out out' back back' (EagerFrame t) frame b c s = s
stands_more out out' back back' (RequestFrame t) frame b c s =
    record {
      serial = s.serial;
      plane = s.plane;
      announced =
          begun_at out out' t.transfer (record { serial = s.serial; basic = t.basic; count = t.count }) b s.announced;
      frame_is = s.frame_is;
    }
stands_more out out' back back' (ClearFrame t) frame b c s =
    record {
      transfer = s.transfer;
      announced = begun_at back back' t.transfer s.transfer c s.announced;
      frame_is =
          s.frame_is;
    }
stands_more out out' back back' (DataFrame t) frame b c s =
    record {
      transfer = s.transfer;
      offset = s.offset;
      values = s.values;
      announced = begun_at out out' t.transfer s.transfer b s.announced;
      frame_is = s.frame_is;
      place = s.place;
      bytes = s.bytes;
      within = s.within;
    }

-- so it is with all that is sent
pub sent_more : (a b : Announcements) (texts : List (Endpoint × FrameText)) (frames : List (Endpoint × Frame)) →
    AnnouncementsGrow a b → AreSent a texts frames → AreSent b texts frames
sent_more a b [] [] g sent = tt
sent_more a b [] (f ∷ fs) g sent = absurd sent
sent_more a b (t ∷ ts) [] g sent = absurd sent
sent_more a b ((x, text) ∷ ts) ((d, frame) ∷ fs) g sent = (
  sent.0,
  stands_more (a.to d) (b.to d) (a.from d) (b.from d) text frame (g.to d) (g.from d) sent.1,
  sent_more a b ts fs g sent.2,
)
