-- Steps of handing out what a rank has.
use Rattle.std.proofs.Common.{◌≡◌, ℕ, zero, suc, ◌≤◌, Bool, true, false, List, [], ◌∷◌, ◌++◌, length, drop, refl, sym, ap, subst}
use Rattle.std.proofs.Common.{◌∙◌, arith, inl, inr, append_assoc}
use Rattle.std.specs.Prelude.{◌||◌, ◌/◌, if◌then◌else◌, nat_lt, not, Option, None, Some, max}
use Rattle.std.proofs.lemmas.List.{append-nil}
use Rattle.delayed_acknowledgements.specs.declared.delayed.DelayedAcknowledgement.{DelayedAcknowledgement}
use Rattle.engine_calls.specs.EngineState.{EngineState, without_out}
use Rattle.port_transport.specs.Wires.{Parcel}
use Rattle.outgoing_datagrams.specs.HandedDatagrams.{
  HandsOn,
  HandsOut,
  HandsOutKept,
  KeepsFrom,
  NoneFits,
  SendingState,
  kept_going,
  kept_in,
  late_at,
}
use Rattle.outgoing_datagrams.specs.Runs.{Stands}
use Rattle.outgoing_datagrams.specs.declared.record.OutgoingRecord.{OutgoingRecord}
use Rattle.outgoing_datagrams.proofs.HandedSteps.{hands_joined, hands_none}
use Rattle.outgoing_datagrams.proofs.KeptSteps.{keeps_joined, keeps_none}
use Rattle.round_trips.specs.declared.round_trip.RoundTrip.{RoundTrip}
use Rattle.congestion_windows.specs.Flights.{WindowsState}
use Rattle.c_rank.specs.Clocks.{after_all, going}
use Rattle.c_rank.specs.Windows.{admitted, offered}
use Rattle.c_rank.specs.OutgoingDatagrams.{HandsFirst, KeepsRest, StaysSo, TakesOver, emitted, pending, trips_begun}
use Rattle.c_rank.specs.OutgoingDatagrams.{windows_offered}
use Rattle.engine.specs.Places.{place_fault}
use Rattle.incarnation.specs.declared.place.Place.{Place}
use Rattle.point_to_point_calls.specs.Refusals.{IsRefusal}
use Rattle.point_to_point_calls.specs.declared.refusal.Refusal.{Refusal}
use Rattle.point_to_point_calls.specs.declared.refusal.Refusal.TheVariants.{OutOfMemory}
use Rattle.vocabulary.specs.declared.message_limit.MessageLimit.{MessageLimit}
use Rattle.c_rank.specs.State.{AreLimits, IsNoPlace, RankState, place_said}
use Rattle.c_rank.specs.declared.records.PlaceRecord.{PlaceRecord}

-- more waits behind
pub hands_more : (k m : Option DelayedAcknowledgement) (ws us went out : List Parcel) → HandsOn k ws went m us →
    HandsOn k (ws ++ out) went m (us ++ out)
hands_more k m ws us went out p = record {
  taken = p.taken;
  front = ap (λ (l : List Parcel). l ++ out) p.front ∙ append_assoc p.taken us out;
  plain = p.plain;
  short = p.short;
}

keeps_more : (a b : SendingState) (ws us out : List Parcel) → KeepsFrom a ws b us → KeepsFrom a (ws ++ out) b (us ++ out)
keeps_more a b ws us out p = record {
  taken = p.taken;
  front = ap (λ (l : List Parcel). l ++ out) p.front ∙ append_assoc p.taken us out;
  last = p.last;
  since = p.since;
  stands = p.stands;
  few = p.few;
  calm = p.calm;
}

-- what waited is no matter
keeps_as : (a b : SendingState) (w ws us : List Parcel) → KeepsFrom (record a { waiting = w }) ws b us → KeepsFrom a ws b us
keeps_as a b w ws us p = record {
  taken = p.taken;
  front = p.front;
  last = p.last;
  since = p.since;
  stands = p.stands;
  few = p.few;
  calm = p.calm;
}

-- a first datagram that doesn't fit stays the first one
pub too_long_more : (ws out : List Parcel) (room : ℕ) → NoneFits ws room → (ws ≡ [] → ⊥) → NoneFits (ws ++ out) room
too_long_more ws out room (inl none) some = absurd (some none)
too_long_more [] out room (inr long) some = absurd (some refl)
too_long_more (w ∷ ws) out room (inr long) some = inr long

-- nothing more waits behind
pub fits_more : (ws out : List Parcel) (room : ℕ) → NoneFits ws room → out ≡ [] → NoneFits (ws ++ out) room
fits_more ws out room fits none =
    subst (λ (l : List Parcel). NoneFits l room) (sym (ap (λ (l : List Parcel). ws ++ l) none ∙ append-nil ws)) fits

none_in : (went : List Parcel) (n : ℕ) → n ≡ length went → n ≡ 0 → went ≡ []
none_in [] n is none = refl
none_in (p ∷ went) n is none = absurd (omega (arith, is, none))

-- where nothing went nothing was put
pub none_went : (went : List Parcel) (o : OutgoingRecord) (len : ℕ) (old new : List ℕ) → Stands went o len old new →
    o.count ≡ 0 → went ≡ []
none_went went o len old new s none = none_in went o.count s.count none

nothing_put : (went : List Parcel) (o : OutgoingRecord) (len : ℕ) (old new : List ℕ) → Stands went o len old new →
    went ≡ [] → new ≡ old
nothing_put [] o len old new s is = s.bytes ∙ ap (λ (n : ℕ). drop n old) s.size
nothing_put (p ∷ went) o len old new s is = absurd cc

pub nothing_stands : (went : List Parcel) (o : OutgoingRecord) (len : ℕ) (old new : List ℕ) → Stands went o len old new →
    o.count ≡ 0 → new ≡ old
nothing_stands went o len old new s none = nothing_put went o len old new s (none_went went o len old new s none)

-- nothing goes of nothing
none_admitted : (w : Option WindowsState) → admitted w [] ≡ []
none_admitted None = refl
none_admitted (Some w) = refl

pub none_emitted : (r : RankState) → r.engine.sessions.out ≡ [] → emitted r ≡ []
none_emitted r none =
    ap (λ (l : List Parcel). admitted r.windows (going r.trips l)) none ∙ none_admitted r.windows

-- the same goes where engine, round trips and windows are the same
same_emitted : (b c : RankState) → c.engine ≡ b.engine → c.trips ≡ b.trips → c.windows ≡ b.windows →
    emitted b ≡ emitted c
same_emitted b c engine trips windows =
    ap (λ (e : EngineState). admitted b.windows (going b.trips e.sessions.out)) (sym engine)
    ∙ ap (λ (t : List RoundTrip). admitted b.windows (going t c.engine.sessions.out)) (sym trips)
    ∙ ap (λ (w : Option WindowsState). admitted w (going c.trips c.engine.sessions.out)) (sym windows)

-- where all was taken over no round trip begins
none_begun : (a b : RankState) → b.engine ≡ without_out a.engine → trips_begun b ≡ b.trips
none_begun a b engine =
    ap (λ (l : List Parcel). after_all b.trips l (b.sending.time / 1000))
    (none_emitted b (ap (λ (e : EngineState). e.sessions.out) engine))

-- nor is anything offered
nothing_offered : (w : Option WindowsState) → offered w [] ≡ w
nothing_offered None = refl
nothing_offered (Some w) = refl

none_offered : (a b : RankState) → b.engine ≡ without_out a.engine → windows_offered b ≡ b.windows
none_offered a b engine =
    ap (λ (e : EngineState). offered b.windows (going b.trips e.sessions.out)) engine ∙ nothing_offered b.windows

-- the same round trips begin
same_begun : (a b : RankState) → b.engine ≡ a.engine → b.trips ≡ a.trips → b.windows ≡ a.windows →
    b.sending.time ≡ a.sending.time → trips_begun b ≡ trips_begun a
same_begun a b engine trips windows time =
    ap (λ (l : List Parcel). after_all b.trips l (b.sending.time / 1000))
    (sym (same_emitted a b engine trips windows))
    ∙ ap (λ (t : List RoundTrip). after_all t (emitted a) (b.sending.time / 1000)) trips
    ∙ ap (λ (n : ℕ). after_all a.trips (emitted a) (n / 1000)) time

-- the same is offered
same_offered : (a b : RankState) → b.engine ≡ a.engine → b.trips ≡ a.trips → b.windows ≡ a.windows →
    windows_offered b ≡ windows_offered a
same_offered a b engine trips windows =
    ap (λ (e : EngineState). offered b.windows (going b.trips e.sessions.out)) engine
    ∙ ap (λ (t : List RoundTrip). offered b.windows (going t a.engine.sessions.out)) trips
    ∙ ap (λ (w : Option WindowsState). offered w (going a.trips a.engine.sessions.out)) windows

taken_over : (a b c : RankState) → TakesOver a b → b.sending.time ≡ a.sending.time → TakesOver b c → TakesOver a c
taken_over a b c (inl p) time (inl q) = inl (q.0 ∙ p.0, q.1 ∙ p.1, q.2 ∙ p.2)
taken_over a b c (inl p) time (inr q) =
    inr (q.0 ∙ ap without_out p.0, q.1 ∙ same_begun a b p.0 p.1 p.2 time, q.2 ∙ same_offered a b p.0 p.1 p.2)
taken_over a b c (inr p) time (inl q) = inr (q.0 ∙ p.0, q.1 ∙ p.1, q.2 ∙ p.2)
taken_over a b c (inr p) time (inr q) =
    inr (q.0 ∙ ap without_out p.0, q.1 ∙ none_begun a b p.0 ∙ p.1, q.2 ∙ none_offered a b p.0 ∙ p.2)

pub rest_joined : (a b c : RankState) → KeepsRest a b → KeepsRest b c → KeepsRest a c
rest_joined a b c p q =
    (taken_over a b c p.0 p.3 q.0, q.1 ∙ p.1, q.2 ∙ p.2, q.3 ∙ p.3)

-- a rank whose datagrams and kept acknowledgement are the same hands out the same
hands_from : (a b c : RankState) (went : List Parcel) → pending b ≡ pending a → b.sending.kept ≡ a.sending.kept →
    HandsOn b.sending.kept (pending b) went c.sending.kept (pending c) →
    HandsOn a.sending.kept (pending a) went c.sending.kept (pending c)
hands_from a b c went same kept p =
    subst (λ k. HandsOn k (pending a) went c.sending.kept (pending c)) kept
    (subst (λ (l : List Parcel). HandsOn b.sending.kept l went c.sending.kept (pending c)) same p)

-- and keeps back the same
keeps_from : (a b c : RankState) → pending b ≡ pending a →
    b.sending ≡ record a.sending { waiting = b.sending.waiting } → emitted b ≡ emitted c →
    KeepsFrom b.sending b.sending.waiting c.sending c.sending.waiting →
    KeepsFrom a.sending (pending a) c.sending (pending c)
keeps_from a b c same is out p =
    keeps_as a.sending c.sending b.sending.waiting (pending a) (pending c)
    (subst (λ (s : SendingState). KeepsFrom s (pending a) c.sending (pending c)) is
    (subst (λ (l : List Parcel). KeepsFrom b.sending l c.sending (pending c)) same
    (subst (λ (l : List Parcel). KeepsFrom b.sending (pending b) c.sending (c.sending.waiting ++ l)) out
    (keeps_more b.sending c.sending b.sending.waiting c.sending.waiting (emitted b) p))))

-- where nothing is there nothing is handed out, and the same is kept back
pub nothing_first : (a : RankState) (most : ℕ) (o : OutgoingRecord) (into : List ℕ) → a.sending.waiting ≡ [] →
    a.engine.sessions.out ≡ [] → o.count ≡ 0 → o.each ≡ 0 → HandsFirst a most 0 o into into a
nothing_first a most o into waiting out none each = record {
  went = [];
  hands = hands_none a.sending.kept (pending a);
  stands = record {
    count = none;
    size = refl;
    bytes = refl;
    targets = tt;
    each = 0;
    told = each;
    lengths = tt;
  };
  few = omega arith;
  none = λ e.
      inl (ap (λ (l : List Parcel). l ++ emitted a) waiting ∙ none_emitted a out);
  rest = (inl (refl, refl, refl), refl, refl, refl);
  keeps = keeps_none a.sending a.sending (pending a) refl;
}

-- its sending handed out, behind what it was refilled with
pub hands_first : (a b c : RankState) (most len : ℕ) (o : OutgoingRecord) (old new : List ℕ) →
    pending b ≡ pending a → b.sending ≡ record a.sending { waiting = b.sending.waiting } → KeepsRest a b →
    HandsOut b.sending most len o old new c.sending → c.engine ≡ b.engine → c.trips ≡ b.trips → c.windows ≡ b.windows → c.received ≡ b.received →
    c.told ≡ b.told →
    (o.count ≡ 0 → NoneFits (pending c) (length old)) → HandsFirst a most len o old new c
hands_first a b c most len o old new same sending rest h engine trips windows received told none = record {
  went = h.went;
  hands = hands_from a b c h.went same (ap (λ (s : SendingState). s.kept) sending)
      (subst (λ (l : List Parcel). HandsOn b.sending.kept (pending b) h.went c.sending.kept (c.sending.waiting ++ l))
      (same_emitted b c engine trips windows)
      (hands_more b.sending.kept c.sending.kept b.sending.waiting c.sending.waiting h.went (emitted b) h.hands));
  stands = h.stands;
  few = h.few;
  none = none;
  rest = rest_joined a b c rest (inl (engine, trips, windows), received, told, h.time);
  keeps = keeps_from a b c same sending (same_emitted b c engine trips windows) h.keeps;
}

-- what is handed out behind nothing
pub hands_second : (a b c : RankState) (most len more : ℕ) (o p : OutgoingRecord) (old mid new : List ℕ) →
    HandsFirst a most len o old mid b → o.count ≡ 0 → HandsFirst b most more p mid new c → HandsFirst a most more p old new c
hands_second a b c most len more o p old mid new f none s =
    let went : f.went ≡ [] = none_went f.went o len old mid f.stands none in
    let same : mid ≡ old = nothing_stands f.went o len old mid f.stands none in
    record {
      went = s.went;
      hands = subst (λ (l : List Parcel). HandsOn a.sending.kept (pending a) (l ++ s.went) c.sending.kept (pending c)) went
          (hands_joined a.sending.kept b.sending.kept c.sending.kept (pending a) (pending b) (pending c) f.went s.went
          f.hands s.hands);
      stands = subst (λ (l : List ℕ). Stands s.went p more l new) same s.stands;
      few = s.few;
      none = λ e. subst (λ (l : List ℕ). NoneFits (pending c) (length l)) same (s.none e);
      rest = rest_joined a b c f.rest s.rest;
      keeps = keeps_joined a.sending b.sending c.sending (pending a) (pending b) (pending c) f.rest.3
          (subst (λ (l : List Parcel). HandsOn a.sending.kept (pending a) l b.sending.kept (pending b)) went f.hands) f.keeps
          s.keeps;
    }

-- the same, of a rank that is told as what it was refilled to
pub hands_after : (a r b c : RankState) (most len : ℕ) (o : OutgoingRecord) (old new : List ℕ) → b ≡ r →
    pending r ≡ pending a → r.sending ≡ record a.sending { waiting = r.sending.waiting } → KeepsRest a r →
    HandsOut b.sending most len o old new c.sending → c.engine ≡ b.engine → c.trips ≡ b.trips → c.windows ≡ b.windows → c.received ≡ b.received →
    c.told ≡ b.told →
    (o.count ≡ 0 → NoneFits (pending c) (length old)) → HandsFirst a most len o old new c
hands_after a r b c most len o old new is same sending rest h engine trips windows received told none =
    hands_first a b c most len o old new (subst (λ (s : RankState). pending s ≡ pending a) (sym is) same)
    (subst (λ (s : RankState). s.sending ≡ record a.sending { waiting = s.sending.waiting }) (sym is) sending)
    (subst (λ (s : RankState). KeepsRest a s) (sym is) rest) h engine trips windows received told none

-- what is handed out behind nothing, once it was refilled a second time
pub hands_again : (a r b s c : RankState) (most len more : ℕ) (o p : OutgoingRecord) (old mid new : List ℕ) → b ≡ r →
    pending r ≡ pending a → r.sending ≡ record a.sending { waiting = r.sending.waiting } → KeepsRest a r →
    HandsOut b.sending most len o old mid s.sending → s.engine ≡ b.engine → s.trips ≡ b.trips → s.windows ≡ b.windows →
    s.received ≡ b.received → s.told ≡ b.told → o.count ≡ 0 → HandsFirst s most more p mid new c → HandsFirst a most more p old new c
hands_again a r b s c most len more o p old mid new is same sending rest h engine trips windows received told none f =
    let pends : pending b ≡ pending a = subst (λ (x : RankState). pending x ≡ pending a) (sym is) same in
    let sends : b.sending ≡ record a.sending { waiting = b.sending.waiting } =
    subst (λ (x : RankState). x.sending ≡ record a.sending { waiting = x.sending.waiting }) (sym is) sending in
    let went : h.went ≡ [] = none_went h.went o len old mid h.stands none in
    let put : mid ≡ old = nothing_stands h.went o len old mid h.stands none in
    let first : HandsOn a.sending.kept (pending a) h.went s.sending.kept (pending s) =
    hands_from a b s h.went pends (ap (λ (x : SendingState). x.kept) sends)
    (subst (λ (l : List Parcel). HandsOn b.sending.kept (pending b) h.went s.sending.kept (s.sending.waiting ++ l))
    (same_emitted b s engine trips windows)
    (hands_more b.sending.kept s.sending.kept b.sending.waiting s.sending.waiting h.went (emitted b) h.hands))
    in
    record {
      went = f.went;
      hands = subst (λ (l : List Parcel). HandsOn a.sending.kept (pending a) (l ++ f.went) c.sending.kept (pending c)) went
          (hands_joined a.sending.kept s.sending.kept c.sending.kept (pending a) (pending s) (pending c) h.went f.went
          first f.hands);
      stands = subst (λ (l : List ℕ). Stands f.went p more l new) put f.stands;
      few = f.few;
      none = λ e. subst (λ (l : List ℕ). NoneFits (pending c) (length l)) put (f.none e);
      rest = rest_joined a s c (rest_joined a b s (subst (λ (x : RankState). KeepsRest a x) (sym is) rest)
          (inl (engine, trips, windows), received, told, h.time)) f.rest;
      keeps = keeps_joined a.sending s.sending c.sending (pending a) (pending s) (pending c)
          (h.time ∙ ap (λ (x : SendingState). x.time) sends)
          (subst (λ (l : List Parcel). HandsOn a.sending.kept (pending a) l s.sending.kept (pending s)) went first)
          (keeps_from a b s pends sends (same_emitted b s engine trips windows) h.keeps) f.keeps;
    }

few_of : (t : Bool) (k : Option DelayedAcknowledgement) (most : ℕ) → length (if t then kept_in k else []) ≤ max most 1
few_of true None most = omega arith
few_of true (Some k) zero = omega arith
few_of true (Some k) (suc most) = omega arith
few_of false k most = omega arith

-- what was kept back goes where nothing else did
pub kept_first : (a s b c : RankState) (most len more : ℕ) (kept_too : Bool) (o p : OutgoingRecord)
    (old mid new : List ℕ) → HandsFirst a most len o old mid s → o.count ≡ 0 → b ≡ s →
    HandsOutKept b.sending kept_too more p mid new c.sending → c.engine ≡ b.engine → c.trips ≡ b.trips → c.windows ≡ b.windows →
    c.received ≡ b.received → c.told ≡ b.told → HandsFirst a most more p old new c
kept_first a s b c most len more kept_too o p old mid new f none is h engine trips windows received told =
    let went : f.went ≡ [] = none_went f.went o len old mid f.stands none in
    let put : mid ≡ old = nothing_stands f.went o len old mid f.stands none in
    let gone : List Parcel = kept_going kept_too b.sending in
    let out : emitted b ≡ emitted c = same_emitted b c engine trips windows in
    let second : HandsOn s.sending.kept (pending s) gone c.sending.kept (pending c) =
    subst (λ (x : RankState). HandsOn x.sending.kept (pending x) gone c.sending.kept (pending c)) is
    (subst (λ (l : List Parcel). HandsOn b.sending.kept (pending b) gone c.sending.kept (c.sending.waiting ++ l)) out
    (hands_more b.sending.kept c.sending.kept b.sending.waiting c.sending.waiting gone (emitted b) h.hands))
    in
    let left : pending s ≡ pending c =
    sym (ap pending is) ∙ ap (λ (l : List Parcel). l ++ emitted b) (sym h.waiting)
    ∙ ap (λ (l : List Parcel). c.sending.waiting ++ l) out in
    record {
      went = gone;
      hands = subst (λ (l : List Parcel). HandsOn a.sending.kept (pending a) (l ++ gone) c.sending.kept (pending c)) went
          (hands_joined a.sending.kept s.sending.kept c.sending.kept (pending a) (pending s) (pending c) f.went gone
          f.hands second);
      stands = subst (λ (l : List ℕ). Stands gone p more l new) put h.stands;
      few = few_of (kept_too || not (nat_lt b.sending.time (late_at b.sending.kept b.sending.since))) b.sending.kept most;
      none = λ e. subst (λ (l : List Parcel). NoneFits l (length old)) left (f.none none);
      rest = rest_joined a s c f.rest
          (subst (λ (x : RankState). KeepsRest x c) is (inl (engine, trips, windows), received, told, h.time));
      keeps = keeps_joined a.sending s.sending c.sending (pending a) (pending s) (pending c) f.rest.3
          (subst (λ (l : List Parcel). HandsOn a.sending.kept (pending a) l s.sending.kept (pending s)) went f.hands) f.keeps
          (subst (λ (x : RankState). KeepsFrom x.sending (pending x) c.sending (pending c)) is
          (subst (λ (l : List Parcel). KeepsFrom b.sending (pending b) c.sending (c.sending.waiting ++ l)) out
          (keeps_more b.sending c.sending b.sending.waiting c.sending.waiting (emitted b) h.keeps)));
    }

front_empty : (xs ys : List Parcel) → xs ++ ys ≡ [] → xs ≡ []
front_empty [] ys is = refl
front_empty (x ∷ xs) ys is = absurd cc

-- a refill changes nothing where nothing pends
refill_stays : (a r : RankState) → pending r ≡ pending a → pending a ≡ [] →
    r.sending ≡ record a.sending { waiting = r.sending.waiting } → r.sending ≡ a.sending
refill_stays a r same none is =
    let old : a.sending.waiting ≡ [] = front_empty a.sending.waiting (emitted a) none in
    let new : r.sending.waiting ≡ [] = front_empty r.sending.waiting (emitted r) (same ∙ none) in
    is ∙ ap (λ (w : List Parcel). record a.sending { waiting = w }) (new ∙ sym old)

-- nothing goes behind a refill where nothing pends
pub none_goes : (a r b : RankState) (s : SendingState) (o : OutgoingRecord) → b ≡ r → pending r ≡ pending a →
    r.sending ≡ record a.sending { waiting = r.sending.waiting } →
    (b.sending.waiting ≡ [] → (o.count ≡ 0) × (s ≡ b.sending)) → pending a ≡ [] → (o.count ≡ 0) × (s ≡ a.sending)
none_goes a r b s o is same sending stays none =
    let empty : pending b ≡ [] = ap pending is ∙ same ∙ none in
    let gone = stays (front_empty b.sending.waiting (emitted b) empty) in
    (gone.0, gone.1 ∙ ap (λ (x : RankState). x.sending) is ∙ refill_stays a r same none sending)

-- the same of a second refill
pub none_goes_again : (a r b q d : RankState) (m s : SendingState) (o p : OutgoingRecord) → b ≡ r → pending r ≡ pending a →
    r.sending ≡ record a.sending { waiting = r.sending.waiting } →
    (b.sending.waiting ≡ [] → (o.count ≡ 0) × (m ≡ b.sending)) →
    d ≡ q → pending q ≡ pending (record b { sending = m }) → q.sending ≡ record m { waiting = q.sending.waiting } →
    (d.sending.waiting ≡ [] → (p.count ≡ 0) × (s ≡ d.sending)) → pending a ≡ [] → (p.count ≡ 0) × (s ≡ a.sending)
none_goes_again a r b q d m s o p is same sending stays after left again last none =
    let empty : pending b ≡ [] = ap pending is ∙ same ∙ none in
    let waiting : b.sending.waiting ≡ [] = front_empty b.sending.waiting (emitted b) empty in
    let first = stays waiting in
    let pends : pending (record b { sending = m }) ≡ [] =
    ap (λ (t : SendingState). t.waiting ++ emitted b) first.1 ∙ empty in
    let second = none_goes (record b { sending = m }) q d s p after left again last pends in
    let before = none_goes a r b m o is same sending stays none in
    (second.0, second.1 ∙ before.1)

-- what isn't late stays kept back
pub stays_back : (a s b : RankState) (t : SendingState) (kept_too : Bool) (o p : OutgoingRecord) → StaysSo a o s → b ≡ s →
    (kept_too ≡ false → nat_lt b.sending.time (late_at b.sending.kept b.sending.since) ≡ true →
    (p.count ≡ 0) × (t ≡ b.sending)) →
    pending a ≡ [] → kept_too ≡ false → nat_lt a.sending.time (late_at a.sending.kept a.sending.since) ≡ true →
    (p.count ≡ 0) × (t ≡ a.sending)
stays_back a s b t kept_too o p first is stays none back late =
    let same : b.sending ≡ a.sending = ap (λ (x : RankState). x.sending) is ∙ (first none).1 in
    let gone = stays back
    (subst (λ (u : SendingState). nat_lt u.time (late_at u.kept u.since) ≡ true) (sym same) late) in
    (gone.0, gone.1 ∙ same)

-- where there is a place and memory is wanting
pub no_memory : (p : PlaceRecord) (limit : MessageLimit) (place : Place) (n : ℕ) → AreLimits p limit →
    place ≡ place_said p limit → place_fault place ≡ None → n ≡ 14 → IsNoPlace p n
no_memory p limit place n limits said none is =
    inr (
      limit,
      (
        limits,
        (
          OutOfMemory,
          (subst (λ (f : Option Refusal). IsRefusal f OutOfMemory) (sym (ap place_fault (sym said) ∙ none)) refl, is),
        ),
      ),
    )
