-- Single steps of a transport over ports.
use Rattle.std.proofs.Common.{◌≡◌, ℕ, List, [], ◌∷◌, ◌++◌, Bool, true, false, refl, sym, ap, subst, ◌∙◌, inl, inr}
use Rattle.std.proofs.lemmas.List.{append-nil}
use Rattle.std.specs.Prelude.{◌⊎◌, map, not, is_some, option_map, Option, Some, None, IfSome, IsSomeAnd, OnOk, Result}
use Rattle.std.specs.Prelude.{Ok, Err, if◌then◌else◌}
use Rattle.delayed_acknowledgements.specs.Acknowledgements.{Covers, short_acknowledgement}
use Rattle.delayed_acknowledgements.specs.declared.delayed.DelayedAcknowledgement.{DelayedAcknowledgement}
use Rattle.port_transport.specs.declared.wire.WireEvent.{WireEvent}
use Rattle.port_transport.specs.declared.wire.WireEvent.TheVariants.{Went}
use Rattle.port_transport.specs.Wires.{Parcel, arrived, come, gone, written}
use Rattle.port_transport.specs.Ports.{GoesOrStays, IsAcknowledgement, Passes, PortState, Thins, at_port}
use Rattle.port_transport.specs.Ports.{going, is_short, kept_at, plain_in, port_of, short_in, with_end}
use Rattle.port_transport.proofs.OmittedDatagrams.{all_go}

-- one datagram among the acknowledgements, or among all others
short_one : (p : Parcel) → is_short p ≡ true → short_in (p ∷ []) ≡ p ∷ []
short_one p is = ap (λ (b : Bool). if b then p ∷ [] else []) is

plain_none : (p : Parcel) → is_short p ≡ true → plain_in (p ∷ []) ≡ []
plain_none p is = ap (λ (b : Bool). if not b then p ∷ [] else []) is

short_none : (p : Parcel) → is_short p ≡ false → short_in (p ∷ []) ≡ []
short_none p is = ap (λ (b : Bool). if b then p ∷ [] else []) is

plain_one : (p : Parcel) → is_short p ≡ false → plain_in (p ∷ []) ≡ p ∷ []
plain_one p is = ap (λ (b : Bool). if not b then p ∷ [] else []) is

-- what is kept back is an acknowledgement
is_short_kept : (port : ℕ) (k : DelayedAcknowledgement) → IsAcknowledgement k → is_short (port, k.bytes) ≡ true
is_short_kept port k is = ap is_some is

short_going : (first : ℕ) (kept : Option DelayedAcknowledgement) → IfSome kept IsAcknowledgement →
    short_in (gone (going first kept)) ≡ kept_at first kept
short_going first None is = refl
short_going first (Some k) is =
    short_one (port_of first k.target, k.bytes) (is_short_kept (port_of first k.target) k is)

plain_going : (first : ℕ) (kept : Option DelayedAcknowledgement) → IfSome kept IsAcknowledgement →
    plain_in (gone (going first kept)) ≡ []
plain_going first None is = refl
plain_going first (Some k) is =
    plain_none (port_of first k.target, k.bytes) (is_short_kept (port_of first k.target) k is)

come_going : (first : ℕ) (kept : Option DelayedAcknowledgement) → come (going first kept) ≡ []
come_going first None = refl
come_going first (Some k) = refl

written_going : (first : ℕ) (kept : Option DelayedAcknowledgement) → written (going first kept) ≡ []
written_going first None = refl
written_going first (Some k) = refl

-- what is kept back stays, and the wire sends nothing
pub stays : {W : Type 0} (did : W → List WireEvent → W → Type 0) (s t : PortState W) (events : List WireEvent)
    (received printed : List (List ℕ)) → did s.wire events t.wire → t.first ≡ s.first → t.kept ≡ s.kept →
    gone events ≡ [] → come events ≡ received → written events ≡ map with_end printed →
    Passes did s [] received printed t
stays did s t events received printed wire first kept none came wrote = record {
  events = events;
  wire = wire;
  first = first;
  plain = ap plain_in none;
  short = subst (λ (l : List Parcel). Thins (kept_at s.first s.kept ++ []) l)
      (append-nil (kept_at s.first s.kept) ∙ ap (λ (n : ℕ). kept_at n s.kept) (sym first)
      ∙ ap (λ k. kept_at t.first k) (sym kept) ∙ ap (λ (l : List Parcel). short_in l ++ kept_at t.first t.kept) (sym none))
      (all_go (kept_at s.first s.kept ++ []));
  came = came;
  wrote = wrote;
}

-- what is kept back goes, and nothing is then
pub goes : {W : Type 0} (did : W → List WireEvent → W → Type 0) (s t : PortState W) →
    IfSome s.kept IsAcknowledgement → did s.wire (going s.first s.kept) t.wire → t.first ≡ s.first → t.kept ≡ None →
    Passes did s [] [] [] t
goes did s t is wire first none = record {
  events = going s.first s.kept;
  wire = wire;
  first = first;
  plain = plain_going s.first s.kept is;
  short = subst (λ (l : List Parcel). Thins (kept_at s.first s.kept ++ []) l)
      (ap (λ (l : List Parcel). l ++ []) (sym (short_going s.first s.kept is))
      ∙ ap (λ k. short_in (gone (going s.first s.kept)) ++ kept_at t.first k) (sym none))
      (all_go (kept_at s.first s.kept ++ []));
  came = come_going s.first s.kept;
  wrote = written_going s.first s.kept;
}

-- what is kept back goes, or stays
pub goes_or_stays : {W : Type 0} (did : W → List WireEvent → W → Type 0) (s t : PortState W) →
    IfSome s.kept IsAcknowledgement → GoesOrStays did s t → Passes did s [] [] [] t
goes_or_stays did s t is (first, inl still) = stays did s t [] [] [] still.0 first still.1 refl refl refl
goes_or_stays did s t is (first, inr gone) = goes did s t is gone.0 first gone.1

-- what follows from what is so where there is no error
pub on_ok : {X E A B : Type 0} (r : Result X E) → (A → B) → OnOk r A → OnOk r B
on_ok (Ok x) f a = f a
on_ok (Err e) f a = tt

-- of an acknowledgement before the next one, and of the next one: they go, unless the next one says all of it
thins_two : (first : ℕ) (former leaves : Option DelayedAcknowledgement) (next : DelayedAcknowledgement) →
    IfSome former IsAcknowledgement → IsAcknowledgement next →
    IfSome former (λ k. (leaves ≡ Some k) ⊎ Covers next.said k.said) → ((leaves ≡ None) ⊎ (leaves ≡ former)) →
    Thins (kept_at first former ++ (port_of first next.target, next.bytes) ∷ [])
    (kept_at first leaves ++ (port_of first next.target, next.bytes) ∷ [])
thins_two first None None next is named lost other = all_go ((port_of first next.target, next.bytes) ∷ [])
thins_two first None (Some l) next is named lost (inl none) = absurd cc
thins_two first None (Some l) next is named lost (inr none) = absurd cc
thins_two first (Some k) None next is named (inl some) other = absurd cc
thins_two first (Some k) None next is named (inr covers) other =
    inr (
      subst (λ o. IsSomeAnd o (λ x. IsSomeAnd (short_acknowledgement next.bytes) (λ y. Covers y x))) (sym is)
          (subst (λ o. IsSomeAnd o (λ y. Covers y k.said)) (sym named) covers),
      inl ([], refl, refl),
    )
thins_two first (Some k) (Some l) next is named lost (inl none) = absurd cc
thins_two first (Some k) (Some l) next is named lost (inr same) =
    subst (λ (o : Option DelayedAcknowledgement).
    Thins (kept_at first (Some k) ++ (port_of first next.target, next.bytes) ∷ [])
    (kept_at first o ++ (port_of first next.target, next.bytes) ∷ [])) (sym same)
    (all_go (kept_at first (Some k) ++ (port_of first next.target, next.bytes) ∷ []))

-- what leaves is an acknowledgement, since the former one is
leaves_is : (former leaves : Option DelayedAcknowledgement) → IfSome former IsAcknowledgement →
    ((leaves ≡ None) ⊎ (leaves ≡ former)) → IfSome leaves IsAcknowledgement
leaves_is former leaves is (inl none) = subst (λ (o : Option DelayedAcknowledgement). IfSome o IsAcknowledgement) (sym none) tt
leaves_is former leaves is (inr same) = subst (λ (o : Option DelayedAcknowledgement). IfSome o IsAcknowledgement) (sym same) is

-- an acknowledgement is kept back from now on, behind the one that leaves; before, the former one was taken
pub puts : {W : Type 0} (did : W → List WireEvent → W → Type 0) (s m t : PortState W)
    (former leaves : Option DelayedAcknowledgement) (next : DelayedAcknowledgement) → former ≡ s.kept →
    IfSome s.kept IsAcknowledgement → IsAcknowledgement next →
    IfSome former (λ k. (leaves ≡ Some k) ⊎ Covers next.said k.said) → ((leaves ≡ None) ⊎ (leaves ≡ former)) →
    m.wire ≡ s.wire → m.first ≡ s.first → did m.wire (going m.first leaves) t.wire → t.first ≡ m.first →
    t.kept ≡ Some next → Passes did s ((next.target, next.bytes) ∷ []) [] [] t
puts did s m t former leaves next same is named lost other at by wire first kept =
    let losing = subst (λ (o : Option DelayedAcknowledgement). IfSome o (λ k. (leaves ≡ Some k) ⊎ Covers next.said k.said))
    same lost in
    let others = subst (λ (o : Option DelayedAcknowledgement). (leaves ≡ None) ⊎ (leaves ≡ o)) same other in
    let left = leaves_is s.kept leaves is others in
    let parcel : Parcel = (port_of s.first next.target, next.bytes) in
    let short = is_short_kept (port_of s.first next.target) next named in
    record {
      events = going s.first leaves;
      wire = subst (λ w. did w (going s.first leaves) t.wire) at
          (subst (λ (n : ℕ). did m.wire (going n leaves) t.wire) by wire);
      first = first ∙ by;
      plain = plain_going s.first leaves left ∙ sym (plain_none parcel short);
      short = subst (λ (l : List Parcel). Thins (kept_at s.first s.kept ++ short_in (parcel ∷ [])) l)
          (ap (λ (l : List Parcel). l ++ parcel ∷ []) (sym (short_going s.first leaves left))
          ∙ ap (λ (n : ℕ). short_in (gone (going s.first leaves)) ++ kept_at n (Some next)) (sym (first ∙ by))
          ∙ ap (λ k. short_in (gone (going s.first leaves)) ++ kept_at t.first k) (sym kept))
          (subst (λ (l : List Parcel). Thins (kept_at s.first s.kept ++ l) (kept_at s.first leaves ++ parcel ∷ []))
          (sym (short_one parcel short)) (thins_two s.first s.kept leaves next is named losing others));
      came = come_going s.first leaves;
      wrote = written_going s.first leaves;
    }

-- what is said of one beginning is said of another one with the same wire, ports and acknowledgement
pub from_same : {W : Type 0} (did : W → List WireEvent → W → Type 0) (s m t : PortState W) (sent : List Parcel)
    (received printed : List (List ℕ)) → m.wire ≡ s.wire → m.first ≡ s.first → m.kept ≡ s.kept →
    Passes did m sent received printed t → Passes did s sent received printed t
from_same did s m t sent received printed wire first kept p = record {
  events = p.events;
  wire = subst (λ w. did w p.events t.wire) wire p.wire;
  first = p.first ∙ first;
  plain = p.plain ∙ ap (λ (n : ℕ). plain_in (map (at_port n) sent)) first;
  short = subst (λ (k : Option DelayedAcknowledgement). Thins (kept_at s.first k ++ short_in (map (at_port s.first) sent))
      (short_in (gone p.events) ++ kept_at t.first t.kept)) kept
      (subst (λ (n : ℕ). Thins (kept_at n m.kept ++ short_in (map (at_port n) sent))
      (short_in (gone p.events) ++ kept_at t.first t.kept)) first p.short);
  came = p.came;
  wrote = p.wrote;
}

-- a datagram that is no acknowledgement goes
pub carried : {W : Type 0} (did : W → List WireEvent → W → Type 0) (s t : PortState W) (target : ℕ) (bytes : List ℕ) →
    short_acknowledgement bytes ≡ None → did s.wire (Went (port_of s.first target) bytes ∷ []) t.wire →
    t.first ≡ s.first → t.kept ≡ s.kept → Passes did s ((target, bytes) ∷ []) [] [] t
carried did s t target bytes none wire first kept =
    let parcel : Parcel = (port_of s.first target, bytes) in
    let plain : is_short parcel ≡ false = ap is_some none in
    record {
      events = Went (port_of s.first target) bytes ∷ [];
      wire = wire;
      first = first;
      plain = refl;
      short = subst (λ (l : List Parcel). Thins (kept_at s.first s.kept ++ l) (l ++ kept_at t.first t.kept))
          (sym (short_none parcel plain))
          (subst (λ (l : List Parcel). Thins (kept_at s.first s.kept ++ []) l)
          (append-nil (kept_at s.first s.kept) ∙ ap (λ (n : ℕ). kept_at n s.kept) (sym first)
          ∙ ap (λ k. kept_at t.first k) (sym kept))
          (all_go (kept_at s.first s.kept ++ [])));
      came = refl;
      wrote = refl;
    }

-- what comes is no datagram that goes, and nothing that is written
pub none_gone : (found : Option ℕ) (buffer : List ℕ) → gone (arrived found buffer) ≡ []
none_gone None buffer = refl
none_gone (Some n) buffer = refl

pub none_written : (found : Option ℕ) (buffer : List ℕ) → written (arrived found buffer) ≡ []
none_written None buffer = refl
none_written (Some n) buffer = refl

-- no acknowledgement is told of bytes that spell none
pub none_told : {X Y : Type 0} (f : X → Y) (o : Option X) (p : Option Y) → option_map f o ≡ p → o ≡ None → p ≡ None
none_told f o p told none = sym told ∙ ap (option_map f) none
