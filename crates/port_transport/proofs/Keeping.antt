-- What is kept back, and for how long.
use Rattle.std.proofs.Common.{◌≡◌, ℕ, List, [], ◌∷◌, refl, ap, subst, ◌∙◌, inl, inr}
use Rattle.std.specs.Prelude.{◌≢◌, ◌⊎◌, option_map, Option, Some, None, IfSome}
use Rattle.std.specs.declared.time.Instant.{Instant}
use Rattle.delayed_acknowledgements.specs.Acknowledgements.{Covers, IsUrgent}
use Rattle.delayed_acknowledgements.specs.declared.acknowledgements.Acknowledgement.{Acknowledgement}
use Rattle.delayed_acknowledgements.specs.declared.delay.Delay.{Delay}
use Rattle.delayed_acknowledgements.specs.declared.delayed.DelayedAcknowledgement.{DelayedAcknowledgement}
use Rattle.port_transport.specs.Ports.{Begins, IsDelayOfNext, KeepsNext, KeepsBehind, Passes, PortState}
use Rattle.port_transport.specs.Ports.{for_one_more, unless_over}
use Rattle.port_transport.specs.declared.wire.WireEvent.{WireEvent}

-- the former one leaves where it isn't covered
former_leaves : {P : Type 0} (leaves : Option DelayedAcknowledgement) (k : DelayedAcknowledgement) →
    (leaves ≡ Some k) ⊎ P → (P → ⊥) → leaves ≢ None
former_leaves leaves k (inl some) not = λ none. absurd cc
former_leaves leaves k (inr covers) not = λ none. not covers

-- the delay of the next one, by what leaves before it
pub next_delay : (now : Option Instant → Type 0) (former leaves : Option DelayedAcknowledgement)
    (next : DelayedAcknowledgement) (m d : Delay) →
    IfSome former (λ k. (leaves ≡ Some k) ⊎ Covers next.said k.said) →
    IfSome former (λ k. Covers next.said k.said → leaves ≡ None) →
    IfSome former (λ k. leaves ≡ None → d ≡ for_one_more m) → ((former ≡ None) ⊎ (leaves ≢ None) → Begins now d) →
    IsDelayOfNext now former m next.said d
next_delay now None leaves next m d lost covered goes_on begins = begins (inl refl)
next_delay now (Some k) leaves next m d lost covered goes_on begins =
    (λ covers. goes_on (covered covers), λ not. begins (inr (former_leaves leaves k lost not)))

-- an acknowledgement that is kept back, by its parts
by_parts : (k : DelayedAcknowledgement) (target : ℕ) (said : Acknowledgement) (bytes : List ℕ) → k.target ≡ target →
    k.said ≡ said → k.bytes ≡ bytes → k ≡ record { target = target; said = said; bytes = bytes }
by_parts k target said bytes goes says spells =
    ap (λ (n : ℕ). record { target = n; said = k.said; bytes = k.bytes }) goes
    ∙ ap (λ (a : Acknowledgement). record { target = target; said = a; bytes = k.bytes }) says
    ∙ ap (λ (l : List ℕ). record { target = target; said = said; bytes = l }) spells

-- what is said of one that was kept back is said of the bytes and the rank that it was made of
pub named : {W : Type 0} (did : W → List WireEvent → W → Type 0) (s t : PortState W) (target : ℕ) (bytes : List ℕ)
    (next : DelayedAcknowledgement) → next.target ≡ target → next.bytes ≡ bytes →
    Passes did s ((next.target, next.bytes) ∷ []) [] [] t → Passes did s ((target, bytes) ∷ []) [] [] t
named did s t target bytes next goes spells passes =
    subst (λ (l : List ℕ). Passes did s ((target, l) ∷ []) [] [] t) spells
    (subst (λ (n : ℕ). Passes did s ((n, next.bytes) ∷ []) [] [] t) goes passes)

-- the delay of the next one, behind the same
pub delay_from_same : {W : Type 0} (tells : W → Option Instant → Type 0) (v w : W)
    (k l : Option DelayedAcknowledgement) (c d : Delay) (said : Acknowledgement) (e : Delay) → v ≡ w → k ≡ l → c ≡ d →
    IsDelayOfNext (tells v) k c said e → IsDelayOfNext (tells w) l d said e
delay_from_same tells v w k l c d said e wire kept delay is =
    subst (λ (x : Delay). IsDelayOfNext (tells w) l x said e) delay
    (subst (λ (o : Option DelayedAcknowledgement). IsDelayOfNext (tells w) o c said e) kept
    (subst (λ x. IsDelayOfNext (tells x) k c said e) wire is))

-- what is said of one beginning is said of another one in which the same is kept back
pub next_from_same : {W : Type 0} (tells : W → Option Instant → Type 0) (s m t : PortState W)
    (next : DelayedAcknowledgement) → m.wire ≡ s.wire → m.kept ≡ s.kept → m.delay ≡ s.delay → m.last ≡ s.last →
    KeepsNext tells m next t → KeepsNext tells s next t
next_from_same tells s m t next wire kept delay last keeps = record {
  last = keeps.last;
  delay = delay_from_same tells m.wire s.wire m.kept s.kept m.delay s.delay next.said t.delay wire kept delay
      keeps.delay;
  urgent = subst (λ (o : Option Acknowledgement). IsUrgent o next.said → t.kept ≡ None) last keeps.urgent;
  other = subst (λ (o : Option Acknowledgement). (IsUrgent o next.said → ⊥) → t.kept ≡ unless_over t.delay (Some next))
      last keeps.other;
}

-- where bytes spell an acknowledgement
pub behind_short : {W : Type 0} (tells : W → Option Instant → Type 0) (s t : PortState W) (target : ℕ)
    (bytes : List ℕ) (next : DelayedAcknowledgement) (told : Option DelayedAcknowledgement) (said : Option Acknowledgement) →
    option_map (λ (k : DelayedAcknowledgement). k.said) told ≡ said →
    IfSome told (λ k. (k.target ≡ target) × (k.bytes ≡ bytes)) → told ≡ Some next →
    KeepsNext tells s next t → KeepsBehind tells s target bytes said t
behind_short tells s t target bytes next None said spelled whole is keeps = absurd cc
behind_short tells s t target bytes next (Some k) None spelled whole is keeps = absurd cc
behind_short tells s t target bytes next (Some k) (Some said) spelled whole is keeps =
    let same : next ≡ k = cc in
    let says : k.said ≡ said = cc in
    let parts = by_parts k target said bytes whole.0 says whole.1 in
    subst (λ (n : DelayedAcknowledgement). KeepsNext tells s n t) (same ∙ parts) keeps
