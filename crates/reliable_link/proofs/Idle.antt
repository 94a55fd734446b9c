-- A sender to which no frame came.
use Rattle.std.proofs.Common.{◌≡◌, ℕ, ◌-◌, ◌≤◌, [], length, Option, None, true, refl, sym, ap, subst, ◌∙◌, arith}
use Rattle.std.specs.declared.boxed.Box.{Box}
use Rattle.reliable_link.specs.SenderState.{SenderState, StandsAt, out_end, passed_to, with_marks}
use Rattle.reliable_link.specs.SenderState.{after_ack, after_due, after_wait, due_at}
use Rattle.reliable_link.specs.Places.{sender_in}
use Rattle.reliable_link.proofs.Senders.{is_passed, is_noted, nothing_enters, frames_left, ticked}

-- no frame came yet
abbrev pub idle : (clock wait : ℕ) → SenderState
idle clock wait = record { lowest = 0; frames = []; clock = clock; wait = wait }

-- a sender that hasn't begun is one
pub is_idle : {Z : Type 0} (b : Option (Box SenderState Z)) (clock wait : ℕ) (s : SenderState) → sender_in b clock wait ≡ s →
    b ≡ None → idle clock wait ≡ s
is_idle {Z} b clock wait s is none = ap (λ (o : Option (Box SenderState Z)). sender_in o clock wait) (sym none) ∙ is

-- an acknowledgement can be of none alone
none_acknowledged : (clock wait : ℕ) (s : SenderState) (n : ℕ) → idle clock wait ≡ s → n ≤ out_end s → n ≤ 0
none_acknowledged clock wait s n at le = omega (arith, le, ap out_end at)

-- and it brings nothing into the window
pub idle_end : (clock wait : ℕ) (s : SenderState) (n : ℕ) → idle clock wait ≡ s → n ≤ out_end s → 0 ≡ out_end (passed_to s n)
idle_end clock wait s n at le = nothing_enters (idle clock wait) s n 0 at (none_acknowledged clock wait s n at le) refl

-- it leaves none
pub idle_left : (clock wait : ℕ) (s : SenderState) (n : ℕ) → idle clock wait ≡ s → n ≤ out_end s →
    0 ≡ length (passed_to s n).frames
idle_left clock wait s n at le =
    let none : 0 ≡ 0 - (n - 0) = omega arith in
    none ∙ frames_left (idle clock wait) s n 0 at le refl

-- and changes nothing
pub idle_acknowledged : (clock wait : ℕ) (s : SenderState) (n held : ℕ) → idle clock wait ≡ s → n ≤ 0 → s ≡ after_ack s n held
idle_acknowledged clock wait s n held at le =
    subst (λ (u : SenderState). u ≡ after_ack u n held) at
    (sym (is_noted (idle clock wait) n held (omega arith) ∙ ap (with_marks held) (is_passed (idle clock wait) n le)))

-- a tick sets the clock alone
pub idle_ticked : (clock wait : ℕ) (s : SenderState) (now : ℕ) → idle clock wait ≡ s → idle now wait ≡ after_due s now
idle_ticked clock wait s now at = ticked (idle clock wait) s 0 now [] at refl refl

-- nothing is ever due
pub idle_stands : (clock wait : ℕ) (s : SenderState) (now : ℕ) → idle clock wait ≡ s → now ≡ clock → StandsAt s now
idle_stands clock wait s now at same = (
  ap (λ (u : SenderState). u.clock) (sym at) ∙ sym same,
  ap (λ (u : SenderState). due_at u now) (sym at),
  sym (idle_ticked clock wait s now at) ∙ ap (λ (c : ℕ). idle c wait) same ∙ at,
)

-- how long frames wait is set alone
pub idle_waits : (clock wait : ℕ) (s : SenderState) (later : ℕ) → idle clock wait ≡ s →
    idle clock later ≡ after_wait s later
idle_waits clock wait s later at = ap (λ (u : SenderState). after_wait u later) at
