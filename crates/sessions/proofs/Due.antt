-- What is due is due in some frame of some session.
use Rattle.std.proofs.Common.{◌≡◌, ℕ, zero, suc, ◌+◌, ◌<◌, List, [], ◌∷◌, ◌++◌, take, length, get_or, refl, sym, ap, arith, ◌∙◌}
use Rattle.std.specs.Prelude.{Bool, true, false, Err, Ok, OnErr, Result, Some, slice_get}
use Rattle.reliable_link.specs.declared.out_frame.OutFrame.{OutFrame}
use Rattle.reliable_link.specs.SenderState.{HasDue, IsSomeDue, SenderState, due_at, is_due, numbers_due, out_count}
use Rattle.sessions.specs.declared.peers.Peer.{Peer}
use Rattle.sessions.specs.Peers.{IsAnyDue, due_out, frames_out}

not_none : {A : Type 0} (x : A) (xs : List A) → x ∷ xs ≡ [] → ⊥
not_none x xs h = absurd cc

-- what holds anyhow holds of an error
pub on_error : {X E P : Type 0} (r : Result X E) → P → OnErr r P
on_error (Ok x) p = tt
on_error (Err e) p = p

-- where a number is noted, a frame is due
pub numbers_some : (wait now n : ℕ) (fs : List OutFrame) → (numbers_due wait now n fs ≡ [] → ⊥) →
    HasDue wait now fs
numbers_some wait now n [] some = absurd (some refl)
numbers_some wait now n (f ∷ fs) some = go (is_due wait now f) refl (numbers_some wait now (n + 1) fs)
  where
    go : (t : Bool) → is_due wait now f ≡ t →
        ((numbers_due wait now (n + 1) fs ≡ [] → ⊥) → HasDue wait now fs) → HasDue wait now (f ∷ fs)
    go true due rest = (0, f, refl, due)
    go false due rest =
        let later : HasDue wait now fs = rest (λ none. some (rw due none)) in
        (suc later.0, later.1, later.2, later.3)

-- where the numbers that are due are some, a frame of the session is due
pub some_due : (s : SenderState) (now : ℕ) → (due_at s now ≡ [] → ⊥) → IsSomeDue s now
some_due s now some = numbers_some s.wait now s.lowest (take (out_count s) s.frames) some

-- where something goes out, a frame is due
pub out_some : (rank now : ℕ) (ps : List Peer) → (due_out rank ps now ≡ [] → ⊥) → IsAnyDue ps now
out_some rank now [] some = absurd (some refl)
out_some rank now (p ∷ ps) some = go (due_at p.sender now) refl (out_some (suc rank) now ps)
  where
    go : (ns : List ℕ) → due_at p.sender now ≡ ns → ((due_out (suc rank) ps now ≡ [] → ⊥) → IsAnyDue ps now) →
        IsAnyDue (p ∷ ps) now
    go [] is rest =
        let later : IsAnyDue ps now = rest (λ none. some (rw is none)) in
        (suc later.0, later.1, later.2, later.3)
    go (n ∷ ns) is rest = (0, p, refl, some_due p.sender now (λ none. not_none n ns (sym is ∙ none)))

-- what stands at a place within is found there
pub at_place : (ps : List Peer) (place : ℕ) (p : Peer) → place < length ps → p ≡ get_or ps place p →
    slice_get ps place ≡ Some p
at_place [] place p within is = absurd (omega (arith, within))
at_place (q ∷ ps) zero p within is = ap Some (sym is)
at_place (q ∷ ps) (suc place) p within is = at_place ps place p (omega (arith, within)) is
