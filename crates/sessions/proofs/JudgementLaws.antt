-- What is heard, by how the header is judged.
use Rattle.std.proofs.Common.{◌≡◌, ℕ, ◌-◌, ◌^◌, List, Result, Ok, ap, arith, subst}
use Rattle.reliable_link.specs.SenderState.{SenderState, IsOfSent, out_end, after_reset}
use Rattle.datagram.specs.declared.refusal.DatagramRefusal as lower
use Rattle.datagram.specs.Spellings.{DatagramText}
use Rattle.datagram.specs.ByteMeanings.{datagram_within}
use Rattle.incarnation.specs.declared.judgement.Judgement.{Judgement}
use Rattle.incarnation.specs.declared.refusal.IncarnationRefusal as judging
use Rattle.incarnation.specs.Judgements.{judgement}
use Rattle.incarnation.specs.declared.place.Place.{Place}
use Rattle.sessions.specs.declared.heard.Heard.{Heard}
use Rattle.sessions.specs.declared.heard.Unheard.{Unheard}
use Rattle.sessions.specs.SessionsState.{SessionsState, knowledge}
use Rattle.sessions.specs.HeardBytes.{Hears, heard_by, heard_of}

abbrev good : DatagramText → Result DatagramText lower.DatagramRefusal
good d = Ok d

pub hears : (s : SessionsState) (bytes : List ℕ) (d : DatagramText) (j : Result Judgement judging.IncarnationRefusal)
    (r : Result Heard Unheard)
    → datagram_within s.place.message_limit bytes ≡ Ok d → judgement (knowledge s) d.header ≡ j →
    Hears r (heard_by j s d bytes) → Hears r (heard_of s bytes)
unfolding heard_of
hears s bytes d j r read judged h = rw (read, judged) h

-- the same where the limit was taken from the place as it was answered
pub hears_at : (p : Place) (s : SessionsState) (bytes : List ℕ) (d : DatagramText)
    (j : Result Judgement judging.IncarnationRefusal) (r : Result Heard Unheard) → p ≡ s.place →
    datagram_within p.message_limit bytes ≡ Ok d → judgement (knowledge s) d.header ≡ j →
    Hears r (heard_by j s d bytes) → Hears r (heard_of s bytes)
hears_at p s bytes d j r is read judged h =
    hears s bytes d j r
    (subst (λ (q : Place). datagram_within q.message_limit bytes ≡ good d) is read) judged h

-- ---- of a session that starts anew nothing went out

-- so only number 0 can be acknowledged, and nothing be held
pub none_sent : (s : SenderState) (n held : ℕ) → n ≡ 0 → held ≡ 0 → IsOfSent (after_reset s) n held
none_sent s n held zero_is none =
    let zero : out_end (after_reset s) - n ≡ 0 = omega arith in
    record { number = omega (arith, zero_is); marks = omega (arith, none, ap (λ (m : ℕ). 2 ^ m) zero) }

pub nothing_sent : (s : SenderState) (n held : ℕ) → IsOfSent (after_reset s) n held → (n ≡ 0) × (held ≡ 0)
nothing_sent s n held h =
    let zero : out_end (after_reset s) - n ≡ 0 = omega arith in
    (omega (arith, h.number), omega (arith, h.marks, ap (λ (m : ℕ). 2 ^ m) zero))
