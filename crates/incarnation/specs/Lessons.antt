-- What holds however much is learnt: laws over whole lists of learns.
use Rattle.std.specs.Prelude.{◌≡◌, ℕ, ◌≤◌, List, [], ◌∷◌, length, Ok, Err}
use Rattle.datagram.specs.declared.datagram.Header.{Header}
use Rattle.incarnation.specs.declared.refusal.IncarnationRefusal.TheVariants.{StaleSource}
use Rattle.incarnation.specs.declared.judgement.Judgement.{Judgement}
use Rattle.incarnation.specs.declared.judgement.Judgement.TheVariants.{Current, Learn}
use Rattle.incarnation.specs.Knowledge.{Knowledge, known_at, after_learn}
use Rattle.incarnation.specs.Judgements.{judgement}

-- a rank, and the incarnation that is learnt of it
pub record Lesson : Type 0 where
  pub rank : ℕ
  pub incarnation : ℕ

-- what is known after lessons, one after the other
abbrev pub after_lessons : Knowledge → List Lesson → Knowledge
after_lessons k [] = k
after_lessons k (l ∷ ls) = after_lessons (after_learn k l.rank l.incarnation) ls

-- the incarnation at which a rank is known never falls
abbrev pub KnownNeverFalls : Type 0
KnownNeverFalls =
    (k : Knowledge) (lessons : List Lesson) (rank : ℕ)
    → known_at k rank ≤ known_at (after_lessons k lessons) rank

-- a datagram from a former incarnation is refused as that ever after
abbrev pub StaleSourcesStayStale : Type 0
StaleSourcesStayStale =
    (k : Knowledge) (lessons : List Lesson) (h : Header)
    → judgement k h ≡ Err StaleSource → judgement (after_lessons k lessons) h ≡ Err StaleSource

-- what is known once a datagram's lesson, if it has one, is learnt
abbrev pub after_judgement : Knowledge → Header → Judgement → Knowledge
after_judgement k h Current = k
after_judgement k h (Learn incarnation) = after_learn k h.source.rank incarnation

-- the source of the datagram is known at the incarnation in its header, and the datagram teaches
-- nothing more
pub record IsKnownFrom (k : Knowledge) (h : Header) : Type 0 where
  pub known : known_at k h.source.rank ≡ h.source.incarnation
  pub current : judgement k h ≡ Ok Current

-- so it is of every datagram that is not refused, once its lesson is learnt
abbrev pub WhatIsHandledIsKnown : Type 0
WhatIsHandledIsKnown =
    (k : Knowledge) (h : Header) (j : Judgement)
    → length k.known ≡ k.place.size → judgement k h ≡ Ok j → IsKnownFrom (after_judgement k h j) h
