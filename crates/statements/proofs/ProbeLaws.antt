-- Probes and the messages that they find: reading and the grammar agree.
use Rattle.std.proofs.Common.{◌≡◌, ℕ, List, [], ◌∷◌, Option, Some, refl, sym, ap, subst, ◌∙◌}
use Rattle.std.specs.Prelude.{codes}
use Rattle.vocabulary.specs.declared.envelope.Source.{Source}
use Rattle.statements.specs.declared.action.CommunicatorName.{CommunicatorName}
use Rattle.statements.specs.declared.action.Probing.{Probing}
use Rattle.statements.specs.declared.action.Landing.{Landing}
use Rattle.statements.specs.declared.action.LayoutClause.{LayoutClause}
use Rattle.statements.specs.declared.action.Action.TheVariants as actions
use Rattle.statements.specs.Grammar.{IsProbing, IsLanding, Spells}
use Rattle.tokens.specs.Grammar.{Word}
use Rattle.tokens.specs.Results.{◌>>=◌}
use Rattle.tokens.specs.Fields.{first, end_of_line, name_of}
use Rattle.tokens.proofs.WordLaws.{bind_ok, made}
use Rattle.tokens.proofs.FieldLaws.{named_takes, named_again}
use Rattle.statements.specs.LineWords.{
  communicator_of,
  source_of,
  tag_of,
  through_of,
  probing_of,
  landing_of,
  improbe_of,
}
use Rattle.statements.specs.LineWords.{mrecv_of}
use Rattle.statements.proofs.FieldLaws.{communicator_takes, communicator_again, source_takes, source_again, tag_takes}
use Rattle.statements.proofs.FieldLaws.{tag_again, through_takes, through_again}
use Rattle.statements.proofs.FieldSteps.{two, three}

-- ---- `COMM SRC TAG`

probe_made : CommunicatorName → Source → Option ℕ → Probing
probe_made c r t = record { communicator = c; source = r; tag = t }

pub probing_takes : (words : List Word) (probe : Probing) → probing_of words ≡ Some probe → IsProbing words probe
unfolding probing_of first end_of_line probe_made
probing_takes [] probe e = absurd cc
probing_takes (a ∷ []) probe e = absurd cc
probing_takes (a ∷ b ∷ []) probe e = absurd cc
probing_takes (a ∷ b ∷ c ∷ d ∷ rest) probe e = absurd cc
probing_takes (a ∷ b ∷ c ∷ []) probe e =
    let p = three (communicator_of a) (source_of b) (tag_of c) probe_made probe e in
    subst (IsProbing (a ∷ b ∷ c ∷ [])) p.6 (
      a,
      b,
      c,
      refl,
      communicator_takes a p.0 p.3,
      source_takes b p.1 p.4,
      tag_takes c p.2 p.5,
    )

probe_from : (a b c : Word) (probe : Probing) → communicator_of a ≡ Some probe.communicator →
    source_of b ≡ Some probe.source → tag_of c ≡ Some probe.tag
    → probing_of (a ∷ b ∷ c ∷ []) ≡ Some probe
unfolding probing_of first end_of_line
probe_from a b c probe qa qb qc = rw (qa, qb, qc) refl

pub probing_again : (words : List Word) (probe : Probing) → IsProbing words probe → probing_of words ≡ Some probe
probing_again words probe h =
    ap probing_of h.3
    ∙ probe_from h.0 h.1 h.2 probe (communicator_again h.0 probe.communicator h.4) (source_again h.1 probe.source h.5)
    (tag_again h.2 probe.tag h.6)

-- ---- `B`, and what stands behind it

landing_made : Word → Option LayoutClause → Landing
landing_made b u = record { buffer = b; through = u }

pub landing_takes : (words : List Word) (landing : Landing) → landing_of words ≡ Some landing → IsLanding words landing
unfolding landing_of first landing_made
landing_takes [] landing e = absurd cc
landing_takes (a ∷ rest) landing e =
    let p = two (name_of a) (through_of rest) landing_made landing e in
    subst (IsLanding (a ∷ rest)) p.4 (a, rest, refl, named_takes a p.0 p.2, through_takes rest p.1 p.3)

landing_from : (a : Word) (rest : List Word) (landing : Landing) → name_of a ≡ Some landing.buffer →
    through_of rest ≡ Some landing.through
    → landing_of (a ∷ rest) ≡ Some landing
unfolding landing_of first
landing_from a rest landing qa qb = rw (qa, qb) refl

pub landing_again : (words : List Word) (landing : Landing) → IsLanding words landing → landing_of words ≡ Some landing
landing_again words landing h =
    ap landing_of h.2 ∙ landing_from h.0 h.1 landing (named_again h.0 landing.buffer h.3)
    (through_again h.1 landing.through h.4)

-- ---- lines

pub improbe_takes : (words : List Word) (made : Word × Probing) → improbe_of words ≡ Some made →
    Spells (codes "improbe" ∷ words) (actions.Improbe made.0 made.1)
unfolding improbe_of first
improbe_takes [] made e = absurd cc
improbe_takes (w ∷ ws) m e =
    let a = bind_ok (name_of w) (λ q. probing_of ws >>= λ probe. Some (q, probe)) m e in
    let b = bind_ok (probing_of ws) (λ probe. Some (a.0, probe)) m a.2 in
    made (λ (m : Word × Probing). Spells (codes "improbe" ∷ w ∷ ws) (actions.Improbe m.0 m.1)) (a.0, b.0) m
    (w, ws, refl, named_takes w a.0 a.1, probing_takes ws b.0 b.1) b.2

pub improbe_from : (name : Word) (rest : List Word) (message : Word) (probe : Probing) → name_of name ≡ Some message →
    probing_of rest ≡ Some probe → improbe_of (name ∷ rest) ≡ Some (message, probe)
unfolding improbe_of first
improbe_from name rest message probe q p = rw (q, p) refl

pub mrecv_takes : (words : List Word) (made : Word × Landing) → mrecv_of words ≡ Some made →
    Spells (codes "mrecv" ∷ words) (actions.Mrecv made.0 made.1)
unfolding mrecv_of first
mrecv_takes [] made e = absurd cc
mrecv_takes (w ∷ ws) m e =
    let a = bind_ok (name_of w) (λ q. landing_of ws >>= λ landing. Some (q, landing)) m e in
    let b = bind_ok (landing_of ws) (λ landing. Some (a.0, landing)) m a.2 in
    made (λ (m : Word × Landing). Spells (codes "mrecv" ∷ w ∷ ws) (actions.Mrecv m.0 m.1)) (a.0, b.0) m
    (w, ws, refl, named_takes w a.0 a.1, landing_takes ws b.0 b.1) b.2

pub mrecv_from : (name : Word) (rest : List Word) (message : Word) (landing : Landing) → name_of name ≡ Some message →
    landing_of rest ≡ Some landing → mrecv_of (name ∷ rest) ≡ Some (message, landing)
unfolding mrecv_of first
mrecv_from name rest message landing q l = rw (q, l) refl
