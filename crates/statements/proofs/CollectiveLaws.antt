-- What is said of collectives that move elements: reading and the grammar agree.
use Rattle.std.proofs.Common.{◌≡◌, ◌≤◌, ℕ, arith, false, List, [], ◌∷◌, Option, Some, None, refl, sym, ap, subst, ◌∙◌}
use Rattle.std.specs.Prelude.{codes, slice_index}
use Rattle.std.specs.Str.{bytes_eq}
use Rattle.vocabulary.specs.declared.operation.Operation.{Operation}
use Rattle.vocabulary.specs.declared.operation.Operation.TheVariants as operations
use Rattle.statements.specs.declared.action.CommunicatorName.{CommunicatorName}
use Rattle.statements.specs.declared.collective_line.Broadcasting.{Broadcasting}
use Rattle.statements.specs.declared.collective_line.Gathering.{Gathering}
use Rattle.statements.specs.declared.collective_line.Scattering.{Scattering}
use Rattle.statements.specs.declared.collective_line.Reducing.{Reducing}
use Rattle.statements.specs.declared.collective_line.ReducingToAll.{ReducingToAll}
use Rattle.statements.specs.Grammar.{operation_word, IsBlocks, IsBroadcasting, IsGathering, IsScattering, IsReducing}
use Rattle.statements.specs.Grammar.{IsReducingToAll}
use Rattle.tokens.specs.Grammar.{Word, IsLetter}
use Rattle.tokens.specs.Fields.{first, end_of_line, name_of, rank_of}
use Rattle.statements.specs.LineWords.{communicator_of, operation_of, block_from, bcast_of, gather_of, scatter_of}
use Rattle.statements.specs.LineWords.{reduce_of, allreduce_of}
use Rattle.tokens.proofs.WordLaws.{Yields, step, yielded, bind_ok, made, pick, same_word, other_word}
use Rattle.tokens.proofs.FieldLaws.{named_takes, named_again, rank_takes, rank_again}
use Rattle.statements.proofs.FieldSteps.{three, four, five}
use Rattle.statements.proofs.FieldLaws.{communicator_takes, communicator_again}

-- ---- operations

operations_are : (word : Word) → Yields (operation_of word) (λ operation. word ≡ operation_word operation)
unfolding operation_of
operations_are word =
    let P : Operation → Type 0 = λ operation. word ≡ operation_word operation in
    step P (bytes_eq word (codes "max")) _ _ (same_word word (codes "max"))
    (step P (bytes_eq word (codes "min")) _ _ (same_word word (codes "min"))
    (step P (bytes_eq word (codes "sum")) _ _ (same_word word (codes "sum"))
    (step P (bytes_eq word (codes "prod")) _ _ (same_word word (codes "prod"))
    (step P (bytes_eq word (codes "land")) _ _ (same_word word (codes "land"))
    (step P (bytes_eq word (codes "lor")) _ _ (same_word word (codes "lor"))
    (step P (bytes_eq word (codes "lxor")) _ _ (same_word word (codes "lxor"))
    (step P (bytes_eq word (codes "band")) _ _ (same_word word (codes "band"))
    (step P (bytes_eq word (codes "bor")) _ _ (same_word word (codes "bor"))
    (step P (bytes_eq word (codes "bxor")) _ _ (same_word word (codes "bxor"))
    (step P (bytes_eq word (codes "affine")) _ _ (same_word word (codes "affine")) tt))))))))))

operation_takes : (word : Word) (operation : Operation) → operation_of word ≡ Some operation →
    word ≡ operation_word operation
operation_takes word operation e =
    yielded (λ operation. word ≡ operation_word operation) (operation_of word) operation (operations_are word) e

operation_again : (operation : Operation) → operation_of (operation_word operation) ≡ Some operation
unfolding operation_of
operation_again operations.Max = refl
operation_again operations.Min = refl
operation_again operations.Sum = refl
operation_again operations.Prod = refl
operation_again operations.Land = refl
operation_again operations.Lor = refl
operation_again operations.Lxor = refl
operation_again operations.Band = refl
operation_again operations.Bor = refl
operation_again operations.Bxor = refl
operation_again operations.Affine = refl

-- ---- a buffer's name, or `-`

blocks_take : (word : Word) (blocks : Option Word) → block_from word ≡ Some blocks → IsBlocks word blocks
unfolding block_from
blocks_take word blocks e =
    pick (IsBlocks word) (bytes_eq word (codes "-")) _ _ blocks
    (λ t. made (IsBlocks word) None blocks (same_word word (codes "-") t)) (λ _ f.
    let b = bind_ok (name_of word) (λ name. Some (Some name)) blocks f in
    made (IsBlocks word) (Some b.0) blocks (named_takes word b.0 b.1) b.2) e

-- `-` is no letter
no_dash : IsLetter 45 → ⊥
no_dash h = let up : 97 ≤ 45 = h.0 in omega (arith, up)

blocks_again : (word : Word) (blocks : Option Word) → IsBlocks word blocks → block_from word ≡ Some blocks
unfolding block_from
blocks_again word None h = ap block_from h
blocks_again word (Some name) h =
    let t0 : bytes_eq word (codes "-") ≡ false = other_word word (codes "-") (λ e. no_dash (subst (λ (w : Word). IsLetter (slice_index w 0)) (sym h.0 ∙ e) h.1.first)) in
    let t1 : name_of word ≡ Some name = named_again word name h in
    rw (t0, t1) refl

-- ---- the lines

bcast_made : CommunicatorName → ℕ → Word → Broadcasting
bcast_made c r b = record { communicator = c; root = r; buffer = b }

pub bcast_takes : (words : List Word) (line : Broadcasting) → bcast_of words ≡ Some line → IsBroadcasting words line
unfolding bcast_of first end_of_line bcast_made
bcast_takes [] line q = absurd cc
bcast_takes (a ∷ []) line q = absurd cc
bcast_takes (a ∷ b ∷ []) line q = absurd cc
bcast_takes (a ∷ b ∷ c ∷ d ∷ rest) line q = absurd cc
bcast_takes (a ∷ b ∷ c ∷ []) line q =
    let p = three (communicator_of a) (rank_of b) (name_of c) bcast_made line q in
    subst (IsBroadcasting (a ∷ b ∷ c ∷ [])) p.6
    (a, b, c, refl, communicator_takes a p.0 p.3, rank_takes b p.1 p.4, named_takes c p.2 p.5)

bcast_from : (a b c : Word) (line : Broadcasting) → communicator_of a ≡ Some line.communicator →
    rank_of b ≡ Some line.root → name_of c ≡ Some line.buffer
    → bcast_of (a ∷ b ∷ c ∷ []) ≡ Some line
unfolding bcast_of first end_of_line
bcast_from a b c line hc hr hb = rw (hc, hr, hb) refl

pub bcast_again : (words : List Word) (line : Broadcasting) → IsBroadcasting words line → bcast_of words ≡ Some line
bcast_again words line h =
    ap bcast_of h.3
    ∙ bcast_from h.0 h.1 h.2 line (communicator_again h.0 line.communicator h.4) (rank_again h.1 line.root h.5)
    (named_again h.2 line.buffer h.6)

gather_made : CommunicatorName → ℕ → Word → Word → Gathering
gather_made c r b i = record { communicator = c; root = r; buffer = b; into = i }

pub gather_takes : (words : List Word) (line : Gathering) → gather_of words ≡ Some line → IsGathering words line
unfolding gather_of first end_of_line gather_made
gather_takes [] line q = absurd cc
gather_takes (a ∷ []) line q = absurd cc
gather_takes (a ∷ b ∷ []) line q = absurd cc
gather_takes (a ∷ b ∷ c ∷ []) line q = absurd cc
gather_takes (a ∷ b ∷ c ∷ d ∷ e ∷ rest) line q = absurd cc
gather_takes (a ∷ b ∷ c ∷ d ∷ []) line q =
    let p = four (communicator_of a) (rank_of b) (name_of c) (name_of d) gather_made line q in
    subst (IsGathering (a ∷ b ∷ c ∷ d ∷ [])) p.8
    (a, b, c, d, refl, communicator_takes a p.0 p.4, rank_takes b p.1 p.5, named_takes c p.2 p.6, named_takes d p.3 p.7)

gather_from : (a b c d : Word) (line : Gathering) → communicator_of a ≡ Some line.communicator →
    rank_of b ≡ Some line.root → name_of c ≡ Some line.buffer → name_of d ≡ Some line.into
    → gather_of (a ∷ b ∷ c ∷ d ∷ []) ≡ Some line
unfolding gather_of first end_of_line
gather_from a b c d line hc hr hb hi = rw (hc, hr, hb, hi) refl

pub gather_again : (words : List Word) (line : Gathering) → IsGathering words line → gather_of words ≡ Some line
gather_again words line h =
    ap gather_of h.4
    ∙ gather_from h.0 h.1 h.2 h.3 line (communicator_again h.0 line.communicator h.5) (rank_again h.1 line.root h.6)
    (named_again h.2 line.buffer h.7) (named_again h.3 line.into h.8)

scatter_made : CommunicatorName → ℕ → Option Word → Word → Scattering
scatter_made c r b i = record { communicator = c; root = r; buffer = b; into = i }

pub scatter_takes : (words : List Word) (line : Scattering) → scatter_of words ≡ Some line → IsScattering words line
unfolding scatter_of first end_of_line scatter_made
scatter_takes [] line q = absurd cc
scatter_takes (a ∷ []) line q = absurd cc
scatter_takes (a ∷ b ∷ []) line q = absurd cc
scatter_takes (a ∷ b ∷ c ∷ []) line q = absurd cc
scatter_takes (a ∷ b ∷ c ∷ d ∷ e ∷ rest) line q = absurd cc
scatter_takes (a ∷ b ∷ c ∷ d ∷ []) line q =
    let p = four (communicator_of a) (rank_of b) (block_from c) (name_of d) scatter_made line q in
    subst (IsScattering (a ∷ b ∷ c ∷ d ∷ [])) p.8
    (a, b, c, d, refl, communicator_takes a p.0 p.4, rank_takes b p.1 p.5, blocks_take c p.2 p.6, named_takes d p.3 p.7)

scatter_from : (a b c d : Word) (line : Scattering) → communicator_of a ≡ Some line.communicator →
    rank_of b ≡ Some line.root → block_from c ≡ Some line.buffer → name_of d ≡ Some line.into
    → scatter_of (a ∷ b ∷ c ∷ d ∷ []) ≡ Some line
unfolding scatter_of first end_of_line
scatter_from a b c d line hc hr hb hi = rw (hc, hr, hb, hi) refl

pub scatter_again : (words : List Word) (line : Scattering) → IsScattering words line → scatter_of words ≡ Some line
scatter_again words line h =
    ap scatter_of h.4
    ∙ scatter_from h.0 h.1 h.2 h.3 line (communicator_again h.0 line.communicator h.5) (rank_again h.1 line.root h.6)
    (blocks_again h.2 line.buffer h.7) (named_again h.3 line.into h.8)

reduce_made : CommunicatorName → ℕ → Operation → Word → Word → Reducing
reduce_made c r o b i = record { communicator = c; root = r; operation = o; buffer = b; into = i }

pub reduce_takes : (words : List Word) (line : Reducing) → reduce_of words ≡ Some line → IsReducing words line
unfolding reduce_of first end_of_line reduce_made
reduce_takes [] line q = absurd cc
reduce_takes (a ∷ []) line q = absurd cc
reduce_takes (a ∷ b ∷ []) line q = absurd cc
reduce_takes (a ∷ b ∷ c ∷ []) line q = absurd cc
reduce_takes (a ∷ b ∷ c ∷ d ∷ []) line q = absurd cc
reduce_takes (a ∷ b ∷ c ∷ d ∷ e ∷ f ∷ rest) line q = absurd cc
reduce_takes (a ∷ b ∷ c ∷ d ∷ e ∷ []) line q =
    let p = five (communicator_of a) (rank_of b) (operation_of c) (name_of d) (name_of e) reduce_made line q in
    subst (IsReducing (a ∷ b ∷ c ∷ d ∷ e ∷ [])) p.10 (
      a,
      b,
      d,
      e,
      ap (λ (w : Word). a ∷ b ∷ w ∷ d ∷ e ∷ []) (operation_takes c p.2 p.7),
      communicator_takes a p.0 p.5,
      rank_takes b p.1 p.6,
      named_takes d p.3 p.8,
      named_takes e p.4 p.9,
    )

reduce_from : (a b d e : Word) (line : Reducing) → communicator_of a ≡ Some line.communicator →
    rank_of b ≡ Some line.root → name_of d ≡ Some line.buffer → name_of e ≡ Some line.into
    → reduce_of (a ∷ b ∷ operation_word line.operation ∷ d ∷ e ∷ []) ≡ Some line
unfolding reduce_of first end_of_line
reduce_from a b d e line hc hr hb hi =
    let o : operation_of (operation_word line.operation) ≡ Some line.operation = operation_again line.operation in
    rw (hc, hr, o, hb, hi) refl

pub reduce_again : (words : List Word) (line : Reducing) → IsReducing words line → reduce_of words ≡ Some line
reduce_again words line h =
    ap reduce_of h.4
    ∙ reduce_from h.0 h.1 h.2 h.3 line (communicator_again h.0 line.communicator h.5) (rank_again h.1 line.root h.6)
    (named_again h.2 line.buffer h.7) (named_again h.3 line.into h.8)

allreduce_made : CommunicatorName → Operation → Word → Word → ReducingToAll
allreduce_made c o b i = record { communicator = c; operation = o; buffer = b; into = i }

pub allreduce_takes : (words : List Word) (line : ReducingToAll) → allreduce_of words ≡ Some line →
    IsReducingToAll words line
unfolding allreduce_of first end_of_line allreduce_made
allreduce_takes [] line q = absurd cc
allreduce_takes (a ∷ []) line q = absurd cc
allreduce_takes (a ∷ b ∷ []) line q = absurd cc
allreduce_takes (a ∷ b ∷ c ∷ []) line q = absurd cc
allreduce_takes (a ∷ b ∷ c ∷ d ∷ e ∷ rest) line q = absurd cc
allreduce_takes (a ∷ b ∷ c ∷ d ∷ []) line q =
    let p = four (communicator_of a) (operation_of b) (name_of c) (name_of d) allreduce_made line q in
    subst (IsReducingToAll (a ∷ b ∷ c ∷ d ∷ [])) p.8 (
      a,
      c,
      d,
      ap (λ (w : Word). a ∷ w ∷ c ∷ d ∷ []) (operation_takes b p.1 p.5),
      communicator_takes a p.0 p.4,
      named_takes c p.2 p.6,
      named_takes d p.3 p.7,
    )

allreduce_from : (a c d : Word) (line : ReducingToAll) → communicator_of a ≡ Some line.communicator →
    name_of c ≡ Some line.buffer → name_of d ≡ Some line.into
    → allreduce_of (a ∷ operation_word line.operation ∷ c ∷ d ∷ []) ≡ Some line
unfolding allreduce_of first end_of_line
allreduce_from a c d line hc hb hi =
    let o : operation_of (operation_word line.operation) ≡ Some line.operation = operation_again line.operation in
    rw (hc, o, hb, hi) refl

pub allreduce_again : (words : List Word) (line : ReducingToAll) → IsReducingToAll words line →
    allreduce_of words ≡ Some line
allreduce_again words line h =
    ap allreduce_of h.3
    ∙ allreduce_from h.0 h.1 h.2 line (communicator_again h.0 line.communicator h.4) (named_again h.1 line.buffer h.5)
    (named_again h.2 line.into h.6)
