-- How layouts are made: reading and the grammar agree.
use Rattle.std.proofs.Common.{◌≡◌, ℕ, List, [], ◌∷◌, ◌++◌, length, take, drop, Option, Some, None, refl, sym, ap, subst}
use Rattle.std.proofs.Common.{◌∙◌}
use Rattle.std.specs.Prelude.{codes}
use Rattle.std.specs.List.{position}
use Rattle.std.specs.Str.{bytes_eq}
use Rattle.vocabulary.specs.declared.basic_type.BasicType.{BasicType}
use Rattle.derived_types.specs.declared.block.IndexedBlock.{IndexedBlock}
use Rattle.statements.specs.declared.layout_line.OldLayout.{OldLayout}
use Rattle.statements.specs.declared.layout_line.OldLayout.TheVariants as olds
use Rattle.statements.specs.declared.layout_line.LayoutForm.{LayoutForm}
use Rattle.statements.specs.declared.layout_line.LayoutForm.TheVariants as forms
use Rattle.statements.specs.declared.layout_line.LayoutLine.{LayoutLine}
use Rattle.statements.specs.declared.layout_line.Stripes.{Stripes}
use Rattle.statements.specs.declared.layout_reading.FormWord.{FormWord}
use Rattle.statements.specs.declared.layout_reading.FormWord.TheVariants as form_words
use Rattle.statements.specs.Grammar.{IsOld, IsBlock, IsFormed, IsLayout}
use Rattle.tokens.specs.Grammar.{Word, type_word}
use Rattle.tokens.specs.Words.{basic_type_of}
use Rattle.tokens.specs.Results.{◌>>=◌}
use Rattle.statements.specs.LineWords.{form_word_of, old_by, old_of, is_colon, block_at, block_of, one_block, last}
use Rattle.statements.specs.LineWords.{contiguous_of, vector_of, indexed_of, formed_by, layout_of}
use Rattle.tokens.specs.Fields.{first, end_of_line, each, name_of, large_of}
use Rattle.tokens.proofs.WordLaws.{bind_ok, made, is_nothing, Yields, step, yielded, same_word, type_takes, type_again}
use Rattle.tokens.proofs.EachLaws.{all_take, all_again}
use Rattle.tokens.proofs.MarkLaws.{mark_here, digits_plain, a_place, take_front, drop_front}
use Rattle.statements.proofs.FieldSteps.{two, four}
use Rattle.tokens.proofs.FieldLaws.{named_takes, named_again, large_takes, large_again}

-- ---- what a layout is made of

old_at : (word : Word) (t : Option BasicType) (o : OldLayout) → basic_type_of word ≡ t → old_by t word ≡ Some o →
    IsOld word o
old_at word (Some basic) o is e = made (IsOld word) (olds.Basic basic) o (type_takes word basic is) e
old_at word None o is e =
    let b = bind_ok (name_of word) (λ name. Some (olds.Named name)) o e in
    made (IsOld word) (olds.Named b.0) o
    (named_takes word b.0 b.1, λ basic h. no_type (sym is ∙ (ap basic_type_of h ∙ type_again basic))) b.2
  where
    no_type : {x : BasicType} → None ≡ Some x → ⊥
    no_type e = absurd cc

old_takes : (word : Word) (o : OldLayout) → old_of word ≡ Some o → IsOld word o
unfolding old_of
old_takes word o e = old_at word (basic_type_of word) o refl e

old_type : (basic : BasicType) → old_of (type_word basic) ≡ Some (olds.Basic basic)
unfolding old_of
old_type basic = rw (type_again basic) refl

old_name : (word name : Word) → basic_type_of word ≡ None → name_of word ≡ Some name →
    old_of word ≡ Some (olds.Named name)
unfolding old_of
old_name word name t n = rw (t, n) refl

old_again : (word : Word) (o : OldLayout) → IsOld word o → old_of word ≡ Some o
old_again word (olds.Basic basic) h = ap old_of h ∙ old_type basic
old_again word (olds.Named name) h =
    old_name word name
    (is_nothing (basic_type_of word) (λ basic e. h.1 basic (type_takes word basic e)))
    (named_again word name h.0)

-- ---- blocks

block_made : ℕ → ℕ → IndexedBlock
block_made many far = record { length = many; displacement = far }

block_there : (word : Word) (o : Option ℕ) (b : IndexedBlock) → position is_colon word ≡ o → block_at o word ≡ Some b →
    IsBlock word b
unfolding block_made
block_there word None b is e = absurd cc
block_there word (Some i) b is e =
    let p = two (large_of (take i word)) (large_of (drop 1 (drop i word))) block_made b e in
    subst (IsBlock word) p.4 (
      take i word,
      drop 1 (drop i word),
      mark_here 58 word i is,
      large_takes (take i word) p.0 p.2,
      large_takes (drop 1 (drop i word)) p.1 p.3,
    )

block_takes : (word : Word) (b : IndexedBlock) → block_of word ≡ Some b → IsBlock word b
unfolding block_of
block_takes word b e = block_there word (position is_colon word) b refl e

block_from : (word front rest : Word) (i : ℕ) (b : IndexedBlock) → position is_colon word ≡ Some i →
    take i word ≡ front → drop 1 (drop i word) ≡ rest → large_of front ≡ Some b.length →
    large_of rest ≡ Some b.displacement → block_of word ≡ Some b
unfolding block_of
block_from word front rest i b p t d m f =
    let m0 : large_of (take i word) ≡ Some b.length = ap large_of t ∙ m in
    let f0 : large_of (drop 1 (drop i word)) ≡ Some b.displacement = ap large_of d ∙ f in
    rw (p, m0, f0) refl

block_again : (word : Word) (b : IndexedBlock) → IsBlock word b → block_of word ≡ Some b
block_again word b h =
    let spelled : Word = h.0 ++ 58 ∷ h.1 in
    ap block_of h.2
    ∙ block_from spelled h.0 h.1 (length h.0) b (a_place 58 h.0 h.1 (digits_plain 58 h.0 refl h.3.1.digits))
    (take_front h.0 (58 ∷ h.1)) (ap (drop 1) (drop_front h.0 (58 ∷ h.1))) (large_again h.0 b.length h.3)
    (large_again h.1 b.displacement h.4)

-- ---- the last word

last_takes : (words : List Word) (split : List Word × Word) → last words ≡ Some split → words ≡ split.0 ++ split.1 ∷ []
unfolding last
last_takes [] split e = absurd cc
last_takes (w ∷ []) split e = made (λ (s : List Word × Word). w ∷ [] ≡ s.0 ++ s.1 ∷ []) ([], w) split refl e
last_takes (w ∷ v ∷ ws) split e =
    let b = bind_ok (last (v ∷ ws)) (λ s. Some (w ∷ s.0, s.1)) split e in
    made (λ (s : List Word × Word). w ∷ v ∷ ws ≡ s.0 ++ s.1 ∷ []) (w ∷ b.0.0, b.0.1) split
    (ap (λ (r : List Word). w ∷ r) (last_takes (v ∷ ws) b.0 b.1)) b.2

pub no_last : last [] ≡ None
unfolding last
no_last = refl

pub last_again : (front : List Word) (word : Word) → last (front ++ word ∷ []) ≡ Some (front, word)
unfolding last
last_again [] word = refl
last_again (w ∷ []) word = refl
last_again (w ∷ v ∷ ws) word = rw (last_again (v ∷ ws) word) refl

-- ---- the three forms

abbrev form_word : FormWord → Word
form_word form_words.Contiguous = codes "contiguous"
form_word form_words.Vector = codes "vector"
form_word form_words.Indexed = codes "indexed"

forms_are : (word : Word) → Yields (form_word_of word) (λ form. word ≡ form_word form)
unfolding form_word_of
forms_are word =
    let P : FormWord → Type 0 = λ form. word ≡ form_word form in
    step P (bytes_eq word (codes "contiguous")) _ _ (same_word word (codes "contiguous"))
    (step P (bytes_eq word (codes "vector")) _ _ (same_word word (codes "vector"))
    (step P (bytes_eq word (codes "indexed")) _ _ (same_word word (codes "indexed")) tt))

form_takes : (word : Word) (form : FormWord) → form_word_of word ≡ Some form → word ≡ form_word form
form_takes word form e = yielded (λ form. word ≡ form_word form) (form_word_of word) form (forms_are word) e

form_again : (form : FormWord) → form_word_of (form_word form) ≡ Some form
unfolding form_word_of
form_again form_words.Contiguous = refl
form_again form_words.Vector = refl
form_again form_words.Indexed = refl

IsFormedBy : List Word → LayoutForm × OldLayout → Type 0
IsFormedBy words formed = IsFormed words formed.0 formed.1

contiguous_made : ℕ → OldLayout → LayoutForm × OldLayout
contiguous_made n o = (forms.Contiguous n, o)

contiguous_takes : (words : List Word) (m : LayoutForm × OldLayout) → contiguous_of words ≡ Some m →
    IsFormedBy (codes "contiguous" ∷ words) m
unfolding contiguous_of first end_of_line contiguous_made IsFormedBy
contiguous_takes [] m e = absurd cc
contiguous_takes (a ∷ []) m e = absurd cc
contiguous_takes (a ∷ b ∷ c ∷ rest) m e = absurd cc
contiguous_takes (a ∷ b ∷ []) m e =
    let p = two (large_of a) (old_of b) contiguous_made m e in
    subst (IsFormedBy (codes "contiguous" ∷ a ∷ b ∷ [])) p.4 (a, b, refl, large_takes a p.0 p.2, old_takes b p.1 p.3)

contiguous_from : (a b : Word) (n : ℕ) (o : OldLayout) → large_of a ≡ Some n → old_of b ≡ Some o →
    contiguous_of (a ∷ b ∷ []) ≡ Some (forms.Contiguous n, o)
unfolding contiguous_of first end_of_line
contiguous_from a b n o p q = rw (p, q) refl

vector_made : ℕ → ℕ → ℕ → OldLayout → LayoutForm × OldLayout
vector_made c b s o = (forms.Vector (record { count = c; blocklength = b; stride = s }), o)

vector_takes : (words : List Word) (m : LayoutForm × OldLayout) → vector_of words ≡ Some m →
    IsFormedBy (codes "vector" ∷ words) m
unfolding vector_of first end_of_line vector_made IsFormedBy
vector_takes [] m e = absurd cc
vector_takes (a ∷ []) m e = absurd cc
vector_takes (a ∷ b ∷ []) m e = absurd cc
vector_takes (a ∷ b ∷ c ∷ []) m e = absurd cc
vector_takes (a ∷ b ∷ c ∷ d ∷ f ∷ rest) m e = absurd cc
vector_takes (a ∷ b ∷ c ∷ d ∷ []) m e =
    let p = four (large_of a) (large_of b) (large_of c) (old_of d) vector_made m e in
    subst (IsFormedBy (codes "vector" ∷ a ∷ b ∷ c ∷ d ∷ [])) p.8 (
      a,
      b,
      c,
      d,
      refl,
      large_takes a p.0 p.4,
      large_takes b p.1 p.5,
      large_takes c p.2 p.6,
      old_takes d p.3 p.7,
    )

vector_from : (a b c d : Word) (stripes : Stripes) (o : OldLayout) → large_of a ≡ Some stripes.count →
    large_of b ≡ Some stripes.blocklength → large_of c ≡ Some stripes.stride → old_of d ≡ Some o
    → vector_of (a ∷ b ∷ c ∷ d ∷ []) ≡ Some (forms.Vector stripes, o)
unfolding vector_of first end_of_line
vector_from a b c d stripes o p q r t = rw (p, q, r, t) refl

indexed_takes : (words : List Word) (m : LayoutForm × OldLayout) → indexed_of words ≡ Some m →
    IsFormedBy (codes "indexed" ∷ words) m
unfolding indexed_of IsFormedBy
indexed_takes words m e =
    let s = bind_ok (last words) (λ split. old_of split.1 >>= λ o. each one_block split.0 >>= λ blocks. Some (forms.Indexed blocks, o)) m e in
    let o = bind_ok (old_of s.0.1) (λ o. each one_block s.0.0 >>= λ blocks. Some (forms.Indexed blocks, o)) m s.2 in
    let b = bind_ok (each one_block s.0.0) (λ blocks. Some (forms.Indexed blocks, o.0)) m o.2 in
    made (IsFormedBy (codes "indexed" ∷ words)) (forms.Indexed b.0, o.0) m (
      s.0.0,
      s.0.1,
      ap (λ (ws : List Word). codes "indexed" ∷ ws) (last_takes words s.0 s.1),
      all_take IsBlock block_of block_takes s.0.0 b.0 b.1,
      old_takes s.0.1 o.0 o.1,
    ) b.2

indexed_from : (front : List Word) (word : Word) (blocks : List IndexedBlock) (o : OldLayout) →
    each one_block front ≡ Some blocks → old_of word ≡ Some o → indexed_of (front ++ word ∷ []) ≡
    Some (forms.Indexed blocks, o)
unfolding indexed_of
indexed_from front word blocks o b q =
    let l : last (front ++ word ∷ []) ≡ Some (front, word) = last_again front word in rw (l, q, b) refl

formed_takes : (form : FormWord) (words : List Word) (m : LayoutForm × OldLayout) → formed_by form words ≡ Some m →
    IsFormedBy (form_word form ∷ words) m
formed_takes form_words.Contiguous words m e = contiguous_takes words m e
formed_takes form_words.Vector words m e = vector_takes words m e
formed_takes form_words.Indexed words m e = indexed_takes words m e

formed_again : (words : List Word) (form : LayoutForm) (old : OldLayout) → IsFormed words form old →
    (by : FormWord) × (rest : List Word) × (words ≡ form_word by ∷ rest) × (formed_by by rest ≡ Some (form, old))
formed_again words (forms.Contiguous n) old h = (
  form_words.Contiguous,
  h.0 ∷ h.1 ∷
      [],
  h.2,
  contiguous_from h.0 h.1 n old (large_again h.0 n h.3) (old_again h.1 old h.4),
)
formed_again words (forms.Vector stripes) old h = (
  form_words.Vector,
  h.0 ∷ h.1 ∷ h.2 ∷ h.3 ∷ [],
  h.4,
  vector_from h.0 h.1 h.2 h.3 stripes old (large_again h.0 stripes.count h.5) (large_again h.1 stripes.blocklength h.6)
      (large_again h.2 stripes.stride h.7) (old_again h.3 old h.8),
)
formed_again words (forms.Indexed blocks) old h = (
  form_words.Indexed,
  h.0 ++ h.1 ∷
      [],
  h.2,
  indexed_from h.0 h.1 blocks old (all_again IsBlock block_of block_again h.0 blocks h.3)
      (old_again h.1 old h.4),
)

-- ---- lines of layouts

layout_made : Word → LayoutForm × OldLayout → LayoutLine
layout_made n m = record { name = n; form = m.0; made_of = m.1 }

pub layout_takes : (words : List Word) (line : LayoutLine) → layout_of words ≡ Some line → IsLayout words line
unfolding layout_of first layout_made IsFormedBy
layout_takes [] line e = absurd cc
layout_takes (a ∷ []) line e = absurd cc
layout_takes (a ∷ b ∷ rest) line e =
    let p = bind_ok (name_of a) (λ n. form_word_of b >>= λ f. formed_by f rest >>= λ m. Some (layout_made n m)) line e in
    let q = bind_ok (form_word_of b) (λ f. formed_by f rest >>= λ m. Some (layout_made p.0 m)) line p.2 in
    let r = bind_ok (formed_by q.0 rest) (λ m. Some (layout_made p.0 m)) line q.2 in
    made (IsLayout (a ∷ b ∷ rest)) (layout_made p.0 r.0) line (
      a,
      b ∷ rest,
      refl,
      named_takes a p.0 p.1,
      subst (λ (w : Word). IsFormed (w ∷ rest) r.0.0 r.0.1) (sym (form_takes b q.0 q.1))
          (formed_takes q.0 rest r.0 r.1),
    ) r.2

layout_from : (a : Word) (rest : List Word) (form : FormWord) (line : LayoutLine) → name_of a ≡ Some line.name →
    formed_by form rest ≡ Some (line.form, line.made_of) → layout_of (a ∷ form_word form ∷ rest) ≡ Some line
unfolding layout_of first
layout_from a rest form line n m = rw (n, form_again form, m) refl

pub layout_again : (words : List Word) (line : LayoutLine) → IsLayout words line → layout_of words ≡ Some line
layout_again words line h =
    let f = formed_again h.1 line.form line.made_of h.4 in
    ap layout_of (h.2 ∙ ap (λ (ws : List Word). h.0 ∷ ws) f.2) ∙
    layout_from h.0 f.1 f.0 line (named_again h.0 line.name h.3) f.3
