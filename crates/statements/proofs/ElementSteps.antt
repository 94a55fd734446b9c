-- The elements that words give one after the other, as a loop reads them.
use Rattle.std.proofs.Common.{◌≡◌, ℕ, List, Some, replicate, refl, sym, ap, ◌∙◌}
use Rattle.vocabulary.specs.declared.basic_type.BasicType.{BasicType}
use Rattle.datatypes.specs.Contents.{Contents}
use Rattle.statements.specs.LineWords.{copies_of, elements_of, buffer_with}
use Rattle.tokens.specs.declared.fault.LineError.{LineError}
use Rattle.tokens.specs.Grammar.{Word}
use Rattle.tokens.specs.Results.{Fails}
use Rattle.tokens.specs.Fields.{each}
use Rattle.tokens.proofs.EachLaws.{bind_fails}

pub elements_fail : (basic : BasicType) (e : LineError) (bytes word : Word) → bytes ≡ word →
    Fails e (copies_of basic bytes) → Fails e (elements_of basic word)
elements_fail basic e bytes word is h =
    bind_fails e (copies_of basic word) _ (rw (sym is) h)

pub elements_are : (basic : BasicType) (count number : ℕ) (bytes word : Word) → bytes ≡ word →
    copies_of basic bytes ≡ Some (count, number) → elements_of basic word ≡ Some (replicate count number)
elements_are basic count number bytes word is h =
    let e : copies_of basic word ≡ Some (count, number) = ap (copies_of basic) (sym is) ∙ h in rw e refl

pub buffer_fails : (basic : BasicType) (e : LineError) (words : List Word) → Fails e (each (elements_of basic) words) →
    Fails e (buffer_with basic words)
unfolding buffer_with
buffer_fails basic e words h =
    bind_fails e (each (elements_of basic) words) (λ elements. Some (record { basic = basic; values = elements })) h

held : BasicType → List ℕ → Contents
held kind elements = record { basic = kind; values = elements }

pub buffer_is : (basic : BasicType) (buffer : Contents) (words : List Word) → buffer.basic ≡ basic →
    each (elements_of basic) words ≡ Some buffer.values → buffer_with basic words ≡ Some buffer
unfolding buffer_with held
buffer_is basic buffer words is h = rw h (ap (λ (kind : BasicType). Some (held kind buffer.values)) (sym is))
