-- The first words of lines that only scripts have: reading and the grammar agree.
use Rattle.std.proofs.Common.{◌≡◌, List, ◌∷◌, Some, None, refl}
use Rattle.std.specs.Prelude.{codes}
use Rattle.std.specs.Str.{bytes_eq}
use Rattle.statements.specs.declared.action.Action.{Action}
use Rattle.statements.specs.Grammar.{Spells}
use Rattle.tokens.specs.Grammar.{Word}
use Rattle.tokens.proofs.WordLaws.{Yields, step, yielded, same_word}
use Rattle.statements.proofs.ActionLaws.{begins}
use Rattle.script_files.specs.declared.verb.ScriptVerb.{ScriptVerb}
use Rattle.script_files.specs.declared.verb.ScriptVerb.TheVariants as verbs
use Rattle.script_files.specs.LineWords.{verb_of}

abbrev pub verb_word : ScriptVerb → Word
verb_word verbs.On = codes "on"
verb_word verbs.Send = codes "send"
verb_word verbs.Recv = codes "recv"
verb_word verbs.Print = codes "print"
verb_word verbs.Status = codes "status"
verb_word verbs.Count = codes "count"
verb_word verbs.Say = codes "say"
verb_word verbs.Fail = codes "fail"

verbs_are : (word : Word) → Yields (verb_of word) (λ verb. word ≡ verb_word verb)
unfolding verb_of
verbs_are word =
    let P : ScriptVerb → Type 0 = λ verb. word ≡ verb_word verb in
    step P (bytes_eq word (codes "on")) _ _ (same_word word (codes "on"))
    (step P (bytes_eq word (codes "send")) _ _ (same_word word (codes "send"))
    (step P (bytes_eq word (codes "recv")) _ _ (same_word word (codes "recv"))
    (step P (bytes_eq word (codes "print")) _ _ (same_word word (codes "print"))
    (step P (bytes_eq word (codes "status")) _ _ (same_word word (codes "status"))
    (step P (bytes_eq word (codes "count")) _ _ (same_word word (codes "count"))
    (step P (bytes_eq word (codes "say")) _ _ (same_word word (codes "say"))
    (step P (bytes_eq word (codes "fail")) _ _ (same_word word (codes "fail")) tt)))))))

pub verb_takes : (word : Word) (verb : ScriptVerb) → verb_of word ≡ Some verb → word ≡ verb_word verb
verb_takes word verb e = yielded (λ verb. word ≡ verb_word verb) (verb_of word) verb (verbs_are word) e

pub verb_again : (verb : ScriptVerb) → verb_of (verb_word verb) ≡ Some verb
unfolding verb_of
verb_again verbs.On = refl
verb_again verbs.Send = refl
verb_again verbs.Recv = refl
verb_again verbs.Print = refl
verb_again verbs.Status = refl
verb_again verbs.Count = refl
verb_again verbs.Say = refl
verb_again verbs.Fail = refl

-- the first words of what files of events have too are none of these
pub no_verb : (words : List Word) (action : Action) → Spells words action → (word : Word) × (rest : List Word) ×
    (words ≡ word ∷ rest) × (verb_of word ≡ None)
unfolding verb_of
no_verb words action h =
    begins words action h (λ word. verb_of word ≡ None) refl refl refl refl refl refl refl refl refl refl refl refl refl
    refl refl refl refl refl refl refl refl refl refl refl
