-- The first words of events: reading and the grammar agree.
use Rattle.std.proofs.Common.{◌≡◌, ℕ, false, Some, None, refl}
use Rattle.std.specs.Prelude.{codes}
use Rattle.std.specs.Str.{bytes_eq}
use Rattle.tokens.specs.Grammar.{Word, IsNumeral}
use Rattle.tokens.proofs.WordLaws.{Yields, step, yielded, same_word, no_letters}
use Rattle.event_files.specs.declared.verb.EventVerb.{EventVerb}
use Rattle.event_files.specs.declared.verb.EventVerb.TheVariants as verbs
use Rattle.event_files.specs.LineWords.{verb_of}

abbrev pub verb_word : EventVerb → Word
verb_word verbs.Deliver = codes "deliver"
verb_word verbs.Tick = codes "tick"
verb_word verbs.Stray = codes "stray"
verb_word verbs.Restart = codes "restart"

verbs_are : (word : Word) → Yields (verb_of word) (λ verb. word ≡ verb_word verb)
unfolding verb_of
verbs_are word =
    let P : EventVerb → Type 0 = λ verb. word ≡ verb_word verb in
    step P (bytes_eq word (codes "deliver")) _ _ (same_word word (codes "deliver"))
    (step P (bytes_eq word (codes "tick")) _ _ (same_word word (codes "tick"))
    (step P (bytes_eq word (codes "stray")) _ _ (same_word word (codes "stray"))
    (step P (bytes_eq word (codes "restart")) _ _ (same_word word (codes "restart")) tt)))

pub verb_takes : (word : Word) (verb : EventVerb) → verb_of word ≡ Some verb → word ≡ verb_word verb
verb_takes word verb e = yielded (λ verb. word ≡ verb_word verb) (verb_of word) verb (verbs_are word) e

pub verb_again : (verb : EventVerb) → verb_of (verb_word verb) ≡ Some verb
unfolding verb_of
verb_again verbs.Deliver = refl
verb_again verbs.Tick = refl
verb_again verbs.Stray = refl
verb_again verbs.Restart = refl

-- a numeral is no verb
pub no_verb : (word : Word) (n : ℕ) → IsNumeral word n → verb_of word ≡ None
unfolding verb_of
no_verb word n h =
    let t0 : bytes_eq word (codes "deliver") ≡ false = no_letters word (codes "deliver") n refl h in
    let t1 : bytes_eq word (codes "tick") ≡ false = no_letters word (codes "tick") n refl h in
    let t2 : bytes_eq word (codes "stray") ≡ false = no_letters word (codes "stray") n refl h in
    let t3 : bytes_eq word (codes "restart") ≡ false = no_letters word (codes "restart") n refl h in
    rw (t0, t1, t2, t3) refl
