-- The first words: reading and the grammar agree.
use Rattle.std.proofs.Common.{◌≡◌, Some, refl}
use Rattle.std.specs.Prelude.{codes}
use Rattle.std.specs.Str.{bytes_eq}
use Rattle.statements.specs.declared.verb.Verb.{Verb}
use Rattle.statements.specs.declared.verb.Verb.TheVariants as verbs
use Rattle.statements.specs.Words.{communicator_verb_of, verb_of}
use Rattle.tokens.specs.Grammar.{Word}
use Rattle.tokens.proofs.WordLaws.{Yields, step, yielded, same_word}

abbrev pub verb_word : Verb → Word
verb_word verbs.Buffer = codes "buf"
verb_word verbs.Layout = codes "type"
verb_word verbs.Isend = codes "isend"
verb_word verbs.Issend = codes "issend"
verb_word verbs.Irecv = codes "irecv"
verb_word verbs.Iprobe = codes "iprobe"
verb_word verbs.Improbe = codes "improbe"
verb_word verbs.Mrecv = codes "mrecv"
verb_word verbs.Wait = codes "wait"
verb_word verbs.Test = codes "test"
verb_word verbs.Cancel = codes "cancel"
verb_word verbs.Waitany = codes "waitany"
verb_word verbs.Waitall = codes "waitall"
verb_word verbs.Barrier = codes "barrier"
verb_word verbs.Bcast = codes "bcast"
verb_word verbs.Gather = codes "gather"
verb_word verbs.Scatter = codes "scatter"
verb_word verbs.Reduce = codes "reduce"
verb_word verbs.Allreduce = codes "allreduce"
verb_word verbs.Dup = codes "dup"
verb_word verbs.Split = codes "split"
verb_word verbs.Who = codes "who"
verb_word verbs.Members = codes "members"
verb_word verbs.Compare = codes "compare"

verbs_are : (word : Word) → Yields (verb_of word) (λ verb. word ≡ verb_word verb)
unfolding verb_of communicator_verb_of
verbs_are word =
    let P : Verb → Type 0 = λ verb. word ≡ verb_word verb in
    step P (bytes_eq word (codes "buf")) _ _ (same_word word (codes "buf"))
    (step P (bytes_eq word (codes "type")) _ _ (same_word word (codes "type"))
    (step P (bytes_eq word (codes "isend")) _ _ (same_word word (codes "isend"))
    (step P (bytes_eq word (codes "irecv")) _ _ (same_word word (codes "irecv"))
    (step P (bytes_eq word (codes "wait")) _ _ (same_word word (codes "wait"))
    (step P (bytes_eq word (codes "test")) _ _ (same_word word (codes "test"))
    (step P (bytes_eq word (codes "cancel")) _ _ (same_word word (codes "cancel"))
    (step P (bytes_eq word (codes "waitany")) _ _ (same_word word (codes "waitany"))
    (step P (bytes_eq word (codes "waitall")) _ _ (same_word word (codes "waitall"))
    (step P (bytes_eq word (codes "issend")) _ _ (same_word word (codes "issend"))
    (step P (bytes_eq word (codes "iprobe")) _ _ (same_word word (codes "iprobe"))
    (step P (bytes_eq word (codes "improbe")) _ _ (same_word word (codes "improbe"))
    (step P (bytes_eq word (codes "mrecv")) _ _ (same_word word (codes "mrecv"))
    (step P (bytes_eq word (codes "barrier")) _ _ (same_word word (codes "barrier"))
    (step P (bytes_eq word (codes "bcast")) _ _ (same_word word (codes "bcast"))
    (step P (bytes_eq word (codes "gather")) _ _ (same_word word (codes "gather"))
    (step P (bytes_eq word (codes "scatter")) _ _ (same_word word (codes "scatter"))
    (step P (bytes_eq word (codes "reduce")) _ _ (same_word word (codes "reduce"))
    (step P (bytes_eq word (codes "allreduce")) _ _ (same_word word (codes "allreduce"))
    (step P (bytes_eq word (codes "dup")) _ _ (same_word word (codes "dup"))
    (step P (bytes_eq word (codes "split")) _ _ (same_word word (codes "split"))
    (step P (bytes_eq word (codes "who")) _ _ (same_word word (codes "who"))
    (step P (bytes_eq word (codes "members")) _ _ (same_word word (codes "members"))
    (step P (bytes_eq word (codes "compare")) _ _ (same_word word (codes "compare")) tt)))))))))))))))))))))))

pub verb_takes : (word : Word) (verb : Verb) → verb_of word ≡ Some verb → word ≡ verb_word verb
verb_takes word verb e = yielded (λ verb. word ≡ verb_word verb) (verb_of word) verb (verbs_are word) e

pub verb_again : (verb : Verb) → verb_of (verb_word verb) ≡ Some verb
unfolding verb_of communicator_verb_of
verb_again verbs.Buffer = refl
verb_again verbs.Layout = refl
verb_again verbs.Isend = refl
verb_again verbs.Issend = refl
verb_again verbs.Irecv = refl
verb_again verbs.Iprobe = refl
verb_again verbs.Improbe = refl
verb_again verbs.Mrecv = refl
verb_again verbs.Wait = refl
verb_again verbs.Test = refl
verb_again verbs.Cancel = refl
verb_again verbs.Waitany = refl
verb_again verbs.Waitall = refl
verb_again verbs.Barrier = refl
verb_again verbs.Bcast = refl
verb_again verbs.Gather = refl
verb_again verbs.Scatter = refl
verb_again verbs.Reduce = refl
verb_again verbs.Allreduce = refl
verb_again verbs.Dup = refl
verb_again verbs.Split = refl
verb_again verbs.Who = refl
verb_again verbs.Members = refl
verb_again verbs.Compare = refl
