-- What the first word says.
use Rattle.std.specs.Prelude.{codes, Option, Some, None, if◌then◌else◌}
use Rattle.std.specs.Str.{bytes_eq}
use Rattle.statements.specs.declared.verb.Verb.{Verb}
use Rattle.statements.specs.declared.verb.Verb.TheVariants as verbs
use Rattle.tokens.specs.Grammar.{Word}

-- what the first word says that a rank does with a communicator as a whole
unfoldable pub communicator_verb_of : Word → Option Verb
communicator_verb_of word =
    if bytes_eq word (codes "barrier") then Some verbs.Barrier
    else (if bytes_eq word (codes "bcast") then Some verbs.Bcast
    else (if bytes_eq word (codes "gather") then Some verbs.Gather
    else (if bytes_eq word (codes "scatter") then Some verbs.Scatter
    else (if bytes_eq word (codes "reduce") then Some verbs.Reduce
    else (if bytes_eq word (codes "allreduce") then Some verbs.Allreduce
    else (if bytes_eq word (codes "dup") then Some verbs.Dup
    else (if bytes_eq word (codes "split") then Some verbs.Split
    else (if bytes_eq word (codes "who") then Some verbs.Who
    else (if bytes_eq word (codes "members") then Some verbs.Members
    else (if bytes_eq word (codes "compare") then Some verbs.Compare
    else None))))))))))

-- what the first word says that a rank does
unfoldable pub verb_of : Word → Option Verb
verb_of word =
    if bytes_eq word (codes "buf") then Some verbs.Buffer
    else (if bytes_eq word (codes "type") then Some verbs.Layout
    else (if bytes_eq word (codes "isend") then Some verbs.Isend
    else (if bytes_eq word (codes "irecv") then Some verbs.Irecv
    else (if bytes_eq word (codes "wait") then Some verbs.Wait
    else (if bytes_eq word (codes "test") then Some verbs.Test
    else (if bytes_eq word (codes "cancel") then Some verbs.Cancel
    else (if bytes_eq word (codes "waitany") then Some verbs.Waitany
    else (if bytes_eq word (codes "waitall") then Some verbs.Waitall
    else (if bytes_eq word (codes "issend") then Some verbs.Issend
    else (if bytes_eq word (codes "iprobe") then Some verbs.Iprobe
    else (if bytes_eq word (codes "improbe") then Some verbs.Improbe
    else (if bytes_eq word (codes "mrecv") then Some verbs.Mrecv
    else communicator_verb_of word))))))))))))
