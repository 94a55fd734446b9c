use Rattle.std.proofs.Common.{ℕ, ◌+◌, ◌*◌, ◌<◌, length, sym, ap, subst, ◌∙◌}
use Rattle.vocabulary.specs.BasicTypes.{size_of}
use Rattle.datatypes.specs.Rooms.{StoreState, most_written}
use Rattle.datatypes.specs.Contents.{bytes_of}
use Rattle.datatypes.specs.ContentLaws.{sizes, bytes_of-values_of, values_of-within}
use Rattle.datatypes.proofs.RoomLaws.{all_bytes_are}
use Rattle.datatypes.proofs.store.Store.as_bytes.Goals as goal

pub returns-clause-bytes : goal.returns-clause-bytes
returns-clause-bytes c =
    let b = c.self.inside in
    let kept = c.self.invariant in
    c.as_slice.ensures.value
    ∙ sym (bytes_of-values_of (size_of b.basic) (sizes b.basic) b.bytes.items kept.whole.are_bytes kept.whole.no_rest)
    ∙ ap (λ (v : StoreState). bytes_of (size_of v.basic) v.values) c.self.view_is

pub returns-clause-within : goal.returns-clause-within
returns-clause-within c =
    let b = c.self.inside in
    rw (← c.self.view_is) (values_of-within (size_of b.basic) b.bytes.items c.self.invariant.whole.are_bytes)

pub returns-clause-many : goal.returns-clause-many
returns-clause-many c =
    let b = c.self.inside in
    subst (λ (v : StoreState). 0 < v.unwritten → most_written < (length v.values + v.unwritten) * size_of v.basic)
    c.self.view_is
    (λ some. subst (λ (n : ℕ). most_written < n) (all_bytes_are b.basic b.bytes.items b.unwritten c.self.invariant.whole)
    (c.self.invariant.many some))
