-- One more block stands behind those before it.
use Rattle.std.proofs.Common.{◌≡◌, ◌%◌, ◌<◌, ℕ, List, [], ◌++◌, length, map, take, get_or, sym, ap, subst, ◌∙◌, arith}
use Rattle.std.proofs.Common.{Option, Some, None}
use Rattle.std.proofs.lemmas.Grind.{common_steps}
use Rattle.std.proofs.lemmas.List.{append-nil}
use Rattle.collective_progress.specs.Blocks.{block_known, joined_values, values_in}
use Rattle.collective_messages.specs.Notes.{member_at}
use Rattle.datatypes.specs.ContentLaws.{sizes, values_of-nil}
use Rattle.datatypes.specs.Contents.{AreWithin, Contents, bytes_of, values_of}
use Rattle.vocabulary.specs.BasicTypes.{size_of}
use Rattle.vocabulary.specs.declared.basic_type.BasicType.{BasicType}
use Rattle.collective_progress.proofs.Blocks.{joined_more, joined_step, known_like, whole_none, whole_step}
use Rattle.collective_progress.proofs.gather.joined_bytes.Goals as goal
use Rattle.collective_progress.proofs.gather.joined_bytes.Goals.{in-Some+in_ok-append_to, in_default}

pub loop-rank-init : goal.loop-rank-init
loop-rank-init c =
    let none : c.new-bytes.result.items ≡ [] = c.new-bytes.ensures.items in
    record {
      values_are = ap (values_of (size_of c.args.mine.now.basic)) none ∙
          values_of-nil (size_of c.args.mine.now.basic) (sizes c.args.mine.now.basic).positive;
      whole = ap (λ (xs : List ℕ). length xs % size_of c.args.mine.now.basic) none ∙ whole_none c.args.mine.now.basic;
    }

pub loop-rank-preserved : goal.loop-rank-preserved
loop-rank-preserved c =
    let mine = c.args.mine.now in
    let of : ℕ → Option Contents = λ r. block_known c.args.seat.now.own mine c.args.seat.now.inside.now.context c.args.seat.now.inside.now.number c.args.seat.now.notes.now (member_at c.args.seat.now.inside.now.incarnation r) in
    let ranks = c.args.ranks.now in
    let k = c.loop-rank.rank-index in
    let lt : k < length ranks = omega arith in
    let here = get_or ranks k 0 in
    let front = c.loop-rank.bytes.items in
    elim c.match-block_known.branch [
      | in-Some+in_ok-append_to w ↦
          let b = w.in-Some.block.now in
          let is : of here ≡ Some b = grind (arith, common_steps) in
          let like = known_like c.args.seat.now.own mine c.args.seat.now.inside.now.context c.args.seat.now.inside.now.number c.args.seat.now.notes.now (member_at c.args.seat.now.inside.now.incarnation here) b is in
          let within : AreWithin (size_of mine.basic) b.values = subst (λ (t : BasicType). AreWithin (size_of t) b.values) like.basic_is w.append_to.ensures.within in
          let both : c.match-block_known.bytes.items ≡ front ++ bytes_of (size_of b.basic) b.values = grind (arith, common_steps) in
          let items : c.match-block_known.bytes.items ≡ front ++ bytes_of (size_of mine.basic) b.values =
          both ∙ ap (λ (t : BasicType). front ++ bytes_of (size_of t) b.values) like.basic_is
          in
          record {
            values_are = ap (values_of (size_of mine.basic)) items
                ∙ joined_step mine.basic front b.values c.loop-rank.invariant.whole within
                ∙ ap (λ (t : List ℕ). t ++ b.values) c.loop-rank.invariant.values_are
                ∙ sym (joined_more of ranks k 0 lt ∙
                ap (λ (o : Option Contents). joined_values (map of (take k ranks)) ++ values_in o) is);
            whole = ap (λ (xs : List ℕ). length xs % size_of mine.basic) items ∙
                whole_step mine.basic front b.values c.loop-rank.invariant.whole;
          }
      | in_default w ↦
          let is : of here ≡ None = grind (arith, common_steps) in
          let items : c.match-block_known.bytes.items ≡ front = grind (arith, common_steps) in
          record {
            values_are = ap (values_of (size_of mine.basic)) items ∙ c.loop-rank.invariant.values_are
                ∙ sym (joined_more of ranks k 0 lt ∙
                ap (λ (o : Option Contents). joined_values (map of (take k ranks)) ++ values_in o) is
                ∙ append-nil (joined_values (map of (take k ranks))));
            whole = ap (λ (xs : List ℕ). length xs % size_of mine.basic) items ∙ c.loop-rank.invariant.whole;
          }
    ]
