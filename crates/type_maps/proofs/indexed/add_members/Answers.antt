use Rattle.type_maps.proofs.TypeLaws.{all_members, member_built, member_refused}
use Rattle.std.proofs.Common.{take}
use Rattle.type_maps.specs.Types.{after_blocks}
use Rattle.type_maps.proofs.indexed.add_members.Goals as goal

pub returns-in-Err : goal.returns-in-Err
returns-in-Err c = λ m ps b a. member_refused m ps c.args.members.now c.loop-member.member-index c.member-item.result
    c.in-Err.refusal
    c.loop-member-test.true c.member-item.is a
    (λ n t. c.in-Err.ensures (after_blocks m (take c.loop-member.member-index ps)) n
    (c.loop-member.invariant m ps b a) t)

pub loop-member-preserved : goal.loop-member-preserved
loop-member-preserved c = λ m ps b a. member_built m ps c.args.members.now c.loop-member.member-index
    c.member-item.result
    c.add_block.new.made c.loop-member-test.true c.member-item.is a
    (λ n t. c.in-Ok.ensures (after_blocks m (take c.loop-member.member-index ps)) n (c.loop-member.invariant m ps b a)
    t)

pub returns : goal.returns
returns c = λ m ps b a. all_members m ps c.args.members.now c.loop-member.member-index c.loop-member.made
    c.loop-member-test.false a
    (c.loop-member.invariant m ps b a)
