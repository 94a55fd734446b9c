use Rattle.std.proofs.Common.{rules, ◌≡◌, ◌+◌, ◌-◌, ◌*◌, ◌<◌, ◌≤◌, sym, subst}
use Rattle.type_maps.proofs.OwnIndices.{own_indices_are_blocks}
use Rattle.type_runs.specs.declared.shares.Share.{Share}
use Rattle.type_runs.specs.Shares.{AreOwn}
use Rattle.type_runs.proofs.ShareLaws.{own_parts}
use Rattle.type_runs.proofs.shares.share_of.Goals as goal

pub returns-then-of-first-clause-own : goal.returns-then-of-first-clause-own
returns-then-of-first-clause-own c =
    let some : 0 < c.args.of.now.block = search rules in
    let there : c.args.of.now.process < c.args.of.now.processes = search rules in
    let far : c.args.of.now.size ≤ c.args.of.now.process * c.args.of.now.block = search rules in
    own_indices_are_blocks.none c.args.of.now some there far

pub returns-clause-own : goal.returns-clause-own
returns-clause-own c =
    let some : 0 < c.args.of.now.block = search rules in
    let there : c.args.of.now.process < c.args.of.now.processes = search rules in
    let round : c.in_ok-round.round ≡ c.args.of.now.block * c.args.of.now.processes = search rules in
    let all : c.args.of.now.size ≡ c.args.of.now.process * c.args.of.now.block + (c.args.of.now.size -
    c.args.of.now.process * c.args.of.now.block) = search rules in
    subst (λ (s : Share). AreOwn c.args.of.now s) (sym c.parts_of.ensures)
    (own_parts c.args.of.now (c.args.of.now.size - c.args.of.now.process * c.args.of.now.block) c.in_ok-round.round some
    there round all)
