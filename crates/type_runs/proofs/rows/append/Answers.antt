use Rattle.std.proofs.Common.{◌≡◌, ℕ, ◌+◌, ◌-◌, ◌<◌, sym, subst, take, slice_set, arith, length, ◌++◌}
use Rattle.type_runs.specs.Runs.{Are}
use Rattle.type_runs.proofs.RunLaws.{last_joined, put_behind}
use Rattle.type_runs.proofs.rows.append.Goals as goal

pub returns-in-Some-clause-runs : goal.returns-in-Some-clause-runs
returns-in-Some-clause-runs c = λ bodies bytes more a b.
    let again : c.args.used ≡ c.args.used - 1 + 1 = omega (arith, c.if-used-gt0.true) in
    let less : c.args.used - 1 < length c.args.into.now = omega (arith, c.requires) in
    subst (λ (k : ℕ). Are bodies (take k (slice_set c.args.into.now (c.args.used - 1) c.in-Some.run')) (bytes ++ more))
    (sym again) (last_joined bodies c.args.into.now (c.args.used - 1) _ c.in-Some.run' c.args.next.now bytes more less
    (subst (λ (k : ℕ). Are bodies (take k c.args.into.now) bytes) again a) b
    (λ e x y. c.in-Some.ensures e x y))

pub returns-clause-runs : goal.returns-clause-runs
returns-clause-runs c = λ bodies bytes more a b.
    put_behind bodies c.args.into.now c.args.used c.args.next.now bytes more c.requires a b
