-- What a keeper does after its program has ended.
use Rattle.std.specs.Prelude.{ℕ, ◌+◌, ◌==◌, ◌&&◌, not, nat_lt, if◌then◌else◌}
use Rattle.launch_keeper.specs.declared.keeper.After.{After}
use Rattle.launch_keeper.specs.declared.keeper.After.TheVariants.{End, Again}

-- the next incarnation where the status isn't 0 and fewer restarts were used than are allowed, else the end
abbrev pub after_status : ℕ → ℕ → ℕ → After
after_status allowed status used = if not (status == 0) && nat_lt used allowed then Again (used + 1) else End status
