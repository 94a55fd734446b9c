use Rattle.std.proofs.Common.{rules, inl, refl}
use Rattle.c_explorer.proofs.ranks.kombazily_ranks_new.Goals as goal

-- src/ranks.rt:26:1
pub returns-in-Ok-new : goal.returns-in-Ok-new
returns-in-Ok-new c = inl (c.in-Ok-new.boxed.value, search rules, search rules, search rules, search rules, refl)
