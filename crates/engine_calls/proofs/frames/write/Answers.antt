use Rattle.std.proofs.Common.{subst, arith}
use Rattle.payload.specs.Spellings.{PayloadFits}
use Rattle.engine_calls.proofs.frames.write.Goals as goal

pub returns-in-Ok-clause-whole : goal.returns-in-Ok-clause-whole
returns-in-Ok-clause-whole c = record {
  fits = subst PayloadFits c.payload.ensures.says c.in-Ok.ensures.fits;
  within = c.payload.ensures.within;
  context = omega (arith, c.context_of-context.ensures, c.context_of-context.type_inv);
}
