-- Steps of what a call means.
use Rattle.std.proofs.Common.{ℕ, true, refl, inl, inr}
use Rattle.std.specs.Prelude.{Result, Ok, Err}
use Rattle.c_rank.specs.declared.meaning.Meant.{Meant}
use Rattle.c_rank.specs.Meanings.{IsMeant, IsMeantBy}

-- memory may be wanted for elements
pub meant_with : (wanted got : Result Meant ℕ) → IsMeant wanted got → IsMeantBy true wanted got
meant_with wanted (Ok m) is = is
meant_with wanted (Err n) (inl is) = inl is
meant_with wanted (Err n) (inr is) = inr (refl, is)
