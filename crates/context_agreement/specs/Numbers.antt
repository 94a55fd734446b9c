-- The numbers that stand for contexts.
use Rattle.std.specs.Prelude.{◌≡◌, ℕ, ◌+◌, ◌*◌, ◌^◌, ◌<◌}
use Rattle.context_agreement.specs.declared.context.Context.{Context}

-- rank, incarnation and serial as the 16, 16 and 32 bits of one number
abbrev pub number_of : Context → ℕ
number_of c = c.rank * 2 ^ 48 + c.incarnation * 2 ^ 32 + c.serial

-- the parts fit their bits
pub record Fits (c : Context) : Type 0 where
  pub rank : c.rank < 2 ^ 16
  pub incarnation : c.incarnation < 2 ^ 16
  pub serial : c.serial < 2 ^ 32

-- contexts with the same number are the same
abbrev pub HaveOwnNumbers : Type 0
HaveOwnNumbers = (a b : Context) → Fits a → Fits b → number_of a ≡ number_of b → a ≡ b
