-- What is so of the rank program's options.
use Rattle.std.proofs.Common.{◌≡◌, true, refl}
use Rattle.clap.specs.Words.{is_simple, is_simple_and_free}
use Rattle.clap.proofs.OnLiterals.{clap_on_literals}
use Rattle.rank_settings.specs.Program.{rank_program}

pub is_simple_program : is_simple rank_program ≡ true
unfolding clap_on_literals
is_simple_program = refl

pub is_free_program : is_simple_and_free rank_program ≡ true
unfolding clap_on_literals
is_free_program = refl
