use Rattle.std.proofs.Common.{◌∙◌, arith}
use Rattle.launcher_words.proofs.PlaceLaws.{read_number, written_job}
use Rattle.launcher_words.proofs.place.job_in.Goals as goal

pub returns-clause-written : goal.returns-clause-written
returns-clause-written c = written_job c.args.text.now c.number_between.result c.number_between.ensures.exact

pub returns-clause-read : goal.returns-clause-read
returns-clause-read c = λ job fits is.
    c.number_between.ensures.exact ∙
    read_number c.args.text.now 0 18446744073709551615 job (omega arith) (omega arith) (omega (arith, fits)) is
