use Rattle.std.proofs.Common.{◌∙◌, sym, arith}
use Rattle.launcher_words.proofs.PlaceLaws.{read_number, written_number}
use Rattle.launcher_words.proofs.ports.port_in.Goals as goal

pub returns-in-Some-clause-written : goal.returns-in-Some-clause-written
returns-in-Some-clause-written c =
    written_number c.args.text.now 1 65535 c.in-Some.port (omega arith) (sym c.in-Some.ensures.exact)

pub returns-in-Some-clause-read : goal.returns-in-Some-clause-read
returns-in-Some-clause-read c = λ port least most is.
    c.in-Some.ensures.exact ∙ read_number c.args.text.now 1 65535 port (omega arith) least most is

pub returns-in-None-clause-read : goal.returns-in-None-clause-read
returns-in-None-clause-read c = λ port least most is.
    c.in-None.ensures.exact ∙ read_number c.args.text.now 1 65535 port (omega arith) least most is
