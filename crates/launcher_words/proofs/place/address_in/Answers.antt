use Rattle.launcher_words.proofs.PlaceLaws.{no_address}
use Rattle.launcher_words.proofs.place.address_in.Goals as goal

pub returns-in-Err-clause-read : goal.returns-in-Err-clause-read
returns-in-Err-clause-read c = λ host fits is. absurd (no_address c.args.text.now host c.in-Err.ensures fits is)
