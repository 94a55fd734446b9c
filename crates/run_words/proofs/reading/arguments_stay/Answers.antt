use Rattle.run_words.proofs.ArgumentLaws.{arguments_stay}
use Rattle.run_words.proofs.reading.arguments_stay.Goals as goal

pub returns : goal.returns
returns c = arguments_stay
