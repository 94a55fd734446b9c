-- FOR SPEED ALONE: each goal here is proved without this file, too; with it a wrong body is refused soon.
use Rattle.std.proofs.Common.{rules}
use Rattle.event_files.specs.LineWords.{digit_of}
use Rattle.event_files.proofs.hexadecimal.digit_of.Goals as goal

pub overflow_sub-result-then-byte-le102 : goal.overflow_sub-result-then-byte-le102
unfolding digit_of
overflow_sub-result-then-byte-le102 c = search rules

pub returns-then-byte-le57-clause-value : goal.returns-then-byte-le57-clause-value
unfolding digit_of
returns-then-byte-le57-clause-value c = search rules

pub returns-then-byte-le57-clause-within : goal.returns-then-byte-le57-clause-within
unfolding digit_of
returns-then-byte-le57-clause-within c = search rules

pub returns-then-byte-le102-clause-value : goal.returns-then-byte-le102-clause-value
unfolding digit_of
returns-then-byte-le102-clause-value c = search rules

pub returns-then-byte-le102-clause-within : goal.returns-then-byte-le102-clause-within
unfolding digit_of
returns-then-byte-le102-clause-within c = search rules

pub returns-else-byte-ge97-clause-value : goal.returns-else-byte-ge97-clause-value
unfolding digit_of
returns-else-byte-ge97-clause-value c = search rules

pub returns-else-byte-ge97-clause-within : goal.returns-else-byte-ge97-clause-within
unfolding digit_of
returns-else-byte-ge97-clause-within c = search rules
