use Rattle.std.proofs.Common.{◌≡◌, drop}
use Rattle.statements.specs.LineWords.{one_request}
use Rattle.tokens.specs.Fields.{each}
use Rattle.tokens.proofs.EachLaws.{with_more}
use Rattle.statements.proofs.fields.requests_of.Given as goal

abbrev pub invariant-loop-word : goal.invariant-loop-word
invariant-loop-word l = with_more l.requests (each one_request (drop l.word-index l.words)) ≡ each one_request l.words
