use Rattle.std.proofs.Common.{◌≡◌, drop}
use Rattle.script_files.specs.LineWords.{one_member}
use Rattle.tokens.specs.Fields.{each}
use Rattle.tokens.proofs.EachLaws.{with_more}
use Rattle.script_files.proofs.fields.members_of.Given as goal

abbrev pub invariant-loop-word : goal.invariant-loop-word
invariant-loop-word l = with_more l.members (each one_member (drop l.word-index l.words)) ≡ each one_member l.words
