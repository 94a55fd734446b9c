-- There are as many scripts so far as ranks were counted, and each is what the text says.
use Rattle.std.proofs.Common.{◌≡◌, length, All}
use Rattle.stepped_plays.specs.Beginnings.{IsScriptOf}
use Rattle.stepped_plays.proofs.scripts.scripts_of.Given as goal

abbrev pub invariant-loop : goal.invariant-loop
invariant-loop l = record {
  count : length l.scripts.items ≡ l.counter;
  each : All (IsScriptOf l.text) l.scripts.items;
}
