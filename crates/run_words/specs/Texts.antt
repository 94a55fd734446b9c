-- What is told of a fault.
use Rattle.std.specs.Prelude.{ℕ, List, codes}
use Rattle.run_words.specs.declared.fault.Trouble.{Trouble}
use Rattle.run_words.specs.declared.fault.Trouble.TheVariants as troubles

-- what is wrong with a word
abbrev pub trouble_text : Trouble → List ℕ
trouble_text troubles.Usage = codes "it asks how the program is used"
trouble_text troubles.Version = codes "it asks for the version"
trouble_text troubles.NoOption = codes "no such option"
trouble_text troubles.Joined = codes "no such option: a value is a word of its own, behind its option"
trouble_text troubles.InFront = codes "this option stands in front of the first -n, for all ranks"
trouble_text troubles.Again = codes "the set has a number of processes"
trouble_text troubles.Program = codes "a program may stand here"
trouble_text troubles.Further = codes "no word may stand behind the name of a file of sets"
trouble_text troubles.Missing = codes "a value is missing"
