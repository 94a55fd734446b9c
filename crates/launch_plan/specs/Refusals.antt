-- The number of each refusal.
use Rattle.std.specs.Prelude.{ℕ}
use Rattle.launch_plan.specs.declared.refusal.LaunchRefusal.{LaunchRefusal}
use Rattle.launch_plan.specs.declared.refusal.LaunchRefusal.TheVariants.{OutOfMemory, NoSet, WrongOption, WrongValue}
use Rattle.launch_plan.specs.declared.refusal.LaunchRefusal.TheVariants.{NoCount, NoProgram, OverLimit, LeftOut}
use Rattle.launch_plan.specs.declared.refusal.LaunchRefusal.TheVariants.{UnreadableFile}

-- the number that is printed of a refusal
abbrev pub number_of_refusal : LaunchRefusal → ℕ
number_of_refusal OutOfMemory = 14
number_of_refusal NoSet = 52
number_of_refusal WrongOption = 53
number_of_refusal WrongValue = 54
number_of_refusal NoCount = 55
number_of_refusal NoProgram = 56
number_of_refusal OverLimit = 57
number_of_refusal LeftOut = 58
number_of_refusal UnreadableFile = 59
