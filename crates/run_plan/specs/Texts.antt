-- What is told of a fault.
use Rattle.std.specs.Prelude.{ℕ, List, ◌++◌, codes}
use Rattle.std.specs.Fmt.{decimal}
use Rattle.run_plan.specs.declared.fault.Wanted.{Wanted}
use Rattle.run_plan.specs.declared.fault.Wanted.TheVariants as wanted

-- what may stand at a place
abbrev pub wanted_text : Wanted → List ℕ
wanted_text wanted.Once = codes "another option than one that was given before"
wanted_text wanted.Set = codes "a program (-n N PROGRAM ..)"
wanted_text (wanted.Number least greatest) =
    codes "a number from " ++ decimal least ++ codes " to " ++ decimal greatest
wanted_text wanted.Frame = codes "a multiple of 8 from 1024 to 61440"
wanted_text wanted.Folder = codes "the name of a folder"
wanted_text wanted.HostFile = codes "the name of a file of hosts"
wanted_text wanted.Hosts = codes "hosts, with commas between them"
wanted_text wanted.Launcher = codes "words that start a program on a host, one of them {host}"
wanted_text wanted.Name = codes "the name of a variable, without = and not KOMBAZILY_.."
wanted_text wanted.Value = codes "the value of a variable"
