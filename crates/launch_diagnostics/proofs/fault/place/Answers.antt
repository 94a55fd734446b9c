use Rattle.std.proofs.Common.{ap}
use Rattle.std.specs.Option.{option_copied}
use Rattle.launch_diagnostics.proofs.PlaceLaws.{unnamed_place}
use Rattle.launch_diagnostics.proofs.fault.place.Goals as goal

pub returns-in-None-clause-exact : goal.returns-in-None-clause-exact
returns-in-None-clause-exact c =
    unnamed_place c.args.words.now c.args.refused c.args.settled c.place_by.result (option_copied c.config_name.result)
    (ap option_copied c.in-None.is) c.config_name.ensures.only c.place_by.ensures.exact
