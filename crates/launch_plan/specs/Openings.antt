-- What an opening says, apart from where it lies in memory.
use Rattle.std.specs.Option.{option_copied}
use Rattle.launch_plan.specs.declared.opening.Opening.{Opening}
use Rattle.launch_plan.specs.Options as options

-- the options, the file's name and the words behind them
abbrev pub opening_text : Opening → options.Opening
opening_text o = record { given = o.given; file = option_copied o.file; rest = o.rest.now }
