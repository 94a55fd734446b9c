-- What names stand for once an answer is here.
use Rattle.std.specs.Prelude.{Option, None}
use Rattle.script_calls.specs.declared.pending.NamedRequest.{NamedRequest}

-- the null request
abbrev pub null : NamedRequest
null = record { request = None; buffer = None }
