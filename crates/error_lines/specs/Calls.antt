-- What is known of a rank's last call.
use Rattle.std.specs.Prelude.{List, [], ◌∷◌, Option}
use Rattle.engine_calls.specs.declared.call.Call.{Call}
use Rattle.engine_calls.specs.declared.call.Call.TheVariants as calls
use Rattle.requests.specs.declared.table.Request.{Request}

-- the requests that a call names, in order
abbrev pub named_by : Call → List (Option Request)
named_by (calls.Isend s) = []
named_by (calls.Irecv r) = []
named_by (calls.Wait request) = request ∷ []
named_by (calls.Test request) = request ∷ []
named_by (calls.Waitany list) = list
named_by (calls.Waitall list) = list
named_by (calls.Cancel request) = []
named_by (calls.Enter comm entry) = []
named_by (calls.Ask comm question) = []
named_by (calls.Iprobe probe) = []
named_by (calls.Improbe probe) = []
named_by (calls.Mrecv request region) = request ∷ []
