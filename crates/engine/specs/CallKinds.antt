-- Which calls stand apart from those that are made most.
use Rattle.engine_calls.specs.declared.call.Call.{Call}
use Rattle.engine_calls.specs.declared.call.Call.TheVariants as calls

-- neither a send, a receive nor a wait for one request or a test of one
abbrev pub IsOther : Call → Type 0
IsOther (calls.Isend send) = ⊥
IsOther (calls.Irecv receive) = ⊥
IsOther (calls.Wait request) = ⊥
IsOther (calls.Test request) = ⊥
IsOther (calls.Waitany list) = Unit {0}
IsOther (calls.Waitall list) = Unit {0}
IsOther (calls.Cancel request) = Unit {0}
IsOther (calls.Enter comm entry) = Unit {0}
IsOther (calls.Ask comm question) = Unit {0}
IsOther (calls.Iprobe probe) = Unit {0}
IsOther (calls.Improbe probe) = Unit {0}
IsOther (calls.Mrecv message into) = Unit {0}

-- it is no send and no receive
abbrev pub HandsNoData : Call → Type 0
HandsNoData (calls.Isend send) = ⊥
HandsNoData (calls.Irecv receive) = ⊥
HandsNoData (calls.Wait request) = Unit {0}
HandsNoData (calls.Test request) = Unit {0}
HandsNoData (calls.Waitany list) = Unit {0}
HandsNoData (calls.Waitall list) = Unit {0}
HandsNoData (calls.Cancel request) = Unit {0}
HandsNoData (calls.Enter comm entry) = Unit {0}
HandsNoData (calls.Ask comm question) = Unit {0}
HandsNoData (calls.Iprobe probe) = Unit {0}
HandsNoData (calls.Improbe probe) = Unit {0}
HandsNoData (calls.Mrecv message into) = ⊥
