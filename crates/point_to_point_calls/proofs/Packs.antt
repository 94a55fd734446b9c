-- What is made ready for a send.
use Rattle.std.proofs.Common.{◌≡◌, Option, None, sym, subst}
use Rattle.datatypes.specs.Contents.{Contents}
use Rattle.requests.specs.Regions.{sent_from}
use Rattle.requests.proofs.Regions.{whole_is_sent}
use Rattle.point_to_point_calls.specs.declared.call.RoutedSend.{RoutedSend}
use Rattle.point_to_point_calls.specs.Calls.{IsPacked}

-- where nothing was packed, the data stand in the buffer as they are sent
pub stand_ready : (s : RoutedSend) (p : Option Contents) → IsPacked s p → p ≡ None → s.send.from.buffer ≡ sent_from
    s.send.from
stand_ready s p packed nothing = sym (whole_is_sent s.send.from
    (subst (λ (q : Option Contents). IsPacked s q) nothing packed))
