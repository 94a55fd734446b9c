-- The elements are within their width, and so is the context.
use Rattle.std.proofs.Common.{rules}
use Rattle.requests.proofs.Regions.{sent_within}
use Rattle.point_to_point_calls.proofs.sends.show_widths.Goals as goal

pub returns : goal.returns
returns c = (sent_within c.args.routed.now.send.from c.show_widths.ensures, search rules)
