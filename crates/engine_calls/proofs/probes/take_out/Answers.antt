-- A matching probe is answered, or comes back for want of memory.
use Rattle.std.proofs.Common.{refl, sym, ◌∙◌}
use Rattle.engine_calls.proofs.ReplyLaws.{lacking, searched}
use Rattle.point_to_point_calls.specs.CoreCalls as core_calls
use Rattle.engine_calls.proofs.probes.take_out.Goals as goal

pub returns-in-Ok-prepare_search-clause-exact : goal.returns-in-Ok-prepare_search-clause-exact
returns-in-Ok-prepare_search-clause-exact c = λ g rest s call same asked.
    searched c.args.core.now.state c.prepare_search.new.self.state c.search.new.self.state c.args.judged.sought.routed
    c.in-Ok.group c.search.result c.prepare_search.ensures.kept c.search.ensures.exact g rest s call
    (same ∙ sym c.in-Ok.ensures.ok) asked

pub returns-in-Err-clause-exact : goal.returns-in-Err-clause-exact
returns-in-Err-clause-exact c = λ g rest s call same asked.
    lacking c.args.core.now.state c.prepare_search.new.self.state s s
    (core_calls.Improbe c.args.judged.sought.routed) c.in-Err.refused _ c.prepare_search.ensures.kept refl
    c.in-Err.ensures.err tt refl g rest call asked
