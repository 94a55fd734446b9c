-- What follows can be heard, and says something.
use Rattle.std.proofs.Common.{arith, Some}
use Rattle.sessions.specs.HeardBytes.{heard_text}
use Rattle.engine.proofs.TurnLaws.{can_hear, of_bytes, says_something}
use Rattle.engine.proofs.refused_turns.refusal_of_next.Goals as goal

pub refusal_of-requires-clause-can : goal.refusal_of-requires-clause-can
refusal_of-requires-clause-can c =
    let h = heard_text c.in-Some-turn_in.heard in
    can_hear c.args.sessions.now c.args.source h (of_bytes c.args.source _ h c.in-Some-turn_in.ensures.exact)
    (omega (arith, c.requires, c.place-place.ensures.peers))

pub refusal_of-requires-clause-something : goal.refusal_of-requires-clause-something
refusal_of-requires-clause-something c =
    let h = heard_text c.in-Some-turn_in.heard in
    says_something c.args.source h (of_bytes c.args.source _ h c.in-Some-turn_in.ensures.exact)
