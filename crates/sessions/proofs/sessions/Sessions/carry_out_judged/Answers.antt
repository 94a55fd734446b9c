use Rattle.std.proofs.Common.{◌≡◌, ◌∙◌, sym, length, Some, None}
use Rattle.std.proofs.lemmas.List.{length-map}
use Rattle.datagram.specs.Spellings.{outgoing_text}
use Rattle.sessions.specs.HeardBytes.{heard_text}
use Rattle.sessions.specs.Events.{sendings}
use Rattle.sessions.proofs.Whole.{few_carried, placed_carried, unheard_carried}
use Rattle.sessions.proofs.Windows.{within_carried}
use Rattle.sessions.proofs.sessions.Sessions.carry_out_judged.Goals as goal

pub returns-in-Some-clause-few : goal.returns-in-Some-clause-few
returns-in-Some-clause-few c =
    rw c.in-Some.is
    (few_carried c.carry_out_anew.result c.args.self.now c.carry_out_anew.new.self
    (Some (heard_text c.in-Some.heard)) (sendings c.args.frames.now) (length c.args.frames.now)
    (rw c.in-Some.is at c.requires.can) (sym (length-map c.args.frames.now outgoing_text))
    c.carry_out_anew.ensures.ok c.carry_out_anew.ensures.unchanged)

pub returns-in-Some-clause-within : goal.returns-in-Some-clause-within
returns-in-Some-clause-within c =
    let each : length c.args.self.now.peers ≡ c.args.self.now.place.size = rw (← c.self.view_is) c.self.invariant.each in
    rw c.in-Some.is
    (within_carried c.carry_out_anew.result c.args.self.now c.carry_out_anew.new.self
    (Some (heard_text c.in-Some.heard)) (sendings c.args.frames.now)
    (rw c.in-Some.is at c.requires.can) c.requires.frames each c.carry_out_anew.ensures.ok)

pub returns-in-Some-clause-placed : goal.returns-in-Some-clause-placed
returns-in-Some-clause-placed c =
    placed_carried c.carry_out_anew.result c.args.self.now c.carry_out_anew.new.self
    (Some (heard_text c.in-Some.heard)) (sendings c.args.frames.now) c.carry_out_anew.ensures.ok
    c.carry_out_anew.ensures.unchanged

pub returns-in-Some-2-clause-few : goal.returns-in-Some-2-clause-few
returns-in-Some-2-clause-few c =
    rw c.in-Some-2.is
    (few_carried c.carry_out_on.result c.args.self.now c.carry_out_on.new.self (Some (heard_text c.in-Some-2.heard))
    (sendings c.args.frames.now) (length c.args.frames.now)
    (rw c.in-Some-2.is at c.requires.can) (sym (length-map c.args.frames.now outgoing_text)) c.carry_out_on.ensures.ok
    c.carry_out_on.ensures.unchanged)

pub returns-in-Some-2-clause-within : goal.returns-in-Some-2-clause-within
returns-in-Some-2-clause-within c =
    let each : length c.args.self.now.peers ≡ c.args.self.now.place.size = rw (← c.self.view_is) c.self.invariant.each in
    rw c.in-Some-2.is
    (within_carried c.carry_out_on.result c.args.self.now c.carry_out_on.new.self
    (Some (heard_text c.in-Some-2.heard)) (sendings c.args.frames.now)
    (rw c.in-Some-2.is at c.requires.can) c.requires.frames each c.carry_out_on.ensures.ok)

pub returns-in-Some-2-clause-placed : goal.returns-in-Some-2-clause-placed
returns-in-Some-2-clause-placed c =
    placed_carried c.carry_out_on.result c.args.self.now c.carry_out_on.new.self (Some (heard_text c.in-Some-2.heard))
    (sendings c.args.frames.now) c.carry_out_on.ensures.ok c.carry_out_on.ensures.unchanged

pub returns-in-None-clause-ok : goal.returns-in-None-clause-ok
returns-in-None-clause-ok c =
    rw c.in-None.is
    (unheard_carried c.answer_and_send.result c.args.self.now c.answer_and_send.new.self (sendings c.args.frames.now)
    c.answer_and_send.ensures.ok)

pub returns-in-None-clause-few : goal.returns-in-None-clause-few
returns-in-None-clause-few c =
    rw c.in-None.is
    (few_carried c.answer_and_send.result c.args.self.now c.answer_and_send.new.self None
    (sendings c.args.frames.now) (length c.args.frames.now) tt
    (sym (length-map c.args.frames.now outgoing_text))
    (unheard_carried c.answer_and_send.result c.args.self.now c.answer_and_send.new.self
    (sendings c.args.frames.now) c.answer_and_send.ensures.ok) c.answer_and_send.ensures.unchanged)

pub returns-in-None-clause-within : goal.returns-in-None-clause-within
returns-in-None-clause-within c =
    let each : length c.args.self.now.peers ≡ c.args.self.now.place.size = rw (← c.self.view_is) c.self.invariant.each in
    rw c.in-None.is
    (within_carried c.answer_and_send.result c.args.self.now c.answer_and_send.new.self None
    (sendings c.args.frames.now) tt
    c.requires.frames each
    (unheard_carried c.answer_and_send.result c.args.self.now c.answer_and_send.new.self (sendings c.args.frames.now)
    c.answer_and_send.ensures.ok))

pub returns-in-None-clause-placed : goal.returns-in-None-clause-placed
returns-in-None-clause-placed c =
    placed_carried c.answer_and_send.result c.args.self.now c.answer_and_send.new.self None (sendings c.args.frames.now)
    (unheard_carried c.answer_and_send.result c.args.self.now c.answer_and_send.new.self (sendings c.args.frames.now)
    c.answer_and_send.ensures.ok) c.answer_and_send.ensures.unchanged
