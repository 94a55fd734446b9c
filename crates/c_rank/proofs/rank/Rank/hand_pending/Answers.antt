use Rattle.std.proofs.Common.{refl, sym, ap, ◌∙◌, arith}
use mathlib.Core.Bool.{false≢true}
use Rattle.c_rank.proofs.HandingSteps.{fits_more, hands_after, hands_again, none_emitted, none_goes, none_goes_again, too_long_more}
use Rattle.c_rank.specs.Clocks.{going}
use Rattle.c_rank.specs.OutgoingDatagrams.{emitted}
use Rattle.c_rank.specs.Windows.{admitted}
use Rattle.c_rank.proofs.rank.Rank.hand_pending.Goals.{then-outgoing-gt0-via-then-outgoing-gt0, then-outgoing-gt0-via-else-outgoing-gt0+then-not-is_through}
use Rattle.c_rank.proofs.rank.Rank.hand_pending.Goals as goal

pub returns-then-outgoing-gt0-clause-went : goal.returns-then-outgoing-gt0-clause-went
returns-then-outgoing-gt0-clause-went c =
    hands_after c.args.self.now c.refill.new.self _ _ c.args.most c.hand_out-len.result c.hand_out-len.new.outgoing _ _
    c.self.view_is c.refill.ensures.pending c.refill.ensures.sending c.refill.ensures.rest c.hand_out-len.ensures.went refl refl
    refl refl refl
    (elim c.then-outgoing-gt0.branch [
      | then-outgoing-gt0-via-then-outgoing-gt0 w ↦ λ e. absurd (omega (arith, w.if-outgoing-gt0, e))
      | then-outgoing-gt0-via-else-outgoing-gt0+then-not-is_through w ↦ λ e.
          too_long_more c.hand_out-len.new.self.waiting
          (admitted c.self.inside.windows (going c.self.inside.trips c.self.inside.engine.sessions.out)) _ (c.hand_out-len.ensures.went.none e)
          (λ none. false≢true (sym w.if-not-is_through.true ∙ w.is_through.ensures.1 none))
    ])

pub returns-clause-went : goal.returns-clause-went
returns-clause-went c =
    hands_again c.args.self.now c.refill.new.self _ _ _ c.args.most c.hand_out-len.result c.hand_out.result
    c.hand_out-len.new.outgoing c.hand_out.new.outgoing _ _ _ c.self.view_is
    c.refill.ensures.pending c.refill.ensures.sending c.refill.ensures.rest c.hand_out-len.ensures.went refl refl refl refl refl
    (omega (arith, c.if-outgoing-gt0.false))
    (hands_after _ c.refill-2.new.self _ _ c.args.most c.hand_out.result c.hand_out.new.outgoing _ _ c.self-2.view_is
    c.refill-2.ensures.pending c.refill-2.ensures.sending c.refill-2.ensures.rest c.hand_out.ensures.went refl refl refl refl refl
    (λ e. fits_more c.hand_out.new.self.waiting (admitted c.self-2.inside.windows (going c.self-2.inside.trips c.self-2.inside.engine.sessions.out)) _
    (c.hand_out.ensures.went.none e)
    (ap emitted c.self-2.view_is ∙ none_emitted c.refill-2.new.self
    (c.refill-2.ensures.empty (c.is_through.ensures.0 c.if-not-is_through.false)))))

pub returns-then-outgoing-gt0-clause-stays : goal.returns-then-outgoing-gt0-clause-stays
returns-then-outgoing-gt0-clause-stays c =
    none_goes c.args.self.now c.refill.new.self _ c.hand_out-len.new.self c.hand_out-len.new.outgoing c.self.view_is
    c.refill.ensures.pending c.refill.ensures.sending c.hand_out-len.ensures.stays

pub returns-clause-stays : goal.returns-clause-stays
returns-clause-stays c =
    none_goes_again c.args.self.now c.refill.new.self _ c.refill-2.new.self _ c.hand_out-len.new.self
    c.hand_out.new.self c.hand_out-len.new.outgoing c.hand_out.new.outgoing c.self.view_is c.refill.ensures.pending c.refill.ensures.sending
    c.hand_out-len.ensures.stays c.self-2.view_is c.refill-2.ensures.pending c.refill-2.ensures.sending
    c.hand_out.ensures.stays
