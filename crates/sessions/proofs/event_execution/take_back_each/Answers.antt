use Rattle.std.proofs.Common.{◌≡◌, ◌-◌, ◌+◌, ◌∙◌, ◌<◌, sym, ap, arith, length, drop, vec_len}
use Rattle.std.proofs.lemmas.List.{drop_all}
use Rattle.datagram.specs.declared.frame.Outgoing.{Outgoing}
use Rattle.sessions.specs.Events.{sendings}
use Rattle.std.proofs.Common.{List}
use Rattle.sessions.specs.EventExecution.{all_taken_back, taken_back}
use Rattle.sessions.specs.declared.peers.Peer.{Peer}
use Rattle.sessions.proofs.UndoLaws.{length_back, back_more, there_at}
use Rattle.sessions.proofs.event_execution.take_back_each.Goals as goal

pub loop-done-init : goal.loop-done-init
loop-done-init c =
    ap (λ (t : List Outgoing). all_taken_back c.args.peers.now.items (sendings t))
    (sym (drop_all (length c.args.frames.now - 0) c.args.frames.now (omega arith)))

pub take_back_at-requires : goal.take_back_at-requires
take_back_at-requires c =
    let many : length c.loop-done.peers.items ≡ length c.args.peers.now.items =
    ap length c.loop-done.invariant ∙
    length_back c.args.peers.now.items
    (sendings (drop (length c.args.frames.now - c.loop-done.done) c.args.frames.now)) in
    let there : c.frame_at-last.result.target < vec_len c.args.peers.now = there_at (vec_len c.args.peers.now) c.args.frames.now _ _ c.frame_at-last.ensures c.requires in
    omega (arith, many, there)

pub loop-done-preserved : goal.loop-done-preserved
loop-done-preserved c =
    c.take_back_at.ensures
    ∙ ap (λ (t : List Peer). taken_back t c.frame_at-last.result.target) c.loop-done.invariant
    ∙ back_more c.args.peers.now.items c.args.frames.now (length c.args.frames.now - 1 - c.loop-done.done)
    (length c.args.frames.now - c.loop-done.done) (length c.args.frames.now - (c.loop-done.done + 1)) _
    c.frame_at-last.ensures (omega arith) (omega arith)
