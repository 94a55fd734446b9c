use Rattle.std.proofs.Common.{[], ◌∷◌, ◌++◌, refl, arith, ◌∙◌, ap, sym, take}
use Rattle.std.proofs.lemmas.List.{map_push}
use Rattle.event_loop.specs.Input.{Word, after_one, nothing_heard, received}
use Rattle.event_loop.specs.declared.input.Input.{Input}
use Rattle.event_loop.proofs.Runs.{takes_more, heard_more}
use Rattle.event_loop.proofs.input.listen.Goals as goal

pub loop-init : goal.loop-init
loop-init g c = (tt, tt, refl, ([], refl, g.met.T.Transport.none c.args.transport.now, refl))

pub receive-requires : goal.receive-requires
receive-requires g c = omega (arith, c.requires, c.loop.invariant.2)

pub loop-preserved : goal.loop-preserved
loop-preserved g c =
    let heard = c.loop.invariant.3 in
    let w : Word = (take c.in-Some-found.len c.receive.new.buffer, c.on_datagram-heard.ensures.0) in
    let one = rw c.in-Some-found.is at c.in-Ok.ensures.passed in (
      tt,
      tt,
      c.in-Ok.ensures.failures ∙ c.loop.invariant.2,
      (
        heard.0 ++ w ∷ [],
        takes_more heard.0 _ _ _ w heard.1 c.on_datagram-heard.ensures.1,
        rw (map_push received heard.0 w) (g.met.T.Transport.joined _ _ _ _ _ heard.2 one),
        c.on_datagram-heard.ensures.2 ∙ ap (λ (h : Input). after_one h w.1) heard.3 ∙
            sym (heard_more heard.0 nothing_heard w),
      ),
    )
