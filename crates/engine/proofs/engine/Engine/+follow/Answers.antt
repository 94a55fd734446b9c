-- A turn that is taken in and those behind it; or what is held stays, or is taken out.
use Rattle.std.proofs.Common.{◌≡◌, ◌<◌, ◌-◌, ◌∙◌, length, sym, ap, subst, arith, Err, Ok, Some}
use Rattle.std.proofs.lemmas.Grind.{common_steps}
use Rattle.std.proofs.lemmas.List.{length-set}
use Rattle.std.specs.Option.{option_map}
use Rattle.point_to_point_calls.specs.declared.refusal.Refusal.{Refusal}
use Rattle.sessions.specs.HeldFrames.{turn_of}
use Rattle.sessions.specs.HeardBytes.{CanHear, HeardText, heard_text}
use Rattle.sessions.specs.Windows.{StaysWithin, room}
use Rattle.engine_calls.specs.EngineState.{EngineState}
use Rattle.engine.specs.Datagrams.{HeardGives, notice_in}
use Rattle.engine.specs.HeldFrameEnds.{FollowEnds}
use Rattle.engine.proofs.DatagramLaws.{unheard_leaves}
use Rattle.engine.proofs.TurnLaws.{can_hear, discard_within, longer, of_bytes, refused_turn, replaced, taken}
use Rattle.engine.proofs.TurnLaws.{turn_known, turn_within}
use Rattle.engine.proofs.engine.Engine.+follow.Goals as goal

pub returns-in_default-turn_in-clause-within : goal.returns-in_default-turn_in-clause-within
returns-in_default-turn_in-clause-within t c =
    discard_within c.args.self.now c.discard.new.self c.args.source c.requires.there c.in-Ok.ensures.peers
    c.discard.ensures

pub take_heard-requires-clause-can : goal.take_heard-requires-clause-can
take_heard-requires-clause-can t c =
    let h : HeardText = heard_text c.in-Some-turn_in.heard in
    let s = c.args.self.now.sessions in
    subst (λ (e : EngineState). CanHear e.sessions (Some h)) (sym c.spell_turn.ensures.kept)
    (can_hear s c.args.source h (of_bytes c.args.source _ h c.in-Some-turn_in.ensures.exact)
    (omega (arith, c.requires.there, c.in-Ok.ensures.peers)))

pub replace-requires : goal.replace-requires
replace-requires t c =
    let old : EngineState = c.args.self.now in
    let mid : EngineState = c.take_heard.new.self in
    let h : HeardText = heard_text c.in-Some-turn_in.heard in
    let gives : HeardGives old h (Ok tt) mid = subst (λ (e : EngineState). HeardGives e h (Ok tt) mid) c.spell_turn.ensures.kept c.in-Ok-take_heard.ensures.exact in
    omega (
      arith,
      c.requires.at,
      longer old mid c.args.source h (of_bytes c.args.source _ h c.in-Some-turn_in.ensures.exact) gives,
    )

pub follow-requires : goal.follow-requires
follow-requires t c =
    let old : EngineState = c.args.self.now in
    let mid : EngineState = c.take_heard.new.self in
    let h : HeardText = heard_text c.in-Some-turn_in.heard in
    let gives : HeardGives old h (Ok tt) mid = subst (λ (e : EngineState). HeardGives e h (Ok tt) mid) c.spell_turn.ensures.kept c.in-Ok-take_heard.ensures.exact in
    let some : 0 < c.args.turns = grind (arith, common_steps, c.if-turns-eq0.false) in
    let size = ap (λ (e : EngineState). e.sessions.place.size) c.replace.ensures
    ∙ ap (λ p. p.size) c.take_heard.ensures.placed ∙
    ap (λ (e : EngineState). e.sessions.place.size) c.spell_turn.ensures.kept in (
      omega (arith, some, c.decreases),
      (
        omega (arith, c.requires.there, size),
        omega (
          arith,
          c.requires.at,
          longer old mid c.args.source h (of_bytes c.args.source _ h c.in-Some-turn_in.ensures.exact) gives,
          ap (λ (e : EngineState). length e.sessions.out) c.replace.ensures,
          length-set mid.sessions.out c.args.at (c.args.source.rank, c.in-Ok-spell_turn.ack),
        ),
      ),
    )

pub returns-in-Ok-take_heard-clause-exact : goal.returns-in-Ok-take_heard-clause-exact
returns-in-Ok-take_heard-clause-exact t c =
    let old : EngineState = c.args.self.now in
    let mid : EngineState = c.take_heard.new.self in
    let h : HeardText = heard_text c.in-Some-turn_in.heard in
    let turn = of_bytes c.args.source _ h c.in-Some-turn_in.ensures.exact in
    let is = ap (option_map (turn_of c.args.source)) (sym c.in-Ok.ensures.ok ∙ c.in-Some.is) ∙ ap Some (sym c.in-Some-turn_in.ensures.exact) in
    let gives : HeardGives old h (Ok tt) mid = subst (λ (e : EngineState). HeardGives e h (Ok tt) mid) c.spell_turn.ensures.kept c.in-Ok-take_heard.ensures.exact in
    let put = c.replace.ensures
    ∙ replaced old mid c.args.at c.args.source h c.in-Ok-spell_turn.ack turn
    (omega (arith, c.requires.there, c.in-Ok.ensures.peers)) gives c.in-Ok-spell_turn.ensures.ack in
    taken c.follow.result c.args.turns c.args.at c.args.source old mid c.follow.new.self h
    (grind (arith, common_steps, c.if-turns-eq0.false)) is gives
    (subst (λ (e : EngineState). FollowEnds c.follow.result (c.args.turns - 1) c.args.at c.args.source e
    c.follow.new.self) put c.follow.ensures.exact)

pub returns-in-Ok-take_heard-clause-within : goal.returns-in-Ok-take_heard-clause-within
returns-in-Ok-take_heard-clause-within t c =
    let old : EngineState = c.args.self.now in
    let mid : EngineState = c.take_heard.new.self in
    let h : HeardText = heard_text c.in-Some-turn_in.heard in
    let turn = of_bytes c.args.source _ h c.in-Some-turn_in.ensures.exact in
    omega (
      arith,
      c.follow.ensures.within,
      ap (λ (e : EngineState). length e.sessions.out) c.replace.ensures,
      ap (λ (e : EngineState). room e.sessions.peers) c.replace.ensures,
      length-set mid.sessions.out c.args.at (c.args.source.rank, c.in-Ok-spell_turn.ack),
      turn_within old.sessions mid.sessions c.args.source h turn
          (subst (λ (e : EngineState). StaysWithin (Some h) e.sessions mid.sessions) c.spell_turn.ensures.kept
          c.in-Ok-take_heard.ensures.within),
    )

pub returns-in-Ok-take_heard-clause-longer : goal.returns-in-Ok-take_heard-clause-longer
returns-in-Ok-take_heard-clause-longer t c =
    let old : EngineState = c.args.self.now in
    let mid : EngineState = c.take_heard.new.self in
    let h : HeardText = heard_text c.in-Some-turn_in.heard in
    let gives : HeardGives old h (Ok tt) mid = subst (λ (e : EngineState). HeardGives e h (Ok tt) mid) c.spell_turn.ensures.kept c.in-Ok-take_heard.ensures.exact in
    omega (
      arith,
      c.follow.ensures.longer,
      ap (λ (e : EngineState). length e.sessions.out) c.replace.ensures,
      length-set mid.sessions.out c.args.at (c.args.source.rank, c.in-Ok-spell_turn.ack),
      longer old mid c.args.source h (of_bytes c.args.source _ h c.in-Some-turn_in.ensures.exact) gives,
    )

pub returns-in-Ok-take_heard-clause-known : goal.returns-in-Ok-take_heard-clause-known
returns-in-Ok-take_heard-clause-known t c =
    let old : EngineState = c.args.self.now in
    let mid : EngineState = c.take_heard.new.self in
    let h : HeardText = heard_text c.in-Some-turn_in.heard in
    let gives : HeardGives old h (Ok tt) mid = subst (λ (e : EngineState). HeardGives e h (Ok tt) mid) c.spell_turn.ensures.kept c.in-Ok-take_heard.ensures.exact in
    c.follow.ensures.known ∙ ap (λ (e : EngineState). e.sessions.known) c.replace.ensures
    ∙ turn_known old mid c.args.source h (of_bytes c.args.source _ h c.in-Some-turn_in.ensures.exact) gives

pub returns-clause-exact : goal.returns-clause-exact
returns-clause-exact t c =
    let old : EngineState = c.args.self.now in
    let before : EngineState = c.spell_turn.new.self in
    let mid : EngineState = c.take_heard.new.self in
    let h : HeardText = heard_text c.in-Some-turn_in.heard in
    let why : Refusal = c.in-Err-take_heard.refused in
    let is = ap (option_map (turn_of c.args.source)) (sym c.in-Ok.ensures.ok ∙ c.in-Some.is) ∙ ap Some (sym c.in-Some-turn_in.ensures.exact) in
    refused_turn c.discard_or_keep.result c.args.turns c.args.at c.args.source old mid c.discard_or_keep.new.self h why
    (grind (arith, common_steps, c.if-turns-eq0.false)) is
    (subst (λ (e : EngineState). HeardGives e h (Err why) mid) c.spell_turn.ensures.kept
    c.in-Err-take_heard.ensures.exact)
    c.discard_or_keep.ensures.exact

pub returns-clause-within : goal.returns-clause-within
returns-clause-within t c =
    let old : EngineState = c.args.self.now in
    let before : EngineState = c.spell_turn.new.self in
    let mid : EngineState = c.take_heard.new.self in
    let h : HeardText = heard_text c.in-Some-turn_in.heard in
    let why : Refusal = c.in-Err-take_heard.refused in
    let same : mid ≡ old = unheard_leaves (notice_in h.lesson before.payloads h.source.rank h.word) before mid h why c.in-Err-take_heard.ensures.exact
    ∙ c.spell_turn.ensures.kept in
    omega (
      arith,
      c.discard_or_keep.ensures.within,
      ap (λ (e : EngineState). length e.sessions.out) same,
      ap (λ (e : EngineState). room e.sessions.peers) same,
    )

pub returns-clause-longer : goal.returns-clause-longer
returns-clause-longer t c =
    let old : EngineState = c.args.self.now in
    let before : EngineState = c.spell_turn.new.self in
    let mid : EngineState = c.take_heard.new.self in
    let h : HeardText = heard_text c.in-Some-turn_in.heard in
    let why : Refusal = c.in-Err-take_heard.refused in
    let same : mid ≡ old = unheard_leaves (notice_in h.lesson before.payloads h.source.rank h.word) before mid h why c.in-Err-take_heard.ensures.exact
    ∙ c.spell_turn.ensures.kept in
    omega (arith, c.discard_or_keep.ensures.longer, ap (λ (e : EngineState). length e.sessions.out) same)

pub returns-clause-known : goal.returns-clause-known
returns-clause-known t c =
    let old : EngineState = c.args.self.now in
    let before : EngineState = c.spell_turn.new.self in
    let mid : EngineState = c.take_heard.new.self in
    let h : HeardText = heard_text c.in-Some-turn_in.heard in
    let why : Refusal = c.in-Err-take_heard.refused in
    let same : mid ≡ old = unheard_leaves (notice_in h.lesson before.payloads h.source.rank h.word) before mid h why c.in-Err-take_heard.ensures.exact
    ∙ c.spell_turn.ensures.kept in
    c.discard_or_keep.ensures.known ∙ ap (λ (e : EngineState). e.sessions.known) same
