-- One more rank is another member, or isn't.
use Rattle.std.proofs.Common.{◌≡◌, ◌++◌, ◌∷◌, [], ℕ, Bool, List, cond, get_or, filter, take, sym, ap, ◌∙◌}
use Rattle.std.specs.Prelude.{not}
use Rattle.std.proofs.lemmas.List.{append-nil}
use Rattle.std.proofs.lemmas.List.Elements.{filter_more}
use Rattle.collective_messages.specs.Notes.{member_at}
use Rattle.vocabulary.specs.Endpoints.{is_same}
use Rattle.vocabulary.specs.declared.endpoint.Endpoint.{Endpoint}
use Rattle.collective_steps.proofs.contents.others.Goals as goal
use Rattle.collective_steps.proofs.contents.others.Goals.{then-not-is_same+in_ok-push, else-not-is_same}

pub loop-rank-preserved : goal.loop-rank-preserved
loop-rank-preserved c =
    let is_other : ℕ → Bool = λ r. not (is_same (member_at c.args.inside.now.incarnation r) c.args.own) in
    let ranks = c.args.ranks.now in
    let i = c.loop-rank.rank-index in
    let r = get_or ranks i 0 in
    let so_far : List ℕ = filter is_other (take i ranks) in
    let more = filter_more is_other ranks i 0 c.loop-rank-test.true in
    let asked : c.is_same.result ≡ is_same (member_at c.args.inside.now.incarnation r) c.args.own =
    c.is_same.ensures ∙ ap (λ (m : Endpoint). is_same m c.args.own) c.member.ensures
    in
    elim c.if-not-is_same.branch [
      | then-not-is_same+in_ok-push w ↦
          rw w.others-is
          (w.in_ok-push.ensures.items ∙ ap (λ (t : List ℕ). t ++ r ∷ []) c.loop-rank.invariant
          ∙ sym (more ∙ ap (λ (b : Bool). so_far ++ cond b (r ∷ []) []) (ap not (sym asked ∙ w.if-not-is_same.true))))
      | else-not-is_same w ↦
          rw w.others-is
          (c.loop-rank.invariant
          ∙ sym (more ∙ ap (λ (b : Bool). so_far ++ cond b (r ∷ []) []) (ap not (sym asked ∙ w.if-not-is_same.false)) ∙
          append-nil so_far))
    ]
