-- One more request is used up, and at the end all are.
use Rattle.std.proofs.Common.{◌≡◌, ℕ, ◌+◌, List, [], Option, None, get_or, drop, sym, ap, ◌∙◌, subst, arith}
use Rattle.std.proofs.lemmas.List.{drop_all}
use Rattle.requests.specs.declared.outcome.Outcome.{Outcome}
use Rattle.requests.specs.declared.table.Request.{Request}
use Rattle.requests.proofs.Apart.{Goes, goes_more, goes_last, cut}
use Rattle.requests.proofs.completion.end_each.Goals as goal

pub loop-request-preserved : goal.loop-request-preserved
loop-request-preserved c =
    let all = c.args.requests.now in
    let i : ℕ = c.loop-request.request-index in
    let now = c.loop-request.table in
    let new = c.end_finished.new.self in
    let out = c.loop-request.outcomes.items in
    let so_far = c.loop-request.invariant in
    record {
      goes = subst (λ (os : List Outcome). Goes c.args.table.now new os all (drop (i + 1) all))
          (sym c.push_reserved.ensures.items)
          (goes_more c.args.table.now now new out c.end_finished.result (get_or all i None) all (drop (i + 1) all)
          (subst (λ (rs : List (Option Request)). Goes c.args.table.now now out all rs)
          (cut all i c.loop-request-test.true) so_far.goes)
          c.end_finished.ensures.outcome c.end_finished.ensures.slots c.end_finished.ensures.serial);
      count = c.push_reserved.ensures.len ∙ ap (λ (n : ℕ). n + 1) so_far.count;
      room = c.push_reserved.ensures.capacity ∙ so_far.room;
    }

pub returns-clause-outcomes : goal.returns-clause-outcomes
returns-clause-outcomes c =
    let all = c.args.requests.now in
    let none_left : drop c.loop-request.request-index all ≡ [] = drop_all c.loop-request.request-index all (omega (arith, c.loop-request-test.false)) in
    goes_last c.args.table.now c.loop-request.table c.loop-request.outcomes.items all
    (subst (λ (rs : List (Option Request)). Goes c.args.table.now c.loop-request.table c.loop-request.outcomes.items all
    rs) none_left c.loop-request.invariant.goes)

pub returns-clause-slots : goal.returns-clause-slots
returns-clause-slots c =
    let all = c.args.requests.now in
    let none_left : drop c.loop-request.request-index all ≡ [] = drop_all c.loop-request.request-index all (omega (arith, c.loop-request-test.false)) in
    (subst (λ (rs : List (Option Request)). Goes c.args.table.now c.loop-request.table c.loop-request.outcomes.items all
    rs) none_left c.loop-request.invariant.goes).slots

pub returns-clause-serial : goal.returns-clause-serial
returns-clause-serial c = c.loop-request.invariant.goes.serial
