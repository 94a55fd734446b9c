use Rattle.std.proofs.Common.{rules, tests}
use Rattle.std.proofs.lemmas.Iterator.{cases_from_all}
use Rattle.std.proofs.lemmas.Iterator.Splits.{YieldsList-from_slice_split}
use Rattle.std.specs.List.{slice_split}
use Rattle.rank_addresses.specs.HostLists.{IsAddressText, is_comma}
use Rattle.rank_addresses.proofs.ListLaws.{judged}
use Rattle.rank_addresses.proofs.lists.are_addresses.Goals as goal

pub returns : goal.returns
returns c =
    judged c.all.result (slice_split is_comma c.args.text.now)
    (cases_from_all _ _ _ IsAddressText (λ w. IsAddressText w → ⊥) c.all.ensures.ran
    (YieldsList-from_slice_split _ is_comma c.args.text.now c.split.ensures.rest c.split.ensures.done
    c.split.ensures.closure (λ x r q k. search (rules, tests)))
    (λ x q k. search (rules, tests)) (λ x q k. search (rules, tests)))
