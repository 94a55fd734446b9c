use Rattle.rank_addresses.proofs.lists.is_address.Goals as goal

pub returns-in-Err : goal.returns-in-Err
returns-in-Err c = λ found. c.in-Err.ensures found.0 found.1
