-- A piece that is due fits; what stood at a place before it is removed doesn't matter.
use Rattle.std.proofs.Common.{rules, ◌≡◌, true, get_or, Option, Some, sym, ap, ◌∙◌}
use Rattle.std.proofs.lemmas.List.Quantifiers.{position-Some}
use Rattle.std.proofs.lemmas.Option.{slice_get-get_or}
use Rattle.rendezvous.specs.Collections.{Collecting, is_from, is_next_data}
use Rattle.rendezvous.specs.State.{blank, collection_for, collection_at, is_taken}
use Rattle.rendezvous.proofs.Steps.{fits_behind, remove_set}
use Rattle.rendezvous.proofs.transfers.take_piece.Goals as goal

pub as_slice-requires : goal.as_slice-requires
as_slice-requires c κs = search rules

pub place_of_collection-requires : goal.place_of_collection-requires
place_of_collection-requires c = search rules

pub push_piece-requires-clause-there : goal.push_piece-requires-clause-there
push_piece-requires-clause-there c = search rules

pub push_piece-requires-clause-room : goal.push_piece-requires-clause-room
push_piece-requires-clause-room c =
    let collections = c.args.collections.now.items in
    let place = c.in-Some.place in
    let before = get_or collections place blank in
    let at : collection_for c.args.source c.args.transfer collections ≡ Some place =
    sym (c.place_of_collection.ensures ∙ ap (collection_for c.args.source c.args.transfer) c.as_slice.ensures.value) ∙
    c.in-Some.is in
    let there = (position-Some (is_from c.args.source c.args.transfer) collections place blank at).0 in
    let found : collection_at collections (collection_for c.args.source c.args.transfer collections) ≡ Some before =
    ap (collection_at collections) at ∙ slice_get-get_or collections place blank there in
    let due : is_next_data before c.args.offset c.args.bytes.now ≡ true =
    sym (ap (λ (o : Option Collecting). is_taken o c.args.offset c.args.bytes.now) found) ∙ c.requires in
    fits_behind before c.args.offset c.args.bytes.now due

pub remove-requires : goal.remove-requires
remove-requires c = search rules

pub into_collected-requires : goal.into_collected-requires
into_collected-requires c = search rules

pub returns-then-push_piece-clause-given : goal.returns-then-push_piece-clause-given
returns-then-push_piece-clause-given c = search rules

pub returns-then-push_piece-clause-rest : goal.returns-then-push_piece-clause-rest
returns-then-push_piece-clause-rest c = search (rules, remove_set)

pub returns-then-push_piece-clause-bound : goal.returns-then-push_piece-clause-bound
returns-then-push_piece-clause-bound c = search rules

pub returns-then-push_piece-clause-capacity : goal.returns-then-push_piece-clause-capacity
returns-then-push_piece-clause-capacity c = search rules

pub returns-else-push_piece-clause-given : goal.returns-else-push_piece-clause-given
returns-else-push_piece-clause-given c = search rules

pub returns-else-push_piece-clause-rest : goal.returns-else-push_piece-clause-rest
returns-else-push_piece-clause-rest c = search rules

pub returns-else-push_piece-clause-bound : goal.returns-else-push_piece-clause-bound
returns-else-push_piece-clause-bound c = search rules

pub returns-else-push_piece-clause-capacity : goal.returns-else-push_piece-clause-capacity
returns-else-push_piece-clause-capacity c = search rules

pub returns-in-None-clause-given : goal.returns-in-None-clause-given
returns-in-None-clause-given c = search rules

pub returns-in-None-clause-rest : goal.returns-in-None-clause-rest
returns-in-None-clause-rest c = search rules

pub returns-in-None-clause-bound : goal.returns-in-None-clause-bound
returns-in-None-clause-bound c = search rules

pub returns-in-None-clause-capacity : goal.returns-in-None-clause-capacity
returns-in-None-clause-capacity c = search rules
