use Rattle.std.proofs.Common.{refl}
use Rattle.layouts.specs.Layouts.{copies_at}
use Rattle.layouts.proofs.Apart.{copies_dont_meet}
use Rattle.layouts.proofs.FirstPlaces.{first_places}
use Rattle.layouts.proofs.PlaceLaws.{stand_in_order}
use Rattle.layouts.proofs.WritingLaws.{received_as_sent, writes_its_places}
use Rattle.layouts.proofs.laws.layouts_hold_together.Goals as goal

pub returns-clause-in_order : goal.returns-clause-in_order
returns-clause-in_order c = stand_in_order

pub returns-clause-copies_dont_meet : goal.returns-clause-copies_dont_meet
returns-clause-copies_dont_meet c = copies_dont_meet

pub returns-clause-basic_type : goal.returns-clause-basic_type
returns-clause-basic_type c = first_places

pub returns-clause-shorter_message : goal.returns-clause-shorter_message
returns-clause-shorter_message c = writes_its_places

pub returns-clause-round : goal.returns-clause-round
returns-clause-round c = received_as_sent

pub returns-clause-examples : goal.returns-clause-examples
unfolding copies_at
returns-clause-examples c =
    record { extent = refl; places_are = refl; sent = refl; received = refl; block_extent = refl }
