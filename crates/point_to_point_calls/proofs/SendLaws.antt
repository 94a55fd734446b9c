-- What is known of a send that breaks no rule.
use Rattle.std.proofs.Common.{◌≡◌, ◌<◌, ◌≤◌, ◌*◌, ℕ, ◌==◌, length, Bool, true, false, Option, Some, None, refl, arith}
use Rattle.std.specs.Prelude.{IfSome}
use Rattle.std.proofs.lemmas.Grind.{common_steps}
use Rattle.vocabulary.specs.BasicTypes.{size_of}
use Rattle.vocabulary.specs.declared.envelope.Source.{Source}
use Rattle.vocabulary.specs.declared.envelope.Source.TheVariants.{Any, Rank, Null}
use Rattle.vocabulary.specs.Limits.{greatest_limit}
use Rattle.vocabulary.specs.MessageLimits.{limit_of}
use Rattle.vocabulary.proofs.MessageLimits.{limit_most}
use Rattle.datatypes.specs.Contents.{Contents, bytes_of}
use Rattle.datatypes.specs.ContentLaws.{length-bytes_of, sizes}
use Rattle.perfect_queues.specs.Buffers.{differs_in_type, is_too_short}
use Rattle.perfect_queues.specs.Refusals.{is_no_tag, is_no_target}
use Rattle.requests.specs.Regions.{byte_count, handed_of, sent_from}
use Rattle.incarnation.specs.declared.place.Place.{Place}
use Rattle.point_to_point_calls.specs.declared.call.RoutedSend.{RoutedSend}
use Rattle.point_to_point_calls.specs.declared.sends.Destination.{Destination}
use Rattle.point_to_point_calls.specs.SendRules.{
  IsSendable,
  destination,
  rank_to,
  rank_unless,
  send_fault,
}

-- THE RULES

-- buffer and layout are of one basic type
pub same_type : (p : Place) (s : RoutedSend) → send_fault p s ≡ None → differs_in_type (handed_of s.send.from) ≡ false
unfolding send_fault
same_type p s none = grind (arith, common_steps, none)

-- the buffer is long enough
pub long_enough : (p : Place) (s : RoutedSend) → send_fault p s ≡ None → is_too_short (handed_of s.send.from) ≡ false
unfolding send_fault
long_enough p s none = grind (arith, common_steps, none)

-- it has no more bytes than a message of the job may have
pub within_limit : (p : Place) (s : RoutedSend) → send_fault p s ≡ None →
    byte_count s.send.from ≤ limit_of p.message_limit
unfolding send_fault
within_limit p s none = grind (arith, common_steps, none)

-- nor than a message of any job
pub within_greatest : (p : Place) (s : RoutedSend) → send_fault p s ≡ None → byte_count s.send.from ≤ greatest_limit
within_greatest p s none = omega (arith, within_limit p s none, limit_most p.message_limit)

-- it has a tag
has_tag : (p : Place) (s : RoutedSend) → send_fault p s ≡ None → is_no_tag s.send.tag ≡ false
unfolding send_fault
has_tag p s none = grind (arith, common_steps, none)

-- it has a target
has_target : (p : Place) (s : RoutedSend) → send_fault p s ≡ None → is_no_target p.size s.route.named ≡ false
unfolding send_fault
has_target p s none = grind (arith, common_steps, none)

-- THE FRAME

-- what may be sent has few elements
pub few_elements : (tag : ℕ) (c : Contents) → IsSendable tag c → length c.values ≤ greatest_limit
few_elements tag c small =
    let sized : length (bytes_of (size_of c.basic) c.values) ≡ length c.values * size_of c.basic = length-bytes_of (size_of c.basic) c.values in
    let size : 0 < size_of c.basic = (sizes c.basic).positive in
    let least : length c.values ≤ length c.values * size_of c.basic = grind arith in
    omega (arith, sized, least, small.count)

-- few bytes under a tag may be sent
sendable_at : (t : Source) (g : Option ℕ) (x : ℕ) (c : Contents) → length c.values * size_of c.basic ≤ greatest_limit →
    is_no_tag g ≡ false →
    IfSome (destination t g x) (λ (d : Destination). IsSendable d.tag c)
sendable_at Any g x c few tagged = tt
sendable_at Null g x c few tagged = tt
sendable_at (Rank to) None x c few tagged = tt
sendable_at (Rank to) (Some tag) x c few tagged =
    let sized : length (bytes_of (size_of c.basic) c.values) ≡ length c.values * size_of c.basic = length-bytes_of (size_of c.basic) c.values in
    record { count = omega (arith, sized, few); tag_is = grind (arith, common_steps, tagged) }

-- a target that is a rank is one of the job's
there_at : (n : ℕ) (t : Source) (g : Option ℕ) (x : ℕ) → is_no_target n t ≡ false →
    IfSome (destination t g x) (λ (d : Destination). d.rank < n)
there_at n Any g x there = tt
there_at n Null g x there = tt
there_at n (Rank to) None x there = tt
there_at n (Rank to) (Some tag) x there = grind (arith, common_steps, there)

-- what it sends may be sent
pub is_sendable : (p : Place) (s : RoutedSend) → send_fault p s ≡ None →
    IfSome (destination s.route.named s.send.tag s.route.context)
    (λ (d : Destination). IsSendable d.tag (sent_from s.send.from))
is_sendable p s none =
    sendable_at s.route.named s.send.tag s.route.context (sent_from s.send.from) (within_greatest p s none)
    (has_tag p s none)

-- it goes to a rank of the job
pub is_there : (p : Place) (s : RoutedSend) → send_fault p s ≡ None →
    IfSome (destination s.route.named s.send.tag s.route.context) (λ (d : Destination). d.rank < p.size)
is_there p s none = there_at p.size s.route.named s.send.tag s.route.context (has_target p s none)

-- so does its frame
rank_at : (own : Bool) (n : ℕ) (d : Destination) → d.rank < n → IfSome (rank_unless own d) (λ (rank : ℕ). rank < n)
rank_at true n d there = tt
rank_at false n d there = there

-- whatever the destination
rank_within : (p : Place) (d : Option Destination) → IfSome d (λ (d : Destination). d.rank < p.size) →
    IfSome (rank_to p d) (λ (rank : ℕ). rank < p.size)
rank_within p None there = tt
rank_within p (Some d) there = rank_at (d.rank == p.endpoint.rank) p.size d there

-- the rank that its frame goes to is one of the job's
pub rank_is_there : (p : Place) (s : RoutedSend) → send_fault p s ≡ None →
    IfSome (rank_to p (destination s.route.named s.send.tag s.route.context)) (λ (rank : ℕ). rank < p.size)
rank_is_there p s none = rank_within p (destination s.route.named s.send.tag s.route.context) (is_there p s none)
