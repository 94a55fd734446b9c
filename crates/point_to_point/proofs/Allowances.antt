-- What is known of news that break no rule.
use Rattle.std.proofs.Common.{◌≡◌, ℕ, ◌<◌, Bool, true, false, List, length, Option, Some, None, refl, sym, arith, subst}
use Rattle.std.specs.Prelude.{slice_get}
use Rattle.std.proofs.lemmas.Option.{slice_get_within}
use Rattle.std.specs.Global.{Vec}
use Rattle.vocabulary.specs.declared.endpoint.Endpoint.{Endpoint}
use Rattle.datagram.specs.Spellings.{EagerText, RequestText}
use Rattle.match_queues.specs.declared.envelope.Message.{Message}
use Rattle.rendezvous.specs.declared.transfers.Numbers.{Numbers}
use Rattle.rendezvous.specs.State.{is_due_number, is_next}
use Rattle.point_to_point_calls.specs.declared.refusal.Refusal.{Refusal}
use Rattle.point_to_point.specs.CoreState.{CoreState, IsAnswerable}
use Rattle.point_to_point_calls.specs.FrameNews.{IsWhole, announced_of, bad_unless, first_of, message_of}
use Rattle.point_to_point.specs.Arrivals.{KeysFit}
use Rattle.std.specs.Prelude.{is_some}

-- a test after which nothing is wrong holds
pub allowed : (b : Bool) → bad_unless b ≡ None → b ≡ true
allowed true none = refl
allowed false none = absurd cc

-- the second of two rules
pub second_of : (e : Option Refusal) (b : Bool) → first_of e (bad_unless b) ≡ None → b ≡ true
second_of None b none = allowed b none
second_of (Some e) b none = absurd cc

rank_at : (ns : List Numbers) (rank transfer : ℕ) (n : Option Numbers) → slice_get ns rank ≡ n →
    is_due_number n transfer ≡ true → rank < length ns
rank_at ns rank transfer None at due = absurd (grind (arith, due))
rank_at ns rank transfer (Some n) at due = slice_get_within ns rank n at

-- who announces the next transfer has a number
pub next_is_there : (ns : List Numbers) (rank transfer : ℕ) → is_next ns rank transfer ≡ true → rank < length ns
next_is_there ns rank transfer next = rank_at ns rank transfer (slice_get ns rank) refl next

-- what it announces can be answered
announced_so : (size : ℕ) (s : Endpoint) (t : RequestText) → s.rank < size →
    IsAnswerable size (announced_of s t) (announced_of s t).body
unfolding announced_of
announced_so size s t there = there

pub answerable : (size : ℕ) (ns ms : List Numbers) (s : Endpoint) (t : RequestText) (m : Message) → length ns ≡ size →
    ns ≡ ms →
    is_next ms s.rank t.transfer ≡ true → m ≡ announced_of s t → IsAnswerable size m m.body
answerable size ns ms s t m width same next is =
    let inside : s.rank < length ns = next_is_there ns s.rank t.transfer (subst (λ (ks : List Numbers). is_next ks s.rank t.transfer ≡ true) (sym same) next) in
    subst (λ (n : Message). IsAnswerable size n n.body) (sym is)
    (announced_so size s t (subst (λ (k : ℕ). s.rank < k) width inside))

-- the message of an eager frame is there
pub whole_so : (s : Endpoint) (t : EagerText) → IsWhole (message_of s t).body
unfolding message_of
whole_so s t = tt

-- there are keys exactly with a lesson
pub keys_are : (lesson : Bool) (keys : Option (Vec ℕ)) (c : CoreState) (s : Endpoint) → KeysFit lesson keys c s →
    is_some keys ≡ lesson
keys_are false keys c s fit = subst (λ (k : Option (Vec ℕ)). is_some k ≡ false) (sym fit) refl
keys_are true None c s fit = absurd fit
keys_are true (Some keys) c s fit = refl
