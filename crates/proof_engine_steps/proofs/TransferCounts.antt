-- A core that counts a transfer holds all else as it did.
use Rattle.std.proofs.Common.{◌≡◌, ◌≢◌, ℕ, ◌+◌, ◌<◌, Bool, true, false, List, [], ◌∷◌, ◌++◌, length, if◌then◌else◌}
use Rattle.std.proofs.Common.{refl, sym, ap, ◌∙◌, subst, append-nil, ◌⊎◌, inl, inr}
use Rattle.std.specs.Prelude.{slice_index_or}
use Rattle.std.proofs.lemmas.Bool.{cases_eq}
use Rattle.std.proofs.lemmas.List.{length-append, length-set}
use Rattle.perfect_queues.proofs.EndpointLemmas.{same_eq, same_refl}
use Rattle.proof_engine_steps.proofs.Announces.{most_begun, next_below, next_elsewhere, next_here}
use Rattle.proof_engine_steps.proofs.AnnouncementArrivals.{announced_numbers}
use Rattle.proof_engine_steps.proofs.UnderWay.{shown_counted}
use Rattle.proof_engine_steps.specs.TransferCounts.{
  NumbersAreCounts,
  TransfersFromAreCounted,
  TransfersToAreCounted,
  also_to,
}
use Rattle.proof_engine_view.specs.Frames.{endpoint_of}
use Rattle.proof_engine_view.specs.Transfers.{Announcements, AnnouncementsGrow, Transfer}
use Rattle.proof_engine_view.specs.UnderWay.{IsNumbered}
use Rattle.incarnation.specs.declared.place.Place.{Place}
use Rattle.proof_pure_network.specs.Announcements.{Begins}
use Rattle.rendezvous.specs.State.{fresh, is_full_to, next_to, with_announced, with_begun}
use Rattle.rendezvous.specs.declared.transfers.Numbers.{Numbers}
use Rattle.vocabulary.specs.Endpoints.{is_same}
use Rattle.vocabulary.specs.declared.endpoint.Endpoint.{Endpoint}

pub numbers_are_counts : NumbersAreCounts
numbers_are_counts a c known core rank shown there apart = shown.under_way.numbered.begun rank there apart

-- what was announced stays so
grows : (a : Announcements) (d : Endpoint) (t : Transfer) → AnnouncementsGrow a (also_to a d t)
grows a d t = record { to = λ x. go (is_same x d) (a.to x); from = λ s. ([], append-nil (a.from s)) }
  where
    go : (b : Bool) (ts : List Transfer) → Begins ts (if b then ts ++ t ∷ [] else ts)
    go true ts = (t ∷ [], refl)
    go false ts = ([], append-nil ts)

-- one more is announced to the one endpoint, and none to others
more_here : (a : Announcements) (d : Endpoint) (t : Transfer) → length ((also_to a d t).to d) ≡ length (a.to d) + 1
more_here a d t = go (is_same d d) (same_refl d)
  where
    go : (b : Bool) → b ≡ true → length (if b then a.to d ++ t ∷ [] else a.to d) ≡ length (a.to d) + 1
    go true h = length-append (a.to d) (t ∷ [])
    go false h = absurd cc

same_elsewhere : (a : Announcements) (d x : Endpoint) (t : Transfer) → (x.rank ≡ d.rank → ⊥) →
    (also_to a d t).to x ≡ a.to x
same_elsewhere a d x t apart = go (is_same x d) refl
  where
    go : (b : Bool) → is_same x d ≡ b → (if b then a.to x ++ t ∷ [] else a.to x) ≡ a.to x
    go true h = absurd (apart (ap (λ (e : Endpoint). e.rank) (same_eq x d h)))
    go false h = refl

-- the numbers once one more has begun
numbered_to : (a : Announcements) (known : List ℕ) (p : Place) (ns : List Numbers) (rank : ℕ) (t : Transfer) →
    IsNumbered a.to known p ns → rank < p.size → (rank ≡ p.endpoint.rank → ⊥) → is_full_to ns rank ≡ false →
    IsNumbered (also_to a (endpoint_of known rank) t).to known p (with_begun ns rank)
numbered_to a known p ns rank t n there other free =
    record {
      width = length-set ns rank (record (slice_index_or ns rank fresh) { begun = next_to ns rank + 1 }) ∙ n.width;
      begun = λ x inside apart. begun x inside apart (cases_eq x rank);
      most = λ x. most_begun ns rank x there_is (next_below ns rank there_is free (n.most rank)) (n.most x)
          (cases_eq x rank);
    }
  where
    there_is : rank < length ns
    there_is = subst (λ (m : ℕ). rank < m) (sym n.width) there

    begun : (x : ℕ) → x < p.size → (x ≡ p.endpoint.rank → ⊥) → (x ≡ rank) ⊎ (x ≢ rank) →
        next_to (with_begun ns rank) x ≡ length ((also_to a (endpoint_of known rank) t).to (endpoint_of known x))
    begun x inside apart (inl is) =
        subst (λ (r : ℕ). next_to (with_begun ns rank) r ≡
        length ((also_to a (endpoint_of known rank) t).to (endpoint_of known r))) (sym is)
        (next_here ns rank there_is ∙
        (ap (λ (m : ℕ). m + 1) (n.begun rank there other) ∙ sym (more_here a (endpoint_of known rank) t)))
    begun x inside apart (inr ne) =
        next_elsewhere ns rank x ne ∙
        (n.begun x inside apart ∙
        ap (λ (ts : List Transfer). length ts)
        (sym (same_elsewhere a (endpoint_of known rank) (endpoint_of known x) t ne)))

pub transfers_to_are_counted : TransfersToAreCounted
transfers_to_are_counted a c known core rank t shown there apart free =
    shown_counted a (also_to a (endpoint_of known rank) t) c known core (with_begun c.transfers.numbers rank) shown
    (grows a (endpoint_of known rank) t)
    (numbered_to a known c.place c.transfers.numbers rank t shown.under_way.numbered there apart free)

pub transfers_from_are_counted : TransfersFromAreCounted
transfers_from_are_counted a c known core rank shown =
    shown_counted a a c known core (with_announced c.transfers.numbers rank) shown
    (record { to = λ d. ([], append-nil (a.to d)); from = λ s. ([], append-nil (a.from s)) })
    (announced_numbers a.to known c.place c.transfers.numbers rank shown.under_way.numbered)
