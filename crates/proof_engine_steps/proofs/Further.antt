-- A further frame of one delivery: who spoke is known by the first, and the rank isn't woken in between.
use Rattle.std.proofs.Common.{◌≡◌, ℕ, zero, suc, Bool, true, false, List, [], ◌∷◌, nat_lt, length, Option, Some, None}
use Rattle.std.proofs.Common.{if◌then◌else◌, slice_get, slice_index, refl, sym, ap, ◌∙◌, subst, arith, ◌<◌}
use Rattle.std.proofs.lemmas.Bool.{le-ltb}
use Rattle.std.proofs.lemmas.Option.{same_Some}
use Rattle.datagram.specs.Spellings.{FrameText}
use Rattle.incarnation.specs.declared.place.Place.{Place}
use Rattle.perfect_queues.specs.Completions.{Answer}
use Rattle.perfect_queues.specs.Requests.{all_changed, changed}
use Rattle.point_to_point_calls.specs.FrameNews.{NewsText}
use Rattle.point_to_point.specs.CoreState.{CoreState}
use Rattle.vocabulary.specs.declared.endpoint.Endpoint.{Endpoint}
use Rattle.proof_pure_network.specs.Core.{Core}
use Rattle.proof_pure_network.specs.Engine as network
use Rattle.proof_pure_network.specs.Engine.{core_ready, core_settled, core_settled_by}
use Rattle.proof_pure_network.specs.Frames.{Frame}
use Rattle.proof_pure_network.specs.Jobs.{Closed, Collecting, Job, Offering, Over, Waiting, closed, is_collecting}
use Rattle.proof_pure_network.specs.Jobs.{Probed, Unmatched}
use Rattle.proof_engine_view.specs.Frames.{known_after}
use Rattle.proof_engine_view.specs.CoreViews.{IsShown}
use Rattle.proof_engine_view.specs.Transfers.{Announcements}
use Rattle.proof_engine_steps.specs.Steps.{CollectsOnce, IsFromOther, IsHeard, heard_by_core}
use Rattle.proof_engine_steps.proofs.SourceKnowledge.{source_incarnation}

-- ---- WHO SPOKE

-- whoever is known at its incarnation teaches nothing
pub met_known : (core : Core) (s : Endpoint) → core.known s.rank ≡ s.incarnation → network.met core s ≡ core
met_known core s is =
    ap (λ (b : Bool). if b then network.learned core s.rank s.incarnation else core)
    (ap (λ (n : ℕ). nat_lt n s.incarnation) is ∙ le-ltb s.incarnation s.incarnation (omega arith))

-- the core knows who spoke at its incarnation, once the word was heard
pub heard_known : (a : Announcements) (old : CoreState) (known : List ℕ) (core : Core) (news : NewsText)
    (frame : Option Frame) → IsShown a old known core → IsFromOther old known news →
    IsHeard a old known core news frame →
    (heard_by_core core news.source frame).core.known news.source.rank ≡ news.source.incarnation
heard_known a old known core news frame shown other heard = heard.shown.known_alike news.source.rank ∙
    source_incarnation old known news shown.width other

-- what comes from it then is no lesson
pub next_from_other : (old new : CoreState) (known : List ℕ) (news : NewsText) (text : Option FrameText) →
    new.place ≡ old.place → length known ≡ old.place.size → IsFromOther old known news →
    IsFromOther new (known_after news.lesson known news.source)
    (record { source = news.source; lesson = false; frame = text })
next_from_other old new known news text place width other =
    let at : slice_index (known_after news.lesson known news.source) news.source.rank ≡ news.source.incarnation = source_incarnation old known news width other in
    record {
      there = subst (λ (p : Place). news.source.rank < p.size) (sym place) other.there;
      apart = subst (λ (p : Place). news.source.rank ≡ p.endpoint.rank → ⊥) (sym place) other.apart;
      fresh = omega (arith, at);
      lesson = le-ltb (slice_index (known_after news.lesson known news.source) news.source.rank) news.source.incarnation
          (omega (arith, at));
    }

-- ---- WHAT A CORE COLLECTS BEFORE IT IS SETTLED

-- closing leaves a request that collects
closed_collecting : (s : Endpoint) (k : ℕ) (x : Job) → is_collecting s k x ≡ true → closed x ≡ x
closed_collecting s k (Waiting p) h = refl
closed_collecting s k (Collecting p m got) h = refl
closed_collecting s k (Offering d basic values) h = refl
closed_collecting s k (Over o) h = absurd cc
closed_collecting s k Closed h = refl
closed_collecting s k (Unmatched d) h = refl
closed_collecting s k (Probed g x) h = refl

changed_stays : (s : Endpoint) (k : ℕ) (js : List Job) (place i : ℕ) (x : Job) → is_collecting s k x ≡ true →
    slice_get js i ≡ Some x → slice_get (changed closed js place) i ≡ Some x
changed_stays s k (y ∷ js) zero zero x c at =
    let same : y ≡ x = same_Some y x at in
    ap Some (ap closed same ∙ closed_collecting s k x c)
changed_stays s k (y ∷ js) zero (suc i) x c at = at
changed_stays s k (y ∷ js) (suc place) zero x c at = at
changed_stays s k (y ∷ js) (suc place) (suc i) x c at = changed_stays s k js place i x c at
changed_stays s k [] place i x c at = at

all_stay : (s : Endpoint) (k : ℕ) (places : List ℕ) (js : List Job) (i : ℕ) (x : Job) → is_collecting s k x ≡ true →
    slice_get js i ≡ Some x → slice_get (all_changed closed js places) i ≡ Some x
all_stay s k [] js i x c at = at
all_stay s k (place ∷ places) js i x c at =
    all_stay s k places (changed closed js place) i x c (changed_stays s k js place i x c at)

settled_stays : (core : Core) (s : Endpoint) (k i : ℕ) (x : Job) → is_collecting s k x ≡ true →
    slice_get core.jobs i ≡ Some x → slice_get (core_settled core).jobs i ≡ Some x
settled_stays core s k i x c at = go (core_ready core)
  where
    go : (o : Option (Answer × List ℕ)) → slice_get (core_settled_by core o).jobs i ≡ Some x
    go None = at
    go (Some t) = all_stay s k t.1 core.jobs i x c at

-- where the settled core collects each transfer once, the core does
pub once_unsettled : (core : Core) → CollectsOnce (core_settled core) → CollectsOnce core
once_unsettled core once s k i j x y at cx aj cy =
    once s k i j x y (settled_stays core s k i x cx at) cx (settled_stays core s k j y cy aj) cy
