-- The engine of a rank among the others: what its event is to all of them.
use Rattle.std.proofs.Common.{◌≡◌, ◌<◌, ℕ, List, length, get_or, Option, Some, None, Result, refl, sym, ap, subst, ◌∙◌}
use Rattle.std.proofs.Common.{arith}
use Rattle.std.specs.Prelude.{Err, All, slice_get, slice_set}
use Rattle.std.proofs.lemmas.List.{length-set, set-get_or}
use Rattle.std.proofs.lemmas.List.Elements.{All-set}
use Rattle.std.proofs.lemmas.Option.{get_or_from_slice_get, slice_get-get_or, slice_get_within}
use Rattle.engine_calls.specs.EngineState.{EngineState}
use Rattle.world.specs.Faults.{target_of}
use Rattle.world.specs.Steps.{DeliveryRuns, EventRuns, Gave, RanAt, Rejection}
use Rattle.world.specs.WorldState.{ArePlaced, IsReady, IsWorld, StandsIn}
use Rattle.world.specs.declared.event.Event.{Event}
use Rattle.world.specs.declared.event.Event.TheVariants as events
use Rattle.world.proofs.QuietPairs.{all_at}

-- an event at the engine of the rank that it comes to
pub ran_at : (d : List (ℕ × List ℕ)) (event : Event) (old : List EngineState) (rank : ℕ) (e next : EngineState)
    (result : Result Gave Rejection) →
    target_of d event ≡ Some rank → slice_get old rank ≡ Some e → EventRuns d event e result next →
    RanAt d event old result (slice_set old rank next)
ran_at d event old rank e next result target there ran =
    record { rank = rank; target = target; engine = e; there = there; next = next; ran = ran; others = refl }

-- the engine at a rank, by what is read there
pub there_by : (engines : List EngineState) (rank : ℕ) (e : EngineState) → rank < length engines →
    e ≡ get_or engines rank e → slice_get engines rank ≡ Some e
there_by engines rank e lt is = slice_get-get_or engines rank e lt ∙ ap (λ (x : EngineState). Some x) (sym is)

-- what stands at a place, put there once more
pub set_same : (xs : List EngineState) (k : ℕ) (x : EngineState) → slice_get xs k ≡ Some x → slice_set xs k x ≡ xs
set_same xs k x is = ap (slice_set xs k) (sym (get_or_from_slice_get xs k x x is)) ∙ set-get_or xs k x

-- an engine that refuses an event stays as it was
engine_stays : (d : List (ℕ × List ℕ)) (event : Event) (e next : EngineState) (refusal : Rejection) →
    EventRuns d event e (Err refusal) next → next ≡ e
engine_stays d (events.Call r call) e next refusal ran = ran.0
engine_stays d (events.Deliver number) e next refusal ran = go (slice_get d number) ran
  where
    go : (o : Option (ℕ × List ℕ)) → DeliveryRuns o e (Err refusal) next → next ≡ e
    go None n = absurd n
    go (Some t) n = n.0
engine_stays d (events.Stray r bytes) e next refusal ran = ran.0
engine_stays d (events.Tick r now) e next refusal ran = ran.0
engine_stays d (events.Restart r) e next refusal ran = ran.0

-- and so do all
pub all_stay : (d : List (ℕ × List ℕ)) (event : Event) (old new : List EngineState) (refusal : Rejection) →
    RanAt d event old (Err refusal) new → new ≡ old
all_stay d event old new refusal ran =
    ran.others ∙ ap (slice_set old ran.rank) (engine_stays d event ran.engine ran.next refusal ran.ran) ∙
    set_same old ran.rank ran.engine ran.there

-- an engine of a world is ready for an event
pub ready_there : (engines : List EngineState) (rank : ℕ) (e : EngineState) → IsWorld engines → ArePlaced engines →
    slice_get engines rank ≡ Some e → IsReady e
ready_there engines rank e world placed there =
    let stands : StandsIn (length engines) e = all_at (StandsIn (length engines)) engines rank e world.1 there in
    let place = placed rank e there in
    record {
      there = omega (arith, place.rank, place.size, slice_get_within engines rank e there);
      few = omega (arith, stands.size, world.0);
      clean = stands.clean;
    }

-- how many ranks the engine of one knows of
pub size_there : (engines : List EngineState) (rank : ℕ) (e : EngineState) → ArePlaced engines →
    slice_get engines rank ≡ Some e → e.sessions.place.size ≡ length engines
size_there engines rank e placed there = (placed rank e there).size

-- the engines are a world once one of them went on
pub world_after : (engines : List EngineState) (rank : ℕ) (e next : EngineState) → IsWorld engines → ArePlaced engines →
    slice_get engines rank ≡ Some e → IsReady next →
    next.sessions.place.size ≡ e.sessions.place.size → IsWorld (slice_set engines rank next)
world_after engines rank e next world placed there ready size =
    let size_is : length (slice_set engines rank next) ≡ length engines = length-set engines rank next in
    let stands : StandsIn (length engines) next = record { size = size ∙ size_there engines rank e placed there; clean = ready.clean } in (
      omega (arith, size_is, world.0),
      subst (λ (n : ℕ). All (StandsIn n) (slice_set engines rank next)) (sym size_is)
          (All-set (StandsIn (length engines)) engines rank next stands world.1),
    )
