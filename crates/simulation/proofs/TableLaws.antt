-- What the table of the ranks holds at each rank.
use Rattle.std.proofs.Common.{◌≡◌, ℕ, Bool, true, false, List, [], ◌∷◌, Option, Some, None, cond, refl, sym, ap, subst, ◌∙◌, ◌==◌}
use Rattle.std.specs.Prelude.{IsSome}
use Rattle.std.specs.BTreeMap.{BTreeMap, Updates, WritesThrough, get, is_at}
use Rattle.std.specs.Ordering.{is_eq, nat_cmp}
use Rattle.std.proofs.Common.{◌⊎◌, inl, inr, arith}
use Rattle.std.proofs.lemmas.Bool.{cases_eq}
use Rattle.std.proofs.lemmas.Bool.Decides.{nat_tests}
use Rattle.engine_calls.specs.declared.reply.Completion.{Completion}
use Rattle.interpreter.specs.declared.steps.NextStep.{NextStep}
use Rattle.interpreter.specs.declared.steps.PendingCall.{PendingCall}
use Rattle.simulation.specs.Courses.{AtRank, CompletedBy, CompletedIn, IsOnlyAt, IsSame, Ranks, Scene, found_at, names_at, or_fresh, scene}
use Rattle.simulation.specs.Parts.{ActGives, CompletionGives, FollowingGives, Part, Standing, no_part, standing}
use Rattle.simulation.specs.Output.{Prints}
use Rattle.simulation.specs.RankAnswers.{Heeded, IsFaulty, IsMade, Made, fresh, heeded, takes_completion}
use Rattle.simulation.specs.Turns.{ActRuns, ActRunsAt, CompletedRuns, CompletionRuns, FollowingRuns, LineActed, Runs}
use Rattle.simulation.specs.declared.calls.Acted.{Acted}
use Rattle.simulation.specs.declared.calls.Acted.TheVariants as acted
use Rattle.simulation.specs.declared.ranks.RankNames.{RankNames}
use Rattle.statements.specs.declared.action.Action.{Action}
use Rattle.world.specs.WorldState.{WorldState}
use Rattle.world.specs.declared.event.HistoryEntry.{HistoryEntry}
use Rattle.simulation.proofs.PrintLaws.{prints_none}

-- numbers that differ are told apart
apart : (a b : ℕ) → (b ≡ a → ⊥) → is_at (nat_cmp a) b ≡ false
apart a b n = grind (arith, nat_tests, n)

-- what stands at a rank, once this was written there
written_at : (size : ℕ) (old new : BTreeMap ℕ RankNames) (rank : ℕ) (now : RankNames) →
    Updates nat_cmp old new rank (Some now) → IsOnlyAt size old.entries rank now new.entries
written_at size old new rank now u = record {
  here = ap (λ (found : Option RankNames). or_fresh size rank found) u.1;
  others = λ other n. ap (λ (found : Option RankNames). or_fresh size other found) (u.2 other (apart rank other n));
}

-- the same, where it was written through a borrow
pub written : (size : ℕ) (old new : BTreeMap ℕ RankNames) (rank : ℕ) (now : RankNames) →
    IsSome (get nat_cmp old rank) → WritesThrough nat_cmp (nat_cmp rank) old now new → IsOnlyAt size old.entries rank now new.entries
written size old new rank now there w = written_at size old new rank now (w.3 there)

-- a rank that is set to what it stood at
pub only_same : (size : ℕ) (ranks : Ranks) (rank : ℕ) → IsOnlyAt size ranks rank (names_at size ranks rank) ranks
only_same size ranks rank = record { here = refl; others = λ other n. refl }

names_found : (size : ℕ) (ranks : Ranks) (rank : ℕ) (found : RankNames) →
    found_at ranks rank ≡ Some found → names_at size ranks rank ≡ found
names_found size ranks rank found is = ap (λ (f : Option RankNames). or_fresh size rank f) is

names_fresh : (size : ℕ) (ranks : Ranks) (rank : ℕ) → found_at ranks rank ≡ None →
    names_at size ranks rank ≡ fresh size rank
names_fresh size ranks rank is = ap (λ (f : Option RankNames). or_fresh size rank f) is

-- a rank in which no name is set comes in
inserted_at : (size : ℕ) (old new : Ranks) (rank other : ℕ) → found_at old rank ≡ None →
    IsOnlyAt size old rank (fresh size rank) new → names_at size new other ≡ names_at size old other
inserted_at size old new rank other none only = elim (cases_eq other rank) [
  | inl e ↦ subst (λ (n : ℕ). names_at size new n ≡ names_at size old n) (sym e)
      (only.here ∙ sym (names_fresh size old rank none))
  | inr n ↦ only.others other n
]

pub same_inserted : (size : ℕ) (old new : BTreeMap ℕ RankNames) (rank : ℕ) → get nat_cmp old rank ≡ None →
    Updates nat_cmp old new rank (Some (fresh size rank)) → IsSame size old.entries new.entries
same_inserted size old new rank none u =
    λ other. inserted_at size old.entries new.entries rank other none (written_at size old new rank (fresh size rank) u)

-- what happens at one rank's names happens among all
at_rank : (size : ℕ) (w v : WorldState) (old new : BTreeMap ℕ RankNames) (rank : ℕ) (s t : RankNames)
    (Gives : Standing → Standing → Type 0) → get nat_cmp old rank ≡ Some s →
    WritesThrough nat_cmp (nat_cmp rank) old t new → Gives (standing w s) (standing v t) →
    AtRank rank (scene size w old.entries) Gives (scene size v new.entries)
at_rank size w v old new rank s t Gives there writes gives = record {
  to = standing v t;
  gives = subst (λ (n : RankNames). Gives (standing w n) (standing v t)) (sym (names_found size old.entries rank s there)) gives;
  world = refl;
  ranks = written size old new rank t (subst (λ (f : Option RankNames). IsSome f) (sym there) refl) writes;
  size = refl;
}

pub act_at_rank : (size : ℕ) (rank : ℕ) (action : Action) (w v : WorldState) (old new : BTreeMap ℕ RankNames)
    (s t : RankNames) (done : Acted) (x y : Option (List ℕ)) → get nat_cmp old rank ≡ Some s →
    WritesThrough nat_cmp (nat_cmp rank) old t new → ActRuns rank action (standing w s) x y done (standing v t) →
    ActRunsAt rank action (scene size w old.entries) x y done (scene size v new.entries)
act_at_rank size rank action w v old new s t acted.Done x y there writes r = record {
  part = r.part;
  gives = at_rank size w v old new rank s t (λ a b. ActGives rank action a r.part b) there writes r.gives;
  prints = r.prints;
}
act_at_rank size rank action w v old new s t (acted.Faulty fault) x y there writes r =
    (subst (λ (n : RankNames). IsFaulty fault action n.names) (sym (names_found size old.entries rank s there)) r.0, r.1)

-- the same, where the rank came into the table before
at_begun : (size : ℕ) (w v : WorldState) (old mid new : Ranks) (rank : ℕ)
    (Gives : Standing → Standing → Type 0) → IsSame size old mid → AtRank rank (scene size w mid) Gives (scene size v new) →
    AtRank rank (scene size w old) Gives (scene size v new)
at_begun size w v old mid new rank Gives same a = record {
  to = a.to;
  gives = subst (λ (n : RankNames). Gives (standing w n) a.to) (same rank) a.gives;
  world = a.world;
  ranks = record { here = a.ranks.here; others = λ other n. a.ranks.others other n ∙ same other };
  size = refl;
}

act_begun : (size : ℕ) (rank : ℕ) (action : Action) (w v : WorldState) (old mid new : Ranks)
    (done : Acted) (x y : Option (List ℕ)) → IsSame size old mid →
    ActRunsAt rank action (scene size w mid) x y done (scene size v new) →
    ActRunsAt rank action (scene size w old) x y done (scene size v new)
act_begun size rank action w v old mid new acted.Done x y same r = record {
  part = r.part;
  gives = at_begun size w v old mid new rank (λ a b. ActGives rank action a r.part b) same r.gives;
  prints = r.prints;
}
act_begun size rank action w v old mid new (acted.Faulty fault) x y same r =
    (subst (λ (n : RankNames). IsFaulty fault action n.names) (same rank) r.0, r.1)

-- a statement of a rank that came into the table before is done, or can't be followed
pub act_line : (size : ℕ) (rank : ℕ) (action : Action) (w v : WorldState) (old mid new : Ranks) (done : Acted)
    (x y : Option (List ℕ)) → IsSame size old mid →
    ActRunsAt rank action (scene size w mid) x y done (scene size v new) →
    LineActed rank action (scene size w old) x y done (scene size v new)
act_line size rank action w v old mid new acted.Done x y same r =
    let done : ActRunsAt rank action (scene size w old) x y acted.Done (scene size v new) =
    act_begun size rank action w v old mid new acted.Done x y same r in
    record { part = done.part; gives = done.gives; prints = done.prints }
act_line size rank action w v old mid new (acted.Faulty fault) x y same r =
    let faulty : ActRunsAt rank action (scene size w old) x y (acted.Faulty fault) (scene size v new) =
    act_begun size rank action w v old mid new (acted.Faulty fault) x y same r in
    (faulty.0, faulty.1)

-- ---- completions

-- the history has nothing of it
pub completed_none : (found : Option HistoryEntry) (at : Scene) (x : Option (List ℕ)) → found ≡ None →
    CompletedRuns found at x x at
completed_none found at x is = subst (λ (f : Option HistoryEntry). CompletedRuns f at x x at) (sym is)
    (record { part = no_part; gives = (refl, refl); prints = prints_none x })

of_found : (found : Option HistoryEntry) (entry : HistoryEntry) (from to : Scene) (x y : Option (List ℕ)) →
    found ≡ Some entry → CompletedRuns (Some entry) from x y to → CompletedRuns found from x y to
of_found found entry from to x y is r =
    subst (λ (f : Option HistoryEntry). CompletedRuns f from x y to) (sym is) r

-- no blocked call is answered
pub completed_quiet : (found : Option HistoryEntry) (entry : HistoryEntry) (at : Scene) (x : Option (List ℕ)) →
    found ≡ Some entry → entry.completion ≡ None → CompletedRuns found at x x at
completed_quiet found entry at x is quiet =
    let by : CompletedBy entry.endpoint.rank entry.completion at no_part at =
    subst (λ (c : Option Completion). CompletedBy entry.endpoint.rank c at no_part at) (sym quiet) (refl, refl) in
    of_found found entry at at x x is (record { part = no_part; gives = by; prints = prints_none x })

-- no line has named the rank, so no call of it is known to be blocked
pub completed_unnamed : (size : ℕ) (w : WorldState) (ranks : Ranks) (found : Option HistoryEntry)
    (entry : HistoryEntry) (completion : Completion) (x : Option (List ℕ)) → found ≡ Some entry →
    entry.completion ≡ Some completion → found_at ranks entry.endpoint.rank ≡ None →
    CompletedRuns found (scene size w ranks) x x (scene size w ranks)
completed_unnamed size w ranks found entry completion x is completes none =
    let rank : ℕ = entry.endpoint.rank in
    let at : Scene = scene size w ranks in
    let named : RankNames = names_at size ranks rank in
    let stands : named ≡ fresh size rank = names_fresh size ranks rank none in
    let gives : CompletionGives rank completion (standing w named) no_part (standing w named) =
    subst (λ (n : RankNames). CompletionGives rank completion (standing w n) no_part (standing w n)) (sym stands)
    (refl, refl) in
    let there : AtRank rank at (λ a b. CompletionGives rank completion a no_part b) at =
    record { to = standing w named; gives = gives; world = refl; ranks = only_same size ranks rank; size = refl } in
    let by : CompletedBy rank entry.completion at no_part at =
    subst (λ (c : Option Completion). CompletedBy rank c at no_part at) (sym completes) there in
    of_found found entry at at x x is (record { part = no_part; gives = by; prints = prints_none x })

-- its names take the answer, and what follows is done
pub completed_some : (size : ℕ) (w v : WorldState) (old new : BTreeMap ℕ RankNames) (found : Option HistoryEntry)
    (entry : HistoryEntry) (completion : Completion) (s mid t : RankNames) (heard : NextStep)
    (next : Option PendingCall) (x y : Option (List ℕ)) → found ≡ Some entry → entry.completion ≡ Some completion →
    get nat_cmp old entry.endpoint.rank ≡ Some s →
    WritesThrough nat_cmp (nat_cmp entry.endpoint.rank) old t new →
    IsMade (takes_completion completion s) heard mid → next ≡ (heeded heard).next →
    FollowingRuns entry.endpoint.rank next (standing w mid) x y (standing v t) →
    CompletedRuns found (scene size w old.entries) x y (scene size v new.entries)
completed_some size w v old new found entry completion s mid t heard next x y is completes named writes made follows r =
    let rank : ℕ = entry.endpoint.rank in
    let c : Made = takes_completion completion s in
    let to : Standing = standing v t in
    let asks : next ≡ c.0.next = follows ∙ ap (λ (h : Heeded). h.next) made.0 in
    let by_next : FollowingGives rank c.0.next (standing w mid) r.part to =
    subst (λ (n : Option PendingCall). FollowingGives rank n (standing w mid) r.part to) asks r.gives in
    let gives : CompletionGives rank completion (standing w s) r.part to =
    subst (λ (n : RankNames). FollowingGives rank c.0.next (standing w n) r.part to) made.1 by_next in
    let there : AtRank rank (scene size w old.entries) (λ a b. CompletionGives rank completion a r.part b) (scene size v new.entries) =
    at_rank size w v old new rank s t (λ a b. CompletionGives rank completion a r.part b) named writes gives in
    let by : CompletedBy rank entry.completion (scene size w old.entries) r.part (scene size v new.entries) =
    subst (λ (o : Option Completion). CompletedBy rank o (scene size w old.entries) r.part (scene size v new.entries))
    (sym completes) there in
    of_found found entry (scene size w old.entries) (scene size v new.entries) x y is
    (record { part = r.part; gives = by; prints = r.prints })

-- ---- ranks that are started anew

-- no line has named the rank, so no name is set at it
pub clear_unnamed : (size : ℕ) (ranks : Ranks) (rank : ℕ) → found_at ranks rank ≡ None →
    IsOnlyAt size ranks rank (fresh size rank) ranks
clear_unnamed size ranks rank none =
    subst (λ (n : RankNames). IsOnlyAt size ranks rank n ranks) (names_fresh size ranks rank none)
    (only_same size ranks rank)
