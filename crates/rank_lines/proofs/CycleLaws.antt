-- Ways of ranks, each of which waits for the next.
use Rattle.std.proofs.Common.{◌≡◌, ℕ, List, [], ◌∷◌, ◌++◌, refl, sym, ap, subst, ◌∙◌}
use Rattle.rank_lines.specs.declared.cycle.Wait.{Wait}
use Rattle.rank_lines.specs.Cycles.{WaitsFor, first_or, AreWaiting, IsCycle}

first_pushed : (ranks : List ℕ) (last other : ℕ) → first_or (ranks ++ last ∷ []) other ≡ first_or ranks last
first_pushed [] last other = refl
first_pushed (rank ∷ ranks) last other = refl

-- a rank more at the end
pub waiting_more : (waits : List Wait) (ranks : List ℕ) (last other : ℕ) → AreWaiting waits ranks last →
    WaitsFor waits last other → AreWaiting waits (ranks ++ last ∷ []) other
waiting_more waits [] last other are next = (next, tt)
waiting_more waits (rank ∷ ranks) last other are next = (
  subst (λ (r : ℕ). WaitsFor waits rank r) (sym (first_pushed ranks last other)) are.0,
  waiting_more waits ranks last other are.1 next,
)

-- where the way begins stays
pub first_more : (ranks : List ℕ) (last other start : ℕ) → first_or ranks last ≡ start →
    first_or (ranks ++ last ∷ []) other ≡ start
first_more ranks last other start is = first_pushed ranks last other ∙ is

cycle_by : (waits : List Wait) (ranks : List ℕ) (last start : ℕ) → first_or (ranks ++ last ∷ []) start ≡ start →
    AreWaiting waits (ranks ++ last ∷ []) start → IsCycle waits (ranks ++ last ∷ [])
cycle_by waits [] last start is are = subst (λ (r : ℕ). AreWaiting waits (last ∷ []) r) (sym is) are
cycle_by waits (rank ∷ ranks) last start is are =
    subst (λ (r : ℕ). AreWaiting waits (rank ∷ (ranks ++ last ∷ [])) r) (sym is) are

-- the last one waits for the first
pub closed : (waits : List Wait) (ranks : List ℕ) (last start : ℕ) → first_or ranks last ≡ start →
    AreWaiting waits ranks last → WaitsFor waits last start → IsCycle waits (ranks ++ last ∷ [])
closed waits ranks last start is are next =
    cycle_by waits ranks last start (first_more ranks last start start is) (waiting_more waits ranks last start are next)
