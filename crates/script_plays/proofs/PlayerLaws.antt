-- What stands at a rank once something was put there; and one more move of a play.
use Rattle.std.proofs.Common.{◌≡◌, ◌≢◌, ℕ, zero, suc, Bool, true, false, List, [], ◌∷◌, ◌++◌, Some, None, ◌==◌}
use Rattle.std.proofs.Common.{if◌then◌else◌, slice_get, slice_set, refl, sym, ap, ◌∙◌, subst, append-nil, append_assoc}
use Rattle.std.proofs.Common.{arith}
use Rattle.std.proofs.lemmas.Bool.{eq-eqb, eqb-true}
use Rattle.std.proofs.lemmas.Option.{none-some, same_Some}
use Rattle.one_meaning.specs.Courses.{Process}
use Rattle.perfect_groups.specs.Events as machine
use Rattle.std.specs.List.{AllByRecursion}
use Rattle.vocabulary.specs.MessageLimits.{least}
use Rattle.vocabulary.specs.declared.endpoint.Endpoint.{Endpoint}
use Rattle.engine_calls.specs.declared.reply.Completion.{Completion}
use Rattle.engine_calls.specs.declared.reply.Completion.TheVariants as completions
use Rattle.perfect_groups.specs.Communicators.{first_endpoint}
use Rattle.perfect_groups.specs.Events.{Called, Completed, Restarted}
use Rattle.perfect_groups.specs.Runs.{IsHistory}
use Rattle.observation.specs.EngineCalls.{told_completion}
use Rattle.proof_one_meaning.proofs.Beginnings.{endpoints_are_first}
use Rattle.proof_one_meaning.specs.Plays.{HasEnded, HasNoRestart, IsOfFirst, Player, Players, PlaysOn, PlaysThrough}
use Rattle.proof_one_meaning.specs.Plays.{Spoke, WasAnswered, WasRefused, WasTaken, with_player}
use Rattle.script_plays.specs.Alike.{IsAlike}
use Rattle.script_players.specs.Players.{PlayerState}
use Rattle.proof_script_processes.specs.Processes.{Running}
use Rattle.world.specs.Headline.{entry_seen, history_seen}
use Rattle.world.specs.declared.event.HistoryEntry.{HistoryEntry}

pub set_get : (players : List PlayerState) (r : ℕ) (a b : PlayerState) → slice_get (slice_set players r a) r ≡ Some b →
    a ≡ b
set_get [] r a b h = absurd (none-some b h)
set_get (x ∷ xs) zero a b h = same_Some a b h
set_get (x ∷ xs) (suc r) a b h = set_get xs r a b h

pub set_there : (players : List PlayerState) (r : ℕ) (a b : PlayerState) → slice_get players r ≡ Some b →
    slice_get (slice_set players r a) r ≡ Some a
set_there [] r a b h = absurd (none-some b h)
set_there (x ∷ xs) zero a b h = refl
set_there (x ∷ xs) (suc r) a b h = set_there xs r a b h

pub set_other : (players : List PlayerState) (k j : ℕ) (y : PlayerState) → j ≢ k → slice_get (slice_set players k y) j ≡
    slice_get players j
set_other [] k j y h = refl
set_other (x ∷ xs) zero zero y h = absurd (h refl)
set_other (x ∷ xs) zero (suc j) y h = refl
set_other (x ∷ xs) (suc k) zero y h = refl
set_other (x ∷ xs) (suc k) (suc j) y h = set_other xs k j y (λ e. h (ap suc e))

true_false : true ≡ false → ⊥
true_false h = absurd (grind arith)

pub not_at : (x r : ℕ) → (x == r) ≡ false → x ≢ r
not_at x r e same = true_false (sym (eq-eqb x r same) ∙ e)

pub alike_set : (players : List PlayerState) (r : ℕ) (a : PlayerState) (now : Players Running) (c : Player Running) →
    ((x : ℕ) (p : PlayerState) → slice_get players x ≡ Some p → IsAlike p (now x)) → IsAlike a c →
    (x : ℕ) (p : PlayerState) → slice_get (slice_set players r a) x ≡ Some p → IsAlike p (with_player now r c x)
alike_set players r a now c h k x p is = go (x == r) refl
  where
    go : (b : Bool) → (x == r) ≡ b → IsAlike p (if b then c else now x)
    go true e =
        subst (λ (y : PlayerState). IsAlike y c)
        (set_get players r a p (subst (λ (y : ℕ). slice_get (slice_set players r a) y ≡ Some p) (eqb-true x r e) is)) k
    go false e = h x p (sym (set_other players r x a (not_at x r e)) ∙ is)

-- where no player is at the rank
pub alike_none : (players : List PlayerState) (r : ℕ) (now : Players Running) (c : Player Running) →
    ((x : ℕ) (p : PlayerState) → slice_get players x ≡ Some p → IsAlike p (now x)) → slice_get players r ≡ None →
    (x : ℕ) (p : PlayerState) → slice_get players x ≡ Some p → IsAlike p (with_player now r c x)
alike_none players r now c h empty x p is = go (x == r) refl
  where
    go : (b : Bool) → (x == r) ≡ b → IsAlike p (if b then c else now x)
    go true e = absurd (none-some p (sym empty ∙ (ap (slice_get players) (sym (eqb-true x r e)) ∙ is)))
    go false e = h x p is

pub through_more : {P : Type 0} (next : Process P) (n k : ℕ) (a : Players P) (h : List machine.Entry) (b : Players P)
    (h' : List machine.Entry) → PlaysThrough next n k a h b h' →
    (c : Players P) (h'' : List machine.Entry) → PlaysOn next n b h' c h'' → PlaysThrough next n (suc k) a h c h''
through_more {P = P} next n zero a h b h' t c h'' on = (
  c,
  h'',
  subst (λ (x : Players P). PlaysOn next n x h c h'') (sym t.0)
      (subst (λ (y : List machine.Entry). PlaysOn next n b y c h'') (sym t.1) on),
  (refl, refl),
)
through_more next n (suc k) a h b h' t c h'' on = (t.0, t.1, t.2, through_more next n k t.0 t.1 b h' t.3 c h'' on)

pub seen_more : (h : List HistoryEntry) (e : HistoryEntry) → history_seen (h ++ e ∷ []) ≡ history_seen h ++ entry_seen e
seen_more [] e = append-nil (entry_seen e)
seen_more (x ∷ h) e = ap (λ (ys : List machine.Entry). entry_seen x ++ ys) (seen_more h e) ∙
    sym (append_assoc (entry_seen x) (history_seen h) (entry_seen e))

-- NO RANK IS STARTED ANEW

pub no_restart_more : (h : List machine.Entry) (v : machine.Entry) → HasNoRestart h → HasNoRestart (v ∷ []) →
    HasNoRestart (h ++ v ∷ [])
no_restart_more [] v f g = g
no_restart_more (Called e call reply ∷ h) v f g = no_restart_more h v f g
no_restart_more (Completed e a ∷ h) v f g = no_restart_more h v f g
no_restart_more (Restarted r ∷ h) v f g = absurd f

last_first : (h : List machine.Entry) (v : machine.Entry) → AllByRecursion IsOfFirst (h ++ v ∷ []) → IsOfFirst v
last_first [] v f = f.0
last_first (x ∷ h) v f = last_first h v f.1

-- the last that is told is told of a first endpoint
pub told_first : (n : ℕ) (h : List machine.Entry) (v : machine.Entry) → HasNoRestart h → HasNoRestart (v ∷ []) →
    IsHistory n least (h ++ v ∷ []) → IsOfFirst v
told_first n h v f g history = last_first h v (endpoints_are_first n (h ++ v ∷ []) (no_restart_more h v f g) history)

pub answer_first : (n : ℕ) (h : List machine.Entry) (e : Endpoint) (c : Completion) → HasNoRestart h →
    IsHistory n least (h ++ told_completion e (Some c)) → e ≡ first_endpoint e.rank
answer_first n h e (completions.Requests a) f history = told_first n h _ f tt history
answer_first n h e (completions.Collective a) f history = told_first n h _ f tt history

pub play_fresh : {P : Type 0} (next : Process P) (n : ℕ) (a : Players P) (h : List machine.Entry) (b : Players P)
    (h' : List machine.Entry) → PlaysOn next n a h b h' → HasNoRestart h → HasNoRestart h'
play_fresh next n a h b h' (Spoke r line at e he) f = subst HasNoRestart (sym he) f
play_fresh next n a h b h' (HasEnded r status at e he) f = subst HasNoRestart (sym he) f
play_fresh next n a h b h' (WasRefused r call number at fault e he) f = subst HasNoRestart (sym he) f
play_fresh next n a h b h' (WasTaken r call reply at history e he) f =
    subst HasNoRestart (sym he) (no_restart_more h _ f tt)
play_fresh next n a h b h' (WasAnswered r x history e he) f = subst HasNoRestart (sym he) (no_restart_more h _ f tt)
