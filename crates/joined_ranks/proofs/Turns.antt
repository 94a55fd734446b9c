-- One datagram more comes behind those that came in turn, or none does.
use Rattle.std.proofs.Common.{ℕ, Bool, true, false, List, [], ◌∷◌, ◌++◌, Result, Ok, Err, refl, subst, sym}
use Rattle.world.specs.declared.answered.Came.{Came}
use Rattle.joined_ranks.specs.Kept.{ComeInTurn, ComesTo, DeliversNext, JoinedState}

one_more : (came : List Came) (c : Came) (a b d : JoinedState) → ComeInTurn came a b → ComesTo b c d →
    ComeInTurn (came ++ c ∷ []) a d
one_more [] c a b d is last = (d, subst (λ (s : JoinedState). ComesTo s c d) is last, refl)
one_more (x ∷ came) c a b d (next, first, rest) last = (next, first, one_more came c next b d rest last)

pub further : (r : Result Bool ℕ) (came : List Came) (a b d : JoinedState) → ComeInTurn came a b → DeliversNext b r d →
    (all : List Came) × ComeInTurn all a d
further (Ok true) came a b d turn (c, comes) = (came ++ c ∷ [], one_more came c a b d turn comes)
further (Ok false) came a b d turn (nothing, is) = (came, subst (λ (s : JoinedState). ComeInTurn came a s) (sym is) turn)
further (Err number) came a b d turn is = (came, subst (λ (s : JoinedState). ComeInTurn came a s) (sym is) turn)
