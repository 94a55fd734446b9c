-- `none` makes a null pointer, which owns nothing.
use Rattle.std.proofs.Common.{List, [], ◌∷◌, refl, lit<}
use Rattle.std.proofs.raw_atomic.Walks.{proved}
use Rattle.std.specs.Prelude.{None}
use mir.Val.{Val, vstruct, vnil, vcons}
use base.Fml.{ftrue}
use contract.Running.{tables}
use types.Kit.{‵, ◌⊛◌, ◌$◌, ◌∵◌, !, qed, done, keep, join, fjoin, fpack, feq_i, suffices}
use types.Part.{agg}
use types.Run.{enter, lit, no_more, and_then, returns}
use types.ByLocal.{alloc_all, pass_all, free_all, look_at, sets}
use denote.RattleType.{Valss}
use denote.RawPtr.{RawPtr, null_ptr, ptr_val}
use denote.Struct.Owning.{shape}
use denote.Struct.Struct.{within}
use denote.Steps.{nothing}
use denote.Triple.Walked.{Stays, walk_of, says, ends_at}
use Rattle.c_explorer.specs.declared.held_ranks.HeldRanks.{HeldRanks}
use Rattle.c_explorer.specs.contracts.held_ranks.HeldRanks.{the_type}
use Rattle.c_explorer.specs.contracts.held_ranks.HeldRanks.none as f
use Rattle.c_explorer.proofs.held_ranks.HeldRanks.none.Statement.{statement}
use Rattle.c_explorer.proofs.held_ranks.HeldRanks.none.Code as code

abbrev stayed : Stays f.ended.signature.params f.ended.kept
stayed = tt

abbrev made : HeldRanks
made = record { at = null_ptr; value = None }

abbrev word : Val
word = vstruct (vcons (ptr_val null_ptr) vnil)

pub none_spec : {M : Type 1} → statement M
none_spec 𝓤 𝓛 𝓜 𝓡 wired =
    let c = f.clauses 𝓛 𝓜.mem 𝓡.returns in let W = walk_of 𝓛 f.ended stayed c in let 𝓣 = tables 𝓤 𝓛.H 𝓜 𝓡 𝓡.env in
    proved 𝓛 f.ended stayed c 𝓜 𝓡 tt f.Key.name code.function (code.unfolded 𝓤 𝓛.H 𝓜 𝓡 wired) (λ κs. tt) (λ κs. tt) (λ κs qs bounds a _ are.
    let y : W.Ghost = ((κs, qs, bounds, a, tt), tt) in
    qed 𝓛 ((‵ ftrue ⊛ ‵ ftrue) ∷ ‵ ftrue ∷ []) ∵
    enter ! _ _ _ _ _ $ alloc_all ! (λ l. pass_all ! refl tt $
    sets ! (agg ! (and_then ! (lit ! tt) (no_more !))) refl (tt, (record { fits = lit< tt }, tt)) $
    returns ! (look_at ! 0 refl) $ free_all ! refl $
    nothing ! $ nothing ! $ feq_i ! (List Val) (ptr_val null_ptr ∷ []) (ptr_val null_ptr ∷ []) refl $ fjoin ! $
    feq_i ! (List Val) (word ∷ []) (word ∷ []) refl $ fjoin ! $
    fpack ! (Valss (RawPtr ∷ [])) (within (shape the_type) (null_ptr, tt) (word ∷ [])) (ptr_val null_ptr ∷ [], tt) $ fjoin ! $
    suffices ! _ (ends_at 𝓛 f.ended stayed c y word made tt tt) $ says ! refl $
    keep ! (0 ∷ []) $ nothing ! $ join ! $ nothing ! $ join ! $ done !))
