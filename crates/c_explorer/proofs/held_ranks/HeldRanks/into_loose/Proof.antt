-- `into_loose` hands what is held to the parts of a box.
use Rattle.std.proofs.Common.{◌≡◌, List, [], ◌∷◌, ◌++◌, refl, sym, subst}
use Rattle.std.proofs.raw_atomic.Walks.{proved_at}
use Rattle.std.proofs.ResultValues.{and_tt}
use Rattle.std.proofs.alloc.Calls.{Al, Goes-blank, handle_tells}
use Rattle.std.specs.Prelude.{true, Option, None, Some, is_some}
use Rattle.std.specs.Box.Ownership.{box_owns}
use mathlib.Core.Bool.{false≢true}
use mir.Raw.{raw as bare}
use mir.Val.{Val, vptr, vstruct, vnil, vcons, of_list}
use base.Logic.{ent, id⊢, never, fst∗}
use base.Fml.{ftrue}
use denote.Memory.{lone}
use prog.Wp.{WpFn}
use types.Logic.{sem}
use types.Kit.{‵, raw, ◌⊛◌, ◌$◌, ◌∵◌, !, qed, done, move, keep, use1, split, join, fsplit, fjoin, fpack, fpick, feq_i, feq_l, rewrite, suffices}
use types.Part.{agg, sub, whole}
use types.Run.{enter, stop, fld, of_opd, no_more, and_then, returns}
use types.ByLocal.{alloc_all, pass_all, free_all, look_at, get, get_in, sets}
use contract.Monad.{fact}
use contract.Running.{tables}
use denote.Exit.{yes}
use denote.RattleType.{Valss, owns}
use denote.RawPtr.{Ptr, RawPtr, block_ptr, null_ptr, ptr_val, in_a_block}
use denote.Signature.{plain, types_at}
use denote.Struct.Owning.{shape}
use denote.Struct.Struct.{within}
use denote.Steps.{heard, nothing}
use denote.Triple.Walked.{Stays, stay_dropped, walk_of, says, ends_at}
use Rattle.c_explorer.specs.RanksContents.{holds}
use Rattle.std_heap.specs.contracts.Global.{the_row as G}
use Rattle.std_heap.specs.contracts.GlobalAllocator.TheImpl.{ghosts, dict}
use Rattle.std_heap.proofs.Global.TheLaws.{the_row_laws as G-laws}
use Rattle.joined_ranks.specs.contracts.ranks.JoinedRanks.{the_row as C}
use Rattle.joined_ranks.specs.Kept.{JoinedState}
use Rattle.loose_box.specs.contracts.loose.LooseBox as loose
use Rattle.loose_box.specs.declared.loose.LooseBox.{LooseBox}
use Rattle.c_explorer.specs.contracts.held_ranks.HeldRanks.{the_row as R}
use Rattle.c_explorer.specs.contracts.held_ranks.HeldRanks.into_loose as f
use Rattle.c_explorer.proofs.held_ranks.HeldRanks.into_loose.Statement.{statement}
use Rattle.c_explorer.proofs.held_ranks.HeldRanks.into_loose.Code as code

abbrev heap : Al
heap = record { row = G; laws = G-laws; g = ghosts; d = dict; drops = dict }

abbrev stayed : Stays f.ended.signature.params f.ended.kept
stayed = (stay_dropped (plain (λ _. R)) yes, (stay_dropped (plain (λ _. G)) yes, tt))

found : (o : Option JoinedState) → is_some o ≡ true → (x : JoinedState) × (o ≡ Some x)
found None e = absurd (false≢true e)
found (Some x) e = (x, refl)

pub into_loose_spec : {M : Type 1} → statement M
into_loose_spec 𝓤 𝓛 𝓜 𝓡 wired =
    let c = f.clauses 𝓛 𝓜.mem 𝓡.returns in let W = walk_of 𝓛 f.ended stayed c in let 𝓣 = tables 𝓤 𝓛.H 𝓜 𝓡 𝓡.env in let L = loose.the_row C G ghosts in
    proved_at 𝓛 f.ended stayed c 𝓜 𝓡 (Goes-blank 𝓛 0 (plain (λ _. R)) yes (λ κs x g. tt), (Goes-blank 𝓛 0 (plain (λ _. G)) yes (λ κs x g. tt), tt)) f.Key.name code.function (code.unfolded 𝓤 𝓛.H 𝓜 𝓡 wired) (λ z are.
    let v = z.0.3.0 in let a = z.0.3.1.0 in let Post = W.post z in
    qed 𝓛 ((‵ ftrue ⊛ ‵ (owns (types_at f.ended.signature.params z.0.0) z.0.3 z.0.4)) ∷ raw (fact 𝓤 (is_some v.value ≡ true)) ∷ []) ∵
    move ! (1 ∷ []) $ heard ! (is_some v.value ≡ true) (λ some. let x : JoinedState = (found v.value some).0 in let is : v.value ≡ Some x = (found v.value some).1 in
    split ! $ move ! (1 ∷ []) $ fsplit ! $ fsplit ! $ fpick ! (λ vss. fsplit ! $ feq_l ! (λ ev. fsplit ! $ feq_l ! (λ ep.
    -- [true; what is held; the handle with true; ..]
    move ! (1 ∷ []) $ rewrite ! 0 (λ (o : Option JoinedState). ‵ (holds v.at o)) is refl $
    use1 𝓛 (‵ (box_owns (ghosts.dealloc_token a) C v.at x)) (id⊢ 𝓤 _) $
    in_a_block ! v.at (λ p. box_owns (ghosts.dealloc_token a) C p x) (fst∗ 𝓤 (never 𝓤) (sem 𝓛 (ghosts.dealloc_token a (bare (lone C.mir)) null_ptr))) (λ b o e.
    move ! (2 ∷ []) $ fsplit ! $ handle_tells heap ! a z.0.4.1.0 (λ hv eh fits.
    let word : Val = vstruct (vcons (vptr b o) vnil) in
    let ws : z.0.4.0 ≡ word ∷ [] = subst (λ (p : Ptr). z.0.4.0 ≡ vstruct (of_list (ptr_val p ∷ [])) ∷ []) e
    (subst (λ (ps : List Val). z.0.4.0 ≡ vstruct (of_list (ps ++ [])) ∷ []) ep ev) in
    let Run = λ (us : List Val). WpFn 𝓤 𝓛.H 𝓣.C 𝓣.Λ code.function us Post in
    suffices ! (Run (word ∷ hv ∷ [])) (subst (λ (us : List Val). ent 𝓤 (Run (word ∷ hv ∷ [])) (Run us)) (sym (λ i. ws i ++ (eh i ++ []))) (id⊢ 𝓤 (Run (word ∷ hv ∷ [])))) $
    enter ! 𝓣.C 𝓣.Λ code.function (word ∷ hv ∷ []) Post $ alloc_all ! (λ l. pass_all ! refl ((tt, (tt, tt)), (fits, tt)) $
    sets ! (of_opd ! (get_in ! (fld ! refl (stop !)) (sub ! 0 refl (whole !)))) refl (tt, tt) $
    sets ! (of_opd ! (get ! refl)) refl (tt, tt) $
    sets ! (agg ! (and_then ! (get ! refl) (and_then ! (get ! refl) (no_more !)))) refl (and_tt _ fits.0, (tt, (fits.1, tt))) $
    returns ! (look_at ! 0 refl) $ free_all ! refl $
    let made : LooseBox JoinedState (G.Denot) = record { ptr = block_ptr b o; alloc = a; value = x } in let out : Val = vstruct (vcons (vptr b o) (vcons hv vnil)) in
    keep ! (0 ∷ 2 ∷ []) $ nothing ! $ move ! (1 ∷ 0 ∷ []) $ fjoin ! $
    feq_i ! (List Val) (vptr b o ∷ []) (vptr b o ∷ []) refl $ fjoin ! $
    feq_i ! (List Val) (out ∷ []) (out ∷ []) refl $ fjoin ! $
    fpack ! (Valss (RawPtr ∷ G ∷ [])) (within (shape (loose.the_type C G ghosts)) (block_ptr b o, (a, tt)) (out ∷ [])) (vptr b o ∷ [], (hv ∷ [], tt)) $ fjoin ! $
    suffices ! _ (ends_at 𝓛 f.ended stayed c z out made (tt, (tt, tt)) (tt, (tt, tt))) $ says ! is $
    nothing ! $ nothing ! $ fjoin ! $ nothing ! $ fjoin ! $ join ! $ nothing ! $ join ! $ done !))))))))
