-- Reading sets one after the other, as a loop does.
use Rattle.std.proofs.Common.{◌≡◌, List, [], ◌∷◌, ◌++◌, Result, Ok, Err, refl, sym, ap, ◌∙◌, append_assoc}
use Rattle.std.proofs.lemmas.List.{append-nil}
use Rattle.launch_plan.specs.declared.refusal.LaunchRefusal.{LaunchRefusal}
use Rattle.launch_plan.specs.declared.refusal.LaunchRefusal.TheVariants as refusals
use Rattle.launch_plan.specs.declared.process_set.ProcessSet.{ProcessSet}
use Rattle.launch_keeper.specs.Words.{Word}
use Rattle.launch_plan.specs.Results.{◌>>=◌, HasNoFault, Fails}
use Rattle.launch_plan.specs.Sets.{set_of, each_set}

-- the sets that were read before, and those that are still read
abbrev pub with_front : List ProcessSet → Result (List ProcessSet) LaunchRefusal →
    Result (List ProcessSet) LaunchRefusal
with_front front read = read >>= λ sets. Ok (front ++ sets)

regroup : (front : List ProcessSet) (set : ProcessSet) (read : Result (List ProcessSet) LaunchRefusal) →
    with_front front (read >>= λ sets. Ok (set ∷ sets)) ≡ with_front (front ++ set ∷ []) read
regroup front set (Ok x) = ap (λ (sets : List ProcessSet). Ok sets) (simp append_assoc)
regroup front set (Err f) = refl

pub each_goes_on : (front : List ProcessSet) (words : List Word) (others : List (List Word)) (set : ProcessSet)
    (total : Result (List ProcessSet) LaunchRefusal) → set_of words ≡ Ok set
    → with_front front (each_set (words ∷ others)) ≡ total → with_front (front ++ set ∷ []) (each_set others) ≡ total
unfolding each_set
each_goes_on front words others set total read so_far =
    let one : with_front front (each_set (words ∷ others)) ≡ with_front (front ++ set ∷ []) (each_set others) = rw read (regroup front set (each_set others)) in
    sym one ∙ so_far

-- a refusal is for want of memory, or what reading gave
pub fails_with : {Y : Type 0} (e : LaunchRefusal) (read : Result Y LaunchRefusal) → read ≡ Err e → Fails e read
fails_with refusals.OutOfMemory read h = rw h tt
fails_with refusals.NoSet read h = h
fails_with refusals.WrongOption read h = h
fails_with refusals.WrongValue read h = h
fails_with refusals.NoCount read h = h
fails_with refusals.NoProgram read h = h
fails_with refusals.OverLimit read h = h
fails_with refusals.LeftOut read h = h
fails_with refusals.UnreadableFile read h = h

-- what failed with this refusal fails so too, where it is read from it and has no fault
pub fails_on : {Y Z : Type 0} (e : LaunchRefusal) (read : Result Y LaunchRefusal) (next : Result Z LaunchRefusal) →
    HasNoFault next → (read ≡ Err e → next ≡ Err e) → Fails e read → Fails e next
fails_on refusals.OutOfMemory read next fine go h = fine
fails_on refusals.NoSet read next fine go h = go h
fails_on refusals.WrongOption read next fine go h = go h
fails_on refusals.WrongValue read next fine go h = go h
fails_on refusals.NoCount read next fine go h = go h
fails_on refusals.NoProgram read next fine go h = go h
fails_on refusals.OverLimit read next fine go h = go h
fails_on refusals.LeftOut read next fine go h = go h
fails_on refusals.UnreadableFile read next fine go h = go h

pub each_ends : (e : LaunchRefusal) (front : List ProcessSet) (words : List Word) (others : List (List Word))
    (total : Result (List ProcessSet) LaunchRefusal) → HasNoFault total → Fails e (set_of words)
    → with_front front (each_set (words ∷ others)) ≡ total → Fails e total
unfolding each_set
each_ends e front words others total fine fails so_far =
    fails_on e (set_of words) total fine (λ h. sym so_far ∙
    (let one : with_front front (each_set (words ∷ others)) ≡ Err e = rw h refl in one)) fails

pub each_is_done : (front : List ProcessSet) (total : Result (List ProcessSet) LaunchRefusal) →
    with_front front (each_set []) ≡ total → total ≡ Ok front
unfolding each_set
each_is_done front total so_far = sym so_far ∙ ap (λ (sets : List ProcessSet). Ok sets) (append-nil front)
