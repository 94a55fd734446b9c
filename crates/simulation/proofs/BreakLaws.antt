-- Parts that are cut off.
use Rattle.std.proofs.Common.{◌≡◌, ◌⊎◌, inl, inr, ℕ, List, [], ◌∷◌, ◌++◌, Option, Some, None, refl, sym, ap, subst, ◌∙◌}
use Rattle.simulation.specs.Beginnings.{BreaksOff, Starts}
use Rattle.simulation.specs.Parts.{Part, joined, no_part}
use Rattle.simulation.specs.Output.{CutsOff, Prints, PrintsBeginning}
use Rattle.simulation.specs.declared.error.SimulateError.{SimulateError}
use Rattle.simulation.specs.declared.error.SimulateError.TheVariants as errors
use Rattle.simulation.proofs.PrintLaws.{begins_more, begins_none}

-- printing a part was cut off
pub breaks_in : (e : SimulateError) (Begins : Part → Type 0) (part : Part) (old new : Option (List ℕ)) → Begins part →
    CutsOff e old new part.printed → BreaksOff e Begins old new
breaks_in (errors.Line number) Begins part old new b c = c
breaks_in errors.OutOfMemory Begins part old new b c = record { part = part; begins = b; prints = c }
breaks_in errors.Output Begins part old new b c = tt

-- memory was wanting before anything happened
pub breaks_first : (e : SimulateError) (Begins : Part → Type 0) (old : Option (List ℕ)) → e ≡ errors.OutOfMemory →
    Begins no_part → BreaksOff e Begins old old
breaks_first e Begins old is b =
    subst (λ (x : SimulateError). BreaksOff x Begins old old) (sym is)
    (record { part = no_part; begins = b; prints = begins_none old [] })

-- the output failed
pub breaks_output : (e : SimulateError) (Begins : Part → Type 0) (old new : Option (List ℕ)) → e ≡ errors.Output →
    BreaksOff e Begins old new
breaks_output e Begins old new is = subst (λ (x : SimulateError). BreaksOff x Begins old new) (sym is) tt

-- what is begun here is begun there
pub breaks_wider : (e : SimulateError) (B C : Part → Type 0) (old new : Option (List ℕ)) → ((part : Part) → B part → C part)
    → BreaksOff e B old new → BreaksOff e C old new
breaks_wider (errors.Line number) B C old new wider b = b
breaks_wider errors.OutOfMemory B C old new wider b =
    record { part = b.part; begins = wider b.part b.begins; prints = b.prints }
breaks_wider errors.Output B C old new wider b = tt

-- behind another part
pub breaks_behind : (e : SimulateError) (B C : Part → Type 0) (first : Part) (x y z : Option (List ℕ)) →
    ((part : Part) → B part → C (joined first part)) → Prints x y first.printed → BreaksOff e B y z → BreaksOff e C x z
breaks_behind (errors.Line number) B C first x y z wider prints b = b
breaks_behind errors.OutOfMemory B C first x y z wider prints b = record {
  part = joined first b.part;
  begins = wider b.part b.begins;
  prints = begins_more x y z first.printed b.part.printed prints b.prints;
}
breaks_behind errors.Output B C first x y z wider prints b = tt
