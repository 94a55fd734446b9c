-- The communicators that a rank holds, and the contexts that it gives.
use Rattle.std.specs.Prelude.{◌≡◌, ℕ, ◌+◌, ◌^◌, ◌<◌, ◌==◌, ◌&&◌, Bool, List, [], ◌∷◌, ◌++◌, length, position, Option}
use Rattle.std.specs.Prelude.{Some, None, Result, Ok, Err, nat_lt, if◌then◌else◌}
use Rattle.std.specs.List.{range_with_len}
use Rattle.context_agreement.specs.declared.context.Context.{Context}
use Rattle.context_agreement.specs.declared.communicator.Communicator.{Communicator}
use Rattle.context_agreement.specs.declared.refusal.ContextRefusal.{ContextRefusal}
use Rattle.context_agreement.specs.declared.refusal.ContextRefusal.TheVariants.{Limit, OutOfMemory}

-- who gives the contexts, the serial of the next one, and the communicators in the order in which
-- the rank got them
pub record ContextsState : Type 0 where
  pub rank : ℕ
  pub incarnation : ℕ
  pub next_serial : ℕ
  pub held : List Communicator

-- the same, and for how many more communicators there is memory
pub record Held : Type 0 where
  pub state : ContextsState
  pub more : ℕ

-- world, and self, of a rank of a world of this size
abbrev pub world_and_self : ℕ → ℕ → ℕ → List Communicator
world_and_self rank incarnation size =
    record {
      context = record { rank = 0; incarnation = 0; serial = 0 };
      group = range_with_len 0 size;
    }
    ∷ record {
      context = record { rank = rank; incarnation = incarnation; serial = 1 };
      group = rank ∷ [];
    }
    ∷ []

-- how a rank begins at an incarnation
abbrev pub opening : ℕ → ℕ → ℕ → ContextsState
opening rank incarnation size = record {
  rank = rank;
  incarnation = incarnation;
  next_serial = 2;
  held = world_and_self rank incarnation size;
}

-- the context that is given next
abbrev pub next_context : ContextsState → Context
next_context s = record { rank = s.rank; incarnation = s.incarnation; serial = s.next_serial }

-- the context that is given once so many others are
abbrev pub coming_context : ContextsState → (further : ℕ) → Context
coming_context s further =
    record { rank = s.rank; incarnation = s.incarnation; serial = s.next_serial + further }

-- the same, where as many contexts are left to give
abbrev pub context_after : ContextsState → (further : ℕ) → Option Context
context_after s further =
    if nat_lt (s.next_serial + further) (2 ^ 32) then Some (coming_context s further) else None

-- the state once so many contexts were given
abbrev pub after_draw : ContextsState → (count : ℕ) → ContextsState
after_draw s count = record s { next_serial = s.next_serial + count }

-- what a call for a context answers and leaves
abbrev pub NextGives : ContextsState → Result Context ContextRefusal → ContextsState → Type 0
NextGives old (Ok context) new =
    (old.next_serial < 2 ^ 32)
    × (context ≡ next_context old)
    × (new ≡ record old { next_serial = old.next_serial + 1 })
NextGives old (Err Limit) new = (old.next_serial ≡ 2 ^ 32) × (new ≡ old)
NextGives old (Err OutOfMemory) new = ⊥

-- the state with one more communicator
abbrev pub after_install : ContextsState → Communicator → ContextsState
after_install s communicator = record s { held = s.held ++ communicator ∷ [] }

-- two contexts are the same
abbrev pub is_same : Context → Context → Bool
is_same a b = (a.rank == b.rank) && ((a.incarnation == b.incarnation) && (a.serial == b.serial))

-- the place of the communicator with this context
abbrev pub place_of : ContextsState → Context → Option ℕ
place_of s context = position (λ held. is_same held.context context) s.held
