-- What reading gives, with the first fault that is met.
use Rattle.std.specs.Prelude.{◌≡◌, Option, Some, None, Result, Ok, Err}
use Rattle.launch_plan.specs.declared.refusal.LaunchRefusal.{LaunchRefusal}
use Rattle.launch_plan.specs.declared.refusal.LaunchRefusal.TheVariants as refusals

infixl 10 ◌>>=◌
-- a step after a step that gave no fault
abbrev pub ◌>>=◌ : {A B : Type 0} → Result A LaunchRefusal → (A → Result B LaunchRefusal) → Result B LaunchRefusal
(Ok x) >>= f = f x
(Err e) >>= f = Err e

-- no rule gives this refusal
abbrev pub IsOfMemory : LaunchRefusal → Type 0
IsOfMemory refusals.OutOfMemory = Unit {0}
IsOfMemory e = ⊥

-- reading meets no rule's fault
abbrev pub HasNoFault : {Y : Type 0} → Result Y LaunchRefusal → Type 0
HasNoFault (Ok x) = Unit {0}
HasNoFault (Err e) = IsOfMemory e

-- This refusal is what reading gives; it is for want of memory only where reading meets no fault.
abbrev pub Fails : {Y : Type 0} → LaunchRefusal → Result Y LaunchRefusal → Type 0
Fails refusals.OutOfMemory read = HasNoFault read
Fails e read = read ≡ Err e

-- What a function returned, seen by view, is what reading gives; memory runs out only where reading
-- meets no fault.
abbrev pub Gives : {X Y : Type 0} → (X → Y) → Result X LaunchRefusal → Result Y LaunchRefusal → Type 0
Gives view (Ok x) read = read ≡ Ok (view x)
Gives view (Err e) read = Fails e read

-- what a function that takes no memory returned, seen by view, is what reading gives
abbrev pub GivesExactly : {X Y : Type 0} → (X → Y) → Result X LaunchRefusal → Result Y LaunchRefusal → Type 0
GivesExactly view (Ok x) read = read ≡ Ok (view x)
GivesExactly view (Err e) read = read ≡ Err e

-- a value that must be there
abbrev pub required : {A : Type 0} → Option A → LaunchRefusal → Result A LaunchRefusal
required (Some x) fault = Ok x
required None fault = Err fault
