-- What reading gives.
use Rattle.std.specs.Prelude.{◌≡◌, ℕ, Option, Some, None, Result, Ok, Err}
use Rattle.tokens.specs.declared.fault.LineError.{LineError}
use Rattle.tokens.specs.declared.fault.LineError.TheVariants as errors
use Rattle.tokens.specs.declared.fault.ParseError.{ParseError}
use Rattle.tokens.specs.declared.fault.ParseError.TheVariants as texts

infixl 10 ◌>>=◌
-- a step after a step that gave something
abbrev pub ◌>>=◌ : {A B : Type 0} → Option A → (A → Option B) → Option B
(Some x) >>= f = f x
None >>= f = None

-- this error is what reading gives, unless it is for want of memory
abbrev pub Fails : {Y : Type 0} → LineError → Option Y → Type 0
Fails errors.OutOfMemory read = Unit {0}
Fails errors.Faulty read = read ≡ None

-- what a function returned, seen by view, is what reading gives, unless memory ran out
abbrev pub Gives : {X Y : Type 0} → (X → Y) → Result X LineError → Option Y → Type 0
Gives view (Ok x) read = read ≡ Some (view x)
Gives view (Err e) read = Fails e read

-- the line of this number is the first faulty one, unless the error is for want of memory
abbrev pub LineFails : {Y : Type 0} → ParseError → Result Y ℕ → Type 0
LineFails texts.OutOfMemory read = Unit {0}
LineFails (texts.Line number) read = read ≡ Err number

-- what a function returned, seen by view, is what reading lines gives, unless memory ran out
abbrev pub GivesLines : {X Y : Type 0} → (X → Y) → Result X ParseError → Result Y ℕ → Type 0
GivesLines view (Ok x) read = read ≡ Ok (view x)
GivesLines view (Err e) read = LineFails e read
