-- What a file of hosts tells.
use Rattle.std.specs.Prelude.{◌≡◌, ℕ, ◌+◌, ◌==◌, Bool, List, [], ◌∷◌, ◌++◌, Option, Some, None, Result, Ok, Err}
use Rattle.host_files.specs.declared.fault.HostFault.{HostFault}
use Rattle.host_files.specs.declared.fault.FileFault.{FileFault}
use Rattle.host_files.specs.declared.fault.FileFault.TheVariants.{OutOfMemory, Line}
use Rattle.host_files.specs.Lines.{Told, told_in}

-- a line ends at byte 10
abbrev pub is_line_end : ℕ → Bool
is_line_end byte = byte == 10

-- items of a list stand apart by byte 44, a comma
abbrev pub is_comma : ℕ → Bool
is_comma byte = byte == 44

-- hosts in front of those that are told behind them
abbrev pub in_front : List Told → Result (List Told) (ℕ × HostFault) → Result (List Told) (ℕ × HostFault)
in_front hosts (Ok more) = Ok (hosts ++ more)
in_front hosts (Err fault) = Err fault

-- what the line of this number tells, and the lines behind it
abbrev pub told_on : ℕ → Option (Result Told HostFault) → Result (List Told) (ℕ × HostFault) →
    Result (List Told) (ℕ × HostFault)
told_on number None rest = rest
told_on number (Some (Ok host)) rest = in_front (host ∷ []) rest
told_on number (Some (Err fault)) rest = Err (number, fault)

-- the hosts that lines tell, in order, or the first line that is at fault; the first of them has this number
abbrev pub told_from : ℕ → List (List ℕ) → Result (List Told) (ℕ × HostFault)
told_from number [] = Ok []
told_from number (line ∷ lines) = told_on number (told_in line) (told_from (number + 1) lines)

-- what is answered, seen by view, is what is told, unless memory was wanting
abbrev pub Gives : {X : Type 0} → (X → List Told) → Result (List Told) (ℕ × HostFault) → Result X FileFault → Type 0
Gives view told (Ok hosts) = told ≡ Ok (view hosts)
Gives view told (Err (Line number fault)) = told ≡ Err (number, fault)
Gives view told (Err OutOfMemory) = Unit {0}
