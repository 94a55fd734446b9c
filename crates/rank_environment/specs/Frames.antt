-- How long the frames of a job are.
use Rattle.std.specs.Prelude.{ℕ, ◌==◌, ◌/◌, ◌%◌, ◌||◌, ◌∷◌, [], Bool, true, List, Option, Some, None, if◌then◌else◌}
use Rattle.std.specs.List.{list_all}
use Rattle.numerals.specs.Numbers.{number_between}

-- a number that was read, where it is a multiple of 8
abbrev pub whole : Option ℕ → Option ℕ
whole None = None
whole (Some number) = if number % 8 == 0 then Some number else None

-- the most bytes of data of a frame that a text spells: 1,024 to 61,440, a multiple of 8
abbrev pub frame_in : List ℕ → Option ℕ
frame_in text = whole (number_between text 1024 61440)

-- the address is in 127.0.0.0/8
abbrev pub is_on_loopback : ℕ → Bool
is_on_loopback address = address / 16777216 == 127

-- all these addresses are the first one
abbrev pub are_one : List ℕ → Bool
are_one [] = true
are_one (first ∷ others) = list_all (λ address. address == first) others

-- ranks at these addresses are on one machine: all are on loopback, or at one address
abbrev pub is_one_machine : List ℕ → Bool
is_one_machine addresses = list_all is_on_loopback addresses || are_one addresses

-- the same in a job of ranks at these addresses, where nothing is told
abbrev pub usual_frame : List ℕ → ℕ
usual_frame addresses = if is_one_machine addresses then 61440 else 1024

-- what is told, or the usual number
abbrev pub frame_of : Option (List ℕ) → List ℕ → Option ℕ
frame_of (Some text) addresses = frame_in text
frame_of None addresses = Some (usual_frame addresses)
