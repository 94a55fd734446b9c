-- The nodes of an allocation of SLURM.
use Rattle.std.specs.Prelude.{◌≡◌, ℕ, ◌+◌, ◌-◌, ◌==◌, Bool, true, false, not, nat_le, ◌&&◌, List, [], ◌∷◌, ◌++◌}
use Rattle.std.specs.Prelude.{length, map, min, take, drop, codes, replicate, is_some, option_map, unwrap_or, Option, Some, None}
use Rattle.std.specs.Prelude.{if◌then◌else◌}
use Rattle.std.specs.Fmt.{decimal}
use Rattle.std.specs.List.{slice_split, position_from, range_with_len}
use Rattle.std.specs.Str.{bytes_eq}
use Rattle.numerals.specs.Numbers.{number_between}
use Rattle.host_files.specs.Files.{is_comma}
use Rattle.host_files.specs.Lines.{Word}
use Rattle.host_files.specs.declared.nodes.NodeItem.{NodeItem}
use Rattle.host_files.specs.declared.nodes.NodeRange.{NodeRange}

-- an item: a name, or what stands in front of brackets and what within; is_last: the next one stands in none
pub record Item : Type 0 where
  pub front : Word
  pub numbers : Option Word
  pub is_last : Bool

abbrev pub shown_item : NodeItem → Item
shown_item item = record {
  front = item.front.now;
  numbers = option_map (λ text. text.now) item.numbers;
  is_last = item.is_last;
}

-- any byte but `0`
abbrev pub is_no_zero : ℕ → Bool
is_no_zero byte = not (byte == 48)

-- the number of digits with zeros up to this place; zeros alone are 0
abbrev pub number_behind : Option ℕ → Word → Option ℕ
number_behind None text = if length text == 0 then None else Some 0
number_behind (Some place) text = number_between (drop (min place (length text)) text) 1 999999999

-- the number that digits spell, zeros in front of it or not, up to 999,999,999
abbrev pub digits_number : Word → Option ℕ
digits_number text = number_behind (position_from is_no_zero 0 text) text

-- the bytes `-`, `[`, `(`
abbrev pub is_dash : ℕ → Bool
is_dash byte = byte == 45

abbrev pub is_open : ℕ → Bool
is_open byte = byte == 91

abbrev pub is_bracket : ℕ → Bool
is_bracket byte = byte == 40

-- a range from one number to another that isn't below it, with so many digits of the first
abbrev pub ordered : (low high : Option ℕ) → ℕ → Option NodeRange
ordered None high width = None
ordered (Some low) None width = None
ordered (Some low) (Some high) width = if nat_le low high then Some (record { low = low; high = high; width = width }) else None

abbrev pub range_by : Option ℕ → Word → Option NodeRange
range_by None text = ordered (digits_number text) (digits_number text) (length text)
range_by (Some place) text =
    ordered (digits_number (take (min place (length text)) text))
    (digits_number (drop (min (length (drop (min place (length text)) text)) 1) (drop (min place (length text)) text)))
    (length (take (min place (length text)) text))

-- `A-B`, or `A`
abbrev pub range_of : Word → Option NodeRange
range_of text = range_by (position_from is_dash 0 text) text

-- a number with zeros in front of it up to so many digits
abbrev pub padded : (width number : ℕ) → Word
padded width number = replicate (width - length (decimal number)) 48 ++ decimal number

-- the names of so many nodes of a range
abbrev pub first_names : Word → NodeRange → ℕ → List Word
first_names front range count = map (λ number. front ++ padded range.width number) (range_with_len range.low count)

-- those of all its nodes
abbrev pub range_names : Word → NodeRange → List Word
range_names front range = first_names front range (range.high - range.low + 1)

abbrev pub named_by : Word → Option Word → Option (List Word)
named_by front None = Some (front ∷ [])
named_by front (Some numbers) = option_map (λ range. range_names front range) (range_of numbers)

-- the names of an item, where its numbers are such
abbrev pub names_in : Item → Option (List Word)
names_in item = named_by item.front item.numbers

-- what an item adds to names, and whether it isn't at fault
abbrev pub Pushes : (before : List Word) → Option (List Word) → (is : Bool) → (after : List Word) → Type 0
Pushes before None is after = is ≡ false
Pushes before (Some more) is after = (is ≡ true) × (after ≡ before ++ more)

-- numbers within brackets, the last ones of which `]` ends
abbrev pub in_brackets : (front text : Word) → Item
in_brackets front text =
    if bytes_eq (drop (length text - 1) text) (codes "]")
    then record { front = front; numbers = Some (take (length text - 1) text); is_last = true }
    else record { front = front; numbers = Some text; is_last = false }

abbrev pub opened_by : Option ℕ → Word → Item
opened_by None piece = record { front = piece; numbers = None; is_last = true }
opened_by (Some place) piece =
    in_brackets (take (min place (length piece)) piece)
    (drop (min (length (drop (min place (length piece)) piece)) 1) (drop (min place (length piece)) piece))

-- what a piece between commas says, within brackets behind this or within none
abbrev pub item_in : Option Word → Word → Item
item_in (Some front) piece = in_brackets front piece
item_in None piece = opened_by (position_from is_open 0 piece) piece

-- within which brackets the piece behind an item stands
abbrev pub inside_behind : Item → Option Word
inside_behind item = if item.is_last then None else Some item.front

-- names in front of those that are told behind them
abbrev pub in_front : Option (List Word) → Option (List Word) → Option (List Word)
in_front None more = None
in_front (Some names) more = option_map (λ others. names ++ others) more

-- the names that pieces between commas tell, the first of which stands within these brackets or none
abbrev pub node_names : Option Word → List Word → Option (List Word)
node_names inside [] = if is_some inside then None else Some []
node_names inside (piece ∷ pieces) =
    in_front (names_in (item_in inside piece)) (node_names (inside_behind (item_in inside piece)) pieces)

-- `(xN)`
abbrev pub repeated_in : Word → Option ℕ
repeated_in text =
    if bytes_eq (take (min (length text) 2) text) (codes "(x")
    && bytes_eq (drop (length (drop (min (length text) 2) text) - 1) (drop (min (length text) 2) text)) (codes ")")
    then number_between (take (length (drop (min (length text) 2) text) - 1) (drop (min (length text) 2) text)) 1 1048576
    else None

abbrev pub counted : Option ℕ → Word → Option (ℕ × ℕ)
counted None behind = None
counted (Some count) behind =
    if length behind == 0 then Some (count, 1) else option_map (λ times. (count, times)) (repeated_in behind)

-- the place where a number's repetition begins: its end where it has none
abbrev pub bracket_place : Word → ℕ
bracket_place piece = min (unwrap_or (position_from is_bracket 0 piece) (length piece)) (length piece)

-- `N`, or `N(xK)`: so many tasks, and on so many nodes in turn
abbrev pub count_in : Word → Option (ℕ × ℕ)
count_in piece =
    counted (number_between (take (bracket_place piece) piece) 1 1048576) (drop (bracket_place piece) piece)

abbrev pub counts_on : Option (ℕ × ℕ) → Option (List ℕ) → Option (List ℕ)
counts_on None rest = None
counts_on (Some found) rest = option_map (λ more. replicate found.1 found.0 ++ more) rest

-- the tasks of each node
abbrev pub counts_in : List Word → Option (List ℕ)
counts_in [] = Some []
counts_in (piece ∷ pieces) = counts_on (count_in piece) (counts_in pieces)

-- a node with as many slots as it has tasks
abbrev pub line_of : Word → ℕ → List ℕ
line_of name count = name ++ codes " slots=" ++ decimal count ++ 10 ∷ []

abbrev pub lines_of : List Word → List ℕ → List ℕ
lines_of [] counts = []
lines_of (name ∷ names) [] = []
lines_of (name ∷ names) (count ∷ counts) = line_of name count ++ lines_of names counts

abbrev pub fitting : Option (List Word) → Option (List ℕ) → Option (List ℕ)
fitting None counts = None
fitting (Some names) None = None
fitting (Some names) (Some counts) = if length names == length counts then Some (lines_of names counts) else None

-- the nodes of a list, with the tasks of each, as lines of a file of hosts
abbrev pub slurm_lines : (nodes tasks : List ℕ) → Option (List ℕ)
slurm_lines nodes tasks = fitting (node_names None (slice_split is_comma nodes)) (counts_in (slice_split is_comma tasks))
