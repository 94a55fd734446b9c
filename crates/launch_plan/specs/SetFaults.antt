-- Judging the words of sets one after the other, without keeping any: the first fault, or how many
-- ranks there are.
use Rattle.std.specs.Prelude.{ℕ, ◌+◌, ◌-◌, min, true, false, not, ◌&&◌, ◌≡◌, ◌≤◌, length, take, drop, get_or, List, []}
use Rattle.std.specs.Prelude.{◌∷◌, Option, Result, Ok, Err, if◌then◌else◌}
use Rattle.launch_plan.specs.declared.refusal.LaunchRefusal.{LaunchRefusal}
use Rattle.launch_plan.specs.declared.refusal.LaunchRefusal.TheVariants as refusals
use Rattle.launch_plan.specs.declared.symbol.Symbol.{Symbol}
use Rattle.launch_plan.specs.declared.symbol.Symbol.TheVariants as symbols
use Rattle.launch_plan.specs.declared.stage.Stage.{Stage}
use Rattle.launch_plan.specs.declared.stage.Stage.TheVariants as stages
use Rattle.launch_plan.specs.declared.validation.Tally.{Tally}
use Rattle.launch_plan.specs.declared.process_set.ProcessSet.{ProcessSet}
use Rattle.numerals.specs.Numbers.{number_between}
use Rattle.launch_keeper.specs.Words.{Word}
use Rattle.launch_plan.specs.Symbols.{is_separator, symbol_of}
use Rattle.launch_plan.specs.Results.{◌>>=◌, required}
use Rattle.launch_plan.specs.Sets.{set_of}
use Rattle.launch_plan.specs.Options.{Opening}
use Rattle.launch_plan.specs.Configuration.{is_comment, goes_on, words_of}
use Rattle.launch_plan.specs.Launches.{rank_count, launch_with, limited}
use Rattle.launch_plan.specs.Plans.{sets_behind}

-- ---- one set

-- the ranks with so many more; 1,025 stands for any greater number
abbrev pub total_with : ℕ → ℕ → ℕ
total_with ranks count = min (ranks + count) 1025

-- the fault of a word that can't stand where an option may stand
abbrev pub misplaced_fault : Symbol → LaunchRefusal
misplaced_fault symbols.LeftOut = refusals.LeftOut
misplaced_fault symbols.Program = refusals.WrongOption
misplaced_fault symbols.Count = refusals.WrongOption
misplaced_fault symbols.File = refusals.WrongOption
misplaced_fault symbols.Unknown = refusals.WrongOption
misplaced_fault symbols.Separator = refusals.WrongOption
misplaced_fault (symbols.Own option) = refusals.WrongOption

-- a set's first word
abbrev pub stage_after_first : Symbol → Result Stage LaunchRefusal
stage_after_first symbols.Count = Ok stages.Count
stage_after_first symbols.LeftOut = Err refusals.LeftOut
stage_after_first symbols.Program = Err refusals.NoCount
stage_after_first symbols.File = Err refusals.WrongOption
stage_after_first symbols.Unknown = Err refusals.WrongOption
stage_after_first symbols.Separator = Err refusals.WrongOption
stage_after_first (symbols.Own option) = Err refusals.WrongOption

-- the word where the program is due
abbrev pub stage_after_program : ℕ → Symbol → Result Stage LaunchRefusal
stage_after_program count symbols.Program = Ok (stages.Arguments count)
stage_after_program count symbols.LeftOut = Err refusals.LeftOut
stage_after_program count symbols.Count = Err refusals.WrongOption
stage_after_program count symbols.File = Err refusals.WrongOption
stage_after_program count symbols.Unknown = Err refusals.WrongOption
stage_after_program count symbols.Separator = Err refusals.WrongOption
stage_after_program count (symbols.Own option) = Err refusals.WrongOption

-- one more word of a set
unfoldable pub stage_after : Stage → Word → Result Stage LaunchRefusal
stage_after stages.Empty word = stage_after_first (symbol_of word)
stage_after stages.Count word =
    required (number_between word 1 1024) refusals.WrongValue >>= λ count. Ok (stages.Program count)
stage_after (stages.Program count) word = stage_after_program count (symbol_of word)
stage_after (stages.Arguments count) word = if is_separator word then Err refusals.WrongOption else
    Ok (stages.Arguments count)

-- more words of a set
abbrev pub stage_behind : Stage → List Word → Result Stage LaunchRefusal
stage_behind stage [] = Ok stage
stage_behind stage (word ∷ words) = stage_after stage word >>= λ next. stage_behind next words

-- the count of a set that ends here, or the fault of what is missing
abbrev pub count_at : Stage → Result ℕ LaunchRefusal
count_at stages.Empty = Err refusals.NoSet
count_at stages.Count = Err refusals.WrongValue
count_at (stages.Program count) = Err refusals.NoProgram
count_at (stages.Arguments count) = Ok count

-- the count of a set with these words
abbrev pub last_count : List Word → Result ℕ LaunchRefusal
last_count words = stage_behind stages.Empty words >>= count_at

-- the ranks with those of the set that ends here
abbrev pub total : ℕ → Stage → Result ℕ LaunchRefusal
total ranks stage = count_at stage >>= λ count. Ok (total_with ranks count)

-- the same, where a set without words is none
abbrev pub total_or_none : ℕ → Stage → Result ℕ LaunchRefusal
total_or_none ranks stages.Empty = Ok ranks
total_or_none ranks stages.Count = total ranks stages.Count
total_or_none ranks (stages.Program count) = total ranks (stages.Program count)
total_or_none ranks (stages.Arguments count) = total ranks (stages.Arguments count)

-- the count of a set that is read
abbrev pub count_of : List Word → Result ℕ LaunchRefusal
count_of words = set_of words >>= λ set. Ok set.count

-- the words are those of a set with this count: the program is the third of them
pub record IsCounted (words : List Word) (count : ℕ) : Type 0 where
  pub long : 3 ≤ length words
  pub read : set_of words ≡ Ok (record { count = count; program = get_or words 2 []; arguments = drop 3 words })

-- ---- the sets of the words, and those of a file

-- more words of sets that stand apart by `:`, behind so many ranks and a set at this stage
abbrev pub count_ranks : ℕ → Stage → List Word → Result ℕ LaunchRefusal
count_ranks ranks stage [] = total ranks stage
count_ranks ranks stage (word ∷ words) =
    if is_separator word then (total ranks stage >>= λ more. count_ranks more stages.Empty words)
    else (stage_after stage word >>= λ next. count_ranks ranks next words)

-- a line that goes on in the next, without its last byte
abbrev pub tally_on : Tally → List ℕ → Result Tally LaunchRefusal
tally_on tally front =
    stage_behind tally.stage (words_of front) >>= λ stage. Ok
    (record { ranks = tally.ranks; stage = stage; begun = true })

-- a line that ends
abbrev pub tally_end : Tally → List ℕ → Result Tally LaunchRefusal
tally_end tally line =
    stage_behind tally.stage (words_of line) >>= λ stage. total_or_none tally.ranks stage >>= λ ranks. Ok
    (record { ranks = ranks; stage = stages.Empty; begun = false })

-- one more line of a file
unfoldable pub tally_line : Tally → List ℕ → Result Tally LaunchRefusal
tally_line tally line =
    if not tally.begun && is_comment line then Ok tally
    else (if goes_on line then tally_on tally (take (length line - 1) line)
    else tally_end tally line)

-- more lines of a file
abbrev pub tally_lines : Tally → List (List ℕ) → Result ℕ LaunchRefusal
tally_lines tally [] = total_or_none tally.ranks tally.stage
tally_lines tally (line ∷ lines) = tally_line tally line >>= λ next. tally_lines next lines

-- before the first line
abbrev pub nothing_tallied : Tally
nothing_tallied = record { ranks = 0; stage = stages.Empty; begun = false }

-- ---- what reading the sets gives

-- how many ranks the sets have that reading gives, with those before
abbrev pub ranks_of : ℕ → Result (List ProcessSet) LaunchRefusal → Result ℕ LaunchRefusal
ranks_of ranks read = read >>= λ sets. Ok (total_with ranks (rank_count sets))

-- how many ranks a launch has, if it is within the limits
abbrev pub size_behind : Opening → Option (List ℕ) → Result ℕ LaunchRefusal
size_behind opening config =
    sets_behind opening config >>= λ sets. limited (launch_with opening.given sets) >>= λ launch. Ok
    (rank_count launch.sets)
