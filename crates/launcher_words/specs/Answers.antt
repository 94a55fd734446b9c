-- What a launcher answers.
use Rattle.std.specs.Prelude.{ℕ, Bool, true, false, ◌&&◌, List, codes, Option, Some, None, if◌then◌else◌}
use Rattle.std.specs.Str.{bytes_eq}
use Rattle.launcher_words.specs.Words.{value_of}
use Rattle.launcher_words.specs.declared.answer.Answer.{Answer}
use Rattle.launcher_words.specs.declared.answer.Answer.TheVariants.{Given, Failed, Other}
use Rattle.launcher_words.specs.declared.answer.Wire.{Wire}
use Rattle.launcher_words.specs.declared.answer.Wire.TheVariants.{Lines, Records}

-- the byte between two words: a blank, or `;`
abbrev pub separator : Wire → ℕ
separator Lines = 32
separator Records = 59

-- the version's number
abbrev pub version_text : Wire → List ℕ
version_text Lines = codes "1"
version_text Records = codes "2"

-- this is said
abbrev pub is_said : Option (List ℕ) → List ℕ → Bool
is_said None text = false
is_said (Some value) text = bytes_eq value text

-- nothing is said, or this
abbrev pub may_be_said : Option (List ℕ) → List ℕ → Bool
may_be_said None text = true
may_be_said (Some value) text = bytes_eq value text

-- what was asked was done
abbrev pub is_done : (end : ℕ) (line : List ℕ) → Bool
is_done end line =
    may_be_said (value_of (codes "rc") end line) (codes "0")
    && may_be_said (value_of (codes "found") end line) (codes "TRUE")

-- what a line is where this command is to be answered
abbrev pub answer_in : (command : List ℕ) (end : ℕ) (line : List ℕ) → Answer
answer_in command end line =
    if is_said (value_of (codes "cmd") end line) command
    then (if is_done end line then Given else Failed) else Other

-- the first line answers, and names this version
abbrev pub is_version : Wire → List ℕ → Bool
is_version wire line =
    is_said (value_of (codes "cmd") 32 line) (codes "response_to_init") && is_done 32 line
    && is_said (value_of (codes "pmi_version") 32 line) (version_text wire)
