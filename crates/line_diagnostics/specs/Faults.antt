-- Why a line isn't in its language.
use Rattle.std.specs.Prelude.{ℕ, ◌-◌, ◌==◌, Bool, true, false, not, ◌&&◌, ◌||◌, nat_lt, List, [], ◌∷◌, drop, slice_get}
use Rattle.std.specs.Prelude.{slice_index, codes, Option, Some, None, is_some, if◌then◌else◌}
use Rattle.std.specs.List.{list_any, position}
use Rattle.std.specs.Str.{bytes_eq}
use Rattle.vocabulary.specs.BasicTypes.{is_float}
use Rattle.vocabulary.specs.declared.basic_type.BasicType.{BasicType}
use Rattle.numerals.specs.Numbers.{is_numeral}
use Rattle.tokens.specs.Grammar.{Word}
use Rattle.tokens.specs.Lines.{is_text_byte, said_in}
use Rattle.tokens.specs.Numbers.{number_up_to}
use Rattle.tokens.specs.Words.{basic_type_of}
use Rattle.statements.specs.LineWords.{integer_of, is_star, key_of}
use Rattle.statements.specs.Words as action_verbs
use Rattle.script_files.specs.LineWords as script_verbs
use Rattle.event_files.specs.LineWords as event_verbs
use Rattle.line_diagnostics.specs.declared.fault.LineFault.{LineFault}
use Rattle.line_diagnostics.specs.declared.fault.LineFault.TheVariants as faults

-- the line of this number, of which the first has 1
abbrev pub line_numbered : ℕ → List (List ℕ) → Option (List ℕ)
line_numbered number lines = if number == 0 then None else slice_get lines (number - 1)

-- ---- bytes

-- none from space to `~`
abbrev pub is_odd : ℕ → Bool
is_odd byte = not (is_text_byte byte)

abbrev pub byte_fault_at : Option ℕ → List ℕ → Option LineFault
byte_fault_at None line = None
byte_fault_at (Some place) line = if nat_lt 127 (slice_index line place) then Some faults.NotAscii else
    Some faults.NotPrintable

-- the fault of the first byte that is none from space to `~`, if there is one
unfoldable pub byte_fault : List ℕ → Option LineFault
byte_fault line = byte_fault_at (position is_odd line) line

-- ---- verbs

abbrev pub is_communicator_verb : Word → Bool
is_communicator_verb word = is_some (action_verbs.communicator_verb_of word)

abbrev pub is_action_verb : Word → Bool
is_action_verb word = is_some (action_verbs.verb_of word)

abbrev pub is_only_script_verb : Word → Bool
is_only_script_verb word = is_some (script_verbs.verb_of word)

abbrev pub is_script_verb : Word → Bool
is_script_verb word = is_only_script_verb word || is_action_verb word

-- `world` says how many ranks there are; the others are events
abbrev pub is_event_verb : Word → Bool
is_event_verb word = bytes_eq word (codes "world") || is_some (event_verbs.verb_of word)

-- ---- values

-- a number, with a sign in front or without
abbrev pub is_integer : Word → Bool
is_integer word = if slice_index word 0 == 45 then is_numeral (drop 1 word) else is_numeral word

abbrev pub element_at : Option ℕ → Word → Word
element_at None word = word
element_at (Some place) word = drop 1 (drop place word)

-- `V` of `N*V`, or the whole word
unfoldable pub element_in : Word → Word
element_in word = element_at (position is_star word) word

-- a number, or copies of one, that the type doesn't hold; for a float each number has a nearest one
unfoldable pub is_out_of_range : BasicType → Word → Bool
is_out_of_range basic word =
    not (is_float basic) && (is_integer (element_in word) && not (is_some (integer_of basic (element_in word))))

abbrev pub are_elements_outside : Option BasicType → List Word → Bool
are_elements_outside None elements = false
are_elements_outside (Some basic) elements = list_any (is_out_of_range basic) elements

-- an element of `B TYPE V ..` that TYPE doesn't hold
abbrev pub has_element_outside : List Word → Bool
has_element_outside [] = false
has_element_outside (name ∷ []) = false
has_element_outside (name ∷ basic ∷ elements) = are_elements_outside (basic_type_of basic) elements

-- a number that is no colour of 32 bits
abbrev pub is_colour_outside : Word → Bool
is_colour_outside word = is_numeral word && not (is_some (number_up_to 4294967295 word))

-- a number that is no key of 32 bits
abbrev pub is_key_outside : Word → Bool
is_key_outside word = is_integer word && not (is_some (key_of word))

-- a number of `NEW COMM COLOUR KEY` that its type doesn't hold
abbrev pub has_split_outside : List Word → Bool
has_split_outside [] = false
has_split_outside (name ∷ []) = false
has_split_outside (name ∷ communicator ∷ []) = false
has_split_outside (name ∷ communicator ∷ colour ∷ []) = false
has_split_outside (name ∷ communicator ∷ colour ∷ key ∷ rest) = is_colour_outside colour || is_key_outside key

-- the time of `R NOW` that 64 bits don't hold
abbrev pub has_tick_outside : List Word → Bool
has_tick_outside [] = false
has_tick_outside (rank ∷ []) = false
has_tick_outside (rank ∷ now ∷ rest) = is_numeral now && not (is_some (number_up_to 18446744073709551615 now))

-- a number behind this verb of what a rank does that its type doesn't hold
abbrev pub has_action_outside : Word → List Word → Bool
has_action_outside verb words =
    if bytes_eq verb (codes "buf") then has_element_outside words
    else (if bytes_eq verb (codes "split") then has_split_outside words else false)

-- ---- lines

-- a line whose verb is one of its language
abbrev pub fits : Bool → LineFault
fits true = faults.OutsideType
fits false = faults.UnfitWords

abbrev pub script_words_fault : List Word → LineFault
script_words_fault [] = faults.NoStatement
script_words_fault (verb ∷ words) = if is_script_verb verb then fits (has_action_outside verb words) else
    faults.NoStatement

-- the words behind a rank
abbrev pub rank_words_fault : List Word → LineFault
rank_words_fault [] = faults.UnfitWords
rank_words_fault (verb ∷ words) = if is_action_verb verb then fits (has_action_outside verb words) else
    faults.NoStatement

abbrev pub event_words_fault : List Word → LineFault
event_words_fault [] = faults.NoStatement
event_words_fault (verb ∷ words) =
    if is_event_verb verb then fits (bytes_eq verb (codes "tick") && has_tick_outside words)
    else (if is_numeral verb then rank_words_fault words else faults.NoStatement)

-- the words of a line of text that isn't skipped
abbrev pub words_said : Option (Option (List Word)) → Option (List Word)
words_said None = None
words_said (Some said) = said

-- a line that is skipped has no verb
abbrev pub said_fault : (List Word → LineFault) → Option (List Word) → LineFault
said_fault fault None = faults.NoStatement
said_fault fault (Some words) = fault words

-- a byte is judged before words
abbrev pub line_fault : Option LineFault → LineFault → LineFault
line_fault None words = words
line_fault (Some byte) words = byte

-- a line of a script
abbrev pub script_fault : List ℕ → LineFault
script_fault line = line_fault (byte_fault line) (said_fault script_words_fault (words_said (said_in line)))

-- a line of a file of events
abbrev pub event_fault : List ℕ → LineFault
event_fault line = line_fault (byte_fault line) (said_fault event_words_fault (words_said (said_in line)))
