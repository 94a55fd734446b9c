-- Reading the words of a line of a file of events.
use Rattle.std.specs.Prelude.{ℕ, ◌+◌, ◌-◌, ◌*◌, nat_le, ◌&&◌, List, [], ◌∷◌, codes, Option, Some, None, if◌then◌else◌}
use Rattle.std.specs.Str.{bytes_eq}
use Rattle.tokens.specs.Grammar.{Word}
use Rattle.tokens.specs.Numbers.{number_or, number_up_to}
use Rattle.tokens.specs.Results.{◌>>=◌}
use Rattle.statements.specs.LineWords.{action_of}
use Rattle.tokens.specs.Fields.{first, end_of_line, rank_of}
use Rattle.event_files.specs.declared.verb.EventVerb.{EventVerb}
use Rattle.event_files.specs.declared.verb.EventVerb.TheVariants as verbs
use Rattle.event_files.specs.declared.file.EventStatement.{EventStatement}
use Rattle.event_files.specs.declared.file.EventStatement.TheVariants as statements
use Rattle.event_files.specs.declared.file.EventLine.{EventLine}

-- the event that the first word asks for, if it is no rank
unfoldable pub verb_of : Word → Option EventVerb
verb_of word =
    if bytes_eq word (codes "deliver") then Some verbs.Deliver
    else (if bytes_eq word (codes "tick") then Some verbs.Tick
    else (if bytes_eq word (codes "stray") then Some verbs.Stray
    else (if bytes_eq word (codes "restart") then Some verbs.Restart
    else None)))

-- the value of a lower-case hexadecimal digit
unfoldable pub digit_of : ℕ → Option ℕ
digit_of byte =
    if nat_le 48 byte && nat_le byte 57 then Some (byte - 48)
    else (if nat_le 97 byte && nat_le byte 102 then Some (byte - 87) else None)

-- the bytes that digits spell, two for each, the higher one first
unfoldable pub bytes_of : Word → Option (List ℕ)
bytes_of [] = Some []
bytes_of (a ∷ []) = None
bytes_of (a ∷ b ∷ word) =
    digit_of a >>= λ high. digit_of b >>= λ low. bytes_of word >>= λ bytes. Some ((16 * high + low) ∷ bytes)

unfoldable pub delivery_of : List Word → Option EventStatement
delivery_of words =
    first words >>= λ datagram. end_of_line datagram.1 >>= λ end. number_or 18446744073709551615 datagram.0 >>= λ d.
    Some (statements.Deliver d)

unfoldable pub tick_of : List Word → Option EventStatement
tick_of words = do
  rank ← first words
  now ← first rank.1
  end ← end_of_line now.1
  r ← rank_of rank.0
  n ← number_up_to 18446744073709551615 now.0
  Some (statements.Tick r n)

unfoldable pub stray_of : List Word → Option EventStatement
stray_of words = do
  rank ← first words
  hex ← first rank.1
  end ← end_of_line hex.1
  r ← rank_of rank.0
  b ← bytes_of hex.0
  Some (statements.Stray r b)

unfoldable pub restart_of : List Word → Option EventStatement
restart_of words =
    first words >>= λ rank. end_of_line rank.1 >>= λ end. rank_of rank.0 >>= λ r. Some (statements.Restart r)

-- what the rank of this word does
unfoldable pub act_of : Word → List Word → Option EventStatement
act_of rank words = rank_of rank >>= λ r. action_of words >>= λ action. Some (statements.Rank r action)

abbrev pub statement_by : Option EventVerb → Word → List Word → Option EventStatement
statement_by None word words = act_of word words
statement_by (Some verbs.Deliver) word words = delivery_of words
statement_by (Some verbs.Tick) word words = tick_of words
statement_by (Some verbs.Stray) word words = stray_of words
statement_by (Some verbs.Restart) word words = restart_of words

-- what the words of a line ask for
unfoldable pub statement_of : List Word → Option EventStatement
statement_of words = first words >>= λ split. statement_by (verb_of split.0) split.0 split.1

-- the line of this number, by its words
abbrev pub line_read : ℕ → List Word → Option EventLine
line_read number words = statement_of words >>= λ asked. Some (record { number = number; statement = asked })

-- a number that isn't 0
abbrev pub positive : ℕ → Option ℕ
positive n = if nat_le 1 n then Some n else None

-- `world N`: how many ranks the world has
unfoldable pub size_of : List Word → Option ℕ
size_of words = do
  verb ← first words
  size ← first verb.1
  end ← end_of_line size.1
  if bytes_eq verb.0 (codes "world") then (number_up_to 1024 size.0 >>= λ n. positive n) else None
