-- Reading the words of a line of a script.
use Rattle.std.specs.Prelude.{ℕ, ◌==◌, Bool, ◌&&◌, List, [], ◌∷◌, length, take, drop, codes, Option, Some, None}
use Rattle.std.specs.Prelude.{if◌then◌else◌}
use Rattle.std.specs.List.{position}
use Rattle.std.specs.Str.{bytes_eq}
use Rattle.tokens.specs.Grammar.{Word}
use Rattle.tokens.specs.Numbers.{number_or}
use Rattle.tokens.specs.Results.{◌>>=◌}
use Rattle.statements.specs.LineWords.{action_of, sending_of, receiving_of}
use Rattle.tokens.specs.Fields.{first, end_of_line, name_of, rank_of, each, one}
use Rattle.script_files.specs.declared.verb.ScriptVerb.{ScriptVerb}
use Rattle.script_files.specs.declared.verb.ScriptVerb.TheVariants as verbs
use Rattle.script_files.specs.declared.audience.AudienceMember.{AudienceMember}
use Rattle.script_files.specs.declared.audience.Audience.{Audience}
use Rattle.script_files.specs.declared.audience.Audience.TheVariants as audiences
use Rattle.script_files.specs.declared.script.ScriptStatement.TheVariants as statements
use Rattle.script_files.specs.declared.script.Item.{Item}
use Rattle.script_files.specs.declared.script.Item.TheVariants as items
use Rattle.script_files.specs.declared.script.ScriptLine.{ScriptLine}

-- what the first word says, if only scripts have it
unfoldable pub verb_of : Word → Option ScriptVerb
verb_of word =
    if bytes_eq word (codes "on") then Some verbs.On
    else (if bytes_eq word (codes "send") then Some verbs.Send
    else (if bytes_eq word (codes "recv") then Some verbs.Recv
    else (if bytes_eq word (codes "print") then Some verbs.Print
    else (if bytes_eq word (codes "status") then Some verbs.Status
    else (if bytes_eq word (codes "count") then Some verbs.Count
    else (if bytes_eq word (codes "say") then Some verbs.Say
    else (if bytes_eq word (codes "fail") then Some verbs.Fail
    else None)))))))

-- ---- whom lines are for

abbrev pub is_point : ℕ → Bool
is_point byte = byte == 46

abbrev pub member_at : Option ℕ → Word → Option AudienceMember
member_at None word = rank_of word >>= λ r. Some (record { rank = r; incarnation = None })
member_at (Some place) word =
    rank_of (take place word) >>= λ r. number_or 65536 (drop 1 (drop place word)) >>= λ one. Some
    (record { rank = r; incarnation = Some one })

-- `R`, or `R.I`
unfoldable pub member_of : Word → Option AudienceMember
member_of word = member_at (position is_point word) word

abbrev pub one_member : Word → Option (List AudienceMember)
one_member word = one member_of word

-- `all`, or at least one rank
unfoldable pub audience_of : List Word → Option Audience
audience_of [] = None
audience_of (word ∷ words) =
    if bytes_eq word (codes "all") && (length words == 0) then Some audiences.All
    else (each one_member (word ∷ words) >>= λ members. Some (audiences.Ranks members))

-- ---- what ranks do

-- one name, and nothing behind it
unfoldable pub name_alone : List Word → Option Word
name_alone words = first words >>= λ name. end_of_line name.1 >>= λ end. name_of name.0

-- the words that are said, of which there is at least one
unfoldable pub said_words : List Word → Option (List Word)
said_words words = first words >>= λ split. Some words

abbrev pub item_by : Option ScriptVerb → List Word → List Word → Option Item
item_by None words rest = action_of words >>= λ action. Some (items.Does (statements.Action action))
item_by (Some verbs.On) words rest = audience_of rest >>= λ audience. Some (items.On audience)
item_by (Some verbs.Send) words rest = sending_of rest >>= λ send. Some (items.Does (statements.Send send))
item_by (Some verbs.Recv) words rest = receiving_of rest >>= λ receive. Some (items.Does (statements.Recv receive))
item_by (Some verbs.Print) words rest = name_alone rest >>= λ buffer. Some (items.Does (statements.Print buffer))
item_by (Some verbs.Status) words rest = end_of_line rest >>= λ end. Some (items.Does statements.Status)
item_by (Some verbs.Count) words rest = name_alone rest >>= λ layout. Some (items.Does (statements.Count layout))
item_by (Some verbs.Say) words rest = said_words rest >>= λ said. Some (items.Does (statements.Say said))
item_by (Some verbs.Fail) words rest = end_of_line rest >>= λ end. Some (items.Does statements.Fail)

-- what the words of a line say
unfoldable pub item_of : List Word → Option Item
item_of words = first words >>= λ split. item_by (verb_of split.0) words split.1

-- the line of this number, by its words
abbrev pub line_read : ℕ → List Word → Option ScriptLine
line_read number words = item_of words >>= λ said. Some (record { number = number; item = said })
