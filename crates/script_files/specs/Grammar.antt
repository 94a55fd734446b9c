-- The grammar of scripts: which words say what.
use Rattle.std.specs.Prelude.{◌≡◌, ◌≢◌, ℕ, List, [], ◌∷◌, ◌++◌, codes, Option, Some, None}
use Rattle.statements.specs.Grammar.{IsSending, IsReceiving, Spells}
use Rattle.tokens.specs.Grammar.{Word, NamesIt, IsCapped, StandFor}
use Rattle.script_files.specs.declared.audience.AudienceMember.{AudienceMember}
use Rattle.script_files.specs.declared.audience.Audience.{Audience}
use Rattle.script_files.specs.declared.audience.Audience.TheVariants as audiences
use Rattle.script_files.specs.declared.script.ScriptStatement.{ScriptStatement}
use Rattle.script_files.specs.declared.script.ScriptStatement.TheVariants as statements
use Rattle.script_files.specs.declared.script.Item.{Item}
use Rattle.script_files.specs.declared.script.Item.TheVariants as items

-- `R`, or `R.I`; a rank or an incarnation that 16 bits don't hold stands as a number that is none
abbrev pub IsNamed : Word → ℕ → Option ℕ → Type 0
IsNamed word rank None = IsCapped 65535 word rank
IsNamed word rank (Some one) =
    (rank_word incarnation_word : Word) × (word ≡ rank_word ++ 46 ∷ incarnation_word) × IsCapped 65535 rank_word rank ×
    IsCapped 65536 incarnation_word one

abbrev pub IsMember : Word → AudienceMember → Type 0
IsMember word member = IsNamed word member.rank member.incarnation

-- `all`, or at least one rank
abbrev pub IsAudience : List Word → Audience → Type 0
IsAudience words audiences.All = words ≡ codes "all" ∷ []
IsAudience words (audiences.Ranks members) = (words ≢ []) × StandFor IsMember words members

-- what the words ask a rank to do
abbrev pub SpellsStatement : List Word → ScriptStatement → Type 0
SpellsStatement words (statements.Action action) = Spells words action
SpellsStatement words (statements.Send send) = (rest : List Word) × (words ≡ codes "send" ∷ rest) × IsSending rest send
SpellsStatement words (statements.Recv receive) =
    (rest : List Word) × (words ≡ codes "recv" ∷ rest) × IsReceiving rest receive
SpellsStatement words (statements.Print buffer) = (name : Word) × (words ≡ codes "print" ∷ name ∷ []) ×
    NamesIt name buffer
SpellsStatement words statements.Status = words ≡ codes "status" ∷ []
SpellsStatement words (statements.Count layout) = (name : Word) × (words ≡ codes "count" ∷ name ∷ []) ×
    NamesIt name layout
SpellsStatement words (statements.Say said) = (words ≡ codes "say" ∷ said) × (said ≢ [])
SpellsStatement words statements.Fail = words ≡ codes "fail" ∷ []

-- what the words of a line say
abbrev pub SpellsItem : List Word → Item → Type 0
SpellsItem words (items.On audience) = (rest : List Word) × (words ≡ codes "on" ∷ rest) × IsAudience rest audience
SpellsItem words (items.Does statement) = SpellsStatement words statement
