-- The grammar of what ranks do: which words spell what.
use Rattle.std.specs.Prelude.{◌≡◌, ◌≢◌, ◌⊎◌, ℤ, pos, neg_ℤ, ℕ, ◌+◌, ◌/◌, ◌<◌, ◌≤◌, ◌==◌, true, false, List, [], ◌∷◌}
use Rattle.std.specs.Prelude.{◌++◌, codes, replicate, Option, Some, None, if◌then◌else◌, to_bits}
use Rattle.std.specs.Float.Ieee.{Float, Format, binary32, binary64}
use Rattle.std.specs.List.{AllByRecursion}
use Rattle.fast_float.specs.Parse.{parse_float}
use Rattle.vocabulary.specs.BasicTypes.{is_float}
use Rattle.vocabulary.specs.declared.basic_type.BasicType.{BasicType}
use Rattle.vocabulary.specs.declared.basic_type.BasicType.TheVariants.{Float32}
use Rattle.vocabulary.specs.declared.envelope.Source.{Source}
use Rattle.vocabulary.specs.declared.envelope.Source.TheVariants as sources
use Rattle.datatypes.specs.Elements.{has_sign, numbers_of}
use Rattle.derived_types.specs.declared.block.IndexedBlock.{IndexedBlock}
use Rattle.vocabulary.specs.declared.operation.Operation.{Operation}
use Rattle.vocabulary.specs.declared.operation.Operation.TheVariants as operations
use Rattle.tokens.specs.Grammar.{Word, IsNumeral, IsCapped, IsLarge, StandFor, type_word, NamesIt}
use Rattle.statements.specs.declared.action.CommunicatorName.{CommunicatorName}
use Rattle.statements.specs.declared.action.CommunicatorName.TheVariants as communicators
use Rattle.statements.specs.declared.action.RequestName.{RequestName}
use Rattle.statements.specs.declared.action.RequestName.TheVariants as requests
use Rattle.statements.specs.declared.action.BufferLine.{BufferLine}
use Rattle.statements.specs.declared.action.LayoutClause.{LayoutClause}
use Rattle.statements.specs.declared.action.Sending.{Sending}
use Rattle.statements.specs.declared.action.Receiving.{Receiving}
use Rattle.statements.specs.declared.action.Probing.{Probing}
use Rattle.statements.specs.declared.action.Landing.{Landing}
use Rattle.statements.specs.declared.action.Splitting.{Splitting}
use Rattle.statements.specs.declared.collective_line.Broadcasting.{Broadcasting}
use Rattle.statements.specs.declared.collective_line.Gathering.{Gathering}
use Rattle.statements.specs.declared.collective_line.Scattering.{Scattering}
use Rattle.statements.specs.declared.collective_line.Reducing.{Reducing}
use Rattle.statements.specs.declared.collective_line.ReducingToAll.{ReducingToAll}
use Rattle.statements.specs.declared.action.Action.{Action}
use Rattle.statements.specs.declared.action.Action.TheVariants as actions
use Rattle.statements.specs.declared.layout_line.OldLayout.{OldLayout}
use Rattle.statements.specs.declared.layout_line.OldLayout.TheVariants as olds
use Rattle.statements.specs.declared.layout_line.LayoutForm.{LayoutForm}
use Rattle.statements.specs.declared.layout_line.LayoutForm.TheVariants as forms
use Rattle.statements.specs.declared.layout_line.LayoutLine.{LayoutLine}

-- ---- what a word stands for

abbrev pub IsCommunicator : Word → CommunicatorName → Type 0
IsCommunicator word communicators.World = word ≡ codes "world"
IsCommunicator word communicators.Own = word ≡ codes "self"
IsCommunicator word (communicators.Named name) = NamesIt word name

-- whom a send names, which is never the wildcard
abbrev pub IsTarget : Word → Source → Type 0
IsTarget word sources.Any = ⊥
IsTarget word sources.Null = word ≡ codes "null"
IsTarget word (sources.Rank rank) = IsCapped 65535 word rank

abbrev pub IsSource : Word → Source → Type 0
IsSource word sources.Any = word ≡ codes "any"
IsSource word sources.Null = word ≡ codes "null"
IsSource word (sources.Rank rank) = IsCapped 65535 word rank

-- none is the wildcard
abbrev pub IsTag : Word → Option ℕ → Type 0
IsTag word None = word ≡ codes "any"
IsTag word (Some tag) = IsCapped 4294967295 word tag

abbrev pub IsRequested : Word → RequestName → Type 0
IsRequested word requests.Null = word ≡ codes "null"
IsRequested word (requests.Named name) = NamesIt word name

-- ---- elements

-- A value of the type, and the number that its bytes are: one below zero has `-` in front, and counts
-- down from the number of all patterns.
pub record IsBelow (basic : BasicType) (word : Word) (number : ℕ) : Type 0 where
  pub digits : Word
  pub magnitude : ℕ
  pub spelled : word ≡ 45 ∷ digits
  pub numeral : IsNumeral digits magnitude
  pub signed : has_sign basic ≡ true
  pub range : magnitude ≤ numbers_of basic / 2
  pub number_is : ((magnitude ≡ 0) × (number ≡ 0)) ⊎ ((0 < magnitude) × (number + magnitude ≡ numbers_of basic))

pub record IsAbove (basic : BasicType) (word : Word) (number : ℕ) : Type 0 where
  pub no_float : is_float basic ≡ false
  pub numeral : IsNumeral word number
  pub range : number < (if has_sign basic then numbers_of basic / 2 else numbers_of basic)

-- the format of a type of floats
abbrev pub format_of : BasicType → Format
format_of Float32 = binary32
format_of basic = binary64

-- A float: the word says a number in decimal, `inf` or `nan`, and stands for the nearest float; it has no `*`
pub record IsFloat (basic : BasicType) (word : Word) (number : ℕ) : Type 0 where
  pub float : is_float basic ≡ true
  pub plain : AllByRecursion (λ byte. (byte == 42) ≡ false) word
  pub value : Float
  pub says : parse_float (format_of basic) word ≡ Some value
  pub number_is : to_bits (format_of basic) value ≡ number

abbrev pub IsValue : BasicType → Word → ℕ → Type 0
IsValue basic word number = IsBelow basic word number ⊎ (IsAbove basic word number ⊎ IsFloat basic word number)

-- `N*V`: so many copies of a value
pub record AreCopies (basic : BasicType) (word : Word) (numbers : List ℕ) : Type 0 where
  pub count_word : Word
  pub value_word : Word
  pub count : ℕ
  pub number : ℕ
  pub spelled : word ≡ count_word ++ 42 ∷ value_word
  pub counted : IsNumeral count_word count
  pub value : IsValue basic value_word number
  pub copies : numbers ≡ replicate count number

-- one value, or copies of it
abbrev pub AreValues : BasicType → Word → List ℕ → Type 0
AreValues basic word numbers =
    ((number : ℕ) × IsValue basic word number × (numbers ≡ number ∷ [])) ⊎ AreCopies basic word numbers

-- the elements of each word, one after the other
abbrev pub AreElements : BasicType → List Word → List ℕ → Type 0
AreElements basic [] numbers = numbers ≡ []
AreElements basic (word ∷ words) numbers =
    (front rest : List ℕ) × AreValues basic word front × AreElements basic words rest × (numbers ≡ front ++ rest)

-- ---- buffers, sends and receives

-- `B TYPE V ..`
abbrev pub IsBuffer : List Word → BufferLine → Type 0
IsBuffer words line =
    (name : Word) × (values : List Word) × (words ≡ name ∷ type_word line.value.basic ∷ values)
    × NamesIt name line.name × AreElements line.value.basic values line.value.values

-- `as L N`, or nothing
abbrev pub IsThrough : List Word → Option LayoutClause → Type 0
IsThrough words None = words ≡ []
IsThrough words (Some through) =
    (layout copies : Word) × (words ≡ codes "as" ∷ layout ∷ copies ∷ []) × NamesIt layout through.layout ×
    IsLarge copies through.copies

-- `COMM DEST TAG B`, and what stands behind it
abbrev pub IsSending : List Word → Sending → Type 0
IsSending words send =
    (communicator target tag buffer : Word) × (rest : List Word) × (words ≡ communicator ∷ target ∷ tag ∷ buffer ∷ rest)
    × IsCommunicator communicator send.communicator × IsTarget target send.target × IsTag tag send.tag ×
    NamesIt buffer send.buffer × IsThrough rest send.through

-- `COMM SRC TAG B`, and what stands behind it
abbrev pub IsReceiving : List Word → Receiving → Type 0
IsReceiving words receive =
    (communicator source tag buffer : Word) × (rest : List Word) × (words ≡ communicator ∷ source ∷ tag ∷ buffer ∷ rest)
    × IsCommunicator communicator receive.communicator × IsSource source receive.source × IsTag tag receive.tag ×
    NamesIt buffer receive.buffer
    × IsThrough rest receive.through

-- ---- probes and the messages that they find

-- `COMM SRC TAG`
abbrev pub IsProbing : List Word → Probing → Type 0
IsProbing words probe =
    (communicator source tag : Word) × (words ≡ communicator ∷ source ∷ tag ∷ [])
    × IsCommunicator communicator probe.communicator × IsSource source probe.source × IsTag tag probe.tag

-- `B`, and what stands behind it
abbrev pub IsLanding : List Word → Landing → Type 0
IsLanding words landing =
    (buffer : Word) × (rest : List Word) × (words ≡ buffer ∷ rest) × NamesIt buffer landing.buffer ×
    IsThrough rest landing.through

-- ---- layouts

-- a type, or the name of a layout, which is no type's word
abbrev pub IsOld : Word → OldLayout → Type 0
IsOld word (olds.Basic basic) = word ≡ type_word basic
IsOld word (olds.Named name) = NamesIt word name × ((basic : BasicType) → word ≢ type_word basic)

-- `LEN:DISP`
abbrev pub IsBlock : Word → IndexedBlock → Type 0
IsBlock word block =
    (length_word displacement_word : Word) × (word ≡ length_word ++ 58 ∷ displacement_word) ×
    IsLarge length_word block.length × IsLarge displacement_word block.displacement

-- `contiguous N OLD`, `vector C B S OLD` or `indexed LEN:DISP .. OLD`
abbrev pub IsFormed : List Word → LayoutForm → OldLayout → Type 0
IsFormed words (forms.Contiguous count) old =
    (number last : Word) × (words ≡ codes "contiguous" ∷ number ∷ last ∷ []) × IsLarge number count × IsOld last old
IsFormed words (forms.Vector stripes) old =
    (count blocklength stride last : Word) × (words ≡ codes "vector" ∷ count ∷ blocklength ∷ stride ∷ last ∷ [])
    × IsLarge count stripes.count × IsLarge blocklength stripes.blocklength × IsLarge stride stripes.stride ×
    IsOld last old
IsFormed words (forms.Indexed blocks) old =
    (front : List Word) × (last : Word) × (words ≡ codes "indexed" ∷ front ++ last ∷ []) ×
    StandFor IsBlock front blocks × IsOld last old

-- a name, and how the layout of this name is made
abbrev pub IsLayout : List Word → LayoutLine → Type 0
IsLayout words line = (name : Word) × (rest : List Word) × (words ≡ name ∷ rest) × NamesIt name line.name ×
    IsFormed rest line.form line.made_of

-- ---- communicators

-- a colour of 32 bits; none is `undefined`
abbrev pub IsColour : Word → Option ℕ → Type 0
IsColour word None = word ≡ codes "undefined"
IsColour word (Some colour) = IsNumeral word colour × (colour ≤ 4294967295)

-- a key of 32 bits with its sign; one below zero has `-` in front
pub record IsKeyBelow (word : Word) (key : ℤ) : Type 0 where
  pub digits : Word
  pub magnitude : ℕ
  pub spelled : word ≡ 45 ∷ digits
  pub numeral : IsNumeral digits magnitude
  pub range : magnitude ≤ 2147483648
  pub key_is : key ≡ neg_ℤ (pos magnitude)

pub record IsKeyAbove (word : Word) (key : ℤ) : Type 0 where
  pub magnitude : ℕ
  pub numeral : IsNumeral word magnitude
  pub range : magnitude ≤ 2147483647
  pub key_is : key ≡ pos magnitude

abbrev pub IsKey : Word → ℤ → Type 0
IsKey word key = IsKeyBelow word key ⊎ IsKeyAbove word key

-- `COMM COLOUR KEY`
abbrev pub IsSplitting : List Word → Splitting → Type 0
IsSplitting words split =
    (communicator colour key : Word) × (words ≡ communicator ∷ colour ∷ key ∷ [])
    × IsCommunicator communicator split.communicator × IsColour colour split.colour × IsKey key split.key

-- ---- collectives that move elements

-- the word of an operation
abbrev pub operation_word : Operation → Word
operation_word operations.Max = codes "max"
operation_word operations.Min = codes "min"
operation_word operations.Sum = codes "sum"
operation_word operations.Prod = codes "prod"
operation_word operations.Land = codes "land"
operation_word operations.Lor = codes "lor"
operation_word operations.Lxor = codes "lxor"
operation_word operations.Band = codes "band"
operation_word operations.Bor = codes "bor"
operation_word operations.Bxor = codes "bxor"
operation_word operations.Affine = codes "affine"

-- a buffer's name, or `-`
abbrev pub IsBlocks : Word → Option Word → Type 0
IsBlocks word None = word ≡ codes "-"
IsBlocks word (Some name) = NamesIt word name

-- `COMM ROOT B`
abbrev pub IsBroadcasting : List Word → Broadcasting → Type 0
IsBroadcasting words line =
    (communicator root buffer : Word) × (words ≡ communicator ∷ root ∷ buffer ∷ [])
    × IsCommunicator communicator line.communicator × IsCapped 65535 root line.root × NamesIt buffer line.buffer

-- `COMM ROOT B INTO`
abbrev pub IsGathering : List Word → Gathering → Type 0
IsGathering words line =
    (communicator root buffer into : Word) × (words ≡ communicator ∷ root ∷ buffer ∷ into ∷ [])
    × IsCommunicator communicator line.communicator × IsCapped 65535 root line.root × NamesIt buffer line.buffer ×
    NamesIt into line.into

-- `COMM ROOT B INTO`, where B may be `-`
abbrev pub IsScattering : List Word → Scattering → Type 0
IsScattering words line =
    (communicator root buffer into : Word) × (words ≡ communicator ∷ root ∷ buffer ∷ into ∷ [])
    × IsCommunicator communicator line.communicator × IsCapped 65535 root line.root × IsBlocks buffer line.buffer ×
    NamesIt into line.into

-- `COMM ROOT OP B INTO`
abbrev pub IsReducing : List Word → Reducing → Type 0
IsReducing words line =
    (communicator root buffer into : Word) ×
    (words ≡ communicator ∷ root ∷ operation_word line.operation ∷ buffer ∷ into ∷ [])
    × IsCommunicator communicator line.communicator × IsCapped 65535 root line.root × NamesIt buffer line.buffer ×
    NamesIt into line.into

-- `COMM OP B INTO`
abbrev pub IsReducingToAll : List Word → ReducingToAll → Type 0
IsReducingToAll words line =
    (communicator buffer into : Word) × (words ≡ communicator ∷ operation_word line.operation ∷ buffer ∷ into ∷ [])
    × IsCommunicator communicator line.communicator × NamesIt buffer line.buffer × NamesIt into line.into

-- ---- all that ranks do

-- the first word of what a rank does, and what the words behind it say
abbrev pub Spells : List Word → Action → Type 0
Spells words (actions.Buffer line) = (rest : List Word) × (words ≡ codes "buf" ∷ rest) × IsBuffer rest line
Spells words (actions.Layout line) = (rest : List Word) × (words ≡ codes "type" ∷ rest) × IsLayout rest line
Spells words (actions.Isend request send) =
    (name : Word) × (rest : List Word) × (words ≡ codes "isend" ∷ name ∷ rest) × NamesIt name request ×
    IsSending rest send
Spells words (actions.Issend request send) =
    (name : Word) × (rest : List Word) × (words ≡ codes "issend" ∷ name ∷ rest) × NamesIt name request ×
    IsSending rest send
Spells words (actions.Irecv request receive) =
    (name : Word) × (rest : List Word) × (words ≡ codes "irecv" ∷ name ∷ rest) × NamesIt name request ×
    IsReceiving rest receive
Spells words (actions.Iprobe probe) = (rest : List Word) × (words ≡ codes "iprobe" ∷ rest) × IsProbing rest probe
Spells words (actions.Improbe message probe) =
    (name : Word) × (rest : List Word) × (words ≡ codes "improbe" ∷ name ∷ rest) × NamesIt name message ×
    IsProbing rest probe
Spells words (actions.Mrecv message landing) =
    (name : Word) × (rest : List Word) × (words ≡ codes "mrecv" ∷ name ∷ rest) × NamesIt name message ×
    IsLanding rest landing
Spells words (actions.Wait request) = (word : Word) × (words ≡ codes "wait" ∷ word ∷ []) × IsRequested word request
Spells words (actions.Test request) = (word : Word) × (words ≡ codes "test" ∷ word ∷ []) × IsRequested word request
Spells words (actions.Cancel request) = (word : Word) × (words ≡ codes "cancel" ∷ word ∷ []) × IsRequested word request
Spells words (actions.Waitany requests) = (rest : List Word) × (words ≡ codes "waitany" ∷ rest) ×
    StandFor IsRequested rest requests
Spells words (actions.Waitall requests) = (rest : List Word) × (words ≡ codes "waitall" ∷ rest) ×
    StandFor IsRequested rest requests
Spells words (actions.Barrier communicator) = (word : Word) × (words ≡ codes "barrier" ∷ word ∷ []) ×
    IsCommunicator word communicator
Spells words (actions.Bcast line) = (rest : List Word) × (words ≡ codes "bcast" ∷ rest) × IsBroadcasting rest line
Spells words (actions.Gather line) = (rest : List Word) × (words ≡ codes "gather" ∷ rest) × IsGathering rest line
Spells words (actions.Scatter line) = (rest : List Word) × (words ≡ codes "scatter" ∷ rest) × IsScattering rest line
Spells words (actions.Reduce line) = (rest : List Word) × (words ≡ codes "reduce" ∷ rest) × IsReducing rest line
Spells words (actions.Allreduce line) = (rest : List Word) × (words ≡ codes "allreduce" ∷ rest) ×
    IsReducingToAll rest line
Spells words (actions.Dup new communicator) =
    (name old : Word) × (words ≡ codes "dup" ∷ name ∷ old ∷ []) × NamesIt name new × IsCommunicator old communicator
Spells words (actions.Split new split) =
    (name : Word) × (rest : List Word) × (words ≡ codes "split" ∷ name ∷ rest) × NamesIt name new ×
    IsSplitting rest split
Spells words (actions.Who communicator) =
    (word : Word) × (words ≡ codes "who" ∷ word ∷ []) × IsCommunicator word communicator
Spells words (actions.Members communicator) = (word : Word) × (words ≡ codes "members" ∷ word ∷ []) ×
    IsCommunicator word communicator
Spells words (actions.Compare one other) =
    (first second : Word) × (words ≡ codes "compare" ∷ first ∷ second ∷ []) × IsCommunicator first one ×
    IsCommunicator second other
