-- Reading the words of a line from left to right.
use Rattle.std.specs.Prelude.{ℕ, ◌-◌, ℤ, pos, negsuc, ◌==◌, Bool, true, false, List, [], ◌∷◌, take, drop, slice_index}
use Rattle.std.specs.Prelude.{replicate, codes, Option, Some, None, is_some, if◌then◌else◌, option_map, to_bits}
use Rattle.std.specs.Float.Ieee.{Format, binary32, binary64}
use Rattle.std.specs.List.{position}
use Rattle.std.specs.Str.{bytes_eq}
use Rattle.fast_float.specs.Parse.{parse_float}
use Rattle.vocabulary.specs.BasicTypes.{is_float}
use Rattle.vocabulary.specs.declared.basic_type.BasicType.{BasicType}
use Rattle.vocabulary.specs.declared.basic_type.BasicType.TheVariants.{Float32, Float64}
use Rattle.vocabulary.specs.declared.envelope.Source.{Source}
use Rattle.vocabulary.specs.declared.envelope.Source.TheVariants as sources
use Rattle.vocabulary.specs.declared.operation.Operation.{Operation}
use Rattle.vocabulary.specs.declared.operation.Operation.TheVariants as operations
use Rattle.datatypes.specs.Contents.{Contents}
use Rattle.datatypes.specs.Elements.{number_of_value}
use Rattle.derived_types.specs.declared.block.IndexedBlock.{IndexedBlock}
use Rattle.statements.specs.declared.verb.Verb.{Verb}
use Rattle.statements.specs.declared.verb.Verb.TheVariants as verbs
use Rattle.statements.specs.declared.action.CommunicatorName.{CommunicatorName}
use Rattle.statements.specs.declared.action.CommunicatorName.TheVariants as communicators
use Rattle.statements.specs.declared.action.RequestName.{RequestName}
use Rattle.statements.specs.declared.action.RequestName.TheVariants as requests
use Rattle.statements.specs.declared.action.BufferLine.{BufferLine}
use Rattle.statements.specs.declared.action.LayoutClause.{LayoutClause}
use Rattle.statements.specs.declared.action.Sending.{Sending}
use Rattle.statements.specs.declared.action.Receiving.{Receiving}
use Rattle.statements.specs.declared.action.Probing.{Probing}
use Rattle.statements.specs.declared.action.Landing.{Landing}
use Rattle.statements.specs.declared.action.Splitting.{Splitting}
use Rattle.statements.specs.declared.collective_line.Broadcasting.{Broadcasting}
use Rattle.statements.specs.declared.collective_line.Gathering.{Gathering}
use Rattle.statements.specs.declared.collective_line.Scattering.{Scattering}
use Rattle.statements.specs.declared.collective_line.Reducing.{Reducing}
use Rattle.statements.specs.declared.collective_line.ReducingToAll.{ReducingToAll}
use Rattle.statements.specs.declared.action.Action.{Action}
use Rattle.statements.specs.declared.action.Action.TheVariants as actions
use Rattle.statements.specs.declared.layout_line.OldLayout.{OldLayout}
use Rattle.statements.specs.declared.layout_line.OldLayout.TheVariants as olds
use Rattle.statements.specs.declared.layout_line.LayoutForm.{LayoutForm}
use Rattle.statements.specs.declared.layout_line.LayoutForm.TheVariants as forms
use Rattle.statements.specs.declared.layout_line.LayoutLine.{LayoutLine}
use Rattle.statements.specs.declared.layout_line.Stripes.{Stripes}
use Rattle.statements.specs.declared.layout_reading.FormWord.{FormWord}
use Rattle.statements.specs.declared.layout_reading.FormWord.TheVariants as form_words
use Rattle.statements.specs.Words.{verb_of}
use Rattle.tokens.specs.Grammar.{Word}
use Rattle.tokens.specs.Numbers.{number_up_to, number_or, count_of}
use Rattle.tokens.specs.Words.{basic_type_of}
use Rattle.tokens.specs.Results.{◌>>=◌}
use Rattle.tokens.specs.Fields.{first, end_of_line, name_of, rank_of, large_of, each, one}

-- ---- one word

unfoldable pub communicator_of : Word → Option CommunicatorName
communicator_of word =
    if bytes_eq word (codes "world") then Some communicators.World
    else (if bytes_eq word (codes "self") then Some communicators.Own
    else (name_of word >>= λ name. Some (communicators.Named name)))

-- a communicator, and the name of a buffer
abbrev pub communicator_and_buffer : Word → Word → Option (CommunicatorName × Word)
communicator_and_buffer communicator buffer = communicator_of communicator >>= λ c. name_of buffer >>= λ b. Some (c, b)

unfoldable pub target_of : Word → Option Source
target_of word =
    if bytes_eq word (codes "null") then Some sources.Null
    else (rank_of word >>= λ rank. Some (sources.Rank rank))

unfoldable pub source_of : Word → Option Source
source_of word =
    if bytes_eq word (codes "any") then Some sources.Any
    else (if bytes_eq word (codes "null") then Some sources.Null
    else (rank_of word >>= λ rank. Some (sources.Rank rank)))

unfoldable pub tag_of : Word → Option (Option ℕ)
tag_of word =
    if bytes_eq word (codes "any") then Some None
    else (number_or 4294967295 word >>= λ tag. Some (Some tag))

unfoldable pub requested_of : Word → Option RequestName
requested_of word =
    if bytes_eq word (codes "null") then Some requests.Null
    else (name_of word >>= λ name. Some (requests.Named name))

-- ---- several words

abbrev pub one_request : Word → Option (List RequestName)
one_request word = one requested_of word

-- ---- elements

abbrev pub is_star : ℕ → Bool
is_star byte = byte == 42

-- a number with its sign, where it is no float
abbrev pub integer_of : BasicType → Word → Option ℕ
integer_of basic word =
    if slice_index word 0 == 45
    then (number_up_to 18446744073709551615 (drop 1 word) >>= λ magnitude. number_of_value basic true magnitude)
    else (number_up_to 18446744073709551615 word >>= λ magnitude. number_of_value basic false magnitude)

-- the bits of the float of a format that is nearest to what the word says
abbrev pub float_in : Format → Word → Option ℕ
float_in format word = option_map (to_bits format) (parse_float format word)

-- the same by the type; a word with a star is no float
abbrev pub float_of : BasicType → Word → Option ℕ
float_of Float32 word = if is_some (position is_star word) then None else float_in binary32 word
float_of Float64 word = if is_some (position is_star word) then None else float_in binary64 word
float_of basic word = None

unfoldable pub value_of : BasicType → Word → Option ℕ
value_of basic word = if is_float basic then float_of basic word else integer_of basic word

abbrev pub copies_at : Option ℕ → BasicType → Word → Option (ℕ × ℕ)
copies_at None basic word = value_of basic word >>= λ number. Some (1, number)
copies_at (Some place) basic word =
    value_of basic (drop 1 (drop place word)) >>= λ number. count_of (take place word) >>= λ count. Some (count, number)

-- how many copies, and of which element
unfoldable pub copies_of : BasicType → Word → Option (ℕ × ℕ)
copies_of basic word = copies_at (position is_star word) basic word

abbrev pub elements_of : BasicType → Word → Option (List ℕ)
elements_of basic word = copies_of basic word >>= λ copies. Some (replicate copies.0 copies.1)

-- the buffer of the elements that the words spell
unfoldable pub buffer_with : BasicType → List Word → Option Contents
buffer_with kind words = each (elements_of kind) words >>= λ elements. Some (record { basic = kind; values = elements })

-- ---- the words in front

-- one word, and nothing behind it
abbrev pub one_alone : List Word → Option Word
one_alone words = first words >>= λ one. end_of_line one.1 >>= λ end. Some one.0

-- two words, and the words behind them
abbrev pub first_two : List Word → Option (Word × Word × List Word)
first_two words = first words >>= λ one. first one.1 >>= λ two. Some (one.0, two.0, two.1)

-- two words, and nothing behind them
abbrev pub two_alone : List Word → Option (Word × Word)
two_alone words = first words >>= λ one. first one.1 >>= λ two. end_of_line two.1 >>= λ end. Some (one.0, two.0)

-- four words, and the words behind them
abbrev pub first_four : List Word → Option (Word × Word × Word × Word × List Word)
first_four words = do
  one ← first words
  two ← first one.1
  three ← first two.1
  four ← first three.1
  Some (one.0, two.0, three.0, four.0, four.1)

-- four words, and nothing behind them
abbrev pub four_alone : List Word → Option (Word × Word × Word × Word)
four_alone words = do
  one ← first words
  two ← first one.1
  three ← first two.1
  four ← first three.1
  end ← end_of_line four.1
  Some (one.0, two.0, three.0, four.0)

-- ---- the words behind the first one

unfoldable pub buffer_of : List Word → Option BufferLine
buffer_of words = do
  name ← first words
  basic ← first name.1
  buffer ← name_of name.0
  kind ← basic_type_of basic.0
  contents ← buffer_with kind basic.1
  Some (record { name = buffer; value = contents })

-- `L N`
unfoldable pub behind_as : List Word → Option LayoutClause
behind_as words = do
  layout ← first words
  copies ← first layout.1
  end ← end_of_line copies.1
  l ← name_of layout.0
  n ← large_of copies.0
  Some (record { layout = l; copies = n })

-- `as L N`, or nothing
unfoldable pub through_of : List Word → Option (Option LayoutClause)
through_of [] = Some None
through_of (word ∷ words) = if bytes_eq word (codes "as") then (behind_as words >>= λ through. Some (Some through)) else
    None

-- a communicator, a buffer's name, and what stands behind them
abbrev pub places_of : Word → Word → List Word → Option (CommunicatorName × Word × Option LayoutClause)
places_of communicator buffer words =
    communicator_of communicator >>= λ c. name_of buffer >>= λ b. through_of words >>= λ u. Some (c, b, u)

-- `COMM DEST TAG B`, and what stands behind it
unfoldable pub sending_of : List Word → Option Sending
sending_of words = do
  communicator ← first words
  target ← first communicator.1
  tag ← first target.1
  buffer ← first tag.1
  c ← communicator_of communicator.0
  r ← target_of target.0
  t ← tag_of tag.0
  b ← name_of buffer.0
  u ← through_of buffer.1
  Some (record { communicator = c; target = r; tag = t; buffer = b; through = u })

-- `COMM SRC TAG B`, and what stands behind it
unfoldable pub receiving_of : List Word → Option Receiving
receiving_of words = do
  communicator ← first words
  source ← first communicator.1
  tag ← first source.1
  buffer ← first tag.1
  c ← communicator_of communicator.0
  r ← source_of source.0
  t ← tag_of tag.0
  b ← name_of buffer.0
  u ← through_of buffer.1
  Some (record { communicator = c; source = r; tag = t; buffer = b; through = u })

unfoldable pub isend_of : List Word → Option (Word × Sending)
isend_of words = first words >>= λ request. name_of request.0 >>= λ q. sending_of request.1 >>= λ send. Some (q, send)

unfoldable pub irecv_of : List Word → Option (Word × Receiving)
irecv_of words = first words >>= λ request. name_of request.0 >>= λ q. receiving_of request.1 >>= λ receive. Some
    (q, receive)

-- `COMM SRC TAG`
unfoldable pub probing_of : List Word → Option Probing
probing_of words = do
  communicator ← first words
  source ← first communicator.1
  tag ← first source.1
  end ← end_of_line tag.1
  c ← communicator_of communicator.0
  r ← source_of source.0
  t ← tag_of tag.0
  Some (record { communicator = c; source = r; tag = t })

-- `B`, and what stands behind it
unfoldable pub landing_of : List Word → Option Landing
landing_of words = do
  buffer ← first words
  b ← name_of buffer.0
  u ← through_of buffer.1
  Some (record { buffer = b; through = u })

unfoldable pub improbe_of : List Word → Option (Word × Probing)
improbe_of words =
    first words >>= λ message. name_of message.0 >>= λ m. probing_of message.1 >>= λ probe. Some (m, probe)

unfoldable pub mrecv_of : List Word → Option (Word × Landing)
mrecv_of words =
    first words >>= λ message. name_of message.0 >>= λ m. landing_of message.1 >>= λ landing. Some (m, landing)

unfoldable pub one_of : List Word → Option RequestName
one_of words = first words >>= λ request. end_of_line request.1 >>= λ end. requested_of request.0

-- ---- layouts

-- how the word says that a layout is made
unfoldable pub form_word_of : Word → Option FormWord
form_word_of word =
    if bytes_eq word (codes "contiguous") then Some form_words.Contiguous
    else (if bytes_eq word (codes "vector") then Some form_words.Vector
    else (if bytes_eq word (codes "indexed") then Some form_words.Indexed
    else None))

abbrev pub old_by : Option BasicType → Word → Option OldLayout
old_by (Some basic) word = Some (olds.Basic basic)
old_by None word = name_of word >>= λ name. Some (olds.Named name)

-- a type, or the name of a layout
unfoldable pub old_of : Word → Option OldLayout
old_of word = old_by (basic_type_of word) word

abbrev pub is_colon : ℕ → Bool
is_colon byte = byte == 58

abbrev pub block_at : Option ℕ → Word → Option IndexedBlock
block_at None word = None
block_at (Some place) word =
    large_of (take place word) >>= λ many. large_of (drop 1 (drop place word)) >>= λ far. Some
    (record { length = many; displacement = far })

-- `LEN:DISP`
unfoldable pub block_of : Word → Option IndexedBlock
block_of word = block_at (position is_colon word) word

abbrev pub one_block : Word → Option (List IndexedBlock)
one_block word = one block_of word

-- the words before the last one, and the last one
unfoldable pub last : List Word → Option (List Word × Word)
last [] = None
last (word ∷ []) = Some ([], word)
last (word ∷ next ∷ words) = last (next ∷ words) >>= λ split. Some (word ∷ split.0, split.1)

-- `N OLD`
unfoldable pub contiguous_of : List Word → Option (LayoutForm × OldLayout)
contiguous_of words = do
  count ← first words
  old ← first count.1
  end ← end_of_line old.1
  n ← large_of count.0
  o ← old_of old.0
  Some (forms.Contiguous n, o)

-- `C B S`
abbrev pub stripes_of : Word → Word → Word → Option Stripes
stripes_of count blocklength stride =
    large_of count >>= λ c. large_of blocklength >>= λ b. large_of stride >>= λ s. Some
    (record { count = c; blocklength = b; stride = s })

-- `C B S OLD`
unfoldable pub vector_of : List Word → Option (LayoutForm × OldLayout)
vector_of words = do
  count ← first words
  blocklength ← first count.1
  stride ← first blocklength.1
  old ← first stride.1
  end ← end_of_line old.1
  c ← large_of count.0
  b ← large_of blocklength.0
  s ← large_of stride.0
  o ← old_of old.0
  Some (forms.Vector (record { count = c; blocklength = b; stride = s }), o)

-- `LEN:DISP .. OLD`
unfoldable pub indexed_of : List Word → Option (LayoutForm × OldLayout)
indexed_of words =
    last words >>= λ split. old_of split.1 >>= λ o. each one_block split.0 >>= λ blocks. Some (forms.Indexed blocks, o)

-- what stands behind the word that says how the layout is made
abbrev pub formed_by : FormWord → List Word → Option (LayoutForm × OldLayout)
formed_by form_words.Contiguous words = contiguous_of words
formed_by form_words.Vector words = vector_of words
formed_by form_words.Indexed words = indexed_of words

-- a name, and how the layout of this name is made
unfoldable pub layout_of : List Word → Option LayoutLine
layout_of words = do
  name ← first words
  form ← first name.1
  n ← name_of name.0
  f ← form_word_of form.0
  made ← formed_by f form.1
  Some (record { name = n; form = made.0; made_of = made.1 })

-- ---- communicators

-- none is `undefined`
unfoldable pub colour_of : Word → Option (Option ℕ)
colour_of word =
    if bytes_eq word (codes "undefined") then Some None
    else (number_up_to 4294967295 word >>= λ colour. Some (Some colour))

-- the key of this magnitude that isn't above zero
abbrev pub key_below : ℕ → ℤ
key_below magnitude = if magnitude == 0 then pos 0 else negsuc (magnitude - 1)

-- a number of 32 bits with its sign
unfoldable pub key_of : Word → Option ℤ
key_of word =
    if slice_index word 0 == 45
    then (number_up_to 2147483648 (drop 1 word) >>= λ magnitude. Some (key_below magnitude))
    else (number_up_to 2147483647 word >>= λ magnitude. Some (pos magnitude))

-- one communicator, and nothing behind it
unfoldable pub communicator_alone : List Word → Option CommunicatorName
communicator_alone words =
    first words >>= λ communicator. end_of_line communicator.1 >>= λ end. communicator_of communicator.0

-- `COMM COMM`
unfoldable pub two_communicators : List Word → Option (CommunicatorName × CommunicatorName)
two_communicators words = do
  one ← first words
  other ← first one.1
  end ← end_of_line other.1
  c ← communicator_of one.0
  d ← communicator_of other.0
  Some (c, d)

-- a new name, and a communicator
abbrev pub name_and_communicator : Word → Word → Option (Word × CommunicatorName)
name_and_communicator name communicator = name_of name >>= λ n. communicator_of communicator >>= λ c. Some (n, c)

-- `NEW COMM`
unfoldable pub dup_of : List Word → Option (Word × CommunicatorName)
dup_of words = do
  name ← first words
  communicator ← first name.1
  end ← end_of_line communicator.1
  n ← name_of name.0
  c ← communicator_of communicator.0
  Some (n, c)

-- `NEW COMM COLOUR KEY`
unfoldable pub split_of : List Word → Option (Word × Splitting)
split_of words = do
  name ← first words
  communicator ← first name.1
  colour ← first communicator.1
  key ← first colour.1
  end ← end_of_line key.1
  n ← name_of name.0
  c ← communicator_of communicator.0
  o ← colour_of colour.0
  k ← key_of key.0
  Some (n, record { communicator = c; colour = o; key = k })

-- ---- collectives that move elements

-- the operation that the word names
unfoldable pub operation_of : Word → Option Operation
operation_of word =
    if bytes_eq word (codes "max") then Some operations.Max
    else (if bytes_eq word (codes "min") then Some operations.Min
    else (if bytes_eq word (codes "sum") then Some operations.Sum
    else (if bytes_eq word (codes "prod") then Some operations.Prod
    else (if bytes_eq word (codes "land") then Some operations.Land
    else (if bytes_eq word (codes "lor") then Some operations.Lor
    else (if bytes_eq word (codes "lxor") then Some operations.Lxor
    else (if bytes_eq word (codes "band") then Some operations.Band
    else (if bytes_eq word (codes "bor") then Some operations.Bor
    else (if bytes_eq word (codes "bxor") then Some operations.Bxor
    else (if bytes_eq word (codes "affine") then Some operations.Affine
    else None))))))))))

-- a buffer's name, or `-`
unfoldable pub block_from : Word → Option (Option Word)
block_from word =
    if bytes_eq word (codes "-") then Some None
    else (name_of word >>= λ name. Some (Some name))

-- a communicator, and the names of two buffers
abbrev pub communicator_and_two : Word → Word → Word → Option (CommunicatorName × Word × Word)
communicator_and_two communicator buffer into =
    communicator_of communicator >>= λ c. name_of buffer >>= λ b. name_of into >>= λ i. Some (c, b, i)

-- `COMM ROOT B`
unfoldable pub bcast_of : List Word → Option Broadcasting
bcast_of words = do
  communicator ← first words
  root ← first communicator.1
  buffer ← first root.1
  end ← end_of_line buffer.1
  c ← communicator_of communicator.0
  r ← rank_of root.0
  b ← name_of buffer.0
  Some (record { communicator = c; root = r; buffer = b })

-- `COMM ROOT B INTO`
unfoldable pub gather_of : List Word → Option Gathering
gather_of words = do
  communicator ← first words
  root ← first communicator.1
  buffer ← first root.1
  into ← first buffer.1
  end ← end_of_line into.1
  c ← communicator_of communicator.0
  r ← rank_of root.0
  b ← name_of buffer.0
  i ← name_of into.0
  Some (record { communicator = c; root = r; buffer = b; into = i })

-- `COMM ROOT B INTO`, where B may be `-`
unfoldable pub scatter_of : List Word → Option Scattering
scatter_of words = do
  communicator ← first words
  root ← first communicator.1
  buffer ← first root.1
  into ← first buffer.1
  end ← end_of_line into.1
  c ← communicator_of communicator.0
  r ← rank_of root.0
  b ← block_from buffer.0
  i ← name_of into.0
  Some (record { communicator = c; root = r; buffer = b; into = i })

-- `COMM ROOT OP B INTO`
unfoldable pub reduce_of : List Word → Option Reducing
reduce_of words = do
  communicator ← first words
  root ← first communicator.1
  operation ← first root.1
  buffer ← first operation.1
  into ← first buffer.1
  end ← end_of_line into.1
  c ← communicator_of communicator.0
  r ← rank_of root.0
  o ← operation_of operation.0
  b ← name_of buffer.0
  i ← name_of into.0
  Some (record { communicator = c; root = r; operation = o; buffer = b; into = i })

-- `COMM OP B INTO`
unfoldable pub allreduce_of : List Word → Option ReducingToAll
allreduce_of words = do
  communicator ← first words
  operation ← first communicator.1
  buffer ← first operation.1
  into ← first buffer.1
  end ← end_of_line into.1
  c ← communicator_of communicator.0
  o ← operation_of operation.0
  b ← name_of buffer.0
  i ← name_of into.0
  Some (record { communicator = c; operation = o; buffer = b; into = i })

-- ---- all that ranks do, by the first word

abbrev pub action_by : Verb → List Word → Option Action
action_by verbs.Buffer words = buffer_of words >>= λ line. Some (actions.Buffer line)
action_by verbs.Layout words = layout_of words >>= λ line. Some (actions.Layout line)
action_by verbs.Isend words = isend_of words >>= λ made. Some (actions.Isend made.0 made.1)
action_by verbs.Issend words = isend_of words >>= λ made. Some (actions.Issend made.0 made.1)
action_by verbs.Irecv words = irecv_of words >>= λ made. Some (actions.Irecv made.0 made.1)
action_by verbs.Iprobe words = probing_of words >>= λ probe. Some (actions.Iprobe probe)
action_by verbs.Improbe words = improbe_of words >>= λ made. Some (actions.Improbe made.0 made.1)
action_by verbs.Mrecv words = mrecv_of words >>= λ made. Some (actions.Mrecv made.0 made.1)
action_by verbs.Wait words = one_of words >>= λ request. Some (actions.Wait request)
action_by verbs.Test words = one_of words >>= λ request. Some (actions.Test request)
action_by verbs.Cancel words = one_of words >>= λ request. Some (actions.Cancel request)
action_by verbs.Waitany words = each one_request words >>= λ requests. Some (actions.Waitany requests)
action_by verbs.Waitall words = each one_request words >>= λ requests. Some (actions.Waitall requests)
action_by verbs.Barrier words = communicator_alone words >>= λ communicator. Some (actions.Barrier communicator)
action_by verbs.Bcast words = bcast_of words >>= λ line. Some (actions.Bcast line)
action_by verbs.Gather words = gather_of words >>= λ line. Some (actions.Gather line)
action_by verbs.Scatter words = scatter_of words >>= λ line. Some (actions.Scatter line)
action_by verbs.Reduce words = reduce_of words >>= λ line. Some (actions.Reduce line)
action_by verbs.Allreduce words = allreduce_of words >>= λ line. Some (actions.Allreduce line)
action_by verbs.Dup words = dup_of words >>= λ made. Some (actions.Dup made.0 made.1)
action_by verbs.Split words = split_of words >>= λ made. Some (actions.Split made.0 made.1)
action_by verbs.Who words = communicator_alone words >>= λ communicator. Some (actions.Who communicator)
action_by verbs.Members words = communicator_alone words >>= λ communicator. Some (actions.Members communicator)
action_by verbs.Compare words = two_communicators words >>= λ named. Some (actions.Compare named.0 named.1)

-- what a rank does, which the words spell
unfoldable pub action_of : List Word → Option Action
action_of words = first words >>= λ verb. verb_of verb.0 >>= λ v. action_by v verb.1
