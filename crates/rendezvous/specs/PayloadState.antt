-- The payloads that a rank announced and those that come to it, and what each step does to them.
use Rattle.std.specs.Prelude.{ℕ, ◌==◌, not, Bool, false, List, [], ◌∷◌, ◌++◌, Option, Some, None, position, insert}
use Rattle.std.specs.Prelude.{remove, filter, slice_get, slice_set, slice_index_or, if◌then◌else◌}
use Rattle.vocabulary.specs.MessageLimits.{least}
use Rattle.rendezvous.specs.Payloads.{Announced, Coming, Taken, Whole, is_from, is_to, is_whole}
use Rattle.rendezvous.specs.Payloads.{is_next_data, whole_of, with_piece}

-- the oldest first
pub record State : Type 0 where
  pub announced : List Announced
  pub coming : List Coming

-- the same, and for how many more of each there is memory
pub record Held : Type 0 where
  pub state : State
  pub more_announced : ℕ
  pub more_coming : ℕ

-- none of either
abbrev pub opening : State
opening = record { announced = []; coming = [] }

-- ---- payloads that were announced

-- the place of the transfer to a rank that has this number, where it was announced
abbrev pub place_to : (target transfer : ℕ) → List Announced → Option ℕ
place_to target transfer ps = position (is_to target transfer) ps

-- the payload at a place, where one was found
abbrev pub announced_at : List Announced → Option ℕ → Option Announced
announced_at ps (Some i) = slice_get ps i
announced_at ps None = None

-- the payload of this transfer, where it was announced and no answer has come
abbrev pub announced_to : State → (rank transfer : ℕ) → Option Announced
announced_to s rank transfer = announced_at s.announced (place_to rank transfer s.announced)

-- the others
abbrev pub without : List Announced → Option ℕ → List Announced
without ps (Some i) = remove ps i
without ps None = ps

-- ---- payloads that come

-- the place of the transfer from a rank that has this number, where it comes
abbrev pub place_from : (source transfer : ℕ) → List Coming → Option ℕ
place_from source transfer cs = position (is_from source transfer) cs

-- the payload at a place, where one was found
abbrev pub coming_at : List Coming → Option ℕ → Option Coming
coming_at cs (Some i) = slice_get cs i
coming_at cs None = None

-- the payload of this transfer, where it comes
abbrev pub coming_from : State → (rank transfer : ℕ) → Option Coming
coming_from s rank transfer = coming_at s.coming (place_from rank transfer s.coming)

-- whether the bytes are the next piece of what was found
abbrev pub is_taken : Option Coming → (offset : ℕ) → List ℕ → Bool
is_taken None offset piece = false
is_taken (Some c) offset piece = is_next_data c offset piece

-- whether the bytes are the next piece of this transfer
abbrev pub is_due : State → (rank transfer offset : ℕ) → List ℕ → Bool
is_due s rank transfer offset piece = is_taken (coming_from s rank transfer) offset piece

-- a payload is handed out once it is whole
abbrev pub handed_out : Coming → Option Whole
handed_out c = if is_whole c then Some (whole_of c) else None

-- what was found is whole with this piece, or nothing is
abbrev pub whole_by : Option Coming → List ℕ → Option Whole
whole_by None piece = None
whole_by (Some c) piece = handed_out (with_piece c piece)

-- the payload of this transfer, where it is whole with this piece
abbrev pub whole_with : State → (rank transfer : ℕ) → List ℕ → Option Whole
whole_with s rank transfer piece = whole_by (coming_from s rank transfer) piece

-- stands for a payload where there is none
abbrev pub blank : Coming
blank = record { limit = least; source = 0; transfer = 0; context = 0; number = 0; total = 0; bytes = [] }

-- the payload at a place, with one more piece
abbrev pub grown_at : List Coming → (place : ℕ) → List ℕ → Coming
grown_at cs place piece = with_piece (slice_index_or cs place blank) piece

-- what stood at this place is this now; once it is whole it is gone
abbrev pub put_back : List Coming → (place : ℕ) → Coming → List Coming
put_back cs place c = if is_whole c then remove cs place else slice_set cs place c

-- those that come once the piece has come for that at a place
abbrev pub with_data_at : List Coming → Option ℕ → List ℕ → List Coming
with_data_at cs (Some i) piece = put_back cs i (grown_at cs i piece)
with_data_at cs None piece = cs

-- ---- steps

-- payloads are announced
abbrev pub after_announcing : State → List Announced → State
after_announcing s ps = record s { announced = s.announced ++ ps }

-- a transfer is answered: it isn't kept any more
abbrev pub after_answer : State → (rank transfer : ℕ) → State
after_answer s rank transfer = record s { announced = without s.announced (place_to rank transfer s.announced) }

-- a payload begins to come
abbrev pub after_begin : State → Coming → State
after_begin s c = record s { coming = s.coming ++ c ∷ [] }

-- the next piece of a transfer has come
abbrev pub after_data : State → (rank transfer : ℕ) → List ℕ → State
after_data s rank transfer piece = record s { coming = with_data_at s.coming (place_from rank transfer s.coming) piece }

-- a payload that was taken out with its last piece stands again where it stood, as it was before that piece
abbrev pub after_return : State → Taken → State
after_return s t = record s { coming = insert s.coming t.place t.before }

-- a rank is known at a new incarnation: what was announced to it and what comes from it is gone
abbrev pub after_drop : State → (rank : ℕ) → State
after_drop s rank = record {
  announced = filter (λ (a : Announced). not (a.target == rank)) s.announced;
  coming = filter (λ (c : Coming). not (c.source == rank)) s.coming;
}
