-- Runs: copies of them, runs that go on with one another, and rows of them.
use Rattle.std.proofs.Common.{◌≡◌, ℕ, zero, suc, ◌+◌, ◌*◌, ◌<◌, ◌==◌, refl, sym, ◌∙◌, ap, subst, List, [], ◌∷◌}
use Rattle.std.proofs.Common.{◌++◌}
use Rattle.std.proofs.Common.{length, take, set, get_or, arith, if◌then◌else◌}
use Rattle.std.proofs.Math.IntN.{ℤ, pos, ◌+ℤ◌, ◌*ℤ◌, *ℤ-one, one}
use Rattle.std.proofs.lemmas.Int.{ints}
use Rattle.std.proofs.lemmas.List.{append-nil, append_assoc, map-append, take_more, take_more_set}
use Rattle.std.proofs.lemmas.List.Concat.{flat_map-append}
use Rattle.type_maps.specs.declared.places.Places.{Places}
use Rattle.type_maps.specs.Maps.{copied_numbers, moved_numbers, places, places_of, row}
use Rattle.type_maps.specs.Refusals.{Fits}
use Rattle.type_maps.proofs.EntryLaws.{entries_have_bytes}
use Rattle.type_maps.proofs.PlaceLaws.{copied_numbers_append, moved_number_copies, places_append, places_moved}
use Rattle.type_runs.specs.declared.records.RunRecord.{RunRecord}
use Rattle.type_runs.specs.Runs.{Are, AreLong, Bodies, Is, MayMove, bytes_of_runs, piece, run_bytes, run_places}

-- ---- copies

pub number_copies : (ps qs xs : List ℤ) → copied_numbers ps (copied_numbers qs xs) ≡ copied_numbers (copied_numbers ps
    qs) xs
number_copies [] qs xs = refl
number_copies (p ∷ ps) qs xs =
    (λ t. moved_number_copies p qs xs t ++ number_copies ps qs xs t) ∙
    sym (copied_numbers_append (moved_numbers p qs) (copied_numbers ps qs) xs)

-- pieces of one form at the places of copies
pub at_places : (bodies : Bodies) (r : RunRecord) (p q : Places) (bytes : List ℤ) → Is bodies r bytes →
    copied_numbers (places_of p) (places_of (run_places r)) ≡ places_of q →
    Is bodies (record r { at = q.at; count = q.count; stride = q.stride }) (copied_numbers (places_of p) bytes)
at_places bodies r p q bytes is same = record {
  bytes_are = ap (λ ps. copied_numbers ps (piece bodies r)) (sym same) ∙
      sym (number_copies (places_of p) (places_of (run_places r)) (piece bodies r)) ∙
      ap (copied_numbers (places_of p)) is.bytes_are;
  long = is.long;
}

pub copied_run : (bodies : Bodies) (r s t : RunRecord) (p q : Places) (bytes : List ℤ) → Is bodies r bytes →
    copied_numbers (places_of p) (places_of (run_places r)) ≡ places_of q →
    s ≡ record r { at = q.at; count = q.count; stride = q.stride } →
    ((b : Bodies) (x : List ℤ) → Is b s x → Is b t x) →
    Is bodies t (copied_numbers (places_of p) bytes)
copied_run bodies r s t p q bytes is same si f =
    f bodies (copied_numbers (places_of p) bytes) (subst (λ (x : RunRecord). Is bodies x (copied_numbers (places_of p)
    bytes)) (sym si) (at_places bodies r p q bytes is same))

-- ---- rows

pub length_places : (a : ℤ) (n : ℕ) (s : ℤ) → length (places a n s) ≡ n
length_places a zero s = refl
length_places a (suc n) s = ap suc (length_places (a +ℤ s) n s)

at_zero : (at : ℤ) → at +ℤ pos 0 ≡ at
at_zero at = omega (arith, ints)

-- one copy of a row is the row
one_row_copied : (at s : ℤ) (n : ℕ) → copied_numbers (places at 1 s) (row (pos 0) n) ≡ row at n
one_row_copied at s n =
    append-nil (moved_numbers at (row (pos 0) n)) ∙ places_moved at (pos 0) n (pos 1) ∙ ap (λ x. row x n) (at_zero at)

row_piece : (bodies : Bodies) (r : RunRecord) → r.body ≡ 0 → piece bodies r ≡ row (pos 0) r.length
row_piece bodies r none = ap (λ b. if b == 0 then row (pos 0) r.length else bodies b) none

-- rows that touch are one row
pub as_one_row : (bodies : Bodies) (r s : RunRecord) (bytes : List ℤ) → r.body ≡ 0 → r.stride ≡ pos r.length →
    s.at ≡ r.at → s.length ≡ r.count * r.length → s.count ≡ 1 → s.body ≡ 0 →
    Is bodies r bytes → Is bodies s bytes
as_one_row bodies r s bytes none touch at length_is count body is = record {
  bytes_are = (λ t. copied_numbers (places (at t) (count t) s.stride) (row_piece bodies s body t)) ∙
      one_row_copied r.at s.stride s.length ∙ ap (row r.at) length_is ∙
      sym (entries_have_bytes.one_row r.at r.count r.length) ∙
      (λ t. copied_numbers (places r.at r.count (sym touch t)) (sym (row_piece bodies r none) t)) ∙
      is.bytes_are;
  long = ap length (row_piece bodies s body) ∙ length_places (pos 0) s.length (pos 1);
}

-- two rows of which the second begins where the first ends
pub row_behind_row : (bodies : Bodies) (r s t : RunRecord) (bytes more : List ℤ) → r.body ≡ 0 → s.body ≡ 0 → r.count ≡
    1 → s.count ≡ 1 → s.at ≡ r.at +ℤ pos r.length → t.at ≡ r.at → t.length ≡ r.length + s.length → t.count ≡ 1 →
    t.body ≡ 0 → Is bodies r bytes → Is bodies s more → Is bodies t (bytes ++ more)
unfolding one
row_behind_row bodies r s t bytes more rb sb rc sc next at length_is count body a b = record {
  bytes_are = (λ i. copied_numbers (places (at i) (count i) t.stride) (row_piece bodies t body i)) ∙
      one_row_copied r.at t.stride t.length ∙ ap (row r.at) length_is ∙
      places_append r.length s.length r.at (pos 1) ∙
      (λ i. row r.at r.length ++ row (behind i) s.length) ∙
      (λ i. sym (first r rb rc) i ++ sym (first s sb sc) i) ∙
      (λ i. a.bytes_are i ++ b.bytes_are i);
  long = ap length (row_piece bodies t body) ∙ length_places (pos 0) t.length (pos 1);
}
  where
    by_one : pos r.length *ℤ pos 1 ≡ pos r.length
    by_one = *ℤ-one (pos r.length)

    behind : r.at +ℤ (pos r.length *ℤ pos 1) ≡ s.at
    behind = ap (λ x. r.at +ℤ x) by_one ∙ sym next

    first : (x : RunRecord) → x.body ≡ 0 → x.count ≡ 1 → run_bytes bodies x ≡ row x.at x.length
    first x xb xc =
        (λ i. copied_numbers (places x.at (xc i) x.stride) (row_piece bodies x xb i)) ∙
        one_row_copied x.at x.stride x.length

-- ---- pieces of one form, of which the second ones begin where the next one of the first would
pub goes_on : (bodies : Bodies) (r s t : RunRecord) (bytes more : List ℤ) → r.length ≡ s.length → r.body ≡ s.body →
    places r.at r.count r.stride ≡ places r.at r.count t.stride → places s.at s.count s.stride ≡ places s.at s.count
    t.stride →
    s.at ≡ r.at +ℤ (pos r.count *ℤ t.stride) → t.at ≡ r.at → t.count ≡ r.count + s.count → t.length ≡ r.length →
    t.body ≡ r.body → Is bodies r bytes → Is bodies s more → Is bodies t (bytes ++ more)
goes_on bodies r s t bytes more same_length same_body rp sp next at count length_is body a b = record {
  bytes_are =
      (λ i. copied_numbers (places (at i) (count i) t.stride) (piece_is i)) ∙
      ap (λ ps. copied_numbers ps (piece bodies r)) (places_append r.count s.count r.at t.stride) ∙
      copied_numbers_append (places r.at r.count t.stride) (places (r.at +ℤ (pos r.count *ℤ t.stride)) s.count t.stride)
      (piece bodies r) ∙
      (λ i. copied_numbers (sym rp i) (piece bodies r) ++ copied_numbers (places (sym next i) s.count t.stride) (other
      i)) ∙
      (λ i. run_bytes bodies r ++ copied_numbers (sym sp i) (piece bodies s)) ∙
      (λ i. a.bytes_are i ++ b.bytes_are i);
  long = ap length piece_is ∙ a.long ∙ sym length_is;
}
  where
    piece_of : ℕ → ℕ → List ℤ
    piece_of n l = if n == 0 then row (pos 0) l else bodies n

    piece_is : piece bodies t ≡ piece bodies r
    piece_is = λ i. piece_of (body i) (length_is i)

    other : piece bodies r ≡ piece bodies s
    other = λ i. piece_of (same_body i) (same_length i)

-- ---- moved

pub moved_run : (bodies : Bodies) (by : ℤ) (r s : RunRecord) (bytes : List ℤ) → s.at ≡ by +ℤ r.at →
    s.length ≡ r.length →
    s.count ≡ r.count → s.stride ≡ r.stride → s.body ≡ r.body → Is bodies r bytes → Is bodies s (moved_numbers by bytes)
moved_run bodies by r s bytes at length_is count stride body is = record {
  bytes_are =
      (λ t. copied_numbers (places (at t) (count t) (stride t)) (piece_of (body t) (length_is t))) ∙
      ap (λ ps. copied_numbers ps (piece bodies r)) (sym (places_moved by r.at r.count r.stride)) ∙
      sym (moved_number_copies by (places_of (run_places r)) (piece bodies r)) ∙ ap (moved_numbers by)
      is.bytes_are;
  long = (λ t. length (piece_of (body t) (length_is t))) ∙ is.long ∙ sym length_is;
}
  where
    piece_of : ℕ → ℕ → List ℤ
    piece_of n l = if n == 0 then row (pos 0) l else bodies n

-- one place, however far the next one would be
pub one_place : (a : ℤ) (n : ℕ) (s t : ℤ) → n ≡ 1 → places a n s ≡ places a n t
one_place a n s t one = ap (λ k. places a k s) one ∙ sym (ap (λ k. places a k t) one)

-- ---- lists of runs

long_append : (bodies : Bodies) (xs ys : List RunRecord) → AreLong bodies xs → AreLong bodies ys →
    AreLong bodies (xs ++ ys)
long_append bodies [] ys h k = k
long_append bodies (x ∷ xs) ys h k = (h.0, long_append bodies xs ys h.1 k)

long_first : (bodies : Bodies) (xs ys : List RunRecord) → AreLong bodies (xs ++ ys) → AreLong bodies xs
long_first bodies [] ys h = tt
long_first bodies (x ∷ xs) ys h = (h.0, long_first bodies xs ys h.1)

long_last : (bodies : Bodies) (xs ys : List RunRecord) → AreLong bodies (xs ++ ys) → AreLong bodies ys
long_last bodies [] ys h = h
long_last bodies (x ∷ xs) ys h = long_last bodies xs ys h.1

pub runs_append : (bodies : Bodies) (xs ys : List RunRecord) → bytes_of_runs bodies (xs ++ ys) ≡ bytes_of_runs bodies xs
    ++ bytes_of_runs bodies ys
runs_append bodies xs ys = flat_map-append (run_bytes bodies) xs ys

pub one_more : (bodies : Bodies) (xs : List RunRecord) (r : RunRecord) (bytes more : List ℤ) → Are bodies xs bytes →
    Is bodies r more → Are bodies (xs ++ r ∷ []) (bytes ++ more)
one_more bodies xs r bytes more a b = record {
  bytes_are = runs_append bodies xs (r ∷ []) ∙ (λ t. a.bytes_are t ++ append-nil (run_bytes bodies r) t) ∙
      ap (λ ys. bytes ++ ys) b.bytes_are;
  long = long_append bodies xs (r ∷ []) a.long (b.long, tt);
}

-- the runs are what comes before the last one, and that one
pub last_apart : (bodies : Bodies) (xs : List RunRecord) (r : RunRecord) (bytes : List ℤ) → Are bodies (xs ++ r ∷ [])
    bytes →
    Are bodies xs (bytes_of_runs bodies xs) × (Is bodies r (run_bytes bodies r) × (bytes ≡ bytes_of_runs bodies xs ++
    run_bytes bodies r))
last_apart bodies xs r bytes a = (
  record { bytes_are = refl; long = long_first bodies xs (r ∷ []) a.long },
  (
    record { bytes_are = refl; long = (long_last bodies xs (r ∷ []) a.long).0 },
    sym a.bytes_are ∙ runs_append bodies xs (r ∷ []) ∙
        (λ t. bytes_of_runs bodies xs ++ append-nil (run_bytes bodies r) t),
  ),
)

-- the last of the first runs is joined with what comes behind it
pub last_joined : (bodies : Bodies) (row : List RunRecord) (last : ℕ) (d r s : RunRecord) (bytes more : List ℤ) →
    last < length row → Are bodies (take (last + 1) row) bytes → Is bodies s more →
    ((b : Bodies) (x y : List ℤ) → Is b (get_or row last d) x → Is b s y → Is b r (x ++ y)) →
    Are bodies (take (last + 1) (set row last r)) (bytes ++ more)
last_joined bodies row last d r s bytes more less a b f =
    let parts = last_apart bodies (take last row) (get_or row last d) bytes
    (subst (λ (xs : List RunRecord). Are bodies xs bytes) (take_more row last d less) a) in
    let all = one_more bodies (take last row) r (bytes_of_runs bodies (take last row))
    (run_bytes bodies (get_or row last d) ++ more) parts.0
    (f bodies (run_bytes bodies (get_or row last d)) more parts.1.0 b) in
    let bytes_are : bytes_of_runs bodies (take last row) ++ (run_bytes bodies (get_or row last d) ++ more) ≡
    bytes ++ more =
    sym (append_assoc (bytes_of_runs bodies (take last row)) (run_bytes bodies (get_or row last d)) more) ∙
    ap (λ xs. xs ++ more) (sym parts.1.1) in
    subst (λ (xs : List RunRecord). Are bodies xs (bytes ++ more)) (sym (take_more_set row last r less))
    (subst (λ (x : List ℤ). Are bodies (take last row ++ r ∷ []) x) bytes_are all)

-- a run behind the first ones
pub put_behind : (bodies : Bodies) (row : List RunRecord) (used : ℕ) (r : RunRecord) (bytes more : List ℤ) →
    used < length row → Are bodies (take used row) bytes → Is bodies r more →
    Are bodies (take (used + 1) (set row used r)) (bytes ++ more)
put_behind bodies row used r bytes more less a b =
    subst (λ (xs : List RunRecord). Are bodies xs (bytes ++ more)) (sym (take_more_set row used r less))
    (one_more bodies (take used row) r bytes more a b)

-- the only run of one
pub only_one : (bodies : Bodies) (xs : List RunRecord) (d : RunRecord) (bytes : List ℤ) → length xs ≡ 1 → Are bodies xs
    bytes → Is bodies (get_or xs 0 d) bytes
only_one bodies [] d bytes one a = absurd (omega (arith, one))
only_one bodies (x ∷ []) d bytes one a = record {
  bytes_are = sym (append-nil (run_bytes bodies x)) ∙ a.bytes_are;
  long = a.long.0;
}
only_one bodies (x ∷ y ∷ ys) d bytes one a = absurd (omega (arith, one))

-- runs that are moved, one after the other
pub one_more_moved : (bodies : Bodies) (start runs done after : List RunRecord) (i : ℕ) (d s : RunRecord) (by : ℤ)
    (bytes more : List ℤ) → i < length runs →
    ((x y : List ℤ) → Are bodies start x → Are bodies (take i runs) y → Are bodies done (x ++ moved_numbers by y)) →
    ((x : List ℤ) → Is bodies (get_or runs i d) x → Is bodies s (moved_numbers by x)) →
    ((x y : List ℤ) → Are bodies done x → Is bodies s y → Are bodies after (x ++ y)) →
    Are bodies start bytes → Are bodies (take (i + 1) runs) more → Are bodies after (bytes ++ moved_numbers by more)
one_more_moved bodies start runs done after i d s by bytes more less before moves puts a b =
    let parts = last_apart bodies (take i runs) (get_or runs i d) more
    (subst (λ (xs : List RunRecord). Are bodies xs more) (take_more runs i d less) b) in
    let first = bytes_of_runs bodies (take i runs) in let last = run_bytes bodies (get_or runs i d) in
    let all = puts (bytes ++ moved_numbers by first) (moved_numbers by last) (before bytes first a parts.0)
    (moves last parts.1.0) in
    subst (λ (x : List ℤ). Are bodies after x)
    (append_assoc bytes (moved_numbers by first) (moved_numbers by last) ∙
    ap (λ xs. bytes ++ xs) (sym (map-append (λ x. by +ℤ x) first last) ∙ ap (moved_numbers by) (sym parts.1.1))) all

pub none_moved : (bodies : Bodies) (row : List RunRecord) (by : ℤ) (bytes more : List ℤ) →
    Are bodies row bytes → Are bodies []
    more → Are bodies row (bytes ++ moved_numbers by more)
none_moved bodies row by bytes more a b =
    subst (λ (xs : List ℤ). Are bodies row xs) (sym (ap (λ xs. bytes ++ moved_numbers by xs) (sym b.bytes_are) ∙
    append-nil bytes)) a

pub may_move_more : (by : ℤ) (xs : List RunRecord) (i : ℕ) (d : RunRecord) → i < length xs → MayMove by (take i xs) →
    Fits (by +ℤ (get_or xs i d).at) → MayMove by (take (i + 1) xs)
may_move_more by xs i d less h f = subst (λ (ys : List RunRecord). MayMove by ys) (sym (take_more xs i d less))
    (behind (take i xs) (get_or xs i d) h f)
  where
    behind : (ys : List RunRecord) (y : RunRecord) → MayMove by ys → Fits (by +ℤ y.at) → MayMove by (ys ++ y ∷ [])
    behind [] y h f = (f, tt)
    behind (x ∷ ys) y h f = (h.0, behind ys y h.1 f)

pub may_move_at : (by : ℤ) (xs : List RunRecord) (i : ℕ) (d : RunRecord) → i < length xs → MayMove by xs →
    Fits (by +ℤ (get_or xs i d).at)
may_move_at by [] i d less h = absurd (omega arith)
may_move_at by (x ∷ xs) zero d less h = h.0
may_move_at by (x ∷ xs) (suc i) d less h = let g : i < length xs = omega arith in may_move_at by xs i d g h.1
