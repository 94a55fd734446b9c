-- The rows once a rank is learnt at a later incarnation: what names it has ended.
use Rattle.std.proofs.Common.{◌≡◌, ℕ, zero, suc, Bool, true, false, not, cond, List, [], ◌∷◌, ◌++◌, map, filter, Option}
use Rattle.std.proofs.Common.{Some, None, if◌then◌else◌, slice_get, option_map, refl, sym, ap, ◌∙◌, subst, ◌||◌, ◌==◌}
use Rattle.std.proofs.Common.{◌⊎◌, inl, inr}
use Rattle.std.proofs.lemmas.Bool.{cases_eq}
use Rattle.std.proofs.lemmas.List.Elements.{filter-append}
use Rattle.std.proofs.lemmas.Option.{none-some, same_Some, slice_get-map}
use Rattle.vocabulary.specs.Endpoints.{is_former}
use Rattle.vocabulary.specs.declared.endpoint.Endpoint.{Endpoint}
use Rattle.perfect_queues.specs.Outcomes as machine
use Rattle.perfect_queues.specs.Receives.{Receive, names}
use Rattle.match_queues.specs.declared.envelope.Message.{Message}
use Rattle.match_queues.specs.declared.envelope.PostedReceive as queued
use Rattle.match_queues.specs.State.{keys_naming}
use Rattle.proof_pure_network.specs.Announcements.{IsIn}
use Rattle.proof_pure_network.specs.WaitingMessages.{Held}
use Rattle.proof_pure_network.specs.Jobs.{Job, Waiting, Collecting, Offering, Over, Closed, ended, Probed, Unmatched}
use Rattle.proof_engine_view.specs.Rows.{Row, held_of, jobs_of, posted_job, posted_rows}
use Rattle.proof_engine_view.specs.Transfers.{Transfer}

-- a row once rank r is learnt at incarnation i
abbrev pub ended_row : (r i : ℕ) → Row → Row
ended_row r i row = record { key = row.key; job = ended r i row.job }

-- their jobs
pub ended_jobs : (r i : ℕ) (rows : List Row) → map (ended r i) (jobs_of rows) ≡ jobs_of (map (ended_row r i) rows)
ended_jobs r i [] = refl
ended_jobs r i (x ∷ xs) = ap (λ (js : List Job). ended r i x.job ∷ js) (ended_jobs r i xs)

-- a row that stands there, as it has ended
pub ended_at : (r i : ℕ) (rows : List Row) (k : ℕ) (row : Row) → slice_get rows k ≡ Some row →
    slice_get (map (ended_row r i) rows) k ≡ Some (ended_row r i row)
ended_at r i rows k row h = slice_get-map (ended_row r i) rows k ∙
    ap (λ (o : Option Row). option_map (ended_row r i) o) h

-- WHAT IS POSTED

-- of one row
posted_ended : (r i key : ℕ) (job : Job) →
    filter (λ (x : queued.PostedReceive). not (names x.source r)) (posted_job key job) ≡ posted_job key (ended r i job)
posted_ended r i key (Waiting p) = go (names p.source r)
  where
    go : (b : Bool) →
        cond (not b) (posted_job key (Waiting p)) []
        ≡ posted_job key (if b then Over (machine.Replaced (Some p.into.buffer)) else Waiting p)
    go true = refl
    go false = refl
posted_ended r i key (Collecting p h got) = go (names p.source r || is_former r i h.sender)
  where
    go : (b : Bool) →
        ◌≡◌ {A = List queued.PostedReceive} []
        (posted_job key (if b then Over (machine.Replaced (Some p.into.buffer)) else Collecting p h got))
    go true = refl
    go false = refl
posted_ended r i key (Offering d basic values) = go (d.rank == r)
  where
    go : (b : Bool) →
        ◌≡◌ {A = List queued.PostedReceive} []
        (posted_job key (if b then Over (machine.Replaced None) else Offering d basic values))
    go true = refl
    go false = refl
posted_ended r i key (Over x) = refl
posted_ended r i key Closed = refl
posted_ended r i key (Unmatched d) = go (d.rank == r)
  where
    go : (b : Bool) →
        ◌≡◌ {A = List queued.PostedReceive} []
        (posted_job key (if b then Over (machine.Replaced None) else Unmatched d))
    go true = refl
    go false = refl
posted_ended r i key (Probed g h) = refl

-- of all rows
pub posted_left : (r i : ℕ) (rows : List Row) →
    filter (λ (x : queued.PostedReceive). not (names x.source r)) (posted_rows rows) ≡
    posted_rows (map (ended_row r i) rows)
posted_left r i [] = refl
posted_left r i (x ∷ xs) =
    filter-append (λ (y : queued.PostedReceive). not (names y.source r)) (posted_job x.key x.job) (posted_rows xs) ∙
    (ap (λ (ys : List queued.PostedReceive). ys ++
    filter (λ (y : queued.PostedReceive). not (names y.source r)) (posted_rows xs)) (posted_ended r i x.key x.job) ∙
    ap (λ (ys : List queued.PostedReceive). posted_job x.key (ended r i x.job) ++ ys) (posted_left r i xs))

-- WHAT IS HELD

-- of a former incarnation nothing is held
pub held_left : (from : Endpoint → List Transfer) (r i : ℕ) (ms : List Message) →
    filter (λ (h : Held). not (is_former r i h.sender)) (map (held_of from) ms)
    ≡ map (held_of from) (filter (λ (m : Message). not (is_former r i m.sender)) ms)
held_left from r i [] = refl
held_left from r i (m ∷ ms) = go (is_former r i m.sender) (held_left from r i ms)
  where
    held : List Held
    held = filter (λ (h : Held). not (is_former r i h.sender)) (map (held_of from) ms)

    left : List Message
    left = filter (λ (x : Message). not (is_former r i x.sender)) ms

    go : (b : Bool) → held ≡ map (held_of from) left →
        cond (not b) (held_of from m ∷ held) held ≡ map (held_of from) (cond (not b) (m ∷ left) left)
    go true e = e
    go false e = ap (λ (hs : List Held). held_of from m ∷ hs) e

-- KEYS

-- the key is one of these
abbrev pub IsAmong : (key : ℕ) → List ℕ → Type 0
IsAmong key [] = ⊥
IsAmong key (x ∷ xs) = (key ≡ x) ⊎ IsAmong key xs

-- it is one of these or it isn't
pub cases_among : (key : ℕ) (xs : List ℕ) → IsAmong key xs ⊎ (IsAmong key xs → ⊥)
cases_among key [] = inr (λ h. h)
cases_among key (x ∷ xs) = go (cases_eq key x) (cases_among key xs)
  where
    neither : (key ≡ x → ⊥) → (IsAmong key xs → ⊥) → IsAmong key (x ∷ xs) → ⊥
    neither n m (inl e) = n e
    neither n m (inr a) = m a

    go : (key ≡ x) ⊎ (key ≡ x → ⊥) → IsAmong key xs ⊎ (IsAmong key xs → ⊥) →
        IsAmong key (x ∷ xs) ⊎ (IsAmong key (x ∷ xs) → ⊥)
    go (inl e) a = inl (inl e)
    go (inr n) (inl a) = inl (inr a)
    go (inr n) (inr m) = inr (neither n m)

-- it is one of these where it is one of the first
pub among_first : (key : ℕ) (xs ys : List ℕ) → IsAmong key xs → IsAmong key (xs ++ ys)
among_first key [] ys h = absurd h
among_first key (x ∷ xs) ys (inl e) = inl e
among_first key (x ∷ xs) ys (inr a) = inr (among_first key xs ys a)

-- or one of the later ones
pub among_later : (key : ℕ) (xs ys : List ℕ) → IsAmong key ys → IsAmong key (xs ++ ys)
among_later key [] ys h = h
among_later key (x ∷ xs) ys h = inr (among_later key xs ys h)

-- and it is one of the first or of the later ones
pub among_either : (key : ℕ) (xs ys : List ℕ) → IsAmong key (xs ++ ys) → IsAmong key xs ⊎ IsAmong key ys
among_either key [] ys h = inr h
among_either key (x ∷ xs) ys (inl e) = inl (inl e)
among_either key (x ∷ xs) ys (inr a) = go (among_either key xs ys a)
  where
    go : IsAmong key xs ⊎ IsAmong key ys → IsAmong key (x ∷ xs) ⊎ IsAmong key ys
    go (inl h) = inl (inr h)
    go (inr h) = inr h

-- it is one of these where it stands at some place
pub in_among : (key : ℕ) (xs : List ℕ) → IsIn key xs → IsAmong key xs
in_among key xs h = at xs h.0 h.1
  where
    at : (ys : List ℕ) (place : ℕ) → slice_get ys place ≡ Some key → IsAmong key ys
    at [] zero e = absurd (none-some key e)
    at [] (suc place) e = absurd (none-some key e)
    at (y ∷ ys) zero e = inl (sym (same_Some y key e))
    at (y ∷ ys) (suc place) e = inr (at ys place e)

-- THE KEYS OF RECEIVES THAT NAME THE RANK

-- a receive under this key waits and names the rank
pub record IsNaming (rows : List Row) (r key : ℕ) : Type 0 where
  pub serial : ℕ
  pub receive : Receive
  pub there : slice_get rows serial ≡ Some (record { key = key; job = Waiting receive })
  pub named : names receive.source r ≡ true

-- a receive as it is posted
abbrev posted_of : (key : ℕ) → Receive → queued.PostedReceive
posted_of key p = record { request = key; context = p.context; source = p.source; tag = p.tag }

-- the keys with this receive in front, by whether it names the rank
abbrev keys_by : (r : ℕ) → Bool → queued.PostedReceive → List queued.PostedReceive → List ℕ
keys_by r b x ps = map (λ (y : queued.PostedReceive). y.request)
    (cond b (x ∷ filter (λ (y : queued.PostedReceive). names y.source r) ps)
    (filter (λ (y : queued.PostedReceive). names y.source r) ps))

-- a key is there where that of a later row is
more_among : (r key own : ℕ) (job : Job) (ps : List queued.PostedReceive) → IsAmong key (keys_naming r ps) →
    IsAmong key (keys_naming r (posted_job own job ++ ps))
more_among r key own (Waiting p) ps h = go (names p.source r)
  where
    go : (b : Bool) → IsAmong key (keys_by r b (posted_of own p) ps)
    go true = inr h
    go false = h
more_among r key own (Collecting p m got) ps h = h
more_among r key own (Offering d basic values) ps h = h
more_among r key own (Over x) ps h = h
more_among r key own Closed ps h = h
more_among r key own (Unmatched d) ps h = h
more_among r key own (Probed g x) ps h = h

-- the key of a receive that waits and names the rank
first_among : (r key : ℕ) (p : Receive) (ps : List queued.PostedReceive) → names p.source r ≡ true →
    IsAmong key (keys_naming r (posted_job key (Waiting p) ++ ps))
first_among r key p ps named =
    subst (λ (b : Bool). IsAmong key (keys_by r b (posted_of key p) ps)) (sym named) (inl refl)

-- a receive that waits and names the rank has its key there
pub naming_among : (r : ℕ) (rows : List Row) (k key : ℕ) (p : Receive) →
    slice_get rows k ≡ Some (record { key = key; job = Waiting p }) → names p.source r ≡ true →
    IsAmong key (keys_naming r (posted_rows rows))
naming_among r [] k key p h named = absurd (none-some (record { key = key; job = Waiting p }) h)
naming_among r (x ∷ xs) zero key p h named =
    subst (λ (y : Row). IsAmong key (keys_naming r (posted_job y.key y.job ++ posted_rows xs)))
    (sym (same_Some x (record { key = key; job = Waiting p }) h)) (first_among r key p (posted_rows xs) named)
naming_among r (x ∷ xs) (suc k) key p h named =
    more_among r key x.key x.job (posted_rows xs) (naming_among r xs k key p h named)

-- a later row
later_row : (x : Row) (xs : List Row) (r key : ℕ) → IsNaming xs r key → IsNaming (x ∷ xs) r key
later_row x xs r key h = record { serial = suc h.serial; receive = h.receive; there = h.there; named = h.named }

-- the first row or a later one
first_or_later : (r key : ℕ) (x : Row) (xs : List Row) (job : Job) → x.job ≡ job →
    (IsAmong key (keys_naming r (posted_rows xs)) → IsNaming xs r key) →
    IsAmong key (keys_naming r (posted_job x.key job ++ posted_rows xs)) → IsNaming (x ∷ xs) r key
first_or_later r key x xs (Waiting p) is rest h = go (names p.source r) refl h
  where
    first : key ≡ x.key → names p.source r ≡ true → IsNaming (x ∷ xs) r key
    first e named =
        record {
          serial = zero;
          receive = p;
          there = ap (λ (j : Job). Some (record { key = x.key; job = j })) is ∙
              ap (λ (n : ℕ). Some (record { key = n; job = Waiting p })) (sym e);
          named = named;
        }

    there : names p.source r ≡ true → IsAmong key (x.key ∷ keys_naming r (posted_rows xs)) → IsNaming (x ∷ xs) r key
    there named (inl e) = first e named
    there named (inr a) = later_row x xs r key (rest a)

    go : (b : Bool) → names p.source r ≡ b → IsAmong key (keys_by r b (posted_of x.key p) (posted_rows xs)) →
        IsNaming (x ∷ xs) r key
    go true named a = there named a
    go false named a = later_row x xs r key (rest a)
first_or_later r key x xs (Collecting p m got) is rest h = later_row x xs r key (rest h)
first_or_later r key x xs (Offering d basic values) is rest h = later_row x xs r key (rest h)
first_or_later r key x xs (Over o) is rest h = later_row x xs r key (rest h)
first_or_later r key x xs Closed is rest h = later_row x xs r key (rest h)
first_or_later r key x xs (Unmatched d) is rest h = later_row x xs r key (rest h)
first_or_later r key x xs (Probed g m) is rest h = later_row x xs r key (rest h)

-- the row of a key that is there
pub named_at : (r : ℕ) (rows : List Row) (key : ℕ) → IsAmong key (keys_naming r (posted_rows rows)) →
    IsNaming rows r key
named_at r [] key h = absurd h
named_at r (x ∷ xs) key h = first_or_later r key x xs x.job refl (named_at r xs key) h
