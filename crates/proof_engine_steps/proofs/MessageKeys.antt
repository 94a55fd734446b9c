-- The keys of messages that were taken out and that former incarnations of a rank sent.
use Rattle.std.proofs.Common.{◌≡◌, ℕ, zero, suc, ◌+◌, Bool, true, false, List, [], ◌∷◌, Option, Some, None, is_some}
use Rattle.std.proofs.Common.{if◌then◌else◌, slice_get, refl, sym, ap, ◌∙◌, subst, arith, inl, inr}
use Rattle.std.proofs.lemmas.Option.{none-some, same_Some}
use Rattle.vocabulary.specs.Endpoints.{is_former}
use Rattle.vocabulary.specs.declared.endpoint.Endpoint.{Endpoint}
use Rattle.incarnation.specs.declared.place.Place.{Place}
use Rattle.match_queues.specs.declared.envelope.Message.{Message}
use Rattle.requests.specs.declared.table.TableEntry.{TableEntry}
use Rattle.requests.specs.declared.table.RequestProgress.{RequestProgress}
use Rattle.requests.specs.declared.table.RequestProgress.TheVariants.{Receiving, Finished}
use Rattle.requests.specs.declared.table.RequestProgress.TheVariants as progresses
use Rattle.requests.specs.Table.{is_former_message, is_of_former, keys_of, keys_of_messages, slot_at}
use Rattle.slab.specs.Slab.{entries_from}
use Rattle.proof_pure_network.specs.WaitingMessages.{Held}
use Rattle.proof_pure_network.specs.Jobs.{Job, Probed}
use Rattle.proof_engine_view.specs.Rows.{Holds, IsRow, IsTable, Row, held_of}
use Rattle.proof_engine_view.specs.Transfers.{Transfer}
use Rattle.proof_engine_view.specs.UnderWay.{AreTaken, IsTakenAt, IsTakenBy, IsTakenIf, IsTakenOut}
use Rattle.proof_engine_steps.proofs.EndedRows.{IsAmong}
use Rattle.proof_engine_steps.proofs.EndingKeys.{IsEnding}
use Rattle.proof_engine_steps.proofs.BlockedAnswers.{IsMessage, fits_probed}
use Rattle.proof_engine_steps.proofs.Tables.{held_at}
use Rattle.proof_engine_steps.proofs.UnderWay.{row_of}

-- ---- THE KEYS OF A TABLE

-- with one more entry in front
more_front : (b : Bool) (key x : ℕ) (xs : List ℕ) → IsAmong key xs → IsAmong key (if b then x ∷ xs else xs)
more_front true key x xs a = inr a
more_front false key x xs a = a

-- the key of a former message
former_among : (r i k : ℕ) (slots : List (Option TableEntry)) (j : ℕ) (e : TableEntry) → slot_at slots j ≡ Some e →
    is_of_former r i e.progress ≡ true → IsAmong (k + j) (keys_of r i (entries_from k slots))
former_among r i k [] j e at former = absurd (none-some e at)
former_among r i k (None ∷ xs) zero e at former = absurd (none-some e at)
former_among r i k (Some x ∷ xs) zero e at former =
    subst (λ (b : Bool). IsAmong (k + 0) (if b then k ∷ keys_of r i (entries_from (k + 1) xs) else
    keys_of r i (entries_from (k + 1) xs)))
    (sym (ap (λ (y : TableEntry). is_of_former r i y.progress) (same_Some x e at) ∙ former)) (inl (omega arith))
former_among r i k (None ∷ xs) (suc j) e at former =
    subst (λ (n : ℕ). IsAmong n (keys_of r i (entries_from (k + 1) xs))) (omega arith)
    (former_among r i (k + 1) xs j e at former)
former_among r i k (Some x ∷ xs) (suc j) e at former =
    more_front (is_of_former r i x.progress) (k + suc j) k (keys_of r i (entries_from (k + 1) xs))
    (subst (λ (n : ℕ). IsAmong n (keys_of r i (entries_from (k + 1) xs))) (omega arith)
    (former_among r i (k + 1) xs j e at former))

-- a former message stands under the key
pub record IsFormerAt (r i : ℕ) (slots : List (Option TableEntry)) (k key : ℕ) : Type 0 where
  pub place : ℕ
  pub key_is : key ≡ k + place
  pub entry : TableEntry
  pub there : slot_at slots place ≡ Some entry
  pub former : is_of_former r i entry.progress ≡ true

-- one place later
later_former : (r i k key : ℕ) (s : Option TableEntry) (xs : List (Option TableEntry)) → IsFormerAt r i xs (k + 1) key →
    IsFormerAt r i (s ∷ xs) k key
later_former r i k key s xs h =
    record {
      place = suc h.place;
      key_is = omega (arith, h.key_is);
      entry = h.entry;
      there = h.there;
      former =
          h.former;
    }

among_former : (r i k : ℕ) (slots : List (Option TableEntry)) (key : ℕ) →
    IsAmong key (keys_of r i (entries_from k slots)) → IsFormerAt r i slots k key
among_former r i k [] key a = absurd a
among_former r i k (None ∷ xs) key a = later_former r i k key None xs (among_former r i (k + 1) xs key a)
among_former r i k (Some x ∷ xs) key a = go (is_of_former r i x.progress) refl a (among_former r i (k + 1) xs key)
  where
    rest : List ℕ
    rest = keys_of r i (entries_from (k + 1) xs)

    go : (b : Bool) → is_of_former r i x.progress ≡ b → IsAmong key (if b then k ∷ rest else rest) →
        (IsAmong key rest → IsFormerAt r i xs (k + 1) key) → IsFormerAt r i (Some x ∷ xs) k key
    go true f (inl e) later = record { place = 0; key_is = omega (arith, e); entry = x; there = refl; former = f }
    go true f (inr h) later = later_former r i k key (Some x) xs (later h)
    go false f h later = later_former r i k key (Some x) xs (later h)

-- ---- THE ROWS

-- a message that was taken out, and that a former incarnation sent
record IsFormerTaken (from : Endpoint → List Transfer) (known : List ℕ) (p : Place) (rows : List Row)
    (r i serial : ℕ) : Type 0 where
  group : Option (List ℕ)
  message : Message
  taken : IsTakenOut from known p rows serial group message
  former : is_former r i message.sender ≡ true

-- such an entry holds one
former_taken : (from : Endpoint → List Transfer) (known : List ℕ) (p : Place) (rows : List Row) (r i serial : ℕ)
    (g : RequestProgress) → IsTakenBy from known p rows serial g → is_of_former r i g ≡ true →
    IsFormerTaken from known p rows r i serial
former_taken from known p rows r i serial (Receiving w) t former = absurd cc
former_taken from known p rows r i serial (progresses.Collecting w) t former = absurd cc
former_taken from known p rows r i serial progresses.Offering t former = absurd cc
former_taken from known p rows r i serial (progresses.TakenOut x) t former = go x.message t former
  where
    go : (o : Option Message) → IsTakenIf from known p rows serial x.group o → is_former_message r i o ≡ true →
        IsFormerTaken from known p rows r i serial
    go None h f = absurd cc
    go (Some m) h f = record { group = x.group; message = m; taken = h; former = f }
former_taken from known p rows r i serial (Finished o) t former = absurd cc

-- the key of a former message is that of a request that ends
pub message_ends : (from : Endpoint → List Transfer) (known : List ℕ) (p : Place) (rows : List Row)
    (slots : List (Option TableEntry)) (r i key : ℕ) → IsTable slots rows → AreTaken from known p rows slots →
    IsAmong key (keys_of_messages r i slots) →
    IsEnding rows r i key
message_ends from known p rows slots r i key table taken a =
    let f : IsFormerAt r i slots 0 key = among_former r i 0 slots key a in
    let at : slot_at slots key ≡ Some f.entry = subst (λ (n : ℕ). slot_at slots n ≡ Some f.entry) (omega (arith, f.key_is)) f.there in
    let row : IsRow rows key f.entry = table.entries key f.entry at in
    let t : IsFormerTaken from known p rows r i f.entry.serial = former_taken from known p rows r i f.entry.serial f.entry.progress (here f.entry at) f.former in
    let same : row.row ≡ row_of t.taken.key (Probed t.group (Some (held_of from t.message))) = same_Some row.row (row_of t.taken.key (Probed t.group (Some (held_of from t.message)))) (sym row.there ∙ t.taken.row) in
    record {
      serial = f.entry.serial;
      job = Probed t.group (Some (held_of from t.message));
      there = t.taken.row ∙ ap (λ (n : ℕ). Some (row_of n (Probed t.group (Some (held_of from t.message)))))
          (sym (ap (λ (y : Row). y.key) same) ∙ row.key_is);
      ends = t.former;
    }
  where
    here : (e : TableEntry) → slot_at slots key ≡ Some e → IsTakenBy from known p rows e.serial e.progress
    here e at = go (slot_at slots key) at (taken key)
      where
        go : (o : Option TableEntry) → o ≡ Some e → IsTakenAt from known p rows o →
            IsTakenBy from known p rows e.serial e.progress
        go None is t = absurd (none-some e is)
        go (Some x) is t =
            subst (λ (y : TableEntry). IsTakenBy from known p rows y.serial y.progress) (same_Some x e is) t

-- and that of a message that was taken out and is lost is among them
pub taken_among : (from : Endpoint → List Transfer) (known : List ℕ) (p : Place) (rows : List Row)
    (slots : List (Option TableEntry)) (r i k key : ℕ) (group : Option (List ℕ)) (h : Held) → IsTable slots rows →
    AreTaken from known p rows slots →
    slice_get rows k ≡ Some (row_of key (Probed group (Some h))) → is_former r i h.sender ≡ true →
    IsAmong key (keys_of_messages r i slots)
taken_among from known p rows slots r i k key group h table taken at former =
    subst (λ (n : ℕ). IsAmong n (keys_of r i (entries_from 0 slots))) (omega arith)
    (former_among r i 0 slots key mine.entry mine.there
    (ap (is_of_former r i) message.is ∙
    by_message message.taken.message message.alike.there
    (subst (λ (g : RequestProgress). IsTakenBy from known p rows mine.entry.serial g) message.is
    (here mine.entry mine.there))))
  where
    mine : Holds (slot_at slots key) k (Probed group (Some h))
    mine = held_at slots rows k key (Probed group (Some h)) table at (λ e. cc)

    message : IsMessage mine.entry.progress group (Some h)
    message = fits_probed mine.entry.progress group (Some h) mine.fits

    here : (e : TableEntry) → slot_at slots key ≡ Some e → IsTakenBy from known p rows e.serial e.progress
    here e is = go (slot_at slots key) is (taken key)
      where
        go : (o : Option TableEntry) → o ≡ Some e → IsTakenAt from known p rows o →
            IsTakenBy from known p rows e.serial e.progress
        go None x t = absurd (none-some e x)
        go (Some y) x t =
            subst (λ (z : TableEntry). IsTakenBy from known p rows z.serial z.progress) (same_Some y e x) t

    held_of_job : Job → Option Held
    held_of_job (Probed g x) = x
    held_of_job _ = None

    by_message : (o : Option Message) → is_some (Some h) ≡ is_some o →
        IsTakenIf from known p rows mine.entry.serial message.taken.group o → is_former_message r i o ≡ true
    by_message None e t = absurd cc
    by_message (Some m) e t =
        let rows_same : row_of t.key (Probed message.taken.group (Some (held_of from m))) ≡ row_of key (Probed group (Some h)) =
        same_Some (row_of t.key (Probed message.taken.group (Some (held_of from m))))
        (row_of key (Probed group (Some h))) (sym t.row ∙ (ap (slice_get rows) mine.serial_is ∙ at)) in
        let held_same : held_of from m ≡ h = same_Some (held_of from m) h (ap (λ (y : Row). held_of_job y.job) rows_same) in
        ap (λ (y : Held). is_former r i y.sender) held_same ∙ former
