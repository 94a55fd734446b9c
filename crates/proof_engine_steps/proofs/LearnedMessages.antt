-- Messages that were taken out, once a rank is learnt at a later incarnation: those of its former ones are lost, and
-- all others stay.
use Rattle.std.proofs.Common.{◌≡◌, ℕ, ◌<◌, false, not, List, map, Option, Some, None, slice_index, slice_set}
use Rattle.std.proofs.Common.{option_map, refl, sym, ap, ◌∙◌, subst, ◌⊎◌, inl, inr}
use Rattle.std.proofs.lemmas.Option.{same_Some}
use Rattle.vocabulary.specs.Endpoints.{is_former}
use Rattle.vocabulary.specs.declared.endpoint.Endpoint.{Endpoint}
use Rattle.incarnation.specs.declared.place.Place.{Place}
use Rattle.match_queues.specs.declared.envelope.Message.{Message}
use Rattle.requests.specs.declared.table.TableEntry.{TableEntry}
use Rattle.requests.specs.declared.table.RequestProgress.{RequestProgress}
use Rattle.requests.specs.declared.table.RequestProgress.TheVariants.{Receiving, Finished}
use Rattle.requests.specs.declared.table.RequestProgress.TheVariants as progresses
use Rattle.requests.specs.Table.{after_replaces, replaced_entry, slot_at}
use Rattle.proof_pure_network.specs.Jobs.{Probed}
use Rattle.proof_engine_view.specs.Rows.{IsRow, IsTable, Row, held_of}
use Rattle.proof_engine_view.specs.Transfers.{Transfer}
use Rattle.proof_engine_view.specs.UnderWay.{AreTaken, IsTakenAt, IsTakenBy, IsTakenIf, IsTakenOut}
use Rattle.proof_engine_steps.proofs.EndedRows.{IsAmong, cases_among, ended_row}
use Rattle.proof_engine_steps.proofs.EndingKeys.{AreEnding}
use Rattle.proof_engine_steps.proofs.RestartTransfers.{learned_message, row_stays}
use Rattle.proof_engine_steps.proofs.RestartSlots.{ends_false, replaces_among, replaces_apart}
use Rattle.proof_engine_steps.proofs.UnderWay.{row_of}

-- of a request that ended nothing is left
replaced_by : (from : Endpoint → List Transfer) (known : List ℕ) (p : Place) (rows : List Row) (e : TableEntry)
    (g : RequestProgress) → IsTakenAt from known p rows (Some (replaced_entry (record e { progress = g })))
replaced_by from known p rows e (Receiving w) = tt
replaced_by from known p rows e (progresses.Collecting w) = tt
replaced_by from known p rows e progresses.Offering = tt
replaced_by from known p rows e (progresses.TakenOut t) = tt
replaced_by from known p rows e (Finished o) = tt

replaced_at : (from : Endpoint → List Transfer) (known : List ℕ) (p : Place) (rows : List Row) (o : Option TableEntry) →
    IsTakenAt from known p rows (option_map replaced_entry o)
replaced_at from known p rows None = tt
replaced_at from known p rows (Some e) = replaced_by from known p rows e e.progress

-- once rank r is learnt at incarnation i
pub learned_taken : (from : Endpoint → List Transfer) (known : List ℕ) (p : Place) (rows : List Row)
    (slots : List (Option TableEntry)) (r i v : ℕ) (keys : List ℕ) → IsTable slots rows → AreEnding rows r i keys →
    (r ≡ p.endpoint.rank → ⊥) →
    slice_index known r < i → AreTaken from known p rows slots →
    AreTaken from (slice_set known r v) p (map (ended_row r i) rows) (after_replaces slots keys)
learned_taken from known p rows slots r i v keys table are apart later taken key = go (cases_among key keys)
  where
    after : List ℕ
    after = slice_set known r v

    left : List Row
    left = map (ended_row r i) rows

    -- the message isn't lost
    stays : (e : TableEntry) (group : Option (List ℕ)) (m : Message) → (IsAmong key keys → ⊥) →
        slot_at slots key ≡ Some e → IsTakenOut from known p rows e.serial group m → is_former r i m.sender ≡ false
    stays e group m n at t =
        let row : IsRow rows key e = table.entries key e at in
        let same : row.row ≡ row_of t.key (Probed group (Some (held_of from m))) = same_Some row.row (row_of t.key (Probed group (Some (held_of from m)))) (sym row.there ∙ t.row) in
        ends_false rows r i e.serial key (Probed group (Some (held_of from m))) keys are
        (t.row ∙ ap (λ (k : ℕ). Some (row_of k (Probed group (Some (held_of from m)))))
        (sym (ap (λ (y : Row). y.key) same) ∙ row.key_is)) n

    kept_if : (e : TableEntry) (group : Option (List ℕ)) (o : Option Message) → (IsAmong key keys → ⊥) →
        slot_at slots key ≡ Some e → IsTakenIf from known p rows e.serial group o →
        IsTakenIf from after p left e.serial group o
    kept_if e group None n at t = tt
    kept_if e group (Some m) n at t =
        let f : is_former r i m.sender ≡ false = stays e group m n at t in
        record {
          key = t.key;
          row = row_stays rows r i e.serial t.key (Probed group (Some (held_of from m))) t.row f;
          from_link = learned_message from known p rows r i v m m.body apart later (ap not f) t.from_link;
        }

    kept_by : (e : TableEntry) (g : RequestProgress) → (IsAmong key keys → ⊥) → slot_at slots key ≡ Some e →
        IsTakenBy from known p rows e.serial g → IsTakenBy from after p left e.serial g
    kept_by e (Receiving w) n at t = tt
    kept_by e (progresses.Collecting w) n at t = tt
    kept_by e progresses.Offering n at t = tt
    kept_by e (progresses.TakenOut x) n at t = kept_if e x.group x.message n at t
    kept_by e (Finished o) n at t = tt

    kept : (o : Option TableEntry) → (IsAmong key keys → ⊥) → slot_at slots key ≡ o → IsTakenAt from known p rows o →
        IsTakenAt from after p left o
    kept None n at t = tt
    kept (Some e) n at t = kept_by e e.progress n at t

    go : IsAmong key keys ⊎ (IsAmong key keys → ⊥) →
        IsTakenAt from after p left (slot_at (after_replaces slots keys) key)
    go (inl a) =
        subst (IsTakenAt from after p left) (sym (replaces_among keys slots key a))
        (replaced_at from after p left (slot_at slots key))
    go (inr n) =
        subst (IsTakenAt from after p left) (sym (replaces_apart keys slots key n))
        (kept (slot_at slots key) n refl (taken key))
