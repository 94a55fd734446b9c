-- A word of an endpoint teaches a rank what it teaches its core in the network.
use Rattle.std.proofs.Common.{◌≡◌, ℕ, ◌<◌, Bool, true, false, List, ◌++◌, map, filter, not, Some, None, if◌then◌else◌}
use Rattle.std.proofs.Common.{nat_lt, max, slice_index, refl, sym, ap, ◌∙◌, subst, ◌||◌, ◌==◌}
use Rattle.std.proofs.lemmas.Bool.{ltb-true}
use Rattle.std.proofs.lemmas.List.{length-map}
use Rattle.vocabulary.specs.Endpoints.{is_former}
use Rattle.perfect_queues.specs.Outcomes as machine
use Rattle.perfect_queues.specs.Receives.{names}
use Rattle.vocabulary.specs.declared.endpoint.Endpoint.{Endpoint}
use Rattle.match_queues.specs.declared.envelope.PostedReceive as queued
use Rattle.match_queues.specs.State.{keys_naming}
use Rattle.rendezvous.specs.State.{keys_with}
use Rattle.requests.specs.Table.{after_replaces, keys_of_messages}
use Rattle.point_to_point.specs.CoreState.{CoreState}
use Rattle.point_to_point_calls.specs.FrameNews.{NewsText}
use Rattle.point_to_point.specs.Arrivals.{replaced, after_lesson}
use Rattle.proof_pure_network.specs.Core.{Core}
use Rattle.proof_pure_network.specs.Engine as network
use Rattle.proof_pure_network.specs.WaitingMessages.{Held}
use Rattle.proof_pure_network.specs.Jobs.{Job, Closed, Collecting, Offering, Over, Waiting, ended, Probed, Unmatched}
use Rattle.proof_engine_view.specs.Frames.{known_after}
use Rattle.proof_engine_view.specs.Rows.{IsTable, Row, posted_rows}
use Rattle.proof_engine_view.specs.CoreViews.{IsShown}
use Rattle.proof_engine_view.specs.Transfers.{Announcements}
use Rattle.proof_engine_view.specs.UnderWay.{AreTaken}
use Rattle.proof_engine_steps.specs.Steps.{IsFromOther, NoneUntold}
use Rattle.proof_engine_steps.proofs.EndedRows.{ended_jobs, ended_row, held_left, posted_left}
use Rattle.proof_engine_steps.proofs.Knowledge.{knows, learnt_known}
use Rattle.proof_engine_steps.proofs.EndingKeys.{AreEnding}
use Rattle.proof_engine_steps.proofs.LearnedMessages.{learned_taken}
use Rattle.proof_engine_steps.proofs.RestartTransfers.{keys_end, learned_under_way}
use Rattle.proof_engine_steps.proofs.NamedRequests.{NamedStay, blocked_stays, named_map}
use Rattle.proof_engine_steps.proofs.RestartSlots.{replaced_table}
use Rattle.proof_engine_steps.proofs.FrameArrivals.{HoldBoth}
use Rattle.proof_engine_steps.proofs.BlockedRanks.{Holding, holding_of}

-- a job that a lesson closes was closed
ended_closed : (r i : ℕ) (j : Job) → ended r i j ≡ Closed → j ≡ Closed
ended_closed r i (Waiting p) h = go (names p.source r) h
  where
    go : (b : Bool) → (if b then Over (machine.Replaced (Some p.into.buffer)) else Waiting p) ≡ Closed →
        Waiting p ≡ Closed
    go true e = absurd cc
    go false e = e
ended_closed r i (Collecting p g got) h = go (names p.source r || is_former r i g.sender) h
  where
    go : (b : Bool) → (if b then Over (machine.Replaced (Some p.into.buffer)) else Collecting p g got) ≡ Closed →
        Collecting p g got ≡ Closed
    go true e = absurd cc
    go false e = e
ended_closed r i (Offering d basic values) h = go (d.rank == r) h
  where
    go : (b : Bool) → (if b then Over (machine.Replaced None) else Offering d basic values) ≡ Closed →
        Offering d basic values ≡ Closed
    go true e = absurd cc
    go false e = e
ended_closed r i (Over x) h = h
ended_closed r i Closed h = h
ended_closed r i (Unmatched d) h = go (d.rank == r) h
  where
    go : (b : Bool) → (if b then Over (machine.Replaced None) else Unmatched d) ≡ Closed → Unmatched d ≡ Closed
    go true e = absurd cc
    go false e = e
ended_closed r i (Probed g x) h = absurd cc

-- what is named stays named
ended_named : (r i : ℕ) (rows : List Row) → NamedStay rows (map (ended_row r i) rows)
ended_named r i rows = named_map (ended_row r i) (λ row. refl) (λ row h. ended_closed r i row.job h) rows

-- both learn a later incarnation of another rank
learned_holds : (links : Announcements) (e : CoreState) (known : List ℕ) (core : Core) (rows : List Row)
    (s : Endpoint) → Holding links e known core rows → s.rank < e.place.size →
    (s.rank ≡ e.place.endpoint.rank → ⊥) → slice_index known s.rank < s.incarnation → NoneUntold links known →
    Holding links (replaced e s) (known_after true known s) (network.learned core s.rank s.incarnation)
    (map (ended_row s.rank s.incarnation) rows)
learned_holds links e known core rows s h inside apart later untold =
    record {
      jobs = ap (λ (js : List Job). map (ended r i) js) h.jobs ∙ ended_jobs r i rows;
      count = length-map rows (ended_row r i) ∙ h.count;
      table = subst (λ (ks : List ℕ). IsTable (after_replaces e.slots ks) (map (ended_row r i) rows))
          (sym keys_are) (replaced_table e.slots rows r i keys h.table ending);
      posted = ap (λ (ps : List queued.PostedReceive). filter (λ (x : queued.PostedReceive). not (names x.source r)) ps)
          h.posted ∙ posted_left r i rows;
      held = ap (λ (hs : List Held). filter (λ (x : Held). not (is_former r i x.sender)) hs) h.held ∙
          held_left links.from r i e.queues.unexpected;
      under_way =
          learned_under_way links known e.place rows e.slots e.transfers e.queues.unexpected r i h.table h.under_way
          untold h.knowing.width inside apart later;
      taken = subst (λ (ks : List ℕ). AreTaken links.from (known_after true known s) e.place (map (ended_row r i) rows)
          (after_replaces e.slots ks))
          (sym keys_are)
          (learned_taken links.from known e.place rows e.slots r i (max (slice_index known r) i) keys h.table ending
          apart later h.taken);
      knowing = learnt_known e.place known (knows core) r i h.knowing inside apart later;
    }
  where
    r : ℕ
    r = s.rank

    i : ℕ
    i = s.incarnation

    keys : List ℕ
    keys = keys_naming r (posted_rows rows) ++ (keys_with e.transfers r ++ keys_of_messages r i e.slots)

    keys_are : keys_naming r e.queues.posted ++ (keys_with e.transfers r ++ keys_of_messages r i e.slots) ≡ keys
    keys_are =
        ap (λ (ps : List queued.PostedReceive). keys_naming r ps ++
        (keys_with e.transfers r ++ keys_of_messages r i e.slots)) h.posted

    ending : AreEnding rows r i keys
    ending = keys_end links known e.place rows e.slots e.transfers e.queues.unexpected r i h.table h.under_way h.taken
        apart later

-- what a word of another rank of the job leaves both holding, by whether it is a lesson
pub met_holds : (links : Announcements) (e : CoreState) (known : List ℕ) (core : Core) (news : NewsText) →
    IsShown links e known core → IsFromOther e known news → NoneUntold links known →
    HoldBoth links (after_lesson news.lesson e news.source) (known_after news.lesson known news.source)
    (network.met core news.source)
met_holds links e known core news shown other untold =
    subst (λ (c : Core). HoldBoth links (after_lesson news.lesson e s) (known_after news.lesson known s) c) (sym met_is)
    (go news.lesson other.lesson)
  where
    s : Endpoint
    s = news.source

    met_is : network.met core s ≡ (if news.lesson then network.learned core s.rank s.incarnation else core)
    met_is = ap (λ (b : Bool). if b then network.learned core s.rank s.incarnation else core)
        (ap (λ (n : ℕ). nat_lt n s.incarnation) (shown.known_alike s.rank) ∙ other.lesson)

    go : (b : Bool) → nat_lt (slice_index known s.rank) s.incarnation ≡ b →
        HoldBoth links (after_lesson b e s) (known_after b known s)
        (if b then network.learned core s.rank s.incarnation else core)
    go true later =
        record {
          rows = map (ended_row s.rank s.incarnation) shown.rows;
          holding =
              learned_holds links e known core shown.rows s (holding_of links e known core shown) other.there
              other.apart (ltb-true (slice_index known s.rank) s.incarnation later) untold;
          awaited =
              blocked_stays shown.rows (map (ended_row s.rank s.incarnation) shown.rows) e.blocked core.blocked
              core.blocked shown.blocked refl (ended_named s.rank s.incarnation shown.rows);
        }
    go false later =
        record { rows = shown.rows; holding = holding_of links e known core shown; awaited = shown.blocked }
