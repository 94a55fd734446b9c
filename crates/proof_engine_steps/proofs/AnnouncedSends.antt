-- A large send of a rank to another one is that of its core in the network: it is announced, and its request waits for
-- the answer.
use Rattle.std.proofs.Common.{◌^◌, ◌≡◌, ℕ, ◌+◌, ◌*◌, ◌<◌, ◌≤◌, ◌==◌, true, false, List, [], ◌∷◌, ◌++◌, length, Option}
use Rattle.std.proofs.Common.{Some, None, slice_index, refl, sym, ap, ap₂, ◌∙◌, subst, append-nil, arith}
use Rattle.std.specs.List.{AllByRecursion}
use Rattle.std.proofs.lemmas.Bool.{eqb-false, leb-false, ltb-false}
use Rattle.std.proofs.lemmas.List.{length-map}
use Rattle.datagram.specs.Spellings.{OutgoingText}
use Rattle.vocabulary.specs.BasicTypes.{size_of}
use Rattle.vocabulary.specs.Limits.{highest_tag, greatest_limit}
use Rattle.vocabulary.specs.MessageLimits.{limit_of}
use Rattle.vocabulary.proofs.MessageLimits.{limit_most}
use Rattle.vocabulary.specs.declared.endpoint.Endpoint.{Endpoint}
use Rattle.vocabulary.specs.declared.message_limit.MessageLimit.{MessageLimit}
use Rattle.vocabulary.specs.declared.mode.Mode.{Mode}
use Rattle.vocabulary.specs.declared.envelope.Source.{Source}
use Rattle.vocabulary.specs.declared.envelope.Source.TheVariants.{Rank}
use Rattle.datatypes.specs.Contents.{AreWithin, Contents}
use Rattle.perfect_queues.specs.Calls as machine
use Rattle.perfect_queues.specs.Refusals as rules
use Rattle.requests.specs.Regions.{byte_count, sent_from}
use Rattle.requests.specs.declared.table.RequestProgress.TheVariants.{Offering}
use Rattle.requests.specs.declared.table.Request.{Request}
use Rattle.point_to_point_calls.specs.CoreCalls as calls
use Rattle.point_to_point_calls.specs.declared.call.RoutedSend.{RoutedSend}
use Rattle.point_to_point_calls.specs.Calls.{IsWithin}
use Rattle.point_to_point_calls.specs.Frames.{as_list}
use Rattle.point_to_point_calls.specs.SendRules.{announced_to, is_announced, send_fault}
use Rattle.point_to_point.specs.Calls.{free_fault}
use Rattle.point_to_point.specs.CoreState.{CoreState}
use Rattle.point_to_point.specs.Sends.{IsOffering, IsSending, frame_of, or_full}
use Rattle.rendezvous.specs.State.{after_begin, is_full_to, next_to}
use Rattle.proof_pure_network.specs.Core.{Core, Effect, effect}
use Rattle.proof_pure_network.specs.Jobs as jobs
use Rattle.proof_pure_network.specs.Jobs.{Job}
use Rattle.proof_engine_view.specs.Frames.{endpoint_of}
use Rattle.proof_engine_view.specs.Rows.{Row, posted_rows}
use Rattle.observation.specs.CoreCalls.{call_seen}
use Rattle.proof_engine_view.specs.CoreViews.{IsShown}
use Rattle.proof_engine_view.specs.FrameViews.{AreSent, CanLeave, all_gone}
use Rattle.proof_engine_view.specs.Transfers.{Announcements, after_out}
use Rattle.proof_engine_steps.specs.Steps.{IsCalled}
use Rattle.proof_engine_steps.proofs.Announces.{begun_under_way, offering_row}
use Rattle.proof_engine_steps.proofs.LargeSends.{announcement_of, announcing_frame, announcing_leaves, announcing_sent}
use Rattle.proof_engine_steps.proofs.LargeSends.{core_announces, core_offering, is_announced_to, large_frame}
use Rattle.proof_engine_steps.proofs.LargeSends.{large_sending, number_left}
use Rattle.proof_engine_steps.proofs.Sends.{KeepsRules, called_send, core_sent, send_fit}
use Rattle.proof_engine_steps.proofs.RequestStarts.{core_free, holding_of, holding_started, serial_told, shown_free}
use Rattle.proof_engine_steps.proofs.RequestStarts.{started_call}
use Rattle.proof_engine_steps.proofs.UnchangedTransfers.{after_grows}
use Rattle.proof_engine_steps.proofs.BlockedRanks.{Holding}

-- What a large send to another rank rests on: the rank is one of the job, the tag is allowed, the elements are so many,
-- of the width of their type, and a number is left
record MayAnnounce (mode : Mode) (old : CoreState) (to context tag : ℕ) (c : Contents) : Type 0 where
  pub there : to < old.place.size
  pub apart : to ≡ old.place.endpoint.rank → ⊥
  pub low : tag ≤ highest_tag
  pub wide : context < 2 ^ 64
  pub large : is_announced old.place.message_limit mode c ≡ true
  pub limit : length c.values * size_of c.basic ≤ greatest_limit
  pub within : AreWithin (size_of c.basic) c.values
  pub free : is_full_to old.transfers.numbers to ≡ false

below : (a b c : ℕ) → a ≤ b → b ≤ c → a ≤ c
below a b c h k = omega (arith, h, k)

-- one that meets no rule and no limit may
may_announce : (old : CoreState) (s : RoutedSend) (to tag : ℕ) → s.route.named ≡ Rank to → s.send.tag ≡ Some tag →
    (to == old.place.endpoint.rank) ≡ false → KeepsRules old.place s → IsWithin (calls.Isend s) →
    is_announced old.place.message_limit s.send.mode (sent_from s.send.from) ≡ true →
    free_fault old (calls.Isend s) ≡ None →
    MayAnnounce s.send.mode old to s.route.context tag (sent_from s.send.from)
may_announce old s to tag target_is tag_is other kept within large fine =
    record {
      there = leb-false old.place.size to (sym (ap (rules.is_no_target old.place.size) target_is) ∙ kept.inside);
      apart = eqb-false to old.place.endpoint.rank other;
      low = ltb-false highest_tag tag (sym (ap rules.is_no_tag tag_is) ∙ kept.low);
      large = large;
      limit = below (byte_count s.send.from) (limit_of old.place.message_limit) greatest_limit kept.few
          (limit_most old.place.message_limit);
      wide = within.1;
      within = within.0;
      free = number_left (or_full (send_fault old.place s) old) (announced_to old.place s) to old.transfers
          (is_announced_to old.place s to tag target_is tag_is other large) fine;
    }

-- the rank once the request offers its message
abbrev pub offering_rank : CoreState → (to : ℕ) → Request → Contents → CoreState → CoreState
offering_rank old to q c new =
    record old { slots = new.slots; serial = old.serial + 1; transfers = after_begin old.transfers to q.key c }

-- so many requests of the core were started
rows_counted : (a : Announcements) (old : CoreState) (known : List ℕ) (core : Core) →
    (shown : IsShown a old known core) → length shown.rows ≡ length core.jobs
rows_counted a old known core shown =
    sym (ap (λ (js : List Job). length js) shown.jobs ∙ length-map shown.rows (λ (r : Row). r.job))

-- its request is there, and offers the message that is announced
large_holds : (mode : Mode) (a : Announcements) (old : CoreState) (known : List ℕ) (core : Core) (q : Request)
    (new : CoreState) (to context tag : ℕ) (c : Contents) → (shown : IsShown a old known core) →
    MayAnnounce mode old to context tag c →
    IsOffering old to c q new →
    Holding (after_out a (announcement_of core (endpoint_of known to) context tag c.basic c.values ∷ []))
    (offering_rank old to q c new) known (core_offering core (endpoint_of known to) c.basic c.values)
    (shown.rows ++ offering_row q.key (endpoint_of known to) c ∷ [])
large_holds mode a old known core q new to context tag c shown may sent =
    holding_started a (after_out a (announcement_of core (endpoint_of known to) context tag c.basic c.values ∷ [])) old
    (offering_rank old to q c new) known core (core_offering core (endpoint_of known to) c.basic c.values)
    shown.rows q.key Offering (jobs.Offering (endpoint_of known to) c.basic c.values)
    (holding_of a old known core shown) sent.fresh sent.entry tt refl refl
    (shown.posted ∙ sym (append-nil (posted_rows shown.rows))) shown.held
    (begun_under_way a known old.place old.slots shown.rows old.transfers old.queues.unexpected to q.key context tag
    (length core.jobs) c shown.under_way shown.table sent.fresh
    (rows_counted a old known core shown) may.there may.apart may.free may.within may.limit)
    (after_grows a (announcement_of core (endpoint_of known to) context tag c.basic c.values ∷ [])) tt refl refl

-- a large send to another rank
pub large_send_shown : (a : Announcements) (old new : CoreState) (known : List ℕ) (core : Core) (s : RoutedSend)
    (q : Request) (to tag : ℕ) → IsShown a old known core → old.blocked ≡ None →
    s.route.named ≡ Rank to → s.send.tag ≡ Some tag → (to == old.place.endpoint.rank) ≡ false → KeepsRules old.place s →
    IsWithin (calls.Isend s) → is_announced old.place.message_limit s.send.mode (sent_from s.send.from) ≡ true →
    free_fault old (calls.Isend s) ≡ None → IsSending old s q new →
    IsCalled a old known core (calls.Isend s) (calls.Started q) new
large_send_shown a old new known core s q to tag shown free target_is tag_is other kept within large fine is_sent =
    started_call a old new known core (calls.Isend s) q after (record {
      is = called_send core own s ∙
          (ap₂ (λ (t : Source) (g : Option ℕ). core_sent s.send.mode own core s.route.context t g c) target_is tag_is
          ∙ core_announces s.send.mode core own to (slice_index known to) s.route.context tag c other
          (subst (λ (l : MessageLimit). is_announced l s.send.mode c ≡ true) (sym shown.limited) may.large)
          (shown.known_alike to));
      fit = send_fit old.place core s core_is kept;
      place = ap (λ (x : CoreState). x.place) sent.rest;
      completion = ap (λ (x : CoreState). x.completion) sent.rest;
      free = core_is;
      shown = shown_free (after_out a after.out) new known after.core rows
          (subst (λ (x : CoreState). Holding (after_out a after.out) x known after.core rows) (sym sent.rest)
          (large_holds s.send.mode a old known core q new to s.route.context tag c shown may sent))
          (ap (λ (x : CoreState). x.blocked) sent.rest ∙ free) core_is;
      sends = subst
          (λ (f : Option OutgoingText). AreSent (after_out a after.out) (all_gone known (as_list f)) after.out)
          (sym frame_is)
          (announcing_sent s.send.mode a known to (next_to old.transfers.numbers to) s.route.context tag
          (length core.jobs) c
          (shown.under_way.numbered.begun to may.there may.apart));
      leaves = subst (λ (f : Option OutgoingText). AllByRecursion (CanLeave old.place) (as_list f)) (sym frame_is) (
        announcing_leaves s.send.mode old.place to (next_to old.transfers.numbers to) s.route.context tag c may.wide
            may.there
            may.apart may.low may.limit (shown.under_way.numbered.most to),
        tt,
      );
      reply = ap (λ (n : ℕ). Some (call_seen (calls.Isend s), Some (machine.Started n)))
          (serial_told a old known core q shown sent.serial);
    })
  where
    own : Endpoint
    own = old.place.endpoint

    c : Contents
    c = sent_from s.send.from

    after : Effect
    after = effect (core_offering core (endpoint_of known to) c.basic c.values)
        (announcement_of core (endpoint_of known to) s.route.context tag c.basic c.values ∷ [])

    may : MayAnnounce s.send.mode old to s.route.context tag c
    may = may_announce old s to tag target_is tag_is other kept within large fine

    sent : IsOffering old to c q new
    sent = large_sending old new s q to tag target_is tag_is other large is_sent

    rows : List Row
    rows = shown.rows ++ offering_row q.key (endpoint_of known to) c ∷ []

    core_is : core.blocked ≡ None
    core_is = core_free a old known core shown free

    frame_is : frame_of old s ≡ Some (announcing_frame s.send.mode old to s.route.context tag c)
    frame_is = large_frame old s to tag target_is tag_is other large
