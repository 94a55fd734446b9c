-- Each happening of an explored run is one event of the run in which receives are posted where they were begun.
use Rattle.std.proofs.Common.{◌≡◌, ℕ, Bool, true, false, List, [], ◌∷◌, ◌++◌, length, map, Option, Some, None}
use Rattle.std.proofs.Common.{if◌then◌else◌, slice_get, slice_set, refl, sym, ap, ap₂, ◌∙◌, subst, inl, inr}
use Rattle.std.specs.Prelude.{option_and_then, option_map}
use Rattle.std.proofs.lemmas.List.{map-append}
use Rattle.perfect_queues.specs.Buffers.{data_of}
use Rattle.perfect_queues.specs.Calls.{Call, Cancel, Improbe, Iprobe, Irecv, Isend, Mrecv, Reply, Started, Test, Wait}
use Rattle.perfect_queues.specs.Calls.{after_answer, after_call, after_settling, after_test, immediate_reply, is_eager}
use Rattle.perfect_queues.specs.Calls.{message_sent}
use Rattle.perfect_queues.specs.Calls.{message_to, probe_begun, ready_answer, search_begun, receiver, send, test_reply}
use Rattle.perfect_queues.specs.Completions.{Answer, ForOne, Looks, One, Saw, Searches, Took, answer_to, completion}
use Rattle.perfect_queues.specs.Completions.{outcome_at}
use Rattle.perfect_queues.specs.Events.{At, Called, Entry, Event, IsEvent, after_event, call_and_reply, call_fault}
use Rattle.perfect_queues.specs.Events.{entries, settle, start, told}
use Rattle.perfect_queues.specs.Messages.{Message}
use Rattle.perfect_queues.specs.Receives.{Probe, Receive, is_from, such_receive}
use Rattle.perfect_queues.specs.Outcomes.{Outcome, status_of}
use Rattle.perfect_queues.specs.Refusals.{is_held, standing}
use Rattle.perfect_queues.specs.Requests.{Matched, Posted, TakenOut, changed, used_up}
use Rattle.perfect_queues.specs.Runs.{after_run}
use Rattle.perfect_queues.specs.State.{Local, State, put}
use Rattle.perfect_queues.specs.Steps.{Allowed, AreSteps, Match, MayFind, See, Step, TakeOut, after_step, step_at}
use Rattle.perfect_queues.specs.Steps.{steps_at}
use Rattle.proof_late_posting.proofs.Completing.{completion_by, used_by}
use Rattle.proof_late_posting.proofs.Lists.{get_more, is_set, set_last, within}
use Rattle.proof_late_posting.proofs.Parts.{call_tied, fault_none, is_free, is_posted, outcomes, queue_with, ready_same}
use Rattle.proof_late_posting.proofs.Parts.{filed_without, named_accepts, none_earlier, test_free, tied_message}
use Rattle.proof_late_posting.proofs.Parts.{tied_settled}
use Rattle.proof_late_posting.proofs.Parts.{tied_used}
use Rattle.proof_late_posting.proofs.Judging.{probe_taken, search_taken, wait_taken}
use Rattle.proof_late_posting.proofs.Peeking.{counts_unseen, fits_unseen, looks_free, peek_steps, row_unseen}
use Rattle.proof_late_posting.proofs.Peeking.{rows_unseen}
use Rattle.proof_late_posting.proofs.Tied.{tied_kept, tied_more, tied_told, waiting_cases}
use Rattle.proof_late_posting.proofs.Worlds.{at_put, cut, put_known, put_own, put_own_same, put_same}
use Rattle.proof_late_posting.proofs.Worlds.{put_tied}
use Rattle.proof_late_posting.proofs.Worlds.{put_both_twice, put_own_twice, put_twice, row_same, steps_follow}
use Rattle.proof_late_posting.proofs.Worlds.{steps_found, steps_free, unwanted}
use Rattle.proof_late_posting.specs.Explored.{AreAlike, HappeningsAreFollowed, IsFollowed}
use Rattle.proof_late_posting.specs.Explored.{CallCounts, CallFits, Counts, Fits, Goes, Happening}
use Rattle.proof_late_posting.specs.Explored.{Keeps, MaySee}
use Rattle.proof_late_posting.specs.Explored.{Ends, Peeks, Sees, Takes, Tries}
use Rattle.proof_late_posting.specs.Explored.{Names, Rows, Tells, events_of}
use Rattle.proof_late_posting.specs.Explored.{heard_of, row_after_call, rows_after}
use Rattle.proof_late_posting.specs.Explored.{with_row}
use Rattle.proof_late_posting.specs.Places.{Places, StandApart, call_by, entry_by, message_by, reply_by, unanswered_by}
use Rattle.proof_late_posting.specs.Ties.{AreTied, IsTied, NoneMeets, Row, named, named_probe, told_of}
use Rattle.vocabulary.specs.declared.basic_type.BasicType.{BasicType}
use Rattle.vocabulary.specs.declared.endpoint.Endpoint.{Endpoint}
use Rattle.vocabulary.specs.declared.envelope.Source.{Source}
use Rattle.vocabulary.specs.declared.envelope.Status.{Status}
use Rattle.vocabulary.specs.declared.envelope.Source.TheVariants.{Any, Null, Rank}
use Rattle.vocabulary.specs.declared.message_limit.MessageLimit.{MessageLimit}
use Rattle.vocabulary.specs.declared.mode.Mode.{Mode}

-- A CALL'S MESSAGE

abbrev renamed : Places → Endpoint × Message → Endpoint × Message
renamed places t = (t.0, message_by (places t.1.sender) t.1)

sent_here : (places : Places) (limit : MessageLimit) (mode : Mode) (e d : Endpoint) (c tag : ℕ) (basic : BasicType)
    (values : List ℕ) (k : ℕ) →
    message_to limit mode e d c tag basic values (places e k)
    ≡ renamed places (message_to limit mode e d c tag basic values k)
sent_here places limit mode e d c tag basic values k = go (is_eager limit mode e d basic values)
  where
    go : (b : Bool) →
        ◌≡◌ {A = Endpoint × Message} (
          d,
          record {
            sender = e;
            context = c;
            tag = tag;
            basic = basic;
            values = values;
            request = if b then None else Some (places e k);
          },
        ) (
          d,
          record {
            sender = e;
            context = c;
            tag = tag;
            basic = basic;
            values = values;
            request = option_map (places e) (if b then None else Some k);
          },
        )
    go true = refl
    go false = refl

message_same : (places : Places) (e : Endpoint) (row : Row) (own known : Local) → IsTied places e row own known →
    (c : Call) → CallCounts places e known row (Some c) →
    message_sent e own (call_by (places e) c) ≡ option_map (renamed places) (message_sent e known c)
message_same places e row own known t (Isend mode c (Rank to) (Some tag) b) count =
    ap₂
    (λ limit f.
    Some (message_to limit mode e (receiver f to) c tag b.buffer.basic (data_of b) (length own.requests)))
    t.limit t.learnt
    ∙ ap
    (λ k.
    Some (message_to known.message_limit mode e (receiver known.known to) c tag b.buffer.basic (data_of b) k))
    (t.requests.same_length ∙ sym count)
    ∙ ap (λ v. Some v)
    (sent_here places known.message_limit mode e (receiver known.known to) c tag b.buffer.basic (data_of b)
    (length known.requests))
message_same places e row own known t (Isend mode c (Rank to) None b) count = refl
message_same places e row own known t (Isend mode c Any tag b) count = refl
message_same places e row own known t (Isend mode c Null tag b) count = refl
message_same places e row own known t (Irecv p) count = refl
message_same places e row own known t (Wait a) count = refl
message_same places e row own known t (Test r) count = refl
message_same places e row own known t (Cancel r) count = refl
message_same places e row own known t (Iprobe q) count = refl
message_same places e row own known t (Improbe q) count = refl
message_same places e row own known t (Mrecv k into) count = refl

send_alike : (places : Places) (rows : Rows) (own known : State) → AreAlike places rows own known →
    (o : Option (Endpoint × Message)) →
    AreAlike places rows (send own (option_map (renamed places) o)) (send known o)
send_alike places rows own known a None = a
send_alike places rows own known a (Some (d, m)) =
    put_same places rows own known a d _ _ (tied_message places d (rows d) (own.at d) (known.at d) (a.tied d) m)

abbrev asked : Places → Endpoint → Option Call → Option Call
asked places e call = option_map (call_by (places e)) call

start_alike : (places : Places) → StandApart places → (n : ℕ) (rows : Rows) (own known : State) →
    AreAlike places rows own known → (e : Endpoint) (call : Option Call) → call_fault n (known.at e) call ≡ None →
    CallFits (rows e) call → CallCounts places e (known.at e) (rows e) call →
    AreAlike places (with_row rows e (row_after_call (rows e) call)) (start own e (asked places e call))
    (start known e call)
start_alike places apart n rows own known a e None h fits count = row_same places rows own known a e
start_alike places apart n rows own known a e (Some c) h fits count =
    let after =
    put_tied places rows own known a e (row_after_call (rows e) (Some c))
    (after_call e (own.at e) (call_by (places e) c)) (after_call e (known.at e) c)
    (call_tied places e (apart e) n c (rows e) (own.at e) (known.at e) (a.tied e) h fits count) in
    subst
    (λ o.
    AreAlike places (with_row rows e (row_after_call (rows e) (Some c)))
    (send (put own e (after_call e (own.at e) (call_by (places e) c))) o) (start known e (Some c)))
    (sym (message_same places e (rows e) (own.at e) (known.at e) (a.tied e) c count))
    (send_alike places (with_row rows e (row_after_call (rows e) (Some c)))
    (put own e (after_call e (own.at e) (call_by (places e) c))) (put known e (after_call e (known.at e) c)) after
    (message_sent e (known.at e) c))

settle_alike : (places : Places) → StandApart places → (rows : Rows) (own known : State) →
    AreAlike places rows own known → (e : Endpoint) → AreAlike places rows (settle own e) (settle known e)
settle_alike places apart rows own known a e =
    put_same places rows own known a e (after_settling (own.at e)) (after_settling (known.at e))
    (tied_settled places e (apart e) (rows e) (own.at e) (known.at e) (a.tied e))

-- WHAT IS TOLD

told_same : (places : Places) (e : Endpoint) (c : Call) (r : Option Reply) (o : Option (Answer × List ℕ)) →
    told e (Some (call_by (places e) c, option_map (reply_by (places e)) r)) (option_map (used_by (places e)) o)
    ≡ map (entry_by places) (told e (Some (c, r)) o)
told_same places e c (Some r) o = refl
told_same places e c None (Some (a, ks)) = refl
told_same places e c None None = refl

told_free : (places : Places) (e : Endpoint) (o : Option (Answer × List ℕ)) →
    told e None (option_map (used_by (places e)) o) ≡ map (entry_by places) (told e None o)
told_free places e None = refl
told_free places e (Some (a, ks)) = refl

test_same : (g : ℕ → ℕ) (o : Option (Answer × List ℕ)) →
    ◌≡◌ {A = Option Reply} (Some (test_reply (option_map (used_by g) o)))
    (option_map (reply_by g) (Some (test_reply o)))
test_same g None = refl
test_same g (Some (a, ks)) = refl

reply_same : (places : Places) → StandApart places → (e : Endpoint) (row : Row) (own known : Local) →
    IsTied places e row own known → (c : Call) → CallCounts places e known row (Some c) →
    immediate_reply own (call_by (places e) c) ≡ option_map (reply_by (places e)) (immediate_reply known c)
reply_same places apart e row own known t (Isend mode c to tag b) count =
    ap (λ k. Some (Started k)) (t.requests.same_length ∙ sym count)
reply_same places apart e row own known t (Irecv p) count =
    ap (λ k. Some (Started k)) (t.requests.same_length ∙ sym count)
reply_same places apart e row own known t (Wait a) count = refl
reply_same places apart e row own known t (Test r) count =
    ap (λ v. Some (test_reply v))
    (completion_by (places e) (outcome_at own.requests) (outcome_at known.requests)
    (outcomes places e (apart e) row own.requests known.requests t.requests) (One r))
    ∙ test_same (places e) (completion (outcome_at known.requests) (One r))
reply_same places apart e row own known t (Cancel r) count = refl
reply_same places apart e row own known t (Iprobe q) count = refl
reply_same places apart e row own known t (Improbe q) count = refl
reply_same places apart e row own known t (Mrecv None into) count = refl
reply_same places apart e row own known t (Mrecv (Some k) into) count = refl

entries_same : (places : Places) → StandApart places → (e : Endpoint) (row : Row) (own known : Local) →
    IsTied places e row own known → (call : Option Call) → CallCounts places e known row call →
    (o p : Option (Answer × List ℕ)) → p ≡ option_map (used_by (places e)) o →
    told e (call_and_reply own (asked places e call)) p
    ≡ map (entry_by places) (told e (call_and_reply known call) o)
entries_same places apart e row own known t None count o p h = ap (told e None) h ∙ told_free places e o
entries_same places apart e row own known t (Some c) count o p h =
    ap₂ (λ r v. told e (Some (call_by (places e) c, r)) v) (reply_same places apart e row own known t c count) h
    ∙ told_same places e c (immediate_reply known c) o

-- EACH HAPPENING

-- the event of the program's run
abbrev Follows : (n : ℕ) → Places → (rows : Rows) → (own known : State) → Happening → Type 0
Follows n places rows own known h =
    (v : Event) × (IsEvent n own v) × (entries own v ≡ heard_of places known rows h)
    × AreAlike places (rows_after rows h) (after_event own v) (after_run known (events_of known h))

no_more : (es : List Entry) → es ++ [] ≡ es
no_more [] = refl
no_more (e ∷ es) = ap (λ ds. e ∷ ds) (no_more es)

module _ (n : ℕ) (places : Places) (apart : StandApart places) (rows : Rows) (own known : State)
    (a : AreAlike places rows own known) where
  at_present : (e : Endpoint) → e.incarnation ≡ known.current e.rank → e.incarnation ≡ own.current e.rank
  at_present e h = h ∙ ap (λ (f : ℕ → ℕ). f e.rank) (sym a.current)

  fit : (e : Endpoint) (call : Option Call) → call_fault n (known.at e) call ≡ None →
      call_fault n (own.at e) (asked places e call) ≡ None
  fit e None h = refl
  fit e (Some c) h = fault_none places e (apart e) (rows e) (own.at e) (known.at e) (a.tied e) n c h

  goes : (e : Endpoint) (call : Option Call) (steps : List Step) →
      Fits n known rows (Goes e call steps) →
      Counts places known rows (Goes e call steps) →
      Follows n places rows own known (Goes e call steps)
  goes e call steps fits count =
      let h = fits.0 in
      let begun = start_alike places apart n rows own known a e call h.fit fits.1 count.0 in
      let rest =
      steps_follow places apart e steps (with_row rows e (row_after_call (rows e) call))
      (start own e (asked places e call)) (start known e call) begun h.steps fits.2 count.1 in
      let end = rest.2 in (
        At e (asked places e call) rest.0,
        record {
          inside = h.inside;
          current = at_present e h.current;
          fit = fit e call h.fit;
          steps = rest.1;
        },
        entries_same places apart e (rows e) (own.at e) (known.at e) (a.tied e) call count.0
            (ready_answer ((steps_at (start known e call) e steps).at e))
            (ready_answer ((steps_at (start own e (asked places e call)) e rest.0).at e))
            (ready_same places e (apart e) (rows_after rows (Goes e call steps) e)
            ((steps_at (start own e (asked places e call)) e rest.0).at e)
            ((steps_at (start known e call) e steps).at e) (end.tied e)),
        settle_alike places apart (rows_after rows (Goes e call steps))
            (steps_at (start own e (asked places e call)) e rest.0) (steps_at (start known e call) e steps) end e,
      )

  -- a call that isn't blocked settles as it is
  settled_free : (l : Local) → l.blocked ≡ None → after_settling l ≡ l
  settled_free l h =
      ap (after_answer l) (ap (option_and_then (answer_to (outcome_at l.requests))) h)

  ready_free : (l : Local) → l.blocked ≡ None → ready_answer l ≡ None
  ready_free l h = ap (option_and_then (answer_to (outcome_at l.requests))) h

  own_free : (e : Endpoint) (p : Receive) → call_fault n (known.at e) (Some (Irecv p)) ≡ None →
      (own.at e).blocked ≡ None
  own_free e p h =
      (a.tied e).blocked ∙ ap (option_map (unanswered_by (places e))) (is_free n (known.at e) p h)

  keeps : (e : Endpoint) (p : Receive) → Fits n known rows (Keeps e p) → Counts places known rows (Keeps e p) →
      Follows n places rows own known (Keeps e p)
  keeps e p fits count =
      let h = fits.0 in
      let t = a.tied e in
      let row : Row = rows e ++ Some p ∷ [] in
      let l : Local = after_call e (own.at e) (Irecv p) in
      let tied : IsTied places e row l (known.at e) =
      record {
        requests =
            subst
            (λ r. AreTied places (places e) row ((own.at e).requests ++ r ∷ []) (known.at e).requests)
            (sym (is_posted p.source p fits.1))
            (tied_kept places (places e) (apart e) (rows e) (own.at e).requests (known.at e).requests p fits.1
            t.requests);
        blocked = t.blocked;
        learnt = t.learnt;
        queue = t.queue;
        limit = t.limit;
        filed = t.filed;
      } in
      let begun = put_own places rows own known a e row l tied in
      let free : ((put own e l).at e).blocked ≡ None =
      ap (λ (x : Local). x.blocked) (at_put own e l) ∙ own_free e p h.fit in (
        At e (Some (Irecv p)) [],
        record {
          inside = h.inside;
          current = at_present e h.current;
          fit = fit e (Some (Irecv p)) h.fit;
          steps = tt;
        },
        ap (λ k. Called e (Irecv p) (Started k) ∷ []) t.requests.same_length,
        put_own_same places (with_row rows e row) (put own e l) known begun e (after_settling ((put own e l).at e))
            (subst
            (λ x. IsTied places e (with_row rows e row e) x (known.at e))
            (sym (settled_free ((put own e l).at e) free))
            (begun.tied e)),
      )

  -- nothing is told where a receive that was kept back is posted
  nothing_told : (e : Endpoint) (p : Receive) → call_fault n (known.at e) (Some (Irecv p)) ≡ None →
      (ys : List Step) → AreSteps own e ys → told e None (ready_answer ((steps_at own e ys).at e)) ≡ []
  nothing_told e p h ys are =
      ap (told e None) (ready_free ((steps_at own e ys).at e) (steps_free e ys own (own_free e p h) are))

  tells : (e : Endpoint) (i : ℕ) (p : Receive) (steps : List Step) →
      Fits n known rows (Tells e i p steps) →
      Counts places known rows (Tells e i p steps) →
      Follows n places rows own known (Tells e i p steps)
  tells e i p steps fits count =
      let h = fits.0 in
      let may = fits.1 in
      let t = a.tied e in
      let k : Local = after_call e (known.at e) (Irecv p) in
      let get : slice_get (own.at e).requests i ≡ Some (Posted p) = t.requests.kept i p may.is_kept in
      let tied : IsTied places e (told_of (rows e) i) (own.at e) k =
      record {
        requests =
            subst
            (λ r.
            AreTied places (places e) (told_of (rows e) i) (own.at e).requests ((known.at e).requests ++ r ∷ []))
            (sym (is_posted p.source p (t.requests.of_ranks i p may.is_kept)))
            (tied_told places (places e) (apart e) (rows e) (told_of (rows e) i) (own.at e).requests
            (own.at e).requests (known.at e).requests i p (Posted p) (Posted p) t.requests may.is_kept count.0
            (record { here = get; others = λ j ne. refl; same_length = refl })
            (is_set (rows e) i (Some p) None may.is_kept) refl
            (λ o g.
            let same : o ≡ p = cc in (same, subst (λ v. NoneMeets (rows e) i v) (sym same) may.unmet)));
        blocked = t.blocked;
        learnt = t.learnt;
        queue = t.queue;
        limit = t.limit;
        filed = t.filed;
      } in
      let begun = put_known places rows own known a e (told_of (rows e) i) k tied in
      let rest =
      steps_follow places apart e steps (with_row rows e (told_of (rows e) i)) own (put known e k) begun h.steps
      fits.2 count.1 in
      let end = rest.2 in (
        At e None rest.0,
        record { inside = h.inside; current = at_present e h.current; fit = refl; steps = rest.1 },
        nothing_told e p h.fit rest.0 rest.1,
        settle_alike places apart (rows_after rows (Tells e i p steps)) (steps_at own e rest.0)
            (steps_at (put known e k) e steps) end e,
      )

  names : (e : Endpoint) (i : ℕ) (p : Receive) (earlier : List Message) (m : Message) (later : List Message)
      (steps : List Step) →
      Fits n known rows (Names e i p earlier m later steps) →
      Counts places known rows (Names e i p earlier m later steps) →
      Follows n places rows own known (Names e i p earlier m later steps)
  names e i p earlier m later steps fits count =
      let h = fits.0 in
      let may = fits.1 in
      let t = a.tied e in
      let q : Receive = named p m.sender.rank in
      let k : Local = after_call e (known.at e) (Irecv q) in
      let x : Step = Match (length (known.at e).requests) q earlier m later in
      let f : Message → Message = message_by (places m.sender) in
      let y : Step = Match i p (map f earlier) (f m) (map f later) in
      let get : slice_get (own.at e).requests i ≡ Some (Posted p) = t.requests.kept i p may.is_kept in
      let allowed : Allowed k x = subst (λ z. Allowed z x) (at_put known e k) h.steps.0 in
      let own_allowed : Allowed (own.at e) y =
      record {
        pending = get;
        stands =
            cut places m ((own.at e).queue m.sender m.context) ((known.at e).queue m.sender m.context) earlier later
            (t.queue m.sender m.context) allowed.stands;
        accepted = named_accepts p m allowed.accepted may.is_one;
        no_earlier_receive = λ j o less g.
            elim (waiting_cases places (places e) (apart e) (rows e) (own.at e).requests (known.at e).requests
            t.requests j o g) [
              | inl kept ↦ may.unwanted j o less kept
              | inr b ↦
                  allowed.no_earlier_receive b.0 o (within (known.at e).requests b.0 (Posted o) b.2)
                  (get_more (known.at e).requests (Posted q) (Posted o) b.0 b.2)
            ];
        no_earlier_message =
            none_earlier (places m.sender) p m ((known.at e).queue m.sender m.context) earlier later
            allowed.no_earlier_message allowed.stands (t.filed m.sender m.context);
      } in
      let tied : IsTied places e (told_of (rows e) i) (after_step (own.at e) y) (after_step k x) =
      record {
        requests =
            subst
            (λ rs.
            AreTied places (places e) (told_of (rows e) i) (slice_set (own.at e).requests i (Matched p (f m))) rs)
            (sym (set_last (known.at e).requests (Posted q) (Matched q m)))
            (tied_told places (places e) (apart e) (rows e) (told_of (rows e) i) (own.at e).requests
            (slice_set (own.at e).requests i (Matched p (f m))) (known.at e).requests i p (Matched p (f m))
            (Matched q m) t.requests may.is_kept count.0
            (is_set (own.at e).requests i (Posted p) (Matched p (f m)) get)
            (is_set (rows e) i (Some p) None may.is_kept) (p, f m, refl, refl) (λ o g. absurd cc));
        blocked = t.blocked;
        learnt = t.learnt;
        queue =
            queue_with places (own.at e).queue (known.at e).queue t.queue m.sender m.context
            (map f earlier ++ map f later) (earlier ++ later) (sym (map-append f earlier later));
        limit = t.limit;
        filed = filed_without (known.at e).queue t.filed earlier m later allowed.stands;
      } in
      let begun =
      put_twice places rows own known a e (told_of (rows e) i) (after_step (own.at e) y) k
      (after_step ((put known e k).at e) x)
      (subst
      (λ z. IsTied places e (told_of (rows e) i) (after_step (own.at e) y) (after_step z x))
      (sym (at_put known e k))
      tied) in
      let rest =
      steps_follow places apart e steps (with_row rows e (told_of (rows e) i)) (step_at own e y)
      (step_at (put known e k) e x) begun h.steps.2 fits.2 count.1 in
      let end = rest.2 in (
        At e None (y ∷ rest.0),
        record {
          inside = h.inside;
          current = at_present e h.current;
          fit = refl;
          steps = (own_allowed, tt, rest.1);
        },
        nothing_told e q h.fit (y ∷ rest.0) (own_allowed, tt, rest.1),
        settle_alike places apart (rows_after rows (Names e i p earlier m later steps))
            (steps_at (step_at own e y) e rest.0) (steps_at (step_at (put known e k) e x) e steps) end e,
      )

  -- PROBES WITH A SOURCE NAMED

  looks_first : (q : Probe) (r : ℕ) → is_from q.source r ≡ true → probe_begun q.source q ≡ Looks q
  looks_first q r h = go q.source h
    where
      go : (s : Source) → is_from s r ≡ true → probe_begun s q ≡ Looks q
      go Any g = refl
      go (Rank x) g = refl
      go Null g = absurd cc

  searches_first : (q : Probe) (r : ℕ) → is_from q.source r ≡ true → search_begun q.source q ≡ Searches q
  searches_first q r h = go q.source h
    where
      go : (s : Source) → is_from s r ≡ true → search_begun s q ≡ Searches q
      go Any g = refl
      go (Rank x) g = refl
      go Null g = absurd cc

  -- what the probe finds, where it has the source named
  finds : (e : Endpoint) (q : Probe) (earlier : List Message) (m : Message) (later : List Message) →
      MayFind (known.at e) (named_probe q m.sender.rank) earlier m later → MaySee (rows e) q m →
      MayFind (own.at e) q (map (message_by (places m.sender)) earlier) (message_by (places m.sender) m)
      (map (message_by (places m.sender)) later)
  finds e q earlier m later h may =
      record {
        stands =
            cut places m ((own.at e).queue m.sender m.context) ((known.at e).queue m.sender m.context) earlier later
            ((a.tied e).queue m.sender m.context) h.stands;
        accepted = named_accepts (such_receive q) m h.accepted may.0;
        no_receive = unwanted places apart rows own known a e m may.1 h.no_receive;
        no_earlier_message =
            none_earlier (places m.sender) (such_receive q) m ((known.at e).queue m.sender m.context) earlier later
            h.no_earlier_message h.stands ((a.tied e).filed m.sender m.context);
      }

  sees : (e : Endpoint) (q : Probe) (earlier : List Message) (m : Message) (later : List Message)
      (steps : List Step) →
      Fits n known rows (Sees e q earlier m later steps) →
      Counts places known rows (Sees e q earlier m later steps) →
      Follows n places rows own known (Sees e q earlier m later steps)
  sees e q earlier m later steps fits count =
      let h = fits.0 in
      let t = a.tied e in
      let r : Probe = named_probe q m.sender.rank in
      let status : Status = status_of (such_receive q) m in
      let k : Local = after_call e (known.at e) (Iprobe r) in
      let l : Local = after_call e (own.at e) (Iprobe q) in
      let x : Step = See r earlier m later in
      let f : Message → Message = message_by (places m.sender) in
      let y : Step = See q (map f earlier) (f m) (map f later) in
      let allowed : Allowed k x = subst (λ z. Allowed z x) (at_put known e k) h.steps.0 in
      let found : MayFind (own.at e) q (map f earlier) (f m) (map f later) =
      finds e q earlier m later
      (record {
        stands = allowed.1.stands;
        accepted = allowed.1.accepted;
        no_receive = allowed.1.no_receive;
        no_earlier_message = allowed.1.no_earlier_message;
      })
      fits.1 in
      let own_allowed : Allowed l y = (
        ap (λ v. Some v) (looks_first q m.sender.rank fits.1.0),
        record {
          stands = found.stands;
          accepted = found.accepted;
          no_receive = found.no_receive;
          no_earlier_message = found.no_earlier_message;
        },
      ) in
      let there : Allowed ((put own e l).at e) y = subst (λ z. Allowed z y) (sym (at_put own e l)) own_allowed in
      let tied : IsTied places e (rows e) (after_step l y) (after_step k x) =
      record {
        requests = t.requests;
        blocked = refl;
        learnt = t.learnt;
        queue = t.queue;
        limit = t.limit;
        filed = t.filed;
      } in
      let begun =
      put_both_twice places rows own known a e (rows e) l (after_step ((put own e l).at e) y) k
      (after_step ((put known e k).at e) x)
      (subst
      (λ z. IsTied places e (rows e) (after_step z y) (after_step ((put known e k).at e) x))
      (sym (at_put own e l))
      (subst
      (λ z. IsTied places e (rows e) (after_step l y) (after_step z x))
      (sym (at_put known e k))
      tied)) in
      let rest =
      steps_follow places apart e steps (with_row rows e (rows e)) (step_at (put own e l) e y)
      (step_at (put known e k) e x) begun h.steps.2 fits.2 count in
      let end = rest.2 in
      let blocked : ((steps_at (step_at (put own e l) e y) e rest.0).at e).blocked ≡ Some (Saw status) =
      steps_found e rest.0 (step_at (put own e l) e y) (Saw status)
      (ap (λ (z : Local). z.blocked) (at_put (put own e l) e (after_step ((put own e l).at e) y)))
      tt rest.1 in (
        At e (Some (Iprobe q)) (y ∷ rest.0),
        record {
          inside = h.inside;
          current = at_present e h.current;
          fit =
              fit e (Some (Iprobe q))
              (probe_taken n (known.at e).message_limit (is_held (known.at e).blocked)
              (λ j. standing (slice_get (known.at e).requests j)) q m.sender.rank fits.1.0 h.fit);
          steps = (there, tt, rest.1);
        },
        ap (told e (Some (Iprobe q, None)))
            (ap
            (option_and_then
            (answer_to (outcome_at ((steps_at (step_at (put own e l) e y) e rest.0).at e).requests)))
            blocked),
        settle_alike places apart (rows_after rows (Sees e q earlier m later steps))
            (steps_at (step_at (put own e l) e y) e rest.0) (steps_at (step_at (put known e k) e x) e steps) end e,
      )

  takes : (e : Endpoint) (q : Probe) (earlier : List Message) (m : Message) (later : List Message)
      (steps : List Step) →
      Fits n known rows (Takes e q earlier m later steps) →
      Counts places known rows (Takes e q earlier m later steps) →
      Follows n places rows own known (Takes e q earlier m later steps)
  takes e q earlier m later steps fits count =
      let h = fits.0 in
      let t = a.tied e in
      let r : Probe = named_probe q m.sender.rank in
      let status : Status = status_of (such_receive q) m in
      let row : Row = rows e ++ None ∷ [] in
      let k : Local = after_call e (known.at e) (Improbe r) in
      let l : Local = after_call e (own.at e) (Improbe q) in
      let x : Step = TakeOut r earlier m later in
      let f : Message → Message = message_by (places m.sender) in
      let y : Step = TakeOut q (map f earlier) (f m) (map f later) in
      let allowed : Allowed k x = subst (λ z. Allowed z x) (at_put known e k) h.steps.0 in
      let found : MayFind (own.at e) q (map f earlier) (f m) (map f later) =
      finds e q earlier m later
      (record {
        stands = allowed.1.stands;
        accepted = allowed.1.accepted;
        no_receive = allowed.1.no_receive;
        no_earlier_message = allowed.1.no_earlier_message;
      })
      fits.1 in
      let own_allowed : Allowed l y = (
        ap (λ v. Some v) (searches_first q m.sender.rank fits.1.0),
        record {
          stands = found.stands;
          accepted = found.accepted;
          no_receive = found.no_receive;
          no_earlier_message = found.no_earlier_message;
        },
      ) in
      let there : Allowed ((put own e l).at e) y = subst (λ z. Allowed z y) (sym (at_put own e l)) own_allowed in
      let tied : IsTied places e row (after_step l y) (after_step k x) =
      record {
        requests =
            tied_more places (places e) (apart e) (rows e) (own.at e).requests (known.at e).requests
            (TakenOut q.group (Some (f m))) (TakenOut q.group (Some m)) t.requests count.0 refl (λ o g. absurd cc);
        blocked = ap (λ j. Some (Took (Some j) status)) (t.requests.same_length ∙ sym count.0);
        learnt = t.learnt;
        queue =
            queue_with places (own.at e).queue (known.at e).queue t.queue m.sender m.context
            (map f earlier ++ map f later) (earlier ++ later) (sym (map-append f earlier later));
        limit = t.limit;
        filed = filed_without (known.at e).queue t.filed earlier m later allowed.1.stands;
      } in
      let begun =
      put_both_twice places rows own known a e row l (after_step ((put own e l).at e) y) k
      (after_step ((put known e k).at e) x)
      (subst
      (λ z. IsTied places e row (after_step z y) (after_step ((put known e k).at e) x))
      (sym (at_put own e l))
      (subst
      (λ z. IsTied places e row (after_step l y) (after_step z x))
      (sym (at_put known e k))
      tied)) in
      let rest =
      steps_follow places apart e steps (with_row rows e row) (step_at (put own e l) e y)
      (step_at (put known e k) e x) begun h.steps.2 fits.2 count.1 in
      let end = rest.2 in
      let blocked :
      ((steps_at (step_at (put own e l) e y) e rest.0).at e).blocked
      ≡ Some (Took (Some (length (own.at e).requests)) status) =
      steps_found e rest.0 (step_at (put own e l) e y) (Took (Some (length (own.at e).requests)) status)
      (ap (λ (z : Local). z.blocked) (at_put (put own e l) e (after_step ((put own e l).at e) y))
      ∙ ap (λ (z : Local). (after_step z y).blocked) (at_put own e l))
      tt rest.1 in (
        At e (Some (Improbe q)) (y ∷ rest.0),
        record {
          inside = h.inside;
          current = at_present e h.current;
          fit =
              fit e (Some (Improbe q))
              (search_taken n (known.at e).message_limit (is_held (known.at e).blocked)
              (λ j. standing (slice_get (known.at e).requests j)) q m.sender.rank fits.1.0 h.fit);
          steps = (there, tt, rest.1);
        },
        ap (told e (Some (Improbe q, None)))
            (ap
            (option_and_then
            (answer_to (outcome_at ((steps_at (step_at (put own e l) e y) e rest.0).at e).requests)))
            (blocked ∙ ap (λ j. Some (Took (Some j) status)) t.requests.same_length)),
        settle_alike places apart (rows_after rows (Takes e q earlier m later steps))
            (steps_at (step_at (put own e l) e y) e rest.0) (steps_at (step_at (put known e k) e x) e steps) end e,
      )

  -- THE EXPLORER LOOKS FOR ITSELF

  peeks : (e : Endpoint) (q : Probe) (steps : List Step) →
      Fits n known rows (Peeks e q steps) →
      Counts places known rows (Peeks e q steps) →
      Follows n places rows own known (Peeks e q steps)
  peeks e q steps h count =
      let free = looks_free n (known.at e) q h.fit in
      let unseen = peek_steps known e q steps free a.never_anew h.steps in
      let ys : List Step = unseen.0 in
      let its =
      goes e None ys (
        record { inside = h.inside; current = h.current; fit = refl; steps = unseen.1 },
        tt,
        fits_unseen ys e (with_row rows e (rows e)) unseen.2,
      )
      (tt, counts_unseen places ys known e (with_row rows e (rows e)) unseen.2) in (
        its.0,
        its.1,
        its.2
            ∙ ap (λ o. map (entry_by places) (told e None o))
            (ready_free ((steps_at known e ys).at e) (steps_free e ys known free unseen.1)),
        record {
          current = its.3.current ∙ unseen.4;
          never_anew = λ r. ap (λ (f : ℕ → ℕ). f r) (sym unseen.4) ∙ its.3.never_anew r;
          tied = λ z.
              subst
              (λ v.
              IsTied places z v ((after_event own its.0).at z)
              ((after_event known (At e (Some (Iprobe q)) steps)).at z))
              (rows_unseen ys (with_row rows e (rows e)) e unseen.2 z ∙ row_unseen rows e z)
              (subst
              (λ v. IsTied places z (rows_after rows (Goes e None ys) z) ((after_event own its.0).at z) v)
              (unseen.3 z)
              (its.3.tied z));
        },
      )

  -- A WAIT THAT IS ASKED AS A TEST

  ends : (e : Endpoint) (k : ℕ) (o : Outcome) (steps : List Step) → Fits n known rows (Ends e k o steps) →
      Counts places known rows (Ends e k o steps) →
      IsFollowed n places rows own known (Ends e k o steps)
  ends e k o steps fits count =
      let h = fits.0 in
      let t = a.tied e in
      let i : ℕ = places e k in
      let free : (known.at e).blocked ≡ None = test_free n (known.at e) k h.fit in
      let over : outcome_at (own.at e).requests i ≡ Some o =
      outcomes places e (apart e) (rows e) (own.at e).requests (known.at e).requests t.requests k ∙ fits.1 in
      let l : Local = after_call e (own.at e) (Wait (One (Some i))) in
      let m : Local = record (own.at e) { requests = changed used_up (own.at e).requests i; blocked = None } in
      let ready : ready_answer l ≡ Some (ForOne o, i ∷ []) = ap (option_map (λ v. (ForOne v, i ∷ []))) over in
      let settled : after_settling l ≡ m = ap (after_answer l) ready in
      let x : Local = record (known.at e) { requests = changed used_up (known.at e).requests k } in
      let tested : after_call e (known.at e) (Test (Some k)) ≡ x =
      ap (λ v. after_test (known.at e) (option_map (λ u. (ForOne u, k ∷ [])) v)) fits.1 in
      let tied : IsTied places e (rows e) m x =
      record {
        requests =
            tied_used places e (apart e) (k ∷ []) (rows e) (own.at e).requests (known.at e).requests t.requests;
        blocked = ap (option_map (unanswered_by (places e))) (sym free);
        learnt = t.learnt;
        queue = t.queue;
        limit = t.limit;
        filed = t.filed;
      } in
      let v : Event = At e (Some (Wait (One (Some i)))) [] in
      let there :
      AreAlike places (with_row rows e (rows e)) (after_event own v) (start known e (Some (Test (Some k)))) =
      put_own_twice places rows own known a e (rows e) l (after_settling ((put own e l).at e))
      (after_call e (known.at e) (Test (Some k)))
      (subst (λ z. IsTied places e (rows e) (after_settling z) (after_call e (known.at e) (Test (Some k))))
      (sym (at_put own e l))
      (subst (λ z. IsTied places e (rows e) z (after_call e (known.at e) (Test (Some k)))) (sym settled)
      (subst (λ z. IsTied places e (rows e) m z) (sym tested) tied))) in
      let rest =
      steps_follow places apart e steps (with_row rows e (rows e)) (after_event own v)
      (start known e (Some (Test (Some k)))) there h.steps fits.2 count in
      let now_free : ((after_event own v).at e).blocked ≡ None =
      ap (λ (z : Local). z.blocked)
      (at_put (put own e l) e (after_settling ((put own e l).at e)) ∙ ap after_settling (at_put own e l) ∙ settled) in (
        v ∷ At e None rest.0 ∷ [],
        (
          record {
            inside = h.inside;
            current = at_present e h.current;
            fit =
                fit e (Some (Wait (One (Some k))))
                (wait_taken n (known.at e).message_limit (is_held (known.at e).blocked)
                (λ j. standing (slice_get (known.at e).requests j)) k h.fit);
            steps = tt;
          },
          (
            record {
              inside = h.inside;
              current = h.current ∙ ap (λ (f : ℕ → ℕ). f e.rank) (sym there.current);
              fit = refl;
              steps = rest.1;
            },
            tt,
          ),
        ),
        ap₂ (λ (b c : List Entry). b ++ (c ++ []))
            (ap (told e (Some (Wait (One (Some i)), None))) (ap ready_answer (at_put own e l) ∙ ready))
            (ap (told e None)
            (ready_free ((steps_at (after_event own v) e rest.0).at e)
            (steps_free e rest.0 (after_event own v) now_free rest.1))),
        settle_alike places apart (rows_after rows (Ends e k o steps)) (steps_at (after_event own v) e rest.0)
            (steps_at (start known e (Some (Test (Some k)))) e steps) rest.2 e,
      )

  tries : (e : Endpoint) (k : ℕ) (steps : List Step) → Fits n known rows (Tries e k steps) →
      Counts places known rows (Tries e k steps) →
      Follows n places rows own known (Tries e k steps)
  tries e k steps fits count =
      let h = fits.0 in
      let free : (known.at e).blocked ≡ None = test_free n (known.at e) k h.fit in
      let tested : after_call e (known.at e) (Test (Some k)) ≡ known.at e =
      ap (λ v. after_test (known.at e) (option_map (λ u. (ForOne u, k ∷ [])) v)) fits.1 in
      let begun =
      put_known places rows own known a e (rows e) (after_call e (known.at e) (Test (Some k)))
      (subst (λ z. IsTied places e (rows e) (own.at e) z) (sym tested) (a.tied e)) in
      let rest =
      steps_follow places apart e steps (with_row rows e (rows e)) own (start known e (Some (Test (Some k)))) begun
      h.steps fits.2 count in (
        At e None rest.0,
        record { inside = h.inside; current = at_present e h.current; fit = refl; steps = rest.1 },
        ap (told e None)
            (ready_free ((steps_at own e rest.0).at e)
            (steps_free e rest.0 own ((a.tied e).blocked ∙ ap (option_map (unanswered_by (places e))) free) rest.1)),
        settle_alike places apart (rows_after rows (Tries e k steps)) (steps_at own e rest.0)
            (steps_at (start known e (Some (Test (Some k)))) e steps) rest.2 e,
      )

  -- one event is a run
  alone : (h : Happening) → Follows n places rows own known h → IsFollowed n places rows own known h
  alone h f = (f.0 ∷ [], (f.1, tt), no_more (entries own f.0) ∙ f.2, f.3)

  follows : (h : Happening) → Fits n known rows h → Counts places known rows h → IsFollowed n places rows own known h
  follows (Goes e call steps) fits count = alone (Goes e call steps) (goes e call steps fits count)
  follows (Keeps e p) fits count = alone (Keeps e p) (keeps e p fits count)
  follows (Names e i p earlier m later steps) fits count =
      alone (Names e i p earlier m later steps) (names e i p earlier m later steps fits count)
  follows (Tells e i p steps) fits count = alone (Tells e i p steps) (tells e i p steps fits count)
  follows (Sees e q earlier m later steps) fits count =
      alone (Sees e q earlier m later steps) (sees e q earlier m later steps fits count)
  follows (Takes e q earlier m later steps) fits count =
      alone (Takes e q earlier m later steps) (takes e q earlier m later steps fits count)
  follows (Peeks e q steps) fits count = alone (Peeks e q steps) (peeks e q steps fits count)
  follows (Ends e k o steps) fits count = ends e k o steps fits count
  follows (Tries e k steps) fits count = alone (Tries e k steps) (tries e k steps fits count)

pub happenings_are_followed : HappeningsAreFollowed
happenings_are_followed n places rows own known h apart a fits count =
    follows n places apart rows own known a h fits count
