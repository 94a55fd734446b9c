-- A receive that is posted takes the same message from both queues, or none.
use Rattle.std.proofs.Common.{◌≡◌, ℕ, suc, Bool, true, false, List, [], ◌∷◌, ◌++◌, map, position, remove, slice_get}
use Rattle.std.proofs.Common.{option_map, Option, Some, None, refl, ap, ◌∙◌, ◌⊎◌, inl, inr, ⊎_elim, if◌then◌else◌}
use Rattle.match_queues.specs.Accepts.{accepts}
use Rattle.match_queues.specs.declared.envelope.Message.{Message}
use Rattle.match_queues.specs.State.{State, message_at, message_for, posted_at, taken_at}
use Rattle.point_to_point_calls.specs.declared.call.RoutedReceive as engine_receive
use Rattle.point_to_point_calls.specs.ReceiveMatches.{posted_by}
use Rattle.point_to_point.specs.Messages.{probed_by}
use Rattle.perfect_queues.specs.Receives.{Probe, Receive, such_receive}
use Rattle.proof_pure_network.specs.WaitingMessages.{Held, fits}
use Rattle.proof_pure_network.specs.Matches.{found}
use Rattle.proof_engine_view.specs.Rows.{held_of}
use Rattle.vocabulary.specs.declared.endpoint.Endpoint.{Endpoint}
use Rattle.proof_engine_view.specs.Transfers.{Transfer}
use Rattle.observation.specs.CoreCalls.{receive_seen}
use Rattle.proof_engine_matching.specs.Matches.{Finds, FindsNone, PostsMatch, Takes, TakesMatch, TakesNone}
use Rattle.proof_engine_matching.proofs.Acceptance.{posted_record, same_test}
use Rattle.proof_engine_matching.proofs.Positions.{position_here, position_later, remove_first}

-- a message with those before and after it
abbrev Parts : Type 0
Parts = List Held × Held × List Held

-- the receive accepts none of them
record Passed (from : Endpoint → List Transfer) (key : ℕ) (p : Receive) (ms : List Message) : Type 0 where
  core : found p (map (held_of from) ms) ≡ None
  place : position (accepts (posted_record key p)) ms ≡ None

-- the oldest that it accepts is m, at place i
record Taken (from : Endpoint → List Transfer) (key : ℕ) (p : Receive) (ms : List Message) (i : ℕ) (m : Message)
    (earlier later : List Held) : Type 0 where
  core : found p (map (held_of from) ms) ≡ Some (earlier, held_of from m, later)
  place : position (accepts (posted_record key p)) ms ≡ Some i
  there : slice_get ms i ≡ Some m
  accepts : fits p (held_of from m) ≡ true
  rest : map (held_of from) (remove ms i) ≡ earlier ++ later

-- none is accepted, or the oldest that is
abbrev Tried : (Endpoint → List Transfer) → ℕ → Receive → List Message → Type 0
Tried from key p ms = Passed from key p ms ⊎
    ((i : ℕ) × (m : Message) × (earlier : List Held) × (later : List Held) × Taken from key p ms i m earlier later)

-- what the test of the first message makes of the search
abbrev searched : Held → List Held → Option Parts → Bool → Option Parts
searched h hs later b = if b then Some ([], h, hs) else option_map (λ t. (h ∷ t.0, t.1, t.2)) later

-- the search by the first message
found_by : (p : Receive) (h : Held) (hs : List Held) (b : Bool) (o : Option Parts) → fits p h ≡ b → found p hs ≡ o →
    found p (h ∷ hs) ≡ searched h hs o b
found_by p h hs b o e f = ap (λ (t : Bool). searched h hs (found p hs) t) e ∙
    ap (λ (q : Option Parts). searched h hs q b) f

-- the first message is not accepted
miss : (from : Endpoint → List Transfer) (key : ℕ) (p : Receive) (m : Message) (ms : List Message) →
    fits p (held_of from m) ≡ false → Tried from key p ms → Tried from key p (m ∷ ms)
miss from key p m ms h = ⊎_elim
    (λ (n : Passed from key p ms). inl (record {
      core = found_by p (held_of from m) (map (held_of from) ms) false None h n.core;
      place = position_later (accepts (posted_record key p)) m ms None (same_test from key p m ∙ h) n.place;
    }))
    (λ (s : (i : ℕ) × (n : Message) × (earlier : List Held) ×
    (later : List Held) × Taken from key p ms i n earlier later). inr (
      suc s.0,
      s.1,
      held_of from m ∷ s.2,
      s.3,
      record {
        core = found_by p (held_of from m) (map (held_of from) ms) false (Some (s.2, held_of from s.1, s.3)) h s.4.core;
        place = position_later (accepts (posted_record key p)) m ms (Some s.0) (same_test from key p m ∙ h) s.4.place;
        there = s.4.there;
        accepts = s.4.accepts;
        rest = ap (λ (l : List Held). held_of from m ∷ l) s.4.rest;
      },
    ))

-- the first message is accepted
hit : (from : Endpoint → List Transfer) (key : ℕ) (p : Receive) (m : Message) (ms : List Message) →
    fits p (held_of from m) ≡ true → Taken from key p (m ∷ ms) 0 m [] (map (held_of from) ms)
hit from key p m ms h =
    record {
      core = found_by p (held_of from m) (map (held_of from) ms) true (found p (map (held_of from) ms)) h refl;
      place = position_here (accepts (posted_record key p)) m ms (same_test from key p m ∙ h);
      there = refl;
      accepts = h;
      rest = ap (λ (l : List Message). map (held_of from) l) (remove_first m ms);
    }

-- one more message in front
step : (from : Endpoint → List Transfer) (key : ℕ) (p : Receive) (m : Message) (ms : List Message) →
    Tried from key p ms → Tried from key p (m ∷ ms)
step from key p m ms t = go (fits p (held_of from m)) refl
  where
    go : (b : Bool) → fits p (held_of from m) ≡ b → Tried from key p (m ∷ ms)
    go true h = inr (0, m, [], map (held_of from) ms, hit from key p m ms h)
    go false h = miss from key p m ms h t

-- all messages
tried : (from : Endpoint → List Transfer) (key : ℕ) (p : Receive) (ms : List Message) → Tried from key p ms
tried from key p [] = inl (record { core = refl; place = refl })
tried from key p (m ∷ ms) = step from key p m ms (tried from key p ms)

-- the receive is posted, as none is accepted
finds_none : (from : Endpoint → List Transfer) (old : State) (v : engine_receive.RoutedReceive) (key : ℕ) →
    Passed from key (receive_seen v) old.unexpected → FindsNone from old v key
finds_none from old v key n =
    let none : message_for (posted_by key v) old.unexpected ≡ None = n.place in
    record {
      core = n.core;
      message = ap (λ (o : Option ℕ). message_at old.unexpected o) none;
      queues = ap (λ (o : Option ℕ). posted_at o old (posted_by key v)) none;
    }

-- the receive takes the oldest that it accepts
finds : (from : Endpoint → List Transfer) (old : State) (v : engine_receive.RoutedReceive) (key i : ℕ) (m : Message)
    (earlier later : List Held) → Taken from key (receive_seen v) old.unexpected i m earlier later →
    Finds from old v key m earlier later
finds from old v key i m earlier later s =
    let place : message_for (posted_by key v) old.unexpected ≡ Some i = s.place in
    record {
      core = s.core;
      accepts = s.accepts;
      message = ap (λ (o : Option ℕ). message_at old.unexpected o) place ∙ s.there;
      posted = ap (λ (o : Option ℕ). (posted_at o old (posted_by key v)).posted) place;
      unexpected = ap (λ (o : Option ℕ). map (held_of from) (posted_at o old (posted_by key v)).unexpected) place ∙
          s.rest;
    }

-- the law of posted receives
pub posts_match : PostsMatch
posts_match from old v key = ⊎_elim
    (λ (n : Passed from key (receive_seen v) old.unexpected). inl (finds_none from old v key n))
    (λ (s : (i : ℕ) × (m : Message) × (earlier : List Held) ×
    (later : List Held) × Taken from key (receive_seen v) old.unexpected i m earlier later). inr
    (s.1, s.2, s.3, finds from old v key s.0 s.1 s.2 s.3 s.4))
    (tried from key (receive_seen v) old.unexpected)

-- nothing is taken out, as none is accepted
takes_none : (from : Endpoint → List Transfer) (old : State) (q : Probe) →
    Passed from 0 (such_receive q) old.unexpected → TakesNone from old q
takes_none from old q n =
    let none : message_for (probed_by q.source q.tag q.context) old.unexpected ≡ None = n.place in
    record {
      core = n.core;
      message = ap (λ (o : Option ℕ). message_at old.unexpected o) none;
      queues = ap (λ (o : Option ℕ). taken_at o old) none;
    }

-- the oldest that is accepted is taken out
takes : (from : Endpoint → List Transfer) (old : State) (q : Probe) (i : ℕ) (m : Message) (earlier later : List Held) →
    Taken from 0 (such_receive q) old.unexpected i m earlier later → Takes from old q m earlier later
takes from old q i m earlier later s =
    let place : message_for (probed_by q.source q.tag q.context) old.unexpected ≡ Some i = s.place in
    record {
      core = s.core;
      accepts = s.accepts;
      message = ap (λ (o : Option ℕ). message_at old.unexpected o) place ∙ s.there;
      posted = ap (λ (o : Option ℕ). (taken_at o old).posted) place;
      unexpected = ap (λ (o : Option ℕ). map (held_of from) (taken_at o old).unexpected) place ∙ s.rest;
    }

-- the law of probes
pub takes_match : TakesMatch
takes_match from old q = ⊎_elim
    (λ (n : Passed from 0 (such_receive q) old.unexpected). inl (takes_none from old q n))
    (λ (s : (i : ℕ) × (m : Message) × (earlier : List Held) ×
    (later : List Held) × Taken from 0 (such_receive q) old.unexpected i m earlier later). inr
    (s.1, s.2, s.3, takes from old q s.0 s.1 s.2 s.3 s.4))
    (tried from 0 (such_receive q) old.unexpected)
