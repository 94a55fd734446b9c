-- A receive that is matched with an announced message collects it or ends, alike.
use Rattle.std.proofs.Common.{◌≡◌, ℕ, Bool, true, false, ◌&&◌, ◌==◌, nat_le, List, [], length, Option, refl, sym, ap}
use Rattle.std.proofs.Common.{ap₂, subst, ◌∙◌, if◌then◌else◌}
use Rattle.std.proofs.lemmas.Bool.{eq-eqb, eqb-true, ne_eqb}
use Rattle.layouts.specs.Buffers.{is_same_type}
use Rattle.vocabulary.specs.declared.endpoint.Endpoint.{Endpoint}
use Rattle.vocabulary.specs.declared.envelope.Status.{Status}
use Rattle.datatypes.specs.Contents.{Contents}
use Rattle.perfect_queues.specs.Buffers.{Handed, places_in}
use Rattle.perfect_queues.specs.Outcomes as machine
use Rattle.perfect_queues.specs.Receives.{Receive}
use Rattle.perfect_queues.specs.Receives as receives
use Rattle.match_queues.specs.declared.envelope.Announcement.{Announcement}
use Rattle.match_queues.specs.declared.envelope.Body.{Body}
use Rattle.match_queues.specs.declared.envelope.Body.TheVariants.{Announced}
use Rattle.match_queues.specs.declared.envelope.Message.{Message}
use Rattle.requests.specs.Regions.{handed_by, handed_of}
use Rattle.communicator_members.specs.Statuses.{status_in}
use Rattle.requests.specs.Table.{has_room, matched_progress}
use Rattle.requests.specs.declared.outcome.Failure.TheVariants.{Truncated, WrongType}
use Rattle.requests.specs.declared.outcome.Outcome.TheVariants as outcomes
use Rattle.requests.specs.declared.region.Places.{Places}
use Rattle.requests.specs.declared.region.Places.TheVariants.{All, Copies}
use Rattle.requests.specs.declared.region.Region.{Region}
use Rattle.requests.specs.declared.table.Posted.{Posted}
use Rattle.requests.specs.declared.table.RequestProgress.TheVariants.{Collecting, Finished}
use Rattle.point_to_point_calls.specs.ReceiveMatches.{status_of}
use Rattle.proof_pure_network.specs.WaitingMessages.{Held, count_of, fits, full}
use Rattle.proof_pure_network.specs.Jobs as jobs
use Rattle.proof_pure_network.specs.Jobs.{Job, Over, matched_job, matched_part}
use Rattle.proof_engine_view.specs.Rows.{Fits, IsMatched, IsPosted, body_seen, held_of}
use Rattle.proof_engine_view.specs.Transfers.{Transfer}
use Rattle.proof_engine_matching.specs.Matches.{AnnouncementsAgree}

-- whatever its places are, a region has its buffer
same_buffer : (b : Contents) (p : Places) → (handed_by b p).buffer ≡ b
same_buffer b All = refl
same_buffer b (Copies layout copies) = refl

pub handed_buffer : (r : Region) → (handed_of r).buffer ≡ r.buffer
handed_buffer r = same_buffer r.buffer r.places

-- a receive that has room ends at once with a message of no values, its buffer as it was
empty_ends : (p : Receive) (h : Held) (st : Status) (b : Contents) → receives.has_room p h.basic 0 ≡ true →
    machine.status_by p h.sender.rank h.tag 0 ≡ st → p.into.buffer ≡ b →
    machine.outcome p (full h []) ≡ machine.Received st b
empty_ends p h st b room s v =
    ap (λ (t : Bool). if t then machine.Received (machine.status_by p h.sender.rank h.tag 0) p.into.buffer else
    machine.unfit p h.basic (machine.status_by p h.sender.rank h.tag 0)) room
    ∙ ap₂ (λ (x : Status) (c : Contents). machine.Received x c) s v

-- a number is none, whichever way it is asked
pub none_alike : (n : ℕ) → (n == 0) ≡ (0 == n)
none_alike n = go (n == 0) refl
  where
    go : (b : Bool) → (n == 0) ≡ b → (n == 0) ≡ (0 == n)
    go true e = e ∙ sym (eq-eqb 0 n (sym (eqb-true n 0 e)))
    go false e =
        e ∙ sym (ne_eqb 0 n
        (λ z. let t : (n == 0) ≡ true = eq-eqb n 0 (sym z) in let f : true ≡ false = sym t ∙ e in absurd cc))

-- it collects where there are values
collects_so : (p : Receive) (r : Region) (h : Held) (st : Status) (n : ℕ) →
    IsMatched (record { into = r; status = st }) p h →
    (n ≡ 0 → machine.outcome p (full h []) ≡ machine.Received st r.buffer) →
    Fits (if n == 0 then Finished (outcomes.Received st r.buffer) else Collecting (record { into = r; status = st }))
    (if 0 == n then Over (machine.outcome p (full h [])) else jobs.Collecting p h [])
collects_so p r h st n m empty = go (n == 0) (0 == n) (none_alike n) (λ e. empty (eqb-true n 0 e))
  where
    go : (a b : Bool) → a ≡ b → (a ≡ true → machine.outcome p (full h []) ≡ machine.Received st r.buffer) →
        Fits (if a then Finished (outcomes.Received st r.buffer) else Collecting (record { into = r; status = st }))
        (if b then Over (machine.outcome p (full h [])) else jobs.Collecting p h [])
    go true true e f = f refl
    go true false e f = absurd cc
    go false true e f = absurd cc
    go false false e f = m

-- by whether the types are one and whether there is room
ends_so : (p : Receive) (r : Region) (h : Held) (st : Status) (n : ℕ) (same room : Bool) →
    IsMatched (record { into = r; status = st }) p h →
    machine.status_by p h.sender.rank h.tag n ≡ st → p.into.buffer ≡ r.buffer →
    is_same_type p.into.buffer.basic h.basic ≡ same →
    (n ≡ 0 → same && room ≡ true → machine.outcome p (full h []) ≡ machine.Received st r.buffer) →
    Fits (if same && room then
    (if n == 0 then Finished (outcomes.Received st r.buffer) else Collecting (record { into = r; status = st }))
    else Finished (outcomes.Ended (if same then Truncated else WrongType) st r.buffer))
    (if same && room then (if 0 == n then Over (machine.outcome p (full h [])) else jobs.Collecting p h []) else
    Over (machine.unfit p h.basic (machine.status_by p h.sender.rank h.tag n)))
ends_so p r h st n true true m s v e empty = collects_so p r h st n m (λ z. empty z refl)
ends_so p r h st n true false m s v e empty =
    ap (λ (t : Bool). machine.Ended (if t then 10 else 2) (machine.status_by p h.sender.rank h.tag n) p.into.buffer) e
    ∙ ap₂ (λ (x : Status) (c : Contents). machine.Ended 10 x c) s v
ends_so p r h st n false room m s v e empty =
    ap (λ (t : Bool). machine.Ended (if t then 10 else 2) (machine.status_by p h.sender.rank h.tag n) p.into.buffer) e
    ∙ ap₂ (λ (x : Status) (c : Contents). machine.Ended 2 x c) s v

-- what an announced message makes of a receive, by whether there is room
parted : (p : Receive) (h : Held) (n : ℕ) (b : Bool) → count_of h.body ≡ n →
    matched_part p h n b ≡
    (if b then (if 0 == n then Over (machine.outcome p (full h [])) else jobs.Collecting p h []) else
    Over (machine.unfit p h.basic (machine.status_by p h.sender.rank h.tag n)))
parted p h n true is =
    ap (λ (k : ℕ). if 0 == k then Over (machine.outcome p (full h [])) else jobs.Collecting p h []) is
parted p h n false is = refl

-- a message with this body
abbrev with_body : Message → Body → Message
with_body m b = record m { body = b }

-- whether there is room
wanted_alike : (p : Receive) (r : Region) (a : Announcement) → p.into ≡ handed_of r →
    receives.has_room p a.basic a.count ≡ has_room r a.basic a.count
wanted_alike p r a is =
    ap (λ (h : Handed). is_same_type h.buffer.basic a.basic && nat_le a.count (length (places_in h))) is
    ∙ ap (λ (b : Contents). is_same_type b.basic a.basic && nat_le a.count (length (places_in (handed_of r))))
    (handed_buffer r)

-- what is left of the receive
announced_fits : (from : Endpoint → List Transfer) (p : Receive) (w : Posted) (m : Message) (a : Announcement) →
    IsPosted w p →
    fits p (held_of from (with_body m (Announced a))) ≡ true →
    Fits (matched_progress w.into (status_in w.group (status_of (with_body m (Announced a)))) a.basic)
    (matched_job p (held_of from (with_body m (Announced a))) (body_seen (from m.sender) (Announced a)))
announced_fits from p w m a is accepts =
    subst (λ (j : Job). Fits (matched_progress r told a.basic) j)
    (sym (ap (matched_part p h a.count) (wanted_alike p r a is.into) ∙
    parted p h a.count (has_room r a.basic a.count) refl))
    (ends_so p r h told a.count (is_same_type r.buffer.basic a.basic)
    (nat_le a.count (length (places_in (handed_of r))))
    (record { into = is.into; accepts = accepts; status = sym same })
    same
    (ap (λ (x : Handed). x.buffer) is.into ∙ handed_buffer r)
    (ap (λ (x : Handed). is_same_type x.buffer.basic a.basic) is.into ∙
    ap (λ (b : Contents). is_same_type b.basic a.basic) (handed_buffer r))
    (λ z room. empty_ends p h told r.buffer
    (subst (λ (n : ℕ). receives.has_room p a.basic n ≡ true) z (wanted_alike p r a is.into ∙ room))
    (subst (λ (n : ℕ). machine.status_by p m.sender.rank m.tag n ≡ told) z same)
    (ap (λ (x : Handed). x.buffer) is.into ∙ handed_buffer r)))
  where
    h : Held
    h = held_of from (with_body m (Announced a))

    r : Region
    r = w.into

    -- the status that the receive has
    told : Status
    told = status_in w.group (status_of (with_body m (Announced a)))

    same : machine.status_by p m.sender.rank m.tag a.count ≡ told
    same = ap (λ (g : Option (List ℕ)). status_in g (status_of (with_body m (Announced a)))) is.group

-- the law of announced messages
pub announcements_agree : AnnouncementsAgree
announcements_agree from p w m a body is accepts =
    record {
      wanted = wanted_alike p w.into a is.into;
      fits = subst (λ (b : Body). fits p (held_of from (with_body m b)) ≡ true →
          Fits (matched_progress w.into (status_in w.group (status_of (with_body m b))) a.basic)
          (matched_job p (held_of from (with_body m b)) (body_seen (from m.sender) b)))
          (sym body) (announced_fits from p w m a is) accepts;
    }
