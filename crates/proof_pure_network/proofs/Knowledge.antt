use Rattle.std.proofs.Common.{◌≡◌, ℕ, ◌≤◌, nat_lt, Bool, true, false, List, [], Option, Some, None, if◌then◌else◌, ◌==◌}
use Rattle.std.proofs.Common.{length, slice_get, slice_set, refl, sym, ap, subst, arith, ◌++◌}
use Rattle.std.proofs.lemmas.Bool.{eqb-true, eq-eqb, le-ltb}
use Rattle.perfect_queues.specs.Buffers.{Handed, data_of}
use Rattle.perfect_queues.specs.Calls.{Call, Cancel, Improbe, Iprobe, Irecv, Isend, Mrecv, Test, Wait, is_eager}
use Rattle.perfect_queues.specs.Calls.{receiver}
use Rattle.perfect_queues.specs.Completions.{Answer, One, completion}
use Rattle.vocabulary.specs.Endpoints.{is_same}
use Rattle.perfect_queues.specs.Outcomes.{Sent}
use Rattle.perfect_queues.specs.Receives.{Probe, Receive, such_receive}
use Rattle.perfect_queues.specs.State.{with_number}
use Rattle.vocabulary.specs.declared.endpoint.Endpoint.{Endpoint}
use Rattle.vocabulary.specs.declared.envelope.Source.{Source}
use Rattle.vocabulary.specs.declared.envelope.Source.TheVariants.{Any, Null, Rank}
use Rattle.proof_pure_network.specs.Core.{Core, effect, with_jobs}
use Rattle.proof_pure_network.specs.Engine.{called, came, core_tested, learned, met, own_message, own_waiting}
use Rattle.proof_pure_network.specs.Engine.{pushed_own, pushed_over, sends}
use Rattle.proof_pure_network.specs.Frames.{Cts, Data, Eager, Frame, Rts}
use Rattle.proof_pure_network.specs.WaitingMessages.{Held, Part, Whole}
use Rattle.proof_pure_network.specs.Jobs.{Closed, Collecting, Job, Offering, Over, Probed, Unmatched, Waiting}
use Rattle.proof_pure_network.specs.Jobs.{collecting, oldest_posted, over_at, with_more}
use Rattle.proof_pure_network.specs.Matches.{arrived, arrived_at, found, looked_at, looks, posted, posted_at, receives}
use Rattle.proof_pure_network.specs.Matches.{searched_at, searches, taken_at}
use Rattle.proof_pure_network.specs.Transfers.{answered, collected, wanted_data}
use Rattle.proof_pure_network.proofs.Simulation.{is_stale}
use Rattle.vocabulary.specs.declared.message_limit.MessageLimit.{MessageLimit}

-- what a core knows of the ranks, and its limit
abbrev knows : Core → (ℕ → ℕ) × MessageLimit
knows core = (core.known, core.message_limit)

arrived_knows : (core : Core) (h : Held) → knows (arrived core h).core ≡ knows core
arrived_knows core h = go (oldest_posted h core.jobs)
  where
    go : (o : Option (ℕ × Receive)) → knows (arrived_at core h o).core ≡ knows core
    go None = refl
    go (Some t) = refl

posted_knows : (core : Core) (p : Receive) → knows (posted core p).core ≡ knows core
posted_knows core p = go (found p core.held)
  where
    go : (o : Option (List Held × Held × List Held)) → knows (posted_at core p o).core ≡ knows core
    go None = refl
    go (Some t) = refl

looks_knows : (core : Core) (q : Probe) (src : Source) → knows (looks core q src) ≡ knows core
looks_knows core q Null = refl
looks_knows core q Any = go (found (such_receive q) core.held)
  where
    go : (o : Option (List Held × Held × List Held)) → knows (looked_at core q o) ≡ knows core
    go None = refl
    go (Some t) = refl
looks_knows core q (Rank r) = go (found (such_receive q) core.held)
  where
    go : (o : Option (List Held × Held × List Held)) → knows (looked_at core q o) ≡ knows core
    go None = refl
    go (Some t) = refl

searches_knows : (core : Core) (q : Probe) (src : Source) → knows (searches core q src) ≡ knows core
searches_knows core q Null = refl
searches_knows core q Any = go (found (such_receive q) core.held)
  where
    go : (o : Option (List Held × Held × List Held)) → knows (searched_at core q o) ≡ knows core
    go None = refl
    go (Some t) = refl
searches_knows core q (Rank r) = go (found (such_receive q) core.held)
  where
    go : (o : Option (List Held × Held × List Held)) → knows (searched_at core q o) ≡ knows core
    go None = refl
    go (Some t) = refl

taken_knows : (core : Core) (k : ℕ) (into : Handed) (o : Option Job) → knows (taken_at core k into o).core ≡ knows core
taken_knows core k into None = refl
taken_knows core k into (Some (Waiting p)) = refl
taken_knows core k into (Some (Collecting p h got)) = refl
taken_knows core k into (Some (Offering d basic values)) = refl
taken_knows core k into (Some (Over o)) = refl
taken_knows core k into (Some Closed) = refl
taken_knows core k into (Some (Unmatched d)) = refl
taken_knows core k into (Some (Probed g None)) = refl
taken_knows core k into (Some (Probed g (Some h))) = refl

called_knows : (e : Endpoint) (core : Core) (c : Call) → knows (called e core c).core ≡ knows core
called_knows e core (Isend mode c Any tag from) = refl
called_knows e core (Isend mode c Null tag from) = refl
called_knows e core (Isend mode c (Rank to) None from) = refl
called_knows e core (Isend mode c (Rank to) (Some tag) from) =
    go (is_same (receiver core.known to) e) (is_eager core.message_limit mode e (receiver core.known to) from.buffer.basic (data_of from))
  where
    go : (own small : Bool) → knows (sends e core (receiver core.known to) own c tag from.buffer.basic (data_of from) small).core ≡ knows core
    go true true = arrived_knows (pushed_over core) (own_message e c tag from.buffer.basic (data_of from))
    go true false =
        arrived_knows (pushed_own core (receiver core.known to))
        (own_waiting e c tag from.buffer.basic (data_of from) (length core.jobs))
    go false true = refl
    go false false = refl
called_knows e core (Irecv p) = go p.source
  where
    go : (src : Source) → knows (receives core p src).core ≡ knows core
    go Null = refl
    go Any = posted_knows core p
    go (Rank r) = posted_knows core p
called_knows e core (Wait a) = refl
called_knows e core (Test r) = go (completion (over_at core.jobs) (One r))
  where
    go : (o : Option (Answer × List ℕ)) → knows (core_tested core o) ≡ knows core
    go None = refl
    go (Some t) = refl
called_knows e core (Cancel None) = refl
called_knows e core (Cancel (Some k)) = refl
called_knows e core (Iprobe q) = looks_knows core q q.source
called_knows e core (Improbe q) = searches_knows core q q.source
called_knows e core (Mrecv None into) = refl
called_knows e core (Mrecv (Some k) into) = taken_knows core k into (slice_get core.jobs k)

came_knows : (core : Core) (a : Endpoint) (f : Frame) → knows (came core a f).core ≡ knows core
came_knows core a (Eager c tag basic values) =
    arrived_knows core (record { sender = a; context = c; tag = tag; basic = basic; body = Whole values })
came_knows core a (Rts c tag basic k n) =
    arrived_knows core (record { sender = a; context = c; tag = tag; basic = basic; body = Part k n })
came_knows core a (Cts k w) = go (slice_get core.jobs k)
  where
    go : (o : Option Job) → knows (answered core a k w o).core ≡ knows core
    go None = refl
    go (Some (Waiting p)) = refl
    go (Some (Collecting p h got)) = refl
    go (Some (Over o)) = refl
    go (Some Closed) = refl
    go (Some (Unmatched d0)) = refl
    go (Some (Probed g0 o0)) = refl
    go (Some (Offering d basic values)) = at (is_same d a)
      where
        at : (t : Bool) → knows (if t then effect (with_jobs core (slice_set core.jobs k (Over Sent))) (wanted_data core.message_limit d k basic values w) else
            effect core []).core ≡ knows core
        at true = refl
        at false = refl
came_knows core a (Data k o values) = go (collecting a k core.jobs)
  where
    go : (t : Option (ℕ × Job)) → knows (collected core o values t) ≡ knows core
    go None = refl
    go (Some (j, Waiting p)) = refl
    go (Some (j, Offering d basic vs)) = refl
    go (Some (j, Over u)) = refl
    go (Some (j, Closed)) = refl
    go (Some (j, Unmatched d0)) = refl
    go (Some (j, Probed g0 o0)) = refl
    go (Some (j, Collecting p h got)) = at (length got == o)
      where
        at : (t : Bool) → knows (if t then with_jobs core (slice_set core.jobs j (with_more p h (got ++ values))) else core) ≡ knows core
        at true = refl
        at false = refl

pub called_known : (e : Endpoint) (core : Core) (c : Call) → (called e core c).core.known ≡ core.known
called_known e core c = ap (λ (k : (ℕ → ℕ) × MessageLimit). k.0) (called_knows e core c)

pub called_limit : (e : Endpoint) (core : Core) (c : Call) → (called e core c).core.message_limit ≡ core.message_limit
called_limit e core c = ap (λ (k : (ℕ → ℕ) × MessageLimit). k.1) (called_knows e core c)

pub came_known : (core : Core) (a : Endpoint) (f : Frame) → (came core a f).core.known ≡ core.known
came_known core a f = ap (λ (k : (ℕ → ℕ) × MessageLimit). k.0) (came_knows core a f)

pub came_limit : (core : Core) (a : Endpoint) (f : Frame) → (came core a f).core.message_limit ≡ core.message_limit
came_limit core a f = ap (λ (k : (ℕ → ℕ) × MessageLimit). k.1) (came_knows core a f)

pub met_limit : (core : Core) (a : Endpoint) → (met core a).message_limit ≡ core.message_limit
met_limit core a = go (nat_lt (core.known a.rank) a.incarnation)
  where
    go : (t : Bool) → (if t then learned core a.rank a.incarnation else core).message_limit ≡ core.message_limit
    go true = refl
    go false = refl

pub met_below : (cur : ℕ → ℕ) (core : Core) (a : Endpoint) → a.incarnation ≤ cur a.rank →
    ((r : ℕ) → core.known r ≤ cur r) → (r : ℕ) → (met core a).known r ≤ cur r
met_below cur core a le old r = go (nat_lt (core.known a.rank) a.incarnation)
  where
    at : (t : Bool) → (r == a.rank) ≡ t → (if t then a.incarnation else core.known r) ≤ cur r
    at true h = subst (λ (x : ℕ). a.incarnation ≤ cur x) (sym (eqb-true r a.rank h)) le
    at false h = old r

    go : (t : Bool) → (if t then learned core a.rank a.incarnation else core).known r ≤ cur r
    go true = at (r == a.rank) refl
    go false = old r

-- who was heard is known as it is
pub met_live : (core : Core) (a : Endpoint) → is_stale core.known a ≡ false → is_stale (met core a).known a ≡ false
met_live core a h = go (nat_lt (core.known a.rank) a.incarnation)
  where
    now : with_number core.known a.rank a.incarnation a.rank ≡ a.incarnation
    now = rw (eq-eqb a.rank a.rank refl) refl

    go : (t : Bool) → is_stale (if t then learned core a.rank a.incarnation else core).known a ≡ false
    go true =
        subst (λ (i : ℕ). nat_lt a.incarnation i ≡ false) (sym now) (le-ltb a.incarnation a.incarnation (omega arith))
    go false = h
