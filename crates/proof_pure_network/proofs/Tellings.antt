use Rattle.std.proofs.Common.{◌≡◌, ℕ, suc, ◌≤◌, ◌<◌, Bool, true, false, ◌&&◌, List, [], ◌∷◌, ◌++◌, length, Option, Some}
use Rattle.std.proofs.Common.{None, if◌then◌else◌, ◌==◌, not, nat_lt, slice_get, slice_set, refl, sym, ap, subst, arith}
use Rattle.std.proofs.Common.{le_trans, ⊎_elim}
use Rattle.std.specs.List.{AllByRecursion}
use Rattle.std.proofs.lemmas.Bool.{and_parts, eqb-true, ltb-true, ltb-false, eq-eqb}
use Rattle.perfect_queues.specs.Buffers.{Handed, data_of}
use Rattle.perfect_queues.specs.Calls.{Call, Cancel, Improbe, Iprobe, Irecv, Isend, Mrecv, Test, Wait, is_eager}
use Rattle.perfect_queues.specs.Calls.{receiver}
use Rattle.perfect_queues.specs.Completions.{Answer, One, completion}
use Rattle.vocabulary.specs.Endpoints.{is_former, is_same}
use Rattle.perfect_queues.specs.Outcomes.{Received, Replaced, Sent, outcome}
use Rattle.perfect_queues.specs.Receives.{Probe, Receive, such_receive}
use Rattle.vocabulary.specs.declared.basic_type.BasicType.{BasicType}
use Rattle.vocabulary.specs.declared.endpoint.Endpoint.{Endpoint}
use Rattle.vocabulary.specs.declared.envelope.Source.{Source}
use Rattle.vocabulary.specs.declared.envelope.Source.TheVariants.{Any, Null, Rank}
use Rattle.perfect_queues.proofs.EndpointLemmas.{same_eq}
use Rattle.proof_pure_network.specs.Core.{Core, Effect, effect, with_jobs}
use Rattle.proof_pure_network.specs.Engine.{called, came, core_cancels, core_tested, core_used, learned, met}
use Rattle.proof_pure_network.specs.Engine.{own_message, own_waiting, pushed_own, pushed_over, sends}
use Rattle.proof_pure_network.specs.Frames.{Cts, Data, Eager, Frame, Rts}
use Rattle.proof_pure_network.specs.WaitingMessages.{Body, Held, Own, Part, Whole, count_of, full}
use Rattle.proof_pure_network.specs.Jobs.{Closed, Collecting, Job, Offering, Over, Probed, Unmatched, Waiting}
use Rattle.proof_pure_network.specs.Jobs.{collecting, matched_job, oldest_posted, over_at, with_more}
use Rattle.proof_pure_network.specs.Links.{Link, accept, accept_all, handed_on}
use Rattle.proof_pure_network.specs.Matches.{answer, arrived, arrived_at, found, looked_at, looks, own_over, posted}
use Rattle.proof_pure_network.specs.Matches.{posted_at, receive_for, receives, searched_at, searches, taken_at}
use Rattle.proof_pure_network.specs.Transfers.{answered, collected, data_frames, wanted_data, cut}
use Rattle.proof_pure_network.proofs.JobLemmas.{All_append, All_filter, All_left, All_right, Fewer, fewer_dropped}
use Rattle.proof_pure_network.proofs.JobLemmas.{fewer_ended, fewer_own, fewer_set, fewer_used}
use Rattle.proof_pure_network.proofs.HonestJobs.{push_split, set_split}
use Rattle.proof_pure_network.proofs.Own.{push_probed, set_probed}
use Rattle.proof_pure_network.proofs.Oldest.{First, some_found}
use Rattle.vocabulary.specs.declared.message_limit.MessageLimit.{MessageLimit}

-- EACH ENGINE KNOWS WHOM IT SPEAKS TO

abbrev pub IsKnown : (ℕ → ℕ) → Endpoint → Type 0
IsKnown g x = x.incarnation ≤ g x.rank

abbrev pub HeldKnown : (ℕ → ℕ) → List Held → Type 0
HeldKnown g hs = AllByRecursion (λ h. IsKnown g h.sender) hs

abbrev pub Told : (ℕ → ℕ) → List (Endpoint × Frame) → Type 0
Told g out = AllByRecursion (λ x. IsKnown g x.0) out

-- so is the sender of each message that waits, or was taken out
pub record CoreKnown (g : ℕ → ℕ) (core : Core) : Type 0 where
  pub waiting : HeldKnown g core.held
  pub taken : (i : ℕ) (f : Option (List ℕ)) (h : Held) → slice_get core.jobs i ≡ Some (Probed f (Some h)) →
      IsKnown g h.sender

-- what an engine's work leaves held, and sends
pub record Speaks (g : ℕ → ℕ) (d : Effect) : Type 0 where
  pub held : CoreKnown g d.core
  pub told : Told g d.out

answer_told : (g : ℕ → ℕ) (p : Receive) (h : Held) (b : Body) → IsKnown g h.sender → Told g (answer p h b)
answer_told g p h (Whole values) k = tt
answer_told g p h (Part j n) k = (k, tt)
answer_told g p h (Own j values) k = tt

-- the same messages, or fewer
pub same_known : (g : ℕ → ℕ) (core new : Core) → new.held ≡ core.held → Fewer core.jobs new.jobs → CoreKnown g core →
    CoreKnown g new
same_known g core new held fewer old =
    record {
      waiting = subst (λ (hs : List Held). HeldKnown g hs) (sym held) old.waiting;
      taken =
          λ i f h x. old.taken i f h (fewer i (Probed f (Some h)) tt x);
    }

-- a message is matched
match_known : (g : ℕ → ℕ) (new : Core) (b : Body) (js : List Job) → new.jobs ≡ own_over b js → HeldKnown g new.held →
    ((i : ℕ) (f : Option (List ℕ)) (h : Held) → slice_get js i ≡ Some (Probed f (Some h)) → IsKnown g h.sender) →
    CoreKnown g new
match_known g new b js over waiting taken =
    record {
      waiting = waiting;
      taken =
          λ i f h x. taken i f h
          (fewer_own b js i (Probed f (Some h)) tt
          (subst (λ (xs : List Job). slice_get xs i ≡ Some (Probed f (Some h))) over x));
    }

push_known : (g : ℕ → ℕ) (core : Core) (j : Job) → ((f : Option (List ℕ)) (h : Held) → j ≡ Probed f (Some h) → ⊥) →
    CoreKnown g core → CoreKnown g (with_jobs core (core.jobs ++ j ∷ []))
push_known g core j none old =
    record {
      waiting = old.waiting;
      taken =
          λ i f h x. ⊎_elim (λ a. old.taken i f h a) (λ a. absurd (none f h a.1))
          (push_split core.jobs j i (Probed f (Some h)) x);
    }

arrived_speaks : (g : ℕ → ℕ) (core : Core) (h : Held) → IsKnown g h.sender → CoreKnown g core →
    Speaks g (arrived core h)
arrived_speaks g core h k old = go (oldest_posted h core.jobs)
  where
    go : (o : Option (ℕ × Receive)) → Speaks g (arrived_at core h o)
    go None =
        record {
          held =
              record {
                waiting = All_append (λ x. IsKnown g x.sender) core.held (h ∷ []) old.waiting (k, tt);
                taken =
                    old.taken;
              };
          told = tt;
        }
    go (Some t) =
        record {
          held = match_known g (arrived_at core h (Some t)).core h.body
              (slice_set core.jobs t.0 (matched_job t.1 h h.body)) refl old.waiting
              (λ i f u x. old.taken i f u (set_probed core.jobs t.0 t.1 h i f u x));
          told = answer_told g t.1 h h.body k;
        }

posted_speaks : (g : ℕ → ℕ) (core : Core) (p : Receive) → CoreKnown g core → Speaks g (posted core p)
posted_speaks g core p old = go (found p core.held) refl
  where
    go : (o : Option (List Held × Held × List Held)) → found p core.held ≡ o → Speaks g (posted_at core p o)
    go None x = record { held = push_known g core (Waiting p) (λ f h y. absurd (grind arith)) old; told = tt }
    go (Some t) x = record {
      held = match_known g (posted_at core p (Some t)).core t.1.body (core.jobs ++ matched_job p t.1 t.1.body ∷ []) refl
          (All_append (λ y. IsKnown g y.sender) t.0 t.2 (All_left (λ y. IsKnown g y.sender) t.0 (t.1 ∷ t.2) all)
          (All_right (λ y. IsKnown g y.sender) t.0 (t.1 ∷ t.2) all).1)
          (λ i f u y. old.taken i f u (push_probed core.jobs p t.1 i f u y));
      told = answer_told g p t.1 t.1.body (All_right (λ y. IsKnown g y.sender) t.0 (t.1 ∷ t.2) all).0;
    }
      where
        f : First p core.held t
        f = some_found p core.held t x

        all : HeldKnown g (t.0 ++ t.1 ∷ t.2)
        all = subst (λ (hs : List Held). HeldKnown g hs) f.parts old.waiting

looks_speaks : (core : Core) (q : Probe) (src : Source) → CoreKnown core.known core →
    Speaks core.known (effect (looks core q src) [])
looks_speaks core q Null old = record { held = record { waiting = old.waiting; taken = old.taken }; told = tt }
looks_speaks core q Any old = go (found (such_receive q) core.held)
  where
    go : (o : Option (List Held × Held × List Held)) → Speaks core.known (effect (looked_at core q o) [])
    go None = record { held = record { waiting = old.waiting; taken = old.taken }; told = tt }
    go (Some t) = record { held = record { waiting = old.waiting; taken = old.taken }; told = tt }
looks_speaks core q (Rank r) old = go (found (such_receive q) core.held)
  where
    go : (o : Option (List Held × Held × List Held)) → Speaks core.known (effect (looked_at core q o) [])
    go None = record { held = record { waiting = old.waiting; taken = old.taken }; told = tt }
    go (Some t) = record { held = record { waiting = old.waiting; taken = old.taken }; told = tt }

searched_speaks : (core : Core) (q : Probe) → CoreKnown core.known core →
    Speaks core.known (effect (searched_at core q (found (such_receive q) core.held)) [])
searched_speaks core q old = go (found (such_receive q) core.held) refl
  where
    go : (o : Option (List Held × Held × List Held)) → found (such_receive q) core.held ≡ o →
        Speaks core.known (effect (searched_at core q o) [])
    go None x = record { held = record { waiting = old.waiting; taken = old.taken }; told = tt }
    go (Some t) x =
        record {
          held = record {
            waiting =
                All_append (λ y. IsKnown core.known y.sender) t.0 t.2
                (All_left (λ y. IsKnown core.known y.sender) t.0 (t.1 ∷ t.2) all)
                (All_right (λ y. IsKnown core.known y.sender) t.0 (t.1 ∷ t.2) all).1;
            taken = λ i f h y. ⊎_elim (λ a. old.taken i f h a) (λ a. of f h a.1)
                (push_split core.jobs (Probed q.group (Some t.1)) i (Probed f (Some h)) y);
          };
          told = tt;
        }
      where
        all : HeldKnown core.known (t.0 ++ t.1 ∷ t.2)
        all = let f : First (such_receive q) core.held t = some_found (such_receive q) core.held t x in subst
            (λ (hs : List Held). HeldKnown core.known hs) f.parts old.waiting

        of : (f : Option (List ℕ)) (h : Held) → Probed q.group (Some t.1) ≡ Probed f (Some h) →
            IsKnown core.known h.sender
        of f h y =
            let z : t.1 ≡ h = grind arith in subst (λ (u : Held). IsKnown core.known u.sender) z
            (All_right (λ y. IsKnown core.known y.sender) t.0 (t.1 ∷ t.2) all).0

searches_speaks : (core : Core) (q : Probe) (src : Source) → CoreKnown core.known core →
    Speaks core.known (effect (searches core q src) [])
searches_speaks core q Null old = record { held = record { waiting = old.waiting; taken = old.taken }; told = tt }
searches_speaks core q Any old = searched_speaks core q old
searches_speaks core q (Rank r) old = searched_speaks core q old

taken_speaks : (core : Core) (k : ℕ) (into : Handed) (o : Option Job) → slice_get core.jobs k ≡ o →
    CoreKnown core.known core → Speaks core.known (taken_at core k into o)
taken_speaks core k into None x old = record { held = record { waiting = old.waiting; taken = old.taken }; told = tt }
taken_speaks core k into (Some (Waiting p)) x old =
    record { held = record { waiting = old.waiting; taken = old.taken }; told = tt }
taken_speaks core k into (Some (Collecting p h got)) x old =
    record { held = record { waiting = old.waiting; taken = old.taken }; told = tt }
taken_speaks core k into (Some (Offering d basic values)) x old =
    record { held = record { waiting = old.waiting; taken = old.taken }; told = tt }
taken_speaks core k into (Some (Over u)) x old =
    record { held = record { waiting = old.waiting; taken = old.taken }; told = tt }
taken_speaks core k into (Some Closed) x old =
    record { held = record { waiting = old.waiting; taken = old.taken }; told = tt }
taken_speaks core k into (Some (Unmatched d)) x old =
    record { held = record { waiting = old.waiting; taken = old.taken }; told = tt }
taken_speaks core k into (Some (Probed g None)) x old =
    record {
      held =
          same_known core.known core (taken_at core k into (Some (Probed g None))).core refl
          (fewer_set core.jobs k (Replaced (Some into.buffer))) old;
      told = tt;
    }
taken_speaks core k into (Some (Probed g (Some h))) x old =
    record {
      held = match_known core.known (taken_at core k into (Some (Probed g (Some h)))).core h.body
          (slice_set core.jobs k (matched_job (receive_for g h into) h h.body)) refl old.waiting
          (λ i f u y. old.taken i f u (set_probed core.jobs k (receive_for g h into) h i f u y));
      told = answer_told core.known (receive_for g h into) h h.body (old.taken k g h x);
    }

pub called_speaks : (e : Endpoint) (core : Core) (c : Call) → IsKnown core.known e → CoreKnown core.known core →
    Speaks core.known (called e core c)
called_speaks e core (Isend mode c Any tag from) own old =
    record { held = push_known core.known core (Over Sent) (λ f h y. absurd (grind arith)) old; told = tt }
called_speaks e core (Isend mode c Null tag from) own old =
    record { held = push_known core.known core (Over Sent) (λ f h y. absurd (grind arith)) old; told = tt }
called_speaks e core (Isend mode c (Rank to) None from) own old =
    record { held = push_known core.known core (Over Sent) (λ f h y. absurd (grind arith)) old; told = tt }
called_speaks e core (Isend mode c (Rank to) (Some tag) from) own old =
    go (is_same (receiver core.known to) e) (is_eager core.message_limit mode e (receiver core.known to) from.buffer.basic (data_of from))
  where
    go : (o small : Bool) →
        Speaks core.known (sends e core (receiver core.known to) o c tag from.buffer.basic (data_of from) small)
    go true true =
        arrived_speaks core.known (pushed_over core) (own_message e c tag from.buffer.basic (data_of from)) own
        (push_known core.known core (Over Sent) (λ f h y. absurd (grind arith)) old)
    go true false =
        arrived_speaks core.known (pushed_own core (receiver core.known to))
        (own_waiting e c tag from.buffer.basic (data_of from) (length core.jobs)) own
        (push_known core.known core (Unmatched (receiver core.known to)) (λ f h y. absurd (grind arith)) old)
    go false true = record {
      held = push_known core.known core (Over Sent) (λ f h y. absurd (grind arith)) old;
      told =
          (omega arith, tt);
    }
    go false false =
        record {
          held =
              push_known core.known core (Offering (receiver core.known to) from.buffer.basic (data_of from))
              (λ f h y. absurd (grind arith)) old;
          told = (omega arith, tt);
        }
called_speaks e core (Irecv p) own old = go p.source
  where
    go : (src : Source) → Speaks core.known (receives core p src)
    go Null =
        record {
          held =
              push_known core.known core (Over (Received (record { source = Null; tag = None; count = 0 }) p.into.buffer))
              (λ f h y. absurd (grind arith)) old;
          told = tt;
        }
    go Any = posted_speaks core.known core p old
    go (Rank r) = posted_speaks core.known core p old
called_speaks e core (Wait a) own old = record { held = record { waiting = old.waiting; taken = old.taken }; told = tt }
called_speaks e core (Test r) own old = go (completion (over_at core.jobs) (One r))
  where
    go : (o : Option (Answer × List ℕ)) → Speaks core.known (effect (core_tested core o) [])
    go None = record { held = old; told = tt }
    go (Some t) =
        record { held = same_known core.known core (core_used core t.1) refl (fewer_used core.jobs t.1) old; told = tt }
called_speaks e core (Cancel None) own old = record { held = old; told = tt }
called_speaks e core (Cancel (Some k)) own old =
    record {
      held = same_known core.known core (core_cancels core (Some k)) refl (fewer_dropped core.jobs k) old;
      told =
          tt;
    }
called_speaks e core (Iprobe q) own old = looks_speaks core q q.source old
called_speaks e core (Improbe q) own old = searches_speaks core q q.source old
called_speaks e core (Mrecv None into) own old = record { held = old; told = tt }
called_speaks e core (Mrecv (Some k) into) own old = taken_speaks core k into (slice_get core.jobs k) refl old

data_told : (g : ℕ → ℕ) (d : Endpoint) (k : ℕ) (ps : List (ℕ × List ℕ)) → IsKnown g d → Told g (data_frames d k ps)
data_told g d k [] h = tt
data_told g d k (p ∷ ps) h = (h, data_told g d k ps h)

of_told : (limit : MessageLimit) (g : ℕ → ℕ) (d : Endpoint) (k : ℕ) (basic : BasicType) (values : List ℕ) (w : Bool) →
    IsKnown g d → Told g (wanted_data limit d k basic values w)
of_told limit g d k basic values true h = data_told g d k (cut limit basic values) h
of_told limit g d k basic values false h = tt

more_probed : (p : Receive) (u : Held) (got : List ℕ) (f : Option (List ℕ)) (h : Held) →
    with_more p u got ≡ Probed f (Some h) → ⊥
more_probed p u got f h x = go (length got == count_of u.body) x
  where
    go : (t : Bool) → (if t then Over (outcome p (full u got)) else Collecting p u got) ≡ Probed f (Some h) → ⊥
    go true y = absurd (grind arith)
    go false y = absurd (grind arith)

pub came_speaks : (core : Core) (a : Endpoint) (f : Frame) → IsKnown core.known a → CoreKnown core.known core →
    Speaks core.known (came core a f)
came_speaks core a (Eager c tag basic values) h old =
    arrived_speaks core.known core (record { sender = a; context = c; tag = tag; basic = basic; body = Whole values }) h
    old
came_speaks core a (Rts c tag basic k n) h old =
    arrived_speaks core.known core (record { sender = a; context = c; tag = tag; basic = basic; body = Part k n }) h old
came_speaks core a (Cts k w) h old = go (slice_get core.jobs k)
  where
    still : Speaks core.known (effect core [])
    still = record { held = old; told = tt }

    go : (o : Option Job) → Speaks core.known (answered core a k w o)
    go None = still
    go (Some (Waiting p)) = still
    go (Some (Collecting p u got)) = still
    go (Some (Over o)) = still
    go (Some Closed) = still
    go (Some (Unmatched d0)) = still
    go (Some (Probed g0 o0)) = still
    go (Some (Offering d basic values)) = at (is_same d a) refl
      where
        at : (t : Bool) → is_same d a ≡ t →
            Speaks core.known
            (if t then effect (with_jobs core (slice_set core.jobs k (Over Sent))) (wanted_data core.message_limit d k basic values w) else
            effect core [])
        at false x = still
        at true x =
            record {
              held =
                  same_known core.known core (with_jobs core (slice_set core.jobs k (Over Sent))) refl
                  (fewer_set core.jobs k Sent) old;
              told =
                  of_told core.message_limit core.known d k basic values w
                  (subst (λ (z : Endpoint). IsKnown core.known z) (sym (same_eq d a x)) h);
            }
came_speaks core a (Data k o values) h old = go (collecting a k core.jobs)
  where
    still : Speaks core.known (effect core [])
    still = record { held = old; told = tt }

    go : (t : Option (ℕ × Job)) → Speaks core.known (effect (collected core o values t) [])
    go None = still
    go (Some (j, Waiting p)) = still
    go (Some (j, Offering d basic vs)) = still
    go (Some (j, Over u)) = still
    go (Some (j, Closed)) = still
    go (Some (j, Unmatched d0)) = still
    go (Some (j, Probed g0 o0)) = still
    go (Some (j, Collecting p u got)) = at (length got == o)
      where
        at : (t : Bool) →
            Speaks core.known
            (effect (if t then with_jobs core (slice_set core.jobs j (with_more p u (got ++ values))) else core) [])
        at true =
            record {
              held =
                  record {
                    waiting = old.waiting;
                    taken =
                        λ i f h x. ⊎_elim (λ a. old.taken i f h a) (λ a. absurd (more_probed p u (got ++ values) f h a.1))
                        (set_split core.jobs j (with_more p u (got ++ values)) i (Probed f (Some h)) x);
                  };
              told = tt;
            }
        at false = still

-- hearing a word makes its endpoint known, and forgets none
pub met_grows : (core : Core) (a : Endpoint) (r : ℕ) → core.known r ≤ (met core a).known r
met_grows core a r = go (nat_lt (core.known a.rank) a.incarnation) refl
  where
    go : (t : Bool) → nat_lt (core.known a.rank) a.incarnation ≡ t →
        core.known r ≤ (if t then learned core a.rank a.incarnation else core).known r
    go false h = omega arith
    go true h = at (r == a.rank) refl
      where
        at : (u : Bool) → (r == a.rank) ≡ u → core.known r ≤ (if u then a.incarnation else core.known r)
        at false q = omega arith
        at true q =
            let e : core.known r ≡ core.known a.rank = ap core.known (eqb-true r a.rank q) in
            let lt : core.known a.rank < a.incarnation = ltb-true (core.known a.rank) a.incarnation h in
            omega arith

pub met_knows : (core : Core) (a : Endpoint) → IsKnown (met core a).known a
met_knows core a = go (nat_lt (core.known a.rank) a.incarnation) refl
  where
    go : (t : Bool) → nat_lt (core.known a.rank) a.incarnation ≡ t →
        IsKnown (if t then learned core a.rank a.incarnation else core).known a
    go false h = ltb-false (core.known a.rank) a.incarnation h
    go true h = rw (eq-eqb a.rank a.rank refl) (omega arith)

known_more : (g g' : ℕ → ℕ) (hs : List Held) → ((r : ℕ) → g r ≤ g' r) → HeldKnown g hs → HeldKnown g' hs
known_more g g' [] le a = tt
known_more g g' (h ∷ hs) le a = (le_trans a.0 (le h.sender.rank), known_more g g' hs le a.1)

pub met_held : (core : Core) (a : Endpoint) → CoreKnown core.known core → CoreKnown (met core a).known (met core a)
met_held core a old = more (go (nat_lt (core.known a.rank) a.incarnation))
  where
    go : (t : Bool) → CoreKnown core.known (if t then learned core a.rank a.incarnation else core)
    go true =
        record {
          waiting =
              All_filter (λ h. IsKnown core.known h.sender) (λ h. not (is_former a.rank a.incarnation h.sender))
              core.held old.waiting;
          taken = λ i f h x. old.taken i f h (fewer_ended a.rank a.incarnation core.jobs i (Probed f (Some h)) tt x);
        }
    go false = old

    more : CoreKnown core.known (met core a) → CoreKnown (met core a).known (met core a)
    more x =
        record {
          waiting = known_more core.known (met core a).known (met core a).held (met_grows core a) x.waiting;
          taken = λ i f h y. le_trans (x.taken i f h y) (met_grows core a h.sender.rank);
        }

-- so nothing was ever sent to an endpoint that the sender does not know
abbrev pub Untold : (Endpoint → ℕ → ℕ) → (Endpoint → Endpoint → Link) → Type 0
Untold known links = (s d : Endpoint) → known s d.rank < d.incarnation → (links s d).accepted ≡ []

one_untold : (known : Endpoint → ℕ → ℕ) (links : Endpoint → Endpoint → Link) (e : Endpoint) (o : Endpoint × Frame) →
    IsKnown (known e) o.0 → Untold known links → Untold known (accept links e o)
one_untold known links e o k old s d late = go (is_same s e && is_same d o.0) refl
  where
    go : (t : Bool) → (is_same s e && is_same d o.0) ≡ t →
        (if t then record (links e o.0) { accepted = (links e o.0).accepted ++ o.1 ∷ [] } else links s d).accepted ≡ []
    go false h = old s d late
    go true h =
        let p = and_parts (is_same s e) (is_same d o.0) h in
        let l1 : known e d.rank < d.incarnation = subst (λ (z : Endpoint). known z d.rank < d.incarnation) (same_eq s e p.0) late in
        let l2 : known e o.0.rank < o.0.incarnation = subst (λ (z : Endpoint). known e z.rank < z.incarnation) (same_eq d o.0 p.1) l1 in
        absurd (omega (arith, k, l2))

pub accept_untold : (known : Endpoint → ℕ → ℕ) (links : Endpoint → Endpoint → Link) (e : Endpoint)
    (out : List (Endpoint × Frame)) → Told (known e) out → Untold known links → Untold known (accept_all links e out)
accept_untold known links e [] a old = old
accept_untold known links e (o ∷ out) a old =
    accept_untold known (accept links e o) e out a.1 (one_untold known links e o a.0 old)

pub hand_untold : (known : Endpoint → ℕ → ℕ) (links : Endpoint → Endpoint → Link) (a e : Endpoint) →
    Untold known links → Untold known (handed_on links a e)
hand_untold known links a e old s d late = go (is_same s a && is_same d e) refl
  where
    go : (t : Bool) → (is_same s a && is_same d e) ≡ t →
        (if t then record (links a e) { handed = suc (links a e).handed } else links s d).accepted ≡ []
    go false h = old s d late
    go true h =
        let p = and_parts (is_same s a) (is_same d e) h in
        subst (λ (z : Endpoint). (links z e).accepted ≡ []) (same_eq s a p.0)
        (subst (λ (z : Endpoint). (links s z).accepted ≡ []) (same_eq d e p.1) (old s d late))
