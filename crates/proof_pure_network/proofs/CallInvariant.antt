-- A call keeps what holds.
use Rattle.std.proofs.Common.{◌≡◌, ℕ, ◌+◌, ◌≤◌, ◌<◌, Bool, true, false, List, [], ◌∷◌, ◌++◌, length, Option, Some, None}
use Rattle.std.proofs.Common.{if◌then◌else◌, get_or, map, refl, sym, ap, ◌∙◌, subst, arith, ⊎_elim}
use Rattle.std.proofs.lemmas.Bool.{le-ltb}
use Rattle.std.proofs.lemmas.List.{get_or_append_left, get_or_push, length_push, length-append, length-map}
use Rattle.perfect_queues.specs.Buffers.{data_of}
use Rattle.vocabulary.specs.declared.envelope.Source.TheVariants.{Any, Null, Rank}
use Rattle.perfect_queues.specs.Calls.{Call, Cancel, Improbe, Iprobe, Irecv, Isend, Mrecv, Test, Wait, is_eager}
use Rattle.perfect_queues.specs.Calls.{message_sent, receiver}
use Rattle.vocabulary.specs.Endpoints.{is_same}
use Rattle.perfect_queues.specs.Messages.{Message}
use Rattle.vocabulary.specs.declared.endpoint.Endpoint.{Endpoint}
use Rattle.perfect_queues.proofs.EndpointLemmas.{same_eq, same_refl}
use Rattle.proof_pure_network.specs.Core.{Core, NoneFits, new_core, view}
use Rattle.proof_pure_network.specs.Engine.{called}
use Rattle.proof_pure_network.specs.Frames.{Frame, Values, frame_of, message}
use Rattle.proof_pure_network.specs.Jobs.{request_of}
use Rattle.proof_pure_network.specs.Network.{Network, call_at, logged, with_core, with_log}
use Rattle.proof_pure_network.proofs.Counts.{OwnCore}
use Rattle.proof_pure_network.proofs.Own.{called_own}
use Rattle.proof_pure_network.proofs.Honest.{IsLogged, called_honest, called_out}
use Rattle.proof_pure_network.proofs.HonestValues.{HonestCore, IsHonest}
use Rattle.proof_pure_network.proofs.Invariants.{Extends, KnownBelow, Sane, accept_honest, accept_none, each_core}
use Rattle.proof_pure_network.proofs.Invariants.{views}
use Rattle.proof_pure_network.proofs.Joins.{IsHeard, IsSpelled}
use Rattle.proof_pure_network.proofs.Knowledge.{called_known}
use Rattle.proof_pure_network.proofs.NoneFits.{called_quiet}
use Rattle.proof_pure_network.proofs.Pairs.{core_else, core_here, each_pair, token, token_else, token_from, token_here}
use Rattle.proof_pure_network.proofs.Tokens.{IsNext, accept_all_fits, answers, called_envelopes, called_length}
use Rattle.proof_pure_network.proofs.Tokens.{called_parts, envelopes, parts, requests_of, same_sym}

pub extends_before : (V : Values) (w : Network) (e : Endpoint) (more : List (List ℕ)) →
    ((s : Endpoint) (k : ℕ) → k < length (with_log w.log e more s) → V s k ≡ get_or (with_log w.log e more s) k []) →
    Extends V w
extends_before V w e more x s k lt = go (is_same s e) refl
  where
    y : k < length (with_log w.log e more s) → V s k ≡ get_or (with_log w.log e more s) k []
    y = x s k

    go : (t : Bool) → is_same s e ≡ t → V s k ≡ get_or (w.log s) k []
    go false h = (rw h at y) lt
    go true h =
        let es : s ≡ e = same_eq s e h in
        let z : k < length (w.log e ++ more) → V s k ≡ get_or (w.log e ++ more) k [] = rw h at y in
        let lt' : k < length (w.log e) = subst (λ (q : Endpoint). k < length (w.log q)) es lt in
        let v : V s k ≡ get_or (w.log e ++ more) k [] = z (omega (arith, length-append (w.log e) more)) in
        v ∙ (get_or_append_left (w.log e) more [] k lt' ∙ ap (λ (q : Endpoint). get_or (w.log q) k []) (sym es))

pub call_logged : (V : Values) (w : Network) (e : Endpoint) (c : Call) → Sane V w → Extends V (call_at w e c) →
    IsLogged V e (w.core e) c
call_logged V w e (Irecv p) sane x = tt
call_logged V w e (Wait a) sane x = tt
call_logged V w e (Test r) sane x = tt
call_logged V w e (Cancel r) sane x = tt
call_logged V w e (Iprobe q) sane x = tt
call_logged V w e (Improbe q) sane x = tt
call_logged V w e (Mrecv k into) sane x = tt
call_logged V w e (Isend mode c to tag from) sane x =
    let k : ℕ = length (w.core e).jobs in
    let l : length (w.log e) ≡ length (w.core e).jobs = sane.logs e in
    let y : k < length (with_log w.log e ((data_of from) ∷ []) e) → V e k ≡ get_or (with_log w.log e ((data_of from) ∷ []) e) k [] = x e k in
    let z : k < length (w.log e ++ (data_of from) ∷ []) → V e k ≡ get_or (w.log e ++ (data_of from) ∷ []) k [] = rw (same_refl e) at y in
    sym (z (omega (arith, length_push (w.log e) (data_of from))) ∙ get_or_push (w.log e) (data_of from) [] k l)

pub call_spelled : (V : Values) (e : Endpoint) (core : Core) (c : Call) → IsLogged V e core c →
    IsSpelled V (message_sent e (view V core) c)
call_spelled V e core (Irecv p) x = tt
call_spelled V e core (Wait a) x = tt
call_spelled V e core (Test r) x = tt
call_spelled V e core (Cancel r) x = tt
call_spelled V e core (Iprobe q) x = tt
call_spelled V e core (Improbe q) x = tt
call_spelled V e core (Mrecv k into) x = tt
call_spelled V e core (Isend mode c Any tag from) x = tt
call_spelled V e core (Isend mode c Null tag from) x = tt
call_spelled V e core (Isend mode c (Rank to) None from) x = tt
call_spelled V e core (Isend mode c (Rank to) (Some tag) from) x =
    go (is_eager core.message_limit mode e (receiver core.known to) from.buffer.basic (data_of from))
  where
    k : ℕ
    k = length (map (request_of V) core.jobs)

    said : V e k ≡ (data_of from)
    said = ap (V e) (length-map core.jobs (request_of V)) ∙ sym x

    m : Bool → Message
    m b = record {
      sender = e;
      context = c;
      tag = tag;
      basic = from.buffer.basic;
      values = (data_of from);
      request =
          if b then None else Some k;
    }

    big : List ℕ → Option Message
    big vs = Some (record {
      sender = e;
      context = c;
      tag = tag;
      basic = from.buffer.basic;
      values = vs;
      request =
          Some k;
    })

    go : (b : Bool) → message V e (frame_of (m b)) ≡ Some (m b)
    go true = refl
    go false = ap big said

-- no endpoint that a current one may send to has learnt a later one of its rank
pub heard_at : (V : Values) (w : Network) (e : Endpoint) → e.incarnation ≡ w.current e.rank → Sane V w →
    IsHeard (views V w) e
heard_at V w e now sane to =
    let d : Endpoint = receiver (w.core e).known to in
    let there : (w.core e).known to ≤ w.current to = sane.known e (omega arith) to in
    let k : (w.core d).known e.rank ≤ w.current e.rank = sane.known d there e.rank in
    le-ltb e.incarnation ((w.core d).known e.rank) (omega arith)

pub call_sane : (V : Values) (w : Network) (e : Endpoint) (c : Call) → e.incarnation ≡ w.current e.rank →
    IsLogged V e (w.core e) c → Sane V w → Sane V (call_at w e c)
call_sane V w e c now is sane =
    record {
      none_fits =
          each_core (λ x core. NoneFits core) w.core e core' sane.none_fits
          (called_quiet e (w.core e) c (sane.none_fits e));
      known = each_core (λ x core. x.incarnation ≤ w.current x.rank → KnownBelow w.current core) w.core e core'
          sane.known
          (λ le r. subst (λ (f : ℕ → ℕ). f r ≤ w.current r) (sym (called_known e (w.core e) c)) (sane.known e le r));
      unborn = each_core (λ x core. w.current x.rank < x.incarnation → core ≡ new_core w.message_limit x) w.core e
          core' sane.unborn
          (λ late. absurd (omega arith));
      unsent = accept_none w.current w.link e out now sane.unsent;
      logs = logs;
      fits = accept_all_fits w.link e out sane.fits;
      cores = each_core (λ x core. HonestCore V x core) w.core e core' sane.cores
          (called_honest V e (w.core e) c is (sane.cores e));
      own = each_core (λ x core. OwnCore x core) w.core e core' sane.own (called_own e (w.core e) c (sane.own e));
      frames = accept_honest (IsHonest V) w.link e out sane.frames (called_out V e (w.core e) c is);
      once = each_pair e (λ s d. (k : ℕ) → token w'.core w'.link s d k ≤ 1) (λ s h k. once_here s h k)
          (λ d h k. once_from d h k (called_envelopes d k e (w.core e) c))
          (λ s d hs hd apart k. once_else s d hs hd apart k);
      fresh = each_pair e (λ s d. (k : ℕ) → length (w'.core s).jobs ≤ k → token w'.core w'.link s d k ≡ 0)
          (λ s h k l. fresh_here s h k l) (λ d h k l. fresh_from d h k l (called_envelopes d k e (w.core e) c))
          (λ s d hs hd apart k l. fresh_else s d hs hd apart k l);
    }
  where
    core' : Core
    core' = (called e (w.core e) c).core

    out : List (Endpoint × Frame)
    out = (called e (w.core e) c).out

    w' : Network
    w' = call_at w e c

    grow : length core'.jobs ≡ length (w.core e).jobs + requests_of (w.core e) c
    grow = called_length e (w.core e) c

    logs : (x : Endpoint) → length (with_log w.log e (logged (w.core e) c) x) ≡ length (with_core w.core e core' x).jobs
    logs x = go (is_same x e) refl
      where
        go : (t : Bool) → is_same x e ≡ t → length (if t then w.log e ++ logged (w.core e) c else w.log x) ≡
            length (if t then core' else w.core x).jobs
        go true h =
            let l : length (w.log e) ≡ length (w.core e).jobs = sane.logs e in omega
            (arith, length-append (w.log e) (logged (w.core e) c), grow)
        go false h = sane.logs x

    at_e : length (w'.core e).jobs ≡ length core'.jobs
    at_e = ap (λ (x : Core). length x.jobs) (core_here w.core e core')

    apart_from : (d : Endpoint) → is_same d e ≡ false → is_same e d ≡ false
    apart_from d h = same_sym e d ∙ h

    here_le : (s : Endpoint) → is_same s e ≡ false → (k : ℕ) → token w'.core w'.link s e k ≤ token w.core w.link s e k +
        0
    here_le s h k =
        token_here w.core w.link e core' out s k 0 sane.fits h
        (let p : parts s k core' + answers s k out ≡ parts s k (w.core e) = called_parts s k e (w.core e) c in omega
        arith)

    once_here : (s : Endpoint) → is_same s e ≡ false → (k : ℕ) → token w'.core w'.link s e k ≤ 1
    once_here s h k =
        let o : token w.core w.link s e k ≤ 1 = sane.once s e h k in
        let p : token w'.core w'.link s e k ≤ token w.core w.link s e k + 0 = here_le s h k in omega arith

    fresh_here : (s : Endpoint) → is_same s e ≡ false → (k : ℕ) → length (w'.core s).jobs ≤ k →
        token w'.core w'.link s e k ≡ 0
    fresh_here s h k l =
        let j : length (w'.core s).jobs ≡ length (w.core s).jobs = ap (λ (x : Core). length x.jobs) (core_else w.core e core' s h) in
        let o : token w.core w.link s e k ≡ 0 = sane.fresh s e h k (omega arith) in
        let p : token w'.core w'.link s e k ≤ token w.core w.link s e k + 0 = here_le s h k in omega arith

    once_from : (d : Endpoint) → is_same d e ≡ false →
        (k : ℕ) → IsNext (envelopes d k out) k (length (w.core e).jobs) (length core'.jobs) →
        token w'.core w'.link e d k ≤ 1
    once_from d h k n =
        let t : token w'.core w'.link e d k ≡ token w.core w.link e d k + envelopes d k out = token_from w.core w.link e core' out d k sane.fits h in
        ⊎_elim
        (λ z. let o : token w.core w.link e d k ≤ 1 = sane.once e d (apart_from d h) k in omega (arith, t, z, o))
        (λ z. let o : token w.core w.link e d k ≡ 0 = sane.fresh e d (apart_from d h) k (let zz : k ≡ length (w.core e).jobs = z.1 in omega arith) in omega (arith, t, z.0, o)) n

    fresh_from : (d : Endpoint) → is_same d e ≡ false → (k : ℕ) → length (w'.core e).jobs ≤ k →
        IsNext (envelopes d k out) k (length (w.core e).jobs) (length core'.jobs) → token w'.core w'.link e d k ≡ 0
    fresh_from d h k l n =
        let t : token w'.core w'.link e d k ≡ token w.core w.link e d k + envelopes d k out = token_from w.core w.link e core' out d k sane.fits h in
        ⊎_elim
        (λ z. let o : token w.core w.link e d k ≡ 0 = sane.fresh e d (apart_from d h) k (omega (arith, at_e, grow)) in
        omega (arith, t, z, o))
        (λ z. absurd
        (let a : k ≡ length (w.core e).jobs = z.1 in let b : length core'.jobs ≡ length (w.core e).jobs + 1 = z.2 in
        omega (arith, at_e))) n

    once_else : (s d : Endpoint) → is_same s e ≡ false → is_same d e ≡ false → is_same s d ≡ false →
        (k : ℕ) → token w'.core w'.link s d k ≤ 1
    once_else s d hs hd apart k =
        let o : token w.core w.link s d k ≤ 1 = sane.once s d apart k in omega
        (arith, token_else w.core w.link e core' out s d k hs hd)

    fresh_else : (s d : Endpoint) → is_same s e ≡ false → is_same d e ≡ false → is_same s d ≡ false →
        (k : ℕ) → length (w'.core s).jobs ≤ k → token w'.core w'.link s d k ≡ 0
    fresh_else s d hs hd apart k l =
        let j : length (w'.core s).jobs ≡ length (w.core s).jobs = ap (λ (x : Core). length x.jobs) (core_else w.core e core' s hs) in
        let o : token w.core w.link s d k ≡ 0 = sane.fresh s d apart k (omega arith) in omega
        (arith, token_else w.core w.link e core' out s d k hs hd)
