-- A send that is not over still has its token.
use Rattle.std.proofs.Common.{◌≡◌, ℕ, ◌+◌, ◌≤◌, Bool, true, false, ◌&&◌, List, [], Some, slice_get, refl, sym, ap, ◌∙◌}
use Rattle.std.proofs.Common.{subst, arith, ⊎_elim}
use Rattle.perfect_queues.specs.Calls.{Call}
use Rattle.vocabulary.specs.Endpoints.{is_same}
use Rattle.perfect_queues.specs.Events.{Entry}
use Rattle.vocabulary.specs.declared.basic_type.BasicType.{BasicType}
use Rattle.vocabulary.specs.declared.endpoint.Endpoint.{Endpoint}
use Rattle.proof_pure_network.specs.Core.{Core}
use Rattle.proof_pure_network.specs.Engine.{called, came, core_settled, met}
use Rattle.proof_pure_network.specs.Frames.{Frame, Values}
use Rattle.proof_pure_network.specs.Links.{Link, accept_all, handed_on}
use Rattle.proof_pure_network.specs.Network.{Network, call_at, hand_at, hear_at, logged, with_core, with_log}
use Rattle.proof_pure_network.proofs.Due.{Offers, OffersBack, back_fewer, called_offers, came_back, came_ends, met_back}
use Rattle.proof_pure_network.proofs.Due.{met_live_before, met_names, met_parts_kept, token_answered, token_aside}
use Rattle.proof_pure_network.proofs.Due.{token_at, token_taken}
use Rattle.proof_pure_network.proofs.Invariants.{Due, Sane, each_core}
use Rattle.proof_pure_network.proofs.JobLemmas.{fewer_settled, settled_known}
use Rattle.proof_pure_network.proofs.Knowledge.{called_known, came_known}
use Rattle.proof_pure_network.proofs.Pairs.{core_else, core_here, each_pair, hand_fits, token, token_else, token_from}
use Rattle.proof_pure_network.proofs.Simulation.{is_stale}
use Rattle.proof_pure_network.proofs.Tokens.{Fits, called_parts, came_envelopes, came_parts, envelopes, is_cts, one}
use Rattle.proof_pure_network.proofs.Tokens.{parts, same_sym, settled_parts}

abbrev pub NamesOf : Endpoint → Core → Type 0
NamesOf x core = (k : ℕ) (d : Endpoint) (basic : BasicType) (values : List ℕ) → Offers core k d basic values →
    (core.known d.rank ≡ d.incarnation) × (is_same d x ≡ false)

pub changed_due : (w : Network) (e : Endpoint) (core' : Core) (links' : Endpoint → Endpoint → Link) → Due w →
    NamesOf e core' →
    ((s : Endpoint) → is_same s e ≡ false → (k : ℕ) → is_stale core'.known s ≡ false →
    (is_stale (w.core e).known s ≡ false) ×
    (token (with_core w.core e core') links' s e k ≡ token w.core w.link s e k)) →
    ((d : Endpoint) → is_same d e ≡ false → (k : ℕ) (basic : BasicType) (values : List ℕ) →
    is_stale (w.core d).known e ≡ false → Offers core' k d basic values →
    1 ≤ token (with_core w.core e core') links' e d k) →
    ((s d : Endpoint) → is_same s e ≡ false → is_same d e ≡ false →
    (k : ℕ) → token (with_core w.core e core') links' s d k ≡ token w.core w.link s d k) →
    (logs : Endpoint → List (List ℕ)) (history : List Entry) →
    Due (record {
      core = with_core w.core e core';
      link = links';
      current = w.current;
      history = history;
      log =
          logs;
      message_limit = w.message_limit;
    })
changed_due w e core' links' due names' at_e from_e aside logs history =
    record {
      named = each_core NamesOf w.core e core' due.named names';
      offered = each_pair e (λ s d. (k : ℕ) (basic : BasicType) (values : List ℕ) → is_stale (core2 d).known s ≡ false →
          Offers (core2 s) k d basic values → 1 ≤ token core2 links' s d k)
          (λ s h k basic values live o.
          (let x = at_e s h k (subst (λ (c : Core). is_stale c.known s ≡ false) (core_here w.core e core') live) in
          let y : 1 ≤ token w.core w.link s e k = due.offered s e h k basic values x.0 (subst (λ (c : Core). Offers c k e basic values) (core_else w.core e core' s h) o) in
          omega (arith, x.1, y)))
          (λ d h k basic values live o. from_e d h k basic values
          (subst (λ (c : Core). is_stale c.known e ≡ false) (core_else w.core e core' d h) live)
          (subst (λ (c : Core). Offers c k d basic values) (core_here w.core e core') o))
          (λ s d hs hd apart k basic values live o.
          (let y : 1 ≤ token w.core w.link s d k = due.offered s d apart k basic values (subst (λ (c : Core). is_stale c.known s ≡ false) (core_else w.core e core' d hd) live) (subst (λ (c : Core). Offers c k d basic values) (core_else w.core e core' s hs) o) in
          omega (arith, aside s d hs hd k, y)));
    }
  where
    core2 : Endpoint → Core
    core2 = with_core w.core e core'

pub call_due : (V : Values) (w : Network) (e : Endpoint) (c : Call) → Sane V w → Due w → Due (call_at w e c)
call_due V w e c sane due =
    changed_due w e core' (accept_all w.link e out) due names' at_e from_e
    (λ s d hs hd k. token_else w.core w.link e core' out s d k hs hd) (with_log w.log e (logged (w.core e) c)) w.history
  where
    core' : Core
    core' = (called e (w.core e) c).core

    out : List (Endpoint × Frame)
    out = (called e (w.core e) c).out

    names' : NamesOf e core'
    names' k d basic values o =
        subst (λ (g : ℕ → ℕ). (g d.rank ≡ d.incarnation) × (is_same d e ≡ false)) (sym (called_known e (w.core e) c))
        (⊎_elim (λ a. due.named e k d basic values a) (λ a. (a.knows, a.other))
        (called_offers e (w.core e) c k d basic values o))

    at_e : (s : Endpoint) → is_same s e ≡ false → (k : ℕ) → is_stale core'.known s ≡ false →
        (is_stale (w.core e).known s ≡ false) ×
        (token (with_core w.core e core') (accept_all w.link e out) s e k ≡ token w.core w.link s e k)
    at_e s h k live = (
      subst (λ (g : ℕ → ℕ). is_stale g s ≡ false) (called_known e (w.core e) c) live,
      omega (arith, token_at w.core w.link e core' out s k sane.fits h, called_parts s k e (w.core e) c),
    )

    from_e : (d : Endpoint) → is_same d e ≡ false → (k : ℕ) (basic : BasicType) (values : List ℕ) →
        is_stale (w.core d).known e ≡ false → Offers core' k d basic values →
        1 ≤ token (with_core w.core e core') (accept_all w.link e out) e d k
    from_e d h k basic values live o =
        let t : token (with_core w.core e core') (accept_all w.link e out) e d k ≡ token w.core w.link e d k + envelopes d k out = token_from w.core w.link e core' out d k sane.fits h in
        ⊎_elim
        (λ a. (let y : 1 ≤ token w.core w.link e d k = due.offered e d (same_sym e d ∙ h) k basic values live a in omega
        (arith, t, y)))
        (λ a. (let y : envelopes d k out ≡ 1 = a.sends in omega (arith, t, y)))
        (called_offers e (w.core e) c k d basic values o)

-- where the offers were there before, and the links are as they were
pub still_due : (V : Values) (w : Network) (e : Endpoint) (core' : Core) → Sane V w → Due w →
    OffersBack (w.core e) core' →
    ((k : ℕ) (d : Endpoint) (basic : BasicType) (values : List ℕ) → (w.core e).known d.rank ≡ d.incarnation →
    Offers core' k d basic values → core'.known d.rank ≡ d.incarnation) →
    ((s : Endpoint) (k : ℕ) → is_stale core'.known s ≡ false → (is_stale (w.core e).known s ≡ false) ×
    (parts s k core' ≡ parts s k (w.core e))) → (history : List Entry) →
    Due (record {
      core = with_core w.core e core';
      link = w.link;
      current = w.current;
      history = history;
      log =
          w.log;
      message_limit = w.message_limit;
    })
still_due V w e core' sane due back names' at_e history =
    changed_due w e core' w.link due
    (λ k d basic values o.
    (let x = due.named e k d basic values (back k d basic values o) in (names' k d basic values x.0 o, x.1)))
    (λ s h k live.
    (let x = at_e s k live in (x.0, omega (arith, token_at w.core w.link e core' [] s k sane.fits h, x.1))))
    (λ d h k basic values live o. (let y : 1 ≤ token w.core w.link e d k = due.offered e d (same_sym e d ∙ h) k basic values live (back k d basic values o) in omega (arith, token_from w.core w.link e core' [] d k sane.fits h, y)))
    (λ s d hs hd k. token_else w.core w.link e core' [] s d k hs hd) w.log history

pub hear_due : (V : Values) (w : Network) (e a : Endpoint) → Sane V w → Due w → Due (hear_at w e a)
hear_due V w e a sane due =
    still_due V w e (met (w.core e) a) sane due (met_back (w.core e) a)
    (λ k d basic values x o. met_names (w.core e) a k d basic values x o)
    (λ s k live. (met_live_before (w.core e) a s live, met_parts_kept (w.core e) a s k live)) w.history

pub settle_due : (V : Values) (w : Network) (e : Endpoint) (history : List Entry) → Sane V w → Due w →
    Due (record w { core = with_core w.core e (core_settled (w.core e)); history = history })
settle_due V w e history sane due =
    still_due V w e (core_settled (w.core e)) sane due
    (back_fewer (w.core e) (core_settled (w.core e)) (fewer_settled (w.core e)))
    (λ k d basic values x o. subst (λ (g : ℕ → ℕ). g d.rank ≡ d.incarnation) (sym (settled_known (w.core e))) x)
    (λ s k live. (
      subst (λ (g : ℕ → ℕ). is_stale g s ≡ false) (settled_known (w.core e)) live,
      settled_parts s k (w.core e),
    )) history

pub hand_due : (V : Values) (w : Network) (e a : Endpoint) (f : Frame) → is_same a e ≡ false →
    slice_get (w.link a e).accepted (w.link a e).handed ≡ Some f → Sane V w → Due w → Due (hand_at w e a (Some f))
hand_due V w e a f apart next sane due =
    changed_due w e core' (accept_all links1 e out) due names' at_e from_e aside w.log w.history
  where
    core' : Core
    core' = (came (w.core e) a f).core

    out : List (Endpoint × Frame)
    out = (came (w.core e) a f).out

    links1 : Endpoint → Endpoint → Link
    links1 = handed_on w.link a e

    fits1 : Fits links1
    fits1 = hand_fits w.link a e f next sane.fits

    names' : NamesOf e core'
    names' k d basic values o =
        subst (λ (g : ℕ → ℕ). (g d.rank ≡ d.incarnation) × (is_same d e ≡ false)) (sym (came_known (w.core e) a f))
        (due.named e k d basic values (came_back (w.core e) a f k d basic values o))

    at_e : (s : Endpoint) → is_same s e ≡ false → (k : ℕ) → is_stale core'.known s ≡ false →
        (is_stale (w.core e).known s ≡ false) ×
        (token (with_core w.core e core') (accept_all links1 e out) s e k ≡ token w.core w.link s e k)
    at_e s h k live = (
      subst (λ (g : ℕ → ℕ). is_stale g s ≡ false) (came_known (w.core e) a f) live,
      omega (
        arith,
        token_at w.core links1 e core' out s k fits1 h,
        came_parts s k (w.core e) a f,
        token_taken w.core w.link a e s k f apart next,
      ),
    )

    from_e : (d : Endpoint) → is_same d e ≡ false → (k : ℕ) (basic : BasicType) (values : List ℕ) →
        is_stale (w.core d).known e ≡ false → Offers core' k d basic values →
        1 ≤ token (with_core w.core e core') (accept_all links1 e out) e d k
    from_e d h k basic values live o = go (is_same a d && is_cts k f) refl
      where
        go : (b : Bool) → (is_same a d && is_cts k f) ≡ b →
            1 ≤ token (with_core w.core e core') (accept_all links1 e out) e d k
        go true x = absurd (came_ends (w.core e) a d f k basic values (ap one x) o)
        go false x =
            let y : 1 ≤ token w.core w.link e d k = due.offered e d (same_sym e d ∙ h) k basic values live (came_back (w.core e) a f k d basic values o) in
            let z : one (is_same a d && is_cts k f) ≡ 0 = ap one x in
            omega (
              arith,
              token_from w.core links1 e core' out d k fits1 h,
              came_envelopes d k (w.core e) a f,
              token_answered w.core w.link a e d k f apart next,
              y,
              z,
            )

    aside : (s d : Endpoint) → is_same s e ≡ false → is_same d e ≡ false →
        (k : ℕ) → token (with_core w.core e core') (accept_all links1 e out) s d k ≡ token w.core w.link s d k
    aside s d hs hd k = token_else w.core links1 e core' out s d k hs hd ∙ token_aside w.core w.link a e s d k hs hd
