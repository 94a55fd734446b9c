-- What a transport over ports makes of what is handed to it, step by step.
use Rattle.std.proofs.Common.{◌≡◌, ℕ, List, [], ◌∷◌, ◌++◌, refl, sym, ap, subst, ◌∙◌, append_assoc}
use Rattle.std.proofs.lemmas.List.{map-append}
use Rattle.std.proofs.lemmas.List.Elements.{filter-append}
use Rattle.std.specs.Prelude.{map, not, Option, Some, None}
use Rattle.delayed_acknowledgements.specs.declared.delayed.DelayedAcknowledgement.{DelayedAcknowledgement}
use Rattle.port_transport.specs.declared.wire.WireEvent.{WireEvent}
use Rattle.port_transport.specs.declared.wire.WireEvent.TheVariants.{Went, Came, Wrote}
use Rattle.port_transport.specs.Wires.{Parcel, gone, come, written}
use Rattle.port_transport.specs.Ports.{
  Passes,
  PortState,
  Thins,
  at_port,
  is_short,
  kept_at,
  plain_in,
  short_in,
  with_end,
}
use Rattle.port_transport.proofs.OmittedDatagrams.{IsAtMostOne, all_go}
use Rattle.port_transport.proofs.OmittedDatagrams as thinning

pub gone_joined : (es fs : List WireEvent) → gone (es ++ fs) ≡ gone es ++ gone fs
gone_joined [] fs = refl
gone_joined (Went port bytes ∷ es) fs = ap (λ (l : List Parcel). (port, bytes) ∷ l) (gone_joined es fs)
gone_joined (Came bytes ∷ es) fs = gone_joined es fs
gone_joined (Wrote text ∷ es) fs = gone_joined es fs

pub come_joined : (es fs : List WireEvent) → come (es ++ fs) ≡ come es ++ come fs
come_joined [] fs = refl
come_joined (Went port bytes ∷ es) fs = come_joined es fs
come_joined (Came bytes ∷ es) fs = ap (λ (l : List (List ℕ)). bytes ∷ l) (come_joined es fs)
come_joined (Wrote text ∷ es) fs = come_joined es fs

pub written_joined : (es fs : List WireEvent) → written (es ++ fs) ≡ written es ++ written fs
written_joined [] fs = refl
written_joined (Went port bytes ∷ es) fs = written_joined es fs
written_joined (Came bytes ∷ es) fs = written_joined es fs
written_joined (Wrote text ∷ es) fs = ap (λ (l : List (List ℕ)). text ∷ l) (written_joined es fs)

few_kept : (first : ℕ) (kept : Option DelayedAcknowledgement) → IsAtMostOne (kept_at first kept)
few_kept first None = tt
few_kept first (Some k) = tt

-- what was handed over in two steps, at its ports
sent_joined : (first : ℕ) (ps qs : List Parcel) →
    map (at_port first) (ps ++ qs) ≡ map (at_port first) ps ++ map (at_port first) qs
sent_joined first ps qs = map-append (at_port first) ps qs

-- two steps, one after the other
pub passes_joined : {W : Type 0} (did : W → List WireEvent → W → Type 0)
    (step : (u v w : W) (es fs : List WireEvent) → did u es v → did v fs w → did u (es ++ fs) w)
    (s t u : PortState W) (sent more : List Parcel) (received later printed lines : List (List ℕ)) →
    Passes did s sent received printed t → Passes did t more later lines u →
    Passes did s (sent ++ more) (received ++ later) (printed ++ lines) u
passes_joined did step s t u sent more received later printed lines p q =
    let first = p.first in
    let at_first : map (at_port t.first) more ≡ map (at_port s.first) more =
    ap (λ (n : ℕ). map (at_port n) more) first in
    let kept_first : kept_at t.first t.kept ≡ kept_at s.first t.kept = ap (λ (n : ℕ). kept_at n t.kept) first in
    let all : gone (p.events ++ q.events) ≡ gone p.events ++ gone q.events = gone_joined p.events q.events in
    let both : map (at_port s.first) (sent ++ more) ≡ map (at_port s.first) sent ++ map (at_port s.first) more =
    sent_joined s.first sent more in
    let later_plain : plain_in (gone q.events) ≡ plain_in (map (at_port s.first) more) =
    q.plain ∙ ap plain_in at_first in
    let plains : plain_in (gone p.events ++ gone q.events) ≡
    plain_in (map (at_port s.first) sent) ++ plain_in (map (at_port s.first) more) =
    filter-append (λ r. not (is_short r)) (gone p.events) (gone q.events)
    ∙ ap (λ (l : List Parcel). l ++ plain_in (gone q.events)) p.plain
    ∙ ap (λ (l : List Parcel). plain_in (map (at_port s.first) sent) ++ l) later_plain in
    let later_short : Thins (kept_at t.first t.kept ++ short_in (map (at_port s.first) more))
    (short_in (gone q.events) ++ kept_at u.first u.kept) =
    subst (λ (l : List Parcel). Thins (kept_at t.first t.kept ++ short_in l)
    (short_in (gone q.events) ++ kept_at u.first u.kept)) at_first q.short in
    let shorts : Thins ((kept_at s.first s.kept ++ short_in (map (at_port s.first) sent)) ++
    short_in (map (at_port s.first) more))
    (short_in (gone p.events) ++ (short_in (gone q.events) ++ kept_at u.first u.kept)) =
    thinning.joined (kept_at s.first s.kept ++ short_in (map (at_port s.first) sent)) (short_in (gone p.events))
    (kept_at t.first t.kept) (short_in (map (at_port s.first) more))
    (short_in (gone q.events) ++ kept_at u.first u.kept) (few_kept t.first t.kept) p.short later_short in
    let handed : (kept_at s.first s.kept ++ short_in (map (at_port s.first) sent)) ++
    short_in (map (at_port s.first) more) ≡
    kept_at s.first s.kept ++ short_in (map (at_port s.first) (sent ++ more)) =
    append_assoc (kept_at s.first s.kept) (short_in (map (at_port s.first) sent))
    (short_in (map (at_port s.first) more))
    ∙ ap (λ (l : List Parcel). kept_at s.first s.kept ++ l)
    (sym (filter-append is_short (map (at_port s.first) sent) (map (at_port s.first) more))
    ∙ ap short_in (sym both)) in
    let went : short_in (gone p.events) ++ (short_in (gone q.events) ++ kept_at u.first u.kept) ≡
    short_in (gone (p.events ++ q.events)) ++ kept_at u.first u.kept =
    sym (append_assoc (short_in (gone p.events)) (short_in (gone q.events)) (kept_at u.first u.kept))
    ∙ ap (λ (l : List Parcel). l ++ kept_at u.first u.kept)
    (sym (filter-append is_short (gone p.events) (gone q.events)) ∙ ap short_in (sym all)) in
    record {
      events = p.events ++ q.events;
      wire = step s.wire t.wire u.wire p.events q.events p.wire q.wire;
      first = q.first ∙ first;
      plain = ap plain_in all ∙ plains ∙
          sym (filter-append (λ r. not (is_short r)) (map (at_port s.first) sent) (map (at_port s.first) more)) ∙
          ap plain_in (sym both);
      short = subst (λ (l : List Parcel). Thins (kept_at s.first s.kept ++ short_in (map (at_port s.first) (sent ++ more))) l)
          went (subst (λ (l : List Parcel). Thins l
          (short_in (gone p.events) ++ (short_in (gone q.events) ++ kept_at u.first u.kept))) handed shorts);
      came = come_joined p.events q.events ∙ ap (λ (l : List (List ℕ)). l ++ come q.events) p.came
          ∙ ap (λ (l : List (List ℕ)). received ++ l) q.came;
      wrote = written_joined p.events q.events ∙ ap (λ (l : List (List ℕ)). l ++ written q.events) p.wrote
          ∙ ap (λ (l : List (List ℕ)). map with_end printed ++ l) q.wrote ∙ sym (map-append with_end printed lines);
    }
