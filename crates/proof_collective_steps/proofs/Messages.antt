-- A message: it is kept as in the network, and the member does of itself what follows; and what is kept is what was
-- sent.
use Rattle.std.proofs.Common.{◌≡◌, ℕ, ◌<◌, Bool, true, false, not, ◌&&◌, List, [], ◌∷◌, ◌++◌, map, Option, Some, None}
use Rattle.std.proofs.Common.{Ok, ◌⊎◌, inl, inr, option_map, ◌/◌, if◌then◌else◌, ◌==◌, nat_lt, pos, refl, sym, ap, ◌∙◌}
use Rattle.std.proofs.Common.{subst, arith}
use Rattle.std.proofs.Math.Nat.{mul-div_cancel}
use Rattle.std.proofs.lemmas.Option.{same_Some}
use Rattle.collective_messages.specs.Arrivals.{ArrivalGives, note_of, ranks_in, said_of}
use Rattle.collectives.specs.Calls.{MessageGives, note_kept, with_note}
use Rattle.collective_messages.specs.Messages.{IsWithinType, part_said}
use Rattle.collective_messages.specs.Notes.{member_at}
use Rattle.collectives.specs.State.{State, after_step, is_left, is_of_present, members_incarnation}
use Rattle.collectives.specs.State as state
use Rattle.collective_steps.specs.Steps.{IsPrepared, contexts_after, ending_of}
use Rattle.collective_messages.specs.declared.entry.Inside.{Inside}
use Rattle.collective_messages.specs.declared.message.MessageContent.{MessageContent}
use Rattle.collective_messages.specs.declared.message.MessageContent.TheVariants as given
use Rattle.collective_messages.specs.declared.note.Note.{Note}
use Rattle.collective_messages.specs.declared.note.NoteContent.{NoteContent}
use Rattle.collective_messages.specs.declared.note.NoteContent.TheVariants as said
use Rattle.collective_steps.specs.declared.step.Ending.{Ending}
use Rattle.context_agreement.specs.Communicators.{ContextsState}
use Rattle.datatypes.specs.Contents.{AreWithin, Contents, bytes_of, values_of}
use Rattle.datatypes.specs.ContentLaws.{length-values_of, values_of-bytes_of}
use Rattle.payload.specs.Spellings.{AreElements, PartFits, elements_of}
use Rattle.payload.specs.declared.payload.Direction.TheVariants.{FromRoot, TowardsRoot}
use Rattle.payload.specs.declared.record.Elements.{Elements}
use Rattle.payload.specs.declared.record.Record as payload
use Rattle.perfect_groups.specs.Membership.{Present}
use Rattle.proof_collective_steps.proofs.VerdictLaws.{attempt_follows}
use Rattle.proof_group_network.proofs.SplitPlans.{flipped}
use Rattle.proof_collective_steps.proofs.KeptNotes.{noted_more}
use Rattle.proof_collective_steps.specs.Counterparts.{AreAsSaid, AreSaid, IsNoted, IsSaid, SaidFits, StandsFor}
use Rattle.proof_collective_steps.specs.Counterparts.{members_of, record_of}
use Rattle.proof_collective_steps.specs.MemberViews.{HasEnded, IsShown, or_given}
use Rattle.proof_group_network.specs.Copies.{CopiesHaveTheirGroup}
use Rattle.proof_collective_steps.specs.StepLaws.{MessagesArrive, MessagesFollow, ReadyMessagesGive}
use Rattle.proof_group_network.specs.Notices as network
use Rattle.proof_group_network.specs.Notices.{HasEntered, HasMade, HasResult, Member, Notice, attempt, is_elsewhere}
use Rattle.proof_group_network.specs.Notices.{noted}
use Rattle.vocabulary.specs.BasicTypes.{size_of}
use Rattle.vocabulary.specs.declared.basic_type.BasicType.{BasicType}
use Rattle.vocabulary.specs.declared.basic_type.BasicType.TheVariants.{Int8, Int16, Int32, Int64, Uint8, Uint16, Uint32}
use Rattle.vocabulary.specs.declared.basic_type.BasicType.TheVariants.{Uint64, Byte, Float32, Float64}
use Rattle.vocabulary.specs.declared.endpoint.Endpoint.{Endpoint}

-- WHAT IS KEPT

elsewhere_same : (e : Endpoint) (h : ContextsState) (before : Option Ending) (i : Option Inside) (p : Option Present) →
    HasEnded e h before i p → (n : Note) (x : network.Note) → IsNoted e n x →
    is_elsewhere p x.notice ≡ not (is_of_present i n)
elsewhere_same e h (Some w) i p b n x a = ap (λ (q : Option Present). is_elsewhere q x.notice) b.1 ∙
    sym (ap (λ (o : Option Inside). not (is_of_present o n)) b.0)
elsewhere_same e h None None p b n x a = ap (λ (q : Option Present). is_elsewhere q x.notice) b
elsewhere_same e h None (Some i) p b n x a =
    ap (λ (q : Option Present). is_elsewhere q x.notice) b.is
    ∙ (λ t. not ((sym b.context t == a.context t) && (i.number == a.number t)))
    ∙ (λ t. not (flipped i.context n.context t && flipped i.number n.number t))

left_same : (e : Endpoint) (s : State) (h : ContextsState) (m : Member) (before : Option Ending) →
    IsShown e s h m before → (n : Note) (x : network.Note) → IsNoted e n x →
    network.is_left m.membership x.notice ≡ is_left s n
left_same e s h m before b n x a =
    λ t. nat_lt (a.number t) ((ap (λ (c : ℕ). m.membership.count c) a.context ∙ b.count n.context) t) &&
    elsewhere_same e h before s.present m.membership.present b.present n x a t

pub noted_shown : (e : Endpoint) (s : State) (h : ContextsState) (m : Member) (before : Option Ending) →
    IsShown e s h m before → (n : Note) (x : network.Note) → IsNoted e n x →
    IsShown e (state.noted s n) h (noted m x.sender x.notice) before
noted_shown e s h m before b n x a =
    subst (λ (v : Bool). IsShown e (state.noted s n) h
    (if v then m else record {
      membership = m.membership;
      serial = m.serial;
      kept = m.kept ++ x ∷ [];
      told =
          m.told;
    }) before) (sym (left_same e s h m before b n x a))
    (go (is_left s n))
  where
    go : (v : Bool) →
        IsShown e (if v then s else record s { kept = s.kept ++ n ∷ [] }) h
        (if v then m else record {
          membership = m.membership;
          serial = m.serial;
          kept = m.kept ++ x ∷ [];
          told =
              m.told;
        }) before
    go true = b
    go false =
        record {
          own = b.own;
          rank = b.rank;
          incarnation = b.incarnation;
          serial = b.serial;
          two = b.two;
          held = b.held;
          count = b.count;
          present = b.present;
          told = b.told;
          kept = noted_more e n x a s.kept m.kept b.kept;
        }

same_present : (m : Member) (x : Endpoint) (w : Notice) → (noted m x w).membership.present ≡ m.membership.present
same_present m x w = go (network.is_left m.membership w)
  where
    go : (v : Bool) →
        (if v then m else record {
          membership = m.membership;
          serial = m.serial;
          kept =
              m.kept ++ record { sender = x; notice = w } ∷ [];
          told = m.told;
        }).membership.present ≡ m.membership.present
    go true = refl
    go false = refl

pub same_own : (s : State) (n : Note) → (state.noted s n).own ≡ s.own
same_own s n = go (is_left s n)
  where
    go : (v : Bool) → (if v then s else record s { kept = s.kept ++ n ∷ [] }).own ≡ s.own
    go true = refl
    go false = refl

pub messages_follow : MessagesFollow
messages_follow e s h m before n x answer t k b a g gives =
    subst (λ (o : Option Ending). Goal o t k) (sym gives.1)
    (subst (λ (u : State). Goal (ending_of h answer.1.outcome) u k) (sym gives.2)
    (subst (λ (c : ContextsState). Goal (ending_of h answer.1.outcome) (after_step (state.noted s n) answer.1.outcome)
    c) (sym gives.3)
    (attempt_follows e (state.noted s n) h (noted m x.sender x.notice) before (noted_shown e s h m before b n x a)
    (subst (λ (p : Option Present). CopiesHaveTheirGroup p (noted m x.sender x.notice).kept)
    (sym (same_present m x.sender x.notice)) g)
    answer.1 (subst (λ (o : Endpoint). IsPrepared o (state.noted s n).present h (state.noted s n).kept answer.1) b.own
    gives.0))))
  where
    Goal : Option Ending → State → ContextsState → Type 0
    Goal o u c = IsShown e u c (attempt e (noted m x.sender x.notice)).member (or_given before o) ×
        AreSaid e answer.1.messages (attempt e (noted m x.sender x.notice)).out

-- WHAT WAS SENT

size_some : (b : BasicType) → 0 < size_of b
size_some Int8 = omega arith
size_some Int16 = omega arith
size_some Int32 = omega arith
size_some Int64 = omega arith
size_some Uint8 = omega arith
size_some Uint16 = omega arith
size_some Uint32 = omega arith
size_some Uint64 = omega arith
size_some Byte = omega arith
size_some Float32 = omega arith
size_some Float64 = omega arith

arrived : (e d : Endpoint) (target : Endpoint) (c k : ℕ) (r : payload.Record) (g : MessageContent)
    (x : Endpoint × Notice) (n : Note) →
    IsSaid e (record { target = target; context = c; number = k; entered = r; given = g }) x →
    (s : NoteContent) → said_of r (part_said g) ≡ Some s →
    note_of e c k (record { record_is = r; part = part_said g }) ≡ Some n → StandsFor d r s x.1.said →
    SaidFits r s → IsNoted d n (record { sender = e; notice = x.1 })
arrived e d target c k r g x n st s is made stands fits =
    subst (λ (z : Note). IsNoted d z (record { sender = e; notice = x.1 }))
    (same_Some _ _
    (sym (ap (λ (o : Option NoteContent). option_map
    (λ (s : NoteContent). record { sender = e; context = c; number = k; entered = r; said = s }) o) is) ∙ made))
    (record { sender = refl; context = st.context; number = st.number; stands = stands; fits = fits })

values_back : (b : BasicType) (t : BasicType) (vs : List ℕ) → t ≡ b → AreWithin (size_of b) vs →
    values_of (size_of t) (bytes_of (size_of b) vs) ≡ vs
values_back b t vs q w = ap (λ (z : BasicType). values_of (size_of z) (bytes_of (size_of b) vs)) q ∙
    values_of-bytes_of (size_of b) vs (size_some b) w

-- the elements that come are as many as the record says
as_said : (r : payload.Record) (b : Contents) (t : Elements) → elements_of r ≡ Some t →
    AreElements (elements_of r) (bytes_of (size_of b.basic) b.values) →
    AreAsSaid (elements_of r)
    (record { basic = t.basic; values = values_of (size_of t.basic) (bytes_of (size_of b.basic) b.values) })
as_said r b t is fits =
    subst (λ (o : Option Elements). AreAsSaid o
    (record { basic = t.basic; values = values_of (size_of t.basic) (bytes_of (size_of b.basic) b.values) }))
    (sym is) (
      refl,
      length-values_of (size_of t.basic) (bytes_of (size_of b.basic) b.values)
          ∙ (ap (λ n. n / size_of t.basic)
          (subst (λ (o : Option Elements). AreElements o (bytes_of (size_of b.basic) b.values)) is fits) ∙
          mul-div_cancel t.count (size_some t.basic)),
    )

arrive : (e d : Endpoint) (target : Endpoint) (c k : ℕ) (r : payload.Record) (g : MessageContent)
    (x : Endpoint × Notice) (n : Note) → e.incarnation ≡ d.incarnation →
    IsSaid e (record { target = target; context = c; number = k; entered = r; given = g }) x → IsWithinType g →
    PartFits r (part_said g) →
    note_of e c k (record { record_is = r; part = part_said g }) ≡ Some n →
    IsNoted d n (record { sender = e; notice = x.1 })
arrive e d target c k r given.RecordsDiffer x n inc st w fits made =
    arrived e d target c k r given.RecordsDiffer x n st said.RecordsDiffer refl made st.stands tt
arrive e d target c k r (given.Nothing TowardsRoot) x n inc st w fits made =
    arrived e d target c k r (given.Nothing TowardsRoot) x n st (said.Nothing TowardsRoot) refl made st.stands fits
arrive e d target c k r (given.Nothing FromRoot) x n inc st w fits made =
    arrived e d target c k r (given.Nothing FromRoot) x n st (said.Nothing FromRoot) refl made st.stands fits
arrive e d target c k r (given.Elements TowardsRoot b) x n inc st w fits made = go (elements_of r) refl
  where
    go : (o : Option Elements) → elements_of r ≡ o → IsNoted d n (record { sender = e; notice = x.1 })
    go None q = absurd (let z : None ≡ Some b.basic = sym (ap (λ (o : Option Elements). option_map (λ t. t.basic) o) q) ∙ st.stands.0 in cc)
    go (Some t) q =
        arrived e d target c k r (given.Elements TowardsRoot b) x n st
        (said.Elements TowardsRoot
        (record { basic = t.basic; values = values_of (size_of t.basic) (bytes_of (size_of b.basic) b.values) }))
        (ap (λ (o : Option Elements). option_map
        (λ e. said.Elements TowardsRoot
        (record { basic = e.basic; values = values_of (size_of e.basic) (bytes_of (size_of b.basic) b.values) })) o)
        q) made
        (st.stands.1 ∙
        ap (λ (vs : List ℕ). HasEntered
        (record { record_is = record_of r; values = vs; colour = None; key = pos 0 }))
        (sym (values_back b.basic t.basic b.values
        (same_Some _ _ (sym (ap (λ (o : Option Elements). option_map (λ t. t.basic) o) q) ∙ st.stands.0)) w)))
        (as_said r b t q fits)
arrive e d target c k r (given.Elements FromRoot b) x n inc st w fits made = go (elements_of r) refl
  where
    go : (o : Option Elements) → elements_of r ≡ o → IsNoted d n (record { sender = e; notice = x.1 })
    go None q = absurd (let z : None ≡ Some b.basic = sym (ap (λ (o : Option Elements). option_map (λ t. t.basic) o) q) ∙ st.stands.0 in cc)
    go (Some t) q =
        arrived e d target c k r (given.Elements FromRoot b) x n st
        (said.Elements FromRoot
        (record { basic = t.basic; values = values_of (size_of t.basic) (bytes_of (size_of b.basic) b.values) }))
        (ap (λ (o : Option Elements). option_map
        (λ e. said.Elements FromRoot
        (record { basic = e.basic; values = values_of (size_of e.basic) (bytes_of (size_of b.basic) b.values) })) o)
        q) made
        (st.stands.1 ∙
        (λ u. HasResult (record_of r)
        (Some (record { basic = sym of_type u; values = sym (values_back b.basic t.basic b.values of_type w) u }))))
        (as_said r b t q fits)
      where
        of_type : t.basic ≡ b.basic
        of_type = same_Some _ _ (sym (ap (λ (o : Option Elements). option_map (λ t. t.basic) o) q) ∙ st.stands.0)
arrive e d target c k r (given.Context number) x n inc st w fits made =
    arrived e d target c k r (given.Context number) x n st (said.Context number) refl made st.stands fits
arrive e d target c k r (given.Choice a) x n inc st w fits made =
    arrived e d target c k r (given.Choice a) x n st (said.Choice a) refl made st.stands fits
arrive e d target c k r given.NullCommunicator x n inc st w fits made =
    arrived e d target c k r given.NullCommunicator x n st said.NullCommunicator refl made st.stands fits
arrive e d target c k r (given.NewGroup number ranks) x n inc st w fits made =
    arrived e d target c k r (given.NewGroup number ranks) x n st
    (said.NewGroup number (ranks_in (bytes_of (size_of ranks.basic) ranks.values))) refl made
    (st.stands.1
    ∙ (λ t. HasMade (record_of r)
    (Some (record { context = number; members = map (member_at (if number == 0 then 0 else inc t)) ranks.values })))
    ∙ ap (λ (vs : List ℕ). HasMade (record_of r) (Some (record { context = number; members = members_of d number vs })))
    (sym (values_back ranks.basic Uint16 ranks.values (sym st.stands.0) w)))
    fits.0

pub messages_arrive : MessagesArrive
messages_arrive e d sent x n inc st w gives =
    arrive e d sent.target sent.context sent.number sent.entered sent.given x n inc st w gives.0 gives.2

-- WHAT WAS MADE READY

pub ready_messages_give : ReadyMessagesGive
ready_messages_give s h a p ready q = go q.0 q.1 q.2
  where
    kept_as : (n : Note) (v : Bool) → with_note s (if v then None else Some n) ≡
        (if v then s else record s { kept = s.kept ++ n ∷ [] })
    kept_as n true = refl
    kept_as n false = refl

    go : (came : Option Note) → ArrivalGives a.sender a.context a.number p (Ok came) → ready.note ≡ note_kept s came →
        ((n : Note) × ArrivalGives a.sender a.context a.number p (Ok (Some n))
        × MessageGives s h n (Ok (ending_of h ready.step.outcome, ready.step))
        (after_step (with_note s ready.note) ready.step.outcome)
        (contexts_after h ready.step.drawn ready.step.outcome))
        ⊎ (ArrivalGives a.sender a.context a.number p (Ok None) × (ready.note ≡ None))
    go None came is = inr (came, is)
    go (Some n) came is =
        inl (
          n,
          came,
          (
            subst (λ (u : State). IsPrepared s.own u.present h u.kept ready.step) same q.3,
            refl,
            ap (λ (u : State). after_step u ready.step.outcome) same,
            refl,
          ),
        )
      where
        same : with_note s ready.note ≡ state.noted s n
        same = ap (λ (o : Option Note). with_note s o) is ∙ kept_as n (is_left s n)
