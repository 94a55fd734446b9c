-- Every happening keeps that transfers agree with their announcements.
use Rattle.std.proofs.Common.{◌≡◌, ℕ, suc, Bool, true, false, List, [], ◌∷◌, Option, Some, None, if◌then◌else◌}
use Rattle.std.proofs.Common.{slice_get, refl, sym, ◌∙◌, subst, arith}
use Rattle.std.specs.List.{AllByRecursion}
use Rattle.vocabulary.specs.Endpoints.{is_same}
use Rattle.perfect_queues.specs.Calls.{Call}
use Rattle.vocabulary.specs.declared.basic_type.BasicType.{BasicType}
use Rattle.vocabulary.specs.declared.endpoint.Endpoint.{Endpoint}
use Rattle.perfect_queues.proofs.EndpointLemmas.{same_eq, same_refl}
use Rattle.proof_pure_network.specs.Announcements.{Begins, IsAnnounced, IsIn, LinksGrow}
use Rattle.proof_pure_network.specs.Core.{Core}
use Rattle.proof_pure_network.specs.Engine.{called, came, core_settled, met}
use Rattle.proof_pure_network.specs.Frames.{Cts, Data, Eager, Frame, Rts}
use Rattle.proof_pure_network.specs.Links.{Link, accept_all, handed_on, handed_up}
use Rattle.proof_pure_network.specs.Network.{Network, call_at, hand_at, hear_at, new_network, with_core}
use Rattle.proof_pure_network.proofs.AnnouncementCounts.{accepted_out, each_end, hand_accepted, up_next}
use Rattle.proof_pure_network.proofs.AnnouncedAs.{AllAs, AllSaid, CoreAs, FrameAs, IsMore, Says, Saying, called_as}
use Rattle.proof_pure_network.proofs.AnnouncedAs.{called_out_as, came_as, came_out_as, core_more, frame_more, met_as}
use Rattle.proof_pure_network.proofs.AnnouncedAs.{settled_as}
use Rattle.proof_pure_network.proofs.Invariants.{each_core}
use Rattle.proof_pure_network.proofs.JobLemmas.{All_append, settled_limit}
use Rattle.proof_pure_network.proofs.Knowledge.{called_limit, came_limit, met_limit}
use Rattle.proof_pure_network.proofs.LinksGrow.{grow_both, grow_not, handed_grow, handed_grows, in_begun, in_end}
use Rattle.proof_pure_network.proofs.LinksGrow.{out_grows}
use Rattle.proof_pure_network.proofs.Tokens.{frames_to, link_else}
use Rattle.proof_pure_network.proofs.Stable.{IsStable}
use Rattle.vocabulary.specs.declared.message_limit.MessageLimit.{MessageLimit}

-- what was announced to x, and handed up there; and what x announced
abbrev pub heard : (Endpoint → Endpoint → Link) → Endpoint → Saying
heard links x s k basic count = IsAnnounced (handed_up (links s x)) k basic count

abbrev pub said : (Endpoint → Endpoint → Link) → Endpoint → Saying
said links x d k basic count = IsAnnounced (links x d).accepted k basic count

-- and each core has this limit
pub record Agreeing (limit : MessageLimit) (cores : Endpoint → Core) (links : Endpoint → Endpoint → Link)
    : Type 0 where
  pub cores_as : (x : Endpoint) → CoreAs (heard links x) (said links x) (cores x)
  pub frames_as : (s d : Endpoint) → AllByRecursion (FrameAs limit (said links s) d) (links s d).accepted
  pub limits : (x : Endpoint) → (cores x).message_limit ≡ limit

-- WHERE LINKS GROW

begun : (fs gs : List Frame) → Begins fs gs → (k : ℕ) (basic : BasicType) (count : ℕ) → IsAnnounced fs k basic count →
    IsAnnounced gs k basic count
begun fs gs b k basic count a = (a.0, a.1, in_begun fs gs (Rts a.0 a.1 basic k count) b a.2)

heard_more : (old new : Endpoint → Endpoint → Link) → LinksGrow old new →
    (x : Endpoint) → IsMore (heard old x) (heard new x)
heard_more old new g x s k basic count a =
    begun (handed_up (old s x)) (handed_up (new s x)) (handed_grow old new g s x) k basic count a

said_more : (old new : Endpoint → Endpoint → Link) → LinksGrow old new →
    (x : Endpoint) → IsMore (said old x) (said new x)
said_more old new g x d k basic count a = begun (old x d).accepted (new x d).accepted (g.accepted x d) k basic count a

core_grows : (old new : Endpoint → Endpoint → Link) → LinksGrow old new → (x : Endpoint) (core : Core) →
    CoreAs (heard old x) (said old x) core → CoreAs (heard new x) (said new x) core
core_grows old new g x core a =
    core_more (heard old x) (heard new x) (said old x) (said new x) (heard_more old new g x)
    (said_more old new g x) core a

all_more : (limit : MessageLimit) (told told' : Saying) → IsMore told told' → (d : Endpoint) (fs : List Frame) →
    AllByRecursion (FrameAs limit told d) fs → AllByRecursion (FrameAs limit told' d) fs
all_more limit told told' more d [] a = tt
all_more limit told told' more d (f ∷ fs) a = (frame_more limit told told' more d f a.0, all_more limit told told' more d fs a.1)

-- those of the frames that go to d
all_to : (limit : MessageLimit) (told : Saying) (d : Endpoint) (out : List (Endpoint × Frame)) → AllAs limit told out →
    AllByRecursion (FrameAs limit told d) (frames_to d out)
all_to limit told d [] a = tt
all_to limit told d (x ∷ out) a = go (is_same d x.0) refl (all_to limit told d out a.1)
  where
    go : (t : Bool) → is_same d x.0 ≡ t → AllByRecursion (FrameAs limit told d) (frames_to d out) →
        AllByRecursion (FrameAs limit told d) (if t then x.1 ∷ frames_to d out else frames_to d out)
    go true h rest = (subst (λ (y : Endpoint). FrameAs limit told y x.1) (sym (same_eq d x.0 h)) a.0, rest)
    go false h rest = rest

-- AN EVENT AT e

agrees_after : (limit : MessageLimit) (cores : Endpoint → Core) (links links1 : Endpoint → Endpoint → Link) (e : Endpoint) (core : Core)
    (out : List (Endpoint × Frame)) → ((s d : Endpoint) → (links1 s d).accepted ≡ (links s d).accepted) →
    LinksGrow links (accept_all links1 e out) → Agreeing limit cores links → core.message_limit ≡ limit →
    CoreAs (heard (accept_all links1 e out) e) (said (accept_all links1 e out) e) core →
    AllAs limit (said (accept_all links1 e out) e) out →
    Agreeing limit (with_core cores e core) (accept_all links1 e out)
agrees_after limit cores links links1 e core out same g old is core_as out_as =
    record {
      cores_as =
          each_core (λ x c. CoreAs (heard links2 x) (said links2 x) c) cores e core
          (λ x. core_grows links links2 g x (cores x) (old.cores_as x)) core_as;
      frames_as = each_end e (λ s. (d : Endpoint) → AllByRecursion (FrameAs limit (said links2 s) d) (links2 s d).accepted)
          (λ d. subst (λ (fs : List Frame). AllByRecursion (FrameAs limit (said links2 e) d) fs)
          (sym (accepted_out links1 e d out))
          (All_append (FrameAs limit (said links2 e) d) (links1 e d).accepted (frames_to d out) (before e d)
          (all_to limit (said links2 e) d out out_as)))
          (λ s apart d. subst (λ (l : Link). AllByRecursion (FrameAs limit (said links2 s) d) l.accepted)
          (sym (link_else links1 e s d out apart)) (before s d));
      limits = each_core (λ x c. c.message_limit ≡ limit) cores e core old.limits is;
    }
  where
    links2 : Endpoint → Endpoint → Link
    links2 = accept_all links1 e out

    before : (s d : Endpoint) → AllByRecursion (FrameAs limit (said links2 s) d) (links1 s d).accepted
    before s d =
        subst (λ (fs : List Frame). AllByRecursion (FrameAs limit (said links2 s) d) fs) (sym (same s d))
        (all_more limit (said links s) (said links2 s) (said_more links links2 g s) d (links s d).accepted
        (old.frames_as s d))

-- WHAT GOES OUT IS SAID

says_one : (told : Endpoint → List Frame) (d : Endpoint) (f : Frame) → IsIn f (told d) →
    Says (λ x k basic count. IsAnnounced (told x) k basic count) d f
says_one told d (Eager c tag basic values) i = tt
says_one told d (Rts c tag basic k n) i = (c, tag, i)
says_one told d (Cts k w) i = tt
says_one told d (Data k o values) i = tt

says_all : (told : Endpoint → List Frame) (out : List (Endpoint × Frame)) →
    ((d : Endpoint) (f : Frame) → IsIn f (frames_to d out) → IsIn f (told d)) →
    AllSaid (λ x k basic count. IsAnnounced (told x) k basic count) out
says_all told [] among = tt
says_all told (x ∷ out) among =
    (says_one told x.0 x.1 (among x.0 x.1 first), says_all told out (λ d f i. among d f (later d f i)))
  where
    first : IsIn x.1 (frames_to x.0 (x ∷ out))
    first = rw (same_refl x.0) (0, refl)

    later : (d : Endpoint) (f : Frame) → IsIn f (frames_to d out) → IsIn f (frames_to d (x ∷ out))
    later d f i = go (is_same d x.0)
      where
        go : (t : Bool) → IsIn f (if t then x.1 ∷ frames_to d out else frames_to d out)
        go true = (suc i.0, i.1)
        go false = i

out_said : (links : Endpoint → Endpoint → Link) (e : Endpoint) (out : List (Endpoint × Frame)) →
    AllSaid (said (accept_all links e out) e) out
out_said links e out =
    says_all (λ d. (accept_all links e out e d).accepted) out
    (λ d f i. subst (λ (fs : List Frame). IsIn f fs) (sym (accepted_out links e d out))
    (in_end (links e d).accepted (frames_to d out) f i))

-- HAPPENINGS

abbrev pub Agrees : Network → Type 0
Agrees w = Agreeing w.message_limit w.core w.link

call_agrees : (w : Network) (e : Endpoint) (c : Call) → Agrees w → Agrees (call_at w e c)
call_agrees w e c old = agrees_after w.message_limit w.core w.link w.link e (called e (w.core e) c).core out
    (λ s d. refl) g old (called_limit e (w.core e) c ∙ old.limits e)
    (called_as (heard links2 e) (said links2 e) e (w.core e) c (out_said w.link e out)
    (core_grows w.link links2 g e (w.core e) (old.cores_as e)))
    (called_out_as w.message_limit (said links2 e) e (w.core e) c)
  where
    out : List (Endpoint × Frame)
    out = (called e (w.core e) c).out

    links2 : Endpoint → Endpoint → Link
    links2 = accept_all w.link e out

    g : LinksGrow w.link links2
    g = out_grows w.link e out

hear_agrees : (w : Network) (e a : Endpoint) → Agrees w → Agrees (hear_at w e a)
hear_agrees w e a old =
    agrees_after w.message_limit w.core w.link w.link e (met (w.core e) a) [] (λ s d. refl) (grow_not w.link) old
    (met_limit (w.core e) a ∙ old.limits e)
    (met_as (heard w.link e) (said w.link e) (w.core e) a (old.cores_as e)) tt

settle_agrees : (w : Network) (e : Endpoint) → Agrees w →
    Agreeing w.message_limit (with_core w.core e (core_settled (w.core e))) w.link
settle_agrees w e old =
    agrees_after w.message_limit w.core w.link w.link e (core_settled (w.core e)) [] (λ s d. refl) (grow_not w.link) old
    (settled_limit (w.core e) ∙ old.limits e)
    (settled_as (heard w.link e) (said w.link e) (w.core e) (old.cores_as e)) tt

hand_agrees : (w : Network) (e a : Endpoint) (o : Option Frame) → slice_get (w.link a e).accepted (w.link a e).handed ≡
    o → Agrees w → Agrees (hand_at w e a o)
hand_agrees w e a None next old = old
hand_agrees w e a (Some f) next old =
    agrees_after w.message_limit w.core w.link links1 e (came (w.core e) a f).core out
    (λ s d. hand_accepted w.link a e s d) g old (came_limit (w.core e) a f ∙ old.limits e)
    (came_as (heard links2 e) (said links2 e) (w.core e) a f says now)
    (subst (λ (l : MessageLimit). AllAs l (said links2 e) out) (old.limits e)
    (came_out_as (heard links2 e) (said links2 e) (w.core e) a f now))
  where
    out : List (Endpoint × Frame)
    out = (came (w.core e) a f).out

    links1 : Endpoint → Endpoint → Link
    links1 = handed_on w.link a e

    links2 : Endpoint → Endpoint → Link
    links2 = accept_all links1 e out

    g : LinksGrow w.link links2
    g = grow_both w.link links1 links2 (handed_grows w.link a e) (out_grows links1 e out)

    now : CoreAs (heard links2 e) (said links2 e) (w.core e)
    now = core_grows w.link links2 g e (w.core e) (old.cores_as e)

    up : IsIn f (handed_up (links1 a e))
    up = subst (λ (fs : List Frame). IsIn f fs) (sym (up_next w.link a e f next))
        (in_end (handed_up (w.link a e)) (f ∷ []) f (0, refl))

    says : Says (heard links2 e) a f
    says = says_one (λ s. handed_up (links2 s e)) a f
        (in_begun (handed_up (links1 a e)) (handed_up (links2 a e)) f
        (handed_grow links1 links2 (out_grows links1 e out) a e) up)

pub agreeing_is_stable : IsStable Agrees
agreeing_is_stable =
    record {
      called = call_agrees;
      heard = hear_agrees;
      handed = hand_agrees;
      settled = λ w e history old. settle_agrees w e old;
      restarted = λ w r history old. old;
    }

pub new_agrees : (limit : MessageLimit) → Agrees (new_network limit)
new_agrees limit = record {
  cores_as = λ x. record { held = tt; jobs = λ k j h. absurd (grind arith) };
  frames_as =
      λ s d. tt;
  limits = λ x. refl;
}
