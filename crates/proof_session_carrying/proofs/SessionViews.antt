-- What the texts of sessions stand for goes on as the sessions do.
use Rattle.std.proofs.Common.{◌≡◌, ℕ, zero, suc, Bool, true, false, ◌&&◌, List, [], ◌∷◌, ◌++◌, drop, Some}
use Rattle.std.proofs.Common.{if◌then◌else◌, slice_get, refl, sym, ap, subst, ◌∙◌, arith}
use Rattle.std.proofs.lemmas.Bool.{and_parts}
use Rattle.std.proofs.lemmas.List.{append_assoc}
use Rattle.std.proofs.lemmas.Option.{same_Some}
use Rattle.collective_messages.specs.declared.message.CollectiveMessage.{CollectiveMessage}
use Rattle.datagram.specs.Spellings.{ClearFrame, DataFrame, DataText, EagerFrame, FrameText, RequestFrame}
use Rattle.perfect_queues.proofs.EndpointLemmas.{same_eq}
use Rattle.proof_engine_view.proofs.LastingViews.{stands_more}
use Rattle.proof_group_network.proofs.SessionParts.{same_accepted}
use Rattle.proof_group_network.specs.SessionContents.{
  Announces,
  Answers,
  BringsPart,
  Carried,
  OfMessages,
  OfNotices,
  Session,
}
use Rattle.proof_group_network.specs.SessionContents.{Sessions}
use Rattle.endpoint_links.specs.Links.{LinkOf, LinksOf, accept, accept_all, handed_on, in_flight}
use Rattle.proof_pure_network.specs.Announcements.{Begins}
use Rattle.proof_session_carrying.proofs.AnnouncementLaws.{announced_grow, begins_at, same_begins, transfers_grow}
use Rattle.proof_session_carrying.specs.Announcements.{
  Announced,
  LargeNotice,
  all_announced,
  announced_in,
  transfers_as,
}
use Rattle.proof_session_carrying.specs.SessionViews.{AreCarriedUnder, AreSent, AsksFor, IsCarried, IsPiece, MakesKnown}
use Rattle.proof_session_carrying.specs.SessionViews.{MakesPart, MakesWhole, Saying, StandFor, StandsForCarried}
use Rattle.proof_session_carrying.specs.CarryLaws.{GoesOn, HandedIsCarried, NextStands, OutIsCarried, StillIsStill}
use Rattle.vocabulary.specs.Endpoints.{is_same}
use Rattle.vocabulary.specs.declared.endpoint.Endpoint.{Endpoint}
use Rattle.vocabulary.specs.declared.message_limit.MessageLimit.{MessageLimit}

-- ---- lists of texts

-- at a place of the list stands something for which the text there stands
record IsMeant (limit : MessageLimit) (out back : List Announced) (said : List CollectiveMessage) (xs : List Carried)
    (k : ℕ)
    (text : FrameText) : Type 0 where
  carried : Carried
  there : slice_get xs k ≡ Some carried
  stands : StandsForCarried limit out back said text carried

stand_at : (limit : MessageLimit) (out back : List Announced) (said : List CollectiveMessage) (texts : List FrameText)
    (xs : List Carried)
    (k : ℕ) (text : FrameText) → StandFor limit out back said texts xs → slice_get texts k ≡ Some text →
    IsMeant limit out back said xs k text
stand_at limit out back said [] xs k text stand there = absurd (grind arith)
stand_at limit out back said (t ∷ ts) [] k text stand there = absurd stand
stand_at limit out back said (t ∷ ts) (x ∷ xs) zero text stand there =
    record {
      carried = x;
      there = refl;
      stands =
          subst (λ (y : FrameText). StandsForCarried limit out back said y x) (same_Some t text there) stand.0;
    }
stand_at limit out back said (t ∷ ts) (x ∷ xs) (suc k) text stand there =
    let m : IsMeant limit out back said xs k text = stand_at limit out back said ts xs k text stand.1 there in
    record { carried = m.carried; there = m.there; stands = m.stands }

-- one text more
stand_push : (limit : MessageLimit) (out back : List Announced) (said : List CollectiveMessage) (texts : List FrameText)
    (xs : List Carried)
    (text : FrameText) (x : Carried) → StandFor limit out back said texts xs →
    StandsForCarried limit out back said text x
    → StandFor limit out back said (texts ++ text ∷ []) (xs ++ x ∷ [])
stand_push limit out back said [] [] text x stand one = (one, tt)
stand_push limit out back said [] (y ∷ ys) text x stand one = absurd stand
stand_push limit out back said (t ∷ ts) [] text x stand one = absurd stand
stand_push limit out back said (t ∷ ts) (y ∷ ys) text x stand one =
    (stand.0, stand_push limit out back said ts ys text x stand.1 one)

-- what is left behind the first k
stand_drop : (limit : MessageLimit) (out back : List Announced) (said : List CollectiveMessage) (k : ℕ)
    (texts : List FrameText)
    (xs : List Carried) → StandFor limit out back said texts xs → StandFor limit out back said (drop k texts)
    (drop k xs)
stand_drop limit out back said zero texts xs stand = stand
stand_drop limit out back said (suc k) [] [] stand = tt
stand_drop limit out back said (suc k) [] (x ∷ xs) stand = absurd stand
stand_drop limit out back said (suc k) (t ∷ ts) [] stand = absurd stand
stand_drop limit out back said (suc k) (t ∷ ts) (x ∷ xs) stand = stand_drop limit out back said k ts xs stand.1

none_stand : (limit : MessageLimit) (out back : List Announced) (said : List CollectiveMessage) (texts : List FrameText)
    (xs : List Carried) →
    StandFor limit out back said texts xs → texts ≡ [] → xs ≡ []
none_stand limit out back said [] [] stand none = refl
none_stand limit out back said [] (x ∷ xs) stand none = absurd stand
none_stand limit out back said (t ∷ ts) xs stand none = absurd cc

-- ---- more was announced, and more said

-- a piece of a message goes on to be one
piece_more : (limit : MessageLimit) (out out' : List Announced) (i part : ℕ) (m : CollectiveMessage) (t : DataText) →
    Begins out out' →
    IsPiece limit out i part m t → IsPiece limit out' i part m t
piece_more limit out out' i part m t b p =
    record { announced = begins_at out out' t.transfer (LargeNotice i) b p.announced; place = p.place; bytes = p.bytes }

whole_more : (limit : MessageLimit) (out out' : List Announced) (i : ℕ) (m : CollectiveMessage) (text : FrameText) →
    Begins out out' →
    MakesWhole limit out i m text → MakesWhole limit out' i m text
whole_more limit out out' i m (EagerFrame t) b h = h
whole_more limit out out' i m (RequestFrame t) b h = h
whole_more limit out out' i m (ClearFrame t) b h = h
whole_more limit out out' i m (DataFrame t) b h = (h.0, h.1, piece_more limit out out' i h.0 m t b h.2)

known_more : (limit : MessageLimit) (out out' : List Announced) (i : ℕ) (m : CollectiveMessage) (text : FrameText) →
    Begins out out' →
    MakesKnown limit out i m text → MakesKnown limit out' i m text
known_more limit out out' i m (EagerFrame t) b h = h
known_more limit out out' i m (RequestFrame t) b h = (begins_at out out' t.transfer (LargeNotice i) b h.0, h.1)
known_more limit out out' i m (ClearFrame t) b h = h
known_more limit out out' i m (DataFrame t) b h = h

part_more : (limit : MessageLimit) (out out' : List Announced) (i part : ℕ) (m : CollectiveMessage) (text : FrameText) →
    Begins out out' →
    MakesPart limit out i part m text → MakesPart limit out' i part m text
part_more limit out out' i part m (EagerFrame t) b h = h
part_more limit out out' i part m (RequestFrame t) b h = h
part_more limit out out' i part m (ClearFrame t) b h = h
part_more limit out out' i part m (DataFrame t) b h = (h.0, piece_more limit out out' i part m t b h.1)

asks_more : (back back' : List Announced) (i : ℕ) (text : FrameText) → Begins back back' → AsksFor back i text →
    AsksFor back' i text
asks_more back back' i (EagerFrame t) b h = h
asks_more back back' i (RequestFrame t) b h = h
asks_more back back' i (ClearFrame t) b h = (begins_at back back' t.transfer (LargeNotice i) b h.0, h.1)
asks_more back back' i (DataFrame t) b h = h

one_more : (limit : MessageLimit) (out out' back back' : List Announced) (said said' : List CollectiveMessage)
    (text : FrameText)
    (x : Carried) → Begins out out' → Begins back back' → Begins said said' →
    StandsForCarried limit out back said text x →
    StandsForCarried limit out' back' said' text x
one_more limit out out' back back' said said' text (OfMessages f) b c s h =
    λ serial. stands_more (transfers_as serial out) (transfers_as serial out') (transfers_as serial back)
    (transfers_as serial back') text f (transfers_grow serial out out' b) (transfers_grow serial back back' c)
    (h serial)
one_more limit out out' back back' said said' text (OfNotices i) b c s h =
    (h.0, begins_at said said' i h.0 s h.1, whole_more limit out out' i h.0 text b h.2)
one_more limit out out' back back' said said' text (Announces i) b c s h =
    (h.0, begins_at said said' i h.0 s h.1, known_more limit out out' i h.0 text b h.2)
one_more limit out out' back back' said said' text (Answers i) b c s h = asks_more back back' i text c h
one_more limit out out' back back' said said' text (BringsPart i part) b c s h =
    (h.0, begins_at said said' i h.0 s h.1, part_more limit out out' i part h.0 text b h.2)

stand_more : (limit : MessageLimit) (out out' back back' : List Announced) (said said' : List CollectiveMessage)
    (texts : List FrameText)
    (xs : List Carried) → Begins out out' → Begins back back' → Begins said said' →
    StandFor limit out back said texts xs →
    StandFor limit out' back' said' texts xs
stand_more limit out out' back back' said said' [] [] b c s stand = tt
stand_more limit out out' back back' said said' [] (x ∷ xs) b c s stand = absurd stand
stand_more limit out out' back back' said said' (t ∷ ts) [] b c s stand = absurd stand
stand_more limit out out' back back' said said' (t ∷ ts) (x ∷ xs) b c s stand = (
  one_more limit out out' back back' said said' t x b c s stand.0,
  stand_more limit out out' back back' said said' ts xs b c s stand.1,
)

-- ---- links

pub still_is_still : StillIsStill
still_is_still limit out back said texts session alike none =
    none_stand limit out back said (drop session.handed texts.accepted) (in_flight session)
    (stand_drop limit out back said session.handed texts.accepted session.accepted alike.accepted)
    (ap (λ (k : ℕ). drop k texts.accepted) (sym alike.handed) ∙ none)

-- what each announced goes on
abbrev AllGoOn : (told told' : Endpoint → Endpoint → List Announced) → Type 0
AllGoOn told told' = (s d : Endpoint) → Begins (told s d) (told' s d)

carried_more : (limit : MessageLimit) (told told' : Endpoint → Endpoint → List Announced) (said said' : Saying)
    (texts : LinksOf FrameText)
    (sessions : Sessions) → AllGoOn told told' → GoesOn said said'
    → AreCarriedUnder limit told said texts sessions → AreCarriedUnder limit told' said' texts sessions
carried_more limit told told' said said' texts sessions more sent alike s d =
    record {
      accepted = stand_more limit (told s d) (told' s d) (told d s) (told' d s) (said s d) (said' s d)
          (texts s d).accepted
          (sessions s d).accepted (more s d) (more d s) (sent s d) (alike s d).accepted;
      handed = (alike s d).handed;
    }

-- the links from s to d are changed, and the new ones carry the same
with_alike : (limit : MessageLimit) (told : Endpoint → Endpoint → List Announced) (said : Saying)
    (texts : LinksOf FrameText)
    (sessions : Sessions) (s d : Endpoint) (text : LinkOf FrameText) (session : Session) →
    AreCarriedUnder limit told said texts sessions
    → IsCarried limit (told s d) (told d s) (said s d) text session
    → (s' d' : Endpoint) →
    IsCarried limit (told s' d') (told d' s') (said s' d') (if is_same s' s && is_same d' d then text else texts s' d')
    (if is_same s' s && is_same d' d then session else sessions s' d')
with_alike limit told said texts sessions s d text session alike one s' d' = go (is_same s' s && is_same d' d) refl
  where
    go : (t : Bool) → (is_same s' s && is_same d' d) ≡ t →
        IsCarried limit (told s' d') (told d' s') (said s' d') (if t then text else texts s' d') (if t then session else
        sessions s' d')
    go true is =
        let p = and_parts (is_same s' s) (is_same d' d) is in
        subst (λ (x : Endpoint). IsCarried limit (told x d') (told d' x) (said x d') text session)
        (sym (same_eq s' s p.0))
        (subst (λ (x : Endpoint). IsCarried limit (told s x) (told x s) (said s x) text session)
        (sym (same_eq d' d p.1)) one)
    go false is = alike s' d'

-- one more is accepted
accept_alike : (limit : MessageLimit) (told : Endpoint → Endpoint → List Announced) (said : Saying)
    (texts : LinksOf FrameText)
    (sessions : Sessions) (e d : Endpoint) (text : FrameText) (x : Carried)
    → AreCarriedUnder limit told said texts sessions → StandsForCarried limit (told e d) (told d e) (said e d) text x →
    AreCarriedUnder limit told said (accept texts e (d, text)) (accept sessions e (d, x))
accept_alike limit told said texts sessions e d text x alike one =
    with_alike limit told said texts sessions e d (record (texts e d) { accepted = (texts e d).accepted ++ text ∷ [] })
    (record (sessions e d) { accepted = (sessions e d).accepted ++ x ∷ [] }) alike
    (record {
      accepted = stand_push limit (told e d) (told d e) (said e d) (texts e d).accepted (sessions e d).accepted text x
          (alike e d).accepted one;
      handed = (alike e d).handed;
    })

all_alike : (limit : MessageLimit) (told : Endpoint → Endpoint → List Announced) (said : Saying)
    (texts : LinksOf FrameText)
    (sessions : Sessions) (e : Endpoint) (sent : List (Endpoint × FrameText)) (out : List (Endpoint × Carried))
    → AreCarriedUnder limit told said texts sessions → AreSent limit told said e sent out →
    AreCarriedUnder limit told said (accept_all texts e sent) (accept_all sessions e out)
all_alike limit told said texts sessions e [] [] alike s = alike
all_alike limit told said texts sessions e [] (x ∷ xs) alike s = absurd s
all_alike limit told said texts sessions e (t ∷ ts) [] alike s = absurd s
all_alike limit told said texts sessions e ((y, text) ∷ ts) ((d, x) ∷ xs) alike s =
    all_alike limit told said (accept texts e (y, text)) (accept sessions e (d, x)) e ts xs
    (subst (λ (z : Endpoint). AreCarriedUnder limit told said (accept texts e (z, text)) (accept sessions e (d, x)))
    (sym s.0)
    (accept_alike limit told said texts sessions e d text x alike s.1)) s.2

-- what sessions accepted goes on as they accept more
pub accepted_begins : (sessions : Sessions) (e : Endpoint) (out : List (Endpoint × Carried)) (s d : Endpoint) →
    Begins (sessions s d).accepted (accept_all sessions e out s d).accepted
accepted_begins sessions e [] s d = same_begins (sessions s d).accepted (sessions s d).accepted refl
accepted_begins sessions e ((y, x) ∷ out) s d =
    longer (sessions s d).accepted (accept sessions e (y, x) s d).accepted
    (accept_all (accept sessions e (y, x)) e out s d).accepted (go (is_same s e && is_same d y) refl)
    (accepted_begins (accept sessions e (y, x)) e out s d)
  where
    longer : (xs ys zs : List Carried) → Begins xs ys → Begins ys zs → Begins xs zs
    longer xs ys zs a b = (a.0 ++ b.0, sym (append_assoc xs a.0 b.0) ∙ ap (λ (l : List Carried). l ++ b.0) a.1 ∙ b.1)

    go : (t : Bool) → (is_same s e && is_same d y) ≡ t →
        Begins (sessions s d).accepted
        (if t then record (sessions e y) { accepted = (sessions e y).accepted ++ x ∷ [] } else sessions s d).accepted
    go true is =
        let p = and_parts (is_same s e) (is_same d y) is in (
          x ∷ [],
          ap (λ (z : Endpoint). (sessions z d).accepted ++ x ∷ []) (same_eq s e p.0) ∙
              ap (λ (z : Endpoint). (sessions e z).accepted ++ x ∷ []) (same_eq d y p.1),
        )
    go false is = same_begins (sessions s d).accepted (sessions s d).accepted refl

pub announced_begins : (sessions : Sessions) (e : Endpoint) (out : List (Endpoint × Carried)) (s d : Endpoint) →
    Begins (all_announced sessions s d) (all_announced (accept_all sessions e out) s d)
announced_begins sessions e out s d =
    announced_grow (sessions s d).accepted (accept_all sessions e out s d).accepted (accepted_begins sessions e out s d)

pub out_is_carried : OutIsCarried
out_is_carried limit said after texts sessions e sent out alike more s =
    all_alike limit (all_announced (accept_all sessions e out)) after texts sessions e sent out
    (carried_more limit (all_announced sessions) (all_announced (accept_all sessions e out)) said after texts sessions
    (announced_begins sessions e out) more alike) s

-- what goes on as it is
pub as_it_is : (said : Saying) → GoesOn said said
as_it_is said s d = same_begins (said s d) (said s d) refl

-- what is handed up announces nothing more
pub announced_handed : (sessions : Sessions) (s d a b : Endpoint) →
    Begins (all_announced sessions a b) (all_announced (handed_on sessions s d) a b)
announced_handed sessions s d a b =
    same_begins (all_announced sessions a b) (all_announced (handed_on sessions s d) a b)
    (ap announced_in (sym (same_accepted sessions s d a b)))

-- the next is handed up
pub handed_is_carried : HandedIsCarried
handed_is_carried limit said texts sessions s d alike =
    carried_more limit (all_announced sessions) (all_announced (handed_on sessions s d)) said said (handed_on texts s d)
    (handed_on sessions s d) (announced_handed sessions s d) (as_it_is said)
    (with_alike limit (all_announced sessions) said texts sessions s d
    (record (texts s d) { handed = suc (texts s d).handed })
    (record (sessions s d) { handed = suc (sessions s d).handed }) alike
    (record { accepted = (alike s d).accepted; handed = ap suc (alike s d).handed }))

pub next_stands : NextStands
next_stands limit out back said texts session text alike there =
    let m : IsMeant limit out back said session.accepted session.handed text = stand_at limit out back said texts.accepted session.accepted session.handed text alike.accepted (ap (λ (k : ℕ). slice_get texts.accepted k) (sym alike.handed) ∙ there) in
    record { carried = m.carried; there = m.there; stands = m.stands }
