-- Telling the others.
use Rattle.std.proofs.Common.{◌≡◌, ℕ, Bool, true, false, List, [], ◌∷◌, map, if◌then◌else◌, refl}
use Rattle.std.specs.List.{AllByRecursion}
use Rattle.collective_messages.specs.Entries as entering
use Rattle.collective_messages.specs.Notes.{member_at}
use Rattle.collective_steps.specs.Steps as steps
use Rattle.collective_steps.specs.Steps.{message_to}
use Rattle.collective_messages.specs.declared.entry.Inside.{Inside}
use Rattle.collective_messages.specs.declared.message.MessageContent.{MessageContent}
use Rattle.proof_collective_steps.specs.Counterparts.{AreSaid, GivenStandsFor, IsSaid}
use Rattle.proof_group_network.specs.Notices as network
use Rattle.proof_group_network.specs.Notices.{Notice, notice}
use Rattle.vocabulary.specs.Endpoints.{is_same}
use Rattle.vocabulary.specs.declared.endpoint.Endpoint.{Endpoint}

-- MESSAGES

pub every : {X : Type 0} (P : X → Type 0) → ((x : X) → P x) → (xs : List X) → AllByRecursion P xs
every P f [] = tt
every P f (x ∷ xs) = (f x, every P f xs)

pub said_to : (e : Endpoint) (i : Inside) (g : MessageContent) (r : ℕ) (x : network.Said) →
    GivenStandsFor e (entering.record_of i.entry) g x →
    IsSaid e (message_to i g r) (member_at i.incarnation r, notice i.context i.number x)
said_to e i g r x h = record { target = refl; context = refl; number = refl; stands = h }

pub others_said : (e : Endpoint) (i : Inside) (f : ℕ → MessageContent) (g : Endpoint → Notice) (rs : List ℕ) →
    AllByRecursion (λ r. IsSaid e (message_to i (f r) r) (member_at i.incarnation r, g (member_at i.incarnation r)))
    rs →
    AreSaid e (steps.to_others e i f rs) (network.to_others e g (map (member_at i.incarnation) rs))
others_said e i f g [] h = tt
others_said e i f g (r ∷ rs) h = go (is_same (member_at i.incarnation r) e) (others_said e i f g rs h.1)
  where
    go : (b : Bool) → AreSaid e (steps.to_others e i f rs) (network.to_others e g (map (member_at i.incarnation) rs)) →
        AreSaid e (if b then steps.to_others e i f rs else message_to i (f r) r ∷ steps.to_others e i f rs)
        (if b then network.to_others e g (map (member_at i.incarnation) rs) else
        (member_at i.incarnation r, g (member_at i.incarnation r)) ∷
        network.to_others e g (map (member_at i.incarnation) rs))
    go true rest = rest
    go false rest = (h.0, rest)

-- the same to each of these
pub some_said : (e : Endpoint) (i : Inside) (g : MessageContent) (x : network.Said) →
    GivenStandsFor e (entering.record_of i.entry) g x → (rs : List ℕ) →
    AreSaid e (steps.to_others e i (λ r. g) rs)
    (network.to_others e (λ z. notice i.context i.number x) (map (member_at i.incarnation) rs))
some_said e i g x stands rs =
    others_said e i (λ r. g) (λ z. notice i.context i.number x) rs
    (every (λ r. IsSaid e (message_to i g r) (member_at i.incarnation r, notice i.context i.number x))
    (λ r. said_to e i g r x stands) rs)

-- to each but the rank itself
pub apart_said : (e : Endpoint) (i : Inside) (g : MessageContent) (f : Endpoint → network.Said) →
    ((z : Endpoint) → is_same z e ≡ false → GivenStandsFor e (entering.record_of i.entry) g (f z)) → (rs : List ℕ) →
    AreSaid e (steps.to_others e i (λ r. g) rs)
    (network.to_others e (λ z. notice i.context i.number (f z)) (map (member_at i.incarnation) rs))
apart_said e i g f stands [] = tt
apart_said e i g f stands (r ∷ rs) = go (is_same (member_at i.incarnation r) e) refl (apart_said e i g f stands rs)
  where
    go : (b : Bool) → is_same (member_at i.incarnation r) e ≡ b →
        AreSaid e (steps.to_others e i (λ r. g) rs)
        (network.to_others e (λ z. notice i.context i.number (f z)) (map (member_at i.incarnation) rs)) →
        AreSaid e (if b then steps.to_others e i (λ r. g) rs else message_to i g r ∷ steps.to_others e i (λ r. g) rs)
        (if b then network.to_others e (λ z. notice i.context i.number (f z)) (map (member_at i.incarnation) rs)
        else (member_at i.incarnation r, notice i.context i.number (f (member_at i.incarnation r))) ∷
        network.to_others e (λ z. notice i.context i.number (f z)) (map (member_at i.incarnation) rs))
    go true q rest = rest
    go false q rest = (said_to e i g r (f (member_at i.incarnation r)) (stands (member_at i.incarnation r) q), rest)
