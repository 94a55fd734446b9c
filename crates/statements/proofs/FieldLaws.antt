-- The fields of statements: reading and the grammar agree.
use Rattle.std.proofs.Common.{◌≡◌, ℕ, false, List, [], ◌∷◌, Option, Some, None, refl, sym, ap, subst, ◌∙◌}
use Rattle.std.specs.Prelude.{codes}
use Rattle.std.specs.Str.{bytes_eq}
use Rattle.statements.specs.declared.action.CommunicatorName.{CommunicatorName}
use Rattle.statements.specs.declared.action.CommunicatorName.TheVariants as communicators
use Rattle.vocabulary.specs.declared.envelope.Source.{Source}
use Rattle.vocabulary.specs.declared.envelope.Source.TheVariants as sources
use Rattle.statements.specs.declared.action.RequestName.{RequestName}
use Rattle.statements.specs.declared.action.RequestName.TheVariants as requests
use Rattle.statements.specs.declared.action.LayoutClause.{LayoutClause}
use Rattle.statements.specs.Grammar.{IsCommunicator, IsTarget, IsSource, IsTag, IsRequested, IsThrough}
use Rattle.tokens.specs.Grammar.{Word, IsLarge, StandFor, NamesIt}
use Rattle.tokens.specs.Numbers.{number_or}
use Rattle.statements.specs.LineWords.{one_request, communicator_of, target_of, source_of, tag_of, requested_of}
use Rattle.statements.specs.LineWords.{behind_as, through_of}
use Rattle.tokens.specs.Fields.{first, end_of_line, each, name_of, rank_of, large_of}
use Rattle.tokens.proofs.WordLaws.{bind_ok, made, pick, same_word, other_word, no_letters, capped_takes, capped_again}
use Rattle.statements.proofs.FieldSteps.{two}
use Rattle.tokens.proofs.EachLaws.{all_take, all_again}
use Rattle.tokens.proofs.FieldLaws.{named_takes, named_again, rank_takes, rank_again, large_takes, large_again}

pub communicator_takes : (word : Word) (c : CommunicatorName) → communicator_of word ≡ Some c → IsCommunicator word c
unfolding communicator_of
communicator_takes word c e =
    pick (IsCommunicator word) (bytes_eq word (codes "world")) _ _ c
    (λ t. made (IsCommunicator word) communicators.World c (same_word word (codes "world") t)) (λ _.
    pick (IsCommunicator word) (bytes_eq word (codes "self")) _ _ c
    (λ t. made (IsCommunicator word) communicators.Own c (same_word word (codes "self") t)) (λ _ f.
    let b = bind_ok (name_of word) (λ name. Some (communicators.Named name)) c f in
    made (IsCommunicator word) (communicators.Named b.0) c (named_takes word b.0 b.1) b.2)) e

pub communicator_again : (word : Word) (c : CommunicatorName) → IsCommunicator word c → communicator_of word ≡ Some c
unfolding communicator_of
communicator_again word communicators.World h = ap communicator_of h
communicator_again word communicators.Own h = ap communicator_of h
communicator_again word (communicators.Named name) h =
    let t0 : bytes_eq word (codes "world") ≡ false = other_word word (codes "world") (λ e. h.1.not_world (sym h.0 ∙ e)) in
    let t1 : bytes_eq word (codes "self") ≡ false = other_word word (codes "self") (λ e. h.1.not_self (sym h.0 ∙ e)) in
    let t2 : name_of word ≡ Some name = named_again word name h in
    rw (t0, t1, t2) refl

pub target_takes : (word : Word) (r : Source) → target_of word ≡ Some r → IsTarget word r
unfolding target_of
target_takes word r e =
    pick (IsTarget word) (bytes_eq word (codes "null")) _ _ r
    (λ t. made (IsTarget word) sources.Null r (same_word word (codes "null") t)) (λ _ f.
    let b = bind_ok (rank_of word) (λ rank. Some (sources.Rank rank)) r f in
    made (IsTarget word) (sources.Rank b.0) r (rank_takes word b.0 b.1) b.2) e

pub target_again : (word : Word) (r : Source) → IsTarget word r → target_of word ≡ Some r
unfolding target_of
target_again word sources.Any h = absurd h
target_again word sources.Null h = ap target_of h
target_again word (sources.Rank rank) h =
    let t0 : bytes_eq word (codes "null") ≡ false = no_letters word (codes "null") h.0 refl h.1 in
    let t1 : rank_of word ≡ Some rank = rank_again word rank h in
    rw (t0, t1) refl

pub source_takes : (word : Word) (r : Source) → source_of word ≡ Some r → IsSource word r
unfolding source_of
source_takes word r e =
    pick (IsSource word) (bytes_eq word (codes "any")) _ _ r
    (λ t. made (IsSource word) sources.Any r (same_word word (codes "any") t)) (λ _.
    pick (IsSource word) (bytes_eq word (codes "null")) _ _ r
    (λ t. made (IsSource word) sources.Null r (same_word word (codes "null") t)) (λ _ f.
    let b = bind_ok (rank_of word) (λ rank. Some (sources.Rank rank)) r f in
    made (IsSource word) (sources.Rank b.0) r (rank_takes word b.0 b.1) b.2)) e

pub source_again : (word : Word) (r : Source) → IsSource word r → source_of word ≡ Some r
unfolding source_of
source_again word sources.Any h = ap source_of h
source_again word sources.Null h = ap source_of h
source_again word (sources.Rank rank) h =
    let t0 : bytes_eq word (codes "any") ≡ false = no_letters word (codes "any") h.0 refl h.1 in
    let t1 : bytes_eq word (codes "null") ≡ false = no_letters word (codes "null") h.0 refl h.1 in
    let t2 : rank_of word ≡ Some rank = rank_again word rank h in
    rw (t0, t1, t2) refl

pub tag_takes : (word : Word) (t : Option ℕ) → tag_of word ≡ Some t → IsTag word t
unfolding tag_of
tag_takes word tag e =
    pick (IsTag word) (bytes_eq word (codes "any")) _ _ tag
    (λ t. made (IsTag word) None tag (same_word word (codes "any") t)) (λ _ f.
    let b = bind_ok (number_or 4294967295 word) (λ n. Some (Some n)) tag f in
    made (IsTag word) (Some b.0) tag (capped_takes 4294967295 word b.0 b.1) b.2) e

pub tag_again : (word : Word) (t : Option ℕ) → IsTag word t → tag_of word ≡ Some t
unfolding tag_of
tag_again word None h = ap tag_of h
tag_again word (Some n) h =
    let t0 : bytes_eq word (codes "any") ≡ false = no_letters word (codes "any") h.0 refl h.1 in
    let t1 : number_or 4294967295 word ≡ Some n = capped_again 4294967295 word n h in
    rw (t0, t1) refl

pub requested_takes : (word : Word) (r : RequestName) → requested_of word ≡ Some r → IsRequested word r
unfolding requested_of
requested_takes word r e =
    pick (IsRequested word) (bytes_eq word (codes "null")) _ _ r
    (λ t. made (IsRequested word) requests.Null r (same_word word (codes "null") t)) (λ _ f.
    let b = bind_ok (name_of word) (λ name. Some (requests.Named name)) r f in
    made (IsRequested word) (requests.Named b.0) r (named_takes word b.0 b.1) b.2) e

pub requested_again : (word : Word) (r : RequestName) → IsRequested word r → requested_of word ≡ Some r
unfolding requested_of
requested_again word requests.Null h = ap requested_of h
requested_again word (requests.Named name) h =
    let t0 : bytes_eq word (codes "null") ≡ false = other_word word (codes "null") (λ e. h.1.not_null (sym h.0 ∙ e)) in
    let t1 : name_of word ≡ Some name = named_again word name h in
    rw (t0, t1) refl

pub requests_take : (words : List Word) (rs : List RequestName) → each one_request words ≡ Some rs →
    StandFor IsRequested words rs
requests_take words rs e = all_take IsRequested requested_of requested_takes words rs e

pub requests_again : (words : List Word) (rs : List RequestName) → StandFor IsRequested words rs →
    each one_request words ≡ Some rs
requests_again words rs h = all_again IsRequested requested_of requested_again words rs h

-- ---- `as L N`

through_made : Word → ℕ → LayoutClause
through_made l n = record { layout = l; copies = n }

IsBehind : List Word → LayoutClause → Type 0
IsBehind words through = (layout copies : Word) × (words ≡ layout ∷ copies ∷ []) × NamesIt layout through.layout ×
    IsLarge copies through.copies

behind_takes : (words : List Word) (t : LayoutClause) → behind_as words ≡ Some t → IsBehind words t
unfolding behind_as first end_of_line through_made IsBehind
behind_takes [] t e = absurd cc
behind_takes (a ∷ []) t e = absurd cc
behind_takes (a ∷ b ∷ c ∷ rest) t e = absurd cc
behind_takes (a ∷ b ∷ []) t e =
    let p = two (name_of a) (large_of b) through_made t e in
    subst (IsBehind (a ∷ b ∷ [])) p.4 (a, b, refl, named_takes a p.0 p.2, large_takes b p.1 p.3)

pub through_takes : (words : List Word) (o : Option LayoutClause) → through_of words ≡ Some o → IsThrough words o
unfolding through_of IsBehind
through_takes [] o e = made (IsThrough []) None o refl e
through_takes (w ∷ ws) o e =
    pick (IsThrough (w ∷ ws)) (bytes_eq w (codes "as")) _ _ o (λ t f.
    let b = bind_ok (behind_as ws) (λ through. Some (Some through)) o f in
    let p = behind_takes ws b.0 b.1 in
    let spelled : w ∷ ws ≡ codes "as" ∷ p.0 ∷ p.1 ∷ [] = ap (λ (x : Word). x ∷ ws) (same_word w (codes "as") t) ∙ ap (λ (xs : List Word). codes "as" ∷ xs) p.2 in
    made (IsThrough (w ∷ ws)) (Some b.0) o (p.0, p.1, spelled, p.3, p.4) b.2) (λ _ f. absurd cc) e

no_layout : through_of [] ≡ Some None
unfolding through_of
no_layout = refl

through_from : (a b : Word) (t : LayoutClause) → name_of a ≡ Some t.layout → large_of b ≡ Some t.copies →
    through_of (codes "as" ∷ a ∷ b ∷ []) ≡ Some (Some t)
unfolding through_of behind_as first end_of_line
through_from a b t n c = rw (n, c) refl

pub through_again : (words : List Word) (o : Option LayoutClause) → IsThrough words o → through_of words ≡ Some o
through_again words None h = ap through_of h ∙ no_layout
through_again words (Some t) h =
    ap through_of h.2 ∙ through_from h.0 h.1 t (named_again h.0 t.layout h.3) (large_again h.1 t.copies h.4)
