-- Texts that begin, end and are cut by others.
use Rattle.std.proofs.Common.{◌≡◌, ℕ, zero, suc, List, [], ◌∷◌, ◌++◌, take, drop, codes, Option, Some, None, IfSome, Bor, refl, sym, ap, subst, ◌∙◌, append_assoc}
use Rattle.std.specs.Str.Pattern.{FindsText, FindsTextPrefix, StripsPrefix, SplitsAroundMatch}
use Rattle.rank_lines.specs.declared.cycle.Wait.{Wait}
use Rattle.rank_lines.specs.Waits.{EndsWith, NamesRank, BeginsWithPlace, SaysWait, SpellsRank}

pub stripped : (front text rest : List ℕ) → StripsPrefix (FindsTextPrefix front) text rest → text ≡ front ++ rest
stripped front text rest is = is.1.1 ∙ ap (λ (l : List ℕ). front ++ l) (sym is.2)

both_parts : (bytes : List ℕ) (n : ℕ) → bytes ≡ take n bytes ++ drop n bytes
both_parts [] zero = refl
both_parts [] (suc n) = refl
both_parts (byte ∷ bytes) zero = refl
both_parts (byte ∷ bytes) (suc n) = ap (λ (l : List ℕ). byte ∷ l) (both_parts bytes n)

pub split : (middle text front back : List ℕ) → SplitsAroundMatch (FindsText middle) text front back →
    text ≡ front ++ middle ++ back
split middle text front back is =
    both_parts text is.0 ∙ ap (λ (l : List ℕ). take is.0 text ++ l) is.2.1.split
    ∙ sym (append_assoc (take is.0 text) middle (drop is.1 text))
    ∙ ap (λ (l : List ℕ). l ++ middle ++ drop is.1 text) (sym is.3)
    ∙ ap (λ (l : List ℕ). front ++ middle ++ l) (sym is.4)

pub ends_with_itself : (text : List ℕ) → EndsWith text text
ends_with_itself text = ([], refl)

pub ends_after : (text front end : List ℕ) → text ≡ front ++ end → EndsWith text end
ends_after text front end is = (front, is)

pub ends_behind : (text front middle end : List ℕ) → text ≡ front ++ middle ++ end → EndsWith text end
ends_behind text front middle end is = (front ++ middle, is)

pub ends_twice : (text middle last front rest : List ℕ) → EndsWith text middle → EndsWith middle last →
    last ≡ front ++ rest → EndsWith text (front ++ rest)
ends_twice text middle last front rest a b is = (
  a.0 ++ b.0,
  a.1 ∙ ap (λ (l : List ℕ). a.0 ++ l) (b.1 ∙ ap (λ (l : List ℕ). b.0 ++ l) is)
      ∙ sym (append_assoc a.0 b.0 (front ++ rest)),
)

-- the same where the end may be absent
pub ends_found : (text middle last : List ℕ) (found : Option (Bor (List ℕ))) → EndsWith text middle →
    EndsWith middle last → IfSome found (λ rest. last ≡ codes "rank " ++ rest.now) →
    IfSome found (λ rest. EndsWith text (codes "rank " ++ rest.now))
ends_found text middle last None a b is = tt
ends_found text middle last (Some rest) a b is = ends_twice text middle last (codes "rank ") rest.now a b is

pub begins_with_place : (line behind place call : List ℕ) (rank : ℕ) → line ≡ codes "rank " ++ behind →
    behind ≡ place ++ codes ": MPI_" ++ call → SpellsRank place rank → BeginsWithPlace line rank call
begins_with_place line behind place call rank a b is =
    (place, a ∙ ap (λ (l : List ℕ). codes "rank " ++ l) b, is)

pub names_rank : (items named name rest : List ℕ) (other : ℕ) → EndsWith items (codes "rank " ++ named) →
    named ≡ name ++ codes " " ++ rest → SpellsRank name other → NamesRank items other
names_rank items named name rest other a b is =
    (name, rest, subst (λ (l : List ℕ). EndsWith items (codes "rank " ++ l)) b a, is)

pub names_found : (items named name rest : List ℕ) (found : Option ℕ) → EndsWith items (codes "rank " ++ named) →
    named ≡ name ++ codes " " ++ rest → IfSome found (λ rank. SpellsRank name rank) →
    IfSome found (λ other. NamesRank items other)
names_found items named name rest None a b is = tt
names_found items named name rest (Some other) a b is = names_rank items named name rest other a b is

-- the parts of a line that says a wait
pub says_wait : (line call begun items : List ℕ) (wait : Wait) → BeginsWithPlace line wait.rank call →
    call ≡ begun ++ codes " waits for " ++ items → NamesRank items wait.other → SaysWait line wait
says_wait line call begun items wait a b c =
    record { call = call; begun = begun; items = items; begins = a; waits = b; names = c }

-- the same of the line's text
pub says_wait_of : (line text call begun items : List ℕ) (wait : Wait) → text ≡ line →
    BeginsWithPlace text wait.rank call → call ≡ begun ++ codes " waits for " ++ items → NamesRank items wait.other →
    SaysWait line wait
says_wait_of line text call begun items wait e a b c =
    subst (λ (l : List ℕ). SaysWait l wait) e (says_wait text call begun items wait a b c)
