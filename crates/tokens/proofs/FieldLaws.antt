-- Names and numbers in words: reading and the grammar agree.
use Rattle.std.proofs.Common.{◌≡◌, ℕ, true, Some, ap, subst, ◌∙◌}
use Rattle.tokens.specs.Grammar.{Word, IsCapped, IsLarge, IsName, NamesIt}
use Rattle.tokens.specs.Words.{is_name}
use Rattle.tokens.specs.Fields.{name_of, rank_of, large_of}
use Rattle.tokens.proofs.WordLaws.{if_some, capped_takes, capped_again, name_takes, name_again}

pub named_takes : (word name : Word) → name_of word ≡ Some name → NamesIt word name
unfolding name_of
named_takes word name e = let p = if_some (is_name word) word name e in (p.1, subst IsName p.1 (name_takes word p.0))

pub named_again : (word name : Word) → NamesIt word name → name_of word ≡ Some name
unfolding name_of
named_again word name h =
    let t : is_name word ≡ true = ap is_name h.0 ∙ name_again name h.1 in rw t (ap (λ (w : Word). Some w) h.0)

pub rank_takes : (word : Word) (rank : ℕ) → rank_of word ≡ Some rank → IsCapped 65535 word rank
unfolding rank_of
rank_takes word rank e = capped_takes 65535 word rank e

pub rank_again : (word : Word) (rank : ℕ) → IsCapped 65535 word rank → rank_of word ≡ Some rank
unfolding rank_of
rank_again word rank h = capped_again 65535 word rank h

pub large_takes : (word : Word) (n : ℕ) → large_of word ≡ Some n → IsLarge word n
unfolding large_of
large_takes word n e = capped_takes 18446744073709551615 word n e

pub large_again : (word : Word) (n : ℕ) → IsLarge word n → large_of word ≡ Some n
unfolding large_of
large_again word n h = capped_again 18446744073709551615 word n h
