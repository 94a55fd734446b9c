-- What a keeper's words say is what they were made of.
use Rattle.std.proofs.Common.{◌≡◌, ℕ, ◌≤◌, Bool, true, false, cond, List, [], ◌∷◌, Option, Some, None, refl, sym, ap}
use Rattle.std.proofs.Common.{◌∙◌, arith}
use Rattle.std.specs.Prelude.{codes, IfSome}
use Rattle.std.specs.Str.{bytes_eq}
use Rattle.std.specs.Fmt.{decimal}
use Rattle.std.proofs.lemmas.Slice.Eq.{bytes_eq-Decides}
use Rattle.launch_keeper.specs.declared.role.KeeperRole.{KeeperRole}
use Rattle.numerals.specs.Numbers.{number_between}
use Rattle.launch_keeper.specs.Words.{Word}
use Rattle.launch_keeper.specs.Roles.{keeper_words, KeptText, kept_text, kept_by, kept_of}
use Rattle.numerals.proofs.Numerals.{number_takes, number_again}

pub kept_again : (rank : ℕ) (rest : List Word) → rank ≤ 1023 → kept_of (keeper_words rank rest) ≡
    Some (record { rank = rank; words = rest })
unfolding kept_of
kept_again rank rest few =
    let number : number_between (decimal rank) 0 1023 ≡ Some rank = number_again 0 1023 rank (omega arith) (omega arith) few in
    rw number refl

some_is : {A : Type 0} (x y : A) → Some x ≡ Some y → x ≡ y
some_is x y e = cc

read_by : (value : Option ℕ) (first number : Word) (rest : List Word) (kept : KeptText) → first ≡ codes "-keeper" →
    number_between number 0 1023 ≡ value →
    kept_by value rest ≡ Some kept → first ∷ number ∷ rest ≡ keeper_words kept.rank kept.words
read_by None first number rest kept first_is value_is e = absurd cc
read_by (Some rank) first number rest kept first_is value_is e =
    let n = number_takes number 0 1023 rank (omega arith) value_is in
    let made : KeptText = record { rank = rank; words = rest } in
    let kept_is : made ≡ kept = some_is made kept e in
    let there : first ∷ number ∷ rest ≡ keeper_words rank rest = ap (λ (w : Word). w ∷ number ∷ rest) first_is ∙ ap (λ (w : Word). codes "-keeper" ∷ w ∷ rest) n.spelled in
    there ∙ ap (λ (k : KeptText). keeper_words k.rank k.words) kept_is

made_by : (test : Bool) (first number : Word) (rest : List Word) (kept : KeptText) → bytes_eq first (codes "-keeper") ≡
    test →
    cond test (kept_by (number_between number 0 1023) rest) None ≡ Some kept →
    first ∷ number ∷ rest ≡ keeper_words kept.rank kept.words
made_by false first number rest kept is e = absurd cc
made_by true first number rest kept is e =
    read_by (number_between number 0 1023) first number rest kept ((bytes_eq-Decides first (codes "-keeper")).0 is) refl
    e

pub kept_takes : (words : List Word) (kept : KeptText) → kept_of words ≡ Some kept →
    words ≡ keeper_words kept.rank kept.words
unfolding kept_of
kept_takes [] kept e = absurd cc
kept_takes (first ∷ []) kept e = absurd cc
kept_takes (first ∷ number ∷ rest) kept e = made_by (bytes_eq first (codes "-keeper")) first number rest kept refl e

pub is_kept : (words : List Word) (kept : Option KeeperRole) → kept_text kept ≡ kept_of words →
    IfSome kept (λ k. words ≡ keeper_words k.rank k.words.now)
is_kept words None e = tt
is_kept words (Some kept) e = kept_takes words (record { rank = kept.rank; words = kept.words.now }) (sym e)
