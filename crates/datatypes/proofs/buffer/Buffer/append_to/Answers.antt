use Rattle.std.proofs.Common.{◌≡◌, ◌++◌, ℕ, List, sym, ap, ◌∙◌, append_assoc, arith}
use Rattle.std.proofs.lemmas.Grind.{common_steps}
use Rattle.byteorder.specs.Endian.{big_bytes}
use Rattle.vocabulary.specs.BasicTypes.{size_of}
use Rattle.datatypes.specs.Contents.{Contents, bytes_of, copies_of}
use Rattle.datatypes.proofs.RoomLaws.{bytes_of_all}
use Rattle.datatypes.proofs.buffer.Buffer.append_to.Goals as goal

pub returns-clause-ok : goal.returns-clause-ok
returns-clause-ok c =
    let s = c.self.inside.store in
    let base = c.args.bytes.now.items in
    let k = size_of s.basic in
    let size : c.from.result ≡ k =
    c.from.ensures ∙ c.size.ensures ∙ ap size_of (c.basic.ensures ∙ sym (ap (λ (v : Contents). v.basic) c.self.view_is))
    in
    let first : c.extend_from_slice.new.self.items ≡ base ++ c.as_bytes.result.now = grind (arith, common_steps) in
    let items : c.append_copies.new.bytes.items ≡ c.extend_from_slice.new.self.items ++ copies_of c.unwritten-unwritten.result (big_bytes c.from.result 0) = grind (arith, common_steps) in
    items
    ∙ ap (λ (t : List ℕ). t ++ copies_of c.unwritten-unwritten.result (big_bytes c.from.result 0))
    (first ∙ ap (λ (t : List ℕ). base ++ t) c.as_bytes.ensures.bytes)
    ∙ ap (λ (n : ℕ). base ++ bytes_of k s.values ++ copies_of n (big_bytes c.from.result 0))
    c.unwritten-unwritten.ensures
    ∙ ap (λ (n : ℕ). base ++ bytes_of k s.values ++ copies_of s.unwritten (big_bytes n 0)) size
    ∙ append_assoc base (bytes_of k s.values) (copies_of s.unwritten (big_bytes k 0))
    ∙ ap (λ (t : List ℕ). base ++ t) (sym (bytes_of_all k s.values s.unwritten))
    ∙ ap (λ (v : Contents). base ++ bytes_of (size_of v.basic) v.values) c.self.view_is
