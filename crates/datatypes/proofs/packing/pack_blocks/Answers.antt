use Rattle.std.proofs.Common.{◌≡◌, ℕ, List, ◌++◌, length, sym, ap, subst, ◌∙◌}
use Rattle.derived_types.specs.Layouts.{places}
use Rattle.datatypes.specs.Contents.{values_of, AreWhole}
use Rattle.datatypes.specs.Pieces.{pieces_of}
use Rattle.datatypes.proofs.PieceLaws.{near_from_room, pieces_are}
use Rattle.datatypes.proofs.packing.pack_blocks.Goals as goal

pub returns-clause-whole : goal.returns-clause-whole
returns-clause-whole c =
    let a = c.args in
    let at = places a.copies a.strided.now.offsets.now in
    let are = pieces_are a.strided.now.size a.bytes.now at a.strided.now.low c.requires.bytes (near_from_room at (length (values_of a.strided.now.size a.bytes.now)) c.requires.near) in
    let is : c.append_copied_blocks.new.out.items ≡ pieces_of a.strided.now.size a.bytes.now at =
    c.in_ok-append_copied_blocks.ensures ∙
    ap (λ (t : List ℕ). t ++ pieces_of a.strided.now.size a.bytes.now at) c.in_ok-out.ensures.items
    in
    subst (AreWhole a.strided.now.size) (sym is) are.0

pub returns-clause-values : goal.returns-clause-values
returns-clause-values c =
    let a = c.args in
    let at = places a.copies a.strided.now.offsets.now in
    let are = pieces_are a.strided.now.size a.bytes.now at a.strided.now.low c.requires.bytes (near_from_room at (length (values_of a.strided.now.size a.bytes.now)) c.requires.near) in
    let is : c.append_copied_blocks.new.out.items ≡ pieces_of a.strided.now.size a.bytes.now at =
    c.in_ok-append_copied_blocks.ensures ∙
    ap (λ (t : List ℕ). t ++ pieces_of a.strided.now.size a.bytes.now at) c.in_ok-out.ensures.items
    in
    ap (values_of a.strided.now.size) is ∙ are.1
