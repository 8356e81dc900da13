-- `domain::numbers_of` meets its contract: each number is that of its mark. Assumes nothing.
use Rattle.std.proofs.Common.{◌≡◌, length, arith, sym, ◌∙◌}
use Rattle.std.proofs.lemmas.List.{ext_get_or, length-map, get_or-map}
use Rattle.domain.specs.Marks.{mark_number}
use Rattle.domain.specs.declared.marks.Mark.TheVariants.{Unseen}
use Rattle.domain.proofs.numbers_of.Goals as goal

pub returns : goal.returns
returns c =
    let m = c.map.ensures.items in
    let long : length c.args.marks ≡ 8 = omega (arith, c.well_formed) in
    ext_get_or 0 _ _ (m.long ∙ sym long ∙ sym (length-map c.args.marks mark_number))
    (λ i h. (m.at i Unseen 0 (omega (arith, h, m.long))).2.met ∙ sym (get_or-map mark_number c.args.marks i Unseen 0 (omega (arith, h, m.long, long))))
