use Rattle.std.proofs.Common.{rules, ◌≡◌, ◌*◌, true, refl, ap, sym, ◌∙◌, subst, length}
use Rattle.std.specs.Prelude.{nat_le}
use Rattle.lw_strips.specs.Laying.{LiesIn}
use Rattle.lw_region.specs.Rectangle.{width, height}
use Rattle.lw_machine.specs.Screen.{screen_bounds}
use Rattle.lw_engine.specs.ScreenParts.{screen_part}
use Rattle.lw_c_rectangles.specs.Bounds.{rectangle_of}
use Rattle.lw_c_desk.specs.Pens.{lies_on, pen_count}
use Rattle.lw_c_desk.proofs.PenLaws.{lies_in, part_done, pens_written}
use Rattle.lw_c_desk.proofs.pens.pens.Goals as goal

pub pens-requires : goal.pens-requires
pens-requires c =
    let on : lies_on c.args.desk.now.sizes c.args.part.now ≡ true =
    subst (λ s. lies_on s c.args.part.now ≡ true) c.sizes.ensures (sym c.lies_on.ensures ∙ c.if-not-lies_on.false) in
    subst (λ r. LiesIn r (screen_bounds c.args.desk.now.sizes)) (sym c.rect_of-rect.ensures) (lies_in c.args.desk.now.sizes c.args.part.now on)

pub returns : goal.returns
returns c =
    let part = c.args.part.now in
    let on : lies_on c.args.desk.now.sizes part ≡ true =
    subst (λ s. lies_on s part ≡ true) c.sizes.ensures (sym c.lies_on.ensures ∙ c.if-not-lies_on.false) in
    let room : nat_le (pen_count part) (length c.args.out.now) ≡ true =
    subst (λ r. nat_le (height r * width r) (length c.args.out.now) ≡ true) c.rect_of-rect.ensures (sym c.has_room.ensures ∙ c.if-not-has_room.false) in
    record {
      answered = λ _.
          sym (part_done c.args.desk.now.sizes part (pen_count part) (length c.args.out.now) (sym c.is_ordered.ensures ∙ c.if-not-is_ordered.false) on room);
      memory = search rules;
      pens = λ _ d stands.
          pens_written part c.rect_of-rect.result c.in-Ok.planes (screen_part d (rectangle_of part)) c.args.out.now c.write_pens.new.out
          c.rect_of-rect.ensures (c.in-Ok.ensures.pens d stands ∙ ap (screen_part d) c.rect_of-rect.ensures) c.in-Ok.ensures.size.0 c.write_pens.ensures;
      kept = λ other. absurd (other refl);
    }
