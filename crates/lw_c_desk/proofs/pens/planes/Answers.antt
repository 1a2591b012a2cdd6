use Rattle.std.proofs.Common.{rules, ◌≡◌, ℕ, ◌*◌, ◌≤◌, true, refl, ap, sym, ◌∙◌, subst, length, arith}
use Rattle.std.specs.Prelude.{nat_le}
use Rattle.std.proofs.lemmas.Bool.Decides.{nat_tests}
use Rattle.lw_region.specs.Rectangle.{width, height}
use Rattle.lw_planes.specs.Bitmap.{row_bytes}
use Rattle.lw_strips.specs.Laying.{LiesIn}
use Rattle.lw_calls.specs.declared.sizes.Sizes.{Sizes}
use Rattle.lw_machine.specs.Screen.{screen_bounds}
use Rattle.lw_engine.specs.ScreenParts.{screen_part}
use Rattle.lw_c_rectangles.specs.Bounds.{rectangle_of}
use Rattle.lw_c_desk.specs.Pens.{lies_on, plane_bytes}
use Rattle.lw_c_desk.proofs.PenLaws.{lies_in, part_done, planes_long, planes_written, planes_rest}
use Rattle.lw_c_desk.proofs.pens.planes.Goals as goal

pub pens-requires : goal.pens-requires
pens-requires c =
    let on : lies_on c.args.desk.now.sizes c.args.part.now ≡ true =
    subst (λ s. lies_on s c.args.part.now ≡ true) c.sizes.ensures (sym c.lies_on.ensures ∙ c.if-not-lies_on.false) in
    subst (λ r. LiesIn r (screen_bounds c.args.desk.now.sizes)) (sym c.rect_of-rect.ensures) (lies_in c.args.desk.now.sizes c.args.part.now on)

pub returns : goal.returns
returns c =
    let part = c.args.part.now in
    let sizes = c.args.desk.now.sizes in
    let bytes = c.bytes-bytes.result.now in
    let on : lies_on sizes part ≡ true = subst (λ s. lies_on s part ≡ true) c.sizes.ensures (sym c.lies_on.ensures ∙ c.if-not-lies_on.false) in
    let due : c.plane_bytes-due.result ≡ plane_bytes sizes.depth part =
    c.plane_bytes-due.ensures ∙ (ap (λ (s : Sizes). s.depth * height c.rect_of-rect.result * row_bytes (width c.rect_of-rect.result)) c.sizes-2.ensures
    ∙ ap (λ r. sizes.depth * height r * row_bytes (width r)) c.rect_of-rect.ensures) in
    let long : length bytes ≡ plane_bytes sizes.depth part =
    planes_long part c.rect_of-rect.result c.in-Ok.planes sizes.depth bytes c.rect_of-rect.ensures c.in-Ok.ensures.size.0 c.in-Ok.ensures.size.1
    c.bytes-bytes.ensures.stored in
    let room : nat_le (plane_bytes sizes.depth part) (length c.args.out.now) ≡ true =
    subst (λ n. nat_le n (length c.args.out.now) ≡ true) due (no_more _ _ c.if-out-due.false) in
    record {
      answered = λ _.
          sym (part_done sizes part (plane_bytes sizes.depth part) (length c.args.out.now) (sym c.is_ordered.ensures ∙ c.if-not-is_ordered.false) on room);
      memory = search rules;
      planes = λ _ d stands.
          planes_written part c.rect_of-rect.result c.in-Ok.planes (screen_part d (rectangle_of part)) sizes.depth bytes c.args.out.now c.copy.new.out
          c.rect_of-rect.ensures c.in-Ok.ensures.size.0 c.in-Ok.ensures.size.1
          (c.in-Ok.ensures.pens d stands ∙ ap (screen_part d) c.rect_of-rect.ensures) c.bytes-bytes.ensures.value long c.copy.ensures;
      rest = λ _. planes_rest (plane_bytes sizes.depth part) bytes c.args.out.now c.copy.new.out long c.copy.ensures;
      kept = λ other. absurd (other refl);
      count = due;
    }
  where
    no_more : (a b : ℕ) → a ≤ b → nat_le a b ≡ true
    no_more a b h = grind (arith, nat_tests)
