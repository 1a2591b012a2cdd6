use Rattle.std.proofs.Common.{◌++◌, List, None, map, sym, ap, subst, ◌∙◌}
use Rattle.std.specs.List.{All}
use Rattle.std.proofs.lemmas.List.{take_all}
use Rattle.lw_region.specs.Rectangle.{Rectangle}
use Rattle.lw_region.proofs.SetOps.{combined_lists}
use Rattle.lw_calls.specs.declared.sizes.Sizes.{Sizes}
use Rattle.lw_calls.specs.Limits.{IsWithinLimits}
use Rattle.lw_strips.specs.Strips.{strip_of}
use Rattle.lw_strips.specs.Laying.{screen, LiesIn}
use Rattle.lw_arrange.proofs.DesktopLaws.{IsParted, none_parted, parted_more, IsRemade, joined_inside, desktop_remade}
use Rattle.lw_arrange.proofs.desktop.remade.Goals as goal

pub loop-strip-init : goal.loop-strip-init
loop-strip-init c =
    none_parted c.args.area.now c.args.info.now.sizes.depth c.in_ok-strips.strips.items c.new-near.result c.in_ok-strips.ensures.items c.new-near.ensures

pub loop-strip-preserved : goal.loop-strip-preserved
loop-strip-preserved c =
    let strips = c.desktop-desktop.result.now in
    let k = c.loop-strip.strip-index in
    parted_more c.args.area.now c.args.info.now.sizes.depth strips k c.strip-item.result c.loop-strip.strips.items c.sort.new.strips.items
    c.loop-strip.near c.sort.new.near c.desktop-desktop.ensures.disjoint c.desktop-desktop.ensures.pens c.loop-strip-test.true c.strip-item.is
    c.loop-strip.invariant c.in_ok-sort.ensures

pub push_blank-requires-clause-sizes : goal.push_blank-requires-clause-sizes
push_blank-requires-clause-sizes c = subst IsWithinLimits (sym c.sizes-sizes.ensures.value) c.sizes-sizes.ensures.planned.stack.limits

pub push_blank-requires-clause-inside : goal.push_blank-requires-clause-inside
push_blank-requires-clause-inside c =
    let v = c.args.info.now in
    let a = c.args.arrangement.now in
    let remade : IsRemade v a.stack c.args.area.now c.desktop-desktop.result.now c.loop-strip.strips.items c.loop-strip.near c.clear_region.new.into c.or_region.new.into c.args.rest.now = record {
      before = c.desktop-desktop.ensures;
      parted = subst (λ l. IsParted c.args.area.now v.sizes.depth l c.loop-strip.strips.items c.loop-strip.near) (take_all c.loop-strip.strip-index c.desktop-desktop.result.now c.loop-strip-test.false) c.loop-strip.invariant;
      clear = λ x y. (combined_lists.differences c.loop-strip.near c.args.area.now c.clear_region.new.into c.in_ok-clear_region.ensures.list).pixels x y;
      join = λ x y. (combined_lists.unions c.clear_region.new.into c.args.rest.now c.or_region.new.into c.in_ok-or_region.ensures.list).pixels x y;
      left = c.requires.rest;
      inside = c.requires.inside;
      same = c.requires.sizes;
      bare = c.requires.bare;
    } in
    let P : List Rectangle → Type 0 = λ l. All (λ r. LiesIn r (screen a.stack.sizes.width a.stack.sizes.height)) l in
    let Q : Sizes → Type 0 = λ z. All (λ r. LiesIn r (screen z.width z.height)) c.rects.result.now in
    subst Q (sym c.sizes-sizes.ensures.value)
    (subst P (sym c.rects.ensures.value) (joined_inside v a.stack c.args.area.now _ _ _ _ _ _ remade))

pub returns : goal.returns
returns c =
    let v = c.args.info.now in
    let a = c.args.arrangement.now in
    let remade : IsRemade v a.stack c.args.area.now c.desktop-desktop.result.now c.loop-strip.strips.items c.loop-strip.near c.clear_region.new.into c.or_region.new.into c.args.rest.now = record {
      before = c.desktop-desktop.ensures;
      parted = subst (λ l. IsParted c.args.area.now v.sizes.depth l c.loop-strip.strips.items c.loop-strip.near) (take_all c.loop-strip.strip-index c.desktop-desktop.result.now c.loop-strip-test.false) c.loop-strip.invariant;
      clear = λ x y. (combined_lists.differences c.loop-strip.near c.args.area.now c.clear_region.new.into c.in_ok-clear_region.ensures.list).pixels x y;
      join = λ x y. (combined_lists.unions c.clear_region.new.into c.args.rest.now c.or_region.new.into c.in_ok-or_region.ensures.list).pixels x y;
      left = c.requires.rest;
      inside = c.requires.inside;
      same = c.requires.sizes;
      bare = c.requires.bare;
    } in
    desktop_remade v a.stack c.args.area.now _ _ _ _ _ _ remade c.push_blank.new.strips.items c.rects.ensures.canonical
    (c.in_ok-push_blank.ensures
    ∙ (ap (λ (z : Sizes). c.loop-strip.strips.items ++ map (λ r. strip_of r z.depth None) c.rects.result.now) c.sizes-sizes.ensures.value
    ∙ ap (λ l. c.loop-strip.strips.items ++ map (λ r. strip_of r a.stack.sizes.depth None) l) c.rects.ensures.value))
