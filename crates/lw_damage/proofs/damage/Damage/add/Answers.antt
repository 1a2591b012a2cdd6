use Rattle.std.proofs.Common.{◌≡◌, ◌&&◌, ◌||◌, Option, ℤ, sym, subst, ap}
use Rattle.lw_region.specs.Rectangle.{Rectangle}
use Rattle.lw_region.specs.Bands.{covers}
use Rattle.lw_damage.specs.Damaged.{Damaged, may_lie, with_more}
use Rattle.lw_damage.proofs.AddedLaws.{IsAdded, added, added_inside}
use Rattle.lw_damage.proofs.damage.Damage.add.Goals as goal

made : (c : goal.After-drop-inside-inside-in-Some) → IsAdded c.self.inside.inner c.self.inside.region c.args.more.now c.or_region.new.into
made c =
    let P : Option Rectangle → Type 0 = λ inner. IsAdded inner c.self.inside.region c.args.more.now c.or_region.new.into in
    subst P (sym c.in-Some.is)
    (added c.in-Some.inner c.self.inside.region c.args.more.now c.in_ok-inside.inside c.or_region.new.into (rw (c.rects.ensures.value, c.as_list.ensures.value) at c.in_ok-inside.ensures) c.in_ok-or_region.ensures.list)

pub returns-in_ok-or_region-clause-pixels : goal.returns-in_ok-or_region-clause-pixels
returns-in_ok-or_region-clause-pixels c =
    let P : Damaged → Type 0 = λ d. (x y : ℤ) → covers c.or_region.new.into x y ≡ (covers d.rects x y || (covers c.args.more.now x y && may_lie d.inner x y)) in
    subst P c.self.view_is (made c).pixels

pub invariant_of-self-in-Some : goal.invariant_of-self-in-Some
invariant_of-self-in-Some c = added_inside c.self.inside.inner c.self.inside.region c.args.more.now c.or_region.new.into (made c) c.self.invariant

pub returns-in_ok-or_region-clause-set : goal.returns-in_ok-or_region-clause-set
returns-in_ok-or_region-clause-set c =
    let P : Damaged → Type 0 = λ d. record { inner = c.self.inside.inner; rects = c.or_region.new.into; updating = c.self.inside.updating } ≡ record d { rects = with_more d.inner d.rects c.args.more.now } in
    subst P c.self.view_is (ap (λ rects. record { inner = c.self.inside.inner; rects = rects; updating = c.self.inside.updating }) (made c).list)
