use Rattle.std.proofs.Common.{Bool, sym, subst}
use Rattle.lw_damage.specs.Damaged.{Damaged, IsDamageWith}
use Rattle.lw_damage.proofs.AddedLaws.{added_alone, begun_with}
use Rattle.lw_damage.proofs.damage.Damage.of_region.Goals as goal
use Rattle.lw_damage.proofs.damage.Damage.of_region.Goals.{then-updating, else-updating}

pub returns : goal.returns
returns c =
    let inner = c.args.inner in
    let due = c.args.due.now in
    let added = added_alone inner due c.new-damage.result c.add.new.self c.new-damage.ensures c.in_ok-add.ensures.pixels c.in_ok-add.ensures.set in
    let P : Damaged → Type 0 = λ d. IsDamageWith inner due c.args.updating d in
    let Q : Bool → Type 0 = λ on. IsDamageWith inner due on c.add.new.self in
    elim c.if-updating.branch [
      | then-updating w ↦ subst P (sym w.damage-is) (begun_with inner due c.args.updating c.add.new.self w.begin.new.self w.if-updating.true w.begin.ensures added)
      | else-updating w ↦ subst P (sym w.damage-is) (subst Q (sym w.if-updating.false) added)
    ]
