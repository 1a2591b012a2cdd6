use Rattle.std.proofs.Common.{◌≡◌, ◌<◌, ◌==◌, false, length, get_or, ◌∙◌, sym, arith}
use Rattle.std.proofs.lemmas.Bool.Decides.{nat_tests}
use Rattle.lw_engine_trait.proofs.ClassLaws.{pair_apart}
use Rattle.lw_runs.proofs.ListLaws.{front_is, back_is, front_set, back_set}
use Rattle.lw_runs.proofs.PartsLaws.{two_done}
use Rattle.lw_runs.proofs.parts.on_two.Goals as goal

pub returns-then-source-slot : goal.returns-then-source-slot
returns-then-source-slot g c =
    λ x y first second.
    let e = g.E.Engine in
    let a = c.args in
    let all = a.cells.now in
    let cut = c.split_at_mut-front in
    let front = cut.result.0.now in
    let back = cut.result.1.now in
    let two = c.two in
    let low : a.source < length front = omega (arith, cut.ensures.front_len, c.if-source-slot.true) in
    record {
      value = two.new.to;
      set = back_set all front back a.slot two.new.to cut.ensures.value cut.ensures.front_len;
      holds = two_done e.relations (e.sizes a.engine.now) (e.assets a.engine.now) (get_or front a.source c.index-front-source.result) (get_or back 0 c.index-back-0.result) x y two.new.to a.call.now two.result
          (sym c.index-front-source.is ∙ front_is all front back a.source c.index-front-source.result x cut.ensures.value low c.index-front-source.is first)
          (sym c.index-back-0.is ∙ back_is all front back a.slot c.index-back-0.result y cut.ensures.value cut.ensures.front_len c.index-back-0.is second)
          two.ensures.number two.ensures.step;
    }

pub returns-else-source-slot : goal.returns-else-source-slot
returns-else-source-slot g c =
    λ x y first second.
    let e = g.E.Engine in
    let a = c.args in
    let all = a.cells.now in
    let cut = c.split_at_mut-front-else-source-slot in
    let front = cut.result.0.now in
    let back = cut.result.1.now in
    let two = c.two-else-source-slot in
    let apart : (a.source == a.slot) ≡ false = pair_apart a.call.now a.source a.slot c.requires.class in
    let before : a.slot < a.source = grind (arith, nat_tests) in
    let low : a.slot < length front = omega (arith, cut.ensures.front_len, before) in
    record {
      value = two.new.to;
      set = front_set all front back a.slot two.new.to cut.ensures.value low;
      holds = two_done e.relations (e.sizes a.engine.now) (e.assets a.engine.now) (get_or back 0 c.index-back-0-else-source-slot.result) (get_or front a.slot c.index-front-slot.result) x y two.new.to a.call.now two.result
          (sym c.index-back-0-else-source-slot.is ∙ back_is all front back a.source c.index-back-0-else-source-slot.result x cut.ensures.value cut.ensures.front_len c.index-back-0-else-source-slot.is first)
          (sym c.index-front-slot.is ∙ front_is all front back a.slot c.index-front-slot.result y cut.ensures.value low c.index-front-slot.is second)
          two.ensures.number two.ensures.step;
    }
