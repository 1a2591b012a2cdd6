use Rattle.std.proofs.Common.{◌≡◌, IfOk, subst}
use Rattle.lw_planes.specs.Bitmap.{Bitmap}
use Rattle.lw_top.specs.Demo.{demo_lines, demo_text}
use Rattle.lw_top.proofs.DemoScreens.{screen_in_turn}
use Rattle.lw_top.proofs.demo.text_of_demo.Goals as goal

pub returns : goal.returns
unfolding demo_text
returns g c =
    let shown = screen_in_turn _ c.args.number c.args.tasks c.in_ok-plan.plan c.new.result.items c.in_ok-run.run'.order c.in_ok-run.run'.last c.requires.some c.requires.few c.in_ok-plan.ensures c.new.ensures.items c.in_ok-run.ensures.legal c.in_ok-run.ensures.last in
    subst (λ (screen : Bitmap). IfOk c.lines_of.result (λ text. text.items ≡ demo_lines c.args.number c.args.tasks screen)) shown c.lines_of.ensures
