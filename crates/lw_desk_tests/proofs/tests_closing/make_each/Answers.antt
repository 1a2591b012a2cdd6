use Rattle.std.proofs.Common.{◌∙◌}
use Rattle.lw_desk_tests.proofs.Passes.{two_again}
use Rattle.lw_desk_tests.proofs.tests_closing.make_each.Goals as goal

pub returns : goal.returns
returns g c =
    two_again c.args.passes.items c.pop.new.self.items c.pop-2.new.self.items c.push.new.self.items c.push-2.new.self.items c.in-Some-pop.front c.in-Some.last c.make_all.new.pass c.make_all-2.new.pass
    c.in-Some.ensures.items c.in-Some-pop.ensures.items c.in_ok-push.ensures.items c.in_ok-push-2.ensures.items c.make_all.ensures c.make_all-2.ensures
    ∙ c.requires.two
