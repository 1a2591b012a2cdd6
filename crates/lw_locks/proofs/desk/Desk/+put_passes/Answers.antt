-- Passes made of registers, the last one first.
use Rattle.std.proofs.Common.{◌≡◌, ◌∙◌, length, vec_len}
use Rattle.lw_locks.proofs.Starting.{holding_at_start, regs_front, regs_last, tasks_left, passes_more}
use Rattle.lw_locks.proofs.desk.Desk.+put_passes.Goals as goal

pub put_passes-requires-clause-roles : goal.put_passes-requires-clause-roles
put_passes-requires-clause-roles g t c κs within =
    tasks_left c.len-task.result (vec_len c.pop.new.self) (vec_len c.args.regs.now) c.args.seat.now.roles c.split-own.new.seat.roles c.len-task.ensures c.in-Some.ensures.cases c.split-own.ensures.left c.requires.roles

pub put_passes-requires-clause-regs : goal.put_passes-requires-clause-regs
put_passes-requires-clause-regs g t c κs within =
    regs_front g.E.Engine.relations g.N.Opening.desk c.args.regs.now.items c.pop.new.self.items c.in-Some.mine c.in-Some.ensures.items c.requires.regs

pub invariant_of-holder : goal.invariant_of-holder
invariant_of-holder g t c =
    let place : c.len-task.result ≡ length c.pop.new.self.items = c.len-task.ensures ∙ c.pop.new.self.ok.0 in
    holding_at_start g.E.Engine.relations g.N.Opening.word g.N.Opening.desk c.len-task.result c.split-own.result c.in-Some.mine
    (c.split-own.ensures.words.1 ∙ c.requires.seat_word) (c.split-own.ensures.histories.1 ∙ c.requires.history) c.split-own.ensures.given
    (regs_last g.E.Engine.relations g.N.Opening.desk c.args.regs.now.items c.pop.new.self.items c.in-Some.mine c.in-Some.ensures.items c.requires.regs c.len-task.result place)

pub returns : goal.returns
returns g t c = record {
  passes = passes_more c.args.passes.now.items c.put_passes.new.passes.items c.push.new.self.items c.len-task.result (vec_len c.pop.new.self) (vec_len c.args.regs.now) c.split-own.result.history
      c.len-task.ensures c.in-Some.ensures.cases (c.split-own.ensures.histories.1 ∙ c.requires.history) c.in_ok-put_passes.ensures.passes c.in_ok-push.ensures.items;
}
