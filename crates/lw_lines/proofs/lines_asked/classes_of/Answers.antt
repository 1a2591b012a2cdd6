use Rattle.std.proofs.Common.{sym, ◌∙◌, arith}
use Rattle.lw_lines.proofs.Classes.{small_more, told_more, told_none, told_late}
use Rattle.lw_lines.proofs.lines_asked.classes_of.Goals as goal

pub returns-in-None : goal.returns-in-None
returns-in-None c =
    let l = c.loop-letter in
    told_none c.args.letters.now l.letter-index l.classes l.least c.loop-letter-test.true (sym c.message_class_of.ensures.value ∙ c.in-None.is) l.invariant.told

pub returns-then-class-least : goal.returns-then-class-least
returns-then-class-least c =
    let l = c.loop-letter in
    told_late c.args.letters.now l.letter-index l.classes l.least c.in-Some.class c.loop-letter-test.true (sym c.message_class_of.ensures.value ∙ c.in-Some.is) c.if-class-least.true l.invariant.told

pub loop-letter-preserved : goal.loop-letter-preserved
loop-letter-preserved c =
    let l = c.loop-letter in
    record {
      told = told_more c.args.letters.now l.letter-index l.classes l.least c.in-Some.class c.loop-letter-test.true (sym c.message_class_of.ensures.value ∙ c.in-Some.is) c.if-class-least.false c.in-Some.ensures.small l.invariant.told;
      small = small_more l.classes l.least c.in-Some.class l.invariant.small c.if-class-least.false c.in-Some.ensures.small;
      few = omega (arith, c.in-Some.ensures.small);
    }
