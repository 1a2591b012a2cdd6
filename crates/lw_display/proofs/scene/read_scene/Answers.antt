use Rattle.std.proofs.Common.{◌≡◌, false, [], ◌∷◌, ◌++◌, length, codes, bytes_eq, sym, ap, subst, ◌∙◌, arith}
use Rattle.lw_grammar.specs.Lines.{lines}
use Rattle.lw_display.specs.ShowRule.{bytes_of, shown_by}
use Rattle.lw_display.specs.ShowMeaning.{begun, in_scene}
use Rattle.lw_display.proofs.ScriptLines.{AreLines, lines_of_bytes, are_lines, lines_push, bytes_push, bytes_long, count_push, line_short}
use Rattle.lw_display.proofs.SceneSteps.{script_line}
use Rattle.lw_display.proofs.scene.read_scene.Goals as goal

pub end_script-ends-requires-clause-lines : goal.end_script-ends-requires-clause-lines
end_script-ends-requires-clause-lines c =
    let i = c.loop-line.invariant in
    let same : lines c.as_slice.result.now ≡ i.read = ap lines (c.as_slice.ensures.value ∙ i.script) ∙ lines_of_bytes i.read i.whole in
    let many : length (lines c.as_slice.result.now) ≡ length i.read = ap length same in
    let number = i.number in
    let count = i.count in
    let room = c.requires.lines in
    let left = c.in-Some.ensures.shorter in
    omega (arith, many, number, count, room, left)

pub loop-line-preserved : goal.loop-line-preserved
loop-line-preserved c =
    let i = c.loop-line.invariant in
    let line = c.in-Some.line.now in
    let behind = c.in-Some.behind.now in
    let cut = c.in-Some.ensures in
    let there : AreLines (line ∷ lines behind) = subst AreLines cut.lines (are_lines c.loop-line.rest.now) in
    let other : bytes_eq line (codes "endscene") ≡ false = sym c.is_text.ensures ∙ c.if-is_text.false in
    let long = bytes_long i.read line in
    let more = count_push i.read line in
    let short = line_short c.loop-line.rest.now line (lines behind) cut.lines in
    let left = cut.left in
    let shorter = cut.shorter in
    let number = i.number in
    let count = i.count in
    let fed = i.fed (omega (arith, shorter)) in
    let before = i.short in
    record {
      read = i.read ++ line ∷ [];
      whole = lines_push i.read line i.whole there.0;
      left = λ name top v. i.left name top v ∙ ap (shown_by c.loop-line.number (in_scene (begun name top c.args.above i.read) v)) cut.lines ∙ script_line name top c.args.above c.loop-line.number i.read v line (lines behind) other;
      script = c.in_ok-push.ensures.items ∙ ap (λ x. x ++ 10 ∷ []) (c.in_ok-extend_from_slice.ensures.items ∙ ap (λ x. x ++ line) i.script) ∙ sym (bytes_push i.read line);
      number = omega (arith, number, more);
      count = omega (arith, count, shorter);
      room = omega (arith, fed, long, short);
      fed = λ some. omega (arith, fed, long, left, some);
      short = omega (arith, before, shorter);
    }

pub unended-requires-clause-short : goal.unended-requires-clause-short
unended-requires-clause-short c =
    let i = c.loop-line.invariant in
    let long : length c.as_slice-2.result.now ≡ length (bytes_of i.read) = ap length (c.as_slice-2.ensures.value ∙ i.script) in
    let room = i.room in
    let short = c.requires.short in
    omega (arith, long, room, short)

pub unended-requires-clause-lines : goal.unended-requires-clause-lines
unended-requires-clause-lines c =
    let i = c.loop-line.invariant in
    let same : lines c.as_slice-2.result.now ≡ i.read = ap lines (c.as_slice-2.ensures.value ∙ i.script) ∙ lines_of_bytes i.read i.whole in
    let many : length (lines c.as_slice-2.result.now) ≡ length i.read = ap length same in
    let number = i.number in
    let count = i.count in
    let room = c.requires.lines in
    omega (arith, many, number, count, room)
