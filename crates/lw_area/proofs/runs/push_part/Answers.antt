use Rattle.std.proofs.Common.{◌≡◌, ℤ, ap, sym, ◌∙◌, subst, to_z, of_z, w32, arith, rules, []}
use Rattle.std.proofs.lemmas.Int.{ints}
use Rattle.lw_area.specs.Rows.{GoOn}
use Rattle.lw_area.proofs.Parts.{all_ones, full_word}
use Rattle.lw_area.proofs.runs.push_part.Goals as goal

pub returns-then-word-eq65535 : goal.returns-then-word-eq65535
returns-then-word-eq65535 c =
    let first : to_z w32 (of_z w32 c.args.first) ≡ c.args.first = omega (arith, ints) in
    let last : to_z w32 (of_z w32 c.args.last) ≡ c.args.last = omega (arith, ints) in
    let order = c.requires.order in
    let after = c.push_run.new.runs.items in
    let all : GoOn c.args.word (to_z w32 (of_z w32 c.args.first)) (to_z w32 (of_z w32 c.args.last)) c.args.runs.now.items after =
    all_ones c.args.word _ _ c.args.runs.now.items after (omega (arith, ints)) (λ x. full_word c.args.word x c.if-word-eq65535.true) c.in_ok-push_run.ensures in
    subst (λ w. GoOn c.args.word w c.args.last c.args.runs.now.items after) first
    (subst (λ w. GoOn c.args.word (to_z w32 (of_z w32 c.args.first)) w c.args.runs.now.items after) last all)

pub returns : goal.returns
returns c =
    let first : to_z w32 (of_z w32 c.args.first) ≡ c.args.first = omega (arith, ints) in
    let last : to_z w32 (of_z w32 c.args.last) ≡ c.args.last = omega (arith, ints) in
    let after = c.push_ones.new.runs.items in
    subst (λ w. GoOn c.args.word w c.args.last c.args.runs.now.items after) first
    (subst (λ w. GoOn c.args.word (to_z w32 (of_z w32 c.args.first)) w c.args.runs.now.items after) last c.in_ok-push_ones.ensures)
