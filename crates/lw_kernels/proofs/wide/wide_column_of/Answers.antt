use Rattle.std.proofs.Common.{ℕ, ◌+◌, ◌-◌, ◌*◌, ◌%◌, ◌∙◌, ap, arith}
use Rattle.lw_planes.specs.Row.{bit_of}
use Rattle.lw_kernels.proofs.WideLaws.{first_word, second_word}
use Rattle.lw_kernels.proofs.wide.wide_column_of.Goals as goal

pub returns : goal.returns
returns c =
    let bit : ℕ = c.args.to_bit % 8 in
    let place : ℕ = c.args.source_bit - bit in
    let back : ℕ = c.max-back.result in
    let lead : ℕ = bit + 8 * back in
    let count : ℕ = c.min-count.result in
    let over = c.saturating_sub-over.ensures in
    let source_over = c.saturating_sub.ensures in
    let most = c.max-back.ensures in
    let least = c.min-count.ensures in
    record {
      column = record {
        low = omega arith;
        named = omega (arith, least);
        first = c.masks_of.ensures _ (λ j low. c.word_mask.ensures j low ∙ ap bit_of (first_word lead count j low (omega (arith, least))));
        second = c.masks_of-2.ensures _ (λ j low. c.word_mask-2.ensures j low ∙ ap bit_of (second_word lead count j (omega arith) (omega (arith, least))));
      };
      some = omega (arith, least);
      few = omega (arith, least);
      inside = omega (arith, over, source_over, most);
      source_inside = omega (arith, over, source_over, most);
      begins = omega (arith, over, source_over, most);
      source_begins = omega (arith, over, source_over, most);
    }
