use Rattle.std.proofs.Common.{◌≡◌, ◌==◌, None, position, sym, ◌∙◌}
use Rattle.lw_words.proofs.CutLines.{whole_cut, some_bytes, cuts_line}
use Rattle.lw_words.proofs.cut.cut_line.Goals as goal

pub returns-in-None : goal.returns-in-None
returns-in-None c =
    let e : position (λ b. b == 10) c.args.bytes.now ≡ None = sym c.place_of.ensures ∙ c.in-None.is in
    whole_cut c.args.bytes.now _ _ (some_bytes c.args.bytes.now _ c.is_empty.ensures c.if-is_empty.false) e c.split_at.ensures.front c.split_at.ensures.back

pub returns-in-Some : goal.returns-in-Some
returns-in-Some c = cuts_line c.args.bytes.now c.in-Some.end (sym c.place_of.ensures ∙ c.in-Some.is)
