use Rattle.std.proofs.Common.{rules, ◌≡◌, ℕ, List, [], ◌∷◌, ◌++◌, ◌∙◌, append_assoc}
use Rattle.std.specs.Fmt.{decimal}
use Rattle.lw_top.specs.Status.{reason_text}
use Rattle.lw_top.proofs.outcome.refusal_line.Goals as goal

-- the format's text is the definition's, which joins its parts the other way round
regrouped : (line word : List ℕ) → 114 ∷ 101 ∷ 102 ∷ 117 ∷ 115 ∷ 101 ∷ 100 ∷ 32 ∷ 108 ∷ 105 ∷ 110 ∷ 101 ∷ 32 ∷ (line ++ (32 ∷ (word ++ 10 ∷ []))) ≡ (114 ∷ 101 ∷ 102 ∷ 117 ∷ 115 ∷ 101 ∷ 100 ∷ 32 ∷ 108 ∷ 105 ∷ 110 ∷ 101 ∷ 32 ∷ (line ++ (32 ∷ word))) ++ 10 ∷ []
regrouped line word = simp append_assoc

pub returns : goal.returns
returns c =
    let text : c.into_bytes.result.items ≡ 114 ∷ 101 ∷ 102 ∷ 117 ∷ 115 ∷ 101 ∷ 100 ∷ 32 ∷ 108 ∷ 105 ∷ 110 ∷ 101 ∷ 32 ∷ (decimal c.args.line ++ (32 ∷ (c.reason_word-word.result.now ++ 10 ∷ []))) = search rules in
    text ∙ rw c.reason_word-word.ensures (regrouped (decimal c.args.line) (reason_text c.args.reason))
