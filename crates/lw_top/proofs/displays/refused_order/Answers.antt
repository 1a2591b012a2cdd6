use Rattle.std.proofs.Common.{rules, ◌≡◌, ℕ, List, [], ◌∷◌, ◌++◌, codes, refl, sym, ap, ◌∙◌, append_assoc}
use Rattle.std.specs.Fmt.{decimal}
use Rattle.lw_top.proofs.displays.refused_order.Goals as goal

-- the format's text is the definition's, which joins its parts the other way round
regrouped : (line : List ℕ) → line ++ (32 ∷ 98 ∷ 97 ∷ 100 ∷ 45 ∷ 111 ∷ 114 ∷ 100 ∷ 101 ∷ 114 ∷ 10 ∷ []) ≡ (line ++ codes " bad-order") ++ 10 ∷ []
regrouped line = sym (append_assoc line (codes " bad-order") (10 ∷ []))

pub returns : goal.returns
returns c =
    let text : c.into_bytes-text.result.items ≡ 114 ∷ 101 ∷ 102 ∷ 117 ∷ 115 ∷ 101 ∷ 100 ∷ 32 ∷ 108 ∷ 105 ∷ 110 ∷ 101 ∷ 32 ∷ (decimal c.args.line ++ (32 ∷ 98 ∷ 97 ∷ 100 ∷ 45 ∷ 111 ∷ 114 ∷ 100 ∷ 101 ∷ 114 ∷ 10 ∷ [])) = search rules in
    (refl, text ∙ ap (λ rest. codes "refused line " ++ rest) (regrouped (decimal c.args.line)))
