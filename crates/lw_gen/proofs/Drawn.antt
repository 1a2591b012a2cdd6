-- One call more is drawn.
use Rattle.std.proofs.Common.{◌≡◌, ℕ, suc, List, [], ◌∷◌, ◌++◌, sym, ap, ◌∙◌}
use Rattle.std.proofs.lemmas.List.{append_assoc}
use Rattle.lw_calls.specs.declared.call.Call.{Call}
use Rattle.lw_gen.specs.Generator.{call_after, calls_from}

-- the calls so far with one more, followed by those that are left, are all
pub drawn : (made new all : List Call) (left fewer first columns word : ℕ) (next : Call × ℕ) → left ≡ suc fewer
    → next ≡ call_after first columns word → new ≡ made ++ next.0 ∷ []
    → made ++ calls_from left first columns word ≡ all → new ++ calls_from fewer first columns next.1 ≡ all
drawn made new all left fewer first columns word next many is grown whole =
    ap (λ l. l ++ calls_from fewer first columns next.1) grown
    ∙ (append_assoc made (next.0 ∷ []) (calls_from fewer first columns next.1)
    ∙ ((λ i. made ++ (is i).0 ∷ calls_from fewer first columns (is i).1) ∙
    (ap (λ n. made ++ calls_from n first columns word) (sym many) ∙ whole)))
