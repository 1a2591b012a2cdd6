-- A line that was read has passed its tests.
use Rattle.std.proofs.Common.{◌≡◌, ℕ, List, Result, Ok, Err, refl, subst}
use Rattle.lw_grammar.specs.declared.reason.Reason.{Reason}
use Rattle.lw_grammar.specs.Demands.{◌>>=◌}
use Rattle.lw_grammar.specs.Script.{words_read}
use Rattle.lw_display.specs.Shows.{ShowInput}
use Rattle.lw_display.specs.ShowLines.{ShowLine}
use Rattle.lw_display.specs.ShowRule.{ShowTold, show_words_read, show_line_tested, show_line_of_words, show_line_read}
use Rattle.lw_display.specs.ShowMeaning.{if_tested, Passes}

tested : (v : ShowInput) (l m : ShowLine) → if_tested v l ≡ Ok m → Passes v m
tested v l m e = go (show_line_tested v l) refl e
  where
    go : (t : Result (Unit {0}) Reason) → show_line_tested v l ≡ t → (t >>= (λ _. Ok l)) ≡ Ok m → Passes v m
    go (Ok u) d f =
        let both : Ok l ≡ Ok m = f in
        let same : l ≡ m = cc in
        subst (λ (k : ShowLine). Passes v k) same d
    go (Err r) d f = absurd (cc)

of_words : (t : ShowTold) (ws : List (List ℕ)) (m : ShowLine) → show_line_of_words t ws ≡ Ok m → Passes t.show m
of_words t ws m e = go (show_words_read t.part ws) e
  where
    go : (r : Result ShowLine Reason) → (r >>= if_tested t.show) ≡ Ok m → Passes t.show m
    go (Ok l) f = tested t.show l m f
    go (Err r) f = absurd (cc)

pub line_passes : (t : ShowTold) (bytes : List ℕ) (m : ShowLine) → show_line_read t bytes ≡ Ok m → Passes t.show m
line_passes t bytes m e = go (words_read bytes) e
  where
    go : (r : Result (List (List ℕ)) Reason) → (r >>= show_line_of_words t) ≡ Ok m → Passes t.show m
    go (Ok ws) f = of_words t ws m f
    go (Err r) f = absurd (cc)
