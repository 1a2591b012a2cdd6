-- What the canonical texts of the plans of demos promise.
use Rattle.std.specs.Prelude.{ℕ, ◌≤◌}
use Rattle.lw_grammar.specs.declared.form.Form.TheVariants.{Plain}
use Rattle.lw_grammar.specs.Script.{reading_with, SpellsInput}
use Rattle.lw_canonical.specs.Canonical.{canonical_text, canonical_input}
use Rattle.lw_gen.specs.Demo.{demo_plan}

-- The canonical text of a demo's plan, whatever its number, spells that plan as a script alone.
abbrev pub DemoTextsReadBack : Type 0
DemoTextsReadBack =
    (number tasks : ℕ) → 1 ≤ tasks → tasks ≤ 16
    → SpellsInput (reading_with 0 Plain) (canonical_text (demo_plan number tasks)) (canonical_input (demo_plan number tasks))
