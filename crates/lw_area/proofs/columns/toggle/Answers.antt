use Rattle.std.proofs.Common.{◌≡◌, ℕ, ◌<◌, ◌≤◌, ℤ, length, get_or, to_z, of_z, w32, refl, ap, sym, ◌∙◌, arith, rules}
use Rattle.std.specs.Prelude.{int_lt}
use Rattle.std.specs.List.{prefix_len, insert}
use Rattle.std.proofs.lemmas.Int.{ints}
use Rattle.std.proofs.lemmas.List.{get_or_default}
use Rattle.lw_area.proofs.Toggles.{toggled_removed, toggled_inserted}
use Rattle.lw_area.proofs.columns.toggle.Goals as goal
use Rattle.lw_area.proofs.columns.toggle.Goals.{else-place-len-via-then-place-len+else-index-column, else-place-len-via-else-place-len}

pub returns-then-index-column : goal.returns-then-index-column
returns-then-index-column c =
    let cs = c.args.columns.now.items in
    let e : to_z w32 (of_z w32 c.args.column) ≡ c.args.column = omega (arith, ints) in
    let n : c.place_of-place.result ≡ prefix_len (λ z. int_lt z c.args.column) cs =
    c.place_of-place.ensures.value ∙ (ap (λ w. prefix_len (λ z. int_lt z w) c.as_slice.result.now) e ∙ ap (prefix_len (λ z. int_lt z c.args.column)) c.as_slice.ensures.value) in
    let l : c.place_of-place.result < length cs = search rules in
    let same : c.index.result.now ≡ c.args.column = omega (arith, ints) in
    c.remove.ensures.items ∙ toggled_removed c.args.column cs c.place_of-place.result c.index.result.now n l c.index.ensures same

pub returns : goal.returns
returns c =
    let cs = c.args.columns.now.items in
    let e : to_z w32 (of_z w32 c.args.column) ≡ c.args.column = omega (arith, ints) in
    let n : c.place_of-place.result ≡ prefix_len (λ z. int_lt z c.args.column) cs =
    c.place_of-place.ensures.value ∙ (ap (λ w. prefix_len (λ z. int_lt z w) c.as_slice.result.now) e ∙ ap (prefix_len (λ z. int_lt z c.args.column)) c.as_slice.ensures.value) in
    let other : (x : ℤ) → c.place_of-place.result < length cs → x ≡ get_or cs c.place_of-place.result x → x ≡ c.args.column → ⊥ = λ x l a b.
    elim c.else-place-len.branch [
      | else-place-len-via-then-place-len+else-index-column w ↦
          let r : w.index.result.now ≡ x = w.index.ensures ∙ (get_or_default cs c.place_of-place.result w.index.result.now x l ∙ sym a) in
          absurd (w.if-index-column.false (omega (arith, ints)))
      | else-place-len-via-else-place-len w ↦ let m : length cs ≤ c.place_of-place.result = search rules in omega arith
    ] in
    c.in_ok-insert.ensures.items ∙ (ap (insert cs c.place_of-place.result) e ∙ toggled_inserted c.args.column cs c.place_of-place.result n other)
