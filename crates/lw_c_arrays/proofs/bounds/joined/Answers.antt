use Rattle.std.proofs.Common.{◌≡◌, ℤ, to_z, of_z, w16, ◌∙◌, rules}
use Rattle.lw_c_arrays.proofs.AroundLaws.{joined_is, lesser_is, greater_is}
use Rattle.lw_c_arrays.proofs.bounds.joined.Goals as goal

-- an i16 that is handed on
abbrev handed : ℤ → ℤ
handed z = to_z w16 (of_z w16 z)

pub returns : goal.returns
returns c =
    let a = c.args.a.now in
    let b = c.args.b.now in
    let a0 : handed a.min_x ≡ a.min_x = search rules in
    let a1 : handed a.min_y ≡ a.min_y = search rules in
    let a2 : handed a.max_x ≡ a.max_x = search rules in
    let a3 : handed a.max_y ≡ a.max_y = search rules in
    let b0 : handed b.min_x ≡ b.min_x = search rules in
    let b1 : handed b.min_y ≡ b.min_y = search rules in
    let b2 : handed b.max_x ≡ b.max_x = search rules in
    let b3 : handed b.max_y ≡ b.max_y = search rules in
    let x0 : handed c.min.result ≡ c.min.result = search rules in
    let y0 : handed c.min-2.result ≡ c.min-2.result = search rules in
    let x1 : handed c.max.result ≡ c.max.result = search rules in
    let y1 : handed c.max-2.result ≡ c.max-2.result = search rules in
    joined_is a b _ _ _ _ (x0 ∙ lesser_is _ _ _ _ _ c.min.ensures.value a0 b0) (y0 ∙ lesser_is _ _ _ _ _ c.min-2.ensures.value a1 b1)
    (x1 ∙ greater_is _ _ _ _ _ c.max.ensures.value a2 b2) (y1 ∙ greater_is _ _ _ _ _ c.max-2.ensures.value a3 b3)
