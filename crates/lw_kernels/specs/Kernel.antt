-- What kernels do to the bits of rows, counted from the left of each.
use Rattle.std.specs.Prelude.{ℕ, ◌+◌, ◌-◌, ◌*◌, Bool, nat_le, nat_lt, ◌&&◌, if◌then◌else◌, List, map, length, slice_index}
use Rattle.std.specs.List.{range_with_len}
use Rattle.lw_planes.specs.Minterm.{minterm_bit}

-- bit x is one of those from `from` on, before `end`
abbrev pub is_between : ℕ → ℕ → ℕ → Bool
is_between from end x = nat_le from x && nat_lt x end

-- bit x is one of `count` bits from `from` on
abbrev pub is_named : ℕ → ℕ → ℕ → Bool
is_named from count x = is_between from (from + count) x

-- where bit x of row y stands, among the bits of rows of `step` bytes
abbrev pub place_in : ℕ → ℕ → ℕ → ℕ
place_in step y x = 8 * (y * step) + x

-- a list of bits once the `count` of them from `from` on have become `new x`, each at its place x
unfoldable pub with_named : List ℕ → ℕ → ℕ → (ℕ → ℕ) → List ℕ
with_named bits from count new =
    map (λ x. if is_named from count x then new x else slice_index bits x) (range_with_len 0 (length bits))

-- What a blit makes of bit x, where the old row has the bits `old` and the source row the bits `source`: the minterm's
-- value for the old bit and for the source bit that stands as far from `source_bit` as x does from `to_bit`.
abbrev pub blit_bit : ℕ → (ℕ → ℕ) → ℕ → (ℕ → ℕ) → ℕ → ℕ → ℕ
blit_bit minterm source source_bit old to_bit x = minterm_bit minterm (source (source_bit + (x - to_bit))) (old x)
