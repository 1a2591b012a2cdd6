-- The generator of a demo's calls. A task draws its calls by a word of its own: each pick makes a new word of it, and answers by
-- that one (this project's own).
use Rattle.std.specs.Prelude.{ℕ, zero, suc, ◌+◌, ◌*◌, ◌/◌, ◌%◌, ◌==◌, if◌then◌else◌, List, [], ◌∷◌, pos}
use Rattle.lw_calls.specs.declared.call.Call.{Call}
use Rattle.lw_calls.specs.declared.call.Call.TheVariants.{ToFront, SetA, ReadPixel, Fill}

-- a word is below 2 ^ 31
abbrev pub words : ℕ
words = 2147483648

-- the word that a pick makes of x
unfoldable pub stirred : ℕ → ℕ
stirred x = (x * 1103515245 + 12345) % words

-- what a pick of a number below n answers, by the word that it made
unfoldable pub picked : ℕ → ℕ → ℕ
picked n x = (x / 65536) % n

-- a fill whose box has its left upper corner at column x and row y, and goes on by so many columns and rows
abbrev pub fill_from : ℕ → ℕ → ℕ → ℕ → ℕ → Call
fill_from slot x y columns rows =
    Fill slot (record { min_x = pos x; min_y = pos y; max_x = pos (x + columns); max_y = pos (y + rows) })

-- A call, and the word after its picks, which go from left to right. The slot is that of a layer in a band of so many columns.
abbrev pub fill_after : ℕ → ℕ → ℕ → Call × ℕ
fill_after slot columns x =
    let left = stirred x in
    let upper = stirred left in
    let more_columns = stirred upper in
    let more_rows = stirred more_columns in
    (fill_from slot (picked columns left) (picked 192 upper) (picked 16 more_columns) (picked 16 more_rows), more_rows)

abbrev pub pen_after : ℕ → ℕ → Call × ℕ
pen_after slot x = let pen = stirred x in (SetA slot (picked 4 pen), pen)

abbrev pub read_after : ℕ → ℕ → ℕ → Call × ℕ
read_after slot columns x =
    let column = stirred x in
    let row = stirred column in
    (ReadPixel slot (pos (picked columns column)) (pos (picked 192 row)), row)

-- the call of a choice: a fill, pen A, the layer brought to the front, or a look at a pen
abbrev pub chosen_after : ℕ → ℕ → ℕ → ℕ → Call × ℕ
chosen_after choice slot columns x =
    if choice == 0 then fill_after slot columns x
    else (if choice == 1 then pen_after slot x else (if choice == 2 then (ToFront slot, x) else read_after slot columns x))

-- The call that the word x gives, and the next word: first one of three layers is picked, whose slots are first, first + 1 and
-- first + 2, and then one of four choices.
abbrev pub call_after : ℕ → ℕ → ℕ → Call × ℕ
call_after first columns x =
    let layer = stirred x in
    let choice = stirred layer in
    chosen_after (picked 4 choice) (first + picked 3 layer) columns choice

-- so many calls from the word x on
abbrev pub calls_from : ℕ → ℕ → ℕ → ℕ → List Call
calls_from zero first columns x = []
calls_from (suc count) first columns x =
    let next = call_after first columns x in next.0 ∷ calls_from count first columns next.1
