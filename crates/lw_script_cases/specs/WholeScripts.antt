-- Worked cases.
-- Scripts of the whole grammar, good ones and bad ones.
use Rattle.std.specs.Prelude.{ℕ, ◌==◌, if◌then◌else◌, List, [], ◌∷◌, ◌++◌, map, replicate, codes}
use Rattle.std.specs.List.{flat_map, range_with_len}
use Rattle.std.specs.Fmt.{decimal}
use Rattle.lw_grammar.specs.declared.form.Form.TheVariants.{Plain, Ordered, Audited}
use Rattle.lw_grammar.specs.Script.{Setting, ScriptInput, SpellsInput}
use Rattle.lw_cases.specs.Drawing.{first_fill}

-- the byte that a character of a script stands for: / for a line feed, and ' for a double quote
abbrev pub byte_for : ℕ → ℕ
byte_for c = if c == 47 then 10 else (if c == 39 then 34 else c)

-- the bytes of a script that is written so
abbrev pub script : List ℕ → List ℕ
script text = map byte_for text

-- how a script is read: alone, with an order or with a report, where so many hooks are handed in
abbrev pub alone : ℕ → Setting
alone hooks = record { hooks = hooks; form = Plain }

abbrev pub with_order : ℕ → Setting
with_order hooks = record { hooks = hooks; form = Ordered }

abbrev pub with_report : ℕ → Setting
with_report hooks = record { hooks = hooks; form = Audited }

-- no line of these bytes is bad, so they spell an input
abbrev pub IsSpelled : Setting → List ℕ → Type 0
IsSpelled s bytes = (input : ScriptInput) × SpellsInput s bytes input

-- a first line, the beginning of a task, and a creation in it
abbrev pub screened : List ℕ
screened = script (codes "screen 16 4 1/")

abbrev pub in_task_a : List ℕ
in_task_a = screened ++ script (codes "task a/")

abbrev pub created : List ℕ
created = in_task_a ++ script (codes "create w smart front 0 0 7 3/")

-- the same in version 2
abbrev pub of_version_2 : List ℕ → List ℕ
of_version_2 bytes = script (codes "layers 2/") ++ bytes

abbrev pub in_version_2 : List ℕ
in_version_2 = of_version_2 in_task_a

-- 64 layers of 64 names, 16 layers with bitmaps of their own, 16 bitmaps, and 16 tasks
abbrev pub sixty_four_layers : List ℕ
sixty_four_layers =
    flat_map (λ i. script (codes "create n") ++ decimal i ++ script (codes " smart front 0 0 7 3/")) (range_with_len 0 64)

abbrev pub sixteen_supers : List ℕ
sixteen_supers =
    flat_map (λ i. script (codes "create s") ++ decimal i ++ script (codes " super front 0 0 7 3 8 4/")) (range_with_len 0 16)

abbrev pub sixteen_bitmaps : List ℕ
sixteen_bitmaps = flat_map (λ i. script (codes "bitmap b") ++ decimal i ++ script (codes " 1 1 1/0000/")) (range_with_len 0 16)

abbrev pub sixteen_tasks : List ℕ
sixteen_tasks = flat_map (λ i. script (codes "task t") ++ decimal i ++ script (codes "/end/")) (range_with_len 0 16)

-- the script of the first fill, and what it gives: its plan, no order, and the number of its bytes
abbrev pub first_fill_script : List ℕ
first_fill_script = created ++ script (codes "fill w 1 1 2 2/end/")

abbrev pub first_fill_input : ScriptInput
first_fill_input = record { plan = first_fill; order = []; rest = 69 }

abbrev pub line_feed : List ℕ
line_feed = script (codes "/")

abbrev pub empty : List ℕ
empty = []

abbrev pub carriage_return : List ℕ
carriage_return = (13 ∷ 10 ∷ [])

abbrev pub one_space : List ℕ
one_space = script (codes " ")

abbrev pub long_comment : List ℕ
long_comment = script (codes "#") ++ replicate 600 1 ++ script (codes "/screen 16 4 1/task a/end")

abbrev pub all_parts : List ℕ
all_parts =
    script (codes "# first fill/screen 16 4 1//glyph 41 183c66667e666600/bitmap dot 8 2 1/ff00/8100/task a/")
    ++ script (codes "create w smart front 0 0 7 3/lock w/fill w 1 1 2 2/unlock w/end/")

abbrev pub comment_in_task : List ℕ
comment_in_task = in_task_a ++ script (codes "# note/")

abbrev pub line_of_512 : List ℕ
line_of_512 = in_task_a ++ replicate 512 97

abbrev pub line_of_513 : List ℕ
line_of_513 = in_task_a ++ replicate 513 97

abbrev pub second_task : List ℕ
second_task = in_task_a ++ script (codes "end/task 9a")

abbrev pub second_task_apart : List ℕ
second_task_apart = in_task_a ++ script (codes "end/task  b")

abbrev pub word_after_end : List ℕ
word_after_end = in_task_a ++ script (codes "end/tasks b")

abbrev pub task_in_task : List ℕ
task_in_task = in_task_a ++ script (codes "task b")

abbrev pub text_with_spaces : List ℕ
text_with_spaces = created ++ script (codes "text w 'a  b")

abbrev pub text_then_space : List ℕ
text_then_space = created ++ script (codes "text w 'a' ")

abbrev pub text_then_word : List ℕ
text_then_word = created ++ script (codes "text w 'a'  b")

abbrev pub space_before_text : List ℕ
space_before_text = created ++ script (codes " text w 'a")

abbrev pub spaces_before_quote : List ℕ
spaces_before_quote = created ++ script (codes "text  w a'b")

abbrev pub quote_in_word : List ℕ
quote_in_word = created ++ script (codes "text w a'b  c")

abbrev pub quote_alone : List ℕ
quote_alone = created ++ script (codes "text w '")

abbrev pub two_spaces : List ℕ
two_spaces = created ++ script (codes "fill w 0  0 1 1")

abbrev pub space_at_end : List ℕ
space_at_end = created ++ script (codes "text w a ")

abbrev pub text_as_verb : List ℕ
text_as_verb = created ++ script (codes "'text w'")

abbrev pub empty_text : List ℕ
empty_text = created ++ script (codes "text w ''/end")

abbrev pub text_as_row : List ℕ
text_as_row = screened ++ script (codes "bitmap b 16 1 1/'0000'")

abbrev pub row : List ℕ
row = screened ++ script (codes "bitmap b 16 1 1/0000/task a/end")

abbrev pub row_too_short : List ℕ
row_too_short = screened ++ script (codes "bitmap b 17 1 1/0000/")

abbrev pub row_of_32 : List ℕ
row_of_32 = screened ++ script (codes "bitmap b 17 1 1/00008000/task a/end")

abbrev pub padding_bit : List ℕ
padding_bit = screened ++ script (codes "bitmap b 17 1 1/00004000/task a/end")

abbrev pub rows_apart : List ℕ
rows_apart = screened ++ script (codes "bitmap b 16 2 2/0000/# c//0000/0000/task a")

abbrev pub rows_missing : List ℕ
rows_missing = screened ++ script (codes "bitmap b 16 2 1/0000/")

abbrev pub row_in_capitals : List ℕ
row_in_capitals = screened ++ script (codes "bitmap b 16 1 1/000A/")

abbrev pub bitmap_again : List ℕ
bitmap_again = screened ++ script (codes "bitmap b 16 1 1/0000/bitmap b 1 1 1/")

abbrev pub bitmap_of_9_planes : List ℕ
bitmap_of_9_planes = screened ++ script (codes "bitmap b 16 1 9/")

abbrev pub bitmap_without_columns : List ℕ
bitmap_without_columns = screened ++ script (codes "bitmap b 0 1 1/")

abbrev pub glyph_in_capitals : List ℕ
glyph_in_capitals = screened ++ script (codes "glyph 7F 0000000000000000/")

abbrev pub glyph_of_7f : List ℕ
glyph_of_7f = screened ++ script (codes "glyph 7f 0000000000000000/")

abbrev pub glyph_again : List ℕ
glyph_again = screened ++ script (codes "glyph 41 0000000000000000/glyph 41 0000000000000001/")

abbrev pub glyph_too_short : List ℕ
glyph_too_short = screened ++ script (codes "glyph 41 000000000000000/")

abbrev pub order_in_plain : List ℕ
order_in_plain = in_task_a ++ script (codes "end/order/0")

abbrev pub order_before_task : List ℕ
order_before_task = screened ++ script (codes "order/")

abbrev pub order_in_task : List ℕ
order_in_task = in_task_a ++ script (codes "order/")

abbrev pub order_again : List ℕ
order_again = in_task_a ++ script (codes "end/order/order")

abbrev pub order_missing : List ℕ
order_missing = in_task_a ++ script (codes "end/")

abbrev pub numbers_64 : List ℕ
numbers_64 = in_task_a ++ script (codes "end/order/0 0 0 0 0 0 0 0 0 0 0 0 0 0 0 0 0 0 0 0 0 0 0 0 0 0 0 0 0 0 0 0 0 0 0 0 0 0 0 0 0 0 0 0 0 0 0 0 0 0 0 0 0 0 0 0 0 0 0 0 0 0 0 0")

abbrev pub numbers_65 : List ℕ
numbers_65 = in_task_a ++ script (codes "end/order/0 0 0 0 0 0 0 0 0 0 0 0 0 0 0 0 0 0 0 0 0 0 0 0 0 0 0 0 0 0 0 0 0 0 0 0 0 0 0 0 0 0 0 0 0 0 0 0 0 0 0 0 0 0 0 0 0 0 0 0 0 0 0 0 0")

abbrev pub number_16 : List ℕ
number_16 = in_task_a ++ script (codes "end/order/0 16")

abbrev pub number_below_0 : List ℕ
number_below_0 = in_task_a ++ script (codes "end/order/0 -1")

abbrev pub no_numbers : List ℕ
no_numbers = in_task_a ++ script (codes "end/order/")

abbrev pub order_in_audited : List ℕ
order_in_audited = in_task_a ++ script (codes "end/order/0")

abbrev pub report : List ℕ
report = in_task_a
    ++ (101 ∷ 110 ∷ 100 ∷ 10 ∷ 114 ∷ 101 ∷ 112 ∷ 111 ∷ 114 ∷ 116 ∷ 10 ∷ 97 ∷ 110 ∷ 121 ∷ 32 ∷ 32 ∷ 116 ∷ 104 ∷ 105 ∷ 110 ∷ 103
    ∷ 32 ∷ 1 ∷ 10 ∷ []) ++ replicate 600 122

abbrev pub report_missing : List ℕ
report_missing = in_task_a ++ script (codes "end/")

abbrev pub report_in_task : List ℕ
report_in_task = in_task_a ++ script (codes "report/")

abbrev pub unlock_between : List ℕ
unlock_between = in_task_a ++ script (codes "end/unlock w")

abbrev pub endrefresh_between : List ℕ
endrefresh_between = in_task_a ++ script (codes "end/endrefresh w full")

abbrev pub form_before_range : List ℕ
form_before_range = created ++ script (codes "fill w 0 0 40000 x")

abbrev pub number_too_large : List ℕ
number_too_large = created ++ script (codes "fill w 0 0 40000 0")

abbrev pub number_of_101_digits : List ℕ
number_of_101_digits = created ++ script (codes "fill w 0 0 4") ++ replicate 100 48 ++ script (codes " 0")

abbrev pub maximum_below_minimum : List ℕ
maximum_below_minimum = created ++ script (codes "fill w 5 0 4 0")

abbrev pub leading_zero : List ℕ
leading_zero = created ++ script (codes "fill w 05 0 9 0")

abbrev pub minus_zero : List ℕ
minus_zero = created ++ script (codes "fill w -0 0 9 0")

abbrev pub negative_number : List ℕ
negative_number = created ++ script (codes "fill w -5 0 9 0/end")

abbrev pub hook_above_32_bits : List ℕ
hook_above_32_bits = in_task_a ++ script (codes "create w smart front 0 0 7 3 hook 4294967296")

abbrev pub hook_below_0 : List ℕ
hook_below_0 = in_task_a ++ script (codes "create w smart front 0 0 7 3 hook -1")

abbrev pub hook_0_of_none : List ℕ
hook_0_of_none = in_task_a ++ script (codes "create w smart front 0 0 7 3 hook 0/end/")

abbrev pub simple_layer : List ℕ
simple_layer = in_task_a ++ script (codes "create w simple front 0 0 7 3/end/")

abbrev pub hook_2_of_2 : List ℕ
hook_2_of_2 = in_task_a ++ script (codes "create w smart front 0 0 7 3 hook 2")

abbrev pub hook_1_of_2 : List ℕ
hook_1_of_2 = in_task_a ++ script (codes "create w smart front 0 0 7 3 hook 1/end/")

abbrev pub hook_of_super : List ℕ
hook_of_super = in_task_a ++ script (codes "create w super front 0 0 7 3 8 4 hook 1")

abbrev pub super_backdrop : List ℕ
super_backdrop = in_task_a ++ script (codes "create w super front 0 0 7 3 8 4 backdrop/end")

abbrev pub super_of_2049 : List ℕ
super_of_2049 = in_task_a ++ script (codes "create w super front 0 0 7 3 2049 4")

abbrev pub hook_before_backdrop : List ℕ
hook_before_backdrop = in_task_a ++ script (codes "create w smart front 0 0 7 3 hook 1 backdrop")

abbrev pub open_with_all : List ℕ
open_with_all = in_task_a ++ script (codes "open w smart front 0 0 20 20 backdrop borderless nocare hook 1 ask rnc 't'/end/")

abbrev pub open_out_of_order : List ℕ
open_out_of_order = in_task_a ++ script (codes "open w smart front 0 0 20 20 nocare borderless 't'")

abbrev pub set_out_of_order : List ℕ
set_out_of_order = in_task_a ++ script (codes "open w smart front 0 0 20 20 ask nr 't'")

abbrev pub set_with_one_twice : List ℕ
set_with_one_twice = in_task_a ++ script (codes "open w smart front 0 0 20 20 ask rr 't'")

abbrev pub super_borderless : List ℕ
super_borderless = in_task_a ++ script (codes "open w super front 0 0 20 20 8 8 borderless 't'")

abbrev pub super_with_set : List ℕ
super_with_set = in_task_a ++ script (codes "open w super front 0 0 20 20 8 8 backdrop ask i 't'/end/")

abbrev pub open_of_no_columns : List ℕ
open_of_no_columns = in_task_a ++ script (codes "open w smart front 0 0 0 20 't'")

abbrev pub bitmap_unknown : List ℕ
bitmap_unknown = created ++ script (codes "put b 0 0 w 0 0 4 4 c0")

abbrev pub minterm_c1 : List ℕ
minterm_c1 = created ++ script (codes "put b 0 0 w 0 0 4 4 c1")

abbrev pub minterm_in_capitals : List ℕ
minterm_in_capitals = created ++ script (codes "put b 0 0 w 0 0 4 4 C0")

abbrev pub put_of_a_bitmap : List ℕ
put_of_a_bitmap = screened ++ script (codes "bitmap b 16 1 1/0000/task a/put b 0 0 w 0 0 4 4 c0/end")

abbrev pub put_of_no_columns : List ℕ
put_of_no_columns = screened ++ script (codes "bitmap b 16 1 1/0000/task a/put b 0 0 w 0 0 0 4 c0")

abbrev pub lock_of_nothing : List ℕ
lock_of_nothing = created ++ script (codes "lock w/unlock w")

abbrev pub lock_of_a_fill : List ℕ
lock_of_a_fill = created ++ script (codes "lock w/fill w 0 0 1 1/unlock w/end")

abbrev pub lock_of_another : List ℕ
lock_of_another = created ++ script (codes "lock w/fill v 0 0 1 1/unlock w/end")

abbrev pub lock_in_lock : List ℕ
lock_in_lock = created ++ script (codes "lock w/lock w/")

abbrev pub hold_in_lock : List ℕ
hold_in_lock = created ++ script (codes "lock w/hold/")

abbrev pub end_in_lock : List ℕ
end_in_lock = created ++ script (codes "lock w/fill w 0 0 1 1/end")

abbrev pub end_with_a_word : List ℕ
end_with_a_word = created ++ script (codes "lock w/fill w 0 0 1 1/end x")

abbrev pub unlock_of_another : List ℕ
unlock_of_another = created ++ script (codes "lock w/fill w 0 0 1 1/unlock v/end")

abbrev pub unlock_alone : List ℕ
unlock_alone = created ++ script (codes "unlock w/end")

abbrev pub which_in_lock : List ℕ
which_in_lock = created ++ script (codes "lock w/which 0 0")

abbrev pub region_in_lock : List ℕ
region_in_lock = created ++ script (codes "lock w/orrect 0 0 0 1 1")

abbrev pub blit_in_lock : List ℕ
blit_in_lock = created ++ script (codes "lock w/blit w 0 0 w 0 0 1 1 c0/unlock w/end")

abbrev pub blit_of_two_in_lock : List ℕ
blit_of_two_in_lock = created ++ script (codes "lock w/blit w 0 0 v 0 0 1 1 c0")

abbrev pub refresh_in_lock : List ℕ
refresh_in_lock = created ++ script (codes "lock w/refresh w")

abbrev pub endrefresh_in_lock : List ℕ
endrefresh_in_lock = created ++ script (codes "lock w/endrefresh w full")

abbrev pub endrefresh_alone : List ℕ
endrefresh_alone = created ++ script (codes "endrefresh w full")

abbrev pub endrefresh_fully : List ℕ
endrefresh_fully = created ++ script (codes "endrefresh w fully")

abbrev pub update_of_a_fill : List ℕ
update_of_a_fill = created ++ script (codes "refresh w/fill w 0 0 1 1/blit w 0 0 w 1 0 1 1 c0/endrefresh w part/end")

abbrev pub update_of_nothing : List ℕ
update_of_nothing = created ++ script (codes "refresh w/endrefresh w full/end")

abbrev pub update_in_update : List ℕ
update_in_update = created ++ script (codes "refresh w/refresh w/")

abbrev pub update_without_end : List ℕ
update_without_end = created ++ script (codes "refresh w/fill w 0 0 1 1/end")

abbrev pub create_in_lock : List ℕ
create_in_lock = created ++ script (codes "lock w/create w smart front 0 0 1 1")

abbrev pub hold_of_a_create : List ℕ
hold_of_a_create = created ++ script (codes "hold/create v smart front 0 0 1 1/release/end")

abbrev pub hold_of_nothing : List ℕ
hold_of_nothing = created ++ script (codes "hold/release/end")

abbrev pub fill_in_hold : List ℕ
fill_in_hold = created ++ script (codes "hold/fill w 0 0 1 1")

abbrev pub which_in_hold : List ℕ
which_in_hold = created ++ script (codes "hold/which 0 0")

abbrev pub move_in_hold : List ℕ
move_in_hold = created ++ script (codes "hold/move w 1 1/release/end")

abbrev pub release_alone : List ℕ
release_alone = created ++ script (codes "release")

abbrev pub layer_named_front : List ℕ
layer_named_front = in_task_a ++ script (codes "create front smart front 0 0 7 3/fill front 0 0 1 1/end")

abbrev pub creations : List ℕ
creations =
    in_task_a ++ script (codes "create a simple front 0 0 7 3/create b smart behind 0 0 7 3/create c super front 0 0 7 3 8 4/") ++ script (codes "create d simple behind 0 0 7 3 backdrop/create e smart front 0 0 7 3 backdrop/create f super behind 0 0 7 3 9 5 backdrop/end")

abbrev pub arrangements : List ℕ
arrangements = created ++ script (codes "front w/behind w/infront w v/move w -1 1/size w 2 -2/box w 0 0 4 4/close w/end")

abbrev pub arrangements_in_hold : List ℕ
arrangements_in_hold =
    created ++ script (codes "hold/create v super behind 0 0 7 3 8 4/front w/behind w/infront v w/move w -1 1/size w 2 -2/box w 0 0 4 4/close w/release/end")

abbrev pub look_and_scroll : List ℕ
look_and_scroll = created ++ script (codes "which 0 0/scroll w 1 -1/end")

abbrev pub scroll_in_lock : List ℕ
scroll_in_lock = created ++ script (codes "lock w/scroll w 0 0/unlock w/end")

abbrev pub raster_changes : List ℕ
raster_changes = created ++ script (codes "apen w 0/apen w 255/bpen w 0/bpen w 255/mode w 0/mode w 7/mask w 0/mask w 255/at w -32768 32767/at w 32767 -32768/end")

abbrev pub drawing : List ℕ
drawing =
    created ++ script (codes "write w -32768 32767/write w 32767 -32768/read w -32768 32767/read w 32767 -32768/draw w -32768 32767/draw w 32767 -32768/") ++ script (codes "text w 'a  b'/setrast w 0/setrast w 255/end")

abbrev pub drawing_in_lock : List ℕ
drawing_in_lock =
    created ++ script (codes "lock w/apen w 1/bpen w 1/mode w 1/mask w 1/at w 0 0/write w 0 0/read w 0 0/draw w 1 1/text w 'a'/setrast w 1/unlock w/end")

abbrev pub name_of_16 : List ℕ
name_of_16 = in_task_a ++ script (codes "create abcdefghijklmnop smart front 0 0 7 3/end")

abbrev pub name_of_17 : List ℕ
name_of_17 = in_task_a ++ script (codes "create abcdefghijklmnopq smart front 0 0 7 3/end")

abbrev pub name_with_underscore : List ℕ
name_with_underscore = in_task_a ++ script (codes "create a_1 smart front 0 0 7 3/end")

abbrev pub name_from_a_digit : List ℕ
name_from_a_digit = in_task_a ++ script (codes "create 1a smart front 0 0 7 3/end")

abbrev pub screen_of_1025 : List ℕ
screen_of_1025 = script (codes "screen 1025 4 1/")

abbrev pub screen_again : List ℕ
screen_again = screened ++ script (codes "screen 16 4 1/")

abbrev pub task_before_screen : List ℕ
task_before_screen = script (codes "task a/")

abbrev pub end_before_task : List ℕ
end_before_task = screened ++ script (codes "end")

abbrev pub task_missing : List ℕ
task_missing = screened

abbrev pub end_missing : List ℕ
end_missing = in_task_a

abbrev pub two_tasks : List ℕ
two_tasks = in_task_a ++ script (codes "end/task b/end/order/0 1/")

abbrev pub task_again : List ℕ
task_again = in_task_a ++ script (codes "end/task a/")

abbrev pub verb_in_capitals : List ℕ
verb_in_capitals = in_task_a ++ script (codes "Fill w 0 0 1 1/")

abbrev pub mode_8 : List ℕ
mode_8 = created ++ script (codes "mode w 8")

abbrev pub mask_256 : List ℕ
mask_256 = created ++ script (codes "mask w 256")

abbrev pub mask_255 : List ℕ
mask_255 = created ++ script (codes "mask w 255/end")

abbrev pub register_8 : List ℕ
register_8 = created ++ script (codes "orrect 8 0 0 1 1")

abbrev pub regions_joined : List ℕ
regions_joined = created ++ script (codes "orregion 0 7")

abbrev pub names_64 : List ℕ
names_64 = in_task_a ++ sixty_four_layers ++ script (codes "end")

abbrev pub names_65 : List ℕ
names_65 = in_task_a ++ sixty_four_layers ++ script (codes "fill x 0 0 1 1/")

abbrev pub names_65_by_blit : List ℕ
names_65_by_blit = in_task_a ++ sixty_four_layers ++ script (codes "blit n0 0 0 x 0 0 1 1 c0/")

abbrev pub unlock_before_65 : List ℕ
unlock_before_65 = in_task_a ++ sixty_four_layers ++ script (codes "unlock x/")

abbrev pub supers_16 : List ℕ
supers_16 = in_task_a ++ sixteen_supers ++ script (codes "end")

abbrev pub supers_17 : List ℕ
supers_17 = in_task_a ++ sixteen_supers ++ script (codes "create t super front 0 0 7 3 8 4/")

abbrev pub bitmaps_17 : List ℕ
bitmaps_17 = screened ++ sixteen_bitmaps ++ script (codes "bitmap c 1 1 1/")

abbrev pub tasks_17 : List ℕ
tasks_17 = screened ++ sixteen_tasks ++ script (codes "task u/")

-- a task with one line, or two, of which the last is refused
abbrev pub plus_sign : List ℕ
plus_sign = in_task_a ++ script (codes "fill w +5 0 9 0/")

abbrev pub zeros_before_7 : List ℕ
zeros_before_7 = in_task_a ++ script (codes "fill w 007 0 9 0/")

abbrev pub maximum_of_5_below_9 : List ℕ
maximum_of_5_below_9 = in_task_a ++ script (codes "fill w 9 0 5 0/")

abbrev pub maximum_of_40000 : List ℕ
maximum_of_40000 = in_task_a ++ script (codes "fill w 0 0 40000 0/")

abbrev pub zero_apart : List ℕ
zero_apart = in_task_a ++ script (codes "fill w 0  0 1 1/")

abbrev pub text_before_a_word : List ℕ
text_before_a_word = in_task_a ++ script (codes "text w 'a' b/")

abbrev pub unknown_verb : List ℕ
unknown_verb = in_task_a ++ script (codes "glow w/")

abbrev pub glyph_in_task : List ℕ
glyph_in_task = in_task_a ++ script (codes "glyph 41 0000000000000000/")

abbrev pub blit_by_c1 : List ℕ
blit_by_c1 = in_task_a ++ script (codes "blit w 0 0 w 0 0 1 1 c1/")

abbrev pub put_without_bitmap : List ℕ
put_without_bitmap = in_task_a ++ script (codes "put b 0 0 w 0 0 1 1 c0/")

abbrev pub unlock_at_once : List ℕ
unlock_at_once = in_task_a ++ script (codes "unlock w/")

abbrev pub hook_6 : List ℕ
hook_6 = in_task_a ++ script (codes "create w smart front 0 0 3 3 hook 6/")

abbrev pub lock_and_unlock : List ℕ
lock_and_unlock = in_task_a ++ script (codes "lock w/unlock w/")
