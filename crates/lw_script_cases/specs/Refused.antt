-- Worked cases.
-- Scripts that are refused, by their first reasons, each with the number of its first bad line.
use Rattle.std.specs.Prelude.{ℕ, List, [], ◌∷◌, ◌++◌, codes}
use Rattle.lw_grammar.specs.declared.reason.Reason.{Reason}
use Rattle.lw_grammar.specs.Lines.{lines}
use Rattle.lw_grammar.specs.Script.{IsFirstBadIn}
use Rattle.lw_script_cases.specs.WholeScripts.{script, alone, screened, in_task_a, created, in_version_2}

-- the number of a line, and the bytes of a script
pub record Refused : Type 0 where
  pub line : ℕ
  pub bytes : List ℕ

abbrev pub at_line : ℕ → List ℕ → Refused
at_line line bytes = record { line = line; bytes = bytes }

-- Each script, read alone and with no hook, has this first bad line, for this first reason.
abbrev pub AreRefused : Reason → List Refused → Type 0
AreRefused reason [] = Unit {0}
AreRefused reason (r ∷ rs) = IsFirstBadIn (alone 0) (lines r.bytes) r.line reason × AreRefused reason rs

-- a byte that stands in no line
abbrev pub bad_bytes : List Refused
bad_bytes =
    at_line 1 ((13 ∷ []) ++ script (codes "/screen 16 4 1/")) ∷
    at_line 1 ((0 ∷ [])) ∷
    at_line 1 (script (codes "layers 2") ++ (13 ∷ []) ++ script (codes "/")) ∷
    at_line 2 (screened ++ (31 ∷ []) ++ script (codes "/")) ∷
    at_line 2 (screened ++ (127 ∷ []) ++ script (codes "/")) ∷
    at_line 2 (script (codes "#") ++ (0 ∷ []) ++ (1 ∷ []) ++ (255 ∷ []) ++ script (codes "  '/") ++ (254 ∷ [])
    ++ script (codes "/")) ∷
    at_line 3 (in_task_a ++ script (codes "end") ++ (13 ∷ []) ++ script (codes "/")) ∷
    at_line 3 (in_task_a ++ script (codes "fill") ++ (9 ∷ []) ++ script (codes "w 0 0 1 1/")) ∷
    at_line 3 (in_task_a ++ script (codes "text w 'a") ++ (9 ∷ []) ++ script (codes "b'/")) ∷
    at_line 3 (screened ++ script (codes "bitmap b 16 1 1/00") ++ (128 ∷ []) ++ script (codes "00/")) ∷
    at_line 3 (in_task_a ++ script (codes "fill  w") ++ (1 ∷ []) ++ script (codes " 0 0 1 1/")) ∷
    at_line 3 (in_task_a ++ script (codes "text w 'a") ++ (127 ∷ []) ++ script (codes "/")) ∷
    at_line 3 (in_task_a ++ script (codes "glow") ++ (1 ∷ []) ++ script (codes "/")) ∷
    at_line 4 (in_task_a ++ script (codes "end/") ++ (255 ∷ [])) ∷ []

-- empty words
abbrev pub bad_spacing : List Refused
bad_spacing =
    at_line 1 (script (codes "screen  16 4 1/")) ∷
    at_line 1 (script (codes " layers 2/")) ∷
    at_line 1 (script (codes "layers  7/")) ∷
    at_line 2 (screened ++ script (codes " /")) ∷
    at_line 2 (screened ++ script (codes " # note/")) ∷
    at_line 2 (screened ++ script (codes "end /")) ∷
    at_line 3 (in_task_a ++ script (codes "end /")) ∷
    at_line 3 (in_task_a ++ script (codes " fill w 0 0 1 1/")) ∷
    at_line 3 (screened ++ script (codes "bitmap b 16 1 1/0000 /")) ∷
    at_line 3 (screened ++ script (codes "bitmap b 16 1 1/ 0000/")) ∷
    at_line 3 (in_task_a ++ script (codes "text w  'a'/")) ∷
    at_line 3 (in_task_a ++ script (codes " glow/")) ∷ []

-- quotes inside words, and texts that go on after their end
abbrev pub bad_quotes : List Refused
bad_quotes =
    at_line 1 (script (codes "layers 2'/")) ∷
    at_line 2 (screened ++ script (codes "end '/")) ∷
    at_line 3 (in_task_a ++ script (codes "'/")) ∷
    at_line 3 (in_task_a ++ script (codes "text w 'a''/")) ∷
    at_line 3 (in_task_a ++ script (codes "fill w 0 0 1 1'/")) ∷
    at_line 3 (in_task_a ++ script (codes "text w''/")) ∷
    at_line 3 (in_task_a ++ script (codes "te'xt  w/")) ∷
    at_line 3 (in_task_a ++ script (codes "'text' w/")) ∷
    at_line 3 (in_task_a ++ script (codes "open w smart front 0 0 9 14 't' 'u'/")) ∷
    at_line 3 (in_task_a ++ script (codes "glow 'w/")) ∷
    at_line 3 (screened ++ script (codes "bitmap b 16 1 1/00'00/")) ∷
    at_line 3 (screened ++ script (codes "bitmap b 16 1 1/'0000/")) ∷
    at_line 4 (in_task_a ++ script (codes "end/task b'/")) ∷ []

-- words that begin no line
abbrev pub unknown_words : List Refused
unknown_words =
    at_line 1 (script (codes "Screen 16 4 1/")) ∷
    at_line 1 (script (codes "glow/")) ∷
    at_line 1 (script (codes "Layers 2/")) ∷
    at_line 1 (script (codes "layer 2/")) ∷
    at_line 1 (script (codes "layers2/")) ∷
    at_line 1 (script (codes "hook w 0/")) ∷
    at_line 2 (screened ++ script (codes "layers 2/")) ∷
    at_line 2 (screened ++ script (codes "layers 7/")) ∷
    at_line 2 (screened ++ script (codes "hook w 0/")) ∷
    at_line 3 (in_task_a ++ script (codes "layers 2/")) ∷
    at_line 3 (in_task_a ++ script (codes "hook w 0/")) ∷
    at_line 4 (in_task_a ++ script (codes "lock w/hook w 0/")) ∷
    at_line 4 (in_task_a ++ script (codes "end/layers 2/")) ∷
    at_line 4 (in_version_2 ++ script (codes "hooks w 0/")) ∷
    at_line 2 (screened ++ script (codes "glow/")) ∷
    at_line 3 (in_task_a ++ script (codes "fills w 0 0 1 1/")) ∷
    at_line 3 (in_task_a ++ script (codes "fil w 0 0 1 1/")) ∷
    at_line 3 (in_task_a ++ script (codes "end#/")) ∷
    at_line 3 (in_task_a ++ script (codes "7 7/")) ∷
    at_line 3 (in_task_a ++ script (codes "~/")) ∷
    at_line 3 (in_task_a ++ script (codes "''/")) ∷
    at_line 4 (in_task_a ++ script (codes "end/glow/")) ∷
    at_line 4 (in_task_a ++ script (codes "end/audit/")) ∷
    at_line 4 (screened ++ script (codes "bitmap b 16 1 1/0000/0000/")) ∷
    at_line 4 (in_task_a ++ script (codes "lock w/glow w/")) ∷
    at_line 7 (in_task_a ++ script (codes "hold/create w smart front 0 0 7 3/create v smart front 0 0 7 3/release/glow/")) ∷
    at_line 8 (in_task_a ++ script (codes "lock w/fill w 0 0 1 1/clip w 0/unclip w/unlock w/glow/")) ∷ []

-- lines in a part of the script where they don't stand
abbrev pub misplaced : List Refused
misplaced =
    at_line 1 (script (codes "fill w 0 0 1 1/")) ∷
    at_line 1 (script (codes "order/")) ∷
    at_line 2 (script (codes "layers 2/layers 2/")) ∷
    at_line 2 (script (codes "layers 2/layers 7/")) ∷
    at_line 2 (script (codes "layers 2/layers/")) ∷
    at_line 2 (script (codes "layers 2/task a/")) ∷
    at_line 2 (script (codes "layers 2/hook w 0/")) ∷
    at_line 3 (script (codes "layers 2/screen 16 4 1/layers 2/")) ∷
    at_line 3 (script (codes "layers 2/screen 16 4 1/hook w 0/")) ∷
    at_line 4 (in_version_2 ++ script (codes "layers 2/")) ∷
    at_line 4 (in_version_2 ++ script (codes "screen 16 4 1/")) ∷
    at_line 5 (in_version_2 ++ script (codes "end/layers 2/")) ∷
    at_line 5 (in_version_2 ++ script (codes "end/hook w 0/")) ∷
    at_line 2 (screened ++ script (codes "fill w 0 0 1 1/")) ∷
    at_line 2 (screened ++ script (codes "lock w/")) ∷
    at_line 2 (screened ++ script (codes "report/")) ∷
    at_line 2 (screened ++ script (codes "end x/")) ∷
    at_line 2 (screened ++ script (codes "screen 0 0 0/")) ∷
    at_line 3 (in_task_a ++ script (codes "screen 16 4 1/")) ∷
    at_line 3 (in_task_a ++ script (codes "bitmap b 16 1 1/")) ∷
    at_line 3 (in_task_a ++ script (codes "glyph zz/")) ∷
    at_line 3 (in_task_a ++ script (codes "task 9b/")) ∷
    at_line 4 (screened ++ script (codes "bitmap b 16 1 1/0000/end/")) ∷
    at_line 4 (in_task_a ++ script (codes "lock w/task b/")) ∷
    at_line 4 (in_task_a ++ script (codes "end/fill w 0 0 1 1/")) ∷
    at_line 4 (in_task_a ++ script (codes "end/end/")) ∷
    at_line 4 (in_task_a ++ script (codes "end/glyph 41 0000000000000000/")) ∷
    at_line 4 (in_task_a ++ script (codes "end/lock w/")) ∷
    at_line 4 (in_task_a ++ script (codes "end/hold/")) ∷
    at_line 4 (in_task_a ++ script (codes "end/release/")) ∷
    at_line 4 (in_task_a ++ script (codes "end/report/")) ∷ []

-- words that fit no form of their verb
abbrev pub bad_forms : List Refused
bad_forms =
    at_line 1 (script (codes "layers/")) ∷
    at_line 1 (script (codes "layers 0/")) ∷
    at_line 1 (script (codes "layers 1/")) ∷
    at_line 1 (script (codes "layers 3/")) ∷
    at_line 1 (script (codes "layers 7/")) ∷
    at_line 1 (script (codes "layers -2/")) ∷
    at_line 1 (script (codes "layers 02/")) ∷
    at_line 1 (script (codes "layers 4294967298/")) ∷
    at_line 1 (script (codes "layers 18446744073709551618/")) ∷
    at_line 1 (script (codes "layers two/")) ∷
    at_line 1 (script (codes "layers '2'/")) ∷
    at_line 1 (script (codes "layers 2 2/")) ∷
    at_line 1 (script (codes "layers 2 3/")) ∷
    at_line 3 (screened ++ script (codes "bitmap b 16 1 1/layers 2/")) ∷
    at_line 4 (in_version_2 ++ script (codes "hook/")) ∷
    at_line 4 (in_version_2 ++ script (codes "hook w/")) ∷
    at_line 4 (in_version_2 ++ script (codes "hook w x/")) ∷
    at_line 4 (in_version_2 ++ script (codes "hook w '0'/")) ∷
    at_line 4 (in_version_2 ++ script (codes "hook w 00/")) ∷
    at_line 4 (in_version_2 ++ script (codes "hook w 0 1/")) ∷
    at_line 4 (in_version_2 ++ script (codes "hook w v 0/")) ∷
    at_line 4 (in_version_2 ++ script (codes "hook 0 w/")) ∷
    at_line 1 (script (codes "screen 16 4/")) ∷
    at_line 1 (script (codes "screen 16 4 1 1/")) ∷
    at_line 1 (script (codes "screen w 4 1/")) ∷
    at_line 1 (script (codes "screen 016 4 1/")) ∷
    at_line 1 (script (codes "screen 0 0/")) ∷
    at_line 2 (screened ++ script (codes "task 9a/")) ∷
    at_line 2 (screened ++ script (codes "task/")) ∷
    at_line 2 (screened ++ script (codes "task a b/")) ∷
    at_line 2 (screened ++ script (codes "glyph ff 000000000000000/")) ∷
    at_line 2 (screened ++ script (codes "glyph 4 0000000000000000/")) ∷
    at_line 2 (screened ++ script (codes "glyph 041 0000000000000000/")) ∷
    at_line 2 (screened ++ script (codes "glyph 41 00000000000000000/")) ∷
    at_line 2 (screened ++ script (codes "glyph 41 000000000000000A/")) ∷
    at_line 2 (screened ++ script (codes "glyph 41/")) ∷
    at_line 2 (screened ++ script (codes "glyph 41 0000000000000000 0/")) ∷
    at_line 2 (screened ++ script (codes "glyph 41 '0000000000000000'/")) ∷
    at_line 2 (screened ++ script (codes "bitmap b 1 1/")) ∷
    at_line 2 (screened ++ script (codes "bitmap b 1 1 1 1/")) ∷
    at_line 2 (screened ++ script (codes "bitmap 1b 1 1 1/")) ∷
    at_line 4 (in_task_a ++ script (codes "end/task/")) ∷
    at_line 4 (in_task_a ++ script (codes "end/task b c/")) ∷
    at_line 4 (in_task_a ++ script (codes "end/task 'b'/")) ∷
    at_line 4 (in_task_a ++ script (codes "end/task abcdefghijklmnopq/")) ∷
    at_line 3 (in_task_a ++ script (codes "fill w 00 0 9 0/")) ∷
    at_line 3 (in_task_a ++ script (codes "fill w -01 0 9 0/")) ∷
    at_line 3 (in_task_a ++ script (codes "fill w - 0 9 0/")) ∷
    at_line 3 (in_task_a ++ script (codes "fill w --1 0 9 0/")) ∷
    at_line 3 (in_task_a ++ script (codes "fill w 1.5 0 9 0/")) ∷
    at_line 3 (in_task_a ++ script (codes "fill w 0x1 0 9 0/")) ∷
    at_line 3 (in_task_a ++ script (codes "fill w 0 0 v 0/")) ∷
    at_line 3 (in_task_a ++ script (codes "fill w 0 0 9 '0'/")) ∷
    at_line 3 (in_task_a ++ script (codes "fill w 0 0 9/")) ∷
    at_line 3 (in_task_a ++ script (codes "fill w 0 0 9 0 0/")) ∷
    at_line 3 (in_task_a ++ script (codes "fill 0 0 9 0/")) ∷
    at_line 3 (in_task_a ++ script (codes "fill/")) ∷
    at_line 3 (in_task_a ++ script (codes "front 9/")) ∷
    at_line 3 (in_task_a ++ script (codes "front 9w/")) ∷
    at_line 3 (in_task_a ++ script (codes "front _w/")) ∷
    at_line 3 (in_task_a ++ script (codes "front w-1/")) ∷
    at_line 3 (in_task_a ++ script (codes "front a[/")) ∷
    at_line 3 (in_task_a ++ script (codes "front a@/")) ∷
    at_line 3 (in_task_a ++ script (codes "front a`/")) ∷
    at_line 3 (in_task_a ++ script (codes "front a{/")) ∷
    at_line 3 (in_task_a ++ script (codes "front a:/")) ∷
    at_line 3 (in_task_a ++ script (codes "front a") ++ (47 ∷ [])) ∷
    at_line 3 (in_task_a ++ script (codes "front abcdefghijklmnopq/")) ∷
    at_line 3 (in_task_a ++ script (codes "front 'w'/")) ∷
    at_line 3 (in_task_a ++ script (codes "front w v/")) ∷
    at_line 3 (in_task_a ++ script (codes "infront w/")) ∷
    at_line 3 (in_task_a ++ script (codes "text w a/")) ∷
    at_line 3 (in_task_a ++ script (codes "text w/")) ∷
    at_line 3 (in_task_a ++ script (codes "text 'w'/")) ∷
    at_line 3 (in_task_a ++ script (codes "title w 5/")) ∷
    at_line 3 (in_task_a ++ script (codes "end x/")) ∷
    at_line 3 (in_task_a ++ script (codes "hold w/")) ∷
    at_line 3 (in_task_a ++ script (codes "release w/")) ∷
    at_line 3 (in_task_a ++ script (codes "lock/")) ∷
    at_line 3 (in_task_a ++ script (codes "lock w v/")) ∷
    at_line 3 (in_task_a ++ script (codes "unlock 9/")) ∷
    at_line 3 (in_task_a ++ script (codes "endrefresh w/")) ∷
    at_line 3 (in_task_a ++ script (codes "endrefresh w full part/")) ∷
    at_line 3 (in_task_a ++ script (codes "clearregion w/")) ∷
    at_line 3 (in_task_a ++ script (codes "orregion 0/")) ∷
    at_line 3 (in_task_a ++ script (codes "orrect w 0 0 1 1/")) ∷
    at_line 3 (in_task_a ++ script (codes "which w 0 0/")) ∷
    at_line 3 (in_task_a ++ script (codes "blit w 0 0 w 0 0 1 1 C0/")) ∷
    at_line 3 (in_task_a ++ script (codes "blit w 0 0 w 0 0 1 1 c/")) ∷
    at_line 3 (in_task_a ++ script (codes "blit w 0 0 w 0 0 1 1 0c0/")) ∷
    at_line 3 (in_task_a ++ script (codes "blit w 0 0 w 0 0 1 1 g0/")) ∷
    at_line 3 (in_task_a ++ script (codes "blit w 0 0 w 0 0 1 1/")) ∷
    at_line 3 (in_task_a ++ script (codes "put b 0 0 w 0 0 1 1 c1/")) ∷
    at_line 3 (in_task_a ++ script (codes "blit w 0 0 w 0 0 0 1 c1/")) ∷
    at_line 3 (in_task_a ++ script (codes "create w Smart front 0 0 7 3/")) ∷
    at_line 3 (in_task_a ++ script (codes "create w smart back 0 0 7 3/")) ∷
    at_line 3 (in_task_a ++ script (codes "create w smart 0 0 7 3/")) ∷
    at_line 3 (in_task_a ++ script (codes "create w smart front 0 0 7/")) ∷
    at_line 3 (in_task_a ++ script (codes "create w smart front 0 0 7 3 8 4/")) ∷
    at_line 3 (in_task_a ++ script (codes "create w super front 0 0 7 3/")) ∷
    at_line 3 (in_task_a ++ script (codes "create w super front 0 0 7 3 8/")) ∷
    at_line 3 (in_task_a ++ script (codes "create w super front 0 0 7 3 backdrop 8 4/")) ∷
    at_line 3 (in_task_a ++ script (codes "create w super front 0 0 7 3 8 4 hook 0/")) ∷
    at_line 3 (in_task_a ++ script (codes "create w smart front 0 0 7 3 hook/")) ∷
    at_line 3 (in_task_a ++ script (codes "create w smart front 0 0 7 3 hook x/")) ∷
    at_line 3 (in_task_a ++ script (codes "create w smart front 0 0 7 3 hook 0 backdrop/")) ∷
    at_line 3 (in_task_a ++ script (codes "create w smart front 0 0 7 3 hook 0 hook 1/")) ∷
    at_line 3 (in_task_a ++ script (codes "create w smart front 0 0 7 3 backdrop backdrop/")) ∷
    at_line 3 (in_task_a ++ script (codes "create w smart front 0 0 7 3 borderless/")) ∷
    at_line 3 (in_task_a ++ script (codes "create w smart front 0 0 7 3 't'/")) ∷
    at_line 3 (in_task_a ++ script (codes "open w smart front 0 0 20 20/")) ∷
    at_line 3 (in_task_a ++ script (codes "open w smart front 0 0 20 20 t/")) ∷
    at_line 3 (in_task_a ++ script (codes "open w smart front 0 0 20 20 ask r hook 0 't'/")) ∷
    at_line 3 (in_task_a ++ script (codes "open w smart front 0 0 20 20 ask rx 't'/")) ∷
    at_line 3 (in_task_a ++ script (codes "open w smart front 0 0 20 20 ask R 't'/")) ∷
    at_line 3 (in_task_a ++ script (codes "open w smart front 0 0 20 20 ask 't'/")) ∷
    at_line 3 (in_task_a ++ script (codes "open w super front 0 0 20 20 8 8 nocare 't'/")) ∷
    at_line 3 (in_task_a ++ script (codes "open w super front 0 0 20 20 8 8 hook 0 't'/")) ∷
    at_line 3 (in_task_a ++ script (codes "create w super front 9 0 0 0 0 0 hook 0/")) ∷
    at_line 3 (screened ++ script (codes "bitmap b 16 1 1/00/")) ∷
    at_line 3 (screened ++ script (codes "bitmap b 16 1 1/000000/")) ∷
    at_line 3 (screened ++ script (codes "bitmap b 16 1 1/000/")) ∷
    at_line 3 (screened ++ script (codes "bitmap b 17 1 1/000000/")) ∷
    at_line 3 (screened ++ script (codes "bitmap b 16 1 1/000g/")) ∷
    at_line 3 (screened ++ script (codes "bitmap b 16 1 1/-000/")) ∷
    at_line 3 (screened ++ script (codes "bitmap b 16 1 1/00 00/")) ∷
    at_line 3 (screened ++ script (codes "bitmap b 16 1 1/'00'/")) ∷
    at_line 3 (screened ++ script (codes "bitmap b 16 1 1/'00 00'/")) ∷
    at_line 3 (screened ++ script (codes "bitmap b 16 1 1/task a/")) ∷
    at_line 3 (screened ++ script (codes "bitmap b 16 1 1/end/")) ∷
    at_line 3 (screened ++ script (codes "bitmap b 16 1 1/order/")) ∷
    at_line 3 (screened ++ script (codes "bitmap b 16 1 1/screen 16 4 1/")) ∷
    at_line 3 (screened ++ script (codes "bitmap b 16 1 1/glow/")) ∷
    at_line 3 (screened ++ script (codes "bitmap b 17 1 1/0000400A/")) ∷
    at_line 4 (in_task_a ++ script (codes "lock w/end x/")) ∷
    at_line 4 (screened ++ script (codes "bitmap b 16 1 2/0000/task a/")) ∷
    at_line 6 (screened ++ script (codes "bitmap b 16 2 1/0000/# c//task a/")) ∷
    at_line 6 (screened ++ script (codes "bitmap b 16 2 2/0000/0000/0000/glyph 41 0000000000000000/")) ∷ []

-- numbers outside their ranges
abbrev pub out_of_range : List Refused
out_of_range =
    at_line 1 (script (codes "screen 0 4 1/")) ∷
    at_line 1 (script (codes "screen 16 0 1/")) ∷
    at_line 1 (script (codes "screen 16 1025 1/")) ∷
    at_line 1 (script (codes "screen 16 4 0/")) ∷
    at_line 1 (script (codes "screen 16 4 9/")) ∷
    at_line 1 (script (codes "screen -1 4 1/")) ∷
    at_line 1 (script (codes "screen 2048 1 1/")) ∷
    at_line 2 (script (codes "layers 2/screen 2049 4 1/")) ∷
    at_line 2 (script (codes "layers 2/screen 16 2049 1/")) ∷
    at_line 2 (script (codes "layers 2/screen 0 4 1/")) ∷
    at_line 2 (script (codes "layers 2/screen 16 4 9/")) ∷
    at_line 3 (script (codes "layers 2/screen 16 4 1/bitmap b 1025 1 1/")) ∷
    at_line 3 (script (codes "layers 2/screen 16 4 1/bitmap b 1 1025 1/")) ∷
    at_line 4 (in_version_2 ++ script (codes "hook w -1/")) ∷
    at_line 4 (in_version_2 ++ script (codes "hook w 4294967296/")) ∷
    at_line 2 (screened ++ script (codes "bitmap b 1025 1 1/")) ∷
    at_line 2 (screened ++ script (codes "bitmap b 16 0 1/")) ∷
    at_line 2 (screened ++ script (codes "bitmap b 16 1025 1/")) ∷
    at_line 2 (screened ++ script (codes "bitmap b 16 1 0/")) ∷
    at_line 2 (screened ++ script (codes "glyph 1f 0000000000000000/")) ∷
    at_line 2 (screened ++ script (codes "glyph 00 0000000000000000/")) ∷
    at_line 2 (screened ++ script (codes "glyph ff 0000000000000000/")) ∷
    at_line 3 (in_task_a ++ script (codes "fill w 0 0 32768 0/")) ∷
    at_line 3 (in_task_a ++ script (codes "fill w -32769 0 0 0/")) ∷
    at_line 3 (in_task_a ++ script (codes "fill w 0 0 0 32768/")) ∷
    at_line 3 (in_task_a ++ script (codes "fill w 0 -32769 0 0/")) ∷
    at_line 3 (in_task_a ++ script (codes "fill w 0 0 4000000000000000000000000000000000000000 0/")) ∷
    at_line 3 (in_task_a ++ script (codes "fill w -4000000000000000000000000000000000000000 0 0 0/")) ∷
    at_line 3 (in_task_a ++ script (codes "fill w 0 0 18446744073709551621 0/")) ∷
    at_line 3 (in_task_a ++ script (codes "fill w 0 0 4294967301 0/")) ∷
    at_line 3 (in_task_a ++ script (codes "fill w 0 9 0 8/")) ∷
    at_line 3 (in_task_a ++ script (codes "orrect 0 0 0 32768 0/")) ∷
    at_line 3 (in_task_a ++ script (codes "andrect 0 0 -32769 0 0/")) ∷
    at_line 3 (in_task_a ++ script (codes "xorrect 0 1 0 0 0/")) ∷
    at_line 3 (in_task_a ++ script (codes "clearrect 0 0 1 0 0/")) ∷
    at_line 3 (in_task_a ++ script (codes "create w smart front -32769 0 7 3/")) ∷
    at_line 3 (in_task_a ++ script (codes "create w smart front 0 0 7 32768/")) ∷
    at_line 3 (in_task_a ++ script (codes "create w smart front 8 0 7 3/")) ∷
    at_line 3 (in_task_a ++ script (codes "create w super front 0 4 7 3 8 4/")) ∷
    at_line 3 (in_task_a ++ script (codes "scroll w 32768 0/")) ∷
    at_line 3 (in_task_a ++ script (codes "scrollraster w 0 -32769 0 0 7 3/")) ∷
    at_line 3 (in_task_a ++ script (codes "scrollraster w 0 0 5 0 4 0/")) ∷
    at_line 3 (in_task_a ++ script (codes "move w 0 32768/")) ∷
    at_line 3 (in_task_a ++ script (codes "size w -32769 0/")) ∷
    at_line 3 (in_task_a ++ script (codes "size w 0 40000/")) ∷
    at_line 3 (in_task_a ++ script (codes "which 32768 0/")) ∷
    at_line 3 (in_task_a ++ script (codes "at w 0 -32769/")) ∷
    at_line 3 (in_task_a ++ script (codes "write w 32768 0/")) ∷
    at_line 3 (in_task_a ++ script (codes "read w 0 32768/")) ∷
    at_line 3 (in_task_a ++ script (codes "draw w -32769 0/")) ∷
    at_line 3 (in_task_a ++ script (codes "blit w 32768 0 w 0 0 1 1 c0/")) ∷
    at_line 3 (in_task_a ++ script (codes "blit w 0 0 w 0 -32769 1 1 c0/")) ∷
    at_line 3 (in_task_a ++ script (codes "box w -32769 0 1 1/")) ∷
    at_line 3 (in_task_a ++ script (codes "open w smart front 0 32768 9 14 't'/")) ∷
    at_line 3 (in_task_a ++ script (codes "clearrect -1 0 0 1 1/")) ∷
    at_line 3 (in_task_a ++ script (codes "orregion 8 0/")) ∷
    at_line 3 (in_task_a ++ script (codes "andregion -1 0/")) ∷
    at_line 3 (in_task_a ++ script (codes "xorregion 0 8/")) ∷
    at_line 3 (in_task_a ++ script (codes "clearregion 8/")) ∷
    at_line 3 (in_task_a ++ script (codes "clip w 8/")) ∷
    at_line 3 (in_task_a ++ script (codes "clip w -1/")) ∷
    at_line 3 (in_task_a ++ script (codes "box w 0 0 0 1/")) ∷
    at_line 3 (in_task_a ++ script (codes "box w 0 0 32768 1/")) ∷
    at_line 3 (in_task_a ++ script (codes "box w 0 0 1 0/")) ∷
    at_line 3 (in_task_a ++ script (codes "box w 0 0 1 -1/")) ∷
    at_line 3 (in_task_a ++ script (codes "blit w 0 0 w 0 0 0 1 c0/")) ∷
    at_line 3 (in_task_a ++ script (codes "blit w 0 0 w 0 0 1 32768 c0/")) ∷
    at_line 3 (in_task_a ++ script (codes "put b 0 0 w 0 0 0 1 c0/")) ∷
    at_line 3 (in_task_a ++ script (codes "open w smart front 0 0 0 14 't'/")) ∷
    at_line 3 (in_task_a ++ script (codes "open w smart front 0 0 9 32768 't'/")) ∷
    at_line 3 (in_task_a ++ script (codes "create w super front 0 0 7 3 0 4/")) ∷
    at_line 3 (in_task_a ++ script (codes "open w super front 0 0 7 3 8 0 't'/")) ∷
    at_line 3 (in_task_a ++ script (codes "open w super front 0 0 7 3 8 2049 't'/")) ∷
    at_line 3 (in_task_a ++ script (codes "apen w 256/")) ∷
    at_line 3 (in_task_a ++ script (codes "bpen w -1/")) ∷
    at_line 3 (in_task_a ++ script (codes "setrast w 256/")) ∷
    at_line 3 (in_task_a ++ script (codes "mode w -1/")) ∷
    at_line 3 (in_task_a ++ script (codes "open w simple front 0 0 9 14 hook 4294967296 't'/")) ∷
    at_line 3 (in_task_a ++ script (codes "move w -32769 0/")) ∷
    at_line 3 (in_task_a ++ script (codes "which 0 -32769/")) ∷
    at_line 3 (in_task_a ++ script (codes "at w 32768 0/")) ∷
    at_line 3 (in_task_a ++ script (codes "write w 0 -32769/")) ∷
    at_line 3 (in_task_a ++ script (codes "read w -32769 0/")) ∷
    at_line 3 (in_task_a ++ script (codes "draw w 0 32768/")) ∷
    at_line 3 (in_task_a ++ script (codes "scroll w 0 -32769/")) ∷
    at_line 3 (in_task_a ++ script (codes "box w 0 32768 1 1/")) ∷
    at_line 3 (in_task_a ++ script (codes "open w smart front -32769 0 9 14 't'/")) ∷
    at_line 3 (in_task_a ++ script (codes "create w smart front 0 -32769 7 3/")) ∷
    at_line 3 (in_task_a ++ script (codes "scrollraster w 32768 0 0 0 7 3/")) ∷
    at_line 3 (in_task_a ++ script (codes "scrollraster w 0 0 0 5 0 4/")) ∷
    at_line 3 (in_task_a ++ script (codes "blit w 0 -32769 w 0 0 1 1 c0/")) ∷
    at_line 3 (in_task_a ++ script (codes "blit w 0 0 w 32768 0 1 1 c0/")) ∷
    at_line 3 (in_task_a ++ script (codes "put b 32768 0 w 0 0 1 1 c0/")) ∷
    at_line 3 (in_task_a ++ script (codes "put b 0 -32769 w 0 0 1 1 c0/")) ∷
    at_line 3 (in_task_a ++ script (codes "put b 0 0 w -32769 0 1 1 c0/")) ∷
    at_line 3 (in_task_a ++ script (codes "put b 0 0 w 0 32768 1 1 c0/")) ∷
    at_line 4 (screened ++ script (codes "bitmap b 16 1 1/0000/bitmap b 0 1 1/")) ∷
    at_line 4 (in_task_a ++ script (codes "lock w/fill v 9 0 5 0/")) ∷
    at_line 4 (in_task_a ++ script (codes "hold/which 32768 0/")) ∷
    at_line 5 (screened ++ script (codes "bitmap b 16 1 1/0000/task a/put b 0 0 w 0 0 32768 1 c0/")) ∷ []

-- bitmaps that aren't named above
abbrev pub no_names : List Refused
no_names =
    at_line 3 (in_task_a ++ script (codes "put a 0 0 w 0 0 1 1 c0/")) ∷
    at_line 4 (created ++ script (codes "put w 0 0 w 0 0 1 1 c0/")) ∷
    at_line 4 (in_task_a ++ script (codes "hold/put b 0 0 w 0 0 1 1 c0/")) ∷
    at_line 4 (in_task_a ++ script (codes "lock v/put b 0 0 w 0 0 1 1 c0/")) ∷
    at_line 5 (screened ++ script (codes "bitmap b 16 1 1/0000/task a/put c 0 0 w 0 0 1 1 c0/")) ∷
    at_line 5 (screened ++ script (codes "bitmap b 16 1 1/0000/task a/put B 0 0 w 0 0 1 1 c0/")) ∷
    at_line 5 (screened ++ script (codes "bitmap bc 16 1 1/0000/task a/put b 0 0 w 0 0 1 1 c0/")) ∷ []

-- a second bitmap or a second task of one name, or a second glyph of one code
abbrev pub double_names : List Refused
double_names =
    at_line 3 (screened ++ script (codes "glyph 41 0000000000000001/glyph 41 0000000000000002/")) ∷
    at_line 4 (screened ++ script (codes "glyph 20 0000000000000000/glyph 7e 0000000000000000/glyph 20 0000000000000000/")) ∷
    at_line 4 (in_task_a ++ script (codes "end/task a/")) ∷
    at_line 5 (screened ++ script (codes "glyph 41 0000000000000000/bitmap b 16 1 1/0000/glyph 41 0000000000000000/")) ∷
    at_line 6 (screened ++ script (codes "bitmap b 16 1 1//0000/# note/bitmap b 16 1 1/")) ∷
    at_line 6 (screened ++ script (codes "bitmap b 16 1 1/0000/bitmap c 16 1 1/0000/bitmap b 16 1 1/")) ∷ []

-- lines that may not stand in their group, or end none
abbrev pub bad_groups : List Refused
bad_groups =
    at_line 4 (in_task_a ++ script (codes "lock w/create w smart front 0 0 7 3 hook 0/")) ∷
    at_line 4 (created ++ script (codes "endrefresh w part/")) ∷
    at_line 5 (in_version_2 ++ script (codes "lock w/hook w 0/")) ∷
    at_line 5 (in_version_2 ++ script (codes "refresh w/hook w 0/")) ∷
    at_line 4 (in_task_a ++ script (codes "hold/release/")) ∷
    at_line 4 (in_task_a ++ script (codes "lock w/end/")) ∷
    at_line 4 (in_task_a ++ script (codes "hold/lock w/")) ∷
    at_line 4 (in_task_a ++ script (codes "hold/hold/")) ∷
    at_line 4 (in_task_a ++ script (codes "hold/refresh w/")) ∷
    at_line 4 (in_task_a ++ script (codes "hold/endrefresh w part/")) ∷
    at_line 4 (in_task_a ++ script (codes "lock w/fill v 0 0 1 1/")) ∷
    at_line 4 (in_task_a ++ script (codes "lock w/fill W 0 0 1 1/")) ∷
    at_line 4 (in_task_a ++ script (codes "lock w/xorregion 0 1/")) ∷
    at_line 4 (in_task_a ++ script (codes "lock w/create w smart front 0 0 7 3/")) ∷
    at_line 4 (in_task_a ++ script (codes "lock w/open w smart front 0 0 9 14 't'/")) ∷
    at_line 4 (in_task_a ++ script (codes "lock w/close w/")) ∷
    at_line 4 (in_task_a ++ script (codes "lock w/front w/")) ∷
    at_line 4 (in_task_a ++ script (codes "lock w/behind w/")) ∷
    at_line 4 (in_task_a ++ script (codes "lock w/infront w w/")) ∷
    at_line 4 (in_task_a ++ script (codes "lock w/move w 1 1/")) ∷
    at_line 4 (in_task_a ++ script (codes "lock w/size w 1 1/")) ∷
    at_line 4 (in_task_a ++ script (codes "lock w/box w 0 0 1 1/")) ∷
    at_line 4 (in_task_a ++ script (codes "lock w/activate w/")) ∷
    at_line 4 (in_task_a ++ script (codes "lock w/blit v 0 0 w 0 0 1 1 c0/")) ∷
    at_line 4 (in_task_a ++ script (codes "lock w/blit v 0 0 v 0 0 1 1 c0/")) ∷
    at_line 4 (in_task_a ++ script (codes "hold/clip w 0/")) ∷
    at_line 4 (in_task_a ++ script (codes "hold/scroll w 1 1/")) ∷
    at_line 4 (in_task_a ++ script (codes "hold/unclip w/")) ∷
    at_line 4 (in_task_a ++ script (codes "hold/apen w 1/")) ∷
    at_line 4 (in_task_a ++ script (codes "hold/text w 'a'/")) ∷
    at_line 4 (in_task_a ++ script (codes "hold/title w 'a'/")) ∷
    at_line 4 (in_task_a ++ script (codes "hold/orrect 0 0 0 1 1/")) ∷
    at_line 4 (in_task_a ++ script (codes "hold/blit w 0 0 v 0 0 1 1 c0/")) ∷
    at_line 5 (in_task_a ++ script (codes "lock w/fill w 0 0 1 1/unlock v/")) ∷
    at_line 5 (in_task_a ++ script (codes "lock w/fill w 0 0 1 1/unlock W/")) ∷
    at_line 5 (in_task_a ++ script (codes "lock w/fill w 0 0 1 1/release/")) ∷
    at_line 5 (in_task_a ++ script (codes "hold/create w smart front 0 0 7 3/unlock w/")) ∷
    at_line 5 (in_task_a ++ script (codes "hold/create w smart front 0 0 7 3/end/")) ∷
    at_line 5 (in_task_a ++ script (codes "create end smart front 0 0 7 3/lock end/unlock end/")) ∷
    at_line 6 (in_task_a ++ script (codes "lock w/# note//unlock w/")) ∷
    at_line 6 (in_task_a ++ script (codes "lock w/fill w 0 0 1 1/unlock w/unlock w/")) ∷
    at_line 6 (in_task_a ++ script (codes "hold/create w smart front 0 0 7 3/release/release/")) ∷
    at_line 6 (screened ++ script (codes "bitmap b 16 1 1/0000/task a/hold/put b 0 0 w 0 0 1 1 c0/")) ∷
    at_line 7 (in_task_a ++ script (codes "lock w/fill w 0 0 1 1/unlock w/lock w/unlock w/")) ∷ []

-- hooks that aren't handed in
abbrev pub no_hooks : List Refused
no_hooks =
    at_line 3 (in_task_a ++ script (codes "create w smart front 0 0 7 3 hook 0/")) ∷
    at_line 3 (in_task_a ++ script (codes "create w smart front 0 0 7 3 hook 4294967295/")) ∷
    at_line 3 (in_task_a ++ script (codes "create w simple behind 0 0 7 3 hook 1/")) ∷
    at_line 4 (in_version_2 ++ script (codes "hook w 0/")) ∷
    at_line 4 (in_version_2 ++ script (codes "hook w 4294967295/")) ∷
    at_line 5 (in_version_2 ++ script (codes "hold/hook w 0/")) ∷
    at_line 3 (in_task_a ++ script (codes "create w smart front 0 0 7 3 backdrop hook 0/")) ∷
    at_line 3 (in_task_a ++ script (codes "open w smart front 0 0 9 14 borderless nocare hook 2 ask rncai 't'/")) ∷
    at_line 4 (in_task_a ++ script (codes "hold/create w smart front 0 0 7 3 hook 0/")) ∷ []

-- a padding bit of a row that is 1
abbrev pub bad_padding : List Refused
bad_padding =
    at_line 3 (screened ++ script (codes "bitmap b 17 1 1/00004000/")) ∷
    at_line 3 (screened ++ script (codes "bitmap b 17 1 1/00000001/")) ∷
    at_line 3 (screened ++ script (codes "bitmap b 1 1 1/4000/")) ∷
    at_line 3 (screened ++ script (codes "bitmap b 15 1 1/0001/")) ∷
    at_line 3 (screened ++ script (codes "bitmap b 33 1 1/ffffffff4000/")) ∷
    at_line 4 (screened ++ script (codes "bitmap b 15 2 1/fffe/ffff/")) ∷
    at_line 4 (screened ++ script (codes "bitmap b 1 1 2/8000/c000/")) ∷
    at_line 5 (screened ++ script (codes "bitmap b 1 1 1//# note/0100/")) ∷
    at_line 5 (screened ++ script (codes "bitmap a 16 1 1/ffff/bitmap b 9 1 1/ff40/")) ∷ []

-- an end before the script's
abbrev pub unfinished : List Refused
unfinished =
    at_line 2 (script (codes "# note/")) ∷
    at_line 2 (script (codes "# note")) ∷
    at_line 2 (script (codes "screen 1 1 1/")) ∷
    at_line 2 (script (codes "layers 2")) ∷
    at_line 3 (script (codes "# note/layers 2/")) ∷
    at_line 3 (script (codes "layers 2/screen 2048 2048 8/")) ∷
    at_line 4 (script (codes "layers 2//screen 1025 1 1/")) ∷
    at_line 2 (script (codes "screen 1024 1024 8/")) ∷
    at_line 3 (script (codes "//")) ∷
    at_line 3 (script (codes "# note/screen 16 4 1")) ∷
    at_line 3 (screened ++ script (codes "glyph 41 0000000000000000/")) ∷
    at_line 3 (screened ++ script (codes "bitmap b 16 1 1/")) ∷
    at_line 3 (screened ++ script (codes "bitmap b 1024 1024 8/")) ∷
    at_line 4 (screened ++ script (codes "/# note/")) ∷
    at_line 4 (screened ++ script (codes "bitmap b 16 1 1/face/")) ∷
    at_line 4 (in_task_a ++ script (codes "fill w 0 0 1 1/")) ∷
    at_line 4 (in_task_a ++ script (codes "lock w/")) ∷
    at_line 4 (in_task_a ++ script (codes "open w super behind 0 0 9 14 20 20 backdrop ask rncai ''/")) ∷
    at_line 4 (screened ++ script (codes "glyph 20 ffffffffffffffff/glyph 7e ffffffffffffffff/")) ∷
    at_line 5 (in_task_a ++ script (codes "end/task b/")) ∷
    at_line 5 (screened ++ script (codes "bitmap b 16 1 2/0000/# note")) ∷
    at_line 5 (in_task_a ++ script (codes "lock w/fill w 0 0 1 1")) ∷
    at_line 5 (in_task_a ++ script (codes "hold/create w smart front 0 0 7 3/")) ∷
    at_line 5 (in_task_a ++ script (codes "hold/open w simple front 0 0 9 14 borderless nocare 't'/")) ∷
    at_line 5 (in_task_a ++ script (codes "lock w/title w 't'/")) ∷
    at_line 5 (in_task_a ++ script (codes "refresh w/getmsg w/")) ∷
    at_line 6 (created ++ script (codes "end/task b")) ∷
    at_line 6 (screened ++ script (codes "bitmap b 16 1 1/0000/bitmap B 16 1 1/0000/")) ∷
    at_line 6 (in_task_a ++ script (codes "//# note")) ∷
    at_line 6 (in_task_a ++ script (codes "activate w/title w 't'/getmsg w/")) ∷
    at_line 6 (in_task_a ++ script (codes "hold/front w/activate w/")) ∷
    at_line 6 (in_task_a ++ script (codes "lock w/scrollraster w 1 1 0 0 7 3/getmsg w/")) ∷
    at_line 6 (in_task_a ++ script (codes "refresh w/endrefresh w full/activate w/")) ∷
    at_line 6 (in_task_a ++ script (codes "fill w -32768 -32768 32767 32767/orrect 7 -32768 -32768 32767 32767/create w smart front -32768 -32768 32767 32767/")) ∷
    at_line 6 (in_task_a ++ script (codes "fill w 5 5 5 5/orrect 0 5 5 5 5/create w smart front 5 5 5 5/")) ∷
    at_line 7 (in_task_a ++ script (codes "orregion 7 7/clearregion 7/clip w 7/xorregion 0 7/")) ∷ []
