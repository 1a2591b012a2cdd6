-- Worked cases.
-- A plan of calls on layers that are not open, and its report.
use Rattle.std.specs.Prelude.{ℕ, true, List, [], ◌∷◌, ◌++◌, pos, codes}
use Rattle.std.specs.List.{flat_map, range_with_len}
use Rattle.lw_calls.specs.declared.make.Kind.TheVariants.{Smart}
use Rattle.lw_calls.specs.declared.call.Call.{Call}
use Rattle.lw_calls.specs.declared.call.Call.TheVariants.{Close, ToFront, ToBack, InFrontOf, MoveBy, SizeBy, SetBox, Activate}
use Rattle.lw_calls.specs.declared.call.Call.TheVariants.{SetHook, SetA, SetB, SetMode, SetMask, At, WritePixel, ReadPixel}
use Rattle.lw_calls.specs.declared.call.Call.TheVariants.{DrawTo, Letters, SetRast, Clip, Unclip, BeginRefresh, EndRefresh}
use Rattle.lw_calls.specs.declared.call.Call.TheVariants.{Scroll, SetTitle, TakeMessage}
use Rattle.lw_calls.specs.Plan.{Plan}
use Rattle.lw_cases.specs.Plans.{text, one_task, of_version, with_bitmap, create, fill, scroll_left, blit_row, blit_across}
use Rattle.lw_cases.specs.Plans.{put_row}
use Rattle.lw_cases.specs.Copying.{flat_row}

-- each of the 33 calls that name a layer, on this one; where the call names two, the other is that of slot 1, on both sides
abbrev pub calls_on : ℕ → List Call
calls_on s =
    Close s ∷ ToFront s ∷ ToBack s ∷ InFrontOf s 1 ∷ InFrontOf 1 s ∷ MoveBy s (pos 1) (pos 0) ∷ SizeBy s (pos 1) (pos 0) ∷
    SetBox s (pos 0) (pos 0) (pos 2) (pos 1) ∷ Activate s ∷ SetHook s 0 ∷ SetA s 0 ∷ SetB s 1 ∷ SetMode s 0 ∷
    SetMask s 0 ∷ At s (pos 1) (pos 0) ∷ WritePixel s (pos 0) (pos 0) ∷ ReadPixel s (pos 0) (pos 0) ∷ fill s 0 0 3 0 ∷
    DrawTo s (pos 3) (pos 0) ∷ Letters s (codes "A") ∷ SetRast s 1 ∷ scroll_left s 1 0 0 3 0 ∷
    put_row (pos 0) s 0 4 192 ∷ blit_row s 0 1 3 192 ∷ blit_across s 0 1 0 4 192 ∷ blit_across 1 0 s 0 4 192 ∷
    Clip s 0 ∷ Unclip s ∷ BeginRefresh s ∷ EndRefresh s true ∷ Scroll s (pos 0) (pos 0) ∷ SetTitle s (codes "A") ∷
    TakeMessage s ∷ []

-- these calls on a layer that is never created, and on one that was deleted
abbrev pub calls_on_none : Plan
calls_on_none =
    of_version 2 (with_bitmap (codes "flat") flat_row (one_task 16 1 1 (codes "n" ∷ codes "w" ∷ codes "d" ∷
    []) (create 1 Smart 0 0 3 0 ∷ fill 1 0 0 1 0 ∷ create 2 Smart 4 0 7 0 ∷ Close 2 ∷ calls_on 0 ++ calls_on 2)))

abbrev pub calls_on_none_report : List ℕ
calls_on_none_report =
    text (codes "order 70/" ++ flat_map (λ _. codes "0 ") (range_with_len 0 63)
    ++ codes "0/0 0 0 0 0 0/planes 16 1 1/plane 0/c000/visible w 1/0 0 3 0/damage w 0/"
    ++ codes "replies a 70/ok/ok/ok/ok/" ++ flat_map (λ _. codes "not-open/") (range_with_len 0 66) ++ codes "done/")
