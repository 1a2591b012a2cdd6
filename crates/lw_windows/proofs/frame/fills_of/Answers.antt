use Rattle.std.proofs.Common.{◌≡◌, List, [], ◌∷◌, rules, sym, subst}
use Rattle.lw_region.specs.Rectangle.{Rectangle}
use Rattle.lw_windows.specs.Frames.{frame_fills, AreFrame, LeaveInner}
use Rattle.lw_windows.proofs.FramePixels.{fills_are_frame, fills_once}
use Rattle.lw_windows.proofs.frame.fills_of.Goals as goal

-- the four rectangles that are made
abbrev made : goal.After-filled-4 → List Rectangle
made c = c.filled.result ∷ c.filled-2.result ∷ c.filled-3.result ∷ c.filled-4.result ∷ []

made_are_fills : (c : goal.After-filled-4) → made c ≡ frame_fills c.args.w c.args.h
made_are_fills c = search rules

pub returns-clause-frame : goal.returns-clause-frame
returns-clause-frame c =
    subst (AreFrame c.args.w c.args.h) (sym (made_are_fills c))
    (fills_are_frame c.args.w c.args.h c.requires.least_width c.requires.least_height)

pub returns-clause-once : goal.returns-clause-once
returns-clause-once c =
    subst (LeaveInner c.args.w c.args.h) (sym (made_are_fills c))
    (fills_once c.args.w c.args.h c.requires.least_width c.requires.least_height)
