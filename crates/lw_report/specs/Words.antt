-- For private contracts.
-- Words of the report and what stands after them.
use Rattle.std.specs.Prelude.{ℕ, List, [], ◌∷◌, ◌++◌, codes, length}
use Rattle.std.specs.List.{flat_map, slice_index_or}
use Rattle.lw_calls.specs.declared.reply.Reply.{Reply}
use Rattle.lw_calls.specs.declared.reply.Reply.TheVariants.{Done, Pen, Outside, Nothing, Layer, Rects, Got, NotOpen}
use Rattle.lw_calls.specs.declared.reply.Reply.TheVariants.{AlreadyOpen, NotWindow, NotOwner, Backdrop, NotSuper, InUpdate}
use Rattle.lw_calls.specs.declared.reply.Reply.TheVariants.{NotInUpdate, OutOfBounds, TooManyRects}
use Rattle.lw_calls.specs.declared.last.Seen.{Seen}
use Rattle.lw_machine.specs.Report.{message_text, visible_text, damage_text, messages_text}
use Rattle.lw_calls.specs.Written.{spaced, spaced_bounds}
use Rattle.lw_report.specs.declared.layers.Part.{Part}
use Rattle.lw_report.specs.declared.layers.Part.TheVariants.{Visible, Damage, Messages}

-- what a part says of a layer with this name
abbrev pub part_text : Part → List ℕ → Seen → List ℕ
part_text Visible name seen = visible_text name seen
part_text Damage name seen = damage_text name seen
part_text Messages name seen = messages_text name seen

-- the word that a reply begins with
abbrev pub reply_word : Reply → List ℕ
reply_word Done = codes "ok"
reply_word (Pen n) = codes "pen"
reply_word Outside = codes "outside"
reply_word Nothing = codes "none"
reply_word (Layer s) = codes "layer"
reply_word (Rects rects) = codes "region"
reply_word (Got m) = codes "message"
reply_word NotOpen = codes "not-open"
reply_word AlreadyOpen = codes "already-open"
reply_word NotWindow = codes "not-window"
reply_word NotOwner = codes "not-owner"
reply_word Backdrop = codes "backdrop"
reply_word NotSuper = codes "not-super"
reply_word InUpdate = codes "in-update"
reply_word NotInUpdate = codes "not-in-update"
reply_word OutOfBounds = codes "out-of-bounds"
reply_word TooManyRects = codes "too-many-rects"

-- what a reply has after that word, where the layers have these names by slot
abbrev pub reply_rest : List (List ℕ) → Reply → List ℕ
reply_rest names (Pen n) = spaced n
reply_rest names (Layer s) = 32 ∷ slice_index_or names s []
reply_rest names (Rects rects) = spaced (length rects) ++ flat_map spaced_bounds rects
reply_rest names (Got m) = 32 ∷ message_text m
reply_rest names reply = []
