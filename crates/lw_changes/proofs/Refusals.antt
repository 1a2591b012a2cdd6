-- A call whose reply refuses it leaves the desk.
use Rattle.std.proofs.Common.{◌≡◌, ℕ, Bool, true, false, if◌then◌else◌, List, [], ◌∷◌, Option, Some, None, refl}
use Rattle.std.proofs.Common.{unsigned_abs}
use Rattle.std.proofs.lemmas.Bool.{both_ways}
use Rattle.lw_region.specs.Pixels.{Pixel}
use Rattle.lw_planes.specs.Bitmap.{pen_at}
use Rattle.lw_calls.specs.declared.message.Message.{Message}
use Rattle.lw_calls.specs.declared.call.Call.{Call}
use Rattle.lw_calls.specs.declared.call.Call.TheVariants.{Which, WritePixel, ReadPixel, Clip, Unclip, TakeMessage}
use Rattle.lw_calls.specs.declared.reply.Reply.{Reply}
use Rattle.lw_calls.specs.declared.reply.Reply.TheVariants.{Done, Pen, Outside}
use Rattle.lw_machine.specs.Layer.{Layer, Window, Slot, Unopened, Live, Closed}
use Rattle.lw_machine.specs.Desk.{Desk}
use Rattle.lw_machine.specs.Screen.{top}
use Rattle.lw_machine.specs.Kept.{is_visible, is_kept, is_drawable, holds_at}
use Rattle.lw_machine.specs.Step.{refusal, found, from_layer, clip_answer, message_answer, window_answer, answer, effect}
use Rattle.lw_machine.specs.Step.{changed_unless, reply_or, reply, after}
use Rattle.lw_changes.specs.Refusing.{is_refusal}
use Rattle.lw_changes.specs.Laws.{RefusalsLeaveTheDesk}

found_one : (o : Option ℕ) → is_refusal (found o) ≡ false
found_one None = refl
found_one (Some s) = refl

of_layer : (f : Layer → Reply) (q : Slot) → ((l : Layer) → is_refusal (f l) ≡ false) → is_refusal (from_layer f q) ≡ false
of_layer f Unopened each = refl
of_layer f (Live l) each = each l
of_layer f Closed each = refl

either : (b : Bool) (r s : Reply) → is_refusal r ≡ false → is_refusal s ≡ false → is_refusal (if b then r else s) ≡ false
either true r s one other = one
either false r s one other = other

of_clip : (o : Option (List Pixel)) → is_refusal (clip_answer o) ≡ false
of_clip None = refl
of_clip (Some set) = refl

of_port : (ms : List Message) → is_refusal (message_answer ms) ≡ false
of_port [] = refl
of_port (m ∷ ms) = refl

of_window : (o : Option Window) → is_refusal (window_answer o) ≡ false
of_window None = refl
of_window (Some w) = of_port w.port

-- what isn't refused isn't answered so
answered : (d : Desk) (task : ℕ) (call : Call) → is_refusal (answer d task call) ≡ false
answered d task (Which x y) = found_one (top d x y)
answered d task (WritePixel slot x y) =
    of_layer _ (d.slot slot)
    (λ l. either (holds_at (is_drawable (is_visible d slot l) l) x y) Done Outside refl refl)
answered d task (ReadPixel slot x y) =
    of_layer _ (d.slot slot)
    (λ l. either (holds_at (is_kept (is_visible d slot l) l) x y) (Pen (pen_at l.bits (unsigned_abs x) (unsigned_abs y))) Outside
    refl refl)
answered d task (Clip slot register) = of_layer _ (d.slot slot) (λ l. of_clip l.clip)
answered d task (Unclip slot) = of_layer _ (d.slot slot) (λ l. of_clip l.clip)
answered d task (TakeMessage slot) = of_layer _ (d.slot slot) (λ l. of_window l.window)
answered d task call = refl

pub refused_leaves : RefusalsLeaveTheDesk
unfolding after reply
refused_leaves d task call refused = go (refusal d task call) refused
  where
    go : (o : Option Reply) → is_refusal (reply_or o (answer d task call)) ≡ true → changed_unless o d (effect d task call) ≡ d
    go None is = absurd (both_ways (is_refusal (answer d task call)) (answered d task call) is)
    go (Some r) is = refl
