-- A refused call changes nothing.
use Rattle.std.proofs.Common.{◌≡◌, ℕ, Bool, true, false, if◌then◌else◌, List, [], ◌∷◌, Option, Some, None, IsTrue, refl, sym, ◌∙◌}
use Rattle.std.proofs.lemmas.Bool.{false≢true}
use Rattle.lw_region.specs.Pixels.{Pixel}
use Rattle.lw_calls.specs.declared.message.Message.{Message}
use Rattle.lw_calls.specs.declared.call.Call.{Call}
use Rattle.lw_calls.specs.declared.call.Call.TheVariants.{Which, WritePixel, ReadPixel, Clip, Unclip, TakeMessage}
use Rattle.lw_calls.specs.declared.reply.Reply.{Reply}
use Rattle.lw_calls.specs.declared.reply.Reply.TheVariants.{Done, Pen, Outside}
use Rattle.lw_machine.specs.Layer.{Layer, Window, Slot, Unopened, Live, Closed}
use Rattle.lw_machine.specs.Desk.{Desk}
use Rattle.lw_machine.specs.Screen.{top}
use Rattle.lw_machine.specs.Step.{refusal, effect, answer, after, reply, changed_unless, reply_or, found, from_layer, clip_answer}
use Rattle.lw_machine.specs.Step.{window_answer, message_answer}
use Rattle.lw_machine.specs.Laws.{is_refusing}

-- a pen that is read, or none, accepts
pen_accepts : (t : Bool) (n : ℕ) → is_refusing (if t then Pen n else Outside) ≡ false
pen_accepts true n = refl
pen_accepts false n = refl

-- a pixel that is written, or isn't, accepts
write_accepts : (t : Bool) → is_refusing (if t then Done else Outside) ≡ false
write_accepts true = refl
write_accepts false = refl

-- a look accepts
found_accepts : (o : Option ℕ) → is_refusing (found o) ≡ false
found_accepts None = refl
found_accepts (Some s) = refl

-- an answer from a layer accepts, if each layer's does
layer_accepts : (f : Layer → Reply) (s : Slot) → ((l : Layer) → is_refusing (f l) ≡ false) → is_refusing (from_layer f s) ≡ false
layer_accepts f Unopened h = refl
layer_accepts f (Live l) h = h l
layer_accepts f Closed h = refl

-- the answer of a clip region accepts
clip_accepts : (o : Option (List Pixel)) → is_refusing (clip_answer o) ≡ false
clip_accepts None = refl
clip_accepts (Some set) = refl

-- the answer of a port accepts
message_accepts : (ms : List Message) → is_refusing (message_answer ms) ≡ false
message_accepts [] = refl
message_accepts (m ∷ ms) = refl

window_accepts : (o : Option Window) → is_refusing (window_answer o) ≡ false
window_accepts None = refl
window_accepts (Some w) = message_accepts w.port

-- no answer of a call that isn't refused refuses
pub answers_accept : (d : Desk) (task : ℕ) (call : Call) → is_refusing (answer d task call) ≡ false
answers_accept d task (Which x y) = found_accepts (top d x y)
answers_accept d task (WritePixel slot x y) = layer_accepts _ (d.slot slot) (λ l. write_accepts _)
answers_accept d task (ReadPixel slot x y) = layer_accepts _ (d.slot slot) (λ l. pen_accepts _ _)
answers_accept d task (Clip slot register) = layer_accepts _ (d.slot slot) (λ l. clip_accepts l.clip)
answers_accept d task (Unclip slot) = layer_accepts _ (d.slot slot) (λ l. clip_accepts l.clip)
answers_accept d task (TakeMessage slot) = layer_accepts _ (d.slot slot) (λ l. window_accepts l.window)
answers_accept d task call = refl

-- where the answer accepts and the reply refuses, the call was refused
by_refusal : (o : Option Reply) (r : Reply) (d e : Desk) → is_refusing r ≡ false → IsTrue (is_refusing (reply_or o r))
    → changed_unless o d e ≡ d
by_refusal None r d e h k = absurd (false≢true (sym h ∙ k))
by_refusal (Some q) r d e h k = refl

-- A refused call changes nothing.
pub refused_unchanged : (d : Desk) (task : ℕ) (call : Call) → IsTrue (is_refusing (reply d task call)) → after d task call ≡ d
unfolding after reply
refused_unchanged d task call h =
    by_refusal (refusal d task call) (answer d task call) d (effect d task call) (answers_accept d task call) h
