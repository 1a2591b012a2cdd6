-- Desks that tasks share which keep apart: a call of such a task leaves the desk so.
use Rattle.std.proofs.Common.{◌≡◌, ℕ, ◌==◌, Bool, true, false, Option, Some, None, IsTrue, refl, sym, ap, subst, ⊎_elim, ◌∙◌}
use Rattle.std.proofs.Common.{option_and_then}
use Rattle.std.specs.Prelude.{if◌then◌else◌}
use Rattle.std.proofs.lemmas.Bool.{eqb-true}
use Rattle.lw_calls.specs.declared.make.Make.{Make}
use Rattle.lw_calls.specs.declared.call.Call.{Call}
use Rattle.lw_calls.specs.declared.call.Call.TheVariants.{Create, ToFront, SetA, ReadPixel, Fill}
use Rattle.lw_calls.specs.declared.reply.Reply.{Reply}
use Rattle.lw_calls.specs.Limits.{call_fits}
use Rattle.lw_machine.specs.Layer.{Layer, Slot, Live, change_layer}
use Rattle.lw_machine.specs.Desk.{Desk}
use Rattle.lw_machine.specs.Screen.{is_shown}
use Rattle.lw_machine.specs.Kept.{is_visible}
use Rattle.lw_machine.specs.Shapes.{rect_fill}
use Rattle.lw_machine.specs.Arrangement.{bounds_of, new_layer, hook_from, arranged}
use Rattle.lw_machine.specs.Reveal.{across, settled_layer, settled}
use Rattle.lw_machine.specs.Step.{with_pen_a, on_layer, refusal, effect, changed_unless, after}
use Rattle.lw_machine.specs.Sound.{IsDesk}
use Rattle.lw_machine.proofs.Settling.{changed_or_not}
use Rattle.lw_machine.proofs.ReachedSound.{step_sound}
use Rattle.lw_apart.specs.Apart.{Shares, IsOwn}
use Rattle.lw_apart.proofs.Plain.{plain, filled_plain}
use Rattle.lw_apart.proofs.Tops.{IsIn}
use Rattle.lw_apart.proofs.Slots.{plain_slot, changed_plain, settled_stays_plain}

-- All layers are plain, and have their bounds in columns of their own tasks.
pub record IsOrdinary (shares : Shares) (d : Desk) : Type 0 where
  pub columns : (s : ℕ) → IsIn shares (shares.slot s) (d.bounds s)
  pub plain : (s : ℕ) → d.slot s ≡ plain_slot (d.slot s)

-- a desk is settled so
settled_ordinary : (shares : Shares) (d a : Desk) → IsOrdinary shares a → IsOrdinary shares (settled d a)
settled_ordinary shares d a ok = record {
  columns = ok.columns;
  plain = λ s. ⊎_elim (changed s) (left s) (changed_or_not a.front_to_back change a.slot s);
}
  where
    change : ℕ → Slot → Slot
    change s x = change_layer (settled_layer d.assets.glyphs (across d a s)) x

    changed : (s : ℕ) → (settled d a).slot s ≡ change s (a.slot s) → (settled d a).slot s ≡ plain_slot ((settled d a).slot s)
    changed s is =
        is ∙ (changed_plain (settled_layer d.assets.glyphs (across d a s)) (settled_stays_plain d.assets.glyphs (across d a s))
        (a.slot s) (ok.plain s) ∙ sym (ap plain_slot is))

    left : (s : ℕ) → (settled d a).slot s ≡ a.slot s → (settled d a).slot s ≡ plain_slot ((settled d a).slot s)
    left s is = is ∙ (ok.plain s ∙ sym (ap plain_slot is))

-- a call on one layer leaves it so, where it keeps plain layers plain
layer_ordinary : (shares : Shares) (d : Desk) (slot : ℕ) (f : Layer → Layer) → ((l : Layer) → f (plain l) ≡ plain (f (plain l)))
    → IsOrdinary shares d → IsOrdinary shares (on_layer d slot f)
layer_ordinary shares d slot f keeps ok = record { columns = ok.columns; plain = λ s. go s (s == slot) }
  where
    go : (s : ℕ) (b : Bool) → (if b then change_layer f (d.slot slot) else d.slot s) ≡ plain_slot
        (if b then change_layer f (d.slot slot) else d.slot s)
    go s true = changed_plain f keeps (d.slot slot) (ok.plain slot)
    go s false = ok.plain s

-- a desk with a new layer is so
pub created_ordinary : (shares : Shares) (d : Desk) (task slot : ℕ) (make : Make) → IsOwn shares task (Create slot make)
    → IsOrdinary shares d → IsOrdinary shares (arranged d task (Create slot make))
created_ordinary shares d task slot make own ok =
    record { columns = λ s. columns s (s == slot) refl; plain = λ s. go s (s == slot) }
  where
    columns : (s : ℕ) (b : Bool) → (s == slot) ≡ b → IsIn shares (shares.slot s) (if b then Some (bounds_of make) else d.bounds s)
    columns s true is =
        subst (λ t. IsIn shares t (Some (bounds_of make))) (sym (ap shares.slot (eqb-true s slot is) ∙ own.0)) own.2
    columns s false is = ok.columns s

    go : (s : ℕ) (b : Bool) → (if b then Live (new_layer d.sizes.depth make (hook_from d.shelf make.hook) None) else d.slot s)
        ≡ plain_slot (if b then Live (new_layer d.sizes.depth make (hook_from d.shelf make.hook) None) else d.slot s)
    go s true =
        let none = ap (option_and_then d.shelf) own.1 in
        (λ i. Live (new_layer d.sizes.depth make (none i) None)) ∙
        (λ i. plain_slot (Live (new_layer d.sizes.depth make (sym none i) None)))
    go s false = ok.plain s

-- what a call makes of such a desk
effect_ordinary : (shares : Shares) (d : Desk) (task : ℕ) (call : Call) → IsOwn shares task call → IsOrdinary shares d
    → IsOrdinary shares (effect d task call)
unfolding is_visible
effect_ordinary shares d task (Create slot make) own ok =
    settled_ordinary shares d (arranged d task (Create slot make)) (created_ordinary shares d task slot make own ok)
effect_ordinary shares d task (ToFront slot) own ok =
    settled_ordinary shares d (arranged d task (ToFront slot)) (record { columns = ok.columns; plain = ok.plain })
effect_ordinary shares d task (SetA slot pen) own ok = layer_ordinary shares d slot (with_pen_a pen) (λ l. refl) ok
effect_ordinary shares d task (Fill slot rect) own ok =
    layer_ordinary shares d slot (λ l. rect_fill (is_visible d slot l) rect l)
    (λ l. filled_plain (is_shown d slot) (d.bounds slot) rect l) ok
effect_ordinary shares d task (ReadPixel slot x y) own ok = ok
effect_ordinary shares d task call own ok = absurd own

-- A sound desk that is so.
pub record IsShared (shares : Shares) (d : Desk) : Type 0 where
  pub sound : IsDesk d
  pub ordinary : IsOrdinary shares d

pub shared_after : (shares : Shares) (d : Desk) (task : ℕ) (call : Call) → IsTrue (call_fits d.sizes call)
    → IsOwn shares task call → IsShared shares d → IsShared shares (after d task call)
unfolding after
shared_after shares d task call fits own ok =
    record { sound = step_sound d task call ok.sound fits; ordinary = go (refusal d task call) }
  where
    go : (o : Option Reply) → IsOrdinary shares (changed_unless o d (effect d task call))
    go None = effect_ordinary shares d task call own ok.ordinary
    go (Some r) = ok.ordinary
