-- A draft stays one where the window changes that its layer is, and which slot it then stands for.
use Rattle.std.proofs.Common.{◌≡◌, Bool, Option, Some, None, ◌∙◌, sym, refl, ap}
use Rattle.lw_calls.specs.Kinds.{is_super}
use Rattle.lw_machine.specs.Kept.{is_kept}
use Rattle.lw_machine.specs.Layer.{Window, is_framed, changed_window}
use Rattle.lw_layer.specs.View.{keeps}
use Rattle.lw_layer.specs.Pieces.{inner_of}
use Rattle.lw_layer.specs.Drafts.{IsLiveDraft, layout, window_of}
use Rattle.lw_layer.specs.declared.draft.LiveDraft.{LiveDraft}
use Rattle.lw_layer.specs.declared.windows.WindowDraft.{WindowDraft}

-- the window has a frame exactly where the former one had
pub window_replaced : (d : LiveDraft) (w : Option WindowDraft) → is_framed (window_of w) ≡ is_framed (window_of d.window) → IsLiveDraft d → IsLiveDraft (record d { window = w })
unfolding keeps is_kept
window_replaced d w same ok = record {
  place = ok.place;
  mode = ok.mode;
  buffers = ok.buffers;
  damage = record {
    inner = ok.damage.inner ∙ ap (λ f. inner_of (is_super d.kind) f (layout d).width (layout d).height) (sym same);
    kept = ok.damage.kept;
  };
  frame = rw same ok.frame;
}

-- a change of a window that leaves it its frame
framed_stays : (f : Window → Window) (w : Option Window) → ((v : Window) → (f v).framed ≡ v.framed) → is_framed (changed_window f w) ≡ is_framed w
framed_stays f None same = refl
framed_stays f (Some w) same = same w

pub window_changed : (d : LiveDraft) (w : Option WindowDraft) (f : Window → Window) → window_of w ≡ changed_window f (window_of d.window) → ((v : Window) → (f v).framed ≡ v.framed) → IsLiveDraft d → IsLiveDraft (record d { window = w })
window_changed d w f is same ok = window_replaced d w (ap is_framed is ∙ framed_stays f (window_of d.window) same) ok

-- whether the layer is the active window
pub active_replaced : (d : LiveDraft) (active : Bool) → IsLiveDraft d → IsLiveDraft (record d { active = active })
unfolding keeps is_kept
active_replaced d active ok = record {
  place = ok.place;
  mode = ok.mode;
  buffers = ok.buffers;
  damage = ok.damage;
  frame = ok.frame;
}
