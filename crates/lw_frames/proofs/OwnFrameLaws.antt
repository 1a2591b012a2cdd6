-- Painting the frame of a window with its own title, which is taken out and put back.
use Rattle.std.proofs.Common.{◌≡◌, ℕ, Bool, true, ◌&&◌, List, [], Option, Some, None, ◌∙◌, sym, refl, ap}
use Rattle.std.specs.Prelude.{if◌then◌else◌}
use Rattle.lw_machine.specs.Layer.{Layer, Window, is_framed, is_window, changed_window, change_window}
use Rattle.lw_machine.specs.Kept.{is_kept}
use Rattle.lw_machine.specs.Paint.{with_pens, pen_within}
use Rattle.lw_machine.specs.Reveal.{in_frame, framing_pen}
use Rattle.lw_layer.specs.View.{LiveView, keeps, with_layer}
use Rattle.lw_layer.specs.Windows.{title_of}
use Rattle.lw_frames.specs.Framing.{framed, with_own_frame}

-- a layer with a frame is a window
pub framed_window : (o : Option Window) → is_framed o ≡ true → is_window o ≡ true
framed_window None is = is
framed_window (Some w) is = refl

-- a window with another title is one
pub titled_window : (o : Option Window) (title : List ℕ) → is_window o ≡ true → is_window (changed_window (λ w. record w { title = title }) o) ≡ true
titled_window None title is = is
titled_window (Some w) title is = refl

-- the layer with another title of its window
abbrev pub titled : List ℕ → LiveView → LiveView
titled title v = with_layer (λ l. change_window (λ w. record w { title = title }) l) v

pub own_framed : (v u w z : LiveView) (glyphs : List (List ℕ)) (former : List ℕ) (active : Bool) → is_framed v.layer.window ≡ true
    → former ≡ title_of v.layer.window → u ≡ titled [] v → w ≡ framed glyphs former active u → z ≡ titled former w
    → z ≡ with_own_frame glyphs active v
unfolding with_pens keeps is_kept
own_framed v u w z glyphs former active has title taken painted back =
    back ∙ (ap (titled former) (painted ∙ ap (framed glyphs former active) taken) ∙ by_window v.layer.window refl has)
  where
    Own : Option Window → LiveView
    Own o = with_layer (λ l. record l { window = o }) v

    by_window : (o : Option Window) → v.layer.window ≡ o → is_framed o ≡ true
        → titled former (framed glyphs former active (titled [] v)) ≡ with_own_frame glyphs active v
    by_window None is none = absurd (cc none)
    by_window (Some t) is framing =
        let l : Layer = v.layer in
        let Framed : Bool → Option Window → LiveView = λ b o. record v { layer = if b then with_pens (λ x y. keeps v x y && in_frame l.bits.width l.bits.height x y) (λ x y. pen_within l.bits.depth (framing_pen glyphs t.title active l.bits.width x y)) (record l { window = o }) else record l { window = o } } in
        ap (λ o. titled former (framed glyphs former active (titled [] (Own o)))) is
        ∙ (ap (λ n. titled n (framed glyphs n active (titled [] (Own (Some t))))) (title ∙ ap title_of is)
        ∙ (ap (λ b. Framed b (Some t)) (sym framing)
        ∙ ap (λ o. with_own_frame glyphs active (Own o)) (sym is)))
