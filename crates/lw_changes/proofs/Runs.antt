-- A history changes the screen only where its calls do.
use Rattle.std.proofs.Common.{◌≡◌, ℕ, false, List, [], ◌∷◌, All, pos, IsTrue, refl, sym, subst, ◌∙◌}
use Rattle.std.proofs.lemmas.List.Elements.{All-head, All-tail}
use Rattle.lw_region.specs.Bands.{covers}
use Rattle.lw_planes.specs.Bitmap.{pen_at}
use Rattle.lw_calls.specs.declared.sizes.Sizes.{Sizes}
use Rattle.lw_calls.specs.declared.entry.Entry.{Entry}
use Rattle.lw_calls.specs.Limits.{call_fits}
use Rattle.lw_machine.specs.Desk.{Desk}
use Rattle.lw_machine.specs.Screen.{screen}
use Rattle.lw_machine.specs.Step.{after}
use Rattle.lw_machine.specs.History.{machine}
use Rattle.lw_machine.specs.Sound.{IsDesk}
use Rattle.lw_machine.proofs.ReachedSound.{step_sound, after_sizes}
use Rattle.lw_changes.specs.Touched.{touched, touched_since}
use Rattle.lw_changes.proofs.Places.{covers_neither}
use Rattle.lw_changes.proofs.Calls.{changes_where_it_lies}

pub runs_change : (d : Desk) (es : List Entry) (x y : ℕ) → IsDesk d → All (λ e. IsTrue (call_fits d.sizes e.call)) es
    → covers (touched_since d es) (pos x) (pos y) ≡ false → pen_at (screen (machine d es)) x y ≡ pen_at (screen d) x y
runs_change d [] x y ok fit off = refl
runs_change d (e ∷ es) x y ok fit off =
    let next : Desk = after d e.task e.call in
    let fits : IsTrue (call_fits d.sizes e.call) = All-head (λ e. IsTrue (call_fits d.sizes e.call)) e es fit in
    let rest : All (λ e. IsTrue (call_fits d.sizes e.call)) es = All-tail (λ e. IsTrue (call_fits d.sizes e.call)) e es fit in
    let P : Sizes → Type 0 = λ sizes. All (λ e. IsTrue (call_fits sizes e.call)) es in
    let parts = covers_neither (touched d e.call next) (touched_since next es) (pos x) (pos y) off in
    runs_change next es x y (step_sound d e.task e.call ok fits) (subst P (sym (after_sizes d e.task e.call)) rest) parts.1
    ∙ changes_where_it_lies d e.task e.call x y ok parts.0
