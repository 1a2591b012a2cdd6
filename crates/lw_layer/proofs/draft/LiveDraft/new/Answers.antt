use Rattle.std.proofs.Common.{◌≡◌, ◌∙◌, sym, ap, refl, subst, false, List, [], Option, None, pos}
use Rattle.lw_region.specs.Rectangle.{Rectangle, width, height}
use Rattle.lw_planes.specs.Bitmap.{Bitmap}
use Rattle.lw_cliprects.specs.Parts.{Division, hidden_of}
use Rattle.lw_damage.specs.Damaged.{Damaged}
use Rattle.lw_calls.specs.Kinds.{is_super}
use Rattle.lw_machine.specs.Layer.{is_framed}
use Rattle.lw_layer.specs.Pieces.{inner_of}
use Rattle.lw_layer.specs.Drafts.{IsLiveDraft, window_of, room_of, live_view}
use Rattle.lw_layer.specs.New.{kept_hidden, own_blank, AreBlank, AreBlankStrips, new_live}
use Rattle.lw_layer.specs.declared.draft.LiveDraft.{LiveDraft}
use Rattle.lw_layer.proofs.NewDraftLaws.{new_draft, new_sound, new_view}
use Rattle.lw_layer.proofs.draft.LiveDraft.new.Goals as goal

pub returns-clause-draft : goal.returns-clause-draft
returns-clause-draft c =
    let make = c.args.make.now in
    let bounds = c.args.bounds.now in
    let visible = c.args.visible.now in
    let g : LiveDraft = record {
      kind = make.kind;
      backdrop = make.backdrop;
      bounds = bounds;
      scroll_x = pos 0;
      scroll_y = pos 0;
      depth = c.args.depth;
      raster = record { a = 1; b = 0; mode = 1; mask = 255; x = pos 0; y = pos 0 };
      clip = None;
      damage = c.new.result;
      parts = c.in_ok-parts.parts;
      strips = c.in_ok-strips.strips;
      covered = c.in_ok-covered.covered;
      superbits = c.in_ok-superbits.superbits;
      active = false;
      window = c.args.window;
    } in
    let parts : c.in_ok-parts.parts ≡ record { bounds = bounds; visible = visible } = rw c.in_ok-shown.ensures at c.in_ok-parts.ensures in
    let damage : c.new.result ≡ record { inner = inner_of (is_super make.kind) (is_framed (window_of c.args.window)) (width bounds) (height bounds); rects = []; updating = false } = c.new.ensures ∙ ap (λ i. record { inner = i; rects = []; updating = false }) (c.inner_rectangle-inner.ensures ∙ ap (λ f. inner_of (is_super make.kind) f (width bounds) (height bounds)) c.is_framed.ensures) in
    let own : c.in_ok-superbits.superbits ≡ own_blank make.kind c.args.depth make = c.in_ok-superbits.ensures in
    let same : (λ (p : Division). p.visible) c.in_ok-parts.parts ≡ visible = ap (λ (p : Division). p.visible) parts in
    let S : List Rectangle → Type 0 = λ rs. AreBlankStrips c.args.depth rs c.in_ok-strips.strips.items in
    let shown : S visible = subst S (c.visible.ensures.value ∙ same) c.in_ok-strips.ensures in
    let C : List Rectangle → Type 0 = λ rs. AreBlank c.args.depth (kept_hidden make.kind (hidden_of bounds rs)) c.in_ok-covered.covered.items in
    let covered : C visible = subst C same c.in_ok-covered.ensures in
    let q : LiveDraft = new_draft g make.kind make c.args.depth bounds visible c.args.window in
    let made : Damaged → Division → Option Bitmap → LiveDraft = λ dm p o. record q { damage = dm; parts = p; superbits = o } in
    let sound : IsLiveDraft q = new_sound g make.kind make c.args.depth bounds visible c.args.window refl c.requires.size c.requires.frameless c.requires.frame shown covered in
    let D : Damaged → Type 0 = λ dm. IsLiveDraft (made dm (record { bounds = bounds; visible = visible }) (own_blank make.kind c.args.depth make)) in
    let R : Division → Type 0 = λ p. IsLiveDraft (made c.new.result p (own_blank make.kind c.args.depth make)) in
    let O : Option Bitmap → Type 0 = λ o. IsLiveDraft (made c.new.result c.in_ok-parts.parts o) in
    subst O (sym own) (subst R (sym parts) (subst D (sym damage) sound))

pub returns-clause-layer : goal.returns-clause-layer
returns-clause-layer c =
    let make = c.args.make.now in
    let bounds = c.args.bounds.now in
    let visible = c.args.visible.now in
    let g : LiveDraft = record {
      kind = make.kind;
      backdrop = make.backdrop;
      bounds = bounds;
      scroll_x = pos 0;
      scroll_y = pos 0;
      depth = c.args.depth;
      raster = record { a = 1; b = 0; mode = 1; mask = 255; x = pos 0; y = pos 0 };
      clip = None;
      damage = c.new.result;
      parts = c.in_ok-parts.parts;
      strips = c.in_ok-strips.strips;
      covered = c.in_ok-covered.covered;
      superbits = c.in_ok-superbits.superbits;
      active = false;
      window = c.args.window;
    } in
    let parts : c.in_ok-parts.parts ≡ record { bounds = bounds; visible = visible } = rw c.in_ok-shown.ensures at c.in_ok-parts.ensures in
    let damage : c.new.result ≡ record { inner = inner_of (is_super make.kind) (is_framed (window_of c.args.window)) (width bounds) (height bounds); rects = []; updating = false } = c.new.ensures ∙ ap (λ i. record { inner = i; rects = []; updating = false }) (c.inner_rectangle-inner.ensures ∙ ap (λ f. inner_of (is_super make.kind) f (width bounds) (height bounds)) c.is_framed.ensures) in
    let own : c.in_ok-superbits.superbits ≡ own_blank make.kind c.args.depth make = c.in_ok-superbits.ensures in
    let same : (λ (p : Division). p.visible) c.in_ok-parts.parts ≡ visible = ap (λ (p : Division). p.visible) parts in
    let S : List Rectangle → Type 0 = λ rs. AreBlankStrips c.args.depth rs c.in_ok-strips.strips.items in
    let shown : S visible = subst S (c.visible.ensures.value ∙ same) c.in_ok-strips.ensures in
    let C : List Rectangle → Type 0 = λ rs. AreBlank c.args.depth (kept_hidden make.kind (hidden_of bounds rs)) c.in_ok-covered.covered.items in
    let covered : C visible = subst C same c.in_ok-covered.ensures in
    let q : LiveDraft = new_draft g make.kind make c.args.depth bounds visible c.args.window in
    let made : Damaged → Division → Option Bitmap → LiveDraft = λ dm p o. record q { damage = dm; parts = p; superbits = o } in
    let view : live_view q ≡ new_live make c.args.depth bounds visible (window_of c.args.window) (room_of c.args.window) = new_view g make c.args.depth bounds visible c.args.window c.requires.size shown covered in
    let all = new_live make c.args.depth bounds visible (window_of c.args.window) (room_of c.args.window) in
    let D : Damaged → Type 0 = λ dm. live_view (made dm (record { bounds = bounds; visible = visible }) (own_blank make.kind c.args.depth make)) ≡ all in
    let R : Division → Type 0 = λ p. live_view (made c.new.result p (own_blank make.kind c.args.depth make)) ≡ all in
    let O : Option Bitmap → Type 0 = λ o. live_view (made c.new.result c.in_ok-parts.parts o) ≡ all in
    subst O (sym own) (subst R (sym parts) (subst D (sym damage) view))
