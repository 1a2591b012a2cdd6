-- What a cell tells of its layer without its pixels.
use Rattle.std.specs.Prelude.{◌≡◌, ℕ, if◌then◌else◌, pos, Option, Some, None}
use Rattle.lw_calls.specs.Kinds.{is_super}
use Rattle.lw_machine.specs.Layer.{Window, is_framed}
use Rattle.lw_layer.specs.View.{State, LiveView}
use Rattle.lw_layer.specs.View as view
use Rattle.lw_layer.specs.declared.look.Look.{Look}

-- the task that opened the window, if the layer is one
abbrev pub owner_of : Option Window → Option ℕ
owner_of None = None
owner_of (Some w) = Some w.owner

pub record IsLook (c : LiveView) (k : Look) : Type 0 where
  pub kind : k.kind ≡ c.layer.kind
  pub backdrop : k.backdrop ≡ c.layer.backdrop
  pub bounds : k.bounds ≡ c.bounds
  pub scroll_x : k.scroll_x ≡ pos c.layer.scroll_x
  pub scroll_y : k.scroll_y ≡ pos c.layer.scroll_y
  pub bits_w : k.bits_w ≡ (if is_super c.layer.kind then c.layer.bits.width else 0)
  pub bits_h : k.bits_h ≡ (if is_super c.layer.kind then c.layer.bits.height else 0)
  pub framed : k.framed ≡ is_framed c.layer.window
  pub owner : k.owner ≡ owner_of c.layer.window
  pub active : k.active ≡ c.active
  pub updating : k.updating ≡ c.layer.updating

-- the look of a live layer, and none of a slot that isn't live
abbrev pub IsLookAt : State → LiveView → Option Look → Type 0
IsLookAt view.Unopened c k = k ≡ None
IsLookAt view.Closed c k = k ≡ None
IsLookAt view.Live c None = ⊥
IsLookAt view.Live c (Some k) = IsLook c k
