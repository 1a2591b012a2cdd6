-- For private contracts.
-- Families of calls by what their lines have after the first word.
use Rattle.std.specs.Prelude.{Bool, true, false}
use Rattle.lw_calls.specs.declared.call.Call.{Call}
use Rattle.lw_calls.specs.declared.call.Call.TheVariants.{RegRect, RegPair, RegClear, Create, OpenWindow, Close, ToFront}
use Rattle.lw_calls.specs.declared.call.Call.TheVariants.{ToBack, InFrontOf, SetBox, Activate, Which, Fill, Letters}
use Rattle.lw_calls.specs.declared.call.Call.TheVariants.{ScrollRaster, Put, Blit, Unclip, BeginRefresh, EndRefresh, SetTitle}
use Rattle.lw_calls.specs.declared.call.Call.TheVariants.{TakeMessage}

-- a layer comes first
abbrev pub begins_with_a_layer : Call → Bool
begins_with_a_layer (RegRect op register rect) = false
begins_with_a_layer (RegPair op source into) = false
begins_with_a_layer (RegClear register) = false
begins_with_a_layer (Which x y) = false
begins_with_a_layer (Put bitmap slot area) = false
begins_with_a_layer (Blit source slot area) = false
begins_with_a_layer call = true

-- one layer comes first, and then nothing but numbers
abbrev pub has_layer_and_numbers : Call → Bool
has_layer_and_numbers (RegRect op register rect) = false
has_layer_and_numbers (RegPair op source into) = false
has_layer_and_numbers (RegClear register) = false
has_layer_and_numbers (Which x y) = false
has_layer_and_numbers (Put bitmap slot area) = false
has_layer_and_numbers (Blit source slot area) = false
has_layer_and_numbers (Close slot) = false
has_layer_and_numbers (ToFront slot) = false
has_layer_and_numbers (ToBack slot) = false
has_layer_and_numbers (Activate slot) = false
has_layer_and_numbers (Unclip slot) = false
has_layer_and_numbers (BeginRefresh slot) = false
has_layer_and_numbers (TakeMessage slot) = false
has_layer_and_numbers (InFrontOf slot other) = false
has_layer_and_numbers (EndRefresh slot full) = false
has_layer_and_numbers (Letters slot text) = false
has_layer_and_numbers (SetTitle slot title) = false
has_layer_and_numbers (Create slot make) = false
has_layer_and_numbers (OpenWindow slot make framed nocare classes title) = false
has_layer_and_numbers call = true

-- a layer is created, or opened as a window
abbrev pub makes_a_layer : Call → Bool
makes_a_layer (Create slot make) = true
makes_a_layer (OpenWindow slot make framed nocare classes title) = true
makes_a_layer call = false

-- one layer comes first, and the numbers end with a place and a size, or with a rectangle
abbrev pub ends_with_four_numbers : Call → Bool
ends_with_four_numbers (SetBox slot x y w h) = true
ends_with_four_numbers (Fill slot rect) = true
ends_with_four_numbers (ScrollRaster slot dx dy rect) = true
ends_with_four_numbers call = false
