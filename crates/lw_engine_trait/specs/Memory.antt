-- Which calls take memory.
use Rattle.std.specs.Prelude.{Bool, true, false}
use Rattle.lw_calls.specs.declared.call.Call.{Call}
use Rattle.lw_calls.specs.declared.call.Call.TheVariants.{RegRect, RegPair, SetHook, ScrollRaster, Clip, SetTitle}
use Rattle.lw_calls.specs.declared.touch.CallClass.{CallClass}
use Rattle.lw_calls.specs.declared.touch.CallClass.TheVariants.{OnRegisters, OnInfo, OnLayer, OnLayers, OnAll}
use Rattle.lw_calls.specs.Touches.{class_of}

-- calls on all slots
abbrev pub is_on_all : CallClass → Bool
is_on_all OnRegisters = false
is_on_all OnInfo = false
is_on_all (OnLayer slot) = false
is_on_all (OnLayers source slot) = false
is_on_all OnAll = true

-- The calls that take memory, and so may run out of it: those that make a region, ScrollRaster for its damage,
-- SetWindowTitles for a copy of the title, and arrangements.
abbrev pub takes_memory : Call → Bool
takes_memory (RegRect op register rect) = true
takes_memory (RegPair op source into) = true
takes_memory (SetHook slot hook) = false
takes_memory (ScrollRaster slot dx dy rect) = true
takes_memory (Clip slot register) = true
takes_memory (SetTitle slot title) = true
takes_memory call = is_on_all (class_of call)
