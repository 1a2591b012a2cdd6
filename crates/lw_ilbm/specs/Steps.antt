-- For private contracts.
-- What reading a file leads to, step by step.
use Rattle.std.specs.Prelude.{◌≡◌, ℕ, ◌+◌, ◌%◌, ◌≤◌, List, length, take, drop, Option, Some, None, Result, Ok, ⊤}
use Rattle.lw_planes.specs.Bitmap.{Bitmap}
use Rattle.lw_planes.specs.Sizes.{AreSizes}
use Rattle.lw_ilbm.specs.declared.header.Header.{Header}
use Rattle.lw_ilbm.specs.declared.chunks.Led.{Led}
use Rattle.lw_ilbm.specs.declared.chunks.Led.TheVariants.{Picture, On}
use Rattle.lw_ilbm.specs.Reading.{chunk_gives, chunks_after}

-- a header that may be
abbrev pub IsHeader : Header → Type 0
IsHeader h = AreSizes h.width h.height h.depth

abbrev pub IsHeaderIfAny : Option Header → Type 0
IsHeaderIfAny None = ⊤
IsHeaderIfAny (Some h) = IsHeader h

-- The chunk at this place of a file has these contents: the file leads from this chunk on to what the chunk gives.
pub record IsChunk (bytes : List ℕ) (place : ℕ) (contents : List ℕ) : Type 0 where
  pub inside : place + (8 + length contents) ≤ length bytes
  pub gives : (limit : ℕ) (header : Option Header) → chunks_after limit (length bytes) header 0 (drop place bytes)
      ≡ chunk_gives limit place (take 4 (drop place bytes)) contents header
      (λ h. chunks_after limit (length bytes) h 0 (drop (place + (8 + length contents + length contents % 2)) bytes))

-- what a chunk gives is this picture, or what follows it by this header
abbrev pub LeadsTo : ℕ → ℕ → List ℕ → List ℕ → Option Header → Led → Type 0
LeadsTo limit place name contents header (Picture planes) =
    (next : Option Header → Result Bitmap ℕ) → chunk_gives limit place name contents header next ≡ Ok planes
LeadsTo limit place name contents header (On read) =
    IsHeaderIfAny read
    × ((next : Option Header → Result Bitmap ℕ) → chunk_gives limit place name contents header next ≡ next read)
