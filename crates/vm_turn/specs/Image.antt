-- What a run keeps of its image and its lanes.
use Rattle.std.specs.Prelude.{◌≡◌, ℕ, ◌≤◌, List, length}
use Rattle.quad_memory.specs.Image.{RomImage}
use Rattle.instr_table.specs.Making.{NoCodeInRam}
use Rattle.vm_sponsor.specs.declared.amounts.Amounts.{Amounts}
use Rattle.vm_turn.specs.Run.{run}

-- after every run the cells of the image are as they were
abbrev pub ImagesStay : Type 0
ImagesStay = (image : RomImage) (grant : Amounts) (lanes : ℕ) (picks : List ℕ) → (run image grant lanes picks).store.rom ≡ image.cells

-- after every run no RAM cell spells an operation: code stands in the image alone
abbrev pub CodeStaysInImages : Type 0
CodeStaysInImages = (image : RomImage) (grant : Amounts) (lanes : ℕ) (picks : List ℕ) → NoCodeInRam (run image grant lanes picks).store

-- after every run there are as many lanes as before, and no more events in flight than lanes
abbrev pub FlightsFitLanes : Type 0
FlightsFitLanes =
    (image : RomImage) (grant : Amounts) (lanes : ℕ) (picks : List ℕ)
    → ((run image grant lanes picks).lanes ≡ lanes) × (length (run image grant lanes picks).flight ≤ lanes)
