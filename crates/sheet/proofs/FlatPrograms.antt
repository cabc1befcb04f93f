-- What writing a sector where it lies makes of a flat memory.
use Rattle.std.proofs.Common.{◌≡◌, ℕ, ◌*◌, ◌<◌, true, List, length, arith}
use lib.Seq.{paste}
use Rattle.std.proofs.lemmas.Bool.Decides.{nat_tests}
use Rattle.std.proofs.lemmas.List.Edits.{length-paste}
use Rattle.sheet.specs.declared.geometry.Geometry.{Geometry}
use Rattle.sheet.specs.Sectors.{programmed}
use Rattle.sheet.specs.Flat.{flat_fit, flat_sector, flat_sectors, flat_programmed}
use Rattle.sheet.proofs.Overwrites.{part_overwritten, part_kept, widths_apart}
use Rattle.sheet.proofs.Listed.{Rewrites, listed-programmed}
use Rattle.sheet.proofs.FlatSectors.{sector_within}

-- bytes that are written where a sector lies are that sector's, and every other sector is as before
pub sectors_written :
    (g : Geometry) (memory : List ℕ) (s : ℕ) (bytes : List ℕ)
    → flat_fit g memory ≡ true
    → s < g.sectors
    → length bytes ≡ g.size
    → Rewrites g (flat_sector g.size memory) (flat_sector g.size (paste memory (s * g.size) bytes g.size)) s bytes
sectors_written g memory s bytes fits below whole =
    let room = sector_within g memory s fits below in (
      part_overwritten memory bytes (s * g.size) g.size room whole,
      λ t _ other. part_kept memory bytes (s * g.size) g.size (t * g.size) g.size room whole (widths_apart t s g.size other),
    )

-- a program leaves the memory as long as it was
pub length-programmed :
    (g : Geometry) (memory : List ℕ) (s : ℕ) (bytes : List ℕ) → length (flat_programmed g memory s bytes) ≡ length memory
length-programmed g memory s bytes = grind (arith, nat_tests, length-paste, sector_within)

-- the memory that a program leaves has the sectors that a program leaves
pub flat_programs :
    (g : Geometry) (memory after : List ℕ) (s : ℕ) (bytes : List ℕ)
    → after ≡ flat_programmed g memory s bytes
    → flat_sectors g after ≡ programmed g (flat_sectors g memory) s bytes
flat_programs g memory after s bytes leaves =
    let written = sectors_written g memory s bytes in
    listed-programmed
    g
    (flat_fit g memory)
    (flat_fit g after)
    (flat_sector g.size memory)
    (flat_sector g.size after)
    s
    bytes
    (grind (arith, length-programmed))
    (λ can. grind (arith, nat_tests))
    (λ cannot. grind (arith, nat_tests))
