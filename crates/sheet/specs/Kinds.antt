-- What a kind of part is known by, and the kinds that are built.
use Rattle.std.specs.Prelude.{◌≤◌, true, false}
use Rattle.sheet.specs.declared.geometry.Geometry.{Geometry}

-- what the numbers of any kind of part have to show
abbrev pub InBounds : Geometry → Type 0
InBounds g =
    (512 ≤ g.sectors)
    × (g.sectors ≤ 4096)
    × (264 ≤ g.size)
    × (g.size ≤ 536)
    × (g.size ≤ g.modulus)
    × (g.modulus ≤ 1024)

-- the NX25F011A
abbrev pub nx25f011a : Geometry
nx25f011a = record { sectors = 512; size = 264; modulus = 512; held = false }

-- the NX25F080B
abbrev pub nx25f080b : Geometry
nx25f080b = record { sectors = 2048; size = 536; modulus = 1024; held = true }
