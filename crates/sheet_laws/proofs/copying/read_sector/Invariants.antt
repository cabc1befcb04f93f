use Rattle.std.proofs.Common.{◌≡◌, ℕ, ◌<◌, get_or}
use Rattle.sheet.specs.Sectors.{byte_at}
use Rattle.sheet_laws.proofs.copying.read_sector.Given as goal

-- what was read so far stands in the buffer
abbrev pub invariant-loop-byte : goal.invariant-loop-byte
invariant-loop-byte g l = (k : ℕ) → k < l.byte → get_or l.bytes k 0 ≡ byte_at (g.S.Sheet.sectors l.sheet) l.sector k
