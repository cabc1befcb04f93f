-- What a sheet means: whether it is fit, and the bytes of each of its sectors; an unfit one has no sectors.
use Rattle.std.specs.Prelude.{◌≡◌, ℕ, Bool, cond, ◌&&◌, List, [], map, length, ◌==◌, nat_lt, slice_index_or, slice_set}
use Rattle.std.specs.List.{All, range_with_len}
use Rattle.sheet.specs.declared.geometry.Geometry.{Geometry}

-- a fit sheet has all the sectors of its kind, an unfit one has none, and each sector has all its bytes
abbrev pub Shaped : Geometry → Bool → List (List ℕ) → Type 0
Shaped g fit sectors = (length sectors ≡ cond fit g.sectors 0) × All (λ s. length s ≡ g.size) sectors

-- the sectors of a sheet that keeps each sector in some way: all of them where it is fit, none where it is not
abbrev pub listed : Geometry → Bool → (ℕ → List ℕ) → List (List ℕ)
listed g fit sector = cond fit (map sector (range_with_len 0 g.sectors)) []

-- what a byte of a sector reads as: FFH where there is no such sector or byte
abbrev pub byte_at : List (List ℕ) → ℕ → ℕ → ℕ
byte_at sectors sector byte = slice_index_or (slice_index_or sectors sector []) byte 255

-- whether a program is done: on a fit sheet, in one of its sectors, with as many bytes as a sector has
abbrev pub can_program : Geometry → Bool → ℕ → List ℕ → Bool
can_program g fit sector bytes = fit && (nat_lt sector g.sectors && length bytes == g.size)

-- the sectors after a program: that one holds the bytes; past the end or at a wrong length all are as they were
abbrev pub programmed : Geometry → List (List ℕ) → ℕ → List ℕ → List (List ℕ)
programmed g sectors sector bytes = cond (length bytes == g.size) (slice_set sectors sector bytes) sectors
