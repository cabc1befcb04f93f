-- What programming a sector means to whoever reads the sheet.
use Rattle.std.specs.Prelude.{◌≡◌, ℕ, ◌<◌, Bool, List, length, MatchBool, slice_index_or}
use Rattle.sheet.specs.Sectors.{byte_at}

-- the sector reads back byte for byte, and every other byte of every sector reads as before
abbrev pub ReadsBack : List (List ℕ) → List (List ℕ) → ℕ → List ℕ → Type 0
ReadsBack before after sector bytes =
    record {
      back : (b : ℕ) → b < length bytes → byte_at after sector b ≡ slice_index_or bytes b 255;
      others : (s b : ℕ) → ((s ≡ sector) × (b < length bytes) → ⊥) → byte_at after s b ≡ byte_at before s b;
    }

-- every byte of every sector reads as before
abbrev pub ReadsAsBefore : List (List ℕ) → List (List ℕ) → Type 0
ReadsAsBefore before after = (s b : ℕ) → byte_at after s b ≡ byte_at before s b

-- a program that was done reads back; one that was refused leaves all reads as they were
abbrev pub ProgramReads : Bool → List (List ℕ) → List (List ℕ) → ℕ → List ℕ → Type 0
ProgramReads done before after sector bytes = MatchBool done (ReadsBack before after sector bytes) (ReadsAsBefore before after)
