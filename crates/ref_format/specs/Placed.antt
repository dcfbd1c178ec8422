-- Bytes with the lines on which they are.
use Rattle.std.specs.Prelude.{ℕ, List, [], ◌∷◌, map}
use Rattle.ref_format.specs.declared.placed.Placed.{Placed}

-- the bytes, each with this line
abbrev pub placed : ℕ → List ℕ → List Placed
placed number bytes = map (λ b. record { byte = b; line = number }) bytes

-- the bytes, each with the line that has its place
abbrev pub on_lines : (lines : List ℕ) → List ℕ → List Placed
on_lines [] bytes = []
on_lines (line ∷ lines) [] = []
on_lines (line ∷ lines) (b ∷ bytes) = record { byte = b; line = line } ∷ on_lines lines bytes

-- the bytes, without their lines
abbrev pub bytes_of : List Placed → List ℕ
bytes_of text = map (λ p. p.byte) text

-- the lines, without the bytes
abbrev pub lines_of : List Placed → List ℕ
lines_of text = map (λ p. p.line) text
