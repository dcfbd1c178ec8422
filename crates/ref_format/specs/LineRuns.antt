-- The lines of bytes that follow one another, as how many of them are on each.
use Rattle.std.specs.Prelude.{ℕ, ◌<◌, List, [], ◌∷◌, ◌++◌, replicate}
use Rattle.ref_format.specs.declared.line_runs.Run.{Run}

-- the line of each byte of these runs
abbrev pub lines_in : List Run → List ℕ
lines_in [] = []
lines_in (run ∷ runs) = replicate run.count run.line ++ lines_in runs

-- the byte at this place is of the first run, where there is one
abbrev pub IsInFirst : (place : ℕ) → List Run → Type 0
IsInFirst place [] = Unit {0}
IsInFirst place (run ∷ runs) = place < run.count
