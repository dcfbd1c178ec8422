-- What is stated of the generated programs.
use Rattle.std.specs.Prelude.{ℕ, ◌≡◌, ◌≤◌, [], ◌∷◌}
use Rattle.control_flow_theory.specs.language.Control.{control_of}
use Rattle.program_points.specs.numbering.Kind.{never_first_of}
use Rattle.program_points.specs.paths.Flow.{IsFaulty}
use Rattle.pending_returns.specs.Summary.{IsWithin}
use Rattle.program_gen.specs.Generated.{group_of, leaving, sentence, count_one, jump_below, paragraph, group_word, generated}

-- the jumps of the first group of the program of 1: its paragraphs are from place 1 on
abbrev pub FirstGroupsJumps : Type 0
FirstGroupsJumps =
    group_of 1 1
    ≡ paragraph (group_word 1 1) (sentence count_one ∷ sentence (jump_below 10 3) ∷ [])
    ∷ paragraph (group_word 1 2) (sentence count_one ∷ sentence (jump_below 10 3) ∷ [])
    ∷ paragraph (group_word 1 3) (sentence count_one ∷ sentence (jump_below 10 2) ∷ [])
    ∷ leaving 1 ∷ []

-- no flow path of a generated program comes to a fault, whatever its data
abbrev pub GeneratedProgramsAreFaultless : Type 0
GeneratedProgramsAreFaultless =
    (n : ℕ) → IsFaulty (never_first_of (generated n).files) (control_of (generated n)) → ⊥

-- each generated program names no more ranges than their limit
abbrev pub GeneratedProgramsNameFew : Type 0
GeneratedProgramsNameFew = (n : ℕ) → n ≤ 1249 → IsWithin (generated n)
