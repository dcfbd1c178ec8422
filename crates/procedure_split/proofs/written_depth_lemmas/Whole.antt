-- A program that is written of procedures nests no deeper than is judged of them.
use Rattle.std.proofs.Common.{◌≡◌, ◌≤◌, ℕ, suc, max, List, [], ◌∷◌, map, refl, ap, sym, ◌∙◌, subst, arith}
use Rattle.cob_tree.specs.Depth.{largest, program_depth}
use Rattle.cob_tree.specs.declared.program.Program as trees
use Rattle.control_flow_theory.specs.language.Control.{control_of}
use Rattle.control_flow_theory.specs.language.Language.{Range}
use Rattle.control_flow_theory.specs.rendering.Rendering.{Naming, Procedure, place_of, rendered, required, then_stmts, closing, written_stmts, written_paragraph}
use Rattle.region_rewrite.specs.written_nesting.Nesting.{nesting}
use Rattle.procedure_split.specs.written_depth.Levels.{levels, paragraph_levels, program_levels}
use Rattle.procedure_split.specs.written_depth.Laws.{NestsWithin, AllNestWithin}
use Rattle.procedure_split.proofs.written_depth_lemmas.Seen.{program-agrees}
use Rattle.procedure_split.proofs.written_depth_lemmas.Written.{sentence-below}

module _ (naming : Naming) (place : Range → ℕ) (limit : ℕ) where
  pub paragraph-below : (procedure : Procedure) → NestsWithin naming limit procedure →
      paragraph_levels (written_paragraph naming place procedure) ≤ limit
  paragraph-below procedure h =
      let n = levels (required naming.nothing
      (then_stmts (written_stmts naming place procedure.range procedure.body)
      (closing procedure.range procedure.end))) in
      let deep = nesting procedure.body in
      let below : n ≤ deep =
      sentence-below naming place procedure.range procedure.end h.leaves procedure.body h.fits in
      let within : deep ≤ limit = h.within in
      let all : max n 0 ≤ limit = omega (arith, below, within) in
      all

  paragraphs-below : (procedures : List Procedure) → AllNestWithin naming limit procedures →
      largest (map paragraph_levels (map (written_paragraph naming place) procedures)) ≤ limit
  paragraphs-below [] each = omega (arith)
  paragraphs-below (procedure ∷ procedures) each =
      let a = paragraph_levels (written_paragraph naming place procedure) in
      let b = largest (map paragraph_levels (map (written_paragraph naming place) procedures)) in
      let here : a ≤ limit = paragraph-below procedure (each 0 procedure refl) in
      let behind : b ≤ limit =
      paragraphs-below procedures (λ at other is. each (suc at) other is) in
      let all : max a b ≤ limit = omega (arith, here, behind) in
      all

pub program-below : (naming : Naming) (limit : ℕ) (procedures : List Procedure)
    (program : trees.Program) → control_of program ≡ rendered naming procedures →
    AllNestWithin naming limit procedures → program_depth program ≤ limit
program-below naming limit procedures program is each =
    subst (λ n. n ≤ limit) (sym (program-agrees program ∙ ap program_levels is))
    (paragraphs-below naming (place_of procedures) limit procedures each)
