-- Moves by which a level comes to a place of the table lead to its point in the program.
use Rattle.std.proofs.Common.{◌≡◌, ℕ, zero, suc, Bool, true, false, List, [], ◌∷◌, ◌++◌, map, Option, Some, None, option_map, slice_get, if◌then◌else◌, ◌==◌, refl, ap, sym, ◌∙◌, subst, append_assoc, eq-eqb}
use Rattle.cob_tree.specs.declared.program.Range.{Range}
use Rattle.control_flow_theory.specs.language.Language.{Chooser, Program}
use Rattle.program_points.specs.declared.paths.trail.Move.{Move}
use Rattle.program_points.specs.declared.paths.trail.Move.TheVariants.{Arm, Over}
use Rattle.program_points.specs.declared.paths.trail.Lemma.{Lemma}
use Rattle.program_points.specs.paths.Step.{Point, start, next, way_at, no_way, only, is_paragraph}
use Rattle.program_points.specs.paths.Step as lang
use Rattle.program_points.specs.paths.Flow.{part}
use Rattle.program_points.specs.paths.Accepted.{Walk, walk, walk_to, by_choice, is_range, onward_by, onward, Leads, here, further, lemma_ranges}
use Rattle.program_points.specs.declared.point_table.table.ProgramPoint.{ProgramPoint}
use Rattle.program_points.specs.declared.point_table.table.ProgramPoint.TheVariants.{Goes, Chooses, Calls, Stops, Ends}
use Rattle.program_points.specs.declared.point_table.table.Table.{Table}
use Rattle.program_points.specs.point_table.Table.{IsTable}
use Rattle.overlap_trail.specs.finding.Search.{is_there, arm_of, GoesBy, listed, ComesBy, begins, goes_on}
use Rattle.overlap_trail.specs.finding.ReturnLemmas.{Numbers}

-- ways of the table are those of the program

way-there : (points : ℕ → Point) (ways : List (Option ℕ)) (number to : ℕ) → slice_get ways number ≡ Some (Some to) → way_at (map (λ (way : Option ℕ). option_map points way) ways) number ≡ Some (points to)
way-there points [] number to e = absurd (let k : ⊥ = cc in k)
way-there points (way ∷ ways) zero to e = (let k : way ≡ Some to = cc in ap (λ (w : Option ℕ). option_map points w) k)
way-there points (way ∷ ways) (suc number) to e = way-there points ways number to e

no-way-same : (points : ℕ → Point) (ways : List (Option ℕ)) → no_way (map (λ (way : Option ℕ). option_map points way) ways) ≡ no_way ways
no-way-same points [] = refl
no-way-same points (None ∷ ways) = no-way-same points ways
no-way-same points (Some way ∷ ways) = refl

only-same : (points : ℕ → Point) (ways : List (Option ℕ)) → only (map (λ (way : Option ℕ). option_map points way) ways) ≡ option_map points (only ways)
only-same points [] = refl
only-same points (None ∷ ways) = only-same points ways
only-same points (Some way ∷ ways) =
    ap (λ b. if b then Some (points way) else None) (no-way-same points ways)
    ∙ (elim (no_way ways) as (λ b. (if b then Some (points way) else None) ≡ option_map points (if b then Some way else None)) [ true ↦ refl | false ↦ refl ])

none-there : (ways : List (Option ℕ)) (number to : ℕ) → no_way ways ≡ true → slice_get ways number ≡ Some (Some to) → ⊥
none-there [] number to none e = (let k : ⊥ = cc in k)
none-there (None ∷ ways) zero to none e = (let k : ⊥ = cc in k)
none-there (None ∷ ways) (suc number) to none e = none-there ways number to none e
none-there (Some way ∷ ways) number to none e = (let k : ⊥ = cc in k)

first-or : (way : ℕ) (ways : List (Option ℕ)) (one number to : ℕ) → no_way ways ≡ true → Some way ≡ Some one → slice_get (Some way ∷ ways) number ≡ Some (Some to) → one ≡ to
first-or way ways one zero to none k e = (let l : way ≡ one = cc in let m : way ≡ to = cc in sym l ∙ m)
first-or way ways one (suc number) to none k e = absurd (none-there ways number to none e)

-- the only way is each that is there
the-way : (ways : List (Option ℕ)) (one number to : ℕ) → only ways ≡ Some one → slice_get ways number ≡ Some (Some to) → one ≡ to
the-way [] one number to o e = absurd (let k : ⊥ = cc in k)
the-way (None ∷ ways) one zero to o e = absurd (let k : ⊥ = cc in k)
the-way (None ∷ ways) one (suc number) to o e = the-way ways one number to o e
the-way (Some way ∷ ways) one number to o e =
    (elim (no_way ways) as (λ b. no_way ways ≡ b → (if b then Some way else None) ≡ Some one → one ≡ to) [
      | true ↦ λ none k. first-or way ways one number to none k e
      | false ↦ λ none k. absurd (let l : ⊥ = cc in l)
    ]) refl o

part-is : (entry exit : ℕ) → is_range (Some (part entry exit)) entry exit ≡ true
part-is entry exit = ap (λ b. if b then (exit == exit) else false) (eq-eqb entry entry refl) ∙ eq-eqb exit exit refl

leads-on : (never_first : Chooser → Bool) (program : Program) (lemmas : List Range) (range : Range) (from via to : Walk) → Leads never_first program lemmas range from via → onward never_first program lemmas range via ≡ Some to → Leads never_first program lemmas range from to
leads-on never_first program lemmas range from via to (here there) e = further there to to e (here to)
leads-on never_first program lemmas range from via to (further from1 next1 via1 step path) e = further from1 next1 to step (leads-on never_first program lemmas range next1 via1 to path e)

module _ (never_first : Chooser → Bool) (program : Program) (table : Table) (points : ℕ → Point) (is : IsTable never_first program table points) (lemmas : List Lemma) (numbers : List (Option ℕ)) (range : Range) (numbered : Numbers table lemmas numbers) where
  abbrev Goes-on : Point → List Move → Point → Type 0
  Goes-on from moves to = (more : List Move) → onward never_first program (lemma_ranges lemmas) range (walk from (moves ++ more)) ≡ Some (walk to more)

  by-ways : (from to number : ℕ) (ways : List (Option ℕ)) (one : Option ℕ) → next never_first program (points from) ≡ lang.Ways (map (λ (way : Option ℕ). option_map points way) ways) → slice_get ways number ≡ Some (Some to) → only ways ≡ one →
      Goes-on (points from) (listed (arm_of (is_there one) number)) (points to)
  by-ways from to number ways None e w o = λ more.
      ap (λ now. onward_by never_first program (lemma_ranges lemmas) range now (Arm (suc number) ∷ more)) e
      ∙ ap (λ c. by_choice c (map (λ (way : Option ℕ). option_map points way) ways) (Arm (suc number) ∷ more)) (only-same points ways ∙ ap (λ (c : Option ℕ). option_map points c) o)
      ∙ ap (λ c. walk_to c more) (way-there points ways number to w)
  by-ways from to number ways (Some one) e w o = λ more.
      ap (λ now. onward_by never_first program (lemma_ranges lemmas) range now more) e
      ∙ ap (λ c. by_choice c (map (λ (way : Option ℕ). option_map points way) ways) more) (only-same points ways ∙ ap (λ (c : Option ℕ). option_map points c) o)
      ∙ ap (λ (n : ℕ). Some (walk (points n) more)) (the-way ways one number to o w)

  step : (from to : ℕ) (place : ProgramPoint) (moved : Option Move) → slice_get table.places from ≡ Some place → GoesBy table numbers range place moved to → Goes-on (points from) (listed moved) (points to)
  step from to (Goes there) moved e go = λ more.
      let d = is.places from (Goes there) e in
      ap (λ (m : Option Move). onward never_first program (lemma_ranges lemmas) range (walk (points from) (listed m ++ more))) go.0
      ∙ ap (λ now. onward_by never_first program (lemma_ranges lemmas) range now more) d.0
      ∙ ap (λ (n : ℕ). Some (walk (points n) more)) (sym go.1)
  step from to (Chooses ways) moved e go = λ more.
      let d = is.places from (Chooses ways) e in
      ap (λ (m : Option Move). onward never_first program (lemma_ranges lemmas) range (walk (points from) (listed m ++ more))) go.2
      ∙ by-ways from to go.0 ways (only ways) d.0 go.1 refl more
  step from to (Calls called after) moved e go = λ more.
      let d = is.places from (Calls called after) e in
      let n = numbered called go.0 go.1 in
      let both : Some n.0 ≡ Some (part d.0 d.1) = sym n.1 ∙ d.3 in
      let same : n.0 ≡ part d.0 d.1 = cc in
      ap (λ (m : Option Move). onward never_first program (lemma_ranges lemmas) range (walk (points from) (listed m ++ more))) go.2
      ∙ ap (λ now. onward_by never_first program (lemma_ranges lemmas) range now (Over go.0 ∷ more)) d.2
      ∙ ap (λ (o : Option Range). if is_range o d.0 d.1 then Some (walk (points after) more) else None) (n.2 ∙ ap (λ (r : Range). Some r) same)
      ∙ ap (λ b. if b then Some (walk (points after) more) else None) (part-is d.0 d.1)
      ∙ ap (λ (k : ℕ). Some (walk (points k) more)) (sym go.3)
  step from to Stops moved e go = absurd go
  step from to (Ends paragraph) moved e go = λ more.
      let d = is.places from (Ends paragraph) e in
      let at_start = is.starts (suc paragraph) to go.2 in
      ap (λ (m : Option Move). onward never_first program (lemma_ranges lemmas) range (walk (points from) (listed m ++ more))) go.0
      ∙ ap (λ now. onward_by never_first program (lemma_ranges lemmas) range now more) d
      ∙ ap (λ b. if b then None else (if is_paragraph program (suc paragraph) then Some (walk (start program (suc paragraph)) more) else None)) go.1
      ∙ ap (λ b. if b then Some (walk (start program (suc paragraph)) more) else None) at_start.2
      ∙ ap (λ (p : Point). Some (walk p more)) (sym at_start.0)

  -- the moves lead to the point
  pub leads : (place : ℕ) (moves : List Move) → ComesBy table numbers range place moves → (more : List Move) →
      Leads never_first program (lemma_ranges lemmas) range (walk (start program range.entry) (moves ++ more)) (walk (points place) more)
  leads place moves (begins p e) more =
      subst (λ (q : Point). Leads never_first program (lemma_ranges lemmas) range (walk (start program range.entry) more) (walk q more)) (sym (is.starts range.entry p e).0) (here (walk (start program range.entry) more))
  leads place moves (goes_on from to place_is before moved comes e go) more =
      subst (λ (ms : List Move). Leads never_first program (lemma_ranges lemmas) range (walk (start program range.entry) ms) (walk (points to) more)) (sym (append_assoc before (listed moved) more))
      (leads-on never_first program (lemma_ranges lemmas) range (walk (start program range.entry) (before ++ (listed moved ++ more))) (walk (points from) (listed moved ++ more)) (walk (points to) more)
      (leads from before comes (listed moved ++ more))
      (step from to place_is moved e go more))
