-- COBOL's choices choose again as they do.
use Rattle.std.proofs.Common.{◌≡◌, ℕ, zero, suc, ◌+◌, ◌≤◌, ◌<◌, ◌==◌, Bool, true, false, if◌then◌else◌, List, [], ◌∷◌, length, map, refl, ap, sym, ◌∙◌, subst, inl, inr, eqb-true, eq-eqb, arith}
use Rattle.std.specs.Prelude.{not, nat_lt}
use Rattle.std.proofs.lemmas.Bool.{lt-ltb, le-ltb}
use Rattle.std.proofs.lemmas.Bool.Decides.{eqb_tells}
use Rattle.control_flow_theory.specs.language.Language.{Chooser, Evaluate, Read, Arith, Depending, Picker, If, By, ByCell, none, also, Arms, done, given, missing, Range}
use Rattle.control_flow_theory.specs.rendering.Rendering.{Empty, Continues, Goes, Naming, Procedure, count_arms, arm_stands, standing, written_picker, picker_lacks}
use Rattle.program_facts.specs.completion.FlowFacts.{width_of}
use Rattle.cobol_theory.specs.cell_items.Laws.{number_tests}
use Rattle.cobol_theory.specs.cell_serving.Entries.{whole_literal}
use Rattle.cobol_theory.specs.cell_serving.Naming.{first_stands, last_stands, numbers_from, other_stands, whens_of}
use Rattle.statement_builders.specs.arms.EmptyArms.{if_had, of_whens, of_chooser, of_cell}
use Rattle.statement_builders.specs.arms.Written.{Way, naming_in}
use Rattle.fixed_point.specs.Again.{StaysMissing}
use Rattle.fixed_point.specs.Choices as fixed
use Rattle.fixed_point.specs.Choices.{ChoiceFits, last_of}
use Rattle.fixed_point.specs.Written.{StayOut, StaysBehind, PickerAgain}
use Rattle.fixed_point.proofs.Choices.{choices-again, whens-out}
use Rattle.fixed_point_laws.specs.Counting.{counting}
use Rattle.fixed_point_laws.specs.Choices.{CountedChoicesComeAgain}
use Rattle.fixed_point_laws.proofs.NameLemmas.{parts-keep, choosers-again}
use Rattle.fixed_point_laws.proofs.CountingLemmas.{flags-count}

-- ---- flags and numbers

last-same : (flags : List Bool) → last_of flags ≡ last_stands flags
last-same [] = refl
last-same (flag ∷ []) = refl
last-same (flag ∷ next ∷ flags) = last-same (next ∷ flags)

same-whens : (whens : ℕ) (has_other : Bool) → fixed.of_whens whens has_other ≡ of_whens whens has_other
same-whens whens true = refl
same-whens whens false = refl

numbers-length : (first count : ℕ) → length (map number_tests (numbers_from whole_literal first count)) ≡ count
numbers-length first zero = refl
numbers-length first (suc count) = ap (λ (n : ℕ). suc n) (numbers-length (suc first) count)

standing-same : (one other : ℕ → Empty) (k : ℕ) (arms : Arms) → ((j : ℕ) → k ≤ j → j < k + count_arms arms → one j ≡ other j) → standing one k arms ≡ standing other k arms
standing-same one other k done h = refl
standing-same one other k (given arm others) h =
    ap (λ e. arm_stands e true arm ∷ standing one (suc k) others) (h k (omega arith) (omega arith))
    ∙ ap (λ fs. arm_stands (other k) true arm ∷ fs) (standing-same one other (suc k) others (λ j le lt. h j (omega (arith, le)) (omega (arith, lt))))
standing-same one other k (missing others) h =
    ap (λ e. arm_stands e false none ∷ standing one (suc k) others) (h k (omega arith) (omega arith))
    ∙ ap (λ fs. arm_stands (other k) false none ∷ fs) (standing-same one other (suc k) others (λ j le lt. h j (omega (arith, le)) (omega (arith, lt))))

-- ---- arms that are left out

module _ (naming : Naming) (place : Range → ℕ) (range : Range) (again : Naming) (again_place : Range → ℕ) (again_range : Range) where
  abbrev Seen : Empty → Type 0
  Seen one = StaysMissing again again_place again_range one

  abbrev Out : (ℕ → Empty) → (ℕ → Empty) → ℕ → Arms → Type 0
  Out empty other first arms = StayOut naming place range again again_place again_range empty other first arms

  out-all : (empty other : ℕ → Empty) (k : ℕ) (arms : Arms) → ((j : ℕ) (was : Bool) → k ≤ j → arm_stands (empty j) was none ≡ false → Seen (other j)) → Out empty other k arms
  out-all empty other k done h = tt
  out-all empty other k (given none others) h = (λ e. h k true (omega arith) e, out-all empty other (suc k) others (λ j was le e. h j was (omega (arith, le)) e))
  out-all empty other k (given (also s ss) others) h = out-all empty other (suc k) others (λ j was le e. h j was (omega (arith, le)) e)
  out-all empty other k (missing others) h = (λ e. h k false (omega arith) e, out-all empty other (suc k) others (λ j was le e. h j was (omega (arith, le)) e))

  out-same : (one two other : ℕ → Empty) (k : ℕ) (arms : Arms) → ((j : ℕ) → k ≤ j → j < k + count_arms arms → one j ≡ two j) → Out two other k arms → Out one other k arms
  out-same one two other k done h out = tt
  out-same one two other k (given none others) h out = (
    λ e. out.0 (ap (λ x. arm_stands x true none) (sym (h k (omega arith) (omega arith))) ∙ e),
    out-same one two other (suc k) others (λ j le lt. h j (omega (arith, le)) (omega (arith, lt))) out.1,
  )
  out-same one two other k (given (also s ss) others) h out =
      out-same one two other (suc k) others (λ j le lt. h j (omega (arith, le)) (omega (arith, lt))) out
  out-same one two other k (missing others) h out = (
    λ e. out.0 (ap (λ x. arm_stands x false none) (sym (h k (omega arith) (omega arith))) ∙ e),
    out-same one two other (suc k) others (λ j le lt. h j (omega (arith, le)) (omega (arith, lt))) out.1,
  )

  behind-at : (other : ℕ → Empty) (k : ℕ) (arms : Arms) → Seen (other (k + count_arms arms)) → StaysBehind naming place range again again_place again_range other k arms
  behind-at other k done h = subst (λ (n : ℕ). Seen (other n)) (omega arith) h
  behind-at other k (given arm others) h = behind-at other (suc k) others (subst (λ (n : ℕ). Seen (other n)) (omega arith) h)
  behind-at other k (missing others) h = behind-at other (suc k) others (subst (λ (n : ℕ). Seen (other n)) (omega arith) h)

  -- behind the first arm
  past-first : (other : ℕ → Empty) → ((i : ℕ) → Seen (other (suc i))) → (j : ℕ) → 1 ≤ j → Seen (other j)
  past-first other h zero le = absurd (omega (arith, le))
  past-first other h (suc i) le = h i

  -- EVALUATE, and GO TO DEPENDING
  whens-so : (whens : ℕ) (has_other : Bool) (arms : Arms) → count_arms arms ≡ suc whens →
      Out (of_whens whens has_other) (of_whens whens (last_stands (standing (of_whens whens has_other) 0 arms))) 0 arms
  whens-so whens has_other arms count =
      subst (λ e. Out e (of_whens whens (last_stands (standing e 0 arms))) 0 arms) (same-whens whens has_other)
      (subst (λ f. Out (fixed.of_whens whens has_other) f 0 arms)
      (same-whens whens (last_of (standing (fixed.of_whens whens has_other) 0 arms)) ∙ ap (λ b. of_whens whens b) (last-same (standing (fixed.of_whens whens has_other) 0 arms)))
      (whens-out naming place range again again_place again_range whens has_other arms count))

  -- IF
  if-out : (empty other : ℕ → Empty) → empty 0 ≡ Continues → ((i : ℕ) → Seen (other (suc i))) → (arms : Arms) → Out empty other 0 arms
  if-out empty other first later done = tt
  if-out empty other first later (given none others) = (
    λ e. absurd (let z : arm_stands Continues true none ≡ false = ap (λ x. arm_stands x true none) (sym first) ∙ e in cc),
    out-all empty other 1 others (λ j was le e. past-first other later j le),
  )
  if-out empty other first later (given (also s ss) others) = out-all empty other 1 others (λ j was le e. past-first other later j le)
  if-out empty other first later (missing others) = (
    λ e. absurd (let z : arm_stands Continues false none ≡ false = ap (λ x. arm_stands x false none) (sym first) ∙ e in cc),
    out-all empty other 1 others (λ j was le e. past-first other later j le),
  )

  -- READ
  first-out : (empty other : ℕ → Empty) (arms : Arms) → other 0 ≡ if_had (first_stands (standing empty 0 arms)) → ((i : ℕ) → Seen (other (suc i))) → Out empty other 0 arms
  first-out empty other done is later = tt
  first-out empty other (given none others) is later = (
    λ e. subst Seen (sym (is ∙ ap if_had e)) tt,
    out-all empty other 1 others (λ j was le e. past-first other later j le),
  )
  first-out empty other (given (also s ss) others) is later = out-all empty other 1 others (λ j was le e. past-first other later j le)
  first-out empty other (missing others) is later = (
    λ e. subst Seen (sym (is ∙ ap if_had e)) tt,
    out-all empty other 1 others (λ j was le e. past-first other later j le),
  )

  -- a choice by a cell
  abbrev by_cell : Bool → List Bool → ℕ → Empty
  by_cell ends flags = of_whens (length (map number_tests (numbers_from whole_literal 1 (whens_of ends flags)))) (other_stands ends flags)

  last-goes : (m j : ℕ) → j < suc m → of_cell true (suc m) j ≡ of_whens m false j
  last-goes m j lt = elim (eqb_tells j m) [
    | inl t ↦
        let here : (suc j == suc m) ≡ true = eq-eqb (suc j) (suc m) (ap (λ (n : ℕ). suc n) t.1) in
        let there : nat_lt j m ≡ false = le-ltb j m (let e = t.1 in omega (arith, e)) in
        ap (λ b. if b then Goes else Continues) here ∙ sym (ap (λ b. if b then Continues else if_had false) there)
    | inr t ↦
        let ne = t.1 in
        let here : (suc j == suc m) ≡ false = unless (suc j == suc m) (λ e. ne (let k = eqb-true (suc j) (suc m) e in omega (arith, k))) in
        let there : nat_lt j m ≡ true = lt-ltb j m (below j m (omega (arith, lt)) ne) in
        ap (λ b. if b then Goes else Continues) here ∙ sym (ap (λ b. if b then Continues else if_had false) there)
  ]
    where
      unless : (b : Bool) → (b ≡ true → ⊥) → b ≡ false
      unless true h = absurd (h refl)
      unless false h = refl

      below : (j m : ℕ) → j ≤ m → (j ≡ m → ⊥) → j < m
      below zero zero le ne = absurd (ne refl)
      below zero (suc m) le ne = omega arith
      below (suc j) zero le ne = absurd (omega (arith, le))
      below (suc j) (suc m) le ne = (let k = below j m (omega (arith, le)) (λ e. ne (ap (λ (n : ℕ). suc n) e)) in omega (arith, k))

  one-less : (flags : List Bool) (m : ℕ) → length flags ≡ suc m → whens_of true flags ≡ m
  one-less [] m e = absurd (omega (arith, e))
  one-less (flag ∷ flags) m e = omega (arith, e)

  cell-some : (m : ℕ) (arms : Arms) → count_arms arms ≡ suc m → Out (of_cell true (suc m)) (by_cell true (standing (of_cell true (suc m)) 0 arms)) 0 arms
  cell-some m arms count =
      let agree : (j : ℕ) → 0 ≤ j → j < 0 + count_arms arms → of_cell true (suc m) j ≡ of_whens m false j = λ j le lt. last-goes m j (omega (arith, lt, count)) in
      let flags = standing (of_cell true (suc m)) 0 arms in
      let same : flags ≡ standing (of_whens m false) 0 arms = standing-same (of_cell true (suc m)) (of_whens m false) 0 arms agree in
      let whens : length (map number_tests (numbers_from whole_literal 1 (whens_of true flags))) ≡ m =
      numbers-length 1 (whens_of true flags) ∙ one-less flags m (flags-count (of_cell true (suc m)) 0 arms ∙ count) in
      let is : of_whens m (last_stands (standing (of_whens m false) 0 arms)) ≡ by_cell true flags =
      ap (λ fs. of_whens m (last_stands fs)) (sym same) ∙ ap (λ n. of_whens n (last_stands flags)) (sym whens) in
      out-same (of_cell true (suc m)) (of_whens m false) (by_cell true flags) 0 arms agree
      (subst (λ f. Out (of_whens m false) f 0 arms) is (whens-so m false arms count))

  cell-out : (ends : Bool) (most : ℕ) (arms : Arms) → count_arms arms ≡ most → Out (of_cell ends most) (by_cell ends (standing (of_cell ends most) 0 arms)) 0 arms
  cell-out false most arms count =
      out-all (of_cell false most) (by_cell false (standing (of_cell false most) 0 arms)) 0 arms (λ j was le e. absurd (never was e))
    where
      never : (was : Bool) → arm_stands Continues was none ≡ false → ⊥
      never was e = (let k : ⊥ = cc in k)
  cell-out true zero done count = tt
  cell-out true zero (given arm others) count = absurd (omega (arith, count))
  cell-out true zero (missing others) count = absurd (omega (arith, count))
  cell-out true (suc m) arms count = cell-some m arms count

  cell-behind : (ends : Bool) (most : ℕ) (arms : Arms) → not ends ≡ true → StaysBehind naming place range again again_place again_range (by_cell ends (standing (of_cell ends most) 0 arms)) 0 arms
  cell-behind true most arms lacks = absurd (let k : ⊥ = cc in k)
  cell-behind false most arms lacks =
      let flags = standing (of_cell false most) 0 arms in
      let whens : length (map number_tests (numbers_from whole_literal 1 (length flags))) ≡ count_arms arms =
      numbers-length 1 (length flags) ∙ flags-count (of_cell false most) 0 arms in
      let past : nat_lt (0 + count_arms arms) (length (map number_tests (numbers_from whole_literal 1 (length flags)))) ≡ false =
      le-ltb (0 + count_arms arms) (length (map number_tests (numbers_from whole_literal 1 (length flags)))) (omega (arith, whens)) in
      behind-at (by_cell false flags) 0 arms (subst Seen (sym (ap (λ b. if b then Continues else if_had false) past)) tt)

abbrev cell_by : Picker → ℕ
cell_by (If test) = 0
cell_by (By chooser) = 0
cell_by (ByCell cell) = cell

module _ (way other : Way) (place again_place : Range → ℕ) (range again_range : Range) (procedures : List Procedure) where
  abbrev Fits : Picker → Arms → Type 0
  Fits picker arms = ChoiceFits (naming_in way) (counting width_of way.table.most) procedures range picker arms

  abbrev Outs : Picker → Arms → Type 0
  Outs picker arms =
      Out (naming_in way) place range (naming_in other) again_place again_range
      ((naming_in way).empty range picker)
      ((naming_in other).empty again_range (written_picker (naming_in way) place range picker (standing ((naming_in way).empty range picker) 0 arms))) 0 arms

  chooser-count : (chooser : Chooser) (arms : Arms) → Fits (By chooser) arms → count_arms arms ≡ width_of chooser
  chooser-count chooser arms (inl h) =
      sym (flags-count (of_chooser chooser) 0 arms)
      ∙ eqb-true (length (standing (of_chooser chooser) 0 arms)) (width_of chooser) h
  chooser-count chooser arms (inr h) = absurd (let e : By chooser ≡ ByCell h.0 = h.1 in let k : ⊥ = cc in k)

  cell-count : (cell : ℕ) (arms : Arms) → Fits (ByCell cell) arms → count_arms arms ≡ way.table.most range cell
  cell-count cell arms (inl h) = absurd h
  cell-count cell arms (inr h) =
      let same : cell ≡ h.0 = ap cell_by h.1 in
      eqb-true (count_arms arms) (way.table.most range h.0) h.2 ∙ ap (λ c. way.table.most range c) (sym same)

  abbrev In_naming : (empty other : ℕ → Empty) → Arms → Type 0
  In_naming empty other_empty arms = Out (naming_in way) place range (naming_in other) again_place again_range empty other_empty 0 arms

  outs : (picker : Picker) (arms : Arms) → Fits picker arms → Outs picker arms
  outs (If test) arms fits =
      if-out (naming_in way) place range (naming_in other) again_place again_range _ _ refl (λ i. tt) arms
  outs (By (Evaluate subject tests has_other)) arms fits =
      whens-so (naming_in way) place range (naming_in other) again_place again_range (length tests) has_other arms
      (chooser-count (Evaluate subject tests has_other) arms fits)
  outs (By (Read file into has_end)) arms fits =
      first-out (naming_in way) place range (naming_in other) again_place again_range _ _ arms refl (λ i. tt)
  outs (By (Arith calc into)) arms fits =
      out-all (naming_in way) place range (naming_in other) again_place again_range _ _ 0 arms (λ j was le e. arith-seen j)
    where
      arith-seen : (j : ℕ) → Seen (naming_in way) place range (naming_in other) again_place again_range (of_chooser (Arith calc into) j)
      arith-seen zero = tt
      arith-seen (suc j) = tt
  outs (By (Depending on names)) arms fits =
      let flags = standing (of_whens names false) 0 arms in
      let whens : length (map number_tests (numbers_from whole_literal 1 names)) ≡ names = numbers-length 1 names in
      subst (λ n. In_naming (of_whens names false) (of_whens n (last_stands flags)) arms) (sym whens)
      (whens-so (naming_in way) place range (naming_in other) again_place again_range names false arms
      (chooser-count (Depending on names) arms fits))
  outs (ByCell cell) arms fits =
      cell-out (naming_in way) place range (naming_in other) again_place again_range (way.table.ends_in_other range cell) (way.table.most range cell) arms
      (cell-count cell arms fits)

  behinds : (picker : Picker) (arms : Arms) → picker_lacks (naming_in way) place range picker ≡ true →
      StaysBehind (naming_in way) place range (naming_in other) again_place again_range
      ((naming_in other).empty again_range (written_picker (naming_in way) place range picker (standing ((naming_in way).empty range picker) 0 arms))) 0 arms
  behinds (If test) arms lacks = absurd (let k : ⊥ = cc in k)
  behinds (By chooser) arms lacks = absurd (let k : ⊥ = cc in k)
  behinds (ByCell cell) arms lacks =
      cell-behind (naming_in way) place range (naming_in other) again_place again_range (way.table.ends_in_other range cell) (way.table.most range cell) arms lacks

  pub again : (picker : Picker) (arms : Arms) → Fits picker arms → PickerAgain (naming_in way) place range (naming_in other) again_place again_range picker arms
  again picker arms fits =
      choices-again (naming_in way) place range (naming_in other) again_place again_range (parts-keep other) picker arms
      (choosers-again way other range picker (standing ((naming_in way).empty range picker) 0 arms))
      (outs picker arms fits) (behinds picker arms)

pub come-again : CountedChoicesComeAgain
come-again = λ way other place again_place range again_range procedures picker arms fits. again way other place again_place range again_range procedures picker arms fits
