-- The counters of a range's kept loops are numbered apart, and listed.
use Rattle.std.proofs.Common.{◌≡◌, ℕ, suc, ◌+◌, Bool, true, false, if◌then◌else◌, ◌==◌, List, [], ◌∷◌, ◌++◌, refl, ap, sym, ◌∙◌, subst, arith, inl, inr, Some}
use Rattle.std.proofs.lemmas.Bool.Decides.{eqb_tells}
use Rattle.control_flow_theory.specs.language.Language.{Control, Times, Until, Varying, Stmt, Choose, Loop, Perform, Go, GoDepending, NextSentence, ExitParagraph, ExitSection, ExitPerform, StopRun, Stmts, none, also, Arms, done, given, missing, Body, Nested, Performed, Paragraph}
use Rattle.control_flow_theory.specs.language.Language as language
use Rattle.control_flow_theory.specs.semantics.Graph.{Label}
use Rattle.control_flow_theory.specs.lowering.Completes.{size, sizes}
use Rattle.control_flow_theory.specs.lowering.Lower.{loop_head_label}
use Rattle.control_flow_theory.specs.lowering.Lowered.{total}
use Rattle.control_flow_theory.specs.graph_rules.Families.{Count}
use Rattle.control_flow_theory.specs.graph_rules.Reduced.{kind_at}
use Rattle.control_flow_theory.specs.main_theorem.NamedCells.{ControlCounts, StmtCounts, StmtsCount, ArmsCount, ParagraphCounts, ParagraphsCount}
use Rattle.control_flow_theory.specs.main_theorem.Numbering.{place_among, control_counters, stmt_counters, stmts_counters, arms_counters, paragraph_counters, paragraphs_counters, counters_of, counts, numbers_by, added_by, CountersCanBeNumbered}
use Rattle.control_flow_theory.proofs.main_theorem_lemmas.graphs.NamedCells.{counters-named}

at-first : (first cell : ℕ) (others : List ℕ) → (first == cell) ≡ true → place_among (first ∷ others) cell ≡ 0
at-first first cell others is = ap (λ b. if b then 0 else suc (place_among others cell)) is

at-others : (first cell : ℕ) (others : List ℕ) → (first == cell) ≡ false → place_among (first ∷ others) cell ≡ suc (place_among others cell)
at-others first cell others is = ap (λ b. if b then 0 else suc (place_among others cell)) is

places-apart : (cells : List ℕ) (one other : ℕ) → place_among cells one ≡ place_among cells other → one ≡ other
places-apart [] one other same = same
places-apart (first ∷ others) one other same = elim (eqb_tells first one) [
  | inl e ↦ elim (eqb_tells first other) [
    | inl f ↦ sym e.1 ∙ f.1
    | inr f ↦ absurd (let a = at-first first one others e.0 in let b = at-others first other others f.0 in omega (arith, a, b, same))
  ]
  | inr e ↦ elim (eqb_tells first other) [
    | inl f ↦ absurd (let a = at-others first one others e.0 in let b = at-first first other others f.0 in omega (arith, a, b, same))
    | inr f ↦ (let a = at-others first one others e.0 in let b = at-others first other others f.0 in places-apart others one other (omega (arith, a, b, same)))
  ]
]

-- It holds of each in the list.
module _ (P : ℕ → Type 0) where
  abbrev All : List ℕ → Type 0
  All [] = Unit {0}
  All (x ∷ xs) = P x × All xs

  all-split : (xs ys : List ℕ) → All (xs ++ ys) → All xs × All ys
  all-split [] ys h = (tt, h)
  all-split (x ∷ xs) ys h = let k = all-split xs ys h.1 in ((h.0, k.0), k.1)

all-more : (P Q : ℕ → Type 0) → ((x : ℕ) → P x → Q x) → (xs : List ℕ) → All P xs → All Q xs
all-more P Q f [] h = tt
all-more P Q f (x ∷ xs) h = (f x h.0, all-more P Q f xs h.1)

-- each counter of the list has its number among the cells, as a count
abbrev IsCount : List ℕ → ℕ → Type 0
IsCount cells cell = kind_at (counts cells) (place_among cells cell) ≡ Some Count

behind-first : (first cell : ℕ) (others : List ℕ) → IsCount others cell → IsCount (first ∷ others) cell
behind-first first cell others h = elim (first == cell) as (λ b. kind_at (Count ∷ counts others) (if b then 0 else suc (place_among others cell)) ≡ Some Count) [
  | true ↦ refl
  | false ↦ h
]

all-counts : (cells : List ℕ) → All (IsCount cells) cells
all-counts [] = tt
all-counts (first ∷ others) = (
  (elim (eqb_tells first first) [
    | inl e ↦ ap (kind_at (Count ∷ counts others)) (at-first first first others e.0)
    | inr e ↦ absurd (e.1 refl)
  ]),
  all-more (IsCount others) (IsCount (first ∷ others)) (λ cell h. behind-first first cell others h) others (all-counts others),
)

-- what holds of each counter holds of each loop by TIMES that is kept
module _ (keep : Label → Bool) (P : ℕ → Type 0) where
  abbrev Q : ℕ → Type 0
  Q place = keep (loop_head_label place) ≡ true → P place

  control-counted : (control : Control) (n : ℕ) → All P (control_counters keep control n) → ControlCounts Q control n
  control-counted (Times amount) n h = λ k. (subst (λ b. All P (if b then n ∷ [] else [])) k h).0
  control-counted (Until after test) n h = tt
  control-counted (Varying after set step test) n h = tt

  mutual
    stmt-counted : (s : Stmt) (n : ℕ) → All P (stmt_counters keep s n) → StmtCounts Q s n
    stmt-counted (language.Do act) n h = tt
    stmt-counted (Choose picker arms) n h = arms-counted arms (n + 1) h
    stmt-counted (Loop control (Nested ss)) n h =
        let k = all-split P (control_counters keep control n) (stmts_counters keep ss (n + 1)) h in
        (control-counted control n k.0, stmts-counted ss (n + 1) k.1)
    stmt-counted (Loop control (Performed e x)) n h = tt
    stmt-counted (Perform e x) n h = tt
    stmt-counted (Go to) n h = tt
    stmt-counted (GoDepending to on) n h = tt
    stmt-counted NextSentence n h = tt
    stmt-counted ExitParagraph n h = tt
    stmt-counted (ExitSection last) n h = tt
    stmt-counted (ExitPerform cycle) n h = tt
    stmt-counted StopRun n h = tt

    stmts-counted : (ss : Stmts) (n : ℕ) → All P (stmts_counters keep ss n) → StmtsCount Q ss n
    stmts-counted none n h = tt
    stmts-counted (also s ss) n h =
        let k = all-split P (stmt_counters keep s n) (stmts_counters keep ss (n + size s)) h in
        (stmt-counted s n k.0, stmts-counted ss (n + size s) k.1)

    arms-counted : (arms : Arms) (n : ℕ) → All P (arms_counters keep arms n) → ArmsCount Q arms n
    arms-counted done n h = tt
    arms-counted (given arm others) n h =
        let k = all-split P (stmts_counters keep arm n) (arms_counters keep others (n + sizes arm)) h in
        (stmts-counted arm n k.0, arms-counted others (n + sizes arm) k.1)
    arms-counted (missing others) n h = arms-counted others n h

  paragraph-counted : (ss : Paragraph) (n : ℕ) → All P (paragraph_counters keep ss n) → ParagraphCounts Q ss n
  paragraph-counted [] n h = tt
  paragraph-counted (s ∷ ss) n h =
      let k = all-split P (stmts_counters keep s n) (paragraph_counters keep ss (n + sizes s)) h in
      (stmts-counted s n k.0, paragraph-counted ss (n + sizes s) k.1)

  paragraphs-counted : (ps : List Paragraph) (n : ℕ) → All P (paragraphs_counters keep ps n) → ParagraphsCount Q ps n
  paragraphs-counted [] n h = tt
  paragraphs-counted (p ∷ ps) n h =
      let k = all-split P (paragraph_counters keep p (n + 1)) (paragraphs_counters keep ps (n + 1 + total p)) h in
      (paragraph-counted p (n + 1) k.0, paragraphs-counted ps (n + 1 + total p) k.1)

pub counters-numbered : CountersCanBeNumbered
counters-numbered = λ told program keep source. (
  λ range one other same. places-apart (counters_of (keep range) program) one other same,
  λ range just.
      let cells = counters_of (keep range) program in
      counters-named told program keep (numbers_by keep program) (added_by keep program) range source just
      (paragraphs-counted (keep range) (IsCount cells) program.paragraphs 0 (all-counts cells)),
)
