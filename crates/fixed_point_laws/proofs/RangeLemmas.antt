-- The ranges that the text of a structured program names.
use Rattle.std.proofs.Common.{◌≡◌, ℕ, zero, suc, ◌≤◌, ◌<◌, ◌==◌, ◌&&◌, ◌||◌, nat_lt, Bool, true, false, List, [], ◌∷◌, ◌++◌, map, length, Option, Some, None, refl, ap, sym, subst, ◌⊎◌, inl, inr, ltb-true, arith}
use Rattle.std.specs.Prelude.{slice_get}
use Rattle.cob_tree.specs.declared.calc.Calc.{Calc}
use Rattle.cob_tree.specs.declared.calc.Target.{Target}
use Rattle.cob_tree.specs.declared.choice.Test.{Test}
use Rattle.cob_tree.specs.declared.control.Control.{Control}
use Rattle.cob_tree.specs.declared.control.Control.TheVariants as turning
use Rattle.cob_tree.specs.declared.program.Sentence.{Sentence}
use Rattle.cob_tree.specs.declared.program.Paragraph.{Paragraph}
use Rattle.cob_tree.specs.declared.program.Range.{Range}
use Rattle.cob_tree.specs.declared.stmt.Arms.{Arms, roll-Arms, map-Arms, fold-roll-Arms}
use Rattle.cob_tree.specs.declared.stmt.When.{When, roll-When, map-When, fold-roll-When}
use Rattle.cob_tree.specs.declared.stmt.Stmt.{Stmt, ind-Stmt, map-Stmt, roll-Stmt, fold-roll-Stmt}
use Rattle.cob_tree.specs.declared.stmt.Stmt.TheOpen.{Stmt-F, Arms-F, When-F}
use Rattle.control_flow_theory.specs.language.Language as language
use Rattle.control_flow_theory.specs.language.Control.{arith_stmt, arm_before, else_of, control_in, loop_of, perform_of, Branch, branches_before, Both, both_arms, both_step, branch_step, seen_step, seen, seen_when, seen_both, seen_stmts, seen_sentence, section_last, seen_paragraphs, control_of}
use Rattle.control_flow_theory.specs.language.Structured.{StmtNests, StmtsNest, ArmsNest, NamesLater, ParagraphNests, ParagraphsNest, FirstStops}
use Rattle.program_points.specs.paths.Flow.{part}
use Rattle.program_points.specs.perform_ranges.Named.{named_step, arms_step, when_step, named_stmt, named_arms, named_when, named_stmts, named_sentence, named_paragraph, named_paragraphs, joined, is_before, main_range, Has}
use Rattle.program_points.proofs.table_building_lemmas.Sections.{seen-length}
use Rattle.fixed_point_laws.specs.Ranges.{StructuredProgramsNameFew, StructuredProgramsPassNoRanges}

module _ (count : ℕ) where
  -- a paragraph but the first, by itself
  abbrev Fine : Range → Type 0
  Fine range = (entry : ℕ) × (range ≡ part entry entry) × (1 ≤ entry) × (entry < count)

  abbrev AllFine : List Range → Type 0
  AllFine [] = Unit {0}
  AllFine (range ∷ ranges) = Fine range × AllFine ranges

  both-fine : (xs ys : List Range) → AllFine xs → AllFine ys → AllFine (xs ++ ys)
  both-fine [] ys h g = g
  both-fine (x ∷ xs) ys h g = (h.0, both-fine xs ys h.1 g)

  fine-at : (xs : List Range) (n : ℕ) (range : Range) → AllFine xs → slice_get xs n ≡ Some range → Fine range
  fine-at [] n range h e = absurd (let k : ⊥ = cc in k)
  fine-at (x ∷ xs) zero range h e = (let k : x ≡ range = cc in subst Fine k h.0)
  fine-at (x ∷ xs) (suc n) range h e = fine-at xs n range h.1 e

  module _ (here : ℕ) where
    abbrev Such : ℕ → ℕ → Type 0
    Such = NamesLater count here

    one-fine : (entry exit : ℕ) → Such entry exit → AllFine (part entry exit ∷ [])
    one-fine entry exit h =
        let later = h.1 in
        ((entry, ap (λ (k : ℕ). part entry k) (sym h.0), omega (arith, later), h.2), tt)

    perform-fine : (control : Control) (entry exit : ℕ) → StmtNests Such (perform_of (control_in control) entry exit) → AllFine (part entry exit ∷ [])
    perform-fine turning.Once entry exit h = one-fine entry exit h
    perform-fine (turning.Times amount) entry exit h = one-fine entry exit h
    perform-fine (turning.Until after until) entry exit h = one-fine entry exit h
    perform-fine (turning.Varying after item from by until) entry exit h = one-fine entry exit h

    loop-nests : (control : Control) (body : language.Stmts) → StmtNests Such (loop_of (control_in control) body) → StmtsNest Such body
    loop-nests turning.Once body h = h.0
    loop-nests (turning.Times amount) body h = h
    loop-nests (turning.Until after until) body h = h
    loop-nests (turning.Varying after item from by until) body h = h

    arith-nests : (calc : Calc) (into : List Target) (first second : Option language.Stmts) →
        StmtNests Such (arith_stmt calc into (record { first = first; second = second })) →
        ArmsNest Such (both_arms (record { first = first; second = second }))
    arith-nests calc into None None h = tt
    arith-nests calc into None (Some second) h = h
    arith-nests calc into (Some first) None h = h
    arith-nests calc into (Some first) (Some second) h = h

    module _ (last : ℕ) where
      abbrev IsFine : Stmt → Type 0
      IsFine stmt = StmtNests Such (seen last stmt) → AllFine (named_stmt stmt)

      abbrev ArmsAreFine : Arms → Type 0
      ArmsAreFine arms = ArmsNest Such (both_arms (seen_both last arms)) → AllFine (named_arms arms)

      abbrev WhenIsFine : When → Type 0
      WhenIsFine when = StmtsNest Such (seen_when last when).arm → AllFine (named_when when)

      abbrev SuchStmt : Type 0
      SuchStmt = (stmt : Stmt) × IsFine stmt

      abbrev SuchArms : Type 0
      SuchArms = (arms : Arms) × ArmsAreFine arms

      abbrev SuchWhen : Type 0
      SuchWhen = (when : When) × WhenIsFine when

      abbrev plain : List SuchStmt → List Stmt
      plain stmts = map (λ e. e.0) stmts

      abbrev plain_whens : List SuchWhen → List When
      plain_whens whens = map (λ e. e.0) whens

      stmts-fine : (xs : List SuchStmt) → StmtsNest Such (seen_stmts last (plain xs)) → AllFine (named_stmts (plain xs))
      stmts-fine [] h = tt
      stmts-fine (x ∷ xs) h = both-fine (named_stmt x.0) (named_stmts (plain xs)) (x.1 h.0) (stmts-fine xs h.1)

      else-fine : (xs : List SuchStmt) → ArmsNest Such (arm_before (else_of (map (seen last) (plain xs))) language.done) → AllFine (named_stmts (plain xs))
      else-fine [] h = tt
      else-fine (x ∷ xs) h = stmts-fine (x ∷ xs) h.0

      whens-fine : (xs : List SuchWhen) (tail : language.Arms) (ranges : List Range) → (ArmsNest Such tail → AllFine ranges) →
          ArmsNest Such (branches_before (map (seen_when last) (plain_whens xs)) tail) → AllFine (joined (map named_when (plain_whens xs)) ++ ranges)
      whens-fine [] tail ranges g h = g h
      whens-fine (x ∷ xs) tail ranges g h =
          assoc (named_when x.0) (joined (map named_when (plain_whens xs))) (both-fine (named_when x.0) (joined (map named_when (plain_whens xs)) ++ ranges) (x.1 h.0) (whens-fine xs tail ranges g h.1))
        where
          assoc : (a b : List Range) → AllFine (a ++ (b ++ ranges)) → AllFine ((a ++ b) ++ ranges)
          assoc [] b h = h
          assoc (r ∷ a) b h = (h.0, assoc a b h.1)

      -- ---- each statement, by those that it holds

      abbrev mapped : Stmt-F SuchStmt SuchArms SuchWhen → Stmt-F Stmt Arms When
      mapped =
          map-Stmt SuchStmt SuchArms SuchWhen Stmt Arms When (λ e. e.0) (λ e. e.0) (λ e. e.0)

      abbrev shown : Stmt-F Stmt Arms When → language.Stmt
      shown y =
          seen_step last (map-Stmt Stmt Arms When language.Stmt Both Branch (seen last)
          (seen_both last) (seen_when last) y)

      abbrev named : Stmt-F Stmt Arms When → List Range
      named y =
          named_step (map-Stmt Stmt Arms When (List Range) (List Range) (List Range) named_stmt named_arms named_when y)

      step-fine : (y : Stmt-F SuchStmt SuchArms SuchWhen) → StmtNests Such (shown (mapped y)) → AllFine (named (mapped y))
      step-fine (Stmt-F.Display texts advance) h = tt
      step-fine (Stmt-F.Move from to) h = tt
      step-fine (Stmt-F.Arith calc into arms) h =
          let both = seen_both last arms.0 in
          arms.1 (arith-nests calc into both.first both.second h)
      step-fine (Stmt-F.SetTrue place) h = tt
      step-fine (Stmt-F.Opens openings) h = tt
      step-fine (Stmt-F.Closes files) h = tt
      step-fine (Stmt-F.Read file into arms) h = arms.1 h
      step-fine (Stmt-F.Write entry from) h = tt
      step-fine (Stmt-F.Rewrite entry from) h = tt
      step-fine (Stmt-F.If cond met unmet) h =
          both-fine (named_stmts (plain met)) (named_stmts (plain unmet)) (stmts-fine met h.0) (else-fine unmet h.1)
      step-fine (Stmt-F.Evaluate subject whens None) h =
          whens-fine whens (language.missing language.done) [] (λ g. tt) h
      step-fine (Stmt-F.Evaluate subject whens (Some other)) h =
          whens-fine whens (language.given (seen_stmts last (plain other)) language.done) (named_stmts (plain other)) (λ g. stmts-fine other g.0) h
      step-fine (Stmt-F.Loop control body) h = stmts-fine body (loop-nests control (seen_stmts last (plain body)) h)
      step-fine (Stmt-F.Perform entry exit control) h = perform-fine control entry exit h
      step-fine (Stmt-F.Go to) h = tt
      step-fine (Stmt-F.GoDepending to on) h = tt
      step-fine Stmt-F.NextSentence h = tt
      step-fine Stmt-F.StopRun h = tt
      step-fine Stmt-F.Exit h = tt
      step-fine Stmt-F.ExitParagraph h = tt
      step-fine Stmt-F.ExitSection h = tt
      step-fine (Stmt-F.ExitPerform cycle) h = tt
      step-fine Stmt-F.Continue h = tt

      layer : (y : Stmt-F SuchStmt SuchArms SuchWhen) → IsFine (roll-Stmt (mapped y))
      layer y h =
          subst AllFine (sym (fold-roll-Stmt (List Range) (List Range) (List Range) named_step arms_step when_step (mapped y)))
          (step-fine y (subst (StmtNests Such) (fold-roll-Stmt language.Stmt Both Branch (seen_step last) both_step branch_step (mapped y)) h))

      abbrev mapped_arms : Arms-F SuchStmt SuchArms SuchWhen → Arms-F Stmt Arms When
      mapped_arms =
          map-Arms SuchStmt SuchArms SuchWhen Stmt Arms When (λ e. e.0) (λ e. e.0) (λ e. e.0)

      abbrev both_of : Arms-F Stmt Arms When → Both
      both_of arms =
          both_step (map-Arms Stmt Arms When language.Stmt Both Branch (seen last) (seen_both last)
          (seen_when last) arms)

      abbrev named_both : Arms-F Stmt Arms When → List Range
      named_both arms =
          arms_step (map-Arms Stmt Arms When (List Range) (List Range) (List Range) named_stmt named_arms named_when arms)

      both-are : (first second : Option (List SuchStmt)) → ArmsNest Such (both_arms (both_of (mapped_arms (record { first = first; second = second })))) →
          AllFine (named_both (mapped_arms (record { first = first; second = second })))
      both-are None None h = tt
      both-are None (Some second) h = stmts-fine second h.0
      both-are (Some first) None h = both-fine (named_stmts (plain first)) [] (stmts-fine first h.0) tt
      both-are (Some first) (Some second) h = both-fine (named_stmts (plain first)) (named_stmts (plain second)) (stmts-fine first h.0) (stmts-fine second h.1.0)

      arms-layer : (first second : Option (List SuchStmt)) →
          ArmsAreFine (roll-Arms (mapped_arms (record { first = first; second = second })))
      arms-layer first second h =
          let y = mapped_arms (record { first = first; second = second }) in
          subst AllFine (sym (fold-roll-Arms (List Range) (List Range) (List Range) named_step arms_step when_step y))
          (both-are first second (subst (λ b. ArmsNest Such (both_arms b)) (fold-roll-Arms language.Stmt Both Branch (seen_step last) both_step branch_step y) h))

      when-layer : (tests : List Test) (stmts : List SuchStmt) →
          WhenIsFine (roll-When (map-When SuchStmt SuchArms SuchWhen Stmt Arms When (λ e. e.0)
          (λ e. e.0) (λ e. e.0) (record { tests = tests; stmts = stmts })))
      when-layer tests stmts h =
          let y : When-F Stmt Arms When = record { tests = tests; stmts = plain stmts } in
          subst AllFine (sym (fold-roll-When (List Range) (List Range) (List Range) named_step arms_step when_step y))
          (stmts-fine stmts (subst (λ (b : Branch). StmtsNest Such b.arm) (fold-roll-When language.Stmt Both Branch (seen_step last) both_step branch_step y) h))

      stmt-fine : (stmt : Stmt) → IsFine stmt
      stmt-fine stmt =
          ind-Stmt IsFine ArmsAreFine WhenIsFine
          (λ x y is. subst (λ z. IsFine (roll-Stmt z)) is (layer y))
          (λ x y is. subst (λ z. ArmsAreFine (roll-Arms z)) is (arms-layer y.first y.second))
          (λ x y is. subst (λ z. WhenIsFine (roll-When z)) is (when-layer y.tests y.stmts)) stmt

      list-fine : (stmts : List Stmt) → StmtsNest Such (seen_stmts last stmts) → AllFine (named_stmts stmts)
      list-fine [] h = tt
      list-fine (stmt ∷ stmts) h = both-fine (named_stmt stmt) (named_stmts stmts) (stmt-fine stmt h.0) (list-fine stmts h.1)

      paragraph-fine : (sentences : List Sentence) → ParagraphNests count here (map (seen_sentence last) sentences) → AllFine (joined (map named_sentence sentences))
      paragraph-fine [] h = tt
      paragraph-fine (sentence ∷ []) h = both-fine (named_stmts sentence.stmts) [] (list-fine sentence.stmts h) tt
      paragraph-fine (sentence ∷ next ∷ others) h = absurd h

  paragraphs-fine : (first : ℕ) (paragraphs : List Paragraph) → ParagraphsNest count first (seen_paragraphs first paragraphs) → AllFine (named_paragraphs paragraphs)
  paragraphs-fine first [] h = tt
  paragraphs-fine first (paragraph ∷ others) h =
      both-fine (named_paragraph paragraph) (named_paragraphs others)
      (paragraph-fine first (section_last first others) paragraph.sentences h.0) (paragraphs-fine (suc first) others h.1)

  -- ---- a rising list of such ranges

  or-true : (a b : Bool) → (a || b) ≡ true → (a ≡ true) ⊎ (b ≡ true)
  or-true true b e = inl refl
  or-true false b e = inr e

  and-true : (a b : Bool) → (a && b) ≡ true → b ≡ true
  and-true true b e = e
  and-true false b e = absurd (let k : ⊥ = cc in k)

  less : (a b : ℕ) → is_before (part a a) (part b b) ≡ true → a < b
  less a b e = elim (or-true (nat_lt a b) (a == b && nat_lt a b) e) [
    | inl first ↦ ltb-true a b first
    | inr both ↦ ltb-true a b (and-true (a == b) (nat_lt a b) both)
  ]

  in-list : (xs : List Range) (n : ℕ) → n < length xs → (range : Range) × (slice_get xs n ≡ Some range)
  in-list [] n lt = absurd (omega (arith, lt))
  in-list (x ∷ xs) zero lt = (x, refl)
  in-list (x ∷ xs) (suc n) lt = in-list xs n (omega (arith, lt))

  module _ (list ranges : List Range) (all : AllFine list)
      (main : slice_get ranges 0 ≡ Some main_range)
      (rising : (number : ℕ) (range next : Range) → slice_get ranges number ≡ Some range → slice_get ranges (suc number) ≡ Some next → is_before range next ≡ true)
      (only : (range : Range) → Has ranges range → (range ≡ main_range) ⊎ Has list range) where
    abbrev Stands : ℕ → Range → Type 0
    Stands n range = ((n ≡ 0) × (range ≡ main_range)) ⊎ ((entry : ℕ) × (range ≡ part entry entry) × (n ≤ entry) × (entry < count))

    none-before : (range : Range) → is_before range main_range ≡ true → ⊥
    none-before range e = (let k : ⊥ = cc in k)

    stands : (n : ℕ) → n < length ranges → (range : Range) → slice_get ranges n ≡ Some range → Stands n range
    stands zero lt range e = inl (refl, let k : range ≡ main_range = cc in k)
    stands (suc n) lt range e =
        let earlier = in-list ranges n (omega (arith, lt)) in
        let before = rising n earlier.0 range earlier.1 e in
        elim (only range (suc n, e)) [
          | inl is ↦ absurd (none-before earlier.0 (subst (λ r. is_before earlier.0 r ≡ true) is before))
          | inr has ↦
              let fine = fine-at list has.0 range all has.1 in
              elim (stands n (omega (arith, lt)) earlier.0 earlier.1) [
                | inl first ↦ (let z = first.0 in let least = fine.2 in inr (fine.0, fine.1, omega (arith, z, least), fine.3))
                | inr one ↦
                    let lower : one.0 < fine.0 = less one.0 fine.0 (subst (λ r. is_before (part one.0 one.0) r ≡ true) fine.1 (subst (λ r. is_before r range ≡ true) one.1 before)) in
                    (let z = one.2 in inr (fine.0, fine.1, omega (arith, z, lower), fine.3))
              ]
        ]

    few : 0 < count → length ranges ≤ count
    few some = by-length (length ranges) refl
      where
        by-length : (n : ℕ) → length ranges ≡ n → length ranges ≤ count
        by-length zero e = omega (arith, e)
        by-length (suc n) e =
            let last = in-list ranges n (omega (arith, e)) in
            elim (stands n (omega (arith, e)) last.0 last.1) [
              | inl first ↦ (let z = first.0 in omega (arith, e, z, some))
              | inr one ↦ (let z = one.2 in let lt = one.3 in omega (arith, e, z, lt))
            ]

some-there : (paragraphs : List language.Paragraph) → FirstStops paragraphs → 0 < length paragraphs
some-there [] h = absurd h
some-there (paragraph ∷ paragraphs) h = omega arith

pub name-few : StructuredProgramsNameFew
name-few = λ program structured ranges are.
    let count = length (control_of program).paragraphs in
    let size : count ≡ length program.paragraphs = seen-length 0 program.paragraphs in
    let le = few count (named_paragraphs program.paragraphs) ranges (paragraphs-fine count 0 program.paragraphs structured.nests) are.main are.rising are.only (some-there (control_of program).paragraphs structured.stops) in
    omega (arith, size, le)

pub pass-none : StructuredProgramsPassNoRanges
pass-none = λ program structured small limit past.
    let le = name-few program structured past.1.0 past.1.1 in
    let size = past.1.2 in
    let over = past.2 in
    absurd (omega (arith, small, le, size, over))
