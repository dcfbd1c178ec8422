-- A generated program names one range for each group.
use Rattle.std.proofs.Common.{◌≡◌, ℕ, zero, suc, ◌+◌, ◌*◌, ◌-◌, ◌<◌, ◌≤◌, nat_lt, ◌==◌, ◌&&◌, ◌||◌, true, false, List, [], ◌∷◌, ◌++◌, Some, None, slice_get, map, length, refl, ap, sym, ◌∙◌, subst, arith, append-nil, lt-ltb, inl, inr, ◌⊎◌}
use Rattle.cob_tree.specs.declared.calc.Calc.TheVariants as calcs
use Rattle.cob_tree.specs.declared.calc.Target.{Target}
use Rattle.cob_tree.specs.declared.cond.Cond.TheVariants.{Relation}
use Rattle.cob_tree.specs.declared.cond.Rel.TheVariants.{Less}
use Rattle.cob_tree.specs.declared.control.Control.TheVariants.{Once}
use Rattle.cob_tree.specs.declared.place.Expr.TheVariants.{Leaf}
use Rattle.cob_tree.specs.declared.place.Operand.TheVariants as operands
use Rattle.cob_tree.specs.declared.program.Range.{Range}
use Rattle.cob_tree.specs.declared.program.Sentence.{Sentence}
use Rattle.cob_tree.specs.declared.stmt.Arms.{Arms, roll-Arms, fold-roll-Arms}
use Rattle.cob_tree.specs.declared.stmt.Stmt.{Stmt, fold-roll-Stmt}
use Rattle.cob_tree.specs.declared.stmt.Stmt.TheOpen.{Stmt-F}
use Rattle.cob_tree.specs.declared.stmt.Stmt.TheVariants as stmts
use Rattle.program_points.specs.perform_ranges.Named.{joined, named_step, arms_step, when_step, named_stmt, named_arms, named_sentence, named_paragraph, named_paragraphs, is_before, main_range, Has, IsRisingOf, AreRangesOf}
use Rattle.pending_returns.specs.Summary.{IsWithin}
use Rattle.program_gen.specs.Generated.{next_of, picked, counter, whole, count_one, jump_below, sentence, jumping, leaving, groups_of, perform_group, performs_of, main_of, generated}

-- ---- what the statements name

abbrev Ranges : Type 0
Ranges = List Range

go-none : (to : ℕ) → named_stmt (stmts.Go to) ≡ []
go-none to = ap named_stmt (sym (stmts.rolls-Go to)) ∙ fold-roll-Stmt Ranges Ranges Ranges named_step arms_step when_step (Stmt-F.Go to)

exit-none : named_stmt stmts.Exit ≡ []
exit-none = ap named_stmt (sym stmts.rolls-Exit) ∙ fold-roll-Stmt Ranges Ranges Ranges named_step arms_step when_step Stmt-F.Exit

stop-none : named_stmt stmts.StopRun ≡ []
stop-none = ap named_stmt (sym stmts.rolls-StopRun) ∙ fold-roll-Stmt Ranges Ranges Ranges named_step arms_step when_step Stmt-F.StopRun

display-none : named_stmt (stmts.Display (operands.Place counter ∷ []) true) ≡ []
display-none =
    ap named_stmt (sym (stmts.rolls-Display (operands.Place counter ∷ []) true))
    ∙ fold-roll-Stmt Ranges Ranges Ranges named_step arms_step when_step (Stmt-F.Display (operands.Place counter ∷ []) true)

abbrev bare : Arms
bare = roll-Arms (record { first = None; second = None })

bare-none : named_arms bare ≡ []
bare-none = fold-roll-Arms Ranges Ranges Ranges named_step arms_step when_step (record { first = None; second = None })

count-none : named_stmt count_one ≡ []
count-none =
    let calc = calcs.Add (operands.Number (whole 1) ∷ []) in
    let into : List Target = record { place = counter; rounded = false } ∷ [] in
    ap named_stmt (sym (stmts.rolls-Arith calc into bare)) ∙ fold-roll-Stmt Ranges Ranges Ranges named_step arms_step when_step (Stmt-F.Arith calc into bare) ∙ bare-none

jump-none : (bound to : ℕ) → named_stmt (jump_below bound to) ≡ []
jump-none bound to =
    let below = Relation (Leaf (operands.Place counter)) Less (Leaf (operands.Number (whole bound))) in
    ap named_stmt (sym (stmts.rolls-If below (stmts.Go to ∷ []) [])) ∙ fold-roll-Stmt Ranges Ranges Ranges named_step arms_step when_step (Stmt-F.If below (stmts.Go to ∷ []) [])
    ∙ ap (λ (rs : List Range). (rs ++ []) ++ []) (go-none to)

-- the range of a group
abbrev pub group_range : ℕ → Range
group_range group = record { entry = 4 * group - 3; exit = Some (4 * group) }

perform-one : (group : ℕ) → named_stmt (perform_group group) ≡ group_range group ∷ []
perform-one group =
    ap named_stmt (sym (stmts.rolls-Perform (4 * group - 3) (4 * group) Once))
    ∙ fold-roll-Stmt Ranges Ranges Ranges named_step arms_step when_step (Stmt-F.Perform (4 * group - 3) (4 * group) Once)

-- ---- what the paragraphs name

none-both : (first second : List Range) → first ≡ [] → second ≡ [] → first ++ second ≡ []
none-both first second e f = ap (λ (rs : List Range). rs ++ second) e ∙ f

sentence-none : (stmt : Stmt) → named_stmt stmt ≡ [] → named_sentence (sentence stmt) ≡ []
sentence-none stmt e = ap (λ (rs : List Range). rs ++ []) e

jumping-none : (group number x : ℕ) → named_paragraph (jumping group number x) ≡ []
jumping-none group number x =
    let jump = jump_below (10 * group) (4 * group - 4 + picked x) in
    none-both (named_sentence (sentence count_one)) (joined (map named_sentence (sentence jump ∷ []))) (sentence-none count_one count-none)
    (none-both (named_sentence (sentence jump)) [] (sentence-none jump (jump-none (10 * group) (4 * group - 4 + picked x))) refl)

leaving-none : (group : ℕ) → named_paragraph (leaving group) ≡ []
leaving-none group = none-both (named_sentence (sentence stmts.Exit)) [] (sentence-none stmts.Exit exit-none) refl

groups-none : (count group x : ℕ) → named_paragraphs (groups_of count group x) ≡ []
groups-none zero group x = refl
groups-none (suc count) group x =
    none-both (named_paragraph (jumping group 1 (next_of x))) _ (jumping-none group 1 (next_of x))
    (none-both (named_paragraph (jumping group 2 (next_of (next_of x)))) _ (jumping-none group 2 (next_of (next_of x)))
    (none-both (named_paragraph (jumping group 3 (next_of (next_of (next_of x))))) _ (jumping-none group 3 (next_of (next_of (next_of x))))
    (none-both (named_paragraph (leaving group)) _ (leaving-none group) (groups-none count (suc group) (next_of (next_of (next_of x)))))))

-- the ranges of so many groups, from this one on
abbrev pub group_ranges : (count group : ℕ) → List Range
group_ranges zero group = []
group_ranges (suc count) group = group_range group ∷ group_ranges count (suc group)

performs-name : (count group : ℕ) (others : List Sentence) → joined (map named_sentence others) ≡ [] → joined (map named_sentence (performs_of count group ++ others)) ≡ group_ranges count group
performs-name zero group others e = e
performs-name (suc count) group others e =
    let later = joined (map named_sentence (performs_of count (suc group) ++ others)) in
    ap (λ (rs : List Range). (rs ++ []) ++ later) (perform-one group) ∙ ap (λ (rs : List Range). group_range group ∷ rs) (performs-name count (suc group) others e)

main-names : (n : ℕ) → named_paragraph (main_of n) ≡ group_ranges n 1
main-names n =
    let shown = stmts.Display (operands.Place counter ∷ []) true in
    performs-name n 1 (sentence shown ∷ sentence stmts.StopRun ∷ [])
    (none-both (named_sentence (sentence shown)) _ (sentence-none shown display-none)
    (none-both (named_sentence (sentence stmts.StopRun)) [] (sentence-none stmts.StopRun stop-none) refl))

all-name : (n : ℕ) → named_paragraphs (generated n).paragraphs ≡ group_ranges n 1
all-name n =
    ap (λ (rs : List Range). rs ++ named_paragraphs (groups_of n 1 n)) (main-names n)
    ∙ ap (λ (rs : List Range). group_ranges n 1 ++ rs) (groups-none n 1 n) ∙ append-nil (group_ranges n 1)

-- ---- the ranges rise

range-at : (count group number : ℕ) (range : Range) → slice_get (group_ranges count group) number ≡ Some range → range ≡ group_range (group + number)
range-at zero group number range e = absurd (let k : ⊥ = cc in k)
range-at (suc count) group zero range e =
    let is : range ≡ group_range group = cc in
    let same : group ≡ group + 0 = omega arith in
    is ∙ ap group_range same
range-at (suc count) group (suc number) range e =
    let same : suc group + number ≡ group + suc number = omega arith in
    range-at count (suc group) number range e ∙ ap group_range same

before-next : (group later : ℕ) → 1 ≤ group → group < later → is_before (group_range group) (group_range later) ≡ true
before-next group later some less =
    let e : nat_lt (4 * group - 3) (4 * later - 3) ≡ true = lt-ltb (4 * group - 3) (4 * later - 3) (omega (arith, some, less)) in
    ap (λ b. b || ((4 * group - 3) == (4 * later - 3) && nat_lt (4 * group) (4 * later))) e

abbrev pub all_ranges : ℕ → List Range
all_ranges n = main_range ∷ group_ranges n 1

rising : (n number : ℕ) (range next : Range) → slice_get (all_ranges n) number ≡ Some range → slice_get (all_ranges n) (suc number) ≡ Some next → is_before range next ≡ true
rising n zero range next e f =
    let first : main_range ≡ range = cc in
    let second = range-at n 1 0 next f in
    subst (λ r. is_before r next ≡ true) first (subst (λ r. is_before main_range r ≡ true) (sym second) refl)
rising n (suc number) range next e f =
    let first = range-at n 1 number range e in
    let second = range-at n 1 (suc number) next f in
    subst (λ r. is_before r next ≡ true) (sym first)
    (subst (λ r. is_before (group_range (1 + number)) r ≡ true) (sym second) (before-next (1 + number) (1 + suc number) (omega arith) (omega arith)))

only-at : (n : ℕ) (range : Range) (number : ℕ) → slice_get (all_ranges n) number ≡ Some range → (range ≡ main_range) ⊎ Has (group_ranges n 1) range
only-at n range zero e = inl (let k : range ≡ main_range = cc in k)
only-at n range (suc number) e = inr (number, e)

are-ranges : (n : ℕ) → AreRangesOf (generated n) (all_ranges n)
are-ranges n =
    subst (λ (list : List Range). IsRisingOf list (all_ranges n)) (sym (all-name n))
    (record { main = refl; rising = rising n; all = λ range has. (suc has.0, has.1); only = λ range has. only-at n range has.0 has.1 })

ranges-count : (count group : ℕ) → length (group_ranges count group) ≡ count
ranges-count zero group = refl
ranges-count (suc count) group = ap suc (ranges-count count (suc group))

pub few-ranges : (n : ℕ) → n ≤ 1249 → IsWithin (generated n)
few-ranges n small =
    let counted : length (all_ranges n) ≡ suc n = ap suc (ranges-count n 1) in
    (suc n, (all_ranges n, are-ranges n, counted), omega (arith, small))
