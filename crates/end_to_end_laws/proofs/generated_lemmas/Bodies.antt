-- What the paragraphs of generated programs have in them is spelled, where the parts of their
-- statements are.
use Rattle.std.proofs.Common.{ℕ, zero, suc, ◌+◌, ◌*◌, ◌-◌, ◌<◌, ◌≤◌, true, false, inl, inr, List, [], ◌∷◌, ◌++◌, None, refl, arith, eqb-true}
use Rattle.cob_tree.specs.declared.calc.Calc.TheVariants as calcs
use Rattle.cob_tree.specs.declared.cond.Cond.{Cond}
use Rattle.cob_tree.specs.declared.cond.Cond.TheVariants.{Relation}
use Rattle.cob_tree.specs.declared.cond.Rel.TheVariants.{Less}
use Rattle.cob_tree.specs.declared.control.Control.TheVariants.{Once}
use Rattle.cob_tree.specs.declared.place.Expr.TheVariants.{Leaf}
use Rattle.cob_tree.specs.declared.place.Operand.TheVariants as operands
use Rattle.cob_tree.specs.declared.program.Sentence.{Sentence}
use Rattle.cob_tree.specs.declared.stmt.Arms.{roll-Arms}
use Rattle.cob_tree.specs.declared.stmt.Stmt.{Stmt}
use Rattle.cob_tree.specs.declared.stmt.Stmt.TheOpen.{Stmt-F}
use Rattle.cob_tree.specs.declared.stmt.Stmt.TheVariants as stmts
use Rattle.cobol_grammar.specs.declared.stmt_forms.scope.Scope.{Scope}
use Rattle.cobol_grammar.specs.stmt_forms.Paragraph.{scope_of}
use Rattle.cobol_grammar.specs.stmt_forms.Part.{Parts}
use Rattle.round_trip.specs.spelling.stmt_spelling.Division.{SpellsSentence, SpellsSentences}
use Rattle.round_trip.specs.spelling.stmt_spelling.Part.{Kept, Without, SpellsValue, SpellsNumber, SpellsPlace, SpellsCond, SpellsLabel, SpellsRange}
use Rattle.round_trip.specs.spelling.stmt_spelling.Stmt.{Each, SpellsStmt, SpellsList}
use Rattle.round_trip.specs.procedures.readable_stmts.Body.{SpellsBehind, SpellsBodies}
use Rattle.round_trip.proofs.procedures_lemmas.readable_stmts_lemmas.Made.{made, made_arms}
use Rattle.program_gen.specs.Generated.{next_of, picked, counter, whole, count_one, jump_below, sentence, jumping, groups_of, perform_group, performs_of, generated}

-- the counter is below this number
abbrev pub is_below : ℕ → Cond
is_below bound = Relation (Leaf (operands.Place counter)) Less (Leaf (operands.Number (whole bound)))

picked-low : (x : ℕ) → picked x ≤ 4
picked-low x = omega arith

module _ {Side Known : Type 0} (parts : Parts Side Known) (kept : Kept Side) (n : ℕ) where
  -- what their statements are made of
  pub record PartsAreSpelled : Type 0 where
    pub value : SpellsValue parts kept (generated n) (operands.Place counter)
    pub one : SpellsNumber parts kept (generated n) (operands.Number (whole 1))
    pub place : SpellsPlace parts kept (generated n) counter
    pub number : Without parts kept (generated n) parts.number_fault (operands.Place counter)
    pub below : (bound : ℕ) → SpellsCond parts kept (generated n) (is_below bound)
    pub label : (at : ℕ) → at < 1 + 4 * n → SpellsLabel parts kept (generated n) at (at, at)

  abbrev Held : ℕ → Scope → List Stmt → Type 0
  Held levels = SpellsList parts kept (generated n) levels

  one-listed : (levels : ℕ) (scope : Scope) (stmt : Stmt) → SpellsStmt parts kept (generated n) (Held levels) scope stmt → Held (suc levels) scope (stmt ∷ [])
  unfolding SpellsList
  one-listed levels scope stmt h = (refl, (h, tt))

  module _ (spelled : PartsAreSpelled) (scope : Scope) where
    -- ---- statements

    display-spelled : (levels : ℕ) → Held (suc levels) scope (stmts.Display (operands.Place counter ∷ []) true ∷ [])
    display-spelled levels =
        one-listed levels scope (stmts.Display (operands.Place counter ∷ []) true)
        (made parts kept (generated n) (Held levels) scope (Stmt-F.Display (operands.Place counter ∷ []) true) (stmts.Display (operands.Place counter ∷ []) true) (stmts.rolls-Display (operands.Place counter ∷ []) true)
        (refl, (spelled.value, tt)))

    stop-spelled : (levels : ℕ) → Held (suc levels) scope (stmts.StopRun ∷ [])
    stop-spelled levels = one-listed levels scope stmts.StopRun (made parts kept (generated n) (Held levels) scope Stmt-F.StopRun stmts.StopRun stmts.rolls-StopRun tt)

    count-spelled : (levels : ℕ) → Held (suc levels) scope (count_one ∷ [])
    count-spelled levels =
        let calc = calcs.Add (operands.Number (whole 1) ∷ []) in
        let into = record { place = counter; rounded = false } ∷ [] in
        let arms = roll-Arms (record { first = None; second = None }) in
        one-listed levels scope count_one
        (made parts kept (generated n) (Held levels) scope (Stmt-F.Arith calc into arms) count_one (stmts.rolls-Arith calc into arms)
        (((refl, (spelled.one, tt)), (refl, ((spelled.place, spelled.number), tt))), made_arms parts kept (generated n) (Held levels) scope None None tt tt))

    go-spelled : (levels to : ℕ) → to < 1 + 4 * n → Held (suc levels) scope (stmts.Go to ∷ [])
    go-spelled levels to low = one-listed levels scope (stmts.Go to) (made parts kept (generated n) (Held levels) scope (Stmt-F.Go to) (stmts.Go to) (stmts.rolls-Go to) (to, spelled.label to low))

    jump-spelled : (levels bound to : ℕ) → to < 1 + 4 * n → Held (suc (suc levels)) scope (jump_below bound to ∷ [])
    jump-spelled levels bound to low =
        one-listed (suc levels) scope (jump_below bound to)
        (made parts kept (generated n) (Held (suc levels)) scope (Stmt-F.If (is_below bound) (stmts.Go to ∷ []) []) (jump_below bound to) (stmts.rolls-If (is_below bound) (stmts.Go to ∷ []) [])
        (spelled.below bound, (go-spelled levels to low, tt)))

    group-range : (group : ℕ) → 1 ≤ group → group ≤ n → SpellsRange parts kept (generated n) (4 * group - 3) (4 * group)
    group-range group some few =
        let less : 4 * group - 3 < 4 * group = omega (arith, some) in
        record {
          last = 4 * group - 3;
          first_label = spelled.label (4 * group - 3) (omega (arith, few));
          alone = λ e. eqb-true (4 * group - 3) (4 * group) e;
          last_label = λ e. (4 * group, spelled.label (4 * group) (omega (arith, few)));
        }

    perform-spelled : (levels group : ℕ) → 1 ≤ group → group ≤ n → Held (suc levels) scope (perform_group group ∷ [])
    perform-spelled levels group some few =
        one-listed levels scope (perform_group group)
        (made parts kept (generated n) (Held levels) scope (Stmt-F.Perform (4 * group - 3) (4 * group) Once) (perform_group group) (stmts.rolls-Perform (4 * group - 3) (4 * group) Once)
        (group-range group some few, tt))

    -- ---- sentences

    abbrev IsSpelled : Sentence → Type 0
    IsSpelled one = SpellsSentence parts kept (generated n) scope one

    performs-spelled : (count group : ℕ) (others : List Sentence) → 1 ≤ group → group + count ≤ n + 1 → Each IsSpelled others → Each IsSpelled (performs_of count group ++ others)
    performs-spelled zero group others some few h = h
    performs-spelled (suc count) group others some few h =
        (perform-spelled 500 group some (omega (arith, few)), performs-spelled count (suc group) others (omega arith) (omega (arith, few)) h)

    jumping-spelled : (group number x : ℕ) → 1 ≤ group → group ≤ n → SpellsSentences parts kept (generated n) scope (jumping group number x).sentences
    jumping-spelled group number x some few =
        let low = picked-low x in
        inr (count-spelled 500, (jump-spelled 499 (10 * group) (4 * group - 4 + picked x) (omega (arith, some, few, low)), tt))

  -- ---- paragraphs

  module _ (spelled : PartsAreSpelled) where
    groups-spelled : (count group x : ℕ) → 1 ≤ group → group + count ≤ n + 1 → SpellsBehind parts kept (generated n) false false (groups_of count group x)
    groups-spelled zero group x some few = tt
    groups-spelled (suc count) group x some few =
        let low : group ≤ n = omega (arith, few) in (
          (refl, jumping-spelled spelled (scope_of false) group 1 (next_of x) some low),
          (
            (refl, jumping-spelled spelled (scope_of false) group 2 (next_of (next_of x)) some low),
            (
              (refl, jumping-spelled spelled (scope_of false) group 3 (next_of (next_of (next_of x))) some low),
              ((refl, inl refl), groups-spelled count (suc group) (next_of (next_of (next_of x))) (omega arith) (omega (arith, few))),
            ),
          ),
        )

    pub bodies : SpellsBodies parts kept (generated n) (generated n).paragraphs
    bodies = (
      (
        refl,
        inr (performs-spelled spelled (scope_of false) n 1 (sentence (stmts.Display (operands.Place counter ∷ []) true) ∷ sentence stmts.StopRun ∷ []) (omega arith) (omega arith)
            (display-spelled spelled (scope_of false) 500, (stop-spelled spelled (scope_of false) 500, tt))),
      ),
      groups-spelled n 1 n (omega arith) (omega arith),
    )
