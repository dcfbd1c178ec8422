-- Where named parts that count by whole numbers are taken, so are the acts, tests and loops that
-- control makes of them.
use Rattle.std.proofs.Common.{◌≡◌, ℕ, zero, suc, ◌≤◌, ◌<◌, ◌^◌, Bool, true, false, ◌&&◌, List, [], ◌∷◌, map, Option, Some, None, refl, sym, ◌∙◌, subst}
use Rattle.std.proofs.lemmas.Bool.{and_parts}
use Rattle.cob_tree.specs.declared.calc.Calc.{Calc}
use Rattle.cob_tree.specs.declared.calc.Calc.TheVariants as calcs
use Rattle.cob_tree.specs.declared.calc.Target.{Target}
use Rattle.cob_tree.specs.declared.choice.Subject.{Subject}
use Rattle.cob_tree.specs.declared.choice.Test.{Test}
use Rattle.cob_tree.specs.declared.cond.Cond.{Cond, ind-Cond, map-Cond, roll-Cond, fold-roll-Cond}
use Rattle.cob_tree.specs.declared.cond.Cond.TheOpen.{Cond-F}
use Rattle.cob_tree.specs.declared.cond.Rel.{Rel}
use Rattle.cob_tree.specs.declared.cond.Rel.TheVariants as rels
use Rattle.cob_tree.specs.declared.control.Control.{Control}
use Rattle.cob_tree.specs.declared.control.Control.TheVariants as turning
use Rattle.cob_tree.specs.declared.entry.Entry.{Entry}
use Rattle.cob_tree.specs.declared.place.Operand.{Operand}
use Rattle.cob_tree.specs.declared.place.Place.{Place}
use Rattle.cob_tree.specs.declared.stmt.Stmt.{Stmt}
use Rattle.cob_tree.specs.declared.stmt.Stmt.TheVariants as stmts
use Rattle.control_flow_theory.specs.language.All.{all}
use Rattle.control_flow_theory.specs.language.Control.{cell_of, cell_in, number_in, number_written, relation_of, setting, Tested, tested_step, tested, test_of, move_to, move_of, lowered_cell, arith_alone, arith_act, arith_of, control_in, setting_item, augmented}
use Rattle.control_flow_theory.specs.language.Language as language
use Rattle.control_flow_theory.specs.lowering.FlowFacts.{FlowFacts}
use Rattle.control_flow_theory.specs.rendering.Rendering.{Naming}
use Rattle.control_flow_theory.specs.rendering.Procedures.{Writable}
use Rattle.control_flow_theory.specs.expressible_graphs.Served.{ActIsServed, TestIsServed, ChooserIsServed, ControlIsServed}
use Rattle.program_facts.specs.well_scoped.Part.{Counts, is_filled, if_any, file_named, place_named, operand_named, expr_named}
use Rattle.program_facts.specs.well_scoped.Beside.{cond_named, control_named, calc_named, target_named, subject_named, test_named}
use Rattle.program_facts.specs.well_scoped.Beside as beside
use Rattle.program_facts.specs.well_scoped.Named.{stmt_named}
use Rattle.program_facts.proofs.well_scoped_lemmas.Made.{both, made-Relation, made-Class, made-SignIs, made-Named, made-Not, made-And, made-Or, made-Move, made-Arith, made-Arms}
use Rattle.program_facts.specs.whole_counts.Whole.{amount_is_whole, control_counts_whole, place_is_whole}

module _ (naming : Naming) (kinds : Writable) (told : FlowFacts) (range : language.Range) (counts : Counts) (entries : List Entry) where
  -- these parts may be written
  pub record Takes : Type 0 where
    pub simples : (stmt : Stmt) → stmt_named counts stmt ≡ true → kinds.simples stmt ≡ true
    pub conds : (cond : Cond) → cond_named counts cond ≡ true → kinds.conds cond ≡ true
    pub amounts : (amount : Operand) → operand_named counts amount ≡ true → amount_is_whole entries amount ≡ true → kinds.amounts amount ≡ true
    pub evaluates : (subject : Subject) (tests : List (List Test)) (has_other : Bool) (arms : List Bool) →
        subject_named counts subject ≡ true → all (map (λ each. all (map (test_named counts) each)) tests) ≡ true →
        kinds.choosers (language.Evaluate subject tests has_other) arms ≡ true
    pub ariths : (calc : Calc) (into : List Target) (arms : List Bool) → calc_named counts calc ≡ true → all (map (target_named counts) into) ≡ true →
        kinds.choosers (language.Arith calc into) arms ≡ true
    pub reads : (file : ℕ) (into : Option Place) (has_end : Bool) → file_named counts file ≡ true → if_any (place_named counts) into ≡ true →
        ChooserIsServed naming kinds told range (language.Read file into has_end) 2
    pub jumps : (on : Place) (names : ℕ) (arms : List Bool) → place_named counts on ≡ true → place_is_whole entries on ≡ true → 1 ≤ names → names < 10 ^ 18 →
        kinds.choosers (language.Depending on names) arms ≡ true

  module _ (takes : Takes) where
    -- ---- conditions

    abbrev IsTaken : language.Test → Type 0
    IsTaken test = TestIsServed naming kinds told range test

    relation-taken : (cell : Option ℕ) (rel : Rel) (value : Option ℕ) (whole : Cond) → kinds.conds whole ≡ true → IsTaken (relation_of cell rel value whole)
    relation-taken None rel value whole e = e
    relation-taken (Some cell) rels.Equal None whole e = e
    relation-taken (Some cell) rels.Equal (Some value) whole e = tt
    relation-taken (Some cell) rels.Greater None whole e = e
    relation-taken (Some cell) rels.Greater (Some zero) whole e = tt
    relation-taken (Some cell) rels.Greater (Some (suc value)) whole e = e
    relation-taken (Some cell) rels.NotEqual value whole e = e
    relation-taken (Some cell) rels.Less value whole e = e
    relation-taken (Some cell) rels.LessEqual value whole e = e
    relation-taken (Some cell) rels.GreaterEqual value whole e = e

    abbrev Whole : Tested → Type 0
    Whole t = (cond_named counts t.cond ≡ true) × IsTaken t.test

    abbrev IsCond : Cond → Type 0
    IsCond x = cond_named counts x ≡ true → Whole (tested x)

    abbrev SuchCond : Type 0
    SuchCond = (x : Cond) × IsCond x

    cond-by : (y : Cond-F Cond) → (beside.cond_step counts (map-Cond Cond Bool (cond_named counts) y) ≡ true → Whole (tested_step (map-Cond Cond Tested tested y))) → IsCond (roll-Cond y)
    cond-by y h e = subst Whole (sym (fold-roll-Cond Tested tested_step y)) (h (sym (fold-roll-Cond Bool (beside.cond_step counts) y) ∙ e))

    -- a condition that is no word on a cell
    held-taken : (whole : Cond) → cond_named counts whole ≡ true → (cond_named counts whole ≡ true) × (kinds.conds whole ≡ true)
    held-taken whole e = (e, takes.conds whole e)

    cond-layer : (y : Cond-F SuchCond) → IsCond (roll-Cond (map-Cond SuchCond Cond (λ e. e.0) y))
    cond-layer (Cond-F.Relation left rel right) =
        cond-by (Cond-F.Relation left rel right)
        (λ e.
        let h = and_parts (expr_named counts left) (expr_named counts right) e in
        let k = made-Relation counts left rel right h.0 h.1 in
        (k, relation-taken (cell_in left) rel (number_in right) _ (takes.conds _ k)))
    cond-layer (Cond-F.Class place kind not) = cond-by (Cond-F.Class place kind not) (λ e. held-taken _ (made-Class counts place kind not e))
    cond-layer (Cond-F.SignIs expr kind not) = cond-by (Cond-F.SignIs expr kind not) (λ e. held-taken _ (made-SignIs counts expr kind not e))
    cond-layer (Cond-F.Named place) = cond-by (Cond-F.Named place) (λ e. held-taken _ (made-Named counts place e))
    cond-layer (Cond-F.Not inner) = cond-by (Cond-F.Not inner.0) (λ e. let h = inner.1 e in (made-Not counts (tested inner.0).cond h.0, h.1))
    cond-layer (Cond-F.And left right) =
        cond-by (Cond-F.And left.0 right.0)
        (λ e. let h = and_parts (cond_named counts left.0) (cond_named counts right.0) e in held-taken _ (made-And counts (tested left.0).cond (tested right.0).cond (left.1 h.0).0 (right.1 h.1).0))
    cond-layer (Cond-F.Or left right) =
        cond-by (Cond-F.Or left.0 right.0)
        (λ e. let h = and_parts (cond_named counts left.0) (cond_named counts right.0) e in held-taken _ (made-Or counts (tested left.0).cond (tested right.0).cond (left.1 h.0).0 (right.1 h.1).0))

    pub test-taken : (cond : Cond) → cond_named counts cond ≡ true → IsTaken (test_of cond)
    test-taken cond e = (ind-Cond IsCond (λ x y is. subst (λ z. IsCond (roll-Cond z)) is (cond-layer y)) cond e).1

    -- ---- statements that act

    abbrev ActTaken : language.Act → Type 0
    ActTaken act = ActIsServed naming kinds told range act

    setting-taken : (value : Option ℕ) (from : Operand) (cell : ℕ) → ActTaken (setting value from cell)
    setting-taken None from cell = tt
    setting-taken (Some value) from cell = tt

    move_to-taken : (cell : Option ℕ) (from : Operand) (to : Place) → kinds.simples (stmts.Move from (to ∷ [])) ≡ true → ActTaken (move_to cell from to)
    move_to-taken None from to e = e
    move_to-taken (Some cell) from to e = setting-taken (number_written from) from cell

    pub move-taken : (from : Operand) (to : List Place) → kinds.simples (stmts.Move from to) ≡ true → ActTaken (move_of from to)
    move-taken from [] e = e
    move-taken from (to ∷ []) e = move_to-taken (cell_of to) from to e
    move-taken from (to ∷ next ∷ others) e = e

    pub alone-named : (calc : Calc) (into : List Target) → calc_named counts calc ≡ true → is_filled into ≡ true → all (map (target_named counts) into) ≡ true → kinds.simples (arith_alone calc into) ≡ true
    alone-named calc into c f i = takes.simples (arith_alone calc into) (made-Arith counts calc into _ c f i (made-Arms counts None None refl refl))

    arith_act-taken : (cell : Option ℕ) (calc : Calc) (into : List Target) → kinds.simples (arith_alone calc into) ≡ true → ActTaken (arith_act cell calc into)
    arith_act-taken None calc into e = e
    arith_act-taken (Some cell) calc into e = tt

    pub arith-taken : (calc : Calc) (into : List Target) → kinds.simples (arith_alone calc into) ≡ true → ActTaken (arith_of calc into)
    arith-taken calc into e = arith_act-taken (lowered_cell calc into) calc into e

    -- ---- loops

    abbrev pub TurnsTaken : Option language.Control → Type 0
    TurnsTaken None = Unit {0}
    TurnsTaken (Some control) = ControlIsServed naming kinds told range control

    set-taken : (item : Place) (from : Operand) → place_named counts item ≡ true → operand_named counts from ≡ true → ActTaken (setting_item item from)
    set-taken item from i f = takes.simples _ (made-Move counts from (item ∷ []) f refl (both i refl))

    step-taken : (item : Place) (by : Operand) → place_named counts item ≡ true → operand_named counts by ≡ true → ActTaken (augmented item by)
    step-taken item by i b = alone-named (calcs.Add (by ∷ [])) (record { place = item; rounded = false } ∷ []) (both refl (both b refl)) refl (both i refl)

    pub control-taken : (control : Control) → control_named counts control ≡ true → control_counts_whole entries control ≡ true → TurnsTaken (control_in control)
    control-taken turning.Once e f = tt
    control-taken (turning.Times amount) e f = takes.amounts amount e f
    control-taken (turning.Until after until) e f = test-taken until e
    control-taken (turning.Varying after item from by until) e f =
        let h = and_parts (place_named counts item && operand_named counts from && operand_named counts by) (cond_named counts until) e in
        let k = and_parts (place_named counts item && operand_named counts from) (operand_named counts by) h.0 in
        let l = and_parts (place_named counts item) (operand_named counts from) k.0 in
        (set-taken item from l.0 l.1, step-taken item by l.0 k.1, test-taken until h.1)
