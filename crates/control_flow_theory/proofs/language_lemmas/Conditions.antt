-- A condition is read back from its test.
use Rattle.std.proofs.Common.{◌≡◌, ℕ, zero, suc, Option, Some, None, refl, ap, sym, ◌∙◌, subst}
use Rattle.cob_tree.specs.declared.cond.Cond.{Cond, ind-Cond, map-Cond, roll-Cond, fold-roll-Cond}
use Rattle.cob_tree.specs.declared.cond.Cond.TheOpen.{Cond-F}
use Rattle.cob_tree.specs.declared.cond.Cond.TheVariants.{Relation, Not, And, Or, rolls-Relation, rolls-Class, rolls-SignIs, rolls-Named, rolls-Not, rolls-And, rolls-Or}
use Rattle.cob_tree.specs.declared.cond.Rel.{Rel}
use Rattle.cob_tree.specs.declared.cond.Rel.TheVariants.{Equal, Greater}
use Rattle.control_flow_theory.specs.language.Control.{cell_in, number_in, relation_of, Tested, tested_step, tested, test_of}
use Rattle.control_flow_theory.specs.language.Own.{OwnTest}
use Rattle.control_flow_theory.proofs.language_lemmas.Unseen.{cond_of}

-- the fold keeps the condition, and the test gives it back
record KeptCond (cond : Cond) : Type 0 where
  same : (tested cond).cond ≡ cond
  back : OwnTest (tested cond).test → cond_of (tested cond).test ≡ cond

relation-back : (cell : Option ℕ) (rel : Rel) (value : Option ℕ) (whole : Cond) → OwnTest (relation_of cell rel value whole) → cond_of (relation_of cell rel value whole) ≡ whole
relation-back None rel value whole own = refl
relation-back (Some cell) Equal None whole own = refl
relation-back (Some cell) Equal (Some value) whole own = absurd own
relation-back (Some cell) Greater None whole own = refl
relation-back (Some cell) Greater (Some zero) whole own = absurd own
relation-back (Some cell) Greater (Some (suc value)) whole own = refl
relation-back (Some cell) rel value whole own = refl

abbrev Such : Type 0
Such = (cond : Cond) × KeptCond cond

kept_by : (cond : Cond) (seen : Tested) → tested cond ≡ seen → seen.cond ≡ cond → (OwnTest seen.test → cond_of seen.test ≡ cond) → KeptCond cond
kept_by cond seen e same back = record {
  same = ap (λ t. t.cond) e ∙ same;
  back = λ own. ap (λ t. cond_of t.test) e ∙ back (subst (λ t. OwnTest t.test) e own);
}

layer : (y : Cond-F Such) → KeptCond (roll-Cond (map-Cond Such Cond (λ e. e.0) y))
layer (Cond-F.Relation left rel right) =
    kept_by _ _ (fold-roll-Cond Tested tested_step (Cond-F.Relation left rel right)) (sym (rolls-Relation left rel right))
    (λ own. relation-back (cell_in left) rel (number_in right) (Relation left rel right) own ∙ sym (rolls-Relation left rel right))
layer (Cond-F.Class place kind not) =
    kept_by _ _ (fold-roll-Cond Tested tested_step (Cond-F.Class place kind not)) (sym (rolls-Class place kind not)) (λ own. sym (rolls-Class place kind not))
layer (Cond-F.SignIs expr kind not) =
    kept_by _ _ (fold-roll-Cond Tested tested_step (Cond-F.SignIs expr kind not)) (sym (rolls-SignIs expr kind not)) (λ own. sym (rolls-SignIs expr kind not))
layer (Cond-F.Named place) =
    kept_by _ _ (fold-roll-Cond Tested tested_step (Cond-F.Named place)) (sym (rolls-Named place)) (λ own. sym (rolls-Named place))
layer (Cond-F.Not inner) =
    kept_by _ _ (fold-roll-Cond Tested tested_step (Cond-F.Not inner.0)) (ap Not inner.1.same ∙ sym (rolls-Not inner.0))
    (λ own. ap Not (inner.1.back own) ∙ sym (rolls-Not inner.0))
layer (Cond-F.And left right) =
    let both : And (tested left.0).cond (tested right.0).cond ≡ And left.0 right.0 = ap (λ c. And c (tested right.0).cond) left.1.same ∙ ap (And left.0) right.1.same in
    kept_by _ _ (fold-roll-Cond Tested tested_step (Cond-F.And left.0 right.0)) (both ∙ sym (rolls-And left.0 right.0)) (λ own. both ∙ sym (rolls-And left.0 right.0))
layer (Cond-F.Or left right) =
    let both : Or (tested left.0).cond (tested right.0).cond ≡ Or left.0 right.0 = ap (λ c. Or c (tested right.0).cond) left.1.same ∙ ap (Or left.0) right.1.same in
    kept_by _ _ (fold-roll-Cond Tested tested_step (Cond-F.Or left.0 right.0)) (both ∙ sym (rolls-Or left.0 right.0)) (λ own. both ∙ sym (rolls-Or left.0 right.0))

kept : (cond : Cond) → KeptCond cond
kept cond = ind-Cond KeptCond (λ x y is. subst (λ z. KeptCond (roll-Cond z)) is (layer y)) cond

pub cond-back : (cond : Cond) → OwnTest (test_of cond) → cond_of (test_of cond) ≡ cond
cond-back cond own = (kept cond).back own
