-- How many terms a condition has: its NOTs, with those of its expressions and of the places that it
-- tests.
use Rattle.std.specs.Prelude.{ℕ, ◌+◌}
use Rattle.cob_tree.specs.declared.cond.Cond.{Cond, fold-Cond}
use Rattle.cob_tree.specs.declared.cond.Cond.TheOpen.{Cond-F}
use Rattle.program_facts.specs.term_counts.Expression.{expr_terms, place_terms}

-- the terms of one level of a condition
abbrev pub cond_step : Cond-F ℕ → ℕ
cond_step (Cond-F.Relation left rel right) = expr_terms left + expr_terms right
cond_step (Cond-F.Class place kind not) = 1 + place_terms place
cond_step (Cond-F.SignIs expr kind not) = expr_terms expr
cond_step (Cond-F.Named place) = 1 + place_terms place
cond_step (Cond-F.Not inner) = 1 + inner
cond_step (Cond-F.And left right) = left + right
cond_step (Cond-F.Or left right) = left + right

-- the terms of a condition
abbrev pub cond_terms : Cond → ℕ
cond_terms = fold-Cond ℕ cond_step
