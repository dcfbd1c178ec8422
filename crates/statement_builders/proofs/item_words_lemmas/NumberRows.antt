-- Numbers one after the other.
use Rattle.std.proofs.Common.{◌≡◌, ℕ, zero, suc, ◌+◌, [], ◌∷◌, ◌++◌, map, ap, ◌∙◌, arith, add-one}
use Rattle.cobol_theory.specs.cell_items.Laws.{number_tests}
use Rattle.cobol_theory.specs.cell_serving.Entries.{whole_literal}
use Rattle.cobol_theory.specs.cell_serving.Naming.{numbers_from}

numbers_suc : (first more at : ℕ) → at ≡ first + more → map number_tests (numbers_from whole_literal first (suc more)) ≡ map number_tests (numbers_from whole_literal first more) ++ number_tests (whole_literal at) ∷ []
numbers_suc first zero at e = ap (λ n. number_tests (whole_literal n) ∷ []) (omega (arith, e))
numbers_suc first (suc more) at e = ap (λ l. number_tests (whole_literal first) ∷ l) (numbers_suc (suc first) more at (omega (arith, e)))

-- one number more
pub numbers_next : (at : ℕ) → map number_tests (numbers_from whole_literal 1 (at + 1)) ≡ map number_tests (numbers_from whole_literal 1 at) ++ number_tests (whole_literal (at + 1)) ∷ []
numbers_next at = ap (λ n. map number_tests (numbers_from whole_literal 1 n)) (add-one at) ∙ numbers_suc 1 at (at + 1) (omega arith)
