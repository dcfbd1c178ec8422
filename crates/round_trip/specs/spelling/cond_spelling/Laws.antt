-- What spells conditions.
use Rattle.std.specs.Prelude.{ℕ, ◌≡◌, ◌≤◌, true, false, ◌⊎◌, [], ◌∷◌, ◌++◌, codes}
use Rattle.cob_base.specs.Limit.{max_terms}
use Rattle.cob_tree.specs.declared.cond.Cond.{Cond}
use Rattle.cob_tree.specs.declared.program.Program.{Program}
use Rattle.cobol_lex.specs.declared.token.TokenKind.TheVariants as kinds
use Rattle.unparser.specs.Condition.{cond_tokens}
use Rattle.symbol_tables.specs.data_names.Names.{Names}
use Rattle.program_facts.specs.term_counts.Condition.{cond_terms}
use Rattle.cobol_grammar.specs.cond_forms.Condition.{whole_cond}
use Rattle.round_trip.specs.spelled_forms.Spelling.{Spelled}
use Rattle.round_trip.specs.spelling.expr_spelling.Spelled.{Ends}
use Rattle.round_trip.specs.spelling.cond_spelling.Behind.{continues_cond, IsNot, BeginsPhrase}
use Rattle.round_trip.specs.spelling.cond_spelling.Printable.{IsPrintableCond}

-- a condition is spelled by the tokens that it is printed with,
-- where nothing after it continues it
abbrev pub ConditionsAreSpelled : Type 0
ConditionsAreSpelled = (names : Names) (program : Program) (cond : Cond) (taken : ℕ) →
    IsPrintableCond names program cond → cond_terms cond ≤ max_terms →
    Spelled (whole_cond names) taken (cond_tokens program cond false) (Ends continues_cond)
    (λ found. found ≡ (cond, false))

-- A NOT after a condition is read with it where the condition ends in the name of a level 88, since
-- a test could be there, and isn't where it ends otherwise.
abbrev pub ConditionsBeforeNot : Type 0
ConditionsBeforeNot = (names : Names) (program : Program) (cond : Cond) →
    IsPrintableCond names program cond → cond_terms cond ≤ max_terms →
    ((taken : ℕ) →
    Spelled (whole_cond names) taken (cond_tokens program cond false) IsNot
    (λ found. found ≡ (cond, false)))
    ⊎ ((taken : ℕ) →
    Spelled (whole_cond names) taken
    (cond_tokens program cond false ++ kinds.Word (codes "NOT") ∷ []) BeginsPhrase
    (λ found. found ≡ (cond, true)))
