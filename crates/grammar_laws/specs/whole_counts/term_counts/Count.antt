-- What terms that were counted before change in what is read.
use Rattle.std.specs.Prelude.{◌≡◌, ℕ, ◌+◌, ◌<◌, ◌≤◌, ◌⊎◌, length}
use Rattle.parser_combinators.specs.declared.why.Why.TheVariants.{Terms}
use Rattle.parser_combinators.specs.Form.{Input, Outcome, Got, Stop, left, Form}
use Rattle.symbol_tables.specs.data_names.Names.{Names}
use Rattle.cob_base.specs.Limit.{max_terms}
use Rattle.cobol_grammar.specs.expr_forms.Reference.{reference}
use Rattle.cobol_grammar.specs.expr_forms.Operand.{operand}
use Rattle.cobol_grammar.specs.expr_forms.Expression.{expr}
use Rattle.cobol_grammar.specs.expr_forms.Levels.{inner}

-- what is read to an end comes to so many terms that, with those before, they pass the limit
abbrev pub Passes : {A : Type 0} → (before : ℕ) → Outcome (A × ℕ) → Type 0
Passes before (Got a q) = max_terms < a.1 + before
Passes before (Stop why rest) = Unit {0}

-- The second has so many terms fewer before it. It reads what the first reads, and stops as it does
-- or, where the first stopped at the limit, not before it; and where it then ends, the limit was
-- passed.
abbrev pub WithFewer : {A : Type 0} → (before : ℕ) → Outcome (A × ℕ) → Outcome (A × ℕ) → Type 0
WithFewer before (Got a q) fewer = (n : ℕ) × (a.1 ≡ n + before) × (fewer ≡ Got (a.0, n) q)
WithFewer before (Stop why rest) fewer =
    (fewer ≡ Stop why rest)
    ⊎ ((why ≡ Terms) × (length (left fewer) ≤ length rest) × Passes before fewer)

-- what is read leaves the count as it is or adds to it
abbrev pub OnlyCounts : {A : Type 0} → (ℕ → Form (A × ℕ)) → Type 0
OnlyCounts {A = A} f =
    (count : ℕ) (p : Input) (a : A × ℕ) (q : Input) → (f count).reads p ≡ Got a q → count ≤ a.1

-- more terms before change nothing but the count, up to the limit
abbrev pub CountsAlike : {A : Type 0} → (ℕ → Form (A × ℕ)) → Type 0
CountsAlike f = (count before : ℕ) (p : Input) →
    WithFewer before ((f (count + before)).reads p) ((f count).reads p)

-- what is read with fewer terms before, and doesn't pass the limit with more, is read with more
abbrev pub KeepsWithin : {A : Type 0} → (ℕ → Form (A × ℕ)) → Type 0
KeepsWithin {A = A} f = (count before : ℕ) (p : Input) (a : A) (n : ℕ) (q : Input) →
    (f count).reads p ≡ Got (a, n) q → n + before ≤ max_terms →
    (f (count + before)).reads p ≡ Got (a, n + before) q

-- the form is all that for its terms
pub record IsCounted {A : Type 0} (f : ℕ → Form (A × ℕ)) : Type 0 where
  pub only_counts : OnlyCounts f
  pub counts_alike : CountsAlike f
  pub keeps_within : KeepsWithin f

-- references, operands and expressions with so many levels of parentheses
pub record TermsOnlyAdd : Type 0 where
  pub reference : (names : Names) (levels : ℕ) →
      IsCounted (λ count. reference names (inner names levels) count)
  pub operand : (names : Names) (levels : ℕ) →
      IsCounted (λ count. operand names (inner names levels) count)
  pub expr : (names : Names) (levels : ℕ) →
      IsCounted (λ count. expr names (inner names levels) count)
