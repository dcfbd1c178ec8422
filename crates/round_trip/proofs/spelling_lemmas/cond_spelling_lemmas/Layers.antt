-- Conditions by what they are made of: their tokens, which can be printed, and their terms.
use Rattle.std.proofs.Common.{◌≡◌, ℕ, ◌+◌, Bool, true, false, ◌&&◌, [], ◌∷◌, ◌++◌, ap, sym, ◌∙◌, subst, append_assoc}
use Rattle.std.specs.Prelude.{codes}
use Rattle.cob_tree.specs.declared.cond.ClassKind.{ClassKind}
use Rattle.cob_tree.specs.declared.cond.Cond.{Cond, ind-Cond, roll-Cond, fold-roll-Cond}
use Rattle.cob_tree.specs.declared.cond.Cond.TheOpen.{Cond-F}
use Rattle.cob_tree.specs.declared.cond.Cond.TheVariants as conds
use Rattle.cob_tree.specs.declared.cond.Rel.{Rel}
use Rattle.cob_tree.specs.declared.cond.SignKind.{SignKind}
use Rattle.cob_tree.specs.declared.place.Expr.{Expr}
use Rattle.cob_tree.specs.declared.place.Place.{Place}
use Rattle.cob_tree.specs.declared.program.Program.{Program}
use Rattle.cobol_lex.specs.declared.token.TokenKind.TheVariants as kind
use Rattle.unparser.specs.Token.{Tokens, in_parentheses, enclosed}
use Rattle.unparser.specs.Place.{place_tokens, expr_tokens}
use Rattle.unparser.specs.Condition as tokens
use Rattle.unparser.specs.Condition.{cond_tokens, rel_tokens, not_tokens, class_word, sign_word}
use Rattle.program_facts.specs.term_counts.Condition as terms
use Rattle.program_facts.specs.term_counts.Condition.{cond_terms}
use Rattle.program_facts.specs.term_counts.Expression.{expr_terms, place_terms}
use Rattle.symbol_tables.specs.data_names.Names.{Names}
use Rattle.round_trip.specs.spelling.cond_spelling.Printable as judging
use Rattle.round_trip.specs.spelling.cond_spelling.Printable.{cond_fit}

-- ---- cases

-- one of the seven kinds
pub record Cases (P : Cond → Type 0) : Type 0 where
  pub relation : (left : Expr) (rel : Rel) (right : Expr) → P (conds.Relation left rel right)
  pub class : (place : Place) (class : ClassKind) (not : Bool) → P (conds.Class place class not)
  pub sign : (expr : Expr) (sign : SignKind) (not : Bool) → P (conds.SignIs expr sign not)
  pub named : (place : Place) → P (conds.Named place)
  pub not : (inner : Cond) → P (conds.Not inner)
  pub both : (left right : Cond) → P (conds.And left right)
  pub either : (left right : Cond) → P (conds.Or left right)

cond-layer : (P : Cond → Type 0) → Cases P → (x : Cond-F Cond) → P (roll-Cond x)
cond-layer P c (Cond-F.Relation left rel right) = subst P (sym (conds.rolls-Relation left rel right)) (c.relation left rel right)
cond-layer P c (Cond-F.Class place class not) = subst P (sym (conds.rolls-Class place class not)) (c.class place class not)
cond-layer P c (Cond-F.SignIs expr sign not) = subst P (sym (conds.rolls-SignIs expr sign not)) (c.sign expr sign not)
cond-layer P c (Cond-F.Named place) = subst P (sym (conds.rolls-Named place)) (c.named place)
cond-layer P c (Cond-F.Not inner) = subst P (sym (conds.rolls-Not inner)) (c.not inner)
cond-layer P c (Cond-F.And left right) = subst P (sym (conds.rolls-And left right)) (c.both left right)
cond-layer P c (Cond-F.Or left right) = subst P (sym (conds.rolls-Or left right)) (c.either left right)

pub cond-cases : (P : Cond → Type 0) → Cases P → (x : Cond) → P x
cond-cases P c x = ind-Cond P (λ x y is. cond-layer P c x) x

-- ---- tokens

module _ (program : Program) where
  abbrev Conds : Type 0
  Conds = Bool → Tokens

  pub tokens-Relation : (left : Expr) (rel : Rel) (right : Expr) (within : Bool) →
      cond_tokens program (conds.Relation left rel right) within ≡ expr_tokens program left false ++ (rel_tokens rel ++ expr_tokens program right false)
  tokens-Relation left rel right within =
      ap (λ c. cond_tokens program c within) (sym (conds.rolls-Relation left rel right)) ∙ ap (λ f. f within) (fold-roll-Cond Conds (tokens.cond_step program) (Cond-F.Relation left rel right))
      ∙ append_assoc (expr_tokens program left false) (rel_tokens rel) (expr_tokens program right false)

  pub tokens-Class : (place : Place) (class : ClassKind) (not : Bool) (within : Bool) →
      cond_tokens program (conds.Class place class not) within ≡ place_tokens program place ++ (not_tokens not ++ kind.Word (class_word class) ∷ [])
  tokens-Class place class not within =
      ap (λ c. cond_tokens program c within) (sym (conds.rolls-Class place class not)) ∙ ap (λ f. f within) (fold-roll-Cond Conds (tokens.cond_step program) (Cond-F.Class place class not))
      ∙ append_assoc (place_tokens program place) (not_tokens not) (kind.Word (class_word class) ∷ [])

  pub tokens-SignIs : (expr : Expr) (sign : SignKind) (not : Bool) (within : Bool) →
      cond_tokens program (conds.SignIs expr sign not) within ≡ expr_tokens program expr false ++ (not_tokens not ++ kind.Word (sign_word sign) ∷ [])
  tokens-SignIs expr sign not within =
      ap (λ c. cond_tokens program c within) (sym (conds.rolls-SignIs expr sign not)) ∙ ap (λ f. f within) (fold-roll-Cond Conds (tokens.cond_step program) (Cond-F.SignIs expr sign not))
      ∙ append_assoc (expr_tokens program expr false) (not_tokens not) (kind.Word (sign_word sign) ∷ [])

  pub tokens-Named : (place : Place) (within : Bool) → cond_tokens program (conds.Named place) within ≡ place_tokens program place
  tokens-Named place within =
      ap (λ c. cond_tokens program c within) (sym (conds.rolls-Named place)) ∙ ap (λ f. f within) (fold-roll-Cond Conds (tokens.cond_step program) (Cond-F.Named place))

  pub tokens-Not : (inner : Cond) (within : Bool) → cond_tokens program (conds.Not inner) within ≡ kind.Word (codes "NOT") ∷ in_parentheses (cond_tokens program inner false)
  tokens-Not inner within =
      ap (λ c. cond_tokens program c within) (sym (conds.rolls-Not inner)) ∙ ap (λ f. f within) (fold-roll-Cond Conds (tokens.cond_step program) (Cond-F.Not inner))

  pub tokens-And : (left right : Cond) (within : Bool) →
      cond_tokens program (conds.And left right) within ≡ enclosed within (cond_tokens program left true ++ kind.Word (codes "AND") ∷ cond_tokens program right true)
  tokens-And left right within =
      ap (λ c. cond_tokens program c within) (sym (conds.rolls-And left right)) ∙ ap (λ f. f within) (fold-roll-Cond Conds (tokens.cond_step program) (Cond-F.And left right))

  pub tokens-Or : (left right : Cond) (within : Bool) →
      cond_tokens program (conds.Or left right) within ≡ enclosed within (cond_tokens program left true ++ kind.Word (codes "OR") ∷ cond_tokens program right true)
  tokens-Or left right within =
      ap (λ c. cond_tokens program c within) (sym (conds.rolls-Or left right)) ∙ ap (λ f. f within) (fold-roll-Cond Conds (tokens.cond_step program) (Cond-F.Or left right))

-- ---- which can be printed

module _ (names : Names) (program : Program) where
  pub fit-Relation : (left : Expr) (rel : Rel) (right : Expr) → cond_fit names program (conds.Relation left rel right) ≡ judging.cond_step names program (Cond-F.Relation left rel right)
  fit-Relation left rel right = ap (λ c. cond_fit names program c) (sym (conds.rolls-Relation left rel right)) ∙ fold-roll-Cond Bool (judging.cond_step names program) (Cond-F.Relation left rel right)

  pub fit-Class : (place : Place) (class : ClassKind) (not : Bool) → cond_fit names program (conds.Class place class not) ≡ judging.cond_step names program (Cond-F.Class place class not)
  fit-Class place class not = ap (λ c. cond_fit names program c) (sym (conds.rolls-Class place class not)) ∙ fold-roll-Cond Bool (judging.cond_step names program) (Cond-F.Class place class not)

  pub fit-SignIs : (expr : Expr) (sign : SignKind) (not : Bool) → cond_fit names program (conds.SignIs expr sign not) ≡ judging.cond_step names program (Cond-F.SignIs expr sign not)
  fit-SignIs expr sign not = ap (λ c. cond_fit names program c) (sym (conds.rolls-SignIs expr sign not)) ∙ fold-roll-Cond Bool (judging.cond_step names program) (Cond-F.SignIs expr sign not)

  pub fit-Named : (place : Place) → cond_fit names program (conds.Named place) ≡ judging.cond_step names program (Cond-F.Named place)
  fit-Named place = ap (λ c. cond_fit names program c) (sym (conds.rolls-Named place)) ∙ fold-roll-Cond Bool (judging.cond_step names program) (Cond-F.Named place)

  pub fit-Not : (inner : Cond) → cond_fit names program (conds.Not inner) ≡ cond_fit names program inner
  fit-Not inner = ap (λ c. cond_fit names program c) (sym (conds.rolls-Not inner)) ∙ fold-roll-Cond Bool (judging.cond_step names program) (Cond-F.Not inner)

  pub fit-And : (left right : Cond) → cond_fit names program (conds.And left right) ≡ (cond_fit names program left && cond_fit names program right)
  fit-And left right = ap (λ c. cond_fit names program c) (sym (conds.rolls-And left right)) ∙ fold-roll-Cond Bool (judging.cond_step names program) (Cond-F.And left right)

  pub fit-Or : (left right : Cond) → cond_fit names program (conds.Or left right) ≡ (cond_fit names program left && cond_fit names program right)
  fit-Or left right = ap (λ c. cond_fit names program c) (sym (conds.rolls-Or left right)) ∙ fold-roll-Cond Bool (judging.cond_step names program) (Cond-F.Or left right)

-- ---- terms

pub terms-Relation : (left : Expr) (rel : Rel) (right : Expr) → cond_terms (conds.Relation left rel right) ≡ expr_terms left + expr_terms right
terms-Relation left rel right = ap (λ c. cond_terms c) (sym (conds.rolls-Relation left rel right)) ∙ fold-roll-Cond ℕ terms.cond_step (Cond-F.Relation left rel right)

pub terms-Class : (place : Place) (class : ClassKind) (not : Bool) → cond_terms (conds.Class place class not) ≡ 1 + place_terms place
terms-Class place class not = ap (λ c. cond_terms c) (sym (conds.rolls-Class place class not)) ∙ fold-roll-Cond ℕ terms.cond_step (Cond-F.Class place class not)

pub terms-SignIs : (expr : Expr) (sign : SignKind) (not : Bool) → cond_terms (conds.SignIs expr sign not) ≡ expr_terms expr
terms-SignIs expr sign not = ap (λ c. cond_terms c) (sym (conds.rolls-SignIs expr sign not)) ∙ fold-roll-Cond ℕ terms.cond_step (Cond-F.SignIs expr sign not)

pub terms-Named : (place : Place) → cond_terms (conds.Named place) ≡ 1 + place_terms place
terms-Named place = ap (λ c. cond_terms c) (sym (conds.rolls-Named place)) ∙ fold-roll-Cond ℕ terms.cond_step (Cond-F.Named place)

pub terms-Not : (inner : Cond) → cond_terms (conds.Not inner) ≡ 1 + cond_terms inner
terms-Not inner = ap (λ c. cond_terms c) (sym (conds.rolls-Not inner)) ∙ fold-roll-Cond ℕ terms.cond_step (Cond-F.Not inner)

pub terms-And : (left right : Cond) → cond_terms (conds.And left right) ≡ cond_terms left + cond_terms right
terms-And left right = ap (λ c. cond_terms c) (sym (conds.rolls-And left right)) ∙ fold-roll-Cond ℕ terms.cond_step (Cond-F.And left right)

pub terms-Or : (left right : Cond) → cond_terms (conds.Or left right) ≡ cond_terms left + cond_terms right
terms-Or left right = ap (λ c. cond_terms c) (sym (conds.rolls-Or left right)) ∙ fold-roll-Cond ℕ terms.cond_step (Cond-F.Or left right)
