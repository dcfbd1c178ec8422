-- What spells conditions as statements have them.
use Rattle.std.proofs.Common.{◌≡◌, ◌≤◌, Bool, true, false, not, List, [], ◌∷◌, ◌++◌, Option, refl, ap, sym, ◌∙◌}
use Rattle.std.specs.Prelude.{codes}
use Rattle.std.proofs.lemmas.Bool.{and_parts}
use Rattle.cob_tree.specs.declared.cond.ClassKind.{ClassKind}
use Rattle.cob_tree.specs.declared.cond.Cond.{Cond}
use Rattle.cob_tree.specs.declared.cond.Cond.TheVariants as conds
use Rattle.cob_tree.specs.declared.cond.Rel.{Rel}
use Rattle.cob_tree.specs.declared.cond.SignKind.{SignKind}
use Rattle.cob_tree.specs.declared.entry.Entry.{Entry}
use Rattle.cob_tree.specs.declared.place.Expr.{Expr}
use Rattle.cob_tree.specs.declared.place.Place.{Place}
use Rattle.cob_tree.specs.declared.program.Program.{Program}
use Rattle.cobol_lex.specs.declared.token.TokenKind.{TokenKind}
use Rattle.cobol_lex.specs.declared.token.TokenKind.TheVariants as kinds
use Rattle.parser_combinators.specs.Form.{begins_by}
use Rattle.unparser.specs.Token.{Tokens}
use Rattle.unparser.specs.Place.{place_tokens, expr_tokens}
use Rattle.unparser.specs.Condition.{cond_tokens, rel_tokens, not_tokens, class_word, sign_word}
use Rattle.symbol_tables.specs.data_names.Names.{Names}
use Rattle.symbol_tables.specs.declared.procedure_names.table.ProcedureTable.{ProcedureTable}
use Rattle.program_facts.specs.term_counts.Condition.{cond_terms}
use Rattle.cobol_grammar.specs.expr_forms.Fault.{is_condition}
use Rattle.cobol_grammar.specs.expr_forms.Token.{is_of, begins_turn}
use Rattle.cobol_grammar.specs.cond_forms.Token.{begins_rel, begins_rel_behind, begins_sign, begins_class, joins}
use Rattle.cobol_grammar.specs.Whole.{parts_of}
use Rattle.round_trip.specs.spelled_forms.Spelling.{first_of}
use Rattle.round_trip.proofs.spelled_forms_lemmas.Makers.{where_behind}
use Rattle.round_trip.specs.spelling.stmt_spelling.Behind.{verbs, closings, EndsStmt}
use Rattle.round_trip.specs.spelling.stmt_spelling.Part.{SpellsCond}
use Rattle.round_trip.proofs.spelling_lemmas.stmt_spelling_lemmas.Behind.{none_of, none-among, first-append}
use Rattle.round_trip.specs.spelling.expr_spelling.Printable.{is_number, judged_expr, judged_place, IsPrintableExpr, IsPrintablePlace}
use Rattle.round_trip.specs.spelling.expr_spelling.Spelled.{Ends, continues_place, continues_expr}
use Rattle.round_trip.specs.spelling.cond_spelling.Behind.{continues_part, continues_cond}
use Rattle.round_trip.specs.spelling.cond_spelling.Printable.{cond_fit, IsPrintableCond}
use Rattle.round_trip.proofs.spelling_lemmas.cond_spelling_lemmas.Layers.{cond-cases, tokens-Relation, tokens-Class, tokens-SignIs, tokens-Named, tokens-Not, fit-Class, fit-SignIs, fit-Named, fit-And, fit-Or}
use Rattle.round_trip.proofs.spelling_lemmas.cond_spelling_lemmas.Tests.{Rejects, expr-front, place-front, place-rejects}
use Rattle.round_trip.proofs.spelling_lemmas.cond_spelling_lemmas.Primaries.{relation-fit, plain-And, plain-Or, within-And, within-Or}
use Rattle.round_trip.proofs.spelling_lemmas.cond_spelling_lemmas.Conditions.{whole_cond}
use Rattle.round_trip.proofs.spelling_lemmas.cond_spelling_lemmas.BeforeNot.{whole_before}
use Rattle.round_trip.specs.spelling.Kept.{kept_of}
use Rattle.round_trip.proofs.spelling_lemmas.Exprs.{rejects-test}

-- ---- behind a condition

none-cond : none_of continues_cond (verbs ++ closings) ≡ true
unfolding continues_cond continues_part continues_expr continues_place is_of begins_turn begins_rel_behind begins_rel begins_sign begins_class joins
none-cond = refl

period-cond : continues_cond kinds.Period ≡ false
unfolding continues_cond continues_part continues_expr continues_place is_of begins_turn begins_rel_behind begins_rel begins_sign begins_class joins
period-cond = refl

stmt-cond : (o : Option TokenKind) → EndsStmt o → Ends continues_cond o
stmt-cond o b = none-among continues_cond (verbs ++ closings) none-cond period-cond o b

-- ---- with which tokens a condition doesn't begin

module _ (names : Names) (program : Program) {test : TokenKind → Bool} (R : Rejects test) (no_not : test (kinds.Word (codes "NOT")) ≡ false) where
  -- where an expression or a place stands first
  expr-first : (tokens : Tokens) (expr : Expr) (more : Tokens) → tokens ≡ expr_tokens program expr false ++ more → IsPrintableExpr names program expr → (o : Option TokenKind) → Ends test (first_of tokens o)
  expr-first tokens expr more e fit o = ap (λ list. begins_by test (first_of list o)) e ∙ expr-front names program R expr fit more o

  place-first : (tokens : Tokens) (place : Place) (more : Tokens) → tokens ≡ place_tokens program place ++ more → IsPrintablePlace names program place → (o : Option TokenKind) → Ends test (first_of tokens o)
  place-first tokens place more e fit o = ap (λ list. begins_by test (first_of list o)) e ∙ place-front names program R place fit more o

  class-fit : (place : Place) (class : ClassKind) (said : Bool) → IsPrintableCond names program (conds.Class place class said) → IsPrintablePlace names program place
  class-fit place class said fit =
      (and_parts (judged_place names program place).fit (not (is_condition (judged_place names program place).kind)) (sym (fit-Class names program place class said) ∙ fit)).0

  sign-fit : (expr : Expr) (sign : SignKind) (said : Bool) → IsPrintableCond names program (conds.SignIs expr sign said) → IsPrintableExpr names program expr
  sign-fit expr sign said fit =
      (and_parts (judged_expr names program expr).fit (is_number (judged_expr names program expr).kind) (sym (fit-SignIs names program expr sign said) ∙ fit)).0

  named-fit : (place : Place) → IsPrintableCond names program (conds.Named place) → IsPrintablePlace names program place
  named-fit place fit = (and_parts (judged_place names program place).fit (is_condition (judged_place names program place).kind) (sym (fit-Named names program place) ∙ fit)).0

  abbrev First : (within : Bool) → Cond → Type 0
  First within cond = IsPrintableCond names program cond → (o : Option TokenKind) → Ends test (first_of (cond_tokens program cond within) o)

  relation-first : (within : Bool) (left : Expr) (rel : Rel) (right : Expr) → First within (conds.Relation left rel right)
  relation-first within left rel right fit =
      expr-first (cond_tokens program (conds.Relation left rel right) within) left (rel_tokens rel ++ expr_tokens program right false) (tokens-Relation program left rel right within)
      (relation-fit names program left rel right fit).left_fit

  class-first : (within : Bool) (place : Place) (class : ClassKind) (said : Bool) → First within (conds.Class place class said)
  class-first within place class said fit =
      place-first (cond_tokens program (conds.Class place class said) within) place (not_tokens said ++ kinds.Word (class_word class) ∷ []) (tokens-Class program place class said within)
      (class-fit place class said fit)

  sign-first : (within : Bool) (expr : Expr) (sign : SignKind) (said : Bool) → First within (conds.SignIs expr sign said)
  sign-first within expr sign said fit =
      expr-first (cond_tokens program (conds.SignIs expr sign said) within) expr (not_tokens said ++ kinds.Word (sign_word sign) ∷ []) (tokens-SignIs program expr sign said within)
      (sign-fit expr sign said fit)

  named-first : (within : Bool) (place : Place) → First within (conds.Named place)
  named-first within place fit o =
      ap (λ list. begins_by test (first_of list o)) (tokens-Named program place within) ∙ place-rejects names program R place (named-fit place fit) o

  not-first : (within : Bool) (inside : Cond) → First within (conds.Not inside)
  not-first within inside fit o = ap (λ list. begins_by test (first_of list o)) (tokens-Not program inside within) ∙ no_not

  within-first : (cond : Cond) → First true cond
  within-first cond =
      cond-cases (First true) (record {
        relation = relation-first true;
        class = class-first true;
        sign = sign-first true;
        named = named-first true;
        not = not-first true;
        both = λ left right fit o. ap (λ list. begins_by test (first_of list o)) (within-And names program left right) ∙ R.opens;
        either = λ left right fit o. ap (λ list. begins_by test (first_of list o)) (within-Or names program left right) ∙ R.opens;
      }) cond

  left-first : (left : Cond) (more : Tokens) → IsPrintableCond names program left → (o : Option TokenKind) → Ends test (first_of (cond_tokens program left true ++ more) o)
  left-first left more fit o = ap (λ k. begins_by test k) (first-append (cond_tokens program left true) more o) ∙ within-first left fit (first_of more o)

  and-left-fit : (left right : Cond) → IsPrintableCond names program (conds.And left right) → IsPrintableCond names program left
  and-left-fit left right fit = (and_parts (cond_fit names program left) (cond_fit names program right) (sym (fit-And names program left right) ∙ fit)).0

  or-left-fit : (left right : Cond) → IsPrintableCond names program (conds.Or left right) → IsPrintableCond names program left
  or-left-fit left right fit = (and_parts (cond_fit names program left) (cond_fit names program right) (sym (fit-Or names program left right) ∙ fit)).0

  pub cond-first : (cond : Cond) → First false cond
  cond-first cond =
      cond-cases (First false) (record {
        relation = relation-first false;
        class = class-first false;
        sign = sign-first false;
        named = named-first false;
        not = not-first false;
        both = λ left right fit o. ap (λ list. begins_by test (first_of list o)) (plain-And names program left right)
            ∙ left-first left (kinds.Word (codes "AND") ∷ cond_tokens program right true) (and-left-fit left right fit) o;
        either = λ left right fit o. ap (λ list. begins_by test (first_of list o)) (plain-Or names program left right)
            ∙ left-first left (kinds.Word (codes "OR") ∷ cond_tokens program right true) (or-left-fit left right fit) o;
      }) cond

-- ---- conditions

pub cond_spelled : (names : Names) (entries : List Entry) (table : ProcedureTable) (program : Program) (cond : Cond) → IsPrintableCond names program cond → cond_terms cond ≤ 500 →
    SpellsCond (parts_of names entries table) (kept_of names program) program cond
cond_spelled names entries table program cond fit few = record {
  spelled = λ n. where_behind stmt-cond (whole_cond names program cond fit few);
  before_not = whole_before names program cond fit few;
  plain = cond-first names program rejects-test refl cond fit;
}
