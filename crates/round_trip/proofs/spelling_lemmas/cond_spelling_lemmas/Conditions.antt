-- What spells conditions, and those in parentheses.
use Rattle.std.proofs.Common.{◌≡◌, ℕ, zero, suc, ◌+◌, ◌<◌, ◌≤◌, Bool, true, false, not, ◌⊎◌, inl, inr, [], ◌∷◌, ◌++◌, Option, Some, None, refl, ap, sym, ◌∙◌, subst, arith, append_assoc, append-nil}
use Rattle.std.specs.Prelude.{codes}
use Rattle.std.proofs.lemmas.Bool.{and_parts}
use Rattle.cob_base.specs.Bytes.{left_parenthesis, right_parenthesis}
use Rattle.cob_tree.specs.declared.cond.ClassKind.{ClassKind}
use Rattle.cob_tree.specs.declared.cond.Cond.{Cond}
use Rattle.cob_tree.specs.declared.cond.Cond.TheVariants as conds
use Rattle.cob_tree.specs.declared.cond.Rel.{Rel}
use Rattle.cob_tree.specs.declared.cond.SignKind.{SignKind}
use Rattle.cob_tree.specs.declared.place.Expr.{Expr}
use Rattle.cob_tree.specs.declared.place.Place.{Place}
use Rattle.cob_tree.specs.declared.program.Program.{Program}
use Rattle.cobol_lex.specs.declared.token.TokenKind.{TokenKind}
use Rattle.cobol_lex.specs.declared.token.TokenKind.TheVariants as kinds
use Rattle.parser_combinators.specs.declared.note.Position.{Position}
use Rattle.parser_combinators.specs.declared.why.Why.TheVariants.{Syntax}
use Rattle.parser_combinators.specs.Form as form
use Rattle.parser_combinators.specs.Form.{begins_by}
use Rattle.parser_combinators.specs.Part as part
use Rattle.unparser.specs.Token.{Tokens, in_parentheses}
use Rattle.unparser.specs.Place.{place_tokens, expr_tokens}
use Rattle.unparser.specs.Condition.{cond_tokens, rel_tokens, not_tokens, class_word, sign_word}
use Rattle.symbol_tables.specs.data_names.Names.{Names}
use Rattle.program_facts.specs.term_counts.Condition.{cond_terms}
use Rattle.program_facts.specs.term_counts.Expression.{expr_terms}
use Rattle.cobol_grammar.specs.declared.expr_forms.side.Side.{Side}
use Rattle.cobol_grammar.specs.declared.expr_forms.side.ParsedExpr.{ParsedExpr}
use Rattle.cobol_grammar.specs.declared.expr_forms.side.ParsedExpr.TheVariants as whats
use Rattle.cobol_grammar.specs.expr_forms.Fault.{is_condition}
use Rattle.cobol_grammar.specs.expr_forms.Limit.{Inner}
use Rattle.cobol_grammar.specs.expr_forms.Side.{expr_of, enclosed_what}
use Rattle.cobol_grammar.specs.expr_forms.Side as sides
use Rattle.cobol_grammar.specs.declared.cond_forms.part.SimpleCond.{SimpleCond}
use Rattle.cobol_grammar.specs.declared.cond_forms.test.Primary.{Primary}
use Rattle.cobol_grammar.specs.declared.cond_forms.test.Primary.TheVariants as prims
use Rattle.cobol_grammar.specs.declared.cond_forms.test.Read.{Read}
use Rattle.cobol_grammar.specs.declared.cond_forms.test.Setting.{Setting}
use Rattle.cobol_grammar.specs.cond_forms.Alone as alones
use Rattle.cobol_grammar.specs.cond_forms.Condition as conditions
use Rattle.cobol_grammar.specs.cond_forms.Neg as negs
use Rattle.cobol_grammar.specs.cond_forms.Primary as primaries
use Rattle.cobol_grammar.specs.cond_forms.Token.{begins_rel, begins_plain_rel, joins}
use Rattle.round_trip.specs.spelled_forms.Spelling.{first_of, Any, Spelled}
use Rattle.round_trip.proofs.spelled_forms_lemmas.Makers.{pure, hence, where_behind, bind, then, ending, behind_none, behind_first, chosen_other, there_next, other_next, no_turn, last_turn}
use Rattle.round_trip.proofs.spelled_forms_lemmas.Tokens.{sign, key}
use Rattle.round_trip.specs.spelling.expr_spelling.Printable.{is_number, judged_expr, judged_place, IsPrintableExpr, IsPrintablePlace}
use Rattle.round_trip.specs.spelling.expr_spelling.Spelled.{Ends, IsExprSide}
use Rattle.round_trip.proofs.spelling_lemmas.expr_spelling_lemmas.Places.{by_tokens, at_same, tally, InnerSpells}
use Rattle.round_trip.proofs.spelling_lemmas.expr_spelling_lemmas.Levels.{inner_spells}
use Rattle.round_trip.specs.spelling.cond_spelling.Printable.{cond_fit, IsPrintableCond}
use Rattle.round_trip.specs.spelling.cond_spelling.Behind.{continues_part, continues_cond}
use Rattle.round_trip.proofs.spelling_lemmas.cond_spelling_lemmas.Layers.{cond-cases, tokens-Relation, tokens-Class, tokens-SignIs, tokens-Named, tokens-Not, fit-Class, fit-SignIs, fit-Named, fit-Not, fit-And, fit-Or, terms-Not, terms-And, terms-Or}
use Rattle.round_trip.proofs.spelling_lemmas.cond_spelling_lemmas.Tests.{Rejects, rejects-not, rejects-rel, place-front, expr-front, part-ends, cond-ends, and-ends, or-ends, close-cond, and-joins, or-joins}
use Rattle.round_trip.proofs.spelling_lemmas.cond_spelling_lemmas.Relations.{no_test}
use Rattle.round_trip.proofs.spelling_lemmas.cond_spelling_lemmas.Primaries.{front-of, PrimIs, IsRead, IsPart, alone_named, settled, IsExprRead, ContentSpells, plain-And, plain-Or, within-And, within-Or, some-cond, relation-fit, Room, expr_with, relation_prim, class_prim, sign_prim, named_prim, paren_prim}

module _ (names : Names) (program : Program) where
  module _ {inner : Inner} {content : ℕ → form.Form Read} {levels : ℕ} (I : InnerSpells names program inner false levels) (C : ContentSpells names program content levels) where
    -- ---- one part, with NOT or not

    prim_neg : {n : ℕ} (setting : Option Setting) (count : ℕ) (cond : Cond) → ((o : Option TokenKind) → Ends (part.is_key (codes "NOT")) (first_of (cond_tokens program cond true) o)) →
        ((o : Option TokenKind) → Ends begins_rel (first_of (cond_tokens program cond true) o)) →
        Spelled (primaries.prim names inner content count) n (cond_tokens program cond true) (Ends continues_part) (IsRead (count + cond_terms cond) cond) →
        Spelled (negs.neg names inner content setting count) n (cond_tokens program cond true) (Ends continues_part) (IsPart (count + cond_terms cond) cond)
    unfolding negs.neg negs.prim_part
    prim_neg setting count cond no_not no_rel P =
        other_next (part.is_key (codes "NOT")) _ (λ o b. no_not o) (other_next begins_rel _ (λ o b. no_rel o)
        (ending P (λ read h. where_behind (λ o b. tt) (settled false setting (count + cond_terms cond) cond read h))))

    not_neg : {n : ℕ} (setting : Option Setting) (count : ℕ) (inside : Cond) → Room names program levels count (conds.Not inside) →
        Spelled (negs.neg names inner content setting count) n (cond_tokens program (conds.Not inside) true) (Ends continues_part) (IsPart (count + cond_terms (conds.Not inside)) (conds.Not inside))
    unfolding negs.neg negs.not_neg negs.behind_not negs.prim_part begins_plain_rel
    not_neg setting count inside (fit, few, room) =
        let e = terms-Not inside in
        by_tokens (tokens-Not program inside true)
        (there_next (part.is_key (codes "NOT")) _ (λ o b. refl)
        (then (key (codes "NOT")) (λ _ _. other_next begins_plain_rel _ (λ o b. refl)
        (behind_none (tally count 1 (omega (arith, e, room)))
        (λ more same. at_same (λ m. negs.prim_part names inner content true setting m) same
        (ending (paren_prim names program I C (count + 1) inside (sym (fit-Not names program inside) ∙ fit) (omega (arith, e, few)) (omega (arith, e, room)))
        (λ read h. hence (λ found k. record { cond_is = k.cond_is; counted = k.counted ∙ not-counted count (cond_terms inside) (cond_terms (conds.Not inside)) e; pending_not = k.pending_not })
        (where_behind (λ o b. tt) (settled true setting (count + 1 + cond_terms inside) inside read h)))))))))
      where
        not-counted : (count a c : ℕ) → c ≡ 1 + a → count + 1 + a ≡ count + c
        not-counted count a c e = omega (arith, e)

    abbrev HasNeg : Cond → Type 0
    HasNeg cond = (n : ℕ) (setting : Option Setting) (count : ℕ) → Room names program levels count cond →
        Spelled (negs.neg names inner content setting count) n (cond_tokens program cond true) (Ends continues_part) (IsPart (count + cond_terms cond) cond)

    pub expr-start : {test : TokenKind → Bool} → Rejects test → (cond : Cond) (expr : Expr) (more : Tokens) → cond_tokens program cond true ≡ expr_tokens program expr false ++ more →
        IsPrintableExpr names program expr → (o : Option TokenKind) → Ends test (first_of (cond_tokens program cond true) o)
    expr-start {test = test} R cond expr more e fit o = ap (λ list. begins_by test (first_of list o)) e ∙ expr-front names program R expr fit more o

    pub place-start : {test : TokenKind → Bool} → Rejects test → (cond : Cond) (place : Place) (more : Tokens) → cond_tokens program cond true ≡ place_tokens program place ++ more →
        IsPrintablePlace names program place → (o : Option TokenKind) → Ends test (first_of (cond_tokens program cond true) o)
    place-start {test = test} R cond place more e fit o = ap (λ list. begins_by test (first_of list o)) e ∙ place-front names program R place fit more o

    pub both-fits : (left right : Cond) → IsPrintableCond names program (conds.And left right) → IsPrintableCond names program left × IsPrintableCond names program right
    both-fits left right fit = and_parts (cond_fit names program left) (cond_fit names program right) (sym (fit-And names program left right) ∙ fit)

    pub either-fits : (left right : Cond) → IsPrintableCond names program (conds.Or left right) → IsPrintableCond names program left × IsPrintableCond names program right
    either-fits left right fit = and_parts (cond_fit names program left) (cond_fit names program right) (sym (fit-Or names program left right) ∙ fit)

    abbrev InParens : Cond → Type 0
    InParens cond = cond_tokens program cond true ≡ in_parentheses (cond_tokens program cond false)

    relation_neg : (left : Expr) (rel : Rel) (right : Expr) → HasNeg (conds.Relation left rel right)
    relation_neg left rel right n setting count room =
        let is = relation-fit names program left rel right room.0 in
        let more = rel_tokens rel ++ expr_tokens program right false in
        let e = tokens-Relation program left rel right true in
        prim_neg setting count (conds.Relation left rel right) (expr-start rejects-not (conds.Relation left rel right) left more e is.left_fit)
        (expr-start rejects-rel (conds.Relation left rel right) left more e is.left_fit) (relation_prim names program I C count left rel right room)

    class_neg : (place : Place) (class : ClassKind) (said : Bool) → HasNeg (conds.Class place class said)
    class_neg place class said n setting count room =
        let j = judged_place names program place in
        let is = and_parts j.fit (not (is_condition j.kind)) (sym (fit-Class names program place class said) ∙ room.0) in
        let more = not_tokens said ++ kinds.Word (class_word class) ∷ [] in
        let e = tokens-Class program place class said true in
        prim_neg setting count (conds.Class place class said) (place-start rejects-not (conds.Class place class said) place more e is.0)
        (place-start rejects-rel (conds.Class place class said) place more e is.0) (class_prim names program I C count place class said room)

    sign_neg : (expr : Expr) (sign : SignKind) (said : Bool) → HasNeg (conds.SignIs expr sign said)
    sign_neg expr sign said n setting count room =
        let j = judged_expr names program expr in
        let is = and_parts j.fit (is_number j.kind) (sym (fit-SignIs names program expr sign said) ∙ room.0) in
        let more = not_tokens said ++ kinds.Word (sign_word sign) ∷ [] in
        let e = tokens-SignIs program expr sign said true in
        prim_neg setting count (conds.SignIs expr sign said) (expr-start rejects-not (conds.SignIs expr sign said) expr more e is.0)
        (expr-start rejects-rel (conds.SignIs expr sign said) expr more e is.0) (sign_prim names program I C count expr sign said room)

    named-tokens : (place : Place) → cond_tokens program (conds.Named place) true ≡ place_tokens program place ++ []
    named-tokens place = tokens-Named program place true ∙ sym (append-nil (place_tokens program place))

    named_neg : (place : Place) → HasNeg (conds.Named place)
    named_neg place n setting count room =
        let j = judged_place names program place in
        let is = and_parts j.fit (is_condition j.kind) (sym (fit-Named names program place) ∙ room.0) in
        prim_neg setting count (conds.Named place) (place-start rejects-not (conds.Named place) place [] (named-tokens place) is.0)
        (place-start rejects-rel (conds.Named place) place [] (named-tokens place) is.0) (named_prim names program I C count place room)

    -- within another condition
    abbrev pub HasWithin : Cond → Type 0
    HasWithin cond = (n : ℕ) (setting : Option Setting) (count : ℕ) → IsPrintableCond names program cond → cond_terms cond < levels → count + cond_terms cond ≤ 500 →
        Spelled (negs.neg names inner content setting count) n (cond_tokens program cond true) (Ends continues_part) (IsPart (count + cond_terms cond) cond)

    joined_within : (cond : Cond) → InParens cond → HasWithin cond
    unfolding begins_rel
    joined_within cond e n setting count fit few room =
        prim_neg setting count cond (λ o. ap (λ list. begins_by (part.is_key (codes "NOT")) (first_of list o)) e) (λ o. ap (λ list. begins_by begins_rel (first_of list o)) e ∙ opens-no-rel)
        (by_tokens e (paren_prim names program I C count cond fit few room))
      where
        opens-no-rel : begins_rel (kinds.Mark left_parenthesis) ≡ false
        opens-no-rel = refl

    single_within : (cond : Cond) → HasNeg cond → HasWithin cond
    single_within cond N n setting count fit few room = N n setting count (fit, omega (arith, few), room)

    pub neg_within : (cond : Cond) → HasWithin cond
    neg_within cond =
        cond-cases HasWithin (record {
          relation = λ left rel right. single_within (conds.Relation left rel right) (relation_neg left rel right);
          class = λ place class said. single_within (conds.Class place class said) (class_neg place class said);
          sign = λ expr sign said. single_within (conds.SignIs expr sign said) (sign_neg expr sign said);
          named = λ place. single_within (conds.Named place) (named_neg place);
          not = λ inside. single_within (conds.Not inside) (λ n setting count room. not_neg setting count inside room);
          both = λ left right. joined_within (conds.And left right) (within-And names program left right);
          either = λ left right. joined_within (conds.Or left right) (within-Or names program left right);
        }) cond

    -- ---- parts, joined or not

    pub alone_from : {n : ℕ} (count : ℕ) (cond : Cond) (first : SimpleCond) → IsPart count cond first → Spelled (conditions.conds_from names inner content first) n [] (Ends joins) (IsPart count cond)
    unfolding conditions.conds_from
    alone_from count cond first h =
        ending (no_turn joins (conditions.join names inner content) {Has = λ state. state ≡ record { before = None; part = first }} (λ o b. b) refl)
        (λ state e. pure (subst (λ state. IsPart count cond (conditions.joined_whole state)) (sym e) (record { cond_is = h.cond_is; counted = h.counted; pending_not = h.pending_not })))

    and_from : {n : ℕ} (count : ℕ) (left right : Cond) (first : SimpleCond) → IsPart (count + cond_terms left) left first → IsPrintableCond names program right → cond_terms right < levels →
        count + (cond_terms left + cond_terms right) ≤ 500 →
        Spelled (conditions.conds_from names inner content first) n (kinds.Word (codes "AND") ∷ cond_tokens program right true) (Ends continues_cond)
        (IsPart (count + cond_terms (conds.And left right)) (conds.And left right))
    unfolding conditions.conds_from conditions.join conditions.and_part
    and_from count left right first h fit few room =
        let k = h.counted in
        let e = terms-And left right in
        ending (last_turn joins (conditions.join names inner content)
        {Has = λ state. IsPart (count + cond_terms (conds.And left right)) (conds.And left right) (conditions.joined_whole state)} (λ o. and-joins)
        (chosen_other (form.refuse Syntax) h.pending_not (there_next (part.is_key (codes "AND")) _ (λ o b. refl)
        (then (key (codes "AND")) (λ _ _. ending (neg_within right _ first.setting first.count fit few (omega (arith, k, room)))
        (λ next m. let c = m.counted in pure (record {
          cond_is = ap (λ x. conds.And x next.cond) h.cond_is ∙ ap (λ x. conds.And left x) m.cond_is;
          counted = omega (arith, c, k, e);
          pending_not = m.pending_not;
        }))))))
        (λ o b. (cond-ends o b).0) (λ o b. (cond-ends o b).1)) (λ state s. pure s)

    or_from : {n : ℕ} (count : ℕ) (left right : Cond) (first : SimpleCond) → IsPart (count + cond_terms left) left first → IsPrintableCond names program right → cond_terms right < levels →
        count + (cond_terms left + cond_terms right) ≤ 500 →
        Spelled (conditions.conds_from names inner content first) n (kinds.Word (codes "OR") ∷ cond_tokens program right true) (Ends continues_cond)
        (IsPart (count + cond_terms (conds.Or left right)) (conds.Or left right))
    unfolding conditions.conds_from conditions.join conditions.or_part
    or_from count left right first h fit few room =
        let k = h.counted in
        let e = terms-Or left right in
        ending (last_turn joins (conditions.join names inner content)
        {Has = λ state. IsPart (count + cond_terms (conds.Or left right)) (conds.Or left right) (conditions.joined_whole state)} (λ o. or-joins)
        (chosen_other (form.refuse Syntax) h.pending_not (other_next (part.is_key (codes "AND")) _ (λ o b. refl)
        (then (key (codes "OR")) (λ _ _. ending (neg_within right _ first.setting first.count fit few (omega (arith, k, room)))
        (λ next m. let c = m.counted in pure (record {
          cond_is = ap (λ x. conds.Or x next.cond) h.cond_is ∙ ap (λ x. conds.Or left x) m.cond_is;
          counted = omega (arith, c, k, e);
          pending_not = m.pending_not;
        }))))))
        (λ o b. (cond-ends o b).0) (λ o b. (cond-ends o b).1)) (λ state s. pure s)

    -- ---- whole conditions

    abbrev HasWhole : Cond → Type 0
    HasWhole cond = (n count : ℕ) → Room names program levels count cond →
        Spelled (conditions.cond_with names inner content count) n (cond_tokens program cond false) (Ends continues_cond) (IsPart (count + cond_terms cond) cond)

    single_whole : (cond : Cond) → cond_tokens program cond false ≡ cond_tokens program cond true → HasNeg cond → HasWhole cond
    unfolding conditions.cond_with
    single_whole cond e N n count room =
        by_tokens e (ending (where_behind (λ o b. (cond-ends o b).0) (N n None count room))
        (λ first h. where_behind (λ o b. (cond-ends o b).1) (alone_from (count + cond_terms cond) cond first h)))

    and_whole : (left right : Cond) → HasWhole (conds.And left right)
    unfolding conditions.cond_with
    and_whole left right n count room =
        let e = terms-And left right in
        let fits = both-fits left right room.0 in
        let few = room.1 in
        let all = room.2 in
        let some = some-cond names program left in
        let others = some-cond names program right in
        by_tokens (plain-And names program left right)
        (bind (neg_within left n None count fits.0 (omega (arith, e, few, others)) (omega (arith, e, all))) (λ o b. and-ends)
        (λ first h. and_from count left right first h fits.1 (omega (arith, e, few, some)) (omega (arith, e, all))))

    or_whole : (left right : Cond) → HasWhole (conds.Or left right)
    unfolding conditions.cond_with
    or_whole left right n count room =
        let e = terms-Or left right in
        let fits = either-fits left right room.0 in
        let few = room.1 in
        let all = room.2 in
        let some = some-cond names program left in
        let others = some-cond names program right in
        by_tokens (plain-Or names program left right)
        (bind (neg_within left n None count fits.0 (omega (arith, e, few, others)) (omega (arith, e, all))) (λ o b. or-ends)
        (λ first h. or_from count left right first h fits.1 (omega (arith, e, few, some)) (omega (arith, e, all))))

    pub cond_spelled : (cond : Cond) → HasWhole cond
    cond_spelled cond =
        cond-cases HasWhole (record {
          relation = λ left rel right. single_whole (conds.Relation left rel right) (tokens-Relation program left rel right false ∙ sym (tokens-Relation program left rel right true)) (relation_neg left rel right);
          class = λ place class said. single_whole (conds.Class place class said) (tokens-Class program place class said false ∙ sym (tokens-Class program place class said true)) (class_neg place class said);
          sign = λ expr sign said. single_whole (conds.SignIs expr sign said) (tokens-SignIs program expr sign said false ∙ sym (tokens-SignIs program expr sign said true)) (sign_neg expr sign said);
          named = λ place. single_whole (conds.Named place) (tokens-Named program place false ∙ sym (tokens-Named program place true)) (named_neg place);
          not = λ inside. single_whole (conds.Not inside) (tokens-Not program inside false ∙ sym (tokens-Not program inside true)) (λ n setting count room. not_neg setting count inside room);
          both = and_whole;
          either = or_whole;
        }) cond

    -- ---- in parentheses

    close : {n : ℕ} (count : ℕ) (cond : Cond) (found : SimpleCond) → IsPart count cond found → Spelled (conditions.close_cond found) n (kinds.Mark right_parenthesis ∷ []) Any (IsRead count cond)
    unfolding conditions.close_cond
    close count cond found h =
        chosen_other (form.refuse Syntax) h.pending_not
        (ending (sign (part.is_mark right_parenthesis) refl) (λ _ _. pure (record { prim = h.cond_is; counted = h.counted; pending_not = refl })))

    single_content : {n : ℕ} (count : ℕ) (cond : Cond) (first : SimpleCond) → IsPart count cond first →
        Spelled (conditions.content_from names inner content first) n (kinds.Mark right_parenthesis ∷ []) Any (IsRead count cond)
    unfolding conditions.content_from joins
    single_content count cond first h =
        behind_first (alone_from count cond first h) (λ o b. close-no-join) (λ found k. close count cond found k)
      where
        close-no-join : joins (kinds.Mark right_parenthesis) ≡ false
        close-no-join = refl

    -- what stands first in parentheses, and more
    abbrev opening : ℕ → Position → form.Form Read
    opening count position =
        form.where_next (part.is_key (codes "NOT")) (conditions.neg_content names inner content count) (conditions.prim_content names inner content position count)

    not_opening : {n : ℕ} (count : ℕ) (position : Position) (inside : Cond) {tail : Tokens} {Has : Read → Type 0} → Room names program levels count (conds.Not inside) → ((o : Option TokenKind) → Ends continues_part (first_of tail o)) →
        ((first : SimpleCond) (m : ℕ) → IsPart (count + cond_terms (conds.Not inside)) (conds.Not inside) first → Spelled (conditions.content_from names inner content first) m tail Any Has) →
        Spelled (opening count position) n (cond_tokens program (conds.Not inside) true ++ tail) Any Has
    unfolding conditions.neg_content
    not_opening count position inside {tail = tail} room ends G =
        there_next (part.is_key (codes "NOT")) _ (λ o b. ap (λ list. begins_by (part.is_key (codes "NOT")) (first_of (list ++ tail) o)) (tokens-Not program inside true))
        (bind (not_neg None count inside room) (λ o b. ends o) (λ first h. G first _ h))

    content_by : {n : ℕ} (count : ℕ) (position : Position) (cond : Cond) (prim : Primary) (k : ℕ) {tail : Tokens} {Has : Read → Type 0} → PrimIs cond prim → k ≡ count →
        ((o : Option TokenKind) → Ends (part.is_mark right_parenthesis) (first_of tail o)) →
        ((first : SimpleCond) (m : ℕ) → IsPart count cond first → Spelled (conditions.content_from names inner content first) m tail Any Has) →
        Spelled (conditions.content_by names inner content position prim k false) n tail Any Has
    unfolding conditions.content_by conditions.alone_content
    content_by count position cond (prims.Test found after) k is e other G =
        G (alones.part_of found after k false) _ (record { cond_is = is; counted = e; pending_not = refl })
    content_by count position cond (prims.Alone side) k is e other G =
        other_next (part.is_mark right_parenthesis) _ (λ o b. other o)
        (behind_none (alone_named false None is.0 side k false is.2 is.3) (λ first h. G first _ (record { cond_is = h.0 ∙ sym is.1; counted = h.1 ∙ e; pending_not = h.2 })))

    prim_opening : {n : ℕ} (count : ℕ) (position : Position) (cond : Cond) {tail : Tokens} {Has : Read → Type 0} →
        ((o : Option TokenKind) → Ends (part.is_key (codes "NOT")) (first_of (cond_tokens program cond true) o)) →
        ((m : ℕ) → Spelled (primaries.prim names inner content count) m (cond_tokens program cond true) (Ends continues_part) (IsRead (count + cond_terms cond) cond)) →
        ((o : Option TokenKind) → Ends continues_part (first_of tail o)) → ((o : Option TokenKind) → Ends (part.is_mark right_parenthesis) (first_of tail o)) →
        ((first : SimpleCond) (m : ℕ) → IsPart (count + cond_terms cond) cond first → Spelled (conditions.content_from names inner content first) m tail Any Has) →
        Spelled (opening count position) n (cond_tokens program cond true ++ tail) Any Has
    unfolding conditions.prim_content
    prim_opening count position cond {tail = tail} no_not P ends other G =
        other_next (part.is_key (codes "NOT")) _ (λ o b. ap (λ k. begins_by (part.is_key (codes "NOT")) k) (front-of (cond_tokens program cond true) tail o) ∙ no_not (first_of tail o))
        (bind (P _) (λ o b. ends o)
        (λ read h. at_same (λ said. conditions.content_by names inner content position read.prim read.count said) h.pending_not
        (content_by (count + cond_terms cond) position cond read.prim read.count h.prim h.counted other G)))

    -- a name alone in parentheses stays one
    single_by : {n : ℕ} (count : ℕ) (position : Position) (cond : Cond) (prim : Primary) (k : ℕ) → PrimIs cond prim → k ≡ count →
        Spelled (conditions.content_by names inner content position prim k false) n (kinds.Mark right_parenthesis ∷ []) Any (IsRead count cond)
    unfolding conditions.content_by conditions.close_side sides.enclosed
    single_by count position cond (prims.Test found after) k is e =
        single_content count cond (alones.part_of found after k false) (record { cond_is = is; counted = e; pending_not = refl })
    single_by count position cond (prims.Alone side) k is e =
        there_next (part.is_mark right_parenthesis) _ (λ o b. refl)
        (ending (sign (part.is_mark right_parenthesis) refl)
        (λ _ _. pure (record { prim = (is.0, is.1, inr (stays side.what is.2), is.3); counted = e; pending_not = refl })))
      where
        stays : {place : Place} (what : ParsedExpr) → (what ≡ whats.Ref place) ⊎ (what ≡ whats.Enclosed place) → enclosed_what what ≡ whats.Enclosed place
        stays what (inl e) = ap (λ w. enclosed_what w) e
        stays what (inr e) = ap (λ w. enclosed_what w) e

    close-part : continues_part (kinds.Mark right_parenthesis) ≡ false
    close-part = (cond-ends (Some (kinds.Mark right_parenthesis)) close-cond).0

    single_opening : {n : ℕ} (count : ℕ) (position : Position) (cond : Cond) →
        ((o : Option TokenKind) → Ends (part.is_key (codes "NOT")) (first_of (cond_tokens program cond true) o)) →
        ((m : ℕ) → Spelled (primaries.prim names inner content count) m (cond_tokens program cond true) (Ends continues_part) (IsRead (count + cond_terms cond) cond)) →
        Spelled (opening count position) n (cond_tokens program cond true ++ kinds.Mark right_parenthesis ∷ []) Any (IsRead (count + cond_terms cond) cond)
    unfolding conditions.prim_content
    single_opening count position cond no_not P =
        other_next (part.is_key (codes "NOT")) _
        (λ o b. ap (λ k. begins_by (part.is_key (codes "NOT")) k) (front-of (cond_tokens program cond true) (kinds.Mark right_parenthesis ∷ []) o) ∙ no_not (Some (kinds.Mark right_parenthesis)))
        (bind (P _) (λ o b. close-part)
        (λ read h. at_same (λ said. conditions.content_by names inner content position read.prim read.count said) h.pending_not
        (single_by (count + cond_terms cond) position cond read.prim read.count h.prim h.counted)))

    -- ---- the first part in parentheses, before AND or OR

    -- which parts have no NOT first, and are spelled as primaries
    record HasPrim (cond : Cond) : Type 0 where
      pub no_not : IsPrintableCond names program cond → (o : Option TokenKind) → Ends (part.is_key (codes "NOT")) (first_of (cond_tokens program cond true) o)
      pub prim : (m count : ℕ) → IsPrintableCond names program cond → cond_terms cond < levels → count + cond_terms cond ≤ 500 →
          Spelled (primaries.prim names inner content count) m (cond_tokens program cond true) (Ends continues_part) (IsRead (count + cond_terms cond) cond)

    abbrev IsNot : Cond → Type 0
    IsNot cond = (inside : Cond) × (cond ≡ conds.Not inside)

    joined-has : (cond : Cond) → InParens cond → HasPrim cond
    joined-has cond e = record {
      no_not = λ fit o. ap (λ list. begins_by (part.is_key (codes "NOT")) (first_of list o)) e;
      prim = λ m count fit few room. by_tokens e (paren_prim names program I C count cond fit few room);
    }

    prim-or-not : (cond : Cond) → IsNot cond ⊎ HasPrim cond
    prim-or-not cond =
        cond-cases (λ cond. IsNot cond ⊎ HasPrim cond) (record {
          relation = λ left rel right. inr (record {
            no_not = λ fit. expr-start rejects-not (conds.Relation left rel right) left (rel_tokens rel ++ expr_tokens program right false) (tokens-Relation program left rel right true)
                (relation-fit names program left rel right fit).left_fit;
            prim = λ m count fit few room. relation_prim names program I C count left rel right (fit, omega (arith, few), room);
          });
          class = λ place class said. inr (record {
            no_not = λ fit. place-start rejects-not (conds.Class place class said) place (not_tokens said ++ kinds.Word (class_word class) ∷ []) (tokens-Class program place class said true)
                (and_parts (judged_place names program place).fit (not (is_condition (judged_place names program place).kind)) (sym (fit-Class names program place class said) ∙ fit)).0;
            prim = λ m count fit few room. class_prim names program I C count place class said (fit, omega (arith, few), room);
          });
          sign = λ expr sign said. inr (record {
            no_not = λ fit. expr-start rejects-not (conds.SignIs expr sign said) expr (not_tokens said ++ kinds.Word (sign_word sign) ∷ []) (tokens-SignIs program expr sign said true)
                (and_parts (judged_expr names program expr).fit (is_number (judged_expr names program expr).kind) (sym (fit-SignIs names program expr sign said) ∙ fit)).0;
            prim = λ m count fit few room. sign_prim names program I C count expr sign said (fit, omega (arith, few), room);
          });
          named = λ place. inr (record {
            no_not = λ fit. place-start rejects-not (conds.Named place) place [] (named-tokens place)
                (and_parts (judged_place names program place).fit (is_condition (judged_place names program place).kind) (sym (fit-Named names program place) ∙ fit)).0;
            prim = λ m count fit few room. named_prim names program I C count place (fit, omega (arith, few), room);
          });
          not = λ inside. inl (inside, refl);
          both = λ left right. inr (joined-has (conds.And left right) (within-And names program left right));
          either = λ left right. inr (joined-has (conds.Or left right) (within-Or names program left right));
        }) cond

    opening_by : {n : ℕ} (count : ℕ) (position : Position) (cond : Cond) {tail : Tokens} {Has : Read → Type 0} → IsNot cond ⊎ HasPrim cond →
        IsPrintableCond names program cond → cond_terms cond < levels → count + cond_terms cond ≤ 500 →
        ((o : Option TokenKind) → Ends continues_part (first_of tail o)) → ((o : Option TokenKind) → Ends (part.is_mark right_parenthesis) (first_of tail o)) →
        ((first : SimpleCond) (m : ℕ) → IsPart (count + cond_terms cond) cond first → Spelled (conditions.content_from names inner content first) m tail Any Has) →
        Spelled (opening count position) n (cond_tokens program cond true ++ tail) Any Has
    opening_by {n = n} count position cond {tail = tail} {Has = Has} (inl (inside, is)) fit few room ends other G =
        (subst (λ cond. IsPrintableCond names program cond → cond_terms cond < levels → count + cond_terms cond ≤ 500 →
        ((first : SimpleCond) (m : ℕ) → IsPart (count + cond_terms cond) cond first → Spelled (conditions.content_from names inner content first) m tail Any Has) →
        Spelled (opening count position) n (cond_tokens program cond true ++ tail) Any Has) (sym is)
        (λ fit few room G. not_opening count position inside (fit, omega (arith, few), room) ends G)) fit few room G
    opening_by count position cond (inr H) fit few room ends other G =
        prim_opening count position cond (H.no_not fit) (λ m. H.prim m count fit few room) ends other G

    -- ---- whole parentheses

    abbrev HasInside : Cond → Type 0
    HasInside cond = (n count : ℕ) → Room names program levels count cond →
        Spelled (conditions.in_content names inner content count) n (in_parentheses (cond_tokens program cond false)) Any (IsRead (count + cond_terms cond) cond)

    single_inside : (cond : Cond) → cond_tokens program cond false ≡ cond_tokens program cond true →
        ((count : ℕ) → Room names program levels count cond → (o : Option TokenKind) → Ends (part.is_key (codes "NOT")) (first_of (cond_tokens program cond true) o)) →
        ((m count : ℕ) → Room names program levels count cond → Spelled (primaries.prim names inner content count) m (cond_tokens program cond true) (Ends continues_part) (IsRead (count + cond_terms cond) cond)) → HasInside cond
    unfolding conditions.in_content
    single_inside cond e no_not P n count room =
        by_tokens (ap (λ list. in_parentheses list) e)
        (then (sign (part.is_mark left_parenthesis) refl) (λ position _. single_opening count position cond (no_not count room) (λ m. P m count room)))

    not_inside : (inside : Cond) → HasInside (conds.Not inside)
    unfolding conditions.in_content
    not_inside inside n count room =
        by_tokens (ap (λ list. in_parentheses list) (tokens-Not program inside false ∙ sym (tokens-Not program inside true)))
        (then (sign (part.is_mark left_parenthesis) refl)
        (λ position _. not_opening count position inside room (λ o. close-part) (λ first m h. single_content (count + cond_terms (conds.Not inside)) (conds.Not inside) first h)))

    and_inside : (left right : Cond) → HasInside (conds.And left right)
    unfolding conditions.in_content conditions.content_from
    and_inside left right n count room =
        let e = terms-And left right in
        let fits = both-fits left right room.0 in
        let few = room.1 in
        let all = room.2 in
        let some = some-cond names program left in
        let others = some-cond names program right in
        by_tokens (ap (λ list. in_parentheses list) (plain-And names program left right)
        ∙ ap (λ list. kinds.Mark left_parenthesis ∷ list) (append_assoc (cond_tokens program left true) (kinds.Word (codes "AND") ∷ cond_tokens program right true) (kinds.Mark right_parenthesis ∷ [])))
        (then (sign (part.is_mark left_parenthesis) refl)
        (λ position _. opening_by count position left (prim-or-not left) fits.0 (omega (arith, e, few, others)) (omega (arith, e, all)) (λ o. and-ends) (λ o. refl)
        (λ first m h. bind (and_from count left right first h fits.1 (omega (arith, e, few, some)) (omega (arith, e, all))) (λ o b. close-cond)
        (λ found k. close (count + cond_terms (conds.And left right)) (conds.And left right) found k))))

    or_inside : (left right : Cond) → HasInside (conds.Or left right)
    unfolding conditions.in_content conditions.content_from
    or_inside left right n count room =
        let e = terms-Or left right in
        let fits = either-fits left right room.0 in
        let few = room.1 in
        let all = room.2 in
        let some = some-cond names program left in
        let others = some-cond names program right in
        by_tokens (ap (λ list. in_parentheses list) (plain-Or names program left right)
        ∙ ap (λ list. kinds.Mark left_parenthesis ∷ list) (append_assoc (cond_tokens program left true) (kinds.Word (codes "OR") ∷ cond_tokens program right true) (kinds.Mark right_parenthesis ∷ [])))
        (then (sign (part.is_mark left_parenthesis) refl)
        (λ position _. opening_by count position left (prim-or-not left) fits.0 (omega (arith, e, few, others)) (omega (arith, e, all)) (λ o. or-ends) (λ o. refl)
        (λ first m h. bind (or_from count left right first h fits.1 (omega (arith, e, few, some)) (omega (arith, e, all))) (λ o b. close-cond)
        (λ found k. close (count + cond_terms (conds.Or left right)) (conds.Or left right) found k))))

    pub cond_inside : (cond : Cond) → HasInside cond
    cond_inside cond =
        cond-cases HasInside (record {
          relation = λ left rel right. single_inside (conds.Relation left rel right) (tokens-Relation program left rel right false ∙ sym (tokens-Relation program left rel right true))
              (λ count room. expr-start rejects-not (conds.Relation left rel right) left (rel_tokens rel ++ expr_tokens program right false) (tokens-Relation program left rel right true)
              (relation-fit names program left rel right room.0).left_fit)
              (λ m count room. relation_prim names program I C count left rel right room);
          class = λ place class said. single_inside (conds.Class place class said) (tokens-Class program place class said false ∙ sym (tokens-Class program place class said true))
              (λ count room. place-start rejects-not (conds.Class place class said) place (not_tokens said ++ kinds.Word (class_word class) ∷ []) (tokens-Class program place class said true)
              (and_parts (judged_place names program place).fit (not (is_condition (judged_place names program place).kind)) (sym (fit-Class names program place class said) ∙ room.0)).0)
              (λ m count room. class_prim names program I C count place class said room);
          sign = λ expr sign said. single_inside (conds.SignIs expr sign said) (tokens-SignIs program expr sign said false ∙ sym (tokens-SignIs program expr sign said true))
              (λ count room. expr-start rejects-not (conds.SignIs expr sign said) expr (not_tokens said ++ kinds.Word (sign_word sign) ∷ []) (tokens-SignIs program expr sign said true)
              (and_parts (judged_expr names program expr).fit (is_number (judged_expr names program expr).kind) (sym (fit-SignIs names program expr sign said) ∙ room.0)).0)
              (λ m count room. sign_prim names program I C count expr sign said room);
          named = λ place. single_inside (conds.Named place) (tokens-Named program place false ∙ sym (tokens-Named program place true))
              (λ count room. place-start rejects-not (conds.Named place) place [] (named-tokens place)
              (and_parts (judged_place names program place).fit (is_condition (judged_place names program place).kind) (sym (fit-Named names program place) ∙ room.0)).0)
              (λ m count room. named_prim names program I C count place room);
          not = not_inside;
          both = and_inside;
          either = or_inside;
        }) cond

    -- an expression alone in parentheses
    abbrev Closed : Option TokenKind → Type 0
    Closed behind = behind ≡ Some (kinds.Mark right_parenthesis)

    closed-part : (o : Option TokenKind) → Closed o → Ends continues_part o
    closed-part o e = subst (λ k. Ends continues_part k) (sym e) close-part

    same-inside : (what : ParsedExpr) → expr_of (enclosed_what what) ≡ expr_of what
    same-inside (whats.Ref place) = refl
    same-inside (whats.Literal operand) = refl
    same-inside (whats.Enclosed place) = refl
    same-inside (whats.Sum expr) = refl

    close_expr : {n : ℕ} (count : ℕ) (expr : Expr) (position : Position) (side : Side) (k : ℕ) → IsExprSide names program expr side → k ≡ count + expr_terms expr →
        Spelled (conditions.content_by names inner content position (prims.Alone side) k false) n (kinds.Mark right_parenthesis ∷ []) Any (IsExprRead names program count expr)
    unfolding conditions.content_by conditions.close_side sides.enclosed
    close_expr count expr position side k is e =
        there_next (part.is_mark right_parenthesis) _ (λ o b. refl)
        (ending (sign (part.is_mark right_parenthesis) refl)
        (λ _ _. pure (record {
          side = sides.enclosed position side;
          prim = refl;
          is = record { told = same-inside side.what ∙ is.told; known = record { kind = is.known.kind; make = is.known.make } };
          counted = e;
          pending_not = refl;
        })))

    pub expr_inside : {n : ℕ} (count : ℕ) (expr : Expr) → IsPrintableExpr names program expr → expr_terms expr ≤ levels → count + expr_terms expr ≤ 500 →
        Spelled (conditions.in_content names inner content count) n (in_parentheses (expr_tokens program expr false)) Any (IsExprRead names program count expr)
    unfolding conditions.in_content conditions.prim_content
    expr_inside count expr fit few room =
        then (sign (part.is_mark left_parenthesis) refl)
        (λ position _. other_next (part.is_key (codes "NOT")) _ (λ o b. expr-front names program rejects-not expr fit (kinds.Mark right_parenthesis ∷ []) o)
        (bind {Had = IsExprRead names program count expr} (by_tokens (sym (append-nil (expr_tokens program expr false)))
        (expr_with names program I C {tail = []} {Behind = Closed} (λ o b. (part-ends o (closed-part o b)).expr) count expr fit few room
        (λ side k m h. where_behind closed-part (hence (λ read t. record { side = side; prim = t.prim; is = h.side; counted = t.counted ∙ h.counted; pending_not = t.pending_not }) (no_test names program inner side count k)))))
        (λ o b. refl)
        (λ read h. at_same (λ said. conditions.content_by names inner content position read.prim read.count said) h.pending_not
        (at_same (λ prim. conditions.content_by names inner content position prim read.count false) h.prim (close_expr count expr position h.side read.count h.is h.counted)))))

  -- ---- with so many levels of parentheses

  none : {A : Type 0} {a : ℕ} → a < 0 → A
  none h = let never : ⊥ = omega (arith, h) in absurd never

  pub content_spells : (n : ℕ) → ContentSpells names program (conditions.content names n) n
  unfolding conditions.content
  content_spells zero = record {
    exprs = λ count expr fit few room. none few;
    conds = λ count cond fit few room. none few;
  }
  content_spells (suc n) =
      let I = inner_spells names program n in
      let C = content_spells n in
      record {
        exprs = λ count expr fit few room. expr_inside I C count expr fit (omega (arith, few)) room;
        conds = λ count cond fit few room. cond_inside I C cond _ count (fit, omega (arith, few), room);
      }

  -- as statements have it
  pub whole_cond : {n : ℕ} (cond : Cond) → IsPrintableCond names program cond → cond_terms cond ≤ 500 →
      Spelled (conditions.whole_cond names) n (cond_tokens program cond false) (Ends continues_cond) (λ found. found ≡ (cond, false))
  unfolding conditions.whole_cond conditions.cond
  whole_cond cond fit few =
      ending (cond_spelled (inner_spells names program 500) (content_spells 500) cond _ 0 (fit, few, omega (arith, few)))
      (λ found h. pure (ap (λ c. (c, found.pending_not)) h.cond_is ∙ ap (λ b. (cond, b)) h.pending_not))
