-- What spells whole conditions behind which a NOT stands.
use Rattle.std.proofs.Common.{◌≡◌, ℕ, zero, suc, ◌+◌, ◌<◌, ◌≤◌, true, false, ◌⊎◌, inl, inr, [], ◌∷◌, ◌++◌, Option, None, refl, ap, sym, ◌∙◌, subst, arith, append_assoc}
use Rattle.std.specs.Prelude.{codes}
use Rattle.cob_tree.specs.declared.cond.Cond.{Cond}
use Rattle.cob_tree.specs.declared.cond.Cond.TheVariants as conds
use Rattle.cob_tree.specs.declared.program.Program.{Program}
use Rattle.cobol_lex.specs.declared.token.TokenKind.{TokenKind}
use Rattle.cobol_lex.specs.declared.token.TokenKind.TheVariants as kinds
use Rattle.parser_combinators.specs.declared.why.Why.TheVariants.{Syntax}
use Rattle.parser_combinators.specs.Form as form
use Rattle.parser_combinators.specs.Part as part
use Rattle.unparser.specs.Token.{Tokens}
use Rattle.unparser.specs.Condition.{cond_tokens}
use Rattle.symbol_tables.specs.data_names.Names.{Names}
use Rattle.program_facts.specs.term_counts.Condition.{cond_terms}
use Rattle.cobol_grammar.specs.expr_forms.Limit.{Inner}
use Rattle.cobol_grammar.specs.declared.cond_forms.part.SimpleCond.{SimpleCond}
use Rattle.cobol_grammar.specs.declared.cond_forms.test.Read.{Read}
use Rattle.cobol_grammar.specs.cond_forms.Condition as conditions
use Rattle.cobol_grammar.specs.cond_forms.Neg as negs
use Rattle.cobol_grammar.specs.cond_forms.Token.{joins}
use Rattle.round_trip.specs.spelled_forms.Spelling.{Spelled}
use Rattle.round_trip.proofs.spelled_forms_lemmas.Makers.{pure, where_behind, bind, then, ending, chosen_other, there_next, other_next, no_turn, last_turn}
use Rattle.round_trip.proofs.spelled_forms_lemmas.Tokens.{key}
use Rattle.round_trip.specs.spelling.expr_spelling.Spelled.{Ends}
use Rattle.round_trip.proofs.spelling_lemmas.expr_spelling_lemmas.Places.{by_tokens, InnerSpells}
use Rattle.round_trip.proofs.spelling_lemmas.expr_spelling_lemmas.Levels.{inner_spells}
use Rattle.round_trip.specs.spelling.cond_spelling.Printable.{IsPrintableCond}
use Rattle.round_trip.specs.spelling.cond_spelling.Behind.{IsNot, BeginsPhrase}
use Rattle.round_trip.proofs.spelling_lemmas.cond_spelling_lemmas.Layers.{cond-cases, tokens-Relation, tokens-Class, tokens-SignIs, tokens-Named, tokens-Not, terms-And, terms-Or}
use Rattle.round_trip.proofs.spelling_lemmas.cond_spelling_lemmas.Tests.{and-ends, or-ends, and-joins, or-joins}
use Rattle.round_trip.proofs.spelling_lemmas.cond_spelling_lemmas.Primaries.{IsPart, ContentSpells, Room, some-cond, plain-And, plain-Or}
use Rattle.round_trip.proofs.spelling_lemmas.cond_spelling_lemmas.Conditions.{both-fits, either-fits, neg_within, alone_from, content_spells}
use Rattle.round_trip.proofs.spelling_lemmas.cond_spelling_lemmas.Nots.{not_kind, not-no-join, no-join, IsNotPart, NamesSpell, name_inside, Closed, Open, relation_closed, class_closed, sign_closed, named_open, not_either, ClosedWithin, OpenWithin, Within, within_parts}

module _ (names : Names) (program : Program) where
  module _ {inner : Inner} {content : ℕ → form.Form Read} {levels : ℕ} (I : InnerSpells names program inner false levels) (C : ContentSpells names program content levels)
      (N : NamesSpell names program content levels) where
    -- ---- parts that are joined

    and_by : {n : ℕ} {tokens : Tokens} {Behind : Option TokenKind → Type 0} {Had Has : SimpleCond → Type 0} (first : SimpleCond) → first.pending_not ≡ false → ((o : Option TokenKind) → Behind o → Ends joins o) →
        ((m : ℕ) → Spelled (negs.neg names inner content first.setting first.count) m tokens Behind Had) →
        ((next : SimpleCond) → Had next → Has (conditions.joined_whole (conditions.and_joined None first.cond next))) →
        Spelled (conditions.conds_from names inner content first) n (kinds.Word (codes "AND") ∷ tokens) Behind Has
    unfolding conditions.conds_from conditions.join conditions.and_part
    and_by {Has = Has} first unsaid none S G =
        ending (last_turn joins (conditions.join names inner content) {Has = λ state. Has (conditions.joined_whole state)} (λ o. and-joins)
        (chosen_other (form.refuse Syntax) unsaid (there_next (part.is_key (codes "AND")) _ (λ o b. refl)
        (then (key (codes "AND")) (λ _ _. ending (S _) (λ next m. pure (G next m))))))
        (λ o b. b) none) (λ state s. pure s)

    or_by : {n : ℕ} {tokens : Tokens} {Behind : Option TokenKind → Type 0} {Had Has : SimpleCond → Type 0} (first : SimpleCond) → first.pending_not ≡ false → ((o : Option TokenKind) → Behind o → Ends joins o) →
        ((m : ℕ) → Spelled (negs.neg names inner content first.setting first.count) m tokens Behind Had) →
        ((next : SimpleCond) → Had next → Has (conditions.joined_whole (conditions.or_joined None first.cond next))) →
        Spelled (conditions.conds_from names inner content first) n (kinds.Word (codes "OR") ∷ tokens) Behind Has
    unfolding conditions.conds_from conditions.join conditions.or_part
    or_by {Has = Has} first unsaid none S G =
        ending (last_turn joins (conditions.join names inner content) {Has = λ state. Has (conditions.joined_whole state)} (λ o. or-joins)
        (chosen_other (form.refuse Syntax) unsaid (other_next (part.is_key (codes "AND")) _ (λ o b. refl)
        (then (key (codes "OR")) (λ _ _. ending (S _) (λ next m. pure (G next m))))))
        (λ o b. b) none) (λ state s. pure s)

    open_from : {n : ℕ} (count : ℕ) (cond : Cond) (first : SimpleCond) → IsNotPart count cond first → Spelled (conditions.conds_from names inner content first) n [] BeginsPhrase (IsNotPart count cond)
    unfolding conditions.conds_from
    open_from count cond first h =
        ending (no_turn joins (conditions.join names inner content) {Has = λ state. state ≡ record { before = None; part = first }} no-join refl)
        (λ state e. pure (subst (λ state. IsNotPart count cond (conditions.joined_whole state)) (sym e) (record { cond_is = h.cond_is; counted = h.counted; pending_not = h.pending_not })))

    -- ---- whole conditions

    abbrev WholeClosed : Cond → Type 0
    WholeClosed cond = (n count : ℕ) → Room names program levels count cond →
        Spelled (conditions.cond_with names inner content count) n (cond_tokens program cond false) IsNot (IsPart (count + cond_terms cond) cond)

    abbrev WholeOpen : Cond → Type 0
    WholeOpen cond = (n count : ℕ) → Room names program levels count cond →
        Spelled (conditions.cond_with names inner content count) n (cond_tokens program cond false ++ not_kind) BeginsPhrase (IsNotPart (count + cond_terms cond) cond)

    abbrev Whole : Cond → Type 0
    Whole cond = WholeClosed cond ⊎ WholeOpen cond

    single_closed : (cond : Cond) → cond_tokens program cond false ≡ cond_tokens program cond true → Closed names program I C cond → WholeClosed cond
    unfolding conditions.cond_with
    single_closed cond e S n count room =
        by_tokens e (ending (S n None count room) (λ first h. where_behind not-no-join (alone_from names program I C (count + cond_terms cond) cond first h)))

    single_open : (cond : Cond) → cond_tokens program cond false ≡ cond_tokens program cond true → Open names program I C cond → WholeOpen cond
    unfolding conditions.cond_with
    single_open cond e S n count room =
        by_tokens (ap (λ list. list ++ not_kind) e) (ending (S n None count room) (λ first h. open_from (count + cond_terms cond) cond first h))

    single : (cond : Cond) → cond_tokens program cond false ≡ cond_tokens program cond true → Closed names program I C cond ⊎ Open names program I C cond → Whole cond
    single cond e (inl S) = inl (single_closed cond e S)
    single cond e (inr S) = inr (single_open cond e S)

    counted-both : (count first next a b c : ℕ) → first ≡ count + a → next ≡ first + b → c ≡ a + b → next ≡ count + c
    counted-both count first next a b c e k s = omega (arith, e, k, s)

    and_closed : (left right : Cond) → ClosedWithin names program I C N right → WholeClosed (conds.And left right)
    unfolding conditions.cond_with
    and_closed left right S n count room =
        let e = terms-And left right in
        let fits = both-fits names program I C left right room.0 in
        let few = room.1 in
        let all = room.2 in
        let some = some-cond names program left in
        let others = some-cond names program right in
        by_tokens (plain-And names program left right)
        (bind (neg_within names program I C left n None count fits.0 (omega (arith, e, few, others)) (omega (arith, e, all))) (λ o b. and-ends)
        (λ first h. let k = h.counted in
        and_by {Had = IsPart (first.count + cond_terms right) right} first h.pending_not not-no-join
        (λ m. S m first.setting first.count fits.1 (omega (arith, e, few, some)) (omega (arith, e, all, k)))
        (λ next m. record {
          cond_is = ap (λ x. conds.And x next.cond) h.cond_is ∙ ap (λ x. conds.And left x) m.cond_is;
          counted = counted-both count first.count next.count (cond_terms left) (cond_terms right) (cond_terms (conds.And left right)) k m.counted e;
          pending_not = m.pending_not;
        })))

    and_open : (left right : Cond) → OpenWithin names program I C N right → WholeOpen (conds.And left right)
    unfolding conditions.cond_with
    and_open left right S n count room =
        let e = terms-And left right in
        let fits = both-fits names program I C left right room.0 in
        let few = room.1 in
        let all = room.2 in
        let some = some-cond names program left in
        let others = some-cond names program right in
        by_tokens (ap (λ list. list ++ not_kind) (plain-And names program left right) ∙ append_assoc (cond_tokens program left true) (kinds.Word (codes "AND") ∷ cond_tokens program right true) not_kind)
        (bind (neg_within names program I C left n None count fits.0 (omega (arith, e, few, others)) (omega (arith, e, all))) (λ o b. and-ends)
        (λ first h. let k = h.counted in
        and_by {Had = IsNotPart (first.count + cond_terms right) right} first h.pending_not no-join
        (λ m. S m first.setting first.count fits.1 (omega (arith, e, few, some)) (omega (arith, e, all, k)))
        (λ next m. record {
          cond_is = ap (λ x. conds.And x next.cond) h.cond_is ∙ ap (λ x. conds.And left x) m.cond_is;
          counted = counted-both count first.count next.count (cond_terms left) (cond_terms right) (cond_terms (conds.And left right)) k m.counted e;
          pending_not = m.pending_not;
        })))

    or_closed : (left right : Cond) → ClosedWithin names program I C N right → WholeClosed (conds.Or left right)
    unfolding conditions.cond_with
    or_closed left right S n count room =
        let e = terms-Or left right in
        let fits = either-fits names program I C left right room.0 in
        let few = room.1 in
        let all = room.2 in
        let some = some-cond names program left in
        let others = some-cond names program right in
        by_tokens (plain-Or names program left right)
        (bind (neg_within names program I C left n None count fits.0 (omega (arith, e, few, others)) (omega (arith, e, all))) (λ o b. or-ends)
        (λ first h. let k = h.counted in
        or_by {Had = IsPart (first.count + cond_terms right) right} first h.pending_not not-no-join
        (λ m. S m first.setting first.count fits.1 (omega (arith, e, few, some)) (omega (arith, e, all, k)))
        (λ next m. record {
          cond_is = ap (λ x. conds.Or x next.cond) h.cond_is ∙ ap (λ x. conds.Or left x) m.cond_is;
          counted = counted-both count first.count next.count (cond_terms left) (cond_terms right) (cond_terms (conds.Or left right)) k m.counted e;
          pending_not = m.pending_not;
        })))

    or_open : (left right : Cond) → OpenWithin names program I C N right → WholeOpen (conds.Or left right)
    unfolding conditions.cond_with
    or_open left right S n count room =
        let e = terms-Or left right in
        let fits = either-fits names program I C left right room.0 in
        let few = room.1 in
        let all = room.2 in
        let some = some-cond names program left in
        let others = some-cond names program right in
        by_tokens (ap (λ list. list ++ not_kind) (plain-Or names program left right) ∙ append_assoc (cond_tokens program left true) (kinds.Word (codes "OR") ∷ cond_tokens program right true) not_kind)
        (bind (neg_within names program I C left n None count fits.0 (omega (arith, e, few, others)) (omega (arith, e, all))) (λ o b. or-ends)
        (λ first h. let k = h.counted in
        or_by {Had = IsNotPart (first.count + cond_terms right) right} first h.pending_not no-join
        (λ m. S m first.setting first.count fits.1 (omega (arith, e, few, some)) (omega (arith, e, all, k)))
        (λ next m. record {
          cond_is = ap (λ x. conds.Or x next.cond) h.cond_is ∙ ap (λ x. conds.Or left x) m.cond_is;
          counted = counted-both count first.count next.count (cond_terms left) (cond_terms right) (cond_terms (conds.Or left right)) k m.counted e;
          pending_not = m.pending_not;
        })))

    and_whole : (left right : Cond) → Within names program I C N right → Whole (conds.And left right)
    and_whole left right (inl S) = inl (and_closed left right S)
    and_whole left right (inr S) = inr (and_open left right S)

    or_whole : (left right : Cond) → Within names program I C N right → Whole (conds.Or left right)
    or_whole left right (inl S) = inl (or_closed left right S)
    or_whole left right (inr S) = inr (or_open left right S)

    wholes : (cond : Cond) → Whole cond
    wholes cond =
        cond-cases Whole (record {
          relation = λ left rel right. single (conds.Relation left rel right) (tokens-Relation program left rel right false ∙ sym (tokens-Relation program left rel right true))
              (inl (relation_closed names program I C left rel right));
          class = λ place class said. single (conds.Class place class said) (tokens-Class program place class said false ∙ sym (tokens-Class program place class said true))
              (inl (class_closed names program I C place class said));
          sign = λ expr sign said. single (conds.SignIs expr sign said) (tokens-SignIs program expr sign said false ∙ sym (tokens-SignIs program expr sign said true))
              (inl (sign_closed names program I C expr sign said));
          named = λ place. single (conds.Named place) (tokens-Named program place false ∙ sym (tokens-Named program place true)) (inr (named_open names program I C place));
          not = λ inside. single (conds.Not inside) (tokens-Not program inside false ∙ sym (tokens-Not program inside true)) (not_either names program I C N inside);
          both = λ left right. and_whole left right (within_parts names program I C N right);
          either = λ left right. or_whole left right (within_parts names program I C N right);
        }) cond

  -- ---- with so many levels of parentheses

  none : {A : Type 0} {a : ℕ} → a < 0 → A
  none h = let never : ⊥ = omega (arith, h) in absurd never

  names_spell : (n : ℕ) → NamesSpell names program (conditions.content names n) n
  unfolding conditions.content
  names_spell zero = record { named = λ count place fit is few room. none few }
  names_spell (suc n) =
      record { named = λ count place fit is few room. name_inside names program (inner_spells names program n) (content_spells names program n) count place fit is (omega (arith, few)) room }

  -- as statements have it
  abbrev WholeBefore : Cond → Type 0
  WholeBefore cond =
      ((taken : ℕ) → Spelled (conditions.whole_cond names) taken (cond_tokens program cond false) IsNot (λ found. found ≡ (cond, false)))
      ⊎ ((taken : ℕ) → Spelled (conditions.whole_cond names) taken (cond_tokens program cond false ++ not_kind) BeginsPhrase (λ found. found ≡ (cond, true)))

  before_by : (cond : Cond) → IsPrintableCond names program cond → cond_terms cond ≤ 500 →
      Whole (inner_spells names program 500) (content_spells names program 500) (names_spell 500) cond → WholeBefore cond
  unfolding conditions.whole_cond conditions.cond
  before_by cond fit few (inl S) =
      inl (λ taken. ending (S taken 0 (fit, few, omega (arith, few)))
      (λ found h. pure (ap (λ c. (c, found.pending_not)) h.cond_is ∙ ap (λ b. (cond, b)) h.pending_not)))
  before_by cond fit few (inr S) =
      inr (λ taken. ending (S taken 0 (fit, few, omega (arith, few)))
      (λ found h. pure (ap (λ c. (c, found.pending_not)) h.cond_is ∙ ap (λ b. (cond, b)) h.pending_not)))

  pub whole_before : (cond : Cond) → IsPrintableCond names program cond → cond_terms cond ≤ 500 → WholeBefore cond
  whole_before cond fit few =
      before_by cond fit few (wholes (inner_spells names program 500) (content_spells names program 500) (names_spell 500) cond)
