-- Whatever names there are, references and expressions take the same tokens.
use Rattle.std.proofs.Common.{◌≡◌, ℕ, zero, suc, Bool, true, false, List, refl, ap, subst}
use Rattle.std.specs.Option.{is_some}
use Rattle.cob_base.specs.Bytes.{left_parenthesis, right_parenthesis, plus_sign, hyphen, colon}
use Rattle.cob_tree.specs.declared.place.Op.{Op}
use Rattle.cob_tree.specs.declared.place.Op.TheVariants as ops
use Rattle.cob_tree.specs.declared.place.Place.{Place}
use Rattle.cob_tree.specs.declared.place.Sub.{Sub}
use Rattle.parser_combinators.specs.declared.note.Position.{Position}
use Rattle.parser_combinators.proofs.MakerLaws as laws
use Rattle.symbol_tables.specs.declared.data_names.name.Referent.{Referent}
use Rattle.symbol_tables.specs.data_names.Names.{Names}
use Rattle.parser_combinators.proofs.words_lemmas.WordLaws as words
use Rattle.cobol_grammar.specs.declared.expr_forms.chain.Chain.{Chain}
use Rattle.cobol_grammar.specs.declared.expr_forms.either.MaybeSubscripts.{MaybeSubscripts}
use Rattle.cobol_grammar.specs.declared.expr_forms.front.FirstInParens.{FirstInParens}
use Rattle.cobol_grammar.specs.declared.expr_forms.front.FirstInParens.TheVariants as fronts
use Rattle.cobol_grammar.specs.declared.expr_forms.reference.RefSuffixes.{RefSuffixes}
use Rattle.cobol_grammar.specs.declared.expr_forms.reference.Suffix.{Suffix}
use Rattle.cobol_grammar.specs.declared.expr_forms.reference.Suffix.TheVariants as suffixes
use Rattle.cobol_grammar.specs.declared.expr_forms.side.Side.{Side}
use Rattle.cob_base.specs.Limit.{max_parens}
use Rattle.cobol_grammar.specs.expr_forms.Limit as limits
use Rattle.cobol_grammar.specs.expr_forms.Limit.{Inner}
use Rattle.cobol_grammar.specs.expr_forms.Either.{with_number, more_leaves}
use Rattle.cobol_grammar.specs.expr_forms.Reference as references
use Rattle.cobol_grammar.specs.expr_forms.Operand as operands
use Rattle.cobol_grammar.specs.expr_forms.Expression as expressions
use Rattle.cobol_grammar.specs.expr_forms.Window as windows
use Rattle.cobol_grammar.specs.expr_forms.Subscript as subscripts
use Rattle.cobol_grammar.specs.expr_forms.Front as front_forms
use Rattle.cobol_grammar.specs.expr_forms.Levels as knots
use Rattle.cobol_grammar.proofs.expr_forms_lemmas.ExpressionLaws as law
use Rattle.parser_combinators.specs.Form as form
use Rattle.grammar_laws.specs.whole_counts.status_readings.Alike.{Alike}
use Rattle.grammar_laws.proofs.whole_counts_lemmas.status_readings_lemmas.Makers.{hence, pure, refuse, note, same, chosen, where_next, loop, too_deep, ◌>>=◌, ◌>>◌}

-- ---- what has a say in what is read on

abbrev Counted : {A B : Type 0} → A × ℕ → B × ℕ → Type 0
Counted a b = a.1 ≡ b.1

abbrev SuffixAlike : Suffix → Suffix → Type 0
SuffixAlike (suffixes.Subs subs) (suffixes.Subs others) = Unit {0}
SuffixAlike (suffixes.Window window) (suffixes.Window other) = Unit {0}
SuffixAlike _ _ = ⊥

abbrev SuffixCounted : Suffix × ℕ → Suffix × ℕ → Type 0
SuffixCounted a b = SuffixAlike a.0 b.0 × (a.1 ≡ b.1)

abbrev BehindAlike : RefSuffixes → RefSuffixes → Type 0
BehindAlike one other = one.count ≡ other.count

pub record EitherAlike (one other : MaybeSubscripts) : Type 0 where
  pub base : is_some one.base ≡ is_some other.base
  pub leaves : one.leaves ≡ other.leaves

abbrev FrontAlike : FirstInParens → FirstInParens → Type 0
FrontAlike (fronts.Either one) (fronts.Either other) = EitherAlike one other
FrontAlike (fronts.Sum chain count) (fronts.Sum other more) = count ≡ more
FrontAlike _ _ = ⊥

pub record InnerAlike (one other : Inner) : Type 0 where
  pub nested : (c d : ℕ) → c ≡ d → Alike (one.nested c) (other.nested d) Counted
  pub suffix : (c d : ℕ) → c ≡ d → Alike (one.suffix c) (other.suffix d) SuffixCounted
  pub window : (c d : ℕ) → c ≡ d → Alike (one.window c) (other.window d) Counted

tally : (c d more others : ℕ) → c ≡ d → more ≡ others → Alike (limits.count_terms c more) (limits.count_terms d others) (λ a b. a ≡ b)
tally c d more others e k =
    subst (λ n. Alike (limits.count_terms c more) (limits.count_terms n others) (λ a b. a ≡ b)) e
    (subst (λ n. Alike (limits.count_terms c more) (limits.count_terms c n) (λ a b. a ≡ b)) k (same (law.tally c more)))

-- ---- without names

item_sub_by : (byte : ℕ) (one other : Bool) (place place' : Place) → Alike (subscripts.item_sub_by byte one place) (subscripts.item_sub_by byte other place') (λ a b. Unit {0})
unfolding subscripts.item_sub_by
item_sub_by byte one other place place' = same (laws.mark byte) >> (same laws.digits >>= (λ a b is. pure tt))

item_sub_behind : (place place' : Place) → Alike (subscripts.item_sub_behind place) (subscripts.item_sub_behind place') (λ a b. Unit {0})
unfolding subscripts.item_sub_behind
item_sub_behind place place' = where_next (item_sub_by plus_sign false false place place') (where_next (item_sub_by hyphen true true place place') (pure tt))

number_turn : (one other : Op) (negative : Bool) (e f : MaybeSubscripts) → EitherAlike e f → Alike (front_forms.number_turn one negative e) (front_forms.number_turn other negative f) FrontAlike
unfolding front_forms.number_turn with_number
number_turn one other negative e f is = same laws.digits >>= (λ a b k. note >> pure (record { base = refl; leaves = ap more_leaves is.leaves }))

digits_front : Alike front_forms.digits_front front_forms.digits_front FrontAlike
unfolding front_forms.digits_front
digits_front = same laws.digits >>= (λ a b is. pure (record { base = refl; leaves = refl }))

module _ {one other : Inner} (I : InnerAlike one other) where
  -- ---- references

  more_behind : (a b : Suffix) → SuffixAlike a b → (c d : ℕ) → c ≡ d → Alike (references.more_behind one a c) (references.more_behind other b d) BehindAlike
  more_behind (suffixes.Window window) (suffixes.Window window') is c d e = pure e
  more_behind (suffixes.Window window) (suffixes.Subs subs') is c d e = absurd is
  more_behind (suffixes.Subs subs) (suffixes.Window window') is c d e = absurd is
  more_behind (suffixes.Subs subs) (suffixes.Subs subs') is c d e = where_next (I.window c d e >>= (λ a b k. pure k)) (pure e)

  behind : (c d : ℕ) → c ≡ d → Alike (references.behind one c) (references.behind other d) BehindAlike
  unfolding references.behind
  behind c d e = where_next (I.suffix c d e >>= (λ a b k. more_behind a.0 b.0 k.0 a.1 b.1 k.1)) (pure e)

  ref_behind : (found found' : Referent) (of of' : List (List ℕ)) (position position' : Position) (c d : ℕ) → c ≡ d →
      Alike (references.ref_behind one found of position c) (references.ref_behind other found' of' position' d) Counted
  unfolding references.ref_behind
  ref_behind found found' of of' position position' c d e = behind c d e >>= (λ a b k. note >> pure k)

  module _ (names others : Names) where
    reference_behind : (first first' : List ℕ) (position position' : Position) (c d : ℕ) → c ≡ d →
        Alike (references.reference_behind names one first position c) (references.reference_behind others other first' position' d) Counted
    unfolding references.reference_behind
    reference_behind first first' position position' c d e = same law.qualifiers >>= (λ a b is. ref_behind _ _ a b position position' c d e)

    pub reference : (c d : ℕ) → c ≡ d → Alike (references.reference names one c) (references.reference others other d) Counted
    unfolding references.reference
    reference c d e = same words.name >>= (λ a b is. reference_behind a.0 b.0 a.1 b.1 c d e)

    -- ---- operands and expressions

    literal_operand : (c d : ℕ) → c ≡ d → Alike (operands.literal_operand c) (operands.literal_operand d) Counted
    unfolding operands.literal_operand
    literal_operand c d e = same words.literal >>= (λ a b is. pure e)

    operand : (c d : ℕ) → c ≡ d → Alike (operands.operand names one c) (operands.operand others other d) Counted
    unfolding operands.operand
    operand c d e = where_next (tally c d 1 1 e refl >>= (λ a b k. where_next (reference a b k) (literal_operand a b k))) refuse

    unsigned : (c d : ℕ) → c ≡ d → Alike (expressions.unsigned names one c) (expressions.unsigned others other d) Counted
    unfolding expressions.unsigned
    unsigned c d e = where_next (I.nested c d e) (operand c d e)

    plussed : (c d : ℕ) → c ≡ d → Alike (expressions.plussed names one c) (expressions.plussed others other d) Counted
    unfolding expressions.plussed
    plussed c d e = same (laws.mark plus_sign) >>= (λ a b is. unsigned c d e >>= (λ x y k. pure k))

    minussed : (c d : ℕ) → c ≡ d → Alike (expressions.minussed names one c) (expressions.minussed others other d) Counted
    unfolding expressions.minussed
    minussed c d e = tally c d 1 1 e refl >>= (λ a b k. same (laws.mark hyphen) >>= (λ p q is. unsigned a b k >>= (λ x y l. note >> pure l)))

    unary : (c d : ℕ) → c ≡ d → Alike (expressions.unary names one c) (expressions.unary others other d) Counted
    unfolding expressions.unary
    unary c d e = where_next (minussed c d e) (where_next (plussed c d e) (unsigned c d e))

    operated : (op op' : Op) (chain chain' : Chain) (c d : ℕ) → c ≡ d → Alike (expressions.operated names one op chain c) (expressions.operated others other op' chain' d) Counted
    unfolding expressions.operated
    operated op op' chain chain' c d e = unary c d e >>= (λ a b k. note >> (note >> pure k))

    turn : (s t : Chain × ℕ) → s.1 ≡ t.1 → Alike (expressions.turn names one s) (expressions.turn others other t) Counted
    unfolding expressions.turn
    turn s t e = same law.operator >>= (λ a b is. operated a b s.0 t.0 s.1 t.1 e)

    sum : (side side' : Side) (c d : ℕ) → c ≡ d → Alike (expressions.sum names one side c) (expressions.sum others other side' d) Counted
    unfolding expressions.sum
    sum side side' c d e = loop {R = λ (s t : Chain × ℕ). s.1 ≡ t.1} turn e >>= (λ a b k. pure k)

    expr : (c d : ℕ) → c ≡ d → Alike (expressions.expr names one c) (expressions.expr others other d) Counted
    unfolding expressions.expr
    expr c d e = unary c d e >>= (λ a b k. sum a.0 b.0 a.1 b.1 k)

    pub in_nested : (c d : ℕ) → c ≡ d → Alike (expressions.in_nested names one c) (expressions.in_nested others other d) Counted
    unfolding expressions.in_nested
    in_nested c d e = same (laws.mark left_parenthesis) >>= (λ p q is. expr c d e >>= (λ a b k. same (laws.mark right_parenthesis) >> pure k))

    -- ---- windows

    length_part : (c d : ℕ) → c ≡ d → Alike (windows.length_part names one c) (windows.length_part others other d) Counted
    unfolding windows.length_part
    length_part c d e = where_next (pure e) (expr c d e >>= (λ a b k. note >> pure k))

    second : (alone : Bool) (c d : ℕ) → c ≡ d → windows.second_count alone c ≡ windows.second_count alone d
    second true c d e = refl
    second false c d e = e

    window_behind : (alone : Bool) (first first' : Side) (c d : ℕ) → c ≡ d → Alike (windows.window_behind names one alone first c) (windows.window_behind others other alone first' d) Counted
    unfolding windows.window_behind
    window_behind alone first first' c d e =
        same (laws.mark colon) >> (note >> (length_part (windows.second_count alone c) (windows.second_count alone d) (second alone c d e) >>= (λ a b k. same (laws.mark right_parenthesis) >> pure k)))

    pub in_window : (alone : Bool) (c d : ℕ) → c ≡ d → Alike (windows.in_window names one alone c) (windows.in_window others other alone d) Counted
    unfolding windows.in_window
    in_window alone c d e = same (laws.mark left_parenthesis) >> (expr c d e >>= (λ a b k. window_behind alone a.0 b.0 a.1 b.1 k))

    -- ---- subscripts

    item_sub_form : Alike (subscripts.item_sub_form names) (subscripts.item_sub_form others) (λ a b. Unit {0})
    unfolding subscripts.item_sub_form
    item_sub_form = same words.name >>= (λ a b is. same law.qualifiers >>= (λ x y k. note >> (note >> item_sub_behind _ _)))

    sub : Alike (subscripts.sub names) (subscripts.sub others) (λ a b. Unit {0})
    unfolding subscripts.sub
    sub = where_next (hence (λ a b is. tt) (same law.plus_sub_form)) (where_next (hence (λ a b is. tt) (same law.number_sub_form)) item_sub_form)

    -- ---- subscripts or a window

    plus_front : (c d : ℕ) → c ≡ d → Alike (front_forms.plus_front names one c) (front_forms.plus_front others other d) FrontAlike
    unfolding front_forms.plus_front
    plus_front c d e = same (laws.mark plus_sign) >>= (λ p q is. where_next digits_front (unsigned c d e >>= (λ a b k. pure k)))

    name_front : (c d : ℕ) → c ≡ d → Alike (front_forms.name_front names one c) (front_forms.name_front others other d) FrontAlike
    unfolding front_forms.name_front
    name_front c d e = same words.name >>= (λ a b is. same law.qualifiers >>= (λ x y k.
        where_next (tally c d 1 1 e refl >>= (λ n m l. ref_behind _ _ x y a.1 b.1 n m l >>= (λ s t j. pure j)))
        (note >> pure (record { base = refl; leaves = refl }))))

    unary_front : (c d : ℕ) → c ≡ d → Alike (front_forms.unary_front names one c) (front_forms.unary_front others other d) FrontAlike
    unfolding front_forms.unary_front
    unary_front c d e = unary c d e >>= (λ a b k. pure k)

    first_front : (c d : ℕ) → c ≡ d → Alike (front_forms.first_front names one c) (front_forms.first_front others other d) FrontAlike
    unfolding front_forms.first_front front_forms.other_front
    first_front c d e = where_next (plus_front c d e) (where_next digits_front (where_next (name_front c d e) (unary_front c d e)))

    decided : (c d : ℕ) → c ≡ d → (e f : MaybeSubscripts) → EitherAlike e f → (op op' : Op) → Alike (front_forms.decided names one c e op) (front_forms.decided others other d f op') FrontAlike
    unfolding front_forms.decided
    decided c d same_count e f is op op' = tally c d e.leaves f.leaves same_count is.leaves >>= (λ a b k. operated op op' e.chain f.chain a b k >>= (λ s t l. pure l))

    number_or_decided : (c d : ℕ) → c ≡ d → (e f : MaybeSubscripts) → EitherAlike e f → (op : Op) (negative : Bool) →
        Alike (front_forms.number_or_decided names one c e op negative) (front_forms.number_or_decided others other d f op negative) FrontAlike
    unfolding front_forms.number_or_decided
    number_or_decided c d same_count e f is op negative = where_next (number_turn op op negative e f is) (decided c d same_count e f is op op)

    minus_behind : (c d : ℕ) → c ≡ d → (e f : MaybeSubscripts) → EitherAlike e f → Alike (front_forms.minus_behind names one c e) (front_forms.minus_behind others other d f) FrontAlike
    unfolding front_forms.minus_behind
    minus_behind c d same_count e f is =
        subst (λ b. Alike (form.chosen (is_some e.base) (front_forms.number_or_decided names one c e ops.Sub true) (front_forms.decided names one c e ops.Sub))
        (form.chosen b (front_forms.number_or_decided others other d f ops.Sub true) (front_forms.decided others other d f ops.Sub)) FrontAlike) is.base
        (chosen (is_some e.base) (number_or_decided c d same_count e f is ops.Sub true) (decided c d same_count e f is ops.Sub ops.Sub))

    front_turn : (c d : ℕ) → c ≡ d → (s t : FirstInParens) → FrontAlike s t → Alike (front_forms.front_turn names one c s) (front_forms.front_turn others other d t) FrontAlike
    unfolding front_forms.front_turn front_forms.plus_turn front_forms.minus_turn front_forms.factor_turn
    front_turn c d e (fronts.Sum chain more) (fronts.Sum chain' more') is = turn (chain, more) (chain', more') is >>= (λ a b k. pure k)
    front_turn c d e (fronts.Sum chain more) (fronts.Either f) is = absurd is
    front_turn c d e (fronts.Either f) (fronts.Sum chain more) is = absurd is
    front_turn c d e (fronts.Either f) (fronts.Either g) is =
        where_next (same (laws.mark plus_sign) >> number_or_decided c d e f g is ops.Add false)
        (where_next (same (laws.mark hyphen) >> minus_behind c d e f g is) (same law.operator >>= (λ a b k. decided c d e f g is a b)))

    window_suffix : (alone : Bool) (first first' : Side) (c d : ℕ) → c ≡ d → Alike (front_forms.window_suffix names one alone first c) (front_forms.window_suffix others other alone first' d) SuffixCounted
    window_suffix alone first first' c d e = window_behind alone first first' c d e >>= (λ a b k. pure (tt, k))

    subs_suffix : (c d : ℕ) → c ≡ d → (e f : MaybeSubscripts) → Alike (front_forms.subs_suffix names c e) (front_forms.subs_suffix others d f) SuffixCounted
    unfolding front_forms.subs_suffix
    subs_suffix c d same_count e f =
        note >> (loop {R = λ (a b : List Sub). Unit {0}} (λ a b is. sub >>= (λ x y k. pure tt)) tt >>= (λ a b is. same (laws.mark right_parenthesis) >> pure (tt, same_count)))

    front_end : (alone : Bool) (c d : ℕ) → c ≡ d → (s t : FirstInParens) → FrontAlike s t → Alike (front_forms.front_end names one alone c s) (front_forms.front_end others other alone d t) SuffixCounted
    unfolding front_forms.front_end
    front_end alone c d e (fronts.Sum chain more) (fronts.Sum chain' more') is = window_suffix alone _ _ more more' is
    front_end alone c d e (fronts.Sum chain more) (fronts.Either f) is = absurd is
    front_end alone c d e (fronts.Either f) (fronts.Sum chain more) is = absurd is
    front_end alone c d e (fronts.Either f) (fronts.Either g) is =
        where_next (tally c d f.leaves g.leaves e is.leaves >>= (λ a b k. window_suffix alone _ _ a b k)) (subs_suffix c d e f g)

    pub in_suffix : (alone : Bool) (c d : ℕ) → c ≡ d → Alike (front_forms.in_suffix names one alone c) (front_forms.in_suffix others other alone d) SuffixCounted
    unfolding front_forms.in_suffix
    in_suffix alone c d e =
        same (laws.mark left_parenthesis) >> (first_front c d e >>= (λ a b is. loop {R = FrontAlike} (front_turn c d e) is >>= (λ s t k. front_end alone c d e s t k)))

-- ---- with so many levels of parentheses

inner : (names others : Names) (levels : ℕ) → InnerAlike (knots.inner names levels) (knots.inner others levels)
unfolding knots.inner
inner names others zero = record {
  nested = λ c d e. too_deep;
  suffix = λ c d e. too_deep;
  window = λ c d e. too_deep;
}
inner names others (suc n) = record {
  nested = λ c d e. in_nested (inner names others n) names others c d e;
  suffix = λ c d e. in_suffix (inner names others n) names others false c d e;
  window = λ c d e. in_window (inner names others n) names others false c d e;
}

outer : (names others : Names) → InnerAlike (knots.outer names) (knots.outer others)
outer names others = record {
  nested = λ c d e. in_nested (inner names others max_parens) names others c d e;
  suffix = λ c d e. in_suffix (inner names others max_parens) names others true c d e;
  window = λ c d e. in_window (inner names others max_parens) names others true c d e;
}

pub data_reference : (names others : Names) → Alike (knots.data_reference names) (knots.data_reference others) (λ a b. Unit {0})
unfolding knots.data_reference
data_reference names others = reference (outer names others) names others 0 0 refl >>= (λ a b is. pure tt)
