-- What spells literals, references and operands.
use Rattle.std.proofs.Common.{◌≡◌, ℕ, ◌+◌, ◌<◌, ◌≤◌, Bool, true, false, not, ◌&&◌, List, [], ◌∷◌, ◌++◌, map, length, Option, Some, None, refl, ap, sym, ◌∙◌, subst, arith, append_assoc, append-nil}
use Rattle.std.specs.Prelude.{codes, ◌==◌, if◌then◌else◌}
use Rattle.std.specs.Option.{is_some}
use Rattle.std.proofs.lemmas.Bool.{and_parts, not-true, both_ways, eqb-true, le-ltb}
use Rattle.cob_base.specs.Bytes.{left_parenthesis}
use Rattle.cob_tree.specs.declared.number.Number.{Number}
use Rattle.cob_tree.specs.declared.place.Expr.{Expr}
use Rattle.cob_tree.specs.declared.place.Figure.{Figure}
use Rattle.cob_tree.specs.declared.place.Operand.{Operand}
use Rattle.cob_tree.specs.declared.place.Operand.TheVariants as operands
use Rattle.cob_tree.specs.declared.place.Place.{Place}
use Rattle.cob_tree.specs.declared.place.Sub.{Sub}
use Rattle.cob_tree.specs.declared.place.Window.{Window}
use Rattle.cob_tree.specs.declared.program.Program.{Program}
use Rattle.cobol_lex.specs.declared.token.TokenKind.{TokenKind}
use Rattle.cobol_lex.specs.declared.token.TokenKind.TheVariants as kinds
use Rattle.parser_combinators.specs.declared.note.Position.{Position}
use Rattle.parser_combinators.specs.declared.why.Why.TheVariants.{Terms}
use Rattle.parser_combinators.specs.Form as form
use Rattle.parser_combinators.specs.Form.{begins_by}
use Rattle.parser_combinators.specs.Part as part
use Rattle.unparser.specs.Token.{number_token, joined, in_parentheses}
use Rattle.unparser.specs.Place.{item_name, of_tokens, figure_word, subs_tokens, place_tokens, operand_tokens, expr_tokens, sub_tokens, window_tokens}
use Rattle.parser_combinators.specs.words.Word.{is_data_word, is_name}
use Rattle.parser_combinators.specs.words.Constant as constants
use Rattle.symbol_tables.specs.declared.data_names.name.Referent.{Referent}
use Rattle.symbol_tables.specs.declared.data_names.name.Referent.TheVariants as found
use Rattle.symbol_tables.specs.data_names.Names.{Names}
use Rattle.symbol_tables.specs.data_names.Look.{look}
use Rattle.program_facts.specs.term_counts.Expression.{expr_terms, operand_terms}
use Rattle.cobol_grammar.specs.declared.expr_forms.reference.RefSuffixes.{RefSuffixes}
use Rattle.cobol_grammar.specs.declared.expr_forms.reference.Suffix.TheVariants as suffixes
use Rattle.cobol_grammar.specs.declared.expr_forms.side.Side.{Side}
use Rattle.cobol_grammar.specs.declared.expr_forms.side.ParsedExpr.TheVariants as whats
use Rattle.cobol_grammar.specs.expr_forms.Fault.{found_fault, item_of, item_kind, kind_of, is_condition, usage}
use Rattle.cobol_grammar.specs.expr_forms.Side.{literal_kind, literal_side, ref_side, kind_within}
use Rattle.cobol_grammar.specs.expr_forms.Token.{is_of, begins_operand}
use Rattle.cobol_grammar.specs.expr_forms.Limit.{Inner}
use Rattle.cobol_grammar.specs.expr_forms.Limit as limits
use Rattle.cobol_grammar.specs.expr_forms.Reference as references
use Rattle.cobol_grammar.specs.expr_forms.Operand as operand_forms
use Rattle.round_trip.specs.spelled_forms.Spelling.{first_of, Any, Spelled}
use Rattle.round_trip.proofs.spelled_forms_lemmas.Makers.{pure, note, hence, where_behind, bind, then, ending, behind_none, chosen_other, there_next, other_next, no_turn, turn}
use Rattle.round_trip.proofs.spelled_forms_lemmas.Tokens.{key, valued, name}
use Rattle.round_trip.specs.spelling.expr_spelling.Printable.{reference, judged_operand, judged_sub, judged_window, are_data_words, suits, are_fit, if_fit, kind_seen, IsPrintableExpr, IsPrintableOperand, IsPrintablePlace}
use Rattle.round_trip.specs.spelling.expr_spelling.Printable as judging
use Rattle.round_trip.specs.spelling.expr_spelling.Spelled.{Ends, continues_place, what_of, IsOperandSide, IsExprSide, size_terms, HasRoom, made_window, made_place, WindowHasRoom, PlaceHasRoom, OperandHasRoom}
use Rattle.round_trip.proofs.spelling_lemmas.expr_spelling_lemmas.Layers.{operand-cases, place-cases, window-cases, tokens-Place, tokens-Number, tokens-Text, tokens-Figure, tokens-place, tokens-window, windows_tokens, judged-Place, judged-Number, judged-Text, judged-Figure, judged-place, judged_windows, terms-Place, terms-Number, terms-Text, terms-Figure, terms-place, terms-window, window_count}
use Rattle.round_trip.proofs.spelling_lemmas.expr_spelling_lemmas.Tests.{of-is, name-operand, digits-operand, decimal-operand, text-operand, figure-listed, figure-found, figure-operand, no-data-word, place-ends, mark-no-of, first-tail}

-- ---- the same tokens

pub by_tokens : {A : Type 0} {f : form.Form A} {n : ℕ} {kinds others : List TokenKind} {RefSuffixes : Option TokenKind → Type 0} {Has : A → Type 0} →
    others ≡ kinds → Spelled f n kinds RefSuffixes Has → Spelled f n others RefSuffixes Has
by_tokens {f = f} {n = n} {RefSuffixes = RefSuffixes} {Has = Has} e F = subst (λ list. Spelled f n list RefSuffixes Has) (sym e) F

-- a form that the same value gives
pub at_same : {A B : Type 0} (g : B → form.Form A) {n : ℕ} {kinds : List TokenKind} {RefSuffixes : Option TokenKind → Type 0} {Has : A → Type 0} {x y : B} →
    x ≡ y → Spelled (g y) n kinds RefSuffixes Has → Spelled (g x) n kinds RefSuffixes Has
at_same g {n = n} {kinds = kinds} {RefSuffixes = RefSuffixes} {Has = Has} e F = subst (λ z. Spelled (g z) n kinds RefSuffixes Has) (sym e) F

-- ---- counts

pub tally : {n : ℕ} (count more : ℕ) → count + more ≤ 500 → Spelled (limits.count_terms count more) n [] Any (λ found. found ≡ count + more)
tally count more few = chosen_other (form.refuse Terms) (le-ltb 500 (count + more) few) (pure refl)

-- ---- literals

abbrev IsLiteral : Operand → Operand × Position → Type 0
IsLiteral operand found = found.0 ≡ operand

pub whole-is : (number : Number) → number.negative ≡ false → number.scale ≡ 0 → constants.whole number.digits ≡ number
whole-is number n s =
    ap (λ v. record { negative = v; digits = number.digits; scale = 0 }) (sym n) ∙ ap (λ v. record { negative = number.negative; digits = number.digits; scale = v }) (sym s)

digits_literal : {n : ℕ} (digits : List ℕ) → Spelled constants.literal n (kinds.Digits digits ∷ []) Any (IsLiteral (operands.Number (constants.whole digits)))
unfolding constants.literal constants.whole_number
digits_literal digits =
    there_next constants.is_digits _ (λ o b. refl)
    (ending (valued part.digits_of digits refl) (λ found h. pure (ap (λ d. operands.Number (constants.whole d)) h.0)))

decimal_literal : {n : ℕ} (number : Number) → Spelled constants.literal n (kinds.Decimal number ∷ []) Any (IsLiteral (operands.Number number))
unfolding constants.literal constants.other_number
decimal_literal number =
    other_next constants.is_digits _ (λ o b. refl) (there_next constants.is_decimal _ (λ o b. refl)
    (ending (valued part.decimal_of number refl) (λ found h. pure (ap (λ d. operands.Number d) h.0))))

text_literal : {n : ℕ} (text : List ℕ) → Spelled constants.literal n (kinds.Literal text ∷ []) Any (IsLiteral (operands.Text text))
unfolding constants.literal constants.text_or_figure constants.text
text_literal text =
    other_next constants.is_digits _ (λ o b. refl) (other_next constants.is_decimal _ (λ o b. refl) (there_next constants.is_text _ (λ o b. refl)
    (ending (valued part.literal_of text refl) (λ found h. pure (ap (λ t. operands.Text t) h.0)))))

figure_literal : {n : ℕ} (figure : Figure) → Spelled constants.literal n (kinds.Word (figure_word figure) ∷ []) Any (IsLiteral (operands.Figure figure))
unfolding constants.literal constants.text_or_figure constants.figure
figure_literal figure =
    other_next constants.is_digits _ (λ o b. refl) (other_next constants.is_decimal _ (λ o b. refl) (other_next constants.is_text _ (λ o b. refl)
    (ending (valued constants.figure_of figure (figure-found figure)) (λ found h. pure (ap (λ f. operands.Figure f) h.0)))))

number-literal : {n : ℕ} (number : Number) (plain : Bool) → (not number.negative && number.scale == 0) ≡ plain →
    Spelled constants.literal n ((if plain then kinds.Digits number.digits else kinds.Decimal number) ∷ []) Any (IsLiteral (operands.Number number))
number-literal number true e =
    let both = and_parts (not number.negative) (number.scale == 0) e in
    hence (λ found h. h ∙ ap (λ d. operands.Number d) (whole-is number (not-true number.negative both.0) (eqb-true number.scale 0 both.1))) (digits_literal number.digits)
number-literal number false e = decimal_literal number

pub number_literal : {n : ℕ} (number : Number) → Spelled constants.literal n (number_token number ∷ []) Any (IsLiteral (operands.Number number))
number_literal number = number-literal number (not number.negative && number.scale == 0) refl

-- ---- qualifiers

qualifier : {n : ℕ} (word : List ℕ) → is_data_word word ≡ true → Spelled references.qualifier n (kinds.Word (codes "OF") ∷ kinds.Word word ∷ []) Any (λ found. found ≡ word)
unfolding references.qualifier
qualifier word h =
    (then) (there_next (part.is_key (codes "OF")) _ (λ o b. refl) (key (codes "OF")))
    (λ _ _. ending (name word h) (λ found k. pure k.0))

added : {n : ℕ} (front : List (List ℕ)) (word : List ℕ) → is_data_word word ≡ true →
    Spelled (form.added references.qualifier front) n (kinds.Word (codes "OF") ∷ kinds.Word word ∷ []) Any (λ list. list ≡ front ++ word ∷ [])
added front word h = ending (qualifier word h) (λ x e. pure (ap (λ x. front ++ x ∷ []) e))

qualifiers_from : (of front : List (List ℕ)) (n : ℕ) → are_data_words of ≡ true →
    Spelled (form.loop is_of (form.added references.qualifier) front) n (of_tokens of) (Ends is_of) (λ list. list ≡ front ++ of)
qualifiers_from [] front n h = no_turn is_of (form.added references.qualifier) (λ o b. b) (sym (append-nil front))
qualifiers_from (word ∷ of) front n h =
    let both = and_parts (is_data_word word) (are_data_words of) h in
    turn is_of (form.added references.qualifier) (λ o. of-is) (added front word both.0) (λ o b. tt)
    (λ mid e. hence (λ list k. k ∙ ap (λ f. f ++ of) e ∙ append_assoc front (word ∷ []) of) (qualifiers_from of mid _ both.1))

pub qualifiers : {n : ℕ} (of : List (List ℕ)) → are_data_words of ≡ true → Spelled references.qualifiers n (of_tokens of) (Ends is_of) (λ list. list ≡ of)
qualifiers of h = qualifiers_from of [] _ h

-- the words of a reference, and what stands behind them
pub reference_words : (names : Names) (inner : Inner) (count : ℕ) (word : List ℕ) (of : List (List ℕ)) {n : ℕ} {tail : List TokenKind} {RefSuffixes : Option TokenKind → Type 0} {Has : Side × ℕ → Type 0} →
    is_data_word word ≡ true → are_data_words of ≡ true → ((o : Option TokenKind) → RefSuffixes o → Ends is_of (first_of tail o)) →
    ((position : Position) (m : ℕ) → Spelled (references.ref_behind inner (look names word of) of position count) m tail RefSuffixes Has) →
    Spelled (references.reference names inner count) n (kinds.Word word ∷ (of_tokens of ++ tail)) RefSuffixes Has
unfolding references.reference references.reference_behind
reference_words names inner count word of w q mid G =
    (then) (name word w)
    (λ first h. at_same (λ f. references.reference_behind names inner f first.1 count) h.0
    (bind (qualifiers of q) mid
    (λ list e. at_same (λ of. references.ref_behind inner (look names word of) of first.1 count) e (G first.1 _))))

-- ---- what a name stands for

pub item-is : (item subs : ℕ) (windowed : Bool) (found : Referent) → suits item subs windowed found ≡ true → item_of found ≡ item
item-is item subs windowed found.Unknown e = absurd (both_ways false refl e)
item-is item subs windowed found.Ambiguous e = absurd (both_ways false refl e)
item-is item subs windowed (found.Item number kind dims) e =
    eqb-true number item (and_parts (number == item) (dims == subs && not (is_condition (item_kind kind) && windowed)) e).0

pub no-fault : (item subs : ℕ) (windowed : Bool) (found : Referent) (position : Position) → suits item subs windowed found ≡ true → found_fault found subs windowed position ≡ None
unfolding found_fault
no-fault item subs windowed found.Unknown position e = absurd (both_ways false refl e)
no-fault item subs windowed found.Ambiguous position e = absurd (both_ways false refl e)
no-fault item subs windowed (found.Item number kind dims) position e =
    ap (λ b. if b then None else usage position) (and_parts (number == item) (dims == subs && not (is_condition (item_kind kind) && windowed)) e).1

module _ (names : Names) (program : Program) where
  -- what stands in parentheses is spelled, within fewer levels of parentheses than these
  pub record InnerSpells (inner : Inner) (alone : Bool) (levels : ℕ) : Type 0 where
    pub nested : {n : ℕ} (count : ℕ) (expr : Expr) → IsPrintableExpr names program expr → expr_terms expr < levels → count + expr_terms expr ≤ 500 →
        Spelled (inner.nested count) n (in_parentheses (expr_tokens program expr false)) Any
        (λ found. IsExprSide names program expr found.0 × (found.1 ≡ count + expr_terms expr))
    pub subs : {n : ℕ} (count : ℕ) (first : Sub) (others : List Sub) → are_fit (map (judged_sub names program) (first ∷ others)) ≡ true → 0 < levels →
        Spelled (inner.suffix count) n (in_parentheses (joined (map (sub_tokens program) (first ∷ others)))) Any (λ found. found ≡ (suffixes.Subs (first ∷ others), count))
    pub suffix : {n : ℕ} (count : ℕ) (from : Expr) (size : Option Expr) → (judged_window names program (made_window from size)).fit ≡ true → HasRoom alone levels count from size →
        Spelled (inner.suffix count) n (window_tokens program (made_window from size)) Any
        (λ found. (found.0 ≡ suffixes.Window (made_window from size)) × (alone ≡ false → found.1 ≡ count + (expr_terms from + size_terms size)))
    pub window : {n : ℕ} (count : ℕ) (from : Expr) (size : Option Expr) → (judged_window names program (made_window from size)).fit ≡ true → HasRoom alone levels count from size →
        Spelled (inner.window count) n (window_tokens program (made_window from size)) Any
        (λ found. (found.0 ≡ made_window from size) × (alone ≡ false → found.1 ≡ count + (expr_terms from + size_terms size)))

  pub record FitPlace (item : ℕ) (of : List (List ℕ)) (subs : List Sub) (window : Option Window) : Type 0 where
    pub word : is_data_word (item_name program item) ≡ true
    pub of_words : are_data_words of ≡ true
    pub suit : suits item (length subs) (is_some window) (reference names program item of) ≡ true
    pub subs_fit : are_fit (map (judged_sub names program) subs) ≡ true
    pub window_fit : if_fit (judged_windows names program window) ≡ true

  map-length : {A B : Type 0} (f : A → B) (list : List A) → length (map f list) ≡ length list
  map-length f [] = refl
  map-length f (x ∷ list) = let e = map-length f list in omega (arith, e)

  same-some : (window : Option Window) → is_some (judged_windows names program window) ≡ is_some window
  same-some None = refl
  same-some (Some window) = refl

  pub fit-place : (item : ℕ) (of : List (List ℕ)) (subs : List Sub) (window : Option Window) → IsPrintablePlace names program (made_place item of subs window) → FitPlace item of subs window
  fit-place item of subs window fit =
      let list = map (judged_sub names program) subs in
      let seen = judged_windows names program window in
      let all = subst (λ j. j.fit ≡ true) (judged-place names program item of subs window) fit in
      let halves = and_parts (is_data_word (item_name program item) && are_data_words of)
      (suits item (length list) (is_some seen) (reference names program item of) && (are_fit list && if_fit seen)) all in
      let front = and_parts (is_data_word (item_name program item)) (are_data_words of) halves.0 in
      let back = and_parts (suits item (length list) (is_some seen) (reference names program item of)) (are_fit list && if_fit seen) halves.1 in
      let ends = and_parts (are_fit list) (if_fit seen) back.1 in
      record {
        word = front.0;
        of_words = front.1;
        suit = subst (λ c. suits item c (is_some window) (reference names program item of) ≡ true) (map-length (judged_sub names program) subs)
            (subst (λ b. suits item (length list) b (reference names program item of) ≡ true) (same-some window) back.0);
        subs_fit = ends.0;
        window_fit = ends.1;
      }

  pub place-first : (test : TokenKind → Bool) → ((word : List ℕ) → is_data_word word ≡ true → test (kinds.Word word) ≡ true) → (place : Place) → IsPrintablePlace names program place →
      (o : Option TokenKind) → begins_by test (first_of (place_tokens program place) o) ≡ true
  place-first test h place fit o =
      (place-cases (λ place. IsPrintablePlace names program place → begins_by test (first_of (place_tokens program place) o) ≡ true)
      (λ item of subs window f. ap (λ list. begins_by test (first_of list o)) (tokens-place program item of subs window) ∙ h (item_name program item) (fit-place item of subs window f).word) place) fit

  module _ {inner : Inner} {alone : Bool} {levels : ℕ} (I : InnerSpells inner alone levels) where
    -- ---- behind the words of a reference

    record IsBehind (count : ℕ) (subs : List Sub) (window : Option Window) (found : RefSuffixes) : Type 0 where
      pub subs_are : found.subs ≡ subs
      pub window_is : found.window ≡ window
      pub counted : alone ≡ false → found.count ≡ count + window_count window

    abbrev NoParenthesis : Option TokenKind → Type 0
    NoParenthesis behind = Ends (part.is_mark left_parenthesis) behind

    open_window : (window : Window) (o : Option TokenKind) → begins_by (part.is_mark left_parenthesis) (first_of (window_tokens program window) o) ≡ true
    open_window window o =
        window-cases (λ window. begins_by (part.is_mark left_parenthesis) (first_of (window_tokens program window) o) ≡ true)
        (λ from size. ap (λ list. begins_by (part.is_mark left_parenthesis) (first_of list o)) (tokens-window program from size)) window

    window_behind : {n : ℕ} (count : ℕ) (from : Expr) (size : Option Expr) → (judged_window names program (made_window from size)).fit ≡ true → HasRoom alone levels count from size →
        Spelled (references.behind inner count) n (window_tokens program (made_window from size)) Any (IsBehind count [] (Some (made_window from size)))
    unfolding references.behind
    window_behind count from size fit room =
        there_next (part.is_mark left_parenthesis) _ (λ o b. open_window (made_window from size) o)
        (ending (I.suffix count from size fit room)
        (λ found h. at_same (λ suffix. references.more_behind inner suffix found.1) h.0
        (pure (record { subs_are = refl; window_is = refl; counted = λ a. h.1 a ∙ ap (λ m. count + m) (sym (terms-window from size)) }))))

    subs_behind : {n : ℕ} (count : ℕ) (first : Sub) (others : List Sub) → are_fit (map (judged_sub names program) (first ∷ others)) ≡ true → 0 < levels →
        Spelled (references.behind inner count) n (subs_tokens (map (sub_tokens program) (first ∷ others))) NoParenthesis (IsBehind count (first ∷ others) None)
    unfolding references.behind
    subs_behind count first others fit room =
        there_next (part.is_mark left_parenthesis) _ (λ o b. refl)
        (ending (where_behind (λ o b. tt) (I.subs count first others fit room))
        (λ found h. at_same (λ suffix. references.more_behind inner suffix.0 suffix.1) h
        (other_next (part.is_mark left_parenthesis) _ (λ o b. b)
        (pure (record { subs_are = refl; window_is = refl; counted = λ a. omega arith })))))

    both_behind : {n : ℕ} (count : ℕ) (first : Sub) (others : List Sub) (from : Expr) (size : Option Expr) → are_fit (map (judged_sub names program) (first ∷ others)) ≡ true → 0 < levels →
        (judged_window names program (made_window from size)).fit ≡ true → HasRoom alone levels count from size →
        Spelled (references.behind inner count) n (subs_tokens (map (sub_tokens program) (first ∷ others)) ++ window_tokens program (made_window from size)) Any
        (IsBehind count (first ∷ others) (Some (made_window from size)))
    unfolding references.behind
    both_behind count first others from size fits some fit room =
        there_next (part.is_mark left_parenthesis) _ (λ o b. refl)
        ((then) (I.subs count first others fits some)
        (λ found h. at_same (λ suffix. references.more_behind inner suffix.0 suffix.1) h
        (there_next (part.is_mark left_parenthesis) _ (λ o b. open_window (made_window from size) o)
        (ending (I.window count from size fit room)
        (λ w k. pure (record { subs_are = refl; window_is = ap (λ x. Some x) k.0; counted = λ a. k.1 a ∙ ap (λ m. count + m) (sym (terms-window from size)) }))))))

    none_behind : {n : ℕ} (count : ℕ) → Spelled (references.behind inner count) n [] NoParenthesis (IsBehind count [] None)
    unfolding references.behind
    none_behind count =
        other_next (part.is_mark left_parenthesis) _ (λ o b. b) (pure (record { subs_are = refl; window_is = refl; counted = λ a. omega arith }))

    window-of : (P : Option Window → Type 0) → P None → ((from : Expr) (size : Option Expr) → P (Some (made_window from size))) → (window : Option Window) → P window
    window-of P none some None = none
    window-of P none some (Some window) = window-cases (λ w. P (Some w)) some window

    tail_behind : {n : ℕ} (count : ℕ) (subs : List Sub) (window : Option Window) → are_fit (map (judged_sub names program) subs) ≡ true → if_fit (judged_windows names program window) ≡ true →
        0 < levels → WindowHasRoom alone levels count window →
        Spelled (references.behind inner count) n (subs_tokens (map (sub_tokens program) subs) ++ windows_tokens program window) NoParenthesis (IsBehind count subs window)
    tail_behind {n = n} count [] window fits fit some room =
        (window-of (λ window. if_fit (judged_windows names program window) ≡ true → WindowHasRoom alone levels count window →
        Spelled (references.behind inner count) n (windows_tokens program window) NoParenthesis (IsBehind count [] window))
        (λ f r. none_behind count) (λ from size f r. where_behind (λ o b. tt) (window_behind count from size f (r from size refl))) window) fit room
    tail_behind {n = n} count (first ∷ others) window fits fit some room =
        (window-of (λ window. if_fit (judged_windows names program window) ≡ true → WindowHasRoom alone levels count window →
        Spelled (references.behind inner count) n (subs_tokens (map (sub_tokens program) (first ∷ others)) ++ windows_tokens program window) NoParenthesis (IsBehind count (first ∷ others) window))
        (λ f r. by_tokens (append-nil (subs_tokens (map (sub_tokens program) (first ∷ others)))) (subs_behind count first others fits some))
        (λ from size f r. where_behind (λ o b. tt) (both_behind count first others from size fits some f (r from size refl))) window) fit room

    -- ---- references

    -- the item that was found, with what stands behind its name
    pub side-is : (item : ℕ) (of : List (List ℕ)) (subs : List Sub) (window : Option Window) (position : Position) → suits item (length subs) (is_some window) (reference names program item of) ≡ true →
        IsOperandSide names program (operands.Place (made_place item of subs window)) (ref_side (reference names program item of) of subs window position)
    unfolding ref_side
    side-is item of subs window position e = record {
      what = ap (λ i. whats.Ref (made_place i of subs window)) (item-is item (length subs) (is_some window) (reference names program item of) e);
      known = record {
        kind = seen window ∙ sym (ap (λ j. j.kind) judged);
        make = sym (ap (λ j. j.make) judged);
      };
    }
      where
        judged : judged_operand names program (operands.Place (made_place item of subs window))
            ≡ judging.place_step names program (record { item = item; of = of; subs = map (judged_sub names program) subs; window = judged_windows names program window })
        judged = judged-Place names program (made_place item of subs window) ∙ judged-place names program item of subs window

        seen : (window : Option Window) → kind_within window (kind_of (reference names program item of)) ≡ kind_seen (judged_windows names program window) (kind_of (reference names program item of))
        seen None = refl
        seen (Some window) = refl

    pub record IsReference (count : ℕ) (item : ℕ) (of : List (List ℕ)) (subs : List Sub) (window : Option Window) (found : Side × ℕ) : Type 0 where
      pub side : IsOperandSide names program (operands.Place (made_place item of subs window)) found.0
      pub counted : alone ≡ false → found.1 ≡ count + window_count window

    pub ref_behind : {m : ℕ} (count item : ℕ) (of : List (List ℕ)) (subs : List Sub) (window : Option Window) (position : Position) →
        suits item (length subs) (is_some window) (reference names program item of) ≡ true → are_fit (map (judged_sub names program) subs) ≡ true →
        if_fit (judged_windows names program window) ≡ true → 0 < levels → WindowHasRoom alone levels count window →
        Spelled (references.ref_behind inner (reference names program item of) of position count) m (subs_tokens (map (sub_tokens program) subs) ++ windows_tokens program window) NoParenthesis
        (IsReference count item of subs window)
    unfolding references.ref_behind
    ref_behind count item of subs window position e fits fit some room =
        ending (tail_behind count subs window fits fit some room)
        (λ tail h. behind_none
        (note (subst (λ s. found_fault (reference names program item of) (length s) (is_some tail.window) position ≡ None) (sym h.subs_are)
        (subst (λ w. found_fault (reference names program item of) (length subs) (is_some w) position ≡ None) (sym h.window_is)
        (no-fault item (length subs) (is_some window) (reference names program item of) position e))))
        (λ _ _. pure (record {
          side = subst (λ s. IsOperandSide names program (operands.Place (made_place item of subs window)) (ref_side (reference names program item of) of s tail.window position)) (sym h.subs_are)
              (subst (λ w. IsOperandSide names program (operands.Place (made_place item of subs window)) (ref_side (reference names program item of) of subs w position)) (sym h.window_is)
              (side-is item of subs window position e));
          counted = h.counted;
        })))

    made_reference : {n : ℕ} (count item : ℕ) (of : List (List ℕ)) (subs : List Sub) (window : Option Window) → IsPrintablePlace names program (made_place item of subs window) →
        0 < levels → WindowHasRoom alone levels count window →
        Spelled (references.reference names inner count) n (place_tokens program (made_place item of subs window)) (Ends continues_place) (IsReference count item of subs window)
    made_reference count item of subs window fit some room =
        let F = fit-place item of subs window fit in
        by_tokens (tokens-place program item of subs window)
        (reference_words names inner count (item_name program item) of F.word F.of_words
        (λ o b. first-tail program is_of (mark-no-of left_parenthesis) subs window o (place-ends o b).0)
        (λ position m. where_behind (λ o b. (place-ends o b).1) (ref_behind count item of subs window position F.suit F.subs_fit F.window_fit some room)))

    -- a reference and how many terms there are up to its end
    pub record IsPlaceFound (count : ℕ) (place : Place) (found : Side × ℕ) : Type 0 where
      pub side : IsOperandSide names program (operands.Place place) found.0
      pub counted : alone ≡ false → found.1 ≡ count + operand_terms (operands.Place place)

    pub reference_spelled : {n : ℕ} (count : ℕ) (place : Place) → IsPrintablePlace names program place → 0 < levels → PlaceHasRoom alone levels count place →
        Spelled (references.reference names inner count) n (place_tokens program place) (Ends continues_place) (IsPlaceFound count place)
    reference_spelled {n = n} count place =
        place-cases (λ place. IsPrintablePlace names program place → 0 < levels → PlaceHasRoom alone levels count place →
        Spelled (references.reference names inner count) n (place_tokens program place) (Ends continues_place) (IsPlaceFound count place))
        (λ item of subs window fit some room.
        hence (λ found h. record {
          side = h.side;
          counted = λ a. h.counted a ∙ ap (λ m. count + m) (sym (terms-Place (made_place item of subs window) ∙ terms-place item of subs window));
        })
        (made_reference count item of subs window fit some (room item of subs window refl))) place

    -- ---- operands

    pub record IsOperandFound (count : ℕ) (operand : Operand) (found : Side × ℕ) : Type 0 where
      pub side : IsOperandSide names program operand found.0
      pub counted : alone ≡ false → found.1 ≡ count + (1 + operand_terms operand)

    -- a literal that stands for itself
    literal_operand : {n : ℕ} {kind : TokenKind} (count : ℕ) (operand : Operand) →
        ((m : ℕ) → Spelled constants.literal m (kind ∷ []) Any (IsLiteral operand)) → begins_operand kind ≡ true → is_name kind ≡ false → count + 1 ≤ 500 → operand_terms operand ≡ 0 →
        what_of operand ≡ whats.Literal operand → judged_operand names program operand ≡ judging.literal (literal_kind operand) →
        Spelled (operand_forms.operand names inner count) n (kind ∷ []) Any (IsOperandFound count operand)
    unfolding operand_forms.operand operand_forms.literal_operand literal_side
    literal_operand count operand L begun other few none what judged =
        there_next begins_operand _ (λ o b. begun)
        (behind_none (tally count 1 few)
        (λ more e. other_next is_name _ (λ o b. other)
        (ending (L _)
        (λ found h. pure (record {
          side = record {
            what = ap (λ x. whats.Literal x) h ∙ sym what;
            known = record { kind = ap (λ x. literal_kind x) h ∙ sym (ap (λ j. j.kind) judged); make = sym (ap (λ j. j.make) judged) };
          };
          counted = λ a. e ∙ ap (λ m. count + m) (omega (arith, none));
        })))))

    -- a reference as an operand
    place_operand : {n : ℕ} (count : ℕ) (place : Place) → IsPrintablePlace names program place → 0 < levels → count + 1 ≤ 500 → PlaceHasRoom alone levels (count + 1) place →
        Spelled (operand_forms.operand names inner count) n (place_tokens program place) (Ends continues_place) (IsOperandFound count (operands.Place place))
    unfolding operand_forms.operand
    place_operand count place fit some few room =
        there_next begins_operand _ (λ o b. place-first begins_operand name-operand place fit o)
        (behind_none (tally count 1 few)
        (λ more e. there_next is_name _ (λ o b. place-first is_name (λ word w. w) place fit o)
        (at_same (λ m. references.reference names inner m) e
        (hence (λ found h. record { side = h.side; counted = λ a. let k = h.counted a in omega (arith, k) })
        (reference_spelled (count + 1) place fit some room)))))

    number-begins : (number : Number) (plain : Bool) → begins_operand (if plain then kinds.Digits number.digits else kinds.Decimal number) ≡ true
    number-begins number true = digits-operand number.digits
    number-begins number false = decimal-operand number

    number-no-name : (number : Number) (plain : Bool) → is_name (if plain then kinds.Digits number.digits else kinds.Decimal number) ≡ false
    number-no-name number true = refl
    number-no-name number false = refl

    pub operand_spelled : {n : ℕ} (count : ℕ) (operand : Operand) → IsPrintableOperand names program operand → 0 < levels → count + 1 ≤ 500 → OperandHasRoom alone levels (count + 1) operand →
        Spelled (operand_forms.operand names inner count) n (operand_tokens program operand) (Ends continues_place) (IsOperandFound count operand)
    operand_spelled {n = n} count operand =
        operand-cases (λ operand. IsPrintableOperand names program operand → 0 < levels → count + 1 ≤ 500 → OperandHasRoom alone levels (count + 1) operand →
        Spelled (operand_forms.operand names inner count) n (operand_tokens program operand) (Ends continues_place) (IsOperandFound count operand))
        (λ place fit some few room. by_tokens (tokens-Place program place)
        (place_operand count place (subst (λ j. j.fit ≡ true) (judged-Place names program place) fit) some few (room place refl)))
        (λ number fit some few room. by_tokens (tokens-Number program number) (where_behind (λ o b. tt)
        (literal_operand count (operands.Number number) (λ m. number_literal number) (number-begins number (not number.negative && number.scale == 0))
        (number-no-name number (not number.negative && number.scale == 0)) few (terms-Number number) refl (judged-Number names program number))))
        (λ text fit some few room. by_tokens (tokens-Text program text) (where_behind (λ o b. tt)
        (literal_operand count (operands.Text text) (λ m. text_literal text) (text-operand text) refl few (terms-Text text) refl (judged-Text names program text))))
        (λ figure fit some few room. by_tokens (tokens-Figure program figure) (where_behind (λ o b. tt)
        (literal_operand count (operands.Figure figure) (λ m. figure_literal figure) (figure-operand figure) (no-data-word (figure_word figure) (figure-listed figure)) few (terms-Figure figure) refl
        (judged-Figure names program figure)))) operand
