-- What spells subscripts.
use Rattle.std.proofs.Common.{◌≡◌, ℕ, Bool, true, false, not, ◌&&◌, ◌⊎◌, inl, inr, List, [], ◌∷◌, ◌++◌, map, length, Option, Some, None, refl, ap, sym, ◌∙◌, subst, arith, append_assoc, append-nil}
use Rattle.std.specs.Prelude.{codes, ◌==◌, if◌then◌else◌}
use Rattle.std.specs.Option.{is_some}
use Rattle.std.specs.Str.{bytes_eq}
use Rattle.std.proofs.lemmas.Bool.{and_parts, or_from, both_ways, not-true, eqb-true}
use Rattle.std.proofs.lemmas.Slice.Eq.{bytes_eq-Decides}
use Rattle.cob_base.specs.Bytes.{left_parenthesis, right_parenthesis, hyphen, plus_sign, colon}
use Rattle.cob_tree.specs.declared.number.Number.{Number}
use Rattle.cob_tree.specs.declared.place.Op.{Op}
use Rattle.cob_tree.specs.declared.place.Op.TheVariants as ops
use Rattle.cob_tree.specs.declared.place.Place.{Place}
use Rattle.cob_tree.specs.declared.place.Sub.{Sub}
use Rattle.cob_tree.specs.declared.place.Window.{Window}
use Rattle.cob_tree.specs.declared.program.Program.{Program}
use Rattle.cobol_lex.specs.declared.token.TokenKind.{TokenKind}
use Rattle.cobol_lex.specs.declared.token.TokenKind.TheVariants as kinds
use Rattle.parser_combinators.specs.declared.note.Position.{Position}
use Rattle.parser_combinators.specs.Form as form
use Rattle.parser_combinators.specs.Form.{begins_by, ◌>>=◌, ◌>>◌}
use Rattle.parser_combinators.specs.Part as part
use Rattle.unparser.specs.Token.{Tokens, joined, in_parentheses}
use Rattle.unparser.specs.Place.{item_name, of_tokens, plus_tokens, place_tokens, sub_tokens}
use Rattle.parser_combinators.specs.words.Word.{is_data_word}
use Rattle.parser_combinators.specs.words.Constant as constants
use Rattle.symbol_tables.specs.data_names.Names.{Names}
use Rattle.symbol_tables.specs.data_names.Look.{look}
use Rattle.symbol_tables.specs.declared.data_names.name.Referent.{Referent}
use Rattle.cobol_grammar.specs.declared.expr_forms.front.FirstInParens.{FirstInParens}
use Rattle.cobol_grammar.specs.declared.expr_forms.front.FirstInParens.TheVariants as fronts
use Rattle.cobol_grammar.specs.declared.expr_forms.reference.Suffix.TheVariants as suffixes
use Rattle.cobol_grammar.specs.declared.expr_forms.side.ValueKind.{ValueKind}
use Rattle.cobol_grammar.specs.declared.expr_forms.side.ValueKind.TheVariants as values
use Rattle.cobol_grammar.specs.expr_forms.Either.{ref_either, with_number, subs_of, number_sub, item_sub}
use Rattle.cobol_grammar.specs.expr_forms.Fault.{found_fault, number_fault, whole_fault_at, kind_of}
use Rattle.cobol_grammar.specs.expr_forms.Front as front_forms
use Rattle.cobol_grammar.specs.expr_forms.Limit.{Inner}
use Rattle.cobol_grammar.specs.expr_forms.Reference as references
use Rattle.cobol_grammar.specs.expr_forms.Side.{place_of, ref_side, number_of}
use Rattle.cobol_grammar.specs.expr_forms.Subscript as subscripts
use Rattle.cobol_grammar.specs.expr_forms.Subscript.{begins_sub}
use Rattle.cobol_grammar.specs.expr_forms.Token.{is_of, begins_turn}
use Rattle.round_trip.specs.spelled_forms.Spelling.{first_of, Any, Spelled}
use Rattle.round_trip.proofs.spelled_forms_lemmas.Makers.{pure, note, hence, where_behind, bind, then, ending, behind_none, behind_first, there_next, other_next, no_turn, turn, last_turn}
use Rattle.round_trip.proofs.spelled_forms_lemmas.Tokens.{sign, valued, name}
use Rattle.round_trip.specs.spelling.expr_spelling.Printable.{reference, is_number, is_counting, judged_place, judged_sub, are_fit}
use Rattle.round_trip.specs.spelling.expr_spelling.Spelled.{Ends, continues_place, made_place}
use Rattle.round_trip.proofs.spelling_lemmas.expr_spelling_lemmas.Layers.{place-cases, sub-cases, made_sub, tokens-place, tokens-sub-number, tokens-sub-item, judged-place, judged-sub, judged_windows}
use Rattle.round_trip.proofs.spelling_lemmas.expr_spelling_lemmas.Tests.{no-of, mark-no-of, op-ends, op-turn, turn-no-word, turn-no-digits, turn-no-close}
use Rattle.round_trip.proofs.spelling_lemmas.expr_spelling_lemmas.Places.{by_tokens, at_same, whole-is, qualifiers, no-fault, item-is, FitPlace, fit-place, InnerSpells}
use Rattle.round_trip.proofs.spelling_lemmas.expr_spelling_lemmas.Exprs.{number-none, whole-none}
use Rattle.round_trip.proofs.spelling_lemmas.expr_spelling_lemmas.Fronts.{digits_first, bare_first}

-- ---- what stands behind a subscript: another one, or the closing parenthesis

abbrev StartsSub : TokenKind → Type 0
StartsSub (kinds.Digits digits) = Unit {0}
StartsSub (kinds.Word word) = is_data_word word ≡ true
StartsSub (kinds.Mark byte) = byte ≡ right_parenthesis
StartsSub _ = ⊥

abbrev BehindSub : Option TokenKind → Type 0
BehindSub None = ⊥
BehindSub (Some kind) = StartsSub kind

sub-no-turn : (o : Option TokenKind) → BehindSub o → Ends begins_turn o
sub-no-turn None h = absurd h
sub-no-turn (Some (kinds.Digits digits)) h = turn-no-digits digits
sub-no-turn (Some (kinds.Word word)) h = turn-no-word word
sub-no-turn (Some (kinds.Mark byte)) h = ap (λ b. begins_turn (kinds.Mark b)) h ∙ turn-no-close
sub-no-turn (Some kind) h = absurd h

sub-no-mark : (byte : ℕ) → (byte == right_parenthesis) ≡ false → (o : Option TokenKind) → BehindSub o → Ends (part.is_mark byte) o
sub-no-mark byte other None h = refl
sub-no-mark byte other (Some (kinds.Digits digits)) h = refl
sub-no-mark byte other (Some (kinds.Word word)) h = refl
sub-no-mark byte other (Some (kinds.Mark b)) h = ap (λ b. byte == b) h ∙ other
sub-no-mark byte other (Some kind) h = absurd h

digits-no-of : (digits : List ℕ) → is_of (kinds.Digits digits) ≡ false
unfolding is_of
digits-no-of digits = refl

sub-no-of : (o : Option TokenKind) → BehindSub o → Ends is_of o
sub-no-of None h = refl
sub-no-of (Some (kinds.Digits digits)) h = digits-no-of digits
sub-no-of (Some (kinds.Word word)) h = no-of word h
sub-no-of (Some (kinds.Mark b)) h = mark-no-of b
sub-no-of (Some kind) h = absurd h

sub-ends : (o : Option TokenKind) → BehindSub o → Ends continues_place o
unfolding continues_place
sub-ends None h = refl
sub-ends (Some kind) h = or_from (is_of kind) (part.is_mark left_parenthesis kind) (sub-no-of (Some kind) h) (sub-no-mark left_parenthesis refl (Some kind) h)

-- what a number that is added is, by its sign
zero-digits : (digits : List ℕ) → bytes_eq digits (codes "0") ≡ true → digits ≡ codes "0"
zero-digits digits e = (bytes_eq-Decides digits (codes "0")).0 e

signed-is : (number : Number) (negative : Bool) (digits : List ℕ) → number.negative ≡ negative → number.digits ≡ digits → number.scale ≡ 0 → number_of negative digits ≡ number
signed-is number negative digits n d s =
    ap (λ v. record { negative = v; digits = digits; scale = 0 }) (sym n) ∙ ap (λ v. record { negative = number.negative; digits = v; scale = 0 }) (sym d)
    ∙ ap (λ v. record { negative = number.negative; digits = number.digits; scale = v }) (sym s)

module _ (names : Names) (program : Program) where
  -- ---- which subscripts are fit

  record FitBase (item : ℕ) (of : List (List ℕ)) (subs : List Sub) (window : Option Window) : Type 0 where
    pub fits : FitPlace names program item of [] None
    pub same : made_place item of subs window ≡ made_place item of [] None
    pub counting : is_counting (kind_of (reference names program item of)) ≡ true

  none-of : {A B : Type 0} (f : A → B) (list : List A) → (length (map f list) == 0) ≡ true → list ≡ []
  none-of f [] e = refl
  none-of f (x ∷ list) e = absurd (no (eqb-true (length (f x ∷ map f list)) 0 e))
    where
      no : length (f x ∷ map f list) ≡ 0 → ⊥
      no e = omega (arith, e)

  no-window : (window : Option Window) → not (is_some (judged_windows names program window)) ≡ true → window ≡ None
  no-window None e = refl
  no-window (Some window) e = absurd (both_ways false refl e)

  fit-base : (item : ℕ) (of : List (List ℕ)) (subs : List Sub) (window : Option Window) → (judged_place names program (made_place item of subs window)).fit ≡ true →
      (judged_place names program (made_place item of subs window)).bare ≡ true → is_counting (judged_place names program (made_place item of subs window)).kind ≡ true → FitBase item of subs window
  fit-base item of subs window fit bare counting =
      let list = map (judged_sub names program) subs in
      let seen = judged_windows names program window in
      let j = judged-place names program item of subs window in
      let both = and_parts (length list == 0) (not (is_some seen)) (subst (λ j. j.bare ≡ true) j bare) in
      let s : subs ≡ [] = none-of (judged_sub names program) subs both.0 in
      let w : window ≡ None = no-window window both.1 in
      let same : made_place item of subs window ≡ made_place item of [] None = ap (λ x. made_place item of x window) s ∙ ap (λ x. made_place item of [] x) w in
      record {
        fits = fit-place names program item of [] None (subst (λ p. (judged_place names program p).fit ≡ true) same fit);
        same = same;
        counting = subst (λ j. is_counting j.kind ≡ true) (judged-place names program item of [] None) (subst (λ p. is_counting (judged_place names program p).kind ≡ true) same counting);
      }

  -- a subscript that is fit: a number alone, or an item's value and a number
  abbrev SubView : Sub → Type 0
  SubView sub =
      ((plus : Number) × (sub ≡ made_sub None plus) × (plus.negative ≡ false) × (plus.scale ≡ 0))
      ⊎ ((item : ℕ) × (of : List (List ℕ)) × (plus : Number) × (sub ≡ made_sub (Some (made_place item of [] None)) plus) × (plus.scale ≡ 0)
      × FitPlace names program item of [] None × (is_counting (kind_of (reference names program item of)) ≡ true))

  item-view : (base : Place) (plus : Number) → (judged_sub names program (made_sub (Some base) plus)).fit ≡ true → SubView (made_sub (Some base) plus)
  item-view base plus =
      place-cases (λ base. (judged_sub names program (made_sub (Some base) plus)).fit ≡ true → SubView (made_sub (Some base) plus))
      (λ item of subs window fit.
      let j = judged_place names program (made_place item of subs window) in
      let all = and_parts (plus.scale == 0) (j.fit && (j.bare && is_counting j.kind)) (subst (λ j. j.fit ≡ true) (judged-sub names program (Some (made_place item of subs window)) plus) fit) in
      let back = and_parts j.fit (j.bare && is_counting j.kind) all.1 in
      let ends = and_parts j.bare (is_counting j.kind) back.1 in
      let is = fit-base item of subs window back.0 ends.0 ends.1 in
      inr (item, of, plus, ap (λ p. made_sub (Some p) plus) is.same, eqb-true plus.scale 0 all.0, is.fits, is.counting)) base

  sub-view : (sub : Sub) → (judged_sub names program sub).fit ≡ true → SubView sub
  sub-view sub = sub-cases (λ sub. (judged_sub names program sub).fit ≡ true → SubView sub) by sub
    where
      by : (base : Option Place) (plus : Number) → (judged_sub names program (made_sub base plus)).fit ≡ true → SubView (made_sub base plus)
      by None plus fit =
          let all = and_parts (plus.scale == 0) (not plus.negative) (subst (λ j. j.fit ≡ true) (judged-sub names program None plus) fit) in
          inl (plus, refl, not-true plus.negative all.1, eqb-true plus.scale 0 all.0)
      by (Some base) plus fit = item-view base plus fit

  bare-tokens : (item : ℕ) (of : List (List ℕ)) → place_tokens program (made_place item of [] None) ≡ kinds.Word (item_name program item) ∷ of_tokens of
  bare-tokens item of = tokens-place program item of [] None ∙ ap (λ list. kinds.Word (item_name program item) ∷ list) (append-nil (of_tokens of))

  item-tokens : (item : ℕ) (of : List (List ℕ)) (plus : Number) →
      sub_tokens program (made_sub (Some (made_place item of [] None)) plus) ≡ kinds.Word (item_name program item) ∷ (of_tokens of ++ plus_tokens plus)
  item-tokens item of plus = tokens-sub-item program (made_place item of [] None) plus ∙ ap (λ list. list ++ plus_tokens plus) (bare-tokens item of)

  -- the item of a subscript, as it is found
  base-is : (item : ℕ) (of : List (List ℕ)) → FitPlace names program item of [] None → place_of (reference names program item of) of [] None ≡ made_place item of [] None
  base-is item of F = ap (λ i. made_place i of [] None) (item-is item 0 false (reference names program item of) F.suit)

  sub-is : (item : ℕ) (of : List (List ℕ)) (plus : Number) (negative : Bool) (digits : List ℕ) → FitPlace names program item of [] None → plus.scale ≡ 0 → plus.negative ≡ negative → plus.digits ≡ digits →
      item_sub (place_of (reference names program item of) of [] None) negative digits ≡ made_sub (Some (made_place item of [] None)) plus
  sub-is item of plus negative digits F s n d = ap (λ p. item_sub p negative digits) (base-is item of F) ∙ ap (λ number. made_sub (Some (made_place item of [] None)) number) (signed-is plus negative digits n d s)

  -- ---- how a number is added

  -- not at all, behind +, or behind -
  abbrev PlusView : Number → Type 0
  PlusView plus =
      ((plus_tokens plus ≡ []) × (plus.negative ≡ false) × (plus.digits ≡ codes "0"))
      ⊎ (((plus_tokens plus ≡ kinds.Mark plus_sign ∷ kinds.Digits plus.digits ∷ []) × (plus.negative ≡ false))
      ⊎ ((plus_tokens plus ≡ kinds.Mark hyphen ∷ kinds.Digits plus.digits ∷ []) × (plus.negative ≡ true)))

  plus-view : (plus : Number) → PlusView plus
  plus-view plus = by plus.negative (bytes_eq plus.digits (codes "0")) refl refl
    where
      by : (n z : Bool) → plus.negative ≡ n → bytes_eq plus.digits (codes "0") ≡ z → PlusView plus
      by true z n e =
          inr (inr (ap (λ b. if b then kinds.Mark hyphen ∷ kinds.Digits plus.digits ∷ [] else if bytes_eq plus.digits (codes "0") then [] else kinds.Mark plus_sign ∷ kinds.Digits plus.digits ∷ []) n, n))
      by false true n e =
          inl (
            ap (λ b. if b then kinds.Mark hyphen ∷ kinds.Digits plus.digits ∷ [] else if bytes_eq plus.digits (codes "0") then [] else kinds.Mark plus_sign ∷ kinds.Digits plus.digits ∷ []) n
                ∙ ap (λ b. if b then [] else kinds.Mark plus_sign ∷ kinds.Digits plus.digits ∷ []) e,
            n,
            zero-digits plus.digits e,
          )
      by false false n e =
          inr (inl (
            ap (λ b. if b then kinds.Mark hyphen ∷ kinds.Digits plus.digits ∷ [] else if bytes_eq plus.digits (codes "0") then [] else kinds.Mark plus_sign ∷ kinds.Digits plus.digits ∷ []) n
                ∙ ap (λ b. if b then [] else kinds.Mark plus_sign ∷ kinds.Digits plus.digits ∷ []) e,
            n,
          ))

  counting-number : (kind : ValueKind) → is_counting kind ≡ true → is_number kind ≡ true
  counting-number (values.Number whole) e = refl
  counting-number kind e = absurd (both_ways false refl e)

  -- ---- the first one, which may turn out to be an expression

  abbrev IsSubFront : Sub → FirstInParens → Type 0
  IsSubFront sub (fronts.Sum chain more) = ⊥
  IsSubFront sub (fronts.Either e) = (e.fault ≡ None) × (subs_of e ≡ sub ∷ [])

  ref-free : (item : ℕ) (of : List (List ℕ)) (position : Position) → is_counting (kind_of (reference names program item of)) ≡ true →
      number_fault (ref_side (reference names program item of) of [] None position) ≡ None
  unfolding number_fault ref_side
  ref-free item of position c = number-none position (kind_of (reference names program item of)) (counting-number (kind_of (reference names program item of)) c)

  module _ {inner : Inner} {levels : ℕ} (I : InnerSpells names program inner false levels) where
    -- a number behind its sign
    signed_front : {n : ℕ} (op : Op) (negative : Bool) (item : ℕ) (of : List (List ℕ)) (plus : Number) (position : Position) → FitPlace names program item of [] None →
        is_counting (kind_of (reference names program item of)) ≡ true → plus.scale ≡ 0 → plus.negative ≡ negative →
        Spelled (front_forms.number_turn op negative (ref_either (reference names program item of) of position)) n (kinds.Digits plus.digits ∷ []) Any
        (IsSubFront (made_sub (Some (made_place item of [] None)) plus))
    unfolding front_forms.number_turn with_number subs_of
    signed_front op negative item of plus position F c s n =
        ending (valued part.digits_of plus.digits refl)
        (λ found h. behind_none (note (ref-free item of position c))
        (λ _ _. pure (whole-none position (kind_of (reference names program item of)) c, ap (λ sub. sub ∷ []) (sub-is item of plus negative found.0 F s n (sym h.0)))))

    abbrev first_and_more : {A : Type 0} → (FirstInParens → form.Form A) → ℕ → form.Form A
    first_and_more more count = front_forms.first_front names inner count >>= (λ first. front_forms.front_turns names inner count first >>= more)

    module _ {A : Type 0} {Has : A → Type 0} {tail : List TokenKind} (begun : (o : Option TokenKind) → BehindSub (first_of tail o)) (more : FirstInParens → form.Form A) where
      number_sub_first : {n : ℕ} (count : ℕ) (plus : Number) → plus.negative ≡ false → plus.scale ≡ 0 →
          ((m : ℕ) (front : FirstInParens) → IsSubFront (made_sub None plus) front → Spelled (more front) m tail Any Has) →
          Spelled (first_and_more more count) n (kinds.Digits plus.digits ∷ tail) Any Has
      unfolding subs_of
      number_sub_first count plus negative scale G =
          bind (digits_first names program inner count plus.digits) (λ o b. tt)
          (λ first h. behind_first (no_turn begins_turn (front_forms.front_turn names inner count) (λ o b. sub-no-turn o b)
          (subst (λ front. IsSubFront (made_sub None plus) front) (sym h.1) (refl, ap (λ number. made_sub None number ∷ []) (whole-is plus negative scale)))) (λ o b. begun o) (λ front k. G _ front k))

      item_sub_first : {n : ℕ} (count item : ℕ) (of : List (List ℕ)) (plus : Number) → FitPlace names program item of [] None → is_counting (kind_of (reference names program item of)) ≡ true → plus.scale ≡ 0 →
          PlusView plus → ((m : ℕ) (front : FirstInParens) → IsSubFront (made_sub (Some (made_place item of [] None)) plus) front → Spelled (more front) m tail Any Has) →
          Spelled (first_and_more more count) n ((kinds.Word (item_name program item) ∷ of_tokens of) ++ (plus_tokens plus ++ tail)) Any Has
      unfolding subs_of front_forms.front_turn front_forms.plus_turn front_forms.minus_turn front_forms.minus_behind front_forms.number_or_decided
      item_sub_first count item of plus F c s (inl (none, positive, zero)) G =
          by_tokens (ap (λ list. (kinds.Word (item_name program item) ∷ of_tokens of) ++ (list ++ tail)) none)
          (bind (bare_first names program I count item of F) (λ o b. sub-ends (first_of tail o) (begun o))
          (λ first h. behind_first (no_turn begins_turn (front_forms.front_turn names inner count) (λ o b. sub-no-turn o b)
          (subst (λ front. IsSubFront (made_sub (Some (made_place item of [] None)) plus) front) (sym h.1)
          (whole-none h.0 (kind_of (reference names program item of)) c, ap (λ sub. sub ∷ []) (sub-is item of plus false (codes "0") F s positive zero)))) (λ o b. begun o) (λ front k. G _ front k)))
      item_sub_first count item of plus F c s (inr (inl (one, positive))) G =
          by_tokens (ap (λ list. (kinds.Word (item_name program item) ∷ of_tokens of) ++ (list ++ tail)) one)
          (bind (bare_first names program I count item of F) (λ o b. op-ends ops.Add)
          (λ first h. at_same (λ front. front_forms.front_turns names inner count front >>= more) h.1
          (bind {Mid = BehindSub} (last_turn begins_turn (front_forms.front_turn names inner count) (λ o. op-turn ops.Add)
          (there_next (part.is_mark plus_sign) _ (λ o b. refl)
          ((then) (sign (part.is_mark plus_sign) refl) (λ _ _. there_next constants.is_digits _ (λ o b. refl) (signed_front ops.Add false item of plus h.0 F c s positive))))
          (λ o b. tt) (λ o b. sub-no-turn o b)) (λ o b. begun o) (λ front k. G _ front k))))
      item_sub_first count item of plus F c s (inr (inr (one, negative))) G =
          by_tokens (ap (λ list. (kinds.Word (item_name program item) ∷ of_tokens of) ++ (list ++ tail)) one)
          (bind (bare_first names program I count item of F) (λ o b. op-ends ops.Sub)
          (λ first h. at_same (λ front. front_forms.front_turns names inner count front >>= more) h.1
          (bind {Mid = BehindSub} (last_turn begins_turn (front_forms.front_turn names inner count) (λ o. op-turn ops.Sub)
          (other_next (part.is_mark plus_sign) _ (λ o b. refl) (there_next (part.is_mark hyphen) _ (λ o b. refl)
          ((then) (sign (part.is_mark hyphen) refl) (λ _ _. there_next constants.is_digits _ (λ o b. refl) (signed_front ops.Sub true item of plus h.0 F c s negative)))))
          (λ o b. tt) (λ o b. sub-no-turn o b)) (λ o b. begun o) (λ front k. G _ front k))))

  -- ---- the others

  number_sub_spelled : {n : ℕ} (plus : Number) → plus.negative ≡ false → plus.scale ≡ 0 →
      Spelled (subscripts.sub names) n (kinds.Digits plus.digits ∷ []) Any (λ sub. sub ≡ made_sub None plus)
  unfolding subscripts.sub subscripts.number_sub_form
  number_sub_spelled plus negative scale =
      other_next (part.is_mark plus_sign) _ (λ o b. refl) (there_next constants.is_digits _ (λ o b. refl)
      (ending (valued part.digits_of plus.digits refl)
      (λ found h. pure (ap (λ d. number_sub d) h.0 ∙ ap (λ number. made_sub None number) (whole-is plus negative scale)))))

  plus_spelled : {n : ℕ} (place : Place) (plus : Number) → plus.scale ≡ 0 → PlusView plus →
      Spelled (subscripts.item_sub_behind place) n (plus_tokens plus) BehindSub (λ sub. sub ≡ made_sub (Some place) plus)
  unfolding subscripts.item_sub_behind subscripts.item_sub_by
  plus_spelled place plus s (inl (none, positive, zero)) =
      by_tokens none (other_next (part.is_mark plus_sign) _ (λ o b. sub-no-mark plus_sign refl o b) (other_next (part.is_mark hyphen) _ (λ o b. sub-no-mark hyphen refl o b)
      (pure (ap (λ number. made_sub (Some place) number) (signed-is plus false (codes "0") positive zero s)))))
  plus_spelled place plus s (inr (inl (one, positive))) =
      by_tokens one (there_next (part.is_mark plus_sign) _ (λ o b. refl)
      ((then) (sign (part.is_mark plus_sign) refl) (λ _ _. ending (where_behind (λ o b. tt) (valued part.digits_of plus.digits refl))
      (λ found h. pure (ap (λ number. made_sub (Some place) number) (signed-is plus false found.0 positive (sym h.0) s))))))
  plus_spelled place plus s (inr (inr (one, negative))) =
      by_tokens one (other_next (part.is_mark plus_sign) _ (λ o b. refl) (there_next (part.is_mark hyphen) _ (λ o b. refl)
      ((then) (sign (part.is_mark hyphen) refl) (λ _ _. ending (where_behind (λ o b. tt) (valued part.digits_of plus.digits refl))
      (λ found h. pure (ap (λ number. made_sub (Some place) number) (signed-is plus true found.0 negative (sym h.0) s)))))))

  plus-no-of : (plus : Number) → PlusView plus → (o : Option TokenKind) → BehindSub o → Ends is_of (first_of (plus_tokens plus) o)
  plus-no-of plus (inl (none, positive, zero)) o b = subst (λ list. Ends is_of (first_of list o)) (sym none) (sub-no-of o b)
  plus-no-of plus (inr (inl (one, positive))) o b = subst (λ list. Ends is_of (first_of list o)) (sym one) (mark-no-of plus_sign)
  plus-no-of plus (inr (inr (one, negative))) o b = subst (λ list. Ends is_of (first_of list o)) (sym one) (mark-no-of hyphen)

  -- behind the words of an item
  abbrev sub_rest : Referent → List (List ℕ) → Position → form.Form Sub
  sub_rest found of position =
      form.note (found_fault found 0 false position) >> (form.note (whole_fault_at position (kind_of found)) >> subscripts.item_sub_behind (place_of found of [] None))

  item_sub_spelled : {n : ℕ} (item : ℕ) (of : List (List ℕ)) (plus : Number) → FitPlace names program item of [] None → is_counting (kind_of (reference names program item of)) ≡ true → plus.scale ≡ 0 →
      Spelled (subscripts.sub names) n (kinds.Word (item_name program item) ∷ (of_tokens of ++ plus_tokens plus)) BehindSub (λ sub. sub ≡ made_sub (Some (made_place item of [] None)) plus)
  unfolding subscripts.sub subscripts.item_sub_form
  item_sub_spelled item of plus F c s =
      other_next (part.is_mark plus_sign) _ (λ o b. refl) (other_next constants.is_digits _ (λ o b. refl)
      ((then) (name (item_name program item) F.word)
      (λ first h. at_same (λ word. references.qualifiers >>= (λ of. sub_rest (look names word of) of first.1)) h.0
      (bind (qualifiers of F.of_words) (λ o b. plus-no-of plus (plus-view plus) o b)
      (λ list e. at_same (λ of. sub_rest (look names (item_name program item) of) of first.1) e
      (behind_none (note (no-fault item 0 false (reference names program item of) first.1 F.suit))
      (λ _ _. behind_none (note (whole-none first.1 (kind_of (reference names program item of)) c))
      (λ _ _. at_same (λ place. subscripts.item_sub_behind place) (base-is item of F) (plus_spelled (made_place item of [] None) plus s (plus-view plus))))))))))

  sub_spelled : {n : ℕ} (sub : Sub) → SubView sub → Spelled (subscripts.sub names) n (sub_tokens program sub) BehindSub (λ found. found ≡ sub)
  sub_spelled {n = n} sub (inl (plus, is, negative, scale)) =
      subst (λ sub. Spelled (subscripts.sub names) n (sub_tokens program sub) BehindSub (λ found. found ≡ sub)) (sym is)
      (by_tokens (tokens-sub-number program plus) (where_behind (λ o b. tt) (number_sub_spelled plus negative scale)))
  sub_spelled {n = n} sub (inr (item, of, plus, is, scale, F, c)) =
      subst (λ sub. Spelled (subscripts.sub names) n (sub_tokens program sub) BehindSub (λ found. found ≡ sub)) (sym is)
      (by_tokens (item-tokens item of plus) (item_sub_spelled item of plus F c scale))

  -- a subscript begins with digits or a word of the program
  first-sub : (P : Option TokenKind → Type 0) → ((digits : List ℕ) → P (Some (kinds.Digits digits))) → ((word : List ℕ) → is_data_word word ≡ true → P (Some (kinds.Word word))) →
      (sub : Sub) → SubView sub → (more : Tokens) (o : Option TokenKind) → P (first_of (sub_tokens program sub ++ more) o)
  first-sub P digits word sub (inl (plus, is, negative, scale)) more o =
      subst (λ sub. P (first_of (sub_tokens program sub ++ more) o)) (sym is) (subst (λ list. P (first_of (list ++ more) o)) (sym (tokens-sub-number program plus)) (digits plus.digits))
  first-sub P digits word sub (inr (item, of, plus, is, scale, F, c)) more o =
      subst (λ sub. P (first_of (sub_tokens program sub ++ more) o)) (sym is)
      (subst (λ list. P (first_of (list ++ more) o)) (sym (item-tokens item of plus)) (word (item_name program item) F.word))

  abbrev Closed : Option TokenKind → Type 0
  Closed behind = behind ≡ Some (kinds.Mark right_parenthesis)

  closed-sub : (o : Option TokenKind) → Closed o → BehindSub o
  closed-sub o e = subst BehindSub (sym e) refl

  begins-digits : (digits : List ℕ) → begins_sub (kinds.Digits digits) ≡ true
  begins-digits digits = refl

  subs-begin : (others : List Sub) → are_fit (map (judged_sub names program) others) ≡ true → (more : Tokens) → ((o : Option TokenKind) → BehindSub (first_of more o)) → (o : Option TokenKind) →
      BehindSub (first_of (joined (map (sub_tokens program) others) ++ more) o)
  subs-begin [] fit more h o = h o
  subs-begin (sub ∷ others) fit more h o =
      let both = and_parts (judged_sub names program sub).fit (are_fit (map (judged_sub names program) others)) fit in
      subst (λ list. BehindSub (first_of list o)) (sym (append_assoc (sub_tokens program sub) (joined (map (sub_tokens program) others)) more))
      (first-sub BehindSub (λ digits. tt) (λ word w. w) sub (sub-view sub both.0) (joined (map (sub_tokens program) others) ++ more) o)

  subs-begin-closed : (others : List Sub) → are_fit (map (judged_sub names program) others) ≡ true →
      BehindSub (first_of (joined (map (sub_tokens program) others) ++ []) (Some (kinds.Mark right_parenthesis)))
  subs-begin-closed [] fit = refl
  subs-begin-closed (sub ∷ others) fit =
      let both = and_parts (judged_sub names program sub).fit (are_fit (map (judged_sub names program) others)) fit in
      subst (λ list. BehindSub (first_of list (Some (kinds.Mark right_parenthesis)))) (sym (append_assoc (sub_tokens program sub) (joined (map (sub_tokens program) others)) []))
      (first-sub BehindSub (λ digits. tt) (λ word w. w) sub (sub-view sub both.0) (joined (map (sub_tokens program) others) ++ []) (Some (kinds.Mark right_parenthesis)))

  more_subs_spelled : (others front : List Sub) (n : ℕ) → are_fit (map (judged_sub names program) others) ≡ true →
      Spelled (subscripts.more_subs names front) n (joined (map (sub_tokens program) others)) Closed (λ list. list ≡ front ++ others)
  more_subs_spelled [] front n fit =
      no_turn begins_sub (form.added (subscripts.sub names)) (λ o b. ap (λ k. begins_by begins_sub k) b) (sym (append-nil front))
  more_subs_spelled (sub ∷ others) front n fit =
      let both = and_parts (judged_sub names program sub).fit (are_fit (map (judged_sub names program) others)) fit in
      let view = sub-view sub both.0 in
      turn begins_sub (form.added (subscripts.sub names)) {Mid = BehindSub}
      (λ o. subst (λ list. begins_by begins_sub (first_of list o) ≡ true) (append-nil (sub_tokens program sub))
      (first-sub (λ k. begins_by begins_sub k ≡ true) begins-digits (λ word w. w) sub view [] o))
      (ending (sub_spelled sub view) (λ x e. pure (ap (λ x. front ++ x ∷ []) e)))
      (λ o b. subst (λ list. BehindSub (first_of list o)) (append-nil (joined (map (sub_tokens program) others)))
      (subst (λ k. BehindSub (first_of (joined (map (sub_tokens program) others) ++ []) k)) (sym b) (subs-begin-closed others both.1)))
      (λ mid e. hence (λ list k. k ∙ ap (λ f. f ++ others) e ∙ append_assoc front (sub ∷ []) others) (more_subs_spelled others mid _ both.1))

  module _ {inner : Inner} {levels : ℕ} (I : InnerSpells names program inner false levels) where
    end_subs : {m : ℕ} (alone : Bool) (count : ℕ) (first : Sub) (others : List Sub) (front : FirstInParens) → are_fit (map (judged_sub names program) others) ≡ true → IsSubFront first front →
        Spelled (front_forms.front_end names inner alone count front) m (joined (map (sub_tokens program) others) ++ kinds.Mark right_parenthesis ∷ []) Any (λ found. found ≡ (suffixes.Subs (first ∷ others), count))
    unfolding front_forms.front_end front_forms.subs_suffix
    end_subs alone count first others (fronts.Sum chain more) fit h = absurd h
    end_subs alone count first others (fronts.Either e) fit h =
        other_next (part.is_mark colon) _ (λ o b. sub-no-mark colon refl (first_of (joined (map (sub_tokens program) others) ++ kinds.Mark right_parenthesis ∷ []) o) (subs-begin others fit (kinds.Mark right_parenthesis ∷ []) (λ o. refl) o))
        (behind_none (note h.0)
        (λ _ _. at_same (λ list. subscripts.more_subs names list >>= (λ subs. part.mark right_parenthesis >> form.pure (suffixes.Subs subs, count))) h.1
        (bind (more_subs_spelled others (first ∷ []) _ fit) (λ o b. refl)
        (λ list e. ending (sign (part.is_mark right_parenthesis) refl) (λ _ _. pure (ap (λ list. (suffixes.Subs list, count)) e))))))

    subs-tokens : (first : Sub) (others : List Sub) →
        in_parentheses (joined (map (sub_tokens program) (first ∷ others))) ≡ kinds.Mark left_parenthesis ∷ (sub_tokens program first ++ (joined (map (sub_tokens program) others) ++ kinds.Mark right_parenthesis ∷ []))
    subs-tokens first others =
        ap (λ list. kinds.Mark left_parenthesis ∷ list) (append_assoc (sub_tokens program first) (joined (map (sub_tokens program) others)) (kinds.Mark right_parenthesis ∷ []))

    first_sub : {n : ℕ} (alone : Bool) (count : ℕ) (first : Sub) (others : List Sub) → are_fit (map (judged_sub names program) others) ≡ true → SubView first →
        Spelled (front_forms.first_front names inner count >>= (λ front. front_forms.front_turns names inner count front >>= front_forms.front_end names inner alone count)) n
        (sub_tokens program first ++ (joined (map (sub_tokens program) others) ++ kinds.Mark right_parenthesis ∷ [])) Any (λ found. found ≡ (suffixes.Subs (first ∷ others), count))
    first_sub {n = n} alone count first others fit (inl (plus, is, negative, scale)) =
        subst (λ first. Spelled (front_forms.first_front names inner count >>= (λ front. front_forms.front_turns names inner count front >>= front_forms.front_end names inner alone count)) n
        (sub_tokens program first ++ (joined (map (sub_tokens program) others) ++ kinds.Mark right_parenthesis ∷ [])) Any (λ found. found ≡ (suffixes.Subs (first ∷ others), count))) (sym is)
        (by_tokens (ap (λ list. list ++ (joined (map (sub_tokens program) others) ++ kinds.Mark right_parenthesis ∷ [])) (tokens-sub-number program plus))
        (number_sub_first I (subs-begin others fit (kinds.Mark right_parenthesis ∷ []) (λ o. refl)) (front_forms.front_end names inner alone count) count plus negative scale
        (λ m front h. end_subs alone count (made_sub None plus) others front fit h)))
    first_sub {n = n} alone count first others fit (inr (item, of, plus, is, scale, F, c)) =
        subst (λ first. Spelled (front_forms.first_front names inner count >>= (λ front. front_forms.front_turns names inner count front >>= front_forms.front_end names inner alone count)) n
        (sub_tokens program first ++ (joined (map (sub_tokens program) others) ++ kinds.Mark right_parenthesis ∷ [])) Any (λ found. found ≡ (suffixes.Subs (first ∷ others), count))) (sym is)
        (by_tokens (ap (λ list. list ++ (joined (map (sub_tokens program) others) ++ kinds.Mark right_parenthesis ∷ [])) (item-tokens item of plus)
        ∙ append_assoc (kinds.Word (item_name program item) ∷ of_tokens of) (plus_tokens plus) (joined (map (sub_tokens program) others) ++ kinds.Mark right_parenthesis ∷ []))
        (item_sub_first I (subs-begin others fit (kinds.Mark right_parenthesis ∷ []) (λ o. refl)) (front_forms.front_end names inner alone count) count item of plus F c scale (plus-view plus)
        (λ m front h. end_subs alone count (made_sub (Some (made_place item of [] None)) plus) others front fit h)))

    pub subs_spelled : {n : ℕ} (alone : Bool) (count : ℕ) (first : Sub) (others : List Sub) → are_fit (map (judged_sub names program) (first ∷ others)) ≡ true →
        Spelled (front_forms.in_suffix names inner alone count) n (in_parentheses (joined (map (sub_tokens program) (first ∷ others)))) Any (λ found. found ≡ (suffixes.Subs (first ∷ others), count))
    unfolding front_forms.in_suffix
    subs_spelled alone count first others fit =
        let both = and_parts (judged_sub names program first).fit (are_fit (map (judged_sub names program) others)) fit in
        by_tokens (subs-tokens first others) ((then) (sign (part.is_mark left_parenthesis) refl) (λ _ _. first_sub alone count first others both.1 (sub-view first both.0)))
