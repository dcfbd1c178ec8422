-- What is made of sides of which all is known, is known too.
use Rattle.std.proofs.Common.{◌≡◌, ℕ, ◌+◌, Bool, true, false, not, ◌&&◌, List, [], ◌∷◌, ◌++◌, map, length, Option, Some, None, refl, ap, sym, ◌∙◌, subst, arith}
use Rattle.std.specs.Prelude.{◌==◌, if◌then◌else◌}
use Rattle.std.specs.Option.{is_some}
use Rattle.std.proofs.lemmas.Bool.{and_parts, both_ways, eq-eqb}
use Rattle.cob_tree.specs.declared.place.Expr.{Expr}
use Rattle.cob_tree.specs.declared.place.Expr.TheVariants as exprs
use Rattle.cob_tree.specs.declared.place.Op.{Op}
use Rattle.cob_tree.specs.declared.place.Op.TheVariants as ops
use Rattle.cob_tree.specs.declared.place.Operand.{Operand}
use Rattle.cob_tree.specs.declared.place.Operand.TheVariants as operands
use Rattle.cob_tree.specs.declared.place.Place.{Place}
use Rattle.cob_tree.specs.declared.place.Sub.{Sub}
use Rattle.cob_tree.specs.declared.place.Window.{Window}
use Rattle.cob_tree.specs.declared.program.Program.{Program}
use Rattle.parser_combinators.specs.declared.note.Position.{Position}
use Rattle.unparser.specs.Place.{item_name}
use Rattle.parser_combinators.specs.words.Word.{is_data_word}
use Rattle.symbol_tables.specs.declared.data_names.name.Referent.{Referent}
use Rattle.symbol_tables.specs.declared.data_names.name.Referent.TheVariants as founds
use Rattle.symbol_tables.specs.declared.data_names.name.ItemKind.{ItemKind}
use Rattle.symbol_tables.specs.declared.data_names.name.ItemKind.TheVariants as items
use Rattle.symbol_tables.specs.data_names.Names.{Names}
use Rattle.symbol_tables.specs.data_names.Look.{look}
use Rattle.program_facts.specs.term_counts.Expression.{expr_terms}
use Rattle.cobol_grammar.specs.declared.expr_forms.chain.PendingTerm.{PendingTerm}
use Rattle.cobol_grammar.specs.declared.expr_forms.chain.Chain.{Chain}
use Rattle.cobol_grammar.specs.declared.expr_forms.side.ExprContent.TheVariants as makes
use Rattle.cobol_grammar.specs.declared.expr_forms.side.Side.{Side}
use Rattle.cobol_grammar.specs.declared.expr_forms.side.ValueKind.{ValueKind}
use Rattle.cobol_grammar.specs.declared.expr_forms.side.ValueKind.TheVariants as values
use Rattle.cobol_grammar.specs.declared.expr_forms.side.ParsedExpr.TheVariants as whats
use Rattle.cobol_grammar.specs.expr_forms.Chain as chains
use Rattle.cobol_grammar.specs.expr_forms.Either as eithers
use Rattle.cobol_grammar.specs.expr_forms.Fault.{usage, item_of, is_whole, number_fault, number_fault_at, result_fault_at, whole_fault_at, value_fault_at, condition_fault_at, item_kind, kind_of, is_condition, found_fault}
use Rattle.cobol_grammar.specs.expr_forms.Side as sides
use Rattle.cobol_grammar.specs.expr_forms.Side.{expr_of, place_of, kind_within, windowed, literal_kind}
use Rattle.program_facts.proofs.well_scoped_lemmas.Made.{both}
use Rattle.round_trip.specs.spelling.expr_spelling.Printable.{reference, is_number, takes_result, is_counting, is_exact, are_data_words, suits, are_fit, if_fit, kind_seen, judged_expr, judged_place, judged_sub, IsPrintableExpr, IsPrintableOperand, IsPrintablePlace}
use Rattle.round_trip.specs.spelling.expr_spelling.Printable as judging
use Rattle.round_trip.specs.spelling.expr_spelling.Spelled.{IsOperandSide, IsExprSide}
use Rattle.round_trip.proofs.spelling_lemmas.expr_spelling_lemmas.Layers.{judged-Leaf, judged-Minus, judged-Both, judged-Place, judged-place, judged_windows, judged-sub, terms-Both}
use Rattle.round_trip.proofs.spelling_lemmas.expr_spelling_lemmas.Exprs.{leaf-side}
use Rattle.round_trip.proofs.procedures_lemmas.readable_exprs_lemmas.Named.{Finds}
use Rattle.round_trip.proofs.procedures_lemmas.readable_exprs_lemmas.Words.{is_there, IsLiteral}

-- ---- no fault

pub number-of : (position : Position) (kind : ValueKind) → number_fault_at position kind ≡ None → is_there kind ≡ true → is_number kind ≡ true
number-of position (values.Number whole) n t = refl
number-of position values.Text n t = absurd cc
number-of position values.Edited n t = absurd cc
number-of position values.Group n t = absurd cc
number-of position values.Figure n t = absurd cc
number-of position values.Condition n t = absurd cc
number-of position values.Unknown n t = absurd (both_ways false refl t)

pub result-of : (position : Position) (kind : ValueKind) → result_fault_at position kind ≡ None → is_there kind ≡ true → takes_result kind ≡ true
result-of position values.Edited n t = refl
result-of position (values.Number whole) n t = refl
result-of position values.Text n t = absurd cc
result-of position values.Group n t = absurd cc
result-of position values.Figure n t = absurd cc
result-of position values.Condition n t = absurd cc
result-of position values.Unknown n t = absurd (both_ways false refl t)

pub whole-of : (position : Position) (kind : ValueKind) → whole_fault_at position kind ≡ None → is_there kind ≡ true → is_counting kind ≡ true
unfolding whole_fault_at
whole-of position (values.Number true) n t = refl
whole-of position (values.Number false) n t = absurd cc
whole-of position values.Text n t = absurd cc
whole-of position values.Edited n t = absurd cc
whole-of position values.Group n t = absurd cc
whole-of position values.Figure n t = absurd cc
whole-of position values.Condition n t = absurd cc
whole-of position values.Unknown n t = absurd (both_ways false refl t)

pub value-of : (position : Position) (kind : ValueKind) → value_fault_at position kind ≡ None → not (is_condition kind) ≡ true
value-of position (values.Number whole) n = refl
value-of position values.Text n = refl
value-of position values.Edited n = refl
value-of position values.Group n = refl
value-of position values.Figure n = refl
value-of position values.Condition n = absurd cc
value-of position values.Unknown n = refl

pub condition-of : (position : Position) (kind : ValueKind) → condition_fault_at position kind ≡ None → is_there kind ≡ true → is_condition kind ≡ true
condition-of position (values.Number whole) n t = absurd cc
condition-of position values.Text n t = absurd cc
condition-of position values.Edited n t = absurd cc
condition-of position values.Group n t = absurd cc
condition-of position values.Figure n t = absurd cc
condition-of position values.Condition n t = refl
condition-of position values.Unknown n t = absurd (both_ways false refl t)

kind-there : (kind : ItemKind) → is_there (item_kind kind) ≡ true
kind-there (items.Number whole) = refl
kind-there items.Text = refl
kind-there items.Edited = refl
kind-there items.Group = refl
kind-there items.Condition = refl

window-there : (kind : ItemKind) → is_there (windowed (item_kind kind)) ≡ true
window-there (items.Number whole) = refl
window-there items.Text = refl
window-there items.Edited = refl
window-there items.Group = refl
window-there items.Condition = refl

within-there : (window : Option Window) (kind : ItemKind) → is_there (kind_within window (item_kind kind)) ≡ true
within-there None kind = kind-there kind
within-there (Some window) kind = window-there kind

map-length : {A B : Type 0} (f : A → B) (list : List A) → length (map f list) ≡ length list
map-length f [] = refl
map-length f (x ∷ list) = let e = map-length f list in omega (arith, e)

module _ (names : Names) (program : Program) where
  -- ---- sides

  -- a side whose expression can be printed, of which the same is known
  pub record IsKnown (side : Side) : Type 0 where
    pub fit : IsPrintableExpr names program (expr_of side.what)
    pub is : IsExprSide names program (expr_of side.what) side
    pub there : is_there side.kind ≡ true

  known-by : (expr : Expr) (side : Side) → IsExprSide names program expr side → IsPrintableExpr names program expr → is_there side.kind ≡ true → IsKnown side
  known-by expr side s fit there = record {
    fit = subst (λ e. IsPrintableExpr names program e) (sym s.told) fit;
    is = subst (λ e. IsExprSide names program e side) (sym s.told) s;
    there = there;
  }

  pub leaf-known : (operand : Operand) (side : Side) → IsOperandSide names program operand side → IsPrintableOperand names program operand → is_there side.kind ≡ true → IsKnown side
  leaf-known operand side s fit there =
      known-by (exprs.Leaf operand) side (leaf-side names program operand side s) (ap (λ j. j.fit) (judged-Leaf names program operand) ∙ fit) there

  pub number-known : (side : Side) → IsKnown side → number_fault side ≡ None → is_number side.kind ≡ true
  unfolding number_fault
  number-known side h n = number-of side.leaf side.kind n h.there

  pub sum_side-known : (position : Position) (side : Side) → IsKnown side → IsKnown (sides.sum_side position side)
  unfolding sides.sum_side
  sum_side-known position side h = record {
    fit = h.fit;
    is = record { told = refl; known = record { kind = h.is.known.kind; make = h.is.known.make } };
    there = h.there;
  }

  pub negated-known : (position : Position) (side : Side) → IsKnown side → is_number side.kind ≡ true → IsKnown (sides.negated position side)
  unfolding sides.negated
  negated-known position side h n =
      let e = judged-Minus names program (expr_of side.what) in
      record {
        fit = ap (λ j. j.fit) e ∙ both h.fit (subst (λ k. is_number k ≡ true) h.is.known.kind n);
        is = record {
          told = refl;
          known = record {
            kind = ap (λ k. values.Number (is_whole k)) h.is.known.kind ∙ sym (ap (λ j. j.kind) e);
            make = sym (ap (λ j. j.make) e);
          };
        };
        there = refl;
      }

  -- ---- sums

  -- a number under an operator
  pub record IsNumber (expr : Expr) (whole : Bool) : Type 0 where
    pub fit : IsPrintableExpr names program expr
    pub number : is_number (judged_expr names program expr).kind ≡ true
    pub whole_is : whole ≡ is_whole (judged_expr names program expr).kind

  number-side : (side : Side) → IsKnown side → is_number side.kind ≡ true → IsNumber (expr_of side.what) (is_whole side.kind)
  number-side side h n = record {
    fit = h.fit;
    number = subst (λ k. is_number k ≡ true) h.is.known.kind n;
    whole_is = ap (λ k. is_whole k) h.is.known.kind;
  }

  both-known : (op : Op) (left right : Expr) (a b : Bool) → IsNumber left a → IsNumber right b → (side : Side) →
      side.what ≡ whats.Sum (exprs.Both op left right) → side.kind ≡ values.Number (is_exact op && (a && b)) → side.make ≡ makes.Joined → IsKnown side
  both-known op left right a b l r side what kind make =
      let e = judged-Both names program op left right in
      known-by (exprs.Both op left right) side
      (record {
        told = ap (λ w. expr_of w) what;
        known = record {
          kind = kind
              ∙ ap (λ x. values.Number (is_exact op && (x && b))) l.whole_is
              ∙ ap (λ x. values.Number (is_exact op && (is_whole (judged_expr names program left).kind && x))) r.whole_is
              ∙ sym (ap (λ j. j.kind) e);
          make = make ∙ sym (ap (λ j. j.make) e);
        };
      })
      (ap (λ j. j.fit) e ∙ both (both l.fit l.number) (both r.fit r.number))
      (ap (λ k. is_there k) kind)

  abbrev BeforeKnown : Option PendingTerm → Side → Type 0
  BeforeKnown None last = Unit {0}
  BeforeKnown (Some before) last =
      IsNumber before.left before.whole × (is_exact before.op ≡ true) × (is_number last.kind ≡ true)

  pub record ChainKnown (chain : Chain) : Type 0 where
    pub before : BeforeKnown chain.before chain.last
    pub last : IsKnown chain.last

  abbrev before_terms : Option PendingTerm → ℕ
  before_terms None = 0
  before_terms (Some before) = expr_terms before.left

  abbrev pub chain_terms : Chain → ℕ
  chain_terms chain = before_terms chain.before + expr_terms (expr_of chain.last.what)

  pub one-known : (side : Side) → IsKnown side → ChainKnown (chains.chain_of side)
  one-known side h = record { before = tt; last = h }

  finished-known : (before : Option PendingTerm) (last : Side) → BeforeKnown before last → IsKnown last → IsKnown (chains.finished before last)
  finished-known None last b h = h
  finished-known (Some before) last b h =
      both-known before.op before.left (expr_of last.what) before.whole (is_whole last.kind) b.0 (number-side last h b.2) (chains.finished (Some before) last) refl
      (ap (λ x. values.Number (x && (before.whole && is_whole last.kind))) (sym b.1)) refl

  pub finish-known : (chain : Chain) → ChainKnown chain → IsKnown (chains.finish chain)
  unfolding chains.finish
  finish-known chain h = finished-known chain.before chain.last h.before h.last

  finished-terms : (before : Option PendingTerm) (last : Side) → expr_terms (expr_of (chains.finished before last).what) ≡ before_terms before + expr_terms (expr_of last.what)
  finished-terms None last = omega arith
  finished-terms (Some before) last = terms-Both before.op before.left (expr_of last.what)

  pub finish-terms : (chain : Chain) → expr_terms (expr_of (chains.finish chain).what) ≡ chain_terms chain
  unfolding chains.finish
  finish-terms chain = finished-terms chain.before chain.last

  finished-number : (before : Option PendingTerm) (last : Side) → is_number last.kind ≡ true → is_number (chains.finished before last).kind ≡ true
  finished-number None last n = n
  finished-number (Some before) last n = refl

  before-with : (before : Option PendingTerm) (last next : Side) → BeforeKnown before last → is_number next.kind ≡ true → BeforeKnown before next
  before-with None last next b n = tt
  before-with (Some before) last next b n = (b.0, b.1, n)

  opened-known : (op : Op) (chain : Chain) (right : Side) → is_exact op ≡ true → ChainKnown chain → IsKnown right → is_number chain.last.kind ≡ true → is_number right.kind ≡ true →
      ChainKnown (record { before = Some (chains.opened op (chains.finish chain)); last = right })
  unfolding chains.finish
  opened-known op chain right exact c r n m = record {
    before = (number-side (chains.finish chain) (finish-known chain c) (finished-number chain.before chain.last n), exact, m);
    last = r;
  }

  times-known : (op : Op) (chain : Chain) (right : Side) → ChainKnown chain → IsKnown right → is_number chain.last.kind ≡ true → is_number right.kind ≡ true →
      ChainKnown (record { before = chain.before; last = chains.multiplied op (is_exact op) chain.last right })
  times-known op chain right c r n m = record {
    before = before-with chain.before chain.last (chains.multiplied op (is_exact op) chain.last right) c.before refl;
    last = both-known op (expr_of chain.last.what) (expr_of right.what) (is_whole chain.last.kind) (is_whole right.kind) (number-side chain.last c.last n) (number-side right r m)
        (chains.multiplied op (is_exact op) chain.last right) refl refl refl;
  }

  pub joined-known : (op : Op) (chain : Chain) (right : Side) → ChainKnown chain → IsKnown right → is_number chain.last.kind ≡ true → is_number right.kind ≡ true →
      ChainKnown (chains.joined op chain right)
  unfolding chains.joined
  joined-known ops.Add chain right c r n m = opened-known ops.Add chain right refl c r n m
  joined-known ops.Sub chain right c r n m = opened-known ops.Sub chain right refl c r n m
  joined-known ops.Mul chain right c r n m = times-known ops.Mul chain right c r n m
  joined-known ops.Div chain right c r n m = times-known ops.Div chain right c r n m

  times-terms : (op : Op) (chain : Chain) (right : Side) →
      before_terms chain.before + expr_terms (exprs.Both op (expr_of chain.last.what) (expr_of right.what)) ≡ chain_terms chain + expr_terms (expr_of right.what)
  times-terms op chain right = let e = terms-Both op (expr_of chain.last.what) (expr_of right.what) in omega (arith, e)

  pub joined-terms : (op : Op) (chain : Chain) (right : Side) → chain_terms (chains.joined op chain right) ≡ chain_terms chain + expr_terms (expr_of right.what)
  unfolding chains.joined
  joined-terms ops.Add chain right = ap (λ n. n + expr_terms (expr_of right.what)) (finish-terms chain)
  joined-terms ops.Sub chain right = ap (λ n. n + expr_terms (expr_of right.what)) (finish-terms chain)
  joined-terms ops.Mul chain right = times-terms ops.Mul chain right
  joined-terms ops.Div chain right = times-terms ops.Div chain right

  -- ---- names

  -- the item that was found is found again by its own name
  abbrev pub IsItem : Referent → List (List ℕ) → Type 0
  IsItem found of = (item : ℕ) (kind : ItemKind) (dims : ℕ) → found ≡ founds.Item item kind dims →
      (is_data_word (item_name program item) ≡ true) × (reference names program item of ≡ founds.Item item kind dims)

  pub item-found : Finds names program → (word : List ℕ) (of : List (List ℕ)) → is_data_word word ≡ true → IsItem (look names word of) of
  item-found finds word of h item kind dims e =
      let same = finds word of item kind dims e in
      (subst (λ w. is_data_word w ≡ true) (sym same) h, ap (λ w. look names w of) same ∙ e)

  -- a reference and what is known of it
  pub record IsPlace (place : Place) (side : Side) : Type 0 where
    pub is : IsOperandSide names program (operands.Place place) side
    pub fit : IsPrintablePlace names program place
    pub there : is_there side.kind ≡ true

  seen-some : (window : Option Window) → is_some (judged_windows names program window) ≡ is_some window
  seen-some None = refl
  seen-some (Some window) = refl

  seen-kind : (window : Option Window) (kind : ValueKind) → kind_within window kind ≡ kind_seen (judged_windows names program window) kind
  seen-kind None kind = refl
  seen-kind (Some window) kind = refl

  -- it suits what stands behind it
  item-suits : (item : ℕ) (kind : ItemKind) (dims : ℕ) (subs : ℕ) (windowed : Bool) (position : Position) →
      found_fault (founds.Item item kind dims) subs windowed position ≡ None → suits item subs windowed (founds.Item item kind dims) ≡ true
  unfolding found_fault
  item-suits item kind dims subs windowed position n = both (eq-eqb item item refl) (by (dims == subs && not (is_condition (item_kind kind) && windowed)) n)
    where
      by : (b : Bool) → (if b then None else usage position) ≡ None → b ≡ true
      by true n = refl
      by false n = absurd cc

  item-place : (item : ℕ) (kind : ItemKind) (dims : ℕ) (of : List (List ℕ)) (subs : List Sub) (window : Option Window) (position : Position) →
      IsItem (founds.Item item kind dims) of → are_data_words of ≡ true → found_fault (founds.Item item kind dims) (length subs) (is_some window) position ≡ None →
      are_fit (map (judged_sub names program) subs) ≡ true → if_fit (judged_windows names program window) ≡ true →
      IsPlace (place_of (founds.Item item kind dims) of subs window) (sides.ref_side (founds.Item item kind dims) of subs window position)
  unfolding sides.ref_side
  item-place item kind dims of subs window position named words n s w =
      let place = place_of (founds.Item item kind dims) of subs window in
      let again = named item kind dims refl in
      let e = judged-place names program item of subs window in
      let same = judged-Place names program place ∙ e in
      let suit = item-suits item kind dims (length subs) (is_some window) position n in
      let counted = subst (λ m. suits item m (is_some window) (founds.Item item kind dims) ≡ true) (sym (map-length (judged_sub names program) subs)) suit in
      let seen = subst (λ b. suits item (length (map (judged_sub names program) subs)) b (founds.Item item kind dims) ≡ true) (sym (seen-some window)) counted in
      let suited = subst (λ f. suits item (length (map (judged_sub names program) subs)) (is_some (judged_windows names program window)) f ≡ true) (sym again.1) seen in
      record {
        is = record {
          what = refl;
          known = record {
            kind = seen-kind window (item_kind kind) ∙ ap (λ f. kind_seen (judged_windows names program window) (kind_of f)) (sym again.1) ∙ sym (ap (λ j. j.kind) same);
            make = sym (ap (λ j. j.make) same);
          };
        };
        fit = ap (λ j. j.fit) e ∙ both (both again.0 words) (both suited (both s w));
        there = within-there window kind;
      }

  pub place-known : (found : Referent) (of : List (List ℕ)) (subs : List Sub) (window : Option Window) (position : Position) →
      IsItem found of → are_data_words of ≡ true → found_fault found (length subs) (is_some window) position ≡ None →
      are_fit (map (judged_sub names program) subs) ≡ true → if_fit (judged_windows names program window) ≡ true →
      IsPlace (place_of found of subs window) (sides.ref_side found of subs window position)
  unfolding found_fault
  place-known founds.Unknown of subs window position named words n s w = absurd cc
  place-known founds.Ambiguous of subs window position named words n s w = absurd cc
  place-known (founds.Item item kind dims) of subs window position named words n s w = item-place item kind dims of subs window position named words n s w

  pub ref-known : (place : Place) (side : Side) → IsPlace place side → IsKnown side
  ref-known place side h = leaf-known (operands.Place place) side h.is (ap (λ j. j.fit) (judged-Place names program place) ∙ h.fit) h.there

  -- ---- literals

  pub literal-is : (operand : Operand) (position : Position) → IsLiteral names program operand →
      IsOperandSide names program operand (sides.literal_side operand (literal_kind operand) position)
  unfolding sides.literal_side
  literal-is operand position h = record {
    what = sym h.what;
    known = record { kind = sym (ap (λ j. j.kind) h.judged); make = sym (ap (λ j. j.make) h.judged) };
  }

  pub literal-fit : (operand : Operand) → IsLiteral names program operand → IsPrintableOperand names program operand
  literal-fit operand h = ap (λ j. j.fit) h.judged

  pub literal-there : (operand : Operand) (position : Position) → IsLiteral names program operand → is_there (sides.literal_side operand (literal_kind operand) position).kind ≡ true
  unfolding sides.literal_side
  literal-there operand position h = h.there

  pub literal-known : (operand : Operand) (position : Position) → IsLiteral names program operand → IsKnown (sides.literal_side operand (literal_kind operand) position)
  literal-known operand position h =
      leaf-known operand (sides.literal_side operand (literal_kind operand) position) (literal-is operand position h) (literal-fit operand h) (literal-there operand position h)

  -- ---- subscripts

  pub number_sub-fit : (digits : List ℕ) → (judged_sub names program (eithers.number_sub digits)).fit ≡ true
  number_sub-fit digits = ap (λ j. j.fit) (judged-sub names program None (sides.number_of false digits))

  -- an item alone, a number without decimals
  abbrev pub IsBase : Place → Type 0
  IsBase place = judging.suits_base (Some (judged_place names program place)) false ≡ true

  pub item_sub-fit : (place : Place) (negative : Bool) (digits : List ℕ) → IsBase place → (judged_sub names program (eithers.item_sub place negative digits)).fit ≡ true
  item_sub-fit place negative digits h = ap (λ j. j.fit) (judged-sub names program (Some place) (sides.number_of negative digits)) ∙ h

  pub base-known : (found : Referent) (of : List (List ℕ)) (at position : Position) →
      IsPlace (place_of found of [] None) (sides.ref_side found of [] None at) → whole_fault_at position (kind_of found) ≡ None → IsBase (place_of found of [] None)
  unfolding sides.ref_side
  base-known found of at position h n =
      let place = place_of found of [] None in
      let kind : kind_of found ≡ (judged_place names program place).kind = h.is.known.kind ∙ ap (λ j. j.kind) (judged-Place names program place) in
      both h.fit (both (ap (λ j. j.bare) (bare found of)) (subst (λ k. is_counting k ≡ true) kind (whole-of position (kind_of found) n h.there)))
    where
      bare : (found : Referent) (of : List (List ℕ)) → judged_place names program (place_of found of [] None)
          ≡ judging.place_step names program (record { item = item_of found; of = of; subs = []; window = None })
      bare found of = judged-place names program (item_of found) of [] None

  pub subs-added : (front : List Sub) (sub : Sub) → are_fit (map (judged_sub names program) front) ≡ true → (judged_sub names program sub).fit ≡ true →
      are_fit (map (judged_sub names program) (front ++ sub ∷ [])) ≡ true
  subs-added [] sub f s = both s refl
  subs-added (first ∷ front) sub f s =
      let h = and_parts (judged_sub names program first).fit (are_fit (map (judged_sub names program) front)) f in
      both h.0 (subs-added front sub h.1 s)
