-- Places, operands and expressions by what they are made of: their tokens, what is known of them and
-- their terms.
use Rattle.std.proofs.Common.{◌≡◌, ℕ, ◌+◌, Bool, true, false, List, [], ◌∷◌, ◌++◌, map, Option, Some, None, ap, sym, ◌∙◌, subst, append_assoc}
use Rattle.cob_base.specs.Bytes.{hyphen, colon}
use Rattle.cob_tree.specs.declared.number.Number.{Number}
use Rattle.cob_tree.specs.declared.place.Expr.{Expr, ind-Expr, roll-Expr, fold-roll-Expr}
use Rattle.cob_tree.specs.declared.place.Expr.TheOpen.{Expr-F, Operand-F}
use Rattle.cob_tree.specs.declared.place.Expr.TheVariants as exprs
use Rattle.cob_tree.specs.declared.place.Figure.{Figure}
use Rattle.cob_tree.specs.declared.place.Op.{Op}
use Rattle.cob_tree.specs.declared.place.Operand.{Operand, ind-Operand, roll-Operand, fold-roll-Operand}
use Rattle.cob_tree.specs.declared.place.Operand.TheVariants as operands
use Rattle.cob_tree.specs.declared.place.Place.{Place, ind-Place, fold-roll-Place}
use Rattle.cob_tree.specs.declared.place.Sub.{Sub, ind-Sub, roll-Sub, fold-roll-Sub}
use Rattle.cob_tree.specs.declared.place.Window.{Window, ind-Window, fold-roll-Window}
use Rattle.cob_tree.specs.declared.program.Program.{Program}
use Rattle.cobol_lex.specs.declared.token.TokenKind.TheVariants as kind
use Rattle.unparser.specs.Token.{Tokens, number_token, in_parentheses, enclosed}
use Rattle.unparser.specs.Place as tokens
use Rattle.unparser.specs.Place.{item_name, of_tokens, op_mark, figure_word, plus_tokens, subs_tokens, place_tokens, operand_tokens, expr_tokens, sub_tokens, window_tokens}
use Rattle.program_facts.specs.term_counts.Expression as terms
use Rattle.program_facts.specs.term_counts.Expression.{expr_terms, operand_terms, place_terms, window_terms}
use Rattle.symbol_tables.specs.data_names.Names.{Names}
use Rattle.round_trip.specs.spelling.expr_spelling.Spelled.{size_terms, made_window, made_place}
use Rattle.round_trip.specs.spelling.expr_spelling.Printable as judging
use Rattle.round_trip.specs.spelling.expr_spelling.Printable.{Judged, judged_expr, judged_operand, judged_place, judged_sub, judged_window}

-- ---- cases

abbrev Any : {A : Type 0} → A → Type 0
Any a = Unit {0}

module _ (P : Expr → Type 0) (leaf : (operand : Operand) → P (exprs.Leaf operand)) (minus : (inner : Expr) → P (exprs.Minus inner)) (both : (op : Op) (left right : Expr) → P (exprs.Both op left right)) where
  expr-layer : (x : Expr-F Expr Operand Place Sub Window) → P (roll-Expr x)
  expr-layer (Expr-F.Leaf operand) = subst P (sym (exprs.rolls-Leaf operand)) (leaf operand)
  expr-layer (Expr-F.Minus inner) = subst P (sym (exprs.rolls-Minus inner)) (minus inner)
  expr-layer (Expr-F.Both op left right) = subst P (sym (exprs.rolls-Both op left right)) (both op left right)

  pub expr-cases : (x : Expr) → P x
  expr-cases x = ind-Expr P Any Any Any Any (λ x y is. expr-layer x) (λ x y is. tt) (λ x y is. tt) (λ x y is. tt) (λ x y is. tt) x

module _ (P : Operand → Type 0) (place : (place : Place) → P (operands.Place place)) (number : (number : Number) → P (operands.Number number)) (text : (text : List ℕ) → P (operands.Text text)) (figure : (figure : Figure) → P (operands.Figure figure)) where
  operand-layer : (x : Operand-F Expr Operand Place Sub Window) → P (roll-Operand x)
  operand-layer (Operand-F.Place x) = subst P (sym (operands.rolls-Place x)) (place x)
  operand-layer (Operand-F.Number x) = subst P (sym (operands.rolls-Number x)) (number x)
  operand-layer (Operand-F.Text x) = subst P (sym (operands.rolls-Text x)) (text x)
  operand-layer (Operand-F.Figure x) = subst P (sym (operands.rolls-Figure x)) (figure x)

  pub operand-cases : (x : Operand) → P x
  operand-cases x = ind-Operand Any P Any Any Any (λ x y is. tt) (λ x y is. operand-layer x) (λ x y is. tt) (λ x y is. tt) (λ x y is. tt) x

pub place-cases : (P : Place → Type 0) → ((item : ℕ) (of : List (List ℕ)) (subs : List Sub) (window : Option Window) → P (made_place item of subs window)) → (x : Place) → P x
place-cases P h x = ind-Place Any Any P Any Any (λ x y is. tt) (λ x y is. tt) (λ x y is. h x.item x.of x.subs x.window) (λ x y is. tt) (λ x y is. tt) x

abbrev pub made_sub : Option Place → Number → Sub
made_sub base plus = roll-Sub (record { base = base; plus = plus })

pub sub-cases : (P : Sub → Type 0) → ((base : Option Place) (plus : Number) → P (made_sub base plus)) → (x : Sub) → P x
sub-cases P h x = ind-Sub Any Any Any P Any (λ x y is. tt) (λ x y is. tt) (λ x y is. tt) (λ x y is. h x.base x.plus) (λ x y is. tt) x

pub window-cases : (P : Window → Type 0) → ((from : Expr) (size : Option Expr) → P (made_window from size)) → (x : Window) → P x
window-cases P h x = ind-Window Any Any Any Any P (λ x y is. tt) (λ x y is. tt) (λ x y is. tt) (λ x y is. tt) (λ x y is. h x.from x.«length») x

-- ---- tokens

module _ (program : Program) where
  abbrev Exprs : Type 0
  Exprs = Bool → Tokens

  pub tokens-Leaf : (operand : Operand) (within : Bool) → expr_tokens program (exprs.Leaf operand) within ≡ operand_tokens program operand
  tokens-Leaf operand within =
      ap (λ e. expr_tokens program e within) (sym (exprs.rolls-Leaf operand))
      ∙ ap (λ f. f within) (fold-roll-Expr Exprs Tokens Tokens Tokens Tokens tokens.expr_step tokens.operand_step (tokens.place_step program) tokens.sub_step tokens.window_step (Expr-F.Leaf operand))

  pub tokens-Minus : (inner : Expr) (within : Bool) → expr_tokens program (exprs.Minus inner) within ≡ enclosed within (kind.Mark hyphen ∷ expr_tokens program inner true)
  tokens-Minus inner within =
      ap (λ e. expr_tokens program e within) (sym (exprs.rolls-Minus inner))
      ∙ ap (λ f. f within) (fold-roll-Expr Exprs Tokens Tokens Tokens Tokens tokens.expr_step tokens.operand_step (tokens.place_step program) tokens.sub_step tokens.window_step (Expr-F.Minus inner))

  pub tokens-Both : (op : Op) (left right : Expr) (within : Bool) →
      expr_tokens program (exprs.Both op left right) within ≡ enclosed within (expr_tokens program left true ++ kind.Mark (op_mark op) ∷ expr_tokens program right true)
  tokens-Both op left right within =
      ap (λ e. expr_tokens program e within) (sym (exprs.rolls-Both op left right))
      ∙ ap (λ f. f within) (fold-roll-Expr Exprs Tokens Tokens Tokens Tokens tokens.expr_step tokens.operand_step (tokens.place_step program) tokens.sub_step tokens.window_step (Expr-F.Both op left right))

  pub tokens-Place : (place : Place) → operand_tokens program (operands.Place place) ≡ place_tokens program place
  tokens-Place place =
      ap (λ e. operand_tokens program e) (sym (operands.rolls-Place place))
      ∙ fold-roll-Operand Exprs Tokens Tokens Tokens Tokens tokens.expr_step tokens.operand_step (tokens.place_step program) tokens.sub_step tokens.window_step (Operand-F.Place place)

  pub tokens-Number : (number : Number) → operand_tokens program (operands.Number number) ≡ number_token number ∷ []
  tokens-Number number =
      ap (λ e. operand_tokens program e) (sym (operands.rolls-Number number))
      ∙ fold-roll-Operand Exprs Tokens Tokens Tokens Tokens tokens.expr_step tokens.operand_step (tokens.place_step program) tokens.sub_step tokens.window_step (Operand-F.Number number)

  pub tokens-Text : (text : List ℕ) → operand_tokens program (operands.Text text) ≡ kind.Literal text ∷ []
  tokens-Text text =
      ap (λ e. operand_tokens program e) (sym (operands.rolls-Text text))
      ∙ fold-roll-Operand Exprs Tokens Tokens Tokens Tokens tokens.expr_step tokens.operand_step (tokens.place_step program) tokens.sub_step tokens.window_step (Operand-F.Text text)

  pub tokens-Figure : (figure : Figure) → operand_tokens program (operands.Figure figure) ≡ kind.Word (figure_word figure) ∷ []
  tokens-Figure figure =
      ap (λ e. operand_tokens program e) (sym (operands.rolls-Figure figure))
      ∙ fold-roll-Operand Exprs Tokens Tokens Tokens Tokens tokens.expr_step tokens.operand_step (tokens.place_step program) tokens.sub_step tokens.window_step (Operand-F.Figure figure)

  abbrev pub windows_tokens : Option Window → Tokens
  windows_tokens None = []
  windows_tokens (Some window) = window_tokens program window

  pub tokens-place : (item : ℕ) (of : List (List ℕ)) (subs : List Sub) (window : Option Window) →
      place_tokens program (made_place item of subs window)
      ≡ kind.Word (item_name program item) ∷ (of_tokens of ++ (subs_tokens (map (sub_tokens program) subs) ++ windows_tokens window))
  tokens-place item of subs None =
      fold-roll-Place Exprs Tokens Tokens Tokens Tokens tokens.expr_step tokens.operand_step (tokens.place_step program) tokens.sub_step tokens.window_step (record { item = item; of = of; subs = subs; window = None })
      ∙ ap (λ list. kind.Word (item_name program item) ∷ list) (append_assoc (of_tokens of) (subs_tokens (map (sub_tokens program) subs)) (windows_tokens None))
  tokens-place item of subs (Some window) =
      fold-roll-Place Exprs Tokens Tokens Tokens Tokens tokens.expr_step tokens.operand_step (tokens.place_step program) tokens.sub_step tokens.window_step (record { item = item; of = of; subs = subs; window = Some window })
      ∙ ap (λ list. kind.Word (item_name program item) ∷ list) (append_assoc (of_tokens of) (subs_tokens (map (sub_tokens program) subs)) (windows_tokens (Some window)))

  pub tokens-sub-number : (plus : Number) → sub_tokens program (made_sub None plus) ≡ kind.Digits plus.digits ∷ []
  tokens-sub-number plus =
      fold-roll-Sub Exprs Tokens Tokens Tokens Tokens tokens.expr_step tokens.operand_step (tokens.place_step program) tokens.sub_step tokens.window_step (record { base = None; plus = plus })

  pub tokens-sub-item : (base : Place) (plus : Number) → sub_tokens program (made_sub (Some base) plus) ≡ place_tokens program base ++ plus_tokens plus
  tokens-sub-item base plus =
      fold-roll-Sub Exprs Tokens Tokens Tokens Tokens tokens.expr_step tokens.operand_step (tokens.place_step program) tokens.sub_step tokens.window_step (record { base = Some base; plus = plus })

  abbrev pub size_tokens : Option Expr → Tokens
  size_tokens None = []
  size_tokens (Some size) = expr_tokens program size false

  pub tokens-window : (from : Expr) (size : Option Expr) →
      window_tokens program (made_window from size) ≡ in_parentheses (expr_tokens program from false ++ kind.Mark colon ∷ size_tokens size)
  tokens-window from None =
      fold-roll-Window Exprs Tokens Tokens Tokens Tokens tokens.expr_step tokens.operand_step (tokens.place_step program) tokens.sub_step tokens.window_step (record { from = from; «length» = None })
  tokens-window from (Some size) =
      fold-roll-Window Exprs Tokens Tokens Tokens Tokens tokens.expr_step tokens.operand_step (tokens.place_step program) tokens.sub_step tokens.window_step (record { from = from; «length» = Some size })

-- ---- what is known

module _ (names : Names) (program : Program) where
  pub judged-Leaf : (operand : Operand) → judged_expr names program (exprs.Leaf operand) ≡ judged_operand names program operand
  judged-Leaf operand =
      ap (λ e. judged_expr names program e) (sym (exprs.rolls-Leaf operand))
      ∙ fold-roll-Expr Judged Judged Judged Judged Judged judging.expr_step judging.operand_step (judging.place_step names program) judging.sub_step judging.window_step (Expr-F.Leaf operand)

  pub judged-Minus : (inner : Expr) → judged_expr names program (exprs.Minus inner) ≡ judging.expr_step (Expr-F.Minus (judged_expr names program inner))
  judged-Minus inner =
      ap (λ e. judged_expr names program e) (sym (exprs.rolls-Minus inner))
      ∙ fold-roll-Expr Judged Judged Judged Judged Judged judging.expr_step judging.operand_step (judging.place_step names program) judging.sub_step judging.window_step (Expr-F.Minus inner)

  pub judged-Both : (op : Op) (left right : Expr) →
      judged_expr names program (exprs.Both op left right) ≡ judging.expr_step (Expr-F.Both op (judged_expr names program left) (judged_expr names program right))
  judged-Both op left right =
      ap (λ e. judged_expr names program e) (sym (exprs.rolls-Both op left right))
      ∙ fold-roll-Expr Judged Judged Judged Judged Judged judging.expr_step judging.operand_step (judging.place_step names program) judging.sub_step judging.window_step (Expr-F.Both op left right)

  pub judged-Place : (place : Place) → judged_operand names program (operands.Place place) ≡ judged_place names program place
  judged-Place place =
      ap (λ e. judged_operand names program e) (sym (operands.rolls-Place place))
      ∙ fold-roll-Operand Judged Judged Judged Judged Judged judging.expr_step judging.operand_step (judging.place_step names program) judging.sub_step judging.window_step (Operand-F.Place place)

  pub judged-Number : (number : Number) → judged_operand names program (operands.Number number) ≡ judging.operand_step (Operand-F.Number number)
  judged-Number number =
      ap (λ e. judged_operand names program e) (sym (operands.rolls-Number number))
      ∙ fold-roll-Operand Judged Judged Judged Judged Judged judging.expr_step judging.operand_step (judging.place_step names program) judging.sub_step judging.window_step (Operand-F.Number number)

  pub judged-Text : (text : List ℕ) → judged_operand names program (operands.Text text) ≡ judging.operand_step (Operand-F.Text text)
  judged-Text text =
      ap (λ e. judged_operand names program e) (sym (operands.rolls-Text text))
      ∙ fold-roll-Operand Judged Judged Judged Judged Judged judging.expr_step judging.operand_step (judging.place_step names program) judging.sub_step judging.window_step (Operand-F.Text text)

  pub judged-Figure : (figure : Figure) → judged_operand names program (operands.Figure figure) ≡ judging.operand_step (Operand-F.Figure figure)
  judged-Figure figure =
      ap (λ e. judged_operand names program e) (sym (operands.rolls-Figure figure))
      ∙ fold-roll-Operand Judged Judged Judged Judged Judged judging.expr_step judging.operand_step (judging.place_step names program) judging.sub_step judging.window_step (Operand-F.Figure figure)

  abbrev pub judged_windows : Option Window → Option Judged
  judged_windows None = None
  judged_windows (Some window) = Some (judged_window names program window)

  abbrev pub judged_sizes : Option Expr → Option Judged
  judged_sizes None = None
  judged_sizes (Some size) = Some (judged_expr names program size)

  abbrev pub judged_bases : Option Place → Option Judged
  judged_bases None = None
  judged_bases (Some base) = Some (judged_place names program base)

  pub judged-place : (item : ℕ) (of : List (List ℕ)) (subs : List Sub) (window : Option Window) →
      judged_place names program (made_place item of subs window)
      ≡ judging.place_step names program (record { item = item; of = of; subs = map (judged_sub names program) subs; window = judged_windows window })
  judged-place item of subs None =
      fold-roll-Place Judged Judged Judged Judged Judged judging.expr_step judging.operand_step (judging.place_step names program) judging.sub_step judging.window_step (record { item = item; of = of; subs = subs; window = None })
  judged-place item of subs (Some window) =
      fold-roll-Place Judged Judged Judged Judged Judged judging.expr_step judging.operand_step (judging.place_step names program) judging.sub_step judging.window_step (record { item = item; of = of; subs = subs; window = Some window })

  pub judged-sub : (base : Option Place) (plus : Number) → judged_sub names program (made_sub base plus) ≡ judging.sub_step (record { base = judged_bases base; plus = plus })
  judged-sub None plus =
      fold-roll-Sub Judged Judged Judged Judged Judged judging.expr_step judging.operand_step (judging.place_step names program) judging.sub_step judging.window_step (record { base = None; plus = plus })
  judged-sub (Some base) plus =
      fold-roll-Sub Judged Judged Judged Judged Judged judging.expr_step judging.operand_step (judging.place_step names program) judging.sub_step judging.window_step (record { base = Some base; plus = plus })

  pub judged-window : (from : Expr) (size : Option Expr) →
      judged_window names program (made_window from size) ≡ judging.window_step (record { from = judged_expr names program from; «length» = judged_sizes size })
  judged-window from None =
      fold-roll-Window Judged Judged Judged Judged Judged judging.expr_step judging.operand_step (judging.place_step names program) judging.sub_step judging.window_step (record { from = from; «length» = None })
  judged-window from (Some size) =
      fold-roll-Window Judged Judged Judged Judged Judged judging.expr_step judging.operand_step (judging.place_step names program) judging.sub_step judging.window_step (record { from = from; «length» = Some size })

-- ---- terms

pub terms-Leaf : (operand : Operand) → expr_terms (exprs.Leaf operand) ≡ 1 + operand_terms operand
terms-Leaf operand =
    ap (λ e. expr_terms e) (sym (exprs.rolls-Leaf operand)) ∙ fold-roll-Expr ℕ ℕ ℕ ℕ ℕ terms.expr_step terms.operand_step terms.place_step terms.sub_step terms.window_step (Expr-F.Leaf operand)

pub terms-Minus : (inner : Expr) → expr_terms (exprs.Minus inner) ≡ 1 + expr_terms inner
terms-Minus inner =
    ap (λ e. expr_terms e) (sym (exprs.rolls-Minus inner)) ∙ fold-roll-Expr ℕ ℕ ℕ ℕ ℕ terms.expr_step terms.operand_step terms.place_step terms.sub_step terms.window_step (Expr-F.Minus inner)

pub terms-Both : (op : Op) (left right : Expr) → expr_terms (exprs.Both op left right) ≡ expr_terms left + expr_terms right
terms-Both op left right =
    ap (λ e. expr_terms e) (sym (exprs.rolls-Both op left right)) ∙ fold-roll-Expr ℕ ℕ ℕ ℕ ℕ terms.expr_step terms.operand_step terms.place_step terms.sub_step terms.window_step (Expr-F.Both op left right)

pub terms-Place : (place : Place) → operand_terms (operands.Place place) ≡ place_terms place
terms-Place place =
    ap (λ e. operand_terms e) (sym (operands.rolls-Place place)) ∙ fold-roll-Operand ℕ ℕ ℕ ℕ ℕ terms.expr_step terms.operand_step terms.place_step terms.sub_step terms.window_step (Operand-F.Place place)

pub terms-Number : (number : Number) → operand_terms (operands.Number number) ≡ 0
terms-Number number =
    ap (λ e. operand_terms e) (sym (operands.rolls-Number number)) ∙ fold-roll-Operand ℕ ℕ ℕ ℕ ℕ terms.expr_step terms.operand_step terms.place_step terms.sub_step terms.window_step (Operand-F.Number number)

pub terms-Text : (text : List ℕ) → operand_terms (operands.Text text) ≡ 0
terms-Text text =
    ap (λ e. operand_terms e) (sym (operands.rolls-Text text)) ∙ fold-roll-Operand ℕ ℕ ℕ ℕ ℕ terms.expr_step terms.operand_step terms.place_step terms.sub_step terms.window_step (Operand-F.Text text)

pub terms-Figure : (figure : Figure) → operand_terms (operands.Figure figure) ≡ 0
terms-Figure figure =
    ap (λ e. operand_terms e) (sym (operands.rolls-Figure figure)) ∙ fold-roll-Operand ℕ ℕ ℕ ℕ ℕ terms.expr_step terms.operand_step terms.place_step terms.sub_step terms.window_step (Operand-F.Figure figure)

abbrev pub window_count : Option Window → ℕ
window_count None = 0
window_count (Some window) = window_terms window

pub terms-place : (item : ℕ) (of : List (List ℕ)) (subs : List Sub) (window : Option Window) → place_terms (made_place item of subs window) ≡ window_count window
terms-place item of subs None =
    fold-roll-Place ℕ ℕ ℕ ℕ ℕ terms.expr_step terms.operand_step terms.place_step terms.sub_step terms.window_step (record { item = item; of = of; subs = subs; window = None })
terms-place item of subs (Some window) =
    fold-roll-Place ℕ ℕ ℕ ℕ ℕ terms.expr_step terms.operand_step terms.place_step terms.sub_step terms.window_step (record { item = item; of = of; subs = subs; window = Some window })

pub terms-window : (from : Expr) (size : Option Expr) → window_terms (made_window from size) ≡ expr_terms from + size_terms size
terms-window from None =
    fold-roll-Window ℕ ℕ ℕ ℕ ℕ terms.expr_step terms.operand_step terms.place_step terms.sub_step terms.window_step (record { from = from; «length» = None })
terms-window from (Some size) =
    fold-roll-Window ℕ ℕ ℕ ℕ ℕ terms.expr_step terms.operand_step terms.place_step terms.sub_step terms.window_step (record { from = from; «length» = Some size })
