-- Any parts, with the words on cells, can be had as the parts of a program: the premises on a
-- written program can be met.
use Rattle.std.proofs.Common.{◌≡◌, ℕ, zero, suc, ◌-◌, Bool, true, false, ◌==◌, List, [], ◌∷◌, length, Option, Some, refl, ap, sym, ◌∙◌, subst, arith, inl}
use Rattle.cob_tree.specs.declared.place.Operand.{Operand, out-Operand, out-roll-Operand}
use Rattle.cob_tree.specs.declared.place.Operand.TheVariants as operand
use Rattle.cob_tree.specs.declared.place.Operand.TheVariants.{rolls-Text}
use Rattle.cob_tree.specs.declared.place.Expr.{Expr, out-Expr, out-roll-Expr}
use Rattle.cob_tree.specs.declared.place.Expr.TheOpen.{Expr-F, Operand-F}
use Rattle.cob_tree.specs.declared.place.Expr.TheVariants as expr
use Rattle.cob_tree.specs.declared.place.Expr.TheVariants.{rolls-Leaf}
use Rattle.cob_tree.specs.declared.cond.Rel.{Rel}
use Rattle.cob_tree.specs.declared.cond.Rel.TheVariants.{Equal, Greater}
use Rattle.cob_tree.specs.declared.cond.Cond.{out-Cond, out-roll-Cond}
use Rattle.cob_tree.specs.declared.cond.Cond.TheOpen.{Cond-F}
use Rattle.cob_tree.specs.declared.cond.Cond.TheVariants as cond
use Rattle.cob_tree.specs.declared.cond.Cond.TheVariants.{rolls-Relation, rolls-Not}
use Rattle.cob_tree.specs.declared.choice.Subject.TheVariants as subject
use Rattle.cob_tree.specs.declared.stmt.Arms.{Arms}
use Rattle.cob_tree.specs.declared.stmt.When.{When}
use Rattle.cob_tree.specs.declared.stmt.Stmt.{out-Stmt, out-roll-Stmt}
use Rattle.cob_tree.specs.declared.stmt.Stmt.TheOpen.{Stmt-F}
use Rattle.cob_tree.specs.declared.stmt.Stmt.TheVariants as stmt
use Rattle.cob_tree.specs.declared.stmt.Stmt.TheVariants.{rolls-Display, rolls-Closes, rolls-Evaluate, rolls-Continue}
use Rattle.control_flow_theory.specs.language.Language.{Simple, Cond, Chooser, Amount, Evaluate, Read, Arith, Depending, Picker, Range, Main, Part}
use Rattle.control_flow_theory.specs.semantics.Outcome.{Tried, Got, Ends}
use Rattle.control_flow_theory.specs.semantics.Doing.{Acting, Celled, own_is, put, keeping, taken, is_above}
use Rattle.control_flow_theory.specs.rendering.Rendering.{Empty, Naming}
use Rattle.control_flow_theory.specs.rendering.Procedures.{Writable}
use Rattle.control_flow_theory.specs.rendering.Serving.{SameArm, Alike, Serves}

-- A word on a cell: its range, the cell, and a number more.

abbrev word : Range → ℕ → ℕ → List ℕ
word Main cell value = 0 ∷ cell ∷ value ∷ []
word (Part entry exit) cell value = 1 ∷ entry ∷ exit ∷ cell ∷ value ∷ []

-- what is done by a word
abbrev by_word : {A : Type 0} → (Range → ℕ → ℕ → A) → List ℕ → A
by_word does (zero ∷ cell ∷ value ∷ []) = does Main cell value
by_word does (suc n ∷ entry ∷ exit ∷ cell ∷ value ∷ []) = does (Part entry exit) cell value
by_word does other = does Main 0 0

word-is : {A : Type 0} (does : Range → ℕ → ℕ → A) (range : Range) (cell value : ℕ) →
    by_word does (word range cell value) ≡ does range cell value
word-is does Main cell value = refl
word-is does (Part entry exit) cell value = refl

-- A text as an operand and as an expression.

abbrev text_of : Operand → List ℕ
text_of operand = elim (out-Operand operand) [ Operand-F.Text text ↦ text | _ ↦ [] ]

text-of : (text : List ℕ) → text_of (operand.Text text) ≡ text
text-of text = ap (λ o. elim o [ Operand-F.Text t ↦ t | _ ↦ [] ])
    (ap out-Operand (sym (rolls-Text text)) ∙ out-roll-Operand (Operand-F.Text text))

abbrev text_in : Expr → List ℕ
text_in expr = elim (out-Expr expr) [ Expr-F.Leaf operand ↦ text_of operand | _ ↦ [] ]

abbrev leaf : List ℕ → Expr
leaf text = expr.Leaf (operand.Text text)

text-in : (text : List ℕ) → text_in (leaf text) ≡ text
text-in text = ap (λ e. elim e [ Expr-F.Leaf operand ↦ text_of operand | _ ↦ [] ])
    (ap out-Expr (sym (rolls-Leaf (operand.Text text)))
    ∙ out-roll-Expr (Expr-F.Leaf (operand.Text text)))
    ∙ text-of text

module _ {Memory Left World : Type 0} (acting : Acting Memory) (left : Memory → Left) (first : World → Memory) (kinds : Writable) (empty : Range → Picker → ℕ → Empty) where
  abbrev Cells : Type 0
  Cells = Celled Memory

  abbrev Acts : Type 0
  Acts = Cells → Tried Cells (Unit {0})

  abbrev own_does : Simple → Acts
  own_does simple memory = keeping (own_is memory) (acting.act simple memory.own)

  abbrev set_does : Range → ℕ → ℕ → Acts
  set_does range cell value memory = Got [] tt (put range cell value memory)

  abbrev take_does : Amount → Range → ℕ → ℕ → Acts
  take_does amount range cell value memory =
      taken range cell memory (acting.count amount memory.own)

  abbrev lower_does : Range → ℕ → ℕ → Acts
  lower_does range cell value memory = Got [] tt (put range cell (memory.cells range cell - 1) memory)

  abbrev nothing_does : Acts
  nothing_does memory = Got [] tt memory

  -- an own statement stands as the one arm of an EVALUATE
  abbrev own_by : Option (List Simple) → Acts
  own_by (Some (simple ∷ [])) = own_does simple
  own_by other = nothing_does

  -- CLOSE of numbers sets or lowers a cell
  abbrev cell_by : List ℕ → Acts
  cell_by [] = nothing_does
  cell_by (zero ∷ text) = by_word set_does text
  cell_by (suc n ∷ text) = by_word lower_does text

  -- DISPLAY of a text and an operand takes the operand
  abbrev take_by : List Operand → Acts
  take_by (text ∷ amount ∷ []) = by_word (take_does amount) (text_of text)
  take_by other = nothing_does

  abbrev act_by : Stmt-F Simple Arms When → Acts
  act_by (Stmt-F.Evaluate subject whens other) = own_by other
  act_by (Stmt-F.Closes numbers) = cell_by numbers
  act_by (Stmt-F.Display items advance) = take_by items
  act_by _ = nothing_does

  abbrev Tests : Type 0
  Tests = Cells → Tried Cells Bool

  abbrev own_tests : Cond → Tests
  own_tests cond memory = keeping (own_is memory) (acting.test cond memory.own)

  abbrev is_does : Range → ℕ → ℕ → Tests
  is_does range cell value memory = Got [] (memory.cells range cell == value) memory

  abbrev above_does : Range → ℕ → ℕ → Tests
  above_does range cell value memory = Got [] (is_above (memory.cells range cell)) memory

  abbrev relation_by : Rel → List ℕ → Tests
  relation_by Equal text = by_word is_does text
  relation_by _ text = by_word above_does text

  -- an own condition stands behind NOT
  abbrev test_by : Cond-F Cond → Tests
  test_by (Cond-F.Not cond) = own_tests cond
  test_by (Cond-F.Relation from rel to) = relation_by rel (text_in from)
  test_by _ = λ memory. Got [] true memory

  abbrev Chooses : Type 0
  Chooses = Cells → Tried Cells ℕ

  abbrev own_chooses : Chooser → Chooses
  own_chooses chooser memory = keeping (own_is memory) (acting.choose chooser memory.own)

  abbrev cell_does : Range → ℕ → ℕ → Chooses
  cell_does range cell value memory = Got [] (memory.cells range cell - 1) memory

  -- an own EVALUATE has one WHEN more, that tests nothing
  abbrev choose_by : Chooser → Chooses
  choose_by (Evaluate (subject.Value from) [] has_other) = by_word cell_does (text_in from)
  choose_by (Evaluate subject [] has_other) = λ memory. Got [] 0 memory
  choose_by (Evaluate subject (tests ∷ others) has_other) = own_chooses (Evaluate subject others has_other)
  choose_by (Read file into has_end) = own_chooses (Read file into has_end)
  choose_by (Arith calc into) = own_chooses (Arith calc into)
  choose_by (Depending on names) = own_chooses (Depending on names)

  -- the parts
  abbrev pub whole : Acting Cells
  whole = record {
    act = λ simple. act_by (out-Stmt simple);
    test = λ cond. test_by (out-Cond cond);
    choose = choose_by;
    count = λ amount memory. keeping (own_is memory) (acting.count amount memory.own);
  }

  abbrev own_name : Chooser → Chooser
  own_name (Evaluate subject tests has_other) = Evaluate subject ([] ∷ tests) has_other
  own_name (Read file into has_end) = Read file into has_end
  own_name (Arith calc into) = Arith calc into
  own_name (Depending on names) = Depending on names

  own-named : (chooser : Chooser) → choose_by (own_name chooser) ≡ own_chooses chooser
  own-named (Evaluate subject tests has_other) = refl
  own-named (Read file into has_end) = refl
  own-named (Arith calc into) = refl
  own-named (Depending on names) = refl

  abbrev pub names : Naming
  names = record {
    nothing = stmt.Continue;
    simple = λ simple. stmt.Evaluate subject.True [] (Some (simple ∷ []));
    cond = cond.Not;
    chooser = λ chooser arms. own_name chooser;
    amount = λ amount. amount;
    set = λ range cell value. stmt.Closes (0 ∷ word range cell value);
    take = λ range cell amount. stmt.Display (operand.Text (word range cell 0) ∷ amount ∷ []) true;
    lower = λ range cell. stmt.Closes (1 ∷ word range cell 0);
    is = λ range cell value. cond.Relation (leaf (word range cell value)) Equal (leaf []);
    above = λ range cell. cond.Relation (leaf (word range cell 0)) Greater (leaf []);
    by_cell = λ range cell arms. Evaluate (subject.Value (leaf (word range cell 0))) [] false;
    lacks_other = λ range cell. false;
    empty = empty;
  }

  nothing-is : whole.act names.nothing ≡ nothing_does
  nothing-is = ap act_by (ap out-Stmt (sym rolls-Continue) ∙ out-roll-Stmt Stmt-F.Continue)

  simple-is : (simple : Simple) → whole.act (names.simple simple) ≡ own_does simple
  simple-is simple = ap act_by (ap out-Stmt (sym (rolls-Evaluate subject.True [] (Some (simple ∷ []))))
      ∙ out-roll-Stmt (Stmt-F.Evaluate subject.True [] (Some (simple ∷ []))))

  closes-is : (numbers : List ℕ) → whole.act (stmt.Closes numbers) ≡ cell_by numbers
  closes-is numbers = ap act_by (ap out-Stmt (sym (rolls-Closes numbers)) ∙ out-roll-Stmt (Stmt-F.Closes numbers))

  take-is : (range : Range) (cell : ℕ) (amount : Amount) → whole.act (names.take range cell amount) ≡ take_does amount range cell 0
  take-is range cell amount =
      let items = operand.Text (word range cell 0) ∷ amount ∷ [] in
      ap act_by (ap out-Stmt (sym (rolls-Display items true)) ∙ out-roll-Stmt (Stmt-F.Display items true))
      ∙ ap (by_word (take_does amount)) (text-of (word range cell 0))
      ∙ word-is (take_does amount) range cell 0

  cond-is : (cond : Cond) → whole.test (names.cond cond) ≡ own_tests cond
  cond-is cond = ap test_by (ap out-Cond (sym (rolls-Not cond)) ∙ out-roll-Cond (Cond-F.Not cond))

  relation-is : (rel : Rel) (text : List ℕ) → whole.test (cond.Relation (leaf text) rel (leaf [])) ≡ relation_by rel text
  relation-is rel text =
      ap test_by (ap out-Cond (sym (rolls-Relation (leaf text) rel (leaf []))) ∙ out-roll-Cond (Cond-F.Relation (leaf text) rel (leaf [])))
      ∙ ap (relation_by rel) (text-in text)

  by-cell-is : (range : Range) (cell : ℕ) (arms : List Bool) → whole.choose (names.by_cell range cell arms) ≡ cell_does range cell 0
  by-cell-is range cell arms = ap (by_word cell_does) (text-in (word range cell 0)) ∙ word-is cell_does range cell 0

  abbrev Goes : {A : Type 0} → (A → A → Type 0) → Tried Cells A → Tried Cells A → Type 0
  Goes {A} = Alike {Value = A} left (λ memory. left memory.own) (λ a b. a ≡ b)

  goes-itself : {A : Type 0} (Like : A → A → Type 0) → ((a : A) → Like a a) → (t : Tried Cells A) → Goes Like t t
  goes-itself Like same (Got trace value memory) = (refl, same value, refl)
  goes-itself Like same (Ends trace kind memory) = (refl, refl, refl)

  -- the same part on the same memory
  goes-as : {A : Type 0} (Like : A → A → Type 0) → ((a : A) → Like a a) → (f g : Cells → Tried Cells A) → g ≡ f → (memory other : Cells) → memory ≡ other → Goes Like (f memory) (g other)
  goes-as Like same f g e memory other is = subst (λ h. Goes Like (f memory) (h other)) (sym e) (subst (λ m. Goes Like (f memory) (f m)) is (goes-itself Like same (f memory)))

  abbrev Any : Unit {0} → Unit {0} → Type 0
  Any a b = Unit {0}

  act-goes : (f : Acts) (code : Simple) → whole.act code ≡ f → (memory other : Cells) → memory ≡ other → Goes Any (f memory) (whole.act code other)
  act-goes f code e memory other is = goes-as Any (λ a. tt) f (whole.act code) e memory other is

  pub whole-serves : Serves acting left first whole (λ memory. left memory.own) (λ world. record { own = first world; cells = λ range cell. 0 }) (λ a b. a ≡ b) names kinds
  whole-serves = record {
    starts = λ world. refl;
    leaves = λ memory other is. ap (λ (m : Cells). left m.own) is;
    nothing = λ memory other is. act-goes nothing_does names.nothing nothing-is memory other is;
    simple = λ simple memory other fits is. act-goes (own_does simple) (names.simple simple) (simple-is simple) memory other is;
    cond = λ cond memory other fits is. goes-as (◌≡◌ {A = Bool}) (λ a. refl) (own_tests cond) (whole.test (names.cond cond)) (cond-is cond) memory other is;
    chooser = λ chooser arms memory other fits is. goes-as (SameArm (length arms)) (λ a. inl refl) (own_chooses chooser) (choose_by (own_name chooser)) (own-named chooser) memory other is;
    amount = λ amount memory other fits is. goes-as (◌≡◌ {A = ℕ}) (λ a. refl) (λ m. keeping (own_is m) (acting.count amount m.own)) (whole.count amount) refl memory other is;
    set = λ range cell value memory other fits is. act-goes (set_does range cell value) (names.set range cell value) (closes-is (0 ∷ word range cell value) ∙ word-is set_does range cell value) memory other is;
    take = λ range cell amount memory other fits has is. act-goes (take_does amount range cell 0) (names.take range cell amount) (take-is range cell amount) memory other is;
    lower = λ range cell memory other fits is. act-goes (lower_does range cell 0) (names.lower range cell) (closes-is (1 ∷ word range cell 0) ∙ word-is lower_does range cell 0) memory other is;
    is = λ range cell value memory other fits is. goes-as (◌≡◌ {A = Bool}) (λ a. refl) (is_does range cell value) (whole.test (names.is range cell value)) (relation-is Equal (word range cell value) ∙ word-is is_does range cell value) memory other is;
    above = λ range cell memory other fits is. goes-as (◌≡◌ {A = Bool}) (λ a. refl) (above_does range cell 0) (whole.test (names.above range cell)) (relation-is Greater (word range cell 0) ∙ word-is above_does range cell 0) memory other is;
    by_cell = λ range cell arms arm memory other fits above is.
        let less : memory.cells range cell - 1 ≡ arm = omega (arith, above) in
        subst (λ n. Goes (SameArm (length arms)) (Got [] n memory) (whole.choose (names.by_cell range cell arms) other)) less
        (goes-as (SameArm (length arms)) (λ a. inl refl) (cell_does range cell 0) (whole.choose (names.by_cell range cell arms)) (by-cell-is range cell arms) memory other is);
  }
