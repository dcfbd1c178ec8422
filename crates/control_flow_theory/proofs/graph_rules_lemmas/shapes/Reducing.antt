-- Each step of shaping keeps what the walks of a family do.
use Rattle.std.proofs.Common.{◌≡◌, ◌≢◌, ℕ, zero, suc, Bool, true, false, if◌then◌else◌, ◌==◌, List, [], ◌∷◌, ◌++◌, Option, Some, None, refl, ap, sym, ◌∙◌, subst, eqb-true, inl, inr}
use Rattle.std.proofs.lemmas.Bool.Decides.{eqb_tells}
use Rattle.control_flow_theory.specs.language.Language.{Test, If, By, ByCell, Picker, Stmts, none, also}
use Rattle.control_flow_theory.specs.semantics.Graph.{Label, Tree, tree, End, Pick, Jump, Return, Stop, Dead, Trees, no_more, more}
use Rattle.control_flow_theory.specs.graph_rules.Loops.{tested_node}
use Rattle.control_flow_theory.specs.graph_rules.Families.{Added}
use Rattle.control_flow_theory.specs.graph_rules.Shapes.{Live, ToLabel, Back, end_at, leaves_to}
use Rattle.control_flow_theory.specs.graph_rules.Reduced.{Node, tree_in, kind_at, count, each_tree, without, with_tree, is_leaf, is_bare, stays, Form, pretest, posttest, form_two, form_arms, form_pick, form_of}
use Rattle.control_flow_theory.proofs.graph_rules_lemmas.shapes.Shaping.{same-live}

-- Lists of nodes.

pub each-in : (f : Tree → Tree) → f (tree none Dead) ≡ tree none Dead → (nodes : List Node) (l : Label) → tree_in (each_tree f nodes) l ≡ f (tree_in nodes l)
each-in f dead [] l = sym dead
each-in f dead (node ∷ nodes) l = elim (node.label == l) as (λ t. (if t then f node.tree else tree_in (each_tree f nodes) l) ≡ f (if t then node.tree else tree_in nodes l)) [ true ↦ refl | false ↦ each-in f dead nodes l ]

pub without-in : (label l : Label) → l ≢ label → (nodes : List Node) → tree_in (without label nodes) l ≡ tree_in nodes l
without-in label l other [] = refl
without-in label l other (node ∷ nodes) =
    elim (eqb_tells node.label label) [
      | inl e ↦ ap (λ t. tree_in (if t then without label nodes else node ∷ without label nodes) l) e.0 ∙ without-in label l other nodes
          ∙ sym (elim (eqb_tells node.label l) [ inl d ↦ absurd (other (sym d.1 ∙ e.1)) | inr d ↦ ap (λ t. if t then node.tree else tree_in nodes l) d.0 ])
      | inr e ↦ ap (λ t. tree_in (if t then without label nodes else node ∷ without label nodes) l) e.0 ∙ ap (λ x. if node.label == l then node.tree else x) (without-in label l other nodes)
    ]

pub with-other : (label l : Label) (t : Tree) → l ≢ label → (nodes : List Node) → tree_in (with_tree label t nodes) l ≡ tree_in nodes l
with-other label l t other [] = refl
with-other label l t other (node ∷ nodes) =
    elim (eqb_tells node.label label) [
      | inl e ↦
          let d : (node.label == l) ≡ false = elim (eqb_tells node.label l) [ inl d ↦ absurd (other (sym d.1 ∙ e.1)) | inr d ↦ d.0 ] in
          ap (λ b. tree_in (if b then record { label = node.label; tree = t } ∷ with_tree label t nodes else node ∷ with_tree label t nodes) l) e.0
          ∙ ap (λ b. if b then t else tree_in (with_tree label t nodes) l) d ∙ with-other label l t other nodes ∙ sym (ap (λ b. if b then node.tree else tree_in nodes l) d)
      | inr e ↦ ap (λ b. tree_in (if b then record { label = node.label; tree = t } ∷ with_tree label t nodes else node ∷ with_tree label t nodes) l) e.0 ∙ ap (λ x. if node.label == l then node.tree else x) (with-other label l t other nodes)
    ]

-- a label to which its own tree jumps has a node
pub with-in : (label : Label) (t : Tree) (nodes : List Node) → leaves_to label (tree_in nodes label) ≢ 0 → tree_in (with_tree label t nodes) label ≡ t
with-in label t [] some = absurd (some refl)
with-in label t (node ∷ nodes) some =
    elim (node.label == label) as (λ b. (node.label == label) ≡ b → leaves_to label (if b then node.tree else tree_in nodes label) ≢ 0 → tree_in (if b then record { label = node.label; tree = t } ∷ with_tree label t nodes else node ∷ with_tree label t nodes) label ≡ t) [
      | true ↦ λ e some. ap (λ b. if b then t else tree_in (with_tree label t nodes) label) e
      | false ↦ λ e some. ap (λ b. if b then node.tree else tree_in (with_tree label t nodes) label) e ∙ with-in label t nodes some
    ] refl some

-- Lists of added cells.

pub kind-before : (kinds more : List Added) (cell : ℕ) (kind : Added) → kind_at kinds cell ≡ Some kind → kind_at (kinds ++ more) cell ≡ Some kind
kind-before [] others cell kind is = absurd (cc)
kind-before (first ∷ kinds) others zero kind is = is
kind-before (first ∷ kinds) others (suc cell) kind is = kind-before kinds others cell kind is

pub kind-next : (kinds : List Added) (kind : Added) → kind_at (kinds ++ kind ∷ []) (count kinds) ≡ Some kind
kind-next [] kind = refl
kind-next (first ∷ kinds) kind = kind-next kinds kind

pub kind-fresh : (kinds : List Added) → kind_at kinds (count kinds) ≡ None
kind-fresh [] = refl
kind-fresh (first ∷ kinds) = kind-fresh kinds

-- The forms of a loop with a test of its own.

leaf-is : (live : Live) (end : End) → is_leaf live end ≡ true → end ≡ end_at live
leaf-is live (Pick picker arms) e = absurd (cc)
leaf-is live (Jump to) e = sym (ap end_at (same-live live (ToLabel to) e))
leaf-is live Return e = sym (ap end_at (same-live live Back e))
leaf-is live Stop e = absurd (cc)
leaf-is live Dead e = absurd (cc)

bare-is : (live : Live) (t : Tree) → is_bare live t ≡ true → t ≡ tree none (end_at live)
bare-is live (tree none end) e = ap (tree none) (leaf-is live end e)
bare-is live (tree (also first others) end) e = absurd (cc)

stays-is : (label : Label) (t : Tree) (body : Stmts) → stays label t ≡ Some body → t ≡ tree body (Jump label)
stays-is label (tree stmts (Pick picker arms)) body e = absurd (cc)
stays-is label (tree stmts (Jump to)) body e =
    elim (to == label) as (λ b. (to == label) ≡ b → (if b then Some stmts else None) ≡ Some body → tree stmts (Jump to) ≡ tree body (Jump label)) [
      | true ↦ λ f e. ap (λ x. tree stmts (Jump x)) (eqb-true to label f) ∙ ap (λ x. tree x (Jump label)) (some-is stmts body e)
      | false ↦ λ f e. absurd (cc)
    ] refl e
  where
    some-is : (a b : Stmts) → Some a ≡ Some b → a ≡ b
    some-is a b e = cc
stays-is label (tree stmts Return) body e = absurd (cc)
stays-is label (tree stmts Stop) body e = absurd (cc)
stays-is label (tree stmts Dead) body e = absurd (cc)

form-inj : (a b : Form) → Some a ≡ Some b → a ≡ b
form-inj a b e = cc

pretest-is : (P : Form → Type 0) (turned : Bool) (test : Test) (bare : Bool) (found : Option Stmts) (other : Option Form) (form : Form) →
    ((body : Stmts) → bare ≡ true → found ≡ Some body → P (record { after = false; turned = turned; test = test; body = body })) → (other ≡ Some form → P form) → pretest turned test bare found other ≡ Some form → P form
pretest-is P turned test true (Some body) other form h k e = subst P (form-inj (record { after = false; turned = turned; test = test; body = body }) form e) (h body refl refl)
pretest-is P turned test true None other form h k e = k e
pretest-is P turned test false found other form h k e = k e

posttest-is : (P : Form → Type 0) (turned : Bool) (test : Test) (body : Stmts) (bare jump : Bool) (other : Option Form) (form : Form) →
    (bare ≡ true → jump ≡ true → P (record { after = true; turned = turned; test = test; body = body })) → (other ≡ Some form → P form) → posttest turned test body bare jump other ≡ Some form → P form
posttest-is P turned test body true true other form h k e = subst P (form-inj (record { after = true; turned = turned; test = test; body = body }) form e) (h refl refl)
posttest-is P turned test body true false other form h k e = k e
posttest-is P turned test body false jump other form h k e = k e

module _ (label : Label) (live : Live) where
  abbrev IsForm : Tree → Form → Type 0
  IsForm t form = t ≡ tested_node form.after form.turned form.test label form.body (end_at live)

  pair : (body : Stmts) (test : Test) (one two a b : Tree) → one ≡ a → two ≡ b → tree body (Pick (If test) (more one (more two no_more))) ≡ tree body (Pick (If test) (more a (more b no_more)))
  pair body test one two a b e f = ap (λ x. tree body (Pick (If test) (more x (more two no_more)))) e ∙ ap (λ x. tree body (Pick (If test) (more a (more x no_more)))) f

  two-is : (body : Stmts) (test : Test) (one two : Tree) (form : Form) → form_two label live body test one two ≡ Some form → IsForm (tree body (Pick (If test) (more one (more two no_more)))) form
  two-is none test one two form e =
      let out = tree none (end_at live) in
      pretest-is (IsForm (tree none (Pick (If test) (more one (more two no_more))))) false test (is_bare live one) (stays label two) (pretest true test (is_bare live two) (stays label one) None) form
      (λ body b s. pair none test one two out (tree body (Jump label)) (bare-is live one b) (stays-is label two body s))
      (λ e. pretest-is (IsForm (tree none (Pick (If test) (more one (more two no_more))))) true test (is_bare live two) (stays label one) None form
      (λ body b s. pair none test one two (tree body (Jump label)) out (stays-is label one body s) (bare-is live two b)) (λ e. absurd (cc)) e) e
  two-is (also first others) test one two form e =
      let body = also first others in
      let out = tree none (end_at live) in
      let back = tree none (Jump label) in
      posttest-is (IsForm (tree body (Pick (If test) (more one (more two no_more))))) false test body (is_bare live one) (is_bare (ToLabel label) two) (posttest true test body (is_bare live two) (is_bare (ToLabel label) one) None) form
      (λ b s. pair body test one two out back (bare-is live one b) (bare-is (ToLabel label) two s))
      (λ e. posttest-is (IsForm (tree body (Pick (If test) (more one (more two no_more))))) true test body (is_bare live two) (is_bare (ToLabel label) one) None form
      (λ b s. pair body test one two back out (bare-is (ToLabel label) one s) (bare-is live two b)) (λ e. absurd (cc)) e) e

  arms-is : (body : Stmts) (test : Test) (arms : Trees) (form : Form) → form_arms label live body test arms ≡ Some form → IsForm (tree body (Pick (If test) arms)) form
  arms-is body test no_more form e = absurd (cc)
  arms-is body test (more one no_more) form e = absurd (cc)
  arms-is body test (more one (more two no_more)) form e = two-is body test one two form e
  arms-is body test (more one (more two (more three others))) form e = absurd (cc)

  pick-is : (body : Stmts) (picker : Picker) (arms : Trees) (form : Form) → form_pick label live body picker arms ≡ Some form → IsForm (tree body (Pick picker arms)) form
  pick-is body (If test) arms form e = arms-is body test arms form e
  pick-is body (By chooser) arms form e = absurd (cc)
  pick-is body (ByCell cell) arms form e = absurd (cc)

  pub form-is : (t : Tree) (form : Form) → form_of label live t ≡ Some form → IsForm t form
  form-is (tree body (Pick picker arms)) form e = pick-is body picker arms form e
  form-is (tree body (Jump to)) form e = absurd (cc)
  form-is (tree body Return) form e = absurd (cc)
  form-is (tree body Stop) form e = absurd (cc)
  form-is (tree body Dead) form e = absurd (cc)
