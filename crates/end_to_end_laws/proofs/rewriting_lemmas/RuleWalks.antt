-- What Join, Inline and Loop do to a graph keeps what walks of its family do, within eight times the
-- units.
use Rattle.std.proofs.Common.{◌≡◌, ◌≢◌, ℕ, Bool, true, false, if◌then◌else◌, ◌==◌, List, [], ◌∷◌, ◌++◌, Option, Some, None, refl, ap, sym, ◌∙◌, subst, ◌⊎◌, inl, inr}
use Rattle.std.proofs.lemmas.Bool.Decides.{eqb_tells}
use Rattle.control_flow_theory.specs.language.Language.{Test, Until, Loop, Stmts, Nested, Range, none}
use Rattle.control_flow_theory.specs.semantics.Doing.{Acting, is_above}
use Rattle.control_flow_theory.specs.language.Items.{before}
use Rattle.control_flow_theory.specs.semantics.Graph.{Label, Tree, tree, End, Pick, Jump, Return, Stop, Dead, Trees, no_more, more, body_of, end_of}
use Rattle.control_flow_theory.specs.graph_rules.Fits.{TestFits, StmtsFit, TreeFits, EndFits}
use Rattle.control_flow_theory.specs.graph_rules.Walked.{In}
use Rattle.control_flow_theory.specs.graph_rules.Joins.{JoinsTree, JumpsEnd, JumpsTree, JumpsTrees}
use Rattle.control_flow_theory.specs.graph_rules.Inlines.{InlinesEnd, InlinesTree, InlinesTrees, Here}
use Rattle.control_flow_theory.specs.graph_rules.Loops.{Keeper, Flagged, Endless, LoopsTree, loop_of, Seen, Unused, turned_test, tested_node}
use Rattle.control_flow_theory.specs.graph_rules.Families.{Added, Never, Flag, IsFamily, Extends, IsSound}
use Rattle.control_flow_theory.specs.graph_rules.Laws.{DoesTheSame}
use Rattle.control_flow_theory.specs.graph_rules.Shapes.{alone, Live, end_at, Targets, NoTarget, Only, Several, inlined, leaves_to, other_targets, flat}
use Rattle.control_flow_theory.specs.graph_rules.Reduced.{Node, Graph, tree_in, kind_at, count, Graphs, family_of, kinds_of, without, with_tree, inline_graph, all_leaves_to, inlines, Form, form_of, looped_graph, close_form, close_by, close_graph, at_most_one, loops}
use Rattle.control_flow_theory.proofs.semantics_lemmas.Ranges.{range-tells}
use Rattle.control_flow_theory.proofs.graph_rules_lemmas.walks.Fitting.{tree-more}
use Rattle.control_flow_theory.proofs.graph_rules_lemmas.shapes.Shaped.{Replaced, wider}
use Rattle.control_flow_theory.proofs.graph_rules_lemmas.shapes.Shaping.{Leaves, inlined-inlines, no-leaves-plain, flat-loops}
use Rattle.control_flow_theory.proofs.graph_rules_lemmas.shapes.ShapeFits.{live-fits, inlined-fits, flat-fits}
use Rattle.control_flow_theory.proofs.graph_rules_lemmas.shapes.Reducing.{each-in, without-in, with-other, with-in, kind-before, kind-next, kind-fresh, form-is}
use Rattle.control_flow_theory.proofs.graph_rules_lemmas.rules.Sounds.{self-tree, join-any, inline-any, tested-any, loop-keeps}
use Rattle.end_to_end_laws.specs.rewriting.rule_walks.Laws.{with_node}

abbrev HasIn : List Added → ℕ → Type 0
HasIn added cell = (kind : Added) × (kind_at added cell ≡ Some kind)

abbrev MaySetIn : List Added → ℕ → Type 0
MaySetIn added cell = HasIn added cell × (kind_at added cell ≢ Some Never)

abbrev FitsGraph : (Range → Type 0) → Graph → Type 0
FitsGraph Calls graph = (l : Label) → TreeFits Calls (HasIn graph.added) (MaySetIn graph.added) (tree_in graph.nodes l)

-- where a tree is put in the place of another, each label has what it had, or that tree for the
-- other
with-at : (label : Label) (t : Tree) (nodes : List Node) → (tree_in (with_tree label t nodes) label ≡ t) ⊎ (tree_in (with_tree label t nodes) label ≡ tree_in nodes label)
with-at label t [] = inr refl
with-at label t (node ∷ nodes) = elim (eqb_tells node.label label) [
  | inl e ↦ inl (ap (λ b. tree_in (if b then record { label = node.label; tree = t } ∷ with_tree label t nodes else node ∷ with_tree label t nodes) label) e.0 ∙ ap (λ b. if b then t else tree_in (with_tree label t nodes) label) e.0)
  | inr e ↦
      let step : tree_in (with_tree label t (node ∷ nodes)) label ≡ tree_in (with_tree label t nodes) label = ap (λ b. tree_in (if b then record { label = node.label; tree = t } ∷ with_tree label t nodes else node ∷ with_tree label t nodes) label) e.0 ∙ ap (λ b. if b then node.tree else tree_in (with_tree label t nodes) label) e.0 in
      let old : tree_in (node ∷ nodes) label ≡ tree_in nodes label = ap (λ b. if b then node.tree else tree_in nodes label) e.0 in
      elim (with-at label t nodes) [ inl f ↦ inl (step ∙ f) | inr f ↦ inr (step ∙ f ∙ sym old) ]
]

with-each : (R : Tree → Tree → Type 0) (label : Label) (t : Tree) (nodes : List Node) → ((u : Tree) → R u u) → R (tree_in nodes label) t → (l : Label) → R (tree_in nodes l) (tree_in (with_tree label t nodes) l)
with-each R label t nodes same new l = elim (eqb_tells l label) [
  | inl e ↦ subst (λ x. R (tree_in nodes x) (tree_in (with_tree label t nodes) x)) (sym e.1) (elim (with-at label t nodes) [
    | inl f ↦ subst (R (tree_in nodes label)) (sym f) new
    | inr f ↦ subst (R (tree_in nodes label)) (sym f) (same (tree_in nodes label))
  ])
  | inr e ↦ subst (R (tree_in nodes l)) (sym (with-other label l t e.1 nodes)) (same (tree_in nodes l))
]

-- any jump is to some label
mutual
  jumps-any : (t : Tree) → JumpsTree (λ l. Unit {0}) t
  jumps-any (tree body end) = end-any end

  end-any : (end : End) → JumpsEnd (λ l. Unit {0}) end
  end-any (Pick picker arms) = trees-any arms
  end-any (Jump to) = tt
  end-any Return = tt
  end-any Stop = tt
  end-any Dead = tt

  trees-any : (arms : Trees) → JumpsTrees (λ l. Unit {0}) arms
  trees-any no_more = tt
  trees-any (more first others) = (jumps-any first, trees-any others)

-- a tree is inlined as itself where no label is meant
mutual
  self-inlines : (here : Label → Type 0) (node t : Tree) → ((l : Label) → here l → ⊥) → InlinesTree here node t (before (body_of t) []) (end_of t)
  self-inlines here node (tree body end) = λ no. ([], refl, end-inlines here node end no)

  end-inlines : (here : Label → Type 0) (node : Tree) (end : End) → ((l : Label) → here l → ⊥) → InlinesEnd here node end [] end
  end-inlines here node (Pick picker arms) = λ no. (arms, refl, refl, trees-inline here node arms no)
  end-inlines here node (Jump to) = λ no. inl (no to, refl, refl)
  end-inlines here node Return = λ no. (refl, refl)
  end-inlines here node Stop = λ no. (refl, refl)
  end-inlines here node Dead = λ no. (refl, refl)

  trees-inline : (here : Label → Type 0) (node : Tree) (arms : Trees) → ((l : Label) → here l → ⊥) → InlinesTrees here node arms arms
  trees-inline here node no_more = λ no. refl
  trees-inline here node (more first others) = λ no. (first, others, refl, self-inlines here node first no, trees-inline here node others no)

module _ (graphs others : Graphs) (range : Range) (graph : Graph) (replaced : Replaced graphs others range graph) where
  node-rest : (r : Range) (l : Label) → r ≢ range → (family_of others).node r l ≡ (family_of graphs).node r l
  node-rest r l d = ap (λ x. tree_in x.nodes l) (replaced.rest r d)

  node-here : (l : Label) → (family_of others).node range l ≡ tree_in graph.nodes l
  node-here l = ap (λ x. tree_in x.nodes l) replaced.here

  entries : graph.entry ≡ (graphs range).entry → (r : Range) → (family_of others).entry r ≡ (family_of graphs).entry r
  entries e r = elim (range-tells r range) [
    | inl d ↦ subst (λ x. (others x).entry ≡ (graphs x).entry) (sym d.1) (ap (λ x. x.entry) replaced.here ∙ e)
    | inr d ↦ ap (λ x. x.entry) (replaced.rest r d.1)
  ]

  -- what holds of a graph's trees one by one
  nodes : (R : Range → Tree → Tree → Type 0) → ((l : Label) → R range (tree_in (graphs range).nodes l) (tree_in graph.nodes l)) → ((r : Range) → r ≢ range → (t : Tree) → R r t t) → (r : Range) (l : Label) → R r ((family_of graphs).node r l) ((family_of others).node r l)
  nodes R mine theirs r l = elim (range-tells r range) [
    | inl d ↦ subst (λ x. R x ((family_of graphs).node x l) ((family_of others).node x l)) (sym d.1) (subst (R range (tree_in (graphs range).nodes l)) (sym (node-here l)) (mine l))
    | inr d ↦ subst (R r ((family_of graphs).node r l)) (sym (node-rest r l d.1)) (theirs r d.1 ((family_of graphs).node r l))
  ]

  extends-next : ((c : ℕ) (k : Added) → kind_at (graphs range).added c ≡ Some k → kind_at graph.added c ≡ Some k) → Extends (kinds_of graphs) (kinds_of others)
  extends-next more_cells r c k is = elim (range-tells r range) [
    | inl d ↦ subst (λ x. kind_at (graphs x).added c ≡ Some k → kind_at (others x).added c ≡ Some k) (sym d.1) (λ is. ap (λ x. kind_at x.added c) replaced.here ∙ more_cells c k is) is
    | inr d ↦ ap (λ x. kind_at x.added c) (replaced.rest r d.1) ∙ is
  ]

  family-next : ((Calls : Range → Type 0) → FitsGraph Calls (graphs range) → FitsGraph Calls graph) → (order : List Range) → IsFamily (kinds_of graphs) (family_of graphs) order → IsFamily (kinds_of others) (family_of others) order
  family-next keeps [] fits = tt
  family-next keeps (first ∷ rest) fits = (fits.0, (λ l. one l), family-next keeps rest fits.2)
    where
      one : (l : Label) → TreeFits (λ to. In to rest) (HasIn (others first).added) (MaySetIn (others first).added) (tree_in (others first).nodes l)
      one l = elim (range-tells first range) [
        | inl d ↦ subst (λ x. FitsGraph (λ to. In to rest) x) (sym (ap others d.1 ∙ replaced.here)) (keeps (λ to. In to rest) (subst (λ x. FitsGraph (λ to. In to rest) (graphs x)) d.1 fits.1)) l
        | inr d ↦ subst (λ x. FitsGraph (λ to. In to rest) x) (sym (replaced.rest first d.1)) fits.1 l
      ]

module _ {Memory Left : Type 0} (acting : Acting Memory) (left : Memory → Left) (order : List Range) where
  abbrev Family-is : Graphs → Type 0
  Family-is graphs = IsFamily (kinds_of graphs) (family_of graphs) order

  abbrev Sound-is : Graphs → Type 0
  Sound-is graphs = IsSound acting left (kinds_of graphs) (family_of graphs) order

  -- the other graphs have the items of the first, and are a sound family that does the same
  pub record Same (graphs others : Graphs) : Type 0 where
    pub extends : Extends (kinds_of graphs) (kinds_of others)
    pub family : IsFamily (kinds_of others) (family_of others) order
    pub does : DoesTheSame Memory Left acting left (kinds_of others) (family_of graphs) (family_of others) order

  as-before : (graphs others : Graphs) → Extends (kinds_of graphs) (kinds_of others) → Family-is graphs → Family-is others → DoesTheSame Memory Left acting left (kinds_of others) (family_of graphs) (family_of others) order → Same graphs others
  as-before graphs others extends fg fh does = record { extends = extends; family = fh; does = does }

  module _ (graphs others : Graphs) (range : Range) (fg : Family-is graphs) (sound : Sound-is graphs) where
    abbrev mine : Graph
    mine = graphs range

    -- nothing has changed
    pub unchanged-same : Replaced graphs others range mine → Same graphs others
    unchanged-same rep =
        let extends = extends-next graphs others range mine rep (λ c k is. is) in
        let fh = family-next graphs others range mine rep (λ Calls h. h) order fg in
        as-before graphs others extends fg fh
        (join-any acting left (kinds_of graphs) (kinds_of others) (family_of graphs) (family_of others) order extends fg fh sound (λ r l. Unit {0})
        (record {
          entries = entries graphs others range mine rep refl;
          enters = λ r. tt;
          closed = λ r l h. jumps-any ((family_of graphs).node r l);
          nodes = λ r l h. nodes graphs others range mine rep (λ r t u. JoinsTree t (before (body_of u) []) (end_of u)) (λ l. self-tree (tree_in mine.nodes l)) (λ r d t. self-tree t) r l;
        }))

    -- one tree is joined in some way
    pub node-same : (label : Label) (t : Tree) → JoinsTree (tree_in mine.nodes label) (before (body_of t) []) (end_of t) → ((Calls : Range → Type 0) → TreeFits Calls (HasIn mine.added) (MaySetIn mine.added) (tree_in mine.nodes label) → TreeFits Calls (HasIn mine.added) (MaySetIn mine.added) t) → Replaced graphs others range (with_node label t mine) → Same graphs others
    node-same label t joins fits rep =
        let graph = with_node label t mine in
        let extends = extends-next graphs others range graph rep (λ c k is. is) in
        let fh = family-next graphs others range graph rep (λ Calls h l. with-each (λ u v. TreeFits Calls (HasIn mine.added) (MaySetIn mine.added) u → TreeFits Calls (HasIn mine.added) (MaySetIn mine.added) v) label t mine.nodes (λ u k. k) (fits Calls) l (h l)) order fg in
        as-before graphs others extends fg fh
        (join-any acting left (kinds_of graphs) (kinds_of others) (family_of graphs) (family_of others) order extends fg fh sound (λ r l. Unit {0})
        (record {
          entries = entries graphs others range graph rep refl;
          enters = λ r. tt;
          closed = λ r l h. jumps-any ((family_of graphs).node r l);
          nodes = λ r l h. nodes graphs others range graph rep (λ r t u. JoinsTree t (before (body_of u) []) (end_of u))
              (λ l. with-each (λ u v. JoinsTree u (before (body_of v) []) (end_of v)) label t mine.nodes self-tree joins l) (λ r d t. self-tree t) r l;
        }))

    pub inline-same : (label : Label) → inlines mine label ≡ true → Replaced graphs others range (inline_graph label mine) → Same graphs others
    inline-same label applies rep =
        let graph = inline_graph label mine in
        let node = tree_in mine.nodes label in
        let extends = extends-next graphs others range graph rep (λ c k is. is) in
        let fh = family-next graphs others range graph rep (λ Calls h l. fits-at Calls h l) order fg in
        let facts = inline-facts label applies in
        as-before graphs others extends fg fh
        (inline-any acting left (kinds_of graphs) (kinds_of others) (family_of graphs) (family_of others) order extends fg fh sound range label
        (record {
          entries = entries graphs others range graph rep refl;
          inside = facts.0;
          plain = no-leaves-plain label (Here range label range) (λ l h. h.1) node facts.1;
          nodes = λ r l other. elim (range-tells r range) [
            | inl d ↦ subst (λ x. (Here range label x l → ⊥) → InlinesTree (Here range label x) node ((family_of graphs).node x l) (before (body_of ((family_of others).node x l)) []) (end_of ((family_of others).node x l))) (sym d.1)
                (λ other. subst (λ u. InlinesTree (Here range label range) node (tree_in mine.nodes l) (before (body_of u) []) (end_of u)) (sym (node-here graphs others range graph rep l ∙ at_label l (λ e. other (refl, e))))
                (inlined-inlines label node (Here range label range) (λ x e. (refl, e)) (λ x e. e.1) (tree_in mine.nodes l))) other
            | inr d ↦ subst (λ u. InlinesTree (Here range label r) node ((family_of graphs).node r l) (before (body_of u) []) (end_of u)) (sym (node-rest graphs others range graph rep r l d.1))
                (self-inlines (Here range label r) node ((family_of graphs).node r l) (λ x h. d.1 h.0))
          ];
        }))
      where
        at_label : (l : Label) → l ≢ label → tree_in (inline_graph label mine).nodes l ≡ inlined label (tree_in mine.nodes label) (tree_in mine.nodes l)
        at_label l other = each-in (inlined label (tree_in mine.nodes label)) refl (without label mine.nodes) l ∙ ap (inlined label (tree_in mine.nodes label)) (without-in label l other mine.nodes)

        gone : (nodes : List Node) → tree_in (without label nodes) label ≡ tree none Dead
        gone [] = refl
        gone (x ∷ nodes) = elim (eqb_tells x.label label) [
          | inl e ↦ ap (λ t. tree_in (if t then without label nodes else x ∷ without label nodes) label) e.0 ∙ gone nodes
          | inr e ↦ ap (λ t. tree_in (if t then without label nodes else x ∷ without label nodes) label) e.0 ∙ ap (λ t. if t then x.tree else tree_in (without label nodes) label) e.0 ∙ gone nodes
        ]

        fits-at : (Calls : Range → Type 0) → FitsGraph Calls mine → FitsGraph Calls (inline_graph label mine)
        fits-at Calls h l = elim (eqb_tells l label) [
          | inl e ↦ subst (TreeFits Calls (HasIn mine.added) (MaySetIn mine.added)) (sym (ap (tree_in (inline_graph label mine).nodes) e.1 ∙ each-in (inlined label (tree_in mine.nodes label)) refl (without label mine.nodes) label ∙ ap (inlined label (tree_in mine.nodes label)) (gone mine.nodes))) (tt, tt)
          | inr e ↦ subst (TreeFits Calls (HasIn mine.added) (MaySetIn mine.added)) (sym (at_label l e.1)) (inlined-fits Calls (HasIn mine.added) (MaySetIn mine.added) label (tree_in mine.nodes label) (h label) (tree_in mine.nodes l) (h l))
        ]

        inline-facts : (label : Label) → inlines mine label ≡ true → (label ≢ mine.entry) × (leaves_to label (tree_in mine.nodes label) ≡ 0)
        inline-facts label e =
            elim (eqb_tells label mine.entry) [
              | inl d ↦ absurd (let q = sym (ap (λ t. if t then false else (if leaves_to label (tree_in mine.nodes label) == 0 then all_leaves_to label mine.nodes == 1 else false)) d.0) ∙ e in cc)
              | inr d ↦ (
                d.1,
                elim (eqb_tells (leaves_to label (tree_in mine.nodes label)) 0) [
                  | inl z ↦ z.1
                  | inr z ↦ absurd (let q = sym (ap (λ t. if t then false else (if leaves_to label (tree_in mine.nodes label) == 0 then all_leaves_to label mine.nodes == 1 else false)) d.0 ∙ ap (λ t. if t then all_leaves_to label mine.nodes == 1 else false) z.0) ∙ e in cc)
                ],
              )
            ]

    -- a node that becomes a loop
    module _ (label : Label) (some : leaves_to label (tree_in mine.nodes label) ≢ 0) where
      abbrev old : Tree
      old = tree_in mine.nodes label

      looped-fits : (t : Tree) (cells : List Added) (Calls : Range → Type 0) → FitsGraph Calls mine → TreeFits Calls (HasIn (mine.added ++ cells)) (MaySetIn (mine.added ++ cells)) t → FitsGraph Calls (looped_graph label t cells mine)
      looped-fits t cells Calls h new l = elim (eqb_tells l label) [
        | inl e ↦ subst (TreeFits Calls (HasIn (mine.added ++ cells)) (MaySetIn (mine.added ++ cells))) (sym (ap (tree_in (with_tree label t mine.nodes)) e.1 ∙ with-in label t mine.nodes some)) new
        | inr e ↦ subst (TreeFits Calls (HasIn (mine.added ++ cells)) (MaySetIn (mine.added ++ cells))) (sym (with-other label l t e.1 mine.nodes)) (wider mine.added cells Calls (tree_in mine.nodes l) (h l))
      ]

      -- the other nodes stay
      rest-same : (t : Tree) (cells : List Added) → Replaced graphs others range (looped_graph label t cells mine) → (r : Range) (l : Label) → (r ≢ range) ⊎ (l ≢ label) → (family_of others).node r l ≡ (family_of graphs).node r l
      rest-same t cells rep r l (inl d) = node-rest graphs others range (looped_graph label t cells mine) rep r l d
      rest-same t cells rep r l (inr d) = elim (range-tells r range) [
        | inl e ↦ subst (λ x. (family_of others).node x l ≡ (family_of graphs).node x l) (sym e.1) (node-here graphs others range (looped_graph label t cells mine) rep l ∙ with-other label l t d mine.nodes)
        | inr e ↦ node-rest graphs others range (looped_graph label t cells mine) rep r l e.1
      ]

      new-node : (t : Tree) (cells : List Added) → Replaced graphs others range (looped_graph label t cells mine) → (family_of others).node range label ≡ t
      new-node t cells rep = node-here graphs others range (looped_graph label t cells mine) rep label ∙ with-in label t mine.nodes some

      -- a loop with a test of its own
      tested-same : (form : Form) (out : End) → ((Calls : Range → Type 0) (Reads Writes : ℕ → Type 0) → EndFits Calls Reads Writes out) → old ≡ tested_node form.after form.turned form.test label form.body out →
          Replaced graphs others range (looped_graph label (tree (alone (Loop (Until form.after (turned_test form.turned form.test)) (Nested form.body))) out) [] mine) → Same graphs others
      tested-same form out out_fits is rep =
          let t = tree (alone (Loop (Until form.after (turned_test form.turned form.test)) (Nested form.body))) out in
          let graph = looped_graph label t [] mine in
          let extends = extends-next graphs others range graph rep (λ c k e. kind-before mine.added [] c k e) in
          let fh = family-next graphs others range graph rep (λ Calls h. looped-fits t [] Calls h (new-fits Calls h)) order fg in
          as-before graphs others extends fg fh
          (tested-any acting left (kinds_of graphs) (kinds_of others) (family_of graphs) (family_of others) order extends fg fh sound form.after form.turned form.test range label out form.body
          (record { entries = entries graphs others range graph rep refl; old = is; new = new-node t [] rep; same = rest-same t [] rep }))
        where
          test-fits : (turned : Bool) (Calls : Range → Type 0) (Reads Writes : ℕ → Type 0) (test : Test) → TestFits Calls Reads Writes test → TestFits Calls Reads Writes (turned_test turned test)
          test-fits false Calls Reads Writes test h = h
          test-fits true Calls Reads Writes test h = h

          node-parts : (after turned : Bool) (Calls : Range → Type 0) (Reads Writes : ℕ → Type 0) (test : Test) (body : Stmts) → TreeFits Calls Reads Writes (tested_node after turned test label body out) → TestFits Calls Reads Writes test × StmtsFit Calls Reads Writes body
          node-parts false false Calls Reads Writes test body h = (h.1.0, h.1.1.1.0.0)
          node-parts false true Calls Reads Writes test body h = (h.1.0, h.1.1.0.0)
          node-parts true false Calls Reads Writes test body h = (h.1.0, h.0)
          node-parts true true Calls Reads Writes test body h = (h.1.0, h.0)

          new-fits : (Calls : Range → Type 0) → FitsGraph Calls mine → TreeFits Calls (HasIn (mine.added ++ [])) (MaySetIn (mine.added ++ [])) (tree (alone (Loop (Until form.after (turned_test form.turned form.test)) (Nested form.body))) out)
          new-fits Calls h =
              let p = node-parts form.after form.turned Calls (HasIn (mine.added ++ [])) (MaySetIn (mine.added ++ [])) form.test form.body (subst (TreeFits Calls (HasIn (mine.added ++ [])) (MaySetIn (mine.added ++ []))) is (wider mine.added [] Calls old (h label))) in
              (((test-fits form.turned Calls (HasIn (mine.added ++ [])) (MaySetIn (mine.added ++ [])) form.test p.0, p.1), tt), out_fits Calls (HasIn (mine.added ++ [])) (MaySetIn (mine.added ++ [])))

      -- a loop that goes on while its cell isn't 1
      celled-same : (keeper : Keeper) (kind : Added) (out : End) → ((Calls : Range → Type 0) (Reads Writes : ℕ → Type 0) → EndFits Calls Reads Writes out) → (keeper ≡ Flagged → kind ≢ Never) → (keeper ≡ Endless → kind ≡ Never) → LoopsTree keeper (count mine.added) label out old (before (flat keeper (count mine.added) label old) []) →
          Replaced graphs others range (looped_graph label (tree (loop_of keeper (count mine.added) (flat keeper (count mine.added) label old)) out) (kind ∷ []) mine) → Same graphs others
      celled-same keeper kind out out_fits settable never turn rep =
          let cell = count mine.added in
          let body = flat keeper cell label old in
          let t = tree (loop_of keeper cell body) out in
          let graph = looped_graph label t (kind ∷ []) mine in
          let extends = extends-next graphs others range graph rep (λ c k e. kind-before mine.added (kind ∷ []) c k e) in
          let fh = family-next graphs others range graph rep (λ Calls h. looped-fits t (kind ∷ []) Calls h (new-fits Calls h)) order fg in
          as-before graphs others extends fg fh
          (loop-keeps acting left (kinds_of graphs) (kinds_of others) (family_of graphs) (family_of others) order extends fg fh sound keeper cell range label out body
          (λ e. ap (λ x. kind_at x.added cell) rep.here ∙ kind-next mine.added kind ∙ ap Some (never e))
          (record { entries = entries graphs others range graph rep refl; node = new-node t (kind ∷ []) rep; turn = turn; same = rest-same t (kind ∷ []) rep; unused = unused order fg }))
        where
          has : HasIn (mine.added ++ kind ∷ []) (count mine.added)
          has = (kind, kind-next mine.added kind)

          sets : keeper ≡ Flagged → MaySetIn (mine.added ++ kind ∷ []) (count mine.added)
          sets e = (has, (λ x. settable e (let y : Some kind ≡ Some Never = sym (kind-next mine.added kind) ∙ x in cc)))

          loop-fits : (k : Keeper) (Calls : Range → Type 0) (body : Stmts) → (k ≡ Flagged → MaySetIn (mine.added ++ kind ∷ []) (count mine.added)) → StmtsFit Calls (HasIn (mine.added ++ kind ∷ [])) (MaySetIn (mine.added ++ kind ∷ [])) body → StmtsFit Calls (HasIn (mine.added ++ kind ∷ [])) (MaySetIn (mine.added ++ kind ∷ [])) (loop_of k (count mine.added) body)
          loop-fits Flagged Calls body w b = (w refl, ((has, b), tt))
          loop-fits Endless Calls body w b = ((has, b), tt)

          new-fits : (Calls : Range → Type 0) → FitsGraph Calls mine → TreeFits Calls (HasIn (mine.added ++ kind ∷ [])) (MaySetIn (mine.added ++ kind ∷ [])) (tree (loop_of keeper (count mine.added) (flat keeper (count mine.added) label old)) out)
          new-fits Calls h =
              (loop-fits keeper Calls (flat keeper (count mine.added) label old) sets (flat-fits Calls (HasIn (mine.added ++ kind ∷ [])) (MaySetIn (mine.added ++ kind ∷ [])) keeper (count mine.added) label sets old (wider mine.added (kind ∷ []) Calls old (h label))), out_fits Calls (HasIn (mine.added ++ kind ∷ [])) (MaySetIn (mine.added ++ kind ∷ [])))

          -- the new cell isn't named
          fresh : (r : Range) (c : ℕ) → HasIn (graphs r).added c → r ≡ range → c ≢ count mine.added
          fresh r c h e d = let x : Some h.0 ≡ None = sym h.1 ∙ ap (λ y. kind_at (graphs y).added c) e ∙ ap (kind_at mine.added) d ∙ kind-fresh mine.added in cc

          seen : (k : Keeper) (c : ℕ) → c ≢ count mine.added → Seen k (count mine.added) c
          seen Flagged c d = d
          seen Endless c d = tt

          unused : (order : List Range) → IsFamily (kinds_of graphs) (family_of graphs) order → Unused keeper range (count mine.added) (family_of graphs) order
          unused [] h = tt
          unused (first ∷ rest) h = (
            h.0,
            (λ l. tree-more (λ to. In to rest) (λ to. In to rest) (HasIn (graphs first).added) (λ c. first ≡ range → Seen keeper (count mine.added) c) (MaySetIn (graphs first).added) (λ c. first ≡ range → c ≢ count mine.added) (λ r k. k)
                (λ c h e. seen keeper c (fresh first c h e)) (λ c h e. fresh first c h.0 e) (tree_in (graphs first).nodes l) (h.1 l)),
            unused rest h.2,
          )

    -- Loop on a node, in the first form that fits
    pub loop-same : (label : Label) → loops mine label ≡ true → Replaced graphs others range (close_graph label mine) → Same graphs others
    loop-same label applies rep = by-targets (other_targets label (tree_in mine.nodes label)) refl rep
      where
        some : leaves_to label (tree_in mine.nodes label) ≢ 0
        some zero_is = let q : false ≡ true = sym (ap (λ n. if is_above n then at_most_one (other_targets label (tree_in mine.nodes label)) else false) zero_is) ∙ applies in cc

        by-form : (live : Live) → other_targets label (tree_in mine.nodes label) ≡ Only live → (form : Option Form) → form_of label live (tree_in mine.nodes label) ≡ form → Replaced graphs others range (close_form label live mine form) → Same graphs others
        by-form live is (Some form) e rep = tested-same label some form (end_at live) (λ Calls Reads Writes. live-fits Calls Reads Writes live) (form-is label live (tree_in mine.nodes label) form e) rep
        by-form live is None e rep =
            celled-same label some Flagged Flag (end_at live) (λ Calls Reads Writes. live-fits Calls Reads Writes live) (λ x y. cc) (λ x. absurd (cc))
            (flat-loops Flagged (count mine.added) label (end_at live) (tree_in mine.nodes label) (leaves-only live (other_targets label (tree_in mine.nodes label)) is)) rep
          where
            leaves-only : (live : Live) (targets : Targets) → targets ≡ Only live → Leaves Flagged (count mine.added) label (end_at live) targets
            leaves-only live targets e = subst (Leaves Flagged (count mine.added) label (end_at live)) (sym e) (refl, refl)

        by-targets : (targets : Targets) → other_targets label (tree_in mine.nodes label) ≡ targets → Replaced graphs others range (close_by label mine targets) → Same graphs others
        by-targets NoTarget is rep =
            celled-same label some Endless Never Dead (λ Calls Reads Writes. tt) (λ x. absurd (cc)) (λ x. refl)
            (flat-loops Endless (count mine.added) label Dead (tree_in mine.nodes label) (subst (Leaves Endless (count mine.added) label Dead) (sym is) tt)) rep
        by-targets (Only live) is rep = by-form live is (form_of label live (tree_in mine.nodes label)) refl rep
        by-targets Several is rep = unchanged-same rep
