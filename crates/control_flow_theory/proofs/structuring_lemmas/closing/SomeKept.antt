-- The rules lose no part: what stands in a statement of a graph, or is a choice at an end, stands in what they make of it.
use Rattle.std.proofs.Common.{◌≡◌, ℕ, zero, suc, ◌+◌, ◌-◌, Bool, true, false, if◌then◌else◌, ◌==◌, List, [], ◌∷◌, Option, Some, None, refl, ap, sym, ◌∙◌, subst, arith, ◌⊎◌, inl, inr}
use Rattle.std.proofs.lemmas.Bool.Decides.{eqb_tells}
use Rattle.control_flow_theory.specs.language.Language.{Set, Test, If, Picker, Is, Above, ByCell, Control, Until, Do, Choose, Loop, StopRun, Stmts, none, also, Arms, given, Nested, Main}
use Rattle.control_flow_theory.specs.semantics.Doing.{is_above}
use Rattle.control_flow_theory.specs.semantics.Graph.{Label, Tree, tree, End, Pick, Jump, Return, Stop, Dead, Trees, no_more, more, body_of, end_of, Family}
use Rattle.control_flow_theory.specs.rendering.Rendering.{count_arms}
use Rattle.control_flow_theory.specs.lowering.WellFormed.{tree_count}
use Rattle.control_flow_theory.specs.graph_rules.Loops.{Keeper, Flagged, Endless, turned_test, tested_node}
use Rattle.control_flow_theory.specs.graph_rules.Shapes.{followed, alone, Live, ToLabel, Back, end_at, Targets, NoTarget, Only, Several, both_targets, leaf_targets, arms_targets, last_stmts, arms_stmts, join_by, joined, join_end, joined_arms, inlined, inline_end, inlined_arms, leaves_to, end_leaves_to, arms_leaves_to, other_targets, flat, flat_end, flat_arms}
use Rattle.control_flow_theory.specs.graph_rules.Reduced.{Node, Graph, tree_in, count, with_tree, without, each_tree, join_graph, inline_graph, all_leaves_to, inlines, Form, form_of, close_form, close_by, size}
use Rattle.control_flow_theory.specs.structuring.Dispatches.{number_in, stated_end, stated_tree, stated_arms, length_of, set_to, exit_jump, state_jump, node_arms, labels_of, Numbered, AreNodes}
use Rattle.control_flow_theory.specs.structuring.Targets.{targets_of, with_exits}
use Rattle.control_flow_theory.specs.structuring.Closes.{none_left_out, exits_graph, dispatch_graph, dispatch_rest, closed_graph, IsClosed}
use Rattle.control_flow_theory.specs.structuring.Laws.{PlainEnd}
use Rattle.control_flow_theory.proofs.semantics_lemmas.Ranges.{eq-self}
use Rattle.control_flow_theory.proofs.graph_rules_lemmas.shapes.Reducing.{form-is}
use Rattle.control_flow_theory.proofs.structuring_lemmas.gathering.Targets.{numbered-cases}
use Rattle.control_flow_theory.proofs.structuring_lemmas.closing.Closes.{are-nodes}
use Rattle.control_flow_theory.proofs.structuring_lemmas.closing.InOrder.{Kept}
use Rattle.control_flow_theory.proofs.structuring_lemmas.closing.StayClosed.{exits-closed, dispatch-closed}
use Rattle.control_flow_theory.proofs.structuring_lemmas.closing.RulesStayClosed.{join-closed, inline-closed, loop-closed, lowest-is}
use Rattle.control_flow_theory.proofs.structuring_lemmas.closing.ClosedEnding.{closed-ends}
use Rattle.control_flow_theory.proofs.main_theorem_lemmas.graphs.ArmCounts.{last-several, joined-count, arms-count, inlined-count, flat-count, stated-count}

-- it stands in a tree, an end, a node: in its statements, or as the choice at its end
module _ (In : Stmts → Type 0) (Picks : Picker → ℕ → Type 0) where
  abbrev mutual
    pub SomeTree : Tree → Type 0
    SomeTree (tree body end) = In body ⊎ SomeEnd end

    pub SomeEnd : End → Type 0
    SomeEnd (Pick picker arms) = Picks picker (tree_count arms) ⊎ SomeTrees arms
    SomeEnd (Jump to) = ⊥
    SomeEnd Return = ⊥
    SomeEnd Stop = ⊥
    SomeEnd Dead = ⊥

    pub SomeTrees : Trees → Type 0
    SomeTrees no_more = ⊥
    SomeTrees (more first others) = SomeTree first ⊎ SomeTrees others

  abbrev pub SomeNode : List Node → Type 0
  SomeNode [] = ⊥
  SomeNode (node ∷ nodes) = SomeTree node.tree ⊎ SomeNode nodes

-- What stands in statements stands in all that holds them; a choice by a test isn't looked for.
pub record Finds (In : Stmts → Type 0) (InArms : Arms → Type 0) (Picks : Picker → ℕ → Type 0) : Type 0 where
  pub nowhere : In none → ⊥
  pub left : (a b : Stmts) → In a → In (followed a b)
  pub right : (a b : Stmts) → In b → In (followed a b)
  pub first : (arm : Stmts) (others : Arms) → In arm → InArms (given arm others)
  pub later : (arm : Stmts) (others : Arms) → InArms others → InArms (given arm others)
  pub chooses : (picker : Picker) (arms : Arms) → Picks picker (count_arms arms) ⊎ InArms arms → In (alone (Choose picker arms))
  pub loops : (control : Control) (body : Stmts) → In body → In (alone (Loop control (Nested body)))
  pub tests : (test : Test) (arms : ℕ) → Picks (If test) arms → ⊥

module _ (In : Stmts → Type 0) (InArms : Arms → Type 0) (Picks : Picker → ℕ → Type 0) (finds : Finds In InArms Picks) where
  abbrev IsTree : Tree → Type 0
  IsTree t = SomeTree In Picks t

  abbrev IsEnd : End → Type 0
  IsEnd end = SomeEnd In Picks end

  abbrev AreTrees : Trees → Type 0
  AreTrees trees = SomeTrees In Picks trees

  abbrev SomeOf : List Node → Type 0
  SomeOf nodes = SomeNode In Picks nodes

  chosen : (body : Stmts) (picker : Picker) (arms : Arms) (n : ℕ) → count_arms arms ≡ n → Picks picker n ⊎ InArms arms → In (followed body (alone (Choose picker arms)))
  chosen body picker arms n e h =
      finds.right body (alone (Choose picker arms)) (finds.chooses picker arms (elim h [ inl p ↦ inl (subst (Picks picker) (sym e) p) | inr k ↦ inr k ]))

  -- Join.

  arm-some : (body : Stmts) (end : End) → (leaf_targets end ≡ Several → ⊥) → (In body ⊎ IsEnd end) → In (followed body (last_stmts end))
  arm-some body (Pick picker arms) n h = absurd (n refl)
  arm-some body (Jump to) n h = elim h [ inl c ↦ finds.left body none c | inr k ↦ absurd k ]
  arm-some body Return n h = elim h [ inl c ↦ finds.left body none c | inr k ↦ absurd k ]
  arm-some body Stop n h = elim h [ inl c ↦ finds.left body (alone StopRun) c | inr k ↦ absurd k ]
  arm-some body Dead n h = elim h [ inl c ↦ finds.left body none c | inr k ↦ absurd k ]

  arms-stmts-some : (arms : Trees) → (arms_targets arms ≡ Several → ⊥) → AreTrees arms → InArms (arms_stmts arms)
  arms-stmts-some no_more n k = absurd k
  arms-stmts-some (more (tree body end) others) n k = elim k [
    | inl c ↦ finds.first (followed body (last_stmts end)) (arms_stmts others) (arm-some body end (λ e. n (ap (λ t. both_targets t (arms_targets others)) e)) c)
    | inr c ↦ finds.later (followed body (last_stmts end)) (arms_stmts others) (arms-stmts-some others (λ e. n (ap (both_targets (leaf_targets end)) e ∙ last-several (leaf_targets end))) c)
  ]

  joined-body : (body : Stmts) (picker : Picker) (arms : Trees) → (arms_targets arms ≡ Several → ⊥) → (In body ⊎ IsEnd (Pick picker arms)) → In (followed body (alone (Choose picker (arms_stmts arms))))
  joined-body body picker arms n h = elim h [
    | inl c ↦ finds.left body (alone (Choose picker (arms_stmts arms))) c
    | inr k ↦ chosen body picker (arms_stmts arms) (tree_count arms) (arms-count arms) (elim k [ inl p ↦ inl p | inr t ↦ inr (arms-stmts-some arms n t) ])
  ]

  join-by-some : (body : Stmts) (picker : Picker) (arms : Trees) (targets : Targets) → arms_targets arms ≡ targets → (In body ⊎ IsEnd (Pick picker arms)) → IsTree (join_by body picker arms targets)
  join-by-some body picker arms NoTarget e h = inl (joined-body body picker arms (λ s. (let x : NoTarget ≡ Several = sym e ∙ s in cc)) h)
  join-by-some body picker arms (Only live) e h = inl (joined-body body picker arms (λ s. (let x : Only live ≡ Several = sym e ∙ s in cc)) h)
  join-by-some body picker arms Several e h = h

  mutual
    joined-some : (t : Tree) → IsTree t → IsTree (joined t)
    joined-some (tree body end) = λ h. join-end-some body end h

    join-end-some : (body : Stmts) (end : End) → (In body ⊎ IsEnd end) → IsTree (join_end body end)
    join-end-some body (Pick picker arms) = λ h. join-by-some body picker (joined_arms arms) (arms_targets (joined_arms arms)) refl (elim h [
      | inl c ↦ inl c
      | inr k ↦ inr (elim k [ inl p ↦ inl (subst (Picks picker) (sym (joined-count arms)) p) | inr t ↦ inr (joined-arms-some arms t) ])
    ])
    join-end-some body (Jump to) = λ h. h
    join-end-some body Return = λ h. h
    join-end-some body Stop = λ h. h
    join-end-some body Dead = λ h. h

    joined-arms-some : (arms : Trees) → AreTrees arms → AreTrees (joined_arms arms)
    joined-arms-some no_more = λ h. h
    joined-arms-some (more first others) = λ h. elim h [ inl c ↦ inl (joined-some first c) | inr k ↦ inr (joined-arms-some others k) ]

  -- Inline.

  brought : (body : Stmts) (node : Tree) → IsTree node → IsTree (tree (followed body (body_of node)) (end_of node))
  brought body (tree nested end) h = elim h [ inl c ↦ inl (finds.right body nested c) | inr k ↦ inr k ]

  one-of : (a b n : ℕ) → a + b ≡ suc n → ((m : ℕ) × (a ≡ suc m)) ⊎ ((m : ℕ) × (b ≡ suc m))
  one-of zero b n e = inr (n, omega (arith, e))
  one-of (suc a) b n e = inl (a, refl)

  module _ (label : Label) (node : Tree) where
    mutual
      inlined-some : (t : Tree) → IsTree t → IsTree (inlined label node t)
      inlined-some (tree body end) = λ h. inline-end-some body end h

      inline-end-some : (body : Stmts) (end : End) → (In body ⊎ IsEnd end) → IsTree (inline_end label node body end)
      inline-end-some body (Pick picker arms) = λ h. elim h [
        | inl c ↦ inl c
        | inr k ↦ inr (elim k [ inl p ↦ inl (subst (Picks picker) (sym (inlined-count label node arms)) p) | inr t ↦ inr (inlined-arms-some arms t) ])
      ]
      inline-end-some body (Jump to) = λ h. elim h [
        | inl c ↦ elim (to == label) as (λ b. IsTree (if b then tree (followed body (body_of node)) (end_of node) else tree body (Jump to))) [
          | true ↦ inl (finds.left body (body_of node) c)
          | false ↦ inl c
        ]
        | inr k ↦ absurd k
      ]
      inline-end-some body Return = λ h. h
      inline-end-some body Stop = λ h. h
      inline-end-some body Dead = λ h. h

      inlined-arms-some : (arms : Trees) → AreTrees arms → AreTrees (inlined_arms label node arms)
      inlined-arms-some no_more = λ h. h
      inlined-arms-some (more first others) = λ h. elim h [ inl c ↦ inl (inlined-some first c) | inr k ↦ inr (inlined-arms-some others k) ]

    -- where a leaf jumps to the node, what the node performs comes with it
    module _ (has : IsTree node) where
      mutual
        brings : (t : Tree) (n : ℕ) → leaves_to label t ≡ suc n → IsTree (inlined label node t)
        brings (tree body end) = λ n e. end-brings body end n e

        end-brings : (body : Stmts) (end : End) (n : ℕ) → end_leaves_to label end ≡ suc n → IsTree (inline_end label node body end)
        end-brings body (Pick picker arms) = λ n e. inr (inr (arms-bring arms n e))
        end-brings body (Jump to) = λ n e. elim (to == label) as (λ b. (if b then 1 else 0) ≡ suc n → IsTree (if b then tree (followed body (body_of node)) (end_of node) else tree body (Jump to))) [
          | true ↦ λ f. brought body node has
          | false ↦ λ f. absurd (cc)
        ] e
        end-brings body Return = λ n e. absurd (cc)
        end-brings body Stop = λ n e. absurd (cc)
        end-brings body Dead = λ n e. absurd (cc)

        arms-bring : (arms : Trees) (n : ℕ) → arms_leaves_to label arms ≡ suc n → AreTrees (inlined_arms label node arms)
        arms-bring no_more = λ n e. absurd (cc)
        arms-bring (more first others) = λ n e. elim (one-of (leaves_to label first) (arms_leaves_to label others) n e) [
          | inl m ↦ inl (brings first m.0 m.1)
          | inr m ↦ inr (arms-bring others m.0 m.1)
        ]

  -- Loops.

  module _ (keeper : Keeper) (cell : ℕ) (label : Label) where
    mutual
      flat-some : (t : Tree) → IsTree t → In (flat keeper cell label t)
      flat-some (tree body end) = λ h. elim h [ inl c ↦ finds.left body (flat_end keeper cell label end) c | inr k ↦ flat-end-some body end k ]

      flat-end-some : (body : Stmts) (end : End) → IsEnd end → In (followed body (flat_end keeper cell label end))
      flat-end-some body (Pick picker arms) = λ k. chosen body picker (flat_arms keeper cell label arms) (tree_count arms) (flat-count keeper cell label arms) (elim k [ inl p ↦ inl p | inr t ↦ inr (flat-arms-some arms t) ])
      flat-end-some body (Jump to) = λ k. absurd k
      flat-end-some body Return = λ k. absurd k
      flat-end-some body Stop = λ k. absurd k
      flat-end-some body Dead = λ k. absurd k

      flat-arms-some : (arms : Trees) → AreTrees arms → InArms (flat_arms keeper cell label arms)
      flat-arms-some no_more = λ k. absurd k
      flat-arms-some (more first others) = λ k. elim k [
        | inl c ↦ finds.first (flat keeper cell label first) (flat_arms keeper cell label others) (flat-some first c)
        | inr c ↦ finds.later (flat keeper cell label first) (flat_arms keeper cell label others) (flat-arms-some others c)
      ]

  module _ (jump : Label → Stmts) (return : Stmts) where
    mutual
      stated-some : (t : Tree) → IsTree t → In (stated_tree none_left_out jump return t)
      stated-some (tree body end) = λ h. elim h [ inl c ↦ finds.left body (stated_end none_left_out jump return end) c | inr k ↦ stated-end-some body end k ]

      stated-end-some : (body : Stmts) (end : End) → IsEnd end → In (followed body (stated_end none_left_out jump return end))
      stated-end-some body (Pick picker arms) = λ k. chosen body picker (stated_arms none_left_out jump return picker 0 arms) (tree_count arms) (stated-count jump return picker 0 arms) (elim k [ inl p ↦ inl p | inr t ↦ inr (stated-arms-some picker 0 arms t) ])
      stated-end-some body (Jump to) = λ k. absurd k
      stated-end-some body Return = λ k. absurd k
      stated-end-some body Stop = λ k. absurd k
      stated-end-some body Dead = λ k. absurd k

      stated-arms-some : (picker : Picker) (k : ℕ) (arms : Trees) → AreTrees arms → InArms (stated_arms none_left_out jump return picker k arms)
      stated-arms-some picker k no_more = λ h. absurd h
      stated-arms-some picker k (more first others) = λ h. elim h [
        | inl c ↦ finds.first (stated_tree none_left_out jump return first) (stated_arms none_left_out jump return picker (suc k) others) (stated-some first c)
        | inr c ↦ finds.later (stated_tree none_left_out jump return first) (stated_arms none_left_out jump return picker (suc k) others) (stated-arms-some picker (suc k) others c)
      ]

  -- what the node of a loop with a test performs, its body performs
  no-leaf : (body : Stmts) (live : Live) → IsTree (tree body (end_at live)) → In body
  no-leaf body (ToLabel to) h = elim h [ inl c ↦ c | inr k ↦ absurd k ]
  no-leaf body Back h = elim h [ inl c ↦ c | inr k ↦ absurd k ]

  by-arms : (test : Test) (one two : Tree) → IsEnd (Pick (If test) (more one (more two no_more))) → IsTree one ⊎ IsTree two
  by-arms test one two h = elim h [
    | inl p ↦ absurd (finds.tests test 2 p)
    | inr t ↦ elim t [ inl c ↦ inl c | inr k ↦ elim k [ inl c ↦ inr c | inr z ↦ absurd z ] ]
  ]

  of-jump : (label : Label) (body : Stmts) → IsTree (tree body (Jump label)) → In body
  of-jump label body h = no-leaf body (ToLabel label) h

  tested-some : (after turned : Bool) (label : Label) (body : Stmts) (live : Live) (test : Test) → IsTree (tested_node after turned test label body (end_at live)) → In body
  tested-some false false label body live test h = elim h [
    | inl c ↦ absurd (finds.nowhere c)
    | inr k ↦ elim (by-arms test (tree none (end_at live)) (tree body (Jump label)) k) [ inl c ↦ absurd (finds.nowhere (no-leaf none live c)) | inr c ↦ of-jump label body c ]
  ]
  tested-some false true label body live test h = elim h [
    | inl c ↦ absurd (finds.nowhere c)
    | inr k ↦ elim (by-arms test (tree body (Jump label)) (tree none (end_at live)) k) [ inl c ↦ of-jump label body c | inr c ↦ absurd (finds.nowhere (no-leaf none live c)) ]
  ]
  tested-some true false label body live test h = elim h [
    | inl c ↦ c
    | inr k ↦ elim (by-arms test (tree none (end_at live)) (tree none (Jump label)) k) [ inl c ↦ absurd (finds.nowhere (no-leaf none live c)) | inr c ↦ absurd (finds.nowhere (of-jump label none c)) ]
  ]
  tested-some true true label body live test h = elim h [
    | inl c ↦ c
    | inr k ↦ elim (by-arms test (tree none (Jump label)) (tree none (end_at live)) k) [ inl c ↦ absurd (finds.nowhere (of-jump label none c)) | inr c ↦ absurd (finds.nowhere (no-leaf none live c)) ]
  ]

  -- Graphs.

  abbrev Family-of : List Node → Family
  Family-of nodes = record { entry = λ r. 0; node = λ r l. tree_in nodes l }

  abbrev AreFound : List Node → List Node → (Label → Type 0) → Type 0
  AreFound whole nodes P = AreNodes (Family-of whole) Main P nodes

  found-by : (graph : Graph) → IsClosed graph → AreFound graph.nodes graph.nodes (Numbered (labels_of graph.nodes))
  found-by graph closed = are-nodes (Family-of graph.nodes) Main (labels_of graph.nodes) graph.nodes closed.rising (λ l t e n. e) closed.jumps

  each-some : (f : Tree → Tree) → ((t : Tree) → IsTree t → IsTree (f t)) → (nodes : List Node) → SomeOf nodes → SomeOf (each_tree f nodes)
  each-some f k [] h = h
  each-some f k (node ∷ nodes) h = elim h [ inl c ↦ inl (k node.tree c) | inr d ↦ inr (each-some f k nodes d) ]

  module _ (whole : List Node) (P : Label → Type 0) (label : Label) where
    here-is : (x : Node) → tree_in whole x.label ≡ x.tree → x.label ≡ label → x.tree ≡ tree_in whole label
    here-is x found e = sym found ∙ ap (tree_in whole) e

    with-some : (t : Tree) → (IsTree (tree_in whole label) → IsTree t) → (xs : List Node) → AreFound whole xs P → SomeOf xs → SomeOf (with_tree label t xs)
    with-some t f [] found h = h
    with-some t f (x ∷ xs) found h =
        let put : Node = record { label = x.label; tree = t } in
        elim (eqb_tells x.label label) [
          | inl e ↦ subst (λ b. SomeOf (if b then put ∷ with_tree label t xs else x ∷ with_tree label t xs)) (sym e.0)
              (elim h [ inl c ↦ inl (f (subst (IsTree) (here-is x found.0 e.1) c)) | inr k ↦ inr (with-some t f xs found.2 k) ])
          | inr e ↦ subst (λ b. SomeOf (if b then put ∷ with_tree label t xs else x ∷ with_tree label t xs)) (sym e.0)
              (elim h [ inl c ↦ inl c | inr k ↦ inr (with-some t f xs found.2 k) ])
        ]

    -- the holder is the node, or stays
    holder : (xs : List Node) → AreFound whole xs P → SomeOf xs → IsTree (tree_in whole label) ⊎ SomeOf (without label xs)
    holder [] found h = absurd h
    holder (x ∷ xs) found h = elim (eqb_tells x.label label) [
      | inl e ↦ subst (λ b. IsTree (tree_in whole label) ⊎ SomeOf (if b then without label xs else x ∷ without label xs)) (sym e.0)
          (elim h [ inl c ↦ inl (subst (IsTree) (here-is x found.0 e.1) c) | inr k ↦ holder xs found.2 k ])
      | inr e ↦ subst (λ b. IsTree (tree_in whole label) ⊎ SomeOf (if b then without label xs else x ∷ without label xs)) (sym e.0)
          (elim h [ inl c ↦ inr (inl c) | inr k ↦ elim (holder xs found.2 k) [ inl c ↦ inl c | inr d ↦ inr (inr d) ] ])
    ]

    -- another node jumps to it
    jumper : (node : Tree) → IsTree node → leaves_to label (tree_in whole label) ≡ 0 → (xs : List Node) → AreFound whole xs P → (n : ℕ) → all_leaves_to label xs ≡ suc n → SomeOf (each_tree (inlined label node) (without label xs))
    jumper node chooses never [] found n e = absurd (cc)
    jumper node chooses never (x ∷ xs) found n e = elim (one-of (leaves_to label x.tree) (all_leaves_to label xs) n e) [
      | inl m ↦ elim (eqb_tells x.label label) [
        | inl f ↦ absurd (let z : suc m.0 ≡ 0 = sym m.1 ∙ ap (leaves_to label) (here-is x found.0 f.1) ∙ never in cc)
        | inr f ↦ subst (λ b. SomeOf (each_tree (inlined label node) (if b then without label xs else x ∷ without label xs))) (sym f.0) (inl (brings label node chooses x.tree m.0 m.1))
      ]
      | inr m ↦ elim (eqb_tells x.label label) [
        | inl f ↦ subst (λ b. SomeOf (each_tree (inlined label node) (if b then without label xs else x ∷ without label xs))) (sym f.0) (jumper node chooses never xs found.2 m.0 m.1)
        | inr f ↦ subst (λ b. SomeOf (each_tree (inlined label node) (if b then without label xs else x ∷ without label xs))) (sym f.0) (inr (jumper node chooses never xs found.2 m.0 m.1))
      ]
    ]

  both-of : (a b c : Bool) → (if a then false else (if b then c else false)) ≡ true → (b ≡ true) × (c ≡ true)
  both-of true b c e = absurd (let f : false ≡ true = e in cc)
  both-of false true c e = (refl, e)
  both-of false false c e = absurd (let f : false ≡ true = e in cc)

  is-number : (a b : ℕ) → a == b ≡ true → a ≡ b
  is-number a b e = elim (eqb_tells a b) [ inl f ↦ f.1 | inr f ↦ absurd (let x = sym f.0 ∙ e in cc) ]

  inline-some : (label : Label) (graph : Graph) → inlines graph label ≡ true → IsClosed graph → SomeOf graph.nodes → SomeOf (inline_graph label graph).nodes
  inline-some label graph applies closed h =
      let node = tree_in graph.nodes label in
      let P = Numbered (labels_of graph.nodes) in
      let both = both-of (label == graph.entry) (leaves_to label node == 0) (all_leaves_to label graph.nodes == 1) applies in
      elim (holder graph.nodes P label graph.nodes (found-by graph closed) h) [
        | inl c ↦ jumper graph.nodes P label node c (is-number (leaves_to label node) 0 both.0) graph.nodes (found-by graph closed) 0 (is-number (all_leaves_to label graph.nodes) 1 both.1)
        | inr k ↦ each-some (inlined label node) (inlined-some label node) (without label graph.nodes) k
      ]

  pub join-graph-some : (graph : Graph) → SomeOf graph.nodes → SomeOf (join_graph graph).nodes
  join-graph-some graph h = each-some joined joined-some graph.nodes h

  -- a tree that is put to a node stands there
  pub put-some : (label : Label) (t : Tree) → IsTree t → (nodes : List Node) → Numbered (labels_of nodes) label → SomeOf (with_tree label t nodes)
  put-some label t c [] n = absurd (let e = n.1 in omega (arith, e))
  put-some label t c (x ∷ xs) n =
      let put : Node = record { label = x.label; tree = t } in
      elim (eqb_tells x.label label) [
        | inl e ↦ subst (λ b. SomeOf (if b then put ∷ with_tree label t xs else x ∷ with_tree label t xs)) (sym e.0) (inl c)
        | inr e ↦ subst (λ b. SomeOf (if b then put ∷ with_tree label t xs else x ∷ with_tree label t xs)) (sym e.0)
            (inr (put-some label t c xs (elim (numbered-cases x.label label (labels_of xs) n) [ inl is ↦ absurd (e.1 is) | inr k ↦ k ])))
      ]

  replaced-some : (label : Label) (graph : Graph) (t : Tree) → IsClosed graph → (IsTree (tree_in graph.nodes label) → IsTree t) → SomeOf graph.nodes → SomeOf (with_tree label t graph.nodes)
  replaced-some label graph t closed f h = with-some graph.nodes (Numbered (labels_of graph.nodes)) label t f graph.nodes (found-by graph closed) h

  -- a loop stands behind a number that its cell takes
  looped : (cell number : ℕ) (test : Test) (body : Stmts) → In body → In (also (Do (Set cell number)) (also (Loop (Until false test) (Nested body)) none))
  looped cell number test body h = finds.right (alone (Do (Set cell number))) (alone (Loop (Until false test) (Nested body))) (finds.loops (Until false test) body h)

  close-form-some : (label : Label) (live : Live) (graph : Graph) (form : Option Form) → form_of label live (tree_in graph.nodes label) ≡ form → IsClosed graph → SomeOf graph.nodes → SomeOf (close_form label live graph form).nodes
  close-form-some label live graph (Some form) e closed h =
      let t = tree_in graph.nodes label in
      let control = Until form.after (turned_test form.turned form.test) in
      replaced-some label graph (tree (alone (Loop control (Nested form.body))) (end_at live)) closed
      (λ c. inl (finds.loops control form.body (tested-some form.after form.turned label form.body live form.test (subst IsTree (form-is label live t form e) c)))) h
  close-form-some label live graph None e closed h =
      let cell = count graph.added in
      let body = flat Flagged cell label (tree_in graph.nodes label) in
      replaced-some label graph (tree (also (Do (Set cell 0)) (also (Loop (Until false (Is cell 1)) (Nested body)) none)) (end_at live)) closed
      (λ c. inl (looped cell 0 (Is cell 1) body (flat-some Flagged cell label (tree_in graph.nodes label) c))) h

  close-by-some : (label : Label) (graph : Graph) (targets : Targets) → IsClosed graph → SomeOf graph.nodes → SomeOf (close_by label graph targets).nodes
  close-by-some label graph NoTarget closed h =
      let cell = count graph.added in
      let body = flat Endless cell label (tree_in graph.nodes label) in
      replaced-some label graph (tree (also (Loop (Until false (Is cell 1)) (Nested body)) none) Dead) closed
      (λ c. inl (finds.loops (Until false (Is cell 1)) body (flat-some Endless cell label (tree_in graph.nodes label) c))) h
  close-by-some label graph (Only live) closed h = close-form-some label live graph (form_of label live (tree_in graph.nodes label)) refl closed h
  close-by-some label graph Several closed h = h

  exits-some : (label : Label) (graph : Graph) → IsClosed graph → SomeOf graph.nodes → SomeOf (exits_graph label graph).nodes
  exits-some label graph closed h =
      let exit = count graph.added in
      let t = tree_in graph.nodes label in
      let targets = targets_of label t in
      let jump = exit_jump exit label targets in
      let last = set_to exit (suc (length_of targets)) in
      replaced-some label graph (with_exits none_left_out exit label t) closed (λ c. inl (looped exit 0 (Above exit) (stated_tree none_left_out jump last t) (stated-some jump last t c))) h

  node-arms-some : (state : ℕ) (labels : List Label) (nodes : List Node) → SomeOf nodes → InArms (node_arms none_left_out state labels nodes)
  node-arms-some state labels [] h = absurd h
  node-arms-some state labels (node ∷ nodes) h = elim h [
    | inl c ↦ finds.first (stated_tree none_left_out (state_jump state labels) (set_to state 0) node.tree) (node_arms none_left_out state labels nodes) (stated-some (state_jump state labels) (set_to state 0) node.tree c)
    | inr k ↦ finds.later (stated_tree none_left_out (state_jump state labels) (set_to state 0) node.tree) (node_arms none_left_out state labels nodes) (node-arms-some state labels nodes k)
  ]

  -- in the one node of a dispatch, where its choice by the new cell is what is looked for, or some node has it
  pub dispatched-some : (graph : Graph) → Picks (ByCell (count graph.added)) (count_arms (node_arms none_left_out (count graph.added) (labels_of graph.nodes) graph.nodes)) ⊎ SomeOf graph.nodes → SomeOf (dispatch_graph graph).nodes
  dispatched-some graph h =
      let state = count graph.added in
      let arms = node_arms none_left_out state (labels_of graph.nodes) graph.nodes in
      inl (inl (looped state (number_in (labels_of graph.nodes) graph.entry) (Is state 0) (alone (Choose (ByCell state) arms)) (finds.chooses (ByCell state) arms (elim h [ inl p ↦ inl p | inr k ↦ inr (node-arms-some state (labels_of graph.nodes) graph.nodes k) ]))))

  -- All rules in their order.

  abbrev pub Stays : Graph → Type 0
  Stays graph = IsClosed graph × SomeOf graph.nodes

  pub rules-lose-none : Kept Stays
  rules-lose-none = record {
    joins = λ graph h. (join-closed graph h.0, join-graph-some graph h.1);
    inlines = λ graph label e h. (let applies = lowest-is (inlines graph) graph.nodes label e in (inline-closed graph label applies h.0, inline-some label graph applies h.0 h.1));
    closes = λ graph label e h. (loop-closed graph label h.0, close-by-some label graph (other_targets label (tree_in graph.nodes label)) h.0 h.1);
    exits = λ graph label e h. (exits-closed graph label h.0, exits-some label graph h.0 h.1);
    dispatches = λ graph e h. (dispatch-closed graph, dispatched-some graph (inr h.1));
  }

  pub rest-some : (graph : Graph) → SomeOf graph.nodes → SomeOf (dispatch_rest graph).nodes
  rest-some graph h = elim (is_above (size graph.nodes - 1)) as (λ b. SomeOf (if b then dispatch_graph graph else graph).nodes) [ true ↦ dispatched-some graph (inr h) | false ↦ h ]

  plain-some : (t : Tree) → PlainEnd (end_of t) → IsTree t → In (body_of t)
  plain-some (tree body (Pick picker arms)) p h = absurd p
  plain-some (tree body (Jump to)) p h = absurd p
  plain-some (tree body Return) p h = elim h [ inl c ↦ c | inr k ↦ absurd k ]
  plain-some (tree body Stop) p h = elim h [ inl c ↦ c | inr k ↦ absurd k ]
  plain-some (tree body Dead) p h = elim h [ inl c ↦ c | inr k ↦ absurd k ]

  -- what stands in a node of a closed graph stands in the body that is written of it
  pub written-some : (graph : Graph) → IsClosed graph → SomeOf (closed_graph graph).nodes → In (body_of (tree_in (closed_graph graph).nodes (closed_graph graph).entry))
  written-some graph closed h =
      let k = closed-ends graph closed in
      let entry = (closed_graph graph).entry in
      let e : tree_in (closed_graph graph).nodes entry ≡ k.0 = ap (λ nodes. tree_in nodes entry) k.1 ∙ ap (λ b. if b then k.0 else tree none Dead) (eq-self entry) in
      let one : IsTree k.0 = elim (subst SomeOf k.1 h) [ inl c ↦ c | inr z ↦ absurd z ] in
      subst (λ t. In (body_of t)) (sym e) (plain-some k.0 k.2 one)
