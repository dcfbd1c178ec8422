-- Flow paths enter each paragraph of a result.
use Rattle.std.proofs.Common.{◌≡◌, ℕ, zero, suc, ◌≤◌, ◌<◌, Bool, true, false, if◌then◌else◌, ◌==◌, List, [], ◌∷◌, Option, Some, None, refl, ap, sym, ◌∙◌, subst, arith, inl, inr}
use Rattle.std.specs.Prelude.{slice_get, length, map}
use Rattle.std.proofs.lemmas.Bool.Decides.{eqb_tells}
use Rattle.std.proofs.lemmas.Bool.{leb-true}
use Rattle.control_flow_theory.specs.language.Language.{Act, Stmt, Do, Choose, Loop, Perform, Go, GoDepending, NextSentence, ExitParagraph, ExitSection, ExitPerform, StopRun, Stmts, none, also, Arms, done, given, missing, Body, Nested, Performed, Paragraph, Program, unless_absent, paragraph_at, Range, Main, Part, same_range}
use Rattle.control_flow_theory.specs.language.Language as language
use Rattle.control_flow_theory.specs.language.Structured.{stmts_perform}
use Rattle.control_flow_theory.specs.semantics.Graph.{Label, Tree, tree, End, Pick, Jump, Return, Stop, Dead, Trees, no_more, more}
use Rattle.control_flow_theory.specs.lowering.FlowFacts.{FlowFacts}
use Rattle.control_flow_theory.specs.lowering.Completes.{complete}
use Rattle.control_flow_theory.specs.lowering.Lower as lower
use Rattle.control_flow_theory.specs.lowering.Lowered.{lowered}
use Rattle.control_flow_theory.specs.lowering.Reached.{kept}
use Rattle.control_flow_theory.specs.lowering.Renamed.{end_anew, trees_anew, tree_anew}
use Rattle.control_flow_theory.specs.graph_rules.Walked.{is_in, In}
use Rattle.control_flow_theory.specs.graph_rules.Reduced.{Node, Graphs, tree_in}
use Rattle.control_flow_theory.specs.structuring.Dispatches.{either, end_returns, tree_returns, trees_return}
use Rattle.control_flow_theory.specs.structuring.Closes.{closed_graph}
use Rattle.control_flow_theory.specs.rendering.Rendering.{Naming, Procedure, place_of, required, then_stmts, written_stmts, closing, written_paragraph}
use Rattle.control_flow_theory.specs.main_theorem.Chain.{procedure_of, procedures_of}
use Rattle.control_flow_theory.specs.main_theorem.MainTheorem.{Plan, graphs_by, procedures_by}
use Rattle.control_flow_theory.specs.main_theorem.Numbering.{numbers_by, added_by}
use Rattle.control_flow_theory.proofs.semantics_lemmas.Ranges.{eq-self, same-self, same-range}
use Rattle.control_flow_theory.proofs.main_theorem_lemmas.graphs.LoweredGraphs.{graphs-family, graphs-closed}
use Rattle.fixed_point.specs.Tight.{pass, StmtsAreTight, EndIsTight}
use Rattle.fixed_point.specs.Again.{StmtsAreUncut}
use Rattle.fixed_point.specs.Returns.{NodesReturn}
use Rattle.fixed_point.specs.Paths.{with_returning, IsUncutFront, IsTableOf}
use Rattle.fixed_point.specs.Written.{NamesAlike}
use Rattle.fixed_point.specs.Fixed.{stands_in, result_by}
use Rattle.fixed_point_laws.specs.Entering.{IsFirstWritten, ResultsAreEntered}
use Rattle.control_flow_theory.proofs.main_theorem_lemmas.calls.CallsReached.{returns-stand}
use Rattle.fixed_point.proofs.ReturnsKept.{closed-returns}
use Rattle.fixed_point.proofs.Procedures.{procedures-tight}
use Rattle.fixed_point.proofs.WrittenUncut.{written-uncut, pass-so}
use Rattle.fixed_point.proofs.Paths.{tables-named}

-- ---- lists

abbrev head : List Stmts → Stmts
head [] = none
head (x ∷ xs) = x

abbrev or_it : {A : Type 0} → A → Option A → A
or_it a None = a
or_it a (Some b) = b

map-at : (f : Procedure → Paragraph) (xs : List Procedure) (n : ℕ) (p : Procedure) → slice_get xs n ≡ Some p → slice_get (map f xs) n ≡ Some (f p)
map-at f [] n p is = absurd cc
map-at f (x ∷ xs) zero p is = ap (λ q. Some (f (or_it x q))) is
map-at f (x ∷ xs) (suc n) p is = map-at f xs n p is

map-length : (f : Procedure → Paragraph) (xs : List Procedure) → length (map f xs) ≡ length xs
map-length f [] = refl
map-length f (x ∷ xs) = let e = map-length f xs in omega (arith, e)

below-at : (xs : List Procedure) (n : ℕ) (p : Procedure) → slice_get xs n ≡ Some p → n < length xs
below-at [] n p is = absurd cc
below-at (x ∷ xs) zero p is = omega arith
below-at (x ∷ xs) (suc n) p is = let e = below-at xs n p is in omega (arith, e)

-- a range that stands in the list is that of the procedure at its place
place-found : (xs : List Procedure) (range : Range) → suc (place_of xs range) ≤ length xs → (p : Procedure) × (slice_get xs (place_of xs range) ≡ Some p) × (p.range ≡ range)
place-found [] range lt = absurd (omega (arith, lt))
place-found (x ∷ xs) range lt =
    (elim (same_range x.range range) as (λ b. same_range x.range range ≡ b → suc (if b then 0 else suc (place_of xs range)) ≤ length (x ∷ xs) → (p : Procedure) × (slice_get (x ∷ xs) (if b then 0 else suc (place_of xs range)) ≡ Some p) × (p.range ≡ range)) [
      | true ↦ λ e lt. (x, refl, same-range x.range range e)
      | false ↦ λ e lt. place-found xs range (omega (arith, lt))
    ]) refl lt

-- ---- the procedures of an order

module _ (graphs : Graphs) where
  abbrev mine : Range → Procedure
  mine r = procedure_of r (closed_graph (graphs r))

  proc-at : (order : List Range) (n : ℕ) (p : Procedure) → slice_get (procedures_of order graphs) n ≡ Some p → (slice_get order n ≡ Some p.range) × (p ≡ mine p.range) × In p.range order
  proc-at [] n p is = absurd cc
  proc-at (r ∷ rs) zero p is =
      let e : mine r ≡ p = ap (or_it (mine r)) is in
      subst (λ q. (Some r ≡ Some q.range) × (q ≡ mine q.range) × In q.range (r ∷ rs)) e (refl, refl, ap (λ b. if b then true else is_in r rs) (same-self r))
  proc-at (r ∷ rs) (suc n) p is =
      let k = proc-at rs n p is in
      (k.0, k.1, elim (same_range r p.range) as (λ b. (if b then true else is_in p.range rs) ≡ true) [ true ↦ refl | false ↦ k.2 ])

-- ---- what returns in the nodes

module _ (number : ℕ → ℕ) where
  mutual
    end-returns-anew : (end : End) → end_returns (end_anew number end) ≡ end_returns end
    end-returns-anew (Pick picker arms) = trees-return-anew arms
    end-returns-anew (Jump to) = refl
    end-returns-anew Return = refl
    end-returns-anew Stop = refl
    end-returns-anew Dead = refl

    trees-return-anew : (ts : Trees) → trees_return (trees_anew number ts) ≡ trees_return ts
    trees-return-anew no_more = refl
    trees-return-anew (more (tree body end) others) =
        ap (λ b. either b (trees_return (trees_anew number others))) (end-returns-anew end) ∙ ap (either (end_returns end)) (trees-return-anew others)

  tree-returns-anew : (t : Tree) → tree_returns (tree_anew number t) ≡ tree_returns t
  tree-returns-anew (tree body end) = end-returns-anew end

in-returns : (nodes : List Node) (label : Label) → tree_returns (tree_in nodes label) ≡ true → NodesReturn nodes
in-returns [] label h = absurd cc
in-returns (node ∷ nodes) label h =
    (elim (node.label == label) as (λ b. tree_returns (if b then node.tree else tree_in nodes label) ≡ true → NodesReturn (node ∷ nodes)) [
      | true ↦ λ k. inl k
      | false ↦ λ k. inr (in-returns nodes label k)
    ]) h

-- ---- statements

closing-idle : (number : ℕ) (range : Range) (end : End) → stmts_perform number (closing range end) ≡ false
closing-idle number Main end = refl
closing-idle number (Part e x) Stop = refl
closing-idle number (Part e x) (Pick picker arms) = refl
closing-idle number (Part e x) (Jump to) = refl
closing-idle number (Part e x) Return = refl
closing-idle number (Part e x) Dead = refl

complete-required : (naming : Naming) (t : FlowFacts) (ss : Stmts) → complete t ss ≡ true → complete t (required naming.nothing ss) ≡ true
complete-required naming t none h = refl
complete-required naming t (also s ss) h = h

-- a sentence of what is written of an uncut body
front-of : (naming : Naming) (t : FlowFacts) (body last : Stmts) → StmtsAreUncut t body → ((number : ℕ) → stmts_perform number last ≡ false) → IsUncutFront t (required naming.nothing (then_stmts body last))
front-of naming t none none u idle = record { front = also (Do (language.Own naming.nothing)) none; last = none; is = refl; uncut = (tt, tt, tt); idle = idle }
front-of naming t none (also s ss) u idle = record { front = none; last = also s ss; is = refl; uncut = tt; idle = idle }
front-of naming t (also s ss) last u idle = record { front = also s ss; last = last; is = refl; uncut = u; idle = idle }

map-none : (f : Procedure → Paragraph) (xs : List Procedure) (n : ℕ) → slice_get xs n ≡ None → slice_get (map f xs) n ≡ None
map-none f [] n is = refl
map-none f (x ∷ xs) zero is = absurd cc
map-none f (x ∷ xs) (suc n) is = map-none f xs n is

then-none : (a : Stmts) → then_stmts a none ≡ a
then-none none = refl
then-none (also s a) = ap (also s) (then-none a)

module _ (plan : Plan) (program : Program) (naming : Naming) (result_told : FlowFacts) (r : IsFirstWritten plan program naming result_told) where
  abbrev told : FlowFacts
  told = plan.told

  abbrev procs : List Procedure
  procs = procedures_by plan program

  abbrev place : Range → ℕ
  place = place_of procs

  abbrev made : Program
  made = result_by plan program naming

  abbrev Ws : Range → Stmts → Stmts
  Ws range body = written_stmts naming place range body

  -- ---- what returns ends in Return

  end-is : (e x : ℕ) → In (Part e x) (Main ∷ plan.others) → told.returning e x ≡ true → (mine (graphs_by plan program) (Part e x)).end ≡ Return
  end-is e x here is =
      let entered = r.planned.entered e x here in
      let s = returns-stand told program r.source r.gives r.planned.returning e x entered.0 entered.1 (r.planned.exact e x is) in
      let keep = plan.keep in
      let numbers = numbers_by plan.keep program in
      let k = r.planned.reached (Part e x) s.0 s.1 in
      let nodes = (graphs_by plan program (Part e x)).nodes in
      let found : tree_in nodes s.0 ≡ tree_anew (numbers (Part e x)) ((kept keep (lowered told program)).node (Part e x) s.0) =
      sym (ap (λ f. f.node (Part e x) s.0) (graphs-family told program keep numbers (added_by plan.keep program))) in
      let kept_is = ap (λ b. if b then (lowered told program).node (Part e x) s.0 else lower.end_alone Dead) k in
      let one : tree_returns (tree_in nodes s.0) ≡ true =
      ap tree_returns found ∙ tree-returns-anew (numbers (Part e x)) ((kept keep (lowered told program)).node (Part e x) s.0) ∙ ap tree_returns kept_is ∙ s.2 in
      closed-returns (graphs_by plan program (Part e x))
      (graphs-closed told program keep numbers (added_by plan.keep program) r.source (Part e x) entered.0 (r.planned.just (Part e x) here))
      (in-returns nodes s.0 one)

  -- ---- the table by the source

  abbrev range_returns : Range → Bool
  range_returns Main = false
  range_returns (Part e x) = told.returning e x

  abbrev found_returns : Option Procedure → Bool
  found_returns None = false
  found_returns (Some p) = range_returns p.range

  abbrev table : ℕ → ℕ → Bool
  table j k = if j == k then found_returns (slice_get procs j) else false

  has : (e x : ℕ) → stands_in procs e x ≡ true → told.returning e x ≡ true → table (place (Part e x)) (place (Part e x)) ≡ true
  has e x s is =
      let p = place (Part e x) in
      let f = place-found procs (Part e x) (leb-true (suc p) (length procs) s) in
      ap (λ b. if b then found_returns (slice_get procs p) else false) (eq-self p)
      ∙ ap found_returns f.1 ∙ ap range_returns f.2 ∙ is

  made-at : (n : ℕ) (p : Procedure) → slice_get procs n ≡ Some p → slice_get made.paragraphs n ≡ Some (written_paragraph naming place p)
  made-at n p is = map-at (written_paragraph naming place) procs n p is

  made-length : length made.paragraphs ≡ length procs
  made-length = map-length (written_paragraph naming place) procs

  tight : (n : ℕ) (p : Procedure) → slice_get procs n ≡ Some p → StmtsAreTight told p.body × EndIsTight told p.body p.end
  tight n p is = procedures-tight plan program r.source n p is

  abbrev by : FlowFacts
  by = with_returning result_told table

  names-by : NamesAlike naming told (with_returning result_told table)
  names-by = record { chooser = r.names.chooser; cell = r.names.cell }

  returns-by : (e x : ℕ) → stands_in procs e x ≡ true → told.returning e x ≡ true → (with_returning result_told table).returning (place (Part e x)) (place (Part e x)) ≡ true
  returns-by e x s is = has e x s is

  -- the range of a procedure that returns isn't main's
  returning-range : (p : Procedure) → range_returns p.range ≡ true → (e : ℕ) × (x : ℕ) × (p.range ≡ Part e x) × (told.returning e x ≡ true)
  returning-range p h = (elim p.range as (λ (z : Range). range_returns z ≡ true → (e : ℕ) × (x : ℕ) × (z ≡ Part e x) × (told.returning e x ≡ true)) [
    | Main ↦ λ k. absurd cc
    | Part e x ↦ λ k. (e, x, refl, k)
  ]) h

  return-end : (n : ℕ) (p : Procedure) → slice_get procs n ≡ Some p → (e x : ℕ) → p.range ≡ Part e x → told.returning e x ≡ true → p.end ≡ Return
  return-end n p is e x range_is ret =
      let k = proc-at (graphs_by plan program) (Main ∷ plan.others) n p is in
      let here = subst (λ z. In z (Main ∷ plan.others)) range_is k.2 in
      ap (λ (q : Procedure). q.end) k.1 ∙ ap (λ z. (mine (graphs_by plan program) z).end) range_is ∙ end-is e x here ret

  abbrev sentence_of : Procedure → Stmts
  sentence_of p = required naming.nothing (then_stmts (Ws p.range p.body) (closing p.range p.end))

  passes-by : (t : FlowFacts) → NamesAlike naming told t → ((e x : ℕ) → stands_in procs e x ≡ true → told.returning e x ≡ true → t.returning (place (Part e x)) (place (Part e x)) ≡ true) →
      (n : ℕ) (p : Procedure) → slice_get procs n ≡ Some p → pass told p.body ≡ true → complete t (Ws p.range p.body) ≡ true
  passes-by t names rets n p is h = pass-so naming place p.range told t (stands_in procs) names rets p.body (r.nests n p is) h

  sentence-is : (n : ℕ) (p : Procedure) (sentence : Stmts) → slice_get procs n ≡ Some p → paragraph_at made n ≡ sentence ∷ [] → sentence_of p ≡ sentence
  sentence-is n p sentence is e =
      let k : sentence_of p ∷ [] ≡ sentence ∷ [] = sym (ap unless_absent (made-at n p is)) ∙ e in
      ap head k

  first-is-main : (p : Procedure) → slice_get procs 0 ≡ Some p → p.range ≡ Main
  first-is-main p is =
      let k = (proc-at (graphs_by plan program) (Main ∷ plan.others) 0 p is).0 in
      sym (ap (or_it Main) k)

  sentence-completes : (n : ℕ) (p : Procedure) (e x : ℕ) → slice_get procs n ≡ Some p → p.range ≡ Part e x → told.returning e x ≡ true → complete by (sentence_of p) ≡ true
  sentence-completes n p e x is range_is ret =
      let end_is = return-end n p is e x range_is ret in
      let passed : pass told p.body ≡ true = subst (EndIsTight told p.body) end_is (tight n p is).1 in
      let done = passes-by by names-by returns-by n p is passed in
      let closed : closing p.range p.end ≡ none = ap (λ z. closing z p.end) range_is ∙ ap (closing (Part e x)) end_is in
      ap (λ z. complete by (required naming.nothing (then_stmts (Ws p.range p.body) z))) closed
      ∙ ap (λ z. complete by (required naming.nothing z)) (then-none (Ws p.range p.body))
      ∙ complete-required naming by (Ws p.range p.body) done

  sentence-uncut : (n : ℕ) (p : Procedure) → slice_get procs n ≡ Some p → IsUncutFront by (sentence_of p)
  sentence-uncut n p is =
      front-of naming by (Ws p.range p.body) (closing p.range p.end)
      (written-uncut naming place p.range told by (stands_in procs) names-by returns-by p.body (r.nests n p is) (tight n p is).0)
      (λ number. closing-idle number p.range p.end)

  found-proc : (e : ℕ) → found_returns (slice_get procs e) ≡ true → (p : Procedure) × (slice_get procs e ≡ Some p) × (range_returns p.range ≡ true)
  found-proc e h = (elim (slice_get procs e) as (λ (o : Option Procedure). found_returns o ≡ true → (p : Procedure) × (o ≡ Some p) × (range_returns p.range ≡ true)) [
    | None ↦ λ k. absurd cc
    | Some p ↦ λ k. (p, refl, k)
  ]) h

  table-completes : (e x : ℕ) → table e x ≡ true → (e ≡ x) × (1 ≤ e) × (e < length made.paragraphs) × ((sentence : Stmts) → paragraph_at made e ≡ sentence ∷ [] → complete by sentence ≡ true)
  table-completes e x h =
      elim (eqb_tells e x) [
        | inl t ↦
            let k = found-proc e (sym (ap (λ b. if b then found_returns (slice_get procs e) else false) t.0) ∙ h) in
            let g = returning-range k.0 k.2 in (
              t.1,
              positive e k.0 k.1 g.0 g.1 g.2,
              subst (λ n. e < n) (sym made-length) (below-at procs e k.0 k.1),
              λ sentence is. subst (λ s. complete by s ≡ true) (sentence-is e k.0 sentence k.1 is) (sentence-completes e k.0 g.0 g.1 k.1 g.2 g.3),
            )
        | inr t ↦ absurd (let z : false ≡ true = sym (ap (λ b. if b then found_returns (slice_get procs e) else false) t.0) ∙ h in cc)
      ]
    where
      positive : (e : ℕ) (p : Procedure) → slice_get procs e ≡ Some p → (a b : ℕ) → p.range ≡ Part a b → 1 ≤ e
      positive zero p is a b range_is = absurd (let z : Main ≡ Part a b = sym (first-is-main p is) ∙ range_is in cc)
      positive (suc e) p is a b range_is = omega arith

  table-uncut : (number : ℕ) (sentence : Stmts) → paragraph_at made number ≡ sentence ∷ [] → IsUncutFront by sentence
  table-uncut number sentence is =
      (elim (slice_get procs number) as (λ (o : Option Procedure). slice_get procs number ≡ o → IsUncutFront by sentence) [
        | None ↦ λ e. absurd (let z : [] ≡ sentence ∷ [] = sym (ap unless_absent (map-none (written_paragraph naming place) procs number e)) ∙ is in cc)
        | Some p ↦ λ e. subst (IsUncutFront by) (sentence-is number p sentence e is) (sentence-uncut number p e)
      ]) refl

  is-table : IsTableOf result_told made table
  is-table = record { completes = table-completes; uncut = table-uncut }

pub are-entered : ResultsAreEntered
are-entered = λ plan program naming told r.
    (tables-named told (result_by plan program naming) (table plan program naming told r) r.result r.structured (is-table plan program naming told r)).0
