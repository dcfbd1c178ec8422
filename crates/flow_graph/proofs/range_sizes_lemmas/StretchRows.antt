-- The parts of trees that run on as others.
use Rattle.std.proofs.Common.{◌≡◌, ℕ, ◌+◌, ◌-◌, ◌^◌, ◌/◌, ◌<◌, min, List, [], ◌∷◌, ◌++◌, length, Some, None, slice_get, refl, ap, sym, ◌∙◌, subst, arith}
use Rattle.cob_tree.specs.declared.program.Program.{Program}
use Rattle.cob_tree.specs.declared.program.Range as code
use Rattle.control_flow_theory.specs.semantics.Graph as graph
use Rattle.control_flow_theory.specs.lowering.Lower.{point}
use Rattle.control_flow_theory.specs.lowering.Reached.{JumpsTo}
use Rattle.branch_tree.specs.Changes.{gone_on}
use Rattle.branch_tree.specs.Tree.{seen_tree}
use Rattle.branch_tree.specs.declared.tree.Tree.{Tree}
use Rattle.flow_graph.specs.Jumps.{JumpBelow}
use Rattle.flow_graph.specs.Reaching.{NodeJumpsBelow}
use Rattle.flow_graph.specs.graph_sizes.Sizing.{end_size, tree_size}
use Rattle.flow_graph.proofs.graph_sizes_lemmas.SizeRows.{followed_sizes}
use Rattle.statement_lowering.specs.declared.context.LoweringContext.{LoweringContext}
use Rattle.flow_graph.specs.label_trees.Node.{IsNodeAlike, IsTableOf, node_in}
use Rattle.flow_graph.specs.label_trees.Run.{IsBehind, IsStraightRunAlike, RunsOn}
use Rattle.flow_graph.specs.declared.label_trees.run.StraightRun.{StraightRun}
use Rattle.statement_lowering.specs.declared.continuations.continuation.Continuation.{Continuation}
use Rattle.flow_graph.specs.declared.range_sizes.exits.Passing.{Passing}
use Rattle.flow_graph.specs.declared.range_sizes.parts.Jumps.{Jumps}
use Rattle.flow_graph.specs.declared.range_sizes.parts.TreeCount.{TreeCount}
use Rattle.flow_graph.specs.declared.range_sizes.segment.Segment.{Segment}
use Rattle.flow_graph.specs.range_sizes.Exits.{AllGoWithin, GoesSo}
use Rattle.flow_graph.specs.range_sizes.Cache.{IsPartAt}
use Rattle.flow_graph.specs.range_sizes.Parts.{IsPartOf}
use Rattle.flow_graph.specs.range_sizes.Segment.{IsLonger, IsSegment, LeadsTo}
use Rattle.flow_graph.proofs.range_sizes_lemmas.Alike.{alike-from, alike-so, goes-behind, goes-there}

gone-size : (own next : graph.Tree) → graph.end_of own ≡ graph.Dead →
    tree_size (gone_on own next) ≡ tree_size own + tree_size next
gone-size (graph.tree body end) (graph.tree other last) dead =
    omega (arith, followed_sizes body other, ap end_size dead)

-- where the own run goes on
pub stretch-of : (telling : LoweringContext) (spots : List Continuation) (range : code.Range) (place next : ℕ)
    (passing : Passing) (run : StraightRun) (stretch : Segment) → AllGoWithin spots →
    place < length spots → IsBehind spots place next → GoesSo spots range place passing →
    IsStraightRunAlike telling spots range place run → run.next ≡ Some next → stretch.place ≡ place →
    stretch.size ≡ min (tree_size (seen_tree run.tree)) (2 ^ 64 - 1) →
    IsSegment telling spots passing stretch next
stretch-of telling spots range place next passing run stretch within lt behind so is to at size =
    record {
      there = subst (λ (n : ℕ). n < length spots) (sym at) lt;
      goes = λ other goes.
          goes-behind spots other place next passing within behind
          (subst (λ (n : ℕ). GoesSo spots other n passing) at goes);
      longer = λ other goes program table.
          let node = node_in telling program other in
          let own = seen_tree run.tree in
          let there = subst (λ (n : ℕ). GoesSo spots other n passing) at goes in
          let alike = alike-so spots range other place passing there.spot so there there.there in
          let runs : RunsOn node own (Some next) (node (point place)) =
          subst (λ n. RunsOn node own n (node (point place))) to
          (is other there.spot there.there alike program table) in
          subst (λ (n : ℕ). IsLonger (node (point n)) (node (point next)) stretch.size) (sym at) (
          record {
            own = tree_size own;
            size = size;
            sum = ap tree_size runs.1 ∙ gone-size own (node (point next)) runs.0;
            end = ap graph.end_of runs.1;
          }
          );
    }

-- where it is the whole tree
pub run-whole : (telling : LoweringContext) (spots : List Continuation) (range : code.Range) (place : ℕ)
    (passing : Passing) (run : StraightRun) → GoesSo spots range place passing →
    IsStraightRunAlike telling spots range place run → run.next ≡ None → (other : code.Range) →
    GoesSo spots other (point place / 3) passing → (program : Program) →
    IsTableOf telling spots program →
    seen_tree run.tree ≡ node_in telling program other (point place)
run-whole telling spots range place passing run so is none other goes program table =
    let node = node_in telling program other in
    let own = seen_tree run.tree in
    let back : point place / 3 ≡ place = omega arith in
    let there = subst (λ (n : ℕ). GoesSo spots other n passing) back goes in
    let alike = alike-so spots range other place passing there.spot so there there.there in
    let runs : RunsOn node own None (node (point place)) =
    subst (λ n. RunsOn node own n (node (point place))) none
    (is other there.spot there.there alike program table) in
    sym runs

-- and so is the tree at a label
pub label-whole : (telling : LoweringContext) (spots : List Continuation) (range : code.Range) (label : ℕ)
    (passing : Passing) (tree : Tree) → AllGoWithin spots →
    GoesSo spots range (label / 3) passing → IsNodeAlike telling spots range (label / 3) label tree →
    (other : code.Range) → GoesSo spots other (label / 3) passing → (program : Program) →
    IsTableOf telling spots program → seen_tree tree ≡ node_in telling program other label
label-whole telling spots range label passing tree within so is other goes program table =
    is other (alike-from spots range other (label / 3) so.spot within so.there
    (so.goes ∙ sym (goes-there spots other (label / 3) passing so.spot goes so.there))) program table

longer-part : (first next : graph.Tree) (own count total : ℕ) (jumps : List ℕ) →
    IsLonger first next own → IsPartOf next count jumps → total ≡ min (count + own) (2 ^ 64 - 1) →
    IsPartOf first total jumps
longer-part first next own count total jumps longer part adds = record {
  size = omega (arith, adds, longer.size, longer.sum, part.size);
  sound = λ label holds. subst (JumpsTo label) (sym longer.end) (part.sound label holds);
  all = λ label to. part.all label (subst (JumpsTo label) longer.end to);
}

-- the part of a tree by that of the next one
pub part-further : (telling : LoweringContext) (spots : List Continuation) (lists : List Jumps) (passing : Passing)
    (stretch : Segment) (next : ℕ) (part longer : TreeCount) →
    IsSegment telling spots passing stretch next →
    IsPartAt telling spots lists (point next) passing part →
    longer.size ≡ min (part.size + stretch.size) (2 ^ 64 - 1) → longer.jumps ≡ part.jumps →
    IsPartAt telling spots lists (point stretch.place) passing longer
part-further telling spots lists passing stretch next part longer runs is size jumps = record {
  jumps = is.jumps;
  there = ap (λ (n : ℕ). slice_get lists n) jumps ∙ is.there;
  is = λ range goes program table.
      let back : point stretch.place / 3 ≡ stretch.place = omega arith in
      let on : next ≡ point next / 3 = omega arith in
      let there = subst (λ (n : ℕ). GoesSo spots range n passing) back goes in
      let then = subst (λ (n : ℕ). GoesSo spots range n passing) on (runs.goes range there) in
      longer-part (node_in telling program range (point stretch.place))
      (node_in telling program range (point next)) stretch.size part.size longer.size
      is.jumps.labels.items (runs.longer range there program table) (is.is range then program table)
      size;
}

pub below-next : (telling : LoweringContext) (spots : List Continuation) (range : code.Range) (passing : Passing)
    (stretch : Segment) (next end : ℕ) → IsSegment telling spots passing stretch next →
    GoesSo spots range stretch.place passing →
    NodeJumpsBelow telling spots range (point stretch.place) end →
    NodeJumpsBelow telling spots range (point next) end
below-next telling spots range passing stretch next end runs so below = (
  below.0,
  below.1,
  subst (JumpBelow end) (runs.longer range so below.0 below.1).end below.2,
)

-- stretches with one more at its end

module _ (telling : LoweringContext) (spots : List Continuation) (passing : Passing) where
  pub one-more : (place here next : ℕ) (others : List Segment) (stretch : Segment) →
      LeadsTo telling spots passing place others here → stretch.place ≡ here →
      IsSegment telling spots passing stretch next →
      LeadsTo telling spots passing place (others ++ stretch ∷ []) next
  one-more place here next [] stretch leads at is = (next, at ∙ leads, is, refl)
  one-more place here next (first ∷ others) stretch leads at is =
      (leads.0, leads.1, leads.2, one-more leads.0 here next others stretch leads.3 at is)

  pub one-less : (place here : ℕ) (others : List Segment) (stretch : Segment) →
      LeadsTo telling spots passing place (others ++ stretch ∷ []) here →
      LeadsTo telling spots passing place others stretch.place
      × IsSegment telling spots passing stretch here
  one-less place here [] stretch leads = (
    leads.1,
    subst (IsSegment telling spots passing stretch) (sym leads.3) leads.2,
  )
  one-less place here (first ∷ others) stretch leads =
      let one = one-less leads.0 here others stretch leads.3 in (
        (leads.0, leads.1, leads.2, one.0),
        one.1,
      )

pub none-left : (stretches : List Segment) → length stretches ≡ 0 → stretches ≡ []
none-left [] e = refl
none-left (stretch ∷ stretches) e = absurd (omega (arith, e))
