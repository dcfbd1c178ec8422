-- The graphs of ranges, one after the other.
use Rattle.std.proofs.Common.{◌≡◌, ◌<◌, ◌≤◌, ℕ, zero, suc, ◌+◌, ◌-◌, ◌^◌, min, List, [], ◌∷◌, ◌++◌, map, take, drop, length, Some, slice_get, refl, ap, sym, ◌∙◌, subst, arith, get_or, Result, Ok, Err}
use Rattle.std.proofs.lemmas.List.{take-append-drop}
use Rattle.std.proofs.lemmas.List.Sums.{sum_by-append, sum_by-cons, sum_by_push}
use Rattle.std.proofs.lemmas.Option.{slice_get-get_or}
use Rattle.std.specs.Prelude.{Vec, IfOk, MatchResult}
use Rattle.std.specs.declared.alloc.Global.{Global}
use Rattle.cob_base.specs.declared.memory.NoMemory.{NoMemory}
use Rattle.cob_tree.specs.declared.file.FileEntry.{FileEntry}
use Rattle.cob_tree.specs.declared.fault.SplitFault.{SplitFault}
use Rattle.cob_tree.specs.declared.fault.SplitFault.TheVariants as faults
use Rattle.cob_tree.specs.declared.program.Program.{Program}
use Rattle.cob_tree.specs.declared.program.Range as code
use Rattle.control_flow_theory.specs.language.Control.{control_of}
use Rattle.control_flow_theory.specs.language.Language as language
use Rattle.control_flow_theory.specs.language.OwnItems.{NamesOwnItems}
use Rattle.control_flow_theory.specs.lowering.FlowFacts.{FlowFacts, IsSource}
use Rattle.meanings.specs.statements.Does.{declared_in}
use Rattle.cobol_theory.specs.cobol_parts.Named.{NamesOwnParagraphs}
use Rattle.cobol_theory.proofs.cobol_parts_lemmas.Sources.{source}
use Rattle.control_flow_theory.specs.structuring.Closes.{IsClosed}
use Rattle.control_flow_theory.specs.graph_rules.Reduced as reduced
use Rattle.branch_tree.specs.Graph.{seen_graph}
use Rattle.branch_tree.specs.declared.graph.Graph.{Graph}
use Rattle.added_items.specs.counters.Placed.{ClosesPlaced, NumbersPlaced}
use Rattle.program_facts.specs.completion.FlowFacts.{flow_facts_of}
use Rattle.flow_graph.specs.Counts.{IsLarger, IsLargerIn}
use Rattle.flow_graph.specs.Lowered.{IsLoweredIn}
use Rattle.flow_graph.specs.Reaching.{IsRangeIn}
use Rattle.flow_graph.specs.graph_sizes.Sizing.{graph_size}
use Rattle.flow_graph.specs.range_sizes.Sizing.{IsSizeIn}
use Rattle.lowering_labels.specs.points.FallThrough.{seen_range}
use Rattle.lowering_labels.specs.points.Layout.{IsLayout}
use Rattle.statement_lowering.specs.LowerList.{flow_facts_by}
use Rattle.statement_lowering.specs.declared.context.LoweringContext.{LoweringContext}
use Rattle.statement_lowering.specs.continuations.Paragraphs.{AreRestsOf}
use Rattle.statement_lowering.specs.declared.continuations.continuation.Continuation.{Continuation}
use Rattle.procedure_split.specs.shaped_ranges.Graphs.{AreGraphsOf, HaveGraphs, IsGraphOf, graph_by, node_count, total_size}
use Rattle.cob_base.specs.Limit.{max_nodes}
use Rattle.procedure_split.specs.shaped_ranges.Limit.{AreLowered, IsLoweringFault, nodes_passed}
use Rattle.procedure_split.specs.shaped_ranges.Shaping.{AllReady, IsReady}
use Rattle.procedure_split.specs.shaped_ranges.Graphing.{AreLoweredIn, AreRangesIn, AreRangesOf, IsCountedOn, IsGraphIn, IsLoweringFaultIn, IsPastBy}
use Rattle.procedure_split.proofs.shaped_ranges_lemmas.NumberedSizes.{numbered-size}

-- One graph.

pub numbered-graph : (context : LoweringContext) (spots : List Continuation) (range : code.Range)
    (old new : Graph) → IsLoweredIn context spots range old →
    NumbersPlaced (seen_graph old) (seen_graph new) → IsGraphIn context spots range new
numbered-graph context spots range old new lowered numbers = λ program is.
    let low = lowered program is in
    record {
      keep = low.0;
      just = low.1;
      is = numbers (flow_facts_by context) (control_of program) (λ other. low.0) (seen_range range)
          is.table.source low.2;
    }

-- numbering leaves it as large
pub numbered-few : (context : LoweringContext) (spots : List Continuation) (range : code.Range)
    (old new : Graph) (most : ℕ) → ((program : Program) × IsRangeIn context spots range program) →
    IsLoweredIn context spots range old → graph_size (seen_graph old) ≤ most →
    NumbersPlaced (seen_graph old) (seen_graph new) → graph_size (seen_graph new) ≤ most
numbered-few context spots range old new most found lowered few numbers =
    let low = lowered found.0 found.1 in
    let same = ap graph_size (numbers (flow_facts_by context) (control_of found.0) (λ other. low.0)
    (seen_range range) found.1.table.source low.2)
    ∙ numbered-size (flow_facts_by context) (control_of found.0) low.0 (seen_range range) in
    let was = ap graph_size low.2 in
    omega (arith, same, was, few)

pub closed-graph : (context : LoweringContext) (spots : List Continuation) (range : code.Range)
    (old new : Graph) → ((program : Program) × IsRangeIn context spots range program) →
    IsLoweredIn context spots range old → ClosesPlaced (seen_graph old) (seen_graph new) →
    IsClosed (seen_graph new)
closed-graph context spots range old new found lowered closes =
    let low = lowered found.0 found.1 in
    closes (flow_facts_by context) (control_of found.0) (seen_range range) low.0 found.1.table.source
    found.1.own low.1 low.2

-- Lists of graphs.

abbrev last_number : ℕ
last_number = 2 ^ 64 - 1

graphs-more : (told : FlowFacts) (program : language.Program) (ranges : List code.Range)
    (all : List Graph) (range : code.Range) (graph : Graph) →
    AreGraphsOf told program ranges all → IsGraphOf told program (seen_range range) (seen_graph graph) →
    AreGraphsOf told program (ranges ++ range ∷ []) (all ++ graph ∷ [])
graphs-more told program [] [] range graph are is = (is, tt)
graphs-more told program [] (one ∷ all) range graph are is = absurd are
graphs-more told program (first ∷ ranges) [] range graph are is = absurd are
graphs-more told program (first ∷ ranges) (one ∷ all) range graph are is =
    (are.0, graphs-more told program ranges all range graph are.1 is)

pub have-seen : (told : FlowFacts) (program : language.Program) (ranges : List code.Range)
    (graphs : List Graph) → AreGraphsOf told program ranges graphs →
    HaveGraphs told program ranges (map seen_graph graphs)
have-seen told program [] [] are = tt
have-seen told program [] (graph ∷ graphs) are = absurd are
have-seen told program (range ∷ ranges) [] are = absurd are
have-seen told program (range ∷ ranges) (graph ∷ graphs) are =
    (are.0, have-seen told program ranges graphs are.1)

have-both : (told : FlowFacts) (program : language.Program) (ranges others : List code.Range)
    (graphs more : List reduced.Graph) → HaveGraphs told program ranges graphs →
    HaveGraphs told program others more → HaveGraphs told program (ranges ++ others) (graphs ++ more)
have-both told program [] others [] more have also_have = also_have
have-both told program [] others (graph ∷ graphs) more have also_have = absurd have
have-both told program (range ∷ ranges) others [] more have also_have = absurd have
have-both told program (range ∷ ranges) others (graph ∷ graphs) more have also_have =
    (have.0, have-both told program ranges others graphs more have.1 also_have)

pub count-seen : (graphs : List Graph) → node_count graphs ≡ total_size (map seen_graph graphs)
count-seen [] = refl
count-seen (graph ∷ graphs) =
    sum_by-cons (λ (g : Graph). graph_size (seen_graph g)) graph graphs
    ∙ ap (λ (n : ℕ). graph_size (seen_graph graph) + n) (count-seen graphs)
    ∙ sym (sum_by-cons graph_size (seen_graph graph) (map seen_graph graphs))

-- so far there are these, of so many labels and statements, within the limit
pub record Counted (told : FlowFacts) (program : language.Program) (ranges : List code.Range)
    (graphs : List Graph) (count : ℕ) : Type 0 where
  pub are : AreGraphsOf told program ranges graphs
  pub count_is : count ≡ node_count graphs
  pub within : node_count graphs ≤ max_nodes

abbrev pub SoFar : LoweringContext → List Continuation → List code.Range → ℕ → List Graph → ℕ → Type 0
SoFar context spots ranges index graphs count = (program : Program) →
    AreRangesIn context spots program ranges →
    Counted (flow_facts_by context) (control_of program) (take index ranges) graphs count

pub none-yet : (context : LoweringContext) (spots : List Continuation) (ranges : List code.Range)
    (graphs : List Graph) → graphs ≡ [] → SoFar context spots ranges 0 graphs 0
none-yet context spots ranges graphs none = λ program are.
    subst (λ g. Counted (flow_facts_by context) (control_of program) [] g 0) (sym none)
    (record { are = tt; count_is = refl; within = omega arith })

take-more : (ranges : List code.Range) (index : ℕ) (range : code.Range) →
    slice_get ranges index ≡ Some range → take (index + 1) ranges ≡ take index ranges ++ range ∷ []
take-more ranges index range is =
    let by_one : suc index ≡ index + 1 = omega arith in
    sym (ap (λ n. take n ranges) by_one) ∙ after ranges index range is
  where
    after : (ranges : List code.Range) (index : ℕ) (range : code.Range) →
        slice_get ranges index ≡ Some range →
        take (suc index) ranges ≡ take index ranges ++ range ∷ []
    after [] index range is = cc
    after (first ∷ ranges) zero range is =
        let same : first ≡ range = cc in ap (λ r. r ∷ []) same
    after (first ∷ ranges) (suc index) range is =
        ap (λ l. first ∷ l) (after ranges index range is)

-- one graph more

module _ (context : LoweringContext) (spots : List Continuation) (ranges : List code.Range) (index : ℕ)
    (graphs : List Graph) (count next : ℕ) (range : code.Range) (graph : Graph)
    (so : SoFar context spots ranges index graphs count)
    (there : slice_get ranges index ≡ Some range) (is : IsGraphIn context spots range graph)
    (few : graph_size (seen_graph graph) ≤ max_nodes - count)
    (adds : next ≡ count + min (graph_size (seen_graph graph)) last_number) where
  abbrev more : List Graph
  more = graphs ++ graph ∷ []

  more-are : (program : Program) → AreRangesIn context spots program ranges →
      AreGraphsOf (flow_facts_by context) (control_of program) (take (index + 1) ranges) more
  more-are program are =
      subst (λ l. AreGraphsOf (flow_facts_by context) (control_of program) l more)
      (sym (take-more ranges index range there))
      (graphs-more (flow_facts_by context) (control_of program) (take index ranges) graphs range graph
      (so program are).are (is program (record { table = are.table; own = are.own index range there })))

  more-count : node_count more ≡ node_count graphs + graph_size (seen_graph graph)
  more-count = sum_by_push (λ (g : Graph). graph_size (seen_graph g)) graphs graph

  pub so-far-more : (new : List Graph) → new ≡ more → SoFar context spots ranges (index + 1) new next
  so-far-more new same = λ program are.
      let was = (so program are).count_is in
      let within = (so program are).within in
      subst (λ g. Counted (flow_facts_by context) (control_of program) (take (index + 1) ranges) g next)
      (sym same) (record {
        are = more-are program are;
        count_is = omega (arith, adds, was, within, few, more-count);
        within = omega (arith, adds, was, within, few, more-count);
      })

pub few-yet : (context : LoweringContext) (spots : List Continuation) (ranges : List code.Range) (index : ℕ)
    (graphs : List Graph) (count : ℕ) → SoFar context spots ranges index graphs count →
    ((program : Program) × AreRangesIn context spots program ranges) → count ≤ max_nodes
few-yet context spots ranges index graphs count so found =
    let was = (so found.0 found.1).count_is in
    let within = (so found.0 found.1).within in
    omega (arith, was, within)

-- the first one that is larger than what is left

first-larger : (told : FlowFacts) (program : language.Program) (range : code.Range)
    (ranges : List code.Range) (graphs : List reduced.Graph) (most : ℕ) →
    HaveGraphs told program (range ∷ ranges) graphs → IsLarger told program (seen_range range) most →
    most < total_size graphs
first-larger told program range ranges [] most have larger = absurd have
first-larger told program range ranges (graph ∷ graphs) most have larger =
    let own = have.0 in
    let size = ap graph_size own.is ∙ numbered-size told program own.keep (seen_range range) in
    let past = larger own.keep own.just in
    omega (arith, sum_by-cons graph_size graph graphs, size, past)

drop-next : (ranges : List code.Range) (index : ℕ) (range : code.Range) →
    slice_get ranges index ≡ Some range → drop index ranges ≡ range ∷ drop (suc index) ranges
drop-next [] index range is = cc
drop-next (first ∷ ranges) zero range is =
    let same : first ≡ range = cc in ap (λ r. r ∷ ranges) same
drop-next (first ∷ ranges) (suc index) range is = drop-next ranges index range is

pub drop-own : (context : LoweringContext) (spots : List Continuation) (ranges : List code.Range) (index : ℕ)
    (program : Program) → AreRangesIn context spots program ranges →
    AreRangesIn context spots program (drop index ranges)
drop-own context spots ranges index program are = record {
  table = are.table;
  own = λ at one here. are.own (index + at) one (further index ranges at one here);
}
  where
    further : (n : ℕ) (ranges : List code.Range) (at : ℕ) (one : code.Range) →
        slice_get (drop n ranges) at ≡ Some one → slice_get ranges (n + at) ≡ Some one
    further zero ranges at one here =
        let none : at ≡ 0 + at = omega arith in
        subst (λ (n : ℕ). slice_get ranges n ≡ Some one) none here
    further (suc n) [] at one here = cc
    further (suc n) (first ∷ ranges) at one here =
        let later : suc (n + at) ≡ suc n + at = omega arith in
        subst (λ (m : ℕ). slice_get (first ∷ ranges) m ≡ Some one) later
        (further n ranges at one here)

-- it and all others are counted alone, since they are past the limit
module _ (context : LoweringContext) (spots : List Continuation) (ranges : List code.Range) (index : ℕ)
    (graphs : List Graph) (count : ℕ) (range : code.Range)
    (so : SoFar context spots ranges index graphs count)
    (there : slice_get ranges index ≡ Some range)
    (larger : IsLargerIn context spots range (max_nodes - count)) where
  behind-larger : (program : Program) → AreRangesIn context spots program ranges →
      (others : List reduced.Graph) →
      HaveGraphs (flow_facts_by context) (control_of program) (drop index ranges) others →
      max_nodes - count < total_size others
  behind-larger program are others have =
      first-larger (flow_facts_by context) (control_of program) range (drop (suc index) ranges) others
      (max_nodes - count)
      (subst (λ l. HaveGraphs (flow_facts_by context) (control_of program) l others)
      (drop-next ranges index range there) have)
      (larger program (record { table = are.table; own = are.own index range there }))

  pub past-limit : (counted : Result ℕ NoMemory) →
      IfOk counted (IsCountedOn context spots (drop index ranges) count) →
      (fault : SplitFault) → IsPastBy counted fault →
      IsLoweringFaultIn context spots ranges fault
  past-limit counted on (faults.Limit limit) by = λ program are.
      let rest = ok-at counted by.0 by.1 on program (drop-own context spots ranges index program are)
      in
      let seen = map seen_graph graphs in
      let all = seen ++ rest.0 in
      let total : total_size all ≡ node_count graphs + total_size rest.0 =
      sum_by-append graph_size seen rest.0
      ∙ ap (λ (n : ℕ). n + total_size rest.0) (sym (count-seen graphs)) in
      let past = behind-larger program are rest.0 rest.1 in
      let was = (so program are).count_is in
      let within = (so program are).within in
      let less = by.2 in
      let count_is = rest.2 in
      let same : by.0 ≡ total_size all = omega (arith, total, was, count_is, less) in
      record {
        graphs = all;
        have = subst (λ l. HaveGraphs (flow_facts_by context) (control_of program) l all)
            (take-append-drop index ranges)
            (have-both (flow_facts_by context) (control_of program) (take index ranges)
            (drop index ranges) seen rest.0
            (have-seen (flow_facts_by context) (control_of program) (take index ranges) graphs
            (so program are).are) rest.1);
        past = omega (arith, total, was, within, past);
        is = by.3 ∙ ap nodes_passed same;
      }
    where
      ok-at : (counted : Result ℕ NoMemory) (last : ℕ) → counted ≡ Ok last →
          IfOk counted (IsCountedOn context spots (drop index ranges) count) →
          IsCountedOn context spots (drop index ranges) count last
      ok-at counted last at on =
          subst (λ r. IfOk r (IsCountedOn context spots (drop index ranges) count)) at on
  past-limit counted on faults.NoMemory by = λ program are. tt

take-all : (ranges : List code.Range) (index : ℕ) → length ranges ≤ index →
    take index ranges ≡ ranges
take-all [] zero past = refl
take-all [] (suc index) past = refl
take-all (range ∷ ranges) zero past = let no : ⊥ = omega (arith, past) in absurd no
take-all (range ∷ ranges) (suc index) past =
    ap (λ l. range ∷ l) (take-all ranges index (omega (arith, past)))

pub all-lowered : (context : LoweringContext) (spots : List Continuation) (ranges : List code.Range) (index : ℕ)
    (graphs : List Graph) (count : ℕ) → SoFar context spots ranges index graphs count →
    length ranges ≤ index → AreLoweredIn context spots ranges graphs
all-lowered context spots ranges index graphs count so past = λ program are. record {
  are = subst (λ l. AreGraphsOf (flow_facts_by context) (control_of program) l graphs)
      (take-all ranges index past) (so program are).are;
  within = (so program are).within;
}

-- Graphs that are counted alone.

abbrev pub CountedSoFar : LoweringContext → List Continuation → List code.Range → ℕ → (others count : ℕ) → Type 0
CountedSoFar context spots ranges index others count = (program : Program) →
    AreRangesIn context spots program ranges →
    (graphs : List reduced.Graph)
    × HaveGraphs (flow_facts_by context) (control_of program) (take index ranges) graphs
    × (count ≡ min (others + total_size graphs) last_number)

pub counted-none : (context : LoweringContext) (spots : List Continuation) (ranges : List code.Range)
    (others : ℕ) → others < 2 ^ 64 → CountedSoFar context spots ranges 0 others others
counted-none context spots ranges others small = λ program are. ([], tt, omega (arith, small))

pub counted-more : (context : LoweringContext) (spots : List Continuation) (ranges : List code.Range) (index : ℕ)
    (others count size next : ℕ) (range : code.Range) →
    CountedSoFar context spots ranges index others count → slice_get ranges index ≡ Some range →
    IsSizeIn context spots range size → next ≡ min (count + size) last_number →
    CountedSoFar context spots ranges (index + 1) others next
counted-more context spots ranges index others count size next range so there sized adds =
    λ program are.
    let told = flow_facts_by context in
    let control = control_of program in
    let was = so program are in
    let one = sized program (record { table = are.table; own = are.own index range there }) in
    let graph = graph_by told control one.0 (seen_range range) in
    let own : IsGraphOf told control (seen_range range) graph =
    record { keep = one.0; just = one.1; is = refl } in
    let same = numbered-size told control one.0 (seen_range range) in
    let total = sum_by_push graph_size was.0 graph in
    let counts = was.2 in
    let sizes = one.2 in (
      was.0 ++ graph ∷ [],
      subst (λ l. HaveGraphs told control l (was.0 ++ graph ∷ []))
          (sym (take-more ranges index range there))
          (have-both told control (take index ranges) (range ∷ []) was.0 (graph ∷ []) was.1
          (own, tt)),
      omega (arith, adds, counts, sizes, same, total),
    )

pub counted-all : (context : LoweringContext) (spots : List Continuation) (ranges : List code.Range) (index : ℕ)
    (others count : ℕ) → CountedSoFar context spots ranges index others count →
    length ranges ≤ index → IsCountedOn context spots ranges others count
counted-all context spots ranges index others count so past = λ program are.
    let was = so program are in (
      was.0,
      subst (λ l. HaveGraphs (flow_facts_by context) (control_of program) l was.0)
          (take-all ranges index past) was.1,
      was.2,
    )

pub ready-more : (graphs new : List Graph) (graph : Graph) → new ≡ graphs ++ graph ∷ [] →
    AllReady graphs → IsReady graph → AllReady new
ready-more graphs new graph is all ready = subst AllReady (sym is) (behind graphs all) where
  behind : (before : List Graph) → AllReady before → AllReady (before ++ graph ∷ [])
  behind [] all = (ready, tt)
  behind (first ∷ before) all = (all.0, behind before all.1)

-- In a program.

pub at-index : (ranges : List code.Range) (index : ℕ) (default : code.Range) →
    index < length ranges → slice_get ranges index ≡ Some (get_or ranges index default)
at-index ranges index default within = slice_get-get_or ranges index default within

module _ (context : LoweringContext) (spots : List Continuation) (ranges : List code.Range) (program : Program)
    (are : AreRangesIn context spots program ranges) (files : List FileEntry)
    (returning : List (List ℕ)) (order : List code.Range) (same_files : context.files.now ≡ files)
    (same_returning : context.returning.now ≡ returning) (same_order : ranges ≡ order) where
  told-so : flow_facts_by context ≡ flow_facts_of files returning
  told-so =
      ap (λ f. flow_facts_of f context.returning.now) same_files
      ∙ ap (λ r. flow_facts_of files r) same_returning

  pub lowered-ranges : (result : Result (Vec Graph Global) SplitFault) →
      MatchResult result (λ graphs. AreLoweredIn context spots ranges graphs.items)
      (λ fault. IsLoweringFaultIn context spots ranges fault) →
      MatchResult result
      (λ graphs. AreLowered (flow_facts_of files returning) (control_of program) order graphs.items)
      (λ fault. IsLoweringFault (flow_facts_of files returning) (control_of program) order fault)
  lowered-ranges (Ok graphs) h =
      subst (λ o. AreLowered (flow_facts_of files returning) (control_of program) o graphs.items)
      same_order (subst (λ told. AreLowered told (control_of program) ranges graphs.items) told-so
      (h program are))
  lowered-ranges (Err fault) h =
      subst (λ o. IsLoweringFault (flow_facts_of files returning) (control_of program) o fault)
      same_order (subst (λ told. IsLoweringFault told (control_of program) ranges fault) told-so
      (h program are))

pub ranges-in : (context : LoweringContext) (spots given : List Continuation) (ranges order : List code.Range)
    (program : Program) →
    IsLayout program context.layout.now.places.items context.layout.now.end →
    AreRestsOf context program given → spots ≡ given → context.files.now ≡ program.files →
    NamesOwnItems program → NamesOwnParagraphs program → ranges ≡ order →
    AreRangesOf (control_of program) order → AreRangesIn context spots program ranges
ranges-in context spots given ranges order program placed rests same_spots same_files items paragraphs same_order own =
    record {
      table = record {
        placed = placed;
        rests = subst (λ s. AreRestsOf context program s) (sym same_spots) rests;
        source = subst (λ f. IsSource (flow_facts_of f context.returning.now) (control_of program))
            (sym same_files)
            (source (declared_in program) context.returning.now program items paragraphs);
      };
      own = subst (λ o. AreRangesOf (control_of program) o) (sym same_order) own;
    }
