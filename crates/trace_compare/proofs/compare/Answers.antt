use Rattle.std.proofs.Common.{◌≡◌, ◌∙◌, List, [], ap, map, refl, subst, sym, take}
use Rattle.file_model.specs.contracts.operations.watched.BoxDynDeviceWatched.TheImpl.{seen-value}
use Rattle.cob_tree.specs.declared.file.FileEntry.{FileEntry}
use Rattle.cobol_run.specs.declared.held.Plan.{Plan}
use Rattle.trace_compare.specs.declared.compared.Compared.{Compared}
use Rattle.trace_compare.specs.Comparing.{Compares}
use Rattle.trace_compare.specs.Pair.{FirstFalls, SecondFalls}
use Rattle.trace_compare.specs.Side.{files_of}
use Rattle.trace_compare.proofs.ComparingLemmas.{compares, finishes_so, first_bench, first_gone, never_compared, second_bench, second_gone}
use Rattle.trace_compare.proofs.compare.Goals as goal

pub returns-in_default : goal.returns-in_default
returns-in_default g c = never_compared c.args.program.now c.args.other.now c.args.steps c.args.bench.now.left c.args.other_bench.now.left (map (seen-value g.dyn-1).it c.args.bench.now.devices.items) (map (seen-value g.dyn-1).it c.args.other_bench.now.devices.items)

pub returns-in_default-new : goal.returns-in_default-new
returns-in_default-new g c = never_compared c.args.program.now c.args.other.now c.args.steps c.args.bench.now.left c.args.other_bench.now.left (map (seen-value g.dyn-1).it c.args.bench.now.devices.items) (map (seen-value g.dyn-1).it c.args.other_bench.now.devices.items)

pub returns-in_default-name_room : goal.returns-in_default-name_room
returns-in_default-name_room g c = never_compared c.args.program.now c.args.other.now c.args.steps c.args.bench.now.left c.args.other_bench.now.left (map (seen-value g.dyn-1).it c.args.bench.now.devices.items) (map (seen-value g.dyn-1).it c.args.other_bench.now.devices.items)

pub returns-in_default-name_room-2 : goal.returns-in_default-name_room-2
returns-in_default-name_room-2 g c = never_compared c.args.program.now c.args.other.now c.args.steps c.args.bench.now.left c.args.other_bench.now.left (map (seen-value g.dyn-1).it c.args.bench.now.devices.items) (map (seen-value g.dyn-1).it c.args.other_bench.now.devices.items)

pub returns : goal.returns
returns g c =
    let pair = c.run-verdict.new.self in
    let old = map (seen-value g.dyn-1).it c.args.bench.now.devices.items in
    let between = map (seen-value g.dyn-1).it c.run-verdict.new.bench.devices.items in
    let new = map (seen-value g.dyn-1).it c.finish-first.new.bench.devices.items in
    let other_old = map (seen-value g.dyn-1).it c.args.other_bench.now.devices.items in
    let other_between = map (seen-value g.dyn-1).it c.run-verdict.new.other.devices.items in
    let other_new = map (seen-value g.dyn-1).it c.finish-second.new.bench.devices.items in
    let here : files_of pair.first ≡ files_of c.in-Ok.first = ap (λ (p : Plan). p.program.now.files) c.run-verdict.ensures.first in
    let there : files_of pair.second ≡ files_of c.in-Ok-new.second = ap (λ (p : Plan). p.program.now.files) c.run-verdict.ensures.second in
    let same : files_of pair.first ≡ c.args.program.now.files = here ∙ c.in-Ok.ensures.program in
    let same_too : files_of pair.second ≡ c.args.other.now.files = there ∙ c.in-Ok-new.ensures.program in
    subst (λ (came : Compared). Compares c.args.program.now c.args.other.now c.args.steps c.args.bench.now.left c.finish-first.new.bench.left old new c.args.other_bench.now.left c.finish-second.new.bench.left other_old other_new came) (sym c.answered.ensures)
    (compares c.args.program.now c.args.other.now c.args.steps pair c.args.bench.now.left c.run-verdict.new.bench.left c.finish-first.new.bench.left old between new c.args.other_bench.now.left c.run-verdict.new.other.left c.finish-second.new.bench.left other_old other_between other_new same same_too c.finish-first.result c.finish-second.result c.run-verdict.result
    (λ files other_files own own_too tell tell_too. c.run-verdict.ensures.verdict c.args.program.now c.args.other.now files other_files c.args.steps own own_too (record {
      compared = [];
      count = refl;
      first = c.in-Ok.ensures.stands (take c.args.bench.now.left old) files tell;
      second = c.in-Ok-new.ensures.stands (take c.args.other_bench.now.left other_old) other_files tell_too;
    }))
    (finishes_so c.finish-first.result (files_of pair.first) c.args.program.now.files c.args.bench.now.left c.run-verdict.new.bench.left c.finish-first.new.bench.left old between new pair.first.machine.table.rows same c.in-Ok.ensures.few c.finish-first.ensures.ends (first_gone c.run-verdict.result c.run-verdict.new.bench.left between)
    (first_bench (files_of pair.first) c.args.bench.now.left c.run-verdict.new.bench.left old between pair.first.machine.table.rows c.run-verdict.result
    (subst (λ (files : List FileEntry). FirstFalls c.run-verdict.result files c.args.bench.now.left c.run-verdict.new.bench.left old between pair.first.machine.table.rows) (sym here) c.run-verdict.ensures.first_falls)))
    (finishes_so c.finish-second.result (files_of pair.second) c.args.other.now.files c.args.other_bench.now.left c.run-verdict.new.other.left c.finish-second.new.bench.left other_old other_between other_new pair.second.machine.table.rows same_too c.in-Ok-new.ensures.few c.finish-second.ensures.ends (second_gone c.run-verdict.result c.run-verdict.new.other.left other_between)
    (second_bench (files_of pair.second) c.args.other_bench.now.left c.run-verdict.new.other.left other_old other_between pair.second.machine.table.rows c.run-verdict.result
    (subst (λ (files : List FileEntry). SecondFalls c.run-verdict.result files c.args.other_bench.now.left c.run-verdict.new.other.left other_old other_between pair.second.machine.table.rows) (sym there) c.run-verdict.ensures.second_falls))))
