use Rattle.std.proofs.Common.{◌<◌, ap, arith, length, Ok}
use Rattle.file_model.specs.operations.Calls.{addresses_of}
use Rattle.file_model.proofs.operations_lemmas.FallLemmas.{Named, named_at}
use Rattle.file_model.proofs.operations_lemmas.ShutLemmas.{shuts_broken, shuts_done, shuts_none}
use Rattle.file_model.proofs.operations.closing.close_if_open.Goals as goal

pub returns-then-may_close-ne0-clause-shuts : goal.returns-then-may_close-ne0-clause-shuts
returns-then-may_close-ne0-clause-shuts g c = λ gone left old apart left_of.
    shuts_none c.args.file (addresses_of c.args.files.now) gone left c.args.bench.now.left old _ c.args.table.now.rows apart left_of c.may_close.result c.may_close.ensures c.if-may_close-ne0.true

pub returns-in-Err-Device-clause-shuts : goal.returns-in-Err-Device-clause-shuts
returns-in-Err-Device-clause-shuts g c = λ gone left old apart left_of.
    let n : Named c.args.files.now c.args.file = named_at c.args.files.now c.args.file c.requires.file in
    let within : c.args.file < length c.args.table.now.rows = omega (arith, c.requires.file, c.requires.rows) in
    shuts_broken c.args.file (addresses_of c.args.files.now) gone left c.args.bench.now.left old _ c.args.table.now.rows apart left_of n.address n.here c.may_close.result within c.may_close.ensures c.if-may_close-ne0.false c.close.new.bench.left _ c.close.new.table.rows
    c.in-Err-Device.field-0 c.in-Err-Device.field-0-is (c.in-Err-Device.ensures.bench n.address n.here) (c.in-Err-Device.ensures.notes n.address n.here) (λ world. c.in-Err-Device.ensures.world world n.address n.here)

pub returns-in-Ok-clause-shuts : goal.returns-in-Ok-clause-shuts
returns-in-Ok-clause-shuts g c = λ gone left old apart left_of.
    let n : Named c.args.files.now c.args.file = named_at c.args.files.now c.args.file c.requires.file in
    let within : c.args.file < length c.args.table.now.rows = omega (arith, c.requires.file, c.requires.rows) in
    shuts_done c.args.file (addresses_of c.args.files.now) gone left c.args.bench.now.left old _ c.args.table.now.rows apart left_of n.address n.here c.may_close.result within c.may_close.ensures c.if-may_close-ne0.false c.close.new.bench.left _ c.close.new.table.rows
    c.in-Ok.field-0 (c.in-Ok.ensures.bench n.address n.here) (c.in-Ok.ensures.notes n.address n.here) (λ world. c.in-Ok.ensures.world world n.address n.here)
    (λ zero. c.in-Ok.ensures.shut n.address n.here (ap Ok zero)) (λ device name. c.in-Ok.ensures.others device name (λ e. cc))
