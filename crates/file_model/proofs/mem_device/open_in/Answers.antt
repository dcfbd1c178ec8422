use Rattle.std.proofs.Common.{List, refl, subst}
use Rattle.std.proofs.lemmas.Option.{slice_get_read}
use Rattle.file_model.specs.declared.mem_file.MemFile.{MemFile}
use Rattle.file_model.specs.First.{IsFirst}
use Rattle.file_model.proofs.Firsts.{opens_first}
use Rattle.file_model.proofs.mem_device.open_in.Goals as goal

pub returns-in-Some-clause-told : goal.returns-in-Some-clause-told
returns-in-Some-clause-told c =
    let first : IsFirst c.args.name.now c.args.files.now.items c.in-Some.at =
    subst (λ (files : List MemFile). IsFirst c.args.name.now files c.in-Some.at) c.as_slice.ensures.value c.in-Some.ensures
    in (
      opens_first c.args.name.now c.args.files.now.items c.in-Some.at c.args.how c.index_mut.result.now _ first
          (slice_get_read c.args.files.now.items _ c.in-Some.at c.index_mut.result.now refl first.within c.index_mut.ensures.value)
          c.open_as.ensures,
      refl,
    )
