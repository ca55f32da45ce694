use Rattle.velo_check.specs.Disk.{store}
use Rattle.velo_check.specs.Writing.{writing}
use Rattle.velo_thinning.proofs.OnTexts.{sent}
use Rattle.velo_thinning.proofs.delivering.send.Goals as goal

pub returns : goal.returns
returns g c =
    sent (store g.F.Files.disk c.args.files.now c.deliver.new.files) (writing g.O.Sink.contents g.O.Sink.failures c.args.out.now c.deliver.new.out)
    c.args.saves c.args.counts c.deliver.result c.deliver.ensures
