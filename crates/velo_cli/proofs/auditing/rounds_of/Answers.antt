use Rattle.velo_cli.proofs.OnFindings.{are_rounds_of}
use Rattle.velo_cli.proofs.auditing.rounds_of.Goals as goal

pub returns-in-Ok : goal.returns-in-Ok
returns-in-Ok c =
    let done = c.in-Ok.ensures in
    record {
      rounds = are_rounds_of _ c.args.log.now.events _ _ c.in-Ok.rounds.items done.rounds done.only done.truly done.witnessed done.found done.left done.few done.serializable;
    }
