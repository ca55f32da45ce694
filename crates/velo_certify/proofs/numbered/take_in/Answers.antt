use Rattle.std.proofs.lemmas.Option.{slice_get-get_or}
use Rattle.velo_traces.proofs.Past.{past}
use Rattle.velo_certify.proofs.OnNumbered.{TakesIn-by}
use Rattle.velo_certify.proofs.numbered.take_in.Goals as goal

pub returns-clause-taken : goal.returns-clause-taken
returns-clause-taken c =
    TakesIn-by c.args.events.now c.args.at _ c.args.number c.args.table.now c.record.new.self c.look_up-greatest.result
    (slice_get-get_or c.args.events.now c.args.at past c.requires.within) c.look_up-greatest.ensures c.record.ensures.recorded
