use Rattle.std.proofs.Common.{get_or}
use Rattle.std.proofs.lemmas.Option.{slice_get-get_or}
use Rattle.velo_traces.proofs.Past.{past}
use Rattle.velo_thinning.proofs.OnFinding.{found-next}
use Rattle.velo_thinning.proofs.finder.Finder.take_in.Goals as goal

pub returns : goal.returns
returns c =
    let log = c.args.events.now in
    let n = c.args.position in
    found-next log n (get_or log n past) (slice_get-get_or log n past c.requires.within) c.args.self.now c.note.new.self c.requires.found
    c.note.ensures.near c.note.ensures.written c.note.ensures.accessed
