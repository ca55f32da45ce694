use Rattle.velo_ffi.proofs.OnJoined.{joined-is, piece-append}
use Rattle.velo_ffi.proofs.laws.pieces_make_the_log.Goals as goal

pub returns-clause-whole : goal.returns-clause-whole
returns-clause-whole c = λ bounds log ends lead. joined-is bounds log 0 ends lead

pub returns-clause-stays : goal.returns-clause-stays
returns-clause-stays c = λ bounds log more from next le there. piece-append bounds log more from next le there
