use Rattle.std.proofs.Common.{arith}
use Rattle.std.proofs.lemmas.Grind.{elements}
use Rattle.velo_ledger.proofs.book.Book.fits.Goals as goal

pub returns : goal.returns
returns c = grind (arith, elements)
