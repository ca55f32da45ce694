use Rattle.std.proofs.Common.{vec_len}
use Rattle.velo_runtime.proofs.room.+put_all.Given as goal

abbrev pub decreases-put_all : goal.decreases-put_all
decreases-put_all l = vec_len l.seats.now
