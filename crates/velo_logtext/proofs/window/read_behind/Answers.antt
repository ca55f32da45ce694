use Rattle.std.proofs.Common.{◌≤◌, length, take, arith}
use Rattle.velo_bytes.proofs.OnDevices.{keeps_read}
use Rattle.velo_logtext.proofs.OnWindows.{filled_more}
use Rattle.velo_logtext.proofs.window.read_behind.Goals as goal

pub returns-clause-bytes : goal.returns-clause-bytes
returns-clause-bytes g c =
    let count = c.in_ok-count.count in
    let piece = c.read.new.piece in
    let few : count ≤ length piece = grind (arith, c.in_ok-count.ensures.bound) in
    let front = filled_more c.keep.new.buffer piece c.args.left count (omega (arith, c.requires.room, c.keep.auto.buffer)) few in
    rw (front, c.keep.ensures) (keeps_read _ (take count piece) _ _ c.in_ok-count.ensures.bytes.0)
