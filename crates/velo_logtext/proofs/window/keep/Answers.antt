use Rattle.std.proofs.Common.{◌∙◌, ap, take}
use Rattle.velo_logtext.proofs.OnWindows.{moved_front}
use Rattle.velo_logtext.proofs.window.keep.Goals as goal

pub returns : goal.returns
returns c =
    ap (take c.args.left) c.copy_within.ensures.after ∙ moved_front c.args.buffer.now c.args.end c.args.left c.requires.within c.requires.few
