use Rattle.std.proofs.Common.{sym, ◌∙◌, get_or}
use Rattle.std.proofs.lemmas.Option.{slice_get-get_or}
use Rattle.velo_traces.specs.declared.block.Block.{Block}
use Rattle.velo_filter.specs.Tables.{left_of}
use Rattle.velo_delays.proofs.OnFound.{has_new-label}
use Rattle.velo_delays.proofs.rounds.has_new.Goals as goal

abbrev none : Block
none = record { first = 0; label = record { 0 = 0 } }

pub returns-then-not-has_label : goal.returns-then-not-has_label
returns-then-not-has_label c = λ is.
    let blocks = c.args.blocks.now in
    let i = c.loop-block.block-index in
    has_new-label (left_of c.args.left.now).labels blocks i (get_or blocks i none) (slice_get-get_or blocks i none c.loop-block-test.true) (sym c.has_label.ensures ∙ c.if-not-has_label.true)
