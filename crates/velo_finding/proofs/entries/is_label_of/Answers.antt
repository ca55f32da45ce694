use Rattle.std.proofs.Common.{sym, ◌∙◌}
use Rattle.velo_traces.specs.declared.block.Block.{Block}
use Rattle.velo_filter.proofs.OnTables.{is_listed-nil}
use Rattle.velo_finding.proofs.OnLabels.{listed-not, listed-yes}
use Rattle.velo_finding.proofs.entries.is_label_of.Goals as goal

abbrev none : Block
none = record { first = 0; label = record { 0 = 0 } }

pub loop-block-init : goal.loop-block-init
loop-block-init c = is_listed-nil c.args.label.0

pub returns-then-eq : goal.returns-then-eq
returns-then-eq c = sym (listed-yes c.args.blocks.now c.loop-block.block-index none c.loop-block-test.true c.args.label.0 (sym c.eq.ensures ∙ c.if-eq.true))

pub loop-block-preserved : goal.loop-block-preserved
loop-block-preserved c = listed-not c.args.blocks.now c.loop-block.block-index none c.loop-block-test.true c.args.label.0 c.loop-block.invariant (sym c.eq.ensures ∙ c.if-eq.false)
