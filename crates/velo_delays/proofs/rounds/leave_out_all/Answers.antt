use Rattle.std.proofs.Common.{◌∷◌, [], ap, sym, ◌∙◌, map, take, get_or}
use Rattle.std.proofs.lemmas.List.{take_more, map-append}
use Rattle.velo_traces.specs.declared.block.Block.{Block}
use Rattle.velo_filter.specs.Left.{with_labels}
use Rattle.velo_filter.specs.Tables.{left_of}
use Rattle.velo_filter.proofs.OnTables.{with_labels-nil, with_labels-push}
use Rattle.velo_delays.specs.Found.{labels_of}
use Rattle.velo_delays.proofs.rounds.leave_out_all.Goals as goal

pub loop-block-init : goal.loop-block-init
loop-block-init c = record { left = with_labels-nil (left_of c.args.left.now) }

abbrev none : Block
none = record { first = 0; label = record { 0 = 0 } }

pub loop-block-preserved : goal.loop-block-preserved
loop-block-preserved c =
    let left = left_of c.args.left.now in
    let blocks = c.args.blocks.now in
    let i = c.loop-block.block-index in
    let label = (get_or blocks i none).label.0 in
    record {
      left =
          c.in_ok-leave_out_label.ensures.ok
          ∙ (ap (λ x. with_labels x (label ∷ [])) c.loop-block.invariant.left
          ∙ (with_labels-push left (labels_of (take i blocks)) label
          ∙ ap (with_labels left) (sym (ap labels_of (take_more blocks i none c.loop-block-test.true) ∙ map-append (λ (b : Block). b.label.0) (take i blocks) (get_or blocks i none ∷ [])))));
    }
