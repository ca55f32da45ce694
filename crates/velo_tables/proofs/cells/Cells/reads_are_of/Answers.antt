use Rattle.std.proofs.Common.{◌≡◌, ◌++◌, List, Option, Some, None, sym, ap, ◌∙◌}
use Rattle.std.specs.Prelude.{slice_index_or}
use Rattle.std.specs.List.{filter_map}
use Rattle.std.specs.Option.{option_to_list}
use Rattle.std.proofs.lemmas.List.{append-nil}
use Rattle.velo_arena.specs.declared.step.Step.{Step}
use Rattle.velo_events.specs.Place.{thread_numbers}
use Rattle.velo_tables.specs.LastAccesses.{no_accesses}
use Rattle.velo_tables.specs.Others.{but_for}
use Rattle.velo_tables.proofs.OnReaders.{nothing_behind}
use Rattle.velo_tables.proofs.cells.Cells.reads_are_of.Goals as goal

pub returns : goal.returns
returns c =
    let accesses = slice_index_or c.args.self.now c.args.c.0 no_accesses in
    let first = option_to_list (but_for (Some c.args.slot) accesses.write) in
    let of_reads = λ (reads : List (Option Step)). filter_map (λ t. but_for (Some c.args.slot) (slice_index_or reads t None)) thread_numbers in
    let same : of_reads c.reads_of.result.now ≡ of_reads accesses.reads = ap of_reads c.reads_of.ensures in (
      λ all. ap (λ steps. first ++ steps) (sym same ∙ c.are_of.ensures.0 all) ∙ append-nil first,
      λ none. c.are_of.ensures.1 (same ∙ nothing_behind first (of_reads accesses.reads) none),
    )
