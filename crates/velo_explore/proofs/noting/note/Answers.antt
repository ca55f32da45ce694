use Rattle.std.proofs.Common.{◌+◌, ◌-◌, ◌^◌, min, refl, sym, ap, ◌∙◌}
use Rattle.std.specs.Prelude.{if◌then◌else◌}
use Rattle.velo_explore.proofs.OnRuns.{ComesTo-noted, seen-as, some-map}
use Rattle.velo_explore.proofs.noting.note.Goals as goal

pub returns-clause-comes_to : goal.returns-clause-comes_to
returns-clause-comes_to c = λ runs comes.
    let has = c.is_some.ensures ∙ sym (some-map c.args.alarm) in
    ComesTo-noted runs _ c.args.tally _ (record {
      few = c.requires.few;
      runs = refl;
      findings = seen-as _ _ _ _ _ has c.in_ok-findings.ensures;
      alarms = c.count_if.ensures ∙ ap (λ b. min (c.args.tally.alarms + (if b then 1 else 0)) (2 ^ 64 - 1)) has;
      blamed = c.in_ok-blamed.ensures;
    }) comes
