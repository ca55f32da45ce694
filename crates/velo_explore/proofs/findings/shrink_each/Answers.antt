use Rattle.velo_search.specs.declared.fault.Fault.{Fault}
use Rattle.velo_search.specs.declared.fault.Fault.TheVariants.{Cycle, Refusing, Stuck}
use Rattle.velo_explore.specs.declared.finding.Findings.{Findings}
use Rattle.velo_explore.specs.Goals.{Shows, finding_of}
use Rattle.velo_explore.specs.Told.{IfShown}
use Rattle.velo_explore.proofs.OnTold.{each_fault}
use Rattle.velo_explore.specs.Simple.{IsSayable, SimplifiesFinding}
use Rattle.velo_explore.proofs.OnShrunk.{kept-first}
use Rattle.velo_explore.proofs.findings.shrink_each.Goals as goal

pub shrink_finding-requires-clause-shows : goal.shrink_finding-requires-clause-shows
shrink_finding-requires-clause-shows c = c.requires.shows Cycle

pub shrink_finding-requires-2-clause-shows : goal.shrink_finding-requires-2-clause-shows
shrink_finding-requires-2-clause-shows c = c.requires.shows Stuck

pub shrink_finding-requires-3-clause-shows : goal.shrink_finding-requires-3-clause-shows
shrink_finding-requires-3-clause-shows c = c.requires.shows Refusing

pub returns : goal.returns
returns c =
    let program = c.args.workload.now in
    let found = c.args.findings in
    let told : Findings = record { alarm = c.in_ok-alarm.alarm; stuck = c.in_ok-stuck.stuck; refused = c.in_ok-refused.refused } in
    let alarm = c.in_ok-alarm.ensures in
    let stuck = c.in_ok-stuck.ensures in
    let refused = c.in_ok-refused.ensures in
    record {
      simple =
          each_fault (λ (f : Fault). SimplifiesFinding program c.args.config (finding_of found f) (finding_of told f)) alarm.simple stuck.simple refused.simple;
      shows = each_fault (λ (f : Fault). IfShown (finding_of told f) (Shows program c.args.config)) alarm.shows stuck.shows refused.shows;
      sayable =
          each_fault (λ (f : Fault). IfShown (finding_of told f) (λ witness. IsSayable witness.schedule.items)) alarm.sayable stuck.sayable refused.sayable;
      first =
          kept-first program c.args.config c.in_ok-alarm.alarm c.in_ok-stuck.stuck c.in_ok-refused.refused _ _ _ _ c.requires.none alarm.first stuck.first
          refused.first;
    }
