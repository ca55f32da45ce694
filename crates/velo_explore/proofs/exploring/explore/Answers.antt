use Rattle.std.proofs.Common.{◌≡◌, ◌&&◌, true, arith}
use Rattle.std.specs.Prelude.{IsTrue, is_some}
use Rattle.velo_filter.specs.Left.{rest_of}
use Rattle.velo_filter.specs.Tables.{left_of}
use Rattle.velo_search.specs.declared.fault.Fault.{Fault}
use Rattle.velo_search.specs.declared.fault.Fault.TheVariants.{Cycle, Stuck, Refusing}
use Rattle.velo_search.specs.Search.{has_fault}
use Rattle.velo_search.specs.Trail.{LeadsTo, turns_for}
use Rattle.velo_search.proofs.OnTrails.{shown-all}
use Rattle.velo_explore.specs.declared.finding.Findings.{Findings}
use Rattle.velo_explore.specs.Bodies.{all_scripts}
use Rattle.velo_explore.specs.Goals.{finding_of}
use Rattle.velo_explore.specs.Told.{FollowsRun, IfShown, IsLeftOpen, IsMet, IsTold, OnOpen}
use Rattle.velo_explore.proofs.OnShown.{IfSome-mapped, alarms-told, no-alarms, none-shown}
use Rattle.velo_explore.proofs.OnTold.{cut-told, each_fault, first-told, met-told, open-told, ruled-out}
use Rattle.velo_explore.proofs.exploring.explore.Goals as goal

pub tell-requires-clause-ruled_out : goal.tell-requires-clause-ruled_out
tell-requires-clause-ruled_out g c = λ ruled.
    let x = c.in_ok-searched.searched in
    let w = ruled-out x.whole x.found.alarm c.rules_out-no_alarm.result c.rules_out-no_alarm.ensures ruled in
    c.in_ok-searched.ensures.never w.0 Cycle w.1

pub tell-requires-2-clause-ruled_out : goal.tell-requires-2-clause-ruled_out
tell-requires-2-clause-ruled_out g c = λ ruled.
    let x = c.in_ok-searched.searched in
    let w = ruled-out x.whole x.found.stuck c.rules_out-no_deadlock.result c.rules_out-no_deadlock.ensures ruled in
    c.in_ok-searched.ensures.never w.0 Stuck w.1

pub tell-requires-3-clause-ruled_out : goal.tell-requires-3-clause-ruled_out
tell-requires-3-clause-ruled_out g c = λ ruled.
    let x = c.in_ok-searched.searched in
    let w = ruled-out x.whole x.found.refused c.rules_out-no_refusal.result c.rules_out-no_refusal.ensures ruled in
    c.in_ok-searched.ensures.never w.0 Refusing w.1

pub tell-requires-clause-leads : goal.tell-requires-clause-leads
tell-requires-clause-leads g c =
    IfSome-mapped (λ v. v.items) (LeadsTo c.args.workload.now.bounds (all_scripts c.args.workload.now) (rest_of (left_of c.args.left.now)) Cycle) c.in_ok-searched.searched.schedules.alarm (c.in_ok-searched.ensures.leads Cycle)

pub tell-requires-2-clause-leads : goal.tell-requires-2-clause-leads
tell-requires-2-clause-leads g c =
    IfSome-mapped (λ v. v.items) (LeadsTo c.args.workload.now.bounds (all_scripts c.args.workload.now) (rest_of (left_of c.args.left.now)) Stuck) c.in_ok-searched.searched.schedules.stuck (c.in_ok-searched.ensures.leads Stuck)

pub tell-requires-3-clause-leads : goal.tell-requires-3-clause-leads
tell-requires-3-clause-leads g c =
    IfSome-mapped (λ v. v.items) (LeadsTo c.args.workload.now.bounds (all_scripts c.args.workload.now) (rest_of (left_of c.args.left.now)) Refusing) c.in_ok-searched.searched.schedules.refused (c.in_ok-searched.ensures.leads Refusing)

pub returns-clause-told : goal.returns-clause-told
returns-clause-told g c =
    let found : Findings = record { alarm = c.in_ok-alarm.alarm; stuck = c.in_ok-stuck.stuck; refused = c.in_ok-refused.refused } in
    each_fault (λ (f : Fault). IsTold (rest_of (left_of c.args.left.now)) c.args.workload.now c.args.config f (finding_of found f)) c.in_ok-alarm.ensures.told c.in_ok-stuck.ensures.told c.in_ok-refused.ensures.told

pub returns-clause-follows : goal.returns-clause-follows
returns-clause-follows g c =
    let found : Findings = record { alarm = c.in_ok-alarm.alarm; stuck = c.in_ok-stuck.stuck; refused = c.in_ok-refused.refused } in
    each_fault (λ (f : Fault). IfShown (finding_of found f) (FollowsRun (rest_of (left_of c.args.left.now)) c.args.workload.now f)) c.in_ok-alarm.ensures.follows c.in_ok-stuck.ensures.follows c.in_ok-refused.ensures.follows

pub returns-then-events-from-clause-follows : goal.returns-then-events-from-clause-follows
returns-then-events-from-clause-follows g c = none-shown (rest_of (left_of c.args.left.now)) c.args.workload.now c.untried.result.findings c.untried.ensures.findings

pub returns-clause-left_open : goal.returns-clause-left_open
returns-clause-left_open g c =
    let found : Findings = record { alarm = c.in_ok-alarm.alarm; stuck = c.in_ok-stuck.stuck; refused = c.in_ok-refused.refused } in
    let x = c.in_ok-searched.searched in
    let says = c.in_ok-searched.ensures in
    let over = g.P.Progress.may_end c.args.progress.now && g.P.Progress.says_over c.search_all.new.progress in
    let met = each_fault (λ (f : Fault). has_fault x.found f ≡ true → IsTrue (is_some (turns_for x.schedules f)) → IsMet (rest_of (left_of c.args.left.now)) c.args.workload.now c.args.config f (finding_of found f))
    (met-told (rest_of (left_of c.args.left.now)) c.args.workload.now c.args.config Cycle x.whole x.found.alarm c.rules_out-no_alarm.result x.schedules.alarm c.in_ok-alarm.alarm c.rules_out-no_alarm.ensures c.in_ok-alarm.ensures.never.1 c.in_ok-alarm.ensures.missed)
    (met-told (rest_of (left_of c.args.left.now)) c.args.workload.now c.args.config Stuck x.whole x.found.stuck c.rules_out-no_deadlock.result x.schedules.stuck c.in_ok-stuck.stuck c.rules_out-no_deadlock.ensures c.in_ok-stuck.ensures.never.1 c.in_ok-stuck.ensures.missed)
    (met-told (rest_of (left_of c.args.left.now)) c.args.workload.now c.args.config Refusing x.whole x.found.refused c.rules_out-no_refusal.result x.schedules.refused c.in_ok-refused.refused c.rules_out-no_refusal.ensures c.in_ok-refused.ensures.never.1 c.in_ok-refused.ensures.missed) in
    let cut = cut-told (rest_of (left_of c.args.left.now)) c.args.workload.now c.args.config c.args.most_states x.states c.args.first over x.found x.schedules found says.found says.shown met in
    let ended = first-told (rest_of (left_of c.args.left.now)) c.args.workload.now c.args.config c.args.most_states x.states c.args.first over x.found x.schedules found says.found says.shown met in
    each_fault (λ (f : Fault). OnOpen (finding_of found f) (IsLeftOpen (rest_of (left_of c.args.left.now)) c.args.workload.now c.args.config c.args.most_states c.args.first over x.states found f))
    (open-told (rest_of (left_of c.args.left.now)) c.args.workload.now c.args.config c.args.most_states c.args.first over x.states found Cycle x.whole x.found.alarm c.rules_out-no_alarm.result x.schedules.alarm c.in_ok-alarm.alarm
    c.rules_out-no_alarm.ensures (λ part none. cut Cycle (says.cut part Cycle none)) (ended Cycle) (λ whole. says.each whole Cycle) (λ all some. says.shown Cycle (shown-all c.args.first x.found Cycle all some)) c.in_ok-alarm.ensures.missed)
    (open-told (rest_of (left_of c.args.left.now)) c.args.workload.now c.args.config c.args.most_states c.args.first over x.states found Stuck x.whole x.found.stuck c.rules_out-no_deadlock.result x.schedules.stuck c.in_ok-stuck.stuck
    c.rules_out-no_deadlock.ensures (λ part none. cut Stuck (says.cut part Stuck none)) (ended Stuck) (λ whole. says.each whole Stuck) (λ all some. says.shown Stuck (shown-all c.args.first x.found Stuck all some)) c.in_ok-stuck.ensures.missed)
    (open-told (rest_of (left_of c.args.left.now)) c.args.workload.now c.args.config c.args.most_states c.args.first over x.states found Refusing x.whole x.found.refused c.rules_out-no_refusal.result x.schedules.refused c.in_ok-refused.refused
    c.rules_out-no_refusal.ensures (λ part none. cut Refusing (says.cut part Refusing none)) (ended Refusing) (λ whole. says.each whole Refusing) (λ all some. says.shown Refusing (shown-all c.args.first x.found Refusing all some)) c.in_ok-refused.ensures.missed)

pub returns-clause-untried : goal.returns-clause-untried
returns-clause-untried g c = λ many.
    absurd (let few = c.args.config.few_events in omega (arith, many, few, c.count_all-events.ensures, c.from.ensures, c.if-events-from.false))

pub returns-clause-alarms : goal.returns-clause-alarms
returns-clause-alarms g c =
    alarms-told (left_of c.args.left.now) c.args.workload.now c.args.config c.requires.bounds c.args.first c.in_ok-alarm.alarm c.in_ok-searched.searched.schedules c.in_ok-searched.ensures.alarms c.in_ok-alarm.ensures.from

pub returns-then-events-from-clause-alarms : goal.returns-then-events-from-clause-alarms
returns-then-events-from-clause-alarms g c =
    no-alarms (rest_of (left_of c.args.left.now)) c.args.workload.now c.args.config c.args.first c.untried.result.findings.alarm c.untried.result.alarms.items (c.untried.ensures.findings Cycle) c.untried.ensures.alarms
