use Rattle.std.proofs.Common.{sym, ◌∙◌, arith}
use Rattle.std.proofs.lemmas.Bool.{false≢true}
use Rattle.velo_filter.specs.Left.{rest_of}
use Rattle.velo_filter.specs.Tables.{left_of}
use Rattle.velo_search.specs.Trail.{turns_for}
use Rattle.velo_search.proofs.OnTrails.{shown-all}
use Rattle.velo_explore.proofs.OnTold.{alarms-bodies, cut-search, goes_on_all, leads-bodies, never-has, plain-scripts, short-scripts, somewhere}
use Rattle.velo_explore.proofs.exploring.search_all.Goals as goal

pub search-requires-clause-plain : goal.search-requires-clause-plain
search-requires-clause-plain g c = plain-scripts c.args.workload.now c.args.config.now.bounds c.requires.bounds c.in_ok-scripts.scripts.kinds c.in_ok-scripts.ensures.scripts

pub search-requires-clause-short : goal.search-requires-clause-short
search-requires-clause-short g c =
    short-scripts c.args.workload.now c.args.config.now.bounds c.requires.bounds c.in_ok-scripts.scripts.kinds c.in_ok-scripts.ensures.scripts c.args.config.now.events c.requires.few (let few = c.args.config.now.few_events in omega (arith, few))

pub returns-clause-never : goal.returns-clause-never
returns-clause-never g c = λ whole fault none.
    never-has (left_of c.args.left.now) c.args.workload.now c.args.config.now.bounds c.requires.bounds c.in_ok-scripts.scripts.kinds c.in_ok-scripts.ensures.scripts c.in_ok-scripts.ensures.count fault (c.in_ok-searched.ensures.whole whole fault none)

pub returns-clause-found : goal.returns-clause-found
returns-clause-found g c = λ fault found.
    somewhere (rest_of (left_of c.args.left.now)) c.args.workload.now c.args.config.now.bounds c.requires.bounds c.in_ok-scripts.scripts.kinds c.in_ok-scripts.ensures.scripts fault (c.in_ok-searched.ensures.found fault found)

pub returns-clause-cut : goal.returns-clause-cut
returns-clause-cut g c = λ part fault none.
    cut-search (rest_of (left_of c.args.left.now)) c.args.workload.now c.args.config.now.bounds c.requires.bounds c.in_ok-scripts.scripts.kinds c.in_ok-scripts.ensures.scripts c.args.most_states c.args.first _ c.in_ok-searched.searched.found c.in_ok-searched.searched.states
    (c.in_ok-searched.ensures.cut part) fault none

pub returns-clause-leads : goal.returns-clause-leads
returns-clause-leads g c = λ fault.
    leads-bodies (rest_of (left_of c.args.left.now)) c.args.workload.now c.args.config.now.bounds c.requires.bounds c.in_ok-scripts.scripts.kinds c.in_ok-scripts.ensures.scripts fault (turns_for c.in_ok-searched.searched.schedules fault) (c.in_ok-searched.ensures.shown fault)

pub returns-clause-each : goal.returns-clause-each
returns-clause-each g c = λ whole fault found.
    let goes_on = goes_on_all c.args.first (λ first. false≢true (sym (c.in_ok-searched.ensures.first first whole fault) ∙ found)) in
    c.in_ok-searched.ensures.each fault (shown-all c.args.first c.in_ok-searched.searched.found fault goes_on found)

pub returns-clause-alarms : goal.returns-clause-alarms
returns-clause-alarms g c =
    alarms-bodies (rest_of (left_of c.args.left.now)) c.args.workload.now c.args.config.now.bounds c.requires.bounds c.in_ok-scripts.scripts.kinds c.in_ok-scripts.ensures.scripts c.args.first c.in_ok-searched.searched.schedules c.in_ok-searched.ensures.alarms
