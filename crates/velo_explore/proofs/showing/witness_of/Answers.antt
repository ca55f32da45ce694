use Rattle.std.proofs.Common.{List, refl, sym, subst}
use Rattle.velo_events.specs.declared.event.ThreadId.{ThreadId}
use Rattle.velo_search.specs.declared.fault.Fault.TheVariants.{Refusing}
use Rattle.velo_filter.specs.Left.{rest_of}
use Rattle.velo_filter.specs.Tables.{left_of}
use Rattle.velo_search.specs.Trail.{LeadsTo}
use Rattle.velo_explore.specs.Bodies.{all_scripts}
use Rattle.velo_explore.proofs.OnShown.{follows-it, follows-one_more, missed-alarm, missed-refusal, missed-stuck, where_none}
use Rattle.velo_explore.proofs.showing.witness_of.Goals as goal

pub returns-in-Refusing-clause-shows : goal.returns-in-Refusing-clause-shows
returns-in-Refusing-clause-shows c = rw c.in-Refusing.is c.refused_after.ensures.shows

pub returns-in-Refusing-clause-none : goal.returns-in-Refusing-clause-none
returns-in-Refusing-clause-none c =
    let program = c.args.workload.now in
    rw c.in-Refusing.is
    (where_none c.refused_after.result
    (λ lacks. missed-refusal (rest_of (left_of c.args.left.now)) program c.args.config c.requires.bounds c.deref.result.now lacks
    (subst (λ (turns : List ThreadId). LeadsTo program.bounds (all_scripts program) (rest_of (left_of c.args.left.now)) Refusing turns) (sym c.deref.ensures.value) (rw c.in-Refusing.is at c.requires.leads)))
    c.refused_after.ensures.none)

pub returns-in-Refusing-clause-follows : goal.returns-in-Refusing-clause-follows
returns-in-Refusing-clause-follows c =
    follows-one_more (rest_of (left_of c.args.left.now)) c.args.workload.now c.args.fault c.in-Refusing.is c.args.turns.items c.deref.result.now c.requires.leads c.deref.ensures.value c.refused_after.result c.refused_after.ensures.one_more

pub returns-in-Cycle-clause-follows : goal.returns-in-Cycle-clause-follows
returns-in-Cycle-clause-follows c = follows-it (rest_of (left_of c.args.left.now)) c.args.workload.now c.args.fault c.args.turns.items c.args.turns.items c.requires.leads refl c.witness_by.result c.witness_by.ensures.by

pub returns-in-Stuck-clause-follows : goal.returns-in-Stuck-clause-follows
returns-in-Stuck-clause-follows c = follows-it (rest_of (left_of c.args.left.now)) c.args.workload.now c.args.fault c.args.turns.items c.args.turns.items c.requires.leads refl c.witness_by-in-Stuck.result c.witness_by-in-Stuck.ensures.by

pub returns-in-Cycle-clause-shows : goal.returns-in-Cycle-clause-shows
returns-in-Cycle-clause-shows c = rw c.in-Cycle.is c.witness_by.ensures.shows

pub returns-in-Cycle-clause-none : goal.returns-in-Cycle-clause-none
returns-in-Cycle-clause-none c =
    rw c.in-Cycle.is
    (where_none c.witness_by.result
    (λ lacks. missed-alarm (left_of c.args.left.now) c.args.workload.now c.args.config c.requires.bounds c.args.turns.items lacks (rw c.in-Cycle.is at c.requires.leads)) c.witness_by.ensures.none)

pub returns-in-Stuck-clause-shows : goal.returns-in-Stuck-clause-shows
returns-in-Stuck-clause-shows c = rw c.in-Stuck.is c.witness_by-in-Stuck.ensures.shows

pub returns-in-Stuck-clause-none : goal.returns-in-Stuck-clause-none
returns-in-Stuck-clause-none c =
    rw c.in-Stuck.is
    (where_none c.witness_by-in-Stuck.result
    (λ lacks. missed-stuck (rest_of (left_of c.args.left.now)) c.args.workload.now c.args.config c.requires.bounds c.args.turns.items c.requires.count lacks (rw c.in-Stuck.is at c.requires.leads)) c.witness_by-in-Stuck.ensures.none)
