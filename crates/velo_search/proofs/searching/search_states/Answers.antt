use Rattle.std.proofs.Common.{◌≡◌, ◌+◌, ◌*◌, ◌≤◌, ◌&&◌, true, false, [], length, refl, subst, sym, ◌∙◌, arith, rules}
use Rattle.std.proofs.lemmas.Bool.{eqb-false, or_parts}
use Rattle.std.specs.Prelude.{All, IfSome, IsTrue, is_some}
use Rattle.velo_search.specs.Parts.{rest_by, part_at}
use Rattle.velo_search.specs.Faults.{IsFault}
use Rattle.velo_search.specs.Runs.{NeverWithin}
use Rattle.velo_search.specs.declared.found.Found.{Found}
use Rattle.velo_search.specs.declared.schedules.Schedules.{Schedules}
use Rattle.velo_search.specs.Trail.{LeadToCycles, LeadsTo, turns_for}
use Rattle.velo_search.specs.Told.{shown_of}
use Rattle.velo_search.specs.Search.{IsClean, IsSearchCut, IsTrueOf, has_fault}
use Rattle.velo_search.proofs.OnCounts.{few-level, ways-level}
use Rattle.velo_search.proofs.OnRuns.{never-any}
use Rattle.velo_search.proofs.OnTold.{ended-cut, nothing-true, goes_on-nothing, spent-cut}
use Rattle.velo_search.proofs.OnTrails.{shown-goes_on, shown-nothing}
use Rattle.velo_search.proofs.searching.search_states.Goals as goal

pub loop-states-init : goal.loop-states-init
loop-states-init g c =
    let bounds = c.args.config.now.bounds in
    let scripts = c.args.scripts.now.kinds in
    let rest = rest_by (part_at c.args.scripts.now.parts) in
    let begun = c.in_ok-level.ensures in
    record {
      some = begun.some;
      most = omega arith;
      true_of = subst (λ (f : Found). IsTrueOf bounds scripts rest f) (sym c.none-found.ensures) (nothing-true bounds scripts rest);
      others = begun.reached;
      shown = shown-goes_on bounds scripts rest c.args.first c.none-found.result c.new-trail.result c.first_level.new.trail begun.goes_on begun.alarms
          (shown-nothing bounds scripts rest c.args.first c.none-found.result c.new-trail.result c.none-found.ensures c.new-trail.ensures.first c.new-trail.ensures.shown c.new-trail.ensures.alarms);
      levels = omega arith;
      leads = λ n fault h clean. subst (λ m. NeverWithin m (IsFault bounds scripts rest fault) bounds scripts []) (let same : n ≡ 0 + n = omega arith in same) (begun.leads n fault clean);
      noted = begun.noted;
      depth = omega arith;
      kept = omega (arith, begun.one);
      may = refl;
    }

pub overflow_add-levels : goal.overflow_add-levels
overflow_add-levels g c =
    let inv = c.loop-states.invariant in
    omega (arith, inv.levels, inv.most, inv.some, c.loop-states-test.true, c.len.ensures)

pub returns-then-is_empty-clause-whole : goal.returns-then-is_empty-clause-whole
returns-then-is_empty-clause-whole g c = λ _ fault h.
    let bounds = c.args.config.now.bounds in
    let scripts = c.args.scripts.now.kinds in
    let rest = rest_by (part_at c.args.scripts.now.parts) in
    let goes_on = sym c.has_ended.ensures ∙ c.if-has_ended.false in
    let none = subst (λ (f : Found). has_fault f fault ≡ false) c.into_searched-then-is_empty.ensures.found h in
    let empty : length c.in_ok-looked.looked.next.states.items ≡ 0 = search rules in
    never-any bounds scripts (IsFault bounds scripts rest fault) [] (λ n.
    let all : All (IsClean bounds scripts rest n fault) c.in_ok-looked.looked.next.states.items = λ k d l. absurd (omega (arith, l, empty)) in
    let never = c.loop-states.invariant.leads (n + 1) fault (c.in_ok-looked.ensures.more fault none) (c.in_ok-looked.ensures.leads goes_on n fault none all) in
    λ more few. never more (omega (arith, few)))

pub returns-then-is_empty-clause-first : goal.returns-then-is_empty-clause-first
returns-then-is_empty-clause-first g c = λ first _ fault.
    subst (λ (f : Found). has_fault f fault ≡ false) (sym c.into_searched-then-is_empty.ensures.found)
    (goes_on-nothing c.args.first c.in_ok-looked.looked.found first (or_parts _ _ (sym c.has_ended.ensures ∙ c.if-has_ended.false)).1 fault)

pub loop-states-preserved : goal.loop-states-preserved
loop-states-preserved g c =
    let goes_on = sym c.has_ended.ensures ∙ c.if-has_ended.false in
    record {
      some = (let differ = eqb-false _ _ (sym c.is_empty.ensures ∙ c.if-is_empty.false) in omega (arith, differ, c.in_ok-looked.looked.next.states.ok.0));
      most = omega (arith, c.loop-states-test.true, c.loop-states.invariant.most, c.len.ensures, c.in_ok-looked.ensures.most);
      true_of = c.in_ok-looked.ensures.found;
      others = c.in_ok-looked.ensures.others;
      shown = c.in_ok-looked.ensures.shown;
      levels = (let inv = c.loop-states.invariant in let all = c.in_ok-looked.ensures.all goes_on in omega (arith, inv.levels, inv.some, all));
      leads = λ n fault h clean.
          let never = c.loop-states.invariant.leads (n + 1) fault (c.in_ok-looked.ensures.more fault h) (c.in_ok-looked.ensures.leads goes_on n fault h clean) in
          λ more few. never more (omega (arith, few));
      noted = c.in_ok-looked.ensures.noted;
      depth =
          let all = c.in_ok-looked.ensures.all goes_on in
          ways-level c.loop-states.states c.in_ok-looked.looked.states c.args.config.now.bounds.threads c.loop-states.levels (omega (arith, all, c.loop-states.invariant.kept)) c.loop-states.invariant.depth;
      kept =
          let all = c.in_ok-looked.ensures.all goes_on in
          few-level c.loop-states.states c.in_ok-looked.looked.states c.args.config.now.bounds.threads (length c.in_ok-looked.looked.next.states.items) (omega (arith, all, c.loop-states.invariant.kept)) c.in_ok-looked.ensures.count;
      may = c.level_done.ensures.may ∙ c.in_ok-looked.ensures.may ∙ c.loop-states.invariant.may;
    }

pub returns-clause-found : goal.returns-clause-found
returns-clause-found g c =
    subst (λ (f : Found). IsTrueOf c.args.config.now.bounds c.args.scripts.now.kinds (rest_by (part_at c.args.scripts.now.parts)) f) (sym c.into_searched-2.ensures.found) c.loop-states.invariant.true_of

pub returns-then-has_ended-clause-found : goal.returns-then-has_ended-clause-found
returns-then-has_ended-clause-found g c =
    subst (λ (f : Found). IsTrueOf c.args.config.now.bounds c.args.scripts.now.kinds (rest_by (part_at c.args.scripts.now.parts)) f) (sym c.into_searched.ensures.found) c.in_ok-looked.ensures.found

pub returns-then-is_empty-clause-found : goal.returns-then-is_empty-clause-found
returns-then-is_empty-clause-found g c =
    subst (λ (f : Found). IsTrueOf c.args.config.now.bounds c.args.scripts.now.kinds (rest_by (part_at c.args.scripts.now.parts)) f) (sym c.into_searched-then-is_empty.ensures.found) c.in_ok-looked.ensures.found

pub returns-then-has_ended-clause-shown : goal.returns-then-has_ended-clause-shown
returns-then-has_ended-clause-shown g c = λ fault.
    subst (λ (s : Schedules). IfSome (turns_for s fault) (LeadsTo c.args.config.now.bounds c.args.scripts.now.kinds (rest_by (part_at c.args.scripts.now.parts)) fault)) (sym c.into_searched.ensures.schedules) (c.in_ok-looked.ensures.shown.leads fault)

pub returns-then-has_ended-clause-each : goal.returns-then-has_ended-clause-each
returns-then-has_ended-clause-each g c = λ fault found.
    subst (λ (s : Schedules). IsTrue (is_some (turns_for s fault))) (sym c.into_searched.ensures.schedules) (c.in_ok-looked.ensures.shown.each fault (subst (λ (f : Found). has_fault (shown_of c.args.first f) fault ≡ true) c.into_searched.ensures.found found))

pub returns-then-is_empty-clause-shown : goal.returns-then-is_empty-clause-shown
returns-then-is_empty-clause-shown g c = λ fault.
    subst (λ (s : Schedules). IfSome (turns_for s fault) (LeadsTo c.args.config.now.bounds c.args.scripts.now.kinds (rest_by (part_at c.args.scripts.now.parts)) fault)) (sym c.into_searched-then-is_empty.ensures.schedules) (c.in_ok-looked.ensures.shown.leads fault)

pub returns-then-is_empty-clause-each : goal.returns-then-is_empty-clause-each
returns-then-is_empty-clause-each g c = λ fault found.
    subst (λ (s : Schedules). IsTrue (is_some (turns_for s fault))) (sym c.into_searched-then-is_empty.ensures.schedules) (c.in_ok-looked.ensures.shown.each fault (subst (λ (f : Found). has_fault (shown_of c.args.first f) fault ≡ true) c.into_searched-then-is_empty.ensures.found found))

pub returns-clause-shown : goal.returns-clause-shown
returns-clause-shown g c = λ fault.
    subst (λ (s : Schedules). IfSome (turns_for s fault) (LeadsTo c.args.config.now.bounds c.args.scripts.now.kinds (rest_by (part_at c.args.scripts.now.parts)) fault)) (sym c.into_searched-2.ensures.schedules) (c.loop-states.invariant.shown.leads fault)

pub returns-clause-each : goal.returns-clause-each
returns-clause-each g c = λ fault found.
    subst (λ (s : Schedules). IsTrue (is_some (turns_for s fault))) (sym c.into_searched-2.ensures.schedules) (c.loop-states.invariant.shown.each fault (subst (λ (f : Found). has_fault (shown_of c.args.first f) fault ≡ true) c.into_searched-2.ensures.found found))

pub returns-then-has_ended-clause-alarms : goal.returns-then-has_ended-clause-alarms
returns-then-has_ended-clause-alarms g c =
    subst (λ (s : Schedules). LeadToCycles c.args.config.now.bounds c.args.scripts.now.kinds (rest_by (part_at c.args.scripts.now.parts)) c.args.first s) (sym c.into_searched.ensures.schedules) c.in_ok-looked.ensures.shown.alarms

pub returns-then-is_empty-clause-alarms : goal.returns-then-is_empty-clause-alarms
returns-then-is_empty-clause-alarms g c =
    subst (λ (s : Schedules). LeadToCycles c.args.config.now.bounds c.args.scripts.now.kinds (rest_by (part_at c.args.scripts.now.parts)) c.args.first s) (sym c.into_searched-then-is_empty.ensures.schedules) c.in_ok-looked.ensures.shown.alarms

pub returns-clause-alarms : goal.returns-clause-alarms
returns-clause-alarms g c =
    subst (λ (s : Schedules). LeadToCycles c.args.config.now.bounds c.args.scripts.now.kinds (rest_by (part_at c.args.scripts.now.parts)) c.args.first s) (sym c.into_searched-2.ensures.schedules) c.loop-states.invariant.shown.alarms

pub returns-clause-cut : goal.returns-clause-cut
returns-clause-cut g c = λ _.
    let bounds = c.args.config.now.bounds in
    let scripts = c.args.scripts.now.kinds in
    let rest = rest_by (part_at c.args.scripts.now.parts) in
    let inv = c.loop-states.invariant in
    let over = g.P.Progress.may_end c.args.progress.now && g.P.Progress.says_over c.loop-states.progress in
    let most : c.args.most_states ≤ c.loop-states.states * bounds.threads = omega (arith, inv.kept, inv.most, c.loop-states-test.false, c.len.ensures) in
    subst (λ (f : Found). IsSearchCut bounds scripts rest c.args.most_states c.args.first over f c.into_searched-2.result.states) (sym c.into_searched-2.ensures.found)
    (subst (λ n. IsSearchCut bounds scripts rest c.args.most_states c.args.first over c.loop-states.found n) (sym c.into_searched-2.ensures.states)
    (spent-cut bounds scripts rest c.args.most_states c.args.first over c.loop-states.found c.loop-states.states c.loop-states.levels c.loop-states.level.states.items most inv.depth inv.leads))

pub returns-then-has_ended-clause-cut : goal.returns-then-has_ended-clause-cut
returns-then-has_ended-clause-cut g c = λ _.
    let bounds = c.args.config.now.bounds in
    let scripts = c.args.scripts.now.kinds in
    let rest = rest_by (part_at c.args.scripts.now.parts) in
    let looked = c.in_ok-looked.looked in
    let may = g.P.Progress.may_end in
    let over = may c.args.progress.now && g.P.Progress.says_over c.level_done.new.self in
    let said : looked.over ≡ true → over ≡ true = λ says.
    subst (λ b. (b && g.P.Progress.says_over c.level_done.new.self) ≡ true) c.loop-states.invariant.may
    (subst (λ b. (may c.loop-states.progress && b) ≡ true) (sym c.level_done.ensures.says) (c.in_ok-looked.ensures.over says)) in
    subst (λ (f : Found). IsSearchCut bounds scripts rest c.args.most_states c.args.first over f c.into_searched.result.states) (sym c.into_searched.ensures.found)
    (ended-cut bounds scripts rest c.args.most_states c.args.first over looked.over looked.found c.into_searched.result.states (sym c.has_ended.ensures ∙ c.if-has_ended.true) said)
