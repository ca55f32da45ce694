use Rattle.std.proofs.Common.{◌≡◌, ◌∙◌, ◌-◌, ◌<◌, ℕ, List, arith, inl, inr, length, refl, subst, sym}
use Rattle.velo_events.specs.declared.event.ThreadId.{ThreadId}
use Rattle.velo_explore.specs.Goals.{Reached}
use Rattle.velo_explore.specs.Simple.{IsLimited}
use Rattle.velo_explore.proofs.OnShrunk.{above-none, above-some, at_some, needed, threads-without}
use Rattle.velo_explore.proofs.minimizing.leave_out.Goals as goal

pub returns-in_default-clause-needed : goal.returns-in_default-clause-needed
returns-in_default-clause-needed c =
    let n = length c.args.schedule.now - 1 in
    let count : c.len.result ≡ n = omega (arith, c.len.ensures, c.in_ok-others.ensures.fewer, c.in_ok-others.others.ok) in
    needed c.args.workload.now c.args.config c.config_of_try-limits.result c.args.goal c.args.schedule.now c.deref.result.now c.args.place
    (inr (subst (λ (k : ℕ). IsLimited k c.args.goal c.args.config c.config_of_try-limits.result) count c.config_of_try-limits.ensures))
    (c.deref.ensures.value ∙ c.in_ok-others.ensures.turns) (c.in_ok-turns.ensures.misses n (above-none n c.in_ok-turns.field-0 c.in_default.is))

pub returns-then-len-clause-needed : goal.returns-then-len-clause-needed
returns-then-len-clause-needed c =
    let n = length c.args.schedule.now - 1 in
    let count : c.len.result ≡ n = omega (arith, c.len.ensures, c.in_ok-others.ensures.fewer, c.in_ok-others.others.ok) in
    let more : n < length c.in-Some.turns.items =
    omega (arith, c.if-len.true, c.len-2.ensures, c.len-3.ensures, c.in_ok-others.ensures.fewer, c.in_ok-others.others.ok, c.in-Some.turns.ok) in
    needed c.args.workload.now c.args.config c.config_of_try-limits.result c.args.goal c.args.schedule.now c.deref.result.now c.args.place
    (inr (subst (λ (k : ℕ). IsLimited k c.args.goal c.args.config c.config_of_try-limits.result) count c.config_of_try-limits.ensures))
    (c.deref.ensures.value ∙ c.in_ok-others.ensures.turns) (c.in_ok-turns.ensures.misses n (above-some n c.in_ok-turns.field-0 c.in-Some.turns c.in-Some.is more))

pub returns-then-branch-clause-shows : goal.returns-then-branch-clause-shows
returns-then-branch-clause-shows c =
    subst (λ (turns : List ThreadId). Reached c.args.workload.now c.args.config c.args.goal turns) c.deref-2.ensures.value (c.in_ok-shows_again.ensures.shows c.if-branch.true)

pub returns-in-Some-2-clause-shows : goal.returns-in-Some-2-clause-shows
returns-in-Some-2-clause-shows c =
    subst (λ (turns : List ThreadId). Reached c.args.workload.now c.args.config c.args.goal turns) c.deref-3.ensures.value
    (at_some c.in_ok-tried.field-0 c.in-Some-2.field-0 c.in-Some-2.is c.in_ok-tried.ensures.reached)

pub returns-in-Some-2-clause-threads : goal.returns-in-Some-2-clause-threads
returns-in-Some-2-clause-threads c = threads-without c.args.place c.args.schedule.now c.in_ok-others.others.items c.in_ok-others.ensures.turns c.requires.threads

pub returns-in-None-clause-needed : goal.returns-in-None-clause-needed
returns-in-None-clause-needed c =
    let n = length c.args.schedule.now - 1 in
    needed c.args.workload.now c.args.config c.args.config c.args.goal c.args.schedule.now c.deref-3.result.now c.args.place (inl refl)
    (c.deref-3.ensures.value ∙ c.in_ok-others.ensures.turns) (c.in_ok-tried.ensures.misses n (above-none n c.in_ok-tried.field-0 c.in-None.is))
