use Rattle.std.proofs.Common.{sym, subst, ◌∙◌}
use Rattle.velo_certify.specs.declared.serial.Next.TheVariants.{Stuck}
use Rattle.velo_certify.specs.Threads.{IsWithFront}
use Rattle.velo_certify.proofs.OnListed.{HasLinksLeft-all_listed, IsFree-all_listed, IsFree-not_all_listed}
use Rattle.velo_certify.proofs.OnThreads.{IsWithFront-before, IsWithFront-free, IsWithFront-first, IsWithFront-held}
use Rattle.velo_certify.proofs.serial.with_front.Goals as goal

pub returns-then-is_before : goal.returns-then-is_before
returns-then-is_before c = record {
  links = c.requires.links;
  next = IsWithFront-before c.args.events.now c.args.listed.now c.args.a c.args.next (sym c.is_before.ensures ∙ c.if-is_before.true);
}

pub returns-then-drop_listed-clause-links : goal.returns-then-drop_listed-clause-links
returns-then-drop_listed-clause-links c =
    HasLinksLeft-all_listed c.args.events.now c.args.listed.now c.requires.closed.each c.args.a c.args.links.now c.drop_listed.new.links c.drop_listed.result c.requires.links c.drop_listed.ensures

pub returns-then-drop_listed-clause-next : goal.returns-then-drop_listed-clause-next
returns-then-drop_listed-clause-next c =
    IsWithFront-free c.args.events.now c.args.listed.now c.args.a c.requires.candidate c.args.next (sym c.is_before.ensures ∙ c.if-is_before.false)
    (IsFree-all_listed c.args.events.now c.args.listed.now c.requires.closed.each c.args.a c.args.links.now c.drop_listed.new.links c.drop_listed.result c.requires.links c.drop_listed.ensures c.requires.candidate c.requires.front c.if-drop_listed.true)

pub returns-in-Done-clause-links : goal.returns-in-Done-clause-links
returns-in-Done-clause-links c =
    HasLinksLeft-all_listed c.args.events.now c.args.listed.now c.requires.closed.each c.args.a c.args.links.now c.drop_listed.new.links c.drop_listed.result c.requires.links c.drop_listed.ensures

pub returns-in-Done-clause-next : goal.returns-in-Done-clause-next
returns-in-Done-clause-next c =
    subst (λ next. IsWithFront c.args.events.now c.args.listed.now c.args.a next Stuck) (sym c.in-Done.is)
    (IsWithFront-first c.args.events.now c.args.listed.now c.args.a c.requires.candidate
    (IsFree-not_all_listed c.args.events.now c.args.listed.now c.requires.closed.each c.args.a c.args.links.now c.drop_listed.new.links c.drop_listed.result c.requires.links c.drop_listed.ensures c.requires.candidate.within c.if-drop_listed.false))

pub returns-in_default : goal.returns-in_default
returns-in_default c = record {
  links = HasLinksLeft-all_listed c.args.events.now c.args.listed.now c.requires.closed.each c.args.a c.args.links.now c.drop_listed.new.links c.drop_listed.result c.requires.links c.drop_listed.ensures;
  next = IsWithFront-held c.args.events.now c.args.listed.now c.args.a c.requires.candidate
      (IsFree-not_all_listed c.args.events.now c.args.listed.now c.requires.closed.each c.args.a c.args.links.now c.drop_listed.new.links c.drop_listed.result c.requires.links c.drop_listed.ensures c.requires.candidate.within c.if-drop_listed.false)
      c.args.next c.in_default.not-Done;
}
