use Rattle.velo_filter.specs.Tables.{left_of}
use Rattle.velo_audit.proofs.OnClean.{clean-rounds, clean-only, clean-truly, clean-witnessed, clean-found, clean-left, clean-few, clean-serializable}
use Rattle.velo_audit.proofs.checked.audit_checked.Goals as goal

pub returns-then-clean-clause-rounds : goal.returns-then-clean-clause-rounds
returns-then-clean-clause-rounds c = clean-rounds c.args.with_witness c.args.log.now.events (left_of c.args.left.now) _ c.new.ensures.items (c.requires.clean c.if-clean.true)

pub returns-then-clean-clause-only : goal.returns-then-clean-clause-only
returns-then-clean-clause-only c = clean-only c.args.with_witness c.args.log.now.events (left_of c.args.left.now) _ c.new.ensures.items (c.requires.clean c.if-clean.true)

pub returns-then-clean-clause-truly : goal.returns-then-clean-clause-truly
returns-then-clean-clause-truly c = clean-truly c.args.with_witness c.args.log.now.events (left_of c.args.left.now) _ c.new.ensures.items (c.requires.clean c.if-clean.true)

pub returns-then-clean-clause-witnessed : goal.returns-then-clean-clause-witnessed
returns-then-clean-clause-witnessed c = clean-witnessed c.args.with_witness c.args.log.now.events (left_of c.args.left.now) _ c.new.ensures.items (c.requires.clean c.if-clean.true)

pub returns-then-clean-clause-found : goal.returns-then-clean-clause-found
returns-then-clean-clause-found c = clean-found c.args.with_witness c.args.log.now.events (left_of c.args.left.now) _ c.new.ensures.items (c.requires.clean c.if-clean.true)

pub returns-then-clean-clause-left : goal.returns-then-clean-clause-left
returns-then-clean-clause-left c = clean-left c.args.with_witness c.args.log.now.events (left_of c.args.left.now) _ c.new.ensures.items (c.requires.clean c.if-clean.true)

pub returns-then-clean-clause-few : goal.returns-then-clean-clause-few
returns-then-clean-clause-few c = clean-few c.args.with_witness c.args.log.now.events (left_of c.args.left.now) _ c.new.ensures.items (c.requires.clean c.if-clean.true)

pub returns-then-clean-clause-serializable : goal.returns-then-clean-clause-serializable
returns-then-clean-clause-serializable c = clean-serializable c.args.with_witness c.args.log.now.events (left_of c.args.left.now) _ c.new.ensures.items (c.requires.clean c.if-clean.true)
