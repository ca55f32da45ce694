use Rattle.std.proofs.Common.{ℕ, ◌+◌, ◌<◌, ◌++◌, Option, get_or, sym, ap, subst, ◌∙◌, refl, arith, rules}
use Rattle.std.proofs.Math.Facts.{Fits-lt-pow}
use Rattle.std.specs.Prelude.{None}
use Rattle.std.specs.Option.{option_to_list}
use Rattle.std.specs.Int.{trailing_zeros}
use mir.Syntax.{w64}
use Rattle.velo_arena.specs.declared.step.Step.{Step}
use Rattle.velo_tables.specs.Others.{but_for}
use Rattle.velo_tables.proofs.OnReaders.{IsWalked, IsWalked-next, IsWalked-all}
use Rattle.velo_tables.proofs.OnOthers.{HaveBits-but_for}
use Rattle.velo_tables.proofs.cells.push_reads_of.Goals as goal

pub loop-rest-preserved : goal.loop-rest-preserved
loop-rest-preserved c =
    let at = c.loop-rest in
    let f = λ (t : ℕ). but_for c.args.slot (get_or c.args.reads.now t None) in
    let some : 0 < at.rest = omega (arith, c.loop-rest-test.true) in
    let listed = c.push_step.ensures.items ∙ (ap (λ o. at.list.items ++ option_to_list o) c.but_for.ensures ∙ ap (λ (o : Option Step). at.list.items ++ option_to_list (but_for c.args.slot o)) c.entry_at.ensures) in
    record {
      walked =
          subst (IsWalked c.args.readers f c.args.list.now.items _ (at.thread + trailing_zeros w64 at.rest + 1)) (sym listed)
          (IsWalked-next c.args.readers f c.args.list.now.items at.rest at.thread at.list.items (HaveBits-but_for c.args.slot c.args.readers c.args.reads.now c.requires.covered) c.ranges.readers.fits some (Fits-lt-pow at.auto.rest-fits) at.invariant.walked (at.thread + trailing_zeros w64 at.rest) refl);
      capacity = c.push_step.ensures.capacity ∙ at.invariant.capacity;
    }

pub returns-clause-items : goal.returns-clause-items
returns-clause-items c =
    let at = c.loop-rest in
    let f = λ (t : ℕ). but_for c.args.slot (get_or c.args.reads.now t None) in
    IsWalked-all c.args.readers f c.args.list.now.items at.rest at.thread at.list.items (HaveBits-but_for c.args.slot c.args.readers c.args.reads.now c.requires.covered) c.loop-rest-test.false at.invariant.walked

pub loop-rest-init : goal.loop-rest-init
loop-rest-init c = search rules
