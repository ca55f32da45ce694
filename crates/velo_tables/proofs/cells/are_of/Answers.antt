use Rattle.std.proofs.Common.{◌≡◌, ℕ, ◌+◌, ◌/◌, ◌^◌, ◌<◌, [], false, Option, Some, None, get_or, sym, ap, subst, ◌∙◌, refl, arith, rules}
use Rattle.std.proofs.Math.Facts.{Fits-lt-pow}
use Rattle.std.specs.Prelude.{is_some, true}
use Rattle.std.proofs.lemmas.Bool.{false≢true}
use Rattle.std.specs.Option.{option_to_list}
use Rattle.std.specs.Int.{trailing_zeros}
use mir.Syntax.{w64}
use Rattle.velo_arena.specs.declared.step.Step.{Step}
use Rattle.velo_tables.specs.Others.{but_for}
use Rattle.velo_tables.proofs.OnReaders.{IsWalked, IsWalked-next, IsWalked-within, IsWalked-all, nothing_of}
use Rattle.velo_tables.proofs.OnOthers.{HaveBits-but_for}
use Rattle.velo_tables.proofs.cells.are_of.Goals as goal

none_from : {X : Type 0} (o : Option X) → is_some o ≡ false → o ≡ None
none_from None is = refl
none_from (Some x) is = cc

pub loop-left-preserved : goal.loop-left-preserved
loop-left-preserved c =
    let at = c.loop-left in
    let f = λ (t : ℕ). but_for (Some c.args.slot) (get_or c.args.reads.now t None) in
    let thread = at.thread + trailing_zeros w64 at.left in
    let some : 0 < at.left = omega (arith, c.loop-left-test.true) in
    let other : f thread ≡ None = ap (λ (o : Option Step). but_for (Some c.args.slot) o) (sym c.entry_at.ensures) ∙ (sym c.but_for-other.ensures ∙ none_from _ (sym c.is_some.ensures ∙ c.if-is_some.false)) in
    record {
      walked =
          subst (λ (o : Option Step). IsWalked c.args.readers f [] (at.left / 2 ^ trailing_zeros w64 at.left / 2 ^ 1) (thread + 1) (option_to_list o)) other
          (IsWalked-next c.args.readers f [] at.left at.thread [] (HaveBits-but_for (Some c.args.slot) c.args.readers c.args.reads.now c.requires) c.ranges.readers.fits some (Fits-lt-pow at.auto.left-fits) at.invariant.walked thread refl);
    }

pub returns : goal.returns
returns c =
    let at = c.loop-left in
    let f = λ (t : ℕ). but_for (Some c.args.slot) (get_or c.args.reads.now t None) in
    let none = sym (IsWalked-all c.args.readers f [] at.left at.thread [] (HaveBits-but_for (Some c.args.slot) c.args.readers c.args.reads.now c.requires) c.loop-left-test.false at.invariant.walked) in
    (λ _. none, λ _. refl)

pub returns-then-is_some : goal.returns-then-is_some
returns-then-is_some c =
    let at = c.loop-left in
    let f = λ (t : ℕ). but_for (Some c.args.slot) (get_or c.args.reads.now t None) in
    let within = IsWalked-within c.args.readers f [] at.left at.thread [] c.ranges.readers.fits (omega (arith, c.loop-left-test.true)) (Fits-lt-pow at.auto.left-fits) at.invariant.walked in
    let other : is_some (f (at.thread + trailing_zeros w64 at.left)) ≡ true =
    ap (λ (o : Option Step). is_some (but_for (Some c.args.slot) o)) (sym c.entry_at.ensures)
    ∙ (ap is_some (sym c.but_for-other.ensures) ∙ (sym c.is_some.ensures ∙ c.if-is_some.true)) in
    (λ wrong. absurd (false≢true wrong), λ none. absurd (false≢true (sym (ap is_some (nothing_of f _ within none)) ∙ other)))

pub loop-left-init : goal.loop-left-init
loop-left-init c = search rules
