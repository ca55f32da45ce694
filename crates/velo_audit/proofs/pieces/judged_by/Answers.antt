use Rattle.std.proofs.Common.{arith, ◌∙◌}
use Rattle.velo_audit.proofs.OnCuts.{GoesTo-as_many}
use Rattle.velo_audit.proofs.OnVerdicts.{Judges-told, Judges-none, Judges-unknown, Judges-moved}
use Rattle.velo_audit.proofs.pieces.judged_by.Goals as goal

pub told_in-requires : goal.told_in-requires
told_in-requires c = GoesTo-as_many c.requires.0 c.args.log.now.events c.args.cut.now.place c.args.end.place c.args.cut.now.prologue.events c.args.closed.now.log c.args.places.now c.requires.1.within c.requires.2.within c.requires.2.goes

pub move_to-requires-clause-later : goal.move_to-requires-clause-later
move_to-requires-clause-later c = let l = c.requires.2.later in omega (arith, l)

pub move_to-requires-clause-within : goal.move_to-requires-clause-within
move_to-requires-clause-within c = c.requires.2.within

pub move_to-requires-clause-begun : goal.move_to-requires-clause-begun
move_to-requires-clause-begun c = c.requires.1.begun

pub returns-in-Some-clause-judges : goal.returns-in-Some-clause-judges
returns-in-Some-clause-judges c left is ends =
    Judges-told c.args.with_witness c.args.log.now.events left c.args.cut.now c.args.end.place c.args.end.marks.items c.args.closed.now.log c.args.places.now is ends c.in_ok-told.field-0 c.in-Some.told c.in-Some.is c.in_ok-told.ensures.tells

pub returns-then-end-len-clause-judges : goal.returns-then-end-len-clause-judges
returns-then-end-len-clause-judges c left is ends =
    Judges-none c.args.with_witness c.args.log.now.events left c.args.cut.now c.args.end.place c.args.end.marks.items c.args.closed.now.log c.args.places.now is ends c.in_ok-told.field-0 c.in_default.is (c.if-end-len.true ∙ c.len.ensures) c.in_ok-told.ensures.tells

pub returns-then-not-is_quiet-clause-judges : goal.returns-then-not-is_quiet-clause-judges
returns-then-not-is_quiet-clause-judges c left is ends =
    Judges-unknown c.args.with_witness c.args.log.now.events left c.args.cut.now c.args.end.place c.args.end.marks.items c.args.closed.now.log c.args.places.now is ends

pub returns-clause-judges : goal.returns-clause-judges
returns-clause-judges c left is ends =
    Judges-moved c.args.with_witness c.args.log.now.events left c.args.cut.now c.args.end.place c.args.end.marks.items c.args.closed.now.log c.args.places.now is ends c.in_ok-told.field-0 c.in_default.is c.in_ok-told.ensures.tells
    (c.is_quiet.ensures c.if-not-is_quiet.false) c.move_to.new.cut c.in_ok-move_to.ensures.place c.in_ok-move_to.ensures.marks c.in_ok-move_to.ensures.no_begin c.in_ok-move_to.ensures.begun
