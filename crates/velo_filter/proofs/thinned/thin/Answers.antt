use Rattle.std.proofs.Common.{◌≡◌, ℕ, ap, sym, subst, ◌∙◌, arith, length}
use Rattle.std.proofs.lemmas.List.{length-replicate}
use Rattle.velo_events.specs.Reordering.{IsSerializable}
use Rattle.velo_events.specs.WellFormed.{IsWellFormed}
use Rattle.velo_filter.proofs.OnKept.{blame-rest, IsSerializable-rest}
use Rattle.velo_filter.proofs.OnTurns.{IsWellFormed-rest}
use Rattle.velo_filter.specs.Left.{rest_of, places_of}
use Rattle.velo_filter.specs.Marks.{AreMarks, IsShallow}
use Rattle.velo_filter.specs.Tables.{left_of}
use Rattle.velo_filter.specs.Thinned.{first_of_rest, first_places, IsThinnedTo}
use Rattle.velo_filter.proofs.OnThinned.{IsShallow-from, AreMarks-start, first_of_rest-all, first_places-all}
use Rattle.velo_filter.proofs.thinned.thin.Goals as goal

pub take_in-requires-clause-shallow : goal.take_in-requires-clause-shallow
take_in-requires-clause-shallow c = subst IsShallow (sym c.as_slice-events.ensures) (IsShallow-from c.args.log.now.events c.requires.can_come_about)

pub take_in-requires-clause-stands : goal.take_in-requires-clause-stands
take_in-requires-clause-stands c = subst (IsThinnedTo (left_of c.args.left.now) c.as_slice-events.result.now c.loop-position.position c.loop-position.thinned) (sym c.deref_mut.ensures.value) c.loop-position.invariant.stands

pub loop-position-init : goal.loop-position-init
loop-position-init c = record {
  stands = record {
    events = c.new.ensures;
    places = c.new-2.ensures.items;
    as_many = ap length c.in_ok-rows.ensures ∙ length-replicate {A = ℕ} 256 0;
    marks = subst (AreMarks (left_of c.args.left.now) c.as_slice-events.result.now 0) (sym c.in_ok-rows.ensures) (AreMarks-start (left_of c.args.left.now) c.as_slice-events.result.now 256);
  };
}

pub returns-clause-events : goal.returns-clause-events
returns-clause-events c =
    let left = left_of c.args.left.now in
    let events = c.as_slice-events.result.now in
    let at : c.loop-position.position ≡ length events = omega (arith, c.loop-position.auto.position-end, c.loop-position-test.false) in
    c.loop-position.invariant.stands.events ∙ (ap (first_of_rest left events) at ∙ (first_of_rest-all left events ∙ ap (rest_of left) c.as_slice-events.ensures))

pub returns-clause-well_formed : goal.returns-clause-well_formed
returns-clause-well_formed c bounds well = subst (IsWellFormed bounds) (sym (returns-clause-events c)) (IsWellFormed-rest (left_of c.args.left.now) bounds c.args.log.now.events well)

pub returns-clause-serializable : goal.returns-clause-serializable
returns-clause-serializable c serial = subst IsSerializable (sym (returns-clause-events c)) (IsSerializable-rest (left_of c.args.left.now) c.args.log.now.events serial)

pub returns-clause-blame : goal.returns-clause-blame
returns-clause-blame c p b within upto blamed = blame-rest (left_of c.args.left.now) c.args.log.now.events p b within upto blamed

pub returns-clause-places : goal.returns-clause-places
returns-clause-places c =
    let left = left_of c.args.left.now in
    let events = c.as_slice-events.result.now in
    let at : c.loop-position.position ≡ length events = omega (arith, c.loop-position.auto.position-end, c.loop-position-test.false) in
    c.loop-position.invariant.stands.places ∙ (ap (first_places left events) at ∙ (first_places-all left events ∙ ap (places_of left) c.as_slice-events.ensures))
