use Rattle.std.proofs.Common.{◌∙◌, ◌+◌, List, ℕ, ap, arith, length, refl, subst, sym}
use Rattle.std.proofs.lemmas.List.{with_items_is}
use Rattle.std.specs.Vec.{with_items}
use Rattle.velo_filter.specs.Marks.{AreMarks}
use Rattle.velo_filter.specs.Tables.{left_of}
use Rattle.velo_filter.proofs.OnThinned.{IsShallow-from}
use Rattle.velo_watch.proofs.OnMore.{marks-before}
use Rattle.velo_watch.proofs.OnRests.{fails, gone, pushed}
use Rattle.velo_watch.proofs.rest.Rest.follow.Goals as goal

pub stays_at-requires-clause-shallow : goal.stays_at-requires-clause-shallow
stays_at-requires-clause-shallow c =
    IsShallow-from c.args.events.now (record { bounds = c.args.self.now.world.config.bounds; well_formed = c.requires.well_formed })

pub stays_at-requires-clause-marks : goal.stays_at-requires-clause-marks
stays_at-requires-clause-marks c =
    let last = c.requires.last in
    subst (λ (ks : List ℕ). AreMarks (left_of c.args.left.now) c.args.events.now c.args.position ks) (sym c.deref_mut.ensures.value)
    (marks-before (left_of c.args.left.now) c.args.events.now c.args.position (omega (arith, last)) c.args.self.now.rows.items c.requires.stands.marks)

pub returns-then-not-stays_at-clause-stands : goal.returns-then-not-stays_at-clause-stands
returns-then-not-stays_at-clause-stands c =
    let left = left_of c.args.left.now in
    let rows = c.args.self.now.rows in
    let many = c.stays_at.ensures.rows in
    let as_many = c.requires.stands.as_many in
    let long = rows.ok.0 in
    let same = with_items_is rows c.stays_at.new.rows (omega (arith, many, as_many, long)) in
    gone left c.args.events.now c.args.position c.requires.last c.args.self.now (record { world = c.args.self.now.world; places = c.args.self.now.places; rows = with_items rows c.stays_at.new.rows })
    (sym c.stays_at.ensures.stays ∙ c.if-not-stays_at.true) c.requires.stands refl refl (ap length same ∙ many)
    (subst (λ (ks : List ℕ). AreMarks left c.args.events.now (c.args.position + 1) ks) (sym same) c.stays_at.ensures.marks)

pub returns-clause-stands : goal.returns-clause-stands
returns-clause-stands c =
    let left = left_of c.args.left.now in
    let rows = c.args.self.now.rows in
    let many = c.stays_at.ensures.rows in
    let as_many = c.requires.stands.as_many in
    let long = rows.ok.0 in
    let same = c.push.ensures.rows ∙ with_items_is rows c.stays_at.new.rows (omega (arith, many, as_many, long)) in
    pushed left c.args.events.now c.args.position c.requires.last (sym c.stays_at.ensures.stays ∙ c.if-not-stays_at.false) c.args.self.now c.push.new.self c.push.result c.requires.stands c.push.ensures.log c.push.ensures.places
    (ap length same ∙ many)
    (subst (λ (ks : List ℕ). AreMarks left c.args.events.now (c.args.position + 1) ks) (sym same) c.stays_at.ensures.marks)

pub returns-clause-fault : goal.returns-clause-fault
returns-clause-fault c =
    fails (left_of c.args.left.now) c.args.events.now c.args.position c.requires.last (sym c.stays_at.ensures.stays ∙ c.if-not-stays_at.false) c.args.self.now.world.config c.requires.well_formed c.requires.few c.args.self.now.world.log
    c.push.result c.requires.stands.events c.push.ensures.fault
