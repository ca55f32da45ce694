use Rattle.std.proofs.Common.{ap, sym, ◌∙◌, ◌∷◌, [], ◌++◌, get_or}
use Rattle.velo_traces.proofs.Past.{past}
use Rattle.velo_filter.specs.Tables.{left_of}
use Rattle.velo_filter.proofs.OnThinned.{first_places-stays, first_of_rest-stays, first_places-goes, first_of_rest-goes}
use Rattle.velo_filter.proofs.thinned.take_in.Goals as goal
use Rattle.velo_filter.proofs.thinned.take_in.Goals.{then-stays_at+in_ok-push, else-stays_at}

pub returns : goal.returns
returns c =
    let left = left_of c.args.left.now in let log = c.args.events.now in let n = c.args.position in
    elim c.if-stays_at.branch [
      | then-stays_at+in_ok-push w ↦
          let stay = sym c.stays_at.ensures.stays ∙ w.if-stays_at.true in
          rw w.thinned-is (record {
            events = w.in_ok-push.ensures.events ∙ (ap (λ es. es ++ get_or log n past ∷ []) c.requires.stands.events ∙ first_of_rest-stays left log n c.requires.within stay);
            places = w.in_ok-push.ensures.places ∙ (ap (λ xs. xs ++ n ∷ []) c.requires.stands.places ∙ first_places-stays left log n c.requires.within stay);
            as_many = c.stays_at.ensures.rows;
            marks = c.stays_at.ensures.marks;
          })
      | else-stays_at w ↦
          let gone = sym c.stays_at.ensures.stays ∙ w.if-stays_at.false in
          rw w.thinned-is (record {
            events = c.requires.stands.events ∙ first_of_rest-goes left log n c.requires.within gone;
            places = c.requires.stands.places ∙ first_places-goes left log n c.requires.within gone;
            as_many = c.stays_at.ensures.rows;
            marks = c.stays_at.ensures.marks;
          })
    ]
