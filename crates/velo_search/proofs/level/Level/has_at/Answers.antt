use Rattle.std.proofs.Common.{◌≡◌, ◌<◌, Some, length, refl, sym, ◌∙◌, subst, rules}
use Rattle.std.specs.Prelude.{slice_get}
use Rattle.std.proofs.lemmas.Option.{same_Some, slice_get_read}
use Rattle.velo_search.specs.States.{AreSameStates}
use Rattle.velo_search.proofs.level.Level.has_at.Goals as goal

pub returns-then-place-len : goal.returns-then-place-len
returns-then-place-len c =
    let states = c.args.self.now.states.items in
    let here = c.index.result.now in
    let within : c.args.place < length states = search rules in
    let there : slice_get states c.args.place ≡ Some here = slice_get_read states (length states) c.args.place here refl within c.index.ensures in (
      λ h. record { member = here; there = there; same = c.is_same.ensures.0 h },
      λ w. c.is_same.ensures.1 (subst (λ s. AreSameStates s c.args.state.now) (same_Some w.member here (sym w.there ∙ there)) w.same),
    )
