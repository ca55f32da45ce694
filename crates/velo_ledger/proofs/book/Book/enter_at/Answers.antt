use Rattle.std.proofs.Common.{◌≡◌, ◌≤◌, ℕ, List, Option, Some, get_or, sym, ap, subst, ◌∙◌, rules}
use Rattle.std.specs.Prelude.{slice_get}
use Rattle.std.proofs.lemmas.Option.{same_Some, get_or_from_slice_get}
use Rattle.velo_ledger.specs.Views.{Holding}
use Rattle.velo_ledger.specs.Book.{FitsBook}
use Rattle.velo_ledger.proofs.book.Book.enter_at.Goals as goal

-- what was read at the place is what stands there
read_share : (inner places : List (Option Holding)) (t place : ℕ) (read : Option Holding) (there share : Holding) → inner ≡ places → place ≡ t → slice_get places t ≡ Some (Some there) → read ≡ get_or inner place read → read ≡ Some share → share ≡ there
read_share inner places t place read there share same at is value some =
    let here : slice_get inner place ≡ Some (Some there) = ap (λ xs. slice_get xs place) same ∙ ap (slice_get places) at ∙ is in
    same_Some _ _ (sym some ∙ value ∙ get_or_from_slice_get inner place (Some there) read here)

place : (c : goal.After-enter-arg-1) → c.from-place.result ≡ c.args.event.now.thread.0
place c = search rules

found : (c : goal.After-enter-arg-1) (there : Holding) → slice_get c.args.shares.now c.args.event.now.thread.0 ≡ Some (Some there) → c.in-Some.share ≡ there
found c there is =
    read_share c.shares.inside.places.items c.args.shares.now c.args.event.now.thread.0 c.from-place.result c.index_mut.result.now there c.in-Some.share c.shares.view_is (place c) is c.index_mut.ensures.value c.in-Some.is

pub enter-requires-clause-fits : goal.enter-requires-clause-fits
enter-requires-clause-fits c = subst (FitsBook c.args.self.now) (sym (found c c.requires.there.share c.requires.there.there)) c.requires.there.fits

pub enter-requires-clause-later : goal.enter-requires-clause-later
enter-requires-clause-later c = subst (λ (share : Holding). share.tally.next ≤ c.args.position) (sym (found c c.requires.there.share c.requires.there.there)) c.requires.there.later
