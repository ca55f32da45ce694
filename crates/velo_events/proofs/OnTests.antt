-- Tests that are joined by `or`.
use Rattle.std.proofs.Common.{◌≡◌, Bool, true, false, ◌||◌, sym, refl}
use Rattle.std.proofs.lemmas.Bool.{or_right}

pub or_regroup : (a b c : Bool) → (a || (b || c)) ≡ (b || (a || c))
or_regroup true b c = sym (or_right b true refl)
or_regroup false b c = refl
