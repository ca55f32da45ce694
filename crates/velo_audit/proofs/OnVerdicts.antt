-- What a piece says of the round.
use Rattle.std.proofs.Common.{◌≡◌, ℕ, ◌≤◌, Bool, List, length, Option, Some, None, refl, sym, ap, ◌∙◌, subst, arith}
use Rattle.std.specs.Prelude.{not}
use Rattle.std.proofs.lemmas.Option.{none-some, same_Some}
use Rattle.velo_events.specs.declared.event.Event.{Event}
use Rattle.velo_events.specs.Graph.{HasCycle}
use Rattle.velo_filter.specs.Left.{Omitted}
use Rattle.velo_filter.specs.Tables.{members}
use Rattle.velo_filter.specs.Thinned.{first_of_rest}
use Rattle.velo_filter.proofs.OnThinned.{first_of_rest-all}
use Rattle.velo_laws.specs.Cut.{IsQuiet}
use Rattle.velo_laws.specs.Restart.{HasNoBegin}
use Rattle.velo_audit.specs.Audit.{CheckTells, RoundTells}
use Rattle.velo_audit.specs.Cut.{AreBegun, IsCut, EndsAt}
use Rattle.velo_audit.specs.Verdict.{IsRoundVerdict, Judges}
use Rattle.velo_audit.specs.declared.cut.Cut.{Cut}
use Rattle.velo_audit.specs.declared.pieces.PiecesVerdict.{PiecesVerdict}
use Rattle.velo_audit.specs.declared.pieces.PiecesVerdict.TheVariants as verdict
use Rattle.velo_audit.specs.declared.told.Told.{Told}
use Rattle.velo_audit.proofs.OnCuts.{RoundTells-none, RoundTells-some, IsCut-moved}

pub Judges-verdict : (with_witness : Bool) (log : List Event) (left : Omitted) (place : ℕ) (cut : Cut) (v : PiecesVerdict) → IsCut left log cut → IsRoundVerdict with_witness log left v → Judges with_witness log left place cut (Some v)
Judges-verdict with_witness log left place cut v is said = record {
  is_cut = is;
  verdict = λ w same. subst (IsRoundVerdict with_witness log left) (same_Some v w same) said;
  moved = λ none. absurd (none-some v (sym none));
}

module _ (with_witness : Bool) (log : List Event) (left : Omitted) (cut : Cut) (end : ℕ) (marks : List ℕ) (trace : List Event) (places : List ℕ) (is : IsCut left log cut) (ends : EndsAt left log cut end marks trace places) where
  pub Judges-told : (o : Option Told) (told : Told) → o ≡ Some told → CheckTells with_witness trace places o → Judges with_witness log left cut.place cut (Some (verdict.Told told))
  Judges-told o told some h = Judges-verdict with_witness log left cut.place cut (verdict.Told told) is
      (RoundTells-some left log cut is end marks trace places ends with_witness told (subst (CheckTells with_witness trace places) some h))

  pub Judges-none : (o : Option Told) → o ≡ None → end ≡ length log → CheckTells with_witness trace places o → Judges with_witness log left cut.place cut (Some verdict.NoCycle)
  Judges-none o none last h = Judges-verdict with_witness log left cut.place cut verdict.NoCycle is
      (RoundTells-none left log cut is end marks trace places ends with_witness last (subst (CheckTells with_witness trace places) none h))

  pub Judges-unknown : Judges with_witness log left cut.place cut (Some verdict.Unknown)
  Judges-unknown = Judges-verdict with_witness log left cut.place cut verdict.Unknown is tt

  pub Judges-moved : (o : Option Told) → o ≡ None → CheckTells with_witness trace places o → IsQuiet trace → (cut' : Cut) → cut'.place ≡ end → cut'.marks.items ≡ marks → HasNoBegin cut'.prologue.events → AreBegun (members cut'.begun) log end → Judges with_witness log left cut.place cut' None
  Judges-moved o none h quiet cut' at same no_begin begun = record {
    is_cut = IsCut-moved left log cut is end marks trace places ends (subst (CheckTells with_witness trace places) none h) quiet cut' at same no_begin begun;
    verdict = λ v some. absurd (none-some v some);
    moved = λ here. let l = ends.later in omega (arith, l, at);
  }

-- at a cut behind all events
pub NoCycle-at_end : (with_witness : Bool) (log : List Event) (left : Omitted) (cut : Cut) → IsCut left log cut → length log ≤ cut.place → IsRoundVerdict with_witness log left verdict.NoCycle
NoCycle-at_end with_witness log left cut is past =
    let at : cut.place ≡ length log = let l = is.within in omega (arith, l, past) in
    subst (λ es. ¬ HasCycle es) (ap (first_of_rest left log) at ∙ first_of_rest-all left log) is.no_cycle
