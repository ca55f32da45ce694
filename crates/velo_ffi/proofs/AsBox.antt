-- The box that is kept: its types, and how they are handed to a call.
use Rattle.std.specs.Prelude.{◌≡◌, ◌≢◌, Option, Some, None, refl}
use mir.Raw.{raw}
use mir.Syntax.{Dict, impl, tnil, tcons, dnil}
use mathlib.Core.List.{[], ◌∷◌}
use denote.Exit.{no}
use denote.RattleType.{RattleType}
use denote.Param.{layout, arg}
use denote.Param.Laws.{Laws, arg_laws}
use denote.Signature.{Slot, plain}
use Rattle.std_alloc.proofs.BoxSteps.Form.{Bx}
use Rattle.std_heap.specs.contracts.Global as Heap
use Rattle.std_heap.specs.contracts.GlobalAllocator.TheImpl.{ghosts, dict}
use Rattle.std_heap.proofs.Global.TheLaws as heap
use Rattle.velo_ffi.specs.contracts.watch.Watch as Watch
use Rattle.velo_ffi.proofs.watch.Watch.TheLaws as watch
use Rattle.velo_ffi.specs.contracts.held.Held as Held
use Rattle.velo_ffi.specs.contracts.kept.Kept as Kept

-- a type as a call is handed it
abbrev pub handed : RattleType → RattleType
handed R = arg (raw (layout R)) no R

abbrev pub no_drop : Dict
no_drop = impl ("velo_ffi::Destruct++none::drop" ∷ []) (tcons (layout (handed Heap.the_row)) tnil) dnil

-- a watch in a box of the heap's
abbrev pub E : Bx
E = record { row = Watch.the_row; laws = watch.the_row_laws; al = record { row = Heap.the_row; laws = heap.the_row_laws; g = ghosts; d = dict; drops = no_drop } }

-- the same, as a call is handed it
abbrev pub Handed : Bx
Handed = record {
  row = handed Watch.the_row;
  laws = arg_laws (raw (layout Watch.the_row)) no Watch.the_row watch.the_row_laws refl;
  al = record {
    row = handed Heap.the_row;
    laws = arg_laws (raw (layout Heap.the_row)) no Heap.the_row heap.the_row_laws refl;
    g = ghosts;
    d = dict;
    drops = no_drop;
  };
}

-- a box of any type, from the heap
abbrev pub boxed : (X : RattleType) → Laws X → Bx
boxed X L = record { row = X; laws = L; al = E.al }

-- the same, as a call is handed it
abbrev pub boxed_handed : (X : RattleType) → Laws X → Bx
boxed_handed X L = record { row = X; laws = L; al = Handed.al }

abbrev pub FromHeld : Slot 0
FromHeld = plain (λ _. Held.the_row Watch.the_row)

abbrev pub FromKept : Slot 0
FromKept = plain (λ _. Kept.the_row)

abbrev pub State : Type 0
State = (Watch.the_row).Denot

-- what is not none is some state
unfoldable pub is_some_state : (m : Option State) → m ≢ None → (x : State) × (m ≡ Some x)
is_some_state None not_none = elim (not_none refl) [ ]
is_some_state (Some x) not_none = (x, refl)
