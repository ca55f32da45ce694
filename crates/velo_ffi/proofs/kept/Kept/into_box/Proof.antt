-- `into_box` hands the address and the allocator to `Box::from_raw`. What was kept is what the box owns.
use Rattle.std.specs.Prelude.{◌≡◌, ◌≢◌, Option, Some, None}
use mathlib.Core.Path.{refl, sym, subst, ap, ◌∙◌}
use mathlib.Core.List.{List, [], ◌∷◌, ◌++◌}
use lib.Dec.{T}
use seplogic.Ra.Ura.{Ura}
use mir.Syntax.{Body, place, copy, assign, rv_opd, seq, return}
use mir.Val.{Val, vptr, has_ty, WT}
use base.Fraction.{full_share}
use base.Logic.{SProp, ent, emp, id⊢}
use base.Fml.{ftrue, fsep, flft}
use contract.BorrowLft.{◌⊑◌, ⊑_static}
use contract.Lifetimes.{Lfts}
use prog.Memory.{Memory}
use prog.Routine.{Routine}
use prog.Wp.{WpFn, Tables}
use types.Logic.{Logic}
use types.Tokens.{lft_new}
use contract.Monad.{Fun, fact, fact_i}
use contract.Running.{tables, tables_of}
use sound.WpLaws.{fm_of, WpFn-mono}
use types.Kit.{Item, at_ret, ‵, raw, ◌⊛◌, some, later, ◌$◌, ◌∵◌, !, qed, by, move, drop, use0, use1, join, split, split3, pick, rewrite, fsplit, fjoin, feq_i, suffices, await, done}
use types.Part.{whole, sub}
use types.Run.{stop, fld, no_more, and_then, of_opd, returns, enter, first, blocks, exec}
use types.ByLocal.{alloc_all, pass_all, free_all, look_at, get, get_in, sets, lands_last, env}
use denote.Exit.{yes}
use denote.Param.NoDrop.{glues}
use denote.RawPtr.{block_ptr}
use denote.Steps.{heard, nothing, only}
use denote.Triple.Call.{calls_at_last}
use denote.Triple.Spec.{triple_of}
use denote.Triple.Statement.{Triple, Contract}
use denote.Triple.Table.{entered}
use denote.Triple.Walked.{says, Stays, stay_dropped, walk_of, ends_at, Goes-dropped, walk_Meets}
use Rattle.core.proofs.alloc.Calls.{token}
use Rattle.std_alloc.specs.Box.Ownership.{box_owns}
use Rattle.std_alloc.proofs.BoxSteps.Form.{D, R, P, B, args, box_ty, word, box_typed}
use Rattle.std_alloc.proofs.BoxSteps.Steps.{box_out, box_in}
use Rattle.std_alloc.specs.contracts.boxed.Box.from_raw as From
use Rattle.std_alloc.proofs.boxed.Box.from_raw.Symbol as from_symbol
use Rattle.std_alloc.proofs.boxed.Box.from_raw.Met as from_met
use Rattle.std_heap.proofs.GlobalAllocator.TheImpl.Met as heap
use Rattle.velo_ffi.proofs.Destruct++none.drop.Code as none
use Rattle.velo_ffi.proofs.AsBox.{E, Handed, FromKept, State, is_some_state}
use Rattle.velo_ffi.specs.contracts.kept.Kept as Kept
use Rattle.velo_ffi.specs.contracts.kept.Kept.into_box as F
use Rattle.velo_ffi.specs.contracts.kept.Kept.into_box.Key.{name as #self}
use Rattle.velo_ffi.proofs.kept.Kept.into_box.Statement as stated
use Rattle.velo_ffi.proofs.kept.Kept.into_box.Code as code

abbrev stayed : Stays (F.ended).signature.params (F.ended).kept
stayed = (stay_dropped FromKept yes, tt)

-- the code after the call
abbrev rest : Body
rest = seq (assign (place 0 []) (rv_opd (copy (place 4 [])))) return

module _ {M : Type 1} {𝓤 : Ura M} (𝓛 : Logic 𝓤) (at_mem : Memory → SProp 𝓤) (run : Routine → Fun 𝓤) (𝓣 : Tables 𝓤 𝓛.H) where
  open 𝓛 use {H}

  abbrev Boxes : Contract 𝓤
  Boxes = triple_of 𝓛 (From.signature Handed.row Handed.al.row Handed.al.g Handed.al.d Handed.al.drops) (From.spec Handed.row Handed.al.row Handed.al.g Handed.al.d Handed.al.drops 𝓛 at_mem run)

  walk : Triple 𝓤 (𝓣.C (from_symbol.name (args Handed))) Boxes → (z : (walk_of 𝓛 F.ended stayed (F.clauses 𝓛 at_mem run)).Ghost)
      → ent 𝓤 ((walk_of 𝓛 F.ended stayed (F.clauses 𝓛 at_mem run)).pre z) (WpFn 𝓤 H 𝓣.C 𝓣.Λ code.function (z.0.4.0 ++ []) ((walk_of 𝓛 F.ended stayed (F.clauses 𝓛 at_mem run)).post z))
  walk known z =
      let Post = (walk_of 𝓛 F.ended stayed (F.clauses 𝓛 at_mem run)).post z in
      let k = z.0.3.0 in let a = k.alloc in
      qed 𝓛 ((‵ ftrue ⊛ ‵ (fsep ((Kept.the_row).own_val k z.0.4.0) ftrue)) ∷ raw (fact 𝓤 (k.watch ≢ None)) ∷ []) ∵
      split ! $ drop ! $ fsplit ! $ move ! (2 ∷ 0 ∷ []) $ heard ! (k.watch ≢ None) (λ open_now.
      -- [what is kept; true]
      let kept = is_some_state k.watch open_now in let x = kept.0 in
      rewrite ! 0 (λ (m : Option State). ‵ ((Kept.the_row).own_val (record k { watch = m }) z.0.4.0)) kept.1 refl $
      let held : D E = record { ptr = k.address; alloc = a; value = x } in
      box_out E ! held z.0.4.0 (λ b o hv e words fa. fjoin ! $
      let w = word E hv b o in
      let Γ : List (Item 𝓤) = ‵ (box_owns (token E.al a) (R E) (block_ptr b o) x) ∷ ‵ ((P E).own_val a (hv ∷ [])) ∷ ‵ ftrue ∷ [] in
      by ! (subst (λ (us : List Val). ent 𝓤 (types.Kit.⋆ 𝓛 Γ) (WpFn 𝓤 H 𝓣.C 𝓣.Λ code.function (us ++ []) Post)) (sym words)
      (qed 𝓛 Γ ∵ enter ! 𝓣.C 𝓣.Λ code.function (w ∷ []) _ $ alloc_all ! (λ ls. pass_all ! refl (box_typed E hv b o fa, tt) $
      sets ! (of_opd ! (get_in ! (fld ! refl (stop !)) (sub ! 0 refl (whole !)))) refl (tt, tt) $
      sets ! (of_opd ! (get_in ! (fld ! refl (stop !)) (sub ! 1 refl (whole !)))) refl fa $
      first ! $ blocks ! $ sets ! (of_opd ! (get ! refl)) refl (tt, tt) $
      lft_new ! tt (λ α. lft_new ! tt (λ β.
      -- [the token of β; that of α; the memory; the handle; true]
      let κs : Lfts 2 = (α ∷ [], (β ∷ [], tt)) in
      let asked : Boxes.Ghost = ((κs, (full_share, (full_share, tt)), tt, (a, (block_ptr b o, tt)), (hv ∷ [], (vptr b o ∷ [], tt))), x) in
      let ts : Item 𝓤 = ‵ (flft κs.0 full_share) ⊛ ‵ (flft κs.1.0 full_share) ⊛ ‵ ftrue in
      let In_x : Type 0 = κs.0 ⊑ (Handed.row).lives in let In_a : Type 0 = κs.1.0 ⊑ (Handed.al.row).lives in
      use0 𝓛 (raw (fact 𝓤 In_a)) (fact_i 𝓤 In_a (emp 𝓤) (⊑_static κs.1.0)) $ move ! (0 ∷ 3 ∷ []) $ join ! $
      use0 𝓛 (raw (fact 𝓤 In_x)) (fact_i 𝓤 In_x (emp 𝓤) (⊑_static κs.0)) $ join ! $
      -- [what is required; the token of β; that of α; the handle; true]
      nothing ! $ move ! (2 ∷ 0 ∷ []) $ join ! $ move ! (2 ∷ 0 ∷ []) $ join ! $
      -- [the tokens; what is required; the handle; true]
      move ! (3 ∷ []) $ feq_i ! (List Val) (vptr b o ∷ []) (vptr b o ∷ []) refl $ fjoin ! $ move ! (3 ∷ 0 ∷ []) $ fjoin ! $ move ! (1 ∷ 0 ∷ []) $ join ! $ join ! $
      use1 𝓛 (raw (Boxes.pre asked)) (id⊢ 𝓤 _) $
      calls_at_last ! (fm_of 𝓤 H 𝓛.laws 𝓣) Boxes known asked (and_then ! (get ! refl) (and_then ! (get ! refl) (no_more !))) (λ u.
      use1 𝓛 (later (some (λ (r : D E). (ts ⊛ ‵ ((B E).own_val r (u ∷ []))) ⊛ some (λ (_ : Unit {0} × (Unit {0} × Unit {0})). ‵ (fsep ftrue (fsep ftrue ftrue)) ⊛ (raw (fact 𝓤 (r.value ≡ x)) ⊛ raw (fact 𝓤 (r.alloc ≡ a))))))) (id⊢ 𝓤 _) $
      await ! tt $ pick ! (λ r. split ! $ split ! $ drop ! $ move ! (1 ∷ []) $ pick ! (λ _. split3 ! $ drop ! $ heard ! (r.value ≡ x) (λ same. drop ! $
      -- [the box]
      box_out E ! r (u ∷ []) (λ b' o' hw e' made fw. box_in E ! r b' o' r.value e' refl $ rewrite ! 0 (λ (us : List Val). ‵ ((B E).own_val r us)) (sym made) refl $
      let typed : T (has_ty (box_ty E) u) × WT u = subst (λ (s : Val). T (has_ty (box_ty E) s) × WT s) (sym (ap only made)) (box_typed E hw b' o' fw) in
      lands_last ! refl typed $ exec ! 𝓣.C 𝓣.Λ (env (code.function).locals ls) rest (at_ret (env (code.function).locals ls) Post) $
      sets ! (of_opd ! (get ! refl)) refl typed $ returns ! (look_at ! 0 refl) $ free_all ! refl $
      suffices ! _ (ends_at 𝓛 F.ended stayed (F.clauses 𝓛 at_mem run) z u r (tt, tt) (tt, tt)) $ says ! (kept.1 ∙ ap (λ (s : State). Some s) (sym same)) $
      nothing ! $ nothing ! $ fjoin ! $ join ! $ nothing ! $ join ! $ done !))))))))))))

pub into_box_spec : {M : Type 1} → stated.statement M
unfolding tables_of none.code
into_box_spec 𝓤 𝓛 𝓜 𝓡 wired =
    let 𝓣 : Tables 𝓤 𝓛.H = tables_of 𝓤 𝓛.H 𝓜 (tables 𝓤 𝓛.H 𝓜 𝓡 𝓡.env) in
    let allocates = heap.passed 𝓡.env (code.calls-std_heap::GlobalAllocator::allocate 𝓡.env wired) (code.calls-std_heap::GlobalAllocator::deallocate 𝓡.env wired)
    (code.calls-std_heap::GlobalAllocator::grow 𝓡.env wired) (code.calls-std_heap::GlobalAllocator::shrink 𝓡.env wired) _ 𝓤 𝓛 𝓜 𝓡 in
    let drops = glues "velo_ffi::Destruct++none::drop" 𝓡.env (code.calls-velo_ffi::Destruct++none::drop 𝓡.env wired) Handed.al.row Handed.al.laws _ 𝓤 𝓛 𝓜 𝓡 in
    let boxes = from_met.met 𝓤 𝓛 𝓜 𝓡 (code.calls-std_alloc::boxed::Box::from_raw 𝓡.env wired) Handed.row Handed.al.row Handed.laws Handed.al.laws Handed.al.g Handed.al.d Handed.al.drops allocates drops in
    entered 𝓤 𝓛.H (triple_of 𝓛 F.signature (F.spec 𝓛 𝓜.mem 𝓡.returns)) 𝓣.C 𝓣.Λ #self code.function (code.unfolded 𝓤 𝓛.H 𝓜 𝓡 wired)
    (walk_Meets 𝓛 F.ended stayed (Goes-dropped 𝓛 0 FromKept yes (λ κs x f. refl), tt) (F.clauses 𝓛 𝓜.mem 𝓡.returns) (WpFn 𝓤 𝓛.H 𝓣.C 𝓣.Λ code.function) (WpFn-mono 𝓤 𝓛.H 𝓛.laws 𝓣 code.function)
    (walk 𝓛 𝓜.mem 𝓡.returns 𝓣 boxes))
