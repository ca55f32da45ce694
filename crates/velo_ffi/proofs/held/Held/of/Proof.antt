-- `of` takes the box apart. What it owned is held.
use Rattle.std.specs.Prelude.{◌≡◌}
use mathlib.Core.Path.{refl, sym, subst, ap, ◌∙◌}
use mathlib.Core.List.{List, [], ◌∷◌, ◌++◌}
use seplogic.Ra.Ura.{Ura}
use mir.Syntax.{Args, Dict, Fn, a_type, dcons, dnil}
use mir.MapTy.{inst_fn}
use mir.Raw.{raw as bare}
use mir.Val.{Val, vstruct, of_list}
use base.Fraction.{full_share}
use base.Logic.{SProp, ent, emp, id⊢, never, fst∗}
use base.Fml.{ftrue, fsep, flft}
use contract.BorrowLft.{◌⊑◌, ⊑_static}
use contract.Lifetimes.{Lfts}
use prog.Memory.{Memory}
use prog.Routine.{Routine}
use prog.Wp.{WpFn, Tables}
use types.Logic.{Logic, sem}
use types.Tokens.{lft_new}
use contract.Monad.{Fun, fact, fact_i}
use contract.Running.{tables, tables_of}
use sound.WpLaws.{fm_of, WpFn-mono}
use types.Kit.{Item, ‵, raw, ◌⊛◌, some, later, ◌$◌, ◌∵◌, !, qed, by, move, keep, drop, use0, use1, join, split, split3, pick, rewrite, fsplit, fjoin, fpick, feq_l, suffices, await, done}
use types.Part.{whole, sub, agg}
use types.Run.{stop, fld, no_more, and_then, of_opd, returns, enter}
use types.ByLocal.{alloc_all, pass_all, free_all, look_at, get, get_in, sets, lands_as}
use denote.Exit.{no}
use denote.Param.{bounded}
use denote.Param.Laws.{Laws}
use denote.Param.NoDrop.{glues}
use denote.RattleType.{RattleType}
use denote.RawPtr.{Ptr, RawPtr, block_ptr, null_ptr, ptr_val, in_a_block}
use denote.Signature.{Slot, plain}
use denote.Steps.{heard, nothing, only}
use denote.Struct.Tuple.{Tuple}
use denote.Triple.Call.{calls_at}
use denote.Triple.Clauses.{Ended, Clauses}
use denote.Triple.Spec.{triple_of}
use denote.Triple.Statement.{Triple, Contract}
use denote.Triple.Table.{entered}
use denote.Triple.Walked.{says, Stays, stay_dropped, walk_of, ends_at, walk_Meets}
use Rattle.core.proofs.alloc.Calls.{token, handle_tells, Goes-blank}
use Rattle.std_alloc.specs.Box.Ownership.{box_owns}
use Rattle.std_alloc.proofs.BoxSteps.Form.{Bx, D, τ, R, P, B, word, box_typed}
use Rattle.std_alloc.proofs.BoxSteps.Steps.{box_out, box_in}
use Rattle.std_alloc.specs.contracts.boxed.Box.into_raw_with_allocator as Into
use Rattle.std_alloc.proofs.boxed.Box.into_raw_with_allocator.Symbol as into_symbol
use Rattle.std_alloc.proofs.boxed.Box.into_raw_with_allocator.Met as into_met
use Rattle.std_alloc.specs.contracts.boxed.Box as Box
use Rattle.std_heap.specs.contracts.Global as Heap
use Rattle.std_heap.specs.contracts.GlobalAllocator.TheImpl.{ghosts}
use Rattle.std_heap.proofs.GlobalAllocator.TheImpl.Met as heap
use Rattle.velo_ffi.proofs.Destruct++none.drop.Code as none
use Rattle.velo_ffi.proofs.AsBox.{boxed, boxed_handed}
use Rattle.velo_ffi.specs.contracts.held.Held as Held
use Rattle.velo_ffi.specs.contracts.held.Held.of as F
use Rattle.velo_ffi.specs.contracts.held.Held.of.Key.{name as #self}
use Rattle.velo_ffi.proofs.held.Held.of.Statement as stated
use Rattle.velo_ffi.proofs.held.Held.of.Code as code

module _ (X : RattleType) (L : Laws X) (drops : Dict) where
  abbrev E : Bx
  E = boxed X L

  abbrev H' : Bx
  H' = boxed_handed X L

  abbrev own_args : Args
  own_args = bounded (a_type ∷ []) (X, tt) (dcons drops dnil)

  abbrev into_args : Args
  into_args = bounded (a_type ∷ a_type ∷ []) (X, (H'.al.row, tt)) (dcons H'.al.d (dcons H'.al.drops (dcons drops dnil)))

  abbrev function : Fn
  function = inst_fn own_args code.function

  abbrev ended : Ended
  ended = F.ended X drops

  abbrev From : Slot 1
  From = plain (λ _. Box.the_row (F.T-row X) Heap.the_row ghosts)

  abbrev stayed : Stays ended.signature.params ended.kept
  stayed = (stay_dropped From no, tt)

  abbrev To : RattleType
  To = Held.the_row (R E)

  module _ {M : Type 1} {𝓤 : Ura M} (𝓛 : Logic 𝓤) (at_mem : Memory → SProp 𝓤) (run : Routine → Fun 𝓤) (𝓣 : Tables 𝓤 𝓛.H) where
    open 𝓛 use {H}

    abbrev held : Clauses 𝓤 ended
    held = F.clauses X drops 𝓛 at_mem run

    abbrev Opens : Contract 𝓤
    Opens = triple_of 𝓛 (Into.signature H'.row H'.al.row H'.al.g H'.al.d H'.al.drops drops) (Into.spec H'.row H'.al.row H'.al.g H'.al.d H'.al.drops drops 𝓛 at_mem run)

    walk : Triple 𝓤 (𝓣.C (into_symbol.name into_args)) Opens → (z : (walk_of 𝓛 ended stayed held).Ghost)
        → ent 𝓤 ((walk_of 𝓛 ended stayed held).pre z) (WpFn 𝓤 H 𝓣.C 𝓣.Λ function (z.0.4.0 ++ []) ((walk_of 𝓛 ended stayed held).post z))
    walk known z =
        let κ = z.0.0.0 in let q = z.0.1.0 in let v = z.0.3.0 in let a = v.alloc in let Post = (walk_of 𝓛 ended stayed held).post z in
        let In_x : Type 0 = κ ⊑ X.lives in
        qed 𝓛 (((‵ (flft κ q) ⊛ ‵ ftrue) ⊛ ‵ (fsep ((B E).own_val v z.0.4.0) ftrue)) ∷ (raw (fact 𝓤 In_x) ⊛ ‵ ftrue) ∷ []) ∵
        split ! $ move ! (1 ∷ []) $ fsplit ! $
        -- [the box; true; the tokens; within]
        box_out E ! v z.0.4.0 (λ b o hv e words fa. box_in E ! v b o v.value e refl $
        let w = word E hv b o in
        let Γ : List (Item 𝓤) = ‵ ((B E).own_val v (w ∷ [])) ∷ ‵ ftrue ∷ (‵ (flft κ q) ⊛ ‵ ftrue) ∷ (raw (fact 𝓤 In_x) ⊛ ‵ ftrue) ∷ [] in
        by ! (subst (λ (us : List Val). ent 𝓤 (types.Kit.⋆ 𝓛 Γ) (WpFn 𝓤 H 𝓣.C 𝓣.Λ function (us ++ []) Post)) (sym words)
        (qed 𝓛 Γ ∵ enter ! 𝓣.C 𝓣.Λ function (w ∷ []) _ $ alloc_all ! (λ ls. pass_all ! refl (box_typed E hv b o fa, tt) $
        sets ! (of_opd ! (get ! refl)) refl (box_typed E hv b o fa) $
        lft_new ! tt (λ α.
        let κs : Lfts 2 = (κ, (α ∷ [], tt)) in
        let asked : Opens.Ghost = ((κs, (q, (full_share, tt)), tt, (v, tt), (w ∷ [], tt)), tt) in
        let ts : Item 𝓤 = ‵ (flft κ q) ⊛ ‵ (flft (α ∷ []) full_share) ⊛ ‵ ftrue in
        let In_a : Type 0 = (α ∷ []) ⊑ (H'.al.row).lives in
        -- [the token of α; the box; true; the tokens; within]
        move ! (1 ∷ 2 ∷ []) $ fjoin ! $ move ! (2 ∷ []) $ split ! $ move ! (3 ∷ 1 ∷ []) $ join ! $ move ! (1 ∷ 0 ∷ []) $ join ! $ join ! $
        -- [the tokens and the box; within]
        move ! (1 ∷ []) $ split ! $ use0 𝓛 (raw (fact 𝓤 In_a)) (fact_i 𝓤 In_a (emp 𝓤) (⊑_static (α ∷ []))) $ move ! (0 ∷ 2 ∷ []) $ join ! $ move ! (1 ∷ 0 ∷ []) $ join ! $ move ! (1 ∷ 0 ∷ []) $ join ! $
        use1 𝓛 (raw (Opens.pre asked)) (id⊢ 𝓤 _) $
        calls_at ! (fm_of 𝓤 H 𝓛.laws 𝓣) Opens known asked (and_then ! (get ! refl) (no_more !)) (λ u.
        use1 𝓛 (later (some (λ (r : Ptr × Heap.the_row.Denot). (ts ⊛ ‵ ((Tuple (RawPtr ∷ P H' ∷ [])).own_val r (u ∷ []))) ⊛ some (λ (_ : (Unit {0} × (Unit {0} × Unit {0})) × Unit {0}). ‵ (fsep (fsep ftrue (fsep ftrue ftrue)) ftrue) ⊛ (raw (fact 𝓤 (r.1 ≡ a)) ⊛ ‵ (box_owns (token E.al a) (R E) r.0 v.value)))))) (id⊢ 𝓤 _) $
        await ! tt $ pick ! (λ r. split ! $ move ! (1 ∷ []) $ pick ! (λ _. split3 ! $ drop ! $ heard ! (r.1 ≡ a) (λ same.
        -- [the memory; the tokens and the pair]
        in_a_block ! r.0 (λ p. box_owns (token E.al a) (R E) p v.value) (fst∗ 𝓤 (never 𝓤) (sem 𝓛 (token E.al a (bare (τ E)) null_ptr))) (λ b' o' lies.
        move ! (1 ∷ []) $ split ! $ split3 ! $ move ! (3 ∷ 4 ∷ []) $ fpick ! (λ vss. fsplit ! $ feq_l ! (λ is_pair. fsplit ! $ feq_l ! (λ is_address. fsplit ! $
        rewrite ! 0 (λ (s : Heap.the_row.Denot). ‵ ((Heap.the_row).own_val s vss.1.0)) same refl $ handle_tells E.al ! a vss.1.0 (λ hw is_handle fw.
        -- [the handle; true; the memory; the token of κ; that of α; true]
        let taken : D E = record { ptr = block_ptr b' o'; alloc = a; value = v.value } in
        let made : To.Denot = record { address = block_ptr b' o'; alloc = a; value = v.value } in
        lands_as ! (ap only (is_pair ∙ (λ j. vstruct (of_list ((is_address ∙ ap (λ (p : Ptr). ptr_val p ∷ []) lies) j ++ (is_handle j ++ []))) ∷ []))) refl (box_typed E hw b' o' fw) $
        sets ! (of_opd ! (get_in ! (fld ! refl (stop !)) (sub ! 0 refl (whole !)))) refl (tt, tt) $
        sets ! (of_opd ! (get_in ! (fld ! refl (stop !)) (sub ! 1 refl (whole !)))) refl fw $
        sets ! (agg ! (and_then ! (get ! refl) (and_then ! (get ! refl) (no_more !)))) refl (box_typed E hw b' o' fw) $
        returns ! (look_at ! 0 refl) $ free_all ! refl $
        keep ! (2 ∷ 0 ∷ 3 ∷ []) $ fsplit ! $ box_in E ! taken b' o' v.value refl refl $ use1 𝓛 (‵ (To.own_val made (word E hw b' o' ∷ []))) (id⊢ 𝓤 _) $
        suffices ! _ (ends_at 𝓛 ended stayed held z (word E hw b' o') made (tt, tt) (tt, tt)) $ says ! refl $
        nothing ! $ nothing ! $ fjoin ! $ join ! $ nothing ! $ move ! (2 ∷ 0 ∷ []) $ join ! $ join ! $ done !))))))))))))))

pub of_spec : {M : Type 1} → stated.statement M
unfolding tables_of none.code
of_spec 𝓤 𝓛 𝓜 𝓡 wired X L drops glue =
    let 𝓣 : Tables 𝓤 𝓛.H = tables_of 𝓤 𝓛.H 𝓜 (tables 𝓤 𝓛.H 𝓜 𝓡 𝓡.env) in
    let H'' = boxed_handed X L in
    let allocates = heap.passed 𝓡.env (code.calls-std_heap::GlobalAllocator::allocate 𝓡.env wired) (code.calls-std_heap::GlobalAllocator::deallocate 𝓡.env wired)
    (code.calls-std_heap::GlobalAllocator::grow 𝓡.env wired) (code.calls-std_heap::GlobalAllocator::shrink 𝓡.env wired) _ 𝓤 𝓛 𝓜 𝓡 in
    let no_drops = glues "velo_ffi::Destruct++none::drop" 𝓡.env (code.calls-velo_ffi::Destruct++none::drop 𝓡.env wired) H''.al.row H''.al.laws _ 𝓤 𝓛 𝓜 𝓡 in
    let opens = into_met.met 𝓤 𝓛 𝓜 𝓡 (code.calls-std_alloc::boxed::Box::into_raw_with_allocator 𝓡.env wired) H''.row H''.al.row H''.laws H''.al.laws H''.al.g H''.al.d H''.al.drops drops allocates no_drops glue in
    entered 𝓤 𝓛.H (triple_of 𝓛 (ended X L drops).signature (F.spec X drops 𝓛 𝓜.mem 𝓡.returns)) 𝓣.C 𝓣.Λ (#self (own_args X L drops)) (function X L drops) (code.unfolded 𝓤 𝓛.H 𝓜 𝓡 wired (X, tt) drops)
    (walk_Meets 𝓛 (ended X L drops) (stayed X L drops) (Goes-blank 𝓛 1 (From X L drops) no (λ κs x f. tt), tt) (held X L drops 𝓛 𝓜.mem 𝓡.returns 𝓣) (WpFn 𝓤 𝓛.H 𝓣.C 𝓣.Λ (function X L drops)) (WpFn-mono 𝓤 𝓛.H 𝓛.laws 𝓣 (function X L drops))
    (walk X L drops 𝓛 𝓜.mem 𝓡.returns 𝓣 opens))
