-- What conflicts with an access of a variable.
use Rattle.std.proofs.Common.{◌≡◌, ℕ, ◌+◌, Bool, true, false, Some, refl, sym, ap, ◌∙◌, arith, ⊎_elim}
use Rattle.std.specs.Prelude.{◌&&◌, ◌||◌, ◌==◌, IsTrue, IsFalse}
use Rattle.std.proofs.lemmas.Bool.{cases_eq, eq-eqb, ne_eqb}
use Rattle.velo_events.specs.declared.event.Event.{Event}
use Rattle.velo_events.specs.declared.event.VarId.{VarId}
use Rattle.velo_events.specs.declared.event.Kind.{Kind}
use Rattle.velo_events.specs.declared.event.Kind.TheVariants.{Read, Write, Acquire, Release, AcquireShared, ReleaseShared, Begin, End, Fork, Join, Exit}
use Rattle.velo_events.specs.Event.{are_same, thread_of, variable_of, access_of, cell_of, is_exclusive, is_write, is_write_of, thread_forked_or_joined}
use Rattle.velo_events.specs.Conflict.{conflict}
use Rattle.velo_thinning.specs.Finding.{is_near, is_access_to}

double-eq : (y x : ℕ) → (y + y == x + x) ≡ (y == x)
double-eq y x = ⊎_elim
    (λ same. eq-eqb (y + y) (x + x) (omega (arith, same)) ∙ sym (eq-eqb y x same))
    (λ differ. ne_eqb (y + y) (x + x) (λ same. differ (omega (arith, same))) ∙ sym (ne_eqb y x differ))
    (cases_eq y x)

odd-even : (m x : ℕ) → (m + m + 1 == x + x) ≡ false
odd-even m x = ne_eqb (m + m + 1) (x + x) (λ same. omega (arith, same))

and-false : (b : Bool) → (b && false) ≡ false
and-false true = refl
and-false false = refl

and-true : (b : Bool) → (b && true) ≡ b
and-true true = refl
and-true false = refl

-- only a write conflicts with a read by its variable
cell-read : (k : Kind) (x : ℕ) → (are_same (cell_of (access_of k)) (Some (x + x)) && (is_exclusive (access_of k) || false)) ≡ (is_write k && are_same (variable_of k) (Some x))
cell-read (Read y v) x = and-false (y.0 + y.0 == x + x)
cell-read (Write y v) x = and-true (y.0 + y.0 == x + x) ∙ double-eq y.0 x
cell-read (Acquire m) x = and-true (m.0 + m.0 + 1 == x + x) ∙ odd-even m.0 x
cell-read (Release m) x = and-true (m.0 + m.0 + 1 == x + x) ∙ odd-even m.0 x
cell-read (AcquireShared m) x = and-false (m.0 + m.0 + 1 == x + x)
cell-read (ReleaseShared m) x = and-false (m.0 + m.0 + 1 == x + x)
cell-read (Begin l) x = refl
cell-read End x = refl
cell-read (Fork u) x = refl
cell-read (Join u) x = refl
cell-read Exit x = refl

-- and each access with a write
cell-write : (k : Kind) (x : ℕ) → (are_same (cell_of (access_of k)) (Some (x + x)) && (is_exclusive (access_of k) || true)) ≡ are_same (variable_of k) (Some x)
cell-write (Read y v) x = and-true (y.0 + y.0 == x + x) ∙ double-eq y.0 x
cell-write (Write y v) x = and-true (y.0 + y.0 == x + x) ∙ double-eq y.0 x
cell-write (Acquire m) x = and-true (m.0 + m.0 + 1 == x + x) ∙ odd-even m.0 x
cell-write (Release m) x = and-true (m.0 + m.0 + 1 == x + x) ∙ odd-even m.0 x
cell-write (AcquireShared m) x = and-true (m.0 + m.0 + 1 == x + x) ∙ odd-even m.0 x
cell-write (ReleaseShared m) x = and-true (m.0 + m.0 + 1 == x + x) ∙ odd-even m.0 x
cell-write (Begin l) x = refl
cell-write End x = refl
cell-write (Fork u) x = refl
cell-write (Join u) x = refl
cell-write Exit x = refl

-- of these four two are one
regroup : (s c h : Bool) → (s || c || h || false) ≡ (s || h || c)
regroup true c h = refl
regroup false true true = refl
regroup false true false = refl
regroup false false true = refl
regroup false false false = refl

-- an event conflicts with a later read where it is near its thread or writes the variable
pub conflict-read : (a e : Event) (x : VarId) (v : ℕ) → e.kind ≡ Read x v → conflict a e ≡ (is_near (thread_of e) a || is_write_of x.0 a)
conflict-read a e x v is =
    ap (λ k. (thread_of a == thread_of e) || (are_same (cell_of (access_of a.kind)) (cell_of (access_of k)) && (is_exclusive (access_of a.kind) || is_exclusive (access_of k))) || are_same (thread_forked_or_joined a.kind) (Some (thread_of e)) || are_same (thread_forked_or_joined k) (Some (thread_of a))) is
    ∙ (regroup (thread_of a == thread_of e) (are_same (cell_of (access_of a.kind)) (Some (x.0 + x.0)) && (is_exclusive (access_of a.kind) || false)) (are_same (thread_forked_or_joined a.kind) (Some (thread_of e)))
    ∙ ap (λ c. is_near (thread_of e) a || c) (cell-read a.kind x.0))

-- and with a later write where it accesses the variable
pub conflict-write : (a e : Event) (x : VarId) (v : ℕ) → e.kind ≡ Write x v → conflict a e ≡ (is_near (thread_of e) a || is_access_to x.0 a)
conflict-write a e x v is =
    ap (λ k. (thread_of a == thread_of e) || (are_same (cell_of (access_of a.kind)) (cell_of (access_of k)) && (is_exclusive (access_of a.kind) || is_exclusive (access_of k))) || are_same (thread_forked_or_joined a.kind) (Some (thread_of e)) || are_same (thread_forked_or_joined k) (Some (thread_of a))) is
    ∙ (regroup (thread_of a == thread_of e) (are_same (cell_of (access_of a.kind)) (Some (x.0 + x.0)) && (is_exclusive (access_of a.kind) || true)) (are_same (thread_forked_or_joined a.kind) (Some (thread_of e)))
    ∙ ap (λ c. is_near (thread_of e) a || c) (cell-write a.kind x.0))
