-- A step, or none, as one entry keeps it. Private contracts cite these words.
use Rattle.std.specs.Prelude.{◌≡◌, ℕ, Bool, true, false, Option, Some, None, if◌then◌else◌, refl}
use Rattle.std.proofs.Common.{sym, ◌∙◌, ap}
use Rattle.velo_arena.specs.declared.step.Step.{Step}
use Rattle.velo_tables.specs.declared.entry.Entry.TheInside.{Inside}

-- the step, if the entry has one
abbrev pub step_in : Inside → Option Step
step_in e = if e.is_there then Some (record { slot = e.slot; stamp = e.stamp }) else None

-- an entry without a step is all zeros
abbrev pub IsBlankOrThere : Inside → Type 0
IsBlankOrThere e = e.is_there ≡ false → (e.slot ≡ 0) × (e.stamp ≡ 0)

-- the entry of a step or none
abbrev pub entry_of : Option Step → Inside
entry_of None = record { slot = 0; is_there = false; stamp = 0 }
entry_of (Some s) = record { slot = s.slot; is_there = true; stamp = s.stamp }

back : (slot stamp : ℕ) (b : Bool) → (b ≡ false → (slot ≡ 0) × (stamp ≡ 0)) → entry_of (if b then Some (record { slot = slot; stamp = stamp }) else None) ≡ record { slot = slot; is_there = b; stamp = stamp }
back slot stamp true h = refl
back slot stamp false h =
    ap (λ n. entry_parts n 0) (sym (h refl).0) ∙ ap (λ n. entry_parts slot n) (sym (h refl).1)
  where
    entry_parts : ℕ → ℕ → Inside
    entry_parts a b = record { slot = a; is_there = false; stamp = b }

-- the entry of its step is the entry
pub entry_of-step_in : (e : Inside) → IsBlankOrThere e → entry_of (step_in e) ≡ e
entry_of-step_in e h = back e.slot e.stamp e.is_there h
