-- The latest event of a thread that some positions know: of the same positions, of two sets of them, of a longer trace.
use Rattle.std.proofs.Common.{◌≡◌, ℕ, ◌<◌, ◌≤◌, max, List, [], ◌∷◌, ◌++◌, length, map, refl, sym, ap, ◌∙◌, arith, ⊎_elim, inl, inr}
use Rattle.std.specs.Prelude.{◌⊎◌}
use Rattle.std.proofs.lemmas.Bool.{cases_lt}
use Rattle.velo_events.specs.declared.event.Event.{Event}
use Rattle.velo_events.specs.Event.{is_by}
use Rattle.velo_events.proofs.OnTraces.{passes_at-append}
use Rattle.velo_events.proofs.OnOwners.{passes_at-within}
use Rattle.velo_events.proofs.OnHappening.{IsFrom-le, IsFrom-append, IsFrom-before}
use Rattle.velo_tables.specs.Clocks.{ClockPlace, IsLatestSince, greatest_of}

-- ---- the greatest of some numbers

-- the list has the place
abbrev pub Among : List ClockPlace → ClockPlace → Type 0
Among [] p = ⊥
Among (q ∷ qs) p = (q ≡ p) ⊎ Among qs p

-- none is greater
pub most-at : (f : ClockPlace → ℕ) (ps : List ClockPlace) (p : ClockPlace) → Among ps p → f p ≤ greatest_of (map f ps)
most-at f [] p w = absurd w
most-at f (q ∷ qs) p w =
    ⊎_elim (λ here. let same : f q ≡ f p = ap f here in omega (arith, same)) (λ there. let rest = most-at f qs p there in omega (arith, rest)) w

-- and one is as great, unless it is 0
pub most-some : (f : ClockPlace → ℕ) (ps : List ClockPlace) → 0 < greatest_of (map f ps) → (p : ClockPlace) × Among ps p × (greatest_of (map f ps) ≡ f p)
most-some f [] h = absurd (omega (arith, h))
most-some f (q ∷ qs) h =
    ⊎_elim
    (λ less. let w = most-some f qs (omega (arith, less)) in (w.0, inr w.1, let same : max (f q) (greatest_of (map f qs)) ≡ f w.0 = omega (arith, w.2, less) in same))
    (λ upto. (q, inl refl, let same : max (f q) (greatest_of (map f qs)) ≡ f q = omega (arith, upto) in same))
    (cases_lt (f q) (greatest_of (map f qs)))

-- ---- of one trace

module _ (first : ℕ) (trace : List Event) (u : ℕ) where
  pub latest-same : (these those : ℕ → Type 0) (n : ℕ) → ((i : ℕ) → these i → those i) → ((i : ℕ) → those i → these i) → IsLatestSince first trace these u n → IsLatestSince first trace those u n
  latest-same these those n to back l = record {
    none_later = λ k i since at own chain. l.none_later k i since (back i at) own chain;
    latest = λ some. let w = l.latest some in record { at = w.at; by = w.by; next = w.next; own = w.own; among = to w.by w.among; from = w.from };
  }

  -- no position knows anything
  pub latest-none : (these : ℕ → Type 0) → ((i : ℕ) → these i → ⊥) → IsLatestSince first trace these u 0
  latest-none these none = record { none_later = λ k i since at own chain. absurd (none i at); latest = λ some. absurd (omega (arith, some)) }

  -- two sets of positions
  pub latest-union : (these those both : ℕ → Type 0) (m n : ℕ) → ((i : ℕ) → these i → both i) → ((i : ℕ) → those i → both i) → ((i : ℕ) → both i → these i ⊎ those i) → IsLatestSince first trace these u m → IsLatestSince first trace those u n → IsLatestSince first trace both u (max m n)
  latest-union these those both m n one other either l r = record {
    none_later = λ k i since at own chain.
        ⊎_elim (λ a. let h : k < m = l.none_later k i since a own chain in omega (arith, h)) (λ b. let h : k < n = r.none_later k i since b own chain in omega (arith, h)) (either i at);
    latest = λ some.
        ⊎_elim
        (λ less. let w = r.latest (omega (arith, less)) in record { at = w.at; by = w.by; next = omega (arith, w.next, less); own = w.own; among = other w.by w.among; from = w.from })
        (λ upto. let w = l.latest (omega (arith, upto, some)) in record { at = w.at; by = w.by; next = omega (arith, w.next, upto); own = w.own; among = one w.by w.among; from = w.from })
        (cases_lt m n);
  }

-- ---- of a longer trace

-- what the first positions know does not change
pub latest-append : (first : ℕ) (trace more : List Event) (u : ℕ) (these : ℕ → Type 0) (n : ℕ) → ((i : ℕ) → these i → i < length trace) → IsLatestSince first trace these u n → IsLatestSince first (trace ++ more) these u n
latest-append first trace more u these n within l = record {
  none_later = λ k i since at own chain.
      let below = within i at in
      let upto = IsFrom-le (trace ++ more) k i chain in
      l.none_later k i since at (sym (passes_at-append trace more (is_by u) k (omega (arith, below, upto))) ∙ own) (IsFrom-before trace more k i below chain);
  latest = λ some.
      let w = l.latest some in
      record {
        at = w.at;
        by = w.by;
        next = w.next;
        own = passes_at-append trace more (is_by u) w.at (passes_at-within trace (is_by u) w.at w.own) ∙ w.own;
        among = w.among;
        from = IsFrom-append trace more w.at w.by w.from;
      };
}
