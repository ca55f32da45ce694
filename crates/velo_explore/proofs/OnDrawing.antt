-- Drawing one more thread, and one more schedule.
use Rattle.std.proofs.Common.{◌≡◌, ◌∙◌, ◌+◌, ◌*◌, ℕ, zero, suc, List, [], ◌∷◌, ◌++◌, length, length-append, Option, Some, None, ap, arith, refl, sym}
use Rattle.std.specs.Prelude.{filter_map}
use Rattle.std.proofs.Math.Nat.{add-mul, zero-mul}
use Rattle.std.proofs.lemmas.List.{append-nil}
use Rattle.std.proofs.lemmas.List.Elements.{filter_map-append}
use Rattle.rand_core.specs.Stream.{Stream, next_u64}
use Rattle.velo_events.specs.declared.event.ThreadId.{ThreadId}
use Rattle.velo_explore.specs.Drawing.{all_drawn, behind_words, drawn, thread_of, words}

one_more : (n : ℕ) → n + 1 ≡ suc n
one_more n = omega arith

pub behind-none : (s : Stream) → behind_words 0 s ≡ s
unfolding behind_words
behind-none s = refl

pub behind-no_runs : (n : ℕ) (s : Stream) → behind_words (0 * n) s ≡ s
behind-no_runs n s = ap (λ k. behind_words k s) (zero-mul n) ∙ behind-none s

pub behind-next : (n : ℕ) (s : Stream) → behind_words (n + 1) s ≡ (next_u64 (behind_words n s)).1
unfolding behind_words
behind-next n s = ap (λ k. behind_words k s) (one_more n)

words-next : (n : ℕ) (s : Stream) → words (n + 1) s ≡ words n s ++ (next_u64 (behind_words n s)).0 ∷ []
unfolding words
words-next n s = ap (λ k. words k s) (one_more n)

pub drawn-none : (threads : ℕ) (s : Stream) → drawn threads 0 s ≡ []
unfolding words
drawn-none threads s = refl

drawn-next : (threads n : ℕ) (s : Stream) → drawn threads (n + 1) s ≡ drawn threads n s ++ filter_map (thread_of threads) ((next_u64 (behind_words n s)).0 ∷ [])
drawn-next threads n s = ap (filter_map (thread_of threads)) (words-next n s) ∙ filter_map-append (thread_of threads) (words n s) ((next_u64 (behind_words n s)).0 ∷ [])

-- one more word, which stands for this thread
pub drawn-some : (threads n : ℕ) (s here : Stream) (before : List ThreadId) (drew : Option ThreadId) (t : ThreadId) → here ≡ behind_words n s → before ≡ drawn threads n s
    → drew ≡ thread_of threads (next_u64 here).0 → drew ≡ Some t → before ++ t ∷ [] ≡ drawn threads (n + 1) s
drawn-some threads n s here before drew t at is was some =
    ap (λ (l : List ThreadId). l ++ t ∷ []) is
    ∙ (ap (λ (x : Option ThreadId). drawn threads n s ++ filter_map (λ (y : Option ThreadId). y) (x ∷ [])) (sym some ∙ (was ∙ ap (λ (h : Stream). thread_of threads (next_u64 h).0) at))
    ∙ sym (drawn-next threads n s))

-- or for none
pub drawn-over : (threads n : ℕ) (s here : Stream) (before : List ThreadId) (drew : Option ThreadId) → here ≡ behind_words n s → before ≡ drawn threads n s
    → drew ≡ thread_of threads (next_u64 here).0 → drew ≡ None → before ≡ drawn threads (n + 1) s
drawn-over threads n s here before drew at is was none =
    is ∙ (sym (append-nil (drawn threads n s))
    ∙ (ap (λ (x : Option ThreadId). drawn threads n s ++ filter_map (λ (y : Option ThreadId). y) (x ∷ [])) (sym none ∙ (was ∙ ap (λ (h : Stream). thread_of threads (next_u64 h).0) at))
    ∙ sym (drawn-next threads n s)))

pub rest-next : (n : ℕ) (s here after : Stream) → here ≡ behind_words n s → after ≡ (next_u64 here).1 → after ≡ behind_words (n + 1) s
rest-next n s here after at is = is ∙ (ap (λ (h : Stream). (next_u64 h).1) at ∙ sym (behind-next n s))

-- ---- one schedule after another

behind-behind : (n m : ℕ) (s : Stream) → behind_words n (behind_words m s) ≡ behind_words (m + n) s
unfolding behind_words
behind-behind zero m s = ap (λ k. behind_words k s) (let same : m ≡ m + 0 = omega arith in same)
behind-behind (suc n) m s =
    ap (λ (t : Stream). (next_u64 t).1) (behind-behind n m s) ∙ ap (λ k. behind_words k s) (let same : suc (m + n) ≡ m + suc n = omega arith in same)

pub behind-runs : (runs n : ℕ) (s here after : Stream) → here ≡ behind_words (runs * n) s → after ≡ behind_words n here → after ≡ behind_words ((runs + 1) * n) s
behind-runs runs n s here after at is =
    is ∙ (ap (behind_words n) at ∙ (behind-behind n (runs * n) s ∙ ap (λ k. behind_words k s) (next runs n)))
  where
    next : (runs n : ℕ) → runs * n + n ≡ (runs + 1) * n
    next runs n = sym (add-mul runs 1 n ∙ ap (λ k. runs * n + k) (let one : 1 * n ≡ n = omega arith in one))

pub none_drawn : (threads n : ℕ) (s : Stream) → all_drawn 0 threads n s ≡ []
unfolding all_drawn
none_drawn threads n s = refl

pub one_more_drawn : (runs threads n : ℕ) (s here : Stream) (turns : List ThreadId) → here ≡ behind_words (runs * n) s → turns ≡ drawn threads n here
    → all_drawn runs threads n s ++ turns ∷ [] ≡ all_drawn (runs + 1) threads n s
unfolding all_drawn
one_more_drawn runs threads n s here turns at is =
    ap (λ (t : List ThreadId). all_drawn runs threads n s ++ t ∷ []) (is ∙ ap (drawn threads n) at)
    ∙ ap (λ k. all_drawn k threads n s) (sym (one_more runs))

pub drawn-count : (runs threads n : ℕ) (s : Stream) → length (all_drawn runs threads n s) ≡ runs
unfolding all_drawn
drawn-count zero threads n s = refl
drawn-count (suc runs) threads n s =
    let before = drawn-count runs threads n s in
    let both = length-append (all_drawn runs threads n s) (drawn threads n (behind_words (runs * n) s) ∷ []) in
    omega (arith, before, both)
