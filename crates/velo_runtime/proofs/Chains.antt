-- Chains of waits, and the search for all threads that they lead to.
use Rattle.std.proofs.Common.{◌≡◌, ℕ, ◌*◌, ◌%◌, ◌^◌, ◌<◌, ◌≤◌, sym, ap, ◌∙◌, subst, refl, Bool, true, false, not, List, [], ◌∷◌, ◌++◌, arith, ⊎_elim}
use Rattle.std.specs.Prelude.{◌==◌, ◌&&◌, ◌||◌, Option, Some, IsTrue, IsFalse, ◌↔◌}
use Rattle.std.specs.Int.{bit_at}
use Rattle.std.specs.Int.RustNames.{bit_or}
use mir.Syntax.{w64}
use Rattle.std.proofs.lemmas.Bool.{cases_lt, eqb-true, eq-eqb, false≢true, or_cases, or_left, or_right}
use Rattle.std.proofs.lemmas.Nat.{le_or_l}
use Rattle.std.proofs.lemmas.Nat.Bits.{bit_at_set_same}
use Rattle.velo_events.specs.declared.event.Event.{Event}
use Rattle.velo_events.specs.declared.event.ThreadId.{ThreadId}
use Rattle.velo_events.specs.declared.thread_set.ThreadSet.{ThreadSet}
use Rattle.velo_events.specs.ThreadSets.{has_thread, no_threads, with_thread}
use Rattle.velo_runtime.specs.declared.wait.Wanted.{Wanted}
use Rattle.velo_runtime.specs.Waits.{ChainToCaller, ComesBack, Leads, wait_of}
use Rattle.velo_runtime.specs.Leads.{AreLeads, AreNextLeads}
use Rattle.velo_runtime.proofs.OnLeads.{no_member}

-- ---- sets

-- a further thread makes the number of the set greater
pub more_done : (done : ThreadSet) (t : ThreadId) → t.0 < 64 → IsFalse (has_thread done t.0) → done.0 < (with_thread t done).0
more_done done t within missing =
    ⊎_elim
    (λ (more : done.0 < bit_or done.0 (1 * 2 ^ t.0 % 2 ^ 64)). more)
    (λ (less : bit_or done.0 (1 * 2 ^ t.0 % 2 ^ 64) ≤ done.0).
    let same : bit_or done.0 (1 * 2 ^ t.0 % 2 ^ 64) ≡ done.0 = omega (arith, less, le_or_l done.0 (1 * 2 ^ t.0 % 2 ^ 64)) in
    let one : bit_at done.0 t.0 ≡ 1 = sym (ap (λ n. bit_at n t.0) same) ∙ bit_at_set_same w64 done.0 t.0 within in
    absurd (false≢true (sym missing ∙ eq-eqb _ _ one)))
    (cases_lt done.0 (bit_or done.0 (1 * 2 ^ t.0 % 2 ^ 64)))

-- a member of what is left is reached, and its wait was not followed
pub left_is : (done reached : Bool) → IsTrue (not done && reached) → IsFalse done × IsTrue reached
left_is true reached is = absurd (false≢true is)
left_is false reached is = (refl, is)

-- where nothing is left, the wait of each that is reached was followed
followed : (done reached : Bool) → IsFalse (not done && reached) → IsTrue reached → IsTrue done
followed true reached none is = refl
followed false reached none is = absurd (false≢true (sym none ∙ is))

-- ---- chains

module _ (log : List Event) (waits : List (Option Wanted)) where
  abbrev Chain : ℕ → Wanted → List ℕ → Type 0
  Chain caller wanted ts = ChainToCaller (Leads log) (wait_of waits) caller wanted ts

  -- one lead more at its end
  longer : (wanted : Wanted) (ts : List ℕ) (t u : ℕ) (next : Wanted) → Chain t wanted ts → wait_of waits t ≡ Some next → Leads log next u → Chain u wanted (ts ++ t ∷ [])
  longer wanted [] t u next chain waiting lead = (chain, (next, waiting, lead))
  longer wanted (v ∷ vs) t u next chain waiting lead = (chain.0, (chain.1.0, chain.1.1, longer chain.1.0 vs t u next chain.1.2 waiting lead))

  -- ---- the search

  -- chains lead from what is wanted to each thread that is reached; what is wanted leads to threads that are reached, and so does what
  -- a thread whose wait was followed waits for
  pub record IsSearch (wanted : Wanted) (reached done : ThreadSet) : Type 0 where
    pub sound : (t : ℕ) → IsTrue (has_thread reached t) → ComesBack (Leads log) (wait_of waits) t wanted
    pub first : (t : ℕ) → Leads log wanted t → IsTrue (has_thread reached t)
    pub next : (t u : ℕ) (w : Wanted) → IsTrue (has_thread done t) → wait_of waits t ≡ Some w → Leads log w u → IsTrue (has_thread reached u)

  pub IsSearch-start : (wanted : Wanted) (threads : ThreadSet) → AreLeads log wanted threads → IsSearch wanted threads no_threads
  IsSearch-start wanted threads leads = record {
    sound = λ t is. record { threads = []; chain = leads.each t is };
    first = leads.every;
    next = λ t u w is waiting lead. absurd (false≢true (sym (no_member t) ∙ is));
  }

  -- the wait of one more thread is followed
  pub IsSearch-next : (wanted : Wanted) (reached done more wider longer_done : ThreadSet) (t : ℕ) → IsSearch wanted reached done → IsTrue (has_thread reached t) → AreNextLeads log (wait_of waits t) more → ((u : ℕ) → has_thread wider u ≡ (has_thread reached u || has_thread more u)) → ((u : ℕ) → has_thread longer_done u ≡ ((t == u) || has_thread done u)) → IsSearch wanted wider longer_done
  IsSearch-next wanted reached done more wider longer_done t search there leads reaches follows = record {
    sound = λ u is. ⊎_elim
        (λ before. search.sound u before)
        (λ new.
        let lead = leads.each u new in
        let chain = search.sound t there in
        record { threads = chain.threads ++ t ∷ []; chain = longer wanted chain.threads t u lead.0 chain.chain lead.1 lead.2 })
        (or_cases (has_thread reached u) (has_thread more u) (sym (reaches u) ∙ is));
    first = λ u lead. reaches u ∙ or_left (has_thread reached u) (has_thread more u) (search.first u lead);
    next = λ v u w is waiting lead. reaches u ∙ ⊎_elim
        (λ same. or_right (has_thread reached u) (has_thread more u) (leads.every w u (subst (λ k. wait_of waits k ≡ Some w) (sym (eqb-true t v same)) waiting) lead))
        (λ before. or_left (has_thread reached u) (has_thread more u) (search.next v u w before waiting lead))
        (or_cases (t == v) (has_thread done v) (sym (follows v) ∙ is));
  }

  -- a chain stays among the threads that are reached
  along : (reached : ThreadSet) → ((t u : ℕ) (w : Wanted) → IsTrue (has_thread reached t) → wait_of waits t ≡ Some w → Leads log w u → IsTrue (has_thread reached u)) → (caller : ℕ) (wanted : Wanted) (ts : List ℕ) → ((t : ℕ) → Leads log wanted t → IsTrue (has_thread reached t)) → Chain caller wanted ts → IsTrue (has_thread reached caller)
  along reached closed caller wanted [] first chain = first caller chain
  along reached closed caller wanted (t ∷ ts) first chain =
      along reached closed caller chain.1.0 ts (λ u lead. closed t u chain.1.0 (first t chain.0) chain.1.1 lead) chain.1.2

  -- where nothing is left, chains lead exactly to the threads that are reached
  pub IsSearch-whole : (wanted : Wanted) (reached done : ThreadSet) → IsSearch wanted reached done → ((u : ℕ) → IsFalse (not (has_thread done u) && has_thread reached u)) → (t : ℕ) → IsTrue (has_thread reached t) ↔ ComesBack (Leads log) (wait_of waits) t wanted
  IsSearch-whole wanted reached done search none t = (
    search.sound t,
    λ back. along reached (λ v u w is waiting lead. search.next v u w (followed (has_thread done v) (has_thread reached v) (none v) is) waiting lead) t wanted back.threads search.first back.chain,
  )
