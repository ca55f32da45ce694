-- Lists from whose front listed transactions are taken.
use Rattle.std.proofs.Common.{◌≡◌, ℕ, suc, ◌<◌, ◌≤◌, Bool, true, List, [], ◌∷◌, length, set, Some, refl, sym, ap, ◌∙◌, subst, arith, ⊎_elim, inl, inr}
use Rattle.std.specs.Prelude.{◌⊎◌, slice_get, slice_index, IsTrue, IsFalse}
use Rattle.std.proofs.lemmas.Bool.{cases_eq, cases_lt}
use Rattle.std.proofs.lemmas.List.{length-set, get_or-set_same, get_or-set_other}
use Rattle.std.proofs.lemmas.Option.{same_Some}
use Rattle.velo_events.specs.declared.event.Event.{Event}
use Rattle.velo_events.specs.Block.{owner}
use Rattle.velo_events.specs.Graph.{Edge}
use Rattle.velo_events.proofs.OnOwners.{owner-between}
use Rattle.velo_certify.specs.declared.chains.Link.{Link}
use Rattle.velo_certify.specs.declared.chains.Links.{Links}
use Rattle.velo_certify.specs.Chains.{IsIn, IsChain}
use Rattle.velo_certify.specs.Links.{LinksSoFar, list_of, IsInList, IsImplied, IsKept, IsLeft, DropsListed, HasRow, HasLinks, HasLinksLeft}
use Rattle.velo_certify.specs.Serial.{has, IsCandidate, IsFree}
use Rattle.velo_certify.specs.Threads.{thread_at, IsFront}
use Rattle.velo_certify.proofs.OnLinkedPaths.{IsFree-linked, IsFree-not_linked}
use Rattle.velo_certify.proofs.OnSerial.{has-set}
use Rattle.velo_certify.proofs.OnThreads.{own-thread, one-thread, own-conflict}

-- one more listed one is taken away
pub IsLeft-next : (listed : List Bool) (l : Links) (k j : ℕ) (e : Link) (xs : List ℕ) → k ≡ suc j → slice_get l.links.items j ≡ Some e → IsTrue (has listed e.before) → IsLeft listed l k xs → IsLeft listed l e.next xs
IsLeft-next listed l k j e xs is there known w = at w.ys w.list w.keeps w.only
  where
    at : (ys : List ℕ) → IsChain l.links.items k ys → ((b : ℕ) → IsIn b xs → IsTrue (has listed b) ⊎ IsIn b ys) → ((b : ℕ) → IsIn b ys → IsIn b xs) → IsLeft listed l e.next xs
    at [] none keeps only = absurd (omega (arith, none, is))
    at (y ∷ ys) (i, at_i, (d, here, of_d, rest)) keeps only =
        let same_place : i ≡ j = omega (arith, at_i, is) in
        let same : d ≡ e = same_Some d e (sym here ∙ (ap (slice_get l.links.items) same_place ∙ there)) in
        record {
          ys = ys;
          list = subst (λ (f : Link). IsChain l.links.items f.next ys) same rest;
          keeps = λ b h. ⊎_elim (λ before. inl before) (λ r. ⊎_elim (λ at_y. inl (subst (λ n. IsTrue (has listed n)) (ap (λ (f : Link). f.before) (sym same) ∙ (of_d ∙ at_y)) known)) (λ g. inr g) r) (keeps b h);
          only = λ b h. only b (inr h);
        }

empty_chain : (links : List Link) (k : ℕ) (ys : List ℕ) → k ≡ 0 → IsChain links k ys → ys ≡ []
empty_chain links k [] none c = refl
empty_chain links k (y ∷ ys) none c = absurd (let is = c.1 in omega (arith, none, is))

first_of : (listed : List Bool) (links : List Link) (k j : ℕ) (e : Link) (ys : List ℕ) → k ≡ suc j → slice_get links j ≡ Some e → IsFalse (has listed e.before) → IsChain links k ys → (b : ℕ) × IsIn b ys × IsFalse (has listed b)
first_of listed links k j e [] is there new none = absurd (omega (arith, none, is))
first_of listed links k j e (y ∷ ys) is there new (i, at_i, (d, here, of_d, rest)) =
    let same_place : i ≡ j = omega (arith, at_i, is) in
    let same : d ≡ e = same_Some d e (sym here ∙ (ap (slice_get links) same_place ∙ there)) in
    (y, inl refl, subst (λ n. IsFalse (has listed n)) (ap (λ (f : Link). f.before) (sym same) ∙ of_d) new)

pub DropsListed-by : (listed : List Bool) (a : ℕ) (old new : Links) (answer : Bool) (k : ℕ) → a < length old.heads.items → new.links.items ≡ old.links.items → new.heads.items ≡ set old.heads.items a k
    → ((xs : List ℕ) → list_of old a xs → IsLeft listed old k xs) → (IsTrue answer → k ≡ 0) → (IsFalse answer → (j : ℕ) × (e : Link) × (k ≡ suc j) × (slice_get old.links.items j ≡ Some e) × IsFalse (has listed e.before)) → DropsListed listed a old new answer
DropsListed-by listed a old new answer k within links heads left when_true when_false = record {
  count = ap length heads ∙ length-set old.heads.items a k;
  others = λ c xs other chain. subst (λ n. IsChain new.links.items n xs) (sym (ap (λ hs. slice_index hs c) heads ∙ get_or-set_other old.heads.items a c k 0 other)) (subst (λ ls. IsChain ls (slice_index old.heads.items c) xs) (sym links) chain);
  own = λ xs chain.
      let w = left xs chain in
      let there : slice_index new.heads.items a ≡ k = ap (λ hs. slice_index hs a) heads ∙ get_or-set_same old.heads.items a k 0 within in (
        record {
          ys = w.ys;
          list = subst (λ n. IsChain new.links.items n w.ys) (sym there) (subst (λ ls. IsChain ls k w.ys) (sym links) w.list);
          keeps = w.keeps;
          only = w.only;
        },
        (λ h. empty_chain old.links.items k w.ys (when_true h) w.list),
        (λ h. let f = when_false h in first_of listed old.links.items k f.0 f.1 w.ys f.2 f.3 f.4 w.list),
      );
}

-- ---- what the lists have

pub HasLinksLeft-start : (trace : List Event) (listed : List Bool) (l : Links) → HasLinks trace (length trace) 0 l → HasLinksLeft trace listed l
HasLinksLeft-start trace listed l w = record { rows = w.rows; linked = λ i j there link. inr (w.linked i j there link) }

-- one more is listed
pub HasLinksLeft-more : (trace : List Event) (listed : List Bool) (l : Links) (a : ℕ) → a < length listed → HasLinksLeft trace listed l → HasLinksLeft trace (set listed a true) l
HasLinksLeft-more trace listed l a inside w = record {
  rows = w.rows;
  linked = λ i j there link. ⊎_elim (λ known. inl (has-set listed a (owner trace i) inside known)) (λ h. inr h) (w.linked i j there link);
}

in-order : (trace : List Event) (i j : ℕ) → LinksSoFar trace (length trace) 0 i j → i < j
in-order trace i j link = ⊎_elim (λ back. ⊎_elim (λ last. last.before) (λ last. last.before) back.1) (λ on. on.1.1.after) link

module _ (trace : List Event) (listed : List Bool) (closed : (b c : ℕ) → Edge trace b c → IsTrue (has listed c) → IsTrue (has listed b)) where
  -- with a position's transaction those of its thread before it are listed
  listed-earlier : (i k : ℕ) → i ≤ k → k < length trace → thread_at trace k ≡ thread_at trace i → IsTrue (has listed (owner trace k)) → IsTrue (has listed (owner trace i))
  listed-earlier i k upto within same known = ⊎_elim
      (λ one. subst (λ b. IsTrue (has listed b)) (sym one) known)
      (λ differ.
      let before : i < k = ⊎_elim (λ l. l) (λ h. absurd (differ (ap (owner trace) (let is : i ≡ k = omega (arith, h, upto) in is)))) (cases_lt i k) in
      closed (owner trace i) (owner trace k) (record { from = i; to = k; in_order = before; in_trace = within; in_conflict = own-conflict trace i k before within (sym same); of_from = refl; of_to = refl; differ = differ }) known)
      (cases_eq (owner trace i) (owner trace k))

  module _ (a : ℕ) (old new : Links) (answer : Bool) (w : HasLinksLeft trace listed old) (s : DropsListed listed a old new answer) where
    row-all_listed : (c : ℕ) → HasRow trace old c → HasRow trace new c
    row-all_listed c r = ⊎_elim
        (λ same.
        let left = (s.own r.xs (subst (λ n. list_of old n r.xs) same r.list)).0 in
        record { xs = left.ys; list = subst (λ n. list_of new n left.ys) (sym same) left.list; sound = λ b h. r.sound b (left.only b h) })
        (λ other. record { xs = r.xs; list = s.others c r.xs other r.list; sound = r.sound })
        (cases_eq c a)

    covered-all_listed : (i j : ℕ) → IsImplied trace old i j → IsTrue (has listed (owner trace i)) ⊎ IsKept trace new i j
    covered-all_listed i j h = ⊎_elim (λ known. inl (listed-earlier i h.from h.later h.from_there h.of_from known))
        (λ there. inr (inr (record {
          from = h.from;
          to = h.to;
          from_there = h.from_there;
          to_there = h.to_there;
          later = h.later;
          of_from = h.of_from;
          earlier = h.earlier;
          of_to = h.of_to;
          edge = h.edge;
          listed = there;
        })))
        (in_list (owner trace h.to) (owner trace h.from) h.listed)
      where
        in_list : (c b : ℕ) → IsInList old c b → IsTrue (has listed b) ⊎ IsInList new c b
        in_list c b (xs, chain, is) = ⊎_elim
            (λ same.
            let left = (s.own xs (subst (λ n. list_of old n xs) same chain)).0 in
            ⊎_elim (λ known. inl known) (λ there. inr (left.ys, subst (λ n. list_of new n left.ys) (sym same) left.list, there)) (left.keeps b is))
            (λ other. inr (xs, s.others c xs other chain, is))
            (cases_eq c a)

    pub HasLinksLeft-all_listed : HasLinksLeft trace listed new
    HasLinksLeft-all_listed = record {
      rows = record { count = s.count ∙ w.rows.count; each = λ c within. row-all_listed c (w.rows.each c within) };
      linked = λ i j there link. ⊎_elim (λ known. inl known) (λ kept. ⊎_elim (λ same. inr (inl same)) (λ covered. covered-all_listed i j covered) kept) (w.linked i j there link);
    }

    module _ (candidate : IsCandidate trace listed a) (front : IsFront trace listed a) where
      -- what is of its thread and at or before one of its positions is its own, or listed
      own-or-listed : (i j : ℕ) → i ≤ j → j < length trace → owner trace j ≡ a → thread_at trace i ≡ thread_at trace j → IsTrue (has listed (owner trace i)) ⊎ (owner trace i ≡ a)
      own-or-listed i j upto within of_a same = ⊎_elim
          (λ l. inl (front.passed i l (same ∙ of_thread)))
          (λ h. ⊎_elim
          (λ behind. inr (owner-between trace (thread_at trace a) a i j behind h upto (own-thread trace (thread_at trace a) i (omega (arith, upto, within)) (same ∙ of_thread)) (own-thread trace (thread_at trace a) j within of_thread) (candidate.first ∙ sym of_a) ∙ of_a))
          (λ at. inr (ap (owner trace) (let is : i ≡ a = omega (arith, at, h, upto) in is) ∙ candidate.first))
          (cases_lt a j))
          (cases_lt i a)
        where
          of_thread : thread_at trace j ≡ thread_at trace a
          of_thread = sym (one-thread trace j within) ∙ ap (thread_at trace) of_a

      pub IsFree-all_listed : IsTrue answer → IsFree trace listed a
      IsFree-all_listed all_listed = IsFree-linked trace listed closed a (λ b link.
          let before = in-order trace link.from link.to link.link in
          subst (λ n. IsTrue (has listed n)) link.of_from
          (⊎_elim (λ known. known)
          (λ kept. ⊎_elim
          (λ same. ⊎_elim (λ known. known) (λ of_a. absurd (link.differ (sym link.of_from ∙ of_a))) (own-or-listed link.from link.to (omega (arith, before)) link.in_trace link.of_to same))
          (λ h. listed-earlier link.from h.from h.later h.from_there h.of_from
          (⊎_elim
          (λ known. closed (owner trace h.from) (owner trace h.to) h.edge known)
          (λ of_a.
          let o = s.own h.listed.0 (subst (λ n. list_of old n h.listed.0) of_a h.listed.1) in
          ⊎_elim (λ g. g) (λ g. absurd (subst (IsIn (owner trace h.from)) (o.1 all_listed) g)) (o.0.keeps (owner trace h.from) h.listed.2))
          (own-or-listed h.to link.to h.earlier link.in_trace link.of_to h.of_to)))
          kept)
          (w.linked link.from link.to link.in_trace link.link)))

    pub IsFree-not_all_listed : a < length trace → IsFalse answer → ¬ IsFree trace listed a
    IsFree-not_all_listed within some_left =
        let r = w.rows.each a within in
        let o = s.own r.xs r.list in
        let b = o.2 some_left in
        IsFree-not_linked trace listed closed b.0 a (r.sound b.0 (o.0.only b.0 b.1)) b.2
