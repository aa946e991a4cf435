-- The chain after a relink, place by place: where each of its numbers stood before.
use Rattle.std.specs.Prelude.{◌≡◌, ℕ, zero, suc, ◌+◌, ◌-◌, ◌<◌, ◌≤◌, cond, ◌⊎◌, List, length, ◌==◌, ◌≢◌, nat_le, nat_lt, slice_index, slice_index_or, slice_set}
use Rattle.std.proofs.Common.{sym, ap, subst, ◌∙◌, inl, inr, ⊎_elim, add-one, arith}
use Rattle.std.proofs.lemmas.List.{length-set, get_or-set_same, get_or-set_other, set_past}
use Rattle.std.proofs.lemmas.Bool.{cases_eq, cases_lt}
use Rattle.std.proofs.lemmas.Bool.Decides.{nat_tests}
use Rattle.chain_store.specs.Chain.{chain, unlinked, relinked, Within, Apart}
use Rattle.chain_store.specs.Follow.{length-chain, chain_start, chain_next, chain-within}

-- the number at i + 1 goes behind the number at m: what now stands at k stood at `source i m k`,
-- and what stood at j is now followed by what stood at `next i m j`
abbrev pub source : ℕ → ℕ → ℕ → ℕ
source i m k =
    cond (nat_le m i)
    (cond (nat_le k m) k (cond (k == m + 1) (i + 1) (cond (nat_le k (i + 1)) (k - 1) k)))
    (cond (nat_le k i) k (cond (nat_lt k m) (k + 1) (cond (k == m) (i + 1) k)))

abbrev next : ℕ → ℕ → ℕ → ℕ
next i m j = cond (j == m) (i + 1) (cond (j == i + 1) (cond (m == i) (i + 2) (m + 1)) (cond (j == i) (i + 2) (j + 1)))

module _ (i m : ℕ) (other : m ≡ i + 1 → ⊥) where
  next-source : (k : ℕ) → next i m (source i m k) ≡ source i m (k + 1)
  next-source k = grind (arith, nat_tests)

  pub source-below : (n k : ℕ) → i + 1 < n → m < n → k < n → source i m k < n
  source-below n k hi hm hk = grind (arith, nat_tests)

  source-apart : (k l : ℕ) → source i m k ≡ source i m l → k ≡ l
  source-apart k l e = grind (arith, nat_tests)

-- the links after a relink
module _ (ns : List ℕ) (p q : ℕ) where
  unlinked_at : p < length ns → slice_index (unlinked ns p) p ≡ slice_index ns (slice_index ns p)
  unlinked_at h = get_or-set_same ns p (slice_index ns (slice_index ns p)) 0 h

  unlinked_other : (y : ℕ) → (y ≢ p) → slice_index (unlinked ns p) y ≡ slice_index ns y
  unlinked_other y ne = get_or-set_other ns p y (slice_index ns (slice_index ns p)) 0 ne

  pub length-relinked : length (relinked ns p q) ≡ length ns
  length-relinked = simp length-set

  relinked_to : q < length ns → slice_index (relinked ns p q) q ≡ slice_index ns p
  relinked_to h = get_or-set_same (slice_set (unlinked ns p) (slice_index ns p) (slice_index (unlinked ns p) q)) q (slice_index ns p) 0 (simp length-set h)

  relinked-moved : slice_index_or ns p 0 < length ns → (slice_index ns p ≢ q) → slice_index (relinked ns p q) (slice_index ns p) ≡ slice_index (unlinked ns p) q
  relinked-moved h ne =
      get_or-set_other (slice_set (unlinked ns p) (slice_index ns p) (slice_index (unlinked ns p) q)) q (slice_index ns p) (slice_index ns p) 0 ne
      ∙ get_or-set_same (unlinked ns p) (slice_index ns p) (slice_index (unlinked ns p) q) 0 (simp length-set h)

  relinked_other : (y : ℕ) → (y ≢ q) → (y ≢ slice_index ns p) → slice_index (relinked ns p q) y ≡ slice_index (unlinked ns p) y
  relinked_other y nq nx =
      get_or-set_other (slice_set (unlinked ns p) (slice_index ns p) (slice_index (unlinked ns p) q)) q y (slice_index ns p) 0 nq
      ∙ get_or-set_other (unlinked ns p) (slice_index ns p) y (slice_index (unlinked ns p) q) 0 nx

within-set : (ns : List ℕ) (p v : ℕ) → v < length ns → Within ns → Within (slice_set ns p v)
within-set ns p v hv w k =
    let l = length-set ns p v in
    ⊎_elim
    (λ (e : k ≡ p). ⊎_elim
    (λ (h : p < length ns). let g = get_or-set_same ns p v 0 h in rw e (omega arith))
    (λ (h : length ns ≤ p). rw (set_past ns p v h) (w k))
    (cases_lt p (length ns)))
    (λ (ne : k ≡ p → ⊥). let g = get_or-set_other ns p k v 0 ne in let h = w k in omega arith)
    (cases_eq k p)

pub within-relinked : (ns : List ℕ) (p q : ℕ) → Within ns → Within (relinked ns p q)
within-relinked ns p q w =
    let u : Within (unlinked ns p) = within-set ns p (slice_index ns (slice_index ns p)) (w (slice_index ns p)) w in
    let v = within-set (unlinked ns p) (slice_index ns p) (slice_index (unlinked ns p) q) (u q) u in
    within-set (slice_set (unlinked ns p) (slice_index ns p) (slice_index (unlinked ns p) q)) q (slice_index ns p) (simp length-set (w p)) v

-- the number at i + 1 of the chain is put behind the number at m
module _ (ns : List ℕ) (w : Within ns) (apart : Apart (chain ns)) (i m : ℕ) (hi : i + 1 < length ns) (hm : m < length ns) (other : m ≡ i + 1 → ⊥) where
  abbrev at : ℕ → ℕ
  at k = slice_index (chain ns) k

  abbrev after : List ℕ
  after = relinked ns (at i) (at m)

  differ : (j k : ℕ) → j < length ns → k < length ns → (j ≢ k) → at j ≢ at k
  differ j k hj hk ne e = let l = length-chain ns in ne (apart j k (omega arith, omega arith, e))

  moved : slice_index_or ns (at i) 0 ≡ at (i + 1)
  moved = sym (chain_next ns i hi)

  moved_next : i + 2 < length ns → slice_index ns (slice_index ns (at i)) ≡ at (i + 2)
  moved_next h = ap (λ (y : ℕ). slice_index ns y) moved ∙ sym (chain_next ns (i + 1) (omega arith)) ∙ ap at (omega arith)

  -- the links after it, by the place j where a number stood: of the number that the moved one was put behind ..
  link_to : (j : ℕ) → j ≡ m → slice_index after (at j) ≡ at (next i m j)
  link_to j e =
      let n : next i m j ≡ i + 1 = grind (arith, nat_tests) in
      ap (λ (k : ℕ). slice_index after (at k)) e ∙ relinked_to ns (at i) (at m) (chain-within ns w m) ∙ moved ∙ ap at (sym n)

  -- .. of the moved one, which was put back to its place or elsewhere ..
  link_moved : (j : ℕ) → j ≡ i + 1 → slice_index after (at j) ≡ slice_index (unlinked ns (at i)) (at m)
  link_moved j e =
      ap (λ (k : ℕ). slice_index after (at k)) e ∙ ap (λ (y : ℕ). slice_index after y) (sym moved)
      ∙ relinked-moved ns (at i) (at m) (w (at i)) (λ z. differ (i + 1) m hi hm (λ u. other (sym u)) (sym moved ∙ z))

  link_back : (j : ℕ) → j ≡ i + 1 → m ≡ i → next i m j < length ns → slice_index after (at j) ≡ at (next i m j)
  link_back j e f hn =
      let n : next i m j ≡ i + 2 = grind (arith, nat_tests) in
      link_moved j e ∙ ap (λ (k : ℕ). slice_index (unlinked ns (at i)) (at k)) f ∙ unlinked_at ns (at i) (at m) (chain-within ns w i) ∙ moved_next (omega arith) ∙ ap at (sym n)

  link_away : (j : ℕ) → j ≡ i + 1 → (m ≢ i) → next i m j < length ns → slice_index after (at j) ≡ at (next i m j)
  link_away j e f hn =
      let n : next i m j ≡ m + 1 = grind (arith, nat_tests) in
      link_moved j e ∙ unlinked_other ns (at i) (at m) (at m) (differ m i hm (omega arith) f) ∙ sym (chain_next ns m (omega arith)) ∙ ap at (sym n)

  -- .. of the number that it was taken from, and of all others
  link_left : (j : ℕ) → j < length ns → (j ≢ m) → (j ≢ i + 1) → slice_index after (at j) ≡ slice_index (unlinked ns (at i)) (at j)
  link_left j hj nm nx = relinked_other ns (at i) (at m) (at j) (differ j m hj hm nm) (λ z. differ j (i + 1) hj hi nx (z ∙ moved))

  link_from : (j : ℕ) → j ≡ i → (j ≢ m) → next i m j < length ns → slice_index after (at j) ≡ at (next i m j)
  link_from j e nm hn =
      let n : next i m j ≡ i + 2 = grind (arith, nat_tests) in
      link_left j (omega arith) nm (λ u. omega arith) ∙ ap (λ (k : ℕ). slice_index (unlinked ns (at i)) (at k)) e
      ∙ unlinked_at ns (at i) (at m) (chain-within ns w i) ∙ moved_next (omega arith) ∙ ap at (sym n)

  link_other : (j : ℕ) → j < length ns → (j ≢ m) → (j ≢ i + 1) → (j ≢ i) → next i m j < length ns → slice_index after (at j) ≡ at (next i m j)
  link_other j hj nm nx ne hn =
      let n : next i m j ≡ j + 1 = grind (arith, nat_tests) in
      link_left j hj nm nx ∙ unlinked_other ns (at i) (at m) (at j) (differ j i hj (omega arith) ne) ∙ sym (chain_next ns j (omega arith)) ∙ ap at (sym n)

  link_after : (j : ℕ) → j < length ns → next i m j < length ns → slice_index after (at j) ≡ at (next i m j)
  link_after j hj hn = by_m (cases_eq j m)
    where
      by_i : (j ≢ m) → (j ≢ i + 1) → (j ≡ i) ⊎ (j ≢ i) → slice_index after (at j) ≡ at (next i m j)
      by_i nm nx (inl e) = link_from j e nm hn
      by_i nm nx (inr ne) = link_other j hj nm nx ne hn

      by_moved : (j ≢ m) → (j ≡ i + 1) ⊎ (j ≢ i + 1) → slice_index after (at j) ≡ at (next i m j)
      by_moved nm (inl e) = ⊎_elim (λ (f : m ≡ i). link_back j e f hn) (λ (f : m ≡ i → ⊥). link_away j e f hn) (cases_eq m i)
      by_moved nm (inr nx) = by_i nm nx (cases_eq j i)

      by_m : (j ≡ m) ⊎ (j ≢ m) → slice_index after (at j) ≡ at (next i m j)
      by_m (inl e) = link_to j e
      by_m (inr nm) = by_moved nm (cases_eq j (i + 1))

  chain_after : (k : ℕ) → k < length ns → slice_index (chain after) k ≡ at (source i m k)
  chain_after zero h = chain_start after ∙ sym (chain_start ns) ∙ ap at (let s : 0 ≡ source i m 0 = grind (arith, nat_tests) in s)
  chain_after (suc k) h =
      let l = length-relinked ns (at i) (at m) in
      let e : slice_index_or (chain after) k 0 ≡ at (source i m k) = chain_after k (omega arith) in
      let s : source i m k < length ns = source-below i m other (length ns) k hi hm (omega arith) in
      let n : next i m (source i m k) ≡ source i m (k + 1) = next-source i m other k in
      let b : source i m (k + 1) < length ns = source-below i m other (length ns) (k + 1) hi hm (omega arith) in
      rw (← add-one k) (chain_next after k (omega arith) ∙ ap (λ (y : ℕ). slice_index after y) e ∙ link_after (source i m k) s (omega arith) ∙ ap at n)

  apart_after : Apart (chain after)
  apart_after k j (hk, hj, e) =
      let l = length-relinked ns (at i) (at m) in
      let c = length-chain after in
      let d = length-chain ns in
      let bk = source-below i m other (length ns) k hi hm (omega arith) in
      let bj = source-below i m other (length ns) j hi hm (omega arith) in
      source-apart i m other k j (apart (source i m k) (source i m j) (omega arith, omega arith, sym (chain_after k (omega arith)) ∙ e ∙ chain_after j (omega arith)))

  -- the same, at the numbers as the code has them
  module _ (p q : ℕ) (from : at i ≡ p) (to : at m ≡ q) where
    pub chain-relinked : (k : ℕ) → k < length ns → slice_index (chain (relinked ns p q)) k ≡ at (source i m k)
    chain-relinked k h =
        subst (λ (x : ℕ). slice_index (chain (relinked ns x q)) k ≡ at (source i m k)) from
        (subst (λ (y : ℕ). slice_index (chain (relinked ns (at i) y)) k ≡ at (source i m k)) to (chain_after k h))

    pub apart-relinked : Apart (chain (relinked ns p q))
    apart-relinked = subst (λ (x : ℕ). Apart (chain (relinked ns x q))) from (subst (λ (y : ℕ). Apart (chain (relinked ns (at i) y))) to apart_after)
