-- The chain of a new store: each number stands at its own place.
use Rattle.std.specs.Prelude.{◌≡◌, ℕ, zero, suc, ◌+◌, ◌<◌, ◌≤◌, length, slice_index, slice_index_or}
use Rattle.std.proofs.Common.{sym, ◌∙◌, ⊎_elim, add-one, arith, rules}
use Rattle.std.proofs.lemmas.List.{places, get_or_past}
use Rattle.std.proofs.lemmas.List.FromFn.{length-range_with_len, get_or-range_with_len}
use Rattle.std.proofs.lemmas.Bool.{cases_order}
use Rattle.chain_store.specs.Chain.{chain, in_order, Within, Apart}
use Rattle.chain_store.specs.Follow.{length-chain, chain_start, chain_next}

module _ (m : ℕ) where
  pub length-in_order : length (in_order m) ≡ m + 1
  length-in_order = search (rules, places, length-range_with_len)

  link_at : (k : ℕ) → k < m → slice_index (in_order m) k ≡ k + 1
  link_at k h = let l = length-range_with_len 1 m in let e = get_or-range_with_len 1 m k 0 h in grind (arith, places)

  link_last : slice_index_or (in_order m) m 0 ≡ 0
  link_last = let l = length-range_with_len 1 m in grind (arith, places)

  pub in_order-within : Within (in_order m)
  in_order-within k =
      let l = length-in_order in
      ⊎_elim
      (λ (e : k ≡ m). rw e (let h = link_last in omega arith))
      (⊎_elim (λ (e : k < m). let h = link_at k e in omega arith) (λ (e : m < k). let h = get_or_past (in_order m) k 0 (omega arith) in omega arith))
      (cases_order k m)

  pub in_order_at : (k : ℕ) → k ≤ m → slice_index (chain (in_order m)) k ≡ k
  in_order_at zero h = chain_start (in_order m)
  in_order_at (suc k) h =
      let l = length-in_order in
      let e : slice_index_or (chain (in_order m)) k 0 ≡ k = in_order_at k (omega arith) in
      let n = link_at k (omega arith) in
      let s = chain_next (in_order m) k (omega arith) in
      rw (← add-one k) (s ∙ rw e n)

  pub in_order-apart : Apart (chain (in_order m))
  in_order-apart i j (hi, hj, e) =
      let l = length-in_order in
      let c = length-chain (in_order m) in
      sym (in_order_at i (omega arith)) ∙ e ∙ in_order_at j (omega arith)
