-- What stands at each place of a chain.
use Rattle.std.specs.Prelude.{◌≡◌, ℕ, zero, suc, ◌+◌, ◌<◌, ◌≤◌, List, length, slice_index, slice_index_or, refl}
use Rattle.std.proofs.Common.{ap, ⊎_elim, add-one, arith}
use Rattle.std.proofs.lemmas.List.{get_or_past}
use Rattle.std.proofs.lemmas.Bool.{cases_lt}
use Rattle.chain_store.specs.Chain.{follow, chain, Within}

length-follow : (ns : List ℕ) (a n : ℕ) → length (follow ns a n) ≡ n
length-follow ns a zero = refl
length-follow ns a (suc n) = ap suc (length-follow ns (slice_index ns a) n)

follow_start : (ns : List ℕ) (n : ℕ) → slice_index (follow ns 0 n) 0 ≡ 0
follow_start ns zero = refl
follow_start ns (suc n) = refl

follow_next : (ns : List ℕ) (a n k : ℕ) → suc k < n → slice_index (follow ns a n) (suc k) ≡ slice_index ns (slice_index (follow ns a n) k)
follow_next ns a zero k h = absurd (omega arith)
follow_next ns a (suc zero) k h = absurd (omega arith)
follow_next ns a (suc (suc n)) zero h = refl
follow_next ns a (suc (suc n)) (suc k) h = follow_next ns (slice_index ns a) (suc n) k (omega arith)

module _ (ns : List ℕ) where
  pub length-chain : length (chain ns) ≡ length ns
  length-chain = length-follow ns 0 (length ns)

  pub chain_start : slice_index_or (chain ns) 0 0 ≡ 0
  chain_start = follow_start ns (length ns)

  pub chain_next : (k : ℕ) → k + 1 < length ns → slice_index (chain ns) (k + 1) ≡ slice_index ns (slice_index (chain ns) k)
  chain_next k h = rw (add-one k) (follow_next ns 0 (length ns) k (omega arith))

  pub chain-within : Within ns → (k : ℕ) → slice_index (chain ns) k < length ns
  chain-within w zero = rw chain_start (let h = w 0 in omega arith)
  chain-within w (suc k) =
      ⊎_elim
      (λ (h : suc k < length ns). rw (follow_next ns 0 (length ns) k h) (w (slice_index (chain ns) k)))
      (λ (h : length ns ≤ suc k). let e = get_or_past (chain ns) (suc k) 0 (rw length-chain h) in let p = w 0 in omega arith)
      (cases_lt (suc k) (length ns))
