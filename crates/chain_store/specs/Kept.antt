-- What a chain store keeps of its links, and which places of the chain are slots.
use Rattle.std.specs.Prelude.{◌≡◌, ℕ, ◌+◌, ◌-◌, ◌<◌, ◌≤◌, List, length, ◌≢◌, slice_index, slice_index_or}
use Rattle.std.proofs.Common.{sym, subst, ◌∙◌, arith, rules}
use Rattle.std.proofs.lemmas.List.{places}
use Rattle.chain_store.specs.Chain.{chain, in_order, Within, Apart}
use Rattle.chain_store.specs.Lines.{line_numbers}
use Rattle.chain_store.specs.Follow.{length-chain, chain_start, chain-within}
use Rattle.chain_store.specs.Order.{length-in_order, in_order-within, in_order_at, in_order-apart}

-- the ghost fields of a store: the facts of its links, for `cap` slots of which `count` hold lines
pub record Kept (ns : List ℕ) (cap count : ℕ) : Type 0 where
  pub some : 1 ≤ cap
  pub bounded : cap ≤ 4096
  pub long : length ns ≡ cap + 2
  pub room : count ≤ cap
  pub within : Within ns
  pub apart : Apart (chain ns)
  pub parted : slice_index_or (chain ns) (count + 1) 0 ≡ 1

-- place k of the chain is a slot's: it is neither the first place nor the one behind the lines
abbrev pub AtSlot : ℕ → ℕ → ℕ → Type 0
AtSlot cap count k = (1 ≤ k) × (k < cap + 2) × (k ≢ count + 1)

-- a new store has no lines
pub new_kept : (ns : List ℕ) (cap last : ℕ) → 1 ≤ cap → cap ≤ 4096 → ns ≡ in_order last → last ≡ cap + 1 → Kept ns cap 0
new_kept ns cap last some bounded is e =
    let l = length-in_order last in
    let k : Kept (in_order last) cap 0 =
    record { some = some; bounded = bounded; long = omega arith; room = omega arith; within = in_order-within last; apart = in_order-apart last; parted = in_order_at last 1 (omega arith) }
    in
    subst (λ (xs : List ℕ). Kept xs cap 0) (sym is) k

module _ {ns : List ℕ} {cap count : ℕ} (kept : Kept ns cap count) where
  pub slot-number : (k : ℕ) → AtSlot cap count k → (2 ≤ slice_index (chain ns) k) × (slice_index (chain ns) k < cap + 2)
  slot-number k (one, hk, ne) =
      let l = length-chain ns in
      let a = kept.long in
      let r = kept.room in
      let s = chain_start ns in
      let b = chain-within ns kept.within k in
      let x : slice_index_or (chain ns) k 0 ≡ 0 → ⊥ = λ z. (let e = kept.apart k 0 (omega arith, omega arith, z ∙ sym s) in omega arith) in
      let y : slice_index_or (chain ns) k 0 ≡ 1 → ⊥ = λ z. ne (kept.apart k (count + 1) (omega arith, omega arith, z ∙ sym kept.parted)) in
      (omega arith, omega arith)

  -- no slot stands at two places
  pub slot_apart : (j k : ℕ) → AtSlot cap count j → AtSlot cap count k → slice_index (chain ns) j - 2 ≡ slice_index (chain ns) k - 2 → j ≡ k
  slot_apart j k hj hk e =
      let l = length-chain ns in
      let a = kept.long in
      let x = slot-number j hj in
      let y = slot-number k hk in
      kept.apart j k (omega arith, omega arith, omega arith)

  pub length_numbers : length (line_numbers ns count) ≡ count
  length_numbers = let l = length-chain ns in let a = kept.long in let r = kept.room in search (rules, places)

  pub number_at : (k : ℕ) → k < count → slice_index (line_numbers ns count) k ≡ slice_index (chain ns) (k + 1)
  number_at k h = let l = length-chain ns in let a = kept.long in let r = kept.room in grind (arith, places)
