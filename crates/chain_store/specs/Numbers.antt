-- The numbers of the lines, and what the links keep, when a line is put or removed.
use Rattle.std.specs.Prelude.{◌≡◌, ℕ, suc, ◌+◌, ◌-◌, ◌<◌, ◌≤◌, List, ◌∷◌, ◌++◌, length, take, drop, slice_index, slice_index_or, slice_range}
use Rattle.std.proofs.Common.{sym, ap, ◌∙◌, ⊎_elim, arith, rules}
use Rattle.std.specs.List.{remove}
use Rattle.std.proofs.lemmas.List.Edits.{get_or-insert_below, get_or-insert_at, get_or-insert_above, get_or-remove_below, get_or-remove_above}
use Rattle.std.proofs.lemmas.List.{places, ext_get_or, length-take}
use Rattle.std.proofs.lemmas.Bool.{cases_lt, cases_order}
use Rattle.std.proofs.lemmas.Bool.Decides.{nat_tests}
use Rattle.chain_store.specs.Chain.{chain, relinked}
use Rattle.chain_store.specs.Lines.{line_numbers}
use Rattle.chain_store.specs.Follow.{length-chain, chain_next}
use Rattle.chain_store.specs.Kept.{Kept}
use Rattle.chain_store.specs.Relink.{source, length-relinked, within-relinked, chain-relinked, apart-relinked}

part_at : (xs : List ℕ) (c k : ℕ) → k < c → slice_index (take c (drop 1 xs)) k ≡ slice_index xs (k + 1)
part_at xs c k h = grind (arith, places)

-- the numbers of the lines in a chain xs, and in the chain ys that a relink makes of it
module _ (xs ys : List ℕ) (count n : ℕ) (same : length ys ≡ length xs) (room : count + 1 < length xs) where
  abbrev old : List ℕ
  old = take count (drop 1 xs)

  length_old : length old ≡ count
  length_old = search (rules, places)

  put-part : (x : ℕ) → x ≡ slice_index xs (count + 2) → n ≤ count → count + 2 < length xs → ((k : ℕ) → k < length xs → slice_index ys k ≡ slice_index xs (source (count + 1) n k))
      → take (count + 1) (drop 1 ys) ≡ take n old ++ x ∷ drop n old
  put-part x is hn more at =
      let l = length_old in
      ext_get_or 0 _ _ (search (rules, places)) λ k h.
      let b : k < count + 1 = omega (arith, length-take (count + 1) (drop 1 ys)) in
      part_at ys (count + 1) k b ∙ at (k + 1) (omega arith) ∙ ⊎_elim
      (λ (e : k ≡ n).
      let s : source (count + 1) n (k + 1) ≡ count + 2 = grind (arith, nat_tests) in
      rw (s, e) (sym is ∙ sym (get_or-insert_at old n x 0 (omega arith))))
      (⊎_elim
      (λ (lt : k < n).
      let s : source (count + 1) n (k + 1) ≡ k + 1 = grind (arith, nat_tests) in
      rw s (sym (part_at xs count k (omega arith)) ∙ sym (get_or-insert_below old n x 0 k lt (omega arith))))
      (λ (gt : n < k).
      let s : source (count + 1) n (k + 1) ≡ k - 1 + 1 = grind (arith, nat_tests) in
      let e : k - 1 + 1 ≡ k = omega arith in
      rw s (sym (part_at xs count (k - 1) (omega arith)) ∙ sym (get_or-insert_above old n x 0 (k - 1) (omega arith) (omega arith)) ∙ ap (λ (j : ℕ). slice_index (take n old ++ x ∷ drop n old) j) e)))
      (cases_order k n)

  remove-part : 1 ≤ n → n ≤ count → ((k : ℕ) → k < length xs → slice_index ys k ≡ slice_index xs (source (n - 1) (count + 1) k))
      → slice_range ys 1 count ≡ take (n - 1) old ++ drop n old
  remove-part one hn at =
      let l = length_old in
      let m : n ≡ suc (n - 1) = omega arith in
      let t : take (n - 1) old ++ drop n old ≡ remove old (n - 1) = ap (λ (j : ℕ). take (n - 1) old ++ drop j old) m in
      ext_get_or 0 _ _ (search (rules, places)) λ k h.
      let b : k < count - 1 = omega (arith, length-take (count - 1) (drop 1 ys)) in
      part_at ys (count - 1) k b ∙ at (k + 1) (omega arith) ∙ rw t (⊎_elim
      (λ (lt : k < n - 1).
      let s : source (n - 1) (count + 1) (k + 1) ≡ k + 1 = grind (arith, nat_tests) in
      rw s (sym (part_at xs count k (omega arith)) ∙ sym (get_or-remove_below old (n - 1) 0 k lt (omega arith))))
      (λ (ge : n - 1 ≤ k).
      let s : source (n - 1) (count + 1) (k + 1) ≡ k + 1 + 1 = grind (arith, nat_tests) in
      rw s (sym (part_at xs count (k + 1) (omega arith)) ∙ sym (get_or-remove_above old (n - 1) 0 k ge (omega arith))))
      (cases_lt k (n - 1)))

-- a line put behind line n: the first free number goes behind q, the number of line n
module _ {ns : List ℕ} {cap count : ℕ} (kept : Kept ns cap count) (n q : ℕ) (hn : n ≤ count) (free : count < cap) (to : slice_index_or (chain ns) n 0 ≡ q) where
  put_at : (k : ℕ) → k < length ns → slice_index (chain (relinked ns 1 q)) k ≡ slice_index (chain ns) (source (count + 1) n k)
  put_at k h =
      let a = kept.long in
      chain-relinked ns kept.within kept.apart (count + 1) n (omega arith) (omega arith) (λ e. omega arith) 1 q kept.parted to k h

  pub put_kept : Kept (relinked ns 1 q) cap (count + 1)
  put_kept =
      let a = kept.long in
      let s : source (count + 1) n (count + 1 + 1) ≡ count + 1 = grind (arith, nat_tests) in
      record {
        some = kept.some;
        bounded = kept.bounded;
        long = length-relinked ns 1 q ∙ a;
        room = omega arith;
        within = within-relinked ns 1 q kept.within;
        apart = apart-relinked ns kept.within kept.apart (count + 1) n (omega arith) (omega arith) (λ e. omega arith) 1 q kept.parted to;
        parted = put_at (count + 1 + 1) (omega arith) ∙ ap (λ (k : ℕ). slice_index (chain ns) k) s ∙ kept.parted;
      }

  -- the first free number
  pub put-number : slice_index_or ns 1 0 ≡ slice_index (chain ns) (count + 2)
  put-number =
      let a = kept.long in
      ap (λ (y : ℕ). slice_index ns y) (sym kept.parted) ∙ sym (chain_next ns (count + 1) (omega arith)) ∙ ap (λ (k : ℕ). slice_index (chain ns) k) (omega arith)

  pub put_numbers : line_numbers (relinked ns 1 q) (count + 1) ≡ take n (line_numbers ns count) ++ slice_index ns 1 ∷ drop n (line_numbers ns count)
  put_numbers =
      let a = kept.long in
      let l = length-relinked ns 1 q in
      let c = length-chain (relinked ns 1 q) in
      let d = length-chain ns in
      put-part (chain ns) (chain (relinked ns 1 q)) count n (omega arith) (omega arith) (slice_index ns 1) put-number hn (omega arith) (λ k h. put_at k (omega arith))

-- line n removed: its number, which follows p, goes behind the number in front of the free slots
module _ {ns : List ℕ} {cap count : ℕ} (kept : Kept ns cap count) (n p : ℕ) (one : 1 ≤ n) (hn : n ≤ count) (from : slice_index_or (chain ns) (n - 1) 0 ≡ p) where
  remove_at : (k : ℕ) → k < length ns → slice_index (chain (relinked ns p 1)) k ≡ slice_index (chain ns) (source (n - 1) (count + 1) k)
  remove_at k h =
      let a = kept.long in
      let r = kept.room in
      chain-relinked ns kept.within kept.apart (n - 1) (count + 1) (omega arith) (omega arith) (λ e. omega arith) p 1 from kept.parted k h

  pub remove_kept : Kept (relinked ns p 1) cap (count - 1)
  remove_kept =
      let a = kept.long in
      let r = kept.room in
      let s : source (n - 1) (count + 1) (count - 1 + 1) ≡ count + 1 = grind (arith, nat_tests) in
      record {
        some = kept.some;
        bounded = kept.bounded;
        long = length-relinked ns p 1 ∙ a;
        room = omega arith;
        within = within-relinked ns p 1 kept.within;
        apart = apart-relinked ns kept.within kept.apart (n - 1) (count + 1) (omega arith) (omega arith) (λ e. omega arith) p 1 from kept.parted;
        parted = remove_at (count - 1 + 1) (omega arith) ∙ ap (λ (k : ℕ). slice_index (chain ns) k) s ∙ kept.parted;
      }

  pub remove_numbers : line_numbers (relinked ns p 1) (count - 1) ≡ take (n - 1) (line_numbers ns count) ++ drop n (line_numbers ns count)
  remove_numbers =
      let a = kept.long in
      let r = kept.room in
      let l = length-relinked ns p 1 in
      let c = length-chain (relinked ns p 1) in
      let d = length-chain ns in
      remove-part (chain ns) (chain (relinked ns p 1)) count n (omega arith) (omega arith) one hn (λ k h. remove_at k (omega arith))
