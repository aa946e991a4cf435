-- What a list with a gap holds, where the gap moves or an element comes in or goes at the gap.
use Rattle.std.specs.Prelude.{◌≡◌, ℕ, ◌+◌, ◌-◌, ◌<◌, ◌≤◌, List, [], ◌∷◌, length, slice_set}
use Rattle.std.proofs.Common.{arith, rules}
use Rattle.std.proofs.lemmas.List.{places, same_lists, get_or-set_same}
use Rattle.std.proofs.lemmas.Bool.{cases_eq}
use Rattle.shift.specs.Shift.{shifted}
use Rattle.gap_store.specs.Gaps.{held, overwritten}

module _ {X : Type 0} (xs : List X) (f b : ℕ) (le : f ≤ b) (end : b ≤ length xs) where
  pub length_held : length (held xs f b) ≡ f + (length xs - b)
  length_held = search (rules, places)

  -- the gap moves down, or up: the elements between go to its other side
  pub moved_down : (at : ℕ) → at ≤ f → held (shifted xs at (at + (b - f)) (f - at)) at (at + (b - f)) ≡ held xs f b
  moved_down at h = same_lists _ _ (search (rules, places)) (λ k d g. grind (arith, places))

  pub moved_up : (at : ℕ) → f ≤ at → at ≤ f + (length xs - b) → held (shifted xs b f (at - f)) at (at + (b - f)) ≡ held xs f b
  moved_up at h m = same_lists _ _ (search (rules, places)) (λ k d g. grind (arith, places))

-- one element written over another
pub overwritten_one : {X : Type 0} (xs : List X) (i : ℕ) (x : X) → i < length xs → overwritten xs i (x ∷ []) ≡ slice_set xs i x
overwritten_one xs i x lt = same_lists _ _ (search (rules, places)) (λ k d g. grind (arith, places, get_or-set_same, cases_eq k i))
