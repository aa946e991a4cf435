-- A run moved in two parts, the last part first where it moves up and the first part first where it moves down: so nothing is written
-- over that is still to be read. `shift` needs them only where it is written so; with them in scope an edit that takes the parts in the
-- other order is refused for that order and not for its form.
use Rattle.std.proofs.Common.{◌≡◌, ℕ, ◌+◌, ◌≤◌, List, length, ap, ◌∙◌, arith, rules}
use Rattle.std.proofs.lemmas.List.{places, same_lists}
use Rattle.std.specs.List.{copy_within}
use Rattle.shift.specs.Shift.{shifted}

pub last_part_first : {X : Type 0} (xs ys zs : List X) (from to half n : ℕ)
    → zs ≡ copy_within ys from (from + half) to → ys ≡ copy_within xs (from + half) (from + n) (to + half)
    → half ≤ n → from + n ≤ length xs → to + n ≤ length xs → from ≤ to → zs ≡ shifted xs from to n
last_part_first xs ys zs from to half n f e part here there up =
    f ∙ ap (λ x. copy_within x from (from + half) to) e ∙ same_lists _ _ (search (rules, places)) (λ k d within. grind (arith, places))

pub first_part_first : {X : Type 0} (xs ys zs : List X) (from to half n : ℕ)
    → ys ≡ copy_within xs from (from + half) to → zs ≡ copy_within ys (from + half) (from + n) (to + half)
    → half ≤ n → from + n ≤ length xs → to + n ≤ length xs → to ≤ from → zs ≡ shifted xs from to n
first_part_first xs ys zs from to half n e f part here there down =
    f ∙ ap (λ x. copy_within x (from + half) (from + n) (to + half)) e ∙ same_lists _ _ (search (rules, places)) (λ k d within. grind (arith, places))
