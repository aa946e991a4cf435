-- What is found in the directory by the number of a row, in the words of the definitions.
use Rattle.std.specs.Prelude.{◌≡◌, ℕ, zero, suc, ◌<◌, cond, List, [], ◌∷◌, length, Some, None, Option, MatchOption, ◌≢◌, nat_eq, slice_index_or, refl}
use Rattle.std.specs.List.{HoldsAt}
use Rattle.std.proofs.Common.{sym, ap, ◌∙◌, Bool, arith}
use Rattle.std.proofs.lemmas.Bool.{ne_eqb}
use Rattle.std.proofs.lemmas.List.Sums.{sum_by-cons}
use Rattle.packed_shelf.specs.declared.row.Row.{Row}
use Rattle.packed_shelf.specs.Rows.{bearing, number_at, Placed}

-- the number of the row at i
number_is_at : (rows : List Row) (i : ℕ) (d : Row) → i < length rows → number_at rows i ≡ (slice_index_or rows i d).number
number_is_at [] i d lt = absurd (omega arith)
number_is_at (r ∷ rs) zero d lt = refl
number_is_at (r ∷ rs) (suc i) d lt = number_is_at rs i d (omega arith)

-- the number of a row that was read
pub number_read : (rows : List Row) (i : ℕ) (r : Row) → i < length rows → r ≡ slice_index_or rows i r → number_at rows i ≡ r.number
number_read rows i r lt is = number_is_at rows i r lt ∙ ap (λ (x : Row). x.number) (sym is)

none_bearing : (k : ℕ) (rows : List Row) → ((p : ℕ) (d : Row) → p < length rows → (slice_index_or rows p d).number ≢ k) → bearing k rows ≡ 0
none_bearing k [] h = refl
none_bearing k (r ∷ rs) h =
    let e = sum_by-cons (λ (x : Row). cond (nat_eq x.number k) 1 0) r rs in
    let f : cond {A = ℕ} (nat_eq r.number k) 1 0 ≡ 0 = ap (λ (b : Bool). cond {A = ℕ} b 1 0) (ne_eqb r.number k (h zero r (omega arith))) in
    let g = none_bearing k rs (λ p d lt. h (suc p) d (omega arith)) in
    e ∙ omega arith

-- what a search for the first row with number k answers
pub placed_first : (k : ℕ) (rows : List Row) (o : Option ℕ)
    → MatchOption o ((p : ℕ) (d : Row) → p < length rows → (slice_index_or rows p d).number ≢ k) (λ p. (p < length rows) × HoldsAt (λ r. r.number ≡ k) rows p)
    → MatchOption o (bearing k rows ≡ 0) (λ p. Placed rows k p)
placed_first k rows None none = none_bearing k rows none
placed_first k [] (Some p) (lt, here) = absurd (omega arith)
placed_first k (r ∷ rs) (Some p) (lt, here) = record { within = lt; number = number_is_at (r ∷ rs) p r lt ∙ here r }
