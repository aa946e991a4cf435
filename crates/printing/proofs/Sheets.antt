-- Writing onto a sheet, piece by piece.
use Rattle.std.proofs.Common.{◌≡◌, ℕ, zero, suc, ◌+◌, ◌-◌, ◌<◌, ◌≤◌, List, [], ◌∷◌, ◌++◌, length, take, drop, set, sym, ap, ◌∙◌, arith, rules}
use borrow.Rule.Slice.PartMut.{put_mid}
use Rattle.std.proofs.lemmas.List.{places, same_lists, get_or-set_same}
use Rattle.std.proofs.lemmas.Bool.{cases_eq}
use Rattle.rules.specs.Lines.{picked, from_to}
use Rattle.printing.specs.Sheets.{written}

-- a sheet keeps its length
pub length-written : (s : List ℕ) (at : ℕ) (out : List ℕ) → at + length out ≤ length s → length (written s at out) ≡ length s
length-written s at out h = search (rules, places)

-- writing a, and b behind it, is writing both
pub written_more : (s : List ℕ) (at : ℕ) (a b : List ℕ) → at + length a + length b ≤ length s
    → written (written s at a) (at + length a) b ≡ written s at (a ++ b)
written_more s at a b h = same_lists _ _ (search (rules, places)) (λ k d within. grind (arith, places))

-- nothing written
pub written_none : (s : List ℕ) (at : ℕ) → at ≤ length s → s ≡ written s at []
written_none s at h = same_lists _ _ (search (rules, places)) (λ k d within. grind (arith, places))

pub written_one : (s : List ℕ) (at b : ℕ) → at < length s → set s at b ≡ written s at (b ∷ [])
written_one s at b h = same_lists _ _ (search (rules, places)) (λ k d within. grind (arith, places, get_or-set_same, cases_eq k at))

pub picked_is : {L : Type 0} (ls : List L) (n : ℕ) → 1 ≤ n → n ≤ length ls → picked ls n ≡ from_to n n ls
picked_is ls zero one h = absurd (omega arith)
picked_is ls (suc n) one h =
    let size : suc (suc n) - suc n ≡ 1 = omega arith in
    let from : suc n - 1 ≡ n = omega arith in
    rw (size, from)

-- a part of a sheet replaced by bytes, as a write to `sheet[at..]` leaves it
pub put_written : (s : List ℕ) (at n : ℕ) (out : List ℕ) → n ≡ length out → at + length out ≤ length s → put_mid at n s out ≡ written s at out
put_written s at n out e h = same_lists _ _ (search (rules, places)) (λ k d within. grind (arith, places))

-- bytes copied to the start of what is left of a sheet
put-copied : (s : List ℕ) (at n : ℕ) (t : List ℕ) → n ≡ length s - at → at + length t ≤ length s
    → put_mid at n s (t ++ drop (length t) (take n (drop at s))) ≡ written s at t
put-copied s at n t e h = same_lists _ _ (search (rules, places)) (λ k d within. grind (arith, places))

-- and a byte set behind them
pub copied-line : (s : List ℕ) (at n size : ℕ) (t b : List ℕ) (e : ℕ) → n ≡ length s - at → size ≡ length t → at + (length t + 1) ≤ length s
    → b ≡ t ++ drop (length t) (take n (drop at s)) → set (put_mid at n s b) (at + size) e ≡ written s at (t ++ (e ∷ []))
copied-line s at n size t b e en es h eb =
    let room : at + length t ≤ length s = omega arith in
    let whole : length (written s at t) ≡ length s = length-written s at t room in
    ap (λ x. set (put_mid at n s x) (at + size) e) eb
    ∙ ap (λ x. set x (at + size) e) (put-copied s at n t en room)
    ∙ ap (λ m. set (written s at t) (at + m) e) es
    ∙ written_one (written s at t) (at + length t) e (omega arith)
    ∙ written_more s at t (e ∷ []) (omega arith)

-- a walk that writes piece by piece: with the first piece written, the rest is to be written behind it
pub written_first : (s next : List ℕ) (at place : ℕ) (a b whole : List ℕ) → next ≡ written s at a → place ≡ at + length a
    → at + length a + length b ≤ length s → whole ≡ a ++ b → written next place b ≡ written s at whole
written_first s next at place a b whole en ep h ew =
    ap (λ x. written x place b) en
    ∙ ap (λ p. written (written s at a) p b) ep
    ∙ written_more s at a b h
    ∙ ap (written s at) (sym ew)
