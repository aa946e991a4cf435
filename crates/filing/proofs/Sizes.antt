-- How long the lines of a store can be as a file.
use Rattle.std.proofs.Common.{Option, None, Some, ℕ, zero, suc, ◌-◌, ◌*◌, ◌≤◌, List, [], ◌∷◌, ◌++◌, map, length, get_or, take, drop, arith}
use Rattle.std.proofs.lemmas.List.{length-append, length_push}
use Rattle.ranges.specs.declared.range.Range.{Range}
use Rattle.filing.specs.Contents.{contents_from}
use Rattle.lines.specs.Line as stored
use Rattle.lines.specs.Store.{Store, Sound}
use Rattle.lines.proofs.Fitting.{each_at}
use Rattle.rules.specs.Lines.{Line, seen, seen_lines, from_to}
use Rattle.rules.specs.Printing.{printed}

printed-take : (n : ℕ) (ls : List Line) → length (printed (take n ls)) ≤ length (printed ls)
printed-take zero ls = omega arith
printed-take (suc n) [] = omega arith
printed-take (suc n) (l ∷ ls) =
    let more = printed-take n ls in
    omega (arith, length-append (l.text ++ (10 ∷ [])) (printed (take n ls)), length-append (l.text ++ (10 ∷ [])) (printed ls))

printed-drop : (n : ℕ) (ls : List Line) → length (printed (drop n ls)) ≤ length (printed ls)
printed-drop zero ls = omega arith
printed-drop (suc n) [] = omega arith
printed-drop (suc n) (l ∷ ls) =
    let more = printed-drop n ls in
    omega (arith, length-append (l.text ++ (10 ∷ [])) (printed ls))

printed_all : (ls : List stored.Line) → ((k : ℕ) → length (get_or ls k stored.blank).text ≤ 255) → length (printed (map seen ls)) ≤ 256 * length ls
printed_all [] h = omega arith
printed_all (l ∷ ls) h =
    let first : length l.text ≤ 255 = h 0 in
    let more = printed_all ls (λ k. h (suc k)) in
    omega (arith, length-append (l.text ++ (10 ∷ [])) (printed (map seen ls)), length_push l.text 10)

-- 4,096 lines of 256 bytes at most
pub printed-bounded : (s : Store) (f l : ℕ) → Sound s → length (printed (from_to f l (seen_lines s))) ≤ 1048576
printed-bounded s f l sound =
    let cut = printed-take (suc l - f) (drop (f - 1) (seen_lines s)) in
    let rest = printed-drop (f - 1) (seen_lines s) in
    let all = printed_all s.lines (λ k. (each_at s.lines sound.each k).0) in
    omega arith

pub contents-bounded : (r : Option Range) (s : Store) → Sound s → length (contents_from r s) ≤ 1048576
contents-bounded None s sound = printed-bounded s 1 0 sound
contents-bounded (Some x) s sound = printed-bounded s x.first x.last sound
