-- Reading a file in chunks, and putting its lines into a text one by one.
use Rattle.std.proofs.Common.{◌≡◌, ℕ, suc, ◌+◌, ◌-◌, ◌<◌, ◌≤◌, true, List, [], ◌∷◌, ◌++◌, map, length, take, drop, sym, ap, ◌∙◌, arith}
use Rattle.std.proofs.lemmas.List.{append_assoc, length_push, length-map, length-drop, take-take, take_all, drop_all, drop-drop, take-append-drop, map_push}
use Rattle.std.proofs.lemmas.List.Sums.{get_or-le-sum_by}
use Rattle.std.proofs.lemmas.Bool.{ltb-true}
use Rattle.lines.specs.Line as stored
use Rattle.lines.specs.Store.{Store, inserted}
use Rattle.shelf.specs.Shelf.{File, Shelf, Sound, no_file, present}
use Rattle.lines.specs.Line.{all_fit}
use Rattle.rules.specs.Files.{split}
use Rattle.rules.specs.Lines.{Line, seen, seen_lines, created}
use Rattle.editing.specs.Shapes.{with_line}
use Rattle.filing.specs.declared.count.Count.{Count}
use Rattle.filing.specs.Contents.{file_in}
use Rattle.filing.specs.Counting.{counted, uncounted, line_length, first_line}
use Rattle.filing.proofs.Splitting.{counted-bounds, counted_more, split_first, first-within, first_in_front, first_fits}

-- a file is no longer than a shelf may be
pub file-bounded : (s : Shelf) (i : ℕ) → Sound s → present s i ≡ true → length (file_in s i) ≤ 1048576
file-bounded s i sound here =
    let one = get_or-le-sum_by (λ (f : File). length f.contents) s.files i no_file (ltb-true i (length s.files) here) in
    omega arith

-- so it has no more lines than that
pub ended-bounded : (s : Shelf) (i : ℕ) (c : Count) → Sound s → present s i ≡ true → c ≡ counted uncounted (file_in s i) → c.ended ≤ 1048576
ended-bounded s i c sound here is =
    let bound = file-bounded s i sound here in
    let ended = ap (λ (x : Count). x.ended) is in
    omega (arith, counted-bounds uncounted (file_in s i))

-- a chunk counted, and then what stands behind it
pub counted_chunk : (c : Count) (p : ℕ) (bs : List ℕ) → counted (counted c (take 256 (drop p bs))) (drop (p + 256) bs) ≡ counted c (drop p bs)
counted_chunk c p bs =
    ap (counted (counted c (take 256 (drop p bs)))) (sym (drop-drop 256 p bs))
    ∙ (sym (counted_more c (take 256 (drop p bs)) (drop 256 (drop p bs))) ∙ ap (counted c) (take-append-drop 256 (drop p bs)))

-- a line found at the start of a chunk
pub record LineRead (bs chunk : List ℕ) (len : ℕ) : Type 0 where
  pub is : len ≡ line_length bs
  pub within : len ≤ length chunk
  pub bytes : take (len - 0) chunk ≡ first_line bs

pub line_read : (bs chunk : List ℕ) (len : ℕ) → line_length bs ≤ 255 → chunk ≡ take 256 bs → len ≡ line_length chunk → LineRead bs chunk len
line_read bs chunk len short same found =
    let front = first_in_front 256 bs (omega arith) in
    let is : len ≡ line_length bs = found ∙ (ap line_length same ∙ front) in
    let inside = first-within (take 256 bs) in
    let long = ap length same in
    let again = ap line_length same in
    let within : len ≤ length chunk = omega arith in
    let none : len - 0 ≡ len = omega arith in
    let below : len ≤ 256 = omega arith in
    record {
      is = is;
      within = within;
      bytes = ap (λ n. take n chunk) none ∙ (ap (take len) same ∙ (take-take len 256 bs below ∙ ap (λ n. take n bs) is));
    }

-- a line put behind the last
pub put_last : (s e : Store) (n : ℕ) (t u : List ℕ) → n ≡ length s.lines → e ≡ with_line s n (record { text = t; tag = 0 }) → t ≡ u
    → seen_lines e ≡ seen_lines s ++ (created u ∷ [])
put_last s e n t u last is same =
    let l : stored.Line = record { text = t; tag = 0 } in
    let front = take_all n s.lines (omega arith) in
    let behind = drop_all n s.lines (omega arith) in
    let joined : inserted s.lines n l ≡ s.lines ++ (l ∷ []) = rw (front, behind) in
    ap seen_lines is ∙ (ap (map seen) joined ∙ (map_push seen s.lines l ∙ ap (λ (x : List ℕ). seen_lines s ++ (created x ∷ [])) same))

-- a text with the lines behind a place of a file is all these lines, and there is room for them
pub record Loaded (all : List Line) (s : Store) (p : ℕ) (bs : List ℕ) : Type 0 where
  pub lines : seen_lines s ++ map created (split (drop p bs)) ≡ all
  pub fits : all_fit (split (drop p bs)) ≡ true
  pub room : length s.lines + length (split (drop p bs)) ≤ s.capacity

pub loaded_more : (all : List Line) (s e : Store) (p q : ℕ) (bs : List ℕ) → p < length bs → q ≡ p + line_length (drop p bs) + 1
    → seen_lines e ≡ seen_lines s ++ (created (first_line (drop p bs)) ∷ []) → e.capacity ≡ s.capacity → Loaded all s p bs → Loaded all e q bs
loaded_more all s e p q bs inside next is same was =
    let rest = drop p bs in
    let some : 1 ≤ length rest = rw (length-drop p bs) (omega arith) in
    let first = first_line rest in
    let n : p + suc (line_length rest) ≡ q = omega arith in
    let behind : drop (suc (line_length rest)) rest ≡ drop q bs = drop-drop (suc (line_length rest)) p bs ∙ ap (λ m. drop m bs) n in
    let cut : split rest ≡ first ∷ split (drop q bs) = split_first rest some ∙ ap (λ (x : List ℕ). first ∷ split x) behind in
    let count = ap length cut in
    let more = ap length is in
    let held = length-map s.lines seen in
    let holds = length-map e.lines seen in
    let pushed = length_push (seen_lines s) (created first) in
    record {
      lines = ap (λ (ls : List Line). ls ++ map created (split (drop q bs))) is
          ∙ (append_assoc (seen_lines s) (created first ∷ []) (map created (split (drop q bs)))
          ∙ (ap (λ (ts : List (List ℕ)). seen_lines s ++ map created ts) (sym cut) ∙ was.lines));
      fits = ap (λ (x : List ℕ). all_fit (split x)) (sym behind) ∙ (first_fits rest some was.fits).rest;
      room = omega arith;
    }
