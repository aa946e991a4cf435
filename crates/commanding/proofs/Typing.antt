-- A line typed in: the lines that the text has then, and what text mode makes of it.
use Rattle.std.proofs.Common.{◌≡◌, ℕ, suc, Bool, true, false, not, ltb, List, [], ◌∷◌, ◌++◌, map, length, take, drop, sym, refl, ap, ◌∙◌}
use mathlib.Core.List.{map-append}
use Rattle.std.proofs.lemmas.List.{take-map, drop-map}
use Rattle.std.specs.Str.{bytes_eq}
use Rattle.lines.specs.Line as stored
use Rattle.lines.specs.Store.{Store, inserted}
use Rattle.editing.specs.Shapes.{with_line}
use Rattle.editing.proofs.Placing.{placed-append, placed_front, placed_back}
use Rattle.rules.specs.Commands.{putting, accepted}
use Rattle.rules.specs.Doing.{kept_if}
use Rattle.rules.specs.Giving.{typed, typed_in}
use Rattle.rules.specs.Lines.{Page, page, seen, seen_lines, created, unchosen}
use Rattle.rules.specs.Pieces.{new, stay, placed}
use Rattle.rules.specs.World.{World, Mode, typing, with_mode, with_text, with_unsaved}

placed_typed : {L : Type 0} (make : List ℕ → L) (ls : List L) (n : ℕ) (t : List ℕ)
    → placed make ls (stay 1 n ++ (new t ∷ stay (suc n) (length ls))) ≡ take n ls ++ (make t ∷ drop n ls)
placed_typed make ls n t = rw (placed-append make ls (stay 1 n) (new t ∷ stay (suc n) (length ls)), placed_front make ls n, placed_back make ls n (length ls) refl)

map-inserted : (ls : List stored.Line) (n : ℕ) (l : stored.Line) → map seen (inserted ls n l) ≡ take n (map seen ls) ++ (seen l ∷ drop n (map seen ls))
map-inserted ls n l = rw (map-append seen (take n ls) (l ∷ drop n ls), take-map seen n ls, drop-map seen n ls)

-- a line with tag 0 put in behind line n
pub typed-lines : (s : Store) (n : ℕ) (t : List ℕ) → seen_lines (with_line s n (record { text = t; tag = 0 })) ≡ (typed_in (page (seen_lines s) n) t).lines
typed-lines s n t = map-inserted s.lines n (record { text = t; tag = 0 }) ∙ sym (placed_typed created (seen_lines s) n t)

-- the keep is filled before or after
kept_typed : (b : Bool) (g p : Page) (m : Mode) (w : World)
    → with_mode m (with_unsaved true (with_text p (kept_if b g w))) ≡ kept_if b g (with_mode m (with_unsaved true (with_text p w)))
kept_typed true g p m w = refl
kept_typed false g p m w = refl

module _ (w : World) (before : ℕ) (any : Bool) (line : List ℕ) (text : bytes_eq line (46 ∷ []) ≡ false) where
  pub typed_put : ltb (length w.text.lines) w.capacity ≡ true
      → typed w before any line ≡ accepted putting (with_mode (typing before true) (with_unsaved true (with_text (typed_in w.text line) (kept_if (not any) (page (unchosen w.text.lines) before) w)))) []
  typed_put h =
      let put : typed w before any line ≡ accepted putting (kept_if (not any) (page (unchosen w.text.lines) before) (with_mode (typing before true) (with_unsaved true (with_text (typed_in w.text line) w)))) [] = cc (text, h) in
      put ∙ ap (λ (v : World). accepted putting v []) (sym (kept_typed (not any) (page (unchosen w.text.lines) before) (typed_in w.text line) (typing before true) w))
