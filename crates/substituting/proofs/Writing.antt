-- A line that is being spelled out.
use Rattle.std.proofs.Common.{◌≡◌, ℕ, ◌<◌, ◌≤◌, Bool, true, false, leb, cond, List, [], ◌∷◌, ◌++◌, length, Some, None, Option, IfSome, sym, refl, ap, ◌∙◌, subst, arith}
use Rattle.std.proofs.lemmas.List.{length-append}
use Rattle.std.proofs.lemmas.Bool.{le-leb, lt-leb, leb-false}
use Rattle.arrayvec.specs.ArrayVec.{ArrayVec}
use Rattle.matching.specs.declared.answer.Match.{Match}
use Rattle.command.specs.Replacements.{Bit, the_match, the_byte, the_break, bits_of}
use Rattle.command.specs.Said.{Substitution}
use Rattle.rules.specs.Patterns.{matches_from, in_front, filled, replaced}
use Rattle.substituting.specs.declared.cursor.Cursor.{Cursor}
use Rattle.substituting.specs.declared.cursor.Step.{Step}
use Rattle.substituting.specs.Places.{Placed}
use Rattle.substituting.specs.Spelling.{line_of, lengthened, lines_from, lines_left, ahead, Stepped}
use Rattle.substituting.proofs.Through.{front_front, front-replaced, left_is}

-- bytes added to a line

pub line_long : (w : List ℕ) → 255 < length w → line_of w ≡ None
line_long w h = ap (λ b. cond b (Some (record { items = w })) None) (lt-leb (length w) 255 h)

pub line_short : (w : List ℕ) → length w ≤ 255 → line_of w ≡ Some (record { items = w })
line_short w h = ap (λ b. cond b (Some (record { items = w })) None) (le-leb (length w) 255 h)

lengthened-line : (w a : List ℕ) → lengthened (line_of w) a ≡ line_of (w ++ a)
lengthened-line w a = by (leb (length w) 255) refl
  where
    by : (b : Bool) → leb (length w) 255 ≡ b → lengthened (cond b (Some (record { items = w })) None) a ≡ line_of (w ++ a)
    by true h = refl
    by false h =
        let long : 255 < length w = leb-false (length w) 255 h in
        sym (line_long (w ++ a) (omega (arith, length-append w a)))

-- the lines that are left, with nothing in front

front-filled : (bits : List Bit) (m : List ℕ) (r : List Bit) (t : List ℕ) (at : ℕ) (ms : List Match)
    → in_front [] (filled bits m (replaced r t at ms)) ≡ filled bits m (replaced r t at ms)
front-filled [] m r t at ms = front-replaced r t at ms
front-filled (the_match ∷ bits) m r t at ms = front_front [] m _
front-filled (the_byte b ∷ bits) m r t at ms = front_front [] (b ∷ []) _
front-filled (the_break ∷ bits) m r t at ms = refl

pub front_left : (s : Substitution) (t : List ℕ) (c : Cursor) → in_front [] (lines_from s t c) ≡ lines_from s t c
front_left s t c =
    let e = left_is s t c in
    ap (λ ls. in_front [] ls) e
    ∙ front-filled (bits_of c.bits.now) c.run.now (bits_of s.replacement) t c.at (matches_from c.searches s.sought t c.from c.last)
    ∙ sym e

-- the line up to a place: with it in front, what is left there is what was left at the line's start
pub record Partly (s : Substitution) (t : List ℕ) (start c : Cursor) (out : Option (ArrayVec ℕ)) : Type 0 where
  pub line : List ℕ
  pub lines : in_front line (lines_from s t c) ≡ lines_from s t start
  pub written : out ≡ line_of line
  pub placed : Placed (length t) c

module _ (s : Substitution) (t : List ℕ) (start : Cursor) where
  -- with nothing of it spelled out
  pub emptied : (out : Option (ArrayVec ℕ)) → out ≡ line_of [] → Placed (length t) start → Partly s t start start out
  emptied out e placed = record { line = []; lines = front_left s t start; written = e; placed = placed }

  pub begun : (v : ArrayVec ℕ) → v.items ≡ [] → Placed (length t) start → Partly s t start start (Some v)
  begun v e placed = emptied (Some v) (ap (λ (xs : List ℕ). Some (record { items = xs })) e) placed

  module _ (c : Cursor) (out : Option (ArrayVec ℕ)) (r : Step) (p : Partly s t start c out) (q : Stepped s t c r) where
    -- the lines from the start on, by a token's bytes
    added : (a : List ℕ) → ((ls : List (List ℕ)) → ahead r.token ls ≡ in_front a ls)
        → in_front (p.line ++ a) (lines_left s t r.next) ≡ lines_from s t start
    added a adds =
        sym (front_front p.line a (lines_left s t r.next))
        ∙ ap (λ ls. in_front p.line ls) (sym (q.lines ∙ adds (lines_left s t r.next)))
        ∙ p.lines

    longer : (o : Option (ArrayVec ℕ)) (a : List ℕ) → o ≡ lengthened out a → o ≡ line_of (p.line ++ a)
    longer o a e = e ∙ ap (λ (x : Option (ArrayVec ℕ)). lengthened x a) p.written ∙ lengthened-line p.line a

    -- a token that adds some bytes
    pub continued : (n : Cursor) (o : Option (ArrayVec ℕ)) (a : List ℕ) → ((ls : List (List ℕ)) → ahead r.token ls ≡ in_front a ls)
        → r.next ≡ Some n → o ≡ lengthened out a → Partly s t start n o
    continued n o a adds next e = record {
      line = p.line ++ a;
      lines = ap (λ (k : Option Cursor). in_front (p.line ++ a) (lines_left s t k)) (sym next) ∙ added a adds;
      written = longer o a e;
      placed = subst (λ (k : Option Cursor). IfSome k (Placed (length t))) next q.placed;
    }
