-- What a store keeps and means after each change, at its fields as the code leaves them.
use Rattle.std.proofs.Common.{◌≡◌, ℕ, ◌+◌, ◌-◌, ◌<◌, ◌≤◌, List, ◌∷◌, ◌++◌, length, get_or, take, drop, set, vec_items, sym, refl, ap, ◌∙◌, subst, arith}
use Rattle.std.proofs.lemmas.List.{length-set, map-set, get_or_read}
use Rattle.std.proofs.lemmas.Bool.Decides.{nat_tests}
use Rattle.lines.specs.Line.{Line}
use Rattle.lines.specs.Store.{Store, line_at, with_lines}
use Rattle.chain_store.specs.declared.slot.Slot.{Slot}
use Rattle.chain_store.specs.declared.store.ChainStore.{ChainStore}
use Rattle.chain_store.specs.Chain.{chain, relinked}
use Rattle.chain_store.specs.Lines.{lines_along}
use Rattle.chain_store.specs.Meaning.{meaning_of, Found}
use Rattle.chain_store.specs.Slot.{line_of, held}
use Rattle.chain_store.specs.Along.{put-within, put-lines, remove-lines, line_set}
use Rattle.chain_store.specs.Fields.{length_held, held_at, keeps, count_is}
use Rattle.chain_store.specs.Kept.{Kept}
use Rattle.chain_store.specs.Numbers.{put_kept, remove_kept}

-- the fields ns, slots and count keep what a store keeps, and mean the lines ls in a store of capacity cap
pub record Now (ns : List ℕ) (slots : List Slot) (count cap : ℕ) (ls : List Line) : Type 0 where
  pub kept : Kept ns (length slots) count
  pub same : length slots ≡ cap
  pub means : lines_along ns (held slots) count ≡ ls

module _ (s : ChainStore) where
  abbrev links : List ℕ
  links = vec_items s.links

  abbrev slots : List Slot
  slots = vec_items s.slots

  -- a line is put behind line n, whose number is q, into the slot of the first free number, x
  module _ (n q x : ℕ) (place : n ≤ length (meaning_of s).lines) (room : length (meaning_of s).lines < length slots) (to : q ≡ get_or (chain links) n 0) (read : x ≡ get_or links 1 x) where
    hn : n ≤ s.count
    hn = let e = count_is s in omega arith

    free : s.count < length slots
    free = let e = count_is s in omega arith

    first : x ≡ get_or links 1 0
    first = let l = s.long in get_or_read links 1 x (omega arith) read 0

    pub put-slot : (2 ≤ x) × (x - 2 < length slots)
    put-slot =
        let w = put-within (keeps s) (held slots) (length_held slots) n q hn free (sym to) in
        let e = first in
        (omega arith, omega arith)

    pub put_now : (ns : List ℕ) (new : Slot) → ns ≡ relinked links 1 q
        → Now ns (set slots (x - 2) new) (s.count + 1) (length slots) (take n (meaning_of s).lines ++ line_of new ∷ drop n (meaning_of s).lines)
    put_now ns new is =
        let l = length-set slots (x - 2) new in
        let k : Kept (relinked links 1 q) (length (set slots (x - 2) new)) (s.count + 1) =
        subst (λ (cap : ℕ). Kept (relinked links 1 q) cap (s.count + 1)) (sym l) (put_kept (keeps s) n q hn free (sym to))
        in
        let h : held (set slots (x - 2) new) ≡ set (held slots) (get_or links 1 0 - 2) (line_of new) =
        map-set line_of slots (x - 2) new ∙ ap (λ (y : ℕ). set (held slots) (y - 2) (line_of new)) first
        in
        record {
          kept = subst (λ (xs : List ℕ). Kept xs (length (set slots (x - 2) new)) (s.count + 1)) (sym is) k;
          same = l;
          means = ap (λ (xs : List ℕ). lines_along xs (held (set slots (x - 2) new)) (s.count + 1)) is
              ∙ ap (λ (ls : List Line). lines_along (relinked links 1 q) ls (s.count + 1)) h
              ∙ put-lines (keeps s) (held slots) (length_held slots) n q hn free (sym to) (line_of new);
        }

  -- line n, whose number follows p, is removed
  pub remove_now : (n p : ℕ) → 1 ≤ n → n ≤ length (meaning_of s).lines → p ≡ get_or (chain links) (n - 1) 0 → (ns : List ℕ) → ns ≡ relinked links p 1
      → Now ns slots (s.count - 1) (length slots) (take (n - 1) (meaning_of s).lines ++ drop n (meaning_of s).lines)
  remove_now n p one last from ns is =
      let e = count_is s in
      let hn : n ≤ s.count = omega arith in
      record {
        kept = subst (λ (xs : List ℕ). Kept xs (length slots) (s.count - 1)) (sym is) (remove_kept (keeps s) n p one hn (sym from));
        same = refl;
        means = ap (λ (xs : List ℕ). lines_along xs (held slots) (s.count - 1)) is ∙ remove-lines (keeps s) (held slots) n p one hn (sym from);
      }

  -- slot i, of line n, is written
  module _ (n i : ℕ) (f : Found s n i) (old new : Slot) (read : old ≡ get_or slots i old) where
    bounds : (1 ≤ n) × (n ≤ s.count)
    bounds = let e = count_is s in let t = f.there in (grind (arith, nat_tests), grind (arith, nat_tests))

    pub tag_means : (g : ℕ) → line_of new ≡ record { text = (line_of old).text; tag = g }
        → lines_along links (held (set slots i new)) s.count ≡ set (meaning_of s).lines (n - 1) (record { text = (line_at (meaning_of s) n).text; tag = g })
    tag_means g e =
        let was : line_of old ≡ line_at (meaning_of s) n = sym (held_at slots i old f.inside read) ∙ sym f.line in
        ap (λ (ls : List Line). lines_along links ls s.count) (map-set line_of slots i new ∙ ap (λ (j : ℕ). set (held slots) j (line_of new)) f.here)
        ∙ line_set (keeps s) (held slots) (length_held slots) n bounds.0 bounds.1 (line_of new)
        ∙ ap (λ (l : Line). set (meaning_of s).lines (n - 1) l) (e ∙ ap (λ (l : Line). record { text = l.text; tag = g }) was)

    -- the store with the slot written
    pub tag_store : (g : ℕ) → line_of new ≡ record { text = (line_of old).text; tag = g }
        → record { lines = lines_along links (held (set slots i new)) s.count; capacity = length (set slots i new) }
        ≡ with_lines (meaning_of s) (set (meaning_of s).lines (n - 1) (record { text = (line_at (meaning_of s) n).text; tag = g }))
    tag_store g e =
        ap (λ (ls : List Line). let t : Store = record { lines = ls; capacity = length (set slots i new) } in t) (tag_means g e)
        ∙ ap (λ (m : ℕ). let t : Store = record { lines = set (meaning_of s).lines (n - 1) (record { text = (line_at (meaning_of s) n).text; tag = g }); capacity = m } in t) (length-set slots i new)
