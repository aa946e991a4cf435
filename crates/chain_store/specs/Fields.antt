-- A store's fields: what they keep, what is found by them, and that every line of them is a proper one.
use Rattle.std.specs.Prelude.{◌≡◌, ℕ, zero, suc, ◌-◌, ◌<◌, ◌≤◌, List, [], ◌∷◌, map, length, get_or, vec_items, slice_index, slice_index_or, refl}
use Rattle.std.proofs.Common.{sym, ap, ◌∙◌, arith, rules}
use Rattle.std.proofs.lemmas.List.{length-map, length-take, get_or-map}
use Rattle.std.proofs.lemmas.Bool.Decides.{nat_tests}
use Rattle.lines.specs.Line.{Line, LineFits, blank}
use Rattle.lines.specs.Store.{Sound}
use Rattle.chain_store.specs.declared.slot.Slot.{Slot}
use Rattle.chain_store.specs.declared.store.ChainStore.{ChainStore}
use Rattle.chain_store.specs.Chain.{chain}
use Rattle.chain_store.specs.Lines.{line_in, line_numbers}
use Rattle.chain_store.specs.Meaning.{meaning_of, Found}
use Rattle.chain_store.specs.Slot.{line_of, held}
use Rattle.chain_store.specs.Along.{length-lines, slot-within, line_in_lem}
use Rattle.chain_store.specs.Kept.{Kept}

pub length_held : (slots : List Slot) → length (held slots) ≡ length slots
length_held slots = length-map slots line_of

pub held_at : (slots : List Slot) (i : ℕ) (s : Slot) → i < length slots → s ≡ slice_index_or slots i s → slice_index_or (held slots) i blank ≡ line_of s
held_at slots i s h read = get_or-map line_of slots i s blank h ∙ ap line_of (sym read)

slot_fits : (s : Slot) → LineFits (line_of s)
slot_fits s = let f = s.full in let t = length-take s.len s.bytes in (omega arith, s.unbroken, s.defined)

map_fits : {X : Type 0} (f : X → Line) → ((x : X) → LineFits (f x)) → (xs : List X) (k : ℕ) → LineFits (slice_index_or (map f xs) k blank)
map_fits f h [] k = (search rules, refl, search rules)
map_fits f h (x ∷ xs) zero = h x
map_fits f h (x ∷ xs) (suc k) = map_fits f h xs k

module _ (s : ChainStore) where
  abbrev links : List ℕ
  links = vec_items s.links

  abbrev slots : List Slot
  slots = vec_items s.slots

  pub keeps : Kept links (length slots) s.count
  keeps = record { some = s.some; bounded = s.bounded; long = s.long; room = s.room; within = s.within; apart = s.apart; parted = s.parted }

  pub count_is : length (meaning_of s).lines ≡ s.count
  count_is = length-lines keeps (held slots) (length_held slots)

  pub sound : Sound (meaning_of s)
  sound =
      let e = count_is in
      let r = s.room in
      record {
        some = s.some;
        bounded = s.bounded;
        room = omega arith;
        each = λ n. map_fits (line_in (held slots)) (λ x. map_fits line_of slot_fits slots (x - 2)) (line_numbers links s.count) (n - 1);
      }

  -- line n, whose number is x
  module _ (n x : ℕ) (one : 1 ≤ n) (last : n ≤ length (meaning_of s).lines) (is : x ≡ slice_index (chain links) n) where
    hn : n ≤ s.count
    hn = let e = count_is in omega arith

    pub number_of-slot : 2 ≤ x
    number_of-slot = let w = slot-within keeps (held slots) (length_held slots) n one hn in omega arith

    pub found : Found s n (x - 2)
    found =
        let e = count_is in
        let w = slot-within keeps (held slots) (length_held slots) n one hn in
        record {
          there = grind (arith, nat_tests);
          here = ap (λ (y : ℕ). y - 2) is;
          inside = omega arith;
          line = line_in_lem keeps (held slots) (length_held slots) n one hn ∙ ap (λ (y : ℕ). get_or (held slots) (y - 2) blank) (sym is);
        }
