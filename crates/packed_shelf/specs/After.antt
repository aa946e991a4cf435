-- The three changes of a packed shelf: what it means afterwards, how much it then holds, and that it keeps what it kept.
use Rattle.std.specs.Prelude.{◌≡◌, ℕ, ◌+◌, ◌<◌, ◌≤◌, true, false, List, [], ◌∷◌, ◌++◌, length, take, drop, slice_index_or, slice_set, refl}
use Rattle.std.proofs.Common.{sym, ap, ◌∙◌, subst, arith, rules}
use Rattle.std.proofs.lemmas.List.{places, length_push}
use Rattle.std.proofs.lemmas.List.Sums.{sum_by-set, sum_by_push}
use Rattle.shelf.specs.Name.{is_name}
use Rattle.shelf.specs.Shelf.{File, Named, Apart, no_file, empty_file, with_files, name_at, contents_at, held, added}
use Rattle.shelf.specs.Text.{text_of}
use Rattle.shelf.proofs.Lookup.{Missing}
use Rattle.shelf.proofs.Names.{named_set, apart-set, named_push, apart_push}
use Rattle.packed_shelf.specs.declared.row.Row.{Row}
use Rattle.packed_shelf.specs.Clearing.{old_emptied, new_made}
use Rattle.packed_shelf.specs.Moves.{start_at, rows_emptied, bytes_emptied, rows_lengthened, bytes_lengthened}
use Rattle.packed_shelf.specs.Packed.{files_of, packed}
use Rattle.packed_shelf.specs.Rows.{total, Placed}
use Rattle.packed_shelf.specs.Kept.{Kept, held_is, number_is, found-file, found-size}
use Rattle.packed_shelf.specs.Moved.{end_is, behind_is}
use Rattle.packed_shelf.specs.Shelved.{files-length, number-below, emptied-long, lengthened_long, emptied-numbered, lengthened_numbered, emptied-total, lengthened_total, emptied-files, lengthened_files, made-numbered, made-total, made-files}

-- a packed shelf is its files and its capacity
packed_is : (rows rows' : List Row) (bytes bytes' : List ℕ) (fs : List File) → files_of rows' bytes' ≡ fs → length bytes' ≡ length bytes
    → packed rows' bytes' ≡ with_files (packed rows bytes) fs
packed_is rows rows' bytes bytes' fs e l =
    ap (λ (gs : List File). record { files = gs; capacity = length bytes'; protects = λ (n : List ℕ). false }) e
    ∙ ap (λ (n : ℕ). record { files = fs; capacity = n; protects = λ (n : List ℕ). false }) l

module _ (rows : List Row) (bytes : List ℕ) (kept : Kept rows bytes) (k p : ℕ) (placed : Placed rows k p) (r : Row) (is : r ≡ slice_index_or rows p r) where
  lt : p < length rows
  lt = placed.within

  name_is : text_of r.name ≡ name_at (files_of rows bytes) k
  name_is = sym (ap (λ (f : File). f.name) (found-file rows bytes kept k p placed r is))

  below : k < length (files_of rows bytes)
  below =
      let n = number_is rows bytes kept k p placed r is in
      let b = number-below rows kept.numbered p r lt is in
      let l = files-length rows bytes in
      omega arith

  -- emptied
  old-files : files_of (rows_emptied rows p) (bytes_emptied rows p bytes) ≡ old_emptied (packed rows bytes) k
  old-files =
      emptied-files rows kept.numbered p r lt is bytes kept.within
      ∙ (ap (λ (j : ℕ). slice_set (files_of rows bytes) j (empty_file (text_of r.name))) (number_is rows bytes kept k p placed r is)
      ∙ ap (λ (n : List ℕ). slice_set (files_of rows bytes) k (empty_file n)) name_is)

  pub old-long : length (bytes_emptied rows p bytes) ≡ length bytes
  old-long =
      let e = end_is rows p r lt is in
      let b = behind_is rows p r lt is in
      let w = kept.within in
      search (rules, places)

  pub old_after_lem : packed (rows_emptied rows p) (bytes_emptied rows p bytes) ≡ with_files (packed rows bytes) (old_emptied (packed rows bytes) k)
  old_after_lem = packed_is rows (rows_emptied rows p) bytes (bytes_emptied rows p bytes) (old_emptied (packed rows bytes) k) old-files old-long

  pub old_held : held (old_emptied (packed rows bytes) k) + r.size ≡ total rows
  old_held =
      let s = sum_by-set (λ (f : File). length f.contents) (files_of rows bytes) k (empty_file (name_at (files_of rows bytes) k)) no_file below in
      let h = held_is rows bytes kept in
      let z = found-size rows bytes kept k p placed r is in
      omega arith

  pub old_kept : Kept (rows_emptied rows p) (bytes_emptied rows p bytes)
  old_kept =
      let l = emptied-long rows kept.numbered p r lt is in
      let m = old-long in
      let t = emptied-total rows kept.numbered p r lt is in
      let few = kept.few in
      let bounded = kept.bounded in
      let within = kept.within in
      record {
        few = omega arith;
        bounded = omega arith;
        within = omega arith;
        numbered = emptied-numbered rows kept.numbered p r lt is;
        named = subst Named (sym old-files) (named_set (files_of rows bytes) k (empty_file (name_at (files_of rows bytes) k)) refl kept.named);
        apart = subst Apart (sym old-files) (apart-set (files_of rows bytes) k (empty_file (name_at (files_of rows bytes) k)) refl kept.apart);
      }

  -- lengthened
  module _ (more : List ℕ) (room : total rows + length more ≤ length bytes) where
    longer-files : files_of (rows_lengthened rows p (length more)) (bytes_lengthened rows p bytes more) ≡ added (files_of rows bytes) k more
    longer-files =
        lengthened_files rows kept.numbered p r lt is bytes more kept.within
        ∙ (ap (λ (j : ℕ). slice_set (files_of rows bytes) j (record { name = text_of r.name; contents = take r.size (drop (start_at rows p) bytes) ++ more })) (number_is rows bytes kept k p placed r is)
        ∙ ap (λ (f : File). slice_set (files_of rows bytes) k (record { name = f.name; contents = f.contents ++ more })) (sym (found-file rows bytes kept k p placed r is)))

    pub longer-long : length (bytes_lengthened rows p bytes more) ≡ length bytes
    longer-long =
        let e = end_is rows p r lt is in
        let b = behind_is rows p r lt is in
        search (rules, places)

    pub longer_after : packed (rows_lengthened rows p (length more)) (bytes_lengthened rows p bytes more) ≡ with_files (packed rows bytes) (added (files_of rows bytes) k more)
    longer_after = packed_is rows (rows_lengthened rows p (length more)) bytes (bytes_lengthened rows p bytes more) (added (files_of rows bytes) k more) longer-files longer-long

    pub longer_kept : Kept (rows_lengthened rows p (length more)) (bytes_lengthened rows p bytes more)
    longer_kept =
        let f : File = record { name = name_at (files_of rows bytes) k; contents = contents_at (files_of rows bytes) k ++ more } in
        let l = lengthened_long rows kept.numbered p r lt is (length more) in
        let m = longer-long in
        let t = lengthened_total rows kept.numbered p r lt is (length more) in
        let few = kept.few in
        let bounded = kept.bounded in
        record {
          few = omega arith;
          bounded = omega arith;
          within = omega arith;
          numbered = lengthened_numbered rows kept.numbered p r lt is (length more);
          named = subst Named (sym longer-files) (named_set (files_of rows bytes) k f refl kept.named);
          apart = subst Apart (sym longer-files) (apart-set (files_of rows bytes) k f refl kept.apart);
        }

-- made
module _ (rows : List Row) (bytes : List ℕ) (kept : Kept rows bytes) (r : Row) (n : List ℕ) (number : r.number ≡ length rows) (name : text_of r.name ≡ n) (empty : r.size ≡ 0) where
  new-files : files_of (rows ++ r ∷ []) bytes ≡ new_made (packed rows bytes) n
  new-files = made-files rows kept.numbered r number bytes empty ∙ ap (λ (m : List ℕ). files_of rows bytes ++ empty_file m ∷ []) name

  pub new_after_lem : packed (rows ++ r ∷ []) bytes ≡ with_files (packed rows bytes) (new_made (packed rows bytes) n)
  new_after_lem = packed_is rows (rows ++ r ∷ []) bytes bytes (new_made (packed rows bytes) n) new-files refl

  pub new_kept : length rows < 8 → is_name n ≡ true → Missing (files_of rows bytes) n → Kept (rows ++ r ∷ []) bytes
  new_kept room good missing =
      let l = length_push rows r in
      let t = made-total rows kept.numbered r number empty in
      let within = kept.within in
      record {
        few = omega arith;
        bounded = kept.bounded;
        within = omega arith;
        numbered = made-numbered rows kept.numbered r number;
        named = subst Named (sym new-files) (named_push (files_of rows bytes) (empty_file n) good kept.named);
        apart = subst Apart (sym new-files) (apart_push (files_of rows bytes) (empty_file n) missing kept.apart);
      }

pub new_held : (rows : List Row) (bytes : List ℕ) (kept : Kept rows bytes) (n : List ℕ)
    → (held (new_made (packed rows bytes) n) ≡ total rows) × (length (new_made (packed rows bytes) n) ≡ length rows + 1)
new_held rows bytes kept n =
    let s = sum_by_push (λ (f : File). length f.contents) (files_of rows bytes) (empty_file n) in
    let h = held_is rows bytes kept in
    let p = length_push (files_of rows bytes) (empty_file n) in
    let l = files-length rows bytes in
    (omega arith, omega arith)
