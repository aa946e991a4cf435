-- Good names that differ stay so: where a file keeps its name, and where a file of a new name comes behind the others.
use Rattle.std.proofs.Common.{◌≡◌, ℕ, ◌<◌, ◌≤◌, true, List, [], ◌∷◌, ◌++◌, length, set, sym, ap, ◌∙◌, ⊎_elim, arith}
use Rattle.std.specs.Str.{bytes_eq}
use Rattle.std.proofs.lemmas.List.{length-set, length_push, get_or-set_same, get_or-set_other, get_or_append_left, get_or_push, set_past}
use Rattle.std.proofs.lemmas.Bool.{cases_eq, cases_lt}
use Rattle.shelf.specs.Name.{is_name}
use Rattle.shelf.specs.Shelf.{File, Named, Apart, name_at, no_file}
use Rattle.shelf.proofs.Lookup.{Missing}

module _ (fs : List File) (i : ℕ) (f : File) (same : f.name ≡ name_at fs i) where
  pub name_kept : (j : ℕ) → name_at (set fs i f) j ≡ name_at fs j
  name_kept j =
      ⊎_elim
      (λ (lt : i < length fs).
      ⊎_elim
      (λ (e : j ≡ i).
      ap (λ (m : ℕ). name_at (set fs i f) m) e ∙ (ap (λ (g : File). g.name) (get_or-set_same fs i f no_file lt) ∙ (same ∙ ap (λ (m : ℕ). name_at fs m) (sym e))))
      (λ (ne : j ≡ i → ⊥). ap (λ (g : File). g.name) (get_or-set_other fs i j f no_file ne))
      (cases_eq j i))
      (λ (le : length fs ≤ i). ap (λ (gs : List File). name_at gs j) (set_past fs i f le))
      (cases_lt i (length fs))

  pub named_set : Named fs → Named (set fs i f)
  named_set named j lt =
      let l = length-set fs i f in
      ap is_name (name_kept j) ∙ named j (omega arith)

  pub apart-set : Apart fs → Apart (set fs i f)
  apart-set apart j k h =
      let l = length-set fs i f in
      ap (λ (m : List ℕ). bytes_eq m (name_at (set fs i f) k)) (name_kept j)
      ∙ (ap (λ (m : List ℕ). bytes_eq (name_at fs j) m) (name_kept k) ∙ apart j k (h.0, omega (arith, h.1)))

module _ (fs : List File) (f : File) where
  name_before : (j : ℕ) → j < length fs → name_at (fs ++ f ∷ []) j ≡ name_at fs j
  name_before j lt = ap (λ (g : File). g.name) (get_or_append_left fs (f ∷ []) no_file j lt)

  name_last : (j : ℕ) → length fs ≡ j → name_at (fs ++ f ∷ []) j ≡ f.name
  name_last j e = ap (λ (g : File). g.name) (get_or_push fs f no_file j e)

  pub named_push : is_name f.name ≡ true → Named fs → Named (fs ++ f ∷ [])
  named_push good named j lt =
      let l = length_push fs f in
      ⊎_elim
      (λ (h : j < length fs). ap is_name (name_before j h) ∙ named j h)
      (λ (h : length fs ≤ j). ap is_name (name_last j (omega arith)) ∙ good)
      (cases_lt j (length fs))

  pub apart_push : Missing fs f.name → Apart fs → Apart (fs ++ f ∷ [])
  apart_push missing apart i j h =
      let l = length_push fs f in
      let lt = h.0 in
      let lj = h.1 in
      let before : name_at (fs ++ f ∷ []) i ≡ name_at fs i = name_before i (omega arith) in
      ⊎_elim
      (λ (q : j < length fs).
      ap (λ (m : List ℕ). bytes_eq m (name_at (fs ++ f ∷ []) j)) before ∙ (ap (λ (m : List ℕ). bytes_eq (name_at fs i) m) (name_before j q) ∙ apart i j (lt, q)))
      (λ (q : length fs ≤ j).
      ap (λ (m : List ℕ). bytes_eq m (name_at (fs ++ f ∷ []) j)) before ∙ (ap (λ (m : List ℕ). bytes_eq (name_at fs i) m) (name_last j (omega arith)) ∙ missing i (omega arith)))
      (cases_lt j (length fs))
