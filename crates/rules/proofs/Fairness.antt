-- The turns of a global are dealt fairly.
use Rattle.std.proofs.Common.{◌≡◌, ℕ, suc, ◌+◌, ◌≤◌, Bool, false, ◌&&◌, eqb, ◌⊎◌, List, [], ◌∷◌, map, length, None, sym, refl, ap, ◌∙◌, subst, inl, inr, zero-add, arith}
use lib.ListN.{length-map}
use Rattle.std.proofs.lemmas.Simd.{map-map}
use Rattle.std.proofs.lemmas.Bool.{ne_eqb}
use Rattle.std.specs.Str.{bytes_eq}
use Rattle.command.specs.Lists.{commands_of}
use Rattle.rules.specs.Commands.{or_refusal, globally, by_command, command_line}
use Rattle.rules.specs.Dealing.{Dealt, numbers_from, having, DealtFairly, GlobalsDealt, GlobalLinesDealt}
use Rattle.rules.specs.Doing.{texts_of}
use Rattle.rules.specs.Globals.{one_if, wanted, choice, chosen_in, start_of, run_of}
use Rattle.rules.specs.Lines.{Line, choosing}
use Rattle.rules.specs.Turns.{Known, standing, holding, times, owners, Lost, chosen_from, known_from, missed, Fair, GlobalsFair, GlobalLinesFair}
use Rattle.rules.specs.World.{World}
use Rattle.rules.proofs.Beginning.{standing-split}
use Rattle.rules.proofs.Following.{Face, known_face, line_face, Beside, serials_in}
use Rattle.rules.proofs.Starting.{start_beside, start_enough, start-serials, start-texts, start-numbered, start_waiting, start-chosen, count-turns}
use Rattle.rules.proofs.Sums.{sum-map}
use Rattle.rules.proofs.Turning.{moment, Rest, rest_of}

-- known lines and what is read off them

beside_texts : (xs : List Known) (ls : List Line) → Beside xs ls → map (λ (x : Known). x.text) xs ≡ texts_of ls
beside_texts xs ls g =
    sym (map-map (λ (f : Face). f.0) known_face xs) ∙ ap (map (λ (f : Face). f.0)) g ∙ map-map (λ (f : Face). f.0) line_face ls

having_known : (k : ℕ) (t : List ℕ) (xs : List Known) → having k t (map (λ x. x.serial) xs) (map (λ x. x.text) xs) ≡ holding k t xs
having_known k t [] = refl
having_known k t (x ∷ xs) = ap (λ n. one_if (eqb k x.serial && bytes_eq t x.text) + n) (having_known k t xs)

-- the whole

module _ (room : ℕ) (w : World) (want : ℕ → List ℕ → Bool) (list : List (List ℕ))
    (q : Rest room list (suc (length w.text.lines)) (known_from want 1 w.text.lines) (start_of w want) (run_of room w want list)) where
  abbrev lines : List Line
  lines = (run_of room w want list).world.text.lines

  abbrev chosen : List ℕ
  chosen = chosen_from want 1 w.text.lines

  abbrev had : List ℕ
  had = owners q.turns

  most : (k : ℕ) → times k chosen ≤ 1
  most k =
      omega (
        arith,
        start_waiting want k 1 w.text.lines,
        standing-split k (known_from want 1 w.text.lines),
        (start-numbered want w.text.lines).0 k,
      )

  only : (k : ℕ) → times k had ≤ times k chosen
  only k = omega (arith, q.only k, start_waiting want k 1 w.text.lines)

  each : (run_of room w want list).fault ≡ None → (k : ℕ) → 1 ≤ times k chosen → (1 ≤ times k had) ⊎ Lost k q.turns
  each e k h = elim (q.each e k) [ inl l ↦ inl (omega (arith, start_waiting want k 1 w.text.lines)) | inr l ↦ inr l.0 ]

  turns-counted : (run_of room w want list).turns ≡ length q.turns
  turns-counted = q.counted ∙ zero-add (length q.turns)

  counts : chosen_in (choice want 1 w.text.lines) ≡ (run_of room w want list).turns + missed chosen had
  counts =
      omega (
        arith,
        start-chosen want 1 w.text.lines,
        turns-counted,
        length-map q.turns (λ t. t.whose),
        count-turns chosen had most only,
      )

  fair : Fair want w.text.lines (globally room w want list)
  unfolding globally
  fair = record {
    turns = q.turns;
    final = q.final;
    course = q.course;
    ends = beside_texts q.final lines q.beside ∙ sym (map-map (λ (l : Line). l.text) (choosing false) lines);
    once = λ k. omega (arith, only k, most k);
    only = λ k h. omega (arith, only k);
    each = each;
    chosen = start-chosen want 1 w.text.lines;
    begun = turns-counted;
    sum = counts;
  }

  -- of the serials in the end

  times_known : (k : ℕ) → times k (map (λ x. x.serial) q.final) ≡ standing k q.final
  times_known k = sum-map (λ n. one_if (eqb k n)) (λ x. x.serial) q.final

  each_had : (run_of room w want list).fault ≡ None → (k : ℕ) → 1 ≤ times k chosen
      → (1 ≤ times k had) ⊎ (times k (map (λ x. x.serial) q.final) ≡ 0)
  each_had e k h = elim (q.each e k) [
    | inl l ↦ inl (omega (arith, start_waiting want k 1 w.text.lines))
    | inr l ↦ inr (times_known k ∙ l.1)
  ]

  texts_kept : (k : ℕ) (t : List ℕ) → k ≤ length w.text.lines
      → having k t (map (λ x. x.serial) q.final) (texts_of lines) ≤ having k t (numbers_from 1 w.text.lines) (texts_of w.text.lines)
  texts_kept k t h =
      rw (
        ← beside_texts q.final lines q.beside,
        ← start-serials want 1 w.text.lines,
        ← start-texts want 1 w.text.lines,
        having_known k t q.final,
        having_known k t (known_from want 1 w.text.lines),
      )
      (q.lasts (λ j u. one_if (eqb k j && bytes_eq t u)) (λ m _ l. rw (ne_eqb k m (λ e. omega arith))))

  dealt : DealtFairly room w want list (globally room w want list)
  unfolding globally
  dealt = record {
    owners = had;
    end = moment (run_of room w want list) (serials_in q.last q.final);
    history =
        subst (λ ks. Dealt room list (moment (start_of w want) (record { standing = ks; free = suc (length w.text.lines) })) had
        (moment (run_of room w want list) (serials_in q.last q.final)))
        (start-serials want 1 w.text.lines) q.history;
    world = refl;
    out = refl;
    fault = refl;
    once = λ k. omega (arith, only k, most k);
    only = λ k h. omega (arith, only k);
    each = each_had;
    chosen = start-chosen want 1 w.text.lines;
    turns = turns-counted ∙ sym (length-map q.turns (λ t. t.whose));
    sum = counts;
    every = length-map q.final (λ x. x.serial) ∙ sym (length-map q.final known_face) ∙ ap length q.beside ∙ length-map lines line_face;
    apart = λ k. omega (arith, times_known k, q.numbered.0 k);
    same = texts_kept;
  }

run_rest : (room : ℕ) (w : World) (want : ℕ → List ℕ → Bool) (list : List (List ℕ))
    → Rest room list (suc (length w.text.lines)) (known_from want 1 w.text.lines) (start_of w want) (run_of room w want list)
unfolding run_of
run_rest room w want list =
    rest_of (chosen_in (choice want 1 w.text.lines)) room list (start_of w want) (suc (length w.text.lines)) (known_from want 1 w.text.lines)
    (start_beside want 1 w.text.lines) (start-numbered want w.text.lines)
    (omega (arith, start_enough want 1 w.text.lines))

pub globals_fair : GlobalsFair
globals_fair room w want list = fair room w want list (run_rest room w want list)

pub globals_dealt : GlobalsDealt
globals_dealt room w want list = dealt room w want list (run_rest room w want list)

pub global-lines-dealt : GlobalLinesDealt
unfolding command_line
global-lines-dealt room w line a c list r e h =
    subst (λ x. DealtFairly room w (wanted c r) (commands_of list) (or_refusal w x λ s. by_command room w s.addresses s.command)) (sym e)
    (subst (λ y. DealtFairly room w (wanted c r) (commands_of list) (or_refusal w y λ r. globally room w (wanted c r) (commands_of list))) (sym h)
    (globals_dealt room w (wanted c r) (commands_of list)))

pub global-lines-fair : GlobalLinesFair
unfolding command_line
global-lines-fair room w line a c list r e h =
    subst (λ x. Fair (wanted c r) w.text.lines (or_refusal w x λ s. by_command room w s.addresses s.command)) (sym e)
    (subst (λ y. Fair (wanted c r) w.text.lines (or_refusal w y λ r. globally room w (wanted c r) (commands_of list))) (sym h)
    (globals_fair room w (wanted c r) (commands_of list)))
