-- The turns of a global to its end, over lines known by their serials.
use Rattle.std.proofs.Common.{◌≡◌, ℕ, zero, suc, ◌+◌, ◌-◌, ◌<◌, ◌≤◌, true, false, not, ◌&&◌, eqb, ◌⊎◌, List, [], ◌∷◌, length, is_some, Some, None, Ok, Err, Option, sym, refl, ap, ◌∙◌, subst, inl, inr, le_trans, le_refl, zero-add, arith}
use Rattle.std.proofs.lemmas.Bool.{ne_eqb, cases_lt}
use Rattle.std.specs.Str.{bytes_eq}
use Rattle.reading.specs.Read.{Read}
use Rattle.reading.specs.Commands.{said}
use Rattle.command.specs.Said.{Addresses, Action, Command, act, append_text, edit_file, quit_session, undo_change, global, Said}
use Rattle.rules.specs.Dealing.{Serials, along, Moment, Dealt, over, deal}
use Rattle.rules.specs.Doing.{Done, doing}
use Rattle.rules.specs.Globals.{one_if, sum_of, setting, Run, action_done, command_done, read_done, obeyed, turn, begun, next_turn, turns_of}
use Rattle.rules.specs.Lines.{on_line}
use Rattle.rules.specs.Turns.{Known, standing, holding, times, Turn, owners, Numbered, Course, Lost}
use Rattle.rules.proofs.Beginning.{waiting_in, waiting, idle, waiting_le, standing-split, resting, Begins, Next, next_beside, front_beside, here_beside, begun_follows}
use Rattle.rules.proofs.Following.{Beside, serials_in, Follows}
use Rattle.rules.proofs.Sums.{one-and_true, one-and_false}
use Rattle.rules.proofs.Whenever.{by_test, by_option}

abbrev pub moment : Run → Serials → Moment
moment s k = record { run = s; serials = k }

-- the commands of a turn begin no other

action_turns : (s : Run) (d : Action) (r : Read Done) → (action_done s d r).turns ≡ s.turns
action_turns s d (Err f) = refl
action_turns s d (Ok e) = refl

command-turns : (room : ℕ) (s : Run) (a : Addresses) (c : Command) → (command_done room s a c).turns ≡ s.turns
command-turns room s a (act d) = action_turns s d (doing (room - length s.out) s.world a d)
command-turns room s a append_text = refl
command-turns room s a quit_session = refl
command-turns room s a undo_change = refl
command-turns room s a (edit_file f) = refl
command-turns room s a (global c l) = refl

read-turns : (room : ℕ) (s : Run) (r : Read Said) → (read_done room s r).turns ≡ s.turns
read-turns room s (Err f) = refl
read-turns room s (Ok c) = command-turns room s c.addresses c.command

turn-turns : (room : ℕ) (cs : List (List ℕ)) (s : Run) → (turn room cs s).turns ≡ s.turns
turn-turns room [] s = refl
turn-turns room (c ∷ cs) s =
    by_test (λ (r : Run). r.turns ≡ s.turns) (is_some s.fault) s (turn room cs (obeyed room s c))
    (λ _. refl)
    (λ _. turn-turns room cs (obeyed room s c) ∙ read-turns room s (said (setting s.world true) c))

-- the turns from a run s to a run r, beginning with known lines
pub record Rest (room : ℕ) (list : List (List ℕ)) (free : ℕ) (xs : List Known) (s r : Run) : Type 0 where
  pub turns : List Turn
  pub final : List Known
  pub last : ℕ
  pub course : Course free xs turns final
  pub history : Dealt room list (moment s (serials_in free xs)) (owners turns) (moment r (serials_in last final))
  pub beside : Beside final r.world.text.lines
  pub numbered : Numbered last final
  pub counted : r.turns ≡ s.turns + length turns
  pub only : (k : ℕ) → times k (owners turns) ≤ waiting k xs
  pub each : r.fault ≡ None → (k : ℕ) → (waiting k xs ≤ times k (owners turns)) ⊎ (Lost k turns × (standing k final ≡ 0))
  pub lasts : (g : ℕ → List ℕ → ℕ) → ((m : ℕ) (t : List ℕ) → free ≤ m → g m t ≡ 0)
      → sum_of (λ x. g x.serial x.text) final ≤ sum_of (λ x. g x.serial x.text) xs

no_rest : (room : ℕ) (list : List (List ℕ)) (free : ℕ) (xs : List Known) (s : Run) → Beside xs s.world.text.lines → Numbered free xs
    → (s.fault ≡ None → waiting_in xs ≡ 0) → Rest room list free xs s s
no_rest room list free xs s g u h = record {
  turns = [];
  final = xs;
  last = free;
  course = refl;
  history = over;
  beside = g;
  numbered = u;
  counted = omega arith;
  only = λ k. omega arith;
  each = λ e k. inl (omega (arith, waiting_le k xs, h e));
  lasts = λ g _. le_refl (sum_of (λ x. g x.serial x.text) xs);
}

-- the turn of line i + 1, in front of the rest
module _ (room : ℕ) (list : List (List ℕ)) (free : ℕ) (xs : List Known) (i : ℕ) (s : Run)
    (g : Beside xs s.world.text.lines) (numbered : Numbered free xs) (b : Begins xs i)
    (f : Follows free (on_line (suc i) resting xs) (along room list (begun s (suc i)) (serials_in free xs)) (turn room list (begun s (suc i))).world.text.lines) where
  abbrev its : ℕ → ℕ
  its k = one_if (eqb k b.who.serial)

  old-serial : (k : ℕ) → k < free → (m : ℕ) → free ≤ m → eqb k m ≡ false
  old-serial k h m l = ne_eqb k m (λ e. omega arith)

  waiting_begun : (k : ℕ) → waiting k (on_line (suc i) resting xs) + its k ≡ waiting k xs
  waiting_begun k =
      let e : one_if (eqb k b.who.serial && b.who.waits) ≡ its k = rw b.waits (one-and_true (eqb k b.who.serial)) in
      omega (arith, b.weights (λ x. one_if (eqb k x.serial && x.waits)), e, one-and_false (eqb k b.who.serial))

  idle_begun : (k : ℕ) → idle k (on_line (suc i) resting xs) ≡ idle k xs + its k
  idle_begun k =
      let e : one_if (eqb k b.who.serial && not b.who.waits) ≡ 0 = rw b.waits (one-and_false (eqb k b.who.serial)) in
      omega (arith, b.weights (λ x. one_if (eqb k x.serial && not x.waits)), e, one-and_true (eqb k b.who.serial))

  waiting_after : (k : ℕ) → waiting k f.now + its k ≤ waiting k xs
  waiting_after k =
      omega (arith, f.kept (λ x. one_if (eqb k x.serial && x.waits)) (λ m _ _. one-and_false (eqb k m)), waiting_begun k)

  idle_after : (k : ℕ) → k < free → idle k f.now ≤ idle k xs + its k
  idle_after k h =
      omega (arith, f.kept (λ x. one_if (eqb k x.serial && not x.waits)) (λ m _ l. rw (old-serial k h m l)), idle_begun k)

  lasts_after : (g : ℕ → List ℕ → ℕ) → ((m : ℕ) (t : List ℕ) → free ≤ m → g m t ≡ 0)
      → sum_of (λ x. g x.serial x.text) f.now ≤ sum_of (λ x. g x.serial x.text) xs
  lasts_after g z = omega (arith, f.kept (λ x. g x.serial x.text) z, b.weights (λ x. g x.serial x.text))

  holding_after : (k : ℕ) (t : List ℕ) → k < free → holding k t f.now ≤ holding k t xs
  holding_after k t h = lasts_after (λ j u. one_if (eqb k j && bytes_eq t u)) (λ m _ l. rw (old-serial k h m l))

  fewer : waiting_in f.now < waiting_in xs
  fewer =
      let one : one_if b.who.waits ≡ 1 = ap one_if b.waits in
      omega (arith, f.kept (λ x. one_if x.waits) (λ _ _ _. refl), b.weights (λ x. one_if x.waits))

  -- a line that waited, had not this turn and does not wait now is not there any more
  gone : (k : ℕ) → its k ≡ 0 → waiting k f.now < waiting k xs → (k < free) × (1 ≤ standing k xs) × (standing k f.now ≡ 0)
  gone k z l = elim (cases_lt k free) [
    | inl h ↦ (h, omega (arith, standing-split k xs), omega (arith, numbered.0 k, standing-split k f.now, standing-split k xs, idle_after k h))
    | inr h ↦ absurd (omega (arith, standing-split k xs, numbered.1 k h))
  ]

  module _ (r : Run) (q : Rest room list f.free f.now (turn room list (begun s (suc i))) r) where
    abbrev this : Turn
    this = record { whose = b.who.serial; before = xs; after = f.now; free = f.free }

    -- and it does not come back
    gone_for_good : (k : ℕ) → k < free → standing k f.now ≡ 0 → standing k q.final ≡ 0
    gone_for_good k h z =
        omega (arith, q.lasts (λ j _. one_if (eqb k j)) (λ m _ l. ap one_if (old-serial k h m (le_trans f.more l))))

    each_then : (k : ℕ)
        → (waiting k f.now ≤ times k (owners q.turns)) ⊎ (Lost k q.turns × (standing k q.final ≡ 0))
        → (waiting k xs ≤ times k (owners (this ∷ q.turns))) ⊎ (Lost k (this ∷ q.turns) × (standing k q.final ≡ 0))
    each_then k (inr h) = inr (inr h.0, h.1)
    each_then k (inl h) = elim (cases_lt (its k + times k (owners q.turns)) (waiting k xs)) [
      | inl l ↦ let lost = gone k (omega (arith, numbered.0 k, standing-split k xs)) (omega arith) in
          inr (inl (lost.1, lost.2), gone_for_good k lost.0 lost.2)
      | inr l ↦ inl l
    ]

    dealt : s.fault ≡ None → Dealt room list (moment s (serials_in free xs)) (owners (this ∷ q.turns)) (moment r (serials_in q.last q.final))
    dealt e =
        subst (λ k. Dealt room list (moment s (serials_in free xs)) (k ∷ owners q.turns) (moment r (serials_in q.last q.final))) b.serial
        (deal i e (front_beside xs s.world.text.lines g i b) (here_beside xs s.world.text.lines g i b)
        (subst (λ k. Dealt room list (moment (turn room list (begun s (suc i))) k) (owners q.turns) (moment r (serials_in q.last q.final)))
        (sym f.known) q.history))

    one_more : s.fault ≡ None → Rest room list free xs s r
    one_more e = record {
      turns = this ∷ q.turns;
      final = q.final;
      last = q.last;
      course = (refl, b.first, holding_after, f.numbered, f.more, q.course);
      history = dealt e;
      beside = q.beside;
      numbered = q.numbered;
      counted = omega (arith, q.counted, turn-turns room list (begun s (suc i)));
      only = λ k. omega (arith, q.only k, waiting_after k);
      each = λ e k. each_then k (q.each e k);
      lasts = λ g z. le_trans (q.lasts g (λ m t l. z m t (le_trans f.more l))) (lasts_after g z);
    }

some-not_none : {A : Type 0} (o : Option A) → is_some o ≡ true → o ≡ None → ⊥
some-not_none o e z = let q : ◌≡◌ {A = ℕ} 0 1 = cc (ap is_some z) in omega arith

none_if : {A : Type 0} (o : Option A) → is_some o ≡ false → o ≡ None
none_if None e = refl
none_if (Some a) e = let q : ◌≡◌ {A = ℕ} 0 1 = cc in absurd (omega arith)

-- with fuel for each line that waits, the turns go on to the end
pub rest_of : (fuel room : ℕ) (cs : List (List ℕ)) (s : Run) (free : ℕ) (xs : List Known)
    → Beside xs s.world.text.lines → Numbered free xs → waiting_in xs ≤ fuel → Rest room cs free xs s (turns_of fuel room cs s)
rest_of zero room cs s free xs g numbered enough = no_rest room cs free xs s g numbered (λ _. omega arith)
rest_of (suc fuel) room cs s free xs g numbered enough =
    by_test (Rest room cs free xs s) (is_some s.fault) s _
    (λ e. no_rest room cs free xs s g numbered (λ z. absurd (some-not_none s.fault e z))) λ none.
    by_option (Rest room cs free xs s) (next_turn s.world.text.lines) s _
    (λ e. no_rest room cs free xs s g numbered (λ _. next_beside xs s.world.text.lines g None e)) λ n e.
    let h : Next 0 xs (Some n) = next_beside xs s.world.text.lines g (Some n) e in
    let t : Run = turn room cs (begun s (suc h.0)) in
    let f = begun_follows room cs s free xs h.0 h.2 numbered g in
    subst (λ n. Rest room cs free xs s (turns_of fuel room cs (turn room cs (begun s n)))) (sym (h.1 ∙ ap suc (zero-add h.0)))
    (one_more room cs free xs h.0 s g numbered h.2 f (turns_of fuel room cs t)
    (rest_of fuel room cs t f.free f.now f.beside f.numbered (omega (arith, fewer room cs free xs h.0 s g numbered h.2 f)))
    (none_if s.fault none))
