-- A change of tags, as a closure makes it, and the change of lines that it means.
use Rattle.std.specs.Prelude.{◌≡◌, ℕ, ◌^◌, ◌<◌, List}
use Rattle.rules.specs.Lines.{Line, seen}

-- the tag r is what a change of tags makes of g: a line with it is what f makes of the line, and no undefined bit comes in
pub record Retags (f : Line → Line) (g r : ℕ) : Type 0 where
  pub seen : (t : List ℕ) → seen (record { text = t; tag = r }) ≡ f (seen (record { text = t; tag = g }))
  pub defined : g < 2 ^ 27 → r < 2 ^ 27

-- it may be asked of every tag that a line can have, and makes such a tag of it
abbrev pub ChangesTags : (ℕ → Type 0) → (ℕ → ℕ → Type 0) → Type 0
ChangesTags pre post = (g : ℕ) → g < 2 ^ 27 → pre g × ((r : ℕ) → post g r → r < 2 ^ 27)

-- a line with the tag that it makes is what f makes of the line
abbrev pub Means : (ℕ → ℕ → Type 0) → (Line → Line) → Type 0
Means post f = (g r : ℕ) → g < 2 ^ 27 → post g r → Retags f g r
