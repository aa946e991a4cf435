-- What holds of an answer if there is one, and of what a test chooses between: a proof follows a definition step by step.
use Rattle.rules.specs.Checks.{◌>>◌, check}
use Rattle.std.proofs.Common.{◌≡◌, Bool, true, false, Some, None, Ok, Err, Option, refl}
use Rattle.command.specs.declared.fault.Fault.{Fault}
use Rattle.reading.specs.Read.{Read, ◌>>=◌}

abbrev pub Whenever : {A : Type 0} → (A → Type 0) → Read A → Type 0
Whenever P (Err f) = Unit {0}
Whenever P (Ok a) = P a

module _ {A B : Type 0} (P : B → Type 0) where
  pub whenever_then : (Q : A → Type 0) (x : Read A) (next : A → Read B) → Whenever Q x → ((a : A) → Q a → Whenever P (next a)) → Whenever P (x >>= next)
  whenever_then Q (Err f) next q h = tt
  whenever_then Q (Ok a) next q h = h a q

  pub whenever_any : (x : Read A) (next : A → Read B) → ((a : A) → Whenever P (next a)) → Whenever P (x >>= next)
  whenever_any (Err f) next h = tt
  whenever_any (Ok a) next h = h a

pub whenever_check : {B : Type 0} (P : B → Type 0) (b : Bool) (f : Fault) (next : Read B) → (b ≡ true → Whenever P next) → Whenever P (check b f >> next)
whenever_check P true f next h = h refl
whenever_check P false f next h = tt

pub by_test : {A : Type 0} (P : A → Type 0) (b : Bool) (x y : A) → (b ≡ true → P x) → (b ≡ false → P y) → P (elim b [ true ↦ x | false ↦ y ])
by_test P true x y h k = h refl
by_test P false x y h k = k refl

-- two choices by one test
pub by_one_test : {A B : Type 0} (P : A → B → Type 0) (b : Bool) (x y : A) (u v : B) → (b ≡ true → P x u) → (b ≡ false → P y v)
    → P (elim b [ true ↦ x | false ↦ y ]) (elim b [ true ↦ u | false ↦ v ])
by_one_test P true x y u v h k = h refl
by_one_test P false x y u v h k = k refl

pub by_option : {A B : Type 0} (P : B → Type 0) (o : Option A) (x : B) (y : A → B) → (o ≡ None → P x) → ((a : A) → o ≡ Some a → P (y a))
    → P (elim o [ None ↦ x | Some a ↦ y a ])
by_option P None x y h k = h refl
by_option P (Some a) x y h k = k a refl
