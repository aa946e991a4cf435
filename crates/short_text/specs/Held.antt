-- The bytes that a short text holds.
use Rattle.std.specs.Prelude.{ℕ, List, take}
use Rattle.short_text.specs.declared.ShortText.{ShortText}

abbrev pub held : {N : ℕ} → ShortText N → List ℕ
held t = take t.len t.bytes
