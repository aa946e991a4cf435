-- A name of a file: 1 to 24 bytes, each from 33 to 126; and what it means that a name begins with some bytes.
use Rattle.std.specs.Prelude.{ℕ, Bool, ◌&&◌, List, length, take, nat_le}
use Rattle.std.specs.List.{list_all}
use Rattle.std.specs.Str.{bytes_eq}

abbrev pub graphic : ℕ → Bool
graphic b = nat_le 33 b && nat_le b 126

abbrev pub all_graphic : List ℕ → Bool
all_graphic n = list_all graphic n

abbrev pub is_name : List ℕ → Bool
is_name n = (nat_le 1 (length n) && nat_le (length n) 24) && all_graphic n

-- the front of the name that is as long as the prefix is the prefix
abbrev pub begins : List ℕ → List ℕ → Bool
begins prefix n = bytes_eq prefix (take (length prefix) n)
