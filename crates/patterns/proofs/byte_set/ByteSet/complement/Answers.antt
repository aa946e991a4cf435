use Rattle.std.proofs.Common.{◌≡◌, ℕ, ◌-◌, ◌^◌, ◌<◌, length, get_or, rules}
use Rattle.patterns.proofs.Words.{others_table}
use Rattle.patterns.proofs.byte_set.ByteSet.complement.Goals as goal

pub returns : goal.returns
returns c =
    let words = c.args.self.now.words in
    let long : length words ≡ 4 = search rules in
    let fit : (k : ℕ) → k < 4 → get_or words k 0 < 2 ^ 64 = λ k h. search rules in
    let each : (k : ℕ) → k < 4 → get_or c.map.result k 0 ≡ 18446744073709551615 - get_or words k 0 = λ k h. (let m = c.map.ensures.items.at k 0 0 h in search rules) in
    others_table words c.map.result long fit each
