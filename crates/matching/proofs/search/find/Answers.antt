use Rattle.matching.proofs.Rows.{clear_row}
use Rattle.matching.proofs.search.find.Goals as goal

pub first_match-requires-clause-clear : goal.first_match-requires-clause-clear
first_match-requires-clause-clear c = clear_row 256
