use Rattle.std.proofs.Common.{rules}
use Rattle.printing.proofs.Sheets.{put_written}
use Rattle.printing.proofs.sheet.write_bytes.Goals as goal

pub returns : goal.returns
returns c = search (rules, put_written)
