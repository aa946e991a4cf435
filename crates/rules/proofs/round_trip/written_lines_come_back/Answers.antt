use Rattle.rules.proofs.Returning.{lines_come_back, files_come_back, round_trip}
use Rattle.rules.proofs.round_trip.written_lines_come_back.Goals as goal

pub returns : goal.returns
returns c = record { lines = lines_come_back; files = files_come_back; trip = round_trip }
