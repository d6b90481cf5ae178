use Rattle.fee_schedule.proofs.Lines.{fee_reads_back, other_fees_stay}
use Rattle.fee_schedule.proofs.fees_stand_in_their_lines.Goals as goal

pub returns : goal.returns
returns c = record { fee_reads_back = fee_reads_back; other_fees_stay = other_fees_stay }
