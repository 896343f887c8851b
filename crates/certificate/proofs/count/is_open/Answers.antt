use Rattle.std.proofs.Common.{refl}
use Rattle.section.specs.Reading.{row_bracket}
use Rattle.certificate.proofs.Counts.{width_back, tolerance-back}
use Rattle.certificate.proofs.count.is_open.Goals as goal

pub returns : goal.returns
returns c = rw (width_back c.from-bracket.result (row_bracket c.args.row) c.from-bracket.ensures, tolerance-back c.args.tolerance) refl
