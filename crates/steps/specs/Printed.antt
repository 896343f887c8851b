-- What is printed of how raising ended.
use Rattle.std.specs.Prelude.{ℕ, List, ◌++◌, codes}
use Rattle.std.specs.Fmt.{decimal}
use Rattle.steps.specs.declared.report.Report.{Report}
use Rattle.steps.specs.declared.report.Report.TheVariants.{Settled, Moving, NoneAt}

abbrev pub report_text : Report → List ℕ
report_text Settled = codes "settled"
report_text Moving = codes "moving"
report_text (NoneAt i) = codes "none at " ++ decimal i
