-- The plan of a list of records.
use Rattle.std.specs.Prelude.{List, slice_index_or}
use Rattle.section.specs.Plan.{Plan, plan_of, meant}
use Rattle.section.specs.declared.types.Record.{Record}
use Rattle.section.specs.declared.types.Record.TheVariants.{Void}
use Rattle.section.specs.declared.types.Shape.{Shape}

abbrev pub kept_plan : Shape → List Record → Plan
kept_plan s records = plan_of s.wide s.high (λ i. meant (slice_index_or records i Void))
