-- What a floor means: the plan of the ground that it is.
use Rattle.std.specs.Prelude.{vec_items}
use Rattle.section.specs.Plan.{Plan, plan_of}
use Rattle.ground.specs.Grounds.{slab_cell, ring_cell, listed_cell}
use Rattle.coldfloor.specs.declared.floor.Floor.{Floor}
use Rattle.coldfloor.specs.declared.floor.Floor.TheVariants.{Slab, Ring, Listed}

abbrev pub floor_plan : Floor → Plan
floor_plan (Slab s) =
    plan_of s.shape.wide s.shape.high (slab_cell s.shape.wide s.shape.high s.top.temperature s.bottom.temperature s.first.temperature s.last.temperature s.heat)
floor_plan (Ring s) =
    plan_of s.shape.wide s.shape.high (ring_cell s.shape.wide s.shape.high s.top.temperature s.bottom.temperature s.last.temperature s.q)
floor_plan (Listed s) = plan_of s.shape.wide s.shape.high (listed_cell (vec_items s.rows))
