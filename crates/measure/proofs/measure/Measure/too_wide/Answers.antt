use Rattle.std.proofs.Common.{◌*◌}
use Rattle.measure.proofs.Spreads.{above}
use Rattle.measure.proofs.measure.Measure.too_wide.Goals as goal

pub returns : goal.returns
returns c = above 1000000000 (c.args.self.rest * c.args.height.value) c.args.self.margin c.requires
