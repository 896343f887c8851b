use Rattle.std.proofs.Common.{◌∙◌, w64, SFits, rules}
use Rattle.std.proofs.lemmas.Int.{to_z-of_z}
use Rattle.steps.proofs.Blending.{rest-fits, blend_fits, blend_small, blend_is}
use Rattle.steps.proofs.rules.Relax.blend.Goals as goal

pub overflow_mul-k-2 : goal.overflow_mul-k-2
overflow_mul-k-2 c = rest-fits c.args.self c.args.cell c.from-d.result c.from-d.ensures

pub overflow_add-k : goal.overflow_add-k
overflow_add-k c = blend_fits c.args.self c.args.cell c.from-d.result c.from-d.ensures

pub nearest_div-requires-clause-small : goal.nearest_div-requires-clause-small
nearest_div-requires-clause-small c = blend_small c.args.self c.args.cell c.from-d.result c.from-d.ensures

pub returns : goal.returns
returns c =
    let f : SFits w64 c.nearest_div.result = search rules in
    to_z-of_z w64 c.nearest_div.result f ∙ c.nearest_div.ensures ∙ blend_is c.args.self c.args.cell c.from-d.result c.from-d.ensures
