use Rattle.std.proofs.Common.{◌≡◌, ◌∙◌, ap}
use Rattle.section.specs.Plan.{is_free_at, count_to, size}
use Rattle.ground.proofs.Plans.{count_range}
use Rattle.stencil.proofs.laid.LaidOut.free_cells.Goals as goal

pub returns : goal.returns
returns g c =
    let plan = g.G.Ground.plan in
    let p = plan c.args.self.now in
    let whole : c.len.result ≡ size p = c.len.ensures ∙ c.self.inside.rows.ok.0 ∙ c.self.invariant.2.stands.count ∙ ap (λ x. size (plan x)) c.self.view_is in
    c.free_among.ensures ∙ count_range (is_free_at p) _ ∙ ap (count_to (is_free_at p)) whole
