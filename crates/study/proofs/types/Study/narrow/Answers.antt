use Rattle.std.proofs.Common.{refl, ap, ◌∙◌}
use Rattle.section.specs.Plan.{Plan}
use Rattle.certificate.specs.Counting.{open_count}
use Rattle.study.specs.Calls.{standing}
use Rattle.study.specs.Studies.{equations_of}
use Rattle.study.proofs.types.Study.narrow.Goals as goal

pub returns-clause-study : goal.returns-clause-study
returns-clause-study g c =
    let s = c.args.self.now in
    let p : Plan = equations_of g.G.Ground.plan s in
    record {
      layer = refl;
      tolerance = refl;
      stands = ap (standing s.state) (c.count_open-self.ensures p c.rows.ensures ∙ ap (open_count p s.tolerance.width) c.tighten_laid-ran.ensures.grid);
    }
