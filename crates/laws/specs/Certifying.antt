-- What an accepted certificate is worth.
use Rattle.std.specs.Prelude.{◌≡◌, List, length}
use Rattle.refusal.specs.Refusals.{clear}
use Rattle.section.specs.Plan.{Plan, size}
use Rattle.section.specs.Reading.{brackets}
use Rattle.section.specs.declared.rows.BracketRow.{BracketRow}
use Rattle.section.specs.declared.rows.Temperature.{Temperature}
use Rattle.section.specs.declared.rows.Majorant.{Majorant}
use Rattle.certificate.specs.Certifying.{certificate_check, written}
use Rattle.certificate.specs.declared.basis.Basis.{Basis}
use Rattle.certificate.specs.declared.basis.Basis.TheVariants.{Alone, Joined}
use Rattle.laws.specs.Exact.{Bracketed}
use Rattle.laws.specs.Tightening.{Tightened}

-- alone, the brackets hold every exact solution; joined to others, they lose none that those held, and none is wider
abbrev pub Leaves : Plan → Basis → List BracketRow → List BracketRow → Type 0
Leaves p Alone before after = Bracketed p (brackets after)
Leaves p Joined before after = Tightened p before after

-- an accepted certificate, whatever was proposed
abbrev pub CertificateLaw : Type 0
CertificateLaw =
    (p : Plan) (b : Basis) (us : List Temperature) (ws : List Majorant) (bs : List BracketRow) → length bs ≡ size p → certificate_check p b us ws bs ≡ clear →
    Leaves p b bs (written p b us ws bs)
