-- The sums of a site: S, and the sum over a majorant.
use Rattle.std.specs.Prelude.{ℕ, ℤ, ◌+ℤ◌, unsigned_abs}
use Rattle.section.specs.Reading.{row_bracket}
use Rattle.section.specs.declared.rows.BracketRow.{BracketRow}
use Rattle.section.specs.declared.rows.Temperature.{Temperature}
use Rattle.section.specs.declared.rows.Majorant.{Majorant}
use Rattle.stencil.specs.Sides.{map_sides}
use Rattle.stencil.specs.Stencils.{weighed_sum, weighed_sum_n}
use Rattle.walk.specs.declared.types.Site.{Site}

abbrev pub site_sum : Site Temperature → ℤ
site_sum s = s.stencil.source +ℤ weighed_sum s.stencil.arms (map_sides (λ t. t.value) s.around)

abbrev pub site_load : Site Majorant → ℕ
site_load s = weighed_sum_n s.stencil.arms (map_sides (λ w. unsigned_abs w.value) s.around)

-- S over one end of the brackets
abbrev pub site_end : (BracketRow → ℤ) → Site BracketRow → ℤ
site_end end s = s.stencil.source +ℤ weighed_sum s.stencil.arms (map_sides (λ b. end (row_bracket b)) s.around)
