use Rattle.std.proofs.Common.{◌≡◌, true, false, length, None, sym, ◌∙◌, arith}
use Rattle.walk.proofs.Walking.{read}
use Rattle.certificate.proofs.Counts.{count_none, count-some, whole-count}
use Rattle.certificate.proofs.count.count_open.Goals as goal
use Rattle.certificate.proofs.count.count_open.Goals.{in-None, in-Some+then-is_open, in-Some+else-is_open}

pub loop-index-preserved : goal.loop-index-preserved
loop-index-preserved c =
    let rows = c.args.rows.now in
    let t = c.args.tolerance.width in
    let grid = c.args.grid.now in
    let i = c.loop-index.index in
    let n = c.loop-index.«open» in
    let few = c.loop-index.invariant.few in
    let lt = c.loop-index-test.true in
    let row = read rows i c.index-rows-index.result None lt c.index-rows-index.is in
    elim c.match-row.branch [
      | in-None w ↦ rw w.open-is (record { few = omega (arith, few); so_far = λ p st. count_none p rows t grid i n st lt (c.loop-index.invariant.so_far p st) (sym row ∙ w.in-None.is) })
      | in-Some+then-is_open w ↦ rw w.open-is (record { few = omega (arith, few); so_far = λ p st. count-some p rows t grid i n st lt (c.loop-index.invariant.so_far p st) w.in-Some.field-0 true _ c.requires (sym row ∙ w.in-Some.is) w.if-is_open.ensures })
      | in-Some+else-is_open w ↦ rw w.open-is (record { few = omega (arith, few); so_far = λ p st. count-some p rows t grid i n st lt (c.loop-index.invariant.so_far p st) w.in-Some.field-0 false _ c.requires (sym row ∙ w.in-Some.is) w.if-is_open.ensures })
    ]

pub returns : goal.returns
returns c = λ p st.
    let end : length c.args.rows.now ≡ c.loop-index.index = omega (arith, c.loop-index-test.false, c.loop-index.auto.index-end) in
    whole-count p c.args.rows.now c.args.tolerance.width c.args.grid.now c.loop-index.index c.loop-index.«open» st end (c.loop-index.invariant.so_far p st)
