use Rattle.std.proofs.Common.{Some, None, sym, subst, arith}
use Rattle.walk.specs.Sites.{Keeps}
use Rattle.walk.specs.declared.types.Turn.TheVariants.{Stay, Put}
use Rattle.walk.proofs.Walking.{row_is, row-free, inside, arms_inside, fair_site, put_walkable, visit_none, visit_some, visit_stop}
use Rattle.walk.proofs.walk.once.Goals as goal
use Rattle.walk.proofs.walk.once.Goals.{in-Some+in-Stay, in-Some+in-Put, in_default}

pub look-requires-clause-around : goal.look-requires-clause-around
look-requires-clause-around g c =
    let rows = c.args.rows.now in
    let w = c.loop-index.invariant.over in
    let lt = c.loop-index-test.true in
    let q = row-free w.plan rows c.loop-index.index c.in-Some.stencil w.stands lt (row_is rows c.loop-index.index c.index-rows-index.result (Some c.in-Some.stencil) lt c.index-rows-index.is c.in-Some.is) in
    arms_inside (g.R.Rule.fair c.args.rule.now) w.plan c.loop-index.grid w.walkable c.loop-index.index c.in-Some.stencil q

pub turn-requires : goal.turn-requires
turn-requires g c =
    let rows = c.args.rows.now in
    let w = c.loop-index.invariant.over in
    let lt = c.loop-index-test.true in
    let q = row-free w.plan rows c.loop-index.index c.in-Some.stencil w.stands lt (row_is rows c.loop-index.index c.index-rows-index.result (Some c.in-Some.stencil) lt c.index-rows-index.is c.in-Some.is) in
    fair_site (g.R.Rule.fair c.args.rule.now) w.plan c.loop-index.grid w.walkable c.loop-index.index c.in-Some.stencil c.look.result q c.look.ensures

pub returns-in-Stop-clause-value : goal.returns-in-Stop-clause-value
returns-in-Stop-clause-value g c =
    let rows = c.args.rows.now in
    let lt = c.loop-index-test.true in λ p st.
    sym (visit_stop p (g.R.Rule.step c.args.rule.now p) rows st c.args.grid.now c.loop-index.grid c.loop-index.index c.loop-index.changed lt (c.loop-index.invariant.so_far p st)
    c.in-Some.stencil c.look.result c.turn.result
    (row_is rows c.loop-index.index c.index-rows-index.result (Some c.in-Some.stencil) lt c.index-rows-index.is c.in-Some.is) c.look.ensures (c.turn.ensures.value p c.loop-index.grid) c.in-Stop.is)

pub loop-index-preserved : goal.loop-index-preserved
loop-index-preserved g c =
    let rows = c.args.rows.now in
    let i = c.loop-index.index in
    let lt = c.loop-index-test.true in
    let step = g.R.Rule.step c.args.rule.now in
    let fair = g.R.Rule.fair c.args.rule.now in
    let v = c.loop-index.invariant.over in
    elim c.match-row.branch [
      | in_default w ↦ record {
        few = omega (arith, w.changed-is, c.loop-index.invariant.few);
        over = rw w.grid-is v;
        so_far = λ p st. rw (w.grid-is, w.changed-is)
            (visit_none p (step p) rows st c.args.grid.now c.loop-index.grid i c.loop-index.changed lt (c.loop-index.invariant.so_far p st)
            (row_is rows i c.index-rows-index.result None lt c.index-rows-index.is w.in_default.is));
      }
      | in-Some+in-Stay w ↦
          let e = row_is rows i c.index-rows-index.result (Some w.in-Some.stencil) lt c.index-rows-index.is w.in-Some.is in record {
            few = omega (arith, w.changed-is, c.loop-index.invariant.few);
            over = rw w.grid-is v;
            so_far = λ p st. rw (w.grid-is, w.changed-is)
                (visit_some p (step p) rows st c.args.grid.now c.loop-index.grid i c.loop-index.changed lt (c.loop-index.invariant.so_far p st)
                w.in-Some.stencil w.look.result w.turn.result e w.look.ensures (w.turn.ensures.value p c.loop-index.grid) Stay w.in-Stay.is);
          }
      | in-Some+in-Put w ↦
          let e = row_is rows i c.index-rows-index.result (Some w.in-Some.stencil) lt c.index-rows-index.is w.in-Some.is in
          let q = row-free v.plan rows i w.in-Some.stencil v.stands lt e in record {
            few = omega (arith, w.changed-is, c.loop-index.invariant.few);
            over = rw w.grid-is (record {
              plan = v.plan;
              stands = v.stands;
              walkable = put_walkable fair v.plan c.loop-index.grid v.walkable i w.in-Put.entry (inside fair v.plan c.loop-index.grid v.walkable i q.free) (subst (Keeps fair) w.in-Put.is w.turn.ensures.kept);
            });
            so_far = λ p st. rw (w.grid-is, w.changed-is)
                (visit_some p (step p) rows st c.args.grid.now c.loop-index.grid i c.loop-index.changed lt (c.loop-index.invariant.so_far p st)
                w.in-Some.stencil w.look.result w.turn.result e w.look.ensures (w.turn.ensures.value p c.loop-index.grid) (Put w.in-Put.entry) w.in-Put.is);
          }
    ]
