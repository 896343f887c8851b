-- The worked floors: what a host does at each, and what it is told each time.
use Rattle.std.specs.Prelude.{◌≡◌, ℕ, true, false, List, [], ◌∷◌, map, ℤ, pos, neg_ℤ}
use Rattle.refusal.specs.declared.types.Level.TheVariants.{Call, Table, Walk}
use Rattle.section.specs.Plan.{Plan, plan_of}
use Rattle.section.specs.declared.rows.Row.{Row}
use Rattle.section.specs.declared.rows.Row.TheVariants.{Free}
use Rattle.ground.specs.Grounds.{slab_cell, ring_cell, listed_cell}
use Rattle.steps.specs.declared.report.Report.TheVariants.{Settled}
use Rattle.worked.specs.Desk.{Act, relax, raise, certify, tighten, pin, release, ask, ask_open_count, ask_finished, put_temperature, put_majorant, put_bracket, temperature_at, majorant_at, bracket_at, weights_at}
use Rattle.worked.specs.Desk.{Reply, counts, raised, certificate, bracket, number, said, weights, refused, done, ◌gives◌, opened, replies}

-- a floor, a tolerance, and what is done and told
pub record Case : Type 0 where
  pub floor : Plan
  pub tolerance : ℕ
  pub acts : List (Act × Reply)

abbrev case : Plan → ℕ → List (Act × Reply) → Case
case p t xs = record { floor = p; tolerance = t; acts = xs }

abbrev minus : ℕ → ℤ
minus n = neg_ℤ (pos n)

-- Slabs of this shape and heat, their sides at 0.
abbrev slab : ℕ → ℕ → ℤ → Plan
slab w h q = plan_of w h (slab_cell w h (pos 0) (pos 0) (pos 0) (pos 0) q)

-- one free cell, 4
abbrev single : ℤ → Plan
single q = slab 3 3 q

-- two free cells, 5 and 6, with heat 1
abbrev pair : Plan
pair = slab 4 3 (pos 1)

-- a ring of five columns whose middle row is free but for its last cell
abbrev ring : Plan
ring = plan_of 5 3 (ring_cell 5 3 (pos 0) (pos 0) (pos 0) (pos 1))

-- two cells that nothing holds
abbrev lost : Plan
lost = plan_of 2 1 (listed_cell (row ∷ row ∷ []))
  where
    row : Row
    row = Free (record { north = pos 1; west = pos 1; east = pos 1; south = pos 1; loss = pos 0; heat = pos 0 })

-- counts: the walks, and the cells changed in the last. certificate: rest, margin, open cells. refused: level, number, place
abbrev pub cases : List Case
cases =
    -- relaxing to 4 over 4; the second walk changes nothing
    case (single (pos 4)) 0 (relax 100 5 gives counts 2 0 ∷ temperature_at 4 gives number (pos 1) ∷ [])
    -- over-relaxing: 600 over 400, then 200 over 400, both halves upward, then 400 over 400
    ∷ case (single (pos 4)) 0
    (relax 150 1 gives counts 1 1 ∷ temperature_at 4 gives number (pos 2) ∷ relax 150 1 gives counts 1 1
    ∷ temperature_at 4 gives number (pos 1) ∷ relax 150 1 gives counts 1 0 ∷ temperature_at 4 gives number (pos 1) ∷ [])
    -- the same in one run
    ∷ case (single (pos 4)) 0 (relax 150 5 gives counts 3 0 ∷ temperature_at 4 gives number (pos 1) ∷ [])
    -- a half is 1
    ∷ case (single (pos 2)) 0 (relax 100 1 gives counts 1 1 ∷ temperature_at 4 gives number (pos 1) ∷ [])
    -- less a half is 0
    ∷ case (single (minus 2)) 0 (relax 100 1 gives counts 1 0 ∷ temperature_at 4 gives number (pos 0) ∷ [])
    -- less one and a half is -1
    ∷ case (single (minus 6)) 0 (relax 100 1 gives counts 1 1 ∷ temperature_at 4 gives number (minus 1) ∷ [])
    -- raising: 3 and 4, then 4 and 4, then no change
    ∷ case pair 0 (raise 10 9 gives raised Settled 3 0 ∷ majorant_at 5 gives number (pos 4) ∷ majorant_at 6 gives number (pos 4) ∷ [])
    -- a certificate from all 0 and a majorant 1: the spread is 1 over 3, rounded up; tightening closes both cells
    ∷ case pair 1
    (ask_open_count gives number (pos 2) ∷ put_majorant 5 (pos 1) gives done ∷ put_majorant 6 (pos 1) gives done
    ∷ certify gives certificate 1 3 2 ∷ ask 5 gives bracket (minus 1) (pos 1) ∷ ask 6 gives bracket (minus 1) (pos 1)
    ∷ ask_open_count gives number (pos 2) ∷ tighten 5 gives counts 2 0 ∷ ask 5 gives bracket (pos 0) (pos 1)
    ∷ ask 6 gives bracket (pos 0) (pos 1) ∷ ask_open_count gives number (pos 0) ∷ ask_finished gives said true ∷ [])
    -- at tolerance 0 they stay open
    ∷ case pair 0
    (put_majorant 5 (pos 1) gives done ∷ put_majorant 6 (pos 1) gives done ∷ certify gives certificate 1 3 2
    ∷ tighten 5 gives counts 2 0 ∷ ask_open_count gives number (pos 2) ∷ ask_finished gives said false ∷ [])
    -- a pin leaves one cell free and open, its release both
    ∷ case pair 1
    (pin 5 (pos 8) gives done ∷ ask_open_count gives number (pos 1) ∷ release 5 gives done ∷ ask_open_count gives number (pos 2) ∷ [])
    -- a pin undoes what was proved, and its neighbour feels it: 9 over 4, rounded up and down
    ∷ case pair 1
    (put_majorant 5 (pos 1) gives done ∷ put_majorant 6 (pos 1) gives done ∷ certify gives certificate 1 3 2
    ∷ tighten 5 gives counts 2 0 ∷ ask_finished gives said true ∷ pin 5 (pos 8) gives done ∷ ask_finished gives said false
    ∷ ask 6 gives refused Call 8 0 ∷ weights_at 6 gives weights 1 1 1 1 4 ∷ certify gives certificate 9 4 1
    ∷ ask 6 gives bracket (minus 3) (pos 3) ∷ tighten 5 gives counts 2 0 ∷ ask 6 gives bracket (pos 2) (pos 3)
    ∷ ask_finished gives said true ∷ release 5 gives done ∷ ask_finished gives said false ∷ ask_open_count gives number (pos 2) ∷ [])
    -- what pinning and releasing are refused for, in their order
    ∷ case pair 1
    (pin 12 (pos 2_000_000_000) gives refused Call 1 12 ∷ pin 0 (pos 1_000_000_001) gives refused Call 6 2
    ∷ pin 0 (pos 8) gives refused Call 2 0 ∷ pin 5 (pos 8) gives done ∷ pin 5 (pos 9) gives refused Table 3 5
    ∷ release 12 gives refused Call 1 12 ∷ release 6 gives refused Table 4 6 ∷ ask_open_count gives number (pos 1) ∷ [])
    -- the widest spread, a thousand million
    ∷ case (single (pos 4_000_000_000)) 0
    (put_majorant 4 (pos 1) gives done ∷ certify gives certificate 4_000_000_000 4 1
    ∷ ask 4 gives bracket (minus 1_000_000_000) (pos 1_000_000_000) ∷ [])
    -- one more is too wide: nothing is written, nothing proved
    ∷ case (single (pos 4_000_000_001)) 0
    (put_majorant 4 (pos 1) gives done ∷ put_bracket 4 (pos 5) (pos 6) gives done ∷ certify gives refused Call 13 4
    ∷ bracket_at 4 gives bracket (pos 5) (pos 6) ∷ ask 4 gives refused Call 8 0 ∷ [])
    -- a margin of 0
    ∷ case lost 0 (put_majorant 0 (pos 1) gives done ∷ put_majorant 1 (pos 1) gives done ∷ certify gives refused Call 12 0 ∷ [])
    -- an exact solution; then the host spoils its bracket, whose ends cross on the walk: the row stays, and is open
    ∷ case (single (pos 4)) 0
    (put_temperature 4 (pos 1) gives done ∷ put_majorant 4 (pos 1) gives done ∷ certify gives certificate 0 4 0
    ∷ ask 4 gives bracket (pos 1) (pos 1) ∷ put_bracket 4 (pos 5) (pos 6) gives done ∷ tighten 3 gives refused Walk 9 4
    ∷ bracket_at 4 gives bracket (pos 5) (pos 6) ∷ ask_open_count gives number (pos 1) ∷ [])
    -- weights grow with the radius; along the axis there is none to the west
    ∷ case ring 0 (weights_at 7 gives weights 5 4 6 5 20 ∷ weights_at 5 gives weights 1 0 2 1 4 ∷ [])
    -- what is refused before a certificate, and after one
    ∷ case (single (pos 4)) 0
    (tighten 1 gives refused Call 8 0 ∷ ask 4 gives refused Call 8 0 ∷ put_majorant 4 (pos 1) gives done
    ∷ certify gives certificate 4 4 1 ∷ ask 9 gives refused Call 1 9 ∷ ask 0 gives refused Call 2 0
    ∷ tighten 0 gives refused Call 6 1 ∷ [])
    -- 1 to 17 joins 1 to 1 and leaves it; it has nothing in common with a row that the host spoils
    ∷ case (single (pos 4)) 0
    (put_temperature 4 (pos 1) gives done ∷ put_majorant 4 (pos 1) gives done ∷ certify gives certificate 0 4 0
    ∷ put_temperature 4 (pos 9) gives done ∷ certify gives certificate 32 4 0 ∷ ask 4 gives bracket (pos 1) (pos 1)
    ∷ put_bracket 4 (pos 30) (pos 40) gives done ∷ certify gives refused Call 9 4
    ∷ bracket_at 4 gives bracket (pos 30) (pos 40) ∷ [])
    -- a majorant below 0; a temperature past its limit is refused before it
    ∷ case (single (pos 4)) 0
    (put_majorant 4 (minus 1) gives done ∷ certify gives refused Call 11 4
    ∷ put_temperature 4 (pos 1_000_000_001) gives done ∷ certify gives refused Call 10 4 ∷ [])
    ∷ []

-- what a host is told in a case, and what it is to be told
abbrev pub told_in : Case → List Reply
told_in c = replies (opened c.floor (pos c.tolerance)) c.acts

abbrev pub expected_in : Case → List Reply
expected_in c = map (λ x. x.1) c.acts

-- in every case it is told just that
abbrev pub Worked : Type 0
Worked = map told_in cases ≡ map expected_in cases
