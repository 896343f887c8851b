-- Four sides make the equation of a free cell.
use Rattle.std.proofs.Common.{◌≡◌, ℕ, ◌+◌, ◌-◌, true, T, List, ◌++◌, ℤ, pos, ◌+ℤ◌, ◌*ℤ◌, sym, ap, subst, arith}
use borrow.Author.Differences.{ints}
use Rattle.section.specs.Plan.{Plan, Cell, free, at, is_free, Link, counted, has_north, has_west, has_east, links_of, links, dot, dot_n, weights, entry, mass, diag, heat, heat_of, loss_of, pull, load}
use Rattle.section.proofs.Cells.{dot-append, dot_n-append, weights-append}
use Rattle.section.specs.declared.types.FreeRecord.{FreeRecord}
use Rattle.stencil.specs.Sides.{AcrossSides}
use Rattle.stencil.specs.Stencils.{SidesOf, Equation}
use Rattle.stencil.specs.declared.types.Side.{Side}
use Rattle.stencil.specs.declared.sides.Sides.{Sides}
use Rattle.stencil.specs.declared.types.Arm.{Arm}
use Rattle.stencil.specs.declared.types.Stencil.{Stencil}

regroup :
    (q gn gw ge gs an aw ae az a b c d : ℤ) → gn +ℤ an ≡ a → gw +ℤ aw ≡ b → ge +ℤ ae ≡ c → gs +ℤ az ≡ d →
    (q +ℤ (gn +ℤ (gw +ℤ (ge +ℤ gs)))) +ℤ (an +ℤ (aw +ℤ (ae +ℤ az))) ≡ q +ℤ (a +ℤ (b +ℤ (c +ℤ d)))
regroup q gn gw ge gs an aw ae az a b c d e f g h = omega (arith, ints)

module _ (p : Plan) (i : ℕ) (own : FreeRecord) (here : free own.north own.west own.east own.south own.loss own.heat ≡ at p i) where
  abbrev to_north : List Link
  to_north = counted p (has_north p i) own.north (i - p.wide)

  abbrev to_west : List Link
  to_west = counted p (has_west p i) own.west (i - 1)

  abbrev to_east : List Link
  to_east = counted p (has_east p i) own.east (i + 1)

  abbrev to_south : List Link
  to_south = counted p true own.south (i + p.wide)

  links_are : links p i ≡ to_north ++ (to_west ++ (to_east ++ to_south))
  unfolding links
  links_are = sym (ap (links_of p i) here)

  heat_is : heat p i ≡ own.heat
  unfolding heat
  heat_is = sym (ap heat_of here)

  dot_is : (f : ℕ → ℤ) → dot (links p i) f ≡ dot to_north f +ℤ (dot to_west f +ℤ (dot to_east f +ℤ dot to_south f))
  dot_is f = rw links_are (simp dot-append)

  dot_n_is : (f : ℕ → ℕ) → dot_n (links p i) f ≡ dot_n to_north f + (dot_n to_west f + (dot_n to_east f + dot_n to_south f))
  dot_n_is f = rw links_are (simp dot_n-append)

  weights_are : weights (links p i) ≡ weights to_north + (weights to_west + (weights to_east + weights to_south))
  weights_are = rw links_are (simp weights-append)

  loss_is : loss_of (at p i) ≡ own.loss
  loss_is = sym (ap loss_of here)

  diag_is : diag p i ≡ own.loss + (weights to_north + (weights to_west + (weights to_east + weights to_south)))
  unfolding diag
  diag_is = omega (arith, weights_are, loss_is)

  module _ (f : Sides Side) (h : SidesOf p i own f) where
    pub equation_is :
        (st : Stencil) → AcrossSides (λ (g : Side) (a : Arm). a ≡ g.arm) f st.arms →
        st.diagonal ≡ own.loss + f.north.counts + f.west.counts + f.east.counts + f.south.counts →
        st.source ≡ own.heat +ℤ (f.north.given +ℤ (f.west.given +ℤ (f.east.given +ℤ f.south.given))) → Equation p i st
    unfolding pull load
    equation_is st arm ed eq = record {
      free = subst (λ (c : Cell). T (is_free c)) here tt;
      diagonal = omega (arith, ed, diag_is, h.north.counts, h.west.counts, h.east.counts, h.south.counts);
      pulls = λ u. rw (eq, arm.north, arm.west, arm.east, arm.south, heat_is, dot_is (entry p u))
          (regroup own.heat f.north.given f.west.given f.east.given f.south.given
          (pos f.north.arm.weight *ℤ u f.north.arm.cell) (pos f.west.arm.weight *ℤ u f.west.arm.cell) (pos f.east.arm.weight *ℤ u f.east.arm.cell) (pos f.south.arm.weight *ℤ u f.south.arm.cell)
          (dot to_north (entry p u)) (dot to_west (entry p u)) (dot to_east (entry p u)) (dot to_south (entry p u))
          (h.north.pulls u) (h.west.pulls u) (h.east.pulls u) (h.south.pulls u));
      loads = λ v. rw (arm.north, arm.west, arm.east, arm.south, dot_n_is (mass p v)) (omega (arith, h.north.loads v, h.west.loads v, h.east.loads v, h.south.loads v));
      reads = record {
        north = rw arm.north h.north.reads;
        west = rw arm.west h.west.reads;
        east = rw arm.east h.east.reads;
        south = rw arm.south h.south.reads;
      };
    }
