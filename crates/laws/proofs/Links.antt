-- What the links of a cell lead to.
use Rattle.std.proofs.Common.{◌≡◌, ℕ, ◌+◌, ◌-◌, Bool, true, false, cond, T, ◌⊎◌, [], ◌∷◌, ℤ, sym, refl, subst, inl, inr}
use Rattle.std.specs.List.{AllByRecursion as All}
use Rattle.std.proofs.ByRecursion.{All-append, All-weaker}
use Rattle.section.specs.Plan.{Plan, Cell, free, held, void, at, is_free, is_solid, Free, Link, link, counted, has_north, has_west, has_east, links_of, links}

abbrev Solid : Plan → Link → Type 0
Solid p l = T (is_solid (at p l.cell))

counted_solid : (p : Plan) (on : Bool) (c j : ℕ) → All (Solid p) (counted p on c j)
counted_solid p false c j = tt
counted_solid p true c j = by (is_solid (at p j)) refl
  where
    by : (b : Bool) → is_solid (at p j) ≡ b → All (Solid p) (cond b (link c j ∷ []) [])
    by true e = (subst T (sym e) tt, tt)
    by false e = tt

links_solid : (p : Plan) (i : ℕ) → All (Solid p) (links p i)
unfolding links
links_solid p i = by (at p i)
  where
    by : (k : Cell) → All (Solid p) (links_of p i k)
    by (free n w e s l q) =
        All-append (Solid p) _ _ (counted_solid p (has_north p i) n (i - p.wide))
        (All-append (Solid p) _ _ (counted_solid p (has_west p i) w (i - 1))
        (All-append (Solid p) _ _ (counted_solid p (has_east p i) e (i + 1)) (counted_solid p true s (i + p.wide))))
    by (held t) = tt
    by void = tt

free_or_held : (p : Plan) (j : ℕ) → T (is_solid (at p j)) → Free p j ⊎ ((t : ℤ) × (at p j ≡ held t))
free_or_held p j on = by (at p j) refl on
  where
    by : (k : Cell) → at p j ≡ k → T (is_solid k) → T (is_free (at p j)) ⊎ ((t : ℤ) × (at p j ≡ held t))
    by (free n w e s l q) is o = inl (subst (λ (x : Cell). T (is_free x)) (sym is) tt)
    by (held t) is o = inr (t, is)
    by void is o = absurd o

-- what holds of every free cell and of every held one holds at every link
pub at-links :
    (p : Plan) (P : ℕ → Type 0) → ((j : ℕ) → Free p j → P j) → ((j : ℕ) (t : ℤ) → at p j ≡ held t → P j) →
    (i : ℕ) → All (λ l. P l.cell) (links p i)
at-links p P of-free of-held i = All-weaker (Solid p) (λ l. P l.cell) here (links p i) (links_solid p i)
  where
    here : (l : Link) → Solid p l → P l.cell
    here l on = elim (free_or_held p l.cell on) [ inl f ↦ of-free l.cell f | inr h ↦ of-held l.cell h.0 h.1 ]
