-- What a ground means: a shape and exactly as many cells as it has; the links that count, and the equations they give.
use Rattle.std.specs.Prelude.{◌≡◌, ℕ, zero, suc, ◌+◌, ◌-◌, ◌*◌, ◌%◌, ◌≤◌, Bool, true, false, cond, T, List, [], ◌∷◌, ◌++◌, map, length, ℤ, pos, ◌+ℤ◌, ◌*ℤ◌, nat_le, nat_lt, slice_index_or}
use Rattle.std.specs.List.{range_with_len}
use Rattle.std.proofs.lemmas.List.FromFn.{length-map-range_with_len}
use Rattle.section.specs.declared.types.Record.{Record}
use Rattle.section.specs.declared.types.Record.TheVariants.{Free as FreeR, Held as HeldR, Void as VoidR}

-- a cell as plain numbers: the weights of its four links, its loss weight and its heat; or its temperature; or nothing
pub data Cell : Type 0 where
  free : (north west east south loss : ℕ) (heat : ℤ) → Cell
  held : ℤ → Cell
  void : Cell

abbrev pub meant : Record → Cell
meant (FreeR c) = free c.north c.west c.east c.south c.loss c.heat
meant (HeldR h) = held h.temperature
meant VoidR = void

pub record Plan : Type 0 where
  pub wide : ℕ
  pub high : ℕ
  pub cells : List Cell
  pub full : length cells ≡ wide * high

abbrev pub size : Plan → ℕ
size p = length p.cells

-- the cell in row i and column j has index i * wide + j; past the last cell all is void
abbrev pub at : Plan → ℕ → Cell
at p i = slice_index_or p.cells i void

-- the n cells that a function of the index gives
unfoldable pub cells_of : ℕ → (ℕ → Cell) → List Cell
cells_of n f = map f (range_with_len 0 n)

pub length_cells_of : (n : ℕ) (f : ℕ → Cell) → length (cells_of n f) ≡ n
unfolding cells_of
length_cells_of n f = length-map-range_with_len f 0 n

-- the plan of a function of the index
abbrev pub plan_of : ℕ → ℕ → (ℕ → Cell) → Plan
plan_of w h f = record { wide = w; high = h; cells = cells_of (w * h) f; full = length_cells_of (w * h) f }

abbrev pub is_free : Cell → Bool
is_free (free n w e s l q) = true
is_free (held t) = false
is_free void = false

abbrev pub is_free_at : Plan → ℕ → Bool
is_free_at p i = is_free (at p i)

abbrev pub Free : Plan → ℕ → Type 0
Free p i = T (is_free_at p i)

-- how many of the first n cells pass a test
abbrev pub count_to : (ℕ → Bool) → ℕ → ℕ
count_to test zero = 0
count_to test (suc n) = cond (test n) (count_to test n + 1) (count_to test n)

abbrev pub free_count : Plan → ℕ
free_count p = count_to (is_free_at p) (size p)

abbrev pub is_solid : Cell → Bool
is_solid (free n w e s l q) = true
is_solid (held t) = true
is_solid void = false

-- Links. One of weight c toward the cell j counts if j lies on the plan and is free or held.
pub record Link : Type 0 where
  pub weight : ℕ
  pub cell : ℕ

abbrev pub link : ℕ → ℕ → Link
link c j = record { weight = c; cell = j }

abbrev pub counted : Plan → Bool → ℕ → ℕ → List Link
counted p on c j = cond on (cond (is_solid (at p j)) (link c j ∷ []) []) []

-- whether there is a cell to the north, west and east; a cell to the south of the last row would lie past the end
abbrev pub has_north : Plan → ℕ → Bool
has_north p i = nat_le p.wide i

abbrev pub has_west : Plan → ℕ → Bool
has_west p i = nat_lt 0 (i % p.wide)

abbrev pub has_east : Plan → ℕ → Bool
has_east p i = nat_lt (i % p.wide + 1) p.wide

abbrev pub links_of : Plan → ℕ → Cell → List Link
links_of p i (free n w e s l q) =
    counted p (has_north p i) n (i - p.wide) ++ (counted p (has_west p i) w (i - 1) ++ (counted p (has_east p i) e (i + 1) ++ counted p true s (i + p.wide)))
links_of p i (held t) = []
links_of p i void = []

unfoldable pub links : Plan → ℕ → List Link
links p i = links_of p i (at p i)

-- sums over links
abbrev pub weights : List Link → ℕ
weights [] = 0
weights (l ∷ ls) = l.weight + weights ls

abbrev pub dot : List Link → (ℕ → ℤ) → ℤ
dot [] f = pos 0
dot (l ∷ ls) f = pos l.weight *ℤ f l.cell +ℤ dot ls f

abbrev pub dot_n : List Link → (ℕ → ℕ) → ℕ
dot_n [] f = 0
dot_n (l ∷ ls) f = l.weight * f l.cell + dot_n ls f

abbrev pub loss_of : Cell → ℕ
loss_of (free n w e s l q) = l
loss_of (held t) = 0
loss_of void = 0

abbrev pub heat_of : Cell → ℤ
heat_of (free n w e s l q) = q
heat_of (held t) = pos 0
heat_of void = pos 0

-- d, the diagonal of the equation: the loss weight and the weights of all links that count
unfoldable pub diag : Plan → ℕ → ℕ
diag p i = loss_of (at p i) + weights (links p i)

unfoldable pub heat : Plan → ℕ → ℤ
heat p i = heat_of (at p i)

-- what a cell stands for in a sum over temperatures: its entry if it is free, its temperature if it is held
abbrev pub entry_of : Cell → ℤ → ℤ
entry_of (free n w e s l q) x = x
entry_of (held t) x = t
entry_of void x = pos 0

unfoldable pub entry : Plan → (ℕ → ℤ) → ℕ → ℤ
entry p u j = entry_of (at p j) (u j)

-- what it stands for in a sum over a majorant: a held cell is 0
abbrev pub mass_of : Cell → ℕ → ℕ
mass_of (free n w e s l q) x = x
mass_of (held t) x = 0
mass_of void x = 0

unfoldable pub mass : Plan → (ℕ → ℕ) → ℕ → ℕ
mass p w j = mass_of (at p j) (w j)

-- S: the heat and the sum of weight times entry over the links that count
unfoldable pub pull : Plan → (ℕ → ℤ) → ℕ → ℤ
pull p u i = heat p i +ℤ dot (links p i) (entry p u)

-- the same sum over a majorant, with no heat
unfoldable pub load : Plan → (ℕ → ℕ) → ℕ → ℕ
load p w i = dot_n (links p i) (mass p w)

-- a majorant of margin g: at each free cell d * w less the sum over its free neighbours is at least g
pub record IsMajorant (p : Plan) (g : ℕ) (w : ℕ → ℕ) : Type 0 where
  pub margin : (i : ℕ) → Free p i → g + load p w i ≤ diag p i * w i
