-- What is said of all four sides of a cell.
use Rattle.stencil.specs.declared.sides.Sides.{Sides}

-- a fact on each side
pub record OnSides {T : Type 0} (P : T → Type 0) (s : Sides T) : Type 0 where
  pub north : P s.north
  pub west : P s.west
  pub east : P s.east
  pub south : P s.south

-- on each side, a relation of what lies there in one and in the other
pub record AcrossSides {T U : Type 0} (R : T → U → Type 0) (s : Sides T) (t : Sides U) : Type 0 where
  pub north : R s.north t.north
  pub west : R s.west t.west
  pub east : R s.east t.east
  pub south : R s.south t.south

-- a function at each side
abbrev pub map_sides : {T U : Type 0} → (T → U) → Sides T → Sides U
map_sides f s = record { north = f s.north; west = f s.west; east = f s.east; south = f s.south }
