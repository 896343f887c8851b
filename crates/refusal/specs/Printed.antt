-- What is printed of a refusal, and of where it arose.
use Rattle.std.specs.Prelude.{ℕ, List, ◌++◌, codes}
use Rattle.std.specs.Fmt.{decimal}
use Rattle.refusal.specs.declared.types.Refusal.{Refusal}
use Rattle.refusal.specs.declared.types.Level.{Level}
use Rattle.refusal.specs.declared.types.Level.TheVariants.{Call, Table, Walk}
use Rattle.refusal.specs.Refusals.{fault_of, cause_of}

abbrev pub level_text : Level → List ℕ
level_text Call = codes "call"
level_text Table = codes "table"
level_text Walk = codes "walk"

abbrev pub refusal_text : Refusal → List ℕ
refusal_text e =
    codes "refused " ++ decimal (fault_of e).number
    ++ codes " at " ++ decimal (fault_of e).place
    ++ codes ", level " ++ level_text (fault_of e).level
    ++ codes ": " ++ cause_of e
