-- The slots of rows can stand in a page.
use Rattle.std.specs.Prelude.{ℕ, List, All}
use Rattle.lan_model.specs.Plain.{PlainFields, PlainValues}
use Rattle.lan_model.specs.Fits.{EachFits}
use Rattle.lan_model.specs.Leaves.{leaves_from}
use Rattle.lan_model.specs.Room.{AllHaveRoom}
use Rattle.lan_levels.specs.SlotsOf.{rows_slots}
use Rattle.lan_levels.specs.ZipForm.{leaf_form}
use Rattle.lan_levels.specs.ZipWritten.{CanStand}

-- in each leaf of fields, the slots of rows that fit these fields can stand in a page
abbrev pub RowsCanStand : Type 0
RowsCanStand =
    (fields : PlainFields ℕ) (rows : List PlainValues) → All (EachFits fields) rows → All AllHaveRoom rows
    → All (λ leaf. All (CanStand (leaf_form leaf)) (rows_slots leaf rows)) (leaves_from fields 0)
