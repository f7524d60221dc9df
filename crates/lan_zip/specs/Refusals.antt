-- Why bytes are no slots of so many rows.
use Rattle.std.specs.Prelude.{◌≡◌, ◌≢◌, ℕ, zero, ◌<◌, List, [], Some}
use Rattle.lan_levels.specs.PlainSlots.{PlainSlot}
use Rattle.lan_levels.specs.ZipForm.{PlainForm}
use Rattle.lan_levels.specs.ZipSlots.{Read, cut, level, first_slot, Part, spelled, AreSlots, AreRows}
use Rattle.lan_zip.specs.declared.fault.ZipFault.{ZipFault}
use Rattle.lan_zip.specs.declared.fault.ZipFault.TheVariants as fault

-- a slot has to follow `n` of them: where there are list layers, bytes are left
abbrev pub OneFollows : ℕ → ℕ → ℕ → List ℕ → Type 0
OneFollows zero rows n rest = n < rows
OneFollows lists rows n rest = rest ≢ []

-- the slot after `n` of them has to follow, and is none
pub record StopsAt (f : PlainForm) (rows n : ℕ) (all : List ℕ) (read : Read) : Type 0 where
  pub front : Part
  pub is : spelled f n all ≡ Some front
  pub follows : OneFollows f.lists rows n front.rest
  pub here : first_slot f front.rest ≡ read

-- the bytes are slots, but not of so many rows
pub record OtherRows (f : PlainForm) (rows : ℕ) (all : List ℕ) : Type 0 where
  pub slots : List PlainSlot
  pub listed : 0 < f.lists
  pub are : AreSlots f slots all
  pub other : AreRows f.lists rows slots → ⊥

-- bytes follow as many slots as there are rows
pub record More (f : PlainForm) (rows : ℕ) (all : List ℕ) : Type 0 where
  pub front : Part
  pub single : f.lists ≡ 0
  pub is : spelled f rows all ≡ Some front
  pub extra : front.rest ≢ []

-- why the bytes are no slots of so many rows
abbrev pub Stands : PlainForm → ℕ → List ℕ → ZipFault → Type 0
Stands f rows all (fault.Cut n) = StopsAt f rows n all cut
Stands f rows all (fault.Level n) = StopsAt f rows n all level
Stands f rows all fault.Rows = OtherRows f rows all
Stands f rows all fault.Extra = More f rows all
