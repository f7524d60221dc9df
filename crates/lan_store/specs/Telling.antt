-- What a store tells of itself.
use Rattle.std.specs.Prelude.{ℕ, List, Option, None}
use Rattle.lan_store.specs.declared.name.Name.{Name}
use Rattle.lan_store.specs.declared.name.Object.{Object}

-- its objects in the order of their puts, and the name that the last failed call was handed, where it tells them; how often it
-- has failed; how many ranges were asked of it, and how many bytes; and how often a name to be put was held
pub record Telling : Type 0 where
  pub objects : Option (List Object)
  pub failed : Option Name
  pub faults : ℕ
  pub gets : ℕ
  pub got : ℕ
  pub clashes : ℕ

-- before the first call
abbrev pub at_first : Option (List Object) → Telling
at_first objects = record { objects = objects; failed = None; faults = 0; gets = 0; got = 0; clashes = 0 }
