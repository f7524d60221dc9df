-- Fields that are gathered under their parents, from the last one on.
use Rattle.std.specs.Prelude.{ℕ, List, [], reverse, ℤ, unwrap_or}
use Rattle.std.specs.Ordering.{int_cmp}
use Rattle.std.specs.BTreeMap.{BTreeMap, get}
use Rattle.lan_model.specs.declared.tree.Field.{Field}
use Rattle.lan_model.specs.Plain.{PlainFields, plain_fields}

-- the fields of a parent, which lie last first
abbrev pub siblings : BTreeMap ℤ (List Field) → ℤ → PlainFields ℕ
siblings built parent = plain_fields (reverse (unwrap_or (get int_cmp built parent) []))
