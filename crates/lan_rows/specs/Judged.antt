-- What is read, or the first fault that was found.
use Rattle.std.specs.Prelude.{List, [], ◌∷◌, Option, Some, None, Result, Ok, Err}
use Rattle.serde_json.specs.Data.{Data, Items, no_items, item}
use Rattle.lan_rows.specs.declared.faults.RowFault.{RowFault}

abbrev pub Judged : Type 0 → Type 0
Judged A = Result A RowFault

-- what is there, or this fault
abbrev pub found_or : {A : Type 0} → RowFault → Option A → Judged A
found_or fault None = Err fault
found_or fault (Some a) = Ok a

abbrev pub and_then : {A B : Type 0} → Judged A → (A → Judged B) → Judged B
and_then (Ok a) f = f a
and_then (Err fault) f = Err fault

abbrev pub on_good : {A B : Type 0} → (A → B) → Judged A → Judged B
on_good f (Ok a) = Ok (f a)
on_good f (Err fault) = Err fault

-- each item in turn, up to the first fault
abbrev pub each_item : {A : Type 0} → (Data → Judged A) → Items → Judged (List A)
each_item f no_items = Ok []
each_item f (item d ds) = and_then (f d) (λ a. on_good (λ later. a ∷ later) (each_item f ds))
