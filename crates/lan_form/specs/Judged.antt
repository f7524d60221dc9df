-- An answer, or the first fault.
use Rattle.std.specs.Prelude.{Result, Ok, Err, Option, Some, None}
use Rattle.lan_form.specs.declared.faults.FormFault.{FormFault}

abbrev pub Judged : Type 0 → Type 0
Judged A = Result A FormFault

abbrev pub on_good : {A B : Type 0} → (A → B) → Judged A → Judged B
on_good f (Ok a) = Ok (f a)
on_good f (Err fault) = Err fault

abbrev pub and_then : {A B : Type 0} → Judged A → (A → Judged B) → Judged B
and_then (Ok a) f = f a
and_then (Err fault) f = Err fault

abbrev pub some_or : {A : Type 0} → FormFault → Option A → Judged A
some_or fault (Some a) = Ok a
some_or fault None = Err fault
