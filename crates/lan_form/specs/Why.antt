-- Why a text is no schema, in words.
use Rattle.std.specs.Prelude.{ℕ, List, ◌++◌, codes}
use Rattle.json.specs.Print.{quoted}
use Rattle.lan_form.specs.declared.faults.FormFault.{FormFault}
use Rattle.lan_form.specs.declared.faults.FormFault.TheVariants as fault

abbrev pub why : FormFault → List ℕ
why fault.Json = codes "not JSON"
why fault.Form = codes "not a schema"
why fault.NoName = codes "empty name"
why (fault.SameName name) = codes "name " ++ (quoted name ++ codes " twice")
why (fault.UnknownType kind) = codes "unknown type " ++ quoted kind
why fault.NoFields = codes "no fields"
why fault.TooDeep = codes "over 16 layers"
why fault.TooManyLeaves = codes "over 1024 leaves"
why fault.Memory = codes "out of memory"
