-- Why a line is no row, in words.
use Rattle.std.specs.Prelude.{ℕ, List, ◌++◌, codes}
use Rattle.json.specs.Print.{quoted}
use Rattle.lan_rows.specs.declared.faults.RowFault.{RowFault}
use Rattle.lan_rows.specs.declared.faults.RowFault.TheVariants.{Json, NotObject, NoKey, StrayKey, Kind, Range, NotNull, Count, Hex, TooLong, Memory}
use Rattle.lan_rows.specs.declared.lines.LinesFault.{LinesFault}
use Rattle.lan_rows.specs.declared.lines.LinesFault.TheVariants as lines

abbrev pub why : RowFault → List ℕ
why Json = codes "not JSON"
why NotObject = codes "not an object"
why (NoKey name) = codes "no key " ++ quoted name
why (StrayKey name) = codes "stray key " ++ quoted name
why (Kind name) = codes "wrong kind in " ++ quoted name
why (Range name) = codes "out of range in " ++ quoted name
why (NotNull name) = codes "null in " ++ quoted name
why (Count name) = codes "wrong count in " ++ quoted name
why (Hex name) = codes "bad hex in " ++ quoted name
why (TooLong name) = codes "value too long in " ++ quoted name
why Memory = codes "out of memory"

-- without the line's number
abbrev pub why_line : LinesFault → List ℕ
why_line (lines.Bad number fault) = why fault
why_line (lines.LineTooLong number) = codes "line over 67108864 bytes"
why_line lines.Memory = codes "out of memory"
