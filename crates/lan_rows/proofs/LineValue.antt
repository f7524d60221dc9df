-- What a line is as JSON, by what the reader says.
use Rattle.std.proofs.Common.{◌≡◌, ℕ, List, Bool, true, false, cond, refl}
use Rattle.std.specs.Prelude.{Option, Some, None, IsUtf8}
use Rattle.std.specs.Str.{is_utf8}
use Rattle.std.proofs.lemmas.Str.{is_utf8-from_IsUtf8, IsUtf8-from_is_utf8}
use Rattle.serde_json.specs.Data.{Data}
use Rattle.serde_json.specs.Read.{read}
use Rattle.lan_rows.specs.Values.{value_of}

pub value_some : (line : List ℕ) (d : Data) → IsUtf8 line → read line ≡ Some d → value_of line ≡ Some d
value_some line d text is = rw (is_utf8-from_IsUtf8 line text) is

none_by : (b : Bool) (o : Option Data) → (b ≡ true → o ≡ None) → cond b o None ≡ None
none_by true o h = h refl
none_by false o h = refl

pub value_none : (line : List ℕ) → (IsUtf8 line → read line ≡ None) → value_of line ≡ None
value_none line h = none_by (is_utf8 line) (read line) (λ e. h (IsUtf8-from_is_utf8 line e))
