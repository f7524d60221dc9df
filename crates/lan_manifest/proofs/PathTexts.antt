-- The paths of data files are texts.
use Rattle.std.proofs.Common.{◌≡◌, ℕ, ◌<◌, true, List, arith}
use Rattle.std.specs.Prelude.{IsTrue}
use Rattle.std.specs.Str.{is_utf8}
use Rattle.std.proofs.lemmas.Bool.Decides.{nat_tests}
use Rattle.std.proofs.lemmas.Str.{IsUtf8-from_ascii, is_utf8-from_IsUtf8}
use Rattle.std.proofs.lemmas.Str.Ascii.{IsAscii-from_all}
use Rattle.lan_manifest.specs.Paths.{is_path_byte, IsPath}

ascii : (b : ℕ) → is_path_byte b ≡ true → b < 128
ascii b is = grind (arith, nat_tests, is)

pub path_is_text : (path : List ℕ) → IsPath path → IsTrue (is_utf8 path)
path_is_text path is = is_utf8-from_IsUtf8 path (IsUtf8-from_ascii path (IsAscii-from_all path (λ k d below. ascii _ (is.bytes k d below))))
