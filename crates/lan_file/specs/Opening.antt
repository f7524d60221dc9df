-- What the steps of opening a file give of its bytes.
use Rattle.std.specs.Prelude.{◌≡◌, ℕ, List, length, drop, codes}
use Rattle.lan_file.specs.declared.opening.Opened.{Opened}
use Rattle.lan_file.specs.declared.tail.Footer.{Footer}
use Rattle.lan_file.specs.Parts.{footer_in, footer_of, IsFile, InOrder, IsSmall}

-- the last 40 bytes of a file of this version, whose tables are in order
pub record IsTail (size : ℕ) (tail : List ℕ) (f : Footer) : Type 0 where
  pub read : f ≡ footer_in tail
  pub mark : drop 36 tail ≡ codes "LANC"
  pub major : (footer_in tail).major ≡ 2
  pub minor : (footer_in tail).minor ≡ 1
  pub tables : InOrder size (footer_in tail)

-- the bytes are a file with this footer, whose tables are in order
pub record IsOpened (bytes : List ℕ) (o : Opened) : Type 0 where
  pub small : IsSmall bytes
  pub size : o.size ≡ length bytes
  pub file : IsFile bytes
  pub footer : o.footer ≡ footer_of bytes
  pub tables : InOrder (length bytes) (footer_of bytes)
