-- The footer that is written.
use Rattle.std.proofs.Common.{◌≡◌, ℕ, ◌<◌, ◌^◌, List, refl, arith, lit≤}
use Rattle.std.proofs.lemmas.Nat.{from_le_bytes-to_le_bytes_8}
use Rattle.lan_arrow.specs.Flat.{two_at, four_at, eight_at, vtable_of, own_of, offset_of, one_in, two_in, four_in, eight_in, target_at, count_in}
use Rattle.lan_arrow.specs.Footer.{IntStands, FieldStands, SchemaStands, FooterStands, IsPlain, IsFooter, block_count, block_at}
use Rattle.lan_arrow.specs.Batches.{offset_at, head_at, body_at}
use Rattle.lan_arrow.specs.Deletions.{part}
use Rattle.lan_arrow.specs.Written.{tail_of, body_length, schema, footer, back}

-- the footer that is written
abbrev pub footer_bytes : ℕ → List ℕ
footer_bytes n = part (tail_of n) 8 156

int_stands : (n : ℕ) → IntStands (footer_bytes n) 148
unfolding schema footer back two_at four_at eight_at vtable_of own_of offset_of one_in two_in four_in eight_in target_at count_in
int_stands n = record { width = λ h. lit≤ tt; sign = λ h. lit≤ tt }

field_stands : (n : ℕ) → FieldStands (footer_bytes n) 104
unfolding schema footer back two_at four_at eight_at vtable_of own_of offset_of one_in two_in four_in eight_in target_at count_in
field_stands n = record {
  kind = λ h. lit≤ tt;
  number = record { there = λ e. omega arith; reference = lit≤ tt; table = record { head = lit≤ tt; back = λ h. lit≤ tt; sizes = lit≤ tt; vtable = lit≤ tt; body = lit≤ tt } };
  whole = λ e. int_stands n;
  children = λ e. record { there = λ e. omega arith; reference = lit≤ tt; vector = record { head = lit≤ tt; elements = lit≤ tt } };
}

schema_stands : (n : ℕ) → SchemaStands (footer_bytes n) 72
unfolding schema footer back two_at four_at eight_at vtable_of own_of offset_of one_in two_in four_in eight_in target_at count_in
schema_stands n = record {
  order = λ h. lit≤ tt;
  fields = record { there = λ e. omega arith; reference = lit≤ tt; vector = record { head = lit≤ tt; elements = lit≤ tt } };
  table = λ e. record { head = lit≤ tt; back = λ h. lit≤ tt; sizes = lit≤ tt; vtable = lit≤ tt; body = lit≤ tt };
  field = λ e. field_stands n;
}

stands : (n : ℕ) → FooterStands (footer_bytes n)
unfolding schema footer back two_at four_at eight_at vtable_of own_of offset_of one_in two_in four_in eight_in target_at count_in
stands n = record {
  long = lit≤ tt;
  root = record { head = lit≤ tt; back = λ h. lit≤ tt; sizes = lit≤ tt; vtable = lit≤ tt; body = lit≤ tt };
  schema_there = record { there = λ e. omega arith; reference = lit≤ tt; table = record { head = lit≤ tt; back = λ h. lit≤ tt; sizes = lit≤ tt; vtable = lit≤ tt; body = lit≤ tt } };
  schema = schema_stands n;
  dictionaries = λ e. absurd (e refl);
  blocks = record { there = λ e. omega arith; reference = lit≤ tt; vector = record { head = lit≤ tt; elements = lit≤ tt } };
}

plain : (n : ℕ) → IsPlain (footer_bytes n) 72
unfolding schema footer back two_at four_at eight_at vtable_of own_of offset_of one_in two_in four_in eight_in target_at count_in
plain n = record {
  order = refl;
  one = refl;
  field = record { kind = refl; width = refl; unsigned = refl; childless = refl };
}

pub footer_stands : (n : ℕ) → IsFooter (footer_bytes n)
unfolding schema footer back two_at four_at eight_at vtable_of own_of offset_of one_in two_in four_in eight_in target_at count_in
footer_stands n = record { stands = stands n; plain = plain n; dictionary = record { field = refl; file = refl } }

pub footer_count : (n : ℕ) → block_count (footer_bytes n) ≡ 1
unfolding schema footer back two_at four_at eight_at vtable_of own_of offset_of one_in two_in four_in eight_in target_at block_count
footer_count n = refl

pub footer_offset : (n : ℕ) → offset_at (footer_bytes n) 0 ≡ 136
unfolding schema footer back two_at four_at eight_at vtable_of own_of offset_of one_in two_in four_in eight_in target_at block_at offset_at
footer_offset n = refl

pub footer_head : (n : ℕ) → head_at (footer_bytes n) 0 ≡ 136
unfolding schema footer back two_at four_at eight_at vtable_of own_of offset_of one_in two_in four_in eight_in target_at block_at head_at
footer_head n = refl

pub footer_body : (n : ℕ) → body_length n < 2 ^ 64 → body_at (footer_bytes n) 0 ≡ body_length n
unfolding schema footer back two_at four_at eight_at vtable_of own_of offset_of one_in two_in four_in eight_in target_at block_at body_at
footer_body n h = from_le_bytes-to_le_bytes_8 (body_length n) h
