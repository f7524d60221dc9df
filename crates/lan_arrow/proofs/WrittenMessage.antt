-- The message of the batch that is written.
use Rattle.std.proofs.Common.{◌≡◌, ℕ, ◌+◌, ◌*◌, ◌<◌, ◌≤◌, ◌^◌, List, refl, arith, lit≤}
use Rattle.std.proofs.lemmas.Nat.{from_le_bytes-to_le_bytes_8}
use Rattle.lan_arrow.specs.Flat.{two_at, four_at, eight_at, vtable_of, own_of, offset_of, one_in, two_in, four_in, eight_in, target_at}
use Rattle.lan_arrow.specs.Batches.{BatchStands, MessageStands, HasRows, IsBatch, IsMessage, rows_in, rows_from}
use Rattle.lan_arrow.specs.Deletions.{part}
use Rattle.lan_arrow.specs.Written.{head_of, body_length, schema, front, batch, node, buffers}

-- the metadata of the batch's message that is written
abbrev pub message_bytes : ℕ → List ℕ
message_bytes n = part (head_of n) 144 128

room_from : (a b n : ℕ) → a ≡ n → b ≡ 4 * n → 4 * a ≤ b
room_from a b n e f = omega arith

inside_from : (z b n : ℕ) → z ≡ 0 → b ≡ 4 * n → z + b ≤ body_length n
inside_from z b n e f = omega arith

rows_value : (n : ℕ) → n < 2 ^ 64 → eight_in (message_bytes n) 48 0 ≡ n
unfolding schema front batch node buffers two_at four_at eight_at vtable_of own_of offset_of one_in two_in four_in eight_in target_at
rows_value n h = from_le_bytes-to_le_bytes_8 n h

size_value : (n : ℕ) → 4 * n < 2 ^ 64 → eight_at (message_bytes n) 120 ≡ 4 * n
unfolding schema front batch node buffers two_at four_at eight_at vtable_of own_of offset_of one_in two_in four_in eight_in target_at
size_value n h = from_le_bytes-to_le_bytes_8 (4 * n) h

start_value : (n : ℕ) → eight_at (message_bytes n) 112 ≡ 0
unfolding schema front batch node buffers two_at four_at eight_at vtable_of own_of offset_of one_in two_in four_in eight_in target_at
start_value n = refl

has_rows : (n : ℕ) → 4 * n < 2 ^ 64 → HasRows (message_bytes n) 48 (body_length n)
unfolding schema front batch node buffers two_at four_at eight_at vtable_of own_of offset_of one_in two_in four_in eight_in target_at
has_rows n h = record {
  one = refl;
  two = refl;
  rows = refl;
  room = room_from (eight_in (message_bytes n) 48 0) (eight_at (message_bytes n) 120) n (rows_value n (omega arith)) (size_value n h);
  inside = inside_from (eight_at (message_bytes n) 112) (eight_at (message_bytes n) 120) n (start_value n) (size_value n h);
}

batch_stands : (n : ℕ) → BatchStands (message_bytes n) 48
unfolding schema front batch node buffers two_at four_at eight_at vtable_of own_of offset_of one_in two_in four_in eight_in target_at
batch_stands n = record {
  count = λ e. lit≤ tt;
  nodes = record { there = λ e. omega arith; reference = lit≤ tt; vector = record { head = lit≤ tt; elements = lit≤ tt } };
  buffers = record { there = λ e. omega arith; reference = lit≤ tt; vector = record { head = lit≤ tt; elements = lit≤ tt } };
}

is_batch : (n : ℕ) → 4 * n < 2 ^ 64 → IsBatch (message_bytes n) 48 (body_length n)
unfolding schema front batch node buffers two_at four_at eight_at vtable_of own_of offset_of one_in two_in four_in eight_in target_at
is_batch n h = record {
  plain = λ e. e refl;
  whole = λ e. e.1 refl;
  rows = has_rows n h;
}

stands : (n : ℕ) → MessageStands (message_bytes n)
unfolding schema front batch node buffers two_at four_at eight_at vtable_of own_of offset_of one_in two_in four_in eight_in target_at
stands n = record {
  long = lit≤ tt;
  root = record { head = lit≤ tt; back = λ h. lit≤ tt; sizes = lit≤ tt; vtable = lit≤ tt; body = lit≤ tt };
  kind = λ e. lit≤ tt;
  header = record { there = λ e. omega arith; reference = lit≤ tt; table = record { head = lit≤ tt; back = λ h. lit≤ tt; sizes = lit≤ tt; vtable = lit≤ tt; body = lit≤ tt } };
  batch = λ e. batch_stands n;
}

pub message_stands : (n : ℕ) → 4 * n < 2 ^ 64 → IsMessage (message_bytes n) (body_length n)
unfolding schema front batch node buffers two_at four_at eight_at vtable_of own_of offset_of one_in two_in four_in eight_in target_at
message_stands n h = record { stands = stands n; kind = refl; batch = is_batch n h }

pub message_rows : (n : ℕ) → n < 2 ^ 64 → rows_in (message_bytes n) ≡ n
unfolding schema front batch node buffers two_at four_at eight_at vtable_of own_of offset_of one_in two_in four_in eight_in target_at rows_in
message_rows n h = from_le_bytes-to_le_bytes_8 n h

pub message_from : (n : ℕ) → rows_from (message_bytes n) ≡ 0
unfolding schema front batch node buffers two_at four_at eight_at vtable_of own_of offset_of one_in two_in four_in eight_in target_at rows_from
message_from n = refl
