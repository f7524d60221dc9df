-- What is said fits its kind, so that it can be written.
use Rattle.std.proofs.Common.{◌≡◌, ℕ, ◌-◌, ◌^◌, ◌<◌, Bool, true, false, cond, List, [], ◌∷◌, Option, Some, None, Result, Ok, Err, refl, arith}
use Rattle.std.specs.Prelude.{nat_lt, IsTrue, pos, negsuc, map}
use Rattle.std.specs.List.{AllByRecursion}
use Rattle.std.specs.Str.{is_utf8}
use Rattle.std.proofs.lemmas.Bool.{ltb-true, ltb-false}
use Rattle.std.proofs.lemmas.Str.{IsUtf8-nil, is_utf8-from_IsUtf8}
use Rattle.std.specs.Result.{result_unwrap_or}
use Rattle.lan_bytes.specs.Placed.{Placed}
use Rattle.lan_wire.specs.declared.item.WireFault.{WireFault}
use Rattle.lan_wire.specs.declared.item.Item.{Item}
use Rattle.lan_wire.specs.Readers.{then_read, out_of_range, num_of, small_of, signed_of, text_of, placed_of, IsInt32}
use Rattle.lan_wire.specs.Values.{read_or, last_under, small_under, signed_under, text_under, signed_from, nums_under, signeds_under}

small_or : (b : Bool) (n : ℕ) (wrong : WireFault) → nat_lt n (2 ^ 32) ≡ b → result_unwrap_or (cond b (Ok n) (Err wrong)) 0 < 2 ^ 32
small_or true n wrong e = ltb-true n (2 ^ 32) e
small_or false n wrong e = omega arith

small_read : (item : Item) (r : Result ℕ WireFault) → result_unwrap_or (then_read (λ n. cond (nat_lt n (2 ^ 32)) (Ok n) (Err (out_of_range item))) r) 0 < 2 ^ 32
small_read item (Ok n) = small_or (nat_lt n (2 ^ 32)) n (out_of_range item) refl
small_read item (Err fault) = omega arith

small_last : (o : Option Item) → read_or 0 small_of o < 2 ^ 32
small_last None = omega arith
small_last (Some item) = small_read item (num_of item)

pub small_fits : (number : ℕ) (items : List Item) → small_under number items < 2 ^ 32
small_fits number items = small_last (last_under number items)

sign_or : (a b : Bool) (n : ℕ) → nat_lt n (2 ^ 31) ≡ a → nat_lt n (2 ^ 64 - 2 ^ 31) ≡ b → IsInt32 (cond a (pos n) (cond b (pos 0) (negsuc (2 ^ 64 - 1 - n))))
sign_or true b n e f = ltb-true n (2 ^ 31) e
sign_or false true n e f = omega arith
sign_or false false n e f = omega (arith, ltb-false n (2 ^ 64 - 2 ^ 31) f)

pub signed_from_fits : (n : ℕ) → IsInt32 (signed_from n)
signed_from_fits n = sign_or (nat_lt n (2 ^ 31)) (nat_lt n (2 ^ 64 - 2 ^ 31)) n refl refl

all_from : (ns : List ℕ) → AllByRecursion IsInt32 (map signed_from ns)
all_from [] = tt
all_from (n ∷ ns) = (signed_from_fits n, all_from ns)

pub signeds_fit : (number : ℕ) (items : List Item) → AllByRecursion IsInt32 (signeds_under number items)
signeds_fit number items = all_from (nums_under number items)

signed_or : (a b : Bool) (n : ℕ) (wrong : WireFault) → nat_lt n (2 ^ 31) ≡ a → nat_lt n (2 ^ 64 - 2 ^ 31) ≡ b
    → IsInt32 (result_unwrap_or (cond a (Ok (pos n)) (cond b (Err wrong) (Ok (negsuc (2 ^ 64 - 1 - n))))) (pos 0))
signed_or true b n wrong e f = ltb-true n (2 ^ 31) e
signed_or false true n wrong e f = omega arith
signed_or false false n wrong e f = omega (arith, ltb-false n (2 ^ 64 - 2 ^ 31) f)

signed_read : (item : Item) (r : Result ℕ WireFault)
    → IsInt32 (result_unwrap_or (then_read (λ n. cond (nat_lt n (2 ^ 31)) (Ok (pos n)) (cond (nat_lt n (2 ^ 64 - 2 ^ 31)) (Err (out_of_range item)) (Ok (negsuc (2 ^ 64 - 1 - n))))) r) (pos 0))
signed_read item (Ok n) = signed_or (nat_lt n (2 ^ 31)) (nat_lt n (2 ^ 64 - 2 ^ 31)) n (out_of_range item) refl refl
signed_read item (Err fault) = omega arith

signed_last : (o : Option Item) → IsInt32 (read_or (pos 0) signed_of o)
signed_last None = omega arith
signed_last (Some item) = signed_read item (num_of item)

pub signed_fits : (number : ℕ) (items : List Item) → IsInt32 (signed_under number items)
signed_fits number items = signed_last (last_under number items)

no_bytes : IsTrue (is_utf8 [])
no_bytes = is_utf8-from_IsUtf8 [] IsUtf8-nil

text_or : (b : Bool) (bytes : List ℕ) (wrong : WireFault) → is_utf8 bytes ≡ b → IsTrue (is_utf8 (result_unwrap_or (cond b (Ok bytes) (Err wrong)) []))
text_or true bytes wrong e = e
text_or false bytes wrong e = no_bytes

text_read : (wrong : WireFault) (r : Result Placed WireFault) → IsTrue (is_utf8 (result_unwrap_or (then_read (λ part. cond (is_utf8 part.bytes) (Ok part.bytes) (Err wrong)) r) []))
text_read wrong (Ok part) = text_or (is_utf8 part.bytes) part.bytes wrong refl
text_read wrong (Err fault) = no_bytes

text_last : (o : Option Item) → IsTrue (is_utf8 (read_or [] text_of o))
text_last None = no_bytes
text_last (Some item) = text_read _ (placed_of item)

pub text_fits : (number : ℕ) (items : List Item) → IsTrue (is_utf8 (text_under number items))
text_fits number items = text_last (last_under number items)
