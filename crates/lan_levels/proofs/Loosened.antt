-- A value that fits a field has its shape.
use Rattle.std.proofs.Common.{ℕ, refl}
use Rattle.lan_model.specs.Plain.{primitive, vector, text, bytes, list, struct, PlainField, field, PlainFields, no_fields, one_field, PlainValue, null, bits, raw, items, group, PlainValues, no_values, one_value}
use Rattle.lan_model.specs.Fits.{Fits, AllFit, EachFits}
use Rattle.lan_levels.specs.Loosened.{loosened, all_loosened}

mutual
  pub loosen : (v : PlainValue) (f : PlainField ℕ) → Fits f v → Fits (loosened f) v
  loosen null (field id name n ty) h = refl
  loosen (bits b) (field id name n (primitive p)) h = h
  loosen (bits b) (field id name n (vector p k)) h = absurd h
  loosen (bits b) (field id name n text) h = absurd h
  loosen (bits b) (field id name n bytes) h = absurd h
  loosen (bits b) (field id name n (list item)) h = absurd h
  loosen (bits b) (field id name n (struct members)) h = absurd h
  loosen (raw s) (field id name n (primitive p)) h = absurd h
  loosen (raw s) (field id name n (vector p k)) h = h
  loosen (raw s) (field id name n text) h = tt
  loosen (raw s) (field id name n bytes) h = tt
  loosen (raw s) (field id name n (list item)) h = absurd h
  loosen (raw s) (field id name n (struct members)) h = absurd h
  loosen (items vs) (field id name n (primitive p)) h = absurd h
  loosen (items vs) (field id name n (vector p k)) h = absurd h
  loosen (items vs) (field id name n text) h = absurd h
  loosen (items vs) (field id name n bytes) h = absurd h
  loosen (items vs) (field id name n (list item)) h = loosen_all vs item h
  loosen (items vs) (field id name n (struct members)) h = absurd h
  loosen (group vs) (field id name n (primitive p)) h = absurd h
  loosen (group vs) (field id name n (vector p k)) h = absurd h
  loosen (group vs) (field id name n text) h = absurd h
  loosen (group vs) (field id name n bytes) h = absurd h
  loosen (group vs) (field id name n (list item)) h = absurd h
  loosen (group vs) (field id name n (struct members)) h = loosen_each vs members h

  pub loosen_all : (vs : PlainValues) (f : PlainField ℕ) → AllFit f vs → AllFit (loosened f) vs
  loosen_all no_values f h = tt
  loosen_all (one_value v vs) f h = (loosen v f h.0, loosen_all vs f h.1)

  pub loosen_each : (vs : PlainValues) (fs : PlainFields ℕ) → EachFits fs vs → EachFits (all_loosened fs) vs
  loosen_each no_values no_fields h = tt
  loosen_each no_values (one_field f fs) h = absurd h
  loosen_each (one_value v vs) no_fields h = absurd h
  loosen_each (one_value v vs) (one_field f fs) h = (loosen v f h.0, loosen_each vs fs h.1)
