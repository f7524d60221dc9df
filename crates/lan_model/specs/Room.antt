-- Values whose lengths can be written in four bytes.
use Rattle.std.specs.Prelude.{◌^◌, ◌<◌, ⊤, length}
use Rattle.lan_model.specs.Plain.{PlainValue, null, bits, raw, items, group, PlainValues, no_values, one_value}

abbrev mutual
  -- no text and no bytes inside are as long as 2^32
  pub HasRoom : PlainValue → Type 0
  HasRoom null = ⊤
  HasRoom (bits b) = ⊤
  HasRoom (raw s) = length s < 2 ^ 32
  HasRoom (items vs) = AllHaveRoom vs
  HasRoom (group vs) = AllHaveRoom vs

  pub AllHaveRoom : PlainValues → Type 0
  AllHaveRoom no_values = ⊤
  AllHaveRoom (one_value v vs) = HasRoom v × AllHaveRoom vs
