-- What a chunk's slots are read by.
use Rattle.std.specs.Prelude.{◌≡◌, ◌+◌, ◌≤◌, length, All}
use Rattle.lan_levels.specs.Codes.{IsCode, states_of}
use Rattle.lan_levels.specs.PlainSlots.{plain_piece}
use Rattle.lan_levels.specs.Values.{flat, bools, variable}
use Rattle.lan_levels.specs.ChunkForm as chunk
use Rattle.lan_levels.specs.ChunkForm.{ChunkForm, buffered, always}
use Rattle.lan_mini.specs.declared.form.Form.{Form}
use Rattle.lan_mini.specs.declared.form.Storing.{Storing}
use Rattle.lan_mini.specs.declared.form.Storing.TheVariants as stored

abbrev pub plain_storing : Storing → chunk.Storing
plain_storing (stored.Flat width) = buffered (flat width)
plain_storing stored.Bools = buffered bools
plain_storing stored.Variable = buffered variable
plain_storing (stored.Always p) = always (plain_piece p)

abbrev pub plain_form : Form → ChunkForm
plain_form f = record { states = states_of f.codes.now; layers = f.leaf.now.layers; lists = f.lists; values = plain_storing f.values }

-- what holds of a form that was made of a shape
pub record IsForm (f : Form) : Type 0 where
  pub few : length f.codes.now ≤ 16
  pub codes : All IsCode f.codes.now
  pub lists : f.lists ≤ 16
  pub greatest : f.greatest + 1 ≡ length (states_of f.codes.now)
