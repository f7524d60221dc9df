-- What a page's slots are read by.
use Rattle.std.specs.Prelude.{◌≡◌, ℕ, ◌+◌, ◌-◌, ◌*◌, ◌^◌, ◌<◌, ◌≤◌, length, All}
use Rattle.lan_levels.specs.Codes.{IsCode, states_of}
use Rattle.lan_levels.specs.ZipForm.{PlainForm}
use Rattle.lan_zip.specs.declared.form.Form.{Form}

abbrev pub plain_form : Form → PlainForm
plain_form f = record { states = states_of f.codes.now; layers = f.leaf.now.layers; lists = f.lists; bits = f.bits; word = f.word; value = f.value }

-- what holds of a form that was made of a shape
pub record IsForm (f : Form) : Type 0 where
  pub few : length f.codes.now ≤ 16
  pub codes : All IsCode f.codes.now
  pub bits : f.bits ≤ 6
  pub mask : f.mask ≡ 2 ^ f.bits - 1
  pub word : f.word ≤ 2
  pub some : 0 < f.lists → 0 < f.word
  pub below : length (states_of f.codes.now) ≤ 2 ^ f.bits
  pub room : (rep def : ℕ) → rep ≤ f.lists → def < 2 ^ f.bits → rep * 2 ^ f.bits + def < 2 ^ (8 * f.word)
