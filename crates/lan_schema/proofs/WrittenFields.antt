-- What is written of fields stands for them.
use Rattle.std.proofs.Common.{◌≡◌, ℕ, List, [], ◌∷◌, refl, ap, ◌∙◌, negsuc}
use Rattle.std.specs.Prelude.{flat_map}
use Rattle.lan_model.specs.Plain.{PlainFields}
use Rattle.lan_wire.specs.Spelling.{part_item}
use Rattle.lan_wire.specs.Written.{WrittenField, with_spellings, CanWriteAll, AreShort, about}
use Rattle.lan_schema.specs.FieldMessages.{listing}
use Rattle.lan_schema.specs.FieldTree.{all_messages}
use Rattle.lan_schema.specs.FieldsOf.{FieldsOf, fields_of}
use Rattle.lan_schema.specs.Forest.{laid}
use Rattle.lan_schema.specs.Written.{trees_of, IsWritable}
use Rattle.lan_schema.proofs.ForestLaws.{forest_again}
use Rattle.lan_schema.proofs.WrittenTrees.{written_says_before, written_messages, top_absent}
use Rattle.lan_schema.proofs.TableRules.{table_rules}
use Rattle.lan_schema.proofs.TreesAgain.{fields_again}

pub written_before : (at number : ℕ) (fields : PlainFields ℕ) (others : List WrittenField) → IsWritable number fields → about number others ≡ [] → CanWriteAll (listing number) (number ∷ []) others → AreShort others
    → FieldsOf (record { base = at; bytes = with_spellings (all_messages number (negsuc 0) fields) others }) number fields
written_before at number fields others w absent can short = record {
  flats = laid (negsuc 0) (trees_of fields);
  said = written_says_before number at fields others w.low w.up w.table.each w.told w.fits absent can short;
  rules = table_rules fields w.table w.told w.apart;
  trees = ap fields_of (forest_again (negsuc 0) (trees_of fields) (top_absent fields w.told) w.apart) ∙ fields_again fields w.told w.table.each;
}

pub written_read : (at number : ℕ) (fields : PlainFields ℕ) → IsWritable number fields → FieldsOf (record { base = at; bytes = all_messages number (negsuc 0) fields }) number fields
written_read at number fields w = written_before at number fields [] w refl tt tt

pub messages_of : (number : ℕ) (fields : PlainFields ℕ) → IsWritable number fields → (texts : List (List ℕ)) × (all_messages number (negsuc 0) fields ≡ flat_map (λ text. part_item number text) texts)
messages_of number fields w = written_messages number fields w.table.each w.told w.fits
