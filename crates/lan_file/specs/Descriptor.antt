-- The descriptor of a data file, which is its global buffer 0.
use Rattle.std.specs.Prelude.{ℕ, List, [], ◌∷◌, negsuc}
use Rattle.lan_bytes.specs.Placed.{Placed}
use Rattle.lan_wire.specs.Messages.{ReadsValue}
use Rattle.lan_wire.specs.Rules.{open_to}
use Rattle.lan_wire.specs.Values.{num_under}
use Rattle.lan_wire.specs.Written.{WrittenField, num, part, spelling_of}
use Rattle.lan_model.specs.Plain.{PlainFields}
use Rattle.lan_schema.specs.FieldTree.{all_messages}
use Rattle.lan_file.specs.declared.descriptor.TheConstants.{FILE_DESCRIPTOR}

-- the bytes are a FileDescriptor that states so many rows; its schema is read past
abbrev pub StatesRows : Placed → ℕ → Type 0
StatesRows message rows = ReadsValue (open_to FILE_DESCRIPTOR) (num_under 2) message rows

-- the schema of the fields, and how many rows there are
abbrev pub descriptor_written : PlainFields ℕ → ℕ → List WrittenField
descriptor_written fields rows = (1, part (all_messages 1 (negsuc 0) fields)) ∷ (2, num rows) ∷ []

-- the writer's one spelling of a descriptor
abbrev pub descriptor_text : PlainFields ℕ → ℕ → List ℕ
descriptor_text fields rows = spelling_of (descriptor_written fields rows)
