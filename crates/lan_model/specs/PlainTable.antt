-- A table and a change, as the plain trees that they stand for; the numbers of fields are left out.
use Rattle.std.specs.Prelude.{List, map}
use Rattle.lan_model.specs.declared.tree.Command.{Command as Change}
use Rattle.lan_model.specs.declared.tree.Command.TheVariants as change
use Rattle.lan_model.specs.declared.tree.Field.{Field}
use Rattle.lan_model.specs.declared.tree.Table.{Table as Stored}
use Rattle.lan_model.specs.declared.tree.Val.{Val}
use Rattle.lan_model.specs.After.{Command, create, append, delete, add_column, add_null, drop_column, restore}
use Rattle.lan_model.specs.Plain.{PlainValue, plain_field, plain_value, unnumbered}
use Rattle.lan_model.specs.Table.{Column, Table}

abbrev pub column_of : Field → Column
column_of f = unnumbered (plain_field f)

abbrev pub row_of : List Val → List PlainValue
row_of row = map plain_value row

abbrev pub table_of : Stored → Table
table_of t = record { columns = map column_of t.fields; rows = map row_of t.rows }

abbrev pub command_of : Change → Command
command_of (change.Create fields) = create (map column_of fields)
command_of (change.Append rows) = append (map row_of rows)
command_of (change.Delete positions) = delete positions
command_of (change.AddColumn f values) = add_column (column_of f) (map plain_value values)
command_of (change.AddNull f) = add_null (column_of f)
command_of (change.DropColumn name) = drop_column name
command_of (change.Restore version) = restore version
