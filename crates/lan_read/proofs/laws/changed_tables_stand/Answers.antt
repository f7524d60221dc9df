use Rattle.lan_read.proofs.ChangedTables.{add_column_stands, add_null_stands, append_stands, create_stands, drop_column_stands, restore_stands}
use Rattle.lan_read.proofs.laws.changed_tables_stand.Goals as goal

pub returns : goal.returns
returns c = record { create = create_stands; append = append_stands; restore = restore_stands; add_null = add_null_stands; add_column = add_column_stands; drop_column = drop_column_stands }
