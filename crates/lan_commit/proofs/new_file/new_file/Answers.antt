use Rattle.std.proofs.Common.{List, ap, arith, map}
use Rattle.lan_model.specs.declared.tree.Field.{Field}
use Rattle.lan_model.specs.Plain.{plain_field, plain_fields}
use Rattle.lan_levels.specs.EachLeaf.{leaf_count_of}
use Rattle.lan_schema.proofs.LawTerms.{columns_same}
use Rattle.lan_commit.proofs.LeafDepths.{all_counted}
use Rattle.lan_commit.proofs.new_file.new_file.Goals as goal

pub list_all-requires : goal.list_all-requires
list_all-requires c =
    let fields = c.args.fields.now in
    let table = (columns_same (map plain_field fields)).0 c.requires.columns in
    omega (arith, ap (λ (fs : List Field). leaf_count_of (plain_fields fs)) c.as_slice.ensures, all_counted (plain_fields fields) 0, table.leaves)
