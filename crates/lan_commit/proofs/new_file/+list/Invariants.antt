use Rattle.std.proofs.Common.{◌≡◌, ◌+◌, ◌++◌, drop}
use Rattle.lan_levels.specs.EachLeaf.{leaf_count_of}
use Rattle.lan_model.specs.Plain.{plain_fields}
use Rattle.lan_read.specs.Listings.{all_listings, columns_in, ids_in}
use Rattle.lan_commit.proofs.new_file.+list.Given as goal

abbrev pub invariant-list_all-loop-field : goal.invariant-list_all-loop-field
invariant-list_all-loop-field l = record {
  next : l.lists.next + leaf_count_of (plain_fields (drop l.field-index l.fields)) ≡ l.initial.lists.next + leaf_count_of (plain_fields l.fields);
  ids : l.lists.ids ++ ids_in (all_listings (plain_fields (drop l.field-index l.fields)) l.lists.next) ≡ l.initial.lists.ids ++ ids_in (all_listings (plain_fields l.fields) l.initial.lists.next);
  columns : l.lists.columns ++ columns_in (all_listings (plain_fields (drop l.field-index l.fields)) l.lists.next) ≡ l.initial.lists.columns ++ columns_in (all_listings (plain_fields l.fields) l.initial.lists.next);
}
