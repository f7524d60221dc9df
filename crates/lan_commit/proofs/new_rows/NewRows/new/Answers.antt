use Rattle.std.proofs.Common.{◌≡◌, ◌∙◌, sym, ap, length, map, replicate, [], ℕ}
use Rattle.std.proofs.lemmas.List.{length-map, length-replicate}
use Rattle.lan_model.specs.Leaves.{plain_leaf, plain_leaves}
use Rattle.lan_model.specs.Plain.{plain_field}
use Rattle.lan_commit.proofs.ShreddedRows.{no_rows_yet, shallow}
use Rattle.lan_commit.proofs.new_rows.NewRows.new.Goals as goal

pub invariant_of-result : goal.invariant_of-result
invariant_of-result c = record {
  paired = ap length c.in_ok-columns.ensures ∙ length-replicate c.len.result [] ∙ c.len.ensures;
  shallow = shallow (map plain_field c.args.fields.now) c.in_ok-leaves.leaves c.requires c.in_ok-leaves.ensures;
}

pub returns : goal.returns
returns c =
    let leaves = c.in_ok-leaves.leaves in
    let count : c.len.result ≡ length (plain_leaves leaves) = c.len.ensures ∙ sym (length-map leaves plain_leaf) in
    no_rows_yet (map plain_field c.args.fields.now) (plain_leaves leaves) c.in_ok-columns.columns c.in_ok-leaves.ensures (c.in_ok-columns.ensures ∙ ap (λ (n : ℕ). replicate n []) count)
